-- Outer nodes of the whole build are in the window as they were before the frame, but right below a node of the region.
use Rattle.std.proofs.Common.{◌≡◌, ◌⊎◌, ℕ, Bool, true, false, ◌&&◌, ◌||◌, List, sym, ap, ◌∙◌, subst, inl, inr}
use Rattle.std.proofs.lemmas.Bool.{cases_Bool, or_left, true≢false}
use Rattle.fx_handles.specs.declared.Handle.{Handle}
use Rattle.node_tree.specs.Forest.{Forest}
use Rattle.node_tree.specs.Forest.Forest.{none, tree}
use Rattle.node_tree.specs.Tree.{Tree}
use Rattle.tree_marks.specs.Marking.{Above, within}
use Rattle.tree_marks.specs.Marks.{listed, some_climbs, has_listed, sweep}
use Rattle.work_roles.specs.Place.{RegionPlace, below}
use Rattle.work_sets.specs.Region.{Judge, is_reached, is_inside}
use Rattle.layout_walk.specs.Rules.{is_list}
use Rattle.layout_walk.specs.Node.{LayoutNode}
use Rattle.layout_rules.specs.Nodes.{layout_node, layout_nodes}
use Rattle.render_tree.specs.Marks.{layout_marks}
use Rattle.render_tree.specs.Object.{RenderObject, object_look}
use Rattle.render_tree.specs.Plain.{renders_of}
use Rattle.build_walk.specs.Changing.{render_over}
use Rattle.counted_phases.specs.Framed.{IsAsBefore, OuterAsBefore, AreKept}
use Rattle.counted_phases.specs.Lists.{IsShownAsBefore, ShownAsBefore}
use Rattle.counted_phases.specs.Outer.{UnlessList, IsOuter, AreOuter, OuterFlagsInside}
use Rattle.layout_owner.specs.Undue.{AreUndue}
use Rattle.kept_phases.specs.Lists.{scrolled_as}
use Rattle.counted_phases.proofs.Undue.{unless_go}

module _ (judge : Judge) (old : Tree RenderObject) (hs cs : List Handle) (scrolls : Handle → ℕ) where
  -- the first phase's nodes with their marks, and those that a flush left, with theirs, where Viewports are put back
  abbrev marked : Above → Forest RenderObject → Forest RenderObject
  marked a f = sweep layout_marks true hs a f

  abbrev put : Above → Forest RenderObject → Forest RenderObject
  put a g = scrolled_as scrolls (sweep layout_marks true cs a g)

  abbrev marked_object : Above → Handle → RenderObject → Forest RenderObject → RenderObject
  marked_object a h o kids =
      layout_marks.marked ((listed h hs || some_climbs layout_marks hs (within layout_marks a o) kids) && true) (has_listed hs kids || (true && listed h hs)) o

  -- below what is in the region
  pub all_shown : (above : Bool) (p : RegionPlace) (w : Forest RenderObject) → above ≡ true → ShownAsBefore judge old above p w
  all_shown above p none every = tt
  all_shown above p (tree j x beneath others) every = (
    (λ off. absurd (true≢false (sym every ∙ off))),
    keep (is_list (object_look x))
        (all_shown (is_inside judge above p (render_over x beneath)) (below p (object_look x)) beneath (or_left above (judge.is_firm p (render_over x beneath) && is_reached judge p (render_over x beneath)) every)),
    all_shown above p others every,
  )
    where
      keep : (list : Bool) → ShownAsBefore judge old (is_inside judge above p (render_over x beneath)) (below p (object_look x)) beneath
          → UnlessList list (ShownAsBefore judge old (is_inside judge above p (render_over x beneath)) (below p (object_look x)) beneath)
      keep true s = tt
      keep false s = s

  -- one node: it was there, the flush left it in the window or out of it, and so it is of the whole build's
  one_shown : (o v x : RenderObject) (beneath : Forest RenderObject) → IsAsBefore old o → v.shown ≡ o.shown → x.shown ≡ v.shown → IsOuter o (render_over x beneath) → IsShownAsBefore old x
  one_shown o v x beneath before_now flushed kept outer h o0 at number = kept ∙ (flushed ∙ (before_now h o0 at (number ∙ sym outer.number)).0)

  three : (list : Bool) (A B C D E : Type 0) → UnlessList list A → UnlessList list B → UnlessList list C → UnlessList list D → (A → B → C → D → E) → UnlessList list E
  three true A B C D E a b c d go = tt
  three false A B C D E a b c d go = go a b c d

  -- where the flush changed nothing
  still_shown : (above : Bool) (p : RegionPlace) (a b : Above) (f g w : Forest RenderObject) → layout_nodes g ≡ layout_nodes (marked a f) → OuterAsBefore old f → AreKept (put b g) w → AreOuter f (renders_of w) → AreOuter g (renders_of w)
      → ShownAsBefore judge old above p w
  still_shown above p a b f g none e before_now kept outer_f outer_g = tt
  still_shown above p a b f none (tree j x beneath others) e before_now kept outer_f outer_g = absurd kept
  still_shown above p a b none (tree k v under rest) (tree j x beneath others) e before_now kept outer_f outer_g = absurd outer_f
  still_shown above p a b (tree h o kids more) (tree k v under rest) (tree j x beneath others) e before_now kept outer_f outer_g =
      let parts = tree_parts e in
      let inside : Bool = is_inside judge above p (render_over x beneath) in (
        (λ off. one_shown o v x beneath before_now.0 (ap (λ (n : LayoutNode). n.shown) parts.0) kept.0.shown outer_f.0),
        three (is_list (object_look x)) (OuterAsBefore old kids) (AreKept (put (within layout_marks b v) under) beneath) (AreOuter kids (renders_of beneath)) (AreOuter under (renders_of beneath))
            (ShownAsBefore judge old inside (below p (object_look x)) beneath)
            (subst (λ l. UnlessList (is_list l) (OuterAsBefore old kids)) outer_f.0.look before_now.1)
            (subst (λ l. UnlessList (is_list l) (AreKept (put (within layout_marks b v) under) beneath)) outer_g.0.look kept.1)
            (subst (λ l. UnlessList (is_list l) (AreOuter kids (renders_of beneath))) outer_f.0.look outer_f.1)
            (subst (λ l. UnlessList (is_list l) (AreOuter under (renders_of beneath))) outer_g.0.look outer_g.1)
            (λ y z c d. still_shown inside (below p (object_look x)) (within layout_marks a o) (within layout_marks b v) kids under beneath parts.1 y z c d),
        still_shown above p a b more rest others parts.2 before_now.2 kept.2 outer_f.2 outer_g.2,
      )
    where
      tree_parts : layout_nodes (tree k v under rest) ≡ layout_nodes (marked a (tree h o kids more))
          → (layout_node v ≡ layout_node (marked_object a h o kids)) × (layout_nodes under ≡ layout_nodes (marked (within layout_marks a o) kids)) × (layout_nodes rest ≡ layout_nodes (marked a more))
      tree_parts e = (cc, cc, cc)

  pub shown_before : (above : Bool) (p : RegionPlace) (a b : Above) (f g w : Forest RenderObject) → AreUndue (layout_nodes (marked a f)) (layout_nodes g) → OuterAsBefore old f → AreKept (put b g) w → AreOuter f (renders_of w)
      → AreOuter g (renders_of w) → OuterFlagsInside judge above p (marked a f) (renders_of w) → ShownAsBefore judge old above p w
  shown_before above p a b f g none undue before_now kept outer_f outer_g flags = tt
  shown_before above p a b f none (tree j x beneath others) undue before_now kept outer_f outer_g flags = absurd kept
  shown_before above p a b none (tree k v under rest) (tree j x beneath others) undue before_now kept outer_f outer_g flags = absurd outer_f
  shown_before above p a b (tree h o kids more) (tree k v under rest) (tree j x beneath others) undue before_now kept outer_f outer_g flags = (
    (λ off. one_shown o v x beneath before_now.0 undue.1 kept.0.shown outer_f.0),
    by_case (λ u y z c d l. shown_before (is_inside judge above p (render_over x beneath)) (below p (object_look x)) (within layout_marks a o) (within layout_marks b v) kids under beneath u y z c d l)
        (cases_Bool o.shown) (cases_Bool (marked_object a h o kids).needs_layout),
    shown_before above p a b more rest others undue.4 before_now.2 kept.2 outer_f.2 outer_g.2 flags.1,
  )
    where
      inside : Bool
      inside = is_inside judge above p (render_over x beneath)

      Goal : Type 0
      Goal = ShownAsBefore judge old inside (below p (object_look x)) beneath

      was : UnlessList (is_list (object_look x)) (OuterAsBefore old kids)
      was = subst (λ l. UnlessList (is_list l) (OuterAsBefore old kids)) outer_f.0.look before_now.1

      kept_below : UnlessList (is_list (object_look x)) (AreKept (put (within layout_marks b v) under) beneath)
      kept_below = subst (λ l. UnlessList (is_list l) (AreKept (put (within layout_marks b v) under) beneath)) outer_g.0.look kept.1

      outer_kids : UnlessList (is_list (object_look x)) (AreOuter kids (renders_of beneath))
      outer_kids = subst (λ l. UnlessList (is_list l) (AreOuter kids (renders_of beneath))) outer_f.0.look outer_f.1

      outer_under : UnlessList (is_list (object_look x)) (AreOuter under (renders_of beneath))
      outer_under = subst (λ l. UnlessList (is_list l) (AreOuter under (renders_of beneath))) outer_g.0.look outer_g.1

      four : (list : Bool) (A B C D E F : Type 0) → UnlessList list A → UnlessList list B → UnlessList list C → UnlessList list D → UnlessList list E → (A → B → C → D → E → F) → UnlessList list F
      four true A B C D E F a b c d e go = tt
      four false A B C D E F a b c d e go = go a b c d e

      by_case : (AreUndue (layout_nodes (marked (within layout_marks a o) kids)) (layout_nodes under) → OuterAsBefore old kids → AreKept (put (within layout_marks b v) under) beneath → AreOuter kids (renders_of beneath)
          → AreOuter under (renders_of beneath) → OuterFlagsInside judge inside (below p (object_look x)) (marked (within layout_marks a o) kids) (renders_of beneath) → Goal)
          → (o.shown ≡ true) ⊎ (o.shown ≡ false) → ((marked_object a h o kids).needs_layout ≡ true) ⊎ ((marked_object a h o kids).needs_layout ≡ false) → UnlessList (is_list (object_look x)) Goal
      by_case go (inl shown) (inl flag) = unless_go (is_list (object_look x)) (OuterAsBefore old kids) Goal was (λ y. all_shown inside (below p (object_look x)) beneath ((flags.0 shown).0 flag))
      by_case go (inl shown) (inr clear) =
          four (is_list (object_look x)) (OuterAsBefore old kids) (AreKept (put (within layout_marks b v) under) beneath) (AreOuter kids (renders_of beneath)) (AreOuter under (renders_of beneath))
          (OuterFlagsInside judge inside (below p (object_look x)) (marked (within layout_marks a o) kids) (renders_of beneath)) Goal was kept_below outer_kids outer_under
          (subst (λ l. UnlessList (is_list l) (OuterFlagsInside judge inside (below p l) (marked (within layout_marks a o) kids) (renders_of beneath))) outer_f.0.look (flags.0 shown).1)
          (λ y z c d l. go (undue.3 shown clear).2 y z c d l)
      by_case go (inr gone) flag =
          three (is_list (object_look x)) (OuterAsBefore old kids) (AreKept (put (within layout_marks b v) under) beneath) (AreOuter kids (renders_of beneath)) (AreOuter under (renders_of beneath)) Goal was kept_below outer_kids outer_under
          (λ y z c d. still_shown inside (below p (object_look x)) (within layout_marks a o) (within layout_marks b v) kids under beneath (undue.2 gone).1 y z c d)
