-- What an outer flush leaves: flags in the region, bounds outside it, and Viewports that it corrects in it.
use Rattle.std.proofs.Common.{◌≡◌, ℕ, Bool, true, false, not, ◌&&◌, ◌||◌, Option, Some, None, option_map, List, refl, sym, ap, ◌∙◌, subst, ◌⊎◌, inl, inr}
use Rattle.std.proofs.lemmas.Bool.{cases_Bool, and_parts, or_parts, or_left, false≢true, true≢false}
use Rattle.fx_geom.specs.Bounds.{tight}
use Rattle.fx_geom.specs.declared.boxes.Bounds.{Bounds}
use Rattle.fx_geom.specs.declared.shapes.Size.{Size}
use Rattle.fx_handles.specs.declared.Handle.{Handle}
use Rattle.node_tree.specs.Forest.{Forest}
use Rattle.node_tree.specs.Forest.Forest.{none, tree}
use Rattle.sliver_layout.specs.declared.protocol.SliverBounds.{SliverBounds}
use Rattle.widget_model.specs.Look.{Look}
use Rattle.plain_tree.specs.declared.laid.Frame.{Frame}
use Rattle.plain_tree.specs.declared.laid.Frame.TheVariants.{Boxed, Sliver}
use Rattle.plain_tree.specs.Render.{Render, Renders, no_renders, more_renders}
use Rattle.tree_marks.specs.Marking.{Above, is_boundary, within}
use Rattle.tree_marks.specs.Marks.{listed, some_climbs, has_listed, sweep}
use Rattle.work_roles.specs.Place.{RegionPlace, at_root, below, is_relayout_boundary}
use Rattle.work_sets.specs.Before.{Before, bounds_in as laid_bounds}
use Rattle.work_sets.specs.InTree.{Standing, standing, number_of, look_of, children_of}
use Rattle.work_sets.specs.Layout.{is_firm_in, frame_judge}
use Rattle.work_sets.specs.Region.{Judge, is_reached, is_inside, reaches_out}
use Rattle.layout_form.specs.declared.asks.Ask.{Ask}
use Rattle.layout_form.specs.declared.asks.Ask.TheVariants.{AsBox, AsSliver}
use Rattle.layout_walk.specs.Node.{LayoutNode, ask_in}
use Rattle.layout_walk.specs.Rules.{is_list}
use Rattle.layout_walk.specs.Walk.{HeldOr}
use Rattle.layout_rules.specs.Nodes.{layout_node, layout_nodes}
use Rattle.render_tree.specs.Marks.{layout_marks, ends_in}
use Rattle.render_tree.specs.Object.{RenderObject, bounds_in, object_look}
use Rattle.counted_work.specs.Inside.{marks_above}
use Rattle.counted_phases.specs.Outer.{UnlessList, ListOr, IsOuter, AreOuter, OuterFlagsInside, RootOuterInside, OuterListedInside, OuterFirmEnds}
use Rattle.layout_owner.specs.Undue.{AreUndue, RootUndue, RootAsked}
use Rattle.kept_phases.specs.Lists.{AreScrolledOtherwise, scrolled_as}
use Rattle.layout_owner.specs.Roots.{IsAskedAs}
use Rattle.counted_phases.specs.Framed.{OuterHaveFrames}
use Rattle.counted_phases.proofs.Inside.{root_in_other_view}

-- ---- where all is in the region

pub unless_go : (list : Bool) (X Y : Type 0) → UnlessList list X → (X → Y) → UnlessList list Y
unless_go true X Y x go = tt
unless_go false X Y x go = go x

pub three_unless : (list : Bool) (A B C D : Type 0) → UnlessList list A → UnlessList list B → UnlessList list C → (A → B → C → D) → UnlessList list D
three_unless true A B C D a b c go = tt
three_unless false A B C D a b c go = go a b c

pub four_unless : (list : Bool) (A B C D E : Type 0) → UnlessList list A → UnlessList list B → UnlessList list C → UnlessList list D → (A → B → C → D → E) → UnlessList list E
four_unless true A B C D E a b c d go = tt
four_unless false A B C D E a b c d go = go a b c d

pub list_or : (list : Bool) (A I X : Type 0) → UnlessList list A → I → (A → X) → ListOr list I X
list_or true A I X a i go = i
list_or false A I X a i go = go a

-- the same node of the whole build
same_look : (r : Render) (o w : RenderObject) → IsOuter o r → IsOuter w r → object_look w ≡ object_look o
same_look r o w a b = b.look ∙ sym a.look

module _ (judge : Judge) where
  pub all_flags : (above : Bool) (p : RegionPlace) (g : Forest RenderObject) (rs : Renders) → above ≡ true → AreOuter g rs → OuterFlagsInside judge above p g rs
  all_flags above p none rs all outer = tt
  all_flags above p (tree k w below_w rest) no_renders all outer = absurd outer
  all_flags above p (tree k w below_w rest) (more_renders r rs) all outer =
      let inside : is_inside judge above p r ≡ true = or_left above (judge.is_firm p r && is_reached judge p r) all in (
        (λ shown. (
          (λ flag. inside),
          unless_go (is_list (object_look w)) (AreOuter below_w (children_of r)) (OuterFlagsInside judge (is_inside judge above p r) (below p (object_look w)) below_w (children_of r)) outer.1
              (λ x. all_flags (is_inside judge above p r) (below p (object_look w)) below_w (children_of r) inside x),
        )),
        all_flags above p rest rs all outer.2,
      )

  pub all_firm : (above : Bool) (p : RegionPlace) (g : Forest RenderObject) (rs : Renders) → above ≡ true → AreOuter g rs → OuterFirmEnds judge above p g rs
  all_firm above p none rs all outer = tt
  all_firm above p (tree k w below_w rest) no_renders all outer = absurd outer
  all_firm above p (tree k w below_w rest) (more_renders r rs) all outer =
      let inside : is_inside judge above p r ≡ true = or_left above (judge.is_firm p r && is_reached judge p r) all in (
        (λ off firm. absurd (true≢false (sym all ∙ off))),
        unless_go (is_list (object_look w)) (AreOuter below_w (children_of r)) (OuterFirmEnds judge (is_inside judge above p r) (below p (object_look w)) below_w (children_of r)) outer.1
            (λ x. all_firm (is_inside judge above p r) (below p (object_look w)) below_w (children_of r) inside x),
        all_firm above p rest rs all outer.2,
      )

  -- ---- flags

  -- the flags below a node, by whether it had to be laid out
  pub undue_flags : (above : Bool) (p : RegionPlace) (f g : Forest RenderObject) (rs : Renders) → AreUndue (layout_nodes f) (layout_nodes g) → AreOuter f rs → AreOuter g rs → OuterFlagsInside judge above p f rs
      → OuterFlagsInside judge above p g rs
  undue_flags above p f none rs undue outer_f outer flags = tt
  undue_flags above p none (tree k w below_w rest) rs undue outer_f outer flags = absurd undue
  undue_flags above p (tree h o kids more) (tree k w below_w rest) no_renders undue outer_f outer flags = absurd outer
  undue_flags above p (tree h o kids more) (tree k w below_w rest) (more_renders r rs) undue outer_f outer flags = (
    (λ shown.
        let was : o.shown ≡ true = sym undue.1 ∙ shown in
        elim (cases_Bool o.needs_layout) [
          | inl flag ↦
              let all : inside ≡ true = (flags.0 was).0 flag in (
                (λ now. all),
                unless_go (is_list (object_look w)) (AreOuter below_w (children_of r)) (OuterFlagsInside judge inside (below p (object_look w)) below_w (children_of r)) outer.1
                    (λ x. all_flags inside (below p (object_look w)) below_w (children_of r) all x),
              )
          | inr clear ↦
              let calm = undue.3 was clear in (
                (λ now. absurd (true≢false (sym now ∙ calm.0))),
                subst (λ (l : Look). UnlessList (is_list l) (OuterFlagsInside judge inside (below p l) below_w (children_of r))) (sym same)
                    (three_unless (is_list (object_look o)) (AreOuter kids (children_of r)) (AreOuter below_w (children_of r)) (OuterFlagsInside judge inside (below p (object_look o)) kids (children_of r))
                    (OuterFlagsInside judge inside (below p (object_look o)) below_w (children_of r)) outer_f.1
                    (subst (λ (l : Look). UnlessList (is_list l) (AreOuter below_w (children_of r))) same outer.1) (flags.0 was).1
                    (λ a b c. undue_flags inside (below p (object_look o)) kids below_w (children_of r) calm.2 a b c)),
              )
        ]),
    undue_flags above p more rest rs undue.4 outer_f.2 outer.2 flags.1,
  )
    where
      inside : Bool
      inside = is_inside judge above p r

      same : object_look w ≡ object_look o
      same = same_look r o w outer_f.0 outer.0

-- ---- boundaries

-- a firm boundary in the bounds that its number had is one for marks
firm_ends : (fr : Option Frame) (x : Option Standing) (p : RegionPlace) (look : Look) → is_firm_in (laid_bounds fr) x p look ≡ true → (not p.below_intrinsic && ends_in (bounds_in fr) p.top p.below_offstage look) ≡ true
firm_ends None x p look e = absurd (false≢true e)
firm_ends (Some (Sliver bounds geometry)) x p look e = absurd (false≢true e)
firm_ends (Some (Boxed bounds size)) None p look e = absurd (false≢true e)
firm_ends (Some (Boxed bounds size)) (Some was) p look e = (and_parts (is_relayout_boundary was.place (look_of was.node) bounds) (is_relayout_boundary p look bounds) e).1

-- frames that hold the same ask have the same bounds
abbrev ask_bounds : Option Ask → Option Bounds
ask_bounds None = None
ask_bounds (Some (AsBox b)) = Some b
ask_bounds (Some (AsSliver b)) = None

bounds_asked : (fr : Option Frame) → bounds_in fr ≡ ask_bounds (option_map ask_in fr)
bounds_asked None = refl
bounds_asked (Some (Boxed b size)) = refl
bounds_asked (Some (Sliver b geometry)) = refl

module _ (before : Before) where
  abbrev now : Judge
  now = frame_judge before

  -- a node that is asked as its number was
  asked_firm : (p : RegionPlace) (w : RenderObject) (r : Render) → IsOuter w r → option_map ask_in w.frame ≡ option_map ask_in (before.frames (number_of r)) → now.is_firm p r ≡ true
      → is_boundary layout_marks (marks_above p) w ≡ true
  asked_firm p w r outer same firm =
      (λ i. not p.below_intrinsic && ends_in (bounds i) p.top p.below_offstage (outer.look i))
      ∙ firm_ends (before.frames (number_of r)) (standing before.tree (number_of r)) p (look_of r) firm
    where
      bounds : bounds_in w.frame ≡ bounds_in (before.frames (number_of r))
      bounds = bounds_asked w.frame ∙ (ap ask_bounds same ∙ sym (bounds_asked (before.frames (number_of r))))

  -- nodes that stay as they are
  pub framed_firm : (above : Bool) (p : RegionPlace) (g : Forest RenderObject) (rs : Renders) → AreOuter g rs → OuterHaveFrames before.frames g → OuterFirmEnds now above p g rs
  framed_firm above p none rs outer framed = tt
  framed_firm above p (tree k w below_w rest) no_renders outer framed = absurd outer
  framed_firm above p (tree k w below_w rest) (more_renders r rs) outer framed = (
    (λ off firm. asked_firm p w r outer.0 (ap (λ fr. option_map ask_in fr) (framed.0 ∙ ap before.frames outer.0.number)) firm),
    two (is_list (object_look w)) (AreOuter below_w (children_of r)) (OuterHaveFrames before.frames below_w) (OuterFirmEnds now (is_inside now above p r) (below p (object_look w)) below_w (children_of r)) outer.1 framed.1
        (λ a b. framed_firm (is_inside now above p r) (below p (object_look w)) below_w (children_of r) a b),
    framed_firm above p rest rs outer.2 framed.2,
  )
    where
      two : (list : Bool) (A B C : Type 0) → UnlessList list A → UnlessList list B → (A → B → C) → UnlessList list C
      two true A B C a b go = tt
      two false A B C a b go = go a b

  -- what a layout sees is the same, and so are the frames
  same_framed : (f g : Forest RenderObject) → layout_nodes g ≡ layout_nodes f → OuterHaveFrames before.frames f → OuterHaveFrames before.frames g
  same_framed f none e framed = tt
  same_framed none (tree k w below_w rest) e framed = absurd (none_tree e)
    where
      none_tree : tree k (layout_node w) (layout_nodes below_w) (layout_nodes rest) ≡ none → ⊥
      none_tree e = cc
  same_framed (tree h v kids more) (tree k w below_w rest) e framed =
      let parts = tree_parts e in
      let look : object_look w ≡ object_look v = ap (λ (x : LayoutNode). x.look) parts.0 in (
        ap (λ (x : LayoutNode). x.frame) parts.0 ∙ (framed.0 ∙ ap (λ (x : LayoutNode). before.frames x.number) (sym parts.0)),
        subst (λ (l : Look). UnlessList (is_list l) (OuterHaveFrames before.frames below_w)) (sym look)
            (unless_go (is_list (object_look v)) (OuterHaveFrames before.frames kids) (OuterHaveFrames before.frames below_w) framed.1 (λ x. same_framed kids below_w parts.1 x)),
        same_framed more rest parts.2 framed.2,
      )
    where
      tree_parts : tree k (layout_node w) (layout_nodes below_w) (layout_nodes rest) ≡ tree h (layout_node v) (layout_nodes kids) (layout_nodes more)
          → (layout_node w ≡ layout_node v) × (layout_nodes below_w ≡ layout_nodes kids) × (layout_nodes rest ≡ layout_nodes more)
      tree_parts e = (cc, cc, cc)

  pub undue_firm : (above : Bool) (p : RegionPlace) (f g : Forest RenderObject) (rs : Renders) → AreUndue (layout_nodes f) (layout_nodes g) → AreOuter f rs → AreOuter g rs → OuterHaveFrames before.frames f
      → OuterFlagsInside now above p f rs → OuterFirmEnds now above p g rs
  undue_firm above p f none rs undue outer_f outer framed flags = tt
  undue_firm above p none (tree k w below_w rest) rs undue outer_f outer framed flags = absurd undue
  undue_firm above p (tree h o kids more) (tree k w below_w rest) no_renders undue outer_f outer framed flags = absurd outer
  undue_firm above p (tree h o kids more) (tree k w below_w rest) (more_renders r rs) undue outer_f outer framed flags = (
    (λ off firm. asked_firm p w r outer.0 (undue.0 ∙ ap (λ fr. option_map ask_in fr) (framed.0 ∙ ap before.frames outer_f.0.number)) firm),
    by_shown (λ u a b c d. undue_firm (is_inside now above p r) (below p (object_look o)) kids below_w (children_of r) u a b c d) (cases_Bool o.shown) (cases_Bool o.needs_layout),
    undue_firm above p more rest rs undue.4 outer_f.2 outer.2 framed.2 flags.1,
  )
    where
      inside : Bool
      inside = is_inside now above p r

      same : object_look w ≡ object_look o
      same = same_look r o w outer_f.0 outer.0

      Goal : Type 0
      Goal = UnlessList (is_list (object_look w)) (OuterFirmEnds now inside (below p (object_look w)) below_w (children_of r))

      two : (list : Bool) (A B C : Type 0) → UnlessList list A → UnlessList list B → (A → B → C) → UnlessList list C
      two true A B C a b go = tt
      two false A B C a b go = go a b

      Rec : Type 0
      Rec = AreUndue (layout_nodes kids) (layout_nodes below_w) → AreOuter kids (children_of r) → AreOuter below_w (children_of r) → OuterHaveFrames before.frames kids
          → OuterFlagsInside now inside (below p (object_look o)) kids (children_of r) → OuterFirmEnds now inside (below p (object_look o)) below_w (children_of r)

      by_shown : Rec → (o.shown ≡ true) ⊎ (o.shown ≡ false) → (o.needs_layout ≡ true) ⊎ (o.needs_layout ≡ false) → Goal
      by_shown go (inl was) (inl flag) =
          unless_go (is_list (object_look w)) (AreOuter below_w (children_of r)) (OuterFirmEnds now inside (below p (object_look w)) below_w (children_of r)) outer.1
          (λ x. all_firm now inside (below p (object_look w)) below_w (children_of r) ((flags.0 was).0 flag) x)
      by_shown go (inl was) (inr clear) =
          subst (λ (l : Look). UnlessList (is_list l) (OuterFirmEnds now inside (below p l) below_w (children_of r))) (sym same)
          (four_unless (is_list (object_look o)) (AreOuter kids (children_of r)) (AreOuter below_w (children_of r)) (OuterHaveFrames before.frames kids) (OuterFlagsInside now inside (below p (object_look o)) kids (children_of r))
          (OuterFirmEnds now inside (below p (object_look o)) below_w (children_of r)) outer_f.1
          (subst (λ (l : Look). UnlessList (is_list l) (AreOuter below_w (children_of r))) same outer.1) framed.1 (flags.0 was).1
          (λ a b c d. go (undue.3 was clear).2 a b c d))
      by_shown go (inr gone) flag =
          two (is_list (object_look w)) (AreOuter below_w (children_of r)) (OuterHaveFrames before.frames below_w) (OuterFirmEnds now inside (below p (object_look w)) below_w (children_of r)) outer.1
          (subst (λ (l : Look). UnlessList (is_list l) (OuterHaveFrames before.frames below_w)) (sym same)
          (unless_go (is_list (object_look o)) (OuterHaveFrames before.frames kids) (OuterHaveFrames before.frames below_w) framed.1 (λ x. same_framed kids below_w (undue.2 gone).1 x)))
          (λ a b. framed_firm inside (below p (object_look w)) below_w (children_of r) a b)

  -- ---- the root's tree

  module _ (view : Size) (h k : Handle) (o w : RenderObject) (kids below_w : Forest RenderObject) (top : Render) (undue : RootUndue view (layout_nodes (tree h o kids none)) (layout_nodes (tree k w below_w none)))
      (outer_f : AreOuter (tree h o kids none) (more_renders top no_renders)) (outer : AreOuter (tree k w below_w none) (more_renders top no_renders))
      (asks : before.same_view ≡ true → IsAskedAs view (tree h o kids none)) (flags : RootOuterInside now (tree h o kids none) top) where
    abbrev all : Bool
    all = is_inside now (reaches_out now at_root top) at_root top

    root_same : object_look w ≡ object_look o
    root_same = same_look top o w outer_f.0 outer.0

    -- the root had to be laid out or was asked otherwise, and all is in the region; or it stays
    pub root_case : (all ≡ true) ⊎ ((w.needs_layout ≡ false) × (w.scroll ≡ o.scroll) × AreUndue (layout_nodes kids) (layout_nodes below_w))
    root_case = by (cases_Bool o.needs_layout) (cases_Bool before.same_view)
      where
        by : (o.needs_layout ≡ true) ⊎ (o.needs_layout ≡ false) → (before.same_view ≡ true) ⊎ (before.same_view ≡ false) → (all ≡ true) ⊎ ((w.needs_layout ≡ false) × (w.scroll ≡ o.scroll) × AreUndue (layout_nodes kids) (layout_nodes below_w))
        by (inl flag) view_is = inl (flags.0 flag)
        by (inr clear) (inr other) = inl (root_in_other_view before top other)
        by (inr clear) (inl same) = inr (undue clear (asks same clear))

    pub root_undue_flags : RootOuterInside now (tree k w below_w none) top
    root_undue_flags = by root_case
      where
        by : (all ≡ true) ⊎ ((w.needs_layout ≡ false) × (w.scroll ≡ o.scroll) × AreUndue (layout_nodes kids) (layout_nodes below_w)) → RootOuterInside now (tree k w below_w none) top
        by (inl e) = (
          (λ flag. e),
          unless_go (is_list (object_look w)) (AreOuter below_w (children_of top)) (OuterFlagsInside now all (below at_root (object_look w)) below_w (children_of top)) outer.1
              (λ x. all_flags now all (below at_root (object_look w)) below_w (children_of top) e x),
        )
        by (inr calm) = (
          (λ flag. absurd (true≢false (sym flag ∙ calm.0))),
          subst (λ (l : Look). UnlessList (is_list l) (OuterFlagsInside now all (below at_root l) below_w (children_of top))) (sym root_same)
              (three_unless (is_list (object_look o)) (AreOuter kids (children_of top)) (AreOuter below_w (children_of top)) (OuterFlagsInside now all (below at_root (object_look o)) kids (children_of top))
              (OuterFlagsInside now all (below at_root (object_look o)) below_w (children_of top)) outer_f.1
              (subst (λ (l : Look). UnlessList (is_list l) (AreOuter below_w (children_of top))) root_same outer.1) flags.1
              (λ a b c. undue_flags now all (below at_root (object_look o)) kids below_w (children_of top) calm.2 a b c)),
        )

    -- the root stands in bounds, and nothing is above it
    root_ends : (x : Option Frame) → option_map ask_in x ≡ Some (AsBox (tight view)) → (look : Look) → ends_in (bounds_in x) true false look ≡ true
    root_ends None e look = absurd (none_some e)
      where
        none_some : None ≡ Some (AsBox (tight view)) → ⊥
        none_some e = cc
    root_ends (Some (Boxed b size)) e look = refl
    root_ends (Some (Sliver b geometry)) e look = absurd (box_sliver b e)
      where
        box_sliver : (b : SliverBounds) → Some (AsSliver b) ≡ Some (AsBox (tight view)) → ⊥
        box_sliver b e = cc

    pub root_undue_firm : OuterHaveFrames before.frames (tree h o kids none) → RootAsked view (layout_nodes (tree k w below_w none))
        → OuterFirmEnds now (reaches_out now at_root top) at_root (tree k w below_w none) (more_renders top no_renders)
    root_undue_firm framed asked_so = ((λ off firm. root_ends w.frame asked_so (object_look w)), by root_case, tt)
      where
        by : (all ≡ true) ⊎ ((w.needs_layout ≡ false) × (w.scroll ≡ o.scroll) × AreUndue (layout_nodes kids) (layout_nodes below_w))
            → UnlessList (is_list (object_look w)) (OuterFirmEnds now all (below at_root (object_look w)) below_w (children_of top))
        by (inl e) =
            unless_go (is_list (object_look w)) (AreOuter below_w (children_of top)) (OuterFirmEnds now all (below at_root (object_look w)) below_w (children_of top)) outer.1
            (λ x. all_firm now all (below at_root (object_look w)) below_w (children_of top) e x)
        by (inr calm) =
            subst (λ (l : Look). UnlessList (is_list l) (OuterFirmEnds now all (below at_root l) below_w (children_of top))) (sym root_same)
            (four_unless (is_list (object_look o)) (AreOuter kids (children_of top)) (AreOuter below_w (children_of top)) (OuterHaveFrames before.frames kids)
            (OuterFlagsInside now all (below at_root (object_look o)) kids (children_of top)) (OuterFirmEnds now all (below at_root (object_look o)) below_w (children_of top)) outer_f.1
            (subst (λ (l : Look). UnlessList (is_list l) (AreOuter below_w (children_of top))) root_same outer.1) framed.1 flags.1
            (λ a b c d. undue_firm all (below at_root (object_look o)) kids below_w (children_of top) calm.2 a b c d))

  -- ---- Viewports that are corrected

  module _ (hs : List Handle) where
    no_climbs : (p : Above) (f : Forest RenderObject) → has_listed hs f ≡ false → some_climbs layout_marks hs p f ≡ false
    no_climbs p none e = refl
    no_climbs p (tree h o kids rest) e =
        let one = or_parts (listed h hs) (has_listed hs kids || has_listed hs rest) e in
        let two = or_parts (has_listed hs kids) (has_listed hs rest) one.1 in
        nothing (listed h hs) (some_climbs layout_marks hs (within layout_marks p o) kids) (not (is_boundary layout_marks p o)) (some_climbs layout_marks hs p rest) one.0
        (no_climbs (within layout_marks p o) kids two.0) (no_climbs p rest two.1)
      where
        nothing : (a b c d : Bool) → a ≡ false → b ≡ false → d ≡ false → (((a || b) && c) || d) ≡ false
        nothing true b c d x y z = absurd (true≢false x)
        nothing false true c d x y z = absurd (true≢false y)
        nothing false false c d x y z = z

    same_listed : (f : Forest RenderObject) → has_listed hs (layout_nodes f) ≡ has_listed hs f
    same_listed none = refl
    same_listed (tree h o kids rest) = λ i. listed h hs || (same_listed kids i || same_listed rest i)

    -- below what is in the region all is
    all_listed : (above : Bool) (p : RegionPlace) (g : Forest RenderObject) (rs : Renders) → above ≡ true → AreOuter g rs → OuterListedInside now hs above p g rs
    all_listed above p none rs every outer = tt
    all_listed above p (tree k w below_w rest) no_renders every outer = absurd outer
    all_listed above p (tree k w below_w rest) (more_renders r rs) every outer =
        let inside : is_inside now above p r ≡ true = or_left above (now.is_firm p r && is_reached now p r) every in (
          (λ e. inside),
          list_or (is_list (object_look w)) (AreOuter below_w (children_of r)) (some_climbs layout_marks hs (marks_above (below p (object_look w))) below_w ≡ true → is_inside now above p r ≡ true)
              (OuterListedInside now hs (is_inside now above p r) (below p (object_look w)) below_w (children_of r)) outer.1 (λ e. inside)
              (λ x. all_listed (is_inside now above p r) (below p (object_look w)) below_w (children_of r) inside x),
          all_listed above p rest rs every outer.2,
        )

    -- where nothing is scrolled otherwise, nothing is listed
    still_listed : (above : Bool) (p : RegionPlace) (f g : Forest RenderObject) (rs : Renders) → layout_nodes g ≡ layout_nodes f → AreOuter g rs → AreScrolledOtherwise hs (layout_nodes f) (layout_nodes g)
        → OuterListedInside now hs above p g rs
    still_listed above p f none rs e outer other = tt
    still_listed above p none (tree k w below_w rest) rs e outer other = absurd other
    still_listed above p (tree h v kids more) (tree k w below_w rest) no_renders e outer other = absurd outer
    still_listed above p (tree h v kids more) (tree k w below_w rest) (more_renders r rs) e outer other =
        let parts = tree_parts e in (
          (λ is. absurd (other.0 is (ap (λ (x : LayoutNode). x.scroll) parts.0))),
          below_still (λ e x y. still_listed (is_inside now above p r) (below p (object_look w)) kids below_w (children_of r) e x y) (is_list (object_look w)) outer.1 other.1 parts.1,
          still_listed above p more rest rs parts.2 outer.2 other.2,
        )
      where
        tree_parts : tree k (layout_node w) (layout_nodes below_w) (layout_nodes rest) ≡ tree h (layout_node v) (layout_nodes kids) (layout_nodes more)
            → (layout_node w ≡ layout_node v) × (layout_nodes below_w ≡ layout_nodes kids) × (layout_nodes rest ≡ layout_nodes more)
        tree_parts e = (cc, cc, cc)

        below_still : (layout_nodes below_w ≡ layout_nodes kids → AreOuter below_w (children_of r) → AreScrolledOtherwise hs (layout_nodes kids) (layout_nodes below_w)
            → OuterListedInside now hs (is_inside now above p r) (below p (object_look w)) below_w (children_of r)) → (list : Bool) → UnlessList list (AreOuter below_w (children_of r)) → HeldOr list (has_listed hs (layout_nodes below_w) ≡ false) (AreScrolledOtherwise hs (layout_nodes kids) (layout_nodes below_w))
            → layout_nodes below_w ≡ layout_nodes kids
            → ListOr list (some_climbs layout_marks hs (marks_above (below p (object_look w))) below_w ≡ true → is_inside now above p r ≡ true) (OuterListedInside now hs (is_inside now above p r) (below p (object_look w)) below_w (children_of r))
        below_still go true x y z = λ c. absurd (true≢false (sym c ∙ no_climbs (marks_above (below p (object_look w))) below_w (sym (same_listed below_w) ∙ y)))
        below_still go false x y z = go z x y

    pub scrolled_listed : (above : Bool) (p : RegionPlace) (f g : Forest RenderObject) (rs : Renders) → AreUndue (layout_nodes f) (layout_nodes g) → AreOuter f rs → AreOuter g rs
        → AreScrolledOtherwise hs (layout_nodes f) (layout_nodes g) → OuterFlagsInside now above p f rs → OuterListedInside now hs above p g rs
    scrolled_listed above p f none rs undue outer_f outer other flags = tt
    scrolled_listed above p none (tree k w below_w rest) rs undue outer_f outer other flags = absurd undue
    scrolled_listed above p (tree h o kids more) (tree k w below_w rest) no_renders undue outer_f outer other flags = absurd outer
    scrolled_listed above p (tree h o kids more) (tree k w below_w rest) (more_renders r rs) undue outer_f outer other flags = (
      (λ is. here is (cases_Bool o.shown) (cases_Bool o.needs_layout)),
      below_here (λ u x y z f. scrolled_listed (is_inside now above p r) (below p (object_look o)) kids below_w (children_of r) u x y z f) (is_list (object_look w)) (is_list (object_look o)) (ap is_list same) outer_f.1 outer.1 other.1
          (λ shown. (flags.0 shown).1) (cases_Bool o.shown) (cases_Bool o.needs_layout),
      scrolled_listed above p more rest rs undue.4 outer_f.2 outer.2 other.2 flags.1,
    )
      where
        inside : Bool
        inside = is_inside now above p r

        same : object_look w ≡ object_look o
        same = same_look r o w outer_f.0 outer.0

        here : listed k hs ≡ true → (o.shown ≡ true) ⊎ (o.shown ≡ false) → (o.needs_layout ≡ true) ⊎ (o.needs_layout ≡ false) → inside ≡ true
        here is (inl was) (inl flag) = (flags.0 was).0 flag
        here is (inl was) (inr clear) = absurd (other.0 is (undue.3 was clear).1)
        here is (inr gone) flag = absurd (other.0 is (ap (λ (x : LayoutNode). x.scroll) (undue.2 gone).0))

        below_here : (AreUndue (layout_nodes kids) (layout_nodes below_w) → AreOuter kids (children_of r) → AreOuter below_w (children_of r) → AreScrolledOtherwise hs (layout_nodes kids) (layout_nodes below_w)
            → OuterFlagsInside now inside (below p (object_look o)) kids (children_of r) → OuterListedInside now hs inside (below p (object_look o)) below_w (children_of r)) → (list list_o : Bool) → list ≡ list_o → UnlessList list_o (AreOuter kids (children_of r)) → UnlessList list (AreOuter below_w (children_of r))
            → HeldOr list (has_listed hs (layout_nodes below_w) ≡ false) (AreScrolledOtherwise hs (layout_nodes kids) (layout_nodes below_w))
            → (o.shown ≡ true → UnlessList list_o (OuterFlagsInside now inside (below p (object_look o)) kids (children_of r)))
            → (o.shown ≡ true) ⊎ (o.shown ≡ false) → (o.needs_layout ≡ true) ⊎ (o.needs_layout ≡ false)
            → ListOr list (some_climbs layout_marks hs (marks_above (below p (object_look w))) below_w ≡ true → inside ≡ true) (OuterListedInside now hs inside (below p (object_look w)) below_w (children_of r))
        below_here go true list_o e x y z flags_in shown flag = λ c. absurd (true≢false (sym c ∙ no_climbs (marks_above (below p (object_look w))) below_w (sym (same_listed below_w) ∙ z)))
        below_here go false true e x y z flags_in shown flag = absurd (false≢true e)
        below_here go false false e x y z flags_in (inl was) (inl flag) = all_listed inside (below p (object_look w)) below_w (children_of r) ((flags.0 was).0 flag) y
        below_here go false false e x y z flags_in (inl was) (inr clear) =
            subst (λ (l : Look). OuterListedInside now hs inside (below p l) below_w (children_of r)) (sym same)
            (go (undue.3 was clear).2 x y z (flags_in was))
        below_here go false false e x y z flags_in (inr gone) flag = still_listed inside (below p (object_look w)) kids below_w (children_of r) (undue.2 gone).1 y z

    -- a root's tree
    pub root_listed : (view : Size) (h k : Handle) (o w : RenderObject) (kids below_w : Forest RenderObject) (top : Render) → RootUndue view (layout_nodes (tree h o kids none)) (layout_nodes (tree k w below_w none))
        → AreOuter (tree h o kids none) (more_renders top no_renders) → AreOuter (tree k w below_w none) (more_renders top no_renders)
        → (before.same_view ≡ true → IsAskedAs view (tree h o kids none)) → RootOuterInside now (tree h o kids none) top
        → AreScrolledOtherwise hs (layout_nodes (tree h o kids none)) (layout_nodes (tree k w below_w none))
        → OuterListedInside now hs (reaches_out now at_root top) at_root (tree k w below_w none) (more_renders top no_renders)
    root_listed view h k o w kids below_w top undue outer_f outer asks flags other =
        by (root_case view h k o w kids below_w top undue outer_f outer asks flags)
      where
        inside : Bool
        inside = is_inside now (reaches_out now at_root top) at_root top

        same : object_look w ≡ object_look o
        same = same_look top o w outer_f.0 outer.0

        below_here : (list list_o : Bool) → list ≡ list_o → UnlessList list_o (AreOuter kids (children_of top)) → UnlessList list (AreOuter below_w (children_of top))
            → HeldOr list (has_listed hs (layout_nodes below_w) ≡ false) (AreScrolledOtherwise hs (layout_nodes kids) (layout_nodes below_w))
            → UnlessList list_o (OuterFlagsInside now inside (below at_root (object_look o)) kids (children_of top)) → AreUndue (layout_nodes kids) (layout_nodes below_w)
            → ListOr list (some_climbs layout_marks hs (marks_above (below at_root (object_look w))) below_w ≡ true → inside ≡ true) (OuterListedInside now hs inside (below at_root (object_look w)) below_w (children_of top))
        below_here true list_o e x y z flags_in calm = λ c. absurd (true≢false (sym c ∙ no_climbs (marks_above (below at_root (object_look w))) below_w (sym (same_listed below_w) ∙ z)))
        below_here false true e x y z flags_in calm = absurd (false≢true e)
        below_here false false e x y z flags_in calm =
            subst (λ (l : Look). OuterListedInside now hs inside (below at_root l) below_w (children_of top)) (sym same)
            (scrolled_listed inside (below at_root (object_look o)) kids below_w (children_of top) calm x y z flags_in)

        by : (inside ≡ true) ⊎ ((w.needs_layout ≡ false) × (w.scroll ≡ o.scroll) × AreUndue (layout_nodes kids) (layout_nodes below_w))
            → OuterListedInside now hs (reaches_out now at_root top) at_root (tree k w below_w none) (more_renders top no_renders)
        by (inl e) = (
          (λ is. e),
          list_or (is_list (object_look w)) (AreOuter below_w (children_of top)) (some_climbs layout_marks hs (marks_above (below at_root (object_look w))) below_w ≡ true → inside ≡ true)
              (OuterListedInside now hs inside (below at_root (object_look w)) below_w (children_of top)) outer.1 (λ c. e)
              (λ x. all_listed inside (below at_root (object_look w)) below_w (children_of top) e x),
          tt,
        )
        by (inr calm) = (
          (λ is. absurd (other.0 is calm.1)),
          below_here (is_list (object_look w)) (is_list (object_look o)) (ap is_list same) outer_f.1 outer.1 other.1 flags.1 calm.2,
          tt,
        )

  -- what a node is scrolled by is no matter of flags, nor of boundaries
  pub rescrolled_flags : (scrolls : Handle → ℕ) (above : Bool) (p : RegionPlace) (f : Forest RenderObject) (rs : Renders) → OuterFlagsInside now above p f rs → OuterFlagsInside now above p (scrolled_as scrolls f) rs
  rescrolled_flags scrolls above p none rs flags = tt
  rescrolled_flags scrolls above p (tree h o kids rest) no_renders flags = absurd flags
  rescrolled_flags scrolls above p (tree h o kids rest) (more_renders r rs) flags = (
    (λ shown. (
      (flags.0 shown).0,
      unless_go (is_list (object_look o)) (OuterFlagsInside now (is_inside now above p r) (below p (object_look o)) kids (children_of r))
          (OuterFlagsInside now (is_inside now above p r) (below p (object_look o)) (scrolled_as scrolls kids) (children_of r)) (flags.0 shown).1
          (λ x. rescrolled_flags scrolls (is_inside now above p r) (below p (object_look o)) kids (children_of r) x),
    )),
    rescrolled_flags scrolls above p rest rs flags.1,
  )

  pub rescrolled_root : (scrolls : Handle → ℕ) (h : Handle) (o : RenderObject) (kids : Forest RenderObject) (top : Render) → RootOuterInside now (tree h o kids none) top
      → RootOuterInside now (scrolled_as scrolls (tree h o kids none)) top
  rescrolled_root scrolls h o kids top flags =
      let inside : Bool = is_inside now (reaches_out now at_root top) at_root top in (
        flags.0,
        unless_go (is_list (object_look o)) (OuterFlagsInside now inside (below at_root (object_look o)) kids (children_of top)) (OuterFlagsInside now inside (below at_root (object_look o)) (scrolled_as scrolls kids) (children_of top))
            flags.1 (λ x. rescrolled_flags scrolls inside (below at_root (object_look o)) kids (children_of top) x),
      )

  pub rescrolled_firm : (scrolls : Handle → ℕ) (above : Bool) (p : RegionPlace) (f : Forest RenderObject) (rs : Renders) → OuterFirmEnds now above p f rs → OuterFirmEnds now above p (scrolled_as scrolls f) rs
  rescrolled_firm scrolls above p none rs firm = tt
  rescrolled_firm scrolls above p (tree h o kids rest) no_renders firm = absurd firm
  rescrolled_firm scrolls above p (tree h o kids rest) (more_renders r rs) firm = (
    firm.0,
    unless_go (is_list (object_look o)) (OuterFirmEnds now (is_inside now above p r) (below p (object_look o)) kids (children_of r))
        (OuterFirmEnds now (is_inside now above p r) (below p (object_look o)) (scrolled_as scrolls kids) (children_of r)) firm.1
        (λ x. rescrolled_firm scrolls (is_inside now above p r) (below p (object_look o)) kids (children_of r) x),
    rescrolled_firm scrolls above p rest rs firm.2,
  )

  -- nor are marks one of boundaries, or of frames, or of what stands where
  pub swept_firm : (hs : List Handle) (a : Above) (above : Bool) (p : RegionPlace) (f : Forest RenderObject) (rs : Renders) → OuterFirmEnds now above p f rs → OuterFirmEnds now above p (sweep layout_marks true hs a f) rs
  swept_firm hs a above p none rs firm = tt
  swept_firm hs a above p (tree h o kids rest) no_renders firm = absurd firm
  swept_firm hs a above p (tree h o kids rest) (more_renders r rs) firm = (
    firm.0,
    unless_go (is_list (object_look o)) (OuterFirmEnds now (is_inside now above p r) (below p (object_look o)) kids (children_of r))
        (OuterFirmEnds now (is_inside now above p r) (below p (object_look o)) (sweep layout_marks true hs (within layout_marks a o) kids) (children_of r)) firm.1
        (λ x. swept_firm hs (within layout_marks a o) (is_inside now above p r) (below p (object_look o)) kids (children_of r) x),
    swept_firm hs a above p rest rs firm.2,
  )

  pub swept_frames : (hs : List Handle) (a : Above) (f : Forest RenderObject) → OuterHaveFrames before.frames f → OuterHaveFrames before.frames (sweep layout_marks true hs a f)
  swept_frames hs a none framed = tt
  swept_frames hs a (tree h o kids rest) framed = (
    framed.0,
    unless_go (is_list (object_look o)) (OuterHaveFrames before.frames kids) (OuterHaveFrames before.frames (sweep layout_marks true hs (within layout_marks a o) kids)) framed.1
        (λ x. swept_frames hs (within layout_marks a o) kids x),
    swept_frames hs a rest framed.2,
  )

pub swept_outer : (hs : List Handle) (a : Above) (f : Forest RenderObject) (rs : Renders) → AreOuter f rs → AreOuter (sweep layout_marks true hs a f) rs
swept_outer hs a none no_renders outer = tt
swept_outer hs a none (more_renders r rs) outer = absurd outer
swept_outer hs a (tree h o kids rest) no_renders outer = absurd outer
swept_outer hs a (tree h o kids rest) (more_renders r rs) outer = (
  record { number = outer.0.number; look = outer.0.look; told = outer.0.told; count = outer.0.count },
  unless_go (is_list (object_look o)) (AreOuter kids (children_of r)) (AreOuter (sweep layout_marks true hs (within layout_marks a o) kids) (children_of r)) outer.1
      (λ x. swept_outer hs (within layout_marks a o) kids (children_of r) x),
  swept_outer hs a rest rs outer.2,
)
