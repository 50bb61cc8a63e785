-- A mark that climbs out of the items of a lazy list reaches the list: where an item lost a child to the first phase's tree, it, or a node
-- between it and the list, has other children in the whole build.
use Rattle.std.proofs.Common.{◌≡◌, ℕ, Bool, true, false, not, ◌&&◌, ◌||◌, Option, Some, None, option_map, List, refl, sym, ap, ◌∙◌, subst, ◌⊎◌, inl, inr, Decides, if◌then◌else◌}
use Rattle.std.proofs.lemmas.Bool.{cases_Bool, and_parts, and_from, or_left, or_right, false≢true, true≢false}
use lib.Pointwise.{pointwise}
use Rattle.fx_handles.specs.declared.Handle.{Handle}
use Rattle.node_tree.specs.Forest.{TreeNode, Forest, Stands, pruned}
use Rattle.node_tree.specs.Forest.Forest.{none, tree}
use Rattle.node_tree.specs.Tree.{Tree, node_at}
use Rattle.widget_model.specs.Look.{Look}
use Rattle.plain_tree.specs.declared.laid.Frame.{Frame}
use Rattle.plain_tree.specs.declared.laid.Frame.TheVariants.{Boxed, Sliver}
use Rattle.plain_tree.specs.declared.render.ParentData.{ParentData}
use Rattle.plain_tree.specs.Render.{Render, render, Renders, no_renders, more_renders}
use Rattle.tree_marks.specs.Marking.{Above, is_boundary, within}
use Rattle.tree_marks.specs.Marks.{listed, some_climbs}
use Rattle.tree_marks.proofs.Closing.{either}
use Rattle.work_roles.specs.Place.{RegionPlace, below, is_relayout_boundary, ends_layout}
use Rattle.work_roles.proofs.Blanks.{same_role}
use Rattle.work_roles.specs.ForLayout.{for_layout}
use Rattle.work_roles.specs.WorkRole.{work_role_of, is_intrinsic, is_offstage, is_offstage_role}
use Rattle.work_sets.specs.Before.{Before, bounds_in as laid_bounds}
use Rattle.work_sets.specs.InTree.{standing, look_of}
use Rattle.work_sets.specs.Layout.{is_firm_in, is_child_same, list_below, frame_judge}
use Rattle.work_sets.specs.Members.{is_same_look}
use Rattle.work_sets.specs.Region.{Judge, is_reached, reaches_out, some_reaches_out}
use Rattle.render_tree.specs.Marks.{layout_marks, ends_in}
use Rattle.render_tree.specs.Object.{RenderObject, bounds_in, object_look}
use Rattle.render_tree.specs.Plain.{renders_of}
use Rattle.render_tree.specs.Tree.{object_at}
use Rattle.build_walk.specs.Changing.{render_over}
use Rattle.counted_work.specs.Inside.{marks_above}
use Rattle.counted_work.proofs.Twins.{AreAt}
use Rattle.counted_phases.specs.Framed.{HaveFrames}
use Rattle.counted_phases.specs.Left.{some_claimed, AreBereft, IsUnclaimed, AreUnclaimed, AreStanding, AreLeftItems}
use Rattle.counted_phases.specs.Outer.{ListOr, IsOuter}
use Rattle.counted_phases.proofs.Twins.{Lists, IsPair, stood, unchanged, numbers_of_pair}

-- ---- places

-- what an item has above it: in the last frame, in the whole build, and as its marks see it
pub record IsAbove (p q : RegionPlace) (b : Above) : Type 0 where
  pub top : b.top ≡ p.top
  pub hidden : b.hidden ≡ p.below_offstage
  pub asked : b.asked ≡ true → (p.below_intrinsic || q.below_intrinsic) ≡ true

pub above_below : (p q : RegionPlace) (b : Above) (o : RenderObject) (look : Look) → IsAbove p q b → IsAbove (below p (object_look o)) (below q look) (within layout_marks b o)
above_below p q b o look above = record {
  top = refl;
  hidden = refl;
  asked = λ e. by_asked b.asked p.below_intrinsic q.below_intrinsic (is_intrinsic (object_look o)) (is_intrinsic look) above.asked e;
}
  where
    by_asked : (a x y i j : Bool) → (a ≡ true → (x || y) ≡ true) → (a || i) ≡ true → ((x || i) || (y || j)) ≡ true
    by_asked a true y i j go e = refl
    by_asked a false y true j go e = refl
    by_asked true false true false j go e = refl
    by_asked true false false false j go e = absurd (false≢true (go refl))
    by_asked false false y false j go e = absurd (false≢true e)

-- a firm boundary, in the bounds of its last layout, ends marks there
firm_there : (fr : Option Frame) (p q : RegionPlace) (b : Above) (node : Render) (look : Look) → IsAbove p q b → is_firm_in (laid_bounds fr) (Some (record { place = p; node = node })) q look ≡ true
    → (not b.asked && ends_in (bounds_in fr) b.top b.hidden (look_of node)) ≡ true
firm_there None p q b node look above e = absurd (false≢true e)
firm_there (Some (Sliver bounds geometry)) p q b node look above e = absurd (false≢true e)
firm_there (Some (Boxed bounds size)) p q b node look above e =
    let both = and_parts (is_relayout_boundary p (look_of node) bounds) (is_relayout_boundary q look bounds) e in
    let was = and_parts (not p.below_intrinsic) (ends_layout p.top p.below_offstage (look_of node) bounds) both.0 in
    let is = and_parts (not q.below_intrinsic) (ends_layout q.top q.below_offstage look bounds) both.1 in
    and_from (not b.asked) (ends_layout b.top b.hidden (look_of node) bounds)
    (unasked b.asked p.below_intrinsic q.below_intrinsic above.asked was.0 is.0)
    ((λ i. ends_layout (above.top i) (above.hidden i) (look_of node) bounds) ∙ was.1)
  where
    unasked : (a x y : Bool) → (a ≡ true → (x || y) ≡ true) → not x ≡ true → not y ≡ true → not a ≡ true
    unasked true true y go e f = absurd (false≢true e)
    unasked true false true go e f = absurd (false≢true f)
    unasked true false false go e f = go refl
    unasked false x y go e f = refl

pub offstage_by : (a b : Look) → for_layout a ≡ for_layout b → is_offstage a ≡ is_offstage b
offstage_by a b e = ap is_offstage_role (sym (same_role a) ∙ ap work_role_of e ∙ same_role b)

-- the items of a list that a layout reads as before
pub list_above : (p q : RegionPlace) (was look : Look) → for_layout was ≡ for_layout look → IsAbove (below p was) (below q look) (marks_above (below q look))
list_above p q was look same = record {
  top = refl;
  hidden = sym (offstage_by was look same);
  asked = λ is. or_right (p.below_intrinsic || is_intrinsic was) (q.below_intrinsic || is_intrinsic look) is;
}

pub stored_all : (t : Tree RenderObject) (q : Option Handle) (f : Forest RenderObject) → Stands (node_at t) q f → AreAt (object_at t) f
stored_all t q none s = tt
stored_all t q (tree h o kids rest) s = (ap (option_map (λ (n : TreeNode RenderObject). n.value)) s.0, stored_all t (Some h) kids s.1, stored_all t q rest s.2)

module _ (before : Before) (look_same : (a b : Look) → Decides (is_same_look a b) (a ≡ b)) (old : Tree RenderObject) (claimed : Handle → Bool) (hs : List Handle) where
  abbrev now : Judge
  now = frame_judge before

  abbrev Same : Renders → Renders → Type 0
  Same ws rs = Lists before look_same ws rs

  -- children of the same numbers aren't claimed
  pub none_claimed : (f : Forest RenderObject) (rs : Renders) → AreAt (object_at old) f → Same (renders_of f) rs → AreUnclaimed old claimed rs → some_claimed claimed f ≡ false
  none_claimed none rs stored lists free = refl
  none_claimed (tree h o kids rest) no_renders stored lists free = absurd (false≢true lists)
  none_claimed (tree h o kids rest) (more_renders (render number look told scroll count children) rs) stored lists free =
      let split = and_parts (is_child_same (o.number, o.parent_data) (number, told)) (pointwise is_child_same (list_below (renders_of rest)) (list_below rs)) lists in
      let same : o.number ≡ number = numbers_of_pair before look_same o.number o.parent_data number told split.0 in
      (λ i. free.0.0 h o stored.0 same i || some_claimed claimed rest) ∙ none_claimed rest rs stored.2 split.1 free.1

  -- a node that is left
  left_out : (start boundary firm reached : Bool) → (start ≡ true → reached ≡ true) → (firm ≡ true → boundary ≡ true) → (start && not boundary) ≡ true → (reached && not firm) ≡ true
  left_out start boundary true reached go ends e = absurd (false≢true (ap not (sym (ends refl)) ∙ (and_parts start (not boundary) e).1))
  left_out start boundary false reached go ends e = and_from reached true (go (and_parts start (not boundary) e).0) refl

  -- one that isn't claimed, where so it is below it and beside it
  left_node : (p q : RegionPlace) (b : Above) (h : Handle) (o : RenderObject) (kids rest : Forest RenderObject) (number : ℕ) (look : Look) (told : ParentData) (scroll count : ℕ) (children rs : Renders)
      → IsAbove p q b → object_at old h ≡ Some o → AreAt (object_at old) kids → o.number ≡ number → standing before.tree o.number ≡ Some (record { place = p; node = render_over o kids }) → o.frame ≡ before.frames o.number
      → IsUnclaimed old claimed number → AreUnclaimed old claimed children → ListOr (claimed h) (Unit {0}) ((listed h hs ≡ true → some_claimed claimed kids ≡ true) × AreBereft claimed hs kids)
      → (Same (renders_of kids) children → AreBereft claimed hs kids → some_climbs layout_marks hs (within layout_marks b o) (pruned claimed kids) ≡ true → some_reaches_out now (below q look) children ≡ true)
      → (some_climbs layout_marks hs b (pruned claimed rest) ≡ true → some_reaches_out now q rs ≡ true)
      → some_climbs layout_marks hs b (pruned claimed (tree h o kids rest)) ≡ true → (reaches_out now q (render number look told scroll count children) || some_reaches_out now q rs) ≡ true
  left_node p q b h o kids rest number look told scroll count children rs above stored stored_kids same found framed free free_kids bereft go go_rest e =
      elim (either (start && not (is_boundary layout_marks b o)) (some_climbs layout_marks hs b (pruned claimed rest)) here) [
        | inl a ↦ or_left (reaches_out now q r) (some_reaches_out now q rs) (left_out start (is_boundary layout_marks b o) (now.is_firm q r) (is_reached now q r) reached firm a)
        | inr a ↦ or_right (reaches_out now q r) (some_reaches_out now q rs) (go_rest a)
      ]
    where
      r : Render
      r = render number look told scroll count children

      start : Bool
      start = listed h hs || some_climbs layout_marks hs (within layout_marks b o) (pruned claimed kids)

      unclaimed : claimed h ≡ false
      unclaimed = free h o stored same

      here : ((start && not (is_boundary layout_marks b o)) || some_climbs layout_marks hs b (pruned claimed rest)) ≡ true
      here = sym (ap (λ (x : Bool). some_climbs layout_marks hs b (if x then pruned claimed rest else tree h o (pruned claimed kids) (pruned claimed rest))) unclaimed) ∙ e

      bereft_here : (listed h hs ≡ true → some_claimed claimed kids ≡ true) × AreBereft claimed hs kids
      bereft_here = subst (λ (x : Bool). ListOr x (Unit {0}) ((listed h hs ≡ true → some_claimed claimed kids ≡ true) × AreBereft claimed hs kids)) unclaimed bereft

      pair : IsPair before look_same p (render_over o kids) r
      pair = record { number = same; found = found }

      under : Bool
      under = some_reaches_out now (below q look) children

      by_start : Same (renders_of kids) children → (listed h hs ≡ true) ⊎ (some_climbs layout_marks hs (within layout_marks b o) (pruned claimed kids) ≡ true) → under ≡ true
      by_start alike (inl is) = absurd (true≢false (sym (bereft_here.0 is) ∙ none_claimed kids children stored_kids alike free_kids))
      by_start alike (inr climbs) = go alike bereft_here.1 climbs

      reached : start ≡ true → is_reached now q r ≡ true
      reached c = elim (cases_Bool (now.is_changed q r)) [
        | inl changed ↦ or_left (now.is_changed q r) under changed
        | inr still ↦ or_right (now.is_changed q r) under (by_start (unchanged before look_same p q (render_over o kids) r pair still).lists (either (listed h hs) (some_climbs layout_marks hs (within layout_marks b o) (pruned claimed kids)) c))
      ]

      firm : now.is_firm q r ≡ true → is_boundary layout_marks b o ≡ true
      firm is =
          firm_there o.frame p q b (render_over o kids) look above
          (ap (λ fr. is_firm_in (laid_bounds fr) (Some (record { place = p; node = render_over o kids })) q look) (framed ∙ ap before.frames same)
          ∙ (sym (ap (λ x. is_firm_in (laid_bounds (before.frames number)) x q look) (stood before look_same p (render_over o kids) r pair)) ∙ is))

  pub left_reach : (p q : RegionPlace) (b : Above) (f : Forest RenderObject) (rs : Renders) → IsAbove p q b → AreAt (object_at old) f → AreStanding before p f → HaveFrames before.frames f
      → Same (renders_of f) rs → AreUnclaimed old claimed rs → AreBereft claimed hs f → some_climbs layout_marks hs b (pruned claimed f) ≡ true → some_reaches_out now q rs ≡ true
  left_reach p q b none rs above stored finds framed lists free bereft e = absurd (false≢true e)
  left_reach p q b (tree h o kids rest) no_renders above stored finds framed lists free bereft e = absurd (false≢true lists)
  left_reach p q b (tree h o kids rest) (more_renders (render number look told scroll count children) rs) above stored finds framed lists free bereft e =
      let split = and_parts (is_child_same (o.number, o.parent_data) (number, told)) (pointwise is_child_same (list_below (renders_of rest)) (list_below rs)) lists in
      let same : o.number ≡ number = numbers_of_pair before look_same o.number o.parent_data number told split.0 in
      left_node p q b h o kids rest number look told scroll count children rs above stored.0 stored.1 same finds.0 framed.0 free.0.0 free.0.1 bereft.0
      (λ alike lost climbs. left_reach (below p (object_look o)) (below q look) (within layout_marks b o) kids children (above_below p q b o look above) stored.1 finds.1 framed.1 alike free.0.1 lost climbs)
      (λ climbs. left_reach p q b rest rs above stored.2 finds.2 framed.2 split.1 free.1 bereft.1 climbs) e

  -- ---- a list

  pub list_reach : (p : RegionPlace) (o : RenderObject) (kids : Forest RenderObject) (number : ℕ) (look : Look) (told : ParentData) (scroll count : ℕ) (children : Renders)
      → IsOuter o (render number look told scroll count children) → (l : AreLeftItems before old claimed number kids) → AreUnclaimed old claimed children → AreBereft claimed hs l.items
      → some_climbs layout_marks hs (marks_above (below p (object_look o))) kids ≡ true → is_reached now p (render number look told scroll count children) ≡ true
  list_reach p o kids number look told scroll count children outer l free bereft e = elim (cases_Bool (now.is_changed p r)) [
    | inl changed ↦ or_left (now.is_changed p r) under changed
    | inr still ↦
        let same = unchanged before look_same l.place p (render_over l.list l.items) r pair still in
        or_right (now.is_changed p r) under
        (left_reach (below l.place (object_look l.list)) (below p look) (marks_above (below p (object_look o))) l.items children (above same.look) (stored_all old (Some l.handle) l.items l.stands) l.places l.frames
        same.lists free bereft (sym (ap (λ f. some_climbs layout_marks hs (marks_above (below p (object_look o))) f) l.left) ∙ e))
  ]
    where
      r : Render
      r = render number look told scroll count children

      under : Bool
      under = some_reaches_out now (below p look) children

      pair : IsPair before look_same l.place (render_over l.list l.items) r
      pair = record { number = l.number_is; found = ap (standing before.tree) l.number_is ∙ l.stood }

      above : for_layout (object_look l.list) ≡ for_layout look → IsAbove (below l.place (object_look l.list)) (below p look) (marks_above (below p (object_look o)))
      above same = subst (λ (x : Look). IsAbove (below l.place (object_look l.list)) (below p look) (marks_above (below p x))) (sym outer.look) (list_above l.place p (object_look l.list) look same)
