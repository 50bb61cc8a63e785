-- A node that a layout reads as before is what it was, with what is right below it.
use Rattle.std.proofs.Common.{◌≡◌, ℕ, Bool, true, false, eqb, ◌&&◌, ◌||◌, if◌then◌else◌, Option, Some, None, option_map, ◌∷◌, refl, sym, ap, ◌∙◌, subst, Decides}
use Rattle.std.proofs.lemmas.Bool.{and_parts, or_parts, false≢true}
use Rattle.std.specs.Cmp.{unsigned_Decides}
use lib.Pointwise.{pointwise}
use Rattle.fx_handles.specs.declared.Handle.{Handle}
use Rattle.node_tree.specs.Forest.{Forest, tops, pruned}
use Rattle.node_tree.specs.Forest.Forest.{none, tree}
use Rattle.node_tree.specs.Tree.{Tree}
use Rattle.plain_tree.specs.declared.laid.Frame.{Frame}
use Rattle.plain_tree.specs.declared.laid.Frame.TheVariants.{Boxed, Sliver}
use Rattle.plain_tree.specs.declared.render.ParentData.{ParentData}
use Rattle.plain_tree.specs.Render.{Render, render, Renders, no_renders, more_renders}
use Rattle.work_roles.specs.ForLayout.{for_layout}
use Rattle.work_roles.specs.WorkRole.{is_offstage, is_viewport}
use Rattle.work_sets.specs.Before.{Before, bounds_in}
use Rattle.work_sets.specs.InTree.{look_of, widget_count_of}
use Rattle.work_sets.specs.Layout.{is_told_same, is_child_same, list_below}
use Rattle.render_tree.specs.Marks.{layout_own, has_say}
use Rattle.render_tree.specs.Object.{RenderObject, object_look, bounds_in as object_bounds}
use Rattle.render_tree.specs.Plain.{lazy_children, renders_of}
use Rattle.render_tree.specs.Tree.{object_at}
use Rattle.render_sync.specs.Numbering.{NumbersDiffer}
use Rattle.build_walk.specs.Changing.{AreToldSame, AreSizedSame}
use Rattle.counted_work.proofs.Twins.{AreCarried}
use Rattle.counted_phases.specs.Framed.{HaveFrames}
use Rattle.counted_phases.specs.Left.{some_claimed, AreUnclaimed}
use Rattle.counted_phases.specs.Outer.{IsOuter, AreOuter}
use Rattle.counted_phases.specs.Unreached.{AreSizedSo}
use Rattle.counted_frames.proofs.Planned.{AllStored}

pub same_bounds : (o : Option Frame) → bounds_in o ≡ object_bounds o
same_bounds None = refl
same_bounds (Some (Boxed b size)) = refl
same_bounds (Some (Sliver b geometry)) = refl

-- ---- nodes of which none is claimed

-- what is right below a node, where it is still there
pub record AreStill (hidden : Bool) (f g : Forest RenderObject) : Type 0 where
  pub list : tops g ≡ tops f
  pub told : AreToldSame f g
  pub sized : AreSizedSame hidden f g

pub none_pruned : (claimed : Handle → Bool) (hidden : Bool) (f : Forest RenderObject) → some_claimed claimed f ≡ false → AreStill hidden f (pruned claimed f)
none_pruned claimed hidden none free = record { list = refl; told = tt; sized = tt }
none_pruned claimed hidden (tree h o kids rest) free =
    let parts = or_parts (claimed h) (some_claimed claimed rest) free in by_claim (claimed h) parts.0 (none_pruned claimed hidden rest parts.1)
  where
    by_claim : (b : Bool) → b ≡ false → AreStill hidden rest (pruned claimed rest) → AreStill hidden (tree h o kids rest) (if b then pruned claimed rest else tree h o (pruned claimed kids) (pruned claimed rest))
    by_claim true e later = absurd (false≢true (sym e))
    by_claim false e later = record {
      list = ap (λ l. h ∷ l) later.list;
      told = (refl, later.told);
      sized = (refl, refl, later.sized);
    }

module _ (before : Before) (told_same : (a b : ParentData) → Decides (is_told_same a b) (a ≡ b)) (old made : Tree RenderObject) (differ : NumbersDiffer made) where
  -- children of the same numbers are the same
  pub child_parts : (n : ℕ) (t : ParentData) (m : ℕ) (u : ParentData) → is_child_same (n, t) (m, u) ≡ true → (n ≡ m) × (t ≡ u)
  child_parts n t m u e = let parts = and_parts (eqb n m) (is_told_same t u) e in ((unsigned_Decides n m).0 parts.0, (told_same t u).0 parts.1)

  -- none of them is claimed, whose numbers are free
  pub none_claimed : (claimed : Handle → Bool) (f : Forest RenderObject) (rs : Renders) → AllStored (object_at old) f → pointwise is_child_same (list_below (renders_of f)) (list_below rs) ≡ true
      → AreUnclaimed old claimed rs → some_claimed claimed f ≡ false
  none_claimed claimed none rs stored lists free = refl
  none_claimed claimed (tree h o kids rest) no_renders stored lists free = absurd (false≢true lists)
  none_claimed claimed (tree h o kids rest) (more_renders (render number look told scroll count children) rs) stored lists free =
      let split = and_parts (is_child_same (o.number, o.parent_data) (number, told)) (pointwise is_child_same (list_below (renders_of rest)) (list_below rs)) lists in
      let same = child_parts o.number o.parent_data number told split.0 in
      (λ i. free.0.0 h o stored.0 same.0 i || some_claimed claimed rest) ∙ none_claimed claimed rest rs stored.2 split.1 free.1

  -- nodes of one number have one handle
  same_handle : (h k : Handle) (v w : RenderObject) → object_at made h ≡ Some v → object_at made k ≡ Some w → v.number ≡ w.number → h ≡ k
  same_handle h k v w a b e =
      differ w.number h k (ap (option_map (λ (o : RenderObject). o.number)) a ∙ ap (λ n. Some n) e) (ap (option_map (λ (o : RenderObject). o.number)) b)

  -- what is right below an outer node that isn't a list
  pub outer_still : (hidden : Bool) (f g : Forest RenderObject) (rs : Renders) → AllStored (object_at made) f → AreCarried (object_at made) g → AreOuter g rs → HaveFrames before.frames f
      → pointwise is_child_same (list_below (renders_of f)) (list_below rs) ≡ true → AreSizedSo before hidden (renders_of f) rs → AreStill hidden f g
  outer_still hidden none none rs stored carried outer frames lists sized = record { list = refl; told = tt; sized = tt }
  outer_still hidden none (tree k w under rest) no_renders stored carried outer frames lists sized = absurd outer
  outer_still hidden none (tree k w under rest) (more_renders r rs) stored carried outer frames lists sized = absurd (false≢true lists)
  outer_still hidden (tree h o kids more) none no_renders stored carried outer frames lists sized = absurd (false≢true lists)
  outer_still hidden (tree h o kids more) none (more_renders r rs) stored carried outer frames lists sized = absurd outer
  outer_still hidden (tree h o kids more) (tree k w under rest) no_renders stored carried outer frames lists sized = absurd outer
  outer_still hidden (tree h o kids more) (tree k w under rest) (more_renders (render number look told scroll count children) rs) stored carried outer frames lists sized =
      let split = and_parts (is_child_same (o.number, o.parent_data) (number, told)) (pointwise is_child_same (list_below (renders_of more)) (list_below rs)) lists in
      let same = child_parts o.number o.parent_data number told split.0 in
      let later = outer_still hidden more rest rs stored.2 carried.2 outer.2 frames.2 split.1 sized.2 in
      let handle : k ≡ h = same_handle k h carried.0.stored o carried.0.is stored.0 (sym carried.0.number ∙ (outer.0.number ∙ sym same.0)) in
      let say : has_say hidden (bounds_in (before.frames number)) ≡ has_say hidden (object_bounds o.frame) =
      ap (λ b. has_say hidden b) (ap (λ n. bounds_in (before.frames n)) (sym same.0) ∙ (ap bounds_in (sym frames.0) ∙ same_bounds o.frame)) in
      record {
        list = (λ i. handle i ∷ tops rest) ∙ ap (λ l. h ∷ l) later.list;
        told = (same.1 ∙ sym outer.0.told, later.told);
        sized = (
          subst (λ (b : Bool). (b && is_viewport (object_look w)) ≡ (b && is_viewport (object_look o))) say
              (ap (λ l. has_say hidden (bounds_in (before.frames number)) && is_viewport l) outer.0.look ∙ sym sized.0),
          subst (λ (b : Bool). (b && is_offstage (object_look w)) ≡ (b && is_offstage (object_look o))) say
              (ap (λ l. has_say hidden (bounds_in (before.frames number)) && is_offstage l) outer.0.look ∙ sym sized.1),
          later.sized,
        );
      }

  -- a layout reads the same of a node itself
  pub own_still : (o : RenderObject) (items : Forest RenderObject) (w : RenderObject) (r : Render) → IsOuter w r → w.scroll ≡ o.scroll → for_layout (object_look o) ≡ for_layout (look_of r)
      → lazy_children o ≡ widget_count_of r → layout_own w ≡ layout_own o
  own_still o items w r outer scroll look count =
      let looks : for_layout (object_look w) ≡ for_layout (object_look o) = ap for_layout outer.look ∙ sym look in
      let counts : lazy_children w ≡ lazy_children o = outer.count ∙ sym count in
      λ i. record { look = looks i; scroll = scroll i; count = counts i }
