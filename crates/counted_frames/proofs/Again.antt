-- Nodes of the whole build, against those that are kept for it: which of them a plan changes.
use Rattle.std.proofs.Common.{◌≡◌, Bool, true, ◌&&◌, Option, Some, None, option_map, List, ◌∷◌, refl, sym, ap, ◌∙◌, subst, inl, inr, Decides}
use Rattle.std.proofs.lemmas.Bool.{and_parts, false≢true}
use lib.Pointwise.{pointwise}
use Rattle.fx_handles.specs.declared.Handle.{Handle}
use Rattle.fx_handles.specs.ArenaLaws.{same_Some}
use Rattle.node_tree.specs.Forest.{TreeNode, Forest, tops, Stands}
use Rattle.node_tree.specs.Forest.Forest.{none, tree}
use Rattle.node_tree.specs.Tree.{Tree, node_at}
use Rattle.widget_model.specs.Plain.{PlainWidget, look_of, children_of}
use Rattle.plain_tree.specs.declared.render.ParentData.{ParentData}
use Rattle.plain_tree.specs.RenderRole.{render_role_of}
use Rattle.plain_tree.specs.Render.{lazy_count}
use Rattle.tree_marks.specs.Marks.{listed}
use Rattle.work_roles.specs.WorkRole.{is_offstage, is_viewport}
use Rattle.work_sets.specs.Before.{Before, bounds_in}
use Rattle.work_sets.specs.Layout.{is_told_same, is_child_same, list_below}
use Rattle.render_tree.specs.Changes.{BecomesRoot}
use Rattle.render_tree.specs.Marks.{has_say}
use Rattle.render_tree.specs.Object.{RenderObject, object_look, bounds_in as object_bounds}
use Rattle.render_tree.specs.Plain.{lazy_children, renders_of}
use Rattle.render_tree.specs.Tree.{object_at}
use Rattle.render_sync.specs.Numbering.{NumbersDiffer}
use Rattle.build_walk.specs.Changing.{AreStored, AreSizedSame, StoodBelow, KeepsForLayout, ChangesForLayout, SomeChanges}
use Rattle.build_walk.proofs.Reporting.{reported_changes}
use Rattle.counted_work.proofs.Synced.{one_under}
use Rattle.counted_work.proofs.Twins.{AreCarried}
use Rattle.counted_phases.specs.Framed.{HaveFrames}
use Rattle.counted_phases.specs.Unreached.{AreSizedSo}
use Rattle.kept_phases.specs.Redraws.{Redraws}
use Rattle.counted_frames.proofs.Kept.{AreStill, child_parts, same_bounds}

-- ---- what the second phase marks

module _ (ranged brought : Tree RenderObject) (second : Redraws ranged brought) where
  changes_in : (q : Option Handle) (g : Forest RenderObject) (k : Handle) (w : RenderObject) (under : Forest RenderObject) (r : Option Handle) → Stands (node_at second.committed) q g
      → node_at second.committed k ≡ Some (record { parent = r; children = tops under; value = w }) → Stands (node_at second.committed) (Some k) under → SomeChanges second.made k g → ChangesForLayout second.made k w under
  changes_in q none k w under r stands at beneath s = absurd s
  changes_in q (tree j v kids rest) k w under r stands at beneath (inl here) =
      let node : Option Handle → List Handle → RenderObject → TreeNode RenderObject = λ a l x. record { parent = a; children = l; value = x } in
      let same_node : node q (tops kids) v ≡ node r (tops under) w = same_Some (sym stands.0 ∙ (ap (node_at second.committed) here.0 ∙ at)) in
      let same_kids : kids ≡ under = one_under (node_at second.committed) (Some k) kids under (subst (λ x. Stands (node_at second.committed) (Some x) kids) here.0 stands.1) beneath
      (ap (λ (n : TreeNode RenderObject). n.children) same_node) in
      subst (λ f. ChangesForLayout second.made k w f) same_kids (subst (λ x. ChangesForLayout second.made k x kids) (ap (λ (n : TreeNode RenderObject). n.value) same_node)
      (subst (λ x. ChangesForLayout second.made x v kids) here.0 here.1))
  changes_in q (tree j v kids rest) k w under r stands at beneath (inr (inl below_j)) = changes_in (Some j) kids k w under r stands.1 at beneath below_j
  changes_in q (tree j v kids rest) k w under r stands at beneath (inr (inr later)) = changes_in q rest k w under r stands.2 at beneath later

  -- a node that is, with what is right below it, as it was, isn't marked, but as a root that was none
  pub unmarked : (k : Handle) (w : RenderObject) (under : Forest RenderObject) (r : Option Handle) → node_at second.committed k ≡ Some (record { parent = r; children = tops under; value = w })
      → Stands (node_at second.committed) (Some k) under → (o : RenderObject) (was : Forest RenderObject) → object_at second.made k ≡ Some o → StoodBelow second.made k was
      → KeepsForLayout o was w under × AreSizedSame (is_offstage (object_look o)) was under → (BecomesRoot second.made second.committed.root k → ⊥) → listed k second.laid ≡ true → ⊥
  unmarked k w under r at beneath o was stored stood keeps no_root is = elim (second.laid_anew.caused k is) [
    | inl some ↦ changes_in None second.nodes k w under r second.is.stands at beneath (reported_changes second.made k second.updates second.nodes second.updated some) o was stored stood keeps
    | inr root ↦ no_root root
  ]

-- ---- nodes that are kept as they were in the last frame

-- what is read of a node by its parent
pub record IsKeptSo (o v : RenderObject) : Type 0 where
  pub number : v.number ≡ o.number
  pub widget : v.widget ≡ o.widget
  pub told : v.parent_data ≡ o.parent_data
  pub frame : v.frame ≡ o.frame

-- so it is of these
abbrev pub AreKeptSo : Forest RenderObject → Forest RenderObject → Type 0
AreKeptSo none none = Unit {0}
AreKeptSo none (tree k w under rest) = ⊥
AreKeptSo (tree h v kids more) none = ⊥
AreKeptSo (tree h v kids more) (tree k w under rest) = IsKeptSo v w × AreKeptSo more rest

pub look_by : (o v : RenderObject) → v.widget ≡ o.widget → object_look v ≡ object_look o
look_by o v e = ap (λ (w : PlainWidget). look_of w) e

pub count_by : (o v : RenderObject) → v.widget ≡ o.widget → lazy_children v ≡ lazy_children o
count_by o v e = ap (λ (w : PlainWidget). lazy_count (render_role_of (look_of w)) (children_of w)) e

module _ (before : Before) (told_same : (a b : ParentData) → Decides (is_told_same a b) (a ≡ b)) (old made : Tree RenderObject) (differ : NumbersDiffer made) where
  same_handle : (h k : Handle) (v w : RenderObject) → object_at made h ≡ Some v → object_at made k ≡ Some w → v.number ≡ w.number → h ≡ k
  same_handle h k v w a b e =
      differ w.number h k (ap (option_map (λ (o : RenderObject). o.number)) a ∙ ap (λ n. Some n) e) (ap (option_map (λ (o : RenderObject). o.number)) b)

  -- children that were there, against those that are
  pub items_still : (hidden : Bool) (f g under : Forest RenderObject) → AreKeptSo f g → AreStored made g → AreCarried (object_at made) under → HaveFrames before.frames f
      → pointwise is_child_same (list_below (renders_of f)) (list_below (renders_of under)) ≡ true → AreSizedSo before hidden (renders_of f) (renders_of under) → AreStill hidden g under
  items_still hidden none none none kept stored carried frames lists sized = record { list = refl; told = tt; sized = tt }
  items_still hidden none none (tree k w under rest) kept stored carried frames lists sized = absurd (false≢true lists)
  items_still hidden none (tree j v below_v others) under kept stored carried frames lists sized = absurd kept
  items_still hidden (tree h o kids more) none under kept stored carried frames lists sized = absurd kept
  items_still hidden (tree h o kids more) (tree j v below_v others) none kept stored carried frames lists sized = absurd (false≢true lists)
  items_still hidden (tree h o kids more) (tree j v below_v others) (tree k w under rest) kept stored carried frames lists sized =
      let split = and_parts (is_child_same (o.number, o.parent_data) (w.number, w.parent_data)) (pointwise is_child_same (list_below (renders_of more)) (list_below (renders_of rest))) lists in
      let same = child_parts before told_same old made differ o.number o.parent_data w.number w.parent_data split.0 in
      let later = items_still hidden more others rest kept.1 stored.1 carried.2 frames.2 split.1 sized.2 in
      let handle : k ≡ j = same_handle k j carried.0.stored v carried.0.is stored.0 (sym carried.0.number ∙ (sym same.0 ∙ sym kept.0.number)) in
      let look : object_look v ≡ object_look o = look_by o v kept.0.widget in
      let say : has_say hidden (bounds_in (before.frames w.number)) ≡ has_say hidden (object_bounds v.frame) =
      ap (λ b. has_say hidden b) (ap (λ n. bounds_in (before.frames n)) (sym same.0) ∙ (ap bounds_in (sym frames.0 ∙ sym kept.0.frame) ∙ same_bounds v.frame)) in
      record {
        list = (λ i. handle i ∷ tops rest) ∙ ap (λ l. j ∷ l) later.list;
        told = (kept.0.told ∙ same.1, later.told);
        sized = (
          subst (λ (b : Bool). (b && is_viewport (object_look w)) ≡ (b && is_viewport (object_look v))) say
              (sym sized.0 ∙ ap (λ l. has_say hidden (bounds_in (before.frames w.number)) && is_viewport l) (sym look)),
          subst (λ (b : Bool). (b && is_offstage (object_look w)) ≡ (b && is_offstage (object_look v))) say
              (sym sized.1 ∙ ap (λ l. has_say hidden (bounds_in (before.frames w.number)) && is_offstage l) (sym look)),
          later.sized,
        );
      }

-- ---- the nodes that stand where those of the last frame stood

module _ (old made : Tree RenderObject) where
  -- each of these nodes of the last frame is kept
  abbrev pub AreThere : Forest RenderObject → Type 0
  AreThere none = Unit {0}
  AreThere (tree h o kids rest) = ((v : RenderObject) × (object_at made h ≡ Some v) × IsKeptSo o v) × AreThere rest

  pub record AreRenewed (f : Forest RenderObject) : Type 0 where
    pub now : Forest RenderObject
    pub list : tops now ≡ tops f
    pub stored : AreStored made now
    pub kept : AreKeptSo f now

  pub renewed : (f : Forest RenderObject) → AreThere f → AreRenewed f
  renewed none there = record { now = none; list = refl; stored = tt; kept = tt }
  renewed (tree h o kids rest) there =
      let later = renewed rest there.1 in
      record {
        now = tree h there.0.0 none later.now;
        list = ap (λ l. h ∷ l) later.list;
        stored = (there.0.1, later.stored);
        kept = (there.0.2, later.kept);
      }
