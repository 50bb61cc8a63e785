-- The changes of a tree of render nodes, each with its marks.
use Rattle.std.proofs.Common.{◌≡◌, ap, refl, sym, subst, ◌∙◌, ℕ, ◌+◌, Bool, true, false, cond, Option, Some, None, option_map, List, [], ◌∷◌, inl, inr, arith}
use Rattle.std.proofs.lemmas.Bool.{cases_Bool, or_parts, true≢false}
use Rattle.fx_handles.specs.declared.Handle.{Handle}
use Rattle.fx_handles.specs.Handle.{same}
use Rattle.fx_handles.specs.HandleLaws.{same-true}
use Rattle.fx_handles.specs.ArenaLaws.{same_Some}
use Rattle.node_tree.specs.Forest.{TreeNode, Forest, Stands, plain, set_value, size, with_value_at}
use Rattle.node_tree.specs.Forest.Forest.{none, tree}
use Rattle.node_tree.proofs.ForestLemmas.{plain_is}
use Rattle.node_tree.specs.Plan.{PlanEntry, IsPlan, IsUpdated}
use Rattle.node_tree.specs.Tree.{Tree, IsTree, Is, node_at, value_at}
use Rattle.widget_model.specs.Look.{Look}
use Rattle.work_roles.specs.WorkRole.{is_offstage}
use Rattle.tree_marks.specs.Marking.{Above, at_top, within}
use Rattle.tree_marks.specs.Marks.{sweep}
use Rattle.tree_marks.specs.Commit.{stored_by, KeepsMarks, IsReady, KeepsAt, CarriedAt, IsCommitStore}
use Rattle.tree_marks.proofs.Closing.{unflagged-sweep}
use Rattle.tree_marks.proofs.Surviving.{IsCommit-planned, IsCommit-store}
use Rattle.render_tree.specs.Changes.{LaidAnew}
use Rattle.render_tree.specs.Edits.{Writes, with_scroll}
use Rattle.render_tree.specs.MarkLaws.{layout_lawful}
use Rattle.render_tree.specs.Marked.{SetsMarks}
use Rattle.render_tree.specs.Marks.{layout_marks, layout_parts, layout_told, paint_marks}
use Rattle.render_tree.specs.Object.{RenderObject, object_look}
use Rattle.render_tree.specs.Redraw.{Redraw, redrawn}
use Rattle.render_tree.specs.Tree.{object_at}
use Rattle.render_tree.proofs.Covering.{anew-covers}
use Rattle.render_tree.proofs.LayoutParts.{layout_whole}
use Rattle.layout_form.specs.Object.{Setting}
use Rattle.layout_walk.specs.Rule.{Lawful}
use Rattle.layout_walk.specs.Here.{HereAll}
use Rattle.layout_walk.specs.Node.{LayoutNode}
use Rattle.layout_walk.specs.Rules.{parts_of}
use Rattle.layout_rules.specs.Nodes.{layout_node, layout_nodes}
use Rattle.kept_layouts.specs.Here.{KeepsLayouts, HereAt, HereStore, AddsMarked, ReadsSame, ReadSameBut}
use Rattle.kept_layouts.proofs.Firm.{FrameTest}
use Rattle.kept_layouts.proofs.Kept.{here_store, AllRead, commit_here}

-- ---- trees are one forest

pub one_forest : (t : Tree RenderObject) (f g : Forest RenderObject) → Is t f → Is t g → f ≡ g
one_forest t f g one two =
    let n : ℕ = size f + size g in
    sym (plain_is (node_at t) None f n one.stands (omega arith)) ∙ (ap (plain n (node_at t)) (sym one.tops ∙ two.tops) ∙ plain_is (node_at t) None g n two.stands (omega arith))

-- ---- nodes that stand nowhere yet

stand_on : (old new : Handle → Option (TreeNode RenderObject)) → ((k : Handle) (n : TreeNode RenderObject) → old k ≡ Some n → new k ≡ Some n) → (q : Option Handle) (f : Forest RenderObject) → Stands old q f → Stands new q f
stand_on old new keeps q none stands = tt
stand_on old new keeps q (tree k v kids rest) stands = (keeps k _ stands.0, stand_on old new keeps (Some k) kids stands.1, stand_on old new keeps q rest stands.2)

pub more_here : (s : Setting) (old new : Handle → Option (TreeNode RenderObject)) → HereStore s old → AddsMarked old new → HereStore s new
more_here s old new here adds k n there = by_old (old k) refl
  where
    by_old : (o : Option (TreeNode RenderObject)) → old k ≡ o → HereAt s new k n
    by_old (Some m) e = subst (λ (x : TreeNode RenderObject). HereAt s new k x) (same_Some (sym (adds.keeps k m e) ∙ there)) (let x = here k m e in record {
      kids = x.kids;
      list = x.list;
      stands = stand_on old new adds.keeps (Some k) x.kids x.stands;
      here = x.here;
      all = x.all;
    })
    by_old None e = record {
      kids = none;
      list = adds.bare k n e there;
      stands = tt;
      here = record {
        consistent = λ flag. absurd (true≢false (sym (adds.flag k n e there) ∙ flag));
        closed = λ flag. absurd (true≢false (sym (adds.flag k n e there) ∙ flag));
        marked = λ below. absurd (true≢false (sym (adds.below k n e there) ∙ below));
      };
      all = tt;
    }

pub tree_here : (s : Setting) (t : Tree RenderObject) → IsTree t → KeepsLayouts s t → HereStore s (node_at t)
tree_here s t is keeps = here_store s t is.0 is.1 (keeps is.0 is.1)

-- ---- what a setting tells

same_setting : (s : Setting) (look : Look) → ReadsSame s s look
same_setting s look = record { cell = refl; delegate = λ name is. refl }

all_same : (s : Setting) (f : Forest RenderObject) → AllRead s s f
all_same s none = tt
all_same s (tree k v kids rest) = ((λ flag. same_setting s (object_look v)), all_same s kids, all_same s rest)

all_but : (s after : Setting) (t : Tree RenderObject) (hs : List Handle) → ReadSameBut s after t hs → (q : Option Handle) (p : Above) (f : Forest RenderObject) → Stands (node_at t) q f
    → AllRead s after (sweep layout_marks true hs p f)
all_but s after t hs reads q p none stands = tt
all_but s after t hs reads q p (tree k v kids rest) stands = (
  λ flag.
      let free = unflagged-sweep layout_marks layout_lawful layout_whole true hs p k v kids flag in
      reads k v (ap (option_map (λ (n : TreeNode RenderObject). n.value)) stands.0) free.1,
  all_but s after t hs reads (Some k) (within layout_marks p v) kids stands.1,
  all_but s after t hs reads q p rest stands.2,
)

-- ---- a plan

redraw_keeps : KeepsMarks redrawn layout_marks layout_parts
redraw_keeps = record { flag = λ u v. refl; below = λ u v. refl; stored = λ u v. refl }

ready : (t : Tree RenderObject) → IsReady redrawn layout_marks layout_parts (node_at t) (value_at t)
ready t = record {
  was = λ k n v is now. same_Some (sym now ∙ ap (option_map (λ (y : TreeNode RenderObject). y.value)) is);
  fresh = λ k v is now. absurd (some_none v (sym now ∙ ap (option_map (λ (y : TreeNode RenderObject). y.value)) is));
}
  where
    some_none : (v : RenderObject) → Some v ≡ None → ⊥
    some_none v e = cc

pub plan_keeps : FrameTest → (s : Setting) → Lawful (parts_of s) → (t : Tree RenderObject) (es : List (PlanEntry Redraw)) (root : Option Handle) (inactive : List Handle) (g : Forest Redraw) (f : Forest RenderObject)
    (hs : List Handle) (p : Above) → HereStore s (node_at t) → IsPlan t es root inactive g → LaidAnew t root es hs → IsUpdated redrawn (value_at t) g f
    → HereAll (parts_of s) (layout_nodes (sweep layout_marks true hs p f))
plan_keeps test s law t es root inactive g f hs p here plan anew made =
    commit_here s s law test (node_at t) here hs p f
    (IsCommit-planned redrawn layout_marks layout_parts redraw_keeps (node_at t) (value_at t) hs g f (ready t) (anew-covers t es root inactive g hs plan anew) made)
    (all_same s (sweep layout_marks true hs p f))

-- ---- marks alone

still : (at : Handle → Option (TreeNode RenderObject)) (hs : List Handle) → IsCommitStore layout_marks layout_parts hs at at
still at hs k now there = by_node (at k) there
  where
    by_node : (o : Option (TreeNode RenderObject)) → o ≡ Some now → CarriedAt layout_marks layout_parts hs at at o k now
    by_node None e = absurd (cc)
    by_node (Some n) e = same_at n (same_Some e)
      where
        same_at : (n : TreeNode RenderObject) → n ≡ now → KeepsAt layout_marks layout_parts hs at at n k now
        same_at n e = record {
          flag = ap (λ (x : TreeNode RenderObject). layout_marks.flag x.value) (sym e);
          below = ap (λ (x : TreeNode RenderObject). layout_marks.below x.value) (sym e);
          stored = ap (λ (x : TreeNode RenderObject). layout_parts.stored x.value) (sym e);
          own = λ off. ap (λ (x : TreeNode RenderObject). layout_parts.own x.value) (sym e);
          children = λ off. ap (λ (x : TreeNode RenderObject). stored_by (layout_told (is_offstage (object_look now.value))) at x.children) (sym e);
        }

pub marks_keep : FrameTest → (s after : Setting) → Lawful (parts_of s) → (old new : Tree RenderObject) (hs : List Handle) → IsTree old → KeepsLayouts s old → ReadSameBut s after old hs
    → SetsMarks layout_marks true hs old new → KeepsLayouts after new
marks_keep test s after law old new hs is keeps reads sets = λ f there.
    let all = keeps is.0 is.1 in
    subst (λ (x : Forest RenderObject). HereAll (parts_of after) (layout_nodes x)) (one_forest new (sweep layout_marks true hs at_top is.0) f (sets.plain is.0 is.1) there)
    (commit_here s after law test (node_at old) (here_store s old is.0 is.1 all) hs at_top is.0
    (IsCommit-store layout_marks layout_parts hs (node_at old) (node_at old) None is.0 (still (node_at old) hs) is.1.stands)
    (all_but s after old hs reads None at_top is.0 is.1.stands))

-- ---- another offset of a Viewport

module _ (old mid : Tree RenderObject) (h : Handle) (o : RenderObject) (scroll : ℕ) (is : object_at old h ≡ Some o) (writes : Writes old mid h (with_scroll scroll o)) where
  abbrev there : Handle → TreeNode RenderObject → TreeNode RenderObject
  there k n = with_value_at h (with_scroll scroll o) k n

  value_here : (k : Handle) (n : TreeNode RenderObject) → node_at old k ≡ Some n → same k h ≡ true → n.value ≡ o
  value_here k n e c =
      same_Some (sym (ap (option_map (λ (x : TreeNode RenderObject). x.value)) (sym (ap (node_at old) (same-true k h c)) ∙ e)) ∙ is)

  -- what isn't its offset is as before
  part_there : {A : Type 0} (part : RenderObject → A) → part (with_scroll scroll o) ≡ part o → (k : Handle) (n : TreeNode RenderObject) → node_at old k ≡ Some n → part (there k n).value ≡ part n.value
  part_there part steady k n e = elim (cases_Bool (same k h)) [
    | inl c ↦
        ap (λ b. part (cond b (record n { value = with_scroll scroll o }) n).value) c ∙ (steady ∙ ap part (sym (value_here k n e c)))
    | inr c ↦ ap (λ b. part (cond b (record n { value = with_scroll scroll o }) n).value) c
  ]

  children_there : (k : Handle) (n : TreeNode RenderObject) → (there k n).children ≡ n.children
  children_there k n = elim (cases_Bool (same k h)) [
    | inl c ↦ ap (λ b. (cond b (record n { value = with_scroll scroll o }) n).children) c
    | inr c ↦ ap (λ b. (cond b (record n { value = with_scroll scroll o }) n).children) c
  ]

  told_there : (b : Bool) (k : Handle) → option_map (λ (n : TreeNode RenderObject). layout_told b n.value) (node_at mid k) ≡ option_map (λ (n : TreeNode RenderObject). layout_told b n.value) (node_at old k)
  told_there b k = ap (option_map (λ (n : TreeNode RenderObject). layout_told b n.value)) (writes.writes.nodes k) ∙ by_node (node_at old k) refl
    where
      by_node : (x : Option (TreeNode RenderObject)) → node_at old k ≡ x
          → option_map (λ (n : TreeNode RenderObject). layout_told b n.value) (option_map (there k) x) ≡ option_map (λ (n : TreeNode RenderObject). layout_told b n.value) x
      by_node None e = refl
      by_node (Some n) e = ap Some (part_there (layout_told b) refl k n e)

  list_there : (b : Bool) (ks : List Handle) → stored_by (layout_told b) (node_at mid) ks ≡ stored_by (layout_told b) (node_at old) ks
  list_there b [] = refl
  list_there b (k ∷ ks) = ap (λ x. (k, x) ∷ stored_by (layout_told b) (node_at mid) ks) (told_there b k) ∙ ap (λ r. (k, option_map (λ (n : TreeNode RenderObject). layout_told b n.value) (node_at old k)) ∷ r) (list_there b ks)

  scrolled_store : IsCommitStore layout_marks layout_parts (h ∷ []) (node_at old) (node_at mid)
  scrolled_store k now is_now = by_node (node_at old k) refl (sym (writes.writes.nodes k) ∙ is_now)
    where
      by_node : (x : Option (TreeNode RenderObject)) → node_at old k ≡ x → option_map (there k) x ≡ Some now → CarriedAt layout_marks layout_parts (h ∷ []) (node_at old) (node_at mid) x k now
      by_node None e written = absurd (cc)
      by_node (Some n) e written =
          let now_is : there k n ≡ now = same_Some written in
          record {
            flag = ap (λ (x : TreeNode RenderObject). layout_marks.flag x.value) (sym now_is) ∙ part_there (layout_marks.flag) refl k n e;
            below = ap (λ (x : TreeNode RenderObject). layout_marks.below x.value) (sym now_is) ∙ part_there (layout_marks.below) refl k n e;
            stored = ap (λ (x : TreeNode RenderObject). layout_parts.stored x.value) (sym now_is) ∙ part_there (layout_parts.stored) refl k n e;
            own = λ off.
                let other : same_handle ≡ false = (or_parts same_handle false off).0 in
                ap (λ (x : TreeNode RenderObject). layout_parts.own x.value) (sym now_is) ∙ ap (λ b. layout_parts.own (cond b (record n { value = with_scroll scroll o }) n).value) other;
            children = λ off.
                ap (λ (x : TreeNode RenderObject). stored_by (layout_told (is_offstage (object_look now.value))) (node_at mid) x.children) (sym now_is)
                ∙ (ap (stored_by (layout_told (is_offstage (object_look now.value))) (node_at mid)) (children_there k n) ∙ list_there (is_offstage (object_look now.value)) n.children);
          }
        where
          same_handle : Bool
          same_handle = same k h

pub scroll_keeps : FrameTest → (s : Setting) → Lawful (parts_of s) → (old mid new : Tree RenderObject) (h : Handle) (o : RenderObject) (scroll : ℕ) → IsTree old → KeepsLayouts s old → object_at old h ≡ Some o
    → Writes old mid h (with_scroll scroll o) → SetsMarks layout_marks true (h ∷ []) mid new → KeepsLayouts s new
scroll_keeps test s law old mid new h o scroll is keeps at writes sets = λ f there.
    let all = keeps is.0 is.1 in
    let written = set_value h (with_scroll scroll o) is.0 in
    let stood : Is mid written = writes.plain is.0 is.1 in
    subst (λ (x : Forest RenderObject). HereAll (parts_of s) (layout_nodes x)) (one_forest new (sweep layout_marks true (h ∷ []) at_top written) f (sets.plain written stood) there)
    (commit_here s s law test (node_at old) (here_store s old is.0 is.1 all) (h ∷ []) at_top written
    (IsCommit-store layout_marks layout_parts (h ∷ []) (node_at old) (node_at mid) None written (scrolled_store old mid h o scroll at writes) stood.stands)
    (all_same s (sweep layout_marks true (h ∷ []) at_top written)))

-- ---- marks for painting

paint_nodes : (also : Bool) (hs : List Handle) (p : Above) (f : Forest RenderObject) → layout_nodes (sweep paint_marks also hs p f) ≡ layout_nodes f
paint_nodes also hs p none = refl
paint_nodes also hs p (tree k v kids rest) =
    ap (λ (x : Forest LayoutNode). tree k (layout_node v) x (layout_nodes (sweep paint_marks also hs p rest))) (paint_nodes also hs (within paint_marks p v) kids)
    ∙ ap (λ (x : Forest LayoutNode). tree k (layout_node v) (layout_nodes kids) x) (paint_nodes also hs p rest)

pub paint_keeps : (s : Setting) (also : Bool) (hs : List Handle) (old new : Tree RenderObject) → IsTree old → SetsMarks paint_marks also hs old new → KeepsLayouts s old → KeepsLayouts s new
paint_keeps s also hs old new is sets keeps = λ f there.
    subst (λ (x : Forest LayoutNode). HereAll (parts_of s) x) (sym (paint_nodes also hs at_top is.0) ∙ ap layout_nodes (one_forest new (sweep paint_marks also hs at_top is.0) f (sets.plain is.0 is.1) there))
    (keeps is.0 is.1)
