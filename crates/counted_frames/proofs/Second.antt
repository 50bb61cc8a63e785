-- The second phase: the whole build's nodes against those that the first phase and the flush of its lists left.
use Rattle.std.proofs.Common.{◌≡◌, ℕ, zero, suc, Bool, true, false, Option, Some, None, option_map, List, refl, sym, ap, ◌∙◌, arith}
use Rattle.std.proofs.lemmas.Bool.{false≢true}
use Rattle.fx_geom.specs.declared.shapes.Size.{Size}
use Rattle.fx_handles.specs.declared.Handle.{Handle}
use Rattle.fx_handles.specs.Handle.{Among}
use Rattle.node_tree.specs.Forest.{TreeNode, Forest, count}
use Rattle.node_tree.specs.Part.{kept_by}
use Rattle.node_tree.specs.Plan.{PlanEntry, entries, entry_at}
use Rattle.node_tree.specs.Tree.{Tree, node_at}
use Rattle.plain_tree.specs.Laws.{AllDiffer, render_numbers_in}
use Rattle.plain_tree.specs.Render.{Render, no_renders, more_renders}
use Rattle.tree_marks.specs.Marking.{at_top}
use Rattle.tree_marks.specs.Marks.{sweep}
use Rattle.layout_form.specs.Object.{Setting}
use Rattle.layout_rules.specs.Nodes.{layout_nodes}
use Rattle.kept_layers.proofs.RootTrees.{root_stands}
use Rattle.kept_layouts.specs.Items.{all_without_items}
use Rattle.render_tree.specs.Marks.{layout_marks, paint_marks}
use Rattle.render_tree.specs.Object.{RenderObject}
use Rattle.render_tree.specs.Plain.{renders_of, root_tree}
use Rattle.render_tree.specs.Redraw.{Redraw, redrawn}
use Rattle.render_tree.specs.Tree.{object_at}
use Rattle.kept_phases.specs.Lists.{FlushesLists, StaysBuilt}
use Rattle.frame_owner.specs.Working.{LaysLists}
use Rattle.counted_frames.proofs.Planned.{no_some, some_is}
use Rattle.counted_frames.proofs.Part.{front_stands, made_object, commit_object}
use Rattle.counted_frames.proofs.Outer.{IsItemNumber, no_both, named_outer, outer_number}
use Rattle.counted_frames.proofs.First.{claimed, changed, repainted, both_marks, mid_stands, mid_is, outer_is, carried, planned, left}
use Rattle.counted_frames.proofs.Laid.{ListsAlike}
use Rattle.counted_frames.proofs.Moved.{outer_named, as_was}
use Rattle.counted_frames.proofs.Ranged.{swept_count, item_frame, ranged_node, beside_frame}
use Rattle.counted_frames.proofs.Again.{IsKeptSo}

module _ (s : Setting) (view : Size) (old : Tree RenderObject) (top : Render) (lo ln : ℕ) (lists : LaysLists s view old lo ln)
    (whole_is : all_without_items (renders_of (root_tree lists.mid)) ≡ all_without_items (more_renders top no_renders)) (apart : AllDiffer (render_numbers_in (more_renders top no_renders)))
    (ranged : Tree RenderObject) (fl : FlushesLists s view lists.mid ranged) (stays : StaysBuilt lists.mid ranged)
    (alike : ListsAlike (layout_nodes (both_marks s view old top lo ln lists whole_is lists.first.nodes)) (layout_nodes (root_tree fl.flushed))) where
  abbrev mid : Tree RenderObject
  mid = lists.mid

  abbrev made : Tree RenderObject
  made = lists.first.made

  abbrev claims : Handle → Bool
  claims = claimed s view old top lo ln lists whole_is

  abbrev marks : Forest RenderObject → Forest RenderObject
  marks f = both_marks s view old top lo ln lists whole_is f

  -- the number of an item of the whole build
  abbrev pub IsItemOf : ℕ → Type 0
  IsItemOf n = IsItemNumber n (more_renders top no_renders)

  -- a node with such a number isn't claimed
  pub unclaimed : (k : Handle) (o : RenderObject) → object_at made k ≡ Some o → IsItemOf o.number → claims k ≡ false
  unclaimed k o at item = by (claims k) refl
    where
      by : (b : Bool) → claims k ≡ b → b ≡ false
      by true e =
          absurd (no_both o.number (more_renders top no_renders) apart
          (outer_number (object_at made) k o lists.first.nodes (more_renders top no_renders) (carried s view old top lo ln lists whole_is) (outer_is s view old top lo ln lists whole_is) at
          (named_outer (object_at made) _ k lists.drawn lists.first.nodes lists.bare (planned s view old top lo ln lists whole_is) e)) item)
      by false e = refl

  -- what the marks leave of a node
  pub record IsMidSo (k : Handle) (n : TreeNode RenderObject) : Type 0 where
    pub node : TreeNode RenderObject
    pub at : node_at mid k ≡ Some node
    pub children : node.children ≡ n.children
    pub number : node.value.number ≡ n.value.number
    pub widget : node.value.widget ≡ n.value.widget
    pub told : node.value.parent_data ≡ n.value.parent_data
    pub scroll : node.value.scroll ≡ n.value.scroll
    pub frame : node.value.frame ≡ n.value.frame

  pub mid_node : (k : Handle) (n : TreeNode RenderObject) → node_at lists.first.committed k ≡ Some n → IsMidSo k n
  mid_node k n at =
      let laid = lists.first.layouts.only k n at in
      let both = lists.first.paints.only k (record n { value = layout_marks.marked laid.0 laid.1 n.value }) laid.2 in
      record {
        node = record n { value = paint_marks.marked both.0 both.1 (layout_marks.marked laid.0 laid.1 n.value) };
        at = both.2;
        children = refl;
        number = refl;
        widget = refl;
        told = refl;
        scroll = refl;
        frame = refl;
      }

  -- a node of the first phase was made for it, or was there
  pub record WasMade (k : Handle) (m : TreeNode RenderObject) : Type 0 where
    pub node : TreeNode RenderObject
    pub at : node_at made k ≡ Some node
    pub number : m.value.number ≡ node.value.number
    pub frame : m.value.frame ≡ node.value.frame

  pub made_back : (k : Handle) (m : TreeNode RenderObject) → node_at mid k ≡ Some m → WasMade k m
  made_back k m at = by (node_at made k) refl
    where
      es : List (PlanEntry Redraw)
      es = entries None lists.first.updates

      none_kept : (y : Option (PlanEntry Redraw)) → kept_by redrawn y es k None ≡ None
      none_kept None = refl
      none_kept (Some y) = refl

      by_committed : (n : TreeNode RenderObject) → node_at made k ≡ Some n → (x : Option (TreeNode RenderObject)) → node_at lists.first.committed k ≡ x → WasMade k m
      by_committed n e x f = found (commit_object es k (entry_at es k) n) x f
        where
          found : (one : (w : RenderObject) × (option_map (λ (j : TreeNode RenderObject). j.value) (kept_by redrawn (entry_at es k) es k (Some n)) ≡ Some w) × (w.number ≡ n.value.number) × (w.frame ≡ n.value.frame))
              → (x : Option (TreeNode RenderObject)) → node_at lists.first.committed k ≡ x → WasMade k m
          found one None f =
              no_some one.0 (sym (ap (option_map (λ (j : TreeNode RenderObject). j.value)) f) ∙ (ap (option_map (λ (j : TreeNode RenderObject). j.value)) (lists.first.commits.nodes k ∙ ap (λ y. kept_by redrawn (entry_at es k) es k y) e) ∙ one.1))
          found one (Some c) f =
              let value : c.value ≡ one.0 =
              some_is c.value one.0 (sym (ap (option_map (λ (j : TreeNode RenderObject). j.value)) f) ∙ (ap (option_map (λ (j : TreeNode RenderObject). j.value)) (lists.first.commits.nodes k ∙ ap (λ y. kept_by redrawn (entry_at es k) es k y) e) ∙ one.1)) in
              let there = mid_node k c f in
              let same_node : there.node ≡ m = some_is there.node m (sym there.at ∙ at) in
              record {
                node = n;
                at = e;
                number = ap (λ (j : TreeNode RenderObject). j.value.number) (sym same_node) ∙ (there.number ∙ (ap (λ (o : RenderObject). o.number) value ∙ one.2));
                frame = ap (λ (j : TreeNode RenderObject). j.value.frame) (sym same_node) ∙ (there.frame ∙ (ap (λ (o : RenderObject). o.frame) value ∙ one.3));
              }

      by : (x : Option (TreeNode RenderObject)) → node_at made k ≡ x → WasMade k m
      by None e =
          let gone : node_at lists.first.committed k ≡ None = lists.first.commits.nodes k ∙ (ap (λ y. kept_by redrawn (entry_at es k) es k y) e ∙ none_kept (entry_at es k)) in
          no_some m (sym (lists.first.paints.absent k (lists.first.layouts.absent k gone)) ∙ at)
      by (Some n) e = by_committed n e (node_at lists.first.committed k) refl

  marked_counts : (k : Handle) → count k (root_tree mid) ≡ count k lists.first.nodes
  marked_counts k =
      ap (count k) (mid_is s view old top lo ln lists whole_is)
      ∙ (swept_count paint_marks true (repainted s view old top lo ln lists whole_is) k at_top (sweep layout_marks true (changed s view old top lo ln lists whole_is) at_top lists.first.nodes)
      ∙ swept_count layout_marks true (changed s view old top lo ln lists whole_is) k at_top lists.first.nodes)

  -- the flush leaves the frame of what isn't claimed
  pub flushed_frame : (k : Handle) (n : TreeNode RenderObject) → node_at mid k ≡ Some n → claims k ≡ false → (w : RenderObject) → object_at fl.flushed k ≡ Some w → w.frame ≡ n.value.frame
  flushed_frame k n at free w at_w = by (count k lists.first.nodes) refl
    where
      by : (m : ℕ) → count k lists.first.nodes ≡ m → w.frame ≡ n.value.frame
      by zero e = beside_frame s view mid ranged fl stays k n at (λ i. absurd (let c = marked_counts k in omega (arith, i, c, e))) w at_w
      by (suc m) e =
          item_frame mid fl.flushed k n.value w (ap (option_map (λ (x : TreeNode RenderObject). x.value)) at) at_w (changed s view old top lo ln lists whole_is) (repainted s view old top lo ln lists whole_is)
          at_top at_top None None lists.first.nodes (root_tree fl.flushed)
          (front_stands (node_at mid) None (marks lists.first.nodes) (marks lists.first.others) (mid_stands s view old top lo ln lists whole_is).stands) (root_stands fl.flushed fl.tree) alike
          (omega (arith, e)) (λ outer. false≢true (sym free ∙ outer_named (object_at made) _ k lists.drawn lists.first.nodes (planned s view old top lo ln lists whole_is) outer))

  -- ---- a node of the last frame that has the number of an item

  pub record IsOldStill (k : Handle) (n : TreeNode RenderObject) : Type 0 where
    pub node : TreeNode RenderObject
    pub at : node_at ranged k ≡ Some node
    pub kept : IsKeptSo n.value node.value
    pub scroll : node.value.scroll ≡ n.value.scroll
    pub same : ((c : Handle) (o : RenderObject) → Among c n.children → object_at old c ≡ Some o → IsItemOf o.number) → ((c : Handle) → Among c n.children → (o : RenderObject) × (object_at old c ≡ Some o)) → node.children ≡ n.children

  pub old_still : (k : Handle) (n : TreeNode RenderObject) → node_at old k ≡ Some n → IsItemOf n.value.number → IsOldStill k n
  old_still k n at item =
      let stored = made_object old made lists.first.grows lists.before.tree k n.value (ap (option_map (λ (x : TreeNode RenderObject). x.value)) at) in
      let free = unclaimed k n.value stored item in
      let was = as_was old mid lists.first lists.before.tree lists.drawn (planned s view old top lo ln lists whole_is) (left s view old top lo ln lists whole_is) k n at free in
      let there = mid_node k (record { parent = was.parent; children = was.children; value = n.value }) was.at in
      let now = ranged_node s view mid ranged fl stays k there.node there.at in
      record {
        node = now.node;
        at = now.at;
        kept = record {
          number = now.number ∙ there.number;
          widget = now.widget ∙ there.widget;
          told = now.told ∙ there.told;
          frame = now.frame (flushed_frame k there.node there.at free) ∙ there.frame;
        };
        scroll = now.scroll ∙ there.scroll;
        same = λ items live. now.children ∙ (there.children ∙ was.same (λ c among.
            let o = live c among in unclaimed c o.0 (made_object old made lists.first.grows lists.before.tree c o.0 o.1) (items c o.0 among o.1)));
      }
