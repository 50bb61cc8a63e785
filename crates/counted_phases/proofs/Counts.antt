-- What a frame in two phases counts.
use Rattle.std.proofs.Common.{◌≡◌, ℕ, ◌+◌, ◌≤◌, true, Option, Some, None, option_map, List, [], ◌++◌, length, refl, sym, ap, ◌∙◌, subst, arith, Decides}
use Rattle.std.specs.Option.{option_to_list}
use Rattle.delegates.specs.Table.{Plug}
use Rattle.fx_geom.specs.declared.shapes.Size.{Size}
use Rattle.fx_handles.specs.declared.Handle.{Handle}
use Rattle.fx_handles.specs.Handle.{times}
use Rattle.node_tree.specs.Forest.{TreeNode, Forest, map_values}
use Rattle.node_tree.specs.Forest.Forest.{none, tree}
use Rattle.node_tree.specs.Tree.{Tree, IsTree, node_at}
use Rattle.node_tree.proofs.Children.{mapped_is}
use Rattle.widget_model.specs.Look.{Look}
use Rattle.plain_tree.specs.Laid.{Laid}
use Rattle.plain_tree.specs.Render.{Render}
use Rattle.tree_marks.specs.Marking.{at_top}
use Rattle.tree_marks.specs.Marks.{sweep}
use Rattle.work_sets.specs.Before.{Before}
use Rattle.work_sets.specs.Members.{is_same_look}
use Rattle.work_sets.specs.Paint.{paint_region}
use Rattle.layout_form.specs.Layout.{lay_view}
use Rattle.layout_form.specs.Object.{Setting}
use Rattle.layout_owner.specs.Calm.{IsLaidCalm}
use Rattle.layout_owner.specs.Left.{AreLeft}
use Rattle.layout_rules.specs.Nodes.{layout_node, layout_nodes}
use Rattle.layout_rules.specs.Reads.{state_at}
use Rattle.layout_walk.specs.Here.{HereAll}
use Rattle.layout_walk.specs.Rules.{parts_of}
use Rattle.kept_layers.specs.Steps.{painted_count}
use Rattle.paint_owner.specs.Finding.{root_flag}
use Rattle.render_tree.specs.LayoutState.{with_layout_state}
use Rattle.render_tree.specs.Marks.{paint_marks}
use Rattle.render_tree.specs.Object.{RenderObject}
use Rattle.render_tree.specs.Plain.{root_tree}
use Rattle.render_sync.specs.Numbering.{number_at}
use Rattle.screen_owner.specs.Changes.{AreKindsSo}
use Rattle.screen_owner.specs.Standing.{StandsAlone}
use Rattle.screen_owner.specs.Steps.{FrameSteps}
use Rattle.screen_owner.proofs.Owning.{paints_parts}
use Rattle.screen_owner.proofs.Showing.{parts, root_forest}
use Rattle.counted_work.specs.Drawn.{PaintsAreCaused, LayoutLeaves}
use Rattle.counted_work.specs.Shows.{ArePutSo, PluggedAsBefore, LookOtherwise}
use Rattle.counted_work.proofs.Painted.{PaintsDiffer, swept_paints}
use Rattle.counted_work.proofs.Shown.{same_placed, same_put, same_laid_tree}
use Rattle.counted_phases.specs.Paints.{BuiltInPhases}
use Rattle.counted_phases.proofs.Ending.{few_painted}
use Rattle.counted_phases.proofs.Stages.{none_some}

same_nodes : (f g : Forest RenderObject) → PaintsDiffer f g → layout_nodes f ≡ layout_nodes g
same_nodes none none d = refl
same_nodes none (tree k w below rest) d = absurd d
same_nodes (tree h v kids more) none d = absurd d
same_nodes (tree h v kids more) (tree k w below rest) d =
    let value : layout_node v ≡ layout_node w = ap layout_node (sym d.1.2) in
    λ i. tree (d.0 i) (value i) (same_nodes kids below d.2 i) (same_nodes more rest d.3 i)

module _ (look_same : (a b : Look) → Decides (is_same_look a b) (a ≡ b))
    (put_so : (s : Setting) (f g : Forest RenderObject) → HereAll (parts_of s) (layout_nodes g) → IsLaidCalm g → AreLeft (layout_nodes f) (layout_nodes g) → ArePutSo s.delegates g) (s : Setting) (view : Size) (before : Before) (old brought new : Tree RenderObject) (top : Render) (lo ln po pn : ℕ) (last : Laid) (then : List Plug)
    (steps : FrameSteps s view brought top new lo ln po pn) where
  -- as the layout left the nodes, without its marks for painting
  abbrev pub unmarked : Tree RenderObject
  unmarked = steps.lays.laid

  is_unmarked : IsTree unmarked
  is_unmarked = (
    map_values (λ k o. with_layout_state (state_at unmarked k) o) steps.brings.after.tree.0,
    mapped_is (λ k o. with_layout_state (state_at unmarked k) o) steps.brought unmarked steps.brings.after.tree.0 steps.brings.after.tree.1 steps.lays.rest.nodes
        (λ i. option_to_list (steps.lays.rest.root i) ++ steps.lays.rest.inactive i),
  )

  alone_unmarked : unmarked.inactive ≡ []
  alone_unmarked = steps.lays.rest.inactive ∙ steps.brings.after.alone

  number_on : (k : Handle) (n : ℕ) → number_at unmarked k ≡ Some n → number_at steps.laid k ≡ Some n
  number_on k n e = by_node (node_at unmarked k) refl
    where
      by_node : (x : Option (TreeNode RenderObject)) → node_at unmarked k ≡ x → number_at steps.laid k ≡ Some n
      by_node None f = none_some n (sym (ap (λ (y : Option (TreeNode RenderObject)). option_map (λ (o : RenderObject). o.number) (option_map (λ (m : TreeNode RenderObject). m.value) y)) f) ∙ e)
      by_node (Some x) f =
          ap (λ (y : Option (TreeNode RenderObject)). option_map (λ (o : RenderObject). o.number) (option_map (λ (m : TreeNode RenderObject). m.value) y)) (steps.lays.marks.only k x f).2
          ∙ (sym (ap (λ (y : Option (TreeNode RenderObject)). option_map (λ (o : RenderObject). o.number) (option_map (λ (m : TreeNode RenderObject). m.value) y)) f) ∙ e)

  pub stands_unmarked : StandsAlone unmarked
  stands_unmarked = record { tree = is_unmarked; alone = alone_unmarked; differ = λ n h k a b. steps.stands.differ n h k (number_on h n a) (number_on k n b) }

  abbrev marked_forest : Forest RenderObject
  marked_forest = sweep paint_marks true steps.lays.changed at_top is_unmarked.0

  plain_is : root_tree unmarked ≡ is_unmarked.0
  plain_is = root_forest unmarked is_unmarked.0 alone_unmarked is_unmarked.1

  marked_is : root_tree steps.laid ≡ marked_forest
  marked_is = root_forest steps.laid marked_forest (steps.lays.marks.inactive ∙ alone_unmarked) (steps.lays.marks.plain is_unmarked.0 is_unmarked.1)

  pub nodes_unmarked : layout_nodes (root_tree unmarked) ≡ layout_nodes (root_tree steps.laid)
  nodes_unmarked = ap layout_nodes plain_is ∙ (same_nodes is_unmarked.0 marked_forest (swept_paints true steps.lays.changed at_top is_unmarked.0) ∙ ap layout_nodes (sym marked_is))

  parts_unmarked : parts (root_tree unmarked) ≡ parts (root_tree steps.laid)
  parts_unmarked = sym (paints_parts unmarked steps.laid alone_unmarked is_unmarked true steps.lays.changed steps.lays.marks)

  otherwise : LookOtherwise steps.brought unmarked steps.lays.changed
  otherwise k among same =
      let few = steps.lays.once k in
      let one : times k steps.lays.changed ≡ 1 = omega (arith, among, few) in
      steps.lays.repaints.other k one same

  pub leaves : LayoutLeaves (lay_view s top view) s.delegates steps.lays.changed steps.brought unmarked
  leaves = record {
    rest = steps.lays.rest;
    otherwise = otherwise;
    left = subst (AreLeft (layout_nodes (root_tree steps.brought))) (sym nodes_unmarked) steps.left;
    placed = same_placed (root_tree steps.laid) (root_tree unmarked) parts_unmarked steps.placed;
    shown = same_laid_tree (lay_view s top view) (root_tree steps.laid) (root_tree unmarked) parts_unmarked steps.shown;
    put = same_put s.delegates (root_tree steps.laid) (root_tree unmarked) parts_unmarked (put_so s (root_tree steps.brought) (root_tree steps.laid) steps.here steps.calm steps.left);
  }

  pub few_paints : BuiltInPhases old steps.brought unmarked → PluggedAsBefore before.touched then s.delegates → StandsAlone old → AreKindsSo old top → PaintsAreCaused before last then old
      → pn ≤ po + length (paint_region before (record { before = Some last; now = lay_view s top view }) top)
  few_paints built plugs alone kinds caused =
      let less : painted_count (root_flag (root_tree steps.laid)) (root_tree steps.laid) ≤ length (paint_region before (record { before = Some last; now = lay_view s top view }) top) =
      few_painted look_same before last (lay_view s top view) then s.delegates plugs steps.lays.changed old steps.brought unmarked steps.laid top built caused leaves steps.lays.marks alone stands_unmarked kinds steps.brings.renders in
      let counted = steps.paints in omega (arith, less, counted)
