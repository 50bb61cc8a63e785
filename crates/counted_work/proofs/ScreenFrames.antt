-- A frame of a screen: what it counts, and what it leaves.
use Rattle.std.proofs.Common.{◌≡◌, ℕ, ◌+◌, ◌≤◌, Bool, true, false, Option, Some, None, List, [], ◌++◌, length, refl, sym, ap, ◌∙◌, subst, arith, Decides}
use Rattle.std.specs.Option.{option_to_list}
use Rattle.delegates.specs.Table.{Plug}
use Rattle.fx_geom.specs.declared.shapes.Size.{Size}
use Rattle.fx_handles.specs.Handle.{times}
use Rattle.node_tree.specs.Forest.{Forest, map_values}
use Rattle.node_tree.specs.Forest.Forest.{none, tree}
use Rattle.node_tree.specs.Tree.{Tree, Is, IsTree}
use Rattle.node_tree.proofs.Children.{mapped_is}
use Rattle.plain_tree.specs.declared.render.ParentData.{ParentData}
use Rattle.plain_tree.specs.Laid.{Laid}
use Rattle.plain_tree.specs.Laws.{render_numbers_in, AllDiffer}
use Rattle.plain_tree.specs.Render.{Render, Renders, no_renders, more_renders}
use Rattle.tree_marks.specs.Marking.{at_top}
use Rattle.tree_marks.specs.Marks.{sweep}
use Rattle.widget_model.specs.Look.{Look}
use Rattle.work_sets.specs.Before.{Before, frames_after}
use Rattle.work_sets.specs.Layout.{frame_judge, layout_region, is_told_same}
use Rattle.work_sets.specs.Members.{is_same_look}
use Rattle.work_sets.specs.Paint.{Shows, asks_idly, paint_region}
use Rattle.layout_form.specs.declared.asks.Ask.{Ask}
use Rattle.layout_form.specs.Layout.{lay_view}
use Rattle.layout_form.specs.Object.{Setting}
use Rattle.layout_walk.specs.Flush.{ticks}
use Rattle.layout_walk.specs.Node.{LayoutNode}
use Rattle.layout_walk.specs.Rule.{LayoutParts}
use Rattle.layout_walk.specs.Rules.{parts_of}
use Rattle.layout_walk.specs.Work.{due_count, AreKnown}
use Rattle.layout_owner.specs.Left.{AreLeft}
use Rattle.layout_owner.specs.Roots.{rooted, view_asks, top_render, IsAskedAs, IsPlaced}
use Rattle.layout_rules.specs.Nodes.{layout_node, layout_nodes}
use Rattle.layout_rules.specs.Reads.{state_at}
use Rattle.kept_layers.specs.Steps.{painted_count}
use Rattle.paint_owner.specs.Finding.{root_flag}
use Rattle.render_tree.specs.LayoutState.{with_layout_state}
use Rattle.render_tree.specs.Marks.{paint_marks}
use Rattle.render_tree.specs.Object.{RenderObject}
use Rattle.render_tree.specs.Plain.{renders_of, root_tree}
use Rattle.screen_owner.specs.Steps.{FrameSteps}
use Rattle.screen_owner.proofs.Bringing.{Rooted, synced_rooted}
use Rattle.screen_owner.proofs.Owning.{paints_parts}
use Rattle.screen_owner.proofs.Settling.{settled_parts}
use Rattle.screen_owner.proofs.Showing.{parts, root_forest}
use Rattle.build_walk.specs.Changing.{render_over}
use Rattle.counted_work.specs.Caused.{FramesAgree, NewAreUnlaid, LayoutsAreCaused}
use Rattle.counted_work.specs.Drawn.{PaintsAreCaused, LayoutLeaves}
use Rattle.counted_work.specs.Inside.{RootFlagsInside}
use Rattle.counted_work.specs.Shows.{ArePutSo, PluggedAsBefore, LookOtherwise}
use Rattle.counted_work.specs.Windows.{WindowsStay}
use Rattle.counted_work.proofs.Asked.{synced_asked}
use Rattle.counted_work.proofs.Counting.{layouts_inside}
use Rattle.counted_work.proofs.Differing.{differ_tree}
use Rattle.counted_work.proofs.Drawn.{first_asked}
use Rattle.counted_work.proofs.Frames.{frame_painted, painted_nodes}
use Rattle.counted_work.proofs.Groups.{painted_asked}
use Rattle.counted_work.proofs.Painted.{PaintsDiffer, same_renders, swept_paints}
use Rattle.counted_work.proofs.Put.{put_so}
use Rattle.counted_work.proofs.Settled.{frame_caused}
use Rattle.counted_work.proofs.Shown.{same_placed, same_put, same_laid_tree, placed_root}
use Rattle.counted_work.proofs.Synced.{synced_inside, synced_frames}

-- ---- marks for painting are no matter of a layout

same_nodes : (f g : Forest RenderObject) → PaintsDiffer f g → layout_nodes f ≡ layout_nodes g
same_nodes none none d = refl
same_nodes none (tree k w under rest) d = absurd d
same_nodes (tree h v kids more) none d = absurd d
same_nodes (tree h v kids more) (tree k w under rest) d =
    λ i. tree (d.0 i) (ap layout_node (sym d.1.2) i) (same_nodes kids under d.2 i) (same_nodes more rest d.3 i)

module _ (s : Setting) (view : Size) (before : Before) (old new : Tree RenderObject) (top : Render) (lo ln po pn : ℕ) (steps : FrameSteps s view old top new lo ln po pn) where
  abbrev brought : Tree RenderObject
  brought = steps.brought

  abbrev laid : Tree RenderObject
  laid = steps.laid

  -- as the layout left them, without its marks for painting
  abbrev unmarked : Tree RenderObject
  unmarked = steps.lays.laid

  abbrev shown : Laid
  shown = lay_view s top view

  differ_old : AllDiffer (render_numbers_in (renders_of (root_tree old)))
  differ_old = differ_tree old steps.brings.before.tree steps.brings.before.alone steps.brings.before.differ

  differ_laid : AllDiffer (render_numbers_in (renders_of (root_tree laid)))
  differ_laid = differ_tree laid steps.stands.tree steps.stands.alone steps.stands.differ

  -- ---- layouts

  module _ (caused : LayoutsAreCaused before old) (unlaid : NewAreUnlaid before.frames old top) (windows : WindowsStay before top)
      (asks : before.same_view ≡ true → IsAskedAs view (root_tree old))
      (due : (P : LayoutParts) (outer : Bool) (xs : List (Option Ask)) (f : Forest LayoutNode) → AreKnown xs f → ticks P outer xs f ≤ due_count f)
      (told_same : (a b : ParentData) → Decides (is_told_same a b) (a ≡ b)) (look_same : (a b : Look) → Decides (is_same_look a b) (a ≡ b)) where
    one_render : (o : RenderObject) (kids : Forest RenderObject) → more_renders (render_over o kids) no_renders ≡ more_renders top no_renders → render_over o kids ≡ top
    one_render o kids e = cc

    pub few_layouts : ln ≤ lo + length (layout_region before top)
    few_layouts =
        let root : Rooted brought = synced_rooted old brought top steps.brings.synced in
        let f : Forest RenderObject = tree root.handle root.value root.kids none in
        let is : root_tree brought ≡ f = root_forest brought f root.alone root.is in
        let flags : RootFlagsInside (frame_judge before) f =
        subst (RootFlagsInside (frame_judge before)) is
        (synced_inside old brought top steps.brings.synced before told_same look_same steps.brings.before.tree steps.brings.before.alone differ_old caused unlaid windows) in
        let known : before.same_view ≡ true → IsAskedAs view f =
        λ e. subst (IsAskedAs view) is (synced_asked view old brought top steps.brings.synced steps.brings.before.tree steps.brings.before.alone (asks e)) in
        let less : ticks (parts_of s) false (view_asks view) (rooted f) ≤ length (layout_region before (render_over root.value root.kids)) =
        layouts_inside due (parts_of s) before view root.handle root.value root.kids flags known in
        let same_top : length (layout_region before (render_over root.value root.kids)) ≡ length (layout_region before top) =
        ap (λ (r : Render). length (layout_region before r)) (one_render root.value root.kids (ap renders_of (sym is) ∙ steps.brings.renders)) in
        let same_ticks : ticks (parts_of s) false (view_asks view) (rooted (root_tree brought)) ≡ ticks (parts_of s) false (view_asks view) (rooted f) =
        ap (λ (x : Forest RenderObject). ticks (parts_of s) false (view_asks view) (rooted x)) is in
        let counted = steps.ticks in omega (arith, less, same_top, same_ticks, counted)

  -- ---- what the layout left

  is_unmarked : IsTree unmarked
  is_unmarked =
      let is : Is brought steps.brings.after.tree.0 = steps.brings.after.tree.1 in (
        map_values (λ k o. with_layout_state (state_at unmarked k) o) steps.brings.after.tree.0,
        mapped_is (λ k o. with_layout_state (state_at unmarked k) o) brought unmarked steps.brings.after.tree.0 is steps.lays.rest.nodes
            (λ i. option_to_list (steps.lays.rest.root i) ++ steps.lays.rest.inactive i),
      )

  alone_unmarked : unmarked.inactive ≡ []
  alone_unmarked = steps.lays.rest.inactive ∙ steps.brings.after.alone

  abbrev plain_forest : Forest RenderObject
  plain_forest = is_unmarked.0

  abbrev marked_forest : Forest RenderObject
  marked_forest = sweep paint_marks true steps.lays.changed at_top plain_forest

  plain_is : root_tree unmarked ≡ plain_forest
  plain_is = root_forest unmarked plain_forest alone_unmarked is_unmarked.1

  marked_is : root_tree laid ≡ marked_forest
  marked_is = root_forest laid marked_forest (steps.lays.marks.inactive ∙ alone_unmarked) (steps.lays.marks.plain plain_forest is_unmarked.1)

  nodes_unmarked : layout_nodes (root_tree unmarked) ≡ layout_nodes (root_tree laid)
  nodes_unmarked = ap layout_nodes plain_is ∙ (same_nodes plain_forest marked_forest (swept_paints true steps.lays.changed at_top plain_forest) ∙ ap layout_nodes (sym marked_is))

  renders_unmarked : renders_of (root_tree unmarked) ≡ renders_of (root_tree laid)
  renders_unmarked = ap renders_of plain_is ∙ (same_renders plain_forest marked_forest (swept_paints true steps.lays.changed at_top plain_forest) ∙ ap renders_of (sym marked_is))

  parts_unmarked : parts (root_tree unmarked) ≡ parts (root_tree laid)
  parts_unmarked = sym (paints_parts unmarked laid alone_unmarked is_unmarked true steps.lays.changed steps.lays.marks)

  otherwise : LookOtherwise brought unmarked steps.lays.changed
  otherwise k among same =
      let few = steps.lays.once k in
      let one : times k steps.lays.changed ≡ 1 = omega (arith, among, few) in
      steps.lays.repaints.other k one same

  put : ArePutSo s.delegates (root_tree laid)
  put = put_so s (root_tree brought) (root_tree laid) steps.here steps.calm steps.left

  leaves : LayoutLeaves shown s.delegates steps.lays.changed brought unmarked
  leaves = record {
    rest = steps.lays.rest;
    otherwise = otherwise;
    left = subst (AreLeft (layout_nodes (root_tree brought))) (sym nodes_unmarked) steps.left;
    placed = same_placed (root_tree laid) (root_tree unmarked) parts_unmarked steps.placed;
    shown = same_laid_tree shown (root_tree laid) (root_tree unmarked) parts_unmarked steps.shown;
    put = same_put s.delegates (root_tree laid) (root_tree unmarked) parts_unmarked put;
  }

  -- ---- paints

  pub few_paints : ((a b : ParentData) → Decides (is_told_same a b) (a ≡ b)) → ((a b : Look) → Decides (is_same_look a b) (a ≡ b)) → (last : Laid) (then : List Plug)
      → PluggedAsBefore before.touched then s.delegates → PaintsAreCaused before last then old → pn ≤ po + length (paint_region before (record { before = Some last; now = lay_view s top view }) top)
  few_paints told_same look_same last then plugs caused =
      let less : painted_count (root_flag (root_tree laid)) (root_tree laid) ≤ length (paint_region before (record { before = Some last; now = shown }) top) =
      frame_painted told_same look_same before last shown then s.delegates steps.lays.changed old brought unmarked laid top steps.brings.synced plugs steps.brings.before.tree is_unmarked
      steps.brings.before.alone alone_unmarked steps.brings.kinds differ_old (subst (λ (rs : Renders). AllDiffer (render_numbers_in rs)) (sym renders_unmarked) differ_laid) caused leaves steps.lays.marks in
      let counted = steps.paints in omega (arith, less, counted)

  pub first_paints : (shows : Shows) → before.tree ≡ None → pn ≤ po + length (paint_region before shows top)
  first_paints shows was =
      let less : painted_count (root_flag (root_tree laid)) (root_tree laid) ≤ length (paint_region before shows top) =
      painted_nodes old brought top steps.brings.synced unmarked steps.lays.rest laid steps.lays.changed before shows is_unmarked alone_unmarked steps.lays.marks (first_asked before shows (root_tree laid) was) in
      let counted = steps.paints in omega (arith, less, counted)

  -- ---- what is known between this frame and the next one

  module _ (after : Before) (whole : after.tree ≡ top_render (renders_of (root_tree new))) (framed : after.frames ≡ frames_after (lay_view s top view) before.frames)
      (agree : FramesAgree before.frames old) (unlaid : NewAreUnlaid before.frames old top) where
    pub layouts_caused : LayoutsAreCaused after new
    layouts_caused =
        frame_caused before.frames shown after brought laid new whole framed steps.brings.after.tree steps.stands.tree steps.brings.after.alone steps.stands.alone differ_laid
        steps.placed steps.calm steps.shown steps.left (synced_frames old brought top steps.brings.synced before.frames agree unlaid) steps.settles

    settled_same : parts (root_tree new) ≡ parts (root_tree laid)
    settled_same = settled_parts laid new steps.stands.alone steps.stands.tree steps.settles

    placed_now : IsPlaced (root_tree new)
    placed_now = same_placed (root_tree laid) (root_tree new) settled_same steps.placed

    pub paints_caused : PaintsAreCaused after (lay_view s top view) s.delegates new
    paints_caused = record {
      tree = whole;
      frames = layouts_caused.frames;
      placed = placed_now;
      shown = same_laid_tree shown (root_tree laid) (root_tree new) settled_same steps.shown;
      put = same_put s.delegates (root_tree laid) (root_tree new) settled_same put;
      flags = painted_asked (asks_idly after) (root_tree new) (placed_root (root_tree new) placed_now) steps.painted;
    }
