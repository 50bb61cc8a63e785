-- What a frame in both phases paints.
use Rattle.std.proofs.Common.{◌≡◌, ℕ, true, false, ◌||◌, Option, Some, None, option_map, List, refl, sym, ap, ◌∙◌, subst, inl, inr, Decides}
use Rattle.std.proofs.lemmas.Bool.{false≢true}
use Rattle.delegates.specs.Table.{Plug}
use Rattle.fx_geom.specs.Offset.{origin}
use Rattle.fx_geom.specs.declared.shapes.Size.{Size}
use Rattle.fx_handles.specs.declared.Handle.{Handle}
use Rattle.fx_handles.specs.Handle.{same}
use Rattle.fx_handles.specs.HandleLaws.{same-true}
use Rattle.fx_handles.specs.ArenaLaws.{same_Some}
use Rattle.node_tree.specs.Forest.{TreeNode, Forest, Stands}
use Rattle.node_tree.specs.Forest.Forest.{none, tree}
use Rattle.node_tree.specs.Tree.{Tree, IsTree, node_at}
use Rattle.widget_model.specs.Look.{Look}
use Rattle.plain_tree.specs.Laid.{Laid, no_laids, more_laids}
use Rattle.plain_tree.specs.Render.{Render, no_renders, more_renders}
use Rattle.tree_marks.specs.Marks.{has_node}
use Rattle.tree_marks.proofs.Closing.{either}
use Rattle.tree_marks.proofs.MarkSteps.{node_stands}
use Rattle.work_sets.specs.Before.{Before}
use Rattle.work_sets.specs.Members.{is_same_look}
use Rattle.kept_layers.specs.Group.{is_boundary}
use Rattle.kept_layouts.specs.Items.{all_without_items, ListsUnasked}
use Rattle.layout_form.specs.Layout.{lay_view}
use Rattle.layout_form.specs.Object.{Setting}
use Rattle.layout_owner.specs.Calm.{IsLaidCalm}
use Rattle.layout_owner.specs.Left.{AreLeft}
use Rattle.layout_owner.specs.Roots.{view_asks, IsPlaced}
use Rattle.layout_owner.specs.Undue.{RootAsked}
use Rattle.layout_rules.specs.Nodes.{layout_node, layout_nodes}
use Rattle.layout_walk.specs.Here.{HereAll, AreQuiet, outer_back}
use Rattle.layout_walk.specs.Node.{LayoutNode}
use Rattle.layout_walk.specs.Rule.{Lawful}
use Rattle.layout_walk.specs.Rules.{parts_of}
use Rattle.layout_walk.specs.Walk.{AreCorrected}
use Rattle.render_tree.specs.Object.{RenderObject}
use Rattle.render_tree.specs.Plain.{laids_of, renders_of, root_tree}
use Rattle.render_tree.specs.Tree.{object_at}
use Rattle.render_sync.specs.Numbering.{number_at}
use Rattle.screen_owner.specs.Changes.{AreKindsSo, AllKindsSo}
use Rattle.screen_owner.specs.Standing.{StandsAlone}
use Rattle.screen_owner.specs.Steps.{FrameSteps}
use Rattle.screen_owner.proofs.Showing.{root_forest}
use Rattle.frame_owner.specs.Working.{BringsInPhases, PhasedSteps}
use Rattle.counted_work.specs.Drawn.{LayoutLeaves}
use Rattle.counted_work.specs.Shows.{ArePutSo}
use Rattle.counted_work.proofs.Differing.{differ_tree}
use Rattle.counted_phases.specs.OuterLaid.{outer_laid, outer_laids}
use Rattle.counted_phases.specs.Paints.{BuiltInPhases}
use Rattle.counted_phases.proofs.Climbing.{object_live}
use Rattle.counted_phases.proofs.Counts.{leaves, nodes_unmarked, stands_unmarked}
use Rattle.counted_phases.proofs.Stages.{relaid_from}
use Rattle.counted_frames.proofs.Part.{kept_number, made_object}
use Rattle.counted_frames.proofs.PaintsBuilt.{built, mid_number, brought_number}

calm_on : (f g : Forest RenderObject) → layout_nodes f ≡ layout_nodes g → IsLaidCalm g → IsLaidCalm f
calm_on none g e calm = tt
calm_on (tree h v kids more) none e calm = absurd (no_tree e)
  where
    no_tree : tree h (layout_node v) (layout_nodes kids) (layout_nodes more) ≡ none → ⊥
    no_tree p = cc
calm_on (tree h v kids more) (tree k w below rest) e calm =
    let parts = tree_parts e in (
      (λ shown.
          let inner = calm.0 (ap (λ (y : LayoutNode). y.shown) (sym parts.0) ∙ shown) in (ap (λ (y : LayoutNode). y.needs_layout) parts.0 ∙ inner.0, calm_on kids below parts.1 inner.1)),
      calm_on more rest parts.2 calm.1,
    )
  where
    tree_parts : tree h (layout_node v) (layout_nodes kids) (layout_nodes more) ≡ tree k (layout_node w) (layout_nodes below) (layout_nodes rest)
        → (layout_node v ≡ layout_node w) × (layout_nodes kids ≡ layout_nodes below) × (layout_nodes more ≡ layout_nodes rest)
    tree_parts p = (cc, cc, cc)

-- the law on what an outer flush shows
abbrev pub ShowsFrame : Type 0
ShowsFrame = (s : Setting) (view : Size) (old new : Forest RenderObject) (top : Render) → HereAll (parts_of s) (layout_nodes new)
    → AreQuiet (parts_of s) (outer_back (parts_of s)) (layout_nodes new) → IsPlaced new → RootAsked view (layout_nodes new)
    → AreCorrected (parts_of s) (outer_back (parts_of s)) (view_asks view) (layout_nodes old) (layout_nodes new)
    → all_without_items (renders_of old) ≡ all_without_items (more_renders top no_renders) → ListsUnasked false top
    → outer_laids (laids_of new) ≡ more_laids origin (outer_laid (lay_view s top view)) no_laids

module _ (look_same : (a b : Look) → Decides (is_same_look a b) (a ≡ b))
    (put_so : (s : Setting) (f g : Forest RenderObject) → HereAll (parts_of s) (layout_nodes g) → IsLaidCalm g → AreLeft (layout_nodes f) (layout_nodes g) → ArePutSo s.delegates g) (shows_frame : ShowsFrame) (s : Setting) (law : Lawful (parts_of s)) (view : Size) (before : Before) (old new : Tree RenderObject) (top : Render) (lo ln po pn : ℕ)
    (last : Laid) (then : List Plug) (p : PhasedSteps s view old top new lo ln po pn) where
  abbrev st : FrameSteps s view p.brought top new p.layouts_between ln po pn
  st = p.shows

  abbrev brought : Tree RenderObject
  brought = st.brought

  abbrev laid : Tree RenderObject
  laid = st.lays.laid

  q : BringsInPhases s view old brought top lo p.layouts_between
  q = subst (λ x. BringsInPhases s view old x top lo p.layouts_between) (sym p.same) p.brings

  stands : StandsAlone laid
  stands = stands_unmarked look_same put_so s view before old p.brought new top p.layouts_between ln po pn last then st

  out : LayoutLeaves (lay_view s top view) s.delegates st.lays.changed brought laid
  out = leaves look_same put_so s view before old p.brought new top p.layouts_between ln po pn last then st

  nodes : layout_nodes (root_tree laid) ≡ layout_nodes (root_tree st.laid)
  nodes = nodes_unmarked look_same put_so s view before old p.brought new top p.layouts_between ln po pn last then st

  -- ---- RepaintBoundaries stay what they are

  numbers_same : (k : Handle) (o v : RenderObject) → object_at old k ≡ Some o → object_at brought k ≡ Some v → o.number ≡ v.number
  numbers_same k o v at_o at_v =
      let made = made_object old q.lists.first.made q.lists.first.grows q.lists.before.tree k o at_o in
      let mid = kept_number old q.lists.mid q.lists.first k o.number (ap (option_map (λ (x : RenderObject). x.number)) made) in
      by_mid (object_at q.lists.mid k) refl mid
    where
      by_mid : (x : Option RenderObject) → object_at q.lists.mid k ≡ x → number_at q.lists.mid k ≡ Some o.number → o.number ≡ v.number
      by_mid None e n = absurd (none_some (sym (ap (option_map (λ (y : RenderObject). y.number)) e) ∙ n))
        where
          none_some : None ≡ Some o.number → ⊥
          none_some x = cc
      by_mid (Some m) e n =
          let mid_is : m.number ≡ o.number = same_Some (sym (ap (option_map (λ (y : RenderObject). y.number)) e) ∙ n) in
          sym mid_is ∙ same_Some (sym (mid_number s view old brought laid top lo p.layouts_between q out.rest stands.tree stands.alone k m e) ∙ brought_number s view old brought laid top lo p.layouts_between q out.rest stands.tree stands.alone k v at_v)

  kind_in : (a : Option Handle) (f : Forest RenderObject) → Stands (node_at brought) a f → AllKindsSo old (renders_of f) → (k : Handle) → has_node k f ≡ true → (o v : RenderObject) → object_at old k ≡ Some o → object_at brought k ≡ Some v → is_boundary v ≡ is_boundary o
  kind_in a none sx so k there o v at_o at_v = absurd (false≢true there)
  kind_in a (tree j w under rest) sx so k there o v at_o at_v = elim (either (same j k) (has_node k under || has_node k rest) there) [
    | inl e ↦
        let value : w ≡ v = same_Some (sym (ap (option_map (λ (y : TreeNode RenderObject). y.value)) sx.0) ∙ (ap (object_at brought) (same-true j k e) ∙ at_v)) in
        ap is_boundary (sym value) ∙ so.0.0 k o at_o (numbers_same k o v at_o at_v ∙ ap (λ (y : RenderObject). y.number) (sym value))
    | inr later ↦ elim (either (has_node k under) (has_node k rest) later) [
      | inl x ↦ kind_in (Some j) under sx.1 so.0.1 k x o v at_o at_v
      | inr x ↦ kind_in a rest sx.2 so.1 k x o v at_o at_v
    ]
  ]

  kinds_same : (k : Handle) (o w : RenderObject) → object_at old k ≡ Some o → object_at laid k ≡ Some w → is_boundary w ≡ is_boundary o
  kinds_same k o w at_o at_w =
      let v = relaid_from brought laid out.rest k w at_w in
      let is : IsTree brought = q.after.tree in
      let all : AllKindsSo old (renders_of is.0) = subst (AllKindsSo old) (sym q.renders ∙ ap renders_of (root_forest brought is.0 q.after.alone is.1)) (q.kinds, tt) in
      ap is_boundary v.2 ∙ kind_in None is.0 is.1.stands all k (node_stands brought is.0 k is.1 (object_live brought k v.0 v.1)) o v.0 at_o v.1

  -- ---- the whole

  pub phases_built : BuiltInPhases old brought laid
  phases_built =
      built s view old brought laid top lo p.layouts_between q out.rest stands.tree stands.alone law
      (shows_frame s view (root_tree q.lists.mid) (root_tree q.flushes.flushed) top q.flushes.good.here q.flushes.held q.flushes.placed q.flushes.asked q.flushes.stays q.outer q.unasked)
      out.placed out.shown out.put (subst (HereAll (parts_of s)) (sym nodes) st.here) (calm_on (root_tree laid) (root_tree st.laid) nodes st.calm) (differ_tree laid stands.tree stands.alone stands.differ) kinds_same

  pub stood : StandsAlone old
  stood = q.lists.before

  pub kinds : AreKindsSo old top
  kinds = q.kinds
