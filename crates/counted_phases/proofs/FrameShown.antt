-- What is shown after an outer flush is what the frame shows in the end, but for the items of lazy lists.
use Rattle.std.proofs.Common.{◌≡◌, ap, refl, sym, ◌∙◌, false, [], ◌∷◌}
use Rattle.fx_geom.specs.Bounds.{tight}
use Rattle.fx_geom.specs.Offset.{origin}
use Rattle.fx_geom.specs.declared.shapes.Size.{Size}
use Rattle.fx_handles.specs.declared.Handle.{Handle}
use Rattle.node_tree.specs.Forest.{Forest}
use Rattle.node_tree.specs.Forest.Forest.{none, tree}
use Rattle.plain_tree.specs.Laid.{Laid, no_laids, more_laids}
use Rattle.plain_tree.specs.Render.{Render, render, Renders, no_renders, more_renders}
use Rattle.build_walk.specs.Changing.{render_over}
use Rattle.layout_form.specs.declared.asks.Ask.TheVariants.{AsBox}
use Rattle.layout_form.specs.Layout.{lay_view}
use Rattle.layout_form.specs.Object.{Setting}
use Rattle.layout_walk.specs.Full.{laid_node, laid_trees, shown_trees}
use Rattle.layout_walk.specs.Here.{StandAs, HereAll, AreQuiet, outer_back}
use Rattle.layout_walk.specs.Node.{LayoutNode, renders_in}
use Rattle.layout_walk.specs.Rule.{Lawful}
use Rattle.layout_walk.specs.Rules.{parts_of}
use Rattle.layout_walk.specs.Walk.{AreCorrected}
use Rattle.layout_walk.proofs.Correcting.{corrected_trees}
use Rattle.layout_walk.proofs.Fresh.{fresh}
use Rattle.layout_rules.specs.Nodes.{layout_node, layout_nodes}
use Rattle.layout_owner.specs.Roots.{view_asks, IsPlaced}
use Rattle.layout_owner.specs.Undue.{RootAsked}
use Rattle.kept_layouts.specs.Items.{without_items, all_without_items, ListsUnasked}
use Rattle.kept_layouts.proofs.Items.{FullLaws}
use Rattle.render_tree.specs.Object.{RenderObject}
use Rattle.render_tree.specs.Plain.{laids_of, renders_of}
use Rattle.counted_phases.specs.OuterLaid.{outer_laid, outer_laids}
use Rattle.counted_phases.proofs.LeftOuter.{AreLeftOuter, left_outer}
use Rattle.counted_phases.proofs.OuterShown.{shown_outer}
use Rattle.counted_phases.proofs.WithoutItems.{outer_same}

-- how a layout sees render nodes
pub record SeenNodes : Type 0 where
  pub renders : (f : Forest RenderObject) → renders_in (layout_nodes f) ≡ renders_of f
  pub laids : (f : Forest RenderObject) → shown_trees (layout_nodes f) ≡ laids_of f

one_same : (q r : Render) → more_renders q no_renders ≡ more_renders r no_renders → q ≡ r
one_same q r e = cc

module _ (s : Setting) (law : Lawful (parts_of s)) (laws : FullLaws s) (see : SeenNodes) (view : Size) where
  -- a root that was asked so stands as it was asked
  pub placed_root : (w : RenderObject) (k : Handle) (below : Forest RenderObject) → IsPlaced (tree k w below none) → RootAsked view (layout_nodes (tree k w below none))
      → StandAs (view_asks view) (origin ∷ []) (layout_nodes (tree k w below none))
  placed_root w k below placed asked = (record { shown = placed.0; asked = asked; offset = placed.1 }, tt)

  trees_one : (h : Handle) (v : LayoutNode) (kids : Forest LayoutNode)
      → laid_trees (parts_of s) (view_asks view) (origin ∷ []) (tree h v kids none) ≡ more_laids origin (laid_node (parts_of s) v (AsBox (tight view)) kids) no_laids
  unfolding laid_trees
  trees_one h v kids = refl

  laid_whole : (v : RenderObject) (kids : Forest RenderObject) → laid_node (parts_of s) (layout_node v) (AsBox (tight view)) (layout_nodes kids) ≡ lay_view s (render_over v kids) view
  laid_whole v kids =
      laws.full (layout_node v) (layout_nodes kids) (AsBox (tight view))
      ∙ ap (λ (rs : Renders). lay_view s (render v.number (layout_node v).look v.parent_data v.scroll (layout_node v).count rs) view) (see.renders kids)

  pub frame_shown : (f g : Forest RenderObject) (top : Render) → HereAll (parts_of s) (layout_nodes g) → AreQuiet (parts_of s) (outer_back (parts_of s)) (layout_nodes g) → IsPlaced g
      → RootAsked view (layout_nodes g) → AreCorrected (parts_of s) (outer_back (parts_of s)) (view_asks view) (layout_nodes f) (layout_nodes g)
      → all_without_items (renders_of f) ≡ all_without_items (more_renders top no_renders) → ListsUnasked false top
      → outer_laids (laids_of g) ≡ more_laids origin (outer_laid (lay_view s top view)) no_laids
  frame_shown none g top all quiet placed asked stays same unasked = absurd (no_more same)
    where
      no_more : no_renders ≡ more_renders (without_items top) no_renders → ⊥
      no_more e = cc
  frame_shown (tree h v kids (tree j x inner others)) g top all quiet placed asked stays same unasked = absurd (no_more same)
    where
      no_more : more_renders (without_items (render_over v kids)) (more_renders (without_items (render_over x inner)) (all_without_items (renders_of others))) ≡ more_renders (without_items top) no_renders → ⊥
      no_more e = cc
  frame_shown (tree h v kids none) none top all quiet placed asked stays same unasked = absurd placed
  frame_shown (tree h v kids none) (tree k w below (tree j x inner others)) top all quiet placed asked stays same unasked = absurd stays.3
  frame_shown (tree h v kids none) (tree k w below none) top all quiet placed asked stays same unasked =
      let P = parts_of s in
      ap outer_laids (sym (see.laids (tree k w below none)))
      ∙ (shown_outer s law (layout_nodes (tree k w below none)) all (view_asks view) (origin ∷ []) quiet (placed_root w k below placed asked)
      ∙ (ap outer_laids (sym (corrected_trees P law (outer_back P) (view_asks view) (origin ∷ []) (layout_nodes (tree h v kids none)) (layout_nodes (tree k w below none)) stays))
      ∙ (ap outer_laids (trees_one h (layout_node v) (layout_nodes kids))
      ∙ ap (λ (l : Laid). more_laids origin l no_laids)
      (ap outer_laid (laid_whole v kids) ∙ outer_same s law laws view (render_over v kids) top (one_same (without_items (render_over v kids)) (without_items top) same) unasked))))

  -- and what it leaves of frames
  pub frame_left : (f g : Forest RenderObject) (top : Render) → HereAll (parts_of s) (layout_nodes g) → AreQuiet (parts_of s) (outer_back (parts_of s)) (layout_nodes g) → IsPlaced g
      → RootAsked view (layout_nodes g) → AreCorrected (parts_of s) (outer_back (parts_of s)) (view_asks view) (layout_nodes f) (layout_nodes g)
      → all_without_items (renders_of f) ≡ all_without_items (more_renders top no_renders) → AreLeftOuter (layout_nodes f) (layout_nodes g)
  frame_left none g top all quiet placed asked stays same = absurd (no_more same)
    where
      no_more : no_renders ≡ more_renders (without_items top) no_renders → ⊥
      no_more e = cc
  frame_left (tree h v kids (tree j x inner others)) g top all quiet placed asked stays same = absurd (no_more same)
    where
      no_more : more_renders (without_items (render_over v kids)) (more_renders (without_items (render_over x inner)) (all_without_items (renders_of others))) ≡ more_renders (without_items top) no_renders → ⊥
      no_more e = cc
  frame_left (tree h v kids none) none top all quiet placed asked stays same = absurd placed
  frame_left (tree h v kids none) (tree k w below (tree j x inner others)) top all quiet placed asked stays same = absurd stays.3
  frame_left (tree h v kids none) (tree k w below none) top all quiet placed asked stays same =
      let P = parts_of s in
      let after : Forest LayoutNode = layout_nodes (tree k w below none) in
      left_outer s law (view_asks view) (origin ∷ []) (layout_nodes (tree h v kids none)) after all (fresh P law after all) quiet (placed_root w k below placed asked) stays
