-- A tree in which nothing has to be laid out.
use Rattle.std.proofs.Common.{◌≡◌, ap, refl, sym, ◌∙◌, Option, Some, option_map, List, [], ◌∷◌, inr}
use Rattle.fx_geom.specs.declared.shapes.Offset.{Offset}
use Rattle.fx_geom.specs.declared.shapes.Size.{Size}
use Rattle.fx_geom.specs.Bounds.{tight}
use Rattle.fx_geom.specs.Offset.{origin}
use Rattle.fx_handles.specs.declared.Handle.{Handle}
use Rattle.node_tree.specs.Forest.{Forest}
use Rattle.node_tree.specs.Forest.Forest.{none, tree}
use Rattle.plain_tree.specs.Laid.{Laid as LaidTree, no_laids, more_laids}
use Rattle.plain_tree.specs.Render.{Render, render, Renders}
use Rattle.layout_form.specs.Layout.{lay_view, object}
use Rattle.layout_form.specs.Object.{Setting}
use Rattle.layout_form.specs.Protocol.{answer}
use Rattle.layout_form.specs.declared.asks.Ask.{Ask}
use Rattle.layout_form.specs.declared.asks.Ask.TheVariants.{AsBox}
use Rattle.render_tree.specs.Object.{RenderObject}
use Rattle.render_tree.specs.Plain.{laids_of, laid_of, renders_of}
use Rattle.layout_walk.specs.Node.{LayoutNode, renders_in}
use Rattle.layout_walk.specs.Rule.{LayoutParts, Lawful}
use Rattle.layout_walk.specs.Full.{laid_trees, laid_node, shown_trees}
use Rattle.layout_walk.specs.Here.{HereAll, AreQuiet, StandAs, nobody_back}
use Rattle.layout_walk.specs.Rules.{parts_of}
use Rattle.layout_rules.specs.Nodes.{layout_node, layout_nodes}
use Rattle.layout_owner.specs.Calm.{IsLaidCalm}
use Rattle.layout_owner.specs.Roots.{Good, top_render, IsAskedAs, IsPlaced}
use Rattle.layout_owner.proofs.Flushing.{laid_first}

calm_quiet : (P : LayoutParts) (f : Forest RenderObject) → IsLaidCalm f → AreQuiet P nobody_back (layout_nodes f)
calm_quiet P none calm = tt
calm_quiet P (tree h o below rest) calm = ((λ shown. inr ((calm.0 shown).0, calm_quiet P below (calm.0 shown).1)), calm_quiet P rest calm.1)

one_laid : (P : LayoutParts) (h : Handle) (v : LayoutNode) (kids : Forest LayoutNode) (ask : Ask) (at : Offset)
    → laid_trees P (Some ask ∷ []) (at ∷ []) (tree h v kids none) ≡ more_laids at (laid_node P v ask kids) no_laids
unfolding laid_trees
one_laid P h v kids ask at = refl

module _ (renders : (f : Forest RenderObject) → renders_in (layout_nodes f) ≡ renders_of f) (laids : (f : Forest RenderObject) → shown_trees (layout_nodes f) ≡ laids_of f)
    (s : Setting) (law : Lawful (parts_of s))
    (quiet : (P : LayoutParts) → Lawful P → (f : Forest LayoutNode) (asks : List (Option Ask)) (places : List Offset) → HereAll P f → AreQuiet P nobody_back f
    → StandAs asks places f → shown_trees f ≡ laid_trees P asks places f)
    (full : (v : LayoutNode) (kids : Forest LayoutNode) (ask : Ask)
    → laid_node (parts_of s) v ask kids ≡ answer (object s (render v.number v.look v.told v.scroll v.count (renders_in kids))) ask) where
  pub calm_shows : (view : Size) (h : Handle) (o : RenderObject) (below : Forest RenderObject) → Good s (tree h o below none) → IsLaidCalm (tree h o below none)
      → IsPlaced (tree h o below none) → IsAskedAs view (tree h o below none)
      → laid_of (tree h o below none) ≡ option_map (λ x. lay_view s x view) (top_render (renders_of (tree h o below none)))
  calm_shows view h o below good calm placed asked =
      let f = tree h o below none in
      let v = layout_node o in
      let kids = layout_nodes below in
      let P = parts_of s in
      let ask = AsBox (tight view) in
      let stands : StandAs (Some ask ∷ []) (origin ∷ []) (layout_nodes f) = (record { shown = placed.0; asked = asked (calm.0 placed.0).0; offset = placed.1 }, tt) in
      let shows : laids_of f ≡ more_laids origin (laid_node P v ask kids) no_laids =
      sym (laids f) ∙ quiet P law (layout_nodes f) (Some ask ∷ []) (origin ∷ []) good.here (calm_quiet P f calm) stands ∙ one_laid P h v kids ask origin in
      laid_first f h v kids (laid_node P v ask kids) refl placed.0 shows
      ∙ ap (λ (l : LaidTree). Some l) (full v kids ask)
      ∙ ap (λ (rs : Renders). option_map (λ (x : Render). lay_view s x view) (top_render rs)) (renders f)
