-- After a flush what is shown is full layout of the tree before it.
use Rattle.std.proofs.Common.{◌≡◌, ap, refl, sym, ◌∙◌, true, Some, [], ◌∷◌, ◌++◌}
use Rattle.layout_walk.proofs.Correcting.{corrected_node}
use Rattle.fx_geom.specs.declared.shapes.Offset.{Offset}
use Rattle.fx_geom.specs.declared.shapes.Size.{Size}
use Rattle.fx_geom.specs.Bounds.{tight}
use Rattle.fx_geom.specs.Offset.{origin}
use Rattle.fx_handles.specs.declared.Handle.{Handle}
use Rattle.node_tree.specs.Forest.{Forest}
use Rattle.node_tree.specs.Forest.Forest.{none, tree}
use Rattle.plain_tree.specs.Laid.{Laid, no_laids, more_laids, Laids}
use Rattle.plain_tree.specs.Render.{render}
use Rattle.layout_form.specs.declared.asks.Ask.{Ask}
use Rattle.layout_form.specs.declared.asks.Ask.TheVariants.{AsBox}
use Rattle.layout_form.specs.Layout.{lay_view}
use Rattle.layout_form.specs.Object.{Setting}
use Rattle.layout_walk.specs.Node.{LayoutNode, renders_in}
use Rattle.layout_walk.specs.Rule.{LayoutParts, Lawful}
use Rattle.layout_walk.specs.Full.{laid_trees, laid_node, shown_trees}
use Rattle.layout_walk.specs.Here.{HereAll, AreQuiet, nobody_back, StandAs, outer_back}
use Rattle.layout_walk.specs.Walk.{LaysOut}
use Rattle.layout_walk.specs.Rules.{parts_of}
use Rattle.layout_walk.proofs.Fresh.{fresh}
use Rattle.layout_walk.proofs.Seen.{seen}
use Rattle.layout_walk.proofs.Whole.{RuleLaws, whole}
use Rattle.layout_walk.proofs.Ranging.{listed}
use Rattle.layout_walk.specs.Items.{lists_of, lists_in}

alone : (P : LayoutParts) (h : Handle) (v : LayoutNode) (kids : Forest LayoutNode) (ask : Ask) (at : Offset)
    → laid_trees P (Some ask ∷ []) (at ∷ []) (tree h v kids none) ≡ more_laids at (laid_node P v ask kids) no_laids
unfolding laid_trees
alone P h v kids ask at = refl

pub shown_full : (P : LayoutParts) → Lawful P → (h : Handle) (v : LayoutNode) (kids : Forest LayoutNode) (w : LayoutNode) (below : Forest LayoutNode) (ask : Ask) (at : Offset)
    → LaysOut P nobody_back ask v kids w below → v.shown ≡ true → v.offset ≡ Some at
    → shown_trees (tree h w below none) ≡ more_laids at (laid_node P v ask kids) no_laids
shown_full P law h v kids w below ask at lays shown offset =
    let all : HereAll P (tree h w below none) = (lays.here, lays.all, tt) in
    let quiet : AreQuiet P nobody_back (tree h w below none) = ((λ s. lays.quiet), tt) in
    let stands : StandAs (Some ask ∷ []) (at ∷ []) (tree h w below none) =
    (record { shown = lays.shown ∙ shown; asked = lays.asked; offset = lays.offset ∙ offset }, tt) in
    seen P (tree h w below none) (fresh P law (tree h w below none) all) quiet (Some ask ∷ []) (at ∷ []) stands
    ∙ alone P h w below ask at
    ∙ ap (λ (l : Laid). more_laids at l no_laids) (sym (corrected_node P law nobody_back v w ask kids below lays.member lays.corrected))

pub view_full : RuleLaws → (s : Setting) → Lawful (parts_of s) → (view : Size) (h : Handle) (v : LayoutNode) (kids : Forest LayoutNode) (w : LayoutNode) (below : Forest LayoutNode)
    → LaysOut (parts_of s) nobody_back (AsBox (tight view)) v kids w below → v.shown ≡ true → v.offset ≡ Some origin
    → shown_trees (tree h w below none) ≡ more_laids origin (lay_view s (render v.number v.look v.told v.scroll v.count (renders_in kids)) view) no_laids
view_full laws s law view h v kids w below lays shown offset =
    shown_full (parts_of s) law h v kids w below (AsBox (tight view)) origin lays shown offset
    ∙ ap (λ (l : Laid). more_laids origin l no_laids) (whole laws s v kids (AsBox (tight view)))

-- the lists that are laid out after an outer flush
pub lists_full : (P : LayoutParts) → Lawful P → (h : Handle) (v : LayoutNode) (kids : Forest LayoutNode) (w : LayoutNode) (below : Forest LayoutNode) (ask : Ask) (at : Offset)
    → LaysOut P (outer_back P) ask v kids w below → v.shown ≡ true → v.offset ≡ Some at
    → lists_in P.lists (shown_trees (tree h w below none)) ≡ lists_of P.lists (laid_node P v ask kids) ++ []
lists_full P law h v kids w below ask at lays shown offset =
    listed P law (tree h w below none) (lays.here, lays.all, tt) (Some ask ∷ []) (at ∷ []) ((λ s. lays.quiet), tt)
    (record { shown = lays.shown ∙ shown; asked = lays.asked; offset = lays.offset ∙ offset }, tt)
    ∙ ap (λ (ls : Laids). lists_in P.lists ls) (alone P h w below ask at)
    ∙ ap (λ (l : Laid). lists_of P.lists l ++ []) (sym (corrected_node P law (outer_back P) v w ask kids below lays.member lays.corrected))
