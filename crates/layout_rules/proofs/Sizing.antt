-- A box that was laid out has a size.
use Rattle.std.proofs.Common.{◌≡◌, ap, sym, ◌∙◌, ℕ, Bool, Option, Some, None, option_map}
use Rattle.std.specs.Prelude.{option_and_then}
use Rattle.fx_geom.specs.declared.boxes.Bounds.{Bounds}
use Rattle.fx_geom.specs.declared.shapes.Size.{Size}
use Rattle.fx_handles.specs.declared.Handle.{Handle}
use Rattle.node_tree.specs.Forest.{Forest, tops}
use Rattle.node_tree.specs.Forest.Forest.{none, tree}
use Rattle.node_tree.specs.Tree.{Tree}
use Rattle.plain_tree.specs.declared.laid.Frame.{Frame}
use Rattle.plain_tree.specs.declared.laid.Frame.TheVariants.{Boxed, Sliver}
use Rattle.plain_tree.specs.Shown.{box_size}
use Rattle.layout_form.specs.declared.asks.Ask.{Ask}
use Rattle.layout_form.specs.declared.asks.Ask.TheVariants.{AsBox, AsSliver}
use Rattle.render_tree.specs.declared.layout_state.LayoutState.{LayoutState}
use Rattle.render_tree.specs.Object.{RenderObject}
use Rattle.render_tree.specs.Tree.{frame_at}
use Rattle.layout_walk.specs.Node.{LayoutNode, frame_or, ask_in}
use Rattle.layout_walk.specs.Rule.{LayoutParts}
use Rattle.layout_rules.specs.declared.duties.Duty.TheVariants.{Lay}
use Rattle.layout_rules.specs.Nodes.{SeenAt}
use Rattle.layout_rules.specs.Reads.{state_at}
use Rattle.layout_rules.specs.Serving.{Serves}
use Rattle.layout_rules.proofs.Readings.{stored_state}
use Rattle.layout_rules.proofs.Turning.{seen_stored}

no_ask : (ask : Ask) → None ≡ Some ask → ⊥
no_ask ask e = cc

boxed_so : (f : Option Frame) (b : Bounds) → option_map ask_in f ≡ Some (AsBox b) → f ≡ Some (Boxed b (box_size (frame_or f)))
boxed_so None b e = absurd (no_ask (AsBox b) e)
boxed_so (Some (Boxed bounds size)) b e =
    let same : bounds ≡ b = cc in
    ap (λ (x : Bounds). Some (Boxed x size)) same
boxed_so (Some (Sliver bounds geometry)) b e = absurd (two e)
  where
    two : Some (AsSliver bounds) ≡ Some (AsBox b) → ⊥
    two e = cc

frame_seen : (t : Tree RenderObject) (h : Handle) (v : LayoutNode) (kids : Forest LayoutNode) → SeenAt t h (tree h v kids none) → frame_at t h ≡ v.frame
frame_seen t h v kids seen =
    let stored = seen_stored t h v kids seen in
    ap (λ (o : Option RenderObject). option_and_then (λ (x : RenderObject). x.frame) o) stored.is ∙ ap (λ (x : LayoutNode). x.frame) stored.seen

pub size_laid : (P : LayoutParts) (outer : Bool) (b : Bounds) (old new : Tree RenderObject) (h : Handle) (before after : ℕ) (size : Size)
    → Serves P outer (Lay (AsBox b)) old new h before after → size ≡ box_size (frame_or (state_at new h).frame) → frame_at new h ≡ Some (Boxed b size)
size_laid P outer b old new h before after size serves is =
    let v = serves.value_now in
    let kids = serves.kids_now in
    let seen = serves.turns.stands in
    let state = ap (λ (u : LayoutState). u.frame) (stored_state new h v (tops kids) (seen_stored new h v kids seen)) in
    frame_seen new h v kids seen
    ∙ boxed_so v.frame b serves.does.asked
    ∙ ap (λ (f : Option Frame). Some (Boxed b (box_size (frame_or f)))) (sym state)
    ∙ ap (λ (x : Size). Some (Boxed b x)) (sym is)
