-- A frame without flags costs nothing.
use Rattle.std.proofs.Common.{◌≡◌, ℕ, ◌+◌, Bool, true, false, if◌then◌else◌, refl, ap, ◌∙◌, arith, true≢false}
use Rattle.node_tree.specs.Forest.{Forest}
use Rattle.node_tree.specs.Forest.Forest.{none, tree}
use Rattle.render_tree.specs.Object.{RenderObject}
use Rattle.kept_layers.specs.Group.{is_boundary, opens}
use Rattle.kept_layers.specs.Steps.{painted_count}
use Rattle.paint_owner.specs.Finding.{root_flag}
use Rattle.paint_owner.specs.Settled.{IsRootShown, IsPaintedCalm}

-- of a node: whether it is in the window, a boundary, open and flagged, and what is below it with the flag and without
node_costs : (shown boundary opened flag : Bool) (inside : Bool → ℕ) → (shown ≡ true → (flag ≡ false) × (opened ≡ true → inside false ≡ 0))
    → (if shown
    then (if boundary then (if flag then 1 else 0) + (if opened then inside flag else 0) else (if false then 1 else 0) + (if opened then inside false else 0))
    else 0) ≡ 0
node_costs false boundary opened flag inside calm = refl
node_costs true boundary opened true inside calm = absurd (true≢false (calm refl).0)
node_costs true true true false inside calm = omega (arith, (calm refl).1 refl)
node_costs true true false false inside calm = refl
node_costs true false true false inside calm = omega (arith, (calm refl).1 refl)
node_costs true false false false inside calm = refl

calm_costs : (f : Forest RenderObject) → IsPaintedCalm f → painted_count false f ≡ 0
calm_costs none calm = refl
calm_costs (tree h o below rest) calm =
    let mine = node_costs o.shown (is_boundary o) (opens o) o.needs_paint (λ b. painted_count b below)
    (λ s. ((calm.0 s).0, λ e. calm_costs below ((calm.0 s).1 e))) in
    let others = calm_costs rest calm.1 in
    (λ i. mine i + others i)

pub calm_frame_costs : (f : Forest RenderObject) → IsRootShown f → IsPaintedCalm f → painted_count (root_flag f) f ≡ 0
calm_frame_costs none shown calm = absurd shown
calm_frame_costs (tree h o below rest) shown calm =
    ap (λ b. painted_count b (tree h o below rest)) (calm.0 shown).0 ∙ calm_costs (tree h o below rest) calm
