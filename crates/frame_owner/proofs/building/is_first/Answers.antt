use Rattle.std.proofs.Common.{◌≡◌, true, false, sym, ◌∙◌, subst}
use Rattle.fx_handles.specs.Arena.{used_count}
use Rattle.node_tree.specs.Tree.{Tree}
use Rattle.element_tree.specs.Element.{Element}
use Rattle.frame_owner.proofs.building.is_first.Goals as goal

false_true : false ≡ true → ⊥
false_true e = cc

pub returns-then-not-listless : goal.returns-then-not-listless
returns-then-not-listless c = (λ e. absurd (false_true e), λ h. absurd (false_true (sym c.if-not-listless.true ∙ h.1)))

pub returns : goal.returns
returns c = (
  λ on. (subst (λ (x : Tree Element). used_count x.nodes ≡ 0) c.tree.ensures (c.is_empty.ensures.0 on), c.if-not-listless.false),
  λ h. c.is_empty.ensures.1 (subst (λ (x : Tree Element). used_count x.nodes ≡ 0) (sym c.tree.ensures) h.0),
)
