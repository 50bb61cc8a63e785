use Rattle.std.proofs.Common.{◌||◌, refl, sym, ap, ◌∙◌}
use Rattle.text_cells.proofs.PassLemmas.{stretch_and}
use Rattle.text_cells.proofs.stretch.Stretch.and.Goals as goal
use Rattle.text_cells.proofs.stretch.Stretch.and.Goals.{then-self, else-self}

pub returns-clause-holds : goal.returns-clause-holds
returns-clause-holds c cs ds holds other =
    stretch_and c.args.self c.args.other _ cs ds holds other
    (elim c.if-self.branch [
      | then-self w ↦ w.result-is ∙ w.if-self.true ∙ sym (ap (λ b. b || c.args.other.some) w.if-self.true)
      | else-self w ↦ w.result-is ∙ sym (ap (λ b. b || c.args.other.some) w.if-self.false)
    ]) refl refl
