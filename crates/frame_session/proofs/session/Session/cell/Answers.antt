use Rattle.std.proofs.Common.{ap, ◌∙◌}
use Rattle.program_check.specs.WellChecked as well
use Rattle.session_form.specs.Program.{scale_of}
use Rattle.frame_session.specs.declared.held.HeldSession.{HeldSession}
use Rattle.session_form.proofs.CountLemmas.{cell_lengths}
use Rattle.frame_session.proofs.session.Session.cell.Goals as goal

pub returns-clause-cell : goal.returns-clause-cell
returns-clause-cell g c s h =
    ap (λ scale. scale.cell) c.scale.ensures ∙ ap (λ (held : HeldSession). (well.scale_of held.program.version).cell) c.held.ensures
    ∙ ap (λ p. (scale_of p).cell) h.2.program

pub returns-clause-lengths : goal.returns-clause-lengths
returns-clause-lengths g c = cell_lengths c.scale.result c.held.result.now.program.version c.scale.ensures
