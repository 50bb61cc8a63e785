use Rattle.std.proofs.Common.{refl}
use Rattle.build_form.specs.Program.{blueprint_of}
use Rattle.template_build.specs.Program.{declarations_of}
use Rattle.build_walk.proofs.Rebuilding.{reads_names}
use Rattle.build_walk.proofs.Telling.{told_known, stored_held}
use Rattle.build_walk.proofs.laws.elements_tell_the_last_frame.Goals as goal

pub returns-clause-known : goal.returns-clause-known
returns-clause-known c = λ p pasts scrolled f checked well told held.
    told_known (blueprint_of p) scrolled pasts (declarations_of p) (reads_names p checked) (blueprint_of p).defaults f refl well told held

pub returns-clause-held : goal.returns-clause-held
returns-clause-held c = λ b marks values scrolled f stored flagged fresh. stored_held b scrolled marks values f stored flagged fresh
