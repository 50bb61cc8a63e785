-- What a build is made from, as the program says it.
use Rattle.widget_model.specs.Typed.{Declarations}
use Rattle.program_check.specs.CheckedView.{plain_checked}
use Rattle.template_build.specs.Program.{declarations_of}
use Rattle.plain_build.specs.declared.basis.Basis.{Basis as BasisOfProgram}
use Rattle.plain_build.specs.declared.basis.Phase.{Phase as PhaseOfProgram}
use Rattle.plain_build.specs.declared.basis.Phase.TheVariants as phase
use Rattle.build_form.specs.Entering.{Basis, Phase, first, second}
use Rattle.plain_build.specs.PartnerView.{held}
use Rattle.build_form.specs.Program.{blueprint_of}

abbrev pub basis_of : BasisOfProgram → Basis
basis_of b = record { program = blueprint_of (plain_checked b.checked.now); holder = λ k. held b.holders k }

abbrev pub declared_by : BasisOfProgram → Declarations
declared_by b = declarations_of (plain_checked b.checked.now)

abbrev pub phase_of : PhaseOfProgram → Phase
phase_of phase.First = first
phase_of phase.Second = second
