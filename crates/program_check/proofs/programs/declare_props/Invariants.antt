use Rattle.std.proofs.Common.{◌≡◌, map, drop, []}
use Rattle.program_form.specs.ProgramView.{plain_parameter}
use Rattle.program_check.specs.ProgramCheck.{declared_props}
use Rattle.program_check.proofs.programs.declare_props.Given as goal

abbrev pub invariant-loop-i : goal.invariant-loop-i
invariant-loop-i l =
    declared_props [] (map plain_parameter l.props) ≡ declared_props l.declared (map plain_parameter (drop l.i l.props))
