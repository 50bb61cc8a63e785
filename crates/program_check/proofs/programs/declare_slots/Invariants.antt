use Rattle.std.proofs.Common.{◌≡◌, drop, []}
use Rattle.program_check.specs.ProgramCheck.{declared_slots}
use Rattle.program_check.proofs.programs.declare_slots.Given as goal

abbrev pub invariant-loop-i : goal.invariant-loop-i
invariant-loop-i l = declared_slots [] l.slots ≡ declared_slots l.declared (drop l.i l.slots)
