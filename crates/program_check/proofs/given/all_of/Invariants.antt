use Rattle.std.proofs.Common.{◌≡◌, map}
use Rattle.expr_check.specs.declared.fault.CheckCode.TheVariants.{OtherDeclared}
use Rattle.expr_check.specs.Check.{in_order}
use Rattle.expr_check.proofs.HandlerLemmas.{resumed}
use Rattle.program_check.specs.Place.{or_wrong}
use Rattle.program_check.proofs.given.all_of.Given as goal

abbrev pub invariant-loop-entry : goal.invariant-loop-entry
invariant-loop-entry g l =
    in_order (map (or_wrong OtherDeclared) l.fn.table.items) ≡ resumed l.all.items (in_order (map (or_wrong OtherDeclared) l.entry-iterator.rest.items))
