use Rattle.std.proofs.Common.{ap, map, subst, sym, ◌∙◌}
use Rattle.expr_check.specs.declared.fault.CheckCode.TheVariants.{OtherDeclared}
use Rattle.expr_check.specs.Check.{Answers, in_order}
use Rattle.program_check.specs.Place.{or_wrong}
use Rattle.program_check.proofs.GivenLemmas.{arranged-table}
use Rattle.program_check.proofs.given.arrange.Goals as goal

pub returns : goal.returns
returns g c =
    subst (Answers (λ xs. xs.items) c.all_of.result)
    (ap (λ os. in_order (map (or_wrong OtherDeclared) os)) c.in_ok-table.ensures ∙ sym (arranged-table c.args.count c.args.given.items)) c.all_of.ensures
