use Rattle.std.proofs.Common.{sym, ◌∙◌}
use Rattle.build_owner.proofs.Keyless as keyless
use Rattle.build_owner.proofs.giving.keep_apart.Goals as goal

pub returns-then-not-is_any_keyed-clause-ok : goal.returns-then-not-is_any_keyed-clause-ok
returns-then-not-is_any_keyed-clause-ok c = λ s. keyless.are_apart c.args.widgets.now s (sym c.is_any_keyed.ensures ∙ c.if-not-is_any_keyed.true)
