use Rattle.std.proofs.Common.{sym, ◌∙◌}
use Rattle.widget_model.specs.View.{plain_of}
use Rattle.build_owner.specs.NamesView.{widget_had}
use Rattle.build_owner.proofs.Providing.{same_below, same_after}
use Rattle.build_owner.proofs.names.go_below.Goals as goal

pub returns-then-not-was_provider-clause-now : goal.returns-then-not-was_provider-clause-now
returns-then-not-was_provider-clause-now c = same_below (plain_of c.args.widget.now) c.args.names.now.now.items (sym c.is_provider.ensures ∙ c.if-not-is_provider.true)

pub returns-then-not-was_provider-clause-was : goal.returns-then-not-was_provider-clause-was
returns-then-not-was_provider-clause-was c = same_after (widget_had c.args.t.now.tree c.args.partner) c.args.names.now.was.items (sym c.was_provider.ensures ∙ c.if-not-was_provider.true)
