use Rattle.std.proofs.Common.{Some, sym, ap, ◌∙◌, option_copied, option_map}
use Rattle.widget_model.specs.View.{shared}
use Rattle.layout_rules.proofs.Running.{on_ok}
use Rattle.layout_owner.proofs.Renewing.{renewed}
use Rattle.layout_owner.proofs.root.renew.Goals as goal

pub returns-clause-stays : goal.returns-clause-stays
returns-clause-stays c =
    on_ok c.update.result _ _ (renewed c.args.r.now.tree c.update.new.self.tree c.args.h (shared c.in_ok-widget.widget)
    (sym c.widget.ensures ∙ ap (λ w. option_map shared (option_copied w)) c.in-Some.is ∙ ap (λ v. Some (shared (record c.in_ok-widget.widget { value = v }))) (sym c.in_ok-widget.ensures.cases)))
    c.update.ensures.updated
