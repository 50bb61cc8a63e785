use Rattle.std.proofs.Common.{ap, sym, ◌∙◌}
use Rattle.widget_model.specs.Look.{sliver_fixed}
use Rattle.layout_form.specs.declared.asks.Ask.{Ask}
use Rattle.kind_rules.specs.Asked.{first_for}
use Rattle.layout_rules.proofs.Filling.{if_ok}
use Rattle.layout_rules.proofs.fixed.list_first.Goals as goal

pub returns-in-AsBox : goal.returns-in-AsBox
returns-in-AsBox c = λ s ds n liked is. sym (ap (λ (a : Ask). first_for s (sliver_fixed c.args.extent) n a liked ds) c.in-AsBox.is)

pub returns-in-AsSliver : goal.returns-in-AsSliver
returns-in-AsSliver c =
    if_ok c.items_asked.result _ _ (λ asks are s ds n liked is. are ds n is ∙ sym (ap (λ (a : Ask). first_for s (sliver_fixed c.args.extent) n a liked ds) c.in-AsSliver.is)) c.items_asked.ensures
