use Rattle.std.proofs.Common.{sym, ◌∙◌}
use Rattle.widget_model.specs.View.{plain_of}
use Rattle.work_sets.specs.Members.{is_same_widget}
use Rattle.build_owner.proofs.KeptOutput.{not_alike}
use Rattle.build_owner.proofs.keeping.is_unchanged.Goals as goal

pub returns-then-not-reads_alike : goal.returns-then-not-reads_alike
returns-then-not-reads_alike c = λ e there.
    not_alike e.dirty (is_same_widget e.widget (plain_of c.args.widget.now)) _ (sym c.reads_alike.ensures ∙ c.if-not-reads_alike.true)
