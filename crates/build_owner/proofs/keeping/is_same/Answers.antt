use Rattle.std.specs.Bool.{one_answer}
use Rattle.widget_model.specs.View.{plain_of}
use Rattle.work_sets.specs.Members.{is_same_widget}
use Rattle.build_owner.proofs.keeping.is_same.Goals as goal

pub returns : goal.returns
returns c =
    let a = plain_of c.args.a.now in
    let b = plain_of c.args.b.now in
    one_answer c.same.result (is_same_widget a b) (c.same.ensures.0, c.same.ensures.1) (c.same_means_equal.ensures.widgets a b)
