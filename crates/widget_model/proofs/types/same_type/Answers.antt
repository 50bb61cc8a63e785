use Rattle.widget_model.specs.View.{look_in}
use Rattle.widget_model.specs.WidgetType.{type_of}
use Rattle.widget_model.proofs.Updates.{result_tests, result_means}
use Rattle.widget_model.proofs.types.same_type.Goals as goal

pub returns-clause-test : goal.returns-clause-test
returns-clause-test c = result_tests c.eq.result c.kind_type.result c.kind_type-2.result _ _ c.eq.ensures c.kind_type.ensures c.kind_type-2.ensures

pub returns-clause-meaning : goal.returns-clause-meaning
returns-clause-meaning c =
    result_means c.eq.result (type_of (look_in c.args.a.now.kind)) (type_of (look_in c.args.b.now.kind))
    (result_tests c.eq.result c.kind_type.result c.kind_type-2.result _ _ c.eq.ensures c.kind_type.ensures c.kind_type-2.ensures)
