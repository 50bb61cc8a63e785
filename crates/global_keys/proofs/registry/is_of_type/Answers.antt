use Rattle.std.proofs.Common.{ap, ◌∙◌}
use Rattle.widget_model.specs.View.{plain_of, shared}
use Rattle.widget_model.specs.Update.{same_type}
use Rattle.element_tree.specs.Element.{element_at}
use Rattle.global_keys.proofs.Naming.{type_there, type_absent}
use Rattle.global_keys.proofs.registry.is_of_type.Goals as goal

pub returns-in-Some : goal.returns-in-Some
returns-in-Some c =
    type_there (element_at c.args.t.now.tree c.args.h) (shared c.in-Some.widget.now) (plain_of c.args.w.now) c.same_type.result c.in-Some.ensures
    (c.same_type.ensures.test ∙ ap (λ v. same_type (plain_of v) (plain_of c.args.w.now)) c.deref.ensures)

pub returns-in-None : goal.returns-in-None
returns-in-None c = type_absent (element_at c.args.t.now.tree c.args.h) (plain_of c.args.w.now) c.in-None.ensures
