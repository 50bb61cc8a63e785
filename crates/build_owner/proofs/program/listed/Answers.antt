use Rattle.std.proofs.Common.{◌++◌, ◌∷◌, [], List, map, sym, ap, ◌∙◌}
use Rattle.std.proofs.lemmas.Result.{IfOk-weaker}
use Rattle.std.specs.declared.alloc.Global.{Global}
use Rattle.std.specs.declared.rc.Rc.{Rc}
use Rattle.widget_model.specs.declared.widgets.Widget.{Widget}
use Rattle.widget_model.specs.PlainLaws.{list_of-widgets_of}
use Rattle.widget_model.specs.View.{plain_of, shared}
use Rattle.build_owner.specs.Given.{given_to}
use Rattle.build_owner.proofs.program.listed.Goals as goal

pub returns-in-Own : goal.returns-in-Own
returns-in-Own c =
    IfOk-weaker c.copies.result _ _
    (λ ws is. is ∙ c.get.ensures.widgets ∙ sym (list_of-widgets_of c.args.widget.now.children) ∙ sym (ap (given_to (plain_of c.args.widget.now)) c.in-Own.is))
    c.copies.ensures

pub returns-in_ok-push-in-One : goal.returns-in_ok-push-in-One
returns-in_ok-push-in-One c =
    ap (map shared) (c.in_ok-push-in-One.ensures.items ∙ ap (λ (l : List (Rc Widget Global)). l ++ c.in-One.output ∷ []) c.new-widgets.ensures.items) ∙ sym (ap (given_to (plain_of c.args.widget.now)) c.in-One.is)

pub returns-in-Others : goal.returns-in-Others
returns-in-Others c = sym (ap (given_to (plain_of c.args.widget.now)) c.in-Others.is)
