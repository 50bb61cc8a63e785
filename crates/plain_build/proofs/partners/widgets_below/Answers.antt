use Rattle.std.proofs.Common.{sym, ◌∙◌, map}
use Rattle.widget_model.specs.View.{shared}
use Rattle.build_form.proofs.Below.{ok_more, lazy_listed, others_listed}
use Rattle.plain_build.proofs.partners.widgets_below.Goals as goal

pub returns-then-is_lazy : goal.returns-then-is_lazy
returns-then-is_lazy c =
    let i = c.node.inside in
    ok_more (λ ws. map shared ws.items) c.copies.result _ _
    (c.get.ensures.widgets ∙ lazy_listed c.args.node.now i.number i.widget.value c.deref.result.now i.fields i.scroll i.index i.children.items _ c.node.view_is c.deref.ensures
    c.build_role_of.ensures.part c.deref-then-is_lazy.result.now c.deref-then-is_lazy.ensures (sym c.is_lazy.ensures ∙ c.if-is_lazy.true))
    c.copies.ensures

pub returns : goal.returns
returns c =
    let i = c.node.inside in
    ok_more (λ ws. map shared ws.items) c.widgets_of.result _ _
    (others_listed c.args.node.now i.number i.widget.value c.deref.result.now i.fields i.scroll i.index i.children.items _ c.node.view_is c.deref.ensures
    c.build_role_of.ensures.part c.as_slice.result.now c.as_slice.ensures.value (sym c.is_lazy.ensures ∙ c.if-is_lazy.false))
    c.widgets_of.ensures
