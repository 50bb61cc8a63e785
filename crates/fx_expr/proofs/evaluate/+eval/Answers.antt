use Rattle.std.proofs.Common.{◌∙◌, ap, sym, refl, arith, rules}
use Rattle.std.proofs.lemmas.Int.{ints}
use Rattle.fx_expr.specs.Limit.{cut_list}
use Rattle.fx_expr.specs.View.{exp_of}
use Rattle.fx_expr.specs.ScopeView.{env_of}
use Rattle.fx_expr.proofs.Typing.{typed_as, list_typed, field_below, prop_below, variable_below, inherited_below}
use Rattle.fx_expr.specs.Scope.{types_in}
use Rattle.fx_expr.specs.declared.exprs.Expr.{the_lemmas}
use Rattle.fx_expr.proofs.ListItems.{item_typed_in, ints_made, texts_made}
use Rattle.fx_expr.proofs.OpenedLaws.{operand, operands, ints_typed, texts_typed, takes_operand, takes_operands, one_result, two_result, settled, condition_typed, list_typed_in, index_typed}
use Rattle.fx_expr.proofs.evaluate.+eval.Goals as goal

pub eval_int-into_int-requires : goal.eval_int-into_int-requires
eval_int-into_int-requires t c = typed_as _ _ _ _ c.requires c.in_ok-evaluated.ensures

pub eval_text-into_text-requires : goal.eval_text-into_text-requires
eval_text-into_text-requires t c = typed_as _ _ _ _ c.requires c.in_ok-evaluated.ensures

pub evaluated-value_in-requires : goal.evaluated-value_in-requires
evaluated-value_in-requires t c = field_below (exp_of c.args.e.now) (env_of c.args.s.now) c.in-Field.i (sym c.in-Field.ensures.form) c.requires

pub evaluated-value_in-requires-in-Prop : goal.evaluated-value_in-requires-in-Prop
evaluated-value_in-requires-in-Prop t c = prop_below (exp_of c.args.e.now) (env_of c.args.s.now) c.in-Prop.i (sym c.in-Prop.ensures.form) c.requires

pub evaluated-value_in-requires-in-Var : goal.evaluated-value_in-requires-in-Var
evaluated-value_in-requires-in-Var t c = variable_below (exp_of c.args.e.now) (env_of c.args.s.now) c.in-Var.i (sym c.in-Var.ensures.form) c.requires

pub evaluated-value_in-requires-in-Inherit : goal.evaluated-value_in-requires-in-Inherit
evaluated-value_in-requires-in-Inherit t c = inherited_below (exp_of c.args.e.now) (env_of c.args.s.now) c.in-Inherit.i (sym c.in-Inherit.ensures.form) c.requires

pub evaluated-eval_ints-requires : goal.evaluated-eval_ints-requires
evaluated-eval_ints-requires t c =
    (omega (arith, c.in-Ints.ensures.depth), ints_typed (types_in (env_of c.args.s.now)) (exp_of c.args.e.now) _ c.in-Ints.ensures.form c.requires)

pub evaluated-eval_texts-requires : goal.evaluated-eval_texts-requires
evaluated-eval_texts-requires t c =
    (omega (arith, c.in-Texts.ensures.depth), texts_typed (types_in (env_of c.args.s.now)) (exp_of c.args.e.now) _ c.in-Texts.ensures.form c.requires)

pub evaluated-evaluated-requires : goal.evaluated-evaluated-requires
evaluated-evaluated-requires t c =
    (omega (arith, c.in-One.ensures.depth), operand (types_in (env_of c.args.s.now)) (exp_of c.args.e.now) c.in-One.form (exp_of c.in-One.a.now) c.in-One.ensures.form c.requires)

pub evaluated-over_one-requires : goal.evaluated-over_one-requires
evaluated-over_one-requires t c =
    takes_operand (exp_of c.args.e.now) c.in-One.form (exp_of c.in-One.a.now) (env_of c.args.s.now) _ c.in-One.ensures.form c.requires c.in_ok-operand-in-One.ensures

pub evaluated-returns-in_ok-operand-in-One : goal.evaluated-returns-in_ok-operand-in-One
evaluated-returns-in_ok-operand-in-One t c =
    one_result c.over_one.result (exp_of c.args.e.now) c.in-One.form (exp_of c.in-One.a.now) (env_of c.args.s.now) _ c.in-One.ensures.form c.in_ok-operand-in-One.ensures c.over_one.ensures

pub evaluated-evaluated-requires-in-Two : goal.evaluated-evaluated-requires-in-Two
evaluated-evaluated-requires-in-Two t c =
    (omega (arith, c.in-Two.ensures.depth.0), (operands (types_in (env_of c.args.s.now)) (exp_of c.args.e.now) c.in-Two.form (exp_of c.in-Two.a.now) (exp_of c.in-Two.b.now) c.in-Two.ensures.form c.requires).0)

pub evaluated-evaluated-requires-in-Two-2 : goal.evaluated-evaluated-requires-in-Two-2
evaluated-evaluated-requires-in-Two-2 t c =
    (omega (arith, c.in-Two.ensures.depth.1), (operands (types_in (env_of c.args.s.now)) (exp_of c.args.e.now) c.in-Two.form (exp_of c.in-Two.a.now) (exp_of c.in-Two.b.now) c.in-Two.ensures.form c.requires).1)

pub evaluated-returns-then-settles : goal.evaluated-returns-then-settles
evaluated-returns-then-settles t c =
    settled (exp_of c.args.e.now) c.in-Two.form (exp_of c.in-Two.a.now) (exp_of c.in-Two.b.now) (env_of c.args.s.now) _ c.in-Two.ensures.form c.in_ok-left-in-Two.ensures (c.if-settles.ensures refl)

pub evaluated-over_two-requires : goal.evaluated-over_two-requires
evaluated-over_two-requires t c =
    takes_operands (exp_of c.args.e.now) c.in-Two.form (exp_of c.in-Two.a.now) (exp_of c.in-Two.b.now) (env_of c.args.s.now) _ _ c.in-Two.ensures.form c.requires c.in_ok-left-in-Two.ensures c.in_ok-right-in-Two.ensures

pub evaluated-returns-in_ok-right-in-Two : goal.evaluated-returns-in_ok-right-in-Two
evaluated-returns-in_ok-right-in-Two t c =
    two_result c.over_two.result (exp_of c.args.e.now) c.in-Two.form (exp_of c.in-Two.a.now) (exp_of c.in-Two.b.now) (env_of c.args.s.now) _ _ c.in-Two.ensures.form c.in_ok-left-in-Two.ensures c.in_ok-right-in-Two.ensures c.over_two.ensures

pub eval_choice-into_bool-requires : goal.eval_choice-into_bool-requires
eval_choice-into_bool-requires t c =
    typed_as _ _ _ _ (condition_typed (types_in (env_of c.args.s.now)) (exp_of c.args.c.now) (exp_of c.args.a.now) (exp_of c.args.b.now) c.requires) c.in_ok-choice.ensures

pub eval_item-item-requires : goal.eval_item-item-requires
eval_item-item-requires t c =
    list_typed _ _ _ (list_typed_in (types_in (env_of c.args.s.now)) (exp_of c.args.l.now) (exp_of c.args.i.now) (exp_of c.args.d.now) c.requires) c.in_ok-list.ensures

pub eval_item-into_int-requires : goal.eval_item-into_int-requires
eval_item-into_int-requires t c =
    typed_as _ _ _ _ (index_typed (types_in (env_of c.args.s.now)) (exp_of c.args.l.now) (exp_of c.args.i.now) (exp_of c.args.d.now) c.requires) c.in_ok-index.ensures

pub eval_ints-eval_int-requires : goal.eval_ints-eval_int-requires
eval_ints-eval_int-requires t c =
    (search (ints, rules, the_lemmas), item_typed_in (types_in (env_of c.args.s.now)) c.args.es.now c.deref-e-items.result.now _ c.loop-e.e-index c.e-item.result c.requires (search (rules, the_lemmas)) c.loop-e-test.true c.e-item.is)

pub eval_texts-eval_text-requires : goal.eval_texts-eval_text-requires
eval_texts-eval_text-requires t c =
    (search (ints, rules, the_lemmas), item_typed_in (types_in (env_of c.args.s.now)) c.args.es.now c.deref-e-items.result.now _ c.loop-e.e-index c.e-item.result c.requires (search (rules, the_lemmas)) c.loop-e-test.true c.e-item.is)

pub eval_ints-returns : goal.eval_ints-returns
eval_ints-returns t c =
    let made = ints_made c.args.es.now c.deref-e-items.result.now (env_of c.args.s.now) c.loop-e.e-index c.loop-e.numbers.items (search (rules, the_lemmas)) c.loop-e-test.false c.loop-e.invariant in
    c.of.ensures ∙ c.cut.ensures ∙ ap cut_list made

pub eval_texts-returns : goal.eval_texts-returns
eval_texts-returns t c =
    let made = texts_made c.args.es.now c.deref-e-items.result.now (env_of c.args.s.now) c.loop-e.e-index c.loop-e.texts.items (search (rules, the_lemmas)) c.loop-e-test.false c.loop-e.invariant in
    c.of.ensures ∙ c.cut.ensures ∙ ap cut_list made
