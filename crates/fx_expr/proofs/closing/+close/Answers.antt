use Rattle.std.proofs.Common.{◌∙◌, ap, sym, arith, rules}
use Rattle.std.proofs.lemmas.Int.{ints}
use Rattle.fx_expr.specs.Exp.{exps_of}
use Rattle.fx_expr.specs.View.{exp_of}
use Rattle.fx_expr.specs.ScopeView.{env_of}
use Rattle.fx_expr.specs.Scope.{types_in}
use Rattle.fx_expr.specs.declared.exprs.Expr.{the_lemmas}
use Rattle.fx_expr.proofs.Typing.{prop_below, variable_below, inherited_below}
use Rattle.fx_expr.proofs.ListItems.{item_typed_in, items_closed}
use Rattle.fx_expr.proofs.OpenedLaws.{operand, operands, three_operands, closed_one, closed_two, closed_three}
use Rattle.fx_expr.proofs.closing.+close.Goals as goal

pub substituted-value_in-requires : goal.substituted-value_in-requires
substituted-value_in-requires t c = prop_below (exp_of c.args.e.now) (env_of c.args.s.now) c.in-Prop.i (sym c.in-Prop.ensures.form) c.requires

pub substituted-value_in-requires-in-Var : goal.substituted-value_in-requires-in-Var
substituted-value_in-requires-in-Var t c = variable_below (exp_of c.args.e.now) (env_of c.args.s.now) c.in-Var.i (sym c.in-Var.ensures.form) c.requires

pub substituted-value_in-requires-in-Inherit : goal.substituted-value_in-requires-in-Inherit
substituted-value_in-requires-in-Inherit t c = inherited_below (exp_of c.args.e.now) (env_of c.args.s.now) c.in-Inherit.i (sym c.in-Inherit.ensures.form) c.requires

pub substituted-boxed-requires : goal.substituted-boxed-requires
substituted-boxed-requires t c =
    (omega (arith, c.in-One.ensures.depth), operand (types_in (env_of c.args.s.now)) (exp_of c.args.e.now) c.in-One.form (exp_of c.in-One.a.now) c.in-One.ensures.form c.requires)

pub substituted-boxed-requires-in-Two : goal.substituted-boxed-requires-in-Two
substituted-boxed-requires-in-Two t c =
    (omega (arith, c.in-Two.ensures.depth.0), (operands (types_in (env_of c.args.s.now)) (exp_of c.args.e.now) c.in-Two.form (exp_of c.in-Two.a.now) (exp_of c.in-Two.b.now) c.in-Two.ensures.form c.requires).0)

pub substituted-boxed-requires-in-Two-2 : goal.substituted-boxed-requires-in-Two-2
substituted-boxed-requires-in-Two-2 t c =
    (omega (arith, c.in-Two.ensures.depth.1), (operands (types_in (env_of c.args.s.now)) (exp_of c.args.e.now) c.in-Two.form (exp_of c.in-Two.a.now) (exp_of c.in-Two.b.now) c.in-Two.ensures.form c.requires).1)

pub substituted-boxed-requires-in-Three : goal.substituted-boxed-requires-in-Three
substituted-boxed-requires-in-Three t c =
    (omega (arith, c.in-Three.ensures.depth.0), (three_operands (types_in (env_of c.args.s.now)) (exp_of c.args.e.now) c.in-Three.form (exp_of c.in-Three.a.now) (exp_of c.in-Three.b.now) (exp_of c.in-Three.c.now) c.in-Three.ensures.form c.requires).0)

pub substituted-boxed-requires-in-Three-2 : goal.substituted-boxed-requires-in-Three-2
substituted-boxed-requires-in-Three-2 t c =
    (omega (arith, c.in-Three.ensures.depth.1), (three_operands (types_in (env_of c.args.s.now)) (exp_of c.args.e.now) c.in-Three.form (exp_of c.in-Three.a.now) (exp_of c.in-Three.b.now) (exp_of c.in-Three.c.now) c.in-Three.ensures.form c.requires).1)

pub substituted-boxed-requires-in-Three-3 : goal.substituted-boxed-requires-in-Three-3
substituted-boxed-requires-in-Three-3 t c =
    (omega (arith, c.in-Three.ensures.depth.2), (three_operands (types_in (env_of c.args.s.now)) (exp_of c.args.e.now) c.in-Three.form (exp_of c.in-Three.a.now) (exp_of c.in-Three.b.now) (exp_of c.in-Three.c.now) c.in-Three.ensures.form c.requires).2)

pub substituted-returns-in_ok-boxed-in-One : goal.substituted-returns-in_ok-boxed-in-One
substituted-returns-in_ok-boxed-in-One t c =
    closed_one _ (exp_of c.args.e.now) c.in-One.form (exp_of c.in-One.a.now) _ (env_of c.args.s.now) c.in-One.ensures.form c.in_ok-boxed-in-One.ensures c.over.ensures

pub substituted-returns-in_ok-boxed-in-Two : goal.substituted-returns-in_ok-boxed-in-Two
substituted-returns-in_ok-boxed-in-Two t c =
    closed_two _ (exp_of c.args.e.now) c.in-Two.form (exp_of c.in-Two.a.now) (exp_of c.in-Two.b.now) _ _ (env_of c.args.s.now) c.in-Two.ensures.form c.in_ok-a-in-Two.ensures c.in_ok-boxed-in-Two.ensures c.over-in-Two.ensures

pub substituted-returns-in_ok-boxed-in-Three : goal.substituted-returns-in_ok-boxed-in-Three
substituted-returns-in_ok-boxed-in-Three t c =
    closed_three _ (exp_of c.args.e.now) c.in-Three.form (exp_of c.in-Three.a.now) (exp_of c.in-Three.b.now) (exp_of c.in-Three.c.now) _ _ _ (env_of c.args.s.now) c.in-Three.ensures.form c.in_ok-a-in-Three.ensures c.in_ok-b-in-Three.ensures c.in_ok-boxed-in-Three.ensures c.over-in-Three.ensures

pub all-substituted-requires : goal.all-substituted-requires
all-substituted-requires t c = (
  search (ints, rules, the_lemmas),
  (c.requires.0, item_typed_in (types_in (env_of c.args.s.now)) c.args.es.now c.deref-e-items.result.now c.requires.0 c.loop-e.e-index c.e-item.result c.requires.1 (search (rules, the_lemmas)) c.loop-e-test.true c.e-item.is),
)

pub all-returns : goal.all-returns
all-returns t c =
    ap exps_of c.of.ensures ∙ items_closed c.args.es.now c.deref-e-items.result.now (env_of c.args.s.now) c.loop-e.e-index _ (search (rules, the_lemmas)) c.loop-e-test.false c.loop-e.invariant
