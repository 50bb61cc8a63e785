use Rattle.std.proofs.Common.{◌≡◌, rules, [], map, sym, ap, ◌∙◌, subst}
use Rattle.std.proofs.lemmas.Result.{IfOk-weaker}
use Rattle.fx_expr.specs.Value.{type_of}
use Rattle.fx_expr.specs.ValueOf.{value_of}
use Rattle.template_build.specs.Program.{props_alone}
use Rattle.fx_expr.specs.View.{exp_of}
use Rattle.expr_check.specs.Names.{types_in}
use Rattle.expr_check.specs.Sight.{sight_of}
use Rattle.program_check.specs.ProgramCheck.{nothing_seen}
use Rattle.program_check.specs.TypedBody.{AreTypedInOrder}
use Rattle.build_form.proofs.Typing.{values_typed}
use Rattle.plain_build.proofs.program.default_values.Goals as goal

pub values_of-requires : goal.values_of-requires
values_of-requires c =
    let t = c.parts-parts.ensures.checked.typed.inherited in
    let e : c.as_slice.result.now ≡ c.args.checked.now.inherited.values.items = search rules in
    (types_in c.args.checked.now.inherited.names, subst (λ es. AreTypedInOrder (sight_of nothing_seen) (types_in c.args.checked.now.inherited.names) (map exp_of es)) (sym e) t)

pub returns-clause-typed : goal.returns-clause-typed
returns-clause-typed c =
    let t = c.parts-parts.ensures.checked.typed.inherited in
    let e : c.as_slice.result.now ≡ c.args.checked.now.inherited.values.items = search rules in
    IfOk-weaker c.values_of.result _ _
    (λ vs h. ap (map type_of) h ∙ ap (λ es. map type_of (map (λ x. value_of x (props_alone [])) (map exp_of es))) e ∙ values_typed (types_in c.args.checked.now.inherited.names) (map exp_of c.args.checked.now.inherited.values.items) t)
    c.values_of.ensures

pub returns-clause-checked : goal.returns-clause-checked
returns-clause-checked c = c.parts-parts.ensures.checked.typed
