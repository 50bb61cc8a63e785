use Rattle.std.proofs.Common.{◌≡◌, ℕ, rules, List, [], map, sym, ◌∙◌, subst}
use Rattle.fx_expr.specs.declared.values.Value.{Value}
use Rattle.fx_expr.specs.Value.{type_of}
use Rattle.widget_model.specs.View.{look_in, slots_in}
use Rattle.program_check.specs.CheckedView.{plain_checked}
use Rattle.template_build.specs.Program.{declarations_of}
use Rattle.template_build.specs.Suits.{MayBegin}
use Rattle.build_form.specs.BuildRole.{composes, build_role_of}
use Rattle.build_form.specs.Program.{blueprint_of}
use Rattle.build_form.specs.WellBuilt.{FitFields}
use Rattle.build_form.proofs.Typing.{may_begin, not_composes, other_fields, other_first}
use Rattle.build_owner.proofs.program.first_fields.Goals as goal

pub initial_fields-requires : goal.initial_fields-requires
initial_fields-requires c =
    let C = plain_checked c.args.checked.now in
    let w = c.args.widget.now in
    let may = may_begin C w.key (slots_in w.kind) w.children c.in-Composes.component c.in-Composes.props.now (look_in w.kind) c.requires (sym c.in-Composes.ensures.part) in
    subst (λ props. MayBegin C c.in-Composes.component (map type_of props)) (sym c.get.ensures) may

pub returns : goal.returns
returns c =
    let C = plain_checked c.args.checked.now in
    let w = c.args.widget.now in
    let not = λ (place : ℕ) (props : List Value) (e : build_role_of (look_in w.kind) ≡ composes place props). not_composes c.build_role_of.result c.in_default.not-Composes place props (c.build_role_of.ensures.part ∙ e) in
    let none : c.new.result.items ≡ [] = search rules in
    record {
      fields = none ∙ other_first (blueprint_of C) (build_role_of (look_in w.kind)) not;
      fit = subst (FitFields (declarations_of C) (build_role_of (look_in w.kind))) (sym none) (other_fields (declarations_of C) (build_role_of (look_in w.kind)) not);
    }
