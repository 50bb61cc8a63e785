use Rattle.std.proofs.Common.{◌≡◌, ◌<◌, length, map, get_or, sym, ap, ◌∙◌, subst}
use Rattle.std.proofs.lemmas.List.{get_or-map, length-map}
use Rattle.fx_expr.specs.Typed.{HasType}
use Rattle.fx_expr.specs.View.{exp_of}
use Rattle.expr_check.specs.Sight.{sight_of}
use Rattle.program_check.specs.ProgramCheck.{nothing_seen}
use Rattle.build_form.proofs.Typing.{typed_at}
use Rattle.plain_build.proofs.program.values_of.Goals as goal

pub eval-requires : goal.eval-requires
eval-requires c =
    let es = map exp_of c.args.exprs.now in
    let e = c.e-item.result in
    let low : c.loop-e.e-index < length es = rw length-map c.loop-e-test.true in
    let at = typed_at (sight_of nothing_seen) c.requires.0 es c.loop-e.e-index (exp_of e) low c.requires.1 in
    let is : get_or es c.loop-e.e-index (exp_of e) ≡ exp_of e = get_or-map exp_of c.args.exprs.now c.loop-e.e-index e (exp_of e) c.loop-e-test.true ∙ ap exp_of (sym c.e-item.is) in
    subst (HasType (sight_of nothing_seen).types) is at
