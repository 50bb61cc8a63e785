use Rattle.std.proofs.Common.{◌∙◌, ap, map, sym, subst}
use Rattle.fx_expr.specs.Value.{type_of}
use Rattle.fx_expr.specs.View.{set_of}
use Rattle.fx_expr.specs.Sets.{FitFields, fields_after}
use Rattle.fx_expr.proofs.SetLaws.{fields_after-typed, clones_are}
use Rattle.fx_expr.proofs.handlers.run_handler.Goals as goal

pub returns-clause-types : goal.returns-clause-types
returns-clause-types c =
    let fit = subst (λ sets. FitFields (map type_of c.args.fields.now.items) sets) (sym c.get.ensures) c.requires in
    let copied = clones_are c.args.fields.now.items c.in_ok-after.after.items c.in_ok-after.ensures.cases.0 in
    ap (map type_of) c.in_ok-run_sets.ensures
    ∙ ap (λ fs. map type_of (fields_after (map set_of c.get.result.now) fs c.args.event.0 c.args.event.1)) copied
    ∙ fields_after-typed (map set_of c.get.result.now) c.args.fields.now.items c.args.event.0 c.args.event.1 fit
