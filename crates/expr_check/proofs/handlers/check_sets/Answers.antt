use Rattle.std.proofs.Common.{map, ◌∷◌, [], ap, sym, ◌∙◌}
use Rattle.std.proofs.lemmas.List.{map-append}
use Rattle.fx_expr.specs.View.{set_of}
use Rattle.expr_check.specs.ScopeView.{plain_names}
use Rattle.expr_check.specs.Check.{in_order}
use Rattle.expr_check.specs.Handlers.{checked_handler}
use Rattle.program_form.specs.HandlerView.{plain_set}
use Rattle.expr_check.proofs.HandlerLemmas.{checked_handler-map, set_check, resumed, resumed-none, resumed-step}
use Rattle.expr_check.proofs.handlers.check_sets.Goals as goal

pub loop-i-init : goal.loop-i-init
loop-i-init c =
    let checks = in_order (map (set_check (plain_names c.args.names.now)) c.args.sets.now) in
    checked_handler-map (plain_names c.args.names.now) c.args.sets.now ∙ resumed-none checks
    ∙ ap (λ sets. resumed (map set_of sets) checks) (sym c.new-checked.ensures.items)

pub loop-i-preserved : goal.loop-i-preserved
loop-i-preserved c =
    let names = plain_names c.args.names.now in
    resumed-step (set_check names) (checked_handler names (map plain_set c.args.sets.now)) (map set_of c.loop-i.checked.items) (map set_of c.push.new.self.items)
    c.args.sets.now c.loop-i.i c.index-sets-i.result (set_of c.in_ok-set.set) c.loop-i-test.true c.index-sets-i.is c.loop-i.invariant c.in_ok-set.ensures
    (ap (map set_of) c.in_ok-push.ensures.items ∙ map-append set_of c.loop-i.checked.items (c.in_ok-set.set ∷ []))
