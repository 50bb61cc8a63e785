use Rattle.std.proofs.Common.{◌≡◌, ◌<◌, ◌-◌, suc, arith, length, drop, sym, ap, ◌∙◌}
use Rattle.expr_check.specs.Names.{latest_of}
use Rattle.expr_check.proofs.NamesLemmas.{latest_of-at}
use Rattle.expr_check.proofs.names.latest.Goals as goal
use Rattle.std.specs.Prelude.{None}

pub returns-then-eq : goal.returns-then-eq
returns-then-eq c =
    let vs = c.args.variables.now in
    let i = c.loop-i.i - 1 in
    let next : c.loop-i.i ≡ suc i = omega arith in
    let within : i < length vs = omega arith in
    let later : latest_of (drop (suc i) vs) c.args.name.now ≡ None = ap (λ k. latest_of (drop k vs) c.args.name.now) (sym next) ∙ c.loop-i.invariant.later in
    sym (latest_of-at vs c.args.name.now i c.index-variables-i.result within c.index-variables-i.is (sym c.eq.ensures ∙ c.if-eq.true) later)
