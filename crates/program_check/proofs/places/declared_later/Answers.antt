use Rattle.std.proofs.Common.{arith, is_some, ap, sym, ◌∙◌}
use Rattle.program_check.proofs.PlaceLemmas.{find-start, find-here, find-later, find-none}
use Rattle.program_check.proofs.places.declared_later.Goals as goal

pub loop-i-init : goal.loop-i-init
loop-i-init c = find-start (λ n. n) c.args.names.now c.args.name.now

pub loop-i-preserved : goal.loop-i-preserved
loop-i-preserved c =
    find-later (λ n. n) c.args.names.now c.args.name.now c.loop-i.i c.index-names-i.result c.loop-i.invariant c.loop-i-test.true
    c.index-names-i.is (sym c.eq.ensures ∙ c.if-eq.false)

pub returns-then-eq : goal.returns-then-eq
returns-then-eq c =
    sym (ap is_some (find-here (λ n. n) c.args.names.now c.args.name.now c.loop-i.i c.index-names-i.result c.loop-i.invariant c.loop-i-test.true
    c.index-names-i.is (sym c.eq.ensures ∙ c.if-eq.true)))

pub returns : goal.returns
returns c = sym (ap is_some (find-none (λ n. n) c.args.names.now c.args.name.now c.loop-i.i c.loop-i.invariant (omega arith)))
