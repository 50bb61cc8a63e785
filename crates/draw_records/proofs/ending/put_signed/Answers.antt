use Rattle.std.proofs.Common.{◌≡◌, ◌+◌, ◌-◌, ◌++◌, drop, ap, arith, rules, to_z-of_z}
use Rattle.std.proofs.lemmas.List.{drop-set}
use Rattle.itoa.proofs.Decimal.{minus_first}
use Rattle.draw_records.proofs.DigitLemmas.{digits_fewer}
use Rattle.draw_records.proofs.ending.put_signed.Goals as goal

pub write_digits-start-requires : goal.write_digits-start-requires
write_digits-start-requires c = (omega (arith, c.requires.0, digits_fewer c.unsigned_abs.result (omega arith)), search rules)

pub returns-then-n-ge0-clause-within : goal.returns-then-n-ge0-clause-within
returns-then-n-ge0-clause-within c =
    let few = digits_fewer c.unsigned_abs.result (omega arith) in
    let start = c.write_digits-start.ensures.start in
    (omega arith, omega arith)

pub overflow_sub-buf : goal.overflow_sub-buf
overflow_sub-buf c =
    let few = digits_fewer c.unsigned_abs.result (omega arith) in
    let start = c.write_digits-start.ensures.start in
    omega (arith, c.requires.0)

pub overflow_sub-result : goal.overflow_sub-result
overflow_sub-result c =
    let few = digits_fewer c.unsigned_abs.result (omega arith) in
    let start = c.write_digits-start.ensures.start in
    omega (arith, c.requires.0)

pub returns-clause-within : goal.returns-clause-within
returns-clause-within c =
    let few = digits_fewer c.unsigned_abs.result (omega arith) in
    let start = c.write_digits-start.ensures.start in
    let room = c.requires.0 in
    (omega arith, omega arith)

pub returns-clause-written : goal.returns-clause-written
returns-clause-written c =
    let w = c.write_digits-start in
    let few = digits_fewer c.unsigned_abs.result (omega arith) in
    let start = w.ensures.start in
    let room = c.requires in
    let e : w.result - 1 + 1 ≡ w.result = omega arith in
    let back = to_z-of_z c.ranges.n in
    rw (drop-set w.new.buf (w.result - 1) 45 (omega arith), e, w.ensures.written, c.unsigned_abs.ensures.value, back)
    (ap (λ t. t ++ drop c.args.end c.args.buf.now) (minus_first c.args.n (rw back at c.if-n-ge0.false)))
