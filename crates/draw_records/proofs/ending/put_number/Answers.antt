use Rattle.std.proofs.Common.{arith, rules}
use Rattle.draw_records.proofs.DigitLemmas.{digits_few}
use Rattle.draw_records.proofs.ending.put_number.Goals as goal

pub write_digits-requires : goal.write_digits-requires
write_digits-requires c = (omega (arith, c.requires.0, digits_few c.args.n c.ranges.n.fits), search rules)

pub returns-clause-within : goal.returns-clause-within
returns-clause-within c =
    let few = digits_few c.args.n c.ranges.n.fits in
    let start = c.write_digits.ensures.start in
    (omega arith, omega arith)
