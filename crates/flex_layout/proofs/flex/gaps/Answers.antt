use Rattle.std.proofs.Common.{◌<◌, arith}
use Rattle.flex_layout.proofs.Within.{gaps-within}
use Rattle.flex_layout.proofs.flex.gaps.Goals as goal

pub returns-clause-within : goal.returns-clause-within
returns-clause-within c =
    let some : 0 < c.args.count = omega arith in
    rw (c.lead.ensures, c.between.ensures) (gaps-within c.args.align c.args.rest c.args.count some)

pub returns-clause-fits : goal.returns-clause-fits
returns-clause-fits c main children below left = omega (arith, returns-clause-within c)
