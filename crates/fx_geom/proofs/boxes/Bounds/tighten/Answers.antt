use Rattle.std.proofs.Common.{◌≡◌, rules}
use Rattle.fx_geom.specs.Bounds.{tighten}
use Rattle.fx_geom.proofs.Within.{tighten-LiesIn}
use Rattle.fx_geom.proofs.boxes.Bounds.tighten.Goals as goal

pub returns-clause-within : goal.returns-clause-within
returns-clause-within c =
    let value : c.normalized.result ≡ tighten c.args.self c.args.w c.args.h = search rules in
    rw value (tighten-LiesIn c.args.self c.args.w c.args.h)
