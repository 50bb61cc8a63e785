use Rattle.std.proofs.Common.{◌≡◌, rules}
use Rattle.fx_geom.specs.Bounds.{enforce}
use Rattle.fx_geom.proofs.Within.{enforce-LiesIn, enforce_kept}
use Rattle.fx_geom.proofs.boxes.Bounds.enforce.Goals as goal

pub returns-clause-within : goal.returns-clause-within
returns-clause-within c =
    let value : c.normalized.result ≡ enforce c.args.self c.args.outer = search rules in
    rw value (enforce-LiesIn c.args.self c.args.outer)

pub returns-clause-max_w : goal.returns-clause-max_w
returns-clause-max_w c =
    let value : c.normalized.result ≡ enforce c.args.self c.args.outer = search rules in
    let inner = c.args.self in
    let outer = c.args.outer in
    rw value (enforce_kept outer.min_w inner.min_w outer.max_w inner.max_w
    outer.width_in_order outer.width_in_range inner.width_in_order)

pub returns-clause-max_h : goal.returns-clause-max_h
returns-clause-max_h c =
    let value : c.normalized.result ≡ enforce c.args.self c.args.outer = search rules in
    let inner = c.args.self in
    let outer = c.args.outer in
    rw value (enforce_kept outer.min_h inner.min_h outer.max_h inner.max_h
    outer.height_in_order outer.height_in_range inner.height_in_order)
