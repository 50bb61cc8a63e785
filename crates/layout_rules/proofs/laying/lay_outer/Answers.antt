use Rattle.std.proofs.Common.{true}
use Rattle.delegates.specs.Table.{meant_in}
use Rattle.layout_form.specs.Object.{setting_of}
use Rattle.layout_walk.specs.Rules.{parts_of}
use Rattle.layout_rules.proofs.Sizing.{size_laid}
use Rattle.layout_rules.proofs.laying.lay_outer.Goals as goal

pub returns-in-Ok-clause-served : goal.returns-in-Ok-clause-served
returns-in-Ok-clause-served g c = c.in-Ok.ensures.served

pub returns-in-Ok-clause-size : goal.returns-in-Ok-clause-size
returns-in-Ok-clause-size g c =
    let s = setting_of c.args.r.now.scale (meant_in c.args.table.now (λ v. (g.dyn-1.0.entry v).1)) in
    size_laid (parts_of s) true c.args.bounds c.args.r.now.tree c.lay.new.r.tree c.args.h _ _ c.size_of.result c.in-Ok.ensures.served c.size_of.ensures

pub returns-in-Ok-clause-paints : goal.returns-in-Ok-clause-paints
returns-in-Ok-clause-paints g c = c.in-Ok.ensures.paints

pub returns-in-Ok-clause-apart : goal.returns-in-Ok-clause-apart
returns-in-Ok-clause-apart g c = c.in-Ok.ensures.apart

pub returns-in-Ok-clause-few : goal.returns-in-Ok-clause-few
returns-in-Ok-clause-few g c = c.in-Ok.ensures.few

pub returns-in-Ok-clause-flags : goal.returns-in-Ok-clause-flags
returns-in-Ok-clause-flags g c = c.in-Ok.ensures.flags

pub returns-in-Ok-clause-plugs : goal.returns-in-Ok-clause-plugs
returns-in-Ok-clause-plugs g c = c.in-Ok.ensures.plugs
