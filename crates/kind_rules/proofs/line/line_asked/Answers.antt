use Rattle.std.proofs.Common.{◌∙◌, ap, ℕ, Some}
use Rattle.fx_geom.specs.declared.boxes.Bounds.{Bounds}
use Rattle.fx_geom.specs.declared.lengths.Len.{Len}
use Rattle.fx_geom.specs.Along.{most_along}
use Rattle.layout_form.specs.declared.asks.Ask.TheVariants.{AsBox}
use Rattle.layout_form.specs.Protocol.{asks_where, goes_first}
use Rattle.kind_rules.specs.Asks.{alike}
use Rattle.kind_rules.proofs.Alike.{first_alike}
use Rattle.kind_rules.proofs.line.line_asked.Goals as goal

pub returns-in-Unbounded : goal.returns-in-Unbounded
returns-in-Unbounded g c =
    let ds = g.F.Family.told c.args.family in
    ap (λ (n : ℕ). alike n (Some (AsBox c.unshared.result))) c.len.ensures
    ∙ first_alike (AsBox c.unshared.result) ds
    ∙ ap (λ (m : Len). asks_where (goes_first m) (AsBox c.unshared.result) ds) c.in-Unbounded.ensures.value
    ∙ ap (λ (b : Bounds). asks_where (goes_first (most_along c.args.b c.args.axis)) (AsBox b) ds) c.unshared.ensures
