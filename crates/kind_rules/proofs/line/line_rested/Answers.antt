use Rattle.std.proofs.Common.{◌∙◌, ap, sym, ℕ, None}
use Rattle.fx_geom.specs.Along.{most_along}
use Rattle.fx_geom.specs.Len.{total_of}
use Rattle.layout_form.specs.Object.{extents_of}
use Rattle.layout_form.specs.FlexRule.{flex_bounds}
use Rattle.layout_form.specs.Frames.{frames_given, sizes_by}
use Rattle.kind_rules.specs.Asks.{alike}
use Rattle.kind_rules.proofs.Alike.{bounds_length, rest_alike}
use Rattle.kind_rules.proofs.line.line_rested.Goals as goal

pub returns-then-are_there : goal.returns-then-are_there
returns-then-are_there g c =
    let axis = c.args.axis in
    let ds = g.F.Family.told c.args.family in
    let fs = g.F.Family.frames c.args.family in
    let most = most_along c.args.b axis in
    let fixed = total_of (extents_of axis (sizes_by (frames_given fs))) in
    ap (λ (n : ℕ). alike n None) c.answers-then-are_there.ensures
    ∙ rest_alike (flex_bounds axis c.args.cross c.args.b most fixed ds) fs
    (bounds_length axis c.args.cross c.args.b most fixed ds ∙ sym c.len.ensures ∙ c.if-len-answers.true ∙ c.answers.ensures)
    (sym c.are_there.ensures ∙ c.if-are_there.true)
