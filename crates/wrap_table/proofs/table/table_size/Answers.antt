use Rattle.std.proofs.Common.{ap, ap₂, sym, ◌∙◌}
use Rattle.std.proofs.lemmas.List.{at_drop_all}
use Rattle.wrap_table.specs.Places.{size_with}
use Rattle.wrap_table.specs.Pass.{table_height_at, table_end}
use Rattle.wrap_table.proofs.TableLemmas.{table_height-all}
use Rattle.wrap_table.proofs.table.table_size.Goals as goal

pub returns : goal.returns
returns c =
    let l = c.loop-height in
    let widths = c.args.widths.now in
    ap₂ size_with c.extent_of.ensures
    (c.height.ensures
    ∙ ap table_height_at (sym (at_drop_all (λ left. table_end widths l.pass left) c.args.heights.now l.height-index c.loop-height-test.false) ∙ l.invariant.0)
    ∙ table_height-all widths c.args.heights.now c.requires)
