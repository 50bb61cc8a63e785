use Rattle.std.proofs.Common.{◌≡◌, ◌∙◌, ◌++◌, ap, codes}
use Rattle.std.proofs.lemmas.Result.{on_ok_weaker}
use Rattle.cell_raster.specs.Printed.{rows_text}
use Rattle.live_session.specs.Cells.{head_text}
use Rattle.live_session.proofs.CellLemmas.{three_parts, ok_items}
use Rattle.live_session.proofs.celling.print_cells.Goals as goal

pub returns : goal.returns
returns c =
    on_ok_weaker c.extend_from_slice-2.result
    (λ (last : c.extend_from_slice-2.new.self.items ≡ c.print.new.out.items ++ codes "end\n").
    three_parts c.args.out.now.items (head_text c.args.raster.now c.args.damage) (rows_text c.args.raster.now.rows) (codes "end\n") c.extend_from_slice.new.self.items c.print.new.out.items
    c.extend_from_slice-2.new.self.items
    (c.in_ok-extend_from_slice.ensures.items ∙ ap (λ x. c.args.out.now.items ++ x) (c.as_bytes.ensures.value ∙ c.in_ok-head.ensures)) c.in_ok-print.ensures.ok last)
    (ok_items c.extend_from_slice-2.result c.extend_from_slice-2.new.self.items (c.print.new.out.items ++ codes "end\n") c.print.new.out.items c.extend_from_slice-2.ensures.items)
