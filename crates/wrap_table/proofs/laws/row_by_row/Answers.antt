use Rattle.std.proofs.Common.{◌≡◌, ◌+◌, ◌*◌, ◌/◌, ◌%◌, arith, get_or, ap, ◌∙◌}
use Rattle.std.proofs.Math.Nat.{div-add-mod, mod-lt}
use Rattle.wrap_table.proofs.RowLemmas.{row_of}
use Rattle.wrap_table.proofs.laws.row_by_row.Goals as goal

pub returns : goal.returns
returns c columns heights i some there other =
    let whole : columns * (i / columns) + i % columns ≡ i = div-add-mod i columns in
    row_of columns heights (i / columns) (i % columns) other (mod-lt i some) (omega arith) ∙ ap (λ k. get_or heights k other) whole
