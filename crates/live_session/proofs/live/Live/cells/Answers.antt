use Rattle.std.proofs.Common.{◌≡◌, ◌∙◌, ◌*◌, ◌≤◌, ◌++◌, append-nil, Err, sym, ap, ap₂}
use Rattle.cell_raster.specs.Damage.{damage_of}
use Rattle.cell_raster.specs.CellGrid.{columns_of, rows_of, grid_of}
use Rattle.live_session.specs.Cells.{cells_text, cells_entry, drawn}
use Rattle.live_session.specs.LiveStands.{text_of, end_of}
use Rattle.live_session.specs.RunState.{refused}
use Rattle.live_session.specs.declared.refusal.LineRefusal.TheVariants as refusal
use Rattle.live_session.proofs.CellLemmas.{frame_drawn, drawn_few, drawn_many, few_cells, few_cells_tried, cells_stand, refused_stands}
use Rattle.live_session.proofs.MemoryLemmas.{on_err_any, drawn_may}
use Rattle.live_session.proofs.live.Live.cells.Goals as goal

pub returns-in_ok-print_cells-in-Ok-clause-state : goal.returns-in_ok-print_cells-in-Ok-clause-state
returns-in_ok-print_cells-in-Ok-clause-state g c r stands =
    let root = c.in-Some-layers.root.now in
    let view = c.in-Some.view in
    let cell = c.cell-cell.result in
    let whole = frame_drawn r root view cell (c.in-Some-layers.ensures r.session stands.session) (c.in-Some.ensures r.session stands.session) (c.cell-cell.ensures.cell r.session stands.session) in
    let few : columns_of view cell * rows_of view cell ≤ 65536 =
    few_cells c.update.result c.in-Ok.damage (columns_of view cell * rows_of view cell) c.update.ensures.full.1 c.in-Ok.is in
    let line : drawn (grid_of root view cell) r ≡ cells_entry r = drawn_few r root view cell few ∙ whole in
    cells_stand _ _ (grid_of root view cell) r (cells_entry r) line stands.session stands.tweens stands.focus c.in-Ok.ensures.grid

pub returns-in_ok-print_cells-in-Ok-clause-text : goal.returns-in_ok-print_cells-in-Ok-clause-text
returns-in_ok-print_cells-in-Ok-clause-text g c r stands =
    let root = c.in-Some-layers.root.now in
    let view = c.in-Some.view in
    let cell = c.cell-cell.result in
    let whole = frame_drawn r root view cell (c.in-Some-layers.ensures r.session stands.session) (c.in-Some.ensures r.session stands.session) (c.cell-cell.ensures.cell r.session stands.session) in
    let few : columns_of view cell * rows_of view cell ≤ 65536 =
    few_cells c.update.result c.in-Ok.damage (columns_of view cell * rows_of view cell) c.update.ensures.full.1 c.in-Ok.is in
    let line : drawn (grid_of root view cell) r ≡ cells_entry r = drawn_few r root view cell few ∙ whole in
    c.in_ok-print_cells-in-Ok.ensures
    ∙ ap₂ (λ x y. c.args.out.now.items ++ cells_text x y) c.in-Ok.ensures.grid (c.in-Ok.ensures.damage ∙ ap (λ x. damage_of x (grid_of root view cell)) stands.grid)
    ∙ ap (λ o. c.args.out.now.items ++ text_of o) line

pub returns-in_ok-print_cells-in-Ok-clause-end : goal.returns-in_ok-print_cells-in-Ok-clause-end
returns-in_ok-print_cells-in-Ok-clause-end g c r stands =
    let root = c.in-Some-layers.root.now in
    let view = c.in-Some.view in
    let cell = c.cell-cell.result in
    let whole = frame_drawn r root view cell (c.in-Some-layers.ensures r.session stands.session) (c.in-Some.ensures r.session stands.session) (c.cell-cell.ensures.cell r.session stands.session) in
    let few : columns_of view cell * rows_of view cell ≤ 65536 =
    few_cells c.update.result c.in-Ok.damage (columns_of view cell * rows_of view cell) c.update.ensures.full.1 c.in-Ok.is in
    let line : drawn (grid_of root view cell) r ≡ cells_entry r = drawn_few r root view cell few ∙ whole in
    ap end_of line

pub returns-in-Err-TooManyCells-clause-state : goal.returns-in-Err-TooManyCells-clause-state
returns-in-Err-TooManyCells-clause-state g c r stands =
    let root = c.in-Some-layers.root.now in
    let view = c.in-Some.view in
    let cell = c.cell-cell.result in
    let whole = frame_drawn r root view cell (c.in-Some-layers.ensures r.session stands.session) (c.in-Some.ensures r.session stands.session) (c.cell-cell.ensures.cell r.session stands.session) in
    let line : refused refusal.TooManyCells ≡ cells_entry r = drawn_many r root view cell (c.update.ensures.full.0 (c.in-Err-TooManyCells.is ∙ ap Err c.in-Err-TooManyCells.field-0-is)) ∙ whole in
    refused_stands _ _ refusal.TooManyCells r (cells_entry r) line stands.session stands.tweens stands.focus (c.in-Err-TooManyCells.ensures.err ∙ stands.grid)

pub returns-in-Err-TooManyCells-clause-text : goal.returns-in-Err-TooManyCells-clause-text
returns-in-Err-TooManyCells-clause-text g c r stands =
    let root = c.in-Some-layers.root.now in
    let view = c.in-Some.view in
    let cell = c.cell-cell.result in
    let whole = frame_drawn r root view cell (c.in-Some-layers.ensures r.session stands.session) (c.in-Some.ensures r.session stands.session) (c.cell-cell.ensures.cell r.session stands.session) in
    let line : refused refusal.TooManyCells ≡ cells_entry r = drawn_many r root view cell (c.update.ensures.full.0 (c.in-Err-TooManyCells.is ∙ ap Err c.in-Err-TooManyCells.field-0-is)) ∙ whole in
    sym (append-nil c.args.out.now.items) ∙ ap (λ o. c.args.out.now.items ++ text_of o) line

pub returns-in-Err-TooManyCells-clause-end : goal.returns-in-Err-TooManyCells-clause-end
returns-in-Err-TooManyCells-clause-end g c r stands =
    let root = c.in-Some-layers.root.now in
    let view = c.in-Some.view in
    let cell = c.cell-cell.result in
    let whole = frame_drawn r root view cell (c.in-Some-layers.ensures r.session stands.session) (c.in-Some.ensures r.session stands.session) (c.cell-cell.ensures.cell r.session stands.session) in
    let line : refused refusal.TooManyCells ≡ cells_entry r = drawn_many r root view cell (c.update.ensures.full.0 (c.in-Err-TooManyCells.is ∙ ap Err c.in-Err-TooManyCells.field-0-is)) ∙ whole in
    ap end_of line

pub returns-in_err-print_cells-in-Ok-clause-memory : goal.returns-in_err-print_cells-in-Ok-clause-memory
returns-in_err-print_cells-in-Ok-clause-memory g c r stands =
    let root = c.in-Some-layers.root.now in
    let view = c.in-Some.view in
    let cell = c.cell-cell.result in
    let whole = frame_drawn r root view cell (c.in-Some-layers.ensures r.session stands.session) (c.in-Some.ensures r.session stands.session) (c.cell-cell.ensures.cell r.session stands.session) in
    let few : columns_of view cell * rows_of view cell ≤ 65536 =
    few_cells c.update.result c.in-Ok.damage (columns_of view cell * rows_of view cell) c.update.ensures.full.1 c.in-Ok.is in
    on_err_any _ (drawn_may (grid_of root view cell) r (cells_entry r) (drawn_few r root view cell few ∙ whole))

pub returns-in-Err-OutOfMemory-clause-memory : goal.returns-in-Err-OutOfMemory-clause-memory
returns-in-Err-OutOfMemory-clause-memory g c r stands =
    let root = c.in-Some-layers.root.now in
    let view = c.in-Some.view in
    let cell = c.cell-cell.result in
    let whole = frame_drawn r root view cell (c.in-Some-layers.ensures r.session stands.session) (c.in-Some.ensures r.session stands.session) (c.cell-cell.ensures.cell r.session stands.session) in
    let few : columns_of view cell * rows_of view cell ≤ 65536 =
    few_cells_tried c.update.result (columns_of view cell * rows_of view cell) c.update.ensures.full.1 (c.in-Err-OutOfMemory.is ∙ ap Err c.in-Err-OutOfMemory.field-0-is) in
    drawn_may (grid_of root view cell) r (cells_entry r) (drawn_few r root view cell few ∙ whole)
