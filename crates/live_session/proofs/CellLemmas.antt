-- What the line `cells` comes to.
use Rattle.std.proofs.Common.{◌≡◌, ℕ, ◌*◌, ◌<◌, ◌≤◌, inl, inr, true, false, nat_le, List, ◌++◌, append_assoc, Some, option_map, Result, Ok, Err, is_ok, OnOk, subst, ap, ◌∙◌, arith, if◌then◌else◌}
use Rattle.std.proofs.lemmas.Bool.{cases_lt}
use Rattle.std.proofs.lemmas.Bool.Decides.{nat_tests}
use Rattle.fx_geom.specs.declared.shapes.Size.{Size}
use Rattle.layer_tree.specs.declared.layers.Layer.{Layer}
use Rattle.cell_raster.specs.CellGrid.{CellGrid, columns_of, rows_of, grid_of}
use Rattle.cell_raster.specs.declared.damage.Damage.{Damage}
use Rattle.cell_raster.specs.declared.raster.RasterFault.{RasterFault}
use Rattle.cell_raster.specs.declared.raster.RasterFault.TheVariants as raster_fault
use Rattle.session_form.specs.FrameText.{layers_of}
use Rattle.session_form.specs.Seeing.{view_in}
use Rattle.live_session.specs.Cells.{drawn, drawn_in, cells_by, cell_of, cells_entry}
use Rattle.frame_session.specs.Holds.{HoldsState}
use Rattle.live_session.specs.LiveStands.{LiveStands}
use Rattle.live_session.specs.RunState.{RunState, Came, refused, state_after}
use Rattle.live_session.specs.declared.live.Live.{Live}
use Rattle.live_session.specs.declared.refusal.LineRefusal.{LineRefusal}
use Rattle.live_session.specs.declared.refusal.LineRefusal.TheVariants as refusal
use Rattle.delegates.specs.Table.{Means}

pub frame_drawn : (r : RunState) (root : Layer) (view cell : Size) → Some root ≡ option_map (layers_of (cell_of r.session)) r.session.shown
    → Some view ≡ view_in r.session.shown → cell ≡ cell_of r.session → drawn_in root view cell r ≡ cells_entry r
frame_drawn r root view cell layers size one =
    ap (λ c. drawn_in root view c r) one
    ∙ ap (λ v. cells_by (Some root) v (cell_of r.session) r) size
    ∙ ap (λ l. cells_by l (view_in r.session.shown) (cell_of r.session) r) layers

pub drawn_few : (r : RunState) (root : Layer) (view cell : Size) → columns_of view cell * rows_of view cell ≤ 65536
    → drawn (grid_of root view cell) r ≡ drawn_in root view cell r
drawn_few r root view cell few =
    let within : true ≡ nat_le (columns_of view cell * rows_of view cell) 65536 = grind (arith, nat_tests) in
    ap (λ b. if b then drawn (grid_of root view cell) r else refused refusal.TooManyCells) within

pub drawn_many : (r : RunState) (root : Layer) (view cell : Size) → 65536 < columns_of view cell * rows_of view cell
    → refused refusal.TooManyCells ≡ drawn_in root view cell r
drawn_many r root view cell many =
    let beyond : false ≡ nat_le (columns_of view cell * rows_of view cell) 65536 = grind (arith, nat_tests) in
    ap (λ b. if b then drawn (grid_of root view cell) r else refused refusal.TooManyCells) beyond

-- a raster that is updated has few cells
pub few_cells : (result : Result Damage RasterFault) (damage : Damage) (count : ℕ) → (65536 < count → result ≡ Err raster_fault.TooManyCells) → result ≡ Ok damage
    → count ≤ 65536
few_cells result damage count full is = elim (cases_lt 65536 count) [ inl many ↦ let err : result ≡ Err raster_fault.TooManyCells = full many in cc | inr few ↦ few ]

-- one for which there is no memory, too
pub few_cells_tried : (result : Result Damage RasterFault) (count : ℕ) → (65536 < count → result ≡ Err raster_fault.TooManyCells)
    → result ≡ Err raster_fault.OutOfMemory → count ≤ 65536
few_cells_tried result count full is = elim (cases_lt 65536 count) [ inl many ↦ let err : result ≡ Err raster_fault.TooManyCells = full many in cc | inr few ↦ few ]

-- where there are few, the grid is drawn
pub cells_stand : {V : Type 0} {D : V → Type 0} (live : Live V D) (meaning : Means D) (g : CellGrid) (r : RunState) (came : Came)
    → drawn g r ≡ came → HoldsState live.session meaning r.session → live.tickers ≡ r.tweens → live.focus ≡ r.focus → live.raster ≡ g
    → LiveStands live meaning (state_after r came)
cells_stand live meaning g r came is held tweens focus grid =
    let P : Came → Type 0 = λ x. LiveStands live meaning (state_after r x) in
    subst P is (record { session = held; tweens = tweens; focus = focus; grid = grid })

pub refused_stands : {V : Type 0} {D : V → Type 0} (live : Live V D) (meaning : Means D) (why : LineRefusal) (r : RunState) (came : Came)
    → refused why ≡ came → HoldsState live.session meaning r.session → live.tickers ≡ r.tweens → live.focus ≡ r.focus → live.raster ≡ r.grid
    → LiveStands live meaning (state_after r came)
refused_stands live meaning why r came is held tweens focus grid =
    let P : Came → Type 0 = λ x. LiveStands live meaning (state_after r x) in
    subst P is (record { session = held; tweens = tweens; focus = focus; grid = grid })

-- the text by its parts
pub three_parts : (old head rows last a b c : List ℕ) → a ≡ old ++ head → b ≡ a ++ rows → c ≡ b ++ last → c ≡ old ++ (head ++ (rows ++ last))
three_parts old head rows last a b c first second third =
    third ∙ ap (λ x. x ++ last) (second ∙ ap (λ x. x ++ rows) first)
    ∙ append_assoc (old ++ head) rows last ∙ append_assoc old head (rows ++ last)

-- what is appended where there is memory
pub ok_items : {T E : Type 0} (result : Result T E) (new a b : List ℕ) → new ≡ (if is_ok result then a else b) → OnOk result (new ≡ a)
ok_items (Ok x) new a b e = e
ok_items (Err x) new a b e = tt
