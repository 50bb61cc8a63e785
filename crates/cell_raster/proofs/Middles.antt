-- The middles that lie before an edge, and the block of an area.
use Rattle.std.proofs.Common.{◌≡◌, ℕ, ◌+◌, ◌*◌, ◌/◌, ◌<◌, ◌≤◌, ◌&&◌, arith, Bool, true, false, not, refl, sym, ap, ◌∙◌, pos, ℤ}
use Rattle.std.proofs.lemmas.Bool.Decides.{nat_tests}
use Rattle.std.proofs.lemmas.Int.{ints}
use Rattle.std.proofs.lemmas.Nat.{mul-le}
use Rattle.std.proofs.Math.Nat.{add-mul, lt-div-mul-add, div-mul-le_self}
use Rattle.std.specs.Prelude.{nat_le, nat_lt, int_le, int_lt}
use Rattle.fx_geom.specs.declared.shapes.Size.{Size}
use Rattle.cell_raster.specs.declared.area.Area.{Area}
use Rattle.cell_raster.specs.declared.block.Block.{Block}
use Rattle.cell_raster.specs.Area.{middle_of, holds}
use Rattle.cell_raster.specs.Painted.{is_in_block}

-- multiples of an extent that are at most p
low_enough : (e p k : ℕ) → 1 ≤ e → k ≤ p / e → k * e ≤ p
low_enough e p k some low = let product = mul-le k e (p / e) e low (omega arith) in let most = div-mul-le_self p e in omega arith

too_high : (e p k : ℕ) → 1 ≤ e → p / e < k → p < k * e
too_high e p k some high =
    let product = mul-le (p / e + 1) e k e (omega arith) (omega arith) in
    let over = lt-div-mul-add {a = p} {b = e} (omega arith) in
    let spread = add-mul (p / e) 1 e in
    omega arith

pub before_more : (e h p k : ℕ) → 1 ≤ e → nat_lt k (p / e + 1) ≡ nat_lt (k * e + h) ((p + h) + 1)
before_more e h p k some =
    let yes : k ≤ p / e → k * e ≤ p = λ (low : k ≤ p / e). low_enough e p k some low in
    let no : p / e < k → p < k * e = λ (high : p / e < k). too_high e p k some high in
    grind (arith, nat_tests)

pub before_all : (e h p k n : ℕ) → 1 ≤ e → k < n → n ≤ p / e → nat_lt k n ≡ nat_lt (k * e + h) ((p + h) + 1)
before_all e h p k n some less all =
    let low = low_enough e p k some (omega arith) in grind (arith, nat_tests)

-- the other side of an edge
pub from_edge : (k n : ℕ) (x edge : ℤ) → nat_lt k n ≡ int_lt x edge → int_le edge x ≡ nat_le n k
from_edge k n x edge e =
    let turned : int_le edge x ≡ not (int_lt x edge) = grind (arith, ints) in
    let other : nat_le n k ≡ not (nat_lt k n) = grind (arith, nat_tests) in
    turned ∙ ap not (sym e) ∙ sym other

regroup : (a b c d : Bool) → ((a && b) && c) && d ≡ (a && b) && (c && d)
regroup true true true d = refl
regroup true true false d = refl
regroup true false c d = refl
regroup false b c d = refl

pub block_holds : (cell : Size) (area : Area) (b : Block) (column row : ℕ)
    → nat_lt column b.left ≡ int_lt (pos (column * cell.w + cell.w / 2)) area.left
    → nat_lt column b.right ≡ int_lt (pos (column * cell.w + cell.w / 2)) area.right
    → nat_lt row b.top ≡ int_lt (pos (row * cell.h + cell.h / 2)) area.top
    → nat_lt row b.bottom ≡ int_lt (pos (row * cell.h + cell.h / 2)) area.bottom
    → holds area (middle_of cell column row) ≡ is_in_block b column row
block_holds cell area b column row left right top bottom =
    let x = pos (column * cell.w + cell.w / 2) in
    let y = pos (row * cell.h + cell.h / 2) in
    let l = from_edge column b.left x area.left left in
    let t = from_edge row b.top y area.top top in
    (λ i. ((l i && sym right i) && t i) && sym bottom i)
    ∙ regroup (nat_le b.left column) (nat_lt column b.right) (nat_le b.top row) (nat_lt row b.bottom)
