-- Lists of JSON that aren't too long.
use Rattle.std.proofs.lemmas.Bool.Decides.{nat_tests}
use Rattle.std.proofs.Common.{◌≡◌, ◌<◌, ◌≤◌, arith, List, length, nat_le, true, false, Some, None, Ok, if◌then◌else◌, ap}
use Rattle.std.specs.Result.{result_ok}
use Rattle.json_tree.specs.View.{items_view}
use Rattle.json_tree.specs.declared.tree.Json.{Json}
use Rattle.program_read.specs.declared.fault.ShapeCode.TheVariants.{OverLimit}
use Rattle.program_read.specs.ShapeFault.{stops}
use Rattle.program_read.specs.Leaves.{count_of, within_limit}
use Rattle.program_read.proofs.ItemsLemmas.{count_of-items_view}

pub too_long : (vs : List Json) → 4096 < length vs → result_ok (within_limit (items_view vs)) ≡ None
too_long vs h =
    let count : count_of (items_view vs) ≡ length vs = count_of-items_view vs in
    let test : nat_le (count_of (items_view vs)) 4096 ≡ false = grind (arith, nat_tests) in
    ap (λ b. result_ok (if b then Ok (items_view vs) else stops OverLimit)) test

pub not_too_long : (vs : List Json) → length vs ≤ 4096 → result_ok (within_limit (items_view vs)) ≡ Some (items_view vs)
not_too_long vs h =
    let count : count_of (items_view vs) ≡ length vs = count_of-items_view vs in
    let test : nat_le (count_of (items_view vs)) 4096 ≡ true = grind (arith, nat_tests) in
    ap (λ b. result_ok (if b then Ok (items_view vs) else stops OverLimit)) test
