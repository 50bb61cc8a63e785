use Rattle.std.proofs.Common.{◌≡◌, ◌≤◌, ◌-◌, ℕ, length, arith, map}
use Rattle.std.proofs.lemmas.List.{length-map}
use Rattle.reconcile.specs.Matching.{prefix_len, suffix_len}
use Rattle.widget_model.specs.View.{shared}
use Rattle.reconcile.proofs.Sizes.{prefix_within, prefix_is, suffix_is}
use Rattle.reconcile.proofs.middle.middle_of.Goals as goal
use Rattle.reconcile.proofs.middle.middle_of.Goals.{After-min, After-common_end-shared}

abbrev RoomLeft : ℕ → ℕ → ℕ → ℕ → Type 0
RoomLeft p s m n = (p ≤ m - s) × (p ≤ n - s) × (s ≤ m) × (s ≤ n)

start_is : (c : After-min) → c.common_front-start.result ≡ prefix_len (map shared c.args.old.now) (map shared c.args.new.now)
start_is c = prefix_is (map shared c.args.old.now) (map shared c.args.new.now) _ c.common_front-start.ensures

pub overflow_sub-min : goal.overflow_sub-min
overflow_sub-min c =
    let olds = map shared c.args.old.now in
    let news = map shared c.args.new.now in
    let within = prefix_within olds news in
    let e = start_is c in
    let m : length olds ≡ length c.args.old.now = length-map c.args.old.now shared in
    let n : length news ≡ length c.args.new.now = length-map c.args.new.now shared in
    omega (arith, c.min.ensures)

shared_is : (c : After-common_end-shared) → c.common_end-shared.result ≡ suffix_len (map shared c.args.old.now) (map shared c.args.new.now)
shared_is c =
    let olds = map shared c.args.old.now in
    let news = map shared c.args.new.now in
    let m : length olds ≡ length c.args.old.now = length-map c.args.old.now shared in
    let n : length news ≡ length c.args.new.now = length-map c.args.new.now shared in
    suffix_is olds news c.common_front-start.result _ _ _ (prefix_is olds news _ c.common_front-start.ensures) m n (rw c.min.ensures at c.common_end-shared.ensures)

apart : (m n s t : ℕ) → m ≡ n → s ≡ t → n - s ≡ m - t
apart m n s t e f = omega arith

pub returns : goal.returns
returns c = record {
  start = prefix_is (map shared c.args.old.now) (map shared c.args.new.now) _ c.common_front-start.ensures;
  old_end = apart _ _ _ _ (length-map c.args.old.now shared) (shared_is c);
  new_end = apart _ _ _ _ (length-map c.args.new.now shared) (shared_is c);
}
