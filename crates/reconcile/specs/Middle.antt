-- What stands between the front and the end that two lists share.
use Rattle.std.specs.Prelude.{◌≡◌, ℕ, ◌+◌, ◌-◌, nat_lt, nat_le, if◌then◌else◌, Option, Some, None, List, length}
use Rattle.widget_model.specs.Plain.{PlainWidget}
use Rattle.reconcile.specs.declared.middle.Middle.{Middle}
use Rattle.reconcile.specs.Matching.{prefix_len, suffix_len}

-- the front stops at `start`, and the end begins at `old_end` and at `new_end`
pub record IsMiddleOf (old new : List PlainWidget) (m : Middle) : Type 0 where
  pub start : m.start ≡ prefix_len old new
  pub old_end : m.old_end ≡ length old - suffix_len old new
  pub new_end : m.new_end ≡ length new - suffix_len old new

-- the old place of a new widget that stands in the front or at the end
abbrev pub shared_place : Middle → ℕ → Option ℕ
shared_place m i =
    if nat_lt i m.start then Some i
    else (if nat_le m.new_end i then Some (m.old_end + (i - m.new_end)) else None)
