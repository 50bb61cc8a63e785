-- Flags between two frames have causes: a component has a build flag only where a line marked it, and a node that the last
-- frame laid out, or painted, has a flag only where a line touched what is in its region, or in its group.
use Rattle.std.specs.Prelude.{◌≡◌, ℕ, Bool, true, Option, IsSome, option_and_then, option_map, Contains}
use Rattle.plain_tree.specs.At.{laid_at}
use Rattle.plain_tree.specs.Laid.{Laid}
use Rattle.session_form.specs.State.{SessionState, Shown}
use Rattle.work_sets.specs.Before.{Frames}
use Rattle.work_sets.specs.Layout.{idle_region}
use Rattle.work_sets.specs.Paint.{idle_groups, was_painted}
use Rattle.work_sets.specs.Work.{before}

-- the laid tree of the last frame
abbrev pub shown_laid : SessionState → Option Laid
shown_laid s = option_map (λ (x : Shown). x.laid) s.shown

-- which nodes have a build flag, a layout flag and a paint flag, by their numbers
pub record FlagsHaveCauses (frames : Frames) (s : SessionState) (dirty needs_layout needs_paint : ℕ → Bool) : Type 0 where
  pub builds : (number : ℕ) → dirty number ≡ true → Contains s.marks number
  pub layouts : (number : ℕ) → IsSome (option_and_then (laid_at number) (shown_laid s)) → needs_layout number ≡ true → Contains (idle_region (before frames s)) number
  pub paints : (number : ℕ) → was_painted (shown_laid s) number ≡ true → needs_paint number ≡ true → Contains (idle_groups (before frames s)) number
