-- What is kept so far, with what is left to keep, is all.
use Rattle.std.proofs.Common.{◌≡◌, ℕ, drop}
use Rattle.std.specs.Option.{option_or}
use Rattle.plain_tree.specs.LaidView.{laids_in}
use Rattle.plain_tree.specs.Offsets.{offset_in, kept_at}
use Rattle.plain_tree.proofs.scrolling.+keeping.Given as goal

abbrev pub invariant-keep_all_offsets-loop-child : goal.invariant-keep_all_offsets-loop-child
invariant-keep_all_offsets-loop-child l =
    (wanted : ℕ) → option_or (offset_in wanted (laids_in (drop l.child-index l.children))) (kept_at l.offsets wanted)
    ≡ option_or (offset_in wanted (laids_in l.children)) (kept_at l.fn.offsets wanted)
