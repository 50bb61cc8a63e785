-- What is kept so far, with what is left to keep, is all.
use Rattle.std.proofs.Common.{◌≡◌, ℕ, drop}
use Rattle.std.specs.Option.{option_or}
use Rattle.plain_tree.specs.LaidView.{laids_in}
use Rattle.layout_form.specs.Live.{lazy_view_in}
use Rattle.plain_layout.specs.LiveView.{view_kept}
use Rattle.plain_layout.proofs.live.+viewing.Given as goal

abbrev pub invariant-keep_all_views-loop-child : goal.invariant-keep_all_views-loop-child
invariant-keep_all_views-loop-child l =
    (wanted : ℕ) → option_or (lazy_view_in wanted (laids_in (drop l.child-index l.children))) (view_kept l.views wanted)
    ≡ option_or (lazy_view_in wanted (laids_in l.children)) (view_kept l.fn.views wanted)
