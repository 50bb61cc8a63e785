use Rattle.std.proofs.Common.{◌≡◌, map, ◌++◌, reverse, vec_len}
use Rattle.build_walk.specs.Merging.{merge}
use Rattle.build_owner.specs.MergingView.{serving_of}
use Rattle.build_owner.proofs.merging.merge.Given as goal

abbrev pub invariant-loop-entry : goal.invariant-loop-entry
invariant-loop-entry g l =
    (l.merged.items ++ (merge g.U.Listing.lists (reverse l.plan.items) (map serving_of l.served.items)).plan) ≡ (merge g.U.Listing.lists l.fn.plan.items (map serving_of l.fn.served.items)).plan

abbrev pub decreases-loop-entry : goal.decreases-loop-entry
decreases-loop-entry g l = vec_len l.plan
