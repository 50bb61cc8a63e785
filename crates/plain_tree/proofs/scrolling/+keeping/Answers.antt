use Rattle.plain_tree.specs.Offsets.{kept_at}
use Rattle.plain_tree.proofs.Walking.{kept_more, kept_all}
use Rattle.plain_tree.proofs.scrolling.+keeping.Goals as goal

pub keep_all_offsets-loop-child-preserved : goal.keep_all_offsets-loop-child-preserved
keep_all_offsets-loop-child-preserved t c =
    λ wanted.
    kept_more wanted c.args.children.now c.loop-child.child-index (kept_at c.loop-child.offsets wanted) (kept_at c.keep_offsets.new.offsets wanted) _
    (c.loop-child.invariant wanted) c.child-item.result c.loop-child-test.true c.child-item.is (c.in_ok-keep_offsets.ensures wanted)

pub keep_all_offsets-returns : goal.keep_all_offsets-returns
keep_all_offsets-returns t c =
    λ wanted.
    kept_all wanted c.args.children.now c.loop-child.child-index (kept_at c.loop-child.offsets wanted) (kept_at c.loop-child.offsets wanted) _
    (c.loop-child.invariant wanted) c.loop-child-test.false
