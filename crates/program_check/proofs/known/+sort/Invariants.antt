use Rattle.std.proofs.Common.{◌+◌, ◌*◌}
use Rattle.program_check.specs.Depth.{depth_of, parts_depth}
use Rattle.program_check.proofs.known.+sort.Given as goal

abbrev pub decreases-sort_in : goal.decreases-sort_in
decreases-sort_in l = 3 * depth_of l.template.now

abbrev pub decreases-sort_of_kind : goal.decreases-sort_of_kind
decreases-sort_of_kind l = 3 * parts_depth l.members.now + 2

abbrev pub decreases-sort_at : goal.decreases-sort_at
decreases-sort_at l = 3 * parts_depth l.members.now + 1
