use Rattle.std.proofs.Common.{◌+◌, ◌*◌}
use Rattle.program_check.specs.Depth.{depth_of, parts_depth}
use Rattle.program_check.proofs.known.+certain.Given as goal

abbrev pub decreases-is_certain : goal.decreases-is_certain
decreases-is_certain l = 4 * depth_of l.template.now

abbrev pub decreases-is_certain_kind : goal.decreases-is_certain_kind
decreases-is_certain_kind l = 4 * parts_depth l.members.now + 3

abbrev pub decreases-has_certain_branches : goal.decreases-has_certain_branches
decreases-has_certain_branches l = 4 * parts_depth l.members.now + 2

abbrev pub decreases-has_certain : goal.decreases-has_certain
decreases-has_certain l = 4 * parts_depth l.members.now + 1
