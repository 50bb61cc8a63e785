use Rattle.std.proofs.Common.{◌≡◌, ◌+◌, ◌*◌, map, take, flat_map}
use Rattle.program_check.specs.Body.{body_depth, bodies_depth, bodies_in}
use Rattle.program_check.specs.BodyView.{plain_body}
use Rattle.template_build.specs.Building.{IsAdded, plain_part, items_output, depth_in}
use Rattle.template_build.specs.Output.{output_of, items_in}
use Rattle.template_build.specs.SceneView.{scene_of}
use Rattle.template_build.proofs.build.+build.Given as goal

abbrev pub decreases-add_output : goal.decreases-add_output
decreases-add_output l = 8 * body_depth (plain_body l.body.now) + 3

abbrev pub decreases-add_widget : goal.decreases-add_widget
decreases-add_widget l = 8 * body_depth (plain_body l.body.now) + 2

abbrev pub decreases-add_each : goal.decreases-add_each
decreases-add_each l = 8 * body_depth (plain_body l.body.now) + 2

abbrev pub decreases-add_items : goal.decreases-add_items
decreases-add_items l = 8 * depth_in (plain_part l.part) + 6

abbrev pub decreases-add_part : goal.decreases-add_part
decreases-add_part l = 8 * depth_in (plain_part l.part) + 5

abbrev pub decreases-add_bodies : goal.decreases-add_bodies
decreases-add_bodies l = 8 * bodies_depth (bodies_in (map plain_body l.bodies.now)) + 4

abbrev pub invariant-add_bodies-loop-body : goal.invariant-add_bodies-loop-body
invariant-add_bodies-loop-body l = record {
  added : IsAdded (flat_map (λ b. output_of (plain_body b) (scene_of l.scene l.initial.vars.items)) (take l.body-index l.bodies)) l.room l.initial.into.items l.into.items l.size;
  vars : l.vars.items ≡ l.initial.vars.items;
}

abbrev pub invariant-add_items-loop-i : goal.invariant-add_items-loop-i
invariant-add_items-loop-i l = record {
  added : IsAdded (items_output (plain_part l.part) (scene_of l.scene l.initial.vars.items) (take l.i (items_in l.list))) l.room l.initial.into.items l.into.items l.size;
  vars : l.vars.items ≡ l.initial.vars.items;
}
