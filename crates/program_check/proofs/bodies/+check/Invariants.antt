use Rattle.std.proofs.Common.{◌≡◌, ◌+◌, ◌*◌, ◌≤◌, map, drop}
use Rattle.std.specs.Vec.Iter.{into_iter_items}
use Rattle.program_check.specs.Depth.{depth_of, part_depth_of, member_depth_of, three_depth, parts_depth, children_depth, contents_depth}
use Rattle.program_check.specs.JudgedView.{judged_of, content_of, parts_of}
use Rattle.program_check.specs.BodyView.{plain_body, plain_members, plain_content_given}
use Rattle.program_check.specs.CheckedView.{plain_place}
use Rattle.expr_check.specs.Check.{in_order}
use Rattle.program_check.specs.Judged.{child_at, member_checks, checked_slot_content}
use Rattle.program_check.specs.Steps.{added}
use Rattle.expr_check.proofs.HandlerLemmas.{resumed}
use Rattle.program_check.proofs.bodies.+check.Given as goal

abbrev pub decreases-check_child : goal.decreases-check_child
decreases-check_child l = 9 * depth_of l.child + 1

abbrev pub decreases-check_template : goal.decreases-check_template
decreases-check_template l = 9 * depth_of l.template.now

abbrev pub decreases-fill_body : goal.decreases-fill_body
decreases-fill_body l = 9 * parts_depth l.template.now.members.items + 8

abbrev pub decreases-check_use : goal.decreases-check_use
decreases-check_use l = 9 * three_depth l.written.now + 7

abbrev pub decreases-check_members : goal.decreases-check_members
decreases-check_members l = 9 * parts_depth l.written.now.items + 7

abbrev pub decreases-check_inherit : goal.decreases-check_inherit
decreases-check_inherit l = 9 * three_depth l.written.now + 6

abbrev pub decreases-check_if : goal.decreases-check_if
decreases-check_if l = 9 * three_depth l.written.now + 6

abbrev pub decreases-check_each : goal.decreases-check_each
decreases-check_each l = 9 * three_depth l.written.now + 6

abbrev pub decreases-check_table : goal.decreases-check_table
decreases-check_table l = 9 * parts_depth l.written.now.items + 6

abbrev pub decreases-check_member : goal.decreases-check_member
decreases-check_member l = 9 * member_depth_of l.written + 5

abbrev pub decreases-check_part : goal.decreases-check_part
decreases-check_part l = 9 * part_depth_of l.part + 4

abbrev pub decreases-check_child_part : goal.decreases-check_child_part
decreases-check_child_part l = 9 * part_depth_of l.part + 3

abbrev pub decreases-check_children_part : goal.decreases-check_children_part
decreases-check_children_part l = 9 * part_depth_of l.part + 3

abbrev pub decreases-check_children : goal.decreases-check_children
decreases-check_children l = 9 * children_depth l.children.items + 2

abbrev pub decreases-check_slots : goal.decreases-check_slots
decreases-check_slots l = 9 * member_depth_of l.slots + 6

abbrev pub decreases-check_contents : goal.decreases-check_contents
decreases-check_contents l = 9 * contents_depth l.given.items + 5

abbrev pub decreases-check_content : goal.decreases-check_content
decreases-check_content l = 9 * depth_of l.slot.content + 4

-- what was given so far, and the checks that are left
abbrev pub invariant-check_children-loop-child : goal.invariant-check_children-loop-child
invariant-check_children-loop-child l =
    let check = child_at l.position (plain_place l.place l.vars) in
    let left = into_iter_items l.child-iterator in
    (in_order (map check (map judged_of l.fn.children.items)) ≡ resumed (map plain_body l.bodies.items) (in_order (map check (map judged_of left))))
    × (children_depth left ≤ children_depth l.fn.children.items)

abbrev pub invariant-check_contents-loop-slot : goal.invariant-check_contents-loop-slot
invariant-check_contents-loop-slot l =
    let check = checked_slot_content (plain_place l.place l.vars) l.declared in
    let left = into_iter_items l.slot-iterator in
    (in_order (map check (map content_of l.fn.given.items)) ≡ resumed (map plain_content_given l.contents.items) (in_order (map check (map content_of left))))
    × (contents_depth left ≤ contents_depth l.fn.given.items)

-- the members that are left are as they were written
abbrev pub invariant-check_table-loop-i : goal.invariant-check_table-loop-i
invariant-check_table-loop-i l =
    let place = plain_place l.place l.vars in
    let ps = parts_of l.initial.written.items in
    (added (plain_members l.initial.checked.items) (in_order (member_checks place l.table ps)) ≡ added (plain_members l.checked.items) (in_order (member_checks place (drop l.i l.table) (drop l.i ps))))
    × (drop l.i (parts_of l.written.items) ≡ drop l.i ps)
    × (parts_depth l.written.items ≤ parts_depth l.initial.written.items)
