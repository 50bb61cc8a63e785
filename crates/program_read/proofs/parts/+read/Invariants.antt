use Rattle.std.proofs.Common.{◌≡◌, ◌+◌, ◌*◌, ◌≤◌, length, map, drop, option_map, true}
use Rattle.std.specs.Vec.Iter.{into_iter_items}
use Rattle.serde_json.specs.Data.{object, depth, items_depth, members_depth}
use Rattle.json_tree.specs.View.{view, items_view, members_view}
use Rattle.program_read.specs.ShapeFault.{each}
use Rattle.program_read.specs.Leaves.{walks}
use Rattle.program_form.specs.Kinds.{members_of}
use Rattle.program_read.specs.Objects.{in_order, named_walks}
use Rattle.program_form.specs.TemplateView.{plain_template, plain_member, plain_slot}
use Rattle.program_read.specs.TemplateWalk.{template_of, part_at}
use Rattle.program_read.proofs.TakeLemmas.{AreAsGiven, are_distinct}
use Rattle.program_read.proofs.TemplateLemmas.{member_room}
use Rattle.program_read.proofs.WalkLemmas.{resumed}
use Rattle.program_read.proofs.parts.+read.Given as goal

abbrev pub decreases-read_template : goal.decreases-read_template
decreases-read_template l = 7 * depth (view l.value) + 4

abbrev pub decreases-template_in : goal.decreases-template_in
decreases-template_in l = 7 * depth (object (members_view l.given.now.items)) + 2

abbrev pub decreases-read_members : goal.decreases-read_members
decreases-read_members l = 7 * depth (object (members_view l.given.now.items)) + 1

abbrev pub decreases-read_member : goal.decreases-read_member
decreases-read_member l = member_room (option_map view l.found)

abbrev pub decreases-read_part : goal.decreases-read_part
decreases-read_part l = 7 * depth (view l.value) + 5

abbrev pub decreases-read_templates : goal.decreases-read_templates
decreases-read_templates l = 7 * items_depth (items_view l.entries.items) + 8

abbrev pub decreases-read_slots : goal.decreases-read_slots
decreases-read_slots l = 7 * members_depth (members_view l.members.items) + 8

abbrev pub decreases-read_slot : goal.decreases-read_slot
decreases-read_slot l = 7 * depth (view l.value) + 5

-- what is read so far and the walks of what is left; the members that are left to take are as they were given, and have
-- distinct names
abbrev pub invariant-read_members-loop-member : goal.invariant-read_members-loop-member
invariant-read_members-loop-member l =
    let d = object (members_view l.fn.given.items) in
    let left = drop l.member-index l.member-items in
    (in_order (map (part_at l.fn.version d) (members_of l.fn.kind)) ≡ resumed (map plain_member l.members.items) (in_order (map (part_at l.fn.version d) left)))
    × AreAsGiven d (object (members_view l.given.items)) left
    × (are_distinct left ≡ true)

abbrev pub invariant-read_templates-loop-entry : goal.invariant-read_templates-loop-entry
invariant-read_templates-loop-entry l =
    (each 0 (walks (template_of l.fn.version) (items_view l.fn.entries.items))
    ≡ resumed (map plain_template l.templates.items) (each (length l.templates.items) (walks (template_of l.fn.version) (items_view (into_iter_items l.entry-iterator)))))
    × (items_depth (items_view (into_iter_items l.entry-iterator)) ≤ items_depth (items_view l.fn.entries.items))

abbrev pub invariant-read_slots-loop-member : goal.invariant-read_slots-loop-member
invariant-read_slots-loop-member l =
    (in_order (named_walks (template_of l.fn.version) (members_view l.fn.members.items))
    ≡ resumed (map plain_slot l.slots.items) (in_order (named_walks (template_of l.fn.version) (members_view (into_iter_items l.member-iterator)))))
    × (members_depth (members_view (into_iter_items l.member-iterator)) ≤ members_depth (members_view l.fn.members.items))
