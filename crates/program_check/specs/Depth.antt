-- How deep templates stand in one another.
use Rattle.std.specs.Prelude.{ℕ, suc, max, List, map, Option, Some, None}
use Rattle.std.specs.Global.{Box}
use Rattle.program_form.specs.declared.templates.Template.{Template}
use Rattle.program_form.specs.declared.templates.Part.{Part}
use Rattle.program_form.specs.declared.templates.SlotForm.{SlotForm}
use Rattle.program_check.specs.declared.members.FirstThree.{FirstThree}
use Rattle.program_form.specs.Template.{PlainTemplate, template, PlainMembers, no_members, left_out, member, PlainPart, expression, word, name, handler, child, children, props, slots, PlainTemplates, no_templates, one_template, PlainSlots, no_slots, slot, members_in, templates_in, slots_in}
use Rattle.program_form.specs.TemplateView.{plain_template, plain_part, plain_member, plain_slot}

abbrev mutual
  pub template_depth : PlainTemplate → ℕ
  template_depth (template k key ms) = suc (members_depth ms)

  pub members_depth : PlainMembers → ℕ
  members_depth no_members = 0
  members_depth (left_out ms) = members_depth ms
  members_depth (member p ms) = max (part_depth p) (members_depth ms)

  pub part_depth : PlainPart → ℕ
  part_depth (expression f) = 0
  part_depth (word w) = 0
  part_depth (name n) = 0
  part_depth (handler sets) = 0
  part_depth (child t) = template_depth t
  part_depth (children ts) = templates_depth ts
  part_depth (props ps) = 0
  part_depth (slots ss) = slots_depth ss

  pub templates_depth : PlainTemplates → ℕ
  templates_depth no_templates = 0
  templates_depth (one_template t ts) = max (template_depth t) (templates_depth ts)

  pub slots_depth : PlainSlots → ℕ
  slots_depth no_slots = 0
  slots_depth (slot n t ss) = max (template_depth t) (slots_depth ss)

-- the same of the program's own
abbrev pub depth_of : Template → ℕ
depth_of t = template_depth (plain_template t)

abbrev pub part_depth_of : Part → ℕ
part_depth_of p = part_depth (plain_part p)

abbrev pub member_depth_of : Option (Box Part) → ℕ
member_depth_of None = 0
member_depth_of (Some p) = part_depth_of p.value

abbrev pub three_depth : FirstThree → ℕ
three_depth g = max (member_depth_of g.first) (max (member_depth_of g.second) (member_depth_of g.third))

abbrev pub parts_depth : List (Option (Box Part)) → ℕ
parts_depth ps = members_depth (members_in (map plain_member ps))

abbrev pub children_depth : List Template → ℕ
children_depth ts = templates_depth (templates_in (map plain_template ts))

abbrev pub contents_depth : List SlotForm → ℕ
contents_depth ss = slots_depth (slots_in (map plain_slot ss))
