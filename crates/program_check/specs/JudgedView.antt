-- A template of the program, and what is in it, judged.
use Rattle.std.specs.Prelude.{ℕ, List, [], ◌∷◌, map, Option, None, option_map}
use Rattle.std.specs.Global.{Box}
use Rattle.program_form.specs.declared.templates.Template.{Template}
use Rattle.program_form.specs.declared.templates.Part.{Part}
use Rattle.program_form.specs.declared.templates.SlotForm.{SlotForm}
use Rattle.program_form.specs.TemplateView.{plain_template, plain_part, plain_slot}
use Rattle.program_check.specs.declared.members.FirstThree.{FirstThree}
use Rattle.program_check.specs.Judged.{Judged, JudgedPart, JudgedParts, part_at, judged, judged_part}

abbrev pub judged_of : Template → Judged
judged_of t = judged (plain_template t)

abbrev pub part_of : Part → JudgedPart
part_of p = judged_part (plain_part p)

-- a member, where it is given; and the members
abbrev pub member_of : Option (Box Part) → Option JudgedPart
member_of p = option_map (λ p. part_of p.value) p

abbrev pub parts_of : List (Option (Box Part)) → JudgedParts
parts_of ps = map member_of ps

abbrev pub content_of : SlotForm → List ℕ × Judged
content_of s = ((plain_slot s).0, judged (plain_slot s).1)

-- the first three members: of all members, and as they are taken
abbrev pub first_three : JudgedParts → JudgedParts
first_three ps = part_at ps 0 ∷ part_at ps 1 ∷ part_at ps 2 ∷ []

abbrev pub three_parts : FirstThree → JudgedParts
three_parts g = member_of g.first ∷ member_of g.second ∷ member_of g.third ∷ []

-- the members of an `if` after `then`
abbrev pub other_parts : Option (Box Part) → JudgedParts
other_parts other = None ∷ None ∷ member_of other ∷ []
