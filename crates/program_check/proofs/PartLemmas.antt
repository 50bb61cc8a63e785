-- Members of templates: each judged, and how deep they are.
use Rattle.std.proofs.Common.{◌≡◌, ℕ, zero, suc, ◌<◌, ◌≤◌, max, arith, List, [], ◌∷◌, map, Option, Some, None, Ok, option_map, get_or, length, rules, ap, subst, sym, refl, ◌∙◌}
use Rattle.std.specs.Prelude.{slice_get}
use Rattle.std.specs.Global.{Box}
use Rattle.std.proofs.lemmas.Option.{slice_get-map, slice_get_past, slice_get_read}
use Rattle.program_form.specs.declared.templates.Template.{Template}
use Rattle.program_form.specs.declared.templates.Part.{Part, the_lemmas}
use Rattle.program_form.specs.declared.templates.SlotForm.{SlotForm}
use Rattle.program_form.specs.Template.{members_in, templates_in, children, slots, slots_in}
use Rattle.program_form.specs.TemplateView.{plain_template, plain_part, plain_member, plain_key_member, plain_slot}
use Rattle.program_check.specs.Judged.{slots_in as given_slots, judged_by, of_children, checked_template, checked_keyed, checked_members, JudgedParts, joined, part_at, judged, judged_members, judged_part, judged_templates, judged_slots}
use Rattle.program_check.specs.JudgedView.{judged_of, part_of, member_of, parts_of, content_of}
use Rattle.program_form.specs.declared.kinds.KindName.{KindName}
use Rattle.program_form.specs.declared.kinds.KindName.TheVariants as kind
use Rattle.program_form.specs.Key.{PlainKey}
use Rattle.program_check.specs.Place.{PlainPlace}
use Rattle.program_form.proofs.TemplateLemmas.{plain_template-out}
use Rattle.program_check.specs.Depth.{template_depth, depth_of, part_depth_of, member_depth_of, parts_depth}

-- ---- the members of a template, its children and its slots' contents

pub judged_members-parts : (ms : List (Option (Box Part))) → judged_members (members_in (map plain_member ms)) ≡ parts_of ms
unfolding judged
judged_members-parts [] = refl
judged_members-parts (None ∷ ms) = ap (λ ps. None ∷ ps) (judged_members-parts ms)
judged_members-parts (Some p ∷ ms) = ap (λ ps. Some (part_of p.value) ∷ ps) (judged_members-parts ms)

pub judged_templates_map : (ts : List Template) → judged_templates (templates_in (map plain_template ts)) ≡ map judged_of ts
unfolding judged
judged_templates_map [] = refl
judged_templates_map (t ∷ ts) = ap (λ js. judged_of t ∷ js) (judged_templates_map ts)

pub judged_slots_map : (ss : List SlotForm) → judged_slots (slots_in (map plain_slot ss)) ≡ map content_of ss
unfolding judged
judged_slots_map [] = refl
judged_slots_map (s ∷ ss) = ap (λ js. content_of s ∷ js) (judged_slots_map ss)

-- ---- the member at a place

joined-map : (o : Option (Option (Box Part))) → joined (option_map member_of o) ≡ member_of (joined o)
joined-map None = refl
joined-map (Some p) = refl

pub part_at-parts : (ms : List (Option (Box Part))) (i : ℕ) → part_at (parts_of ms) i ≡ member_of (joined (slice_get ms i))
part_at-parts ms i = ap joined (slice_get-map member_of ms i) ∙ joined-map (slice_get ms i)

-- ---- depths

depth_here : (a rest : ℕ) → a ≤ max a rest
depth_here a rest = grind arith

depth_later : (a b rest : ℕ) → b ≤ rest → b ≤ max a rest
depth_later a b rest h = grind arith

same_depth : (p q : Box Part) → Some p ≡ Some q → part_depth_of p.value ≡ part_depth_of q.value
same_depth p q e = let same : p ≡ q = cc in ap (λ r. part_depth_of r.value) same

pub depth-part : (ms : List (Option (Box Part))) (i : ℕ) (p : Box Part) → joined (slice_get ms i) ≡ Some p → part_depth_of p.value ≤ parts_depth ms
depth-part [] i p e = cc
depth-part (None ∷ ms) zero p e = cc
depth-part (Some q ∷ ms) zero p e =
    subst (λ n. n ≤ max (part_depth_of q.value) (parts_depth ms)) (same_depth q p e) (depth_here (part_depth_of q.value) (parts_depth ms))
depth-part (None ∷ ms) (suc i) p e = depth-part ms i p e
depth-part (Some q ∷ ms) (suc i) p e = depth_later (part_depth_of q.value) _ _ (depth-part ms i p e)

-- ---- a member as the program reads it

pub part_at-none : (ms : List (Option (Box Part))) (i : ℕ) → length ms ≤ i → part_at (parts_of ms) i ≡ None
part_at-none ms i h = part_at-parts ms i ∙ ap (λ o. member_of (joined o)) (slice_get_past ms i h)

-- what stands at a place, where it is given and where it is left out
there : (ms : List (Option (Box Part))) (i : ℕ) (o : Option (Box Part)) → i < length ms → o ≡ get_or ms i o → o ≡ joined (slice_get ms i)
there ms i o h e = sym (ap joined (slice_get_read ms (length ms) i o refl h e))

pub part_at-there : (ms : List (Option (Box Part))) (i : ℕ) (o : Option (Box Part)) → i < length ms → o ≡ get_or ms i o → member_of o ≡ part_at (parts_of ms) i
part_at-there ms i o h e = ap member_of (there ms i o h e) ∙ sym (part_at-parts ms i)

pub depth-there : (ms : List (Option (Box Part))) (i : ℕ) (o : Option (Box Part)) (p : Box Part) → i < length ms → o ≡ get_or ms i o → o ≡ Some p
    → part_depth_of p.value ≤ parts_depth ms
depth-there ms i o p h e s = depth-part ms i p (sym (there ms i o h e) ∙ s)

pub member_depth-there : (ms : List (Option (Box Part))) (i : ℕ) (o : Option (Box Part)) → i < length ms → o ≡ get_or ms i o → member_depth_of o ≤ parts_depth ms
member_depth-there ms i None h e = omega arith
member_depth-there ms i (Some p) h e = depth-there ms i (Some p) p h e refl

-- the contents of slots, as the program holds them
pub slots_of-part : (p : Part) (ss : List SlotForm) → plain_part p ≡ slots (slots_in (map plain_slot ss)) → given_slots (Some (part_of p)) ≡ Ok (map content_of ss)
unfolding judged
slots_of-part p ss e = ap (λ q. given_slots (Some (judged_part q))) e ∙ ap Ok (judged_slots_map ss)

-- ---- a template by its kind, its key and its members

pub judged_of-by : (t : Template) → judged_of t ≡ judged_by t.w (plain_key_member t.key) (parts_of t.members.items)
unfolding judged
judged_of-by t = ap judged (plain_template-out t) ∙ ap (judged_by t.w (plain_key_member t.key)) (judged_members-parts t.members.items)

pub depth_of-parts : (t : Template) → depth_of t ≡ suc (parts_depth t.members.items)
depth_of-parts t = ap template_depth (plain_template-out t)

-- the content of a slot
pub content-out : (s : SlotForm) → plain_slot s ≡ (s.name, plain_template s.content)
content-out s = search (rules, the_lemmas)

pub content-depth : (s : SlotForm) → template_depth (plain_slot s).1 ≡ depth_of s.content
content-depth s = ap (λ p. template_depth p.1) (content-out s)

-- a list of children, as the program holds it
pub part_of-children : (p : Part) (ts : List Template) → plain_part p ≡ children (templates_in (map plain_template ts)) → part_of p ≡ of_children (map judged_of ts)
unfolding judged
part_of-children p ts e = ap judged_part e ∙ ap of_children (judged_templates_map ts)

-- a template of another kind than `use`
pub checked_template-other : (k : KindName) (key : Option PlainKey) (ps : JudgedParts) (place : PlainPlace) → (k ≡ kind.Use → ⊥)
    → checked_template k key ps place ≡ checked_keyed k key place (λ _. checked_members k place ps)
checked_template-other kind.Use key ps place h = absurd (h refl)
checked_template-other k key ps place h = refl
