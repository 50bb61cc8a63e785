-- A template as plain data, by its kind, its key and its members.
use Rattle.std.proofs.Common.{◌≡◌, List, [], ◌∷◌, map, Option, Some, None, option_map, ap, refl, ◌∙◌, rules}
use Rattle.std.specs.Global.{Box}
use Rattle.program_form.specs.declared.templates.Template.{Template}
use Rattle.program_form.specs.declared.templates.Part.{Part, the_lemmas}
use Rattle.program_form.specs.Template.{PlainPart, template_from}
use Rattle.program_form.specs.TemplateView.{plain_template, plain_part, plain_member, plain_key_member}

-- a member whose part is plain data already
abbrev seen : Option (Box Part) → Option (Box PlainPart)
seen p = option_map (λ b. record { ptr = b.ptr; value = plain_part b.value; alloc = b.alloc }) p

members-seen : (ms : List (Option (Box Part))) → map (option_map (λ b. b.value)) (map seen ms) ≡ map plain_member ms
members-seen [] = refl
members-seen (None ∷ ms) = ap (λ ps. None ∷ ps) (members-seen ms)
members-seen (Some b ∷ ms) = ap (λ ps. Some (plain_part b.value) ∷ ps) (members-seen ms)

template-seen : (t : Template) → plain_template t ≡ template_from t.w (plain_key_member t.key) (map (option_map (λ b. b.value)) (map seen t.members.items))
template-seen t = search (rules, the_lemmas)

pub plain_template-out : (t : Template) → plain_template t ≡ template_from t.w (plain_key_member t.key) (map plain_member t.members.items)
plain_template-out t = template-seen t ∙ ap (template_from t.w (plain_key_member t.key)) (members-seen t.members.items)
