-- What the check of a template gives is typed where it stands.
use Rattle.std.proofs.Common.{◌≡◌, ℕ, List, Option, Ok, subst, refl}
use Rattle.std.specs.Prelude.{⊤}
use Rattle.program_form.specs.declared.kinds.KindName.{KindName}
use Rattle.program_form.specs.declared.kinds.KindName.TheVariants as kind
use Rattle.program_form.specs.Key.{PlainKey}
use Rattle.program_form.specs.Kinds.{members_of}
use Rattle.program_form.specs.Template as template
use Rattle.program_form.specs.Template.{PlainTemplate, PlainMembers, PlainPart, PlainTemplates, PlainSlots}
use Rattle.expr_check.specs.Check.{Check, and_then, given, in_order}
use Rattle.program_check.specs.Body.{KeyExp, PlainBody, PlainBodyPart, body_from}
use Rattle.program_check.specs.Place.{Signature, PlainPlace, used_component}
use Rattle.program_check.specs.Judged.{JudgedParts, name_in, optional_key, member_checks, checked_inherit, checked_slot, checked_if, checked_each, checked_use, checked_keyed, checked_template, judged_by, judged, judged_members, judged_part, judged_templates, judged_slots}
use Rattle.program_check.specs.TypedBody.{surroundings_of, wanted_of}
use Rattle.expr_check.proofs.Sound.{and_then-ok, given-ok}
use Rattle.program_check.proofs.TypedParts.{IsFine, IsSound, AreSound, AreSoundSlots, IsSoundPart, AreSoundParts, optional_key-typed, members-typed}
use Rattle.program_check.proofs.TypedKinds.{AreFine, slot-fine, inherit-fine, if-fine, each-fine, use-fine}

keyed-fine : (k : KindName) (key : Option PlainKey) (ps : JudgedParts) (place : PlainPlace) (members : ⊤ → Check (List (Option PlainBodyPart))) (b : PlainBody)
    → ((rs : List (Option PlainBodyPart)) → members tt ≡ Ok rs → AreFine k place ps rs) → checked_keyed k key place members ≡ Ok b → IsFine place (judged_by k key ps) b
keyed-fine k key ps place members b h e =
    let keyed = and_then-ok (optional_key place.names key) (λ found. given (body_from k found) (members tt)) b e in
    let found : Option KeyExp = keyed.0 in
    let made = given-ok (body_from k found) (members tt) b keyed.1.1 in
    let fine : AreFine k place ps made.0 = h made.0 made.1.0 in
    subst (IsFine place (judged_by k key ps)) made.1.1 (record {
      typed = (optional_key-typed place.names key found keyed.1.0, (fine.wants, fine.wanted, fine.typed));
      certain = fine.certain;
      each = refl;
      sort = fine.sort;
    })

template-fine : (k : KindName) (key : Option PlainKey) (ps : JudgedParts) (place : PlainPlace) (b : PlainBody) → AreSoundParts ps → checked_template k key ps place ≡ Ok b
    → IsFine place (judged_by k key ps) b
template-fine kind.Inherit key ps place b sound e = keyed-fine kind.Inherit key ps place (λ _. checked_inherit place ps) b (λ rs h. inherit-fine place ps rs sound h) e
template-fine kind.Slot key ps place b sound e = keyed-fine kind.Slot key ps place (λ _. checked_slot place ps) b (λ rs h. slot-fine place ps rs h) e
template-fine kind.If key ps place b sound e = keyed-fine kind.If key ps place (λ _. checked_if place ps) b (λ rs h. if-fine place ps rs sound h) e
template-fine kind.Each key ps place b sound e = keyed-fine kind.Each key ps place (λ _. checked_each place ps) b (λ rs h. each-fine place ps rs sound h) e
template-fine kind.Use key ps place b sound e =
    let from_component = λ (c : ℕ × Signature). checked_keyed kind.Use key place (λ _. checked_use place c ps) in
    let named = and_then-ok (name_in ps 0) (λ n. and_then (used_component place n) from_component) b e in
    let used = and_then-ok (used_component place named.0) from_component b named.1.1 in
    keyed-fine kind.Use key ps place (λ _. checked_use place used.0 ps) b (λ rs h. use-fine place named.0 used.0 ps rs sound named.1.0 used.1.0 h) used.1.1
template-fine k key ps place b sound e =
    keyed-fine k key ps place (λ _. in_order (member_checks place (members_of k) ps)) b (λ rs h. record {
      wants = wanted_of (surroundings_of place) (members_of k);
      wanted = refl;
      typed = members-typed place (members_of k) ps rs sound h;
      certain = refl;
      sort = refl;
    }) e

mutual
  unfolding judged

  pub judged-sound : (t : PlainTemplate) → IsSound (judged t)
  judged-sound (template.template k key ms) = λ place b e. template-fine k key (judged_members ms) place b (judged_members-sound ms) e

  judged_members-sound : (ms : PlainMembers) → AreSoundParts (judged_members ms)
  judged_members-sound template.no_members = tt
  judged_members-sound (template.left_out ms) = (tt, judged_members-sound ms)
  judged_members-sound (template.member p ms) = (judged_part-sound p, judged_members-sound ms)

  judged_part-sound : (p : PlainPart) → IsSoundPart (judged_part p)
  judged_part-sound (template.expression f) = tt
  judged_part-sound (template.word w) = tt
  judged_part-sound (template.name n) = tt
  judged_part-sound (template.handler sets) = tt
  judged_part-sound (template.child t) = judged-sound t
  judged_part-sound (template.children ts) = judged_templates-sound ts
  judged_part-sound (template.props ps) = tt
  judged_part-sound (template.slots ss) = judged_slots-sound ss

  judged_templates-sound : (ts : PlainTemplates) → AreSound (judged_templates ts)
  judged_templates-sound template.no_templates = tt
  judged_templates-sound (template.one_template t ts) = (judged-sound t, judged_templates-sound ts)

  judged_slots-sound : (ss : PlainSlots) → AreSoundSlots (judged_slots ss)
  judged_slots-sound template.no_slots = tt
  judged_slots-sound (template.slot n t ss) = (judged-sound t, judged_slots-sound ss)
