-- The steps of a template's check, as the program takes them: what is checked is added to the members before.
use Rattle.std.specs.Prelude.{ℕ, List, [], ◌∷◌, ◌++◌, Option, Some, Ok, Err}
use Rattle.program_form.specs.Form.{PlainForm}
use Rattle.expr_check.specs.declared.fault.CheckCode.TheVariants.{WrongType}
use Rattle.expr_check.specs.declared.wants.Want.{Want}
use Rattle.expr_check.specs.declared.wants.Want.TheVariants as want
use Rattle.expr_check.specs.Check.{Check, and_then, given}
use Rattle.expr_check.specs.Names.{NamedTypes, PlainNames}
use Rattle.expr_check.specs.Exprs.{TypedExp}
use Rattle.expr_check.specs.Handlers.{typed_as}
use Rattle.program_check.specs.Body.{PlainBody, PlainBodyPart, props, slots, bodies_in}
use Rattle.program_check.specs.Place.{PlainPlace, or_wrong}
use Rattle.program_check.specs.Judged.{Judged, JudgedPart, of_children, form_of, checked_props, slots_placed, checked_slots, arranged}

-- what a check gives, after what was there before: a list, one more, or one more member that is given
abbrev pub added : {A : Type 0} → List A → Check (List A) → Check (List A)
added before check = given (λ later. before ++ later) check

abbrev pub added_one : {A : Type 0} → List A → Check A → Check (List A)
added_one before check = given (λ x. before ++ x ∷ []) check

abbrev pub added_part : List (Option PlainBodyPart) → Check PlainBodyPart → Check (List (Option PlainBodyPart))
added_part before check = given (λ p. before ++ Some p ∷ []) check

-- members that are checked, with what is found beside them
abbrev pub beside : {A : Type 0} → List (Option PlainBodyPart) → A → List (Option PlainBodyPart) × A
beside members x = (members, x)

-- the member as children, which it has to be
abbrev pub children_in : JudgedPart → Check (List Judged)
children_in (of_children js) = Ok js
children_in p = Err WrongType

-- the member as an expression, which it has to be, and its check
abbrev pub value_of : PlainNames → Want → Option JudgedPart → Check TypedExp
value_of names wanted p = and_then (or_wrong WrongType (form_of p)) (typed_as names wanted)

-- what a component is given for its props, which are still to be checked
abbrev pub props_part : PlainNames → NamedTypes → Check (List (List ℕ × PlainForm)) → Check PlainBodyPart
props_part names declared written = given props (and_then written (checked_props names declared))

-- the slots that are given, which are those declared, all of them
abbrev pub placed_slots : List (List ℕ) → Check (List (List ℕ × Judged)) → Check (List (List ℕ × Judged))
placed_slots declared contents = and_then contents (λ gs. given (λ _. gs) (slots_placed declared gs))

-- their contents as a member: arranged, and where they are still to be checked
abbrev pub arranged_slots : ℕ → List (ℕ × PlainBody) → Check PlainBodyPart
arranged_slots count contents = given (λ bs. slots (bodies_in bs)) (arranged count contents)

abbrev pub slots_part : PlainPlace → List (List ℕ) → Check (List (List ℕ × Judged)) → Check PlainBodyPart
slots_part place declared contents = given (λ bs. slots (bodies_in bs)) (and_then contents (checked_slots place declared))
