-- Loops over lists whose items are checked one by one.
use Rattle.std.proofs.Common.{◌≡◌, ℕ, zero, suc, ◌+◌, ◌<◌, arith, add-one, append_assoc, length, set, drop, List, [], ◌∷◌, ◌++◌, map, Option, None, Ok, Err, ap, refl, sym, ◌∙◌}
use Rattle.std.proofs.lemmas.List.{map-set, drop-set-lt}
use Rattle.std.specs.Global.{Box}
use Rattle.std.proofs.lemmas.Grind.{common_steps}
use Rattle.std.specs.Prelude.{slice_get}
use Rattle.expr_check.specs.Check.{Check, and_then, given, in_order}
use Rattle.program_check.specs.Place.{PlainPlace}
use Rattle.program_form.specs.declared.kinds.KindMember.{KindMember}
use Rattle.program_form.specs.declared.templates.Part.{Part}
use Rattle.program_check.specs.Body.{PlainBodyPart}
use Rattle.program_check.specs.Judged.{JudgedParts, part_at, after, member_checks, checked_entry}
use Rattle.program_check.specs.JudgedView.{member_of, parts_of}
use Rattle.expr_check.proofs.HandlerLemmas.{resumed}

pub map_map : {A B C : Type 0} (f : B → C) (g : A → B) (xs : List A) → map f (map g xs) ≡ map (λ x. f (g x)) xs
map_map f g [] = refl
map_map f g (x ∷ xs) = ap (λ ys. f (g x) ∷ ys) (map_map f g xs)

pub last_more : {A : Type 0} (before : List A) (x : A) (check : Check (List A)) → resumed before (given (λ xs. x ∷ xs) check) ≡ resumed (before ++ x ∷ []) check
last_more before x (Ok xs) = ap Ok (sym (append_assoc before (x ∷ []) xs))
last_more before x (Err code) = refl

-- one more of a list that is taken item by item, and whose items are seen as plain data
pub resumed-first : {A S T : Type 0} (check : T → Check A) (seen : S → T) (whole : Check (List A)) (before later : List A) (ss : List S) (s : S) (rest : List S) (x : A)
    → ss ≡ s ∷ rest → whole ≡ resumed before (in_order (map check (map seen ss))) → check (seen s) ≡ Ok x → later ≡ before ++ x ∷ []
    → whole ≡ resumed later (in_order (map check (map seen rest)))
resumed-first check seen whole before later ss s rest x is w r l =
    let left : Check _ = in_order (map check (map seen rest)) in
    w ∙ ap (λ xs. resumed before (in_order (map check (map seen xs)))) is
    ∙ ap (λ y. resumed before (and_then y (λ x. given (λ xs. x ∷ xs) left))) r
    ∙ last_more before x left ∙ ap (λ xs. resumed xs left) (sym l)

-- ---- the members of a kind, in the table's order

abbrev no_parts : JudgedParts
no_parts = []

drop-none : (i : ℕ) → drop i no_parts ≡ no_parts
drop-none zero = refl
drop-none (suc i) = refl

abbrev pub left : PlainPlace → List KindMember → JudgedParts → Check (List (Option PlainBodyPart))
left place table ps = in_order (member_checks place table ps)

abbrev pub entry_then : PlainPlace → List KindMember → JudgedParts → ℕ → Check (Option PlainBodyPart) → Check (List (Option PlainBodyPart))
entry_then place table ps i check = and_then check (λ x. given (λ xs. x ∷ xs) (left place (drop (suc i) table) (drop (suc i) ps)))

pub at_entry : (place : PlainPlace) (table : List KindMember) (ps : JudgedParts) (i : ℕ) → i < length table
    → left place (drop i table) (drop i ps) ≡ entry_then place table ps i (checked_entry place (slice_get table i) (part_at ps i))
at_entry place [] ps i h = absurd (grind (arith, common_steps))
at_entry place (m ∷ ms) [] zero h = refl
at_entry place (m ∷ ms) (p ∷ ps) zero h = refl
at_entry place (m ∷ ms) [] (suc i) h =
    ap (left place (drop i ms)) (sym (drop-none i)) ∙ at_entry place ms [] i (grind (arith, common_steps))
at_entry place (m ∷ ms) (p ∷ ps) (suc i) h = at_entry place ms ps i (grind (arith, common_steps))

-- ---- members that are taken in the table's order: those that are left are as they were

at_drop : (ps : JudgedParts) (i : ℕ) → part_at ps i ≡ part_at (drop i ps) 0
at_drop [] zero = refl
at_drop [] (suc i) = refl
at_drop (p ∷ ps) zero = refl
at_drop (p ∷ ps) (suc i) = at_drop ps i

after-drop : (ps : JudgedParts) (i : ℕ) → drop (suc i) ps ≡ after (drop i ps)
after-drop [] zero = refl
after-drop [] (suc i) = refl
after-drop (p ∷ ps) zero = refl
after-drop (p ∷ ps) (suc i) = after-drop ps i

pub part_at-left : (ps qs : JudgedParts) (i : ℕ) → drop i ps ≡ drop i qs → part_at ps i ≡ part_at qs i
part_at-left ps qs i e = at_drop ps i ∙ ap (λ xs. part_at xs 0) e ∙ sym (at_drop qs i)

left-after : (ps qs : JudgedParts) (i : ℕ) → drop i ps ≡ drop i qs → drop (i + 1) ps ≡ drop (i + 1) qs
left-after ps qs i e =
    ap (λ n. drop n ps) (add-one i) ∙ after-drop ps i ∙ ap after e ∙ sym (after-drop qs i) ∙ ap (λ n. drop n qs) (sym (add-one i))

pub left-later : (ms later : List (Option (Box Part))) (qs : JudgedParts) (i : ℕ) → later ≡ set ms i None → drop i (parts_of ms) ≡ drop i qs
    → drop (i + 1) (parts_of later) ≡ drop (i + 1) qs
left-later ms later qs i h e =
    ap (λ xs. drop (i + 1) (parts_of xs)) h ∙ ap (drop (i + 1)) (map-set member_of ms i None)
    ∙ drop-set-lt (i + 1) (parts_of ms) i None (omega arith) ∙ left-after (parts_of ms) qs i e
