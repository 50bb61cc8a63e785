-- The first member of a template that holds others, found by going over its members.
use Rattle.std.proofs.Common.{◌≡◌, ℕ, zero, suc, ◌+◌, ◌<◌, ◌≤◌, arith, Bool, true, false, List, [], ◌∷◌, length, drop, Option, Some, None, ap, sym, refl, ◌∙◌}
use Rattle.std.specs.Global.{Box}
use Rattle.program_check.specs.declared.checked.Body.{Body}
use Rattle.program_check.specs.declared.checked.BodyPart.{BodyPart}
use Rattle.program_check.specs.Body.{PlainBody, body, PlainBodyPart, members_in, members_in_body, part_at, body_depth}
use Rattle.program_check.specs.BodyView.{plain_body, plain_body_part, plain_members}
use Rattle.template_build.specs.Building.{holds, this_or, holder_in}
use Rattle.template_build.proofs.Bodies.{members-out}

some_is : {A : Type 0} (x y : A) → Some x ≡ Some y → x ≡ y
some_is x y e = cc

abbrev pub holds_in : Option PlainBodyPart → Bool
holds_in None = false
holds_in (Some p) = holds p

past : (items : List (Option (Box BodyPart))) (i : ℕ) (p : Option PlainBodyPart) → i < length items
    → p ≡ part_at (members_in (plain_members items)) i → holds_in p ≡ false
    → holder_in (members_in (plain_members (drop i items))) ≡ holder_in (members_in (plain_members (drop (suc i) items)))
past [] i p below e h = absurd (omega arith)
past (None ∷ ms) zero p below e h = refl
past (Some q ∷ ms) zero p below e h =
    let quiet : holds (plain_body_part q.value) ≡ false = ap holds_in (sym e) ∙ h in
    ap (λ b. this_or (plain_body_part q.value) b (holder_in (members_in (plain_members ms)))) quiet
past (None ∷ ms) (suc i) p below e h = past ms i p (omega arith) e h
past (Some q ∷ ms) (suc i) p below e h = past ms i p (omega arith) e h

here : (items : List (Option (Box BodyPart))) (i : ℕ) (p : PlainBodyPart) → Some p ≡ part_at (members_in (plain_members items)) i → holds p ≡ true
    → Some p ≡ holder_in (members_in (plain_members (drop i items)))
here [] i p e h = cc e
here (None ∷ ms) zero p e h = cc e
here (Some q ∷ ms) zero p e h =
    let same : p ≡ plain_body_part q.value = some_is p (plain_body_part q.value) e in
    let held : holds (plain_body_part q.value) ≡ true = ap holds (sym same) ∙ h in
    e ∙ sym (ap (λ b. this_or (plain_body_part q.value) b (holder_in (members_in (plain_members ms)))) held)
here (None ∷ ms) (suc i) p e h = here ms i p e h
here (Some q ∷ ms) (suc i) p e h = here ms i p e h

pub holder_past : (b : Body) (i j : ℕ) (p : Option PlainBodyPart) → j ≡ i + 1 → i < length b.members.items
    → p ≡ part_at (members_in_body (plain_body b)) i → holds_in p ≡ false
    → holder_in (members_in_body (plain_body b)) ≡ holder_in (members_in (plain_members (drop i b.members.items)))
    → holder_in (members_in_body (plain_body b)) ≡ holder_in (members_in (plain_members (drop j b.members.items)))
holder_past b i j p next below e h before =
    let at : suc i ≡ j = omega arith in
    before ∙ past b.members.items i p below (e ∙ ap (λ ms. part_at ms i) (members-out b)) h
    ∙ ap (λ k. holder_in (members_in (plain_members (drop k b.members.items)))) at

pub holder_here : (b : Body) (i : ℕ) (p : PlainBodyPart) → Some p ≡ part_at (members_in_body (plain_body b)) i → holds p ≡ true
    → holder_in (members_in_body (plain_body b)) ≡ holder_in (members_in (plain_members (drop i b.members.items)))
    → Some p ≡ holder_in (members_in_body (plain_body b))
holder_here b i p e h before = here b.members.items i p (e ∙ ap (λ ms. part_at ms i) (members-out b)) h ∙ sym before

-- ---- what a template's members hold is less deep than it

pub deep : (b : PlainBody) → 1 ≤ body_depth b
deep (body k key ms) = omega arith
