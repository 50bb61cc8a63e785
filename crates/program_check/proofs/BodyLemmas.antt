-- A checked template as plain data, by its kind, its key and its members.
use Rattle.std.proofs.Common.{◌≡◌, ℕ, zero, suc, ◌<◌, ◌≤◌, max, arith, length, get_or, List, [], ◌∷◌, map, Option, Some, None, option_map, ap, subst, refl, ◌∙◌, rules}
use Rattle.std.specs.Global.{Box}
use Rattle.program_check.specs.declared.checked.Body.{Body}
use Rattle.program_check.specs.declared.checked.BodyPart.{BodyPart, the_lemmas}
use Rattle.program_check.specs.Body.{BodyMembers, no_members, left_out, member, PlainBodyPart, members_in, members_in_body, part_at, body_depth, members_depth, part_depth, body_from}
use Rattle.program_check.specs.BodyView.{plain_body, plain_body_part, plain_body_member, plain_members, plain_body_key_member}

-- a member whose part is plain data already
abbrev seen : Option (Box BodyPart) → Option (Box PlainBodyPart)
seen p = option_map (λ b. record { ptr = b.ptr; value = plain_body_part b.value; alloc = b.alloc }) p

members-seen : (ms : List (Option (Box BodyPart))) → map (option_map (λ b. b.value)) (map seen ms) ≡ plain_members ms
members-seen [] = refl
members-seen (None ∷ ms) = ap (λ ps. None ∷ ps) (members-seen ms)
members-seen (Some b ∷ ms) = ap (λ ps. Some (plain_body_part b.value) ∷ ps) (members-seen ms)

body-seen : (b : Body) → plain_body b ≡ body_from b.w (plain_body_key_member b.key) (map (option_map (λ p. p.value)) (map seen b.members.items))
body-seen b = search (rules, the_lemmas)

pub plain_body-out : (b : Body) → plain_body b ≡ body_from b.w (plain_body_key_member b.key) (plain_members b.members.items)
plain_body-out b = body-seen b ∙ ap (body_from b.w (plain_body_key_member b.key)) (members-seen b.members.items)

-- ---- the member at a place of a template, and how deep it is

pub members_in_body-out : (b : Body) → members_in_body (plain_body b) ≡ members_in (plain_members b.members.items)
members_in_body-out b = ap members_in_body (plain_body-out b)

pub body_depth-out : (b : Body) → body_depth (plain_body b) ≡ suc (members_depth (members_in (plain_members b.members.items)))
body_depth-out b = ap body_depth (plain_body-out b)

pub part_past : (ms : List (Option (Box BodyPart))) (i : ℕ) → length ms ≤ i → None ≡ part_at (members_in (plain_members ms)) i
part_past [] zero h = refl
part_past [] (suc i) h = refl
part_past (None ∷ ms) zero h = absurd (omega arith)
part_past (Some p ∷ ms) zero h = absurd (omega arith)
part_past (None ∷ ms) (suc i) h = part_past ms i (omega arith)
part_past (Some p ∷ ms) (suc i) h = part_past ms i (omega arith)

pub part_there : (ms : List (Option (Box BodyPart))) (i : ℕ) (m : Option (Box BodyPart)) → i < length ms → m ≡ get_or ms i m
    → plain_body_member m ≡ part_at (members_in (plain_members ms)) i
part_there [] i m h e = absurd (omega arith)
part_there (None ∷ ms) zero m h e = ap plain_body_member e
part_there (Some p ∷ ms) zero m h e = ap plain_body_member e
part_there (None ∷ ms) (suc i) m h e = part_there ms i m (omega arith) e
part_there (Some p ∷ ms) (suc i) m h e = part_there ms i m (omega arith) e

some_is : {A : Type 0} (x y : A) → Some x ≡ Some y → x ≡ y
some_is x y e = cc

shallower : (a b c : ℕ) → a ≤ b → a ≤ max c b
shallower a b c h = grind arith

deepest : (a b : ℕ) → a ≤ max a b
deepest a b = grind arith

pub part-depth : (ms : BodyMembers) (i : ℕ) (p : PlainBodyPart) → part_at ms i ≡ Some p → part_depth p ≤ members_depth ms
part-depth no_members i p e = cc e
part-depth (left_out ms) zero p e = cc e
part-depth (left_out ms) (suc i) p e = part-depth ms i p e
part-depth (member q ms) zero p e = subst (λ p. part_depth p ≤ max (part_depth q) (members_depth ms)) (some_is q p e) (deepest (part_depth q) (members_depth ms))
part-depth (member q ms) (suc i) p e = shallower (part_depth p) (members_depth ms) (part_depth q) (part-depth ms i p e)
