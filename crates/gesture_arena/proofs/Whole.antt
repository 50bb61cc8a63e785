-- What the stored pointers have in common with those that they stand for.
use Rattle.std.proofs.Common.{◌≡◌, refl, sym, ◌∙◌, ap, subst, ℕ, zero, suc, ◌+◌, ◌-◌, ◌<◌, ◌≤◌, Bool, true, false, cond, not, ◌||◌, List, [], ◌∷◌, ◌++◌, map, length, get_or, drop, slice_get, Option, Some, None, ◌==◌, arith}
use Rattle.std.specs.List.{list_any}
use Rattle.std.specs.Option.{option_to_list}
use Rattle.fx_geom.specs.declared.scales.Scale.{Scale}
use Rattle.gesture_arena.specs.declared.gesture.Member.{Member}
use Rattle.gesture_arena.specs.declared.gesture.ArenaEvent.{ArenaEvent}
use Rattle.gesture_arena.specs.declared.tracked.Tracked.{Tracked}
use Rattle.gesture_arena.specs.declared.held.HeldPointer.{HeldPointer}
use Rattle.gesture_arena.specs.Moment.{Moment, Touch, Pointer}
use Rattle.gesture_arena.specs.Pointers.{with_moment, one_gets, is_numbered, met, after, without, is_down, members_of, events_met}
use Rattle.gesture_arena.specs.declared.answers.Answers.{Answers}
use Rattle.gesture_arena.specs.Answering.{answered}
use Rattle.gesture_arena.specs.Settled.{member_in, is_open}
use Rattle.gesture_arena.specs.Stored.{offset_of, decided_in, effect_in, tracked_of, number_is, others, Stands, StepsTo, AllStand}
use Rattle.gesture_arena.specs.StandsFor.{held_members}
use Rattle.gesture_arena.proofs.Arenas.{stands_more}
use Rattle.gesture_arena.proofs.EachMeets.{events_some}

pub length-stand : (s : Scale) (hs : List HeldPointer) (ps : List Pointer) → AllStand s hs ps → length hs ≡ length ps
length-stand s [] [] a = refl
length-stand s [] (p ∷ ps) a = absurd a
length-stand s (h ∷ hs) [] a = absurd a
length-stand s (h ∷ hs) (p ∷ ps) a = ap suc (length-stand s hs ps a.1)

pub held-stand : (s : Scale) (number : ℕ) (hs : List HeldPointer) (ps : List Pointer) → AllStand s hs ps
    → list_any (number_is number) hs ≡ is_down number ps
held-stand s number [] [] a = refl
held-stand s number [] (p ∷ ps) a = absurd a
held-stand s number (h ∷ hs) [] a = absurd a
held-stand s number (h ∷ hs) (p ∷ ps) a =
    ap (λ n. (n == number) || list_any (number_is number) hs) a.0.number
    ∙ ap (λ b. is_numbered number p || b) (held-stand s number hs ps a.1)

pub others-stand : (s : Scale) (number : ℕ) (hs : List HeldPointer) (ps : List Pointer) → AllStand s hs ps → AllStand s (others number hs) (without number ps)
others-stand s number [] [] a = tt
others-stand s number [] (p ∷ ps) a = absurd a
others-stand s number (h ∷ hs) [] a = absurd a
others-stand s number (h ∷ hs) (p ∷ ps) a =
    let rest : AllStand s (others number hs) (without number ps) = others-stand s number hs ps a.1 in
    let P : Bool → Type 0 = λ b. AllStand s (cond (not b) (h ∷ others number hs) (others number hs)) (without number (p ∷ ps)) in
    let Q : Bool → Type 0 = λ b. AllStand s (cond (not b) (h ∷ others number hs) (others number hs)) (cond (not b) (p ∷ without number ps) (without number ps)) in
    let both : (b : Bool) → Q b = λ b. elim b as (λ b. Q b) [ true ↦ rest | false ↦ (a.0, rest) ] in
    subst P (sym (ap (λ n. n == number) a.0.number)) (both (is_numbered number p))

pub more-stand : (s : Scale) (hs : List HeldPointer) (ps : List Pointer) (h : HeldPointer) (p : Pointer) → AllStand s hs ps → Stands s h p
    → AllStand s (hs ++ h ∷ []) (ps ++ p ∷ [])
more-stand s [] [] h p a b = (b, tt)
more-stand s [] (q ∷ ps) h p a b = absurd a
more-stand s (g ∷ hs) [] h p a b = absurd a
more-stand s (g ∷ hs) (q ∷ ps) h p a b = (a.0, more-stand s hs ps h p a.1 b)

-- the members
member-tracked : (s : Scale) (p : Touch) (ms : List Moment) (members : List Member) → map member_in (map (tracked_of s p ms) members) ≡ members
member-tracked s p ms [] = refl
member-tracked s p ms (m ∷ members) = ap (λ l. m ∷ l) (member-tracked s p ms members)

member-given : (a : Answers) (ts : List Tracked) → map member_in ts ≡ map member_in (map (answered a) ts)
member-given a [] = refl
member-given a (t ∷ ts) = ap (λ l. member_in t ∷ l) (member-given a ts)

pub members-stand : (s : Scale) (hs : List HeldPointer) (ps : List Pointer) → AllStand s hs ps → held_members hs ≡ members_of ps
members-stand s [] [] a = refl
members-stand s [] (p ∷ ps) a = absurd a
members-stand s (h ∷ hs) [] a = absurd a
members-stand s (h ∷ hs) (p ∷ ps) a =
    ap (λ l. l ++ held_members hs) (member-given h.answers h.members.items)
    ∙ ap (λ ts. map member_in ts ++ held_members hs) a.0.members
    ∙ ap (λ l. l ++ held_members hs) (member-tracked s p.touch p.moments p.touch.members)
    ∙ ap (λ l. p.touch.members ++ l) (members-stand s hs ps a.1)

pub get-map : {A B : Type 0} (f : A → B) (xs : List A) (i : ℕ) (d : A) (ys : List B) → i < length xs → slice_get (map f xs ++ ys) i ≡ Some (f (get_or xs i d))
get-map f [] i d ys h = absurd (omega arith)
get-map f (x ∷ xs) zero d ys h = refl
get-map f (x ∷ xs) (suc i) d ys h = get-map f xs i d ys (omega arith)

pub get-past : {A B : Type 0} (f : A → B) (xs : List A) (i : ℕ) (ys : List B) → length xs ≤ i → slice_get (map f xs ++ ys) i ≡ slice_get ys (i - length xs)
get-past f [] i ys h = ap (slice_get ys) (let e : i ≡ i - 0 = omega arith in e)
get-past f (x ∷ xs) zero ys h = absurd (omega arith)
get-past f (x ∷ xs) (suc i) ys h =
    get-past f xs i ys (omega arith) ∙ ap (slice_get ys) (let e : i - length xs ≡ suc i - suc (length xs) = omega arith in e)

members-drop : (hs : List HeldPointer) (i : ℕ) (d : HeldPointer) → i < length hs
    → held_members (drop i hs) ≡ map member_in (get_or hs i d).members.items ++ held_members (drop (i + 1) hs)
members-drop [] i d h = absurd (omega arith)
members-drop (x ∷ hs) zero d h = refl
members-drop (x ∷ hs) (suc i) d h =
    members-drop hs i d (omega arith)
    ∙ ap (λ n. map member_in (get_or hs i d).members.items ++ held_members (drop n (x ∷ hs))) (let e : suc (i + 1) ≡ suc i + 1 = omega arith in e)

pub member_found : (hs : List HeldPointer) (i left index : ℕ) (d : HeldPointer) (e : Tracked) → i < length hs → left < length (get_or hs i d).members.items
    → slice_get (held_members hs) index ≡ slice_get (held_members (drop i hs)) left
    → Some (member_in (get_or (get_or hs i d).members.items left e)) ≡ slice_get (held_members hs) index
member_found hs i left index d e h l r =
    sym (r ∙ ap (λ ms. slice_get ms left) (members-drop hs i d h) ∙ get-map member_in (get_or hs i d).members.items left e (held_members (drop (i + 1) hs)) l)

pub member_further : (hs : List HeldPointer) (i left index : ℕ) (d : HeldPointer) → i < length hs → length (get_or hs i d).members.items ≤ left
    → slice_get (held_members hs) index ≡ slice_get (held_members (drop i hs)) left
    → slice_get (held_members hs) index ≡ slice_get (held_members (drop (i + 1) hs)) (left - length (get_or hs i d).members.items)
member_further hs i left index d h l r =
    r ∙ ap (λ ms. slice_get ms left) (members-drop hs i d h) ∙ get-past member_in (get_or hs i d).members.items left (held_members (drop (i + 1) hs)) l

-- a pointer that gets a moment and then goes is gone, and the others stay as they were
gone_one : (number : ℕ) (x : Moment) (p : Pointer) (qs : List Pointer) (b : Bool) → is_numbered number p ≡ b
    → cond (not (is_numbered number (met (cond b (Some x) None) p))) (met (cond b (Some x) None) p ∷ qs) qs ≡ cond (not b) (p ∷ qs) qs
gone_one number x p qs true e = ap (λ b. cond (not b) (with_moment p x ∷ qs) qs) e
gone_one number x p qs false e = ap (λ b. cond (not b) (p ∷ qs) qs) e

pub without-after : (number : ℕ) (x : Moment) (ps : List Pointer) → without number (after (one_gets number x) ps) ≡ without number ps
without-after number x [] = refl
without-after number x (p ∷ ps) =
    ap (λ qs. cond (not (is_numbered number (met (one_gets number x p) p))) (met (one_gets number x p) p ∷ qs) qs) (without-after number x ps)
    ∙ gone_one number x p (without number ps) (is_numbered number p) refl

-- a pointer that has just gone down
pub put-stand : (s r : Scale) (hs gs : List HeldPointer) (ps : List Pointer) (h g : HeldPointer) (p : Pointer) (x : Moment) → r ≡ s → StepsTo r x h g → Stands s h p
    → gs ≡ hs ++ g ∷ [] → AllStand s hs ps → AllStand s gs (ps ++ with_moment p x ∷ [])
put-stand s r hs gs ps h g p x e st sd eg a =
    let P : Scale → Type 0 = λ t. StepsTo t x h g in
    let Q : List HeldPointer → Type 0 = λ l. AllStand s l (ps ++ with_moment p x ∷ []) in
    subst Q (sym eg) (more-stand s hs ps g (with_moment p x) a (stands_more s x h g p (subst P e st) sd))

pub put-events : (s r : Scale) (h g : HeldPointer) (p : Pointer) (x : Moment) (a b : Option ArenaEvent) (es fs gs : List ArenaEvent) → r ≡ s → StepsTo r x h g → Stands s h p
    → a ≡ decided_in h.number h.members.items h.arena g.arena → b ≡ effect_in (is_open h.arena) g.arena (offset_of h.last) x
    → es ≡ [] → fs ≡ es ++ option_to_list a → gs ≡ fs ++ option_to_list b → gs ≡ events_met s p (Some x)
put-events s r h g p x a b es fs gs e st sd ea eb none ef eg =
    let P : Scale → Type 0 = λ t. StepsTo t x h g in
    events_some s x h g p (Some x) a b es fs gs refl (subst P e st) sd ea eb ef eg ∙ ap (λ l. l ++ events_met s p (Some x)) none

-- the same of a stored pointer and a member that were read
pub member_read : (hs : List HeldPointer) (i left index : ℕ) (h : HeldPointer) (t : Tracked) → i < length hs → h ≡ get_or hs i h → left < length h.members.items
    → t ≡ get_or h.members.items left t → slice_get (held_members hs) index ≡ slice_get (held_members (drop i hs)) left
    → Some (member_in t) ≡ slice_get (held_members hs) index
member_read hs i left index h t l e r te inv =
    let P : HeldPointer → Type 0 = λ k. left < length k.members.items in
    let f : Tracked → Option Member = λ u. Some (member_in u) in
    let g : HeldPointer → Tracked = λ k. get_or k.members.items left t in
    ap f (te ∙ ap g e) ∙ member_found hs i left index h t l (subst P e r) inv

pub member_passed : (hs : List HeldPointer) (i left index count : ℕ) (h : HeldPointer) → i < length hs → h ≡ get_or hs i h → count ≡ length h.members.items → count ≤ left
    → slice_get (held_members hs) index ≡ slice_get (held_members (drop i hs)) left
    → slice_get (held_members hs) index ≡ slice_get (held_members (drop (i + 1) hs)) (left - count)
member_passed hs i left index count h l e n r inv =
    let P : HeldPointer → Type 0 = λ k. length k.members.items ≤ left in
    let le : length h.members.items ≤ left = omega arith in
    let g : HeldPointer → ℕ = λ k. left - length k.members.items in
    member_further hs i left index h l (subst P e le) inv
    ∙ ap (slice_get (held_members (drop (i + 1) hs))) (sym (ap (λ m. left - m) n ∙ ap g e))
