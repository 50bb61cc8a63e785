-- Which members a typed template has where its kind wants just these.
use Rattle.std.proofs.Common.{◌≡◌, ℕ, List, [], ◌∷◌, Option, Some, None, ap, refl}
use Rattle.fx_expr.specs.declared.values.Ty.{Ty}
use Rattle.fx_expr.specs.Exp.{Exp}
use Rattle.expr_check.specs.declared.wants.Want.{Want}
use Rattle.program_check.specs.declared.places.Position.{Position}
use Rattle.program_check.specs.Body.{PlainBody, BodyMembers, no_members, left_out, member, PlainBodyPart, expression, word, name, handler, child, children, props, slots, PlainBodies}
use Rattle.program_check.specs.TypedBody.{Surroundings, WantedPart, an_expression, the_place, a_child, the_props, the_slots, must, may, FitsIn, IsTypedAs, AreTypedInOrder, IsTypedBody, AreTypedMembers, AreTypedSlots, IsTypedPart}

abbrev pub three_members : PlainBodyPart → PlainBodyPart → PlainBodyPart → BodyMembers
three_members p q r = member p (member q (member r no_members))

pub record AreThree (S : Surroundings) (a b c : WantedPart) (ms : BodyMembers) : Type 0 where
  pub p : PlainBodyPart
  pub q : PlainBodyPart
  pub r : PlainBodyPart
  pub same : ms ≡ three_members p q r
  pub first : IsTypedPart S a p
  pub second : IsTypedPart S b q
  pub third : IsTypedPart S c r

pub three : (S : Surroundings) (a b c : WantedPart) (ms : BodyMembers) → AreTypedMembers S (must a ∷ must b ∷ must c ∷ []) ms → AreThree S a b c ms
three S a b c no_members h = absurd h
three S a b c (left_out ms) h = cc (h.0)
three S a b c (member p no_members) h = absurd h.1
three S a b c (member p (left_out ms)) h = cc (h.1.0)
three S a b c (member p (member q no_members)) h = absurd h.1.1
three S a b c (member p (member q (left_out ms))) h = cc (h.1.1.0)
three S a b c (member p (member q (member r no_members))) h =
    record { p = p; q = q; r = r; same = refl; first = h.0; second = h.1.0; third = h.1.1.0 }
three S a b c (member p (member q (member r (left_out ms)))) h = absurd h.1.1.1
three S a b c (member p (member q (member r (member o ms)))) h = absurd h.1.1.1

-- the last may be left out
abbrev pub two_and : PlainBodyPart → PlainBodyPart → Option PlainBodyPart → BodyMembers
two_and p q None = member p (member q (left_out no_members))
two_and p q (Some r) = member p (member q (member r no_members))

abbrev pub IsTypedOr : Surroundings → WantedPart → Option PlainBodyPart → Type 0
IsTypedOr S c None = Unit {0}
IsTypedOr S c (Some r) = IsTypedPart S c r

pub record AreTwoAnd (S : Surroundings) (a b c : WantedPart) (ms : BodyMembers) : Type 0 where
  pub p : PlainBodyPart
  pub q : PlainBodyPart
  pub r : Option PlainBodyPart
  pub same : ms ≡ two_and p q r
  pub first : IsTypedPart S a p
  pub second : IsTypedPart S b q
  pub third : IsTypedOr S c r

pub two_or_three : (S : Surroundings) (a b c : WantedPart) (ms : BodyMembers) → AreTypedMembers S (must a ∷ must b ∷ may c ∷ []) ms → AreTwoAnd S a b c ms
two_or_three S a b c no_members h = absurd h
two_or_three S a b c (left_out ms) h = cc (h.0)
two_or_three S a b c (member p no_members) h = absurd h.1
two_or_three S a b c (member p (left_out ms)) h = cc (h.1.0)
two_or_three S a b c (member p (member q no_members)) h = absurd h.1.1
two_or_three S a b c (member p (member q (left_out no_members))) h =
    record { p = p; q = q; r = None; same = refl; first = h.0; second = h.1.0; third = tt }
two_or_three S a b c (member p (member q (left_out (left_out ms)))) h = absurd h.1.1.1
two_or_three S a b c (member p (member q (left_out (member o ms)))) h = absurd h.1.1.1
two_or_three S a b c (member p (member q (member r no_members))) h =
    record { p = p; q = q; r = Some r; same = refl; first = h.0; second = h.1.0; third = h.1.1.0 }
two_or_three S a b c (member p (member q (member r (left_out ms)))) h = absurd h.1.1.1
two_or_three S a b c (member p (member q (member r (member o ms)))) h = absurd h.1.1.1

pub one_name : (S : Surroundings) (i : ℕ) (ms : BodyMembers) → AreTypedMembers S (must (the_place i) ∷ []) ms → ms ≡ member (name i) no_members
one_name S i no_members h = absurd h
one_name S i (left_out ms) h = cc (h.0)
one_name S i (member (name j) no_members) h = ap (λ j. member (name j) no_members) h.0
one_name S i (member (name j) (left_out ms)) h = absurd h.1
one_name S i (member (name j) (member p ms)) h = absurd h.1
one_name S i (member (expression e) ms) h = absurd h.0
one_name S i (member (word w) ms) h = absurd h.0
one_name S i (member (handler sets) ms) h = absurd h.0
one_name S i (member (child b) ms) h = absurd h.0
one_name S i (member (children bs) ms) h = absurd h.0
one_name S i (member (props es) ms) h = absurd h.0
one_name S i (member (slots bs) ms) h = absurd h.0

-- ---- what a member is

pub named : (S : Surroundings) (i : ℕ) (p : PlainBodyPart) → IsTypedPart S (the_place i) p → p ≡ name i
named S i (name j) h = ap name h
named S i (expression e) h = absurd h
named S i (word w) h = absurd h
named S i (handler sets) h = absurd h
named S i (child b) h = absurd h
named S i (children bs) h = absurd h
named S i (props es) h = absurd h
named S i (slots bs) h = absurd h

pub expressed : (S : Surroundings) (w : Want) (p : PlainBodyPart) → IsTypedPart S (an_expression w) p → (e : Exp) × (p ≡ expression e) × IsTypedAs S.sight w e
expressed S w (expression e) h = (e, refl, h)
expressed S w (name j) h = absurd h
expressed S w (word v) h = absurd h
expressed S w (handler sets) h = absurd h
expressed S w (child b) h = absurd h
expressed S w (children bs) h = absurd h
expressed S w (props es) h = absurd h
expressed S w (slots bs) h = absurd h

pub record IsChildAt (there : Surroundings) (at : Position) (p : PlainBodyPart) : Type 0 where
  pub b : PlainBody
  pub same : p ≡ child b
  pub fits : FitsIn there.components at b
  pub typed : IsTypedBody there b

pub a_child_is : (S there : Surroundings) (at : Position) (p : PlainBodyPart) → IsTypedPart S (a_child at there) p → IsChildAt there at p
a_child_is S there at (child b) h = record { b = b; same = refl; fits = h.0; typed = h.1 }
a_child_is S there at (expression e) h = absurd h
a_child_is S there at (name j) h = absurd h
a_child_is S there at (word v) h = absurd h
a_child_is S there at (handler sets) h = absurd h
a_child_is S there at (children bs) h = absurd h
a_child_is S there at (props es) h = absurd h
a_child_is S there at (slots bs) h = absurd h

pub propped : (S : Surroundings) (ts : List Ty) (p : PlainBodyPart) → IsTypedPart S (the_props ts) p → (es : List Exp) × (p ≡ props es) × AreTypedInOrder S.sight ts es
propped S ts (props es) h = (es, refl, h)
propped S ts (expression e) h = absurd h
propped S ts (name j) h = absurd h
propped S ts (word v) h = absurd h
propped S ts (handler sets) h = absurd h
propped S ts (child b) h = absurd h
propped S ts (children bs) h = absurd h
propped S ts (slots bs) h = absurd h

pub slotted : (S : Surroundings) (n : ℕ) (p : PlainBodyPart) → IsTypedPart S (the_slots n) p → (bs : PlainBodies) × (p ≡ slots bs) × AreTypedSlots S n bs
slotted S n (slots bs) h = (bs, refl, h)
slotted S n (expression e) h = absurd h
slotted S n (name j) h = absurd h
slotted S n (word v) h = absurd h
slotted S n (handler sets) h = absurd h
slotted S n (child b) h = absurd h
slotted S n (children bs) h = absurd h
slotted S n (props es) h = absurd h
