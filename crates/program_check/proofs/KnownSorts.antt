-- A typed template is a box or a sliver, where the components that it can use are.
use Rattle.std.proofs.Common.{◌≡◌, ℕ, zero, suc, length, List, [], ◌∷◌, false, Some, ap, subst, refl, sym, ◌∙◌}
use Rattle.std.specs.Prelude.{slice_get}
use Rattle.program_form.specs.declared.kinds.KindName.{KindName}
use Rattle.program_form.specs.declared.kinds.KindName.TheVariants as kind
use Rattle.program_form.specs.declared.kinds.ChildSort.TheVariants as stands
use Rattle.expr_check.specs.Names.{types_in}
use Rattle.program_check.specs.declared.places.Amount.TheVariants.{One, AtMostOne}
use Rattle.program_check.specs.declared.places.Position.{Position}
use Rattle.program_check.specs.Body.{PlainBody, body, BodyMembers, no_members, left_out, member, PlainBodyPart, name, child, part_at}
use Rattle.program_check.specs.Shape.{Shape, a_widget, a_value, a_component, a_content, a_choice, a_loop, shape_of}
use Rattle.program_check.specs.Place.{Signature}
use Rattle.program_check.specs.Judged.{position}
use Rattle.program_check.specs.TypedBody.{Surroundings, inside, sort_at, component_sort, sort_of_shape, sort_of_body, sorts_of_members, sort_of_part, IsBoxOrSliver, the_place, a_child, the_props, the_slots, WantedMember, must, AreWantedBy, IsTypedBody, AreTypedMembers, IsTypedPart, IsTypedMember}

-- ---- the member at a place of typed members is what is wanted there

some_is : {A : Type 0} (x y : A) → Some x ≡ Some y → x ≡ y
some_is x y e = cc

pub member-wanted : (S : Surroundings) (ws : List WantedMember) (ms : BodyMembers) (i : ℕ) (w : WantedMember) → AreTypedMembers S ws ms → slice_get ws i ≡ Some w
    → IsTypedMember S w (part_at ms i)
member-wanted S [] ms i w typed e = cc
member-wanted S (u ∷ ws) no_members i w typed e = absurd typed
member-wanted S (u ∷ ws) (left_out ms) zero w typed e = subst (λ (w : WantedMember). w.required ≡ false) (some_is u w e) typed.0
member-wanted S (u ∷ ws) (member p ms) zero w typed e = subst (λ (w : WantedMember). IsTypedPart S w.part p) (some_is u w e) typed.0
member-wanted S (u ∷ ws) (left_out ms) (suc i) w typed e = member-wanted S ws ms i w typed.1 e
member-wanted S (u ∷ ws) (member p ms) (suc i) w typed e = member-wanted S ws ms i w typed.1 e

-- ---- sorts

abbrev pub AreKnown : List Signature → Type 0
AreKnown cs = (i : ℕ) (c : Signature) → slice_get cs i ≡ Some c → IsBoxOrSliver c.sort

-- the sort of a kind that makes a widget of its own
abbrev IsKnownShape : Shape → Type 0
IsKnownShape (a_widget sort) = IsBoxOrSliver sort
IsKnownShape shape = Unit {0}

shape_of-known : (k : KindName) → IsKnownShape (shape_of k)
shape_of-known kind.SizedBox = tt
shape_of-known k = tt

-- the sorts of children are known, wherever one is wanted
abbrev ChildrenKnown : Surroundings → BodyMembers → Type 0
ChildrenKnown S ms =
    (ws : List WantedMember) (i : ℕ) (p : Position) (there : Surroundings) → there.components ≡ S.components → AreTypedMembers S ws ms
    → slice_get ws i ≡ Some (must (a_child p there)) → IsBoxOrSliver (sort_at (sorts_of_members S.components ms) i)

-- the component of a place
place-part : (S : Surroundings) (i : ℕ) (q : PlainBodyPart) → IsTypedPart S (the_place i) q → sort_of_part S.components q ≡ component_sort (slice_get S.components i)
place-part S i (name j) typed = ap (λ j. component_sort (slice_get S.components j)) typed
place-part S i q typed = absurd typed

place-sort : (S : Surroundings) (i : ℕ) (ws : List WantedMember) (ms : BodyMembers) → AreTypedMembers S (must (the_place i) ∷ ws) ms
    → sort_at (sorts_of_members S.components ms) 0 ≡ component_sort (slice_get S.components i)
place-sort S i ws no_members typed = absurd typed
place-sort S i ws (left_out ms) typed = cc typed.0
place-sort S i ws (member q ms) typed = place-part S i q typed.0

shape-known : (S : Surroundings) (shape : Shape) (k : KindName) (ms : BodyMembers) (ws : List WantedMember) → IsKnownShape shape → AreKnown S.components → ChildrenKnown S ms
    → AreWantedBy S shape k ms ws → AreTypedMembers S ws ms → IsBoxOrSliver (sort_of_shape shape (sorts_of_members S.components ms))
shape-known S (a_widget sort) k ms ws shape known below wanted typed = shape
shape-known S a_content k ms ws shape known below wanted typed = tt
shape-known S a_value k ms ws shape known below wanted typed =
    below ws 2 (position One stands.Any) S refl typed (ap (λ ws. slice_get ws 2) wanted.3)
shape-known S a_component k ms ws shape known below wanted typed =
    let c : Signature = wanted.1 in
    let rest : List WantedMember = must (the_props (types_in c.props)) ∷ must (the_slots (length c.slots)) ∷ [] in
    let here : AreTypedMembers S (must (the_place wanted.0) ∷ rest) ms = subst (λ ws. AreTypedMembers S ws ms) wanted.3 typed in
    let found : sort_at (sorts_of_members S.components ms) 0 ≡ c.sort = place-sort S wanted.0 rest ms here ∙ ap component_sort wanted.2 in
    subst IsBoxOrSliver (sym found) (known wanted.0 c wanted.2)
shape-known S a_choice k ms ws shape known below wanted typed =
    below ws 1 (position AtMostOne stands.Any) S refl typed (ap (λ ws. slice_get ws 1) wanted)
shape-known S a_loop k ms ws shape known below wanted typed =
    below ws 2 (position One stands.Any) (inside wanted.1 S) refl typed (ap (λ ws. slice_get ws 2) wanted.3)

mutual
  pub body-known : (b : PlainBody) (S : Surroundings) → AreKnown S.components → IsTypedBody S b → IsBoxOrSliver (sort_of_body S.components b)
  body-known (body k key ms) S known typed =
      shape-known S (shape_of k) k ms typed.1.0 (shape_of-known k) known (members-known ms S known) typed.1.1 typed.1.2

  members-known : (ms : BodyMembers) (S : Surroundings) → AreKnown S.components → ChildrenKnown S ms
  members-known no_members S known [] i p there e typed w = cc w
  members-known no_members S known (u ∷ ws) i p there e typed w = absurd typed
  members-known (left_out ms) S known [] i p there e typed w = absurd typed
  members-known (left_out ms) S known (u ∷ ws) zero p there e typed w =
      cc (subst (λ (u : WantedMember). u.required ≡ false) (some_is u (must (a_child p there)) w) typed.0)
  members-known (left_out ms) S known (u ∷ ws) (suc i) p there e typed w = members-known ms S known ws i p there e typed.1 w
  members-known (member q ms) S known [] i p there e typed w = absurd typed
  members-known (member q ms) S known (u ∷ ws) zero p there e typed w =
      part-known q S known p there e (subst (λ (u : WantedMember). IsTypedPart S u.part q) (some_is u (must (a_child p there)) w) typed.0)
  members-known (member q ms) S known (u ∷ ws) (suc i) p there e typed w = members-known ms S known ws i p there e typed.1 w

  part-known : (q : PlainBodyPart) (S : Surroundings) → AreKnown S.components → (p : Position) (there : Surroundings) → there.components ≡ S.components
      → IsTypedPart S (a_child p there) q → IsBoxOrSliver (sort_of_part S.components q)
  part-known (child b) S known p there e typed =
      subst (λ cs. IsBoxOrSliver (sort_of_body cs b)) e (body-known b there (subst AreKnown (sym e) known) typed.1)
  part-known q S known p there e typed = absurd typed
