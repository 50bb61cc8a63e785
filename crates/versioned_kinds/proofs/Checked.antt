-- What the check of a template gives has its kinds.
use Rattle.std.proofs.Common.{◌≡◌, ℕ, zero, suc, map, length, not, is_none, Option, Some, None, IfSome, Ok, IfOk, List, [], ◌∷◌, ◌++◌, ◌==◌, Bool, true, false, cond}
use Rattle.std.specs.List.{All, range_with_len}
use Rattle.std.specs.Prelude.{⊤}
use Rattle.std.proofs.lemmas.List.Elements.{All-nil, All-head, All-tail, All-push}
use Rattle.fx_expr.specs.declared.values.Ty.TheVariants as ty
use Rattle.fx_expr.specs.Exp.{Exp}
use Rattle.program_form.specs.declared.kinds.KindName.{KindName}
use Rattle.program_form.specs.declared.kinds.KindName.TheVariants as kind
use Rattle.program_form.specs.declared.kinds.KindMember.{KindMember}
use Rattle.program_form.specs.declared.kinds.MemberForm.{MemberForm}
use Rattle.program_form.specs.declared.kinds.MemberForm.TheVariants as member_is
use Rattle.program_form.specs.declared.kinds.ChildSort.{ChildSort}
use Rattle.program_form.specs.declared.kinds.ChildSort.TheVariants as stands
use Rattle.program_form.specs.Key.{PlainKey}
use Rattle.program_form.specs.Kinds.{members_of}
use Rattle.program_form.specs.Program.{PlainComponent, PlainProgram}
use Rattle.program_form.specs.Template as template
use Rattle.program_form.specs.Template.{PlainTemplate, PlainMembers, PlainPart, PlainTemplates, PlainSlots}
use Rattle.expr_check.specs.declared.fault.CheckCode.TheVariants.{MissingName, WrongType, WrongSort, Uncertain, OtherDeclared}
use Rattle.expr_check.specs.declared.wants.Want.TheVariants as want
use Rattle.expr_check.specs.Check.{Check, in_order}
use Rattle.expr_check.specs.Names.{NamedTypes, PlainNames, place_of}
use Rattle.expr_check.specs.Exprs.{TypedExp, or_missing}
use Rattle.expr_check.specs.Handlers.{typed_as, checked_handler}
use Rattle.program_check.specs.declared.places.Amount.TheVariants.{One, AtMostOne, Any}
use Rattle.program_check.specs.declared.places.Position.{Position}
use Rattle.program_check.specs.Body.{PlainBody, PlainBodyPart, expression, word, name, handler, child, children, props, slots, members_in, bodies_in, body_from}
use Rattle.program_check.specs.Checked.{PlainVariables, PlainCheckedComponent, PlainChecked, checked_component_with, checked_with, signature_of}
use Rattle.program_check.specs.Judged.{Judged, JudgedPart, of_form, of_word, of_name, of_handler, of_child, of_children, of_props, of_slots, JudgedParts, part_at, child_of, form_in, name_in, child_in, props_in, slots_in, optional_key, allowed, position, child_at, children_at, want_of, is_of, amount_of, leaf_part, checked_part, checked_member, first, after, member_checks, named_members, around_child, checked_inherit, checked_slot, checked_else, chosen_members, checked_if, place_inside, loop_list, checked_each, given_at, arranged, slot_place, slots_placed, checked_props, checked_slot_content, checked_slots, used_members, checked_use, checked_keyed, checked_template, judged, judged_members, judged_part, judged_templates, judged_slots}
use Rattle.program_check.specs.Place.{Signature, PlainPlace, expected, or_wrong, index_of, used_component, sorts_agree}
use Rattle.program_check.specs.ProgramCheck.{CheckedAt, made_at, then_placed, given_placed, declared_variables, no_variables, nothing_seen, seen_in_body, place_with, new_declarations, component_from, checked_component, component_names, checked_components, checked_root, checked_program, checked_widget}
use Rattle.versioned_kinds.specs.Templates.{KindsMeet, MembersMeet, PartMeets, TemplatesMeet, SlotsMeet, BodyKindsMeet, BodyMembersMeet, BodyPartMeets, BodiesMeet}
use Rattle.versioned_kinds.specs.Versions.{IsOfVersion, TemplateKeepsTo, BodyKeepsTo, IsOfItsVersion, KeepsToVersion}
use Rattle.versioned_kinds.proofs.Steps.{anything, of_ok, one_or_other, after_check, check_gives, at_component, after_placed, placed_gives}

module _ (P : KindName → Type 0) where
  -- ---- what is judged: its check gives kinds that meet P, wherever it stands

  abbrev pub Keeps : Judged → Type 0
  Keeps j = (place : PlainPlace) → IfOk (j.check place) (BodyKindsMeet P)

  abbrev KeepEach : List Judged → Type 0
  KeepEach [] = Unit {0}
  KeepEach (j ∷ js) = Keeps j × KeepEach js

  abbrev KeepSlots : List (List ℕ × Judged) → Type 0
  KeepSlots [] = Unit {0}
  KeepSlots (s ∷ ss) = Keeps s.1 × KeepSlots ss

  abbrev PartKeeps : JudgedPart → Type 0
  PartKeeps (of_form f) = Unit {0}
  PartKeeps (of_word w) = Unit {0}
  PartKeeps (of_name n) = Unit {0}
  PartKeeps (of_handler sets) = Unit {0}
  PartKeeps (of_child j) = Keeps j
  PartKeeps (of_children js) = KeepEach js
  PartKeeps (of_props ps) = Unit {0}
  PartKeeps (of_slots ss) = KeepSlots ss

  abbrev PartsKeep : JudgedParts → Type 0
  PartsKeep [] = Unit {0}
  PartsKeep (p ∷ ps) = IfSome p PartKeeps × PartsKeep ps

  -- the members that a check gives
  abbrev Row : List (Option PlainBodyPart) → Type 0
  Row rs = BodyMembersMeet P (members_in rs)

  row_more : (o : Option PlainBodyPart) (rs : List (Option PlainBodyPart)) → IfSome o (BodyPartMeets P) → Row rs → Row (o ∷ rs)
  row_more None rs h k = k
  row_more (Some p) rs h k = (h, k)

  -- ---- children

  child_keeps : (p : Position) (place : PlainPlace) (j : Judged) → Keeps j → IfOk (child_at p place j) (BodyKindsMeet P)
  child_keeps p place j h =
      after_check (expected (allowed p.amount j) Uncertain) _ (λ x. Unit {0}) (BodyKindsMeet P) (anything (expected (allowed p.amount j) Uncertain)) (λ x u.
      after_check (expected (sorts_agree p.sort (j.sort place.earlier)) WrongSort) _ (λ x. Unit {0}) (BodyKindsMeet P)
      (anything (expected (sorts_agree p.sort (j.sort place.earlier)) WrongSort)) (λ y v. h place))

  abbrev Bodies : List PlainBody → Type 0
  Bodies bs = BodiesMeet P (bodies_in bs)

  children_keep : (p : Position) (place : PlainPlace) (js : List Judged) → KeepEach js → IfOk (children_at p place js) Bodies
  children_keep p place [] h = tt
  children_keep p place (j ∷ js) h =
      after_check (child_at p place j) _ (BodyKindsMeet P) Bodies (child_keeps p place j h.0) (λ b k.
      check_gives (λ bs. b ∷ bs) (children_at p place js) Bodies Bodies (children_keep p place js h.1) (λ bs l. (k, l)))

  -- a member of those that are judged
  part_keeps : (ps : JudgedParts) (i : ℕ) → PartsKeep ps → IfSome (part_at ps i) PartKeeps
  part_keeps [] i h = tt
  part_keeps (p ∷ ps) zero h = h.0
  part_keeps (p ∷ ps) (suc i) h = part_keeps ps i h.1

  as_child : (o : Option JudgedPart) → IfSome o PartKeeps → IfOk (or_wrong WrongType (child_of o)) Keeps
  as_child (Some (of_child j)) h = h
  as_child o h = tt

  child_in_keeps : (ps : JudgedParts) (i : ℕ) → PartsKeep ps → IfOk (child_in ps i) Keeps
  child_in_keeps ps i h = as_child (part_at ps i) (part_keeps ps i h)

  as_slots : (o : Option JudgedPart) → IfSome o PartKeeps → IfOk (slots_in o) KeepSlots
  as_slots (Some (of_slots ss)) h = h
  as_slots None h = tt
  as_slots o h = tt

  -- ---- the members of most kinds

  leaf_keeps : (names : PlainNames) (form : MemberForm) (p : JudgedPart) → IfOk (leaf_part names form p) (BodyPartMeets P)
  leaf_keeps names (member_is.Expression meaning) (of_form f) =
      check_gives (λ (e : TypedExp). expression e.exp) (typed_as names (want_of meaning) f) (λ x. Unit {0}) (BodyPartMeets P) (anything (typed_as names (want_of meaning) f)) (λ e u. tt)
  leaf_keeps names (member_is.Word list) (of_word w) =
      check_gives (λ (x : ⊤). word w) (expected (is_of list w) WrongType) (λ x. Unit {0}) (BodyPartMeets P) (anything (expected (is_of list w) WrongType)) (λ e u. tt)
  leaf_keeps names member_is.Handler (of_handler sets) =
      check_gives handler (checked_handler names sets) (λ x. Unit {0}) (BodyPartMeets P) (anything (checked_handler names sets)) (λ e u. tt)
  leaf_keeps names form p = tt

  checked_part_keeps : (place : PlainPlace) (required : Bool) (form : MemberForm) (p : JudgedPart) → PartKeeps p → IfOk (checked_part place required form p) (BodyPartMeets P)
  checked_part_keeps place required (member_is.Child wanted) (of_child j) h =
      check_gives child (child_at (position (amount_of required) wanted) place j) (BodyKindsMeet P) (BodyPartMeets P) (child_keeps (position (amount_of required) wanted) place j h) (λ b k. k)
  checked_part_keeps place required (member_is.Child wanted) p h = tt
  checked_part_keeps place required (member_is.Children wanted) (of_children js) h =
      check_gives (λ (bs : List PlainBody). children (bodies_in bs)) (children_at (position Any wanted) place js) Bodies (BodyPartMeets P) (children_keep (position Any wanted) place js h) (λ bs k. k)
  checked_part_keeps place required (member_is.Children wanted) p h = tt
  checked_part_keeps place required form p h = leaf_keeps place.names form p

  member_keeps : (place : PlainPlace) (m : KindMember) (o : Option JudgedPart) → IfSome o PartKeeps → IfOk (checked_member place m o) (λ r. IfSome r (BodyPartMeets P))
  member_keeps place m None h =
      check_gives (λ (x : ⊤). None) (expected (not m.required) WrongType) (λ x. Unit {0}) (λ r. IfSome r (BodyPartMeets P)) (anything (expected (not m.required) WrongType)) (λ x u. tt)
  member_keeps place m (Some p) h =
      check_gives Some (checked_part place m.required m.form p) (BodyPartMeets P) (λ r. IfSome r (BodyPartMeets P)) (checked_part_keeps place m.required m.form p h) (λ x k. k)

  first_keeps : (ps : JudgedParts) → PartsKeep ps → IfSome (first ps) PartKeeps
  first_keeps [] h = tt
  first_keeps (p ∷ ps) h = h.0

  after_keep : (ps : JudgedParts) → PartsKeep ps → PartsKeep (after ps)
  after_keep [] h = tt
  after_keep (p ∷ ps) h = h.1

  members_keep : (place : PlainPlace) (ms : List KindMember) (ps : JudgedParts) → PartsKeep ps → IfOk (in_order (member_checks place ms ps)) Row
  members_keep place [] ps h = tt
  members_keep place (m ∷ ms) ps h =
      after_check (checked_member place m (first ps)) _ (λ r. IfSome r (BodyPartMeets P)) Row (member_keeps place m (first ps) (first_keeps ps h)) (λ o k.
      check_gives (λ rs. o ∷ rs) (in_order (member_checks place ms (after ps))) Row Row (members_keep place ms (after ps) (after_keep ps h)) (λ rs l. row_more o rs k l))

  -- ---- `Inherit`, `slot`, `if`, `each`

  around_keeps : (i : ℕ) (e : Exp) (place : PlainPlace) (inner : Check Judged) → IfOk inner Keeps → IfOk (around_child i e place inner) Row
  around_keeps i e place inner h =
      after_check inner _ Keeps Row h (λ j k.
      check_gives (named_members i e) (child_at (position One stands.Any) place j) (BodyKindsMeet P) Row (child_keeps (position One stands.Any) place j k) (λ b l. (tt, (tt, (l, tt)))))

  inherit_keeps : (place : PlainPlace) (ps : JudgedParts) → PartsKeep ps → IfOk (checked_inherit place ps) Row
  inherit_keeps place ps h =
      after_check (name_in ps 0) _ (λ x. Unit {0}) Row (anything (name_in ps 0)) (λ n u.
      after_check (or_missing (place_of place.provided n)) _ (λ x. Unit {0}) Row (anything (or_missing (place_of place.provided n))) (λ p v.
      after_check (form_in ps 1) _ (λ x. Unit {0}) Row (anything (form_in ps 1)) (λ f w.
      after_check (typed_as place.names (want.Exactly p.1) f) _ (λ x. Unit {0}) Row (anything (typed_as place.names (want.Exactly p.1) f)) (λ e x.
      around_keeps p.0 e.exp place (child_in ps 2) (child_in_keeps ps 2 h)))))

  slot_keeps : (place : PlainPlace) (ps : JudgedParts) → IfOk (checked_slot place ps) Row
  slot_keeps place ps =
      after_check (name_in ps 0) _ (λ x. Unit {0}) Row (anything (name_in ps 0)) (λ n u.
      check_gives (λ (i : ℕ). Some (name i) ∷ []) (or_wrong MissingName (index_of place.slots n)) (λ x. Unit {0}) Row (anything (or_wrong MissingName (index_of place.slots n))) (λ i v. (tt, tt)))

  else_keeps : (wanted : ChildSort) (place : PlainPlace) (ps : JudgedParts) → PartsKeep ps → IfOk (checked_else wanted place ps) (λ r. IfSome r (BodyPartMeets P))
  else_keeps wanted place ps h =
      one_or_other (is_none (part_at ps 2)) (Ok None) _ (λ r. IfSome r (BodyPartMeets P)) tt
      (after_check (child_in ps 2) _ Keeps (λ r. IfSome r (BodyPartMeets P)) (child_in_keeps ps 2 h) (λ j k.
      check_gives (λ (b : PlainBody). Some (child b)) (child_at (position AtMostOne wanted) place j) (BodyKindsMeet P) (λ r. IfSome r (BodyPartMeets P))
      (child_keeps (position AtMostOne wanted) place j k) (λ b l. l)))

  if_keeps : (place : PlainPlace) (ps : JudgedParts) → PartsKeep ps → IfOk (checked_if place ps) Row
  if_keeps place ps h =
      after_check (form_in ps 0) _ (λ x. Unit {0}) Row (anything (form_in ps 0)) (λ f u.
      after_check (typed_as place.names (want.Exactly ty.Bool) f) _ (λ x. Unit {0}) Row (anything (typed_as place.names (want.Exactly ty.Bool) f)) (λ e v.
      after_check (child_in ps 1) _ Keeps Row (child_in_keeps ps 1 h) (λ j k.
      after_check (child_at (position AtMostOne stands.Any) place j) _ (BodyKindsMeet P) Row (child_keeps (position AtMostOne stands.Any) place j k) (λ b l.
      check_gives (chosen_members e.exp b) (checked_else (j.sort place.earlier) place ps) (λ r. IfSome r (BodyPartMeets P)) Row (else_keeps (j.sort place.earlier) place ps h)
      (λ o m. (tt, (l, row_more o [] m tt)))))))

  each_keeps : (place : PlainPlace) (ps : JudgedParts) → PartsKeep ps → IfOk (checked_each place ps) Row
  each_keeps place ps h =
      after_check (loop_list place ps) _ (λ x. Unit {0}) Row (anything (loop_list place ps)) (λ l u.
      around_keeps (length place.names.vars) l.1 (place_inside l.0 place) (child_in ps 2) (child_in_keeps ps 2 h))

  -- ---- `use`

  abbrev Contents : List (ℕ × PlainBody) → Type 0
  Contents [] = Unit {0}
  Contents (g ∷ gs) = BodyKindsMeet P g.1 × Contents gs

  content_keeps : (place : PlainPlace) (declared : List (List ℕ)) (g : List ℕ × Judged) → Keeps g.1 → IfOk (checked_slot_content place declared g) (λ r. BodyKindsMeet P r.1)
  content_keeps place declared g h =
      after_check (slot_place declared g) _ (λ x. Unit {0}) (λ r. BodyKindsMeet P r.1) (anything (slot_place declared g)) (λ i u.
      check_gives (λ (b : PlainBody). (i, b)) (child_at (position One stands.Box) place g.1) (BodyKindsMeet P) (λ r. BodyKindsMeet P r.1) (child_keeps (position One stands.Box) place g.1 h) (λ b k. k))

  contents_keep : (place : PlainPlace) (declared : List (List ℕ)) (gs : List (List ℕ × Judged)) → KeepSlots gs → IfOk (in_order (map (checked_slot_content place declared) gs)) Contents
  contents_keep place declared [] h = tt
  contents_keep place declared (g ∷ gs) h =
      after_check (checked_slot_content place declared g) _ (λ r. BodyKindsMeet P r.1) Contents (content_keeps place declared g h.0) (λ r k.
      check_gives (λ rs. r ∷ rs) (in_order (map (checked_slot_content place declared) gs)) Contents Contents (contents_keep place declared gs h.1) (λ rs l. (k, l)))

  given_or : (b : Bool) (c : PlainBody) (o : Option PlainBody) → BodyKindsMeet P c → IfSome o (BodyKindsMeet P) → IfSome (cond b (Some c) o) (BodyKindsMeet P)
  given_or true c o h k = h
  given_or false c o h k = k

  given_keeps : (gs : List (ℕ × PlainBody)) (place : ℕ) → Contents gs → IfSome (given_at gs place) (BodyKindsMeet P)
  given_keeps [] place h = tt
  given_keeps (g ∷ gs) place h = given_or (g.0 == place) g.1 (given_at gs place) h.0 (given_keeps gs place h.1)

  wrong_or : (o : Option PlainBody) → IfSome o (BodyKindsMeet P) → IfOk (or_wrong OtherDeclared o) (BodyKindsMeet P)
  wrong_or None h = tt
  wrong_or (Some b) h = h

  arranged_keep : (gs : List (ℕ × PlainBody)) (places : List ℕ) → Contents gs → IfOk (in_order (map (λ place. or_wrong OtherDeclared (given_at gs place)) places)) Bodies
  arranged_keep gs [] h = tt
  arranged_keep gs (place ∷ places) h =
      after_check (or_wrong OtherDeclared (given_at gs place)) _ (BodyKindsMeet P) Bodies (wrong_or (given_at gs place) (given_keeps gs place h)) (λ b k.
      check_gives (λ bs. b ∷ bs) (in_order (map (λ place. or_wrong OtherDeclared (given_at gs place)) places)) Bodies Bodies (arranged_keep gs places h) (λ bs l. (k, l)))

  slots_keep : (place : PlainPlace) (declared : List (List ℕ)) (gs : List (List ℕ × Judged)) → KeepSlots gs → IfOk (checked_slots place declared gs) Bodies
  slots_keep place declared gs h =
      after_check (slots_placed declared gs) _ (λ x. Unit {0}) Bodies (anything (slots_placed declared gs)) (λ x u.
      after_check (in_order (map (checked_slot_content place declared) gs)) (arranged (length declared)) Contents Bodies (contents_keep place declared gs h)
      (λ rs k. arranged_keep rs (range_with_len 0 (length declared)) k))

  use_keeps : (place : PlainPlace) (c : ℕ × Signature) (ps : JudgedParts) → PartsKeep ps → IfOk (checked_use place c ps) Row
  use_keeps place c ps h =
      after_check (props_in (part_at ps 1)) _ (λ x. Unit {0}) Row (anything (props_in (part_at ps 1))) (λ qs u.
      after_check (checked_props place.names c.1.props qs) _ (λ x. Unit {0}) Row (anything (checked_props place.names c.1.props qs)) (λ es v.
      after_check (slots_in (part_at ps 2)) _ KeepSlots Row (as_slots (part_at ps 2) (part_keeps ps 2 h)) (λ gs k.
      check_gives (used_members c.0 es) (checked_slots place c.1.slots gs) Bodies Row (slots_keep place c.1.slots gs k) (λ bs l. (tt, (tt, (l, tt)))))))

  -- ---- a template

  keyed_keeps : (k : KindName) (key : Option PlainKey) (place : PlainPlace) (members : ⊤ → Check (List (Option PlainBodyPart))) → P k → IfOk (members tt) Row
      → IfOk (checked_keyed k key place members) (BodyKindsMeet P)
  keyed_keeps k key place members h m =
      after_check (optional_key place.names key) _ (λ x. Unit {0}) (BodyKindsMeet P) (anything (optional_key place.names key)) (λ found u.
      check_gives (body_from k found) (members tt) Row (BodyKindsMeet P) m (λ rs l. (h, l)))

  template_keeps : (k : KindName) (key : Option PlainKey) (ps : JudgedParts) (place : PlainPlace) → P k → PartsKeep ps → IfOk (checked_template k key ps place) (BodyKindsMeet P)
  template_keeps kind.Inherit key ps place h m = keyed_keeps kind.Inherit key place (λ x. checked_inherit place ps) h (inherit_keeps place ps m)
  template_keeps kind.Slot key ps place h m = keyed_keeps kind.Slot key place (λ x. checked_slot place ps) h (slot_keeps place ps)
  template_keeps kind.If key ps place h m = keyed_keeps kind.If key place (λ x. checked_if place ps) h (if_keeps place ps m)
  template_keeps kind.Each key ps place h m = keyed_keeps kind.Each key place (λ x. checked_each place ps) h (each_keeps place ps m)
  template_keeps kind.Use key ps place h m =
      after_check (name_in ps 0) _ (λ x. Unit {0}) (BodyKindsMeet P) (anything (name_in ps 0)) (λ n u.
      after_check (used_component place n) _ (λ x. Unit {0}) (BodyKindsMeet P) (anything (used_component place n)) (λ c v.
      keyed_keeps kind.Use key place (λ x. checked_use place c ps) h (use_keeps place c ps m)))
  template_keeps k key ps place h m = keyed_keeps k key place (λ x. in_order (member_checks place (members_of k) ps)) h (members_keep place (members_of k) ps m)

  mutual
    unfolding judged

    pub judged_keeps : (t : PlainTemplate) → KindsMeet P t → Keeps (judged t)
    judged_keeps (template.template k key ms) h = λ place. template_keeps k key (judged_members ms) place h.0 (judged_members_keep ms h.1)

    judged_members_keep : (ms : PlainMembers) → MembersMeet P ms → PartsKeep (judged_members ms)
    judged_members_keep template.no_members h = tt
    judged_members_keep (template.left_out ms) h = (tt, judged_members_keep ms h)
    judged_members_keep (template.member p ms) h = (judged_part_keeps p h.0, judged_members_keep ms h.1)

    judged_part_keeps : (p : PlainPart) → PartMeets P p → PartKeeps (judged_part p)
    judged_part_keeps (template.expression f) h = tt
    judged_part_keeps (template.word w) h = tt
    judged_part_keeps (template.name n) h = tt
    judged_part_keeps (template.handler sets) h = tt
    judged_part_keeps (template.child t) h = judged_keeps t h
    judged_part_keeps (template.children ts) h = judged_templates_keep ts h
    judged_part_keeps (template.props ps) h = tt
    judged_part_keeps (template.slots ss) h = judged_slots_keep ss h

    judged_templates_keep : (ts : PlainTemplates) → TemplatesMeet P ts → KeepEach (judged_templates ts)
    judged_templates_keep template.no_templates h = tt
    judged_templates_keep (template.one_template t ts) h = (judged_keeps t h.0, judged_templates_keep ts h.1)

    judged_slots_keep : (ss : PlainSlots) → SlotsMeet P ss → KeepSlots (judged_slots ss)
    judged_slots_keep template.no_slots h = tt
    judged_slots_keep (template.slot n t ss) h = (judged_keeps t h.0, judged_slots_keep ss h.1)

  -- ---- components, and a root

  abbrev BodyMeets : PlainCheckedComponent → Type 0
  BodyMeets c = BodyKindsMeet P c.body

  component_keeps : (inherited : NamedTypes) (earlier : List Signature) (later : List (List ℕ)) (c : PlainComponent) → KindsMeet P c.body → IfOk (checked_component inherited earlier later c) BodyMeets
  component_keeps inherited earlier later c h =
      after_check (new_declarations earlier c) (component_from inherited earlier later c) (λ x. Unit {0}) BodyMeets (anything (new_declarations earlier c)) (λ d u.
      let there : PlainPlace = place_with (seen_in_body d.1.names d.0 inherited) inherited d.2 earlier later in
      check_gives (checked_component_with c.name d.0 d.1 d.2 ((judged c.body).sort earlier)) (child_at (position One stands.Any) there (judged c.body)) (BodyKindsMeet P) BodyMeets
      (child_keeps (position One stands.Any) there (judged c.body) (judged_keeps c.body h)) (λ b k. k))

  components_keep : (inherited : NamedTypes) (before : List PlainCheckedComponent) (cs : List PlainComponent) → All BodyMeets before → All (λ (c : PlainComponent). KindsMeet P c.body) cs
      → IfOk (checked_components inherited before cs) (All BodyMeets)
  components_keep inherited before [] h k = h
  components_keep inherited before (c ∷ cs) h k =
      let Q : PlainComponent → Type 0 = λ c. KindsMeet P c.body in
      let check : Check PlainCheckedComponent = checked_component inherited (map signature_of before) (component_names (c ∷ cs)) c in
      after_placed (made_at (Some (length before)) check) (λ done. checked_components inherited (before ++ done ∷ []) cs) BodyMeets (All BodyMeets)
      (at_component (Some (length before)) check BodyMeets (component_keeps inherited (map signature_of before) (component_names (c ∷ cs)) c (All-head Q c cs k)))
      (λ done m. components_keep inherited (before ++ done ∷ []) cs (All-push BodyMeets before done h m) (All-tail Q c cs k))

  root_keeps : (inherited : NamedTypes) (cs : List PlainCheckedComponent) (t : PlainTemplate) → KindsMeet P t → IfOk (checked_root inherited cs t) (BodyKindsMeet P)
  root_keeps inherited cs t h =
      let there : PlainPlace = place_with nothing_seen inherited [] (map signature_of cs) [] in
      at_component None (child_at (position One stands.Box) there (judged t)) (BodyKindsMeet P) (child_keeps (position One stands.Box) there (judged t) (judged_keeps t h))

pub checked_keeps : (c : PlainChecked) (t : PlainTemplate) (b : PlainBody) → TemplateKeepsTo c.version t → checked_widget c t ≡ Ok b → BodyKeepsTo c.version b
checked_keeps c t b h e =
    let P = IsOfVersion c.version in
    of_ok (checked_widget c t) (BodyKindsMeet P) b (root_keeps P c.inherited.names c.components t h) e

pub program_keeps : (p : PlainProgram) (c : PlainChecked) → IsOfItsVersion p → checked_program p ≡ Ok c → KeepsToVersion c
unfolding checked_program
program_keeps p c h e =
    let P = IsOfVersion p.version in
    let variables : CheckedAt PlainVariables = made_at None (declared_variables nothing_seen no_variables p.inherited) in
    let from_components = λ (inherited : PlainVariables) (components : List PlainCheckedComponent).
    given_placed (checked_with p.version p.view inherited components) (checked_root inherited.names components p.root) in
    let from_inherited = λ (inherited : PlainVariables). then_placed (checked_components inherited.names [] p.components) (from_components inherited) in
    of_ok (then_placed variables from_inherited) KeepsToVersion c
    (after_placed variables from_inherited (λ x. Unit {0}) KeepsToVersion (anything variables) (λ inherited u.
    after_placed (checked_components inherited.names [] p.components) (from_components inherited) (All (BodyMeets P)) KeepsToVersion
    (components_keep P inherited.names [] p.components (All-nil (BodyMeets P)) h.components) (λ components k.
    placed_gives (checked_with p.version p.view inherited components) (checked_root inherited.names components p.root) (BodyKindsMeet P) KeepsToVersion
    (root_keeps P inherited.names components p.root h.root) (λ b l. record { root = l; components = k })))) e
