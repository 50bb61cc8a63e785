-- Members that are checked one after another, each added to those before.
use Rattle.std.proofs.Common.{◌≡◌, ℕ, zero, suc, ◌+◌, ◌<◌, arith, add-one, append_assoc, length, get_or, drop, map, List, [], ◌∷◌, ◌++◌, Bool, true, false, Option, Some, None, is_some, Result, Ok, Err, ap, refl, sym, subst, ◌∙◌}
use Rattle.std.proofs.lemmas.Option.{slice_get_read}
use Rattle.std.specs.Global.{Box}
use Rattle.program_form.specs.declared.templates.Part.{Part}
use Rattle.program_check.specs.JudgedView.{member_of}
use Rattle.std.specs.Prelude.{slice_get, not, ⊤}
use Rattle.fx_expr.specs.Exp.{Exp}
use Rattle.fx_expr.specs.declared.values.Ty.{Ty}
use Rattle.fx_expr.specs.declared.values.Ty.TheVariants as ty
use Rattle.program_form.specs.Key.{PlainKey}
use Rattle.program_form.specs.declared.kinds.ChildSort.{ChildSort}
use Rattle.program_form.specs.declared.kinds.ChildSort.TheVariants as stands
use Rattle.program_form.specs.declared.kinds.KindName.{KindName}
use Rattle.program_form.specs.declared.kinds.KindName.TheVariants as kind
use Rattle.program_form.specs.declared.kinds.KindMember.{KindMember}
use Rattle.program_form.specs.declared.kinds.MemberForm.{MemberForm}
use Rattle.program_form.specs.declared.kinds.MemberForm.TheVariants as member_is
use Rattle.expr_check.specs.declared.fault.CheckCode.{CheckCode}
use Rattle.expr_check.specs.declared.fault.CheckCode.TheVariants.{WrongType}
use Rattle.expr_check.specs.declared.fault.CheckStop.{CheckStop}
use Rattle.expr_check.specs.declared.fault.CheckStop.TheVariants as stop
use Rattle.expr_check.specs.declared.wants.Want.TheVariants as want
use Rattle.expr_check.specs.Check.{Check, and_then, given, in_order, Answers, StopsAs}
use Rattle.expr_check.specs.Names.{NamedTypes, place_of}
use Rattle.expr_check.specs.Exprs.{TypedExp, or_missing}
use Rattle.expr_check.specs.Handlers.{typed_as}
use Rattle.program_check.specs.Body.{KeyExp, PlainBody, PlainBodyPart, expression, name, child, children, props, slots, bodies_in, body_from}
use Rattle.program_check.specs.Place.{Signature, PlainPlace, expected, or_wrong, used_component}
use Rattle.program_check.specs.Judged.{Judged, JudgedPart, of_child, of_children, of_form, of_name, of_word, of_handler, of_props, of_slots, JudgedParts, part_at, child_of, form_of, name_of, props_in, slots_in, sort_of, checked_member, checked_entry, checked_part, child_part, children_part, children_at, child_at, position, named_members, around_child, provided_child, checked_inherit, loop_list, loop_child, place_inside, checked_each, checked_else, chosen_members, branches, checked_if, optional_key, checked_keyed, checked_members, checked_use, filled, checked_props, checked_template, slots_placed, checked_slots, checked_slot_content, arranged}
use Rattle.program_check.specs.Judged as judged
use Rattle.program_check.specs.declared.places.Amount.TheVariants.{One, AtMostOne, Any}
use Rattle.program_check.specs.Steps.{added, added_one, added_part, children_in, value_of, props_part, placed_slots, slots_part, arranged_slots}
use Rattle.program_check.proofs.PartLemmas.{checked_template-other}
use Rattle.program_check.proofs.LoopLemmas.{left, at_entry, last_more}

-- ---- checks that give something

abbrev checks_as : {A : Type 0} → A → Check A
checks_as x = Ok x

ok_is : {A : Type 0} (x y : A) → checks_as x ≡ checks_as y → x ≡ y
ok_is x y e = cc

pub some-member : (p : Option (Box Part)) → is_some (member_of p) ≡ is_some p
some-member None = refl
some-member (Some p) = refl

-- what was given, and of what
pub given-ok : {A B : Type 0} (f : A → B) (check : Check A) (y : B) → given f check ≡ Ok y → (x : A) × (check ≡ Ok x) × (f x ≡ y)
given-ok f (Ok x) y e = (x, refl, ok_is _ _ e)
given-ok f (Err code) y e = cc e

-- what is wrong first is wrong of whatever is checked
abbrev fails_as : {A : Type 0} → CheckCode → Check A
fails_as code = Err code

abbrev code_of : {A : Type 0} → CheckCode → Check A → CheckCode
code_of none (Ok x) = none
code_of none (Err code) = code

moved : {A B : Type 0} (a b : CheckCode) → fails_as {A = A} a ≡ fails_as {A = A} b → fails_as {A = B} a ≡ fails_as {A = B} b
moved a b e = ap fails_as (ap (code_of b) e)

-- what is wrong first stays wrong
pub stops-later : {A B C D : Type 0} (f : A → B) (g : C → D) (check : Check A) (next : A → Check C) (why : CheckStop) → StopsAs why (given f check)
    → StopsAs why (given g (and_then check next))
stops-later f g (Ok x) next (stop.Bad code) e = cc e
stops-later f g (Err other) next (stop.Bad code) e = moved other code e
stops-later f g check next stop.OutOfMemory e = tt

pub then-then : {A B C : Type 0} (check : Check A) (f : A → Check B) (g : B → Check C) → and_then check (λ x. and_then (f x) g) ≡ and_then (and_then check f) g
then-then (Ok x) f g = refl
then-then (Err code) f g = refl

and_then-same : {A B : Type 0} (check : Check A) (f g : A → Check B) → ((x : A) → f x ≡ g x) → and_then check f ≡ and_then check g
and_then-same (Ok x) f g h = h x
and_then-same (Err code) f g h = refl

given-given : {A B C : Type 0} (check : Check A) (f : A → B) (g : B → C) → given (λ x. g (f x)) check ≡ given g (given f check)
given-given (Ok x) f g = refl
given-given (Err code) f g = refl

pub added-none : {A : Type 0} (check : Check (List A)) → added [] check ≡ check
added-none (Ok xs) = refl
added-none (Err code) = refl

-- the same answer, seen further on
pub Answers-given : {X A B : Type 0} (f : A → B) (result : Result X CheckStop) (x : A) (check : Check A) → Answers (λ _. x) result check → Answers (λ _. f x) result (given f check)
Answers-given f (Ok u) x check e = ap (given f) e
Answers-given f (Err (stop.Bad code)) x check e = ap (given f) e
Answers-given f (Err stop.OutOfMemory) x check e = tt

-- ---- the members of a kind, in the table's order

added-first : {A : Type 0} (before later : List A) (one : Check A) (rest : Check (List A)) → added_one before one ≡ Ok later
    → added before (and_then one (λ x. given (λ xs. x ∷ xs) rest)) ≡ added later rest
added-first before later (Ok x) rest e = last_more before x rest ∙ ap (λ ys. added ys rest) (ok_is _ _ e)
added-first before later (Err code) rest e = cc e

entry-member : (place : PlainPlace) (table : List KindMember) (p : Option JudgedPart) (i : ℕ) (m : KindMember) → i < length table → m ≡ get_or table i m
    → checked_entry place (slice_get table i) p ≡ checked_member place m p
entry-member place table p i m h e = ap (λ o. checked_entry place o p) (slice_get_read table (length table) i m refl h e)

-- an item that is there is the same, whatever stands for one that is not
pub there : {A : Type 0} (xs : List A) (i : ℕ) (d e : A) → i < length xs → get_or xs i d ≡ get_or xs i e
there [] i d e h = absurd (omega (arith, h))
there (x ∷ xs) zero d e h = refl
there (x ∷ xs) (suc i) d e h = there xs i d e (omega (arith, h))

pub table-adds : (place : PlainPlace) (whole : Check (List (Option PlainBodyPart))) (before later : List (Option PlainBodyPart)) (table : List KindMember) (ps : JudgedParts)
    (i : ℕ) (m : KindMember) (p : Option JudgedPart) → i < length table → m ≡ get_or table i m → p ≡ part_at ps i
    → whole ≡ added before (left place (drop i table) (drop i ps)) → added_one before (checked_member place m p) ≡ Ok later
    → whole ≡ added later (left place (drop (i + 1) table) (drop (i + 1) ps))
table-adds place whole before later table ps i m p h e is w r =
    let rest : Check (List (Option PlainBodyPart)) = left place (drop (suc i) table) (drop (suc i) ps) in
    w ∙ ap (added before) (at_entry place table ps i h)
    ∙ added-first before later (checked_entry place (slice_get table i) (part_at ps i)) rest
    (ap (added_one before) (entry-member place table (part_at ps i) i m h e ∙ ap (checked_member place m) (sym is)) ∙ r)
    ∙ ap (λ n. added later (left place (drop n table) (drop n ps))) (sym (add-one i))

pub table-ends : (place : PlainPlace) (whole : Check (List (Option PlainBodyPart))) (before : List (Option PlainBodyPart)) (table : List KindMember) (ps : JudgedParts)
    (i : ℕ) (m : KindMember) (p : Option JudgedPart) (why : CheckStop) → i < length table → m ≡ get_or table i m → p ≡ part_at ps i
    → whole ≡ added before (left place (drop i table) (drop i ps)) → StopsAs why (added_one before (checked_member place m p)) → StopsAs why whole
table-ends place whole before table ps i m p why h e is w r =
    subst (StopsAs why) (sym (w ∙ ap (added before) (at_entry place table ps i h)))
    (stops-later (λ x. before ++ x ∷ []) (λ later. before ++ later) (checked_entry place (slice_get table i) (part_at ps i)) _ why
    (subst (λ check. StopsAs why (added_one before check)) (sym (entry-member place table (part_at ps i) i m h e ∙ ap (checked_member place m) (sym is))) r))

-- ---- a member by its form, and whether it has to be there

abbrev member_by : PlainPlace → MemberForm → Bool → Option JudgedPart → Check (Option PlainBodyPart)
member_by place form required None = given (λ _. None) (expected (not required) WrongType)
member_by place form required (Some p) = given Some (checked_part place required form p)

member-by : (place : PlainPlace) (m : KindMember) (p : Option JudgedPart) → checked_member place m p ≡ member_by place m.form m.required p
member-by place m None = refl
member-by place m (Some p) = refl

child-by : (place : PlainPlace) (m : KindMember) (sort : ChildSort) (required : Bool) (p : Option JudgedPart) → m.form ≡ member_is.Child sort → m.required ≡ required
    → checked_member place m p ≡ member_by place (member_is.Child sort) required p
child-by place m sort required p f r =
    member-by place m p ∙ ap (λ form. member_by place form m.required p) f ∙ ap (λ b. member_by place (member_is.Child sort) b p) r

-- a member that is given, or left out
pub part-added : (place : PlainPlace) (m : KindMember) (p : JudgedPart) (before : List (Option PlainBodyPart))
    → added_part before (checked_part place m.required m.form p) ≡ added_one before (checked_member place m (Some p))
part-added place m p before = given-given (checked_part place m.required m.form p) Some (λ x. before ++ x ∷ [])

-- ---- a child as a member, and children

pub child-added : (place : PlainPlace) (required : Bool) (wanted : ChildSort) (p : JudgedPart) (j : Judged) (b : PlainBody) (before : List (Option PlainBodyPart))
    → or_wrong WrongType (child_of (Some p)) ≡ Ok j → child_at (position (judged.amount_of required) wanted) place j ≡ Ok b
    → added_part before (child_part place required wanted p) ≡ Ok (before ++ Some (child b) ∷ [])
child-added place required wanted (of_child k) j b before e r =
    ap (λ check. added_part before (given child check)) (ap (child_at (position (judged.amount_of required) wanted) place) (ok_is _ _ e) ∙ r)
child-added place required wanted (of_form f) j b before e r = cc e
child-added place required wanted (of_word f) j b before e r = cc e
child-added place required wanted (of_name f) j b before e r = cc e
child-added place required wanted (of_handler f) j b before e r = cc e
child-added place required wanted (of_children f) j b before e r = cc e
child-added place required wanted (of_props f) j b before e r = cc e
child-added place required wanted (of_slots f) j b before e r = cc e

-- children are a member as they are checked
abbrev as_children : Check (List PlainBody) → Check PlainBodyPart
as_children check = given (λ bs. children (bodies_in bs)) check

children-by : (place : PlainPlace) (wanted : ChildSort) (p : JudgedPart)
    → children_part place wanted p ≡ and_then (children_in p) (λ js. as_children (children_at (position Any wanted) place js))
children-by place wanted (of_children js) = refl
children-by place wanted (of_child k) = refl
children-by place wanted (of_form f) = refl
children-by place wanted (of_word f) = refl
children-by place wanted (of_name f) = refl
children-by place wanted (of_handler f) = refl
children-by place wanted (of_props f) = refl
children-by place wanted (of_slots f) = refl

pub children-added : (place : PlainPlace) (wanted : ChildSort) (p : JudgedPart) (js : List Judged) (bs : List PlainBody) (before : List (Option PlainBodyPart))
    → children_in p ≡ Ok js → children_at (position Any wanted) place js ≡ Ok bs
    → added_part before (children_part place wanted p) ≡ Ok (before ++ Some (children (bodies_in bs)) ∷ [])
children-added place wanted p js bs before e r =
    ap (added_part before) (children-by place wanted p
    ∙ ap (λ w. and_then w (λ js. as_children (children_at (position Any wanted) place js))) e ∙ ap as_children r)

-- ---- `Inherit` and `each`: the child after a name and a value

abbrev named : ℕ → Exp → List (Option PlainBodyPart)
named i e = Some (name i) ∷ Some (expression e) ∷ []

named-last : (before : List (Option PlainBodyPart)) (i : ℕ) (e : Exp) (check : Check PlainBody)
    → added before (given (named_members i e) check) ≡ added_one (before ++ named i e) (given Some (given child check))
named-last before i e (Ok b) = ap Ok (sym (append_assoc before (named i e) (Some (child b) ∷ [])))
named-last before i e (Err code) = refl

around-by : (place : PlainPlace) (p : Option JudgedPart) (before : List (Option PlainBodyPart)) (i : ℕ) (e : Exp)
    → added before (around_child i e place (or_wrong WrongType (child_of p))) ≡ added_one (before ++ named i e) (member_by place (member_is.Child stands.Any) true p)
around-by place None before i e = refl
around-by place (Some (of_child j)) before i e = named-last before i e (child_at (position One stands.Any) place j)
around-by place (Some (of_form f)) before i e = refl
around-by place (Some (of_word f)) before i e = refl
around-by place (Some (of_name f)) before i e = refl
around-by place (Some (of_handler f)) before i e = refl
around-by place (Some (of_children f)) before i e = refl
around-by place (Some (of_props f)) before i e = refl
around-by place (Some (of_slots f)) before i e = refl

around-added : (place : PlainPlace) (m : KindMember) (p : Option JudgedPart) (before later : List (Option PlainBodyPart)) (i : ℕ) (e : Exp)
    → m.form ≡ member_is.Child stands.Any → m.required ≡ true → before ++ named i e ≡ later
    → added before (around_child i e place (or_wrong WrongType (child_of p))) ≡ added_one later (checked_member place m p)
around-added place m p before later i e f r l =
    around-by place p before i e ∙ ap (λ xs. added_one xs (member_by place (member_is.Child stands.Any) true p)) l
    ∙ ap (added_one later) (sym (child-by place m stands.Any true p f r))

abbrev pub provided_by : PlainPlace → Option JudgedPart → Check (ℕ × Ty)
provided_by place first = and_then (or_wrong WrongType (name_of first)) (λ n. or_missing (place_of place.provided n))

abbrev provided_rest : PlainPlace → Option JudgedPart → Option JudgedPart → ℕ × Ty → Check (List (Option PlainBodyPart))
provided_rest place second third p = and_then (value_of place.names (want.Exactly p.1) second) (λ e. around_child p.0 e.exp place (or_wrong WrongType (child_of third)))

inherit-by : (place : PlainPlace) (first second third : Option JudgedPart)
    → checked_inherit place (first ∷ second ∷ third ∷ []) ≡ and_then (provided_by place first) (provided_rest place second third)
inherit-by place first second third =
    let value = or_wrong WrongType (form_of second) in
    let inner = or_wrong WrongType (child_of third) in
    then-then (or_wrong WrongType (name_of first)) (λ n. or_missing (place_of place.provided n)) (λ p. provided_child p place value inner)
    ∙ and_then-same (provided_by place first) (λ p. provided_child p place value inner) (provided_rest place second third)
    (λ p. then-then value (typed_as place.names (want.Exactly p.1)) (λ e. around_child p.0 e.exp place inner))

-- what is added for the name and the value
abbrev pub named_so_far : List (Option PlainBodyPart) → ℕ × Ty → List (Option PlainBodyPart) × Ty
named_so_far before p = (before ++ Some (name p.0) ∷ [], p.1)

abbrev pub valued_so_far : List (Option PlainBodyPart) → TypedExp → List (Option PlainBodyPart) × Ty
valued_so_far before e = (before ++ Some (expression e.exp) ∷ [], e.ty)

pub inherit-added : (place : PlainPlace) (first second third : Option JudgedPart) (m : KindMember) (before one two : List (Option PlainBodyPart)) (t u : Ty)
    → m.form ≡ member_is.Child stands.Any → m.required ≡ true → given (named_so_far before) (provided_by place first) ≡ Ok (one, t)
    → given (valued_so_far one) (value_of place.names (want.Exactly t) second) ≡ Ok (two, u)
    → added before (checked_inherit place (first ∷ second ∷ third ∷ [])) ≡ added_one two (checked_member place m third)
inherit-added place first second third m before one two t u f r e v =
    let p = given-ok (named_so_far before) (provided_by place first) (one, t) e in
    let ty : p.0.1 ≡ t = ap (λ x. x.1) p.2 in
    let x = given-ok (valued_so_far one) (value_of place.names (want.Exactly t) second) (two, u) v in
    let value : value_of place.names (want.Exactly p.0.1) second ≡ Ok x.0 = ap (λ t. value_of place.names (want.Exactly t) second) ty ∙ x.1 in
    let inner = or_wrong WrongType (child_of third) in
    let so_far : before ++ named p.0.0 x.0.exp ≡ two =
    sym (append_assoc before (Some (name p.0.0) ∷ []) (Some (expression x.0.exp) ∷ [])) ∙ ap (λ y. y.0 ++ Some (expression x.0.exp) ∷ []) p.2 ∙ ap (λ y. y.0) x.2 in
    ap (added before) (inherit-by place first second third ∙ ap (λ w. and_then w (provided_rest place second third)) p.1
    ∙ ap (λ w. and_then w (λ (e : TypedExp). around_child p.0.0 e.exp place inner)) value)
    ∙ around-added place m third before two p.0.0 x.0.exp f r so_far

pub inherit-name-stops : (place : PlainPlace) (first second third : Option JudgedPart) (before : List (Option PlainBodyPart)) (why : CheckStop)
    → StopsAs why (given (named_so_far before) (provided_by place first)) → StopsAs why (added before (checked_inherit place (first ∷ second ∷ third ∷ [])))
inherit-name-stops place first second third before why e =
    subst (λ w. StopsAs why (added before w)) (sym (inherit-by place first second third))
    (stops-later (named_so_far before) (λ later. before ++ later) (provided_by place first) (provided_rest place second third) why e)

pub inherit-value-stops : (place : PlainPlace) (first second third : Option JudgedPart) (before one : List (Option PlainBodyPart)) (t : Ty) (why : CheckStop)
    → given (named_so_far before) (provided_by place first) ≡ Ok (one, t) → StopsAs why (given (valued_so_far one) (value_of place.names (want.Exactly t) second))
    → StopsAs why (added before (checked_inherit place (first ∷ second ∷ third ∷ [])))
inherit-value-stops place first second third before one t why e v =
    let p = given-ok (named_so_far before) (provided_by place first) (one, t) e in
    let ty : p.0.1 ≡ t = ap (λ x. x.1) p.2 in
    let inner = or_wrong WrongType (child_of third) in
    subst (λ w. StopsAs why (added before w)) (sym (inherit-by place first second third ∙ ap (λ w. and_then w (provided_rest place second third)) p.1))
    (stops-later (valued_so_far one) (λ later. before ++ later) (value_of place.names (want.Exactly p.0.1) second) (λ (e : TypedExp). around_child p.0.0 e.exp place inner) why
    (subst (λ t. StopsAs why (given (valued_so_far one) (value_of place.names (want.Exactly t) second))) (sym ty) v))

-- `each`
abbrev pub looped_so_far : List (Option PlainBodyPart) → ℕ → NamedTypes × Exp → List (Option PlainBodyPart) × NamedTypes
looped_so_far before i l = (before ++ named i l.1, l.0)

pub each-added : (place : PlainPlace) (first second third : Option JudgedPart) (m : KindMember) (before one : List (Option PlainBodyPart)) (inside : NamedTypes)
    → m.form ≡ member_is.Child stands.Any → m.required ≡ true
    → given (looped_so_far before (length place.names.vars)) (loop_list place (first ∷ second ∷ third ∷ [])) ≡ Ok (one, inside)
    → added before (checked_each place (first ∷ second ∷ third ∷ [])) ≡ added_one one (checked_member (place_inside inside place) m third)
each-added place first second third m before one inside f r e =
    let l = given-ok (looped_so_far before (length place.names.vars)) (loop_list place (first ∷ second ∷ third ∷ [])) (one, inside) e in
    ap (λ w. added before (and_then w (loop_child place (or_wrong WrongType (child_of third))))) l.1
    ∙ around-added (place_inside l.0.0 place) m third before one (length place.names.vars) l.0.1 f r (ap (λ y. y.0) l.2)
    ∙ ap (λ (y : List (Option PlainBodyPart) × NamedTypes). added_one one (checked_member (place_inside y.1 place) m third)) l.2

pub each-stops : (place : PlainPlace) (first second third : Option JudgedPart) (before : List (Option PlainBodyPart)) (why : CheckStop)
    → StopsAs why (given (looped_so_far before (length place.names.vars)) (loop_list place (first ∷ second ∷ third ∷ [])))
    → StopsAs why (added before (checked_each place (first ∷ second ∷ third ∷ [])))
each-stops place first second third before why e =
    stops-later (looped_so_far before (length place.names.vars)) (λ later. before ++ later) (loop_list place (first ∷ second ∷ third ∷ [])) (loop_child place (or_wrong WrongType (child_of third))) why e

-- ---- `if`: its condition, and its branches

abbrev if_rest : PlainPlace → Option JudgedPart → Option JudgedPart → TypedExp → Check (List (Option PlainBodyPart))
if_rest place second third e = branches e.exp place (or_wrong WrongType (child_of second)) (None ∷ None ∷ third ∷ [])

if-by : (place : PlainPlace) (first second third : Option JudgedPart)
    → checked_if place (first ∷ second ∷ third ∷ []) ≡ and_then (value_of place.names (want.Exactly ty.Bool) first) (if_rest place second third)
if-by place first second third =
    then-then (or_wrong WrongType (form_of first)) (typed_as place.names (want.Exactly ty.Bool)) (if_rest place second third)

else-by : (place : PlainPlace) (sort : ChildSort) (third : Option JudgedPart)
    → checked_else sort place (None ∷ None ∷ third ∷ []) ≡ member_by place (member_is.Child sort) false third
else-by place sort None = refl
else-by place sort (Some (of_child j)) = given-given (child_at (position AtMostOne sort) place j) child Some
else-by place sort (Some (of_form f)) = refl
else-by place sort (Some (of_word f)) = refl
else-by place sort (Some (of_name f)) = refl
else-by place sort (Some (of_handler f)) = refl
else-by place sort (Some (of_children f)) = refl
else-by place sort (Some (of_props f)) = refl
else-by place sort (Some (of_slots f)) = refl

-- `then`, which is there
then-is : (place : PlainPlace) (second : Option JudgedPart) (before later : List (Option PlainBodyPart)) → expected (is_some second) WrongType ≡ Ok tt
    → added_one before (member_by place (member_is.Child stands.Any) false second) ≡ Ok later
    → (j : Judged) × (b : PlainBody) × (second ≡ Some (of_child j)) × (child_at (position AtMostOne stands.Any) place j ≡ Ok b) × (before ++ Some (child b) ∷ [] ≡ later)
then-is place None before later h e = cc h
then-is place (Some (of_child j)) before later h e =
    let outer = given-ok (λ x. before ++ x ∷ []) (given Some (given child (child_at (position AtMostOne stands.Any) place j))) later e in
    let some = given-ok Some (given child (child_at (position AtMostOne stands.Any) place j)) outer.0 outer.1 in
    let b = given-ok child (child_at (position AtMostOne stands.Any) place j) some.0 some.1 in
    (j, b.0, refl, b.1, ap (λ p. before ++ Some p ∷ []) b.2 ∙ ap (λ x. before ++ x ∷ []) some.2 ∙ outer.2)
then-is place (Some (of_form f)) before later h e = cc e
then-is place (Some (of_word f)) before later h e = cc e
then-is place (Some (of_name f)) before later h e = cc e
then-is place (Some (of_handler f)) before later h e = cc e
then-is place (Some (of_children f)) before later h e = cc e
then-is place (Some (of_props f)) before later h e = cc e
then-is place (Some (of_slots f)) before later h e = cc e

chosen-last : (before : List (Option PlainBodyPart)) (cond : Exp) (b : PlainBody) (other : Check (Option PlainBodyPart))
    → added before (given (chosen_members cond b) other) ≡ added_one (before ++ Some (expression cond) ∷ Some (child b) ∷ []) other
chosen-last before cond b (Ok o) = ap Ok (sym (append_assoc before (Some (expression cond) ∷ Some (child b) ∷ []) (o ∷ [])))
chosen-last before cond b (Err code) = refl

branches-added : (place : PlainPlace) (second third : Option JudgedPart) (a o : KindMember) (sort : ChildSort) (before one two : List (Option PlainBodyPart)) (cond : Exp)
    → a.form ≡ member_is.Child stands.Any → a.required ≡ false → o.form ≡ member_is.Child sort → o.required ≡ false
    → checked_else sort place (None ∷ None ∷ third ∷ []) ≡ checked_else (sort_of place.earlier (child_of second)) place (None ∷ None ∷ third ∷ [])
    → before ++ Some (expression cond) ∷ [] ≡ one → expected (is_some second) WrongType ≡ Ok tt → added_one one (checked_member place a second) ≡ Ok two
    → added before (branches cond place (or_wrong WrongType (child_of second)) (None ∷ None ∷ third ∷ [])) ≡ added_one two (checked_member place o third)
branches-added place second third a o sort before one two cond af ar of or same l h e =
    let t = then-is place second one two h (ap (added_one one) (sym (child-by place a stands.Any false second af ar)) ∙ e) in
    let j = t.0 in
    let b = t.1 in
    let parts : JudgedParts = None ∷ None ∷ third ∷ [] in
    let other = given (chosen_members cond b) (checked_else (j.sort place.earlier) place parts) in
    let so_far : before ++ Some (expression cond) ∷ Some (child b) ∷ [] ≡ two =
    sym (append_assoc before (Some (expression cond) ∷ []) (Some (child b) ∷ [])) ∙ ap (λ xs. xs ++ Some (child b) ∷ []) l ∙ t.4 in
    ap (λ s. added before (branches cond place (or_wrong WrongType (child_of s)) parts)) t.2
    ∙ ap (λ w. added before (and_then w (λ b. given (chosen_members cond b) (checked_else (j.sort place.earlier) place parts)))) t.3
    ∙ chosen-last before cond b (checked_else (j.sort place.earlier) place parts)
    ∙ ap (λ xs. added_one xs (checked_else (j.sort place.earlier) place parts)) so_far
    ∙ ap (λ s. added_one two (checked_else (sort_of place.earlier (child_of s)) place parts)) (sym t.2)
    ∙ ap (added_one two) (sym same ∙ else-by place sort third ∙ sym (child-by place o sort false third of or))

pub if-added : (place : PlainPlace) (first second third : Option JudgedPart) (a o : KindMember) (sort : ChildSort) (before one two : List (Option PlainBodyPart)) (u : Ty)
    → a.form ≡ member_is.Child stands.Any → a.required ≡ false → o.form ≡ member_is.Child sort → o.required ≡ false
    → checked_else sort place (None ∷ None ∷ third ∷ []) ≡ checked_else (sort_of place.earlier (child_of second)) place (None ∷ None ∷ third ∷ [])
    → given (valued_so_far before) (value_of place.names (want.Exactly ty.Bool) first) ≡ Ok (one, u) → expected (is_some second) WrongType ≡ Ok tt
    → added_one one (checked_member place a second) ≡ Ok two
    → added before (checked_if place (first ∷ second ∷ third ∷ [])) ≡ added_one two (checked_member place o third)
if-added place first second third a o sort before one two u af ar of or same v h e =
    let x = given-ok (valued_so_far before) (value_of place.names (want.Exactly ty.Bool) first) (one, u) v in
    ap (added before) (if-by place first second third ∙ ap (λ w. and_then w (if_rest place second third)) x.1)
    ∙ branches-added place second third a o sort before one two x.0.exp af ar of or same (ap (λ y. y.0) x.2) h e

-- ---- a child in its position, and a template with its key

pub stops-then : {A B : Type 0} (check : Check A) (next : A → Check B) (why : CheckStop) → StopsAs why check → StopsAs why (and_then check next)
stops-then (Ok x) next (stop.Bad code) e = cc e
stops-then (Err other) next (stop.Bad code) e = moved other code e
stops-then check next stop.OutOfMemory e = tt

pub placed-child : {C : Type 0} (a b : Check ⊤) (check : Check C) → and_then a (λ _. b) ≡ Ok tt → and_then a (λ _. and_then b (λ _. check)) ≡ check
placed-child a b check e = then-then a (λ _. b) (λ _. check) ∙ ap (λ w. and_then w (λ _. check)) e

pub misplaced-child : {C : Type 0} (a b : Check ⊤) (check : Check C) (why : CheckStop) → StopsAs why (and_then a (λ _. b)) → StopsAs why (and_then a (λ _. and_then b (λ _. check)))
misplaced-child a b check why e = subst (StopsAs why) (sym (then-then a (λ _. b) (λ _. check))) (stops-then (and_then a (λ _. b)) (λ _. check) why e)

pub other-filled : {X : Type 0} (k : KindName) (key : Option PlainKey) (found : Option KeyExp) (ps : JudgedParts) (place : PlainPlace) (ms : List (Option PlainBodyPart)) (result : Result X CheckStop)
    → (k ≡ kind.Use → ⊥) → optional_key place.names key ≡ Ok found → Answers (λ _. ms) result (added [] (checked_members k place ps))
    → Answers (λ _. body_from k found ms) result (checked_template k key ps place)
other-filled k key found ps place ms result other e a =
    subst (Answers (λ _. body_from k found ms) result)
    (ap (given (body_from k found)) (added-none (checked_members k place ps))
    ∙ sym (checked_template-other k key ps place other ∙ ap (λ w. and_then w (λ found. given (body_from k found) (checked_members k place ps))) e))
    (Answers-given (body_from k found) result ms (added [] (checked_members k place ps)) a)

-- ---- `use`: its component, its key, its props, and then its slots

abbrev pub used_by : PlainPlace → Option JudgedPart → Check (ℕ × Signature)
used_by place first = and_then (or_wrong WrongType (name_of first)) (λ n. used_component place n)

abbrev use_rest : PlainPlace → Option PlainKey → Option JudgedPart → Option JudgedPart → ℕ × Signature → Check PlainBody
use_rest place key second third c = checked_keyed kind.Use key place (λ _. checked_use place c (None ∷ second ∷ third ∷ []))

use-by : (place : PlainPlace) (key : Option PlainKey) (first second third : Option JudgedPart)
    → checked_template kind.Use key (first ∷ second ∷ third ∷ []) place ≡ and_then (used_by place first) (use_rest place key second third)
use-by place key first second third = then-then (or_wrong WrongType (name_of first)) (λ n. used_component place n) (use_rest place key second third)

abbrev pub used_so_far : List (Option PlainBodyPart) → ℕ × Signature → List (Option PlainBodyPart) × Signature
used_so_far before c = (before ++ Some (name c.0) ∷ [], c.1)

filled-by : (place : PlainPlace) (i : ℕ) (es : List Exp) (declared : List (List ℕ)) (contents : Check (List (List ℕ × Judged)))
    → filled i es declared place contents ≡ added_part (Some (name i) ∷ Some (props es) ∷ []) (slots_part place declared contents)
filled-by place i es declared (Err code) = refl
filled-by place i es declared (Ok gs) = given-given (checked_slots place declared gs) (λ bs. slots (bodies_in bs)) (λ p. Some (name i) ∷ Some (props es) ∷ Some p ∷ [])

abbrev props_rest : PlainPlace → ℕ × Signature → Option JudgedPart → List Exp → Check (List (Option PlainBodyPart))
props_rest place c third es = filled c.0 es c.1.slots place (slots_in third)

use-props : (place : PlainPlace) (c : ℕ × Signature) (second third : Option JudgedPart)
    → checked_use place c (None ∷ second ∷ third ∷ []) ≡ and_then (and_then (props_in second) (checked_props place.names c.1.props)) (props_rest place c third)
use-props place c second third = then-then (props_in second) (checked_props place.names c.1.props) (props_rest place c third)

pub use-added : (place : PlainPlace) (key : Option PlainKey) (first second third : Option JudgedPart) (one two : List (Option PlainBodyPart)) (s : Signature) (found : Option KeyExp)
    → given (used_so_far []) (used_by place first) ≡ Ok (one, s) → optional_key place.names key ≡ Ok found
    → added_part one (props_part place.names s.props (props_in second)) ≡ Ok two
    → checked_template kind.Use key (first ∷ second ∷ third ∷ []) place ≡ given (body_from kind.Use found) (added_part two (slots_part place s.slots (slots_in third)))
use-added place key first second third one two s found u k p =
    let c = given-ok (used_so_far []) (used_by place first) (one, s) u in
    let sig : c.0.1 ≡ s = ap (λ y. y.1) c.2 in
    let outer = given-ok (λ p. one ++ Some p ∷ []) (props_part place.names s.props (props_in second)) two p in
    let es = given-ok props (and_then (props_in second) (checked_props place.names s.props)) outer.0 outer.1 in
    let rest = slots_in third in
    let so_far : Some (name c.0.0) ∷ Some (props es.0) ∷ [] ≡ two = ap (λ y. y.0 ++ Some (props es.0) ∷ []) c.2 ∙ ap (λ p. one ++ Some p ∷ []) es.2 ∙ outer.2 in
    use-by place key first second third ∙ ap (λ w. and_then w (use_rest place key second third)) c.1
    ∙ ap (λ w. and_then w (λ found. given (body_from kind.Use found) (checked_use place c.0 (None ∷ second ∷ third ∷ [])))) k
    ∙ ap (given (body_from kind.Use found)) (use-props place c.0 second third
    ∙ ap (λ w. and_then w (props_rest place c.0 third)) (ap (λ s. and_then (props_in second) (checked_props place.names s.props)) sig ∙ es.1)
    ∙ filled-by place c.0.0 es.0 c.0.1.slots rest
    ∙ ap (λ s. added_part (Some (name c.0.0) ∷ Some (props es.0) ∷ []) (slots_part place s.slots rest)) sig
    ∙ ap (λ ms. added_part ms (slots_part place s.slots rest)) so_far)

pub use-props-stop : (place : PlainPlace) (key : Option PlainKey) (first second third : Option JudgedPart) (before one : List (Option PlainBodyPart)) (s : Signature) (found : Option KeyExp)
    (why : CheckStop) → given (used_so_far before) (used_by place first) ≡ Ok (one, s) → optional_key place.names key ≡ Ok found
    → StopsAs why (added_part one (props_part place.names s.props (props_in second))) → StopsAs why (checked_template kind.Use key (first ∷ second ∷ third ∷ []) place)
use-props-stop place key first second third before one s found why u k p =
    let c = given-ok (used_so_far before) (used_by place first) (one, s) u in
    let sig : c.0.1 ≡ s = ap (λ y. y.1) c.2 in
    subst (StopsAs why) (sym (use-by place key first second third ∙ ap (λ w. and_then w (use_rest place key second third)) c.1
    ∙ ap (λ w. and_then w (λ found. given (body_from kind.Use found) (checked_use place c.0 (None ∷ second ∷ third ∷ [])))) k
    ∙ ap (given (body_from kind.Use found)) (use-props place c.0 second third
    ∙ ap (λ s. and_then (and_then (props_in second) (checked_props place.names s.props)) (props_rest place c.0 third)) sig)))
    (stops-later (λ es. one ++ Some (props es) ∷ []) (body_from kind.Use found) (and_then (props_in second) (checked_props place.names s.props)) (props_rest place c.0 third) why
    (subst (StopsAs why) (sym (given-given (and_then (props_in second) (checked_props place.names s.props)) props (λ p. one ++ Some p ∷ []))) p))

-- ---- slots: those declared, all of them, then their contents

slots-checked : (place : PlainPlace) (declared : List (List ℕ)) (gs : List (List ℕ × Judged)) → slots_placed declared gs ≡ Ok tt
    → checked_slots place declared gs ≡ and_then (in_order (map (checked_slot_content place declared) gs)) (arranged (length declared))
slots-checked place declared gs e = ap (λ w. and_then w (λ _. and_then (in_order (map (checked_slot_content place declared) gs)) (arranged (length declared)))) e

slots-placed : (declared : List (List ℕ)) (contents : Check (List (List ℕ × Judged))) (gs : List (List ℕ × Judged)) → placed_slots declared contents ≡ Ok gs
    → (contents ≡ Ok gs) × (slots_placed declared gs ≡ Ok tt)
slots-placed declared (Err code) gs e = cc e
slots-placed declared (Ok hs) gs e =
    let x = given-ok (λ _. hs) (slots_placed declared hs) gs e in
    (ap checks_as x.2, ap (slots_placed declared) (sym x.2) ∙ x.1)

slots-known : (place : PlainPlace) (declared : List (List ℕ)) (contents : Check (List (List ℕ × Judged))) (gs : List (List ℕ × Judged)) → placed_slots declared contents ≡ Ok gs
    → and_then contents (checked_slots place declared) ≡ and_then (in_order (map (checked_slot_content place declared) gs)) (arranged (length declared))
slots-known place declared contents gs e =
    let there = slots-placed declared contents gs e in
    ap (λ w. and_then w (checked_slots place declared)) there.0 ∙ slots-checked place declared gs there.1

pub slots-added : (place : PlainPlace) (declared : List (List ℕ)) (contents : Check (List (List ℕ × Judged))) (gs : List (List ℕ × Judged)) (cs : List (ℕ × PlainBody))
    (before : List (Option PlainBodyPart)) → placed_slots declared contents ≡ Ok gs → in_order (map (checked_slot_content place declared) gs) ≡ Ok cs
    → added_part before (slots_part place declared contents) ≡ added_part before (arranged_slots (length declared) cs)
slots-added place declared contents gs cs before e r =
    ap (λ w. added_part before (given (λ bs. slots (bodies_in bs)) w))
    (slots-known place declared contents gs e ∙ ap (λ w. and_then w (arranged (length declared))) r)
