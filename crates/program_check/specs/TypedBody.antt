-- What it is for a checked template, and for a checked program, to be typed.
use Rattle.std.specs.Prelude.{◌≡◌, ℕ, zero, suc, ◌<◌, ◌&&◌, not, List, [], ◌∷◌, ◌++◌, map, length, slice_get, Bool, true, false, Option, Some, None}
use Rattle.fx_expr.specs.declared.values.Ty.{Ty}
use Rattle.fx_expr.specs.declared.values.Ty.TheVariants as ty
use Rattle.fx_expr.specs.Exp.{Exp}
use Rattle.fx_expr.specs.Scope.{Types}
use Rattle.fx_expr.specs.Typed.{item_type, IsList, IsJoinable}
use Rattle.program_form.specs.declared.kinds.KindName.{KindName}
use Rattle.program_form.specs.declared.kinds.KindName.TheVariants as kind
use Rattle.program_form.specs.declared.kinds.KindMember.{KindMember}
use Rattle.program_form.specs.declared.kinds.MemberForm.{MemberForm}
use Rattle.program_form.specs.declared.kinds.MemberForm.TheVariants as member_is
use Rattle.program_form.specs.declared.kinds.ChildSort.{ChildSort}
use Rattle.program_form.specs.declared.kinds.ChildSort.TheVariants as stands
use Rattle.program_form.specs.declared.words.Word.{Word}
use Rattle.program_form.specs.declared.words.WordList.{WordList}
use Rattle.program_form.specs.Kinds.{members_of}
use Rattle.expr_check.specs.declared.wants.Want.{Want}
use Rattle.expr_check.specs.declared.wants.Want.TheVariants as want
use Rattle.program_check.specs.declared.places.Amount.{Amount}
use Rattle.program_check.specs.declared.places.Amount.TheVariants.{One, AtMostOne, Any}
use Rattle.program_check.specs.declared.places.Position.{Position}
use Rattle.expr_check.specs.Names.{types_in}
use Rattle.expr_check.specs.Sight.{Sight, sight, sight_of, IsTypedIn}
use Rattle.expr_check.specs.Handlers.{AreTypedSets}
use Rattle.program_check.specs.Body.{KeyExp, local, global, PlainBody, body, BodyMembers, no_members, left_out, member, PlainBodyPart, expression, word, name, handler, child, children, props, slots, PlainBodies, no_bodies, one_body}
use Rattle.program_check.specs.Shape.{Shape, a_widget, a_value, a_component, a_content, a_choice, a_loop, shape_of}
use Rattle.program_check.specs.Place.{Signature, PlainPlace, sorts_agree}
use Rattle.program_check.specs.Judged.{is_local_key, want_of, is_each, position, amount_of, is_of}

-- ---- where a checked template stands

pub record Surroundings : Type 0 where
  -- the types of what its expressions can name, and whether they see an event
  pub sight : Sight
  -- the types of the inherited names that it can give a value
  pub provided : List Ty
  -- how many slots the component has that it stands in
  pub slots : ℕ
  -- the components that it can use
  pub components : List Signature

abbrev pub surroundings : Sight → List Ty → ℕ → List Signature → Surroundings
surroundings seen provided slot_count components = record { sight = seen; provided = provided; slots = slot_count; components = components }

-- those of a place
abbrev pub surroundings_of : PlainPlace → Surroundings
surroundings_of place = surroundings (sight_of place.names) (types_in place.provided) (length place.slots) place.earlier

-- one more variable, of a type
abbrev pub types_inside : Ty → Types → Types
types_inside t T = record { fields = T.fields; props = T.props; vars = T.vars ++ t ∷ []; inherited = T.inherited }

-- inside a loop over items of a type
abbrev pub inside : Ty → Surroundings → Surroundings
inside t S = surroundings (sight (types_inside t S.sight.types) S.sight.event) S.provided S.slots S.components

-- ---- whether a checked template is certain to give one widget: `each` isn't, and an `if` is where both its branches are there and certain

abbrev pub bool_at : List Bool → ℕ → Bool
bool_at [] i = false
bool_at (b ∷ bs) zero = b
bool_at (b ∷ bs) (suc i) = bool_at bs i

abbrev pub certain_by : KindName → List Bool → Bool
certain_by kind.SizedBox bs = true
certain_by kind.ConstrainedBox bs = true
certain_by kind.Padding bs = true
certain_by kind.Align bs = true
certain_by kind.ColoredBox bs = true
certain_by kind.Text bs = true
certain_by kind.Row bs = true
certain_by kind.Column bs = true
certain_by kind.Stack bs = true
certain_by kind.Flexible bs = true
certain_by kind.Positioned bs = true
certain_by kind.Opacity bs = true
certain_by kind.ClipRect bs = true
certain_by kind.RepaintBoundary bs = true
certain_by kind.MergeSemantics bs = true
certain_by kind.IntrinsicWidth bs = true
certain_by kind.IntrinsicHeight bs = true
certain_by kind.Offstage bs = true
certain_by kind.IgnorePointer bs = true
certain_by kind.AbsorbPointer bs = true
certain_by kind.Detector bs = true
certain_by kind.Semantics bs = true
certain_by kind.ExcludeSemantics bs = true
certain_by kind.CustomPaint bs = true
certain_by kind.CustomLayout bs = true
certain_by kind.Viewport bs = true
certain_by kind.SliverToBox bs = true
certain_by kind.SliverPadding bs = true
certain_by kind.SliverFixed bs = true
certain_by kind.SliverLazy bs = true
certain_by kind.Keep bs = true
certain_by kind.Wrap bs = true
certain_by kind.Table bs = true
certain_by kind.Inherit bs = true
certain_by kind.Use bs = true
certain_by kind.Slot bs = true
certain_by kind.If bs = bool_at bs 1 && bool_at bs 2
certain_by kind.Each bs = false

abbrev mutual
  pub is_certain_body : PlainBody → Bool
  is_certain_body (body k key ms) = certain_by k (certain_members ms)

  -- for each member, whether it is a child that is certain
  pub certain_members : BodyMembers → List Bool
  certain_members no_members = []
  certain_members (left_out ms) = false ∷ certain_members ms
  certain_members (member p ms) = is_certain_part p ∷ certain_members ms

  pub is_certain_part : PlainBodyPart → Bool
  is_certain_part (child b) = is_certain_body b
  is_certain_part p = false

-- ---- the sort of a checked template, over the components that it can use

abbrev pub sort_at : List ChildSort → ℕ → ChildSort
sort_at [] i = stands.Any
sort_at (s ∷ ss) zero = s
sort_at (s ∷ ss) (suc i) = sort_at ss i

abbrev pub component_sort : Option Signature → ChildSort
component_sort (Some c) = c.sort
component_sort None = stands.Any

-- `Inherit` has the sort of its child, `use` that of its component's body, `if` that of `then`, `each` that of its body
abbrev pub sort_of_shape : Shape → List ChildSort → ChildSort
sort_of_shape (a_widget sort) ss = sort
sort_of_shape a_value ss = sort_at ss 2
sort_of_shape a_component ss = sort_at ss 0
sort_of_shape a_content ss = stands.Box
sort_of_shape a_choice ss = sort_at ss 1
sort_of_shape a_loop ss = sort_at ss 2

abbrev pub sort_by : KindName → List ChildSort → ChildSort
sort_by k ss = sort_of_shape (shape_of k) ss

abbrev mutual
  pub sort_of_body : List Signature → PlainBody → ChildSort
  sort_of_body cs (body k key ms) = sort_by k (sorts_of_members cs ms)

  -- of each member: of a child its own, of a place that of the component there
  pub sorts_of_members : List Signature → BodyMembers → List ChildSort
  sorts_of_members cs no_members = []
  sorts_of_members cs (left_out ms) = stands.Any ∷ sorts_of_members cs ms
  sorts_of_members cs (member p ms) = sort_of_part cs p ∷ sorts_of_members cs ms

  pub sort_of_part : List Signature → PlainBodyPart → ChildSort
  sort_of_part cs (child b) = sort_of_body cs b
  sort_of_part cs (name i) = component_sort (slice_get cs i)
  sort_of_part cs p = stands.Any

-- a box or a sliver, and not either
abbrev pub IsBoxOrSliver : ChildSort → Type 0
IsBoxOrSliver stands.Box = Unit {0}
IsBoxOrSliver stands.Sliver = Unit {0}
IsBoxOrSliver stands.Any = ⊥

-- ---- a child in its position: how many widgets it gives, and its sort

abbrev pub is_each_body : PlainBody → Bool
is_each_body (body k key ms) = is_each k

abbrev pub gives : Amount → PlainBody → Bool
gives One b = is_certain_body b
gives AtMostOne b = not (is_each_body b)
gives Any b = true

pub record FitsIn (cs : List Signature) (p : Position) (b : PlainBody) : Type 0 where
  pub amount : gives p.amount b ≡ true
  pub sort : sorts_agree p.sort (sort_of_body cs b) ≡ true

-- ---- expressions and keys

-- an expression has the type that is wanted, or some type of those that are
abbrev pub IsTypedAs : Sight → Want → Exp → Type 0
IsTypedAs S (want.Exactly t) e = IsTypedIn S e t
IsTypedAs S want.Any e = (t : Ty) × IsTypedIn S e t
IsTypedAs S want.List e = (t : Ty) × IsList t × IsTypedIn S e t
IsTypedAs S want.Joinable e = (t : Ty) × IsJoinable t × IsTypedIn S e t

-- as many expressions as types, each of its type
abbrev pub AreTypedInOrder : Sight → List Ty → List Exp → Type 0
AreTypedInOrder S [] [] = Unit {0}
AreTypedInOrder S (t ∷ ts) (e ∷ es) = IsTypedIn S e t × AreTypedInOrder S ts es
AreTypedInOrder S ts es = ⊥

-- a local key is a number or a text, a global one a text
abbrev pub IsTypedKey : Sight → Option KeyExp → Type 0
IsTypedKey S None = Unit {0}
IsTypedKey S (Some (local e)) = (t : Ty) × (is_local_key t ≡ true) × IsTypedIn S e t
IsTypedKey S (Some (global e)) = IsTypedIn S e ty.Text

-- ---- what the members of a kind have to be

pub data WantedPart : Type 0 where
  an_expression : Want → WantedPart
  a_word : WordList → WantedPart
  -- this place in a list
  the_place : ℕ → WantedPart
  a_handler : WantedPart
  -- a child, and where it stands
  a_child : Position → Surroundings → WantedPart
  some_children : Position → WantedPart
  -- props of these types
  the_props : List Ty → WantedPart
  -- so many slots' contents
  the_slots : ℕ → WantedPart
  -- no member is this
  no_part : WantedPart

pub record WantedMember : Type 0 where
  pub required : Bool
  pub part : WantedPart

abbrev pub wanted : Bool → WantedPart → WantedMember
wanted required part = record { required = required; part = part }

abbrev pub must : WantedPart → WantedMember
must = wanted true

abbrev pub may : WantedPart → WantedMember
may = wanted false

-- a member of the table. Names, props and slots are members of no kind but those below.
abbrev pub part_of : Surroundings → Bool → MemberForm → WantedPart
part_of S required (member_is.Expression meaning) = an_expression (want_of meaning)
part_of S required (member_is.Word list) = a_word list
part_of S required member_is.Handler = a_handler
part_of S required (member_is.Child sort) = a_child (position (amount_of required) sort) S
part_of S required (member_is.Children sort) = some_children (position Any sort)
part_of S required member_is.Name = no_part
part_of S required member_is.Props = no_part
part_of S required member_is.Slots = no_part

abbrev pub wanted_by : Surroundings → KindMember → WantedMember
wanted_by S m = wanted m.required (part_of S m.required m.form)

abbrev pub wanted_of : Surroundings → List KindMember → List WantedMember
wanted_of S ms = map (wanted_by S) ms

-- the sort of `then`
abbrev pub then_sort : Surroundings → BodyMembers → ChildSort
then_sort S ms = sort_at (sorts_of_members S.components ms) 1

-- what is wanted of the members of a kind, by its shape:
-- of `Inherit` the place of an inherited name, a value of its type, and a child of either sort;
-- of `use` the place of a component that was declared before, its props and its slots;
-- of `slot` the place of a slot; of `if` a condition, and branches of one sort;
-- of `each` the place of a new variable, a list, and a child that sees the variable; and of all others what the table says
abbrev pub AreWantedBy : Surroundings → Shape → KindName → BodyMembers → List WantedMember → Type 0
AreWantedBy S (a_widget sort) k ms ws = ws ≡ wanted_of S (members_of k)
AreWantedBy S a_value k ms ws =
    (i : ℕ) × (t : Ty) × (slice_get S.provided i ≡ Some t)
    × (ws ≡ must (the_place i) ∷ must (an_expression (want.Exactly t)) ∷ must (a_child (position One stands.Any) S) ∷ [])
AreWantedBy S a_component k ms ws =
    (i : ℕ) × (c : Signature) × (slice_get S.components i ≡ Some c)
    × (ws ≡ must (the_place i) ∷ must (the_props (types_in c.props)) ∷ must (the_slots (length c.slots)) ∷ [])
AreWantedBy S a_content k ms ws = (i : ℕ) × (i < S.slots) × (ws ≡ must (the_place i) ∷ [])
AreWantedBy S a_choice k ms ws =
    ws ≡ must (an_expression (want.Exactly ty.Bool)) ∷ must (a_child (position AtMostOne stands.Any) S)
    ∷ may (a_child (position AtMostOne (then_sort S ms)) S) ∷ []
AreWantedBy S a_loop k ms ws =
    (t : Ty) × (item : Ty) × (item_type t ≡ Some item)
    × (ws ≡ must (the_place (length S.sight.types.vars)) ∷ must (an_expression (want.Exactly t)) ∷ must (a_child (position One stands.Any) (inside item S)) ∷ [])

abbrev pub AreWanted : Surroundings → KindName → BodyMembers → List WantedMember → Type 0
AreWanted S k ms ws = AreWantedBy S (shape_of k) k ms ws

-- ---- what is wanted of a member that is an expression, a word, a place, and so on; what is wanted else isn't met

abbrev pub IsWantedExpression : Sight → WantedPart → Exp → Type 0
IsWantedExpression S (an_expression w) e = IsTypedAs S w e
IsWantedExpression S _ e = ⊥

abbrev pub IsWantedWord : WantedPart → Word → Type 0
IsWantedWord (a_word list) w = is_of list w ≡ true
IsWantedWord _ w = ⊥

abbrev pub IsWantedPlace : WantedPart → ℕ → Type 0
IsWantedPlace (the_place i) j = j ≡ i
IsWantedPlace _ j = ⊥

abbrev pub AreWantedSets : Types → WantedPart → List (ℕ × Exp) → Type 0
AreWantedSets T a_handler sets = AreTypedSets T sets
AreWantedSets T _ sets = ⊥

abbrev pub OnWantedChild : WantedPart → (Position → Surroundings → Type 0) → Type 0
OnWantedChild (a_child p there) Fits = Fits p there
OnWantedChild _ Fits = ⊥

abbrev pub OnWantedChildren : WantedPart → (Position → Type 0) → Type 0
OnWantedChildren (some_children p) Fit = Fit p
OnWantedChildren _ Fit = ⊥

abbrev pub AreWantedProps : Sight → WantedPart → List Exp → Type 0
AreWantedProps S (the_props ts) es = AreTypedInOrder S ts es
AreWantedProps S _ es = ⊥

abbrev pub OnWantedSlots : WantedPart → (ℕ → Type 0) → Type 0
OnWantedSlots (the_slots n) Fill = Fill n
OnWantedSlots _ Fill = ⊥

-- ---- a typed template: its key and each of its members are what is wanted

abbrev mutual
  pub IsTypedBody : Surroundings → PlainBody → Type 0
  IsTypedBody S (body k key ms) = IsTypedKey S.sight key × ((ws : List WantedMember) × AreWanted S k ms ws × AreTypedMembers S ws ms)

  -- as many members as are wanted; only one that isn't required is left out
  pub AreTypedMembers : Surroundings → List WantedMember → BodyMembers → Type 0
  AreTypedMembers S [] no_members = Unit {0}
  AreTypedMembers S (w ∷ ws) (left_out ms) = (w.required ≡ false) × AreTypedMembers S ws ms
  AreTypedMembers S (w ∷ ws) (member p ms) = IsTypedPart S w.part p × AreTypedMembers S ws ms
  AreTypedMembers S ws ms = ⊥

  -- a member, by what it is, and then by what is wanted of it
  pub IsTypedPart : Surroundings → WantedPart → PlainBodyPart → Type 0
  IsTypedPart S w (expression e) = IsWantedExpression S.sight w e
  IsTypedPart S w (word v) = IsWantedWord w v
  IsTypedPart S w (name i) = IsWantedPlace w i
  IsTypedPart S w (handler sets) = AreWantedSets S.sight.types w sets
  IsTypedPart S w (child b) = OnWantedChild w (λ p there. FitsIn there.components p b × IsTypedBody there b)
  IsTypedPart S w (children bs) = OnWantedChildren w (λ p. AreTypedBodies S p bs)
  IsTypedPart S w (props es) = AreWantedProps S.sight w es
  IsTypedPart S w (slots bs) = OnWantedSlots w (λ n. AreTypedSlots S n bs)

  -- templates in a position
  pub AreTypedBodies : Surroundings → Position → PlainBodies → Type 0
  AreTypedBodies S p no_bodies = Unit {0}
  AreTypedBodies S p (one_body b bs) = FitsIn S.components p b × IsTypedBody S b × AreTypedBodies S p bs

  -- so many boxes, one a slot
  pub AreTypedSlots : Surroundings → ℕ → PlainBodies → Type 0
  AreTypedSlots S zero no_bodies = Unit {0}
  AreTypedSlots S (suc n) (one_body b bs) = FitsIn S.components (position One stands.Box) b × IsTypedBody S b × AreTypedSlots S n bs
  AreTypedSlots S n bs = ⊥

-- a member, where it is given, is what is wanted; one that is required is given
abbrev pub IsTypedMember : Surroundings → WantedMember → Option PlainBodyPart → Type 0
IsTypedMember S w None = w.required ≡ false
IsTypedMember S w (Some p) = IsTypedPart S w.part p
