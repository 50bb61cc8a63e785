-- A template's check: its names are found, and its types and sorts tested, or what is wrong first.
use Rattle.std.specs.Prelude.{ℕ, ◌==◌, ◌&&◌, not, List, [], ◌∷◌, ◌++◌, map, length, slice_get, Bool, true, false, if◌then◌else◌, Option, Some, None, is_none, Ok, Err, ⊤}
use Rattle.std.specs.List.{list_any, list_all, range_with_len}
use Rattle.fx_expr.specs.declared.values.Ty.{Ty}
use Rattle.fx_expr.specs.declared.values.Ty.TheVariants as ty
use Rattle.fx_expr.specs.Exp.{Exp}
use Rattle.program_form.specs.declared.kinds.KindName.{KindName}
use Rattle.program_form.specs.declared.kinds.KindName.TheVariants as kind
use Rattle.program_form.specs.declared.kinds.MemberMeaning.{MemberMeaning}
use Rattle.program_form.specs.declared.kinds.MemberMeaning.TheVariants as means
use Rattle.program_form.specs.declared.kinds.KindMember.{KindMember}
use Rattle.program_form.specs.declared.kinds.MemberForm.{MemberForm}
use Rattle.program_form.specs.declared.kinds.MemberForm.TheVariants as member_is
use Rattle.program_form.specs.declared.kinds.ChildSort.{ChildSort}
use Rattle.program_form.specs.declared.kinds.ChildSort.TheVariants as stands
use Rattle.program_form.specs.declared.words.Word.{Word}
use Rattle.program_form.specs.declared.words.Word.TheVariants as a_word
use Rattle.program_form.specs.declared.words.WordList.{WordList}
use Rattle.program_form.specs.declared.words.WordList.TheVariants as words
use Rattle.program_form.specs.Form.{PlainForm}
use Rattle.program_form.specs.Handler.{PlainSet}
use Rattle.program_form.specs.Key as written
use Rattle.program_form.specs.Key.{PlainKey}
use Rattle.program_form.specs.Kinds.{members_of}
use Rattle.program_form.specs.Template as template
use Rattle.program_form.specs.Template.{PlainTemplate, PlainMembers, PlainPart, PlainTemplates, PlainSlots}
use Rattle.expr_check.specs.declared.fault.CheckCode.TheVariants.{MissingName, WrongType, WrongSort, Uncertain, OtherDeclared}
use Rattle.expr_check.specs.declared.wants.Want.{Want}
use Rattle.expr_check.specs.declared.wants.Want.TheVariants as want
use Rattle.program_check.specs.declared.places.Amount.{Amount}
use Rattle.program_check.specs.declared.places.Amount.TheVariants.{One, AtMostOne, Any}
use Rattle.program_check.specs.declared.places.Position.{Position}
use Rattle.expr_check.specs.Check.{Check, and_then, given, in_order}
use Rattle.expr_check.specs.Names.{NamedTypes, PlainNames, place_of}
use Rattle.expr_check.specs.Wants.{item_of}
use Rattle.expr_check.specs.Exprs.{TypedExp, or_missing, typed_form}
use Rattle.expr_check.specs.Handlers.{typed_as, checked_handler}
use Rattle.program_check.specs.Body.{KeyExp, local, global, PlainBody, PlainBodyPart, expression, word, name, handler, child, children, props, slots, bodies_in, body_from}
use Rattle.program_check.specs.Shape.{Shape, a_widget, a_value, a_component, a_content, a_choice, a_loop, shape_of}
use Rattle.program_check.specs.Place.{Signature, PlainPlace, expected, or_wrong, index_of, component_of, used_component, sorts_agree}

-- ---- keys and types

-- a local key is a number or a text, a global one a text
abbrev pub is_local_key : Ty → Bool
is_local_key ty.Int = true
is_local_key ty.Text = true
is_local_key t = false

abbrev pub is_global_key : Ty → Bool
is_global_key ty.Text = true
is_global_key t = false

abbrev pub local_key : TypedExp → Check KeyExp
local_key e = given (λ _. local e.exp) (expected (is_local_key e.ty) WrongType)

abbrev pub global_key : TypedExp → Check KeyExp
global_key e = given (λ _. global e.exp) (expected (is_global_key e.ty) WrongType)

abbrev pub checked_key : PlainNames → PlainKey → Check KeyExp
checked_key names (written.local f) = and_then (typed_form names f) local_key
checked_key names (written.global f) = and_then (typed_form names f) global_key

abbrev pub optional_key : PlainNames → Option PlainKey → Check (Option KeyExp)
optional_key names None = Ok None
optional_key names (Some key) = given Some (checked_key names key)

-- the type of a member's expression
abbrev pub want_of : MemberMeaning → Want
want_of means.Length = want.Exactly ty.Int
want_of means.Offset = want.Exactly ty.Int
want_of means.Alignment = want.Exactly ty.Int
want_of means.Color = want.Exactly ty.Int
want_of means.Flex = want.Exactly ty.Int
want_of means.Alpha = want.Exactly ty.Int
want_of means.Extent = want.Exactly ty.Int
want_of means.Widths = want.Exactly ty.Ints
want_of means.Flag = want.Exactly ty.Bool
want_of means.Text = want.Exactly ty.Text
want_of means.List = want.List
want_of means.Any = want.Any

-- ---- a template as it is judged where it stands: whether it is `each`, whether it is certain to give one widget,
-- whether it is a box or a sliver (by the components that it can use), and its check there

pub record Judged : Type 0 where
  pub is_each : Bool
  pub certain : Bool
  pub sort : List Signature → ChildSort
  pub check : PlainPlace → Check PlainBody

-- a member of a template, each template in it judged
pub data JudgedPart : Type 0 where
  of_form : PlainForm → JudgedPart
  of_word : Word → JudgedPart
  of_name : List ℕ → JudgedPart
  of_handler : List PlainSet → JudgedPart
  of_child : Judged → JudgedPart
  of_children : List Judged → JudgedPart
  of_props : List (List ℕ × PlainForm) → JudgedPart
  of_slots : List (List ℕ × Judged) → JudgedPart

-- the members of a template
abbrev pub JudgedParts : Type 0
JudgedParts = List (Option JudgedPart)

abbrev pub joined : {A : Type 0} → Option (Option A) → Option A
joined None = None
joined (Some x) = x

-- the member at a place of the kind's members, where it is given
abbrev pub part_at : JudgedParts → ℕ → Option JudgedPart
part_at ps i = joined (slice_get ps i)

-- the member as an expression, as a name, and as a child, where it is one
abbrev pub form_of : Option JudgedPart → Option PlainForm
form_of (Some (of_form f)) = Some f
form_of p = None

abbrev pub name_of : Option JudgedPart → Option (List ℕ)
name_of (Some (of_name n)) = Some n
name_of p = None

abbrev pub child_of : Option JudgedPart → Option Judged
child_of (Some (of_child j)) = Some j
child_of p = None

-- the same where it has to be one. Programs that are read have no other; here that is a wrong type.
abbrev pub form_in : JudgedParts → ℕ → Check PlainForm
form_in ps i = or_wrong WrongType (form_of (part_at ps i))

abbrev pub name_in : JudgedParts → ℕ → Check (List ℕ)
name_in ps i = or_wrong WrongType (name_of (part_at ps i))

abbrev pub child_in : JudgedParts → ℕ → Check Judged
child_in ps i = or_wrong WrongType (child_of (part_at ps i))

-- the props and the slots that are given, none where the member is left out
abbrev pub props_in : Option JudgedPart → Check (List (List ℕ × PlainForm))
props_in (Some (of_props ps)) = Ok ps
props_in None = Ok []
props_in p = Err WrongType

abbrev pub slots_in : Option JudgedPart → Check (List (List ℕ × Judged))
slots_in (Some (of_slots ss)) = Ok ss
slots_in None = Ok []
slots_in p = Err WrongType

-- ---- what is known of a template before its check

abbrev pub is_each : KindName → Bool
is_each kind.SizedBox = false
is_each kind.ConstrainedBox = false
is_each kind.Padding = false
is_each kind.Align = false
is_each kind.ColoredBox = false
is_each kind.Text = false
is_each kind.Row = false
is_each kind.Column = false
is_each kind.Stack = false
is_each kind.Flexible = false
is_each kind.Positioned = false
is_each kind.Opacity = false
is_each kind.ClipRect = false
is_each kind.RepaintBoundary = false
is_each kind.MergeSemantics = false
is_each kind.IntrinsicWidth = false
is_each kind.IntrinsicHeight = false
is_each kind.Offstage = false
is_each kind.IgnorePointer = false
is_each kind.AbsorbPointer = false
is_each kind.Detector = false
is_each kind.Semantics = false
is_each kind.ExcludeSemantics = false
is_each kind.CustomPaint = false
is_each kind.CustomLayout = false
is_each kind.Viewport = false
is_each kind.SliverToBox = false
is_each kind.SliverPadding = false
is_each kind.SliverFixed = false
is_each kind.SliverLazy = false
is_each kind.Keep = false
is_each kind.Wrap = false
is_each kind.Table = false
is_each kind.Inherit = false
is_each kind.Use = false
is_each kind.Slot = false
is_each kind.If = false
is_each kind.Each = true

abbrev pub is_certain : Option Judged → Bool
is_certain (Some j) = j.certain
is_certain None = false

-- `each` isn't certain; an `if` is where both its branches are there and certain
abbrev pub certain : KindName → JudgedParts → Bool
certain kind.SizedBox ps = true
certain kind.ConstrainedBox ps = true
certain kind.Padding ps = true
certain kind.Align ps = true
certain kind.ColoredBox ps = true
certain kind.Text ps = true
certain kind.Row ps = true
certain kind.Column ps = true
certain kind.Stack ps = true
certain kind.Flexible ps = true
certain kind.Positioned ps = true
certain kind.Opacity ps = true
certain kind.ClipRect ps = true
certain kind.RepaintBoundary ps = true
certain kind.MergeSemantics ps = true
certain kind.IntrinsicWidth ps = true
certain kind.IntrinsicHeight ps = true
certain kind.Offstage ps = true
certain kind.IgnorePointer ps = true
certain kind.AbsorbPointer ps = true
certain kind.Detector ps = true
certain kind.Semantics ps = true
certain kind.ExcludeSemantics ps = true
certain kind.CustomPaint ps = true
certain kind.CustomLayout ps = true
certain kind.Viewport ps = true
certain kind.SliverToBox ps = true
certain kind.SliverPadding ps = true
certain kind.SliverFixed ps = true
certain kind.SliverLazy ps = true
certain kind.Keep ps = true
certain kind.Wrap ps = true
certain kind.Table ps = true
certain kind.Inherit ps = true
certain kind.Use ps = true
certain kind.Slot ps = true
certain kind.If ps = is_certain (child_of (part_at ps 1)) && is_certain (child_of (part_at ps 2))
certain kind.Each ps = false

abbrev pub sort_of : List Signature → Option Judged → ChildSort
sort_of earlier (Some j) = j.sort earlier
sort_of earlier None = stands.Any

-- the sort of the component of a name; a `use` of none that is declared before has no sort
abbrev pub sort_found : Option (ℕ × Signature) → ChildSort
sort_found (Some c) = c.1.sort
sort_found None = stands.Any

abbrev pub sort_used : List Signature → Option (List ℕ) → ChildSort
sort_used earlier (Some n) = sort_found (component_of earlier n)
sort_used earlier None = stands.Any

-- `Inherit` has the sort of its child, `use` that of its component's body, `if` that of `then`, `each` that of its body
abbrev pub sort_with : Shape → JudgedParts → List Signature → ChildSort
sort_with (a_widget sort) ps earlier = sort
sort_with a_value ps earlier = sort_of earlier (child_of (part_at ps 2))
sort_with a_component ps earlier = sort_used earlier (name_of (part_at ps 0))
sort_with a_content ps earlier = stands.Box
sort_with a_choice ps earlier = sort_of earlier (child_of (part_at ps 1))
sort_with a_loop ps earlier = sort_of earlier (child_of (part_at ps 2))

abbrev pub sort_in : KindName → JudgedParts → List Signature → ChildSort
sort_in k ps earlier = sort_with (shape_of k) ps earlier

-- ---- a child in its position: how many widgets it gives, then its sort, then the child itself

abbrev pub allowed : Amount → Judged → Bool
allowed One j = j.certain
allowed AtMostOne j = not j.is_each
allowed Any j = true

abbrev pub position : Amount → ChildSort → Position
position amount wanted = record { amount = amount; sort = wanted }

abbrev pub child_at : Position → PlainPlace → Judged → Check PlainBody
child_at p place j =
    and_then (expected (allowed p.amount j) Uncertain) (λ _.
    and_then (expected (sorts_agree p.sort (j.sort place.earlier)) WrongSort) (λ _.
    j.check place))

abbrev pub children_at : Position → PlainPlace → List Judged → Check (List PlainBody)
children_at p place js = in_order (map (child_at p place) js)

-- ---- the members of most kinds, in the table's order

-- a word of the list
abbrev pub is_of : WordList → Word → Bool
is_of words.Main (a_word.Main w) = true
is_of words.Cross (a_word.Cross w) = true
is_of words.Size (a_word.Size w) = true
is_of words.StackFit (a_word.StackFit w) = true
is_of words.FlexFit (a_word.FlexFit w) = true
is_of words.Behavior (a_word.Behavior w) = true
is_of words.Axis (a_word.Axis w) = true
is_of list w = false

-- a child that has to be there is certain
abbrev pub amount_of : Bool → Amount
amount_of true = One
amount_of false = AtMostOne

-- a member as what it has to be, and its check
abbrev pub expression_part : PlainNames → MemberMeaning → JudgedPart → Check PlainBodyPart
expression_part names meaning (of_form f) = given (λ e. expression e.exp) (typed_as names (want_of meaning) f)
expression_part names meaning p = Err WrongType

abbrev pub word_part : WordList → JudgedPart → Check PlainBodyPart
word_part list (of_word w) = given (λ _. word w) (expected (is_of list w) WrongType)
word_part list p = Err WrongType

abbrev pub handler_part : PlainNames → JudgedPart → Check PlainBodyPart
handler_part names (of_handler sets) = given handler (checked_handler names sets)
handler_part names p = Err WrongType

abbrev pub child_part : PlainPlace → Bool → ChildSort → JudgedPart → Check PlainBodyPart
child_part place required wanted (of_child j) = given child (child_at (position (amount_of required) wanted) place j)
child_part place required wanted p = Err WrongType

abbrev pub children_part : PlainPlace → ChildSort → JudgedPart → Check PlainBodyPart
children_part place wanted (of_children js) = given (λ bs. children (bodies_in bs)) (children_at (position Any wanted) place js)
children_part place wanted p = Err WrongType

-- a member that holds no template
abbrev pub leaf_part : PlainNames → MemberForm → JudgedPart → Check PlainBodyPart
leaf_part names (member_is.Expression meaning) p = expression_part names meaning p
leaf_part names (member_is.Word list) p = word_part list p
leaf_part names member_is.Handler p = handler_part names p
leaf_part names s p = Err WrongType

abbrev pub checked_part : PlainPlace → Bool → MemberForm → JudgedPart → Check PlainBodyPart
checked_part place required (member_is.Child wanted) p = child_part place required wanted p
checked_part place required (member_is.Children wanted) p = children_part place wanted p
checked_part place required s p = leaf_part place.names s p

abbrev pub checked_member : PlainPlace → KindMember → Option JudgedPart → Check (Option PlainBodyPart)
checked_member place m None = given (λ _. None) (expected (not m.required) WrongType)
checked_member place m (Some p) = given Some (checked_part place m.required m.form p)

-- the member at a place of the table
abbrev pub checked_entry : PlainPlace → Option KindMember → Option JudgedPart → Check (Option PlainBodyPart)
checked_entry place None p = Err WrongType
checked_entry place (Some m) p = checked_member place m p

-- the first of the members that are left, and those after it
abbrev pub first : JudgedParts → Option JudgedPart
first [] = None
first (p ∷ ps) = p

abbrev pub after : JudgedParts → JudgedParts
after [] = []
after (p ∷ ps) = ps

abbrev pub member_checks : PlainPlace → List KindMember → JudgedParts → List (Check (Option PlainBodyPart))
member_checks place [] ps = []
member_checks place (m ∷ ms) ps = checked_member place m (first ps) ∷ member_checks place ms (after ps)

-- ---- `Inherit`, `slot`, `if`, `each`

-- the members of `Inherit` and `each`: the place of a name, an expression, and a child
abbrev pub named_members : ℕ → Exp → PlainBody → List (Option PlainBodyPart)
named_members i e b = Some (name i) ∷ Some (expression e) ∷ Some (child b) ∷ []

-- the same, where the child, of either sort, is still to be checked
abbrev pub around_child : ℕ → Exp → PlainPlace → Check Judged → Check (List (Option PlainBodyPart))
around_child i e place inner =
    and_then inner (λ j.
    given (named_members i e) (child_at (position One stands.Any) place j))

-- of `Inherit`, after its name: its value, of the name's type, comes before the child
abbrev pub provided_child : ℕ × Ty → PlainPlace → Check PlainForm → Check Judged → Check (List (Option PlainBodyPart))
provided_child p place value inner =
    and_then value (λ f.
    and_then (typed_as place.names (want.Exactly p.1) f) (λ e.
    around_child p.0 e.exp place inner))

-- a name, a value of its type, and a child of either sort
abbrev pub checked_inherit : PlainPlace → JudgedParts → Check (List (Option PlainBodyPart))
checked_inherit place ps =
    and_then (name_in ps 0) (λ n.
    and_then (or_missing (place_of place.provided n)) (λ p.
    provided_child p place (form_in ps 1) (child_in ps 2)))

abbrev pub checked_slot : PlainPlace → JudgedParts → Check (List (Option PlainBodyPart))
checked_slot place ps =
    and_then (name_in ps 0) (λ n.
    given (λ i. Some (name i) ∷ []) (or_wrong MissingName (index_of place.slots n)))

-- `else` wants the sort of `then`
abbrev pub checked_else : ChildSort → PlainPlace → JudgedParts → Check (Option PlainBodyPart)
checked_else wanted place ps =
    if is_none (part_at ps 2) then Ok None
    else and_then (child_in ps 2) (λ j. given (λ b. Some (child b)) (child_at (position AtMostOne wanted) place j))

-- the members of `if`: a condition, a child, and another, where it is given
abbrev pub chosen_members : Exp → PlainBody → Option PlainBodyPart → List (Option PlainBodyPart)
chosen_members cond b other = Some (expression cond) ∷ Some (child b) ∷ other ∷ []

-- of `if`, after its condition: `then` comes before `else`
abbrev pub branches : Exp → PlainPlace → Check Judged → JudgedParts → Check (List (Option PlainBodyPart))
branches cond place inner ps =
    and_then inner (λ j.
    and_then (child_at (position AtMostOne stands.Any) place j) (λ b.
    given (chosen_members cond b) (checked_else (j.sort place.earlier) place ps)))

abbrev pub checked_if : PlainPlace → JudgedParts → Check (List (Option PlainBodyPart))
checked_if place ps =
    and_then (form_in ps 0) (λ f.
    and_then (typed_as place.names (want.Exactly ty.Bool) f) (λ e.
    branches e.exp place (child_in ps 1) ps))

-- the place inside a loop: one more variable
abbrev pub names_with : NamedTypes → PlainNames → PlainNames
names_with vars names = record { fields = names.fields; props = names.props; vars = vars; inherited = names.inherited; event = names.event }

abbrev pub place_inside : NamedTypes → PlainPlace → PlainPlace
place_inside vars place = record { names = names_with vars place.names; provided = place.provided; slots = place.slots; earlier = place.earlier; later = place.later }

-- of `each`: the variables of the loops around its body, the last of them for an item of its list, and the list
abbrev pub loop_list : PlainPlace → JudgedParts → Check (NamedTypes × Exp)
loop_list place ps =
    and_then (name_in ps 0) (λ n.
    and_then (form_in ps 1) (λ f.
    given (λ e. (place.names.vars ++ (n, item_of e.ty) ∷ [], e.exp)) (typed_as place.names want.List f)))

-- of `each`, after its list: the child stands inside the loop
abbrev pub loop_child : PlainPlace → Check Judged → NamedTypes × Exp → Check (List (Option PlainBodyPart))
loop_child place inner l = around_child (length place.names.vars) l.1 (place_inside l.0 place) inner

abbrev pub checked_each : PlainPlace → JudgedParts → Check (List (Option PlainBodyPart))
checked_each place ps = and_then (loop_list place ps) (loop_child place (child_in ps 2))

-- ---- `use`

-- each place below a count is among these
abbrev pub all_there : ℕ → List ℕ → Bool
all_there count places = list_all (λ place. list_any (λ given. given == place) places) (range_with_len 0 count)

-- the first that is given at a place
abbrev pub given_at : {A : Type 0} → List (ℕ × A) → ℕ → Option A
given_at [] place = None
given_at (g ∷ gs) place = if g.0 == place then Some g.1 else given_at gs place

-- what is given at each place below a count, in order
abbrev pub arranged : {A : Type 0} → ℕ → List (ℕ × A) → Check (List A)
arranged count gs = in_order (map (λ place. or_wrong OtherDeclared (given_at gs place)) (range_with_len 0 count))

-- the place of a prop that is given, among those declared
abbrev pub prop_place : NamedTypes → List ℕ × PlainForm → Check ℕ
prop_place declared g = given (λ d. d.0) (or_wrong OtherDeclared (place_of declared g.0))

-- a prop that is given: its expression, and then its type
abbrev pub checked_prop : PlainNames → NamedTypes → List ℕ × PlainForm → Check (ℕ × Exp)
checked_prop names declared g =
    and_then (or_wrong OtherDeclared (place_of declared g.0)) (λ d.
    given (λ e. (d.0, e.exp)) (typed_as names (want.Exactly d.1) g.1))

-- those given are declared, and all that are declared are given: both are one rule, so which is tested first can't be seen
abbrev pub props_placed : NamedTypes → List (List ℕ × PlainForm) → Check ⊤
props_placed declared gs =
    and_then (in_order (map (prop_place declared) gs)) (λ places.
    expected (all_there (length declared) places) OtherDeclared)

-- then each that is given, in the order of their names
abbrev pub checked_props : PlainNames → NamedTypes → List (List ℕ × PlainForm) → Check (List Exp)
checked_props names declared gs =
    and_then (props_placed declared gs) (λ _.
    and_then (in_order (map (checked_prop names declared) gs)) (arranged (length declared)))

-- the same of slots; the content of a slot is one box
abbrev pub slot_place : List (List ℕ) → List ℕ × Judged → Check ℕ
slot_place declared g = or_wrong OtherDeclared (index_of declared g.0)

abbrev pub slots_placed : List (List ℕ) → List (List ℕ × Judged) → Check ⊤
slots_placed declared gs =
    and_then (in_order (map (slot_place declared) gs)) (λ places.
    expected (all_there (length declared) places) OtherDeclared)

abbrev pub checked_slot_content : PlainPlace → List (List ℕ) → List ℕ × Judged → Check (ℕ × PlainBody)
checked_slot_content place declared g =
    and_then (slot_place declared g) (λ i. given (λ b. (i, b)) (child_at (position One stands.Box) place g.1))

abbrev pub checked_slots : PlainPlace → List (List ℕ) → List (List ℕ × Judged) → Check (List PlainBody)
checked_slots place declared gs =
    and_then (slots_placed declared gs) (λ _.
    and_then (in_order (map (checked_slot_content place declared) gs)) (arranged (length declared)))

-- the members of `use`: a component's place, its props, and its slots' contents
abbrev pub used_members : ℕ → List Exp → List PlainBody → List (Option PlainBodyPart)
used_members i es bs = Some (name i) ∷ Some (props es) ∷ Some (slots (bodies_in bs)) ∷ []

-- of `use`, after the component's place and its props: what its slots are given
abbrev pub filled : ℕ → List Exp → List (List ℕ) → PlainPlace → Check (List (List ℕ × Judged)) → Check (List (Option PlainBodyPart))
filled i es declared place contents =
    and_then contents (λ given_slots.
    given (used_members i es) (checked_slots place declared given_slots))

-- the props, and then the slots
abbrev pub checked_use : PlainPlace → ℕ × Signature → JudgedParts → Check (List (Option PlainBodyPart))
checked_use place c ps =
    and_then (props_in (part_at ps 1)) (λ given_props.
    and_then (checked_props place.names c.1.props given_props) (λ es.
    filled c.0 es c.1.slots place (slots_in (part_at ps 2))))

-- ---- a template: its component, its key, and then its members

abbrev pub checked_members : KindName → PlainPlace → JudgedParts → Check (List (Option PlainBodyPart))
checked_members kind.Inherit place ps = checked_inherit place ps
checked_members kind.Slot place ps = checked_slot place ps
checked_members kind.If place ps = checked_if place ps
checked_members kind.Each place ps = checked_each place ps
checked_members k place ps = in_order (member_checks place (members_of k) ps)

abbrev pub checked_keyed : KindName → Option PlainKey → PlainPlace → (⊤ → Check (List (Option PlainBodyPart))) → Check PlainBody
checked_keyed k key place members =
    and_then (optional_key place.names key) (λ found. given (body_from k found) (members tt))

abbrev pub checked_template : KindName → Option PlainKey → JudgedParts → PlainPlace → Check PlainBody
checked_template kind.Use key ps place =
    and_then (name_in ps 0) (λ n.
    and_then (used_component place n) (λ c.
    checked_keyed kind.Use key place (λ _. checked_use place c ps)))
checked_template k key ps place = checked_keyed k key place (λ _. checked_members k place ps)

-- a template, judged by its kind, its key and its members
abbrev pub judged_by : KindName → Option PlainKey → JudgedParts → Judged
judged_by k key ps = record { is_each = is_each k; certain = certain k ps; sort = sort_in k ps; check = checked_template k key ps }

unfoldable mutual
  pub judged : PlainTemplate → Judged
  judged (template.template k key ms) = judged_by k key (judged_members ms)

  pub judged_members : PlainMembers → JudgedParts
  judged_members template.no_members = []
  judged_members (template.left_out ms) = None ∷ judged_members ms
  judged_members (template.member p ms) = Some (judged_part p) ∷ judged_members ms

  pub judged_part : PlainPart → JudgedPart
  judged_part (template.expression f) = of_form f
  judged_part (template.word w) = of_word w
  judged_part (template.name n) = of_name n
  judged_part (template.handler sets) = of_handler sets
  judged_part (template.child t) = of_child (judged t)
  judged_part (template.children ts) = of_children (judged_templates ts)
  judged_part (template.props ps) = of_props ps
  judged_part (template.slots ss) = of_slots (judged_slots ss)

  pub judged_templates : PlainTemplates → List Judged
  judged_templates template.no_templates = []
  judged_templates (template.one_template t ts) = judged t ∷ judged_templates ts

  pub judged_slots : PlainSlots → List (List ℕ × Judged)
  judged_slots template.no_slots = []
  judged_slots (template.slot n t ss) = (n, judged t) ∷ judged_slots ss
