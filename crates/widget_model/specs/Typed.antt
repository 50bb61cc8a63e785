-- When a widget is typed over a program's declarations: what they ask of its members, its slots and its children.
use Rattle.std.specs.Prelude.{◌≡◌, ℕ, ◌^◌, ◌<◌, ◌≤◌, ℤ, pos, negsuc, ◌≤ℤ◌, Option, Some, None, IfSome, List, [], ◌∷◌, length, map, slice_get}
use Rattle.fx_geom.specs.Offset.{IsPlacement}
use Rattle.fx_expr.specs.declared.values.Value.{Value}
use Rattle.fx_expr.specs.declared.values.Ty.{Ty}
use Rattle.fx_expr.specs.Value.{type_of}
use Rattle.widget_model.specs.declared.decl.Decl.{Decl}
use Rattle.widget_model.specs.Look.{Look, sized_box, constrained_box, padding, align, colored_box, text, row, column, wrap, table, stack, flexible, positioned, opacity, clip_rect, repaint_boundary, merge_semantics, intrinsic_width, intrinsic_height, offstage, ignore_pointer, absorb_pointer, detector, semantics, exclude_semantics, custom_paint, custom_layout, viewport, sliver_to_box, sliver_padding, sliver_fixed, sliver_lazy, keep, inherit, component}
use Rattle.widget_model.specs.Plain.{PlainWidget, plain, Widgets, no_widgets, more}

-- what a widget is for its parent: a box, or a part of a scrolled list
pub data Sort : Type 0 where
  box sliver : Sort

-- a component of a program, as far as a use of it goes: what it declares, the types of its props, how many slots it
-- has, and the sort of its body
pub record ComponentType : Type 0 where
  pub declaration : Decl
  pub props : List Ty
  pub slots : ℕ
  pub body : Sort

-- the components of a program, and the types of its inherited names, each in its order
pub record Declarations : Type 0 where
  pub components : List ComponentType
  pub inherited : List Ty

-- fields are those that are declared, in number and types
abbrev pub AreTypedFields : Decl → List Value → Type 0
AreTypedFields d fields = map type_of fields ≡ map (λ (f : List ℕ × Ty). f.1) d.fields

-- the ranges of members: lengths, alignments, colors and extents; a place is a placement
abbrev pub IsLength : ℕ → Type 0
IsLength n = n ≤ 2 ^ 40

abbrev pub IsAlignment : ℤ → Type 0
IsAlignment z = (negsuc 99 ≤ℤ z) × (z ≤ℤ pos 100)

abbrev pub IsColor : ℕ → Type 0
IsColor n = n < 2 ^ 32

abbrev pub IsExtent : ℕ → Type 0
IsExtent n = (1 ≤ n) × IsLength n

-- the members lie in their ranges; an Inherit names an inherited name of the program and has a value of its type
abbrev pub FitMembers : Declarations → Look → Type 0
FitMembers p (sized_box width height) = IfSome width IsLength × IfSome height IsLength
FitMembers p (constrained_box min_width max_width min_height max_height) =
    IsLength min_width × IfSome max_width IsLength × IsLength min_height × IfSome max_height IsLength
FitMembers p (padding left top right bottom) = IsLength left × IsLength top × IsLength right × IsLength bottom
FitMembers p (align ax ay) = IsAlignment ax × IsAlignment ay
FitMembers p (colored_box color) = IsColor color
FitMembers p (text words color) = IsColor color
FitMembers p (row main cross size) = Unit {0}
FitMembers p (column main cross size) = Unit {0}
FitMembers p (wrap spacing run_spacing) = IsLength spacing × IsLength run_spacing
FitMembers p (table widths) = Unit {0}
FitMembers p (stack ax ay fit) = IsAlignment ax × IsAlignment ay
FitMembers p (flexible flex fit) = flex ≤ 1000000
FitMembers p (positioned left top right bottom width height) =
    IfSome left IsPlacement × IfSome top IsPlacement × IfSome right IsPlacement × IfSome bottom IsPlacement × IfSome width IsLength × IfSome height IsLength
FitMembers p (opacity alpha) = alpha ≤ 255
FitMembers p clip_rect = Unit {0}
FitMembers p repaint_boundary = Unit {0}
FitMembers p merge_semantics = Unit {0}
FitMembers p intrinsic_width = Unit {0}
FitMembers p intrinsic_height = Unit {0}
FitMembers p (offstage hidden) = Unit {0}
FitMembers p (ignore_pointer ignoring) = Unit {0}
FitMembers p (absorb_pointer absorbing) = Unit {0}
FitMembers p (detector behavior tap long vertical horizontal pan) = Unit {0}
FitMembers p (semantics label button container) = Unit {0}
FitMembers p (exclude_semantics excluding) = Unit {0}
FitMembers p (custom_paint delegate) = Unit {0}
FitMembers p (custom_layout delegate) = Unit {0}
FitMembers p (viewport axis) = Unit {0}
FitMembers p sliver_to_box = Unit {0}
FitMembers p (sliver_padding left top right bottom) = IsLength left × IsLength top × IsLength right × IsLength bottom
FitMembers p (sliver_fixed extent) = IsExtent extent
FitMembers p (sliver_lazy extent) = IsExtent extent
FitMembers p (keep kept) = Unit {0}
FitMembers p (inherit name value) = slice_get p.inherited name ≡ Some (type_of value)
FitMembers p (component place props declaration) = Unit {0}

-- the sort of a component's body; a box where the program has no such component
abbrev pub body_of : Option ComponentType → Sort
body_of (Some c) = c.body
body_of None = box

-- the sort of a widget whose first child has a sort: that of the body for a use, that of the child for an Inherit
abbrev pub sort_with : Declarations → Look → Sort → Sort
sort_with p (sized_box width height) child = box
sort_with p (constrained_box min_width max_width min_height max_height) child = box
sort_with p (padding left top right bottom) child = box
sort_with p (align ax ay) child = box
sort_with p (colored_box color) child = box
sort_with p (text words color) child = box
sort_with p (row main cross size) child = box
sort_with p (column main cross size) child = box
sort_with p (wrap spacing run_spacing) child = box
sort_with p (table widths) child = box
sort_with p (stack ax ay fit) child = box
sort_with p (flexible flex fit) child = box
sort_with p (positioned left top right bottom width height) child = box
sort_with p (opacity alpha) child = box
sort_with p clip_rect child = box
sort_with p repaint_boundary child = box
sort_with p merge_semantics child = box
sort_with p intrinsic_width child = box
sort_with p intrinsic_height child = box
sort_with p (offstage hidden) child = box
sort_with p (ignore_pointer ignoring) child = box
sort_with p (absorb_pointer absorbing) child = box
sort_with p (detector behavior tap long vertical horizontal pan) child = box
sort_with p (semantics label button container) child = box
sort_with p (exclude_semantics excluding) child = box
sort_with p (custom_paint delegate) child = box
sort_with p (custom_layout delegate) child = box
sort_with p (viewport axis) child = box
sort_with p sliver_to_box child = sliver
sort_with p (sliver_padding left top right bottom) child = sliver
sort_with p (sliver_fixed extent) child = sliver
sort_with p (sliver_lazy extent) child = sliver
sort_with p (keep kept) child = box
sort_with p (inherit name value) child = child
sort_with p (component place props declaration) child = body_of (slice_get p.components place)

abbrev mutual
  pub sort_of : Declarations → PlainWidget → Sort
  sort_of p (plain l k slots children) = sort_with p l (first_sort p children)

  -- the sort of the first of a list, and a box where there is none
  pub first_sort : Declarations → Widgets → Sort
  first_sort p no_widgets = box
  first_sort p (more w ws) = sort_of p w

abbrev pub sorts_of : Declarations → Widgets → List Sort
sorts_of p no_widgets = []
sorts_of p (more w ws) = sort_of p w ∷ sorts_of p ws

-- each is of the sort
abbrev pub AllAre : Sort → List Sort → Type 0
AllAre s [] = Unit {0}
AllAre s (t ∷ sorts) = (t ≡ s) × AllAre s sorts

-- none or one, of the sort
abbrev pub AtMostOne : Sort → List Sort → Type 0
AtMostOne s [] = Unit {0}
AtMostOne s (t ∷ []) = t ≡ s
AtMostOne s _ = ⊥

-- one, of the sort
abbrev pub JustOne : Sort → List Sort → Type 0
JustOne s sorts = sorts ≡ s ∷ []

-- a use names a component of the program, has what that declares, props of its types, and one box for each of its slots
pub record IsUse (p : Declarations) (place : ℕ) (props : List Value) (d : Decl) (slots : List Sort) : Type 0 where
  pub component : ComponentType
  pub named : slice_get p.components place ≡ Some component
  pub declared : d ≡ component.declaration
  pub typed : map type_of props ≡ component.props
  pub filled : length slots ≡ component.slots
  pub boxes : AllAre box slots

-- a use fills its slots; other kinds are made without any, so of theirs nothing is asked
abbrev pub FitSlots : Declarations → Look → List Sort → Type 0
FitSlots p (sized_box width height) slots = Unit {0}
FitSlots p (constrained_box min_width max_width min_height max_height) slots = Unit {0}
FitSlots p (padding left top right bottom) slots = Unit {0}
FitSlots p (align ax ay) slots = Unit {0}
FitSlots p (colored_box color) slots = Unit {0}
FitSlots p (text words color) slots = Unit {0}
FitSlots p (row main cross size) slots = Unit {0}
FitSlots p (column main cross size) slots = Unit {0}
FitSlots p (wrap spacing run_spacing) slots = Unit {0}
FitSlots p (table widths) slots = Unit {0}
FitSlots p (stack ax ay fit) slots = Unit {0}
FitSlots p (flexible flex fit) slots = Unit {0}
FitSlots p (positioned left top right bottom width height) slots = Unit {0}
FitSlots p (opacity alpha) slots = Unit {0}
FitSlots p clip_rect slots = Unit {0}
FitSlots p repaint_boundary slots = Unit {0}
FitSlots p merge_semantics slots = Unit {0}
FitSlots p intrinsic_width slots = Unit {0}
FitSlots p intrinsic_height slots = Unit {0}
FitSlots p (offstage hidden) slots = Unit {0}
FitSlots p (ignore_pointer ignoring) slots = Unit {0}
FitSlots p (absorb_pointer absorbing) slots = Unit {0}
FitSlots p (detector behavior tap long vertical horizontal pan) slots = Unit {0}
FitSlots p (semantics label button container) slots = Unit {0}
FitSlots p (exclude_semantics excluding) slots = Unit {0}
FitSlots p (custom_paint delegate) slots = Unit {0}
FitSlots p (custom_layout delegate) slots = Unit {0}
FitSlots p (viewport axis) slots = Unit {0}
FitSlots p sliver_to_box slots = Unit {0}
FitSlots p (sliver_padding left top right bottom) slots = Unit {0}
FitSlots p (sliver_fixed extent) slots = Unit {0}
FitSlots p (sliver_lazy extent) slots = Unit {0}
FitSlots p (keep kept) slots = Unit {0}
FitSlots p (inherit name value) slots = Unit {0}
FitSlots p (component place props d) slots = IsUse p place props d slots

-- the children are as many, and of the sorts, that the kind wants
abbrev pub FitChildren : Look → List Sort → Type 0
FitChildren (sized_box width height) children = AtMostOne box children
FitChildren (constrained_box min_width max_width min_height max_height) children = AtMostOne box children
FitChildren (padding left top right bottom) children = AtMostOne box children
FitChildren (align ax ay) children = AtMostOne box children
FitChildren (colored_box color) children = AtMostOne box children
FitChildren (text words color) children = children ≡ []
FitChildren (row main cross size) children = AllAre box children
FitChildren (column main cross size) children = AllAre box children
FitChildren (wrap spacing run_spacing) children = AllAre box children
FitChildren (table widths) children = AllAre box children
FitChildren (stack ax ay fit) children = AllAre box children
FitChildren (flexible flex fit) children = JustOne box children
FitChildren (positioned left top right bottom width height) children = JustOne box children
FitChildren (opacity alpha) children = AtMostOne box children
FitChildren clip_rect children = AtMostOne box children
FitChildren repaint_boundary children = AtMostOne box children
FitChildren merge_semantics children = AtMostOne box children
FitChildren intrinsic_width children = AtMostOne box children
FitChildren intrinsic_height children = AtMostOne box children
FitChildren (offstage hidden) children = AtMostOne box children
FitChildren (ignore_pointer ignoring) children = AtMostOne box children
FitChildren (absorb_pointer absorbing) children = AtMostOne box children
FitChildren (detector behavior tap long vertical horizontal pan) children = AtMostOne box children
FitChildren (semantics label button container) children = AtMostOne box children
FitChildren (exclude_semantics excluding) children = AtMostOne box children
FitChildren (custom_paint delegate) children = AtMostOne box children
FitChildren (custom_layout delegate) children = AtMostOne box children
FitChildren (viewport axis) children = AllAre sliver children
FitChildren sliver_to_box children = AtMostOne box children
FitChildren (sliver_padding left top right bottom) children = AtMostOne sliver children
FitChildren (sliver_fixed extent) children = AllAre box children
FitChildren (sliver_lazy extent) children = AllAre box children
FitChildren (keep kept) children = JustOne box children
FitChildren (inherit name value) children = length children ≡ 1
FitChildren (component place props d) children = children ≡ []

-- all this holds of a widget, and what is to hold of the widgets in its slots and of its children does
pub record HasTypedParts (p : Declarations) (l : Look) (slots children : Widgets) (InSlots Below : Type 0) : Type 0 where
  pub members : FitMembers p l
  pub filled : FitSlots p l (sorts_of p slots)
  pub held : FitChildren l (sorts_of p children)
  pub in_slots : InSlots
  pub below : Below

-- all this holds of the widget, of the widgets in its slots, and of its children
abbrev mutual
  pub IsTypedWidget : Declarations → PlainWidget → Type 0
  IsTypedWidget p (plain l k slots children) = HasTypedParts p l slots children (AreTypedWidgets p slots) (AreTypedWidgets p children)

  pub AreTypedWidgets : Declarations → Widgets → Type 0
  AreTypedWidgets p no_widgets = Unit {0}
  AreTypedWidgets p (more w ws) = IsTypedWidget p w × AreTypedWidgets p ws
