-- What keeps to a version of programs: none of its kinds came later.
use Rattle.std.specs.Prelude.{ℕ, ◌≤◌, IfSome}
use Rattle.std.specs.List.{All}
use Rattle.program_form.specs.declared.kinds.KindName.{KindName}
use Rattle.program_form.specs.Kinds.{since}
use Rattle.program_form.specs.Template.{PlainTemplate}
use Rattle.program_form.specs.Program.{PlainComponent, PlainProgram}
use Rattle.widget_model.specs.Look.{Look, sized_box, constrained_box, padding, align, colored_box, text, row, column, wrap, table, stack, flexible, positioned, opacity, clip_rect, repaint_boundary, merge_semantics, intrinsic_width, intrinsic_height, offstage, ignore_pointer, absorb_pointer, detector, semantics, exclude_semantics, custom_paint, custom_layout, viewport, sliver_to_box, sliver_padding, sliver_fixed, sliver_lazy, keep, inherit, component}
use Rattle.widget_model.specs.Plain.{PlainWidget}
use Rattle.program_check.specs.Body.{PlainBody}
use Rattle.program_check.specs.Checked.{PlainCheckedComponent, PlainChecked}
use Rattle.plain_tree.specs.PlainNode.{PlainNode}
use Rattle.session_form.specs.State.{SessionState}
use Rattle.versioned_kinds.specs.Templates.{KindsMeet, BodyKindsMeet}
use Rattle.versioned_kinds.specs.Widgets.{LooksMeet, WidgetsMeet}

-- ---- of templates

abbrev pub IsOfVersion : ℕ → KindName → Type 0
IsOfVersion version kind = since kind ≤ version

abbrev pub TemplateKeepsTo : ℕ → PlainTemplate → Type 0
TemplateKeepsTo version t = KindsMeet (IsOfVersion version) t

abbrev pub BodyKeepsTo : ℕ → PlainBody → Type 0
BodyKeepsTo version b = BodyKindsMeet (IsOfVersion version) b

-- ---- of widgets

-- the version from which on a kind of widgets is there, as `since` says it of the kind of its template
abbrev pub look_since : Look → ℕ
look_since (sized_box width height) = 1
look_since (constrained_box min_width max_width min_height max_height) = 1
look_since (padding left top right bottom) = 1
look_since (align ax ay) = 1
look_since (colored_box color) = 1
look_since (text words color) = 1
look_since (row main cross size) = 1
look_since (column main cross size) = 1
look_since (wrap spacing run_spacing) = 3
look_since (table widths) = 3
look_since (stack ax ay fit) = 1
look_since (flexible flex fit) = 1
look_since (positioned left top right bottom width height) = 1
look_since (opacity alpha) = 1
look_since clip_rect = 1
look_since repaint_boundary = 1
look_since merge_semantics = 1
look_since intrinsic_width = 1
look_since intrinsic_height = 1
look_since (offstage hidden) = 1
look_since (ignore_pointer ignoring) = 1
look_since (absorb_pointer absorbing) = 1
look_since (detector behavior tap long vertical horizontal pan) = 1
look_since (semantics label button container) = 1
look_since (exclude_semantics excluding) = 1
look_since (custom_paint delegate) = 1
look_since (custom_layout delegate) = 1
look_since (viewport axis) = 1
look_since sliver_to_box = 1
look_since (sliver_padding left top right bottom) = 1
look_since (sliver_fixed extent) = 1
look_since (sliver_lazy extent) = 2
look_since (keep kept) = 2
look_since (inherit name value) = 1
look_since (component place props declaration) = 1

abbrev pub LookIsOf : ℕ → Look → Type 0
LookIsOf version look = look_since look ≤ version

abbrev pub WidgetKeepsTo : ℕ → PlainWidget → Type 0
WidgetKeepsTo version w = LooksMeet (LookIsOf version) w

abbrev pub TreeKeepsTo : ℕ → PlainNode → Type 0
TreeKeepsTo version n = WidgetsMeet (WidgetKeepsTo version) n

-- ---- of programs, and of the state of a session

-- a program, as it is written, keeps to its own version: its root, and the bodies of its components
pub record IsOfItsVersion (p : PlainProgram) : Type 0 where
  pub root : TemplateKeepsTo p.version p.root
  pub components : All (λ (c : PlainComponent). TemplateKeepsTo p.version c.body) p.components

-- so does a checked one
pub record KeepsToVersion (c : PlainChecked) : Type 0 where
  pub root : BodyKeepsTo c.version c.root
  pub components : All (λ (d : PlainCheckedComponent). BodyKeepsTo c.version d.body) c.components

-- a session: its program, the widget of which the next frame makes the tree, and the tree of the last one
pub record StateKeepsToVersion (s : SessionState) : Type 0 where
  pub program : KeepsToVersion s.program
  pub root : WidgetKeepsTo s.program.version s.root
  pub tree : IfSome s.tree (TreeKeepsTo s.program.version)
