-- What the steps of a build promise: what they append to a list of widgets, and where they may stop.
use Rattle.std.specs.Prelude.{◌≡◌, ℕ, ◌<◌, ◌≤◌, Bool, true, false, List, ◌++◌, map, Option, Some, None, option_map, slice_get, flat_map, Result, IfOk, Err}
use Rattle.std.specs.declared.rc.Rc.{Rc}
use Rattle.std.specs.declared.alloc.Global.{Global}
use denote.Ref.{Bor}
use Rattle.program_form.specs.declared.kinds.KindName.{KindName}
use Rattle.widget_model.specs.declared.widgets.Widget.{Widget}
use Rattle.widget_model.specs.Plain.{PlainWidget}
use Rattle.widget_model.specs.Size.{count_in}
use Rattle.widget_model.specs.Sized.{AreSized}
use Rattle.widget_model.specs.View.{shared}
use Rattle.program_check.specs.declared.checked.BodyPart.{BodyPart}
use Rattle.program_check.specs.Body.{KeyExp, BodyMembers, no_members, left_out, member, PlainBodyPart, expression, word, name, handler, child, children, props, slots, PlainBodies, no_bodies, one_body, part_depth}
use Rattle.program_check.specs.BodyView.{plain_body_part}
use Rattle.program_check.specs.TypedBody.{Surroundings, IsTypedBody}
use Rattle.template_build.specs.declared.faults.BuildFault.{BuildFault}
use Rattle.template_build.specs.declared.faults.BuildFault.TheVariants as fault
use Rattle.template_build.specs.declared.roles.TemplateRole.{TemplateRole}
use Rattle.template_build.specs.declared.roles.TemplateRole.TheVariants as gives
use Rattle.fx_expr.specs.declared.values.Value.{Value}
use Rattle.template_build.specs.Scene.{Scene, inside}
use Rattle.template_build.specs.Output.{Gives, given_by, output_in, widget_over, component_over}
use Rattle.template_build.specs.Suits.{Suits}

-- ---- what is appended

-- widgets, of so many widgets in all, for which there was room
pub record IsAdded (ws : List PlainWidget) (room : ℕ) (old new : List (Rc Widget Global)) (n : ℕ) : Type 0 where
  pub widgets : map shared new ≡ map shared old ++ ws
  pub sizes : AreSized new
  pub size : n ≡ count_in ws
  pub within : n ≤ room

abbrev pub AddsWidgets : List PlainWidget → ℕ → List (Rc Widget Global) → List (Rc Widget Global) → Result ℕ BuildFault → Type 0
AddsWidgets ws room old new result = IfOk result (IsAdded ws room old new)

-- a build is too large only where there is no room
abbrev pub HasCause : List PlainWidget → ℕ → Result ℕ BuildFault → Type 0
HasCause ws room result = result ≡ Err fault.OutputTooLarge → room < count_in ws

-- ---- the members of a template that hold others

-- a member of the program's, as plain data
abbrev pub plain_part : Option (Bor BodyPart) → Option PlainBodyPart
plain_part p = option_map (λ p. plain_body_part p.now) p

-- what a member gives, where it is given and holds templates
abbrev pub part_output : Option PlainBodyPart → Gives
part_output p = given_by (option_map output_in p)

abbrev pub depth_in : Option PlainBodyPart → ℕ
depth_in None = 0
depth_in (Some p) = part_depth p

abbrev pub holds : PlainBodyPart → Bool
holds (expression e) = false
holds (word w) = false
holds (name i) = false
holds (handler sets) = false
holds (child b) = true
holds (children bs) = true
holds (props es) = false
holds (slots bs) = true

abbrev pub this_or : PlainBodyPart → Bool → Option PlainBodyPart → Option PlainBodyPart
this_or p true later = Some p
this_or p false later = later

-- the first member that holds templates
abbrev pub holder_in : BodyMembers → Option PlainBodyPart
holder_in no_members = None
holder_in (left_out ms) = holder_in ms
holder_in (member p ms) = this_or p (holds p) (holder_in ms)

-- ---- templates that are typed where they stand, in scenes that suit that place

abbrev pub AreTypedTemplates : Surroundings → PlainBodies → Type 0
AreTypedTemplates S no_bodies = Unit {0}
AreTypedTemplates S (one_body b bs) = IsTypedBody S b × AreTypedTemplates S bs

abbrev pub AreTypedWithin : Surroundings → Option PlainBodyPart → Type 0
AreTypedWithin S None = Unit {0}
AreTypedWithin S (Some (expression e)) = Unit {0}
AreTypedWithin S (Some (word w)) = Unit {0}
AreTypedWithin S (Some (name i)) = Unit {0}
AreTypedWithin S (Some (handler sets)) = Unit {0}
AreTypedWithin S (Some (child b)) = IsTypedBody S b
AreTypedWithin S (Some (children bs)) = AreTypedTemplates S bs
AreTypedWithin S (Some (props es)) = Unit {0}
AreTypedWithin S (Some (slots bs)) = AreTypedTemplates S bs

pub record IsPartBuiltIn (s : Scene) (p : Option PlainBodyPart) : Type 0 where
  pub there : Surroundings
  pub suits : Suits there s
  pub typed : AreTypedWithin there p

pub record AreAllBuiltIn (s : Scene) (bs : PlainBodies) : Type 0 where
  pub there : Surroundings
  pub suits : Suits there s
  pub typed : AreTypedTemplates there bs

-- a member at each item of a list
abbrev pub AreItemsBuiltIn : Scene → List Value → Option PlainBodyPart → Type 0
AreItemsBuiltIn s vs p = (i : ℕ) (v : Value) → slice_get vs i ≡ Some v → IsPartBuiltIn (inside v s) p

abbrev pub items_output : Option PlainBodyPart → Scene → List Value → List PlainWidget
items_output p s vs = flat_map (λ v. part_output p (inside v s)) vs

-- ---- templates that make a widget

abbrev pub makes_widget : TemplateRole → Bool
makes_widget gives.Widget = true
makes_widget gives.Component = true
makes_widget gives.Content = false
makes_widget gives.Choice = false
makes_widget gives.Loop = false

-- the widget of a template with the widgets below it
abbrev pub made_over : TemplateRole → KindName → Option KeyExp → BodyMembers → Scene → List PlainWidget → PlainWidget
made_over gives.Component k key ms s ws = component_over k key ms s ws
made_over r k key ms s ws = widget_over k key ms s ws
