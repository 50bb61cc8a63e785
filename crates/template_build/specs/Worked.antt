-- Outputs of small templates, worked by hand.
use Rattle.std.specs.Prelude.{◌≡◌, ℕ, ◌^◌, ℤ, pos, negsuc, Bool, true, false, Option, Some, None, List, [], ◌∷◌}
use Rattle.fx_expr.specs.declared.values.Value.{Value}
use Rattle.fx_expr.specs.declared.values.Value.TheVariants as value
use Rattle.fx_expr.specs.declared.values.Ty.TheVariants as ty
use Rattle.fx_expr.specs.declared.handlers.Handler.{Handler}
use Rattle.fx_expr.specs.Exp as exp
use Rattle.fx_expr.specs.Exp.{Exp}
use Rattle.fx_geom.specs.declared.words.MainAlign.TheVariants as main
use Rattle.fx_geom.specs.declared.words.CrossAlign.TheVariants as cross
use Rattle.fx_geom.specs.declared.words.StackFit.TheVariants as stack_fit
use Rattle.widget_model.specs.declared.decl.Decl.{Decl}
use Rattle.widget_model.specs.declared.words.MainSize.TheVariants as main_size
use Rattle.widget_model.specs.declared.words.FlexFit.TheVariants as flex_fit
use Rattle.widget_model.specs.declared.words.Behavior.TheVariants as behaves
use Rattle.widget_keys.specs.declared.keys.Key.TheVariants as key
use Rattle.widget_model.specs.Look as look
use Rattle.widget_model.specs.Look.{Look}
use Rattle.widget_model.specs.Plain.{PlainWidget, plain, no_widgets, widgets_of}
use Rattle.widget_model.specs.Typed.{box, Declarations}
use Rattle.program_form.specs.declared.kinds.KindName.{KindName}
use Rattle.program_form.specs.declared.kinds.KindName.TheVariants as kind
use Rattle.program_check.specs.Body.{local, global, PlainBody, body, PlainBodyPart, expression, name, handler, child, children, props, slots, members_in, bodies_in}
use Rattle.template_build.specs.Scene.{Scene}
use Rattle.template_build.specs.Output.{output_of}

-- ---- a scene: one field, a number; one prop, a number; one inherited text; one content given; node 9. The program
-- declares one component, of one prop and one slot, which has the name `A`.

abbrev pub number : ℤ → Value
number z = value.Int z

abbrev pub lone : Look → PlainWidget
lone l = plain l key.None no_widgets no_widgets

abbrev pub around : Look → List PlainWidget → PlainWidget
around l ws = plain l key.None no_widgets (widgets_of ws)

abbrev pub card : Decl
card = record { name = 65 ∷ []; fields = ([], ty.Int) ∷ []; inherited = 0 ∷ [] }

abbrev pub declared : Declarations
declared = record { components = record { declaration = card; props = ty.Int ∷ []; slots = 1; body = box } ∷ []; inherited = ty.Text ∷ [] }

abbrev pub content : PlainWidget
content = lone look.clip_rect

abbrev pub here : Scene
here = record {
  env = record { fields = number (pos 3) ∷ []; props = number (pos 5) ∷ []; vars = []; inherited = value.Text (72 ∷ []) ∷ []; dx = pos 0; dy = pos 0 };
  given = content ∷ [];
  owner = 9;
  declared = declared;
}

-- ---- templates

abbrev pub a_number : ℤ → PlainBodyPart
a_number z = expression (exp.literal (number z))

abbrev pub a_flag : Bool → PlainBodyPart
a_flag b = expression (exp.literal (value.Bool b))

abbrev pub a : KindName → List (Option PlainBodyPart) → PlainBody
a k ps = body k None (members_in ps)

abbrev pub width_of : Exp → PlainBody
width_of e = a kind.SizedBox (Some (expression e) ∷ None ∷ None ∷ [])

abbrev pub empty : PlainBody
empty = a kind.SizedBox (None ∷ None ∷ None ∷ [])

abbrev pub if_else : Bool → PlainBody → Option PlainBodyPart → PlainBody
if_else b one other = a kind.If (Some (a_flag b) ∷ Some (child one) ∷ other ∷ [])

-- a loop over the numbers from 0 to one less than this
abbrev pub each : ℕ → ℤ → PlainBody → PlainBody
each place n b = a kind.Each (Some (name place) ∷ Some (expression (exp.range (exp.literal (number n)))) ∷ Some (child b) ∷ [])

abbrev pub column_of : List PlainBody → PlainBody
column_of bs = a kind.Column (None ∷ None ∷ None ∷ Some (children (bodies_in bs)) ∷ [])

abbrev pub a_column : List PlainWidget → PlainWidget
a_column ws = around (look.column main.Start cross.Center main_size.Max) ws

abbrev pub sized : Option ℕ → PlainWidget
sized width = lone (look.sized_box width None)

-- sets the field to the sum of the field and the prop
abbrev pub a_handler : PlainBodyPart
a_handler = handler ((0, exp.add (exp.field 0) (exp.prop 0)) ∷ [])

abbrev pub handled : Handler
handled = record { owner = 9; sets = (0, exp.add (exp.field 0) (exp.literal (number (pos 5)))) ∷ [] }

abbrev pub tapped : Option PlainBodyPart → PlainBody
tapped inner = a kind.Detector (None ∷ Some a_handler ∷ None ∷ None ∷ None ∷ None ∷ inner ∷ [])

abbrev pub Gives : PlainBody → List PlainWidget → Type 0
Gives b ws = output_of b here ≡ ws

pub record WorkedOutputs : Type 0 where
  -- a length is at most 2^40, and one that is left out stays so
  pub lengths : Gives (width_of (exp.literal (number (pos 2000000000000)))) (sized (Some (2 ^ 40)) ∷ [])
  -- a negative length is 0, and so is one that is left out where it has to be there
  pub insets : Gives (a kind.Padding (Some (a_number (negsuc 4)) ∷ Some (a_number (pos 4)) ∷ None ∷ None ∷ None ∷ [])) (lone (look.padding 0 4 0 0) ∷ [])
  pub alignments : Gives (a kind.Align (Some (a_number (pos 101)) ∷ None ∷ None ∷ [])) (lone (look.align (pos 100) (pos 0)) ∷ [])
  pub stacks : Gives (a kind.Stack (None ∷ Some (a_number (negsuc 199)) ∷ None ∷ None ∷ [])) (lone (look.stack (negsuc 99) (negsuc 99) stack_fit.Loose) ∷ [])
  pub colors : Gives (a kind.Text (Some (expression (exp.inherited 0)) ∷ None ∷ [])) (lone (look.text (72 ∷ []) 4278190080) ∷ [])
  pub opaque_white : Gives (a kind.ColoredBox (Some (a_number (pos 4294967296)) ∷ None ∷ [])) (lone (look.colored_box 4294967295) ∷ [])
  pub flexes : Gives (a kind.Flexible (None ∷ None ∷ Some (child empty) ∷ [])) (around (look.flexible 1 flex_fit.Loose) (sized None ∷ []) ∷ [])
  pub placed : Gives (a kind.Positioned (Some (a_number (negsuc 2000000000000)) ∷ None ∷ None ∷ None ∷ None ∷ None ∷ Some (child empty) ∷ []))
      (around (look.positioned (Some (negsuc 1099511627775)) None None None None None) (sized None ∷ []) ∷ [])
  pub extents : Gives (a kind.SliverFixed (Some (a_number (pos 0)) ∷ None ∷ [])) (lone (look.sliver_fixed 1) ∷ [])
  -- a detector without a behavior, around nothing and around a child
  pub over_nothing : Gives (tapped (Some (child (if_else false empty None)))) (lone (look.detector behaves.Translucent (Some handled) None None None None) ∷ [])
  pub over_child : Gives (tapped (Some (child empty))) (around (look.detector behaves.Defer (Some handled) None None None None) (sized None ∷ []) ∷ [])
  -- the branch that is taken
  pub then_taken : Gives (if_else true empty (Some (child (column_of [])))) (sized None ∷ [])
  pub else_taken : Gives (if_else false empty (Some (child (column_of [])))) (a_column [] ∷ [])
  -- the items of a loop stand among the other children
  pub spliced : Gives (column_of (each 0 (pos 2) (width_of (exp.variable 0)) ∷ empty ∷ [])) (a_column (sized (Some 0) ∷ sized (Some 1) ∷ sized None ∷ []) ∷ [])
  -- a loop in a loop has the next place for its variable
  pub nested : Gives (column_of (each 0 (pos 2) (column_of (each 1 (pos 2) (width_of (exp.add (exp.variable 0) (exp.variable 1))) ∷ [])) ∷ []))
      (a_column (a_column (sized (Some 0) ∷ sized (Some 1) ∷ []) ∷ a_column (sized (Some 1) ∷ sized (Some 2) ∷ []) ∷ []) ∷ [])
  pub given : Gives (a kind.Slot (Some (name 0) ∷ [])) (content ∷ [])
  -- a component: its props, its slots, and what it declares. What stands in its slots is evaluated here.
  pub used : Gives (body kind.Use (Some (local (exp.field 0))) (members_in (Some (name 0) ∷ Some (props (exp.prop 0 ∷ [])) ∷ Some (slots (bodies_in (tapped None ∷ []))) ∷ [])))
      (plain (look.component 0 (number (pos 5) ∷ []) card) (key.Local (number (pos 3)))
      (widgets_of (lone (look.detector behaves.Translucent (Some handled) None None None None) ∷ [])) no_widgets ∷ [])
  pub provided : Gives (body kind.Inherit (Some (global (exp.inherited 0))) (members_in (Some (name 0) ∷ Some (expression (exp.literal (value.Text []))) ∷ Some (child empty) ∷ [])))
      (plain (look.inherit 0 (value.Text [])) (key.Global (value.Text (72 ∷ []))) no_widgets (widgets_of (sized None ∷ [])) ∷ [])
