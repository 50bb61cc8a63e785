-- A template's output: the widgets that it gives in a scene. A template of most kinds gives one; `slot` what was given,
-- `if` what the branch gives that it takes, `each` what its body gives at each item, in order.
use Rattle.std.specs.Prelude.{ℕ, Bool, true, false, if◌then◌else◌, List, [], ◌∷◌, ◌++◌, map, flat_map, Option, Some, None, slice_get}
use Rattle.fx_expr.specs.declared.values.Value.{Value}
use Rattle.fx_expr.specs.declared.values.Value.TheVariants as value
use Rattle.program_form.specs.declared.kinds.KindName.{KindName}
use Rattle.program_check.specs.Body.{KeyExp, PlainBody, body, BodyMembers, no_members, left_out, member, PlainBodyPart, expression, word, name, handler, child, children, props, slots, PlainBodies, no_bodies, one_body}
use Rattle.widget_model.specs.Plain.{PlainWidget, plain, no_widgets, widgets_of}
use Rattle.template_build.specs.declared.roles.TemplateRole.{TemplateRole}
use Rattle.template_build.specs.declared.roles.TemplateRole.TheVariants as gives
use Rattle.template_build.specs.Scene.{Scene, inside}
use Rattle.template_build.specs.TemplateRole.{template_role_of}
use Rattle.template_build.specs.Members.{value_or_zero, flag_or, name_at, key_in}
use Rattle.template_build.specs.Looks.{look_by}

-- the widgets that something gives in a scene
abbrev pub Gives : Type 0
Gives = Scene → List PlainWidget

-- what the member at a place gives, where it holds templates; nothing where it holds none
abbrev pub given_by : Option (Option Gives) → Gives
given_by (Some (Some g)) s = g s
given_by (Some None) s = []
given_by None s = []

abbrev pub given_at : List (Option Gives) → ℕ → Gives
given_at gs i = given_by (slice_get gs i)

-- what the first member gives that holds templates: no kind of widget has two
abbrev pub given_below : List (Option Gives) → Gives
given_below [] s = []
given_below (None ∷ gs) s = given_below gs s
given_below (Some g ∷ gs) s = g s

-- the items of a list, each as a value
abbrev pub items_in : Value → List Value
items_in (value.Ints ns) = map value.Int ns
items_in (value.Texts ts) = map value.Text ts
items_in v = []

abbrev pub some_or_none : Option PlainWidget → List PlainWidget
some_or_none (Some w) = w ∷ []
some_or_none None = []

abbrev pub are_any : List PlainWidget → Bool
are_any [] = false
are_any (w ∷ ws) = true

-- the widget of a template with the widgets below it: a component has them in its slots, any other as children
abbrev pub widget_over : KindName → Option KeyExp → BodyMembers → Scene → List PlainWidget → PlainWidget
widget_over k key ms s ws = plain (look_by k ms s (are_any ws)) (key_in key s) no_widgets (widgets_of ws)

abbrev pub component_over : KindName → Option KeyExp → BodyMembers → Scene → List PlainWidget → PlainWidget
component_over k key ms s ws = plain (look_by k ms s (are_any ws)) (key_in key s) (widgets_of ws) no_widgets

-- a template's output, by its kind, its key, its members, and what those of its members give that hold templates
abbrev pub output_by : TemplateRole → KindName → Option KeyExp → BodyMembers → List (Option Gives) → Gives
output_by gives.Widget k key ms gs s = widget_over k key ms s (given_below gs s) ∷ []
output_by gives.Component k key ms gs s = component_over k key ms s (given_below gs s) ∷ []
output_by gives.Content k key ms gs s = some_or_none (slice_get s.given (name_at ms 0))
output_by gives.Choice k key ms gs s = if flag_or false ms 0 s then given_at gs 1 s else given_at gs 2 s
output_by gives.Loop k key ms gs s = flat_map (λ v. given_at gs 2 (inside v s)) (items_in (value_or_zero ms 1 s))

unfoldable mutual
  pub output_of : PlainBody → Gives
  output_of (body k key ms) s = output_by (template_role_of k) k key ms (outputs_in ms) s

  -- of each member, what it gives where it holds templates
  pub outputs_in : BodyMembers → List (Option Gives)
  outputs_in no_members = []
  outputs_in (left_out ms) = None ∷ outputs_in ms
  outputs_in (member p ms) = output_in p ∷ outputs_in ms

  pub output_in : PlainBodyPart → Option Gives
  output_in (expression e) = None
  output_in (word w) = None
  output_in (name i) = None
  output_in (handler sets) = None
  output_in (child b) = Some (output_of b)
  output_in (children bs) = Some (outputs_of bs)
  output_in (props es) = None
  output_in (slots bs) = Some (outputs_of bs)

  pub outputs_of : PlainBodies → Gives
  outputs_of no_bodies s = []
  outputs_of (one_body b bs) s = output_of b s ++ outputs_of bs s
