-- Checked templates that are typed, and others that aren't, each with what is wrong in it.
use Rattle.std.specs.Prelude.{ℕ, pos, List, [], ◌∷◌, true, false, Some, None}
use Rattle.fx_expr.specs.declared.values.Ty.TheVariants as ty
use Rattle.fx_expr.specs.declared.values.Value.TheVariants as value
use Rattle.fx_expr.specs.Exp as exp
use Rattle.fx_expr.specs.Exp.{Exp}
use Rattle.program_form.specs.declared.kinds.KindName.TheVariants as kind
use Rattle.program_form.specs.declared.kinds.ChildSort.TheVariants as stands
use Rattle.program_check.specs.declared.places.Amount.TheVariants.{One}
use Rattle.program_check.specs.Body.{local, global, PlainBody, body, BodyMembers, no_members, left_out, member, expression, name, handler, child, props, slots, no_bodies, one_body}
use Rattle.program_check.specs.Place.{Signature}
use Rattle.program_check.specs.Judged.{position}
use Rattle.expr_check.specs.Sight.{sight}
use Rattle.program_check.specs.TypedBody.{Surroundings, surroundings, FitsIn, IsTypedBody}

abbrev pub number : Exp
number = exp.literal (value.Int (pos 7))

abbrev pub text : Exp
text = exp.literal (value.Text [])

abbrev pub flag : Exp
flag = exp.literal (value.Bool true)

-- the component 0 is a box with a number for its prop, and one slot; the component 1 is a sliver with neither
abbrev pub card : Signature
card = record { name = []; props = ([], ty.Int) ∷ []; slots = [] ∷ []; sort = stands.Box }

abbrev pub strip : Signature
strip = record { name = []; props = []; slots = []; sort = stands.Sliver }

-- at the root nothing can be named; in a component of one field, a text, and one slot, there is one inherited number too
abbrev pub at_root : Surroundings
at_root = surroundings (sight (record { fields = []; props = []; vars = []; inherited = [] }) false) [] 0 (card ∷ strip ∷ [])

abbrev pub in_component : Surroundings
in_component = surroundings (sight (record { fields = ty.Text ∷ []; props = []; vars = []; inherited = ty.Int ∷ [] }) false) (ty.Int ∷ []) 1 (card ∷ strip ∷ [])

-- ---- templates

abbrev pub sized : Exp → BodyMembers → PlainBody
sized width inner = body kind.SizedBox None (member (expression width) (left_out inner))

abbrev pub around : PlainBody → BodyMembers
around b = member (child b) no_members

abbrev pub empty : BodyMembers
empty = left_out no_members

abbrev pub box : PlainBody
box = sized number empty

abbrev pub sliver : PlainBody
sliver = body kind.SliverToBox None empty

abbrev pub each_of : ℕ → Exp → PlainBody → PlainBody
each_of variable items b = body kind.Each None (member (name variable) (member (expression items) (around b)))

abbrev pub if_then : PlainBody → BodyMembers → PlainBody
if_then b other = body kind.If None (member (expression flag) (member (child b) other))

abbrev pub numbers : Exp
numbers = exp.ints (exp.exp number exp.no_exps)

abbrev pub use_of : ℕ → List Exp → List PlainBody → PlainBody
use_of component es [] = body kind.Use None (member (name component) (member (props es) (member (slots no_bodies) no_members)))
use_of component es (b ∷ bs) = body kind.Use None (member (name component) (member (props es) (member (slots (one_body b no_bodies)) no_members)))

abbrev pub tapped : ℕ → Exp → PlainBody
tapped i e = body kind.Detector None (left_out (member (handler ((i, e) ∷ [])) (left_out (left_out (left_out (left_out (left_out no_members)))))))

abbrev pub slot_at : ℕ → PlainBody
slot_at i = body kind.Slot None (member (name i) no_members)

abbrev pub providing : ℕ → Exp → PlainBody
providing i e = body kind.Inherit None (member (name i) (member (expression e) (around box)))

abbrev pub Untyped : Surroundings → PlainBody → Type 0
Untyped S b = IsTypedBody S b → ⊥

pub record TypedCases : Type 0 where
  -- these are typed
  pub right_box : IsTypedBody at_root (sized number (around box))
  pub right_use : IsTypedBody at_root (use_of 0 (number ∷ []) (box ∷ []))
  pub right_each : IsTypedBody at_root (each_of 0 numbers (sized (exp.variable 0) empty))
  pub right_tap : IsTypedBody in_component (tapped 0 text)
  pub right_event : IsTypedBody in_component (tapped 0 (exp.show exp.event_dx))
  pub right_slot : IsTypedBody in_component (slot_at 0)
  pub right_value : IsTypedBody in_component (providing 0 (exp.inherited 0))
  -- types of members, keys and names
  pub text_width : Untyped at_root (sized text empty)
  pub flag_key : Untyped at_root (body kind.SizedBox (Some (local flag)) (left_out (left_out (left_out no_members))))
  pub number_global : Untyped at_root (body kind.SizedBox (Some (global number)) (left_out (left_out (left_out no_members))))
  pub root_field : Untyped at_root (sized (exp.field 0) empty)
  -- only handlers see the event
  pub box_event : Untyped at_root (sized exp.event_dx empty)
  pub text_field : Untyped in_component (sized (exp.field 0) empty)
  -- as many members as the kind has, and those that have to be there
  pub too_few : Untyped at_root (body kind.SizedBox None no_members)
  pub too_many : Untyped at_root (sized number (left_out empty))
  pub no_text : Untyped at_root (body kind.Text None (left_out (left_out no_members)))
  -- handlers
  pub set_type : Untyped in_component (tapped 0 number)
  pub set_place : Untyped in_component (tapped 1 text)
  -- children
  pub each_child : Untyped at_root (sized number (around (each_of 0 numbers box)))
  pub sliver_child : Untyped at_root (sized number (around sliver))
  pub each_then : Untyped at_root (if_then (each_of 0 numbers box) empty)
  pub other_sort : Untyped at_root (if_then box (around sliver))
  pub uncertain : FitsIn [] (position One stands.Any) (if_then box empty) → ⊥
  -- loops, slots and inherited names
  pub each_number : Untyped at_root (each_of 0 number box)
  pub each_place : Untyped at_root (each_of 1 numbers box)
  pub each_type : Untyped at_root (each_of 0 (exp.texts exp.no_exps) (sized (exp.variable 0) empty))
  pub root_slot : Untyped at_root (slot_at 0)
  pub root_value : Untyped at_root (providing 0 number)
  pub value_type : Untyped in_component (providing 0 text)
  -- components
  pub no_component : Untyped at_root (use_of 2 [] [])
  pub missing_prop : Untyped at_root (use_of 0 [] (box ∷ []))
  pub other_prop : Untyped at_root (use_of 0 (number ∷ number ∷ []) (box ∷ []))
  pub prop_type : Untyped at_root (use_of 0 (text ∷ []) (box ∷ []))
  pub missing_slot : Untyped at_root (use_of 0 (number ∷ []) [])
  pub other_slot : Untyped at_root (use_of 1 [] (box ∷ []))
  pub slot_sliver : Untyped at_root (use_of 0 (number ∷ []) (sliver ∷ []))
  pub used_sliver : Untyped at_root (sized number (around (use_of 1 [] [])))
