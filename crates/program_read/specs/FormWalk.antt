-- The expression that a value of a program's text is, or its first fault.
use Rattle.std.specs.Prelude.{ℕ, List, [], ◌∷◌, codes, if◌then◌else◌, Ok, ⊤}
use Rattle.std.specs.Str.{bytes_eq}
use Rattle.serde_json.specs.Data.{Data, null, boolean, number, string, array, object, Items, no_items, item}
use Rattle.fx_expr.specs.declared.values.Value.TheVariants as value
use Rattle.program_read.specs.declared.fault.ShapeCode.TheVariants.{WrongKind, UnknownOperator, WrongCount}
use Rattle.program_form.specs.declared.operators.Operator.{Operator}
use Rattle.program_form.specs.declared.operators.Naming.{Naming}
use Rattle.program_form.specs.declared.operators.Head.{Head}
use Rattle.program_form.specs.declared.operators.Head.TheVariants.{Name, Event, Operation}
use Rattle.program_read.specs.ShapeFault.{ShapeWalk, stops, at_entry, and_then, given, each}
use Rattle.program_read.specs.Leaves.{or_stop, string_of, number_of, text_in, count_of, within_limit}
use Rattle.program_read.specs.Names.{name_of}
use Rattle.program_form.specs.Operators.{takes, head_named}
use Rattle.program_form.specs.Form.{PlainForm, literal, event_dx, event_dy, operation, operands_in, named_form}

-- what the first entry of a list says that the list is: a string, and a word for it
abbrev pub head_of : Data → ShapeWalk Head
head_of d = and_then (string_of d) (λ word. or_stop UnknownOperator (head_named word))

-- exactly one operand
abbrev pub one_of : Items → ShapeWalk Data
one_of no_items = stops WrongCount
one_of (item d no_items) = Ok d
one_of (item d (item e ds)) = stops WrongCount

-- a value in scope, whose name is the one operand
abbrev pub named_of : Naming → Items → ShapeWalk PlainForm
named_of naming operands = and_then (one_of operands) (λ d. given (named_form naming) (at_entry 1 (name_of d)))

-- a movement of an event, whose word is the one operand
abbrev pub movement_named : List ℕ → ShapeWalk PlainForm
movement_named word =
    if bytes_eq word (codes "dx") then Ok event_dx
    else (if bytes_eq word (codes "dy") then Ok event_dy
    else stops WrongKind)

abbrev pub movement_of : Data → ShapeWalk PlainForm
movement_of d = and_then (string_of d) movement_named

abbrev pub event_of : Items → ShapeWalk PlainForm
event_of operands = and_then (one_of operands) (λ d. at_entry 1 (movement_of d))

-- an operator has as many operands as it takes
abbrev pub counted : Operator → Items → ShapeWalk ⊤
counted operator operands = if takes operator (count_of operands) then Ok tt else stops WrongCount

-- an operator with its operands: first their number, then each in order, after the operator
abbrev pub operation_with : Operator → List PlainForm → PlainForm
operation_with operator operands = operation operator (operands_in operands)

abbrev pub operation_of : Operator → Items → List (ShapeWalk PlainForm) → ShapeWalk PlainForm
operation_of operator operands walks =
    and_then (counted operator operands) (λ _. given (operation_with operator) (each 1 walks))

abbrev pub form_with : Items → List (ShapeWalk PlainForm) → Head → ShapeWalk PlainForm
form_with operands walks (Name naming) = named_of naming operands
form_with operands walks Event = event_of operands
form_with operands walks (Operation operator) = operation_of operator operands walks

-- the expression that a value is; of a list first the number of entries, then the operator
unfoldable mutual
  pub form_of : Data → ShapeWalk PlainForm
  form_of null = stops WrongKind
  form_of (boolean b) = Ok (literal (value.Bool b))
  form_of (number n) = given (λ z. literal (value.Int z)) (number_of n)
  form_of (string s) = given (λ t. literal (value.Text t)) (text_in s)
  form_of (array ds) = and_then (within_limit ds) (λ _. list_form ds)
  form_of (object ms) = stops WrongKind

  pub list_form : Items → ShapeWalk PlainForm
  list_form no_items = stops WrongCount
  list_form (item d operands) = and_then (at_entry 0 (head_of d)) (form_with operands (forms_of operands))

  -- the walks of operands
  pub forms_of : Items → List (ShapeWalk PlainForm)
  forms_of no_items = []
  forms_of (item d ds) = form_of d ∷ forms_of ds
