-- An expression as it is written, as plain data.
use Rattle.std.specs.Prelude.{ℕ, List, [], ◌∷◌}
use Rattle.fx_expr.specs.declared.values.Value.{Value}
use Rattle.program_form.specs.declared.operators.Operator.{Operator}
use Rattle.program_form.specs.declared.operators.Naming.{Naming}
use Rattle.program_form.specs.declared.operators.Naming.TheVariants.{Field, Prop, Var, Inherit}

mutual
  pub data PlainForm : Type 0 where
    -- a value as it is written
    literal : Value → PlainForm
    -- a field, prop, loop variable or inherited value, by its name
    field : List ℕ → PlainForm
    prop : List ℕ → PlainForm
    variable : List ℕ → PlainForm
    inherited : List ℕ → PlainForm
    -- the movement of a gesture's update
    event_dx : PlainForm
    event_dy : PlainForm
    -- an operator with its operands
    operation : Operator → PlainForms → PlainForm

  -- the operands, in order
  pub data PlainForms : Type 0 where
    no_forms : PlainForms
    form : PlainForm → PlainForms → PlainForms

abbrev pub operands_in : List PlainForm → PlainForms
operands_in [] = no_forms
operands_in (f ∷ fs) = form f (operands_in fs)

-- the value in scope that a name gives
abbrev pub named_form : Naming → List ℕ → PlainForm
named_form Field name = field name
named_form Prop name = prop name
named_form Var name = variable name
named_form Inherit name = inherited name
