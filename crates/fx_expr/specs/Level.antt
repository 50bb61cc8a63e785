-- One level of an expression: its form, and what stands in it. By its level a program tells an expression from another.
use Rattle.std.specs.Prelude.{ℕ, Option, Some, None}
use Rattle.fx_expr.specs.declared.values.Value.{Value}
use Rattle.fx_expr.specs.declared.sameness.ExprForm.{ExprForm}
use Rattle.fx_expr.specs.declared.sameness.ExprForm.TheVariants as form
use Rattle.fx_expr.specs.declared.opened.One.TheVariants as one
use Rattle.fx_expr.specs.declared.opened.Two.TheVariants as two
use Rattle.fx_expr.specs.declared.opened.Three.TheVariants as three
use Rattle.fx_expr.specs.Exp.{Exp, literal, field, prop, variable, inherited, event_dx, event_dy, ints, texts, add, subtract, multiply, divide, rest, equal, less, both, either, negated, choose, cat, len, item, push, without, reversed, range, show, Exps}

-- a form, the place or the value that it names, the items of its list and its operands, each where the form has it
pub record Level : Type 0 where
  pub form : ExprForm
  pub place : ℕ
  pub value : Option Value
  pub items : Option Exps
  pub first : Option Exp
  pub second : Option Exp
  pub third : Option Exp

-- a form that has no operands
abbrev pub named : ExprForm → ℕ → Level
named f i = record { form = f; place = i; value = None; items = None; first = None; second = None; third = None }

abbrev pub level_of : Exp → Level
level_of (literal v) = record (named form.Literal 0) { value = Some v }
level_of (field i) = named form.Field i
level_of (prop i) = named form.Prop i
level_of (variable i) = named form.Var i
level_of (inherited i) = named form.Inherit i
level_of event_dx = named form.EventDx 0
level_of event_dy = named form.EventDy 0
level_of (ints es) = record (named form.Ints 0) { items = Some es }
level_of (texts es) = record (named form.Texts 0) { items = Some es }
level_of (negated a) = record (named (form.One one.Not) 0) { first = Some a }
level_of (len a) = record (named (form.One one.Len) 0) { first = Some a }
level_of (reversed a) = record (named (form.One one.Reverse) 0) { first = Some a }
level_of (range a) = record (named (form.One one.Range) 0) { first = Some a }
level_of (show a) = record (named (form.One one.Show) 0) { first = Some a }
level_of (add a b) = record (named (form.Two two.Add) 0) { first = Some a; second = Some b }
level_of (subtract a b) = record (named (form.Two two.Sub) 0) { first = Some a; second = Some b }
level_of (multiply a b) = record (named (form.Two two.Mul) 0) { first = Some a; second = Some b }
level_of (divide a b) = record (named (form.Two two.Div) 0) { first = Some a; second = Some b }
level_of (rest a b) = record (named (form.Two two.Mod) 0) { first = Some a; second = Some b }
level_of (equal a b) = record (named (form.Two two.Equal) 0) { first = Some a; second = Some b }
level_of (less a b) = record (named (form.Two two.Less) 0) { first = Some a; second = Some b }
level_of (both a b) = record (named (form.Two two.And) 0) { first = Some a; second = Some b }
level_of (either a b) = record (named (form.Two two.Or) 0) { first = Some a; second = Some b }
level_of (cat a b) = record (named (form.Two two.Cat) 0) { first = Some a; second = Some b }
level_of (push a b) = record (named (form.Two two.Push) 0) { first = Some a; second = Some b }
level_of (without a b) = record (named (form.Two two.Drop) 0) { first = Some a; second = Some b }
level_of (choose a b d) = record (named (form.Three three.If) 0) { first = Some a; second = Some b; third = Some d }
level_of (item a b d) = record (named (form.Three three.At) 0) { first = Some a; second = Some b; third = Some d }
