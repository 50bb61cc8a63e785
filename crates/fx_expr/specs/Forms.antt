-- The forms with operands, by how many they have: the expression that a form makes of them, its value by theirs, and
-- the types of theirs that it takes.
use Rattle.std.specs.Prelude.{◌≡◌, pos, [], Some}
use Rattle.fx_expr.specs.declared.values.Value.{Value}
use Rattle.fx_expr.specs.declared.values.Ty.{Ty}
use Rattle.fx_expr.specs.declared.values.Ty.TheVariants as ty
use Rattle.fx_expr.specs.declared.opened.One.{One}
use Rattle.fx_expr.specs.declared.opened.One.TheVariants as one
use Rattle.fx_expr.specs.declared.opened.Two.{Two}
use Rattle.fx_expr.specs.declared.opened.Two.TheVariants as two
use Rattle.fx_expr.specs.declared.opened.Three.{Three}
use Rattle.fx_expr.specs.declared.opened.Three.TheVariants as three
use Rattle.fx_expr.specs.Exp.{Exp, literal, add, subtract, multiply, divide, rest, equal, less, both, either, negated, choose, cat, len, item, push, without, reversed, range, show}
use Rattle.fx_expr.specs.Scope.{fields_alone}
use Rattle.fx_expr.specs.ValueOf.{value_of}
use Rattle.fx_expr.specs.Typed.{item_type, IsList, IsJoinable}

abbrev pub one_of : One → Exp → Exp
one_of one.Not a = negated a
one_of one.Len a = len a
one_of one.Reverse a = reversed a
one_of one.Range a = range a
one_of one.Show a = show a

abbrev pub two_of : Two → Exp → Exp → Exp
two_of two.Add a b = add a b
two_of two.Sub a b = subtract a b
two_of two.Mul a b = multiply a b
two_of two.Div a b = divide a b
two_of two.Mod a b = rest a b
two_of two.Equal a b = equal a b
two_of two.Less a b = less a b
two_of two.And a b = both a b
two_of two.Or a b = either a b
two_of two.Cat a b = cat a b
two_of two.Push a b = push a b
two_of two.Drop a b = without a b

abbrev pub three_of : Three → Exp → Exp → Exp → Exp
three_of three.If a b c = choose a b c
three_of three.At a b c = item a b c

-- the value of a form over operands, by theirs: its value over literals, whatever is in scope
abbrev pub value_alone : Exp → Value
value_alone e = value_of e (fields_alone [] (pos 0) (pos 0))

abbrev pub one_value : One → Value → Value
one_value f v = value_alone (one_of f (literal v))

abbrev pub two_value : Two → Value → Value → Value
two_value f v w = value_alone (two_of f (literal v) (literal w))

-- a form over one operand takes one of this type
abbrev pub TakesOne : One → Ty → Type 0
TakesOne one.Not t = t ≡ ty.Bool
TakesOne one.Len t = IsList t
TakesOne one.Reverse t = IsList t
TakesOne one.Range t = t ≡ ty.Int
TakesOne one.Show t = t ≡ ty.Int

-- a form over two operands takes two of these types
abbrev pub TakesTwo : Two → Ty → Ty → Type 0
TakesTwo two.Add t u = (t ≡ ty.Int) × (u ≡ ty.Int)
TakesTwo two.Sub t u = (t ≡ ty.Int) × (u ≡ ty.Int)
TakesTwo two.Mul t u = (t ≡ ty.Int) × (u ≡ ty.Int)
TakesTwo two.Div t u = (t ≡ ty.Int) × (u ≡ ty.Int)
TakesTwo two.Mod t u = (t ≡ ty.Int) × (u ≡ ty.Int)
TakesTwo two.Equal t u = u ≡ t
TakesTwo two.Less t u = (t ≡ ty.Int) × (u ≡ ty.Int)
TakesTwo two.And t u = (t ≡ ty.Bool) × (u ≡ ty.Bool)
TakesTwo two.Or t u = (t ≡ ty.Bool) × (u ≡ ty.Bool)
TakesTwo two.Cat t u = IsJoinable t × (u ≡ t)
TakesTwo two.Push t u = item_type t ≡ Some u
TakesTwo two.Drop t u = IsList t × (u ≡ ty.Int)
