-- The expression of an operator over its operands.
use Rattle.std.specs.Prelude.{pos, List, [], ◌∷◌}
use Rattle.fx_expr.specs.declared.values.Value.TheVariants as value
use Rattle.fx_expr.specs.Exp.{Exp, literal, ints, texts, add, subtract, multiply, divide, rest, equal, less, both, either, negated, choose, cat, len, item, push, without, reversed, range, show, exps_of}
use Rattle.program_form.specs.declared.operators.Operator.{Operator}
use Rattle.program_form.specs.declared.operators.Operator.TheVariants as op

-- an operand; 0 where there is none
abbrev pub first : List Exp → Exp
first [] = literal (value.Int (pos 0))
first (e ∷ es) = e

abbrev pub later : List Exp → List Exp
later [] = []
later (e ∷ es) = es

abbrev pub second : List Exp → Exp
second es = first (later es)

abbrev pub third : List Exp → Exp
third es = first (later (later es))

abbrev pub built : Operator → List Exp → Exp
built op.Ints es = ints (exps_of es)
built op.Texts es = texts (exps_of es)
built op.Add es = add (first es) (second es)
built op.Sub es = subtract (first es) (second es)
built op.Mul es = multiply (first es) (second es)
built op.Div es = divide (first es) (second es)
built op.Mod es = rest (first es) (second es)
built op.Equal es = equal (first es) (second es)
built op.Less es = less (first es) (second es)
built op.And es = both (first es) (second es)
built op.Or es = either (first es) (second es)
built op.Not es = negated (first es)
built op.If es = choose (first es) (second es) (third es)
built op.Cat es = cat (first es) (second es)
built op.Len es = len (first es)
built op.At es = item (first es) (second es) (third es)
built op.Push es = push (first es) (second es)
built op.Drop es = without (first es) (second es)
built op.Reverse es = reversed (first es)
built op.Range es = range (first es)
built op.Show es = show (first es)
