-- The value of an expression in a scope, form by form.
use Rattle.std.specs.Prelude.{pos, ◌+ℤ◌, ◌-ℤ◌, ◌*ℤ◌, not, ◌&&◌, ◌||◌, if◌then◌else◌, List, [], ◌∷◌, map, unwrap_or, int_lt}
use Rattle.std.specs.Fmt.{signed_decimal}
use Rattle.fx_expr.specs.declared.values.Value.{Value}
use Rattle.fx_expr.specs.declared.values.Value.TheVariants as value
use Rattle.fx_expr.specs.Limit.{cut_list}
use Rattle.fx_expr.specs.Number.{saturated, floor_div, floor_mod, range_of}
use Rattle.fx_expr.specs.Value.{int_in, bool_in, text_in, value_eq, joined_values, item_count, item_at, with_last, without_item, reversed_value}
use Rattle.fx_expr.specs.Exp.{Exp, literal, field, prop, variable, inherited, event_dx, event_dy, ints, texts, add, subtract, multiply, divide, rest, equal, less, both, either, negated, choose, cat, len, item, push, without, reversed, range, show, Exps, no_exps, exp}
use Rattle.fx_expr.specs.Scope.{Env, value_at}

abbrev mutual
  pub value_of : Exp → Env → Value
  value_of (literal v) s = v
  value_of (field i) s = value_at s.fields i
  value_of (prop i) s = value_at s.props i
  value_of (variable i) s = value_at s.vars i
  value_of (inherited i) s = value_at s.inherited i
  value_of event_dx s = value.Int s.dx
  value_of event_dy s = value.Int s.dy
  value_of (ints es) s = value.Ints (cut_list (map int_in (values_of es s)))
  value_of (texts es) s = value.Texts (cut_list (map text_in (values_of es s)))
  value_of (add a b) s = value.Int (saturated (int_in (value_of a s) +ℤ int_in (value_of b s)))
  value_of (subtract a b) s = value.Int (saturated (int_in (value_of a s) -ℤ int_in (value_of b s)))
  value_of (multiply a b) s = value.Int (saturated (int_in (value_of a s) *ℤ int_in (value_of b s)))
  value_of (divide a b) s = value.Int (saturated (floor_div (int_in (value_of a s)) (int_in (value_of b s))))
  value_of (rest a b) s = value.Int (floor_mod (int_in (value_of a s)) (int_in (value_of b s)))
  value_of (equal a b) s = value.Bool (value_eq (value_of a s) (value_of b s))
  value_of (less a b) s = value.Bool (int_lt (int_in (value_of a s)) (int_in (value_of b s)))
  value_of (both a b) s = value.Bool (bool_in (value_of a s) && bool_in (value_of b s))
  value_of (either a b) s = value.Bool (bool_in (value_of a s) || bool_in (value_of b s))
  value_of (negated a) s = value.Bool (not (bool_in (value_of a s)))
  value_of (choose c a b) s = if bool_in (value_of c s) then value_of a s else value_of b s
  value_of (cat a b) s = joined_values (value_of a s) (value_of b s)
  value_of (len l) s = value.Int (pos (item_count (value_of l s)))
  value_of (item l i d) s = unwrap_or (item_at (value_of l s) (int_in (value_of i s))) (value_of d s)
  value_of (push l x) s = with_last (value_of l s) (value_of x s)
  value_of (without l i) s = without_item (value_of l s) (int_in (value_of i s))
  value_of (reversed l) s = reversed_value (value_of l s)
  value_of (range n) s = value.Ints (range_of (int_in (value_of n s)))
  value_of (show n) s = value.Text (signed_decimal (int_in (value_of n s)))

  -- the values of the items of a list
  pub values_of : Exps → Env → List Value
  values_of no_exps s = []
  values_of (exp e es) s = value_of e s ∷ values_of es s
