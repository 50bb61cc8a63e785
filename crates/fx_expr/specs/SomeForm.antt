-- Whether some form of an expression passes a test: the expression itself, an operand of it, an operand of that, and so on.
use Rattle.std.specs.Prelude.{ℕ, ◌==◌, Bool, true, false, ◌||◌}
use Rattle.fx_expr.specs.Exp.{Exp, literal, field, prop, variable, inherited, event_dx, event_dy, ints, texts, add, subtract, multiply, divide, rest, equal, less, both, either, negated, choose, cat, len, item, push, without, reversed, range, show, Exps, no_exps, exp}

abbrev mutual
  pub some_form : (Exp → Bool) → Exp → Bool
  some_form test (literal v) = test (literal v)
  some_form test (field i) = test (field i)
  some_form test (prop i) = test (prop i)
  some_form test (variable i) = test (variable i)
  some_form test (inherited i) = test (inherited i)
  some_form test event_dx = test event_dx
  some_form test event_dy = test event_dy
  some_form test (ints es) = test (ints es) || some_form_of_each test es
  some_form test (texts es) = test (texts es) || some_form_of_each test es
  some_form test (add a b) = test (add a b) || (some_form test a || some_form test b)
  some_form test (subtract a b) = test (subtract a b) || (some_form test a || some_form test b)
  some_form test (multiply a b) = test (multiply a b) || (some_form test a || some_form test b)
  some_form test (divide a b) = test (divide a b) || (some_form test a || some_form test b)
  some_form test (rest a b) = test (rest a b) || (some_form test a || some_form test b)
  some_form test (equal a b) = test (equal a b) || (some_form test a || some_form test b)
  some_form test (less a b) = test (less a b) || (some_form test a || some_form test b)
  some_form test (both a b) = test (both a b) || (some_form test a || some_form test b)
  some_form test (either a b) = test (either a b) || (some_form test a || some_form test b)
  some_form test (negated a) = test (negated a) || some_form test a
  some_form test (choose c a b) = test (choose c a b) || (some_form test c || (some_form test a || some_form test b))
  some_form test (cat a b) = test (cat a b) || (some_form test a || some_form test b)
  some_form test (len l) = test (len l) || some_form test l
  some_form test (item l i d) = test (item l i d) || (some_form test l || (some_form test i || some_form test d))
  some_form test (push l x) = test (push l x) || (some_form test l || some_form test x)
  some_form test (without l i) = test (without l i) || (some_form test l || some_form test i)
  some_form test (reversed l) = test (reversed l) || some_form test l
  some_form test (range n) = test (range n) || some_form test n
  some_form test (show n) = test (show n) || some_form test n

  -- some form of some expression of a list
  pub some_form_of_each : (Exp → Bool) → Exps → Bool
  some_form_of_each test no_exps = false
  some_form_of_each test (exp e es) = some_form test e || some_form_of_each test es

-- the movement of a gesture
abbrev pub is_event : Exp → Bool
is_event event_dx = true
is_event event_dy = true
is_event e = false

-- the inherited value at a place
abbrev pub is_inherited : ℕ → Exp → Bool
is_inherited i (inherited j) = j == i
is_inherited i e = false

-- an expression reads the movement of a gesture
abbrev pub reads_event : Exp → Bool
reads_event e = some_form is_event e

-- an inherited name, by its place, stands in an expression
abbrev pub reads_inherited : ℕ → Exp → Bool
reads_inherited i e = some_form (is_inherited i) e
