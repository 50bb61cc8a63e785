-- An expression whose props, loop variables and inherited values stand in it as literals: its value in a later
-- scope uses that scope's fields and event alone.
use Rattle.fx_expr.specs.Exp.{Exp, literal, field, prop, variable, inherited, event_dx, event_dy, ints, texts, add, subtract, multiply, divide, rest, equal, less, both, either, negated, choose, cat, len, item, push, without, reversed, range, show, Exps, no_exps, exp}
use Rattle.fx_expr.specs.Scope.{Env, value_at}

abbrev mutual
  pub closed : Exp → Env → Exp
  closed (literal v) s = literal v
  closed (field i) s = field i
  closed (prop i) s = literal (value_at s.props i)
  closed (variable i) s = literal (value_at s.vars i)
  closed (inherited i) s = literal (value_at s.inherited i)
  closed event_dx s = event_dx
  closed event_dy s = event_dy
  closed (ints es) s = ints (all_closed es s)
  closed (texts es) s = texts (all_closed es s)
  closed (add a b) s = add (closed a s) (closed b s)
  closed (subtract a b) s = subtract (closed a s) (closed b s)
  closed (multiply a b) s = multiply (closed a s) (closed b s)
  closed (divide a b) s = divide (closed a s) (closed b s)
  closed (rest a b) s = rest (closed a s) (closed b s)
  closed (equal a b) s = equal (closed a s) (closed b s)
  closed (less a b) s = less (closed a s) (closed b s)
  closed (both a b) s = both (closed a s) (closed b s)
  closed (either a b) s = either (closed a s) (closed b s)
  closed (negated a) s = negated (closed a s)
  closed (choose c a b) s = choose (closed c s) (closed a s) (closed b s)
  closed (cat a b) s = cat (closed a s) (closed b s)
  closed (len l) s = len (closed l s)
  closed (item l i d) s = item (closed l s) (closed i s) (closed d s)
  closed (push l x) s = push (closed l s) (closed x s)
  closed (without l i) s = without (closed l s) (closed i s)
  closed (reversed l) s = reversed (closed l s)
  closed (range n) s = range (closed n s)
  closed (show n) s = show (closed n s)

  pub all_closed : Exps → Env → Exps
  all_closed no_exps s = no_exps
  all_closed (exp e es) s = exp (closed e s) (all_closed es s)

-- no prop, loop variable or inherited value is named in the expression
abbrev mutual
  pub IsClosed : Exp → Type 0
  IsClosed (literal v) = Unit {0}
  IsClosed (field i) = Unit {0}
  IsClosed (prop i) = ⊥
  IsClosed (variable i) = ⊥
  IsClosed (inherited i) = ⊥
  IsClosed event_dx = Unit {0}
  IsClosed event_dy = Unit {0}
  IsClosed (ints es) = AreClosed es
  IsClosed (texts es) = AreClosed es
  IsClosed (add a b) = IsClosed a × IsClosed b
  IsClosed (subtract a b) = IsClosed a × IsClosed b
  IsClosed (multiply a b) = IsClosed a × IsClosed b
  IsClosed (divide a b) = IsClosed a × IsClosed b
  IsClosed (rest a b) = IsClosed a × IsClosed b
  IsClosed (equal a b) = IsClosed a × IsClosed b
  IsClosed (less a b) = IsClosed a × IsClosed b
  IsClosed (both a b) = IsClosed a × IsClosed b
  IsClosed (either a b) = IsClosed a × IsClosed b
  IsClosed (negated a) = IsClosed a
  IsClosed (choose c a b) = IsClosed c × IsClosed a × IsClosed b
  IsClosed (cat a b) = IsClosed a × IsClosed b
  IsClosed (len l) = IsClosed l
  IsClosed (item l i d) = IsClosed l × IsClosed i × IsClosed d
  IsClosed (push l x) = IsClosed l × IsClosed x
  IsClosed (without l i) = IsClosed l × IsClosed i
  IsClosed (reversed l) = IsClosed l
  IsClosed (range n) = IsClosed n
  IsClosed (show n) = IsClosed n

  pub AreClosed : Exps → Type 0
  AreClosed no_exps = Unit {0}
  AreClosed (exp e es) = IsClosed e × AreClosed es
