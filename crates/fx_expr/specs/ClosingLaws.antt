-- Laws of closing an expression, for this crate and the proofs of those above it: what is closed names fields and the event alone, has
-- the type that the expression has, and its value in a later scope is the expression's with the names of the earlier one.
use Rattle.std.proofs.Common.{◌≡◌, map, refl, sym}
use Rattle.fx_expr.specs.declared.values.Ty.{Ty}
use Rattle.fx_expr.specs.Value.{type_of}
use Rattle.fx_expr.specs.Exp.{Exp, literal, field, prop, variable, inherited, event_dx, event_dy, ints, texts, add, subtract, multiply, divide, rest, equal, less, both, either, negated, choose, cat, len, item, push, without, reversed, range, show, Exps, no_exps, exp}
use Rattle.fx_expr.specs.Scope.{Env, types_in, with_names, field_types_alone}
use Rattle.fx_expr.specs.ValueOf.{value_of, values_of}
use Rattle.fx_expr.specs.Typed.{IsTyped, AreTyped}
use Rattle.fx_expr.specs.Closed.{closed, all_closed, IsClosed, AreClosed}
use Rattle.fx_expr.specs.TypeLaws.{value_at-typed}

-- the value in a later scope is that of the expression with the earlier scope's names
mutual
  pub value_of-closed : (e : Exp) (s later : Env) → value_of (closed e s) later ≡ value_of e (with_names s later)
  value_of-closed (literal v) s later = refl
  value_of-closed (field i) s later = refl
  value_of-closed (prop i) s later = refl
  value_of-closed (variable i) s later = refl
  value_of-closed (inherited i) s later = refl
  value_of-closed event_dx s later = refl
  value_of-closed event_dy s later = refl
  value_of-closed (ints es) s later = rw (values_of-closed es s later) refl
  value_of-closed (texts es) s later = rw (values_of-closed es s later) refl
  value_of-closed (add a b) s later = rw (value_of-closed a s later, value_of-closed b s later) refl
  value_of-closed (subtract a b) s later = rw (value_of-closed a s later, value_of-closed b s later) refl
  value_of-closed (multiply a b) s later = rw (value_of-closed a s later, value_of-closed b s later) refl
  value_of-closed (divide a b) s later = rw (value_of-closed a s later, value_of-closed b s later) refl
  value_of-closed (rest a b) s later = rw (value_of-closed a s later, value_of-closed b s later) refl
  value_of-closed (equal a b) s later = rw (value_of-closed a s later, value_of-closed b s later) refl
  value_of-closed (less a b) s later = rw (value_of-closed a s later, value_of-closed b s later) refl
  value_of-closed (both a b) s later = rw (value_of-closed a s later, value_of-closed b s later) refl
  value_of-closed (either a b) s later = rw (value_of-closed a s later, value_of-closed b s later) refl
  value_of-closed (cat a b) s later = rw (value_of-closed a s later, value_of-closed b s later) refl
  value_of-closed (push a b) s later = rw (value_of-closed a s later, value_of-closed b s later) refl
  value_of-closed (without a b) s later = rw (value_of-closed a s later, value_of-closed b s later) refl
  value_of-closed (negated a) s later = rw (value_of-closed a s later) refl
  value_of-closed (len a) s later = rw (value_of-closed a s later) refl
  value_of-closed (reversed a) s later = rw (value_of-closed a s later) refl
  value_of-closed (range a) s later = rw (value_of-closed a s later) refl
  value_of-closed (show a) s later = rw (value_of-closed a s later) refl
  value_of-closed (choose a b d) s later = rw (value_of-closed a s later, value_of-closed b s later, value_of-closed d s later) refl
  value_of-closed (item a b d) s later = rw (value_of-closed a s later, value_of-closed b s later, value_of-closed d s later) refl

  values_of-closed : (es : Exps) (s later : Env) → values_of (all_closed es s) later ≡ values_of es (with_names s later)
  values_of-closed no_exps s later = refl
  values_of-closed (exp e es) s later = rw (value_of-closed e s later, values_of-closed es s later) refl

-- no name but those of fields is left
mutual
  pub closed-IsClosed : (e : Exp) (s : Env) → IsClosed (closed e s)
  closed-IsClosed (literal v) s = tt
  closed-IsClosed (field i) s = tt
  closed-IsClosed (prop i) s = tt
  closed-IsClosed (variable i) s = tt
  closed-IsClosed (inherited i) s = tt
  closed-IsClosed event_dx s = tt
  closed-IsClosed event_dy s = tt
  closed-IsClosed (ints es) s = all_closed-AreClosed es s
  closed-IsClosed (texts es) s = all_closed-AreClosed es s
  closed-IsClosed (add a b) s = (closed-IsClosed a s, closed-IsClosed b s)
  closed-IsClosed (subtract a b) s = (closed-IsClosed a s, closed-IsClosed b s)
  closed-IsClosed (multiply a b) s = (closed-IsClosed a s, closed-IsClosed b s)
  closed-IsClosed (divide a b) s = (closed-IsClosed a s, closed-IsClosed b s)
  closed-IsClosed (rest a b) s = (closed-IsClosed a s, closed-IsClosed b s)
  closed-IsClosed (equal a b) s = (closed-IsClosed a s, closed-IsClosed b s)
  closed-IsClosed (less a b) s = (closed-IsClosed a s, closed-IsClosed b s)
  closed-IsClosed (both a b) s = (closed-IsClosed a s, closed-IsClosed b s)
  closed-IsClosed (either a b) s = (closed-IsClosed a s, closed-IsClosed b s)
  closed-IsClosed (cat a b) s = (closed-IsClosed a s, closed-IsClosed b s)
  closed-IsClosed (push a b) s = (closed-IsClosed a s, closed-IsClosed b s)
  closed-IsClosed (without a b) s = (closed-IsClosed a s, closed-IsClosed b s)
  closed-IsClosed (negated a) s = closed-IsClosed a s
  closed-IsClosed (len a) s = closed-IsClosed a s
  closed-IsClosed (reversed a) s = closed-IsClosed a s
  closed-IsClosed (range a) s = closed-IsClosed a s
  closed-IsClosed (show a) s = closed-IsClosed a s
  closed-IsClosed (choose a b d) s = (closed-IsClosed a s, closed-IsClosed b s, closed-IsClosed d s)
  closed-IsClosed (item a b d) s = (closed-IsClosed a s, closed-IsClosed b s, closed-IsClosed d s)

  all_closed-AreClosed : (es : Exps) (s : Env) → AreClosed (all_closed es s)
  all_closed-AreClosed no_exps s = tt
  all_closed-AreClosed (exp e es) s = (closed-IsClosed e s, all_closed-AreClosed es s)

-- the closed expression has the type of the expression, over the fields alone
mutual
  pub closed-typed : (e : Exp) (s : Env) (t : Ty) → IsTyped (types_in s) e t → IsTyped (field_types_alone (map type_of s.fields)) (closed e s) t
  closed-typed (literal v) s t h = h
  closed-typed (field i) s t h = h
  closed-typed (prop i) s t h = sym (value_at-typed s.props i t h)
  closed-typed (variable i) s t h = sym (value_at-typed s.vars i t h)
  closed-typed (inherited i) s t h = sym (value_at-typed s.inherited i t h)
  closed-typed event_dx s t h = h
  closed-typed event_dy s t h = h
  closed-typed (ints es) s t h = (h.0, all_closed-typed es s _ h.1)
  closed-typed (texts es) s t h = (h.0, all_closed-typed es s _ h.1)
  closed-typed (add a b) s t h = (h.0, closed-typed a s _ h.1, closed-typed b s _ h.2)
  closed-typed (subtract a b) s t h = (h.0, closed-typed a s _ h.1, closed-typed b s _ h.2)
  closed-typed (multiply a b) s t h = (h.0, closed-typed a s _ h.1, closed-typed b s _ h.2)
  closed-typed (divide a b) s t h = (h.0, closed-typed a s _ h.1, closed-typed b s _ h.2)
  closed-typed (rest a b) s t h = (h.0, closed-typed a s _ h.1, closed-typed b s _ h.2)
  closed-typed (less a b) s t h = (h.0, closed-typed a s _ h.1, closed-typed b s _ h.2)
  closed-typed (both a b) s t h = (h.0, closed-typed a s _ h.1, closed-typed b s _ h.2)
  closed-typed (either a b) s t h = (h.0, closed-typed a s _ h.1, closed-typed b s _ h.2)
  closed-typed (equal a b) s t h = (h.0, (h.1.0, closed-typed a s _ h.1.1, closed-typed b s _ h.1.2))
  closed-typed (negated a) s t h = (h.0, closed-typed a s _ h.1)
  closed-typed (choose c a b) s t h = (closed-typed c s _ h.0, closed-typed a s t h.1, closed-typed b s t h.2)
  closed-typed (cat a b) s t h = (h.0, closed-typed a s t h.1, closed-typed b s t h.2)
  closed-typed (len l) s t h = (h.0, (h.1.0, h.1.1, closed-typed l s _ h.1.2))
  closed-typed (item l i d) s t h = ((h.0.0, h.0.1, closed-typed l s _ h.0.2), closed-typed i s _ h.1, closed-typed d s t h.2)
  closed-typed (push l x) s t h = (h.0, h.1, closed-typed l s t h.2, closed-typed x s _ h.3)
  closed-typed (without l i) s t h = (h.0, closed-typed l s t h.1, closed-typed i s _ h.2)
  closed-typed (reversed l) s t h = (h.0, closed-typed l s t h.1)
  closed-typed (range n) s t h = (h.0, closed-typed n s _ h.1)
  closed-typed (show n) s t h = (h.0, closed-typed n s _ h.1)

  all_closed-typed : (es : Exps) (s : Env) (t : Ty) → AreTyped (types_in s) es t → AreTyped (field_types_alone (map type_of s.fields)) (all_closed es s) t
  all_closed-typed no_exps s t h = tt
  all_closed-typed (exp e es) s t h = (closed-typed e s t h.0, all_closed-typed es s t h.1)
