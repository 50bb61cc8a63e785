-- An expression as plain data: one constructor for each form, operands in the order in which they are written.
use Rattle.std.specs.Prelude.{ℕ, List, [], ◌∷◌}
use Rattle.fx_expr.specs.declared.values.Value.{Value}

mutual
  pub data Exp : Type 0 where
    -- a value as it is written
    literal : Value → Exp
    -- a field, prop, loop variable or inherited value, by its place in its list
    field : ℕ → Exp
    prop : ℕ → Exp
    variable : ℕ → Exp
    inherited : ℕ → Exp
    -- the movement of a gesture's update
    event_dx : Exp
    event_dy : Exp
    -- lists of numbers and of texts, by their items
    ints : Exps → Exp
    texts : Exps → Exp
    -- `+`, `-`, `*`, `div`, `mod`
    add : Exp → Exp → Exp
    subtract : Exp → Exp → Exp
    multiply : Exp → Exp → Exp
    divide : Exp → Exp → Exp
    rest : Exp → Exp → Exp
    -- `=`, `<`
    equal : Exp → Exp → Exp
    less : Exp → Exp → Exp
    -- `and`, `or`, `not`
    both : Exp → Exp → Exp
    either : Exp → Exp → Exp
    negated : Exp → Exp
    -- `if`
    choose : Exp → Exp → Exp → Exp
    -- `cat`, `len`, `at`, `push`, `drop`, `reverse`, `range`, `show`
    cat : Exp → Exp → Exp
    len : Exp → Exp
    item : Exp → Exp → Exp → Exp
    push : Exp → Exp → Exp
    without : Exp → Exp → Exp
    reversed : Exp → Exp
    range : Exp → Exp
    show : Exp → Exp

  -- the items of a list, in order
  pub data Exps : Type 0 where
    no_exps : Exps
    exp : Exp → Exps → Exps

abbrev pub exps_of : List Exp → Exps
exps_of [] = no_exps
exps_of (e ∷ es) = exp e (exps_of es)
