-- Whether two values are the same, as a test: by the trees of numbers that tell the values of a type apart.
use Rattle.std.specs.Prelude.{◌==◌, Bool, true, false, ◌&&◌}
use base.Stored.{Gv, gnil, gnum, gcons, Coded}

abbrev pub code_eq : Gv → Gv → Bool
code_eq gnil gnil = true
code_eq (gnum m) (gnum n) = m == n
code_eq (gcons a b) (gcons c d) = code_eq a c && code_eq b d
code_eq _ _ = false

abbrev pub is_same : {A : Type 0} → Coded A → A → A → Bool
is_same c x y = code_eq (c.code x) (c.code y)
