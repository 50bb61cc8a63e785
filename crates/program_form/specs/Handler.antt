-- A set of a handler as plain data: a field by its name, and what it is set to. A handler is a list of them.
use Rattle.std.specs.Prelude.{ℕ, List}
use Rattle.program_form.specs.Form.{PlainForm}

pub record PlainSet : Type 0 where
  pub name : List ℕ
  pub value : PlainForm

abbrev pub set_with : List ℕ → PlainForm → PlainSet
set_with name value = record { name = name; value = value }
