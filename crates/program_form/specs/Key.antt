-- A key of a template as plain data.
use Rattle.program_form.specs.Form.{PlainForm}

pub data PlainKey : Type 0 where
  local : PlainForm → PlainKey
  global : PlainForm → PlainKey
