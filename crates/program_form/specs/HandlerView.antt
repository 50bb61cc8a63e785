-- A handler of the program, as it is written, as plain data.
use Rattle.std.specs.Prelude.{List, map}
use Rattle.program_form.specs.declared.handlers.SetForm.{SetForm}
use Rattle.program_form.specs.declared.handlers.HandlerForm.{HandlerForm}
use Rattle.program_form.specs.FormView.{plain_form}
use Rattle.program_form.specs.Handler.{PlainSet, set_with}

abbrev pub plain_set : SetForm → PlainSet
plain_set s = set_with s.name (plain_form s.value)

abbrev pub plain_handler : HandlerForm → List PlainSet
plain_handler h = map plain_set h.sets.items
