-- A key of the program, as it is written, as plain data.
use Rattle.program_form.specs.declared.keys.KeyForm.{KeyForm}
use Rattle.program_form.specs.declared.keys.KeyForm.TheVariants.{Local, Global}
use Rattle.program_form.specs.FormView.{plain_form}
use Rattle.program_form.specs.Key.{PlainKey, local, global}

abbrev pub plain_key : KeyForm → PlainKey
plain_key (Local e) = local (plain_form e)
plain_key (Global e) = global (plain_form e)
