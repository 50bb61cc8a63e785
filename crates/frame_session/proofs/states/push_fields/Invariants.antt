use Rattle.std.proofs.Common.{◌≡◌, ◌++◌, drop}
use Rattle.session_form.specs.StatesText.{fields_text}
use Rattle.frame_session.proofs.states.push_fields.Given as goal

abbrev pub invariant-loop-field : goal.invariant-loop-field
invariant-loop-field l =
    l.out.items ++ fields_text (drop l.field-index l.fields) l.rest ≡ l.fn.out.items ++ fields_text l.fields l.values
