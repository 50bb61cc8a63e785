use Rattle.std.proofs.Common.{◌≡◌, ◌++◌, drop}
use Rattle.session_form.specs.FrameText.{notes_text}
use Rattle.frame_session.proofs.frame_text.print_notes.Given as goal

abbrev pub invariant-loop-note : goal.invariant-loop-note
invariant-loop-note l = l.out.items ++ notes_text (drop l.note-index l.note-items) ≡ l.fn.out.items ++ notes_text l.note-items
