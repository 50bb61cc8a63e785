use Rattle.session_form.proofs.NoteLemmas.{note_plain}
use Rattle.frame_session.proofs.frame_text.print_note.Goals as goal

pub returns-in-Unbounded : goal.returns-in-Unbounded
returns-in-Unbounded c =
    note_plain c.extend_from_slice-in-Unbounded.result c.args.note c.args.out.now.items c.extend_from_slice.new.self.items c.push_node.new.out.items
    c.extend_from_slice-in-Unbounded.new.self.items c.in_ok-extend_from_slice.ensures.items c.in_ok-push_node.ensures c.in-Unbounded.is
    c.extend_from_slice-in-Unbounded.ensures.items
