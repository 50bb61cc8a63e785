use Rattle.std.proofs.Common.{◌∙◌, ap, sym, arith, ◌<◌, ◌≤◌, ◌++◌, length}
use Rattle.std.proofs.lemmas.List.{append_assoc}
use Rattle.std.proofs.lemmas.Result.{on_ok_weaker}
use Rattle.plain_tree.specs.Laid.{Stood}
use Rattle.laid_cursor.specs.Opened.{opened}
use Rattle.laid_cursor.proofs.Walking.{child_fewer}
use Rattle.screen_form.specs.Remarks.{own_notes, notes_in}
use Rattle.render_readers.proofs.Noting.{opened_notes, noted_more, noted_all}
use Rattle.render_readers.proofs.remarks.+noting.Goals as goal

pub push_notes-returns : goal.push_notes-returns
push_notes-returns g t c =
    let l = g.C.LaidCursor.stands c.args.node in
    let below = notes_in (opened l).below in
    on_ok_weaker c.push_notes_below.result
    (λ is_new.
    is_new
    ∙ ap (λ ns. ns ++ below) (c.in_ok-push_own.ensures ∙ (λ i. c.args.notes.now.items ++ own_notes (c.number.ensures i) (c.notes.ensures i)))
    ∙ append_assoc c.args.notes.now.items (own_notes (opened l).number (opened l).facts.notes) below
    ∙ ap (λ ns. c.args.notes.now.items ++ ns) (sym (opened_notes l)))
    c.push_notes_below.ensures

pub push_notes_below-push_notes-requires : goal.push_notes_below-push_notes-requires
push_notes_below-push_notes-requires g t c κs within =
    let l = g.C.LaidCursor.stands c.args.node in
    let ps = g.C.LaidCursor.places c.args.node in
    let child : Stood = record { at = c.in-Some.child.0; child = g.C.LaidCursor.stands c.in-Some.child.1 } in
    let fewer = child_fewer ps c.loop-i.i child l (g.met.C.LaidCursor.below c.args.node) c.in-Some.ensures in
    (omega (arith, fewer, c.decreases), within)

pub push_notes_below-loop-i-init : goal.push_notes_below-loop-i-init
push_notes_below-loop-i-init g t c =
    ap (λ ls. c.args.notes.now.items ++ notes_in ls) (sym (g.met.C.LaidCursor.below c.args.node))

pub push_notes_below-loop-i-preserved : goal.push_notes_below-loop-i-preserved
push_notes_below-loop-i-preserved g t c =
    let ps = g.C.LaidCursor.places c.args.node in
    let child : Stood = record { at = c.in-Some.child.0; child = g.C.LaidCursor.stands c.in-Some.child.1 } in
    let within : c.loop-i.i < length ps = omega (arith, c.loop-i-test.true, c.len-i-end.ensures) in
    noted_more ps c.loop-i.i child c.loop-i.notes.items c.push_notes.new.notes.items _ within c.in-Some.ensures c.in_ok-push_notes.ensures c.loop-i.invariant

pub push_notes_below-returns : goal.push_notes_below-returns
push_notes_below-returns g t c =
    let ps = g.C.LaidCursor.places c.args.node in
    let past : length ps ≤ c.loop-i.i = omega (arith, c.loop-i-test.false, c.len-i-end.ensures) in
    noted_all ps c.loop-i.i c.loop-i.notes.items _ past c.loop-i.invariant
