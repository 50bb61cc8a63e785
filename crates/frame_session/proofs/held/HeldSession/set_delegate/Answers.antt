use Rattle.std.proofs.Common.{◌∙◌, sym, ap, None}
use Rattle.std.specs.Int.{w64}
use Rattle.std.proofs.lemmas.Int.{to_z-of_z}
use Rattle.node_tree.specs.Tree.{Tree}
use Rattle.delegates.specs.Table.{with_meaning}
use Rattle.element_tree.specs.Element.{Element}
use Rattle.build_owner.specs.Standing.{next_at}
use Rattle.program_check.specs.CheckedView.{plain_checked}
use Rattle.frame_session.proofs.CountLemmas.{delegate_marked}
use Rattle.frame_session.proofs.LastLemmas.{same_only}
use Rattle.frame_session.proofs.OwnerLemmas.{sound_after}
use Rattle.frame_session.proofs.PlugLemmas.{delegate_done, delegate_refused, no_delegate_done, no_field_done}
use Rattle.frame_session.proofs.held.HeldSession.set_delegate.Goals as goal

pub returns-in_ok-delegate_changed-in-Done-clause-state : goal.returns-in_ok-delegate_changed-in-Done-clause-state
returns-in_ok-delegate_changed-in-Done-clause-state g c s h =
    let marks = c.in_ok-delegate_changed-in-Done.ensures in
    delegate_done c.args.self.now c.delegate_changed.new.self _ _ s c.args.name.now c.args.field.now c.get.result.now c.get-2.result.now c.get-in-Done.result.now c.args.n _ h
    c.set.ensures.changed c.get.ensures.bytes c.get-2.ensures.bytes (to_z-of_z w64 c.args.n c.ranges.n) (sym c.set.ensures.value ∙ c.in-Done.is)
    (ap (λ (t : Tree Element). next_at t) c.delegate_changed.ensures.elements) (marks.shown s.program _ s.marks s.tree h.tree) c.delegate_changed.ensures.layers
    marks.stands c.get-in-Done.ensures.bytes

pub returns-in_ok-delegate_changed-in-Done-clause-sound : goal.returns-in_ok-delegate_changed-in-Done-clause-sound
returns-in_ok-delegate_changed-in-Done-clause-sound g c =
    let kept = c.args.self.now in
    let k = c.requires.sound in
    let marks = c.in_ok-delegate_changed-in-Done.ensures in
    sound_after kept.owner c.delegate_changed.new.self kept.program kept.root kept.same_root kept.frames (with_meaning k.delegates c.get-in-Done.result.now None) k.marks k.tree
    (marks.stands (plain_checked kept.program) k.delegates k.marks k.tree None k.stands) k.parts (ap (λ (t : Tree Element). next_at t) c.delegate_changed.ensures.elements)
    c.delegate_changed.ensures.spent c.delegate_changed.ensures.scale (c.delegate_changed.ensures.room kept.frames) (same_only _ _ c.delegate_changed.ensures.settled) k

pub returns-in-NoDelegate-clause-state : goal.returns-in-NoDelegate-clause-state
returns-in-NoDelegate-clause-state g c s h =
    delegate_refused c.args.self.now _ _ s c.args.name.now c.args.field.now c.get.result.now c.get-2.result.now c.args.n _ _ h c.set.ensures.changed c.get.ensures.bytes
    c.get-2.ensures.bytes (to_z-of_z w64 c.args.n c.ranges.n) c.in-NoDelegate.ensures.value no_delegate_done

pub returns-in-NoField-clause-state : goal.returns-in-NoField-clause-state
returns-in-NoField-clause-state g c s h =
    delegate_refused c.args.self.now _ _ s c.args.name.now c.args.field.now c.get.result.now c.get-2.result.now c.args.n _ _ h c.set.ensures.changed c.get.ensures.bytes
    c.get-2.ensures.bytes (to_z-of_z w64 c.args.n c.ranges.n) c.in-NoField.ensures.value no_field_done

pub returns-in_ok-delegate_changed-in-Done-clause-goes : goal.returns-in_ok-delegate_changed-in-Done-clause-goes
returns-in_ok-delegate_changed-in-Done-clause-goes g c s h =
    let marks = c.in_ok-delegate_changed-in-Done.ensures in
    delegate_marked c.args.self.now _ s c.args.name.now c.args.field.now c.get.result.now c.get-2.result.now c.get-in-Done.result.now c.args.n _ _ h
    c.get.ensures.bytes c.get-2.ensures.bytes (sym c.set.ensures.value ∙ c.in-Done.is) c.get-in-Done.ensures.bytes marks.marks
    (c.what_stands_is_drawn.ensures.alone s.program _ s.marks s.tree c.args.self.now.owner h.tree)
