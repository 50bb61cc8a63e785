use Rattle.std.proofs.Common.{◌∙◌, sym, ap, None}
use Rattle.node_tree.specs.Tree.{Tree}
use Rattle.delegates.specs.Table.{with_meaning}
use Rattle.element_tree.specs.Element.{Element}
use Rattle.build_owner.specs.Standing.{next_at}
use Rattle.program_check.specs.CheckedView.{plain_checked}
use Rattle.frame_session.proofs.CountLemmas.{unplug_marked}
use Rattle.frame_session.proofs.LastLemmas.{same_only}
use Rattle.frame_session.proofs.OwnerLemmas.{sound_after}
use Rattle.frame_session.proofs.PlugLemmas.{unplug_done, unplug_refused}
use Rattle.frame_session.proofs.held.HeldSession.unplug.Goals as goal

pub returns-then-unplug-clause-state : goal.returns-then-unplug-clause-state
returns-then-unplug-clause-state g c s h =
    let marks = c.in_ok-delegate_changed.ensures in
    unplug_done c.args.self.now c.delegate_changed.new.self _ _ s c.args.name.now h c.unplug.ensures.changed (sym c.unplug.ensures.value ∙ c.if-unplug.true)
    (ap (λ (t : Tree Element). next_at t) c.delegate_changed.ensures.elements) (marks.shown s.program _ s.marks s.tree h.tree) c.delegate_changed.ensures.layers marks.stands

pub returns-then-unplug-clause-sound : goal.returns-then-unplug-clause-sound
returns-then-unplug-clause-sound g c =
    let kept = c.args.self.now in
    let k = c.requires.sound in
    let marks = c.in_ok-delegate_changed.ensures in
    sound_after kept.owner c.delegate_changed.new.self kept.program kept.root kept.same_root kept.frames (with_meaning k.delegates c.args.name.now None) k.marks k.tree
    (marks.stands (plain_checked kept.program) k.delegates k.marks k.tree None k.stands) k.parts (ap (λ (t : Tree Element). next_at t) c.delegate_changed.ensures.elements)
    c.delegate_changed.ensures.spent c.delegate_changed.ensures.scale (c.delegate_changed.ensures.room kept.frames) (same_only _ _ c.delegate_changed.ensures.settled) k

pub returns-clause-state : goal.returns-clause-state
returns-clause-state g c s h =
    unplug_refused c.args.self.now _ _ s c.args.name.now h c.unplug.ensures.changed (sym c.unplug.ensures.value ∙ c.if-unplug.false)

pub returns-then-unplug-clause-goes : goal.returns-then-unplug-clause-goes
returns-then-unplug-clause-goes g c s h =
    let marks = c.in_ok-delegate_changed.ensures in
    unplug_marked c.args.self.now _ s c.args.name.now _ _ h (sym c.unplug.ensures.value ∙ c.if-unplug.true) marks.marks
    (c.what_stands_is_drawn.ensures.alone s.program _ s.marks s.tree c.args.self.now.owner h.tree)
