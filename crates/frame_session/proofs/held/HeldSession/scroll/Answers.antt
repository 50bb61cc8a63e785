use Rattle.std.proofs.Common.{◌≡◌, ◌∙◌, ◌^◌, ◌+ℤ◌, pos, true, false, Some, None, is_none, ap, sym, option_map, ◌++◌, ◌∷◌, [], rules}
use Rattle.delegates.specs.Answers.{clamped}
use Rattle.plain_tree.specs.At.{changed_at, having_scroll}
use Rattle.node_tree.specs.Tree.{Tree}
use Rattle.element_tree.specs.Element.{Element}
use Rattle.program_check.specs.CheckedView.{plain_checked}
use Rattle.frame_owner.specs.Frame.{next_in}
use Rattle.build_owner.specs.Standing.{next_at}
use Rattle.frame_owner.specs.Nodes.{window_at}
use Rattle.session_form.specs.Changing.{scroll_line, scrolled_to}
use Rattle.session_form.specs.Handlers.{node_in}
use Rattle.session_form.specs.Outcome.{quietly, refused, end_of}
use Rattle.session_form.specs.State.{viewport}
use Rattle.session_form.specs.declared.refusal.Refusal.TheVariants.{NoNode, NotAViewport}
use Rattle.frame_session.proofs.CountLemmas.{scroll_marked}
use Rattle.frame_session.proofs.LastLemmas.{same_only}
use Rattle.frame_session.proofs.LineLemmas.{scroll_nowhere, scroll_there, scroll_elsewhere, window_node}
use Rattle.frame_session.proofs.OwnerLemmas.{with_owner, node_is_there, node_is_missing, sound_after, sound_scrolled}
use Rattle.frame_session.proofs.StandsLemmas.{stands_by}
use Rattle.frame_session.proofs.held.HeldSession.scroll.Goals as goal

pub returns-then-is_none-clause-state : goal.returns-then-is_none-clause-state
returns-then-is_none-clause-state c ds s h =
    let missing : is_none c.widget.result ≡ true = search rules in
    stands_by c.args.self.now ds s (scroll_line c.args.number c.args.by s) (refused NoNode)
    (scroll_nowhere s c.args.number c.args.by (node_is_missing (node_in s.tree c.args.number) c.widget.result (c.widget.ensures s.program ds s.marks s.tree h.tree) missing)) h

pub returns-then-is_none-clause-end : goal.returns-then-is_none-clause-end
returns-then-is_none-clause-end c ds s h =
    let missing : is_none c.widget.result ≡ true = search rules in
    sym (ap end_of (scroll_nowhere s c.args.number c.args.by (node_is_missing (node_in s.tree c.args.number) c.widget.result (c.widget.ensures s.program ds s.marks s.tree h.tree) missing)))

pub returns-in-Some-clause-state : goal.returns-in-Some-clause-state
returns-in-Some-clause-state c ds s h =
    let window : window_at s.tree c.args.number ≡ Some c.in-Some.offset = sym (c.scroll_at.ensures s.program ds s.marks s.tree h.tree) ∙ c.in-Some.is in
    let m = window_node s.tree c.args.number c.in-Some.offset window in
    let to = c.scrolled.result in
    let is : clamped (2 ^ 40) (pos c.in-Some.offset +ℤ c.args.by) ≡ to = search rules in
    stands_by _ ds s (scroll_line c.args.number c.args.by s) (quietly (scrolled_to c.args.number to s))
    (scroll_there s m.0 c.args.number c.in-Some.offset c.args.by m.1 window ∙ ap (λ n. quietly (scrolled_to c.args.number n s)) is)
    (with_owner c.args.self.now c.scroll.new.self ds ds s.delegates s (option_map (changed_at (having_scroll to) c.args.number) s.tree) s.marks (s.touched ++ viewport c.args.number ∷ []) h
    (c.scroll.ensures.stands s.program ds s.marks s.tree c.in-Some.offset h.tree window) (ap (λ (t : Tree Element). next_at t) c.scroll.ensures.elements)
    (c.scroll.ensures.shown s.program ds s.marks s.tree h.tree) c.scroll.ensures.layers h.delegates_mean)

pub returns-in-Some-clause-end : goal.returns-in-Some-clause-end
returns-in-Some-clause-end c ds s h =
    let window : window_at s.tree c.args.number ≡ Some c.in-Some.offset = sym (c.scroll_at.ensures s.program ds s.marks s.tree h.tree) ∙ c.in-Some.is in
    let m = window_node s.tree c.args.number c.in-Some.offset window in
    sym (ap end_of (scroll_there s m.0 c.args.number c.in-Some.offset c.args.by m.1 window))

pub returns-in-Some-clause-goes : goal.returns-in-Some-clause-goes
returns-in-Some-clause-goes c ds s h =
    let window : window_at s.tree c.args.number ≡ Some c.in-Some.offset = sym (c.scroll_at.ensures s.program ds s.marks s.tree h.tree) ∙ c.in-Some.is in
    let m = window_node s.tree c.args.number c.in-Some.offset window in
    scroll_marked c.args.number _ _ _ s _ _ (c.scroll.ensures.marks s.program ds s.marks s.tree c.in-Some.offset h.tree window)
    (c.what_stands_is_drawn.ensures.alone s.program ds s.marks s.tree c.args.self.now.owner h.tree) (scroll_there s m.0 c.args.number c.in-Some.offset c.args.by m.1 window)

pub returns-in-Some-clause-sound : goal.returns-in-Some-clause-sound
returns-in-Some-clause-sound c =
    let kept = c.args.self.now in
    let k = c.requires in
    let p = plain_checked kept.program in
    let to = c.scrolled.result in
    let window : window_at k.tree c.args.number ≡ Some c.in-Some.offset = sym (c.scroll_at.ensures p k.delegates k.marks k.tree k.stands) ∙ c.in-Some.is in
    sound_after kept.owner c.scroll.new.self kept.program kept.root kept.same_root kept.frames k.delegates k.marks (option_map (changed_at (having_scroll to) c.args.number) k.tree)
    (c.scroll.ensures.stands p k.delegates k.marks k.tree c.in-Some.offset k.stands window)
    (sound_scrolled c.changes_keep_numbering.ensures.scroll kept.program kept.root k.tree (next_in kept.owner) kept.frames c.args.number to k.parts)
    (ap (λ (t : Tree Element). next_at t) c.scroll.ensures.elements) c.scroll.ensures.spent c.scroll.ensures.scale (c.scroll.ensures.room kept.frames) (same_only _ _ c.scroll.ensures.settled) k

pub returns-in-None-clause-state : goal.returns-in-None-clause-state
returns-in-None-clause-state c ds s h =
    let there : is_none c.widget.result ≡ false = search rules in
    let m = node_is_there (node_in s.tree c.args.number) c.widget.result (c.widget.ensures s.program ds s.marks s.tree h.tree) there in
    let window : window_at s.tree c.args.number ≡ None = sym (c.scroll_at.ensures s.program ds s.marks s.tree h.tree) ∙ c.in-None.is in
    stands_by c.args.self.now ds s (scroll_line c.args.number c.args.by s) (refused NotAViewport) (scroll_elsewhere s m.0 c.args.number c.args.by m.1 window) h

pub returns-in-None-clause-end : goal.returns-in-None-clause-end
returns-in-None-clause-end c ds s h =
    let there : is_none c.widget.result ≡ false = search rules in
    let m = node_is_there (node_in s.tree c.args.number) c.widget.result (c.widget.ensures s.program ds s.marks s.tree h.tree) there in
    let window : window_at s.tree c.args.number ≡ None = sym (c.scroll_at.ensures s.program ds s.marks s.tree h.tree) ∙ c.in-None.is in
    sym (ap end_of (scroll_elsewhere s m.0 c.args.number c.args.by m.1 window))
