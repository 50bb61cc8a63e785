use Rattle.frame_session.proofs.held.HeldSession.states.Goals as goal

pub returns : goal.returns
returns c ds s h = c.print_states.ensures s.program ds s.marks s.tree h.tree
