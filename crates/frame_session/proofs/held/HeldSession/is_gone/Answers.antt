use Rattle.std.proofs.Common.{rules, ◌≡◌, is_none, sym, ap, ◌∙◌}
use Rattle.session_form.specs.Handlers.{node_in}
use Rattle.frame_session.proofs.OwnerLemmas.{widget_there, node_missing, nobody}
use Rattle.frame_session.proofs.GoneLemmas.{gone_here}
use Rattle.frame_session.proofs.held.HeldSession.is_gone.Goals as goal

pub returns-in-Some : goal.returns-in-Some
returns-in-Some c ds s h =
    let m = widget_there (node_in s.tree c.args.member.node) c.widget.result c.in-Some.widget c.deref.result.now c.in-Some.is (c.widget.ensures s.program ds s.marks s.tree h.tree) c.deref.ensures in
    let told : c.is_none.result ≡ is_none c.handler_of.result = search rules in
    told ∙ gone_here s.tree c.args.member m.0 c.deref.result.now c.handler_of.result m.1 m.2 c.handler_of.ensures.there c.handler_of.ensures.missing

pub returns-in-None : goal.returns-in-None
returns-in-None c ds s h =
    sym (ap is_none (nobody s.tree c.args.member.node c.args.member.gesture (node_missing (node_in s.tree c.args.member.node) c.widget.result c.in-None.is (c.widget.ensures s.program ds s.marks s.tree h.tree))))
