use Rattle.std.proofs.Common.{List, string_bytes, sym, subst}
use Rattle.delegates.specs.Table.{Plug, each_of, plugged, meant_in}
use Rattle.program_check.specs.CheckedView.{plain_checked}
use Rattle.session_form.specs.State.{first_state}
use Rattle.frame_session.specs.StandsFor.{StandsFor}
use Rattle.frame_session.specs.declared.held.HeldSession.{HeldSession}
use Rattle.frame_session.proofs.session.Session.new.Goals as goal

pub returns-clause-state : goal.returns-clause-state
returns-clause-state g c =
    let ds : List Plug = each_of {B = Plug} c.args.delegates.items (λ n. plugged (string_bytes n.name) ((g.dyn-1.0.entry n.delegate.vtable).1.meaning n.delegate.value)) in
    let s = first_state (plain_checked c.args.program) ds in
    let meant = meant_in c.in_ok-delegates.delegates (λ v. (g.dyn-1.0.entry v).1) in
    let here : StandsFor c.in_ok-held.held meant s =
    subst (λ (es : List Plug). StandsFor c.in_ok-held.held es s) (sym c.in_ok-delegates.ensures) (c.in_ok-held.ensures.state ds) in
    (c.new-2.ensures.fresh, c.new-2.ensures.going, subst (λ (kept : HeldSession). StandsFor kept meant s) (sym c.new-2.ensures.held) here)
