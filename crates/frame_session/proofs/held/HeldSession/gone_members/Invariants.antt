-- Those that were found, with those among the members that are left, are all.
use Rattle.std.proofs.Common.{◌≡◌, ◌++◌, List, drop, filter}
use Rattle.delegates.specs.Table.{Plug}
use Rattle.gesture_arena.specs.Pointers.{members_of}
use Rattle.session_form.specs.Framing.{gone_members}
use Rattle.session_form.specs.Handlers.{is_gone}
use Rattle.frame_session.specs.StandsFor.{StandsFor}
use Rattle.session_form.specs.State.{SessionState}
use Rattle.frame_session.proofs.held.HeldSession.gone_members.Given as goal

abbrev pub invariant-loop-i : goal.invariant-loop-i
invariant-loop-i l =
    (ds : List Plug) (s : SessionState) → StandsFor l.self ds s
    → l.gone.items ++ filter (is_gone s.tree) (drop l.i (members_of s.pointers)) ≡ gone_members s
