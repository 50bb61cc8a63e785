-- The place of a name in all fields is that in those that are left, so much later.
use Rattle.std.proofs.Common.{◌≡◌, drop, option_map}
use Rattle.expr_check.specs.Names.{place_of}
use Rattle.session_form.proofs.PlaceLemmas.{later}
use Rattle.frame_session.proofs.changing.field_named.Given as goal

abbrev pub invariant-loop-i : goal.invariant-loop-i
invariant-loop-i l = place_of l.fields l.name ≡ option_map (later l.i) (place_of (drop l.i l.fields) l.name)
