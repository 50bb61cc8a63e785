use Rattle.std.proofs.Common.{refl}
use Rattle.gesture_arena.proofs.laws.worked_gestures.Goals as goal

pub returns : goal.returns
returns c = record {
  nested_taps = refl;
  near = refl;
  far = refl;
  near_in_fine_u = refl;
  far_in_fine_u = refl;
  early = refl;
  late = refl;
  lost = refl;
  lone = refl;
  without_members = refl;
}
