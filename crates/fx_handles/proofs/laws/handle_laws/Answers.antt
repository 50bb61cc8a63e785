use Rattle.fx_handles.specs.HandleLaws.{same-true, same-eq, times_here, times_there}
use Rattle.fx_handles.proofs.laws.handle_laws.Goals as goal

pub returns : goal.returns
returns c = record {
  same = λ h k. (same-true h k, same-eq h k);
  here = times_here;
  there = times_there;
}
