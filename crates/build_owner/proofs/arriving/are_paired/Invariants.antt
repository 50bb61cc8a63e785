use Rattle.std.proofs.Common.{◌≡◌, ◌<◌, ℕ, Some, map, slice_get}
use Rattle.fx_handles.specs.declared.Handle.{Handle}
use Rattle.widget_model.specs.Plain.{PlainWidget}
use Rattle.widget_model.specs.View.{shared}
use Rattle.build_owner.specs.ArrivalView.{IsPair}
use Rattle.build_owner.proofs.arriving.are_paired.Given as goal

-- so far each is a pair
abbrev pub invariant-loop-i : goal.invariant-loop-i
invariant-loop-i l = (k : ℕ) (h : Handle) (w : PlainWidget) → k < l.i → slice_get l.handles k ≡ Some h → slice_get (map shared l.widgets) k ≡ Some w → IsPair l.t.tree k h w
