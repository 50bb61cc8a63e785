-- What the handles so far change, and that nothing else has changed.
use Rattle.std.proofs.Common.{◌≡◌, take}
use Rattle.kept_layers.specs.Steps.{calm_listed}
use Rattle.paint_owner.proofs.Clearing.{IsCleared}
use Rattle.paint_owner.proofs.settling.clear_flags.Given as goal

abbrev pub invariant-loop-h : goal.invariant-loop-h
invariant-loop-h l = IsCleared (calm_listed (take l.h-index l.hs)) l.fn.tree.tree l.tree.tree × (l.tree.scale ≡ l.fn.tree.scale) × (l.tree.spent ≡ l.fn.tree.spent)
