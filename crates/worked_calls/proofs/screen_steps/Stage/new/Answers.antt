use Rattle.std.proofs.Common.{sym, subst}
use Rattle.worked_calls.specs.Grown.{IsTame, EachOf}
use Rattle.worked_calls.proofs.screen_steps.Stage.new.Goals as goal

pub returns : goal.returns
returns g c = record {
  awake = c.new.ensures.spent;
  right = c.new.ensures.right _;
  tame = subst (EachOf IsTame) (sym c.new.ensures.renders) tt;
}
