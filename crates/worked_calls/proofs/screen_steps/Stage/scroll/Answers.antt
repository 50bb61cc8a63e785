use Rattle.std.proofs.Common.{sym, ◌∙◌, subst}
use Rattle.screen_owner.specs.Last.{only_at}
use Rattle.worked_calls.specs.Grown.{IsTame, EachOf}
use Rattle.worked_calls.proofs.Histories.{all_scrolled_tame}
use Rattle.worked_calls.proofs.screen_steps.Stage.scroll.Goals as goal

pub returns : goal.returns
returns g c = record {
  awake = c.scroll.ensures.spent ∙ c.requires.awake;
  right = c.scroll.ensures.right _ c.requires.awake c.requires.right;
  tame = subst (EachOf IsTame) (sym (c.scroll.ensures.renders c.requires.awake)) (all_scrolled_tame (only_at 9 c.args.to) _ c.requires.tame);
}
