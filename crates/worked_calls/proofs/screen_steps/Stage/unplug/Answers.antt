use Rattle.std.proofs.Common.{List, sym, ◌∙◌, subst}
use Rattle.delegates.specs.Table.{Plug}
use Rattle.screen_owner.specs.Screen.{IsRight}
use Rattle.worked_calls.specs.Grown.{IsTame, EachOf}
use Rattle.worked_calls.proofs.screen_steps.Stage.unplug.Goals as goal

pub returns : goal.returns
returns g c =
    let new = c.delegate_changed.new.self in
    record {
      awake = c.delegate_changed.ensures.spent ∙ c.requires.awake;
      right = subst (λ (ds : List Plug). IsRight ds new) (sym c.unplug.ensures.changed) (c.in_ok-delegate_changed.ensures.right _ _ c.requires.awake c.requires.right);
      tame = subst (EachOf IsTame) (sym (c.in_ok-delegate_changed.ensures.renders c.requires.awake)) c.requires.tame;
    }
