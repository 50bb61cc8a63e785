use Rattle.std.proofs.Common.{Option, option_and_then, sym, ap, ◌∙◌}
use Rattle.fx_handles.specs.declared.Handle.{Handle}
use Rattle.render_tree.specs.Plain.{root_below}
use Rattle.render_readers.specs.Shown.{laid_once}
use Rattle.screen_owner.specs.Screen.{laid_size, shown_in}
use Rattle.screen_owner.proofs.Owning.{size_of_root}
use Rattle.frame_owner.specs.Frame.{KeptFrame}
use Rattle.frame_owner.proofs.owner.FrameOwner.shown_size.Goals as goal

pub returns-in-Some : goal.returns-in-Some
returns-in-Some c =
    let t = c.self.inside.nodes.tree in
    c.size.ensures
    ∙ (size_of_root t c.in-Some.root (sym c.root.ensures.value ∙ c.in-Some.is) c.in-Some.ensures.holds
    ∙ ap (λ (x : KeptFrame). option_and_then laid_size (shown_in x.screen)) c.self.view_is)

pub returns-in-None : goal.returns-in-None
returns-in-None c =
    sym (ap (λ (x : KeptFrame). option_and_then laid_size (shown_in x.screen)) (sym c.self.view_is)
    ∙ ap (λ (r : Option Handle). option_and_then laid_size (laid_once (root_below c.self.inside.nodes.tree r))) (sym c.root.ensures.value ∙ c.in-None.is))
