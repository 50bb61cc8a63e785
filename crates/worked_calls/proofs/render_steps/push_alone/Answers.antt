use Rattle.std.proofs.Common.{◌∙◌}
use Rattle.worked_calls.proofs.render_steps.push_alone.Goals as goal

pub returns : goal.returns
returns c = (c.new-2.result, c.new-2.ensures.at, c.new-2.ensures.parent, c.new-2.ensures.children ∙ c.new.ensures.items, c.in_ok-push.ensures.items)
