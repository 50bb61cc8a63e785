use Rattle.std.proofs.Common.{rules}
use Rattle.worked_calls.proofs.screen_steps.scroll_of.Goals as goal

pub returns : goal.returns
returns c = search rules
