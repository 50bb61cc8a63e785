use Rattle.layout_walk.proofs.Asks.{same_ask_is, same_ask_self, same_frame_is, same_frame_self}
use Rattle.layout_walk.proofs.laws.asks_are_compared.Goals as goal

pub returns-clause-same : goal.returns-clause-same
returns-clause-same c = same_ask_is

pub returns-clause-itself : goal.returns-clause-itself
returns-clause-itself c = same_ask_self

pub returns-clause-frames : goal.returns-clause-frames
returns-clause-frames c = same_frame_is

pub returns-clause-itself_frame : goal.returns-clause-itself_frame
returns-clause-itself_frame c = same_frame_self
