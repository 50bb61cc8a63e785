use Rattle.std.proofs.Common.{◌≡◌, ◌++◌, drop}
use Rattle.session_form.specs.FrameText.{nodes_text}
use Rattle.frame_session.proofs.frame_text.push_nodes.Given as goal

abbrev pub invariant-loop-node : goal.invariant-loop-node
invariant-loop-node l = l.out.items ++ nodes_text (drop l.node-index l.nodes) ≡ l.fn.out.items ++ nodes_text l.nodes
