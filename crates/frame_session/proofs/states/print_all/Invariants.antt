-- What is added so far, with the states that are left, is all.
use Rattle.std.proofs.Common.{◌≡◌, ◌++◌, ℕ, List, Option, drop}
use Rattle.delegates.specs.Table.{Plug}
use Rattle.plain_tree.specs.PlainNode.{PlainNode}
use Rattle.program_check.specs.Checked.{PlainChecked}
use Rattle.frame_owner.specs.Standing.{FrameStandsFor}
use Rattle.session_form.specs.Handlers.{node_in}
use Rattle.session_form.specs.StatesText.{all_states_text}
use Rattle.frame_session.specs.NodeState.{states_found}
use Rattle.frame_session.proofs.states.print_all.Given as goal

abbrev pub invariant-loop-number : goal.invariant-loop-number
invariant-loop-number l =
    (c : PlainChecked) (delegates : List Plug) (marks : List ℕ) (tree : Option PlainNode) → FrameStandsFor c delegates marks tree l.owner
    → l.out.items ++ all_states_text (states_found (node_in tree) (drop l.number-index l.numbers)) ≡ l.fn.out.items ++ all_states_text (states_found (node_in tree) l.numbers)
