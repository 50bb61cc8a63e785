-- What a command comes to.
use Rattle.std.specs.Prelude.{ℕ, List, []}
use Rattle.build_form.specs.Step.{Fault, repeated_sibling_key, repeated_global_key, tree_too_large, output_too_large}
use Rattle.build_form.specs.declared.faults.FrameFault.{FrameFault}
use Rattle.build_form.specs.declared.faults.FrameFault.TheVariants as frame_fault
use Rattle.session_form.specs.declared.line_end.LineEnd.{LineEnd}
use Rattle.session_form.specs.declared.line_end.LineEnd.TheVariants as line_end
use Rattle.session_form.specs.declared.refusal.Refusal.{Refusal}
use Rattle.session_form.specs.FaultText.{fault_text}
use Rattle.session_form.specs.State.{SessionState}

-- It is done: the next state, and the text that is printed. It is refused: the state stays, and nothing is printed. Or a
-- frame has a fault, whose line is printed, and which ends the run: the state stays.
pub data Outcome : Type 0 where
  done : SessionState → List ℕ → Outcome
  refused : Refusal → Outcome
  faulted : Fault → Outcome

-- done without a text
abbrev pub quietly : SessionState → Outcome
quietly s = done s []

abbrev pub text_of : Outcome → List ℕ
text_of (done s text) = text
text_of (refused why) = []
text_of (faulted fault) = fault_text fault

-- the state after a command that was given in a state
abbrev pub state_after : SessionState → Outcome → SessionState
state_after before (done s text) = s
state_after before (refused why) = before
state_after before (faulted fault) = before

-- a fault as a call names it; want of memory is none
abbrev pub named_fault : Fault → FrameFault
named_fault (repeated_sibling_key k) = frame_fault.RepeatedSiblingKey k
named_fault (repeated_global_key k) = frame_fault.RepeatedGlobalKey k
named_fault tree_too_large = frame_fault.TreeTooLarge
named_fault output_too_large = frame_fault.OutputTooLarge

abbrev pub end_of : Outcome → LineEnd
end_of (done s text) = line_end.Done
end_of (refused why) = line_end.Refused why
end_of (faulted fault) = line_end.Fault (named_fault fault)
