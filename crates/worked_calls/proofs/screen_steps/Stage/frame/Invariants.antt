-- each counter has a ledger of its own
use Rattle.worked_calls.proofs.screen_steps.Stage.frame.Given as goal

abbrev pub ghosts-show-L-Ledger : goal.ghosts-show-L-Ledger
ghosts-show-L-Ledger g a = record { name = a.layouts.name; parts = a.layouts.parts }

abbrev pub ghosts-show-P-Ledger : goal.ghosts-show-P-Ledger
ghosts-show-P-Ledger g a = record { name = a.paints.name; parts = a.paints.parts }
