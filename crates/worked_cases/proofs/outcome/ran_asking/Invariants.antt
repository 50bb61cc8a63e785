-- each counter has a ledger of its own
use Rattle.worked_cases.proofs.outcome.ran_asking.Given as goal

abbrev pub ghosts-run_over-B-Ledger : goal.ghosts-run_over-B-Ledger
ghosts-run_over-B-Ledger a = record { name = a.builds.name; parts = a.builds.parts }

abbrev pub ghosts-run_over-L-Ledger : goal.ghosts-run_over-L-Ledger
ghosts-run_over-L-Ledger a = record { name = a.layouts.name; parts = a.layouts.parts }

abbrev pub ghosts-run_over-P-Ledger : goal.ghosts-run_over-P-Ledger
ghosts-run_over-P-Ledger a = record { name = a.paints.name; parts = a.paints.parts }
