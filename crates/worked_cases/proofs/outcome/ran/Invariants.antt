-- each counter has a ledger of its own
use Rattle.worked_cases.proofs.outcome.ran.Given as goal

abbrev pub ghosts-run_counted-B-Ledger : goal.ghosts-run_counted-B-Ledger
ghosts-run_counted-B-Ledger a = record { name = a.builds.name; parts = a.builds.parts }

abbrev pub ghosts-run_counted-L-Ledger : goal.ghosts-run_counted-L-Ledger
ghosts-run_counted-L-Ledger a = record { name = a.layouts.name; parts = a.layouts.parts }

abbrev pub ghosts-run_counted-P-Ledger : goal.ghosts-run_counted-P-Ledger
ghosts-run_counted-P-Ledger a = record { name = a.paints.name; parts = a.paints.parts }
