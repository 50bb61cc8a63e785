-- each counter has a ledger of its own
use Rattle.worked_calls.proofs.list_frames.frames_over_lists_are_plain_builds.Given as goal

abbrev pub ghosts-run_all-B-Ledger : goal.ghosts-run_all-B-Ledger
ghosts-run_all-B-Ledger g a = record { name = a.builds.name; parts = a.builds.parts }

abbrev pub ghosts-run_all-L-Ledger : goal.ghosts-run_all-L-Ledger
ghosts-run_all-L-Ledger g a = record { name = a.layouts.name; parts = a.layouts.parts }

abbrev pub ghosts-run_all-P-Ledger : goal.ghosts-run_all-P-Ledger
ghosts-run_all-P-Ledger g a = record { name = a.paints.name; parts = a.paints.parts }
