use Rattle.std.proofs.Common.{refl}
use Rattle.std.specs.Fmt.{digits}
use Rattle.frame_run.specs.Demo.{program_front, program_back, demo_input, lines_starting, summary}
use Rattle.frame_run.proofs.demo.worked_demo.Goals as goal

pub returns : goal.returns
unfolding digits program_front program_back demo_input lines_starting summary
returns c = record { first = refl; second = refl; wrapped = refl; same = refl; scroll = refl; scroll_back = refl; set = refl; frame = refl; hit = refl; input = refl; starting = refl; refused = refl; summary = refl }
