-- How far a frame's build comes is what the build gives.
use Rattle.std.proofs.Common.{◌≡◌, Bool, true, false, Option, refl, if◌then◌else◌}
use Rattle.std.specs.Prelude.{nat_lt}
use Rattle.widget_model.specs.Size.{count_of}
use Rattle.plain_tree.specs.PlainNode.{PlainNode}
use Rattle.build_form.specs.Entering.{Blueprint, output_limit}
use Rattle.build_form.specs.FullBuild.{Screen, Built, failed, built_by, live_ranges, second_phase, basis, first_tree, both_phases, full_build}
use Rattle.build_form.specs.Program.{blueprint_of}
use Rattle.build_form.specs.Step.{Fault, output_too_large, Step, stops, gives, and_then}
use Rattle.session_form.specs.Framing.{screen_of, built_of}
use Rattle.session_form.specs.State.{SessionState}
use Rattle.work_sets.specs.Laws.{new_tree, tree_built}
use Rattle.work_sets.specs.Work.{MadeTree, nothing_made, made_second, made_first, made}

by_second : (tree : PlainNode) (r : Step PlainNode) → new_tree (made_second tree r) ≡ tree_built (built_by r)
by_second tree (stops fault) = refl
by_second tree (gives new s) = refl

by_first : (program : Blueprint) (screen : Screen) (old : Option PlainNode) (r : Step PlainNode)
    → new_tree (made_first program screen old r)
    ≡ tree_built (built_by (and_then r (λ tree s. second_phase (basis program old) (live_ranges screen) tree s.waiting s)))
by_first program screen old (stops fault) = refl
by_first program screen old (gives tree s) = by_second tree (second_phase (basis program old) (live_ranges screen) tree s.waiting s)

by_size : (b : Bool) (fault : Fault) (m : MadeTree) (r : Built) → new_tree m ≡ tree_built r
    → new_tree (if b then nothing_made else m) ≡ tree_built (if b then failed fault else r)
by_size true fault m r h = refl
by_size false fault m r h = h

pub made_built : (s : SessionState) → new_tree (made s) ≡ tree_built (built_of s)
unfolding full_build both_phases
made_built s =
    by_size (nat_lt output_limit (count_of s.root)) output_too_large _ _
    (by_first (blueprint_of s.program) (screen_of s) s.tree (first_tree (blueprint_of s.program) s.tree s.next s.root))
