-- A build whose second phase comes to a fault has the tree of the first one.
use Rattle.std.proofs.Common.{◌≡◌, ℕ, nat_lt, Bool, true, false, cond, Option, refl, sym, ap, subst, ◌∙◌}
use Rattle.std.proofs.lemmas.Bool.{false≢true}
use Rattle.widget_model.specs.Plain.{PlainWidget}
use Rattle.widget_model.specs.Size.{count_of}
use Rattle.plain_tree.specs.PlainNode.{PlainNode}
use Rattle.build_form.specs.Step.{Fault, Progress, Step, stops, gives, and_then}
use Rattle.build_form.specs.Entering.{Blueprint, output_limit}
use Rattle.build_form.specs.FullBuild.{Screen, failed, built_by, live_ranges, second_phase, started, basis, first_tree, both_phases, full_build}
use Rattle.build_form.specs.Partner.{root_arrival}
use Rattle.work_sets.specs.Work.{first_made, made_second, made_first}

stopped : (tree : PlainNode) (r : Step PlainNode) (f : Fault) → built_by r ≡ failed f → made_second tree r ≡ first_made tree
stopped tree (stops g) f e = refl
stopped tree (gives n s) f e = absurd (cc)

small_failed : (b : Bool) (g : Fault) (r : Step PlainNode) (f : Fault) → b ≡ false → cond b (failed g) (built_by r) ≡ failed f → built_by r ≡ failed f
small_failed true g r f small e = absurd (false≢true (sym small))
small_failed false g r f small e = e

pub second_fault : (b : Blueprint) (screen : Screen) (old : Option PlainNode) (next : ℕ) (root : PlainWidget) (tree : PlainNode) (s : Progress) (f : Fault) → nat_lt output_limit (count_of root) ≡ false
    → first_tree b old next root ≡ gives tree s → full_build b screen old next root ≡ failed f → made_first b screen old (first_tree b old next root) ≡ first_made tree
unfolding full_build both_phases
second_fault b screen old next root tree s f small done is =
    ap (made_first b screen old) done
    ∙ stopped tree (second_phase (basis b old) (live_ranges screen) tree s.waiting s) f
    (subst (λ (r : Step PlainNode). built_by (and_then r (λ n s1. second_phase (basis b old) (live_ranges screen) n s1.waiting s1)) ≡ failed f) done
    (small_failed (nat_lt output_limit (count_of root)) _ (both_phases (basis b old) (live_ranges screen) (root_arrival old root) (started next)) f small is))
