-- Where the first phase of a build gives no lazy list, and none waits, the tree of the build has none.
use Rattle.std.proofs.Common.{◌≡◌, ℕ, nat_lt, Option, List, [], refl, sym, ap, ◌∙◌, subst}
use Rattle.widget_model.specs.Plain.{PlainWidget}
use Rattle.widget_model.specs.Size.{count_of}
use Rattle.plain_tree.specs.PlainNode.{PlainNode}
use Rattle.build_form.specs.Step.{Progress, Step, stops, gives, and_then, output_too_large}
use Rattle.build_form.specs.Partner.{root_arrival}
use Rattle.build_form.specs.Entering.{Blueprint, output_limit}
use Rattle.build_form.specs.FullBuild.{Screen, built, built_by, live_ranges, second_phase, started, basis, first_tree, both_phases, full_build}
use Rattle.build_form.proofs.OldOrNew.{small_built}
use Rattle.versioned_kinds.specs.Lists.{HasNoLists}

module _ (b : Blueprint) (screen : Screen) (old : Option PlainNode) (next after : ℕ) (root : PlainWidget) (tree : PlainNode) (whole : full_build b screen old next root ≡ built tree after)
    (free : (mid : PlainNode) (s : Progress) → first_tree b old next root ≡ gives mid s → HasNoLists mid × (s.waiting ≡ [])) where
  begun : (r : Step PlainNode) → first_tree b old next root ≡ r → built_by (and_then r (λ mid s. second_phase (basis b old) (live_ranges screen) mid s.waiting s)) ≡ built tree after → HasNoLists tree
  begun (stops f) is e = cc
  begun (gives mid s) is e =
      let h = free mid s is in
      let done : built mid s.next ≡ built tree after = sym (ap (λ (os : List (Option PlainNode)). built_by (second_phase (basis b old) (live_ranges screen) mid os s)) h.1) ∙ e in
      let same : mid ≡ tree = cc in
      subst HasNoLists same h.0

  pub no_list_built : HasNoLists tree
  unfolding full_build both_phases
  no_list_built =
      let rest = both_phases (basis b old) (live_ranges screen) (root_arrival old root) (started next) in
      begun (first_tree b old next root) refl (small_built (nat_lt output_limit (count_of root)) output_too_large rest tree after whole)
