-- Steps follow one another.
use Rattle.std.proofs.Common.{◌≡◌, ℕ, ◌+◌, Some, List, ap, ◌∙◌, arith}
use Rattle.widget_model.specs.Plain.{PlainWidget}
use Rattle.plain_tree.specs.PlainNode.{PlainNode}
use Rattle.build_form.specs.Entering.{Blueprint}
use Rattle.build_form.specs.FullBuild.{Screen, built, full_build}
use Rattle.build_walk.specs.Standing.{all_builds}
use Rattle.settled_builds.specs.Settled.{IsSettledFor}
use Rattle.settled_builds.specs.Steps.{Leads}
use Rattle.settled_builds.proofs.Staying.{tree_stays}

module _ (b : Blueprint) (next : ℕ) (root : PlainWidget) (tree new : PlainNode) (marks left : List ℕ) (builds : ℕ) (h : Leads b next root tree marks new left builds) where
  counted_on : (more all : ℕ) → builds + (more + all) ≡ (builds + more) + all
  counted_on more all = omega arith

  none_more : builds + 0 ≡ builds
  none_more = omega arith

  pub follow : (last : PlainNode) (rest : List ℕ) (more : ℕ) → Leads b next root new left last rest more → Leads b next root tree marks last rest (builds + more)
  follow last rest more g =
      record {
        full = λ screen. h.full screen ∙ g.full screen;
        count = λ screen. h.count screen ∙ ap (λ k. builds + k) (g.count screen) ∙ counted_on more (all_builds b screen (Some last) rest next root);
      }

  pub tree_then : (screen : Screen) → IsSettledFor b left root new → full_build b screen (Some tree) next root ≡ built new next
  tree_then screen settled = h.full screen ∙ tree_stays b screen left next root new settled

  pub builds_then : (screen : Screen) → all_builds b screen (Some new) left next root ≡ 0 → all_builds b screen (Some tree) marks next root ≡ builds
  builds_then screen none = h.count screen ∙ ap (λ k. builds + k) none ∙ none_more
