-- What a build comes to by its first phase, where that ends it.
use Rattle.std.proofs.Common.{◌≡◌, ℕ, ◌+◌, nat_lt, true, false, Option, Some, None, IfSome, List, [], ◌++◌, refl, sym, ap, ◌∙◌, subst}
use Rattle.std.specs.Option.{option_to_list}
use Rattle.std.proofs.lemmas.List.{append-nil}
use Rattle.widget_model.specs.Plain.{PlainWidget}
use Rattle.widget_model.specs.Size.{count_of}
use Rattle.program_check.specs.Checked.{PlainChecked}
use Rattle.plain_tree.specs.PlainNode.{PlainNode, nodes_of as listed}
use Rattle.build_form.specs.Step.{Fault, Progress, stops, gives}
use Rattle.build_form.specs.Entering.{Blueprint, output_limit}
use Rattle.build_form.specs.FullBuild.{Screen, built, live_ranges, second_phase, basis, first_tree, full_build}
use Rattle.build_form.specs.Program.{blueprint_of}
use Rattle.build_form.proofs.Started.{both_done}
use Rattle.element_tree.specs.Element.{Element}
use Rattle.element_tree.specs.Nodes.{nodes_of}
use Rattle.node_tree.specs.Tree.{Tree}
use Rattle.work_sets.specs.Entered.{after, seen_second, seen_in_both, entered_widgets}
use Rattle.build_walk.specs.Fresh.{IsKnown, AreKnown}
use Rattle.build_walk.specs.Standing.{ElementsStandFor, pasts_from, first_entered}

-- what is known of elements is known of the tree for which they stand
pub old_known : (c : PlainChecked) (marks : List ℕ) (old : Option PlainNode) (scrolled : ℕ → ℕ) (t : Tree Element) (s : ElementsStandFor c marks old scrolled t)
    → AreKnown (blueprint_of c) (pasts_from c s.forest) (listed (nodes_of scrolled s.forest)) → IfSome old (IsKnown (blueprint_of c) (pasts_from c s.forest))
old_known c marks old scrolled t s all = by_old old (subst (λ ns. AreKnown (blueprint_of c) (pasts_from c s.forest) (listed ns)) (sym s.nodes) all)
  where
    by_old : (o : Option PlainNode) → AreKnown (blueprint_of c) (pasts_from c s.forest) (listed (option_to_list o)) → IfSome o (IsKnown (blueprint_of c) (pasts_from c s.forest))
    by_old None k = tt
    by_old (Some x) k = k.0

module _ (b : Blueprint) (screen : Screen) (old : Option PlainNode) (next : ℕ) (w : PlainWidget) where
  pub entered_none : nat_lt output_limit (count_of w) ≡ true → entered_widgets b screen old next w ≡ []
  unfolding entered_widgets
  entered_none large = rw large refl

  pub entered_stopped : (f : Fault) → nat_lt output_limit (count_of w) ≡ false → first_tree b old next w ≡ stops f → entered_widgets b screen old next w ≡ first_entered b old next w
  unfolding entered_widgets seen_in_both
  entered_stopped f small stopped =
      rw small
      (ap (λ r. first_entered b old next w ++ after r (λ tree s1. seen_second (basis b old) (live_ranges screen) tree s1.waiting s1)) stopped ∙ append-nil (first_entered b old next w))

  module _ (tree : PlainNode) (s : Progress) (small : nat_lt output_limit (count_of w) ≡ false) (done : first_tree b old next w ≡ gives tree s) (none_wait : s.waiting ≡ []) where
    pub built_first : full_build b screen old next w ≡ built tree s.next
    built_first = both_done b screen old next w (basis b old) refl tree s small done tree s (ap (λ ws. second_phase (basis b old) (live_ranges screen) tree ws s) none_wait)

    pub entered_first : entered_widgets b screen old next w ≡ first_entered b old next w
    unfolding entered_widgets seen_in_both
    entered_first =
        rw small
        (ap (λ r. first_entered b old next w ++ after r (λ n s1. seen_second (basis b old) (live_ranges screen) n s1.waiting s1)) done
        ∙ ap (λ ws. first_entered b old next w ++ seen_second (basis b old) (live_ranges screen) tree ws s) none_wait
        ∙ append-nil (first_entered b old next w))
