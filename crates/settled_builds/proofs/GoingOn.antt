-- A whole build goes on from a tree in which what is below a component was changed as it would from the old tree.
use Rattle.std.proofs.Common.{◌≡◌, ℕ, nat_lt, Bool, true, false, cond, Some, None, List, [], ◌++◌, refl, sym, ap, ◌∙◌}
use Rattle.fx_expr.specs.declared.values.Value.{Value}
use Rattle.widget_model.specs.Plain.{PlainWidget}
use Rattle.widget_model.specs.Size.{count_of as widget_count}
use Rattle.plain_tree.specs.At.{changed_at}
use Rattle.plain_tree.specs.PlainNode.{PlainNode, PlainNodes}
use Rattle.build_form.specs.Step.{Progress, Step, output_too_large, and_then}
use Rattle.build_form.specs.Partner.{Arrival, root_arrival, holder_in}
use Rattle.build_form.specs.Entering.{Blueprint, Basis, Phase, first, depth_limit, output_limit, enter}
use Rattle.build_form.specs.FullBuild.{Screen, Built, failed, built_by, live_ranges, second_phase, started, basis, both_phases, full_build}
use Rattle.work_sets.specs.Entered.{Entered, after, seen_from, seen_second, seen_in_both, entered_widgets}
use Rattle.work_sets.specs.Members.{is_same_widget}
use Rattle.settled_builds.specs.Places.{NodePlace, spot_at, HasNoGlobals}
use Rattle.settled_builds.specs.Retaken.{over}
use Rattle.settled_builds.proofs.Changed.{changed_widget, changed_index}
use Rattle.settled_builds.proofs.Holding.{unmet_after}
use Rattle.settled_builds.proofs.Keyless.{met_none}
use Rattle.settled_builds.proofs.Reaching.{AlikeAt, reached}
use Rattle.settled_builds.proofs.SeeingOn.{SeenAt, seen_on}
use Rattle.settled_builds.proofs.Selves.{itself}
use Rattle.settled_builds.proofs.Staying.{arrives_itself}
use Rattle.settled_builds.proofs.UpTo.{ComesTo}

-- the walk that enters what is seen
abbrev pub walk : Phase
walk = first

-- no global key has a holder in a tree without such keys
pub none_held : (n : PlainNode) → HasNoGlobals n → (k : Value) → holder_in (Some n) k ≡ None
none_held n keyless k = (unmet_after n (λ x. false) k (ap (λ (f : Value → Bool). f k) (met_none n (λ x. false) keyless))).1

module _ (equal : (a b : PlainWidget) → is_same_widget a b ≡ true → a ≡ b) (b : Blueprint) (screen : Screen) (wanted next : ℕ) (root : PlainWidget) (tree : PlainNode) (p : NodePlace) (change : PlainNodes → PlainNodes)
    (comes : ComesTo b wanted root tree) (at : spot_at wanted depth_limit b.defaults 0 0 tree ≡ Some p) (keyless : HasNoGlobals tree) (keyless_now : HasNoGlobals (changed_at (over change) wanted tree))
    (alike_at : AlikeAt equal (basis b (Some tree)) first change wanted p) (seen_at : SeenAt equal (basis b (Some tree)) first change wanted p) where
  abbrev now : PlainNode
  now = changed_at (over change) wanted tree

  abbrev from : Basis
  from = basis b (Some tree)

  same_basis : basis b (Some tree) ≡ basis b (Some now)
  same_basis = λ i. record { program = b; holder = λ k. (none_held tree keyless k ∙ sym (none_held now keyless_now k)) i }

  arrives : root_arrival (Some tree) root ≡ itself tree
  arrives = arrives_itself (Some tree) root tree refl comes.widget comes.place

  arrives_now : root_arrival (Some now) root ≡ itself now
  arrives_now =
      arrives_itself (Some now) root now refl (changed_widget change wanted tree ∙ comes.widget) (changed_index change wanted tree ∙ comes.place)

  entered_alike : enter from first depth_limit b.defaults (itself tree) (started next) ≡ enter from first depth_limit b.defaults (itself now) (started next)
  entered_alike = reached equal from first change wanted p depth_limit b.defaults 0 0 tree (started next) at alike_at comes.settled comes.fresh

  pub goes_on : full_build b screen (Some tree) next root ≡ full_build b screen (Some now) next root
  unfolding full_build both_phases
  goes_on =
      let small = nat_lt output_limit (widget_count root) in
      let by_step : Step PlainNode → Built = λ r. cond small (failed output_too_large) (built_by (and_then r (λ (m : PlainNode) (s1 : Progress). second_phase from (live_ranges screen) m s1.waiting s1))) in
      ap (λ (a : Arrival). by_step (enter from first depth_limit b.defaults a (started next))) arrives
      ∙ ap by_step entered_alike
      ∙ ap (λ (a : Arrival). by_step (enter from first depth_limit b.defaults a (started next))) (sym arrives_now)
      ∙ ap (λ (x : Basis). cond small (failed output_too_large) (built_by (both_phases x (live_ranges screen) (root_arrival (Some now) root) (started next)))) same_basis

  pub enters_alike : entered_widgets b screen (Some tree) next root ≡ entered_widgets b screen (Some now) next root
  unfolding entered_widgets seen_in_both
  enters_alike =
      let small = nat_lt output_limit (widget_count root) in
      let later : Step PlainNode → List Entered = λ r. after r (λ m s1. seen_second from (live_ranges screen) m s1.waiting s1) in
      let by_arrival : Arrival → List Entered = λ a. cond small [] (seen_from from first depth_limit [] b.defaults a (started next) ++ later (enter from first depth_limit b.defaults a (started next))) in
      let seen_alike = seen_on equal from first change wanted p depth_limit [] b.defaults 0 0 tree (started next) at alike_at seen_at comes.settled comes.fresh in
      ap by_arrival arrives
      ∙ (λ i. cond small [] (seen_alike i ++ later (entered_alike i)))
      ∙ ap by_arrival (sym arrives_now)
      ∙ ap (λ (x : Basis). cond small [] (seen_in_both x (live_ranges screen) (root_arrival (Some now) root) (started next))) same_basis
