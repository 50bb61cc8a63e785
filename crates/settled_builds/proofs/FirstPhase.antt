-- Where an Inherit below the first marked component gives another value, the first phase of a build comes to what it would have come to.
use Rattle.std.proofs.Common.{◌≡◌, ℕ, true, Some, List, refl, sym, ap, ◌∙◌}
use Rattle.widget_model.specs.Plain.{PlainWidget}
use Rattle.plain_tree.specs.PlainNode.{PlainNode}
use Rattle.build_form.specs.Step.{Step, stops, gives}
use Rattle.build_form.specs.Partner.{Arrival, root_arrival}
use Rattle.build_form.specs.Entering.{Blueprint, Basis, first, depth_limit, enter}
use Rattle.build_form.specs.FullBuild.{Screen, live_ranges, second_phase, started, basis, first_tree}
use Rattle.work_sets.specs.Members.{is_same_widget}
use Rattle.work_sets.specs.Work.{made_second, made_first}
use Rattle.settled_builds.specs.Places.{NodePlace, HasNoGlobals}
use Rattle.settled_builds.specs.Regiven.{first_having, regiven, ReadTheirNames, CanRegive}
use Rattle.settled_builds.specs.Settled.{IsReadyTree}
use Rattle.settled_builds.specs.Steps.{IsFirstMarked}
use Rattle.settled_builds.proofs.Changed.{changed_widget, changed_index}
use Rattle.settled_builds.proofs.GoingOn.{none_held}
use Rattle.settled_builds.proofs.Reaching.{reached}
use Rattle.settled_builds.proofs.RegivenReady.{regiven_ready}
use Rattle.settled_builds.proofs.Regiving.{regiven_alike}
use Rattle.settled_builds.proofs.Selves.{itself}
use Rattle.settled_builds.proofs.Staying.{arrives_itself}
use Rattle.settled_builds.proofs.UpTo.{ComesTo, ready_comes}

module _ (equal : (a b : PlainWidget) → is_same_widget a b ≡ true → a ≡ b) (b : Blueprint) (marks : List ℕ) (wanted next : ℕ) (root : PlainWidget) (tree : PlainNode) (p : NodePlace) (ready : IsReadyTree b marks next root tree)
    (begins : IsFirstMarked b marks wanted tree p) (reads : ReadTheirNames b tree) (w : PlainWidget) (name : ℕ) (can : CanRegive b w name p) where
  abbrev now : PlainNode
  now = regiven w wanted tree

  abbrev from : Basis
  from = basis b (Some tree)

  keyless : HasNoGlobals now
  keyless = (regiven_ready b marks next wanted w name p can root tree ready begins reads).keyless

  comes : ComesTo b wanted root tree
  comes = ready_comes marks b wanted next root tree ready begins.first

  same_basis : basis b (Some tree) ≡ basis b (Some now)
  same_basis = λ i. record { program = b; holder = λ k. (none_held tree ready.keyless k ∙ sym (none_held now keyless k)) i }

  abbrev by_arrival : Basis → Arrival → Step PlainNode
  by_arrival x a = enter x first depth_limit b.defaults a (started next)

  arrives : root_arrival (Some tree) root ≡ itself tree
  arrives = arrives_itself (Some tree) root tree refl comes.widget comes.place

  arrives_now : root_arrival (Some now) root ≡ itself now
  arrives_now = arrives_itself (Some now) root now refl (changed_widget (first_having w) wanted tree ∙ comes.widget) (changed_index (first_having w) wanted tree ∙ comes.place)

  entered_alike : by_arrival from (itself tree) ≡ by_arrival from (itself now)
  entered_alike = reached equal from first (first_having w) wanted p depth_limit b.defaults 0 0 tree (started next) begins.at (regiven_alike equal from first w name wanted p can) comes.settled comes.fresh

  first_alike : first_tree b (Some tree) next root ≡ first_tree b (Some now) next root
  first_alike =
      ap (by_arrival from) arrives
      ∙ entered_alike
      ∙ ap (by_arrival from) (sym arrives_now)
      ∙ ap (λ (x : Basis). by_arrival x (root_arrival (Some now) root)) same_basis

  second_alike : (screen : Screen) (r : Step PlainNode) → made_first b screen (Some tree) r ≡ made_first b screen (Some now) r
  second_alike screen (stops fault) = refl
  second_alike screen (gives m s) = ap (λ (x : Basis). made_second m (second_phase x (live_ranges screen) m s.waiting s)) same_basis

  pub made_alike : (screen : Screen) → made_first b screen (Some tree) (first_tree b (Some tree) next root) ≡ made_first b screen (Some now) (first_tree b (Some now) next root)
  made_alike screen = ap (made_first b screen (Some tree)) first_alike ∙ second_alike screen (first_tree b (Some now) next root)
