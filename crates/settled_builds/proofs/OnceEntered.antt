-- A whole build enters once the node to which it comes as the tree stands.
use Rattle.std.proofs.Common.{◌≡◌, ℕ, ◌+◌, ◌<◌, ◌≤◌, Bool, false, cond, Option, Some, IfSome, [], ◌++◌, refl, sym, ap, subst, arith}
use Rattle.fx_expr.specs.declared.values.Value.{Value}
use Rattle.widget_model.specs.Plain.{PlainWidget}
use Rattle.plain_tree.specs.At.{numbers_of}
use Rattle.plain_tree.specs.Laws.{AllDiffer}
use Rattle.plain_tree.specs.PlainNode.{PlainNode, widget_of, count_of}
use Rattle.build_form.specs.Partner.{Arrival, root_arrival, holder_in}
use Rattle.build_form.specs.Entering.{Blueprint, first, depth_limit, enter}
use Rattle.build_form.specs.FullBuild.{Screen, live_ranges, started, basis}
use Rattle.build_form.specs.Laws.{NumbersAre}
use Rattle.work_sets.specs.Entered.{after, seen_from, seen_second, seen_in_both, entered_widgets}
use Rattle.settled_builds.specs.Places.{NodePlace, spot_at, HasNoGlobals}
use Rattle.settled_builds.proofs.Holding.{unmet_after}
use Rattle.settled_builds.proofs.Once.{Other, alone, OnceIn, once_sooner, Found, found}
use Rattle.settled_builds.proofs.Others.{so_after, Calm, second_so}
use Rattle.settled_builds.proofs.Keyless.{met_none}
use Rattle.settled_builds.proofs.Selves.{itself}
use Rattle.settled_builds.proofs.Staying.{arrives_itself}
use Rattle.settled_builds.proofs.UpTo.{ComesTo}

module _ (b : Blueprint) (wanted next : ℕ) (root : PlainWidget) (tree : PlainNode) (p : NodePlace) (at : spot_at wanted depth_limit b.defaults 0 0 tree ≡ Some p) (comes : ComesTo b wanted root tree)
    (keyless : HasNoGlobals tree) (differ : AllDiffer (numbers_of tree)) (old : wanted < next) (screen : Screen) where
  later : (n : ℕ) → next ≤ n → n ≡ wanted → ⊥
  later n low e = omega arith

  holders : (k : Value) → IfSome (holder_in (Some tree) k) (NumbersAre (Other wanted))
  holders k =
      subst (λ (o : Option PlainNode). IfSome o (NumbersAre (Other wanted))) (sym (unmet_after tree (λ x. false) k (ap (λ (f : Value → Bool). f k) (met_none tree (λ x. false) keyless))).1) tt

  fits : (c limit : ℕ) → c ≤ limit → 0 + c ≤ limit
  fits c limit low = omega arith

  low_start : next ≤ next
  low_start = omega arith

  found_it : Found (basis b (Some tree)) wanted next later holders depth_limit [] b.defaults tree (started next) p
  found_it =
      found (basis b (Some tree)) wanted next later holders depth_limit [] b.defaults 0 0 tree (started next) p at comes.settled comes.fresh comes.within keyless (alone wanted tree differ)
      (fits (count_of tree) b.nodes comes.few) (tt, low_start)

  pub once : OnceIn wanted (widget_of p.node) p.values (entered_widgets b screen (Some tree) next root)
  unfolding entered_widgets seen_in_both
  once =
      let from = basis b (Some tree) in
      subst (λ (t : Bool). OnceIn wanted (widget_of p.node) p.values (cond t [] (seen_in_both from (live_ranges screen) (root_arrival (Some tree) root) (started next)))) (sym comes.small)
      (subst (λ (a : Arrival). OnceIn wanted (widget_of p.node) p.values (seen_from from first depth_limit [] b.defaults a (started next) ++ after (enter from first depth_limit b.defaults a (started next)) (λ m s1. seen_second from (live_ranges screen) m s1.waiting s1)))
      (sym (arrives_itself (Some tree) root tree refl comes.widget comes.place))
      (once_sooner wanted (widget_of p.node) p.values (seen_from from first depth_limit [] b.defaults (itself tree) (started next)) _ found_it.once
      (so_after (Other wanted) (λ m t. Calm (Other wanted) next later from holders t) (enter from first depth_limit b.defaults (itself tree) (started next)) _ found_it.calm
      (λ m t c. second_so (Other wanted) next later from holders (live_ranges screen) m t.waiting t c))))
