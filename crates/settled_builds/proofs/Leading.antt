-- Each step of a frame leads to what the tree before it does.
use Rattle.std.proofs.Common.{◌≡◌, ℕ, suc, ◌+◌, ◌<◌, eqb, Bool, true, false, cond, is_some, Option, Some, None, List, length, filter, refl, ap, ◌∙◌, subst, inl, inr, arith}
use Rattle.std.specs.List.{find}
use Rattle.std.specs.Option.{option_or}
use Rattle.std.proofs.lemmas.Bool.{eqb-true}
use Rattle.fx_expr.specs.declared.values.Value.{Value}
use Rattle.widget_model.specs.Plain.{PlainWidget, look_of}
use Rattle.plain_tree.specs.At.{node_at, node_in, numbers_of}
use Rattle.plain_tree.specs.PlainNode.{PlainNode, node, PlainNodes, no_nodes, more_nodes, widget_of}
use Rattle.build_form.specs.Entering.{Blueprint, depth_limit}
use Rattle.build_form.specs.FullBuild.{Screen, basis, full_build}
use Rattle.build_walk.specs.Counting.{is_built}
use Rattle.build_walk.specs.Past.{is_marked}
use Rattle.build_walk.specs.Standing.{all_builds}
use Rattle.work_sets.specs.Due.{names_read, was_entered}
use Rattle.work_sets.specs.Entered.{Entered, entered_widgets}
use Rattle.work_sets.specs.Members.{is_same_widget}
use Rattle.settled_builds.specs.Places.{NodePlace}
use Rattle.settled_builds.specs.Retaken.{all_retaking, retaken}
use Rattle.settled_builds.specs.Settled.{AreComponents, AllAreComponents, IsReadyTree}
use Rattle.settled_builds.specs.Steps.{Leads, IsFirstMarked, CanTakeAnew, without}
use Rattle.settled_builds.proofs.Entries.{SomeNode, At, IsEntry, tree_has, retaken_has}
use Rattle.settled_builds.proofs.GoingOn.{walk, goes_on, enters_alike}
use Rattle.settled_builds.proofs.Less.{IsLike, AreLike, like_itself, found_like, counts_less}
use Rattle.settled_builds.proofs.Once.{OnceIn}
use Rattle.settled_builds.proofs.OnceEntered.{once}
use Rattle.settled_builds.proofs.Readied.{retaken_many, retaken_ready}
use Rattle.settled_builds.proofs.Reaching.{AlikeAt}
use Rattle.settled_builds.proofs.SeeingOn.{SeenAt}
use Rattle.settled_builds.proofs.Spots.{spot_is_there}
use Rattle.settled_builds.proofs.Taken.{Gives, taken_alike}
use Rattle.settled_builds.proofs.TakenSeen.{taken_seen}
use Rattle.settled_builds.proofs.UpTo.{ComesTo, first_is_marked, first_so, ready_comes, has_spot}

-- ---- the first marked component

pub first_stands : (b : Blueprint) (marks : List ℕ) (wanted next : ℕ) (root : PlainWidget) (tree : PlainNode) → IsReadyTree b marks next root tree → find (is_marked marks) (numbers_of tree) ≡ Some wanted
    → (p : NodePlace) × IsFirstMarked b marks wanted tree p
first_stands b marks wanted next root tree ready first =
    let comes = ready_comes marks b wanted next root tree ready first in
    let spot = has_spot b wanted depth_limit b.defaults 0 0 tree comes.fresh comes.within in
    (spot.0, record { first = first; at = spot.1 })

-- what is found by a marked number is a component
module _ (marks : List ℕ) (wanted : ℕ) (marked : is_marked marks wanted ≡ true) (m : PlainNode) where
  abbrev Reads : PlainNode → Type 0
  Reads n = is_some (names_read (look_of (widget_of n))) ≡ true

  some_is : (n : PlainNode) → Some n ≡ Some m → n ≡ m
  some_is n e = cc

  reads_here : (number : ℕ) (n : PlainNode) (o : Option PlainNode) → (is_marked marks number ≡ true → Reads n) → (o ≡ Some m → Reads m) → (here : Bool) → eqb number wanted ≡ here → cond here (Some n) o ≡ Some m → Reads m
  reads_here number n o own step true is e = subst Reads (some_is n e) (own (ap (is_marked marks) (eqb-true number wanted is) ∙ marked))
  reads_here number n o own step false is e = step e

  reads_in : (o u : Option PlainNode) → (o ≡ Some m → Reads m) → (u ≡ Some m → Reads m) → option_or o u ≡ Some m → Reads m
  reads_in (Some n) u one rest e = one e
  reads_in None u one rest e = rest e

  mutual
    reads_at : (n : PlainNode) → AreComponents marks n → node_at wanted n ≡ Some m → Reads m
    reads_at (node number w fs s i ns) h e = reads_here number (node number w fs s i ns) (node_in wanted ns) h.0 (λ x. all_read_at ns h.1 x) (eqb number wanted) refl e

    all_read_at : (ns : PlainNodes) → AllAreComponents marks ns → node_in wanted ns ≡ Some m → Reads m
    all_read_at no_nodes h e = let wrong : None ≡ Some m = e in cc
    all_read_at (more_nodes n ns) h e = reads_in (node_at wanted n) (node_in wanted ns) (λ x. reads_at n h.0 x) (λ x. all_read_at ns h.1 x) e

pub is_component : (b : Blueprint) (marks : List ℕ) (wanted next : ℕ) (root : PlainWidget) (tree : PlainNode) (p : NodePlace) → IsReadyTree b marks next root tree → IsFirstMarked b marks wanted tree p
    → is_some (names_read (look_of (widget_of p.node))) ≡ true
is_component b marks wanted next root tree p ready first =
    reads_at marks wanted (first_is_marked marks tree wanted first.first) p.node tree ready.components (spot_is_there wanted p depth_limit b.defaults 0 0 tree first.at)

-- ---- steps

the_names : (r : Option (List ℕ)) → is_some r ≡ true → (names : List ℕ) × (r ≡ Some names)
the_names None e = cc
the_names (Some names) e = (names, refl)

module _ (equal : (v w : PlainWidget) → is_same_widget v w ≡ true → v ≡ w) (b : Blueprint) (marks : List ℕ) (wanted next : ℕ) (root : PlainWidget) (tree : PlainNode) (p : NodePlace) (ready : IsReadyTree b marks next root tree)
    (first : IsFirstMarked b marks wanted tree p) where
  pub comes : ComesTo b wanted root tree
  comes = ready_comes marks b wanted next root tree ready first.first

  names : (ns : List ℕ) × (names_read (look_of (widget_of p.node)) ≡ Some ns)
  names = the_names (names_read (look_of (widget_of p.node))) (is_component b marks wanted next root tree p ready first)

  pub entered_once : (screen : Screen) → OnceIn wanted (widget_of p.node) p.values (entered_widgets b screen (Some tree) next root)
  entered_once screen = once b wanted next root tree p first.at comes ready.keyless ready.numbered.differ (first_so marks (λ k. k < next) wanted tree ready.numbered.below first.first) screen

  one_more : (k : ℕ) → suc k ≡ 1 + k
  one_more k = omega arith

  -- of a tree from which the same is entered
  counts : (now : PlainNode) → ((k : ℕ) → AreLike (was_entered b.defaults (Some tree) k) (was_entered b.defaults (Some now) k)) → (screen : Screen) → entered_widgets b screen (Some tree) next root ≡ entered_widgets b screen (Some now) next root
      → all_builds b screen (Some tree) marks next root ≡ 1 + all_builds b screen (Some now) (without wanted marks) next root
  counts now like screen same =
      counts_less equal b wanted marks tree now p first.at names.0 names.1 (first_is_marked marks tree wanted first.first) like (entered_widgets b screen (Some tree) next root) (entered_once screen)
      ∙ one_more (length (filter (is_built b.defaults (Some now) (without wanted marks)) (entered_widgets b screen (Some tree) next root)))
      ∙ ap (λ (es : List Entered). 1 + length (filter (is_built b.defaults (Some now) (without wanted marks)) es)) same

  pub left_leads : Leads b next root tree marks tree (without wanted marks) 1
  left_leads = record { full = λ screen. refl; count = λ screen. counts tree (λ k. like_itself (was_entered b.defaults (Some tree) k)) screen refl }

  module _ (ws : List PlainWidget) (can : CanTakeAnew b ws p) where
    abbrev now : PlainNode
    now = retaken ws wanted tree

    ready_now : IsReadyTree b (without wanted marks) next root now
    ready_now = retaken_ready equal b marks next wanted ws p root tree ready first can

    gives_it : Gives equal (basis b (Some tree)) walk ws wanted p
    gives_it = record { own = can.given.own; output = can.given.output; can = can.can }

    alike_at : AlikeAt equal (basis b (Some tree)) walk (all_retaking ws) wanted p
    alike_at = taken_alike equal (basis b (Some tree)) walk ws wanted p gives_it

    seen_at : SeenAt equal (basis b (Some tree)) walk (all_retaking ws) wanted p
    seen_at = taken_seen equal (basis b (Some tree)) walk ws wanted p gives_it

    pub full_alike : (screen : Screen) → full_build b screen (Some tree) next root ≡ full_build b screen (Some now) next root
    full_alike screen = goes_on equal b screen wanted next root tree p (all_retaking ws) comes first.at ready.keyless ready_now.keyless alike_at seen_at

    pub entered_alike : (screen : Screen) → entered_widgets b screen (Some tree) next root ≡ entered_widgets b screen (Some now) next root
    entered_alike screen = enters_alike equal b screen wanted next root tree p (all_retaking ws) comes first.at ready.keyless ready_now.keyless alike_at seen_at

    same_entry : (k : ℕ) (e : Entered) (j : ℕ) (v : PlainWidget) (vs : List Value) → IsEntry k e j v vs → At k (IsLike e) j v vs
    same_entry k e j v vs h = (h.0, inl h.1)

    other_entry : (k : ℕ) (e : Entered) (j : ℕ) (v u : PlainWidget) (vs : List Value) → names_read (look_of v) ≡ None → names_read (look_of u) ≡ None → IsEntry k e j v vs → At k (IsLike e) j u vs
    other_entry k e j v u vs was is h = (h.0, inr (subst (λ (x : PlainWidget). names_read (look_of x) ≡ None) h.1.0 was, is))

    moves : (k : ℕ) (e : Entered) → SomeNode (IsEntry k e) b.defaults tree → SomeNode (At k (IsLike e)) b.defaults now
    moves k e =
        tree_has (IsEntry k e) (At k (IsLike e)) (same_entry k e) (other_entry k e) wanted (all_retaking ws) p depth_limit b.defaults 0 0 tree first.at ready.within
        (retaken_has (IsEntry k e) (At k (IsLike e)) (same_entry k e) (other_entry k e) wanted ws p can.can)

    like_now : (k : ℕ) → AreLike (was_entered b.defaults (Some tree) k) (was_entered b.defaults (Some now) k)
    like_now k = found_like IsLike k b.defaults tree now ready_now.numbered.differ ((retaken_many equal b marks next wanted ws p root tree ready first can).times k) (moves k)

    pub step_leads : Leads b next root tree marks now (without wanted marks) 1
    step_leads = record { full = full_alike; count = λ screen. counts now like_now screen (entered_alike screen) }
