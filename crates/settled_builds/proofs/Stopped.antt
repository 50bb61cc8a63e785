-- Where the body of the first marked component stops a build, that has built this component alone.
use Rattle.std.proofs.Common.{◌≡◌, ℕ, ◌+◌, Bool, true, false, cond, Option, Some, List, [], ◌∷◌, ◌++◌, filter, refl, sym, ap, ◌∙◌, inl, inr}
use Rattle.std.specs.List.{find}
use Rattle.std.proofs.lemmas.List.{map-append}
use Rattle.fx_expr.specs.declared.values.Value.{Value}
use Rattle.widget_model.specs.Plain.{PlainWidget, look_of}
use Rattle.plain_tree.specs.At.{numbers_of}
use Rattle.plain_tree.specs.Laws.{AllDiffer}
use Rattle.plain_tree.specs.PlainNode.{PlainNode, number_of, widget_of, fields_of}
use Rattle.build_form.specs.BuildRole.{build_role_of}
use Rattle.build_form.specs.Entering.{Blueprint, given_by}
use Rattle.build_form.specs.FullBuild.{Screen, failed, full_build}
use Rattle.build_form.specs.Step.{Fault, Progress, stops}
use Rattle.build_walk.specs.Counting.{is_built}
use Rattle.build_walk.specs.Past.{is_marked}
use Rattle.build_walk.specs.Standing.{all_builds}
use Rattle.work_sets.specs.Due.{is_due}
use Rattle.work_sets.specs.Entered.{Entered, entered_of, entered_widgets}
use Rattle.work_sets.specs.Members.{is_same_widget}
use Rattle.settled_builds.specs.Places.{NodePlace}
use Rattle.settled_builds.specs.Settled.{IsReadyTree}
use Rattle.settled_builds.specs.Steps.{IsFirstMarked, without}
use Rattle.settled_builds.proofs.Counting.{AreUnmarked, none_built}
use Rattle.settled_builds.proofs.Leading.{comes, entered_once, left_leads}
use Rattle.settled_builds.proofs.Once.{Other, OnceIn}
use Rattle.settled_builds.proofs.Others.{AreSo}
use Rattle.settled_builds.proofs.Refreshing.{numbers_entered, same_numbers}
use Rattle.settled_builds.proofs.Stopping.{EndsAt, build_stops, begins, ends, none_in_front}
use Rattle.settled_builds.proofs.Without.{unmarked_there, others_stay}

-- ---- of a list that ends with the first marked number none is marked without it

module _ (wanted : ℕ) (marks : List ℕ) (w : PlainWidget) (values : List Value) where
  no_end : (es : List Entered) → AreSo (Other wanted) es → EndsAt wanted es → ⊥
  no_end [] h end = end
  no_end (e ∷ []) h end = h.0 end
  no_end (e ∷ f ∷ es) h end = no_end (f ∷ es) h.1 end

  later_end : (e : Entered) (es : List Entered) → OnceIn wanted w values es → EndsAt wanted (e ∷ es) → EndsAt wanted es
  later_end e [] h end = absurd h
  later_end e (f ∷ es) h end = end

  some_is : (j k : ℕ) → Some j ≡ Some k → j ≡ k
  some_is j k e = cc

  none_last : (es : List Entered) → AreSo (Other wanted) es → (e : Entered) → EndsAt wanted (e ∷ es) → AreUnmarked (without wanted marks) es
  none_last [] h e end = tt
  none_last (f ∷ es) h e end = absurd (no_end (f ∷ es) h end)

  unmarked_other : (k : ℕ) (rest : Option ℕ) → Other wanted k → (m : Bool) → is_marked marks k ≡ m → cond m (Some k) rest ≡ Some wanted → (is_marked marks k ≡ false) × (rest ≡ Some wanted)
  unmarked_other k rest other true is e = absurd (other (some_is k wanted e))
  unmarked_other k rest other false is e = (is, e)

  none_left : (es : List Entered) (rest : List ℕ) → OnceIn wanted w values es → EndsAt wanted es → find (is_marked marks) (numbers_entered es ++ rest) ≡ Some wanted → AreUnmarked (without wanted marks) es
  none_left [] rest h end first = absurd h
  none_left (e ∷ es) rest (inl h) end first = (ap (is_marked (without wanted marks)) h.0.0 ∙ unmarked_there wanted marks, none_last es h.1 e end)
  none_left (e ∷ es) rest (inr h) end first =
      let t = unmarked_other e.number (find (is_marked marks) (numbers_entered es ++ rest)) h.0 (is_marked marks e.number) refl first in
      (others_stay wanted e.number h.0 marks ∙ t.0, none_left es rest h.1 (later_end e es h.1 end) t.1)

-- ---- a whole build

module _ (equal : (v w : PlainWidget) → is_same_widget v w ≡ true → v ≡ w) (b : Blueprint) (marks : List ℕ) (wanted next : ℕ) (root : PlainWidget) (tree : PlainNode) (p : NodePlace) (ready : IsReadyTree b marks next root tree)
    (first : IsFirstMarked b marks wanted tree p) (screen : Screen) (fault : Fault)
    (stop : (s : Progress) → given_by b (build_role_of (look_of (widget_of p.node))) p.values (number_of p.node) (fields_of p.node) (widget_of p.node) s ≡ stops fault) where
  pub first_stops : full_build b screen (Some tree) next root ≡ failed fault
  first_stops = build_stops b screen wanted next root tree p fault (comes equal b marks wanted next root tree p ready first) first.at ready.keyless stop

  module _ (due : (defaults : List Value) (old : Option PlainNode) (marks : List ℕ) (e : Entered) → is_built defaults old marks e ≡ true → is_due defaults old marks e ≡ true)
      (quiet : (defaults : List Value) (old : PlainNode) → AllDiffer (numbers_of old) → filter (is_due defaults (Some old) []) (entered_of [] defaults old) ≡ []) where
    pub first_alone : all_builds b screen (Some tree) marks next root ≡ 1
    first_alone =
        let es = entered_widgets b screen (Some tree) next root in
        let start = begins b screen wanted next root tree p fault (comes equal b marks wanted next root tree p ready first) first.at ready.keyless stop in
        let end = ends b screen wanted next root tree p fault (comes equal b marks wanted next root tree p ready first) first.at ready.keyless stop in
        let numbers : numbers_of tree ≡ numbers_entered es ++ numbers_entered start.0 =
        sym (same_numbers [] b.defaults tree) ∙ ap numbers_entered start.1 ∙ map-append (λ (e : Entered). e.number) es start.0 in
        let unmarked : AreUnmarked (without wanted marks) es =
        none_left wanted marks (widget_of p.node) p.values es (numbers_entered start.0) (entered_once equal b marks wanted next root tree p ready first screen) end (ap (find (is_marked marks)) (sym numbers) ∙ first.first) in
        let none : all_builds b screen (Some tree) (without wanted marks) next root ≡ 0 =
        none_built due b.defaults (Some tree) (without wanted marks) es unmarked
        (none_in_front (is_due b.defaults (Some tree) []) es start.0 (ap (filter (is_due b.defaults (Some tree) [])) (sym start.1) ∙ quiet b.defaults tree ready.numbered.differ)) in
        (left_leads equal b marks wanted next root tree p ready first).count screen ∙ ap (λ k. 1 + k) none
