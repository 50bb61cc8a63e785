-- A build builds no component of a settled tree.
use Rattle.std.proofs.Common.{◌≡◌, ℕ, Bool, true, false, not, ◌||◌, cond, Option, Some, None, List, [], ◌∷◌, ◌++◌, filter, length, refl, sym, ap, ◌∙◌}
use Rattle.std.specs.List.{list_any}
use Rattle.fx_expr.specs.declared.values.Value.{Value}
use Rattle.widget_model.specs.Plain.{PlainWidget, look_of}
use Rattle.plain_tree.specs.At.{numbers_of}
use Rattle.plain_tree.specs.Laws.{AllDiffer}
use Rattle.plain_tree.specs.PlainNode.{PlainNode, node, PlainNodes, no_nodes, more_nodes}
use Rattle.build_form.specs.Entering.{Blueprint, values_below}
use Rattle.build_form.specs.FullBuild.{Screen, built, full_build}
use Rattle.build_form.specs.Laws.{NumbersAre, AllNumbersAre}
use Rattle.work_sets.specs.Due.{names_read, was_entered, has_other_value, is_due}
use Rattle.work_sets.specs.Entered.{Entered, entered_of, entered_in, entered_widgets}
use Rattle.work_sets.specs.Members.{is_same_widget}
use Rattle.build_walk.specs.Counting.{is_built_reader, is_built}
use Rattle.build_walk.specs.Past.{is_marked}
use Rattle.build_walk.specs.Standing.{all_builds}
use Rattle.settled_builds.specs.Settled.{IsSettledFor}
use Rattle.settled_builds.proofs.Staying.{tree_stays}

-- ---- none of them is marked

abbrev pub AreUnmarked : List ℕ → List Entered → Type 0
AreUnmarked marks [] = Unit {0}
AreUnmarked marks (e ∷ es) = (is_marked marks e.number ≡ false) × AreUnmarked marks es

unmarked_append : (marks : List ℕ) (es fs : List Entered) → AreUnmarked marks es → AreUnmarked marks fs → AreUnmarked marks (es ++ fs)
unmarked_append marks [] fs h k = k
unmarked_append marks (e ∷ es) fs h k = (h.0, unmarked_append marks es fs h.1 k)

mutual
  unmarked : (marks above : List ℕ) (values : List Value) (n : PlainNode) → NumbersAre (λ number. is_marked marks number ≡ false) n → AreUnmarked marks (entered_of above values n)
  unmarked marks above values (node number widget fields scroll index children) h = (h.0, all_unmarked marks (number ∷ above) (values_below widget values) children h.1)

  all_unmarked : (marks above : List ℕ) (values : List Value) (ns : PlainNodes) → AllNumbersAre (λ number. is_marked marks number ≡ false) ns → AreUnmarked marks (entered_in above values ns)
  all_unmarked marks above values no_nodes h = tt
  all_unmarked marks above values (more_nodes n ns) h =
      unmarked_append marks (entered_of above values n) (entered_in above values ns) (unmarked marks above values n h.0) (all_unmarked marks above values ns h.1)

-- then it is built where it would be without marks

without_marks : (r : Option (List ℕ)) (was : Option Entered) (marks : List ℕ) (e : Entered) → is_marked marks e.number ≡ false → is_built_reader r was marks e ≡ is_built_reader r was [] e
without_marks None was marks e h = refl
without_marks (Some names) None marks e h = refl
without_marks (Some names) (Some was) marks e h = ap (λ (b : Bool). b || (not (is_same_widget was.widget e.widget) || list_any (has_other_value was e) names)) h

-- ---- none is due, so none is built

module _ (due : (defaults : List Value) (old : Option PlainNode) (marks : List ℕ) (e : Entered) → is_built defaults old marks e ≡ true → is_due defaults old marks e ≡ true)
    (defaults : List Value) (old : Option PlainNode) (marks : List ℕ) where
  by_due : (e : Entered) (es fs : List Entered) (b d : Bool) → (b ≡ true → d ≡ true) → (fs ≡ [] → length es ≡ 0) → cond d (e ∷ fs) fs ≡ [] → length (cond b (e ∷ es) es) ≡ 0
  by_due e es fs true true h k none = let wrong : e ∷ fs ≡ [] = none in cc
  by_due e es fs true false h k none = let wrong : false ≡ true = h refl in cc
  by_due e es fs false true h k none = let wrong : e ∷ fs ≡ [] = none in cc
  by_due e es fs false false h k none = k none

  pub none_built : (es : List Entered) → AreUnmarked marks es → filter (is_due defaults old []) es ≡ [] → length (filter (is_built defaults old marks) es) ≡ 0
  none_built [] u none = refl
  none_built (e ∷ es) u none =
      by_due e (filter (is_built defaults old marks) es) (filter (is_due defaults old []) es) (is_built defaults old marks e) (is_due defaults old [] e)
      (λ is. due defaults old [] e (sym (without_marks (names_read (look_of e.widget)) (was_entered defaults old e.number) marks e u.0) ∙ is))
      (λ rest. none_built es u.1 rest) none

module _ (due : (defaults : List Value) (old : Option PlainNode) (marks : List ℕ) (e : Entered) → is_built defaults old marks e ≡ true → is_due defaults old marks e ≡ true)
    (quiet : (defaults : List Value) (old : PlainNode) → AllDiffer (numbers_of old) → filter (is_due defaults (Some old) []) (entered_of [] defaults old) ≡ [])
    (entering : (test : Entered → Bool) (program : Blueprint) (screen : Screen) (old : Option PlainNode) (next : ℕ) (root : PlainWidget) (tree : PlainNode) (free : ℕ) → full_build program screen old next root ≡ built tree free
    → length (filter test (entered_widgets program screen old next root)) ≡ length (filter test (entered_of [] program.defaults tree))) where
  pub builds_nothing : (b : Blueprint) (screen : Screen) (marks : List ℕ) (next : ℕ) (root : PlainWidget) (tree : PlainNode) → IsSettledFor b marks root tree → AllDiffer (numbers_of tree)
      → all_builds b screen (Some tree) marks next root ≡ 0
  builds_nothing b screen marks next root tree h differ =
      entering (is_built b.defaults (Some tree) marks) b screen (Some tree) next root tree next (tree_stays b screen marks next root tree h)
      ∙ none_built due b.defaults (Some tree) marks (entered_of [] b.defaults tree) (unmarked marks [] b.defaults tree h.unmarked) (quiet b.defaults tree differ)
