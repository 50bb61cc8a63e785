-- Of what is entered with the values of the last build those components are built that are marked.
use Rattle.std.proofs.Common.{◌≡◌, ℕ, Bool, true, false, not, ◌&&◌, ◌||◌, is_some, Option, Some, None, List, [], ◌∷◌, ◌++◌, map, refl, ap, ◌∙◌, ◌⊎◌, inl, inr}
use Rattle.std.specs.List.{list_any}
use Rattle.std.proofs.lemmas.List.{map-append}
use Rattle.fx_expr.specs.declared.values.Value.{Value}
use Rattle.fx_expr.specs.Scope.{value_at}
use Rattle.fx_expr.specs.Value.{value_eq}
use Rattle.fx_expr.specs.ValueLaws.{value_eq-Decides}
use Rattle.plain_tree.specs.At.{numbers_of, numbers_in}
use Rattle.plain_tree.specs.PlainNode.{PlainNode, node, PlainNodes, no_nodes, more_nodes}
use Rattle.build_form.specs.Entering.{values_below}
use Rattle.work_sets.specs.Due.{has_other_value}
use Rattle.work_sets.specs.Entered.{Entered, entered_of, entered_in}
use Rattle.work_sets.specs.Members.{is_same_widget}
use Rattle.work_sets.proofs.Sameness.{widget_same}
use Rattle.build_walk.specs.Counting.{is_built_reader}
use Rattle.build_walk.specs.Past.{is_marked}

neither : (a b : Bool) → a ≡ false → b ≡ false → (a || b) ≡ false
neither true b e f = cc
neither false b e f = f

-- ---- the numbers of what is entered

abbrev pub numbers_entered : List Entered → List ℕ
numbers_entered es = map (λ e. e.number) es

mutual
  pub same_numbers : (above : List ℕ) (values : List Value) (n : PlainNode) → numbers_entered (entered_of above values n) ≡ numbers_of n
  same_numbers above values (node number widget fields scroll index children) = ap (λ l. number ∷ l) (all_same_numbers (number ∷ above) (values_below widget values) children)

  all_same_numbers : (above : List ℕ) (values : List Value) (ns : PlainNodes) → numbers_entered (entered_in above values ns) ≡ numbers_in ns
  all_same_numbers above values no_nodes = refl
  all_same_numbers above values (more_nodes n ns) =
      map-append (λ (e : Entered). e.number) (entered_of above values n) (entered_in above values ns) ∙ (λ i. same_numbers above values n i ++ all_same_numbers above values ns i)

-- ---- which of them are built

module _ (wanted : ℕ) (marks : List ℕ) where
  none_other : (names : List ℕ) (e f : Entered) → f.values ≡ e.values → list_any (has_other_value e f) names ≡ false
  none_other [] e f same = refl
  none_other (n ∷ names) e f same =
      neither (has_other_value e f n) (list_any (has_other_value e f) names)
      (ap (λ vs. not (value_eq (value_at e.values n) (value_at vs n))) same ∙ ap not ((value_eq-Decides (value_at e.values n) (value_at e.values n)).1 refl))
      (none_other names e f same)

  pub stale_when : (r : Option (List ℕ)) (e f : Entered) → f.values ≡ e.values → (f.widget ≡ e.widget) ⊎ (r ≡ None) → is_built_reader r (Some e) marks f ≡ (is_some r && is_marked marks f.number)
  stale_when None e f values widget = refl
  stale_when (Some names) e f values (inl same) =
      let none : (not (is_same_widget e.widget f.widget) || list_any (has_other_value e f) names) ≡ false =
      neither (not (is_same_widget e.widget f.widget)) (list_any (has_other_value e f) names) (ap (λ w. not (is_same_widget e.widget w)) same ∙ ap not (widget_same e.widget)) (none_other names e f values) in
      ap (λ b. is_marked marks f.number || b) none ∙ or_none (is_marked marks f.number)
    where
      or_none : (a : Bool) → (a || false) ≡ a
      or_none true = refl
      or_none false = refl
  stale_when (Some names) e f values (inr other) = cc
