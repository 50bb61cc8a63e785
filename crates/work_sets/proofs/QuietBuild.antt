-- Where nothing is marked and the tree is as it was, no component is due.
use Rattle.std.proofs.Common.{◌≡◌, ℕ, Bool, false, not, ◌==◌, ◌||◌, cond, Option, Some, None, List, [], ◌∷◌, ◌++◌, map, filter, refl, sym, ap, ◌∙◌, subst, inl, inr}
use Rattle.std.specs.Cmp.{unsigned_Decides}
use Rattle.std.specs.Cmp.Lexicographic.{pointwise_decides}
use Rattle.std.specs.List.{find, list_any}
use Rattle.std.proofs.lemmas.List.{map-append}
use lib.Pointwise.{pointwise}
use Rattle.fx_expr.specs.declared.values.Value.{Value}
use Rattle.fx_expr.specs.Scope.{value_at}
use Rattle.fx_expr.specs.Value.{value_eq}
use Rattle.fx_expr.specs.ValueLaws.{value_eq-Decides}
use Rattle.widget_model.specs.Plain.{look_of}
use Rattle.build_form.specs.Entering.{values_below}
use Rattle.plain_tree.specs.At.{numbers_of, numbers_in}
use Rattle.plain_tree.specs.Laws.{AllDiffer}
use Rattle.plain_tree.specs.PlainNode.{PlainNode, node, PlainNodes, no_nodes, more_nodes}
use Rattle.work_sets.specs.Due.{names_read, was_entered, has_other_value, stands_elsewhere, reads_anew, is_due_reader, is_due}
use Rattle.work_sets.specs.Entered.{Entered, entered_of, entered_in}
use Rattle.work_sets.specs.Members.{is_same_widget}
use Rattle.work_sets.proofs.Found.{IsIn, unequal, equal, differs_in}
use Rattle.work_sets.proofs.Quiet.{neither, turned}
use Rattle.work_sets.proofs.Sameness.{widget_same}

abbrev numbers_entered : List Entered → List ℕ
numbers_entered es = map (λ e. e.number) es

mutual
  same_numbers : (above : List ℕ) (values : List Value) (n : PlainNode) → numbers_entered (entered_of above values n) ≡ numbers_of n
  same_numbers above values (node number widget fields scroll index children) =
      ap (λ l. number ∷ l) (all_same_numbers (number ∷ above) (values_below widget values) children)

  all_same_numbers : (above : List ℕ) (values : List Value) (ns : PlainNodes) → numbers_entered (entered_in above values ns) ≡ numbers_in ns
  all_same_numbers above values no_nodes = refl
  all_same_numbers above values (more_nodes n ns) =
      map-append (λ (e : Entered). e.number) (entered_of above values n) (entered_in above values ns)
      ∙ (λ i. same_numbers above values n i ++ all_same_numbers above values ns i)

-- ---- each is found by its number

abbrev by_number : List Entered → ℕ → Option Entered
by_number es n = find (λ e. e.number == n) es

module _ (F : ℕ → Option Entered) where
  abbrev EachFound : List Entered → Type 0
  EachFound [] = Unit {0}
  EachFound (e ∷ es) = (F e.number ≡ Some e) × EachFound es

each_too : (F G : ℕ → Option Entered) (es : List Entered) → ((n : ℕ) (e : Entered) → IsIn n (numbers_entered es) → F n ≡ Some e → G n ≡ Some e) → EachFound F es → EachFound G es
each_too F G [] h f = tt
each_too F G (e ∷ es) h f = (h e.number e (inl refl) f.0, each_too F G es (λ n x i p. h n x (inr i) p) f.1)

each_found : (es : List Entered) → AllDiffer (numbers_entered es) → EachFound (by_number es) es
each_found [] d = tt
each_found (e ∷ es) d = (
  ap (λ b. cond b (Some e) (by_number es e.number)) (equal e.number),
  each_too (by_number es) (by_number (e ∷ es)) es
      (λ n x i p. ap (λ b. cond b (Some e) (by_number es n)) (unequal e.number n (differs_in n e.number (numbers_entered es) d.0 i)) ∙ p)
      (each_found es d.1),
)

-- ---- none is due

none_read : (test : ℕ → Bool) (names : List ℕ) → ((n : ℕ) → test n ≡ false) → list_any test names ≡ false
none_read test [] h = refl
none_read test (n ∷ names) h = neither (test n) (list_any test names) (h n) (none_read test names h)

reads_as_before : (names : List ℕ) (e : Entered) → reads_anew names e e ≡ false
reads_as_before names e =
    none_read (λ name. has_other_value e e name || stands_elsewhere e e) names (λ name.
    neither (has_other_value e e name) (stands_elsewhere e e)
    (turned (value_eq (value_at e.values name) (value_at e.values name)) ((value_eq-Decides (value_at e.values name) (value_at e.values name)).1 refl))
    (turned (pointwise ◌==◌ e.above e.above) ((pointwise_decides unsigned_Decides e.above e.above).1 refl)))

not_due_reader : (names : Option (List ℕ)) (e : Entered) → is_due_reader names (Some e) [] e ≡ false
not_due_reader None e = refl
not_due_reader (Some names) e =
    neither (not (is_same_widget e.widget e.widget)) (reads_anew names e e)
    (turned (is_same_widget e.widget e.widget) (widget_same e.widget)) (reads_as_before names e)

none_due : (defaults : List Value) (old : PlainNode) (es : List Entered) → EachFound (was_entered defaults (Some old)) es → filter (is_due defaults (Some old) []) es ≡ []
none_due defaults old [] f = refl
none_due defaults old (e ∷ es) f =
    let out : is_due defaults (Some old) [] e ≡ false =
    ap (λ o. is_due_reader (names_read (look_of e.widget)) o [] e) f.0 ∙ not_due_reader (names_read (look_of e.widget)) e in
    ap (λ b. cond b (e ∷ filter (is_due defaults (Some old) []) es) (filter (is_due defaults (Some old) []) es)) out ∙ none_due defaults old es f.1

pub quiet_build : (defaults : List Value) (old : PlainNode) → AllDiffer (numbers_of old) → filter (is_due defaults (Some old) []) (entered_of [] defaults old) ≡ []
quiet_build defaults old d =
    none_due defaults old (entered_of [] defaults old)
    (each_found (entered_of [] defaults old) (subst AllDiffer (sym (same_numbers [] defaults old)) d))
