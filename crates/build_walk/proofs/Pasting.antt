-- What is known of numbers by what the elements of a forest tell.
use Rattle.std.proofs.Common.{◌≡◌, ℕ, Option, Some, None, IfSome, List, [], ◌∷◌, ◌++◌, map, refl, sym, ap, ◌∙◌, subst}
use Rattle.std.specs.List.{find}
use Rattle.std.specs.Option.{option_to_list}
use Rattle.std.proofs.Common.{eqb}
use Rattle.std.proofs.lemmas.List.{map-append, append-nil}
use Rattle.fx_expr.specs.declared.values.Value.{Value}
use Rattle.node_tree.specs.Forest.{Forest}
use Rattle.node_tree.specs.Forest.Forest.{none, tree}
use Rattle.plain_tree.specs.At.{numbers_in}
use Rattle.plain_tree.specs.Laws.{AllDiffer}
use Rattle.plain_tree.specs.PlainNode.{PlainNode, nodes_of as listed}
use Rattle.build_form.specs.Entering.{values_below}
use Rattle.build_form.specs.Numbered.{IsNumbered}
use Rattle.element_tree.specs.Element.{Element}
use Rattle.element_tree.specs.Nodes.{nodes_of}
use Rattle.work_sets.specs.Due.{was_entered}
use Rattle.work_sets.specs.Entered.{Entered, entered, entered_of, entered_in}
use Rattle.build_walk.specs.Counting.{Tells, TellsEntered}
use Rattle.build_walk.specs.Past.{Past, Pasts, past_at}
use Rattle.build_walk.specs.Telling.{element_past, TellPasts, element_pasts, FlagsAre}
use Rattle.build_walk.proofs.Duly.{Alongside, alongside_append, found_alongside, none_entered}
use Rattle.build_walk.proofs.Knowing.{past_numbers, EachFound, each_found, found_left, found_right}

numbers_same : (scrolled : ℕ → ℕ) (values : List Value) (f : Forest Element) → past_numbers (element_pasts values f) ≡ numbers_in (listed (nodes_of scrolled f))
numbers_same scrolled values none = refl
numbers_same scrolled values (tree h e kids rest) =
    map-append (λ (p : Past). p.number) (element_past values e ∷ element_pasts (values_below e.widget values) kids) (element_pasts values rest)
    ∙ (λ i. (e.number ∷ numbers_same scrolled (values_below e.widget values) kids i) ++ numbers_same scrolled values rest i)

tell : (F : Pasts) (values : List Value) (f : Forest Element) → EachFound F (element_pasts values f) → TellPasts F values f
tell F values none found = tt
tell F values (tree h e kids rest) found = (
  found.0,
  tell F (values_below e.widget values) kids (found_left F (element_pasts (values_below e.widget values) kids) (element_pasts values rest) found.1),
  tell F values rest (found_right F (element_pasts (values_below e.widget values) kids) (element_pasts values rest) found.1),
)

pub told : (defaults : List Value) (scrolled : ℕ → ℕ) (f : Forest Element) → AllDiffer (numbers_in (listed (nodes_of scrolled f))) → TellPasts (past_at (element_pasts defaults f)) defaults f
told defaults scrolled f differ =
    tell (past_at (element_pasts defaults f)) defaults f (each_found (element_pasts defaults f) (subst AllDiffer (sym (numbers_same scrolled defaults f)) differ))

-- ---- and what was entered

beside : (marks above : List ℕ) (values : List Value) (scrolled : ℕ → ℕ) (f : Forest Element) → FlagsAre marks f → Alongside marks (element_pasts values f) (entered_in above values (listed (nodes_of scrolled f)))
beside marks above values scrolled none flags = tt
beside marks above values scrolled (tree h e kids rest) flags =
    alongside_append marks (element_past values e ∷ element_pasts (values_below e.widget values) kids) (element_pasts values rest)
    (entered e.number e.widget above values ∷ entered_in (e.number ∷ above) (values_below e.widget values) (listed (nodes_of scrolled kids))) (entered_in above values (listed (nodes_of scrolled rest)))
    (refl, refl, refl, flags.0, beside marks (e.number ∷ above) (values_below e.widget values) scrolled kids flags.1)
    (beside marks above values scrolled rest flags.2)

module _ (marks : List ℕ) (defaults : List Value) (scrolled : ℕ → ℕ) where
  tells_number : (old : Option PlainNode) (f : Forest Element) → option_to_list old ≡ nodes_of scrolled f → FlagsAre marks f → (k : ℕ) → Tells marks k (past_at (element_pasts defaults f) k) (was_entered defaults old k)
  tells_number None none is flags k = tt
  tells_number None (tree h e kids rest) is flags k = cc
  tells_number (Some n) f is flags k =
      let all : entered_in [] defaults (listed (nodes_of scrolled f)) ≡ entered_of [] defaults n = ap (λ l. entered_in [] defaults (listed l)) (sym is) ∙ append-nil (entered_of [] defaults n) in
      subst (λ (es : List Entered). Tells marks k (past_at (element_pasts defaults f) k) (find (λ (e : Entered). eqb e.number k) es)) all
      (found_alongside marks (element_pasts defaults f) (entered_in [] defaults (listed (nodes_of scrolled f))) k (beside marks [] defaults scrolled f flags))

  pub told_entered : (old : Option PlainNode) (next : ℕ) (f : Forest Element) → option_to_list old ≡ nodes_of scrolled f → FlagsAre marks f → IfSome old (IsNumbered next)
      → TellsEntered (past_at (element_pasts defaults f)) defaults old marks next
  told_entered old next f is flags numbered = record {
    tells = tells_number old f is flags;
    unknown = λ k high. none_entered defaults old next k numbered high;
  }
