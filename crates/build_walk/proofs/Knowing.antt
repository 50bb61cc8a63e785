-- What is known of a tree in which no number stands twice and each component has what its body gives is right.
use Rattle.std.proofs.Common.{◌≡◌, ℕ, eqb, cond, length, Some, IfSome, List, [], ◌∷◌, ◌++◌, map, refl, sym, ap, ◌∙◌, subst}
use Rattle.std.specs.Cmp.{unsigned_Decides}
use Rattle.std.proofs.lemmas.Bool.{ne_eqb}
use Rattle.std.proofs.lemmas.List.{map-append}
use Rattle.fx_expr.specs.declared.values.Value.{Value}
use Rattle.widget_model.specs.Plain.{PlainWidget, look_of}
use Rattle.widget_model.specs.Typed.{Declarations, IsTypedWidget}
use Rattle.plain_tree.specs.PlainNode.{PlainNode, node, PlainNodes, no_nodes, more_nodes}
use Rattle.plain_tree.specs.At.{numbers_of, numbers_in}
use Rattle.plain_tree.specs.Laws.{DiffersFrom, AllDiffer}
use Rattle.build_form.specs.BuildRole.{build_role_of}
use Rattle.build_form.specs.Entering.{Blueprint, values_below}
use Rattle.build_form.specs.WellBuilt.{IsWellBuilt, AreWellBuilt}
use Rattle.build_walk.specs.Past.{Past, Pasts, pasts_of, pasts_in, past_at, past_in}
use Rattle.build_walk.specs.Fresh.{ReadsItsNames, IsPastOf, HasFreshOutputs, HaveFreshOutputs, IsKnown, AreKnown}
use Rattle.build_walk.proofs.Reentering.{long_by}

abbrev pub past_numbers : List Past → List ℕ
past_numbers ps = map (λ (p : Past). p.number) ps

mutual
  same_numbers : (marks : List ℕ) (values : List Value) (n : PlainNode) → past_numbers (pasts_of marks values n) ≡ numbers_of n
  same_numbers marks values (node number widget fields scroll index children) =
      ap (λ l. number ∷ l) (all_same_numbers marks (values_below widget values) children)

  all_same_numbers : (marks : List ℕ) (values : List Value) (ns : PlainNodes) → past_numbers (pasts_in marks values ns) ≡ numbers_in ns
  all_same_numbers marks values no_nodes = refl
  all_same_numbers marks values (more_nodes n ns) =
      map-append (λ (p : Past). p.number) (pasts_of marks values n) (pasts_in marks values ns)
      ∙ (λ i. same_numbers marks values n i ++ all_same_numbers marks values ns i)

-- ---- each is found by its number

abbrev pub EachFound : Pasts → List Past → Type 0
EachFound F [] = Unit {0}
EachFound F (p ∷ ps) = (F p.number ≡ Some p) × EachFound F ps

behind : (F : Pasts) (q : Past) (ps : List Past) → DiffersFrom q.number (past_numbers ps) → EachFound F ps → EachFound (λ n. cond (eqb q.number n) (Some q) (F n)) ps
behind F q [] d f = tt
behind F q (p ∷ ps) d f = (ap (λ t. cond t (Some q) (F p.number)) (ne_eqb q.number p.number d.0) ∙ f.0, behind F q ps d.1 f.1)

pub each_found : (ps : List Past) → AllDiffer (past_numbers ps) → EachFound (past_at ps) ps
each_found [] d = tt
each_found (p ∷ ps) d = (
  ap (λ t. cond t (Some p) (past_at ps p.number)) ((unsigned_Decides p.number p.number).1 refl),
  behind (past_at ps) p ps d.0 (each_found ps d.1),
)

pub found_left : (F : Pasts) (ps qs : List Past) → EachFound F (ps ++ qs) → EachFound F ps
found_left F [] qs f = tt
found_left F (p ∷ ps) qs f = (f.0, found_left F ps qs f.1)

pub found_right : (F : Pasts) (ps qs : List Past) → EachFound F (ps ++ qs) → EachFound F qs
found_right F [] qs f = f
found_right F (p ∷ ps) qs f = found_right F ps qs f.1

-- ---- and is right

module _ (b : Blueprint) (F : Pasts) (marks : List ℕ) (d : Declarations) (reads : (w : PlainWidget) → IsTypedWidget d w → ReadsItsNames b w) where
  mutual
    known : (values : List Value) (n : PlainNode) → length values ≡ length b.defaults → EachFound F (pasts_of marks values n) → HasFreshOutputs b marks values n → IsWellBuilt d n → IsKnown b F n
    known values (node number widget fields scroll index children) long f fresh well = (
      subst (λ o. IfSome o (IsPastOf b (node number widget fields scroll index children))) (sym f.0) (record {
        widget = refl;
        long = long;
        reads = reads widget well.0.typed;
        output = fresh.0;
      }),
      all_known (values_below widget values) children (long_by (build_role_of (look_of widget)) values ∙ long) f.1 fresh.1 well.1,
    )

    all_known : (values : List Value) (ns : PlainNodes) → length values ≡ length b.defaults → EachFound F (pasts_in marks values ns) → HaveFreshOutputs b marks values ns → AreWellBuilt d ns → AreKnown b F ns
    all_known values no_nodes long f fresh well = tt
    all_known values (more_nodes n ns) long f fresh well = (
      known values n long (found_left F (pasts_of marks values n) (pasts_in marks values ns) f) fresh.0 well.0,
      all_known values ns long (found_right F (pasts_of marks values n) (pasts_in marks values ns) f) fresh.1 well.1,
    )

pub old_known : (b : Blueprint) (marks : List ℕ) (d : Declarations) (old : PlainNode) → ((w : PlainWidget) → IsTypedWidget d w → ReadsItsNames b w)
    → AllDiffer (numbers_of old) → HasFreshOutputs b marks b.defaults old → IsWellBuilt d old → IsKnown b (past_in marks b.defaults (Some old)) old
old_known b marks d old reads differ fresh well =
    known b (past_in marks b.defaults (Some old)) marks d reads b.defaults old refl
    (each_found (pasts_of marks b.defaults old) (subst AllDiffer (sym (same_numbers marks b.defaults old)) differ)) fresh well
