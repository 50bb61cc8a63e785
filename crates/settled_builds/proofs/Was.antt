-- What stood at a spot is found among what was entered last time.
use Rattle.std.proofs.Common.{◌≡◌, ℕ, zero, suc, ◌+◌, ◌==◌, Bool, true, false, cond, Option, Some, None, List, [], ◌∷◌, ◌++◌, refl, ap, ◌∙◌}
use Rattle.std.specs.List.{find}
use Rattle.std.specs.Option.{option_or}
use Rattle.std.proofs.lemmas.Bool.{ne_eqb}
use Rattle.std.proofs.lemmas.List.Folds.{find-append}
use Rattle.fx_expr.specs.declared.values.Value.{Value}
use Rattle.widget_model.specs.Plain.{PlainWidget}
use Rattle.plain_tree.specs.At.{is_there}
use Rattle.plain_tree.specs.PlainNode.{PlainNode, node, PlainNodes, no_nodes, more_nodes, widget_of, count_of, counts_of}
use Rattle.build_form.specs.Entering.{values_below}
use Rattle.build_form.specs.Laws.{NumbersAre, AllNumbersAre}
use Rattle.work_sets.specs.Entered.{Entered, entered_of, entered_in}
use Rattle.build_walk.proofs.Stepping.{AllOf}
use Rattle.settled_builds.specs.Places.{NodePlace, spot_at, spot_in}
use Rattle.settled_builds.proofs.Once.{Other, not_there}

-- ---- what was entered last time

mutual
  pub all_so : (Q : ℕ → Type 0) (above : List ℕ) (values : List Value) (n : PlainNode) → NumbersAre Q n → AllOf (λ (e : Entered). Q e.number) (entered_of above values n)
  all_so Q above values (node number w fields scroll index children) h = (h.0, all_so_in Q (number ∷ above) (values_below w values) children h.1)

  all_so_in : (Q : ℕ → Type 0) (above : List ℕ) (values : List Value) (ns : PlainNodes) → AllNumbersAre Q ns → AllOf (λ (e : Entered). Q e.number) (entered_in above values ns)
  all_so_in Q above values no_nodes h = tt
  all_so_in Q above values (more_nodes n ns) h = joined (entered_of above values n) (entered_in above values ns) (all_so Q above values n h.0) (all_so_in Q above values ns h.1)
    where
      joined : (xs ys : List Entered) → AllOf (λ (e : Entered). Q e.number) xs → AllOf (λ (e : Entered). Q e.number) ys → AllOf (λ (e : Entered). Q e.number) (xs ++ ys)
      joined [] ys a b = b
      joined (x ∷ xs) ys a b = (a.0, joined xs ys a.1 b)

module _ (wanted : ℕ) where
  abbrev by_number : List Entered → Option Entered
  by_number es = find (λ e. e.number == wanted) es

  pub none_found : (es : List Entered) → AllOf (λ (e : Entered). Other wanted e.number) es → by_number es ≡ None
  none_found [] h = refl
  none_found (e ∷ es) h = ap (λ (b : Bool). cond {A = Option Entered} b (Some e) (by_number es)) (ne_eqb e.number wanted h.0) ∙ none_found es h.1

  pub record WasAt (es : List Entered) (p : NodePlace) : Type 0 where
    pub entry : Entered
    pub is : by_number es ≡ Some entry
    pub widget : entry.widget ≡ widget_of p.node
    pub values : entry.values ≡ p.values

  same_spot : (p q : NodePlace) → Some q ≡ Some p → q ≡ p
  same_spot p q e = cc

  no_spot : (p : NodePlace) → None ≡ Some p → ⊥
  no_spot p e = cc

  was_by : (left before behind : ℕ) (above : List ℕ) (values : List Value) (number : ℕ) (w : PlainWidget) (fields : List Value) (scroll index : ℕ) (children : PlainNodes) (p : NodePlace)
      → (spot_in wanted left (values_below w values) (suc before) behind children ≡ Some p → WasAt (entered_in (number ∷ above) (values_below w values) children) p) → (b : Bool) → (number == wanted) ≡ b
      → cond b (Some (record { node = node number w fields scroll index children; left = suc left; values = values; before = before; after = behind })) (spot_in wanted left (values_below w values) (suc before) behind children) ≡ Some p
      → WasAt (entered_of above values (node number w fields scroll index children)) p
  was_by left before behind above values number w fields scroll index children p step true is at =
      let e : Entered = record { number = number; widget = w; above = above; values = values } in
      let q : NodePlace = record { node = node number w fields scroll index children; left = suc left; values = values; before = before; after = behind } in
      let same = same_spot p q at in
      record {
        entry = e;
        is = ap (λ (b : Bool). cond {A = Option Entered} b (Some e) (by_number (entered_in (number ∷ above) (values_below w values) children))) is;
        widget = ap (λ (x : NodePlace). widget_of x.node) same;
        values = ap (λ (x : NodePlace). x.values) same;
      }
  was_by left before behind above values number w fields scroll index children p step false is at =
      let h = step at in
      let e : Entered = record { number = number; widget = w; above = above; values = values } in
      record {
        entry = h.entry;
        is = ap (λ (b : Bool). cond {A = Option Entered} b (Some e) (by_number (entered_in (number ∷ above) (values_below w values) children))) is ∙ h.is;
        widget = h.widget;
        values = h.values;
      }

  was_in_by : (xs ys : List Entered) (here later : Option NodePlace) (p : NodePlace) (b : Bool) → (here ≡ Some p → WasAt xs p) → (b ≡ false → by_number xs ≡ None) → (later ≡ Some p → WasAt ys p) → cond b here later ≡ Some p → WasAt (xs ++ ys) p
  was_in_by xs ys here later p true h none k at =
      let one = h at in
      record {
        entry = one.entry;
        is = find-append (λ e. e.number == wanted) xs ys ∙ ap (λ (o : Option Entered). option_or o (by_number ys)) one.is;
        widget = one.widget;
        values = one.values;
      }
  was_in_by xs ys here later p false h none k at =
      let one = k at in
      record {
        entry = one.entry;
        is = find-append (λ e. e.number == wanted) xs ys ∙ ap (λ (o : Option Entered). option_or o (by_number ys)) (none refl) ∙ one.is;
        widget = one.widget;
        values = one.values;
      }

  mutual
    pub was_at : (left before behind : ℕ) (above : List ℕ) (values : List Value) (n : PlainNode) (p : NodePlace) → spot_at wanted left values before behind n ≡ Some p → WasAt (entered_of above values n) p
    was_at zero before behind above values (node number w fields scroll index children) p at = absurd (no_spot p at)
    was_at (suc left) before behind above values (node number w fields scroll index children) p at =
        was_by left before behind above values number w fields scroll index children p (λ a. was_in left (suc before) behind (number ∷ above) (values_below w values) children p a) (number == wanted) refl at

    was_in : (left before behind : ℕ) (above : List ℕ) (values : List Value) (ns : PlainNodes) (p : NodePlace) → spot_in wanted left values before behind ns ≡ Some p → WasAt (entered_in above values ns) p
    was_in left before behind above values no_nodes p at = absurd (no_spot p at)
    was_in left before behind above values (more_nodes n ns) p at =
        was_in_by (entered_of above values n) (entered_in above values ns) (spot_at wanted left values before (behind + counts_of ns) n) (spot_in wanted left values (before + count_of n) behind ns) p (is_there wanted n)
        (λ a. was_at left before (behind + counts_of ns) above values n p a) (λ none. none_found (entered_of above values n) (all_so (Other wanted) above values n (not_there wanted n none)))
        (λ a. was_in left (before + count_of n) behind above values ns p a) at
