-- What is laid out of a tree in which those below a component took widgets.
use Rattle.std.proofs.Common.{◌≡◌, ℕ, zero, suc, ◌+◌, ◌==◌, Bool, true, false, ◌&&◌, cond, is_some, Option, Some, None, List, [], ◌∷◌, ◌++◌, map, length, refl, sym, ap, ◌∙◌, subst, inr, arith}
use Rattle.std.proofs.lemmas.Bool.{and_parts, eqb-true}
use Rattle.std.proofs.lemmas.List.{map-append}
use Rattle.fx_expr.specs.declared.values.Value.{Value}
use Rattle.widget_model.specs.Look.{Look, component}
use Rattle.widget_model.specs.Plain.{PlainWidget, look_of}
use Rattle.widget_model.specs.Plain.{children_of as child_widgets}
use Rattle.work_sets.specs.Due.{names_read}
use Rattle.work_sets.proofs.Found.{IsIn, differ_left, differ_right, differs_in, in_left, in_right}
use Rattle.reconcile.specs.Matching.{matching}
use Rattle.reconcile.proofs.LawLemmas.{length-matching}
use Rattle.plain_tree.specs.declared.render.ParentData.{ParentData}
use Rattle.plain_tree.specs.declared.role.RenderRole.{RenderRole}
use Rattle.plain_tree.specs.declared.role.RenderRole.TheVariants.{Plain}
use Rattle.plain_tree.specs.At.{is_there, numbers_of, numbers_in, changed_at, changed_in}
use Rattle.plain_tree.specs.Laws.{DiffersFrom, AllDiffer, IsOne, OneWhere, VanishAlone, AllVanishAlone}
use Rattle.plain_tree.specs.PlainNode.{PlainNode, node, PlainNodes, no_nodes, more_nodes, list_of, widget_of, count_of, counts_of}
use Rattle.plain_tree.specs.Projection.{told_by, told_at, scroll_in, projected, projected_all, render_of}
use Rattle.plain_tree.specs.Render.{Render, render, renders_of, lazy_count}
use Rattle.plain_tree.specs.RenderRole.{render_role_of, vanishes}
use Rattle.build_form.specs.Entering.{values_below}
use Rattle.settled_builds.specs.Looks.{NewLook, look_or, look_after}
use Rattle.settled_builds.specs.Places.{NodePlace, spot_at, spot_in}
use Rattle.settled_builds.specs.Rearranged.{NewOrder, at_all, order_or, order_after, all_rearranged, looks_in, orders_in, drawn_in}
use Rattle.settled_builds.specs.Retaken.{retaking_below, all_asked, are_apart, can_retake, can_retake_below, retaken}
use Rattle.settled_builds.specs.Settled.{IsWithin, AreWithin}
use Rattle.settled_builds.specs.Taken.{nodes_below}
use Rattle.settled_builds.proofs.Drawing.{one_through, heard_placeless, again, listed, Stays, stays_node, stays, all_stay, kids_drawn, taking_drawn}
use Rattle.settled_builds.proofs.Reaching.{same_spot}
use Rattle.settled_builds.proofs.Retakes.{kids, Follows, within_at}
use Rattle.settled_builds.proofs.Telling.{not_in_both, untold_below}

-- a component has no render node
pub components_vanish : (l : Look) → is_some (names_read l) ≡ true → vanishes (render_role_of l) ≡ true
components_vanish (component place props declaration) reads = refl
components_vanish l reads = cc

-- ---- one child

one_child : (gone : Bool) (ns : PlainNodes) → gone ≡ true → OneWhere gone ns → IsOne ns
one_child true ns e one = one
one_child false ns e one = cc

first_alone : (xs : List Render) → length xs ≡ 1 → at_all xs (Some 0 ∷ []) ≡ xs
first_alone [] one = absurd (omega arith)
first_alone (x ∷ []) one = refl
first_alone (x ∷ y ∷ zs) one = absurd (omega arith)

match_alone : (c : PlainNode) (ws : List PlainWidget) (ms : List (Option ℕ)) → length ms ≡ length ws → 1 ≡ length ws → all_asked (can_retake c ∷ []) ws ms ≡ true → (xs : List Render) → length xs ≡ 1 → at_all xs ms ≡ xs
match_alone c ws [] long count can xs one = absurd (omega arith)
match_alone c [] (m ∷ ms) long count can xs one = absurd (omega arith)
match_alone c (w ∷ ws) (m ∷ n ∷ ms) long count can xs one = absurd (omega arith)
match_alone c (w ∷ ws) (None ∷ []) long count can xs one = absurd (cc)
match_alone c (w ∷ ws) (Some zero ∷ []) long count can xs one = first_alone xs one
match_alone c (w ∷ ws) (Some (suc j) ∷ []) long count can xs one = absurd (cc)

order_alone : (ns : PlainNodes) (ws : List PlainWidget) → IsOne ns → Follows ns ws → (xs : List Render) → length xs ≡ 1 → at_all xs (matching (map widget_of (list_of ns)) ws) ≡ xs
order_alone no_nodes ws one can xs long = absurd one
order_alone (more_nodes c (more_nodes d ns)) ws one can xs long = absurd one
order_alone (more_nodes c no_nodes) ws one can xs long =
    let olds = widget_of c ∷ [] in
    let ms = matching olds ws in
    let parts = and_parts (1 == length ws) (are_apart ws && all_asked (can_retake c ∷ []) ws ms) can in
    let apart = and_parts (are_apart ws) (all_asked (can_retake c ∷ []) ws ms) parts.1 in
    match_alone c ws ms (length-matching olds ws) (eqb-true 1 (length ws) parts.0) apart.1 xs long

-- ---- the way to the component

module _ (wanted : ℕ) (ws : List PlainWidget) (p : NodePlace) where
  abbrev changed : PlainNode → PlainNode
  changed n = changed_at (retaking_below ws) wanted n

  abbrev all_changed : PlainNodes → PlainNodes
  all_changed ns = changed_in (retaking_below ws) wanted ns

  abbrev f : ℕ → Look → Look
  f = look_after (looks_in ws p.node)

  abbrev g : ℕ → List Render → List Render
  g = order_after (orders_in ws p.node)

  abbrev now : Render → Render
  now r = again f g r

  -- nothing is told of a number that isn't below the component
  stays_of : (k : ℕ) → (IsIn k (numbers_in (nodes_below p.node)) → ⊥) → Stays f g k
  stays_of k out =
      let ns = nodes_below p.node in
      let none = untold_below k ns ws (matching (map widget_of (list_of ns)) ws) out in
      record { look = λ l. ap (λ (o : Option NewLook). look_or o l) none.0; order = λ xs. ap (λ (o : Option NewOrder). order_or o xs) none.1 }

  no_spot : None ≡ Some p → ⊥
  no_spot e = cc

  -- what is below the component is in each tree in which it has a spot
  module _ (k : ℕ) (here_below : IsIn k (numbers_in (nodes_below p.node))) where
    below_by : (X : Type 0) (here : Bool) (q : NodePlace) (o : Option NodePlace) → (IsIn k (numbers_in (nodes_below q.node)) → X) → (o ≡ Some p → X) → cond here (Some q) o ≡ Some p → X
    below_by X true q o one rest at = one (subst (λ (x : NodePlace). IsIn k (numbers_in (nodes_below x.node))) (sym (same_spot p q at)) here_below)
    below_by X false q o one rest at = rest at

    below_in : (X : Type 0) (there : Bool) (u v : Option NodePlace) → (u ≡ Some p → X) → (v ≡ Some p → X) → cond there u v ≡ Some p → X
    below_in X true u v one rest at = one at
    below_in X false u v one rest at = rest at

    mutual
      pub below_spot : (left : ℕ) (values : List Value) (before behind : ℕ) (n : PlainNode) → spot_at wanted left values before behind n ≡ Some p → IsIn k (numbers_of n)
      below_spot zero values before behind (node number w fs s i ns) at = absurd (no_spot at)
      below_spot (suc left) values before behind (node number w fs s i ns) at =
          below_by (IsIn k (number ∷ numbers_in ns)) (number == wanted) (record { node = node number w fs s i ns; left = suc left; values = values; before = before; after = behind })
          (spot_in wanted left (values_below w values) (suc before) behind ns) (λ x. inr x) (λ a. inr (all_below_spot left (values_below w values) (suc before) behind ns a)) at

      pub all_below_spot : (left : ℕ) (values : List Value) (before behind : ℕ) (ns : PlainNodes) → spot_in wanted left values before behind ns ≡ Some p → IsIn k (numbers_in ns)
      all_below_spot left values before behind no_nodes at = absurd (no_spot at)
      all_below_spot left values before behind (more_nodes n ns) at =
          below_in (IsIn k (numbers_of n ++ numbers_in ns)) (is_there wanted n) (spot_at wanted left values before (behind + counts_of ns) n) (spot_in wanted left values (before + count_of n) behind ns)
          (λ a. in_left k (numbers_of n) (numbers_in ns) (below_spot left values before (behind + counts_of ns) n a))
          (λ a. in_right k (numbers_of n) (numbers_in ns) (all_below_spot left values (before + count_of n) behind ns a)) at

  gone_by : (gone : Bool) (u v xs ys : List Render) → gone ≡ true → ys ≡ map now xs → cond gone ys u ≡ map now (cond gone xs v)
  gone_by true u v xs ys e same = same
  gone_by false u v xs ys e same = cc

  gone_node : (above : RenderRole) (heard : Option ParentData) (number : ℕ) (w : PlainWidget) (fs : List Value) (s i : ℕ) (ns ms : PlainNodes) → vanishes (render_role_of (look_of w)) ≡ true
      → ((d : ParentData) → projected_all above (Some d) ms ≡ map now (projected_all above (Some d) ns)) → projected above heard (node number w fs s i ms) ≡ map now (projected above heard (node number w fs s i ns))
  unfolding projected
  gone_node above heard number w fs s i ns ms gone all =
      let role = render_role_of (look_of w) in
      let d = told_at above heard i in
      gone_by (vanishes role) (render number (look_of w) d (scroll_in role s) (lazy_count role (child_widgets w)) (renders_of (projected_all role None ms)) ∷ [])
      (render number (look_of w) d (scroll_in role s) (lazy_count role (child_widgets w)) (renders_of (projected_all role None ns)) ∷ []) (projected_all above (Some (told_by above role d)) ns)
      (projected_all above (Some (told_by above role d)) ms) gone (all (told_by above role d))

  module _ (gone : vanishes (render_role_of (look_of (widget_of p.node))) ≡ true) (can : can_retake_below ws p.node ≡ true) (drawn : drawn_in ws p.node ≡ true) where
    path_here : (left : ℕ) (values : List Value) (before behind number : ℕ) (w : PlainWidget) (fs : List Value) (s i : ℕ) (ns : PlainNodes) (above : RenderRole) (heard : Option ParentData)
        → Some (record { node = node number w fs s i ns; left = suc left; values = values; before = before; after = behind }) ≡ Some p → AreWithin left ns → VanishAlone (node number w fs s i ns) → AllDiffer (numbers_in ns)
        → projected above heard (node number w fs s i (kids ns ws)) ≡ map now (projected above heard (node number w fs s i ns))
    path_here left values before behind number w fs s i ns above heard at within alone differ =
        let q : NodePlace = record { node = node number w fs s i ns; left = suc left; values = values; before = before; after = behind } in
        let same : q ≡ p = same_spot p q at in
        let gone_here : vanishes (render_role_of (look_of w)) ≡ true = ap (λ (x : NodePlace). vanishes (render_role_of (look_of (widget_of x.node)))) same ∙ gone in
        let can_here : Follows ns ws = ap (λ (x : NodePlace). can_retake_below ws x.node) same ∙ can in
        let drawn_here = ap (λ (x : NodePlace). drawn_in ws x.node) same ∙ drawn in
        let one = one_child (vanishes (render_role_of (look_of w))) ns gone_here alone.0 in
        gone_node above heard number w fs s i ns (kids ns ws) gone_here
        (λ d.
        kids_drawn f g above (Some d) ns ws
        (λ j c u place from ok drawn_child alone_child differ_child tells. taking_drawn f g left above (Some d) (heard_placeless above d) c u place (within_at left ns within j c from) ok drawn_child alone_child differ_child tells)
        can_here drawn_here alone.1 differ
        (record {
          look = λ k x l. ap (λ (y : NodePlace). look_after (looks_in ws y.node) k l) (sym same);
          order = λ k x xs. ap (λ (y : NodePlace). order_after (orders_in ws y.node) k xs) (sym same);
        })
        ∙ order_alone ns ws one can_here (map now (projected_all above (Some d) ns)) (length_map (projected_all above (Some d) ns) ∙ one_through above (Some d) ns one alone.1))
      where
        length_map : (xs : List Render) → length (map now xs) ≡ length xs
        length_map [] = refl
        length_map (x ∷ xs) = ap suc (length_map xs)

    path_by : (here : Bool) (left : ℕ) (values : List Value) (before behind number : ℕ) (w : PlainWidget) (fs : List Value) (s i : ℕ) (ns : PlainNodes) (above : RenderRole) (heard : Option ParentData)
        → (spot_in wanted left (values_below w values) (suc before) behind ns ≡ Some p → (role : RenderRole) (told_so : Option ParentData) → projected_all role told_so (all_changed ns) ≡ map now (projected_all role told_so ns))
        → cond here (Some (record { node = node number w fs s i ns; left = suc left; values = values; before = before; after = behind })) (spot_in wanted left (values_below w values) (suc before) behind ns) ≡ Some p
        → AreWithin left ns → VanishAlone (node number w fs s i ns) → DiffersFrom number (numbers_in ns) → AllDiffer (numbers_in ns)
        → projected above heard (cond here (node number w fs s i (kids ns ws)) (node number w fs s i (all_changed ns))) ≡ map now (projected above heard (node number w fs s i ns))
    path_by true left values before behind number w fs s i ns above heard step at within alone d differ = path_here left values before behind number w fs s i ns above heard at within alone differ
    path_by false left values before behind number w fs s i ns above heard step at within alone d differ =
        stays_node f g above heard number w fs s i ns (all_changed ns)
        (stays_of number (λ x. differs_in number number (numbers_in ns) d (all_below_spot number x left (values_below w values) (suc before) behind ns at) refl)) (step at)

    path_in : (there : Bool) (left : ℕ) (values : List Value) (before behind : ℕ) (n : PlainNode) (ns : PlainNodes) (above : RenderRole) (heard : Option ParentData)
        → (spot_at wanted left values before (behind + counts_of ns) n ≡ Some p → projected above heard (changed n) ≡ map now (projected above heard n))
        → (spot_in wanted left values (before + count_of n) behind ns ≡ Some p → projected_all above heard (all_changed ns) ≡ map now (projected_all above heard ns))
        → cond there (spot_at wanted left values before (behind + counts_of ns) n) (spot_in wanted left values (before + count_of n) behind ns) ≡ Some p → AllDiffer (numbers_of n ++ numbers_in ns)
        → projected_all above heard (cond there (more_nodes (changed n) ns) (more_nodes n (all_changed ns))) ≡ map now (projected_all above heard (more_nodes n ns))
    unfolding projected_all
    path_in true left values before behind n ns above heard one rest at differ =
        let here = one at in
        let others = all_stay f g above heard ns (λ k x. stays_of k (λ y. not_in_both k n ns differ (below_spot k y left values before (behind + counts_of ns) n at) x)) in
        (λ x. here x ++ others x) ∙ sym (map-append now (projected above heard n) (projected_all above heard ns))
    path_in false left values before behind n ns above heard one rest at differ =
        let here = stays f g above heard n (λ k x. stays_of k (λ y. not_in_both k n ns differ x (all_below_spot k y left values (before + count_of n) behind ns at))) in
        let others = rest at in
        (λ x. here x ++ others x) ∙ sym (map-append now (projected above heard n) (projected_all above heard ns))

    mutual
      path : (left : ℕ) (values : List Value) (before behind : ℕ) (n : PlainNode) (above : RenderRole) (heard : Option ParentData) → spot_at wanted left values before behind n ≡ Some p → IsWithin left n → VanishAlone n → AllDiffer (numbers_of n)
          → projected above heard (changed n) ≡ map now (projected above heard n)
      path zero values before behind (node number w fs s i ns) above heard at within alone differ = absurd (no_spot at)
      path (suc left) values before behind (node number w fs s i ns) above heard at within alone differ =
          path_by (number == wanted) left values before behind number w fs s i ns above heard
          (λ a role told_so. all_path left (values_below w values) (suc before) behind ns role told_so a within alone.1 differ.1) at within alone differ.0 differ.1

      all_path : (left : ℕ) (values : List Value) (before behind : ℕ) (ns : PlainNodes) (above : RenderRole) (heard : Option ParentData) → spot_in wanted left values before behind ns ≡ Some p → AreWithin left ns → AllVanishAlone ns
          → AllDiffer (numbers_in ns) → projected_all above heard (all_changed ns) ≡ map now (projected_all above heard ns)
      all_path left values before behind no_nodes above heard at within alone differ = absurd (no_spot at)
      all_path left values before behind (more_nodes n ns) above heard at within alone differ =
          path_in (is_there wanted n) left values before behind n ns above heard
          (λ a. path left values before (behind + counts_of ns) n above heard a within.0 alone.0 (differ_left (numbers_of n) (numbers_in ns) differ))
          (λ a. all_path left values (before + count_of n) behind ns above heard a within.1 alone.1 (differ_right (numbers_of n) (numbers_in ns) differ)) at differ

    pub whole_rearranged : (left : ℕ) (values : List Value) (tree : PlainNode) → spot_at wanted left values 0 0 tree ≡ Some p → IsWithin left tree → VanishAlone tree → AllDiffer (numbers_of tree)
        → render_of (retaken ws wanted tree) ≡ all_rearranged (look_after (looks_in ws p.node)) (order_after (orders_in ws p.node)) (renders_of (render_of tree))
    whole_rearranged left values tree at within alone differ = path left values 0 0 tree Plain None at within alone differ ∙ sym (listed f g (render_of tree))
