-- What is laid out of a tree in which an Inherit gives another value is what was laid out.
use Rattle.std.proofs.Common.{◌≡◌, ℕ, zero, suc, ◌+◌, eqb, Bool, true, false, cond, Option, Some, None, List, [], ◌∷◌, ◌++◌, refl, sym, ap, ◌∙◌, subst}
use Rattle.fx_expr.specs.declared.values.Value.{Value}
use Rattle.widget_model.specs.Look.{Look, inherit}
use Rattle.widget_model.specs.Plain.{PlainWidget, look_of}
use Rattle.widget_model.specs.Plain.{children_of as child_widgets}
use Rattle.plain_tree.specs.At.{is_there}
use Rattle.plain_tree.specs.PlainNode.{PlainNode, node, PlainNodes, no_nodes, more_nodes, widget_of, counts_of, count_of}
use Rattle.plain_tree.specs.Projection.{told_by, told_at, scroll_in, projected, projected_all}
use Rattle.plain_tree.specs.Render.{Render, render, renders_of, lazy_count}
use Rattle.plain_tree.specs.RenderRole.{render_role_of, vanishes}
use Rattle.plain_tree.specs.declared.render.ParentData.{ParentData}
use Rattle.plain_tree.specs.declared.role.RenderRole.{RenderRole}
use Rattle.plain_tree.specs.declared.role.RenderRole.TheVariants.{Composes}
use Rattle.build_form.specs.BuildRole.{provides, build_role_of}
use Rattle.build_form.specs.Entering.{Blueprint, values_below}
use Rattle.settled_builds.specs.Places.{NodePlace, spot_at, spot_in}
use Rattle.settled_builds.specs.Regiven.{having_widget, first_having, CanRegive}
use Rattle.settled_builds.specs.Retaken.{over}
use Rattle.settled_builds.specs.Taken.{nodes_below}
use Rattle.settled_builds.proofs.Changed.{changed, all_changed}
use Rattle.settled_builds.proofs.Reaching.{same_spot}

-- a kind that gives a value has no render node, and tells nothing
gives_composes : (look : Look) (name : ℕ) (value : Value) → build_role_of look ≡ provides name value → render_role_of look ≡ Composes
gives_composes (inherit k v) name value e = refl
gives_composes look name value e = cc

-- nodes whose children are laid out alike are laid out alike
abbrev AllDrawnAs : PlainNodes → PlainNodes → Type 0
AllDrawnAs ms ns = (above : RenderRole) (told : Option ParentData) → projected_all above told ms ≡ projected_all above told ns

node_drawn : (above : RenderRole) (told : Option ParentData) (number : ℕ) (u : PlainWidget) (fs : List Value) (s i : ℕ) (ms ns : PlainNodes) → AllDrawnAs ms ns → projected above told (node number u fs s i ms) ≡ projected above told (node number u fs s i ns)
unfolding projected
node_drawn above told number u fs s i ms ns h =
    let role = render_role_of (look_of u) in
    let parent_data = told_at above told i in
    λ at. cond (vanishes role) (h above (Some (told_by above role parent_data)) at) (render number (look_of u) parent_data (scroll_in role s) (lazy_count role (child_widgets u)) (renders_of (h role None at)) ∷ [])

module _ (b : Blueprint) (w : PlainWidget) (name wanted : ℕ) (p : NodePlace) (can : CanRegive b w name p) where
  child_drawn : (above : RenderRole) (told : Option ParentData) (c : PlainNode) → build_role_of (look_of (widget_of c)) ≡ provides name can.was → projected above told (having_widget w c) ≡ projected above told c
  unfolding projected
  child_drawn above told (node cn was cf cs ci cns) was_given =
      let of_role : RenderRole → PlainWidget → List Render =
      λ role v. cond (vanishes role) (projected_all above (Some (told_by above role (told_at above told ci))) cns)
      (render cn (look_of v) (told_at above told ci) (scroll_in role cs) (lazy_count role (child_widgets v)) (renders_of (projected_all role None cns)) ∷ []) in
      ap (λ (r : RenderRole). of_role r w) (gives_composes (look_of w) name can.now can.now_given) ∙ sym (ap (λ (r : RenderRole). of_role r was) (gives_composes (look_of was) name can.was was_given))

  one_drawn : (c : PlainNode) → build_role_of (look_of (widget_of c)) ≡ provides name can.was → AllDrawnAs (more_nodes (having_widget w c) no_nodes) (more_nodes c no_nodes)
  unfolding projected_all
  one_drawn c was_given above told = ap (λ (rs : List Render). rs ++ []) (child_drawn above told c was_given)

  drawn_by : (deep : ℕ) (values : List Value) (before behind number : ℕ) (u : PlainWidget) (fs : List Value) (s i : ℕ) (ns : PlainNodes) → (spot_in wanted deep (values_below u values) (suc before) behind ns ≡ Some p → AllDrawnAs (all_changed (first_having w) wanted ns) ns)
      → (here : Bool) → cond here (Some (record { node = node number u fs s i ns; left = suc deep; values = values; before = before; after = behind })) (spot_in wanted deep (values_below u values) (suc before) behind ns) ≡ Some p → (above : RenderRole) (told : Option ParentData)
      → projected above told (cond here (over (first_having w) (node number u fs s i ns)) (node number u fs s i (all_changed (first_having w) wanted ns))) ≡ projected above told (node number u fs s i ns)
  drawn_by deep values before behind number u fs s i ns step true at above told =
      let q : NodePlace = record { node = node number u fs s i ns; left = suc deep; values = values; before = before; after = behind } in
      let below : ns ≡ more_nodes can.child no_nodes = ap (λ (x : NodePlace). nodes_below x.node) (same_spot p q at) ∙ can.below in
      node_drawn above told number u fs s i (first_having w ns) ns (subst (λ ms. AllDrawnAs (first_having w ms) ms) (sym below) (one_drawn can.child can.was_given))
  drawn_by deep values before behind number u fs s i ns step false at above told = node_drawn above told number u fs s i (all_changed (first_having w) wanted ns) ns (step at)

  drawn_list : (deep : ℕ) (values : List Value) (before behind : ℕ) (n : PlainNode) (ns : PlainNodes)
      → (spot_at wanted deep values before (behind + counts_of ns) n ≡ Some p → (above : RenderRole) (told : Option ParentData) → projected above told (changed (first_having w) wanted n) ≡ projected above told n)
      → (spot_in wanted deep values (before + count_of n) behind ns ≡ Some p → AllDrawnAs (all_changed (first_having w) wanted ns) ns) → (there : Bool)
      → cond there (spot_at wanted deep values before (behind + counts_of ns) n) (spot_in wanted deep values (before + count_of n) behind ns) ≡ Some p
      → AllDrawnAs (cond there (more_nodes (changed (first_having w) wanted n) ns) (more_nodes n (all_changed (first_having w) wanted ns))) (more_nodes n ns)
  unfolding projected_all
  drawn_list deep values before behind n ns one rest true at above told = ap (λ (rs : List Render). rs ++ projected_all above told ns) (one at above told)
  drawn_list deep values before behind n ns one rest false at above told = ap (λ (rs : List Render). projected above told n ++ rs) (rest at above told)

  no_spot : None ≡ Some p → ⊥
  no_spot e = cc

  mutual
    pub drawn_same : (deep : ℕ) (values : List Value) (before behind : ℕ) (n : PlainNode) → spot_at wanted deep values before behind n ≡ Some p → (above : RenderRole) (told : Option ParentData)
        → projected above told (changed (first_having w) wanted n) ≡ projected above told n
    drawn_same zero values before behind (node number u fs s i ns) at above told = absurd (no_spot at)
    drawn_same (suc deep) values before behind (node number u fs s i ns) at above told =
        drawn_by deep values before behind number u fs s i ns (λ a. all_drawn_same deep (values_below u values) (suc before) behind ns a) (eqb number wanted) at above told

    all_drawn_same : (deep : ℕ) (values : List Value) (before behind : ℕ) (ns : PlainNodes) → spot_in wanted deep values before behind ns ≡ Some p → AllDrawnAs (all_changed (first_having w) wanted ns) ns
    all_drawn_same deep values before behind no_nodes at = absurd (no_spot at)
    all_drawn_same deep values before behind (more_nodes n ns) at =
        drawn_list deep values before behind n ns (λ a above told. drawn_same deep values before (behind + counts_of ns) n a above told) (λ a. all_drawn_same deep values (before + count_of n) behind ns a) (is_there wanted n) at
