-- A build goes on alike at the component itself whose children took what its body gives.
use Rattle.std.proofs.Common.{◌≡◌, ℕ, suc, Bool, true, false, cond, Option, Some, List, map, sym, ap, ◌∙◌, subst}
use Rattle.std.proofs.lemmas.Bool.{and_parts}
use Rattle.fx_expr.specs.declared.values.Value.{Value}
use Rattle.widget_model.specs.Plain.{PlainWidget, look_of}
use Rattle.widget_model.specs.Plain.{children_of as child_widgets}
use Rattle.reconcile.specs.Matching.{matching}
use Rattle.plain_tree.specs.PlainNode.{PlainNode, node, PlainNodes, nodes_of, list_of, number_of, widget_of, fields_of}
use Rattle.build_form.specs.BuildRole.{build_role_of, is_lazy}
use Rattle.build_form.specs.Partner.{Arrival, arrivals_from, arrivals}
use Rattle.build_form.specs.Entering.{Basis, Phase, values_below, put_off, opening, entered_below, enter}
use Rattle.build_form.specs.Step.{Progress, Step, each}
use Rattle.build_walk.proofs.Made.{list_of-nodes_of}
use Rattle.build_walk.specs.Fresh.{HasOutput}
use Rattle.work_sets.specs.Members.{is_same_widget}
use Rattle.settled_builds.specs.Places.{NodePlace}
use Rattle.settled_builds.specs.Settled.{AreItsOwn, StandInOrder, IsSettled}
use Rattle.settled_builds.specs.Retaken.{all_retaking, gathered, each_taking, all_asked, can_retake, can_retake_below, retaking_below}
use Rattle.settled_builds.proofs.Alike.{take, each_taking_is, each_can_is, all_settled, gathered_widgets, gathered_order, each_alike, step_alike}
use Rattle.settled_builds.proofs.Reaching.{same_spot, known_alike, AlikeAt}
use Rattle.settled_builds.proofs.Selves.{selves, arrivals_are_selves}
use Rattle.settled_builds.proofs.Staying.{no_list, not_put_off, given_again}

module _ (equal : (a b : PlainWidget) → is_same_widget a b ≡ true → a ≡ b) (from : Basis) (phase : Phase) (ws : List PlainWidget) (wanted : ℕ) (p : NodePlace) where
  -- its body gives these, and they can be taken
  pub record Gives : Type 0 where
    pub own : AreItsOwn (build_role_of (look_of (widget_of p.node))) (widget_of p.node) ws
    pub output : HasOutput from.program (build_role_of (look_of (widget_of p.node))) (widget_of p.node) (fields_of p.node) p.values (number_of p.node) ws
    pub can : can_retake_below ws p.node ≡ true

  -- the component itself
  taken_below : (left : ℕ) (values : List Value) (number : ℕ) (w : PlainWidget) (fields : List Value) (scroll index : ℕ) (children : PlainNodes) (s : Progress)
      → IsSettled (node number w fields scroll index children) → AreItsOwn (build_role_of (look_of w)) w ws → can_retake_below ws (node number w fields scroll index children) ≡ true
      → entered_below (enter from phase left) phase values w (opening (Some (node number w fields scroll index children)) number fields ws) s
      ≡ entered_below (enter from phase left) phase values w (opening (Some (retaking_below ws (node number w fields scroll index children))) number fields ws) s
  taken_below left values number w fields scroll index children s settled own can =
      let ns = list_of children in
      let ms = matching (map widget_of ns) ws in
      let go = enter from phase left (values_below w values) in
      let parts = and_parts _ _ (and_parts _ _ can).1 in
      let asked : all_asked (map can_retake ns) ws ms ≡ true = ap (λ cs. all_asked cs ws ms) (sym (each_can_is children)) ∙ parts.1 in
      let kids : gathered (each_taking children) 0 ws ms ≡ gathered (map take ns) 0 ws ms = ap (λ ts. gathered ts 0 ws ms) (each_taking_is children) in
      let now = gathered (map take ns) 0 ws ms in
      let listed : list_of (nodes_of now) ≡ now = list_of-nodes_of now in
      let order : StandInOrder 0 (list_of (nodes_of now)) = subst (StandInOrder 0) (sym listed) (gathered_order equal ns 0 ws ms asked) in
      let widgets : map widget_of (list_of (nodes_of now)) ≡ ws = ap (map widget_of) listed ∙ gathered_widgets equal ns 0 ws ms asked in
      let after : PlainNodes → Step (List PlainNode) = λ below. each go (arrivals (Some (node number w fields scroll index below)) ws) s in
      let lazy : is_lazy (build_role_of (look_of w)) ≡ false = no_list (build_role_of (look_of w)) w ws own in
      let putting : (o : Option PlainNode) → entered_below (enter from phase left) phase values w (opening o number fields ws) s ≡ each go (arrivals o ws) s =
      λ o. ap (λ (b : Bool). cond {A = Step (List PlainNode)} b (put_off o s) (each go (arrivals o ws) s)) (not_put_off phase (build_role_of (look_of w)) w ws own) in
      putting (Some (node number w fields scroll index children))
      ∙ ap (λ (b : Bool). each go (arrivals_from ns 0 ws (matching (cond b (child_widgets w) (map widget_of ns)) ws)) s) lazy
      ∙ each_alike equal go (step_alike equal from phase left (values_below w values)) ns settled.0.order (all_settled children settled.1) 0 ws ms s asked
      ∙ ap (λ (xs : List PlainNode). each go (selves xs) s) (sym listed)
      ∙ ap (λ (bs : List Arrival). each go bs s) (sym (arrivals_are_selves number w fields scroll index (nodes_of now) lazy order))
      ∙ ap (λ (vs : List PlainWidget). each go (arrivals (Some (node number w fields scroll index (nodes_of now))) vs) s) widgets
      ∙ ap (λ (xs : List PlainNode). after (nodes_of xs)) (sym kids)
      ∙ sym (putting (Some (node number w fields scroll index (nodes_of (gathered (each_taking children) 0 ws ms)))))

  pub taken_alike : Gives → AlikeAt equal from phase (all_retaking ws) wanted p
  taken_alike gives_it left values before behind number w fields scroll index children s at settled =
      let n = node number w fields scroll index children in
      let q : NodePlace = record { node = n; left = suc left; values = values; before = before; after = behind } in
      let is : q ≡ p = same_spot p q at in
      let own : AreItsOwn (build_role_of (look_of w)) w ws = subst (λ (x : NodePlace). AreItsOwn (build_role_of (look_of (widget_of x.node))) (widget_of x.node) ws) (sym is) gives_it.own in
      let output : HasOutput from.program (build_role_of (look_of w)) w fields values number ws =
      subst (λ (x : NodePlace). HasOutput from.program (build_role_of (look_of (widget_of x.node))) (widget_of x.node) (fields_of x.node) x.values (number_of x.node) ws) (sym is) gives_it.output in
      let can : can_retake_below ws n ≡ true = ap (λ (x : NodePlace). can_retake_below ws x.node) is ∙ gives_it.can in
      known_alike equal from phase left values w index number fields scroll index index children (nodes_of (gathered (each_taking children) 0 ws (matching (map widget_of (list_of children)) ws))) ws s
      (λ t. given_again from.program (build_role_of (look_of w)) values number fields w t ws own output)
      (λ t. taken_below left values number w fields scroll index children t settled own can)
