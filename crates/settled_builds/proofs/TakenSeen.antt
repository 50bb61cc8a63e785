-- At the component itself whose children took what its body gives, a build enters what it would enter from the old tree.
use Rattle.std.proofs.Common.{◌≡◌, ℕ, suc, Bool, true, false, cond, Some, List, ◌∷◌, map, sym, ap, ◌∙◌, subst}
use Rattle.std.proofs.lemmas.Bool.{and_parts}
use Rattle.fx_expr.specs.declared.values.Value.{Value}
use Rattle.widget_model.specs.Plain.{PlainWidget, look_of}
use Rattle.widget_model.specs.Plain.{children_of as child_widgets}
use Rattle.reconcile.specs.Matching.{matching}
use Rattle.plain_tree.specs.PlainNode.{PlainNode, node, PlainNodes, nodes_of, list_of, number_of, widget_of, fields_of}
use Rattle.build_form.specs.BuildRole.{build_role_of, is_lazy}
use Rattle.build_form.specs.Partner.{Arrival, arrivals_from, arrivals}
use Rattle.build_form.specs.Entering.{Basis, Phase, values_below, opening, enter}
use Rattle.build_form.specs.Step.{Progress}
use Rattle.build_walk.proofs.Made.{list_of-nodes_of}
use Rattle.build_walk.specs.Fresh.{HasOutput}
use Rattle.work_sets.specs.Entered.{Entered, seen_by_each, seen_from}
use Rattle.work_sets.specs.Members.{is_same_widget}
use Rattle.settled_builds.specs.Places.{NodePlace}
use Rattle.settled_builds.specs.Retaken.{all_retaking, gathered, each_taking, all_asked, can_retake, can_retake_below, retaking_below}
use Rattle.settled_builds.specs.Settled.{AreItsOwn, StandInOrder, IsSettled}
use Rattle.settled_builds.proofs.Alike.{take, each_taking_is, each_can_is, all_settled, gathered_widgets, gathered_order, step_alike}
use Rattle.settled_builds.proofs.Reaching.{same_spot}
use Rattle.settled_builds.proofs.SeeingOn.{known_alike, putting, SeenAt}
use Rattle.settled_builds.proofs.Taken.{Gives}
use Rattle.settled_builds.proofs.Seeing.{each_seen_alike, seen_under, seen_alike}
use Rattle.settled_builds.proofs.Selves.{selves, arrivals_are_selves}
use Rattle.settled_builds.proofs.Staying.{no_list, given_again}

module _ (equal : (a b : PlainWidget) → is_same_widget a b ≡ true → a ≡ b) (from : Basis) (phase : Phase) (ws : List PlainWidget) (wanted : ℕ) (p : NodePlace) where
  -- the component itself
  taken_below : (left : ℕ) (above : List ℕ) (values : List Value) (number : ℕ) (w : PlainWidget) (fields : List Value) (scroll index : ℕ) (children : PlainNodes) (t : Progress)
      → IsSettled (node number w fields scroll index children) → AreItsOwn (build_role_of (look_of w)) w ws → can_retake_below ws (node number w fields scroll index children) ≡ true
      → seen_under equal from phase left above values w (opening (Some (node number w fields scroll index children)) number fields ws) t
      ≡ seen_under equal from phase left above values w (opening (Some (retaking_below ws (node number w fields scroll index children))) number fields ws) t
  taken_below left above values number w fields scroll index children t settled own can =
      let ns = list_of children in
      let ms = matching (map widget_of ns) ws in
      let go = enter from phase left (values_below w values) in
      let seen = seen_from from phase left (number ∷ above) (values_below w values) in
      let parts = and_parts _ _ (and_parts _ _ can).1 in
      let asked : all_asked (map can_retake ns) ws ms ≡ true = ap (λ cs. all_asked cs ws ms) (sym (each_can_is children)) ∙ parts.1 in
      let kids : gathered (each_taking children) 0 ws ms ≡ gathered (map take ns) 0 ws ms = ap (λ ts. gathered ts 0 ws ms) (each_taking_is children) in
      let gs = gathered (map take ns) 0 ws ms in
      let listed : list_of (nodes_of gs) ≡ gs = list_of-nodes_of gs in
      let order : StandInOrder 0 (list_of (nodes_of gs)) = subst (StandInOrder 0) (sym listed) (gathered_order equal ns 0 ws ms asked) in
      let widgets : map widget_of (list_of (nodes_of gs)) ≡ ws = ap (map widget_of) listed ∙ gathered_widgets equal ns 0 ws ms asked in
      let later : PlainNodes → List Entered = λ below. seen_by_each go seen (arrivals (Some (node number w fields scroll index below)) ws) t in
      let lazy : is_lazy (build_role_of (look_of w)) ≡ false = no_list (build_role_of (look_of w)) w ws own in
      putting equal from phase left above values number w fields ws own (Some (node number w fields scroll index children)) t
      ∙ ap (λ (b : Bool). seen_by_each go seen (arrivals_from ns 0 ws (matching (cond b (child_widgets w) (map widget_of ns)) ws)) t) lazy
      ∙ each_seen_alike equal go seen (step_alike equal from phase left (values_below w values)) (seen_alike equal from phase left (number ∷ above) (values_below w values)) ns settled.0.order (all_settled children settled.1) 0 ws ms t asked
      ∙ ap (λ (xs : List PlainNode). seen_by_each go seen (selves xs) t) (sym listed)
      ∙ ap (λ (bs : List Arrival). seen_by_each go seen bs t) (sym (arrivals_are_selves number w fields scroll index (nodes_of gs) lazy order))
      ∙ ap (λ (vs : List PlainWidget). seen_by_each go seen (arrivals (Some (node number w fields scroll index (nodes_of gs))) vs) t) widgets
      ∙ ap (λ (xs : List PlainNode). later (nodes_of xs)) (sym kids)
      ∙ sym (putting equal from phase left above values number w fields ws own (Some (node number w fields scroll index (nodes_of (gathered (each_taking children) 0 ws ms)))) t)

  pub taken_seen : Gives equal from phase ws wanted p → SeenAt equal from phase (all_retaking ws) wanted p
  taken_seen gives_it left above values before behind number w fields scroll index children s at settled =
      let n = node number w fields scroll index children in
      let q : NodePlace = record { node = n; left = suc left; values = values; before = before; after = behind } in
      let is : q ≡ p = same_spot p q at in
      let own : AreItsOwn (build_role_of (look_of w)) w ws = subst (λ (x : NodePlace). AreItsOwn (build_role_of (look_of (widget_of x.node))) (widget_of x.node) ws) (sym is) gives_it.own in
      let output : HasOutput from.program (build_role_of (look_of w)) w fields values number ws =
      subst (λ (x : NodePlace). HasOutput from.program (build_role_of (look_of (widget_of x.node))) (widget_of x.node) (fields_of x.node) x.values (number_of x.node) ws) (sym is) gives_it.output in
      let can : can_retake_below ws n ≡ true = ap (λ (x : NodePlace). can_retake_below ws x.node) is ∙ gives_it.can in
      known_alike equal from phase left above values w index number fields scroll index index children (nodes_of (gathered (each_taking children) 0 ws (matching (map widget_of (list_of children)) ws))) ws s
      (λ t. given_again from.program (build_role_of (look_of w)) values number fields w t ws own output)
      (λ t. taken_below left above values number w fields scroll index children t settled own can)
