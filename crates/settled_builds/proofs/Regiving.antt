-- A build goes on alike at a component below which the one Inherit gives another value, and enters the same.
use Rattle.std.proofs.Common.{◌≡◌, ℕ, zero, suc, Bool, true, false, cond, Option, Some, None, List, [], ◌∷◌, ◌++◌, map, refl, sym, ap, ◌∙◌, subst}
use Rattle.std.proofs.lemmas.Bool.{and_parts, eq-eqb}
use Rattle.fx_expr.specs.declared.values.Value.{Value}
use Rattle.widget_model.specs.Plain.{PlainWidget, look_of, key_of}
use Rattle.widget_model.specs.Plain.{children_of as child_widgets}
use Rattle.widget_model.specs.Update.{key_eq, same_type, updates}
use Rattle.reconcile.specs.Matching.{matching}
use Rattle.reconcile.proofs.Updates.{updates_itself}
use Rattle.plain_tree.specs.PlainNode.{PlainNode, node, PlainNodes, no_nodes, more_nodes, list_of, number_of, widget_of, fields_of, index_of}
use Rattle.build_form.specs.BuildRole.{BuildRole, provides, build_role_of, is_lazy}
use Rattle.build_form.specs.Partner.{Arrival, arrival, arrivals_from, arrivals}
use Rattle.build_form.specs.Entering.{Basis, Phase, first, second, values_below, waits, put_off, opening, entered_below, enter}
use Rattle.build_form.specs.Step.{Progress, Step, gives, and_then, each}
use Rattle.build_walk.specs.Fresh.{HasOutput}
use Rattle.work_sets.specs.Entered.{Entered, after, seen_by_each, seen_from}
use Rattle.work_sets.specs.Members.{is_same_widget}
use Rattle.settled_builds.specs.Places.{NodePlace}
use Rattle.settled_builds.specs.Regiven.{having_widget, first_having, CanRegive}
use Rattle.settled_builds.specs.Settled.{AreItsOwn, StandInOrder}
use Rattle.settled_builds.specs.Taken.{nodes_below}
use Rattle.settled_builds.proofs.Alike.{BelowAlike, any_given, tests_alike, by_key, is_entering, entering, type_itself}
use Rattle.settled_builds.proofs.Reaching.{same_spot, AlikeAt, known_alike as step_known}
use Rattle.settled_builds.proofs.Seeing.{SeenBelow, any_seen, seen_under, tests_seen, by_key_seen, is_seeing, seeing}
use Rattle.settled_builds.proofs.SeeingOn.{SeenAt, known_alike as seen_known, putting}
use Rattle.settled_builds.proofs.Selves.{itself}
use Rattle.settled_builds.proofs.Staying.{no_list, not_put_off, given_again}
use Rattle.settled_builds.proofs.Updating.{matched_in_order}

-- kinds that give a value
gives_lazy : (p : BuildRole) (name : ℕ) (value : Value) → p ≡ provides name value → is_lazy p ≡ false
gives_lazy p name value e = ap is_lazy e

pub gives_waits : (phase : Phase) (p : BuildRole) (name : ℕ) (value : Value) → p ≡ provides name value → waits phase p ≡ false
gives_waits first p name value e = ap (waits first) e
gives_waits second p name value e = refl

module _ (equal : (a b : PlainWidget) → is_same_widget a b ≡ true → a ≡ b) (from : Basis) (phase : Phase) (name : ℕ) (was_value now_value : Value) where
  -- the Inherit itself
  module _ (was w : PlainWidget) (was_given : build_role_of (look_of was) ≡ provides name was_value) (now_given : build_role_of (look_of w) ≡ provides name now_value) (key : updates was w ≡ true) where
    type : same_type was w ≡ true
    type = (and_parts (same_type was w) (key_eq (key_of was) (key_of w)) key).0

    below_alike : (left : ℕ) (values : List Value) (number : ℕ) (fields : List Value) (scroll index other : ℕ) (ns : PlainNodes) (given : List PlainWidget) → BelowAlike equal from phase left values w number fields scroll was w index other ns ns given
    below_alike left values number fields scroll index other ns given t =
        let go = enter from phase left (values_below w values) in
        let opens : (o : Option PlainNode) → entered_below (enter from phase left) phase values w (opening o number fields given) t ≡ each go (arrivals o given) t =
        λ o. ap (λ (b : Bool). cond {A = Step (List PlainNode)} b (put_off o t) (each go (arrivals o given) t)) (gives_waits phase (build_role_of (look_of w)) name now_value now_given) in
        opens (Some (node number was fields scroll index ns))
        ∙ ap (λ (b : Bool). each go (arrivals_from (list_of ns) 0 given (matching (cond b (child_widgets was) (map widget_of (list_of ns))) given)) t) (gives_lazy (build_role_of (look_of was)) name was_value was_given)
        ∙ sym (ap (λ (b : Bool). each go (arrivals_from (list_of ns) 0 given (matching (cond b (child_widgets w) (map widget_of (list_of ns))) given)) t) (gives_lazy (build_role_of (look_of w)) name now_value now_given))
        ∙ sym (opens (Some (node number w fields scroll other ns)))

    pub gives_alike : (left : ℕ) (values : List Value) (place number : ℕ) (fields : List Value) (scroll index other : ℕ) (ns : PlainNodes) (s : Progress)
        → enter from phase left values (arrival w place (Some (node number was fields scroll index ns))) s ≡ enter from phase left values (arrival w place (Some (node number w fields scroll other ns))) s
    unfolding enter
    gives_alike zero values place number fields scroll index other ns s = refl
    gives_alike (suc left) values place number fields scroll index other ns s =
        let n = node number was fields scroll index ns in
        let m = node number w fields scroll other ns in
        is_entering equal from phase left values w place n s
        ∙ by_key equal from phase left values w place n m s (key_of w)
        (ap (λ (b : Bool). entering equal from phase left values w place (cond {A = Option PlainNode} b (Some n) None) s) type
        ∙ tests_alike equal from phase left values w place number fields scroll was w index other ns ns s (λ t.
        any_given equal from phase left values w place number fields scroll was w index other ns ns t (λ given. below_alike left values number fields scroll index other ns given))
        ∙ sym (ap (λ (b : Bool). entering equal from phase left values w place (cond {A = Option PlainNode} b (Some m) None) s) (type_itself equal from phase w)))
        ∙ sym (is_entering equal from phase left values w place m s)

    seen_below : (left : ℕ) (above : List ℕ) (values : List Value) (number : ℕ) (fields : List Value) (scroll index other : ℕ) (ns : PlainNodes) (given : List PlainWidget)
        → SeenBelow equal from phase left above values w number fields (Some (node number was fields scroll index ns)) (Some (node number w fields scroll other ns)) given
    seen_below left above values number fields scroll index other ns given t =
        let go = enter from phase left (values_below w values) in
        let seen = seen_from from phase left (number ∷ above) (values_below w values) in
        let opens : (o : Option PlainNode) → seen_under equal from phase left above values w (opening o number fields given) t ≡ seen_by_each go seen (arrivals o given) t =
        λ o. ap (λ (b : Bool). cond {A = List Entered} b [] (seen_by_each go seen (arrivals o given) t)) (gives_waits phase (build_role_of (look_of w)) name now_value now_given) in
        opens (Some (node number was fields scroll index ns))
        ∙ ap (λ (b : Bool). seen_by_each go seen (arrivals_from (list_of ns) 0 given (matching (cond b (child_widgets was) (map widget_of (list_of ns))) given)) t) (gives_lazy (build_role_of (look_of was)) name was_value was_given)
        ∙ sym (ap (λ (b : Bool). seen_by_each go seen (arrivals_from (list_of ns) 0 given (matching (cond b (child_widgets w) (map widget_of (list_of ns))) given)) t) (gives_lazy (build_role_of (look_of w)) name now_value now_given))
        ∙ sym (opens (Some (node number w fields scroll other ns)))

    pub gives_seen : (left : ℕ) (above : List ℕ) (values : List Value) (place number : ℕ) (fields : List Value) (scroll index other : ℕ) (ns : PlainNodes) (s : Progress)
        → seen_from from phase left above values (arrival w place (Some (node number was fields scroll index ns))) s ≡ seen_from from phase left above values (arrival w place (Some (node number w fields scroll other ns))) s
    unfolding seen_from
    gives_seen zero above values place number fields scroll index other ns s = refl
    gives_seen (suc left) above values place number fields scroll index other ns s =
        let n = node number was fields scroll index ns in
        let m = node number w fields scroll other ns in
        is_seeing equal from phase left above values w place n s
        ∙ by_key_seen equal from phase left above values w n m s (key_of w)
        (ap (λ (b : Bool). seeing equal from phase left above values w (cond {A = Option PlainNode} b (Some n) None) s) type
        ∙ tests_seen equal from phase left above values w number fields scroll was w index other ns ns s (λ t.
        any_seen equal from phase left above values w number fields (Some n) (Some m) t (λ given. seen_below left above values number fields scroll index other ns given))
        ∙ sym (ap (λ (b : Bool). seeing equal from phase left above values w (cond {A = Option PlainNode} b (Some m) None) s) (type_itself equal from phase w)))
        ∙ sym (is_seeing equal from phase left above values w place m s)

-- ---- the component above it

one_matched : (was w : PlainWidget) → updates was w ≡ true → matching (was ∷ []) (w ∷ []) ≡ Some 0 ∷ []
one_matched was w key = matched_in_order (was ∷ []) (w ∷ []) (key, tt)

module _ (equal : (a b : PlainWidget) → is_same_widget a b ≡ true → a ≡ b) (from : Basis) (phase : Phase) (w : PlainWidget) (name wanted : ℕ) (p : NodePlace) (can : CanRegive from.program w name p) where
  -- what is asked of the component at hand
  record Regives (number : ℕ) (u : PlainWidget) (fields values : List Value) (children : PlainNodes) : Type 0 where
    pub own : AreItsOwn (build_role_of (look_of u)) u (w ∷ [])
    pub output : HasOutput from.program (build_role_of (look_of u)) u fields values number (w ∷ [])
    pub below : children ≡ more_nodes can.child no_nodes

  regives : (left : ℕ) (values : List Value) (before behind number : ℕ) (u : PlainWidget) (fields : List Value) (scroll index : ℕ) (children : PlainNodes)
      → Some (record { node = node number u fields scroll index children; left = suc left; values = values; before = before; after = behind }) ≡ Some p → Regives number u fields values children
  regives left values before behind number u fields scroll index children at =
      let q : NodePlace = record { node = node number u fields scroll index children; left = suc left; values = values; before = before; after = behind } in
      let is : q ≡ p = same_spot p q at in
      record {
        own = subst (λ (x : NodePlace). AreItsOwn (build_role_of (look_of (widget_of x.node))) (widget_of x.node) (w ∷ [])) (sym is) can.given.own;
        output =
            subst (λ (x : NodePlace). HasOutput from.program (build_role_of (look_of (widget_of x.node))) (widget_of x.node) (fields_of x.node) x.values (number_of x.node) (w ∷ [])) (sym is) can.given.output;
        below = ap (λ (x : NodePlace). nodes_below x.node) is ∙ can.below;
      }

  pub arrives_one : (number : ℕ) (u : PlainWidget) (fields : List Value) (scroll index : ℕ) (c : PlainNode) → is_lazy (build_role_of (look_of u)) ≡ false → updates (widget_of c) w ≡ true → index_of c ≡ 0
      → arrivals (Some (node number u fields scroll index (more_nodes c no_nodes))) (w ∷ []) ≡ arrival w 0 (Some c) ∷ []
  arrives_one number u fields scroll index c lazy key place =
      ap (λ (b : Bool). arrivals_from (c ∷ []) 0 (w ∷ []) (matching (cond b (child_widgets u) (widget_of c ∷ [])) (w ∷ []))) lazy
      ∙ ap (arrivals_from (c ∷ []) 0 (w ∷ [])) (one_matched (widget_of c) w key)
      ∙ ap (λ (b : Bool). arrival w 0 (cond {A = Option PlainNode} b (Some c) None) ∷ []) (eq-eqb (index_of c) 0 place)

  -- where it is that component
  alike_here : (left : ℕ) (values : List Value) (number : ℕ) (u : PlainWidget) (fields : List Value) (scroll index : ℕ) (c : PlainNode) (s : Progress) → AreItsOwn (build_role_of (look_of u)) u (w ∷ [])
      → HasOutput from.program (build_role_of (look_of u)) u fields values number (w ∷ []) → build_role_of (look_of (widget_of c)) ≡ provides name can.was → updates (widget_of c) w ≡ true → index_of c ≡ 0
      → enter from phase (suc left) values (itself (node number u fields scroll index (more_nodes c no_nodes))) s ≡ enter from phase (suc left) values (itself (node number u fields scroll index (more_nodes (having_widget w c) no_nodes))) s
  alike_here left values number u fields scroll index (node cn was cf cs ci cns) s own output was_given key place =
      let c = node cn was cf cs ci cns in
      let d = node cn w cf cs ci cns in
      let go = enter from phase left (values_below u values) in
      let lazy = no_list (build_role_of (look_of u)) u (w ∷ []) own in
      let opens : (o : Option PlainNode) (t : Progress) → entered_below (enter from phase left) phase values u (opening o number fields (w ∷ [])) t ≡ each go (arrivals o (w ∷ [])) t =
      λ o t. ap (λ (b : Bool). cond {A = Step (List PlainNode)} b (put_off o t) (each go (arrivals o (w ∷ [])) t)) (not_put_off phase (build_role_of (look_of u)) u (w ∷ []) own) in
      step_known equal from phase left values u index number fields scroll index index (more_nodes c no_nodes) (more_nodes d no_nodes) (w ∷ []) s
      (λ t. given_again from.program (build_role_of (look_of u)) values number fields u t (w ∷ []) own output)
      (λ t.
      opens (Some (node number u fields scroll index (more_nodes c no_nodes))) t
      ∙ ap (λ (bs : List Arrival). each go bs t) (arrives_one number u fields scroll index c lazy key place)
      ∙ ap (λ (r : Step PlainNode). and_then r (λ (y : PlainNode) (v : Progress). gives (y ∷ []) v))
      (gives_alike equal from phase name can.was can.now was w was_given can.now_given key left (values_below u values) 0 cn cf cs ci ci cns t)
      ∙ ap (λ (bs : List Arrival). each go bs t) (sym (arrives_one number u fields scroll index d lazy (updates_itself w) place))
      ∙ sym (opens (Some (node number u fields scroll index (more_nodes d no_nodes))) t))

  seen_here : (left : ℕ) (above : List ℕ) (values : List Value) (number : ℕ) (u : PlainWidget) (fields : List Value) (scroll index : ℕ) (c : PlainNode) (s : Progress) → AreItsOwn (build_role_of (look_of u)) u (w ∷ [])
      → HasOutput from.program (build_role_of (look_of u)) u fields values number (w ∷ []) → build_role_of (look_of (widget_of c)) ≡ provides name can.was → updates (widget_of c) w ≡ true → index_of c ≡ 0
      → seen_from from phase (suc left) above values (itself (node number u fields scroll index (more_nodes c no_nodes))) s
      ≡ seen_from from phase (suc left) above values (itself (node number u fields scroll index (more_nodes (having_widget w c) no_nodes))) s
  seen_here left above values number u fields scroll index (node cn was cf cs ci cns) s own output was_given key place =
      let c = node cn was cf cs ci cns in
      let d = node cn w cf cs ci cns in
      let go = enter from phase left (values_below u values) in
      let seen = seen_from from phase left (number ∷ above) (values_below u values) in
      let lazy = no_list (build_role_of (look_of u)) u (w ∷ []) own in
      seen_known equal from phase left above values u index number fields scroll index index (more_nodes c no_nodes) (more_nodes d no_nodes) (w ∷ []) s
      (λ t. given_again from.program (build_role_of (look_of u)) values number fields u t (w ∷ []) own output)
      (λ t.
      putting equal from phase left above values number u fields (w ∷ []) own (Some (node number u fields scroll index (more_nodes c no_nodes))) t
      ∙ ap (λ (bs : List Arrival). seen_by_each go seen bs t) (arrives_one number u fields scroll index c lazy key place)
      ∙ (λ i.
      gives_seen equal from phase name can.was can.now was w was_given can.now_given key left (number ∷ above) (values_below u values) 0 cn cf cs ci ci cns t i
      ++ after (gives_alike equal from phase name can.was can.now was w was_given can.now_given key left (values_below u values) 0 cn cf cs ci ci cns t i) (λ (y : PlainNode) (v : Progress). []))
      ∙ ap (λ (bs : List Arrival). seen_by_each go seen bs t) (sym (arrives_one number u fields scroll index d lazy (updates_itself w) place))
      ∙ sym (putting equal from phase left above values number u fields (w ∷ []) own (Some (node number u fields scroll index (more_nodes d no_nodes))) t))

  pub first_place : (children : PlainNodes) (c : PlainNode) → children ≡ more_nodes c no_nodes → StandInOrder 0 (list_of children) → index_of c ≡ 0
  first_place children c is order = (subst (λ ns. StandInOrder 0 (list_of ns)) is order).0

  pub regiven_alike : AlikeAt equal from phase (first_having w) wanted p
  regiven_alike left values before behind number u fields scroll index children s at settled =
      let r = regives left values before behind number u fields scroll index children at in
      subst (λ ns. enter from phase (suc left) values (itself (node number u fields scroll index ns)) s ≡ enter from phase (suc left) values (itself (node number u fields scroll index (first_having w ns))) s) (sym r.below)
      (alike_here left values number u fields scroll index can.child s r.own r.output can.was_given can.key (first_place children can.child r.below settled.0.order))

  pub regiven_seen : SeenAt equal from phase (first_having w) wanted p
  regiven_seen left above values before behind number u fields scroll index children s at settled =
      let r = regives left values before behind number u fields scroll index children at in
      subst (λ ns. seen_from from phase (suc left) above values (itself (node number u fields scroll index ns)) s ≡ seen_from from phase (suc left) above values (itself (node number u fields scroll index (first_having w ns))) s) (sym r.below)
      (seen_here left above values number u fields scroll index can.child s r.own r.output can.was_given can.key (first_place children can.child r.below settled.0.order))
