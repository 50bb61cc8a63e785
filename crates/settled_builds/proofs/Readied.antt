-- A tree in which those below the first marked component took what its body gives is as ready as it was, without that mark.
use Rattle.std.proofs.Common.{◌≡◌, ℕ, zero, suc, ◌+◌, ◌≤◌, eqb, Bool, true, false, cond, Some, None, List, [], ◌∷◌, map, refl, sym, ap, ◌∙◌, subst, arith}
use Rattle.std.specs.Prelude.{slice_get}
use Rattle.std.proofs.lemmas.Bool.{eqb-false}
use Rattle.fx_expr.specs.declared.values.Value.{Value}
use Rattle.widget_model.specs.Plain.{PlainWidget, look_of, key_of}
use Rattle.widget_model.specs.Plain.{children_of as child_widgets}
use Rattle.plain_tree.specs.At.{is_there, numbers_of}
use Rattle.plain_tree.specs.PlainNode.{PlainNode, node, PlainNodes, no_nodes, more_nodes, list_of, widget_of, index_of, count_of, counts_of}
use Rattle.build_form.specs.BuildRole.{build_role_of}
use Rattle.build_form.specs.Entering.{Blueprint, depth_limit, first_repeated, values_below}
use Rattle.build_form.specs.Laws.{NumbersAre, AllNumbersAre}
use Rattle.build_form.specs.Numbered.{StandAt, IsInPlace, AreInPlace}
use Rattle.build_form.proofs.Times.{one_if, times_of, times_in, times_listed, differ_times, times_differ}
use Rattle.build_walk.specs.Fresh.{HasOutput}
use Rattle.build_walk.specs.Past.{is_marked}
use Rattle.work_sets.specs.Members.{is_same_widget}
use Rattle.settled_builds.specs.Places.{NodePlace, spot_at, spot_in}
use Rattle.settled_builds.specs.Retaken.{over, all_retaking, retaken}
use Rattle.settled_builds.specs.Settled.{AreComponents, AreItsOwn, StandInOrder, IsSettled, AreSettled, IsReadyTree}
use Rattle.settled_builds.specs.Steps.{without, IsFirstMarked, CanTakeAnew}
use Rattle.settled_builds.specs.Taken.{AskedIf}
use Rattle.settled_builds.proofs.Changed.{changed, all_changed, changed_widget, changed_index, changed_widgets, changed_order}
use Rattle.settled_builds.proofs.Once.{Other, IsAlone, AreAlone, alone}
use Rattle.settled_builds.proofs.Reaching.{same_spot}
use Rattle.settled_builds.proofs.Retakes.{Sound, AllSound, AsMany, AllAsMany, kids_widgets, kids_above, all_retake, all_as_many}
use Rattle.settled_builds.proofs.Staying.{no_list}
use Rattle.settled_builds.proofs.Without.{others_stay, fresh_less, all_fresh_less, components_without}

-- ---- the nodes of a settled tree stand in place

stand : (all : List PlainWidget) (i : ℕ) (ns : List PlainNode) → ((k : ℕ) → slice_get all (i + k) ≡ slice_get (map widget_of ns) k) → StandInOrder i ns → StandAt all ns
stand all i [] h order = tt
stand all i (n ∷ ns) h order =
    let here : index_of n ≡ i + 0 = order.0 ∙ omega arith in (
      ap (slice_get all) here ∙ h 0,
      stand all (suc i) ns (λ k. (let next : suc i + k ≡ i + suc k = omega arith in ap (slice_get all) next) ∙ h (suc k)) order.1,
    )

mutual
  pub in_place : (n : PlainNode) → IsSettled n → IsInPlace n
  in_place (node number w fs s i ns) h = (
    subst (λ b. StandAt (cond b (child_widgets w) (map widget_of (list_of ns))) (list_of ns)) (sym (no_list (build_role_of (look_of w)) w (map widget_of (list_of ns)) h.0.own))
        (stand (map widget_of (list_of ns)) 0 (list_of ns) (λ k. let plus : 0 + k ≡ k = omega arith in ap (slice_get (map widget_of (list_of ns))) plus) h.0.order),
    all_in_place ns h.1,
  )

  all_in_place : (ns : PlainNodes) → AreSettled ns → AreInPlace ns
  all_in_place no_nodes h = tt
  all_in_place (more_nodes n ns) h = (in_place n h.0, all_in_place ns h.1)

-- ---- on the way to the component

module _ (b : Blueprint) (left_marks comps : List ℕ) (next : ℕ) where
  pub record Renews (left : ℕ) (values : List Value) (n m : PlainNode) : Type 0 where
    pub sound : Sound b left_marks comps next left values m
    pub many : AsMany n m

  pub record RenewAll (left : ℕ) (values : List Value) (ns ms : PlainNodes) : Type 0 where
    pub sound : AllSound b left_marks comps next left values ms
    pub many : AllAsMany ns ms

module _ (b : Blueprint) (marks left_marks comps : List ℕ) (next wanted : ℕ) (change : PlainNodes → PlainNodes) (p : NodePlace) (less : (k : ℕ) → Other wanted k → is_marked left_marks k ≡ false → is_marked marks k ≡ false) where
  abbrev Before : ℕ → List Value → PlainNode → Type 0
  Before left values n = Sound b marks comps next left values n

  abbrev AllBefore : ℕ → List Value → PlainNodes → Type 0
  AllBefore left values ns = AllSound b marks comps next left values ns

  abbrev After : ℕ → List Value → PlainNode → Type 0
  After left values n = Sound b left_marks comps next left values n

  abbrev AllAfter : ℕ → List Value → PlainNodes → Type 0
  AllAfter left values ns = AllSound b left_marks comps next left values ns

  abbrev Renewed : ℕ → List Value → PlainNode → PlainNode → Type 0
  Renewed left values n m = Renews b left_marks comps next left values n m

  abbrev AllRenewed : ℕ → List Value → PlainNodes → PlainNodes → Type 0
  AllRenewed left values ns ms = RenewAll b left_marks comps next left values ns ms

  -- it is so at the spot itself
  abbrev pub RenewsAt : Type 0
  RenewsAt = (left : ℕ) (values : List Value) (before after number : ℕ) (w : PlainWidget) (fields : List Value) (scroll index : ℕ) (children : PlainNodes)
      → Some (record { node = node number w fields scroll index children; left = suc left; values = values; before = before; after = after }) ≡ Some p
      → Before (suc left) values (node number w fields scroll index children) → AllNumbersAre (Other wanted) children
      → Renewed (suc left) values (node number w fields scroll index children) (over change (node number w fields scroll index children))

  -- what has not that number stays
  stays : (left : ℕ) (values : List Value) (n : PlainNode) → NumbersAre (Other wanted) n → Before left values n → After left values n
  stays left values n other h =
      record { settled = h.settled; fresh = fresh_less wanted b marks left_marks less values n other h.fresh; within = h.within; keyless = h.keyless; components = h.components; below = h.below }

  pub all_stay : (left : ℕ) (values : List Value) (ns : PlainNodes) → AllNumbersAre (Other wanted) ns → AllBefore left values ns → AllAfter left values ns
  all_stay left values ns other h =
      record { settled = h.settled; fresh = all_fresh_less wanted b marks left_marks less values ns other h.fresh; within = h.within; keyless = h.keyless; components = h.components; below = h.below }

  renews_by : (left : ℕ) (values : List Value) (before after number : ℕ) (w : PlainWidget) (fields : List Value) (scroll index : ℕ) (children : PlainNodes)
      → (AreAlone wanted children → spot_in wanted left (values_below w values) (suc before) after children ≡ Some p → AllRenewed left (values_below w values) children (all_changed change wanted children))
      → (here : Bool) → eqb number wanted ≡ here
      → cond here (Some (record { node = node number w fields scroll index children; left = suc left; values = values; before = before; after = after })) (spot_in wanted left (values_below w values) (suc before) after children) ≡ Some p
      → Before (suc left) values (node number w fields scroll index children) → AskedIf here (AllNumbersAre (Other wanted) children) (AreAlone wanted children) → RenewsAt
      → Renewed (suc left) values (node number w fields scroll index children)
      (cond here (over change (node number w fields scroll index children)) (node number w fields scroll index (all_changed change wanted children)))
  renews_by left values before after number w fields scroll index children step true is at h other can = can left values before after number w fields scroll index children at h other
  renews_by left values before after number w fields scroll index children step false is at h other can =
      let all = step other at in
      let widgets = sym (changed_widgets change wanted children) in
      let part = build_role_of (look_of w) in
      record {
        sound = record {
          settled = (
            record {
              own = subst (AreItsOwn part w) widgets h.settled.0.own;
              order = changed_order change wanted 0 children h.settled.0.order;
              apart = subst (λ vs. first_repeated [] (map key_of vs) ≡ None) widgets h.settled.0.apart;
            },
            all.sound.settled,
          );
          fresh = (λ e. subst (HasOutput b part w fields values number) widgets (h.fresh.0 (less number (eqb-false number wanted is) e)), all.sound.fresh);
          within = all.sound.within;
          keyless = (h.keyless.0, all.sound.keyless);
          components = (h.components.0, all.sound.components);
          below = (h.below.0, all.sound.below);
        };
        many = record { count = ap suc all.many.count; times = λ k. ap (λ t. one_if (eqb number k) + t) (all.many.times k) };
      }

  all_by : (left : ℕ) (values : List Value) (before after : ℕ) (n : PlainNode) (ns : PlainNodes)
      → (IsAlone wanted n → spot_at wanted left values before (after + counts_of ns) n ≡ Some p → Renewed left values n (changed change wanted n))
      → (AreAlone wanted ns → spot_in wanted left values (before + count_of n) after ns ≡ Some p → AllRenewed left values ns (all_changed change wanted ns))
      → (there : Bool)
      → cond there (spot_at wanted left values before (after + counts_of ns) n) (spot_in wanted left values (before + count_of n) after ns) ≡ Some p
      → Before left values n → AllBefore left values ns
      → AskedIf there (IsAlone wanted n × AllNumbersAre (Other wanted) ns) (NumbersAre (Other wanted) n × AreAlone wanted ns)
      → AllRenewed left values (more_nodes n ns) (cond there (more_nodes (changed change wanted n) ns) (more_nodes n (all_changed change wanted ns)))
  all_by left values before after n ns one rest true at h k other =
      let x = one other.0 at in
      let y = all_stay left values ns other.1 k in
      record {
        sound = record {
          settled = (x.sound.settled, y.settled);
          fresh = (x.sound.fresh, y.fresh);
          within = (x.sound.within, y.within);
          keyless = (x.sound.keyless, y.keyless);
          components = (x.sound.components, y.components);
          below = (x.sound.below, y.below);
        };
        many = record { count = ap (λ c. c + counts_of ns) x.many.count; times = λ i. ap (λ t. t + times_in i ns) (x.many.times i) };
      }
  all_by left values before after n ns one rest false at h k other =
      let x = stays left values n other.0 h in
      let y = rest other.1 at in
      record {
        sound = record {
          settled = (x.settled, y.sound.settled);
          fresh = (x.fresh, y.sound.fresh);
          within = (x.within, y.sound.within);
          keyless = (x.keyless, y.sound.keyless);
          components = (x.components, y.sound.components);
          below = (x.below, y.sound.below);
        };
        many = record { count = ap (λ c. count_of n + c) y.many.count; times = λ i. ap (λ t. times_of i n + t) (y.many.times i) };
      }

  no_spot : None ≡ Some p → ⊥
  no_spot e = cc

  mutual
    pub renews : (left : ℕ) (values : List Value) (before after : ℕ) (n : PlainNode) → spot_at wanted left values before after n ≡ Some p → Before left values n → IsAlone wanted n → RenewsAt
        → Renewed left values n (changed change wanted n)
    renews zero values before after (node number w fields scroll index children) at h other can = absurd (no_spot at)
    renews (suc left) values before after (node number w fields scroll index children) at h other can =
        renews_by left values before after number w fields scroll index children
        (λ o a. renew_all left (values_below w values) (suc before) after children a
        (record { settled = h.settled.1; fresh = h.fresh.1; within = h.within; keyless = h.keyless.1; components = h.components.1; below = h.below.1 }) o can)
        (eqb number wanted) refl at h other can

    renew_all : (left : ℕ) (values : List Value) (before after : ℕ) (ns : PlainNodes) → spot_in wanted left values before after ns ≡ Some p → AllBefore left values ns → AreAlone wanted ns → RenewsAt
        → AllRenewed left values ns (all_changed change wanted ns)
    renew_all left values before after no_nodes at h other can = absurd (no_spot at)
    renew_all left values before after (more_nodes n ns) at h other can =
        let one : Before left values n = record { settled = h.settled.0; fresh = h.fresh.0; within = h.within.0; keyless = h.keyless.0; components = h.components.0; below = h.below.0 } in
        let rest : AllBefore left values ns = record { settled = h.settled.1; fresh = h.fresh.1; within = h.within.1; keyless = h.keyless.1; components = h.components.1; below = h.below.1 } in
        all_by left values before after n ns (λ o a. renews left values before (after + counts_of ns) n a one o can) (λ o a. renew_all left values (before + count_of n) after ns a rest o can) (is_there wanted n) at one rest other

  pub whole : (root : PlainWidget) (tree : PlainNode) → IsReadyTree b marks next root tree → AreComponents comps tree → spot_at wanted depth_limit b.defaults 0 0 tree ≡ Some p → RenewsAt → Renewed depth_limit b.defaults tree (changed change wanted tree)
  whole root tree h components at here =
      renews depth_limit b.defaults 0 0 tree at (record { settled = h.settled; fresh = h.fresh; within = h.within; keyless = h.keyless; components = components; below = h.numbered.below })
      (alone wanted tree h.numbered.differ) here

  pub ready_then : (root : PlainWidget) (tree : PlainNode) → IsReadyTree b marks next root tree → Renewed depth_limit b.defaults tree (changed change wanted tree) → AreComponents left_marks (changed change wanted tree)
      → IsReadyTree b left_marks next root (changed change wanted tree)
  ready_then root tree h r components =
      let now = changed change wanted tree in
      record {
        widget = changed_widget change wanted tree ∙ h.widget;
        place = changed_index change wanted tree ∙ h.place;
        small = h.small;
        settled = r.sound.settled;
        fresh = r.sound.fresh;
        within = r.sound.within;
        few = subst (λ c. c ≤ b.nodes) (sym r.many.count) h.few;
        keyless = r.sound.keyless;
        numbered = record {
          differ = times_differ (numbers_of now) (λ x. subst (λ t. t ≤ 1) (sym (times_listed x now ∙ r.many.times x ∙ sym (times_listed x tree))) (differ_times x (numbers_of tree) h.numbered.differ));
          below = r.sound.below;
          placed = in_place now r.sound.settled;
        };
        components = components;
      }

-- ---- where those below it took widgets

module _ (equal : (v w : PlainWidget) → is_same_widget v w ≡ true → v ≡ w) (b : Blueprint) (marks : List ℕ) (next wanted : ℕ) (ws : List PlainWidget) (p : NodePlace) where
  abbrev left : List ℕ
  left = without wanted marks

  fewer : (k : ℕ) → Other wanted k → is_marked left k ≡ false → is_marked marks k ≡ false
  fewer k other e = sym (others_stay wanted k other marks) ∙ e

  renews_here : CanTakeAnew b ws p → RenewsAt b marks left left next wanted (all_retaking ws) p fewer
  renews_here can_now deep values before after number w fields scroll index children at h other =
      let q : NodePlace = record { node = node number w fields scroll index children; left = suc deep; values = values; before = before; after = after } in
      let can = subst (CanTakeAnew b ws) (sym (same_spot p q at)) can_now in
      let under : AllSound b marks left next deep (values_below w values) children =
      record { settled = h.settled.1; fresh = h.fresh.1; within = h.within; keyless = h.keyless.1; components = h.components.1; below = h.below.1 } in
      let all = all_retake b left left next equal deep (values_below w values) children ws (all_stay b marks left left next wanted (all_retaking ws) p fewer deep (values_below w values) children other under) can.can in
      let many = all_as_many deep children ws h.within can.can in
      record {
        sound = record {
          settled = (kids_above equal w children ws can.given.own can.can, all.settled);
          fresh = (λ e. subst (HasOutput b (build_role_of (look_of w)) w fields values number) (sym (kids_widgets equal children ws can.can)) can.given.output, all.fresh);
          within = all.within;
          keyless = (h.keyless.0, all.keyless);
          components = (h.components.0, all.components);
          below = (h.below.0, all.below);
        };
        many = record { count = ap suc many.count; times = λ k. ap (λ t. one_if (eqb number k) + t) (many.times k) };
      }

  retaken_whole : (root : PlainWidget) (tree : PlainNode) → IsReadyTree b marks next root tree → IsFirstMarked b marks wanted tree p → CanTakeAnew b ws p → Renews b left left next depth_limit b.defaults tree (retaken ws wanted tree)
  retaken_whole root tree h first can = whole b marks left left next wanted (all_retaking ws) p fewer root tree h (components_without wanted marks tree h.components) first.at (renews_here can)

  -- the tree is as many nodes, with the same numbers
  pub retaken_many : (root : PlainWidget) (tree : PlainNode) → IsReadyTree b marks next root tree → IsFirstMarked b marks wanted tree p → CanTakeAnew b ws p → AsMany tree (retaken ws wanted tree)
  retaken_many root tree h first can = (retaken_whole root tree h first can).many

  pub retaken_ready : (root : PlainWidget) (tree : PlainNode) → IsReadyTree b marks next root tree → IsFirstMarked b marks wanted tree p → CanTakeAnew b ws p → IsReadyTree b left next root (retaken ws wanted tree)
  retaken_ready root tree h first can =
      let r = retaken_whole root tree h first can in
      ready_then b marks left left next wanted (all_retaking ws) p fewer root tree h r r.sound.components
