-- What is laid out after several steps: the render nodes of the tree before them, with the looks and in the orders of all these steps.
use Rattle.std.proofs.Common.{◌≡◌, ℕ, ◌==◌, true, Option, Some, None, option_map, List, [], ◌∷◌, ◌++◌, map, refl, sym, ap, ◌∙◌, subst, ◌⊎◌, inl, inr}
use Rattle.std.specs.Prelude.{slice_get}
use Rattle.std.specs.List.{find}
use Rattle.std.specs.Option.{option_or, option_to_list}
use Rattle.std.proofs.lemmas.Bool.{cases_eq}
use Rattle.std.proofs.lemmas.List.{map-append}
use Rattle.std.proofs.lemmas.List.Folds.{find-append}
use Rattle.std.proofs.lemmas.Option.{slice_get-map}
use Rattle.widget_model.specs.Look.{Look}
use Rattle.widget_model.specs.Plain.{PlainWidget, look_of}
use Rattle.work_sets.specs.Members.{is_same_widget}
use Rattle.work_sets.proofs.Found.{IsIn}
use Rattle.reconcile.specs.Matching.{matching}
use Rattle.plain_tree.specs.declared.role.RenderRole.TheVariants.{Plain}
use Rattle.plain_tree.specs.At.{numbers_of, numbers_in}
use Rattle.plain_tree.specs.Laws.{VanishAlone}
use Rattle.plain_tree.specs.PlainNode.{PlainNode, node, PlainNodes, no_nodes, more_nodes, list_of, widget_of, index_of}
use Rattle.plain_tree.specs.Projection.{render_of}
use Rattle.plain_tree.specs.Render.{Render, render, Renders, no_renders, more_renders, renders_of}
use Rattle.build_form.specs.Entering.{Blueprint, depth_limit}
use Rattle.build_form.specs.Laws.{NumbersAre, AllNumbersAre}
use Rattle.build_walk.specs.Past.{is_marked}
use Rattle.settled_builds.specs.Looks.{NewLook, look_or, look_after}
use Rattle.settled_builds.specs.Moved.{having_index, AreSpotsAlike}
use Rattle.settled_builds.specs.Places.{NodePlace, spot_at}
use Rattle.settled_builds.specs.Rearranged.{NewOrder, at_some, at_all, order_or, order_after, TellsNothing, rearranged, all_rearranged, looks_in, orders_in, drawn_in, IsRearrangedFrom}
use Rattle.settled_builds.specs.Retaken.{retaken}
use Rattle.settled_builds.specs.Settled.{IsReadyTree}
use Rattle.settled_builds.specs.Steps.{IsFirstMarked, CanTakeAnew, without}
use Rattle.settled_builds.specs.Taken.{nodes_below}
use Rattle.settled_builds.proofs.Drawing.{again, listed, stays}
use Rattle.settled_builds.proofs.DrawingOn.{components_vanish, whole_rearranged}
use Rattle.settled_builds.proofs.Leading.{is_component}
use Rattle.settled_builds.proofs.Numbers.{both_so, of_numbers}
use Rattle.settled_builds.proofs.Once.{alone}
use Rattle.settled_builds.proofs.Readied.{retaken_many, retaken_ready}
use Rattle.settled_builds.proofs.SomeSpot.{from_spot}
use Rattle.settled_builds.proofs.SpotsStay.{spots_alike}
use Rattle.settled_builds.proofs.Telling.{untold_below}
use Rattle.settled_builds.proofs.Untold.{quiet}
use Rattle.settled_builds.proofs.UpTo.{first_is_marked}
use Rattle.settled_builds.proofs.Vanishing.{retaken_alone}
use Rattle.settled_builds.proofs.Without.{unmarked_there, were_marked}

-- ---- orders are of any list

module _ (h : Render → Render) where
  option_natural : (o : Option Render) → map h (option_to_list o) ≡ option_to_list (option_map h o)
  option_natural None = refl
  option_natural (Some x) = refl

  some_natural : (xs : List Render) (m : Option ℕ) → map h (at_some xs m) ≡ at_some (map h xs) m
  some_natural xs None = refl
  some_natural xs (Some j) = option_natural (slice_get xs j) ∙ ap option_to_list (sym (slice_get-map h xs j))

  all_natural : (xs : List Render) (ms : List (Option ℕ)) → map h (at_all xs ms) ≡ at_all (map h xs) ms
  all_natural xs [] = refl
  all_natural xs (m ∷ ms) = let one = some_natural xs m in let rest = all_natural xs ms in map-append h (at_some xs m) (at_all xs ms) ∙ (λ i. one i ++ rest i)

  order_natural : (o : Option NewOrder) (xs : List Render) → map h (order_or o xs) ≡ order_or o (map h xs)
  order_natural None xs = refl
  order_natural (Some o) xs = all_natural xs o.places

-- ---- one after another

or_none : {A : Type 0} (o : Option A) → option_or o None ≡ o
or_none None = refl
or_none (Some x) = refl

module _ (was now : List NewLook) (before after : List NewOrder) (apart : (k : ℕ) → TellsNothing was before k ⊎ TellsNothing now after k) where
  abbrev look_at : ℕ → List NewLook → Option NewLook
  look_at k ls = find (λ l. l.number == k) ls

  abbrev order_at : ℕ → List NewOrder → Option NewOrder
  order_at k os = find (λ o. o.number == k) os

  looks_join : (k : ℕ) (l : Look) → look_after now k (look_after was k l) ≡ look_after (was ++ now) k l
  looks_join k l = elim (apart k) [
    | inl none ↦ ap (look_after now k) (ap (λ (o : Option NewLook). look_or o l) none.0)
        ∙ sym (ap (λ (o : Option NewLook). look_or o l) (find-append (λ x. x.number == k) was now ∙ ap (λ (o : Option NewLook). option_or o (look_at k now)) none.0))
    | inr none ↦ ap (λ (o : Option NewLook). look_or o (look_after was k l)) none.0
        ∙ sym (ap (λ (o : Option NewLook). look_or o l) (find-append (λ x. x.number == k) was now ∙ ap (option_or (look_at k was)) none.0 ∙ or_none (look_at k was)))
  ]

  orders_join : (k : ℕ) (xs : List Render) → order_after after k (order_after before k xs) ≡ order_after (before ++ after) k xs
  orders_join k xs = elim (apart k) [
    | inl none ↦ ap (order_after after k) (ap (λ (o : Option NewOrder). order_or o xs) none.1)
        ∙ sym (ap (λ (o : Option NewOrder). order_or o xs) (find-append (λ x. x.number == k) before after ∙ ap (λ (o : Option NewOrder). option_or o (order_at k after)) none.1))
    | inr none ↦ ap (λ (o : Option NewOrder). order_or o (order_after before k xs)) none.1
        ∙ sym (ap (λ (o : Option NewOrder). order_or o xs) (find-append (λ x. x.number == k) before after ∙ ap (option_or (order_at k before)) none.1 ∙ or_none (order_at k before)))
  ]

  mutual
    twice : (r : Render) → rearranged (look_after now) (order_after after) (rearranged (look_after was) (order_after before) r) ≡ rearranged (look_after (was ++ now)) (order_after (before ++ after)) r
    twice (render number look d s c rs) =
        let zs = all_rearranged (look_after was) (order_after before) rs in
        let all = all_rearranged (look_after (was ++ now)) (order_after (before ++ after)) rs in
        let f = look_after now in
        let g : ℕ → List Render → List Render = order_after after in
        let under : order_after after number (all_rearranged f g (renders_of (order_after before number zs))) ≡ order_after (before ++ after) number all =
        ap (order_after after number)
        (listed f g (order_after before number zs) ∙ order_natural (again f g) (order_at number before) zs ∙ ap (order_after before number) (sym (listed f g zs) ∙ all_twice rs))
        ∙ orders_join number all in
        let kind = looks_join number look in
        λ i. render number (kind i) d s c (renders_of (under i))

    pub all_twice : (rs : Renders) → all_rearranged (look_after now) (order_after after) (renders_of (all_rearranged (look_after was) (order_after before) rs)) ≡ all_rearranged (look_after (was ++ now)) (order_after (before ++ after)) rs
    all_twice no_renders = refl
    all_twice (more_renders r rs) = let one = twice r in let rest = all_twice rs in λ i. one i ∷ rest i

-- ---- numbers of a tree

is_in : (k : ℕ) (xs : List ℕ) → IsIn k xs ⊎ (IsIn k xs → ⊥)
is_in k [] = inr (λ h. h)
is_in k (x ∷ xs) = elim (cases_eq k x) [
  | inl e ↦ inl (inl e)
  | inr e ↦ elim (is_in k xs) [
    | inl h ↦ inl (inr h)
    | inr h ↦ inr (λ y. elim y [
      | inl z ↦ e z
      | inr z ↦ h z
    ])
  ]
]

in_either : (k : ℕ) (xs ys : List ℕ) → IsIn k (xs ++ ys) → IsIn k xs ⊎ IsIn k ys
in_either k [] ys h = inr h
in_either k (x ∷ xs) ys (inl e) = inl (inl e)
in_either k (x ∷ xs) ys (inr h) = elim (in_either k xs ys h) [
  | inl z ↦ inl (inr z)
  | inr z ↦ inr z
]

module _ (P : ℕ → Type 0) (k : ℕ) where
  mutual
    so_at : (n : PlainNode) → NumbersAre P n → IsIn k (numbers_of n) → P k
    so_at (node number w fs s i ns) h (inl e) = subst P (sym e) h.0
    so_at (node number w fs s i ns) h (inr x) = all_so_at ns h.1 x

    all_so_at : (ns : PlainNodes) → AllNumbersAre P ns → IsIn k (numbers_in ns) → P k
    all_so_at no_nodes h x = absurd x
    all_so_at (more_nodes n ns) h x = elim (in_either k (numbers_of n) (numbers_in ns) x) [
      | inl y ↦ so_at n h.0 y
      | inr y ↦ all_so_at ns h.1 y
    ]

below_in : (k : ℕ) (n : PlainNode) → IsIn k (numbers_in (nodes_below n)) → IsIn k (numbers_of n)
below_in k (node number w fs s i ns) h = inr h

index_free : (P : ℕ → Type 0) (j : ℕ) (n : PlainNode) → NumbersAre P n → NumbersAre P (having_index j n)
index_free P j (node number w fs s i ns) h = h

-- ---- from step to step

pub begins : (b : Blueprint) (marks : List ℕ) (tree : PlainNode) → VanishAlone tree → IsRearrangedFrom b marks [] [] tree tree
begins b marks tree vanish =
    record {
      drawn =
          stays (look_after []) (order_after []) Plain None tree (λ k x. record { look = λ l. refl; order = λ xs. refl })
          ∙ sym (listed (look_after []) (order_after []) (render_of tree));
      alone = vanish;
      untold = λ k p marked at. of_numbers (TellsNothing [] []) p.node (λ x inside. (refl, refl));
    }

pub left_so : (b : Blueprint) (marks : List ℕ) (wanted : ℕ) (looks : List NewLook) (orders : List NewOrder) (old tree : PlainNode) → IsRearrangedFrom b marks looks orders old tree → IsRearrangedFrom b (without wanted marks) looks orders old tree
left_so b marks wanted looks orders old tree h =
    record { drawn = h.drawn; alone = h.alone; untold = λ k p marked at. h.untold k p (were_marked wanted k marks marked) at }

module _ (equal : (v w : PlainWidget) → is_same_widget v w ≡ true → v ≡ w) (b : Blueprint) (marks : List ℕ) (wanted next : ℕ) (root : PlainWidget) (tree : PlainNode) (p : NodePlace) (ws : List PlainWidget)
    (ready : IsReadyTree b marks next root tree) (first : IsFirstMarked b marks wanted tree p) (can : CanTakeAnew b ws p) where
  another : (k : ℕ) → is_marked (without wanted marks) k ≡ true → k ≡ wanted → ⊥
  another k marked e = let none = unmarked_there wanted marks in let some = ap (is_marked (without wanted marks)) (sym e) ∙ marked in cc

  pub spots_stay : (k : ℕ) → is_marked (without wanted marks) k ≡ true → AreSpotsAlike (spot_at k depth_limit b.defaults 0 0 tree) (spot_at k depth_limit b.defaults 0 0 (retaken ws wanted tree))
  spots_stay k marked =
      let now = retaken_ready equal b marks next wanted ws p root tree ready first can in
      spots_alike k marks (were_marked wanted k marks marked) wanted (first_is_marked marks tree wanted first.first) (another k marked) b ws p can.can depth_limit b.defaults tree first.at ready.components first.first ready.within
      (alone k tree ready.numbered.differ) (alone k (retaken ws wanted tree) now.numbered.differ) (λ x. (retaken_many equal b marks next wanted ws p root tree ready first can).times x)

  pub rearranged_once : VanishAlone tree → drawn_in ws p.node ≡ true → render_of (retaken ws wanted tree) ≡ all_rearranged (look_after (looks_in ws p.node)) (order_after (orders_in ws p.node)) (renders_of (render_of tree))
  rearranged_once vanish drawn =
      whole_rearranged wanted ws p (components_vanish (look_of (widget_of p.node)) (is_component b marks wanted next root tree p ready first)) can.can drawn depth_limit b.defaults tree first.at ready.within vanish ready.numbered.differ

  module _ (looks : List NewLook) (orders : List NewOrder) (old : PlainNode) (was : IsRearrangedFrom b marks looks orders old tree) where
    either : (k : ℕ) → TellsNothing looks orders k ⊎ TellsNothing (looks_in ws p.node) (orders_in ws p.node) k
    either k = elim (is_in k (numbers_of p.node)) [
      | inl h ↦ inl (so_at (TellsNothing looks orders) k p.node (was.untold wanted p (first_is_marked marks tree wanted first.first) first.at) h)
      | inr h ↦ inr (untold_below k (nodes_below p.node) ws (matching (map widget_of (list_of (nodes_below p.node))) ws) (λ y. h (below_in k p.node y)))
    ]

    abbrev Nothing : ℕ → Type 0
    Nothing = TellsNothing (looks ++ looks_in ws p.node) (orders ++ orders_in ws p.node)

    neither : (k : ℕ) → TellsNothing looks orders k → TellsNothing (looks_in ws p.node) (orders_in ws p.node) k → Nothing k
    neither k h y = (
      find-append (λ x. x.number == k) looks (looks_in ws p.node) ∙ (λ i. option_or (h.0 i) (y.0 i)),
      find-append (λ x. x.number == k) orders (orders_in ws p.node) ∙ (λ i. option_or (h.1 i) (y.1 i)),
    )

    still_untold : (k : ℕ) (q : NodePlace) → is_marked (without wanted marks) k ≡ true → spot_at k depth_limit b.defaults 0 0 tree ≡ Some q → NumbersAre Nothing q.node
    still_untold k q marked at =
        let were = were_marked wanted k marks marked in
        both_so (TellsNothing looks orders) (TellsNothing (looks_in ws p.node) (orders_in ws p.node)) Nothing neither q.node (was.untold k q were at)
        (of_numbers (TellsNothing (looks_in ws p.node) (orders_in ws p.node)) q.node
        (λ x inside.
        quiet k q x inside marks were wanted (first_is_marked marks tree wanted first.first) (another k marked) b ws p can.can depth_limit b.defaults 0 0 tree first.at ready.components ready.numbered.differ first.first
        (from_spot k q depth_limit b.defaults 0 0 tree at)))

    untold_now : (k : ℕ) (r : NodePlace) → is_marked (without wanted marks) k ≡ true → (o : Option NodePlace) → spot_at k depth_limit b.defaults 0 0 tree ≡ o → AreSpotsAlike o (Some r) → NumbersAre Nothing r.node
    untold_now k r marked None at alike = absurd alike
    untold_now k r marked (Some q) at alike = subst (NumbersAre Nothing) (sym alike.node) (index_free Nothing (index_of r.node) q.node (still_untold k q marked at))

    pub goes_on : drawn_in ws p.node ≡ true → IsRearrangedFrom b (without wanted marks) (looks ++ looks_in ws p.node) (orders ++ orders_in ws p.node) old (retaken ws wanted tree)
    goes_on drawn =
        record {
          drawn =
              rearranged_once was.alone drawn ∙ ap (λ (rs : List Render). all_rearranged (look_after (looks_in ws p.node)) (order_after (orders_in ws p.node)) (renders_of rs)) was.drawn
              ∙ all_twice looks (looks_in ws p.node) orders (orders_in ws p.node) either (renders_of (render_of old));
          alone = retaken_alone wanted ws p can.can depth_limit b.defaults tree first.at ready.within was.alone;
          untold = λ k r marked at.
              untold_now k r marked (spot_at k depth_limit b.defaults 0 0 tree) refl (subst (AreSpotsAlike (spot_at k depth_limit b.defaults 0 0 tree)) at (spots_stay k marked));
        }
