-- What is laid out of nodes that take widgets are the same render nodes, with the looks and in the orders of these widgets.
use Rattle.std.proofs.Common.{◌≡◌, ℕ, zero, suc, Bool, true, false, not, ◌&&◌, ◌||◌, cond, Option, Some, None, List, [], ◌∷◌, ◌++◌, map, length, refl, sym, ap, ◌∙◌, inl, inr, arith}
use Rattle.std.specs.Prelude.{slice_get}
use Rattle.std.specs.Option.{option_to_list}
use Rattle.std.proofs.lemmas.Bool.{eq-eqb, and_parts}
use Rattle.std.proofs.lemmas.List.{map-append, append-nil}
use Rattle.fx_expr.specs.declared.values.Value.{Value}
use Rattle.widget_model.specs.Look.{Look, sliver_lazy}
use Rattle.widget_model.specs.Plain.{PlainWidget, look_of}
use Rattle.widget_model.specs.Plain.{children_of as child_widgets}
use Rattle.widget_model.specs.Update.{updates}
use Rattle.widget_model.specs.UpdateLaws.{updates_mean}
use Rattle.work_sets.specs.Members.{is_same_widget}
use Rattle.work_sets.proofs.Found.{IsIn, differs_in, in_left, in_right}
use Rattle.reconcile.specs.Matching.{matching}
use Rattle.reconcile.proofs.LawLemmas.{length-matching}
use Rattle.plain_tree.specs.declared.render.ParentData.{ParentData}
use Rattle.plain_tree.specs.declared.role.RenderRole.{RenderRole}
use Rattle.plain_tree.specs.At.{numbers_of, numbers_in}
use Rattle.plain_tree.specs.Laws.{DiffersFrom, AllDiffer, IsOne, OneWhere, VanishAlone, AllVanishAlone}
use Rattle.plain_tree.specs.PlainNode.{PlainNode, node, PlainNodes, no_nodes, more_nodes, nodes_of, list_of, widget_of}
use Rattle.plain_tree.specs.Projection.{told_by, told_at, scroll_in, projected, projected_all}
use Rattle.plain_tree.specs.Render.{Render, render, renders_of, lazy_count}
use Rattle.plain_tree.specs.RenderRole.{render_role_of, vanishes}
use Rattle.build_form.specs.BuildRole.{build_role_of}
use Rattle.settled_builds.specs.Looks.{NewLook, new_look, look_or, look_after}
use Rattle.settled_builds.specs.Rearranged.{NewOrder, looks_retaken, each_looks, orders_retaken, each_order, are_retaken_drawn, each_drawn, at_some, at_all, order_or, order_after, rearranged, all_rearranged}
use Rattle.settled_builds.specs.Retaken.{gathered, asked_by, all_asked, are_apart, can_follow_all, can_retake, each_can, retaking}
use Rattle.settled_builds.specs.Settled.{IsWithin}
use Rattle.settled_builds.specs.Taken.{has_own_children}
use Rattle.settled_builds.proofs.Alike.{take, each_can_is, asked_child, gathered_child}
use Rattle.settled_builds.proofs.Redrawing.{looks_draw, counts_alike}
use Rattle.settled_builds.proofs.Retakes.{kids, kids_are, Follows, within_at}
use Rattle.settled_builds.proofs.Telling.{told, told_later, told_of_child, look_number, order_number, no_look, no_order, each_looks_is, each_order_is, each_drawn_is, child_is, in_child, alone_at, differ_at, child_at, asked_there, taken_once}

-- ---- each node that vanishes alone gives one render node

one_by : (gone : Bool) (r : Render) (through : List Render) (ns : PlainNodes) → (IsOne ns → length through ≡ 1) → OneWhere gone ns → length (cond gone through (r ∷ [])) ≡ 1
one_by true r through ns h one = h one
one_by false r through ns h one = refl

mutual
  unfolding projected

  pub one_drawn : (above : RenderRole) (heard : Option ParentData) (n : PlainNode) → VanishAlone n → length (projected above heard n) ≡ 1
  one_drawn above heard (node number w fs s i ns) h =
      let role = render_role_of (look_of w) in
      let d = told_at above heard i in
      one_by (vanishes role) (render number (look_of w) d (scroll_in role s) (lazy_count role (child_widgets w)) (renders_of (projected_all role None ns)))
      (projected_all above (Some (told_by above role d)) ns) ns (λ one. one_through above (Some (told_by above role d)) ns one h.1) h.0

  pub one_through : (above : RenderRole) (heard : Option ParentData) (ns : PlainNodes) → IsOne ns → AllVanishAlone ns → length (projected_all above heard ns) ≡ 1
  one_through above heard no_nodes one h = absurd one
  one_through above heard (more_nodes n no_nodes) one h = ap length (append-nil (projected above heard n)) ∙ one_drawn above heard n h.0
  one_through above heard (more_nodes n (more_nodes m ns)) one h = absurd one

-- ---- the place of a node among others tells it nothing

abbrev pub Placeless : RenderRole → Option ParentData → Type 0
Placeless above heard = (i j : ℕ) → told_at above heard i ≡ told_at above heard j

-- below a kind that has its own children
pub own_placeless : (l : Look) → has_own_children (build_role_of l) ≡ true → Placeless (render_role_of l) None
own_placeless (sliver_lazy extent) own = cc
own_placeless l own = λ i j. refl

-- and below one that told it something
pub heard_placeless : (above : RenderRole) (d : ParentData) → Placeless above (Some d)
heard_placeless above d i j = refl

placed : (above : RenderRole) (heard : Option ParentData) → Placeless above heard → (number : ℕ) (w : PlainWidget) (fs : List Value) (s i j : ℕ) (ns : PlainNodes)
    → projected above heard (node number w fs s j ns) ≡ projected above heard (node number w fs s i ns)
unfolding projected
placed above heard free number w fs s i j ns =
    let role = render_role_of (look_of w) in
    ap
    (λ (d : ParentData).
    cond {A = List Render} (vanishes role) (projected_all above (Some (told_by above role d)) ns)
    (render number (look_of w) d (scroll_in role s) (lazy_count role (child_widgets w)) (renders_of (projected_all role None ns)) ∷ []))
    (free j i)

not_so : (b : Bool) → not b ≡ true → b ≡ false
not_so true e = cc
not_so false e = refl

module _ (f : ℕ → Look → Look) (g : ℕ → List Render → List Render) where
  abbrev pub again : Render → Render
  again r = rearranged f g r

  pub listed : (xs : List Render) → all_rearranged f g (renders_of xs) ≡ map again xs
  listed [] = refl
  listed (x ∷ xs) = ap (λ ys. again x ∷ ys) (listed xs)

  -- a number has the look and the order that it had
  pub record Stays (k : ℕ) : Type 0 where
    pub look : (l : Look) → f k l ≡ l
    pub order : (xs : List Render) → g k xs ≡ xs

  -- or those that are told
  pub record Tells (looks : List NewLook) (orders : List NewOrder) (ks : List ℕ) : Type 0 where
    pub look : (k : ℕ) → IsIn k ks → (l : Look) → f k l ≡ look_after looks k l
    pub order : (k : ℕ) → IsIn k ks → (xs : List Render) → g k xs ≡ order_after orders k xs

  drawn_node : (number : ℕ) (l m : Look) (d e : ParentData) (s r c a : ℕ) (below now : List Render) → m ≡ f number l → e ≡ d → r ≡ s → a ≡ c → now ≡ g number (map again below)
      → render number m e r a (renders_of now) ≡ again (render number l d s c (renders_of below))
  drawn_node number l m d e s r c a below now look say scroll count order =
      let under : now ≡ g number (all_rearranged f g (renders_of below)) = order ∙ ap (g number) (sym (listed below)) in λ x. render number (look x) (say x) (scroll x) (count x) (renders_of (under x))

  -- ---- nodes of which nothing changes

  stays_by : (gone : Bool) (number : ℕ) (l : Look) (d : ParentData) (s c : ℕ) (below now xs ys : List Render) → Stays number → now ≡ map again below → ys ≡ map again xs
      → cond gone ys (render number l d s c (renders_of now) ∷ []) ≡ map again (cond gone xs (render number l d s c (renders_of below) ∷ []))
  stays_by true number l d s c below now xs ys stays under through = through
  stays_by false number l d s c below now xs ys stays under through = ap (λ r. r ∷ []) (drawn_node number l l d d s s c c below now (sym (stays.look l)) refl refl refl (under ∙ sym (stays.order (map again below))))

  pub stays_node : (above : RenderRole) (heard : Option ParentData) (number : ℕ) (w : PlainWidget) (fs : List Value) (s i : ℕ) (ns ms : PlainNodes) → Stays number
      → ((role : RenderRole) (told_so : Option ParentData) → projected_all role told_so ms ≡ map again (projected_all role told_so ns))
      → projected above heard (node number w fs s i ms) ≡ map again (projected above heard (node number w fs s i ns))
  unfolding projected
  stays_node above heard number w fs s i ns ms stays all =
      let role = render_role_of (look_of w) in
      let d = told_at above heard i in
      stays_by (vanishes role) number (look_of w) d (scroll_in role s) (lazy_count role (child_widgets w)) (projected_all role None ns) (projected_all role None ms)
      (projected_all above (Some (told_by above role d)) ns) (projected_all above (Some (told_by above role d)) ms) stays (all role None) (all above (Some (told_by above role d)))

  mutual
    unfolding projected_all

    pub stays : (above : RenderRole) (heard : Option ParentData) (n : PlainNode) → ((k : ℕ) → IsIn k (numbers_of n) → Stays k) → projected above heard n ≡ map again (projected above heard n)
    stays above heard (node number w fs s i ns) h = stays_node above heard number w fs s i ns ns (h number (inl refl)) (λ role told_so. all_stay role told_so ns (λ k x. h k (inr x)))

    pub all_stay : (above : RenderRole) (heard : Option ParentData) (ns : PlainNodes) → ((k : ℕ) → IsIn k (numbers_in ns) → Stays k) → projected_all above heard ns ≡ map again (projected_all above heard ns)
    all_stay above heard no_nodes h = refl
    all_stay above heard (more_nodes n ns) h =
        let one = stays above heard n (λ k x. h k (in_left k (numbers_of n) (numbers_in ns) x)) in
        let rest = all_stay above heard ns (λ k x. h k (in_right k (numbers_of n) (numbers_in ns) x)) in
        (λ at. one at ++ rest at) ∙ sym (map-append again (projected above heard n) (projected_all above heard ns))

  -- ---- one render node of each child

  first_one : (xs ys : List Render) → length xs ≡ 1 → option_to_list (slice_get (map again (xs ++ ys)) 0) ≡ map again xs
  first_one [] ys one = absurd (omega arith)
  first_one (x ∷ []) ys one = refl
  first_one (x ∷ y ∷ zs) ys one = absurd (omega arith)

  later_one : (xs ys : List Render) (j : ℕ) → length xs ≡ 1 → slice_get (map again (xs ++ ys)) (suc j) ≡ slice_get (map again ys) j
  later_one [] ys j one = absurd (omega arith)
  later_one (x ∷ []) ys j one = refl
  later_one (x ∷ y ∷ zs) ys j one = absurd (omega arith)

  child_drawn : (above : RenderRole) (heard : Option ParentData) (ns : PlainNodes) → AllVanishAlone ns → (j : ℕ) (c : PlainNode) → slice_get (list_of ns) j ≡ Some c
      → at_some (map again (projected_all above heard ns)) (Some j) ≡ map again (projected above heard c)
  unfolding projected_all
  child_drawn above heard no_nodes alone j c at = absurd (cc)
  child_drawn above heard (more_nodes n ns) alone zero c at =
      first_one (projected above heard n) (projected_all above heard ns) (one_drawn above heard n alone.0) ∙ ap (λ m. map again (projected above heard m)) (child_is n c at)
  child_drawn above heard (more_nodes n ns) alone (suc j) c at =
      ap option_to_list (later_one (projected above heard n) (projected_all above heard ns) j (one_drawn above heard n alone.0)) ∙ child_drawn above heard ns alone.1 j c at

  -- ---- children that take widgets

  module _ (above : RenderRole) (heard : Option ParentData) (ns : PlainNodes) (xs : List Render) where
    gathered_drawn : (place : ℕ) (ws : List PlainWidget) (ms : List (Option ℕ)) → length ms ≡ length ws → all_asked (map can_retake (list_of ns)) ws ms ≡ true
        → ((i j : ℕ) (c : PlainNode) (w : PlainWidget) (new : ℕ) → slice_get ws i ≡ Some w → slice_get ms i ≡ Some (Some j) → slice_get (list_of ns) j ≡ Some c → can_retake c w ≡ true
        → projected above heard (retaking c w new) ≡ at_some xs (Some j))
        → projected_all above heard (nodes_of (gathered (map take (list_of ns)) place ws ms)) ≡ at_all xs ms
    unfolding projected_all
    gathered_drawn place [] [] long can step = refl
    gathered_drawn place [] (m ∷ ms) long can step = absurd (omega arith)
    gathered_drawn place (w ∷ ws) [] long can step = absurd (cc)
    gathered_drawn place (w ∷ ws) (None ∷ ms) long can step = absurd (cc)
    gathered_drawn place (w ∷ ws) (Some j ∷ ms) long can step =
        let parts = and_parts _ (all_asked (map can_retake (list_of ns)) ws ms) can in
        let c = asked_child (list_of ns) j w parts.0 in
        let more : length ms ≡ length ws = omega (arith, long) in
        let rest = gathered_drawn (suc place) ws ms more parts.1 (λ i h d v new here from at ok. step (suc i) h d v new here from at ok) in
        let one = step 0 j c.child w place refl refl c.at c.can in
        ap (λ (ys : List PlainNode). projected_all above heard (nodes_of (ys ++ gathered (map take (list_of ns)) (suc place) ws ms))) (gathered_child (list_of ns) j w place c.child c.at)
        ∙ (λ x. one x ++ rest x)

  -- what each child that takes a widget is to give
  abbrev Redraws : RenderRole → Option ParentData → PlainNodes → Type 0
  Redraws above heard ns =
      (j : ℕ) (c : PlainNode) (w : PlainWidget) (place : ℕ) → slice_get (list_of ns) j ≡ Some c → can_retake c w ≡ true → are_retaken_drawn c w ≡ true → VanishAlone c → AllDiffer (numbers_of c)
      → Tells (looks_retaken c w) (orders_retaken c w) (numbers_of c) → projected above heard (retaking c w place) ≡ map again (projected above heard c)

  module _ (above : RenderRole) (heard : Option ParentData) (ns : PlainNodes) (ws : List PlainWidget) where
    abbrev ms : List (Option ℕ)
    ms = matching (map widget_of (list_of ns)) ws

    abbrev pub TellsBelow : Type 0
    TellsBelow = Tells (gathered (each_looks ns) 0 ws ms) (gathered (each_order ns) 0 ws ms) (numbers_in ns)

    child_tells : AllDiffer (numbers_in ns) → are_apart ws ≡ true → TellsBelow → (i j : ℕ) (c : PlainNode) (w : PlainWidget) → slice_get ws i ≡ Some w → slice_get ms i ≡ Some (Some j) → slice_get (list_of ns) j ≡ Some c
        → Tells (looks_retaken c w) (orders_retaken c w) (numbers_of c)
    child_tells differ apart tells i j c w here from at =
        let once : (h : ℕ) → slice_get ms h ≡ Some (Some j) → h ≡ i = λ h e. taken_once (map widget_of (list_of ns)) ws apart h i j e from in
        record {
          look = λ k x l.
              tells.look k (in_child k j ns c at x) l
              ∙ ap (λ (o : Option NewLook). look_or o l) (told_of_child look_number k looks_retaken (each_looks ns) ns (each_looks_is ns) (no_look k) differ j c w at x ws ms i here from once);
          order = λ k x ys.
              tells.order k (in_child k j ns c at x) ys
              ∙ ap (λ (o : Option NewOrder). order_or o ys) (told_of_child order_number k orders_retaken (each_order ns) ns (each_order_is ns) (no_order k) differ j c w at x ws ms i here from once);
        }

    pub kids_drawn : Redraws above heard ns → Follows ns ws → all_asked (each_drawn ns) ws ms ≡ true → AllVanishAlone ns → AllDiffer (numbers_in ns) → TellsBelow
        → projected_all above heard (kids ns ws) ≡ at_all (map again (projected_all above heard ns)) ms
    kids_drawn step can drawn alone differ tells =
        let long = and_parts _ (are_apart ws && all_asked (each_can ns) ws ms) can in
        let apart = and_parts (are_apart ws) (all_asked (each_can ns) ws ms) long.1 in
        let asked : all_asked (map can_retake (list_of ns)) ws ms ≡ true = ap (λ cs. all_asked cs ws ms) (sym (each_can_is ns)) ∙ apart.1 in
        sym (ap (projected_all above heard) (kids_are ns ws))
        ∙ gathered_drawn above heard ns (map again (projected_all above heard ns)) 0 ws ms (length-matching (map widget_of (list_of ns)) ws) asked
        (λ i j c w new here from at ok.
        step j c w new at ok (drawn_child i j c w here from at) (alone_at ns alone j c at) (differ_at ns differ j c at) (child_tells differ apart.0 tells i j c w here from at)
        ∙ sym (child_drawn above heard ns alone j c at))
      where
        drawn_child : (i j : ℕ) (c : PlainNode) (w : PlainWidget) → slice_get ws i ≡ Some w → slice_get ms i ≡ Some (Some j) → slice_get (list_of ns) j ≡ Some c → are_retaken_drawn c w ≡ true
        drawn_child i j c w here from at =
            ap (λ (o : Option (PlainWidget → Bool)). asked_by o w) (sym (child_at are_retaken_drawn (each_drawn ns) (list_of ns) j (Some c) (each_drawn_is ns) at)) ∙ asked_there (each_drawn ns) ws ms i j w drawn here from

  -- ---- a node that takes a widget

  drawn_by : (gone : Bool) (number : ℕ) (l m : Look) (d e : ParentData) (s r c a : ℕ) (below now xs ys : List Render) → gone ≡ false → m ≡ f number l → e ≡ d → r ≡ s → a ≡ c → now ≡ g number (map again below)
      → cond gone ys (render number m e r a (renders_of now) ∷ []) ≡ map again (cond gone xs (render number l d s c (renders_of below) ∷ []))
  drawn_by true number l m d e s r c a below now xs ys drawn look say scroll count order = cc
  drawn_by false number l m d e s r c a below now xs ys drawn look say scroll count order = ap (λ x. x ∷ []) (drawn_node number l m d e s r c a below now look say scroll count order)

  taken_node : (above : RenderRole) (heard : Option ParentData) → Placeless above heard → (number : ℕ) (v w : PlainWidget) (fs : List Value) (s i place : ℕ) (ns ms : PlainNodes)
      → render_role_of (look_of w) ≡ render_role_of (look_of v) → vanishes (render_role_of (look_of v)) ≡ false
      → lazy_count (render_role_of (look_of v)) (child_widgets w) ≡ lazy_count (render_role_of (look_of v)) (child_widgets v) → look_of w ≡ f number (look_of v)
      → projected_all (render_role_of (look_of v)) None ms ≡ g number (map again (projected_all (render_role_of (look_of v)) None ns))
      → projected above heard (node number w fs s place ms) ≡ map again (projected above heard (node number v fs s i ns))
  unfolding projected
  taken_node above heard free number v w fs s i place ns ms role_is drawn count look order =
      let was = render_role_of (look_of v) in
      (λ x.
      cond {A = List Render} (vanishes (role_is x)) (projected_all above (Some (told_by above (role_is x) (told_at above heard place))) ms)
      (render number (look_of w) (told_at above heard place) (scroll_in (role_is x) s) (lazy_count (role_is x) (child_widgets w)) (renders_of (projected_all (role_is x) None ms)) ∷ []))
      ∙ drawn_by (vanishes was) number (look_of v) (look_of w) (told_at above heard i) (told_at above heard place) (scroll_in was s) (scroll_in was s) (lazy_count was (child_widgets v)) (lazy_count was (child_widgets w))
      (projected_all was None ns) (projected_all was None ms) (projected_all above (Some (told_by above was (told_at above heard i))) ns) (projected_all above (Some (told_by above was (told_at above heard place))) ms)
      drawn look (free place i) refl count order

  -- what is told of those below a node, where its number is another one
  below_tells : (number : ℕ) (ks : List ℕ) (look : Look) (places : List (Option ℕ)) (looks : List NewLook) (orders : List NewOrder) → DiffersFrom number ks
      → Tells (new_look number look ∷ looks) (record { number = number; places = places } ∷ orders) (number ∷ ks) → Tells looks orders ks
  below_tells number ks look places looks orders differ tells =
      record {
        look = λ k x l. tells.look k (inr x) l ∙ ap (λ (o : Option NewLook). look_or o l) (told_later look_number k (new_look number look) looks (differs_in k number ks differ x));
        order = λ k x ys. tells.order k (inr x) ys ∙ ap (λ (o : Option NewOrder). order_or o ys) (told_later order_number k (record { number = number; places = places }) orders (differs_in k number ks differ x));
      }

  own_look : (number : ℕ) (ks : List ℕ) (was now : Look) (looks : List NewLook) (orders : List NewOrder) → Tells (new_look number now ∷ looks) orders (number ∷ ks) → now ≡ f number was
  own_look number ks was now looks orders tells =
      sym (tells.look number (inl refl) was ∙ ap (λ (b : Bool). look_or (cond b (Some (new_look number now)) (told look_number number looks)) was) (eq-eqb number number refl))

  own_order : (number : ℕ) (ks : List ℕ) (places : List (Option ℕ)) (looks : List NewLook) (orders : List NewOrder) (xs : List Render) → Tells looks (record { number = number; places = places } ∷ orders) (number ∷ ks)
      → g number xs ≡ at_all xs places
  own_order number ks places looks orders xs tells =
      let new : NewOrder = record { number = number; places = places } in
      tells.order number (inl refl) xs ∙ ap (λ (b : Bool). order_or (cond b (Some new) (told order_number number orders)) xs) (eq-eqb number number refl)

  taking_by : (same : Bool) (above : RenderRole) (heard : Option ParentData) → Placeless above heard → (number : ℕ) (v w : PlainWidget) (fs : List Value) (s i place : ℕ) (ns : PlainNodes)
      → ((role : RenderRole) → Placeless role None → Redraws role None ns)
      → (same || (updates v w && (has_own_children (build_role_of (look_of v)) && (has_own_children (build_role_of (look_of w)) && can_follow_all (map widget_of (list_of ns)) (child_widgets w) (each_can ns))))) ≡ true
      → (same || (not (vanishes (render_role_of (look_of v))) && all_asked (each_drawn ns) (child_widgets w) (matching (map widget_of (list_of ns)) (child_widgets w)))) ≡ true → AllVanishAlone ns
      → DiffersFrom number (numbers_in ns) → AllDiffer (numbers_in ns)
      → Tells (cond same [] (new_look number (look_of w) ∷ gathered (each_looks ns) 0 (child_widgets w) (matching (map widget_of (list_of ns)) (child_widgets w))))
      (cond same [] (record { number = number; places = matching (map widget_of (list_of ns)) (child_widgets w) } ∷ gathered (each_order ns) 0 (child_widgets w) (matching (map widget_of (list_of ns)) (child_widgets w)))) (number ∷ numbers_in ns)
      → projected above heard (cond same (node number v fs s place ns) (node number w fs s place (kids ns (child_widgets w)))) ≡ map again (projected above heard (node number v fs s i ns))
  taking_by true above heard free number v w fs s i place ns step can drawn alone d differ tells =
      placed above heard free number v fs s i place ns ∙ stays above heard (node number v fs s i ns) (λ k x. record { look = λ l. tells.look k x l; order = λ xs. tells.order k x xs })
  taking_by false above heard free number v w fs s i place ns step can drawn alone d differ tells =
      let c0 = and_parts (updates v w) _ can in
      let c1 = and_parts (has_own_children (build_role_of (look_of v))) _ c0.1 in
      let c2 = and_parts (has_own_children (build_role_of (look_of w))) _ c1.1 in
      let d0 = and_parts (not (vanishes (render_role_of (look_of v)))) _ drawn in
      let gone = not_so (vanishes (render_role_of (look_of v))) d0.0 in
      let ws = child_widgets w in
      let ms = matching (map widget_of (list_of ns)) ws in
      let role = render_role_of (look_of v) in
      let looks = gathered (each_looks ns) 0 ws ms in
      let orders = gathered (each_order ns) 0 ws ms in
      let free_below = own_placeless (look_of v) c1.0 in
      let below = below_tells number (numbers_in ns) (look_of w) ms looks orders d tells in
      taken_node above heard free number v w fs s i place ns (kids ns ws) (looks_draw (look_of v) (look_of w) ((updates_mean v w).0 c0.0).type gone) gone (counts_alike (look_of v) ws (child_widgets v) c1.0)
      (own_look number (numbers_in ns) (look_of v) (look_of w) looks (record { number = number; places = ms } ∷ orders) tells)
      (kids_drawn role None ns ws (step role free_below) c2.1 d0.1 alone differ below
      ∙ sym (own_order number (numbers_in ns) ms (new_look number (look_of w) ∷ looks) orders (map again (projected_all role None ns)) tells))

  pub taking_drawn : (left : ℕ) (above : RenderRole) (heard : Option ParentData) → Placeless above heard → (n : PlainNode) (w : PlainWidget) (place : ℕ) → IsWithin left n → can_retake n w ≡ true → are_retaken_drawn n w ≡ true
      → VanishAlone n → AllDiffer (numbers_of n) → Tells (looks_retaken n w) (orders_retaken n w) (numbers_of n) → projected above heard (retaking n w place) ≡ map again (projected above heard n)
  taking_drawn zero above heard free (node number v fs s i ns) w place within can drawn alone differ tells = absurd within
  taking_drawn (suc left) above heard free (node number v fs s i ns) w place within can drawn alone differ tells =
      taking_by (is_same_widget v w) above heard free number v w fs s i place ns
      (λ role free_below j c u new at ok drawn_child alone_child differ_child tells_child. taking_drawn left role None free_below c u new (within_at left ns within j c at) ok drawn_child alone_child differ_child tells_child) can drawn alone.1
      differ.0 differ.1 tells
