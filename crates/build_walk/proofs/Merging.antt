-- A plan into which the plans of items are merged is the plan of the forest into which the items are put.
use Rattle.std.proofs.Common.{◌≡◌, ℕ, Bool, true, false, cond, Option, Some, None, List, [], ◌∷◌, ◌++◌, map, refl, sym, ap, ◌∙◌}
use Rattle.std.proofs.lemmas.List.{append_assoc}
use Rattle.fx_handles.specs.declared.Handle.{Handle}
use Rattle.node_tree.specs.Forest.{Forest, tops, append}
use Rattle.node_tree.specs.Forest.Forest.{none, tree}
use Rattle.node_tree.specs.Plan.{PlanEntry, entries}
use Rattle.widget_model.specs.Look.{Look, sliver_lazy}
use Rattle.widget_model.specs.Plain.{look_of}
use Rattle.plain_tree.specs.declared.render.ParentData.{ParentData}
use Rattle.plain_tree.specs.declared.role.RenderRole.{RenderRole}
use Rattle.plain_tree.specs.declared.role.RenderRole.TheVariants.{Lazy}
use Rattle.plain_tree.specs.PlainNode.{PlainNode, node, PlainNodes, no_nodes, more_nodes, nodes_of as listed}
use Rattle.plain_tree.specs.Projection.{told_by, told_at}
use Rattle.plain_tree.specs.RenderRole.{render_role_of, vanishes}
use Rattle.build_form.specs.BuildRole.{BuildRole, composes, provides, keeps, lists, holds, build_role_of, is_lazy}
use Rattle.element_tree.specs.Element.{Element}
use Rattle.element_tree.specs.Nodes.{nodes_of}
use Rattle.element_tree.specs.Renewal.{Renewal}
use Rattle.render_tree.specs.Object.{RenderObject}
use Rattle.render_tree.specs.Redraw.{Redraw}
use Rattle.build_walk.specs.Renewing.{renewal_of, renewals, role_of, redraw_of, drawn_at, drawn, IsDrawn, Unless, AreDrawn}
use Rattle.build_walk.specs.Serving.{Put, put, put_below, all_put_in}
use Rattle.build_walk.specs.Merging.{lists_element, lists_renewal, lists_redraw, Grown, grown, first_forest, later_forests, grown_below, grow, list_handles, AreBare, Merged, merged, AllListsAreBare, serving, serving_each, merge_at, merge}

-- ---- plans

module _ {U : Type 0} (test : U → Bool) where
  tops_below : (h : Handle) (v : U) (kids rest : Forest U) (gs : List (Forest U)) → tops (grow test rest (grown_below (test v) gs (grow test kids gs)).rest).forest ≡ tops rest
      → tops (grow test (tree h v kids rest) gs).forest ≡ h ∷ tops rest
  tops_below h v kids rest gs e = ap (λ l. h ∷ l) e

  pub tops_grown : (f : Forest U) (gs : List (Forest U)) → tops (grow test f gs).forest ≡ tops f
  tops_grown none gs = refl
  tops_grown (tree h v kids rest) gs = tops_below h v kids rest gs (tops_grown rest (grown_below (test v) gs (grow test kids gs)).rest)

  -- some entries before what is merged
  abbrev before : List (PlanEntry U) → Merged U → Merged U
  before es m = merged (es ++ m.plan) m.rest

  abbrev entry : Handle → Option Handle → List Handle → U → PlanEntry U
  entry h p children v = record { at = h; parent = p; children = children; update = v }

  -- what is to be shown of one forest
  abbrev Merges : Option Handle → Forest U → Type 0
  Merges p f =
      (gs : List (Forest U)) (es : List (PlanEntry U)) (ks : List Handle)
      → merge test (entries p f ++ es) (serving_each (list_handles test f ++ ks) gs)
      ≡ before (entries p (grow test f gs).forest) (merge test es (serving_each ks (grow test f gs).rest))

  module _ (p : Option Handle) (h : Handle) (v : U) (kids rest : Forest U) (gs : List (Forest U)) (es : List (PlanEntry U)) (ks : List Handle) where
    abbrev later_plan : List (PlanEntry U)
    later_plan = entries p rest ++ es

    abbrev later_handles : List Handle
    later_handles = list_handles test rest ++ ks

    -- what is merged behind the node
    abbrev behind : Forest U → List (Forest U) → Merged U
    behind below more =
        before (entries (Some h) below ++ (entry h p (tops below) v ∷ entries p (grow test rest more).forest)) (merge test es (serving_each ks (grow test rest more).rest))

    list_merges : test v ≡ true → kids ≡ none → Merges p rest
        → merge_at true (entry h p [] v) (serving h (first_forest gs) ∷ serving_each later_handles (later_forests gs)) (merge test later_plan) ≡ behind (first_forest gs) (later_forests gs)
    list_merges is bare go =
        let g = first_forest gs in
        ap (λ (m : Merged U). merged (entries (Some h) g ++ (entry h p (tops g) v ∷ m.plan)) m.rest) (go (later_forests gs) es ks)
        ∙ ap (λ l. merged l (merge test es (serving_each ks (grow test rest (later_forests gs)).rest)).rest)
        (sym (append_assoc (entries (Some h) g) (entry h p (tops g) v ∷ entries p (grow test rest (later_forests gs)).forest) (merge test es (serving_each ks (grow test rest (later_forests gs)).rest)).plan))

    node_merges : Merges (Some h) kids → Merges p rest → test v ≡ false
        → merge test (entries (Some h) kids ++ (entry h p (tops kids) v ∷ later_plan)) (serving_each (list_handles test kids ++ later_handles) gs) ≡ behind (grow test kids gs).forest (grow test kids gs).rest
    node_merges down go is =
        let b = grow test kids gs in
        let here : merge test (entry h p (tops kids) v ∷ later_plan) (serving_each later_handles b.rest)
        ≡ merged (entry h p (tops b.forest) v ∷ (merge test later_plan (serving_each later_handles b.rest)).plan) (merge test later_plan (serving_each later_handles b.rest)).rest =
        ap (λ t. merge_at t (entry h p (tops kids) v) (serving_each later_handles b.rest) (merge test later_plan)) is
        ∙ ap (λ hs. merged (entry h p hs v ∷ (merge test later_plan (serving_each later_handles b.rest)).plan) (merge test later_plan (serving_each later_handles b.rest)).rest) (sym (tops_grown kids gs)) in
        down gs (entry h p (tops kids) v ∷ later_plan) later_handles
        ∙ ap (before (entries (Some h) b.forest)) (here ∙ ap (λ (m : Merged U). merged (entry h p (tops b.forest) v ∷ m.plan) m.rest) (go b.rest es ks))
        ∙ ap (λ l. merged l (merge test es (serving_each ks (grow test rest b.rest).rest)).rest)
        (sym (append_assoc (entries (Some h) b.forest) (entry h p (tops b.forest) v ∷ entries p (grow test rest b.rest).forest) (merge test es (serving_each ks (grow test rest b.rest).rest)).plan))

    by_test : (t : Bool) → test v ≡ t → (test v ≡ true → kids ≡ none) → Merges (Some h) kids → Merges p rest
        → merge test ((entries (Some h) kids ++ (entry h p (tops kids) v ∷ entries p rest)) ++ es) (serving_each ((cond t (h ∷ []) (list_handles test kids) ++ list_handles test rest) ++ ks) gs)
        ≡ behind (grown_below t gs (grow test kids gs)).forest (grown_below t gs (grow test kids gs)).rest
    by_test true is bare down go =
        ap (λ k. merge test ((entries (Some h) k ++ (entry h p (tops k) v ∷ entries p rest)) ++ es) (serving h (first_forest gs) ∷ serving_each later_handles (later_forests gs))) (bare is)
        ∙ ap (λ t. merge_at t (entry h p [] v) (serving h (first_forest gs) ∷ serving_each later_handles (later_forests gs)) (merge test later_plan)) is
        ∙ list_merges is (bare is) go
    by_test false is bare down go =
        ap (λ l. merge test l (serving_each ((list_handles test kids ++ list_handles test rest) ++ ks) gs)) (append_assoc (entries (Some h) kids) (entry h p (tops kids) v ∷ entries p rest) es)
        ∙ ap (λ l. merge test (entries (Some h) kids ++ (entry h p (tops kids) v ∷ later_plan)) (serving_each l gs)) (append_assoc (list_handles test kids) (list_handles test rest) ks)
        ∙ node_merges down go is

  pub merges : (p : Option Handle) (f : Forest U) → AreBare test f → Merges p f
  merges p none bare = λ gs es ks. refl
  merges p (tree h v kids rest) bare = λ gs es ks.
      by_test p h v kids rest gs es ks (test v) refl bare.0 (merges (Some h) kids bare.1) (merges p rest bare.2)

  no_more : {A : Type 0} (xs : List A) → xs ++ [] ≡ xs
  no_more [] = refl
  no_more (x ∷ xs) = ap (λ l. x ∷ l) (no_more xs)

  pub merges_whole : (p : Option Handle) (f : Forest U) (gs : List (Forest U)) → AreBare test f → merge test (entries p f) (serving_each (list_handles test f) gs) ≡ merged (entries p (grow test f gs).forest) []
  merges_whole p f gs bare =
      (λ i. merge test (sym (no_more (entries p f)) i) (serving_each (sym (no_more (list_handles test f)) i) gs))
      ∙ merges p f bare gs [] []
      ∙ ap (λ l. merged l []) (no_more (entries p (grow test f gs).forest))

-- ---- what is planned for elements

first_mapped : (gs : List (Forest Element)) → first_forest (map renewals gs) ≡ renewals (first_forest gs)
first_mapped [] = refl
first_mapped (g ∷ gs) = refl

later_mapped : (gs : List (Forest Element)) → later_forests (map renewals gs) ≡ map renewals (later_forests gs)
later_mapped [] = refl
later_mapped (g ∷ gs) = refl

abbrev renewed_grown : Grown Element → Grown Renewal
renewed_grown x = grown (renewals x.forest) (map renewals x.rest)

below_mapped : (t : Bool) (gs : List (Forest Element)) (others : Grown Renewal) (were : Grown Element) → others ≡ renewed_grown were
    → grown_below t (map renewals gs) others ≡ renewed_grown (grown_below t gs were)
below_mapped true gs others were e = λ i. grown (first_mapped gs i) (later_mapped gs i)
below_mapped false gs others were e = e

pub renewals_grow : (f : Forest Element) (gs : List (Forest Element)) → grow lists_renewal (renewals f) (map renewals gs) ≡ renewed_grown (grow lists_element f gs)
renewals_grow none gs = refl
renewals_grow (tree h e kids rest) gs =
    let below = below_mapped (lists_element e) gs (grow lists_renewal (renewals kids) (map renewals gs)) (grow lists_element kids gs) (renewals_grow kids gs) in
    ap (λ (b : Grown Renewal). grown (tree h (renewal_of e) b.forest (grow lists_renewal (renewals rest) b.rest).forest) (grow lists_renewal (renewals rest) b.rest).rest) below
    ∙ ap (λ (l : Grown Renewal). grown (tree h (renewal_of e) (renewals (grown_below (lists_element e) gs (grow lists_element kids gs)).forest) l.forest) l.rest)
    (renewals_grow rest (grown_below (lists_element e) gs (grow lists_element kids gs)).rest)

-- ---- what they are as plain nodes

module _ (scrolled : ℕ → ℕ) where
  abbrev nodes : Forest Element → List PlainNode
  nodes f = nodes_of scrolled f

  abbrev put_grown : Grown Element → Put PlainNodes
  put_grown x = put (listed (nodes x.forest)) (map nodes x.rest)

  list_put : (gs : List (Forest Element)) (others : Put PlainNodes) → put_below (lists 0) (map nodes gs) others ≡ put_grown (grown (first_forest gs) (later_forests gs))
  list_put [] others = refl
  list_put (g ∷ gs) others = refl

  below_put : (r : BuildRole) (gs : List (Forest Element)) (others : Put PlainNodes) (were : Grown Element) → others ≡ put_grown were
      → put_below r (map nodes gs) others ≡ put_grown (grown_below (is_lazy r) gs were)
  below_put (composes place props) gs others were e = e
  below_put (provides name value) gs others were e = e
  below_put (keeps kept) gs others were e = e
  below_put (lists extent) gs others were e = list_put gs others
  below_put holds gs others were e = e

  pub nodes_grow : (f : Forest Element) (gs : List (Forest Element)) → all_put_in (listed (nodes f)) (map nodes gs) ≡ put_grown (grow lists_element f gs)
  nodes_grow none gs = refl
  nodes_grow (tree h e kids rest) gs =
      let r = build_role_of (look_of e.widget) in
      let below = below_put r gs (all_put_in (listed (nodes kids)) (map nodes gs)) (grow lists_element kids gs) (nodes_grow kids gs) in
      let over = λ (ns : PlainNodes). node e.number e.widget e.fields (scrolled e.number) e.index ns in
      ap (λ (b : Put PlainNodes). put (more_nodes (over b.whole) (all_put_in (listed (nodes rest)) b.rest).whole) (all_put_in (listed (nodes rest)) b.rest).rest) below
      ∙ ap (λ (l : Put PlainNodes). put (more_nodes (over (listed (nodes (grown_below (is_lazy r) gs (grow lists_element kids gs)).forest))) l.whole) l.rest)
      (nodes_grow rest (grown_below (is_lazy r) gs (grow lists_element kids gs)).rest)

-- ---- what is planned for render nodes

lists_role : (look : Look) → is_lazy (build_role_of look) ≡ true → render_role_of look ≡ Lazy
lists_role (sliver_lazy extent) e = refl
lists_role look e = cc

module _ {U : Type 0} (test : U → Bool) where
  pub grow_append : (f g : Forest U) (gs : List (Forest U))
      → grow test (append f g) gs ≡ grown (append (grow test f gs).forest (grow test g (grow test f gs).rest).forest) (grow test g (grow test f gs).rest).rest
  grow_append none g gs = refl
  grow_append (tree h v kids rest) g gs =
      let b = grown_below (test v) gs (grow test kids gs) in
      ap (λ (l : Grown U). grown (tree h v b.forest l.forest) l.rest) (grow_append rest g b.rest)

abbrev drawn_items : Forest Element → Forest Redraw
drawn_items g = drawn Lazy None g

abbrev drawn_grown : RenderRole → Option ParentData → Grown Element → Grown Redraw
drawn_grown above told x = grown (drawn above told x.forest) (map drawn_items x.rest)

first_drawn : (gs : List (Forest Element)) → first_forest (map drawn_items gs) ≡ drawn_items (first_forest gs)
first_drawn [] = refl
first_drawn (g ∷ gs) = refl

later_drawn : (gs : List (Forest Element)) → later_forests (map drawn_items gs) ≡ map drawn_items (later_forests gs)
later_drawn [] = refl
later_drawn (g ∷ gs) = refl

module _ (at : Handle → Option RenderObject) (scrolled : ℕ → ℕ) where
  -- below an element with a render node
  own_below : (t : Bool) (role : RenderRole) (gs : List (Forest Element)) (others : Grown Redraw) (were : Grown Element) → (t ≡ true → role ≡ Lazy) → others ≡ drawn_grown role None were
      → grown_below t (map drawn_items gs) others ≡ drawn_grown role None (grown_below t gs were)
  own_below true role gs others were is e =
      (λ i. grown (first_drawn gs i) (later_drawn gs i)) ∙ ap (λ r. grown (drawn r None (first_forest gs)) (map drawn_items (later_forests gs))) (sym (is refl))
  own_below false role gs others were is e = e

  own_grown : (o : Option Handle) (k : Handle) (u : Redraw) (below : Forest Redraw) (gs : List (Forest Redraw)) → o ≡ Some k
      → grow lists_redraw (drawn_at o u below) gs
      ≡ grown (drawn_at o u (grown_below (lists_redraw u) gs (grow lists_redraw below gs)).forest) (grown_below (lists_redraw u) gs (grow lists_redraw below gs)).rest
  own_grown None k u below gs e = cc
  own_grown (Some j) k u below gs e = refl

  -- an element without a render node is no list
  through_list : (look : Look) → vanishes (render_role_of look) ≡ true → is_lazy (build_role_of look) ≡ false
  through_list (sliver_lazy extent) e = cc
  through_list look e = refl

  node_grown : (above : RenderRole) (told : Option ParentData) (e : Element) (kids : Forest Element) (gs : List (Forest Element)) (b : Bool) → vanishes (role_of e) ≡ b
      → Unless b (IsDrawn at (scrolled e.number) e)
      → ((r : RenderRole) (t : Option ParentData) → grow lists_redraw (drawn r t kids) (map drawn_items gs) ≡ drawn_grown r t (grow lists_element kids gs))
      → grow lists_redraw (cond b (drawn above (Some (told_by above (role_of e) (told_at above told e.index))) kids) (drawn_at e.render (redraw_of e (told_at above told e.index)) (drawn (role_of e) None kids))) (map drawn_items gs)
      ≡ grown (cond b (drawn above (Some (told_by above (role_of e) (told_at above told e.index))) (grown_below (lists_element e) gs (grow lists_element kids gs)).forest)
      (drawn_at e.render (redraw_of e (told_at above told e.index)) (drawn (role_of e) None (grown_below (lists_element e) gs (grow lists_element kids gs)).forest)))
      (map drawn_items (grown_below (lists_element e) gs (grow lists_element kids gs)).rest)
  node_grown above told e kids gs true v d go =
      go above (Some (told_by above (role_of e) (told_at above told e.index)))
      ∙ ap (λ t. drawn_grown above (Some (told_by above (role_of e) (told_at above told e.index))) (grown_below t gs (grow lists_element kids gs))) (sym (through_list (look_of e.widget) v))
  node_grown above told e kids gs false v d go =
      let u = redraw_of e (told_at above told e.index) in
      own_grown e.render d.handle u (drawn (role_of e) None kids) (map drawn_items gs) d.named
      ∙ ap (λ (x : Grown Redraw). grown (drawn_at e.render u x.forest) x.rest)
      (own_below (lists_element e) (role_of e) gs (grow lists_redraw (drawn (role_of e) None kids) (map drawn_items gs)) (grow lists_element kids gs)
      (lists_role (look_of e.widget)) (go (role_of e) None))

  pub drawn_grow : (above : RenderRole) (told : Option ParentData) (f : Forest Element) (gs : List (Forest Element)) → AreDrawn at scrolled f
      → grow lists_redraw (drawn above told f) (map drawn_items gs) ≡ drawn_grown above told (grow lists_element f gs)
  drawn_grow above told none gs d = refl
  drawn_grow above told (tree h e kids rest) gs d =
      let b = grown_below (lists_element e) gs (grow lists_element kids gs) in
      let own = λ (g : Forest Element). cond (vanishes (role_of e)) (drawn above (Some (told_by above (role_of e) (told_at above told e.index))) g) (drawn_at e.render (redraw_of e (told_at above told e.index)) (drawn (role_of e) None g)) in
      grow_append lists_redraw (own kids) (drawn above told rest) (map drawn_items gs)
      ∙ ap (λ (x : Grown Redraw). grown (append x.forest (grow lists_redraw (drawn above told rest) x.rest).forest) (grow lists_redraw (drawn above told rest) x.rest).rest)
      (node_grown above told e kids gs (vanishes (role_of e)) refl d.0 (λ r t. drawn_grow r t kids gs d.1))
      ∙ ap (λ (x : Grown Redraw). grown (append (own b.forest) x.forest) x.rest) (drawn_grow above told rest b.rest d.2)

-- ---- nothing is below a list

pub bare_mapped : (f : Forest Element) → AreBare lists_element f → AreBare lists_renewal (renewals f)
bare_mapped none b = tt
bare_mapped (tree h e kids rest) b = ((λ t. ap renewals (b.0 t)), bare_mapped kids b.1, bare_mapped rest b.2)

bare_append : (f g : Forest Redraw) → AreBare lists_redraw f → AreBare lists_redraw g → AreBare lists_redraw (append f g)
bare_append none g b c = c
bare_append (tree h u kids rest) g b c = (b.0, b.1, bare_append rest g b.2 c)

bare_when : (b : Bool) (f g : Forest Redraw) → AreBare lists_redraw f → AreBare lists_redraw g → AreBare lists_redraw (cond b f g)
bare_when true f g h k = h
bare_when false f g h k = k

bare_at : (o : Option Handle) (u : Redraw) (below : Forest Redraw) → (lists_redraw u ≡ true → below ≡ none) → AreBare lists_redraw below → AreBare lists_redraw (drawn_at o u below)
bare_at None u below b h = tt
bare_at (Some k) u below b h = (b, h, tt)

pub bare_drawn : (above : RenderRole) (told : Option ParentData) (f : Forest Element) → AreBare lists_element f → AreBare lists_redraw (drawn above told f)
bare_drawn above told none b = tt
bare_drawn above told (tree h e kids rest) b =
    let parent_data = told_at above told e.index in
    let through = drawn above (Some (told_by above (role_of e) parent_data)) kids in
    let own = drawn_at e.render (redraw_of e parent_data) (drawn (role_of e) None kids) in
    bare_append (cond (vanishes (role_of e)) through own) (drawn above told rest)
    (bare_when (vanishes (role_of e)) through own (bare_drawn above (Some (told_by above (role_of e) parent_data)) kids b.1)
    (bare_at e.render (redraw_of e parent_data) (drawn (role_of e) None kids) (λ t. ap (drawn (role_of e) None) (b.0 t)) (bare_drawn (role_of e) None kids b.1)))
    (bare_drawn above told rest b.2)

empty_nodes : (scrolled : ℕ → ℕ) (f : Forest Element) → listed (nodes_of scrolled f) ≡ no_nodes → f ≡ none
empty_nodes scrolled none e = refl
empty_nodes scrolled (tree h x kids rest) e = cc

pub bare_nodes : (scrolled : ℕ → ℕ) (f : Forest Element) → AllListsAreBare (listed (nodes_of scrolled f)) → AreBare lists_element f
bare_nodes scrolled none b = tt
bare_nodes scrolled (tree h e kids rest) b = ((λ t. empty_nodes scrolled kids (b.0.0 t)), bare_nodes scrolled kids b.0.1, bare_nodes scrolled rest b.1)
