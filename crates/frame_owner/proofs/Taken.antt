-- Render nodes take other widgets, and their children another order: what a plan of all nodes says then, told by the plan of those that
-- change.
use Rattle.std.proofs.Common.{◌≡◌, ℕ, zero, suc, Bool, true, false, cond, ◌||◌, Option, Some, None, IsSome, option_map, List, [], ◌∷◌, ◌++◌, map, refl, ap, sym, ◌∙◌, subst, inl, inr, arith}
use Rattle.std.specs.List.{All}
use Rattle.std.specs.Option.{option_to_list}
use Rattle.std.proofs.lemmas.Bool.{cases_Bool}
use Rattle.fx_handles.specs.declared.Handle.{Handle}
use Rattle.fx_handles.specs.Handle.{same, times, AreDistinct}
use Rattle.fx_handles.specs.HandleLaws.{cases_same, same-eq, same-ne, same_self, times-cons}
use Rattle.fx_handles.specs.ArenaLaws.{same_Some}
use Rattle.node_tree.specs.Edits.{KeepsHandles}
use Rattle.node_tree.specs.Forest.{TreeNode, Forest, tops, count, In, IsDistinct, Stands, map_values}
use Rattle.node_tree.specs.Forest.Forest.{none, tree}
use Rattle.node_tree.specs.Plan.{PlanEntry, entries, committed, IsPlan, IsUpdated, Commits}
use Rattle.node_tree.specs.Tree.{Tree, Is, IsNode, node_at, parent_of, children_of, parent_at, children_at}
use Rattle.node_tree.proofs.Children.{tops-map, weigh-map}
use Rattle.node_tree.proofs.ForestLemmas.{is_zero, find}
use Rattle.node_tree.proofs.PlanLemmas.{plan_of, times-entries, committed-nothing, Stands-committed}
use Rattle.node_tree.proofs.TreeLemmas.{is_node, parent_lists}
use Rattle.widget_model.specs.Plain.{PlainWidget}
use Rattle.tree_marks.specs.Marks.{listed}
use Rattle.render_tree.specs.Changes.{EachEntry, SomeEntry, KeepsOwn, KeepsList, KeepsTold, KeepsLook, hides_at, ChangesLayout, ChangesPaint, LaidAnew, PaintedAnew}
use Rattle.render_tree.specs.Marks.{layout_own, layout_told}
use Rattle.render_tree.specs.Object.{RenderObject, object_look}
use Rattle.render_tree.specs.Redraw.{Redraw, redrawn}
use Rattle.render_tree.specs.Tree.{object_at}
use Rattle.renewed_builds.specs.Renewing.{Change}
use Rattle.frame_owner.specs.Redrawing.{widget_after, places_after, order_at, changed, data_in, entry_for}

-- what a plan of all nodes says of one: what it is then
abbrev pub said : Handle → RenderObject → Redraw
said h o = record { widget = o.widget; parent_data = o.parent_data }

abbrev as_entry : Handle → TreeNode RenderObject → PlanEntry Redraw
as_entry h n = record { at = h; parent = n.parent; children = n.children; update = said h n.value }

-- a node after changes
abbrev pub node_after : List Change → Handle → TreeNode RenderObject → TreeNode RenderObject
node_after cs h n = record { parent = n.parent; children = order_at n.children (places_after cs h); value = changed cs h n.value }

-- each node is as after these changes
pub record HasChanged (cs : List Change) (old new : Tree RenderObject) : Type 0 where
  pub nodes : (k : Handle) → node_at new k ≡ option_map (node_after cs k) (node_at old k)
  pub handles : KeepsHandles old.nodes new.nodes
  pub root : new.root ≡ old.root
  pub inactive : new.inactive ≡ old.inactive

abbrev entry_of : List Change → Handle → TreeNode RenderObject → PlanEntry Redraw
entry_of cs h n = as_entry h (node_after cs h n)

value_of : (x : Option (TreeNode RenderObject)) (n : TreeNode RenderObject) → x ≡ Some n → option_map (λ (m : TreeNode RenderObject). m.value) x ≡ Some n.value
value_of x n e = ap (option_map (λ (m : TreeNode RenderObject). m.value)) e

-- ---- lists of changes

-- each of a list
abbrev pub Each : {X : Type 0} → (X → Type 0) → List X → Type 0
Each P [] = Unit {0}
Each P (x ∷ xs) = P x × Each P xs

pub each_of : {X : Type 0} (P : X → Type 0) (xs : List X) → All P xs → Each P xs
each_of P [] all = tt
each_of P (x ∷ xs) all = (all 0 x (omega arith), each_of P xs (λ k d less. all (suc k) d (omega (arith, less))))

all_of : {X : Type 0} (P : X → Type 0) (xs : List X) → Each P xs → All P xs
all_of P [] each k d less = absurd (omega (arith, less))
all_of P (x ∷ xs) each zero d less = each.0
all_of P (x ∷ xs) each (suc k) d less = all_of P xs each.1 k d (omega (arith, less))

-- each change has its node
abbrev pub AreThere : Tree RenderObject → List Change → Type 0
AreThere t cs = Each (λ (c : Change). (n : TreeNode RenderObject) × (node_at t c.at ≡ Some n)) cs

-- each is the first for its handle
abbrev AreFirst : List Change → List Change → Type 0
AreFirst all cs = Each (λ (c : Change). ((w : PlainWidget) → widget_after all c.at w ≡ c.widget) × (places_after all c.at ≡ c.order)) cs

pub none_for : (h : Handle) (c : Change) (cs : List Change) → times h (map (λ (d : Change). d.at) (c ∷ cs)) ≡ 0 → (same c.at h ≡ false) × (times h (map (λ (d : Change). d.at) cs) ≡ 0)
none_for h c cs absent = elim (cases_Bool (same c.at h)) [
  | inl e ↦
      let here : cond {A = ℕ} (same c.at h) 1 0 ≡ 1 = ap (λ (b : Bool). cond {A = ℕ} b 1 0) e in
      let parts = times-cons h c.at (map (λ (d : Change). d.at) cs) in
      absurd (omega (arith, absent, here, parts))
  | inr e ↦ let parts = times-cons h c.at (map (λ (d : Change). d.at) cs) in (e, omega (arith, absent, parts))
]

-- the widget stays where no change is for the handle
pub unchanged : (h : Handle) (w : PlainWidget) (cs : List Change) → times h (map (λ (d : Change). d.at) cs) ≡ 0 → widget_after cs h w ≡ w
unchanged h w [] absent = refl
unchanged h w (c ∷ cs) absent =
    let parts = none_for h c cs absent in
    ap (λ (b : Bool). cond {A = PlainWidget} b c.widget (widget_after cs h w)) (same-ne h c.at (λ e. true_false (sym (same-eq c.at h (sym e)) ∙ parts.0))) ∙ unchanged h w cs parts.1
  where
    true_false : true ≡ false → ⊥
    true_false e = cc

firsts_then : (c : Change) (all cs : List Change) → times c.at (map (λ (d : Change). d.at) cs) ≡ 0 → AreFirst all cs → AreFirst (c ∷ all) cs
firsts_then c all [] absent first = tt
firsts_then c all (d ∷ cs) absent first =
    let parts = none_for c.at d cs absent in (
      ((λ w. ap (λ (b : Bool). cond {A = PlainWidget} b c.widget (widget_after all d.at w)) parts.0 ∙ first.0.0 w), ap (λ (b : Bool). cond {A = Option (List ℕ)} b c.order (places_after all d.at)) parts.0 ∙ first.0.1),
      firsts_then c all cs parts.1 first.1,
    )

pub are_first : (cs : List Change) → AreDistinct (map (λ (c : Change). c.at) cs) → AreFirst cs cs
are_first [] once = tt
are_first (c ∷ cs) once =
    let hs = map (λ (d : Change). d.at) cs in
    let here : cond {A = ℕ} (same c.at c.at) 1 0 ≡ 1 = ap (λ (b : Bool). cond {A = ℕ} b 1 0) (same_self c.at) in
    let parts = times-cons c.at c.at hs in
    let few = once c.at in (
      ((λ w. ap (λ (b : Bool). cond {A = PlainWidget} b c.widget (widget_after cs c.at w)) (same_self c.at)), ap (λ (b : Bool). cond {A = Option (List ℕ)} b c.order (places_after cs c.at)) (same_self c.at)),
      firsts_then c cs cs (omega (arith, here, parts, few)) (are_first cs (λ h. let all_of = times-cons h c.at hs in let one = once h in omega (arith, all_of, one))),
    )

-- ---- plans

each_append : (P : PlanEntry Redraw → Type 0) (xs ys : List (PlanEntry Redraw)) → EachEntry P xs → EachEntry P ys → EachEntry P (xs ++ ys)
each_append P [] ys a b = b
each_append P (x ∷ xs) ys a b = (a.0, each_append P xs ys a.1 b)

some_before : (P : PlanEntry Redraw → Type 0) (xs ys : List (PlanEntry Redraw)) → SomeEntry P xs → SomeEntry P (xs ++ ys)
some_before P [] ys a = absurd a
some_before P (x ∷ xs) ys (inl here) = inl here
some_before P (x ∷ xs) ys (inr there) = inr (some_before P xs ys there)

some_after : (P : PlanEntry Redraw → Type 0) (xs ys : List (PlanEntry Redraw)) → SomeEntry P ys → SomeEntry P (xs ++ ys)
some_after P [] ys a = a
some_after P (x ∷ xs) ys a = inr (some_after P xs ys a)

module _ (t : Tree RenderObject) where
  -- what a plan of the changes says of each of them holds of each node, where it holds of those that stay as they are
  each_taken : (P : PlanEntry Redraw → Type 0) (Q : Handle → RenderObject → RenderObject → Type 0) → ((k : Handle) (o : RenderObject) → Q k o o)
      → ((c : Change) (o : RenderObject) → P (entry_for t c) → object_at t c.at ≡ Some o → Q c.at (record o { widget = c.widget }) o)
      → (cs : List Change) → EachEntry P (map (entry_for t) cs) → (k : Handle) (o : RenderObject) → object_at t k ≡ Some o → Q k (changed cs k o) o
  each_taken P Q stays takes_it [] all k o at = stays k o
  each_taken P Q stays takes_it (c ∷ cs) all k o at = elim (cases_same k c.at) [
    | inl e ↦
        subst (λ (b : Bool). Q k (record o { widget = cond {A = PlainWidget} b c.widget (widget_after cs k o.widget) }) o) (sym (same-eq k c.at e))
        (subst (λ (j : Handle). Q j (record o { widget = c.widget }) o) (sym e) (takes_it c o all.0 (ap (object_at t) (sym e) ∙ at)))
    | inr ne ↦
        subst (λ (b : Bool). Q k (record o { widget = cond {A = PlainWidget} b c.widget (widget_after cs k o.widget) }) o) (sym (same-ne k c.at ne))
        (each_taken P Q stays takes_it cs all.1 k o at)
  ]

  -- and the children of a node that is none of those that are marked stay in their order
  list_taken : (P : PlanEntry Redraw → Type 0) (Off : Handle → Type 0) → ((c : Change) → P (entry_for t c) → Off c.at → order_at (children_at t c.at) c.order ≡ children_at t c.at)
      → (cs : List Change) → EachEntry P (map (entry_for t) cs) → (k : Handle) → Off k → order_at (children_at t k) (places_after cs k) ≡ children_at t k
  list_taken P Off keeps [] all k off = refl
  list_taken P Off keeps (c ∷ cs) all k off = elim (cases_same k c.at) [
    | inl e ↦
        ap (λ (b : Bool). order_at (children_at t k) (cond {A = Option (List ℕ)} b c.order (places_after cs k))) (same-eq k c.at e)
        ∙ subst (λ (j : Handle). order_at (children_at t j) c.order ≡ children_at t j) (sym e) (keeps c all.0 (subst Off e off))
    | inr ne ↦
        ap (λ (b : Bool). order_at (children_at t k) (cond {A = Option (List ℕ)} b c.order (places_after cs k))) (same-ne k c.at ne)
        ∙ list_taken P Off keeps cs all.1 k off
  ]

  list_stays : (P : PlanEntry Redraw → Type 0) (Off : Handle → Type 0) → ((c : Change) → P (entry_for t c) → Off c.at → order_at (children_at t c.at) c.order ≡ children_at t c.at)
      → (cs : List Change) → EachEntry P (map (entry_for t) cs) → (k : Handle) (n : TreeNode RenderObject) → node_at t k ≡ Some n → Off k → order_at n.children (places_after cs k) ≡ children_at t k
  list_stays P Off keeps cs all k n at off = ap (λ (ks : List Handle). order_at ks (places_after cs k)) (sym (ap children_of at)) ∙ list_taken P Off keeps cs all k off

  abbrev entry_by : Change → Option (TreeNode RenderObject) → PlanEntry Redraw
  entry_by c x =
      record {
        at = c.at;
        parent = parent_of x;
        children = order_at (children_of x) c.order;
        update = record { widget = c.widget; parent_data = data_in (option_map (λ (m : TreeNode RenderObject). m.value) x) };
      }

  -- what the plan of the changes says of the node of one of them, the plan of all nodes says of it
  entry_is : (all : List Change) (c : Change) (n : TreeNode RenderObject) → node_at t c.at ≡ Some n → ((w : PlainWidget) → widget_after all c.at w ≡ c.widget) → places_after all c.at ≡ c.order
      → entry_for t c ≡ entry_of all c.at n
  entry_is all c n at widget order =
      ap (entry_by c) at
      ∙ (ap (λ (o : Option (List ℕ)). as_entry c.at (record { parent = n.parent; children = order_at n.children o; value = record n.value { widget = c.widget } })) (sym order)
      ∙ ap (λ (w : PlainWidget). as_entry c.at (record { parent = n.parent; children = order_at n.children (places_after all c.at); value = record n.value { widget = w } })) (sym (widget n.value.widget)))

  -- ---- the nodes that are marked

  lists_laid : (f : Forest RenderObject) → Is t f → (h : Handle) (cs : List Change) → AreThere t cs → SomeEntry (ChangesLayout t h) (map (entry_for t) cs) → IsNode t h
  lists_laid f is h [] there some = absurd some
  lists_laid f is h (c ∷ cs) there (inl (inl here)) = subst (IsNode t) here.0 (is_node (node_at t c.at) there.0.0 there.0.1)
  lists_laid f is h (c ∷ cs) there (inl (inr above)) = (parent_lists t f c.at h is above.0).0
  lists_laid f is h (c ∷ cs) there (inr later) = lists_laid f is h cs there.1 later

  lists_painted : (h : Handle) (cs : List Change) → AreThere t cs → SomeEntry (ChangesPaint t h) (map (entry_for t) cs) → IsNode t h
  lists_painted h [] there some = absurd some
  lists_painted h (c ∷ cs) there (inl here) = subst (IsNode t) here.0 (is_node (node_at t c.at) there.0.0 there.0.1)
  lists_painted h (c ∷ cs) there (inr later) = lists_painted h cs there.1 later

all_listed : (P : Handle → Type 0) (hs : List Handle) → ((h : Handle) → listed h hs ≡ true → P h) → Each P hs
all_listed P [] each = tt
all_listed P (h ∷ hs) each = (each h (ap (λ (b : Bool). b || listed h hs) (same_self h)), all_listed P hs (λ k e. each k (ap (λ (b : Bool). same k h || b) e ∙ or_true (same k h))))
  where
    or_true : (b : Bool) → (b || true) ≡ true
    or_true true = refl
    or_true false = refl

module _ (t now : Tree RenderObject) (cs : List Change) (changes : HasChanged cs t now) where
  -- a node that is there then was there
  pub was_node : (k : Handle) (m : TreeNode RenderObject) → node_at now k ≡ Some m → (n : TreeNode RenderObject) × (node_at t k ≡ Some n) × (node_after cs k n ≡ m)
  was_node k m at = by_node (node_at t k) refl
    where
      none_some : None ≡ Some m → ⊥
      none_some e = cc

      by_node : (x : Option (TreeNode RenderObject)) → node_at t k ≡ x → (n : TreeNode RenderObject) × (node_at t k ≡ Some n) × (node_after cs k n ≡ m)
      by_node None e = absurd (none_some (sym (changes.nodes k ∙ ap (option_map (node_after cs k)) e) ∙ at))
      by_node (Some n) e = (n, e, same_Some (sym (changes.nodes k ∙ ap (option_map (node_after cs k)) e) ∙ at))

  is_then : (k : Handle) (n : TreeNode RenderObject) → node_at t k ≡ Some n → node_at now k ≡ Some (node_after cs k n)
  is_then k n at = changes.nodes k ∙ ap (option_map (node_after cs k)) at

  pub live_now : (k : Handle) → IsNode t k → IsNode now k
  live_now k live = by_node (node_at t k) refl live
    where
      by_node : (x : Option (TreeNode RenderObject)) → node_at t k ≡ x → IsSome x → IsNode now k
      by_node None e some = absurd (cc)
      by_node (Some n) e some = is_node (node_at now k) _ (is_then k n e)

  pub all_now : (hs : List Handle) → All (IsNode t) hs → All (IsNode now) hs
  all_now hs all k d less = live_now _ (all k d less)

  -- a plan of all nodes
  each_whole : (P : PlanEntry Redraw → Type 0) → ((k : Handle) (n : TreeNode RenderObject) → node_at t k ≡ Some n → P (entry_of cs k n))
      → (p : Option Handle) (g : Forest RenderObject) → Stands (node_at now) p g → EachEntry P (entries p (map_values said g))
  each_whole P one p none s = tt
  each_whole P one p (tree h o kids rest) s =
      let was = was_node h (record { parent = p; children = tops kids; value = o }) s.0 in
      each_append P (entries (Some h) (map_values said kids)) _ (each_whole P one (Some h) kids s.1) (
        subst (λ (ks : List Handle). P (record { at = h; parent = p; children = ks; update = said h o })) (sym (tops-map said kids))
            (subst (λ (m : TreeNode RenderObject). P (as_entry h m)) was.2 (one h was.0 was.1)),
        each_whole P one p rest s.2,
      )

  some_whole : (P : PlanEntry Redraw → Type 0) (k : Handle) (m : TreeNode RenderObject) → node_at now k ≡ Some m → P (as_entry k m)
      → (p : Option Handle) (g : Forest RenderObject) → Stands (node_at now) p g → In k g → SomeEntry P (entries p (map_values said g))
  some_whole P k m at one p none s among = absurd (omega (arith, among))
  some_whole P k m at one p (tree h o kids rest) s among = elim (cases_same h k) [
    | inl e ↦
        some_after P (entries (Some h) (map_values said kids)) _ (inl (
        subst (λ (ks : List Handle). P (record { at = h; parent = p; children = ks; update = said h o })) (sym (tops-map said kids))
        (subst (λ (j : Handle). P (as_entry j (record { parent = p; children = tops kids; value = o }))) (sym e)
        (subst (λ (x : TreeNode RenderObject). P (as_entry k x)) (same_Some (sym at ∙ (ap (node_at now) (sym e) ∙ s.0))) one))
        ))
    | inr ne ↦
        let here : cond {A = ℕ} (same h k) 1 0 ≡ 0 = ap (λ (c : Bool). cond {A = ℕ} c 1 0) (same-ne h k ne) in
        elim (is_zero (count k kids)) [
          | inl gone ↦ some_after P (entries (Some h) (map_values said kids)) _ (inr (some_whole P k m at one p rest s.2 (omega (arith, among, here, gone))))
          | inr there ↦ some_before P (entries (Some h) (map_values said kids)) _ (some_whole P k m at one (Some h) kids s.1 there)
        ]
  ]

  some_taken : (P : PlanEntry Redraw → Type 0) (ds : List Change) → AreFirst cs ds → AreThere t ds → SomeEntry P (map (entry_for t) ds) → (g : Forest RenderObject) → Is now g
      → SomeEntry P (entries None (map_values said g))
  some_taken P [] first there some g is = absurd some
  some_taken P (c ∷ ds) first there (inl here) g is =
      let n = there.0.0 in
      let at = is_then c.at n there.0.1 in
      some_whole P c.at (node_after cs c.at n) at (subst P (entry_is t cs c n there.0.1 first.0.0 first.0.1) here) None g is.stands (is.whole c.at (is_node (node_at now c.at) _ at))
  some_taken P (c ∷ ds) first there (inr later) g is = some_taken P ds first.1 there.1 later g is

  -- what the plan of the changes changes for layout and for painting is what the plan of all nodes does
  module _ (there : AreThere t cs) (once : AreDistinct (map (λ (c : Change). c.at) cs)) (g : Forest RenderObject) (is : Is now g) where
    pub laid_whole : (hs : List Handle) → LaidAnew t t.root (map (entry_for t) cs) hs → LaidAnew t t.root (entries None (map_values said g)) hs
    laid_whole hs anew = record {
      own = each_whole (λ e. listed e.at hs ≡ false → KeepsOwn t e × KeepsList t e) (λ k n at. λ off. ((λ x is_x. own k n at off x is_x), list k n at off)) None g is.stands;
      told = each_whole (λ e. (p : Handle) → e.parent ≡ Some p → listed p hs ≡ false → KeepsTold t e) (λ k n at. λ p parent off. λ x is_x. tells k n at p parent off x is_x) None g is.stands;
      top = anew.top;
      caused = λ h on. elim (anew.caused h on) [
        | inl some ↦ inl (some_taken (ChangesLayout t h) cs (are_first cs once) there some g is)
        | inr root ↦ inr root
      ];
    }
      where
        own : (k : Handle) (n : TreeNode RenderObject) → node_at t k ≡ Some n → listed k hs ≡ false → (x : RenderObject) → object_at t k ≡ Some x
            → layout_own (redrawn (said k (changed cs k n.value)) x) ≡ layout_own x
        own k n at off x is_x =
            subst (λ (y : RenderObject). layout_own (redrawn (said k (changed cs k n.value)) y) ≡ layout_own y) (same_Some (sym (value_of (node_at t k) n at) ∙ is_x))
            (each_taken t (λ e. listed e.at hs ≡ false → KeepsOwn t e × KeepsList t e) (λ j y o. listed j hs ≡ false → layout_own y ≡ layout_own o) (λ j o none. refl)
            (λ c o p here. λ none. (p none).0 o here) cs anew.own k n.value (value_of (node_at t k) n at) off)

        list : (k : Handle) (n : TreeNode RenderObject) → node_at t k ≡ Some n → listed k hs ≡ false → order_at n.children (places_after cs k) ≡ children_at t k
        list k n at off =
            list_stays t (λ e. listed e.at hs ≡ false → KeepsOwn t e × KeepsList t e) (λ (j : Handle). listed j hs ≡ false) (λ c keeps none. (keeps none).1) cs anew.own k n at off

        tells : (k : Handle) (n : TreeNode RenderObject) → node_at t k ≡ Some n → (p : Handle) → n.parent ≡ Some p → listed p hs ≡ false → (x : RenderObject) → object_at t k ≡ Some x
            → layout_told (hides_at t n.parent) (redrawn (said k (changed cs k n.value)) x) ≡ layout_told (hides_at t n.parent) x
        tells k n at p parent off x is_x =
            subst (λ (y : RenderObject). layout_told (hides_at t n.parent) (redrawn (said k (changed cs k n.value)) y) ≡ layout_told (hides_at t n.parent) y) (same_Some (sym (value_of (node_at t k) n at) ∙ is_x))
            (subst (λ (q : Option Handle). layout_told (hides_at t q) (changed cs k n.value) ≡ layout_told (hides_at t q) n.value) (ap parent_of at)
            (each_taken t (λ e. (q : Handle) → e.parent ≡ Some q → listed q hs ≡ false → KeepsTold t e)
            (λ j y o. (q : Handle) → parent_at t j ≡ Some q → listed q hs ≡ false → layout_told (hides_at t (parent_at t j)) y ≡ layout_told (hides_at t (parent_at t j)) o) (λ j o q above none. refl)
            (λ c o e here. λ q above none.
            subst (λ d. layout_told (hides_at t (parent_at t c.at)) (record o { widget = c.widget; parent_data = d }) ≡ layout_told (hides_at t (parent_at t c.at)) o) (ap data_in here) (e q above none o here))
            cs anew.told k n.value (value_of (node_at t k) n at) p (ap parent_of at ∙ parent) off))

    pub painted_whole : (hs : List Handle) → PaintedAnew t t.root (map (entry_for t) cs) hs → PaintedAnew t t.root (entries None (map_values said g)) hs
    painted_whole hs anew = record {
      own = each_whole (λ e. listed e.at hs ≡ false → KeepsLook t e × KeepsList t e) (λ k n at. λ off. ((λ x is_x. own k n at off x is_x), list k n at off)) None g is.stands;
      top = anew.top;
      caused = λ h on. elim (anew.caused h on) [
        | inl some ↦ inl (some_taken (ChangesPaint t h) cs (are_first cs once) there some g is)
        | inr root ↦ inr root
      ];
    }
      where
        own : (k : Handle) (n : TreeNode RenderObject) → node_at t k ≡ Some n → listed k hs ≡ false → (x : RenderObject) → object_at t k ≡ Some x
            → object_look (redrawn (said k (changed cs k n.value)) x) ≡ object_look x
        own k n at off x is_x =
            subst (λ (y : RenderObject). object_look (redrawn (said k (changed cs k n.value)) y) ≡ object_look y) (same_Some (sym (value_of (node_at t k) n at) ∙ is_x))
            (each_taken t (λ e. listed e.at hs ≡ false → KeepsLook t e × KeepsList t e) (λ j y o. listed j hs ≡ false → object_look y ≡ object_look o) (λ j o none. refl)
            (λ c o p here. λ none. (p none).0 o here) cs anew.own k n.value (value_of (node_at t k) n at) off)

        list : (k : Handle) (n : TreeNode RenderObject) → node_at t k ≡ Some n → listed k hs ≡ false → order_at n.children (places_after cs k) ≡ children_at t k
        list k n at off =
            list_stays t (λ e. listed e.at hs ≡ false → KeepsLook t e × KeepsList t e) (λ (j : Handle). listed j hs ≡ false) (λ c keeps none. (keeps none).1) cs anew.own k n at off

    -- ---- the plan of all nodes, and its commit

    abbrev whole_plan : List (PlanEntry Redraw)
    whole_plan = entries None (map_values said g)

    updated_at : (p : Option Handle) (h : Forest RenderObject) → Stands (node_at now) p h → IsUpdated redrawn (object_at t) (map_values said h) h
    updated_at p none s = tt
    updated_at p (tree h o kids rest) s =
        let was = was_node h (record { parent = p; children = tops kids; value = o }) s.0 in
        let value : changed cs h was.0.value ≡ o = ap (λ (m : TreeNode RenderObject). m.value) was.2 in (
          refl,
          ap (option_map (redrawn (said h o))) (value_of (node_at t h) was.0 was.1)
              ∙ (ap (λ (v : RenderObject). Some (redrawn (said h v) was.0.value)) (sym value) ∙ ap Some value),
          updated_at (Some h) kids s.1,
          updated_at p rest s.2,
        )

    pub updated : IsUpdated redrawn (object_at t) (map_values said g) g
    updated = updated_at None g is.stands

    counted : (k : Handle) → count k (map_values said g) ≡ count k g
    counted k = weigh-map said (λ (j : Handle). cond {A = ℕ} (same j k) 1 0) g

    distinct : IsDistinct (map_values said g)
    distinct k = let a = counted k in let b = is.distinct k in omega (arith, a, b)

    pub planned_whole : t.inactive ≡ [] → (root : Handle) → t.root ≡ Some root → IsPlan t (entries None (map_values said g)) (Some root) [] (map_values said g)
    planned_whole alone root at_root =
        plan_of t whole_plan (Some root) [] (map_values said g) refl
        (ap (λ (x : Option Handle). option_to_list x ++ []) (sym (changes.root ∙ at_root)) ∙ (ap (λ hs. option_to_list now.root ++ hs) (sym (changes.inactive ∙ alone)) ∙ (is.tops ∙ sym (tops-map said g)))) distinct
        (λ k among. live k (let a = counted k in omega (arith, a, among)))
      where
        live : (k : Handle) → In k g → IsNode t k
        live k among =
            let found = find (node_at now) None g k is.stands among (is.distinct k) in
            let was = was_node k _ found.is in
            is_node (node_at t k) was.0 was.1

    -- the same forest stands in two stores, which agree on its nodes then
    agree : (a b : Handle → Option (TreeNode RenderObject)) (p : Option Handle) (h : Forest RenderObject) → Stands a p h → Stands b p h → (k : Handle) → In k h → a k ≡ b k
    agree a b p none x y k among = absurd (omega (arith, among))
    agree a b p (tree h o kids rest) x y k among = elim (cases_same h k) [
      | inl e ↦ subst (λ j. a j ≡ b j) e (x.0 ∙ sym y.0)
      | inr ne ↦
          let here : cond {A = ℕ} (same h k) 1 0 ≡ 0 = ap (λ (c : Bool). cond {A = ℕ} c 1 0) (same-ne h k ne) in
          elim (is_zero (count k kids)) [
            | inl gone ↦ agree a b p rest x.2 y.2 k (omega (arith, among, here, gone))
            | inr inside ↦ agree a b (Some h) kids x.1 y.1 k inside
          ]
    ]

    planned_stands : Stands (λ k. committed redrawn whole_plan k (node_at t k)) None g
    planned_stands = Stands-committed redrawn (node_at t) (λ k. committed redrawn whole_plan k (node_at t k)) None (map_values said g) g distinct updated (λ k among. refl)

    at_each : (k : Handle) → node_at now k ≡ committed redrawn whole_plan k (node_at t k)
    at_each k = elim (is_zero (count k g)) [
      | inl gone ↦ by_node (node_at t k) refl gone
      | inr inside ↦ agree (node_at now) (λ j. committed redrawn whole_plan j (node_at t j)) None g is.stands planned_stands k inside
    ]
      where
        by_node : (x : Option (TreeNode RenderObject)) → node_at t k ≡ x → count k g ≡ 0 → node_at now k ≡ committed redrawn whole_plan k (node_at t k)
        by_node (Some n) e gone = absurd (let c = is.whole k (is_node (node_at now k) _ (is_then k n e)) in omega (arith, c, gone))
        by_node None e gone =
            let a = counted k in
            let b = times-entries k None (map_values said g) in
            changes.nodes k ∙ (ap (option_map (node_after cs k)) e ∙ (sym (committed-nothing redrawn whole_plan k None (omega (arith, a, b, gone))) ∙ ap (committed redrawn whole_plan k) (sym e)))

    pub commits_whole : Commits redrawn (entries None (map_values said g)) t.nodes now.nodes
    commits_whole = record {
      nodes = at_each;
      spent = changes.handles.spent;
      now_spent = λ k live gone. absurd (
          let a = counted k in
          let b = times-entries k None (map_values said g) in
          let c = is.whole k (live_now k live) in
          omega (arith, a, b, c, gone)
          );
      retired = let a = changes.handles.retired in omega (arith, a);
      filled = let a = changes.handles.retired in let b = changes.handles.used in omega (arith, a, b);
      inserted = changes.handles.inserted;
    }

module _ (t : Tree RenderObject) (cs : List Change) (f : Forest RenderObject) (is : Is t f) (there : AreThere t cs) where
  -- what is marked is there
  pub laid_live : (hs : List Handle) → LaidAnew t t.root (map (entry_for t) cs) hs → All (IsNode t) hs
  laid_live hs anew = all_of (IsNode t) hs (all_listed (IsNode t) hs (λ h on. elim (anew.caused h on) [
    | inl some ↦ lists_laid t f is h cs there some
    | inr root ↦ absurd (root.1 root.0)
  ]))

  pub painted_live : (hs : List Handle) → PaintedAnew t t.root (map (entry_for t) cs) hs → All (IsNode t) hs
  painted_live hs anew = all_of (IsNode t) hs (all_listed (IsNode t) hs (λ h on. elim (anew.caused h on) [
    | inl some ↦ lists_painted t h cs there some
    | inr root ↦ absurd (root.1 root.0)
  ]))
