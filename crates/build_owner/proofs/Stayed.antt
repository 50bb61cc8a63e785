-- What stands between the two phases, where old items stay below lazy lists.
use Rattle.std.proofs.Common.{◌≡◌, ℕ, zero, suc, ◌+◌, ◌≤◌, Bool, true, false, ◌||◌, ◌&&◌, not, cond, Option, Some, None, IsSome, option_map, List, [], ◌∷◌, ◌++◌, map, ◌⊎◌, inl, inr, refl, sym, ap, ◌∙◌, subst, arith}
use Rattle.std.specs.Option.{option_to_list}
use Rattle.fx_handles.specs.declared.Handle.{Handle}
use Rattle.fx_handles.specs.Handle.{same, times, Among}
use Rattle.fx_handles.specs.HandleLaws.{same-true, times-cons, times_here}
use Rattle.node_tree.specs.Children.{Keeps}
use Rattle.node_tree.specs.Forest.{TreeNode, Forest, tops, count, In, append, below, pruned, map_values, Stands}
use Rattle.node_tree.specs.Forest.Forest.{none, tree}
use Rattle.node_tree.specs.Part.{is_named, CommitsPart, kept_by}
use Rattle.node_tree.specs.Plan.{PlanEntry, entries, entry_at, IsUpdated}
use Rattle.node_tree.specs.Tree.{Tree, IsNode, Is, Holds, node_at, subtree_at}
use Rattle.node_tree.proofs.Children.{below-stands, weigh-map}
use Rattle.node_tree.proofs.ForestLemmas.{count_here}
use Rattle.node_tree.proofs.PlanLemmas.{weigh-updated}
use Rattle.node_tree.proofs.TreeLemmas.{Holds-from_Is}
use Rattle.tree_marks.specs.Marking.{Above, Marking, within, at_top}
use Rattle.tree_marks.specs.Marks.{listed as is_listed, has_listed, some_climbs, sweep}
use Rattle.tree_marks.specs.Ways.{OnlyMarks}
use Rattle.plain_tree.specs.PlainNode.{PlainNode, nodes_of as listed}
use Rattle.plain_tree.specs.declared.render.ParentData.{ParentData}
use Rattle.plain_tree.specs.declared.role.RenderRole.TheVariants.{Plain}
use Rattle.plain_tree.specs.Projection.{projected_all}
use Rattle.plain_tree.specs.Render.{Renders, more_renders, renders_of as renders_listed}
use Rattle.element_tree.specs.Element.{Element}
use Rattle.element_tree.specs.Nodes.{nodes_of}
use Rattle.widget_model.specs.Plain.{PlainWidget}
use Rattle.render_tree.specs.Marked.{SetsMarks}
use Rattle.render_tree.specs.Marks.{layout_marks, paint_marks}
use Rattle.render_tree.specs.Edits.{new_object}
use Rattle.render_tree.specs.Object.{RenderObject}
use Rattle.render_tree.specs.Plain.{renders_of}
use Rattle.render_tree.specs.Redraw.{Redraw, redrawn}
use Rattle.render_tree.specs.Tree.{object_at}
use Rattle.build_walk.specs.Merging.{lists_items, lists_redraw, Grown, first_forest, later_forests, grown_below, grow, list_handles, AreBare}
use Rattle.build_walk.specs.Renewing.{drawn, AreDrawn}
use Rattle.build_walk.specs.Standing.{KeepsDrawn}
use Rattle.build_walk.proofs.Redrawing.{drawn_on, keeps_both, keeps_part}
use Rattle.build_walk.proofs.Settled.{marks_keep, render_at, swept_renders, swept_tops, swept_parts}
use Rattle.build_owner.specs.Making.{MakesNodes}
use Rattle.build_owner.specs.Redrawn.{IsPartRedrawn}
use Rattle.build_owner.specs.Staying.{lists_object, bare, redraw_now, left_of, left_items, with_items, HadAlready, RendersStandWithItems}
use Rattle.build_owner.proofs.Apart.{counts, grown_counts, in_named, listed_in_plan}
use Rattle.build_owner.proofs.Listed.{redrawn_widget}

-- ---- without what is below lists

-- marks leave the lists what they are
module _ (m : Marking RenderObject) (keeps : (f b : Bool) (o : RenderObject) → lists_object (m.marked f b o) ≡ lists_object o) (shown : (f b : Bool) (o : RenderObject) (rs : Renders) → render_at (m.marked f b o) rs ≡ render_at o rs)
    (also : Bool) (hs : List Handle) where
  abbrev swept : Above → Forest RenderObject → Forest RenderObject
  swept p f = sweep m also hs p f

  pub swept_bare : (p : Above) (f : Forest RenderObject) → renders_of (bare lists_object (swept p f)) ≡ renders_of (bare lists_object f)
  swept_bare p none = refl
  swept_bare p (tree h o kids rest) =
      let v = m.marked ((is_listed h hs || some_climbs m hs (within m p o) kids) && m.takes p.top o) (has_listed hs kids || (also && is_listed h hs)) o in
      let lists = keeps _ _ o in
      ap (λ r. more_renders r (renders_of (bare lists_object (swept p rest)))) (shown _ _ o (renders_of (cond (lists_object v) none (bare lists_object (swept (within m p o) kids)))))
      ∙ ap (λ b. more_renders (render_at o (renders_of (cond b none (bare lists_object (swept (within m p o) kids))))) (renders_of (bare lists_object (swept p rest)))) lists
      ∙ (λ i. more_renders (render_at o (by_test (lists_object o) (swept_bare (within m p o) kids) i)) (swept_bare p rest i))
    where
      by_test : (t : Bool) → renders_of (bare lists_object (swept (within m p o) kids)) ≡ renders_of (bare lists_object kids)
          → renders_of (cond t none (bare lists_object (swept (within m p o) kids))) ≡ renders_of (cond t none (bare lists_object kids))
      by_test true e = refl
      by_test false e = e

  pub swept_bare_count : (k : Handle) (p : Above) (f : Forest RenderObject) → count k (bare lists_object (swept p f)) ≡ count k (bare lists_object f)
  swept_bare_count k p none = refl
  swept_bare_count k p (tree h o kids rest) =
      let v = m.marked ((is_listed h hs || some_climbs m hs (within m p o) kids) && m.takes p.top o) (has_listed hs kids || (also && is_listed h hs)) o in
      let lists = ap (λ b. count k (cond b none (bare lists_object (swept (within m p o) kids)))) (keeps ((is_listed h hs || some_climbs m hs (within m p o) kids) && m.takes p.top o) (has_listed hs kids || (also && is_listed h hs)) o) in
      let inner = by_test (lists_object o) (swept_bare_count k (within m p o) kids) in
      let later = swept_bare_count k p rest in
      omega (arith, lists, inner, later)
    where
      by_test : (t : Bool) → count k (bare lists_object (swept (within m p o) kids)) ≡ count k (bare lists_object kids)
          → count k (cond t none (bare lists_object (swept (within m p o) kids))) ≡ count k (cond t none (bare lists_object kids))
      by_test true e = refl
      by_test false e = e

  pub swept_count : (k : Handle) (p : Above) (f : Forest RenderObject) → count k (swept p f) ≡ count k f
  swept_count k p none = refl
  swept_count k p (tree h o kids rest) =
      let inner = swept_count k (within m p o) kids in
      let later = swept_count k p rest in
      omega (arith, inner, later)

-- without them the nodes are those of the plan without items
module _ (at : Handle → Option RenderObject) where
  bare_below : (t : Bool) (s : Bool) (kids : Forest Redraw) (gs : List (Forest Redraw)) (others : Grown Redraw) (lower : Forest RenderObject) → s ≡ t → (t ≡ true → kids ≡ none)
      → (IsUpdated redrawn at others.forest lower → IsUpdated redrawn at kids (bare lists_object lower))
      → IsUpdated redrawn at (grown_below t gs others).forest lower → IsUpdated redrawn at kids (cond s none (bare lists_object lower))
  bare_below true s kids gs others lower e b go up =
      subst (λ x. IsUpdated redrawn at kids (cond x none (bare lists_object lower))) (sym e) (subst (λ (y : Forest Redraw). IsUpdated redrawn at y none) (sym (b refl)) tt)
  bare_below false s kids gs others lower e b go up = subst (λ x. IsUpdated redrawn at kids (cond x none (bare lists_object lower))) (sym e) (go up)

  pub bare_updated : (d : Forest Redraw) (gs : List (Forest Redraw)) (g : Forest RenderObject) → AreBare lists_redraw d → IsUpdated redrawn at (grow lists_redraw d gs).forest g → IsUpdated redrawn at d (bare lists_object g)
  bare_updated none gs none b up = tt
  bare_updated none gs (tree k v lower later) b up = absurd up
  bare_updated (tree h u kids rest) gs none b up = absurd up
  bare_updated (tree h u kids rest) gs (tree k v lower later) b up =
      let inner = grown_below (lists_redraw u) gs (grow lists_redraw kids gs) in (
        up.0,
        up.1,
        bare_below (lists_redraw u) (lists_object v) kids gs (grow lists_redraw kids gs) lower (ap lists_items (redrawn_widget u (at h) v up.1)) b.0 (λ x. bare_updated kids gs lower b.1 x) up.2,
        bare_updated rest inner.rest later b.2 up.3,
      )

-- ---- what a plan does at each node

-- it holds of each node
abbrev pub Each : (Handle → Redraw → Type 0) → Forest Redraw → Type 0
Each P none = Unit {0}
Each P (tree h u kids rest) = P h u × Each P kids × Each P rest

abbrev pub EachOf : (Handle → Redraw → Type 0) → List (Forest Redraw) → Type 0
EachOf P [] = Unit {0}
EachOf P (g ∷ gs) = Each P g × EachOf P gs

module _ (P : Handle → Redraw → Type 0) where
  each_below : (t : Bool) (gs : List (Forest Redraw)) (others : Grown Redraw) → Each P others.forest × EachOf P others.rest → EachOf P gs → Each P (grown_below t gs others).forest × EachOf P (grown_below t gs others).rest
  each_below true [] others h e = (tt, tt)
  each_below true (g ∷ gs) others h e = e
  each_below false gs others h e = h

  pub each_grown : (d : Forest Redraw) (gs : List (Forest Redraw)) → Each P d → EachOf P gs → Each P (grow lists_redraw d gs).forest × EachOf P (grow lists_redraw d gs).rest
  each_grown none gs h e = (tt, e)
  each_grown (tree k u kids rest) gs h e =
      let inner = each_below (lists_redraw u) gs (grow lists_redraw kids gs) (each_grown kids gs h.1 e) e in
      let later = each_grown rest (grown_below (lists_redraw u) gs (grow lists_redraw kids gs)).rest h.2 inner.1 in
      ((h.0, inner.0, later.0), later.1)

  -- and so of each entry
  either_at : (xs ys : List (PlanEntry Redraw)) (k : Handle) (e : PlanEntry Redraw) → entry_at (xs ++ ys) k ≡ Some e → (entry_at xs k ≡ Some e) ⊎ (entry_at ys k ≡ Some e)
  either_at [] ys k e is = inr is
  either_at (x ∷ xs) ys k e is = by_same (same k x.at) is (either_at xs ys k e)
    where
      by_same : (b : Bool) → cond b (Some x) (entry_at (xs ++ ys) k) ≡ Some e → (entry_at (xs ++ ys) k ≡ Some e → (entry_at xs k ≡ Some e) ⊎ (entry_at ys k ≡ Some e)) → (cond b (Some x) (entry_at xs k) ≡ Some e) ⊎ (entry_at ys k ≡ Some e)
      by_same true q go = inl q
      by_same false q go = go q

  pub each_entry : (p : Option Handle) (d : Forest Redraw) (k : Handle) (e : PlanEntry Redraw) → Each P d → entry_at (entries p d) k ≡ Some e → P k e.update
  each_entry p none k e h is = absurd (cc)
  each_entry p (tree j u kids rest) k e h is =
      let own : PlanEntry Redraw = record { at = j; parent = p; children = tops kids; update = u } in
      elim (either_at (entries (Some j) kids) (own ∷ entries p rest) k e is) [
        | inl inner ↦ each_entry (Some j) kids k e h.1 inner
        | inr more ↦ by_same own (same k j) refl more refl (each_entry p rest k e h.2)
      ]
    where
      by_same : (own : PlanEntry Redraw) (b : Bool) → same k j ≡ b → cond b (Some own) (entry_at (entries p rest) k) ≡ Some e → own.update ≡ u → (entry_at (entries p rest) k ≡ Some e → P k e.update) → P k e.update
      by_same own true s q is_own go = subst (λ x. P x e.update) (sym (same-true k j s)) (subst (P j) (sym is_own ∙ ap (λ (y : PlanEntry Redraw). y.update) (one own e q)) h.0)
        where
          one : (x y : PlanEntry Redraw) → Some x ≡ Some y → x ≡ y
          one x y z = cc
      by_same own false s q is_own go = go q

-- ---- the plan with items

-- a handle is planned, or its node has already what the plan gives it
abbrev pub IsOwnOrStays : Tree RenderObject → Forest Redraw → Handle → Redraw → Type 0
IsOwnOrStays t d k u = In k d ⊎ ((o : RenderObject) → object_at t k ≡ Some o → u ≡ redraw_now o)

own_each : (t : Tree RenderObject) (D d : Forest Redraw) → ((k : Handle) → In k d → In k D) → Each (IsOwnOrStays t D) d
own_each t D none inside = tt
own_each t D (tree h u kids rest) inside = (
  inl (inside h (count_here h u kids rest)),
  own_each t D kids (λ k i. inside k (omega (arith, i))),
  own_each t D rest (λ k i. inside k (omega (arith, i))),
)

some_node : (x y : RenderObject) → Some x ≡ Some y → x ≡ y
some_node x y e = cc

stays_each : (t : Tree RenderObject) (D : Forest Redraw) (named : Handle → Bool) (p : Option Handle) (f : Forest RenderObject) → Stands (node_at t) p f → Each (IsOwnOrStays t D) (left_of named f)
stays_each t D named p none stands = tt
stays_each t D named p (tree h v kids rest) stands = by_test (named h) (stays_each t D named (Some h) kids stands.1) (stays_each t D named p rest stands.2)
  where
    by_test : (b : Bool) → Each (IsOwnOrStays t D) (left_of named kids) → Each (IsOwnOrStays t D) (left_of named rest)
        → Each (IsOwnOrStays t D) (map_values (λ k (o : RenderObject). redraw_now o) (cond b (pruned named rest) (tree h v (pruned named kids) (pruned named rest))))
    by_test true inner later = later
    by_test false inner later = (inr (λ o at. ap redraw_now (some_node v o (sym (ap (option_map (λ (n : TreeNode RenderObject). n.value)) stands.0) ∙ at))), inner, later)

-- a node below another has a parent
abbrev HasParent : {T : Type 0} → (Handle → Option (TreeNode T)) → Handle → Type 0
HasParent {T} at k = (n : TreeNode T) × (q : Handle) × (at k ≡ Some n) × (n.parent ≡ Some q)

module _ {T : Type 0} (at : Handle → Option (TreeNode T)) (k : Handle) where
  below_parent : (p : Handle) (f : Forest T) → Stands at (Some p) f → In k f → HasParent at k
  below_parent p none stands i = absurd (omega (arith, i))
  below_parent p (tree h v kids rest) stands i = by_same (same h k) refl (λ j. below_parent h kids stands.1 j) (λ j. below_parent p rest stands.2 j)
    where
      by_kids : (n : ℕ) → count k kids ≡ n → same h k ≡ false → (In k kids → HasParent at k) → (In k rest → HasParent at k) → HasParent at k
      by_kids zero e s inner later = later (let z = ap (λ b. cond {A = ℕ} b 1 0) s in omega (arith, i, z, e))
      by_kids (suc n) e s inner later = inner (omega (arith, e))

      by_same : (b : Bool) → same h k ≡ b → (In k kids → HasParent at k) → (In k rest → HasParent at k) → HasParent at k
      by_same true s inner later = (record { parent = Some p; children = tops kids; value = v }, p, ap at (sym (same-true h k s)) ∙ stands.0, refl)
      by_same false s inner later = by_kids (count k kids) refl s inner later

pruned_few : {T : Type 0} (k : Handle) (named : Handle → Bool) (f : Forest T) → count k (pruned named f) ≤ count k f
pruned_few k named none = omega arith
pruned_few k named (tree h v kids rest) = by_test (named h) (pruned_few k named kids) (pruned_few k named rest)
  where
    by_test : (b : Bool) → count k (pruned named kids) ≤ count k kids → count k (pruned named rest) ≤ count k rest → count k (cond b (pruned named rest) (tree h v (pruned named kids) (pruned named rest))) ≤ count k (tree h v kids rest)
    by_test true inner later = omega (arith, later)
    by_test false inner later = omega (arith, inner, later)

module _ (t : Tree RenderObject) (f : Forest RenderObject) (is : Is t f) (d : Forest Redraw) (live : (k : Handle) → In k d → IsNode t k) (bare_d : AreBare lists_redraw d) where
  abbrev named : Handle → Bool
  named = is_named (entries None d)

  holds : (l : Handle) → In l d → Holds t l
  holds l i = Holds-from_Is t f l is (live l i)

  stays_of : (hs : List Handle) → ((l : Handle) → Among l hs → In l d) → EachOf (IsOwnOrStays t d) (map (left_items t named) hs)
  stays_of [] inside = tt
  stays_of (l ∷ hs) inside = (
    stays_each t d named (Some l) (below (subtree_at t l)) (below-stands t l (holds l (inside l (omega (arith, times_here l hs))))).0,
    stays_of hs (λ j a. inside j (omega (arith, a, times-cons j l hs))),
  )

  pub each_stays : Each (IsOwnOrStays t d) (with_items t d)
  each_stays =
      (each_grown (IsOwnOrStays t d) d (map (left_items t named) (list_handles lists_redraw d)) (own_each t d d (λ k i. i)) (stays_of (list_handles lists_redraw d) (listed_in_plan d))).0

  -- an item that stays is below a node
  item_parent : (k : Handle) (hs : List Handle) → ((l : Handle) → Among l hs → In l d) → 1 ≤ counts k (map (left_items t named) hs) → HasParent (node_at t) k
  item_parent k [] inside i = absurd (omega (arith, i))
  item_parent k (l ∷ hs) inside i =
      by_count (count k (left_items t named l)) refl (below-stands t l (holds l (inside l (omega (arith, times_here l hs))))).0
      (λ j. item_parent k hs (λ j a. inside j (omega (arith, a, times-cons j l hs))) j)
    where
      by_count : (n : ℕ) → count k (left_items t named l) ≡ n → Stands (node_at t) (Some l) (below (subtree_at t l)) → (1 ≤ counts k (map (left_items t named) hs) → HasParent (node_at t) k) → HasParent (node_at t) k
      by_count zero e stands go = go (omega (arith, i, e))
      by_count (suc n) e stands go =
          let mapped = weigh-map (λ h (o : RenderObject). redraw_now o) (λ j. cond {A = ℕ} (same j k) 1 0) (pruned named (below (subtree_at t l))) in
          let few = pruned_few k named (below (subtree_at t l)) in
          below_parent (node_at t) k l (below (subtree_at t l)) stands (omega (arith, e, mapped, few))

  -- each node of the plan with items is planned, or was there when the new ones were made
  pub item_was : (was : Tree RenderObject) (low high : ℕ) → MakesNodes low high was t → (k : Handle) → In k (with_items t d) → In k d ⊎ IsNode was k
  item_was was low high makes k i = by_count (count k d) refl
    where
      by_node : (o : Option (TreeNode RenderObject)) → node_at was k ≡ o → HasParent (node_at t) k → IsNode was k
      by_node (Some n) at m = subst IsSome (sym at) refl
      by_node None at m = absurd (no_parent m.1 (sym (ap (λ (n : TreeNode RenderObject). n.parent) (makes.fresh k m.0 at m.2).2) ∙ m.3))
        where
          no_parent : (q : Handle) → None ≡ Some q → ⊥
          no_parent q e = cc

      by_count : (n : ℕ) → count k d ≡ n → In k d ⊎ IsNode was k
      by_count (suc n) e = inl (omega (arith, e))
      by_count zero e =
          inr (by_node (node_at was k) refl (item_parent k (list_handles lists_redraw d) (listed_in_plan d)
          (let all = grown_counts lists_redraw k d (map (left_items t named) (list_handles lists_redraw d)) bare_d in omega (arith, all, e, i))))

-- ---- what marks and commits leave of a node

module _ (m : Marking RenderObject) (widget : (f b : Bool) (o : RenderObject) → (m.marked f b o).widget ≡ o.widget) (told : (f b : Bool) (o : RenderObject) → (m.marked f b o).parent_data ≡ o.parent_data)
    (t u : Tree RenderObject) (only : OnlyMarks m t u) (absent : (k : Handle) → node_at t k ≡ None → node_at u k ≡ None) where
  marked_from : (k : Handle) (q : Option (TreeNode RenderObject)) → node_at t k ≡ q → (v : RenderObject) → object_at u k ≡ Some v → HadAlready t k v
  marked_from k None at v stored = absurd (let gone = ap (option_map (λ (x : TreeNode RenderObject). x.value)) (absent k at) in cc)
  marked_from k (Some n) at v stored =
      let marked = only k n at in
      let is : m.marked marked.0 marked.1 n.value ≡ v = some_node (m.marked marked.0 marked.1 n.value) v (sym (ap (option_map (λ (x : TreeNode RenderObject). x.value)) marked.2) ∙ stored) in
      record {
        object = n.value;
        stored = ap (option_map (λ (x : TreeNode RenderObject). x.value)) at;
        widget = ap (λ (o : RenderObject). o.widget) (sym is) ∙ widget marked.0 marked.1 n.value;
        parent_data = ap (λ (o : RenderObject). o.parent_data) (sym is) ∙ told marked.0 marked.1 n.value;
      }

  pub had_before_marks : (k : Handle) (v : RenderObject) → object_at u k ≡ Some v → HadAlready t k v
  had_before_marks k = marked_from k (node_at t k) refl

pub had_both : (r s : Tree RenderObject) (k : Handle) (v : RenderObject) → (h : HadAlready s k v) → HadAlready r k h.object → HadAlready r k v
had_both r s k v h g = record { object = g.object; stored = g.stored; widget = h.widget ∙ g.widget; parent_data = h.parent_data ∙ g.parent_data }

module _ (t u : Tree RenderObject) (d D : Forest Redraw) (each : Each (IsOwnOrStays t d) D) (commits : CommitsPart redrawn (entries None D) t.nodes u.nodes) where
  committed_from : (k : Handle) (x : Option (PlanEntry Redraw)) (q : Option (TreeNode RenderObject)) → entry_at (entries None D) k ≡ x → node_at t k ≡ q → (v : RenderObject)
      → option_map (λ (n : TreeNode RenderObject). n.value) (kept_by redrawn x (entries None D) k q) ≡ Some v → In k d ⊎ HadAlready t k v
  committed_from k None None by at v e = absurd (no_value v e)
    where
      no_value : (w : RenderObject) → None ≡ Some w → ⊥
      no_value w q = cc
  committed_from k (Some y) None by at v e = absurd (no_value v e)
    where
      no_value : (w : RenderObject) → None ≡ Some w → ⊥
      no_value w q = cc
  committed_from k None (Some n) by at v e =
      let is = some_node n.value v e in
      inr (record {
        object = n.value;
        stored = ap (option_map (λ (y : TreeNode RenderObject). y.value)) at;
        widget = ap (λ (o : RenderObject). o.widget) (sym is);
        parent_data = ap (λ (o : RenderObject). o.parent_data) (sym is);
      })
  committed_from k (Some y) (Some n) by at v e =
      elim (each_entry (IsOwnOrStays t d) None D k y each by) [
        | inl planned ↦ inl planned
        | inr stays ↦
            let stored = ap (option_map (λ (z : TreeNode RenderObject). z.value)) at in
            let is = some_node (redrawn y.update n.value) v e in
            let same = stays n.value stored in
            inr (record {
              object = n.value;
              stored = stored;
              widget = ap (λ (o : RenderObject). o.widget) (sym is) ∙ ap (λ (u : Redraw). u.widget) same;
              parent_data = ap (λ (o : RenderObject). o.parent_data) (sym is) ∙ ap (λ (u : Redraw). u.parent_data) same;
            })
      ]

  pub had_before_commit : (k : Handle) (v : RenderObject) → object_at u k ≡ Some v → In k d ⊎ HadAlready t k v
  had_before_commit k v stored =
      committed_from k (entry_at (entries None D) k) (node_at t k) refl refl v (sym (ap (option_map (λ (n : TreeNode RenderObject). n.value)) (commits.nodes k)) ∙ stored)

-- ---- what stands

module _ (was made r : Tree RenderObject) (low high : ℕ) (makes : MakesNodes low high was made) (f : Forest RenderObject) (is : Is made f) (F : Forest Element) (scrolled : ℕ → ℕ) (drawn_there : AreDrawn (object_at made) scrolled F)
    (live : (k : Handle) → In k (drawn Plain None F) → IsNode made k) (bare_d : AreBare lists_redraw (drawn Plain None F)) (x : IsPartRedrawn made r (with_items made (drawn Plain None F)))
    (rendered : (g : Forest RenderObject) → IsUpdated redrawn (object_at made) (drawn Plain None F) g → renders_of g ≡ renders_listed (projected_all Plain None (listed (nodes_of scrolled F)))) where
  abbrev d : Forest Redraw
  d = drawn Plain None F

  abbrev items : List (Forest Redraw)
  items = map (left_items made (is_named (entries None d))) (list_handles lists_redraw d)

  abbrev once : Forest RenderObject → Forest RenderObject
  once g = sweep layout_marks true (x.laid ++ x.lost) at_top g

  abbrev twice : Forest RenderObject → Forest RenderObject
  twice g = sweep paint_marks true (x.painted ++ x.lost) at_top (once g)

  without : IsUpdated redrawn (object_at made) d (bare lists_object x.nodes)
  without = bare_updated (object_at made) d items x.nodes bare_d x.updated

  pub kept_drawn : KeepsDrawn made r
  kept_drawn =
      keeps_both made x.committed r (keeps_part made x.committed (entries None (with_items made d)) x.commits)
      (keeps_both x.committed x.laid_marked r (λ k. marks_keep layout_marks (λ a b o. refl) (λ a b o. refl) x.committed x.laid_marked x.layouts.only k)
      (λ k. marks_keep paint_marks (λ a b o. refl) (λ a b o. refl) x.laid_marked r x.paints.only k))

  bare_in : (k : Handle) → In k d → In k (bare lists_object (twice x.nodes))
  bare_in k i =
      let a = swept_bare_count paint_marks (λ a b o. refl) (λ a b o rs. refl) true (x.painted ++ x.lost) k at_top (once x.nodes) in
      let b = swept_bare_count layout_marks (λ a b o. refl) (λ a b o rs. refl) true (x.laid ++ x.lost) k at_top x.nodes in
      let c = weigh-updated redrawn (λ j. cond {A = ℕ} (same j k) 1 0) (object_at made) d (bare lists_object x.nodes) without in
      omega (arith, i, a, b, c)

  in_plan : (k : Handle) → In k (twice x.nodes) → In k (with_items made d)
  in_plan k i =
      let a = swept_count paint_marks (λ a b o. refl) (λ a b o rs. refl) true (x.painted ++ x.lost) k at_top (once x.nodes) in
      let b = swept_count layout_marks (λ a b o. refl) (λ a b o rs. refl) true (x.laid ++ x.lost) k at_top x.nodes in
      let c = weigh-updated redrawn (λ j. cond {A = ℕ} (same j k) 1 0) (object_at made) (with_items made d) x.nodes x.updated in
      omega (arith, i, a, b, c)

  pub with_items_stand : (old : Option PlainNode) → option_to_list old ≡ nodes_of scrolled F → RendersStandWithItems old scrolled F was made r
  with_items_stand old nodes =
      let laid_is : Is x.laid_marked (append (once x.nodes) (once x.others)) =
      subst (Is x.laid_marked) (swept_parts layout_marks true (x.laid ++ x.lost) at_top x.nodes x.others) (x.layouts.plain (append x.nodes x.others) x.is) in
      record {
        drawn = drawn_on made r scrolled F kept_drawn drawn_there;
        objects = twice x.nodes;
        others = twice x.others;
        is = subst (Is r) (swept_parts paint_marks true (x.painted ++ x.lost) at_top (once x.nodes) (once x.others)) (x.paints.plain (append (once x.nodes) (once x.others)) laid_is);
        root =
            ap option_to_list (x.paints.root ∙ x.layouts.root) ∙ x.root
            ∙ sym (swept_tops paint_marks true (x.painted ++ x.lost) at_top (once x.nodes) ∙ swept_tops layout_marks true (x.laid ++ x.lost) at_top x.nodes);
        projected =
            swept_bare paint_marks (λ a b o. refl) (λ a b o rs. refl) true (x.painted ++ x.lost) at_top (once x.nodes)
            ∙ swept_bare layout_marks (λ a b o. refl) (λ a b o rs. refl) true (x.laid ++ x.lost) at_top x.nodes
            ∙ rendered (bare lists_object x.nodes) without
            ∙ ap (λ ns. renders_listed (projected_all Plain None (listed ns))) (sym nodes);
        items = λ k i. elim (item_was made f is d live bare_d was low high makes k (in_plan k i)) [ inl own ↦ inl (bare_in k own) | inr there ↦ inr there ];
        rest = λ k v stored.
            let late = had_before_marks paint_marks (λ a b o. refl) (λ a b o. refl) x.laid_marked r x.paints.only x.paints.absent k v stored in
            let early = had_before_marks layout_marks (λ a b o. refl) (λ a b o. refl) x.committed x.laid_marked x.layouts.only x.layouts.absent k late.object late.stored in
            elim (had_before_commit made x.committed d (with_items made d) (each_stays made f is d live bare_d) x.commits k early.object early.stored) [
              | inl own ↦ inl (bare_in k own)
              | inr had ↦ inr (had_both made x.laid_marked k v late (had_both made x.committed k late.object early had))
            ];
      }
