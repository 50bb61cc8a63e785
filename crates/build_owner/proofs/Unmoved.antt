-- Lazy lists that keep their items aren't among the nodes that a plan changes.
use Rattle.std.proofs.Common.{◌≡◌, ◌⊎◌, ℕ, zero, suc, ◌+◌, ◌≤◌, Bool, true, false, not, cond, Option, Some, None, IsSome, option_map, List, [], ◌∷◌, ◌++◌, map, filter, inl, inr, refl, sym, ap, ◌∙◌, subst, arith}
use Rattle.std.proofs.lemmas.Bool.{false≢true}
use Rattle.std.proofs.lemmas.List.{append-nil}
use Rattle.fx_handles.specs.declared.Handle.{Handle}
use Rattle.fx_handles.specs.Handle.{same, times, Among}
use Rattle.fx_handles.specs.HandleLaws.{same_self, times-cons, times_here}
use Rattle.node_tree.specs.Forest.{TreeNode, Forest, tops, count, In, IsDistinct, below, pruned, map_values, Stands}
use Rattle.node_tree.specs.Forest.Forest.{none, tree}
use Rattle.node_tree.specs.Part.{is_named, CommitsPart, kept_by}
use Rattle.node_tree.specs.Plan.{PlanEntry, entries, planned, entry_at, IsUpdated}
use Rattle.node_tree.specs.Tree.{Tree, IsNode, Is, Holds, node_at, parent_of, children_of, parent_at, children_at, subtree_at}
use Rattle.node_tree.proofs.Children.{below-stands, tops-map}
use Rattle.node_tree.proofs.ForestLemmas.{count_here}
use Rattle.node_tree.proofs.Handles.{times-append}
use Rattle.node_tree.proofs.PartForests.{tops-pruned}
use Rattle.node_tree.proofs.PlanLemmas.{times-entries, entry-named, entry-some}
use Rattle.node_tree.proofs.TreeLemmas.{Holds-from_Is, parent_lists}
use Rattle.tree_marks.specs.Marking.{Marking}
use Rattle.tree_marks.specs.Marks.{listed}
use Rattle.tree_marks.specs.Ways.{OnlyMarks}
use Rattle.render_tree.specs.Changes.{hides_at, KeepsOwn, KeepsLook, KeepsTold, KeepsList, EachEntry, SomeEntry, LaidAnew, PaintedAnew}
use Rattle.render_tree.specs.Marks.{layout_told}
use Rattle.render_tree.specs.Object.{RenderObject}
use Rattle.render_tree.specs.Redraw.{Redraw, redrawn}
use Rattle.render_tree.specs.Tree.{object_at}
use Rattle.build_walk.specs.Merging.{lists_redraw, Grown, grown, grown_below, grow, list_handles, AreBare}
use Rattle.build_owner.specs.Losing.{LeavesAt}
use Rattle.build_owner.specs.Staying.{redraw_now, left_of, left_items, with_items}
use Rattle.build_owner.specs.Unmarked.{LeavesLaid, LeavesPainted, KeepsItems}
use Rattle.build_owner.proofs.Apart.{in_named, listed_in_plan, list_counts, has_among}

-- ---- what nothing causes isn't reported

pub none_of : (P : PlanEntry Redraw → Type 0) (es : List (PlanEntry Redraw)) → EachEntry (λ e. P e → ⊥) es → SomeEntry P es → ⊥
none_of P [] each some = some
none_of P (e ∷ es) each (inl p) = each.0 p
none_of P (e ∷ es) each (inr more) = none_of P es each.1 more

pub each_so : (P Q : PlanEntry Redraw → Type 0) (es : List (PlanEntry Redraw)) → ((e : PlanEntry Redraw) → P e → Q e) → EachEntry P es → EachEntry Q es
each_so P Q [] f h = tt
each_so P Q (e ∷ es) f h = (f e h.0, each_so P Q es f h.1)

each_two : (P Q : PlanEntry Redraw → Type 0) (es : List (PlanEntry Redraw)) → EachEntry P es → EachEntry Q es → EachEntry (λ e. P e × Q e) es
each_two P Q [] h k = tt
each_two P Q (e ∷ es) h k = ((h.0, k.0), each_two P Q es h.1 k.1)

pub by_listed : (b : Bool) → (b ≡ true → ⊥) → b ≡ false
by_listed true never = absurd (never refl)
by_listed false never = refl

pub not_laid : (t : Tree RenderObject) (root : Option Handle) (es : List (PlanEntry Redraw)) (hs : List Handle) (k : Handle) → LaidAnew t root es hs → LeavesLaid t root es k → listed k hs ≡ false
not_laid t root es hs k anew leaves =
    by_listed (listed k hs) (λ on. elim (anew.caused k on) [
      | inl some ↦
          none_of _ es (each_so _ _ es (λ e both change. elim change [
            | inl own ↦ own.1 (both.0 own.0)
            | inr told ↦ told.1 (both.1 told.0)
          ]) (each_two (λ e. e.at ≡ k → KeepsOwn t e × KeepsList t e) (λ e. e.parent ≡ Some k → KeepsTold t e) es leaves.own leaves.told)) some
      | inr becomes ↦ leaves.top becomes
    ])

pub not_painted : (t : Tree RenderObject) (root : Option Handle) (es : List (PlanEntry Redraw)) (hs : List Handle) (k : Handle) → PaintedAnew t root es hs → LeavesPainted t root es k → listed k hs ≡ false
not_painted t root es hs k anew leaves =
    by_listed (listed k hs) (λ on. elim (anew.caused k on) [
      | inl some ↦ none_of _ es (each_so _ _ es (λ e own change. change.1 (own change.0)) leaves.own) some
      | inr becomes ↦ leaves.top becomes
    ])

-- ---- a plan with items, node by node

-- each lazy list has what belongs to its handle below it
abbrev with_below : (Handle → Forest Redraw) → Forest Redraw → Forest Redraw
with_below items none = none
with_below items (tree h u kids rest) = tree h u (cond (lists_redraw u) (items h) (with_below items kids)) (with_below items rest)

module _ (items : Handle → Forest Redraw) where
  append_map : (xs ys : List Handle) (more : List (Forest Redraw)) → map items (xs ++ ys) ++ more ≡ map items xs ++ (map items ys ++ more)
  append_map [] ys more = refl
  append_map (x ∷ xs) ys more = ap (λ l. items x ∷ l) (append_map xs ys more)

  below_each : (t : Bool) (h : Handle) (kids : Forest Redraw) (more : List (Forest Redraw)) → ((gs : List (Forest Redraw)) → grow lists_redraw kids (map items (list_handles lists_redraw kids) ++ gs) ≡ grown (with_below items kids) gs)
      → grown_below t (map items (cond t (h ∷ []) (list_handles lists_redraw kids)) ++ more) (grow lists_redraw kids (map items (cond t (h ∷ []) (list_handles lists_redraw kids)) ++ more))
      ≡ grown (cond t (items h) (with_below items kids)) more
  below_each true h kids more go = refl
  below_each false h kids more go = go more

  pub grown_each : (d : Forest Redraw) (more : List (Forest Redraw)) → grow lists_redraw d (map items (list_handles lists_redraw d) ++ more) ≡ grown (with_below items d) more
  grown_each none more = refl
  grown_each (tree h u kids rest) more =
      let own = cond (lists_redraw u) (h ∷ []) (list_handles lists_redraw kids) in
      let later = map items (list_handles lists_redraw rest) ++ more in
      ap (grow lists_redraw (tree h u kids rest)) (append_map own (list_handles lists_redraw rest) more)
      ∙ ap (λ (b : Grown Redraw). grown (tree h u b.forest (grow lists_redraw rest b.rest).forest) (grow lists_redraw rest b.rest).rest) (below_each (lists_redraw u) h kids later (grown_each kids))
      ∙ ap (λ (b : Grown Redraw). grown (tree h u (cond (lists_redraw u) (items h) (with_below items kids)) b.forest) b.rest) (grown_each rest more)

pub items_each : (t : Tree RenderObject) (d : Forest Redraw) → with_items t d ≡ with_below (left_items t (is_named (entries None d))) d
items_each t d =
    let g = left_items t (is_named (entries None d)) in
    ap (λ gs. (grow lists_redraw d gs).forest) (sym (append-nil (map g (list_handles lists_redraw d)))) ∙ ap (λ (x : Grown Redraw). x.forest) (grown_each g d [])

-- ---- what holds of each entry of a forest

abbrev EachAt : (PlanEntry Redraw → Type 0) → Option Handle → Forest Redraw → Type 0
EachAt Q p none = Unit {0}
EachAt Q p (tree h u kids rest) = Q (record { at = h; parent = p; children = tops kids; update = u }) × EachAt Q (Some h) kids × EachAt Q p rest

both_lists : (Q : PlanEntry Redraw → Type 0) (xs ys : List (PlanEntry Redraw)) → EachEntry Q xs → EachEntry Q ys → EachEntry Q (xs ++ ys)
both_lists Q [] ys h k = k
both_lists Q (x ∷ xs) ys h k = (h.0, both_lists Q xs ys h.1 k)

front_of : (Q : PlanEntry Redraw → Type 0) (xs ys : List (PlanEntry Redraw)) → EachEntry Q (xs ++ ys) → EachEntry Q xs × EachEntry Q ys
front_of Q [] ys h = (tt, h)
front_of Q (x ∷ xs) ys h = let more = front_of Q xs ys h.1 in ((h.0, more.0), more.1)

entries_each : (Q : PlanEntry Redraw → Type 0) (p : Option Handle) (f : Forest Redraw) → EachAt Q p f → EachEntry Q (entries p f)
entries_each Q p none h = tt
entries_each Q p (tree k u kids rest) h =
    both_lists Q (entries (Some k) kids) (record { at = k; parent = p; children = tops kids; update = u } ∷ entries p rest) (entries_each Q (Some k) kids h.1) (h.0, entries_each Q p rest h.2)

each_entries : (Q : PlanEntry Redraw → Type 0) (p : Option Handle) (f : Forest Redraw) → EachEntry Q (entries p f) → EachAt Q p f
each_entries Q p none h = tt
each_entries Q p (tree k u kids rest) h =
    let parts = front_of Q (entries (Some k) kids) (record { at = k; parent = p; children = tops kids; update = u } ∷ entries p rest) h in
    (parts.1.0, each_entries Q (Some k) kids parts.0, each_entries Q p rest parts.1.1)

-- ---- a list that keeps its items

-- its entry is that of a lazy list
list_entry : (k : Handle) (p : Option Handle) (d : Forest Redraw) → IsDistinct d → (In k d → Among k (list_handles lists_redraw d)) → EachAt (λ e. e.at ≡ k → lists_redraw e.update ≡ true) p d
list_entry k p none distinct list = tt
list_entry k p (tree h u kids rest) distinct list = (
  λ at. by_test (lists_redraw u) refl (list (subst (λ x. In x (tree h u kids rest)) at (count_here h u kids rest))) at,
  list_entry k (Some h) kids (λ j. omega (arith, distinct j)) (λ i. inner (lists_redraw u) refl i (list (omega (arith, i)))),
  list_entry k p rest (λ j. omega (arith, distinct j)) (λ i. later (lists_redraw u) i (list (omega (arith, i)))),
)
  where
    few : (f : Forest Redraw) → times k (list_handles lists_redraw f) ≤ count k f
    few f = list_counts lists_redraw k f

    by_test : (b : Bool) → lists_redraw u ≡ b → Among k (cond b (h ∷ []) (list_handles lists_redraw kids) ++ list_handles lists_redraw rest) → h ≡ k → b ≡ true
    by_test true is a at = refl
    by_test false is a at =
        let one : cond {A = ℕ} (same h k) 1 0 ≡ 1 = ap (λ b. cond {A = ℕ} b 1 0) (subst (λ x. same h x ≡ true) at (same_self h)) in
        absurd (omega (arith, a, times-append k (list_handles lists_redraw kids) (list_handles lists_redraw rest), few kids, few rest, one, distinct k))

    inner : (b : Bool) → lists_redraw u ≡ b → In k kids → Among k (cond b (h ∷ []) (list_handles lists_redraw kids) ++ list_handles lists_redraw rest) → Among k (list_handles lists_redraw kids)
    inner true is i a =
        absurd (omega (arith, a, times-cons k h (list_handles lists_redraw rest), few rest, i, distinct k))
    inner false is i a = omega (arith, a, times-append k (list_handles lists_redraw kids) (list_handles lists_redraw rest), few rest, i, distinct k)

    later : (b : Bool) → In k rest → Among k (cond b (h ∷ []) (list_handles lists_redraw kids) ++ list_handles lists_redraw rest) → Among k (list_handles lists_redraw rest)
    later true i a = omega (arith, a, times-cons k h (list_handles lists_redraw rest), i, distinct k)
    later false i a = omega (arith, a, times-append k (list_handles lists_redraw kids) (list_handles lists_redraw rest), few kids, i, distinct k)

filter_all : (named : Handle → Bool) (hs : List Handle) → ((c : Handle) → Among c hs → named c ≡ false) → filter (λ h. not (named h)) hs ≡ hs
filter_all named [] none_is = refl
filter_all named (h ∷ hs) none_is =
    ap (λ b. cond (not b) (h ∷ filter (λ j. not (named j)) hs) (filter (λ j. not (named j)) hs)) (none_is h (omega (arith, times_here h hs)))
    ∙ ap (λ l. h ∷ l) (filter_all named hs (λ c a. none_is c (omega (arith, a, times-cons c h hs))))

some_object : (x y : RenderObject) → Some x ≡ Some y → x ≡ y
some_object x y e = cc

some_handle : (x y : Handle) → Some x ≡ Some y → x ≡ y
some_handle x y e = cc

module _ (t : Tree RenderObject) (f : Forest RenderObject) (is : Is t f) (d : Forest Redraw) (k : Handle) (keeps : KeepsItems t d k) (live : (l : Handle) → In l d → IsNode t l) (Own : Handle → Redraw → Type 0) where
  abbrev named : Handle → Bool
  named = is_named (entries None d)

  -- the plan leaves the list what it has
  abbrev pub Calm : PlanEntry Redraw → Type 0
  Calm e = (e.at ≡ k → Own e.at e.update × KeepsList t e) × (e.parent ≡ Some k → KeepsTold t e) × (LeavesAt t k e → ⊥)

  k_named : named k ≡ true
  k_named = in_named d k (listed_in_plan d k keeps.list)

  unclaimed : (c : Handle) → Among c (children_at t k) → named c ≡ false
  unclaimed c a = by_listed (named c) (λ n. keeps.unclaimed c a (has_among c (planned (entries None d)) n))

  list_tops : tops (left_items t named k) ≡ children_at t k
  list_tops =
      let holds = Holds-from_Is t f k is (live k (listed_in_plan d k keeps.list)) in
      tops-map (λ h (o : RenderObject). redraw_now o) (pruned named (below (subtree_at t k)))
      ∙ tops-pruned named (below (subtree_at t k))
      ∙ ap (filter (λ h. not (named h))) (below-stands t k holds).1
      ∙ filter_all named (children_at t k) unclaimed

  -- so does each entry of what stays
  stays_calm : (q : Handle) (g : Forest RenderObject) → Stands (node_at t) (Some q) g → EachAt Calm (Some q) (left_of named g)
  stays_calm q none stands = tt
  stays_calm q (tree h v kids rest) stands = by_test (named h) refl (stays_calm h kids stands.1) (stays_calm q rest stands.2)
    where
      told : KeepsTold t (record { at = h; parent = Some q; children = tops (left_of named kids); update = redraw_now v })
      told o at = ap (λ x. layout_told (hides_at t (Some q)) (redrawn (redraw_now x) o)) (some_object v o (sym (ap (option_map (λ (n : TreeNode RenderObject). n.value)) stands.0) ∙ at))

      by_test : (b : Bool) → named h ≡ b → EachAt Calm (Some h) (left_of named kids) → EachAt Calm (Some q) (left_of named rest)
          → EachAt Calm (Some q) (map_values (λ j (o : RenderObject). redraw_now o) (cond b (pruned named rest) (tree h v (pruned named kids) (pruned named rest))))
      by_test true n inner later = later
      by_test false n inner later = (
        (λ at. absurd (false≢true (sym n ∙ ap named at ∙ k_named)), λ parent. told, λ leaves. leaves.1 (sym (ap parent_of stands.0) ∙ leaves.0)),
        inner,
        later,
      )

  -- and each of the plan
  plan_calm : (p : Option Handle) (D : Forest Redraw) → ((j : Handle) → In j D → In j d) → AreBare lists_redraw D → EachAt (λ e. e.at ≡ k → lists_redraw e.update ≡ true) p D → EachAt (λ e. e.at ≡ k → Own e.at e.update) p D
      → (p ≡ Some k → ⊥) → EachAt Calm p (with_below (left_items t named) D)
  plan_calm p none inside bare list own no_list = tt
  plan_calm p (tree h u kids rest) inside bare list own no_list =
      let here = inside h (count_here h u kids rest) in (
        (
          λ at. (own.0 at, tops_are (lists_redraw u) (list.0 at) at),
          λ parent. absurd (no_list parent),
          λ leaves. keeps.unclaimed h (parent_lists t f h k is leaves.0).1 (let e = times-entries h None d in omega (arith, here, e)),
        ),
        by_test (lists_redraw u) refl (stays_calm h (below (subtree_at t h)) (below-stands t h (Holds-from_Is t f h is (live h here))).0)
            (λ b. plan_calm (Some h) kids (λ j i. inside j (omega (arith, i))) bare.1 list.1 own.1 b),
        plan_calm p rest (λ j i. inside j (omega (arith, i))) bare.2 list.2 own.2 no_list,
      )
    where
      tops_are : (b : Bool) → b ≡ true → h ≡ k → tops (cond b (left_items t named h) (with_below (left_items t named) kids)) ≡ children_at t h
      tops_are true is at = subst (λ x. tops (left_items t named x) ≡ children_at t x) (sym at) list_tops
      tops_are false is at = absurd (false≢true is)

      by_test : (b : Bool) → lists_redraw u ≡ b → EachAt Calm (Some h) (left_items t named h) → ((Some h ≡ Some k → ⊥) → EachAt Calm (Some h) (with_below (left_items t named) kids))
          → EachAt Calm (Some h) (cond b (left_items t named h) (with_below (left_items t named) kids))
      by_test true is items go = items
      by_test false is items go = go (λ e. false≢true (sym is ∙ list.0 (some_handle h k e)))

  pub all_calm : IsDistinct d → AreBare lists_redraw d → EachEntry (λ e. e.at ≡ k → Own e.at e.update) (entries None d) → EachEntry Calm (entries None (with_items t d))
  all_calm distinct bare own =
      entries_each Calm None (with_items t d)
      (subst (EachAt Calm None) (sym (items_each t d))
      (plan_calm None d (λ j i. i) bare (list_entry k None d distinct (λ i. keeps.list)) (each_entries (λ e. e.at ≡ k → Own e.at e.update) None d own) (λ e. absurd (no_top e))))
    where
      no_top : None ≡ Some k → ⊥
      no_top e = cc

-- ---- the list in the tree after it

entry_each : (P : PlanEntry Redraw → Type 0) (es : List (PlanEntry Redraw)) (k : Handle) (e : PlanEntry Redraw) → EachEntry P es → entry_at es k ≡ Some e → P e
entry_each P [] k e h is = absurd (cc)
entry_each P (x ∷ xs) k e h is = by_same (same k x.at) is (λ q. entry_each P xs k e h.1 q)
  where
    by_same : (b : Bool) → cond b (Some x) (entry_at xs k) ≡ Some e → (entry_at xs k ≡ Some e → P e) → P e
    by_same true q go = subst P (one x e q) h.0
      where
        one : (a b : PlanEntry Redraw) → Some a ≡ Some b → a ≡ b
        one a b z = cc
    by_same false q go = go q

module _ (m : Marking RenderObject) (t u : Tree RenderObject) (only : OnlyMarks m t u) (absent : (k : Handle) → node_at t k ≡ None → node_at u k ≡ None) where
  marked_children : (k : Handle) (o : Option (TreeNode RenderObject)) → node_at t k ≡ o → children_at u k ≡ children_of o
  marked_children k None at = ap children_of (absent k at)
  marked_children k (Some n) at = ap children_of (only k n at).2

  pub marks_keep_children : (k : Handle) → children_at u k ≡ children_at t k
  marks_keep_children k = marked_children k (node_at t k) refl

module _ (t u : Tree RenderObject) (es : List (PlanEntry Redraw)) (commits : CommitsPart redrawn es t.nodes u.nodes) (k : Handle) where
  by_entry : (x : Option (PlanEntry Redraw)) (o : Option (TreeNode RenderObject)) → ((e : PlanEntry Redraw) → x ≡ Some e → e.children ≡ children_of o) → IsSome x → children_of (kept_by redrawn x es k o) ≡ children_of o
  by_entry None o list some = absurd (cc)
  by_entry (Some e) None list some = refl
  by_entry (Some e) (Some n) list some = list e refl

  pub commit_keeps_children : EachEntry (λ e. e.at ≡ k → KeepsList t e) es → Among k (planned es) → children_at u k ≡ children_at t k
  commit_keeps_children each among =
      let found = entry-named es k among in
      ap children_of (commits.nodes k)
      ∙ by_entry (entry_at es k) (node_at t k)
      (λ e at. let place = sym (entry-some es k e at).0 in entry_each (λ x. x.at ≡ k → KeepsList t x) es k e each at place ∙ ap (children_at t) place) (subst IsSome (sym found.1) refl)
