-- Lemmas on trees after the commit of a plan for a part.
use Rattle.std.proofs.Common.{◌≡◌, ◌≢◌, ℕ, ◌+◌, ◌≤◌, Bool, true, false, cond, not, ◌&&◌, List, [], ◌∷◌, ◌++◌, Option, Some, None, IsSome, option_map, refl, sym, ap, ◌∙◌, subst, inl, inr, arith}
use Rattle.std.proofs.lemmas.Bool.{cases_Bool, and_from, and_parts, or_cases, not_from_false}
use Rattle.std.proofs.lemmas.List.{append_assoc}
use Rattle.std.specs.Option.{option_to_list}
use Rattle.fx_handles.specs.declared.Handle.{Handle}
use Rattle.fx_handles.specs.Handle.{same, times, Among, AreDistinct}
use Rattle.fx_handles.specs.HandleLaws.{same_self, same-eq, same-ne, cases_same, times-cons, times_here}
use Rattle.fx_handles.specs.ArenaLaws.{some_of}
use Rattle.node_tree.specs.Forest.{TreeNode, Forest, tops, count, In, IsDistinct, append, tree_of, pruned, Stands}
use Rattle.node_tree.specs.Forest.Forest.{none, tree}
use Rattle.node_tree.specs.Tree.{Tree, node_at, IsNode, parent_of, children_of, parent_at, children_at, value_at, tops_at, subtree_at, Is}
use Rattle.node_tree.specs.Plan.{PlanEntry, planned, entries, entry_at, relinked, IsPlan, IsUpdated}
use Rattle.node_tree.specs.Part.{has, is_named, is_listed, unnamed, unspoken, left_parent, left_node, left_below, left_tops, left_forest, kept_by, kept, IsPartPlan, CommitsPart}
use Rattle.node_tree.proofs.ForestLemmas.{same_Some, hit-false, is_zero, weigh-append, tops-append, times-le-count, Stands-append, Stands-same, node_in, find}
use Rattle.node_tree.proofs.TreeLemmas.{is_node, mapped_node, child_of, top_live, top_iff, is_top, no_top, tops_once, parent_lists}
use Rattle.node_tree.proofs.PlanLemmas.{entry-some, entry-named, entry-none, times-entries, committed-by, Stands-committed, tops-updated, weigh-updated}
use Rattle.node_tree.proofs.Handles.{has-among, has-true, has-false, times-append, times-filter}
use Rattle.node_tree.proofs.PartForests.{distinct_from, list_distinct, child_in_forest, tops-pruned, pruned-tree, Stands-pruned, tops-trees_of, Stands-trees_of}

pub not-true : (b : Bool) → not b ≡ true → b ≡ false
not-true true e = absurd (cc)
not-true false e = refl

module _ {U : Type 0} where
  -- whether the plan doesn't speak of a handle
  abbrev silent : List (PlanEntry U) → Handle → Bool
  silent es h = not (is_named es h) && not (is_listed es h)

  silent-from : (es : List (PlanEntry U)) (h : Handle) → is_named es h ≡ false → is_listed es h ≡ false → silent es h ≡ true
  silent-from es h a b = and_from (not (is_named es h)) (not (is_listed es h)) (not_from_false (is_named es h) a) (not_from_false (is_listed es h) b)

  silent-parts : (es : List (PlanEntry U)) (h : Handle) → silent es h ≡ true → (is_named es h ≡ false) × (is_listed es h ≡ false)
  silent-parts es h e =
      let parts = and_parts (not (is_named es h)) (not (is_listed es h)) e in
      (not-true (is_named es h) parts.0, not-true (is_listed es h) parts.1)

  -- which handles are left at the top
  unspoken-in : (es : List (PlanEntry U)) (h : Handle) (hs : List Handle) → silent es h ≡ true → times h (unspoken es hs) ≡ times h hs
  unspoken-in es h hs e = times-filter (silent es) h hs ∙ ap (λ b. cond {A = ℕ} b (times h hs) 0) e

  unspoken-le : (es : List (PlanEntry U)) (h : Handle) (hs : List Handle) → times h (unspoken es hs) ≤ times h hs
  unspoken-le es h hs = elim (cases_Bool (silent es h)) [
    | inl e ↦ omega (arith, unspoken-in es h hs e)
    | inr e ↦ let nothing : times h (unspoken es hs) ≡ 0 = times-filter (silent es) h hs ∙ ap (λ b. cond {A = ℕ} b (times h hs) 0) e in omega arith
  ]

  unspoken-silent : (es : List (PlanEntry U)) (h : Handle) (hs : List Handle) → Among h (unspoken es hs) → silent es h ≡ true
  unspoken-silent es h hs among = elim (cases_Bool (silent es h)) [
    | inl e ↦ e
    | inr e ↦ absurd (let nothing : times h (unspoken es hs) ≡ 0 = times-filter (silent es) h hs ∙ ap (λ b. cond {A = ℕ} b (times h hs) 0) e in omega arith)
  ]

  -- the entry that lists a handle is the plan's for its node
  pub listed_by : (es : List (PlanEntry U)) (h : Handle) → AreDistinct (planned es) → is_listed es h ≡ true → (e : PlanEntry U) × (entry_at es e.at ≡ Some e) × Among h e.children
  listed_by [] h once e = absurd (cc)
  listed_by (x ∷ xs) h once e = elim (or_cases (has h x.children) (is_listed xs h) e) [
    | inl here ↦ (x, ap (λ b. cond b (Some x) (entry_at xs x.at)) (same_self x.at), has-true h x.children here)
    | inr later ↦
        let there = listed_by xs h (λ k. omega (arith, once k, times-cons k x.at (planned xs))) later in
        let among = entry-some xs there.0.at there.0 there.1 in
        let apart : there.0.at ≢ x.at = λ d. absurd (
        let one : times there.0.at (x.at ∷ planned xs) ≡ times there.0.at (there.0.at ∷ planned xs) = ap (λ y. times there.0.at (y ∷ planned xs)) (sym d) in
        omega (arith, once there.0.at, times_here there.0.at (planned xs), among.1)) in
        (there.0, ap (λ b. cond b (Some x) (entry_at xs there.0.at)) (same-ne there.0.at x.at apart) ∙ there.1, there.2)
  ]

module _ {T : Type 0} where
  -- a child is live
  pub child_live : (t : Tree T) (f : Forest T) (p h : Handle) → Is t f → Among h (children_at t p) → IsNode t h
  child_live t f p h is child =
      let c = child_of t f p h is child in
      let inside = node_in (node_at t) (parent_at t h) (subtree_at t h) h c.holds.stands (omega (arith, times-le-count h (subtree_at t h), ap (times h) c.holds.top, times_here h [])) in
      is_node (node_at t h) inside.0 inside.1

module _ {T U : Type 0} where
  -- a node stands at most once among what is left below planned nodes, and only where its parent is planned
  left_below-le : (t : Tree T) (f : Forest T) (es more : List (PlanEntry U)) (h p : Handle) → Is t f → parent_at t h ≡ Some p → times h (left_below t es more) ≤ times p (planned more)
  left_below-le t f es [] h p is parent = omega arith
  left_below-le t f es (e ∷ more) h p is parent =
      omega (arith, times-append h (unspoken es (children_at t e.at)) (left_below t es more), times-cons p e.at (planned more), left_below-le t f es more h p is parent, unspoken-le es h (children_at t e.at), own)
    where
      children_once : (t : Tree T) (f : Forest T) (k h : Handle) → Is t f → Among h (children_at t k) → times h (children_at t k) ≤ 1
      children_once t f k h is among = by_node (node_at t k) refl
        where
          by_node : (o : Option (TreeNode T)) → node_at t k ≡ o → times h (children_of o) ≤ 1
          by_node None e = omega arith
          by_node (Some n) e = list_distinct (node_at t) None f k n is.stands is.distinct (is.whole k (is_node (node_at t k) n e)) e h

      own : times h (children_at t e.at) ≤ cond {A = ℕ} (same e.at p) 1 0
      own = elim (is_zero (times h (children_at t e.at))) [
        | inl absent ↦ omega arith
        | inr there ↦
            let child = child_of t f e.at h is there in
            let here : e.at ≡ p = same_Some (sym child.parent ∙ parent) in
            let one : cond {A = ℕ} (same e.at p) 1 0 ≡ 1 = ap (λ b. cond {A = ℕ} b 1 0) (same-eq e.at p here) in
            omega (arith, children_once t f e.at h is there)
      ]

  left_below-none : (t : Tree T) (f : Forest T) (es more : List (PlanEntry U)) (h : Handle) → Is t f → parent_at t h ≡ None → times h (left_below t es more) ≡ 0
  left_below-none t f es [] h is parent = refl
  left_below-none t f es (e ∷ more) h is parent =
      omega (arith, times-append h (unspoken es (children_at t e.at)) (left_below t es more), left_below-none t f es more h is parent, unspoken-le es h (children_at t e.at), own)
    where
      own : times h (children_at t e.at) ≡ 0
      own = elim (is_zero (times h (children_at t e.at))) [
        | inl absent ↦ absent
        | inr there ↦ absurd (let child = child_of t f e.at h is there in let both = sym child.parent ∙ parent in cc)
      ]

  left_below-silent : (t : Tree T) (es more : List (PlanEntry U)) (h : Handle) → Among h (left_below t es more) → silent es h ≡ true
  left_below-silent t es [] h among = absurd (omega arith)
  left_below-silent t es (e ∷ more) h among = elim (is_zero (times h (unspoken es (children_at t e.at)))) [
    | inl absent ↦ left_below-silent t es more h (omega (arith, times-append h (unspoken es (children_at t e.at)) (left_below t es more)))
    | inr there ↦ unspoken-silent es h (children_at t e.at) there
  ]

  left_below-in : (t : Tree T) (es more : List (PlanEntry U)) (h p : Handle) → Among p (planned more) → Among h (children_at t p) → silent es h ≡ true → Among h (left_below t es more)
  left_below-in t es [] h p named child quiet = absurd (omega arith)
  left_below-in t es (e ∷ more) h p named child quiet =
      elim (cases_same e.at p) [
        | inl here ↦
            let among : Among h (children_at t e.at) = rw here child in
            omega (arith, times-append h (unspoken es (children_at t e.at)) (left_below t es more), unspoken-in es h (children_at t e.at) quiet)
        | inr other ↦
            let none_here : cond {A = ℕ} (same e.at p) 1 0 ≡ 0 = ap (λ b. cond {A = ℕ} b 1 0) (same-ne e.at p other) in
            omega (
              arith,
              times-append h (unspoken es (children_at t e.at)) (left_below t es more),
              left_below-in t es more h p (omega (arith, times-cons p e.at (planned more))) child quiet,
            )
      ]

  -- what stands at the top of what is left: a live node that the plan doesn't speak of, whose parent is planned, or which has none
  pub record IsLeft (t : Tree T) (es : List (PlanEntry U)) (h : Handle) : Type 0 where
    pub live : IsNode t h
    pub unnamed : is_named es h ≡ false
    pub unlisted : is_listed es h ≡ false
    pub top : left_parent es h (parent_at t h) ≡ None

  pub left-is : (t : Tree T) (f : Forest T) (es : List (PlanEntry U)) (h : Handle) → Is t f → Among h (left_tops t es) → IsLeft t es h
  left-is t f es h is among = elim (is_zero (times h (left_below t es es))) [
    | inr below_there ↦ from_below below_there
    | inl absent ↦
        let top : Among h (unspoken es (tops_at t)) = omega (arith, times-append h (left_below t es es) (unspoken es (tops_at t))) in
        let quiet = silent-parts es h (unspoken-silent es h (tops_at t) top) in
        let among_tops : Among h (tops_at t) = omega (arith, unspoken-le es h (tops_at t)) in
        let live = top_live t f h is among_tops in
        record { live = live; unnamed = quiet.0; unlisted = quiet.1; top = ap (left_parent es h) ((top_iff t f h is live).1 among_tops) }
  ]
    where
      from_below : Among h (left_below t es es) → IsLeft t es h
      from_below there = by_parent (parent_at t h) refl
        where
          by_parent : (q : Option Handle) → parent_at t h ≡ q → IsLeft t es h
          by_parent None e = absurd (omega (arith, left_below-none t f es es h is e))
          by_parent (Some p) e =
              let quiet = silent-parts es h (left_below-silent t es es h there) in
              let named : is_named es p ≡ true = has-among p (planned es) (omega (arith, left_below-le t f es es h p is e)) in
              let lists = parent_lists t f h p is e in
              record {
                live = child_live t f p h is lists.1;
                unnamed = quiet.0;
                unlisted = quiet.1;
                top = ap (left_parent es h) e ∙ ap (λ b. cond b None (Some p)) (and_from (is_named es p) (not (is_listed es h)) named (not_from_false (is_listed es h) quiet.1));
              }

  pub left-in : (t : Tree T) (f : Forest T) (es : List (PlanEntry U)) (h : Handle) → Is t f → IsLeft t es h → Among h (left_tops t es)
  left-in t f es h is left = by_parent (parent_at t h) refl
    where
      quiet : silent es h ≡ true
      quiet = silent-from es h left.unnamed left.unlisted

      by_parent : (q : Option Handle) → parent_at t h ≡ q → Among h (left_tops t es)
      by_parent None e =
          let top = is_top t f h is left.live e in
          omega (arith, times-append h (left_below t es es) (unspoken es (tops_at t)), unspoken-in es h (tops_at t) quiet)
      by_parent (Some p) e = elim (cases_Bool (is_named es p)) [
        | inl named ↦
            let lists = parent_lists t f h p is e in
            omega (arith, times-append h (left_below t es es) (unspoken es (tops_at t)), left_below-in t es es h p (has-true p (planned es) named) lists.1 quiet)
        | inr other ↦ absurd (
            let stays : left_parent es h (parent_at t h) ≡ Some p = ap (left_parent es h) e ∙ ap (λ b. cond {A = Option Handle} (b && not (is_listed es h)) None (Some p)) other in
            let both = sym stays ∙ left.top in
            cc)
      ]

  pub left-once : (t : Tree T) (f : Forest T) (es : List (PlanEntry U)) → Is t f → AreDistinct (planned es) → AreDistinct (left_tops t es)
  left-once t f es is once h = by_parent (parent_at t h) refl
    where
      by_parent : (q : Option Handle) → parent_at t h ≡ q → times h (left_tops t es) ≤ 1
      by_parent None e = omega (arith, times-append h (left_below t es es) (unspoken es (tops_at t)), left_below-none t f es es h is e, unspoken-le es h (tops_at t), tops_once t f h is)
      by_parent (Some p) e = omega (arith, times-append h (left_below t es es) (unspoken es (tops_at t)), left_below-le t f es es h p is e, once p, unspoken-le es h (tops_at t), no_top t f h p is e)

module _ {T U : Type 0} (updated : U → T → T) where
  pub kept-unnamed : (es : List (PlanEntry U)) (k : Handle) (o : Option (TreeNode T)) → is_named es k ≡ false → kept updated es k o ≡ option_map (left_node es k) o
  kept-unnamed es k o e = ap (λ x. kept_by updated x es k o) (entry-none es k (has-false k (planned es) e))

  pub kept-live : (es : List (PlanEntry U)) (k : Handle) (o : Option (TreeNode T)) → IsSome (kept updated es k o) → IsSome o
  kept-live es k o some = by_entry (entry_at es k) some
    where
      by_entry : (x : Option (PlanEntry U)) → IsSome (kept_by updated x es k o) → IsSome o
      by_entry None live = mapped_node (left_node es k) o live
      by_entry (Some e) live = mapped_node (relinked updated e) o live

  -- the tree of a node that is left at the top
  left-stands : (t : Tree T) (f : Forest T) (es : List (PlanEntry U)) (h : Handle) → Is t f → IsLeft t es h
      → (tops (pruned (is_named es) (tree_of h f)) ≡ h ∷ []) × Stands (λ k. kept updated es k (node_at t k)) None (pruned (is_named es) (tree_of h f))
  left-stands t f es h is left =
      let found = find (node_at t) None f h is.stands (is.whole h left.live) (is.distinct h) in
      let shape : pruned (is_named es) (tree_of h f) ≡ tree h found.value (pruned (is_named es) found.kids) none = ap (pruned (is_named es)) found.tree_is ∙ pruned-tree (is_named es) h found.value found.kids left.unnamed in
      let parent : left_parent es h found.parent ≡ None = ap (left_parent es h) (sym (ap parent_of found.is)) ∙ left.top in
      let node : kept updated es h (node_at t h) ≡ Some (record { parent = None; children = tops (pruned (is_named es) found.kids); value = found.value }) =
      kept-unnamed es h (node_at t h) left.unnamed ∙ ap (option_map (left_node es h)) found.is
      ∙ ap (λ q. Some (record { parent = q; children = unnamed es (tops found.kids); value = found.value })) parent
      ∙ ap (λ xs. Some (record { parent = None; children = xs; value = found.value })) (sym (tops-pruned (is_named es) found.kids)) in
      rw shape (refl, (node, Stands-pruned (node_at t) (λ k. kept updated es k (node_at t k)) (is_named es) h found.kids stays left.unnamed found.stands, tt))
    where
      stays : (k p : Handle) (n : TreeNode T) → is_named es k ≡ false → is_named es p ≡ false → node_at t k ≡ Some n → n.parent ≡ Some p → kept updated es k (node_at t k) ≡ Some (record n { children = unnamed es n.children })
      stays k p n free free_p is_n parent =
          let keeps : left_parent es k n.parent ≡ n.parent = ap (left_parent es k) parent ∙ ap (λ b. cond {A = Option Handle} (b && not (is_listed es k)) None (Some p)) free_p ∙ sym parent in
          kept-unnamed es k (node_at t k) free ∙ ap (option_map (left_node es k)) is_n ∙ ap (λ q. Some (record { parent = q; children = unnamed es n.children; value = n.value })) keeps

  -- what the plan lists is in the part
  pub part_has : (t : Tree T) (es : List (PlanEntry U)) (root : Option Handle) (inactive : List Handle) (g : Forest T) → IsPartPlan updated t es root inactive g → (h : Handle) → is_listed es h ≡ true → In h g
  part_has t es root inactive g plan h listed =
      let by_entry = listed_by es h plan.once listed in
      let at_entry : Handle → Option (TreeNode T) = λ k. kept updated es k (node_at t k) in
      let inside = plan.named by_entry.0.at (entry-some es by_entry.0.at by_entry.0 by_entry.1).1 in
      let node = node_in at_entry None g by_entry.0.at plan.stands inside in
      let was = some_of (node_at t by_entry.0.at) (kept-live es by_entry.0.at (node_at t by_entry.0.at) (is_node (at_entry by_entry.0.at) node.0 node.1)) in
      let is_n : node.0 ≡ relinked updated by_entry.0 was.0 = same_Some (sym node.1 ∙ ap (λ x. kept_by updated x es by_entry.0.at (node_at t by_entry.0.at)) by_entry.1 ∙ ap (option_map (relinked updated by_entry.0)) was.1) in
      child_in_forest at_entry None g by_entry.0.at h node.0 plan.stands inside node.1 (rw is_n by_entry.2)

  -- the tree after the commit of a plan for a part: the part, and what is left beside it
  pub part_is : (t u : Tree T) (es : List (PlanEntry U)) (root : Option Handle) (inactive : List Handle) (f g : Forest T) → Is t f → IsPartPlan updated t es root inactive g
      → CommitsPart updated es t.nodes u.nodes → u.root ≡ root → u.inactive ≡ inactive ++ left_tops t es
      → Is u (append g (left_forest es f (left_tops t es)))
  part_is t u es root inactive f g is plan commits new_root new_inactive =
      record {
        tops = new_tops ∙ sym all_tops;
        stands = Stands-same new (node_at u) None whole_forest stands (λ k among. commits.nodes k);
        distinct = distinct;
        whole = λ k live.
            let was : IsNode t k = kept-live es k (node_at t k) (rw (commits.nodes k) at live) in
            elim (cases_Bool (is_named es k)) [
              | inl named ↦ omega (arith, weigh-append (λ y. cond {A = ℕ} (same y k) 1 0) g left, plan.named k (has-true k (planned es) named))
              | inr free ↦ stays_in None f is.stands (λ q e. absurd (cc)) k (is.whole k was) free
            ];
      }
    where
      new : Handle → Option (TreeNode T)
      new k = kept updated es k (node_at t k)

      left : Forest T
      left = left_forest es f (left_tops t es)

      whole_forest : Forest T
      whole_forest = append g left

      find_left : Handle → Forest T
      find_left h = pruned (is_named es) (tree_of h f)

      left_tops_is : tops left ≡ left_tops t es
      left_tops_is = tops-trees_of find_left (left_tops t es) (λ h among. (left-stands t f es h is (left-is t f es h is among)).0)

      left_stands : Stands new None left
      left_stands = Stands-trees_of new None find_left (left_tops t es) (λ h among. (left-stands t f es h is (left-is t f es h is among)).1)

      stands : Stands new None whole_forest
      stands = Stands-append new None g left plan.stands left_stands

      all_tops : tops whole_forest ≡ (option_to_list root ++ inactive) ++ left_tops t es
      all_tops = tops-append g left ∙ ap (λ hs. hs ++ tops left) (sym plan.tops) ∙ ap (λ hs. (option_to_list root ++ inactive) ++ hs) left_tops_is

      new_tops : tops_at u ≡ (option_to_list root ++ inactive) ++ left_tops t es
      new_tops = ap (λ r. option_to_list r ++ u.inactive) new_root ∙ ap (λ hs. option_to_list root ++ hs) new_inactive ∙ sym (append_assoc (option_to_list root) inactive (left_tops t es))

      named_apart : (x : Handle) → times x (option_to_list root ++ inactive) + times x (left_tops t es) ≤ 1
      named_apart x = elim (is_zero (times x (left_tops t es))) [
        | inl absent ↦ omega (arith, ap (times x) plan.tops, times-le-count x g, plan.distinct x)
        | inr there ↦
            let quiet = left-is t f es x is there in
            elim (is_zero (times x (option_to_list root ++ inactive))) [
              | inl none_there ↦ omega (arith, left-once t f es is plan.once x)
              | inr top ↦ absurd (let yes_named = has-among x (planned es) (plan.named_tops x top) in let both = sym yes_named ∙ quiet.unnamed in cc)
            ]
      ]

      unnamed_once : (es : List (PlanEntry U)) (hs : List Handle) → AreDistinct hs → AreDistinct (unnamed es hs)
      unnamed_once es hs once x = elim (cases_Bool (not (is_named es x))) [
        | inl e ↦ let keeps : times x (unnamed es hs) ≡ times x hs = times-filter (λ h. not (is_named es h)) x hs ∙ ap (λ b. cond {A = ℕ} b (times x hs) 0) e in omega (arith, once x)
        | inr e ↦ let nothing : times x (unnamed es hs) ≡ 0 = times-filter (λ h. not (is_named es h)) x hs ∙ ap (λ b. cond {A = ℕ} b (times x hs) 0) e in omega arith
      ]

      lists_once : (k : Handle) (n : TreeNode T) → new k ≡ Some n → AreDistinct n.children
      lists_once k n is_n = elim (cases_Bool (is_named es k)) [
        | inl named ↦ list_distinct new None g k n plan.stands plan.distinct (plan.named k (has-true k (planned es) named)) is_n
        | inr free ↦
            let was = some_of (node_at t k) (kept-live es k (node_at t k) (is_node (new k) n is_n)) in
            let node : n ≡ left_node es k was.0 = same_Some (sym is_n ∙ kept-unnamed es k (node_at t k) free ∙ ap (option_map (left_node es k)) was.1) in
            let once = list_distinct (node_at t) None f k was.0 is.stands is.distinct (is.whole k (is_node (node_at t k) was.0 was.1)) was.1 in
            λ x. rw node (unnamed_once es was.0.children once x)
      ]

      distinct : IsDistinct whole_forest
      distinct = distinct_from new whole_forest stands (λ x. omega (arith, ap (times x) all_tops, times-append x (option_to_list root ++ inactive) (left_tops t es), named_apart x)) lists_once

      in_whole : (h : Handle) → In h g → In h whole_forest
      in_whole h inside = omega (arith, weigh-append (λ y. cond {A = ℕ} (same y h) 1 0) g left)

      left_in_whole : (h : Handle) → IsLeft t es h → In h whole_forest
      left_in_whole h is_left =
          let top = left-in t f es h is is_left in
          let among : Among h (tops left) = rw left_tops_is top in
          omega (arith, weigh-append (λ y. cond {A = ℕ} (same y h) 1 0) g left, times-le-count h left)

      here : (p : Option Handle) (h : Handle) (n : TreeNode T) → node_at t h ≡ Some n → n.parent ≡ p → ((q : Handle) → p ≡ Some q → is_named es q ≡ false → In q whole_forest) → is_named es h ≡ false → In h whole_forest
      here p h n is_n parent above free = elim (cases_Bool (is_listed es h)) [
        | inl listed ↦ in_whole h (part_has t es root inactive g plan h listed)
        | inr unlisted ↦ by_parent p parent above unlisted
      ]
        where
          made : (q : Option Handle) → n.parent ≡ q → left_parent es h q ≡ None → is_listed es h ≡ false → In h whole_forest
          made q e top unlisted = left_in_whole h (record { live = is_node (node_at t h) n is_n; unnamed = free; unlisted = unlisted; top = ap (left_parent es h) (ap parent_of is_n ∙ e) ∙ top })

          by_parent : (q : Option Handle) → n.parent ≡ q → ((x : Handle) → q ≡ Some x → is_named es x ≡ false → In x whole_forest) → is_listed es h ≡ false → In h whole_forest
          by_parent None e over unlisted = made None e refl unlisted
          by_parent (Some q) e over unlisted = elim (cases_Bool (is_named es q)) [
            | inl named ↦ made (Some q) e (ap (λ b. cond {A = Option Handle} b None (Some q)) (and_from (is_named es q) (not (is_listed es h)) named (not_from_false (is_listed es h) unlisted))) unlisted
            | inr free_q ↦
                let lists = parent_lists t f h q is (ap parent_of is_n ∙ e) in
                let was = some_of (node_at t q) lists.0 in
                let node : new q ≡ Some (left_node es q was.0) = kept-unnamed es q (node_at t q) free_q ∙ ap (option_map (left_node es q)) was.1 in
                let child : Among h was.0.children = rw (ap children_of was.1) at lists.1 in
                let kept_child : times h (unnamed es was.0.children) ≡ times h was.0.children = times-filter (λ x. not (is_named es x)) h was.0.children ∙ ap (λ b. cond {A = ℕ} b (times h was.0.children) 0) (not_from_false (is_named es h) free) in
                child_in_forest new None whole_forest q h (left_node es q was.0) stands (over q refl free_q) node (omega arith)
          ]

      stays_in : (p : Option Handle) (b : Forest T) → Stands (node_at t) p b → ((q : Handle) → p ≡ Some q → is_named es q ≡ false → In q whole_forest) → (x : Handle) → In x b → is_named es x ≡ false → In x whole_forest
      stays_in p none part above x inside free = absurd (omega arith)
      stays_in p (tree h v kids rest) part above x inside free =
          let mine = here p h (record { parent = p; children = tops kids; value = v }) part.0 refl above in
          elim (cases_same h x) [
            | inl e ↦ (let P : Handle → Type 0 = λ y. In y whole_forest in subst P e (mine (ap (is_named es) e ∙ free)))
            | inr ne ↦ elim (is_zero (count x kids)) [
              | inl absent ↦ stays_in p rest part.2 above x (omega (arith, hit-false x h (same-ne h x ne))) free
              | inr down ↦ stays_in (Some h) kids part.1 (λ q e free_q. (let P : Handle → Type 0 = λ y. In y whole_forest in let is_q : h ≡ q = same_Some e in subst P is_q (mine (ap (is_named es) is_q ∙ free_q)))) x down free
            ]
          ]

  -- a plan of the whole tree is one for a part, where the nodes that it doesn't name may stay
  pub part_of_plan : (t : Tree T) (es : List (PlanEntry U)) (root : Option Handle) (inactive : List Handle) (g : Forest U) (f : Forest T) → IsPlan t es root inactive g → IsUpdated updated (value_at t) g f
      → IsPartPlan updated t es root inactive f
  part_of_plan t es root inactive g f plan is =
      record {
        stands = Stands-committed updated (node_at t) (λ k. kept updated es k (node_at t k)) None g f plan.distinct is
            (λ k inside.
            let there = entry-named (entries None g) k (omega (arith, times-entries k None g)) in
            ap (λ x. kept_by updated x es k (node_at t k)) (plan.entry k ∙ there.1) ∙ sym (committed-by updated (entries None g) k (node_at t k) there.0 there.1));
        tops = plan.tops ∙ tops-updated updated (value_at t) g f is;
        distinct = λ x. omega (arith, weigh-updated updated (λ y. cond {A = ℕ} (same y x) 1 0) (value_at t) g f is, plan.distinct x);
        once = plan.once;
        named = λ k among.
            let here = entry-named es k among in
            let there = entry-some (entries None g) k here.0 (sym (plan.entry k) ∙ here.1) in
            omega (arith, times-entries k None g, there.1, weigh-updated updated (λ y. cond {A = ℕ} (same y k) 1 0) (value_at t) g f is);
        named_tops = λ k top.
            let inside : In k g = omega (arith, rw plan.tops at top, times-le-count k g) in
            let there = entry-named (entries None g) k (omega (arith, times-entries k None g)) in
            (entry-some es k there.0 (plan.entry k ∙ there.1)).1;
      }

  -- and then each live node that it doesn't name is in an inactive subtree
  pub beside_plan : (t u : Tree T) (es : List (PlanEntry U)) (root : Option Handle) (inactive : List Handle) (g : Forest U) (f0 f : Forest T) (k : Handle) → IsPlan t es root inactive g → IsUpdated updated (value_at t) g f
      → Is u (append f (left_forest es f0 (left_tops t es))) → IsNode u k → times k (planned es) ≡ 0
      → In k (left_forest es f0 (left_tops t es))
  beside_plan t u es root inactive g f0 f k plan is new live absent =
      let out : count k g ≡ 0 = elim (is_zero (count k g)) [
        | inl nowhere ↦ nowhere
        | inr inside ↦ absurd (
            let there = entry-named (entries None g) k (omega (arith, times-entries k None g)) in
            let here = entry-some es k there.0 (plan.entry k ∙ there.1) in
            omega (arith, here.1))
      ] in
      omega (arith, new.whole k live, weigh-append (λ y. cond {A = ℕ} (same y k) 1 0) f (left_forest es f0 (left_tops t es)), weigh-updated updated (λ y. cond {A = ℕ} (same y k) 1 0) (value_at t) g f is)
