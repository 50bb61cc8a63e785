-- What stays below the lazy lists of a plan stands nowhere else in it.
use Rattle.std.proofs.Common.{◌≡◌, ℕ, zero, suc, ◌+◌, ◌≤◌, Bool, true, false, ◌||◌, not, cond, Option, Some, None, IsSome, List, [], ◌∷◌, ◌++◌, map, ◌⊎◌, inl, inr, refl, sym, ap, ◌∙◌, subst, arith}
use Rattle.std.specs.List.{All}
use Rattle.std.proofs.lemmas.Bool.{cases_Bool, false≢true}
use Rattle.std.proofs.lemmas.List.Elements.{All-nil, All-cons}
use Rattle.fx_handles.specs.declared.Handle.{Handle}
use Rattle.fx_handles.specs.Handle.{same, times, Among, AreDistinct}
use Rattle.fx_handles.specs.HandleLaws.{same-true, same-eq, same_self, times-cons}
use Rattle.node_tree.specs.Forest.{TreeNode, Forest, tops, count, In, IsDistinct, below, or_else, tree_of, pruned, map_values}
use Rattle.node_tree.specs.Forest.Forest.{none, tree}
use Rattle.node_tree.specs.Part.{has, is_named}
use Rattle.node_tree.specs.Plan.{entries, planned}
use Rattle.node_tree.specs.Tree.{Tree, IsNode, Is, Holds, node_at, subtree_at}
use Rattle.node_tree.proofs.Children.{weigh-map}
use Rattle.node_tree.proofs.ForestLemmas.{node_in}
use Rattle.node_tree.proofs.Handles.{times-append}
use Rattle.node_tree.proofs.PlanLemmas.{times-entries}
use Rattle.node_tree.proofs.TreeLemmas.{subtree_is-tree_of}
use Rattle.render_tree.specs.Object.{RenderObject}
use Rattle.render_tree.specs.Redraw.{Redraw}
use Rattle.build_walk.specs.Merging.{Grown, first_forest, later_forests, grown_below, grow, list_handles, lists_redraw, AreBare}
use Rattle.build_owner.specs.Staying.{redraw_now, left_items, with_items}

abbrev if_one : Bool → ℕ
if_one b = cond {A = ℕ} b 1 0

not_both : {A : Type 0} (b : Bool) → b ≡ true → b ≡ false → A
not_both b t f = absurd (false≢true (sym f ∙ t))

flip : (h k : Handle) → same h k ≡ same k h
flip h k = elim (cases_Bool (same h k)) [
  | inl e ↦ e ∙ sym (same-eq k h (sym (same-true h k e)))
  | inr e ↦ e ∙ by_other (same k h) refl (λ there. not_both (same h k) (same-eq h k (sym (same-true k h there))) e)
]
  where
    by_other : (b : Bool) → same k h ≡ b → (b ≡ true → false ≡ same k h) → false ≡ same k h
    by_other true e f = f refl
    by_other false e f = sym e

-- ---- handles that a plan names

has_first : (h k : Handle) (ks : List Handle) → has h (k ∷ ks) ≡ (same k h || has h ks)
has_first h k ks = refl

either_true : (a b : Bool) (G : Type 0) → (a || b) ≡ true → (a ≡ true → G) → (b ≡ true → G) → G
either_true true b G e f g = f refl
either_true false b G e f g = g e

pub has_among : (h : Handle) (hs : List Handle) → has h hs ≡ true → Among h hs
has_among h [] e = not_both false e refl
has_among h (k ∷ ks) e =
    either_true (same k h) (has h ks) (Among h (k ∷ ks)) e (λ a. let one : if_one (same k h) ≡ 1 = ap if_one a in omega (arith, one, times-cons h k ks)) (λ b. let more = has_among h ks b in omega (arith, more, times-cons h k ks))

pub among_has : (h : Handle) (hs : List Handle) → Among h hs → has h hs ≡ true
among_has h [] a = absurd (omega (arith, a))
among_has h (k ∷ ks) a = by_same (same k h) refl (λ m. among_has h ks m)
  where
    by_same : (b : Bool) → same k h ≡ b → (Among h ks → has h ks ≡ true) → (b || has h ks) ≡ true
    by_same true e f = refl
    by_same false e f = f (let z : if_one (same k h) ≡ 0 = ap if_one e in omega (arith, a, z, times-cons h k ks))

pub each_among : (P : Handle → Type 0) (hs : List Handle) → ((h : Handle) → Among h hs → P h) → All P hs
each_among P [] f = All-nil P
each_among P (h ∷ hs) f = All-cons P h hs (f h (let one : if_one (same h h) ≡ 1 = ap if_one (same_self h) in omega (arith, one, times-cons h h hs))) (each_among P hs (λ k a. f k (omega (arith, a, times-cons k h hs))))

module _ (d : Forest Redraw) where
  pub in_named : (k : Handle) → In k d → is_named (entries None d) k ≡ true
  in_named k i = among_has k (planned (entries None d)) (let e = times-entries k None d in omega (arith, i, e))

  pub named_in : (k : Handle) → is_named (entries None d) k ≡ true → In k d
  named_in k n = let a = has_among k (planned (entries None d)) n in let e = times-entries k None d in omega (arith, a, e)

-- ---- how often handles stand in several forests, and in one that grew

abbrev pub counts : {T : Type 0} → Handle → List (Forest T) → ℕ
counts k [] = 0
counts k (g ∷ gs) = count k g + counts k gs

module _ {T : Type 0} (lists : T → Bool) (k : Handle) where
  below_counts : (t : Bool) (kids : Forest T) (gs : List (Forest T)) (others : Grown T) → (t ≡ true → kids ≡ none) → count k others.forest + counts k others.rest ≡ count k kids + counts k gs
      → count k (grown_below t gs others).forest + counts k (grown_below t gs others).rest ≡ count k kids + counts k gs
  below_counts true kids [] others bare e = let z : count k kids ≡ 0 = ap (count k) (bare refl) in omega (arith, z)
  below_counts true kids (g ∷ gs) others bare e = let z : count k kids ≡ 0 = ap (count k) (bare refl) in omega (arith, z)
  below_counts false kids gs others bare e = e

  pub grown_counts : (f : Forest T) (gs : List (Forest T)) → AreBare lists f → count k (grow lists f gs).forest + counts k (grow lists f gs).rest ≡ count k f + counts k gs
  grown_counts none gs bare = refl
  grown_counts (tree h v kids rest) gs bare =
      let b = grown_below (lists v) gs (grow lists kids gs) in
      let inner : count k b.forest + counts k b.rest ≡ count k kids + counts k gs = below_counts (lists v) kids gs (grow lists kids gs) bare.0 (grown_counts kids gs bare.1) in
      let later : count k (grow lists rest b.rest).forest + counts k (grow lists rest b.rest).rest ≡ count k rest + counts k b.rest = grown_counts rest b.rest bare.2 in
      omega (arith, inner, later)

-- ---- how often a handle is among some, by a number for each time

abbrev hits : ℕ → Handle → List Handle → ℕ
hits x h [] = 0
hits x h (l ∷ ls) = cond {A = ℕ} (same l h) x 0 + hits x h ls

no_hits : (x : ℕ) (h : Handle) (ls : List Handle) → times h ls ≡ 0 → hits x h ls ≡ 0
no_hits x h [] e = refl
no_hits x h (l ∷ ls) e = by_same (same l h) refl (no_hits x h ls)
  where
    by_same : (b : Bool) → same l h ≡ b → (times h ls ≡ 0 → hits x h ls ≡ 0) → cond {A = ℕ} b x 0 + hits x h ls ≡ 0
    by_same true s go = absurd (let one : if_one (same l h) ≡ 1 = ap if_one s in omega (arith, e, one, times-cons h l ls))
    by_same false s go = let m = go (omega (arith, e, times-cons h l ls)) in omega (arith, m)

one_hit : (x : ℕ) (h : Handle) (ls : List Handle) → times h ls ≤ 1 → hits x h ls ≤ x
one_hit x h [] e = omega arith
one_hit x h (l ∷ ls) e = by_same (same l h) refl (one_hit x h ls)
  where
    by_same : (b : Bool) → same l h ≡ b → (times h ls ≤ 1 → hits x h ls ≤ x) → cond {A = ℕ} b x 0 + hits x h ls ≤ x
    by_same true s go =
        let one : if_one (same l h) ≡ 1 = ap if_one s in
        let others = no_hits x h ls (omega (arith, e, one, times-cons h l ls)) in
        omega (arith, others)
    by_same false s go = let m = go (omega (arith, e, times-cons h l ls)) in omega (arith, m)

-- ---- what is left below nodes of a forest

module _ {T : Type 0} (named : Handle → Bool) (k : Handle) where
  -- how often a handle stands in what is left below a node of a forest
  abbrev pub under : Handle → Forest T → ℕ
  under l none = 0
  under l (tree h v kids rest) = cond {A = ℕ} (same l h) (count k (pruned named kids)) 0 + (under l kids + under l rest)

  abbrev pub under_all : List Handle → Forest T → ℕ
  under_all [] f = 0
  under_all (l ∷ ls) f = under l f + under_all ls f

  under_none : (ls : List Handle) (f : Forest T) → f ≡ none → under_all ls f ≡ 0
  under_none [] f is = refl
  under_none (l ∷ ls) f is = let e = under_none ls f is in let here = ap (under l) is in omega (arith, e, here)

  under_parts : (ls : List Handle) (h : Handle) (v : T) (kids rest : Forest T) → under_all ls (tree h v kids rest) ≡ hits (count k (pruned named kids)) h ls + (under_all ls kids + under_all ls rest)
  under_parts [] h v kids rest = refl
  under_parts (l ∷ ls) h v kids rest = let e = under_parts ls h v kids rest in omega (arith, e)

  module _ (ls : List Handle) (all_named : (h : Handle) → Among h ls → named h ≡ true) (once : AreDistinct ls) where
    -- it stands in what is left below one of them, or in what is left of the forest, and in one of these once
    pub under_once : (f : Forest T) → under_all ls f + count k (pruned named f) ≤ count k f
    under_once none = let e = under_none ls none refl in omega (arith, e)
    under_once (tree h v kids rest) = by_named (named h) refl (under_once kids) (under_once rest)
      where
        unhit : (n : ℕ) → times h ls ≡ n → named h ≡ false → times h ls ≡ 0
        unhit zero e is = e
        unhit (suc n) e is = not_both (named h) (all_named h (omega (arith, e))) is

        by_named : (b : Bool) → named h ≡ b → under_all ls kids + count k (pruned named kids) ≤ count k kids → under_all ls rest + count k (pruned named rest) ≤ count k rest
            → under_all ls (tree h v kids rest) + count k (cond b (pruned named rest) (tree h v (pruned named kids) (pruned named rest))) ≤ count k (tree h v kids rest)
        by_named true is inner later =
            let parts = under_parts ls h v kids rest in
            let hit = one_hit (count k (pruned named kids)) h ls (once h) in
            omega (arith, parts, hit, inner, later)
        by_named false is inner later =
            let parts = under_parts ls h v kids rest in
            let hit = no_hits (count k (pruned named kids)) h ls (unhit (times h ls) refl is) in
            omega (arith, parts, hit, inner, later)

  -- what is left below a node, where it stands in the forest
  either_below : (a b : Forest T) → count k (pruned named (below (or_else a b))) ≤ count k (pruned named (below a)) + count k (pruned named (below b))
  either_below none b = omega arith
  either_below (tree h v kids rest) b = omega arith

  pub left_under : (l : Handle) (f : Forest T) → count k (pruned named (below (tree_of l f))) ≤ under l f
  left_under l none = omega arith
  left_under l (tree h v kids rest) = by_same (same h l) refl (left_under l kids) (left_under l rest)
    where
      by_same : (b : Bool) → same h l ≡ b → count k (pruned named (below (tree_of l kids))) ≤ under l kids → count k (pruned named (below (tree_of l rest))) ≤ under l rest
          → count k (pruned named (below (cond b (tree h v kids none) (or_else (tree_of l kids) (tree_of l rest))))) ≤ under l (tree h v kids rest)
      by_same true s inner later =
          let here : cond {A = ℕ} (same l h) (count k (pruned named kids)) 0 ≡ count k (pruned named kids) = ap (λ b. cond {A = ℕ} b (count k (pruned named kids)) 0) (flip l h ∙ s) in
          omega (arith, here)
      by_same false s inner later = let e = either_below (tree_of l kids) (tree_of l rest) in omega (arith, e, inner, later)

  -- nothing that is named is left
  pub named_pruned : named k ≡ true → (f : Forest T) → count k (pruned named f) ≡ 0
  named_pruned is none = refl
  named_pruned is (tree h v kids rest) = by_named (named h) refl (named_pruned is kids) (named_pruned is rest)
    where
      by_named : (b : Bool) → named h ≡ b → count k (pruned named kids) ≡ 0 → count k (pruned named rest) ≡ 0 → count k (cond b (pruned named rest) (tree h v (pruned named kids) (pruned named rest))) ≡ 0
      by_named true n inner later = later
      by_named false n inner later = by_same (same h k) refl
        where
          by_same : (b : Bool) → same h k ≡ b → count k (tree h v (pruned named kids) (pruned named rest)) ≡ 0
          by_same true s = not_both (named k) is (ap named (sym (same-true h k s)) ∙ n)
          by_same false s = let z : if_one (same h k) ≡ 0 = ap if_one s in omega (arith, z, inner, later)

-- ---- the lists of a plan

pub list_counts : {T : Type 0} (lists : T → Bool) (h : Handle) (f : Forest T) → times h (list_handles lists f) ≤ count h f
list_counts lists h none = omega arith
list_counts lists h (tree k v kids rest) = by_test (lists v) (list_counts lists h kids) (list_counts lists h rest)
  where
    by_test : (t : Bool) → times h (list_handles lists kids) ≤ count h kids → times h (list_handles lists rest) ≤ count h rest
        → times h (cond t (k ∷ []) (list_handles lists kids) ++ list_handles lists rest) ≤ count h (tree k v kids rest)
    by_test true inner later = omega (arith, later, times-cons h k (list_handles lists rest))
    by_test false inner later = omega (arith, inner, later, times-append h (list_handles lists kids) (list_handles lists rest))

-- each is a node of it
pub listed_in_plan : (d : Forest Redraw) (l : Handle) → Among l (list_handles lists_redraw d) → In l d
listed_in_plan d l a = let e = list_counts lists_redraw l d in omega (arith, a, e)

module _ (t : Tree RenderObject) (f : Forest RenderObject) (is : Is t f) (d : Forest Redraw) (distinct : IsDistinct d) (live : (k : Handle) → In k d → IsNode t k) (bare : AreBare lists_redraw d) where
  abbrev named : Handle → Bool
  named = is_named (entries None d)

  abbrev ls : List Handle
  ls = list_handles lists_redraw d

  abbrev gs : List (Forest Redraw)
  gs = map (left_items t named) ls

  ls_once : AreDistinct ls
  ls_once l = let e = list_counts lists_redraw l d in let o = distinct l in omega (arith, e, o)

  left_counts : (k l : Handle) → In l d → count k (left_items t named l) ≡ count k (pruned named (below (tree_of l f)))
  left_counts k l i =
      weigh-map (λ h (o : RenderObject). redraw_now o) (λ j. if_one (same j k)) (pruned named (below (subtree_at t l)))
      ∙ ap (λ s. count k (pruned named (below s))) (subtree_is-tree_of t f l is (is.whole l (live l i)))

  all_under : (k : Handle) (hs : List Handle) → ((l : Handle) → Among l hs → In l d) → counts k (map (left_items t named) hs) ≤ under_all named k hs f
  all_under k [] inside = omega arith
  all_under k (l ∷ hs) inside =
      let one : if_one (same l l) ≡ 1 = ap if_one (same_self l) in
      let here = left_counts k l (inside l (omega (arith, one, times-cons l l hs))) in
      let own = left_under named k l f in
      let more = all_under k hs (λ j a. inside j (omega (arith, a, times-cons j l hs))) in
      omega (arith, here, own, more)

  -- what is left is of the tree, once, and isn't planned
  left_once : (k : Handle) → counts k gs ≤ count k f
  left_once k =
      let a = all_under k ls (listed_in_plan d) in
      let b = under_once named k ls (λ h among. in_named d h (listed_in_plan d h among)) ls_once f in
      omega (arith, a, b)

  none_named : (k : Handle) → named k ≡ true → (hs : List Handle) → counts k (map (left_items t named) hs) ≡ 0
  none_named k n [] = refl
  none_named k n (l ∷ hs) =
      let here = weigh-map (λ h (o : RenderObject). redraw_now o) (λ j. if_one (same j k)) (pruned named (below (subtree_at t l))) in
      let gone = named_pruned named k n (below (subtree_at t l)) in
      let more = none_named k n hs in
      omega (arith, here, gone, more)

  all_counts : (k : Handle) → count k (with_items t d) ≤ count k d + counts k gs
  all_counts k = let e = grown_counts lists_redraw k d gs bare in omega (arith, e)

  by_planned : (k : Handle) (n : ℕ) → count k d ≡ n → (counts k gs ≡ 0) ⊎ (count k d ≡ 0)
  by_planned k zero e = inr e
  by_planned k (suc n) e = inl (none_named k (in_named d k (omega (arith, e))) ls)

  pub items_distinct : IsDistinct (with_items t d)
  items_distinct k =
      let all = all_counts k in
      let left = left_once k in
      let once = is.distinct k in
      let own = distinct k in
      elim (by_planned k (count k d) refl) [
        | inl z ↦ omega (arith, all, own, z)
        | inr z ↦ omega (arith, all, left, once, z)
      ]

  pub items_live : (k : Handle) → In k (with_items t d) → IsNode t k
  items_live k i = by_count (count k d) refl
    where
      there : In k f → IsNode t k
      there j = let n = node_in (node_at t) None f k is.stands j in subst IsSome (sym n.1) refl

      by_count : (n : ℕ) → count k d ≡ n → IsNode t k
      by_count zero e = there (let all = all_counts k in let left = left_once k in omega (arith, all, left, e, i))
      by_count (suc n) e = live k (omega (arith, e))
