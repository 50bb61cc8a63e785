-- What stays below lazy lists, as it is planned child by child.
use Rattle.std.proofs.Common.{◌≡◌, ℕ, zero, suc, ◌+◌, ◌<◌, ◌≤◌, Bool, true, false, ◌||◌, not, cond, Option, Some, None, IsSome, option_map, List, [], ◌∷◌, ◌++◌, map, length, take, get_or, refl, sym, ap, ◌∙◌, subst, arith}
use Rattle.std.specs.List.{All}
use Rattle.std.proofs.lemmas.List.{append_assoc, append-nil, map-append, take_more}
use Rattle.fx_handles.specs.declared.Handle.{Handle}
use Rattle.fx_handles.specs.Handle.{same}
use Rattle.node_tree.specs.Children.{Nth}
use Rattle.node_tree.specs.Forest.{TreeNode, Forest, tops, append, below, pruned, skip, map_values}
use Rattle.node_tree.specs.Forest.Forest.{none, tree}
use Rattle.node_tree.specs.Part.{is_named}
use Rattle.node_tree.specs.Plan.{PlanEntry, entries, planned}
use Rattle.node_tree.specs.Tree.{Tree, Holds, node_at, children_at, subtree_at}
use Rattle.node_tree.proofs.Children.{entries-append, opened, nth_child, skip_all, below-stands}
use Rattle.node_tree.proofs.ForestLemmas.{tops-append}
use Rattle.render_tree.specs.Object.{RenderObject}
use Rattle.render_tree.specs.Redraw.{Redraw}
use Rattle.render_tree.specs.Tree.{object_at}
use Rattle.build_walk.specs.Merging.{Serving, Merged, serving, serving_each, merge, merged, grow, list_handles, lists_redraw, AreBare}
use Rattle.build_walk.proofs.Items.{listed_handles}
use Rattle.build_walk.proofs.Merging.{merges_whole}
use Rattle.build_owner.specs.Ranging.{listed_in}
use Rattle.build_owner.specs.Staying.{redraw_now, left_of, left_items, with_items}
use Rattle.build_owner.proofs.Lost.{holds_live}

abbrev pub zero_handle : Handle
zero_handle = record { index = 0; generation = 0 }

-- a node, and those after it
split : (named : Handle → Bool) (h : Handle) (o : RenderObject) (kids rest : Forest RenderObject) → left_of named (tree h o kids rest) ≡ append (left_of named (tree h o kids none)) (left_of named rest)
split named h o kids rest = by_test (named h)
  where
    by_test : (b : Bool) → map_values (λ k x. redraw_now x) (cond b (pruned named rest) (tree h o (pruned named kids) (pruned named rest)))
        ≡ append (map_values (λ k x. redraw_now x) (cond b none (tree h o (pruned named kids) none))) (map_values (λ k x. redraw_now x) (pruned named rest))
    by_test true = refl
    by_test false = refl

-- the next child
module _ (t : Tree RenderObject) (named : Handle → Bool) (f : Forest RenderObject) (i : ℕ) (c : Handle) (n : Nth t f i c) where
  next : left_of named (skip i f) ≡ append (left_of named (subtree_at t c)) (left_of named (skip (i + 1) f))
  next =
      ap (left_of named) n.skips
      ∙ split named c n.value n.kids (skip (i + 1) f)
      ∙ ap (λ s. append (left_of named s) (left_of named (skip (i + 1) f))) (sym n.subtree)

  pub more_tops : (acc new whole : List Handle) → new ≡ acc ++ tops (left_of named (subtree_at t c)) → acc ++ tops (left_of named (skip i f)) ≡ whole → new ++ tops (left_of named (skip (i + 1) f)) ≡ whole
  more_tops acc new whole step so_far =
      let later = left_of named (skip (i + 1) f) in
      let own = left_of named (subtree_at t c) in
      ap (λ l. l ++ tops later) step ∙ append_assoc acc (tops own) (tops later) ∙ ap (λ l. acc ++ l) (sym (tops-append own later) ∙ ap tops (sym next)) ∙ so_far

  pub more_entries : (p : Option Handle) (acc new whole : List (PlanEntry Redraw)) → new ≡ acc ++ entries p (left_of named (subtree_at t c)) → acc ++ entries p (left_of named (skip i f)) ≡ whole
      → new ++ entries p (left_of named (skip (i + 1) f)) ≡ whole
  more_entries p acc new whole step so_far =
      let later = left_of named (skip (i + 1) f) in
      let own = left_of named (subtree_at t c) in
      ap (λ l. l ++ entries p later) step ∙ append_assoc acc (entries p own) (entries p later) ∙ ap (λ l. acc ++ l) (sym (entries-append p own later) ∙ ap (entries p) (sym next)) ∙ so_far

-- all children
pub all_planned : {A : Type 0} (xs ys zs : List A) → ys ≡ [] → xs ++ ys ≡ zs → xs ≡ zs
all_planned xs ys zs e so_far = sym (append-nil xs) ∙ ap (λ l. xs ++ l) (sym e) ∙ so_far

-- a node that is named, and one that isn't
module _ (t : Tree RenderObject) (named : Handle → Bool) (h : Handle) (o : RenderObject) (opened : subtree_at t h ≡ tree h o (below (subtree_at t h)) none) where
  pub named_gone : named h ≡ true → left_of named (subtree_at t h) ≡ none
  named_gone is = ap (left_of named) opened ∙ ap (λ (b : Bool). map_values (λ k (x : RenderObject). redraw_now x) (cond b none (tree h o (pruned named (below (subtree_at t h))) none))) is

  pub stays_whole : named h ≡ false → left_of named (subtree_at t h) ≡ tree h (redraw_now o) (left_items t named h) none
  stays_whole is = ap (left_of named) opened ∙ ap (λ (b : Bool). map_values (λ k (x : RenderObject). redraw_now x) (cond b none (tree h o (pruned named (below (subtree_at t h))) none))) is

-- ---- the plan with what stays

pruned_same : {T : Type 0} (a b : Handle → Bool) (f : Forest T) → ((k : Handle) → a k ≡ b k) → pruned a f ≡ pruned b f
pruned_same a b none same = refl
pruned_same a b (tree h v kids rest) same = λ i. cond (same h i) (pruned_same a b rest same i) (tree h v (pruned_same a b kids same i) (pruned_same a b rest same i))

pub left_same : (t : Tree RenderObject) (a b : Handle → Bool) (h : Handle) → ((k : Handle) → a k ≡ b k) → left_items t a h ≡ left_items t b h
left_same t a b h same = ap (map_values (λ k (o : RenderObject). redraw_now o)) (pruned_same a b (below (subtree_at t h)) same)

served_each : (g : Handle → Forest Redraw) (hs : List Handle) → map (λ h. serving h (g h)) hs ≡ serving_each hs (map g hs)
served_each g [] = refl
served_each g (h ∷ hs) = ap (λ l. serving h (g h) ∷ l) (served_each g hs)

-- ---- a node, and its children by their places

pub node_there : (t : Tree RenderObject) (h : Handle) → Holds t h → (o : RenderObject) × (object_at t h ≡ Some o) × (subtree_at t h ≡ tree h o (below (subtree_at t h)) none)
node_there t h holds = by_node (node_at t h) refl (holds_live t h holds)
  where
    by_node : (q : Option (TreeNode RenderObject)) → node_at t h ≡ q → IsSome q → (o : RenderObject) × (object_at t h ≡ Some o) × (subtree_at t h ≡ tree h o (below (subtree_at t h)) none)
    by_node None at live = absurd (cc)
    by_node (Some n) at live =
        let stored = ap (option_map (λ (x : TreeNode RenderObject). x.value)) at in
        (n.value, stored, opened t h n.value holds stored)

pub nth_of : (t : Tree RenderObject) (h : Handle) (cs : List Handle) (i : ℕ) → Holds t h → cs ≡ children_at t h → i < length cs → Nth t (below (subtree_at t h)) i (get_or cs i zero_handle)
nth_of t h cs i holds value within = rw value (nth_child t h i zero_handle holds (omega (arith, within, ap (λ (xs : List Handle). length xs) value)))

pub past_all : (t : Tree RenderObject) (h : Handle) (cs : List Handle) (i : ℕ) → Holds t h → cs ≡ children_at t h → length cs ≤ i → skip i (below (subtree_at t h)) ≡ none
past_all t h cs i holds value past = skip_all i (below (subtree_at t h)) (omega (arith, past, ap (λ (xs : List Handle). length xs) (value ∙ sym (below-stands t h holds).1)))

-- a node that stays: its entry comes after those below it
module _ (t : Tree RenderObject) (named : Handle → Bool) (h : Handle) (holds : Holds t h) (is : named h ≡ false) where
  pub stay_tops : (old new : List Handle) → new ≡ old ++ h ∷ [] → new ≡ old ++ tops (left_of named (subtree_at t h))
  stay_tops old new e =
      let n = node_there t h holds in
      e ∙ ap (λ f. old ++ tops f) (sym (stays_whole t named h n.0 n.2 is))

  pub stay_entries : (p : Handle) (old mid new : List (PlanEntry Redraw)) (e : PlanEntry Redraw) → e.at ≡ h → e.parent ≡ Some p → e.children ≡ tops (left_items t named h)
      → ((o : RenderObject) → object_at t h ≡ Some o → e.update ≡ redraw_now o) → mid ≡ old ++ entries (Some h) (left_items t named h) → new ≡ mid ++ e ∷ []
      → new ≡ old ++ entries (Some p) (left_of named (subtree_at t h))
  stay_entries p old mid new e at parent children update before added =
      let n = node_there t h holds in
      let K = left_items t named h in
      let u = update n.0 n.1 in
      let own : e ≡ record { at = h; parent = Some p; children = tops K; update = redraw_now n.0 } = λ i. record { at = at i; parent = parent i; children = children i; update = u i } in
      added
      ∙ (λ i. before i ++ own i ∷ [])
      ∙ append_assoc old (entries (Some h) K) (record { at = h; parent = Some p; children = tops K; update = redraw_now n.0 } ∷ [])
      ∙ ap (λ f. old ++ entries (Some p) f) (sym (stays_whole t named h n.0 n.2 is))

-- and one that is named, of which nothing stays
module _ (t : Tree RenderObject) (named : Handle → Bool) (h : Handle) (holds : Holds t h) (is : named h ≡ true) where
  pub gone_tops : (old : List Handle) → old ≡ old ++ tops (left_of named (subtree_at t h))
  gone_tops old = let n = node_there t h holds in sym (append-nil old) ∙ ap (λ f. old ++ tops f) (sym (named_gone t named h n.0 n.2 is))

  pub gone_entries : (p : Option Handle) (old : List (PlanEntry Redraw)) → old ≡ old ++ entries p (left_of named (subtree_at t h))
  gone_entries p old = let n = node_there t h holds in sym (append-nil old) ∙ ap (λ f. old ++ entries p f) (sym (named_gone t named h n.0 n.2 is))

-- ---- handles that a plan names, entry by entry

pub named_more : (es : List (PlanEntry Redraw)) (e : PlanEntry Redraw) (h : Handle) → cond (same e.at h) true (is_named es h) ≡ is_named (es ++ e ∷ []) h
named_more [] e h = by_same (same e.at h)
  where
    by_same : (b : Bool) → cond b true false ≡ (b || false)
    by_same true = refl
    by_same false = refl
named_more (x ∷ xs) e h = by_same (same x.at h) (same e.at h) (named_more xs e h)
  where
    by_same : (a b : Bool) → cond b true (is_named xs h) ≡ is_named (xs ++ e ∷ []) h → cond b true (a || is_named xs h) ≡ (a || is_named (xs ++ e ∷ []) h)
    by_same true true more = refl
    by_same true false more = refl
    by_same false b more = more

-- ---- the whole plan

pub mapped_more : (g : Handle → Serving Redraw) (hs : List Handle) (i : ℕ) (z : Handle) (so_far new : List (Serving Redraw)) (s : Serving Redraw) → i < length hs → so_far ≡ map g (take i hs) → s ≡ g (get_or hs i z)
    → new ≡ so_far ++ s ∷ [] → new ≡ map g (take (i + 1) hs)
mapped_more g hs i z so_far new s low before is added =
    added ∙ (λ j. before j ++ is j ∷ []) ∙ sym (map-append g (take i hs) (get_or hs i z ∷ [])) ∙ ap (map g) (sym (take_more hs i z low))

pub plan_with_items : (t : Tree RenderObject) (d : Forest Redraw) → AreBare lists_redraw d → (es fs : List (PlanEntry Redraw)) → es ≡ entries None d
    → fs ≡ (merge lists_redraw es (map (λ h. serving h (left_items t (is_named es) h)) (listed_in lists_redraw es))).plan → fs ≡ entries None (with_items t d)
plan_with_items t d bare es fs is done =
    let g = left_items t (is_named (entries None d)) in
    done
    ∙ ap (λ xs. (merge lists_redraw xs (map (λ h. serving h (left_items t (is_named xs) h)) (listed_in lists_redraw xs))).plan) is
    ∙ ap (λ (hs : List Handle). (merge lists_redraw (entries None d) (map (λ h. serving h (g h)) hs)).plan) (listed_handles lists_redraw None d bare)
    ∙ ap (λ ss. (merge lists_redraw (entries None d) ss).plan) (served_each g (list_handles lists_redraw d))
    ∙ ap (λ (m : Merged Redraw). m.plan) (merges_whole lists_redraw None d (map g (list_handles lists_redraw d)) bare)
