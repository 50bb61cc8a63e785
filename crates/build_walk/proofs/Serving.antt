-- The second phase is one pass over the lazy lists.
use Rattle.std.proofs.Common.{◌≡◌, ℕ, ◌+◌, ◌-◌, List, [], ◌∷◌, ◌++◌, refl, sym, ap, ◌∙◌, arith}
use Rattle.std.proofs.lemmas.List.{append_assoc}
use Rattle.fx_expr.specs.declared.values.Value.{Value}
use Rattle.widget_model.specs.Plain.{PlainWidget, look_of}
use Rattle.widget_model.specs.Plain.{children_of as child_widgets}
use Rattle.plain_tree.specs.PlainNode.{PlainNode, node, PlainNodes, no_nodes, more_nodes, nodes_of}
use Rattle.build_form.specs.Step.{Progress, Step, stops, gives, and_then, each}
use Rattle.build_form.specs.BuildRole.{BuildRole, composes, provides, keeps, lists, holds, build_role_of}
use Rattle.build_form.specs.Entering.{Basis, values_below}
use Rattle.build_form.specs.FullBuild.{Ranges, if_lazy}
use Rattle.build_walk.specs.Past.{Pasts}
use Rattle.build_walk.specs.Keeping.{items_reentered, refilled, all_refilled}
use Rattle.build_walk.specs.Counting.{count_after, builds_by_each, builds_in_items, count_or, builds_filling, all_builds_filling}
use Rattle.build_walk.specs.Serving.{WaitingList, list_or, waiting_lists, all_waiting_lists, served, builds_serving, Put, put, put_below, put_in, all_put_in}

-- ---- steps that follow one another

pub chained : {A B C : Type 0} (r : Step A) (f : A → Progress → Step B) (g : B → Progress → Step C) → and_then (and_then r f) g ≡ and_then r (λ x s. and_then (f x s) g)
chained (stops e) f g = refl
chained (gives x s) f g = refl

pub along : {A B : Type 0} (r : Step A) (f g : A → Progress → Step B) → ((x : A) (s : Progress) → f x s ≡ g x s) → and_then r f ≡ and_then r g
along r f g h = λ i. and_then r (λ x s. h x s i)

pub count_along : {A : Type 0} (r : Step A) (f g : A → Progress → ℕ) → ((x : A) (s : Progress) → f x s ≡ g x s) → count_after r f ≡ count_after r g
count_along r f g h = λ i. count_after r (λ x s. h x s i)

pub count_chained : {A B : Type 0} (r : Step A) (f : A → Progress → Step B) (g : B → Progress → ℕ) → count_after (and_then r f) g ≡ count_after r (λ x s. count_after (f x s) g)
count_chained (stops e) f g = refl
count_chained (gives x s) f g = refl

-- a count of two parts, of which the later one is made after both
pub count_both : {A : Type 0} (r : Step A) (f g : A → Progress → ℕ) → count_after r (λ x s. f x s + g x s) ≡ count_after r f + count_after r g
count_both (stops e) f g = refl
count_both (gives x s) f g = refl

module _ (from : Basis) (pasts : Pasts) (ranges : Ranges) where
  abbrev serve : WaitingList → Progress → Step (List PlainNode)
  serve l s = served from pasts ranges l s

  abbrev all_served : List WaitingList → Progress → Step (List (List PlainNode))
  all_served ls s = each serve ls s

  -- what comes of the lists of a tree and of some more
  abbrev Flat : {A : Type 0} → (List (List PlainNode) → Put A) → (Progress → Step A) → List WaitingList → Progress → Type 0
  Flat {A} place filling ls s =
      (more : List WaitingList)
      → and_then (all_served (ls ++ more) s) (λ nss t. gives (place nss) t)
      ≡ and_then (filling s) (λ m t. and_then (all_served more t) (λ mss u. gives (put m mss) u))

  -- ---- a lazy list

  module _ (number : ℕ) (widget : PlainWidget) (fields : List Value) (scroll index : ℕ) where
    abbrev over : PlainNodes → PlainNode
    over ns = node number widget fields scroll index ns

    -- items are put below it
    list_put : (r : Step (List PlainNode)) (later : Progress → Step (List (List PlainNode)))
        → and_then (and_then r (λ ns t. and_then (later t) (λ nss u. gives (ns ∷ nss) u))) (λ nss t. gives (put (over (put_below (lists 0) nss (put no_nodes [])).whole) (put_below (lists 0) nss (put no_nodes [])).rest) t)
        ≡ and_then (and_then (and_then r (λ ns t. gives (nodes_of ns) t)) (λ ns t. gives (over ns) t)) (λ m t. and_then (later t) (λ mss u. gives (put m mss) u))
    list_put (stops e) later = refl
    list_put (gives ns t) later = chained (later t) (λ nss u. gives (ns ∷ nss) u) _

    -- items are put below nodes below it
    others_put : (filling : Progress → Step PlainNodes) (place : List (List PlainNode) → Put PlainNodes) (ls : List WaitingList) (s : Progress) → Flat place filling ls s → (more : List WaitingList)
        → and_then (all_served (ls ++ more) s) (λ nss t. gives (put (over (place nss).whole) (place nss).rest) t)
        ≡ and_then (and_then (filling s) (λ ns t. gives (over ns) t)) (λ m t. and_then (all_served more t) (λ mss u. gives (put m mss) u))
    others_put filling place ls s flat more =
        sym (chained (all_served (ls ++ more) s) (λ nss t. gives (place nss) t) (λ p t. gives (put (over p.whole) p.rest) t))
        ∙ ap (λ r. and_then r (λ p t. gives (put (over p.whole) p.rest) t)) (flat more)
        ∙ chained (filling s) (λ m t. and_then (all_served more t) (λ mss u. gives (put m mss) u)) (λ p t. gives (put (over p.whole) p.rest) t)
        ∙ along (filling s) _ _ (λ m t. chained (all_served more t) (λ mss u. gives (put m mss) u) (λ p u. gives (put (over p.whole) p.rest) u))
        ∙ sym (chained (filling s) (λ ns t. gives (over ns) t) (λ m t. and_then (all_served more t) (λ mss u. gives (put m mss) u)))

    role_put : (r : BuildRole) (l : ℕ → WaitingList) (itemized : ℕ → Progress → Step PlainNodes) (filling : Progress → Step PlainNodes) (place : List (List PlainNode) → Put PlainNodes) (ls : List WaitingList) (s : Progress)
        → ((extent : ℕ) → itemized extent s ≡ and_then (serve (l extent) s) (λ ns t. gives (nodes_of ns) t)) → Flat place filling ls s → (more : List WaitingList)
        → and_then (all_served (list_or r l ls ++ more) s) (λ nss t. gives (put (over (put_below r nss (place nss)).whole) (put_below r nss (place nss)).rest) t)
        ≡ and_then (and_then (if_lazy r itemized filling s) (λ ns t. gives (over ns) t)) (λ m t. and_then (all_served more t) (λ mss u. gives (put m mss) u))
    role_put (composes place props) l itemized filling put_all ls s h flat more = others_put filling put_all ls s flat more
    role_put (provides name value) l itemized filling put_all ls s h flat more = others_put filling put_all ls s flat more
    role_put (keeps kept) l itemized filling put_all ls s h flat more = others_put filling put_all ls s flat more
    role_put (lists extent) l itemized filling put_all ls s h flat more =
        list_put (serve (l extent) s) (all_served more)
        ∙ ap (λ r. and_then (and_then r (λ ns t. gives (over ns) t)) (λ m t. and_then (all_served more t) (λ mss u. gives (put m mss) u))) (sym (h extent))
    role_put holds l itemized filling put_all ls s h flat more = others_put filling put_all ls s flat more

  -- ---- a tree

  mutual
    unfolding refilled all_refilled

    pub flat : (left : ℕ) (values : List Value) (n : PlainNode) (s : Progress) → Flat (put_in n) (refilled from pasts ranges left values n) (waiting_lists left values n) s
    flat left values (node number widget fields scroll index children) s =
        role_put number widget fields scroll index (build_role_of (look_of widget)) _
        (λ extent t. items_reentered from pasts (left - 1) (values_below widget values) (ranges number extent) (child_widgets widget) t)
        (all_refilled from pasts ranges (left - 1) (values_below widget values) children) (all_put_in children) (all_waiting_lists (left - 1) (values_below widget values) children) s
        (λ extent. refl) (all_flat (left - 1) (values_below widget values) children s)

    pub all_flat : (left : ℕ) (values : List Value) (ns : PlainNodes) (s : Progress) → Flat (all_put_in ns) (all_refilled from pasts ranges left values ns) (all_waiting_lists left values ns) s
    all_flat left values no_nodes s = λ more. refl
    all_flat left values (more_nodes n ns) s = λ more.
        let ls = waiting_lists left values n in
        let ks = all_waiting_lists left values ns in
        ap (λ l. and_then (all_served l s) (λ nss t. gives (all_put_in (more_nodes n ns) nss) t)) (append_assoc ls ks more)
        ∙ sym (chained (all_served (ls ++ (ks ++ more)) s) (λ nss t. gives (put_in n nss) t) (λ p t. gives (put (more_nodes p.whole (all_put_in ns p.rest).whole) (all_put_in ns p.rest).rest) t))
        ∙ ap (λ r. and_then r (λ p t. gives (put (more_nodes p.whole (all_put_in ns p.rest).whole) (all_put_in ns p.rest).rest) t)) (flat left values n s (ks ++ more))
        ∙ chained (refilled from pasts ranges left values n s) _ _
        ∙ along (refilled from pasts ranges left values n s) _ _ (λ m t.
        chained (all_served (ks ++ more) t) (λ mss u. gives (put m mss) u) _
        ∙ sym (chained (all_served (ks ++ more) t) (λ nss u. gives (all_put_in ns nss) u) (λ p u. gives (put (more_nodes m p.whole) p.rest) u))
        ∙ ap (λ r. and_then r (λ p u. gives (put (more_nodes m p.whole) p.rest) u)) (all_flat left values ns t more)
        ∙ chained (all_refilled from pasts ranges left values ns t) _ _
        ∙ along (all_refilled from pasts ranges left values ns t) _ _ (λ ms u. chained (all_served more u) (λ mss v. gives (put ms mss) v) _)
        ∙ sym (chained (all_refilled from pasts ranges left values ns t) (λ ms u. gives (more_nodes m ms) u) _))
        ∙ sym (chained (refilled from pasts ranges left values n s) _ _)

  no_more : (ls : List WaitingList) → ls ++ [] ≡ ls
  no_more [] = refl
  no_more (l ∷ ls) = ap (λ x. l ∷ x) (no_more ls)

  first_whole : {A : Type 0} (r : Step A) → and_then (and_then r (λ m t. gives (put m []) t)) (λ p t. gives p.whole t) ≡ r
  first_whole (stops e) = refl
  first_whole (gives x t) = refl

  pub in_one_pass : (left : ℕ) (values : List Value) (n : PlainNode) (s : Progress)
      → refilled from pasts ranges left values n s ≡ and_then (all_served (waiting_lists left values n) s) (λ nss t. gives (put_in n nss).whole t)
  in_one_pass left values n s =
      sym (ap (λ l. and_then (all_served l s) (λ nss t. gives (put_in n nss).whole t)) (sym (no_more (waiting_lists left values n)))
      ∙ sym (chained (all_served (waiting_lists left values n ++ []) s) (λ nss t. gives (put_in n nss) t) (λ p t. gives p.whole t))
      ∙ ap (λ r. and_then r (λ p t. gives p.whole t)) (flat left values n s [])
      ∙ first_whole (refilled from pasts ranges left values n s))

  -- ---- its builds

  abbrev all_builds : List WaitingList → Progress → ℕ
  all_builds ls s = builds_by_each serve (builds_serving from pasts ranges) ls s

  abbrev FlatCount : {A : Type 0} → ℕ → Step A → List WaitingList → Progress → Type 0
  FlatCount {A} m r ls s = (more : List WaitingList) → all_builds (ls ++ more) s ≡ m + count_after r (λ x t. all_builds more t)

  role_count : (r : BuildRole) (l : ℕ → WaitingList) (itemized : ℕ → Progress → Step PlainNodes) (filling : Progress → Step PlainNodes) (counts : ℕ → ℕ) (m : ℕ) (over : PlainNodes → PlainNode) (ls : List WaitingList) (s : Progress)
      → ((extent : ℕ) → itemized extent s ≡ and_then (serve (l extent) s) (λ ns t. gives (nodes_of ns) t)) → ((extent : ℕ) → counts extent ≡ builds_serving from pasts ranges (l extent) s)
      → FlatCount m (filling s) ls s → FlatCount (count_or r counts m) (and_then (if_lazy r itemized filling s) (λ ns t. gives (over ns) t)) (list_or r l ls) s
  role_count (composes place props) l itemized filling counts m over ls s h k flat = λ more. flat more ∙ ap (λ x. m + x) (sym (count_chained (filling s) _ _))
  role_count (provides name value) l itemized filling counts m over ls s h k flat = λ more. flat more ∙ ap (λ x. m + x) (sym (count_chained (filling s) _ _))
  role_count (keeps kept) l itemized filling counts m over ls s h k flat = λ more. flat more ∙ ap (λ x. m + x) (sym (count_chained (filling s) _ _))
  role_count (lists extent) l itemized filling counts m over ls s h k flat = λ more.
      (λ i. sym (k extent) i + count_after (serve (l extent) s) (λ ns t. all_builds more t))
      ∙ ap (λ x. counts extent + x) (sym (ap (λ r. count_after (and_then r (λ ns t. gives (over ns) t)) (λ y t. all_builds more t)) (h extent)
      ∙ count_chained (and_then (serve (l extent) s) (λ ns t. gives (nodes_of ns) t)) (λ ns t. gives (over ns) t) _
      ∙ count_chained (serve (l extent) s) (λ ns t. gives (nodes_of ns) t) _))
  role_count holds l itemized filling counts m over ls s h k flat = λ more. flat more ∙ ap (λ x. m + x) (sym (count_chained (filling s) _ _))

  mutual
    unfolding refilled all_refilled builds_filling all_builds_filling

    pub flat_count : (left : ℕ) (values : List Value) (n : PlainNode) (s : Progress)
        → FlatCount (builds_filling from pasts ranges left values n s) (refilled from pasts ranges left values n s) (waiting_lists left values n) s
    flat_count left values (node number widget fields scroll index children) s =
        role_count (build_role_of (look_of widget)) _
        (λ extent t. items_reentered from pasts (left - 1) (values_below widget values) (ranges number extent) (child_widgets widget) t)
        (all_refilled from pasts ranges (left - 1) (values_below widget values) children)
        (λ extent. builds_in_items from pasts (left - 1) (values_below widget values) (ranges number extent) (child_widgets widget) s)
        (all_builds_filling from pasts ranges (left - 1) (values_below widget values) children s)
        (λ ns. node number widget fields scroll index ns) (all_waiting_lists (left - 1) (values_below widget values) children) s
        (λ extent. refl) (λ extent. refl) (all_flat_count (left - 1) (values_below widget values) children s)

    pub all_flat_count : (left : ℕ) (values : List Value) (ns : PlainNodes) (s : Progress)
        → FlatCount (all_builds_filling from pasts ranges left values ns s) (all_refilled from pasts ranges left values ns s) (all_waiting_lists left values ns) s
    all_flat_count left values no_nodes s = λ more. omega arith
    all_flat_count left values (more_nodes n ns) s = λ more.
        let ls = waiting_lists left values n in
        let ks = all_waiting_lists left values ns in
        let r = refilled from pasts ranges left values n s in
        let here : all_builds (ls ++ (ks ++ more)) s ≡ builds_filling from pasts ranges left values n s + count_after r (λ m t. all_builds (ks ++ more) t) = flat_count left values n s (ks ++ more) in
        let later : count_after r (λ m t. all_builds (ks ++ more) t)
        ≡ count_after r (λ m t. all_builds_filling from pasts ranges left values ns t) + count_after r (λ m t. count_after (all_refilled from pasts ranges left values ns t) (λ ms u. all_builds more u)) =
        count_along r _ _ (λ m t. all_flat_count left values ns t more) ∙ count_both r _ _ in
        let last : count_after (all_refilled from pasts ranges left values (more_nodes n ns) s) (λ ms u. all_builds more u)
        ≡ count_after r (λ m t. count_after (all_refilled from pasts ranges left values ns t) (λ ms u. all_builds more u)) =
        count_chained r _ _ ∙ count_along r _ _ (λ m t. count_chained (all_refilled from pasts ranges left values ns t) _ _) in
        ap (λ l. all_builds l s) (append_assoc ls ks more) ∙ omega arith

  nothing_after : {A : Type 0} (r : Step A) → count_after r (λ x t. 0) ≡ 0
  nothing_after (stops e) = refl
  nothing_after (gives x t) = refl

  pub counted_in_one_pass : (left : ℕ) (values : List Value) (n : PlainNode) (s : Progress)
      → builds_filling from pasts ranges left values n s ≡ all_builds (waiting_lists left values n) s
  counted_in_one_pass left values n s =
      let a = flat_count left values n s [] in
      let b = nothing_after (refilled from pasts ranges left values n s) in
      let c : all_builds (waiting_lists left values n ++ []) s ≡ all_builds (waiting_lists left values n) s = ap (λ l. all_builds l s) (no_more (waiting_lists left values n)) in
      omega arith
