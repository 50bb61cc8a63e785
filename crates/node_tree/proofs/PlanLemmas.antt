-- Lemmas on plans and what their commit leaves.
use Rattle.std.proofs.Common.{◌≡◌, ◌≢◌, ◌⊎◌, ℕ, ◌+◌, ◌<◌, ◌≤◌, Bool, true, false, cond, ◌||◌, eqb, List, [], ◌∷◌, ◌++◌, length, get_or, Option, Some, None, IsSome, option_map, refl, sym, ap, ◌∙◌, subst, inl, inr, arith}
use Rattle.std.proofs.lemmas.Bool.{cases_eq, cases_lt, eq-eqb, eqb-true, or_cases, or_right}
use Rattle.std.proofs.lemmas.List.{get_or_past}
use Rattle.fx_handles.specs.declared.Handle.{Handle}
use Rattle.fx_handles.specs.declared.TheConstants.{LAST_GENERATION}
use Rattle.fx_handles.specs.Handle.{same, times, Among, AreDistinct}
use Rattle.fx_handles.specs.Arena.{Arena, get, IsLive, IsSpent, used_count, retired_count, inserted_count, with_value, Removes}
use Rattle.fx_handles.specs.HandleLaws.{same_self, same-eq, same-ne, cases_same, times-cons, times_here, times_there}
use Rattle.fx_handles.specs.ArenaLaws.{some_of}
use Rattle.fx_handles.specs.ArenaLaws.{live-same_slot}
use Rattle.node_tree.specs.Forest.{TreeNode, Forest, tops, weigh, size, count, In, IsDistinct, Stands}
use Rattle.node_tree.specs.Forest.Forest.{none, tree}
use Rattle.node_tree.specs.Tree.{Tree, node_at, IsNode, value_at, Is}
use Rattle.std.specs.Option.{option_to_list}
use Rattle.node_tree.specs.Plan.{PlanEntry, entries, planned, entry_at, IsPlan, relinked, relinked_at, written, committed, IsUpdated, is_planned, Sweeps, Commits}
use Rattle.node_tree.proofs.ForestLemmas.{same_Some, hit-true, is_zero, count_here}
use Rattle.node_tree.proofs.TreeLemmas.{is_node, size_is}
use Rattle.node_tree.specs.Edits.{KeepsHandles}
use Rattle.node_tree.proofs.EditLemmas.{get-with_value_same, get-with_value_other, keeps_then}

-- the handles that a plan in two parts names
times-planned : {U : Type 0} (k : Handle) (xs ys : List (PlanEntry U)) → times k (planned (xs ++ ys)) ≡ times k (planned xs) + times k (planned ys)
times-planned k [] ys = omega arith
times-planned k (x ∷ xs) ys = omega (arith, times-cons k x.at (planned (xs ++ ys)), times-cons k x.at (planned xs), times-planned k xs ys)

-- the plan of a forest names its handles, each as often as it stands there
pub times-entries : {U : Type 0} (k : Handle) (p : Option Handle) (g : Forest U) → times k (planned (entries p g)) ≡ count k g
times-entries k p none = refl
times-entries k p (tree h u kids rest) =
    let entry : PlanEntry _ = record { at = h; parent = p; children = tops kids; update = u } in
    omega (arith, times-planned k (entries (Some h) kids) (entry ∷ entries p rest), times-cons k h (planned (entries p rest)), times-entries k (Some h) kids, times-entries k p rest)

-- the entry of a plan for a handle that it names, and for one that it doesn't
module _ {U : Type 0} where
  pub entry-some : (es : List (PlanEntry U)) (k : Handle) (e : PlanEntry U) → entry_at es k ≡ Some e → (k ≡ e.at) × Among k (planned es)
  entry-some [] k e is = absurd (cc)
  entry-some (x ∷ xs) k e is =
      elim (cases_same k x.at) [
        | inl here ↦
            let first : x ≡ e = same_Some (sym (ap (λ b. cond b (Some x) (entry_at xs k)) (same-eq k x.at here)) ∙ is) in (
              here ∙ ap (λ (y : PlanEntry U). y.at) first,
              let one : times k (planned (x ∷ xs)) ≡ times k (k ∷ planned xs) = ap (λ y. times k (y ∷ planned xs)) (sym here) in omega (arith, times_here k (planned xs)),
            )
        | inr other ↦
            let later = entry-some xs k e (sym (ap (λ b. cond b (Some x) (entry_at xs k)) (same-ne k x.at other)) ∙ is) in
            (later.0, omega (arith, times-cons k x.at (planned xs), later.1))
      ]

  pub entry-named : (es : List (PlanEntry U)) (k : Handle) → Among k (planned es) → (e : PlanEntry U) × (entry_at es k ≡ Some e)
  entry-named [] k among = absurd (omega arith)
  entry-named (x ∷ xs) k among =
      elim (cases_same k x.at) [
        | inl here ↦ (x, ap (λ b. cond b (Some x) (entry_at xs k)) (same-eq k x.at here))
        | inr other ↦
            let later = entry-named xs k (omega (arith, times_there k x.at (planned xs) (λ e. other (sym e)))) in
            (later.0, ap (λ b. cond b (Some x) (entry_at xs k)) (same-ne k x.at other) ∙ later.1)
      ]

  pub entry-none : (es : List (PlanEntry U)) (k : Handle) → times k (planned es) ≡ 0 → entry_at es k ≡ None
  entry-none es k absent = by_entry (entry_at es k) refl
    where
      by_entry : (o : Option (PlanEntry U)) → entry_at es k ≡ o → o ≡ None
      by_entry None e = refl
      by_entry (Some x) e = absurd (let there = entry-some es k x e in omega (arith, there.1))

nothing : {X : Type 0} (o : Option X) → (IsSome o → ⊥) → o ≡ None
nothing None dead = refl
nothing (Some x) dead = absurd (dead refl)

module _ {T U : Type 0} (updated : U → T → T) where
  -- a node is written by its entry
  relinks : (a : Arena (TreeNode T)) (e : PlanEntry U) (n m : TreeNode T) → get a e.at ≡ Some n → m ≡ relinked updated e n
      → (k : Handle) → get (with_value a e.at m) k ≡ option_map (relinked_at updated e k) (get a k)
  relinks a e n m live is k =
      elim (cases_same k e.at) [
        | inl here ↦ ap (get (with_value a e.at m)) here ∙ get-with_value_same a e.at n m live ∙ ap Some is
            ∙ sym (ap (option_map (relinked_at updated e k)) (ap (get a) here ∙ live) ∙ ap Some (ap (λ b. cond b (relinked updated e n) n) (same-eq k e.at here)))
        | inr other ↦ get-with_value_other a e.at n m k live other ∙ sym (untouched e k other (get a k))
      ]
    where
      untouched : (e : PlanEntry U) (k : Handle) → k ≢ e.at → (o : Option (TreeNode T)) → option_map (relinked_at updated e k) o ≡ o
      untouched e k other None = refl
      untouched e k other (Some x) = ap Some (ap (λ b. cond b (relinked updated e x) x) (same-ne k e.at other))

  -- the same under a handle that is the entry's
  pub relinks_at : (a : Arena (TreeNode T)) (e : PlanEntry U) (n m : TreeNode T) (h : Handle) → h ≡ e.at → get a h ≡ Some n → m ≡ relinked updated e n
      → (k : Handle) → get (with_value a h m) k ≡ option_map (relinked_at updated e k) (get a k)
  relinks_at a e n m h at live is k = ap (λ x. get (with_value a x m) k) at ∙ relinks a e n m (sym (ap (get a) at) ∙ live) is k

  relinked_here : (e : PlanEntry U) (k : Handle) (o : Option (TreeNode T)) → k ≡ e.at → option_map (relinked_at updated e k) o ≡ option_map (relinked updated e) o
  relinked_here e k None here = refl
  relinked_here e k (Some n) here = ap Some (ap (λ b. cond b (relinked updated e n) n) (same-eq k e.at here))

  relinked_other : (e : PlanEntry U) (k : Handle) (o : Option (TreeNode T)) → k ≢ e.at → option_map (relinked_at updated e k) o ≡ o
  relinked_other e k None other = refl
  relinked_other e k (Some n) other = ap Some (ap (λ b. cond b (relinked updated e n) n) (same-ne k e.at other))

  -- what a plan writes where it doesn't name the handle, and where one of its parts does
  pub written-out : (xs ys : List (PlanEntry U)) (k : Handle) (o : Option (TreeNode T)) → times k (planned xs) ≡ 0 → written updated (xs ++ ys) k o ≡ written updated ys k o
  written-out [] ys k o absent = refl
  written-out (x ∷ xs) ys k o absent =
      elim (cases_same k x.at) [
        | inl here ↦ absurd (let e : times k (planned (x ∷ xs)) ≡ times k (k ∷ planned xs) = ap (λ y. times k (y ∷ planned xs)) (sym here) in omega (arith, times_here k (planned xs)))
        | inr other ↦ rw (same-ne k x.at other) (written-out xs ys k o (omega (arith, times-cons k x.at (planned xs))))
      ]

  pub written-in : (xs ys : List (PlanEntry U)) (k : Handle) (o : Option (TreeNode T)) → 1 ≤ times k (planned xs) → written updated (xs ++ ys) k o ≡ written updated xs k o
  written-in [] ys k o there = absurd (omega arith)
  written-in (x ∷ xs) ys k o there =
      elim (cases_same k x.at) [
        | inl here ↦ rw (same-eq k x.at here) refl
        | inr other ↦ rw (same-ne k x.at other) (written-in xs ys k o (omega (arith, times_there k x.at (planned xs) (λ e. other (sym e)))))
      ]

  pub written-nothing : (xs : List (PlanEntry U)) (k : Handle) (o : Option (TreeNode T)) → times k (planned xs) ≡ 0 → written updated xs k o ≡ o
  written-nothing [] k o absent = refl
  written-nothing (x ∷ xs) k o absent =
      elim (cases_same k x.at) [
        | inl here ↦ absurd (let e : times k (planned (x ∷ xs)) ≡ times k (k ∷ planned xs) = ap (λ y. times k (y ∷ planned xs)) (sym here) in omega (arith, times_here k (planned xs)))
        | inr other ↦ rw (same-ne k x.at other) (written-nothing xs k o (omega (arith, times-cons k x.at (planned xs))))
      ]

  pub written-entry : (xs : List (PlanEntry U)) (k : Handle) (o : Option (TreeNode T)) (e : PlanEntry U) → entry_at xs k ≡ Some e → written updated xs k o ≡ option_map (relinked updated e) o
  written-entry [] k o e is = absurd (cc)
  written-entry (x ∷ xs) k o e is =
      elim (cases_same k x.at) [
        | inl here ↦
            let first : x ≡ e = same_Some (sym (ap (λ b. cond b (Some x) (entry_at xs k)) (same-eq k x.at here)) ∙ is) in
            rw (same-eq k x.at here) (ap (λ y. option_map (relinked updated y) o) first)
        | inr other ↦ rw (same-ne k x.at other) (written-entry xs k o e (sym (ap (λ b. cond b (Some x) (entry_at xs k)) (same-ne k x.at other)) ∙ is))
      ]

  -- the last entry of a plan is written
  pub written-last : (xs : List (PlanEntry U)) (e : PlanEntry U) (k : Handle) (o : Option (TreeNode T)) → times e.at (planned xs) ≡ 0
      → written updated xs k (option_map (relinked_at updated e k) o) ≡ written updated (xs ++ e ∷ []) k o
  written-last xs e k o absent =
      elim (cases_same k e.at) [
        | inl here ↦
            let nothing : times k (planned xs) ≡ 0 = ap (λ x. times x (planned xs)) here ∙ absent in
            written-nothing xs k _ nothing ∙ relinked_here e k o here ∙ sym (written-out xs (e ∷ []) k o nothing ∙ ap (λ b. cond b (option_map (relinked updated e) o) o) (same-eq k e.at here))
        | inr other ↦ ap (written updated xs k) (relinked_other e k o other) ∙ sym (elim (is_zero (times k (planned xs))) [
          | inl nothing ↦ written-out xs (e ∷ []) k o nothing ∙ ap (λ b. cond b (option_map (relinked updated e) o) o) (same-ne k e.at other) ∙ sym (written-nothing xs k o nothing)
          | inr there ↦ written-in xs (e ∷ []) k o there
        ])
      ]

  -- what is written where a node is planned is what is committed, and nothing else is
  pub committed-in : (es : List (PlanEntry U)) (k : Handle) (o : Option (TreeNode T)) → 1 ≤ times k (planned es) → committed updated es k o ≡ written updated es k o
  committed-in [] k o there = absurd (omega arith)
  committed-in (x ∷ xs) k o there =
      elim (cases_same k x.at) [
        | inl here ↦ rw (same-eq k x.at here) refl
        | inr other ↦ rw (same-ne k x.at other) (committed-in xs k o (omega (arith, times_there k x.at (planned xs) (λ e. other (sym e)))))
      ]

  pub committed-nothing : (es : List (PlanEntry U)) (k : Handle) (o : Option (TreeNode T)) → times k (planned es) ≡ 0 → committed updated es k o ≡ None
  committed-nothing [] k o absent = refl
  committed-nothing (x ∷ xs) k o absent =
      elim (cases_same k x.at) [
        | inl here ↦ absurd (let e : times k (planned (x ∷ xs)) ≡ times k (k ∷ planned xs) = ap (λ y. times k (y ∷ planned xs)) (sym here) in omega (arith, times_here k (planned xs)))
        | inr other ↦ rw (same-ne k x.at other) (committed-nothing xs k o (omega (arith, times-cons k x.at (planned xs))))
      ]

  pub committed-out : (xs ys : List (PlanEntry U)) (k : Handle) (o : Option (TreeNode T)) → times k (planned xs) ≡ 0 → committed updated (xs ++ ys) k o ≡ committed updated ys k o
  committed-out [] ys k o absent = refl
  committed-out (x ∷ xs) ys k o absent =
      elim (cases_same k x.at) [
        | inl here ↦ absurd (let e : times k (planned (x ∷ xs)) ≡ times k (k ∷ planned xs) = ap (λ y. times k (y ∷ planned xs)) (sym here) in omega (arith, times_here k (planned xs)))
        | inr other ↦ rw (same-ne k x.at other) (committed-out xs ys k o (omega (arith, times-cons k x.at (planned xs))))
      ]

  pub committed-front : (xs ys : List (PlanEntry U)) (k : Handle) (o : Option (TreeNode T)) → 1 ≤ times k (planned xs) → committed updated (xs ++ ys) k o ≡ committed updated xs k o
  committed-front [] ys k o there = absurd (omega arith)
  committed-front (x ∷ xs) ys k o there =
      elim (cases_same k x.at) [
        | inl here ↦ rw (same-eq k x.at here) refl
        | inr other ↦ rw (same-ne k x.at other) (committed-front xs ys k o (omega (arith, times_there k x.at (planned xs) (λ e. other (sym e)))))
      ]

  -- what is committed at a handle is told by its entry
  abbrev committed_by : Option (PlanEntry U) → Option (TreeNode T) → Option (TreeNode T)
  committed_by None o = None
  committed_by (Some e) o = option_map (relinked updated e) o

  committed-entry : (es : List (PlanEntry U)) (k : Handle) (o : Option (TreeNode T)) → committed updated es k o ≡ committed_by (entry_at es k) o
  committed-entry [] k o = refl
  committed-entry (x ∷ xs) k o =
      elim (cases_same k x.at) [
        | inl here ↦ rw (same-eq k x.at here) refl
        | inr other ↦ rw (same-ne k x.at other) (committed-entry xs k o)
      ]

  pub committed-by : (es : List (PlanEntry U)) (k : Handle) (o : Option (TreeNode T)) (e : PlanEntry U) → entry_at es k ≡ Some e → committed updated es k o ≡ option_map (relinked updated e) o
  committed-by es k o e is = committed-entry es k o ∙ ap (λ x. committed_by x o) is

  pub committed-same : (es fs : List (PlanEntry U)) → ((k : Handle) → entry_at es k ≡ entry_at fs k) → (k : Handle) (o : Option (TreeNode T)) → committed updated es k o ≡ committed updated fs k o
  committed-same es fs same_entries k o = committed-entry es k o ∙ ap (λ e. committed_by e o) (same_entries k) ∙ sym (committed-entry fs k o)

  -- a forest with its values updated has the same handles
  pub tops-updated : (at : Handle → Option T) (g : Forest U) (f : Forest T) → IsUpdated updated at g f → tops g ≡ tops f
  tops-updated at none none is = refl
  tops-updated at none (tree k v below rest) is = absurd is
  tops-updated at (tree h u kids more) none is = absurd is
  tops-updated at (tree h u kids more) (tree k v below rest) is = ap (λ x. x ∷ tops more) is.0 ∙ ap (λ xs. k ∷ xs) (tops-updated at more rest is.3)

  pub weigh-updated : (w : Handle → ℕ) (at : Handle → Option T) (g : Forest U) (f : Forest T) → IsUpdated updated at g f → weigh w f ≡ weigh w g
  weigh-updated w at none none is = refl
  weigh-updated w at none (tree k v below rest) is = absurd is
  weigh-updated w at (tree h u kids more) none is = absurd is
  weigh-updated w at (tree h u kids more) (tree k v below rest) is =
      let here = ap w is.0 in
      omega (arith, weigh-updated w at kids below is.2, weigh-updated w at more rest is.3)

  -- where each handle has a value, the updated forest is there
  pub updated_forest : (at : Handle → Option T) (g : Forest U) → ((k : Handle) → In k g → IsSome (at k)) → (f : Forest T) × IsUpdated updated at g f
  updated_forest at none some = (none, tt)
  updated_forest at (tree h u kids rest) some =
      let value = some_of (at h) (some h (count_here h u kids rest)) in
      let first = updated_forest at kids (λ k among. some k (omega arith)) in
      let second = updated_forest at rest (λ k among. some k (omega arith)) in
      (tree h (updated u value.0) first.0 second.0, (refl, ap (option_map (updated u)) value.1, first.1, second.1))

  -- the node that an entry writes
  relinked_is : (e : PlanEntry U) (v : T) (o : Option (TreeNode T)) → option_map (updated e.update) (option_map (λ (n : TreeNode T). n.value) o) ≡ Some v
      → option_map (relinked updated e) o ≡ Some (record { parent = e.parent; children = e.children; value = v })
  relinked_is e v None is = absurd (cc)
  relinked_is e v (Some n) is = ap (λ x. Some (record { parent = e.parent; children = e.children; value = x })) (same_Some is)

  -- after the commit of its plan the updated forest stands
  pub Stands-committed : (old new : Handle → Option (TreeNode T)) (p : Option Handle) (g : Forest U) (f : Forest T) → IsDistinct g
      → IsUpdated updated (λ k. option_map (λ (n : TreeNode T). n.value) (old k)) g f
      → ((k : Handle) → In k g → new k ≡ committed updated (entries p g) k (old k))
      → Stands new p f
  Stands-committed old new p none none distinct is at = tt
  Stands-committed old new p none (tree k v below rest) distinct is at = absurd is
  Stands-committed old new p (tree h u kids more) none distinct is at = absurd is
  Stands-committed old new p (tree h u kids more) (tree k v below rest) distinct is at =
      let entry : PlanEntry U = record { at = h; parent = p; children = tops kids; update = u } in
      let one = distinct h in
      let here_one = hit-true h h (same_self h) in
      let node : new h ≡ option_map (relinked updated entry) (old h) =
      at h (count_here h u kids more) ∙ committed-out (entries (Some h) kids) (entry ∷ entries p more) h (old h) (times-entries h (Some h) kids ∙ omega arith)
      ∙ ap (λ b. cond b (option_map (relinked updated entry) (old h)) (committed updated (entries p more) h (old h))) (same_self h) in
      let whole : new h ≡ Some (record { parent = p; children = tops kids; value = v }) = node ∙ relinked_is entry v (old h) is.1 in (
        ap new (sym is.0) ∙ whole ∙ ap (λ xs. Some (record { parent = p; children = xs; value = v })) (tops-updated (λ k. option_map (λ (n : TreeNode T). n.value) (old k)) kids below is.2),
        let P : Handle → Type 0 = λ x. Stands new (Some x) below in
            subst P is.0 (Stands-committed old new (Some h) kids below (λ x. omega (arith, distinct x)) is.2
            (λ x among. at x (omega arith) ∙ committed-front (entries (Some h) kids) (entry ∷ entries p more) x (old x) (omega (arith, times-entries x (Some h) kids)))),
        Stands-committed old new p more rest (λ x. omega (arith, distinct x)) is.3
            (λ x among.
            let apart : h ≢ x = λ e. absurd (omega (arith, distinct x, hit-true x h (same-eq h x e))) in
            at x (omega arith) ∙ committed-out (entries (Some h) kids) (entry ∷ entries p more) x (old x) (times-entries x (Some h) kids ∙ omega (arith, distinct x))
            ∙ ap (λ b. cond b (option_map (relinked updated entry) (old x)) (committed updated (entries p more) x (old x))) (same-ne x h (λ e. apart (sym e)))),
      )

  -- the tree after the commit of a plan
  pub committed_is : (old new : Tree T) (es : List (PlanEntry U)) (root : Option Handle) (inactive : List Handle) (g : Forest U) (f : Forest T) → IsPlan old es root inactive g → IsUpdated updated (value_at old) g f
      → Commits updated es old.nodes new.nodes → new.root ≡ root → new.inactive ≡ inactive → Is new f
  committed_is old new es root inactive g f plan is commits new_root new_inactive =
      let nodes : (k : Handle) → node_at new k ≡ committed updated (entries None g) k (node_at old k) = λ k. commits.nodes k ∙ committed-same es (entries None g) plan.entry k (node_at old k) in
      record {
        tops = rw (new_root, new_inactive) (plan.tops ∙ tops-updated (value_at old) g f is);
        stands = Stands-committed (node_at old) (node_at new) None g f plan.distinct is (λ k among. nodes k);
        distinct = λ x. omega (arith, weigh-updated (λ y. cond {A = ℕ} (same y x) 1 0) (value_at old) g f is, plan.distinct x);
        whole = λ k live. elim (is_zero (count k g)) [
          | inl absent ↦ absurd (let dead = nodes k ∙ committed-nothing (entries None g) k (node_at old k) (times-entries k None g ∙ absent) in let found = some_of (node_at new k) live in cc)
          | inr there ↦ omega (arith, weigh-updated (λ y. cond {A = ℕ} (same y k) 1 0) (value_at old) g f is)
        ];
      }

-- a slot is cleared when its live handle is removed
pub cleared_here : {X : Type 0} (a b : Arena X) (h k : Handle) (v : X) → Removes a b h v → k.index ≡ h.index → get b k ≡ None
cleared_here a b h k v removes here =
    elim (cases_same k h) [
      | inl e ↦ ap (get b) e ∙ removes.absent
      | inr ne ↦ removes.others k ne ∙ nothing (get a k) (λ live. absurd (ne (live-same_slot a h k (is_node (get a h) v removes.was) live here)))
    ]

pub cleared_spent : {X : Type 0} (a b : Arena X) (h k : Handle) (v : X) → Removes a b h v → k.index ≡ h.index → IsLive a k → IsSpent b k
cleared_spent a b h k v removes here live =
    let e : h ≡ k = sym (live-same_slot a h k (is_node (get a h) v removes.was) live here) in
    let P : Handle → Type 0 = λ x. IsSpent b x in
    subst P e removes.now_spent

-- a removal retires at most its own slot
pub cleared_counts : {X : Type 0} (a b : Arena X) (h : Handle) (v : X) → Removes a b h v → (retired_count a ≤ retired_count b) × (used_count b + retired_count b ≤ used_count a + retired_count a)
cleared_counts a b h v removes = at_most (eqb (h.generation + 1) LAST_GENERATION) removes.retired
  where
    at_most : (r : Bool) → retired_count b ≡ retired_count a + cond {A = ℕ} r 1 0 → (retired_count a ≤ retired_count b) × (used_count b + retired_count b ≤ used_count a + retired_count a)
    at_most true e = (omega arith, omega (arith, removes.used))
    at_most false e = (omega arith, omega (arith, removes.used))

-- the slots below i have been swept
pub record Sweeping {X : Type 0} (keep : List Bool) (i : ℕ) (old new : Arena X) : Type 0 where
  pub gone : (k : Handle) → k.index < i → get_or keep k.index true ≡ false → get new k ≡ None
  pub kept : (k : Handle) → get_or keep k.index true ≡ true → get new k ≡ get old k
  pub later : (k : Handle) → i ≤ k.index → get new k ≡ get old k
  pub spent : (k : Handle) → IsSpent old k → IsSpent new k
  pub now_spent : (k : Handle) → k.index < i → get_or keep k.index true ≡ false → IsLive old k → IsSpent new k
  pub retired : retired_count old ≤ retired_count new
  pub filled : used_count new + retired_count new ≤ used_count old + retired_count old
  pub inserted : inserted_count new ≡ inserted_count old

pub sweeping-start : {X : Type 0} (keep : List Bool) (a : Arena X) → Sweeping keep 0 a a
sweeping-start keep a =
    record {
      gone = λ k below e. absurd (omega arith);
      kept = λ k e. refl;
      later = λ k le. refl;
      spent = λ k s. s;
      now_spent = λ k below e live. absurd (omega arith);
      retired = omega arith;
      filled = omega arith;
      inserted = refl;
    }

pub sweeping-kept : {X : Type 0} (keep : List Bool) (i : ℕ) (old a : Arena X) → Sweeping keep i old a → get_or keep i true ≡ true → Sweeping keep (i + 1) old a
sweeping-kept keep i old a so_far marked =
    record {
      gone = λ k below e. elim (cases_eq k.index i) [
        | inl here ↦ absurd (let both = sym e ∙ ap (λ x. get_or keep x true) here ∙ marked in cc)
        | inr other ↦ so_far.gone k (omega arith) e
      ];
      kept = so_far.kept;
      later = λ k le. so_far.later k (omega arith);
      spent = so_far.spent;
      now_spent = λ k below e live. elim (cases_eq k.index i) [
        | inl here ↦ absurd (let both = sym e ∙ ap (λ x. get_or keep x true) here ∙ marked in cc)
        | inr other ↦ so_far.now_spent k (omega arith) e live
      ];
      retired = so_far.retired;
      filled = so_far.filled;
      inserted = so_far.inserted;
    }

pub sweeping-cleared : {X : Type 0} (keep : List Bool) (i : ℕ) (old a b : Arena X) → Sweeping keep i old a → get_or keep i true ≡ false
    → ((k : Handle) → k.index ≡ i → get b k ≡ None)
    → ((k : Handle) → k.index ≢ i → get b k ≡ get a k)
    → ((k : Handle) → IsSpent a k → IsSpent b k)
    → ((k : Handle) → k.index ≡ i → IsLive a k → IsSpent b k)
    → retired_count a ≤ retired_count b
    → used_count b + retired_count b ≤ used_count a + retired_count a
    → inserted_count b ≡ inserted_count a
    → Sweeping keep (i + 1) old b
sweeping-cleared keep i old a b so_far unmarked here others spent now_spent retired filled inserted =
    record {
      gone = λ k below e. elim (cases_eq k.index i) [
        | inl at_i ↦ here k at_i
        | inr other ↦ others k other ∙ so_far.gone k (omega arith) e
      ];
      kept = λ k e. elim (cases_eq k.index i) [
        | inl at_i ↦ absurd (let both = sym e ∙ ap (λ x. get_or keep x true) at_i ∙ unmarked in cc)
        | inr other ↦ others k other ∙ so_far.kept k e
      ];
      later = λ k le. others k (λ e. absurd (omega arith)) ∙ so_far.later k (omega arith);
      spent = λ k s. spent k (so_far.spent k s);
      now_spent = λ k below e live. elim (cases_eq k.index i) [
        | inl at_i ↦ now_spent k at_i (rw (so_far.later k (omega arith)) live)
        | inr other ↦ spent k (so_far.now_spent k (omega arith) e live)
      ];
      retired = omega (arith, so_far.retired, retired);
      filled = omega (arith, so_far.filled, filled);
      inserted = inserted ∙ so_far.inserted;
    }

pub sweeping-done : {X : Type 0} (keep : List Bool) (i : ℕ) (old a : Arena X) → Sweeping keep i old a → length keep ≤ i → Sweeps keep old a
sweeping-done keep i old a so_far all =
    record {
      kept = so_far.kept;
      gone = λ k e. so_far.gone k (below k e (cases_lt k.index i)) e;
      spent = so_far.spent;
      now_spent = λ k e live. so_far.now_spent k (below k e (cases_lt k.index i)) e live;
      retired = so_far.retired;
      filled = so_far.filled;
      inserted = so_far.inserted;
    }
  where
    below : (k : Handle) → get_or keep k.index true ≡ false → (k.index < i) ⊎ (i ≤ k.index) → k.index < i
    below k e (inl lt) = lt
    below k e (inr past) = absurd (let whole = get_or_past keep k.index true (omega arith) in cc)

-- a slot is planned exactly where the plan names a handle of it
pub planned_is : {U : Type 0} (es : List (PlanEntry U)) (k : Handle) → Among k (planned es) → is_planned es k.index ≡ true
planned_is [] k among = absurd (omega arith)
planned_is (x ∷ xs) k among =
    elim (cases_same x.at k) [
      | inl e ↦ ap (λ b. b || is_planned xs k.index) (eq-eqb x.at.index k.index (ap (λ h. h.index) e))
      | inr ne ↦ or_right (eqb x.at.index k.index) (is_planned xs k.index) (planned_is xs k (omega (arith, times_there k x.at (planned xs) ne)))
    ]

pub planned_has : {U : Type 0} (es : List (PlanEntry U)) (i : ℕ) → is_planned es i ≡ true → (x : Handle) × Among x (planned es) × (x.index ≡ i)
planned_has [] i e = absurd (cc)
planned_has (x ∷ xs) i e =
    elim (or_cases (eqb x.at.index i) (is_planned xs i) e) [
      | inl here ↦ (x.at, omega (arith, times_here x.at (planned xs)), eqb-true x.at.index i here)
      | inr later ↦
          let there = planned_has xs i later in
          (there.0, omega (arith, times-cons there.0 x.at (planned xs), there.1), there.2)
    ]

module _ {T U : Type 0} (updated : U → T → T) where
  -- the rest of the plan is still to be written
  pub record Writing (es0 es : List (PlanEntry U)) (a0 a : Arena (TreeNode T)) : Type 0 where
    pub live : (k : Handle) → Among k (planned es) → IsLive a k
    pub once : AreDistinct (planned es)
    pub nodes : (k : Handle) → written updated es k (get a k) ≡ written updated es0 k (get a0 k)
    pub handles : KeepsHandles a0 a

  pub writing-live : (es0 xs : List (PlanEntry U)) (e : PlanEntry U) (es : List (PlanEntry U)) (a0 a : Arena (TreeNode T)) → Writing es0 es a0 a → es ≡ xs ++ e ∷ [] → IsLive a e.at
  writing-live es0 xs e es a0 a so_far is =
      so_far.live e.at (rw is (omega (arith, times-planned e.at xs (e ∷ []), times_here e.at [])))

  pub writing-more : (es0 xs : List (PlanEntry U)) (e : PlanEntry U) (es : List (PlanEntry U)) (a0 a b : Arena (TreeNode T)) → Writing es0 es a0 a → es ≡ xs ++ e ∷ []
      → ((k : Handle) → get b k ≡ option_map (relinked_at updated e k) (get a k)) → KeepsHandles a b → Writing es0 xs a0 b
  writing-more es0 xs e es a0 a b so_far is nodes keeps =
      let once = rw is at so_far.once in
      let absent : times e.at (planned xs) ≡ 0 = omega (arith, once e.at, times-planned e.at xs (e ∷ []), times_here e.at []) in
      record {
        live = λ k among.
            let was = some_of (get a k) (so_far.live k (rw is (omega (arith, times-planned k xs (e ∷ []))))) in
            is_node (get b k) (relinked_at updated e k was.0) (nodes k ∙ ap (option_map (relinked_at updated e k)) was.1);
        once = λ k. omega (arith, once k, times-planned k xs (e ∷ []));
        nodes = λ k. ap (written updated xs k) (nodes k) ∙ written-last updated xs e k (get a k) absent ∙ ap (λ ys. written updated ys k (get a k)) (sym is) ∙ so_far.nodes k;
        handles = keeps_then a0 a b so_far.handles keeps;
      }

  -- the whole commit: the slots that the plan doesn't name are swept, and then the plan is written
  pub commits : (es : List (PlanEntry U)) (keep : List Bool) (end : ℕ) (a b c : Arena (TreeNode T))
      → ((k : Handle) → Among k (planned es) → IsLive a k)
      → ((k : Handle) → IsLive a k → k.index < end)
      → length keep ≡ end
      → ((i : ℕ) → i < end → get_or keep i true ≡ is_planned es i)
      → Sweeps keep a b
      → ((k : Handle) → get c k ≡ written updated es k (get b k))
      → KeepsHandles b c
      → Commits updated es a c
  commits es keep end a b c live below len marked sweeps writes keeps =
      record {
        nodes = λ k. writes k ∙ elim (is_zero (times k (planned es))) [
          | inl absent ↦ written-nothing updated es k (get b k) absent ∙ swept k absent ∙ sym (committed-nothing updated es k (get a k) absent)
          | inr there ↦
              let kept : get_or keep k.index true ≡ true = marked k.index (below k (live k there)) ∙ planned_is es k there in
              ap (written updated es k) (sweeps.kept k kept) ∙ sym (committed-in updated es k (get a k) there)
        ];
        spent = λ k s. keeps.spent k (sweeps.spent k s);
        now_spent = λ k was absent. keeps.spent k (sweeps.now_spent k (unmarked k absent was) was);
        retired = omega (arith, sweeps.retired, keeps.retired);
        filled = omega (arith, sweeps.filled, keeps.retired, keeps.used);
        inserted = keeps.inserted ∙ sweeps.inserted;
      }
    where
      unmarked : (k : Handle) → times k (planned es) ≡ 0 → IsLive a k → get_or keep k.index true ≡ false
      unmarked k absent was = by_mark (is_planned es k.index) refl
        where
          by_mark : (m : Bool) → is_planned es k.index ≡ m → get_or keep k.index true ≡ false
          by_mark false e = marked k.index (below k was) ∙ e
          by_mark true e =
              let has = planned_has es k.index e in
              let same_handle : has.0 ≡ k = live-same_slot a k has.0 was (live has.0 has.1) has.2 in
              absurd (let there : times has.0 (planned es) ≡ times k (planned es) = ap (λ x. times x (planned es)) same_handle in omega (arith, has.1))

      swept : (k : Handle) → times k (planned es) ≡ 0 → get b k ≡ None
      swept k absent = by_mark (get_or keep k.index true) refl
        where
          by_mark : (m : Bool) → get_or keep k.index true ≡ m → get b k ≡ None
          by_mark false e = sweeps.gone k e
          by_mark true e = sweeps.kept k e ∙ nothing (get a k) (λ was. absurd (let off = unmarked k absent was in let both = sym e ∙ off in cc))

-- a planned node outlives the sweep
pub kept_live : {X U : Type 0} (es : List (PlanEntry U)) (keep : List Bool) (end : ℕ) (a b : Arena X) (k : Handle)
    → ((x : Handle) → Among x (planned es) → IsLive a x)
    → ((x : Handle) → IsLive a x → x.index < end)
    → ((i : ℕ) → i < end → get_or keep i true ≡ is_planned es i)
    → Sweeps keep a b
    → Among k (planned es) → IsLive b k
kept_live es keep end a b k live below marked sweeps among =
    let kept : get_or keep k.index true ≡ true = marked k.index (below k (live k among)) ∙ planned_is es k among in
    rw (sweeps.kept k kept) (live k among)

-- the handles of a plan are live
pub planned_live : {T U : Type 0} (t : Tree T) (es : List (PlanEntry U)) (root : Option Handle) (inactive : List Handle) (g : Forest U) → IsPlan t es root inactive g → (k : Handle) → Among k (planned es) → IsNode t k
planned_live t es root inactive g plan k among =
    let here = entry-named es k among in
    let there = entry-some (entries None g) k here.0 (sym (plan.entry k) ∙ here.1) in
    plan.live k (omega (arith, times-entries k None g, there.1))

-- the entries of a forest, from first to last, are its plan
pub plan_of : {T U : Type 0} (t : Tree T) (es : List (PlanEntry U)) (root : Option Handle) (inactive : List Handle) (g : Forest U) → es ≡ entries None g → option_to_list root ++ inactive ≡ tops g → IsDistinct g → ((k : Handle) → In k g → IsNode t k)
    → IsPlan t es root inactive g
plan_of t es root inactive g is is_tops distinct live =
    record {
      entry = λ k. ap (λ xs. entry_at xs k) is;
      once = λ k. rw is (omega (arith, times-entries k None g, distinct k));
      tops = is_tops;
      distinct = distinct;
      live = live;
    }

-- a plan may have its entries in any order
pub plan_reordered : {T U : Type 0} (t : Tree T) (es fs : List (PlanEntry U)) (root : Option Handle) (inactive : List Handle) (g : Forest U) → IsPlan t es root inactive g → ((k : Handle) → entry_at fs k ≡ entry_at es k) → AreDistinct (planned fs)
    → IsPlan t fs root inactive g
plan_reordered t es fs root inactive g plan same_entries once =
    record {
      entry = λ k. same_entries k ∙ plan.entry k;
      once = once;
      tops = plan.tops;
      distinct = plan.distinct;
      live = plan.live;
    }

-- a node has a value
pub valued : {T : Type 0} (o : Option (TreeNode T)) → IsSome o → IsSome (option_map (λ (n : TreeNode T). n.value) o)
valued None some = absurd (cc)
valued (Some n) some = refl

-- after a commit there are as many nodes as the plan's forest has
pub committed_size : {T U : Type 0} (updated : U → T → T) (old new : Tree T) (es : List (PlanEntry U)) (root : Option Handle) (inactive : List Handle) (g : Forest U) → IsPlan old es root inactive g
    → Commits updated es old.nodes new.nodes → new.root ≡ root → new.inactive ≡ inactive → used_count new.nodes ≡ size g
committed_size updated old new es root inactive g plan commits new_root new_inactive =
    let made = updated_forest updated (value_at old) g (λ k among. valued (node_at old k) (plan.live k among)) in
    sym (size_is new made.0 (committed_is updated old new es root inactive g made.0 plan made.1 commits new_root new_inactive)) ∙ weigh-updated updated (λ _. 1) (value_at old) g made.0 made.1
