-- Lemmas on plain forests, and on forests that stand in a store of nodes.
use Rattle.std.proofs.Common.{◌≡◌, ◌≢◌, ◌⊎◌, ℕ, zero, suc, ◌+◌, ◌≤◌, Bool, true, false, cond, List, [], ◌∷◌, ◌++◌, length, insert, Option, Some, None, option_map, refl, sym, ap, ◌∙◌, inl, inr, arith, length-append}
use Rattle.std.proofs.lemmas.Bool.{cases_Bool}
use Rattle.std.proofs.lemmas.List.Sums.{sum_by-append}
use Rattle.fx_handles.specs.declared.Handle.{Handle}
use Rattle.fx_handles.specs.Handle.{same, times, Among}
use Rattle.fx_handles.specs.HandleLaws.{same-true, same_self, same-ne, same-false, cases_same, times-cons, times_here, times_there}
use Rattle.node_tree.specs.Forest.{without_child, with_child, with_value_at, TreeNode, Forest, others_than, tops, weigh, size, count, In, IsDistinct, append, place, place_under, paste, without, or_else, tree_of, set_value, handles, Stands, plain}
use Rattle.node_tree.specs.Forest.Forest.{none, tree}

pub same_Some : {X : Type 0} {x y : X} → Some x ≡ Some y → x ≡ y
same_Some e = cc

-- what a head counts as
abbrev pub hit : Handle → Handle → ℕ
hit p h = cond {A = ℕ} (same h p) 1 0

pub hit-true : (p h : Handle) → same h p ≡ true → hit p h ≡ 1
hit-true p h e = ap (λ b. cond {A = ℕ} b 1 0) e

pub hit-false : (p h : Handle) → same h p ≡ false → hit p h ≡ 0
hit-false p h e = ap (λ b. cond {A = ℕ} b 1 0) e

pub is_zero : (n : ℕ) → (n ≡ 0) ⊎ (1 ≤ n)
is_zero zero = inl refl
is_zero (suc n) = inr (omega arith)

-- a head that doesn't count is another handle
pub not_head : (p h : Handle) → hit p h ≤ 0 → same h p ≡ false
not_head p h nothing = elim (cases_Bool (same h p)) [ inl e ↦ absurd (let one = hit-true p h e in omega arith) | inr e ↦ e ]

pub zero_or_one : (n : ℕ) → n ≤ 1 → (n ≡ 0) ⊎ (n ≡ 1)
zero_or_one zero few = inl refl
zero_or_one (suc n) few = inr (omega arith)

-- the tops after trees were put in
abbrev pub tops_with : Option Handle → Handle → List Handle → List Handle
tops_with None h hs = h ∷ hs
tops_with (Some p) h hs = hs

module _ {T : Type 0} where
  -- the numbers of a forest are those of its parts
  pub weigh-append : (w : Handle → ℕ) (f g : Forest T) → weigh w (append f g) ≡ weigh w f + weigh w g
  weigh-append w none g = omega arith
  weigh-append w (tree h v below rest) g = omega (arith, weigh-append w rest g)

  pub weigh-place : (w : Handle → ℕ) (i : ℕ) (s f : Forest T) → weigh w (place i s f) ≡ weigh w f + weigh w s
  weigh-place w zero s f = omega (arith, weigh-append w s f)
  weigh-place w (suc i) s none = omega arith
  weigh-place w (suc i) s (tree h v below rest) = omega (arith, weigh-place w i s rest)

  -- where a handle stands at the head of a tree
  pub count_here : (h : Handle) (v : T) (below rest : Forest T) → 1 ≤ count h (tree h v below rest)
  count_here h v below rest = let one : cond {A = ℕ} (same h h) 1 0 ≡ 1 = ap (λ b. cond {A = ℕ} b 1 0) (same_self h) in omega arith

  -- a forest without p takes nothing in
  pub place_under_absent : (p : Handle) (i : ℕ) (s f : Forest T) → count p f ≡ 0 → place_under p i s f ≡ f
  place_under_absent p i s none absent = refl
  place_under_absent p i s (tree h v below rest) absent =
      elim (cases_Bool (same h p)) [
        | inl e ↦ absurd (let here = hit-true p h e in omega arith)
        | inr e ↦ rw (e, place_under_absent p i s below (omega arith), place_under_absent p i s rest (omega arith)) refl
      ]

  -- p takes the trees in once
  pub weigh-place_under : (w : Handle → ℕ) (p : Handle) (i : ℕ) (s f : Forest T) → count p f ≡ 1 → weigh w (place_under p i s f) ≡ weigh w f + weigh w s
  weigh-place_under w p i s none once = absurd (omega arith)
  weigh-place_under w p i s (tree h v below rest) once =
      elim (cases_Bool (same h p)) [
        | inl e ↦ rw e (omega (arith, weigh-place w i s below))
        | inr e ↦
            let here = hit-false p h e in
            rw e (elim (zero_or_one (count p below) (omega arith)) [
              | inl absent ↦
                  let kept = ap (weigh w) (place_under_absent p i s below absent) in
                  omega (arith, weigh-place_under w p i s rest (omega arith))
              | inr there ↦
                  let kept = ap (weigh w) (place_under_absent p i s rest (omega arith)) in
                  omega (arith, weigh-place_under w p i s below there)
            ])
      ]

  -- nothing that isn't there is taken away
  pub without_absent : (h : Handle) (f : Forest T) → count h f ≡ 0 → without h f ≡ f
  without_absent h none absent = refl
  without_absent h (tree k v below rest) absent =
      elim (cases_Bool (same k h)) [
        | inl e ↦ absurd (let here = hit-true h k e in omega arith)
        | inr e ↦ rw (e, without_absent h below (omega arith), without_absent h rest (omega arith)) refl
      ]

  pub tree_of_absent : (h : Handle) (f : Forest T) → count h f ≡ 0 → tree_of h f ≡ none
  tree_of_absent h none absent = refl
  tree_of_absent h (tree k v below rest) absent =
      elim (cases_Bool (same k h)) [
        | inl e ↦ absurd (let here = hit-true h k e in omega arith)
        | inr e ↦ rw (e, tree_of_absent h below (omega arith), tree_of_absent h rest (omega arith)) refl
      ]

  pub count-without : (h : Handle) (f : Forest T) → count h (without h f) ≡ 0
  count-without h none = refl
  count-without h (tree k v below rest) =
      elim (cases_Bool (same k h)) [
        | inl e ↦ rw e (count-without h rest)
        | inr e ↦ let here = hit-false h k e in rw e (omega (arith, count-without h below, count-without h rest))
      ]

  pub or_else-none : (f : Forest T) → or_else f none ≡ f
  or_else-none none = refl
  or_else-none (tree h v below rest) = refl

  -- one tree more: where its head is the handle, and where it isn't
  pub without-here : (h k : Handle) (v : T) (below rest : Forest T) → same k h ≡ true → without h (tree k v below rest) ≡ without h rest
  without-here h k v below rest e = rw e refl

  pub without-there : (h k : Handle) (v : T) (below rest : Forest T) → same k h ≡ false → without h (tree k v below rest) ≡ tree k v (without h below) (without h rest)
  without-there h k v below rest e = rw e refl

  pub tree_of-here : (h k : Handle) (v : T) (below rest : Forest T) → same k h ≡ true → tree_of h (tree k v below rest) ≡ tree k v below none
  tree_of-here h k v below rest e = rw e refl

  pub tree_of-below : (h k : Handle) (v : T) (below rest : Forest T) → same k h ≡ false → count h rest ≡ 0 → tree_of h (tree k v below rest) ≡ tree_of h below
  tree_of-below h k v below rest e absent = rw (e, tree_of_absent h rest absent) (or_else-none (tree_of h below))

  pub tree_of-rest : (h k : Handle) (v : T) (below rest : Forest T) → same k h ≡ false → count h below ≡ 0 → tree_of h (tree k v below rest) ≡ tree_of h rest
  tree_of-rest h k v below rest e absent = rw (e, tree_of_absent h below absent) refl

  -- what is taken away is the tree of h
  pub weigh-without : (w : Handle → ℕ) (h : Handle) (f : Forest T) → count h f ≤ 1 → weigh w (without h f) + weigh w (tree_of h f) ≡ weigh w f
  weigh-without w h none few = omega arith
  weigh-without w h (tree k v below rest) few =
      elim (cases_Bool (same k h)) [
        | inl e ↦
            let here = hit-true h k e in
            rw (e, without_absent h rest (omega arith)) (omega arith)
        | inr e ↦
            let here = hit-false h k e in
            let first = weigh-without w h below (omega arith) in
            let second = weigh-without w h rest (omega arith) in
            rw e (elim (zero_or_one (count h below) (omega arith)) [
              | inl absent ↦ rw (tree_of_absent h below absent) (let kept = ap (weigh w) (tree_of_absent h below absent) in omega arith)
              | inr there ↦
                  let gone = tree_of_absent h rest (omega arith) in
                  let kept = ap (weigh w) gone in
                  rw (gone, or_else-none (tree_of h below)) (omega arith)
            ])
      ]

  -- the handles at the top
  pub tops-append : (f g : Forest T) → tops (append f g) ≡ tops f ++ tops g
  tops-append none g = refl
  tops-append (tree h v below rest) g = ap (λ hs. h ∷ hs) (tops-append rest g)

  pub tops-place : (i : ℕ) (h : Handle) (s f : Forest T) → tops s ≡ h ∷ [] → tops (place i s f) ≡ insert (tops f) i h
  tops-place zero h s f one = tops-append s f ∙ ap (λ hs. hs ++ tops f) one
  tops-place (suc i) h s none one = one
  tops-place (suc i) h s (tree k w below rest) one = ap (λ hs. k ∷ hs) (tops-place i h s rest one)

  pub tops-place_under : (p : Handle) (i : ℕ) (s f : Forest T) → tops (place_under p i s f) ≡ tops f
  tops-place_under p i s none = refl
  tops-place_under p i s (tree h v below rest) =
      elim (cases_Bool (same h p)) [
        | inl e ↦ rw e refl
        | inr e ↦ rw (e, tops-place_under p i s rest) refl
      ]

  pub tops-without : (h : Handle) (f : Forest T) → tops (without h f) ≡ others_than h (tops f)
  tops-without h none = refl
  tops-without h (tree k v below rest) =
      elim (cases_Bool (same k h)) [
        | inl e ↦ rw e (tops-without h rest)
        | inr e ↦ rw e (ap (λ hs. k ∷ hs) (tops-without h rest))
      ]

  pub tops-set_value : (h : Handle) (w : T) (f : Forest T) → tops (set_value h w f) ≡ tops f
  tops-set_value h w none = refl
  tops-set_value h w (tree k v below rest) = ap (λ hs. k ∷ hs) (tops-set_value h w rest)

  pub weigh-set_value : (u : Handle → ℕ) (h : Handle) (w : T) (f : Forest T) → weigh u (set_value h w f) ≡ weigh u f
  weigh-set_value u h w none = refl
  weigh-set_value u h w (tree k v below rest) = omega (arith, weigh-set_value u h w below, weigh-set_value u h w rest)

  -- a list of handles at the top stands in the forest
  pub times-le-count : (h : Handle) (f : Forest T) → times h (tops f) ≤ count h f
  times-le-count h none = omega arith
  times-le-count h (tree k v below rest) = omega (arith, times-cons h k (tops rest), times-le-count h rest)

  -- a forest stands where the nodes of its handles are the same
  pub Stands-same : (old new : Handle → Option (TreeNode T)) (p : Option Handle) (f : Forest T) → Stands old p f → ((k : Handle) → In k f → new k ≡ old k) → Stands new p f
  Stands-same old new p none stands same_at = tt
  Stands-same old new p (tree h v below rest) stands same_at = (
    same_at h (count_here h v below rest) ∙ stands.0,
    Stands-same old new (Some h) below stands.1 (λ k among. same_at k (omega arith)),
    Stands-same old new p rest stands.2 (λ k among. same_at k (omega arith)),
  )

  pub Stands-append : (at : Handle → Option (TreeNode T)) (p : Option Handle) (f g : Forest T) → Stands at p f → Stands at p g → Stands at p (append f g)
  Stands-append at p none g first second = second
  Stands-append at p (tree h v below rest) g first second = (first.0, first.1, Stands-append at p rest g first.2 second)

  pub Stands-place : (at : Handle → Option (TreeNode T)) (p : Option Handle) (i : ℕ) (s f : Forest T) → Stands at p s → Stands at p f → Stands at p (place i s f)
  Stands-place at p zero s f new old = Stands-append at p s f new old
  Stands-place at p (suc i) s none new old = new
  Stands-place at p (suc i) s (tree h v below rest) new old = (old.0, old.1, Stands-place at p i s rest new old.2)

  -- where h is taken out of each list of children, what is left of the forest stands
  pub Stands-without : (old new : Handle → Option (TreeNode T)) (h : Handle) (p : Option Handle) (f : Forest T) → Stands old p f
      → ((k : Handle) → In k f → k ≢ h → new k ≡ option_map (without_child h) (old k)) → Stands new p (without h f)
  Stands-without old new h p none stands taken = tt
  Stands-without old new h p (tree k v below rest) stands taken =
      let later = Stands-without old new h p rest stands.2 (λ x among. taken x (omega arith)) in
      elim (cases_Bool (same k h)) [
        | inl e ↦ rw e later
        | inr e ↦
            let node : new k ≡ Some (record { parent = p; children = others_than h (tops below); value = v }) = taken k (count_here k v below rest) (same-false k h e) ∙ ap (option_map (without_child h)) stands.0 in
            rw e (rw (tops-without h below) node, Stands-without old new h (Some k) below stands.1 (λ x among. taken x (omega arith)), later)
      ]

  -- where p takes in h among its children, and h's tree stands below p, the forest with it stands
  pub Stands-place_under : (old new : Handle → Option (TreeNode T)) (p : Handle) (i : ℕ) (h : Handle) (s : Forest T) (q : Option Handle) (f : Forest T) → Stands old q f → count p f ≤ 1
      → tops s ≡ h ∷ [] → Stands new (Some p) s
      → ((k : Handle) → In k f → new k ≡ option_map (with_child (Some p) i h k) (old k)) → Stands new q (place_under p i s f)
  Stands-place_under old new p i h s q none stands few one below_p taken = tt
  Stands-place_under old new p i h s q (tree k v below rest) stands few one below_p taken =
      elim (cases_Bool (same k p)) [
        | inl e ↦
            let here = hit-true p k e in
            let is_p = same-true k p e in
            let node : new k ≡ Some (record { parent = q; children = insert (tops below) i h; value = v }) = taken k (count_here k v below rest) ∙ ap (option_map (with_child (Some p) i h k)) stands.0 ∙ ap Some (ap (λ b. cond b (record { parent = q; children = insert (tops below) i h; value = v }) (record { parent = q; children = tops below; value = v })) e) in
            rw e (
              rw (tops-place i h s below one) node,
              Stands-place new (Some k) i s below (rw is_p below_p)
                  (Stands-same old new (Some k) below stands.1 (λ x among. taken x (omega arith) ∙ same_nodes p i h x (not_here x below among (omega arith)) (old x))),
              Stands-same old new q rest stands.2 (λ x among. taken x (omega arith) ∙ same_nodes p i h x (not_here x rest among (omega arith)) (old x)),
            )
        | inr e ↦
            let node : new k ≡ Some (record { parent = q; children = tops below; value = v }) = taken k (count_here k v below rest) ∙ ap (option_map (with_child (Some p) i h k)) stands.0 ∙ ap Some (ap (λ b. cond b (record { parent = q; children = insert (tops below) i h; value = v }) (record { parent = q; children = tops below; value = v })) e) in
            rw e (
              rw (tops-place_under p i s below) node,
              Stands-place_under old new p i h s (Some k) below stands.1 (omega arith) one below_p (λ x among. taken x (omega arith)),
              Stands-place_under old new p i h s q rest stands.2 (omega arith) one below_p (λ x among. taken x (omega arith)),
            )
      ]
    where
      not_here : (x : Handle) (g : Forest T) → In x g → count p g ≡ 0 → x ≢ p
      not_here x g among absent = λ e. absurd (let as_p : count x g ≡ count p g = ap (λ y. count y g) e in omega arith)

      same_nodes : (p : Handle) (i : ℕ) (h x : Handle) → x ≢ p → (n : Option (TreeNode T)) → option_map (with_child (Some p) i h x) n ≡ n
      same_nodes p i h x apart None = refl
      same_nodes p i h x apart (Some n) = ap Some (ap (λ b. cond b (record n { children = insert n.children i h }) n) (same-ne x p apart))

  -- where h alone has another value, the forest with that value stands
  pub Stands-set_value : (old new : Handle → Option (TreeNode T)) (h : Handle) (w : T) (p : Option Handle) (f : Forest T) → Stands old p f
      → ((k : Handle) → In k f → new k ≡ option_map (with_value_at h w k) (old k)) → Stands new p (set_value h w f)
  Stands-set_value old new h w p none stands written = tt
  Stands-set_value old new h w p (tree k v below rest) stands written = (
    rw (tops-set_value h w below) (written k (count_here k v below rest) ∙ ap (option_map (with_value_at h w k)) stands.0 ∙ ap Some (of_value (same k h))),
    Stands-set_value old new h w (Some k) below stands.1 (λ x among. written x (omega arith)),
    Stands-set_value old new h w p rest stands.2 (λ x among. written x (omega arith)),
  )
    where
      node : T → TreeNode T
      node u = record { parent = p; children = tops below; value = u }

      of_value : (b : Bool) → cond b (node w) (node v) ≡ node (cond b w v)
      of_value true = refl
      of_value false = refl

  -- the function that reads a forest off the store gives the forest that stands there
  pub plain_is : (at : Handle → Option (TreeNode T)) (p : Option Handle) (f : Forest T) (n : ℕ) → Stands at p f → size f ≤ n → plain n at (tops f) ≡ f
  unfolding plain
  plain_is at p none zero stands few = refl
  plain_is at p none (suc n) stands few = refl
  plain_is at p (tree h v below rest) zero stands few = absurd (omega arith)
  plain_is at p (tree h v below rest) (suc n) stands few =
      rw (stands.0, plain_is at (Some h) below n stands.1 (omega arith), plain_is at p rest n stands.2 (omega arith)) refl

  -- where nothing is stored it gives nothing
  pub plain_dead : (at : Handle → Option (TreeNode T)) (h : Handle) (n : ℕ) → at h ≡ None → plain n at (h ∷ []) ≡ none
  unfolding plain
  plain_dead at h zero dead = refl
  plain_dead at h (suc n) dead = rw dead refl

  -- trees put in below a node or at the top
  abbrev pub Under : Option Handle → Forest T → Type 0
  Under None f = Unit {0}
  Under (Some p) f = In p f

  pub weigh-paste : (w : Handle → ℕ) (q : Option Handle) (i : ℕ) (s f : Forest T) → IsDistinct f → Under q f → weigh w (paste q i s f) ≡ weigh w f + weigh w s
  weigh-paste w None i s f distinct under = omega (arith, weigh-append w s f)
  weigh-paste w (Some p) i s f distinct under = weigh-place_under w p i s f (omega (arith, distinct p))

  pub same_node : (o : Option (TreeNode T)) → option_map (λ n. n) o ≡ o
  same_node None = refl
  same_node (Some n) = refl

  pub Stands-paste : (old new : Handle → Option (TreeNode T)) (q : Option Handle) (i : ℕ) (h : Handle) (s f : Forest T) → Stands old None f → IsDistinct f → Under q f
      → tops s ≡ h ∷ [] → Stands new q s
      → ((k : Handle) → In k f → new k ≡ option_map (with_child q i h k) (old k)) → Stands new None (paste q i s f)
  Stands-paste old new None i h s f stands distinct under one part changed =
      Stands-append new None s f part (Stands-same old new None f stands (λ k among. changed k among ∙ same_node (old k)))
  Stands-paste old new (Some p) i h s f stands distinct under one part changed =
      Stands-place_under old new p i h s None f stands (distinct p) one part changed

  pub tops-paste : (q : Option Handle) (i : ℕ) (h : Handle) (s f : Forest T) → tops s ≡ h ∷ [] → tops (paste q i s f) ≡ tops_with q h (tops f)
  tops-paste None i h s f one = tops-append s f ∙ ap (λ hs. hs ++ tops f) one
  tops-paste (Some p) i h s f one = tops-place_under p i s f

  -- each handle of a forest that stands has a node
  pub node_in : (at : Handle → Option (TreeNode T)) (p : Option Handle) (f : Forest T) (h : Handle) → Stands at p f → In h f → (n : TreeNode T) × (at h ≡ Some n)
  node_in at p none h stands among = absurd (omega arith)
  node_in at p (tree k v below rest) h stands among =
      elim (cases_Bool (same k h)) [
        | inl e ↦ (record { parent = p; children = tops below; value = v }, ap at (sym (same-true k h e)) ∙ stands.0)
        | inr e ↦
            let here = hit-false h k e in
            elim (is_zero (count h below)) [
              | inl absent ↦ node_in at p rest h stands.2 (omega arith)
              | inr there ↦ node_in at (Some k) below h stands.1 there
            ]
      ]

  -- the list of all handles
  pub length-handles : (f : Forest T) → length (handles f) ≡ size f
  length-handles none = refl
  length-handles (tree h v below rest) = omega (arith, length-append (handles below) (handles rest), length-handles below, length-handles rest)

  pub times-handles : (x : Handle) (f : Forest T) → times x (handles f) ≡ count x f
  times-handles x none = refl
  times-handles x (tree h v below rest) =
      omega (arith, times-cons x h (handles below ++ handles rest), sum_by-append (λ k. cond {A = ℕ} (same k x) 1 0) (handles below) (handles rest), times-handles x below, times-handles x rest)

  -- the handle at the top of a forest has the forest's parent
  pub parent_of_top : (at : Handle → Option (TreeNode T)) (p : Option Handle) (f : Forest T) (h : Handle) → Stands at p f → Among h (tops f)
      → (n : TreeNode T) × (at h ≡ Some n) × (n.parent ≡ p)
  parent_of_top at p none h stands among = absurd (omega arith)
  parent_of_top at p (tree k v below rest) h stands among =
      elim (cases_same k h) [
        | inl e ↦ (record { parent = p; children = tops below; value = v }, ap at (sym e) ∙ stands.0, refl)
        | inr ne ↦ parent_of_top at p rest h stands.2 (omega (arith, times_there h k (tops rest) ne))
      ]

  -- where a node is found in a forest that stands: what is stored at it, what is below it, and whose
  -- child it is
  pub record Found (at : Handle → Option (TreeNode T)) (p : Option Handle) (f : Forest T) (h : Handle) : Type 0 where
    pub value : T
    pub kids : Forest T
    pub parent : Option Handle
    pub is : at h ≡ Some (record { parent = parent; children = tops kids; value = value })
    pub stands : Stands at (Some h) kids
    pub tree_is : tree_of h f ≡ tree h value kids none
    pub above : ((parent ≡ p) × Among h (tops f)) ⊎ ((q : Handle) × (n : TreeNode T) × (parent ≡ Some q) × (at q ≡ Some n) × Among h n.children × In q f)

  pub find : (at : Handle → Option (TreeNode T)) (p : Option Handle) (f : Forest T) (h : Handle) → Stands at p f → In h f → count h f ≤ 1 → Found at p f h
  find at p none h stands among few = absurd (omega arith)
  find at p (tree k v below rest) h stands among few =
      elim (cases_Bool (same k h)) [
        | inl e ↦
            let is_h = same-true k h e in
            record {
              value = v;
              kids = below;
              parent = p;
              is = ap at (sym is_h) ∙ stands.0;
              stands = rw is_h at stands.1;
              tree_is = tree_of-here h k v below rest e ∙ ap (λ x. tree x v below none) is_h;
              above = inl (refl, rw (sym is_h) (omega (arith, times_here k (tops rest))));
            }
        | inr e ↦
            let ne = same-false k h e in
            let here = hit-false h k e in
            elim (zero_or_one (count h below) (omega arith)) [
              | inl absent ↦
                  let found = find at p rest h stands.2 (omega arith) (omega arith) in
                  record {
                    value = found.value;
                    kids = found.kids;
                    parent = found.parent;
                    is = found.is;
                    stands = found.stands;
                    tree_is = tree_of-rest h k v below rest e absent ∙ found.tree_is;
                    above = elim found.above [
                      | inl top ↦ inl (top.0, omega (arith, times_there h k (tops rest) ne, top.1))
                      | inr q ↦ inr (q.0, q.1, q.2, q.3, q.4, omega (arith, q.5))
                    ];
                  }
              | inr there ↦
                  let found = find at (Some k) below h stands.1 (omega arith) (omega arith) in
                  record {
                    value = found.value;
                    kids = found.kids;
                    parent = found.parent;
                    is = found.is;
                    stands = found.stands;
                    tree_is = tree_of-below h k v below rest e (omega arith) ∙ found.tree_is;
                    above = elim found.above [
                      | inl top ↦ inr (k, record { parent = p; children = tops below; value = v }, top.0, stands.0, top.1, count_here k v below rest)
                      | inr q ↦ inr (q.0, q.1, q.2, q.3, q.4, omega (arith, q.5))
                    ];
                  }
            ]
      ]

  -- the numbers of what is below a node, and of the whole forest
  pub weigh-kids : (w : Handle → ℕ) (at : Handle → Option (TreeNode T)) (p : Option Handle) (f : Forest T) (h : Handle) (found : Found at p f h) → count h f ≤ 1 → weigh w (without h f) + (w h + weigh w found.kids) ≡ weigh w f
  weigh-kids w at p f h found few =
      let whole = weigh-without w h f few in
      let part = ap (weigh w) found.tree_is in
      omega arith

  pub Stands-tree_of : (at : Handle → Option (TreeNode T)) (p : Option Handle) (f : Forest T) (h : Handle) (found : Found at p f h) → Stands at found.parent (tree_of h f)
  Stands-tree_of at p f h found = rw found.tree_is (found.is, found.stands, tt)

  -- only its parent has a node among its children
  pub only_parent : (at : Handle → Option (TreeNode T)) (p : Option Handle) (f : Forest T) (k h : Handle) (n : TreeNode T) → Stands at p f → In k f → count k f ≤ 1 → at k ≡ Some n → Among h n.children
      → (m : TreeNode T) × (at h ≡ Some m) × (m.parent ≡ Some k)
  only_parent at p f k h n stands among few is child =
      let found = find at p f k stands among few in
      let list : n.children ≡ tops found.kids = ap (λ (x : TreeNode T). x.children) (same_Some (sym is ∙ found.is)) in
      parent_of_top at (Some k) found.kids h found.stands (rw list at child)

  -- the function that reads a tree off the store gives the tree of the forest
  pub plain-tree_of : (at : Handle → Option (TreeNode T)) (p : Option Handle) (f : Forest T) (h : Handle) (n : ℕ) → Stands at p f → In h f → count h f ≤ 1 → size f ≤ n → plain n at (h ∷ []) ≡ tree_of h f
  plain-tree_of at p f h n stands among few large =
      let found = find at p f h stands among few in
      let part = weigh-without (λ _. 1) h f few in
      let top : tops (tree_of h f) ≡ h ∷ [] = rw found.tree_is refl in
      rw top at (plain_is at found.parent (tree_of h f) n (Stands-tree_of at p f h found) (omega arith))

  -- two handles can be taken away in either order
  pub without-without : (h x : Handle) (f : Forest T) → without h (without x f) ≡ without x (without h f)
  without-without h x none = refl
  without-without h x (tree k v below rest) =
      let later = without-without h x rest in
      let down = without-without h x below in
      elim (cases_Bool (same k h)) [
        | inl e ↦ elim (cases_Bool (same k x)) [
          | inl d ↦ ap (without h) (without-here x k v below rest d) ∙ later ∙ sym (ap (without x) (without-here h k v below rest e))
          | inr d ↦ ap (without h) (without-there x k v below rest d) ∙ without-here h k v (without x below) (without x rest) e ∙ later ∙ sym (ap (without x) (without-here h k v below rest e))
        ]
        | inr e ↦ elim (cases_Bool (same k x)) [
          | inl d ↦ ap (without h) (without-here x k v below rest d) ∙ later ∙ sym (ap (without x) (without-there h k v below rest e) ∙ without-here x k v (without h below) (without h rest) d)
          | inr d ↦
              ap (without h) (without-there x k v below rest d) ∙ without-there h k v (without x below) (without x rest) e
              ∙ (ap (λ g. tree k v g (without h (without x rest))) down ∙ ap (λ g. tree k v (without x (without h below)) g) later)
              ∙ sym (ap (without x) (without-there h k v below rest e) ∙ without-there x k v (without h below) (without h rest) d)
        ]
      ]

  pub count-tree_of-le : (x h : Handle) (f : Forest T) → count h f ≤ 1 → count x (tree_of h f) ≤ count x f
  count-tree_of-le x h f few = omega (arith, weigh-without (λ k. cond {A = ℕ} (same k x) 1 0) h f few)

  pub count-without-le : (x h : Handle) (f : Forest T) → count x (without h f) ≤ count x f
  count-without-le x h none = omega arith
  count-without-le x h (tree k v below rest) =
      elim (cases_Bool (same k h)) [
        | inl e ↦ rw e (omega (arith, count-without-le x h rest))
        | inr e ↦ rw e (omega (arith, count-without-le x h rest, count-without-le x h below))
      ]

  -- what is below h can be taken away in h's tree as well as in the forest
  pub tree_of-without : (h x : Handle) (f : Forest T) → count h f ≤ 1 → count x f ≤ 1 → x ≢ h → In x (tree_of h f) → tree_of h (without x f) ≡ without x (tree_of h f)
  tree_of-without h x none few_h few_x apart inside = absurd (omega arith)
  tree_of-without h x (tree k v below rest) few_h few_x apart inside =
      elim (cases_Bool (same k h)) [
        | inl e ↦
            let ne : same k x ≡ false = same-ne k x (λ d. apart (sym d ∙ same-true k h e)) in
            ap (tree_of h) (without-there x k v below rest ne) ∙ tree_of-here h k v (without x below) (without x rest) e
            ∙ sym (ap (without x) (tree_of-here h k v below rest e) ∙ without-there x k v below none ne)
        | inr e ↦
            let here = hit-false h k e in
            elim (zero_or_one (count h below) (omega arith)) [
              | inl absent ↦
                  let is = tree_of-rest h k v below rest e absent in
                  let there : In x (tree_of h rest) = rw is at inside in
                  let later : 1 ≤ count x rest = omega (arith, count-tree_of-le x h rest (omega arith)) in
                  let head : same k x ≡ false = not_head x k (omega arith) in
                  ap (tree_of h) (without-there x k v below rest head)
                  ∙ tree_of-rest h k v (without x below) (without x rest) e (omega (arith, count-without-le h x below))
                  ∙ tree_of-without h x rest (omega arith) (omega arith) apart there
                  ∙ ap (without x) (sym is)
              | inr present ↦
                  let is = tree_of-below h k v below rest e (omega arith) in
                  let there : In x (tree_of h below) = rw is at inside in
                  let down : 1 ≤ count x below = omega (arith, count-tree_of-le x h below (omega arith)) in
                  let head : same k x ≡ false = not_head x k (omega arith) in
                  ap (tree_of h) (without-there x k v below rest head)
                  ∙ tree_of-below h k v (without x below) (without x rest) e (omega (arith, count-without-le h x rest))
                  ∙ tree_of-without h x below (omega arith) (omega arith) apart there
                  ∙ ap (without x) (sym is)
            ]
      ]
