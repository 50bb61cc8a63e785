-- Forests with one of their trees replaced, and where they stand.
use Rattle.std.proofs.Common.{◌≡◌, ap, refl, sym, subst, ◌∙◌, ℕ, zero, suc, ◌+◌, ◌≤◌, ◌<◌, cond, Option, Some, List, [], ◌∷◌, length, get_or, arith}
use Rattle.fx_handles.specs.declared.Handle.{Handle}
use Rattle.fx_handles.specs.Handle.{same}
use Rattle.fx_handles.specs.HandleLaws.{same_self}
use Rattle.node_tree.specs.Forest.{TreeNode, Forest, tops, count, weigh, In, IsDistinct, Stands, skip}
use Rattle.node_tree.specs.Forest.Forest.{none, tree}
use Rattle.layout_rules.specs.Turns.{put}
use Rattle.node_tree.proofs.ForestLemmas.{same_Some, Stands-same}

nil_cons : (h : Handle) (hs : List Handle) → [] ≡ h ∷ hs → ⊥
nil_cons h hs e = cc

cons_nil : (h : Handle) (hs : List Handle) → h ∷ hs ≡ [] → ⊥
cons_nil h hs e = cc

module _ {T : Type 0} where
  none_tree : (h : Handle) (v : T) (kids rest : Forest T) → none ≡ tree h v kids rest → ⊥
  none_tree h v kids rest e = cc

  -- two forests that stand below the same handles are one
  pub one_forest : (at : Handle → Option (TreeNode T)) (p q : Option Handle) (f g : Forest T) → Stands at p f → Stands at q g → tops f ≡ tops g → f ≡ g
  one_forest at p q none none s t e = refl
  one_forest at p q none (tree k w below rest) s t e = absurd (nil_cons k (tops rest) e)
  one_forest at p q (tree h v kids more) none s t e = absurd (cons_nil h (tops more) e)
  one_forest at p q (tree h v kids more) (tree k w below rest) s t e =
      let heads : h ≡ k = cc in
      let tails : tops more ≡ tops rest = cc in
      let there : at h ≡ Some (record { parent = q; children = tops below; value = w }) = ap at heads ∙ t.0 in
      let nodes = same_Some (sym s.0 ∙ there) in
      let kids_are : kids ≡ below = one_forest at (Some h) (Some k) kids below s.1 t.1 (ap (λ (n : TreeNode T). n.children) nodes) in
      ap (λ (x : Handle). tree x v kids more) heads
      ∙ ap (λ (x : T). tree k x kids more) (ap (λ (n : TreeNode T). n.value) nodes)
      ∙ ap (λ (x : Forest T). tree k w x more) kids_are
      ∙ ap (λ (x : Forest T). tree k w below x) (one_forest at p q more rest s.2 t.2 tails)

  pub put_tops : (i : ℕ) (w : T) (below f : Forest T) → tops (put i w below f) ≡ tops f
  put_tops zero w below none = refl
  put_tops (suc i) w below none = refl
  put_tops zero w below (tree h v kids rest) = refl
  put_tops (suc i) w below (tree h v kids rest) = ap (λ (hs : List Handle). h ∷ hs) (put_tops i w below rest)

  skip_none : (i : ℕ) → skip {T = T} i none ≡ none
  skip_none zero = refl
  skip_none (suc i) = refl

  pub put_weigh : (u : Handle → ℕ) (i : ℕ) (c : Handle) (v w : T) (kids below after f : Forest T) → skip i f ≡ tree c v kids after
      → weigh u below ≡ weigh u kids → weigh u (put i w below f) ≡ weigh u f
  put_weigh u i c v w kids below after none is alike = absurd (none_tree c v kids after (sym (skip_none i) ∙ is))
  put_weigh u zero c v w kids below after (tree h x us rest) is alike =
      let parts : us ≡ kids = cc in
      ap (λ (n : ℕ). u h + n + weigh u rest) (alike ∙ ap (λ (g : Forest T). weigh u g) (sym parts))
  put_weigh u (suc i) c v w kids below after (tree h x us rest) is alike =
      ap (λ (n : ℕ). u h + weigh u us + n) (put_weigh u i c v w kids below after rest is alike)

  -- what stands in tree number i stands in the forest
  pub in_tree : (u : Handle → ℕ) (i : ℕ) (c : Handle) (v : T) (kids after f : Forest T) → skip i f ≡ tree c v kids after
      → weigh u (tree c v kids none) ≤ weigh u f
  in_tree u i c v kids after none is = absurd (none_tree c v kids after (sym (skip_none i) ∙ is))
  in_tree u zero c v kids after (tree h x us rest) is =
      let one : h ≡ c = cc in
      let parts : us ≡ kids = cc in
      let eh : u h ≡ u c = ap u one in
      let ek : weigh u us ≡ weigh u kids = ap (λ (g : Forest T). weigh u g) parts in
      omega arith
  in_tree u (suc i) c v kids after (tree h x us rest) is = let more = in_tree u i c v kids after rest is in omega arith

  put_here : (at new : Handle → Option (TreeNode T)) (p : Option Handle) (h c : Handle) (v w : T) (kids below more : Forest T)
      → Stands at p more → IsDistinct (tree h v kids more) → h ≡ c → Stands new p (tree c w below none)
      → ((k : Handle) → (In k (tree c v kids none) → ⊥) → new k ≡ at k) → Stands new p (tree h w below more)
  put_here at new p h c v w kids below more stands distinct one after others =
      let moved : Stands new p (tree h w below none) = subst (λ (x : Handle). Stands new p (tree x w below none)) (sym one) after in (
        moved.0,
        moved.1,
        Stands-same at new p more stands (λ k inside. others k (λ there.
            let twice : count k (tree h v kids more) ≤ 1 = distinct k in
            let here : count k (tree h v kids none) ≡ count k (tree c v kids none) = ap (λ (x : Handle). count k (tree x v kids none)) one in
            omega (arith, twice, here, there, inside))),
      )

  pub put_stands : (at new : Handle → Option (TreeNode T)) (p : Option Handle) (i : ℕ) (c : Handle) (v w : T) (kids below after f : Forest T)
      → Stands at p f → IsDistinct f → skip i f ≡ tree c v kids after → Stands new p (tree c w below none)
      → ((k : Handle) → (In k (tree c v kids none) → ⊥) → new k ≡ at k) → Stands new p (put i w below f)
  put_stands at new p i c v w kids below after none stands distinct is now others = absurd (none_tree c v kids after (sym (skip_none i) ∙ is))
  put_stands at new p zero c v w kids below after (tree h x us more) stands distinct is now others =
      let one : h ≡ c = cc in
      let values : x ≡ v = cc in
      let parts : us ≡ kids = cc in
      put_here at new p h c x w us below more stands.2 distinct one now
      (λ k out. others k (λ there. out (subst (λ (g : Forest T). In k (tree c x g none)) (sym parts) (subst (λ (y : T). In k (tree c y kids none)) (sym values) there))))
  put_stands at new p (suc i) c v w kids below after (tree h x us more) stands distinct is now others = (
    others h (λ there.
        let twice : count h (tree h x us more) ≤ 1 = distinct h in
        let within = in_tree (λ k. cond {A = ℕ} (same k h) 1 0) i c v kids after more is in
        let mine : cond {A = ℕ} (same h h) 1 0 ≡ 1 = ap (λ b. cond {A = ℕ} b 1 0) (same_self h) in
        omega (arith, twice, within, mine, there))
        ∙ stands.0,
    Stands-same at new (Some h) us stands.1 (λ k inside. others k (λ there.
        let twice : count k (tree h x us more) ≤ 1 = distinct k in
        let within = in_tree (λ j. cond {A = ℕ} (same j k) 1 0) i c v kids after more is in
        omega (arith, twice, within, inside, there))),
    put_stands at new p i c v w kids below after more stands.2 (λ k. let all : count k (tree h x us more) ≤ 1 = distinct k in omega (arith, all)) is now others,
  )

  -- tree number i stands there
  pub nth_stands : (at : Handle → Option (TreeNode T)) (p : Option Handle) (i : ℕ) (c : Handle) (v : T) (kids after f : Forest T)
      → Stands at p f → skip i f ≡ tree c v kids after → Stands at p (tree c v kids none)
  nth_stands at p i c v kids after none stands is = absurd (none_tree c v kids after (sym (skip_none i) ∙ is))
  nth_stands at p zero c v kids after (tree h x us more) stands is =
      let one : h ≡ c = cc in
      let values : x ≡ v = cc in
      let parts : us ≡ kids = cc in
      subst (λ (j : Handle). Stands at p (tree j v kids none)) one
      (subst (λ (y : T). Stands at p (tree h y kids none)) values
      (subst (λ (g : Forest T). Stands at p (tree h x g none)) parts (stands.0, stands.1, tt)))
  nth_stands at p (suc i) c v kids after (tree h x us more) stands is = nth_stands at p i c v kids after more stands.2 is

  -- there is a tree number i, and its top is handle number i
  pub nth_tree : (i : ℕ) (f : Forest T) (z : Handle) → i < length (tops f)
      → (v : T) × (kids : Forest T) × (after : Forest T) × (skip i f ≡ tree (get_or (tops f) i z) v kids after)
  nth_tree zero none z less = absurd (omega arith)
  nth_tree (suc i) none z less = absurd (omega arith)
  nth_tree zero (tree h v kids rest) z less = (v, kids, rest, refl)
  nth_tree (suc i) (tree h v kids rest) z less = nth_tree i rest z (omega arith)
