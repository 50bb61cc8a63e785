-- Going up a way: what is counted on it.
use Rattle.std.proofs.Common.{◌≡◌, ℕ, suc, ◌+◌, ◌≤◌, Bool, true, false, not, cond, ◌&&◌, ◌||◌, List, [], ◌∷◌, length, Option, Some, None, option_map, refl, sym, ap, ◌∙◌, subst, arith}
use Rattle.fx_handles.specs.declared.Handle.{Handle}
use Rattle.fx_handles.specs.declared.TheConstants.{SLOTS_MAX}
use Rattle.fx_handles.specs.Arena.{used_count}
use Rattle.fx_handles.specs.ArenaLaws.{same_Some}
use Rattle.node_tree.specs.Forest.{TreeNode}
use Rattle.node_tree.specs.Tree.{Tree, node_at, IsNode, IsTree, parent_of, parent_at, value_at}
use Rattle.node_tree.proofs.TreeLemmas.{parent_lists}
use Rattle.node_tree.proofs.Walks.{climb, climb_less}
use Rattle.tree_marks.specs.declared.climb.Climb.{Climb}
use Rattle.tree_marks.specs.Marking.{Marking}
use Rattle.tree_marks.specs.Ways.{IsWay, place_of, reach, stepped}

module _ {V : Type 0} where
  -- above a top there is no way
  pub way_none : (at : Handle → Option (TreeNode V)) (o : Option Handle) (es : List (Handle × V)) → IsWay at o es → o ≡ None → es ≡ []
  way_none at o [] way e = refl
  way_none at o (d ∷ es) way e = absurd (let some : o ≡ Some d.0 = way.0 in cc)

  -- the first node of a way, and the others
  pub record Opened (at : Handle → Option (TreeNode V)) (k : Handle) (v : V) (es : List (Handle × V)) : Type 0 where
    pub rest : List (Handle × V)
    pub whole : es ≡ (k, v) ∷ rest
    pub way : IsWay at (parent_of (at k)) rest

  pub way_some : (at : Handle → Option (TreeNode V)) (o : Option Handle) (es : List (Handle × V)) (k : Handle) (v : V) → IsWay at o es → o ≡ Some k
      → option_map (λ (n : TreeNode V). n.value) (at k) ≡ Some v → Opened at k v es
  way_some at o [] k v way e is = absurd (let nothing : o ≡ None = way in cc)
  way_some at o (d ∷ es) k v way e is =
      let here : d.0 ≡ k = same_Some (sym way.0 ∙ e) in
      let value : d.1 ≡ v = same_Some (sym way.1 ∙ (ap (λ y. option_map (λ (n : TreeNode V). n.value) (at y)) here ∙ is)) in
      let pair : Handle → V → Handle × V = λ a b. (a, b) in
      record {
        rest = es;
        whole = ap (λ a. pair a d.1 ∷ es) here ∙ ap (λ b. pair k b ∷ es) value;
        way = subst (λ y. IsWay at (parent_of (at y)) es) here way.2;
      }

-- one node more on the count: r says whether the climb rises, a whether the node asks, q whether something above does, e whether it ends
counted : (r a q e : Bool) (s f n R : ℕ) → R ≡ cond (r || (q || a)) (s + suc (cond (not q && e) 0 n)) f
    → let c : Climb = record { steps = s; flags = f; rising = r } in R ≡ cond ((stepped c a e).rising || q) ((stepped c a e).steps + n) (stepped c a e).flags
counted true a true true s f n R h = omega arith
counted true a true false s f n R h = omega arith
counted true a false true s f n R h = omega arith
counted true a false false s f n R h = omega arith
counted false true true true s f n R h = omega arith
counted false true true false s f n R h = omega arith
counted false true false true s f n R h = omega arith
counted false true false false s f n R h = omega arith
counted false false true e s f n R h = omega arith
counted false false false e s f n R h = h

stepped-steps : (r a e : Bool) (s f : ℕ) → (stepped (record { steps = s; flags = f; rising = r }) a e).steps ≡ s + 1
stepped-steps true a e s f = refl
stepped-steps false true e s f = refl
stepped-steps false false e s f = refl

stepped-rises : (r a e : Bool) (s f : ℕ) → (stepped (record { steps = s; flags = f; rising = r }) a e).rising ≡ true → (stepped (record { steps = s; flags = f; rising = r }) a e).flags ≡ s + 1
stepped-rises true a e s f h = refl
stepped-rises false true e s f h = refl
stepped-rises false false e s f h = absurd (cc)

module _ {V : Type 0} (m : Marking V) (t : Tree V) where
  -- what is left of a way
  pub record Left (next : Option Handle) (c : Climb) (es : List (Handle × V)) : Type 0 where
    pub rest : List (Handle × V)
    pub way : IsWay (node_at t) next rest
    pub len : length es ≡ c.steps + length rest
    pub flags : reach m es ≡ cond (c.rising || (place_of m rest).asked) (c.steps + reach m rest) c.flags

  pub record Rises (h : Handle) (next : Option Handle) (c : Climb) : Type 0 where
    pub is_tree : IsTree t
    pub live : (k : Handle) → next ≡ Some k → IsNode t k
    pub short : c.steps + climb t next ≤ SLOTS_MAX + 1
    pub rises : c.rising ≡ true → c.flags ≡ c.steps
    pub ways : (es : List (Handle × V)) → IsWay (node_at t) (Some h) es → Left next c es

  pub rises-start : (h : Handle) → IsTree t → IsNode t h → used_count t.nodes ≤ SLOTS_MAX → Rises h (Some h) (record { steps = 0; flags = 0; rising = true })
  rises-start h is live few = record {
    is_tree = is;
    live = λ k e. subst (IsNode t) (same_Some e) live;
    short = omega arith;
    rises = λ e. refl;
    ways = λ es way. record { rest = es; way = way; len = omega arith; flags = omega arith };
  }

  pub rises-more : (h at : Handle) (next : Option Handle) (v : V) (asks ends : Bool) (c d : Climb) → Rises h next c → next ≡ Some at → value_at t at ≡ Some v → asks ≡ m.asks v
      → ((es : List (Handle × V)) → IsWay (node_at t) (parent_at t at) es → ends ≡ m.ends (place_of m es).top (place_of m es).hidden v)
      → d ≡ stepped c asks ends → Rises h (parent_at t at) d
  rises-more h at next v asks ends c d so_far is_at is_v asks_is ends_is step = record {
    is_tree = so_far.is_tree;
    live = λ k e. (parent_lists t so_far.is_tree.0 at k so_far.is_tree.1 e).0;
    short =
        let less = climb_less t so_far.is_tree.0 at so_far.is_tree.1 in
        let before : climb t next ≡ climb t (Some at) = ap (climb t) is_at in
        let steps : d.steps ≡ c.steps + 1 = ap (λ y. y.steps) step ∙ stepped-steps c.rising asks ends c.steps c.flags in
        omega (arith, so_far.short);
    rises = λ e.
        ap (λ y. y.flags) step
        ∙ (stepped-rises c.rising asks ends c.steps c.flags (sym (ap (λ y. y.rising) step) ∙ e) ∙ sym (ap (λ y. y.steps) step ∙ stepped-steps c.rising asks ends c.steps c.flags));
    ways = λ es way. by_left es (so_far.ways es way);
  }
    where
      by_left : (es : List (Handle × V)) → Left next c es → Left (parent_at t at) d es
      by_left es l =
          let open_ = way_some (node_at t) next l.rest at v l.way is_at is_v in
          let q : Bool = (place_of m open_.rest).asked in
          let whole : reach m l.rest ≡ suc (cond (not q && ends) 0 (reach m open_.rest)) =
          ap (reach m) open_.whole ∙ ap (λ b. suc (cond (not q && b) 0 (reach m open_.rest))) (sym (ends_is open_.rest open_.way)) in
          let asked : (place_of m l.rest).asked ≡ (q || asks) = ap (λ y. (place_of m y).asked) open_.whole ∙ ap (λ b. q || b) (sym asks_is) in
          let old : reach m es ≡ cond (c.rising || (q || asks)) (c.steps + suc (cond (not q && ends) 0 (reach m open_.rest))) c.flags =
          l.flags ∙ (ap (λ b. cond (c.rising || b) (c.steps + reach m l.rest) c.flags) asked ∙ ap (λ n. cond (c.rising || (q || asks)) (c.steps + n) c.flags) whole) in
          let steps : d.steps ≡ c.steps + 1 = ap (λ y. y.steps) step ∙ stepped-steps c.rising asks ends c.steps c.flags in
          let longer : length l.rest ≡ suc (length open_.rest) = ap length open_.whole in
          record {
            rest = open_.rest;
            way = open_.way;
            len = omega (arith, l.len);
            flags =
                counted c.rising asks q ends c.steps c.flags (reach m open_.rest) (reach m es) old
                ∙ ap (λ (y : Climb). cond (y.rising || q) (y.steps + reach m open_.rest) y.flags) (sym step);
          }

  pub rises-steps : (h : Handle) (next : Option Handle) (c : Climb) → Rises h next c → ((k : Handle) → next ≡ Some k → ⊥) → (es : List (Handle × V)) → IsWay (node_at t) (Some h) es → c.steps ≡ length es
  rises-steps h next c so_far ended es way =
      let l = so_far.ways es way in
      let gone : length l.rest ≡ 0 = ap length (way_none (node_at t) next l.rest l.way (no_next next ended)) in
      omega (arith, l.len)
    where
      no_next : (o : Option Handle) → ((k : Handle) → o ≡ Some k → ⊥) → o ≡ None
      no_next None e = refl
      no_next (Some k) e = absurd (e k refl)

  pub rises-flags : (h : Handle) (next : Option Handle) (c : Climb) → Rises h next c → ((k : Handle) → next ≡ Some k → ⊥) → (es : List (Handle × V)) → IsWay (node_at t) (Some h) es → c.flags ≡ reach m es
  rises-flags h next c so_far ended es way =
      let l = so_far.ways es way in
      let gone : l.rest ≡ [] = way_none (node_at t) next l.rest l.way (no_next next ended) in
      by_rising c.rising refl (l.flags ∙ ap (λ r. cond (c.rising || (place_of m r).asked) (c.steps + reach m r) c.flags) gone)
    where
      no_next : (o : Option Handle) → ((k : Handle) → o ≡ Some k → ⊥) → o ≡ None
      no_next None e = refl
      no_next (Some k) e = absurd (e k refl)

      by_rising : (r : Bool) → c.rising ≡ r → reach m es ≡ cond (c.rising || false) (c.steps + 0) c.flags → c.flags ≡ reach m es
      by_rising true e h = let all : cond (c.rising || false) (c.steps + 0) c.flags ≡ c.steps + 0 = ap (λ b. cond (b || false) (c.steps + 0) c.flags) e in omega (arith, so_far.rises e)
      by_rising false e h = sym (h ∙ ap (λ b. cond (b || false) (c.steps + 0) c.flags) e)
