-- Setting marks on the way up, node by node: what is left to be set, set now, comes to all marks set at once.
use Rattle.std.proofs.Common.{◌≡◌, ℕ, suc, ◌+◌, ◌-◌, ◌<◌, ◌≤◌, Bool, true, false, cond, ◌&&◌, ◌||◌, ◌⊎◌, inl, inr, option_to_list, nat_lt, List, [], ◌∷◌, ◌++◌, length, Option, Some, None, option_map, is_some, not, refl, sym, ap, ◌∙◌, subst, arith, append-nil, lt-ltb, le-ltb, ltb-true, ltb-false}
use Rattle.std.proofs.lemmas.Bool.{cases_Bool}
use Rattle.fx_handles.specs.declared.Handle.{Handle}
use Rattle.fx_handles.specs.Handle.{same}
use Rattle.fx_handles.specs.HandleLaws.{same-true}
use Rattle.fx_handles.specs.ArenaLaws.{same_Some, some_of}
use Rattle.node_tree.specs.Forest.{TreeNode, Forest, map_values, In}
use Rattle.node_tree.specs.Tree.{Tree, node_at, IsNode, IsTree, parent_of, parent_at, value_at, Is}
use Rattle.node_tree.specs.Edits.{KeepsHandles, WritesValue}
use Rattle.node_tree.proofs.TreeLemmas.{parent_lists}
use Rattle.node_tree.proofs.Children.{mapped_is}
use Rattle.tree_marks.specs.Marking.{Marking, IsMarking, at_top}
use Rattle.tree_marks.specs.Marks.{has_node, mark}
use Rattle.tree_marks.specs.Ways.{IsWay, place_of, reach, along, OnlyMarks}
use Rattle.tree_marks.proofs.Climbing.{missing, link}
use Rattle.tree_marks.proofs.ClimbSteps.{way_none, way_some}

module _ {V : Type 0} where
  -- no handle comes or goes over two changes
  pub keeps_handles-self : (t : Tree V) → KeepsHandles t.nodes t.nodes
  keeps_handles-self t = record { generations = λ i. refl; spent = λ k s. s; used = refl; retired = refl; generation_sum = refl; inserted = refl }

  pub keeps_handles-twice : (a b c : Tree V) → KeepsHandles a.nodes b.nodes → KeepsHandles b.nodes c.nodes → KeepsHandles a.nodes c.nodes
  keeps_handles-twice a b c x y = record {
    generations = λ i. y.generations i ∙ x.generations i;
    spent = λ k s. y.spent k (x.spent k s);
    used = y.used ∙ x.used;
    retired = y.retired ∙ x.retired;
    generation_sum = y.generation_sum ∙ x.generation_sum;
    inserted = y.inserted ∙ x.inserted;
  }

  -- a node of the tree stands in the forest
  pub node_stands : (t : Tree V) (f : Forest V) (h : Handle) → Is t f → IsNode t h → has_node h f ≡ true
  node_stands t f h is live = elim (cases_Bool (has_node h f)) [
    | inl e ↦ e
    | inr e ↦ absurd (let inside : In h f = is.whole h live in omega (arith, inside, missing h f e))
  ]

  abbrev pub over : (V → V) → TreeNode V → TreeNode V
  over g n = record n { value = g n.value }

  pub over-none : (o : Option (TreeNode V)) → option_map (over (λ v. v)) o ≡ o
  over-none None = refl
  over-none (Some n) = refl

module _ {V : Type 0} (m : Marking V) where
  way_top : (at : Handle → Option (TreeNode V)) (o : Option Handle) (es : List (Handle × V)) → IsWay at o es → is_some o ≡ not (place_of m es).top
  way_top at o [] way = ap is_some way
  way_top at o (d ∷ es) way = ap is_some way.0

  same_not : (a b : Bool) → not a ≡ not b → a ≡ b
  same_not true true e = refl
  same_not true false e = sym e
  same_not false true e = sym e
  same_not false false e = refl

  module _ (ok : IsMarking m) where
    -- the way up from a node, and its marks
    pub way_marks : (also : Bool) (t : Tree V) (f : Forest V) (h : Handle) → Is t f → IsNode t h
        → (es : List (Handle × V)) × IsWay (node_at t) (Some h) es × (map_values (along m also (reach m es) es []) f ≡ mark m also at_top h f)
    way_marks also t f h is live =
        let l = link m ok also [] None h (node_at t) f is.stands is.distinct refl (node_stands t f h is live) in
        let way : List (Handle × V) = (h, l.first) ∷ l.more in (
          way,
          subst (IsWay (node_at t) (Some h)) (append-nil way) l.way,
          ap (λ y. map_values (along m also (reach m y) way []) f) (sym (append-nil way)) ∙ l.marks,
        )

    pub record Going (t0 t : Tree V) (next : Option Handle) (below also : Bool) (i : ℕ) (es : List (Handle × V)) : Type 0 where
      pub left : List (Handle × V)
      pub way : IsWay (node_at t0) next left
      pub len : length es ≡ i + length left
      pub values : (k : Handle) → option_map (over (along m below (reach m es - i) left [] k)) (node_at t k) ≡ option_map (over (along m also (reach m es) es [] k)) (node_at t0 k)

    pub record Goes (t0 t : Tree V) (h : Handle) (next : Option Handle) (below also : Bool) (i : ℕ) : Type 0 where
      pub only : OnlyMarks m t0 t
      pub gone : (k : Handle) → node_at t0 k ≡ None → node_at t k ≡ None
      pub root : t.root ≡ t0.root
      pub inactive : t.inactive ≡ t0.inactive
      pub handles : KeepsHandles t0.nodes t.nodes
      pub live : (k : Handle) → next ≡ Some k → IsNode t0 k
      pub ways : (es : List (Handle × V)) → IsWay (node_at t0) (Some h) es → Going t0 t next below also i es

    pub only-self : (t : Tree V) → OnlyMarks m t t
    only-self t k n is = (false, false, is ∙ ap (λ v. Some (record n { value = v })) (sym (ok.nothing n.value)))

    pub only-twice : (a b c : Tree V) → OnlyMarks m a b → OnlyMarks m b c → OnlyMarks m a c
    only-twice a b c first second k n is =
        let x = first k n is in
        let y = second k (record n { value = m.marked x.0 x.1 n.value }) x.2 in
        (x.0 || y.0, x.1 || y.1, y.2 ∙ ap (λ v. Some (record n { value = v })) (ok.twice y.0 y.1 x.0 x.1 n.value))

    pub goes-start : (t : Tree V) (h : Handle) (also : Bool) → IsNode t h → Goes t t h (Some h) also also 0
    goes-start t h also live = record {
      only = only-self t;
      gone = λ k e. e;
      root = refl;
      inactive = refl;
      handles = keeps_handles-self t;
      live = λ k e. subst (IsNode t) (same_Some e) live;
      ways = λ es way. let all : reach m es - 0 ≡ reach m es = omega arith in record {
        left = es;
        way = way;
        len = omega arith;
        values = λ k. ap (λ n. option_map (over (along m also n es [] k)) (node_at t k)) all;
      };
    }

    -- what a write of one node's marks leaves
    written : (t0 t u : Tree V) (at : Handle) (w : V) (n0 : TreeNode V) (f b : Bool) (v : V) → node_at t0 at ≡ Some n0 → v ≡ m.marked f b n0.value → (F B : Bool) → w ≡ m.marked F B v
        → OnlyMarks m t0 t → node_at t at ≡ Some (record n0 { value = v }) → WritesValue t.nodes u.nodes at w → OnlyMarks m t0 u
    written t0 t u at w n0 f b v is0 is_v F B is_w only is writes k n there =
        let x = only k n there in
        let now : node_at u k ≡ Some (cond (same k at) (record n { value = w }) (record n { value = m.marked x.0 x.1 n.value })) =
        writes.nodes k ∙ ap (option_map (λ (y : TreeNode V). cond (same k at) (record y { value = w }) y)) x.2 in
        elim (cases_Bool (same k at)) [
          | inl e ↦
              let here : k ≡ at = same-true k at e in
              let one : n ≡ n0 = same_Some (sym there ∙ (ap (node_at t0) here ∙ is0)) in
              let value : w ≡ m.marked (f || F) (b || B) n.value = is_w ∙ (ap (m.marked F B) is_v ∙ (ok.twice F B f b n0.value ∙ ap (λ (y : TreeNode V). m.marked (f || F) (b || B) y.value) (sym one))) in
              (f || F, b || B, now ∙ (ap (λ c. Some (cond c (record n { value = w }) (record n { value = m.marked x.0 x.1 n.value }))) e ∙ ap (λ y. Some (record n { value = y })) value))
          | inr e ↦ (x.0, x.1, now ∙ ap (λ c. Some (cond c (record n { value = w }) (record n { value = m.marked x.0 x.1 n.value }))) e)
        ]

    pub goes-more : (t0 t u : Tree V) (h at : Handle) (next : Option Handle) (below also reached top : Bool) (i flags : ℕ)
        → IsTree t0 → Goes t0 t h next below also i → next ≡ Some at → reached ≡ nat_lt i flags → ((es : List (Handle × V)) → IsWay (node_at t0) (Some h) es → flags ≡ reach m es)
        → is_some (parent_at t at) ≡ not top
        → ((v : V) → value_at t at ≡ Some v → WritesValue t.nodes u.nodes at (m.marked (reached && m.takes top v) below v))
        → u.root ≡ t.root → u.inactive ≡ t.inactive → Goes t0 u h (parent_at t at) true also (i + 1)
    goes-more t0 t u h at next below also reached top i flags is_tree so_far is_at is_reached is_flags is_top writes root inactive =
        let live = some_of (node_at t0 at) (so_far.live at is_at) in
        by_node live.0 live.1 (so_far.only at live.0 live.1)
      where
        by_node : (n0 : TreeNode V) → node_at t0 at ≡ Some n0 → (f : Bool) × (b : Bool) × (node_at t at ≡ Some (record n0 { value = m.marked f b n0.value })) → Goes t0 u h (parent_at t at) true also (i + 1)
        by_node n0 is0 marks =
            let v : V = m.marked marks.0 marks.1 n0.value in
            let is : node_at t at ≡ Some (record n0 { value = v }) = marks.2 in
            let w : V = m.marked (reached && m.takes top v) below v in
            let value : value_at t at ≡ Some v = ap (option_map (λ (n : TreeNode V). n.value)) is in
            let write = writes v value in
            let up : parent_at t at ≡ parent_at t0 at = ap parent_of is ∙ sym (ap parent_of is0) in
            record {
              only = written t0 t u at w n0 marks.0 marks.1 v is0 refl (reached && m.takes top v) below refl so_far.only is write;
              gone = λ k e. write.nodes k ∙ ap (option_map (λ (y : TreeNode V). cond (same k at) (record y { value = w }) y)) (so_far.gone k e);
              root = root ∙ so_far.root;
              inactive = inactive ∙ so_far.inactive;
              handles = keeps_handles-twice t0 t u so_far.handles write.handles;
              live = λ k e. (parent_lists t0 is_tree.0 at k is_tree.1 (sym up ∙ e)).0;
              ways = λ es way.
                  let l = so_far.ways es way in
                  let first = way_some (node_at t0) next l.left at n0.value l.way is_at (ap (option_map (λ (n : TreeNode V). n.value)) is0) in
                  let longer : length l.left ≡ suc (length first.rest) = ap length first.whole in
                  let less : (reach m es - i) - 1 ≡ reach m es - (i + 1) = omega arith in
                  let is_reach : reached ≡ nat_lt 0 (reach m es - i) = is_reached ∙ (ap (nat_lt i) (is_flags es way) ∙ shifted (reach m es) (cases_Bool (nat_lt i (reach m es)))) in
                  let is_place : top ≡ (place_of m (first.rest ++ [])).top =
                  same_not top (place_of m first.rest).top (sym is_top ∙ (ap is_some up ∙ way_top (node_at t0) (parent_at t0 at) first.rest first.way)) ∙ ap (λ y. (place_of m y).top) (sym (append-nil first.rest)) in
                  record {
                    left = first.rest;
                    way = subst (λ o. IsWay (node_at t0) o first.rest) (sym up) first.way;
                    len = omega (arith, l.len);
                    values = λ k.
                        ap (option_map (over (along m true (reach m es - (i + 1)) first.rest [] k))) (write.nodes k)
                        ∙ (ap (λ n. option_map (over (along m true n first.rest [] k)) (option_map (λ (y : TreeNode V). cond (same k at) (record y { value = w }) y) (node_at t k))) (sym less)
                        ∙ (stepped_value k (reach m es - i) first.rest (node_at t k) refl v value (same_bits reached (nat_lt 0 (reach m es - i)) top (place_of m (first.rest ++ [])).top is_reach is_place v)
                        ∙ (ap (λ y. option_map (over (along m below (reach m es - i) y [] k)) (node_at t k)) (sym first.whole) ∙ l.values k)));
                  };
            }
          where
            shifted : (r : ℕ) → (nat_lt i r ≡ true) ⊎ (nat_lt i r ≡ false) → nat_lt i r ≡ nat_lt 0 (r - i)
            shifted r (inl e) = let under : i < r = ltb-true i r e in e ∙ sym (lt-ltb 0 (r - i) (omega arith))
            shifted r (inr e) = let over_ : r ≤ i = ltb-false i r e in e ∙ sym (le-ltb 0 (r - i) (omega arith))

            same_bits : (a b c d : Bool) → a ≡ b → c ≡ d → (x : V) → m.marked (a && m.takes c x) below x ≡ m.marked (b && m.takes d x) below x
            same_bits a b c d e g x = ap (λ y. m.marked (y && m.takes c x) below x) e ∙ ap (λ y. m.marked (b && m.takes y x) below x) g

            stepped_value : (k : Handle) (left : ℕ) (ds : List (Handle × V)) (o : Option (TreeNode V)) → node_at t k ≡ o → (x : V) → value_at t at ≡ Some x
                → m.marked (reached && m.takes top x) below x ≡ m.marked (nat_lt 0 left && m.takes (place_of m (ds ++ [])).top x) below x
                → option_map (over (along m true (left - 1) ds [] k)) (option_map (λ (y : TreeNode V). cond (same k at) (record y { value = m.marked (reached && m.takes top x) below x }) y) o)
                ≡ option_map (over (along m below left ((at, n0.value) ∷ ds) [] k)) o
            stepped_value k left ds None here x value e = refl
            stepped_value k left ds (Some n) here x value e = by_same (same k at) refl
              where
                by_same : (b : Bool) → same k at ≡ b
                    → Some (over (along m true (left - 1) ds [] k) (cond b (record n { value = m.marked (reached && m.takes top x) below x }) n))
                    ≡ Some (record n { value = along m true (left - 1) ds [] k (cond b (m.marked (nat_lt 0 left && m.takes (place_of m (ds ++ [])).top n.value) below n.value) n.value) })
                by_same false g = refl
                by_same true g =
                    let there : n.value ≡ x = same_Some (sym (ap (option_map (λ (y : TreeNode V). y.value)) here) ∙ (ap (value_at t) (same-true k at g) ∙ value)) in
                    ap (λ y. Some (record n { value = along m true (left - 1) ds [] k y })) (e ∙ ap (λ y. m.marked (nat_lt 0 left && m.takes (place_of m (ds ++ [])).top y) below y) (sym there))

    -- a turn of the loop has a node
    pub goes-on : (t0 t : Tree V) (h : Handle) (next : Option Handle) (below also : Bool) (i steps : ℕ) → IsTree t0 → IsNode t0 h → Goes t0 t h next below also i → i < steps
        → ((es : List (Handle × V)) → IsWay (node_at t0) (Some h) es → steps ≡ length es) → ((k : Handle) → next ≡ Some k → ⊥) → ⊥
    goes-on t0 t h next below also i steps is live so_far more is_steps ended =
        let w = way_marks also t0 is.0 h is.1 live in
        let l = so_far.ways w.0 w.1 in
        let nothing : length l.left ≡ 0 = ap length (way_none (node_at t0) next l.left l.way (no_next next ended)) in
        absurd (omega (arith, l.len, is_steps w.0 w.1))
      where
        no_next : (o : Option Handle) → ((k : Handle) → o ≡ Some k → ⊥) → o ≡ None
        no_next None e = refl
        no_next (Some k) e = absurd (e k refl)

    pub goes-end : (t0 t : Tree V) (h : Handle) (next : Option Handle) (below also : Bool) (i steps : ℕ) → IsNode t0 h → Goes t0 t h next below also i → i ≡ steps
        → ((es : List (Handle × V)) → IsWay (node_at t0) (Some h) es → steps ≡ length es) → (f : Forest V) → Is t0 f → Is t (mark m also at_top h f)
    goes-end t0 t h next below also i steps live so_far all is_steps f is =
        let w = way_marks also t0 f h is live in
        let l = so_far.ways w.0 w.1 in
        let nothing : l.left ≡ [] = none_left l.left (omega (arith, l.len, is_steps w.0 w.1)) in
        subst (Is t) w.2
        (mapped_is (along m also (reach m w.0) w.0 []) t0 t f is
        (λ k. sym (over-none (node_at t k)) ∙ (ap (λ y. option_map (over (along m below (reach m w.0 - i) y [] k)) (node_at t k)) (sym nothing) ∙ l.values k))
        (ap (λ r. option_to_list r ++ t.inactive) so_far.root ∙ ap (λ r. option_to_list t0.root ++ r) so_far.inactive))
      where
        none_left : (es : List (Handle × V)) → length es ≡ 0 → es ≡ []
        none_left [] e = refl
        none_left (d ∷ es) e = absurd (let longer : length (d ∷ es) ≡ suc (length es) = refl in omega (arith, longer))
