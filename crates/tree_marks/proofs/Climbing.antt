-- The way up from a node, and the forest in which the node stands: going up the way sets the marks of the node.
use Rattle.std.proofs.Common.{◌≡◌, ℕ, suc, ◌+◌, ◌-◌, ◌≤◌, Bool, true, false, not, cond, ◌&&◌, ◌||◌, ◌⊎◌, inl, inr, nat_lt, List, [], ◌∷◌, ◌++◌, length, Option, Some, option_map, refl, sym, ap, ◌∙◌, subst, arith, length-append, lt-ltb, le-ltb}
use Rattle.std.proofs.lemmas.Bool.{cases_Bool, and_left, or_parts, or_from, or_left, or_right, false≢true, true≢false, false_from_ne_true}
use Rattle.std.proofs.lemmas.List.{append_assoc}
use Rattle.fx_handles.specs.declared.Handle.{Handle}
use Rattle.fx_handles.specs.Handle.{same}
use Rattle.fx_handles.specs.HandleLaws.{same-true, same_self, same-ne}
use Rattle.node_tree.specs.Forest.{TreeNode, Forest, tops, count, IsDistinct, Stands, map_values}
use Rattle.node_tree.specs.Forest.Forest.{none, tree}
use Rattle.node_tree.specs.Tree.{parent_of}
use Rattle.tree_marks.specs.Marking.{Above, Marking, IsMarking, within, is_boundary}
use Rattle.tree_marks.specs.Marks.{has_node, climbs, mark}
use Rattle.tree_marks.specs.Ways.{IsWay, place_of, reach, along}
use Rattle.tree_marks.proofs.Sweeps.{three}
use Rattle.tree_marks.proofs.Closing.{either}

and-true : (b : Bool) → (b && true) ≡ b
and-true true = refl
and-true false = refl

and-false : (b : Bool) → (b && false) ≡ false
and-false true = refl
and-false false = refl

module _ {V : Type 0} where
  -- ---- where handles stand

  pub absent : (c : Handle) (f : Forest V) → count c f ≡ 0 → has_node c f ≡ false
  absent c none e = refl
  absent c (tree k v kids rest) e =
      or_from
      (same k c)
      (has_node c kids || has_node c rest)
      (false_from_ne_true (same k c) (λ s. absurd (let one : cond {A = ℕ} (same k c) 1 0 ≡ 1 = ap (λ b. cond {A = ℕ} b 1 0) s in omega (arith, e, one))))
      (or_from (has_node c kids) (has_node c rest) (absent c kids (omega (arith, e))) (absent c rest (omega (arith, e))))

  pub present : (c : Handle) (f : Forest V) → has_node c f ≡ true → 1 ≤ count c f
  present c none e = absurd (false≢true e)
  present c (tree k v kids rest) e =
      elim (either (same k c) (has_node c kids || has_node c rest) e) [
        | inl s ↦ let one : cond {A = ℕ} (same k c) 1 0 ≡ 1 = ap (λ b. cond {A = ℕ} b 1 0) s in omega (arith, one)
        | inr a ↦ elim (either (has_node c kids) (has_node c rest) a) [
          | inl b ↦ omega (arith, present c kids b)
          | inr b ↦ omega (arith, present c rest b)
        ]
      ]

  pub missing : (c : Handle) (f : Forest V) → has_node c f ≡ false → count c f ≡ 0
  missing c none e = refl
  missing c (tree k v kids rest) e =
      let parts = or_parts (same k c) (has_node c kids || has_node c rest) e in
      let two = or_parts (has_node c kids) (has_node c rest) parts.1 in
      let other : cond {A = ℕ} (same k c) 1 0 ≡ 0 = ap (λ b. cond {A = ℕ} b 1 0) parts.0 in
      omega (arith, other, missing c kids two.0, missing c rest two.1)

  pub apart : (c d : Handle) (f : Forest V) → has_node c f ≡ true → has_node d f ≡ false → same c d ≡ false
  apart c d f inside away = same-ne c d (λ e. true≢false (sym (ap (λ y. has_node y f) (sym e) ∙ inside) ∙ away))

  -- the handle stands on the way
  abbrev pub on_way : Handle → List (Handle × V) → Bool
  on_way c [] = false
  on_way c (e ∷ es) = same c e.0 || on_way c es

  pub on_way-last : (c : Handle) (es : List (Handle × V)) (e : Handle × V) → on_way c (es ++ e ∷ []) ≡ true → (on_way c es ≡ true) ⊎ (same c e.0 ≡ true)
  on_way-last c [] e o = elim (either (same c e.0) false o) [ inl a ↦ inr a | inr a ↦ absurd (false≢true a) ]
  on_way-last c (d ∷ es) e o =
      elim (either (same c d.0) (on_way c (es ++ e ∷ [])) o) [
        | inl a ↦ inl (or_left (same c d.0) (on_way c es) a)
        | inr a ↦ elim (on_way-last c es e a) [ inl b ↦ inl (or_right (same c d.0) (on_way c es) b) | inr b ↦ inr b ]
      ]

  pub map-same : (g x : Handle → V → V) (f : Forest V) → ((c : Handle) (w : V) → has_node c f ≡ true → g c w ≡ x c w) → map_values g f ≡ map_values x f
  map-same g x none same_at = refl
  map-same g x (tree k v kids rest) same_at =
      three
      (λ w a b. tree k w a b)
      (same_at k v (or_left (same k k) (has_node k kids || has_node k rest) (same_self k)))
      (map-same g x kids (λ c w e. same_at c w (or_right (same k c) (has_node c kids || has_node c rest) (or_left (has_node c kids) (has_node c rest) e))))
      (map-same g x rest (λ c w e. same_at c w (or_right (same k c) (has_node c kids || has_node c rest) (or_right (has_node c kids) (has_node c rest) e))))

  pub map-none : (f : Forest V) → map_values (λ (c : Handle) (w : V). w) f ≡ f
  map-none none = refl
  map-none (tree k v kids rest) = ap (λ a. tree k v a (map_values (λ (c : Handle) (w : V). w) rest)) (map-none kids) ∙ ap (λ b. tree k v kids b) (map-none rest)

module _ {V : Type 0} (m : Marking V) where
  pub climbs-absent : (p : Above) (h : Handle) (f : Forest V) → has_node h f ≡ false → climbs m p h f ≡ false
  climbs-absent p h none e = refl
  climbs-absent p h (tree k v kids rest) e =
      let parts = or_parts (same k h) (has_node h kids || has_node h rest) e in
      let two = or_parts (has_node h kids) (has_node h rest) parts.1 in
      or_from
      ((same k h || climbs m (within m p v) h kids) && not (is_boundary m p v))
      (climbs m p h rest)
      (and_left (same k h || climbs m (within m p v) h kids) (not (is_boundary m p v)) (or_from (same k h) (climbs m (within m p v) h kids) parts.0 (climbs-absent (within m p v) h kids two.0)))
      (climbs-absent p h rest two.1)

  -- ---- values along a way

  pub along-off : (below : Bool) (flags : ℕ) (es above : List (Handle × V)) (k : Handle) (w : V) → on_way k es ≡ false → along m below flags es above k w ≡ w
  along-off below flags [] above k w e = refl
  along-off below flags (d ∷ es) above k w e =
      let parts = or_parts (same k d.0) (on_way k es) e in
      ap (λ b. along m true (flags - 1) es above k (cond b (m.marked (nat_lt 0 flags && m.takes (place_of m (es ++ above)).top w) below w) w)) parts.0
      ∙ along-off true (flags - 1) es above k w parts.1

  -- one more node at the end
  pub along-more : (flags : ℕ) (es : List (Handle × V)) (d : Handle × V) (above : List (Handle × V)) (k : Handle) (w : V) → on_way k es ≡ false
      → along m true flags (es ++ d ∷ []) above k w ≡ along m true (flags - length es) (d ∷ []) above k w
  along-more flags [] d above k w e = let all : flags ≡ flags - 0 = omega arith in ap (λ n. along m true n (d ∷ []) above k w) all
  along-more flags (c ∷ es) d above k w e =
      let parts = or_parts (same k c.0) (on_way k es) e in
      let less : (flags - 1) - length es ≡ flags - suc (length es) = omega arith in
      ap (λ b. along m true (flags - 1) (es ++ d ∷ []) above k (cond b (m.marked (nat_lt 0 flags && m.takes (place_of m ((es ++ d ∷ []) ++ above)).top w) true w) w)) parts.0
      ∙ (along-more (flags - 1) es d above k w parts.1 ∙ ap (λ n. along m true n (d ∷ []) above k w) less)

  pub along-drop : (below : Bool) (flags : ℕ) (es : List (Handle × V)) (d : Handle × V) (above : List (Handle × V)) (c : Handle) (w : V) → same c d.0 ≡ false
      → along m below flags (es ++ d ∷ []) above c w ≡ along m below flags es (d ∷ above) c w
  along-drop below flags [] d above c w e = ap (λ b. cond b (m.marked (nat_lt 0 flags && m.takes (place_of m above).top w) below w) w) e
  along-drop below flags (x ∷ es) d above c w e =
      ap (λ l. along m true (flags - 1) (es ++ d ∷ []) above c (cond (same c x.0) (m.marked (nat_lt 0 flags && m.takes (place_of m l).top w) below w) w)) (append_assoc es (d ∷ []) above)
      ∙ along-drop true (flags - 1) es d above c (cond (same c x.0) (m.marked (nat_lt 0 flags && m.takes (place_of m (es ++ d ∷ above)).top w) below w) w) e

  pub map-off : (below : Bool) (flags : ℕ) (es above : List (Handle × V)) (f : Forest V) → ((c : Handle) → has_node c f ≡ true → on_way c es ≡ false)
      → map_values (along m below flags es above) f ≡ f
  map-off below flags es above f off = map-same (along m below flags es above) (λ c w. w) f (λ c w inside. along-off below flags es above c w (off c inside)) ∙ map-none f

module _ {V : Type 0} (m : Marking V) (ok : IsMarking m) where
  pub mark-absent : (also : Bool) (p : Above) (h : Handle) (f : Forest V) → has_node h f ≡ false → mark m also p h f ≡ f
  mark-absent also p h none e = refl
  mark-absent also p h (tree k v kids rest) e =
      let parts = or_parts (same k h) (has_node h kids || has_node h rest) e in
      let two = or_parts (has_node h kids) (has_node h rest) parts.1 in
      three
      (λ w a b. tree k w a b)
      (unmarked parts.0 two.0)
      (mark-absent also (within m p v) h kids two.0)
      (mark-absent also p h rest two.1)
    where
      unmarked : same k h ≡ false → has_node h kids ≡ false → m.marked ((same k h || climbs m (within m p v) h kids) && m.takes p.top v) (has_node h kids || (also && same k h)) v ≡ v
      unmarked s a =
          ap (λ b. m.marked ((b || climbs m (within m p v) h kids) && m.takes p.top v) (has_node h kids || (also && b)) v) s
          ∙ (ap (λ b. m.marked (b && m.takes p.top v) (has_node h kids || (also && false)) v) (climbs-absent m (within m p v) h kids a)
          ∙ (ap (λ b. m.marked false (b || (also && false)) v) a ∙ (ap (λ b. m.marked false b v) (and-false also) ∙ ok.nothing v)))

  -- ---- the way from a node up, and its marks

  pub record Linked (also : Bool) (above : List (Handle × V)) (h : Handle) (at : Handle → Option (TreeNode V)) (f : Forest V) : Type 0 where
    pub first : V
    pub more : List (Handle × V)
    pub way : IsWay at (Some h) (((h, first) ∷ more) ++ above)
    pub inside : (c : Handle) → on_way c ((h, first) ∷ more) ≡ true → has_node c f ≡ true
    -- a climb that comes out goes on, and another one ends on the way
    pub out : climbs m (place_of m above) h f ≡ true → reach m (((h, first) ∷ more) ++ above) ≡ length {A = Handle × V} ((h, first) ∷ more) + reach m above
    pub stays : climbs m (place_of m above) h f ≡ false → reach m (((h, first) ∷ more) ++ above) ≤ length {A = Handle × V} ((h, first) ∷ more)
    pub marks : map_values (along m also (reach m (((h, first) ∷ more) ++ above)) ((h, first) ∷ more) above) f ≡ mark m also (place_of m above) h f

  -- the node is the first top
  linked_here : (also : Bool) (above : List (Handle × V)) (q : Option Handle) (k : Handle) (v : V) (kids rest : Forest V) (at : Handle → Option (TreeNode V))
      → at k ≡ Some (record { parent = q; children = tops kids; value = v }) → IsWay at q above → has_node k kids ≡ false → has_node k rest ≡ false
      → Linked also above k at (tree k v kids rest)
  linked_here also above q k v kids rest at is way in_kids in_rest = record {
    first = v;
    more = [];
    way = (refl, ap (option_map (λ (n : TreeNode V). n.value)) is, subst (λ o. IsWay at o above) (sym (ap parent_of is)) way);
    inside = λ c e. elim (either (same c k) false e) [
      | inl a ↦ or_left (same k c) (has_node c kids || has_node c rest) (ap (λ y. same k y) (same-true c k a) ∙ same_self k)
      | inr a ↦ absurd (false≢true a)
    ];
    out = λ e. by_out (is_boundary m p v) refl e;
    stays = λ e. by_stays (is_boundary m p v) refl e;
    marks = three (λ w a b. tree k w a b) value (all_off (within m p v) kids in_kids) (all_off p rest in_rest);
  }
    where
      p : Above
      p = place_of m above

      start : (same k k || climbs m (within m p v) k kids) ≡ true
      start = or_left (same k k) (climbs m (within m p v) k kids) (same_self k)

      climbs_is : (b : Bool) → is_boundary m p v ≡ b → climbs m p k (tree k v kids rest) ≡ not b
      climbs_is b e =
          ap (λ x. ((same k k || climbs m (within m p v) k kids) && not x) || climbs m p k rest) e
          ∙ (ap (λ x. (x && not b) || climbs m p k rest) start ∙ (ap (λ x. not b || x) (climbs-absent m p k rest in_rest) ∙ or-false (not b)))
        where
          or-false : (x : Bool) → (x || false) ≡ x
          or-false true = refl
          or-false false = refl

      by_out : (b : Bool) → is_boundary m p v ≡ b → climbs m p k (tree k v kids rest) ≡ true → suc (cond (is_boundary m p v) 0 (reach m above)) ≡ length {A = Handle × V} ((k, v) ∷ []) + reach m above
      by_out true e c = absurd (false≢true (sym (climbs_is true e) ∙ c))
      by_out false e c = let none_here : cond (is_boundary m p v) 0 (reach m above) ≡ reach m above = ap (λ x. cond x 0 (reach m above)) e in omega (arith, none_here)

      by_stays : (b : Bool) → is_boundary m p v ≡ b → climbs m p k (tree k v kids rest) ≡ false → suc (cond (is_boundary m p v) 0 (reach m above)) ≤ length {A = Handle × V} ((k, v) ∷ [])
      by_stays true e c = let ended : cond (is_boundary m p v) 0 (reach m above) ≡ 0 = ap (λ x. cond x 0 (reach m above)) e in omega (arith, ended)
      by_stays false e c = absurd (true≢false (sym (climbs_is false e) ∙ c))

      value : along m also (suc (cond (is_boundary m p v) 0 (reach m above))) ((k, v) ∷ []) above k v
          ≡ m.marked ((same k k || climbs m (within m p v) k kids) && m.takes p.top v) (has_node k kids || (also && same k k)) v
      value =
          ap (λ b. cond b (m.marked (nat_lt 0 (suc (cond (is_boundary m p v) 0 (reach m above))) && m.takes p.top v) also v) v) (same_self k)
          ∙ (ap (λ b. m.marked (b && m.takes p.top v) also v) (lt-ltb 0 (suc (cond (is_boundary m p v) 0 (reach m above))) (omega arith))
          ∙ (ap (λ b. m.marked (b && m.takes p.top v) also v) (sym start)
          ∙ ap (λ b. m.marked ((same k k || climbs m (within m p v) k kids) && m.takes p.top v) b v) (sym (ap (λ x. x || (also && same k k)) in_kids ∙ (ap (λ x. also && x) (same_self k) ∙ and-true also)))))

      all_off : (r : Above) (f : Forest V) → has_node k f ≡ false → map_values (along m also (suc (cond (is_boundary m (place_of m above) v) 0 (reach m above))) ((k, v) ∷ []) above) f ≡ mark m also r k f
      all_off r f e =
          map-off m also (suc (cond (is_boundary m (place_of m above) v) 0 (reach m above))) ((k, v) ∷ []) above f (λ c inside. or_from (same c k) false (apart c k f inside e) refl)
          ∙ sym (mark-absent also r k f e)

  -- it is below the first top
  linked_kids : (also : Bool) (above : List (Handle × V)) (h k : Handle) (v : V) (kids rest : Forest V) (at : Handle → Option (TreeNode V))
      → same k h ≡ false → has_node h kids ≡ true → has_node h rest ≡ false → has_node k kids ≡ false
      → ((c : Handle) → has_node c rest ≡ true → (same c k ≡ false) × (has_node c kids ≡ false))
      → Linked also ((k, v) ∷ above) h at kids → Linked also above h at (tree k v kids rest)
  linked_kids also above h k v kids rest at not_k in_kids in_rest own beside l = record {
    first = l.first;
    more = l.more ++ (k, v) ∷ [];
    way = subst (IsWay at (Some h)) (sym joined) l.way;
    inside = λ c e. elim (on_way-last c below (k, v) e) [
      | inl a ↦ or_right (same k c) (has_node c kids || has_node c rest) (or_left (has_node c kids) (has_node c rest) (l.inside c a))
      | inr a ↦ or_left (same k c) (has_node c kids || has_node c rest) (ap (λ y. same k y) (same-true c k a) ∙ same_self k)
    ];
    out = λ e. ap (reach m) joined ∙ by_out (climbs m q h kids) (is_boundary m p v) refl refl e;
    stays = λ e. by_stays (climbs m q h kids) (is_boundary m p v) refl refl e;
    marks = three (λ w a b. tree k w a b) value kids_are rest_are;
  }
    where
      p : Above
      p = place_of m above

      q : Above
      q = within m p v

      below : List (Handle × V)
      below = (h, l.first) ∷ l.more

      joined : ((h, l.first) ∷ (l.more ++ (k, v) ∷ [])) ++ above ≡ below ++ (k, v) ∷ above
      joined = append_assoc below ((k, v) ∷ []) above

      long : length {A = Handle × V} ((h, l.first) ∷ (l.more ++ (k, v) ∷ [])) ≡ suc (length below)
      long = let one : length {A = Handle × V} ((k, v) ∷ []) ≡ 1 = refl in omega (arith, length-append below ((k, v) ∷ []), one)

      total : ℕ
      total = reach m (((h, l.first) ∷ (l.more ++ (k, v) ∷ [])) ++ above)

      total_is : total ≡ reach m (below ++ (k, v) ∷ above)
      total_is = ap (reach m) joined

      or-false : (x : Bool) → (x || false) ≡ x
      or-false true = refl
      or-false false = refl

      climbs_is : (a b : Bool) → climbs m q h kids ≡ a → is_boundary m p v ≡ b → climbs m p h (tree k v kids rest) ≡ (a && not b)
      climbs_is a b e g =
          ap (λ x. ((x || climbs m q h kids) && not (is_boundary m p v)) || climbs m p h rest) not_k
          ∙ (ap (λ x. (x && not (is_boundary m p v)) || climbs m p h rest) e
          ∙ (ap (λ x. (a && not x) || climbs m p h rest) g
          ∙ (ap (λ x. (a && not b) || x) (climbs-absent m p h rest in_rest) ∙ or-false (a && not b))))

      by_out : (a b : Bool) → climbs m q h kids ≡ a → is_boundary m p v ≡ b → climbs m p h (tree k v kids rest) ≡ true
          → reach m (below ++ (k, v) ∷ above) ≡ length {A = Handle × V} ((h, l.first) ∷ (l.more ++ (k, v) ∷ [])) + reach m above
      by_out true true e g c = absurd (false≢true (sym (climbs_is true true e g) ∙ c))
      by_out true false e g c =
          let goes : cond (is_boundary m p v) 0 (reach m above) ≡ reach m above = ap (λ x. cond x 0 (reach m above)) g in
          omega (arith, l.out e, goes, long)
      by_out false b e g c = absurd (false≢true (sym (climbs_is false b e g) ∙ c))

      by_stays : (a b : Bool) → climbs m q h kids ≡ a → is_boundary m p v ≡ b → climbs m p h (tree k v kids rest) ≡ false
          → total ≤ length {A = Handle × V} ((h, l.first) ∷ (l.more ++ (k, v) ∷ []))
      by_stays true true e g c =
          let ends : cond (is_boundary m p v) 0 (reach m above) ≡ 0 = ap (λ x. cond x 0 (reach m above)) g in
          omega (arith, l.out e, ends, long, total_is)
      by_stays true false e g c = absurd (true≢false (sym (climbs_is true false e g) ∙ c))
      by_stays false b e g c = omega (arith, l.stays e, long, total_is)

      on_below : (c : Handle) → has_node c kids ≡ false → on_way c below ≡ false
      on_below c away = false_from_ne_true (on_way c below) (λ e. true≢false (sym (l.inside c e) ∙ away))

      -- whether the climb from below comes to the top is told by how far the mark reaches
      left : ℕ
      left = (total - 1) - length l.more

      left_is : (a : Bool) → climbs m q h kids ≡ a → nat_lt 0 left ≡ a
      left_is true e = lt-ltb 0 left (let size : length below ≡ suc (length l.more) = refl in omega (arith, l.out e, total_is, size))
      left_is false e = le-ltb 0 left (let size : length below ≡ suc (length l.more) = refl in omega (arith, l.stays e, total_is, size))

      value : along m also total ((h, l.first) ∷ (l.more ++ (k, v) ∷ [])) above k v
          ≡ m.marked ((same k h || climbs m q h kids) && m.takes p.top v) (has_node h kids || (also && same k h)) v
      value =
          let off = or_parts (same k h) (on_way k l.more) (on_below k own) in
          ap (λ b. along m true (total - 1) (l.more ++ (k, v) ∷ []) above k (cond b (m.marked (nat_lt 0 total && m.takes (place_of m ((l.more ++ (k, v) ∷ []) ++ above)).top v) also v) v)) not_k
          ∙ (along-more m (total - 1) l.more (k, v) above k v off.1
          ∙ (ap (λ b. cond b (m.marked (nat_lt 0 left && m.takes p.top v) true v) v) (same_self k)
          ∙ (ap (λ b. m.marked (b && m.takes p.top v) true v) (left_is (climbs m q h kids) refl)
          ∙ (ap (λ b. m.marked ((b || climbs m q h kids) && m.takes p.top v) true v) (sym not_k)
          ∙ ap (λ b. m.marked ((same k h || climbs m q h kids) && m.takes p.top v) b v) (sym (or_left (has_node h kids) (also && same k h) in_kids))))))

      kids_are : map_values (along m also total ((h, l.first) ∷ (l.more ++ (k, v) ∷ [])) above) kids ≡ mark m also q h kids
      kids_are =
          map-same
          (along m also total ((h, l.first) ∷ (l.more ++ (k, v) ∷ [])) above)
          (along m also (reach m (below ++ (k, v) ∷ above)) below ((k, v) ∷ above))
          kids
          (λ c w inside. ap (λ n. along m also n (below ++ (k, v) ∷ []) above c w) total_is ∙ along-drop m also (reach m (below ++ (k, v) ∷ above)) below (k, v) above c w (apart c k kids inside own))
          ∙ l.marks

      rest_are : map_values (along m also total ((h, l.first) ∷ (l.more ++ (k, v) ∷ [])) above) rest ≡ mark m also p h rest
      rest_are =
          map-off m also total ((h, l.first) ∷ (l.more ++ (k, v) ∷ [])) above rest
          (λ c inside. false_from_ne_true (on_way c (below ++ (k, v) ∷ [])) (λ e. elim (on_way-last c below (k, v) e) [
            | inl a ↦ true≢false (sym a ∙ on_below c (beside c inside).1)
            | inr a ↦ true≢false (sym a ∙ (beside c inside).0)
          ]))
          ∙ sym (mark-absent also p h rest in_rest)

  -- it is below a later top
  linked_rest : (also : Bool) (above : List (Handle × V)) (h k : Handle) (v : V) (kids rest : Forest V) (at : Handle → Option (TreeNode V))
      → same k h ≡ false → has_node h kids ≡ false
      → has_node k rest ≡ false → ((c : Handle) → has_node c kids ≡ true → has_node c rest ≡ false)
      → Linked also above h at rest → Linked also above h at (tree k v kids rest)
  linked_rest also above h k v kids rest at not_k in_kids own beside l = record {
    first = l.first;
    more = l.more;
    way = l.way;
    inside = λ c e. or_right (same k c) (has_node c kids || has_node c rest) (or_right (has_node c kids) (has_node c rest) (l.inside c e));
    out = λ e. l.out (sym climbs_is ∙ e);
    stays = λ e. l.stays (sym climbs_is ∙ e);
    marks = three (λ w a b. tree k w a b) value kids_are l.marks;
  }
    where
      p : Above
      p = place_of m above

      way : List (Handle × V)
      way = (h, l.first) ∷ l.more

      total : ℕ
      total = reach m (way ++ above)

      off : (c : Handle) → has_node c rest ≡ false → on_way c way ≡ false
      off c away = false_from_ne_true (on_way c way) (λ e. true≢false (sym (l.inside c e) ∙ away))

      climbs_is : climbs m p h (tree k v kids rest) ≡ climbs m p h rest
      climbs_is =
          ap (λ x. ((x || climbs m (within m p v) h kids) && not (is_boundary m p v)) || climbs m p h rest) not_k
          ∙ ap (λ x. (x && not (is_boundary m p v)) || climbs m p h rest) (climbs-absent m (within m p v) h kids in_kids)

      value : along m also total way above k v ≡ m.marked ((same k h || climbs m (within m p v) h kids) && m.takes p.top v) (has_node h kids || (also && same k h)) v
      value =
          along-off m also total way above k v (off k own)
          ∙ sym
          (ap (λ b. m.marked ((b || climbs m (within m p v) h kids) && m.takes p.top v) (has_node h kids || (also && b)) v) not_k
          ∙ (ap (λ b. m.marked (b && m.takes p.top v) (has_node h kids || (also && false)) v) (climbs-absent m (within m p v) h kids in_kids)
          ∙ (ap (λ b. m.marked false (b || (also && false)) v) in_kids ∙ (ap (λ b. m.marked false b v) (and-false also) ∙ ok.nothing v))))

      kids_are : map_values (along m also total way above) kids ≡ mark m also (within m p v) h kids
      kids_are = map-off m also total way above kids (λ c inside. off c (beside c inside)) ∙ sym (mark-absent also (within m p v) h kids in_kids)

  pub link : (also : Bool) (above : List (Handle × V)) (q : Option Handle) (h : Handle) (at : Handle → Option (TreeNode V)) (f : Forest V)
      → Stands at q f → IsDistinct f → IsWay at q above → has_node h f ≡ true → Linked also above h at f
  link also above q h at none stands distinct way e = absurd (false≢true e)
  link also above q h at (tree k v kids rest) stands distinct way e =
      let one : cond {A = ℕ} (same k k) 1 0 ≡ 1 = ap (λ b. cond {A = ℕ} b 1 0) (same_self k) in
      let own_kids : has_node k kids ≡ false = absent k kids (omega (arith, distinct k, one)) in
      let own_rest : has_node k rest ≡ false = absent k rest (omega (arith, distinct k, one)) in
      let few_kids : IsDistinct kids = λ c. omega (arith, distinct c) in
      let few_rest : IsDistinct rest = λ c. omega (arith, distinct c) in
      let beside_kids : (c : Handle) → has_node c kids ≡ true → has_node c rest ≡ false = λ c i. absent c rest (omega (arith, distinct c, present c kids i)) in
      let beside_rest : (c : Handle) → has_node c rest ≡ true → (same c k ≡ false) × (has_node c kids ≡ false) = λ c i. (apart c k rest i own_rest, absent c kids (omega (arith, distinct c, present c rest i))) in
      elim (cases_Bool (same k h)) [
        | inl s ↦ subst (λ y. Linked also above y at (tree k v kids rest)) (same-true k h s) (linked_here also above q k v kids rest at stands.0 way own_kids own_rest)
        | inr s ↦ elim (cases_Bool (has_node h kids)) [
          | inl a ↦
              linked_kids also above h k v kids rest at s a (beside_kids h a) own_kids beside_rest
              (link also ((k, v) ∷ above) (Some k) h at kids stands.1 few_kids
              (refl, ap (option_map (λ (n : TreeNode V). n.value)) stands.0, subst (λ o. IsWay at o above) (sym (ap parent_of stands.0)) way) a)
          | inr a ↦
              linked_rest also above h k v kids rest at s a own_rest beside_kids
              (link also above q h at rest stands.2 few_rest way (elim (either (same k h) (has_node h kids || has_node h rest) e) [
                | inl b ↦ absurd (true≢false (sym b ∙ s))
                | inr b ↦ elim (either (has_node h kids) (has_node h rest) b) [ inl c ↦ absurd (true≢false (sym c ∙ a)) | inr c ↦ c ]
              ]))
        ]
      ]
