-- What the marks of a list leave told to the nodes above.
use Rattle.std.proofs.Common.{◌≡◌, Bool, true, false, not, ◌&&◌, ◌||◌, ◌⊎◌, inl, inr, List, [], ◌∷◌, ◌++◌, refl, sym, ◌∙◌, subst, append-nil}
use Rattle.std.proofs.lemmas.Bool.{cases_Bool, and_parts, and_cases, or_parts, or_from, or_left, or_right, true≢false}
use Rattle.fx_handles.specs.declared.Handle.{Handle}
use Rattle.fx_handles.specs.Handle.{same}
use Rattle.node_tree.specs.Forest.{Forest}
use Rattle.node_tree.specs.Forest.Forest.{none, tree}
use Rattle.tree_marks.specs.Marking.{Above, Marking, IsMarking, IsWhole, within, is_boundary}
use Rattle.tree_marks.specs.Marks.{listed, has_listed, some_climbs, mark, sweep}
use Rattle.tree_marks.specs.Closed.{any_flag, any_mark, HasBelow, IsLinkedBut, IsLinked, EndsTops, IsClosed, AreEnds}
use Rattle.tree_marks.proofs.Sweeps.{below-marked, mark_all-sweep}

-- ---- on tests

pub either : (x y : Bool) → (x || y) ≡ true → (x ≡ true) ⊎ (y ≡ true)
either true y e = inl refl
either false y e = inr e

pub not-false : (x : Bool) → not x ≡ false → x ≡ true
not-false true e = refl
not-false false e = sym e

-- what doesn't stand in one list and the other doesn't stand in both
pub listed-append : (h : Handle) (cs ds : List Handle) → listed h cs ≡ false → listed h ds ≡ false → listed h (cs ++ ds) ≡ false
listed-append h [] ds e f = f
listed-append h (c ∷ cs) ds e f =
    let parts = or_parts (same h c) (listed h cs) e in
    or_from (same h c) (listed h (cs ++ ds)) parts.0 (listed-append h cs ds parts.1 f)

module _ {V : Type 0} (m : Marking V) where
  -- a climb starts at a node of the list
  pub climbs-listed : (cs : List Handle) (p : Above) (f : Forest V) → some_climbs m cs p f ≡ true → has_listed cs f ≡ true
  climbs-listed cs p none e = e
  climbs-listed cs p (tree k v kids rest) e =
      let here = (listed k cs || some_climbs m cs (within m p v) kids) in
      elim (either (here && not (is_boundary m p v)) (some_climbs m cs p rest) e) [
        | inl a ↦ by_here (climbs-listed cs (within m p v) kids) (and_parts here (not (is_boundary m p v)) a).0
        | inr a ↦ or_right (listed k cs) (has_listed cs kids || has_listed cs rest) (or_right (has_listed cs kids) (has_listed cs rest) (climbs-listed cs p rest a))
      ]
    where
      by_here : (some_climbs m cs (within m p v) kids ≡ true → has_listed cs kids ≡ true) → (listed k cs || some_climbs m cs (within m p v) kids) ≡ true → (listed k cs || (has_listed cs kids || has_listed cs rest)) ≡ true
      by_here below b = elim (either (listed k cs) (some_climbs m cs (within m p v) kids) b) [
        | inl c ↦ or_left (listed k cs) (has_listed cs kids || has_listed cs rest) c
        | inr c ↦ or_right (listed k cs) (has_listed cs kids || has_listed cs rest) (or_left (has_listed cs kids) (has_listed cs rest) (below c))
      ]

  -- ---- "something below" on all ancestors, from parent to parent

  flagged_top : (f : Forest V) → IsLinked m f → any_flag m f ≡ true → any_mark m f ≡ true
  flagged_top none linked e = e
  flagged_top (tree k v kids rest) linked e =
      elim (either (m.flag v) (any_flag m kids || any_flag m rest) e) [
        | inl a ↦ or_left (m.flag v || m.below v) (any_mark m rest) (or_left (m.flag v) (m.below v) a)
        | inr a ↦ elim (either (any_flag m kids) (any_flag m rest) a) [
          | inl b ↦ or_left (m.flag v || m.below v) (any_mark m rest) (or_right (m.flag v) (m.below v) (linked.0 refl (flagged_top kids linked.1 b)))
          | inr b ↦ or_right (m.flag v || m.below v) (any_mark m rest) (flagged_top rest linked.2 b)
        ]
      ]

  pub HasBelow-from : (f : Forest V) → IsLinked m f → HasBelow m f
  HasBelow-from none linked = tt
  HasBelow-from (tree k v kids rest) linked =
      (λ e. linked.0 refl (flagged_top kids linked.1 e), HasBelow-from kids linked.1, HasBelow-from rest linked.2)

module _ {V : Type 0} (m : Marking V) (ok : IsMarking m) where
  -- ---- links

  any_mark-sweep : (also : Bool) (cs : List Handle) (p : Above) (f : Forest V) → any_mark m (sweep m also cs p f) ≡ true → (any_mark m f ≡ true) ⊎ (has_listed cs f ≡ true)
  any_mark-sweep also cs p none e = inl e
  any_mark-sweep also cs p (tree k v kids rest) e =
      let q : Above = within m p v in
      let start : Bool = listed k cs || some_climbs m cs q kids in
      let flag : Bool = start && m.takes p.top v in
      let below : Bool = has_listed cs kids || (also && listed k cs) in
      let w : V = m.marked flag below v in
      elim (either (m.flag w || m.below w) (any_mark m (sweep m also cs p rest)) e) [
        | inl a ↦ elim (either (m.flag w) (m.below w) a) [
          | inl b ↦ elim (either (m.flag v) flag (sym (ok.flag flag below v) ∙ b)) [
            | inl c ↦ inl (or_left (m.flag v || m.below v) (any_mark m rest) (or_left (m.flag v) (m.below v) c))
            | inr c ↦ inr (started (and_parts start (m.takes p.top v) c).0)
          ]
          | inr b ↦ elim (either (m.below v) below (sym (ok.below flag below v) ∙ b)) [
            | inl c ↦ inl (or_left (m.flag v || m.below v) (any_mark m rest) (or_right (m.flag v) (m.below v) c))
            | inr c ↦ inr (beneath c)
          ]
        ]
        | inr a ↦ elim (any_mark-sweep also cs p rest a) [
          | inl b ↦ inl (or_right (m.flag v || m.below v) (any_mark m rest) b)
          | inr b ↦ inr (or_right (listed k cs) (has_listed cs kids || has_listed cs rest) (or_right (has_listed cs kids) (has_listed cs rest) b))
        ]
      ]
    where
      inside : has_listed cs kids ≡ true → (listed k cs || (has_listed cs kids || has_listed cs rest)) ≡ true
      inside d = or_right (listed k cs) (has_listed cs kids || has_listed cs rest) (or_left (has_listed cs kids) (has_listed cs rest) d)

      here : listed k cs ≡ true → (listed k cs || (has_listed cs kids || has_listed cs rest)) ≡ true
      here d = or_left (listed k cs) (has_listed cs kids || has_listed cs rest) d

      started : (listed k cs || some_climbs m cs (within m p v) kids) ≡ true → (listed k cs || (has_listed cs kids || has_listed cs rest)) ≡ true
      started c = elim (either (listed k cs) (some_climbs m cs (within m p v) kids) c) [ inl d ↦ here d | inr d ↦ inside (climbs-listed m cs (within m p v) kids d) ]

      beneath : (has_listed cs kids || (also && listed k cs)) ≡ true → (listed k cs || (has_listed cs kids || has_listed cs rest)) ≡ true
      beneath c = elim (either (has_listed cs kids) (also && listed k cs) c) [ inl d ↦ inside d | inr d ↦ here (and_parts also (listed k cs) d).1 ]

  pub IsLinkedBut-sweep : (cs todo : List Handle) (p : Above) (f : Forest V) → IsLinkedBut m (cs ++ todo) f → IsLinkedBut m todo (sweep m true cs p f)
  IsLinkedBut-sweep cs todo p none linked = tt
  IsLinkedBut-sweep cs todo p (tree k v kids rest) linked = (
    λ l e.
        let q : Above = within m p v in
        let flag : Bool = (listed k cs || some_climbs m cs q kids) && m.takes p.top v in
        ok.below flag (has_listed cs kids || listed k cs) v ∙ by_kids l (any_mark-sweep true cs q kids e),
    IsLinkedBut-sweep cs todo (within m p v) kids linked.1,
    IsLinkedBut-sweep cs todo p rest linked.2,
  )
    where
      by_kids : listed k todo ≡ false → (any_mark m kids ≡ true) ⊎ (has_listed cs kids ≡ true) → (m.below v || (has_listed cs kids || listed k cs)) ≡ true
      by_kids l (inr e) = or_right (m.below v) (has_listed cs kids || listed k cs) (or_left (has_listed cs kids) (listed k cs) e)
      by_kids l (inl e) = elim (cases_Bool (listed k cs)) [
        | inl a ↦ or_right (m.below v) (has_listed cs kids || listed k cs) (or_right (has_listed cs kids) (listed k cs) a)
        | inr a ↦ or_left (m.below v) (has_listed cs kids || listed k cs) (linked.0 (listed-append k cs todo a l) e)
      ]

  -- ---- a node without a flag isn't on the list, and no climb from below comes to it

  pub unflagged-sweep : IsWhole m → (also : Bool) (cs : List Handle) (p : Above) (k : Handle) (v : V) (kids : Forest V)
      → m.flag (m.marked ((listed k cs || some_climbs m cs (within m p v) kids) && m.takes p.top v) (has_listed cs kids || (also && listed k cs)) v) ≡ false
      → (m.flag v ≡ false) × (listed k cs ≡ false) × (some_climbs m cs (within m p v) kids ≡ false)
  unflagged-sweep whole also cs p k v kids e =
      let start : Bool = listed k cs || some_climbs m cs (within m p v) kids in
      let parts = or_parts (m.flag v) (start && m.takes p.top v) (sym (ok.flag (start && m.takes p.top v) (has_listed cs kids || (also && listed k cs)) v) ∙ e) in
      elim (and_cases start (m.takes p.top v) parts.1) [
        | inl a ↦ let two = or_parts (listed k cs) (some_climbs m cs (within m p v) kids) a in (parts.0, two.0, two.1)
        | inr a ↦ absurd (true≢false (sym (whole p.top v) ∙ a))
      ]

  -- ---- closed forests

  module _ (ends : Above → V → Bool) (are : AreEnds m ends) where
    EndsTops-sweep : (also : Bool) (cs todo : List Handle) (p : Above) (f : Forest V) → some_climbs m cs p f ≡ false → EndsTops m ends (cs ++ todo) p f → EndsTops m ends todo p (sweep m also cs p f)
    EndsTops-sweep also cs todo p none e closed = tt
    EndsTops-sweep also cs todo p (tree k v kids rest) e closed = (
      λ fl l. are.steady p ((listed k cs || some_climbs m cs (within m p v) kids) && m.takes p.top v) (has_listed cs kids || (also && listed k cs)) v ∙ ends_here fl l,
      EndsTops-sweep also cs todo p rest (or_parts ((listed k cs || some_climbs m cs (within m p v) kids) && not (is_boundary m p v)) (some_climbs m cs p rest) e).1 closed.1,
    )
      where
        start : Bool
        start = listed k cs || some_climbs m cs (within m p v) kids

        unfolded : (start ≡ false) ⊎ (not (is_boundary m p v) ≡ false)
        unfolded = and_cases start (not (is_boundary m p v)) (or_parts (start && not (is_boundary m p v)) (some_climbs m cs p rest) e).0

        ends_here : m.flag (m.marked (start && m.takes p.top v) (has_listed cs kids || (also && listed k cs)) v) ≡ true → listed k todo ≡ false → ends p v ≡ true
        ends_here fl l = elim unfolded [
          | inr b ↦ are.boundary p v (not-false (is_boundary m p v) b)
          | inl b ↦ elim (either (m.flag v) (start && m.takes p.top v) (sym (ok.flag (start && m.takes p.top v) (has_listed cs kids || (also && listed k cs)) v) ∙ fl)) [
            | inl c ↦ closed.0 c (listed-append k cs todo (or_parts (listed k cs) (some_climbs m cs (within m p v) kids) b).0 l)
            | inr c ↦ absurd (true≢false (sym (and_parts start (m.takes p.top v) c).0 ∙ b))
          ]
        ]

    pub IsClosed-sweep : IsWhole m → (also : Bool) (cs todo : List Handle) (p : Above) (f : Forest V) → IsClosed m ends (cs ++ todo) p f → IsClosed m ends todo p (sweep m also cs p f)
    IsClosed-sweep whole also cs todo p none closed = tt
    IsClosed-sweep whole also cs todo p (tree k v kids rest) closed = (
      λ fl l.
          let parts = unflagged-sweep whole also cs p k v kids fl in
          below-marked m ok (λ q. EndsTops m ends todo q (sweep m also cs (within m p v) kids)) p (start && m.takes p.top v) beneath v
          (EndsTops-sweep also cs todo (within m p v) kids parts.2 (closed.0 parts.0 (listed-append k cs todo parts.1 l))),
      below-marked m ok (λ q. IsClosed m ends todo q (sweep m also cs (within m p v) kids)) p (start && m.takes p.top v) beneath v
          (IsClosed-sweep whole also cs todo (within m p v) kids closed.1),
      IsClosed-sweep whole also cs todo p rest closed.2,
    )
      where
        start : Bool
        start = listed k cs || some_climbs m cs (within m p v) kids

        beneath : Bool
        beneath = has_listed cs kids || (also && listed k cs)

    -- the same of one node after another
    pub IsClosed-mark : IsWhole m → (also : Bool) (h : Handle) (todo : List Handle) (p : Above) (f : Forest V) → IsClosed m ends (h ∷ todo) p f → IsClosed m ends todo p (mark m also p h f)
    IsClosed-mark whole also h todo p f closed =
        subst (IsClosed m ends todo p) (sym (mark_all-sweep m ok also (h ∷ []) p f)) (IsClosed-sweep whole also (h ∷ []) todo p f closed)

    pub IsClosed-swept : IsWhole m → (also : Bool) (cs : List Handle) (p : Above) (f : Forest V) → IsClosed m ends cs p f → IsClosed m ends [] p (sweep m also cs p f)
    IsClosed-swept whole also cs p f closed = IsClosed-sweep whole also cs [] p f (subst (λ y. IsClosed m ends y p f) (sym (append-nil cs)) closed)

  pub IsLinkedBut-mark : (h : Handle) (todo : List Handle) (p : Above) (f : Forest V) → IsLinkedBut m (h ∷ todo) f → IsLinkedBut m todo (mark m true p h f)
  IsLinkedBut-mark h todo p f linked =
      subst (IsLinkedBut m todo) (sym (mark_all-sweep m ok true (h ∷ []) p f)) (IsLinkedBut-sweep (h ∷ []) todo p f linked)

  pub IsLinked-sweep : (cs : List Handle) (p : Above) (f : Forest V) → IsLinkedBut m cs f → IsLinked m (sweep m true cs p f)
  IsLinked-sweep cs p f linked = IsLinkedBut-sweep cs [] p f (subst (λ y. IsLinkedBut m y f) (sym (append-nil cs)) linked)
