-- Viewports that are put back, with their marks.
use Rattle.std.proofs.Common.{◌≡◌, ◌⊎◌, ℕ, Bool, true, false, not, ◌||◌, ◌&&◌, cond, Option, Some, None, option_map, List, [], ◌∷◌, ◌++◌, refl, ap, sym, subst, ◌∙◌, inl, inr, arith}
use Rattle.std.proofs.lemmas.Bool.{cases_Bool, true≢false, false≢true}
use Rattle.fx_handles.specs.declared.Handle.{Handle}
use Rattle.fx_handles.specs.Handle.{same, Among}
use Rattle.fx_handles.specs.HandleLaws.{cases_same, same-eq, same-ne}
use Rattle.node_tree.specs.Forest.{TreeNode, Forest, Stands, set_value}
use Rattle.node_tree.specs.Forest.Forest.{none, tree}
use Rattle.node_tree.specs.Tree.{Tree, Is, node_at}
use Rattle.node_tree.proofs.ForestLemmas.{same_Some}
use Rattle.tree_marks.specs.Marking.{Above, at_top, within, is_boundary, IsMarking}
use Rattle.tree_marks.specs.Marks.{listed, mark, mark_all, sweep, some_climbs, has_listed}
use Rattle.tree_marks.proofs.Sweeps.{sweep-nil, mark_all-sweep}
use Rattle.render_tree.specs.Edits.{Writes, with_scroll}
use Rattle.render_tree.specs.Marked.{SetsMarks}
use Rattle.render_tree.specs.Marks.{layout_marks}
use Rattle.render_tree.specs.Object.{RenderObject, is_viewport}
use Rattle.render_tree.specs.Tree.{object_at}
use Rattle.kept_phases.specs.Lists.{Pending, scrolled_as, PutsBack}
use Rattle.kept_phases.proofs.Offsets.{left_at}

-- ---- marks of several lists of nodes

listed_both : (k : Handle) (hs xs : List Handle) → listed k (hs ++ xs) ≡ (listed k hs || listed k xs)
listed_both k [] xs = refl
listed_both k (h ∷ hs) xs = ap (λ (b : Bool). same k h || b) (listed_both k hs xs) ∙ sym (or_again (same k h) (listed k hs) (listed k xs))
  where
    or_again : (a b c : Bool) → ((a || b) || c) ≡ (a || (b || c))
    or_again true b c = refl
    or_again false b c = refl

mark_both : (hs xs : List Handle) (p : Above) (f : Forest RenderObject) → mark_all layout_marks true p (hs ++ xs) f ≡ mark_all layout_marks true p xs (mark_all layout_marks true p hs f)
mark_both [] xs p f = refl
mark_both (h ∷ hs) xs p f = mark_both hs xs p (mark layout_marks true p h f)

sweep_both : IsMarking layout_marks → (hs xs : List Handle) (p : Above) (f : Forest RenderObject) → sweep layout_marks true xs p (sweep layout_marks true hs p f) ≡ sweep layout_marks true (hs ++ xs) p f
sweep_both ok hs xs p f =
    sym (mark_all-sweep layout_marks ok true xs p (sweep layout_marks true hs p f))
    ∙ (ap (λ (g : Forest RenderObject). mark_all layout_marks true p xs g) (sym (mark_all-sweep layout_marks ok true hs p f))
    ∙ (sym (mark_both hs xs p f) ∙ mark_all-sweep layout_marks ok true (hs ++ xs) p f))

-- ---- how a node is scrolled has no part in marks

climbs_scrolled : (σ : Handle → ℕ) (hs : List Handle) (p : Above) (f : Forest RenderObject) → some_climbs layout_marks hs p (scrolled_as σ f) ≡ some_climbs layout_marks hs p f
climbs_scrolled σ hs p none = refl
climbs_scrolled σ hs p (tree k v kids rest) =
    ap (λ (b : Bool). ((listed k hs || b) && not (is_boundary layout_marks p v)) || some_climbs layout_marks hs p (scrolled_as σ rest)) (climbs_scrolled σ hs (within layout_marks p v) kids)
    ∙ ap (λ (b : Bool). ((listed k hs || some_climbs layout_marks hs (within layout_marks p v) kids) && not (is_boundary layout_marks p v)) || b) (climbs_scrolled σ hs p rest)

has_scrolled : (σ : Handle → ℕ) (hs : List Handle) (f : Forest RenderObject) → has_listed hs (scrolled_as σ f) ≡ has_listed hs f
has_scrolled σ hs none = refl
has_scrolled σ hs (tree k v kids rest) =
    ap (λ (b : Bool). listed k hs || (b || has_listed hs (scrolled_as σ rest))) (has_scrolled σ hs kids)
    ∙ ap (λ (b : Bool). listed k hs || (has_listed hs kids || b)) (has_scrolled σ hs rest)

-- a node with these marks, scrolled so
abbrev with_marks : (Handle → ℕ) → List Handle → Handle → RenderObject → Bool → Bool → Forest RenderObject → Forest RenderObject → Forest RenderObject
with_marks σ hs k v a b x y = tree k (record (layout_marks.marked ((listed k hs || a) && true) (b || (true && listed k hs)) v) { scroll = σ k }) x y

sweep_scrolled : (σ : Handle → ℕ) (hs : List Handle) (p : Above) (f : Forest RenderObject) → scrolled_as σ (sweep layout_marks true hs p f) ≡ sweep layout_marks true hs p (scrolled_as σ f)
sweep_scrolled σ hs p none = refl
sweep_scrolled σ hs p (tree k v kids rest) = λ i.
    with_marks σ hs k v (sym (climbs_scrolled σ hs (within layout_marks p v) kids) i) (sym (has_scrolled σ hs kids) i) (sweep_scrolled σ hs (within layout_marks p v) kids i)
    (sweep_scrolled σ hs p rest i)

-- ---- nothing is put back, or one after another

pub puts_nothing : IsMarking layout_marks → (wanted : Handle → ℕ) (t : Tree RenderObject) → PutsBack wanted t t
puts_nothing ok wanted t = record {
  corrected = [];
  otherwise = λ k o e at same. absurd (false≢true e);
  kept = λ k o at. (o, at, inl refl);
  plain = λ f is. (f, is, ap (λ (g : Forest RenderObject). scrolled_as wanted g) (sym (sweep-nil layout_marks ok true at_top f)));
}

pub puts_then : IsMarking layout_marks → (wanted : Handle → ℕ) (a b c : Tree RenderObject) → PutsBack wanted a b → PutsBack wanted b c → PutsBack wanted a c
puts_then ok wanted a b c one two = record {
  corrected = one.corrected ++ two.corrected;
  otherwise = λ k o e at same. elim (cases_Bool (listed k one.corrected)) [
    | inl first ↦ one.otherwise k o first at same
    | inr off ↦
        let w = one.kept k o at in
        let now : w.0.scroll ≡ wanted k = elim w.2 [ inl s ↦ s ∙ same | inr s ↦ s ] in
        two.otherwise k w.0 (sym (listed_both k one.corrected two.corrected ∙ ap (λ (x : Bool). x || listed k two.corrected) off) ∙ e) w.1 now
  ];
  kept = λ k o at.
      let w = one.kept k o at in
      let u = two.kept k w.0 w.1 in (
        u.0,
        u.1,
        elim u.2 [
          | inl same ↦ elim w.2 [ inl s ↦ inl (same ∙ s) | inr s ↦ inr (same ∙ s) ]
          | inr s ↦ inr s
        ],
      );
  plain = λ f is.
      let g = one.plain f is in
      let h = two.plain g.0 g.1 in (
        h.0,
        h.1,
        h.2 ∙ (sweep_scrolled wanted two.corrected at_top g.0
            ∙ (ap (λ (x : Forest RenderObject). sweep layout_marks true two.corrected at_top x) g.2
            ∙ (sym (sweep_scrolled wanted two.corrected at_top (sweep layout_marks true one.corrected at_top f))
            ∙ ap (λ (x : Forest RenderObject). scrolled_as wanted x) (sweep_both ok one.corrected two.corrected at_top f)))),
      );
}

-- ---- one is put back

module _ (old mid new : Tree RenderObject) (h : Handle) (v : RenderObject) (scroll : ℕ) (at_h : object_at old h ≡ Some v) (writes : Writes old mid h (with_scroll scroll v))
    (sets : SetsMarks layout_marks true (h ∷ []) mid new) (wanted : Handle → ℕ) (is : wanted h ≡ scroll) where
  set_here : (k : Handle) (w : RenderObject) → object_at old k ≡ Some w
      → record (cond {A = RenderObject} (same k h) (with_scroll scroll v) w) { scroll = wanted k } ≡ record w { scroll = wanted k }
  set_here k w at = elim (cases_same k h) [
    | inl one ↦
        let value : v ≡ w = same_Some (sym at_h ∙ (ap (object_at old) (sym one) ∙ at)) in
        ap (λ (b : Bool). record (cond {A = RenderObject} b (with_scroll scroll v) w) { scroll = wanted k }) (same-eq k h one) ∙ ap (λ (x : RenderObject). record x { scroll = wanted k }) value
    | inr ne ↦ ap (λ (b : Bool). record (cond {A = RenderObject} b (with_scroll scroll v) w) { scroll = wanted k }) (same-ne k h ne)
  ]

  set_scrolled : (p : Option Handle) (f : Forest RenderObject) → Stands (node_at old) p f → scrolled_as wanted (set_value h (with_scroll scroll v) f) ≡ scrolled_as wanted f
  set_scrolled p none stands = refl
  set_scrolled p (tree k w kids rest) stands = λ i.
      tree k (set_here k w (ap (option_map (λ (n : TreeNode RenderObject). n.value)) stands.0) i) (set_scrolled (Some k) kids stands.1 i) (set_scrolled p rest stands.2 i)

  pub puts_one : (v.scroll ≡ scroll → ⊥) → PutsBack wanted old new
  puts_one moved = record {
    corrected = h ∷ [];
    otherwise = λ k o e at same_scroll. elim (cases_same h k) [
      | inl one ↦
          let value : v ≡ o = same_Some (sym at_h ∙ (ap (object_at old) one ∙ at)) in
          moved (ap (λ (x : RenderObject). x.scroll) value ∙ (same_scroll ∙ (ap wanted (sym one) ∙ is)))
      | inr ne ↦ absurd (true≢false (sym e ∙ ap (λ (b : Bool). b || false) (same-ne k h (λ (x : k ≡ h). ne (sym x)))))
    ];
    kept = λ k o at. by_node k o at (node_at old k) refl;
    plain = λ f is_f. (
      sweep layout_marks true (h ∷ []) at_top (set_value h (with_scroll scroll v) f),
      sets.plain (set_value h (with_scroll scroll v) f) (writes.plain f is_f),
      sweep_scrolled wanted (h ∷ []) at_top (set_value h (with_scroll scroll v) f)
          ∙ (ap (λ (x : Forest RenderObject). sweep layout_marks true (h ∷ []) at_top x) (set_scrolled None f is_f.stands) ∙ sym (sweep_scrolled wanted (h ∷ []) at_top f)),
    );
  }
    where
      by_node : (k : Handle) (o : RenderObject) → object_at old k ≡ Some o → (x : Option (TreeNode RenderObject)) → node_at old k ≡ x
          → (w : RenderObject) × (object_at new k ≡ Some w) × ((w.scroll ≡ o.scroll) ⊎ (w.scroll ≡ wanted k))
      by_node k o at None e = absurd (none_some (sym (ap (option_map (λ (n : TreeNode RenderObject). n.value)) e) ∙ at))
        where
          none_some : None ≡ Some o → ⊥
          none_some e = cc
      by_node k o at (Some n) e =
          let l = left_at old mid new h v scroll at_h writes sets k n e in
          let value : n.value ≡ o = same_Some (sym (ap (option_map (λ (x : TreeNode RenderObject). x.value)) e) ∙ at) in (
            layout_marks.marked l.flag l.mark (record n.value { scroll = l.scrolls }),
            ap (option_map (λ (x : TreeNode RenderObject). x.value)) l.is,
            elim l.here [
              | inl here ↦ inr (here.1 ∙ (sym is ∙ ap wanted here.0))
              | inr other ↦ inl (other.1 ∙ ap (λ (x : RenderObject). x.scroll) value)
            ],
          )

-- ---- when all are

wanted_self : (wanted : Handle → ℕ) (t : Tree RenderObject) (p : Option Handle) (f : Forest RenderObject) → Stands (node_at t) p f → Pending wanted [] t → scrolled_as wanted f ≡ f
wanted_self wanted t p none stands done = refl
wanted_self wanted t p (tree k o kids rest) stands done = λ i.
    tree k (own (done k o (ap (option_map (λ (n : TreeNode RenderObject). n.value)) stands.0)) i) (wanted_self wanted t (Some k) kids stands.1 done i) (wanted_self wanted t p rest stands.2 done i)
  where
    own : (o.scroll ≡ wanted k) ⊎ (is_viewport o ≡ true) × Among k [] → record o { scroll = wanted k } ≡ o
    own (inl e) = ap (λ (n : ℕ). record o { scroll = n }) (sym e)
    own (inr more) = absurd (let m = more.1 in omega (arith, m))

pub puts_all : (wanted : Handle → ℕ) (old new : Tree RenderObject) (puts : PutsBack wanted old new) → Pending wanted [] new → (f : Forest RenderObject) → Is old f
    → Is new (scrolled_as wanted (sweep layout_marks true puts.corrected at_top f))
puts_all wanted old new puts done f is =
    let g = puts.plain f is in
    subst (λ (x : Forest RenderObject). Is new x) (sym (wanted_self wanted new None g.0 g.1.stands done) ∙ g.2) g.1
