-- Viewports that are put back to where they were scrolled.
use Rattle.std.specs.Prelude.{option_and_then}
use Rattle.std.proofs.Common.{◌≡◌, ◌⊎◌, ◌+◌, ◌<◌, ◌≤◌, ℕ, zero, suc, Bool, true, false, cond, Option, Some, None, option_map, List, [], ◌∷◌, ◌++◌, length, get_or, drop, map, refl, ap, sym, subst, ◌∙◌, inl, inr, arith}
use Rattle.std.proofs.lemmas.Bool.{cases_Bool}
use Rattle.std.proofs.lemmas.List.{append_assoc, append-nil, drop_more}
use Rattle.fx_handles.specs.declared.Handle.{Handle}
use Rattle.fx_handles.specs.Handle.{same, Among}
use Rattle.fx_handles.specs.HandleLaws.{cases_same, same-eq, same-ne, times_there}
use Rattle.node_tree.specs.Children.{Nth}
use Rattle.node_tree.specs.Forest.{TreeNode, Forest, Stands, below, skip}
use Rattle.node_tree.specs.Forest.Forest.{none, tree}
use Rattle.node_tree.specs.Tree.{Tree, Holds, node_at, parent_at, children_at, subtree_at}
use Rattle.node_tree.proofs.EditLemmas.{keeps_self, keeps_then}
use Rattle.node_tree.proofs.ForestLemmas.{same_Some}
use Rattle.render_tree.specs.Edits.{Writes, with_scroll}
use Rattle.render_tree.specs.Marked.{SetsMarks}
use Rattle.render_tree.specs.Marks.{layout_marks}
use Rattle.render_tree.specs.Object.{RenderObject, is_viewport}
use Rattle.render_tree.specs.Readings.{scroll_of}
use Rattle.render_tree.specs.Tree.{object_at}
use Rattle.layout_owner.proofs.Rooting.{one_tree}
use Rattle.kept_phases.specs.Lists.{viewports, unscrolled, ButOffsets, Pending, AreWanted}

-- ---- they are found one after another

viewports_split : (h : Handle) (o : RenderObject) (kids rest : Forest RenderObject) → viewports (tree h o kids rest) ≡ viewports (tree h o kids none) ++ viewports rest
viewports_split h o kids rest =
    let own : List (Handle × ℕ) = cond (is_viewport o) ((h, o.scroll) ∷ []) [] in
    sym (append_assoc own (viewports kids ++ []) (viewports rest) ∙ ap (λ xs. own ++ (xs ++ viewports rest)) (append-nil (viewports kids)))

pub more_viewports : (t : Tree RenderObject) (f : Forest RenderObject) (i : ℕ) (c : Handle) → Nth t f i c → (acc new whole : List (Handle × ℕ))
    → new ≡ acc ++ viewports (subtree_at t c) → acc ++ viewports (skip i f) ≡ whole → new ++ viewports (skip (i + 1) f) ≡ whole
more_viewports t f i c n acc new whole step so_far =
    ap (λ xs. xs ++ viewports (skip (i + 1) f)) (step ∙ ap (λ s. acc ++ viewports s) n.subtree)
    ∙ append_assoc acc (viewports (tree c n.value n.kids none)) (viewports (skip (i + 1) f))
    ∙ ap (λ xs. acc ++ xs) (sym (viewports_split c n.value n.kids (skip (i + 1) f)) ∙ sym (ap viewports n.skips))
    ∙ so_far

-- at a node
abbrev pub own_viewport : Option ℕ → Handle → List (Handle × ℕ)
own_viewport None h = []
own_viewport (Some scroll) h = (h, scroll) ∷ []

pub viewports_here : (t : Tree RenderObject) (h : Handle) (o : RenderObject) → subtree_at t h ≡ tree h o (below (subtree_at t h)) none → (s : Option ℕ) → scroll_of o ≡ s
    → viewports (subtree_at t h) ≡ own_viewport s h ++ viewports (below (subtree_at t h))
viewports_here t h o opened s is =
    ap viewports opened ∙ ap (λ xs. cond (is_viewport o) ((h, o.scroll) ∷ []) [] ++ xs) (append-nil (viewports (below (subtree_at t h))))
    ∙ ap (λ xs. xs ++ viewports (below (subtree_at t h))) (by_test (is_viewport o) ∙ ap (λ x. own_viewport x h) is)
  where
    by_test : (b : Bool) → cond {A = List (Handle × ℕ)} b ((h, o.scroll) ∷ []) [] ≡ own_viewport (cond b (Some o.scroll) None) h
    by_test true = refl
    by_test false = refl

-- ---- nothing is changed

pub but_nothing : (t : Tree RenderObject) → ButOffsets t t
but_nothing t = record { nodes = λ k. refl; root = refl; inactive = refl; handles = keeps_self t.nodes }

pub but_then : (a b c : Tree RenderObject) → ButOffsets a b → ButOffsets b c → ButOffsets a c
but_then a b c first second = record {
  nodes = λ k. second.nodes k ∙ first.nodes k;
  root = second.root ∙ first.root;
  inactive = second.inactive ∙ first.inactive;
  handles = keeps_then a.nodes b.nodes c.nodes first.handles second.handles;
}

-- a node that isn't pending any more: it isn't a Viewport, or is scrolled as wanted
pub pending_out : (wanted : Handle → ℕ) (h : Handle) (hs : List Handle) (t : Tree RenderObject) → ((o : RenderObject) → object_at t h ≡ Some o → is_viewport o ≡ true → o.scroll ≡ wanted h)
    → Pending wanted (h ∷ hs) t → Pending wanted hs t
pending_out wanted h hs t done p k o at = elim (p k o at) [
  | inl is ↦ inl is
  | inr more ↦ elim (cases_same h k) [
    | inl e ↦ inl (done o (ap (object_at t) e ∙ at) more.0 ∙ ap wanted e)
    | inr ne ↦ inr (more.0, (let e = times_there k h hs ne in let m = more.1 in omega (arith, e, m)))
  ]
]

-- the scroll of a node that is none, or this
pub no_viewport : (x : Option RenderObject) (o : RenderObject) → x ≡ Some o → option_and_then scroll_of x ≡ None → is_viewport o ≡ true → ⊥
no_viewport x o is nothing view = by_view (sym (ap (option_and_then scroll_of) is) ∙ nothing) view
  where
    by_view : scroll_of o ≡ None → is_viewport o ≡ true → ⊥
    by_view e v = some_none (sym (ap (λ (b : Bool). cond {A = Option ℕ} b (Some o.scroll) None) v) ∙ e)
      where
        some_none : Some o.scroll ≡ None → ⊥
        some_none e = cc

pub scrolled_so : (x : Option RenderObject) (o : RenderObject) (scroll : ℕ) → x ≡ Some o → option_and_then scroll_of x ≡ Some scroll → is_viewport o ≡ true → o.scroll ≡ scroll
scrolled_so x o scroll is there view =
    same_number (sym (ap (λ (b : Bool). cond {A = Option ℕ} b (Some o.scroll) None) view) ∙ sym (ap (option_and_then scroll_of) is) ∙ there)
  where
    same_number : Some o.scroll ≡ Some scroll → o.scroll ≡ scroll
    same_number e = cc

pub found_viewport : (x : Option RenderObject) (scroll : ℕ) → option_and_then scroll_of x ≡ Some scroll → (o : RenderObject) × (x ≡ Some o) × (is_viewport o ≡ true)
found_viewport None scroll e = absurd cc
found_viewport (Some o) scroll e = elim (cases_Bool (is_viewport o)) [
  | inl view ↦ (o, refl, view)
  | inr off ↦ absurd (none_some (sym (ap (λ (b : Bool). cond {A = Option ℕ} b (Some o.scroll) None) off) ∙ e))
]
  where
    none_some : None ≡ Some scroll → ⊥
    none_some e = cc

-- ---- one is put back

module _ (old mid new : Tree RenderObject) (h : Handle) (v : RenderObject) (scroll : ℕ) (at_h : object_at old h ≡ Some v) (writes : Writes old mid h (with_scroll scroll v))
    (sets : SetsMarks layout_marks true (h ∷ []) mid new) where
  -- what is stored now, of what was: the node at h is scrolled so, and marks may be set
  pub record Left (k : Handle) (n : TreeNode RenderObject) : Type 0 where
    pub flag : Bool
    pub mark : Bool
    pub scrolls : ℕ
    pub is : node_at new k ≡ Some (record n { value = layout_marks.marked flag mark (record n.value { scroll = scrolls }) })
    pub here : (h ≡ k) × (scrolls ≡ scroll) ⊎ ((h ≡ k → ⊥) × (scrolls ≡ n.value.scroll))

  pub left_at : (k : Handle) (n : TreeNode RenderObject) → node_at old k ≡ Some n → Left k n
  left_at k n at = elim (cases_same k h) [
    | inl e ↦
        let value : n.value ≡ v = same_Some (sym (ap (option_map (λ (x : TreeNode RenderObject). x.value)) at) ∙ (ap (object_at old) e ∙ at_h)) in
        let written : node_at mid k ≡ Some (record n { value = record n.value { scroll = scroll } }) =
        writes.writes.nodes k ∙ (ap (option_map (λ (x : TreeNode RenderObject). cond (same k h) (record x { value = with_scroll scroll v }) x)) at
        ∙ (ap (λ (b : Bool). Some (cond b (record n { value = with_scroll scroll v }) n)) (same-eq k h e) ∙ ap (λ (x : RenderObject). Some (record n { value = with_scroll scroll x })) (sym value))) in
        let m = sets.only k _ written in
        record { flag = m.0; mark = m.1; scrolls = scroll; is = m.2; here = inl (sym e, refl) }
    | inr ne ↦
        let written : node_at mid k ≡ Some n =
        writes.writes.nodes k ∙ (ap (option_map (λ (x : TreeNode RenderObject). cond (same k h) (record x { value = with_scroll scroll v }) x)) at
        ∙ ap (λ (b : Bool). Some (cond b (record n { value = with_scroll scroll v }) n)) (same-ne k h ne)) in
        let m = sets.only k n written in
        record { flag = m.0; mark = m.1; scrolls = n.value.scroll; is = m.2; here = inr ((λ e. ne (sym e)), refl) }
  ]

  gone_at : (k : Handle) → node_at old k ≡ None → node_at new k ≡ None
  gone_at k at = sets.absent k (writes.writes.nodes k ∙ ap (option_map (λ (x : TreeNode RenderObject). cond (same k h) (record x { value = with_scroll scroll v }) x)) at)

  pub put_others : ButOffsets old new
  put_others = record {
    nodes = λ k. by_node k (node_at old k) refl;
    root = sets.root ∙ writes.root;
    inactive = sets.inactive ∙ writes.inactive;
    handles = keeps_then old.nodes mid.nodes new.nodes writes.writes.handles sets.handles;
  }
    where
      by_node : (k : Handle) (o : Option (TreeNode RenderObject)) → node_at old k ≡ o → option_map unscrolled (node_at new k) ≡ option_map unscrolled o
      by_node k None e = ap (option_map unscrolled) (gone_at k e)
      by_node k (Some n) e = ap (option_map unscrolled) (left_at k n e).is

  pub put_pending : (wanted : Handle → ℕ) (hs : List Handle) → wanted h ≡ scroll → Pending wanted (h ∷ hs) old → Pending wanted hs new
  put_pending wanted hs is p k o at = by_node (node_at old k) refl
    where
      by_node : (x : Option (TreeNode RenderObject)) → node_at old k ≡ x → (o.scroll ≡ wanted k) ⊎ (is_viewport o ≡ true) × Among k hs
      by_node None e = absurd (none_some (sym (ap (option_map (λ (x : TreeNode RenderObject). x.value)) (gone_at k e)) ∙ at))
        where
          none_some : None ≡ Some o → ⊥
          none_some e = cc
      by_node (Some n) e =
          let l = left_at k n e in
          let value : layout_marks.marked l.flag l.mark (record n.value { scroll = l.scrolls }) ≡ o = same_Some (sym (ap (option_map (λ (x : TreeNode RenderObject). x.value)) l.is) ∙ at) in
          elim l.here [
            | inl here ↦ inl (sym (ap (λ (x : RenderObject). x.scroll) value) ∙ (here.1 ∙ (sym is ∙ ap wanted here.0)))
            | inr other ↦ elim (p k n.value (ap (option_map (λ (x : TreeNode RenderObject). x.value)) e)) [
              | inl done ↦ inl (sym (ap (λ (x : RenderObject). x.scroll) value) ∙ (other.1 ∙ done))
              | inr more ↦ inr (ap is_viewport (sym value) ∙ more.0, (let a = times_there k h hs other.0 in let m = more.1 in omega (arith, a, m)))
            ]
          ]

-- ---- one after another

pub wanted_at : (wanted : Handle → ℕ) (ps : List (Handle × ℕ)) (i : ℕ) (z : Handle × ℕ) → AreWanted wanted ps → i < length ps → wanted (get_or ps i z).0 ≡ (get_or ps i z).1
wanted_at wanted [] i z all low = absurd (omega (arith, low))
wanted_at wanted (p ∷ ps) zero z all low = all.0
wanted_at wanted (p ∷ ps) (suc i) z all low = wanted_at wanted ps i z all.1 (omega (arith, low))

pub pending_next : (wanted : Handle → ℕ) (ps : List (Handle × ℕ)) (i : ℕ) (z : Handle × ℕ) (t : Tree RenderObject) → i < length ps
    → Pending wanted (map (λ (p : Handle × ℕ). p.0) (drop i ps)) t → Pending wanted ((get_or ps i z).0 ∷ map (λ (p : Handle × ℕ). p.0) (drop (i + 1) ps)) t
pending_next wanted ps i z t low p = subst (λ xs. Pending wanted (map (λ (q : Handle × ℕ). q.0) xs) t) (drop_more ps i z low) p

pub pending_end : (wanted : Handle → ℕ) (ps : List (Handle × ℕ)) (i : ℕ) (t : Tree RenderObject) → length ps ≤ i → Pending wanted (map (λ (p : Handle × ℕ). p.0) (drop i ps)) t → Pending wanted [] t
pending_end wanted ps i t over p = subst (λ xs. Pending wanted (map (λ (q : Handle × ℕ). q.0) xs) t) (nothing ps i over) p
  where
    nothing : (ps : List (Handle × ℕ)) (i : ℕ) → length ps ≤ i → drop i ps ≡ []
    nothing [] zero over = refl
    nothing [] (suc i) over = refl
    nothing (x ∷ ps) zero over = absurd (omega (arith, over))
    nothing (x ∷ ps) (suc i) over = nothing ps i (omega (arith, over))

-- ---- a node that holds

pub record NodeValue (t : Tree RenderObject) (h : Handle) : Type 0 where
  pub value : RenderObject
  pub is : object_at t h ≡ Some value

pub node_value : (t : Tree RenderObject) (h : Handle) → Holds t h → NodeValue t h
node_value t h holds =
    let one = one_tree (subtree_at t h) h holds.top in
    let stands = subst (λ (f : Forest RenderObject). Stands (node_at t) (parent_at t h) f) one.is holds.stands in
    record { value = one.value; is = ap (λ (n : Option (TreeNode RenderObject)). option_map (λ (m : TreeNode RenderObject). m.value) n) stands.0 }

abbrev pub zero_handle : Handle
zero_handle = record { index = 0; generation = 0 }

pub nth_of : (t : Tree RenderObject) (h : Handle) (cs : List Handle) (i : ℕ)
    → ((i : ℕ) (z : Handle) → i < length (children_at t h) → Nth t (below (subtree_at t h)) i (get_or (children_at t h) i z)) → cs ≡ children_at t h → i < length cs
    → Nth t (below (subtree_at t h)) i (get_or cs i zero_handle)
nth_of t h cs i trees value within =
    rw value (trees i zero_handle (omega (arith, within, ap (λ (xs : List Handle). length xs) value)))

-- with those of a node, those at and below it
pub viewports_all : (t : Tree RenderObject) (h : Handle) → Holds t h → ((o : RenderObject) → object_at t h ≡ Some o → subtree_at t h ≡ tree h o (below (subtree_at t h)) none)
    → (s : Option ℕ) → option_and_then scroll_of (object_at t h) ≡ s → (acc mid new : List (Handle × ℕ)) → mid ≡ acc ++ own_viewport s h → new ≡ mid ++ viewports (below (subtree_at t h))
    → new ≡ acc ++ viewports (subtree_at t h)
viewports_all t h holds opened s is acc mid new own rest =
    let v = node_value t h holds in
    rest ∙ ap (λ xs. xs ++ viewports (below (subtree_at t h))) own ∙ append_assoc acc (own_viewport s h) (viewports (below (subtree_at t h)))
    ∙ ap (λ xs. acc ++ xs) (sym (viewports_here t h v.value (opened v.value v.is) s (sym (ap (option_and_then scroll_of) v.is) ∙ is)))
