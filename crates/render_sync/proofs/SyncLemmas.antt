-- The forest of the plan: its handles differ and are live, and with the values that are there it is the build's render nodes.
use Rattle.std.proofs.Common.{◌≡◌, ◌↔◌, ◌||◌, ℕ, zero, suc, ◌+◌, ◌≤◌, ◌⊎◌, Bool, true, false, cond, List, [], ◌∷◌, ◌++◌, Option, Some, None, IsSome, option_map, inl, inr, append-nil, refl, sym, ap, ◌∙◌, subst, arith}
use Rattle.std.specs.List.{All}
use Rattle.std.proofs.lemmas.List.Elements.{All-nil, All-cons}
use Rattle.std.specs.BTreeMap.{BTreeMap, get}
use Rattle.std.specs.Ordering.{nat_cmp}
use Rattle.fx_handles.specs.declared.Handle.{Handle}
use Rattle.fx_handles.specs.Handle.{same}
use Rattle.fx_handles.specs.HandleLaws.{same-true, same_self}
use Rattle.node_tree.specs.Forest.{TreeNode, Forest, tops, In, IsDistinct, count, size}
use Rattle.node_tree.specs.Forest.Forest.{none, tree}
use Rattle.node_tree.specs.Plan.{PlanEntry, entries, relinked, committed, IsUpdated, Commits}
use Rattle.node_tree.specs.Tree.{Tree, IsNode, node_at, Is}
use Rattle.tree_marks.specs.Marking.{Marking}
use Rattle.tree_marks.specs.Marks.{listed}
use Rattle.plain_tree.specs.Laws.{render_numbers_of, render_numbers_in, AllDiffer}
use Rattle.widget_model.specs.Plain.{children_of as child_widgets}
use Rattle.plain_tree.specs.Render.{lazy_count, Render, render, Renders, no_renders, more_renders, renders_of, list_of, count_of, counts_of}
use Rattle.plain_tree.specs.RenderRole.{render_role_of}
use Rattle.plain_tree.proofs.Numbers.{IsIn, in_left, in_right, differs, apart, differ_left, differ_right}
use Rattle.render_tree.specs.Object.{RenderObject}
use Rattle.render_tree.specs.Plain.{renders_of as renders_in}
use Rattle.render_tree.specs.Redraw.{Redraw, redrawn}
use Rattle.render_tree.specs.Tree.{object_at}
use Rattle.render_tree.specs.Marked.{SetsMarks}
use Rattle.render_tree.specs.Marks.{layout_marks, paint_marks}
use Rattle.render_tree.specs.Changes.{ChangesLayout, ChangesPaint, SomeEntry, LaidAnew, PaintedAnew}
use Rattle.render_sync.specs.Numbering.{number_at, NumbersDiffer, IsNumbering}
use Rattle.render_sync.specs.Renders.{IsScrolledSo, AreScrolledSo, AllScrolledSo, AreDrawn}
use Rattle.render_sync.specs.Synced.{Grows, Plans}
use Rattle.render_sync.proofs.PlaceLemmas.{numbers_differ}

same_some : {X : Type 0} (a b : X) → Some a ≡ Some b → a ≡ b
same_some a b e = cc

-- ---- a handle of a tree

or_positive : (a b : ℕ) → 1 ≤ a + b → (1 ≤ a) ⊎ (1 ≤ b)
or_positive zero b h = inr (omega arith)
or_positive (suc a) b h = inl (omega arith)

module _ {T : Type 0} (k h : Handle) (v : T) (below rest : Forest T) where
  own_by : (b : Bool) → same h k ≡ b → 1 ≤ cond {A = ℕ} b 1 0 → k ≡ h
  own_by true e one = sym (same-true h k e)
  own_by false e one = absurd (omega (arith, one))

  in_cases : In k (tree h v below rest) → (k ≡ h) ⊎ (In k below ⊎ In k rest)
  in_cases is = elim (or_positive (cond {A = ℕ} (same h k) 1 0 + count k below) (count k rest) (omega (arith, is))) [
    | inl first ↦ elim (or_positive (cond {A = ℕ} (same h k) 1 0) (count k below) first) [ inl own ↦ inl (own_by (same h k) refl own) | inr inner ↦ inr (inl inner) ]
    | inr later ↦ inr (inr later)
  ]

-- ---- numbers

same_numbers : (rs : Renders) → render_numbers_in (renders_of (list_of rs)) ≡ render_numbers_in rs
same_numbers no_renders = refl
same_numbers (more_renders r rs) = ap (λ l. render_numbers_of r ++ l) (same_numbers rs)

abbrev numbers : List Render → List ℕ
numbers rs = render_numbers_in (renders_of rs)

-- each render node is scrolled as the node with its number
module _ (t : Tree RenderObject) where
  abbrev mutual
    HasScroll : Render → Type 0
    HasScroll (render number look told scroll many children) = ((h : Handle) (o : RenderObject) → object_at t h ≡ Some o → o.number ≡ number → o.scroll ≡ scroll) × HaveScroll children

    HaveScroll : Renders → Type 0
    HaveScroll no_renders = Unit {0}
    HaveScroll (more_renders r rs) = HasScroll r × HaveScroll rs

  abbrev AllHave : List Render → Type 0
  AllHave rs = HaveScroll (renders_of rs)

module _ (index : BTreeMap ℕ Handle) (t : Tree RenderObject) (is : IsNumbering index t) where
  abbrev find : ℕ → Option Handle
  find = get nat_cmp index

  -- a handle of the forest has a number of the list
  drawn_number : (k : Handle) (g : Forest Redraw) (rs : List Render) → AreDrawn find g rs → In k g → (n : ℕ) × (find n ≡ Some k) × IsIn n (numbers rs)
  drawn_number k none rs d h = absurd (omega (arith, h))
  drawn_number k (tree h u kids rest) [] d at = absurd d
  drawn_number k (tree h u kids rest) (render number look told scroll count children ∷ rs) d at = elim (in_cases k h u kids rest at) [
    | inl own ↦ (number, d.0.found ∙ ap Some (sym own), inl refl)
    | inr other ↦ elim other [
      | inl inner ↦
          let found = drawn_number k kids (list_of children) d.1 inner in
          (found.0, found.1, inr (in_left found.0 (render_numbers_in children) (numbers rs) (subst (IsIn found.0) (same_numbers children) found.2)))
      | inr later ↦
          let found = drawn_number k rest rs d.2 later in
          (found.0, found.1, inr (in_right found.0 (render_numbers_in children) (numbers rs) found.2))
    ]
  ]

  live_number : (o : Option (TreeNode RenderObject)) (n : ℕ) → option_map (λ (x : RenderObject). x.number) (option_map (λ (x : TreeNode RenderObject). x.value) o) ≡ Some n → IsSome o
  live_number None n e = cc
  live_number (Some x) n e = refl

  pub drawn_live : (g : Forest Redraw) (rs : List Render) → AreDrawn find g rs → (k : Handle) → In k g → IsNode t k
  drawn_live g rs d k at = let found = drawn_number k g rs d at in live_number (node_at t k) found.0 (is.to_node found.0 k found.1)

  -- a number has one handle
  one_number : (n m : ℕ) (k : Handle) → find n ≡ Some k → find m ≡ Some k → n ≡ m
  one_number n m k at_n at_m = same_some n m (sym (is.to_node n k at_n) ∙ is.to_node m k at_m)

  nowhere : (a : ℕ) → (1 ≤ a → ⊥) → a ≡ 0
  nowhere zero h = refl
  nowhere (suc a) h = absurd (h (omega arith))

  few_by : (b : Bool) (x y : ℕ) → x ≤ 1 → y ≤ 1 → (b ≡ true → (x ≡ 0) × (y ≡ 0)) → (1 ≤ x → y ≡ 0) → cond {A = ℕ} b 1 0 + x + y ≤ 1
  few_by true x y h k own apart = let none = own refl in omega (arith, none.0, none.1)
  few_by false zero y h k own apart = omega (arith, k)
  few_by false (suc x) y h k own apart = let none = apart (omega arith) in omega (arith, h, none)

  pub drawn_distinct : (g : Forest Redraw) (rs : List Render) → AreDrawn find g rs → AllDiffer (numbers rs) → IsDistinct g
  drawn_distinct none rs d differ k = omega arith
  drawn_distinct (tree h u kids rest) [] d differ k = absurd d
  drawn_distinct (tree h u kids rest) (render number look told scroll many children ∷ rs) d differ k =
      let inner = subst AllDiffer (sym (same_numbers children)) (differ_left (render_numbers_in children) (numbers rs) differ.1) in
      let later = differ_right (render_numbers_in children) (numbers rs) differ.1 in
      few_by (same h k) (count k kids) (count k rest) (drawn_distinct kids (list_of children) d.1 inner k) (drawn_distinct rest rs d.2 later k)
      (λ own.
      let here : k ≡ h = sym (same-true h k own) in (
        nowhere (count k kids) (λ at.
            let found = drawn_number k kids (list_of children) d.1 at in
            differs number found.0 (render_numbers_in children ++ numbers rs) differ.0 (in_left found.0 (render_numbers_in children) (numbers rs) (subst (IsIn found.0) (same_numbers children) found.2))
            (one_number number found.0 k (d.0.found ∙ ap Some (sym here)) found.1)),
        nowhere (count k rest) (λ at.
            let found = drawn_number k rest rs d.2 at in
            differs number found.0 (render_numbers_in children ++ numbers rs) differ.0 (in_right found.0 (render_numbers_in children) (numbers rs) found.2)
            (one_number number found.0 k (d.0.found ∙ ap Some (sym here)) found.1)),
      ))
      (λ at. nowhere (count k rest) (λ then.
      let one = drawn_number k kids (list_of children) d.1 at in
      let two = drawn_number k rest rs d.2 then in
      apart one.0 (render_numbers_in children) (numbers rs) differ.1 (subst (IsIn one.0) (same_numbers children) one.2) (subst (λ n. IsIn n (numbers rs)) (one_number two.0 one.0 k two.1 one.1) two.2)))

  -- ---- the values that are there

  value_of : (o : Option RenderObject) (n : ℕ) → option_map (λ (x : RenderObject). x.number) o ≡ Some n → (x : RenderObject) × (o ≡ Some x) × (x.number ≡ n)
  value_of None n e = absurd (cc)
  value_of (Some x) n e = (x, refl, same_some x.number n e)

  same_list : (rs : Renders) → renders_of (list_of rs) ≡ rs
  same_list no_renders = refl
  same_list (more_renders r rs) = ap (more_renders r) (same_list rs)

  pub drawn_values : (g : Forest Redraw) (rs : List Render) → AreDrawn find g rs → AllHave t rs → (f : Forest RenderObject) × IsUpdated redrawn (object_at t) g f × (renders_in f ≡ renders_of rs)
  drawn_values none [] d s = (none, tt, refl)
  drawn_values none (r ∷ rs) d s = absurd d
  drawn_values (tree h u kids rest) [] d s = absurd d
  drawn_values (tree h u kids rest) (render number look told scroll many children ∷ rs) d s =
      let inner = drawn_values kids (list_of children) d.1 (subst (HaveScroll t) (sym (same_list children)) s.0.1) in
      let later = drawn_values rest rs d.2 s.1 in
      let value = value_of (object_at t h) number (is.to_node number h d.0.found) in
      let o = value.0 in (
        tree h (redrawn u o) inner.0 later.0,
        (refl, ap (option_map (redrawn u)) value.1, inner.1, later.1),
        λ i. more_renders (render (value.2 i) (d.0.look_is i) (d.0.told_is i) (s.0.0 h o value.1 value.2 i) ((ap (λ l. lazy_count (render_role_of l) (child_widgets u.widget)) d.0.look_is ∙ d.0.count_is) i) ((inner.2 ∙ same_list children) i)) (later.2 i),
      )

-- ---- offsets, after new nodes were made

module _ (old mid : Tree RenderObject) (grows : Grows old mid) (one : NumbersDiffer mid) where
  node_live : (o : Option (TreeNode RenderObject)) (n : ℕ) → option_map (λ (x : RenderObject). x.number) (option_map (λ (x : TreeNode RenderObject). x.value) o) ≡ Some n → IsSome o
  node_live None n e = cc
  node_live (Some x) n e = refl

  the_node : (o : Option (TreeNode RenderObject)) (v : RenderObject) → option_map (λ (x : TreeNode RenderObject). x.value) o ≡ Some v → (n : TreeNode RenderObject) × (o ≡ Some n) × (n.value ≡ v)
  the_node None v e = absurd (cc)
  the_node (Some n) v e = (n, refl, same_some n.value v e)

  scrolled_by : (number scroll : ℕ) (h : Handle) (v : RenderObject) → IsScrolledSo old number scroll → object_at mid h ≡ Some v → v.number ≡ number
      → (o : Option (TreeNode RenderObject)) → node_at old h ≡ o → v.scroll ≡ scroll
  scrolled_by number scroll h v so at is (Some n) was =
      let kept = grows.keeps h (subst IsSome (sym was) refl) in
      so.was h v (ap (option_map (λ (x : TreeNode RenderObject). x.value)) (sym kept) ∙ at) is
  scrolled_by number scroll h v so at is None was =
      let node = the_node (node_at mid h) v at in
      let fresh = grows.fresh h node.0 was node.1 in
      let value : v ≡ node.0.value = sym node.2 in
      let zero_there : v.scroll ≡ 0 = ap (λ (x : RenderObject). x.scroll) value ∙ ap (λ (x : TreeNode RenderObject). x.value.scroll) fresh.2 in
      let unscrolled : scroll ≡ 0 = so.new (λ k there. absurd (
      let live = node_live (node_at old k) number there in
      let now : number_at mid k ≡ Some number = ap (λ (o : Option (TreeNode RenderObject)). option_map (λ (x : RenderObject). x.number) (option_map (λ (x : TreeNode RenderObject). x.value) o)) (grows.keeps k live) ∙ there in
      let here : number_at mid h ≡ Some number = ap (option_map (λ (x : RenderObject). x.number)) at ∙ ap Some is in
      let same_handle : h ≡ k = one number h k here now in
      let gone : node_at old k ≡ None = ap (node_at old) (sym same_handle) ∙ was in
      let both : IsSome {T = TreeNode RenderObject} None = subst IsSome gone live in
      cc)) in
      zero_there ∙ sym unscrolled

  mutual
    pub scrolled_after : (r : Render) → AreScrolledSo old r → HasScroll mid r
    scrolled_after (render number look told scroll many children) so = ((λ h v at is. scrolled_by number scroll h v so.0 at is (node_at old h) refl), all_scrolled_after children so.1)

    pub all_scrolled_after : (rs : Renders) → AllScrolledSo old rs → HaveScroll mid rs
    all_scrolled_after no_renders so = tt
    all_scrolled_after (more_renders r rs) so = (scrolled_after r so.0, all_scrolled_after rs so.1)

-- ---- the nodes that are changed are nodes of the plan

some_parts : (P : PlanEntry Redraw → Type 0) (es fs : List (PlanEntry Redraw)) → SomeEntry P (es ++ fs) → SomeEntry P es ⊎ SomeEntry P fs
some_parts P [] fs h = inr h
some_parts P (e ∷ es) fs (inl h) = inl (inl h)
some_parts P (e ∷ es) fs (inr h) = elim (some_parts P es fs h) [ inl a ↦ inl (inr a) | inr b ↦ inr b ]

in_own : {T : Type 0} (k h : Handle) (v : T) (below rest : Forest T) → k ≡ h → In k (tree h v below rest)
in_own k h v below rest e =
    let own : same h k ≡ true = subst (λ x. same x k ≡ true) e (same_self k) in
    let one : cond {A = ℕ} (same h k) 1 0 ≡ 1 = ap (λ b. cond {A = ℕ} b 1 0) own in
    omega (arith, one)

in_below : {T : Type 0} (k h : Handle) (v : T) (below rest : Forest T) → In k below → In k (tree h v below rest)
in_below k h v below rest e = omega (arith, e)

in_rest : {T : Type 0} (k h : Handle) (v : T) (below rest : Forest T) → In k rest → In k (tree h v below rest)
in_rest k h v below rest e = omega (arith, e)

module _ (P : PlanEntry Redraw → Type 0) (h : Handle) (names : (e : PlanEntry Redraw) → P e → (e.at ≡ h) ⊎ (e.parent ≡ Some h)) where
  named_in : (p : Option Handle) (g : Forest Redraw) → SomeEntry P (entries p g) → In h g ⊎ (p ≡ Some h)
  named_in p none s = absurd s
  named_in p (tree k u kids rest) s = elim (some_parts P (entries (Some k) kids) (record { at = k; parent = p; children = tops kids; update = u } ∷ entries p rest) s) [
    | inl inner ↦ elim (named_in (Some k) kids inner) [
      | inl below ↦ inl (in_below h k u kids rest below)
      | inr own ↦ inl (in_own h k u kids rest (sym (same_some k h own)))
    ]
    | inr (inl this) ↦ elim (names (record { at = k; parent = p; children = tops kids; update = u }) this) [
      | inl own ↦ inl (in_own h k u kids rest (sym own))
      | inr above ↦ inr above
    ]
    | inr (inr later) ↦ elim (named_in p rest later) [ inl there ↦ inl (in_rest h k u kids rest there) | inr above ↦ inr above ]
  ]

no_parent : (h : Handle) (g : Forest Redraw) → In h g ⊎ (None ≡ Some h) → In h g
no_parent h g (inl is) = is
no_parent h g (inr e) = absurd (cc)

root_in : (h root : Handle) (g : Forest Redraw) → root ∷ [] ≡ tops g → root ≡ h → In h g
root_in h root none e is = absurd (cc)
root_in h root (tree k u kids rest) e is = in_own h k u kids rest (sym is ∙ same_first e)
  where
    same_first : root ∷ [] ≡ k ∷ tops rest → root ≡ k
    same_first e = cc

module _ (t : Tree RenderObject) (root : Handle) (es : List (PlanEntry Redraw)) (g : Forest Redraw) (is : es ≡ entries None g) (top : root ∷ [] ≡ tops g) where
  pub laid_in : (hs : List Handle) → LaidAnew t (Some root) es hs → (h : Handle) → listed h hs ≡ true → In h g
  laid_in hs anew h at = elim (anew.caused h at) [
    | inl changes ↦ no_parent h g (named_in (ChangesLayout t h) h (λ e changed. elim changed [ inl own ↦ inl own.0 | inr told ↦ inr told.0 ]) None g (subst (SomeEntry (ChangesLayout t h)) is changes))
    | inr becomes ↦ root_in h root g top (same_some root h becomes.0)
  ]

  pub painted_in : (hs : List Handle) → PaintedAnew t (Some root) es hs → (h : Handle) → listed h hs ≡ true → In h g
  painted_in hs anew h at = elim (anew.caused h at) [
    | inl changes ↦ no_parent h g (named_in (ChangesPaint t h) h (λ e changed. inl changed.0) None g (subst (SomeEntry (ChangesPaint t h)) is changes))
    | inr becomes ↦ root_in h root g top (same_some root h becomes.0)
  ]

first_true : (x y : Bool) → x ≡ true → (x || y) ≡ true
first_true true y e = refl
first_true false y e = cc

later_true : (x y : Bool) → y ≡ true → (x || y) ≡ true
later_true true y e = refl
later_true false y e = e

pub each_listed : (P : Handle → Type 0) (hs : List Handle) → ((h : Handle) → listed h hs ≡ true → P h) → All P hs
each_listed P [] f = All-nil P
each_listed P (h ∷ hs) f = All-cons P h hs (f h (first_true (same h h) (listed h hs) (same_self h))) (each_listed P hs (λ k at. f k (later_true (same k h) (listed k hs) at)))

-- ---- after the commit

pub updated_count : (at : Handle → Option RenderObject) (k : Handle) (g : Forest Redraw) (f : Forest RenderObject) → IsUpdated redrawn at g f → count k f ≡ count k g
updated_count at k none none is = refl
updated_count at k none (tree h v below rest) is = absurd is
updated_count at k (tree h u kids more) none is = absurd is
updated_count at k (tree h u kids more) (tree j v below rest) is =
    let own : cond {A = ℕ} (same j k) 1 0 ≡ cond {A = ℕ} (same h k) 1 0 = ap (λ x. cond {A = ℕ} (same x k) 1 0) (sym is.0) in
    let inner = updated_count at k kids below is.2 in
    let later = updated_count at k more rest is.3 in
    omega arith

pub updated_in : (at : Handle → Option RenderObject) (k : Handle) (g : Forest Redraw) (f : Forest RenderObject) → IsUpdated redrawn at g f → In k g → In k f
updated_in at k g f is here = let same_count = updated_count at k g f is in omega (arith, here, same_count)

abbrev number_in : Option (TreeNode RenderObject) → Option ℕ
number_in o = option_map (λ (x : RenderObject). x.number) (option_map (λ (x : TreeNode RenderObject). x.value) o)

relinked_number : (e : PlanEntry Redraw) (o : Option (TreeNode RenderObject)) → number_in (option_map (relinked redrawn e) o) ≡ number_in o
relinked_number e None = refl
relinked_number e (Some n) = refl

-- a node that is still there has its number
number_by : (b : Bool) (e : PlanEntry Redraw) (o rest : Option (TreeNode RenderObject)) → (IsSome rest → number_in rest ≡ number_in o) → IsSome (cond b (option_map (relinked redrawn e) o) rest)
    → number_in (cond b (option_map (relinked redrawn e) o) rest) ≡ number_in o
number_by true e o rest later there = relinked_number e o
number_by false e o rest later there = later there

committed_number : (es : List (PlanEntry Redraw)) (k : Handle) (o : Option (TreeNode RenderObject)) → IsSome (committed redrawn es k o) → number_in (committed redrawn es k o) ≡ number_in o
committed_number [] k o there = cc
committed_number (e ∷ es) k o there = number_by (same k e.at) e o (committed redrawn es k o) (committed_number es k o) there

pub number_kept : (mid now : Tree RenderObject) (es : List (PlanEntry Redraw)) → Commits redrawn es mid.nodes now.nodes → (k : Handle) → IsNode now k → number_at now k ≡ number_at mid k
number_kept mid now es commits k there =
    ap number_in (commits.nodes k) ∙ committed_number es k (node_at mid k) (subst IsSome (commits.nodes k) there)

module _ (m : Marking RenderObject) (keeps : (f b : Bool) (o : RenderObject) → (m.marked f b o).number ≡ o.number) (also : Bool) (hs : List Handle) (old new : Tree RenderObject) (sets : SetsMarks m also hs old new) where
  by_node : (k : Handle) (o : Option (TreeNode RenderObject)) → node_at old k ≡ o → number_at new k ≡ number_in o
  by_node k None at = ap number_in (sets.absent k at)
  by_node k (Some n) at = let marked = sets.only k n at in ap number_in marked.2 ∙ ap Some (keeps marked.0 marked.1 n.value)

  pub marked_number : (k : Handle) → number_at new k ≡ number_at old k
  marked_number k = by_node k (node_at old k) refl

  live_by : (k : Handle) (o : Option (TreeNode RenderObject)) → node_at old k ≡ o → IsSome o → IsNode new k
  live_by k None at there = cc
  live_by k (Some n) at there = let marked = sets.only k n at in subst IsSome (sym marked.2) refl

  pub marked_live : (k : Handle) → IsNode old k → IsNode new k
  marked_live k there = live_by k (node_at old k) refl there

  was_by : (k : Handle) (o : Option (TreeNode RenderObject)) → node_at old k ≡ o → IsNode new k → IsNode old k
  was_by k None at there = absurd (let gone : IsSome {T = TreeNode RenderObject} None = subst IsSome (sets.absent k at) there in cc)
  was_by k (Some n) at there = subst IsSome (sym at) refl

  pub marked_was : (k : Handle) → IsNode new k → IsNode old k
  marked_was k there = was_by k (node_at old k) refl there

pub layout_number : (f b : Bool) (o : RenderObject) → (layout_marks.marked f b o).number ≡ o.number
layout_number f b o = refl

pub paint_number : (f b : Bool) (o : RenderObject) → (paint_marks.marked f b o).number ≡ o.number
paint_number f b o = refl

node_alive : (o : Option (TreeNode RenderObject)) (n : ℕ) → number_in o ≡ Some n → IsSome o
node_alive None n e = cc
node_alive (Some x) n e = refl

-- the index after all of it
pub index_after : (was after : BTreeMap ℕ Handle) (mid now : Tree RenderObject) → IsNumbering was mid → ((k : Handle) → IsNode now k → number_at now k ≡ number_at mid k)
    → ((n : ℕ) (h : Handle) → (get nat_cmp after n ≡ Some h) ↔ ((get nat_cmp was n ≡ Some h) × IsNode now h)) → IsNumbering after now
index_after was after mid now is kept index = record {
  to_node = λ n h there. let both = (index n h).0 there in kept h both.1 ∙ is.to_node n h both.0;
  to_index = λ n h there.
      let live = node_alive (node_at now h) n there in
      (index n h).1 (is.to_index n h (sym (kept h live) ∙ there), live);
}

-- ---- what the plan of a build comes to

module _ (index : BTreeMap ℕ Handle) (old mid : Tree RenderObject) (is : IsNumbering index mid) (grows : Grows old mid) (top : Render) (es : List (PlanEntry Redraw)) (root : Handle)
    (plans : Plans (get nat_cmp index) None (top ∷ []) [] es [] (root ∷ [])) (differ : AllDiffer (render_numbers_of top)) where
  pub forest_once : IsDistinct plans.forest
  forest_once = drawn_distinct index mid is plans.forest (top ∷ []) plans.drawn (subst AllDiffer (sym (append-nil (render_numbers_of top))) differ)

  pub forest_live : (k : Handle) → In k plans.forest → IsNode mid k
  forest_live = drawn_live index mid is plans.forest (top ∷ []) plans.drawn

  pub forest_values : AreScrolledSo old top → (f : Forest RenderObject) × IsUpdated redrawn (object_at mid) plans.forest f × (renders_in f ≡ more_renders top no_renders)
  forest_values so = drawn_values index mid is plans.forest (top ∷ []) plans.drawn (scrolled_after old mid grows (numbers_differ index mid is) top so, tt)

  module _ (so : AreScrolledSo old top) (now : Tree RenderObject) (stands_live : (f : Forest RenderObject) → Is now f → (k : Handle) → In k f → IsNode now k)
      (made : (f : Forest RenderObject) → IsUpdated redrawn (object_at mid) plans.forest f → Is now f) where
    -- each node of the plan is there after the commit
    pub live_after : (k : Handle) → In k plans.forest → IsNode now k
    live_after k here =
        let values = forest_values so in
        stands_live values.0 (made values.0 values.1) k (updated_in (object_at mid) k plans.forest values.0 values.1 here)

    pub laid_live : (hs : List Handle) → LaidAnew mid (Some root) es hs → All (IsNode now) hs
    laid_live hs anew = each_listed (IsNode now) hs (λ h at. live_after h (laid_in mid root es plans.forest plans.entries_are plans.tops_are hs anew h at))

    pub painted_live : (hs : List Handle) → PaintedAnew mid (Some root) es hs → All (IsNode now) hs
    painted_live hs anew = each_listed (IsNode now) hs (λ h at. live_after h (painted_in mid root es plans.forest plans.entries_are plans.tops_are hs anew h at))

-- ---- how many nodes are drawn

drawn_count : (find : ℕ → Option Handle) (f : Forest Redraw) (rs : List Render) → AreDrawn find f rs → size f ≡ counts_of (renders_of rs)
drawn_count find none [] drawn = refl
drawn_count find none (r ∷ rs) drawn = absurd drawn
drawn_count find (tree h u kids rest) [] drawn = absurd drawn
drawn_count find (tree h u kids rest) (render number look told scroll count children ∷ rs) drawn =
    let below : size kids ≡ counts_of children = drawn_count find kids (list_of children) drawn.1 ∙ ap counts_of (listed children) in
    let after : size rest ≡ counts_of (renders_of rs) = drawn_count find rest rs drawn.2 in
    omega (arith, below, after)
  where
    listed : (rs : Renders) → renders_of (list_of rs) ≡ rs
    listed no_renders = refl
    listed (more_renders r rs) = ap (λ (x : Renders). more_renders r x) (listed rs)

pub drawn_one : (find : ℕ → Option Handle) (f : Forest Redraw) (top : Render) → AreDrawn find f (top ∷ []) → size f ≡ count_of top
drawn_one find f top drawn = drawn_count find f (top ∷ []) drawn ∙ omega arith
