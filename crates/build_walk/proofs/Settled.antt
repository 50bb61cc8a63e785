-- What stands once the plans of a build are committed.
use Rattle.std.proofs.Common.{◌≡◌, ℕ, zero, suc, ◌+◌, Bool, true, false, ◌||◌, ◌&&◌, cond, Option, Some, None, IsSome, option_map, List, [], ◌∷◌, length, ◌⊎◌, inl, inr, refl, sym, ap, ◌∙◌, subst, arith}
use Rattle.std.specs.List.{All}
use Rattle.std.specs.Option.{option_to_list}
use Rattle.std.proofs.lemmas.List.Elements.{All-nil, All-cons}
use Rattle.fx_handles.specs.declared.Handle.{Handle}
use Rattle.fx_handles.specs.Handle.{same}
use Rattle.fx_handles.specs.HandleLaws.{same-true, same_self}
use Rattle.node_tree.specs.Forest.{TreeNode, Forest, tops, append, count, In, Stands}
use Rattle.node_tree.specs.Forest.Forest.{none, tree}
use Rattle.node_tree.specs.Plan.{IsUpdated}
use Rattle.node_tree.specs.Tree.{Tree, node_at, IsNode}
use Rattle.tree_marks.specs.Marking.{Above, Marking, within}
use Rattle.tree_marks.specs.Marks.{listed as is_listed, has_listed, some_climbs, sweep}
use Rattle.tree_marks.specs.Ways.{OnlyMarks}
use Rattle.plain_tree.specs.Laws.{IsOne, OneWhere, AllVanishAlone}
use Rattle.plain_tree.specs.PlainNode.{nodes_of as listed}
use Rattle.plain_tree.specs.declared.render.ParentData.{ParentData}
use Rattle.plain_tree.specs.declared.role.RenderRole.{RenderRole}
use Rattle.plain_tree.specs.declared.role.RenderRole.TheVariants.{Plain}
use Rattle.plain_tree.specs.Projection.{told_by, told_at, projected, projected_all}
use Rattle.plain_tree.specs.Render.{Render, render, Renders, more_renders, renders_of as renders_listed}
use Rattle.plain_tree.specs.RenderRole.{vanishes}
use Rattle.element_tree.specs.Element.{Element}
use Rattle.element_tree.specs.Nodes.{nodes_of}
use Rattle.render_tree.specs.Changes.{BecomesRoot}
use Rattle.render_tree.specs.Object.{RenderObject, object_look}
use Rattle.render_tree.specs.Plain.{lazy_children, renders_of}
use Rattle.render_tree.specs.Redraw.{Redraw, redrawn}
use Rattle.render_tree.specs.Tree.{object_at}
use Rattle.build_walk.specs.Changing.{SomeChanges, SomeLooks}
use Rattle.build_walk.specs.Past.{is_marked}
use Rattle.build_walk.specs.Renewing.{AllGoOn, role_of, redraw_of, drawn_at, drawn, IsDrawn, Unless, AreDrawn}
use Rattle.build_walk.specs.Telling.{AreFlagged, FlagsAre}

-- ---- forests

in_own : {T : Type 0} (k h : Handle) (v : T) (kids rest : Forest T) → h ≡ k → In k (tree h v kids rest)
in_own k h v kids rest e =
    let own : same h k ≡ true = subst (λ x. same h x ≡ true) e (same_self h) in
    let one : cond {A = ℕ} (same h k) 1 0 ≡ 1 = ap (λ b. cond {A = ℕ} b 1 0) own in
    omega (arith, one)

in_below : {T : Type 0} (k h : Handle) (v : T) (kids rest : Forest T) → In k kids → In k (tree h v kids rest)
in_below k h v kids rest i = omega (arith, i)

in_rest : {T : Type 0} (k h : Handle) (v : T) (kids rest : Forest T) → In k rest → In k (tree h v kids rest)
in_rest k h v kids rest i = omega (arith, i)

count_parts : {T : Type 0} (k : Handle) (f g : Forest T) → count k (append f g) ≡ count k f + count k g
count_parts k none g = omega arith
count_parts k (tree h v kids rest) g = let e = count_parts k rest g in omega arith

in_front : {T : Type 0} (k : Handle) (f g : Forest T) → In k f → In k (append f g)
in_front k f g i = let e = count_parts k f g in omega (arith, i, e)

in_back : {T : Type 0} (k : Handle) (f g : Forest T) → In k g → In k (append f g)
in_back k f g i = let e = count_parts k f g in omega (arith, i, e)

tops_parts : {T : Type 0} (f g : Forest T) → length (tops (append f g)) ≡ length (tops f) + length (tops g)
tops_parts none g = omega arith
tops_parts (tree h v kids rest) g = let e = tops_parts rest g in omega (arith, e)

-- ---- a plan's forest of render nodes

module _ (t : Tree RenderObject) where
  the_value : (h : Handle) (u : Redraw) (o : Option (TreeNode RenderObject)) → node_at t h ≡ o → IsSome o → (v : RenderObject) × (option_map (redrawn u) (object_at t h) ≡ Some v)
  the_value h u None at live = absurd (cc)
  the_value h u (Some n) at live = (redrawn u n.value, ap (λ (o : Option (TreeNode RenderObject)). option_map (redrawn u) (option_map (λ (x : TreeNode RenderObject). x.value) o)) at)

  -- what it leaves, where its nodes are live
  pub updates : (d : Forest Redraw) → ((k : Handle) → In k d → IsNode t k) → (g : Forest RenderObject) × IsUpdated redrawn (object_at t) d g
  updates none live = (none, tt)
  updates (tree h u kids more) live =
      let here = the_value h u (node_at t h) refl (live h (in_own h h u kids more refl)) in
      let inner = updates kids (λ k i. live k (in_below k h u kids more i)) in
      let later = updates more (λ k i. live k (in_rest k h u kids more i)) in
      (tree h here.0 inner.0 later.0, (refl, here.1, inner.1, later.1))

  -- what changes is in the forest that it leaves
  changes_in : (h : Handle) (g : Forest RenderObject) → SomeChanges t h g → In h g
  changes_in h none s = absurd s
  changes_in h (tree k w kids rest) (inl own) = in_own h k w kids rest own.0
  changes_in h (tree k w kids rest) (inr (inl below)) = in_below h k w kids rest (changes_in h kids below)
  changes_in h (tree k w kids rest) (inr (inr later)) = in_rest h k w kids rest (changes_in h rest later)

  looks_in : (h : Handle) (g : Forest RenderObject) → SomeLooks t h g → In h g
  looks_in h none s = absurd s
  looks_in h (tree k w kids rest) (inl own) = in_own h k w kids rest own.0
  looks_in h (tree k w kids rest) (inr (inl below)) = in_below h k w kids rest (looks_in h kids below)
  looks_in h (tree k w kids rest) (inr (inr later)) = in_rest h k w kids rest (looks_in h rest later)

  root_in : (root : Option Handle) (h : Handle) (g : Forest RenderObject) → option_to_list root ≡ tops g → root ≡ Some h → In h g
  root_in root h none top is = absurd (let e = ap option_to_list is in cc)
  root_in root h (tree k w kids rest) top is = in_own h k w kids rest (same_first (sym (ap option_to_list is) ∙ top))
    where
      same_first : h ∷ [] ≡ k ∷ tops rest → k ≡ h
      same_first e = cc

  module _ (root : Option Handle) (g : Forest RenderObject) (top : option_to_list root ≡ tops g) where
    pub layout_in : (h : Handle) → SomeChanges t h g ⊎ BecomesRoot t root h → In h g
    layout_in h (inl s) = changes_in h g s
    layout_in h (inr s) = root_in root h g top s.0

    pub paint_in : (h : Handle) → SomeLooks t h g ⊎ BecomesRoot t root h → In h g
    paint_in h (inl s) = looks_in h g s
    paint_in h (inr s) = root_in root h g top s.0

first_true : (x y : Bool) → x ≡ true → (x || y) ≡ true
first_true true y e = refl
first_true false y e = cc

later_true : (x y : Bool) → y ≡ true → (x || y) ≡ true
later_true true y e = refl
later_true false y e = e

pub each_listed : (P : Handle → Type 0) (hs : List Handle) → ((h : Handle) → is_listed h hs ≡ true → P h) → All P hs
each_listed P [] f = All-nil P
each_listed P (h ∷ hs) f = All-cons P h hs (f h (first_true (same h h) (is_listed h hs) (same_self h))) (each_listed P hs (λ k at. f k (later_true (same k h) (is_listed k hs) at)))

-- ---- the render nodes of elements are still there

module _ (was now : Handle → Option RenderObject) where
  -- the render node at a handle keeps its number, and how far it is scrolled
  abbrev pub Keeps : Handle → Type 0
  Keeps k = (o : RenderObject) → was k ≡ Some o → (w : RenderObject) × (now k ≡ Some w) × (w.number ≡ o.number) × (w.scroll ≡ o.scroll)

  moved : (scroll : ℕ) (e : Element) (d : IsDrawn was scroll e) → Keeps d.handle → IsDrawn now scroll e
  moved scroll e d kept =
      let w = kept d.object d.stored in
      record { handle = d.handle; named = d.named; object = w.0; stored = w.1; number = w.2 ∙ d.number; scrolled = w.3 ∙ d.scrolled }

  by_role : (b : Bool) (e : Element) (scroll : ℕ) (through own : Forest Redraw) (Below : Type 0) → (((k : Handle) → In k through → Keeps k) → Below)
      → ((handle : Handle) → e.render ≡ Some handle → ((k : Handle) → In k own → Keeps k) → Keeps handle × Below)
      → ((k : Handle) → In k (cond b through own) → Keeps k) → Unless b (IsDrawn was scroll e) → Unless b (IsDrawn now scroll e) × Below
  by_role true e scroll through own Below go_through go_own go d = (tt, go_through go)
  by_role false e scroll through own Below go_through go_own go d =
      let parts = go_own d.handle d.named go in
      (moved scroll e d parts.0, parts.1)

  module _ (scrolled : ℕ → ℕ) where
    pub still_drawn : (above : RenderRole) (told : Option ParentData) (f : Forest Element) → ((k : Handle) → In k (drawn above told f) → Keeps k) → AreDrawn was scrolled f → AreDrawn now scrolled f
    still_drawn above told none go d = tt
    still_drawn above told (tree h e kids rest) go d =
        let parent_data = told_at above told e.index in
        let through = drawn above (Some (told_by above (role_of e) parent_data)) kids in
        let below = drawn (role_of e) None kids in
        let own = drawn_at e.render (redraw_of e parent_data) below in
        let front = cond (vanishes (role_of e)) through own in
        let later = drawn above told rest in
        let here = by_role (vanishes (role_of e)) e (scrolled e.number) through own (AreDrawn now scrolled kids)
        (λ go1. still_drawn above (Some (told_by above (role_of e) parent_data)) kids go1 d.1)
        (λ handle named go1.
        let at : own ≡ tree handle (redraw_of e parent_data) below none = ap (λ o. drawn_at o (redraw_of e parent_data) below) named in
        let go2 = subst (λ x. (k : Handle) → In k x → Keeps k) at go1 in (
          go2 handle (in_own handle handle (redraw_of e parent_data) below none refl),
          still_drawn (role_of e) None kids (λ k i. go2 k (in_below k handle (redraw_of e parent_data) below none i)) d.1,
        ))
        (λ k i. go k (in_front k front later i)) d.0 in
        (here.0, here.1, still_drawn above told rest (λ k i. go k (in_back k front later i)) d.2)

-- after a commit
module _ (t u : Tree RenderObject) where
  same_object : (h k : Handle) (y : Redraw) (w : RenderObject) → h ≡ k → option_map (redrawn y) (object_at t h) ≡ Some w → object_at u h ≡ Some w → Keeps (object_at t) (object_at u) k
  same_object h k y w e made at = λ o stored.
      let is : redrawn y o ≡ w = some_same (redrawn y o) w (sym (ap (option_map (redrawn y)) (ap (object_at t) e ∙ stored)) ∙ made) in
      (w, ap (object_at u) (sym e) ∙ at, ap (λ (x : RenderObject). x.number) (sym is), ap (λ (x : RenderObject). x.scroll) (sym is))
    where
      some_same : (x z : RenderObject) → Some x ≡ Some z → x ≡ z
      some_same x z q = cc

  in_parts : {T : Type 0} (h k : Handle) (y : T) (kids rest : Forest T) (P : Type 0) → In k (tree h y kids rest) → (h ≡ k → P) → (In k kids → P) → (In k rest → P) → P
  in_parts h k y kids rest P i own below later = by_same (same h k) refl
    where
      by_kids : (n : ℕ) → count k kids ≡ n → same h k ≡ false → P
      by_kids zero z s = later (omega (arith, i, z, ap (λ b. cond {A = ℕ} b 1 0) s))
      by_kids (suc n) z s = below (omega (arith, z))

      by_same : (b : Bool) → same h k ≡ b → P
      by_same true s = own (same-true h k s)
      by_same false s = by_kids (count k kids) refl s

  pub committed_keeps : (p : Option Handle) (d : Forest Redraw) (g : Forest RenderObject) → IsUpdated redrawn (object_at t) d g → Stands (node_at u) p g → (k : Handle) → In k d → Keeps (object_at t) (object_at u) k
  committed_keeps p none none up stands k i = absurd (omega (arith, i))
  committed_keeps p none (tree j v below rest) up stands k i = absurd up
  committed_keeps p (tree h y kids more) none up stands k i = absurd up
  committed_keeps p (tree h y kids more) (tree j v below rest) up stands k i =
      in_parts h k y kids more (Keeps (object_at t) (object_at u) k) i
      (λ own. same_object h k y v own up.1 (ap (object_at u) up.0 ∙ ap (option_map (λ (n : TreeNode RenderObject). n.value)) stands.0))
      (λ inner. committed_keeps (Some j) kids below up.2 stands.1 k inner)
      (λ later. committed_keeps p more rest up.3 stands.2 k later)

-- after marks
module _ (m : Marking RenderObject) (number : (f b : Bool) (o : RenderObject) → (m.marked f b o).number ≡ o.number) (scroll : (f b : Bool) (o : RenderObject) → (m.marked f b o).scroll ≡ o.scroll)
    (t u : Tree RenderObject) (only : OnlyMarks m t u) where
  marked_by : (k : Handle) (o : Option (TreeNode RenderObject)) → node_at t k ≡ o → Keeps (object_at t) (object_at u) k
  marked_by k None at = λ v stored. absurd (let gone = ap (option_map (λ (x : TreeNode RenderObject). x.value)) at in cc)
  marked_by k (Some n) at = λ v stored.
      let marked = only k n at in
      let is : n.value ≡ v = some_same n.value v (sym (ap (option_map (λ (x : TreeNode RenderObject). x.value)) at) ∙ stored) in (
        m.marked marked.0 marked.1 n.value,
        ap (option_map (λ (x : TreeNode RenderObject). x.value)) marked.2,
        number marked.0 marked.1 n.value ∙ ap (λ (x : RenderObject). x.number) is,
        scroll marked.0 marked.1 n.value ∙ ap (λ (x : RenderObject). x.scroll) is,
      )
    where
      some_same : (x z : RenderObject) → Some x ≡ Some z → x ≡ z
      some_same x z q = cc

  pub marks_keep : (k : Handle) → Keeps (object_at t) (object_at u) k
  marks_keep k = marked_by k (node_at t k) refl

module _ (m : Marking RenderObject) (t u : Tree RenderObject) (only : OnlyMarks m t u) where
  live_by : (k : Handle) (o : Option (TreeNode RenderObject)) → node_at t k ≡ o → IsSome o → IsNode u k
  live_by k None at live = cc
  live_by k (Some n) at live = let marked = only k n at in subst IsSome (sym marked.2) refl

  pub marks_live : (k : Handle) → IsNode t k → IsNode u k
  marks_live k live = live_by k (node_at t k) refl live

-- they change nothing that is seen of the render nodes
abbrev pub render_at : RenderObject → Renders → Render
render_at o below = render o.number (object_look o) o.parent_data o.scroll (lazy_children o) below

pub swept_renders : (m : Marking RenderObject) → ((f b : Bool) (o : RenderObject) (rs : Renders) → render_at (m.marked f b o) rs ≡ render_at o rs)
    → (also : Bool) (hs : List Handle) (p : Above) (f : Forest RenderObject) → renders_of (sweep m also hs p f) ≡ renders_of f
swept_renders m keeps also hs p none = refl
swept_renders m keeps also hs p (tree h o kids rest) =
    ap (λ r. more_renders r (renders_of (sweep m also hs p rest))) (keeps _ _ o (renders_of (sweep m also hs (within m p o) kids)))
    ∙ (λ i. more_renders (render_at o (swept_renders m keeps also hs (within m p o) kids i)) (swept_renders m keeps also hs p rest i))

pub swept_tops : (m : Marking RenderObject) (also : Bool) (hs : List Handle) (p : Above) (f : Forest RenderObject) → tops (sweep m also hs p f) ≡ tops f
swept_tops m also hs p none = refl
swept_tops m also hs p (tree h o kids rest) = ap (λ l. h ∷ l) (swept_tops m also hs p rest)

pub swept_parts : (m : Marking RenderObject) (also : Bool) (hs : List Handle) (p : Above) (f g : Forest RenderObject) → sweep m also hs p (append f g) ≡ append (sweep m also hs p f) (sweep m also hs p g)
swept_parts m also hs p none g = refl
swept_parts m also hs p (tree h o kids rest) g =
    let v = m.marked ((is_listed h hs || some_climbs m hs (within m p o) kids) && m.takes p.top o) (has_listed hs kids || (also && is_listed h hs)) o in
    ap (tree h v (sweep m also hs (within m p o) kids)) (swept_parts m also hs p rest g)

pub stands_front : (at : Handle → Option (TreeNode RenderObject)) (p : Option Handle) (f g : Forest RenderObject) → Stands at p (append f g) → Stands at p f
stands_front at p none g s = tt
stands_front at p (tree h o kids rest) g s = (s.0, s.1, stands_front at p rest g s.2)

-- ---- a tree gives one render node

module _ (at : Handle → Option RenderObject) (scrolled : ℕ → ℕ) where
  one_of : (f : Forest Element) → IsOne (listed (nodes_of scrolled f)) → length (tops f) ≡ 1
  one_of none one = absurd one
  one_of (tree h e kids none) one = refl
  one_of (tree h e kids (tree k v below rest)) one = absurd one

  one_here : (b : Bool) (e : Element) (scroll : ℕ) (u : Redraw) (kids : Forest Element) (through below : Forest Redraw) → OneWhere b (listed (nodes_of scrolled kids)) → Unless b (IsDrawn at scroll e)
      → length (tops through) ≡ length (tops kids) → length (tops (cond b through (drawn_at e.render u below))) ≡ 1
  one_here true e scroll u kids through below one d is = is ∙ one_of kids one
  one_here false e scroll u kids through below one d is = ap (λ o. length (tops (drawn_at o u below))) d.named

  pub one_each : (above : RenderRole) (told : Option ParentData) (f : Forest Element) → AreDrawn at scrolled f → AllVanishAlone (listed (nodes_of scrolled f)) → length (tops (drawn above told f)) ≡ length (tops f)
  one_each above told none d v = refl
  one_each above told (tree h e kids rest) d v =
      let parent_data = told_at above told e.index in
      let through = drawn above (Some (told_by above (role_of e) parent_data)) kids in
      let below = drawn (role_of e) None kids in
      let front = cond (vanishes (role_of e)) through (drawn_at e.render (redraw_of e parent_data) below) in
      let here = one_here (vanishes (role_of e)) e (scrolled e.number) (redraw_of e parent_data) kids through below v.0.0 d.0 (one_each above (Some (told_by above (role_of e) parent_data)) kids d.1 v.0.1) in
      let later = one_each above told rest d.2 v.1 in
      let parts = tops_parts front (drawn above told rest) in
      omega (arith, here, later, parts)

pub only_top : (hs : List Handle) → length hs ≡ 1 → (k : Handle) × (hs ≡ k ∷ [])
only_top [] e = absurd (omega (arith, e))
only_top (k ∷ []) e = (k, refl)
only_top (k ∷ (j ∷ hs)) e = absurd (omega (arith, e))

-- ---- the flags of elements that go on

pub not_flagged : (f : Forest Element) → AreFlagged (λ number. is_marked [] number ≡ false) f
not_flagged none = tt
not_flagged (tree h e kids rest) = ((λ clean. refl), not_flagged kids, not_flagged rest)

pub none_flagged : (at : Handle → Option Element) (f : Forest Element) → AllGoOn at f → FlagsAre [] f
none_flagged at none go = tt
none_flagged at (tree h e kids rest) go = (go.0.clean, none_flagged at kids go.1, none_flagged at rest go.2)

-- ---- no tree has no render nodes

pub nothing_projected : renders_of none ≡ renders_listed (projected_all Plain None (listed []))
unfolding projected projected_all
nothing_projected = refl
