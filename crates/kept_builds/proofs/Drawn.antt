-- Render nodes that are a projection are drawn as the elements say: each stands at the handle that its element names, with the element's
-- number, and scrolled as far as the tree says.
use Rattle.std.proofs.Common.{◌≡◌, ◌⊎◌, ℕ, zero, suc, Bool, true, false, cond, IsSome, Option, Some, None, option_map, List, [], ◌∷◌, ◌++◌, refl, sym, ap, ◌∙◌, subst, inl, inr, arith}
use Rattle.fx_handles.specs.declared.Handle.{Handle}
use Rattle.fx_handles.specs.Handle.{same}
use Rattle.fx_handles.specs.HandleLaws.{same-true}
use Rattle.node_tree.specs.Forest.{TreeNode, Forest, count, In, Stands}
use Rattle.node_tree.specs.Forest.Forest.{none, tree}
use Rattle.node_tree.specs.Tree.{Tree, Is, IsNode, node_at}
use Rattle.widget_model.specs.Plain.{look_of}
use Rattle.widget_model.specs.Plain.{children_of as child_widgets}
use Rattle.plain_tree.specs.declared.render.ParentData.{ParentData}
use Rattle.plain_tree.specs.declared.role.RenderRole.{RenderRole}
use Rattle.plain_tree.specs.Laws.{AllDiffer, render_numbers_of, render_numbers_in}
use Rattle.plain_tree.specs.PlainNode.{nodes_of as listed}
use Rattle.plain_tree.specs.Projection.{told_by, told_at, scroll_in, projected, projected_all}
use Rattle.plain_tree.specs.Render.{Render, render, Renders, no_renders, more_renders, renders_of as renders_listed, lazy_count}
use Rattle.plain_tree.specs.RenderRole.{vanishes}
use Rattle.plain_tree.proofs.Numbers.{IsIn, in_left, in_right, differs, apart, differ_left, differ_right}
use Rattle.element_tree.specs.Element.{Element}
use Rattle.element_tree.specs.Nodes.{nodes_of}
use Rattle.render_tree.specs.Object.{RenderObject}
use Rattle.render_tree.specs.Plain.{renders_of}
use Rattle.render_tree.specs.Tree.{object_at}
use Rattle.build_walk.specs.Renewing.{role_of, IsDrawn, Unless, AreDrawn}
use Rattle.kept_builds.specs.Projected.{KeepsNumbers}

-- ---- a render node with a number is scrolled so far

abbrev mutual
  pub HasScroll : ℕ → ℕ → Render → Type 0
  HasScroll n s (render number look told scroll count children) = ((number ≡ n) × (scroll ≡ s)) ⊎ SomeHasScroll n s children

  pub SomeHasScroll : ℕ → ℕ → Renders → Type 0
  SomeHasScroll n s no_renders = ⊥
  SomeHasScroll n s (more_renders r rs) = HasScroll n s r ⊎ SomeHasScroll n s rs

mutual
  numbered : (n s : ℕ) (r : Render) → HasScroll n s r → IsIn n (render_numbers_of r)
  numbered n s (render number look told scroll count children) (inl h) = inl (sym h.0)
  numbered n s (render number look told scroll count children) (inr h) = inr (all_numbered n s children h)

  all_numbered : (n s : ℕ) (rs : Renders) → SomeHasScroll n s rs → IsIn n (render_numbers_in rs)
  all_numbered n s no_renders h = absurd h
  all_numbered n s (more_renders r rs) (inl h) = in_left n (render_numbers_of r) (render_numbers_in rs) (numbered n s r h)
  all_numbered n s (more_renders r rs) (inr h) = in_right n (render_numbers_of r) (render_numbers_in rs) (all_numbered n s rs h)

mutual
  one_scroll : (n a b : ℕ) (r : Render) → AllDiffer (render_numbers_of r) → HasScroll n a r → HasScroll n b r → a ≡ b
  one_scroll n a b (render number look told scroll count children) d (inl h) (inl g) = sym h.1 ∙ g.1
  one_scroll n a b (render number look told scroll count children) d (inl h) (inr g) = absurd (differs number n (render_numbers_in children) d.0 (all_numbered n b children g) h.0)
  one_scroll n a b (render number look told scroll count children) d (inr h) (inl g) = absurd (differs number n (render_numbers_in children) d.0 (all_numbered n a children h) g.0)
  one_scroll n a b (render number look told scroll count children) d (inr h) (inr g) = only_scroll n a b children d.1 h g

  pub only_scroll : (n a b : ℕ) (rs : Renders) → AllDiffer (render_numbers_in rs) → SomeHasScroll n a rs → SomeHasScroll n b rs → a ≡ b
  only_scroll n a b no_renders d h g = absurd h
  only_scroll n a b (more_renders r rs) d (inl h) (inl g) = one_scroll n a b r (differ_left (render_numbers_of r) (render_numbers_in rs) d) h g
  only_scroll n a b (more_renders r rs) d (inl h) (inr g) = absurd (apart n (render_numbers_of r) (render_numbers_in rs) d (numbered n a r h) (all_numbered n b rs g))
  only_scroll n a b (more_renders r rs) d (inr h) (inl g) = absurd (apart n (render_numbers_of r) (render_numbers_in rs) d (numbered n b r g) (all_numbered n a rs h))
  only_scroll n a b (more_renders r rs) d (inr h) (inr g) = only_scroll n a b rs (differ_right (render_numbers_of r) (render_numbers_in rs) d) h g

-- ---- so it is of the node at each handle

abbrev object_in : Option (TreeNode RenderObject) → Option RenderObject
object_in q = option_map (λ (n : TreeNode RenderObject). n.value) q

object_is : (x y : RenderObject) → Some x ≡ Some y → x ≡ y
object_is x y e = cc

-- where a handle stands in a forest
in_parts : (k h : Handle) (y : RenderObject) (kids rest : Forest RenderObject) (P : Type 0) → In k (tree h y kids rest) → (h ≡ k → P) → (In k kids → P) → (In k rest → P) → P
in_parts k h y kids rest P i own below later = by_same (same h k) refl
  where
    by_kids : (n : ℕ) → count k kids ≡ n → same h k ≡ false → P
    by_kids zero z s = later (omega (arith, i, z, ap (λ b. cond {A = ℕ} b 1 0) s))
    by_kids (suc n) z s = below (omega (arith, z))

    by_same : (b : Bool) → same h k ≡ b → P
    by_same true s = own (same-true h k s)
    by_same false s = by_kids (count k kids) refl s

pub at_handle : (at : Handle → Option (TreeNode RenderObject)) (p : Option Handle) (f : Forest RenderObject) (k : Handle) (o : RenderObject) → Stands at p f → object_in (at k) ≡ Some o → In k f
    → SomeHasScroll o.number o.scroll (renders_of f)
at_handle at p none k o stands stored i = absurd (omega (arith, i))
at_handle at p (tree h v below rest) k o stands stored i =
    in_parts k h v below rest (SomeHasScroll o.number o.scroll (renders_of (tree h v below rest))) i
    (λ own.
    let is : v ≡ o = object_is v o (sym (ap object_in stands.0) ∙ ap (λ x. object_in (at x)) own ∙ stored) in
    inl (inl (ap (λ (x : RenderObject). x.number) is, ap (λ (x : RenderObject). x.scroll) is)))
    (λ inner. inl (inr (at_handle at (Some h) below k o stands.1 stored inner)))
    (λ later. inr (at_handle at p rest k o stands.2 stored later))

-- ---- what the projection has of each element

in_front : (n s : ℕ) (xs ys : List Render) → SomeHasScroll n s (renders_listed xs) → SomeHasScroll n s (renders_listed (xs ++ ys))
in_front n s [] ys h = absurd h
in_front n s (x ∷ xs) ys (inl h) = inl h
in_front n s (x ∷ xs) ys (inr h) = inr (in_front n s xs ys h)

in_back : (n s : ℕ) (xs ys : List Render) → SomeHasScroll n s (renders_listed ys) → SomeHasScroll n s (renders_listed (xs ++ ys))
in_back n s [] ys h = h
in_back n s (x ∷ xs) ys h = inr (in_back n s xs ys h)

module _ (r s : Tree RenderObject) (keeps : KeepsNumbers r s) (scrolled now : ℕ → ℕ) (objects : Forest RenderObject) (is : Is s objects) (differ : AllDiffer (render_numbers_in (renders_of objects))) where
  -- a node that was there has one object now, of the same number
  kept_by : (o : Option RenderObject) (n : ℕ) → option_map (λ (x : RenderObject). x.number) o ≡ Some n → (x : RenderObject) × (o ≡ Some x) × (x.number ≡ n)
  kept_by None n e = absurd (cc)
  kept_by (Some x) n e = (x, refl, number_same)
    where
      number_same : x.number ≡ n
      number_same = cc

  live_in : (k : Handle) (o : Option (TreeNode RenderObject)) (x : RenderObject) → node_at s k ≡ o → object_in o ≡ Some x → IsNode s k
  live_in k None x at e = absurd (cc)
  live_in k (Some n) x at e = subst IsSome (sym at) refl

  -- what the projection says of a number is so at the handle
  drawn_there : (e : Element) → IsDrawn (object_at r) (scrolled e.number) e → SomeHasScroll e.number (scroll_in (role_of e) (now e.number)) (renders_of objects) → IsDrawn (object_at s) (now e.number) e
  drawn_there e d has =
      let x = kept_by (object_at s d.handle) e.number (keeps d.handle ∙ ap (option_map (λ (o : RenderObject). o.number)) d.stored ∙ ap (λ n. Some n) d.number) in
      let there = at_handle (node_at s) None objects d.handle x.0 is.stands x.1 (is.whole d.handle (live_in d.handle (node_at s d.handle) x.0 refl x.1)) in
      record {
        handle = d.handle;
        named = d.named;
        object = x.0;
        stored = x.1;
        number = x.2;
        scrolled = only_scroll e.number x.0.scroll (scroll_in (role_of e) (now e.number)) (renders_of objects) differ (subst (λ n. SomeHasScroll n x.0.scroll (renders_of objects)) x.2 there) has;
      }

  abbrev Holds : List Render → Type 0
  Holds rs = (n scroll : ℕ) → SomeHasScroll n scroll (renders_listed rs) → SomeHasScroll n scroll (renders_of objects)

  by_role : (b : Bool) (e : Element) (through own : List Render) (Below : Type 0) → (Holds through → Below) → (Holds own → (IsDrawn (object_at r) (scrolled e.number) e → IsDrawn (object_at s) (now e.number) e) × Below)
      → Holds (cond b through own) → Unless b (IsDrawn (object_at r) (scrolled e.number) e) → Unless b (IsDrawn (object_at s) (now e.number) e) × Below
  by_role true e through own Below go_through go_own holds d = (tt, go_through holds)
  by_role false e through own Below go_through go_own holds d = let parts = go_own holds in (parts.0 d, parts.1)

  pub drawn_so : (above : RenderRole) (told : Option ParentData) (f : Forest Element) → Holds (projected_all above told (listed (nodes_of now f))) → AreDrawn (object_at r) scrolled f → AreDrawn (object_at s) now f
  unfolding projected projected_all
  drawn_so above told none holds d = tt
  drawn_so above told (tree h e kids rest) holds d =
      let parent_data = told_at above told e.index in
      let through = projected_all above (Some (told_by above (role_of e) parent_data)) (listed (nodes_of now kids)) in
      let below = projected_all (role_of e) None (listed (nodes_of now kids)) in
      let own = render e.number (look_of e.widget) parent_data (scroll_in (role_of e) (now e.number)) (lazy_count (role_of e) (child_widgets e.widget)) (renders_listed below) ∷ [] in
      let front = cond (vanishes (role_of e)) through own in
      let later = projected_all above told (listed (nodes_of now rest)) in
      let here = by_role (vanishes (role_of e)) e through own (AreDrawn (object_at s) now kids)
      (λ go. drawn_so above (Some (told_by above (role_of e) parent_data)) kids go d.1)
      (λ go. (
        (λ p. drawn_there e p (go e.number (scroll_in (role_of e) (now e.number)) (inl (inl (refl, refl))))),
        drawn_so (role_of e) None kids (λ n scroll h. go n scroll (inl (inr h))) d.1,
      ))
      (λ n scroll h. holds n scroll (in_front n scroll front later h)) d.0 in
      (here.0, here.1, drawn_so above told rest (λ n scroll h. holds n scroll (in_back n scroll front later h)) d.2)
