-- The render nodes of a screen of which one Viewport is scrolled.
use Rattle.std.proofs.Common.{◌≡◌, ap, refl, sym, ◌∙◌, ℕ, ◌==◌, Bool, true, false, cond, Option, Some, None, option_map, option_and_then, List, [], inl, inr, eqb-true, eq-eqb}
use Rattle.std.proofs.lemmas.Bool.{cases_Bool, false≢true}
use Rattle.std.specs.BTreeMap.{BTreeMap, get}
use Rattle.std.specs.Ordering.{nat_cmp}
use Rattle.fx_handles.specs.declared.Handle.{Handle}
use Rattle.fx_handles.specs.Handle.{same}
use Rattle.fx_handles.specs.HandleLaws.{same-true, same-false}
use Rattle.fx_handles.specs.ArenaLaws.{same_Some}
use Rattle.node_tree.specs.Forest.{TreeNode, Forest, Stands, set_value}
use Rattle.node_tree.specs.Forest.Forest.{none, tree}
use Rattle.node_tree.specs.Tree.{Tree, IsTree, node_at}
use Rattle.plain_tree.specs.declared.role.RenderRole.{RenderRole}
use Rattle.plain_tree.specs.declared.role.RenderRole.TheVariants.{Composes, Shares, Places, Line, Pile, Lazy, Window, Plain}
use Rattle.plain_tree.specs.Offsets.{rescrolled}
use Rattle.plain_tree.specs.Render.{render, Renders, more_renders}
use Rattle.plain_tree.specs.RenderRole.{render_role_of, is_window}
use Rattle.layout_form.specs.Corrected.{renders_scrolled_by}
use Rattle.tree_marks.specs.Marking.{at_top}
use Rattle.tree_marks.specs.Marks.{sweep}
use Rattle.render_tree.specs.Edits.{Writes, with_scroll}
use Rattle.render_tree.specs.Marked.{SetsMarks}
use Rattle.render_tree.specs.Marks.{layout_marks, paint_marks}
use Rattle.render_tree.specs.Object.{RenderObject, object_look, is_viewport}
use Rattle.render_tree.specs.Plain.{lazy_children, renders_of, root_tree}
use Rattle.render_tree.specs.Readings.{scroll_of}
use Rattle.render_tree.specs.Tree.{object_at}
use Rattle.screen_owner.specs.Last.{only_at}
use Rattle.screen_owner.specs.Standing.{IsScreenTree}
use Rattle.screen_owner.proofs.Bringing.{renders_layout, renders_paint}
use Rattle.screen_owner.proofs.Naming.{object_in}
use Rattle.screen_owner.proofs.Scrolling.{by_nothing}
use Rattle.screen_owner.proofs.Showing.{root_forest}

-- ---- one node

not_window : (role : RenderRole) (offset : Option ℕ) (before : ℕ) → is_window role ≡ false → rescrolled role offset before ≡ before
not_window Window offset before e = absurd (false≢true (sym e))
not_window Composes offset before e = refl
not_window (Shares flex tight) offset before e = refl
not_window (Places placed) offset before e = refl
not_window Line offset before e = refl
not_window Pile offset before e = refl
not_window Lazy offset before e = refl
not_window Plain offset before e = refl

of_a_window : (role : RenderRole) (offset before : ℕ) → is_window role ≡ true → rescrolled role (Some offset) before ≡ offset
of_a_window Window offset before e = refl
of_a_window Composes offset before e = absurd (false≢true e)
of_a_window (Shares flex tight) offset before e = absurd (false≢true e)
of_a_window (Places placed) offset before e = absurd (false≢true e)
of_a_window Line offset before e = absurd (false≢true e)
of_a_window Pile offset before e = absurd (false≢true e)
of_a_window Lazy offset before e = absurd (false≢true e)
of_a_window Plain offset before e = absurd (false≢true e)

-- how far a node stands scrolled after it
abbrev offset_after : ℕ → ℕ → RenderObject → ℕ
offset_after number scroll o = rescrolled (render_role_of (object_look o)) (only_at number scroll o.number) o.scroll

stays : (number scroll : ℕ) (o : RenderObject) → (o.number ≡ number → is_viewport o ≡ true → ⊥) → offset_after number scroll o ≡ o.scroll
stays number scroll o other = by_test (o.number == number) refl
  where
    by_view : (v : Bool) → is_viewport o ≡ v → o.number ≡ number → offset_after number scroll o ≡ o.scroll
    by_view true v is = absurd (other is v)
    by_view false v is = not_window (render_role_of (object_look o)) (only_at number scroll o.number) o.scroll v

    by_test : (b : Bool) → (o.number == number) ≡ b → offset_after number scroll o ≡ o.scroll
    by_test true e = by_view (is_viewport o) refl (eqb-true o.number number e)
    by_test false e =
        ap (λ (b : Bool). rescrolled (render_role_of (object_look o)) (cond {A = Option ℕ} b (Some scroll) None) o.scroll) e
        ∙ by_nothing (render_role_of (object_look o)) o.scroll

moves : (number scroll : ℕ) (o : RenderObject) → o.number ≡ number → is_viewport o ≡ true → offset_after number scroll o ≡ scroll
moves number scroll o is view =
    ap (λ (b : Bool). rescrolled (render_role_of (object_look o)) (cond {A = Option ℕ} b (Some scroll) None) o.scroll) (eq-eqb o.number number is)
    ∙ of_a_window (render_role_of (object_look o)) scroll o.scroll view

-- ---- a forest

module _ (at : Handle → Option (TreeNode RenderObject)) (number scroll : ℕ) where
  all_stay : ((k : Handle) (o : RenderObject) → object_in at k ≡ Some o → o.number ≡ number → is_viewport o ≡ true → ⊥) → (q : Option Handle) (f : Forest RenderObject) → Stands at q f
      → renders_of f ≡ renders_scrolled_by (only_at number scroll) (renders_of f)
  all_stay others q none stands = refl
  all_stay others q (tree h v below rest) stands =
      λ i. more_renders
      (render v.number (object_look v) v.parent_data (sym (stays number scroll v (others h v (ap (option_map (λ (n : TreeNode RenderObject). n.value)) stands.0))) i) (lazy_children v)
      (all_stay others (Some h) below stands.1 i))
      (all_stay others q rest stands.2 i)

  -- one node is set, and the others stay
  module _ (k : Handle) (o : RenderObject) (there : object_in at k ≡ Some o) (is : o.number ≡ number) (view : is_viewport o ≡ true)
      (others : (h : Handle) (v : RenderObject) → object_in at h ≡ Some v → same h k ≡ false → v.number ≡ number → ⊥) where
    set_here : (h : Handle) (v : RenderObject) → object_in at h ≡ Some v → (below : Renders)
        → (let w = cond (same h k) (with_scroll scroll o) v in render w.number (object_look w) w.parent_data w.scroll (lazy_children w) below)
        ≡ render v.number (object_look v) v.parent_data (offset_after number scroll v) (lazy_children v) below
    set_here h v here below = elim (cases_Bool (same h k)) [
      | inl s ↦
          let value : v ≡ o = same_Some (sym here ∙ (ap (object_in at) (same-true h k s) ∙ there)) in
          ap (λ (b : Bool). let w = cond b (with_scroll scroll o) v in render w.number (object_look w) w.parent_data w.scroll (lazy_children w) below) s
          ∙ (ap (λ (n : ℕ). render o.number (object_look o) o.parent_data n (lazy_children o) below) (sym (moves number scroll o is view))
          ∙ ap (λ (x : RenderObject). render x.number (object_look x) x.parent_data (offset_after number scroll x) (lazy_children x) below) (sym value))
      | inr s ↦
          ap (λ (b : Bool). let w = cond b (with_scroll scroll o) v in render w.number (object_look w) w.parent_data w.scroll (lazy_children w) below) s
          ∙ ap (λ (n : ℕ). render v.number (object_look v) v.parent_data n (lazy_children v) below) (sym (stays number scroll v (λ number_is is_view. others h v here s number_is)))
    ]

    one_set : (q : Option Handle) (f : Forest RenderObject) → Stands at q f → renders_of (set_value k (with_scroll scroll o) f) ≡ renders_scrolled_by (only_at number scroll) (renders_of f)
    one_set q none stands = refl
    one_set q (tree h v below rest) stands =
        ap (λ (rs : Renders). more_renders (let w = cond (same h k) (with_scroll scroll o) v in render w.number (object_look w) w.parent_data w.scroll (lazy_children w) rs)
        (renders_of (set_value k (with_scroll scroll o) rest))) (one_set (Some h) below stands.1)
        ∙ (λ i. more_renders (set_here h v (ap (option_map (λ (n : TreeNode RenderObject). n.value)) stands.0) (renders_scrolled_by (only_at number scroll) (renders_of below)) i)
        (one_set q rest stands.2 i))

-- ---- the screen

module _ (numbers : BTreeMap ℕ Handle) (t : Tree RenderObject) (ready : IsScreenTree numbers t) (is : IsTree t) (number scroll : ℕ) where
  -- a node with the number is the one in the index
  found : (k : Handle) (o : RenderObject) → object_at t k ≡ Some o → o.number ≡ number → get nat_cmp numbers number ≡ Some k
  found k o there is_number = ready.numbering.to_index number k (ap (option_map (λ (x : RenderObject). x.number)) there ∙ ap Some is_number)

  no_some : {A : Type 0} (a : A) → Some a ≡ None → ⊥
  no_some a e = cc

  unscrolled : ((k : Handle) (o : RenderObject) → object_at t k ≡ Some o → o.number ≡ number → is_viewport o ≡ true → ⊥)
      → renders_of (root_tree t) ≡ renders_scrolled_by (only_at number scroll) (renders_of (root_tree t))
  unscrolled others =
      let root = root_forest t is.0 ready.alone is.1 in
      ap renders_of root ∙ (all_stay (node_at t) number scroll others None is.0 is.1.stands
      ∙ ap (λ (f : Forest RenderObject). renders_scrolled_by (only_at number scroll) (renders_of f)) (sym root))

  pub renders_missing : get nat_cmp numbers number ≡ None → renders_of (root_tree t) ≡ renders_scrolled_by (only_at number scroll) (renders_of (root_tree t))
  renders_missing missing = unscrolled (λ k o there is_number view. no_some k (sym (found k o there is_number) ∙ missing))

  pub renders_other : (h : Handle) → get nat_cmp numbers number ≡ Some h → option_and_then scroll_of (object_at t h) ≡ None
      → renders_of (root_tree t) ≡ renders_scrolled_by (only_at number scroll) (renders_of (root_tree t))
  renders_other h there still = unscrolled (λ k o at is_number view.
      no_some o.scroll (sym (ap (λ (b : Bool). cond {A = Option ℕ} b (Some o.scroll) None) view)
      ∙ (sym (ap (option_and_then scroll_of) (ap (object_at t) (same_Some (sym there ∙ found k o at is_number)) ∙ at)) ∙ still)))

  pub renders_written : (mid new : Tree RenderObject) (h : Handle) (o : RenderObject) (hs : List Handle) → get nat_cmp numbers number ≡ Some h → object_at t h ≡ Some o → is_viewport o ≡ true
      → Writes t mid h (with_scroll scroll o) → SetsMarks layout_marks true hs mid new
      → renders_of (root_tree new) ≡ renders_scrolled_by (only_at number scroll) (renders_of (root_tree t))
  renders_written mid new h o hs there at view writes sets =
      let number_is : o.number ≡ number = same_Some (sym (ap (option_map (λ (x : RenderObject). x.number)) at) ∙ ready.numbering.to_node number h there) in
      ap renders_of (root_forest new (sweep layout_marks true hs at_top (set_value h (with_scroll scroll o) is.0)) (sets.inactive ∙ (writes.inactive ∙ ready.alone))
      (sets.plain (set_value h (with_scroll scroll o) is.0) (writes.plain is.0 is.1)))
      ∙ (renders_layout true hs at_top (set_value h (with_scroll scroll o) is.0)
      ∙ (one_set (node_at t) number scroll h o at number_is view
      (λ k v here other is_number. same-false k h other (same_Some (sym (found k v here is_number) ∙ there))) None is.0 is.1.stands
      ∙ ap (λ (f : Forest RenderObject). renders_scrolled_by (only_at number scroll) (renders_of f)) (sym (root_forest t is.0 ready.alone is.1))))

-- marks are no part of a render node
pub renders_marked : (old mid new : Tree RenderObject) → old.inactive ≡ [] → IsTree old → (hs ks : List Handle) → SetsMarks layout_marks true hs old mid → SetsMarks paint_marks true ks mid new
    → renders_of (root_tree new) ≡ renders_of (root_tree old)
renders_marked old mid new alone is hs ks laid painted =
    ap renders_of (root_forest new (sweep paint_marks true ks at_top (sweep layout_marks true hs at_top is.0)) (painted.inactive ∙ (laid.inactive ∙ alone))
    (painted.plain (sweep layout_marks true hs at_top is.0) (laid.plain is.0 is.1)))
    ∙ (renders_paint true ks at_top (sweep layout_marks true hs at_top is.0)
    ∙ (renders_layout true hs at_top is.0 ∙ ap renders_of (sym (root_forest old is.0 alone is.1))))
