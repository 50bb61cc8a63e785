-- The tests of plain render nodes decide what a plan leaves as it was.
use Rattle.std.proofs.Common.{◌≡◌, ℕ, eqb, Bool, true, false, ◌&&◌, Option, Some, List, ◌∷◌, refl, sym, ap, ◌∙◌, Decides}
use Rattle.std.specs.Cmp.{unsigned_Decides}
use lib.Pointwise.{pointwise}
use Rattle.fx_handles.specs.declared.Handle.{Handle}
use Rattle.node_tree.specs.Forest.{Forest, tops}
use Rattle.node_tree.specs.Forest.Forest.{none, tree}
use Rattle.widget_model.specs.Look.{Look}
use Rattle.plain_tree.specs.declared.render.ParentData.{ParentData}
use Rattle.work_roles.specs.ForLayout.{for_layout}
use Rattle.work_sets.specs.Layout.{is_told_same, list_below, is_child_same, is_same_for_layout}
use Rattle.work_sets.specs.Members.{is_same_look}
use Rattle.work_sets.specs.Paint.{numbers_below, is_same_for_paint}
use Rattle.render_tree.specs.Marks.{LayoutOwn, layout_own}
use Rattle.render_tree.specs.Object.{RenderObject, object_look}
use Rattle.render_tree.specs.Plain.{lazy_children, renders_of}
use Rattle.build_walk.specs.Changing.{render_over, AreNumbered, TellsApart, AreToldSame, KeepsForLayout, KeepsForPaint}
use Rattle.build_walk.proofs.Keeping.{both}

both_true : (a b : Bool) → a ≡ true → b ≡ true → (a && b) ≡ true
both_true true b e f = f
both_true false b e f = cc

same_numbers : (h k : Handle) (m n : ℕ) (numbered : Handle → Option ℕ) → numbered h ≡ Some m → numbered k ≡ Some n → h ≡ k → m ≡ n
same_numbers h k m n numbered p q e = let x = ap numbered e in cc

head_same : (h k : Handle) (hs ks : List Handle) → h ∷ hs ≡ k ∷ ks → (h ≡ k) × (hs ≡ ks)
head_same h k hs ks e = (cc, cc)

module _ (told_same : (a b : ParentData) → Decides (is_told_same a b) (a ≡ b)) (look_same : (a b : Look) → Decides (is_same_look a b) (a ≡ b))
    (numbered : Handle → Option ℕ) (apart : TellsApart numbered) where
  -- ---- the lists of children

  lists_same : (was now : Forest RenderObject) → AreNumbered numbered was → AreNumbered numbered now
      → pointwise is_child_same (list_below (renders_of was)) (list_below (renders_of now)) ≡ true → (tops now ≡ tops was) × AreToldSame was now
  lists_same none none m n e = (refl, tt)
  lists_same none (tree k w below rest) m n e = cc
  lists_same (tree h v kids more) none m n e = cc
  lists_same (tree h v kids more) (tree k w below rest) m n e =
      let split = both (is_child_same (v.number, v.parent_data) (w.number, w.parent_data)) (pointwise is_child_same (list_below (renders_of more)) (list_below (renders_of rest))) e in
      let here = both (eqb v.number w.number) (is_told_same v.parent_data w.parent_data) split.0 in
      let number : v.number ≡ w.number = (unsigned_Decides v.number w.number).0 here.0 in
      let handle : k ≡ h = apart k h v.number (n.0 ∙ ap (λ x. Some x) (sym number)) m.0 in
      let later = lists_same more rest m.1 n.1 split.1 in
      ((λ i. handle i ∷ later.0 i), ((told_same v.parent_data w.parent_data).0 here.1, later.1))

  same_lists : (was now : Forest RenderObject) → AreNumbered numbered was → AreNumbered numbered now → tops now ≡ tops was → AreToldSame was now
      → pointwise is_child_same (list_below (renders_of was)) (list_below (renders_of now)) ≡ true
  same_lists none none m n e t = refl
  same_lists none (tree k w below rest) m n e t = absurd t
  same_lists (tree h v kids more) none m n e t = absurd t
  same_lists (tree h v kids more) (tree k w below rest) m n e t =
      let handles = head_same k h (tops rest) (tops more) e in
      both_true (is_child_same (v.number, v.parent_data) (w.number, w.parent_data)) (pointwise is_child_same (list_below (renders_of more)) (list_below (renders_of rest)))
      (both_true (eqb v.number w.number) (is_told_same v.parent_data w.parent_data)
      ((unsigned_Decides v.number w.number).1 (same_numbers h k v.number w.number numbered m.0 n.0 (sym handles.0))) ((told_same v.parent_data w.parent_data).1 t.0))
      (same_lists more rest m.1 n.1 handles.1 t.1)

  numbers_same : (was now : Forest RenderObject) → AreNumbered numbered was → AreNumbered numbered now
      → pointwise eqb (numbers_below (renders_of was)) (numbers_below (renders_of now)) ≡ true → tops now ≡ tops was
  numbers_same none none m n e = refl
  numbers_same none (tree k w below rest) m n e = cc
  numbers_same (tree h v kids more) none m n e = cc
  numbers_same (tree h v kids more) (tree k w below rest) m n e =
      let split = both (eqb v.number w.number) (pointwise eqb (numbers_below (renders_of more)) (numbers_below (renders_of rest))) e in
      let number : v.number ≡ w.number = (unsigned_Decides v.number w.number).0 split.0 in
      let handle : k ≡ h = apart k h v.number (n.0 ∙ ap (λ x. Some x) (sym number)) m.0 in
      let later = numbers_same more rest m.1 n.1 split.1 in
      λ i. handle i ∷ later i

  same_list : (was now : Forest RenderObject) → AreNumbered numbered was → AreNumbered numbered now → tops now ≡ tops was
      → pointwise eqb (numbers_below (renders_of was)) (numbers_below (renders_of now)) ≡ true
  same_list none none m n e = refl
  same_list none (tree k w below rest) m n e = cc
  same_list (tree h v kids more) none m n e = cc
  same_list (tree h v kids more) (tree k w below rest) m n e =
      let handles = head_same k h (tops rest) (tops more) e in
      both_true (eqb v.number w.number) (pointwise eqb (numbers_below (renders_of more)) (numbers_below (renders_of rest)))
      ((unsigned_Decides v.number w.number).1 (same_numbers h k v.number w.number numbered m.0 n.0 (sym handles.0)))
      (same_list more rest m.1 n.1 handles.1)

  -- ---- a node

  module _ (o : RenderObject) (was : Forest RenderObject) (w : RenderObject) (now : Forest RenderObject) (m : AreNumbered numbered was) (n : AreNumbered numbered now) where
    abbrev looks : Bool
    looks = is_same_look (for_layout (object_look o)) (for_layout (object_look w))

    abbrev children : Bool
    children = pointwise is_child_same (list_below (renders_of was)) (list_below (renders_of now))

    own_same : w.scroll ≡ o.scroll → for_layout (object_look o) ≡ for_layout (object_look w) → lazy_children o ≡ lazy_children w → layout_own w ≡ layout_own o
    own_same scroll l c = λ i. record { look = sym l i; scroll = scroll i; count = sym c i }

    pub for_layout_decided : w.scroll ≡ o.scroll → Decides (is_same_for_layout (render_over o was) (render_over w now)) (KeepsForLayout o was w now)
    for_layout_decided scroll = (
      (λ e.
          let split = both looks (children && eqb (lazy_children o) (lazy_children w)) e in
          let later = both children (eqb (lazy_children o) (lazy_children w)) split.1 in
          let lists = lists_same was now m n later.0 in
          record {
            own = own_same scroll ((look_same _ _).0 split.0) ((unsigned_Decides (lazy_children o) (lazy_children w)).0 later.1);
            list = lists.0;
            told = lists.1;
          }),
      (λ k.
          both_true looks (children && eqb (lazy_children o) (lazy_children w)) ((look_same _ _).1 (sym (ap (λ (x : LayoutOwn). x.look) k.own)))
          (both_true children (eqb (lazy_children o) (lazy_children w)) (same_lists was now m n k.list k.told)
          ((unsigned_Decides (lazy_children o) (lazy_children w)).1 (sym (ap (λ (x : LayoutOwn). x.count) k.own))))),
    )

    pub for_paint_decided : Decides (is_same_for_paint (render_over o was) (render_over w now)) (KeepsForPaint o was w now)
    for_paint_decided = (
      (λ e.
          let split = both (is_same_look (object_look o) (object_look w)) (pointwise eqb (numbers_below (renders_of was)) (numbers_below (renders_of now))) e in
          record { look = sym ((look_same _ _).0 split.0); list = numbers_same was now m n split.1 }),
      (λ k.
          both_true (is_same_look (object_look o) (object_look w)) (pointwise eqb (numbers_below (renders_of was)) (numbers_below (renders_of now)))
          ((look_same _ _).1 (sym k.look)) (same_list was now m n k.list)),
    )
