-- A node that changes is changed by the words of the work sets.
use Rattle.std.proofs.Common.{◌≡◌, ℕ, eqb, Bool, true, false, not, ◌||◌, ◌&&◌, cond, Option, Some, None, option_map, ◌⊎◌, inl, inr, refl, sym, ap, ◌∙◌, subst, Decides}
use Rattle.std.specs.Option.{option_or}
use borrow.Author.Tests.{eqb-true}
use Rattle.fx_handles.specs.declared.Handle.{Handle}
use Rattle.node_tree.specs.Forest.{Forest, TreeNode, tops, Stands}
use Rattle.node_tree.specs.Forest.Forest.{none, tree}
use Rattle.node_tree.specs.Plan.{IsUpdated}
use Rattle.node_tree.specs.Tree.{Tree, node_at, children_of}
use Rattle.widget_model.specs.Look.{Look}
use Rattle.plain_tree.specs.declared.render.ParentData.{ParentData}
use Rattle.work_roles.specs.Place.{RegionPlace, below}
use Rattle.work_roles.specs.WorkRole.{is_offstage}
use Rattle.work_sets.specs.Before.{Before, is_touched}
use Rattle.work_sets.specs.InTree.{Standing, standing_at, standing_in, standing}
use Rattle.work_sets.specs.Layout.{is_told_same, is_same_for_layout, is_changed_root, is_changed_since, is_changed}
use Rattle.work_sets.specs.Members.{is_same_look}
use Rattle.work_sets.specs.Paint.{is_same_for_paint, differs_since}
use Rattle.render_tree.specs.Object.{RenderObject, object_look}
use Rattle.render_tree.specs.Plain.{renders_of}
use Rattle.render_tree.specs.Redraw.{Redraw, redrawn}
use Rattle.render_tree.specs.Tree.{object_at}
use Rattle.build_walk.specs.Changing.{render_over, AreNumbered, TellsApart, AreStored, StoodBelow, AreSizedSame, ChangesForLayout, ChangesForPaint, object_number}
use Rattle.build_walk.proofs.Changing.{for_layout_decided, for_paint_decided}

module _ (t : Tree RenderObject) where
  -- ---- what stands in the tree

  stored_tops : (p : Option Handle) (f : Forest RenderObject) → Stands (node_at t) p f → AreStored t f
  stored_tops p none s = tt
  stored_tops p (tree h o kids rest) s = (ap (option_map (λ (n : TreeNode RenderObject). n.value)) s.0, stored_tops p rest s.2)

  pub record FoundAt (wanted : ℕ) (st : Standing) : Type 0 where
    pub handle : Handle
    pub object : RenderObject
    pub under : Forest RenderObject
    pub node : st.node ≡ render_over object under
    pub number : object.number ≡ wanted
    pub stored : object_at t handle ≡ Some object
    pub stood : StoodBelow t handle under

  some_same : {A : Type 0} (x y : A) → Some x ≡ Some y → x ≡ y
  some_same x y e = cc

  this_found : (wanted : ℕ) (q : RegionPlace) (p : Option Handle) (h : Handle) (o : RenderObject) (kids : Forest RenderObject) (st : Standing) (b : Bool) (other : Option Standing)
      → eqb o.number wanted ≡ b → node_at t h ≡ Some (record { parent = p; children = tops kids; value = o }) → Stands (node_at t) (Some h) kids
      → (other ≡ Some st → FoundAt wanted st) → cond b (Some (record { place = q; node = render_over o kids })) other ≡ Some st → FoundAt wanted st
  this_found wanted q p h o kids st true other is at stands go e = record {
    handle = h;
    object = o;
    under = kids;
    node = sym (ap (λ (x : Standing). x.node) (some_same _ st e));
    number = eqb-true o.number wanted is;
    stored = ap (option_map (λ (n : TreeNode RenderObject). n.value)) at;
    stood = record { list = sym (ap children_of at); stored = stored_tops (Some h) kids stands };
  }
  this_found wanted q p h o kids st false other is at stands go e = go e

  either_found : (wanted : ℕ) (st : Standing) (a b : Option Standing) → (a ≡ Some st → FoundAt wanted st) → (b ≡ Some st → FoundAt wanted st) → option_or a b ≡ Some st → FoundAt wanted st
  either_found wanted st (Some x) b f g e = f e
  either_found wanted st None b f g e = g e

  found_in : (wanted : ℕ) (q : RegionPlace) (p : Option Handle) (f : Forest RenderObject) (st : Standing) → Stands (node_at t) p f → standing_in wanted q (renders_of f) ≡ Some st → FoundAt wanted st
  found_in wanted q p none st s e = cc
  found_in wanted q p (tree h o kids rest) st s e =
      either_found wanted st _ _
      (λ here. this_found wanted q p h o kids st (eqb o.number wanted) (standing_in wanted (below q (object_look o)) (renders_of kids)) refl s.0 s.1
      (λ under. found_in wanted (below q (object_look o)) (Some h) kids st s.1 under) here)
      (λ later. found_in wanted q p rest st s.2 later) e

  -- ---- numbers

  this_number : (x k : Handle) (y : Redraw) (w : RenderObject) → x ≡ k → (o : Option RenderObject) → object_at t x ≡ o → option_map (redrawn y) (object_at t x) ≡ Some w → object_number t k ≡ Some w.number
  this_number x k y w e None is made = let bad = ap (option_map (redrawn y)) is in cc
  this_number x k y w e (Some o) is made =
      let w_is : redrawn y o ≡ w = some_same (redrawn y o) w (sym (ap (option_map (redrawn y)) is) ∙ made) in
      ap (object_number t) (sym e) ∙ ap (option_map (λ (v : RenderObject). v.number)) is ∙ ap (λ (v : RenderObject). Some v.number) w_is

  pub updated_numbered : (d : Forest Redraw) (g : Forest RenderObject) → IsUpdated redrawn (object_at t) d g → AreNumbered (object_number t) g
  updated_numbered none none u = tt
  updated_numbered none (tree k w under rest) u = absurd u
  updated_numbered (tree x y kids more) none u = absurd u
  updated_numbered (tree x y kids more) (tree k w under rest) u = (this_number x k y w u.0 (object_at t x) refl u.1, updated_numbered more rest u.3)

  stored_numbered : (f : Forest RenderObject) → AreStored t f → AreNumbered (object_number t) f
  stored_numbered none s = tt
  stored_numbered (tree h o kids rest) s = (ap (option_map (λ (v : RenderObject). v.number)) s.0, stored_numbered rest s.1)

  -- ---- a node that changes

  module _ (told_same : (a b : ParentData) → Decides (is_told_same a b) (a ≡ b)) (look_same : (a b : Look) → Decides (is_same_look a b) (a ≡ b))
      (apart : TellsApart (object_number t)) (before : Before) (top : Handle) (root : RenderObject) (kids : Forest RenderObject) (stands : Stands (node_at t) None (tree top root kids none))
      (was_tree : before.tree ≡ Some (render_over root kids)) (h : Handle) (o w : RenderObject) (now : Forest RenderObject) (at : object_at t h ≡ Some o) (number : w.number ≡ o.number)
      (numbered : AreNumbered (object_number t) now) where
    -- what stood with the node's number is what stands at its handle
    pub record WasHere (st : Standing) : Type 0 where
      pub under : Forest RenderObject
      pub node : st.node ≡ render_over o under
      pub stood : StoodBelow t h under

    here_when : (q : RegionPlace) (st : Standing) → standing_at w.number q (render_over root kids) ≡ Some st → WasHere st
    here_when q st e =
        let f = this_found w.number q None top root kids st (eqb root.number w.number) (standing_in w.number (below q (object_look root)) (renders_of kids)) refl stands.0 stands.1
        (λ under. found_in w.number (below q (object_look root)) (Some top) kids st stands.1 under) e in
        let same : f.handle ≡ h =
        apart f.handle h w.number (ap (option_map (λ (v : RenderObject). v.number)) f.stored ∙ ap (λ n. Some n) f.number)
        (ap (option_map (λ (v : RenderObject). v.number)) at ∙ ap (λ n. Some n) (sym number)) in
        let object : f.object ≡ o = some_same f.object o (sym f.stored ∙ ap (object_at t) same ∙ at) in
        record {
          under = f.under;
          node = f.node ∙ ap (λ x. render_over x f.under) object;
          stood = subst (λ k. StoodBelow t k f.under) same f.stood;
        }

    here : (st : Standing) → standing before.tree w.number ≡ Some st → WasHere st
    here st e = here_when _ st (sym (ap (λ r. standing r w.number) was_tree) ∙ e)

    abbrev SizesDiffer : Type 0
    SizesDiffer = (was : Forest RenderObject) × StoodBelow t h was × (AreSizedSame (is_offstage (object_look o)) was now → ⊥)

    same_then : (st : Standing) (scroll : w.scroll ≡ o.scroll) → ChangesForLayout t h w now → WasHere st → is_same_for_layout st.node (render_over w now) ≡ true → SizesDiffer
    same_then st scroll changes is same =
        let keeps = (for_layout_decided told_same look_same (object_number t) apart o is.under w now (stored_numbered is.under is.stood.stored) numbered scroll).0
        (sym (ap (λ r. is_same_for_layout r (render_over w now)) is.node) ∙ same) in
        (is.under, is.stood, λ sized. changes o is.under at is.stood (keeps, sized))

    by_same : (st : Standing) (p : RegionPlace) (b : Bool) → w.scroll ≡ o.scroll → ChangesForLayout t h w now → WasHere st → is_same_for_layout st.node (render_over w now) ≡ b
        → (is_changed_since (Some st) before p (render_over w now) ≡ true) ⊎ SizesDiffer
    by_same st p true scroll changes is e = inr (same_then st scroll changes is e)
    by_same st p false scroll changes is e = inl (ap (λ b. not b || (is_touched before.touched (render_over w now) || is_changed_root before st.place p)) e)

    by_standing : (p : RegionPlace) (o1 : Option Standing) → w.scroll ≡ o.scroll → ChangesForLayout t h w now → standing before.tree w.number ≡ o1
        → (is_changed_since o1 before p (render_over w now) ≡ true) ⊎ SizesDiffer
    by_standing p None scroll changes e = inl refl
    by_standing p (Some st) scroll changes e = by_same st p (is_same_for_layout st.node (render_over w now)) scroll changes (here st e) refl

    pub changed_for_layout : (p : RegionPlace) → w.scroll ≡ o.scroll → ChangesForLayout t h w now → (is_changed before p (render_over w now) ≡ true) ⊎ SizesDiffer
    changed_for_layout p scroll changes = by_standing p (standing before.tree w.number) scroll changes refl

    -- ---- for painting

    paint_by_same : (st : Standing) (p : RegionPlace) (b : Bool) → ChangesForPaint t h w now → WasHere st → is_same_for_paint st.node (render_over w now) ≡ b → differs_since (Some st) p (render_over w now) ≡ true
    paint_by_same st p true changes is e =
        let keeps = (for_paint_decided told_same look_same (object_number t) apart o is.under w now (stored_numbered is.under is.stood.stored) numbered).0
        (sym (ap (λ r. is_same_for_paint r (render_over w now)) is.node) ∙ e) in
        absurd (changes o is.under at is.stood keeps)
    paint_by_same st p false changes is e = ap (λ b. not b || (p.top && not st.place.top)) e

    paint_by_standing : (p : RegionPlace) (o1 : Option Standing) → ChangesForPaint t h w now → standing before.tree w.number ≡ o1 → differs_since o1 p (render_over w now) ≡ true
    paint_by_standing p None changes e = refl
    paint_by_standing p (Some st) changes e = paint_by_same st p (is_same_for_paint st.node (render_over w now)) changes (here st e) refl

    pub changed_for_paint : (p : RegionPlace) → ChangesForPaint t h w now → differs_since (standing before.tree w.number) p (render_over w now) ≡ true
    changed_for_paint p changes = paint_by_standing p (standing before.tree w.number) changes refl
