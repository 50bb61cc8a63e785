-- The render nodes that a plan leaves are those of the nodes that the elements are.
use Rattle.std.proofs.Common.{◌≡◌, ℕ, Bool, true, false, cond, Option, Some, None, option_map, List, [], ◌∷◌, ◌++◌, refl, sym, ap, ◌∙◌, subst}
use Rattle.fx_handles.specs.declared.Handle.{Handle}
use Rattle.node_tree.specs.Forest.{Forest, append}
use Rattle.node_tree.specs.Forest.Forest.{none, tree}
use Rattle.node_tree.specs.Plan.{IsUpdated}
use Rattle.widget_model.specs.Plain.{look_of, children_of}
use Rattle.plain_tree.specs.declared.render.ParentData.{ParentData}
use Rattle.plain_tree.specs.declared.role.RenderRole.{RenderRole}
use Rattle.plain_tree.specs.PlainNode.{nodes_of as listed}
use Rattle.plain_tree.specs.Projection.{told_by, told_at, scroll_in, projected, projected_all}
use Rattle.plain_tree.specs.Render.{Render, render, more_renders, renders_of as renders_listed, lazy_count}
use Rattle.plain_tree.specs.RenderRole.{vanishes}
use Rattle.element_tree.specs.Element.{Element}
use Rattle.element_tree.specs.Nodes.{nodes_of}
use Rattle.render_tree.specs.Object.{RenderObject, object_look}
use Rattle.render_tree.specs.Plain.{lazy_children, renders_of}
use Rattle.render_tree.specs.Redraw.{Redraw, redrawn}
use Rattle.build_walk.specs.Renewing.{role_of, redraw_of, drawn_at, drawn, IsDrawn, Unless, AreDrawn}

-- ---- render nodes as a list

list_in : Forest RenderObject → List Render
list_in none = []
list_in (tree h o below rest) = render o.number (object_look o) o.parent_data o.scroll (lazy_children o) (renders_of below) ∷ list_in rest

listed_in : (f : Forest RenderObject) → renders_listed (list_in f) ≡ renders_of f
unfolding list_in
listed_in none = refl
listed_in (tree h o below rest) = ap (more_renders (render o.number (object_look o) o.parent_data o.scroll (lazy_children o) (renders_of below))) (listed_in rest)

list_append : (f g : Forest RenderObject) → list_in (append f g) ≡ list_in f ++ list_in g
unfolding list_in
list_append none g = refl
list_append (tree h o below rest) g = ap (λ l. render o.number (object_look o) o.parent_data o.scroll (lazy_children o) (renders_of below) ∷ l) (list_append rest g)

module _ (at : Handle → Option RenderObject) where
  abbrev Updated : Forest Redraw → Forest RenderObject → Type 0
  Updated g f = IsUpdated redrawn at g f

  pub record Split (g k : Forest Redraw) (f : Forest RenderObject) : Type 0 where
    pub front : Forest RenderObject
    pub back : Forest RenderObject
    pub is : f ≡ append front back
    pub front_updated : Updated g front
    pub back_updated : Updated k back

  split : (g k : Forest Redraw) (f : Forest RenderObject) → Updated (append g k) f → Split g k f
  split none k f h = record { front = none; back = f; is = refl; front_updated = tt; back_updated = h }
  split (tree x u kids more) k none h = absurd h
  split (tree x u kids more) k (tree y o below rest) h =
      let s = split more k rest h.3 in
      record {
        front = tree y o below s.front;
        back = s.back;
        is = ap (tree y o below) s.is;
        front_updated = (h.0, h.1, h.2, s.front_updated);
        back_updated = s.back_updated;
      }

  -- ---- one node

  some_equal : {A : Type 0} (x y : A) → Some x ≡ Some y → x ≡ y
  some_equal x y e = cc

  rest_none : (f : Forest RenderObject) → Updated none f → list_in f ≡ []
  unfolding list_in
  rest_none none h = refl
  rest_none (tree h o below rest) u = absurd u

  abbrev made : ℕ → Element → ParentData → ℕ → List Render → Render
  made number e parent_data scroll rs =
      render number (look_of e.widget) parent_data scroll (lazy_count (role_of e) (children_of e.widget)) (renders_listed rs)

  this_drawn : (e : Element) (parent_data : ParentData) (k : Handle) (below : Forest Redraw) (g : Forest RenderObject) (object : RenderObject) (rs : List Render) → at k ≡ Some object
      → ((f : Forest RenderObject) → Updated below f → list_in f ≡ rs) → Updated (tree k (redraw_of e parent_data) below none) g → list_in g ≡ made object.number e parent_data object.scroll rs ∷ []
  unfolding list_in
  this_drawn e parent_data k below none object rs stored go h = absurd h
  this_drawn e parent_data k below (tree y o kids rest) object rs stored go h =
      let is : redrawn (redraw_of e parent_data) object ≡ o = some_equal _ o (sym (ap (option_map (redrawn (redraw_of e parent_data))) stored) ∙ h.1) in
      let under : renders_of kids ≡ renders_listed rs = sym (listed_in kids) ∙ ap renders_listed (go kids h.2) in
      ap (λ x. render x.number (object_look x) x.parent_data x.scroll (lazy_children x) (renders_of kids) ∷ list_in rest) (sym is)
      ∙ (λ i. render object.number (look_of e.widget) parent_data object.scroll (lazy_count (role_of e) (children_of e.widget)) (under i) ∷ rest_none rest h.3 i)

  one_drawn : (scroll : ℕ) (e : Element) (parent_data : ParentData) (below : Forest Redraw) (g : Forest RenderObject) (rs : List Render) → IsDrawn at scroll e
      → ((f : Forest RenderObject) → Updated below f → list_in f ≡ rs) → Updated (drawn_at e.render (redraw_of e parent_data) below) g
      → list_in g ≡ made e.number e parent_data (scroll_in (role_of e) scroll) rs ∷ []
  one_drawn scroll e parent_data below g rs d go h =
      this_drawn e parent_data d.handle below g d.object rs d.stored go (subst (λ o. Updated (drawn_at o (redraw_of e parent_data) below) g) d.named h)
      ∙ (λ i. made (d.number i) e parent_data (d.scrolled i) rs ∷ [])

  by_role : (b : Bool) (P : Type 0) (through own : Forest Redraw) (g : Forest RenderObject) (xs ys : List Render) → (Updated through g → list_in g ≡ xs) → (P → Updated own g → list_in g ≡ ys)
      → Unless b P → Updated (cond b through own) g → list_in g ≡ cond b xs ys
  by_role true P through own g xs ys h k p u = h u
  by_role false P through own g xs ys h k p u = k p u

  -- ---- all

  module _ (scrolled : ℕ → ℕ) where
    drawn_is : (above : RenderRole) (told : Option ParentData) (f : Forest Element) (g : Forest RenderObject) → AreDrawn at scrolled f → Updated (drawn above told f) g
        → list_in g ≡ projected_all above told (listed (nodes_of scrolled f))
    unfolding projected projected_all
    drawn_is above told none g d u = rest_none g u
    drawn_is above told (tree h e kids rest) g d u =
        let parent_data = told_at above told e.index in
        let through = drawn above (Some (told_by above (role_of e) parent_data)) kids in
        let own = drawn_at e.render (redraw_of e parent_data) (drawn (role_of e) None kids) in
        let s = split (cond (vanishes (role_of e)) through own) (drawn above told rest) g u in
        ap list_in s.is
        ∙ list_append s.front s.back
        ∙ (λ i.
        by_role (vanishes (role_of e)) (IsDrawn at (scrolled e.number) e) through own s.front _ _
        (λ v. drawn_is above (Some (told_by above (role_of e) parent_data)) kids s.front d.1 v)
        (λ p v. one_drawn (scrolled e.number) e parent_data (drawn (role_of e) None kids) s.front _ p (λ x w. drawn_is (role_of e) None kids x d.1 w) v)
        d.0 s.front_updated i
        ++ drawn_is above told rest s.back d.2 s.back_updated i)

    pub renders_are : (above : RenderRole) (told : Option ParentData) (f : Forest Element) (g : Forest RenderObject) → AreDrawn at scrolled f → Updated (drawn above told f) g
        → renders_of g ≡ renders_listed (projected_all above told (listed (nodes_of scrolled f)))
    renders_are above told f g d u = sym (listed_in g) ∙ ap renders_listed (drawn_is above told f g d u)
