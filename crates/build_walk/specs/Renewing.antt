-- What one forest of elements, the new ones of a build, says of both trees: the plan for the elements, and the plan for the render
-- nodes.
use Rattle.std.specs.Prelude.{◌≡◌, ℕ, Bool, true, false, if◌then◌else◌, Option, Some, None}
use Rattle.fx_handles.specs.declared.Handle.{Handle}
use Rattle.node_tree.specs.Forest.{Forest, append, map_values}
use Rattle.node_tree.specs.Forest.Forest.{none, tree}
use Rattle.widget_model.specs.Plain.{look_of}
use Rattle.plain_tree.specs.declared.render.ParentData.{ParentData}
use Rattle.plain_tree.specs.declared.role.RenderRole.{RenderRole}
use Rattle.plain_tree.specs.Projection.{told_by, told_at, scroll_in}
use Rattle.plain_tree.specs.RenderRole.{render_role_of, vanishes}
use Rattle.element_tree.specs.Element.{Element}
use Rattle.element_tree.specs.Fields.{CanFollow}
use Rattle.element_tree.specs.Renewal.{Renewal}
use Rattle.render_tree.specs.Object.{RenderObject}
use Rattle.render_tree.specs.Redraw.{Redraw}

-- ---- the elements

-- what a plan changes of an element
abbrev pub renewal_of : Element → Renewal
renewal_of e = record { widget = e.widget; index = e.index; output = e.output; render = e.render }

abbrev pub renewals : Forest Element → Forest Renewal
renewals f = map_values (λ h e. renewal_of e) f

-- an element goes on from the one that is stored at its handle, also one that was made in this build: it has its number and its
-- fields, and its widget may follow the one there; it needn't be built anew
pub record GoesOn (at : Handle → Option Element) (h : Handle) (e : Element) : Type 0 where
  pub was : Element
  pub stored : at h ≡ Some was
  pub number : was.number ≡ e.number
  pub fields : was.fields ≡ e.fields
  pub follows : CanFollow was.widget e.widget
  pub clean : e.dirty ≡ false

abbrev pub AllGoOn : (Handle → Option Element) → Forest Element → Type 0
AllGoOn at none = Unit {0}
AllGoOn at (tree h e kids rest) = GoesOn at h e × AllGoOn at kids × AllGoOn at rest

-- ---- the render nodes

abbrev pub role_of : Element → RenderRole
role_of e = render_role_of (look_of e.widget)

abbrev pub redraw_of : Element → ParentData → Redraw
redraw_of e parent_data = record { widget = e.widget; parent_data = parent_data }

-- at the handle of an element's render node
abbrev pub drawn_at : Option Handle → Redraw → Forest Redraw → Forest Redraw
drawn_at None u below = none
drawn_at (Some k) u below = tree k u below none

-- what a plan changes of the render nodes that elements have below a render node of a role, where the widgets between them told
-- something: an element without one gives those of what is below it
abbrev pub drawn : RenderRole → Option ParentData → Forest Element → Forest Redraw
drawn above told none = none
drawn above told (tree h e kids rest) =
    append
    (if vanishes (role_of e)
    then drawn above (Some (told_by above (role_of e) (told_at above told e.index))) kids
    else drawn_at e.render (redraw_of e (told_at above told e.index)) (drawn (role_of e) None kids))
    (drawn above told rest)

-- the render node of an element stands at its handle, and is scrolled so far
pub record IsDrawn (at : Handle → Option RenderObject) (scroll : ℕ) (e : Element) : Type 0 where
  pub handle : Handle
  pub named : e.render ≡ Some handle
  pub object : RenderObject
  pub stored : at handle ≡ Some object
  pub number : object.number ≡ e.number
  pub scrolled : object.scroll ≡ scroll_in (role_of e) scroll

abbrev pub Unless : Bool → Type 0 → Type 0
Unless true P = Unit {0}
Unless false P = P

-- of each element that has one, where it is known how far the node with each number is scrolled
abbrev pub AreDrawn : (Handle → Option RenderObject) → (ℕ → ℕ) → Forest Element → Type 0
AreDrawn at scrolled none = Unit {0}
AreDrawn at scrolled (tree h e kids rest) =
    Unless (vanishes (role_of e)) (IsDrawn at (scrolled e.number) e) × AreDrawn at scrolled kids × AreDrawn at scrolled rest
