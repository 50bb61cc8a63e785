-- The render nodes that elements have, where they were mounted one after another.
use Rattle.std.specs.Prelude.{◌≡◌, ℕ, suc, if◌then◌else◌, Option, Some, None, List, [], ◌∷◌}
use Rattle.fx_handles.specs.declared.Handle.{Handle}
use Rattle.node_tree.specs.Forest.{Forest, append}
use Rattle.node_tree.specs.Forest.Forest.{none, tree}
use Rattle.node_tree.specs.Tree.{Tree}
use Rattle.widget_model.specs.Plain.{PlainWidget}
use Rattle.plain_tree.specs.declared.render.ParentData.{ParentData}
use Rattle.plain_tree.specs.declared.role.RenderRole.{RenderRole}
use Rattle.plain_tree.specs.Projection.{told_by, told_at}
use Rattle.plain_tree.specs.RenderRole.{vanishes}
use Rattle.build_form.specs.Partner.{Arrival, arrival}
use Rattle.element_tree.specs.Element.{Element, element_at}
use Rattle.render_tree.specs.Edits.{new_object, with_parent_data}
use Rattle.render_tree.specs.Object.{RenderObject}
use Rattle.render_tree.specs.Tree.{object_at}
use Rattle.build_walk.specs.Renewing.{role_of}

-- the render node of an element that was told so
abbrev pub drawn_object : Element → ParentData → RenderObject
drawn_object e told = with_parent_data told (new_object e.number e.widget)

-- at the handle of an element's render node
abbrev pub mounted_at : Option Handle → RenderObject → Forest RenderObject → Forest RenderObject
mounted_at None o below = none
mounted_at (Some k) o below = tree k o below none

-- those that elements have below a render node of a role, where the widgets between them told something: an element without one gives
-- those of what is below it
abbrev pub mounted : RenderRole → Option ParentData → Forest Element → Forest RenderObject
mounted above told none = none
mounted above told (tree h e kids rest) =
    append
    (if vanishes (role_of e)
    then mounted above (Some (told_by above (role_of e) (told_at above told e.index))) kids
    else mounted_at e.render (drawn_object e (told_at above told e.index)) (mounted (role_of e) None kids))
    (mounted above told rest)

-- child widgets from a place on, where there was nothing before
abbrev pub first_arrivals : ℕ → List PlainWidget → List Arrival
first_arrivals place [] = []
first_arrivals place (w ∷ ws) = arrival w place None ∷ first_arrivals (suc place) ws

-- what is stored stays stored
abbrev pub StayStored : Tree Element → Tree Element → Type 0
StayStored old new = (k : Handle) (e : Element) → element_at old k ≡ Some e → element_at new k ≡ Some e

abbrev pub StayDrawn : Tree RenderObject → Tree RenderObject → Type 0
StayDrawn old new = (k : Handle) (o : RenderObject) → object_at old k ≡ Some o → object_at new k ≡ Some o
