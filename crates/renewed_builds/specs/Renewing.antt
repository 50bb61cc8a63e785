-- A component that is renewed in its place, as the elements tell it: its body gives widgets, which those below it take, in any order, and
-- render nodes change that have other widgets then, or children in another order.
use Rattle.std.specs.Prelude.{◌≡◌, ℕ, zero, suc, ◌==◌, Bool, true, false, not, ◌&&◌, ◌||◌, if◌then◌else◌, Option, Some, None, is_some, List, [], ◌∷◌, ◌++◌, refl}
use Rattle.std.specs.Coded.{Coded, code_by, coded×, coded_ℕ, coded_list, coded_option}
use Rattle.fx_handles.specs.declared.Handle.{Handle}
use Rattle.fx_handles.specs.Handle.{same}
use Rattle.node_tree.specs.Forest.{Forest, append}
use Rattle.node_tree.specs.Forest.Forest.{none, tree}
use Rattle.node_tree.specs.Tree.{handle_code}
use Rattle.widget_model.specs.Look.{Look}
use Rattle.widget_model.specs.Plain.{PlainWidget, look_of}
use Rattle.widget_model.specs.Plain.{children_of as child_widgets}
use Rattle.widget_model.specs.Update.{updates}
use Rattle.reconcile.specs.Matching.{matching}
use Rattle.plain_tree.specs.RenderRole.{render_role_of, vanishes}
use Rattle.build_form.specs.BuildRole.{build_role_of}
use Rattle.element_tree.specs.Edits.{with_widget, with_index}
use Rattle.element_tree.specs.Element.{Element, coded_widget}
use Rattle.work_sets.specs.Members.{is_same_widget}
use Rattle.settled_builds.specs.Retaken.{gathered, can_follow_all}
use Rattle.settled_builds.specs.Taken.{has_own_children}
use Rattle.renewed_builds.specs.declared.taking.Moved.{Moved}

-- the widgets of the elements at the tops of a forest
abbrev pub widgets_in : Forest Element → List PlainWidget
widgets_in none = []
widgets_in (tree h e kids rest) = e.widget ∷ widgets_in rest

-- ---- which elements can take widgets

-- a kind has the children that its widget has, and a render node
abbrev pub draws_its_own : Look → Bool
draws_its_own look = has_own_children (build_role_of look) && not (vanishes (render_role_of look))

-- an element can take a widget: it can be updated to it, both have their own children and are drawn, and its render node is known
abbrev pub takes_in_place : Element → PlainWidget → Bool
takes_in_place e w = updates e.widget w && (draws_its_own (look_of e.widget) && (draws_its_own (look_of w) && is_some e.render))

-- an element has a widget, or can take it, and those below it, of which each is asked so, can take the widget's children
abbrev pub can_take_one : Element → List PlainWidget → List (PlainWidget → Bool) → PlainWidget → Bool
can_take_one e olds below w = is_same_widget e.widget w || (takes_in_place e w && can_follow_all olds (child_widgets w) below)

abbrev pub each_can_take : Forest Element → List (PlainWidget → Bool)
each_can_take none = []
each_can_take (tree h e kids rest) = can_take_one e (widgets_in kids) (each_can_take kids) ∷ each_can_take rest

-- the elements of a forest are as many as the widgets, no two of which have one key, and each widget is matched to one that can take it
abbrev pub can_take_drawn : Forest Element → List PlainWidget → Bool
can_take_drawn f ws = can_follow_all (widgets_in f) ws (each_can_take f)

-- ---- what they are then

-- trees one after another
abbrev pub joined : List (Forest Element) → Forest Element
joined [] = none
joined (f ∷ fs) = append f (joined fs)

-- an element that takes a widget at a place
abbrev pub element_taking : Element → PlainWidget → ℕ → Element
element_taking e w place = with_index place (if is_same_widget e.widget w then e else with_widget w e)

-- its tree, where what is below it does: one that has its widget stays as it is, with all below it, but for its place
abbrev pub one_taking : Handle → Element → Forest Element → List (PlainWidget → ℕ → List (Forest Element)) → PlainWidget → ℕ → List (Forest Element)
one_taking h e kids below w place =
    tree h (element_taking e w place)
    (if is_same_widget e.widget w then kids else joined (gathered below 0 (child_widgets w) (matching (widgets_in kids) (child_widgets w)))) none
    ∷ []

abbrev pub each_taking : Forest Element → List (PlainWidget → ℕ → List (Forest Element))
each_taking none = []
each_taking (tree h e kids rest) = one_taking h e kids (each_taking kids) ∷ each_taking rest

-- the elements of a forest once they took these widgets, in the order of these
abbrev pub taking_elements : Forest Element → List PlainWidget → Forest Element
taking_elements f ws = joined (gathered (each_taking f) 0 ws (matching (widgets_in f) ws))

-- ---- which elements change

-- the old places to which widgets are matched
abbrev pub places_of : List (Option ℕ) → List ℕ
places_of [] = []
places_of (None ∷ ms) = places_of ms
places_of (Some j ∷ ms) = j ∷ places_of ms

-- each is its own place, from the first one on
abbrev pub are_in_order : ℕ → List ℕ → Bool
are_in_order place [] = true
are_in_order place (j ∷ js) = (j == place) && are_in_order (suc place) js

-- the old places of children that stand in another order now
abbrev pub order_of : List ℕ → Option (List ℕ)
order_of places = if are_in_order 0 places then None else Some places

-- an element that takes a widget, and its render node, which takes it too; and the old places of their children, where these stand in
-- another order then
pub record Change : Type 0 where
  pub element : Handle
  pub at : Handle
  pub widget : PlainWidget
  pub order : Option (List ℕ)

-- a change is stored as the tuple of its fields
abbrev pub change_code : Coded Change
change_code =
    code_by
    (Handle × (Handle × (PlainWidget × Option (List ℕ))))
    (coded× handle_code (coded× handle_code (coded× coded_widget (coded_option (coded_list coded_ℕ)))))
    (λ c. (c.element, (c.at, (c.widget, c.order))))
    (λ p. record { element = p.0; at = p.1.0; widget = p.1.1.0; order = p.1.1.1 })
    (λ _. refl)

-- of an element that has a render node
abbrev pub change_of : Handle → Option Handle → PlainWidget → Option (List ℕ) → List Change
change_of h None w order = []
change_of h (Some at) w order = record { element = h; at = at; widget = w; order = order } ∷ []

-- an element that takes a widget that it didn't have, before those below it
abbrev pub changes_one : Handle → Element → List PlainWidget → List (PlainWidget → ℕ → List Change) → PlainWidget → List Change
changes_one h e olds below w =
    if is_same_widget e.widget w then []
    else (change_of h e.render w (order_of (places_of (matching olds (child_widgets w)))) ++ gathered below 0 (child_widgets w) (matching olds (child_widgets w)))

abbrev pub each_changing : Forest Element → List (PlainWidget → ℕ → List Change)
each_changing none = []
each_changing (tree h e kids rest) = (λ w place. changes_one h e (widgets_in kids) (each_changing kids) w) ∷ each_changing rest

-- which of them take a widget that they didn't have
abbrev pub changes_of : Forest Element → List PlainWidget → List Change
changes_of f ws = gathered (each_changing f) 0 ws (matching (widgets_in f) ws)

-- an element that stands at another place now
abbrev pub moved_to : Handle → ℕ → ℕ → List Moved
moved_to h old place = if old == place then [] else (record { element = h; place = place } ∷ [])

-- those below an element that takes a widget
abbrev pub moves_below : Element → List PlainWidget → List (PlainWidget → ℕ → List Moved) → PlainWidget → List Moved
moves_below e olds below w = if is_same_widget e.widget w then [] else gathered below 0 (child_widgets w) (matching olds (child_widgets w))

-- of the elements of a forest, of which the first one has an old place
abbrev pub each_moving : ℕ → Forest Element → List (PlainWidget → ℕ → List Moved)
each_moving old none = []
each_moving old (tree h e kids rest) = (λ w place. moved_to h old place ++ moves_below e (widgets_in kids) (each_moving 0 kids) w) ∷ each_moving (suc old) rest

-- which of them stand at another place
abbrev pub moves_of : Forest Element → List PlainWidget → List Moved
moves_of f ws = gathered (each_moving 0 f) 0 ws (matching (widgets_in f) ws)

-- ---- below one component

-- the first of some widgets: a component has one child at most
abbrev pub first_of : List PlainWidget → Option PlainWidget
first_of [] = None
first_of (w ∷ ws) = Some w

-- a component after its body gave these widgets: they are stored, and it isn't to be built anew
abbrev pub with_given : List PlainWidget → Element → Element
with_given ws e = record e { dirty = false; output = first_of ws }

-- what is below the element at a handle can take these widgets
abbrev pub can_take_at : Handle → List PlainWidget → Forest Element → Bool
can_take_at h ws none = true
can_take_at h ws (tree k e kids rest) = (if same k h then can_take_drawn kids ws else can_take_at h ws kids) && can_take_at h ws rest

-- the forest once it took them
abbrev pub renewed_at : Handle → List PlainWidget → Forest Element → Forest Element
renewed_at h ws none = none
renewed_at h ws (tree k e kids rest) =
    tree k
    (if same k h then with_given ws e else e)
    (if same k h then taking_elements kids ws else renewed_at h ws kids)
    (renewed_at h ws rest)

-- and where they alone did: the component keeps its flag and what it stores
abbrev pub taken_at : Handle → List PlainWidget → Forest Element → Forest Element
taken_at h ws none = none
taken_at h ws (tree k e kids rest) = tree k e (if same k h then taking_elements kids ws else taken_at h ws kids) (taken_at h ws rest)

-- which elements changed then
abbrev pub changes_at : Handle → List PlainWidget → Forest Element → List Change
changes_at h ws none = []
changes_at h ws (tree k e kids rest) = (if same k h then changes_of kids ws else changes_at h ws kids) ++ changes_at h ws rest

-- the forest where the widgets are stored at the component, and none is taken yet
abbrev pub stored_at : Handle → List PlainWidget → Forest Element → Forest Element
stored_at h ws none = none
stored_at h ws (tree k e kids rest) = tree k (if same k h then with_given ws e else e) (stored_at h ws kids) (stored_at h ws rest)
