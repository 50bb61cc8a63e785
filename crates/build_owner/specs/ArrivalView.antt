-- What widgets go on from, as the program says it.
use Rattle.std.specs.Prelude.{◌≡◌, ℕ, suc, ◌∷◌, length, slice_get, Bool, ◌&&◌, ◌||◌, is_some, Option, Some, None, List, [], option_map}
use Rattle.fx_handles.specs.declared.Handle.{Handle}
use Rattle.node_tree.specs.Tree.{Tree, children_at}
use Rattle.sliver_layout.specs.declared.protocol.Window.{Window}
use Rattle.widget_model.specs.Plain.{PlainWidget, look_of}
use Rattle.widget_model.specs.Update.{CanUpdate}
use Rattle.widget_model.specs.View.{shared}
use Rattle.layout_form.specs.SliverRule.{is_among}
use Rattle.build_form.specs.BuildRole.{build_role_of}
use Rattle.build_form.specs.FullBuild.{keeps_alive}
use Rattle.build_form.specs.Partner.{Arrival, arrival}
use Rattle.element_tree.specs.Element.{Element, element_at}
use Rattle.build_walk.specs.Kept.{plain_at_any}
use Rattle.build_owner.specs.declared.arriving.Arrival.{Arrival as ArrivalOfWidget}
use Rattle.build_owner.specs.declared.arriving.ArrivingWidgets.{ArrivingWidgets}
use Rattle.build_owner.specs.declared.arriving.ArrivingWidgets.TheVariants as arrivals

-- the widget of the element at a handle
abbrev pub widget_at : Tree Element → Handle → Option PlainWidget
widget_at t h = option_map (λ (e : Element). e.widget) (element_at t h)

-- the elements right below one, if there is one
abbrev pub children_had : Tree Element → Option Handle → List Handle
children_had t None = []
children_had t (Some h) = children_at t h

-- the widgets that arrive
abbrev pub arrived : ArrivingWidgets → List ArrivalOfWidget
arrived (arrivals.One a) = a ∷ []
arrived (arrivals.Many many) = many.items

-- a widget that arrives, where these are the old elements
abbrev pub arrives_in : (ℕ → ℕ) → Tree Element → ArrivalOfWidget → Arrival
arrives_in scrolled t a = arrival (shared a.widget) a.place (plain_at_any scrolled t a.beside)

-- a widget that arrives, by itself: its value, its place, and the old element that it is matched to
pub record ComingWidget : Type 0 where
  pub widget : PlainWidget
  pub place : ℕ
  pub beside : Option Handle

abbrev pub coming : ArrivalOfWidget → ComingWidget
coming a = record { widget = shared a.widget; place = a.place; beside = a.beside }

-- one widget alone
abbrev pub lone_coming : PlainWidget → Option Handle → List ComingWidget
lone_coming w beside = record { widget = w; place = 0; beside = beside } ∷ []

-- the children of a lazy list that are there: those in a range, and those that stay
abbrev pub is_there : Window → ComingWidget → Bool
is_there range c = is_among range c.place || (keeps_alive (build_role_of (look_of c.widget)) && is_some c.beside)

-- ---- elements that stand at the places of widgets

-- the place of the element at a handle among its parent's child widgets
abbrev pub place_at : Tree Element → Handle → Option ℕ
place_at t h = option_map (λ (e : Element). e.index) (element_at t h)

-- an element has this place, and a widget that can update to another one
abbrev pub IsPair : Tree Element → ℕ → Handle → PlainWidget → Type 0
IsPair t place h w = (place_at t h ≡ Some place) × ((old : PlainWidget) × (widget_at t h ≡ Some old) × CanUpdate old w)

-- there are as many elements as widgets, and each two of them at one place of the lists are such a pair
abbrev pub ArePaired : Tree Element → List Handle → List PlainWidget → Type 0
ArePaired t hs ws =
    (length hs ≡ length ws)
    × ((i : ℕ) (h : Handle) (w : PlainWidget) → slice_get hs i ≡ Some h → slice_get ws i ≡ Some w → IsPair t i h w)

-- widgets from a place on, each with the element that stands there
abbrev pub coming_from : ℕ → List Handle → List PlainWidget → List ComingWidget
coming_from place [] ws = []
coming_from place (h ∷ hs) [] = []
coming_from place (h ∷ hs) (w ∷ ws) = record { widget = w; place = place; beside = Some h } ∷ coming_from (suc place) hs ws

-- widgets from a place on, with no element at any of them
abbrev pub coming_anew : ℕ → List PlainWidget → List ComingWidget
coming_anew place [] = []
coming_anew place (w ∷ ws) = record { widget = w; place = place; beside = None } ∷ coming_anew (suc place) ws
