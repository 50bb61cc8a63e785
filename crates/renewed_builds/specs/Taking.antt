-- Elements that take widgets one after another, each where it is matched.
use Rattle.std.specs.Prelude.{◌≡◌, ℕ, suc, ◌<◌, Bool, true, false, Option, Some, None, IfSome, option_map, List, [], ◌∷◌, map, length, if◌then◌else◌, slice_index_or}
use Rattle.std.specs.List.{All}
use Rattle.fx_handles.specs.declared.Handle.{Handle}
use Rattle.fx_handles.specs.Handle.{same}
use Rattle.node_tree.specs.Children.{MapsValues}
use Rattle.node_tree.specs.Edits.{KeepsHandles, ReordersAll, CanReorder}
use Rattle.node_tree.specs.Forest.{Forest}
use Rattle.node_tree.specs.Forest.Forest.{none, tree}
use Rattle.node_tree.specs.Tree.{Tree, children_at}
use Rattle.widget_model.specs.Plain.{PlainWidget, look_of}
use Rattle.widget_model.specs.Plain.{children_of as child_widgets}
use Rattle.reconcile.specs.Keys.{NoKeyRepeats}
use Rattle.reconcile.specs.Matching.{matching}
use Rattle.build_form.specs.BuildRole.{build_role_of}
use Rattle.element_tree.specs.Edits.{with_widget, with_index}
use Rattle.element_tree.specs.Element.{Element, element_at, number_at}
use Rattle.element_tree.specs.Fields.{CanFollow}
use Rattle.global_keys.specs.Holders.{Registry}
use Rattle.global_keys.specs.Named.{NamesExactly}
use Rattle.settled_builds.specs.Retaken.{are_apart}
use Rattle.settled_builds.specs.Taken.{has_own_children}
use Rattle.renewed_builds.specs.Renewing.{Change, widgets_in, can_take_one, each_can_take, changes_one, each_changing, moves_below, each_moving}
use Rattle.renewed_builds.specs.declared.taking.Moved.{Moved}

-- ---- what stands below elements

-- the first of these trees stands at a place, and each other one at the place after it
abbrev pub StandInTurn : ℕ → Forest Element → Type 0
StandInTurn place none = Unit {0}
StandInTurn place (tree h e kids rest) = (e.index ≡ place) × StandInTurn (suc place) rest

-- below an element of a widget there are its child widgets, in order, and no two of them have one key
pub record HasItsOwn (w : PlainWidget) (kids : Forest Element) : Type 0 where
  pub widgets : widgets_in kids ≡ child_widgets w
  pub order : StandInTurn 0 kids
  pub apart : NoKeyRepeats (child_widgets w)

-- so it is at each element of a forest whose kind has its own children
abbrev pub HaveTheirOwn : Forest Element → Type 0
HaveTheirOwn none = Unit {0}
HaveTheirOwn (tree h e kids rest) = (has_own_children (build_role_of (look_of e.widget)) ≡ true → HasItsOwn e.widget kids) × HaveTheirOwn kids × HaveTheirOwn rest

-- ---- what is gathered of the first tree of a forest

abbrev pub can_take_first : Forest Element → PlainWidget → Bool
can_take_first none w = false
can_take_first (tree h e kids rest) w = can_take_one e (widgets_in kids) (each_can_take kids) w

abbrev pub changes_first : Forest Element → PlainWidget → List Change
changes_first none w = []
changes_first (tree h e kids rest) w = changes_one h e (widgets_in kids) (each_changing kids) w

abbrev pub moves_first : Forest Element → PlainWidget → List Moved
moves_first none w = []
moves_first (tree h e kids rest) w = moves_below e (widgets_in kids) (each_moving 0 kids) w

-- these widgets follow others, and go on from those at these places
pub record FollowAt (olds ws : List PlainWidget) (places : List ℕ) : Type 0 where
  pub many : length olds ≡ length ws
  pub apart : are_apart ws ≡ true
  pub matched : map (λ j. Some j) places ≡ matching olds ws

-- ---- widgets

-- the widget of a change may follow the one that its element has
abbrev pub FollowsChange : Tree Element → Change → Type 0
FollowsChange t c = (e : Element) → element_at t c.element ≡ Some e → CanFollow e.widget c.widget

-- the element at a handle after some changes
abbrev pub after_changes : List Change → Handle → Element → Element
after_changes [] k e = e
after_changes (c ∷ cs) k e = after_changes cs k (if same k c.element then with_widget c.widget e else e)

-- and after others were set to other places
abbrev pub after_moves : List Moved → Handle → Element → Element
after_moves [] k e = e
after_moves (m ∷ ms) k e = after_moves ms k (if same k m.element then with_index m.place e else e)

-- each element is as it is said, with its number and key, and nothing else changes
pub record WritesAll (g : Handle → Element → Element) (old new : Tree Element) : Type 0 where
  pub values : MapsValues g old new
  pub root : new.root ≡ old.root
  pub inactive : new.inactive ≡ old.inactive
  pub handles : KeepsHandles old.nodes new.nodes
  pub numbers : (k : Handle) → number_at new k ≡ number_at old k
  pub names : (r : Registry) → NamesExactly r old → NamesExactly r new

-- ---- orders

-- what is given for the children of an element by some changes, after what was given before them
abbrev pub order_after : List Change → Handle → Option (List ℕ) → Option (List ℕ)
order_after [] k o = o
order_after (c ∷ cs) k o = order_after cs k (if same k c.element then c.order else o)

-- the handles at these places among others
abbrev pub no_handle : Handle
no_handle = record { index = 0; generation = 0 }

abbrev pub handles_at : List Handle → List ℕ → List Handle
handles_at hs places = map (λ i. slice_index_or hs i no_handle) places

-- the children of the element of a change may stand in its order, if it has one
abbrev pub CanOrder : Tree Element → Change → Type 0
CanOrder t c =
    IfSome c.order (λ places. All (λ i. i < length (children_at t c.element)) places × CanReorder t c.element (handles_at (children_at t c.element) places))

-- the orders of children after some changes
abbrev pub orders_by : List Change → Tree Element → Handle → Option (List Handle)
orders_by cs t k = option_map (handles_at (children_at t k)) (order_after cs k None)

-- children stand in these orders, and nothing else changes
pub record OrdersAll (cs : List Change) (old new : Tree Element) : Type 0 where
  pub orders : ReordersAll old.nodes new.nodes (orders_by cs old)
  pub root : new.root ≡ old.root
  pub inactive : new.inactive ≡ old.inactive
  pub numbers : (k : Handle) → number_at new k ≡ number_at old k
  pub names : (r : Registry) → NamesExactly r old → NamesExactly r new
