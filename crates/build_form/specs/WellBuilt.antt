-- What holds of each tree that a build gives: its widgets and fields are typed over the program, each node has the children
-- that its kind wants, and no list of child widgets has a key twice. It is what the next build asks of the old tree.
use Rattle.std.specs.Prelude.{◌≡◌, Bool, true, false, Option, IfSome, List, [], ◌∷◌, map}
use Rattle.std.specs.List.{All}
use Rattle.fx_expr.specs.declared.values.Value.{Value}
use Rattle.widget_model.specs.Look.{Look}
use Rattle.widget_model.specs.Plain.{PlainWidget, look_of}
use Rattle.widget_model.specs.Typed.{Sort, box, Declarations, AreTypedFields, AllAre, FitChildren, sort_of, IsTypedWidget}
use Rattle.reconcile.specs.Keys.{NoKeyRepeats}
use Rattle.plain_tree.specs.PlainNode.{PlainNode, node, PlainNodes, no_nodes, more_nodes, widget_of, list_of}
use Rattle.template_build.specs.Scene.{declaration_at, body_sort_at}
use Rattle.build_form.specs.BuildRole.{BuildRole, composes, provides, keeps, lists, holds, build_role_of}
use Rattle.build_form.specs.Partner.{widgets_below, Arrival}

-- a component has fields of the types that it declares, and no other kind has any
abbrev pub FitFields : Declarations → BuildRole → List Value → Type 0
FitFields d (composes place props) fields = AreTypedFields (declaration_at d place) fields
FitFields d (provides name value) fields = fields ≡ []
FitFields d (keeps kept) fields = fields ≡ []
FitFields d (lists extent) fields = fields ≡ []
FitFields d holds fields = fields ≡ []

-- a component has one child, of the sort of its body; a lazy list has boxes; any other kind has the children that it wants
abbrev pub FitBelow : Declarations → Look → BuildRole → List Sort → Type 0
FitBelow d look (composes place props) sorts = sorts ≡ body_sort_at d place ∷ []
FitBelow d look (provides name value) sorts = FitChildren look sorts
FitBelow d look (keeps kept) sorts = FitChildren look sorts
FitBelow d look (lists extent) sorts = AllAre box sorts
FitBelow d look holds sorts = FitChildren look sorts

-- the sorts of the widgets of nodes
abbrev pub sorts_in : Declarations → List PlainNode → List Sort
sorts_in d ns = map (λ n. sort_of d (widget_of n)) ns

-- this of one node
pub record IsBuilt (d : Declarations) (w : PlainWidget) (fields : List Value) (siblings : List PlainWidget) (sorts : List Sort) : Type 0 where
  pub typed : IsTypedWidget d w
  pub suited : FitFields d (build_role_of (look_of w)) fields
  pub apart : NoKeyRepeats siblings
  pub fits : FitBelow d (look_of w) (build_role_of (look_of w)) sorts

abbrev mutual
  pub IsWellBuilt : Declarations → PlainNode → Type 0
  IsWellBuilt d (node number widget fields scroll index children) =
      IsBuilt d widget fields (widgets_below (node number widget fields scroll index children)) (sorts_in d (list_of children)) × AreWellBuilt d children

  pub AreWellBuilt : Declarations → PlainNodes → Type 0
  AreWellBuilt d no_nodes = Unit {0}
  AreWellBuilt d (more_nodes n ns) = IsWellBuilt d n × AreWellBuilt d ns

-- a widget that is to be entered is typed, and so is the old node beside it
pub record IsTypedArrival (d : Declarations) (a : Arrival) : Type 0 where
  pub widget : IsTypedWidget d a.widget
  pub beside : IfSome a.beside (IsWellBuilt d)

-- each node of the old tree that had a global key is
abbrev pub AreTypedHolders : Declarations → (Value → Option PlainNode) → Type 0
AreTypedHolders d holder = (k : Value) → IfSome (holder k) (IsWellBuilt d)

-- each old node is from which a waiting lazy list goes on
abbrev pub AreWaiting : Declarations → List (Option PlainNode) → Type 0
AreWaiting d waiting = All (λ partner. IfSome partner (IsWellBuilt d)) waiting

-- the nodes below a node whose child widgets are these: none yet, or one for each
abbrev pub AreBelow : Bool → List PlainWidget → List PlainNode → Type 0
AreBelow true ws ns = ns ≡ []
AreBelow false ws ns = map widget_of ns ≡ ws
