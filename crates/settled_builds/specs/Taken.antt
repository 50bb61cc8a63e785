-- A tree of which one component is to be built anew.
use Rattle.std.specs.Prelude.{◌≡◌, ℕ, ◌<◌, ◌≤◌, ◌==◌, nat_lt, Bool, true, false, Some, option_map, List, [], map}
use Rattle.fx_expr.specs.declared.values.Value.{Value}
use Rattle.widget_model.specs.Plain.{PlainWidget, look_of}
use Rattle.widget_model.specs.Size.{count_of as widget_count}
use Rattle.plain_tree.specs.At.{numbers_of, node_at, is_there}
use Rattle.plain_tree.specs.Laws.{AllDiffer}
use Rattle.plain_tree.specs.PlainNode.{PlainNode, node, PlainNodes, no_nodes, more_nodes, list_of, widget_of, index_of, count_of}
use Rattle.build_form.specs.BuildRole.{BuildRole, composes, provides, keeps, lists, holds, build_role_of}
use Rattle.build_form.specs.Entering.{Blueprint, depth_limit, output_limit, values_below}
use Rattle.build_form.specs.Laws.{NumbersAre}
use Rattle.work_sets.specs.Due.{names_read}
use Rattle.build_walk.specs.Fresh.{HasOutput, HasFreshOutputs, HaveFreshOutputs}
use Rattle.build_walk.specs.Past.{is_marked}
use Rattle.settled_builds.specs.Places.{NodePlace, spot_at, HasNoGlobals}
use Rattle.settled_builds.specs.Settled.{IsSettled, IsWithin, AreNewKeys}

-- ---- nodes that can take widgets

-- a kind has the children that its widget has, and gives a value to no name
abbrev pub has_own_children : BuildRole → Bool
has_own_children (composes place props) = false
has_own_children (provides name value) = false
has_own_children (keeps kept) = true
has_own_children (lists extent) = false
has_own_children holds = true

-- the nodes below one
abbrev pub nodes_below : PlainNode → PlainNodes
nodes_below (node number widget fields scroll index children) = children

-- ---- one component is stale

-- one of two things is asked
abbrev pub AskedIf : Bool → Type 0 → Type 0 → Type 0
AskedIf true this other = this
AskedIf false this other = other

-- each component of a tree has below it what its body gives, but for the first node with a number
abbrev mutual
  pub IsFreshBut : Blueprint → ℕ → List Value → PlainNode → Type 0
  IsFreshBut b wanted values (node number widget fields scroll index children) =
      AskedIf (number == wanted)
      (HaveFreshOutputs b [] (values_below widget values) children)
      (HasOutput b (build_role_of (look_of widget)) widget fields values number (map widget_of (list_of children)) × AreFreshBut b wanted (values_below widget values) children)

  pub AreFreshBut : Blueprint → ℕ → List Value → PlainNodes → Type 0
  AreFreshBut b wanted values no_nodes = ⊥
  AreFreshBut b wanted values (more_nodes n ns) =
      AskedIf (is_there wanted n)
      (IsFreshBut b wanted values n × HaveFreshOutputs b [] values ns)
      (HasFreshOutputs b [] values n × AreFreshBut b wanted values ns)

-- a tree is settled for a root, but that the component with a number is to be built anew
pub record IsStaleFor (b : Blueprint) (wanted : ℕ) (root : PlainWidget) (tree : PlainNode) : Type 0 where
  pub widget : widget_of tree ≡ root
  pub place : index_of tree ≡ 0
  pub small : nat_lt output_limit (widget_count root) ≡ false
  pub settled : IsSettled tree
  pub fresh : IsFreshBut b wanted b.defaults tree
  pub within : IsWithin depth_limit tree
  pub few : count_of tree ≤ b.nodes
  pub keys : AreNewKeys (λ k. false) tree

-- the component with that number is the one that is stale, and its number alone is marked, of all in the tree
pub record IsMarkedFor (b : Blueprint) (marks : List ℕ) (wanted : ℕ) (root : PlainWidget) (tree : PlainNode) : Type 0 where
  pub stale : IsStaleFor b wanted root tree
  pub names : List ℕ
  pub component : option_map (λ n. names_read (look_of (widget_of n))) (node_at wanted tree) ≡ Some (Some names)
  pub marked : NumbersAre (λ k. is_marked marks k ≡ (k == wanted)) tree

-- ---- what is built of it

-- the component at a spot is the one that is stale: its number alone is marked, of all in a tree without global keys, and none stands twice
pub record IsStaleAt (b : Blueprint) (marks : List ℕ) (wanted next : ℕ) (root : PlainWidget) (tree : PlainNode) (p : NodePlace) : Type 0 where
  pub stale : IsStaleFor b wanted root tree
  pub at : spot_at wanted depth_limit b.defaults 0 0 tree ≡ Some p
  pub names : List ℕ
  pub component : names_read (look_of (widget_of p.node)) ≡ Some names
  pub marked : NumbersAre (λ k. is_marked marks k ≡ (k == wanted)) tree
  pub keyless : HasNoGlobals tree
  pub differ : AllDiffer (numbers_of tree)
  pub old : wanted < next
