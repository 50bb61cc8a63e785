-- Trees that a build leaves as they are: those of which nothing is to be built anew.
use Rattle.std.specs.Prelude.{◌≡◌, ℕ, zero, suc, ◌+◌, ◌≤◌, nat_lt, Bool, true, false, ◌||◌, is_some, Option, Some, None, List, [], ◌∷◌, map}
use Rattle.fx_expr.specs.declared.values.Value.{Value}
use Rattle.fx_expr.specs.Value.{value_eq}
use Rattle.widget_keys.specs.declared.keys.Key.{Key}
use Rattle.widget_keys.specs.declared.keys.Key.TheVariants as key
use Rattle.widget_model.specs.Plain.{PlainWidget, look_of, key_of}
use Rattle.widget_model.specs.Plain.{children_of as child_widgets}
use Rattle.widget_model.specs.Size.{count_of as widget_count}
use Rattle.plain_tree.specs.PlainNode.{PlainNode, node, PlainNodes, no_nodes, more_nodes, list_of, widget_of, index_of, count_of}
use Rattle.build_form.specs.Step.{Progress}
use Rattle.build_form.specs.BuildRole.{BuildRole, composes, provides, keeps, lists, holds, build_role_of}
use Rattle.build_form.specs.Entering.{Blueprint, depth_limit, output_limit, first_repeated}
use Rattle.build_form.specs.Laws.{NumbersAre}
use Rattle.build_form.specs.Numbered.{IsNumbered}
use Rattle.work_sets.specs.Due.{names_read}
use Rattle.build_walk.specs.Fresh.{HasFreshOutputs}
use Rattle.build_walk.specs.Past.{is_marked}
use Rattle.settled_builds.specs.Places.{HasNoGlobals}

-- ---- what stands below a node

-- these widgets are the child widgets of a widget; of a component it is said elsewhere that they are what its body gives, and which
-- children of a lazy list are there depends on more than the list
abbrev pub AreItsOwn : BuildRole → PlainWidget → List PlainWidget → Type 0
AreItsOwn (composes place props) w ws = Unit {0}
AreItsOwn (provides name value) w ws = ws ≡ child_widgets w
AreItsOwn (keeps kept) w ws = ws ≡ child_widgets w
AreItsOwn (lists extent) w ws = ⊥
AreItsOwn holds w ws = ws ≡ child_widgets w

-- the first of these nodes stands at a place, and each other one at the place after it
abbrev pub StandInOrder : ℕ → List PlainNode → Type 0
StandInOrder place [] = Unit {0}
StandInOrder place (n ∷ ns) = (index_of n ≡ place) × StandInOrder (suc place) ns

-- below a node of a widget there are its child widgets, in order, and no two of them have one key
pub record IsSettledAbove (w : PlainWidget) (ns : List PlainNode) : Type 0 where
  pub own : AreItsOwn (build_role_of (look_of w)) w (map widget_of ns)
  pub order : StandInOrder 0 ns
  pub apart : first_repeated [] (map key_of (map widget_of ns)) ≡ None

-- so it is at each node of a tree
abbrev mutual
  pub IsSettled : PlainNode → Type 0
  IsSettled (node number widget fields scroll index children) = IsSettledAbove widget (list_of children) × AreSettled children

  pub AreSettled : PlainNodes → Type 0
  AreSettled no_nodes = Unit {0}
  AreSettled (more_nodes n ns) = IsSettled n × AreSettled ns

-- ---- how deep it is

-- a tree is no deeper than so many depths
abbrev mutual
  pub IsWithin : ℕ → PlainNode → Type 0
  IsWithin zero (node number widget fields scroll index children) = ⊥
  IsWithin (suc left) (node number widget fields scroll index children) = AreWithin left children

  pub AreWithin : ℕ → PlainNodes → Type 0
  AreWithin left no_nodes = Unit {0}
  AreWithin left (more_nodes n ns) = IsWithin left n × AreWithin left ns

-- ---- its global keys

-- which global keys are met after a key, where these were met before
abbrev pub met_by : Key Value → (Value → Bool) → Value → Bool
met_by key.None met = met
met_by (key.Local k) met = met
met_by (key.Global k) met = λ v. value_eq k v || met v

-- and after a tree, in preorder
abbrev mutual
  pub met_after : PlainNode → (Value → Bool) → Value → Bool
  met_after (node number widget fields scroll index children) met = all_met_after children (met_by (key_of widget) met)

  pub all_met_after : PlainNodes → (Value → Bool) → Value → Bool
  all_met_after no_nodes met = met
  all_met_after (more_nodes n ns) met = all_met_after ns (met_after n met)

-- a key isn't a global one that was met
abbrev pub IsNewKey : (Value → Bool) → Key Value → Type 0
IsNewKey met key.None = Unit {0}
IsNewKey met (key.Local k) = Unit {0}
IsNewKey met (key.Global k) = met k ≡ false

-- no global key of a tree was met before, and none stands twice
abbrev mutual
  pub AreNewKeys : (Value → Bool) → PlainNode → Type 0
  AreNewKeys met (node number widget fields scroll index children) =
      IsNewKey met (key_of widget) × AllAreNewKeys (met_by (key_of widget) met) children

  pub AllAreNewKeys : (Value → Bool) → PlainNodes → Type 0
  AllAreNewKeys met no_nodes = Unit {0}
  AllAreNewKeys met (more_nodes n ns) = AreNewKeys met n × AllAreNewKeys (met_after n met) ns

-- the node that has a global key is the one that is known to have it
abbrev pub IsHeld : (Value → Option PlainNode) → Key Value → PlainNode → Type 0
IsHeld holder key.None n = Unit {0}
IsHeld holder (key.Local k) n = Unit {0}
IsHeld holder (key.Global k) n = holder k ≡ Some n

-- so it is of each node of a tree
abbrev mutual
  pub AreHeld : (Value → Option PlainNode) → PlainNode → Type 0
  AreHeld holder (node number widget fields scroll index children) =
      IsHeld holder (key_of widget) (node number widget fields scroll index children) × AllAreHeld holder children

  pub AllAreHeld : (Value → Option PlainNode) → PlainNodes → Type 0
  AllAreHeld holder no_nodes = Unit {0}
  AllAreHeld holder (more_nodes n ns) = AreHeld holder n × AllAreHeld holder ns

-- ---- the whole tree of a root

-- a tree, of which some numbers may be marked that it doesn't have, is settled for a root: it is what a build of that root gives that goes
-- on from it. It has no lazy list
pub record IsSettledFor (b : Blueprint) (marks : List ℕ) (root : PlainWidget) (tree : PlainNode) : Type 0 where
  pub widget : widget_of tree ≡ root
  pub place : index_of tree ≡ 0
  pub small : nat_lt output_limit (widget_count root) ≡ false
  pub settled : IsSettled tree
  -- each component has below it what its body gives
  pub fresh : HasFreshOutputs b [] b.defaults tree
  pub within : IsWithin depth_limit tree
  pub few : count_of tree ≤ b.nodes
  pub keys : AreNewKeys (λ k. false) tree
  pub unmarked : NumbersAre (λ number. is_marked marks number ≡ false) tree

-- ---- the tree of a root of which some components are to be built anew

-- each node of a tree whose number is marked is a component
abbrev mutual
  pub AreComponents : List ℕ → PlainNode → Type 0
  AreComponents marks (node number widget fields scroll index children) =
      (is_marked marks number ≡ true → is_some (names_read (look_of widget)) ≡ true) × AllAreComponents marks children

  pub AllAreComponents : List ℕ → PlainNodes → Type 0
  AllAreComponents marks no_nodes = Unit {0}
  AllAreComponents marks (more_nodes n ns) = AreComponents marks n × AllAreComponents marks ns

-- a tree is settled for a root, but that each component of it whose number is marked is to be built anew. It has no global keys, and its
-- numbers, which are below the next one, tell its nodes apart
pub record IsReadyTree (b : Blueprint) (marks : List ℕ) (next : ℕ) (root : PlainWidget) (tree : PlainNode) : Type 0 where
  pub widget : widget_of tree ≡ root
  pub place : index_of tree ≡ 0
  pub small : nat_lt output_limit (widget_count root) ≡ false
  pub settled : IsSettled tree
  -- each component that isn't marked has below it what its body gives
  pub fresh : HasFreshOutputs b marks b.defaults tree
  pub within : IsWithin depth_limit tree
  pub few : count_of tree ≤ b.nodes
  pub keyless : HasNoGlobals tree
  pub numbered : IsNumbered next tree
  pub components : AreComponents marks tree

-- ---- how far a build has come once it has gone through a tree that it leaves as it is

abbrev pub passed : PlainNode → Progress → Progress
passed n s = record { entered = s.entered + count_of n; met = met_after n s.met; next = s.next; waiting = s.waiting }
