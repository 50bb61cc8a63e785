-- When what is known of the last frame's tree is right: each component has below it what its body gives, unless it is marked.
use Rattle.std.specs.Prelude.{◌≡◌, ℕ, ◌≤◌, false, Option, Some, IfSome, List, [], ◌∷◌, map, length}
use Rattle.fx_expr.specs.declared.values.Value.{Value}
use Rattle.widget_model.specs.Plain.{PlainWidget, look_of, slots_of}
use Rattle.widget_model.specs.Size.{count_in}
use Rattle.plain_tree.specs.PlainNode.{PlainNode, node, PlainNodes, no_nodes, more_nodes, list_of, number_of, widget_of, fields_of}
use Rattle.build_form.specs.BuildRole.{BuildRole, composes, provides, keeps, lists, holds, build_role_of}
use Rattle.build_form.specs.Entering.{Blueprint, output_limit, values_below}
use Rattle.work_sets.specs.Due.{names_read}
use Rattle.build_walk.specs.Reading.{AgreeAt}
use Rattle.build_walk.specs.Past.{Past, Pasts, is_marked}

-- what the body of a component gives: of a widget, at a node of a number with some fields, where the inherited names have these values.
-- No other kind has a body
abbrev pub output_by : Blueprint → BuildRole → PlainWidget → List Value → List Value → ℕ → List PlainWidget
output_by b (composes place props) w fields values number = b.output place props (slots_of w) fields values number
output_by b (provides name value) w fields values number = []
output_by b (keeps kept) w fields values number = []
output_by b (lists extent) w fields values number = []
output_by b holds w fields values number = []

-- what a component's body gives depends on the inherited names alone that its declaration lists
abbrev pub ReadsItsNames : Blueprint → PlainWidget → Type 0
ReadsItsNames b w =
    (names : List ℕ) (fields was now : List Value) (number : ℕ) → names_read (look_of w) ≡ Some names
    → length was ≡ length b.defaults → length now ≡ length b.defaults → AgreeAt names was now
    → output_by b (build_role_of (look_of w)) w fields was number ≡ output_by b (build_role_of (look_of w)) w fields now number

-- these widgets are what the body of a component gives, and not too many
abbrev pub HasOutput : Blueprint → BuildRole → PlainWidget → List Value → List Value → ℕ → List PlainWidget → Type 0
HasOutput b (composes place props) w fields values number ws =
    (ws ≡ b.output place props (slots_of w) fields values number) × (count_in ws ≤ output_limit)
HasOutput b (provides name value) w fields values number ws = Unit {0}
HasOutput b (keeps kept) w fields values number ws = Unit {0}
HasOutput b (lists extent) w fields values number ws = Unit {0}
HasOutput b holds w fields values number ws = Unit {0}

-- ---- of a tree, where some numbers are marked and the inherited names have these values above it

abbrev mutual
  pub HasFreshOutputs : Blueprint → List ℕ → List Value → PlainNode → Type 0
  HasFreshOutputs b marks values (node number widget fields scroll index children) =
      (is_marked marks number ≡ false → HasOutput b (build_role_of (look_of widget)) widget fields values number (map widget_of (list_of children)))
      × HaveFreshOutputs b marks (values_below widget values) children

  pub HaveFreshOutputs : Blueprint → List ℕ → List Value → PlainNodes → Type 0
  HaveFreshOutputs b marks values no_nodes = Unit {0}
  HaveFreshOutputs b marks values (more_nodes n ns) = HasFreshOutputs b marks values n × HaveFreshOutputs b marks values ns

-- ---- of what is known of nodes

pub record IsPastOf (b : Blueprint) (n : PlainNode) (p : Past) : Type 0 where
  pub widget : p.widget ≡ widget_of n
  pub long : length p.values ≡ length b.defaults
  pub reads : ReadsItsNames b p.widget
  pub output : p.marked ≡ false → HasOutput b (build_role_of (look_of p.widget)) p.widget (fields_of n) p.values (number_of n) p.output

-- what is known of a node, if anything, and of all below it, is right
abbrev mutual
  pub IsKnown : Blueprint → Pasts → PlainNode → Type 0
  IsKnown b pasts (node number widget fields scroll index children) =
      IfSome (pasts number) (IsPastOf b (node number widget fields scroll index children)) × AreKnown b pasts children

  pub AreKnown : Blueprint → Pasts → PlainNodes → Type 0
  AreKnown b pasts no_nodes = Unit {0}
  AreKnown b pasts (more_nodes n ns) = IsKnown b pasts n × AreKnown b pasts ns

-- and so it is of what waiting lists go on from
abbrev pub WaitKnown : Blueprint → Pasts → List (Option PlainNode) → Type 0
WaitKnown b pasts [] = Unit {0}
WaitKnown b pasts (partner ∷ others) = IfSome partner (IsKnown b pasts) × WaitKnown b pasts others
