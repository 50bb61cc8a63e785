-- What a build asks of the numbers of the old tree, and keeps in the new one: they tell its nodes apart.
use Rattle.std.specs.Prelude.{◌≡◌, ℕ, ◌<◌, Some, List, [], ◌∷◌, slice_get}
use Rattle.widget_model.specs.Plain.{PlainWidget}
use Rattle.plain_tree.specs.PlainNode.{PlainNode, node, PlainNodes, no_nodes, more_nodes, list_of, widget_of, index_of}
use Rattle.plain_tree.specs.At.{numbers_of}
use Rattle.plain_tree.specs.Laws.{AllDiffer}
use Rattle.build_form.specs.Partner.{widgets_below}
use Rattle.build_form.specs.Laws.{NumbersAre}

-- each of these nodes has the widget that stands at the node's place in a list of widgets
abbrev pub StandAt : List PlainWidget → List PlainNode → Type 0
StandAt ws [] = Unit {0}
StandAt ws (n ∷ ns) = (slice_get ws (index_of n) ≡ Some (widget_of n)) × StandAt ws ns

-- the nodes below each node stand so in its whole list of child widgets
abbrev mutual
  pub IsInPlace : PlainNode → Type 0
  IsInPlace (node number widget fields scroll index children) =
      StandAt (widgets_below (node number widget fields scroll index children)) (list_of children) × AreInPlace children

  pub AreInPlace : PlainNodes → Type 0
  AreInPlace no_nodes = Unit {0}
  AreInPlace (more_nodes n ns) = IsInPlace n × AreInPlace ns

-- no number of a tree stands twice, each is below the next free one, and its nodes stand in place. Without the last, two
-- widgets could go on from one node: one by the global key of the node's widget, the other by the place that the node has
pub record IsNumbered (next : ℕ) (n : PlainNode) : Type 0 where
  pub differ : AllDiffer (numbers_of n)
  pub below : NumbersAre (λ number. number < next) n
  pub placed : IsInPlace n
