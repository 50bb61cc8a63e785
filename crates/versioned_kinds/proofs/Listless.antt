-- Builds of programs without lazy lists have none.
use Rattle.std.proofs.Common.{◌≡◌, ℕ, Option, []}
use Rattle.widget_model.specs.Plain.{PlainWidget, plain, look_of}
use Rattle.plain_tree.specs.PlainNode.{PlainNode, node, PlainNodes, no_nodes, more_nodes}
use Rattle.program_check.specs.Checked.{PlainChecked}
use Rattle.build_form.specs.FullBuild.{first_tree}
use Rattle.build_form.specs.KeptStates.{AllAre}
use Rattle.build_form.specs.Program.{blueprint_of}
use Rattle.build_form.specs.Step.{Progress, gives}
use Rattle.versioned_kinds.specs.Lists.{IsNoList, HasNoLists, HasNoListBodies, WidgetHasNoLists}
use Rattle.versioned_kinds.specs.Widgets.{WidgetsMeet}
use Rattle.versioned_kinds.proofs.Built.{first_meets}
use Rattle.versioned_kinds.proofs.Outputs.{outputs_list_nothing}
use Rattle.versioned_kinds.proofs.Waiting.{none_waits}

look_alone : (w : PlainWidget) → WidgetHasNoLists w → IsNoList (look_of w)
look_alone (plain look key slots children) h = h.0

mutual
  none_there : (n : PlainNode) → WidgetsMeet WidgetHasNoLists n → HasNoLists n
  none_there (node number widget fields scroll index children) h = (look_alone widget h.0, none_below children h.1)

  none_below : (ns : PlainNodes) → AllAre (λ number widget fields scroll. WidgetHasNoLists widget) ns → AllAre (λ number widget fields scroll. IsNoList (look_of widget)) ns
  none_below no_nodes h = tt
  none_below (more_nodes n ns) h = (none_there n h.0, none_below ns h.1)

pub built_without_lists : (c : PlainChecked) (old : Option PlainNode) (next : ℕ) (root : PlainWidget) (tree : PlainNode) (s : Progress) → HasNoListBodies c → WidgetHasNoLists root
    → first_tree (blueprint_of c) old next root ≡ gives tree s → HasNoLists tree × (s.waiting ≡ [])
built_without_lists c old next root tree s bodies widget is =
    let none = none_there tree (first_meets IsNoList (blueprint_of c) old (outputs_list_nothing c bodies) next root tree s widget is) in
    (none, none_waits (blueprint_of c) old next root tree s is none)
