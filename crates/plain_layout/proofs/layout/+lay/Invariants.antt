-- How many nodes a call is given, and the slots so far.
use Rattle.std.proofs.Common.{◌≡◌, ◌++◌, length, take, drop, None}
use Rattle.delegates.specs.Table.{meant_in}
use Rattle.plain_tree.specs.Render.{count_of}
use Rattle.layout_form.specs.Object.{setting_of}
use Rattle.kind_rules.specs.Few.{items_of}
use Rattle.kind_rules.specs.Asks.{asks_of}
use Rattle.plain_layout.specs.Slivers.{next_slots, AllTasks}
use Rattle.plain_layout.proofs.layout.+lay.Given as goal

abbrev pub decreases-lay : goal.decreases-lay
decreases-lay g l = count_of l.node.now

abbrev pub invariant-loop-i : goal.invariant-loop-i
invariant-loop-i g l =
    let s = setting_of l.scale (meant_in l.table (λ v. (g.dyn-1.0.entry v).1)) in record {
      same : take l.i (items_of l.slots) ++ next_slots s l.view (drop l.i (asks_of l.asks)) (drop l.i (items_of l.slots)) (drop l.i l.children)
          ≡ next_slots s l.view (asks_of l.asks) (items_of l.initial.slots) l.children;
      ready : AllTasks s l.view (drop l.i (asks_of l.asks)) (drop l.i (items_of l.slots)) (drop l.i l.children);
      slots : length (items_of l.slots) ≡ length l.children;
    }

abbrev pub invariant-loop-i-2 : goal.invariant-loop-i-2
invariant-loop-i-2 g l =
    let s = setting_of l.scale (meant_in l.table (λ v. (g.dyn-1.0.entry v).1)) in record {
      same : take l.i (items_of l.slots) ++ next_slots s None (drop l.i (asks_of l.then.asks)) (drop l.i (items_of l.slots)) (drop l.i l.children)
          ≡ next_slots s None (asks_of l.then.asks) (items_of l.initial.slots) l.children;
      ready : AllTasks s None (drop l.i (asks_of l.then.asks)) (drop l.i (items_of l.slots)) (drop l.i l.children);
      slots : length (items_of l.slots) ≡ length l.children;
    }
