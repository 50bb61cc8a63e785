use Rattle.std.proofs.Common.{◌≡◌, take}
use Rattle.fx_handles.specs.declared.Handle.{Handle}
use Rattle.fx_handles.specs.Handle.{same}
use Rattle.indexmap.specs.IndexSet.{contains_by}
use Rattle.node_tree.specs.Part.{is_named}
use Rattle.build_owner.proofs.staying.named_by.Given as goal

abbrev pub invariant-loop-entry : goal.invariant-loop-entry
invariant-loop-entry l = (h : Handle) → contains_by (same h) l.named ≡ is_named (take l.entry-index l.plan) h
