-- How far the components have been built anew.
use Rattle.std.proofs.Common.{◌≡◌, ◌+◌, ◌≤◌, length}
use Rattle.fx_handles.specs.declared.Handle.{Handle}
use Rattle.node_tree.specs.Edits.{KeepsHandles}
use Rattle.program_check.specs.CheckedView.{plain_checked}
use Rattle.element_tree.specs.Element.{number_at}
use Rattle.global_keys.specs.Holders.{Registry}
use Rattle.global_keys.specs.Named.{NamesExactly}
use Rattle.renewed_builds.specs.Several.{IsStaleTree}
use Rattle.renewed_builds.proofs.Gone.{HasGone}
use Rattle.renewed_builds.proofs.several.renew_all.Given as goal

abbrev pub invariant-loop-h : goal.invariant-loop-h
invariant-loop-h g l =
    ((x : IsStaleTree (plain_checked l.checked) l.fn.t.tree l.hs) → HasGone (plain_checked l.checked) l.fn.t.tree l.t.tree l.hs x l.h-index l.changes.items)
    × (l.builds ≡ l.fn.builds + l.h-index)
    × ((r : Registry) → NamesExactly r l.fn.t.tree → NamesExactly r l.t.tree)
    × ((k : Handle) → number_at l.t.tree k ≡ number_at l.fn.t.tree k)
    × KeepsHandles l.fn.t.tree.nodes l.t.tree.nodes
    × (l.t.tree.root ≡ l.fn.t.tree.root)
    × (l.h-index ≤ length l.hs)
