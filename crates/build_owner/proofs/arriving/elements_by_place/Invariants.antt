use Rattle.std.proofs.Common.{◌≡◌, ◌<◌, ℕ, Some, None, IfSome, List, length, map, slice_index_or, drop}
use Rattle.std.specs.List.{All}
use Rattle.fx_handles.specs.Handle.{Among}
use Rattle.plain_tree.specs.PlainNode.{PlainNode}
use Rattle.build_form.specs.Partner.{node_at}
use Rattle.build_walk.specs.Kept.{plain_at, plain_at_any}
use Rattle.build_owner.proofs.arriving.elements_by_place.Given as goal

abbrev pub invariant-loop-k : goal.invariant-loop-k
invariant-loop-k l =
    (length l.by_place.items ≡ l.count)
    × All (λ o. IfSome o (λ k. Among k l.handles)) l.by_place.items
    × ((scrolled : ℕ → ℕ) (nodes : List PlainNode) → map (plain_at scrolled l.t.tree) l.handles ≡ map Some nodes
    → (j : ℕ) → j < l.count → plain_at_any scrolled l.t.tree (slice_index_or l.by_place.items j None) ≡ node_at (drop l.k nodes) j)
