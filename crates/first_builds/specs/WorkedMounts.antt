-- What is put where, worked out by hand.
use Rattle.std.specs.Prelude.{◌≡◌, ℕ, Some, None}
use Rattle.fx_handles.specs.declared.Handle.{Handle}
use Rattle.node_tree.specs.Forest.{Forest}
use Rattle.node_tree.specs.Forest.Forest.{none, tree}
use Rattle.node_tree.specs.Mounting.{put_last}

abbrev pub at : ℕ → Handle
at i = record { index = i; generation = 0 }

abbrev pub leaf : ℕ → Forest ℕ
leaf i = tree (at i) i none none

-- the root; its first and its second child; a child of the first one
pub record WorksOfMounts : Type 0 where
  pub root : put_last None (leaf 1) none ≡ leaf 1
  pub child : put_last (Some (at 1)) (leaf 2) (leaf 1) ≡ tree (at 1) 1 (leaf 2) none
  pub next : put_last (Some (at 1)) (leaf 3) (tree (at 1) 1 (leaf 2) none) ≡ tree (at 1) 1 (tree (at 2) 2 none (leaf 3)) none
  pub below : put_last (Some (at 2)) (leaf 4) (tree (at 1) 1 (tree (at 2) 2 none (leaf 3)) none) ≡ tree (at 1) 1 (tree (at 2) 2 (leaf 4) (leaf 3)) none
  pub absent : put_last (Some (at 5)) (leaf 4) (tree (at 1) 1 (leaf 2) none) ≡ tree (at 1) 1 (leaf 2) none
