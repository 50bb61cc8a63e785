-- Items that stay below a lazy list, worked by hand.
use Rattle.std.specs.Prelude.{◌==◌, Bool}
use Rattle.std.proofs.Common.{◌≡◌, ℕ, refl}
use Rattle.fx_handles.specs.declared.Handle.{Handle}
use Rattle.node_tree.specs.Forest.{Forest}
use Rattle.node_tree.specs.Forest.Forest.{none, tree}
use Rattle.render_tree.specs.Object.{RenderObject}
use Rattle.build_owner.specs.Staying.{bare, redraw_now, left_of}

abbrev at : ℕ → Handle
at n = record { index = n; generation = 0 }

module _ (o : RenderObject) where
  -- three items, the first with one node below it, and the second too
  abbrev items : Forest RenderObject
  items = tree (at 1) o (tree (at 4) o none none) (tree (at 2) o (tree (at 5) o none none) (tree (at 3) o none none))

  -- the second is claimed: the others stay, with what is below them, and what is below the second goes with it
  one_claimed : left_of (λ k. k.index == 2) items ≡ tree (at 1) (redraw_now o) (tree (at 4) (redraw_now o) none none) (tree (at 3) (redraw_now o) none none)
  one_claimed = refl

  -- a node below an item is claimed: the item stays without it
  inner_claimed : left_of (λ k. k.index == 4) items ≡ tree (at 1) (redraw_now o) none (tree (at 2) (redraw_now o) (tree (at 5) (redraw_now o) none none) (tree (at 3) (redraw_now o) none none))
  inner_claimed = refl

-- nothing is below a list, and below another node stands what stood there
below_lists : bare (λ (b : ℕ). b == 1) (tree (at 1) 0 (tree (at 2) 1 (tree (at 3) 0 none none) none) none) ≡ tree (at 1) 0 (tree (at 2) 1 none none) none
below_lists = refl
