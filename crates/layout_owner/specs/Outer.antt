-- What an outer flush leaves.
use Rattle.std.specs.Prelude.{◌≡◌, ℕ, if◌then◌else◌, Option, Some, None, List, []}
use Rattle.fx_handles.specs.declared.Handle.{Handle}
use Rattle.node_tree.specs.Tree.{Tree}
use Rattle.plain_tree.specs.declared.laid.Frame.{Frame}
use Rattle.plain_tree.specs.Laid.{Laid}
use Rattle.render_tree.specs.Object.{RenderObject}
use Rattle.render_tree.specs.Plain.{root_tree}
use Rattle.render_tree.specs.Tree.{object_at}
use Rattle.layout_walk.specs.Items.{lists_of}
use Rattle.layout_walk.specs.Rules.{is_list}
use Rattle.layout_rules.specs.Painting.{PaintsAnew, PaintsFew}
use Rattle.layout_owner.specs.Ranges.{lists_in_window, is_among, range_of, KeepsButRanges}

-- the lists of a laid tree, if there is one
abbrev pub lists_laid : Option Laid → List (ℕ × Frame)
lists_laid None = []
lists_laid (Some l) = lists_of is_list l

-- each lazy list that counts as laid has its live range, and no other node has one
abbrev pub AreRanged : ℕ → Tree RenderObject → Type 0
AreRanged widen t = (k : Handle) (o : RenderObject) → object_at t k ≡ Some o
    → o.live ≡ (if is_among k (lists_in_window (root_tree t)) then range_of widen o else None)

-- a layout leaves this, with the marks for painting of the nodes that don't look as before, and then live ranges alone are changed
pub record PaintsThenRanges (old new : Tree RenderObject) : Type 0 where
  pub laid : Tree RenderObject
  pub paints : PaintsAnew old laid
  pub ranges : KeepsButRanges laid new

-- and no more nodes are marked than rules were run
pub record PaintsFewThenRanges (old new : Tree RenderObject) (before after : ℕ) : Type 0 where
  pub laid : Tree RenderObject
  pub paints : PaintsFew old laid before after
  pub ranges : KeepsButRanges laid new
