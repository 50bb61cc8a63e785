-- Room for the nodes of a frame.
use Rattle.std.specs.Prelude.{ℕ, ◌*◌, ◌≤◌}
use Rattle.fx_handles.specs.Arena.{used_count, inserted_count}
use Rattle.element_tree.specs.Element.{made_count}
use Rattle.frame_owner.specs.Frame.{KeptFrame}

-- at most 2^20 elements and as many render nodes are there, and so many frames made at most 2^20 of either each: so there is always room
-- for those of the next
pub record HasRoomAfter (frames : ℕ) (x : KeptFrame) : Type 0 where
  pub elements : used_count x.elements.nodes ≤ 1048576
  pub renders : used_count x.screen.nodes.nodes ≤ 1048576
  pub made : made_count x.elements ≤ frames * 1048576
  pub made_drawn : inserted_count x.screen.nodes.nodes ≤ frames * 1048576
