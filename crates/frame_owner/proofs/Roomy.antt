-- There is room for the nodes of a frame.
use Rattle.std.proofs.Common.{◌≡◌, ℕ, ◌+◌, ◌*◌, ◌<◌, ◌≤◌, ◌^◌, Bool, true, false, if◌then◌else◌, nat_lt, arith}
use Rattle.fx_geom.specs.Scale.{standard_scale, fine_scale}
use Rattle.fx_handles.specs.Arena.{Arena, used_count, retired_count, generation_sum, inserted_count}
use Rattle.program_check.specs.Checked.{PlainChecked}
use Rattle.build_form.specs.Program.{blueprint_of}
use Rattle.element_tree.specs.Element.{made_count}
use Rattle.frame_owner.specs.Frame.{KeptFrame}
use Rattle.frame_owner.specs.Rooms.{HasRoomAfter}

nodes_few : (b : Bool) → (if b then standard_scale else fine_scale).nodes ≤ 1048576
nodes_few true = omega arith
nodes_few false = omega arith

pub nodes_of_few : (c : PlainChecked) → (blueprint_of c).nodes ≤ 1048576
nodes_of_few c = nodes_few (nat_lt c.version 3)

-- where so many frames made at most 2^20 nodes each, and 2^20 are there at most, that many have room
pub room_left : {X : Type 0} (a : Arena X) (frames nodes : ℕ) → retired_count a * 4294967295 ≤ generation_sum a → inserted_count a ≤ frames * 1048576 → frames < 2 ^ 32 → used_count a ≤ 1048576 → nodes ≤ 1048576
    → used_count a + retired_count a + nodes ≤ 4194304 + 0
room_left a frames nodes spent made few used count = omega (arith, spent, made, few, used, count)

pub room_after : (frames : ℕ) (x y : KeptFrame) (count nodes : ℕ) → nodes ≤ 1048576 → count ≤ nodes → used_count y.elements.nodes ≡ count → used_count y.screen.nodes.nodes ≤ count
    → made_count y.elements + 1 ≤ (made_count x.elements + 1) + nodes
    → inserted_count y.screen.nodes.nodes + made_count x.elements ≤ inserted_count x.screen.nodes.nodes + made_count y.elements → HasRoomAfter frames x → HasRoomAfter (frames + 1) y
room_after frames x y count nodes limit small used drawn given few had =
    let made = had.made in
    let inserted = had.made_drawn in
    record {
      elements = omega (arith, limit, small, used);
      renders = omega (arith, limit, small, drawn);
      made = omega (arith, limit, given, made);
      made_drawn = omega (arith, limit, given, few, inserted);
    }
