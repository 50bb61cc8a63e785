use Rattle.std.proofs.Common.{◌≤◌, ◌+◌, ◌-◌, length, take, drop, refl, arith}
use Rattle.std.proofs.lemmas.List.{length-drop, length-take}
use Rattle.fx_outside.proofs.Joined.{so_far_more}
use Rattle.fx_outside.proofs.Pieces.{next_bytes}
use Rattle.frame_run.proofs.output.write_all.Goals as goal

pub loop-at-preserved : goal.loop-at-preserved
loop-at-preserved g c =
    let text = c.args.text.now in
    let at = c.loop-at.at in
    let count = c.in-Took.count in
    let piece = take (length text - at) (drop at text) in
    let fits : count ≤ length piece = c.in-Took.ensures.bytes.1 in
    record {
      within = omega (arith, fits, length-take (length text - at) (drop at text), length-drop at text);
      so_far = so_far_more _ _ _ text (drop at text) (take count piece) (drop (at + count) text) c.loop-at.invariant.so_far
          (next_bytes text text (drop at text) (take count piece) at count refl refl refl) c.in-Took.ensures.bytes.2;
      later = omega arith;
    }
