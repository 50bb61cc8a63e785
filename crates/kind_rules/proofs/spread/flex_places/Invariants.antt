use Rattle.std.proofs.Common.{◌≡◌, ◌^◌, ◌≤◌, ◌++◌, drop, length, vec_len, vec_capacity}
use Rattle.std.specs.List.{All}
use Rattle.fx_geom.specs.Insets.{extent_of, other_of}
use Rattle.fx_geom.specs.Size.{HasLengths}
use Rattle.layout_form.specs.Frames.{frames_given, sizes_by}
use Rattle.kind_rules.proofs.FlexPlaces.{left_from}
use Rattle.kind_rules.proofs.spread.flex_places.Given as goal

abbrev pub invariant-loop-i : goal.invariant-loop-i
invariant-loop-i g l =
    let across = extent_of l.whole (other_of l.line.axis) in
    let left = sizes_by (frames_given (drop l.i (g.F.Family.frames l.family))) in record {
      same : l.offsets.items ++ left_from l.line.axis l.line.cross across l.between l.at left
          ≡ left_from l.line.axis l.line.cross across l.between l.initial.at (sizes_by (frames_given (g.F.Family.frames l.family)));
      small : l.at ≤ 2 ^ 40;
      long : All HasLengths left;
      count : vec_len l.offsets ≤ l.i;
      room : length (g.F.Family.frames l.family) ≤ vec_capacity l.offsets;
    }
