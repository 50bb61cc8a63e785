use Rattle.std.proofs.Common.{◌≡◌, ◌≤◌, ◌++◌, drop}
use Rattle.layout_form.specs.Frames.{frames_given, geometries_by, walk_places}
use Rattle.kind_rules.specs.Walks.{IsSeen}
use Rattle.kind_rules.proofs.viewport.view_places.Given as goal

abbrev pub invariant-loop-frame : goal.invariant-loop-frame
invariant-loop-frame l =
    let left = geometries_by (frames_given (drop l.frame-index l.frames)) in record {
      same : l.places.items ++ walk_places l.axis l.walk left ≡ walk_places l.axis l.initial.walk (geometries_by (frames_given l.frames));
      seen : IsSeen l.main l.walk left;
      inside : l.walk.at ≤ l.main;
    }
