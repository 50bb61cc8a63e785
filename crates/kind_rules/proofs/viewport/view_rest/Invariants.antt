use Rattle.std.proofs.Common.{◌≡◌, ◌≤◌, ◌++◌, drop}
use Rattle.layout_form.specs.Frames.{extents_by, views_by}
use Rattle.kind_rules.proofs.viewport.view_rest.Given as goal

abbrev pub invariant-loop-frame : goal.invariant-loop-frame
invariant-loop-frame l = record {
  same : l.asks.items ++ views_by l.axis l.main l.cross l.walk (extents_by (drop l.frame-index l.frames)) ≡ views_by l.axis l.main l.cross l.initial.walk (extents_by l.frames);
  inside : l.walk.at ≤ l.main;
}
