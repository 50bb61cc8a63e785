use Rattle.std.proofs.Common.{◌≡◌, ◌≤◌}
use Rattle.layout_form.specs.Framed.{last_asks}
use Rattle.kind_rules.specs.Few.{items_of}
use Rattle.layout_rules.proofs.Repainting.{Moving}
use Rattle.layout_rules.proofs.Standings.{Standing}
use Rattle.layout_rules.proofs.writing.stand_all.Given as goal

abbrev pub invariant-loop-i : goal.invariant-loop-i
invariant-loop-i l = record {
  stands : Standing l.initial.r.tree l.r.tree l.h l.i l.j l.i-end (last_asks (items_of l.first) (items_of l.rest)) l.places;
  scale : l.r.scale ≡ l.initial.r.scale;
  spent : l.r.spent ≡ l.initial.r.spent;
  few : l.j ≤ l.i;
  moving : Moving l.initial.r.tree l.r.tree l.h l.i l.moved;
}
