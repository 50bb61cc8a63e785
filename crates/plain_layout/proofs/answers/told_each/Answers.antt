use Rattle.std.proofs.Common.{map, refl, ap, ◌∙◌, rules}
use Rattle.layout_form.specs.Fits.{data_of}
use Rattle.plain_layout.proofs.Loops.{fills_start, fills_over, maps_on}
use Rattle.plain_layout.proofs.answers.told_each.Goals as goal

pub loop-child-init : goal.loop-child-init
loop-child-init c = record {
  same = fills_start (map data_of) c.args.children.now _ c.in_ok-told.ensures.items;
  count = search rules;
  room = search rules;
}

pub loop-child-preserved : goal.loop-child-preserved
loop-child-preserved c = record {
  same = maps_on data_of c.args.children.now c.loop-child.child-index _ _ c.loop-child.told.items _ _ c.loop-child-test.true c.push_reserved.ensures.items
      (ap data_of (c.child.view_is ∙ c.child-item.is)) c.loop-child.invariant.same;
  count = search rules;
  room = search rules;
}

pub returns : goal.returns
returns c =
    fills_over (map data_of) c.args.children.now c.loop-child.child-index c.loop-child.told.items _ refl c.loop-child-test.false c.loop-child.invariant.same
