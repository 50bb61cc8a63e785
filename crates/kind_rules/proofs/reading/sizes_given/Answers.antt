use Rattle.std.proofs.Common.{ap, refl, ◌∙◌, Option, [], ◌∷◌, rules}
use Rattle.plain_tree.specs.declared.laid.Frame.{Frame}
use Rattle.kind_rules.proofs.Loops.{fills_start, fills_over}
use Rattle.kind_rules.proofs.Lists.{sizes_there, there_more}
use Rattle.kind_rules.proofs.reading.sizes_given.Goals as goal

pub loop-frame-init : goal.loop-frame-init
loop-frame-init c = record {
  same = fills_start sizes_there c.args.frames.now _ c.in_ok-sizes.ensures.items;
  count = search rules;
  room = search rules;
}

pub loop-frame-preserved : goal.loop-frame-preserved
loop-frame-preserved c = record {
  same = there_more c.args.frames.now c.loop-frame.frame-index c.frame-item.result c.in-Some.size c.loop-frame.sizes.items _ _ c.loop-frame-test.true
      c.push_reserved.ensures.items (c.in-Some.ensures ∙ ap (λ (s : Option Frame). sizes_there (s ∷ [])) c.frame-item.is) c.loop-frame.invariant.same;
  count = search rules;
  room = search rules;
}

pub returns : goal.returns
returns c =
    fills_over sizes_there c.args.frames.now c.loop-frame.frame-index c.loop-frame.sizes.items _ refl c.loop-frame-test.false c.loop-frame.invariant.same
