use Rattle.widget_model.specs.View.{look_in}
use Rattle.layout_form.specs.Single.{around}
use Rattle.layout_form.specs.Frames.{frames_given}
use Rattle.delegates.specs.Table.{meant_in}
use Rattle.layout_form.specs.Object.{setting_of}
use Rattle.kind_rules.proofs.OneChild.{none_made, some_made, child_long, some_long}
use Rattle.kind_rules.proofs.around.alone_made.Goals as goal

pub returns-in-None : goal.returns-in-None
returns-in-None g c =
    none_made
    (around (setting_of c.args.scale (meant_in c.args.table.now (λ v. (g.dyn-1.0.entry v).1))) (look_in c.args.kind.now) c.args.b 0)
    c.args.b (frames_given c.args.frames.now) c.around_size.result _ c.in-None.ensures c.around_size.ensures.value c.sized.ensures

pub returns-in-Some : goal.returns-in-Some
returns-in-Some g c =
    some_made
    (around (setting_of c.args.scale (meant_in c.args.table.now (λ v. (g.dyn-1.0.entry v).1))) (look_in c.args.kind.now) c.args.b 0)
    c.args.b (frames_given c.args.frames.now) c.in-Some.frame c.box_size-inner.result c.around_size-size.result c.around_place.result _ c.in-Some.ensures c.box_size-inner.ensures
    c.around_size-size.ensures.value c.around_place.ensures c.sized-in-Some.ensures

pub around_size-size-requires : goal.around_size-size-requires
around_size-size-requires g c =
    some_long c.box_size-inner.result
    (child_long (frames_given c.args.frames.now) c.in-Some.frame c.box_size-inner.result c.requires.sizes c.in-Some.ensures c.box_size-inner.ensures)

pub around_place-requires-clause-child : goal.around_place-requires-clause-child
around_place-requires-clause-child g c =
    child_long (frames_given c.args.frames.now) c.in-Some.frame c.box_size-inner.result c.requires.sizes c.in-Some.ensures c.box_size-inner.ensures
