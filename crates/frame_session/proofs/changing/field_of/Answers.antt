use Rattle.std.proofs.Common.{rules}
use Rattle.widget_model.specs.View.{look_in}
use Rattle.frame_session.proofs.LineLemmas.{field_set, field_unset, field_fits}
use Rattle.frame_session.proofs.changing.field_of.Goals as goal

pub returns-in-Some-clause-set : goal.returns-in-Some-clause-set
returns-in-Some-clause-set c number scroll bytes s =
    field_set _ number c.in-Fields.declaration.now c.args.fields.now c.args.name.now c.in-Some.field bytes s (c.in-Fields.ensures number scroll) (search rules)

pub returns-in-Some-clause-place : goal.returns-in-Some-clause-place
returns-in-Some-clause-place c d n bytes v built look same read =
    field_fits d n (look_in c.args.kind.now) c.args.fields.now c.in-Fields.declaration.now c.args.name.now bytes c.in-Some.field v built look same c.in-Fields.ensures (search rules) read

pub returns-in-None-clause-set : goal.returns-in-None-clause-set
returns-in-None-clause-set c number scroll bytes s =
    field_unset _ number c.in-Fields.declaration.now c.args.fields.now c.args.name.now bytes s (c.in-Fields.ensures number scroll) (search rules)
