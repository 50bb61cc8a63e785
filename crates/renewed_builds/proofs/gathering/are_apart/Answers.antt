use Rattle.std.proofs.Common.{◌∙◌, map}
use Rattle.widget_model.specs.View.{shared}
use Rattle.renewed_builds.proofs.Followed.{apart_is}
use Rattle.renewed_builds.proofs.gathering.are_apart.Goals as goal

pub returns : goal.returns
returns c =
    apart_is (map shared c.args.widgets.now) c.as_slice.result.now (c.as_slice.ensures.value ∙ c.in_ok-keys.ensures) c.in_ok-first_repeat.field-0
    c.in_ok-first_repeat.ensures.repeat c.in_ok-first_repeat.ensures.least c.in_ok-first_repeat.ensures.none c.is_none.result c.is_none.ensures
