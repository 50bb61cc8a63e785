use Rattle.std.proofs.Common.{refl}
use Rattle.build_form.proofs.Layable.{vanish_alone}
use Rattle.plain_build.proofs.Ranged.{top_can_be_laid_out, ranges_same}
use Rattle.plain_build.proofs.ranges.ranges_in.Goals as goal

pub project_root-requires : goal.project_root-requires
project_root-requires g c = vanish_alone c.requires.built.0 c.args.tree.now c.requires.built.1

pub lay_view-requires : goal.lay_view-requires
lay_view-requires g c = top_can_be_laid_out c.requires.built.0 c.args.tree.now c.in_ok-top.top c.requires.built.1 c.requires.few c.in_ok-top.ensures

pub returns : goal.returns
returns g c = ranges_same _ c.args.tree.now c.in_ok-top.top c.in_ok-top.ensures c.in_ok-laid.laid (record { views = c.in_ok-lazy_views.field-0; widen = c.args.scale.widen }) c.in_ok-laid.ensures c.in_ok-lazy_views.ensures refl
