use Rattle.fx_geom.specs.Insets.{extent_of, other_of}
use Rattle.sliver_layout.specs.Slivers.{walk_from}
use Rattle.layout_form.specs.SliverRule.{view_size}
use Rattle.layout_walk.proofs.Viewing.{asks_by_extents, ask_views}
use Rattle.layout_walk.proofs.laws.views_follow_extents.Goals as goal

pub returns-clause-asks : goal.returns-clause-asks
returns-clause-asks c = asks_by_extents

pub returns-clause-views : goal.returns-clause-views
returns-clause-views c = λ axis start b extents. ask_views axis (extent_of (view_size b) axis) (extent_of (view_size b) (other_of axis)) (walk_from start) extents
