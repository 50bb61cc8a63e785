use Rattle.layout_form.specs.Object.{size_in}
use Rattle.layout_form.specs.Layout.{object}
use Rattle.layout_form.proofs.Meets.{object_meets, within_lengths}
use Rattle.layout_form.proofs.Extents.{object_likes, object_gives}
use Rattle.layout_form.proofs.laws.sides_are_lengths.Goals as goal

pub returns-clause-boxes : goal.returns-clause-boxes
returns-clause-boxes c s r b = within_lengths b (size_in ((object s r).in_bounds b)) ((object_meets s r).within b)

pub returns-clause-slivers : goal.returns-clause-slivers
returns-clause-slivers c s r b = (object_gives s r b).scroll

pub returns-clause-greatest : goal.returns-clause-greatest
returns-clause-greatest c s r = (object_likes s r).small
