use Rattle.layout_form.proofs.Again.{object_like}
use Rattle.layout_form.proofs.laws.sizes_see_no_offsets.Goals as goal

pub returns-clause-boxes : goal.returns-clause-boxes
returns-clause-boxes c s r offset = (object_like offset s r).size

pub returns-clause-slivers : goal.returns-clause-slivers
returns-clause-slivers c s r offset = (object_like offset s r).geometry

pub returns-clause-greatest : goal.returns-clause-greatest
returns-clause-greatest c s r offset = (object_like offset s r).greatest
