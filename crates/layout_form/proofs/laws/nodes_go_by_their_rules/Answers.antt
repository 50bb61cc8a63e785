use Rattle.layout_form.proofs.Objects.{object_data, object_box, object_sliver, object_extent}
use Rattle.layout_form.proofs.laws.nodes_go_by_their_rules.Goals as goal

pub returns-clause-parent_data : goal.returns-clause-parent_data
returns-clause-parent_data c = object_data

pub returns-clause-in_bounds : goal.returns-clause-in_bounds
returns-clause-in_bounds c = object_box

pub returns-clause-in_view : goal.returns-clause-in_view
returns-clause-in_view c = object_sliver

pub returns-clause-greatest : goal.returns-clause-greatest
returns-clause-greatest c = object_extent
