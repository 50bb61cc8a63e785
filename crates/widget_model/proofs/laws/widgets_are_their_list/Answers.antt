use Rattle.widget_model.specs.PlainLaws.{list_of-widgets_of, counts_of-widgets_of}
use Rattle.widget_model.proofs.laws.widgets_are_their_list.Goals as goal

pub returns-clause-list : goal.returns-clause-list
returns-clause-list c = list_of-widgets_of

pub returns-clause-count : goal.returns-clause-count
returns-clause-count c = counts_of-widgets_of
