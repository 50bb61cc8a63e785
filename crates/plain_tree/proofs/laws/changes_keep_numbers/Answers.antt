use Rattle.plain_tree.proofs.Kept.{fields_keep, scroll_keeps}
use Rattle.plain_tree.proofs.laws.changes_keep_numbers.Goals as goal

pub returns-clause-fields : goal.returns-clause-fields
returns-clause-fields c = fields_keep

pub returns-clause-scroll : goal.returns-clause-scroll
returns-clause-scroll c = scroll_keeps
