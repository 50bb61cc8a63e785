use Rattle.build_form.proofs.Alike.{fields_keep, scroll_keeps, offsets_keep}
use Rattle.build_form.proofs.laws.changes_keep_numbering.Goals as goal

pub returns-clause-fields : goal.returns-clause-fields
returns-clause-fields c = λ f wanted next n h. fields_keep f wanted next n h

pub returns-clause-scroll : goal.returns-clause-scroll
returns-clause-scroll c = λ scroll wanted next n h. scroll_keeps scroll wanted next n h

pub returns-clause-offsets : goal.returns-clause-offsets
returns-clause-offsets c = λ offset next n h. offsets_keep offset next n h
