use Rattle.layout_form.proofs.Fixed.{blind_asks, blind_makes}
use Rattle.layout_form.proofs.laws.hidden_boxes_are_blind.Goals as goal

pub returns-clause-asks : goal.returns-clause-asks
returns-clause-asks c = blind_asks

pub returns-clause-makes : goal.returns-clause-makes
returns-clause-makes c = blind_makes
