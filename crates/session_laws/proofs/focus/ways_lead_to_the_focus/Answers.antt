use Rattle.session_laws.proofs.FocusLemmas.{takes_of, of_takes}
use Rattle.session_laws.proofs.WayLemmas.{way_of, spot_of}
use Rattle.session_laws.proofs.focus.ways_lead_to_the_focus.Goals as goal

pub returns-clause-spots : goal.returns-clause-spots
returns-clause-spots c = λ root from spot. (way_of root from spot, spot_of root from spot)

pub returns-clause-order : goal.returns-clause-order
returns-clause-order c = λ root number differ.
    let same = c.order_has_each_once.ensures.each root differ in
    (takes_of root number same, of_takes root number same)
