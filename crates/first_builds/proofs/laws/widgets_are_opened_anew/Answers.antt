use Rattle.first_builds.proofs.Opening.{new_built, new_too_large, new_not_apart, new_opened, element_for}
use Rattle.first_builds.proofs.laws.widgets_are_opened_anew.Goals as goal

pub returns-clause-built : goal.returns-clause-built
returns-clause-built c = λ b pasts values w place s met room is. new_built b pasts values w place s met room is

pub returns-clause-large : goal.returns-clause-large
returns-clause-large c = λ b pasts values w place s met room is number fields next firsts x e. new_too_large b pasts values w place s met room is number fields next firsts x e

pub returns-clause-apart : goal.returns-clause-apart
returns-clause-apart c = λ b pasts values w place s met room is number fields next firsts ws given x e. new_not_apart b pasts values w place s met room is number fields next firsts ws given x e

pub returns-clause-opened : goal.returns-clause-opened
returns-clause-opened c = λ b pasts values w place s met room is number fields next firsts ws given after e done. new_opened b pasts values w place s met room is number fields next firsts ws given after e done

pub returns-clause-element : goal.returns-clause-element
returns-clause-element c = λ scrolled w place number fields ws e n wi f p u st. element_for scrolled w place number fields ws e n wi f p u st
