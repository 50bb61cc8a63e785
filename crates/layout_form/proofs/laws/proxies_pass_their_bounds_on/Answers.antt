use Rattle.layout_form.proofs.Proxies.{proxies, box_framed, proxy_below}
use Rattle.layout_form.proofs.laws.proxies_pass_their_bounds_on.Goals as goal

pub returns-clause-kinds : goal.returns-clause-kinds
returns-clause-kinds c = proxies

pub returns-clause-children : goal.returns-clause-children
returns-clause-children c = proxy_below

pub returns-clause-holds : goal.returns-clause-holds
returns-clause-holds c = box_framed
