use Rattle.node_tree.proofs.Children.{keeps-keeps, loose-keeps, value-keeps, stands-keeps, subtree-keeps, all-live, mapped_is}
use Rattle.node_tree.proofs.Tree.keep_laws.Goals as goal

pub returns-clause-again : goal.returns-clause-again
returns-clause-again g c = keeps-keeps

pub returns-clause-loose : goal.returns-clause-loose
returns-clause-loose g c = λ old new h v adds. loose-keeps old new h v 0 adds

pub returns-clause-value : goal.returns-clause-value
returns-clause-value g c = value-keeps

pub returns-clause-stands : goal.returns-clause-stands
returns-clause-stands g c = stands-keeps

pub returns-clause-subtree : goal.returns-clause-subtree
returns-clause-subtree g c = subtree-keeps

pub returns-clause-live : goal.returns-clause-live
returns-clause-live g c = all-live

pub returns-clause-maps : goal.returns-clause-maps
returns-clause-maps g c = λ old new h. mapped_is h old new
