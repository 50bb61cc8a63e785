use Rattle.plain_tree.specs.declared.role.RenderRole.TheVariants.{Plain}
use Rattle.std.proofs.Common.{None}
use Rattle.build_form.specs.Entering.{depth_limit}
use Rattle.settled_builds.proofs.RegivenDrawn.{drawn_same}
use Rattle.settled_builds.proofs.RegivenLeads.{regiven_leads}
use Rattle.settled_builds.proofs.RegivenReady.{regiven_ready}
use Rattle.settled_builds.proofs.steps.regiven_values_mark_readers.Goals as goal

pub returns-clause-ready : goal.returns-clause-ready
returns-clause-ready c = λ b marks wanted next root tree p w name ready begins reads can. regiven_ready b marks next wanted w name p can root tree ready begins reads

pub returns-clause-leads : goal.returns-clause-leads
returns-clause-leads c = λ b marks wanted next root tree p w name ready begins reads can.
    regiven_leads (λ v u. (c.same_means_equal.ensures.widgets v u).0) b marks wanted next root tree p ready begins reads w name can

pub returns-clause-drawn : goal.returns-clause-drawn
returns-clause-drawn c = λ b marks wanted tree p w name begins can. drawn_same b w name wanted p can depth_limit b.defaults 0 0 tree begins.at Plain None
