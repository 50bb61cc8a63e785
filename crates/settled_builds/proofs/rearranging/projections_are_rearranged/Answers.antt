use Rattle.build_form.specs.Entering.{depth_limit}
use Rattle.widget_model.specs.Plain.{look_of}
use Rattle.plain_tree.specs.PlainNode.{widget_of}
use Rattle.settled_builds.proofs.DrawingOn.{components_vanish, whole_rearranged}
use Rattle.settled_builds.proofs.Leading.{is_component}
use Rattle.settled_builds.proofs.rearranging.projections_are_rearranged.Goals as goal

pub returns : goal.returns
returns c = λ b marks wanted next root tree p ws ready first can alone drawn.
    whole_rearranged wanted ws p (components_vanish (look_of (widget_of p.node)) (is_component b marks wanted next root tree p ready first)) can.can drawn depth_limit b.defaults tree first.at ready.within alone ready.numbered.differ
