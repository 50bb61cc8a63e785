use Rattle.std.proofs.Common.{subst, ap, ◌∙◌, ◌<◌, ◌≤◌, length, List, get_or}
use Rattle.fx_handles.specs.declared.Handle.{Handle}
use Rattle.layout_rules.proofs.Scrolling.{box_none, box_some}
use Rattle.layout_rules.proofs.extents.box_extent.Goals as goal

pub returns-in-None : goal.returns-in-None
returns-in-None c = λ v kids seen.
    box_none c.args.r.now.tree c.args.h c.args.axis v kids seen (subst (λ (hs : List Handle). length hs ≤ 0) c.children.ensures.value c.in-None.ensures.lookup.3)

pub returns-in-Some : goal.returns-in-Some
returns-in-Some c = λ v kids seen.
    let found = c.in-Some.ensures.lookup in
    let child = c.in-Some.child.now in
    box_some c.args.r.now.tree c.args.h child c.args.axis v kids c.state_at.result c.frame_or.result c.box_size.result c.extent.result seen
    (subst (λ (hs : List Handle). 0 < length hs) c.children.ensures.value found.3.0) (found.1 ∙ ap (λ (hs : List Handle). get_or hs 0 child) c.children.ensures.value)
    c.state_at.ensures c.frame_or.ensures c.box_size.ensures c.extent.ensures
