use Rattle.std.proofs.Common.{None}
use Rattle.node_tree.specs.Plan.{entries}
use Rattle.plain_tree.specs.declared.role.RenderRole.TheVariants.{Plain}
use Rattle.render_tree.specs.Marks.{layout_own}
use Rattle.build_walk.specs.Renewing.{drawn}
use Rattle.build_owner.specs.Phases.{first_plan_of}
use Rattle.build_owner.specs.Staying.{with_items}
use Rattle.build_owner.proofs.Unclaimed.{KeepsOwnAt, KeepsLookAt, not_lost, same_children, leaves_own, leaves_told}
use Rattle.build_owner.proofs.Unmoved.{not_laid, not_painted}
use Rattle.build_owner.proofs.laws.kept_lists_are_not_marked.Goals as goal

pub returns-clause-layout : goal.returns-clause-layout
returns-clause-layout call = λ c t0 r0 g0 b w t r g l p k keeps own top.
    let Own = KeepsOwnAt p.made in (
      not_laid p.made p.redrawn.committed.root (entries None (with_items p.made (first_plan_of p))) p.redrawn.laid k p.redrawn.laid_anew
          (record { own = leaves_own c t0 r0 g0 b w t r g l p k keeps Own own; told = leaves_told c t0 r0 g0 b w t r g l p k keeps Own own; top = top }),
      not_lost c t0 r0 g0 b w t r g l p k keeps Own own,
      same_children c t0 r0 g0 b w t r g l p k keeps Own own,
    )

pub returns-clause-paint : goal.returns-clause-paint
returns-clause-paint call = λ c t0 r0 g0 b w t r g l p k keeps own top.
    not_painted p.made p.redrawn.committed.root (entries None (with_items p.made (first_plan_of p))) p.redrawn.painted k p.redrawn.painted_anew
    (record { own = leaves_own c t0 r0 g0 b w t r g l p k keeps (KeepsLookAt p.made) own; top = top })

pub returns-clause-whole_layout : goal.returns-clause-whole_layout
returns-clause-whole_layout call = λ c t0 r0 g0 b screen w was t r g p k leaves.
    not_laid p.made p.redrawn.committed.root (entries None (drawn Plain None p.stands.elements.forest)) p.redrawn.laid k p.redrawn.laid_anew leaves

pub returns-clause-whole_paint : goal.returns-clause-whole_paint
returns-clause-whole_paint call = λ c t0 r0 g0 b screen w was t r g p k leaves.
    not_painted p.made p.redrawn.committed.root (entries None (drawn Plain None p.stands.elements.forest)) p.redrawn.painted k p.redrawn.painted_anew leaves
