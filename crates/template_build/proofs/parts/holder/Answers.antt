use Rattle.std.proofs.Common.{Some, None, arith, ap, sym, refl, ◌∙◌}
use Rattle.program_check.specs.BodyView.{plain_body_part}
use Rattle.template_build.specs.Building.{holder_in}
use Rattle.template_build.proofs.Bodies.{members-out}
use Rattle.template_build.proofs.HolderLemmas.{holder_past, holder_here}
use Rattle.template_build.proofs.parts.holder.Goals as goal
use Rattle.template_build.proofs.parts.holder.Goals.{in-Some+else-holds, in-None}

pub loop-i-init : goal.loop-i-init
loop-i-init c = ap holder_in (members-out c.args.body.now)

pub returns-then-holds-clause-part : goal.returns-then-holds-clause-part
returns-then-holds-clause-part c =
    holder_here c.args.body.now c.loop-i.i (plain_body_part c.in-Some.part.now) c.in-Some.ensures.part (sym c.holds.ensures ∙ c.if-holds.true) c.loop-i.invariant

pub loop-i-preserved : goal.loop-i-preserved
loop-i-preserved c =
    elim c.match-part.branch [
      | in-Some+else-holds w ↦
          holder_past c.args.body.now c.loop-i.i _ (Some (plain_body_part w.in-Some.part.now)) refl (omega arith) w.in-Some.ensures.part (sym w.holds.ensures ∙ w.if-holds.false) c.loop-i.invariant
      | in-None w ↦ holder_past c.args.body.now c.loop-i.i _ None refl (omega arith) w.in-None.ensures.part refl c.loop-i.invariant
    ]
