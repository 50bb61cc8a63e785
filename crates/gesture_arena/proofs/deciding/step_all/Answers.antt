use Rattle.std.proofs.Common.{sym, ◌∙◌, ap, map}
use Rattle.gesture_arena.specs.Answering.{answered}
use Rattle.gesture_arena.specs.Stored.{offset_of, moment_of}
use Rattle.gesture_arena.proofs.Kept.{all_later, all_given, none_before, none_dropped}
use Rattle.gesture_arena.proofs.deciding.step_all.Goals as goal

pub returns-then-is_drop-clause-steps : goal.returns-then-is_drop-clause-steps
returns-then-is_drop-clause-steps c =
    ap (λ a. map (answered a) c.step_each.new.members) c.waiting.ensures
    ∙ all_given c.args.answers.now c.args.scale.now (offset_of c.args.from) (moment_of c.args.happening.now) c.args.members.now c.step_each.new.members c.step_each.ensures

pub returns-then-is_drop-clause-quiet : goal.returns-then-is_drop-clause-quiet
returns-then-is_drop-clause-quiet c =
    none_dropped c.args.answers.now c.args.scale.now (offset_of c.args.from) (moment_of c.args.happening.now) c.args.members.now c.step_each.new.members
    (sym c.is_drop.ensures ∙ c.if-is_drop.true) c.step_each.ensures

pub returns-else-is_drop-clause-steps : goal.returns-else-is_drop-clause-steps
returns-else-is_drop-clause-steps c =
    all_later c.args.answers.now c.of.result c.then.result c.then.ensures c.args.scale.now (offset_of c.args.from) (moment_of c.args.happening.now)
    (sym c.is_drop.ensures ∙ c.if-is_drop.false) c.of.ensures c.args.members.now

pub returns-else-is_drop-clause-quiet : goal.returns-else-is_drop-clause-quiet
returns-else-is_drop-clause-quiet c = none_before c.args.answers.now c.args.members.now
