use Rattle.std.proofs.Common.{false, sym, ◌∙◌, map, drop, get_or, ◌+◌}
use Rattle.std.proofs.lemmas.List.{get_or_default}
use Rattle.gesture_arena.specs.declared.gesture.Gesture.TheVariants.{Tap}
use Rattle.gesture_arena.specs.declared.moment.Decision.TheVariants.{Waits}
use Rattle.gesture_arena.specs.declared.tracked.Tracked.{Tracked}
use Rattle.gesture_arena.specs.Answering.{answered}
use Rattle.gesture_arena.proofs.Answered.{ends_whole}
use Rattle.gesture_arena.proofs.Kept.{second_alive, ends_here, quiet_here}
use Rattle.gesture_arena.proofs.arena.settle_waiting.Goals as goal

pub loop-t-init : goal.loop-t-init
loop-t-init c = record {
  ends = sym (ends_whole c.args.goes_up false (map (answered c.args.answers.now) c.args.members.now));
  quiet = c.requires;
}

pub returns-in-Some : goal.returns-in-Some
returns-in-Some c =
    let a = c.args.answers.now in
    let ts = c.args.members.now in
    let i = c.loop-t.t-index in
    let d : Tracked = record { node = 0; gesture = Tap; decision = Waits; dropped = false } in
    let t : Tracked = get_or ts i d in
    let g = c.given_to-given.result in
    let at = get_or_default ts i d t c.loop-t-test.true in
    let rest = map (answered a) (drop (i + 1) ts) in
    c.won_if.ensures
    ∙ sym (second_alive c.args.goes_up c.in-Some.alive g c.loop-t.first rest _ c.in-Some.is (sym c.lives.ensures ∙ c.if-lives.true)
    (quiet_here a ts i t g c.loop-t-test.true at c.given_to-given.ensures c.loop-t.invariant.quiet)
    (ends_here a ts i t g c.loop-t-test.true at c.given_to-given.ensures c.loop-t.first false c.args.goes_up _ c.loop-t.invariant.ends))
