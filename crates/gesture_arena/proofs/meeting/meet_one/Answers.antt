use Rattle.std.proofs.Common.{sym, ◌∙◌, ap}
use Rattle.std.specs.Option.{option_map}
use Rattle.gesture_arena.specs.Stored.{moment_of}
use Rattle.gesture_arena.proofs.EachMeets.{given-same, met_some, met_none, events_some, events_none}
use Rattle.gesture_arena.proofs.meeting.meet_one.Goals as goal

pub returns-in-Some-clause-stands : goal.returns-in-Some-clause-stands
returns-in-Some-clause-stands c p sd =
    met_some _ _ _ _ p _ (sym (given-same _ c.args.call.now _ p sd) ∙ sym c.given.ensures ∙ ap (option_map moment_of) c.in-Some.is) c.meet-met.ensures.steps sd

pub returns-in-Some-clause-events : goal.returns-in-Some-clause-events
returns-in-Some-clause-events c p sd =
    events_some _ _ _ _ p _ _ _ _ _ _ (sym (given-same _ c.args.call.now _ p sd) ∙ sym c.given.ensures ∙ ap (option_map moment_of) c.in-Some.is) c.meet-met.ensures.steps sd
    c.meet-met.ensures.decided c.meet-met.ensures.effect c.put.ensures.items c.put-in-Some.ensures.items

pub returns-in-None-clause-stands : goal.returns-in-None-clause-stands
returns-in-None-clause-stands c p sd =
    met_none c.args.scale.now _ p _ (sym (given-same _ c.args.call.now _ p sd) ∙ sym c.given.ensures ∙ ap (option_map moment_of) c.in-None.is) sd

pub returns-in-None-clause-events : goal.returns-in-None-clause-events
returns-in-None-clause-events c p sd =
    events_none c.args.scale.now p _ _ (sym (given-same _ c.args.call.now _ p sd) ∙ sym c.given.ensures ∙ ap (option_map moment_of) c.in-None.is)
