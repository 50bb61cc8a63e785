use Rattle.std.proofs.Common.{ℕ, [], sym, subst}
use Rattle.frame_owner.specs.Rooms.{HasRoomAfter}
use Rattle.worked_calls.proofs.Framing.{shown_stands}
use Rattle.worked_calls.proofs.frame_steps.Frames.frame.Goals as goal

pub frame-requires-clause-stands : goal.frame-requires-clause-stands
frame-requires-clause-stands g c = λ awake. (c.requires.marks, c.requires.tree, c.requires.stands)

pub frame-requires-clause-room : goal.frame-requires-clause-room
frame-requires-clause-room g c = λ awake. (c.args.self.now.made, c.count_frame-made.ensures.few, c.requires.room)

pub frame-requires-clause-root : goal.frame-requires-clause-root
frame-requires-clause-root g c = c.requires.typed

pub frame-requires-clause-size : goal.frame-requires-clause-size
frame-requires-clause-size g c = c.requires.sized

pub returns : goal.returns
returns g c =
    let shown = shown_stands _ _ _ _ (c.in_ok-frame.ensures.shows c.requires.marks c.requires.tree c.requires.stands) in
    record {
      marks = [];
      tree = shown.0;
      stands = shown.1;
      room = subst (λ (n : ℕ). HasRoomAfter n c.frame.new.self) (sym c.count_frame-made.ensures.next) (c.in_ok-frame.ensures.room c.args.self.now.made c.requires.room);
      well = c.requires.well;
      typed = c.requires.typed;
      sized = c.requires.sized;
    }
