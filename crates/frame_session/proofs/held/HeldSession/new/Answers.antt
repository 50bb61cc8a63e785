use Rattle.std.proofs.Common.{◌≡◌, [], None, refl, sym, rules}
use Rattle.delegates.specs.Table.{first_of_each}
use Rattle.gesture_arena.specs.StandsFor as arena
use Rattle.program_check.specs.CheckedView.{plain_checked}
use Rattle.frame_owner.specs.Frame.{next_in}
use Rattle.session_form.specs.Program.{scale_of}
use Rattle.session_form.specs.State.{first_state}
use Rattle.frame_session.specs.StandsFor.{IsRoot}
use Rattle.session_form.proofs.TreeLemmas.{true_false}
use Rattle.frame_session.proofs.RootLemmas.{sound_first}
use Rattle.frame_session.proofs.held.HeldSession.new.Goals as goal

pub returns-clause-state : goal.returns-clause-state
returns-clause-state c ds =
    let s = first_state (plain_checked c.args.program) ds in
    let root : IsRoot c.in_ok-root.root s.root = search rules in
    let pointers : arena.StandsFor c.in_ok-pointers.pointers (scale_of s.program) s.pointers = search rules in
    record {
      program = refl;
      root = root;
      tree = c.new-owner.ensures.stands (plain_checked c.args.program) (first_of_each ds);
      next = c.new-owner.ensures.next;
      shown = record { laid = c.new-owner.ensures.shown; layers = c.new-owner.ensures.layer };
      view = search rules;
      delegates_mean = refl;
      pointers = pointers;
      time = refl;
      frames = refl;
      last = tt;
    }

pub returns-clause-sound : goal.returns-clause-sound
returns-clause-sound c =
    let owner = c.new-owner.ensures in
    let scale : c.new-owner.result.screen.scale ≡ scale_of (plain_checked c.args.program) = search rules in
    record {
      delegates = [];
      marks = [];
      tree = None;
      stands = owner.stands (plain_checked c.args.program) [];
      parts = sound_first c.args.program c.in_ok-root.root (next_in c.new-owner.result) owner.next c.in_ok-root.ensures.typed c.in_ok-root.ensures.sized c.in_ok-root.ensures.sets;
      ready = owner.spent;
      scale_is = scale;
      room = owner.room;
      known = λ on. absurd (true_false (sym on));
    }

pub returns-clause-causes : goal.returns-clause-causes
returns-clause-causes c = λ keeps ds.
    let owner = c.new-owner.result in
    let stands = c.new-owner.ensures.stands (plain_checked c.args.program) [] in
    record {
      work = c.sessions_begin_with_causes.ensures (plain_checked c.args.program) ds owner.screen.nodes c.new-owner.ensures.nodes
          (c.what_stands_is_drawn.ensures.drawn (plain_checked c.args.program) [] [] None owner stands);
      versions = c.states_keep_to_their_version.ensures.first (plain_checked c.args.program) ds keeps;
    }
