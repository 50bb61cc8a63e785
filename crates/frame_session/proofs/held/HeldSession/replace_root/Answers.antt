use Rattle.std.proofs.Common.{◌≡◌, Ok, sym, rules}
use Rattle.program_form.specs.TemplateView.{plain_template}
use Rattle.program_read.specs.Reading.{read_as}
use Rattle.program_read.specs.TemplateWalk.{template_of}
use Rattle.program_check.specs.BodyView.{plain_body}
use Rattle.frame_owner.specs.Frame.{next_in}
use Rattle.session_form.proofs.TreeLemmas.{true_false}
use Rattle.frame_session.proofs.RootLemmas.{root_stands, sound_root}
use Rattle.frame_session.proofs.held.HeldSession.replace_root.Goals as goal

pub returns-clause-state : goal.returns-clause-state
returns-clause-state c ds s h =
    let kept = c.args.self.now in
    let t = plain_template c.in-Ok.template in
    let b = plain_body c.in-Ok-check_widget.body in
    let read : read_as (template_of kept.program.version) c.args.json.now ≡ Ok t = search rules in
    root_stands kept ds s c.in_ok-root.root c.args.json.now t b h read c.in-Ok-check_widget.ensures.ok c.in_ok-root.ensures.root

pub returns-clause-sound : goal.returns-clause-sound
returns-clause-sound c =
    let kept = c.args.self.now in
    let h = c.requires in
    record {
      delegates = h.delegates;
      marks = h.marks;
      tree = h.tree;
      stands = h.stands;
      parts = sound_root kept.program kept.root c.in_ok-root.root h.tree (next_in kept.owner) kept.frames h.parts c.in_ok-root.ensures.typed c.in_ok-root.ensures.sized c.in_ok-root.ensures.sets;
      ready = h.ready;
      scale_is = h.scale_is;
      room = h.room;
      known = λ on. absurd (true_false (sym on));
    }
