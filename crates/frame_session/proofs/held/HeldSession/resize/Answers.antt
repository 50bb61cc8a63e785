use Rattle.std.proofs.Common.{◌≡◌, None, rules}
use Rattle.session_form.specs.Changing.{side_of, resize_line}
use Rattle.session_form.specs.Outcome.{refused}
use Rattle.session_form.specs.declared.refusal.Refusal.TheVariants.{ViewOutOfRange}
use Rattle.frame_session.proofs.LineLemmas.{no_width, no_height}
use Rattle.frame_session.proofs.StandsLemmas.{stands_by}
use Rattle.frame_session.proofs.held.HeldSession.resize.Goals.{in_default-via-in-Some+in_default, in_default-via-in_default}
use Rattle.frame_session.proofs.held.HeldSession.resize.Goals as goal

pub returns-in_default-clause-state : goal.returns-in_default-clause-state
returns-in_default-clause-state c = λ ds s h. elim c.in_default.branch [
  | in_default-via-in-Some+in_default w ↦
      let none : side_of c.args.h ≡ None = search rules in
      stands_by c.args.self.now ds s (resize_line c.args.w c.args.h s) (refused ViewOutOfRange) (no_height c.args.w c.args.h s none) h
  | in_default-via-in_default w ↦
      let none : side_of c.args.w ≡ None = search rules in
      stands_by c.args.self.now ds s (resize_line c.args.w c.args.h s) (refused ViewOutOfRange) (no_width c.args.w c.args.h s none) h
]
