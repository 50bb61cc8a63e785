use Rattle.std.proofs.Common.{◌≡◌, ◌∙◌, ◌++◌, IfOk, OnOk, refl, sym, ap, subst}
use Rattle.std.specs.Int.{w64}
use Rattle.std.proofs.lemmas.Int.{to_z-of_z}
use Rattle.script_lines.specs.Ranges.{HasSignedRanges}
use Rattle.frame_session.specs.Holds.{HoldsState}
use Rattle.session_form.specs.Outcome as outcome
use Rattle.session_form.specs.Step.{step, frames_of}
use Rattle.script_lines.specs.declared.command.Command.{Command}
use Rattle.live_session.specs.Tweens.{set_number}
use Rattle.frame_session.proofs.EndingLemmas.{faultless_on}
use Rattle.live_session.proofs.WorkLemmas.{set_causes}
use Rattle.live_session.proofs.live.Live.set_field.Goals as goal

pub line-requires-clause-in_range : goal.line-requires-clause-in_range
line-requires-clause-in_range g c = subst HasSignedRanges (sym c.in_ok-set.ensures) tt

pub returns-clause-state : goal.returns-clause-state
returns-clause-state g c s held =
    let is : c.in_ok-set.set ≡ set_number c.args.node c.args.field.now c.args.n = c.in_ok-set.ensures ∙ ap (set_number c.args.node c.args.field.now) (to_z-of_z w64 c.args.n c.ranges.n) in
    let P : Command → Type 0 = λ x. OnOk c.line.result (HoldsState c.line.new.self (λ v. (g.dyn-1.0.entry v).1) (outcome.state_after s (step s x))) in
    subst P is (faultless_on c.line.result _ (c.line.ensures.faultless (ap frames_of c.in_ok-set.ensures)) (c.line.ensures.state s held))

pub returns-clause-text : goal.returns-clause-text
returns-clause-text g c s held =
    let is : c.in_ok-set.set ≡ set_number c.args.node c.args.field.now c.args.n = c.in_ok-set.ensures ∙ ap (set_number c.args.node c.args.field.now) (to_z-of_z w64 c.args.n c.ranges.n) in
    let P : Command → Type 0 = λ x. OnOk c.line.result (c.line.new.out.items ≡ c.args.out.now.items ++ outcome.text_of (step s x)) in
    subst P is (c.line.ensures.text s held)

pub returns-clause-end : goal.returns-clause-end
returns-clause-end g c s held =
    let is : c.in_ok-set.set ≡ set_number c.args.node c.args.field.now c.args.n = c.in_ok-set.ensures ∙ ap (set_number c.args.node c.args.field.now) (to_z-of_z w64 c.args.n c.ranges.n) in
    let P : Command → Type 0 = λ x. IfOk c.line.result (λ end. end ≡ outcome.end_of (step s x)) in
    subst P is (c.line.ensures.end s held)

pub returns-clause-causes : goal.returns-clause-causes
returns-clause-causes g c frames s held known =
    let is : c.in_ok-set.set ≡ set_number c.args.node c.args.field.now c.args.n = c.in_ok-set.ensures ∙ ap (set_number c.args.node c.args.field.now) (to_z-of_z w64 c.args.n c.ranges.n) in
    set_causes c.line.result frames s _ _ c.line.new.self _ _ _ _ is refl (c.lines_keep_causes.ensures.frames frames s (set_number c.args.node c.args.field.now c.args.n) _ refl known.work)
    (c.line.ensures.work frames s held known)

pub returns-clause-idle : goal.returns-clause-idle
returns-clause-idle g c = c.line.ensures.idle (ap frames_of c.in_ok-set.ensures)
