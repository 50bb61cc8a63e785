use Rattle.std.proofs.Common.{◌≡◌, ◌++◌, IfOk, None, OnOk, refl, ap, subst, sym}
use Rattle.script_lines.specs.EntryReading.{HasEntryRanges}
use Rattle.script_lines.specs.declared.entry.Entry.{Entry}
use Rattle.tickers.specs.declared.tween.Tween.{Tween}
use Rattle.screen_form.specs.FocusSteps.{next_of, prev_of}
use Rattle.live_session.specs.EntryStep.{entry_step}
use Rattle.live_session.specs.Focus.{order_in}
use Rattle.live_session.specs.LiveStands.{LiveStands, LiveLands, text_of, end_of}
use Rattle.live_session.specs.RunState.{state_after}
use Rattle.live_session.specs.Tweens.{tween_entry}
use Rattle.frame_session.proofs.EndingLemmas.{not_both}
use Rattle.live_session.proofs.LiveLemmas.{entry_lands, entry_text, entry_end, same_tween}
use Rattle.live_session.proofs.MemoryLemmas.{on_err_any, entry_may, focus_may, not_tween}
use Rattle.live_session.specs.Works.{CameGoesOn, frames_of_entry}
use Rattle.live_session.proofs.WorkLemmas.{came_by, stays_caused, focused_caused, focus_caused, cells_caused, none_built, built_by}
use Rattle.live_session.proofs.live.Live.answer.Goals as goal

pub returns-in-Line-clause-state : goal.returns-in-Line-clause-state
returns-in-Line-clause-state g c r stands =
    let P : Entry → Type 0 = λ x. OnOk c.line.result (LiveLands c.line.new.self (λ v. (g.dyn-1.0.entry v).1) r (entry_step r x)) in
    subst P (sym c.in-Line.is) (c.line.ensures.state r stands)

pub returns-in-Line-clause-end : goal.returns-in-Line-clause-end
returns-in-Line-clause-end g c r stands = entry_end c.line.result r _ _ c.in-Line.is (c.line.ensures.end r stands)

pub returns-in_ok-clone-in-Tween-clause-state : goal.returns-in_ok-clone-in-Tween-clause-state
returns-in_ok-clone-in-Tween-clause-state g c r stands =
    let t = c.in-Tween in
    let inside = subst HasEntryRanges t.is c.requires.in_range in
    let same = same_tween t.node c.in_ok-clone-in-Tween.field-0 t.field t.from t.to c.time.result r.session.time t.ms t.curve
    c.in_ok-clone-in-Tween.ensures.cases (c.time.ensures r.session stands.session) inside.1 inside.2 in
    let P : Tween → Type 0 = λ x. OnOk c.tween.result (LiveStands c.tween.new.self (λ v. (g.dyn-1.0.entry v).1) (state_after r (tween_entry x r))) in
    entry_lands c.tween.result c.tween.new.self (λ v. (g.dyn-1.0.entry v).1) r _ _ t.is (subst P same (c.tween.ensures.state r stands))

pub returns-in_ok-clone-in-Tween-clause-text : goal.returns-in_ok-clone-in-Tween-clause-text
returns-in_ok-clone-in-Tween-clause-text g c r stands =
    let t = c.in-Tween in
    let inside = subst HasEntryRanges t.is c.requires.in_range in
    let same = same_tween t.node c.in_ok-clone-in-Tween.field-0 t.field t.from t.to c.time.result r.session.time t.ms t.curve
    c.in_ok-clone-in-Tween.ensures.cases (c.time.ensures r.session stands.session) inside.1 inside.2 in
    let P : Tween → Type 0 = λ x. OnOk c.tween.result (c.tween.new.out.items ≡ c.args.out.now.items ++ text_of (tween_entry x r)) in
    entry_text c.tween.result c.args.out.now.items c.tween.new.out.items r _ _ t.is (subst P same (c.tween.ensures.text r stands))

pub returns-in_ok-clone-in-Tween-clause-end : goal.returns-in_ok-clone-in-Tween-clause-end
returns-in_ok-clone-in-Tween-clause-end g c r stands =
    let t = c.in-Tween in
    let inside = subst HasEntryRanges t.is c.requires.in_range in
    let same = same_tween t.node c.in_ok-clone-in-Tween.field-0 t.field t.from t.to c.time.result r.session.time t.ms t.curve
    c.in_ok-clone-in-Tween.ensures.cases (c.time.ensures r.session stands.session) inside.1 inside.2 in
    let P : Tween → Type 0 = λ x. IfOk c.tween.result (λ end. end ≡ end_of (tween_entry x r)) in
    entry_end c.tween.result r _ _ t.is (subst P same (c.tween.ensures.end r stands))

pub returns-in-FocusNext-clause-state : goal.returns-in-FocusNext-clause-state
returns-in-FocusNext-clause-state g c r stands =
    entry_lands c.focus_next.result c.focus_next.new.self (λ v. (g.dyn-1.0.entry v).1) r _ _ c.in-FocusNext.is (c.focus_next.ensures.state r stands)

pub returns-in-FocusNext-clause-end : goal.returns-in-FocusNext-clause-end
returns-in-FocusNext-clause-end g c r stands = entry_end c.focus_next.result r _ _ c.in-FocusNext.is (c.focus_next.ensures.end r stands)

pub returns-in-FocusPrev-clause-state : goal.returns-in-FocusPrev-clause-state
returns-in-FocusPrev-clause-state g c r stands =
    entry_lands c.focus_prev.result c.focus_prev.new.self (λ v. (g.dyn-1.0.entry v).1) r _ _ c.in-FocusPrev.is (c.focus_prev.ensures.state r stands)

pub returns-in-FocusPrev-clause-end : goal.returns-in-FocusPrev-clause-end
returns-in-FocusPrev-clause-end g c r stands = entry_end c.focus_prev.result r _ _ c.in-FocusPrev.is (c.focus_prev.ensures.end r stands)

pub returns-in-FocusOn-clause-state : goal.returns-in-FocusOn-clause-state
returns-in-FocusOn-clause-state g c r stands =
    entry_lands c.focus_on.result c.focus_on.new.self (λ v. (g.dyn-1.0.entry v).1) r _ _ c.in-FocusOn.is (c.focus_on.ensures.state r stands)

pub returns-in-FocusNone-clause-state : goal.returns-in-FocusNone-clause-state
returns-in-FocusNone-clause-state g c r stands =
    entry_lands c.focus_to.result c.focus_to.new.self (λ v. (g.dyn-1.0.entry v).1) r _ _ c.in-FocusNone.is (c.focus_to.ensures.state r stands)

pub returns-in-FocusNone-clause-text : goal.returns-in-FocusNone-clause-text
returns-in-FocusNone-clause-text g c r stands =
    entry_text c.focus_to.result c.args.out.now.items c.focus_to.new.out.items r _ _ c.in-FocusNone.is (c.focus_to.ensures.text r stands)

pub returns-in-FocusNone-clause-end : goal.returns-in-FocusNone-clause-end
returns-in-FocusNone-clause-end g c r stands = entry_end c.focus_to.result r _ _ c.in-FocusNone.is (c.focus_to.ensures.end r stands)

pub returns-in-Press-clause-state : goal.returns-in-Press-clause-state
returns-in-Press-clause-state g c r stands =
    entry_lands c.press.result c.press.new.self (λ v. (g.dyn-1.0.entry v).1) r _ _ c.in-Press.is (c.press.ensures.state r stands)

pub returns-in-Press-clause-end : goal.returns-in-Press-clause-end
returns-in-Press-clause-end g c r stands = entry_end c.press.result r _ _ c.in-Press.is (c.press.ensures.end r stands)

pub returns-in-Cells-clause-state : goal.returns-in-Cells-clause-state
returns-in-Cells-clause-state g c r stands =
    entry_lands c.cells.result c.cells.new.self (λ v. (g.dyn-1.0.entry v).1) r _ _ c.in-Cells.is (c.cells.ensures.state r stands)

pub returns-in-Line-clause-memory : goal.returns-in-Line-clause-memory
returns-in-Line-clause-memory g c r other stands = entry_may c.line.result r _ _ c.in-Line.is (c.line.ensures.memory r stands)

pub returns-in_err-clone-in-Tween-clause-memory : goal.returns-in_err-clone-in-Tween-clause-memory
returns-in_err-clone-in-Tween-clause-memory g c r other stands = absurd (not_tween _ _ c.in-Tween.is refl other)

pub returns-in_ok-clone-in-Tween-clause-memory : goal.returns-in_ok-clone-in-Tween-clause-memory
returns-in_ok-clone-in-Tween-clause-memory g c r other stands = absurd (not_tween _ _ c.in-Tween.is refl other)

pub returns-in-FocusNext-clause-memory : goal.returns-in-FocusNext-clause-memory
returns-in-FocusNext-clause-memory g c r other stands = entry_may c.focus_next.result r _ _ c.in-FocusNext.is (on_err_any c.focus_next.result tt)

pub returns-in-FocusPrev-clause-memory : goal.returns-in-FocusPrev-clause-memory
returns-in-FocusPrev-clause-memory g c r other stands = entry_may c.focus_prev.result r _ _ c.in-FocusPrev.is (on_err_any c.focus_prev.result tt)

pub returns-in-FocusOn-clause-memory : goal.returns-in-FocusOn-clause-memory
returns-in-FocusOn-clause-memory g c r other stands =
    entry_may c.focus_on.result r _ _ c.in-FocusOn.is (on_err_any c.focus_on.result (focus_may c.in-FocusOn.node r))

pub returns-in-FocusNone-clause-memory : goal.returns-in-FocusNone-clause-memory
returns-in-FocusNone-clause-memory g c r other stands = entry_may c.focus_to.result r _ _ c.in-FocusNone.is (on_err_any c.focus_to.result tt)

pub returns-in-Press-clause-memory : goal.returns-in-Press-clause-memory
returns-in-Press-clause-memory g c r other stands = entry_may c.press.result r _ _ c.in-Press.is (c.press.ensures.memory r stands)

pub returns-in-Cells-clause-memory : goal.returns-in-Cells-clause-memory
returns-in-Cells-clause-memory g c r other stands = entry_may c.cells.result r _ _ c.in-Cells.is (c.cells.ensures.memory r stands)

pub tween-requires-clause-holds : goal.tween-requires-clause-holds
tween-requires-clause-holds g c = λ _ _. (c.requires.holds.0.session, c.requires.holds.1.session.2)

pub tween-requires-clause-going : goal.tween-requires-clause-going
tween-requires-clause-going g c = not_both _ c.requires.holds.1.session.1

pub returns-in-Line-clause-work : goal.returns-in-Line-clause-work
returns-in-Line-clause-work g c frames r stands known =
    came_by c.line.result frames r _ _ _ _ c.line.new.self _ _ _ _ (ap (entry_step r) c.in-Line.is) (ap frames_of_entry c.in-Line.is) (c.line.ensures.work frames r stands known)

pub returns-in_ok-clone-in-Tween-clause-work : goal.returns-in_ok-clone-in-Tween-clause-work
returns-in_ok-clone-in-Tween-clause-work g c frames r stands known =
    let t = c.in-Tween in
    let inside = subst HasEntryRanges t.is c.requires.in_range in
    let same = same_tween t.node c.in_ok-clone-in-Tween.field-0 t.field t.from t.to c.time.result r.session.time t.ms t.curve
    c.in_ok-clone-in-Tween.ensures.cases (c.time.ensures r.session stands.session) inside.1 inside.2 in
    let P : Tween → Type 0 = λ x. OnOk c.tween.result (CameGoesOn frames r (tween_entry x r) 0 c.tween.new.self c.args.layouts.now c.tween.new.layouts c.args.paints.now c.tween.new.paints) in
    came_by c.tween.result frames r _ _ _ _ c.tween.new.self _ _ _ _ (ap (entry_step r) c.in-Tween.is) (ap frames_of_entry c.in-Tween.is) (subst P same (c.tween.ensures.work frames r stands known))

pub returns-in-FocusNext-clause-work : goal.returns-in-FocusNext-clause-work
returns-in-FocusNext-clause-work g c frames r stands known =
    came_by c.focus_next.result frames r _ _ _ _ c.focus_next.new.self _ _ _ _ (ap (entry_step r) c.in-FocusNext.is) (ap frames_of_entry c.in-FocusNext.is)
    (stays_caused c.focus_next.result frames r _ c.args.self.now c.focus_next.new.self _ _ c.focus_next.ensures.session (λ live h. focused_caused frames r live h (next_of (order_in r.session.shown) r.focus)) known)

pub returns-in-FocusPrev-clause-work : goal.returns-in-FocusPrev-clause-work
returns-in-FocusPrev-clause-work g c frames r stands known =
    came_by c.focus_prev.result frames r _ _ _ _ c.focus_prev.new.self _ _ _ _ (ap (entry_step r) c.in-FocusPrev.is) (ap frames_of_entry c.in-FocusPrev.is)
    (stays_caused c.focus_prev.result frames r _ c.args.self.now c.focus_prev.new.self _ _ c.focus_prev.ensures.session (λ live h. focused_caused frames r live h (prev_of (order_in r.session.shown) r.focus)) known)

pub returns-in-FocusOn-clause-work : goal.returns-in-FocusOn-clause-work
returns-in-FocusOn-clause-work g c frames r stands known =
    came_by c.focus_on.result frames r _ _ _ _ c.focus_on.new.self _ _ _ _ (ap (entry_step r) c.in-FocusOn.is) (ap frames_of_entry c.in-FocusOn.is)
    (stays_caused c.focus_on.result frames r _ c.args.self.now c.focus_on.new.self _ _ c.focus_on.ensures.session (λ live h. focus_caused frames r live h _) known)

pub returns-in-FocusNone-clause-work : goal.returns-in-FocusNone-clause-work
returns-in-FocusNone-clause-work g c frames r stands known =
    came_by c.focus_to.result frames r _ _ _ _ c.focus_to.new.self _ _ _ _ (ap (entry_step r) c.in-FocusNone.is) (ap frames_of_entry c.in-FocusNone.is)
    (stays_caused c.focus_to.result frames r _ c.args.self.now c.focus_to.new.self _ _ c.focus_to.ensures.session (λ live h. focused_caused frames r live h None) known)

pub returns-in-Cells-clause-work : goal.returns-in-Cells-clause-work
returns-in-Cells-clause-work g c frames r stands known =
    came_by c.cells.result frames r _ _ _ _ c.cells.new.self _ _ _ _ (ap (entry_step r) c.in-Cells.is) (ap frames_of_entry c.in-Cells.is)
    (stays_caused c.cells.result frames r _ c.args.self.now c.cells.new.self _ _ c.cells.ensures.session (λ live h. cells_caused frames r live h) known)

pub returns-in-Press-clause-work : goal.returns-in-Press-clause-work
returns-in-Press-clause-work g c frames r stands known =
    came_by c.press.result frames r _ _ _ _ c.press.new.self _ _ _ _ (ap (entry_step r) c.in-Press.is) (ap frames_of_entry c.in-Press.is) (c.press.ensures.work frames r stands known)

pub returns-in-Line-clause-built : goal.returns-in-Line-clause-built
returns-in-Line-clause-built g c r stands = built_by c.line.result _ _ _ _ _ (ap frames_of_entry c.in-Line.is) (c.line.ensures.built r stands)

pub returns-in_ok-clone-in-Tween-clause-built : goal.returns-in_ok-clone-in-Tween-clause-built
returns-in_ok-clone-in-Tween-clause-built g c r stands = none_built c.tween.result _ _ _ _ c.tween.ensures.unbuilt

pub returns-in-FocusNext-clause-built : goal.returns-in-FocusNext-clause-built
returns-in-FocusNext-clause-built g c r stands = none_built c.focus_next.result _ _ _ _ refl

pub returns-in-FocusPrev-clause-built : goal.returns-in-FocusPrev-clause-built
returns-in-FocusPrev-clause-built g c r stands = none_built c.focus_prev.result _ _ _ _ refl

pub returns-in-FocusOn-clause-built : goal.returns-in-FocusOn-clause-built
returns-in-FocusOn-clause-built g c r stands = none_built c.focus_on.result _ _ _ _ refl

pub returns-in-FocusNone-clause-built : goal.returns-in-FocusNone-clause-built
returns-in-FocusNone-clause-built g c r stands = none_built c.focus_to.result _ _ _ _ refl

pub returns-in-Cells-clause-built : goal.returns-in-Cells-clause-built
returns-in-Cells-clause-built g c r stands = none_built c.cells.result _ _ _ _ refl

pub returns-in-Press-clause-built : goal.returns-in-Press-clause-built
returns-in-Press-clause-built g c r stands = none_built c.press.result _ _ _ _ c.press.ensures.unbuilt
