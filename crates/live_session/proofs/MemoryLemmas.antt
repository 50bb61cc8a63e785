-- Where want of memory may be answered: each refusal that takes no memory comes exactly where the line is refused so.
use Rattle.std.proofs.Common.{◌≡◌, ◌↔◌, ℕ, Bool, true, false, if◌then◌else◌, List, Some, Result, Ok, Err, IfOk, OnErr, refl, sym, ap, subst, ◌∙◌}
use Rattle.std.specs.declared.alloc.AllocError.{AllocError}
use Rattle.build_form.specs.FullBuild.{Built, failed, built}
use Rattle.tickers.specs.declared.tween.Tween.{Tween}
use Rattle.session_form.specs.Framing.{built_of, frame_by}
use Rattle.session_form.specs.Outcome as outcome
use Rattle.session_form.specs.State.{SessionState}
use Rattle.session_form.specs.declared.refusal.Refusal.{Refusal}
use Rattle.session_form.specs.declared.line_end.LineEnd.{LineEnd}
use Rattle.session_form.specs.declared.line_end.LineEnd.TheVariants as line_end
use Rattle.script_lines.specs.declared.entry.Entry.{Entry}
use Rattle.frame_session.specs.Memory as session
use Rattle.cell_raster.specs.CellGrid.{CellGrid}
use Rattle.live_session.specs.Cells.{drawn}
use Rattle.live_session.specs.EntryStep.{framed_by, frame_entry, entry_step}
use Rattle.live_session.specs.Focus.{is_in, order_in, focused, focus_on}
use Rattle.live_session.specs.LiveStands.{end_of}
use Rattle.live_session.specs.Tweens.{with_values, tweens_kept}
use Rattle.live_session.specs.Memory.{takes_no_memory, MayLackMemory, is_tween}
use Rattle.live_session.specs.RunState.{RunState, Came, went, refused, faulted, with_session}
use Rattle.live_session.specs.declared.live.Ended.{Ended}
use Rattle.live_session.specs.declared.live.Ended.TheVariants as ended
use Rattle.live_session.specs.declared.refusal.LineRefusal.{LineRefusal}
use Rattle.live_session.specs.declared.refusal.LineRefusal.TheVariants as refusal

pub on_err_any : {A E P : Type 0} (x : Result A E) → P → OnErr x P
on_err_any (Ok a) p = tt
on_err_any (Err e) p = p

-- of a line that is known
pub entry_may : {A E : Type 0} (x : Result A E) (r : RunState) (e form : Entry) → e ≡ form
    → OnErr x (MayLackMemory (entry_step r form)) → OnErr x (MayLackMemory (entry_step r e))
entry_may x r e form is h = let P : Entry → Type 0 = λ k. OnErr x (MayLackMemory (entry_step r k)) in subst P (sym is) h

-- where the grid is drawn
pub drawn_may : (g : CellGrid) (r : RunState) (o : Came) → drawn g r ≡ o → MayLackMemory o
drawn_may g r o is = let P : Came → Type 0 = λ x. MayLackMemory x in subst P is tt

-- a command of the session that isn't refused so
not_so : (b : Bool) → (b ≡ true → ⊥) → b ≡ false
not_so true h = absurd (h refl)
not_so false h = refl

pub with_session_may : (o : outcome.Outcome) (r : RunState) → ((why : Refusal) → session.takes_no_memory why ≡ true → o ≡ outcome.refused why → ⊥)
    → MayLackMemory (with_session o r)
with_session_may (outcome.done s text) r h = tt
with_session_may (outcome.refused why) r h = not_so (session.takes_no_memory why) (λ small. h why small refl)
with_session_may (outcome.faulted fault) r h = tt

-- of a command for which the session found no memory
pub command_may : (x : Result LineEnd AllocError) (none : AllocError) (o : outcome.Outcome) (r : RunState) → x ≡ Err none
    → ((why : Refusal) → session.takes_no_memory why ≡ true → (x ≡ Ok (line_end.Refused why)) ↔ (o ≡ outcome.refused why))
    → MayLackMemory (with_session o r)
command_may x none o r err exactly = with_session_may o r (λ why small is. let done : x ≡ Ok (line_end.Refused why) = (exactly why small).1 is in cc)

framed_may : (b : Built) (s : SessionState) (now : ℕ) (ts : List Tween) (r : RunState) → MayLackMemory (framed_by (frame_by b s) now ts r)
framed_may (failed fault) s now ts r = tt
framed_may (built tree next) s now ts r = tt

pub frame_may : (r : RunState) → MayLackMemory (frame_entry r)
frame_may r =
    let now = r.session.time in
    let s = with_values now r.tweens r.session in
    framed_may (built_of s) s now (tweens_kept now r.session r.tweens) r

focus_by_may : (b : Bool) (number : ℕ) (r : RunState) → MayLackMemory (if b then focused (Some number) r else refused refusal.NotFocusable)
focus_by_may true number r = tt
focus_by_may false number r = refl

pub focus_may : (number : ℕ) (r : RunState) → MayLackMemory (focus_on number r)
focus_may number r = focus_by_may (is_in (order_in r.session.shown) number) number r

end_refused : (o : Came) (why : LineRefusal) → end_of o ≡ ended.Refused why → o ≡ refused why
end_refused (went r text) why e = cc
end_refused (refused reason) why e = cc
end_refused (faulted fault) why e = cc

not_both : (b : Bool) → b ≡ true → b ≡ false → ⊥
not_both b is isnt = cc

pub not_tween : (e form : Entry) → e ≡ form → is_tween form ≡ true → is_tween e ≡ false → ⊥
not_tween e form is tween other = not_both (is_tween e) (ap is_tween is ∙ tween) other

pub refused_exactly : (r : Result Ended AllocError) (o : Came) (why : LineRefusal) → takes_no_memory why ≡ true → IfOk r (λ e. e ≡ end_of o)
    → OnErr r (MayLackMemory o) → (r ≡ Ok (ended.Refused why)) ↔ (o ≡ refused why)
refused_exactly (Ok end) o why small h may = (
  λ e. let ends : end ≡ ended.Refused why = cc in end_refused o why (sym h ∙ ends),
  λ e. ap Ok (h ∙ ap end_of e),
)
refused_exactly (Err none) o why small h may = (
  λ e. cc,
  λ e. let P : Came → Type 0 = λ x. MayLackMemory x in absurd (not_both (takes_no_memory why) small (subst P e may)),
)
