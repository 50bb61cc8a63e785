-- Where the lines `tween` and `frame` leave a session and what stands beside it.
use Rattle.std.proofs.Common.{◌≡◌, ℕ, Bool, false, List, ◌++◌, refl, sym, ap, subst, ◌∙◌, if◌then◌else◌}
use Rattle.build_form.specs.FullBuild.{Built, failed, built}
use Rattle.script_lines.specs.declared.command.Command.{Command}
use Rattle.script_lines.specs.declared.command.Command.TheVariants as command
use Rattle.tickers.specs.Running.{is_full, started, unfinished}
use Rattle.tickers.specs.declared.tween.Tween.{Tween}
use Rattle.session_form.specs.Framing.{built_of, frame_by}
use Rattle.frame_session.specs.Ending.{is_fault}
use Rattle.frame_session.specs.Holds.{HoldsState}
use Rattle.session_form.specs.Outcome as outcome
use Rattle.session_form.specs.State.{SessionState}
use Rattle.session_form.specs.Step.{step}
use Rattle.session_form.specs.declared.line_end.LineEnd.{LineEnd}
use Rattle.session_form.specs.declared.line_end.LineEnd.TheVariants as line_end
use Rattle.session_form.specs.declared.refusal.Refusal.{Refusal}
use Rattle.live_session.specs.EntryStep.{framed_by, frame_entry}
use Rattle.live_session.specs.Focus.{order_in, focus_kept}
use Rattle.live_session.specs.LiveStands.{LiveStands, LiveLands, text_of, end_of, ended_by}
use Rattle.live_session.specs.RunState.{RunState, Came, refused, state_after}
use Rattle.live_session.specs.Tweens.{set_number, started_by, tween_entry, with_values, tweens_kept}
use Rattle.live_session.specs.declared.live.Ended.{Ended}
use Rattle.live_session.specs.declared.live.Ended.TheVariants as ended
use Rattle.live_session.specs.declared.live.Live.{Live}
use Rattle.live_session.specs.declared.refusal.LineRefusal.TheVariants as refusal
use Rattle.delegates.specs.Table.{Means}

-- ---- `tween`: whether there is room, and what its `set` comes to

same_full : (t : Tween) (r : RunState) (ts : List Tween) (b : Bool) → ts ≡ r.tweens → is_full ts t.node t.field ≡ b → is_full r.tweens t.node t.field ≡ b
same_full t r ts b same full = ap (λ x. is_full x t.node t.field) (sym same) ∙ full

pub tween_tried : (t : Tween) (r : RunState) (ts : List Tween) (b : Bool) (c : Command) → ts ≡ r.tweens → b ≡ is_full ts t.node t.field → b ≡ false
    → c ≡ set_number t.node t.field t.from → tween_entry t r ≡ started_by (step r.session c) t r
tween_tried t r ts b c same full free is =
    ap (λ b. if b then refused refusal.TooManyTweens else started_by (step r.session (set_number t.node t.field t.from)) t r) (same_full t r ts false same (sym full ∙ free))
    ∙ ap (λ x. started_by (step r.session x) t r) (sym is)

started_text : (o : outcome.Outcome) (t : Tween) (r : RunState) → outcome.text_of o ≡ text_of (started_by o t r)
started_text (outcome.done s text) t r = refl
started_text (outcome.refused why) t r = refl
started_text (outcome.faulted fault) t r = refl

started_end : (o : outcome.Outcome) (t : Tween) (r : RunState) → ended_by (outcome.end_of o) ≡ end_of (started_by o t r)
started_end (outcome.done s text) t r = refl
started_end (outcome.refused why) t r = refl
started_end (outcome.faulted fault) t r = refl

-- where it leaves the tweens, by how its `set` ended
tween_runs : {V : Type 0} {D : V → Type 0} (live : Live V D) (meaning : Means D) (o : outcome.Outcome) (t : Tween) (r : RunState)
    → line_end.Done ≡ outcome.end_of o → HoldsState live.session meaning (outcome.state_after r.session o) → live.tickers ≡ started t r.tweens
    → live.focus ≡ r.focus → live.raster ≡ r.grid → LiveStands live meaning (state_after r (started_by o t r))
tween_runs live meaning (outcome.done s text) t r e held running focus grid = record { session = held; tweens = running; focus = focus; grid = grid }
tween_runs live meaning (outcome.refused why) t r e held running focus grid = cc
tween_runs live meaning (outcome.faulted fault) t r e held running focus grid = cc

pub runs_by : {V : Type 0} {D : V → Type 0} (live : Live V D) (meaning : Means D) (o : outcome.Outcome) (t : Tween) (r : RunState) (came : Came)
    → came ≡ started_by o t r → line_end.Done ≡ outcome.end_of o → HoldsState live.session meaning (outcome.state_after r.session o) → live.tickers ≡ started t r.tweens
    → live.focus ≡ r.focus → live.raster ≡ r.grid → LiveStands live meaning (state_after r came)
runs_by live meaning o t r came is e held running focus grid =
    let P : Came → Type 0 = λ x. LiveStands live meaning (state_after r x) in
    subst P (sym is) (tween_runs live meaning o t r e held running focus grid)

-- no `set` but one that is done changes the state
stays_as : (e : LineEnd) (o : outcome.Outcome) (s : SessionState) → e ≡ outcome.end_of o → (line_end.Done ≡ e → ⊥) → outcome.state_after s o ≡ s
stays_as e (outcome.done next text) s is other = absurd (other (sym is))
stays_as e (outcome.refused why) s is other = refl
stays_as e (outcome.faulted fault) s is other = refl

tween_stays : (e : LineEnd) (o : outcome.Outcome) (t : Tween) (r : RunState) → e ≡ outcome.end_of o → (line_end.Done ≡ e → ⊥) → state_after r (started_by o t r) ≡ r
tween_stays e (outcome.done next text) t r is other = absurd (other (sym is))
tween_stays e (outcome.refused why) t r is other = refl
tween_stays e (outcome.faulted fault) t r is other = refl

pub stays_by : {V : Type 0} {D : V → Type 0} (live : Live V D) (meaning : Means D) (e : LineEnd) (o : outcome.Outcome) (t : Tween) (r : RunState) (came : Came)
    → came ≡ started_by o t r → e ≡ outcome.end_of o → (line_end.Done ≡ e → ⊥) → HoldsState live.session meaning (outcome.state_after r.session o) → live.tickers ≡ r.tweens
    → live.focus ≡ r.focus → live.raster ≡ r.grid → LiveStands live meaning (state_after r came)
stays_by live meaning e o t r came is end other held running focus grid =
    let P : RunState → Type 0 = LiveStands live meaning in
    subst P (sym (ap (state_after r) is ∙ tween_stays e o t r end other))
    (record { session = subst (HoldsState live.session meaning) (stays_as e o r.session end other) held; tweens = running; focus = focus; grid = grid })

-- its text and its end, where there was room
pub tween_text : (o : outcome.Outcome) (t : Tween) (r : RunState) (came : Came) (old new : List ℕ) → came ≡ started_by o t r → new ≡ old ++ outcome.text_of o
    → new ≡ old ++ text_of came
tween_text o t r came old new is text = text ∙ ap (λ x. old ++ x) (started_text o t r ∙ ap text_of (sym is))

pub tween_end : (e : LineEnd) (o : outcome.Outcome) (t : Tween) (r : RunState) (came : Came) → came ≡ started_by o t r → e ≡ outcome.end_of o → ended_by e ≡ end_of came
tween_end e o t r came is end = ap ended_by end ∙ started_end o t r ∙ ap end_of (sym is)

-- ---- `frame`: it is never refused

frame_built : (b : Built) (s : SessionState) (why : Refusal) → line_end.Refused why ≡ outcome.end_of (frame_by b s) → ⊥
frame_built (failed fault) s why e = cc
frame_built (built tree next) s why e = cc

never_refused : (s : SessionState) (why : Refusal) → line_end.Refused why ≡ outcome.end_of (step s command.Frame) → ⊥
never_refused s why e = frame_built (built_of s) s why e

-- what `frame` comes to at a time
abbrev framed_at : ℕ → RunState → Came
framed_at now r = framed_by (step (with_values now r.tweens r.session) command.Frame) now (tweens_kept now r.session r.tweens) r

framed_text : (o : outcome.Outcome) (now : ℕ) (ts : List Tween) (r : RunState) → outcome.text_of o ≡ text_of (framed_by o now ts r)
framed_text (outcome.done s text) now ts r = refl
framed_text (outcome.refused why) now ts r = refl
framed_text (outcome.faulted fault) now ts r = refl

framed_end : (o : outcome.Outcome) (now : ℕ) (ts : List Tween) (r : RunState) → ended_by (outcome.end_of o) ≡ end_of (framed_by o now ts r)
framed_end (outcome.done s text) now ts r = refl
framed_end (outcome.refused why) now ts r = refl
framed_end (outcome.faulted fault) now ts r = refl

shown_lands : {V : Type 0} {D : V → Type 0} (live : Live V D) (meaning : Means D) (o : outcome.Outcome) (before : SessionState) (now : ℕ) (ts : List Tween) (r : RunState)
    → ended.Done ≡ ended_by (outcome.end_of o)
    → LiveStands live meaning (record {
      session = outcome.state_after before o;
      tweens = unfinished now ts;
      focus = focus_kept (order_in (outcome.state_after before o).shown) r.focus;
      grid = r.grid;
    })
    → LiveLands live meaning r (framed_by o now ts r)
shown_lands live meaning (outcome.done s text) before now ts r e stands = stands
shown_lands live meaning (outcome.refused why) before now ts r e stands = cc
shown_lands live meaning (outcome.faulted fault) before now ts r e stands = cc

fault_lands : {V : Type 0} {D : V → Type 0} (live : Live V D) (meaning : Means D) (o : outcome.Outcome) (e : Ended) (now : ℕ) (ts : List Tween) (r : RunState)
    → ((why : Refusal) → line_end.Refused why ≡ outcome.end_of o → ⊥) → e ≡ ended_by (outcome.end_of o) → (e ≡ ended.Done → ⊥) → LiveLands live meaning r (framed_by o now ts r)
fault_lands live meaning (outcome.done s text) e now ts r never is other = absurd (other is)
fault_lands live meaning (outcome.refused why) e now ts r never is other = absurd (never why refl)
fault_lands live meaning (outcome.faulted fault) e now ts r never is other = tt

-- a line that is done has no fault
pub done_faultless : (end : LineEnd) → ended_by end ≡ ended.Done → is_fault end ≡ false
done_faultless line_end.Done e = refl
done_faultless (line_end.Refused why) e = refl
done_faultless (line_end.Fault fault) e = cc

-- the state after the tweens' values are set at a time
abbrev pub set_state : ℕ → RunState → RunState
set_state now r = record r { session = with_values now r.tweens r.session; tweens = tweens_kept now r.session r.tweens }

-- what the session's frame comes to then
abbrev pub frame_then : ℕ → RunState → outcome.Outcome
frame_then now r = step (set_state now r).session command.Frame

-- the state after it, with the tweens that still run
abbrev pub frame_state : ℕ → RunState → RunState
frame_state now r = record (set_state now r) { session = outcome.state_after (set_state now r).session (frame_then now r) }

-- the state at the end, with the focus
abbrev pub settled : ℕ → RunState → RunState
settled now r = record r {
  session = (frame_state now r).session;
  tweens = unfinished now (frame_state now r).tweens;
  focus = focus_kept (order_in (frame_state now r).session.shown) r.focus;
}

pub frame_lands : {V : Type 0} {D : V → Type 0} (live : Live V D) (meaning : Means D) (now : ℕ) (r : RunState) → now ≡ r.session.time
    → ended.Done ≡ ended_by (outcome.end_of (frame_then now r)) → LiveStands live meaning (settled now r) → LiveLands live meaning r (frame_entry r)
frame_lands live meaning now r time end stands =
    let P : ℕ → Type 0 = λ n. LiveLands live meaning r (framed_at n r) in
    subst P time (shown_lands live meaning (frame_then now r) (set_state now r).session now (set_state now r).tweens r end stands)

pub frame_faults : {V : Type 0} {D : V → Type 0} (live : Live V D) (meaning : Means D) (now : ℕ) (r : RunState) (e : Ended) → now ≡ r.session.time
    → e ≡ ended_by (outcome.end_of (frame_then now r)) → (e ≡ ended.Done → ⊥) → LiveLands live meaning r (frame_entry r)
frame_faults live meaning now r e time end other =
    let P : ℕ → Type 0 = λ n. LiveLands live meaning r (framed_at n r) in
    subst P time (fault_lands live meaning (frame_then now r) e now (set_state now r).tweens r (never_refused (set_state now r).session) end other)

pub frame_prints : (now : ℕ) (r : RunState) (old between new : List ℕ) → now ≡ r.session.time → between ≡ old → new ≡ between ++ outcome.text_of (frame_then now r)
    → new ≡ old ++ text_of (frame_entry r)
frame_prints now r old between new time quiet text =
    text ∙ ap (λ x. x ++ outcome.text_of (frame_then now r)) quiet
    ∙ ap (λ x. old ++ x) (framed_text (frame_then now r) now (set_state now r).tweens r ∙ ap (λ n. text_of (framed_at n r)) time)

pub frame_ends : (now : ℕ) (r : RunState) (e : Ended) → now ≡ r.session.time → e ≡ ended_by (outcome.end_of (frame_then now r)) → e ≡ end_of (frame_entry r)
frame_ends now r e time end =
    end ∙ framed_end (frame_then now r) now (set_state now r).tweens r ∙ ap (λ n. end_of (framed_at n r)) time
