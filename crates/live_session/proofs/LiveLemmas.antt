-- A command of the session over what a run keeps, and what each line asks of it.
use Rattle.std.proofs.Common.{◌≡◌, ◌∙◌, ◌++◌, ℕ, ℤ, List, Result, IfOk, OnOk, refl, ap, sym, subst, arith, to_z, of_z}
use Rattle.std.specs.Int.{w64}
use Rattle.std.proofs.lemmas.Int.{to_z-of_z, ints}
use Rattle.std.proofs.lemmas.Result.{on_ok_weaker}
use mir.Val.{SFits}
use Rattle.script_lines.specs.Ranges.{IsBetween}
use Rattle.script_lines.specs.declared.command.Command.{Command}
use Rattle.script_lines.specs.declared.command.Command.TheVariants as command
use Rattle.script_lines.specs.declared.entry.Entry.{Entry}
use Rattle.tickers.specs.declared.tween.Curve.{Curve}
use Rattle.tickers.specs.declared.tween.Tween.{Tween}
use Rattle.session_form.specs.Step.{frames_of}
use Rattle.frame_session.specs.Holds.{HoldsState}
use Rattle.session_form.specs.Outcome as outcome
use Rattle.session_form.specs.Step.{step}
use Rattle.live_session.specs.EntryStep.{command_step, entry_step}
use Rattle.live_session.specs.LiveStands.{LiveStands, LiveLands, text_of, end_of}
use Rattle.live_session.specs.RunState.{RunState, Came, went, refused, faulted, state_after, with_session}
use Rattle.live_session.specs.declared.live.Ended.{Ended}
use Rattle.live_session.specs.declared.live.Live.{Live}
use Rattle.delegates.specs.Table.{Means}

-- ---- each command but `frame` is one of the session alone, and adds no frame

pub frames_of-other : (k : Command) → (k ≡ command.Frame → ⊥) → frames_of k ≡ 0
frames_of-other command.Frame other = absurd (other refl)
frames_of-other (command.At t) other = refl
frames_of-other (command.Set node field value) other = refl
frames_of-other (command.Root json) other = refl
frames_of-other (command.Resize w h) other = refl
frames_of-other (command.Scroll node by) other = refl
frames_of-other (command.Down pointer x y) other = refl
frames_of-other (command.Move pointer x y) other = refl
frames_of-other (command.Up pointer) other = refl
frames_of-other (command.Cancel pointer) other = refl
frames_of-other (command.Hit x y) other = refl
frames_of-other command.Semantics other = refl
frames_of-other (command.Act node action) other = refl
frames_of-other (command.Delegate name field n) other = refl
frames_of-other (command.Unplug name) other = refl
frames_of-other command.States other = refl

pub command_step-other : (r : RunState) (k : Command) → (k ≡ command.Frame → ⊥) → command_step r k ≡ with_session (step r.session k) r
command_step-other r command.Frame other = absurd (other refl)
command_step-other r (command.At t) other = refl
command_step-other r (command.Set node field value) other = refl
command_step-other r (command.Root json) other = refl
command_step-other r (command.Resize w h) other = refl
command_step-other r (command.Scroll node by) other = refl
command_step-other r (command.Down pointer x y) other = refl
command_step-other r (command.Move pointer x y) other = refl
command_step-other r (command.Up pointer) other = refl
command_step-other r (command.Cancel pointer) other = refl
command_step-other r (command.Hit x y) other = refl
command_step-other r command.Semantics other = refl
command_step-other r (command.Act node action) other = refl
command_step-other r (command.Delegate name field n) other = refl
command_step-other r (command.Unplug name) other = refl
command_step-other r command.States other = refl

-- ---- what a command of the session comes to, beside which all else stays

pub session_state : {V : Type 0} {D : V → Type 0} (live next : Live V D) (meaning : Means D) (r : RunState) (o : outcome.Outcome)
    → LiveStands live meaning r → HoldsState next.session meaning (outcome.state_after r.session o)
    → next.tickers ≡ live.tickers → next.focus ≡ live.focus → next.raster ≡ live.raster
    → LiveStands next meaning (state_after r (with_session o r))
session_state live next meaning r (outcome.done s text) stands held tickers focus raster =
    record { session = held; tweens = tickers ∙ stands.tweens; focus = focus ∙ stands.focus; grid = raster ∙ stands.grid }
session_state live next meaning r (outcome.refused why) stands held tickers focus raster =
    record { session = held; tweens = tickers ∙ stands.tweens; focus = focus ∙ stands.focus; grid = raster ∙ stands.grid }
session_state live next meaning r (outcome.faulted fault) stands held tickers focus raster =
    record { session = held; tweens = tickers ∙ stands.tweens; focus = focus ∙ stands.focus; grid = raster ∙ stands.grid }

-- a line that leaves the run in a state lands there
pub lands_after : {V : Type 0} {D : V → Type 0} (live : Live V D) (meaning : Means D) (r : RunState) (o : Came)
    → LiveStands live meaning (state_after r o) → LiveLands live meaning r o
lands_after live meaning r (went next text) stands = stands
lands_after live meaning r (refused why) stands = stands
lands_after live meaning r (faulted fault) stands = tt

pub ok_lands : {V : Type 0} {D : V → Type 0} {A E : Type 0} (result : Result A E) (live : Live V D) (meaning : Means D) (r : RunState) (o : Came)
    → OnOk result (LiveStands live meaning (state_after r o)) → OnOk result (LiveLands live meaning r o)
ok_lands result live meaning r o stands = on_ok_weaker result (lands_after live meaning r o) stands

pub command_lands : {V : Type 0} {D : V → Type 0} {A E : Type 0} (result : Result A E) (live : Live V D) (meaning : Means D) (r : RunState) (k : Command)
    → (k ≡ command.Frame → ⊥) → OnOk result (LiveStands live meaning (state_after r (with_session (step r.session k) r)))
    → OnOk result (LiveLands live meaning r (command_step r k))
command_lands result live meaning r k other stands =
    let P : Came → Type 0 = λ o. OnOk result (LiveLands live meaning r o) in
    subst P (sym (command_step-other r k other)) (ok_lands result live meaning r _ stands)

-- ---- a line, by what it is

pub entry_lands : {V : Type 0} {D : V → Type 0} {A E : Type 0} (result : Result A E) (live : Live V D) (meaning : Means D) (r : RunState) (e form : Entry)
    → e ≡ form → OnOk result (LiveStands live meaning (state_after r (entry_step r form))) → OnOk result (LiveLands live meaning r (entry_step r e))
entry_lands result live meaning r e form is stands =
    let P : Entry → Type 0 = λ x. OnOk result (LiveLands live meaning r (entry_step r x)) in
    subst P (sym is) (ok_lands result live meaning r _ stands)

pub entry_text : {A E : Type 0} (result : Result A E) (old new : List ℕ) (r : RunState) (e form : Entry)
    → e ≡ form → OnOk result (new ≡ old ++ text_of (entry_step r form)) → OnOk result (new ≡ old ++ text_of (entry_step r e))
entry_text result old new r e form is text =
    let P : Entry → Type 0 = λ x. OnOk result (new ≡ old ++ text_of (entry_step r x)) in subst P (sym is) text

pub entry_end : {E : Type 0} (result : Result Ended E) (r : RunState) (e form : Entry)
    → e ≡ form → IfOk result (λ end. end ≡ end_of (entry_step r form)) → IfOk result (λ end. end ≡ end_of (entry_step r e))
entry_end result r e form is end =
    let P : Entry → Type 0 = λ x. IfOk result (λ end. end ≡ end_of (entry_step r x)) in subst P (sym is) end

-- ---- a tween's ends go into the call and come out as they are

end_fits : (z : ℤ) → IsBetween 1099511627776 z → SFits w64 z
end_fits z h = let low = h.0 in let high = h.1 in omega (arith, ints)

end_stays : (z : ℤ) → IsBetween 1099511627776 z → to_z w64 (of_z w64 z) ≡ z
end_stays z h = to_z-of_z w64 z (end_fits z h)

abbrev pub tween_with : ℕ → List ℕ → ℤ → ℤ → ℕ → ℕ → Curve → Tween
tween_with node field from to start ms curve = record { node = node; field = field; from = from; to = to; start = start; ms = ms; curve = curve }

pub same_tween : (node : ℕ) (copy field : List ℕ) (from to : ℤ) (now start ms : ℕ) (curve : Curve)
    → copy ≡ field → now ≡ start → IsBetween 1099511627776 from → IsBetween 1099511627776 to
    → tween_with node copy (to_z w64 (of_z w64 from)) (to_z w64 (of_z w64 to)) now ms curve ≡ tween_with node field from to start ms curve
same_tween node copy field from to now start ms curve f n a b =
    ap (λ x. tween_with node x (to_z w64 (of_z w64 from)) (to_z w64 (of_z w64 to)) now ms curve) f
    ∙ ap (λ x. tween_with node field x (to_z w64 (of_z w64 to)) now ms curve) (end_stays from a)
    ∙ ap (λ x. tween_with node field from x now ms curve) (end_stays to b)
    ∙ ap (λ x. tween_with node field from to x ms curve) n
