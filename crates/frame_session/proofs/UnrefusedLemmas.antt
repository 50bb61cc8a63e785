-- A frame is never refused.
use Rattle.std.proofs.Common.{◌≡◌, Bool, true, false, Result, Ok, Err, IfOk, OnOk, refl, sym, subst, ◌∙◌}
use Rattle.std.specs.declared.alloc.AllocError.{AllocError}
use Rattle.build_form.specs.FullBuild.{Built, failed, built}
use Rattle.session_form.specs.Framing.{built_of, frame_by, frame_line}
use Rattle.session_form.specs.Outcome.{end_of}
use Rattle.session_form.specs.State.{SessionState}
use Rattle.session_form.specs.declared.line_end.LineEnd.{LineEnd}
use Rattle.session_form.specs.declared.line_end.LineEnd.TheVariants as line_end
use Rattle.session_form.specs.declared.refusal.Refusal.{Refusal}

end_by : (b : Built) (s : SessionState) (why : Refusal) → end_of (frame_by b s) ≡ line_end.Refused why → ⊥
end_by (failed fault) s why e = cc
end_by (built made next) s why e = cc

-- of a frame in a state
frame_unrefused : (r : Result LineEnd AllocError) (s : SessionState) (why : Refusal) → IfOk r (λ end. end ≡ end_of (frame_line s)) → r ≡ Ok (line_end.Refused why) → ⊥
frame_unrefused (Ok end) s why is e = let ends : end ≡ line_end.Refused why = cc in end_by (built_of s) s why (sym is ∙ ends)
frame_unrefused (Err none) s why is e = cc

-- of a session, which may be spent
pub unrefused_by : (r : Result LineEnd AllocError) (spent : Bool) (why : Refusal) → (spent ≡ true → OnOk r ⊥)
    → (spent ≡ false → (s : SessionState) × IfOk r (λ end. end ≡ end_of (frame_line s))) → r ≡ Ok (line_end.Refused why) → ⊥
unrefused_by r true why h k e = subst (λ (x : Result LineEnd AllocError). OnOk x ⊥) e (h refl)
unrefused_by r false why h k e = let held = k refl in frame_unrefused r held.0 why held.1 e
