-- What holds after a line that goes on.
use Rattle.std.proofs.Common.{◌≡◌, Bool, true, false, Result, Ok, Err, IfOk, OnOk, refl, subst}
use Rattle.std.specs.declared.alloc.AllocError.{AllocError}
use Rattle.session_form.specs.declared.line_end.LineEnd.{LineEnd}
use Rattle.session_form.specs.Outcome.{Outcome, done, refused, faulted, end_of}
use Rattle.frame_session.specs.Ending.{is_fault, Unless, IfGoesOn, UnlessFaulted}

unless : (b : Bool) (P : Type 0) → P → Unless b P
unless true P h = tt
unless false P h = h

-- where it is so whatever a line came to
pub ended_on : (end : LineEnd) (P : Type 0) → P → IfGoesOn (Ok end) P
ended_on end P h = unless (is_fault end) P h

pub goes_on : (r : Result LineEnd AllocError) (P : Type 0) → OnOk r P → IfGoesOn r P
goes_on (Ok end) P h = unless (is_fault end) P h
goes_on (Err short) P h = tt

-- of a line that ended without a fault
pub faultless_end : (end : LineEnd) (P : Type 0) → is_fault end ≡ false → IfGoesOn (Ok end) P → P
faultless_end end P none h = subst (λ b. Unless b P) none h

pub faultless_on : (r : Result LineEnd AllocError) (P : Type 0) → IfOk r (λ end. is_fault end ≡ false) → IfGoesOn r P → OnOk r P
faultless_on (Ok end) P none h = faultless_end end P none h
faultless_on (Err short) P none h = tt

pub not_both : (b : Bool) → b ≡ false → b ≡ true → ⊥
not_both true e f = cc
not_both false e f = cc

-- of what comes to no fault
pub unfaulted : (o : Outcome) (P : Type 0) → is_fault (end_of o) ≡ false → UnlessFaulted o P → P
unfaulted (done s text) P none h = h
unfaulted (refused why) P none h = h
unfaulted (faulted fault) P none h = absurd (not_both true none refl)
