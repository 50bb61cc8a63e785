-- What holds after a line, by how it ended.
use Rattle.std.specs.Prelude.{Bool, true, false, Result, Ok, Err}
use Rattle.std.specs.declared.alloc.AllocError.{AllocError}
use Rattle.session_form.specs.Outcome.{Outcome, done, refused, faulted}
use Rattle.session_form.specs.declared.line_end.LineEnd.{LineEnd}
use Rattle.session_form.specs.declared.line_end.LineEnd.TheVariants as line_end

-- whether it ended with a fault
abbrev pub is_fault : LineEnd → Bool
is_fault line_end.Done = false
is_fault (line_end.Refused why) = false
is_fault (line_end.Fault fault) = true

-- unless it ended with a fault, which ends the session
abbrev pub Unless : Bool → Type 0 → Type 0
Unless true P = Unit {0}
Unless false P = P

-- where it was done or refused
abbrev pub IfGoesOn : Result LineEnd AllocError → Type 0 → Type 0
IfGoesOn (Ok end) P = Unless (is_fault end) P
IfGoesOn (Err short) P = Unit {0}

-- where it comes to no fault
abbrev pub UnlessFaulted : Outcome → Type 0 → Type 0
UnlessFaulted (done s text) P = P
UnlessFaulted (refused why) P = P
UnlessFaulted (faulted fault) P = Unit {0}
