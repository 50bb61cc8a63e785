-- Which state a session stands for. What a delegate means is given as a function, since a session holds delegates of any type.
use Rattle.std.specs.Prelude.{◌≡◌, ℕ, true, false, if◌then◌else◌}
use Rattle.delegates.specs.Table.{meant_in, Means}
use Rattle.session_form.specs.State.{SessionState}
use Rattle.frame_session.specs.declared.session.Session.{Session}
use Rattle.frame_session.specs.StandsFor.{StandsFor}

-- want of memory has spent the session
abbrev pub IsSpent : {V : Type 0} {D : V → Type 0} → Session V D → Type 0
IsSpent session = session.kept.spent ≡ true

-- a frame had a fault, which ended the session: nothing can be asked of it any more
abbrev pub IsOver : {V : Type 0} {D : V → Type 0} → Session V D → Type 0
IsOver session = session.kept.over ≡ true

-- the session isn't spent, no frame had a fault, and what it keeps stands for the state, where its delegates mean this
abbrev pub HoldsState : {V : Type 0} {D : V → Type 0} → Session V D → (Means D) → SessionState → Type 0
HoldsState session means s =
    (session.kept.spent ≡ false) × (session.kept.over ≡ false) × StandsFor session.kept.held (meant_in session.delegates means) s

-- unless want of memory has spent the session, or a fault has ended it, it stands for some state
abbrev pub HoldsSome : {V : Type 0} {D : V → Type 0} → Session V D → (Means D) → Type 0
HoldsSome session means =
    session.kept.spent ≡ false → session.kept.over ≡ false → (s : SessionState) × StandsFor session.kept.held (meant_in session.delegates means) s

-- how many frames it has shown; of a spent session none counts
abbrev pub frames_shown : {V : Type 0} {D : V → Type 0} → Session V D → ℕ
frames_shown session = if session.kept.spent then 0 else session.kept.held.frames
