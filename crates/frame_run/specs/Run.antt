-- What a whole run does.
use Rattle.std.specs.Prelude.{◌≡◌, ℕ, ◌⊎◌, List, Option}
use Rattle.fx_outside.specs.Told.{HasRead, HasWritten, IsAtEnd, HasPart}
use Rattle.work_sets.specs.Work.{Work}
use Rattle.frame_run.specs.Status.{OnEnd, OnMemory}
use Rattle.frame_run.specs.Work.{RoseWithin}
use Rattle.frame_run.specs.declared.status.Status.{Status}
use Rattle.frame_run.specs.declared.status.Status.TheVariants.{AllAccepted, SomeRefused, BadWords, BadProgram, FrameFault, ReadFault, WriteFault, NoMemory, TooLong}

-- What stands written where a run was cut off, r being the bytes read: at a read fault the whole text of the lines that
-- ended in them; else a front of it, or of the whole text of r where the source was at its end.
abbrev pub IsCutOff : (List ℕ → List ℕ) → (List ℕ → List ℕ) → Status → Option (List ℕ) → Option (List ℕ) → Option (List ℕ) → List ℕ → Type 0
IsCutOff ended whole AllAccepted left old new r = Unit {0}
IsCutOff ended whole SomeRefused left old new r = Unit {0}
IsCutOff ended whole BadWords left old new r = Unit {0}
IsCutOff ended whole BadProgram left old new r = Unit {0}
IsCutOff ended whole FrameFault left old new r = Unit {0}
IsCutOff ended whole ReadFault left old new r = HasWritten old new (ended r)
IsCutOff ended whole WriteFault left old new r = HasPart old new (ended r) ⊎ (IsAtEnd left × HasPart old new (whole r))
IsCutOff ended whole NoMemory left old new r = HasPart old new (ended r) ⊎ (IsAtEnd left × HasPart old new (whole r))
IsCutOff ended whole TooLong left old new r = Unit {0}

-- the bytes read in a call, and what stands written where it was cut off; `ended` is the text of the lines that ended in
-- some bytes, and `whole` the whole text of these
pub record CutOff (ended whole : List ℕ → List ℕ) (result : Status) (left_old left_new held_old held_new : Option (List ℕ)) : Type 0 where
  pub bytes : List ℕ
  pub read : HasRead left_old left_new bytes
  pub part : IsCutOff ended whole result left_new held_old held_new bytes

-- The bytes read in a call, and what came of them unless it was cut off: the status is theirs, and their text is written. The
-- source may tell its bytes or not.
pub record Answered (status_at : List ℕ → Status) (text_at : List ℕ → List ℕ) (result : Status) (left_old left_new held_old held_new : Option (List ℕ)) : Type 0 where
  pub bytes : List ℕ
  pub read : HasRead left_old left_new bytes
  pub answer : OnEnd result (result ≡ status_at bytes)
  pub text : OnEnd result (HasWritten held_old held_new (text_at bytes))

-- The bytes read in a call, and what came of them: unless memory was wanting, no more than their work was counted.
pub record AnsweredWithin (status_at : List ℕ → Status) (text_at : List ℕ → List ℕ) (work_at : List ℕ → Work) (result : Status) (left_old left_new held_old held_new : Option (List ℕ)) (builds_before builds_after layouts_before layouts_after paints_before paints_after : ℕ) : Type 0 where
  pub answered : Answered status_at text_at result left_old left_new held_old held_new
  pub within : OnMemory result (RoseWithin (work_at answered.bytes) builds_before builds_after layouts_before layouts_after paints_before paints_after)
