-- What one write does.
use Rattle.std.specs.Prelude.{◌≡◌, ℕ, ◌<◌, ◌≤◌, List, length, take, Option}
use Rattle.fx_outside.specs.Faults.{next_count}
use Rattle.fx_outside.specs.Told.{HasWritten}
use Rattle.fx_outside.specs.declared.sink.Write.{Write}
use Rattle.fx_outside.specs.declared.sink.Write.TheVariants.{Took, NoMemory, Failed}

-- From what was held, what is held, the answer and the piece: a count is at least 1 and within the piece, and so many of
-- its first bytes were appended; after the other two answers what is held is as before.
abbrev pub Writes : Option (List ℕ) → Option (List ℕ) → Write → List ℕ → Type 0
Writes old new (Took n) piece = (0 < n) × (n ≤ length piece) × HasWritten old new (take n piece)
Writes old new NoMemory piece = new ≡ old
Writes old new Failed piece = new ≡ old

-- a fact on the number of bytes that were taken, where some were
abbrev pub IfTook : Write → (ℕ → Type 0) → Type 0
IfTook (Took n) P = P n
IfTook NoMemory P = Unit {0}
IfTook Failed P = Unit {0}

-- the count of faults after a write, of a sink whose faults are its failed writes
abbrev pub faults_after_write : Write → ℕ → ℕ
faults_after_write (Took n) faults = faults
faults_after_write NoMemory faults = faults
faults_after_write Failed faults = next_count faults
