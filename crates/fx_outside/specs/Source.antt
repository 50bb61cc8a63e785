-- What one read does.
use Rattle.std.specs.Prelude.{◌≡◌, ℕ, ◌<◌, ◌≤◌, List, length, take, Option}
use Rattle.fx_outside.specs.Faults.{next_count}
use Rattle.fx_outside.specs.Told.{HasRead, IsAtEnd}
use Rattle.fx_outside.specs.declared.source.Read.{Read}
use Rattle.fx_outside.specs.declared.source.Read.TheVariants.{Got, End, Failed}

-- From what was left, what is left, the answer and the buffer as it is afterwards: a count is at least 1 and within the
-- buffer, and so many next bytes stand at the buffer's front; the end comes only where no byte is left; after the end
-- and after a fault what is left is as before.
abbrev pub Reads : Option (List ℕ) → Option (List ℕ) → Read → List ℕ → Type 0
Reads old new (Got n) buf = (0 < n) × (n ≤ length buf) × HasRead old new (take n buf)
Reads old new End buf = (new ≡ old) × IsAtEnd old
Reads old new Failed buf = new ≡ old

-- a fact on the number of bytes that came, where some came
abbrev pub IfGot : Read → (ℕ → Type 0) → Type 0
IfGot (Got n) P = P n
IfGot End P = Unit {0}
IfGot Failed P = Unit {0}

-- the count of faults after a read, of a source whose faults are its failed reads
abbrev pub faults_after_read : Read → ℕ → ℕ
faults_after_read (Got n) faults = faults
faults_after_read End faults = faults
faults_after_read Failed faults = next_count faults
