-- What a source and a sink over a reader and a writer of std are, and what one call of them does to the reader's or the
-- writer's bytes, where those are known.
use Rattle.std.specs.Prelude.{◌≡◌, ℕ, List, [], take, Option}
use Rattle.std.specs.Io.KnownBytes.{Appends, Consumes, IsAtEnd, Keeps}
use Rattle.fx_outside.specs.declared.source.Read.{Read}
use Rattle.fx_outside.specs.declared.source.Read.TheVariants as read
use Rattle.fx_outside.specs.declared.sink.Write.{Write}
use Rattle.fx_outside.specs.declared.sink.Write.TheVariants as write

-- how many faults there were, and the bytes that the reader will still give, or that the writer holds, where they are known
pub record StandardStream : Type 0 where
  pub faults : ℕ
  pub known : Option (List ℕ)

-- From the reader's bytes before and after, the answer and the buffer as it is afterwards: what came are the reader's next
-- bytes; at the end none is left; a fault took none.
abbrev pub ReadsFrom : Option (List ℕ) → Option (List ℕ) → Read → List ℕ → Type 0
ReadsFrom old new (read.Got n) buf = Consumes old new (take n buf)
ReadsFrom old new read.End buf = Consumes old new [] × IsAtEnd new
ReadsFrom old new read.Failed buf = Keeps old new

-- From the writer's bytes before and after, the answer and the piece: what was taken was appended, and nothing else.
abbrev pub WritesTo : Option (List ℕ) → Option (List ℕ) → Write → List ℕ → Type 0
WritesTo old new (write.Took n) piece = Appends old new (take n piece)
WritesTo old new write.NoMemory piece = ⊥
WritesTo old new write.Failed piece = Appends old new []
