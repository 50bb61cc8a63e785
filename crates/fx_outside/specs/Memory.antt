-- What a source and a sink over memory are. Their reads and writes are counted from 0, and fail by their numbers.
use Rattle.std.specs.Prelude.{ℕ, List, length, min, max}

-- the bytes that are left, the most that one read gives, the numbers of the reads that fail, and how many reads and how
-- many faults there were
pub record MemoryReads : Type 0 where
  pub left : List ℕ
  pub piece : ℕ
  pub fails : List ℕ
  pub reads : ℕ
  pub faults : ℕ

-- how many bytes a read into so much room gives, where it doesn't fail
abbrev pub given_count : MemoryReads → ℕ → ℕ
given_count s room = min (min (max s.piece 1) room) (length s.left)

-- the bytes that are held, the numbers of the writes that fail, and how many writes and how many faults there were
pub record MemoryWrites : Type 0 where
  pub held : List ℕ
  pub fails : List ℕ
  pub writes : ℕ
  pub faults : ℕ
