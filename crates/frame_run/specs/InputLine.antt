-- What is kept of a line that is still to end.
use Rattle.std.specs.Prelude.{◌≡◌, ◌≢◌, ℕ, ◌<◌, Bool, true, false, ◌⊎◌, List, [], ◌∷◌, ◌++◌, length, reverse, replicate, if◌then◌else◌}
use Rattle.script_lines.specs.declared.reading.TheConstants.{LINE_MAX}
use Rattle.frame_run.specs.Lines.{without_return, without_spaces, trimmed}
use Rattle.frame_run.specs.declared.line.InputLine.{InputLine}

-- the kept bytes, so many U+0020 after them, and a U+000D where there is one after these
abbrev pub whole_line : List ℕ → ℕ → Bool → List ℕ
whole_line kept spaces has_return = kept ++ replicate spaces 32 ++ (if has_return then 13 ∷ [] else [])

-- The line is these three parts, and of the first nothing would be dropped at its end.
pub record IsWhole (kept : List ℕ) (spaces : ℕ) (has_return : Bool) (raw : List ℕ) : Type 0 where
  pub line : raw ≡ whole_line kept spaces has_return
  pub no_space : without_spaces (reverse kept) ≡ reverse kept
  pub no_return : spaces ≡ 0 → has_return ≡ false → without_return (reverse kept) ≡ reverse kept

-- what is kept stands for the line: it is the whole line by its parts, or both are too long without what is dropped
abbrev pub HoldsWithin : ℕ → List ℕ → ℕ → Bool → List ℕ → Type 0
HoldsWithin limit kept spaces has_return raw =
    IsWhole kept spaces has_return raw ⊎ ((limit < length kept) × (limit < length (trimmed raw)))

abbrev pub HoldsLine : InputLine → List ℕ → Type 0
HoldsLine line raw = HoldsWithin LINE_MAX line.kept.items line.spaces line.has_return raw

-- the kept bytes are all of these, or both are too long
abbrev pub IsCapped : ℕ → List ℕ → List ℕ → Type 0
IsCapped limit whole kept = (kept ≡ whole) ⊎ ((limit < length kept) × (limit < length whole))

-- the byte may follow these bytes, if they are kept whole: it isn't dropped at a line's end, or a U+000D stands before it
abbrev pub Follows : List ℕ → ℕ → Type 0
Follows raw byte = ((byte ≢ 32) × (byte ≢ 13)) ⊎ ((front : List ℕ) × (raw ≡ front ++ 13 ∷ []))

-- a byte after a line that may end in a U+000D: it would be dropped, if it were the last one, or not
abbrev pub MayDrop : Bool → ℕ → Type 0
MayDrop has_return byte = (has_return ≡ false) × ((byte ≡ 32) ⊎ (byte ≡ 13))

abbrev pub MustKeep : Bool → ℕ → Type 0
MustKeep has_return byte = (has_return ≡ true) ⊎ ((byte ≢ 32) × (byte ≢ 13))
