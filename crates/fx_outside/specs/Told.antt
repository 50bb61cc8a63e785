-- What is said of the bytes of a source or a sink, each of which may tell them or not: `Some` bytes where it does.
-- Every fact here holds of one that doesn't tell its bytes, and says that it goes on not telling them.
use Rattle.std.specs.Prelude.{◌≡◌, ℕ, List, [], ◌++◌, Option, Some, None, option_map}

-- r was read: what was left is r and then what is left now.
abbrev pub HasRead : Option (List ℕ) → Option (List ℕ) → List ℕ → Type 0
HasRead old new r = old ≡ option_map (λ x. r ++ x) new

-- w was written: what is held now is what was held and then w.
abbrev pub HasWritten : Option (List ℕ) → Option (List ℕ) → List ℕ → Type 0
HasWritten old new w = new ≡ option_map (λ h. h ++ w) old

-- no byte is left
abbrev pub IsAtEnd : Option (List ℕ) → Type 0
IsAtEnd None = Unit {0}
IsAtEnd (Some bytes) = bytes ≡ []

-- a front of the text was written
pub record HasPart (old new : Option (List ℕ)) (text : List ℕ) : Type 0 where
  pub front : List ℕ
  pub more : List ℕ
  pub written : HasWritten old new front
  pub whole : text ≡ front ++ more

-- so far a front of the whole text was written, and the rest of it is still to come
pub record IsSoFar (old new : Option (List ℕ)) (whole rest : List ℕ) : Type 0 where
  pub front : List ℕ
  pub written : HasWritten old new front
  pub sum : whole ≡ front ++ rest
