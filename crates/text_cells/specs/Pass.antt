-- Private words of the pass over a text's clusters: what the code's values stand for. No public clause cites these.
use Rattle.std.specs.Prelude.{◌≡◌, ℕ, ◌+◌, ◌≤◌, ◌⊎◌, true, false, List, [], ◌∷◌, ◌++◌, take, length, Option, Some, None}
use Rattle.text_cells.specs.Cluster.{Cluster, width, cells_sum, bytes_sum}
use Rattle.text_cells.specs.Line.{fits, last_is_space}
use Rattle.std.specs.List.{concat}
use Rattle.text_cells.specs.Wrapping.{line_of, widest}
use Rattle.text_cells.specs.Wrapped.{is_some, before_cut, word_cut, start_cut, cut_lines, text_lines, wrapped}
use Rattle.text_cells.specs.declared.line.Line.{Line}
use Rattle.text_cells.specs.declared.pending.Pending.{Pending}
use Rattle.text_cells.specs.declared.stretch.Piece.{Piece}
use Rattle.text_cells.specs.declared.stretch.Stretch.{Stretch}
use Rattle.text_cells.specs.declared.pending.EndedLines.{EndedLines}

-- no cluster is a space
abbrev pub NoSpace : List Cluster → Type 0
NoSpace ys = (n : ℕ) → last_is_space (take n ys) ≡ false

pub record IsHeld (limit : Option ℕ) (xs ys : List Cluster) : Type 0 where
  pub space : (xs ≡ []) ⊎ (last_is_space xs ≡ true)
  pub word : NoSpace ys
  pub fit : (fits limit (width (xs ++ ys)) ≡ true) ⊎ (length (xs ++ ys) ≤ 1)

-- ---- what the code's values stand for

-- a stretch stands for these clusters
pub record IsStretch (s : Stretch) (cs : List Cluster) : Type 0 where
  pub some : s.some ≡ is_some cs
  pub bytes : s.bytes ≡ bytes_sum cs
  pub cells : s.cells ≡ cells_sum cs

-- what is pending stands for a line that began at a byte, of which a stretch and a word are held
pub record HoldsPending (p : Pending) (start : ℕ) (xs ys : List Cluster) : Type 0 where
  pub begins : p.start ≡ start
  pub before : IsStretch p.before xs
  pub before_width : p.before_width ≡ width xs
  pub word : IsStretch p.word ys
  pub held : IsHeld p.limit xs ys

-- a piece stands for a cluster
pub record IsPiece (p : Piece) (c : Cluster) : Type 0 where
  pub len : p.len ≡ c.len
  pub cells : p.cells ≡ c.cells
  pub is_space : p.is_space ≡ c.is_space

-- where the present line ends so far
abbrev pub end_of : Pending → ℕ
end_of p = p.start + (p.before.bytes + p.word.bytes)

-- a line or none, as a list
abbrev pub listed : Option Line → List Line
listed None = []
listed (Some line) = line ∷ []

abbrev pub ended_lines : EndedLines → List Line
ended_lines e = listed e.first ++ listed e.second

-- a cut of the present line, where it is full
pub record Cuts (old new : Pending) (result : Option Line) (start : ℕ) (xs ys : List Cluster) (c : Cluster) : Type 0 where
  pub lines : listed result ≡ cut_lines old.limit start xs ys c
  pub holds : HoldsPending new (start_cut old.limit start xs ys c) (before_cut old.limit xs ys c) (word_cut old.limit xs ys c)

-- the line of all that is held
pub record Ends (p : Pending) (result : Line) (start : ℕ) (xs ys : List Cluster) : Type 0 where
  pub line : result ≡ line_of start (xs ++ ys) (length (xs ++ ys))

-- one cluster of the text was taken: the lines that ended, and what is held now
pub record TookCluster (limit : Option ℕ) (new : Pending) (result : EndedLines) (at : ℕ) (xs ys : List Cluster) (bytes : List ℕ) : Type 0 where
  pub start : ℕ
  pub before : List Cluster
  pub word : List Cluster
  pub holds : HoldsPending new start before word
  pub lines : (rest : List (List ℕ)) → text_lines limit at xs ys (bytes ∷ rest) ≡ ended_lines result ++ text_lines limit start before word rest

-- in the midst of a text: the lines that ended so far, what is pending, and the clusters that are left
pub record MidText (limit : Option ℕ) (p : Pending) (done : List Line) (left all : List (List ℕ)) (len : ℕ) : Type 0 where
  pub start : ℕ
  pub before : List Cluster
  pub word : List Cluster
  pub holds : HoldsPending p start before word
  pub same : p.limit ≡ limit
  pub lines : done ++ text_lines limit start before word left ≡ text_lines limit 0 [] [] all
  pub end : end_of p + length (concat left) ≡ len

-- the same, where the lines are counted and not kept
pub record Counted (limit : Option ℕ) (p : Pending) (count cells : ℕ) (left all : List (List ℕ)) (len : ℕ) : Type 0 where
  pub done : List Line
  pub midway : MidText limit p done left all len
  pub number : count ≡ length done
  pub width : cells ≡ widest done

-- there are this many lines, of which the widest takes these cells
pub record HasExtent (limit : Option ℕ) (text : List ℕ) (count cells : ℕ) : Type 0 where
  pub number : count ≡ length (wrapped limit text)
  pub width : cells ≡ widest (wrapped limit text)
