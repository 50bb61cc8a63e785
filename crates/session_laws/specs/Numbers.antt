-- What holds of the numbers of nodes between two lines: of the tree, and of what the last frame shows of it.
use Rattle.std.specs.Prelude.{ℕ, ◌<◌, ◌≤◌, Option, Some, None, IfSome, List}
use Rattle.std.specs.List.{All}
use Rattle.plain_tree.specs.At.{numbers_of}
use Rattle.plain_tree.specs.Laws.{laid_numbers_of, IsLeftOf, AllDiffer}
use Rattle.plain_tree.specs.PlainNode.{PlainNode}
use Rattle.build_form.specs.Numbered.{IsNumbered}
use Rattle.session_form.specs.State.{SessionState, Shown}

-- no number stands twice in a list, and each is at least 1 and below the next free one
pub record TellApart (next : ℕ) (numbers : List ℕ) : Type 0 where
  pub differ : AllDiffer numbers
  pub positive : All (λ number. 1 ≤ number) numbers
  pub below : All (λ number. number < next) numbers

-- what is shown has some of the numbers of the tree, in their order
abbrev pub ShowsSome : Option PlainNode → Option Shown → Type 0
ShowsSome tree None = Unit {0}
ShowsSome None (Some shown) = ⊥
ShowsSome (Some tree) (Some shown) = IsLeftOf (laid_numbers_of shown.laid) (numbers_of tree)

-- the numbers of a session's nodes: of its tree, and of the laid tree that it shows
pub record HasNumbers (s : SessionState) : Type 0 where
  pub tree : IfSome s.tree (λ tree. TellApart s.next (numbers_of tree))
  pub shown : IfSome s.shown (λ shown. TellApart s.next (laid_numbers_of shown.laid))
  pub shows : ShowsSome s.tree s.shown
  -- the nodes of the tree also stand in place, as the next build asks of them
  pub placed : IfSome s.tree (IsNumbered s.next)
  pub next : 1 ≤ s.next
