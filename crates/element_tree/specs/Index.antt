-- Which element has a number, and what holds of every tree of elements.
use Rattle.std.specs.Prelude.{◌≡◌, ◌==◌, ℕ, ◌+◌, ◌≤◌, List, [], ◌∷◌, Option, Some, None, if◌then◌else◌, is_some}
use Rattle.std.specs.List.{filter}
use Rattle.fx_handles.specs.declared.Handle.{Handle}
use Rattle.node_tree.specs.Tree.{Tree, node_at}
use Rattle.element_tree.specs.Element.{Element, element_at, number_at, made_count}
use Rattle.element_tree.specs.Fields.{AreDeclared}
use Rattle.element_tree.specs.declared.numbers.Numbered.{Numbered}

-- the handle that stands under a number
abbrev pub handle_of : List Numbered → ℕ → Option Handle
handle_of [] n = None
handle_of (x ∷ xs) n = if x.number == n then Some x.at else handle_of xs n

-- the numbers rise, from low on and below high
abbrev pub Rises : ℕ → ℕ → List Numbered → Type 0
Rises low high [] = low ≤ high
Rises low high (x ∷ xs) = (low ≤ x.number) × Rises (x.number + 1) high xs

-- those whose element is there
abbrev pub live_ones : Tree Element → List Numbered → List Numbered
live_ones t xs = filter (λ x. is_some (node_at t x.at)) xs

-- an element's number is one of those that were given so far, which are counted from 1, and its fields are those that its
-- widget declares
pub record IsMade (made : ℕ) (e : Element) : Type 0 where
  pub first : 1 ≤ e.number
  pub last : e.number ≤ made
  pub typed : AreDeclared e.widget e.fields

-- so it is of each element of a tree
abbrev pub AreMade : Tree Element → Type 0
AreMade t = (h : Handle) (e : Element) → element_at t h ≡ Some e → IsMade (made_count t) e

-- what the fields of every tree keep: the index names exactly the elements, by their numbers, which rise
pub record IsIndexed (numbers : List Numbered) (t : Tree Element) (next : ℕ) : Type 0 where
  pub rises : Rises 1 next numbers
  pub to_node : (n : ℕ) (h : Handle) → handle_of numbers n ≡ Some h → number_at t h ≡ Some n
  pub to_index : (n : ℕ) (h : Handle) → number_at t h ≡ Some n → handle_of numbers n ≡ Some h
  pub made : AreMade t
  pub following : next ≡ made_count t + 1
