-- What follows from numbers that tell nodes apart.
use Rattle.std.proofs.Common.{◌≡◌, ℕ, ◌≤◌, Some, IfSome, List, [], ◌∷◌, subst, arith}
use Rattle.std.specs.List.{All}
use Rattle.std.proofs.lemmas.List.Elements.{All-tail}
use Rattle.plain_tree.specs.At.{numbers_of}
use Rattle.plain_tree.specs.Laws.{laid_numbers_of, DiffersFrom, AllDiffer}
use Rattle.plain_tree.specs.PlainNode.{PlainNode}
use Rattle.session_form.specs.State.{SessionState, Shown}
use Rattle.session_laws.specs.Numbers.{TellApart, HasNumbers}

not_zero : (xs : List ℕ) → All (λ n. 1 ≤ n) xs → DiffersFrom 0 xs
not_zero [] h = tt
not_zero (x ∷ xs) h = (λ e. let some = h 0 x (omega arith) in absurd (omega arith), not_zero xs (All-tail (λ n. 1 ≤ n) x xs h))

pub with_zero : (next : ℕ) (xs : List ℕ) → TellApart next xs → AllDiffer (0 ∷ xs)
with_zero next xs h = (not_zero xs h.positive, h.differ)

pub shown_apart : (s : SessionState) (shown : Shown) → HasNumbers s → s.shown ≡ Some shown → TellApart s.next (laid_numbers_of shown.laid)
shown_apart s shown h is = subst (λ o. IfSome o (λ (x : Shown). TellApart s.next (laid_numbers_of x.laid))) is h.shown

pub tree_apart : (s : SessionState) (tree : PlainNode) → HasNumbers s → s.tree ≡ Some tree → TellApart s.next (numbers_of tree)
tree_apart s tree h is = subst (λ o. IfSome o (λ t. TellApart s.next (numbers_of t))) is h.tree
