-- The nodes below a semantics node are fewer than it is.
use Rattle.std.proofs.Common.{◌≡◌, ℕ, zero, suc, ◌+◌, ◌<◌, ◌≤◌, arith, List, [], ◌∷◌, map, length, get_or, ap, refl}
use Rattle.std.proofs.lemmas.Grind.{common_steps}
use Rattle.screen_form.specs.Sem.{count_of, total}
use Rattle.semantics_tree.specs.Lighter.{counts-total}
use Rattle.semantics_tree.specs.View.{sem_of}
use Rattle.semantics_tree.specs.declared.nodes.SemNode.{SemNode}

pub node_heavier : (n : SemNode) → count_of (sem_of n) ≡ 1 + total n.children
node_heavier n = ap (λ k. 1 + k) (counts-total n.children)

pub item_lighter : (xs : List SemNode) (i : ℕ) (x : SemNode) → i < length xs → x ≡ get_or xs i x → count_of (sem_of x) ≤ total (map sem_of xs)
item_lighter [] i x less e = absurd (let none : length {A = SemNode} [] ≡ 0 = refl in omega arith)
item_lighter (y ∷ xs) zero x less e = let same : count_of (sem_of x) ≡ count_of (sem_of y) = ap (λ (z : SemNode). count_of (sem_of z)) e in omega arith
item_lighter (y ∷ xs) (suc i) x less e =
    let more : length (y ∷ xs) ≡ length xs + 1 = grind (arith, common_steps) in
    let rest = item_lighter xs i x (omega arith) e in omega arith
