-- The nodes below a semantics node are fewer than the list that it stands in.
use Rattle.std.specs.Prelude.{◌≡◌, ℕ, ◌+◌, ◌≤◌, max, List, [], ◌∷◌, map}
use Rattle.std.proofs.Common.{arith, ap, refl}
use Rattle.screen_form.specs.Sem.{Sem, sems_of, count_of, counts_of, total}
use Rattle.semantics_tree.specs.View.{sem_of}
use Rattle.semantics_tree.specs.declared.nodes.SemNode.{SemNode}
use Rattle.semantics_tree.specs.declared.nodes.SemList.TheDeep.{deep-SemNode}
use denote.Param.Weighed.{most}

pub counts-total : (ss : List Sem) → counts_of (sems_of ss) ≡ total ss
counts-total [] = refl
counts-total (s ∷ ss) = ap (λ n. count_of s + n) (counts-total ss)

one_more : (n : ℕ) → max (n + 1) 0 ≤ 1 + n
one_more n = omega arith

pub lighter : (xs : List SemNode) → max (most deep-SemNode xs) 0 ≤ total (map sem_of xs)
lighter [] = omega arith
lighter (n ∷ ns) = let rest = lighter ns in let own : deep-SemNode n ≤ 1 + total n.children = one_more (total n.children) in omega (arith, rest, own, counts-total n.children)
