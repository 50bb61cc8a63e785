-- The first node with an id in a list whose first nodes don't have it.
use Rattle.std.proofs.Common.{◌≡◌, ℕ, ◌+◌, ◌<◌, ◌≤◌, Option, Some, None, List, map, length, drop, get_or, sym, ap, ◌∙◌}
use Rattle.std.proofs.lemmas.List.{at_drop_more, at_drop_all}
use Rattle.std.specs.Option.{option_or}
use Rattle.semantics_tree.specs.declared.nodes.SemNode.{SemNode}
use Rattle.screen_form.specs.Acts.{sem_at, sem_in}
use Rattle.screen_form.specs.Sem.{Sem, sems_of}
use Rattle.semantics_tree.specs.View.{sem_of}

module _ (wanted : ℕ) (ns : List SemNode) (i : ℕ) (n : SemNode) (within : i < length ns) (is : n ≡ get_or ns i n) where
  one_on : sem_in wanted (sems_of (map sem_of (drop i ns))) ≡ option_or (sem_at wanted (sem_of n)) (sem_in wanted (sems_of (map sem_of (drop (i + 1) ns))))
  one_on =
      at_drop_more (λ l. sem_in wanted (sems_of (map sem_of l))) ns i n within
      ∙ ap (λ (m : SemNode). option_or (sem_at wanted (sem_of m)) (sem_in wanted (sems_of (map sem_of (drop (i + 1) ns))))) (sym is)

  pub found_here : (s : Sem) (whole : Option Sem) → whole ≡ sem_in wanted (sems_of (map sem_of (drop i ns))) → sem_at wanted (sem_of n) ≡ Some s → whole ≡ Some s
  found_here s whole so_far here = so_far ∙ one_on ∙ ap (λ o. option_or o (sem_in wanted (sems_of (map sem_of (drop (i + 1) ns))))) here

  pub missed : (whole : Option Sem) → whole ≡ sem_in wanted (sems_of (map sem_of (drop i ns))) → sem_at wanted (sem_of n) ≡ None
      → whole ≡ sem_in wanted (sems_of (map sem_of (drop (i + 1) ns)))
  missed whole so_far here = so_far ∙ one_on ∙ ap (λ o. option_or o (sem_in wanted (sems_of (map sem_of (drop (i + 1) ns))))) here

pub missed_all : (wanted : ℕ) (ns : List SemNode) (i : ℕ) (whole : Option Sem) → length ns ≤ i → whole ≡ sem_in wanted (sems_of (map sem_of (drop i ns))) → whole ≡ None
missed_all wanted ns i whole past so_far = so_far ∙ at_drop_all (λ l. sem_in wanted (sems_of (map sem_of l))) ns i past
