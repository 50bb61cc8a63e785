use Rattle.std.proofs.Common.{◌≡◌, ◌-◌, List, [], ◌∷◌, ◌++◌, length, Option, Some, None, IfSome, slice_get, refl, ap, arith}
use Rattle.fx_handles.specs.declared.Handle.{Handle}
use Rattle.fx_handles.specs.Handle.{Among}
use Rattle.fx_handles.specs.HandleLaws.{times-cons, times_here}
use Rattle.node_tree.proofs.nodes.last_of.Goals as goal

-- the last element of a list is among them
last_among : (k : Handle) (ks : List Handle) → IfSome (slice_get (k ∷ ks) (length ks)) (λ h. Among h (k ∷ ks))
last_among k [] = omega (arith, times_here k [])
last_among k (x ∷ xs) = longer (slice_get (x ∷ xs) (length xs)) (last_among x xs)
  where
    longer : (o : Option Handle) → IfSome o (λ h. Among h (x ∷ xs)) → IfSome o (λ h. Among h (k ∷ x ∷ xs))
    longer None among = tt
    longer (Some h) among = omega (arith, times-cons h k (x ∷ xs))

by_list : (hs : List Handle) → IfSome (slice_get hs (length hs - 1)) (λ h. Among h hs)
by_list [] = tt
by_list (k ∷ ks) = let e : length (k ∷ ks) - 1 ≡ length ks = omega arith in rw e (last_among k ks)

pub returns-clause-among : goal.returns-clause-among
returns-clause-among c = rw (c.copied.ensures, c.last.ensures.value) (by_list c.args.list.now)

-- and ends the list
last_ends : (k : Handle) (ks : List Handle) → IfSome (slice_get (k ∷ ks) (length ks)) (λ h. (front : List Handle) × (k ∷ ks ≡ front ++ h ∷ []))
last_ends k [] = ([], refl)
last_ends k (x ∷ xs) = longer (slice_get (x ∷ xs) (length xs)) (last_ends x xs)
  where
    longer : (o : Option Handle) → IfSome o (λ h. (front : List Handle) × (x ∷ xs ≡ front ++ h ∷ [])) → IfSome o (λ h. (front : List Handle) × (k ∷ x ∷ xs ≡ front ++ h ∷ []))
    longer None ends = tt
    longer (Some h) ends = (k ∷ ends.0, ap (λ ys. k ∷ ys) ends.1)

ends_list : (hs : List Handle) → IfSome (slice_get hs (length hs - 1)) (λ h. (front : List Handle) × (hs ≡ front ++ h ∷ []))
ends_list [] = tt
ends_list (k ∷ ks) = let e : length (k ∷ ks) - 1 ≡ length ks = omega arith in rw e (last_ends k ks)

pub returns-clause-last : goal.returns-clause-last
returns-clause-last c = rw (c.copied.ensures, c.last.ensures.value) (ends_list c.args.list.now)
