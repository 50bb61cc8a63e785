use Rattle.std.proofs.Common.{◌≡◌, ◌-◌, List, [], ◌∷◌, length, Option, Some, None, IfSome, slice_get, arith}
use Rattle.fx_handles.specs.declared.Handle.{Handle}
use Rattle.fx_handles.specs.Handle.{Among}
use Rattle.fx_handles.specs.HandleLaws.{times-cons, times_here}
use Rattle.worked_calls.proofs.trees.last_of.Goals as goal

-- the last element of a list is among them
last_among : (k : Handle) (ks : List Handle) → IfSome (slice_get (k ∷ ks) (length ks)) (λ h. Among h (k ∷ ks))
last_among k [] = omega (arith, times_here k [])
last_among k (x ∷ xs) = longer (slice_get (x ∷ xs) (length xs)) (last_among x xs)
  where
    longer : (o : Option Handle) → IfSome o (λ h. Among h (x ∷ xs)) → IfSome o (λ h. Among h (k ∷ x ∷ xs))
    longer None among = tt
    longer (Some h) among = omega (arith, times-cons h k (x ∷ xs))

by_list : (hs : List Handle) → IfSome (slice_get hs (length hs - 1)) (λ h. Among h hs)
by_list [] = tt
by_list (k ∷ ks) = let e : length (k ∷ ks) - 1 ≡ length ks = omega arith in rw e (last_among k ks)

pub returns : goal.returns
returns c = rw (c.copied.ensures, c.last.ensures.value) (by_list c.args.list.now)
