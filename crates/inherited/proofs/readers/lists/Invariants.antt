use Rattle.std.proofs.Common.{◌≡◌, ◌==◌, drop}
use Rattle.std.specs.List.{list_any}
use Rattle.inherited.proofs.readers.lists.Given as goal

-- the name stands among those that are left, if it does at all
abbrev pub invariant-loop-listed : goal.invariant-loop-listed
invariant-loop-listed l = list_any (λ n. n == l.name) (drop l.listed-index l.names) ≡ list_any (λ n. n == l.name) l.names
