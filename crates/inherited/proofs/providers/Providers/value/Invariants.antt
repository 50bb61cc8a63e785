use Rattle.std.proofs.Common.{◌≡◌, reverse, take}
use Rattle.std.specs.List.{find}
use Rattle.inherited.proofs.Provided.{is_of}
use Rattle.inherited.proofs.providers.Providers.value.Given as goal

-- the innermost value of the name is among those that were not looked at yet
abbrev pub invariant-loop-i : goal.invariant-loop-i
invariant-loop-i l = find (is_of l.name) (reverse l.self-inside.items.items) ≡ find (is_of l.name) (reverse (take l.i l.self-inside.items.items))
