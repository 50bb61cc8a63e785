use Rattle.std.proofs.Common.{◌≡◌, string_bytes, fold}
use Rattle.delegates.specs.Table.{each_of, entries_of, first_of_each, plugged, with_new}
use Rattle.delegates.proofs.table.DelegateTable.new.Given as goal

abbrev pub invariant-loop-named : goal.invariant-loop-named
invariant-loop-named g l =
    fold with_new (entries_of l.entries.entries (λ b. (goal.Delegate-dyn g (b.vtable, b.value)).meaning b.value))
    (each_of l.named-iterator.rest.items (λ n. plugged (string_bytes n.name) ((goal.Delegate-dyn g (n.delegate.vtable, n.delegate.value)).meaning n.delegate.value)))
    ≡ first_of_each (each_of l.fn.list.items (λ n. plugged (string_bytes n.name) ((goal.Delegate-dyn g (n.delegate.vtable, n.delegate.value)).meaning n.delegate.value)))
