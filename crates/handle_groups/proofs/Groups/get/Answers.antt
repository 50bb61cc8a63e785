use Rattle.handle_groups.proofs.Entries.{among-under, none-under, distinct-times}
use Rattle.std.proofs.Common.{sym, subst, List}
use Rattle.std.specs.List.{IsDistinct}
use Rattle.fx_handles.specs.declared.Handle.{Handle}
use Rattle.fx_handles.specs.Handle.{same}
use Rattle.handle_groups.proofs.Groups.get.Goals as goal

pub returns-in-Some-clause-among : goal.returns-in-Some-clause-among
returns-in-Some-clause-among c =
    rw (← c.self.view_is) (λ k. among-under c.self.inside.groups.entries c.args.name.now c.in-Some.set.now c.as_slice.result.now k c.in-Some.ensures.value c.as_slice.ensures.keys)

pub returns-in-Some-clause-once : goal.returns-in-Some-clause-once
unfolding same
returns-in-Some-clause-once c = λ h. distinct-times c.as_slice.result.now (subst (λ (hs : List Handle). IsDistinct same hs) (sym c.as_slice.ensures.keys) c.as_slice.ensures.unique) h

pub returns-in-None-clause-among : goal.returns-in-None-clause-among
returns-in-None-clause-among c = rw (← c.self.view_is) (λ k. none-under c.self.inside.groups.entries c.args.name.now k c.in-None.ensures.value)
