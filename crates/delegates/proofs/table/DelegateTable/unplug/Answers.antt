use Rattle.std.proofs.Common.{is_some, ap, ◌∙◌, None}
use Rattle.delegates.proofs.TableLemmas.{kept-with_meaning, meaning_of-absent, plugged-found, written-with_meaning}
use Rattle.delegates.proofs.table.DelegateTable.unplug.Goals as goal

pub returns-in-Some-clause-value : goal.returns-in-Some-clause-value
returns-in-Some-clause-value g c =
    c.is_some.ensures ∙ ap is_some c.take.ensures.value ∙ plugged-found _ c.args.name.now c.args.self.now.entries.entries c.in-Some.slot.now c.in-Some.ensures.value

pub returns-in-Some-clause-changed : goal.returns-in-Some-clause-changed
returns-in-Some-clause-changed g c =
    written-with_meaning _ c.args.name.now c.args.self.now.entries.entries (c.get_mut.follows.lender c.take.new.self).entries c.take.new.self None (c.get_mut.follows.holds c.take.new.self).0 c.take.ensures.after

pub returns-in-None-clause-value : goal.returns-in-None-clause-value
returns-in-None-clause-value g c = ap is_some (meaning_of-absent _ c.args.name.now c.args.self.now.entries.entries c.in-None.ensures.value)

pub returns-in-None-clause-changed : goal.returns-in-None-clause-changed
returns-in-None-clause-changed g c =
    kept-with_meaning _ c.args.name.now c.args.self.now.entries.entries c.get_mut.follows.lender-at-none.entries None (ap (λ m. m.entries) c.get_mut.follows.holds-at-none) c.in-None.ensures.value
