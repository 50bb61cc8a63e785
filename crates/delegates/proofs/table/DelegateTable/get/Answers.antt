use Rattle.delegates.proofs.TableLemmas.{lent-meaning_of, meaning_of-absent}
use Rattle.delegates.proofs.table.DelegateTable.get.Goals as goal

pub returns-in-Some : goal.returns-in-Some
returns-in-Some g c = lent-meaning_of _ c.args.name.now c.args.self.now.entries.entries c.in-Some.slot.now c.as_ref.result c.in-Some.ensures.value c.as_ref.ensures.value

pub returns-in-None : goal.returns-in-None
returns-in-None g c = meaning_of-absent _ c.args.name.now c.args.self.now.entries.entries c.in-None.ensures.value
