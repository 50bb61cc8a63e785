use Rattle.std.proofs.Common.{sym}
use Rattle.handle_groups.proofs.Entries.{handles-new}
use Rattle.handle_groups.proofs.cover.Goals as goal

pub returns : goal.returns
returns c = λ n.
    handles-new c.args.groups.now c.insert.new.self.entries c.in_ok-key.key c.new.result c.args.name.now n (sym c.in_ok-key.ensures.ok) c.if-contains_key.ensures c.in_ok-insert.ensures.entries c.new.ensures.empty
