use Rattle.std.proofs.Common.{◌≡◌, true, arith}
use Rattle.std.specs.Str.{bytes_eq}
use Rattle.element_tree.proofs.Fielding.{first_named, none_named}
use Rattle.element_tree.proofs.fields.place_of.Goals as goal

pub returns-then-eq-clause-first : goal.returns-then-eq-clause-first
returns-then-eq-clause-first c =
    let named : bytes_eq c.args.name.now c.index-fields-i.result.0 ≡ true = (cc) in
    first_named c.args.fields.now c.args.name.now c.loop-i.i c.index-fields-i.result (omega arith) c.index-fields-i.is named c.loop-i.invariant

pub returns-clause-missing : goal.returns-clause-missing
returns-clause-missing c = none_named c.args.fields.now c.args.name.now c.loop-i.i (omega arith) c.loop-i.invariant
