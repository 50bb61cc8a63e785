use Rattle.std.proofs.Common.{ap, ◌∙◌, Some, true, false}
use Rattle.std.specs.Int.{w64, cast_signed, cast_unsigned}
use Rattle.std.proofs.lemmas.Int.{to_z-of_z}
use Rattle.delegates.proofs.TableLemmas.{kept-with_meaning, set_end-absent, set_end-found, set_end-unplugged, with_number-found, with_number-unplugged}
use Rattle.delegates.proofs.table.DelegateTable.set.Goals as goal

pub returns-then-set_number-clause-value : goal.returns-then-set_number-clause-value
returns-then-set_number-clause-value g c =
    set_end-found _ c.args.name.now c.args.self.now.entries.entries c.in-Some-as_mut.delegate.now c.args.field.now true (ap Some c.in-Some-as_mut.ensures.value ∙ c.in-Some.ensures.value) c.if-set_number.ensures.value

pub returns-then-set_number-clause-changed : goal.returns-then-set_number-clause-changed
returns-then-set_number-clause-changed g c =
    let w = c.set_number.new.delegate in
    with_number-found _ c.args.name.now c.args.self.now.entries.entries (c.get_mut.follows.lender (Some w)).entries c.in-Some-as_mut.delegate.now w c.args.field.now c.args.n (cast_signed w64 (cast_unsigned w64 c.args.n))
    (c.get_mut.follows.holds (Some w)).0 (ap Some c.in-Some-as_mut.ensures.value ∙ c.in-Some.ensures.value) c.if-set_number.ensures.changed (to_z-of_z w64 c.args.n c.ranges.n)

pub returns-else-set_number-clause-value : goal.returns-else-set_number-clause-value
returns-else-set_number-clause-value g c =
    set_end-found _ c.args.name.now c.args.self.now.entries.entries c.in-Some-as_mut.delegate.now c.args.field.now false (ap Some c.in-Some-as_mut.ensures.value ∙ c.in-Some.ensures.value) c.if-set_number.ensures.value

pub returns-else-set_number-clause-changed : goal.returns-else-set_number-clause-changed
returns-else-set_number-clause-changed g c =
    let w = c.set_number.new.delegate in
    with_number-found _ c.args.name.now c.args.self.now.entries.entries (c.get_mut.follows.lender (Some w)).entries c.in-Some-as_mut.delegate.now w c.args.field.now c.args.n (cast_signed w64 (cast_unsigned w64 c.args.n))
    (c.get_mut.follows.holds (Some w)).0 (ap Some c.in-Some-as_mut.ensures.value ∙ c.in-Some.ensures.value) c.if-set_number.ensures.changed (to_z-of_z w64 c.args.n c.ranges.n)

pub returns-in-None-as_mut-clause-value : goal.returns-in-None-as_mut-clause-value
returns-in-None-as_mut-clause-value g c =
    set_end-unplugged _ c.args.name.now c.args.self.now.entries.entries c.in-Some.slot.now c.args.field.now c.in-Some.ensures.value c.in-None-as_mut.ensures.value

pub returns-in-None-as_mut-clause-changed : goal.returns-in-None-as_mut-clause-changed
returns-in-None-as_mut-clause-changed g c =
    let slot = c.in-Some.slot.now in
    with_number-unplugged _ c.args.name.now c.args.self.now.entries.entries (c.get_mut.follows.lender slot).entries slot c.args.field.now c.args.n
    (c.get_mut.follows.holds slot).0 c.in-Some.ensures.value c.in-None-as_mut.ensures.value

pub returns-in-None-clause-value : goal.returns-in-None-clause-value
returns-in-None-clause-value g c = set_end-absent _ c.args.name.now c.args.self.now.entries.entries c.args.field.now c.in-None.ensures.value

pub returns-in-None-clause-changed : goal.returns-in-None-clause-changed
returns-in-None-clause-changed g c =
    kept-with_meaning _ c.args.name.now c.args.self.now.entries.entries c.get_mut.follows.lender-at-none.entries _ (ap (λ m. m.entries) c.get_mut.follows.holds-at-none) c.in-None.ensures.value
