use Rattle.std.proofs.Common.{◌+◌, eqb, refl, sym, ap, ◌∙◌, arith}
use Rattle.fx_handles.specs.Arena.{held}
use Rattle.fx_handles.specs.declared.TheConstants.{LAST_GENERATION}
use Rattle.fx_handles.specs.ArenaLaws.{live-slot, some_of}
use Rattle.fx_handles.proofs.ArenaLemmas.{live-within, live-not_last, live-used, if_some, if_none, removes, sound-removed}
use Rattle.fx_handles.proofs.Arena.remove.Goals as goal

-- each answer begins with the handle being live, in the fields
pub overflow_add-generation : goal.overflow_add-generation
overflow_add-generation g c =
    let live = rw (← c.self.view_is) at (c.contains.ensures.0 c.if-not-contains.false) in
    let last = live-not_last _ _ c.args.h c.self.invariant live in
    omega arith

pub index_mut-requires : goal.index_mut-requires
index_mut-requires g c =
    let live = rw (← c.self.view_is) at (c.contains.ensures.0 c.if-not-contains.false) in
    let within = live-within _ _ c.args.h c.self.invariant live in
    omega (arith, c.self.inside.generations.ok.0)

pub overflow_sub-self : goal.overflow_sub-self
overflow_sub-self g c =
    let live = rw (← c.self.view_is) at (c.contains.ensures.0 c.if-not-contains.false) in
    omega (arith, live-used _ c.args.h live, c.self.invariant.counted)

pub vacate-requires : goal.vacate-requires
vacate-requires g c =
    let live = rw (← c.self.view_is) at (c.contains.ensures.0 c.if-not-contains.false) in
    let found = some_of _ live in
    rw (live-slot _ c.args.h found.0 found.1) refl

pub invariant_of-self : goal.invariant_of-self
invariant_of-self g c =
    let live = rw (← c.self.view_is) at (c.contains.ensures.0 c.if-not-contains.false) in
    let found = some_of _ live in
    let within = live-within _ _ c.args.h c.self.invariant live in
    let removed = removes (record { slots = c.self.inside.slots.slots; generations = c.self.inside.generations.items }) (record { slots = c.vacate.new.slots.slots; generations = _ }) c.args.h found.0 (eqb (c.args.h.generation + 1) LAST_GENERATION) found.1 c.vacate.ensures.updates.changed c.vacate.ensures.updates.others refl within refl in
    sound-removed (record { slots = c.self.inside.slots.slots; generations = c.self.inside.generations.items }) (record { slots = c.vacate.new.slots.slots; generations = _ }) c.args.h found.0 (eqb (c.args.h.generation + 1) LAST_GENERATION) _ c.self.invariant c.vacate.ensures.updates.changed c.vacate.ensures.updates.others refl within refl removed

pub returns-clause-value : goal.returns-clause-value
returns-clause-value g c =
    let live = rw (← c.self.view_is) at (c.contains.ensures.0 c.if-not-contains.false) in
    let found = some_of _ live in
    c.vacate.ensures.value ∙ ap held (live-slot _ c.args.h found.0 found.1) ∙ sym found.1 ∙ rw c.self.view_is refl

pub returns-clause-removes : goal.returns-clause-removes
returns-clause-removes g c =
    let live = rw (← c.self.view_is) at (c.contains.ensures.0 c.if-not-contains.false) in
    let found = some_of _ live in
    let within = live-within _ _ c.args.h c.self.invariant live in
    let value = c.vacate.ensures.value ∙ ap held (live-slot _ c.args.h found.0 found.1) in
    if_some _ found.0 _ value (rw (← c.self.view_is) (removes _ _ c.args.h found.0 (eqb (c.args.h.generation + 1) LAST_GENERATION) found.1 c.vacate.ensures.updates.changed c.vacate.ensures.updates.others refl within refl))

pub returns-clause-absent : goal.returns-clause-absent
returns-clause-absent g c =
    let live = rw (← c.self.view_is) at (c.contains.ensures.0 c.if-not-contains.false) in
    let found = some_of _ live in
    if_none _ found.0 _ (c.vacate.ensures.value ∙ ap held (live-slot _ c.args.h found.0 found.1))
