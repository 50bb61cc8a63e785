use Rattle.std.proofs.Common.{◌≡◌, ◌≢◌, ℕ, None, get_or, refl, sym, ap, ◌∙◌}
use Rattle.std.proofs.lemmas.List.{get_or_read}
use Rattle.fx_handles.proofs.ArenaLemmas.{inserts, sound-inserted}
use Rattle.fx_handles.proofs.Arena.add.Goals as goal

-- the slot was vacant before room was made, and has its generation in the list since then
pub returns-clause-inserts : goal.returns-clause-inserts
returns-clause-inserts g c =
    let before = ap (λ s. s.slots) c.make_room.ensures.slots in
    let key = c.insert_reserved-index.ensures.key ∙ ap (λ s. s.vacant_key) c.make_room.ensures.slots in
    rw (← c.self.view_is) (inserts _ _ _ _ (rw before at c.insert_reserved-index.ensures.was_vacant) c.insert_reserved-index.ensures.updates.changed
    (λ i differs. c.insert_reserved-index.ensures.updates.others i differs ∙ ap (λ xs. get_or xs i None) before)
    c.make_room.ensures.same c.make_room.ensures.sum
    (get_or_read c.make_room.new.generations.items _ _ (rw key c.in_ok-make_room.ensures.covered) c.index-generation.ensures 0))

pub invariant_of-self-2 : goal.invariant_of-self-2
invariant_of-self-2 g c =
    let before = ap (λ s. s.slots) c.make_room.ensures.slots in
    let key = c.insert_reserved-index.ensures.key ∙ ap (λ s. s.vacant_key) c.make_room.ensures.slots in
    let vacant = rw before at c.insert_reserved-index.ensures.was_vacant in
    let others = λ (i : ℕ) (differs : i ≢ c.insert_reserved-index.result). c.insert_reserved-index.ensures.updates.others i differs ∙ ap (λ xs. get_or xs i None) before in
    let inserted = inserts (record { slots = c.self.inside.slots.slots; generations = c.self.inside.generations.items }) (record { slots = c.insert_reserved-index.new.self.slots; generations = c.make_room.new.generations.items }) (record { index = c.insert_reserved-index.result; generation = c.index-generation.result.now }) c.args.value vacant c.insert_reserved-index.ensures.updates.changed others
    c.make_room.ensures.same c.make_room.ensures.sum
    (get_or_read c.make_room.new.generations.items _ _ (rw key c.in_ok-make_room.ensures.covered) c.index-generation.ensures 0) in
    sound-inserted _ _ _ _ _ c.self.invariant vacant c.insert_reserved-index.ensures.updates.changed others c.make_room.ensures.same c.make_room.ensures.grows (rw key c.in_ok-make_room.ensures.covered) inserted
    (rw (← c.self.view_is) at c.requires)
