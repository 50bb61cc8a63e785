use Rattle.std.proofs.Common.{◌≡◌, ◌≢◌, ℕ, ◌<◌, ◌≤◌, ◌↔◌, Bool, false, IsTrue, inl, inr, None, get_or, refl, sym, ap, ◌∙◌}
use Rattle.std.proofs.lemmas.List.{get_or_read}
use Rattle.std.proofs.lemmas.Bool.{false≢true, cases_lt}
use Rattle.fx_handles.proofs.ArenaLemmas.{inserts, sound-inserted, ok_of}
use Rattle.fx_handles.proofs.Arena.insert.Goals as goal

below_iff : {b : Bool} {m n : ℕ} → (IsTrue b ↔ (m ≤ n)) → b ≡ false → n < m
below_iff {b} {m} {n} iff e = elim (cases_lt n m) [ inl lt ↦ lt | inr ge ↦ absurd (false≢true (sym e ∙ iff.1 ge)) ]

pub returns-then-is_full-clause-full : goal.returns-then-is_full-clause-full
returns-then-is_full-clause-full g c = (λ _. c.is_full.ensures.0 c.if-is_full.true, λ _. refl)

pub returns-then-is_err-clause-full : goal.returns-then-is_err-clause-full
returns-then-is_err-clause-full g c = (λ e. absurd cc, λ many. absurd (false≢true (sym c.if-is_full.false ∙ c.is_full.ensures.1 many)))

pub returns-clause-full : goal.returns-clause-full
returns-clause-full g c = (λ e. absurd cc, λ many. absurd (false≢true (sym c.if-is_full.false ∙ c.is_full.ensures.1 many)))

-- the slot was vacant before room was made, and has its generation in the list since then
pub returns-clause-inserts : goal.returns-clause-inserts
returns-clause-inserts g c =
    let before = ap (λ s. s.slots) c.make_room.ensures.slots in
    let covered = ok_of _ _ (sym c.is_err.ensures.value ∙ c.if-is_err.false) c.make_room.ensures.covered in
    let key = c.insert_reserved-index.ensures.key ∙ ap (λ s. s.vacant_key) c.make_room.ensures.slots in
    rw (← c.self.view_is) (inserts _ _ _ _ (rw before at c.insert_reserved-index.ensures.was_vacant) c.insert_reserved-index.ensures.updates.changed
    (λ i differs. c.insert_reserved-index.ensures.updates.others i differs ∙ ap (λ xs. get_or xs i None) before)
    c.make_room.ensures.same c.make_room.ensures.sum
    (get_or_read c.make_room.new.generations.items _ _ (rw key covered) c.index-generation.ensures 0))

pub invariant_of-self-2 : goal.invariant_of-self-2
invariant_of-self-2 g c =
    let before = ap (λ s. s.slots) c.make_room.ensures.slots in
    let covered = ok_of _ _ (sym c.is_err.ensures.value ∙ c.if-is_err.false) c.make_room.ensures.covered in
    let key = c.insert_reserved-index.ensures.key ∙ ap (λ s. s.vacant_key) c.make_room.ensures.slots in
    let vacant = rw before at c.insert_reserved-index.ensures.was_vacant in
    let others = λ (i : ℕ) (differs : i ≢ c.insert_reserved-index.result). c.insert_reserved-index.ensures.updates.others i differs ∙ ap (λ xs. get_or xs i None) before in
    let inserted = inserts (record { slots = c.self.inside.slots.slots; generations = c.self.inside.generations.items }) (record { slots = c.insert_reserved-index.new.self.slots; generations = c.make_room.new.generations.items }) (record { index = c.insert_reserved-index.result; generation = c.index-generation.result.now }) c.args.value vacant c.insert_reserved-index.ensures.updates.changed others
    c.make_room.ensures.same c.make_room.ensures.sum
    (get_or_read c.make_room.new.generations.items _ _ (rw key covered) c.index-generation.ensures 0) in
    sound-inserted _ _ _ _ _ c.self.invariant vacant c.insert_reserved-index.ensures.updates.changed others c.make_room.ensures.same c.make_room.ensures.grows (rw key covered) inserted
    (below_iff (rw (← c.self.view_is) at c.is_full.ensures) c.if-is_full.false)
