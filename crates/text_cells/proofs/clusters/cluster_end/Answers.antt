use Rattle.std.proofs.Common.{refl, rules, arith, ap, sym, ◌∙◌}
use Rattle.unicode_segmentation.proofs.CursorLemmas.{IsChunkOf-whole}
use Rattle.text_cells.specs.Plain.{ends_plain}
use Rattle.text_cells.proofs.PlainLemmas.{plain_end, cursor_end, stands_past, stands_at}
use Rattle.text_cells.proofs.clusters.cluster_end.Goals as goal

pub returns-then-ends_plain-clause-end : goal.returns-then-ends_plain-clause-end
returns-then-ends_plain-clause-end c =
    plain_end c.args.text.now c.utf8.text c.args.at c.requires.boundary c.requires.within
    (sym (c.ends_plain.ensures ∙ ap (λ t. ends_plain t c.args.at) c.as_bytes.ensures.value) ∙ c.if-ends_plain.true)

pub unreachable-requires-in-Err : goal.unreachable-requires-in-Err
unreachable-requires-in-Err c =
    let moved = c.set_cursor.ensures in
    let here = stands_at c.args.text.now c.args.cursor.now c.set_cursor.new.self c.args.at c.requires.stands c.requires.boundary moved.on moved.kind moved.same moved.fresh in
    let ok = c.next_boundary.ensures.whole _ here.on (IsChunkOf-whole _ c.utf8.text) refl refl here.asks in
    search (rules, arith)

pub returns-clause-end : goal.returns-clause-end
returns-clause-end c =
    let moved = c.set_cursor.ensures in
    let here = stands_at c.args.text.now c.args.cursor.now c.set_cursor.new.self c.args.at c.requires.stands c.requires.boundary moved.on moved.kind moved.same moved.fresh in
    let whole = IsChunkOf-whole _ c.utf8.text in
    let found = rw c.in-Ok-Some.field-0-is at (c.in-Ok-Some.ensures.found _ here.on whole) in
    cursor_end c.args.text.now c.set_cursor.new.self c.next_boundary.new.self c.args.at _ c.requires.boundary here moved.offset
    (c.next_boundary.ensures.on _ here.on whole) found

pub returns-clause-stands : goal.returns-clause-stands
returns-clause-stands c =
    let moved = c.set_cursor.ensures in
    let here = stands_at c.args.text.now c.args.cursor.now c.set_cursor.new.self c.args.at c.requires.stands c.requires.boundary moved.on moved.kind moved.same moved.fresh in
    let whole = IsChunkOf-whole _ c.utf8.text in
    let found = rw c.in-Ok-Some.field-0-is at (c.in-Ok-Some.ensures.found _ here.on whole) in
    let asks = rw c.in-Ok-Some.field-0-is at c.in-Ok-Some.ensures.settled in
    stands_past c.args.text.now c.set_cursor.new.self c.next_boundary.new.self _ here (c.next_boundary.ensures.on _ here.on whole) c.next_boundary.ensures.kind asks found
