use Rattle.std.proofs.Common.{◌≡◌, ◌+◌, ◌==◌, true, slice_index, slice_range, ap, sym, ◌∙◌}
use Rattle.text_cells.specs.Cluster.{cluster_of}
use Rattle.text_cells.specs.Pass.{IsPiece}
use Rattle.text_cells.specs.Plain.{ends_plain}
use Rattle.text_cells.proofs.Single.{single_end, single_text, took_single}
use Rattle.text_cells.proofs.pending.Pending.take_plain.Goals as goal

pub returns-clause-first : goal.returns-clause-first
returns-clause-first c = λ taken.
    let is : ends_plain c.args.text.now c.args.at ≡ true = sym (c.ends_plain.ensures ∙ ap (λ t. ends_plain t c.args.at) c.as_bytes-bytes.ensures.value) ∙ c.if-not-ends_plain.false in
    single_end c.args.text.now c.utf8.text c.args.at c.requires.boundary c.requires.within is

pub returns-clause-took : goal.returns-clause-took
returns-clause-took c = λ taken start xs ys holds.
    let text = c.args.text.now in
    let is : ends_plain text c.args.at ≡ true = sym (c.ends_plain.ensures ∙ ap (λ t. ends_plain t c.args.at) c.as_bytes-bytes.ensures.value) ∙ c.if-not-ends_plain.false in
    let bytes = slice_range text c.args.at (c.args.at + 1) in
    let l = single_text text c.utf8.text c.args.at c.requires.boundary c.requires.within is in
    let made = c.plain_piece-piece.ensures in
    let piece : IsPiece c.plain_piece-piece.result (cluster_of bytes) = record {
      len = made.len ∙ sym l.one;
      cells = made.cells ∙ sym l.cells;
      is_space = made.is_space ∙ ap (λ t. slice_index t c.args.at == 32) c.as_bytes-bytes.ensures.value ∙ sym l.is_space;
    } in
    took_single c.args.self.now c.put.new.self (slice_index text c.args.at) bytes l
    (λ at vs ws held. sym (c.is_full.ensures at vs ws (cluster_of bytes) held piece) ∙ c.if-is_full.false)
    (λ at vs ws held room. c.put.ensures.holds at vs ws (cluster_of bytes) held piece room)
    start xs ys holds

pub returns-clause-one : goal.returns-clause-one
returns-clause-one c = λ taken.
    let is : ends_plain c.args.text.now c.args.at ≡ true = sym (c.ends_plain.ensures ∙ ap (λ t. ends_plain t c.args.at) c.as_bytes-bytes.ensures.value) ∙ c.if-not-ends_plain.false in
    let l = single_text c.args.text.now c.utf8.text c.args.at c.requires.boundary c.requires.within is in
    l.one
