use Rattle.std.proofs.Common.{sym, ◌∙◌}
use Rattle.text_cells.proofs.CutLemmas.{took_end, took_cluster, piece_is}
use Rattle.text_cells.proofs.pending.Pending.take.Goals as goal

pub returns-then-is_paragraph_end-clause-took : goal.returns-then-is_paragraph_end-clause-took
returns-then-is_paragraph_end-clause-took c start xs ys holds =
    took_end c.args.self.now c.at.result c.last-line.result c.args.self.now.limit start xs ys c.args.cluster.now
    (c.last-line.ensures.ends start xs ys holds) (sym c.is_paragraph_end.ensures ∙ c.if-is_paragraph_end.true) c.at.ensures.holds

pub returns-clause-took : goal.returns-clause-took
returns-clause-took c start xs ys holds =
    let piece = piece_is c.piece_of-piece.result c.args.cluster.now c.piece_of-piece.ensures.len c.piece_of-piece.ensures.cells c.piece_of-piece.ensures.is_space in
    took_cluster c.args.self.now c.cut-first.new.self c.cut-second.new.self c.put.new.self c.cut-first.result c.cut-second.result start xs ys c.args.cluster.now
    (sym c.is_paragraph_end.ensures ∙ c.if-is_paragraph_end.false)
    c.cut-first.ensures.limit (c.cut-second.ensures.limit ∙ c.cut-first.ensures.limit)
    (c.cut-first.ensures.cuts start xs ys _ holds piece)
    (λ at vs ws held. c.cut-second.ensures.cuts at vs ws _ held piece)
    (λ at vs ws held room. c.put.ensures.holds at vs ws _ held piece room)
