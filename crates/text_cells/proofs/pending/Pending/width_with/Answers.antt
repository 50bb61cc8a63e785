use Rattle.text_cells.proofs.PassLemmas.{width_with_space, width_with_other}
use Rattle.text_cells.proofs.pending.Pending.width_with.Goals as goal

pub returns-then-piece : goal.returns-then-piece
returns-then-piece c start xs ys cluster holds is_piece =
    width_with_space c.args.piece xs ys cluster _ is_piece c.if-piece.true (c.width.ensures start xs ys holds)

pub returns-else-piece : goal.returns-else-piece
returns-else-piece c start xs ys cluster holds is_piece =
    width_with_other c.args.self.now c.args.piece start xs ys cluster holds is_piece c.if-piece.false
