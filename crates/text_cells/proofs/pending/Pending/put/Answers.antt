use Rattle.std.proofs.Common.{refl}
use Rattle.text_cells.proofs.CutLemmas.{put_space, put_other, nothing_held}
use Rattle.text_cells.proofs.pending.Pending.put.Goals as goal

pub returns-then-piece-clause-holds : goal.returns-then-piece-clause-holds
returns-then-piece-clause-holds c start xs ys cluster holds is_piece room =
    put_space c.args.self.now _ c.args.piece start xs ys cluster holds is_piece room c.if-piece.true refl refl
    (c.plus-self.ensures.holds _ cluster (c.and.ensures.holds xs ys holds.before holds.word) is_piece)
    (c.width_with-width.ensures start xs ys cluster holds is_piece) (nothing_held _ refl refl refl)

pub returns-else-piece-clause-holds : goal.returns-else-piece-clause-holds
returns-else-piece-clause-holds c start xs ys cluster holds is_piece room =
    put_other c.args.self.now _ c.args.piece start xs ys cluster holds is_piece room c.if-piece.false refl refl refl refl
    (c.plus-self-else-piece.ensures.holds ys cluster holds.word is_piece)
