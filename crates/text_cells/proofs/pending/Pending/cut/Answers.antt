use Rattle.std.proofs.Common.{refl, sym, ◌∙◌}
use Rattle.text_cells.proofs.CutLemmas.{cut_none, cut_before, cut_word, nothing_held}
use Rattle.text_cells.proofs.pending.Pending.cut.Goals as goal

pub returns-then-not-is_full-clause-cuts : goal.returns-then-not-is_full-clause-cuts
returns-then-not-is_full-clause-cuts c start xs ys cluster holds is_piece =
    cut_none c.args.self.now start xs ys cluster holds (sym (c.is_full.ensures start xs ys cluster holds is_piece) ∙ c.if-not-is_full.true)

pub returns-then-self-clause-cuts : goal.returns-then-self-clause-cuts
returns-then-self-clause-cuts c start xs ys cluster holds is_piece =
    cut_before c.args.self.now _ _ start xs ys cluster holds (sym (c.is_full.ensures start xs ys cluster holds is_piece) ∙ c.if-not-is_full.false)
    c.if-self.true c.line_to-line.ensures refl refl (nothing_held _ refl refl refl) refl refl

pub returns-clause-cuts : goal.returns-clause-cuts
returns-clause-cuts c start xs ys cluster holds is_piece =
    cut_word c.args.self.now _ _ start xs ys cluster holds (sym (c.is_full.ensures start xs ys cluster holds is_piece) ∙ c.if-not-is_full.false)
    c.if-self.false c.line_to-line-2.ensures refl refl refl refl (nothing_held _ refl refl refl)
