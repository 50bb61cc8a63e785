use Rattle.std.proofs.Common.{refl, sym}
use Rattle.std.proofs.lemmas.Bool.{false≢true}
use Rattle.layout_rules.proofs.Standings.{standing_changes}
use Rattle.layout_rules.proofs.writing.stand.Goals as goal

pub returns-then-not-moves-clause-stands : goal.returns-then-not-moves-clause-stands
returns-then-not-moves-clause-stands c = λ e. absurd (false≢true e)

pub returns-then-not-moves-clause-stays : goal.returns-then-not-moves-clause-stays
returns-then-not-moves-clause-stays c = λ e. refl

pub returns-then-not-moves-clause-still : goal.returns-then-not-moves-clause-still
returns-then-not-moves-clause-still c = λ e. c.moves.ensures.still c.if-not-moves.true

pub returns-then-not-moves-clause-moved : goal.returns-then-not-moves-clause-moved
returns-then-not-moves-clause-moved c = λ e. absurd (false≢true e)

pub returns-clause-stands : goal.returns-clause-stands
returns-clause-stands c = λ e. standing_changes c.args.r.now.tree c.set_standing.new.self.tree c.args.h c.args.at c.set_standing.ensures.sets

pub returns-clause-stays : goal.returns-clause-stays
returns-clause-stays c = λ e. absurd (false≢true (sym e))

pub returns-clause-still : goal.returns-clause-still
returns-clause-still c = λ e. absurd (false≢true (sym e))

pub returns-clause-moved : goal.returns-clause-moved
returns-clause-moved c = λ e. c.moves.ensures.moved c.if-not-moves.false
