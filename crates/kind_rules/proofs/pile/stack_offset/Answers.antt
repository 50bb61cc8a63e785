use Rattle.kind_rules.proofs.Positions.{position_is}
use Rattle.kind_rules.proofs.pile.stack_offset.Goals as goal

pub placed_at-requires-clause-right : goal.placed_at-requires-clause-right
placed_at-requires-clause-right c = c.requires.told.right c.in-Some.placed (position_is _ _ c.in-Some.ensures)

pub placed_at-requires-clause-bottom : goal.placed_at-requires-clause-bottom
placed_at-requires-clause-bottom c = c.requires.told.bottom c.in-Some.placed (position_is _ _ c.in-Some.ensures)
