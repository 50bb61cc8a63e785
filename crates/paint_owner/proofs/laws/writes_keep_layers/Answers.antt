use Rattle.paint_owner.proofs.Edits.{drawn_kept, placed_kept, unread_kept, layouts_kept}
use Rattle.paint_owner.proofs.laws.writes_keep_layers.Goals as goal

pub returns-clause-drawn : goal.returns-clause-drawn
returns-clause-drawn c = λ cell delegates o also old mid new h v w is at_h writes marks placed sets kept.
    drawn_kept cell delegates o (record {
      written = c.changes_are_listed.ensures.written cell delegates;
      layouts = c.changes_are_listed.ensures.layouts cell delegates;
      nothing = c.changes_are_listed.ensures.nothing;
    }) old is kept also mid new h v w at_h writes marks placed sets

pub returns-clause-placed : goal.returns-clause-placed
returns-clause-placed c = λ cell delegates o old mid new h v w is at_h writes marks drawn sets kept.
    placed_kept cell delegates o (record {
      written = c.changes_are_listed.ensures.written cell delegates;
      layouts = c.changes_are_listed.ensures.layouts cell delegates;
      nothing = c.changes_are_listed.ensures.nothing;
    }) old is kept mid new h v w at_h writes marks drawn sets

pub returns-clause-unread : goal.returns-clause-unread
returns-clause-unread c = λ cell delegates o old new h v w is at_h writes marks drawn placed kept.
    unread_kept cell delegates o (record {
      written = c.changes_are_listed.ensures.written cell delegates;
      layouts = c.changes_are_listed.ensures.layouts cell delegates;
      nothing = c.changes_are_listed.ensures.nothing;
    }) old is kept new h v w at_h writes marks drawn placed

pub returns-clause-layouts : goal.returns-clause-layouts
returns-clause-layouts c = λ cell delegates o also hs old new is sets kept.
    layouts_kept cell delegates o (record {
      written = c.changes_are_listed.ensures.written cell delegates;
      layouts = c.changes_are_listed.ensures.layouts cell delegates;
      nothing = c.changes_are_listed.ensures.nothing;
    }) old is kept also hs new sets
