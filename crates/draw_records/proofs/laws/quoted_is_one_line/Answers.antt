use Rattle.draw_records.proofs.QuotedLaws.{quoted_no_break}
use Rattle.draw_records.proofs.laws.quoted_is_one_line.Goals as goal

pub returns : goal.returns
returns c = quoted_no_break
