use Rattle.draw_records.proofs.QuotedLaws.{quoted_only}
use Rattle.draw_records.proofs.laws.quoted_is_injective.Goals as goal

pub returns : goal.returns
returns c = quoted_only
