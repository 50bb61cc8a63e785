use Rattle.build_form.proofs.OldOrNew.{numbers_kept_or_new}
use Rattle.build_form.proofs.laws.numbers_are_old_or_new.Goals as goal

pub returns : goal.returns
returns c = numbers_kept_or_new
