use Rattle.std.proofs.Common.{ap, sym, ◌∙◌}
use Rattle.std.specs.Prelude.{not}
use Rattle.program_check.specs.Judged.{allowed}
use Rattle.program_check.specs.JudgedView.{judged_of}
use Rattle.program_check.proofs.PartLemmas.{judged_of-by}
use Rattle.program_check.proofs.known.allows.Goals as goal

pub returns-in-AtMostOne : goal.returns-in-AtMostOne
returns-in-AtMostOne c =
    ap not (c.is_each.ensures ∙ sym (ap (λ j. j.is_each) (judged_of-by c.args.template.now)))
    ∙ sym (ap (λ a. allowed a (judged_of c.args.template.now)) c.in-AtMostOne.is)
