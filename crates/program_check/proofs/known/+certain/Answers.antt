use Rattle.std.proofs.Common.{arith, ap, sym, ◌∙◌}
use Rattle.program_check.specs.Depth.{parts_depth}
use Rattle.program_check.specs.Judged.{certain}
use Rattle.program_check.specs.JudgedView.{parts_of}
use Rattle.program_check.proofs.PartLemmas.{judged_of-by, depth_of-parts}
use Rattle.program_check.proofs.known.+certain.Goals as goal

pub is_certain-is_certain_kind-requires : goal.is_certain-is_certain_kind-requires
is_certain-is_certain_kind-requires t c =
    (omega (arith, c.decreases, depth_of-parts c.args.template.now, ap parts_depth c.as_slice.ensures.value), tt)

pub is_certain-returns : goal.is_certain-returns
is_certain-returns t c =
    c.is_certain_kind.ensures ∙ ap (λ ms. certain c.args.template.now.w (parts_of ms)) c.as_slice.ensures.value
    ∙ sym (ap (λ j. j.certain) (judged_of-by c.args.template.now))
