use Rattle.std.proofs.Common.{arith, map, ap, sym, ◌∙◌}
use Rattle.program_check.specs.Depth.{parts_depth}
use Rattle.program_check.specs.CheckedView.{signature}
use Rattle.program_check.specs.Judged.{sort_in}
use Rattle.program_check.specs.JudgedView.{parts_of}
use Rattle.program_check.proofs.PartLemmas.{judged_of-by, depth_of-parts}
use Rattle.program_check.proofs.known.+sort.Goals as goal

pub sort_in-sort_of_kind-requires : goal.sort_in-sort_of_kind-requires
sort_in-sort_of_kind-requires t c =
    (omega (arith, c.decreases, depth_of-parts c.args.template.now, ap parts_depth c.as_slice.ensures.value), tt)

pub sort_in-returns : goal.sort_in-returns
sort_in-returns t c =
    c.sort_of_kind.ensures ∙ ap (λ ms. sort_in c.args.template.now.w (parts_of ms) (map signature c.args.earlier.now)) c.as_slice.ensures.value
    ∙ sym (ap (λ j. j.sort (map signature c.args.earlier.now)) (judged_of-by c.args.template.now))
