use Rattle.std.proofs.Common.{◌≡◌, ◌+◌, ◌-◌, ◌/◌, ◌∷◌, ◌++◌, drop, ap, ap₂, sym, ◌∙◌, arith}
use Rattle.std.proofs.lemmas.List.{drop-set}
use Rattle.draw_records.specs.Printed.{hex_digits, color_text}
use Rattle.draw_records.proofs.ColorLemmas.{digit_put}
use Rattle.draw_records.proofs.ending.put_color.Goals as goal

pub loop-done-preserved : goal.loop-done-preserved
loop-done-preserved c =
    let l = c.loop-done in
    let from = l.invariant.0 in
    let room = c.requires in
    let one : l.start - 1 + 1 ≡ l.start = omega arith in (
      omega arith,
      ap (λ t. hex_digits (8 - (l.done + 1)) (l.left / 16) ++ t)
          (drop-set l.buf (l.start - 1) _ (omega arith) ∙ ap₂ (λ g n. g ∷ drop n l.buf) c.hex_digit.ensures one)
          ∙ digit_put l.done l.left (drop l.start l.buf) _ c.loop-done-test.true l.invariant.1,
    )

pub returns-clause-written : goal.returns-clause-written
unfolding color_text
returns-clause-written c =
    let l = c.loop-done in
    let none : 8 - l.done ≡ 0 = omega arith in
    sym (ap (λ k. hex_digits k l.left ++ drop l.start l.buf) none) ∙ l.invariant.1
