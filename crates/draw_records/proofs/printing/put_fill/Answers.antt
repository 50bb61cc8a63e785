use Rattle.std.proofs.Common.{◌∷◌, ◌++◌, ap, ◌∙◌, arith}
use Rattle.std.specs.Prelude.{codes}
use Rattle.std.proofs.lemmas.List.{drop_all}
use Rattle.draw_records.specs.Printed.{color_text, place_text, extent_text}
use Rattle.draw_records.proofs.printing.put_fill.Goals as goal

pub returns-clause-written : goal.returns-clause-written
returns-clause-written c =
    let color = c.put_color-start.ensures.written ∙ ap (λ t. color_text c.args.color ++ t) (c.put_byte-start.ensures.written ∙ ap (λ t. 10 ∷ t) (drop_all 128 c.args.buf.now (omega arith))) in
    let size = c.put_extent-start.ensures.written ∙ ap (λ t. extent_text c.args.rect.size ++ t) (c.put_byte-start-2.ensures.written ∙ ap (λ t. 32 ∷ t) color) in
    let place = c.put_place-start.ensures.written ∙ ap (λ t. place_text c.args.rect.at ++ t) (c.put_byte-start-3.ensures.written ∙ ap (λ t. 32 ∷ t) size) in
    c.put_word.ensures.written ∙ ap (λ t. codes "rect " ++ t) place
