use Rattle.std.proofs.Common.{◌==◌, ap, ◌∙◌}
use Rattle.std.specs.List.{list_all, list_any, range_with_len}
use Rattle.std.proofs.lemmas.List.Folds.{list_all-map}
use Rattle.program_check.proofs.given.all_there.Goals as goal

pub returns : goal.returns
returns c =
    c.all_true.ensures ∙ ap (list_all (λ there. there)) (c.as_slice.ensures.value ∙ c.in_ok-marks.ensures)
    ∙ list_all-map (λ there. there) (λ place. list_any (λ given. given == place) c.args.places.now) (range_with_len 0 c.args.count)
