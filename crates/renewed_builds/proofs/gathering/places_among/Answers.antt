use Rattle.std.proofs.Common.{is_some, map, sym, ap, ◌∙◌}
use Rattle.std.specs.List.{list_all}
use Rattle.widget_model.specs.View.{shared}
use Rattle.reconcile.proofs.LawLemmas.{length-matching}
use Rattle.renewed_builds.proofs.Followed.{cannot_matched}
use Rattle.renewed_builds.proofs.gathering.places_among.Goals as goal

pub returns-clause-none : goal.returns-clause-none
returns-clause-none c = λ is.
    let olds = map shared c.args.was.now in
    let ws = map shared c.args.now.now in
    let matches = c.as_slice.ensures.value ∙ c.in_ok-match_children.ensures.ok in
    cannot_matched olds ws (length-matching olds ws) (sym (ap (list_all (λ m. is_some m)) matches) ∙ c.found.ensures.none is)
