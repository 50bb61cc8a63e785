use Rattle.std.proofs.Common.{sym, ap, ap₂, ◌∙◌}
use Rattle.std.specs.List.{position}
use Rattle.std.specs.Map.{keys_of, lookup}
use Rattle.expr_check.specs.Names.{place_of}
use Rattle.expr_check.proofs.NamesLemmas.{paired, is_key, place_of-names_in}
use Rattle.expr_check.proofs.names.Declared.find.Goals as goal

pub returns-in_err-place : goal.returns-in_err-place
returns-in_err-place c =
    let e = c.in_err-place.ensures in
    c.from_residual.ensures ∙ ap₂ paired e.index e.value
    ∙ ap (λ name. paired (position (is_key name) (keys_of c.self.inside.types.entries)) (lookup (is_key name) c.self.inside.types.entries)) c.get.ensures.bytes
    ∙ sym (place_of-names_in c.self.inside.types.entries c.args.name.now) ∙ ap (λ ds. place_of ds c.args.name.now) c.self.view_is

pub returns : goal.returns
returns c =
    let e = c.in_ok-place.ensures in
    ap₂ paired e.index e.value
    ∙ ap (λ name. paired (position (is_key name) (keys_of c.self.inside.types.entries)) (lookup (is_key name) c.self.inside.types.entries)) c.get.ensures.bytes
    ∙ sym (place_of-names_in c.self.inside.types.entries c.args.name.now) ∙ ap (λ ds. place_of ds c.args.name.now) c.self.view_is
