use Rattle.std.proofs.Common.{rules, ap, ◌∙◌}
use Rattle.std.specs.Map.{lookup}
use Rattle.std.proofs.lemmas.Map.Made.{map_same_pairs}
use Rattle.fx_expr.specs.Value.{value_eq}
use Rattle.global_keys.specs.Holders.{unmet}
use Rattle.global_keys.proofs.Recorded.{lookup-map}
use Rattle.global_keys.proofs.registry.Registry.begin.Goals as goal

pub returns-clause-recorded : goal.returns-clause-recorded
returns-clause-recorded c = λ k.
    let kept = map_same_pairs _ unmet _ (λ key v b w f' t. search rules) _ _ c.retain.ensures.filtered in
    rw (← c.self.view_is) (ap (lookup (λ j. value_eq k j)) kept ∙ lookup-map unmet k c.self.inside.holders.entries)
