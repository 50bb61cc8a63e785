-- How far a build has come, as the program says it.
use Rattle.std.specs.Prelude.{Bool, map}
use Rattle.std.specs.BTreeSet.{BTreeSet}
use Rattle.std.specs.List.{list_any}
use Rattle.fx_expr.specs.declared.values.Value.{Value}
use Rattle.fx_expr.specs.Value.{value_eq}
use Rattle.plain_build.specs.declared.walk.BuildWalk.{BuildWalk}
use Rattle.build_form.specs.Lent.{lent}
use Rattle.build_form.specs.Step.{Progress}

-- a set has a key
abbrev pub has_met : BTreeSet Value → Value → Bool
has_met met k = list_any (λ j. value_eq k j) met.keys

abbrev pub progress_of : BuildWalk → Progress
progress_of w = record { entered = w.entered; met = λ k. has_met w.met k; next = w.next; waiting = map lent w.waiting.items }
