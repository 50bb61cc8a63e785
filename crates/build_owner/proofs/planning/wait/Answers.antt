use Rattle.std.proofs.Common.{◌≡◌, ℕ, Option, Some, None, rules, refl, ap, ◌∙◌}
use Rattle.std.specs.Option.{unwrap_or}
use Rattle.build_owner.specs.Entry.{number_or}
use Rattle.build_owner.proofs.planning.wait.Goals as goal

number_same : (o : Option ℕ) → unwrap_or o 0 ≡ number_or o
number_same None = refl
number_same (Some n) = refl

pub returns-clause-waits : goal.returns-clause-waits
returns-clause-waits c = record {
  spot = record {
    at = c.args.opening.now.at;
    kept = c.args.opening.now.partner;
    left = c.args.left;
    now = c.in_ok-copy_values.field-0;
    was = c.in_ok-copy_values-2.field-0;
    number = c.unwrap_or.result;
    list = c.in_ok-clone.field-0;
  };
  is = c.in_ok-push_back.ensures.items;
  at = refl;
  kept = refl;
  left_is = refl;
  now_is = c.in_ok-copy_values.ensures ∙ c.as_slice.ensures.value;
  was_is = c.in_ok-copy_values-2.ensures ∙ c.as_slice-2.ensures.value;
  number = c.unwrap_or.ensures ∙ number_same c.number.result ∙ ap number_or c.number.ensures;
  list = search rules;
}
