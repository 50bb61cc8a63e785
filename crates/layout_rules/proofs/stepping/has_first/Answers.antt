use Rattle.std.proofs.Common.{◌≡◌, refl, ap, sym, ◌∙◌, ℕ, zero, suc, ◌==◌, is_some, Option, Some, None, [], ◌∷◌, get_or, rules, tests}
use Rattle.kind_rules.specs.Few.{items_of}
use Rattle.layout_rules.specs.declared.duties.Course.{Course}
use Rattle.layout_rules.specs.declared.duties.Duty.{Duty}
use Rattle.layout_rules.specs.declared.duties.Duty.TheVariants.{Measure}
use Rattle.layout_rules.specs.Courses.{cross_of, first_duties}
use Rattle.layout_rules.proofs.Filling.{map_at}
use Rattle.layout_rules.proofs.stepping.has_first.Goals as goal

only_first : (duty : Duty) (i : ℕ) → (i == 0) ≡ is_some (get_or (Some duty ∷ []) i None)
only_first duty zero = refl
only_first duty (suc zero) = refl
only_first duty (suc (suc i)) = search (tests, rules)

pub returns-in-View : goal.returns-in-View
returns-in-View c = λ kids less.
    ap (λ (o : Option Duty). is_some o)
    (sym (map_at (Some (Measure c.in-View.field-0 (cross_of c.in-View.field-0 c.in-View.field-1))) None kids c.args.i less)
    ∙ ap (λ (x : Course). get_or (first_duties x (items_of c.args.first.now) kids) c.args.i None) (sym c.in-View.is))

pub returns-in-Open : goal.returns-in-Open
returns-in-Open c = λ kids less.
    only_first _ c.args.i ∙ ap (λ (x : Course). is_some (get_or (first_duties x (items_of c.args.first.now) kids) c.args.i None)) (sym c.in-Open.is)
