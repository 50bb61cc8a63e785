-- Expressions: the walks of operands, and their number.
use Rattle.std.proofs.Common.{◌≡◌, ℕ, length, List, ◌∷◌, Bool, if◌then◌else◌, Ok, ap, sym, refl, ◌∙◌}
use Rattle.std.specs.Prelude.{⊤}
use Rattle.serde_json.specs.Data.{Items, no_items, item}
use Rattle.json_tree.specs.View.{items_view}
use Rattle.json_tree.specs.declared.tree.Json.{Json}
use Rattle.program_read.specs.declared.fault.ShapeCode.TheVariants.{WrongCount}
use Rattle.program_form.specs.declared.operators.Operator.{Operator}
use Rattle.program_read.specs.ShapeFault.{ShapeWalk, stops}
use Rattle.program_read.specs.Leaves.{walks}
use Rattle.program_form.specs.Operators.{takes}
use Rattle.program_read.specs.FormWalk.{form_of, forms_of, counted}
use Rattle.program_read.proofs.ItemsLemmas.{count_of-items_view}

-- the walks of operands are those of a list's entries
pub forms_of-walks : (ds : Items) → forms_of ds ≡ walks form_of ds
unfolding form_of
forms_of-walks no_items = refl
forms_of-walks (item d ds) = ap (λ ws. form_of d ∷ ws) (forms_of-walks ds)

-- an operator with another number of operands, and with its own
abbrev counted_if : Bool → ShapeWalk ⊤
counted_if b = if b then Ok tt else stops WrongCount

pub counted-values : (operator : Operator) (vs : List Json) (n : ℕ) (b : Bool) → n ≡ length vs → takes operator n ≡ b → counted operator (items_view vs) ≡ counted_if b
counted-values operator vs n b e h = ap counted_if (ap (takes operator) (count_of-items_view vs ∙ sym e) ∙ h)
