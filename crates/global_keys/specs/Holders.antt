-- What a registry records: for each global key the element that has it, and whether it was met in this walk.
use Rattle.std.specs.Prelude.{◌≡◌, Bool, true, false, Option, Some, None, List, option_map, if◌then◌else◌, refl}
use Rattle.std.specs.Map.{lookup}
use Rattle.std.specs.Coded.{Coded, code_by, coded×, coded_bool, coded_list}
use Rattle.fx_handles.specs.declared.Handle.{Handle}
use Rattle.fx_expr.specs.declared.values.Value.{Value}
use Rattle.fx_expr.specs.Value.{value_eq}
use Rattle.widget_model.specs.LookCode.{coded_value}
use Rattle.node_tree.specs.Tree.{handle_code}
use Rattle.global_keys.specs.declared.registry.Holder.{Holder}

-- the entries in order of their keys, and whether the registry is spent: then it takes no memory any more
pub record Registry : Type 0 where
  pub entries : List (Value × Holder)
  pub spent : Bool

abbrev pub holder_code : Coded Holder
holder_code = code_by (Handle × Bool) (coded× handle_code coded_bool) (λ x. (x.node, x.met)) (λ p. record { node = p.0; met = p.1 }) (λ _. refl)

abbrev pub registry_code : Coded Registry
registry_code =
    code_by (List (Value × Holder) × Bool) (coded× (coded_list (coded× coded_value holder_code)) coded_bool) (λ r. (r.entries, r.spent)) (λ p. record { entries = p.0; spent = p.1 }) (λ _. refl)

-- what is recorded of a key
abbrev pub recorded : Registry → Value → Option Holder
recorded r k = lookup (λ j. value_eq k j) r.entries

-- the element that is recorded for it
abbrev pub holder_of : Registry → Value → Option Handle
holder_of r k = option_map (λ (x : Holder). x.node) (recorded r k)

-- whether the key was met in this walk
abbrev pub was_met : Option Holder → Bool
was_met None = false
was_met (Some x) = x.met

abbrev pub is_met : Registry → Value → Bool
is_met r k = was_met (recorded r k)

-- an entry before it was met, and after
abbrev pub unmet : Holder → Holder
unmet x = record x { met = false }

abbrev pub met : Holder → Holder
met x = record x { met = true }

-- a new holder of a key, which was met
abbrev pub new_holder : Handle → Holder
new_holder h = record { node = h; met = true }

-- an element was recorded as the new holder of a key
abbrev pub Notes : Registry → Registry → Value → Handle → Type 0
Notes old new k h = (j : Value) → recorded new j ≡ (if value_eq j k then Some (new_holder h) else recorded old j)
