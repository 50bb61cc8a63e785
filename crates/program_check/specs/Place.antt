-- Where a template stands: what it can name there, and what is wanted.
use Rattle.std.specs.Prelude.{ℕ, ◌+◌, List, [], ◌∷◌, Bool, true, false, if◌then◌else◌, Option, Some, None, is_some, option_map, slice_get, Ok, Err, ⊤}
use Rattle.std.specs.Str.{bytes_eq}
use Rattle.program_form.specs.declared.kinds.ChildSort.{ChildSort}
use Rattle.program_form.specs.declared.kinds.ChildSort.TheVariants as stands
use Rattle.expr_check.specs.declared.fault.CheckCode.{CheckCode}
use Rattle.expr_check.specs.declared.fault.CheckCode.TheVariants.{MissingName, EarlyUse}
use Rattle.expr_check.specs.Check.{Check}
use Rattle.expr_check.specs.Names.{NamedTypes, PlainNames}

-- what a template that uses a component has to know of it
pub record Signature : Type 0 where
  pub name : List ℕ
  pub props : NamedTypes
  pub slots : List (List ℕ)
  -- of its body
  pub sort : ChildSort

-- what a template can name where it stands
pub record PlainPlace : Type 0 where
  -- what its expressions can name
  pub names : PlainNames
  -- the inherited names that it can give a value
  pub provided : NamedTypes
  -- the slots of the component that it stands in
  pub slots : List (List ℕ)
  -- the components that it can use: those declared before the one that it stands in, or all
  pub earlier : List Signature
  -- the names of the component that it stands in, and of those declared later
  pub later : List (List ℕ)

-- ---- steps of a check

-- what has to hold, and what is wrong where it doesn't
abbrev pub expected : Bool → CheckCode → Check ⊤
expected true code = Ok tt
expected false code = Err code

-- what was looked for, and what is wrong where it isn't there
abbrev pub or_wrong : {A : Type 0} → CheckCode → Option A → Check A
or_wrong code (Some x) = Ok x
or_wrong code None = Err code

-- ---- look-ups

-- the place of the first that has a name, counted from 0
abbrev pub index_by : {X : Type 0} → (X → List ℕ) → List X → List ℕ → Option ℕ
index_by name_of [] name = None
index_by name_of (x ∷ xs) name = if bytes_eq name (name_of x) then Some 0 else option_map (λ i. i + 1) (index_by name_of xs name)

-- the place of a name, counted from 0
abbrev pub index_of : List (List ℕ) → List ℕ → Option ℕ
index_of names name = index_by (λ n. n) names name

-- the component of a name, with its place
abbrev pub with_signature : List Signature → Option ℕ → Option (ℕ × Signature)
with_signature cs None = None
with_signature cs (Some i) = option_map (λ c. (i, c)) (slice_get cs i)

abbrev pub component_of : List Signature → List ℕ → Option (ℕ × Signature)
component_of cs name = with_signature cs (index_by (λ c. c.name) cs name)

-- the component that a template uses: it is declared, and declared before
abbrev pub or_early : Bool → Option (ℕ × Signature) → Check (ℕ × Signature)
or_early declared (Some c) = Ok c
or_early true None = Err EarlyUse
or_early false None = Err MissingName

abbrev pub used_component : PlainPlace → List ℕ → Check (ℕ × Signature)
used_component place name = or_early (is_some (index_of place.later name)) (component_of place.earlier name)

-- ---- sorts

-- what stands there is what is wanted, where both are known
abbrev pub sorts_agree : ChildSort → ChildSort → Bool
sorts_agree stands.Box stands.Sliver = false
sorts_agree stands.Sliver stands.Box = false
sorts_agree wanted found = true
