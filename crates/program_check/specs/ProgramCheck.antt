-- A program's check, or what is wrong first: the inherited names, then the components, then the root.
use Rattle.std.specs.Prelude.{ℕ, List, [], ◌∷◌, ◌++◌, map, length, is_none, false, Option, Some, None, Result, Ok, Err}
use Rattle.fx_expr.specs.Exp.{Exp}
use Rattle.program_form.specs.declared.kinds.ChildSort.TheVariants as stands
use Rattle.program_form.specs.Template.{PlainTemplate}
use Rattle.program_form.specs.Program.{PlainParameter, PlainVariable, PlainComponent, PlainProgram}
use Rattle.expr_check.specs.declared.fault.CheckCode.{CheckCode}
use Rattle.expr_check.specs.declared.fault.CheckCode.TheVariants.{RepeatedName}
use Rattle.expr_check.specs.declared.wants.Want.TheVariants as want
use Rattle.program_check.specs.declared.places.Amount.TheVariants.{One}
use Rattle.expr_check.specs.Check.{Check, code_number, and_then, given}
use Rattle.expr_check.specs.Names.{NamedTypes, PlainNames, place_of}
use Rattle.program_check.specs.Body.{PlainBody}
use Rattle.program_check.specs.Place.{Signature, PlainPlace, expected, index_of, component_of}
use Rattle.program_check.specs.Judged.{position, child_at, judged}
use Rattle.expr_check.specs.Handlers.{typed_as}
use Rattle.program_check.specs.Checked.{PlainVariables, PlainCheckedComponent, PlainChecked, variables_with, checked_component_with, checked_with, signature_of}

-- what is wrong first: the number of its rule, and the place of the component that it is in, if it is in one
pub record Bad : Type 0 where
  pub code : ℕ
  pub component : Option ℕ

-- a check that says where it is made
abbrev pub CheckedAt : Type 0 → Type 0
CheckedAt A = Result A Bad

abbrev pub bad_with : ℕ → Option ℕ → Bad
bad_with code component = record { code = code; component = component }

abbrev pub bad_at : Option ℕ → CheckCode → Bad
bad_at component code = bad_with (code_number code) component

abbrev pub made_at : {A : Type 0} → Option ℕ → Check A → CheckedAt A
made_at component (Ok x) = Ok x
made_at component (Err code) = Err (bad_at component code)

abbrev pub then_placed : {A B : Type 0} → CheckedAt A → (A → CheckedAt B) → CheckedAt B
then_placed (Ok x) next = next x
then_placed (Err bad) next = Err bad

abbrev pub given_placed : {A B : Type 0} → (A → B) → CheckedAt A → CheckedAt B
given_placed f (Ok x) = Ok (f x)
given_placed f (Err bad) = Err bad

-- ---- declarations, entry by entry

-- a name that isn't declared yet in its list
abbrev pub new_name : NamedTypes → List ℕ → Check (Unit {0})
new_name names name = expected (is_none (place_of names name)) RepeatedName

-- props: each a new name
abbrev pub declared_props : NamedTypes → List PlainParameter → Check NamedTypes
declared_props before [] = Ok before
declared_props before (p ∷ ps) = and_then (new_name before p.name) (λ _. declared_props (before ++ (p.name, p.ty) ∷ []) ps)

-- one more variable
abbrev pub variables_and : PlainVariables → PlainVariable → Exp → PlainVariables
variables_and before v e = variables_with (before.names ++ (v.name, v.ty) ∷ []) (before.values ++ e ∷ [])

-- fields or inherited names: each a new name, then its value, and then the value's type; the values see these names
abbrev pub declared_variables : PlainNames → PlainVariables → List PlainVariable → Check PlainVariables
declared_variables names before [] = Ok before
declared_variables names before (v ∷ vs) =
    and_then (new_name before.names v.name) (λ _.
    and_then (typed_as names (want.Exactly v.ty) v.value) (λ e.
    declared_variables names (variables_and before v e.exp) vs))

-- slots: each a new name
abbrev pub new_slot : List (List ℕ) → List ℕ → Check (Unit {0})
new_slot slots name = expected (is_none (index_of slots name)) RepeatedName

abbrev pub declared_slots : List (List ℕ) → List (List ℕ) → Check (List (List ℕ))
declared_slots before [] = Ok before
declared_slots before (s ∷ ss) = and_then (new_slot before s) (λ _. declared_slots (before ++ s ∷ []) ss)

abbrev pub no_variables : PlainVariables
no_variables = variables_with [] []

-- ---- what is seen

-- nothing; and props alone
abbrev pub props_alone : NamedTypes → PlainNames
props_alone props = record { fields = []; props = props; vars = []; inherited = []; event = false }

abbrev pub nothing_seen : PlainNames
nothing_seen = props_alone []

-- in a component's body: its fields and props, and all inherited names
abbrev pub seen_in_body : NamedTypes → NamedTypes → NamedTypes → PlainNames
seen_in_body fields props inherited = record { fields = fields; props = props; vars = []; inherited = inherited; event = false }

-- ---- components

abbrev pub place_with : PlainNames → NamedTypes → List (List ℕ) → List Signature → List (List ℕ) → PlainPlace
place_with names provided slots earlier later = record { names = names; provided = provided; slots = slots; earlier = earlier; later = later }

-- what a component declares: props, fields and slots
abbrev pub DeclaredNames : Type 0
DeclaredNames = NamedTypes × PlainVariables × List (List ℕ)

-- no component before has its name; and its fields' values see the props
abbrev pub new_declarations : List Signature → PlainComponent → Check DeclaredNames
new_declarations earlier c =
    and_then (expected (is_none (component_of earlier c.name)) RepeatedName) (λ _.
    and_then (declared_props [] c.props) (λ props.
    and_then (declared_variables (props_alone props) no_variables c.fields) (λ fields.
    given (λ slots. (props, fields, slots)) (declared_slots [] c.slots))))

-- its body is one widget, a box or a sliver
abbrev pub component_from : NamedTypes → List Signature → List (List ℕ) → PlainComponent → DeclaredNames → Check PlainCheckedComponent
component_from inherited earlier later c d =
    given (checked_component_with c.name d.0 d.1 d.2 ((judged c.body).sort earlier))
    (child_at (position One stands.Any) (place_with (seen_in_body d.1.names d.0 inherited) inherited d.2 earlier later) (judged c.body))

-- a component after some, and before others: its name, props, fields and slots, and then its body
abbrev pub checked_component : NamedTypes → List Signature → List (List ℕ) → PlainComponent → Check PlainCheckedComponent
checked_component inherited earlier later c = and_then (new_declarations earlier c) (component_from inherited earlier later c)

abbrev pub component_names : List PlainComponent → List (List ℕ)
component_names cs = map (λ c. c.name) cs

-- components after some, each in its turn
abbrev pub checked_components : NamedTypes → List PlainCheckedComponent → List PlainComponent → CheckedAt (List PlainCheckedComponent)
checked_components inherited before [] = Ok before
checked_components inherited before (c ∷ cs) =
    then_placed (made_at (Some (length before)) (checked_component inherited (map signature_of before) (component_names (c ∷ cs)) c)) (λ done.
    checked_components inherited (before ++ done ∷ []) cs)

-- ---- the root, and the program

-- one box that uses any component; it sees no name of its own
abbrev pub checked_root : NamedTypes → List PlainCheckedComponent → PlainTemplate → CheckedAt PlainBody
checked_root inherited components t =
    made_at None (child_at (position One stands.Box) (place_with nothing_seen inherited [] (map signature_of components) []) (judged t))

unfoldable pub checked_program : PlainProgram → CheckedAt PlainChecked
checked_program p =
    then_placed (made_at None (declared_variables nothing_seen no_variables p.inherited)) (λ inherited.
    then_placed (checked_components inherited.names [] p.components) (λ components.
    given_placed (checked_with p.version p.view inherited components) (checked_root inherited.names components p.root)))

-- a widget that takes the root's place
abbrev pub checked_widget : PlainChecked → PlainTemplate → CheckedAt PlainBody
checked_widget c t = checked_root c.inherited.names c.components t
