-- Where a template is built.
use Rattle.std.specs.Prelude.{ℕ, List, [], ◌∷◌, ◌++◌, Option, Some, None, slice_get}
use Rattle.fx_expr.specs.declared.values.Value.{Value}
use Rattle.fx_expr.specs.Scope.{Env}
use Rattle.widget_model.specs.declared.decl.Decl.{Decl}
use Rattle.widget_model.specs.Plain.{PlainWidget}
use Rattle.widget_model.specs.Typed.{Sort, ComponentType, Declarations, body_of}

pub record Scene : Type 0 where
  -- what its expressions can name
  pub env : Env
  -- the contents that were given for the slots of the component that it stands in, in declared order
  pub given : List PlainWidget
  -- the number of the node that its handlers belong to; 0 outside components
  pub owner : ℕ
  -- what the program declares
  pub declared : Declarations

-- inside a loop: one more variable, which is the item
abbrev pub env_inside : Value → Env → Env
env_inside v s = record { fields = s.fields; props = s.props; vars = s.vars ++ v ∷ []; inherited = s.inherited; dx = s.dx; dy = s.dy }

abbrev pub inside : Value → Scene → Scene
inside v s = record { env = env_inside v s.env; given = s.given; owner = s.owner; declared = s.declared }

-- what the component at a place declares; nothing where there is none
abbrev pub declaration_in : Option ComponentType → Decl
declaration_in (Some c) = c.declaration
declaration_in None = record { name = []; fields = []; inherited = [] }

abbrev pub declaration_at : Declarations → ℕ → Decl
declaration_at p place = declaration_in (slice_get p.components place)

-- the sort of what its body gives
abbrev pub body_sort_at : Declarations → ℕ → Sort
body_sort_at p place = body_of (slice_get p.components place)
