-- What a step of a build comes to, and how steps follow one another.
use Rattle.std.specs.Prelude.{ℕ, Bool, Option, List, [], ◌∷◌}
use Rattle.fx_expr.specs.declared.values.Value.{Value}
use Rattle.widget_keys.specs.declared.keys.Key.{Key}
use Rattle.plain_tree.specs.PlainNode.{PlainNode}

-- what stops a build
pub data Fault : Type 0 where
  -- two children of one widget have this key
  repeated_sibling_key : Key Value → Fault
  -- two widgets of the tree have this global key
  repeated_global_key : Value → Fault
  -- the tree has too many nodes, or is too deep
  tree_too_large : Fault
  -- what one template gives has more than 65,536 widgets
  output_too_large : Fault

-- how far a build has come
pub record Progress : Type 0 where
  -- how many widgets were entered
  pub entered : ℕ
  -- which global keys were met
  pub met : Value → Bool
  -- the number of the next node that is made
  pub next : ℕ
  -- the lazy lists whose items are to be entered yet, in the order in which the lists were: what each goes on from in the
  -- old tree
  pub waiting : List (Option PlainNode)

-- a step stops the build, or gives something and leaves the build where it has come to
pub data Step (A : Type 0) : Type 0 where
  stops : Fault → Step A
  gives : A → Progress → Step A

-- one step after another
abbrev pub and_then : {A B : Type 0} → Step A → (A → Progress → Step B) → Step B
and_then (stops fault) later = stops fault
and_then (gives a s) later = later a s

-- the same step for each of a list, in order
abbrev pub each : {A B : Type 0} → (A → Progress → Step B) → List A → Progress → Step (List B)
each step [] s = gives [] s
each step (x ∷ xs) s = and_then (step x s) (λ y s1. and_then (each step xs s1) (λ ys s2. gives (y ∷ ys) s2))
