-- The definitions at a small tree, worked by hand.
use Rattle.std.proofs.Common.{◌≡◌, ℕ, true, false, Some, None, [], ◌∷◌, pos, refl}
use Rattle.fx_handles.specs.declared.Handle.{Handle}
use Rattle.fx_handles.specs.Handle.{same}
use Rattle.fx_expr.specs.declared.values.Value.TheVariants as value
use Rattle.widget_keys.specs.declared.keys.Key.TheVariants as key
use Rattle.widget_model.specs.Look.{Look, inherit, component}
use Rattle.widget_model.specs.Plain.{plain, no_widgets}
use Rattle.node_tree.specs.Forest.{Forest}
use Rattle.node_tree.specs.Forest.Forest.{none, tree}
use Rattle.element_tree.specs.Element.{Element}
use Rattle.inherited.specs.Provided.{provided}
use Rattle.inherited.specs.Readers.{is_reader}

abbrev handle : ℕ → Handle
handle n = record { index = n; generation = 0 }

abbrev of : ℕ → Look → Element
of n look = record { number = n; widget = plain look key.None no_widgets no_widgets; fields = []; index = 0; dirty = false; output = None; render = None }

-- a component that reads the name 4
abbrev reader : Look
reader = component 0 [] (record { name = 82 ∷ []; fields = []; inherited = 3 ∷ 4 ∷ [] })

abbrev reads_nothing : Look
reads_nothing = component 1 [] (record { name = 78 ∷ []; fields = []; inherited = [] })

-- a clip over a component that reads nothing, in whose slot a reader stands over a reader, and over a provider of the name over a reader,
-- and a provider of another name over a reader
abbrev scene : Forest Element
scene =
    tree (handle 1) (of 1 reads_nothing)
    (tree (handle 2) (of 2 reader) (tree (handle 3) (of 3 reader) none none)
    (tree (handle 4) (of 4 (inherit 4 (value.Int (pos 1)))) (tree (handle 5) (of 5 reader) none none)
    (tree (handle 6) (of 6 (inherit 3 (value.Int (pos 1)))) (tree (handle 7) (of 7 reader) none none) none)))
    none

pub record Reads : Type 0 where
  pub first : is_reader 4 (handle 2) scene ≡ true
  pub below_a_reader : is_reader 4 (handle 3) scene ≡ true
  pub hidden : is_reader 4 (handle 5) scene ≡ false
  pub below_another : is_reader 4 (handle 7) scene ≡ true
  pub no_reader : is_reader 4 (handle 1) scene ≡ false
  pub provider : is_reader 4 (handle 4) scene ≡ false
  pub another_name : is_reader 5 (handle 2) scene ≡ false

reads_worked : Reads
unfolding same
reads_worked = record { first = refl; below_a_reader = refl; hidden = refl; below_another = refl; no_reader = refl; provider = refl; another_name = refl }

pub record Provides : Type 0 where
  pub innermost : provided ((4, value.Int (pos 2)) ∷ (3, value.Int (pos 7)) ∷ (4, value.Int (pos 1)) ∷ []) 4 ≡ Some (value.Int (pos 2))
  pub another : provided ((4, value.Int (pos 2)) ∷ (3, value.Int (pos 7)) ∷ (4, value.Int (pos 1)) ∷ []) 3 ≡ Some (value.Int (pos 7))
  pub missing : provided ((4, value.Int (pos 2)) ∷ []) 3 ≡ None

provides_worked : Provides
provides_worked = record { innermost = refl; another = refl; missing = refl }
