-- The definitions at small elements, worked by hand.
use Rattle.std.proofs.Common.{◌≡◌, ℕ, true, false, Some, None, Ok, Err, List, [], ◌∷◌, pos, refl, arith}
use Rattle.fx_handles.specs.declared.Handle.{Handle}
use Rattle.fx_expr.specs.declared.values.Value.{Value}
use Rattle.fx_expr.specs.declared.values.Value.TheVariants as value
use Rattle.fx_expr.specs.declared.values.Ty.TheVariants as ty
use Rattle.widget_keys.specs.declared.keys.Key.TheVariants as key
use Rattle.widget_model.specs.Look.{Look, clip_rect, component}
use Rattle.widget_model.specs.Plain.{PlainWidget, plain, no_widgets}
use Rattle.node_tree.specs.Forest.Forest.{none, tree}
use Rattle.plain_tree.specs.PlainNode.{node, no_nodes, more_nodes}
use Rattle.element_tree.specs.Element.{Element}
use Rattle.element_tree.specs.Fields.{with_field}
use Rattle.element_tree.specs.Index.{handle_of, Rises}
use Rattle.element_tree.specs.Nodes.{nodes_of}
use Rattle.element_tree.specs.Renewal.{mounted}
use Rattle.element_tree.specs.declared.numbers.Numbered.{Numbered}
use Rattle.element_tree.specs.declared.fields.SetFault.TheVariants.{NotStateful, NoField, WrongType}

abbrev handle : ℕ → Handle
handle n = record { index = n; generation = 0 }

abbrev widget : Look → PlainWidget
widget look = plain look key.None no_widgets no_widgets

abbrev of : ℕ → Look → List Value → Element
of n look fields = record { number = n; widget = widget look; fields = fields; index = 3; dirty = false; output = None; render = None }

-- a component with the fields n, of numbers, and l, a list of them
abbrev counter : Look
counter = component 0 [] (record { name = 67 ∷ []; fields = (110 ∷ [], ty.Int) ∷ (108 ∷ [], ty.Ints) ∷ []; inherited = [] })

abbrev counting : Element
counting = of 2 counter (value.Int (pos 4) ∷ value.Ints [] ∷ [])

pub record Sets : Type 0 where
  pub number : with_field counting (110 ∷ []) (value.Int (pos 5)) ≡ Ok (record counting { fields = value.Int (pos 5) ∷ value.Ints [] ∷ []; dirty = true })
  pub list : with_field counting (108 ∷ []) (value.Ints (pos 1 ∷ [])) ≡ Ok (record counting { fields = value.Int (pos 4) ∷ value.Ints (pos 1 ∷ []) ∷ []; dirty = true })
  pub empty : with_field counting (108 ∷ []) (value.Texts []) ≡ Ok (record counting { fields = value.Int (pos 4) ∷ value.Ints [] ∷ []; dirty = true })
  pub wrong_type : with_field counting (110 ∷ []) (value.Bool true) ≡ Err WrongType
  pub wrong_items : with_field counting (108 ∷ []) (value.Texts ([] ∷ [])) ≡ Err WrongType
  pub no_field : with_field counting (120 ∷ []) (value.Int (pos 5)) ≡ Err NoField
  pub not_stateful : with_field (of 1 clip_rect []) (110 ∷ []) (value.Int (pos 5)) ≡ Err NotStateful

sets_worked : Sets
sets_worked = record { number = refl; list = refl; empty = refl; wrong_type = refl; wrong_items = refl; no_field = refl; not_stateful = refl }

-- a clip over two components, each scrolled as far as its number says
pub record Stands : Type 0 where
  pub scene : nodes_of (λ n. n) (tree (handle 7) (of 1 clip_rect []) (tree (handle 8) counting none (tree (handle 9) (of 3 clip_rect []) none none)) none)
      ≡ node 1 (widget clip_rect) [] 1 3 (more_nodes (node 2 (widget counter) (value.Int (pos 4) ∷ value.Ints [] ∷ []) 2 3 no_nodes) (more_nodes (node 3 (widget clip_rect) [] 3 3 no_nodes) no_nodes)) ∷ []

stands_worked : Stands
stands_worked = record { scene = refl }

-- two elements under the numbers 3 and 5
abbrev index : List Numbered
index = (record { number = 3; at = handle 7 }) ∷ (record { number = 5; at = handle 6 }) ∷ []

pub record Finds : Type 0 where
  pub first : handle_of index 3 ≡ Some (handle 7)
  pub last : handle_of index 5 ≡ Some (handle 6)
  pub between : handle_of index 4 ≡ None
  pub rises : Rises 3 6 index

finds_worked : Finds
finds_worked = record { first = refl; last = refl; between = refl; rises = (omega arith, (omega arith, omega arith)) }

-- a component that is made as element 6 and built, and gives a clip
pub record Mounts : Type 0 where
  pub counter : mounted 6 (value.Int (pos 4) ∷ []) (record { widget = widget counter; index = 2; output = Some (widget clip_rect); render = None })
      ≡ record {
        number = 6;
        widget = widget counter;
        fields = value.Int (pos 4) ∷ [];
        index = 2;
        dirty = false;
        output = Some (widget clip_rect);
        render = None;
      }

mounts_worked : Mounts
mounts_worked = record { counter = refl }
