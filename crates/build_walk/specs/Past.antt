-- What is known of the nodes of the last frame's tree.
use Rattle.std.specs.Prelude.{ℕ, ◌==◌, Bool, Option, Some, None, List, [], ◌∷◌, ◌++◌, map}
use Rattle.std.specs.List.{find, list_any}
use Rattle.fx_expr.specs.declared.values.Value.{Value}
use Rattle.widget_model.specs.Plain.{PlainWidget}
use Rattle.plain_tree.specs.PlainNode.{PlainNode, node, PlainNodes, no_nodes, more_nodes, list_of, widget_of}
use Rattle.build_form.specs.Entering.{values_below}

-- a node of the last frame's tree
pub record Past : Type 0 where
  pub number : ℕ
  pub widget : PlainWidget
  -- the values of all inherited names where it stood
  pub values : List Value
  -- it was marked since: it is to be built anew
  pub marked : Bool
  -- the widgets of its children; of a component what its body gave
  pub output : List PlainWidget

-- what is known of the node with a number, where there was one
abbrev pub Pasts : Type 0
Pasts = ℕ → Option Past

abbrev pub is_marked : List ℕ → ℕ → Bool
is_marked marks number = list_any (λ n. n == number) marks

abbrev pub past : List ℕ → List Value → ℕ → PlainWidget → List PlainWidget → Past
past marks values number w output = record { number = number; widget = w; values = values; marked = is_marked marks number; output = output }

-- ---- those of a tree, in preorder, where some numbers are marked and the inherited names have these values above it

abbrev mutual
  pub pasts_of : List ℕ → List Value → PlainNode → List Past
  pasts_of marks values (node number widget fields scroll index children) =
      past marks values number widget (map widget_of (list_of children)) ∷ pasts_in marks (values_below widget values) children

  pub pasts_in : List ℕ → List Value → PlainNodes → List Past
  pasts_in marks values no_nodes = []
  pasts_in marks values (more_nodes n ns) = pasts_of marks values n ++ pasts_in marks values ns

abbrev pub past_at : List Past → Pasts
past_at ps number = find (λ p. p.number == number) ps

abbrev pub past_in : List ℕ → List Value → Option PlainNode → Pasts
past_in marks defaults None number = None
past_in marks defaults (Some old) number = past_at (pasts_of marks defaults old) number
