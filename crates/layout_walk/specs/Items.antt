-- Trees that are the same but for the items of lazy lists, and the lists that are laid out.
use Rattle.std.specs.Prelude.{◌≡◌, ◌⊎◌, true, ℕ, Bool, false, List, [], ◌∷◌, ◌++◌}
use Rattle.node_tree.specs.Forest.{Forest}
use Rattle.node_tree.specs.Forest.Forest.{none, tree}
use Rattle.widget_model.specs.Look.{Look}
use Rattle.plain_tree.specs.declared.laid.Facts.{Facts}
use Rattle.plain_tree.specs.declared.laid.Frame.{Frame}
use Rattle.plain_tree.specs.Laid.{Laid, laid, Laids, no_laids, more_laids}
use Rattle.layout_form.specs.declared.asks.Ask.{Ask}
use Rattle.layout_walk.specs.Node.{LayoutNode, members}
use Rattle.layout_walk.specs.Rule.{LayoutParts}

-- an IntrinsicWidth or IntrinsicHeight isn't told of it: the items stand below a Viewport, which would like nothing
abbrev pub LikesSame : LayoutParts → LayoutNode → Forest LayoutNode → Forest LayoutNode → Type 0
LikesSame P v kids below = (ask : Ask) → P.liked v.look ask (members kids) ≡ P.liked v.look ask (members below)

abbrev pub SameButItems : LayoutParts → Forest LayoutNode → Forest LayoutNode → Type 0
SameButItems P none none = Unit {0}
SameButItems P none (tree k w below rest) = ⊥
SameButItems P (tree h v kids more) none = ⊥
SameButItems P (tree h v kids more) (tree k w below rest) =
    (v ≡ w) × ((P.lists v.look ≡ true) ⊎ (SameButItems P kids below × LikesSame P v kids below)) × SameButItems P more rest

-- two trees f and g, and the same two with other items: below each list of both there are the same now
abbrev pub ItemsChange : LayoutParts → Forest LayoutNode → Forest LayoutNode → Forest LayoutNode → Forest LayoutNode → Type 0
ItemsChange P none none none none = Unit {0}
ItemsChange P (tree h v kids more) (tree k w below rest) (tree i x kids' more') (tree j y below' rest') =
    (i ≡ j) × (v ≡ x) × (w ≡ y)
    × (((P.lists v.look ≡ true) × (kids' ≡ below')) ⊎ (ItemsChange P kids below kids' below' × LikesSame P v kids kids'))
    × ItemsChange P more rest more' rest'
ItemsChange P _ _ _ _ = ⊥

-- the lists that are laid out, in tree order, each with its number and its frame; those among the items of a list aren't counted
abbrev pub list_frame : Bool → ℕ → Facts → List (ℕ × Frame) → List (ℕ × Frame)
list_frame true number facts below = (number, facts.frame) ∷ []
list_frame false number facts below = below

abbrev mutual
  pub lists_of : (Look → Bool) → Laid → List (ℕ × Frame)
  lists_of lists (laid number look facts children) = list_frame (lists look) number facts (lists_in lists children)

  pub lists_in : (Look → Bool) → Laids → List (ℕ × Frame)
  lists_in lists no_laids = []
  lists_in lists (more_laids at l ls) = lists_of lists l ++ lists_in lists ls
