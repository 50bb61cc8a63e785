-- Inherits that take another value, worked by hand.
use Rattle.std.specs.Prelude.{ℕ, pos, false, true, Bool, Option, Some, None, List, [], ◌∷◌}
use Rattle.std.proofs.Common.{◌≡◌, refl}
use Rattle.fx_expr.specs.declared.values.Value.TheVariants as value
use Rattle.fx_handles.specs.declared.Handle.{Handle}
use Rattle.node_tree.specs.Forest.{Forest}
use Rattle.node_tree.specs.Forest.Forest.{none, tree}
use Rattle.widget_keys.specs.declared.keys.Key.TheVariants as key
use Rattle.widget_model.specs.Look.{colored_box, inherit}
use Rattle.widget_model.specs.Plain.{PlainWidget, plain, widgets_of, no_widgets}
use Rattle.element_tree.specs.Element.{Element}
use Rattle.renewed_builds.specs.Several.{flagged_in}
use Rattle.renewed_builds.specs.Regiving.{name_given}

abbrev at : ℕ → Handle
at n = record { index = n; generation = 0 }

abbrev box : ℕ → PlainWidget
box color = plain (colored_box color) key.None no_widgets no_widgets

-- an Inherit that gives a name a value, over a box of a color
abbrev over : ℕ → ℕ → ℕ → PlainWidget
over name n color = plain (inherit name (value.Int (pos n))) key.None no_widgets (widgets_of (box color ∷ []))

abbrev keyed : ℕ → PlainWidget
keyed n = plain (inherit 0 (value.Int (pos n))) (key.Local (value.Int (pos 1))) no_widgets (widgets_of (box 7 ∷ []))

abbrev element : ℕ → PlainWidget → Bool → Option PlainWidget → Element
element number w dirty output = record { number = number; widget = w; fields = []; index = 0; dirty = dirty; output = output; render = None }

-- a component, which any widget may stand for, that stores what its body gave; below it there is an Inherit, over a box
abbrev storing : Option PlainWidget → Forest Element
storing output = tree (at 1) (element 1 (box 0) false output) (tree (at 2) (element 2 (over 0 4 7) false None) (tree (at 3) (element 3 (box 7) false None) none none) none) none

gives_another_value : name_given (storing (Some (over 0 9 7))) ≡ Some 0
gives_another_value = refl

gives_the_same : name_given (storing (Some (over 0 4 7))) ≡ None
gives_the_same = refl

gives_another_name : name_given (storing (Some (over 1 9 7))) ≡ None
gives_another_name = refl

has_another_child : name_given (storing (Some (over 0 9 8))) ≡ None
has_another_child = refl

has_another_key : name_given (storing (Some (keyed 9))) ≡ None
has_another_key = refl

gives_no_value : name_given (storing (Some (box 7))) ≡ None
gives_no_value = refl

stores_nothing : name_given (storing None) ≡ None
stores_nothing = refl

-- the flagged ones are told in preorder
abbrev two_flagged : Forest Element
two_flagged =
    tree (at 1) (element 1 (box 0) false None) (tree (at 2) (element 2 (box 1) true None) (tree (at 5) (element 3 (box 2) true None) none none) none)
    (tree (at 4) (element 4 (box 3) true None) none none)

told_in_preorder : flagged_in two_flagged ≡ at 2 ∷ at 5 ∷ at 4 ∷ []
told_in_preorder = refl
