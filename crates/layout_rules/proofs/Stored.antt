-- Parts of what a layout left at a node, read one by one.
use Rattle.std.proofs.Common.{◌≡◌, Bool, ◌||◌, Option, Some, None, refl}
use Rattle.std.specs.Prelude.{option_and_then}
use Rattle.render_tree.specs.Object.{RenderObject}
use Rattle.render_tree.specs.Readings.{shown_of, needs_layout_of, layout_below_of}
use Rattle.layout_rules.specs.Reads.{state_or}

pub frame_is : (o : Option RenderObject) → option_and_then (λ x. x.frame) o ≡ (state_or o).frame
frame_is None = refl
frame_is (Some o) = refl

pub offset_is : (o : Option RenderObject) → option_and_then (λ x. x.offset) o ≡ (state_or o).offset
offset_is None = refl
offset_is (Some o) = refl

pub shown_is : (o : Option RenderObject) → shown_of o ≡ (state_or o).shown
shown_is None = refl
shown_is (Some o) = refl

pub needs_is : (o : Option RenderObject) → needs_layout_of o ≡ (state_or o).needs_layout
needs_is None = refl
needs_is (Some o) = refl

pub below_is : (o : Option RenderObject) → layout_below_of o ≡ (state_or o).layout_below
below_is None = refl
below_is (Some o) = refl

-- one test after another
pub either_is : (a b x y : Bool) → a ≡ x → b ≡ y → (a || b) ≡ (x || y)
either_is a b x y e f = λ i. e i || f i
