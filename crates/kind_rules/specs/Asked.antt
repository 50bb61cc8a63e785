-- The two rounds of asking, for a box and for a sliver, and what is made of the answers.
use Rattle.std.specs.Prelude.{◌≡◌, ℕ, ◌^◌, ◌≤◌, Option, List}
use Rattle.std.specs.List.{All}
use Rattle.fx_geom.specs.declared.shapes.Axis.{Axis}
use Rattle.fx_geom.specs.Insets.{extent_of}
use Rattle.fx_geom.specs.Size.{HasLengths}
use Rattle.sliver_layout.specs.Slivers.{walk_from}
use Rattle.widget_model.specs.Look.{Look, viewport}
use Rattle.plain_tree.specs.declared.laid.Frame.{Frame}
use Rattle.plain_tree.specs.declared.render.ParentData.{ParentData}
use Rattle.layout_form.specs.declared.asks.Ask.{Ask}
use Rattle.layout_form.specs.declared.asks.Ask.TheVariants.{AsBox, AsSliver}
use Rattle.layout_form.specs.Object.{Setting, Object}
use Rattle.layout_form.specs.Intrinsic.{liked_by}
use Rattle.layout_form.specs.SliverRule.{view_size}
use Rattle.layout_form.specs.Protocol.{nobody, box_first, Found, nothing_found}
use Rattle.layout_form.specs.Frames.{frames_given, sizes_by, geometries_by, box_makes, sliver_makes, found_makes, rest_makes, sliver_asks}
use Rattle.kind_rules.specs.declared.rest.Found.{Found as FoundIn}
use Rattle.kind_rules.specs.Ruling.{Ruling, box_ruling, sliver_ruling}
use Rattle.kind_rules.specs.Walks.{IsSeen}

abbrev pub liked_for : Look → Ask → Option Object → ℕ
liked_for look (AsBox b) child = liked_by look b child
liked_for look (AsSliver b) child = 0

abbrev pub first_for : Setting → Look → ℕ → Ask → ℕ → List ParentData → List (Option Ask)
first_for s look count (AsBox b) liked ds = box_first s look b liked ds
first_for s look count (AsSliver b) liked ds = sliver_asks look count b ds

abbrev pub found_for : Look → ℕ → Ask → List (Option Frame) → Found
found_for look scroll (AsBox b) fs = found_makes look scroll b fs
found_for look scroll (AsSliver b) fs = nothing_found

abbrev pub rest_for : Look → Ask → Found → List ParentData → List (Option Frame) → List (Option Ask)
rest_for look (AsBox b) found ds fs = rest_makes look b found ds fs
rest_for look (AsSliver b) found ds fs = nobody

abbrev pub ruling_for : Setting → Look → ℕ → Ask → Found → List ParentData → List (Option Frame) → Ruling
ruling_for s look count (AsBox b) found ds fs = box_ruling b (box_makes s look b found ds (frames_given fs))
ruling_for s look count (AsSliver b) found ds fs = sliver_ruling b (sliver_makes look count b ds fs)

-- what the first answers told, as the program has it
abbrev pub found_of : FoundIn → Found
found_of f = record { size = f.size; start = f.start }

-- a sliver begins at a length
abbrev pub IsOffset : Ask → Type 0
IsOffset (AsBox b) = Unit {0}
IsOffset (AsSliver b) = b.offset ≤ 2 ^ 40

-- the slivers of a Viewport are painted within its room
abbrev pub IsWalk : Look → Ask → ℕ → List Frame → Type 0
IsWalk look (AsSliver b) start fs = Unit {0}
IsWalk look (AsBox b) start fs = (axis : Axis) → look ≡ viewport axis → IsSeen (extent_of (view_size b) axis) (walk_from start) (geometries_by fs)

-- the sides of the children of a box are lengths
abbrev pub AreLong : Ask → List Frame → Type 0
AreLong (AsBox b) fs = All HasLengths (sizes_by fs)
AreLong (AsSliver b) fs = Unit {0}
