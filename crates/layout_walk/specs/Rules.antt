-- The rules of layout, as a walk knows them.
use Rattle.std.specs.Prelude.{ℕ, Bool, true, false, Option, Some, None, option_map, List}
use Rattle.fx_geom.specs.declared.boxes.Bounds.{Bounds}
use Rattle.sliver_layout.specs.declared.protocol.SliverBounds.{SliverBounds}
use Rattle.sliver_layout.specs.Lists.{list_geometry_of}
use Rattle.widget_model.specs.Look.{Look, sliver_lazy}
use Rattle.plain_tree.specs.declared.laid.Frame.{Frame}
use Rattle.plain_tree.specs.declared.laid.Frame.TheVariants.{Boxed, Sliver}
use Rattle.plain_tree.specs.declared.render.ParentData.{ParentData}
use Rattle.plain_tree.specs.Render.{Renders}
use Rattle.layout_form.specs.declared.asks.Ask.{Ask}
use Rattle.layout_form.specs.declared.asks.Ask.TheVariants.{AsBox, AsSliver}
use Rattle.layout_form.specs.Object.{Setting, no_notes, only_of}
use Rattle.layout_form.specs.Intrinsic.{liked_by}
use Rattle.layout_form.specs.Layout.{objects, delegate_of, is_plugged}
use Rattle.layout_form.specs.Protocol.{nobody, box_first}
use Rattle.layout_form.specs.Frames.{Makes, Passes, frames_given, box_makes, sliver_makes, found_makes, rest_makes, sliver_asks}
use Rattle.layout_form.specs.Framed.{fixed_size, is_blind}
use Rattle.layout_walk.specs.Node.{NodeMember}
use Rattle.layout_walk.specs.Rule.{LayoutParts, RuleGift}

-- how much the child of an IntrinsicWidth or an IntrinsicHeight would like; a sliver asks nobody for it
abbrev pub liked_in : Setting → Look → Ask → Renders → ℕ
liked_in s look (AsBox b) below = liked_by look b (only_of (objects s below))
liked_in s look (AsSliver b) below = 0

abbrev pub first_in : Setting → NodeMember → Ask → ℕ → List ParentData → List (Option Ask)
first_in s m (AsBox b) liked ds = box_first s m.look b liked ds
first_in s m (AsSliver b) liked ds = sliver_asks m.look m.count b ds

abbrev pub rest_in : NodeMember → ℕ → Ask → List ParentData → List (Option Frame) → List (Option Ask)
rest_in m scroll (AsBox b) ds known = rest_makes m.look b (found_makes m.look scroll b known) ds known
rest_in m scroll (AsSliver b) ds known = nobody

-- what a rule makes for a box and for a sliver
abbrev pub box_gift : Setting → Look → Bounds → Makes → RuleGift
box_gift s look b m = record {
  facts = record { frame = Boxed b m.size; notes = m.notes; plugged = is_plugged s.delegates (delegate_of look); scrolled = m.scrolled };
  places = m.places;
}

abbrev pub sliver_gift : Setting → Look → SliverBounds → Passes → RuleGift
sliver_gift s look b m = record {
  facts = record { frame = Sliver b m.geometry; notes = no_notes; plugged = is_plugged s.delegates (delegate_of look); scrolled = 0 };
  places = m.places;
}

abbrev pub makes_in : Setting → NodeMember → ℕ → Ask → List ParentData → List (Option Frame) → List (Option Frame) → RuleGift
makes_in s m scroll (AsBox b) ds known answers =
    box_gift s m.look b (box_makes s m.look b (found_makes m.look scroll b known) ds (frames_given answers))
makes_in s m scroll (AsSliver b) ds known answers = sliver_gift s m.look b (sliver_makes m.look m.count b ds answers)

-- a lazy list's own members say how far it goes
abbrev pub lazy_extent : Look → Option ℕ
lazy_extent (sliver_lazy extent) = Some extent
lazy_extent _ = None

abbrev pub fixed_in : NodeMember → Ask → Option Frame
fixed_in m (AsBox b) = option_map (λ size. Boxed b size) (fixed_size m.look b)
fixed_in m (AsSliver b) = option_map (λ extent. Sliver b (list_geometry_of b extent m.count)) (lazy_extent m.look)

-- an outer flush lays out lazy lists without their items
abbrev pub holds_in : Look → Ask → Bool
holds_in (sliver_lazy extent) (AsSliver b) = true
holds_in _ ask = false

abbrev pub is_list : Look → Bool
is_list (sliver_lazy extent) = true
is_list _ = false

abbrev pub parts_of : Setting → LayoutParts
parts_of s = record {
  liked = liked_in s;
  first = first_in s;
  rest = rest_in;
  makes = makes_in s;
  fixed = fixed_in;
  blind = is_blind;
  holds = holds_in;
  lists = is_list;
}
