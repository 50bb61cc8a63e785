-- The views of lazy lists, as the program keeps them.
use Rattle.std.specs.Prelude.{ℕ, Option}
use Rattle.std.specs.BTreeMap.{BTreeMap, get}
use Rattle.std.specs.Ordering.{nat_cmp}
use Rattle.sliver_layout.specs.declared.protocol.SliverBounds.{SliverBounds}

-- the view that a map keeps for a number
abbrev pub view_kept : BTreeMap ℕ SliverBounds → ℕ → Option SliverBounds
view_kept views wanted = get nat_cmp views wanted
