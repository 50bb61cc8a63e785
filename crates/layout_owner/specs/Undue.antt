-- What an outer flush leaves alone: it goes down from the root past nodes that needn't be laid out, and does nothing to them.
use Rattle.std.specs.Prelude.{◌≡◌, true, false, Some}
use Rattle.fx_geom.specs.Bounds.{tight}
use Rattle.fx_geom.specs.declared.shapes.Size.{Size}
use Rattle.node_tree.specs.Forest.{Forest}
use Rattle.node_tree.specs.Forest.Forest.{none, tree}
use Rattle.layout_form.specs.declared.asks.Ask.TheVariants.{AsBox}
use Rattle.layout_walk.specs.Node.{LayoutNode, asked}

-- trees whose parent isn't laid out: each is asked as in its last layout and is in the window or isn't, as it was; one out of it stays as it
-- is, with all below it; and one in it that needn't be laid out isn't: so it is of those below it
abbrev pub AreUndue : Forest LayoutNode → Forest LayoutNode → Type 0
AreUndue none none = Unit {0}
AreUndue none (tree k w below rest) = ⊥
AreUndue (tree h v kids more) none = ⊥
AreUndue (tree h v kids more) (tree k w below rest) =
    (asked w ≡ asked v) × (w.shown ≡ v.shown) × (v.shown ≡ false → (w ≡ v) × (below ≡ kids))
    × (v.shown ≡ true → v.needs_layout ≡ false → (w.needs_layout ≡ false) × (w.scroll ≡ v.scroll) × AreUndue kids below)
    × AreUndue more rest

-- a root's tree, of which the root counts as in the window and is asked as the view is large: where it needn't be laid out, and was asked
-- so in its last layout, it isn't
abbrev pub RootUndue : Size → Forest LayoutNode → Forest LayoutNode → Type 0
RootUndue view none g = Unit {0}
RootUndue view (tree h v kids more) none = ⊥
RootUndue view (tree h v kids more) (tree k w below rest) =
    v.needs_layout ≡ false → asked v ≡ Some (AsBox (tight view)) → (w.needs_layout ≡ false) × (w.scroll ≡ v.scroll) × AreUndue kids below

-- the root was asked so
abbrev pub RootAsked : Size → Forest LayoutNode → Type 0
RootAsked view none = Unit {0}
RootAsked view (tree h v kids rest) = asked v ≡ Some (AsBox (tight view))
