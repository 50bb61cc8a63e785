-- Before there is a tree, all is laid out.
use Rattle.std.proofs.Common.{◌≡◌, Bool, true, false, not, ◌&&◌, ◌||◌, Option, Some, None, refl, ap, ◌∙◌}
use Rattle.fx_geom.specs.declared.boxes.Bounds.{Bounds}
use Rattle.widget_model.specs.Look.{Look}
use Rattle.plain_tree.specs.Laws.{render_numbers_of}
use Rattle.plain_tree.specs.Render.{Render, render}
use Rattle.work_sets.specs.Before.{Before, bounds_in}
use Rattle.work_sets.specs.InTree.{standing}
use Rattle.work_sets.specs.Layout.{is_firm_in, is_firm, is_changed_since, is_changed, frame_judge, layout_region}
use Rattle.work_roles.specs.Place.{RegionPlace, at_root, below}
use Rattle.work_sets.specs.Region.{reaches_out, some_reaches_out, region_in}
use Rattle.work_sets.proofs.Wholes.{region_all}

not_firm : (o : Option Bounds) (p : RegionPlace) (look : Look) → is_firm_in o None p look ≡ false
not_firm None p look = refl
not_firm (Some bounds) p look = refl

out : (a b c : Bool) → a ≡ true → c ≡ false → ((a || b) && not c) ≡ true
out true b true e f = cc
out true b false e f = refl
out false b c e f = cc

all_out : (b : Before) (root : Render) → b.tree ≡ None → reaches_out (frame_judge b) at_root root ≡ true
all_out b (render number look told scroll count children) e =
    let r : Render = render number look told scroll count children in
    out (is_changed b at_root r) (some_reaches_out (frame_judge b) (below at_root look) children) (is_firm b at_root r)
    (ap (λ t. is_changed_since (standing t number) b at_root r) e)
    (ap (λ t. is_firm_in (bounds_in (b.frames number)) (standing t number) at_root look) e ∙ not_firm (bounds_in (b.frames number)) at_root look)

pub first_layout : (b : Before) (root : Render) → b.tree ≡ None → layout_region b root ≡ render_numbers_of root
first_layout b root e = ap (λ a. region_in (frame_judge b) a at_root root) (all_out b root e) ∙ region_all (frame_judge b) at_root root
