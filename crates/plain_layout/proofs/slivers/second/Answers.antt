use Rattle.std.proofs.Common.{◌∙◌, ap, List, map}
use Rattle.plain_tree.specs.Render.{Render}
use Rattle.layout_form.specs.Fits.{data_of}
use Rattle.kind_rules.specs.Cursor.{look_of, children_of}
use Rattle.plain_layout.proofs.Trees.{node_fits, factors_fit}
use Rattle.plain_layout.proofs.slivers.second.Goals as goal

pub second_asked-requires : goal.second_asked-requires
second_asked-requires c =
    let node = c.args.node.now in
    factors_fit (look_of node) (map data_of (children_of node)) (map data_of c.children_of-children.result.now)
    (ap (λ (rs : List Render). map data_of rs) c.children_of-children.ensures) (node_fits node c.requires)

pub rest_asks-requires : goal.rest_asks-requires
rest_asks-requires c =
    let node = c.args.node.now in
    factors_fit (look_of node) (map data_of (children_of node)) c.as_slice-in-Some-3.result.now
    (c.as_slice-in-Some-3.ensures ∙ c.in_ok-told-in-Some.ensures ∙ ap (λ (rs : List Render). map data_of rs) c.children_of-children.ensures) (node_fits node c.requires)
