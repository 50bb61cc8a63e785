use Rattle.std.proofs.Common.{◌∙◌, sym, ap}
use Rattle.std.specs.Option.{option_to_list}
use Rattle.node_tree.specs.Tree.{subtree_at}
use Rattle.render_tree.specs.Users.{is_in, is_at_or_below}
use Rattle.render_tree.proofs.Used.{live_from_stands}
use Rattle.render_tree.proofs.Dropped.{or-none}
use Rattle.render_tree.proofs.Ranged.{clears_same, clears_none}
use Rattle.render_tree.proofs.clearing.clear_root.Goals as goal

pub clear_at-requires : goal.clear_at-requires
clear_at-requires c = live_from_stands c.args.tree.now _ _ c.in-Some.ensures.holds

pub returns-in-Some : goal.returns-in-Some
returns-in-Some c =
    let root = sym c.root.ensures.value ∙ c.in-Some.is in
    clears_same c.args.tree.now c.clear_at.new.tree (λ k. is_in k (subtree_at c.args.tree.now c.in-Some.root)) (is_at_or_below c.args.tree.now (option_to_list c.args.tree.now.root)) c.clear_at.ensures (λ k.
    ap (λ r. is_at_or_below c.args.tree.now (option_to_list r) k) root ∙ or-none (is_in k (subtree_at c.args.tree.now c.in-Some.root)))

pub returns-in_default : goal.returns-in_default
returns-in_default c =
    let root = sym c.root.ensures.value ∙ c.in_default.is in
    clears_none c.args.tree.now (is_at_or_below c.args.tree.now (option_to_list c.args.tree.now.root)) (λ k. ap (λ r. is_at_or_below c.args.tree.now (option_to_list r) k) root)
