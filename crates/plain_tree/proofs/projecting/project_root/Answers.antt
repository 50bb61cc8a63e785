use Rattle.std.proofs.Common.{◌≡◌, ap, sym, ◌∙◌, length, arith}
use Rattle.plain_tree.specs.Projection.{render_of}
use Rattle.plain_tree.proofs.Orders.{one_law, the_one}
use Rattle.plain_tree.proofs.projecting.project_root.Goals as goal

pub unreachable-requires : goal.unreachable-requires
unreachable-requires c =
    let one : length c.in_ok-renders.renders.items ≡ 1 = ap length c.in_ok-renders.ensures ∙ one_law c.args.root.now c.requires in
    let some = c.in-None.ensures.variant.1 (omega (arith, one)) in cc

pub returns : goal.returns
returns c =
    the_one (render_of c.args.root.now) c.pop.new.self.items c.in-Some.render (one_law c.args.root.now c.requires)
    (sym c.in_ok-renders.ensures ∙ c.in-Some.ensures.items)
