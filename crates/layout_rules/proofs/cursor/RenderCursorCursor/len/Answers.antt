use Rattle.std.proofs.Common.{subst}
use Rattle.node_tree.specs.Tree.{Tree, IsTree}
use Rattle.render_tree.specs.Object.{RenderObject}
use Rattle.layout_rules.proofs.Placing.{IsPlace, place_len}
use Rattle.layout_rules.proofs.cursor.RenderCursorCursor.len.Goals as goal

pub returns : goal.returns
returns c =
    let t = c.args.self.now.tree.now.tree in
    let h = c.args.self.now.at in
    let is_tree : IsTree c.args.self.now.tree.now.tree = subst (λ (x : Tree RenderObject). IsTree x) c.tree.ensures c.count_laws.ensures.tree in
    let holds = c.walk_laws.ensures.holds t h is_tree c.args.self.now.live in
    let place : IsPlace t h = record {
      live = c.args.self.now.live;
      holds = holds;
      opened = λ v e. c.child_laws.ensures.opened t h v holds e;
      listed = c.child_laws.ensures.listed t h holds;
      nth = λ i z less. c.child_laws.ensures.nth t h i z holds less;
    } in
    place_len t h c.children.result.now place c.children.ensures.value
