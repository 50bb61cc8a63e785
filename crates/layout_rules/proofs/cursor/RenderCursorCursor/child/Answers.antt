use Rattle.std.proofs.Common.{subst, ap, ◌∙◌, ◌<◌, length, rules}
use Rattle.fx_handles.specs.declared.Handle.{Handle}
use Rattle.node_tree.specs.Tree.{Tree, IsTree}
use Rattle.render_tree.specs.Object.{RenderObject}
use Rattle.render_tree.specs.Tree.{RenderTree}
use Rattle.layout_rules.specs.Places.{render_at}
use Rattle.layout_rules.proofs.Placing.{IsPlace, place_less, place_live, place_child}
use Rattle.layout_rules.proofs.cursor.RenderCursorCursor.child.Goals as goal

pub offset_bounds-children-i : goal.offset_bounds-children-i
offset_bounds-children-i c =
    let t = c.args.self.now.tree.now.tree in
    let h = c.args.self.now.at in
    let is_tree : IsTree c.args.self.now.tree.now.tree = subst (λ (x : Tree RenderObject). IsTree x) c.tree.ensures c.count_laws.ensures.tree in
    let holds = c.walk_laws.ensures.holds t h is_tree c.args.self.now.live in
    let place : IsPlace t h = record {
      live = c.args.self.now.live;
      holds = holds;
      opened = λ v e. c.child_laws.ensures.opened t h v holds e;
      listed = c.child_laws.ensures.listed t h holds;
      nth = λ i z less. c.child_laws.ensures.nth t h i z holds less;
    } in
    let less : c.args.i < length c.children-children.result.now = place_less t h c.children-children.result.now c.args.i place c.children-children.ensures.value c.requires in
    search rules

pub bounds-children-i : goal.bounds-children-i
bounds-children-i c =
    let t = c.args.self.now.tree.now.tree in
    let h = c.args.self.now.at in
    let is_tree : IsTree c.args.self.now.tree.now.tree = subst (λ (x : Tree RenderObject). IsTree x) c.tree.ensures c.count_laws.ensures.tree in
    let holds = c.walk_laws.ensures.holds t h is_tree c.args.self.now.live in
    let place : IsPlace t h = record {
      live = c.args.self.now.live;
      holds = holds;
      opened = λ v e. c.child_laws.ensures.opened t h v holds e;
      listed = c.child_laws.ensures.listed t h holds;
      nth = λ i z less. c.child_laws.ensures.nth t h i z holds less;
    } in
    place_less t h c.children-children.result.now c.args.i place c.children-children.ensures.value c.requires

pub new-requires : goal.new-requires
new-requires c =
    let t = c.args.self.now.tree.now.tree in
    let h = c.args.self.now.at in
    let is_tree : IsTree c.args.self.now.tree.now.tree = subst (λ (x : Tree RenderObject). IsTree x) c.tree.ensures c.count_laws.ensures.tree in
    let holds = c.walk_laws.ensures.holds t h is_tree c.args.self.now.live in
    let place : IsPlace t h = record {
      live = c.args.self.now.live;
      holds = holds;
      opened = λ v e. c.child_laws.ensures.opened t h v holds e;
      listed = c.child_laws.ensures.listed t h holds;
      nth = λ i z less. c.child_laws.ensures.nth t h i z holds less;
    } in
    let less : c.args.i < length c.children-children.result.now = place_less t h c.children-children.result.now c.args.i place c.children-children.ensures.value c.requires in
    place_live t h c.children-children.result.now c.args.i (record { index = 0; generation = 0 }) place c.children-children.ensures.value less

pub returns : goal.returns
returns c =
    let t = c.args.self.now.tree.now.tree in
    let h = c.args.self.now.at in
    let is_tree : IsTree c.args.self.now.tree.now.tree = subst (λ (x : Tree RenderObject). IsTree x) c.tree.ensures c.count_laws.ensures.tree in
    let holds = c.walk_laws.ensures.holds t h is_tree c.args.self.now.live in
    let place : IsPlace t h = record {
      live = c.args.self.now.live;
      holds = holds;
      opened = λ v e. c.child_laws.ensures.opened t h v holds e;
      listed = c.child_laws.ensures.listed t h holds;
      nth = λ i z less. c.child_laws.ensures.nth t h i z holds less;
    } in
    let less : c.args.i < length c.children-children.result.now = place_less t h c.children-children.result.now c.args.i place c.children-children.ensures.value c.requires in
    ap (λ (r : RenderTree). render_at r.tree c.new.result.at) c.new.ensures.tree
    ∙ ap (λ (k : Handle). render_at t k) c.new.ensures.at
    ∙ place_child t h c.children-children.result.now c.args.i (record { index = 0; generation = 0 }) (render_at c.new.result.tree.now.tree c.new.result.at) place c.children-children.ensures.value less
