use Rattle.std.proofs.Common.{◌<◌, ◌++◌, ◌∷◌, [], length, option_map, take, sym, ap, ◌∙◌, subst}
use Rattle.std.specs.List.{All}
use Rattle.std.proofs.lemmas.List.{take_more, take_all}
use Rattle.node_tree.specs.Edits.{CanReorder}
use Rattle.widget_model.specs.View.{shared}
use Rattle.renewed_builds.specs.Renewing.{Change}
use Rattle.renewed_builds.specs.Taking.{CanOrder, OrdersAll, handles_at}
use Rattle.renewed_builds.proofs.Reordered.{once, orders_none, can_still, orders_same, orders_more}
use Rattle.renewed_builds.proofs.taking.write_orders.Goals as goal
use Rattle.renewed_builds.proofs.taking.write_orders.Goals.{in-Some+in_ok-children, in_default}

pub loop-change-init : goal.loop-change-init
loop-change-init c = orders_none c.args.t.now.tree (c.order_laws.ensures.begin c.args.t.now.tree)

pub handles_at-requires : goal.handles_at-requires
handles_at-requires c =
    let cs = c.args.changes.now in
    let i = c.loop-change.change-index in
    let y = c.change.inside in
    let x : Change = record { element = y.element; at = y.at; widget = shared y.widget; order = option_map (λ v. v.items) y.order } in
    let is_x = c.change.view_is ∙ c.change-item.is in
    let can = subst (CanOrder c.args.t.now.tree) (sym is_x) (c.requires.orders i c.change-item.result c.loop-change-test.true) in
    let more = take_more cs i c.change-item.result c.loop-change-test.true ∙ ap (λ z. take i cs ++ z ∷ []) (sym is_x) in
    let quiet = once cs i x c.requires.differ c.loop-change-test.true more in
    let still = can_still (take i cs) x c.args.t.now.tree c.loop-change.t.tree c.loop-change.invariant quiet c.in-Some.places.items (ap (option_map (λ v. v.items)) c.in-Some.is) can in
    subst (λ js. All (λ j. j < length c.children.result.now) js) (sym c.as_slice.ensures.value) (subst (λ hs. All (λ j. j < length hs) c.in-Some.places.items) (sym c.children.ensures.value) still.0)

pub reorder-requires : goal.reorder-requires
reorder-requires c =
    let cs = c.args.changes.now in
    let i = c.loop-change.change-index in
    let y = c.change.inside in
    let x : Change = record { element = y.element; at = y.at; widget = shared y.widget; order = option_map (λ v. v.items) y.order } in
    let is_x = c.change.view_is ∙ c.change-item.is in
    let can = subst (CanOrder c.args.t.now.tree) (sym is_x) (c.requires.orders i c.change-item.result c.loop-change-test.true) in
    let more = take_more cs i c.change-item.result c.loop-change-test.true ∙ ap (λ z. take i cs ++ z ∷ []) (sym is_x) in
    let quiet = once cs i x c.requires.differ c.loop-change-test.true more in
    let still = can_still (take i cs) x c.args.t.now.tree c.loop-change.t.tree c.loop-change.invariant quiet c.in-Some.places.items (ap (option_map (λ v. v.items)) c.in-Some.is) can in
    subst (CanReorder c.loop-change.t.tree x.element) (sym (c.in_ok-children.ensures ∙ (λ k. handles_at (c.children.ensures.value k) (c.as_slice.ensures.value k)))) still.1

pub loop-change-preserved : goal.loop-change-preserved
loop-change-preserved c =
    let cs = c.args.changes.now in
    let i = c.loop-change.change-index in
    let a = c.args.t.now.tree in
    let b = c.loop-change.t.tree in
    let y = c.change.inside in
    let x : Change = record { element = y.element; at = y.at; widget = shared y.widget; order = option_map (λ v. v.items) y.order } in
    let is_x = c.change.view_is ∙ c.change-item.is in
    let more = take_more cs i c.change-item.result c.loop-change-test.true ∙ ap (λ z. take i cs ++ z ∷ []) (sym is_x) in
    let quiet = once cs i x c.requires.differ c.loop-change-test.true more in
    subst (λ l. OrdersAll l a c.match-change.t.tree) (sym more)
    (elim c.match-change.branch [
      | in-Some+in_ok-children w ↦
          let u = w.reorder.new.self.tree in
          let hands = w.in_ok-children.ensures ∙ (λ k. handles_at (w.children.ensures.value k) (w.as_slice.ensures.value k)) in
          let keeps = c.edit_laws.ensures.reorders b u x.element w.in_ok-children.children.items w.reorder.ensures.reorders in
          subst (λ t. OrdersAll (take i cs ++ x ∷ []) a t.tree) (sym w.t-is)
          (orders_more (take i cs) x a b c.loop-change.invariant quiet w.in-Some.places.items (ap (option_map (λ v. v.items)) w.in-Some.is) w.in_ok-children.children.items hands u
          (c.order_laws.ensures.more a b u _ x.element w.in_ok-children.children.items) w.reorder.ensures.reorders w.reorder.ensures.root w.reorder.ensures.inactive
          (λ k. c.edits_keep_numbers.ensures.kept b u k keeps) (λ r named. c.edits_keep_names.ensures.kept r b u keeps named))
      | in_default w ↦
          subst (λ t. OrdersAll (take i cs ++ x ∷ []) a t.tree) (sym w.t-is)
          (orders_same (take i cs) x a b c.loop-change.invariant quiet (ap (option_map (λ v. v.items)) w.in_default.is))
    ])

pub returns : goal.returns
returns c = subst (λ cs. OrdersAll cs c.args.t.now.tree c.loop-change.t.tree) (take_all c.loop-change.change-index c.args.changes.now c.loop-change-test.false) c.loop-change.invariant
