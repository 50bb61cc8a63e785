use Rattle.std.proofs.Common.{◌≡◌, ℕ, ◌+◌, ◌<◌, ◌≤◌, ◌++◌, rules, length, length-set, map, take, drop, get_or, set, refl, sym, ap, ◌∙◌, subst, arith}
use Rattle.std.proofs.lemmas.List.{take_all, take_more_set, with_items_is}
use Rattle.std.proofs.lemmas.List.Elements.{All-set}
use Rattle.std.proofs.lemmas.Result.{err_from_is_err_and}
use Rattle.std.proofs.Math.Seq.{map-set_same}
use denote.Param.Weighed.{at_most}
use Rattle.plain_tree.specs.declared.nodes.Node.TheDeep.{size-Node}
use Rattle.fx_expr.specs.Value.{type_of}
use Rattle.widget_model.specs.declared.widgets.Widget.{Widget}
use Rattle.widget_model.specs.View.{plain_of, look_in}
use Rattle.plain_tree.specs.PlainNode.{node, nodes_of, widget_of}
use Rattle.build_form.specs.BuildRole.{lists, build_role_of}
use Rattle.build_form.specs.Step.{gives}
use Rattle.build_form.specs.FullBuild.{filled}
use Rattle.build_form.specs.FaultView.{fault_of}
use Rattle.plain_build.specs.WalkView.{progress_of}
use Rattle.plain_build.specs.BasisView.{basis_of, declared_by}
use Rattle.plain_build.specs.RangesView.{ranges_of}
use Rattle.build_form.specs.WellBuilt.{IsWellBuilt}
use Rattle.build_form.proofs.Eaching.{each_more, each_stops, each_starts, each_ends}
use Rattle.build_form.proofs.Outcomes.{some_map}
use Rattle.build_form.proofs.Entered.{all_built}
use Rattle.build_form.proofs.Filled.{not_lists, lazy_gives, lazy_stops, lazy_built, others_give, others_stop, other_built, all_given, all_stopped, all_of, still, same_length, filled_more, unvisited}
use Rattle.plain_build.proofs.filling.+filling.Goals as goal

pub fill_all-loop-i-init : goal.fill_all-loop-i-init
fill_all-loop-i-init g t c = (
  (refl, λ k d h. refl),
  record {
    steps = each_starts (filled (basis_of c.args.from.now) (ranges_of c.args.ranges.now) c.args.left c.args.values.now) c.args.nodes.now (progress_of c.args.walk.now);
    others = refl;
    values_same = refl;
    waiting = c.requires.waiting;
    built = all_of (declared_by c.args.from.now) c.args.nodes.now c.requires.nodes;
    widgets_same = refl;
  },
)

pub fill_all-returns-in_err-fill-clause-fault : goal.fill_all-returns-in_err-fill-clause-fault
fill_all-returns-in_err-fill-clause-fault g t c =
    let p = err_from_is_err_and c.from_residual.result c.from_residual.ensures.1 in
    let go = filled (basis_of c.args.from.now) (ranges_of c.args.ranges.now) c.args.left in
    let old = c.args.nodes.now in
    let nodes = c.loop-i.nodes in
    let i = c.loop-i.i in
    let item = c.index-nodes-i.result in
    let len = same_length nodes old c.loop-i.invariant.1.widgets_same in
    let low : i < length nodes = omega (arith, len, c.loop-i-test.true) in
    let also : i < length old = omega (arith, len, c.loop-i-test.true) in
    let at : item ≡ get_or old i item = c.index-nodes-i.is ∙ still nodes old i item c.loop-i.invariant.1.others low also in
    rw (p.1, p.2) (some_map _ _ (fault_of c.in_err-fill.field-0.0)
    (λ f h. all_stopped (basis_of c.args.from.now) (ranges_of c.args.ranges.now) c.args.left c.args.values.now old (progress_of c.args.walk.now) f
    (each_stops (go c.args.values.now) old i item (take i nodes) (progress_of c.loop-i.walk) f _ also at
    (ap (λ vs. go vs item (progress_of c.loop-i.walk)) (sym c.loop-i.invariant.1.values_same) ∙ ap (λ n. go c.loop-i.values n (progress_of c.loop-i.walk)) c.index-nodes-i.is ∙ h) c.loop-i.invariant.1.steps))
    c.in_err-fill.ensures.fault)

pub fill_all-loop-i-preserved : goal.fill_all-loop-i-preserved
fill_all-loop-i-preserved g t c =
    let go = filled (basis_of c.args.from.now) (ranges_of c.args.ranges.now) c.args.left in
    let old = c.args.nodes.now in
    let nodes = c.loop-i.nodes in
    let i = c.loop-i.i in
    let item = c.index-nodes-i.result in
    let x = c.fill.new.node in
    let len = same_length nodes old c.loop-i.invariant.1.widgets_same in
    let low : i < length nodes = omega (arith, len, c.loop-i-test.true) in
    let also : i < length old = omega (arith, len, c.loop-i-test.true) in
    let at : item ≡ get_or old i item = c.index-nodes-i.is ∙ still nodes old i item c.loop-i.invariant.1.others low also in
    let left = filled_more nodes old (set nodes i x) i x refl c.loop-i.invariant.1.others in (
      (length-set nodes i x ∙ len, unvisited (set nodes i x) old (i + 1) left),
      record {
        steps = each_more (go c.args.values.now) old i item x (take i nodes) (take (i + 1) (set nodes i x)) (progress_of c.loop-i.walk) (progress_of c.fill.new.walk) _ also at
            (ap (λ vs. go vs item (progress_of c.loop-i.walk)) (sym c.loop-i.invariant.1.values_same) ∙ ap (λ n. go c.loop-i.values n (progress_of c.loop-i.walk)) c.index-nodes-i.is ∙ c.in_ok-fill.ensures.ok) (take_more_set nodes i x low) c.loop-i.invariant.1.steps;
        others = left;
        values_same = c.in_ok-fill.ensures.values ∙ c.loop-i.invariant.1.values_same;
        waiting = c.in_ok-fill.ensures.waiting;
        built = All-set (IsWellBuilt (declared_by c.args.from.now)) nodes i x c.in_ok-fill.ensures.built c.loop-i.invariant.1.built;
        widgets_same = map-set_same widget_of nodes i x item c.in_ok-fill.ensures.widget ∙ c.loop-i.invariant.1.widgets_same;
      },
    )

pub fill_all-returns-clause-ok : goal.fill_all-returns-clause-ok
fill_all-returns-clause-ok g t c =
    let go = filled (basis_of c.args.from.now) (ranges_of c.args.ranges.now) c.args.left c.args.values.now in
    let old = c.args.nodes.now in
    let nodes = c.loop-i.nodes in
    let i = c.loop-i.i in
    let len = same_length nodes old c.loop-i.invariant.1.widgets_same in
    let past : length old ≤ i = omega (arith, len, c.loop-i-test.false) in
    let all : length nodes ≤ i = omega (arith, len, c.loop-i-test.false) in
    all_given (basis_of c.args.from.now) (ranges_of c.args.ranges.now) c.args.left c.args.values.now old nodes (progress_of c.args.walk.now) (progress_of c.loop-i.walk)
    (each_ends go old i (take i nodes) (progress_of c.loop-i.walk) _ past c.loop-i.invariant.1.steps
    ∙ ap (λ ns. gives ns (progress_of c.loop-i.walk)) (take_all i nodes all))

pub fill_all-returns-clause-built : goal.fill_all-returns-clause-built
fill_all-returns-clause-built g t c = all_built (declared_by c.args.from.now) c.loop-i.nodes c.loop-i.invariant.1.built

pub fill_all-fill-requires : goal.fill_all-fill-requires
fill_all-fill-requires g t c κs within =
    let D = declared_by c.args.from.now in
    let nodes = c.loop-i.nodes in
    let i = c.loop-i.i in
    let item = c.index-nodes-i.result in
    let len = same_length nodes c.args.nodes.now c.loop-i.invariant.1.widgets_same in
    let low : i < length nodes = omega (arith, len, c.loop-i-test.true) in
    let at : get_or nodes i item ≡ get_or c.args.nodes.now i item = still nodes c.args.nodes.now i item c.loop-i.invariant.1.others low c.loop-i-test.true in
    let vs : map type_of c.loop-i.values ≡ D.inherited = ap (map type_of) c.loop-i.invariant.1.values_same ∙ c.requires.values in
    let least = at_most size-Node c.args.nodes.now i item c.loop-i-test.true in
    let same_size : size-Node (get_or nodes i item) ≡ size-Node (get_or c.args.nodes.now i item) = ap size-Node at in
    (omega (arith, same_size, least, c.decreases), (search (rules, within), (c.requires.holders, (vs, (c.loop-i.invariant.1.waiting, c.loop-i.invariant.1.built i item low)))))

pub fill-returns-in_err-children-clause-fault : goal.fill-returns-in_err-children-clause-fault
fill-returns-in_err-children-clause-fault g t c =
    let p = err_from_is_err_and c.from_residual.result c.from_residual.ensures.1 in
    let i = c.node.inside in
    let is : build_role_of (look_in i.widget.value.kind) ≡ lists c.in-Lists.extent = ap (λ (x : Widget). build_role_of (look_in x.kind)) (sym c.deref.ensures) ∙ sym c.in-Lists.ensures.part in
    rw (p.1, p.2) (some_map _ _ (fault_of c.in_err-children.field-0.0)
    (λ f h. lazy_stops (basis_of c.args.from.now) (ranges_of c.args.ranges.now) c.args.left c.saturating_sub-below.result c.args.values.now c.args.node.now i.number i.widget.value c.deref-in-Lists.result.now i.fields i.scroll i.index (nodes_of i.children.items)
    (progress_of c.args.walk.now) c.node.view_is c.saturating_sub-below.ensures c.deref-in-Lists.ensures c.in-Lists.extent is f h)
    c.in_err-children.ensures.fault)

pub fill-returns-in-Lists-clause-ok : goal.fill-returns-in-Lists-clause-ok
fill-returns-in-Lists-clause-ok g t c =
    let i = c.node.inside in
    let is : build_role_of (look_in i.widget.value.kind) ≡ lists c.in-Lists.extent = ap (λ (x : Widget). build_role_of (look_in x.kind)) (sym c.deref.ensures) ∙ sym c.in-Lists.ensures.part in
    lazy_gives (basis_of c.args.from.now) (ranges_of c.args.ranges.now) c.args.left c.saturating_sub-below.result c.args.values.now c.args.node.now i.number i.widget.value c.deref-in-Lists.result.now i.fields i.scroll i.index (nodes_of i.children.items)
    (progress_of c.args.walk.now) c.node.view_is c.saturating_sub-below.ensures c.deref-in-Lists.ensures c.in-Lists.extent is (nodes_of c.in_ok-children.children.items) (progress_of c.enter_items.new.walk) c.in_ok-children.ensures.ok

pub fill-returns-in-Lists-clause-built : goal.fill-returns-in-Lists-clause-built
fill-returns-in-Lists-clause-built g t c =
    let D = declared_by c.args.from.now in
    let i = c.node.inside in
    let is : build_role_of (look_in i.widget.value.kind) ≡ lists c.in-Lists.extent = ap (λ (x : Widget). build_role_of (look_in x.kind)) (sym c.deref.ensures) ∙ sym c.in-Lists.ensures.part in
    lazy_built D i.number (plain_of i.widget.value) i.fields i.scroll i.index (nodes_of i.children.items) (subst (IsWellBuilt D) (sym c.node.view_is) c.requires.node)
    c.in-Lists.extent c.in_ok-children.children.items is c.in_ok-children.ensures.built c.in_ok-children.ensures.boxes

pub fill-returns-in_err-fill_all-clause-fault : goal.fill-returns-in_err-fill_all-clause-fault
fill-returns-in_err-fill_all-clause-fault g t c =
    let p = err_from_is_err_and c.from_residual-in_err-fill_all.result c.from_residual-in_err-fill_all.ensures.1 in
    let i = c.node.inside in
    let not = λ (e : ℕ) (is : build_role_of (look_in i.widget.value.kind) ≡ lists e).
    not_lists c.build_role_of.result c.in_default.not-Lists e (c.build_role_of.ensures.part ∙ ap (λ (x : Widget). build_role_of (look_in x.kind)) c.deref.ensures ∙ is) in
    rw (p.1, p.2) (some_map _ _ (fault_of c.in_err-fill_all.field-0.0)
    (λ f h. others_stop (basis_of c.args.from.now) (ranges_of c.args.ranges.now) c.args.left c.saturating_sub-below.result c.args.values.now c.args.node.now i.number i.widget.value c.deref-2.result.now i.fields i.scroll i.index (nodes_of i.children.items)
    (progress_of c.args.walk.now) c.node.view_is c.saturating_sub-below.ensures c.deref-2.ensures not c.provide_below.new.values c.in_ok-outer.ensures.below c.as_mut_slice.result.now (ap nodes_of (sym c.as_mut_slice.ensures.value)) f h)
    c.in_err-fill_all.ensures.fault)

pub fill-returns-clause-ok : goal.fill-returns-clause-ok
fill-returns-clause-ok g t c =
    let i = c.node.inside in
    let not = λ (e : ℕ) (is : build_role_of (look_in i.widget.value.kind) ≡ lists e).
    not_lists c.build_role_of.result c.in_default.not-Lists e (c.build_role_of.ensures.part ∙ ap (λ (x : Widget). build_role_of (look_in x.kind)) c.deref.ensures ∙ is) in
    let len : length c.as_mut_slice.result.now ≡ length i.children.items = ap length c.as_mut_slice.ensures.value in
    let same : take i.children.len (c.fill_all.new.nodes ++ drop (length c.fill_all.new.nodes) i.children.items) ≡ c.fill_all.new.nodes =
    with_items_is i.children c.fill_all.new.nodes (omega (arith, len, c.fill_all.auto.nodes, i.children.ok.0)) in
    others_give (basis_of c.args.from.now) (ranges_of c.args.ranges.now) c.args.left c.saturating_sub-below.result c.args.values.now c.args.node.now i.number i.widget.value c.deref-2.result.now i.fields i.scroll i.index (nodes_of i.children.items)
    (progress_of c.args.walk.now) c.node.view_is c.saturating_sub-below.ensures c.deref-2.ensures not c.provide_below.new.values c.in_ok-outer.ensures.below c.as_mut_slice.result.now (ap nodes_of (sym c.as_mut_slice.ensures.value))
    (nodes_of c.fill_all.new.nodes) (progress_of c.fill_all.new.walk) c.in_ok-fill_all.ensures.ok
    ∙ ap (λ ns. gives (node i.number (plain_of i.widget.value) i.fields i.scroll i.index (nodes_of ns)) (progress_of c.fill_all.new.walk)) (sym same)

pub fill-returns-clause-built : goal.fill-returns-clause-built
fill-returns-clause-built g t c =
    let D = declared_by c.args.from.now in
    let i = c.node.inside in
    let len : length c.as_mut_slice.result.now ≡ length i.children.items = ap length c.as_mut_slice.ensures.value in
    let same : take i.children.len (c.fill_all.new.nodes ++ drop (length c.fill_all.new.nodes) i.children.items) ≡ c.fill_all.new.nodes =
    with_items_is i.children c.fill_all.new.nodes (omega (arith, len, c.fill_all.auto.nodes, i.children.ok.0)) in
    subst (λ ns. IsWellBuilt D (node i.number (plain_of i.widget.value) i.fields i.scroll i.index (nodes_of ns))) (sym same)
    (other_built D i.number (plain_of i.widget.value) i.fields i.scroll i.index (nodes_of i.children.items) (subst (IsWellBuilt D) (sym c.node.view_is) c.requires.node)
    c.as_mut_slice.result.now c.fill_all.new.nodes (ap nodes_of (sym c.as_mut_slice.ensures.value)) c.in_ok-fill_all.ensures.widgets c.in_ok-fill_all.ensures.built)
