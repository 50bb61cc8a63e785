use Rattle.std.proofs.Common.{◌≡◌, Some, true, false, sym, ap, ◌∙◌, subst}
use Rattle.fx_handles.specs.declared.Handle.{Handle}
use Rattle.fx_geom.specs.declared.scales.Scale.{Scale}
use Rattle.delegates.specs.Table.{meant_in}
use Rattle.node_tree.specs.Tree.{IsNode, Holds, subtree_at}
use Rattle.node_tree.specs.Forest.{In}
use Rattle.render_tree.specs.Plain.{root_below}
use Rattle.kept_layers.specs.KeptLayers.{IsMarked}
use Rattle.paint_owner.specs.PaintOwner.{PaintOwner}
use Rattle.paint_owner.specs.contracts.owner.PaintOwner.{the_view}
use Rattle.paint_owner.proofs.Flushing.{Flushes, quiet_steps, spent_is, spend, both_cleared, marks_hold, marks_calm, flush_layer, flush_kept_at, flush_calm, flush_beside, flush_settles, flush_paints}
use Rattle.paint_owner.proofs.owner.PaintOwner.flush.Goals as goal

pub returns-then-not-is_due-clause-layer : goal.returns-then-not-is_due-clause-layer
returns-then-not-is_due-clause-layer g c =
    let t = c.args.tree.now.tree in
    let r = c.in-Some.root in
    let is_root : t.root ≡ Some r = sym c.in-Some.ensures.value in
    let holds : Holds t r = c.in-Some.ensures.holds in
    let live : (k : Handle) → In k (subtree_at t r) → IsNode t k = λ k is. c.keep_laws.ensures.live t _ (subtree_at t r) k holds.stands is in
    let ready : c.args.self.now.spent ≡ false = ap (λ (o : PaintOwner). o.spent) (sym c.self.view_is) ∙ c.if-self.false in
    let keeps = c.requires.kept ready in
    let cell = c.args.tree.now.scale.cell in
    let ds = meant_in c.args.table.now (λ v. (g.dyn-1.0.entry v).1) in
    let steps : Flushes cell ds t t c.args.self.now c.args.self.now c.args.paints.now c.args.paints.now (subtree_at t r) =
    quiet_steps cell ds t r is_root holds (λ o is. c.child_laws.ensures.opened t r o holds is) (sym c.is_due.ensures ∙ c.if-not-is_due.true) keeps.marks c.args.self.now c.args.paints.now in
    flush_layer cell ds t t r is_root holds live c.args.self.now c.args.self.now c.args.paints.now c.args.paints.now c.requires.shown keeps steps

pub returns-then-not-is_due-clause-calm : goal.returns-then-not-is_due-clause-calm
returns-then-not-is_due-clause-calm g c =
    let t = c.args.tree.now.tree in
    let r = c.in-Some.root in
    let is_root : t.root ≡ Some r = sym c.in-Some.ensures.value in
    let holds : Holds t r = c.in-Some.ensures.holds in
    let live : (k : Handle) → In k (subtree_at t r) → IsNode t k = λ k is. c.keep_laws.ensures.live t _ (subtree_at t r) k holds.stands is in
    let ready : c.args.self.now.spent ≡ false = ap (λ (o : PaintOwner). o.spent) (sym c.self.view_is) ∙ c.if-self.false in
    let keeps = c.requires.kept ready in
    let cell = c.args.tree.now.scale.cell in
    let ds = meant_in c.args.table.now (λ v. (g.dyn-1.0.entry v).1) in
    let steps : Flushes cell ds t t c.args.self.now c.args.self.now c.args.paints.now c.args.paints.now (subtree_at t r) =
    quiet_steps cell ds t r is_root holds (λ o is. c.child_laws.ensures.opened t r o holds is) (sym c.is_due.ensures ∙ c.if-not-is_due.true) keeps.marks c.args.self.now c.args.paints.now in
    flush_calm cell ds t t r is_root holds live c.args.self.now c.args.self.now c.args.paints.now c.args.paints.now c.requires.shown keeps steps

pub returns-then-not-is_due-clause-settles : goal.returns-then-not-is_due-clause-settles
returns-then-not-is_due-clause-settles g c =
    let t = c.args.tree.now.tree in
    let r = c.in-Some.root in
    let is_root : t.root ≡ Some r = sym c.in-Some.ensures.value in
    let holds : Holds t r = c.in-Some.ensures.holds in
    let live : (k : Handle) → In k (subtree_at t r) → IsNode t k = λ k is. c.keep_laws.ensures.live t _ (subtree_at t r) k holds.stands is in
    let ready : c.args.self.now.spent ≡ false = ap (λ (o : PaintOwner). o.spent) (sym c.self.view_is) ∙ c.if-self.false in
    let keeps = c.requires.kept ready in
    let cell = c.args.tree.now.scale.cell in
    let ds = meant_in c.args.table.now (λ v. (g.dyn-1.0.entry v).1) in
    let steps : Flushes cell ds t t c.args.self.now c.args.self.now c.args.paints.now c.args.paints.now (subtree_at t r) =
    quiet_steps cell ds t r is_root holds (λ o is. c.child_laws.ensures.opened t r o holds is) (sym c.is_due.ensures ∙ c.if-not-is_due.true) keeps.marks c.args.self.now c.args.paints.now in
    flush_settles cell ds t t r is_root holds live c.args.self.now c.args.self.now c.args.paints.now c.args.paints.now c.requires.shown keeps steps

pub returns-then-not-is_due-clause-paints : goal.returns-then-not-is_due-clause-paints
returns-then-not-is_due-clause-paints g c =
    let t = c.args.tree.now.tree in
    let r = c.in-Some.root in
    let is_root : t.root ≡ Some r = sym c.in-Some.ensures.value in
    let holds : Holds t r = c.in-Some.ensures.holds in
    let live : (k : Handle) → In k (subtree_at t r) → IsNode t k = λ k is. c.keep_laws.ensures.live t _ (subtree_at t r) k holds.stands is in
    let ready : c.args.self.now.spent ≡ false = ap (λ (o : PaintOwner). o.spent) (sym c.self.view_is) ∙ c.if-self.false in
    let keeps = c.requires.kept ready in
    let cell = c.args.tree.now.scale.cell in
    let ds = meant_in c.args.table.now (λ v. (g.dyn-1.0.entry v).1) in
    let steps : Flushes cell ds t t c.args.self.now c.args.self.now c.args.paints.now c.args.paints.now (subtree_at t r) =
    quiet_steps cell ds t r is_root holds (λ o is. c.child_laws.ensures.opened t r o holds is) (sym c.is_due.ensures ∙ c.if-not-is_due.true) keeps.marks c.args.self.now c.args.paints.now in
    flush_paints cell ds t t r is_root holds live c.args.self.now c.args.self.now c.args.paints.now c.args.paints.now c.requires.shown keeps steps

pub clear_marks-requires-clause-holds : goal.clear_marks-requires-clause-holds
clear_marks-requires-clause-holds g c =
    let t = c.args.tree.now.tree in
    let r = c.in-Some.root in
    let is_root : t.root ≡ Some r = sym c.in-Some.ensures.value in
    let holds : Holds t r = c.in-Some.ensures.holds in
    let live : (k : Handle) → In k (subtree_at t r) → IsNode t k = λ k is. c.keep_laws.ensures.live t _ (subtree_at t r) k holds.stands is in
    let hold : (k : Handle) → IsNode t k → Holds t k = λ k lives. c.walk_laws.ensures.holds t k c.root.ensures.tree lives in
    marks_hold t c.clear_flags.new.tree.tree r holds hold live c.as_slice.result.now c.as_slice-2.result.now (c.as_slice.ensures.value ∙ c.in_ok-found.ensures.flagged) (c.as_slice-2.ensures.value ∙ c.in_ok-found.ensures.quiet) c.clear_flags.ensures.values

pub clear_marks-requires-clause-calm : goal.clear_marks-requires-clause-calm
clear_marks-requires-clause-calm g c =
    let t = c.args.tree.now.tree in
    let r = c.in-Some.root in
    let is_root : t.root ≡ Some r = sym c.in-Some.ensures.value in
    let holds : Holds t r = c.in-Some.ensures.holds in
    let live : (k : Handle) → In k (subtree_at t r) → IsNode t k = λ k is. c.keep_laws.ensures.live t _ (subtree_at t r) k holds.stands is in
    let ready : c.args.self.now.spent ≡ false = ap (λ (o : PaintOwner). o.spent) (sym c.self.view_is) ∙ c.if-self.false in
    let keeps = c.requires.kept ready in
    let hold : (k : Handle) → IsNode t k → Holds t k = λ k lives. c.walk_laws.ensures.holds t k c.root.ensures.tree lives in
    marks_calm t c.clear_flags.new.tree.tree r holds hold live c.as_slice.result.now c.as_slice-2.result.now (c.as_slice.ensures.value ∙ c.in_ok-found.ensures.flagged) (c.as_slice-2.ensures.value ∙ c.in_ok-found.ensures.quiet) c.clear_flags.ensures.values (subst IsMarked (ap (root_below t) is_root) keeps.marks)

pub returns-clause-layer : goal.returns-clause-layer
returns-clause-layer g c =
    let t = c.args.tree.now.tree in
    let r = c.in-Some.root in
    let is_root : t.root ≡ Some r = sym c.in-Some.ensures.value in
    let holds : Holds t r = c.in-Some.ensures.holds in
    let live : (k : Handle) → In k (subtree_at t r) → IsNode t k = λ k is. c.keep_laws.ensures.live t _ (subtree_at t r) k holds.stands is in
    let ready : c.args.self.now.spent ≡ false = ap (λ (o : PaintOwner). o.spent) (sym c.self.view_is) ∙ c.if-self.false in
    let keeps = c.requires.kept ready in
    let cell = c.args.tree.now.scale.cell in
    let ds = meant_in c.args.table.now (λ v. (g.dyn-1.0.entry v).1) in
    let t2 = c.clear_marks.new.tree.tree in
    let raw : Flushes cell ds t t2 (spent_is true (the_view c.self.inside)) c.paint_due.new.self c.args.paints.now c.paint_due.new.paints (subtree_at t r) = record {
      kept = c.in_ok-found.ensures.kept;
      top = c.in_ok-found.ensures.top;
      root = c.in_ok-found.ensures.root;
      tree = both_cleared t c.clear_flags.new.tree.tree t2 c.as_slice.result.now c.as_slice-2.result.now _ _
          (c.as_slice.ensures.value ∙ c.in_ok-found.ensures.flagged) (c.as_slice-2.ensures.value ∙ c.in_ok-found.ensures.quiet)
          (record { values = c.clear_flags.ensures.values; root = c.clear_flags.ensures.root; inactive = c.clear_flags.ensures.inactive; handles = c.clear_flags.ensures.handles })
          (record { values = c.clear_marks.ensures.values; root = c.clear_marks.ensures.root; inactive = c.clear_marks.ensures.inactive; handles = c.clear_marks.ensures.handles });
      paints = c.in_ok-found.ensures.paints;
    } in
    let new : PaintOwner = spent_is false (the_view c.self-2.inside) in
    let steps : Flushes cell ds t t2 c.args.self.now new c.args.paints.now c.paint_due.new.paints (subtree_at t r) =
    subst (λ o. Flushes cell ds t t2 o new c.args.paints.now c.paint_due.new.paints (subtree_at t r)) c.self.view_is
    (subst (λ n. Flushes cell ds t t2 (the_view c.self.inside) (spent_is false n) c.args.paints.now c.paint_due.new.paints (subtree_at t r)) (sym c.self-2.view_is)
    (spend cell ds t t2 (the_view c.self.inside) c.paint_due.new.self c.args.paints.now c.paint_due.new.paints (subtree_at t r) raw)) in
    flush_layer cell ds t t2 r is_root holds live c.args.self.now new c.args.paints.now c.paint_due.new.paints c.requires.shown keeps steps

pub returns-clause-kept : goal.returns-clause-kept
returns-clause-kept g c =
    let t = c.args.tree.now.tree in
    let r = c.in-Some.root in
    let is_root : t.root ≡ Some r = sym c.in-Some.ensures.value in
    let holds : Holds t r = c.in-Some.ensures.holds in
    let live : (k : Handle) → In k (subtree_at t r) → IsNode t k = λ k is. c.keep_laws.ensures.live t _ (subtree_at t r) k holds.stands is in
    let ready : c.args.self.now.spent ≡ false = ap (λ (o : PaintOwner). o.spent) (sym c.self.view_is) ∙ c.if-self.false in
    let keeps = c.requires.kept ready in
    let cell = c.args.tree.now.scale.cell in
    let ds = meant_in c.args.table.now (λ v. (g.dyn-1.0.entry v).1) in
    let t2 = c.clear_marks.new.tree.tree in
    let raw : Flushes cell ds t t2 (spent_is true (the_view c.self.inside)) c.paint_due.new.self c.args.paints.now c.paint_due.new.paints (subtree_at t r) = record {
      kept = c.in_ok-found.ensures.kept;
      top = c.in_ok-found.ensures.top;
      root = c.in_ok-found.ensures.root;
      tree = both_cleared t c.clear_flags.new.tree.tree t2 c.as_slice.result.now c.as_slice-2.result.now _ _
          (c.as_slice.ensures.value ∙ c.in_ok-found.ensures.flagged) (c.as_slice-2.ensures.value ∙ c.in_ok-found.ensures.quiet)
          (record { values = c.clear_flags.ensures.values; root = c.clear_flags.ensures.root; inactive = c.clear_flags.ensures.inactive; handles = c.clear_flags.ensures.handles })
          (record { values = c.clear_marks.ensures.values; root = c.clear_marks.ensures.root; inactive = c.clear_marks.ensures.inactive; handles = c.clear_marks.ensures.handles });
      paints = c.in_ok-found.ensures.paints;
    } in
    let new : PaintOwner = spent_is false (the_view c.self-2.inside) in
    let steps : Flushes cell ds t t2 c.args.self.now new c.args.paints.now c.paint_due.new.paints (subtree_at t r) =
    subst (λ o. Flushes cell ds t t2 o new c.args.paints.now c.paint_due.new.paints (subtree_at t r)) c.self.view_is
    (subst (λ n. Flushes cell ds t t2 (the_view c.self.inside) (spent_is false n) c.args.paints.now c.paint_due.new.paints (subtree_at t r)) (sym c.self-2.view_is)
    (spend cell ds t t2 (the_view c.self.inside) c.paint_due.new.self c.args.paints.now c.paint_due.new.paints (subtree_at t r) raw)) in
    flush_kept_at cell ds t t2 r is_root holds live c.args.self.now new c.args.paints.now c.paint_due.new.paints c.requires.shown keeps steps c.clear_marks.new.tree.scale.cell (ap (λ (s : Scale). s.cell) (c.clear_marks.ensures.scale ∙ c.clear_flags.ensures.scale))

pub returns-clause-calm : goal.returns-clause-calm
returns-clause-calm g c =
    let t = c.args.tree.now.tree in
    let r = c.in-Some.root in
    let is_root : t.root ≡ Some r = sym c.in-Some.ensures.value in
    let holds : Holds t r = c.in-Some.ensures.holds in
    let live : (k : Handle) → In k (subtree_at t r) → IsNode t k = λ k is. c.keep_laws.ensures.live t _ (subtree_at t r) k holds.stands is in
    let ready : c.args.self.now.spent ≡ false = ap (λ (o : PaintOwner). o.spent) (sym c.self.view_is) ∙ c.if-self.false in
    let keeps = c.requires.kept ready in
    let cell = c.args.tree.now.scale.cell in
    let ds = meant_in c.args.table.now (λ v. (g.dyn-1.0.entry v).1) in
    let t2 = c.clear_marks.new.tree.tree in
    let raw : Flushes cell ds t t2 (spent_is true (the_view c.self.inside)) c.paint_due.new.self c.args.paints.now c.paint_due.new.paints (subtree_at t r) = record {
      kept = c.in_ok-found.ensures.kept;
      top = c.in_ok-found.ensures.top;
      root = c.in_ok-found.ensures.root;
      tree = both_cleared t c.clear_flags.new.tree.tree t2 c.as_slice.result.now c.as_slice-2.result.now _ _
          (c.as_slice.ensures.value ∙ c.in_ok-found.ensures.flagged) (c.as_slice-2.ensures.value ∙ c.in_ok-found.ensures.quiet)
          (record { values = c.clear_flags.ensures.values; root = c.clear_flags.ensures.root; inactive = c.clear_flags.ensures.inactive; handles = c.clear_flags.ensures.handles })
          (record { values = c.clear_marks.ensures.values; root = c.clear_marks.ensures.root; inactive = c.clear_marks.ensures.inactive; handles = c.clear_marks.ensures.handles });
      paints = c.in_ok-found.ensures.paints;
    } in
    let new : PaintOwner = spent_is false (the_view c.self-2.inside) in
    let steps : Flushes cell ds t t2 c.args.self.now new c.args.paints.now c.paint_due.new.paints (subtree_at t r) =
    subst (λ o. Flushes cell ds t t2 o new c.args.paints.now c.paint_due.new.paints (subtree_at t r)) c.self.view_is
    (subst (λ n. Flushes cell ds t t2 (the_view c.self.inside) (spent_is false n) c.args.paints.now c.paint_due.new.paints (subtree_at t r)) (sym c.self-2.view_is)
    (spend cell ds t t2 (the_view c.self.inside) c.paint_due.new.self c.args.paints.now c.paint_due.new.paints (subtree_at t r) raw)) in
    flush_calm cell ds t t2 r is_root holds live c.args.self.now new c.args.paints.now c.paint_due.new.paints c.requires.shown keeps steps

pub returns-clause-beside : goal.returns-clause-beside
returns-clause-beside g c =
    let t = c.args.tree.now.tree in
    let r = c.in-Some.root in
    let is_root : t.root ≡ Some r = sym c.in-Some.ensures.value in
    let holds : Holds t r = c.in-Some.ensures.holds in
    let live : (k : Handle) → In k (subtree_at t r) → IsNode t k = λ k is. c.keep_laws.ensures.live t _ (subtree_at t r) k holds.stands is in
    let ready : c.args.self.now.spent ≡ false = ap (λ (o : PaintOwner). o.spent) (sym c.self.view_is) ∙ c.if-self.false in
    let keeps = c.requires.kept ready in
    let cell = c.args.tree.now.scale.cell in
    let ds = meant_in c.args.table.now (λ v. (g.dyn-1.0.entry v).1) in
    let t2 = c.clear_marks.new.tree.tree in
    let raw : Flushes cell ds t t2 (spent_is true (the_view c.self.inside)) c.paint_due.new.self c.args.paints.now c.paint_due.new.paints (subtree_at t r) = record {
      kept = c.in_ok-found.ensures.kept;
      top = c.in_ok-found.ensures.top;
      root = c.in_ok-found.ensures.root;
      tree = both_cleared t c.clear_flags.new.tree.tree t2 c.as_slice.result.now c.as_slice-2.result.now _ _
          (c.as_slice.ensures.value ∙ c.in_ok-found.ensures.flagged) (c.as_slice-2.ensures.value ∙ c.in_ok-found.ensures.quiet)
          (record { values = c.clear_flags.ensures.values; root = c.clear_flags.ensures.root; inactive = c.clear_flags.ensures.inactive; handles = c.clear_flags.ensures.handles })
          (record { values = c.clear_marks.ensures.values; root = c.clear_marks.ensures.root; inactive = c.clear_marks.ensures.inactive; handles = c.clear_marks.ensures.handles });
      paints = c.in_ok-found.ensures.paints;
    } in
    let new : PaintOwner = spent_is false (the_view c.self-2.inside) in
    let steps : Flushes cell ds t t2 c.args.self.now new c.args.paints.now c.paint_due.new.paints (subtree_at t r) =
    subst (λ o. Flushes cell ds t t2 o new c.args.paints.now c.paint_due.new.paints (subtree_at t r)) c.self.view_is
    (subst (λ n. Flushes cell ds t t2 (the_view c.self.inside) (spent_is false n) c.args.paints.now c.paint_due.new.paints (subtree_at t r)) (sym c.self-2.view_is)
    (spend cell ds t t2 (the_view c.self.inside) c.paint_due.new.self c.args.paints.now c.paint_due.new.paints (subtree_at t r) raw)) in
    flush_beside cell ds t t2 r is_root holds live c.args.self.now new c.args.paints.now c.paint_due.new.paints c.requires.shown keeps steps

pub returns-clause-settles : goal.returns-clause-settles
returns-clause-settles g c =
    let t = c.args.tree.now.tree in
    let r = c.in-Some.root in
    let is_root : t.root ≡ Some r = sym c.in-Some.ensures.value in
    let holds : Holds t r = c.in-Some.ensures.holds in
    let live : (k : Handle) → In k (subtree_at t r) → IsNode t k = λ k is. c.keep_laws.ensures.live t _ (subtree_at t r) k holds.stands is in
    let ready : c.args.self.now.spent ≡ false = ap (λ (o : PaintOwner). o.spent) (sym c.self.view_is) ∙ c.if-self.false in
    let keeps = c.requires.kept ready in
    let cell = c.args.tree.now.scale.cell in
    let ds = meant_in c.args.table.now (λ v. (g.dyn-1.0.entry v).1) in
    let t2 = c.clear_marks.new.tree.tree in
    let raw : Flushes cell ds t t2 (spent_is true (the_view c.self.inside)) c.paint_due.new.self c.args.paints.now c.paint_due.new.paints (subtree_at t r) = record {
      kept = c.in_ok-found.ensures.kept;
      top = c.in_ok-found.ensures.top;
      root = c.in_ok-found.ensures.root;
      tree = both_cleared t c.clear_flags.new.tree.tree t2 c.as_slice.result.now c.as_slice-2.result.now _ _
          (c.as_slice.ensures.value ∙ c.in_ok-found.ensures.flagged) (c.as_slice-2.ensures.value ∙ c.in_ok-found.ensures.quiet)
          (record { values = c.clear_flags.ensures.values; root = c.clear_flags.ensures.root; inactive = c.clear_flags.ensures.inactive; handles = c.clear_flags.ensures.handles })
          (record { values = c.clear_marks.ensures.values; root = c.clear_marks.ensures.root; inactive = c.clear_marks.ensures.inactive; handles = c.clear_marks.ensures.handles });
      paints = c.in_ok-found.ensures.paints;
    } in
    let new : PaintOwner = spent_is false (the_view c.self-2.inside) in
    let steps : Flushes cell ds t t2 c.args.self.now new c.args.paints.now c.paint_due.new.paints (subtree_at t r) =
    subst (λ o. Flushes cell ds t t2 o new c.args.paints.now c.paint_due.new.paints (subtree_at t r)) c.self.view_is
    (subst (λ n. Flushes cell ds t t2 (the_view c.self.inside) (spent_is false n) c.args.paints.now c.paint_due.new.paints (subtree_at t r)) (sym c.self-2.view_is)
    (spend cell ds t t2 (the_view c.self.inside) c.paint_due.new.self c.args.paints.now c.paint_due.new.paints (subtree_at t r) raw)) in
    flush_settles cell ds t t2 r is_root holds live c.args.self.now new c.args.paints.now c.paint_due.new.paints c.requires.shown keeps steps

pub returns-clause-paints : goal.returns-clause-paints
returns-clause-paints g c =
    let t = c.args.tree.now.tree in
    let r = c.in-Some.root in
    let is_root : t.root ≡ Some r = sym c.in-Some.ensures.value in
    let holds : Holds t r = c.in-Some.ensures.holds in
    let live : (k : Handle) → In k (subtree_at t r) → IsNode t k = λ k is. c.keep_laws.ensures.live t _ (subtree_at t r) k holds.stands is in
    let ready : c.args.self.now.spent ≡ false = ap (λ (o : PaintOwner). o.spent) (sym c.self.view_is) ∙ c.if-self.false in
    let keeps = c.requires.kept ready in
    let cell = c.args.tree.now.scale.cell in
    let ds = meant_in c.args.table.now (λ v. (g.dyn-1.0.entry v).1) in
    let t2 = c.clear_marks.new.tree.tree in
    let raw : Flushes cell ds t t2 (spent_is true (the_view c.self.inside)) c.paint_due.new.self c.args.paints.now c.paint_due.new.paints (subtree_at t r) = record {
      kept = c.in_ok-found.ensures.kept;
      top = c.in_ok-found.ensures.top;
      root = c.in_ok-found.ensures.root;
      tree = both_cleared t c.clear_flags.new.tree.tree t2 c.as_slice.result.now c.as_slice-2.result.now _ _
          (c.as_slice.ensures.value ∙ c.in_ok-found.ensures.flagged) (c.as_slice-2.ensures.value ∙ c.in_ok-found.ensures.quiet)
          (record { values = c.clear_flags.ensures.values; root = c.clear_flags.ensures.root; inactive = c.clear_flags.ensures.inactive; handles = c.clear_flags.ensures.handles })
          (record { values = c.clear_marks.ensures.values; root = c.clear_marks.ensures.root; inactive = c.clear_marks.ensures.inactive; handles = c.clear_marks.ensures.handles });
      paints = c.in_ok-found.ensures.paints;
    } in
    let new : PaintOwner = spent_is false (the_view c.self-2.inside) in
    let steps : Flushes cell ds t t2 c.args.self.now new c.args.paints.now c.paint_due.new.paints (subtree_at t r) =
    subst (λ o. Flushes cell ds t t2 o new c.args.paints.now c.paint_due.new.paints (subtree_at t r)) c.self.view_is
    (subst (λ n. Flushes cell ds t t2 (the_view c.self.inside) (spent_is false n) c.args.paints.now c.paint_due.new.paints (subtree_at t r)) (sym c.self-2.view_is)
    (spend cell ds t t2 (the_view c.self.inside) c.paint_due.new.self c.args.paints.now c.paint_due.new.paints (subtree_at t r) raw)) in
    flush_paints cell ds t t2 r is_root holds live c.args.self.now new c.args.paints.now c.paint_due.new.paints c.requires.shown keeps steps
