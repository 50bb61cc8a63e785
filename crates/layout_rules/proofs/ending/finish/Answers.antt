use Rattle.std.proofs.Common.{refl, subst, sym, inl, List, Option, arith}
use Rattle.delegates.specs.Table.{meant_in}
use Rattle.node_tree.specs.Forest.Forest.{none, tree}
use Rattle.layout_form.specs.declared.asks.Ask.{Ask}
use Rattle.layout_form.specs.declared.asks.Ask.TheVariants.{AsBox}
use Rattle.layout_form.specs.Object.{setting_of}
use Rattle.kind_rules.specs.Few.{items_of}
use Rattle.layout_rules.specs.declared.duties.Course.{Course}
use Rattle.layout_rules.specs.Heard.{all_told}
use Rattle.layout_rules.specs.Serving.{EndsAs, RunsAs, CanEndAt, CanRunAt}
use Rattle.layout_rules.proofs.Repainting.{leaves_self}
use Rattle.layout_rules.proofs.Running.{none_first, on_ok}
use Rattle.layout_rules.proofs.Turning.{turn_same}
use Rattle.layout_rules.proofs.ending.finish.Goals as goal

pub returns-in-Stay-clause-ends : goal.returns-in-Stay-clause-ends
returns-in-Stay-clause-ends g c =
    let t = c.args.r.now.tree in
    let h = c.args.h in
    let s = setting_of c.args.r.now.scale (meant_in c.args.table.now (λ v. (g.dyn-1.0.entry v).1)) in
    let ds = all_told t h c.args.told.now in
    let first = items_of c.args.first.now in
    let rest = items_of c.args.rest.now in
    subst (λ (x : Course). EndsAs s x ds first rest t t h c.args.steps.now c.args.steps.now) (sym c.in-Stay.is)
    (λ v kids seen. (turn_same t h (tree h v kids none) seen, omega arith))

pub returns-in-Visit-clause-ends : goal.returns-in-Visit-clause-ends
returns-in-Visit-clause-ends g c =
    let t = c.args.r.now.tree in
    let h = c.args.h in
    let s = setting_of c.args.r.now.scale (meant_in c.args.table.now (λ v. (g.dyn-1.0.entry v).1)) in
    let ds = all_told t h c.args.told.now in
    let first = items_of c.args.first.now in
    let rest = items_of c.args.rest.now in
    subst (λ (x : Course). EndsAs s x ds first rest t c.visited.new.r.tree h c.args.steps.now c.args.steps.now) (sym c.in-Visit.is)
    (λ v kids seen. (c.visited.ensures.ends v kids seen, omega arith))

pub returns-in-Open-clause-ends : goal.returns-in-Open-clause-ends
returns-in-Open-clause-ends g c =
    let t = c.args.r.now.tree in
    let h = c.args.h in
    let s = setting_of c.args.r.now.scale (meant_in c.args.table.now (λ v. (g.dyn-1.0.entry v).1)) in
    let ds = all_told t h c.args.told.now in
    let first = items_of c.args.first.now in
    let rest = items_of c.args.rest.now in
    subst (λ (x : Course). EndsAs s x ds first rest t c.open.new.r.tree h c.args.steps.now c.args.steps.now) (sym c.in-Open.is)
    (λ v kids seen. (c.open.ensures.ends v kids seen, omega arith))

pub hold-requires-clause-can : goal.hold-requires-clause-can
hold-requires-clause-can g c =
    let t = c.args.r.now.tree in
    let h = c.args.h in
    let s = setting_of c.args.r.now.scale (meant_in c.args.table.now (λ v. (g.dyn-1.0.entry v).1)) in
    let ds = all_told t h c.args.told.now in
    let first = items_of c.args.first.now in
    let rest = items_of c.args.rest.now in
    subst (λ (x : Course). CanEndAt x ds first rest t h) c.in-Hold.is c.requires.can

pub returns-in-Hold-clause-ends : goal.returns-in-Hold-clause-ends
returns-in-Hold-clause-ends g c =
    let t = c.args.r.now.tree in
    let h = c.args.h in
    let s = setting_of c.args.r.now.scale (meant_in c.args.table.now (λ v. (g.dyn-1.0.entry v).1)) in
    let ds = all_told t h c.args.told.now in
    let first = items_of c.args.first.now in
    let rest = items_of c.args.rest.now in
    on_ok c.hold.result _ _ (λ e. subst (λ (x : Course). EndsAs s x ds first rest t c.hold.new.r.tree h c.args.steps.now c.hold.new.steps) (sym c.in-Hold.is)
    (e)) c.hold.ensures.ends

pub run-requires-clause-can : goal.run-requires-clause-can
run-requires-clause-can g c =
    let t = c.args.r.now.tree in
    let h = c.args.h in
    let s = setting_of c.args.r.now.scale (meant_in c.args.table.now (λ v. (g.dyn-1.0.entry v).1)) in
    let ds = all_told t h c.args.told.now in
    let first = items_of c.args.first.now in
    let rest = items_of c.args.rest.now in
    subst (λ (x : Course). CanEndAt x ds first rest t h) c.in-Run.is c.requires.can

pub returns-in-Run-clause-ends : goal.returns-in-Run-clause-ends
returns-in-Run-clause-ends g c =
    let t = c.args.r.now.tree in
    let h = c.args.h in
    let s = setting_of c.args.r.now.scale (meant_in c.args.table.now (λ v. (g.dyn-1.0.entry v).1)) in
    let ds = all_told t h c.args.told.now in
    let first = items_of c.args.first.now in
    let rest = items_of c.args.rest.now in
    on_ok c.run.result _ _ (λ e. subst (λ (x : Course). EndsAs s x ds first rest t c.run.new.r.tree h c.args.steps.now c.run.new.steps) (sym c.in-Run.is)
    (e)) c.run.ensures.ends

pub run-requires-in-View-clause-can : goal.run-requires-in-View-clause-can
run-requires-in-View-clause-can g c =
    let t = c.args.r.now.tree in
    let h = c.args.h in
    let s = setting_of c.args.r.now.scale (meant_in c.args.table.now (λ v. (g.dyn-1.0.entry v).1)) in
    let ds = all_told t h c.args.told.now in
    let first = items_of c.args.first.now in
    let rest = items_of c.args.rest.now in
    subst (λ (xs : List (Option Ask)). CanRunAt (AsBox c.in-View.b) ds first xs t h) (sym (none_first rest)) (subst (λ (x : Course). CanEndAt x ds first rest t h) c.in-View.is c.requires.can)

pub returns-in-View-clause-ends : goal.returns-in-View-clause-ends
returns-in-View-clause-ends g c =
    let t = c.args.r.now.tree in
    let h = c.args.h in
    let s = setting_of c.args.r.now.scale (meant_in c.args.table.now (λ v. (g.dyn-1.0.entry v).1)) in
    let ds = all_told t h c.args.told.now in
    let first = items_of c.args.first.now in
    let rest = items_of c.args.rest.now in
    on_ok c.run-in-View.result _ _ (λ e. subst (λ (x : Course). EndsAs s x ds first rest t c.run-in-View.new.r.tree h c.args.steps.now c.run-in-View.new.steps) (sym c.in-View.is)
    (
    subst (λ (xs : List (Option Ask)). RunsAs s (AsBox c.in-View.b) ds first xs t c.run-in-View.new.r.tree h c.args.steps.now c.run-in-View.new.steps) (none_first rest) e)) c.run-in-View.ensures.ends

pub returns-in-Stay-clause-changes : goal.returns-in-Stay-clause-changes
returns-in-Stay-clause-changes g c = record { paints = leaves_self c.args.r.now.tree c.args.h c.args.changed.now.items; few = omega arith; lists = inl refl }

pub returns-in-Visit-clause-changes : goal.returns-in-Visit-clause-changes
returns-in-Visit-clause-changes g c = record { paints = c.visited.ensures.paints c.args.changed.now.items; few = omega arith; lists = inl refl }

pub returns-in-Open-clause-changes : goal.returns-in-Open-clause-changes
returns-in-Open-clause-changes g c = record { paints = c.open.ensures.paints c.args.changed.now.items; few = omega arith; lists = inl refl }

pub returns-in-Hold-clause-changes : goal.returns-in-Hold-clause-changes
returns-in-Hold-clause-changes g c = c.hold.ensures.changes

pub returns-in-Run-clause-changes : goal.returns-in-Run-clause-changes
returns-in-Run-clause-changes g c = c.run.ensures.changes

pub returns-in-View-clause-changes : goal.returns-in-View-clause-changes
returns-in-View-clause-changes g c = c.run-in-View.ensures.changes
