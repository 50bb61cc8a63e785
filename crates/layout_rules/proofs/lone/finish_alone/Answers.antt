use Rattle.std.proofs.Common.{sym, subst, List, []}
use Rattle.delegates.specs.Table.{meant_in}
use Rattle.plain_tree.specs.declared.render.ParentData.{ParentData}
use Rattle.layout_form.specs.Object.{setting_of}
use Rattle.layout_rules.specs.declared.duties.Course.{Course}
use Rattle.layout_rules.specs.Serving.{EndsAs, CanEndAt}
use Rattle.layout_rules.proofs.Heard.{nothing_told}
use Rattle.layout_rules.proofs.Running.{on_ok}
use Rattle.layout_rules.proofs.lone.finish_alone.Goals as goal

pub run_alone-requires-clause-can : goal.run_alone-requires-clause-can
run_alone-requires-clause-can g c = subst (λ (x : Course). CanEndAt x [] [] [] c.args.r.now.tree c.args.h) c.in-Run.is c.requires.can

pub returns-in-Run-clause-ends : goal.returns-in-Run-clause-ends
returns-in-Run-clause-ends g c =
    let t = c.args.r.now.tree in
    let s = setting_of c.args.r.now.scale (meant_in c.args.table.now (λ v. (g.dyn-1.0.entry v).1)) in
    on_ok c.run_alone.result _ _ (λ ends. subst (λ (x : Course). EndsAs s x [] [] [] t c.run_alone.new.r.tree c.args.h c.args.steps.now c.run_alone.new.steps) (sym c.in-Run.is) ends) c.run_alone.ensures.ends

pub finish-requires-clause-can : goal.finish-requires-clause-can
finish-requires-clause-can g c =
    subst (λ (ds : List ParentData). CanEndAt c.args.course ds [] [] c.args.r.now.tree c.args.h) (sym (nothing_told c.args.r.now.tree c.args.h c.requires.empty)) c.requires.can

pub returns-in_default : goal.returns-in_default
returns-in_default g c =
    let t = c.args.r.now.tree in
    let s = setting_of c.args.r.now.scale (meant_in c.args.table.now (λ v. (g.dyn-1.0.entry v).1)) in
    record {
      ends = on_ok c.finish.result _ _ (λ ends. subst (λ (ds : List ParentData). EndsAs s c.args.course ds [] [] t c.finish.new.r.tree c.args.h c.args.steps.now c.finish.new.steps)
          (nothing_told t c.args.h c.requires.empty) ends) c.finish.ensures.ends;
      changes = c.finish.ensures.changes;
      scale = c.finish.ensures.scale;
      spent = c.finish.ensures.spent;
    }
