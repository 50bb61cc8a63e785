use Rattle.std.proofs.Common.{◌∙◌, sym, subst, List, [], OnOk}
use Rattle.delegates.specs.Table.{meant_in}
use Rattle.plain_tree.specs.declared.render.ParentData.{ParentData}
use Rattle.layout_form.specs.declared.asks.Ask.{Ask}
use Rattle.layout_form.specs.Object.{setting_of}
use Rattle.layout_rules.specs.Heard.{all_told}
use Rattle.layout_rules.specs.Serving.{RunsAs, CanRunAt}
use Rattle.layout_rules.proofs.Heard.{nothing_told}
use Rattle.layout_rules.proofs.Running.{on_ok}
use Rattle.layout_rules.proofs.lone.run_alone.Goals as goal
use Rattle.layout_rules.proofs.lone.run_alone.Goals.{in-AsBox+in-None, in-AsSliver}

pub run_lone-requires-clause-lone : goal.run_lone-requires-clause-lone
run_lone-requires-clause-lone g c = sym c.in-Some.is ∙ c.lone_at.ensures

pub returns-in-Some-clause-ends : goal.returns-in-Some-clause-ends
returns-in-Some-clause-ends g c =
    let t = c.args.r.now.tree in
    let s = setting_of c.args.r.now.scale (meant_in c.args.table.now (λ v. (g.dyn-1.0.entry v).1)) in
    on_ok c.run_lone.result _ _ (λ ends. subst (λ (x : Ask). RunsAs s x [] [] [] t c.run_lone.new.r.tree c.args.h c.args.steps.now c.run_lone.new.steps) (sym c.in-AsBox.is) ends) c.run_lone.ensures.ends

pub run-requires-clause-can : goal.run-requires-clause-can
run-requires-clause-can g c =
    let t = c.args.r.now.tree in
    let h = c.args.h in
    let none = nothing_told t h c.requires.empty in
    let can : CanRunAt c.args.ask (all_told t h []) [] [] t h = subst (λ (ds : List ParentData). CanRunAt c.args.ask ds [] [] t h) (sym none) c.requires.can in
    elim c.match-ask.branch [
      | in-AsBox+in-None w ↦ subst (λ (x : Ask). CanRunAt x (all_told t h []) [] [] t h) (sym (w.ask-is ∙ sym w.in-AsBox.is)) can
      | in-AsSliver w ↦ subst (λ (x : Ask). CanRunAt x (all_told t h []) [] [] t h) (sym w.ask-is) can
    ]

pub returns-clause-ends : goal.returns-clause-ends
returns-clause-ends g c =
    let t = c.args.r.now.tree in
    let h = c.args.h in
    let s = setting_of c.args.r.now.scale (meant_in c.args.table.now (λ v. (g.dyn-1.0.entry v).1)) in
    let none = nothing_told t h c.requires.empty in
    let t1 = c.run.new.r.tree in
    elim c.match-ask.branch [
      | in-AsBox+in-None w ↦ on_ok c.run.result _ _ (λ ends. subst (λ (ds : List ParentData). RunsAs s c.args.ask ds [] [] t t1 h c.args.steps.now c.run.new.steps) none ends)
          (subst (λ (x : Ask). OnOk c.run.result (RunsAs s x (all_told t h []) [] [] t t1 h c.args.steps.now c.run.new.steps)) (w.ask-is ∙ sym w.in-AsBox.is) c.run.ensures.ends)
      | in-AsSliver w ↦ on_ok c.run.result _ _ (λ ends. subst (λ (ds : List ParentData). RunsAs s c.args.ask ds [] [] t t1 h c.args.steps.now c.run.new.steps) none ends)
          (subst (λ (x : Ask). OnOk c.run.result (RunsAs s x (all_told t h []) [] [] t t1 h c.args.steps.now c.run.new.steps)) w.ask-is c.run.ensures.ends)
    ]
