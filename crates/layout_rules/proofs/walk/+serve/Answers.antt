use Rattle.std.proofs.Common.{◌≡◌, refl, subst, sym, ap, ◌∙◌, ◌+◌, ◌<◌, ◌==◌, ℕ, suc, Option, Some, None, IfSome, List, [], ◌∷◌, map, get_or, length, arith}
use Rattle.fx_geom.specs.declared.scales.Scale.{Scale}
use Rattle.fx_handles.specs.declared.Handle.{Handle}
use Rattle.delegates.specs.Table.{meant_in}
use Rattle.node_tree.specs.Forest.Forest.{none}
use Rattle.node_tree.specs.Tree.{Tree, IsTree, children_at}
use Rattle.plain_tree.specs.declared.render.ParentData.{ParentData}
use Rattle.layout_form.specs.declared.asks.Ask.TheVariants.{AsBox}
use Rattle.layout_form.specs.Object.{setting_of}
use Rattle.kind_rules.specs.Few.{items_of}
use Rattle.render_tree.specs.Object.{RenderObject}
use Rattle.layout_walk.specs.Rules.{parts_of}
use Rattle.layout_rules.specs.Courses.{first_duties}
use Rattle.layout_rules.specs.Duties.{lay_duties}
use Rattle.layout_rules.specs.Ending.{known_in}
use Rattle.layout_rules.specs.declared.only.Only.{Only}
use Rattle.layout_rules.specs.Only.{HasOne}
use Rattle.layout_rules.specs.Heard.{told_below, all_told}
use Rattle.layout_rules.specs.Reads.{told_at}
use Rattle.layout_rules.specs.Serving.{IsReadyFor, Serves, ListsOnce, EndsAs, RunsAs, CanEndAt}
use Rattle.layout_rules.proofs.Alone.{empty_list, alone_seen, can_alone, alone_serves, alone_lists}
use Rattle.layout_rules.proofs.Between.{ready_live, ready_fits, ready_start, ready_may, ready_sum, rests_may, mid_live, mid_start}
use Rattle.layout_rules.proofs.Flagged.{flags_self_listed, flags_again, alone_flags, walk_flags}
use Rattle.layout_rules.proofs.Heard.{heard_told, heard_sum, all_kept, rest_told}
use Rattle.layout_rules.proofs.OneWalk.{one_ready, one_live, one_seen, one_child, one_single, one_fits, one_size, one_serves, one_lists, one_flags, one_plugs}
use Rattle.layout_rules.proofs.Plugged.{plugs_self, plugs_again, alone_plugs, walk_plugs}
use Rattle.layout_rules.proofs.Listed.{Listed, listed_start, listed_passed, listed_one, on_both}
use Rattle.layout_rules.proofs.Repainting.{leaves_self, leaves_again, leaves_child}
use Rattle.layout_rules.proofs.Running.{on_ok}
use Rattle.layout_rules.proofs.Turning.{seen_live}
use Rattle.layout_rules.proofs.Walked.{stay_serves, walk_serves, walk_lists, can_end}
use Rattle.layout_rules.proofs.Walking.{none_there, Progress, passed, ready, same_size, served_one, less_now, less_start}
use Rattle.layout_rules.proofs.walk.+serve.Goals as goal

pub course_of-course-requires : goal.course_of-course-requires
course_of-course-requires g t c =
    let m = meant_in c.args.table.now (λ v. (g.dyn-1.0.entry v).1) in
    let s = setting_of c.args.r.now.scale m in
    let t0 = c.args.r.now.tree in
    let h = c.args.h in
    let outer = c.args.outer in
    ready_live s outer c.args.duty t0 h c.requires

pub returns-in-Stay-clause-served : goal.returns-in-Stay-clause-served
returns-in-Stay-clause-served g t c =
    let m = meant_in c.args.table.now (λ v. (g.dyn-1.0.entry v).1) in
    let s = setting_of c.args.r.now.scale m in
    let t0 = c.args.r.now.tree in
    let h = c.args.h in
    let outer = c.args.outer in
    let laws = c.layouts_are_lawful.ensures s in
    stay_serves s laws outer c.args.duty t0 h c.course_of-course.result _ c.requires c.course_of-course.ensures c.in-Stay.is

pub finish_alone-requires : goal.finish_alone-requires
finish_alone-requires g t c =
    let m = meant_in c.args.table.now (λ v. (g.dyn-1.0.entry v).1) in
    let s = setting_of c.args.r.now.scale m in
    let t0 = c.args.r.now.tree in
    let h = c.args.h in
    let outer = c.args.outer in
    let laws = c.layouts_are_lawful.ensures s in
    let course = c.course_of-course.result in
    let empty : children_at t0 h ≡ [] = empty_list (children_at t0 h) (ap (λ (hs : List Handle). length hs == 0) (sym c.children.ensures.value) ∙ (sym c.is_empty.ensures ∙ c.if-is_empty.true)) in
    record {
      live = ready_live s outer c.args.duty t0 h c.requires;
      seen = record { value = c.requires.value; kids = none; stands = alone_seen s laws outer c.args.duty t0 h course c.requires c.course_of-course.ensures empty };
      empty = empty;
      can = can_alone s laws outer c.args.duty t0 h course c.requires c.course_of-course.ensures empty;
    }

pub returns-then-is_empty-clause-served : goal.returns-then-is_empty-clause-served
returns-then-is_empty-clause-served g t c =
    let m = meant_in c.args.table.now (λ v. (g.dyn-1.0.entry v).1) in
    let s = setting_of c.args.r.now.scale m in
    let t0 = c.args.r.now.tree in
    let h = c.args.h in
    let outer = c.args.outer in
    let laws = c.layouts_are_lawful.ensures s in
    let course = c.course_of-course.result in
    let empty : children_at t0 h ≡ [] = empty_list (children_at t0 h) (ap (λ (hs : List Handle). length hs == 0) (sym c.children.ensures.value) ∙ (sym c.is_empty.ensures ∙ c.if-is_empty.true)) in
    on_ok c.finish_alone.result _ _ (λ ends. alone_serves s laws outer c.args.duty t0 h course c.requires c.course_of-course.ensures empty c.finish_alone.new.r.tree _ c.finish_alone.new.steps ends) c.finish_alone.ensures.ends

pub returns-then-is_empty-clause-paints : goal.returns-then-is_empty-clause-paints
returns-then-is_empty-clause-paints g t c = on_ok c.finish_alone.result _ _ (λ changes. changes.paints) c.finish_alone.ensures.changes

pub only_at-requires : goal.only_at-requires
only_at-requires g t c =
    let m = meant_in c.args.table.now (λ v. (g.dyn-1.0.entry v).1) in
    let s = setting_of c.args.r.now.scale m in
    let t0 = c.args.r.now.tree in
    let h = c.args.h in
    let outer = c.args.outer in
    let is0 : IsTree t0 = subst (λ (x : Tree RenderObject). IsTree x) c.tree.ensures c.count_laws.ensures.tree in
    record { live = ready_live s outer c.args.duty t0 h c.requires; fits = ready_fits s outer c.args.duty t0 h c.requires is0 }

pub heard_at-requires : goal.heard_at-requires
heard_at-requires g t c =
    let s = setting_of c.args.r.now.scale (meant_in c.args.table.now (λ v. (g.dyn-1.0.entry v).1)) in
    ready_live s c.args.outer c.args.duty c.args.r.now.tree c.args.h c.requires

pub serve-requires : goal.serve-requires
serve-requires g t c = λ κs lives.
    let m = meant_in c.args.table.now (λ v. (g.dyn-1.0.entry v).1) in
    let s = setting_of c.args.r.now.scale m in
    let t0 = c.args.r.now.tree in
    let h = c.args.h in
    let outer = c.args.outer in
    let laws = c.layouts_are_lawful.ensures s in
    let is0 : IsTree t0 = subst (λ (x : Tree RenderObject). IsTree x) c.tree.ensures c.count_laws.ensures.tree in
    let course = c.course_of-course.result in
    let only = c.in-Some.only in
    let has : HasOne s t0 h course only.child only.bounds only.inner = subst (λ (o : Option Only). IfSome o (λ (only : Only). HasOne s t0 h course only.child only.bounds only.inner)) c.in-Some.is c.in_ok-only.ensures in
    let less = has.smaller in
    let d = c.decreases in
    (omega (arith, less, d), (lives, one_ready s laws outer c.args.duty t0 h course c.requires c.course_of-course.ensures is0 only.child only.bounds only.inner has c.args.steps.now))

pub run_only-requires : goal.run_only-requires
run_only-requires g t c =
    let m = meant_in c.args.table.now (λ v. (g.dyn-1.0.entry v).1) in
    let s = setting_of c.args.r.now.scale m in
    let t0 = c.args.r.now.tree in
    let h = c.args.h in
    let outer = c.args.outer in
    let laws = c.layouts_are_lawful.ensures s in
    let is0 : IsTree t0 = subst (λ (x : Tree RenderObject). IsTree x) c.tree.ensures c.count_laws.ensures.tree in
    let course = c.course_of-course.result in
    let only = c.in-Some.only in
    let has : HasOne s t0 h course only.child only.bounds only.inner = subst (λ (o : Option Only). IfSome o (λ (only : Only). HasOne s t0 h course only.child only.bounds only.inner)) c.in-Some.is c.in_ok-only.ensures in
    let t1 = c.serve.new.r.tree in
    let served = c.in_ok-serve.ensures.served in
    let is1 : IsTree t1 = subst (λ (x : Tree RenderObject). IsTree x) c.tree-in-Some.ensures c.count_laws-in-Some.ensures.tree in
    record {
      live = one_live s laws outer c.args.duty t0 h course c.requires c.course_of-course.ensures is0 only.child only.bounds only.inner has c.args.steps.now t1 c.serve.new.steps served;
      seen = one_seen s laws outer c.args.duty t0 h course c.requires c.course_of-course.ensures is0 only.child only.bounds only.inner has c.args.steps.now t1 c.serve.new.steps served;
      one = one_child s laws outer c.args.duty t0 h course c.requires c.course_of-course.ensures is0 only.child only.bounds only.inner has c.args.steps.now t1 c.serve.new.steps served;
      single = one_single s laws outer c.args.duty t0 h course c.requires c.course_of-course.ensures is0 only.child only.bounds only.inner has c.args.steps.now t1 c.serve.new.steps served is1;
      members = one_fits s laws outer c.args.duty t0 h course c.requires c.course_of-course.ensures is0 only.child only.bounds only.inner has c.args.steps.now t1 c.serve.new.steps served is1;
      size = one_size s laws outer c.args.duty t0 h course c.requires c.course_of-course.ensures is0 only.child only.bounds only.inner has c.args.steps.now t1 c.serve.new.steps served;
    }

pub returns-in-Some-clause-served : goal.returns-in-Some-clause-served
returns-in-Some-clause-served g t c =
    let m = meant_in c.args.table.now (λ v. (g.dyn-1.0.entry v).1) in
    let s = setting_of c.args.r.now.scale m in
    let t0 = c.args.r.now.tree in
    let h = c.args.h in
    let outer = c.args.outer in
    let laws = c.layouts_are_lawful.ensures s in
    let is0 : IsTree t0 = subst (λ (x : Tree RenderObject). IsTree x) c.tree.ensures c.count_laws.ensures.tree in
    let course = c.course_of-course.result in
    let only = c.in-Some.only in
    let has : HasOne s t0 h course only.child only.bounds only.inner = subst (λ (o : Option Only). IfSome o (λ (only : Only). HasOne s t0 h course only.child only.bounds only.inner)) c.in-Some.is c.in_ok-only.ensures in
    let t1 = c.serve.new.r.tree in
    let served = c.in_ok-serve.ensures.served in
    let t2 = c.run_only.new.r.tree in
    on_ok c.run_only.result _ _ (λ ends. one_serves s laws outer c.args.duty t0 h course c.requires c.course_of-course.ensures is0 only.child only.bounds only.inner has c.args.steps.now t1 c.serve.new.steps served t2 c.run_only.new.steps (subst (λ (x : Scale). RunsAs (setting_of x m) (AsBox only.bounds) (map (told_at t0) (children_at t0 h)) (Some (AsBox only.inner) ∷ []) (Some (AsBox only.inner) ∷ []) t1 t2 h c.serve.new.steps c.run_only.new.steps) c.serve.ensures.scale (ends only.inner (map (told_at t0) (children_at t0 h))))) c.run_only.ensures.ends

pub returns-in-Some-clause-paints : goal.returns-in-Some-clause-paints
returns-in-Some-clause-paints g t c =
    let m = meant_in c.args.table.now (λ v. (g.dyn-1.0.entry v).1) in
    let s = setting_of c.args.r.now.scale m in
    let t0 = c.args.r.now.tree in
    let h = c.args.h in
    let outer = c.args.outer in
    let laws = c.layouts_are_lawful.ensures s in
    let is0 : IsTree t0 = subst (λ (x : Tree RenderObject). IsTree x) c.tree.ensures c.count_laws.ensures.tree in
    let course = c.course_of-course.result in
    let only = c.in-Some.only in
    let has : HasOne s t0 h course only.child only.bounds only.inner = subst (λ (o : Option Only). IfSome o (λ (only : Only). HasOne s t0 h course only.child only.bounds only.inner)) c.in-Some.is c.in_ok-only.ensures in
    let t1 = c.serve.new.r.tree in
    let served = c.in_ok-serve.ensures.served in
    let t2 = c.run_only.new.r.tree in
    let named : only.child ≡ get_or (children_at t0 h) 0 h = sym (ap (λ (hs : List Handle). get_or hs 0 h) has.one) in
    let less : 0 < length (children_at t0 h) = subst (λ (hs : List Handle). 0 < length hs) (sym has.one) (omega arith) in
    on_ok c.run_only.result _ _ (λ changes. leaves_again t0 t1 t2 h _ _ _ (leaves_child t0 t1 h only.child 0 _ _ named less c.in_ok-serve.ensures.paints) changes.paints) c.run_only.ensures.changes

pub first_of-requires : goal.first_of-requires
first_of-requires g t c =
    let m = meant_in c.args.table.now (λ v. (g.dyn-1.0.entry v).1) in
    let s = setting_of c.args.r.now.scale m in
    let t0 = c.args.r.now.tree in
    let h = c.args.h in
    let outer = c.args.outer in
    let is0 : IsTree t0 = subst (λ (x : Tree RenderObject). IsTree x) c.tree.ensures c.count_laws.ensures.tree in
    record { live = ready_live s outer c.args.duty t0 h c.requires; fits = ready_fits s outer c.args.duty t0 h c.requires is0 }

pub loop-i-init : goal.loop-i-init
loop-i-init g t c =
    let m = meant_in c.args.table.now (λ v. (g.dyn-1.0.entry v).1) in
    let s = setting_of c.args.r.now.scale m in
    let t0 = c.args.r.now.tree in
    let h = c.args.h in
    let outer = c.args.outer in
    (ready_start s outer c.args.duty t0 h c.requires _ _ _ (ap (λ (hs : List Handle). length hs) c.children-i-end.ensures.value), refl, refl, leaves_self t0 h c.args.changed.now.items, omega arith, listed_start s outer t0 h _ c.args.changed.now.items, flags_self_listed t0 c.args.changed.now.items, plugs_self m t0)

pub loop-i-preserved-then-not-has_first : goal.loop-i-preserved-then-not-has_first
loop-i-preserved-then-not-has_first g z c =
    let m = meant_in c.args.table.now (λ v. (g.dyn-1.0.entry v).1) in
    let s = setting_of c.args.r.now.scale m in
    let t0 = c.args.r.now.tree in
    let h = c.args.h in
    let outer = c.args.outer in
    let law = (c.layouts_are_lawful.ensures s).lawful in
    let course = c.course_of-course.result in
    let first = items_of c.in_ok-asked.asked in
    let duties = first_duties course first (children_at t0 h) in
    let t = c.loop-i.r.tree in
    let i = c.loop-i.i in
    let end = length c.children-i-end.result.now in
    let inv = c.loop-i.invariant in
    let less = less_start s law outer t0 t h i end duties _ _ inv.0 c.loop-i-test.true in
    let get : get_or duties i None ≡ None = none_there (get_or duties i None) (sym (c.has_first.ensures (children_at t0 h) less) ∙ c.if-not-has_first.true) in
    let more : suc i ≡ i + 1 = omega arith in (
      subst (λ (n : ℕ). Progress s outer t0 t h n end duties c.args.steps.now c.loop-i.steps) more (passed s law outer t0 t h i end duties _ _ inv.0 get c.loop-i-test.true),
      inv.1,
      inv.2,
      inv.3,
      inv.4,
      subst (λ (n : ℕ). Listed s outer t0 h n duties c.args.changed.now.items c.loop-i.changed.items) more (listed_passed s law outer t0 t h i end duties _ _ inv.0 c.args.changed.now.items c.loop-i.changed.items inv.5 get c.loop-i-test.true),
      inv.6,
      inv.7,
    )

pub loop-i-preserved-in_default-first_duty : goal.loop-i-preserved-in_default-first_duty
loop-i-preserved-in_default-first_duty g z c =
    let m = meant_in c.args.table.now (λ v. (g.dyn-1.0.entry v).1) in
    let s = setting_of c.args.r.now.scale m in
    let t0 = c.args.r.now.tree in
    let h = c.args.h in
    let outer = c.args.outer in
    let law = (c.layouts_are_lawful.ensures s).lawful in
    let course = c.course_of-course.result in
    let first = items_of c.in_ok-asked.asked in
    let duties = first_duties course first (children_at t0 h) in
    let t = c.loop-i.r.tree in
    let i = c.loop-i.i in
    let end = length c.children-i-end.result.now in
    let inv = c.loop-i.invariant in
    let less = less_start s law outer t0 t h i end duties _ _ inv.0 c.loop-i-test.true in
    let get : get_or duties i None ≡ None = sym (c.first_duty.ensures (children_at t0 h) less) ∙ c.in_default-first_duty.is in
    let more : suc i ≡ i + 1 = omega arith in (
      subst (λ (n : ℕ). Progress s outer t0 t h n end duties c.args.steps.now c.loop-i.steps) more (passed s law outer t0 t h i end duties _ _ inv.0 get c.loop-i-test.true),
      inv.1,
      inv.2,
      inv.3,
      inv.4,
      subst (λ (n : ℕ). Listed s outer t0 h n duties c.args.changed.now.items c.loop-i.changed.items) more (listed_passed s law outer t0 t h i end duties _ _ inv.0 c.args.changed.now.items c.loop-i.changed.items inv.5 get c.loop-i-test.true),
      inv.6,
      inv.7,
    )

pub loop-i-preserved : goal.loop-i-preserved
loop-i-preserved g z c =
    let m = meant_in c.args.table.now (λ v. (g.dyn-1.0.entry v).1) in
    let s = setting_of c.args.r.now.scale m in
    let t0 = c.args.r.now.tree in
    let h = c.args.h in
    let outer = c.args.outer in
    let law = (c.layouts_are_lawful.ensures s).lawful in
    let course = c.course_of-course.result in
    let first = items_of c.in_ok-asked.asked in
    let duties = first_duties course first (children_at t0 h) in
    let t = c.loop-i.r.tree in
    let i = c.loop-i.i in
    let end = length c.children-i-end.result.now in
    let inv = c.loop-i.invariant in
    let less = less_start s law outer t0 t h i end duties _ _ inv.0 c.loop-i-test.true in
    let get = sym (c.first_duty.ensures (children_at t0 h) less) ∙ c.in-Some-first_duty.is in
    let more : suc i ≡ i + 1 = omega arith in
    let child = c.child_at-child.result in
    let serves = subst (λ (x : Scale). Serves (parts_of (setting_of x m)) outer c.in-Some-first_duty.inner t c.serve-in-loop-i.new.r.tree child c.loop-i.steps c.serve-in-loop-i.new.steps) inv.1 c.in_ok-serve-2.ensures.served in (
      subst (λ (n : ℕ). Progress s outer t0 c.serve-in-loop-i.new.r.tree h n end duties c.args.steps.now c.serve-in-loop-i.new.steps) more
          (served_one s law outer t0 t h i end duties _ _ inv.0 c.serve-in-loop-i.new.r.tree child c.in-Some-first_duty.inner _ c.child_at-child.ensures.value c.loop-i-test.true get serves),
      c.serve-in-loop-i.ensures.scale ∙ inv.1,
      c.serve-in-loop-i.ensures.spent ∙ inv.2,
      leaves_again t0 t c.serve-in-loop-i.new.r.tree h _ _ _ inv.3
          (leaves_child t c.serve-in-loop-i.new.r.tree h child i _ _ c.child_at-child.ensures.value (less_now s law outer t0 t h i end duties _ _ inv.0 c.loop-i-test.true) c.in_ok-serve-2.ensures.paints),
      (let so_far = inv.4 in let some = c.in_ok-serve-2.ensures.few in omega (arith, so_far, some)),
      subst (λ (n : ℕ). Listed s outer t0 h n duties c.args.changed.now.items c.serve-in-loop-i.new.changed.items) more
          (listed_one s law outer t0 t h i end duties _ _ inv.0 c.args.changed.now.items c.loop-i.changed.items inv.5 child c.in-Some-first_duty.inner c.serve-in-loop-i.new.changed.items c.child_at-child.ensures.value c.loop-i-test.true get
          (subst (λ (x : Scale). ListsOnce (parts_of (setting_of x m)) outer c.in-Some-first_duty.inner t child c.loop-i.changed.items c.serve-in-loop-i.new.changed.items) inv.1 c.in_ok-serve-2.ensures.lists)),
      flags_again t0 t c.serve-in-loop-i.new.r.tree c.args.changed.now.items c.loop-i.changed.items c.serve-in-loop-i.new.changed.items inv.6 c.in_ok-serve-2.ensures.flags,
      plugs_again m t0 t c.serve-in-loop-i.new.r.tree inv.7 c.in_ok-serve-2.ensures.plugs,
    )

pub serve-requires-in-loop-i : goal.serve-requires-in-loop-i
serve-requires-in-loop-i g z c = λ κs lives.
    let m = meant_in c.args.table.now (λ v. (g.dyn-1.0.entry v).1) in
    let s = setting_of c.args.r.now.scale m in
    let t0 = c.args.r.now.tree in
    let h = c.args.h in
    let outer = c.args.outer in
    let law = (c.layouts_are_lawful.ensures s).lawful in
    let is0 : IsTree t0 = subst (λ (x : Tree RenderObject). IsTree x) c.tree.ensures c.count_laws.ensures.tree in
    let course = c.course_of-course.result in
    let heard = c.as_slice-told.result.now in
    let told = all_told t0 h heard in
    let heard_is = c.as_slice-told.ensures ∙ c.in_ok-tellings.ensures in
    let told_is = heard_told t0 h heard heard_is in
    let first = items_of c.in_ok-asked.asked in
    let duties = first_duties course first (children_at t0 h) in
    let t = c.loop-i.r.tree in
    let i = c.loop-i.i in
    let end = length c.children-i-end.result.now in
    let inv = c.loop-i.invariant in
    let child = c.child_at-child.result in
    let start = less_start s law outer t0 t h i end duties _ _ inv.0 c.loop-i-test.true in
    let less = c.child_at-child.ensures.smaller (less_now s law outer t0 t h i end duties _ _ inv.0 c.loop-i-test.true) in
    let size = same_size s law outer t0 t h i end duties _ _ inv.0 is0 c.child_at-child.ensures.tree in
    let d = c.decreases in
    let may = ready_may s outer c.args.duty t0 h c.requires course c.course_of-course.ensures told told_is first c.in_ok-asked.ensures i c.in-Some-first_duty.inner c.first_duty.result (c.first_duty.ensures (children_at t0 h) start) c.in-Some-first_duty.is in (
      omega (arith, less, size, d),
      (
        lives,
        subst (λ (x : Scale). IsReadyFor (parts_of (setting_of x m)) t child c.in-Some-first_duty.inner) (sym inv.1)
            (ready s law outer t0 t h i end duties _ _ inv.0 child c.in-Some-first_duty.inner c.child_at-child.ensures.value c.loop-i-test.true may),
      ),
    )

pub rest_of-requires : goal.rest_of-requires
rest_of-requires g z c =
    let m = meant_in c.args.table.now (λ v. (g.dyn-1.0.entry v).1) in
    let s = setting_of c.args.r.now.scale m in
    let t0 = c.args.r.now.tree in
    let h = c.args.h in
    let outer = c.args.outer in
    let laws = c.layouts_are_lawful.ensures s in
    let course = c.course_of-course.result in
    let heard = c.as_slice-told.result.now in
    let heard_is = c.as_slice-told.ensures ∙ c.in_ok-tellings.ensures in
    let first = items_of c.in_ok-asked.asked in
    let duties = first_duties course first (children_at t0 h) in
    let t = c.loop-i.r.tree in
    let i = c.loop-i.i in
    let end = length c.children-i-end.result.now in
    let inv = c.loop-i.invariant in
    record { live = mid_live s outer c.args.duty t0 h c.requires laws t i end duties _ _ inv.0; told = heard_sum t0 h heard heard_is (ready_sum s outer c.args.duty t0 h c.requires (told_below t0 h) refl) }

pub loop-i-2-init : goal.loop-i-2-init
loop-i-2-init g z c =
    let m = meant_in c.args.table.now (λ v. (g.dyn-1.0.entry v).1) in
    let s = setting_of c.args.r.now.scale m in
    let t0 = c.args.r.now.tree in
    let h = c.args.h in
    let outer = c.args.outer in
    let laws = c.layouts_are_lawful.ensures s in
    let course = c.course_of-course.result in
    let first = items_of c.in_ok-asked.asked in
    let duties = first_duties course first (children_at t0 h) in
    let t = c.loop-i.r.tree in
    let i = c.loop-i.i in
    let end = length c.children-i-end.result.now in
    let inv = c.loop-i.invariant in
    let lays = lay_duties (items_of c.in_ok-others.others) in (
      subst (λ (x : Scale). Progress (setting_of x m) outer t t h 0 (length c.children-i-end-2.result.now) lays c.loop-i.steps c.loop-i.steps) (sym inv.1)
          (mid_start s outer c.args.duty t0 h c.requires laws t i end duties _ _ inv.0 (λ less. omega (arith, c.loop-i-test.false, less)) (length c.children-i-end-2.result.now) lays
          (ap (λ (hs : List Handle). length hs) c.children-i-end-2.ensures.value)),
      refl,
      refl,
      leaves_self t h c.loop-i.changed.items,
      omega arith,
      listed_start (setting_of c.loop-i.r.scale m) outer t h lays c.loop-i.changed.items,
      flags_self_listed t c.loop-i.changed.items,
      plugs_self m t,
    )

pub loop-i-2-preserved-in_default-lay_duty : goal.loop-i-2-preserved-in_default-lay_duty
loop-i-2-preserved-in_default-lay_duty g z c =
    let m = meant_in c.args.table.now (λ v. (g.dyn-1.0.entry v).1) in
    let h = c.args.h in
    let outer = c.args.outer in
    let t = c.loop-i.r.tree in
    let rest = items_of c.in_ok-others.others in
    let lays = lay_duties rest in
    let t2 = c.loop-i-2.r.tree in
    let j = c.loop-i-2.i in
    let last = length c.children-i-end-2.result.now in
    let inv2 = c.loop-i-2.invariant in
    let s1 = setting_of c.loop-i.r.scale m in
    let law1 = (c.layouts_are_lawful.ensures s1).lawful in
    let get = sym c.lay_duty.ensures ∙ c.in_default-lay_duty.is in
    let more : suc j ≡ j + 1 = omega arith in (
      subst (λ (n : ℕ). Progress s1 outer t t2 h n last lays c.loop-i.steps c.loop-i-2.steps) more (passed s1 law1 outer t t2 h j last lays _ _ inv2.0 get c.loop-i-2-test.true),
      inv2.1,
      inv2.2,
      inv2.3,
      inv2.4,
      subst (λ (n : ℕ). Listed s1 outer t h n lays c.loop-i.changed.items c.loop-i-2.changed.items) more (listed_passed s1 law1 outer t t2 h j last lays _ _ inv2.0 c.loop-i.changed.items c.loop-i-2.changed.items inv2.5 get c.loop-i-2-test.true),
      inv2.6,
      inv2.7,
    )

pub serve-requires-in-loop-i-2 : goal.serve-requires-in-loop-i-2
serve-requires-in-loop-i-2 g z c = λ κs lives.
    let m = meant_in c.args.table.now (λ v. (g.dyn-1.0.entry v).1) in
    let s = setting_of c.args.r.now.scale m in
    let t0 = c.args.r.now.tree in
    let h = c.args.h in
    let outer = c.args.outer in
    let law = (c.layouts_are_lawful.ensures s).lawful in
    let is0 : IsTree t0 = subst (λ (x : Tree RenderObject). IsTree x) c.tree.ensures c.count_laws.ensures.tree in
    let course = c.course_of-course.result in
    let heard = c.as_slice-told.result.now in
    let first = items_of c.in_ok-asked.asked in
    let duties = first_duties course first (children_at t0 h) in
    let t = c.loop-i.r.tree in
    let i = c.loop-i.i in
    let end = length c.children-i-end.result.now in
    let inv = c.loop-i.invariant in
    let is1 : IsTree t = subst (λ (x : Tree RenderObject). IsTree x) c.tree-2.ensures c.count_laws-2.ensures.tree in
    let rest = items_of c.in_ok-others.others in
    let lays = lay_duties rest in
    let t2 = c.loop-i-2.r.tree in
    let j = c.loop-i-2.i in
    let last = length c.children-i-end-2.result.now in
    let inv2 = c.loop-i-2.invariant in
    let s1 = setting_of c.loop-i.r.scale m in
    let law1 = (c.layouts_are_lawful.ensures s1).lawful in
    let child = c.child_at-child-in-loop-i-2.result in
    let less = c.child_at-child-in-loop-i-2.ensures.smaller (less_now s1 law1 outer t t2 h j last lays _ _ inv2.0 c.loop-i-2-test.true) in
    let size = same_size s law outer t0 t h i end duties _ _ inv.0 is0 is1 in
    let size2 = same_size s1 law1 outer t t2 h j last lays _ _ inv2.0 is1 c.child_at-child-in-loop-i-2.ensures.tree in
    let d = c.decreases in
    let may = rests_may course inv.0.value heard (known_in course first inv.0.kids) rest (c.in_ok-others.ensures inv.0.value inv.0.kids inv.0.turns.stands) j c.in-Some-lay_duty.inner (sym c.lay_duty.ensures ∙ c.in-Some-lay_duty.is) in (
      omega (arith, less, size, size2, d),
      (
        lives,
        subst (λ (x : Scale). IsReadyFor (parts_of (setting_of x m)) t2 child c.in-Some-lay_duty.inner) (sym inv2.1)
            (ready s1 law1 outer t t2 h j last lays _ _ inv2.0 child c.in-Some-lay_duty.inner c.child_at-child-in-loop-i-2.ensures.value c.loop-i-2-test.true may),
      ),
    )

pub loop-i-2-preserved : goal.loop-i-2-preserved
loop-i-2-preserved g z c =
    let m = meant_in c.args.table.now (λ v. (g.dyn-1.0.entry v).1) in
    let h = c.args.h in
    let outer = c.args.outer in
    let t = c.loop-i.r.tree in
    let rest = items_of c.in_ok-others.others in
    let lays = lay_duties rest in
    let t2 = c.loop-i-2.r.tree in
    let j = c.loop-i-2.i in
    let last = length c.children-i-end-2.result.now in
    let inv2 = c.loop-i-2.invariant in
    let s1 = setting_of c.loop-i.r.scale m in
    let law1 = (c.layouts_are_lawful.ensures s1).lawful in
    let get = sym c.lay_duty.ensures ∙ c.in-Some-lay_duty.is in
    let more : suc j ≡ j + 1 = omega arith in
    let child = c.child_at-child-in-loop-i-2.result in
    let t3 = c.serve-in-loop-i-2.new.r.tree in
    let serves = subst (λ (x : Scale). Serves (parts_of (setting_of x m)) outer c.in-Some-lay_duty.inner t2 t3 child c.loop-i-2.steps c.serve-in-loop-i-2.new.steps) inv2.1 c.in_ok-serve-3.ensures.served in (
      subst (λ (n : ℕ). Progress s1 outer t t3 h n last lays c.loop-i.steps c.serve-in-loop-i-2.new.steps) more
          (served_one s1 law1 outer t t2 h j last lays _ _ inv2.0 t3 child c.in-Some-lay_duty.inner _ c.child_at-child-in-loop-i-2.ensures.value c.loop-i-2-test.true get serves),
      c.serve-in-loop-i-2.ensures.scale ∙ inv2.1,
      c.serve-in-loop-i-2.ensures.spent ∙ inv2.2,
      leaves_again t t2 t3 h _ _ _ inv2.3
          (leaves_child t2 t3 h child j _ _ c.child_at-child-in-loop-i-2.ensures.value (less_now s1 law1 outer t t2 h j last lays _ _ inv2.0 c.loop-i-2-test.true) c.in_ok-serve-3.ensures.paints),
      (let so_far = inv2.4 in let some = c.in_ok-serve-3.ensures.few in omega (arith, so_far, some)),
      subst (λ (n : ℕ). Listed s1 outer t h n lays c.loop-i.changed.items c.serve-in-loop-i-2.new.changed.items) more
          (listed_one s1 law1 outer t t2 h j last lays _ _ inv2.0 c.loop-i.changed.items c.loop-i-2.changed.items inv2.5 child c.in-Some-lay_duty.inner c.serve-in-loop-i-2.new.changed.items c.child_at-child-in-loop-i-2.ensures.value c.loop-i-2-test.true get
          (subst (λ (x : Scale). ListsOnce (parts_of (setting_of x m)) outer c.in-Some-lay_duty.inner t2 child c.loop-i-2.changed.items c.serve-in-loop-i-2.new.changed.items) inv2.1 c.in_ok-serve-3.ensures.lists)),
      flags_again t t2 t3 c.loop-i.changed.items c.loop-i-2.changed.items c.serve-in-loop-i-2.new.changed.items inv2.6 c.in_ok-serve-3.ensures.flags,
      plugs_again m t t2 t3 inv2.7 c.in_ok-serve-3.ensures.plugs,
    )

pub finish-requires : goal.finish-requires
finish-requires g z c =
    let m = meant_in c.args.table.now (λ v. (g.dyn-1.0.entry v).1) in
    let s = setting_of c.args.r.now.scale m in
    let t0 = c.args.r.now.tree in
    let h = c.args.h in
    let outer = c.args.outer in
    let laws = c.layouts_are_lawful.ensures s in
    let course = c.course_of-course.result in
    let heard = c.as_slice-told.result.now in
    let told = all_told t0 h heard in
    let heard_is = c.as_slice-told.ensures ∙ c.in_ok-tellings.ensures in
    let told_is = heard_told t0 h heard heard_is in
    let first = items_of c.in_ok-asked.asked in
    let t = c.loop-i.r.tree in
    let i = c.loop-i.i in
    let end = length c.children-i-end.result.now in
    let inv = c.loop-i.invariant in
    let rest = items_of c.in_ok-others.others in
    let lays = lay_duties rest in
    let t2 = c.loop-i-2.r.tree in
    let j = c.loop-i-2.i in
    let last = length c.children-i-end-2.result.now in
    let inv2 = c.loop-i-2.invariant in
    let p2 : Progress s outer t t2 h j last lays c.loop-i.steps c.loop-i-2.steps = subst (λ (x : Scale). Progress (setting_of x m) outer t t2 h j last lays c.loop-i.steps c.loop-i-2.steps) inv.1 inv2.0 in
    let all1 = all_kept s laws.lawful outer t0 t h i end (first_duties course first (children_at t0 h)) _ _ inv.0 heard in
    let all2 = all_kept s laws.lawful outer t t2 h j last lays _ _ p2 heard ∙ all1 in
    let rest_is = rest_told t h heard told all1 course first rest c.in_ok-others.ensures in
    record {
      live = seen_live t2 h p2.value p2.kids p2.turns.stands;
      seen = record { value = p2.value; kids = p2.kids; stands = p2.turns.stands };
      can = subst (λ (ds : List ParentData). CanEndAt course ds first rest t2 h) (sym all2)
          (can_end s laws outer c.args.duty t0 t t2 h course c.requires c.course_of-course.ensures told first rest i end j last _ _ _ told_is c.in_ok-asked.ensures
          inv.0 (λ less. omega (arith, c.loop-i-test.false, less)) rest_is
          p2 (λ less. omega (arith, c.loop-i-2-test.false, less)));
    }

pub returns-clause-served : goal.returns-clause-served
returns-clause-served g z c =
    let m = meant_in c.args.table.now (λ v. (g.dyn-1.0.entry v).1) in
    let s = setting_of c.args.r.now.scale m in
    let t0 = c.args.r.now.tree in
    let h = c.args.h in
    let outer = c.args.outer in
    let laws = c.layouts_are_lawful.ensures s in
    let course = c.course_of-course.result in
    let heard = c.as_slice-told.result.now in
    let told = all_told t0 h heard in
    let heard_is = c.as_slice-told.ensures ∙ c.in_ok-tellings.ensures in
    let told_is = heard_told t0 h heard heard_is in
    let first = items_of c.in_ok-asked.asked in
    let t = c.loop-i.r.tree in
    let i = c.loop-i.i in
    let end = length c.children-i-end.result.now in
    let inv = c.loop-i.invariant in
    let rest = items_of c.in_ok-others.others in
    let lays = lay_duties rest in
    let t2 = c.loop-i-2.r.tree in
    let j = c.loop-i-2.i in
    let last = length c.children-i-end-2.result.now in
    let inv2 = c.loop-i-2.invariant in
    let p2 : Progress s outer t t2 h j last lays c.loop-i.steps c.loop-i-2.steps = subst (λ (x : Scale). Progress (setting_of x m) outer t t2 h j last lays c.loop-i.steps c.loop-i-2.steps) inv.1 inv2.0 in
    let all1 = all_kept s laws.lawful outer t0 t h i end (first_duties course first (children_at t0 h)) _ _ inv.0 heard in
    let all2 = all_kept s laws.lawful outer t t2 h j last lays _ _ p2 heard ∙ all1 in
    let rest_is = rest_told t h heard told all1 course first rest c.in_ok-others.ensures in
    on_ok c.finish.result _ _ (λ ends. walk_serves s laws outer c.args.duty t0 t t2 h course c.requires c.course_of-course.ensures told first rest i end j last _ _ _ told_is c.in_ok-asked.ensures
    inv.0 (λ less. omega (arith, c.loop-i-test.false, less)) rest_is
    p2 (λ less. omega (arith, c.loop-i-2-test.false, less)) c.finish.new.r.tree c.finish.new.steps
    (subst (λ (ds : List ParentData). EndsAs s course ds first rest t2 c.finish.new.r.tree h c.loop-i-2.steps c.finish.new.steps) all2
    (subst (λ (x : Scale). EndsAs (setting_of x m) course (all_told t2 h heard) first rest t2 c.finish.new.r.tree h c.loop-i-2.steps c.finish.new.steps) (inv2.1 ∙ inv.1) ends))) c.finish.ensures.ends

pub returns-in-Stay-clause-paints : goal.returns-in-Stay-clause-paints
returns-in-Stay-clause-paints g t c = leaves_self c.args.r.now.tree c.args.h c.args.changed.now.items

pub returns-clause-paints : goal.returns-clause-paints
returns-clause-paints g z c =
    let t0 = c.args.r.now.tree in
    let t = c.loop-i.r.tree in
    let t2 = c.loop-i-2.r.tree in
    on_ok c.finish.result _ _ (λ changes. leaves_again t0 t2 c.finish.new.r.tree c.args.h _ _ _ (leaves_again t0 t t2 c.args.h _ _ _ c.loop-i.invariant.3 c.loop-i-2.invariant.3) changes.paints) c.finish.ensures.changes

pub returns-in-Stay-clause-few : goal.returns-in-Stay-clause-few
returns-in-Stay-clause-few g t c = omega arith

pub returns-then-is_empty-clause-few : goal.returns-then-is_empty-clause-few
returns-then-is_empty-clause-few g t c = on_ok c.finish_alone.result _ _ (λ changes. changes.few) c.finish_alone.ensures.changes

pub returns-in-Some-clause-few : goal.returns-in-Some-clause-few
returns-in-Some-clause-few g t c =
    let first = c.in_ok-serve.ensures.few in
    on_ok c.run_only.result _ _ (λ changes. let few = changes.few in omega (arith, first, few)) c.run_only.ensures.changes

pub returns-clause-few : goal.returns-clause-few
returns-clause-few g z c =
    let first = c.loop-i.invariant.4 in
    let second = c.loop-i-2.invariant.4 in
    on_ok c.finish.result _ _ (λ changes. let few = changes.few in omega (arith, first, second, few)) c.finish.ensures.changes

pub returns-in-Stay-clause-lists : goal.returns-in-Stay-clause-lists
returns-in-Stay-clause-lists g t c = λ k v kids seen. omega arith

pub returns-then-is_empty-clause-lists : goal.returns-then-is_empty-clause-lists
returns-then-is_empty-clause-lists g t c =
    let m = meant_in c.args.table.now (λ v. (g.dyn-1.0.entry v).1) in
    let s = setting_of c.args.r.now.scale m in
    let t0 = c.args.r.now.tree in
    let h = c.args.h in
    let outer = c.args.outer in
    let laws = c.layouts_are_lawful.ensures s in
    let course = c.course_of-course.result in
    let empty : children_at t0 h ≡ [] = empty_list (children_at t0 h) (ap (λ (hs : List Handle). length hs == 0) (sym c.children.ensures.value) ∙ (sym c.is_empty.ensures ∙ c.if-is_empty.true)) in
    on_both c.finish_alone.result _ _ _ (λ ends changes. alone_lists s laws outer c.args.duty t0 h course c.requires c.course_of-course.ensures empty c.finish_alone.new.r.tree c.args.steps.now c.finish_alone.new.steps c.args.changed.now.items c.finish_alone.new.changed.items changes.lists ends)
    c.finish_alone.ensures.ends c.finish_alone.ensures.changes

pub returns-in-Some-clause-lists : goal.returns-in-Some-clause-lists
returns-in-Some-clause-lists g t c =
    let m = meant_in c.args.table.now (λ v. (g.dyn-1.0.entry v).1) in
    let s = setting_of c.args.r.now.scale m in
    let t0 = c.args.r.now.tree in
    let h = c.args.h in
    let outer = c.args.outer in
    let laws = c.layouts_are_lawful.ensures s in
    let is0 : IsTree t0 = subst (λ (x : Tree RenderObject). IsTree x) c.tree.ensures c.count_laws.ensures.tree in
    let course = c.course_of-course.result in
    let only = c.in-Some.only in
    let has : HasOne s t0 h course only.child only.bounds only.inner = subst (λ (o : Option Only). IfSome o (λ (only : Only). HasOne s t0 h course only.child only.bounds only.inner)) c.in-Some.is c.in_ok-only.ensures in
    let t1 = c.serve.new.r.tree in
    let served = c.in_ok-serve.ensures.served in
    let t2 = c.run_only.new.r.tree in
    on_both c.run_only.result _ _ _ (λ ends changes. one_lists s laws outer c.args.duty t0 h course c.requires c.course_of-course.ensures is0 only.child only.bounds only.inner has c.args.steps.now t1 c.serve.new.steps served t2 c.run_only.new.steps c.args.changed.now.items c.serve.new.changed.items c.run_only.new.changed.items c.in_ok-serve.ensures.lists changes.lists
    (subst (λ (x : Scale). RunsAs (setting_of x m) (AsBox only.bounds) (map (told_at t0) (children_at t0 h)) (Some (AsBox only.inner) ∷ []) (Some (AsBox only.inner) ∷ []) t1 t2 h c.serve.new.steps c.run_only.new.steps) c.serve.ensures.scale (ends only.inner (map (told_at t0) (children_at t0 h))))) c.run_only.ensures.ends c.run_only.ensures.changes

pub returns-clause-lists : goal.returns-clause-lists
returns-clause-lists g z c =
    let m = meant_in c.args.table.now (λ v. (g.dyn-1.0.entry v).1) in
    let s = setting_of c.args.r.now.scale m in
    let t0 = c.args.r.now.tree in
    let h = c.args.h in
    let outer = c.args.outer in
    let laws = c.layouts_are_lawful.ensures s in
    let course = c.course_of-course.result in
    let heard = c.as_slice-told.result.now in
    let told = all_told t0 h heard in
    let heard_is = c.as_slice-told.ensures ∙ c.in_ok-tellings.ensures in
    let told_is = heard_told t0 h heard heard_is in
    let first = items_of c.in_ok-asked.asked in
    let t = c.loop-i.r.tree in
    let i = c.loop-i.i in
    let end = length c.children-i-end.result.now in
    let inv = c.loop-i.invariant in
    let rest = items_of c.in_ok-others.others in
    let lays = lay_duties rest in
    let t2 = c.loop-i-2.r.tree in
    let j = c.loop-i-2.i in
    let last = length c.children-i-end-2.result.now in
    let inv2 = c.loop-i-2.invariant in
    let p2 : Progress s outer t t2 h j last lays c.loop-i.steps c.loop-i-2.steps = subst (λ (x : Scale). Progress (setting_of x m) outer t t2 h j last lays c.loop-i.steps c.loop-i-2.steps) inv.1 inv2.0 in
    let all1 = all_kept s laws.lawful outer t0 t h i end (first_duties course first (children_at t0 h)) _ _ inv.0 heard in
    let all2 = all_kept s laws.lawful outer t t2 h j last lays _ _ p2 heard ∙ all1 in
    let rest_is = rest_told t h heard told all1 course first rest c.in_ok-others.ensures in
    let two : Listed s outer t h j lays c.loop-i.changed.items c.loop-i-2.changed.items = subst (λ (x : Scale). Listed (setting_of x m) outer t h j lays c.loop-i.changed.items c.loop-i-2.changed.items) inv.1 inv2.5 in
    on_both c.finish.result _ _ _ (λ ends changes. walk_lists s laws outer c.args.duty t0 t t2 h course c.requires c.course_of-course.ensures told first rest i end j last _ _ _ told_is c.in_ok-asked.ensures
    inv.0 (λ less. omega (arith, c.loop-i-test.false, less)) rest_is
    p2 (λ less. omega (arith, c.loop-i-2-test.false, less)) c.finish.new.r.tree c.finish.new.steps c.args.changed.now.items c.loop-i.changed.items c.loop-i-2.changed.items c.finish.new.changed.items inv.5 two changes.lists
    (subst (λ (ds : List ParentData). EndsAs s course ds first rest t2 c.finish.new.r.tree h c.loop-i-2.steps c.finish.new.steps) all2
    (subst (λ (x : Scale). EndsAs (setting_of x m) course (all_told t2 h heard) first rest t2 c.finish.new.r.tree h c.loop-i-2.steps c.finish.new.steps) (inv2.1 ∙ inv.1) ends))) c.finish.ensures.ends c.finish.ensures.changes

pub returns-in-Stay-clause-flags : goal.returns-in-Stay-clause-flags
returns-in-Stay-clause-flags g t c = flags_self_listed c.args.r.now.tree c.args.changed.now.items

pub returns-then-is_empty-clause-flags : goal.returns-then-is_empty-clause-flags
returns-then-is_empty-clause-flags g t c =
    let m = meant_in c.args.table.now (λ v. (g.dyn-1.0.entry v).1) in
    let s = setting_of c.args.r.now.scale m in
    let t0 = c.args.r.now.tree in
    let h = c.args.h in
    let outer = c.args.outer in
    let laws = c.layouts_are_lawful.ensures s in
    let course = c.course_of-course.result in
    let empty : children_at t0 h ≡ [] = empty_list (children_at t0 h) (ap (λ (hs : List Handle). length hs == 0) (sym c.children.ensures.value) ∙ (sym c.is_empty.ensures ∙ c.if-is_empty.true)) in
    on_both c.finish_alone.result _ _ _ (λ ends changes. alone_flags s outer c.args.duty course t0 c.finish_alone.new.r.tree h c.requires.value c.args.steps.now c.finish_alone.new.steps c.args.changed.now.items c.finish_alone.new.changed.items
    c.course_of-course.ensures (alone_seen s laws outer c.args.duty t0 h course c.requires c.course_of-course.ensures empty) ends changes.paints)
    c.finish_alone.ensures.ends c.finish_alone.ensures.changes

pub returns-in-Some-clause-flags : goal.returns-in-Some-clause-flags
returns-in-Some-clause-flags g t c =
    let m = meant_in c.args.table.now (λ v. (g.dyn-1.0.entry v).1) in
    let s = setting_of c.args.r.now.scale m in
    let t0 = c.args.r.now.tree in
    let h = c.args.h in
    let outer = c.args.outer in
    let laws = c.layouts_are_lawful.ensures s in
    let is0 : IsTree t0 = subst (λ (x : Tree RenderObject). IsTree x) c.tree.ensures c.count_laws.ensures.tree in
    let course = c.course_of-course.result in
    let only = c.in-Some.only in
    let has : HasOne s t0 h course only.child only.bounds only.inner = subst (λ (o : Option Only). IfSome o (λ (only : Only). HasOne s t0 h course only.child only.bounds only.inner)) c.in-Some.is c.in_ok-only.ensures in
    let t1 = c.serve.new.r.tree in
    let served = c.in_ok-serve.ensures.served in
    let t2 = c.run_only.new.r.tree in
    on_both c.run_only.result _ _ _ (λ ends changes. one_flags s laws outer c.args.duty t0 h course c.requires c.course_of-course.ensures is0 only.child only.bounds only.inner has c.args.steps.now t1 c.serve.new.steps served t2 c.run_only.new.steps c.args.changed.now.items c.serve.new.changed.items c.run_only.new.changed.items c.in_ok-serve.ensures.flags changes.paints
    (subst (λ (x : Scale). RunsAs (setting_of x m) (AsBox only.bounds) (map (told_at t0) (children_at t0 h)) (Some (AsBox only.inner) ∷ []) (Some (AsBox only.inner) ∷ []) t1 t2 h c.serve.new.steps c.run_only.new.steps) c.serve.ensures.scale (ends only.inner (map (told_at t0) (children_at t0 h))))) c.run_only.ensures.ends c.run_only.ensures.changes

pub returns-clause-flags : goal.returns-clause-flags
returns-clause-flags g z c =
    let m = meant_in c.args.table.now (λ v. (g.dyn-1.0.entry v).1) in
    let s = setting_of c.args.r.now.scale m in
    let t0 = c.args.r.now.tree in
    let h = c.args.h in
    let outer = c.args.outer in
    let course = c.course_of-course.result in
    let heard = c.as_slice-told.result.now in
    let first = items_of c.in_ok-asked.asked in
    let duties = first_duties course first (children_at t0 h) in
    let t = c.loop-i.r.tree in
    let i = c.loop-i.i in
    let end = length c.children-i-end.result.now in
    let inv = c.loop-i.invariant in
    let rest = items_of c.in_ok-others.others in
    let lays = lay_duties rest in
    let t2 = c.loop-i-2.r.tree in
    let j = c.loop-i-2.i in
    let last = length c.children-i-end-2.result.now in
    let inv2 = c.loop-i-2.invariant in
    let told = all_told t2 h heard in
    let p2 : Progress s outer t t2 h j last lays c.loop-i.steps c.loop-i-2.steps = subst (λ (x : Scale). Progress (setting_of x m) outer t t2 h j last lays c.loop-i.steps c.loop-i-2.steps) inv.1 inv2.0 in
    on_both c.finish.result _ _ _ (λ ends changes. walk_flags s outer c.args.duty course t0 t t2 c.finish.new.r.tree h i end j last _ _ _ c.finish.new.steps duties lays told first rest
    c.args.changed.now.items c.loop-i.changed.items c.loop-i-2.changed.items c.finish.new.changed.items c.course_of-course.ensures inv.0 p2 inv.6 inv2.6
    (subst (λ (x : Scale). EndsAs (setting_of x m) course told first rest t2 c.finish.new.r.tree h c.loop-i-2.steps c.finish.new.steps) (inv2.1 ∙ inv.1) ends) changes.paints) c.finish.ensures.ends c.finish.ensures.changes

pub returns-in-Stay-clause-plugs : goal.returns-in-Stay-clause-plugs
returns-in-Stay-clause-plugs g t c = plugs_self (meant_in c.args.table.now (λ v. (g.dyn-1.0.entry v).1)) c.args.r.now.tree

pub returns-then-is_empty-clause-plugs : goal.returns-then-is_empty-clause-plugs
returns-then-is_empty-clause-plugs g t c =
    let m = meant_in c.args.table.now (λ v. (g.dyn-1.0.entry v).1) in
    let s = setting_of c.args.r.now.scale m in
    let t0 = c.args.r.now.tree in
    let h = c.args.h in
    let outer = c.args.outer in
    let laws = c.layouts_are_lawful.ensures s in
    let course = c.course_of-course.result in
    let empty : children_at t0 h ≡ [] = empty_list (children_at t0 h) (ap (λ (hs : List Handle). length hs == 0) (sym c.children.ensures.value) ∙ (sym c.is_empty.ensures ∙ c.if-is_empty.true)) in
    on_ok c.finish_alone.result _ _ (λ ends. alone_plugs s course t0 c.finish_alone.new.r.tree h c.requires.value c.args.steps.now c.finish_alone.new.steps
    (alone_seen s laws outer c.args.duty t0 h course c.requires c.course_of-course.ensures empty) ends) c.finish_alone.ensures.ends

pub returns-in-Some-clause-plugs : goal.returns-in-Some-clause-plugs
returns-in-Some-clause-plugs g t c =
    let m = meant_in c.args.table.now (λ v. (g.dyn-1.0.entry v).1) in
    let s = setting_of c.args.r.now.scale m in
    let t0 = c.args.r.now.tree in
    let h = c.args.h in
    let outer = c.args.outer in
    let laws = c.layouts_are_lawful.ensures s in
    let is0 : IsTree t0 = subst (λ (x : Tree RenderObject). IsTree x) c.tree.ensures c.count_laws.ensures.tree in
    let course = c.course_of-course.result in
    let only = c.in-Some.only in
    let has : HasOne s t0 h course only.child only.bounds only.inner = subst (λ (o : Option Only). IfSome o (λ (only : Only). HasOne s t0 h course only.child only.bounds only.inner)) c.in-Some.is c.in_ok-only.ensures in
    let t1 = c.serve.new.r.tree in
    let served = c.in_ok-serve.ensures.served in
    let t2 = c.run_only.new.r.tree in
    on_ok c.run_only.result _ _ (λ ends. one_plugs s laws outer c.args.duty t0 h course c.requires c.course_of-course.ensures is0 only.child only.bounds only.inner has c.args.steps.now t1 c.serve.new.steps served t2 c.run_only.new.steps c.in_ok-serve.ensures.plugs
    (subst (λ (x : Scale). RunsAs (setting_of x m) (AsBox only.bounds) (map (told_at t0) (children_at t0 h)) (Some (AsBox only.inner) ∷ []) (Some (AsBox only.inner) ∷ []) t1 t2 h c.serve.new.steps c.run_only.new.steps) c.serve.ensures.scale (ends only.inner (map (told_at t0) (children_at t0 h))))) c.run_only.ensures.ends

pub returns-clause-plugs : goal.returns-clause-plugs
returns-clause-plugs g z c =
    let m = meant_in c.args.table.now (λ v. (g.dyn-1.0.entry v).1) in
    let s = setting_of c.args.r.now.scale m in
    let t0 = c.args.r.now.tree in
    let h = c.args.h in
    let outer = c.args.outer in
    let course = c.course_of-course.result in
    let heard = c.as_slice-told.result.now in
    let first = items_of c.in_ok-asked.asked in
    let t = c.loop-i.r.tree in
    let inv = c.loop-i.invariant in
    let rest = items_of c.in_ok-others.others in
    let lays = lay_duties rest in
    let t2 = c.loop-i-2.r.tree in
    let j = c.loop-i-2.i in
    let last = length c.children-i-end-2.result.now in
    let inv2 = c.loop-i-2.invariant in
    let told = all_told t2 h heard in
    let p2 : Progress s outer t t2 h j last lays c.loop-i.steps c.loop-i-2.steps = subst (λ (x : Scale). Progress (setting_of x m) outer t t2 h j last lays c.loop-i.steps c.loop-i-2.steps) inv.1 inv2.0 in
    on_ok c.finish.result _ _ (λ ends. walk_plugs s outer course t0 t t2 c.finish.new.r.tree h j last _ _ c.finish.new.steps lays told first rest inv.7 p2 inv2.7
    (subst (λ (x : Scale). EndsAs (setting_of x m) course told first rest t2 c.finish.new.r.tree h c.loop-i-2.steps c.finish.new.steps) (inv2.1 ∙ inv.1) ends)) c.finish.ensures.ends
