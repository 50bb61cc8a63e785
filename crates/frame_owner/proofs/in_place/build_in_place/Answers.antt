use Rattle.std.proofs.Common.{◌≡◌, ℕ, ◌+◌, Some, None, Ok, IfOk, IfErr, IfSome, List, length, ap, sym, subst, arith}
use Rattle.std.proofs.lemmas.Result.{err_from_is_err_and}
use Rattle.fx_handles.specs.declared.Handle.{Handle}
use Rattle.node_tree.specs.Tree.{Tree}
use Rattle.program_check.specs.CheckedView.{plain_checked}
use Rattle.build_form.specs.FaultView.{fault_of}
use Rattle.build_form.specs.FullBuild.{Screen, failed, full_build}
use Rattle.build_form.specs.Program.{blueprint_of}
use Rattle.build_form.proofs.Outcomes.{some_map}
use Rattle.element_tree.specs.Element.{Element, Elements}
use Rattle.build_walk.specs.Standing.{all_builds}
use Rattle.build_owner.specs.Standing.{next_at}
use Rattle.renewed_builds.specs.Regiving.{IsToRegive, IsRegiven}
use Rattle.renewed_builds.specs.Several.{IsStaleTree, AreRenewed, AreLeft}
use Rattle.renewed_builds.specs.Stale.{IsStaleElement, IsRenewed, IsLeftToBuild}
use Rattle.frame_owner.specs.InPlace.{LeavesInPlace, CannotBuildInPlace}
use Rattle.frame_owner.proofs.Going.{held_by, some_both, ok_then, ok_both, err_then, on_ok_then, handles_on}
use Rattle.frame_owner.proofs.InPlace as place
use Rattle.frame_owner.proofs.in_place.build_in_place.Goals as goal

pub renew-requires : goal.renew-requires
renew-requires g c = c.requires

-- ---- the component's body stops the build

pub returns-in_err-renewed-clause-fault : goal.returns-in_err-renewed-clause-fault
returns-in_err-renewed-clause-fault g c =
    let q = err_from_is_err_and c.from_residual.result c.from_residual.ensures.1 in
    rw (q.1, q.2) c.in_err-renewed.ensures.fault

pub returns-in_err-renewed-clause-builds_at_fault : goal.returns-in_err-renewed-clause-builds_at_fault
returns-in_err-renewed-clause-builds_at_fault g c =
    let q = err_from_is_err_and c.from_residual.result c.from_residual.ensures.1 in
    let p = plain_checked c.args.checked.now in
    rw (q.1, q.2) (some_map _ _ (fault_of c.in_err-renewed.field-0.0) (λ f is. λ x screen.
    let one = is.0 in
    let all = is.1 x screen in
    let here : c.renew.new.builds ≡ c.args.builds.now + all_builds (blueprint_of p) screen (Some x.tree) x.marks (next_at c.args.t.now.tree) x.root = omega (arith, one, all) in
    here) (some_both _ _ (fault_of c.in_err-renewed.field-0.0) c.in_err-renewed.ensures.builds_at_fault c.in_err-renewed.ensures.all_builds_at_fault))

-- ---- it was taken

pub returns-in-Some-clause-built : goal.returns-in-Some-clause-built
returns-in-Some-clause-built g c = λ x.
    let p = plain_checked c.args.checked.now in
    let t = c.args.t.now.tree in
    let u = c.renew.new.t.tree in
    let cs = c.in-Some.changes.items in
    let r : IsRenewed p t u c.args.h x cs = held_by c.in_ok-renewed.renewed c.in-Some.changes (λ changes. (y : IsStaleElement p t c.args.h) → IsRenewed p t u c.args.h y changes.items) c.in-Some.is c.in_ok-renewed.ensures.renewed x in
    place.component_built p t c.args.h x c.number_laws.ensures.once c.first_components_stand.ensures.node u cs r c.steps_lead.ensures c.retaken_trees_are_ready.ensures c.projections_are_rearranged.ensures c.built_trees_vanish_alone.ensures
    c.args.builds.now c.renew.new.builds c.in_ok-renewed.ensures.builds

-- ---- no Inherit takes another value

pub regive-requires : goal.regive-requires
regive-requires g c =
    let x = c.requires in
    let p = plain_checked c.args.checked.now in
    let t = c.args.t.now.tree in
    let h = c.args.h in
    let m = c.renew.new.t.tree in
    let l : IsLeftToBuild p t m h x = c.in_ok-renewed.ensures.left c.in_default.is x in
    let numbers = c.in_ok-renewed.ensures.numbers in
    let made : next_at m ≡ next_at t = ap (λ (k : ℕ). k + 1) c.in_ok-renewed.ensures.handles.inserted in
    place.to_regive p t h x m l numbers made

pub returns-in_default-regiven-clause-left : goal.returns-in_default-regiven-clause-left
returns-in_default-regiven-clause-left g c = λ none x.
    let p = plain_checked c.args.checked.now in
    let t = c.args.t.now.tree in
    let h = c.args.h in
    let m = c.renew.new.t.tree in
    let l : IsLeftToBuild p t m h x = c.in_ok-renewed.ensures.left c.in_default.is x in
    let numbers = c.in_ok-renewed.ensures.numbers in
    let made : next_at m ≡ next_at t = ap (λ (k : ℕ). k + 1) c.in_ok-renewed.ensures.handles.inserted in
    let same = c.in_ok-regiven.ensures.refused (ap Ok c.in_default-regiven.is) in
    subst (λ (q : Tree Element). LeavesInPlace p t q h x c.args.builds.now c.renew.new.builds) (sym (ap (λ (e : Elements). e.tree) same.0))
    (place.left_there p t h x m l c.left_steps_lead.ensures c.args.builds.now c.renew.new.builds c.in_ok-renewed.ensures.builds)

pub returns-in_default-regiven-clause-cannot : goal.returns-in_default-regiven-clause-cannot
returns-in_default-regiven-clause-cannot g c = λ none x.
    let p = plain_checked c.args.checked.now in
    let t = c.args.t.now.tree in
    let h = c.args.h in
    let m = c.renew.new.t.tree in
    let l : IsLeftToBuild p t m h x = c.in_ok-renewed.ensures.left c.in_default.is x in
    let numbers = c.in_ok-renewed.ensures.numbers in
    let made : next_at m ≡ next_at t = ap (λ (k : ℕ). k + 1) c.in_ok-renewed.ensures.handles.inserted in
    let same = c.in_ok-regiven.ensures.refused (ap Ok c.in_default-regiven.is) in
    subst (λ (q : Tree Element). CannotBuildInPlace p t q h x) (sym (ap (λ (e : Elements). e.tree) same.0)) (place.cannot_there p t h x m l same.1)

pub returns-in_default-regiven-clause-names : goal.returns-in_default-regiven-clause-names
returns-in_default-regiven-clause-names g c = λ q is.
    c.in_ok-regiven.ensures.names q (c.in_ok-renewed.ensures.names q is)

pub returns-in_default-regiven-clause-handles : goal.returns-in_default-regiven-clause-handles
returns-in_default-regiven-clause-handles g c =
    handles_on c.in_ok-renewed.ensures.handles c.in_ok-regiven.ensures.handles

-- ---- each reader is built

pub renew_all-requires : goal.renew_all-requires
renew_all-requires g c =
    let x = c.requires in
    let p = plain_checked c.args.checked.now in
    let t = c.args.t.now.tree in
    let h = c.args.h in
    let m = c.renew.new.t.tree in
    let l : IsLeftToBuild p t m h x = c.in_ok-renewed.ensures.left c.in_default.is x in
    let numbers = c.in_ok-renewed.ensures.numbers in
    let made : next_at m ≡ next_at t = ap (λ (k : ℕ). k + 1) c.in_ok-renewed.ensures.handles.inserted in
    let z = place.to_regive p t h x m l numbers made in
    let v = c.regive.new.t.tree in
    let hs = c.in-Some-regiven.readers.items in
    let given : IsRegiven p m v h z hs = held_by c.in_ok-regiven.regiven c.in-Some-regiven.readers (λ readers. (o : IsToRegive p m h) → IsRegiven p m v h o readers.items) c.in-Some-regiven.is c.in_ok-regiven.ensures.regiven z in
    let made_then : next_at v ≡ next_at m = ap (λ (k : ℕ). k + 1) c.in_ok-regiven.ensures.handles.inserted in
    subst (IsStaleTree p v) (sym c.as_slice.ensures.value) (place.stale_tree p t h x m l numbers made v hs given made_then)

pub returns-clause-built : goal.returns-clause-built
returns-clause-built g c =
    let p = plain_checked c.args.checked.now in
    let v = c.regive.new.t.tree in
    let r = c.renew_all.result in
    let u = c.renew_all.new.t.tree in
    let value = c.as_slice.ensures.value in
    let before = c.args.builds.now in
    let mid = c.renew.new.builds in
    let after = c.renew_all.new.builds in
    let all = subst (λ (ks : List Handle). IfOk r (λ o. IfSome o (λ changes. (y : IsStaleTree p v ks) → AreRenewed p v u ks y changes.items))) value c.renew_all.ensures.renewed in
    let many = subst (λ (ks : List Handle). IfOk r (λ o. IfSome o (λ changes. after ≡ mid + length ks))) value c.renew_all.ensures.builds in
    ok_then _ _ r (λ o is. some_map _ _ o (λ changes one. λ x.
    let p = plain_checked c.args.checked.now in
    let t = c.args.t.now.tree in
    let h = c.args.h in
    let m = c.renew.new.t.tree in
    let l : IsLeftToBuild p t m h x = c.in_ok-renewed.ensures.left c.in_default.is x in
    let numbers = c.in_ok-renewed.ensures.numbers in
    let made : next_at m ≡ next_at t = ap (λ (k : ℕ). k + 1) c.in_ok-renewed.ensures.handles.inserted in
    let z = place.to_regive p t h x m l numbers made in
    let v = c.regive.new.t.tree in
    let hs = c.in-Some-regiven.readers.items in
    let given : IsRegiven p m v h z hs = held_by c.in_ok-regiven.regiven c.in-Some-regiven.readers (λ readers. (o : IsToRegive p m h) → IsRegiven p m v h o readers.items) c.in-Some-regiven.is c.in_ok-regiven.ensures.regiven z in
    let made_then : next_at v ≡ next_at m = ap (λ (k : ℕ). k + 1) c.in_ok-regiven.ensures.handles.inserted in
    let y = place.stale_tree p t h x m l numbers made v hs given made_then in
    place.readers_built p t h x m l numbers made v hs given made_then c.steps_follow_on.ensures.follow c.in_ok-regiven.ensures.keeps c.in_ok-regiven.ensures.numbers c.in_ok-renewed.ensures.names c.in_ok-regiven.ensures.names u changes.items (one.0 y)
    before mid after c.in_ok-renewed.ensures.builds one.1) (some_both _ _ o is.0 is.1)) (ok_both _ _ r all many)

pub returns-clause-left : goal.returns-clause-left
returns-clause-left g c =
    let p = plain_checked c.args.checked.now in
    let v = c.regive.new.t.tree in
    let r = c.renew_all.result in
    let u = c.renew_all.new.t.tree in
    let value = c.as_slice.ensures.value in
    let before = c.args.builds.now in
    let mid = c.renew.new.builds in
    let after = c.renew_all.new.builds in
    let all = subst (λ (ks : List Handle). IfOk r (λ o. o ≡ None → (y : IsStaleTree p v ks) → (built : ℕ) × (after ≡ mid + built) × AreLeft p v u ks y built)) value c.renew_all.ensures.left in
    ok_then _ _ r (λ o is. λ none x.
    let p = plain_checked c.args.checked.now in
    let t = c.args.t.now.tree in
    let h = c.args.h in
    let m = c.renew.new.t.tree in
    let l : IsLeftToBuild p t m h x = c.in_ok-renewed.ensures.left c.in_default.is x in
    let numbers = c.in_ok-renewed.ensures.numbers in
    let made : next_at m ≡ next_at t = ap (λ (k : ℕ). k + 1) c.in_ok-renewed.ensures.handles.inserted in
    let z = place.to_regive p t h x m l numbers made in
    let v = c.regive.new.t.tree in
    let hs = c.in-Some-regiven.readers.items in
    let given : IsRegiven p m v h z hs = held_by c.in_ok-regiven.regiven c.in-Some-regiven.readers (λ readers. (o : IsToRegive p m h) → IsRegiven p m v h o readers.items) c.in-Some-regiven.is c.in_ok-regiven.ensures.regiven z in
    let made_then : next_at v ≡ next_at m = ap (λ (k : ℕ). k + 1) c.in_ok-regiven.ensures.handles.inserted in
    let a = is none (place.stale_tree p t h x m l numbers made v hs given made_then) in
    place.readers_left p t h x m l numbers made v hs given made_then c.first_phases_go_on_alike.ensures c.in_ok-regiven.ensures.keeps u a.0 a.2 before mid after c.in_ok-renewed.ensures.builds a.1) all

pub returns-clause-cannot : goal.returns-clause-cannot
returns-clause-cannot g c =
    let p = plain_checked c.args.checked.now in
    let v = c.regive.new.t.tree in
    let r = c.renew_all.result in
    let u = c.renew_all.new.t.tree in
    let value = c.as_slice.ensures.value in
    let before = c.args.builds.now in
    let mid = c.renew.new.builds in
    let after = c.renew_all.new.builds in
    let all = subst (λ (ks : List Handle). IfOk r (λ o. o ≡ None → (y : IsStaleTree p v ks) → (built : ℕ) × (after ≡ mid + built) × AreLeft p v u ks y built)) value c.renew_all.ensures.left in
    ok_then _ _ r (λ o is. λ none x.
    let p = plain_checked c.args.checked.now in
    let t = c.args.t.now.tree in
    let h = c.args.h in
    let m = c.renew.new.t.tree in
    let l : IsLeftToBuild p t m h x = c.in_ok-renewed.ensures.left c.in_default.is x in
    let numbers = c.in_ok-renewed.ensures.numbers in
    let made : next_at m ≡ next_at t = ap (λ (k : ℕ). k + 1) c.in_ok-renewed.ensures.handles.inserted in
    let z = place.to_regive p t h x m l numbers made in
    let v = c.regive.new.t.tree in
    let hs = c.in-Some-regiven.readers.items in
    let given : IsRegiven p m v h z hs = held_by c.in_ok-regiven.regiven c.in-Some-regiven.readers (λ readers. (o : IsToRegive p m h) → IsRegiven p m v h o readers.items) c.in-Some-regiven.is c.in_ok-regiven.ensures.regiven z in
    let made_then : next_at v ≡ next_at m = ap (λ (k : ℕ). k + 1) c.in_ok-regiven.ensures.handles.inserted in
    let a = is none (place.stale_tree p t h x m l numbers made v hs given made_then) in
    place.cannot_readers p t h x m l numbers made v hs given made_then u a.0 a.2) all

pub returns-clause-fault : goal.returns-clause-fault
returns-clause-fault g c =
    let p = plain_checked c.args.checked.now in
    let v = c.regive.new.t.tree in
    let r = c.renew_all.result in
    let u = c.renew_all.new.t.tree in
    let value = c.as_slice.ensures.value in
    let before = c.args.builds.now in
    let mid = c.renew.new.builds in
    let after = c.renew_all.new.builds in
    let all = subst (λ (ks : List Handle). IfErr r (λ e. IfSome (fault_of e) (λ f. (y : IsStaleTree p v ks) (screen : Screen) → full_build (blueprint_of p) screen (Some y.tree) (next_at v) y.root ≡ failed f))) value c.renew_all.ensures.fault in
    err_then _ _ r (λ e is. some_map _ _ (fault_of e) (λ f stops. λ x screen.
    let p = plain_checked c.args.checked.now in
    let t = c.args.t.now.tree in
    let h = c.args.h in
    let m = c.renew.new.t.tree in
    let l : IsLeftToBuild p t m h x = c.in_ok-renewed.ensures.left c.in_default.is x in
    let numbers = c.in_ok-renewed.ensures.numbers in
    let made : next_at m ≡ next_at t = ap (λ (k : ℕ). k + 1) c.in_ok-renewed.ensures.handles.inserted in
    let z = place.to_regive p t h x m l numbers made in
    let v = c.regive.new.t.tree in
    let hs = c.in-Some-regiven.readers.items in
    let given : IsRegiven p m v h z hs = held_by c.in_ok-regiven.regiven c.in-Some-regiven.readers (λ readers. (o : IsToRegive p m h) → IsRegiven p m v h o readers.items) c.in-Some-regiven.is c.in_ok-regiven.ensures.regiven z in
    let made_then : next_at v ≡ next_at m = ap (λ (k : ℕ). k + 1) c.in_ok-regiven.ensures.handles.inserted in
    place.readers_stop p t h x m l numbers made v hs given made_then screen f (stops (place.stale_tree p t h x m l numbers made v hs given made_then) screen)) is) all

pub returns-clause-builds_at_fault : goal.returns-clause-builds_at_fault
returns-clause-builds_at_fault g c =
    let p = plain_checked c.args.checked.now in
    let v = c.regive.new.t.tree in
    let r = c.renew_all.result in
    let u = c.renew_all.new.t.tree in
    let value = c.as_slice.ensures.value in
    let before = c.args.builds.now in
    let mid = c.renew.new.builds in
    let after = c.renew_all.new.builds in
    let all = subst (λ (ks : List Handle). IfErr r (λ e. IfSome (fault_of e) (λ f. (y : IsStaleTree p v ks) (screen : Screen) → after ≡ mid + all_builds (blueprint_of p) screen (Some y.tree) y.marks (next_at v) y.root))) value c.renew_all.ensures.builds_at_fault in
    err_then _ _ r (λ e is. some_map _ _ (fault_of e) (λ f counted. λ x screen.
    let p = plain_checked c.args.checked.now in
    let t = c.args.t.now.tree in
    let h = c.args.h in
    let m = c.renew.new.t.tree in
    let l : IsLeftToBuild p t m h x = c.in_ok-renewed.ensures.left c.in_default.is x in
    let numbers = c.in_ok-renewed.ensures.numbers in
    let made : next_at m ≡ next_at t = ap (λ (k : ℕ). k + 1) c.in_ok-renewed.ensures.handles.inserted in
    let z = place.to_regive p t h x m l numbers made in
    let v = c.regive.new.t.tree in
    let hs = c.in-Some-regiven.readers.items in
    let given : IsRegiven p m v h z hs = held_by c.in_ok-regiven.regiven c.in-Some-regiven.readers (λ readers. (o : IsToRegive p m h) → IsRegiven p m v h o readers.items) c.in-Some-regiven.is c.in_ok-regiven.ensures.regiven z in
    let made_then : next_at v ≡ next_at m = ap (λ (k : ℕ). k + 1) c.in_ok-regiven.ensures.handles.inserted in
    place.readers_counted p t h x m l numbers made v hs given made_then screen before mid after c.in_ok-renewed.ensures.builds (counted (place.stale_tree p t h x m l numbers made v hs given made_then) screen)) is) all

pub returns-clause-names : goal.returns-clause-names
returns-clause-names g c =
    on_ok_then _ _ c.renew_all.result (λ law. λ q is. law q (c.in_ok-regiven.ensures.names q (c.in_ok-renewed.ensures.names q is))) c.renew_all.ensures.names

pub returns-clause-handles : goal.returns-clause-handles
returns-clause-handles g c =
    on_ok_then _ _ c.renew_all.result (λ more. handles_on (handles_on c.in_ok-renewed.ensures.handles c.in_ok-regiven.ensures.handles) more) c.renew_all.ensures.handles
