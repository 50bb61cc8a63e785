use Rattle.std.proofs.Common.{◌≡◌, nat_lt, false, Option, IfSome, map, refl, sym, ap, subst, ◌∙◌}
use Rattle.std.proofs.lemmas.List.Elements.{All-nil}
use Rattle.std.proofs.lemmas.Result.{err_from_is_err_and}
use Rattle.fx_expr.specs.declared.values.Value.{Value}
use Rattle.widget_model.specs.View.{shared}
use Rattle.program_check.specs.CheckedView.{plain_checked}
use Rattle.template_build.specs.Program.{declarations_of}
use Rattle.plain_tree.specs.PlainNode.{PlainNode, count_of}
use Rattle.build_form.specs.FaultView.{fault_of}
use Rattle.build_form.specs.Lent.{lent}
use Rattle.plain_build.specs.PartnerView.{held}
use Rattle.build_form.specs.Program.{blueprint_of}
use Rattle.plain_build.specs.WalkView.{progress_of, has_met}
use Rattle.build_form.specs.WellBuilt.{IsWellBuilt, IsTypedArrival, AreWaiting}
use Rattle.build_form.proofs.Outcomes.{some_map}
use Rattle.build_form.proofs.Started.{holders_built, root_typed, basis_same, start_same, root_too_large, first_fails, second_fails, both_done, same_first, large_root, small_root}
use Rattle.build_form.proofs.Counted.{first_keeps_to_limit}
use Rattle.plain_build.proofs.Ranged.{few_nodes}
use Rattle.build_form.proofs.Owning.{are_owned}
use Rattle.plain_build.proofs.building.build.Goals as goal

pub returns-then-deref-gt-OUTPUT_LIMIT-clause-fault : goal.returns-then-deref-gt-OUTPUT_LIMIT-clause-fault
returns-then-deref-gt-OUTPUT_LIMIT-clause-fault g c =
    root_too_large (blueprint_of (plain_checked c.args.checked.now)) _ (lent c.args.old) c.args.next (shared c.args.root.now)
    (large_root c.args.root.now.value c.deref.result.now c.deref.ensures c.requires.size c.if-deref-gt-OUTPUT_LIMIT.true)

pub enter-requires-clause-holders : goal.enter-requires-clause-holders
enter-requires-clause-holders g c =
    holders_built (declarations_of (plain_checked c.args.checked.now)) (lent c.args.old) (λ k. held c.in_ok-holders_in.field-0 k) c.requires.old c.in_ok-holders_in.ensures

pub enter-requires-clause-waiting : goal.enter-requires-clause-waiting
enter-requires-clause-waiting g c =
    let D = declarations_of (plain_checked c.args.checked.now) in
    subst (λ ns. AreWaiting D (map lent ns)) (sym c.new-2.ensures.items) (All-nil (λ (o : Option PlainNode). IfSome o (IsWellBuilt D)))

pub enter-requires-clause-arrival : goal.enter-requires-clause-arrival
enter-requires-clause-arrival g c =
    let D = declarations_of (plain_checked c.args.checked.now) in
    subst (IsTypedArrival D) (sym c.in_ok-arrival.ensures) (root_typed D (lent c.args.old) (shared c.args.root.now) c.requires.old c.requires.root)

pub returns-in_err-tree-clause-fault : goal.returns-in_err-tree-clause-fault
returns-in_err-tree-clause-fault g c =
    let p = err_from_is_err_and c.from_residual-in_err-tree.result c.from_residual-in_err-tree.ensures.1 in
    let b = blueprint_of (plain_checked c.args.checked.now) in
    let old = lent c.args.old in
    let root = shared c.args.root.now in
    let small = small_root c.args.root.now.value c.deref.result.now c.deref.ensures c.requires.size c.if-deref-gt-OUTPUT_LIMIT.false in
    let none : (k : Value) → has_met c.new.result k ≡ false = λ k. rw c.new.ensures.empty refl in
    let same = same_first b old c.args.next root _ _ _ _ (basis_same b (λ k. held c.in_ok-holders_in.field-0 k) old c.in_ok-holders_in.ensures)
    (c.as_mut_slice.ensures.value ∙ c.in_ok-values.ensures.values) c.in_ok-arrival.ensures (start_same (λ k. has_met c.new.result k) (map lent c.new-2.result.items) c.args.next none (ap (map lent) c.new-2.ensures.items)) in
    rw (p.1, p.2) (some_map _ _ (fault_of c.in_err-tree.field-0.0) (λ f h. first_fails b _ old c.args.next root f small (same ∙ h)) c.in_err-tree.ensures.fault)

pub second_phase-requires-clause-holders : goal.second_phase-requires-clause-holders
second_phase-requires-clause-holders g c =
    holders_built (declarations_of (plain_checked c.args.checked.now)) (lent c.args.old) (λ k. held c.in_ok-holders_in.field-0 k) c.requires.old c.in_ok-holders_in.ensures

pub second_phase-requires-clause-few : goal.second_phase-requires-clause-few
second_phase-requires-clause-few g c =
    let b = blueprint_of (plain_checked c.args.checked.now) in
    let old = lent c.args.old in
    let root = shared c.args.root.now in
    let none : (k : Value) → has_met c.new.result k ≡ false = λ k. rw c.new.ensures.empty refl in
    let same = same_first b old c.args.next root _ _ _ _ (basis_same b (λ k. held c.in_ok-holders_in.field-0 k) old c.in_ok-holders_in.ensures)
    (c.as_mut_slice.ensures.value ∙ c.in_ok-values.ensures.values) c.in_ok-arrival.ensures (start_same (λ k. has_met c.new.result k) (map lent c.new-2.result.items) c.args.next none (ap (map lent) c.new-2.ensures.items)) in
    few_nodes (count_of c.in_ok-tree.tree) (nat_lt (plain_checked c.args.checked.now).version 3) (first_keeps_to_limit b old c.args.next root c.in_ok-tree.tree (progress_of c.enter.new.walk) (same ∙ c.in_ok-tree.ensures.ok))

pub returns-in_err-second_phase-clause-fault : goal.returns-in_err-second_phase-clause-fault
returns-in_err-second_phase-clause-fault g c =
    let p = err_from_is_err_and c.from_residual-in_err-second_phase.result c.from_residual-in_err-second_phase.ensures.1 in
    let b = blueprint_of (plain_checked c.args.checked.now) in
    let old = lent c.args.old in
    let root = shared c.args.root.now in
    let small = small_root c.args.root.now.value c.deref.result.now c.deref.ensures c.requires.size c.if-deref-gt-OUTPUT_LIMIT.false in
    let none : (k : Value) → has_met c.new.result k ≡ false = λ k. rw c.new.ensures.empty refl in
    let of_basis = basis_same b (λ k. held c.in_ok-holders_in.field-0 k) old c.in_ok-holders_in.ensures in
    let same = same_first b old c.args.next root _ _ _ _ of_basis
    (c.as_mut_slice.ensures.value ∙ c.in_ok-values.ensures.values) c.in_ok-arrival.ensures (start_same (λ k. has_met c.new.result k) (map lent c.new-2.result.items) c.args.next none (ap (map lent) c.new-2.ensures.items)) in
    rw (p.1, p.2) (some_map _ _ (fault_of c.in_err-second_phase.field-0.0)
    (λ f h. second_fails b _ old c.args.next root _ of_basis c.in_ok-tree.tree (progress_of c.enter.new.walk) small (same ∙ c.in_ok-tree.ensures.ok) f h) c.in_err-second_phase.ensures.fault)

pub returns-clause-ok : goal.returns-clause-ok
returns-clause-ok g c =
    let b = blueprint_of (plain_checked c.args.checked.now) in
    let old = lent c.args.old in
    let root = shared c.args.root.now in
    let small = small_root c.args.root.now.value c.deref.result.now c.deref.ensures c.requires.size c.if-deref-gt-OUTPUT_LIMIT.false in
    let none : (k : Value) → has_met c.new.result k ≡ false = λ k. rw c.new.ensures.empty refl in
    let of_basis = basis_same b (λ k. held c.in_ok-holders_in.field-0 k) old c.in_ok-holders_in.ensures in
    let same = same_first b old c.args.next root _ _ _ _ of_basis
    (c.as_mut_slice.ensures.value ∙ c.in_ok-values.ensures.values) c.in_ok-arrival.ensures (start_same (λ k. has_met c.new.result k) (map lent c.new-2.result.items) c.args.next none (ap (map lent) c.new-2.ensures.items)) in
    both_done b _ old c.args.next root _ of_basis c.in_ok-tree.tree (progress_of c.enter.new.walk) small (same ∙ c.in_ok-tree.ensures.ok) c.second_phase.new.tree (progress_of c.second_phase.new.walk) c.in_ok-second_phase.ensures.ok

pub returns-clause-owned : goal.returns-clause-owned
returns-clause-owned g c =
    λ own. are_owned (plain_checked c.args.checked.now) _ (lent c.args.old) c.args.next _ (shared c.args.root.now) c.second_phase.new.tree c.in_ok-values.ensures.checked (returns-clause-ok g c) c.in_ok-second_phase.ensures.built own
