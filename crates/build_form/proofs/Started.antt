-- Where a build begins, and what comes of its first phase.
use Rattle.std.proofs.Common.{◌≡◌, ℕ, ◌-◌, ◌^◌, ◌<◌, ◌≤◌, min, eqb, not, length, Bor, nat_lt, Bool, true, false, cond, Option, Some, None, IfSome, List, [], ◌∷◌, ◌++◌, map, refl, sym, ap, ◌∙◌, subst, arith}
use Rattle.std.proofs.lemmas.Bool.{lt-ltb, le-ltb, ne_eqb}
use Rattle.fx_expr.specs.declared.values.Value.{Value}
use Rattle.sliver_layout.specs.declared.protocol.Window.{Window}
use Rattle.widget_model.specs.declared.widgets.Widget.{Widget}
use Rattle.widget_model.specs.Plain.{PlainWidget}
use Rattle.widget_model.specs.Sized.{IsSized}
use Rattle.widget_model.specs.View.{plain_of}
use Rattle.widget_model.specs.Size.{count_of}
use Rattle.widget_model.specs.Typed.{Declarations, IsTypedWidget}
use Rattle.widget_model.specs.Update.{updates}
use Rattle.plain_tree.specs.PlainNode.{PlainNode, node, PlainNodes, no_nodes, more_nodes, nodes_of, widget_of}
use Rattle.plain_tree.specs.States.{preorder_of, preorder_in}
use Rattle.build_form.specs.Step.{Fault, output_too_large, Progress, stops, gives, and_then}
use Rattle.build_form.specs.Partner.{Arrival, holder_in, root_arrival, has_global}
use Rattle.build_form.specs.Lent.{lent}
use Rattle.build_form.specs.Entering.{Blueprint, Basis, first, output_limit, enter}
use Rattle.build_form.specs.FullBuild.{Ranges, Screen, failed, built, built_by, live_ranges, filled, second_phase, started, basis, first_tree, both_phases, full_build}
use Rattle.build_form.specs.WellBuilt.{IsWellBuilt, AreWellBuilt, IsTypedArrival, AreTypedHolders}
use Rattle.build_form.proofs.Entered.{found_built}

-- ---- the old tree

built_append : (d : Declarations) (xs ys : List PlainNode) → AreWellBuilt d (nodes_of xs) → AreWellBuilt d (nodes_of ys) → AreWellBuilt d (nodes_of (xs ++ ys))
built_append d [] ys h k = k
built_append d (x ∷ xs) ys h k = (h.0, built_append d xs ys h.1 k)

mutual
  preorder_built : (d : Declarations) (n : PlainNode) → IsWellBuilt d n → AreWellBuilt d (nodes_of (preorder_of n))
  preorder_built d (node number widget fields scroll index children) h = (h, preorders_built d children h.1)

  preorders_built : (d : Declarations) (ns : PlainNodes) → AreWellBuilt d ns → AreWellBuilt d (nodes_of (preorder_in ns))
  preorders_built d no_nodes h = tt
  preorders_built d (more_nodes n ns) h = built_append d (preorder_of n) (preorder_in ns) (preorder_built d n h.0) (preorders_built d ns h.1)

pub holders_built : (d : Declarations) (old : Option PlainNode) (holder : Value → Option PlainNode) → IfSome old (IsWellBuilt d) → ((k : Value) → holder k ≡ holder_in old k) → AreTypedHolders d holder
holders_built d None holder h same = λ k. subst (λ o. IfSome o (IsWellBuilt d)) (sym (same k)) tt
holders_built d (Some n) holder h same = λ k. subst (λ o. IfSome o (IsWellBuilt d)) (sym (same k)) (found_built d (preorder_of n) (has_global k) (preorder_built d n h))

if_built : (d : Declarations) (b : Bool) (n : PlainNode) → IsWellBuilt d n → IfSome (cond b (Some n) None) (IsWellBuilt d)
if_built d true n h = h
if_built d false n h = tt

pub root_typed : (d : Declarations) (old : Option PlainNode) (w : PlainWidget) → IfSome old (IsWellBuilt d) → IsTypedWidget d w → IsTypedArrival d (root_arrival old w)
root_typed d None w h t = record { widget = t; beside = tt }
root_typed d (Some n) w h t = record { widget = t; beside = if_built d (updates (widget_of n) w) n h }

-- ---- the beginning

pub basis_same : (b : Blueprint) (holder : Value → Option PlainNode) (old : Option PlainNode) → ((k : Value) → holder k ≡ holder_in old k) → record { program = b; holder = holder } ≡ basis b old
basis_same b holder old same = λ at. record { program = b; holder = λ k. same k at }

pub start_same : (met : Value → Bool) (waiting : List (Option PlainNode)) (next : ℕ) → ((k : Value) → met k ≡ false) → waiting ≡ [] → record { entered = 0; met = met; next = next; waiting = waiting } ≡ started next
start_same met waiting next none empty = λ at. record { entered = 0; met = λ k. none k at; next = next; waiting = empty at }

-- ---- what comes of it

-- whether a lazy list waits for its items
abbrev pub are_waiting : List (Option PlainNode) → Bool
are_waiting [] = false
are_waiting (partner ∷ others) = true

pub nothing_waits : (from : Basis) (ranges : PlainNode → Ranges) (tree : PlainNode) (waiting : List (Option PlainNode)) (s : Progress) → are_waiting waiting ≡ false → second_phase from ranges tree waiting s ≡ gives tree s
nothing_waits from ranges tree [] s e = refl
nothing_waits from ranges tree (p ∷ ps) s e = cc

something_waits : (from : Basis) (ranges : PlainNode → Ranges) (tree : PlainNode) (waiting : List (Option PlainNode)) (s : Progress) → are_waiting waiting ≡ true
    → second_phase from ranges tree waiting s ≡ filled from (ranges tree) 512 from.program.defaults tree s
something_waits from ranges tree [] s e = cc
something_waits from ranges tree (p ∷ ps) s e = refl

pub second_as_filled : (from : Basis) (given : PlainNode → Ranges) (tree : PlainNode) (waiting : List (Option PlainNode)) (s : Progress) (ranges : Ranges) (values : List Value) → are_waiting waiting ≡ true
    → ranges ≡ given tree → values ≡ from.program.defaults → second_phase from given tree waiting s ≡ filled from ranges 512 values tree s
second_as_filled from given tree waiting s ranges values some same start =
    something_waits from given tree waiting s some
    ∙ sym (ap (λ r. filled from r 512 from.program.defaults tree s) same)
    ∙ sym (ap (λ vs. filled from ranges 512 vs tree s) start)

module _ (b : Blueprint) (screen : Screen) (old : Option PlainNode) (next : ℕ) (root : PlainWidget) where
  pub root_too_large : nat_lt output_limit (count_of root) ≡ true → full_build b screen old next root ≡ failed output_too_large
  unfolding full_build
  root_too_large large = rw large refl

  pub first_fails : (f : Fault) → nat_lt output_limit (count_of root) ≡ false → first_tree b old next root ≡ stops f → full_build b screen old next root ≡ failed f
  unfolding full_build both_phases
  first_fails f small stopped =
      rw small (ap (λ r. built_by (and_then r (λ tree s. second_phase (basis b old) (live_ranges screen) tree s.waiting s))) stopped)

  module _ (from : Basis) (of_basis : from ≡ basis b old) (tree : PlainNode) (s : Progress) (small : nat_lt output_limit (count_of root) ≡ false) (first_done : first_tree b old next root ≡ gives tree s) where
    pub second_fails : (f : Fault) → second_phase from (live_ranges screen) tree s.waiting s ≡ stops f → full_build b screen old next root ≡ failed f
    unfolding full_build both_phases
    second_fails f stopped =
        rw small (ap (λ r. built_by (and_then r (λ t u. second_phase (basis b old) (live_ranges screen) t u.waiting u))) first_done ∙ ap built_by (ap (λ x. second_phase x (live_ranges screen) tree s.waiting s) (sym of_basis) ∙ stopped))

    pub both_done : (whole : PlainNode) (t : Progress) → second_phase from (live_ranges screen) tree s.waiting s ≡ gives whole t → full_build b screen old next root ≡ built whole t.next
    unfolding full_build both_phases
    both_done whole t done =
        rw small (ap (λ r. built_by (and_then r (λ n u. second_phase (basis b old) (live_ranges screen) n u.waiting u))) first_done ∙ ap built_by (ap (λ x. second_phase x (live_ranges screen) tree s.waiting s) (sym of_basis) ∙ done))

module _ (b : Blueprint) (old : Option PlainNode) (next : ℕ) (root : PlainWidget) where
  pub same_first : (from : Basis) (values : List Value) (a : Arrival) (s : Progress) → from ≡ basis b old → values ≡ b.defaults → a ≡ root_arrival old root → s ≡ started next
      → first_tree b old next root ≡ enter from first 512 values a s
  same_first from values a s of_basis of_values of_root of_start =
      sym (ap (λ x. enter x first 512 values a s) of_basis
      ∙ ap (λ x. enter (basis b old) first 512 x a s) of_values
      ∙ ap (λ x. enter (basis b old) first 512 b.defaults x s) of_root
      ∙ ap (λ x. enter (basis b old) first 512 b.defaults (root_arrival old root) x) of_start)

-- ---- the size of the root

pub large_root : (w v : Widget) → v ≡ w → IsSized w → 65536 < v.size → nat_lt output_limit (count_of (plain_of w)) ≡ true
large_root w v e sized large =
    let size : v.size ≡ min (count_of (plain_of w)) (2 ^ 32 - 1) = ap (λ (x : Widget). x.size) e ∙ sized in
    let n = count_of (plain_of w) in
    let low : 65536 < n = omega arith in
    lt-ltb 65536 n low

pub small_root : (w v : Widget) → v ≡ w → IsSized w → v.size ≤ 65536 → nat_lt output_limit (count_of (plain_of w)) ≡ false
small_root w v e sized small =
    let size : v.size ≡ min (count_of (plain_of w)) (2 ^ 32 - 1) = ap (λ (x : Widget). x.size) e ∙ sized in
    let n = count_of (plain_of w) in
    let low : n ≤ 65536 = omega arith in
    le-ltb 65536 n low

pub waits_when : (items : List (Option (Bor PlainNode))) (n : ℕ) → n ≡ length items → are_waiting (map lent items) ≡ not (eqb n 0)
waits_when [] n e = rw e refl
waits_when (x ∷ xs) n e = sym (ap not (ne_eqb n 0 (λ z. absurd (omega arith))))
