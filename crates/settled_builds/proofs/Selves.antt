-- Nodes that arrive beside themselves.
use Rattle.std.proofs.Common.{◌≡◌, ℕ, suc, ◌+◌, ◌≤◌, Bool, true, false, ◌&&◌, cond, Option, Some, None, List, [], ◌∷◌, map, length, refl, sym, ap, ◌∙◌, arith}
use Rattle.std.specs.List.{range_with_len}
use Rattle.std.proofs.lemmas.Bool.{eq-eqb, ne_eqb}
use Rattle.std.proofs.lemmas.List.{length-map}
use Rattle.fx_expr.specs.declared.values.Value.{Value}
use Rattle.widget_keys.specs.declared.keys.Key.{Key}
use Rattle.widget_keys.specs.declared.keys.Key.TheVariants as key
use Rattle.widget_model.specs.Plain.{PlainWidget, look_of, key_of}
use Rattle.widget_model.specs.Plain.{children_of as child_widgets}
use Rattle.widget_model.specs.Update.{key_eq, same_type}
use Rattle.reconcile.specs.Matching.{matching}
use Rattle.reconcile.proofs.LawLemmas.{matching_itself}
use Rattle.reconcile.proofs.Updates.{updates_itself}
use Rattle.plain_tree.specs.PlainNode.{PlainNode, node, PlainNodes, list_of, widget_of, index_of}
use Rattle.build_form.specs.BuildRole.{build_role_of, is_lazy}
use Rattle.build_form.specs.Partner.{Arrival, arrival, node_at, arrivals_from, arrivals, of_type, candidate, partner_of}
use Rattle.settled_builds.specs.Settled.{StandInOrder, IsHeld}

-- a node's widget, at the node's place, beside the node
abbrev pub itself : PlainNode → Arrival
itself n = arrival (widget_of n) (index_of n) (Some n)

abbrev pub selves : List PlainNode → List Arrival
selves [] = []
selves (n ∷ ns) = itself n ∷ selves ns

-- ---- the child widgets of a node, matched to its children

found_here : (n : PlainNode) (ns : List PlainNode) (i : ℕ) → index_of n ≡ i → node_at (n ∷ ns) i ≡ Some n
found_here n ns i e = ap (λ b. cond b (Some n) (node_at ns i)) (eq-eqb (index_of n) i e)

later : (j i k : ℕ) → j ≡ i → suc i ≤ k → j ≡ k → ⊥
later j i k e low same = omega arith

found_later : (n : PlainNode) (ns : List PlainNode) (i k : ℕ) → index_of n ≡ i → suc i ≤ k → node_at (n ∷ ns) k ≡ node_at ns k
found_later n ns i k e low = ap (λ b. cond b (Some n) (node_at ns k)) (ne_eqb (index_of n) k (later (index_of n) i k e low))

before : (i k : ℕ) → suc i ≤ k → i ≤ k
before i k low = omega arith

in_order : (all : List PlainNode) (i : ℕ) (ns : List PlainNode) → ((k : ℕ) → i ≤ k → node_at all k ≡ node_at ns k) → StandInOrder i ns
    → arrivals_from all i (map widget_of ns) (map (λ (k : ℕ). Some k) (range_with_len i (length ns))) ≡ selves ns
in_order all i [] at h = refl
in_order all i (n ∷ ns) at h =
    let next : i + 1 ≡ suc i = omega arith in
    let head : arrival (widget_of n) i (node_at all i) ≡ itself n =
    ap (λ (o : Option PlainNode). arrival (widget_of n) i o) (at i (omega arith) ∙ found_here n ns i h.0) ∙ ap (λ (k : ℕ). arrival (widget_of n) k (Some n)) (sym h.0) in
    let tail : arrivals_from all (suc i) (map widget_of ns) (map (λ (k : ℕ). Some k) (range_with_len (i + 1) (length ns))) ≡ selves ns =
    ap (λ (k : ℕ). arrivals_from all (suc i) (map widget_of ns) (map (λ (x : ℕ). Some x) (range_with_len k (length ns)))) next
    ∙ in_order all (suc i) ns (λ k low. at k (before i k low) ∙ found_later n ns i k h.0 low) h.1 in
    λ j. head j ∷ tail j

pub arrivals_are_selves : (number : ℕ) (w : PlainWidget) (fields : List Value) (scroll index : ℕ) (children : PlainNodes) → is_lazy (build_role_of (look_of w)) ≡ false → StandInOrder 0 (list_of children)
    → arrivals (Some (node number w fields scroll index children)) (map widget_of (list_of children)) ≡ selves (list_of children)
arrivals_are_selves number w fields scroll index children other h =
    let ns = list_of children in
    let ws = map widget_of ns in
    ap (λ (b : Bool). arrivals_from ns 0 ws (matching (cond b (child_widgets w) ws) ws)) other
    ∙ ap (arrivals_from ns 0 ws) (matching_itself ws)
    ∙ ap (λ (k : ℕ). arrivals_from ns 0 ws (map (λ (i : ℕ). Some i) (range_with_len 0 k))) (length-map ns widget_of)
    ∙ in_order ns 0 ns (λ k low. refl) h

-- ---- what such a widget goes on from

left_holds : (a b : Bool) → (a && b) ≡ true → a ≡ true
left_holds true b e = refl
left_holds false b e = cc

type_itself : (w : PlainWidget) → same_type w w ≡ true
type_itself w = left_holds (same_type w w) (key_eq (key_of w) (key_of w)) (updates_itself w)

candidate_itself : (holder : Value → Option PlainNode) (q : Key Value) (n : PlainNode) → IsHeld holder q n → candidate q holder (Some n) ≡ Some n
candidate_itself holder key.None n h = refl
candidate_itself holder (key.Local k) n h = refl
candidate_itself holder (key.Global k) n h = h

pub partner_is_itself : (holder : Value → Option PlainNode) (n : PlainNode) → IsHeld holder (key_of (widget_of n)) n → partner_of holder (itself n) ≡ Some n
partner_is_itself holder n h =
    ap (of_type (widget_of n)) (candidate_itself holder (key_of (widget_of n)) n h) ∙ ap (λ (b : Bool). cond {A = Option PlainNode} b (Some n) None) (type_itself (widget_of n))
