-- Widgets that are matched one by one, and the node that is the partner of one.
use Rattle.std.proofs.Common.{◌≡◌, ℕ, zero, suc, ◌<◌, ◌≤◌, Bool, true, false, ◌&&◌, cond, Option, Some, None, List, [], ◌∷◌, map, length, refl, sym, ap, ◌∙◌, subst, arith}
use Rattle.std.specs.List.{range_with_len}
use Rattle.std.proofs.lemmas.List.{ext_get_or}
use Rattle.std.proofs.lemmas.List.FromFn.{get_or-map-range_with_len, length-map-range_with_len}
use Rattle.std.proofs.lemmas.Option.{get_or_from_slice_get}
use Rattle.fx_expr.specs.declared.values.Value.{Value}
use Rattle.widget_keys.specs.declared.keys.Key.{Key}
use Rattle.widget_keys.specs.declared.keys.Key.TheVariants as key
use Rattle.widget_model.specs.Plain.{PlainWidget, key_of}
use Rattle.widget_model.specs.Update.{key_eq, same_type, updates}
use Rattle.reconcile.specs.Laws.{CanUpdateAt, each_place}
use Rattle.reconcile.specs.Matching.{matching, prefix_len}
use Rattle.reconcile.proofs.LawLemmas.{length-matching, front_kept, front_greatest}
use Rattle.reconcile.proofs.Updates.{updates_key}
use Rattle.plain_tree.specs.PlainNode.{PlainNode, widget_of}
use Rattle.build_form.specs.Partner.{arrival, of_type, candidate, partner_of}
use Rattle.settled_builds.specs.Settled.{IsHeld}

-- ---- matched one by one

abbrev pub AllUpdate : List PlainWidget → List PlainWidget → Type 0
AllUpdate [] [] = Unit {0}
AllUpdate [] (b ∷ bs) = ⊥
AllUpdate (a ∷ xs) [] = ⊥
AllUpdate (a ∷ xs) (b ∷ bs) = (updates a b ≡ true) × AllUpdate xs bs

can_at : (olds news : List PlainWidget) (i : ℕ) → AllUpdate olds news → i < length news → CanUpdateAt olds news i i
can_at [] [] i h low = absurd (omega arith)
can_at [] (b ∷ bs) i h low = absurd h
can_at (a ∷ xs) [] i h low = absurd h
can_at (a ∷ xs) (b ∷ bs) zero h low = (a, b, refl, refl, h.0)
can_at (a ∷ xs) (b ∷ bs) (suc i) h low = can_at xs bs i h.1 (omega arith)

pub matched_in_order : (olds news : List PlainWidget) → AllUpdate olds news → matching olds news ≡ map (λ (i : ℕ). Some i) (each_place (length news))
matched_in_order olds news h =
    let front : length news ≤ prefix_len olds news = (front_greatest olds news).1 (length news) (λ i low. can_at olds news i h low) in
    ext_get_or None (matching olds news) (map (λ (i : ℕ). Some i) (range_with_len 0 (length news)))
    (length-matching olds news ∙ sym (length-map-range_with_len (λ (i : ℕ). Some i) 0 (length news)))
    (λ i low.
    let long = length-matching olds news in
    let below : i < length news = omega (arith, low, long) in
    get_or_from_slice_get (matching olds news) i (Some i) None (front_kept olds news i (omega (arith, below, front)))
    ∙ sym (get_or-map-range_with_len (λ (j : ℕ). Some j) 0 (length news) i i None below (omega arith)))

-- ---- what a widget that a node can be updated to goes on from

left_holds : (a b : Bool) → (a && b) ≡ true → a ≡ true
left_holds true b e = refl
left_holds false b e = cc

candidate_fellow : (holder : Value → Option PlainNode) (q : Key Value) (n : PlainNode) → IsHeld holder q n → candidate q holder (Some n) ≡ Some n
candidate_fellow holder key.None n h = refl
candidate_fellow holder (key.Local k) n h = refl
candidate_fellow holder (key.Global k) n h = h

pub partner_is_fellow : (holder : Value → Option PlainNode) (n : PlainNode) (w : PlainWidget) (index : ℕ) → updates (widget_of n) w ≡ true → IsHeld holder (key_of (widget_of n)) n
    → partner_of holder (arrival w index (Some n)) ≡ Some n
partner_is_fellow holder n w index u h =
    ap (of_type w) (candidate_fellow holder (key_of w) n (subst (λ (q : Key Value). IsHeld holder q n) (updates_key (widget_of n) w u) h))
    ∙ ap (λ (b : Bool). cond {A = Option PlainNode} b (Some n) None) (left_holds (same_type (widget_of n) w) (key_eq (key_of (widget_of n)) (key_of w)) u)
