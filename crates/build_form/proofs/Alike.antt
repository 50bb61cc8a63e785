-- Changes of fields and of offsets leave what builds ask of the numbers of a tree.
use Rattle.std.proofs.Common.{◌≡◌, ℕ, ◌<◌, ◌==◌, ◌++◌, Bool, true, false, cond, Option, Some, List, ◌∷◌, map, slice_get, refl, sym, ap, ◌∙◌, subst, if◌then◌else◌}
use Rattle.fx_expr.specs.declared.values.Value.{Value}
use Rattle.widget_model.specs.Plain.{PlainWidget, look_of}
use Rattle.widget_model.specs.Plain.{children_of as child_widgets}
use Rattle.plain_tree.specs.PlainNode.{PlainNode, node, PlainNodes, no_nodes, more_nodes, list_of, widget_of, index_of}
use Rattle.plain_tree.specs.At.{numbers_of, numbers_in, is_there, changed_at, changed_in, having_fields, having_scroll}
use Rattle.plain_tree.specs.Laws.{AllDiffer}
use Rattle.plain_tree.specs.Offsets.{scrolled_by, all_scrolled_by}
use Rattle.build_form.specs.BuildRole.{build_role_of, is_lazy}
use Rattle.build_form.specs.Laws.{NumbersAre, AllNumbersAre}
use Rattle.build_form.specs.Numbered.{StandAt, IsInPlace, AreInPlace, IsNumbered}

-- two trees have the same numbers, widgets and places
abbrev mutual
  pub IsAlike : PlainNode → PlainNode → Type 0
  IsAlike (node number w fs s i ns) (node k v gs r j ms) = (k ≡ number) × (v ≡ w) × (j ≡ i) × AreAlike ns ms

  pub AreAlike : PlainNodes → PlainNodes → Type 0
  AreAlike no_nodes no_nodes = Unit {0}
  AreAlike no_nodes (more_nodes m ms) = ⊥
  AreAlike (more_nodes n ns) no_nodes = ⊥
  AreAlike (more_nodes n ns) (more_nodes m ms) = IsAlike n m × AreAlike ns ms

mutual
  alike_itself : (n : PlainNode) → IsAlike n n
  alike_itself (node number w fs s i ns) = (refl, refl, refl, alike_themselves ns)

  alike_themselves : (ns : PlainNodes) → AreAlike ns ns
  alike_themselves no_nodes = tt
  alike_themselves (more_nodes n ns) = (alike_itself n, alike_themselves ns)

-- ---- what alike trees share

mutual
  same_numbers : (n m : PlainNode) → IsAlike n m → numbers_of m ≡ numbers_of n
  same_numbers (node number w fs s i ns) (node k v gs r j ms) h = λ at. h.0 at ∷ same_numbers_in ns ms h.3 at

  same_numbers_in : (ns ms : PlainNodes) → AreAlike ns ms → numbers_in ms ≡ numbers_in ns
  same_numbers_in no_nodes no_nodes h = refl
  same_numbers_in no_nodes (more_nodes m ms) h = absurd h
  same_numbers_in (more_nodes n ns) no_nodes h = absurd h
  same_numbers_in (more_nodes n ns) (more_nodes m ms) h = λ at. same_numbers n m h.0 at ++ same_numbers_in ns ms h.1 at

mutual
  numbers_too : (P : ℕ → Type 0) (n m : PlainNode) → IsAlike n m → NumbersAre P n → NumbersAre P m
  numbers_too P (node number w fs s i ns) (node k v gs r j ms) h g = (subst P (sym h.0) g.0, all_numbers_too P ns ms h.3 g.1)

  all_numbers_too : (P : ℕ → Type 0) (ns ms : PlainNodes) → AreAlike ns ms → AllNumbersAre P ns → AllNumbersAre P ms
  all_numbers_too P no_nodes no_nodes h g = tt
  all_numbers_too P no_nodes (more_nodes m ms) h g = absurd h
  all_numbers_too P (more_nodes n ns) no_nodes h g = absurd h
  all_numbers_too P (more_nodes n ns) (more_nodes m ms) h g = (numbers_too P n m h.0 g.0, all_numbers_too P ns ms h.1 g.1)

same_widget : (n m : PlainNode) → IsAlike n m → widget_of m ≡ widget_of n
same_widget (node number w fs s i ns) (node k v gs r j ms) h = h.1

same_index : (n m : PlainNode) → IsAlike n m → index_of m ≡ index_of n
same_index (node number w fs s i ns) (node k v gs r j ms) h = h.2

same_widgets : (ns ms : PlainNodes) → AreAlike ns ms → map widget_of (list_of ms) ≡ map widget_of (list_of ns)
same_widgets no_nodes no_nodes h = refl
same_widgets no_nodes (more_nodes m ms) h = absurd h
same_widgets (more_nodes n ns) no_nodes h = absurd h
same_widgets (more_nodes n ns) (more_nodes m ms) h = λ at. same_widget n m h.0 at ∷ same_widgets ns ms h.1 at

stand_too : (ws : List PlainWidget) (ns ms : PlainNodes) → AreAlike ns ms → StandAt ws (list_of ns) → StandAt ws (list_of ms)
stand_too ws no_nodes no_nodes h g = tt
stand_too ws no_nodes (more_nodes m ms) h g = absurd h
stand_too ws (more_nodes n ns) no_nodes h g = absurd h
stand_too ws (more_nodes n ns) (more_nodes m ms) h g =
    (ap (slice_get ws) (same_index n m h.0) ∙ g.0 ∙ ap (λ w. Some w) (sym (same_widget n m h.0)), stand_too ws ns ms h.1 g.1)

mutual
  placed_too : (n m : PlainNode) → IsAlike n m → IsInPlace n → IsInPlace m
  placed_too (node number w fs s i ns) (node k v gs r j ms) h g =
      let below : PlainWidget → List PlainWidget → List PlainWidget = λ u us. cond (is_lazy (build_role_of (look_of u))) (child_widgets u) us in
      let list : below w (map widget_of (list_of ns)) ≡ below v (map widget_of (list_of ms)) = λ at. below (sym h.1 at) (sym (same_widgets ns ms h.3) at) in
      (stand_too (below v (map widget_of (list_of ms))) ns ms h.3 (subst (λ us. StandAt us (list_of ns)) list g.0), all_placed_too ns ms h.3 g.1)

  all_placed_too : (ns ms : PlainNodes) → AreAlike ns ms → AreInPlace ns → AreInPlace ms
  all_placed_too no_nodes no_nodes h g = tt
  all_placed_too no_nodes (more_nodes m ms) h g = absurd h
  all_placed_too (more_nodes n ns) no_nodes h g = absurd h
  all_placed_too (more_nodes n ns) (more_nodes m ms) h g = (placed_too n m h.0 g.0, all_placed_too ns ms h.1 g.1)

numbered_too : (next : ℕ) (n m : PlainNode) → IsAlike n m → IsNumbered next n → IsNumbered next m
numbered_too next n m alike h =
    record {
      differ = subst AllDiffer (sym (same_numbers n m alike)) h.differ;
      below = numbers_too (λ number. number < next) n m alike h.below;
      placed = placed_too n m alike h.placed;
    }

-- ---- the changes

alike_by : (b : Bool) (n k m : PlainNode) → IsAlike n k → IsAlike n m → IsAlike n (if b then k else m)
alike_by true n k m h g = h
alike_by false n k m h g = g

all_alike_by : (b : Bool) (ns ks ms : PlainNodes) → AreAlike ns ks → AreAlike ns ms → AreAlike ns (if b then ks else ms)
all_alike_by true ns ks ms h g = h
all_alike_by false ns ks ms h g = g

module _ (f : PlainNode → PlainNode) (alike : (n : PlainNode) → IsAlike n (f n)) (wanted : ℕ) where
  mutual
    changed_alike : (n : PlainNode) → IsAlike n (changed_at f wanted n)
    changed_alike (node number w fs s i ns) =
        alike_by (number == wanted) (node number w fs s i ns) (f (node number w fs s i ns)) (node number w fs s i (changed_in f wanted ns)) (alike (node number w fs s i ns)) (refl, refl, refl, all_changed_alike ns)

    all_changed_alike : (ns : PlainNodes) → AreAlike ns (changed_in f wanted ns)
    all_changed_alike no_nodes = tt
    all_changed_alike (more_nodes n ns) =
        all_alike_by (is_there wanted n) (more_nodes n ns) (more_nodes (changed_at f wanted n) ns) (more_nodes n (changed_in f wanted ns)) (changed_alike n, alike_themselves ns) (alike_itself n, all_changed_alike ns)

fields_alike : (f : PlainNode → List Value) (n : PlainNode) → IsAlike n (having_fields (f n) n)
fields_alike f (node number w fs s i ns) = (refl, refl, refl, alike_themselves ns)

scroll_alike : (scroll : ℕ) (n : PlainNode) → IsAlike n (having_scroll scroll n)
scroll_alike scroll (node number w fs s i ns) = (refl, refl, refl, alike_themselves ns)

mutual
  offsets_alike : (f : ℕ → Option ℕ) (n : PlainNode) → IsAlike n (scrolled_by f n)
  offsets_alike f (node number w fs s i ns) = (refl, refl, refl, all_offsets_alike f ns)

  all_offsets_alike : (f : ℕ → Option ℕ) (ns : PlainNodes) → AreAlike ns (all_scrolled_by f ns)
  all_offsets_alike f no_nodes = tt
  all_offsets_alike f (more_nodes n ns) = (offsets_alike f n, all_offsets_alike f ns)

pub fields_keep : (f : PlainNode → List Value) (wanted next : ℕ) (n : PlainNode) → IsNumbered next n → IsNumbered next (changed_at (λ m. having_fields (f m) m) wanted n)
fields_keep f wanted next n h = numbered_too next n (changed_at (λ m. having_fields (f m) m) wanted n) (changed_alike (λ m. having_fields (f m) m) (fields_alike f) wanted n) h

pub scroll_keeps : (scroll wanted next : ℕ) (n : PlainNode) → IsNumbered next n → IsNumbered next (changed_at (having_scroll scroll) wanted n)
scroll_keeps scroll wanted next n h = numbered_too next n (changed_at (having_scroll scroll) wanted n) (changed_alike (having_scroll scroll) (scroll_alike scroll) wanted n) h

pub offsets_keep : (f : ℕ → Option ℕ) (next : ℕ) (n : PlainNode) → IsNumbered next n → IsNumbered next (scrolled_by f n)
offsets_keep f next n h = numbered_too next n (scrolled_by f n) (offsets_alike f n) h
