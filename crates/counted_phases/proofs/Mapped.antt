-- A tree with each value changed by what is at its handle.
use Rattle.std.proofs.Common.{◌≡◌, ℕ, zero, suc, eqb, Option, Some, None, option_map, List, [], ◌∷◌, get_or, refl, sym, ap, ◌∙◌, inl, inr, eq-eqb, eqb-true}
use Rattle.std.proofs.lemmas.Bool.{cases_Bool, true≢false}
use Rattle.fx_handles.specs.declared.Handle.{Handle}
use Rattle.fx_handles.specs.Arena.{Arena, get, held, generation_at}
use Rattle.fx_handles.specs.ArenaLaws.{get-agree, get-differ}
use Rattle.node_tree.specs.Forest.{TreeNode}
use Rattle.node_tree.specs.Children.{MapsValues}
use Rattle.node_tree.specs.Tree.{Tree}

module _ {X : Type 0} where
  -- what each slot holds, changed by its place
  pub slots_mapped : (ℕ → X → X) → List (Option (Option X)) → List (Option (Option X))
  slots_mapped g [] = []
  slots_mapped g (s ∷ ss) = option_map (option_map (g 0)) s ∷ slots_mapped (λ i. g (suc i)) ss

  slot_mapped : (g : ℕ → X → X) (ss : List (Option (Option X))) (i : ℕ) → held (get_or (slots_mapped g ss) i None) ≡ option_map (g i) (held (get_or ss i None))
  unfolding slots_mapped
  slot_mapped g [] i = refl
  slot_mapped g (None ∷ ss) zero = refl
  slot_mapped g (Some x ∷ ss) zero = refl
  slot_mapped g (s ∷ ss) (suc i) = slot_mapped (λ j. g (suc j)) ss i

  abbrev pub reaching : Arena X → ℕ → Handle
  reaching a i = record { index = i; generation = generation_at a i }

  abbrev pub arena_mapped : (Handle → X → X) → Arena X → Arena X
  arena_mapped g a = record { slots = slots_mapped (λ i. g (reaching a i)) a.slots; generations = a.generations }

  pub get_mapped : (g : Handle → X → X) (a : Arena X) (h : Handle) → get (arena_mapped g a) h ≡ option_map (g h) (get a h)
  get_mapped g a h = elim (cases_Bool (eqb h.generation (generation_at a h.index))) [
    | inl e ↦
        let agree : h.generation ≡ generation_at a h.index = eqb-true h.generation (generation_at a h.index) e in
        let here : reaching a h.index ≡ h = λ i. record { index = h.index; generation = sym agree i } in
        get-agree (arena_mapped g a) h agree
        ∙ (slot_mapped (λ i. g (reaching a i)) a.slots h.index
        ∙ (ap (λ k. option_map (g k) (held (get_or a.slots h.index None))) here ∙ ap (option_map (g h)) (sym (get-agree a h agree))))
    | inr e ↦
        let other : h.generation ≡ generation_at a h.index → ⊥ = λ agree. true≢false (sym (eq-eqb h.generation (generation_at a h.index) agree) ∙ e) in
        get-differ (arena_mapped g a) h other ∙ ap (option_map (g h)) (sym (get-differ a h other))
  ]

module _ {T : Type 0} where
  abbrev pub node_mapped : (Handle → T → T) → Handle → TreeNode T → TreeNode T
  node_mapped g k n = record n { value = g k n.value }

  -- the same nodes with these values
  abbrev pub tree_mapped : (Handle → T → T) → Tree T → Tree T
  tree_mapped g t = record t { nodes = arena_mapped (node_mapped g) t.nodes }

  pub maps_tree : (g : Handle → T → T) (t : Tree T) → MapsValues g t (tree_mapped g t)
  maps_tree g t k = get_mapped (node_mapped g) t.nodes k
