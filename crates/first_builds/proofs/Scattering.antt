-- What is reached in an arena of which each value was changed.
use Rattle.std.proofs.Common.{◌≡◌, ◌==◌, ◌+◌, ℕ, zero, suc, Bool, true, false, cond, List, [], ◌∷◌, map, Option, Some, None, IsSome, option_map, slice_index_or, count_by, insert, refl, sym, ap, ◌∙◌, arith}
use Rattle.std.proofs.lemmas.List.Sums.{sum_by-cons}
use Rattle.fx_handles.specs.declared.Handle.{Handle}
use Rattle.fx_handles.specs.Arena.{Arena, get, held, is_used, is_retired, generation_at, used_count, retired_count, inserted_count}
use Rattle.fx_handles.specs.Handle.{same}
use Rattle.node_tree.specs.Edits.{Adds}
use Rattle.node_tree.specs.Forest.{TreeNode, with_child}
use Rattle.node_tree.specs.Tree.{Tree, node_at}
use Rattle.render_tree.specs.Edits.{new_object}
use Rattle.render_tree.specs.Object.{RenderObject}
use Rattle.first_builds.specs.Scattered.{arena_map, scattered_node, scattered}

module _ {T U : Type 0} (f : T → U) where
  abbrev slot : Option (Option T) → Option (Option U)
  slot s = option_map (λ o. option_map f o) s

  held_map : (s : Option (Option T)) → held (slot s) ≡ option_map f (held s)
  held_map None = refl
  held_map (Some o) = refl

  slot_map : (slots : List (Option (Option T))) (i : ℕ) → slice_index_or (map slot slots) i None ≡ slot (slice_index_or slots i None)
  slot_map [] i = refl
  slot_map (s ∷ slots) zero = refl
  slot_map (s ∷ slots) (suc i) = slot_map slots i

  get_if : (b : Bool) (o : Option T) → cond b (option_map f o) None ≡ option_map f (cond b o None)
  get_if true o = refl
  get_if false o = refl

  pub get_map : (a : Arena T) (h : Handle) → get (arena_map f a) h ≡ option_map f (get a h)
  unfolding get
  get_map a h =
      ap (λ (o : Option U). cond (h.generation == generation_at a h.index) o None) (ap held (slot_map a.slots h.index) ∙ held_map (slice_index_or a.slots h.index None))
      ∙ get_if (h.generation == generation_at a h.index) (held (slice_index_or a.slots h.index None))

  used_slot : (s : Option (Option T)) → is_used (slot s) ≡ is_used s
  used_slot None = refl
  used_slot (Some None) = refl
  used_slot (Some (Some v)) = refl

  retired_slot : (s : Option (Option T)) → is_retired (slot s) ≡ is_retired s
  retired_slot None = refl
  retired_slot (Some None) = refl
  retired_slot (Some (Some v)) = refl

  counts : (p : Option (Option U) → Bool) (q : Option (Option T) → Bool) → ((s : Option (Option T)) → p (slot s) ≡ q s) → (slots : List (Option (Option T))) → count_by p (map slot slots) ≡ count_by q slots
  counts p q same [] = refl
  counts p q same (s ∷ slots) =
      let one : cond {A = ℕ} (p (slot s)) 1 0 ≡ cond {A = ℕ} (q s) 1 0 = ap (λ b. cond {A = ℕ} b 1 0) (same s) in
      let a = sum_by-cons (λ x. cond {A = ℕ} (p x) 1 0) (slot s) (map slot slots) in
      let b = sum_by-cons (λ x. cond {A = ℕ} (q x) 1 0) s slots in
      let c = counts p q same slots in
      omega (arith, one, a, b, c)

  pub used_map : (a : Arena T) → used_count (arena_map f a) ≡ used_count a
  used_map a = counts is_used is_used used_slot a.slots

  pub retired_map : (a : Arena T) → retired_count (arena_map f a) ≡ retired_count a
  retired_map a = counts is_retired is_retired retired_slot a.slots

  pub inserted_map : (a : Arena T) → inserted_count (arena_map f a) ≡ inserted_count a
  inserted_map a = let e = used_map a in omega (arith, e)

  pub live_map : (o : Option T) → IsSome (option_map f o) → IsSome o
  live_map None live = absurd (cc)
  live_map (Some x) live = refl

-- what stands at a handle
pub scattered_at : (r : Tree RenderObject) (k : Handle) → node_at (scattered r) k ≡ option_map scattered_node (node_at r k)
scattered_at r k = get_map scattered_node r.nodes k

-- ---- a node is added

same_alone : (q : Option Handle) (i : ℕ) (h k : Handle) (n : TreeNode RenderObject) → scattered_node (with_child q i h k n) ≡ scattered_node n
same_alone None i h k n = refl
same_alone (Some p) i h k n = by (same k p)
  where
    by : (b : Bool) → scattered_node (cond b (record n { children = insert n.children i h }) n) ≡ scattered_node n
    by true = refl
    by false = refl

alone_as : (q : Option Handle) (i : ℕ) (h k : Handle) (o : Option (TreeNode RenderObject)) → option_map scattered_node (option_map (with_child q i h k) o) ≡ option_map (with_child None 0 h k) (option_map scattered_node o)
alone_as q i h k None = refl
alone_as q i h k (Some n) = ap (λ (m : TreeNode RenderObject). Some m) (same_alone q i h k n)

-- where it is put doesn't count
pub scattered_adds : (old new : Tree RenderObject) (q : Option Handle) (i : ℕ) (h : Handle) (v : RenderObject) → Adds old.nodes new.nodes q i h v
    → Adds (scattered old).nodes (scattered new).nodes None 0 h (new_object v.number v.widget)
scattered_adds old new q i h v adds = record {
  was_absent = get_map scattered_node old.nodes h ∙ ap (option_map scattered_node) adds.was_absent;
  was_not_spent = adds.was_not_spent;
  found = get_map scattered_node new.nodes h ∙ ap (option_map scattered_node) adds.found;
  others = λ k other.
      get_map scattered_node new.nodes k ∙ ap (option_map scattered_node) (adds.others k other) ∙ alone_as q i h k (get old.nodes k)
      ∙ ap (option_map (with_child None 0 h k)) (sym (get_map scattered_node old.nodes k));
  generations = adds.generations;
  spent = adds.spent;
  used = let a = used_map scattered_node new.nodes in let b = used_map scattered_node old.nodes in let c = adds.used in omega (arith, a, b, c);
  retired = retired_map scattered_node new.nodes ∙ adds.retired ∙ sym (retired_map scattered_node old.nodes);
  generation_sum = adds.generation_sum;
  inserted = inserted_map scattered_node new.nodes ∙ adds.inserted ∙ ap (λ n. n + 1) (sym (inserted_map scattered_node old.nodes));
}
