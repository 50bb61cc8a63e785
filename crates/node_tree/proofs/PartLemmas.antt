-- Lemmas on the steps of the commit of a plan for a part.
use Rattle.std.proofs.Common.{◌≡◌, ◌≢◌, ℕ, ◌+◌, ◌<◌, ◌≤◌, Bool, true, false, cond, List, length, get_or, Option, Some, None, IsSome, option_map, refl, sym, ap, ◌∙◌, inl, inr, arith}
use Rattle.std.proofs.lemmas.Bool.{cases_eq, cases_lt}
use Rattle.std.proofs.lemmas.List.{get_or_past}
use Rattle.fx_handles.specs.declared.Handle.{Handle}
use Rattle.fx_handles.specs.Arena.{Arena, get, with_value}
use Rattle.fx_handles.specs.HandleLaws.{cases_same}
use Rattle.fx_handles.specs.ArenaLaws.{live-same_slot}
use Rattle.node_tree.specs.Forest.{TreeNode}
use Rattle.node_tree.specs.Edits.{KeepsHandles}
use Rattle.node_tree.specs.Trims.{marked, trimmed, trimmed_at, Trims}
use Rattle.node_tree.proofs.TreeLemmas.{is_node}
use Rattle.node_tree.proofs.EditLemmas.{get-with_value_same, get-with_value_other, keeps_self, keeps_then}

nothing : {X : Type 0} (o : Option X) → (IsSome o → ⊥) → o ≡ None
nothing None dead = refl
nothing (Some x) dead = absurd (dead refl)

module _ {T : Type 0} where
  -- the live node of a slot is trimmed, and no other handle of the slot reaches anything
  pub trimmed_here : (a : Arena (TreeNode T)) (h k : Handle) (n m : TreeNode T) (named : List Bool) (spoken : Bool) → get a h ≡ Some n → m ≡ trimmed named spoken n → k.index ≡ h.index
      → get (with_value a h m) k ≡ option_map (trimmed named spoken) (get a k)
  trimmed_here a h k n m named spoken live is here =
      elim (cases_same k h) [
        | inl e ↦ ap (get (with_value a h m)) e ∙ get-with_value_same a h n m live ∙ ap Some is ∙ sym (ap (option_map (trimmed named spoken)) (ap (get a) e ∙ live))
        | inr ne ↦
            let dead : get a k ≡ None = nothing (get a k) (λ there. absurd (ne (live-same_slot a h k (is_node (get a h) n live) there here))) in
            get-with_value_other a h n m k live ne ∙ dead ∙ sym (ap (option_map (trimmed named spoken)) dead)
      ]

  -- the nodes of the slots below i have been trimmed
  pub record Trimming (named spoken : List Bool) (i : ℕ) (old new : Arena (TreeNode T)) : Type 0 where
    pub early : (k : Handle) → k.index < i → get new k ≡ option_map (trimmed_at named spoken k) (get old k)
    pub later : (k : Handle) → i ≤ k.index → get new k ≡ get old k
    pub handles : KeepsHandles old new

  pub trimming-start : (named spoken : List Bool) (a : Arena (TreeNode T)) → Trimming named spoken 0 a a
  trimming-start named spoken a = record { early = λ k below. absurd (omega arith); later = λ k le. refl; handles = keeps_self a }

  untouched : (named spoken : List Bool) (k : Handle) → marked named k ≡ true → (o : Option (TreeNode T)) → option_map (trimmed_at named spoken k) o ≡ o
  untouched named spoken k e None = refl
  untouched named spoken k e (Some n) = ap Some (ap (λ b. cond b n (trimmed named (marked spoken k) n)) e)

  trims_one : (named spoken : List Bool) (k : Handle) → marked named k ≡ false → (o : Option (TreeNode T)) → option_map (trimmed_at named spoken k) o ≡ option_map (trimmed named (marked spoken k)) o
  trims_one named spoken k e None = refl
  trims_one named spoken k e (Some n) = ap Some (ap (λ b. cond b n (trimmed named (marked spoken k) n)) e)

  pub trimming-kept : (named spoken : List Bool) (i : ℕ) (old a : Arena (TreeNode T)) → Trimming named spoken i old a → get_or named i true ≡ true → Trimming named spoken (i + 1) old a
  trimming-kept named spoken i old a so_far is_marked =
      record {
        early = λ k below. elim (cases_eq k.index i) [
          | inl here ↦ so_far.later k (omega arith) ∙ sym (untouched named spoken k (ap (λ x. get_or named x true) here ∙ is_marked) (get old k))
          | inr other ↦ so_far.early k (omega arith)
        ];
        later = λ k le. so_far.later k (omega arith);
        handles = so_far.handles;
      }

  pub trimming-more : (named spoken : List Bool) (i : ℕ) (s : Bool) (old a b : Arena (TreeNode T)) → Trimming named spoken i old a → get_or named i true ≡ false → s ≡ get_or spoken i true
      → ((k : Handle) → k.index ≡ i → get b k ≡ option_map (trimmed named s) (get a k))
      → ((k : Handle) → k.index ≢ i → get b k ≡ get a k)
      → KeepsHandles a b
      → Trimming named spoken (i + 1) old b
  trimming-more named spoken i s old a b so_far unmarked is_s here others keeps =
      record {
        early = λ k below. elim (cases_eq k.index i) [
          | inl at_i ↦
              let mine : s ≡ marked spoken k = is_s ∙ ap (λ x. get_or spoken x true) (sym at_i) in
              here k at_i ∙ ap (λ y. option_map (trimmed named y) (get a k)) mine ∙ ap (option_map (trimmed named (marked spoken k))) (so_far.later k (omega arith))
              ∙ sym (trims_one named spoken k (ap (λ x. get_or named x true) at_i ∙ unmarked) (get old k))
          | inr other ↦ others k other ∙ so_far.early k (omega arith)
        ];
        later = λ k le. others k (λ e. absurd (omega arith)) ∙ so_far.later k (omega arith);
        handles = keeps_then old a b so_far.handles keeps;
      }

  pub trimming-done : (named spoken : List Bool) (i : ℕ) (old a : Arena (TreeNode T)) → Trimming named spoken i old a → length named ≤ i → Trims named spoken old a
  trimming-done named spoken i old a so_far all =
      record {
        nodes = λ k. elim (cases_lt k.index i) [
          | inl below ↦ so_far.early k below
          | inr past ↦ so_far.later k past ∙ sym (untouched named spoken k (get_or_past named k.index true (omega arith)) (get old k))
        ];
        handles = so_far.handles;
      }
