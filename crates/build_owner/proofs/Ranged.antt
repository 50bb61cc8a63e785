-- The lists of a plan, entry by entry.
use Rattle.std.proofs.Common.{◌≡◌, ℕ, ◌+◌, ◌<◌, Bool, true, false, cond, List, [], ◌∷◌, ◌++◌, length, map, filter, take, get_or, refl, sym, ap, ◌∙◌}
use Rattle.std.proofs.lemmas.List.{take_more}
use Rattle.fx_handles.specs.declared.Handle.{Handle}
use Rattle.node_tree.specs.Plan.{PlanEntry}
use Rattle.build_owner.specs.Ranging.{listed_in}

module _ {U : Type 0} (test : U → Bool) where
  listed_append : (xs ys : List (PlanEntry U)) → listed_in test (xs ++ ys) ≡ listed_in test xs ++ listed_in test ys
  listed_append [] ys = refl
  listed_append (x ∷ xs) ys = by_test (test x.update) (listed_append xs ys)
    where
      by_test : (t : Bool) → listed_in test (xs ++ ys) ≡ listed_in test xs ++ listed_in test ys
          → map (λ e. e.at) (cond t (x ∷ filter (λ e. test e.update) (xs ++ ys)) (filter (λ e. test e.update) (xs ++ ys)))
          ≡ map (λ e. e.at) (cond t (x ∷ filter (λ e. test e.update) xs) (filter (λ e. test e.update) xs)) ++ listed_in test ys
      by_test true e = ap (λ l. x.at ∷ l) e
      by_test false e = e

  -- those so far, and one entry more
  pub listed_more : (xs : List (PlanEntry U)) (i : ℕ) (x : PlanEntry U) (so_far new : List Handle) → i < length xs → x ≡ get_or xs i x → so_far ≡ listed_in test (take i xs)
      → new ≡ so_far ++ listed_in test (x ∷ []) → new ≡ listed_in test (take (i + 1) xs)
  listed_more xs i x so_far new low at before is =
      is
      ∙ ap (λ l. l ++ listed_in test (x ∷ [])) before
      ∙ sym (listed_append (take i xs) (x ∷ []))
      ∙ ap (listed_in test) (ap (λ y. take i xs ++ y ∷ []) at ∙ sym (take_more xs i x low))

  pub listed_one : (x : PlanEntry U) → test x.update ≡ true → listed_in test (x ∷ []) ≡ x.at ∷ []
  listed_one x e = ap (λ b. map (λ (y : PlanEntry U). y.at) (cond b (x ∷ []) [])) e

  pub listed_none : (x : PlanEntry U) → test x.update ≡ false → listed_in test (x ∷ []) ≡ []
  listed_none x e = ap (λ b. map (λ (y : PlanEntry U). y.at) (cond b (x ∷ []) [])) e
