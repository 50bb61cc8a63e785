-- What the items of a list give one after another, where their list gives it: what is gathered so far, with what is left.
use Rattle.std.proofs.Common.{◌≡◌, ℕ, ◌+◌, ◌<◌, ◌≤◌, List, [], ◌∷◌, ◌++◌, length, drop, get_or, sym, ap, ◌∙◌}
use Rattle.std.proofs.lemmas.List.{append_assoc, append-nil, at_drop_more, at_drop_all}

module _ {A B : Type 0} (one : B → List A) (all : List B → List A) (none : all [] ≡ []) (joined : (x : B) (xs : List B) → all (x ∷ xs) ≡ one x ++ all xs) where
  pub gathered_more : (xs : List B) (i : ℕ) (x : B) (old new whole : List A) → i < length xs → x ≡ get_or xs i x
      → new ≡ old ++ one x → old ++ all (drop i xs) ≡ whole → new ++ all (drop (i + 1) xs) ≡ whole
  gathered_more xs i x old new whole within is_x is_new so_far =
      let rest = all (drop (i + 1) xs) in
      ap (λ l. l ++ rest) is_new
      ∙ append_assoc old (one x) rest
      ∙ ap (λ y. old ++ (one y ++ rest)) is_x
      ∙ ap (λ l. old ++ l) (sym (joined (get_or xs i x) (drop (i + 1) xs)))
      ∙ sym (at_drop_more (λ l. old ++ all l) xs i x within)
      ∙ so_far

  pub gathered_all : (xs : List B) (i : ℕ) (old whole : List A) → length xs ≤ i → old ++ all (drop i xs) ≡ whole → old ≡ whole
  gathered_all xs i old whole past so_far =
      sym (append-nil old) ∙ ap (λ l. old ++ l) (sym none) ∙ sym (at_drop_all (λ l. old ++ all l) xs i past) ∙ so_far
