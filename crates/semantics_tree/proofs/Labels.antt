-- Labels that are joined one after another.
use Rattle.std.proofs.Common.{◌≡◌, ℕ, List, [], ◌∷◌, ◌++◌, refl, sym, ap, ◌∙◌}
use Rattle.std.proofs.lemmas.List.{append_assoc}
use Rattle.std.specs.List.{join_with_byte}
use Rattle.screen_form.specs.Fragment.{joined, without_empty}
use Rattle.semantics_tree.specs.Forming.{with_line}

pub with_line-nil : (a : List ℕ) → with_line a [] ≡ a
with_line-nil [] = refl
with_line-nil (x ∷ a) = refl

pub with_line-assoc : (a b c : List ℕ) → with_line (with_line a b) c ≡ with_line a (with_line b c)
with_line-assoc [] b c = refl
with_line-assoc (x ∷ a) [] c = refl
with_line-assoc (x ∷ a) (y ∷ b) [] = refl
with_line-assoc (x ∷ a) (y ∷ b) (z ∷ c) = append_assoc (x ∷ a) (10 ∷ (y ∷ b)) (10 ∷ (z ∷ c))

-- what is joined from a label on begins as it does
before : (b : ℕ) (bs : List ℕ) (c : ℕ) (cs : List ℕ) (ls : List (List ℕ))
    → join_with_byte 10 ((b ∷ bs) ∷ (c ∷ cs) ∷ ls) ≡ with_line (b ∷ bs) (join_with_byte 10 ((c ∷ cs) ∷ ls))
before b bs c cs [] = refl
before b bs c cs (l ∷ ls) = refl

said_first : (b : ℕ) (bs : List ℕ) (ls : List (List ℕ)) → joined ((b ∷ bs) ∷ ls) ≡ with_line (b ∷ bs) (joined ls)
said_first b bs [] = refl
said_first b bs ([] ∷ ls) = said_first b bs ls
said_first b bs ((c ∷ cs) ∷ ls) = before b bs c cs (without_empty ls)

pub joined-cons : (l : List ℕ) (ls : List (List ℕ)) → joined (l ∷ ls) ≡ with_line l (joined ls)
joined-cons [] ls = refl
joined-cons (b ∷ bs) ls = said_first b bs ls

pub joined-append : (ls ks : List (List ℕ)) → joined (ls ++ ks) ≡ with_line (joined ls) (joined ks)
joined-append [] ks = refl
joined-append (l ∷ ls) ks =
    joined-cons l (ls ++ ks)
    ∙ ap (with_line l) (joined-append ls ks)
    ∙ sym (with_line-assoc l (joined ls) (joined ks))
    ∙ ap (λ m. with_line m (joined ks)) (sym (joined-cons l ls))
