-- The first number of a tree that is marked: on the way to the node that has it, and beside that way.
use Rattle.std.proofs.Common.{◌≡◌, ℕ, ◌==◌, Bool, true, false, cond, Option, Some, None, List, [], ◌∷◌, refl, sym, ap, ◌∙◌, inl, inr}
use Rattle.std.specs.Option.{option_or}
use Rattle.std.proofs.lemmas.Bool.{eq-eqb}
use Rattle.work_sets.proofs.Found.{IsIn}
use Rattle.plain_tree.specs.At.{is_there, numbers_of}
use Rattle.plain_tree.specs.PlainNode.{PlainNode}
use Rattle.build_form.specs.Entering.{Blueprint}
use Rattle.build_walk.specs.Past.{is_marked}
use Rattle.settled_builds.proofs.Once.{there_in}
use Rattle.settled_builds.proofs.UpTo.{first_in, has_number}

some_is : (x y : ℕ) → Some x ≡ Some y → x ≡ y
some_is x y e = cc

-- below a node that hasn't that number
pub later : (wanted number : ℕ) (rest : Option ℕ) (here : Bool) → (number == wanted) ≡ false → cond here (Some number) rest ≡ Some wanted → rest ≡ Some wanted
later wanted number rest true is first = let same : (number == wanted) ≡ true = eq-eqb number wanted (some_is number wanted first) in absurd (cc)
later wanted number rest false is first = first

none_here : (x : ℕ) (rest : Option ℕ) (here : Bool) → cond here (Some x) rest ≡ None → (here ≡ false) × (rest ≡ None)
none_here x rest true e = cc
none_here x rest false e = (refl, e)

module _ (marks : List ℕ) (wanted : ℕ) where
  module _ (first_marked : is_marked marks wanted ≡ true) where
    -- where none is marked it isn't
    none_first : (ks : List ℕ) → first_in marks ks ≡ None → IsIn wanted ks → ⊥
    none_first [] none h = h
    none_first (x ∷ xs) none (inl e) =
        let unmarked = (none_here x (first_in marks xs) (is_marked marks x) none).0 in let here : is_marked marks x ≡ true = ap (is_marked marks) (sym e) ∙ first_marked in absurd (cc)
    none_first (x ∷ xs) none (inr h) = none_first xs (none_here x (first_in marks xs) (is_marked marks x) none).1 h

    -- it is the first one of the tree that has it
    pub first_there : (n : PlainNode) (rest : Option ℕ) (o : Option ℕ) → first_in marks (numbers_of n) ≡ o → is_there wanted n ≡ true → option_or o rest ≡ Some wanted → first_in marks (numbers_of n) ≡ Some wanted
    first_there n rest (Some x) found there e = found ∙ e
    first_there n rest None found there e = absurd (none_first (numbers_of n) found (there_in wanted n there))

  -- and of the trees after one that doesn't
  pub first_later : (b : Blueprint) (n : PlainNode) (rest : Option ℕ) (o : Option ℕ) → first_in marks (numbers_of n) ≡ o → is_there wanted n ≡ false → option_or o rest ≡ Some wanted → rest ≡ Some wanted
  first_later b n rest (Some x) found there e = let is : is_there wanted n ≡ true = has_number marks b wanted n (found ∙ e) in absurd (cc)
  first_later b n rest None found there e = e

  -- no other marked number is on the way
  pub not_above : (k : ℕ) → is_marked marks k ≡ true → (k ≡ wanted → ⊥) → (number : ℕ) (ks : List ℕ) → first_in marks (number ∷ ks) ≡ Some wanted → number ≡ k → ⊥
  not_above k marked other number ks first same =
      let here : is_marked marks number ≡ true = ap (is_marked marks) same ∙ marked in
      other (sym same ∙ some_is number wanted (ap (λ (x : Bool). cond x (Some number) (first_in marks ks)) (sym here) ∙ first))
