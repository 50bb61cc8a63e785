-- Where no number of a tree stands twice, each of its nodes is found by its number.
use Rattle.std.proofs.Common.{◌≡◌, ◌≢◌, ℕ, Bool, true, false, ◌==◌, Option, Some, None, List, [], ◌∷◌, ◌++◌, refl, sym, ap, ◌∙◌, ◌⊎◌, inl, inr, if◌then◌else◌}
use Rattle.std.specs.Cmp.{unsigned_Decides}
use Rattle.std.specs.Option.{option_or}
use Rattle.plain_tree.specs.Laws.{render_numbers_of, render_numbers_in, DiffersFrom, AllDiffer}
use Rattle.plain_tree.specs.Render.{Render, render, Renders, no_renders, more_renders}
use Rattle.work_sets.specs.InTree.{Standing, standing_at, standing_in}
use Rattle.work_roles.specs.Place.{RegionPlace, below}

abbrev pub IsIn : ℕ → List ℕ → Type 0
IsIn n [] = ⊥
IsIn n (x ∷ xs) = (n ≡ x) ⊎ IsIn n xs

pub in_left : (n : ℕ) (xs ys : List ℕ) → IsIn n xs → IsIn n (xs ++ ys)
in_left n (x ∷ xs) ys (inl e) = inl e
in_left n (x ∷ xs) ys (inr h) = inr (in_left n xs ys h)
in_left n [] ys h = absurd h

pub in_right : (n : ℕ) (xs ys : List ℕ) → IsIn n ys → IsIn n (xs ++ ys)
in_right n [] ys h = h
in_right n (x ∷ xs) ys h = inr (in_right n xs ys h)

pub differs_in : (n : ℕ) (x : ℕ) (xs : List ℕ) → DiffersFrom x xs → IsIn n xs → x ≢ n
differs_in n x (y ∷ ys) d (inl e) = λ f. d.0 (f ∙ e)
differs_in n x (y ∷ ys) d (inr h) = differs_in n x ys d.1 h
differs_in n x [] d h = absurd h

differs_left : (x : ℕ) (xs ys : List ℕ) → DiffersFrom x (xs ++ ys) → DiffersFrom x xs
differs_left x [] ys d = tt
differs_left x (y ∷ xs) ys d = (d.0, differs_left x xs ys d.1)

differs_right : (x : ℕ) (xs ys : List ℕ) → DiffersFrom x (xs ++ ys) → DiffersFrom x ys
differs_right x [] ys d = d
differs_right x (y ∷ xs) ys d = differs_right x xs ys d.1

pub differ_left : (xs ys : List ℕ) → AllDiffer (xs ++ ys) → AllDiffer xs
differ_left [] ys d = tt
differ_left (x ∷ xs) ys d = (differs_left x xs ys d.0, differ_left xs ys d.1)

pub differ_right : (xs ys : List ℕ) → AllDiffer (xs ++ ys) → AllDiffer ys
differ_right [] ys d = d
differ_right (x ∷ xs) ys d = differ_right xs ys d.1

-- a number of the second list differs from all of the first
pub apart : (n : ℕ) (xs ys : List ℕ) → AllDiffer (xs ++ ys) → IsIn n ys → DiffersFrom n xs
apart n [] ys d h = tt
apart n (x ∷ xs) ys d h = (λ e. differs_in n x (xs ++ ys) d.0 (in_right n xs ys h) (sym e), apart n xs ys d.1 h)

by_test : (m n : ℕ) (b : Bool) → (m == n) ≡ b → m ≢ n → b ≡ false
by_test m n true e h = absurd (h ((unsigned_Decides m n).0 e))
by_test m n false e h = refl

pub unequal : (m n : ℕ) → m ≢ n → (m == n) ≡ false
unequal m n h = by_test m n (m == n) refl h

pub equal : (n : ℕ) → (n == n) ≡ true
equal n = (unsigned_Decides n n).1 refl

-- ---- each node is found

module _ (F : ℕ → Option Standing) where
  abbrev mutual
    pub Finds : RegionPlace → Render → Type 0
    Finds p (render number look told scroll count children) =
        (F number ≡ Some (record { place = p; node = render number look told scroll count children })) × FindsAll (below p look) children

    pub FindsAll : RegionPlace → Renders → Type 0
    FindsAll p no_renders = Unit {0}
    FindsAll p (more_renders r rs) = Finds p r × FindsAll p rs

-- by another way to find, which finds what this one finds of the tree's numbers
module _ (F G : ℕ → Option Standing) where
  mutual
    finds_too : (p : RegionPlace) (r : Render) → ((n : ℕ) (s : Standing) → IsIn n (render_numbers_of r) → F n ≡ Some s → G n ≡ Some s) → Finds F p r → Finds G p r
    finds_too p (render number look told scroll count children) h f =
        (h number _ (inl refl) f.0, all_find_too (below p look) children (λ n s i e. h n s (inr i) e) f.1)

    all_find_too : (p : RegionPlace) (rs : Renders) → ((n : ℕ) (s : Standing) → IsIn n (render_numbers_in rs) → F n ≡ Some s → G n ≡ Some s) → FindsAll F p rs → FindsAll G p rs
    all_find_too p no_renders h f = tt
    all_find_too p (more_renders r rs) h f = (
      finds_too p r (λ n s i e. h n s (in_left n (render_numbers_of r) (render_numbers_in rs) i) e) f.0,
      all_find_too p rs (λ n s i e. h n s (in_right n (render_numbers_of r) (render_numbers_in rs) i) e) f.1,
    )

mutual
  missing : (n : ℕ) (p : RegionPlace) (r : Render) → DiffersFrom n (render_numbers_of r) → standing_at n p r ≡ None
  missing n p (render number look told scroll count children) d =
      ap (λ b. if b then Some (record { place = p; node = render number look told scroll count children }) else standing_in n (below p look) children)
      (unequal number n (λ e. d.0 (sym e)))
      ∙ all_missing n (below p look) children d.1

  all_missing : (n : ℕ) (p : RegionPlace) (rs : Renders) → DiffersFrom n (render_numbers_in rs) → standing_in n p rs ≡ None
  all_missing n p no_renders d = refl
  all_missing n p (more_renders r rs) d =
      ap (λ o. option_or o (standing_in n p rs)) (missing n p r (differs_left n (render_numbers_of r) (render_numbers_in rs) d))
      ∙ all_missing n p rs (differs_right n (render_numbers_of r) (render_numbers_in rs) d)

mutual
  pub found : (p : RegionPlace) (r : Render) → AllDiffer (render_numbers_of r) → Finds (λ n. standing_at n p r) p r
  found p (render number look told scroll count children) d =
      let whole : Option Standing = Some (record { place = p; node = render number look told scroll count children }) in (
        ap (λ b. if b then whole else standing_in number (below p look) children) (equal number),
        all_find_too (λ n. standing_in n (below p look) children) (λ n. standing_at n p (render number look told scroll count children)) (below p look) children
            (λ n s i e. ap (λ b. if b then whole else standing_in n (below p look) children) (unequal number n (differs_in n number (render_numbers_in children) d.0 i)) ∙ e)
            (all_found (below p look) children d.1),
      )

  pub all_found : (p : RegionPlace) (rs : Renders) → AllDiffer (render_numbers_in rs) → FindsAll (λ n. standing_in n p rs) p rs
  all_found p no_renders d = tt
  all_found p (more_renders r rs) d = (
    finds_too (λ n. standing_at n p r) (λ n. standing_in n p (more_renders r rs)) p r
        (λ n s i e. ap (λ o. option_or o (standing_in n p rs)) e)
        (found p r (differ_left (render_numbers_of r) (render_numbers_in rs) d)),
    all_find_too (λ n. standing_in n p rs) (λ n. standing_in n p (more_renders r rs)) p rs
        (λ n s i e. ap (λ o. option_or o (standing_in n p rs)) (missing n p r (apart n (render_numbers_of r) (render_numbers_in rs) d i)) ∙ e)
        (all_found p rs (differ_right (render_numbers_of r) (render_numbers_in rs) d)),
  )
