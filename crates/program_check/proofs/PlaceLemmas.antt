-- Look-ups by name, step by step.
use Rattle.std.proofs.Common.{◌≡◌, ℕ, ◌+◌, ◌<◌, ◌≤◌, arith, length, get_or, drop, List, [], ◌∷◌, map, Bool, true, false, if◌then◌else◌, Option, Some, None, option_map, ap, sym, refl, ◌∙◌}
use Rattle.std.specs.Str.{bytes_eq}
use Rattle.std.proofs.lemmas.List.{at_drop_more, at_drop_all}
use Rattle.std.proofs.lemmas.Option.{slice_get-map, slice_get_read, slice_get_past}
use Rattle.program_check.specs.declared.checked.CheckedComponent.{CheckedComponent}
use Rattle.program_check.specs.CheckedView.{signature}
use Rattle.program_check.specs.Place.{index_by, with_signature, component_of}

-- what a look-up further on gives, seen from the start
abbrev pub moved_by : ℕ → Option ℕ → Option ℕ
moved_by n found = option_map (λ i. i + n) found

moved_by-zero : (found : Option ℕ) → found ≡ moved_by 0 found
moved_by-zero None = refl
moved_by-zero (Some i) = let e : i ≡ i + 0 = omega arith in ap Some e

moved_by-later : (n : ℕ) (found : Option ℕ) → moved_by n (option_map (λ i. i + 1) found) ≡ moved_by (n + 1) found
moved_by-later n None = refl
moved_by-later n (Some i) = let e : i + 1 + n ≡ i + (n + 1) = omega arith in ap Some e

-- the loop that looks from the start on: nothing was found so far
abbrev pub left_to_find : {X : Type 0} → (X → List ℕ) → List X → List ℕ → ℕ → Type 0
left_to_find name_of xs name n = index_by name_of xs name ≡ moved_by n (index_by name_of (drop n xs) name)

pub find-start : {X : Type 0} (name_of : X → List ℕ) (xs : List X) (name : List ℕ) → left_to_find name_of xs name 0
find-start name_of xs name = moved_by-zero (index_by name_of xs name)

abbrev here_or : {X : Type 0} → (X → List ℕ) → List X → List ℕ → ℕ → Bool → Option ℕ
here_or name_of rest name n b = moved_by n (if b then Some 0 else option_map (λ i. i + 1) (index_by name_of rest name))

pub find-here : {X : Type 0} (name_of : X → List ℕ) (xs : List X) (name : List ℕ) (n : ℕ) (x : X)
    → left_to_find name_of xs name n → n < length xs → x ≡ get_or xs n x → bytes_eq name (name_of x) ≡ true → index_by name_of xs name ≡ Some n
find-here name_of xs name n x l h e t =
    l ∙ ap (moved_by n) (at_drop_more (λ ys. index_by name_of ys name) xs n x h)
    ∙ ap (here_or name_of (drop (n + 1) xs) name n) (ap (λ y. bytes_eq name (name_of y)) (sym e) ∙ t)
    ∙ (let zero_more : 0 + n ≡ n = omega arith in ap Some zero_more)

pub find-later : {X : Type 0} (name_of : X → List ℕ) (xs : List X) (name : List ℕ) (n : ℕ) (x : X)
    → left_to_find name_of xs name n → n < length xs → x ≡ get_or xs n x → bytes_eq name (name_of x) ≡ false → left_to_find name_of xs name (n + 1)
find-later name_of xs name n x l h e t =
    l ∙ ap (moved_by n) (at_drop_more (λ ys. index_by name_of ys name) xs n x h)
    ∙ ap (here_or name_of (drop (n + 1) xs) name n) (ap (λ y. bytes_eq name (name_of y)) (sym e) ∙ t)
    ∙ moved_by-later n (index_by name_of (drop (n + 1) xs) name)

pub find-none : {X : Type 0} (name_of : X → List ℕ) (xs : List X) (name : List ℕ) (n : ℕ)
    → left_to_find name_of xs name n → length xs ≤ n → index_by name_of xs name ≡ None
find-none name_of xs name n l h = l ∙ ap (moved_by n) (at_drop_all (λ ys. index_by name_of ys name) xs n h)

-- names of a list's items
pub index_by-map : {X Y : Type 0} (name_of : Y → List ℕ) (f : X → Y) (xs : List X) (name : List ℕ)
    → index_by name_of (map f xs) name ≡ index_by (λ x. name_of (f x)) xs name
index_by-map name_of f [] name = refl
index_by-map name_of f (x ∷ xs) name =
    ap (λ later. if bytes_eq name (name_of (f x)) then Some 0 else option_map (λ i. i + 1) later) (index_by-map name_of f xs name)

-- ---- the component of a name

abbrev pub name_in : CheckedComponent → List ℕ
name_in c = c.name

component_of-index : (cs : List CheckedComponent) (name : List ℕ) (o : Option ℕ) → index_by name_in cs name ≡ o
    → component_of (map signature cs) name ≡ with_signature (map signature cs) o
component_of-index cs name o e = ap (with_signature (map signature cs)) (index_by-map (λ c. c.name) signature cs name ∙ e)

pub component_of-none : (cs : List CheckedComponent) (name : List ℕ) → index_by name_in cs name ≡ None → component_of (map signature cs) name ≡ None
component_of-none cs name e = component_of-index cs name None e

pub component_of-past : (cs : List CheckedComponent) (name : List ℕ) (i : ℕ) → index_by name_in cs name ≡ Some i → length cs ≤ i
    → component_of (map signature cs) name ≡ None
component_of-past cs name i e h =
    component_of-index cs name (Some i) e
    ∙ ap (option_map (λ c. (i, c))) (slice_get-map signature cs i ∙ ap (option_map signature) (slice_get_past cs i h))

pub component_of-some : (cs : List CheckedComponent) (name : List ℕ) (i : ℕ) (c : CheckedComponent) → index_by name_in cs name ≡ Some i
    → i < length cs → c ≡ get_or cs i c → component_of (map signature cs) name ≡ Some (i, signature c)
component_of-some cs name i c e h r =
    component_of-index cs name (Some i) e
    ∙ ap (option_map (λ c. (i, c))) (slice_get-map signature cs i ∙ ap (option_map signature) (slice_get_read cs (length cs) i c refl h r))
