-- Widgets that are appended to a list one after another, and how many they are.
use Rattle.std.proofs.Common.{◌≡◌, ℕ, zero, suc, ◌+◌, ◌-◌, ◌<◌, ◌≤◌, List, [], ◌∷◌, ◌++◌, map, length, take, get_or, Some, slice_get, flat_map, append_assoc, arith, ap, sym, subst, refl, ◌∙◌}
use Rattle.std.proofs.lemmas.List.{append-nil}
use Rattle.std.specs.declared.rc.Rc.{Rc}
use Rattle.std.specs.declared.alloc.Global.{Global}
use Rattle.widget_model.specs.declared.widgets.Widget.{Widget}
use Rattle.widget_model.specs.Plain.{PlainWidget}
use Rattle.widget_model.specs.Size.{count_in}
use Rattle.widget_model.specs.View.{shared}
use Rattle.template_build.specs.Building.{IsAdded}

some_is : {A : Type 0} (x y : A) → Some x ≡ Some y → x ≡ y
some_is x y e = cc

pub count-append : (vs ws : List PlainWidget) → count_in (vs ++ ws) ≡ count_in vs + count_in ws
count-append [] ws = omega arith
count-append (v ∷ vs) ws = omega (arith, count-append vs ws)

-- ---- what one after another gives, up to a place

more : {A : Type 0} (f : A → List PlainWidget) (xs : List A) (i : ℕ) (x : A) → slice_get xs i ≡ Some x
    → flat_map f (take (suc i) xs) ≡ flat_map f (take i xs) ++ f x
more f [] i x h = cc h
more f (y ∷ ys) zero x h = append-nil (f y) ∙ ap f (some_is y x h)
more f (y ∷ ys) (suc i) x h = ap (λ ws. f y ++ ws) (more f ys i x h) ∙ sym (append_assoc (f y) (flat_map f (take i ys)) (f x))

at_most : {A : Type 0} (f : A → List PlainWidget) (xs : List A) (i : ℕ) (x : A) → slice_get xs i ≡ Some x
    → count_in (flat_map f (take i xs)) + count_in (f x) ≤ count_in (flat_map f xs)
at_most f [] i x h = cc h
at_most f (y ∷ ys) zero x h = omega (arith, count-append (f y) (flat_map f ys), ap (λ y. count_in (f y)) (some_is y x h))
at_most f (y ∷ ys) (suc i) x h =
    omega (arith, at_most f ys i x h, count-append (f y) (flat_map f (take i ys)), count-append (f y) (flat_map f ys))

all : {A : Type 0} (f : A → List PlainWidget) (xs : List A) (i : ℕ) → length xs ≤ i → flat_map f (take i xs) ≡ flat_map f xs
all f [] zero h = refl
all f [] (suc i) h = refl
all f (y ∷ ys) zero h = absurd (omega arith)
all f (y ∷ ys) (suc i) h = ap (λ ws. f y ++ ws) (all f ys i (omega arith))

pub one_more : {A : Type 0} (f : A → List PlainWidget) (xs : List A) (i j : ℕ) (x : A) (room n m : ℕ) (old mid new : List (Rc Widget Global))
    → j ≡ i + 1 → slice_get xs i ≡ Some x → IsAdded (flat_map f (take i xs)) room old mid n → IsAdded (f x) (room - n) mid new m
    → IsAdded (flat_map f (take j xs)) room old new (n + m)
one_more f xs i j x room n m old mid new next there before here =
    let at : j ≡ suc i = omega arith in
    let so_far : flat_map f (take j xs) ≡ flat_map f (take i xs) ++ f x = ap (λ k. flat_map f (take k xs)) at ∙ more f xs i x there in
    record {
      widgets =
          here.widgets ∙ ap (λ ws. ws ++ f x) before.widgets ∙ append_assoc (map shared old) (flat_map f (take i xs)) (f x)
          ∙ ap (λ ws. map shared old ++ ws) (sym so_far);
      sizes = here.sizes;
      size = omega (arith, before.size, here.size, count-append (flat_map f (take i xs)) (f x), ap count_in so_far);
      within = omega (arith, before.within, here.within);
    }

pub no_room : {A : Type 0} (f : A → List PlainWidget) (xs : List A) (i : ℕ) (x : A) (room n : ℕ) (old mid : List (Rc Widget Global))
    → slice_get xs i ≡ Some x → IsAdded (flat_map f (take i xs)) room old mid n → room - n < count_in (f x)
    → room < count_in (flat_map f xs)
no_room f xs i x room n old mid there before full = omega (arith, before.size, before.within, full, at_most f xs i x there)

pub all_added : {A : Type 0} (f : A → List PlainWidget) (xs : List A) (i : ℕ) (room n : ℕ) (old new : List (Rc Widget Global))
    → length xs ≤ i → IsAdded (flat_map f (take i xs)) room old new n → IsAdded (flat_map f xs) room old new n
all_added f xs i room n old new end before = subst (λ ws. IsAdded ws room old new n) (all f xs i end) before

pub item_is : {A : Type 0} (xs : List A) (i : ℕ) (x : A) → i < length xs → x ≡ get_or xs i x → slice_get xs i ≡ Some x
item_is [] i x h e = absurd (omega arith)
item_is (y ∷ ys) zero x h e = ap Some (sym e)
item_is (y ∷ ys) (suc i) x h e = item_is ys i x (omega arith) e
