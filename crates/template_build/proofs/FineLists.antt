-- Sorts of widgets in lists.
use Rattle.std.proofs.Common.{◌≡◌, ℕ, zero, suc, ◌<◌, ◌≤◌, arith, Bool, true, false, ◌&&◌, not, List, [], ◌∷◌, ◌++◌, map, length, Some, slice_get, ap, sym, subst, refl, ◌∙◌}
use Rattle.program_form.specs.declared.kinds.ChildSort.{ChildSort}
use Rattle.program_form.specs.declared.kinds.ChildSort.TheVariants as stands
use Rattle.program_check.specs.Place.{sorts_agree}
use Rattle.program_check.specs.TypedBody.{IsBoxOrSliver}
use Rattle.widget_model.specs.Plain.{PlainWidget, widgets_of}
use Rattle.widget_model.specs.Typed.{Sort, Declarations, sort_of, first_sort, sorts_of, AllAre, AtMostOne, JustOne, AreTypedWidgets, IsTypedWidget}
use Rattle.template_build.specs.Program.{widget_sort}

pub some_is : {A : Type 0} (x y : A) → Some x ≡ Some y → x ≡ y
some_is x y e = cc

pub sorts-list : (p : Declarations) (ws : List PlainWidget) → sorts_of p (widgets_of ws) ≡ map (sort_of p) ws
sorts-list p [] = refl
sorts-list p (w ∷ ws) = ap (λ ss. sort_of p w ∷ ss) (sorts-list p ws)

pub length_map : {A B : Type 0} (f : A → B) (xs : List A) → length (map f xs) ≡ length xs
length_map f [] = refl
length_map f (x ∷ xs) = ap suc (length_map f xs)

pub all-append : (s : Sort) (ss ts : List Sort) → AllAre s ss → AllAre s ts → AllAre s (ss ++ ts)
all-append s [] ts h k = k
all-append s (t ∷ ss) ts h k = (h.0, all-append s ss ts h.1 k)

pub typed-append : (p : Declarations) (vs ws : List PlainWidget) → AreTypedWidgets p (widgets_of vs) → AreTypedWidgets p (widgets_of ws)
    → AreTypedWidgets p (widgets_of (vs ++ ws))
typed-append p [] ws h k = k
typed-append p (v ∷ vs) ws h k = (h.0, typed-append p vs ws h.1 k)

pub just_one : (s : Sort) (ss : List Sort) → length ss ≡ 1 → AllAre s ss → JustOne s ss
just_one s [] n h = cc n
just_one s (t ∷ []) n h = ap (λ t. t ∷ []) h.0
just_one s (t ∷ u ∷ ss) n h = absurd (omega (arith, n))

pub at_most_one : (s : Sort) (ss : List Sort) → length ss ≤ 1 → AllAre s ss → AtMostOne s ss
at_most_one s [] n h = tt
at_most_one s (t ∷ []) n h = h.0
at_most_one s (t ∷ u ∷ ss) n h = absurd (omega (arith, n))

pub first_of : (p : Declarations) (s : Sort) (ws : List PlainWidget) → length ws ≡ 1 → AllAre s (map (sort_of p) ws) → first_sort p (widgets_of ws) ≡ s
first_of p s [] n h = cc n
first_of p s (w ∷ ws) n h = h.0

pub all_at : (s : Sort) (p : Declarations) (ws : List PlainWidget) (i : ℕ) (w : PlainWidget) → AllAre s (map (sort_of p) ws) → slice_get ws i ≡ Some w
    → sort_of p w ≡ s
all_at s p [] i w h e = cc e
all_at s p (v ∷ ws) zero w h e = ap (sort_of p) (sym (some_is v w e)) ∙ h.0
all_at s p (v ∷ ws) (suc i) w h e = all_at s p ws i w h.1 e

pub typed_at : (p : Declarations) (ws : List PlainWidget) (i : ℕ) (w : PlainWidget) → AreTypedWidgets p (widgets_of ws) → slice_get ws i ≡ Some w
    → IsTypedWidget p w
typed_at p [] i w h e = cc e
typed_at p (v ∷ ws) zero w h e = subst (IsTypedWidget p) (some_is v w e) h.0
typed_at p (v ∷ ws) (suc i) w h e = typed_at p ws i w h.1 e

pub there : {A : Type 0} (xs : List A) (i : ℕ) → i < length xs → (x : A) × (slice_get xs i ≡ Some x)
there [] i h = absurd (omega arith)
there (x ∷ xs) zero h = (x, refl)
there (x ∷ xs) (suc i) h = there xs i (omega arith)

pub agree : (want found : ChildSort) → IsBoxOrSliver want → IsBoxOrSliver found → sorts_agree want found ≡ true → widget_sort found ≡ widget_sort want
agree stands.Box stands.Box h k e = refl
agree stands.Box stands.Sliver h k e = cc e
agree stands.Sliver stands.Box h k e = cc e
agree stands.Sliver stands.Sliver h k e = refl
agree stands.Any found h k e = absurd h
agree stands.Box stands.Any h k e = absurd k
agree stands.Sliver stands.Any h k e = absurd k

pub both_true : (a b : Bool) → (a && b) ≡ true → (a ≡ true) × (b ≡ true)
both_true true true h = (refl, refl)
both_true true false h = cc h
both_true false b h = cc h

pub not_true : (b : Bool) → not b ≡ true → b ≡ false
not_true false h = refl
not_true true h = cc h
