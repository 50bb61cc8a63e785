-- Marks that are put on members one after another.
use Rattle.std.proofs.Common.{◌≡◌, refl, sym, ◌∙◌, ap, inl, inr, ℕ, ◌+◌, ◌<◌, Bool, true, false, ◌||◌, ◌&&◌, List, take, length, get_or, is_some, cond, not, true≢false, eqb, option_map, IfSome, Option, Some, None, ◌⊎◌, subst, Result, Ok, Err, OnOk, OnErr, All}
use Rattle.std.specs.Option.{option_eq}
use Rattle.std.proofs.lemmas.List.Folds.{list_any_more}
use Rattle.std.specs.Map.{lookup}
use Rattle.gesture_arena.specs.declared.gesture.Gesture.{Gesture}
use Rattle.gesture_arena.specs.declared.gesture.Gesture.TheVariants.{Tap, Long, Vertical, Horizontal, Pan}
use Rattle.gesture_arena.specs.declared.gesture.Member.{Member}
use Rattle.gesture_arena.specs.Moment.{gesture_eq, member_eq, is_among}
use Rattle.gesture_arena.specs.declared.tracked.Tracked.{Tracked}
use Rattle.gesture_arena.specs.declared.marks.NodeMarks.{NodeMarks}
use Rattle.gesture_arena.specs.Marks.{mark_in, with_mark, marked}
use Rattle.gesture_arena.specs.Settled.{member_in}
use Rattle.std.proofs.lemmas.Bool.{cases_Bool, eq-eqb}
use Rattle.std.proofs.lemmas.List.Elements.{All-more}
use Rattle.std.proofs.lemmas.Bool.Decides.{eqb_tells}

all_keep : {P Q : Tracked → Type 0} → ((t : Tracked) → P t → Q t) → (ts : List Tracked) → All P ts → All Q ts
all_keep f ts a = λ k d h. f (get_or ts k d) (a k d h)

gesture_tells : (a b : Gesture) → gesture_eq a b ≡ true → a ≡ b
gesture_tells Tap Tap e = refl
gesture_tells Tap Long e = cc
gesture_tells Tap Vertical e = cc
gesture_tells Tap Horizontal e = cc
gesture_tells Tap Pan e = cc
gesture_tells Long Tap e = cc
gesture_tells Long Long e = refl
gesture_tells Long Vertical e = cc
gesture_tells Long Horizontal e = cc
gesture_tells Long Pan e = cc
gesture_tells Vertical Tap e = cc
gesture_tells Vertical Long e = cc
gesture_tells Vertical Vertical e = refl
gesture_tells Vertical Horizontal e = cc
gesture_tells Vertical Pan e = cc
gesture_tells Horizontal Tap e = cc
gesture_tells Horizontal Long e = cc
gesture_tells Horizontal Vertical e = cc
gesture_tells Horizontal Horizontal e = refl
gesture_tells Horizontal Pan e = cc
gesture_tells Pan Tap e = cc
gesture_tells Pan Long e = cc
gesture_tells Pan Vertical e = cc
gesture_tells Pan Horizontal e = cc
gesture_tells Pan Pan e = refl

-- what the test of members tells
member_tells : (a b : Member) → member_eq a b ≡ true → a ≡ b
member_tells a b e =
    elim (eqb_tells a.node b.node) [
      | inl t ↦
          let h : gesture_eq a.gesture b.gesture ≡ true = ap (λ x. x && gesture_eq a.gesture b.gesture) (sym t.0) ∙ e in
          let g = gesture_tells a.gesture b.gesture h in
          ap (λ n. record { node = n; gesture = a.gesture }) t.1 ∙ ap (λ u. record { node = b.node; gesture = u }) g
      | inr t ↦ absurd (true≢false (sym e ∙ ap (λ x. x && gesture_eq a.gesture b.gesture) t.0))
    ]

tells_swapped : (a b : Member) → member_eq a b ≡ true → member_eq b a ≡ true
tells_swapped a b e = let h = member_tells a b e in subst (λ x. member_eq x a ≡ true) h (subst (λ x. member_eq a x ≡ true) (sym h) e)

-- a mark is put on one of a node's members
put_in : (n : NodeMarks) (b : Bool) (g h : Gesture) → mark_in (with_mark n g b) h ≡ cond (gesture_eq g h) b (mark_in n h)
put_in n b Tap Tap = refl
put_in n b Tap Long = refl
put_in n b Tap Vertical = refl
put_in n b Tap Horizontal = refl
put_in n b Tap Pan = refl
put_in n b Long Tap = refl
put_in n b Long Long = refl
put_in n b Long Vertical = refl
put_in n b Long Horizontal = refl
put_in n b Long Pan = refl
put_in n b Vertical Tap = refl
put_in n b Vertical Long = refl
put_in n b Vertical Vertical = refl
put_in n b Vertical Horizontal = refl
put_in n b Vertical Pan = refl
put_in n b Horizontal Tap = refl
put_in n b Horizontal Long = refl
put_in n b Horizontal Vertical = refl
put_in n b Horizontal Horizontal = refl
put_in n b Horizontal Pan = refl
put_in n b Pan Tap = refl
put_in n b Pan Long = refl
put_in n b Pan Vertical = refl
put_in n b Pan Horizontal = refl
put_in n b Pan Pan = refl

-- a member's mark among the marks of nodes
abbrev mark_at : List (ℕ × NodeMarks) → Member → Option Bool
mark_at es m = option_map (λ (n : NodeMarks). mark_in n m.gesture) (lookup (eqb m.node) es)

some_or : (e : Bool) (b x : Bool) → Some (cond e b x) ≡ cond (e && true) (Some b) (Some x)
some_or true b x = refl
some_or false b x = refl

-- a mark is put on a member whose node has a place
pub put_marked : (old new : List (ℕ × NodeMarks)) (g : Member) (b : Bool) (n : NodeMarks) → lookup (eqb g.node) old ≡ Some n
    → ((q : ℕ) → lookup (eqb q) new ≡ cond (eqb g.node q) (Some (with_mark n g.gesture b)) (lookup (eqb q) old))
    → (m : Member) → mark_at new m ≡ marked (mark_at old) g b m
put_marked old new g b n has puts m =
    let mark : Option NodeMarks → Option Bool = option_map (λ (x : NodeMarks). mark_in x m.gesture) in
    elim (eqb_tells g.node m.node) [
      | inl t ↦
          let old_m : mark_at old m ≡ Some (mark_in n m.gesture) = ap mark (ap (λ k. lookup (eqb k) old) (sym t.1) ∙ has) in
          ap mark (puts m.node ∙ ap (λ e. cond e (Some (with_mark n g.gesture b)) (lookup (eqb m.node) old)) t.0)
          ∙ ap Some (put_in n b g.gesture m.gesture)
          ∙ some_or (gesture_eq g.gesture m.gesture) b (mark_in n m.gesture)
          ∙ sym (ap (λ o. cond (gesture_eq g.gesture m.gesture && is_some o) (Some b) o) old_m)
          ∙ sym (ap (λ e. cond ((e && gesture_eq g.gesture m.gesture) && is_some (mark_at old m)) (Some b) (mark_at old m)) t.0)
      | inr t ↦
          ap mark (puts m.node ∙ ap (λ e. cond e (Some (with_mark n g.gesture b)) (lookup (eqb m.node) old)) t.0)
          ∙ sym (ap (λ e. cond ((e && gesture_eq g.gesture m.gesture) && is_some (mark_at old m)) (Some b) (mark_at old m)) t.0)
    ]

lacks : (o : Option Bool) (b : Bool) → is_some o ≡ false → o ≡ Some b → ⊥
lacks None b u e = cc
lacks (Some x) b u e = cc

-- a mark after one was put on a member: it is that one, or it was there before, on another member
split : (old : Member → Option Bool) (g : Member) (v : Bool) (m : Member) (b : Bool) → marked old g v m ≡ Some b
    → ((member_eq g m ≡ true) × (b ≡ v)) ⊎ ((member_eq g m ≡ false) × (old m ≡ Some b))
split old g v m b e =
    elim (cases_Bool (member_eq g m)) [
      | inl t ↦
          elim (cases_Bool (is_some (old m))) [
            | inl u ↦ inl (t, cc)
            | inr u ↦ absurd (lacks (old m) b u cc)
          ]
      | inr t ↦ inr (t, cc)
    ]

or_true : (x y : Bool) → y ≡ true → true ≡ (x || y)
or_true true y e = refl
or_true false y e = sym e

or_false : (x y : Bool) → y ≡ false → x ≡ (x || y)
or_false true y e = refl
or_false false y e = sym e

not_swapped : (a b : Member) → member_eq a b ≡ false → member_eq b a ≡ false
not_swapped a b e =
    elim (cases_Bool (member_eq b a)) [
      | inl t ↦ absurd (true≢false (sym (tells_swapped b a t) ∙ e))
      | inr t ↦ t
    ]

-- one more mark: each member that has a place is marked exactly where it is among those so far
pub more_marked : (old new : Member → Option Bool) (gone : List Member) (i : ℕ) (g : Member) → i < length gone → g ≡ get_or gone i g
    → ((m : Member) → new m ≡ marked old g true m)
    → ((m : Member) (b : Bool) → old m ≡ Some b → b ≡ is_among (take i gone) m)
    → (m : Member) (b : Bool) → new m ≡ Some b → b ≡ is_among (take (i + 1) gone) m
more_marked old new gone i g h at puts before m b e =
    let more : is_among (take (i + 1) gone) m ≡ (is_among (take i gone) m || member_eq m (get_or gone i g)) = list_any_more (member_eq m) gone i g h in
    let here : member_eq m (get_or gone i g) ≡ member_eq m g = ap (member_eq m) (sym at) in
    elim (split old g true m b (sym (puts m) ∙ e)) [
      | inl t ↦ t.1 ∙ or_true (is_among (take i gone) m) (member_eq m (get_or gone i g)) (here ∙ tells_swapped g m t.0) ∙ sym more
      | inr t ↦ before m b t.1 ∙ or_false (is_among (take i gone) m) (member_eq m (get_or gone i g)) (here ∙ not_swapped g m t.0) ∙ sym more
    ]

-- ---- a place for one more node

no_mark_in : (g : Gesture) → mark_in (record { tap = false; long = false; vertical = false; horizontal = false; pan = false }) g ≡ false
no_mark_in Tap = refl
no_mark_in Long = refl
no_mark_in Vertical = refl
no_mark_in Horizontal = refl
no_mark_in Pan = refl

some_same : (a b : Bool) → Some a ≡ Some b → a ≡ b
some_same a b e = cc

some_map : {A B : Type 0} (f : A → B) (o : Option A) → is_some (option_map f o) ≡ is_some o
some_map f None = refl
some_map f (Some x) = refl

module _ (old new : List (ℕ × NodeMarks)) (node : ℕ)
    (puts : (q : ℕ) → lookup (eqb q) new ≡ cond (eqb node q) (Some (record { tap = false; long = false; vertical = false; horizontal = false; pan = false })) (lookup (eqb q) old)) where
  pub more_places : ((m : Member) (b : Bool) → mark_at old m ≡ Some b → b ≡ false) → (m : Member) (b : Bool) → mark_at new m ≡ Some b → b ≡ false
  more_places before m b e = by_test (eqb node m.node) refl
    where
      by_test : (t : Bool) → eqb node m.node ≡ t → b ≡ false
      by_test true is =
          let there = ap (option_map (λ (x : NodeMarks). mark_in x m.gesture)) (puts m.node ∙ ap (λ t. cond t (Some (record { tap = false; long = false; vertical = false; horizontal = false; pan = false })) (lookup (eqb m.node) old)) is) in
          some_same b (mark_in (record { tap = false; long = false; vertical = false; horizontal = false; pan = false }) m.gesture) (sym e ∙ there) ∙ no_mark_in m.gesture
      by_test false is =
          before m b (sym (ap (option_map (λ (x : NodeMarks). mark_in x m.gesture)) (puts m.node ∙ ap (λ t. cond t (Some (record { tap = false; long = false; vertical = false; horizontal = false; pan = false })) (lookup (eqb m.node) old)) is)) ∙ e)

  pub has_it : is_some (lookup (eqb node) new) ≡ true
  has_it = ap is_some (puts node ∙ ap (λ t. cond t (Some (record { tap = false; long = false; vertical = false; horizontal = false; pan = false })) (lookup (eqb node) old)) (eq-eqb node node refl))

  pub keeps_places : (q : ℕ) → is_some (lookup (eqb q) old) ≡ true → is_some (lookup (eqb q) new) ≡ true
  keeps_places q there = ap is_some (puts q) ∙ by_test (eqb node q)
    where
      by_test : (t : Bool) → is_some (cond t (Some (record { tap = false; long = false; vertical = false; horizontal = false; pan = false })) (lookup (eqb q) old)) ≡ true
      by_test true = refl
      by_test false = there

-- the members so far, and one more, whose node has a place
pub one_more_place : (es : List (ℕ × NodeMarks)) (ts : List Tracked) (i : ℕ) (g : Tracked) → i < length ts → g ≡ get_or ts i g → is_some (lookup (eqb g.node) es) ≡ true
    → All (λ t. is_some (mark_at es (member_in t)) ≡ true) (take i ts) → All (λ t. is_some (mark_at es (member_in t)) ≡ true) (take (i + 1) ts)
one_more_place es ts i g low at there before =
    All-more (λ t. is_some (mark_at es (member_in t)) ≡ true) ts i g low before
    (subst (λ t. is_some (mark_at es (member_in t)) ≡ true) at (some_map (λ (x : NodeMarks). mark_in x g.gesture) (lookup (eqb g.node) es) ∙ there))

pub all_have_places : (old new : List (ℕ × NodeMarks)) → ((q : ℕ) → is_some (lookup (eqb q) old) ≡ true → is_some (lookup (eqb q) new) ≡ true) → (ts : List Tracked)
    → All (λ t. is_some (mark_at old (member_in t)) ≡ true) ts → All (λ t. is_some (mark_at new (member_in t)) ≡ true) ts
all_have_places old new keeps ts before =
    all_keep
    (λ t there.
    some_map (λ (x : NodeMarks). mark_in x t.gesture) (lookup (eqb t.node) new)
    ∙ keeps t.node (sym (some_map (λ (x : NodeMarks). mark_in x t.gesture) (lookup (eqb t.node) old)) ∙ there))
    ts before

-- the node of the last member is that of this one
pub same_node : (last : Option ℕ) (node : ℕ) (P : ℕ → Type 0) → IfSome last P → not (option_eq eqb last (Some node)) ≡ false → P node
same_node None node P before e = cc
same_node (Some k) node P before e =
    elim (eqb_tells k node) [
      | inl t ↦ subst P t.1 before
      | inr t ↦ absurd (true≢false (ap not (sym t.0) ∙ e))
    ]

-- the mark that the map finds
pub found_mark : (es : List (ℕ × NodeMarks)) (m : Member) (n : NodeMarks) (b : Bool) → Some n ≡ lookup (eqb m.node) es → b ≡ mark_in n m.gesture → mark_at es m ≡ Some b
found_mark es m n b e is = ap (option_map (λ (x : NodeMarks). mark_in x m.gesture)) (sym e) ∙ ap Some (sym is)

-- what an answer that cannot be an error brings
pub not_err : {A B P Q : Type 0} (r : Result A B) → OnOk r P → OnErr r Q → (Q → ⊥) → P
not_err (Ok a) p q n = p
not_err (Err e) p q n = absurd (n q)

pub has_place : {X : Type 0} (o : Option X) → is_some o ≡ true → o ≡ None → ⊥
has_place None h e = cc
has_place (Some x) h e = cc
