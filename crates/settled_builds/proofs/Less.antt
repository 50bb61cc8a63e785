-- Once the first marked component was built, a build counts one component less, also where those below it took what its body gives.
use Rattle.std.proofs.Common.{◌≡◌, ℕ, suc, ◌==◌, Bool, true, false, not, ◌||◌, cond, Option, Some, None, List, [], ◌∷◌, filter, length, refl, sym, ap, ◌∙◌, subst, ◌⊎◌, inl, inr}
use Rattle.std.specs.List.{find, list_any}
use Rattle.fx_expr.specs.declared.values.Value.{Value}
use Rattle.fx_expr.specs.Scope.{value_at}
use Rattle.fx_expr.specs.Value.{value_eq}
use Rattle.widget_model.specs.Plain.{PlainWidget, look_of}
use Rattle.plain_tree.specs.At.{numbers_of}
use Rattle.plain_tree.specs.Laws.{AllDiffer}
use Rattle.plain_tree.specs.PlainNode.{PlainNode, widget_of}
use Rattle.build_form.specs.Entering.{Blueprint, depth_limit}
use Rattle.build_form.proofs.Times.{times_of}
use Rattle.work_sets.specs.Due.{names_read, was_entered, has_other_value}
use Rattle.work_sets.specs.Entered.{Entered, entered_of}
use Rattle.build_walk.proofs.Stepping.{AllOf}
use Rattle.work_sets.specs.Members.{is_same_widget}
use Rattle.build_walk.specs.Counting.{is_built_reader, is_built}
use Rattle.build_walk.specs.Past.{is_marked}
use Rattle.settled_builds.specs.Places.{NodePlace, spot_at}
use Rattle.settled_builds.specs.Steps.{without}
use Rattle.settled_builds.proofs.Entries.{At, SomeNode, IsEntry, IfFound, finds, found_times, found_node}
use Rattle.settled_builds.proofs.Once.{Other, alone, IsAt, OnceIn}
use Rattle.settled_builds.proofs.Others.{AreSo}
use Rattle.settled_builds.proofs.Refreshing.{stale_when}
use Rattle.settled_builds.proofs.Was.{WasAt, was_at}
use Rattle.settled_builds.proofs.Without.{unmarked_there, others_stay}

-- ---- one of a list passes a test and not another one, and of the others those that pass the one pass the other

module _ (wanted : ℕ) (one two : Entered → Bool) where
  -- of another number than that one
  abbrev pub IsAlike : Entered → Type 0
  IsAlike e = Other wanted e.number → one e ≡ two e

  pub all_alike : ((e : Entered) → IsAlike e) → (es : List Entered) → AllOf IsAlike es
  all_alike h [] = tt
  all_alike h (e ∷ es) = (h e, all_alike h es)

  same_count : (e : Entered) (m n : Bool) (xs ys : List Entered) → m ≡ n → length xs ≡ length ys → length (cond m (e ∷ xs) xs) ≡ length (cond n (e ∷ ys) ys)
  same_count e true true xs ys i h = ap (λ k. suc k) h
  same_count e true false xs ys i h = cc
  same_count e false true xs ys i h = cc
  same_count e false false xs ys i h = h

  one_count : (e : Entered) (m n : Bool) (xs ys : List Entered) → m ≡ true → n ≡ false → length xs ≡ length ys → length (cond m (e ∷ xs) xs) ≡ suc (length (cond n (e ∷ ys) ys))
  one_count e true false xs ys i j h = ap (λ k. suc k) h
  one_count e true true xs ys i j h = cc
  one_count e false n xs ys i j h = cc

  more_count : (e : Entered) (m n : Bool) (xs ys : List Entered) → m ≡ n → length xs ≡ suc (length ys) → length (cond m (e ∷ xs) xs) ≡ suc (length (cond n (e ∷ ys) ys))
  more_count e true true xs ys i h = ap (λ k. suc k) h
  more_count e true false xs ys i h = cc
  more_count e false true xs ys i h = cc
  more_count e false false xs ys i h = h

  others_count : (es : List Entered) → AllOf IsAlike es → AreSo (Other wanted) es → length (filter one es) ≡ length (filter two es)
  others_count [] alike h = refl
  others_count (e ∷ es) alike h = same_count e (one e) (two e) (filter one es) (filter two es) (alike.0 h.0) (others_count es alike.1 h.1)

  module _ (w : PlainWidget) (values : List Value) (passes : (e : Entered) → IsAt wanted w values e → one e ≡ true) (fails : (e : Entered) → IsAt wanted w values e → two e ≡ false) where
    pub one_less : (es : List Entered) → AllOf IsAlike es → OnceIn wanted w values es → length (filter one es) ≡ suc (length (filter two es))
    one_less [] alike h = absurd h
    one_less (e ∷ es) alike (inl h) = one_count e (one e) (two e) (filter one es) (filter two es) (passes e h.0) (fails e h.0) (others_count es alike.1 h.1)
    one_less (e ∷ es) alike (inr h) = more_count e (one e) (two e) (filter one es) (filter two es) (alike.0 h.0) (one_less es alike.1 h.1)

-- ---- what was entered under a number, of two trees

-- it has the same widget and the same values, or in both another one than a component's
abbrev pub IsLike : Entered → PlainWidget → List Value → Type 0
IsLike x w vs = ((w ≡ x.widget) × (vs ≡ x.values)) ⊎ ((names_read (look_of x.widget) ≡ None) × (names_read (look_of w) ≡ None))

abbrev pub AreRelated : (Entered → PlainWidget → List Value → Type 0) → Option Entered → Option Entered → Type 0
AreRelated Rel None None = Unit {0}
AreRelated Rel None (Some y) = ⊥
AreRelated Rel (Some x) None = ⊥
AreRelated Rel (Some x) (Some y) = Rel x y.widget y.values

abbrev pub AreLike : Option Entered → Option Entered → Type 0
AreLike o u = AreRelated IsLike o u

pub like_itself : (o : Option Entered) → AreLike o o
like_itself None = tt
like_itself (Some x) = inl (refl, refl)

-- what moves to the new tree is found there
module _ (Rel : Entered → PlainWidget → List Value → Type 0) (k : ℕ) (values : List Value) (tree now : PlainNode) (alone_now : AllDiffer (numbers_of now)) (same : times_of k now ≡ times_of k tree)
    (moves : (e : Entered) → SomeNode (IsEntry k e) values tree → SomeNode (At k (Rel e)) values now) where
  like_by : (o u : Option Entered) → find (λ e. e.number == k) (entered_of [] values tree) ≡ o → find (λ e. e.number == k) (entered_of [] values now) ≡ u → IfFound k o (times_of k tree) → IfFound k u (times_of k now) → AreRelated Rel o u
  like_by None None e f h g = tt
  like_by None (Some y) e f h g = g (same ∙ h)
  like_by (Some x) None e f h g = h (sym same ∙ g)
  like_by (Some x) (Some y) e f h g =
      let r = finds k (Rel x) [] values now (alone k now alone_now) (moves x (found_node k x [] values tree e)) in
      let is : Some r.entry ≡ Some y = sym r.is ∙ f in
      subst (λ z. Rel x z.widget z.values) (some_is r.entry y is) r.has
    where
      some_is : (a b : Entered) → Some a ≡ Some b → a ≡ b
      some_is a b h = cc

  pub found_like : AreRelated Rel (find (λ e. e.number == k) (entered_of [] values tree)) (find (λ e. e.number == k) (entered_of [] values now))
  found_like =
      like_by (find (λ e. e.number == k) (entered_of [] values tree)) (find (λ e. e.number == k) (entered_of [] values now)) refl refl (found_times k [] values tree) (found_times k [] values now)

-- ---- which of them are built

module _ (equal : (v w : PlainWidget) → is_same_widget v w ≡ true → v ≡ w) where
  other_widget : (v w : PlainWidget) (names : List ℕ) → names_read (look_of v) ≡ None → names_read (look_of w) ≡ Some names → (s : Bool) → is_same_widget v w ≡ s → is_same_widget v w ≡ false
  other_widget v w names none some true is = let wrong : None ≡ Some names = sym none ∙ ap (λ (x : PlainWidget). names_read (look_of x)) (equal v w is) ∙ some in cc
  other_widget v w names none some false is = is

  always : (a b c : Bool) → b ≡ true → (a || (b || c)) ≡ true
  always true b c e = refl
  always false true c e = refl
  always false false c e = cc

  pub like_built : (r : Option (List ℕ)) (o u : Option Entered) (marks left : List ℕ) (e : Entered) → names_read (look_of e.widget) ≡ r → AreLike o u → is_marked marks e.number ≡ is_marked left e.number → is_built_reader r o marks e ≡ is_built_reader r u left e
  like_built None o u marks left e is like same = refl
  like_built (Some names) None None marks left e is like same = refl
  like_built (Some names) None (Some y) marks left e is like same = absurd like
  like_built (Some names) (Some x) None marks left e is like same = absurd like
  like_built (Some names) (Some x) (Some y) marks left e is (inl h) same =
      λ i. same i || (not (is_same_widget (sym h.0 i) e.widget) || list_any (λ name. not (value_eq (value_at (sym h.1 i) name) (value_at e.values name))) names)
  like_built (Some names) (Some x) (Some y) marks left e is (inr h) same =
      let was : not (is_same_widget x.widget e.widget) ≡ true = ap not (other_widget x.widget e.widget names h.0 is (is_same_widget x.widget e.widget) refl) in
      let now : not (is_same_widget y.widget e.widget) ≡ true = ap not (other_widget y.widget e.widget names h.1 is (is_same_widget y.widget e.widget) refl) in
      always (is_marked marks e.number) _ (list_any (has_other_value x e) names) was ∙ sym (always (is_marked left e.number) _ (list_any (has_other_value y e) names) now)

  first_marked : (a c : Bool) → a ≡ true → (a || c) ≡ true
  first_marked true c e = refl
  first_marked false c e = cc

  pub marked_built : (names : List ℕ) (r : Option (List ℕ)) (o : Option Entered) (marks : List ℕ) (e : Entered) → r ≡ Some names → is_marked marks e.number ≡ true → is_built_reader r o marks e ≡ true
  marked_built names None o marks e is m = cc
  marked_built names (Some ns) None marks e is m = refl
  marked_built names (Some ns) (Some x) marks e is m = first_marked (is_marked marks e.number) _ m

  no_component : (w : PlainWidget) (names : List ℕ) → names_read (look_of w) ≡ Some names → names_read (look_of w) ≡ None → ⊥
  no_component w names some none = let wrong : Some names ≡ None = sym some ∙ none in cc

  -- what stood there stands there
  stood : (w : PlainWidget) (values : List Value) (names : List ℕ) → names_read (look_of w) ≡ Some names → (x : Entered) → x.widget ≡ w → x.values ≡ values → (u : Option Entered) → AreLike (Some x) u
      → (y : Entered) × (u ≡ Some y) × (y.widget ≡ w) × (y.values ≡ values)
  stood w values names reads x widget at None like = absurd like
  stood w values names reads x widget at (Some y) (inl h) = (y, refl, h.0 ∙ widget, h.1 ∙ at)
  stood w values names reads x widget at (Some y) (inr h) = absurd (no_component w names reads (subst (λ (v : PlainWidget). names_read (look_of v) ≡ None) widget h.0))

  module _ (b : Blueprint) (wanted : ℕ) (marks : List ℕ) (tree now : PlainNode) (p : NodePlace) (at : spot_at wanted depth_limit b.defaults 0 0 tree ≡ Some p) (names : List ℕ) (reads : names_read (look_of (widget_of p.node)) ≡ Some names)
      (marked : is_marked marks wanted ≡ true) (like : (k : ℕ) → AreLike (was_entered b.defaults (Some tree) k) (was_entered b.defaults (Some now) k)) where
    abbrev left : List ℕ
    left = without wanted marks

    alike : (e : Entered) → Other wanted e.number → is_built b.defaults (Some tree) marks e ≡ is_built b.defaults (Some now) left e
    alike e other =
        like_built (names_read (look_of e.widget)) (was_entered b.defaults (Some tree) e.number) (was_entered b.defaults (Some now) e.number) marks left e refl (like e.number) (sym (others_stay wanted e.number other marks))

    passes : (e : Entered) → IsAt wanted (widget_of p.node) p.values e → is_built b.defaults (Some tree) marks e ≡ true
    passes e h =
        marked_built names (names_read (look_of e.widget)) (was_entered b.defaults (Some tree) e.number) marks e (ap (λ (w : PlainWidget). names_read (look_of w)) h.1 ∙ reads) (ap (is_marked marks) h.0 ∙ marked)

    fails : (e : Entered) → IsAt wanted (widget_of p.node) p.values e → is_built b.defaults (Some now) left e ≡ false
    fails e h =
        let was : WasAt wanted (entered_of [] b.defaults tree) p = was_at wanted depth_limit 0 0 [] b.defaults tree p at in
        let there = stood (widget_of p.node) p.values names reads was.entry was.widget was.values (was_entered b.defaults (Some now) wanted) (subst (λ o. AreLike o (was_entered b.defaults (Some now) wanted)) was.is (like wanted)) in
        let found_is : was_entered b.defaults (Some now) e.number ≡ Some there.0 = ap (was_entered b.defaults (Some now)) h.0 ∙ there.1 in
        let r_is : names_read (look_of e.widget) ≡ Some names = ap (λ (w : PlainWidget). names_read (look_of w)) h.1 ∙ reads in
        (λ i. is_built_reader (r_is i) (found_is i) left e)
        ∙ stale_when wanted left (Some names) there.0 e (h.2 ∙ sym there.3) (inl (h.1 ∙ sym there.2))
        ∙ ap (is_marked left) h.0
        ∙ unmarked_there wanted marks

    pub counts_less : (es : List Entered) → OnceIn wanted (widget_of p.node) p.values es → length (filter (is_built b.defaults (Some tree) marks) es) ≡ suc (length (filter (is_built b.defaults (Some now) left) es))
    counts_less es once = one_less wanted (is_built b.defaults (Some tree) marks) (is_built b.defaults (Some now) left) (widget_of p.node) p.values passes fails es (all_alike wanted (is_built b.defaults (Some tree) marks) (is_built b.defaults (Some now) left) alike es) once
