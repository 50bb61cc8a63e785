-- The components that read a name are flagged: they are those whose numbers are marked.
use Rattle.std.proofs.Common.{◌≡◌, ℕ, ◌+◌, ◌≤◌, ◌==◌, Bool, true, false, not, ◌&&◌, ◌||◌, cond, Option, Some, None, option_map, List, [], ◌∷◌, ◌++◌, refl, sym, ap, ◌∙◌, subst, arith, inl, inr}
use Rattle.std.specs.List.{list_any}
use Rattle.std.proofs.lemmas.Bool.{cases_Bool}
use Rattle.std.proofs.lemmas.List.{append-nil}
use Rattle.fx_handles.specs.declared.Handle.{Handle}
use Rattle.fx_handles.specs.Handle.{same}
use Rattle.fx_handles.specs.HandleLaws.{same-eq}
use Rattle.node_tree.specs.Forest.{TreeNode, Forest, tops, count, In, IsDistinct, Stands, tree_of}
use Rattle.node_tree.specs.Forest.Forest.{none, tree}
use Rattle.node_tree.specs.Tree.{Tree, node_at}
use Rattle.node_tree.proofs.ForestLemmas.{hit-true, hit-false, weigh-without, tree_of-here, tree_of-below, tree_of-rest}
use Rattle.widget_model.specs.Look.{Look, inherit, component}
use Rattle.widget_model.specs.Plain.{PlainWidget, look_of}
use Rattle.plain_tree.specs.PlainNode.{nodes_of as listed}
use Rattle.build_form.specs.BuildRole.{build_role_of}
use Rattle.element_tree.specs.Edits.{with_flag}
use Rattle.element_tree.specs.Element.{Element, element_at, number_at}
use Rattle.element_tree.specs.Nodes.{nodes_of}
use Rattle.inherited.specs.Readers.{reads, provides, is_reader, flagged_if, flagged, Flags}
use Rattle.work_sets.specs.Due.{names_read}
use Rattle.build_walk.specs.Past.{is_marked}
use Rattle.build_walk.specs.Telling.{FlagsAre}
use Rattle.build_walk.proofs.Standing.{by_place}
use Rattle.settled_builds.specs.Regiven.{is_read, is_given, readers_in}
use Rattle.renewed_builds.specs.Several.{flagged_in}
use Rattle.renewed_builds.proofs.Below.{first_taking, regiven_at}
use Rattle.renewed_builds.proofs.Retaking.{HasNumberAt, distinct_below, distinct_later}

-- ---- marks of two lists

or_again : (a b c : Bool) → (a || (b || c)) ≡ ((a || b) || c)
or_again true b c = refl
or_again false b c = refl

pub marked_two : (k : ℕ) (xs ys : List ℕ) → is_marked (xs ++ ys) k ≡ (is_marked xs k || is_marked ys k)
marked_two k [] ys = refl
marked_two k (x ∷ xs) ys = ap (λ (b : Bool). (x == k) || b) (marked_two k xs ys) ∙ or_again (x == k) (is_marked xs k) (is_marked ys k)

-- ---- who reads a name, by handles and by numbers

reads_are : (name : ℕ) (look : Look) → reads name look ≡ is_read name (names_read look)
reads_are name (component place props declaration) = refl
reads_are name look = refl

provides_is : (name : ℕ) (look : Look) → provides name look ≡ is_given name (build_role_of look)
provides_is name (inherit other v) = refl
provides_is name look = refl

own_marked : (a b : Bool) (number n : ℕ) → (number == n) ≡ a → is_marked (cond b (number ∷ []) []) n ≡ (a && b)
own_marked true true number n is = ap (λ (x : Bool). x || false) is
own_marked false true number n is = ap (λ (x : Bool). x || false) is
own_marked true false number n is = refl
own_marked false false number n is = refl

below_marked : (b : Bool) (numbers : List ℕ) (n : ℕ) (x : Bool) → is_marked numbers n ≡ x → is_marked (cond b [] numbers) n ≡ (not b && x)
below_marked true numbers n x is = refl
below_marked false numbers n x is = is

-- an element is a reader where its number is among theirs
pub reader_marked : (scrolled : ℕ → ℕ) (name : ℕ) (k : Handle) (n : ℕ) (f : Forest Element) → HasNumberAt k n f → is_reader name k f ≡ is_marked (readers_in name (listed (nodes_of scrolled f))) n
reader_marked scrolled name k n none has = refl
reader_marked scrolled name k n (tree h e kids rest) has =
    let look = look_of e.widget in
    let r = is_read name (names_read look) in
    let g = is_given name (build_role_of look) in
    let inner = readers_in name (listed (nodes_of scrolled kids)) in
    let later = readers_in name (listed (nodes_of scrolled rest)) in
    (λ i. ((same h k && reads_are name look i) || (not (provides_is name look i) && is_reader name k kids)) || is_reader name k rest)
    ∙ sym
    (marked_two n (cond r (e.number ∷ []) [] ++ cond g [] inner) later
    ∙ ap (λ (b : Bool). b || is_marked later n) (marked_two n (cond r (e.number ∷ []) []) (cond g [] inner))
    ∙ (λ i.
    (own_marked (same h k) r e.number n has.0 i || below_marked g inner n (is_reader name k kids) (sym (reader_marked scrolled name k n kids has.1)) i)
    || sym (reader_marked scrolled name k n rest has.2) i))

-- a reader stands there
and_first : (a b : Bool) → (a && b) ≡ true → a ≡ true
and_first true b e = refl
and_first false b e = cc

and_second : (a b : Bool) → (a && b) ≡ true → b ≡ true
and_second true b e = e
and_second false b e = cc

one_of_three : {P : Type 0} (a b c : Bool) → ((a || b) || c) ≡ true → (a ≡ true → P) → (b ≡ true → P) → (c ≡ true → P) → P
one_of_three true b c e p q r = p refl
one_of_three false true c e p q r = q refl
one_of_three false false c e p q r = r e

pub reader_there : (name : ℕ) (k : Handle) (f : Forest Element) → is_reader name k f ≡ true → In k f
reader_there name k none e = cc
reader_there name k (tree h e kids rest) is =
    one_of_three (same h k && reads name (look_of e.widget)) (not (provides name (look_of e.widget)) && is_reader name k kids) (is_reader name k rest) is
    (λ p. let one = hit-true k h (and_first (same h k) (reads name (look_of e.widget)) p) in omega (arith, one))
    (λ p. let one = reader_there name k kids (and_second (not (provides name (look_of e.widget))) (is_reader name k kids) p) in omega (arith, one))
    (λ p. let one = reader_there name k rest p in omega (arith, one))

-- ---- flags and marks

-- so it is of each element's handle, number and flag
abbrev pub Each : (Handle → ℕ → Bool → Type 0) → Forest Element → Type 0
Each P none = Unit {0}
Each P (tree k e kids rest) = P k e.number e.dirty × Each P kids × Each P rest

pub each_then : (P Q : Handle → ℕ → Bool → Type 0) → ((k : Handle) (n : ℕ) (dirty : Bool) → P k n dirty → Q k n dirty) → (f : Forest Element) → Each P f → Each Q f
each_then P Q step none each = tt
each_then P Q step (tree k e kids rest) each = (step k e.number e.dirty each.0, each_then P Q step kids each.1, each_then P Q step rest each.2)

each_first : (P : Handle → ℕ → Bool → Type 0) (w : PlainWidget) (f : Forest Element) → Each P f → Each P (first_taking w f)
each_first P w none each = tt
each_first P w (tree k e kids rest) each = each

each_if : (P : Handle → ℕ → Bool → Type 0) (b : Bool) (f g : Forest Element) → Each P f → Each P g → Each P (cond b f g)
each_if P true f g one other = one
each_if P false f g one other = other

pub each_regiven : (P : Handle → ℕ → Bool → Type 0) (h : Handle) (w : PlainWidget) (f : Forest Element) → Each P f → Each P (regiven_at h w f)
each_regiven P h w none each = tt
each_regiven P h w (tree k e kids rest) each =
    (each.0, each_if P (same k h) (first_taking w kids) (regiven_at h w kids) (each_first P w kids each.1) (each_regiven P h w kids each.1), each_regiven P h w rest each.2)

module _ (p : Handle → Bool) where
  flag_is : (b : Bool) (e : Element) → e.dirty ≡ false → (cond b (with_flag true e) e).dirty ≡ b
  flag_is true e clean = refl
  flag_is false e clean = clean

  number_is : (b : Bool) (e : Element) → (cond b (with_flag true e) e).number ≡ e.number
  number_is true e = refl
  number_is false e = refl

  pub flags_marked : (marks : List ℕ) (f : Forest Element) → Each (λ k n dirty. (dirty ≡ false) × (p k ≡ is_marked marks n)) f → FlagsAre marks (flagged p f)
  flags_marked marks none each = tt
  flags_marked marks (tree k e kids rest) each = (
    flag_is (p k) e each.0.0 ∙ each.0.1 ∙ sym (ap (is_marked marks) (number_is (p k) e)),
    flags_marked marks kids each.1,
    flags_marked marks rest each.2,
  )

  -- ---- the flagged ones are below one element

  abbrev Clean : Forest Element → Type 0
  Clean f = Each (λ k n dirty. dirty ≡ false) f

  abbrev picked : Forest Element → List Handle
  picked f = flagged_in (flagged p f)

  no_flag : (k : Handle) (e : Element) (b : Bool) → b ≡ false → e.dirty ≡ false → cond (cond b (with_flag true e) e).dirty (k ∷ []) [] ≡ []
  no_flag k e true is clean = cc
  no_flag k e false is clean = ap (λ (b : Bool). cond b (k ∷ []) []) clean

  none_picked : (f : Forest Element) → Clean f → ((k : Handle) → In k f → p k ≡ false) → picked f ≡ []
  none_picked none clean unset = refl
  none_picked (tree k e kids rest) clean unset =
      let own = hit-true k k (same-eq k k refl) in
      λ i. no_flag k e (p k) (unset k (omega (arith, own))) clean.0 i
      ++ (none_picked kids clean.1 (λ j among. unset j (omega (arith, among))) i ++ none_picked rest clean.2 (λ j among. unset j (omega (arith, among))) i)

  unset_by : (k : Handle) (n : ℕ) → (p k ≡ true → n ≡ 0 → ⊥) → n ≡ 0 → p k ≡ false
  unset_by k n set gone = elim (cases_Bool (p k)) [ inl e ↦ absurd (set e gone) | inr e ↦ e ]

  module _ (child : Handle) where
    within : (k : Handle) (f : Forest Element) → IsDistinct f → count k (tree_of child f) ≤ count k f
    within k f distinct = let sum = weigh-without (λ j. cond {A = ℕ} (same j k) 1 0) child f (distinct child) in omega (arith, sum)

    -- all that are flagged are in the tree of this one
    pub picked_there : (f : Forest Element) → IsDistinct f → Clean f → In child f → ((k : Handle) → p k ≡ true → In k (tree_of child f)) → picked f ≡ picked (tree_of child f)
    picked_there none distinct clean among only = absurd (omega (arith, among))
    picked_there (tree k e kids rest) distinct clean among only =
        let flag = cond (cond (p k) (with_flag true e) e).dirty (k ∷ []) [] in
        let few = distinct child in
        elim (cases_Bool (same k child)) [
          | inl at ↦
              let here : tree_of child (tree k e kids rest) ≡ tree k e kids none = tree_of-here child k e kids rest at in
              let gone : picked rest ≡ [] =
              none_picked rest clean.2 (λ j more. unset_by j 0 (λ set zero.
              let there = subst (λ (s : Forest Element). In j s) here (only j set) in
              let seldom = distinct j in omega (arith, more, there, seldom)) refl) in
              ap (λ (l : List Handle). flag ++ (picked kids ++ l)) gone ∙ sym (ap picked here)
          | inr at ↦
              let apart = hit-false child k at in
              by_place child k e kids rest (picked (tree k e kids rest) ≡ picked (tree_of child (tree k e kids rest))) among
              (λ is. absurd (let no = sym at ∙ same-eq k child is in cc))
              (λ inside.
              let here : tree_of child (tree k e kids rest) ≡ tree_of child kids = tree_of-below child k e kids rest at (omega (arith, few, inside)) in
              let smaller = distinct_below k e kids rest distinct in
              let own : flag ≡ [] =
              no_flag k e (p k) (unset_by k 0 (λ set zero.
              let there = subst (λ (s : Forest Element). In k s) here (only k set) in
              let under = within k kids smaller in let seldom = distinct k in let one = hit-true k k (same-eq k k refl) in omega (arith, there, under, seldom, one)) refl) clean.0 in
              let gone : picked rest ≡ [] =
              none_picked rest clean.2 (λ j more. unset_by j 0 (λ set zero.
              let there = subst (λ (s : Forest Element). In j s) here (only j set) in
              let under = within j kids smaller in let seldom = distinct j in omega (arith, there, under, seldom, more)) refl) in
              (λ i. own i ++ (picked_there kids smaller clean.1 inside (λ j set. subst (λ (s : Forest Element). In j s) here (only j set)) i ++ gone i))
              ∙ append-nil (picked (tree_of child kids)) ∙ sym (ap picked here))
              (λ later.
              let here : tree_of child (tree k e kids rest) ≡ tree_of child rest = tree_of-rest child k e kids rest at (omega (arith, few, later)) in
              let smaller = distinct_later k e kids rest distinct in
              let own : flag ≡ [] =
              no_flag k e (p k) (unset_by k 0 (λ set zero.
              let there = subst (λ (s : Forest Element). In k s) here (only k set) in
              let under = within k rest smaller in let seldom = distinct k in let one = hit-true k k (same-eq k k refl) in omega (arith, there, under, seldom, one)) refl) clean.0 in
              let gone : picked kids ≡ [] =
              none_picked kids clean.1 (λ j more. unset_by j 0 (λ set zero.
              let there = subst (λ (s : Forest Element). In j s) here (only j set) in
              let under = within j rest smaller in let seldom = distinct j in omega (arith, there, under, seldom, more)) refl) in
              (λ i. own i ++ (gone i ++ picked_there rest smaller clean.2 later (λ j set. subst (λ (s : Forest Element). In j s) here (only j set)) i))
              ∙ sym (ap picked here))
        ]

pub tops_flagged : (p : Handle → Bool) (f : Forest Element) → tops (flagged p f) ≡ tops f
tops_flagged p none = refl
tops_flagged p (tree k e kids rest) = ap (λ l. k ∷ l) (tops_flagged p rest)
