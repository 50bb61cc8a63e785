-- A tree in which an Inherit gives another value is as ready as it was, with the readers of its name marked.
use Rattle.std.proofs.Common.{◌≡◌, ℕ, zero, suc, ◌+◌, ◌==◌, eqb, Bool, true, false, ◌||◌, cond, is_some, Option, Some, None, List, [], ◌∷◌, ◌++◌, map, length, refl, sym, ap, ◌∙◌, subst, ◌⊎◌, inl, inr}
use Rattle.std.specs.List.{list_any}
use Rattle.std.specs.Prelude.{slice_set}
use Rattle.std.proofs.lemmas.Bool.{eqb-true, eq-eqb}
use Rattle.fx_expr.specs.declared.values.Value.{Value}
use Rattle.widget_model.specs.Look.{Look, component}
use Rattle.widget_model.specs.Plain.{PlainWidget, look_of}
use Rattle.plain_tree.specs.At.{is_there}
use Rattle.plain_tree.specs.PlainNode.{PlainNode, node, PlainNodes, no_nodes, more_nodes, list_of, widget_of, counts_of, count_of}
use Rattle.build_form.specs.BuildRole.{BuildRole, composes, provides, keeps, lists, holds, build_role_of}
use Rattle.build_form.specs.Entering.{Blueprint, values_by, values_below}
use Rattle.build_form.specs.Laws.{NumbersAre, AllNumbersAre}
use Rattle.build_walk.proofs.Reentering.{long_by}
use Rattle.build_walk.specs.Fresh.{output_by, ReadsItsNames, HasOutput, HasFreshOutputs, HaveFreshOutputs}
use Rattle.build_walk.specs.Past.{is_marked}
use Rattle.build_walk.specs.Reading.{AgreeAt}
use Rattle.work_sets.specs.Due.{names_read}
use Rattle.work_sets.specs.Entered.{Entered}
use Rattle.settled_builds.specs.Places.{NodePlace, spot_at, spot_in}
use Rattle.settled_builds.specs.Regiven.{is_read, is_given, readers_of, readers_in, ReadTheirNames, AllReadTheirNames}
use Rattle.settled_builds.specs.Settled.{AreComponents, AllAreComponents}
use Rattle.settled_builds.proofs.Entries.{SomeNode, SomeNodeIn, At, finds}
use Rattle.settled_builds.proofs.Once.{Other, IsAlone}
use Rattle.settled_builds.proofs.Reaching.{same_spot}
use Rattle.settled_builds.proofs.Values.{DifferAt, differ_set, same_set, differ_other, differ_long}
use Rattle.settled_builds.proofs.Without.{all_fresh_less}

-- ---- marks of two lists

or_true : (a b : Bool) → (a || b) ≡ true → (a ≡ true) ⊎ (b ≡ true)
or_true true b e = inl refl
or_true false b e = inr e

or_right : (a b : Bool) → b ≡ true → (a || b) ≡ true
or_right true b e = refl
or_right false b e = e

or_left : (a b : Bool) → a ≡ true → (a || b) ≡ true
or_left true b e = refl
or_left false b e = cc

or_none : (a b : Bool) → (a || b) ≡ false → (a ≡ false) × (b ≡ false)
or_none true b e = cc
or_none false b e = (refl, e)

or_again : (a b c : Bool) → (a || (b || c)) ≡ ((a || b) || c)
or_again true b c = refl
or_again false b c = refl

pub marked_two : (k : ℕ) (xs ys : List ℕ) → is_marked (xs ++ ys) k ≡ (is_marked xs k || is_marked ys k)
marked_two k [] ys = refl
marked_two k (x ∷ xs) ys = ap (λ (b : Bool). (x == k) || b) (marked_two k xs ys) ∙ or_again (x == k) (is_marked xs k) (is_marked ys k)

pub marked_right : (k : ℕ) (xs ys : List ℕ) → is_marked ys k ≡ true → is_marked (xs ++ ys) k ≡ true
marked_right k xs ys e = marked_two k xs ys ∙ or_right (is_marked xs k) (is_marked ys k) e

pub marked_left : (k : ℕ) (xs ys : List ℕ) → is_marked xs k ≡ true → is_marked (xs ++ ys) k ≡ true
marked_left k xs ys e = marked_two k xs ys ∙ or_left (is_marked xs k) (is_marked ys k) e

pub marked_either : (k : ℕ) (xs ys : List ℕ) → is_marked (xs ++ ys) k ≡ true → (is_marked xs k ≡ true) ⊎ (is_marked ys k ≡ true)
marked_either k xs ys e = or_true (is_marked xs k) (is_marked ys k) (sym (marked_two k xs ys) ∙ e)

pub marked_neither : (k : ℕ) (xs ys : List ℕ) → is_marked (xs ++ ys) k ≡ false → (is_marked xs k ≡ false) × (is_marked ys k ≡ false)
marked_neither k xs ys e = or_none (is_marked xs k) (is_marked ys k) (sym (marked_two k xs ys) ∙ e)

-- ---- kinds and values

-- a component reads names
role_reads : (look : Look) (i : ℕ) (ps : List Value) → build_role_of look ≡ composes i ps → is_some (names_read look) ≡ true
role_reads (component place props declaration) i ps e = refl
role_reads look i ps e = cc

pub provides_reads : (look : Look) (name : ℕ) (value : Value) → build_role_of look ≡ provides name value → names_read look ≡ None
provides_reads (component place props declaration) name value e = cc
provides_reads look name value e = by_names (names_read look) refl
  where
    by_names : (r : Option (List ℕ)) → names_read look ≡ r → names_read look ≡ None
    by_names None is = is
    by_names (Some names) is = cc

pub same_below : (p : BuildRole) (name : ℕ) (vs ws : List Value) → is_given name p ≡ true → DifferAt name vs ws → values_by p vs ≡ values_by p ws
same_below (composes i ps) name vs ws g h = cc
same_below (provides k v) name vs ws g h = let is : k ≡ name = eqb-true k name g in subst (λ j. slice_set vs j v ≡ slice_set ws j v) (sym is) (same_set name vs ws v h)
same_below (keeps kept) name vs ws g h = cc
same_below (lists extent) name vs ws g h = cc
same_below holds name vs ws g h = cc

pub differ_below : (p : BuildRole) (name : ℕ) (vs ws : List Value) → DifferAt name vs ws → DifferAt name (values_by p vs) (values_by p ws)
differ_below (composes i ps) name vs ws h = h
differ_below (provides k v) name vs ws h = differ_set name k vs ws v h
differ_below (keeps kept) name vs ws h = h
differ_below (lists extent) name vs ws h = h
differ_below holds name vs ws h = h

-- ---- what a component gives is the same, unless it reads the name

module _ (b : Blueprint) where
  output_again : (p : BuildRole) (w : PlainWidget) (fs vs ws : List Value) (number : ℕ) (cs : List PlainWidget) → output_by b p w fs vs number ≡ output_by b p w fs ws number → HasOutput b p w fs vs number cs → HasOutput b p w fs ws number cs
  output_again (composes i ps) w fs vs ws number cs e h = (h.0 ∙ e, h.1)
  output_again (provides k v) w fs vs ws number cs e h = tt
  output_again (keeps kept) w fs vs ws number cs e h = tt
  output_again (lists extent) w fs vs ws number cs e h = tt
  output_again holds w fs vs ws number cs e h = tt

  no_output : (p : BuildRole) (w : PlainWidget) (fs ws : List Value) (number : ℕ) (cs : List PlainWidget) → ((i : ℕ) (ps : List Value) → p ≡ composes i ps → ⊥) → HasOutput b p w fs ws number cs
  no_output (composes i ps) w fs ws number cs h = absurd (h i ps refl)
  no_output (provides k v) w fs ws number cs h = tt
  no_output (keeps kept) w fs ws number cs h = tt
  no_output (lists extent) w fs ws number cs h = tt
  no_output holds w fs ws number cs h = tt

  agree_but : (name : ℕ) (names : List ℕ) (vs ws : List Value) → DifferAt name vs ws → list_any (λ k. k == name) names ≡ false → AgreeAt names vs ws
  agree_but name [] vs ws h e = tt
  agree_but name (k ∷ names) vs ws h e =
      let n = or_none (k == name) (list_any (λ j. j == name) names) e in
      (differ_other name k vs ws _ h (λ same. apart (eq-eqb k name same) n.0), agree_but name names vs ws h n.1)
    where
      apart : (k == name) ≡ true → (k == name) ≡ false → ⊥
      apart t f = cc

  output_by_names : (name number : ℕ) (w : PlainWidget) (fs vs ws : List Value) (cs : List PlainWidget) → DifferAt name vs ws → length vs ≡ length b.defaults → ReadsItsNames b w
      → (r : Option (List ℕ)) → names_read (look_of w) ≡ r → is_read name r ≡ false → HasOutput b (build_role_of (look_of w)) w fs vs number cs → HasOutput b (build_role_of (look_of w)) w fs ws number cs
  output_by_names name number w fs vs ws cs h long reads None is e out =
      no_output (build_role_of (look_of w)) w fs ws number cs (λ i ps role. wrong (names_read (look_of w)) is (role_reads (look_of w) i ps role))
    where
      wrong : (r : Option (List ℕ)) → r ≡ None → is_some r ≡ true → ⊥
      wrong None e t = cc
      wrong (Some names) e t = cc
  output_by_names name number w fs vs ws cs h long reads (Some names) is e out =
      output_again (build_role_of (look_of w)) w fs vs ws number cs (reads names fs vs ws number is long (differ_long name vs ws h ∙ long) (agree_but name names vs ws h e)) out

  module _ (marks left : List ℕ) (wanted name : ℕ) (less : (k : ℕ) → Other wanted k → is_marked left k ≡ false → is_marked marks k ≡ false) where
    -- all of these are marked then
    abbrev pub AllMarked : List ℕ → Type 0
    AllMarked rs = (k : ℕ) → is_marked rs k ≡ true → is_marked left k ≡ true

    never : (k : ℕ) (X : Type 0) → is_marked left k ≡ true → is_marked left k ≡ false → X
    never k X t f = absurd (wrong (is_marked left k) t f)
      where
        wrong : (m : Bool) → m ≡ true → m ≡ false → ⊥
        wrong m t f = cc

    itself_marked : (k : ℕ) (rs : List ℕ) → is_marked ((k ∷ []) ++ rs) k ≡ true
    itself_marked k rs = or_left (k == k) (is_marked rs k) (eq-eqb k k refl)

    again_by : (vs ws : List Value) (number : ℕ) (w : PlainWidget) (fs : List Value) (s i : ℕ) (ns : PlainNodes) → DifferAt name vs ws → length vs ≡ length b.defaults → ReadsItsNames b w → NumbersAre (Other wanted) (node number w fs s i ns)
        → HasFreshOutputs b marks vs (node number w fs s i ns)
        → (DifferAt name (values_below w vs) (values_below w ws) → AllMarked (readers_in name ns) → HaveFreshOutputs b left (values_below w ws) ns)
        → (r : Bool) → is_read name (names_read (look_of w)) ≡ r → (g : Bool) → is_given name (build_role_of (look_of w)) ≡ g → AllMarked (cond r (number ∷ []) [] ++ cond g [] (readers_in name ns))
        → HasFreshOutputs b left ws (node number w fs s i ns)
    again_by vs ws number w fs s i ns h long reads other fresh step r read g given all = (own r read all, under g given all)
      where
        own : (q : Bool) → is_read name (names_read (look_of w)) ≡ q → AllMarked (cond q (number ∷ []) [] ++ cond g [] (readers_in name ns)) → is_marked left number ≡ false
            → HasOutput b (build_role_of (look_of w)) w fs ws number (map widget_of (list_of ns))
        own true is m e = never number _ (m number (itself_marked number (cond g [] (readers_in name ns)))) e
        own false is m e = output_by_names name number w fs vs ws (map widget_of (list_of ns)) h long reads (names_read (look_of w)) refl is (fresh.0 (less number other.0 e))

        under : (q : Bool) → is_given name (build_role_of (look_of w)) ≡ q → AllMarked (cond r (number ∷ []) [] ++ cond q [] (readers_in name ns)) → HaveFreshOutputs b left (values_below w ws) ns
        under true is m = all_fresh_less wanted b marks left less (values_below w ws) ns other.1 (subst (λ us. HaveFreshOutputs b marks us ns) (same_below (build_role_of (look_of w)) name vs ws is h) fresh.1)
        under false is m = step (differ_below (build_role_of (look_of w)) name vs ws h) (λ k e. m k (marked_right k (cond r (number ∷ []) []) (readers_in name ns) e))

    mutual
      again : (vs ws : List Value) (n : PlainNode) → DifferAt name vs ws → length vs ≡ length b.defaults → ReadTheirNames b n → NumbersAre (Other wanted) n → AllMarked (readers_of name n) → HasFreshOutputs b marks vs n → HasFreshOutputs b left ws n
      again vs ws (node number w fs s i ns) h long reads other all fresh =
          again_by vs ws number w fs s i ns h long reads.0 other fresh
          (λ g m. all_again (values_below w vs) (values_below w ws) ns g (long_by (build_role_of (look_of w)) vs ∙ long) reads.1 other.1 m fresh.1)
          (is_read name (names_read (look_of w))) refl (is_given name (build_role_of (look_of w))) refl all

      pub all_again : (vs ws : List Value) (ns : PlainNodes) → DifferAt name vs ws → length vs ≡ length b.defaults → AllReadTheirNames b ns → AllNumbersAre (Other wanted) ns → AllMarked (readers_in name ns) → HaveFreshOutputs b marks vs ns
          → HaveFreshOutputs b left ws ns
      all_again vs ws no_nodes h long reads other all fresh = tt
      all_again vs ws (more_nodes n ns) h long reads other all fresh = (
        again vs ws n h long reads.0 other.0 (λ k e. all k (marked_left k (readers_of name n) (readers_in name ns) e)) fresh.0,
        all_again vs ws ns h long reads.1 other.1 (λ k e. all k (marked_right k (readers_of name n) (readers_in name ns) e)) fresh.1,
      )

-- ---- a node that is found twice

module _ (k : ℕ) (P Q : PlainWidget → List Value → Type 0) where
  -- where a number stands alone
  pub both_have : (values : List Value) (n : PlainNode) → IsAlone k n → SomeNode (At k P) values n → SomeNode (At k Q) values n → (e : Entered) × P e.widget e.values × Q e.widget e.values
  both_have values n alone_here p q =
      let x = finds k P [] values n alone_here p in
      let y = finds k Q [] values n alone_here q in
      let same : x.entry ≡ y.entry = some_is x.entry y.entry (sym x.is ∙ y.is) in
      (x.entry, x.has, subst (λ (e : Entered). Q e.widget e.values) (sym same) y.has)
    where
      some_is : (a c : Entered) → Some a ≡ Some c → a ≡ c
      some_is a c e = cc

-- what is there at a spot is there in the tree
module _ (P : ℕ → PlainWidget → List Value → Type 0) (wanted : ℕ) (p : NodePlace) (here : SomeNode P p.values p.node) where
  spot_by : (left : ℕ) (values : List Value) (before behind number : ℕ) (w : PlainWidget) (fs : List Value) (s i : ℕ) (ns : PlainNodes)
      → (spot_in wanted left (values_below w values) (suc before) behind ns ≡ Some p → SomeNodeIn P (values_below w values) ns) → (b : Bool)
      → cond b (Some (record { node = node number w fs s i ns; left = suc left; values = values; before = before; after = behind })) (spot_in wanted left (values_below w values) (suc before) behind ns) ≡ Some p
      → SomeNode P values (node number w fs s i ns)
  spot_by left values before behind number w fs s i ns step true at =
      let q : NodePlace = record { node = node number w fs s i ns; left = suc left; values = values; before = before; after = behind } in
      subst (λ (x : NodePlace). SomeNode P x.values x.node) (sym (same_spot p q at)) here
  spot_by left values before behind number w fs s i ns step false at = inr (step at)

  spot_list : (left : ℕ) (values : List Value) (before behind : ℕ) (n : PlainNode) (ns : PlainNodes) → (spot_at wanted left values before (behind + counts_of ns) n ≡ Some p → SomeNode P values n)
      → (spot_in wanted left values (before + count_of n) behind ns ≡ Some p → SomeNodeIn P values ns) → (there : Bool)
      → cond there (spot_at wanted left values before (behind + counts_of ns) n) (spot_in wanted left values (before + count_of n) behind ns) ≡ Some p → SomeNodeIn P values (more_nodes n ns)
  spot_list left values before behind n ns one rest true at = inl (one at)
  spot_list left values before behind n ns one rest false at = inr (rest at)

  no_spot : None ≡ Some p → ⊥
  no_spot e = cc

  mutual
    pub spot_has : (left : ℕ) (values : List Value) (before behind : ℕ) (n : PlainNode) → spot_at wanted left values before behind n ≡ Some p → SomeNode P values n
    spot_has zero values before behind (node number w fs s i ns) at = absurd (no_spot at)
    spot_has (suc left) values before behind (node number w fs s i ns) at =
        spot_by left values before behind number w fs s i ns (λ a. spot_have left (values_below w values) (suc before) behind ns a) (eqb number wanted) at

    pub spot_have : (left : ℕ) (values : List Value) (before behind : ℕ) (ns : PlainNodes) → spot_in wanted left values before behind ns ≡ Some p → SomeNodeIn P values ns
    spot_have left values before behind no_nodes at = absurd (no_spot at)
    spot_have left values before behind (more_nodes n ns) at =
        spot_list left values before behind n ns (λ a. spot_has left values before (behind + counts_of ns) n a) (λ a. spot_have left values (before + count_of n) behind ns a) (is_there wanted n) at

-- what holds at a spot of each widget of a tree, and of the values there
module _ (b : Blueprint) (wanted : ℕ) (p : NodePlace) where
  pub record ReadsAt : Type 0 where
    pub long : length p.values ≡ length b.defaults
    pub reads : ReadTheirNames b p.node

  reads_by : (left : ℕ) (values : List Value) (before behind number : ℕ) (w : PlainWidget) (fs : List Value) (s i : ℕ) (ns : PlainNodes) → length values ≡ length b.defaults → ReadTheirNames b (node number w fs s i ns)
      → (spot_in wanted left (values_below w values) (suc before) behind ns ≡ Some p → ReadsAt) → (here : Bool)
      → cond here (Some (record { node = node number w fs s i ns; left = suc left; values = values; before = before; after = behind })) (spot_in wanted left (values_below w values) (suc before) behind ns) ≡ Some p → ReadsAt
  reads_by left values before behind number w fs s i ns long reads step true at =
      let q : NodePlace = record { node = node number w fs s i ns; left = suc left; values = values; before = before; after = behind } in
      let is = same_spot p q at in
      record { long = subst (λ (x : NodePlace). length x.values ≡ length b.defaults) is long; reads = subst (λ (x : NodePlace). ReadTheirNames b x.node) is reads }
  reads_by left values before behind number w fs s i ns long reads step false at = step at

  reads_list : (left : ℕ) (values : List Value) (before behind : ℕ) (n : PlainNode) (ns : PlainNodes) → (spot_at wanted left values before (behind + counts_of ns) n ≡ Some p → ReadsAt)
      → (spot_in wanted left values (before + count_of n) behind ns ≡ Some p → ReadsAt) → (there : Bool)
      → cond there (spot_at wanted left values before (behind + counts_of ns) n) (spot_in wanted left values (before + count_of n) behind ns) ≡ Some p → ReadsAt
  reads_list left values before behind n ns one rest true at = one at
  reads_list left values before behind n ns one rest false at = rest at

  nowhere : None ≡ Some p → ⊥
  nowhere e = cc

  mutual
    pub reads_at : (left : ℕ) (values : List Value) (before behind : ℕ) (n : PlainNode) → length values ≡ length b.defaults → ReadTheirNames b n → spot_at wanted left values before behind n ≡ Some p → ReadsAt
    reads_at zero values before behind (node number w fs s i ns) long reads at = absurd (nowhere at)
    reads_at (suc left) values before behind (node number w fs s i ns) long reads at =
        reads_by left values before behind number w fs s i ns long reads (λ a. reads_in left (values_below w values) (suc before) behind ns (long_by (build_role_of (look_of w)) values ∙ long) reads.1 a) (eqb number wanted) at

    reads_in : (left : ℕ) (values : List Value) (before behind : ℕ) (ns : PlainNodes) → length values ≡ length b.defaults → AllReadTheirNames b ns → spot_in wanted left values before behind ns ≡ Some p → ReadsAt
    reads_in left values before behind no_nodes long reads at = absurd (nowhere at)
    reads_in left values before behind (more_nodes n ns) long reads at =
        reads_list left values before behind n ns (λ a. reads_at left values before (behind + counts_of ns) n long reads.0 a) (λ a. reads_in left values (before + count_of n) behind ns long reads.1 a) (is_there wanted n) at

-- ---- readers are components

abbrev pub Reads : PlainWidget → Type 0
Reads w = is_some (names_read (look_of w)) ≡ true

pub read_some : (name : ℕ) (r : Option (List ℕ)) → is_read name r ≡ true → is_some r ≡ true
read_some name None e = cc
read_some name (Some names) e = refl

module _ (k name : ℕ) where
  -- it reads the name
  abbrev pub IsReader : PlainWidget → List Value → Type 0
  IsReader w vs = is_read name (names_read (look_of w)) ≡ true

  reader_by : (number : ℕ) (w : PlainWidget) (values : List Value) (ns : PlainNodes) → (is_marked (readers_in name ns) k ≡ true → SomeNodeIn (At k IsReader) (values_below w values) ns)
      → (r : Bool) → is_read name (names_read (look_of w)) ≡ r → (g : Bool) → is_marked (cond r (number ∷ []) [] ++ cond g [] (readers_in name ns)) k ≡ true → At k IsReader number w values ⊎ SomeNodeIn (At k IsReader) (values_below w values) ns
  reader_by number w values ns step true is g e = elim (or_true (number == k) (is_marked (cond g [] (readers_in name ns)) k) e) [
    | inl x ↦ inl (eqb-true number k x, is)
    | inr x ↦ inr (under g x)
  ]
    where
      under : (q : Bool) → is_marked (cond q [] (readers_in name ns)) k ≡ true → SomeNodeIn (At k IsReader) (values_below w values) ns
      under true m = let wrong : false ≡ true = m in cc
      under false m = step m
  reader_by number w values ns step false is true e = let wrong : false ≡ true = e in cc
  reader_by number w values ns step false is false e = inr (step e)

  mutual
    pub reader_there : (values : List Value) (n : PlainNode) → is_marked (readers_of name n) k ≡ true → SomeNode (At k IsReader) values n
    reader_there values (node number w fs s i ns) e =
        reader_by number w values ns (λ m. readers_there (values_below w values) ns m) (is_read name (names_read (look_of w))) refl (is_given name (build_role_of (look_of w))) e

    pub readers_there : (values : List Value) (ns : PlainNodes) → is_marked (readers_in name ns) k ≡ true → SomeNodeIn (At k IsReader) values ns
    readers_there values no_nodes e = let wrong : false ≡ true = e in cc
    readers_there values (more_nodes n ns) e = elim (marked_either k (readers_of name n) (readers_in name ns) e) [
      | inl x ↦ inl (reader_there values n x)
      | inr x ↦ inr (readers_there values ns x)
    ]

-- the marked nodes of a tree are components where each node that has a marked number is one
module _ (marks : List ℕ) where
  mutual
    pub components_from : (values : List Value) (n : PlainNode) → ((j : ℕ) (w : PlainWidget) → is_marked marks j ≡ true → SomeNode (At j (λ v vs. v ≡ w)) values n → Reads w) → AreComponents marks n
    components_from values (node number w fs s i ns) h =
        (λ e. h number w e (inl (refl, refl)), all_components_from (values_below w values) ns (λ j v e x. h j v e (inr x)))

    all_components_from : (values : List Value) (ns : PlainNodes) → ((j : ℕ) (w : PlainWidget) → is_marked marks j ≡ true → SomeNodeIn (At j (λ v vs. v ≡ w)) values ns → Reads w) → AllAreComponents marks ns
    all_components_from values no_nodes h = tt
    all_components_from values (more_nodes n ns) h =
        (components_from values n (λ j w e x. h j w e (inl x)), all_components_from values ns (λ j w e x. h j w e (inr x)))

mutual
  pub either_component : (xs ys : List ℕ) (n : PlainNode) → AreComponents xs n → AreComponents ys n → AreComponents (xs ++ ys) n
  either_component xs ys (node number w fs s i ns) g h = (
    λ e. elim (marked_either number xs ys e) [
      | inl x ↦ g.0 x
      | inr x ↦ h.0 x
    ],
    all_either_component xs ys ns g.1 h.1,
  )

  all_either_component : (xs ys : List ℕ) (ns : PlainNodes) → AllAreComponents xs ns → AllAreComponents ys ns → AllAreComponents (xs ++ ys) ns
  all_either_component xs ys no_nodes g h = tt
  all_either_component xs ys (more_nodes n ns) g h = (either_component xs ys n g.0 h.0, all_either_component xs ys ns g.1 h.1)
