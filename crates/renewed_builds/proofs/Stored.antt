-- A component stores what its body gave, and isn't to be built anew any more.
use Rattle.std.proofs.Common.{◌≡◌, ℕ, ◌+◌, ◌≤◌, ◌==◌, ◌&&◌, ◌||◌, not, Bool, true, false, cond, eqb, Option, Some, None, option_map, List, [], ◌∷◌, ◌++◌, length, map, get_or, refl, sym, ap, ◌∙◌, subst, arith}
use Rattle.std.specs.Option.{option_to_list}
use Rattle.std.specs.declared.alloc.Global.{Global}
use Rattle.std.specs.declared.rc.Rc.{Rc}
use Rattle.std.proofs.lemmas.Bool.{eqb-true, ne_eqb}
use Rattle.fx_expr.specs.declared.values.Value.{Value}
use Rattle.fx_handles.specs.declared.Handle.{Handle}
use Rattle.fx_handles.specs.Handle.{same}
use Rattle.fx_handles.specs.HandleLaws.{same-true, same-eq}
use Rattle.node_tree.specs.Forest.{TreeNode, Forest, tops, count, IsDistinct, Stands, set_value}
use Rattle.node_tree.specs.Forest.Forest.{none, tree}
use Rattle.node_tree.specs.Tree.{Tree, node_at, Is}
use Rattle.widget_model.specs.declared.widgets.Widget.{Widget}
use Rattle.widget_model.specs.Plain.{PlainWidget, look_of}
use Rattle.widget_model.specs.View.{shared}
use Rattle.program_check.specs.Checked.{PlainChecked}
use Rattle.plain_tree.specs.PlainNode.{PlainNode, node, number_of, widget_of, fields_of, nodes_of as listed}
use Rattle.build_form.specs.BuildRole.{build_role_of}
use Rattle.build_form.specs.Entering.{Blueprint, values_below}
use Rattle.build_form.specs.Laws.{NumbersAre, AllNumbersAre}
use Rattle.build_form.specs.Numbered.{IsNumbered}
use Rattle.build_form.specs.Program.{blueprint_of}
use Rattle.element_tree.specs.Edits.{Writes, with_flag, with_output}
use Rattle.element_tree.specs.Element.{Element, element_at, number_at, made_count}
use Rattle.element_tree.specs.Nodes.{nodes_of}
use Rattle.element_tree.proofs.Changing.{value_after}
use Rattle.build_walk.specs.Fresh.{HasOutput}
use Rattle.build_walk.specs.Past.{Past, Pasts, is_marked}
use Rattle.build_walk.specs.Standing.{ElementsStandFor, pasts_from}
use Rattle.build_walk.specs.Telling.{element_past, TellPasts, HoldOutputs, FlagsAre}
use Rattle.settled_builds.specs.Steps.{IsGivenAt, without}
use Rattle.renewed_builds.specs.Renewing.{first_of, with_given, can_take_drawn, taking_elements, changes_of, can_take_at, renewed_at, taken_at, changes_at, stored_at}
use Rattle.renewed_builds.specs.Stale.{IsComponentAt, IsStaleElement, StoresGiven}
use Rattle.build_owner.proofs.Children.{some_is}
use Rattle.renewed_builds.proofs.Spotted.{IsSpotOf, alone}

-- ---- marks without a number

gone_here : (wanted x : ℕ) (ys : List ℕ) (b : Bool) → (x == wanted) ≡ b → is_marked ys wanted ≡ false → is_marked (cond (not b) (x ∷ ys) ys) wanted ≡ false
gone_here wanted x ys true is rest = rest
gone_here wanted x ys false is rest = ap (λ (b : Bool). b || is_marked ys wanted) is ∙ rest

pub unmarked_there : (wanted : ℕ) (marks : List ℕ) → is_marked (without wanted marks) wanted ≡ false
unmarked_there wanted [] = refl
unmarked_there wanted (x ∷ xs) = gone_here wanted x (without wanted xs) (x == wanted) refl (unmarked_there wanted xs)

same_here : (wanted k x : ℕ) (xs ys : List ℕ) → (k ≡ wanted → ⊥) → (b : Bool) → (x == wanted) ≡ b → is_marked ys k ≡ is_marked xs k → is_marked (cond (not b) (x ∷ ys) ys) k ≡ ((x == k) || is_marked xs k)
same_here wanted k x xs ys other true is rest =
    let apart : (x == k) ≡ false = ne_eqb x k (λ e. other (sym e ∙ eqb-true x wanted is)) in rest ∙ ap (λ (b : Bool). b || is_marked xs k) (sym apart)
same_here wanted k x xs ys other false is rest = ap (λ (b : Bool). (x == k) || b) rest

pub others_stay : (wanted k : ℕ) → (k ≡ wanted → ⊥) → (marks : List ℕ) → is_marked (without wanted marks) k ≡ is_marked marks k
others_stay wanted k other [] = refl
others_stay wanted k other (x ∷ xs) = same_here wanted k x xs (without wanted xs) other (x == wanted) refl (others_stay wanted k other xs)

-- ---- two writes

abbrev pub value_in : Option (TreeNode Element) → Option Element
value_in o = option_map (λ (n : TreeNode Element). n.value) o

-- the element at a handle once another one was written there
pub written_there : (t u : Tree Element) (h : Handle) (e w : Element) → element_at t h ≡ Some e → Writes t u h w → element_at u h ≡ Some w
written_there t u h e w here writes =
    value_after t u h w writes.writes h ∙ ap (option_map (λ v. cond (same h h) w v)) here ∙ ap (λ b. Some (cond b w e)) (same-eq h h refl)

module _ (at : Handle → Option (TreeNode Element)) (h : Handle) (e : Element) (w : PlainWidget) (ws : List PlainWidget) (here : value_in (at h) ≡ Some e) (one : first_of ws ≡ Some w) where
  abbrev stores : Element
  stores = with_output w e

  abbrev done : Element
  done = with_flag false stores

  put_twice : (b : Bool) (v : Element) → (b ≡ true → v ≡ e) → cond b done (cond b stores v) ≡ cond b (with_given ws v) v
  put_twice true v own = λ i. record (sym (own refl) i) { dirty = false; output = sym one i }
  put_twice false v own = refl

  -- the output, and then the flag
  pub set_twice : (p : Option Handle) (f : Forest Element) → Stands at p f → set_value h done (set_value h stores f) ≡ stored_at h ws f
  set_twice p none stands = refl
  set_twice p (tree k v kids rest) stands =
      let own : same k h ≡ true → v ≡ e = λ is. some_is (sym (ap value_in stands.0) ∙ ap (λ a. value_in (at a)) (same-true k h is) ∙ here) in
      λ i. tree k (put_twice (same k h) v own i) (set_twice (Some k) kids stands.1 i) (set_twice p rest stands.2 i)

-- the one widget that is given is the first
pub first_given : (xs : List (Rc Widget Global)) (y z : Rc Widget Global) → length xs ≡ 1 → shared y ≡ shared z → z ≡ get_or xs 0 z → first_of (map shared xs) ≡ Some (shared y)
first_given [] y z one is at = absurd (omega (arith, one))
first_given (x ∷ xs) y z one is at = ap Some (sym (is ∙ ap shared at))

pub one_shared : (xs : List (Rc Widget Global)) → length xs ≡ 1 → length (map shared xs) ≡ 1
one_shared [] one = absurd (omega (arith, one))
one_shared (x ∷ []) one = refl
one_shared (x ∷ y ∷ xs) one = absurd (omega (arith, one))

pub one_given : (xs : List (Rc Widget Global)) (z : Rc Widget Global) → length xs ≡ 1 → z ≡ get_or xs 0 z → map shared xs ≡ shared z ∷ []
one_given [] z one at = absurd (omega (arith, one))
one_given (x ∷ []) z one at = ap (λ (y : Rc Widget Global). shared y ∷ []) (sym at)
one_given (x ∷ y ∷ xs) z one at = absurd (omega (arith, one))

-- ---- what stays

module _ (h : Handle) (ws : List PlainWidget) where
  abbrev given_to : Bool → Element → Element
  given_to b v = cond b (with_given ws v) v

  pub tops_same : (f : Forest Element) → tops (stored_at h ws f) ≡ tops f
  tops_same none = refl
  tops_same (tree k v kids rest) = ap (λ l. k ∷ l) (tops_same rest)

  module _ (scrolled : ℕ → ℕ) where
    node_put : (b : Bool) (v : Element) (kids : List PlainNode)
        → node (given_to b v).number (given_to b v).widget (given_to b v).fields (scrolled (given_to b v).number) (given_to b v).index (listed kids) ≡ node v.number v.widget v.fields (scrolled v.number) v.index (listed kids)
    node_put true v kids = refl
    node_put false v kids = refl

    pub nodes_same : (f : Forest Element) → nodes_of scrolled (stored_at h ws f) ≡ nodes_of scrolled f
    nodes_same none = refl
    nodes_same (tree k v kids rest) =
        (λ i. node_put (same k h) v (nodes_of scrolled (stored_at h ws kids)) i ∷ nodes_of scrolled (stored_at h ws rest))
        ∙ (λ i. node v.number v.widget v.fields (scrolled v.number) v.index (listed (nodes_same kids i)) ∷ nodes_same rest i)

  module _ (t : Tree Element) (e : Element) (here : element_at t h ≡ Some e) (once : (k : Handle) (v : Element) → element_at t k ≡ Some v → v.number ≡ e.number → (k ≡ h) × (v ≡ e)) where
    is_it : (p : Option Handle) (k : Handle) (v : Element) (kids rest : Forest Element) → Stands (node_at t) p (tree k v kids rest) → same k h ≡ true → v ≡ e
    is_it p k v kids rest stands is = some_is (sym (ap value_in stands.0) ∙ ap (element_at t) (same-true k h is) ∙ here)

    -- ---- outputs

    module _ (b : Blueprint) (pasts : Pasts) (around : List Value) (told : pasts e.number ≡ Some (element_past around e))
        (output : HasOutput b (build_role_of (look_of e.widget)) e.widget e.fields around e.number (option_to_list (first_of ws))) where
      Holds_it : List Value → Element → Type 0
      Holds_it values v = v.dirty ≡ false → HasOutput b (build_role_of (look_of v.widget)) v.widget v.fields values v.number (option_to_list v.output)

      held_put : (t : Bool) (v : Element) (values : List Value) → (t ≡ true → v ≡ e) → pasts v.number ≡ Some (element_past values v)
          → (v.dirty ≡ false → HasOutput b (build_role_of (look_of v.widget)) v.widget v.fields values v.number (option_to_list v.output))
          → (given_to t v).dirty ≡ false → HasOutput b (build_role_of (look_of (given_to t v).widget)) (given_to t v).widget (given_to t v).fields values (given_to t v).number (option_to_list (given_to t v).output)
      held_put true v values own tells held clean =
          let is : e ≡ v = sym (own refl) in
          let past : element_past around e ≡ element_past values v = some_is (sym told ∙ ap (λ (x : Element). pasts x.number) is ∙ tells) in
          subst (λ (x : Element). HasOutput b (build_role_of (look_of x.widget)) x.widget x.fields values x.number (option_to_list (first_of ws))) is
          (subst (λ vs. HasOutput b (build_role_of (look_of e.widget)) e.widget e.fields vs e.number (option_to_list (first_of ws))) (ap (λ (q : Past). q.values) past) output)
      held_put false v values own tells held clean = held clean

      widget_put : (b : Bool) (v : Element) → (given_to b v).widget ≡ v.widget
      widget_put true v = refl
      widget_put false v = refl

      pub outputs_held : (p : Option Handle) (values : List Value) (f : Forest Element) → Stands (node_at t) p f → TellPasts pasts values f → HoldOutputs b values f → HoldOutputs b values (stored_at h ws f)
      outputs_held p values none stands tells held = tt
      outputs_held p values (tree k v kids rest) stands tells held = (
        held_put (same k h) v values (is_it p k v kids rest stands) tells.0 held.0,
        subst (λ w. HoldOutputs b (values_below w values) (stored_at h ws kids)) (sym (widget_put (same k h) v)) (outputs_held (Some k) (values_below v.widget values) kids stands.1 tells.1 held.1),
        outputs_held p values rest stands.2 tells.2 held.2,
      )

    -- ---- flags

    module _ (marks : List ℕ) where
      false_true : {P : Type 0} → false ≡ true → P
      false_true q = cc

      flag_put : (b : Bool) (k : Handle) (v : Element) → same k h ≡ b → element_at t k ≡ Some v → (b ≡ true → v ≡ e) → v.dirty ≡ is_marked marks v.number
          → (given_to b v).dirty ≡ is_marked (without e.number marks) (given_to b v).number
      flag_put true k v is there own flag = sym (ap (λ (x : Element). is_marked (without e.number marks) x.number) (own refl) ∙ unmarked_there e.number marks)
      flag_put false k v is there own flag = flag ∙ sym (others_stay e.number v.number (λ equal. false_true (sym is ∙ same-eq k h (once k v there equal).0)) marks)

      pub flags_without : (p : Option Handle) (f : Forest Element) → Stands (node_at t) p f → FlagsAre marks f → FlagsAre (without e.number marks) (stored_at h ws f)
      flags_without p none stands flags = tt
      flags_without p (tree k v kids rest) stands flags = (
        flag_put (same k h) k v refl (ap value_in stands.0) (is_it p k v kids rest stands) flags.0,
        flags_without (Some k) kids stands.1 flags.1,
        flags_without p rest stands.2 flags.2,
      )

      -- where it was marked alone
      module _ (scrolled : ℕ → ℕ) where
        abbrev IsAlone : ℕ → Type 0
        IsAlone number = is_marked marks number ≡ eqb number e.number

        alone_put : (b : Bool) (k : Handle) (v : Element) → same k h ≡ b → element_at t k ≡ Some v → v.dirty ≡ is_marked marks v.number → IsAlone v.number → (given_to b v).dirty ≡ false
        alone_put true k v is there flag alone_marked = refl
        alone_put false k v is there flag alone_marked =
            flag ∙ alone_marked ∙ ne_eqb v.number e.number (λ equal. false_true (sym is ∙ same-eq k h (once k v there equal).0))

        pub flags_clear : (p : Option Handle) (f : Forest Element) → Stands (node_at t) p f → FlagsAre marks f → AllNumbersAre IsAlone (listed (nodes_of scrolled f)) → FlagsAre [] (stored_at h ws f)
        flags_clear p none stands flags alone_marked = tt
        flags_clear p (tree k v kids rest) stands flags alone_marked = (
          alone_put (same k h) k v refl (ap value_in stands.0) flags.0 alone_marked.0.0,
          flags_clear (Some k) kids stands.1 flags.1 alone_marked.0.1,
          flags_clear p rest stands.2 flags.2 alone_marked.1,
        )

  -- ---- what is below the component is as before

  stored_absent : (f : Forest Element) → count h f ≡ 0 → stored_at h ws f ≡ f
  stored_absent none absent = refl
  stored_absent (tree k v kids rest) absent = by_same (same k h) refl (stored_absent kids (omega (arith, absent))) (stored_absent rest (omega (arith, absent)))
    where
      by_same : (b : Bool) → same k h ≡ b → stored_at h ws kids ≡ kids → stored_at h ws rest ≡ rest → tree k (given_to (same k h) v) (stored_at h ws kids) (stored_at h ws rest) ≡ tree k v kids rest
      by_same true is inside later = let one : cond {A = ℕ} (same k h) 1 0 ≡ 1 = ap (λ b. cond {A = ℕ} b 1 0) is in absurd (omega (arith, absent, one))
      by_same false is inside later = λ i. tree k (given_to (is i) v) (inside i) (later i)

  pick : {A : Type 0} (b : Bool) (kids : Forest Element) (F : Forest Element → A) (c d : A) → (b ≡ true → stored_at h ws kids ≡ kids) → c ≡ d → cond b (F (stored_at h ws kids)) c ≡ cond b (F kids) d
  pick true kids F c d inside other = ap F (inside refl)
  pick false kids F c d inside other = other

  inside_same : (k : Handle) (v : Element) (kids rest : Forest Element) → IsDistinct (tree k v kids rest) → same k h ≡ true → stored_at h ws kids ≡ kids
  inside_same k v kids rest distinct is =
      let one : cond {A = ℕ} (same k h) 1 0 ≡ 1 = ap (λ b. cond {A = ℕ} b 1 0) is in
      let few = distinct h in
      stored_absent kids (omega (arith, one, few))

  pub can_same : (f : Forest Element) → IsDistinct f → can_take_at h ws (stored_at h ws f) ≡ can_take_at h ws f
  can_same none distinct = refl
  can_same (tree k v kids rest) distinct =
      λ i. pick (same k h) kids (λ g. can_take_drawn g ws) (can_take_at h ws (stored_at h ws kids)) (can_take_at h ws kids) (inside_same k v kids rest distinct) (can_same kids (λ x. omega (arith, distinct x))) i
      && can_same rest (λ x. omega (arith, distinct x)) i

  pub changes_same : (f : Forest Element) → IsDistinct f → changes_at h ws (stored_at h ws f) ≡ changes_at h ws f
  changes_same none distinct = refl
  changes_same (tree k v kids rest) distinct =
      λ i. pick (same k h) kids (λ g. changes_of g ws) (changes_at h ws (stored_at h ws kids)) (changes_at h ws kids) (inside_same k v kids rest distinct) (changes_same kids (λ x. omega (arith, distinct x))) i
      ++ changes_same rest (λ x. omega (arith, distinct x)) i

  pub taken_same : (f : Forest Element) → IsDistinct f → taken_at h ws (stored_at h ws f) ≡ renewed_at h ws f
  taken_same none distinct = refl
  taken_same (tree k v kids rest) distinct =
      λ i. tree k (given_to (same k h) v)
      (pick (same k h) kids (λ g. taking_elements g ws) (taken_at h ws (stored_at h ws kids)) (renewed_at h ws kids) (inside_same k v kids rest distinct) (taken_same kids (λ x. omega (arith, distinct x))) i)
      (taken_same rest (λ x. omega (arith, distinct x)) i)

-- ---- the whole tree

alone_all : (P : ℕ → Type 0) (n : PlainNode) (ns : List PlainNode) → n ∷ [] ≡ ns → NumbersAre P n → AllNumbersAre P (listed ns)
alone_all P n ns is all = subst (λ l. AllNumbersAre P (listed l)) is (all, tt)

only_first : (ws : List PlainWidget) → length ws ≡ 1 → option_to_list (first_of ws) ≡ ws
only_first [] one = absurd (omega (arith, one))
only_first (w ∷ []) one = refl
only_first (w ∷ v ∷ ws) one = absurd (omega (arith, one))

module _ (c : PlainChecked) (t u : Tree Element) (h : Handle) (x : IsStaleElement c t h) (spot : IsSpotOf t x.scrolled (pasts_from c x.stands.forest) h x.element x.place)
    (ws : List PlainWidget) (given : IsGivenAt (blueprint_of c) ws x.place) (single : length ws ≡ 1)
    (once : (n : ℕ) (a b : Handle) → number_at t a ≡ Some n → number_at t b ≡ Some n → a ≡ b) (tells : TellPasts (pasts_from c x.stands.forest) (blueprint_of c).defaults x.stands.forest)
    (is : Is u (stored_at h ws x.stands.forest)) (root : u.root ≡ t.root) (made : made_count u ≡ made_count t) where
  output_there : HasOutput (blueprint_of c) (build_role_of (look_of x.element.widget)) x.element.widget x.element.fields x.place.values x.element.number (option_to_list (first_of ws))
  output_there =
      subst (HasOutput (blueprint_of c) (build_role_of (look_of x.element.widget)) x.element.widget x.element.fields x.place.values x.element.number) (sym (only_first ws single))
      (subst (λ n. HasOutput (blueprint_of c) (build_role_of (look_of (widget_of n))) (widget_of n) (fields_of n) x.place.values (number_of n) ws) spot.node given.output)

  -- the component stores it
  pub stores_given : StoresGiven c x.marks x.tree x.scrolled t u x.stands h x.element.number ws
  stores_given =
      let f = x.stands.forest in
      let one = alone t h x.element x.at once in
      record {
        stands = record {
          forest = stored_at h ws f;
          is = is;
          root = ap option_to_list root ∙ x.stands.root ∙ sym (tops_same h ws f);
          nodes = x.stands.nodes ∙ sym (nodes_same h ws x.scrolled f);
          well = x.stands.well;
          numbered = subst (λ n. IsNumbered (n + 1) x.tree) (sym made) x.stands.numbered;
          fresh = λ n above. x.stands.fresh n (subst (λ m. m + 1 ≤ n) made above);
          outputs = outputs_held h ws t x.element x.at one (blueprint_of c) (pasts_from c f) x.place.values spot.told output_there None (blueprint_of c).defaults f x.stands.is.stands tells x.stands.outputs;
          flags = flags_without h ws t x.element x.at one x.marks None f x.stands.is.stands x.stands.flags;
        };
        forest = refl;
      }

  -- and nothing is flagged any more
  pub none_flagged : FlagsAre [] stores_given.stands.forest
  unfolding stores_given
  none_flagged =
      let f = x.stands.forest in
      flags_clear h ws t x.element x.at (alone t h x.element x.at once) x.marks x.scrolled None f x.stands.is.stands x.stands.flags (alone_all _ x.tree (nodes_of x.scrolled f) x.stands.nodes x.alone)

-- ---- of any component

module _ (c : PlainChecked) (t u : Tree Element) (h : Handle) (x : IsComponentAt c t h) (spot : IsSpotOf t x.scrolled (pasts_from c x.stands.forest) h x.element x.place)
    (ws : List PlainWidget) (given : IsGivenAt (blueprint_of c) ws x.place) (single : length ws ≡ 1)
    (once : (n : ℕ) (a b : Handle) → number_at t a ≡ Some n → number_at t b ≡ Some n → a ≡ b) (tells : TellPasts (pasts_from c x.stands.forest) (blueprint_of c).defaults x.stands.forest)
    (is : Is u (stored_at h ws x.stands.forest)) (root : u.root ≡ t.root) (made : made_count u ≡ made_count t) where
  pub output_stored : HasOutput (blueprint_of c) (build_role_of (look_of x.element.widget)) x.element.widget x.element.fields x.place.values x.element.number (option_to_list (first_of ws))
  output_stored =
      subst (HasOutput (blueprint_of c) (build_role_of (look_of x.element.widget)) x.element.widget x.element.fields x.place.values x.element.number) (sym (only_first ws single))
      (subst (λ n. HasOutput (blueprint_of c) (build_role_of (look_of (widget_of n))) (widget_of n) (fields_of n) x.place.values (number_of n) ws) spot.node given.output)

  -- elements that stand for a tree do so once a component stores what its body gave
  abbrev pub stores_at : ElementsStandFor c (without x.element.number x.marks) (Some x.tree) x.scrolled u
  stores_at =
      let f = x.stands.forest in
      let one = alone t h x.element x.at once in
      record {
        forest = stored_at h ws f;
        is = is;
        root = ap option_to_list root ∙ x.stands.root ∙ sym (tops_same h ws f);
        nodes = x.stands.nodes ∙ sym (nodes_same h ws x.scrolled f);
        well = x.stands.well;
        numbered = subst (λ n. IsNumbered (n + 1) x.tree) (sym made) x.stands.numbered;
        fresh = λ n above. x.stands.fresh n (subst (λ m. m + 1 ≤ n) made above);
        outputs = outputs_held h ws t x.element x.at one (blueprint_of c) (pasts_from c f) x.place.values spot.told output_stored None (blueprint_of c).defaults f x.stands.is.stands tells x.stands.outputs;
        flags = flags_without h ws t x.element x.at one x.marks None f x.stands.is.stands x.stands.flags;
      }
