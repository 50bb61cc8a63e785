-- What `set` of a field does to the field, and to the others of a tree.
use Rattle.std.proofs.Common.{◌≡◌, ℕ, Bool, true, false, Option, Some, None, option_map, option_and_then, is_some, zero, suc, ◌+◌, ◌==◌, List, [], ◌∷◌, slice_get, slice_set, refl, sym, ap, subst, ◌∙◌, inl, inr, if◌then◌else◌, arith}
use Rattle.std.specs.Option.{option_or}
use Rattle.std.specs.Str.{bytes_eq}
use Rattle.std.proofs.lemmas.Bool.Decides.{eqb_tells}
use Rattle.std.proofs.lemmas.Slice.Eq.{bytes_eq-Decides}
use Rattle.fx_expr.specs.declared.values.Ty.{Ty}
use Rattle.fx_expr.specs.declared.values.Value.{Value}
use Rattle.expr_check.specs.Names.{NamedTypes, one_later, place_of}
use Rattle.widget_model.specs.declared.decl.Decl.{Decl}
use Rattle.widget_model.specs.Look.{Look, sized_box, constrained_box, padding, align, colored_box, text, row, column, wrap, table, stack, flexible, positioned, opacity, clip_rect, repaint_boundary, merge_semantics, intrinsic_width, intrinsic_height, offstage, ignore_pointer, absorb_pointer, detector, semantics, exclude_semantics, custom_paint, custom_layout, viewport, sliver_to_box, sliver_padding, sliver_fixed, sliver_lazy, keep, inherit, component}
use Rattle.widget_model.specs.Plain.{look_of}
use Rattle.plain_tree.specs.At.{node_at, node_in, is_there, changed_at, changed_in, having_fields}
use Rattle.plain_tree.specs.PlainNode.{PlainNode, node, PlainNodes, no_nodes, more_nodes, number_of, fields_of}
use Rattle.plain_tree.specs.States.{State, holding, own_state, state_of}
use Rattle.session_form.specs.Handlers.{node_in as node_of}
use Rattle.live_session.specs.Fields.{field_of, field_at}

some_of : {A : Type 0} (x y : A) → Some x ≡ Some y → x ≡ y
some_of x y e = cc

-- ---- a list of values with another one in a place

set_here : (xs : List Value) (i : ℕ) (old v : Value) → slice_get xs i ≡ Some old → slice_get (slice_set xs i v) i ≡ Some v
set_here [] i old v there = cc
set_here (x ∷ xs) zero old v there = refl
set_here (x ∷ xs) (suc i) old v there = set_here xs i old v there

set_elsewhere : (xs : List Value) (i j : ℕ) (v : Value) → (i ≡ j → ⊥) → slice_get (slice_set xs i v) j ≡ slice_get xs j
set_elsewhere [] i j v apart = refl
set_elsewhere (x ∷ xs) zero zero v apart = absurd (apart refl)
set_elsewhere (x ∷ xs) zero (suc j) v apart = refl
set_elsewhere (x ∷ xs) (suc i) zero v apart = refl
set_elsewhere (x ∷ xs) (suc i) (suc j) v apart = set_elsewhere xs i j v (λ e. apart (ap suc e))

some_still : (x : Value) (xs : List Value) (i : ℕ) (v : Value) → (y : Value) × (ys : List Value) × (slice_set (x ∷ xs) i v ≡ y ∷ ys)
some_still x xs zero v = (v, xs, refl)
some_still x xs (suc i) v = (x, slice_set xs i v, refl)

-- ---- the place of a name: two names have two places

apart_by : (x y : Bool) (t u : Ty) (a b : Option (ℕ × Ty)) (p q : ℕ × Ty) → (x ≡ true → y ≡ true → ⊥)
    → (if x then Some (0, t) else option_map one_later a) ≡ Some p → (if y then Some (0, u) else option_map one_later b) ≡ Some q → p.0 ≡ q.0
    → ((i j : ℕ × Ty) → a ≡ Some i → b ≡ Some j → i.0 ≡ j.0 → ⊥) → ⊥
apart_by true true t u a b p q other e f same more = other refl refl
apart_by true false t u a None p q other e f same more = cc
apart_by true false t u a (Some j) p q other e f same more =
    let first : 0 ≡ p.0 = ap (λ z. z.0) (some_of (0, t) p e) in
    let later : j.0 + 1 ≡ q.0 = ap (λ z. z.0) (some_of (one_later j) q f) in
    omega arith
apart_by false true t u None b p q other e f same more = cc
apart_by false true t u (Some i) b p q other e f same more =
    let later : i.0 + 1 ≡ p.0 = ap (λ z. z.0) (some_of (one_later i) p e) in
    let first : 0 ≡ q.0 = ap (λ z. z.0) (some_of (0, u) q f) in
    omega arith
apart_by false false t u None b p q other e f same more = cc
apart_by false false t u (Some i) None p q other e f same more = cc
apart_by false false t u (Some i) (Some j) p q other e f same more =
    let one : i.0 + 1 ≡ p.0 = ap (λ z. z.0) (some_of (one_later i) p e) in
    let two : j.0 + 1 ≡ q.0 = ap (λ z. z.0) (some_of (one_later j) q f) in
    more i j refl refl (omega arith)

places_apart : (ds : NamedTypes) (a b : List ℕ) (p q : ℕ × Ty) → (a ≡ b → ⊥) → place_of ds a ≡ Some p → place_of ds b ≡ Some q → p.0 ≡ q.0 → ⊥
places_apart [] a b p q other e f same = cc
places_apart (d ∷ ds) a b p q other e f same =
    apart_by (bytes_eq a d.0) (bytes_eq b d.0) d.1 d.1 (place_of ds a) (place_of ds b) p q
    (λ x y. other ((bytes_eq-Decides a d.0).0 x ∙ sym ((bytes_eq-Decides b d.0).0 y))) e f same
    (λ i j x y. places_apart ds a b i j other x y)

-- ---- the state of a node that has other fields

-- a node that holds fields, whatever their values
record Held (look : Look) (number scroll : ℕ) (own : List Value) (m : ℕ) (d : Decl) (vs : List Value) : Type 0 where
  pub same : number ≡ m
  pub fields : own ≡ vs
  pub others : (y : Value) (ys : List Value) → state_of look number (y ∷ ys) scroll ≡ holding m d (y ∷ ys) ∷ []
  pub first : Value
  pub rest : List Value
  pub some : vs ≡ first ∷ rest

held_is : (number : ℕ) (declaration : Decl) (x : Value) (xs : List Value) (m : ℕ) (d : Decl) (vs : List Value) (more : List State)
    → holding number declaration (x ∷ xs) ∷ [] ≡ holding m d vs ∷ more → (number ≡ m) × (declaration ≡ d) × (x ∷ xs ≡ vs)
held_is number declaration x xs m d vs more e = (cc, cc, cc)

holds : (look : Look) (number scroll : ℕ) (own : List Value) (m : ℕ) (d : Decl) (vs : List Value) (more : List State)
    → state_of look number own scroll ≡ holding m d vs ∷ more → Held look number scroll own m d vs
holds (sized_box width height) number scroll own m d vs more e = cc
holds (constrained_box min_width max_width min_height max_height) number scroll own m d vs more e = cc
holds (padding left top right bottom) number scroll own m d vs more e = cc
holds (align ax ay) number scroll own m d vs more e = cc
holds (colored_box color) number scroll own m d vs more e = cc
holds (text words color) number scroll own m d vs more e = cc
holds (row main cross size) number scroll own m d vs more e = cc
holds (column main cross size) number scroll own m d vs more e = cc
holds (wrap spacing run_spacing) number scroll own m d vs more e = cc
holds (table widths) number scroll own m d vs more e = cc
holds (stack ax ay fit) number scroll own m d vs more e = cc
holds (flexible flex fit) number scroll own m d vs more e = cc
holds (positioned left top right bottom width height) number scroll own m d vs more e = cc
holds (opacity alpha) number scroll own m d vs more e = cc
holds clip_rect number scroll own m d vs more e = cc
holds repaint_boundary number scroll own m d vs more e = cc
holds merge_semantics number scroll own m d vs more e = cc
holds intrinsic_width number scroll own m d vs more e = cc
holds intrinsic_height number scroll own m d vs more e = cc
holds (offstage hidden) number scroll own m d vs more e = cc
holds (ignore_pointer ignoring) number scroll own m d vs more e = cc
holds (absorb_pointer absorbing) number scroll own m d vs more e = cc
holds (detector behavior tap long vertical horizontal pan) number scroll own m d vs more e = cc
holds (semantics label button container) number scroll own m d vs more e = cc
holds (exclude_semantics excluding) number scroll own m d vs more e = cc
holds (custom_paint delegate) number scroll own m d vs more e = cc
holds (custom_layout delegate) number scroll own m d vs more e = cc
holds (viewport axis) number scroll own m d vs more e = cc
holds sliver_to_box number scroll own m d vs more e = cc
holds (sliver_padding left top right bottom) number scroll own m d vs more e = cc
holds (sliver_fixed extent) number scroll own m d vs more e = cc
holds (sliver_lazy extent) number scroll own m d vs more e = cc
holds (keep kept) number scroll own m d vs more e = cc
holds (inherit name value) number scroll own m d vs more e = cc
holds (component place props declaration) number scroll [] m d vs more e = cc
holds (component place props declaration) number scroll (x ∷ xs) m d vs more e =
    let is = held_is number declaration x xs m d vs more e in
    record {
      same = is.0;
      fields = is.2;
      others = λ y ys. ap (λ n. holding n declaration (y ∷ ys) ∷ []) is.0 ∙ ap (λ k. holding m k (y ∷ ys) ∷ []) is.1;
      first = x;
      rest = xs;
      some = sym is.2;
    }

-- the state of a node, where another value is set in a place of its fields
set_state_is : (n : PlainNode) (m : ℕ) (d : Decl) (vs : List Value) (more : List State) (i : ℕ) (v : Value) → own_state n ≡ holding m d vs ∷ more
    → own_state (having_fields (slice_set (fields_of n) i v) n) ≡ holding m d (slice_set vs i v) ∷ []
set_state_is (node number widget own scroll index children) m d vs more i v e =
    let h = holds (look_of widget) number scroll own m d vs more e in
    let still = some_still h.first h.rest i v in
    let fields : slice_set own i v ≡ still.0 ∷ still.1 = ap (λ xs. slice_set xs i v) (h.fields ∙ h.some) ∙ still.2 in
    let same : slice_set vs i v ≡ still.0 ∷ still.1 = ap (λ xs. slice_set xs i v) h.some ∙ still.2 in
    ap (λ xs. state_of (look_of widget) number xs scroll) fields ∙ h.others still.0 still.1 ∙ ap (λ xs. holding m d xs ∷ []) (sym same)

pub number_held : (n : PlainNode) (m : ℕ) (d : Decl) (vs : List Value) (more : List State) → own_state n ≡ holding m d vs ∷ more → number_of n ≡ m
number_held (node number widget own scroll index children) m d vs more e = (holds (look_of widget) number scroll own m d vs more e).same

-- the field that is set, and another one of the node
node_set : (n : PlainNode) (m : ℕ) (d : Decl) (vs : List Value) (more : List State) (name : List ℕ) (p : ℕ × Ty) (old v : Value) → own_state n ≡ holding m d vs ∷ more
    → place_of d.fields name ≡ Some p → field_of (own_state n) name ≡ Some old
    → field_of (own_state (having_fields (slice_set (fields_of n) p.0 v) n)) name ≡ Some v
node_set n m d vs more name p old v e at there =
    let look : List Value → Option (ℕ × Ty) → Option Value = λ xs o. option_and_then (λ place. slice_get xs place.0) o in
    let was : slice_get vs p.0 ≡ Some old = ap (look vs) (sym at) ∙ ap (λ s. field_of s name) (sym e) ∙ there in
    ap (λ s. field_of s name) (set_state_is n m d vs more p.0 v e) ∙ ap (look (slice_set vs p.0 v)) at ∙ set_here vs p.0 old v was

other_by : (vs : List Value) (p : ℕ × Ty) (v : Value) (o : Option (ℕ × Ty)) → ((q : ℕ × Ty) → o ≡ Some q → p.0 ≡ q.0 → ⊥)
    → option_and_then (λ place. slice_get (slice_set vs p.0 v) place.0) o ≡ option_and_then (λ place. slice_get vs place.0) o
other_by vs p v None apart = refl
other_by vs p v (Some q) apart = set_elsewhere vs p.0 q.0 v (apart q refl)

node_keeps : (n : PlainNode) (m : ℕ) (d : Decl) (vs : List Value) (more : List State) (set name : List ℕ) (p : ℕ × Ty) (v : Value) → own_state n ≡ holding m d vs ∷ more
    → place_of d.fields set ≡ Some p → (set ≡ name → ⊥)
    → field_of (own_state (having_fields (slice_set (fields_of n) p.0 v) n)) name ≡ field_of (own_state n) name
node_keeps n m d vs more set name p v e at other =
    ap (λ s. field_of s name) (set_state_is n m d vs more p.0 v e)
    ∙ other_by vs p v (place_of d.fields name) (λ q to. places_apart d.fields set name p q other at to)
    ∙ ap (λ s. field_of s name) (sym e)

-- ---- the node with a number, in a tree whose node with a number has other fields

module _ (g : PlainNode → List Value) (m : ℕ) where
  abbrev changed : PlainNode → PlainNode
  changed n = having_fields (g n) n

  found_by : (n : PlainNode) (ns : PlainNodes) (o : Option PlainNode) → node_at m n ≡ o → node_at m (changed_at changed m n) ≡ option_map changed (node_at m n)
      → node_in m (changed_in changed m ns) ≡ option_map changed (node_in m ns)
      → node_in m (if is_some o then more_nodes (changed_at changed m n) ns else more_nodes n (changed_in changed m ns)) ≡ option_map changed (option_or o (node_in m ns))
  found_by n ns None e here there = ap (λ a. option_or a (node_in m (changed_in changed m ns))) e ∙ there
  found_by n ns (Some k) e here there = ap (λ a. option_or a (node_in m ns)) (here ∙ ap (option_map changed) e)

  mutual
    pub node_changed : (n : PlainNode) → node_at m (changed_at changed m n) ≡ option_map changed (node_at m n)
    node_changed (node number w fs s i ns) =
        let n = node number w fs s i ns in
        let P : Bool → Type 0 = λ b. node_at m (if b then changed n else node number w fs s i (changed_in changed m ns)) ≡ option_map changed (if b then Some n else node_in m ns) in
        elim (eqb_tells number m) [
          | inl t ↦
              let Q : Bool → Type 0 = λ b. (if b then Some (changed n) else node_in m ns) ≡ Some (changed n) in
              let here : node_at m (changed n) ≡ Some (changed n) = subst Q (sym t.0) refl in
              subst P (sym t.0) here
          | inr t ↦
              let Q : Bool → Type 0 = λ b. (if b then Some (node number w fs s i (changed_in changed m ns)) else node_in m (changed_in changed m ns)) ≡ option_map changed (node_in m ns) in
              let below : node_at m (node number w fs s i (changed_in changed m ns)) ≡ option_map changed (node_in m ns) = subst Q (sym t.0) (nodes_changed ns) in
              subst P (sym t.0) below
        ]

    nodes_changed : (ns : PlainNodes) → node_in m (changed_in changed m ns) ≡ option_map changed (node_in m ns)
    nodes_changed no_nodes = refl
    nodes_changed (more_nodes n ns) = found_by n ns (node_at m n) refl (node_changed n) (nodes_changed ns)

first_same : (a b c d : Option PlainNode) → option_map own_state a ≡ option_map own_state b → option_map own_state c ≡ option_map own_state d
    → option_map own_state (option_or a c) ≡ option_map own_state (option_or b d)
first_same None None c d e k = k
first_same None (Some y) c d e k = cc
first_same (Some x) None c d e k = cc
first_same (Some x) (Some y) c d e k = e

module _ (g : PlainNode → List Value) (m number : ℕ) (apart : m ≡ number → ⊥) where
  mutual
    pub node_apart : (n : PlainNode) → option_map own_state (node_at number (changed_at (changed g m) m n)) ≡ option_map own_state (node_at number n)
    node_apart (node own w fs s i ns) =
        let n = node own w fs s i ns in
        let new = node own w (g n) s i ns in
        let inner = node own w fs s i (changed_in (changed g m) m ns) in
        let P : Bool → Type 0 = λ b. option_map own_state (node_at number (if b then new else inner)) ≡ option_map own_state (node_at number n) in
        let R : Bool → Type 0 = λ b. option_map own_state (if b then Some inner else node_in number (changed_in (changed g m) m ns)) ≡ option_map own_state (if b then Some n else node_in number ns) in
        let Q : Bool → Type 0 = λ b. option_map own_state (if b then Some new else node_in number ns) ≡ option_map own_state (if b then Some n else node_in number ns) in
        let elsewhere : R (own == number) = elim (own == number) as R [ true ↦ refl | false ↦ nodes_apart ns ] in
        elim (eqb_tells own m) [
          | inl t ↦ elim (eqb_tells own number) [
            | inl u ↦ absurd (apart (sym t.1 ∙ u.1))
            | inr u ↦ let here : Q (own == number) = subst Q (sym u.0) refl in subst P (sym t.0) here
          ]
          | inr t ↦ subst P (sym t.0) elsewhere
        ]

    nodes_apart : (ns : PlainNodes) → option_map own_state (node_in number (changed_in (changed g m) m ns)) ≡ option_map own_state (node_in number ns)
    nodes_apart no_nodes = refl
    nodes_apart (more_nodes n ns) =
        elim (is_there m n) as (λ b. option_map own_state (node_in number (if b then more_nodes (changed_at (changed g m) m n) ns else more_nodes n (changed_in (changed g m) m ns)))
        ≡ option_map own_state (option_or (node_at number n) (node_in number ns))) [
          | true ↦ first_same (node_at number (changed_at (changed g m) m n)) (node_at number n) (node_in number ns) (node_in number ns) (node_apart n) refl
          | false ↦ first_same (node_at number n) (node_at number n) (node_in number (changed_in (changed g m) m ns)) (node_in number ns) refl (nodes_apart ns)
        ]

-- ---- the same of a tree that may be there

abbrev field_by : Option (List State) → List ℕ → Option Value
field_by None name = None
field_by (Some st) name = field_of st name

field_by-is : (o : Option PlainNode) (name : List ℕ) → field_at o name ≡ field_by (option_map own_state o) name
field_by-is None name = refl
field_by-is (Some n) name = refl

pub tree_set : (tree : Option PlainNode) (n : PlainNode) (m : ℕ) (d : Decl) (vs : List Value) (more : List State) (name : List ℕ) (p : ℕ × Ty) (old v : Value)
    → node_of tree m ≡ Some n → own_state n ≡ holding m d vs ∷ more → place_of d.fields name ≡ Some p → field_at (node_of tree m) name ≡ Some old
    → field_at (node_of (option_map (changed_at (λ k. having_fields (slice_set (fields_of k) p.0 v) k) m) tree) m) name ≡ Some v
tree_set None n m d vs more name p old v found e at there = cc
tree_set (Some root) n m d vs more name p old v found e at there =
    let g : PlainNode → List Value = λ k. slice_set (fields_of k) p.0 v in
    let was : field_of (own_state n) name ≡ Some old = ap (λ o. field_at o name) (sym found) ∙ there in
    ap (λ o. field_at o name) (node_changed g m root ∙ ap (option_map (λ k. having_fields (g k) k)) found) ∙ node_set n m d vs more name p old v e at was

pub tree_keeps : (tree : Option PlainNode) (n : PlainNode) (m number : ℕ) (d : Decl) (vs : List Value) (more : List State) (set name : List ℕ) (p : ℕ × Ty) (v : Value)
    → node_of tree m ≡ Some n → own_state n ≡ holding m d vs ∷ more → place_of d.fields set ≡ Some p → (m ≡ number → set ≡ name → ⊥)
    → field_at (node_of (option_map (changed_at (λ k. having_fields (slice_set (fields_of k) p.0 v) k) m) tree) number) name ≡ field_at (node_of tree number) name
tree_keeps None n m number d vs more set name p v found e at other = cc
tree_keeps (Some root) n m number d vs more set name p v found e at other =
    let g : PlainNode → List Value = λ k. slice_set (fields_of k) p.0 v in
    let new = changed_at (λ k. having_fields (g k) k) m root in
    elim (eqb_tells m number) [
      | inl t ↦
          let P : ℕ → Type 0 = λ x. field_at (node_at x new) name ≡ field_at (node_at x root) name in
          let here : P m = ap (λ o. field_at o name) (node_changed g m root ∙ ap (option_map (λ k. having_fields (g k) k)) found)
          ∙ node_keeps n m d vs more set name p v e at (other t.1) ∙ ap (λ o. field_at o name) (sym found) in
          subst P t.1 here
      | inr t ↦ field_by-is (node_at number new) name ∙ ap (λ o. field_by o name) (node_apart g m number t.1 root) ∙ sym (field_by-is (node_at number root) name)
    ]
