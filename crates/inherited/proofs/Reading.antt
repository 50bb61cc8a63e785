-- Which components read a name, child by child.
use Rattle.std.proofs.Common.{◌≡◌, ℕ, zero, suc, ◌+◌, ◌<◌, Bool, true, false, not, ◌&&◌, ◌||◌, cond, List, [], ◌∷◌, ◌++◌, length, get_or, Option, Some, None, IsSome, option_map, refl, sym, ap, ◌∙◌, subst, arith}
use Rattle.std.specs.List.{list_any}
use Rattle.fx_handles.specs.declared.Handle.{Handle}
use Rattle.fx_handles.specs.Handle.{same, Among}
use Rattle.fx_handles.specs.HandleLaws.{times_here, times-cons}
use Rattle.fx_handles.specs.Arena.{used_count}
use Rattle.widget_model.specs.Plain.{PlainWidget, look_of}
use Rattle.node_tree.specs.Forest.{TreeNode, Forest, tops, IsDistinct, Stands, plain, plain_node}
use Rattle.node_tree.specs.Forest.Forest.{none, tree}
use Rattle.node_tree.specs.Tree.{Tree, IsTree, IsNode, node_at, children_of, children_at, parent_of, parent_at, subtree_at, StandsAt}
use Rattle.element_tree.specs.Element.{Element, element_at}
use Rattle.element_tree.specs.Edits.{with_flag}
use Rattle.inherited.specs.Readers.{reads, provides, is_reader, below_first, is_reader_below, flagged, Flags}
use Rattle.inherited.proofs.Flagging.{flags_none, flags_both, flags_same, subtree-flagged}

or_assoc : (a b c : Bool) → ((a || b) || c) ≡ (a || (b || c))
or_assoc true b c = refl
or_assoc false b c = refl

or_false : (a : Bool) → (a || false) ≡ a
or_false true = refl
or_false false = refl

-- flags don't tell who reads a name
pub reader-flagged : (name : ℕ) (k : Handle) (p : Handle → Bool) (f : Forest Element) → is_reader name k (flagged p f) ≡ is_reader name k f
reader-flagged name k p none = refl
reader-flagged name k p (tree h e kids rest) = by_flag (p h) (reader-flagged name k p kids) (reader-flagged name k p rest)
  where
    by_flag : (b : Bool) → is_reader name k (flagged p kids) ≡ is_reader name k kids → is_reader name k (flagged p rest) ≡ is_reader name k rest
        → is_reader name k (tree h (cond b (with_flag true e) e) (flagged p kids) (flagged p rest)) ≡ is_reader name k (tree h e kids rest)
    by_flag true below later = cc
    by_flag false below later = cc

pub reader-flags : (old new : Tree Element) (p : Handle → Bool) (name : ℕ) (h k : Handle) → Flags old new p → is_reader name k (subtree_at new h) ≡ is_reader name k (subtree_at old h)
reader-flags old new p name h k a = ap (is_reader name k) (subtree-flagged old new p h a) ∙ reader-flagged name k p (subtree_at old h)

-- a reader at or below one of these handles
abbrev pub among : Tree Element → ℕ → List Handle → Handle → Bool
among t name hs k = list_any (λ c. is_reader name k (subtree_at t c)) hs

-- the laws of walks that are needed here
pub record Walks : Type 0 where
  pub holds : (t : Tree Element) (h : Handle) → IsTree t → IsNode t h → StandsAt t h (subtree_at t h)
  pub subtree : (t : Tree Element) (h : Handle) (s : Forest Element) → StandsAt t h s → subtree_at t h ≡ s

module _ (walks : Walks) (t : Tree Element) (name : ℕ) (k : Handle) where
  -- the trees of a forest that stands are the subtrees of its tops
  by_tops : (q : Option Handle) (g : Forest Element) → Stands (node_at t) q g → IsDistinct g → is_reader name k g ≡ among t name (tops g) k
  by_tops q none stands distinct = refl
  by_tops q (tree c e kids rest) stands distinct =
      let alone : StandsAt t c (tree c e kids none) = record {
        top = refl;
        stands = (stands.0 ∙ ap (λ p. Some (record { parent = p; children = tops kids; value = e })) (sym (ap parent_of stands.0)), stands.1, tt);
        distinct = λ h. omega (arith, distinct h);
      } in
      let is : subtree_at t c ≡ tree c e kids none = walks.subtree t c (tree c e kids none) alone in
      let later = by_tops q rest stands.2 (λ h. omega (arith, distinct h)) in
      let here : Bool = same c k && reads name (look_of e.widget) in
      let below : Bool = not (provides name (look_of e.widget)) && is_reader name k kids in
      ap (λ b. (here || below) || b) later
      ∙ ap (λ b. b || among t name (tops rest) k) (sym (or_false (here || below)))
      ∙ ap (λ s. is_reader name k s || among t name (tops rest) k) (sym is)

  one_tree : (h : Handle) (s : Forest Element) → StandsAt t h s
      → (e : Element) × ((kids : Forest Element) × (s ≡ tree h e kids none) × (element_at t h ≡ Some e) × (children_at t h ≡ tops kids) × Stands (node_at t) (Some h) kids × IsDistinct kids)
  one_tree h none at = absurd (let e = at.top in cc)
  one_tree h (tree c e kids none) at =
      let is_h : c ≡ h = let e = at.top in cc in
      let there = subst (λ (x : Handle). node_at t x ≡ Some (record { parent = parent_at t h; children = tops kids; value = e })) is_h at.stands.0 in (
        e,
        (
          kids,
          ap (λ x. tree x e kids none) is_h,
          ap (option_map (λ n. n.value)) there,
          ap children_of there,
          subst (λ (x : Handle). Stands (node_at t) (Some x) kids) is_h at.stands.1,
          λ x. omega (arith, at.distinct x),
        ),
      )
  one_tree h (tree c e kids (tree d v below rest)) at = absurd (let e = at.top in cc)

  -- the readers below a live element are those at and below its children, where it doesn't hide them
  pub readers_below : (h : Handle) → IsTree t → IsNode t h → is_reader_below t h name k ≡ among t name (children_at t h) k
  readers_below h is live =
      let one = one_tree h (subtree_at t h) (walks.holds t h is live) in
      ap (λ s. is_reader name k (below_first s)) one.1.1
      ∙ by_tops (Some h) one.1.0 one.1.4 one.1.5
      ∙ ap (λ hs. among t name hs k) (sym one.1.3)

  pub readers_at : (h : Handle) (e : Element) → IsTree t → IsNode t h → element_at t h ≡ Some e
      → is_reader name k (subtree_at t h) ≡ ((same h k && reads name (look_of e.widget)) || (not (provides name (look_of e.widget)) && is_reader_below t h name k))
  readers_at h e is live at =
      let one = one_tree h (subtree_at t h) (walks.holds t h is live) in
      let same_element : Some one.0 ≡ Some e = sym one.1.2 ∙ at in
      let is_e : one.0 ≡ e = cc in
      let below : is_reader_below t h name k ≡ is_reader name k one.1.0 = ap (λ s. is_reader name k (below_first s)) one.1.1 in
      ap (is_reader name k) one.1.1
      ∙ or_false ((same h k && reads name (look_of one.0.widget)) || (not (provides name (look_of one.0.widget)) && is_reader name k one.1.0))
      ∙ ap (λ (x : Element). (same h k && reads name (look_of x.widget)) || (not (provides name (look_of x.widget)) && is_reader name k one.1.0)) is_e
      ∙ ap (λ b. (same h k && reads name (look_of e.widget)) || (not (provides name (look_of e.widget)) && b)) (sym below)

-- nothing is below a handle that isn't live
plain_dead : (at : Handle → Option (TreeNode Element)) (h : Handle) → at h ≡ None → (n : ℕ) → plain n at (h ∷ []) ≡ none
unfolding plain
plain_dead at h e zero = refl
plain_dead at h e (suc n) = ap (λ o. plain_node h o (plain n at) []) e

absent : {X : Type 0} (o : Option X) → (IsSome o → ⊥) → o ≡ None
absent None dead = refl
absent (Some x) dead = absurd (dead refl)

pub dead_below : (t : Tree Element) (name : ℕ) (h k : Handle) → (IsNode t h → ⊥) → is_reader_below t h name k ≡ false
dead_below t name h k dead = ap (λ s. is_reader name k (below_first s)) (plain_dead (node_at t) h (absent (node_at t h) dead) (used_count t.nodes))

pub dead_children : (t : Tree Element) (h : Handle) → (IsNode t h → ⊥) → children_at t h ≡ []
dead_children t h dead = ap children_of (absent (node_at t h) dead)

-- the readers below an element, live or not, are those at and below its children
pub readers_in : Walks → (t : Tree Element) (name : ℕ) (h k : Handle) → IsTree t → is_reader_below t h name k ≡ among t name (children_at t h) k
readers_in walks t name h k is = by_node (node_at t h) refl
  where
    by_node : (o : Option (TreeNode Element)) → node_at t h ≡ o → is_reader_below t h name k ≡ among t name (children_at t h) k
    by_node None e =
        let dead : IsNode t h → ⊥ = λ live. absurd (let none = subst IsSome e live in cc) in
        dead_below t name h k dead ∙ ap (λ hs. among t name hs k) (sym (dead_children t h dead))
    by_node (Some n) e = readers_below walks t name k h is (subst IsSome (sym e) refl)

-- a child more
among_more : (t : Tree Element) (name : ℕ) (xs : List Handle) (c k : Handle) → among t name (xs ++ c ∷ []) k ≡ (among t name xs k || is_reader name k (subtree_at t c))
among_more t name [] c k = or_false (is_reader name k (subtree_at t c))
among_more t name (x ∷ xs) c k =
    ap (λ b. is_reader name k (subtree_at t x) || b) (among_more t name xs c k) ∙ sym (or_assoc (is_reader name k (subtree_at t x)) (among t name xs k) (is_reader name k (subtree_at t c)))

-- what a walk over children has marked so far
abbrev pub Marked : Tree Element → Tree Element → ℕ → List Handle → Type 0
Marked old now name hs = Flags old now (among old name hs)

pub marked-none : (t : Tree Element) (name : ℕ) → Marked t t name []
marked-none t name = flags_none t (among t name []) (λ k. refl)

pub marked-more : (old now new : Tree Element) (name : ℕ) (hs more : List Handle) (c : Handle) → Marked old now name hs
    → Flags now new (λ k. is_reader name k (subtree_at now c)) → more ≡ hs ++ c ∷ [] → Marked old new name more
marked-more old now new name hs more c so_far marks is =
    flags_both old now new (among old name hs) (λ k. is_reader name k (subtree_at now c)) (among old name more) so_far marks
    (λ k. ap (λ xs. among old name xs k) is ∙ among_more old name hs c k ∙ ap (λ b. among old name hs k || b) (sym (reader-flags old now (among old name hs) name c k so_far)))

pub marked-all : Walks → (old new : Tree Element) (name : ℕ) (h : Handle) (hs : List Handle) → IsTree old → hs ≡ children_at old h → Marked old new name hs → Flags old new (is_reader_below old h name)
marked-all walks old new name h hs is e so_far =
    flags_same old new (among old name hs) (is_reader_below old h name) so_far (λ k. readers_in walks old name h k is ∙ ap (λ xs. among old name xs k) (sym e))

-- an element itself, and then what is below it, unless it hides that
pub marked-at : Walks → (old now new : Tree Element) (name : ℕ) (h : Handle) (e : Element) → IsTree old → IsNode old h → element_at old h ≡ Some e
    → Flags old now (λ k. same h k && reads name (look_of e.widget)) → provides name (look_of e.widget) ≡ false → Flags now new (is_reader_below now h name)
    → Flags old new (λ k. is_reader name k (subtree_at old h))
marked-at walks old now new name h e is live at own not_hidden below =
    flags_both old now new (λ k. same h k && reads name (look_of e.widget)) (is_reader_below now h name) (λ k. is_reader name k (subtree_at old h)) own below
    (λ k.
    readers_at walks old name k h e is live at
    ∙ ap (λ b. (same h k && reads name (look_of e.widget)) || (not b && is_reader_below old h name k)) not_hidden
    ∙ ap (λ b. (same h k && reads name (look_of e.widget)) || b) (sym (reader_below-flags old now (λ k. same h k && reads name (look_of e.widget)) name h k own)))
  where
    below-flagged : (p : Handle → Bool) (f : Forest Element) → below_first (flagged p f) ≡ flagged p (below_first f)
    below-flagged p none = refl
    below-flagged p (tree h e kids rest) = refl

    reader_below-flags : (old new : Tree Element) (p : Handle → Bool) (name : ℕ) (h k : Handle) → Flags old new p → is_reader_below new h name k ≡ is_reader_below old h name k
    reader_below-flags old new p name h k a =
        ap (λ s. is_reader name k (below_first s)) (subtree-flagged old new p h a) ∙ ap (is_reader name k) (below-flagged p (subtree_at old h)) ∙ reader-flagged name k p (below_first (subtree_at old h))

pub marked-hidden : Walks → (old now : Tree Element) (name : ℕ) (h : Handle) (e : Element) → IsTree old → IsNode old h → element_at old h ≡ Some e
    → Flags old now (λ k. same h k && reads name (look_of e.widget)) → provides name (look_of e.widget) ≡ true
    → Flags old now (λ k. is_reader name k (subtree_at old h))
marked-hidden walks old now name h e is live at own hidden =
    flags_same old now (λ k. same h k && reads name (look_of e.widget)) (λ k. is_reader name k (subtree_at old h)) own
    (λ k.
    readers_at walks old name k h e is live at
    ∙ ap (λ b. (same h k && reads name (look_of e.widget)) || (not b && is_reader_below old h name k)) hidden
    ∙ or_false (same h k && reads name (look_of e.widget)))

-- an element whose widget is known
found : (o : Option Element) (w : PlainWidget) → Some w ≡ option_map (λ (e : Element). e.widget) o → (e : Element) × (o ≡ Some e) × (w ≡ e.widget)
found None w e = absurd (cc)
found (Some x) w e = (x, refl, (cc))

-- the same, by what is read off an element's widget
pub hidden_at : Walks → (old now : Tree Element) (name : ℕ) (h : Handle) (w : PlainWidget) (on hides : Bool) → IsTree old → IsNode old h
    → Some w ≡ option_map (λ (e : Element). e.widget) (element_at old h) → on ≡ reads name (look_of w) → hides ≡ provides name (look_of w) → hides ≡ true
    → Flags old now (λ k. same h k && on) → Flags old now (λ k. is_reader name k (subtree_at old h))
hidden_at walks old now name h w on hides is live has reading providing hidden own =
    let one = found (element_at old h) w has in
    marked-hidden walks old now name h one.0 is live one.1
    (flags_same old now (λ k. same h k && on) (λ k. same h k && reads name (look_of one.0.widget)) own (λ k. ap (λ b. same h k && b) (sym (reading ∙ ap (λ x. reads name (look_of x)) one.2))))
    (sym (ap (λ x. provides name (look_of x)) one.2) ∙ sym providing ∙ hidden)

pub shown_at : Walks → (old now new : Tree Element) (name : ℕ) (h : Handle) (w : PlainWidget) (on hides : Bool) → IsTree old → IsNode old h
    → Some w ≡ option_map (λ (e : Element). e.widget) (element_at old h) → on ≡ reads name (look_of w) → hides ≡ provides name (look_of w) → hides ≡ false
    → Flags old now (λ k. same h k && on) → Flags now new (is_reader_below now h name) → Flags old new (λ k. is_reader name k (subtree_at old h))
shown_at walks old now new name h w on hides is live has reading providing shown own below =
    let one = found (element_at old h) w has in
    marked-at walks old now new name h one.0 is live one.1
    (flags_same old now (λ k. same h k && on) (λ k. same h k && reads name (look_of one.0.widget)) own (λ k. ap (λ b. same h k && b) (sym (reading ∙ ap (λ x. reads name (look_of x)) one.2))))
    (sym (ap (λ x. provides name (look_of x)) one.2) ∙ sym providing ∙ shown)
    below

-- a node whose subtree stands is live
pub live_from_stands : (t : Tree Element) (h : Handle) (s : Forest Element) → StandsAt t h s → IsNode t h
live_from_stands t h none at = absurd (let e = at.top in cc)
live_from_stands t h (tree k e below rest) at =
    let is_h : k ≡ h = (let e = at.top in cc) in
    subst (λ (x : Handle). IsNode t x) is_h (subst IsSome (sym at.stands.0) refl)

-- the handle at a place stands in the list
pub among_at : (hs : List Handle) (i : ℕ) (d : Handle) → i < length hs → Among (get_or hs i d) hs
among_at [] i d within = absurd (omega arith)
among_at (h ∷ hs) zero d within = omega (arith, times_here h hs)
among_at (h ∷ hs) (suc i) d within = omega (arith, among_at hs i d (omega arith), times-cons (get_or hs i d) h hs)
