-- A handler's owner is the node with its number, where all numbers of a tree differ.
use Rattle.std.proofs.Common.{◌≡◌, ℕ, zero, suc, eqb, Bool, true, false, cond, ◌⊎◌, inl, inr, Option, Some, None, IfSome, List, [], ◌∷◌, ◌++◌, map, slice_get, refl, sym, ap, ◌∙◌, subst}
use Rattle.std.specs.Option.{option_or}
use borrow.Author.Tests.{eqb-true, eqb-false}
use Rattle.fx_expr.specs.declared.handlers.Handler.{Handler}
use Rattle.fx_expr.specs.declared.values.Ty.{Ty}
use Rattle.fx_expr.specs.declared.values.Value.{Value}
use Rattle.fx_expr.specs.Exp.{Exp}
use Rattle.fx_expr.specs.Sets.{FitFields}
use Rattle.fx_expr.specs.Value.{type_of}
use Rattle.widget_model.specs.Look.{Look, detector}
use Rattle.widget_model.specs.Plain.{PlainWidget, plain, look_of}
use Rattle.template_build.specs.HandlersIn.{InLook, HandlersMeet, Owner, IsOwned}
use Rattle.plain_tree.specs.PlainNode.{PlainNode, node, PlainNodes, no_nodes, more_nodes, widget_of, fields_of}
use Rattle.plain_tree.specs.At.{node_at, node_in, numbers_of, numbers_in}
use Rattle.plain_tree.specs.Laws.{DiffersFrom, AllDiffer}
use Rattle.plain_tree.proofs.Numbers.{IsIn, in_left, in_right, differs, apart, differ_left, differ_right}
use Rattle.build_form.specs.Owned.{HasHandler, AreOwned, AllAreOwned}

some_is : {A : Type 0} (x y : A) → Some x ≡ Some y → x ≡ y
some_is x y e = cc

-- ---- numbers that differ

-- ---- where a node is found

at_test : (b : Bool) (n : PlainNode) (o : Option PlainNode) (m : PlainNode) (G : Type 0) → (b ≡ true → m ≡ n → G) → (o ≡ Some m → G) → cond b (Some n) o ≡ Some m → G
at_test true n o m G f g e = f refl cc
at_test false n o m G f g e = g e

at_first : (o rest : Option PlainNode) (m : PlainNode) (G : Type 0) → (o ≡ Some m → G) → (rest ≡ Some m → G) → option_or o rest ≡ Some m → G
at_first (Some x) rest m G f g e = f e
at_first None rest m G f g e = g e

-- a node that is found has its number in the tree
mutual
  found_of : (k : ℕ) (n m : PlainNode) → node_at k n ≡ Some m → IsIn k (numbers_of n)
  found_of k (node number widget fields scroll index children) m e =
      at_test (eqb number k) (node number widget fields scroll index children) (node_in k children) m (IsIn k (number ∷ numbers_in children))
      (λ is same. inl (sym (eqb-true number k is))) (λ below. inr (found_in k children m below)) e

  found_in : (k : ℕ) (ns : PlainNodes) (m : PlainNode) → node_in k ns ≡ Some m → IsIn k (numbers_in ns)
  found_in k no_nodes m e = cc
  found_in k (more_nodes n ns) m e =
      at_first (node_at k n) (node_in k ns) m (IsIn k (numbers_of n ++ numbers_in ns))
      (λ here. in_left k (numbers_of n) (numbers_in ns) (found_of k n m here)) (λ later. in_right k (numbers_of n) (numbers_in ns) (found_in k ns m later)) e

-- ---- each node is found by its number

module _ (tree : PlainNode) where
  abbrev mutual
    Stands : PlainNode → Type 0
    Stands (node number widget fields scroll index children) = (node_at number tree ≡ Some (node number widget fields scroll index children)) × AllStand children

    AllStand : PlainNodes → Type 0
    AllStand no_nodes = Unit {0}
    AllStand (more_nodes n ns) = Stands n × AllStand ns

  -- what is found below is what is found in the tree
  abbrev Agree : (ℕ → Option PlainNode) → Type 0
  Agree find = (k : ℕ) (m : PlainNode) → find k ≡ Some m → node_at k tree ≡ Some m

  at_own : (number : ℕ) (b : Bool) (n : PlainNode) (o : Option PlainNode) → eqb number number ≡ b → cond b (Some n) o ≡ Some n
  at_own number true n o e = refl
  at_own number false n o e = absurd (eqb-false number number e refl)

  at_other : (number k : ℕ) (b : Bool) (n : PlainNode) (o : Option PlainNode) → eqb number k ≡ b → (number ≡ k → ⊥) → cond b (Some n) o ≡ o
  at_other number k true n o e not = absurd (not (eqb-true number k e))
  at_other number k false n o e not = refl

  missed : (k : ℕ) (n : PlainNode) (o rest : Option PlainNode) → node_at k n ≡ o → (IsIn k (numbers_of n) → ⊥) → option_or o rest ≡ rest
  missed k n None rest e not = refl
  missed k n (Some m) rest e not = absurd (not (found_of k n m e))

  mutual
    stands : (n : PlainNode) → AllDiffer (numbers_of n) → Agree (λ k. node_at k n) → Stands n
    stands (node number widget fields scroll index children) d agree =
        let n = node number widget fields scroll index children in (
          agree number n (at_own number (eqb number number) n (node_in number children) refl),
          all_stand children d.1 (λ k m e. agree k m (at_other number k (eqb number k) n (node_in k children) refl (differs number k (numbers_in children) d.0 (found_in k children m e)) ∙ e)),
        )

    all_stand : (ns : PlainNodes) → AllDiffer (numbers_in ns) → Agree (λ k. node_in k ns) → AllStand ns
    all_stand no_nodes d agree = tt
    all_stand (more_nodes n ns) d agree = (
      stands n (differ_left (numbers_of n) (numbers_in ns) d) (λ k m e. agree k m (ap (λ o. option_or o (node_in k ns)) e)),
      all_stand ns (differ_right (numbers_of n) (numbers_in ns) d)
          (λ k m e. agree k m (missed k n (node_at k n) (node_in k ns) refl (λ h. apart k (numbers_of n) (numbers_in ns) d h (found_in k ns m e)) ∙ e)),
    )

  -- ---- the owners that stand above a node

  -- what fits an owner's fields fits those of the node with its number
  abbrev Known : List Owner → Type 0
  Known owners =
      (place number : ℕ) (types : List Ty) (sets : List (ℕ × Exp)) (owner : PlainNode) → slice_get owners place ≡ Some (number, types) → FitFields types sets → node_at number tree ≡ Some owner
      → FitFields (map type_of (fields_of owner)) sets

  -- no sets fit any fields
  nothing_fits : (types : List Ty) (sets : List (ℕ × Exp)) → FitFields [] sets → FitFields types sets
  nothing_fits types [] h = tt
  nothing_fits types (set ∷ sets) h = cc (h.0.1)

  nobody_known : Known ((0, []) ∷ [])
  nobody_known zero number types sets owner at fit is =
      let nobody : Owner = (0, []) in
      let none : types ≡ [] = sym (ap (λ (o : Owner). o.1) (some_is nobody (number, types) at)) in
      nothing_fits (map type_of (fields_of owner)) sets (subst (λ ts. FitFields ts sets) none fit)
  nobody_known (suc place) number types sets owner at fit is = cc

  one_known : (owners : List Owner) (own : ℕ) (widget : PlainWidget) (fields : List Value) (scroll index : ℕ) (children : PlainNodes)
      → node_at own tree ≡ Some (node own widget fields scroll index children) → Known owners → Known ((own, map type_of fields) ∷ owners)
  one_known owners own widget fields scroll index children here known zero number types sets owner at fit is =
      let n = node own widget fields scroll index children in
      let entry : Owner = (own, map type_of fields) in
      let entries = some_is entry (number, types) at in
      let numbers : own ≡ number = ap (λ (o : Owner). o.0) entries in
      let types_are : types ≡ map type_of fields = sym (ap (λ (o : Owner). o.1) entries) in
      let found : Some n ≡ Some owner = sym here ∙ ap (λ k. node_at k tree) numbers ∙ is in
      let same : n ≡ owner = cc in
      subst (λ ts. FitFields ts sets) (types_are ∙ ap (λ x. map type_of (fields_of x)) same) fit
  one_known owners own widget fields scroll index children here known (suc place) number types sets owner at fit is = known place number types sets owner at fit is

  -- ---- a handler of a node

  abbrev Fits : Handler → Type 0
  Fits h = (owner : PlainNode) → node_at h.owner tree ≡ Some owner → FitFields (map type_of (fields_of owner)) h.sets

  of_some : (P : Handler → Type 0) (o : Option Handler) (h : Handler) → IfSome o P → o ≡ Some h → P h
  of_some P None h met e = cc
  of_some P (Some x) h met e = let same : x ≡ h = cc in subst P same met

  of_look : (P : Handler → Type 0) (l : Look) (h : Handler) → InLook P l → HasHandler h l → P h
  of_look P (detector behavior tap long vertical horizontal pan) h met (inl e) = of_some P tap h met.0 e
  of_look P (detector behavior tap long vertical horizontal pan) h met (inr (inl e)) = of_some P long h met.1 e
  of_look P (detector behavior tap long vertical horizontal pan) h met (inr (inr (inl e))) = of_some P vertical h met.2 e
  of_look P (detector behavior tap long vertical horizontal pan) h met (inr (inr (inr (inl e)))) = of_some P horizontal h met.3 e
  of_look P (detector behavior tap long vertical horizontal pan) h met (inr (inr (inr (inr e)))) = of_some P pan h met.4 e
  of_look P _ h met has = absurd has

  of_widget : (P : Handler → Type 0) (w : PlainWidget) (h : Handler) → HandlersMeet P w → HasHandler h (look_of w) → P h
  of_widget P (plain l k slots children) h met has = of_look P l h met.0 has

  owned_fits : (owners : List Owner) (h : Handler) → Known owners → IsOwned owners h → Fits h
  owned_fits owners h known o owner is = known o.place h.owner o.types h.sets owner o.found o.fits is

  mutual
    fits_of : (n : PlainNode) (owners : List Owner) → Known owners → Stands n → AreOwned owners n → (k : ℕ) (m : PlainNode) (h : Handler) → node_at k n ≡ Some m → HasHandler h (look_of (widget_of m)) → Fits h
    fits_of (node number widget fields scroll index children) owners known there owned k m h at has =
        at_test (eqb number k) (node number widget fields scroll index children) (node_in k children) m (Fits h)
        (λ is same. owned_fits owners h known (of_widget (IsOwned owners) widget h owned.0 (subst (λ x. HasHandler h (look_of (widget_of x))) same has)))
        (λ below. fits_in children ((number, map type_of fields) ∷ owners) (one_known owners number widget fields scroll index children there.0 known) there.1 owned.1 k m h below has)
        at

    fits_in : (ns : PlainNodes) (owners : List Owner) → Known owners → AllStand ns → AllAreOwned owners ns → (k : ℕ) (m : PlainNode) (h : Handler) → node_in k ns ≡ Some m → HasHandler h (look_of (widget_of m)) → Fits h
    fits_in no_nodes owners known there owned k m h at has = cc
    fits_in (more_nodes n ns) owners known there owned k m h at has =
        at_first (node_at k n) (node_in k ns) m (Fits h)
        (λ here. fits_of n owners known there.0 owned.0 k m h here has)
        (λ later. fits_in ns owners known there.1 owned.1 k m h later has)
        at

pub handlers_fit : (tree : PlainNode) → AreOwned ((0, []) ∷ []) tree → AllDiffer (numbers_of tree) → (number : ℕ) (n owner : PlainNode) (h : Handler)
    → node_at number tree ≡ Some n → HasHandler h (look_of (widget_of n)) → node_at h.owner tree ≡ Some owner → FitFields (map type_of (fields_of owner)) h.sets
handlers_fit tree owned differ number n owner h at has is =
    fits_of tree tree ((0, []) ∷ []) (nobody_known tree) (stands tree tree differ (λ k m e. e)) owned number n h at has owner is
