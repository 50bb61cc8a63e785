-- Marks of slots, and the handles that they name.
use Rattle.std.proofs.Common.{◌≡◌, ℕ, zero, suc, ◌+◌, ◌<◌, Bool, true, false, ◌||◌, eqb, List, [], ◌∷◌, length, take, get_or, replicate, set, refl, sym, ap, ◌∙◌, inl, inr, All, subst, arith}
use Rattle.std.proofs.lemmas.Bool.{eq-eqb, eqb-true}
use Rattle.std.proofs.lemmas.List.{take_more, get_or-set_same, get_or-set_other}
use Rattle.std.proofs.lemmas.List.Folds.{list_any-append}
use Rattle.fx_handles.specs.declared.Handle.{Handle}
use Rattle.fx_handles.specs.Handle.{same, Among}
use Rattle.fx_handles.specs.HandleLaws.{same-eq, same-ne, cases_same, times_there}
use Rattle.node_tree.specs.Trims.{in_slot}
use Rattle.node_tree.specs.Tree.{Tree, IsNode}
use Rattle.node_tree.specs.Part.{has}
use Rattle.node_tree.proofs.PartSlots.{in_slot-is}
use Rattle.tree_marks.specs.Marks.{listed}

or-none : (b : Bool) → (b || false) ≡ b
or-none true = refl
or-none false = refl

same-sym : (h k : Handle) → same h k ≡ same k h
same-sym h k = elim (cases_same h k) [
  | inl e ↦ same-eq h k e ∙ sym (same-eq k h (sym e))
  | inr apart ↦ same-ne h k apart ∙ sym (same-ne k h (λ e. apart (sym e)))
]

-- a handle in the one list is one in the other's words
pub has-listed : (hs : List Handle) (k : Handle) → has k hs ≡ listed k hs
has-listed [] k = refl
has-listed (c ∷ cs) k = ap (λ b. b || has k cs) (same-sym c k) ∙ ap (λ b. same k c || b) (has-listed cs k)

-- no slot has a mark
pub no_slots : (n i : ℕ) → get_or (replicate n false) i false ≡ false
no_slots zero i = refl
no_slots (suc n) zero = refl
no_slots (suc n) (suc i) = no_slots n i

-- one handle more
pub slots-more : (slots : List Bool) (hs : List Handle) (n : ℕ) (nowhere : Handle) → n < length hs → (get_or hs n nowhere).index < length slots
    → ((i : ℕ) → get_or slots i false ≡ in_slot (take n hs) i) → (i : ℕ) → get_or (set slots (get_or hs n nowhere).index true) i false ≡ in_slot (take (n + 1) hs) i
slots-more slots hs n nowhere within inside so_far i =
    let c : Handle = get_or hs n nowhere in
    let more : in_slot (take (n + 1) hs) i ≡ (in_slot (take n hs) i || eqb c.index i) =
    ap (λ xs. in_slot xs i) (take_more hs n nowhere within) ∙ (list_any-append (λ h. eqb h.index i) (take n hs) (c ∷ []) ∙ ap (λ b. in_slot (take n hs) i || b) (or-none (eqb c.index i))) in
    by (eqb c.index i) refl ∙ sym more
  where
    or-true : (b : Bool) → (b || true) ≡ true
    or-true true = refl
    or-true false = refl

    by : (b : Bool) → eqb (get_or hs n nowhere).index i ≡ b → get_or (set slots (get_or hs n nowhere).index true) i false ≡ (in_slot (take n hs) i || eqb (get_or hs n nowhere).index i)
    by true e =
        let at_i : (get_or hs n nowhere).index ≡ i = eqb-true (get_or hs n nowhere).index i e in
        ap (λ j. get_or (set slots (get_or hs n nowhere).index true) j false) (sym at_i)
        ∙ get_or-set_same slots (get_or hs n nowhere).index true false inside
        ∙ sym (ap (λ b. in_slot (take n hs) i || b) e ∙ or-true (in_slot (take n hs) i))
    by false e =
        get_or-set_other slots (get_or hs n nowhere).index i true false (λ at_i. absurd (let t = eq-eqb (get_or hs n nowhere).index i (sym at_i) in cc))
        ∙ so_far i
        ∙ sym (ap (λ b. in_slot (take n hs) i || b) e ∙ or-none (in_slot (take n hs) i))

-- what holds of all of a list holds of each that stands in it
all_among : (P : Handle → Type 0) (hs : List Handle) (x : Handle) → All P hs → Among x hs → P x
all_among P [] x all among = absurd (omega (arith, among))
all_among P (h ∷ hs) x all among = elim (cases_same h x) [
  | inl e ↦ subst P e (all 0 x (omega arith))
  | inr apart ↦ all_among P hs x (λ k d within. all (suc k) d (omega (arith, within))) (omega (arith, among, times_there x h hs apart))
]

-- the slots of live handles tell as much as the list
pub slots-agree : {V : Type 0} (t : Tree V) (slots : List Bool) (hs : List Handle) → ((i : ℕ) → get_or slots i false ≡ in_slot hs i) → All (IsNode t) hs
    → (k : Handle) → IsNode t k → get_or slots k.index false ≡ listed k hs
slots-agree t slots hs marks live k there = marks k.index ∙ in_slot-is t.nodes hs k (λ x among. all_among (IsNode t) hs x live among) there ∙ has-listed hs k
