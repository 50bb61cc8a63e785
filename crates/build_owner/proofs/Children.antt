-- What stands at the handles of children is what their plain nodes say.
use Rattle.std.proofs.Common.{◌≡◌, ◌≢◌, ℕ, zero, suc, ◌+◌, ◌<◌, Bool, true, false, cond, eqb, Option, Some, None, IsSome, option_map, List, [], ◌∷◌, ◌++◌, length, map, take, drop, drop-cons, set, get_or, refl, sym, ap, ◌∙◌, arith}
use Rattle.std.proofs.lemmas.Grind.{get_or-set_at}
use Rattle.std.proofs.lemmas.List.{get_or-set_other, map-append, take_more}
use Rattle.std.specs.declared.rc.Rc.{Rc}
use Rattle.std.specs.declared.alloc.Global.{Global}
use borrow.Author.Tests.{eqb-true, eqb-false}
use Rattle.fx_handles.specs.declared.Handle.{Handle}
use Rattle.fx_handles.specs.Handle.{Among}
use Rattle.fx_handles.specs.HandleLaws.{times-cons, times_here}
use Rattle.node_tree.specs.Forest.{TreeNode}
use Rattle.node_tree.specs.Tree.{Tree, node_at as stored_at, IsNode}
use Rattle.element_tree.specs.Element.{Element, element_at}
use Rattle.widget_model.specs.declared.widgets.Widget.{Widget}
use Rattle.widget_model.specs.Plain.{PlainWidget}
use Rattle.widget_model.specs.View.{shared}
use Rattle.plain_tree.specs.PlainNode.{PlainNode, widget_of, index_of}
use Rattle.build_form.specs.Partner.{node_at}

heads : {A : Type 0} {x y : A} {xs ys : List A} → x ∷ xs ≡ y ∷ ys → x ≡ y
heads e = cc

tails : {A : Type 0} {x y : A} {xs ys : List A} → x ∷ xs ≡ y ∷ ys → xs ≡ ys
tails e = cc

some_same : {A : Type 0} {x y : A} → Some x ≡ Some y → x ≡ y
some_same e = cc

-- one widget more
pub widget_more : (G : Handle → Option PlainWidget) (hs : List Handle) (i : ℕ) (h : Handle) (ws ys : List (Rc Widget Global)) (x : Rc Widget Global) → i < length hs → h ≡ get_or hs i h → ys ≡ ws ++ x ∷ []
    → Some (shared x) ≡ G h → map Some (map shared ws) ≡ map G (take i hs) → map Some (map shared ys) ≡ map G (take (i + 1) hs)
widget_more G hs i h ws ys x low at more is so_far =
    ap (λ l. map Some (map shared l)) more
    ∙ ap (map Some) (map-append shared ws (x ∷ []))
    ∙ map-append Some (map shared ws) (shared x ∷ [])
    ∙ ap (λ l. l ++ Some (shared x) ∷ []) so_far
    ∙ ap (λ z. map G (take i hs) ++ z ∷ []) is
    ∙ sym (map-append G (take i hs) (h ∷ []))
    ∙ ap (map G) (ap (λ z. take i hs ++ z ∷ []) at ∙ sym (take_more hs i h low))

module _ (F : Handle → Option PlainNode) where
  -- the widgets of the plain nodes at handles
  pub widgets_same : (G : Handle → Option PlainWidget) (hs : List Handle) (nodes : List PlainNode) (ws : List PlainWidget) → ((k : Handle) → Among k hs → option_map widget_of (F k) ≡ G k)
      → map F hs ≡ map Some nodes → map Some ws ≡ map G hs → ws ≡ map widget_of nodes
  widgets_same G [] [] [] each f g = refl
  widgets_same G [] [] (w ∷ ws) each f g = cc
  widgets_same G [] (n ∷ nodes) ws each f g = cc
  widgets_same G (h ∷ hs) [] ws each f g = cc
  widgets_same G (h ∷ hs) (n ∷ nodes) [] each f g = cc
  widgets_same G (h ∷ hs) (n ∷ nodes) (w ∷ ws) each f g =
      let is : w ≡ widget_of n = some_same (heads g ∙ sym (each h (omega (arith, times_here h hs))) ∙ ap (option_map widget_of) (heads f)) in
      let others = widgets_same G hs nodes ws (λ k among. each k (omega (arith, times-cons k h hs, among))) (tails f) (tails g) in
      λ i. is i ∷ others i

  -- the plain node at a place among them
  pub record Read (nodes : List PlainNode) (k : ℕ) (h : Handle) : Type 0 where
    pub plain : PlainNode
    pub is : F h ≡ Some plain
    pub at : plain ≡ get_or nodes k plain
    pub within : k < length nodes

  pub read : (hs : List Handle) (nodes : List PlainNode) (k : ℕ) (h : Handle) → map F hs ≡ map Some nodes → k < length hs → h ≡ get_or hs k h → Read nodes k h
  read [] nodes k h f low at = absurd (omega arith)
  read (x ∷ hs) [] k h f low at = cc
  read (x ∷ hs) (n ∷ nodes) zero h f low at = record { plain = n; is = ap F at ∙ heads f; at = refl; within = omega arith }
  read (x ∷ hs) (n ∷ nodes) (suc k) h f low at =
      let r = read hs nodes k h (tails f) (omega arith) at in
      record { plain = r.plain; is = r.is; at = r.at; within = let w = r.within in omega arith }

pub same_length : (F : Handle → Option PlainNode) (hs : List Handle) (nodes : List PlainNode) → map F hs ≡ map Some nodes → length nodes ≡ length hs
same_length F [] [] f = refl
same_length F [] (n ∷ nodes) f = cc
same_length F (h ∷ hs) [] f = cc
same_length F (h ∷ hs) (n ∷ nodes) f = ap suc (same_length F hs nodes (tails f))

-- an element more, before those that were looked at, is the one at its place; where its place is past all of them nothing is
module _ (P : Option Handle → Option PlainNode) (nodes : List PlainNode) (k rest : ℕ) (h : Handle) (n : PlainNode) (count : ℕ) (old : List (Option Handle))
    (is_rest : rest ≡ suc k) (within : k < length nodes) (at : n ≡ get_or nodes k n) (is : P (Some h) ≡ Some n) (len : length old ≡ count)
    (so_far : (j : ℕ) → j < count → P (get_or old j None) ≡ node_at (drop rest nodes) j) (j : ℕ) (low : j < count) where
  front : drop k nodes ≡ n ∷ drop rest nodes
  front = drop-cons nodes k n within ∙ ap (λ m. m ∷ drop (suc k) nodes) (sym at) ∙ ap (λ r. n ∷ drop r nodes) (sym is_rest)

  by_test : (b : Bool) → eqb (index_of n) j ≡ b → index_of n < count → P (get_or (set old (index_of n) (Some h)) j None) ≡ cond b (Some n) (node_at (drop rest nodes) j)
  by_test true e below =
      let same : j ≡ index_of n = sym (eqb-true (index_of n) j e) in
      ap P (get_or-set_at old (index_of n) j (Some h) None same (omega arith)) ∙ is
  by_test false e below =
      let other : j ≢ index_of n = λ s. eqb-false (index_of n) j e (sym s) in
      ap P (get_or-set_other old (index_of n) j (Some h) None other) ∙ so_far j low

  pub by_place_more : index_of n < count → P (get_or (set old (index_of n) (Some h)) j None) ≡ node_at (drop k nodes) j
  by_place_more below = by_test (eqb (index_of n) j) refl below ∙ sym (ap (λ ns. node_at ns j) front)

  past_test : (b : Bool) → eqb (index_of n) j ≡ b → (index_of n < count → ⊥) → P (get_or old j None) ≡ cond b (Some n) (node_at (drop rest nodes) j)
  past_test true e past = let same : j ≡ index_of n = sym (eqb-true (index_of n) j e) in absurd (past (omega arith))
  past_test false e past = so_far j low

  pub by_place_past : (index_of n < count → ⊥) → P (get_or old j None) ≡ node_at (drop k nodes) j
  by_place_past past = past_test (eqb (index_of n) j) refl past ∙ sym (ap (λ ns. node_at ns j) front)

-- a handle at a place of a list stands in it
pub among_at : (hs : List Handle) (i : ℕ) (z : Handle) → i < length hs → Among (get_or hs i z) hs
among_at [] i z low = absurd (omega arith)
among_at (h ∷ hs) zero z low = omega (arith, times_here h hs)
among_at (h ∷ hs) (suc i) z low = omega (arith, times-cons (get_or hs i z) h hs, among_at hs i z (omega arith))

-- a live element has a widget
no_widget_in : (x : Option (TreeNode Element)) → IsSome x → None ≡ option_map (λ (e : Element). e.widget) (option_map (λ (n : TreeNode Element). n.value) x) → ⊥
no_widget_in None live e = cc
no_widget_in (Some n) live e = cc

pub no_widget : (t : Tree Element) (h : Handle) → IsNode t h → None ≡ option_map (λ (e : Element). e.widget) (element_at t h) → ⊥
no_widget t h live e = no_widget_in (stored_at t h) live e

no_place_in : (x : Option (TreeNode Element)) → IsSome x → None ≡ option_map (λ (e : Element). e.index) (option_map (λ (n : TreeNode Element). n.value) x) → ⊥
no_place_in None live e = cc
no_place_in (Some n) live e = cc

pub no_place : (t : Tree Element) (h : Handle) → IsNode t h → None ≡ option_map (λ (e : Element). e.index) (element_at t h) → ⊥
no_place t h live e = no_place_in (stored_at t h) live e

element_in : (x : Option (TreeNode Element)) → IsSome x → (e : Element) × (option_map (λ (n : TreeNode Element). n.value) x ≡ Some e)
element_in None live = absurd (no_one live)
  where
    no_one : IsSome {T = TreeNode Element} None → ⊥
    no_one l = cc
element_in (Some n) live = (n.value, refl)

pub live_element : (t : Tree Element) (h : Handle) → IsNode t h → (e : Element) × (element_at t h ≡ Some e)
live_element t h live = element_in (stored_at t h) live

pub any_default : (hs : List Handle) (i : ℕ) (y z : Handle) → i < length hs → get_or hs i y ≡ get_or hs i z
any_default [] i y z low = absurd (omega arith)
any_default (h ∷ hs) zero y z low = refl
any_default (h ∷ hs) (suc i) y z low = any_default hs i y z (omega arith)

pub some_is : {A : Type 0} {x y : A} → Some x ≡ Some y → x ≡ y
some_is e = cc

-- the element whose widget is seen
pub stored_widget : (o : Option Element) (w : PlainWidget) → Some w ≡ option_map (λ (e : Element). e.widget) o → (e : Element) × (o ≡ Some e) × (e.widget ≡ w)
stored_widget None w is = cc
stored_widget (Some e) w is = (e, refl, some_is (sym is))
