-- Lazy lists that wait are served one after another.
use Rattle.std.proofs.Common.{◌≡◌, ℕ, zero, suc, ◌+◌, ◌≤◌, Option, None, List, [], ◌∷◌, ◌++◌, length, map, take, drop, get_or, refl, sym, ap, ◌∙◌, subst, arith}
use Rattle.std.proofs.lemmas.List.{map-append, length-append, length-map}
use Rattle.std.proofs.lemmas.List.Elements.{All-push, All-weaker}
use Rattle.fx_handles.specs.declared.Handle.{Handle}
use Rattle.node_tree.specs.Forest.{Forest}
use Rattle.node_tree.specs.Tree.{Tree}
use Rattle.sliver_layout.specs.declared.protocol.Window.{Window}
use Rattle.plain_tree.specs.declared.role.RenderRole.TheVariants.{Lazy}
use Rattle.plain_tree.specs.PlainNode.{PlainNode}
use Rattle.build_form.specs.Entering.{Basis, second}
use Rattle.build_form.specs.FullBuild.{Ranges, items, next_waiting, one_served}
use Rattle.build_form.specs.Partner.{Arrival, arrivals}
use Rattle.build_form.specs.Step.{Progress, Step, gives, and_then, each}
use Rattle.element_tree.specs.Element.{Element, element_at}
use Rattle.element_tree.specs.Nodes.{nodes_of}
use Rattle.render_tree.specs.Object.{RenderObject}
use Rattle.render_tree.specs.Tree.{object_at}
use Rattle.build_walk.specs.Counting.{builds_from, builds_by_each}
use Rattle.build_walk.specs.Keeping.{reenter}
use Rattle.build_walk.specs.Merging.{serving, serving_each}
use Rattle.build_walk.specs.Past.{Pasts}
use Rattle.build_walk.specs.Renewing.{renewals, AllGoOn, drawn, AreDrawn}
use Rattle.build_walk.specs.Serving.{served, builds_serving}
use Rattle.build_walk.specs.Telling.{StoreOutputs}
use Rattle.build_walk.proofs.Building.{each_append}
use Rattle.build_walk.proofs.Handling.{tops_mapped}
use Rattle.build_owner.specs.declared.serving.ServedList.{ServedList}
use Rattle.build_owner.specs.declared.walk.WaitingSpot.{WaitingSpot}
use Rattle.build_owner.specs.Served.{IsServed, AreServed, elements_served, renders_served, range_for}
use Rattle.build_owner.specs.WalkView.{waiting_of}

-- ---- lists of which one is taken from the front

heads : {A : Type 0} {x y : A} {xs ys : List A} → x ∷ xs ≡ y ∷ ys → x ≡ y
heads e = cc

tails : {A : Type 0} {x y : A} {xs ys : List A} → x ∷ xs ≡ y ∷ ys → xs ≡ ys
tails e = cc

module _ {A : Type 0} where
  pub taken_first : (xs ys : List A) (x : A) (i : ℕ) → drop i xs ≡ x ∷ ys → take (suc i) xs ≡ take i xs ++ x ∷ []
  taken_first [] ys x zero e = cc
  taken_first [] ys x (suc i) e = cc
  taken_first (z ∷ xs) ys x zero e = ap (λ y. y ∷ []) (heads e)
  taken_first (z ∷ xs) ys x (suc i) e = ap (λ l. z ∷ l) (taken_first xs ys x i e)

  pub left_after : (xs ys : List A) (x : A) (i : ℕ) → drop i xs ≡ x ∷ ys → ys ≡ drop (suc i) xs
  left_after [] ys x zero e = cc
  left_after [] ys x (suc i) e = cc
  left_after (z ∷ xs) ys x zero e = sym (tails e)
  left_after (z ∷ xs) ys x (suc i) e = left_after xs ys x i e

  pub first_of : (xs ys : List A) (x : A) (i : ℕ) → drop i xs ≡ x ∷ ys → x ≡ get_or xs i x
  first_of [] ys x zero e = cc
  first_of [] ys x (suc i) e = cc
  first_of (z ∷ xs) ys x zero e = sym (heads e)
  first_of (z ∷ xs) ys x (suc i) e = first_of xs ys x i e

  pub none_left : (xs ys : List A) (i : ℕ) → drop i xs ≡ [] → length xs ≤ i
  none_left [] ys i e = omega arith
  none_left (z ∷ xs) ys zero e = cc
  none_left (z ∷ xs) ys (suc i) e = let less = none_left xs ys i e in omega (arith, less)

  pub whole_at : (xs ys : List A) (x : A) (i : ℕ) → drop i xs ≡ x ∷ ys → xs ≡ take i xs ++ x ∷ ys
  whole_at [] ys x zero e = cc
  whole_at [] ys x (suc i) e = cc
  whole_at (z ∷ xs) ys x zero e = e
  whole_at (z ∷ xs) ys x (suc i) e = ap (λ l. z ∷ l) (whole_at xs ys x i e)

  pub short : (xs : List A) (i : ℕ) → length (drop i xs) ≡ 0 → length xs ≤ i
  short [] i e = omega arith
  short (x ∷ xs) zero e = absurd (omega (arith, e))
  short (x ∷ xs) (suc i) e = let less = short xs i e in omega (arith, less)

pub take_even : {A B : Type 0} (xs : List A) (ys : List B) (i : ℕ) → length xs ≡ length ys → length (take i xs) ≡ length (take i ys)
take_even xs ys zero e = refl
take_even [] [] (suc i) e = refl
take_even [] (y ∷ ys) (suc i) e = absurd (omega (arith, e))
take_even (x ∷ xs) [] (suc i) e = absurd (omega (arith, e))
take_even (x ∷ xs) (y ∷ ys) (suc i) e = ap (λ n. suc n) (take_even xs ys i (omega (arith, e)))

-- what is served apart is put together
pub serving_more : {U : Type 0} (hs : List Handle) (gs : List (Forest U)) (h : Handle) (g : Forest U) → length gs ≡ length hs
    → serving_each (hs ++ h ∷ []) (gs ++ g ∷ []) ≡ serving_each hs gs ++ serving h g ∷ []
serving_more [] [] h g e = refl
serving_more [] (x ∷ gs) h g e = absurd (omega (arith, e))
serving_more (k ∷ hs) [] h g e = absurd (omega (arith, e))
serving_more (k ∷ hs) (x ∷ gs) h g e = ap (λ l. serving k x ∷ l) (serving_more hs gs h g (omega (arith, e)))

one_more : {A B : Type 0} (go : A → Progress → Step B) (xs : List A) (x : A) (s t u : Progress) (ys : List B) (y : B) → each go xs s ≡ gives ys t → go x t ≡ gives y u
    → each go (xs ++ x ∷ []) s ≡ gives (ys ++ y ∷ []) u
one_more go xs x s t u ys y e f =
    each_append go xs (x ∷ []) s
    ∙ ap (λ r. and_then r (λ zs v. and_then (each go (x ∷ []) v) (λ ws q. gives (zs ++ ws) q))) e
    ∙ ap (λ r. and_then (and_then r (λ z v. gives (z ∷ []) v)) (λ ws q. gives (ys ++ ws) q)) f

long_more : {A B : Type 0} (xs : List A) (ys : List B) (x : A) (y : B) → length xs ≡ length ys → length (xs ++ x ∷ []) ≡ length (ys ++ y ∷ [])
long_more xs ys x y e = length-append xs (x ∷ []) ∙ ap (λ n. n + 1) e ∙ sym (length-append ys (y ∷ []))

-- ---- one list

module _ (from : Basis) (pasts : Pasts) (scrolled : ℕ → ℕ) (ranges : Ranges) where
  -- a list is served where its items are entered
  pub served_so : (s : WaitingSpot) (kept : Option PlainNode) (range : Window) (mid before : Progress) (r : Step (List PlainNode)) → next_waiting mid.waiting ≡ kept → one_served mid ≡ before
      → range ≡ range_for ranges (waiting_of s) → each (reenter from pasts second s.left s.now.items) (items range (arrivals kept (waiting_of s).widgets)) before ≡ r
      → served from pasts ranges (waiting_of s) mid ≡ r
  served_so s kept range mid before r first popped is entered =
      (λ i. each (reenter from pasts second s.left s.now.items) (items (sym is i) (arrivals (first i) (waiting_of s).widgets)) (popped i)) ∙ entered

  -- and so its builds are counted
  pub counted_so : (s : WaitingSpot) (kept : Option PlainNode) (range : Window) (mid before : Progress) (old new : ℕ) → next_waiting mid.waiting ≡ kept → one_served mid ≡ before → range ≡ range_for ranges (waiting_of s)
      → new ≡ old + builds_by_each (reenter from pasts second s.left s.now.items) (builds_from from pasts second s.left s.now.items) (items range (arrivals kept (waiting_of s).widgets)) before
      → new ≡ old + builds_serving from pasts ranges (waiting_of s) mid
  counted_so s kept range mid before old new first popped is counted =
      counted
      ∙ (λ i. old + builds_by_each (reenter from pasts second s.left s.now.items) (builds_from from pasts second s.left s.now.items) (items (is i) (arrivals (sym first i) (waiting_of s).widgets)) (sym popped i))

  -- the same lists, as they are known otherwise
  pub served_as : (spots others : List WaitingSpot) (hs ks : List Handle) (start after : Progress) (t : Tree Element) (r : Tree RenderObject) (os ps : List ServedList) → spots ≡ others → hs ≡ ks → os ≡ ps
      → AreServed from pasts scrolled ranges spots hs start after t r os → AreServed from pasts scrolled ranges others ks start after t r ps
  served_as spots others hs ks start after t r os ps a b e all =
      subst (λ l. AreServed from pasts scrolled ranges l ks start after t r ps) a
      (subst (λ l. AreServed from pasts scrolled ranges spots l start after t r ps) b (subst (λ l. AreServed from pasts scrolled ranges spots hs start after t r l) e all))

  -- one list more
  module _ (t u : Tree Element) (r q : Tree RenderObject) (later_elements : (f : Forest Element) → AllGoOn (element_at t) f → AllGoOn (element_at u) f)
      (later_objects : (f : Forest Element) → AreDrawn (object_at r) scrolled f → AreDrawn (object_at q) scrolled f) where
    pub served_more : (spots : List WaitingSpot) (hs : List Handle) (start mid before after : Progress) (os : List ServedList) (s : WaitingSpot) (h : Handle) (entered : List Arrival) (o : ServedList)
        → length hs ≡ length spots → AreServed from pasts scrolled ranges spots hs start mid t r os → (one : IsServed from pasts scrolled s h entered before after u q o)
        → served from pasts ranges (waiting_of s) mid ≡ gives (nodes_of scrolled one.kids) after
        → AreServed from pasts scrolled ranges (spots ++ s ∷ []) (hs ++ h ∷ []) start after u q (os ++ o ∷ [])
    served_more spots hs start mid before after os s h entered o even all one is = record {
      forests = all.forests ++ one.kids ∷ [];
      long = long_more all.forests spots one.kids s all.long;
      is = ap (λ l. each (served from pasts ranges) l start) (map-append waiting_of spots (s ∷ []))
          ∙ one_more (served from pasts ranges) (map waiting_of spots) (waiting_of s) start mid after (map (nodes_of scrolled) all.forests) (nodes_of scrolled one.kids) all.is is
          ∙ ap (λ l. gives l after) (sym (map-append (nodes_of scrolled) all.forests (one.kids ∷ [])));
      elements = map-append elements_served os (o ∷ [])
          ∙ (λ i. all.elements i ++ record { children = (one.children ∙ sym (tops_mapped one.kids)) i; entries = one.elements i } ∷ [])
          ∙ sym (serving_more (map (λ (x : WaitingSpot). x.at) spots) (map renewals all.forests) s.at (renewals one.kids)
          (length-map all.forests renewals ∙ all.long ∙ sym (length-map spots (λ (x : WaitingSpot). x.at))))
          ∙ (λ i. serving_each (sym (map-append (λ (x : WaitingSpot). x.at) spots (s ∷ [])) i) (sym (map-append renewals all.forests (one.kids ∷ [])) i));
      renders = map-append renders_served os (o ∷ [])
          ∙ (λ i. all.renders i ++ record { children = one.tops_are i; entries = one.renders i } ∷ [])
          ∙ sym (serving_more hs (map (drawn Lazy None) all.forests) h (drawn Lazy None one.kids) (length-map all.forests (drawn Lazy None) ∙ all.long ∙ sym even))
          ∙ ap (serving_each (hs ++ h ∷ [])) (sym (map-append (drawn Lazy None) all.forests (one.kids ∷ [])));
      go_on = All-push (AllGoOn (element_at u)) all.forests one.kids (All-weaker (AllGoOn (element_at t)) (AllGoOn (element_at u)) later_elements all.forests all.go_on) one.go_on;
      drawn_there = All-push (AreDrawn (object_at q) scrolled) all.forests one.kids (All-weaker (AreDrawn (object_at r) scrolled) (AreDrawn (object_at q) scrolled) later_objects all.forests all.drawn_there) one.drawn_there;
      stored = All-push (StoreOutputs scrolled) all.forests one.kids all.stored one.stored;
    }
