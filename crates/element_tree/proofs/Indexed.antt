-- The index of numbers after an edit.
use Rattle.std.proofs.Common.{◌≡◌, ◌≢◌, ◌↔◌, ℕ, ◌+◌, Bool, true, false, cond, eqb, List, [], ◌∷◌, ◌++◌, map, Result, Ok, Err, IfOk, OnOk, OnErr, Option, Some, None, IsSome, is_some, option_map, refl, sym, ap, ◌∙◌, subst, inl, inr, arith}
use Rattle.std.proofs.lemmas.Bool.{cases_Bool, cases_eq, eq-eqb, ne_eqb}
use Rattle.std.proofs.lemmas.List.Elements.{All-head, All-tail}
use Rattle.std.specs.declared.alloc.AllocError.{AllocError}
use Rattle.fx_handles.specs.declared.Handle.{Handle}
use Rattle.fx_handles.specs.Handle.{same}
use Rattle.fx_handles.specs.HandleLaws.{same-true, cases_same}
use Rattle.fx_expr.specs.declared.values.Ty.{Ty}
use Rattle.node_tree.specs.Forest.{TreeNode, Forest, In}
use Rattle.node_tree.specs.Forest.Forest.{none, tree}
use Rattle.node_tree.specs.Tree.{Tree, IsNode, node_at, subtree_at, StandsAt}
use Rattle.node_tree.specs.Edits.{RemovesBelow, DropsInactive}
use Rattle.node_tree.specs.Plan.{PlanEntry, committed, relinked, Commits}
use Rattle.element_tree.specs.Element.{Element, element_at, number_at, made_count}
use Rattle.element_tree.specs.Fields.{AreDeclared}
use Rattle.element_tree.specs.Edits.{Changes}
use Rattle.element_tree.specs.Renewal.{Renewal, renewed, FollowsAt, FollowsIn}
use Rattle.element_tree.specs.Index.{IsMade, IsIndexed, handle_of, live_ones, Rises}
use Rattle.element_tree.specs.declared.numbers.Numbered.{Numbered}
use Rattle.element_tree.proofs.Changing.{node_of_value, value_of_node, value_after}
use Rattle.element_tree.proofs.Rising.{rises-pushed, handle-pushed, rises-filter, handle-filter, filtered}

-- an element that was there before, with its number, and whose fields are still declared
pub record Stays (old : Tree Element) (k : Handle) (e : Element) : Type 0 where
  pub was : Element
  pub at : element_at old k ≡ Some was
  pub number : e.number ≡ was.number
  pub typed : AreDeclared was.widget was.fields → AreDeclared e.widget e.fields

-- each element was there before
abbrev pub AllStay : Tree Element → Tree Element → Type 0
AllStay old new = (k : Handle) (e : Element) → element_at new k ≡ Some e → Stays old k e

number_here : (o : Option Element) (e : Element) → o ≡ Some e → option_map (λ x. x.number) o ≡ Some e.number
number_here o e at = ap (option_map (λ x. x.number)) at

pub same_some : {X : Type 0} (a b : X) → Some a ≡ Some b → a ≡ b
same_some a b e = cc

some_number : (o : Option Element) (n : ℕ) → option_map (λ x. x.number) o ≡ Some n → (e : Element) × (o ≡ Some e) × (e.number ≡ n)
some_number None n e = absurd (cc)
some_number (Some x) n e = (x, refl, same_some x.number n e)

module _ (numbers after : List Numbered) (old new : Tree Element) (next : ℕ) (is : IsIndexed numbers old next) (stay : AllStay old new)
    (made : made_count new ≡ made_count old) where
  -- where the index has just those handles that are still live
  pub indexed-fewer : Rises 1 next after → ((n : ℕ) (h : Handle) → (handle_of after n ≡ Some h) ↔ ((handle_of numbers n ≡ Some h) × IsNode new h)) → IsIndexed after new next
  indexed-fewer rises index = record {
    rises = rises;
    to_node = λ n h e.
        let both = (index n h).0 e in
        let found = value_of_node (node_at new h) both.1 in
        let stays = stay h found.0 found.1 in
        let was = some_number (element_at old h) n (is.to_node n h both.0) in
        let one : Some stays.was ≡ Some was.0 = sym stays.at ∙ was.1 in
        let number : stays.was.number ≡ was.0.number = (cc) in
        number_here (element_at new h) found.0 found.1 ∙ ap Some (stays.number ∙ number ∙ was.2);
    to_index = λ n h e.
        let found = some_number (element_at new h) n e in
        let stays = stay h found.0 found.1 in
        (index n h).1 (is.to_index n h (number_here (element_at old h) stays.was stays.at ∙ ap Some (sym stays.number ∙ found.2)), node_of_value (node_at new h) found.0 found.1);
    made = λ h e at.
        let stays = stay h e at in
        let was = is.made h stays.was stays.at in
        record {
          first = omega (arith, stays.number, was.first);
          last = omega (arith, stays.number, was.last, made);
          typed = stays.typed was.typed;
        };
    following = is.following ∙ ap (λ m. m + 1) (sym made);
  }

  pub indexed-live : after ≡ live_ones new numbers → IsIndexed after new next
  indexed-live here =
      let live : Handle → Bool = λ k. is_some (node_at new k) in
      indexed-fewer (subst (Rises 1 next) (sym here) (rises-filter live 1 next numbers is.rises))
      (λ n h. filtered live (handle_of numbers n) (handle_of after n) h (ap (λ xs. handle_of xs n) here ∙ handle-filter live 1 next numbers n is.rises))

-- where no element goes
pub indexed-same : (numbers : List Numbered) (old new : Tree Element) (next : ℕ) → IsIndexed numbers old next → AllStay old new
    → ((k : Handle) → IsNode old k → IsNode new k) → made_count new ≡ made_count old → IsIndexed numbers new next
indexed-same numbers old new next is stay live made =
    indexed-fewer numbers numbers old new next is stay made is.rises (λ n h. (λ e. (e, live h (node_there (node_at old h) n (is.to_node n h e))), λ p. p.0))
  where
    node_there : (m : Option (TreeNode Element)) (n : ℕ) → option_map (λ (x : Element). x.number) (option_map (λ (x : TreeNode Element). x.value) m) ≡ Some n → IsSome m
    node_there None n at = absurd (cc)
    node_there (Some m) n at = refl

-- elements whose values are as before
pub stay_by_values : (old new : Tree Element) → ((k : Handle) → element_at new k ≡ element_at old k) → AllStay old new
stay_by_values old new same_values k e at = record { was = e; at = sym (same_values k) ∙ at; number = refl; typed = λ typed. typed }

pub live_by_values : (old new : Tree Element) → ((k : Handle) → element_at new k ≡ element_at old k) → (k : Handle) → IsNode old k → IsNode new k
live_by_values old new same_values k live =
    let found = value_of_node (node_at old k) live in
    node_of_value (node_at new k) found.0 (same_values k ∙ found.1)

-- a change of one element
pub indexed-changed : (numbers : List Numbered) (old new : Tree Element) (next : ℕ) (h : Handle) (change : Element → Element) → IsIndexed numbers old next
    → Changes old new h change → ((e : Element) → (change e).number ≡ e.number)
    → ((e : Element) → element_at old h ≡ Some e → AreDeclared e.widget e.fields → AreDeclared (change e).widget (change e).fields)
    → IsIndexed numbers new next
indexed-changed numbers old new next h change is changes number typed = by_element (element_at old h) refl
  where
    by_element : (o : Option Element) → element_at old h ≡ o → IsIndexed numbers new next
    by_element None at = subst (λ (t : Tree Element). IsIndexed numbers t next) (sym (changes.dead at)) is
    by_element (Some e) at =
        let writes = changes.live e at in
        let values = value_after old new h (change e) writes.writes in
        indexed-same numbers old new next is (stays values) (lives values) writes.writes.handles.inserted
      where
        stays : ((k : Handle) → element_at new k ≡ option_map (λ v. cond (same k h) (change e) v) (element_at old k)) → AllStay old new
        stays values k x there = by_old (element_at old k) refl (sym (values k) ∙ there)
          where
            by_old : (o : Option Element) → element_at old k ≡ o → option_map (λ v. cond (same k h) (change e) v) o ≡ Some x → Stays old k x
            by_old None was now = absurd (cc)
            by_old (Some v) was now = elim (cases_Bool (same k h)) [
              | inl equal ↦
                  let here : k ≡ h = same-true k h equal in
                  let one : Some v ≡ Some e = sym was ∙ ap (element_at old) here ∙ at in
                  let is_v : v ≡ e = (cc) in
                  let is_x : Some (change e) ≡ Some x = ap (λ b. Some (cond b (change e) v)) (sym equal) ∙ now in
                  let x_is : x ≡ change e = (cc) in
                  record {
                    was = v;
                    at = was;
                    number = ap (λ y. y.number) x_is ∙ number e ∙ ap (λ y. y.number) (sym is_v);
                    typed = λ d. subst (λ (y : Element). AreDeclared y.widget y.fields) (sym x_is) (typed e at (subst (λ (y : Element). AreDeclared y.widget y.fields) is_v d));
                  }
              | inr apart ↦
                  let is_x : Some v ≡ Some x = ap (λ b. Some (cond b (change e) v)) (sym apart) ∙ now in
                  let x_is : x ≡ v = (cc) in
                  record {
                    was = v;
                    at = was;
                    number = ap (λ y. y.number) x_is;
                    typed = λ d. subst (λ (y : Element). AreDeclared y.widget y.fields) (sym x_is) d;
                  }
            ]

        lives : ((k : Handle) → element_at new k ≡ option_map (λ v. cond (same k h) (change e) v) (element_at old k)) → (k : Handle) → IsNode old k → IsNode new k
        lives values k live =
            let found = value_of_node (node_at old k) live in
            node_of_value (node_at new k) (cond (same k h) (change e) found.0) (values k ∙ ap (option_map (λ v. cond (same k h) (change e) v)) found.1)

-- a new element, under the next number
pub indexed-added : (numbers after : List Numbered) (old new : Tree Element) (next more : ℕ) (h : Handle) (e : Element) → IsIndexed numbers old next
    → element_at new h ≡ Some e → ((k : Handle) → k ≢ h → element_at new k ≡ element_at old k) → element_at old h ≡ None
    → made_count new ≡ made_count old + 1 → e.number ≡ next → AreDeclared e.widget e.fields
    → after ≡ numbers ++ (record { number = next; at = h }) ∷ [] → more ≡ next + 1
    → IsIndexed after new more
indexed-added numbers after old new next more h e is found others absent made number typed pushed is_more =
    let index : (n : ℕ) → handle_of after n ≡ cond (eqb next n) (Some h) (handle_of numbers n) = λ n. ap (λ xs. handle_of xs n) pushed ∙ handle-pushed 1 next numbers h n is.rises in
    record {
      rises = subst (λ m. Rises 1 m after) (sym is_more) (subst (Rises 1 (next + 1)) (sym pushed) (rises-pushed 1 next numbers h is.rises));
      to_node = λ n k there. elim (cases_eq next n) [
        | inl here ↦
            let one : Some h ≡ Some k = ap (λ b. cond b (Some h) (handle_of numbers n)) (sym (eq-eqb next n here)) ∙ sym (index n) ∙ there in
            let is_k : k ≡ h = (cc) in
            ap (number_at new) is_k ∙ number_here (element_at new h) e found ∙ ap Some (number ∙ here)
        | inr apart ↦
            let was : handle_of numbers n ≡ Some k = ap (λ b. cond b (Some h) (handle_of numbers n)) (sym (ne_eqb next n apart)) ∙ sym (index n) ∙ there in
            let before = is.to_node n k was in
            let other : k ≢ h = λ is_h. absurd (let none : number_at old k ≡ None = ap (number_at old) is_h ∙ ap (option_map (λ x. x.number)) absent in let both = sym none ∙ before in cc) in
            ap (option_map (λ x. x.number)) (others k other) ∙ before
      ];
      to_index = λ n k there. elim (cases_same k h) [
        | inl is_h ↦
            let has : Some e.number ≡ Some n = sym (number_here (element_at new h) e found) ∙ ap (number_at new) (sym is_h) ∙ there in
            let is_n : next ≡ n = sym number ∙ (cc) in
            index n ∙ ap (λ b. cond b (Some h) (handle_of numbers n)) (eq-eqb next n is_n) ∙ ap Some (sym is_h)
        | inr other ↦
            let before : number_at old k ≡ Some n = sym (ap (option_map (λ x. x.number)) (others k other)) ∙ there in
            let was = some_number (element_at old k) n before in
            let few = is.made k was.0 was.1 in
            let apart : next ≢ n = λ e. absurd (omega (arith, few.last, is.following, was.2, e)) in
            index n ∙ ap (λ b. cond b (Some h) (handle_of numbers n)) (ne_eqb next n apart) ∙ is.to_index n k before
      ];
      made = λ k x there. elim (cases_same k h) [
        | inl is_h ↦
            let one : Some e ≡ Some x = sym found ∙ ap (element_at new) (sym is_h) ∙ there in
            let is_x : e ≡ x = (cc) in
            subst (IsMade (made_count new)) is_x (record {
              first = omega (arith, number, is.following);
              last = omega (arith, number, is.following, made);
              typed = typed;
            })
        | inr other ↦
            let was = is.made k x (sym (others k other) ∙ there) in
            record { first = was.first; last = omega (arith, was.last, made); typed = was.typed }
      ];
      following = omega (arith, is_more, is.following, made);
    }

-- a tree from which a node was removed, or nothing
pub indexed-removed : (numbers after : List Numbered) (old new : Tree Element) (next n : ℕ) (h : Handle) → IsIndexed numbers old next
    → (IsNode old h → RemovesBelow old new h n) → ((IsNode old h → ⊥) → (n ≡ 0) × (new ≡ old))
    → ((k : Handle) → RemovesBelow old new h n → (In k (subtree_at old h) → ⊥) → element_at new k ≡ element_at old k)
    → after ≡ live_ones new numbers → IsIndexed after new next
indexed-removed numbers after old new next n h is removes absent values index = by_node (node_at old h) refl
  where
    by_node : (o : Option (TreeNode Element)) → node_at old h ≡ o → IsIndexed after new next
    by_node None e =
        let dead : IsNode old h → ⊥ = λ live. absurd (let none = subst IsSome e live in cc) in
        let same_tree : new ≡ old = (absent dead).1 in
        indexed-live numbers after old new next is (λ k x at. record { was = x; at = ap (λ t. element_at t k) (sym same_tree) ∙ at; number = refl; typed = λ d. d }) (ap made_count same_tree) index
    by_node (Some m) e =
        let live : IsNode old h = subst IsSome (sym e) refl in
        let gone = removes live in
        indexed-live numbers after old new next is
        (λ k x at. record {
          was = x;
          at = sym (values k gone (λ among. absurd (let none : element_at new k ≡ None = ap (option_map (λ (y : TreeNode Element). y.value)) (gone.gone k among) in let both = sym none ∙ at in cc))) ∙ at;
          number = refl;
          typed = λ d. d;
        })
        gone.inserted index

pub indexed-dropped : (numbers after : List Numbered) (old new : Tree Element) (next n : ℕ) → IsIndexed numbers old next → DropsInactive old new n
    → after ≡ live_ones new numbers → IsIndexed after new next
indexed-dropped numbers after old new next n is drops index =
    indexed-live numbers after old new next is
    (λ k x at. record {
      was = x;
      at = ap (option_map (λ (y : TreeNode Element). y.value)) (sym (drops.others k (node_of_value (node_at new k) x at))) ∙ at;
      number = refl;
      typed = λ d. d;
    })
    drops.inserted index

-- edits that keep all values, or fail and change nothing
pub record KeepsAll (old new : Tree Element) : Type 0 where
  pub values : (k : Handle) → element_at new k ≡ element_at old k
  pub made : made_count new ≡ made_count old

pub kept_by : {P : Type 0} (r : Result (Unit {0}) AllocError) (old new : Tree Element) → OnOk r P → OnErr r (new ≡ old) → (P → KeepsAll old new) → KeepsAll old new
kept_by (Ok x) old new ok err keeps = keeps ok
kept_by (Err e) old new ok err keeps = record { values = λ k. ap (λ t. element_at t k) err; made = ap made_count err }

pub indexed-kept : (numbers : List Numbered) (old new : Tree Element) (next : ℕ) → IsIndexed numbers old next → KeepsAll old new → IsIndexed numbers new next
indexed-kept numbers old new next is keeps =
    indexed-same numbers old new next is (stay_by_values old new keeps.values) (live_by_values old new keeps.values) keeps.made

-- a plan for the whole tree
committed_stays : (t : Tree Element) (k : Handle) (es : List (PlanEntry Renewal)) → FollowsIn t es → (o : Option (TreeNode Element)) → node_at t k ≡ o → (n : TreeNode Element)
    → committed renewed es k o ≡ Some n → Stays t k n.value
committed_stays t k [] follows o at n e = absurd (cc)
committed_stays t k (x ∷ xs) follows o at n e = by_head (same k x.at) refl o at e (committed_stays t k xs (All-tail (FollowsAt t) x xs follows) o at n)
  where
    first : FollowsAt t x
    first = All-head (FollowsAt t) x xs follows

    by_head : (b : Bool) → same k x.at ≡ b → (o : Option (TreeNode Element)) → node_at t k ≡ o → cond b (option_map (relinked renewed x) o) (committed renewed xs k o) ≡ Some n
        → (committed renewed xs k o ≡ Some n → Stays t k n.value) → Stays t k n.value
    by_head true equal None at e later = absurd (cc)
    by_head true equal (Some m) at e later =
        let is_n : n ≡ relinked renewed x m = (cc) in
        let here : element_at t k ≡ Some m.value = ap (option_map (λ (y : TreeNode Element). y.value)) at in
        let there : element_at t x.at ≡ Some m.value = ap (element_at t) (sym (same-true k x.at equal)) ∙ here in
        let value : n.value ≡ renewed x.update m.value = ap (λ y. y.value) is_n in
        record {
          was = m.value;
          at = here;
          number = ap (λ y. y.number) value;
          typed = λ d. subst (λ (y : Element). AreDeclared y.widget y.fields) (sym value) (d ∙ sym (ap (map (λ (f : List ℕ × Ty). f.1)) (first m.value there).fields));
        }
    by_head false apart o at e later = later e

pub indexed-committed : (numbers after : List Numbered) (old new : Tree Element) (next : ℕ) (es : List (PlanEntry Renewal)) → IsIndexed numbers old next
    → FollowsIn old es → Commits renewed es old.nodes new.nodes
    → after ≡ live_ones new numbers → IsIndexed after new next
indexed-committed numbers after old new next es is follows commits index =
    indexed-live numbers after old new next is (λ k x at. stays k x at) commits.inserted index
  where
    value_there : (k : Handle) (o : Option (TreeNode Element)) (x : Element) → option_map (λ (y : TreeNode Element). y.value) o ≡ Some x → (m : TreeNode Element) × (o ≡ Some m) × (m.value ≡ x)
    value_there k None x e = absurd (cc)
    value_there k (Some m) x e = (m, refl, (cc))

    stays : AllStay old new
    stays k x at =
        let m = value_there k (node_at new k) x at in
        subst (λ (y : Element). Stays old k y) {x = m.0.value} m.2 (committed_stays old k es follows (node_at old k) refl m.0 (sym (commits.nodes k) ∙ m.1))

-- a node whose subtree stands is live
pub live_from_stands : (t : Tree Element) (h : Handle) (s : Forest Element) → StandsAt t h s → IsNode t h
live_from_stands t h none at = absurd (let e = at.top in cc)
live_from_stands t h (tree k e below rest) at =
    let is_h : k ≡ h = (let e = at.top in cc) in
    subst (λ (x : Handle). IsNode t x) is_h (subst IsSome (sym at.stands.0) refl)

-- whether an element was made, by what came of it
pub not_made : {E F P : Type 0} (made : Result Handle E) (result : Result Handle F) (f : F) → IfOk made (λ h. result ≡ Ok h) → result ≡ Err f → OnErr made P → P
not_made (Ok h) result f is failed err = absurd (let both : Ok h ≡ Err f = sym is ∙ failed in cc)
not_made (Err e) result f is failed err = err

pub was_made : {E F : Type 0} (f : F) (made : Result Handle E) (result : Result Handle F) (h : Handle) → IfOk made (λ k. result ≡ Ok k) → OnErr made (result ≡ Err f) → result ≡ Ok h → made ≡ Ok h
was_made f (Ok k) result h is err ok = let both : Ok k ≡ Ok h = sym is ∙ ok in let same_handle : k ≡ h = (cc) in ap Ok same_handle
was_made f (Err e) result h is err ok = absurd (let both : Err f ≡ Ok h = sym err ∙ ok in cc)

pub if_ok : {E : Type 0} (made : Result Handle E) (h : Handle) (P : Handle → Type 0) → made ≡ Ok h → IfOk made P → P h
if_ok (Ok k) h P is holds = let same_handle : k ≡ h = (cc) in subst P same_handle holds
if_ok (Err e) h P is holds = absurd (cc)
