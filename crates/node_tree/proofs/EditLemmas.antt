-- Lemmas on what the steps of an edit do to the nodes.
use Rattle.std.proofs.Common.{◌≡◌, ◌≢◌, ℕ, ◌+◌, ◌≤◌, not, cond, List, [], ◌∷◌, ◌++◌, length, take, ◌-◌, insert, Option, Some, None, IfSome, IfNone, Result, Ok, Err, IfOk, OnOk, OnErr, option_map, refl, sym, ap, ◌∙◌, inl, inr, arith, length-append}
use Rattle.std.proofs.lemmas.List.{append-nil}
use Rattle.std.proofs.lemmas.List.Sums.{sum_by-append}
use Rattle.std.proofs.lemmas.List.Elements.{filter-append}
use Rattle.std.proofs.Math.Seq.{take-append_seam}
use Rattle.fx_handles.specs.declared.Handle.{Handle}
use Rattle.fx_handles.specs.Handle.{same, times}
use Rattle.fx_handles.specs.Arena.{Arena, get, IsLive, with_value, Inserts, Removes}
use Rattle.fx_handles.specs.HandleLaws.{same_self, same-eq, same-ne, cases_same, times_here, times_there}
use Rattle.fx_handles.specs.ArenaLaws.{some_of, written, written_back}
use Rattle.node_tree.specs.Forest.{without_child, with_child, TreeNode, others_than}
use Rattle.node_tree.specs.Tree.{parent_of}
use Rattle.node_tree.specs.Edits.{KeepsHandles, HasOneParent, Adds, Takes, Hooks, Lifts, root_without}
use Rattle.node_tree.proofs.ForestLemmas.{same_Some, same_node, is_zero}
use Rattle.node_tree.proofs.TreeLemmas.{is_node}

-- a list in which h doesn't stand has nothing to lose
pub others_absent : (h : Handle) (hs : List Handle) → times h hs ≡ 0 → others_than h hs ≡ hs
others_absent h [] absent = refl
others_absent h (k ∷ hs) absent =
    elim (cases_same k h) [
      | inl e ↦ absurd (let here : times h (k ∷ hs) ≡ times h (h ∷ hs) = ap (λ x. times h (x ∷ hs)) e in omega (arith, times_here h hs))
      | inr ne ↦ rw (same-ne k h ne) (ap (λ xs. k ∷ xs) (others_absent h hs (omega (arith, times_there h k hs ne))))
    ]

-- facts of a result, one made from another
pub both_ok : {A E : Type 0} (r : Result A E) (P Q R : A → Type 0) → IfOk r P → IfOk r Q → ((x : A) → P x → Q x → R x) → IfOk r R
both_ok (Ok x) P Q R p q make = make x p q
both_ok (Err e) P Q R p q make = tt

pub on_err_then : {A E : Type 0} (r : Result A E) (P Q : Type 0) → OnErr r P → (P → Q) → OnErr r Q
on_err_then (Ok x) P Q p make = tt
on_err_then (Err e) P Q p make = make p

pub on_ok_then : {A E : Type 0} (r : Result A E) (P Q : Type 0) → OnOk r P → (P → Q) → OnOk r Q
on_ok_then (Ok x) P Q p make = make p
on_ok_then (Err e) P Q p make = tt

pub on_ok_both : {A E : Type 0} (r : Result A E) (P Q R : Type 0) → OnOk r P → OnOk r Q → (P → Q → R) → OnOk r R
on_ok_both (Ok x) P Q R p q make = make p q
on_ok_both (Err e) P Q R p q make = tt

pub both : {A B : Type 0} → A → B → A × B
both a b = (a, b)

-- the root after h was taken out of its place, and after nothing was
pub root_without_here : (h : Handle) (root : Option Handle) → root ≡ Some h → root_without h root ≡ None
root_without_here h root e = ap (root_without h) e ∙ ap (λ b. cond b None (Some h)) (same_self h)

pub root_without_other : (h : Handle) (root : Option Handle) → root ≢ Some h → root_without h root ≡ root
root_without_other h None ne = refl
root_without_other h (Some k) ne = ap (λ b. cond b None (Some k)) (same-ne k h (λ e. ne (ap Some e)))

pub if_some_at : {A : Type 0} (o : Option A) (x : A) (P : A → Type 0) → o ≡ Some x → IfSome o P → P x
if_some_at o x P e p = rw e at p

pub if_none_from : {A : Type 0} (o : Option A) (P : Type 0) → ((x : A) → o ≡ Some x → ⊥) → IfNone o P → P
if_none_from None P not_some p = p
if_none_from (Some x) P not_some p = absurd (not_some x refl)

pub on_ok_three : {A E : Type 0} (r : Result A E) (P Q R S : Type 0) → OnOk r P → OnOk r Q → OnOk r R → (P → Q → R → S) → OnOk r S
on_ok_three (Ok x) P Q R S p q s make = make p q s
on_ok_three (Err e) P Q R S p q s make = tt

pub err_two : {A E : Type 0} (r : Result A E) (P Q R : Type 0) → OnErr r (P × Q) → (P → Q → R) → OnErr r R
err_two (Ok x) P Q R p make = tt
err_two (Err e) P Q R p make = make p.0 p.1

pub err_three : {A E : Type 0} (r : Result A E) (P Q R S : Type 0) → OnErr r (P × Q × R) → (P → Q → R → S) → OnErr r S
err_three (Ok x) P Q R S p make = tt
err_three (Err e) P Q R S p make = make p.0 p.1 p.2

pub on_ok_always : {A E : Type 0} (r : Result A E) (P : Type 0) → P → OnOk r P
on_ok_always (Ok x) P p = p
on_ok_always (Err e) P p = tt

pub if_ok_then : {A E : Type 0} (r : Result A E) (P Q : A → Type 0) → IfOk r P → ((x : A) → P x → Q x) → IfOk r Q
if_ok_then (Ok x) P Q p make = make x p
if_ok_then (Err e) P Q p make = tt

-- a list that ends with h, and has it once
pub others_last : (h : Handle) (front hs : List Handle) → hs ≡ front ++ h ∷ [] → times h hs ≤ 1 → others_than h hs ≡ front
others_last h front hs e once =
    let apart : times h front + times h (h ∷ []) ≤ 1 = rw (sum_by-append (λ k. cond {A = ℕ} (same k h) 1 0) front (h ∷ [])) at (rw e at once) in
    let absent : times h front ≡ 0 = omega (arith, times_here h []) in
    rw e (filter-append (λ k. not (same k h)) front (h ∷ []) ∙ ap (λ xs. xs ++ others_than h (h ∷ [])) (others_absent h front absent)
    ∙ ap (λ b. front ++ cond (not b) (h ∷ []) []) (same_self h) ∙ append-nil front)

pub take_front : (h : Handle) (front hs : List Handle) → hs ≡ front ++ h ∷ [] → take (length hs - 1) hs ≡ front
take_front h front hs e =
    let n : length (front ++ h ∷ []) - 1 ≡ length front = omega (arith, length-append front (h ∷ [])) in
    rw (e, n) (take-append_seam front (h ∷ []))

module _ {X : Type 0} where
  -- a live value stays where another is inserted, or nothing
  pub stays_live : {E : Type 0} (r : Result Handle E) (b c : Arena X) (p : Handle) (m x : X) (Q : Type 0) → IfOk r (λ h. Inserts b c h x) → OnErr r ((c ≡ b) × Q) → get b p ≡ Some m → get c p ≡ Some m
  stays_live (Ok h) b c p m x Q inserts err live =
      inserts.others p (λ e. absurd (let dead : get b p ≡ None = ap (get b) e ∙ inserts.was_absent in cc)) ∙ live
  stays_live (Err e) b c p m x Q inserts err live = ap (λ a. get a p) err.0 ∙ live

  -- one value of an arena is written
  pub get-with_value_same : (a : Arena X) (h : Handle) (was v : X) → get a h ≡ Some was → get (with_value a h v) h ≡ Some v
  get-with_value_same a h was v live = (written a h v (is_node (get a h) was live)).found

  pub get-with_value_other : (a : Arena X) (h : Handle) (was v : X) (k : Handle) → get a h ≡ Some was → k ≢ h → get (with_value a h v) k ≡ get a k
  get-with_value_other a h was v k live ne = (written a h v (is_node (get a h) was live)).others k ne

  pub keeps-with_value : (a : Arena X) (h : Handle) (was v : X) → get a h ≡ Some was → KeepsHandles a (with_value a h v)
  keeps-with_value a h was v live =
      let w = written a h v (is_node (get a h) was live) in
      record { generations = w.generations; spent = w.spent; used = w.used; retired = w.retired; generation_sum = w.generation_sum; inserted = w.inserted }

  pub keeps_self : (a : Arena X) → KeepsHandles a a
  keeps_self a = record { generations = λ i. refl; spent = λ k s. s; used = refl; retired = refl; generation_sum = refl; inserted = refl }

  pub keeps_then : (a b c : Arena X) → KeepsHandles a b → KeepsHandles b c → KeepsHandles a c
  keeps_then a b c first second =
      record {
        generations = λ i. second.generations i ∙ first.generations i;
        spent = λ k s. second.spent k (first.spent k s);
        used = second.used ∙ first.used;
        retired = second.retired ∙ first.retired;
        generation_sum = second.generation_sum ∙ first.generation_sum;
        inserted = second.inserted ∙ first.inserted;
      }

module _ {T : Type 0} where
  -- the node at k, where h is put below p
  pub with_child_other : (p : Handle) (i : ℕ) (h k : Handle) (o : Option (TreeNode T)) → k ≢ p → option_map (with_child (Some p) i h k) o ≡ o
  with_child_other p i h k None ne = refl
  with_child_other p i h k (Some n) ne = ap Some (ap (λ b. cond b (record n { children = insert n.children i h }) n) (same-ne k p ne))

  pub with_child_here : (p : Handle) (i : ℕ) (h k : Handle) (n : TreeNode T) → k ≡ p → with_child (Some p) i h k n ≡ record n { children = insert n.children i h }
  with_child_here p i h k n e = ap (λ b. cond b (record n { children = insert n.children i h }) n) (same-eq k p e)

  -- a node is put below p: its list is taken out, the node is inserted, and the longer list is put back
  pub adds_below : (a b c d : Arena (TreeNode T)) (p h : Handle) (n m : TreeNode T) (i : ℕ) (value : T) (start list longer : List Handle)
      → get a p ≡ Some n
      → b ≡ with_value a p (record n { children = start })
      → list ≡ n.children
      → Inserts b c h (record { parent = Some p; children = []; value = value })
      → longer ≡ insert list i h
      → get c p ≡ Some m
      → d ≡ with_value c p (record m { children = longer })
      → Adds a d (Some p) i h value
  adds_below a b c d p h n m i value start list longer live out is_list inserted is_longer here back =
      let keeps_out = keeps-with_value a p n (record n { children = start }) live in
      let keeps_back = keeps-with_value c p m (record m { children = longer }) here in
      let in_b : get b p ≡ Some (record n { children = start }) = ap (λ x. get x p) out ∙ get-with_value_same a p n (record n { children = start }) live in
      let apart : p ≢ h = λ e. absurd (let dead : get b p ≡ None = ap (get b) e ∙ inserted.was_absent in cc) in
      let m_is : m ≡ record n { children = start } = same_Some (sym here ∙ inserted.others p apart ∙ in_b) in
      let other_in_b : (k : Handle) → k ≢ p → get b k ≡ get a k = λ k ne. ap (λ x. get x k) out ∙ get-with_value_other a p n (record n { children = start }) k live ne in
      let other_in_d : (k : Handle) → k ≢ p → get d k ≡ get c k = λ k ne. ap (λ x. get x k) back ∙ get-with_value_other c p m (record m { children = longer }) k here ne in
      let p_in_d : get d p ≡ Some (record n { children = insert n.children i h }) = ap (λ x. get x p) back ∙ get-with_value_same c p m (record m { children = longer }) here ∙ ap Some (ap (λ (x : TreeNode T). record x { children = longer }) m_is ∙ ap (λ xs. record n { children = xs }) (is_longer ∙ ap (λ xs. insert xs i h) is_list)) in
      let kb : KeepsHandles a b = rw out keeps_out in
      let kd : KeepsHandles c d = rw back keeps_back in
      record {
        was_absent = sym (other_in_b h (λ e. apart (sym e))) ∙ inserted.was_absent;
        was_not_spent = inserted.was_not_spent ∙ kb.generations h.index;
        found = other_in_d h (λ e. apart (sym e)) ∙ inserted.found;
        others = λ k ne. elim (cases_same k p) [
          | inl e ↦ ap (get d) e ∙ p_in_d ∙ sym (ap (option_map (with_child (Some p) i h k)) (ap (get a) e ∙ live) ∙ ap Some (with_child_here p i h k n e))
          | inr other ↦ other_in_d k other ∙ inserted.others k ne ∙ other_in_b k other ∙ sym (with_child_other p i h k (get a k) other)
        ];
        generations = λ x. kd.generations x ∙ inserted.generations x ∙ kb.generations x;
        spent = λ k s. kd.spent k (inserted.spent k (kb.spent k s));
        used = omega (arith, kd.used, inserted.used, kb.used);
        retired = omega (arith, kd.retired, inserted.retired, kb.retired);
        generation_sum = omega (arith, kd.generation_sum, inserted.generation_sum, kb.generation_sum);
        inserted = omega (arith, kd.inserted, inserted.inserted, kb.inserted);
      }

  -- a failed attempt changes nothing
  pub swapped_back : (a b c d : Arena (TreeNode T)) (p : Handle) (n : TreeNode T) (start list longer : List Handle)
      → get a p ≡ Some n
      → b ≡ with_value a p (record n { children = start })
      → list ≡ n.children
      → c ≡ b
      → longer ≡ list
      → d ≡ with_value c p (record n { children = longer })
      → d ≡ a
  swapped_back a b c d p n start list longer live out is_list same_nodes same_list back =
      back ∙ ap (λ x. with_value x p (record n { children = longer })) (same_nodes ∙ out)
      ∙ ap (λ xs. with_value (with_value a p (record n { children = start })) p (record n { children = xs })) (same_list ∙ is_list)
      ∙ written_back a p n (record n { children = start }) live

  -- a node is taken out of the list of its parent, or has none
  pub unhooks : (a b : Arena (TreeNode T)) (h from : Handle) → HasOneParent a h → parent_of (get a h) ≡ Some from
      → ((n : TreeNode T) → get a from ≡ Some n → b ≡ with_value a from (without_child h n))
      → (get a from ≡ None → b ≡ a)
      → ((k : Handle) → get b k ≡ option_map (without_child h) (get a k)) × KeepsHandles a b
  unhooks a b h from one is_from changed kept = by_node (get a from) refl
    where
      same_without : (k : Handle) → k ≢ from → get a k ≡ option_map (without_child h) (get a k)
      same_without k ne = by_k (get a k) refl
        where
          by_k : (o : Option (TreeNode T)) → get a k ≡ o → o ≡ option_map (without_child h) o
          by_k None e = refl
          by_k (Some n) e = elim (is_zero (times h n.children)) [
            | inl absent ↦ sym (ap Some (ap (λ xs. record n { children = xs }) (others_absent h n.children absent)))
            | inr there ↦ absurd (ne (same_Some (sym (one.only k n e there) ∙ is_from)))
          ]

      by_node : (o : Option (TreeNode T)) → get a from ≡ o → ((k : Handle) → get b k ≡ option_map (without_child h) (get a k)) × KeepsHandles a b
      by_node None e = (
        λ k. ap (λ x. get x k) (kept e) ∙ elim (cases_same k from) [
          | inl is_k ↦ ap (get a) is_k ∙ e ∙ sym (ap (option_map (without_child h)) (ap (get a) is_k ∙ e))
          | inr ne ↦ same_without k ne
        ],
        rw (kept e) (keeps_self a),
      )
      by_node (Some n) e = (
        λ k. ap (λ x. get x k) (changed n e) ∙ elim (cases_same k from) [
          | inl is_k ↦ ap (get (with_value a from (without_child h n))) is_k ∙ get-with_value_same a from n (without_child h n) e ∙ sym (ap (option_map (without_child h)) (ap (get a) is_k ∙ e))
          | inr ne ↦ get-with_value_other a from n (without_child h n) k e ne ∙ same_without k ne
        ],
        rw (changed n e) (keeps-with_value a from n (without_child h n) e),
      )

  pub unhooks_nothing : (a : Arena (TreeNode T)) (h : Handle) → HasOneParent a h → parent_of (get a h) ≡ None
      → (k : Handle) → get a k ≡ option_map (without_child h) (get a k)
  unhooks_nothing a h one is_none k = by_k (get a k) refl
    where
      by_k : (o : Option (TreeNode T)) → get a k ≡ o → o ≡ option_map (without_child h) o
      by_k None e = refl
      by_k (Some n) e = elim (is_zero (times h n.children)) [
        | inl absent ↦ sym (ap Some (ap (λ xs. record n { children = xs }) (others_absent h n.children absent)))
        | inr there ↦ absurd (let has = one.only k n e there in cc)
      ]

  -- a node's own list doesn't have it
  pub without_own : (a : Arena (TreeNode T)) (h : Handle) (n : TreeNode T) → HasOneParent a h → get a h ≡ Some n → without_child h n ≡ n
  without_own a h n one is = elim (is_zero (times h n.children)) [
    | inl absent ↦ ap (λ xs. record n { children = xs }) (others_absent h n.children absent)
    | inr there ↦ absurd (one.not_own (one.only h n is there))
  ]

  -- a node is taken out of each list, and then gets its parent
  pub lifts : (a b c : Arena (TreeNode T)) (h : Handle) (q : Option Handle) → IsLive a h → HasOneParent a h
      → ((k : Handle) → get b k ≡ option_map (without_child h) (get a k))
      → KeepsHandles a b
      → ((m : TreeNode T) → get b h ≡ Some m → c ≡ with_value b h (record m { parent = q }))
      → Lifts a c h q
  lifts a b c h q live one nodes keeps sets =
      let found = some_of (get a h) live in
      let in_b : get b h ≡ Some (without_child h found.0) = nodes h ∙ ap (option_map (without_child h)) found.1 in
      let own = without_own a h found.0 one found.1 in
      let is = sets (without_child h found.0) in_b in
      record {
        node = λ n e. ap (λ x. get x h) is ∙ get-with_value_same b h (without_child h found.0) (record (without_child h found.0) { parent = q }) in_b ∙ ap (λ (x : TreeNode T). Some (record x { parent = q })) (own ∙ same_Some (sym found.1 ∙ e));
        others = λ k ne. ap (λ x. get x k) is ∙ get-with_value_other b h (without_child h found.0) (record (without_child h found.0) { parent = q }) k in_b ne ∙ nodes k;
        handles = keeps_then a b c keeps (rw is (keeps-with_value b h (without_child h found.0) (record (without_child h found.0) { parent = q }) in_b));
      }

  -- a node without a parent stands in no list, so it is lifted already
  pub lifted_already : (a : Arena (TreeNode T)) (h : Handle) → HasOneParent a h → parent_of (get a h) ≡ None → Lifts a a h None
  lifted_already a h one is_none =
      record {
        node = λ n e. e ∙ ap (λ q. Some (record n { parent = q })) (ap parent_of (sym e) ∙ is_none);
        others = λ k ne. unhooks_nothing a h one is_none k;
        handles = keeps_self a;
      }

  -- while the list of p is out, h has still one parent
  pub one_parent_out : (a b : Arena (TreeNode T)) (p h : Handle) (n : TreeNode T) (start : List Handle) → HasOneParent a h → h ≢ p → get a p ≡ Some n
      → b ≡ with_value a p (record n { children = start }) → start ≡ [] → HasOneParent b h
  one_parent_out a b p h n start one apart live out empty =
      let same_at : (k : Handle) → k ≢ p → get b k ≡ get a k = λ k ne. ap (λ x. get x k) out ∙ get-with_value_other a p n (record n { children = start }) k live ne in
      let at_p : get b p ≡ Some (record n { children = start }) = ap (λ x. get x p) out ∙ get-with_value_same a p n (record n { children = start }) live in
      record {
        only = λ k m is among. elim (cases_same k p) [
          | inl e ↦ absurd (let list : m.children ≡ start = ap (λ (x : TreeNode T). x.children) (same_Some (sym is ∙ ap (get b) e ∙ at_p)) in let none : times h m.children ≡ 0 = ap (times h) (list ∙ empty) in omega arith)
          | inr ne ↦ ap parent_of (same_at h apart) ∙ one.only k m (sym (same_at k ne) ∙ is) among
        ];
        once = λ k m is. elim (cases_same k p) [
          | inl e ↦ (let list : m.children ≡ start = ap (λ (x : TreeNode T). x.children) (same_Some (sym is ∙ ap (get b) e ∙ at_p)) in let none : times h m.children ≡ 0 = ap (times h) (list ∙ empty) in omega arith)
          | inr ne ↦ one.once k m (sym (same_at k ne) ∙ is)
        ];
        not_own = λ e. one.not_own (ap parent_of (sym (same_at h apart)) ∙ e);
      }

  -- a live node stays live where another is lifted, or nothing changes
  pub stays_lifted : {A E : Type 0} (r : Result A E) (b c : Arena (TreeNode T)) (p h : Handle) (q : Option Handle) (m : TreeNode T) → OnOk r (Lifts b c h q) → OnErr r (c ≡ b) → p ≢ h → get b p ≡ Some m → IsLive c p
  stays_lifted (Ok x) b c p h q m lifted err ne live = is_node (get c p) (without_child h m) (lifted.others p ne ∙ ap (option_map (without_child h)) live)
  stays_lifted (Err e) b c p h q m lifted err ne live = is_node (get c p) m (ap (λ a. get a p) err ∙ live)

  -- a node becomes child number i of p: p's list is taken out, the node is lifted, and p's list is put
  -- back with it
  pub hooks_below : (a b c d : Arena (TreeNode T)) (p h : Handle) (n : TreeNode T) (i : ℕ) (start list longer : List Handle)
      → get a p ≡ Some n
      → h ≢ p
      → b ≡ with_value a p (record n { children = start })
      → list ≡ n.children
      → Lifts b c h (Some p)
      → longer ≡ insert (others_than h list) i h
      → ((m : TreeNode T) → get c p ≡ Some m → d ≡ with_value c p (record m { children = longer }))
      → Hooks a d h (Some p) i
  hooks_below a b c d p h n i start list longer live apart out is_list lifted is_longer back =
      let at_p : get b p ≡ Some (record n { children = start }) = ap (λ x. get x p) out ∙ get-with_value_same a p n (record n { children = start }) live in
      let same_at : (k : Handle) → k ≢ p → get b k ≡ get a k = λ k ne. ap (λ x. get x k) out ∙ get-with_value_other a p n (record n { children = start }) k live ne in
      let here : get c p ≡ Some (record n { children = others_than h start }) = lifted.others p (λ e. apart (sym e)) ∙ ap (option_map (without_child h)) at_p in
      let is = back (record n { children = others_than h start }) here in
      let other_in_d : (k : Handle) → k ≢ p → get d k ≡ get c k = λ k ne. ap (λ x. get x k) is ∙ get-with_value_other c p (record n { children = others_than h start }) (record n { children = longer }) k here ne in
      let p_in_d : get d p ≡ Some (record n { children = insert (others_than h n.children) i h }) = ap (λ x. get x p) is ∙ get-with_value_same c p (record n { children = others_than h start }) (record n { children = longer }) here ∙ ap (λ xs. Some (record n { children = xs })) (is_longer ∙ ap (λ xs. insert (others_than h xs) i h) is_list) in
      record {
        node = λ m e. other_in_d h apart ∙ lifted.node m (same_at h apart ∙ e);
        others = λ k ne. elim (cases_same k p) [
          | inl e ↦ ap (get d) e ∙ p_in_d ∙ sym (ap (λ o. option_map (with_child (Some p) i h k) (option_map (without_child h) o)) (ap (get a) e ∙ live) ∙ ap Some (with_child_here p i h k (without_child h n) e))
          | inr other ↦ other_in_d k other ∙ lifted.others k ne ∙ ap (option_map (without_child h)) (same_at k other) ∙ sym (with_child_other p i h k (option_map (without_child h) (get a k)) other)
        ];
        handles = keeps_then a b d (rw out (keeps-with_value a p n (record n { children = start }) live)) (keeps_then b c d lifted.handles (rw is (keeps-with_value c p (record n { children = others_than h start }) (record n { children = longer }) here)));
      }

  -- an inactive top that becomes the root changes no node
  pub hooks_root : (a : Arena (TreeNode T)) (h : Handle) (i : ℕ) → HasOneParent a h → parent_of (get a h) ≡ None → Hooks a a h None i
  hooks_root a h i one is_none =
      let lifted = lifted_already a h one is_none in
      record {
        node = lifted.node;
        others = λ k ne. lifted.others k ne ∙ sym (same_node (option_map (without_child h) (get a k)));
        handles = keeps_self a;
      }

  -- a node is removed from the arena, and taken out of its parent's list
  pub takes : (a b c : Arena (TreeNode T)) (h : Handle) (n : TreeNode T) → HasOneParent a h → Removes a b h n
      → ((p : Handle) → parent_of (get a h) ≡ Some p → ((m : TreeNode T) → get b p ≡ Some m → c ≡ with_value b p (without_child h m)) × (get b p ≡ None → c ≡ b))
      → (parent_of (get a h) ≡ None → c ≡ b)
      → Takes a c h n.value
  takes a b c h n one removed with_parent without_parent = by_parent (parent_of (get a h)) refl
    where
      same_without : (k : Handle) (o : Option (TreeNode T)) → get a k ≡ o → parent_of (get a h) ≢ Some k → o ≡ option_map (without_child h) o
      same_without k None e ne = refl
      same_without k (Some m) e ne = elim (is_zero (times h m.children)) [
        | inl absent ↦ sym (ap Some (ap (λ xs. record m { children = xs }) (others_absent h m.children absent)))
        | inr there ↦ absurd (ne (one.only k m e there))
      ]

      made : KeepsHandles b c → get c h ≡ None → ((k : Handle) → k ≢ h → get c k ≡ option_map (without_child h) (get a k)) → Takes a c h n.value
      made keeps gone others =
          record {
            was = ap (option_map (λ (x : TreeNode T). x.value)) removed.was;
            absent = gone;
            others = others;
            now_spent = keeps.spent h removed.now_spent;
            spent = λ k s. keeps.spent k (removed.spent k s);
            raised = keeps.generations h.index ∙ removed.raised;
            generations = λ i ne. keeps.generations i ∙ removed.generations i ne;
            used = omega (arith, keeps.used, removed.used);
            retired = keeps.retired ∙ removed.retired;
            generation_sum = omega (arith, keeps.generation_sum, removed.generation_sum);
            inserted = omega (arith, keeps.inserted, removed.inserted);
          }

      by_node : (p : Handle) → parent_of (get a h) ≡ Some p → p ≢ h → (o : Option (TreeNode T)) → get b p ≡ o → Takes a c h n.value
      by_node p is_p apart None e =
          let is = (with_parent p is_p).1 e in
          made (rw is (keeps_self b)) (ap (λ x. get x h) is ∙ removed.absent)
          (λ k ne. ap (λ x. get x k) is ∙ removed.others k ne ∙ elim (cases_same k p) [
            | inl d ↦ let none_a : get a k ≡ None = sym (removed.others k ne) ∙ ap (get b) d ∙ e in none_a ∙ sym (ap (option_map (without_child h)) none_a)
            | inr other ↦ same_without k (get a k) refl (λ d. other (same_Some (sym d ∙ is_p)))
          ])
      by_node p is_p apart (Some m) e =
          let is = (with_parent p is_p).0 m e in
          made (rw is (keeps-with_value b p m (without_child h m) e)) (ap (λ x. get x h) is ∙ get-with_value_other b p m (without_child h m) h e (λ d. apart (sym d)) ∙ removed.absent)
          (λ k ne. ap (λ x. get x k) is ∙ elim (cases_same k p) [
            | inl d ↦ ap (get (with_value b p (without_child h m))) d ∙ get-with_value_same b p m (without_child h m) e ∙ sym (ap (option_map (without_child h)) (sym (removed.others k ne) ∙ ap (get b) d ∙ e))
            | inr other ↦ get-with_value_other b p m (without_child h m) k e other ∙ removed.others k ne ∙ same_without k (get a k) refl (λ d. other (same_Some (sym d ∙ is_p)))
          ])

      by_parent : (q : Option Handle) → parent_of (get a h) ≡ q → Takes a c h n.value
      by_parent None e =
          let is = without_parent e in
          made (rw is (keeps_self b)) (ap (λ x. get x h) is ∙ removed.absent)
          (λ k ne. ap (λ x. get x k) is ∙ removed.others k ne ∙ same_without k (get a k) refl (λ d. absurd (let both = sym e ∙ d in cc)))
      by_parent (Some p) e = by_node p e (λ d. one.not_own (e ∙ ap Some d)) (get b p) refl
