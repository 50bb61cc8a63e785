-- When registries name the elements of trees.
use Rattle.std.proofs.Common.{◌≡◌, ◌≢◌, ◌↔◌, ℕ, Bool, true, false, cond, List, [], ◌∷◌, Option, Some, None, IsSome, is_some, option_map, refl, sym, ap, ◌∙◌, subst, inl, inr, arith}
use Rattle.std.proofs.lemmas.List.Elements.{All-head, All-tail}
use Rattle.std.proofs.lemmas.Map.Entries.{option_filter}
use Rattle.fx_handles.specs.declared.Handle.{Handle}
use Rattle.fx_handles.specs.Handle.{same, Among}
use Rattle.fx_handles.specs.HandleLaws.{same-true, cases_same, times_here, times-cons}
use Rattle.fx_expr.specs.declared.values.Value.{Value}
use Rattle.fx_expr.specs.Value.{value_eq}
use Rattle.fx_expr.specs.ValueLaws.{value_eq-Decides}
use Rattle.widget_model.specs.Plain.{PlainWidget, key_of}
use Rattle.widget_model.specs.Update.{same_type}
use Rattle.node_tree.specs.Forest.{TreeNode, In}
use Rattle.node_tree.specs.Tree.{Tree, IsNode, node_at, subtree_at}
use Rattle.node_tree.specs.Edits.{KeepsOtherValues, Adds, RemovesBelow}
use Rattle.node_tree.specs.Plan.{PlanEntry, planned, relinked, committed, Commits}
use Rattle.element_tree.specs.Element.{Element, element_at}
use Rattle.element_tree.specs.Edits.{Changes}
use Rattle.element_tree.specs.Renewal.{Renewal, renewed, FollowsAt, FollowsIn}
use Rattle.global_keys.specs.declared.registry.Holder.{Holder}
use Rattle.global_keys.specs.declared.registry.Claim.TheVariants.{Fresh, Taken, Repeated}
use Rattle.global_keys.specs.Holders.{Registry, recorded, holder_of, new_holder, Notes}
use Rattle.global_keys.specs.Claims.{is_of_type, claim_of}
use Rattle.global_keys.proofs.Recorded.{filtered_live, filtered_dead, filtered_was, filtered_none, live_test, dead_test}
use Rattle.global_keys.specs.Named.{global_in, global_of, global_at, NamesExactly, NamesAll, NamesAmong}

same_value_of : {X : Type 0} (a b : X) → Some a ≡ Some b → a ≡ b
same_value_of a b e = cc

-- where each element has the global key that it had
pub kept_names : (r : Registry) (old new : Tree Element) → ((h : Handle) → global_at new h ≡ global_at old h) → NamesExactly r old → NamesExactly r new
kept_names r old new same names = record {
  to_element = λ k h e. same h ∙ names.to_element k h e;
  to_holder = λ k h e. names.to_holder k h (sym (same h) ∙ e);
}

written_key : (b : Bool) (w : Element) (o : Option (TreeNode Element)) → (b ≡ true → global_of (Some w) ≡ global_of (option_map (λ n. n.value) o))
    → global_of (option_map (λ (n : TreeNode Element). n.value) (option_map (λ (n : TreeNode Element). cond b (record n { value = w }) n) o)) ≡ global_of (option_map (λ (n : TreeNode Element). n.value) o)
written_key true w None same_key = refl
written_key true w (Some n) same_key = same_key refl
written_key false w None same_key = refl
written_key false w (Some n) same_key = refl

-- a change of one element that keeps its key
pub changed_keys : (old new : Tree Element) (h : Handle) (change : Element → Element) → Changes old new h change
    → ((e : Element) → element_at old h ≡ Some e → key_of (change e).widget ≡ key_of e.widget) → (x : Handle) → global_at new x ≡ global_at old x
changed_keys old new h change changes keeps x = by_element (element_at old h) refl
  where
    by_element : (o : Option Element) → element_at old h ≡ o → global_at new x ≡ global_at old x
    by_element None at = ap (λ t. global_at t x) (changes.dead at)
    by_element (Some e) at =
        ap (λ o. global_of (option_map (λ (n : TreeNode Element). n.value) o)) ((changes.live e at).writes.nodes x)
        ∙ written_key (same x h) (change e) (node_at old x) (λ equal.
        ap global_in (keeps e at) ∙ sym (ap global_of (ap (element_at old) (same-true x h equal) ∙ at)))

-- a new element
pub added_keys : (old new : Tree Element) (q : Option Handle) (i : ℕ) (h : Handle) (e : Element) → Adds old.nodes new.nodes q i h e → KeepsOtherValues old new h
    → global_in (key_of e.widget) ≡ None → (x : Handle) → global_at new x ≡ global_at old x
added_keys old new q i h e adds others no_key x = elim (cases_same x h) [
  | inl is_h ↦
      ap (global_at new) is_h
      ∙ ap (λ o. global_of (option_map (λ (n : TreeNode Element). n.value) o)) adds.found
      ∙ no_key
      ∙ sym (ap (global_at old) is_h ∙ ap (λ o. global_of (option_map (λ (n : TreeNode Element). n.value) o)) adds.was_absent)
  | inr apart ↦ ap global_of (others x apart)
]

-- a new element that was noted
pub noted_names : (r s : Registry) (old new : Tree Element) (q : Option Handle) (i : ℕ) (h : Handle) (e : Element) (k : Value) → Adds old.nodes new.nodes q i h e → KeepsOtherValues old new h
    → global_in (key_of e.widget) ≡ Some k → ((x : Handle) → global_at old x ≢ Some k) → Notes r s k h → NamesExactly r old → NamesExactly s new
noted_names r s old new q i h e k adds others key free notes names = record { to_element = to_element; to_holder = to_holder }
  where
    here : global_at new h ≡ Some k
    here = ap (λ o. global_of (option_map (λ (n : TreeNode Element). n.value) o)) adds.found ∙ key

    absent : global_at old h ≡ None
    absent = ap (λ o. global_of (option_map (λ (n : TreeNode Element). n.value) o)) adds.was_absent

    holder_by : (j : Value) (b : Bool) → value_eq j k ≡ b → holder_of s j ≡ cond b (Some h) (holder_of r j)
    holder_by j true equal = ap (option_map (λ (x : Holder). x.node)) (notes j ∙ ap (λ b. cond b (Some (new_holder h)) (recorded r j)) equal)
    holder_by j false apart = ap (option_map (λ (x : Holder). x.node)) (notes j ∙ ap (λ b. cond b (Some (new_holder h)) (recorded r j)) apart)

    to_element : (j : Value) (g : Handle) → holder_of s j ≡ Some g → global_at new g ≡ Some j
    to_element j g has = by_key (value_eq j k) refl
      where
        by_key : (b : Bool) → value_eq j k ≡ b → global_at new g ≡ Some j
        by_key true equal =
            let is_g = same_value_of h g (sym (holder_by j true equal) ∙ has) in
            ap (global_at new) (sym is_g) ∙ here ∙ ap Some (sym ((value_eq-Decides j k).0 equal))
        by_key false apart =
            let was = names.to_element j g (sym (holder_by j false apart) ∙ has) in
            let other : g ≢ h = λ is_h. absurd (let both = sym absent ∙ ap (global_at old) (sym is_h) ∙ was in cc) in
            ap global_of (others g other) ∙ was

    to_holder : (j : Value) (g : Handle) → global_at new g ≡ Some j → holder_of s j ≡ Some g
    to_holder j g has = elim (cases_same g h) [
      | inl is_h ↦
          let is_k = same_value_of j k (sym has ∙ ap (global_at new) is_h ∙ here) in
          holder_by j true ((value_eq-Decides j k).1 is_k) ∙ ap Some (sym is_h)
      | inr other ↦
          let was : global_at old g ≡ Some j = sym (ap global_of (others g other)) ∙ has in
          by_key was (value_eq j k) refl
    ]
      where
        by_key : global_at old g ≡ Some j → (b : Bool) → value_eq j k ≡ b → holder_of s j ≡ Some g
        by_key was true equal = absurd (free g (was ∙ ap Some ((value_eq-Decides j k).0 equal)))
        by_key was false apart = holder_by j false apart ∙ names.to_holder j g was

pub cover : (r : Registry) (t : Tree Element) → NamesExactly r t → NamesAll r t
cover r t names = record { to_element = λ k h e _. names.to_element k h e; to_holder = names.to_holder }

-- an element with a global key is live
keyed_live : (o : Option (TreeNode Element)) (k : Value) → global_of (option_map (λ n. n.value) o) ≡ Some k → IsSome o
keyed_live None k e = absurd (cc)
keyed_live (Some n) k e = refl

live_at : (t : Tree Element) (h : Handle) (k : Value) → global_at t h ≡ Some k → IsNode t h
live_at t h k e = keyed_live (node_at t h) k e

-- where the elements that are left have the global keys that they had
pub still_covered : (r : Registry) (old new : Tree Element) → ((h : Handle) → IsNode new h → (global_at new h ≡ global_at old h) × IsNode old h) → NamesAll r old → NamesAll r new
still_covered r old new same covers = record {
  to_element = λ k h e live. let was = same h live in was.0 ∙ covers.to_element k h e was.1;
  to_holder = λ k h e. covers.to_holder k h (sym (same h (live_at new h k e)).0 ∙ e);
}

value_live : (o : Option (TreeNode Element)) (m : Option (TreeNode Element)) → option_map (λ n. n.value) m ≡ option_map (λ n. n.value) o → IsSome m → IsSome o
value_live None None e some = some
value_live None (Some m) e some = absurd (cc)
value_live (Some n) m e some = refl

-- where they are as they were
pub left_as_they_were : (old new : Tree Element) → ((h : Handle) → IsNode new h → element_at new h ≡ element_at old h)
    → (h : Handle) → IsNode new h → (global_at new h ≡ global_at old h) × IsNode old h
left_as_they_were old new same h live = (ap global_of (same h live), value_live (node_at old h) (node_at new h) (same h live) live)

-- what is left after a removal
pub removed_left : (old new : Tree Element) (h : Handle) (n : ℕ) → RemovesBelow old new h n → ((k : Handle) → (In k (subtree_at old h) → ⊥) → element_at new k ≡ element_at old k)
    → (k : Handle) → IsNode new k → element_at new k ≡ element_at old k
removed_left old new h n removes others k live = others k (λ among. absurd (let gone = subst IsSome (removes.gone k among) live in cc))

-- what is left after a plan
record Left (t : Tree Element) (k : Handle) (es : List (PlanEntry Renewal)) (o m : Option (TreeNode Element)) : Type 0 where
  same_key : global_of (option_map (λ (n : TreeNode Element). n.value) m) ≡ global_of (option_map (λ (n : TreeNode Element). n.value) o)
  named : Among k (planned es)

committed_left : (t : Tree Element) (k : Handle) (es : List (PlanEntry Renewal)) → FollowsIn t es → (o : Option (TreeNode Element)) → node_at t k ≡ o → IsSome (committed renewed es k o) → Left t k es o (committed renewed es k o)
committed_left t k [] follows o at live = absurd (cc)
committed_left t k (x ∷ xs) follows o at live = by_head (same k x.at) refl o at live (committed_left t k xs (All-tail (FollowsAt t) x xs follows) o at)
  where
    by_head : (b : Bool) → same k x.at ≡ b → (o : Option (TreeNode Element)) → node_at t k ≡ o → IsSome (cond b (option_map (relinked renewed x) o) (committed renewed xs k o))
        → (IsSome (committed renewed xs k o) → Left t k xs o (committed renewed xs k o))
        → Left t k (x ∷ xs) o (cond b (option_map (relinked renewed x) o) (committed renewed xs k o))
    by_head true equal None at live later = absurd (cc)
    by_head true equal (Some m) at live later =
        let is_at : k ≡ x.at = same-true k x.at equal in
        let there : element_at t x.at ≡ Some m.value = ap (element_at t) (sym is_at) ∙ ap (option_map (λ (y : TreeNode Element). y.value)) at in
        let first : FollowsAt t x = All-head (FollowsAt t) x xs follows in
        record {
          same_key = ap global_in (sym (first m.value there).updates.key);
          named = subst (λ (h : Handle). Among h (planned (x ∷ xs))) (sym is_at) (omega (arith, times_here x.at (planned xs)));
        }
    by_head false apart o at live later = let rest = later live in record { same_key = rest.same_key; named = omega (arith, rest.named, times-cons k x.at (planned xs)) }

pub committed_covered : (r : Registry) (old new : Tree Element) (es : List (PlanEntry Renewal)) → FollowsIn old es → Commits renewed es old.nodes new.nodes → NamesAmong r old (planned es) → NamesAll r new
committed_covered r old new es follows commits names = record {
  to_element = λ k h has live. let was = left h live in key h was ∙ names.to_element k h has was.named;
  to_holder = λ k h has. let was = left h (live_at new h k has) in names.to_holder k h was.named (sym (key h was) ∙ has);
}
  where
    left : (h : Handle) → IsNode new h → Left old h es (node_at old h) (committed renewed es h (node_at old h))
    left h live = committed_left old h es follows (node_at old h) refl (subst IsSome (commits.nodes h) live)

    key : (h : Handle) → Left old h es (node_at old h) (committed renewed es h (node_at old h)) → global_at new h ≡ global_at old h
    key h was = ap (λ o. global_of (option_map (λ (n : TreeNode Element). n.value) o)) (commits.nodes h) ∙ was.same_key

pub dropped_names : (old new : Registry) (t : Tree Element)
    → ((k : Value) (h : Handle) → holder_of new k ≡ Some h → IsNode t h)
    → ((k : Value) (h : Handle) → holder_of new k ≡ Some h → holder_of old k ≡ Some h)
    → ((k : Value) (h : Handle) → holder_of old k ≡ Some h → IsNode t h → holder_of new k ≡ Some h)
    → NamesAll old t → NamesExactly new t
dropped_names old new t live before after covers = record {
  to_element = λ k h e. covers.to_element k h (before k h e) (live k h e);
  to_holder = λ k h e. after k h (covers.to_holder k h e) (live_at t h k e);
}

-- what is taken has the key and the type
taken_is : (t : Tree Element) (x : Holder) (w : PlainWidget) (h : Handle) → x.met ≡ false → (claim_of t (Some x) w ≡ Taken h) ↔ ((x.node ≡ h) × (is_of_type (element_at t h) w ≡ true))
taken_is t x w h unmet = by_type (is_of_type (element_at t x.node) w) refl
  where
    claim : claim_of t (Some x) w ≡ cond (is_of_type (element_at t x.node) w) (Taken x.node) Fresh
    claim = ap (λ b. cond b Repeated (cond (is_of_type (element_at t x.node) w) (Taken x.node) Fresh)) unmet

    by_type : (b : Bool) → is_of_type (element_at t x.node) w ≡ b → (claim_of t (Some x) w ≡ Taken h) ↔ ((x.node ≡ h) × (is_of_type (element_at t h) w ≡ true))
    by_type true holds =
        let taken : claim_of t (Some x) w ≡ Taken x.node = claim ∙ ap (λ b. cond b (Taken x.node) Fresh) holds in (
          λ e. let both : Taken x.node ≡ Taken h = sym taken ∙ e in let is_h : x.node ≡ h = cc in (is_h, ap (λ k. is_of_type (element_at t k) w) (sym is_h) ∙ holds),
          λ p. taken ∙ ap Taken p.0,
        )
    by_type false fails =
        let fresh : claim_of t (Some x) w ≡ Fresh = claim ∙ ap (λ b. cond b (Taken x.node) Fresh) fails in (
          λ e. absurd (let both : Fresh ≡ Taken h = sym fresh ∙ e in cc),
          λ p. absurd (let holds = ap (λ k. is_of_type (element_at t k) w) p.0 ∙ p.1 in let both : false ≡ true = sym fails ∙ holds in cc),
        )

pub takes : (r : Registry) (t : Tree Element) (k : Value) (w : PlainWidget) (h : Handle) → NamesExactly r t → ((x : Holder) → recorded r k ≡ Some x → x.met ≡ false)
    → (claim_of t (recorded r k) w ≡ Taken h) ↔ ((global_at t h ≡ Some k) × (is_of_type (element_at t h) w ≡ true))
takes r t k w h names unmet = by_holder (recorded r k) refl
  where
    by_holder : (o : Option Holder) → recorded r k ≡ o → (claim_of t o w ≡ Taken h) ↔ ((global_at t h ≡ Some k) × (is_of_type (element_at t h) w ≡ true))
    by_holder None e = (
      λ taken. absurd (let both : Fresh ≡ Taken h = taken in cc),
      λ p. absurd (let has = names.to_holder k h p.0 in let none = ap (option_map (λ (x : Holder). x.node)) e in let both = sym none ∙ has in cc),
    )
    by_holder (Some x) e =
        let means = taken_is t x w h (unmet x e) in
        let has : holder_of r k ≡ Some x.node = ap (option_map (λ (x : Holder). x.node)) e in (
          λ taken. let p = means.0 taken in (names.to_element k h (has ∙ ap Some p.0), p.1),
          λ p. let same : Some x.node ≡ Some h = sym has ∙ names.to_holder k h p.0 in let is_h : x.node ≡ h = cc in means.1 (is_h, p.1),
        )

-- a registry without the entries of dead elements
pub record Dropped (old new : Registry) (t : Tree Element) : Type 0 where
  pub live : (k : Value) (h : Handle) → holder_of old k ≡ Some h → IsNode t h → recorded new k ≡ recorded old k
  pub dead : (k : Value) (h : Handle) → holder_of old k ≡ Some h → (IsNode t h → ⊥) → recorded new k ≡ None
  pub absent : (k : Value) → recorded old k ≡ None → recorded new k ≡ None
  pub names : NamesAll old t → NamesExactly new t

pub dropped : (old new : Registry) (t : Tree Element) → ((k : Value) → recorded new k ≡ option_filter (λ (x : Holder). is_some (node_at t x.node)) (recorded old k)) → Dropped old new t
dropped old new t kept =
    let p : Holder → Bool = λ x. is_some (node_at t x.node) in
    record {
      live = λ k h has live. filtered_live p (recorded old k) (recorded new k) h (kept k) has (λ x same. live_test (node_at t) h x same live);
      dead = λ k h has dead. filtered_dead p (recorded old k) (recorded new k) h (kept k) has (λ x same. dead_test (node_at t) h x same dead);
      absent = λ k nothing. filtered_none p (recorded old k) (recorded new k) (kept k) nothing;
      names = dropped_names old new t
          (λ k h has. let was = filtered_was p (recorded old k) (recorded new k) h (kept k) has in ap (λ x. is_some (node_at t x)) (sym was.1.1) ∙ was.1.2)
          (λ k h has. (filtered_was p (recorded old k) (recorded new k) h (kept k) has).0)
          (λ k h has live. ap (option_map (λ (x : Holder). x.node)) (filtered_live p (recorded old k) (recorded new k) h (kept k) has (λ x same. live_test (node_at t) h x same live)) ∙ has);
    }

-- what a claim comes to, by what is recorded
pub claim_absent : (t : Tree Element) (o : Option Holder) (w : PlainWidget) → o ≡ None → Fresh ≡ claim_of t o w
claim_absent t o w nothing = sym (ap (λ x. claim_of t x w) nothing)

pub claim_met : (t : Tree Element) (o : Option Holder) (x : Holder) (w : PlainWidget) → o ≡ Some x → x.met ≡ true → Repeated ≡ claim_of t o w
claim_met t o x w is is_met =
    sym (ap (λ y. claim_of t y w) is ∙ ap (λ b. cond b Repeated (cond (is_of_type (element_at t x.node) w) (Taken x.node) Fresh)) is_met)

pub claim_other : (t : Tree Element) (o : Option Holder) (x : Holder) (w : PlainWidget) → o ≡ Some x → x.met ≡ false → is_of_type (element_at t x.node) w ≡ false → Fresh ≡ claim_of t o w
claim_other t o x w is not_met other =
    sym (ap (λ y. claim_of t y w) is
    ∙ ap (λ b. cond b Repeated (cond (is_of_type (element_at t x.node) w) (Taken x.node) Fresh)) not_met
    ∙ ap (λ b. cond b (Taken x.node) Fresh) other)

pub claim_taken : (t : Tree Element) (o : Option Holder) (x : Holder) (w : PlainWidget) → o ≡ Some x → x.met ≡ false → is_of_type (element_at t x.node) w ≡ true → Taken x.node ≡ claim_of t o w
claim_taken t o x w is not_met alike =
    sym (ap (λ y. claim_of t y w) is
    ∙ ap (λ b. cond b Repeated (cond (is_of_type (element_at t x.node) w) (Taken x.node) Fresh)) not_met
    ∙ ap (λ b. cond b (Taken x.node) Fresh) alike)

-- whether an element has a widget's type
pub type_there : (o : Option Element) (v w : PlainWidget) (b : Bool) → Some v ≡ option_map (λ (e : Element). e.widget) o → b ≡ same_type v w → b ≡ is_of_type o w
type_there None v w b e is = absurd (cc)
type_there (Some x) v w b e is = let same_widget : v ≡ x.widget = (cc) in is ∙ ap (λ u. same_type u w) same_widget

pub type_absent : (o : Option Element) (w : PlainWidget) → None ≡ option_map (λ (e : Element). e.widget) o → false ≡ is_of_type o w
type_absent None w e = refl
type_absent (Some x) w e = absurd (cc)
