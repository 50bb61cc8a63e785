-- What stays of each element where one takes another widget and some are flagged; and the flagged ones, one element after another.
use Rattle.std.proofs.Common.{◌≡◌, ℕ, ◌+◌, ◌<◌, ◌≤◌, Bool, true, false, cond, Option, Some, None, option_map, option_and_then, List, [], ◌∷◌, ◌++◌, length, get_or, refl, sym, ap, ◌∙◌, subst, arith}
use Rattle.std.proofs.lemmas.List.{append_assoc, append-nil}
use Rattle.fx_handles.specs.declared.Handle.{Handle}
use Rattle.fx_handles.specs.Handle.{same}
use Rattle.fx_handles.specs.HandleLaws.{same-true}
use Rattle.node_tree.specs.Children.{Nth}
use Rattle.node_tree.specs.Forest.{TreeNode, Forest, tops, below, skip}
use Rattle.node_tree.specs.Forest.Forest.{none, tree}
use Rattle.node_tree.specs.Tree.{Tree, Holds, node_at, children_at, subtree_at}
use Rattle.node_tree.proofs.Children.{skip_all, below-stands}
use Rattle.widget_model.specs.Plain.{PlainWidget, look_of}
use Rattle.widget_model.specs.Update.{CanUpdate, IsSameType}
use Rattle.build_form.specs.BuildRole.{BuildRole, provides, build_role_of}
use Rattle.element_tree.specs.Edits.{Writes, with_widget}
use Rattle.element_tree.specs.Element.{Element, element_at, number_at, is_flagged}
use Rattle.element_tree.proofs.Changing.{value_after}
use Rattle.global_keys.specs.Holders.{Registry}
use Rattle.global_keys.specs.Named.{NamesExactly, global_of, global_at}
use Rattle.inherited.specs.Readers.{flagged_if, Flags}
use Rattle.build_owner.proofs.Children.{some_is}
use Rattle.renewed_builds.specs.Several.{KeepsElements, flagged_in}
use Rattle.renewed_builds.specs.Regiving.{name_regiven, name_given_by, name_given}
use Rattle.renewed_builds.proofs.Changing.{nth_of, zero_handle}

-- ---- flags alone

kept_names : (r : Registry) (old new : Tree Element) → ((h : Handle) → global_at new h ≡ global_at old h) → NamesExactly r old → NamesExactly r new
kept_names r old new same names = record {
  to_element = λ k h e. same h ∙ names.to_element k h e;
  to_holder = λ k h e. names.to_holder k h (sym (same h) ∙ e);
}

module _ (u s : Tree Element) (q : Handle → Bool) (flags : Flags u s q) where
  number_by : (b : Bool) (o : Option (TreeNode Element)) → option_map (λ (e : Element). e.number) (option_map (λ (n : TreeNode Element). n.value) (option_map (flagged_if b) o)) ≡ option_map (λ (e : Element). e.number) (option_map (λ (n : TreeNode Element). n.value) o)
  number_by b None = refl
  number_by true (Some n) = refl
  number_by false (Some n) = refl

  pub flags_numbers : (k : Handle) → number_at s k ≡ number_at u k
  flags_numbers k = ap (λ (o : Option (TreeNode Element)). option_map (λ (e : Element). e.number) (option_map (λ (n : TreeNode Element). n.value) o)) (flags.nodes k) ∙ number_by (q k) (node_at u k)

  key_by : (b : Bool) (o : Option (TreeNode Element)) → global_of (option_map (λ (n : TreeNode Element). n.value) (option_map (flagged_if b) o)) ≡ global_of (option_map (λ (n : TreeNode Element). n.value) o)
  key_by b None = refl
  key_by true (Some n) = refl
  key_by false (Some n) = refl

  pub flags_names : (r : Registry) → NamesExactly r u → NamesExactly r s
  flags_names r names = kept_names r u s (λ k. ap (λ (o : Option (TreeNode Element)). global_of (option_map (λ (n : TreeNode Element). n.value) o)) (flags.nodes k) ∙ key_by (q k) (node_at u k)) names

  -- ---- after a widget

  module _ (t : Tree Element) (child : Handle) (v : Element) (w : PlainWidget) (at : element_at t child ≡ Some v) (type : IsSameType v.widget w) (writes : Writes t u child (with_widget w v)) where
    abbrev Was : Handle → Element → Type 0
    Was k y = (e : Element) × (element_at t k ≡ Some e) × (y.render ≡ e.render) × (y.number ≡ e.number) × IsSameType e.widget y.widget

    flag_was : (k : Handle) (b : Bool) (n : TreeNode Element) → Was k n.value → Was k (flagged_if b n).value
    flag_was k true n was = was
    flag_was k false n was = was

    widget_was : (k : Handle) (b : Bool) (z : Element) → same k child ≡ b → element_at t k ≡ Some z → Was k (cond b (with_widget w v) z)
    widget_was k true z is there =
        let k_is : k ≡ child = same-true k child is in
        (v, ap (element_at t) k_is ∙ at, refl, refl, type)
    widget_was k false z is there = (z, there, refl, refl, refl)

    was_by : (k : Handle) (y : Element) (o : Option Element) → element_at t k ≡ o → Some y ≡ option_map (λ z. cond (same k child) (with_widget w v) z) o → Was k y
    was_by k y None there is = absurd (no_one is)
      where
        no_one : Some y ≡ None → ⊥
        no_one e = cc
    was_by k y (Some z) there is = subst (Was k) (sym (some_is is)) (widget_was k (same k child) z refl there)

    flagged_by : (k : Handle) (y : Element) (o : Option (TreeNode Element)) → node_at u k ≡ o → option_map (λ (n : TreeNode Element). n.value) (option_map (flagged_if (q k)) o) ≡ Some y → Was k y
    flagged_by k y None there is = absurd (no_one is)
      where
        no_one : None ≡ Some y → ⊥
        no_one e = cc
    flagged_by k y (Some n) there is =
        subst (Was k) (some_is is)
        (flag_was k (q k) n (was_by k n.value (element_at t k) refl (sym (ap (option_map (λ (m : TreeNode Element). m.value)) there) ∙ value_after t u child (with_widget w v) writes.writes k)))

    pub keeps_elements : KeepsElements t s
    keeps_elements k y there = flagged_by k y (node_at u k) refl (sym (ap (option_map (λ (n : TreeNode Element). n.value)) (flags.nodes k)) ∙ there)

-- ---- the flagged ones, one tree after another

split : (h : Handle) (e : Element) (kids rest : Forest Element) → flagged_in (tree h e kids rest) ≡ flagged_in (tree h e kids none) ++ flagged_in rest
split h e kids rest =
    let own = cond e.dirty (h ∷ []) [] in
    sym (append_assoc own (flagged_in kids ++ []) (flagged_in rest) ∙ ap (λ (l : List Handle). own ++ (l ++ flagged_in rest)) (append-nil (flagged_in kids)))

-- those of one child more
pub one_more : (t : Tree Element) (f : Forest Element) (i : ℕ) (c : Handle) → Nth t f i c → (acc new whole : List Handle) → new ≡ acc ++ flagged_in (subtree_at t c)
    → acc ++ flagged_in (skip i f) ≡ whole → new ++ flagged_in (skip (i + 1) f) ≡ whole
one_more t f i c n acc new whole step so_far =
    ap (λ xs. xs ++ flagged_in (skip (i + 1) f)) (step ∙ ap (λ s. acc ++ flagged_in s) n.subtree)
    ∙ append_assoc acc (flagged_in (tree c n.value n.kids none)) (flagged_in (skip (i + 1) f))
    ∙ ap (λ xs. acc ++ xs) (sym (split c n.value n.kids (skip (i + 1) f)) ∙ sym (ap flagged_in n.skips))
    ∙ so_far

pub none_more : (t : Tree Element) (h : Handle) (cs : List Handle) (i : ℕ) → Holds t h → cs ≡ children_at t h → length cs ≤ i → (acc whole : List Handle) → acc ++ flagged_in (skip i (below (subtree_at t h))) ≡ whole → acc ≡ whole
none_more t h cs i holds value past acc whole so_far =
    let low = below (subtree_at t h) in
    let tall : length (tops low) ≡ length cs = ap length (below-stands t h holds).1 ∙ ap length (sym value) in
    let gone : skip i low ≡ none = skip_all i low (omega (arith, tall, past)) in
    sym (append-nil acc) ∙ sym (ap (λ (g : Forest Element). acc ++ flagged_in g) gone) ∙ so_far

-- its own flag, and then those below it
pub own_first : (t : Tree Element) (h : Handle) (e : Element) → element_at t h ≡ Some e → subtree_at t h ≡ tree h e (below (subtree_at t h)) none → (on : Bool) → on ≡ is_flagged (element_at t h) → (old new : List Handle)
    → new ≡ old ++ cond on (h ∷ []) [] → new ++ flagged_in (below (subtree_at t h)) ≡ old ++ flagged_in (subtree_at t h)
own_first t h e at opened on said old new is =
    let low = flagged_in (below (subtree_at t h)) in
    ap (λ (xs : List Handle). xs ++ low) (is ∙ ap (λ (b : Bool). old ++ cond b (h ∷ []) []) (said ∙ ap is_flagged at))
    ∙ append_assoc old (cond e.dirty (h ∷ []) []) low
    ∙ ap (λ (xs : List Handle). old ++ (cond e.dirty (h ∷ []) [] ++ xs)) (sym (append-nil low))
    ∙ ap (λ (xs : List Handle). old ++ xs) (sym (ap flagged_in opened))

-- ---- where it can't be

many_below : (o : Option PlainWidget) (kids : Forest Element) → (length (tops kids) ≡ 1 → ⊥) → name_given_by o kids ≡ None
many_below None kids other = refl
many_below (Some w) none other = refl
many_below (Some w) (tree h e low none) other = absurd (other refl)
many_below (Some w) (tree h e low (tree k v more rest)) other = refl

pub refused_many : (t : Tree Element) (h : Handle) (e : Element) (hs : List Handle) → Holds t h → subtree_at t h ≡ tree h e (below (subtree_at t h)) none → hs ≡ children_at t h → (length hs ≡ 1 → ⊥)
    → name_given (subtree_at t h) ≡ None
refused_many t h e hs holds opened value other =
    ap name_given opened ∙ many_below e.output (below (subtree_at t h)) (λ is. other (ap length value ∙ sym (ap length (below-stands t h holds).1) ∙ is))

pub refused_output : (t : Tree Element) (h : Handle) (e : Element) → subtree_at t h ≡ tree h e (below (subtree_at t h)) none → e.output ≡ None → name_given (subtree_at t h) ≡ None
refused_output t h e opened gone = ap name_given opened ∙ ap (λ (o : Option PlainWidget). name_given_by o (below (subtree_at t h))) gone

pub refused_name : (t : Tree Element) (h child : Handle) (e v : Element) (low : Forest Element) (w : PlainWidget) → subtree_at t h ≡ tree h e (tree child v low none) none → e.output ≡ Some w → name_regiven v.widget w ≡ None
    → name_given (subtree_at t h) ≡ None
refused_name t h child e v low w opened output unnamed = ap name_given opened ∙ ap (λ (o : Option PlainWidget). name_given_by o (tree child v low none)) output ∙ unnamed

-- ---- the one child

pub record OneChild (t : Tree Element) (h child : Handle) : Type 0 where
  pub value : Element
  pub kids : Forest Element
  pub is : below (subtree_at t h) ≡ tree child value kids none
  pub value_is : element_at t child ≡ Some value
  pub subtree : subtree_at t child ≡ tree child value kids none
  pub holds : Holds t child

pub one_child : (t : Tree Element) (h : Handle) (hs : List Handle) → Holds t h → hs ≡ children_at t h → length hs ≡ 1 → OneChild t h (get_or hs 0 zero_handle)
one_child t h hs holds value one =
    let n = nth_of t h hs 0 holds value (omega (arith, one)) in
    let low = below (subtree_at t h) in
    let tall : length (tops low) ≡ 1 = ap length (below-stands t h holds).1 ∙ ap length (sym value) ∙ one in
    let rest : skip (0 + 1) low ≡ none = skip_all (0 + 1) low (omega (arith, tall)) in
    record {
      value = n.value;
      kids = n.kids;
      is = n.skips ∙ ap (tree (get_or hs 0 zero_handle) n.value n.kids) rest;
      value_is = n.value_is;
      subtree = n.subtree;
      holds = n.holds;
    }

-- ---- what is read of an element

gone : {X : Type 0} {x : X} → None ≡ Some x → ⊥
gone e = cc

pub no_widget : (o : Option Element) (v : Element) → o ≡ Some v → None ≡ option_map (λ (e : Element). e.widget) o → ⊥
no_widget o v is said = gone (said ∙ ap (option_map (λ (e : Element). e.widget)) is)

pub widget_same : (o : Option Element) (y : Element) (v : PlainWidget) → o ≡ Some y → Some v ≡ option_map (λ (e : Element). e.widget) o → v ≡ y.widget
widget_same o y v is said = some_is (said ∙ ap (option_map (λ (e : Element). e.widget)) is)

pub output_same : (o : Option Element) (y : Element) (w : PlainWidget) → o ≡ Some y → Some w ≡ option_and_then (λ (e : Element). e.output) o → y.output ≡ Some w
output_same o y w is said = sym (said ∙ ap (option_and_then (λ (e : Element). e.output)) is)

pub output_gone : (o : Option Element) (y : Element) → o ≡ Some y → None ≡ option_and_then (λ (e : Element). e.output) o → y.output ≡ None
output_gone o y is said = sym (said ∙ ap (option_and_then (λ (e : Element). e.output)) is)
