-- What edits leave of numbers, and of plain nodes.
use Rattle.std.proofs.Common.{◌≡◌, ℕ, Bool, true, false, cond, List, [], ◌∷◌, insert, Option, Some, None, IsSome, option_map, refl, sym, ap, ◌∙◌, subst, inl, inr, arith}
use Rattle.fx_handles.specs.declared.Handle.{Handle}
use Rattle.fx_handles.specs.Handle.{same}
use Rattle.fx_handles.specs.HandleLaws.{same-true, same-eq, same-ne, cases_same}
use Rattle.fx_handles.specs.Arena.{IsSpent}
use Rattle.fx_handles.specs.ArenaLaws.{get-differ}
use Rattle.node_tree.specs.Forest.{TreeNode, Forest, In, Stands, set_value, without_child, with_child}
use Rattle.node_tree.specs.Forest.Forest.{none, tree}
use Rattle.node_tree.specs.Tree.{Tree, node_at, subtree_at}
use Rattle.node_tree.specs.Edits.{Adds, RemovesBelow, DropsInactive}
use Rattle.node_tree.specs.Plan.{PlanEntry, relinked, committed, Commits}
use Rattle.plain_tree.specs.PlainNode.{PlainNode, node, nodes_of as listed}
use Rattle.element_tree.specs.Element.{Element, element_at, number_at}
use Rattle.element_tree.specs.Edits.{Changes}
use Rattle.element_tree.specs.Renewal.{Renewal, renewed}
use Rattle.element_tree.specs.Nodes.{nodes_of, IsLike}
use Rattle.element_tree.proofs.Changing.{value_after}

pub spent_dead : (t : Tree Element) (h : Handle) → IsSpent t.nodes h → element_at t h ≡ None
spent_dead t h spent = ap (option_map (λ (n : TreeNode Element). n.value)) (get-differ t.nodes h (λ e. absurd (omega arith)))

-- the number of another element that looks like it
number_kept : (b : Bool) (o : Option Element) (e w : Element) → (b ≡ true → o ≡ Some e) → w.number ≡ e.number
    → option_map (λ (x : Element). x.number) (option_map (λ v. cond b w v) o) ≡ option_map (λ (x : Element). x.number) o
number_kept b None e w is same = refl
number_kept true (Some v) e w is same = let one : Some v ≡ Some e = is refl in let is_v : v ≡ e = (cc) in ap Some (same ∙ ap (λ x. x.number) (sym is_v))
number_kept false (Some v) e w is same = refl

pub changed_number : (old new : Tree Element) (h k : Handle) (change : Element → Element) → Changes old new h change → ((e : Element) → (change e).number ≡ e.number) → number_at new k ≡ number_at old k
changed_number old new h k change changes same_number = by_element (element_at old h) refl
  where
    by_element : (o : Option Element) → element_at old h ≡ o → number_at new k ≡ number_at old k
    by_element None at = ap (λ t. number_at t k) (changes.dead at)
    by_element (Some e) at =
        ap (option_map (λ (x : Element). x.number)) (value_after old new h (change e) (changes.live e at).writes k)
        ∙ number_kept (same k h) (element_at old k) e (change e) (λ equal. ap (element_at old) (same-true k h equal) ∙ at) (same_number e)

numbered : (o : Option (TreeNode Element)) (m : ℕ) → option_map (λ (x : Element). x.number) (option_map (λ (n : TreeNode Element). n.value) o) ≡ Some m → o ≡ None → ⊥
numbered None m e nothing = absurd (cc)
numbered (Some n) m e nothing = absurd (cc)

pub removed_number : (old new : Tree Element) (h k : Handle) (n m : ℕ) → RemovesBelow old new h n → ((In k (subtree_at old h) → ⊥) → element_at new k ≡ element_at old k)
    → number_at new k ≡ Some m → (In k (subtree_at old h) → ⊥) × (number_at old k ≡ Some m)
removed_number old new h k n m removes kept e =
    let outside : In k (subtree_at old h) → ⊥ = λ among. numbered (node_at new k) m e (removes.gone k among) in
    (outside, sym (ap (option_map (λ (x : Element). x.number)) (kept outside)) ∙ e)

kept_value : (h : Handle) (o m : Option (TreeNode Element)) → m ≡ option_map (without_child h) o → option_map (λ (n : TreeNode Element). n.value) m ≡ option_map (λ (n : TreeNode Element). n.value) o
kept_value h None m e = ap (option_map (λ (n : TreeNode Element). n.value)) e
kept_value h (Some n) m e = ap (option_map (λ (n : TreeNode Element). n.value)) e

pub removed_kept : (old new : Tree Element) (h k : Handle) (n : ℕ) → RemovesBelow old new h n → (In k (subtree_at old h) → ⊥) → element_at new k ≡ element_at old k
removed_kept old new h k n removes outside = kept_value h (node_at old k) (node_at new k) (removes.others k outside)

-- a new element, beside those that there are
child_value : (q : Option Handle) (i : ℕ) (h k : Handle) (n : TreeNode Element) → (with_child q i h k n).value ≡ n.value
child_value None i h k n = refl
child_value (Some p) i h k n = by_parent (same k p)
  where
    by_parent : (b : Bool) → (cond b (record n { children = insert n.children i h }) n).value ≡ n.value
    by_parent true = refl
    by_parent false = refl

with_child_value : (q : Option Handle) (i : ℕ) (h k : Handle) (o : Option (TreeNode Element))
    → option_map (λ (n : TreeNode Element). n.value) (option_map (with_child q i h k) o) ≡ option_map (λ (n : TreeNode Element). n.value) o
with_child_value q i h k None = refl
with_child_value q i h k (Some n) = ap Some (child_value q i h k n)

pub added_number : (old new : Tree Element) (q : Option Handle) (i : ℕ) (h k : Handle) (e : Element) → Adds old.nodes new.nodes q i h e
    → number_at new k ≡ cond (same k h) (Some e.number) (number_at old k)
added_number old new q i h k e adds = elim (cases_same k h) [
  | inl is_h ↦
      ap (number_at new) is_h
      ∙ ap (λ o. option_map (λ (x : Element). x.number) (option_map (λ (n : TreeNode Element). n.value) o)) adds.found
      ∙ sym (ap (λ b. cond b (Some e.number) (number_at old k)) (same-eq k h is_h))
  | inr apart ↦
      ap (λ o. option_map (λ (x : Element). x.number) (option_map (λ (n : TreeNode Element). n.value) o)) (adds.others k apart)
      ∙ ap (option_map (λ (x : Element). x.number)) (with_child_value q i h k (node_at old k))
      ∙ sym (ap (λ b. cond b (Some e.number) (number_at old k)) (same-ne k h apart))
]

numbered_live : (o : Option (TreeNode Element)) (m : ℕ) → option_map (λ (x : Element). x.number) (option_map (λ (n : TreeNode Element). n.value) o) ≡ Some m → IsSome o
numbered_live None m e = absurd (cc)
numbered_live (Some n) m e = refl

pub dropped_number : (old new : Tree Element) (k : Handle) (n m : ℕ) → DropsInactive old new n → number_at new k ≡ Some m → number_at old k ≡ Some m
dropped_number old new k n m drops e =
    sym (ap (λ o. option_map (λ (x : Element). x.number) (option_map (λ (n : TreeNode Element). n.value) o)) (drops.others k (numbered_live (node_at new k) m e))) ∙ e

-- what a plan leaves
planned_number : (es : List (PlanEntry Renewal)) (k : Handle) (o : Option (TreeNode Element)) (m : ℕ)
    → option_map (λ (x : Element). x.number) (option_map (λ (n : TreeNode Element). n.value) (committed renewed es k o)) ≡ Some m
    → option_map (λ (x : Element). x.number) (option_map (λ (n : TreeNode Element). n.value) o) ≡ Some m
planned_number [] k o m e = absurd (cc)
planned_number (x ∷ xs) k o m e = by_head (same k x.at) o e (planned_number xs k o m)
  where
    by_head : (b : Bool) (o : Option (TreeNode Element))
        → option_map (λ (x : Element). x.number) (option_map (λ (n : TreeNode Element). n.value) (cond b (option_map (relinked renewed x) o) (committed renewed xs k o))) ≡ Some m
        → (option_map (λ (x : Element). x.number) (option_map (λ (n : TreeNode Element). n.value) (committed renewed xs k o)) ≡ Some m
        → option_map (λ (x : Element). x.number) (option_map (λ (n : TreeNode Element). n.value) o) ≡ Some m)
        → option_map (λ (x : Element). x.number) (option_map (λ (n : TreeNode Element). n.value) o) ≡ Some m
    by_head true None e later = absurd (cc)
    by_head true (Some n) e later = e
    by_head false o e later = later e

pub committed_number : (old new : Tree Element) (es : List (PlanEntry Renewal)) (k : Handle) (m : ℕ) → Commits renewed es old.nodes new.nodes → number_at new k ≡ Some m → number_at old k ≡ Some m
committed_number old new es k m commits e =
    planned_number es k (node_at old k) m (sym (ap (λ o. option_map (λ (x : Element). x.number) (option_map (λ (n : TreeNode Element). n.value) o)) (commits.nodes k)) ∙ e)

-- a node that looks the same
like_node : (scrolled : ℕ → ℕ) (b : Bool) (v w : Element) (kids : List PlainNode) → (b ≡ true → IsLike v w)
    → (let x : Element = cond b w v in node x.number x.widget x.fields (scrolled x.number) x.index (listed kids)) ≡ node v.number v.widget v.fields (scrolled v.number) v.index (listed kids)
like_node scrolled true v w kids like =
    let is = like refl in
    let number = is.number in let widget = is.widget in let fields = is.fields in let index = is.index in
    cc
like_node scrolled false v w kids like = refl

pub nodes-like : (at : Handle → Option (TreeNode Element)) (p : Option Handle) (f : Forest Element) (h : Handle) (e w : Element) (scrolled : ℕ → ℕ) → Stands at p f
    → option_map (λ (n : TreeNode Element). n.value) (at h) ≡ Some e → IsLike e w → nodes_of scrolled (set_value h w f) ≡ nodes_of scrolled f
nodes-like at p none h e w scrolled stands there like = refl
nodes-like at p (tree k v below rest) h e w scrolled stands there like =
    let inside = nodes-like at (Some k) below h e w scrolled stands.1 there like in
    let later = nodes-like at p rest h e w scrolled stands.2 there like in
    let here : same k h ≡ true → IsLike v w = λ equal.
    let one : Some v ≡ Some e = sym (ap (option_map (λ (n : TreeNode Element). n.value)) stands.0) ∙ ap (λ x. option_map (λ (n : TreeNode Element). n.value) (at x)) (same-true k h equal) ∙ there in
    let is_v : e ≡ v = (cc) in
    subst (λ (x : Element). IsLike x w) is_v like in
    ap (λ ns. (let x : Element = cond (same k h) w v in node x.number x.widget x.fields (scrolled x.number) x.index (listed ns)) ∷ nodes_of scrolled (set_value h w rest)) inside
    ∙ ap (λ n. n ∷ nodes_of scrolled (set_value h w rest)) (like_node scrolled (same k h) v w (nodes_of scrolled below) here)
    ∙ ap (λ ns. node v.number v.widget v.fields (scrolled v.number) v.index (listed (nodes_of scrolled below)) ∷ ns) later
