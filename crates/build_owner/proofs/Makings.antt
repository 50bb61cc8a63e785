-- What is made in the tree of render nodes, step by step.
use Rattle.std.proofs.Common.{◌≡◌, ℕ, ◌+◌, ◌<◌, ◌≤◌, Option, Some, None, IsSome, option_map, [], refl, sym, ap, ◌∙◌, subst, inl, inr, arith}
use Rattle.fx_handles.specs.declared.Handle.{Handle}
use Rattle.fx_handles.specs.HandleLaws.{cases_same}
use Rattle.node_tree.specs.Children.{Keeps}
use Rattle.node_tree.specs.Edits.{Adds}
use Rattle.node_tree.specs.Forest.{TreeNode}
use Rattle.node_tree.specs.Tree.{Tree, node_at, IsNode}
use Rattle.widget_model.specs.Plain.{PlainWidget}
use Rattle.element_tree.specs.Element.{Element, made_count}
use Rattle.render_tree.specs.Edits.{new_object}
use Rattle.render_tree.specs.Object.{RenderObject}
use Rattle.build_owner.specs.Making.{MakesNodes, MakesElement}

some_same : {A : Type 0} {x y : A} → Some x ≡ Some y → x ≡ y
some_same e = cc

none_some : {A : Type 0} {x : A} → None ≡ Some x → ⊥
none_some e = cc

pub number_is : (n m : ℕ) → Some n ≡ Some m → n ≡ m
number_is n m e = cc

pub makes_nothing : {low high : ℕ} (t : Tree RenderObject) → low ≤ high → MakesNodes low high t t
makes_nothing {low} {high} t grows = record {
  fresh = λ k n absent there. absurd (none_some (sym absent ∙ there));
  once = λ j k m n gone absent has there same. absurd (none_some (sym gone ∙ has));
  grows = grows;
  few = omega (arith, grows);
  root = refl;
}

pub makes_none : {low : ℕ} (t : Tree RenderObject) → MakesNodes low low t t
makes_none {low} t = makes_nothing t (omega arith)

-- one after another
pub makes_more : {low mid high : ℕ} (old between new : Tree RenderObject) → Keeps between new → MakesNodes low mid old between → MakesNodes mid high between new → MakesNodes low high old new
makes_more {low} {mid} {high} old between new keeps first then = record {
  fresh = λ k n absent there. by_middle k n (node_at between k) refl absent there;
  once = λ j k m n gone absent has there same. apart j k m n (node_at between j) (node_at between k) refl refl gone absent has there same;
  grows = omega (arith, first.grows, then.grows);
  few = omega (arith, first.few, then.few);
  root = then.root ∙ first.root;
}
  where
    live_by : (k : Handle) (m : TreeNode RenderObject) → node_at between k ≡ Some m → IsNode between k
    live_by k m is = subst IsSome (sym is) refl

    still : (k : Handle) (m n : TreeNode RenderObject) → node_at between k ≡ Some m → node_at new k ≡ Some n → n ≡ m
    still k m n is there = some_same (sym there ∙ keeps k (live_by k m is) ∙ is)

    by_middle : (k : Handle) (n : TreeNode RenderObject) (o : Option (TreeNode RenderObject)) → node_at between k ≡ o → node_at old k ≡ None → node_at new k ≡ Some n
        → (number : ℕ) × (widget : PlainWidget) × (n ≡ record { parent = None; children = []; value = new_object number widget }) × (low < number) × (number ≤ high)
    by_middle k n None is absent there =
        let made = then.fresh k n is there in
        (made.0, made.1, made.2, omega (arith, first.grows, made.3), made.4)
    by_middle k n (Some m) is absent there =
        let made = first.fresh k m absent is in
        (made.0, made.1, still k m n is there ∙ made.2, made.3, omega (arith, then.grows, made.4))

    -- a number that was given by then, and one that wasn't
    differ : (j k : Handle) (m n v : TreeNode RenderObject) → node_at old j ≡ None → node_at between j ≡ Some v → node_at new j ≡ Some m → node_at between k ≡ None → node_at new k ≡ Some n → m.value.number ≡ n.value.number → ⊥
    differ j k m n v gone is has absent there same =
        let a = first.fresh j v gone is in
        let b = then.fresh k n absent there in
        let low_number : m.value.number ≡ a.0 = ap (λ (x : TreeNode RenderObject). x.value.number) (still j v m is has ∙ a.2) in
        let high_number : n.value.number ≡ b.0 = ap (λ (x : TreeNode RenderObject). x.value.number) b.2 in
        let equal : a.0 ≡ b.0 = sym low_number ∙ same ∙ high_number in
        absurd (omega (arith, a.4, b.3, equal))

    apart : (j k : Handle) (m n : TreeNode RenderObject) (x y : Option (TreeNode RenderObject)) → node_at between j ≡ x → node_at between k ≡ y → node_at old j ≡ None → node_at old k ≡ None
        → node_at new j ≡ Some m → node_at new k ≡ Some n → m.value.number ≡ n.value.number → j ≡ k
    apart j k m n None None is at gone absent has there same = then.once j k m n is at has there same
    apart j k m n None (Some w) is at gone absent has there same = absurd (differ k j n m w absent at there is has (sym same))
    apart j k m n (Some v) None is at gone absent has there same = absurd (differ j k m n v gone is has at there same)
    apart j k m n (Some v) (Some w) is at gone absent has there same =
        first.once j k v w gone absent is at (ap (λ (z : TreeNode RenderObject). z.value.number) (sym (still j v m is has)) ∙ same ∙ ap (λ (z : TreeNode RenderObject). z.value.number) (still k w n at there))

-- one node
pub makes_one : {low high : ℕ} (old new : Tree RenderObject) (h : Handle) (number : ℕ) (widget : PlainWidget) → Adds old.nodes new.nodes None 0 h (new_object number widget) → new.root ≡ old.root
    → low < number → number ≤ high → MakesNodes low high old new
makes_one {low} {high} old new h number widget adds root above below = record {
  fresh = λ k n absent there. elim (cases_same k h) [
    | inl same ↦ (number, widget, some_same (sym there ∙ ap (node_at new) same ∙ adds.found), above, below)
    | inr other ↦ absurd (none_some (sym (adds.others k other ∙ ap (option_map _) absent) ∙ there))
  ];
  once = λ j k m n gone absent has there same. only j gone m has ∙ sym (only k absent n there);
  grows = omega (arith, above, below);
  few = omega (arith, adds.inserted, above, below);
  root = root;
}
  where
    only : (k : Handle) → node_at old k ≡ None → (n : TreeNode RenderObject) → node_at new k ≡ Some n → k ≡ h
    only k absent n there = elim (cases_same k h) [ inl same ↦ same | inr other ↦ absurd (none_some (sym (adds.others k other ∙ ap (option_map _) absent) ∙ there)) ]

-- ---- the element for which it is made

pub goes_on : (t : Tree Element) (at h : Handle) (partner : Option Handle) → partner ≡ Some h → MakesElement (made_count t) t at partner
goes_on t at h partner is = record { grows = omega arith; new = λ none. absurd (none_some (sym none ∙ is)) }

pub is_made : (old new : Tree Element) (at : Handle) (e : Element) → Adds old.nodes new.nodes None 0 at e → e.number ≡ made_count old + 1 → MakesElement (made_count old) new at None
is_made old new at e adds number =
    let more : made_count new ≡ made_count old + 1 = adds.inserted in
    record {
      grows = omega (arith, more);
      new = λ none. (
        ap (option_map (λ (x : Element). x.number)) (ap (option_map (λ (n : TreeNode Element). n.value)) adds.found) ∙ ap (λ n. Some n) (number ∙ sym more),
        omega (arith, more),
      );
    }
