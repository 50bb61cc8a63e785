-- No two render nodes have one number: of a projection, of one with new nodes, and after a plan.
use Rattle.std.proofs.Common.{◌≡◌, ℕ, ◌<◌, ◌≤◌, Bool, true, false, cond, Option, Some, None, IsSome, option_map, List, [], ◌∷◌, ◌++◌, refl, sym, ap, subst, ◌∙◌, inl, inr, arith}
use Rattle.fx_handles.specs.declared.Handle.{Handle}
use Rattle.fx_handles.specs.Handle.{same}
use Rattle.node_tree.specs.Children.{Keeps}
use Rattle.node_tree.specs.Forest.{TreeNode, Forest, In, Stands}
use Rattle.node_tree.specs.Forest.Forest.{none, tree}
use Rattle.node_tree.specs.Part.{left_node, kept_by, CommitsPart}
use Rattle.node_tree.specs.Plan.{PlanEntry, entry_at, relinked, committed, Commits}
use Rattle.node_tree.specs.Tree.{Tree, Is, node_at as stored_at}
use Rattle.plain_tree.specs.Laws.{AllDiffer, render_numbers_in, render_numbers_of}
use Rattle.plain_tree.specs.Render.{render}
use Rattle.plain_tree.proofs.Numbers.{IsIn, in_left, in_right, differs, apart, differ_left, differ_right}
use Rattle.render_sync.specs.Numbering.{NumbersDiffer, number_at}
use Rattle.render_tree.specs.Object.{RenderObject, object_look}
use Rattle.render_tree.specs.Plain.{renders_of, lazy_children}
use Rattle.render_tree.specs.Redraw.{Redraw, redrawn}
use Rattle.render_tree.specs.Tree.{object_at}
use Rattle.layout_owner.specs.Views.{NumbersTell}
use Rattle.build_owner.specs.Making.{MakesNodes}
use Rattle.frame_owner.proofs.Looks.{in_parts}

abbrev numbered : Option (TreeNode RenderObject) → Option ℕ
numbered x = option_map (λ (o : RenderObject). o.number) (option_map (λ (n : TreeNode RenderObject). n.value) x)

some_number : (a b : ℕ) → Some a ≡ Some b → a ≡ b
some_number a b e = cc

none_number : (n : ℕ) → None ≡ Some n → ⊥
none_number n e = cc

-- ---- a projection

module _ (at : Handle → Option (TreeNode RenderObject)) where
  in_numbers : (p : Option Handle) (f : Forest RenderObject) (k : Handle) (n : ℕ) → Stands at p f → In k f → numbered (at k) ≡ Some n → IsIn n (render_numbers_in (renders_of f))
  in_numbers p none k n stands among e = absurd (omega (arith, among))
  in_numbers p (tree h v below rest) k n stands among e =
      let own = render_numbers_of (render v.number (object_look v) v.parent_data v.scroll (lazy_children v) (renders_of below)) in
      in_parts k h v below rest (IsIn n (own ++ render_numbers_in (renders_of rest))) among
      (λ here. in_left n own (render_numbers_in (renders_of rest)) (inl (some_number n v.number (sym e ∙ ap numbered (ap at (sym here) ∙ stands.0)))))
      (λ inner. in_left n own (render_numbers_in (renders_of rest)) (inr (in_numbers (Some h) below k n stands.1 inner e)))
      (λ later. in_right n own (render_numbers_in (renders_of rest)) (in_numbers p rest k n stands.2 later e))

  one_handle : (p : Option Handle) (f : Forest RenderObject) (j k : Handle) (n : ℕ) → Stands at p f → AllDiffer (render_numbers_in (renders_of f)) → In j f → In k f → numbered (at j) ≡ Some n → numbered (at k) ≡ Some n → j ≡ k
  one_handle p none j k n stands differ a b e g = absurd (omega (arith, a))
  one_handle p (tree h v below rest) j k n stands differ a b e g =
      let inner_list = render_numbers_in (renders_of below) in
      let own = v.number ∷ inner_list in
      let later_list = render_numbers_in (renders_of rest) in
      let left : AllDiffer own = differ_left own later_list differ in
      let right = differ_right own later_list differ in
      let is_own : (i : Handle) → h ≡ i → numbered (at i) ≡ Some n → n ≡ v.number = λ i here x. some_number n v.number (sym x ∙ ap numbered (ap at (sym here) ∙ stands.0)) in
      let both_own : n ≡ v.number → IsIn n inner_list → j ≡ k = λ x there. absurd (differs v.number n inner_list left.0 there (sym x)) in
      let split : IsIn n own → IsIn n later_list → j ≡ k = λ x y. absurd (apart n own later_list differ x y) in
      in_parts j h v below rest (j ≡ k) a
      (λ here. in_parts k h v below rest (j ≡ k) b
      (λ there. sym here ∙ there)
      (λ inner. both_own (is_own j here e) (in_numbers (Some h) below k n stands.1 inner g))
      (λ later. split (inl (is_own j here e)) (in_numbers p rest k n stands.2 later g)))
      (λ mine. in_parts k h v below rest (j ≡ k) b
      (λ there. both_own (is_own k there g) (in_numbers (Some h) below j n stands.1 mine e))
      (λ inner. one_handle (Some h) below j k n stands.1 left.1 mine inner e g)
      (λ later. split (inr (in_numbers (Some h) below j n stands.1 mine e)) (in_numbers p rest k n stands.2 later g)))
      (λ mine. in_parts k h v below rest (j ≡ k) b
      (λ there. split (inl (is_own k there g)) (in_numbers p rest j n stands.2 mine e))
      (λ inner. split (inr (in_numbers (Some h) below k n stands.1 inner g)) (in_numbers p rest j n stands.2 mine e))
      (λ later. one_handle p rest j k n stands.2 right mine later e g))

live_numbered : (x : Option (TreeNode RenderObject)) (n : ℕ) → numbered x ≡ Some n → IsSome x
live_numbered None n e = absurd (none_number n e)
live_numbered (Some m) n e = refl

-- a tree of render nodes whose numbers differ
pub forest_differs : (t : Tree RenderObject) (f : Forest RenderObject) → Is t f → AllDiffer (render_numbers_in (renders_of f)) → NumbersDiffer t
forest_differs t f is differ n j k e g =
    one_handle (stored_at t) None f j k n is.stands differ (is.whole j (live_numbered (stored_at t j) n e)) (is.whole k (live_numbered (stored_at t k) n g)) e g

pub tells : (t : Tree RenderObject) → NumbersDiffer t → NumbersTell t
tells t differ j k a b at_j at_k same_number =
    differ b.number j k (ap (option_map (λ (o : RenderObject). o.number)) at_j ∙ ap (λ (n : ℕ). Some n) same_number) (ap (option_map (λ (o : RenderObject). o.number)) at_k)

-- ---- new nodes

pub made_differ : (low high : ℕ) (old made : Tree RenderObject) → NumbersDiffer old → ((k : Handle) (o : RenderObject) → object_at old k ≡ Some o → o.number ≤ low) → Keeps old made → MakesNodes low high old made
    → NumbersDiffer made
made_differ low high old made differ few keeps makes n j k e g = by_old (stored_at old j) refl (stored_at old k) refl
  where
    value_is : (m : TreeNode RenderObject) → Some m.value.number ≡ Some n → m.value.number ≡ n
    value_is m x = some_number m.value.number n x

    -- an old node has its number since the last frame
    kept_number : (i : Handle) (m : TreeNode RenderObject) → stored_at old i ≡ Some m → numbered (stored_at made i) ≡ Some n → (numbered (stored_at old i) ≡ Some n) × (n ≤ low)
    kept_number i m is x =
        let there = keeps i (subst IsSome (sym is) refl) in
        let was : numbered (stored_at old i) ≡ Some n = ap numbered (sym there) ∙ x in
        let own : m.value.number ≡ n = value_is m (sym (ap numbered is) ∙ was) in
        (was, subst (λ y. y ≤ low) own (few i m.value (ap (option_map (λ (y : TreeNode RenderObject). y.value)) is)))

    made_node : (i : Handle) (x : Option (TreeNode RenderObject)) → stored_at made i ≡ x → numbered (stored_at made i) ≡ Some n → (m : TreeNode RenderObject) × (stored_at made i ≡ Some m) × (m.value.number ≡ n)
    made_node i None at x = absurd (none_number n (sym (ap numbered at) ∙ x))
    made_node i (Some m) at x = (m, at, value_is m (sym (ap numbered at) ∙ x))

    -- a new one has another
    new_number : (i : Handle) → stored_at old i ≡ None → numbered (stored_at made i) ≡ Some n → low < n
    new_number i gone x =
        let m = made_node i (stored_at made i) refl x in
        let fresh = makes.fresh i m.0 gone m.1 in
        let own : fresh.0 ≡ n = sym (ap (λ (y : TreeNode RenderObject). y.value.number) fresh.2) ∙ m.2 in
        subst (λ y. low < y) own fresh.3

    by_old : (x : Option (TreeNode RenderObject)) → stored_at old j ≡ x → (y : Option (TreeNode RenderObject)) → stored_at old k ≡ y → j ≡ k
    by_old None at_j None at_k =
        let a = made_node j (stored_at made j) refl e in
        let b = made_node k (stored_at made k) refl g in
        makes.once j k a.0 b.0 at_j at_k a.1 b.1 (a.2 ∙ sym b.2)
    by_old None at_j (Some m) at_k = let a = new_number j at_j e in let b = (kept_number k m at_k g).1 in absurd (omega (arith, a, b))
    by_old (Some m) at_j None at_k = let a = (kept_number j m at_j e).1 in let b = new_number k at_k g in absurd (omega (arith, a, b))
    by_old (Some m) at_j (Some p) at_k = differ n j k (kept_number j m at_j e).0 (kept_number k p at_k g).0

-- ---- a plan

relinked_number : (e : PlanEntry Redraw) (x : Option (TreeNode RenderObject)) → numbered (option_map (relinked redrawn e) x) ≡ numbered x
relinked_number e None = refl
relinked_number e (Some n) = refl

left_number : (es : List (PlanEntry Redraw)) (k : Handle) (x : Option (TreeNode RenderObject)) → numbered (option_map (left_node es k) x) ≡ numbered x
left_number es k None = refl
left_number es k (Some n) = refl

kept_number_by : (y : Option (PlanEntry Redraw)) (es : List (PlanEntry Redraw)) (k : Handle) (x : Option (TreeNode RenderObject)) → numbered (kept_by redrawn y es k x) ≡ numbered x
kept_number_by None es k x = left_number es k x
kept_number_by (Some e) es k x = relinked_number e x

pub part_numbers : (es : List (PlanEntry Redraw)) (made new : Tree RenderObject) → CommitsPart redrawn es made.nodes new.nodes → (k : Handle) → number_at new k ≡ number_at made k
part_numbers es made new commits k = ap numbered (commits.nodes k) ∙ kept_number_by (entry_at es k) es k (stored_at made k)

-- of a whole plan: of each node that is left
committed_number : (es : List (PlanEntry Redraw)) (k : Handle) (x : Option (TreeNode RenderObject)) (n : ℕ) → numbered (committed redrawn es k x) ≡ Some n → numbered x ≡ Some n
committed_number [] k x n e = absurd (none_number n e)
committed_number (d ∷ es) k x n e = by_test (same k d.at) e (committed_number es k x n)
  where
    by_test : (b : Bool) → numbered (cond b (option_map (relinked redrawn d) x) (committed redrawn es k x)) ≡ Some n → (numbered (committed redrawn es k x) ≡ Some n → numbered x ≡ Some n) → numbered x ≡ Some n
    by_test true h go = sym (relinked_number d x) ∙ h
    by_test false h go = go h

pub whole_numbers : (es : List (PlanEntry Redraw)) (made new : Tree RenderObject) → Commits redrawn es made.nodes new.nodes → (k : Handle) (n : ℕ) → number_at new k ≡ Some n → number_at made k ≡ Some n
whole_numbers es made new commits k n e = committed_number es k (stored_at made k) n (sym (ap numbered (commits.nodes k)) ∙ e)
