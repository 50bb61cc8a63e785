-- What is known of elements stays so where their render nodes keep their numbers and their offsets.
use Rattle.std.proofs.Common.{◌≡◌, ℕ, Bool, true, false, Option, Some, None, IsSome, option_map, List, [], ◌∷◌, ◌++◌, refl, sym, ap, ◌∙◌, subst, arith}
use Rattle.std.specs.List.{All}
use Rattle.std.proofs.lemmas.List.Elements.{All-nil, All-cons, All-tail}
use Rattle.fx_expr.specs.declared.values.Value.{Value}
use Rattle.fx_handles.specs.declared.Handle.{Handle}
use Rattle.node_tree.specs.Children.{Keeps}
use Rattle.node_tree.specs.Forest.{TreeNode, Forest}
use Rattle.node_tree.specs.Part.{CommitsPart, kept_by}
use Rattle.node_tree.specs.Plan.{PlanEntry, planned, entry_at}
use Rattle.node_tree.specs.Tree.{Tree, node_at, subtree_at}
use Rattle.plain_tree.specs.declared.role.RenderRole.TheVariants.{Plain}
use Rattle.element_tree.specs.Element.{Element}
use Rattle.render_tree.specs.Object.{RenderObject}
use Rattle.render_tree.specs.Redraw.{Redraw, redrawn}
use Rattle.render_tree.specs.Tree.{object_at}
use Rattle.build_walk.specs.Kept.{IsOldElement}
use Rattle.build_walk.specs.Merging.{Serving, Merged, first_serving, later_servings, listing, merge_at, merge}
use Rattle.build_walk.specs.Past.{Pasts}
use Rattle.build_walk.specs.Renewing.{AreDrawn}
use Rattle.build_walk.specs.Standing.{KeepsDrawn}
use Rattle.build_walk.proofs.Settled.{still_drawn}

some_same : (x y : RenderObject) → Some x ≡ Some y → x ≡ y
some_same x y e = cc

pub drawn_on : (r s : Tree RenderObject) (scrolled : ℕ → ℕ) (f : Forest Element) → KeepsDrawn r s → AreDrawn (object_at r) scrolled f → AreDrawn (object_at s) scrolled f
drawn_on r s scrolled f keeps d = still_drawn (object_at r) (object_at s) scrolled Plain None f (λ k i. keeps k) d

pub old_on : (pasts : Pasts) (scrolled : ℕ → ℕ) (olds : List Value) (t : Tree Element) (r s : Tree RenderObject) (h : Handle) → KeepsDrawn r s → IsOldElement pasts scrolled olds t r h → IsOldElement pasts scrolled olds t s h
old_on pasts scrolled olds t r s h keeps old = record { holds = old.holds; tells = old.tells; drawn = drawn_on r s scrolled (subtree_at t h) keeps old.drawn }

pub keeps_both : (r s x : Tree RenderObject) → KeepsDrawn r s → KeepsDrawn s x → KeepsDrawn r x
keeps_both r s x first later = λ k o stored.
    let a = first k o stored in
    let b = later k a.0 a.1 in
    (b.0, b.1, b.2 ∙ a.2, b.3 ∙ a.3)

abbrev value_in : Option (TreeNode RenderObject) → Option RenderObject
value_in q = option_map (λ (n : TreeNode RenderObject). n.value) q

there : (q : Option (TreeNode RenderObject)) (o : RenderObject) → value_in q ≡ Some o → IsSome q
there None o e = cc
there (Some n) o e = refl

pub keeps_added : (r s : Tree RenderObject) → Keeps r s → KeepsDrawn r s
keeps_added r s keeps = λ k o stored. (o, ap value_in (keeps k (there (node_at r k) o stored)) ∙ stored, refl, refl)

module _ (r s : Tree RenderObject) (es : List (PlanEntry Redraw)) (commits : CommitsPart redrawn es r.nodes s.nodes) where
  part_by : (k : Handle) (o : RenderObject) (x : Option (PlanEntry Redraw)) (q : Option (TreeNode RenderObject)) → value_in q ≡ Some o
      → (w : RenderObject) × (value_in (kept_by redrawn x es k q) ≡ Some w) × (w.number ≡ o.number) × (w.scroll ≡ o.scroll)
  part_by k o x None e = absurd (cc)
  part_by k o None (Some n) e = let is = some_same n.value o e in (n.value, refl, ap (λ (v : RenderObject). v.number) is, ap (λ (v : RenderObject). v.scroll) is)
  part_by k o (Some y) (Some n) e =
      let is = some_same n.value o e in
      (redrawn y.update n.value, refl, ap (λ (v : RenderObject). v.number) is, ap (λ (v : RenderObject). v.scroll) is)

  pub keeps_part : KeepsDrawn r s
  keeps_part = λ k o stored.
      let w = part_by k o (entry_at es k) (node_at r k) stored in
      (w.0, ap value_in (commits.nodes k) ∙ w.1, w.2, w.3)

-- ---- of handles in a plan

module _ {U : Type 0} (test : U → Bool) (P : Handle → Type 0) where
  each_left : (xs ys : List Handle) → All P xs → All P ys → All P (xs ++ ys)
  each_left [] ys h k = k
  each_left (x ∷ xs) ys h k = All-cons P x (xs ++ ys) (h 0 x (omega arith)) (each_left xs ys (All-tail P x xs h) k)

  planned_parts : (xs ys : List (PlanEntry U)) → planned (xs ++ ys) ≡ planned xs ++ planned ys
  planned_parts [] ys = refl
  planned_parts (x ∷ xs) ys = ap (λ l. x.at ∷ l) (planned_parts xs ys)

  abbrev AllServed : List (Serving U) → Type 0
  AllServed ss = All (λ (x : Serving U). All P (planned x.entries)) ss

  first_served : (ss : List (Serving U)) → AllServed ss → All P (planned (first_serving ss).entries)
  first_served [] h = All-nil P
  first_served (x ∷ ss) h = h 0 x (omega arith)

  later_served : (ss : List (Serving U)) → AllServed ss → AllServed (later_servings ss)
  later_served [] h = h
  later_served (x ∷ ss) h = All-tail (λ (x : Serving U). All P (planned x.entries)) x ss h

  merged_at : (t : Bool) (e : PlanEntry U) (ss : List (Serving U)) (later : List (Serving U) → Merged U) → P e.at → AllServed ss → ((xs : List (Serving U)) → AllServed xs → All P (planned (later xs).plan))
      → All P (planned (merge_at t e ss later).plan)
  merged_at true e ss later here h go =
      subst (All P) (sym (planned_parts (first_serving ss).entries (listing (first_serving ss).children e ∷ (later (later_servings ss)).plan)))
      (each_left (planned (first_serving ss).entries) (e.at ∷ planned (later (later_servings ss)).plan) (first_served ss h)
      (All-cons P e.at (planned (later (later_servings ss)).plan) here (go (later_servings ss) (later_served ss h))))
  merged_at false e ss later here h go = All-cons P e.at (planned (later ss).plan) here (go ss h)

  pub merged_named : (es : List (PlanEntry U)) (ss : List (Serving U)) → All P (planned es) → AllServed ss → All P (planned (merge test es ss).plan)
  merged_named [] ss h k = All-nil P
  merged_named (e ∷ es) ss h k = merged_at (test e.update) e ss (merge test es) (h 0 e.at (omega arith)) k (λ xs q. merged_named es xs (All-tail P e.at (planned es) h) q)
