-- A lazy list of a first phase none of whose items is claimed keeps them, and isn't marked for them.
use Rattle.std.proofs.Common.{◌≡◌, ℕ, zero, suc, ◌+◌, ◌≤◌, Bool, true, false, cond, Option, Some, None, IsSome, option_map, List, [], ◌∷◌, refl, sym, ap, ◌∙◌, subst, arith}
use Rattle.fx_handles.specs.declared.Handle.{Handle}
use Rattle.fx_handles.specs.Handle.{same, Among}
use Rattle.fx_handles.specs.HandleLaws.{same-true}
use Rattle.node_tree.specs.Forest.{TreeNode, Forest, count, In, IsDistinct, append}
use Rattle.node_tree.specs.Forest.Forest.{none, tree}
use Rattle.node_tree.specs.Plan.{PlanEntry, entries, planned, IsUpdated}
use Rattle.node_tree.specs.Tree.{Tree, IsNode, node_at, children_at}
use Rattle.node_tree.proofs.ForestLemmas.{weigh-append}
use Rattle.node_tree.proofs.PlanLemmas.{times-entries, weigh-updated}
use Rattle.tree_marks.specs.Marks.{listed}
use Rattle.widget_model.specs.Plain.{PlainWidget}
use Rattle.program_check.specs.Checked.{PlainChecked}
use Rattle.element_tree.specs.Element.{Element}
use Rattle.global_keys.specs.Holders.{Registry}
use Rattle.render_tree.specs.Changes.{KeepsOwn, KeepsLook, KeepsTold, KeepsList, EachEntry, BecomesRoot}
use Rattle.render_tree.specs.Marks.{layout_marks, layout_own, paint_marks}
use Rattle.render_tree.specs.Object.{RenderObject, object_look}
use Rattle.render_tree.specs.Redraw.{Redraw, redrawn}
use Rattle.render_tree.specs.Tree.{object_at}
use Rattle.build_walk.specs.Merging.{lists_redraw, AreBare}
use Rattle.build_owner.specs.Phases.{IsFirstPhase, first_plan_of}
use Rattle.build_owner.specs.Staying.{lists_object, bare, with_items}
use Rattle.build_owner.specs.Standing.{Beginning}
use Rattle.build_owner.specs.Unmarked.{LeavesLaid, LeavesPainted, KeepsItems}
use Rattle.build_owner.specs.Waiting.{WaitingBuild}
use Rattle.build_owner.specs.Losing.{LeavesAt}
use Rattle.build_owner.proofs.Apart.{listed_in_plan}
use Rattle.build_owner.proofs.Firstly.{first_plan_bare}
use Rattle.build_owner.proofs.Stayed.{bare_updated}
use Rattle.build_owner.proofs.Unmoved.{none_of, each_so, by_listed, not_laid, not_painted, Calm, all_calm, marks_keep_children, commit_keeps_children}

-- what a plan keeps of a node, by its update
abbrev pub KeepsOwnAt : Tree RenderObject → Handle → Redraw → Type 0
KeepsOwnAt t h u = (o : RenderObject) → object_at t h ≡ Some o → layout_own (redrawn u o) ≡ layout_own o

abbrev pub KeepsLookAt : Tree RenderObject → Handle → Redraw → Type 0
KeepsLookAt t h u = (o : RenderObject) → object_at t h ≡ Some o → object_look (redrawn u o) ≡ object_look o

-- a plan's nodes are live
module _ (t : Tree RenderObject) (k : Handle) where
  live_by : (u : Redraw) (o : Option (TreeNode RenderObject)) (v : RenderObject) → node_at t k ≡ o → option_map (redrawn u) (option_map (λ (n : TreeNode RenderObject). n.value) o) ≡ Some v → IsNode t k
  live_by u None v at e = absurd (cc)
  live_by u (Some n) v at e = subst IsSome (sym at) refl

  updated_live : (d : Forest Redraw) (g : Forest RenderObject) → IsUpdated redrawn (object_at t) d g → In k d → IsNode t k
  updated_live none g up i = absurd (omega (arith, i))
  updated_live (tree h u kids rest) none up i = absurd up
  updated_live (tree h u kids rest) (tree j v lower later) up i = by_same (same h k) refl (updated_live kids lower up.2) (updated_live rest later up.3)
    where
      by_count : (n : ℕ) → count k kids ≡ n → same h k ≡ false → (In k kids → IsNode t k) → (In k rest → IsNode t k) → IsNode t k
      by_count zero e s inner after = after (let z = ap (λ b. cond {A = ℕ} b 1 0) s in omega (arith, i, z, e))
      by_count (suc n) e s inner after = inner (omega (arith, e))

      by_same : (b : Bool) → same h k ≡ b → (In k kids → IsNode t k) → (In k rest → IsNode t k) → IsNode t k
      by_same true s inner after = live_by u (node_at t k) v refl (ap (λ x. option_map (redrawn u) (object_at t x)) (sym (same-true h k s)) ∙ up.1)
      by_same false s inner after = by_count (count k kids) refl s inner after

bare_few : (k : Handle) (f : Forest RenderObject) → count k (bare lists_object f) ≤ count k f
bare_few k none = omega arith
bare_few k (tree h o kids rest) = by_test (lists_object o) (bare_few k kids) (bare_few k rest)
  where
    by_test : (b : Bool) → count k (bare lists_object kids) ≤ count k kids → count k (bare lists_object rest) ≤ count k rest
        → count k (tree h o (cond b none (bare lists_object kids)) (bare lists_object rest)) ≤ count k (tree h o kids rest)
    by_test true inner later = omega (arith, later)
    by_test false inner later = omega (arith, inner, later)

module _ (c : PlainChecked) (t0 : Tree Element) (r0 : Tree RenderObject) (g0 : Registry) (b : Beginning c t0 r0 g0) (w : PlainWidget) (t : Tree Element) (r : Tree RenderObject) (g : Registry) (l : WaitingBuild)
    (p : IsFirstPhase c t0 r0 g0 b w t r g l) (k : Handle) (keeps : KeepsItems p.made (first_plan_of p) k) where
  abbrev d : Forest Redraw
  d = first_plan_of p

  abbrev es : List (PlanEntry Redraw)
  es = entries None (with_items p.made d)

  bare_d : AreBare lists_redraw d
  bare_d = first_plan_bare c t0 r0 g0 b w t p.made g l.plan l.root p.walked

  without : IsUpdated redrawn (object_at p.made) d (bare lists_object p.redrawn.nodes)
  without = bare_updated (object_at p.made) d _ p.redrawn.nodes bare_d p.redrawn.updated

  live : (j : Handle) → In j d → IsNode p.made j
  live j i = updated_live p.made j d (bare lists_object p.redrawn.nodes) without i

  once : IsDistinct d
  once j =
      let same_count = weigh-updated redrawn (λ x. cond {A = ℕ} (same x j) 1 0) (object_at p.made) d (bare lists_object p.redrawn.nodes) without in
      let few = bare_few j p.redrawn.nodes in
      let parts = weigh-append (λ x. cond {A = ℕ} (same x j) 1 0) p.redrawn.nodes p.redrawn.others in
      let whole = p.redrawn.is.distinct j in
      omega (arith, same_count, few, parts, whole)

  module _ (Own : Handle → Redraw → Type 0) (own : EachEntry (λ e. e.at ≡ k → Own e.at e.update) (entries None d)) where
    calm : EachEntry (Calm p.made p.made_is.0 p.made_is.1 d k keeps live Own) es
    calm = all_calm p.made p.made_is.0 p.made_is.1 d k keeps live Own once bare_d own

    pub not_lost : listed k p.redrawn.lost ≡ false
    not_lost = by_listed (listed k p.redrawn.lost) (λ on. none_of (LeavesAt p.made k) es (each_so _ (λ e. LeavesAt p.made k e → ⊥) es (λ e x. x.2) calm) (p.redrawn.left k on))

    pub same_children : children_at r k ≡ children_at p.made k
    same_children =
        let x = p.redrawn in
        let in_plan : Among k (planned es) =
        let i = listed_in_plan d k keeps.list in
        let a = weigh-updated redrawn (λ j. cond {A = ℕ} (same j k) 1 0) (object_at p.made) d (bare lists_object x.nodes) without in
        let few = bare_few k x.nodes in
        let n = weigh-updated redrawn (λ j. cond {A = ℕ} (same j k) 1 0) (object_at p.made) (with_items p.made d) x.nodes x.updated in
        let e = times-entries k None (with_items p.made d) in
        omega (arith, i, a, few, n, e) in
        marks_keep_children paint_marks x.laid_marked r x.paints.only x.paints.absent k
        ∙ marks_keep_children layout_marks x.committed x.laid_marked x.layouts.only x.layouts.absent k
        ∙ commit_keeps_children p.made x.committed es x.commits k (each_so _ (λ e. e.at ≡ k → KeepsList p.made e) es (λ e y at. (y.0 at).1) calm) in_plan

    pub leaves_own : EachEntry (λ e. e.at ≡ k → Own e.at e.update × KeepsList p.made e) es
    leaves_own = each_so _ (λ e. e.at ≡ k → Own e.at e.update × KeepsList p.made e) es (λ e x. x.0) calm

    pub leaves_told : EachEntry (λ e. e.parent ≡ Some k → KeepsTold p.made e) es
    leaves_told = each_so _ (λ e. e.parent ≡ Some k → KeepsTold p.made e) es (λ e x. x.1) calm
