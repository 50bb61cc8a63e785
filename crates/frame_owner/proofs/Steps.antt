-- Both steps of a build, as steps of render nodes.
use Rattle.std.proofs.Common.{◌≡◌, ℕ, ◌≤◌, true, cond, Option, Some, None, List, [], ◌∷◌, refl, sym, ap, ◌∙◌, inl, inr, arith}
use Rattle.fx_handles.specs.declared.Handle.{Handle}
use Rattle.fx_handles.specs.Handle.{same, times, Among}
use Rattle.fx_handles.specs.HandleLaws.{cases_same, times_here, times_there}
use Rattle.node_tree.specs.Children.{Keeps}
use Rattle.node_tree.specs.Forest.{Forest, count}
use Rattle.node_tree.specs.Forest.Forest.{none, tree}
use Rattle.node_tree.specs.Plan.{PlanEntry, entries, planned, IsUpdated}
use Rattle.node_tree.specs.Tree.{Tree, parent_at}
use Rattle.node_tree.proofs.ForestLemmas.{weigh-append}
use Rattle.node_tree.proofs.PlanLemmas.{times-entries}
use Rattle.tree_marks.specs.Marks.{listed}
use Rattle.widget_model.specs.Plain.{PlainWidget}
use Rattle.plain_tree.specs.declared.role.RenderRole.TheVariants.{Plain}
use Rattle.program_check.specs.Checked.{PlainChecked}
use Rattle.element_tree.specs.Element.{Element, made_count}
use Rattle.global_keys.specs.Holders.{Registry}
use Rattle.render_sync.specs.Synced.{Grows}
use Rattle.render_tree.specs.Changes.{EachEntry, SomeEntry}
use Rattle.render_tree.specs.Object.{RenderObject}
use Rattle.render_tree.specs.Redraw.{Redraw, redrawn}
use Rattle.render_tree.specs.Tree.{object_at}
use Rattle.build_form.specs.FullBuild.{Screen}
use Rattle.build_walk.specs.Renewing.{drawn}
use Rattle.kept_phases.specs.Parts.{RedrawsPart}
use Rattle.kept_phases.specs.Redraws.{Redraws}
use Rattle.build_owner.specs.Losing.{LeavesAt}
use Rattle.build_owner.specs.Making.{MakesNodes}
use Rattle.build_owner.specs.Phases.{IsFirstPhase, IsWholeBuild}
use Rattle.build_owner.specs.Redrawn.{IsPartRedrawn}
use Rattle.build_owner.specs.Standing.{Beginning}
use Rattle.build_owner.specs.Waiting.{WaitingBuild}

-- new nodes stand nowhere yet
pub grows_by : (low high : ℕ) (old made : Tree RenderObject) → Keeps old made → MakesNodes low high old made → Grows old made
grows_by low high old made keeps makes = record {
  keeps = keeps;
  fresh = λ k n gone at. let x = makes.fresh k n gone at in (x.0, x.1, x.2);
  root = makes.root;
}

abbrev pub whole_redraws : (c : PlainChecked) (t0 : Tree Element) (r0 : Tree RenderObject) (g0 : Registry) (b : Beginning c t0 r0 g0) (screen : Screen) (w : PlainWidget) (was : Tree RenderObject) (t : Tree Element)
    (r : Tree RenderObject) (g : Registry) → IsWholeBuild c t0 r0 g0 b screen w was t r g → Redraws was r
whole_redraws c t0 r0 g0 b screen w was t r g p = record {
  made = p.made;
  grows = grows_by p.before (made_count t) was p.made p.keeps p.makes;
  updates = drawn Plain None p.stands.elements.forest;
  nodes = p.redrawn.nodes;
  updated = p.redrawn.updated;
  committed = p.redrawn.committed;
  is = p.redrawn.is;
  laid = p.redrawn.laid;
  laid_anew = p.redrawn.laid_anew;
  painted = p.redrawn.painted;
  painted_anew = p.redrawn.painted_anew;
  laid_marked = p.redrawn.laid_marked;
  layouts = p.redrawn.layouts;
  paints = p.redrawn.paints;
}

-- ---- the first phase: some entry of a plan that names no handle twice is the one for its handle

module _ (P : PlanEntry Redraw → Type 0) where
  none_for : (k : Handle) (es : List (PlanEntry Redraw)) → times k (planned es) ≡ 0 → EachEntry (λ e. e.at ≡ k → P e) es
  none_for k [] away = tt
  none_for k (e ∷ es) away = elim (cases_same e.at k) [
    | inl here ↦ absurd (let one = times_here k (planned es) in let same_times = ap (λ h. times k (h ∷ planned es)) here in omega (arith, one, same_times, away))
    | inr ne ↦ let more = times_there k e.at (planned es) ne in ((λ here. absurd (ne here)), none_for k es (omega (arith, more, away)))
  ]

  some_is_each : (es : List (PlanEntry Redraw)) → ((k : Handle) → times k (planned es) ≤ 1) → SomeEntry P es → (k : Handle) × Among k (planned es) × EachEntry (λ e. e.at ≡ k → P e) es
  some_is_each [] once h = absurd h
  some_is_each (e ∷ es) once (inl here) =
      let one = times_here e.at (planned es) in
      let few = once e.at in
      (e.at, omega (arith, one), ((λ same_at. here), none_for e.at es (omega (arith, one, few))))
  some_is_each (e ∷ es) once (inr later) =
      let fewer : (k : Handle) → times k (planned es) ≤ 1 = λ k. elim (cases_same e.at k) [
        | inl here ↦ let one = times_here k (planned es) in let same_times = ap (λ h. times k (h ∷ planned es)) here in let few = once k in omega (arith, one, same_times, few)
        | inr ne ↦ let more = times_there k e.at (planned es) ne in let few = once k in omega (arith, more, few)
      ] in
      let x = some_is_each es fewer later in
      elim (cases_same e.at x.0) [
        | inl here ↦
            let among = x.1 in
            let one = times_here x.0 (planned es) in
            let same_times = ap (λ h. times x.0 (h ∷ planned es)) here in
            let few = once x.0 in
            absurd (omega (arith, among, one, same_times, few))
        | inr ne ↦
            let among = x.1 in
            let more = times_there x.0 e.at (planned es) ne in
            (x.0, omega (arith, among, more), ((λ here. absurd (ne here)), x.2))
      ]

updated_count : (at : Handle → Option RenderObject) (k : Handle) (g : Forest Redraw) (f : Forest RenderObject) → IsUpdated redrawn at g f → count k g ≡ count k f
updated_count at k none none u = refl
updated_count at k none (tree j v below rest) u = absurd u
updated_count at k (tree h x kids more) none u = absurd u
updated_count at k (tree h x kids more) (tree j v below rest) u =
    let a = updated_count at k kids below u.2 in
    let b = updated_count at k more rest u.3 in
    let c = ap (λ y. cond {A = ℕ} (same y k) 1 0) u.0 in
    omega (arith, a, b, c)

each_weaker : (P Q : PlanEntry Redraw → Type 0) → ((e : PlanEntry Redraw) → P e → Q e) → (es : List (PlanEntry Redraw)) → EachEntry P es → EachEntry Q es
each_weaker P Q f [] h = tt
each_weaker P Q f (e ∷ es) h = (f e h.0, each_weaker P Q f es h.1)

some_at : (P : PlanEntry Redraw → Type 0) (k : Handle) (es : List (PlanEntry Redraw)) → Among k (planned es) → EachEntry (λ e. e.at ≡ k → P e) es → (e : PlanEntry Redraw) × (e.at ≡ k) × P e
some_at P k [] among all = absurd (omega (arith, among))
some_at P k (e ∷ es) among all = elim (cases_same e.at k) [
  | inl here ↦ (e, here, all.0 here)
  | inr ne ↦ let more = times_there k e.at (planned es) ne in some_at P k es (omega (arith, among, more)) all.1
]

module _ (made new : Tree RenderObject) (d : Forest Redraw) (p : IsPartRedrawn made new d) where
  once : (k : Handle) → times k (planned (entries None d)) ≤ 1
  once k =
      let one = p.is.distinct k in
      let sum = weigh-append (λ y. cond {A = ℕ} (same y k) 1 0) p.nodes p.others in
      let same_count = updated_count (object_at made) k d p.nodes p.updated in
      let same_times = times-entries k None d in
      omega (arith, one, sum, same_count, same_times)

  -- of each node that loses a child: one that is planned, and put elsewhere
  pub loses : (q : Handle) → listed q p.lost ≡ true
      → (k : Handle) × Among k (planned (entries None d)) × (parent_at made k ≡ Some q) × EachEntry (λ e. e.at ≡ k → e.parent ≡ Some q → ⊥) (entries None d)
  loses q lost =
      let x = some_is_each (LeavesAt made q) (entries None d) once (p.left q lost) in
      let y = some_at (LeavesAt made q) x.0 (entries None d) x.1 x.2 in
      (x.0, x.1, ap (parent_at made) (sym y.1) ∙ y.2.0, each_weaker (λ e. e.at ≡ x.0 → LeavesAt made q e) (λ e. e.at ≡ x.0 → e.parent ≡ Some q → ⊥) (λ e f here. (f here).1) (entries None d) x.2)

abbrev pub redraws_of_part : (old made new : Tree RenderObject) (d : Forest Redraw) → Grows old made → IsPartRedrawn made new d → RedrawsPart old new
redraws_of_part old made new d grows p = record {
  made = made;
  grows = grows;
  updates = d;
  nodes = p.nodes;
  others = p.others;
  updated = p.updated;
  committed = p.committed;
  commits = p.commits;
  is = p.is;
  root = p.root;
  laid = p.laid;
  laid_anew = p.laid_anew;
  painted = p.painted;
  painted_anew = p.painted_anew;
  lost = p.lost;
  shortened = p.shortened;
  left = loses made new d p;
  laid_marked = p.laid_marked;
  layouts = p.layouts;
  paints = p.paints;
}

abbrev pub part_redraws : (c : PlainChecked) (t0 : Tree Element) (r0 : Tree RenderObject) (g0 : Registry) (b : Beginning c t0 r0 g0) (w : PlainWidget) (t : Tree Element) (r : Tree RenderObject) (g : Registry) (l : WaitingBuild)
    → IsFirstPhase c t0 r0 g0 b w t r g l → RedrawsPart r0 r
part_redraws c t0 r0 g0 b w t r g l p =
    redraws_of_part r0 p.made r _ (grows_by (made_count t0) (made_count t) r0 p.made p.walked.since.renders p.walked.makes) p.redrawn
