-- No two render nodes have one number, while a build goes on.
use Rattle.std.proofs.Common.{◌≡◌, ℕ, ◌+◌, ◌<◌, ◌≤◌, Option, Some, None, IsSome, IfSome, option_map, List, ◌⊎◌, inl, inr, refl, sym, ap, subst, ◌∙◌, arith}
use Rattle.std.proofs.lemmas.Bool.{false≢true}
use Rattle.std.specs.Option.{option_to_list}
use Rattle.fx_handles.specs.declared.Handle.{Handle}
use Rattle.node_tree.specs.Forest.{TreeNode}
use Rattle.node_tree.specs.Tree.{Tree, IsNode, node_at as stored_at}
use Rattle.widget_model.specs.Plain.{PlainWidget}
use Rattle.plain_tree.specs.declared.role.RenderRole.TheVariants.{Plain}
use Rattle.plain_tree.specs.At.{numbers_of}
use Rattle.plain_tree.specs.Laws.{AllDiffer, render_numbers_in}
use Rattle.plain_tree.specs.PlainNode.{PlainNode, nodes_of as listed}
use Rattle.plain_tree.specs.Projection.{projected_all, render_of}
use Rattle.plain_tree.specs.Render.{renders_of as renders_listed}
use Rattle.program_check.specs.Checked.{PlainChecked}
use Rattle.element_tree.specs.Element.{Element, made_count}
use Rattle.global_keys.specs.Holders.{Registry}
use Rattle.render_sync.specs.Numbering.{NumbersDiffer, number_at}
use Rattle.render_tree.specs.Object.{RenderObject, object_look}
use Rattle.render_tree.specs.Tree.{object_at}
use Rattle.layout_owner.specs.Views.{NumbersTell}
use Rattle.screen_owner.proofs.Indexing.{differ_same}
use Rattle.kept_phases.specs.Lists.{StaysBuilt}
use Rattle.build_form.specs.FullBuild.{Screen}
use Rattle.build_form.specs.Numbered.{IsNumbered}
use Rattle.build_owner.specs.Phases.{IsFirstPhase, IsWholeBuild}
use Rattle.build_owner.specs.Standing.{StandsFor, Beginning}
use Rattle.build_owner.specs.Waiting.{WaitingBuild}
use Rattle.frame_owner.proofs.Kept.{were_of, first_numbers}
use Rattle.frame_owner.proofs.Alike.{OneHas}
use Rattle.frame_owner.proofs.Looks.{none_is, number_is}
use Rattle.frame_owner.proofs.Numbered.{forest_differs, made_differ, tells}
use Rattle.frame_owner.proofs.Shown.{projects_one}

-- what stays built has the numbers that it had
stays_numbers : (mid r : Tree RenderObject) → StaysBuilt mid r → (k : Handle) → number_at r k ≡ number_at mid k
stays_numbers mid r stays k = by_mid (object_at mid k) refl
  where
    gone : (x : Option RenderObject) → option_map (λ (o : RenderObject). o.widget) x ≡ None → option_map (λ (o : RenderObject). o.number) x ≡ None
    gone None e = refl
    gone (Some o) e = absurd (cc)

    by_mid : (x : Option RenderObject) → object_at mid k ≡ x → number_at r k ≡ option_map (λ (o : RenderObject). o.number) x
    by_mid None e = gone (object_at r k) (stays.widgets k ∙ ap (option_map (λ (o : RenderObject). o.widget)) e)
    by_mid (Some o) e = let w = stays.drawn k o e in ap (option_map (λ (o : RenderObject). o.number)) w.1 ∙ ap (λ (n : ℕ). Some n) w.2

-- the projection of a tree whose numbers differ has numbers that do
abbrev pub KeepsApart : Type 0
KeepsApart = (n : PlainNode) → AllDiffer (numbers_of n) → AllDiffer (render_numbers_in (renders_listed (render_of n)))

projected_apart : KeepsApart → (old : Option PlainNode) (next : ℕ) → IfSome old (IsNumbered next) → AllDiffer (render_numbers_in (renders_listed (projected_all Plain None (listed (option_to_list old)))))
projected_apart law None next numbered = subst (λ rs. AllDiffer (render_numbers_in (renders_listed rs))) (sym (none_is Plain None)) tt
projected_apart law (Some n) next numbered = subst (λ rs. AllDiffer (render_numbers_in rs)) (sym (projects_one n)) (law n numbered.differ)

pub numbers_apart : (c : PlainChecked) (marks : List ℕ) (old : Option PlainNode) (scrolled : ℕ → ℕ) (t : Tree Element) (r : Tree RenderObject) (g : Registry) → StandsFor c marks old scrolled t r g → KeepsApart → NumbersDiffer r
numbers_apart c marks old scrolled t r g h law =
    forest_differs r h.renders.objects h.renders.is
    (subst (λ rs. AllDiffer (render_numbers_in rs)) (sym h.renders.projected) (projected_apart law old (made_count t + 1) h.elements.numbered))

module _ (c : PlainChecked) (t0 : Tree Element) (r0 : Tree RenderObject) (g0 : Registry) (b : Beginning c t0 r0 g0) where
  -- an old node has one of the numbers that were given
  pub old_below : (k : Handle) (o : RenderObject) → object_at r0 k ≡ Some o → o.number ≤ made_count t0
  old_below k o at = by_old b.old b.stands.elements.numbered (were_of c t0 r0 g0 b k o at)
    where
      by_old : (old : Option PlainNode) → IfSome old (IsNumbered (made_count t0 + 1)) → OneHas old o.number (object_look o) → o.number ≤ made_count t0
      by_old None numbered h = absurd h
      by_old (Some n) numbered h = let low = number_is (λ (x : ℕ). x < made_count t0 + 1) o.number (object_look o) n numbered.below h in omega (arith, low)

  pub made_apart : (screen : Screen) (w : PlainWidget) (t : Tree Element) (r : Tree RenderObject) (g : Registry) (p : IsWholeBuild c t0 r0 g0 b screen w r0 t r g) → NumbersDiffer r0 → NumbersDiffer p.made
  made_apart screen w t r g p differ =
      let later = p.later in
      made_differ p.before (made_count t) r0 p.made differ (λ k o at. let low = old_below k o at in omega (arith, low, later)) p.keeps p.makes

  module _ (w : PlainWidget) (t : Tree Element) (mid : Tree RenderObject) (g : Registry) (l : WaitingBuild) (q : IsFirstPhase c t0 r0 g0 b w t mid g l) where
    pub first_made_apart : NumbersDiffer r0 → NumbersDiffer q.made
    first_made_apart differ = made_differ (made_count t0) (made_count t) r0 q.made differ (λ k o at. old_below k o at) q.walked.since.renders q.walked.makes

    pub first_apart : NumbersDiffer r0 → NumbersDiffer mid
    first_apart differ = differ_same q.made mid (λ k. first_numbers c t0 r0 g0 b w t mid g l q k) (first_made_apart differ)

    pub first_numbers_tell : NumbersDiffer r0 → NumbersTell mid
    first_numbers_tell differ = tells mid (first_apart differ)

    -- the nodes that the second phase makes get numbers that none of the laid out ones has
    pub second_apart : (screen : Screen) (r : Tree RenderObject) → StaysBuilt mid r → (t2 : Tree Element) (r2 : Tree RenderObject) (g2 : Registry) (p : IsWholeBuild c t0 r0 g0 b screen w r t2 r2 g2) → NumbersDiffer r0 → NumbersDiffer p.made
    second_apart screen r stays t2 r2 g2 p differ =
        made_differ p.before (made_count t2) r p.made (differ_same mid r (stays_numbers mid r stays) (first_apart differ)) (λ k o at. below k o at (p.numbers k o at)) p.keeps p.makes
      where
        number_same : (x y : ℕ) → Some x ≡ Some y → x ≡ y
        number_same x y e = cc

        by_old : (k : Handle) (o : RenderObject) → object_at r k ≡ Some o → IsNode r0 k → (x : Option (TreeNode RenderObject)) → stored_at r0 k ≡ x → IsSome x → o.number ≤ p.before
        by_old k o at there None e live = absurd (false≢true live)
        by_old k o at there (Some n) e live =
            let was : object_at r0 k ≡ Some n.value = ap (option_map (λ (y : TreeNode RenderObject). y.value)) e in
            let kept : number_at q.made k ≡ number_at r0 k =
            ap (λ (y : Option (TreeNode RenderObject)). option_map (λ (v : RenderObject). v.number) (option_map (λ (z : TreeNode RenderObject). z.value) y)) (q.walked.since.renders k there) in
            let same : o.number ≡ n.value.number =
            number_same o.number n.value.number
            (sym (ap (option_map (λ (v : RenderObject). v.number)) at)
            ∙ (stays_numbers mid r stays k ∙ (first_numbers c t0 r0 g0 b w t mid g l q k ∙ (kept ∙ ap (option_map (λ (v : RenderObject). v.number)) was)))) in
            let low = old_below k n.value was in
            let later = p.later in
            omega (arith, same, low, later)

        below : (k : Handle) (o : RenderObject) → object_at r k ≡ Some o → IsNode r0 k ⊎ (o.number ≤ p.before) → o.number ≤ p.before
        below k o at (inl there) = by_old k o at there (stored_at r0 k) refl there
        below k o at (inr few) = few
