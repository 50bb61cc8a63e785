-- A build for which no lazy list waits brings the render nodes to those of its tree in one step.
use Rattle.std.proofs.Common.{◌≡◌, ℕ, true, Bool, cond, IsSome, Option, Some, None, option_map, List, [], length, refl, ap, sym, ◌∙◌, subst, inl, inr, arith}
use Rattle.std.specs.Option.{option_to_list}
use Rattle.fx_handles.specs.declared.Handle.{Handle}
use Rattle.fx_handles.specs.Handle.{same}
use Rattle.fx_handles.specs.HandleLaws.{cases_same, same-ne}
use Rattle.node_tree.specs.Forest.{TreeNode, Forest, count, In, IsDistinct}
use Rattle.node_tree.specs.Forest.Forest.{none, tree}
use Rattle.node_tree.specs.Plan.{PlanEntry, entries, IsPlan, IsUpdated}
use Rattle.node_tree.specs.Tree.{Tree, Is, IsNode, node_at}
use Rattle.node_tree.proofs.ForestLemmas.{is_zero}
use Rattle.node_tree.proofs.PlanLemmas.{plan_of, tops-updated, weigh-updated}
use Rattle.widget_model.specs.Plain.{PlainWidget}
use Rattle.plain_tree.specs.PlainNode.{PlainNode}
use Rattle.plain_tree.specs.Projection.{render_of}
use Rattle.plain_tree.specs.Render.{no_renders, more_renders}
use Rattle.plain_tree.specs.declared.role.RenderRole.TheVariants.{Plain}
use Rattle.program_check.specs.Checked.{PlainChecked}
use Rattle.tree_marks.specs.Marking.{at_top}
use Rattle.tree_marks.specs.Marks.{sweep}
use Rattle.element_tree.specs.Element.{Element}
use Rattle.global_keys.specs.Holders.{Registry}
use Rattle.render_tree.specs.Changes.{LaidAnew, PaintedAnew}
use Rattle.render_tree.specs.Marks.{layout_marks, paint_marks}
use Rattle.render_tree.specs.Object.{RenderObject}
use Rattle.render_tree.specs.Plain.{renders_of, root_tree}
use Rattle.render_tree.specs.Redraw.{Redraw, redrawn}
use Rattle.render_tree.specs.Tree.{object_at}
use Rattle.render_sync.specs.Numbering.{NumbersDiffer}
use Rattle.render_sync.specs.Synced.{Synced}
use Rattle.screen_owner.specs.Changes.{AreKindsSo}
use Rattle.screen_owner.specs.Standing.{StandsAlone}
use Rattle.screen_owner.specs.Steps.{Brings}
use Rattle.screen_owner.proofs.Bringing.{renders_layout, renders_paint}
use Rattle.screen_owner.proofs.Showing.{root_forest}
use Rattle.build_form.specs.FullBuild.{Screen}
use Rattle.build_walk.specs.Renewing.{drawn}
use Rattle.build_owner.specs.Phases.{IsWholeBuild}
use Rattle.build_owner.specs.Standing.{StandsFor, Beginning}
use Rattle.work_sets.specs.Work.{render_root}
use Rattle.frame_owner.proofs.Named.{none_beside}
use Rattle.frame_owner.proofs.Shown as shown

live_updated : (t : Tree RenderObject) (k : Handle) (g : Forest Redraw) (f : Forest RenderObject) → IsUpdated redrawn (object_at t) g f → In k g → IsNode t k
live_updated t k none none u among = absurd (omega (arith, among))
live_updated t k none (tree j v below rest) u among = absurd u
live_updated t k (tree h x kids more) none u among = absurd u
live_updated t k (tree h x kids more) (tree j v below rest) u among = elim (cases_same h k) [
  | inl e ↦ subst (IsNode t) e (stored (node_at t h) u.1)
  | inr ne ↦
      let here : cond {A = ℕ} (same h k) 1 0 ≡ 0 = ap (λ (b : Bool). cond {A = ℕ} b 1 0) (same-ne h k ne) in
      elim (is_zero (count k kids)) [
        | inl gone ↦ live_updated t k more rest u.3 (omega (arith, among, here, gone))
        | inr there ↦ live_updated t k kids below u.2 there
      ]
]
  where
    none_some : None ≡ Some v → ⊥
    none_some e = cc

    stored : (o : Option (TreeNode RenderObject)) → option_map (redrawn x) (option_map (λ (n : TreeNode RenderObject). n.value) o) ≡ Some v → IsSome o
    stored None e = absurd (none_some e)
    stored (Some n) e = refl

-- what stands for a tree stands alone, where no two nodes have one number
pub stands_alone : (c : PlainChecked) (marks : List ℕ) (old : Option PlainNode) (scrolled : ℕ → ℕ) (t : Tree Element) (r : Tree RenderObject) (g : Registry) → StandsFor c marks old scrolled t r g → NumbersDiffer r → StandsAlone r
stands_alone c marks old scrolled t r g h differ = record { tree = (h.renders.objects, h.renders.is); alone = none_beside c marks old scrolled t r g h; differ = differ }

module _ (c : PlainChecked) (t0 : Tree Element) (r0 : Tree RenderObject) (g0 : Registry) (b : Beginning c t0 r0 g0) (screen : Screen) (w : PlainWidget) (t : Tree Element) (r : Tree RenderObject) (g : Registry)
    (p : IsWholeBuild c t0 r0 g0 b screen w r0 t r g) (one : length (render_of p.tree) ≡ 1) where
  abbrev updates : Forest Redraw
  updates = drawn Plain None p.stands.elements.forest

  abbrev plan : List (PlanEntry Redraw)
  plan = entries None (drawn Plain None p.stands.elements.forest)

  renders_now : renders_of (root_tree r) ≡ more_renders (render_root p.tree) no_renders
  renders_now = shown.root_renders c [] p.tree b.scrolled t r g p.stands one

  alone_now : r.inactive ≡ []
  alone_now = shown.alone c [] p.tree b.scrolled t r g p.stands one

  is_laid : Is p.redrawn.laid_marked (sweep layout_marks true p.redrawn.laid at_top p.redrawn.nodes)
  is_laid = p.redrawn.layouts.plain p.redrawn.nodes p.redrawn.is

  is_now : Is r (sweep paint_marks true p.redrawn.painted at_top (sweep layout_marks true p.redrawn.laid at_top p.redrawn.nodes))
  is_now = p.redrawn.paints.plain (sweep layout_marks true p.redrawn.laid at_top p.redrawn.nodes) is_laid

  nodes_renders : renders_of p.redrawn.nodes ≡ more_renders (render_root p.tree) no_renders
  nodes_renders =
      sym (renders_paint true p.redrawn.painted at_top (sweep layout_marks true p.redrawn.laid at_top p.redrawn.nodes) ∙ renders_layout true p.redrawn.laid at_top p.redrawn.nodes)
      ∙ (ap renders_of (sym (root_forest r (sweep paint_marks true p.redrawn.painted at_top (sweep layout_marks true p.redrawn.laid at_top p.redrawn.nodes)) alone_now is_now)) ∙ renders_now)

  root_now : r.root ≡ p.redrawn.committed.root
  root_now = p.redrawn.paints.root ∙ p.redrawn.layouts.root

  record HasRoot : Type 0 where
    at : Handle
    is_root : p.redrawn.committed.root ≡ Some at

  has_root : HasRoot
  has_root = by_root p.redrawn.committed.root refl (subst IsSome root_now (shown.has_root c [] p.tree b.scrolled t r g p.stands one))
    where
      some_of_none : {A : Type 0} → IsSome {T = Handle} None → A
      some_of_none e = absurd (cc)

      by_root : (o : Option Handle) → p.redrawn.committed.root ≡ o → IsSome o → HasRoot
      by_root None e some = some_of_none some
      by_root (Some k) e some = record { at = k; is_root = e }

  distinct : IsDistinct updates
  distinct k = let a = weigh-updated redrawn (λ j. cond {A = ℕ} (same j k) 1 0) (object_at p.made) updates p.redrawn.nodes p.redrawn.updated in let once = p.redrawn.is.distinct k in omega (arith, a, once)

  is_plan : IsPlan p.made plan (Some has_root.at) [] updates
  is_plan =
      plan_of p.made plan (Some has_root.at) [] updates refl
      (ap (λ (o : Option Handle). option_to_list o) (sym has_root.is_root) ∙ (p.redrawn.root ∙ sym (tops-updated redrawn (object_at p.made) updates p.redrawn.nodes p.redrawn.updated)))
      distinct (λ k among. live_updated p.made k updates p.redrawn.nodes p.redrawn.updated among)

  synced : NumbersDiffer p.made → Synced r0 r (render_root p.tree)
  synced differ = record {
    made = p.made;
    grows = record {
      keeps = p.keeps;
      fresh = λ k n gone there. let x = p.makes.fresh k n gone there in (x.0, x.1, x.2);
      root = p.makes.root;
    };
    differ = differ;
    plan = plan;
    root = has_root.at;
    updates = updates;
    nodes = p.redrawn.nodes;
    is_plan = is_plan;
    updated = p.redrawn.updated;
    renders = nodes_renders;
    committed = p.redrawn.committed;
    commits = p.redrawn.commits;
    is = p.redrawn.is;
    at_root = has_root.is_root;
    laid = p.redrawn.laid;
    laid_anew = subst (λ (o : Option Handle). LaidAnew p.made o plan p.redrawn.laid) has_root.is_root p.redrawn.laid_anew;
    painted = p.redrawn.painted;
    painted_anew = subst (λ (o : Option Handle). PaintedAnew p.made o plan p.redrawn.painted) has_root.is_root p.redrawn.painted_anew;
    laid_marked = p.redrawn.laid_marked;
    layouts = p.redrawn.layouts;
    paints = p.redrawn.paints;
  }

  pub brings : NumbersDiffer r0 → NumbersDiffer p.made → NumbersDiffer r → AreKindsSo r0 (render_root p.tree) → Brings r0 r (render_root p.tree)
  brings old made new kinds = record {
    before = stands_alone c b.marks b.old b.scrolled t0 r0 g0 b.stands old;
    kinds = kinds;
    synced = synced made;
    after = stands_alone c [] (Some p.tree) b.scrolled t r g p.stands new;
    renders = renders_now;
  }
