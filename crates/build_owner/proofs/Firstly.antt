-- What the walk of the first phase leaves can be committed, and what stands then.
use Rattle.std.proofs.Common.{◌≡◌, ℕ, ◌+◌, Option, Some, None, IsSome, option_map, List, [], ◌∷◌, map, inl, refl, sym, ap, ◌∙◌, subst, arith}
use Rattle.std.proofs.lemmas.List.{append-nil}
use Rattle.fx_handles.specs.Arena.{used_count}
use Rattle.fx_handles.specs.declared.Handle.{Handle}
use Rattle.node_tree.specs.Forest.{TreeNode, Forest, tops, size}
use Rattle.node_tree.specs.Forest.Forest.{none, tree}
use Rattle.node_tree.specs.Plan.{planned}
use Rattle.node_tree.specs.Tree.{Tree, IsNode, node_at}
use Rattle.widget_model.specs.Plain.{PlainWidget}
use Rattle.program_check.specs.Checked.{PlainChecked}
use Rattle.plain_tree.specs.At.{numbers_of}
use Rattle.plain_tree.specs.Laws.{AllDiffer}
use Rattle.plain_tree.specs.PlainNode.{PlainNode}
use Rattle.plain_tree.specs.declared.role.RenderRole.TheVariants.{Plain}
use Rattle.build_form.specs.FullBuild.{Screen, full_build, built}
use Rattle.build_form.specs.Program.{blueprint_of}
use Rattle.element_tree.specs.Element.{Element, made_count}
use Rattle.global_keys.specs.Holders.{Registry}
use Rattle.global_keys.specs.Named.{NamesAmong, NamesExactly}
use Rattle.node_tree.specs.Children.{Keeps}
use Rattle.render_tree.specs.Object.{RenderObject}
use Rattle.render_tree.specs.Tree.{object_at}
use Rattle.build_walk.specs.Kept.{node_over, plain_at_any}
use Rattle.build_walk.specs.Merging.{lists_redraw, AreBare}
use Rattle.build_walk.specs.Renewing.{drawn}
use Rattle.build_walk.specs.Standing.{ElementsStandFor, RendersStandFor}
use Rattle.build_walk.proofs.Bare.{first_bare}
use Rattle.build_walk.proofs.Merging.{bare_nodes, bare_drawn}
use Rattle.build_owner.specs.declared.walk.BuildWalk.{BuildWalk}
use Rattle.build_owner.specs.declared.walk.WaitingSpot.{WaitingSpot}
use Rattle.build_owner.specs.Committing.{CanCommit, CanDraw, whole_drawn}
use Rattle.build_owner.specs.LastFrame.{LastFrame}
use Rattle.build_owner.specs.Making.{MakesNodes}
use Rattle.build_owner.specs.Naming.{AreHeld, HoldsItsKey}
use Rattle.build_owner.specs.Phases.{IsWalkedFirst, IsWholeBuild}
use Rattle.build_owner.specs.Redrawn.{IsPlanOf, IsRedrawn}
use Rattle.build_owner.specs.Standing.{Beginning, next_at}
use Rattle.build_owner.specs.WalkView.{progress_of, waiting_of}
use Rattle.build_owner.proofs.Climbed.{all_among}
use Rattle.build_owner.proofs.Sizes.{size_counted, size_drawn}

-- a render node that is stored is live
pub stored_live : (r : Tree RenderObject) (k : Handle) (o : RenderObject) → object_at r k ≡ Some o → IsNode r k
stored_live r k o stored = by_node (node_at r k) refl stored
  where
    by_node : (q : Option (TreeNode RenderObject)) → node_at r k ≡ q → option_map (λ (n : TreeNode RenderObject). n.value) q ≡ Some o → IsNode r k
    by_node None at e = absurd (cc)
    by_node (Some n) at e = subst IsSome (sym at) refl

-- elements that are recorded for their keys are named
pub held_named : (g : Registry) (t : Tree Element) (hs : List Handle) → AreHeld g t hs → NamesAmong g t hs
held_named g t hs held = record {
  to_element = λ k h holder among. held.to_element k h holder;
  to_holder = λ k h among global. (all_among (HoldsItsKey g t) hs h held.held among).named k global;
}

-- nothing waits where no list was put off
pub none_wait : (f : LastFrame) (walk : BuildWalk) (g : Registry) (t : Tree Element) → walk.spots.items ≡ [] → (progress_of f walk g t).waiting ≡ []
none_wait f walk g t spots = ap (map (λ s. plain_at_any f.scrolled f.elements s.kept)) spots

module _ (c : PlainChecked) (t0 : Tree Element) (r0 : Tree RenderObject) (g0 : Registry) (b : Beginning c t0 r0 g0) (w : PlainWidget) (t : Tree Element) (r : Tree RenderObject) (g : Registry)
    (walk : BuildWalk) (h : Handle) (p : IsWalkedFirst c t0 r0 g0 b w t r g walk h) where
  abbrev pub new_tree : Forest Element
  new_tree = tree h p.entered.value p.entered.kids none

  abbrev pub new_node : PlainNode
  new_node = node_over b.scrolled p.entered.value p.entered.kids

  module _ (differ : AllDiffer (numbers_of new_node)) (top : (k : Handle) × (tops (drawn Plain None new_tree) ≡ k ∷ [])) where
    abbrev pub can_commit : CanCommit t r g walk h
    can_commit = record {
      scrolled = b.scrolled;
      value = p.entered.value;
      kids = p.entered.kids;
      elements = p.entered.walked.elements;
      renders = p.entered.walked.renders;
      go = p.entered.walked.go_on;
      drawn_is = p.entered.walked.drawn;
      differ = subst AllDiffer (sym (append-nil (numbers_of new_node))) differ;
      top = top.0;
      tops_are = p.entered.walked.tops ∙ top.1;
      one_top = top.1;
      names = held_named g t (planned walk.elements.items) p.held;
    }

  -- nothing is planned below lazy lists
  pub first_plan_bare : AreBare lists_redraw (drawn Plain None new_tree)
  first_plan_bare = bare_drawn Plain None new_tree (bare_nodes b.scrolled new_tree (first_bare (blueprint_of c) b.old (next_at t0) w new_node _ p.is, tt))

  -- once that is committed
  module _ (screen : Screen) (t2 : Tree Element) (r2 : Tree RenderObject) (g2 : Registry) (made : made_count t2 ≡ made_count t) (is : full_build (blueprint_of c) screen b.old (next_at t0) w ≡ built new_node (next_at t))
      (names : NamesExactly g2 t2) (keeps : Keeps r0 r) (makes : MakesNodes (made_count t0) (made_count t) r0 r) (redrawn : IsRedrawn r r2 (drawn Plain None new_tree))
      (elements : (s : ElementsStandFor c [] (Some new_node) b.scrolled t2) × (s.forest ≡ new_tree)) (renders : RendersStandFor (Some new_node) b.scrolled new_tree r2)
      (used : used_count t2.nodes ≡ size new_tree) (used_drawn : used_count r2.nodes ≡ size (drawn Plain None new_tree)) where
    pub whole_build : IsWholeBuild c t0 r0 g0 b screen w r0 t2 r2 g2
    whole_build = record {
      tree = new_node;
      is = is ∙ ap (λ n. built new_node (n + 1)) (sym made);
      stands = record {
        elements = elements.0;
        renders = subst (λ f. RendersStandFor (Some new_node) b.scrolled f r2) (sym elements.1) renders;
        names = names;
      };
      made = r;
      keeps = keeps;
      before = made_count t0;
      later = omega arith;
      numbers = λ k o stored. inl (stored_live r0 k o stored);
      makes = subst (λ n. MakesNodes (made_count t0) n r0 r) (sym made) makes;
      redrawn = subst (λ f. IsRedrawn r r2 (drawn Plain None f)) (sym elements.1) redrawn;
      used = used ∙ size_counted b.scrolled h p.entered.value p.entered.kids;
      used_drawn = let few = size_drawn Plain None new_tree in omega (arith, used_drawn, few, size_counted b.scrolled h p.entered.value p.entered.kids);
    }

-- what is planned for render nodes
abbrev pub can_draw : (t : Tree Element) (r : Tree RenderObject) (g : Registry) (walk : BuildWalk) (root : Handle) (p : CanCommit t r g walk root) → AreBare lists_redraw (whole_drawn p) → IsPlanOf r p.top walk.renders.items (whole_drawn p)
    → CanDraw r walk (whole_drawn p)
can_draw t r g walk root p bare plan = record { top = p.top; tops_are = p.tops_are; planned_as = plan; bare = bare }

-- no component more
pub none_more : (n m : ℕ) → m ≡ 0 → n ≡ n + m
none_more n m e = omega (arith, e)

-- ---- lists that wait

pub spots_none : (spots : List WaitingSpot) → map waiting_of spots ≡ [] → spots ≡ []
spots_none [] e = refl
spots_none (s ∷ spots) e = absurd (cc)
