-- What was built in place is a whole build.
use Rattle.std.proofs.Common.{◌≡◌, ℕ, ◌+◌, Option, Some, None, option_map, List, [], ◌++◌, refl, sym, ap, ◌∙◌, subst, arith}
use Rattle.std.specs.Option.{option_to_list}
use Rattle.std.proofs.lemmas.List.{append-nil}
use Rattle.fx_handles.specs.declared.Handle.{Handle}
use Rattle.node_tree.specs.Forest.{Forest, tops, size, append, plain}
use Rattle.node_tree.specs.Forest.Forest.{none, tree}
use Rattle.node_tree.specs.Tree.{Tree, Is, IsNode, node_at}
use Rattle.node_tree.proofs.ForestLemmas.{plain_is}
use Rattle.node_tree.proofs.PlanLemmas.{weigh-updated}
use Rattle.node_tree.proofs.TreeLemmas.{size_is}
use Rattle.widget_model.specs.Plain.{PlainWidget}
use Rattle.program_check.specs.Checked.{PlainChecked}
use Rattle.plain_tree.specs.PlainNode.{PlainNode}
use Rattle.plain_tree.specs.declared.role.RenderRole.TheVariants.{Plain}
use Rattle.build_form.specs.Entering.{first, depth_limit}
use Rattle.build_form.specs.FullBuild.{Screen, started, basis, first_tree, full_build, built}
use Rattle.build_form.specs.Partner.{root_arrival}
use Rattle.build_form.specs.Program.{blueprint_of}
use Rattle.build_form.specs.Step.{gives}
use Rattle.element_tree.specs.Element.{Element, made_count}
use Rattle.element_tree.specs.Nodes.{nodes_of}
use Rattle.global_keys.specs.Holders.{Registry}
use Rattle.global_keys.specs.Named.{NamesExactly}
use Rattle.render_tree.specs.Object.{RenderObject}
use Rattle.render_tree.specs.Redraw.{redrawn}
use Rattle.render_tree.specs.Tree.{object_at}
use Rattle.build_walk.specs.Keeping.{reenter}
use Rattle.build_walk.specs.Kept.{node_over}
use Rattle.build_walk.specs.Renewing.{drawn}
use Rattle.build_walk.specs.Standing.{ElementsStandFor, RendersStandFor, pasts_from}
use Rattle.build_owner.specs.Making.{MakesNodes}
use Rattle.build_owner.specs.Phases.{IsWholeBuild, above_all}
use Rattle.build_owner.specs.Redrawn.{IsRedrawn}
use Rattle.build_owner.specs.Standing.{Beginning, next_at}
use Rattle.build_owner.proofs.Firstly.{stored_live}
use Rattle.build_owner.proofs.Sizes.{size_counted, size_drawn}
use Rattle.first_builds.specs.Inflated.{IsInflated, progress_at}
use Rattle.first_builds.specs.Mounted.{mounted}
use Rattle.first_builds.specs.Scattered.{scattered_node, scattered, MountedAs}
use Rattle.first_builds.proofs.InPlace.{updated_as, redrawn_in_place}
use Rattle.first_builds.proofs.Placing.{mounted_as}
use Rattle.first_builds.proofs.Scattering.{scattered_at, inserted_map}

-- ---- nothing stood before

pub one_forest : {T : Type 0} (t : Tree T) (f g : Forest T) → Is t f → Is t g → f ≡ g
one_forest t f g one two =
    let n : ℕ = size f + size g in
    sym (plain_is (node_at t) None f n one.stands (omega arith)) ∙ (ap (plain n (node_at t)) (sym one.tops ∙ two.tops) ∙ plain_is (node_at t) None g n two.stands (omega arith))

pub no_node : {T : Type 0} (t : Tree T) (k : Handle) → Is t none → IsNode t k → ⊥
no_node t k is live = let there = is.whole k live in omega (arith, there)

none_old : (o : Option PlainNode) → option_to_list o ≡ [] → o ≡ None
none_old None e = refl
none_old (Some n) e = absurd (cc)

pub old_none : (c : PlainChecked) (marks : List ℕ) (old : Option PlainNode) (scrolled : ℕ → ℕ) (t : Tree Element) → ElementsStandFor c marks old scrolled t → Is t none → old ≡ None
old_none c marks old scrolled t s is = none_old old (s.nodes ∙ ap (nodes_of scrolled) (one_forest t s.forest none s.is is))

-- new nodes were made since nothing stood
since_nothing : (low high : ℕ) (old new : Tree RenderObject) → Is old none → old.root ≡ None → MakesNodes low high (scattered old) (scattered new) → MakesNodes low high old (scattered new)
since_nothing low high old new is root makes = record {
  fresh = λ k n absent there. makes.fresh k n (alone k absent) there;
  once = λ j k m n gone absent has there same. makes.once j k m n (alone j gone) (alone k absent) has there same;
  grows = makes.grows;
  few = let a = makes.few in let b = inserted_map scattered_node old.nodes in omega (arith, a, b);
  root = sym root;
}
  where
    alone : (k : Handle) → node_at old k ≡ None → node_at (scattered old) k ≡ None
    alone k absent = scattered_at old k ∙ ap (option_map scattered_node) absent

-- ---- the whole build

module _ (c : PlainChecked) (t0 : Tree Element) (r0 : Tree RenderObject) (g0 : Registry) (b : Beginning c t0 r0 g0) (screen : Screen) (w : PlainWidget) (t : Tree Element) (r : Tree RenderObject) (g : Registry) (h : Handle) (entered : ℕ)
    (no_elements : Is t0 none) (no_renders : Is r0 none)
    (p : IsInflated (blueprint_of c) (pasts_from c b.stands.elements.forest) depth_limit (blueprint_of c).defaults b.scrolled above_all w 0 (started (next_at t0)) (progress_at entered g t) t0 t r0 r h) where
  abbrev pub new_forest : Forest Element
  new_forest = tree h p.value p.kids none

  abbrev pub new_node : PlainNode
  new_node = node_over b.scrolled p.value p.kids

  abbrev pub new_renders : Forest RenderObject
  new_renders = mounted Plain None new_forest

  append_nothing : (f : Forest RenderObject) → append f none ≡ f
  append_nothing none = refl
  append_nothing (tree k v below rest) = ap (tree k v below) (append_nothing rest)

  pub are_elements : Is t new_forest
  are_elements = p.elements none no_elements

  pub are_renders : Is r new_renders
  are_renders = subst (Is r) (append_nothing new_renders) (p.renders none no_renders)

  pub as_planned : MountedAs (drawn Plain None new_forest) new_renders
  as_planned = mounted_as Plain None new_forest

  pub root_so : r.inactive ≡ [] → option_to_list r.root ≡ tops new_renders
  root_so alone = sym (append-nil (option_to_list r.root)) ∙ ap (λ hs. option_to_list r.root ++ hs) (sym alone) ∙ are_renders.tops

  -- the definition's first phase
  pub first_so : reenter (basis (blueprint_of c) b.old) (pasts_from c b.stands.elements.forest) first depth_limit (blueprint_of c).defaults (root_arrival b.old w) (started (next_at t0)) ≡ first_tree (blueprint_of c) b.old (next_at t0) w
      → first_tree (blueprint_of c) b.old (next_at t0) w ≡ gives new_node (progress_at entered g t)
  first_so same =
      let nothing = old_none c b.marks b.old b.scrolled t0 b.stands.elements no_elements in
      sym same
      ∙ ap (λ o. reenter (basis (blueprint_of c) o) (pasts_from c b.stands.elements.forest) first depth_limit (blueprint_of c).defaults (root_arrival o w) (started (next_at t0))) nothing
      ∙ p.is

  module _ (full : full_build (blueprint_of c) screen b.old (next_at t0) w ≡ built new_node (next_at t)) (names : NamesExactly g t) (root : r0.root ≡ None) (alone : r.inactive ≡ [])
      (makes : MakesNodes (made_count t0) (made_count t) (scattered r0) (scattered r)) (elements : (s : ElementsStandFor c [] (Some new_node) b.scrolled t) × (s.forest ≡ new_forest))
      (renders : RendersStandFor (Some new_node) b.scrolled new_forest r) where
    pub whole_in_place : IsWholeBuild c t0 r0 g0 b screen w r0 t r g
    whole_in_place = record {
      tree = new_node;
      is = full;
      stands = record {
        elements = elements.0;
        renders = subst (λ f. RendersStandFor (Some new_node) b.scrolled f r) (sym elements.1) renders;
        names = names;
      };
      made = scattered r;
      keeps = λ k live. absurd (no_node r0 k no_renders live);
      before = made_count t0;
      later = omega arith;
      numbers = λ k o stored. absurd (no_node r0 k no_renders (stored_live r0 k o stored));
      makes = since_nothing (made_count t0) (made_count t) r0 r no_renders root makes;
      redrawn = subst (λ f. IsRedrawn (scattered r) r (drawn Plain None f)) (sym elements.1) (redrawn_in_place r (drawn Plain None new_forest) new_renders are_renders as_planned (root_so alone));
      used = sym (size_is t new_forest are_elements) ∙ size_counted b.scrolled h p.value p.kids;
      used_drawn =
          let all = size_is r new_renders are_renders in
          let same = weigh-updated redrawn (λ _. 1) (object_at (scattered r)) (drawn Plain None new_forest) new_renders (updated_as r None (drawn Plain None new_forest) new_renders as_planned are_renders.stands) in
          let few = size_drawn Plain None new_forest in
          let counted = size_counted b.scrolled h p.value p.kids in
          omega (arith, all, same, few, counted);
    }
