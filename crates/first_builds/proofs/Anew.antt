-- Where a first build begins, and what it comes to, by what `inflate` says of the root.
use Rattle.std.proofs.Common.{◌≡◌, ℕ, ◌+◌, ◌≤◌, Option, Some, None, IsSome, IfSome, option_map, List, [], ◌∷◌, ◌++◌, refl, sym, ap, ◌∙◌, subst, arith}
use Rattle.std.specs.Option.{option_to_list}
use Rattle.fx_expr.specs.declared.values.Value.{Value}
use Rattle.fx_handles.specs.Arena.{used_count, inserted_count}
use Rattle.fx_handles.specs.declared.Handle.{Handle}
use Rattle.node_tree.specs.Forest.{TreeNode, Forest, tops, size}
use Rattle.node_tree.specs.Forest.Forest.{none, tree}
use Rattle.node_tree.specs.Tree.{Tree, Is, node_at}
use Rattle.node_tree.proofs.TreeLemmas.{size_is}
use Rattle.widget_model.specs.Plain.{PlainWidget}
use Rattle.program_check.specs.Checked.{PlainChecked}
use Rattle.plain_tree.specs.declared.role.RenderRole.TheVariants.{Plain}
use Rattle.plain_tree.specs.PlainNode.{PlainNode, nodes_of as listed}
use Rattle.plain_tree.specs.Projection.{projected_all}
use Rattle.plain_tree.specs.Render.{no_renders, renders_of as renders_listed}
use Rattle.build_form.specs.Entering.{first, depth_limit}
use Rattle.build_form.specs.FullBuild.{started, basis}
use Rattle.build_form.specs.Partner.{arrival, root_arrival}
use Rattle.build_form.specs.Program.{blueprint_of}
use Rattle.build_form.specs.Step.{Progress, Step}
use Rattle.element_tree.specs.Element.{Element, made_count}
use Rattle.global_keys.specs.declared.registry.Holder.{Holder}
use Rattle.global_keys.specs.Holders.{Registry, recorded, was_met, unmet}
use Rattle.global_keys.specs.Named.{global_of}
use Rattle.render_tree.specs.Object.{RenderObject}
use Rattle.render_tree.specs.Plain.{renders_of}
use Rattle.build_walk.specs.Counting.{builds_from}
use Rattle.build_walk.specs.Keeping.{reenter}
use Rattle.build_walk.specs.Past.{Pasts}
use Rattle.build_owner.specs.Phases.{above_all}
use Rattle.build_owner.specs.Ready.{HasRoom}
use Rattle.build_owner.specs.Standing.{Beginning, next_at}
use Rattle.first_builds.specs.Inflated.{IsInflated, IsReadyToMount, HasGrown, progress_at}
use Rattle.first_builds.specs.Scattered.{scattered_node}
use Rattle.first_builds.proofs.Scattering.{inserted_map}
use Rattle.first_builds.proofs.Whole.{no_node, old_none}

pub some_with : {A : Type 0} (P Q R : A → Type 0) (o : Option A) → ((x : A) → P x → Q x → R x) → IfSome o P → IfSome o Q → IfSome o R
some_with P Q R None f h k = tt
some_with P Q R (Some x) f h k = f x h k

-- ---- nothing stands

no_trees : {T : Type 0} (f : Forest T) → size f ≡ 0 → f ≡ none
no_trees none e = refl
no_trees (tree h v below rest) e = absurd (omega (arith, e))

none_drawn : (f : Forest RenderObject) → renders_of f ≡ no_renders → f ≡ none
none_drawn none e = refl
none_drawn (tree h o below rest) e = absurd (cc)

no_top : (o : Option Handle) → option_to_list o ≡ [] → o ≡ None
no_top None e = refl
no_top (Some h) e = absurd (cc)

both_none : (o : Option Handle) (hs : List Handle) → option_to_list o ++ hs ≡ [] → (o ≡ None) × (hs ≡ [])
both_none None hs e = (refl, e)
both_none (Some h) hs e = absurd (cc)

module _ (c : PlainChecked) (t : Tree Element) (r : Tree RenderObject) (g : Registry) (b : Beginning c t r g) (empty : used_count t.nodes ≡ 0) where
  pub no_elements : Is t none
  no_elements = subst (Is t) (no_trees b.stands.elements.forest (size_is t b.stands.elements.forest b.stands.elements.is ∙ empty)) b.stands.elements.is

  nothing_old : b.old ≡ None
  nothing_old = old_none c b.marks b.old b.scrolled t b.stands.elements no_elements

  nothing_drawn : b.stands.renders.objects ≡ none
  unfolding projected_all
  nothing_drawn = none_drawn b.stands.renders.objects (b.stands.renders.projected ∙ ap (λ o. renders_listed (projected_all Plain None (listed (option_to_list o)))) nothing_old)

  pub no_render_nodes : Is r none
  no_render_nodes = subst (Is r) nothing_drawn b.stands.renders.is

  pub no_render_root : r.root ≡ None
  no_render_root = no_top r.root (b.stands.renders.root ∙ ap tops nothing_drawn)

  pub none_inactive : r.inactive ≡ []
  none_inactive = (both_none r.root r.inactive no_render_nodes.tops).1

  pub no_root : t.root ≡ None
  no_root = (both_none t.root t.inactive no_elements.tops).0

  none_aside : t.inactive ≡ []
  none_aside = (both_none t.root t.inactive no_elements.tops).1

  unrecorded : (k : Value) → recorded g k ≡ None
  unrecorded k = by_record (recorded g k) refl
    where
      by_node : (h : Handle) (o : Option (TreeNode Element)) → node_at t h ≡ o → global_of (option_map (λ (n : TreeNode Element). n.value) o) ≡ Some k → ⊥
      by_node h None at e = cc
      by_node h (Some n) at e = no_node t h no_elements (subst IsSome (sym at) refl)

      by_record : (o : Option Holder) → recorded g k ≡ o → o ≡ None
      by_record None is = refl
      by_record (Some x) is = absurd (by_node x.node (node_at t x.node) refl (b.stands.names.to_element k x.node (ap (option_map (λ (x : Holder). x.node)) is)))

  -- a walk begins, in which no key was met yet
  module _ (k : Registry) (begun : (v : Value) → recorded k v ≡ option_map unmet (recorded g v)) where
    none_recorded : (v : Value) → recorded k v ≡ None
    none_recorded v = begun v ∙ ap (option_map unmet) (unrecorded v)

    pub ready_first : (limit : ℕ) → HasRoom limit 0 t r → IsReadyToMount limit 0 k t r
    ready_first limit room = record {
      room = room;
      names = record {
        to_element = λ v h holder. absurd (let e = sym holder ∙ ap (option_map (λ (x : Holder). x.node)) (none_recorded v) in cc);
        to_holder = λ v h global. absurd (let e = sym (b.stands.names.to_holder v h global) ∙ ap (option_map (λ (x : Holder). x.node)) (unrecorded v) in cc);
      };
      met = λ v unmet_yet. none_recorded v;
    }

    pub starts : progress_at 0 k t ≡ started (next_at t)
    starts = λ i. record { entered = 0; met = λ v. ap was_met (none_recorded v) i; next = next_at t; waiting = [] }

    -- ---- what the walk comes to

    module _ (w : PlainWidget) (pasts : Pasts) (values : List Value) (of_values : values ≡ (blueprint_of c).defaults) where
      pub step_same : {S : Step PlainNode} → reenter (basis (blueprint_of c) b.old) pasts first depth_limit (blueprint_of c).defaults (root_arrival b.old w) (started (next_at t)) ≡ S
          → reenter (basis (blueprint_of c) None) pasts first depth_limit values (arrival w 0 None) (progress_at 0 k t) ≡ S
      step_same {S} is =
          (λ i. reenter (basis (blueprint_of c) (sym nothing_old i)) pasts first depth_limit (of_values i) (root_arrival (sym nothing_old i) w) (starts i)) ∙ is

      pub count_same : {n : ℕ} → builds_from (basis (blueprint_of c) b.old) pasts first depth_limit (blueprint_of c).defaults (root_arrival b.old w) (started (next_at t)) ≡ n
          → builds_from (basis (blueprint_of c) None) pasts first depth_limit values (arrival w 0 None) (progress_at 0 k t) ≡ n
      count_same {n} is =
          (λ i. builds_from (basis (blueprint_of c) (sym nothing_old i)) pasts first depth_limit (of_values i) (root_arrival (sym nothing_old i) w) (starts i)) ∙ is

      pub inflated_from_start : (after : Progress) (t1 : Tree Element) (r1 : Tree RenderObject) (h : Handle)
          → IsInflated (blueprint_of c) pasts depth_limit values b.scrolled above_all w 0 (progress_at 0 k t) after t t1 r r1 h
          → IsInflated (blueprint_of c) pasts depth_limit (blueprint_of c).defaults b.scrolled above_all w 0 (started (next_at t)) after t t1 r r1 h
      inflated_from_start after t1 r1 h is =
          subst (λ vs. IsInflated (blueprint_of c) pasts depth_limit vs b.scrolled above_all w 0 (started (next_at t)) after t t1 r r1 h) of_values
          (subst (λ s. IsInflated (blueprint_of c) pasts depth_limit values b.scrolled above_all w 0 s after t t1 r r1 h) starts is)

  -- the inflated root is the root
  pub root_there : (t1 : Tree Element) (h : Handle) (e : Element) (kids : Forest Element) → t1.inactive ≡ t.inactive → Is t1 (tree h e kids none) → t1.root ≡ Some h
  root_there t1 h e kids same is = by_root t1.root t1.inactive is.tops (same ∙ none_aside)
    where
      by_root : (o : Option Handle) (hs : List Handle) → option_to_list o ++ hs ≡ h ∷ [] → hs ≡ [] → o ≡ Some h
      by_root None [] top aside = absurd (cc)
      by_root None (k ∷ hs) top aside = absurd (cc)
      by_root (Some k) hs top aside = let same : k ≡ h = cc in ap Some same

  pub few_made : (t1 : Tree Element) (r1 : Tree RenderObject) → HasGrown t t1 r r1 → inserted_count r1.nodes + made_count t ≤ inserted_count r.nodes + made_count t1
  few_made t1 r1 grown =
      let few = grown.makes.few in
      let old = inserted_map scattered_node r.nodes in
      let new = inserted_map scattered_node r1.nodes in
      omega (arith, few, old, new)
