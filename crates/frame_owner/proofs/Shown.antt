-- A tree that was built, on its render nodes, and what stands once it is shown.
use Rattle.std.proofs.Common.{◌≡◌, ℕ, ◌+◌, ◌≤◌, ◌^◌, ap, refl, sym, subst, ◌∙◌, arith, IsSome, Option, Some, None, option_map, List, [], ◌∷◌, ◌++◌, map, length}
use Rattle.std.specs.List.{All}
use Rattle.std.specs.Option.{option_to_list}
use Rattle.std.proofs.lemmas.List.{append-nil}
use Rattle.fx_handles.specs.Arena.{used_count}
use Rattle.fx_handles.specs.declared.Handle.{Handle}
use Rattle.node_tree.specs.Forest.{Forest, tops, size}
use Rattle.node_tree.specs.Forest.Forest.{none, tree}
use Rattle.node_tree.specs.Tree.{Tree, IsTree}
use Rattle.node_tree.proofs.TreeLemmas.{size_is}
use Rattle.program_check.specs.Checked.{PlainChecked}
use Rattle.element_tree.specs.Element.{Element}
use Rattle.element_tree.specs.Nodes.{nodes_of}
use Rattle.global_keys.specs.Holders.{Registry}
use Rattle.plain_tree.specs.declared.role.RenderRole.TheVariants.{Plain}
use Rattle.plain_tree.specs.Laid.{Laid}
use Rattle.plain_tree.specs.Laws.{render_numbers_in, AllDiffer}
use Rattle.plain_tree.specs.Offsets.{scrolled_by}
use Rattle.plain_tree.specs.PlainNode.{PlainNode, count_of, counts_of, nodes_of as listed}
use Rattle.plain_tree.specs.Projection.{projected, projected_all, render_of}
use Rattle.plain_tree.specs.Render.{Render, Renders, no_renders, more_renders, renders_of as renders_listed}
use Rattle.layout_form.specs.Corrected.{render_scrolled_by, renders_scrolled_by}
use Rattle.layout_form.specs.Fits.{CanBeLaidOut, CanAllBeLaidOut}
use Rattle.layout_form.specs.Layout.{lay_view}
use Rattle.layout_form.specs.Object.{Setting, setting_of}
use Rattle.layout_walk.specs.Here.{HereAll}
use Rattle.layout_walk.specs.Rules.{parts_of}
use Rattle.layout_rules.specs.Nodes.{layout_nodes}
use Rattle.layout_owner.specs.Roots.{Good, top_render}
use Rattle.render_tree.specs.Object.{RenderObject}
use Rattle.render_tree.specs.Plain.{renders_of, root_tree}
use Rattle.kept_layouts.specs.Here.{KeepsLayouts}
use Rattle.session_form.specs.Framing.{top_of, laid_of}
use Rattle.screen_owner.proofs.Showing.{root_forest}
use Rattle.build_form.specs.FullBuild.{Screen}
use Rattle.kept_builds.specs.Projected.{HasProjection}
use Rattle.build_owner.specs.Standing.{StandsFor}
use Rattle.frame_owner.proofs.Named.{none_beside}

-- ---- one render node

pub one_of : (rs : List Render) → length rs ≡ 1 → rs ≡ top_of rs ∷ []
one_of [] e = absurd (omega (arith, e))
one_of (r ∷ []) e = refl
one_of (r ∷ q ∷ rs) e = absurd (omega (arith, e))

pub projects_one : (n : PlainNode) → renders_listed (projected_all Plain None (listed (option_to_list (Some n)))) ≡ renders_listed (render_of n)
unfolding projected
projects_one n = ap renders_listed (append-nil (render_of n))

module _ (c : PlainChecked) (marks : List ℕ) (built : PlainNode) (scrolled : ℕ → ℕ) (t : Tree Element) (r : Tree RenderObject) (g : Registry) (h : StandsFor c marks (Some built) scrolled t r g)
    (one : length (render_of built) ≡ 1) where
  abbrev pub top : Render
  top = top_of (render_of built)

  pub one_is : render_of built ≡ top ∷ []
  one_is = one_of (render_of built) one

  objects_are : renders_of h.renders.objects ≡ more_renders top no_renders
  objects_are = h.renders.projected ∙ (projects_one built ∙ ap renders_listed one_is)

  pub alone : r.inactive ≡ []
  alone = none_beside c marks (Some built) scrolled t r g h

  pub has_root : IsSome r.root
  has_root = by_root r.root refl
    where
      bare : (f : Forest RenderObject) → tops f ≡ [] → renders_of f ≡ more_renders top no_renders → ⊥
      bare none e is = cc
      bare (tree k o below rest) e is = cc

      by_root : (o : Option Handle) → r.root ≡ o → IsSome o
      by_root None e = absurd (bare h.renders.objects (sym h.renders.root ∙ ap option_to_list e) objects_are)
      by_root (Some k) e = refl

  pub root_is : root_tree r ≡ h.renders.objects
  root_is = root_forest r h.renders.objects alone h.renders.is

  pub root_renders : renders_of (root_tree r) ≡ more_renders top no_renders
  root_renders = ap renders_of root_is ∙ objects_are

  -- ---- it can be laid out

  counted : (f : Forest Element) → counts_of (listed (nodes_of scrolled f)) ≡ size f
  counted none = refl
  counted (tree k e kids rest) = let a = counted kids in let b = counted rest in omega (arith, a, b)

  pub small : used_count t.nodes ≤ 4194304 → count_of built ≤ 2 ^ 44
  small few =
      let all : count_of built + 0 ≡ size h.elements.forest = ap (λ ns. counts_of (listed ns)) h.elements.nodes ∙ counted h.elements.forest in
      let used = size_is t h.elements.forest h.elements.is in
      omega (arith, all, used, few)

  pub fits : All CanBeLaidOut (render_of built) → CanAllBeLaidOut (renders_of (root_tree r))
  fits all = subst CanAllBeLaidOut (sym root_renders) (subst (All CanBeLaidOut) one_is all 0 top (omega arith), tt)

  pub good : (s : Setting) → KeepsLayouts s r → All CanBeLaidOut (render_of built) → Good s (root_tree r)
  good s keeps all = record {
    here = subst (λ (f : Forest RenderObject). HereAll (parts_of s) (layout_nodes f)) (sym root_is) (keeps h.renders.objects h.renders.is);
    fits = fits all;
  }

  pub differ : AllDiffer (render_numbers_in (renders_listed (render_of built))) → AllDiffer (render_numbers_in (renders_of (root_tree r)))
  differ d = subst (λ (rs : Renders). AllDiffer (render_numbers_in rs)) (ap renders_listed one_is ∙ sym root_renders) d

  -- ---- what is shown

  pub laid_is : (screen : Screen) (x : Option Laid) → x ≡ option_map (λ (p : Render). lay_view (setting_of screen.scale screen.delegates) p screen.view) (top_render (renders_of (root_tree r)))
      → x ≡ Some (laid_of screen built)
  unfolding laid_of
  laid_is screen x e = e ∙ ap (λ (rs : Renders). option_map (λ (p : Render). lay_view (setting_of screen.scale screen.delegates) p screen.view) (top_render rs)) root_renders

  -- the render nodes, once they are scrolled where the layout left them
  pub projection : (offset : ℕ → Option ℕ) (new : Tree RenderObject) → new.inactive ≡ [] → IsTree new → render_of (scrolled_by offset built) ≡ map (render_scrolled_by offset) (render_of built)
      → renders_of (root_tree new) ≡ renders_scrolled_by offset (renders_of (root_tree r)) → HasProjection (Some (scrolled_by offset built)) new
  projection offset new none_beside is law renders = record {
    objects = is.0;
    is = is.1;
    root = sym (append-nil (option_to_list new.root)) ∙ (ap (λ hs. option_to_list new.root ++ hs) (sym none_beside) ∙ is.1.tops);
    projected = ap renders_of (sym (root_forest new is.0 none_beside is.1))
        ∙ (renders
        ∙ (ap (renders_scrolled_by offset) root_renders
        ∙ sym (projects_one (scrolled_by offset built) ∙ (ap renders_listed law ∙ ap (λ rs. renders_listed (map (render_scrolled_by offset) rs)) one_is))));
  }
