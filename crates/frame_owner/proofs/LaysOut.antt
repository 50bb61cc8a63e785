-- The render nodes of a first phase can be laid out, and no list among them is asked how much it would like.
use Rattle.std.proofs.Common.{◌≡◌, ℕ, ◌+◌, true, false, cond, Option, Some, None, IsSome, IfSome, List, [], ◌∷◌, ◌++◌, length, refl, sym, ap, subst, ◌∙◌, arith}
use Rattle.std.proofs.lemmas.List.Elements.{All-tail}
use Rattle.std.specs.List.{All}
use Rattle.std.specs.Option.{option_to_list}
use Rattle.fx_handles.specs.declared.Handle.{Handle}
use Rattle.fx_handles.specs.Handle.{same}
use Rattle.node_tree.specs.Forest.{TreeNode, Forest, tops, append, Stands, plain, size}
use Rattle.node_tree.specs.Forest.Forest.{none, tree}
use Rattle.node_tree.specs.Tree.{Tree, Is, node_at, parent_of}
use Rattle.node_tree.proofs.ForestLemmas.{plain_is, weigh-append}
use Rattle.node_tree.proofs.TreeLemmas.{subtree_is}
use Rattle.tree_marks.specs.Marking.{at_top}
use Rattle.tree_marks.specs.Marks.{sweep}
use Rattle.widget_model.specs.Plain.{PlainWidget}
use Rattle.plain_tree.specs.declared.role.RenderRole.TheVariants.{Plain}
use Rattle.plain_tree.specs.PlainNode.{PlainNode, nodes_of as listed}
use Rattle.plain_tree.specs.Projection.{projected_all, render_of}
use Rattle.plain_tree.specs.Render.{Render, render, Renders, no_renders, more_renders, renders_of as renders_listed}
use Rattle.program_check.specs.Checked.{PlainChecked}
use Rattle.element_tree.specs.Element.{Element}
use Rattle.global_keys.specs.Holders.{Registry}
use Rattle.layout_form.specs.Fits.{CanBeLaidOut, CanAllBeLaidOut}
use Rattle.layout_form.specs.Object.{Setting}
use Rattle.layout_walk.specs.Here.{HereAll}
use Rattle.layout_walk.specs.Rule.{LayoutParts}
use Rattle.layout_walk.specs.Rules.{parts_of}
use Rattle.layout_rules.specs.Nodes.{layout_nodes}
use Rattle.layout_owner.specs.Roots.{Good}
use Rattle.render_tree.specs.Marks.{layout_marks, paint_marks}
use Rattle.render_tree.specs.Object.{RenderObject, object_look}
use Rattle.render_tree.specs.Plain.{renders_of, lazy_children, root_below, root_tree}
use Rattle.kept_layouts.specs.Here.{KeepsLayouts}
use Rattle.kept_layouts.specs.Items.{without_items, ListsUnasked, AllListsUnasked}
use Rattle.screen_owner.proofs.Showing.{root_forest}
use Rattle.template_build.specs.Program.{declarations_of}
use Rattle.build_form.specs.Program.{blueprint_of}
use Rattle.build_form.specs.WellBuilt.{IsWellBuilt}
use Rattle.build_walk.proofs.Settled.{swept_tops, swept_parts}
use Rattle.build_owner.specs.Phases.{IsFirstPhase, first_node_of}
use Rattle.build_owner.specs.Standing.{Beginning, next_at}
use Rattle.build_owner.specs.Staying.{lists_object}
use Rattle.build_owner.specs.Staying.{bare as bare_of}
use Rattle.build_owner.specs.Waiting.{WaitingBuild}
use Rattle.frame_owner.proofs.Inherits.{first_own}
use Rattle.frame_owner.proofs.Items.{items_stand, swept_items}
use Rattle.frame_owner.proofs.Left.{ItemsStand, items_can, items_unasked, bare_is}
use Rattle.frame_owner.proofs.Looks.{none_is}
use Rattle.frame_owner.proofs.Named.{none_beside}
use Rattle.frame_owner.proofs.Shown.{projects_one}
use Rattle.frame_owner.proofs.Unasked.{unasked}

-- the render nodes at the root are those of a tree, with items below its lists
pub record LaysOut (first : PlainNode) (r : Tree RenderObject) : Type 0 where
  pub top : Render
  pub renders : renders_of (root_tree r) ≡ more_renders top no_renders
  pub unasked : ListsUnasked false top
  pub bare : render_of first ≡ without_items top ∷ []
  pub root : IsSome r.root
  pub good : (s : Setting) → KeepsLayouts s r → Good s (root_tree r)

-- ---- one forest

same_forest : (t : Tree RenderObject) (f g : Forest RenderObject) → Is t f → Is t g → f ≡ g
same_forest t f g one two =
    let n : ℕ = size f + size g in
    sym (plain_is (node_at t) None f n one.stands (omega arith)) ∙ (ap (plain n (node_at t)) (sym one.tops ∙ two.tops) ∙ plain_is (node_at t) None g n two.stands (omega arith))

-- where both begin with one tree
same_front : (k : Handle) (f g x y : Forest RenderObject) → append f x ≡ append g y → tops f ≡ k ∷ [] → tops g ≡ k ∷ [] → f ≡ g
same_front k none g x y e one two = absurd (cc)
same_front k (tree h v kids none) none x y e one two = absurd (cc)
same_front k (tree h v kids none) (tree i w inner none) x y e one two = parts_same
  where
    kids_of : Forest RenderObject → Forest RenderObject
    kids_of none = none
    kids_of (tree j u below rest) = tree j u below none

    parts_same : tree h v kids none ≡ tree i w inner none
    parts_same = ap kids_of e
same_front k (tree h v kids none) (tree i w inner (tree j u below rest)) x y e one two = absurd (two_tops (ap (λ hs. length hs) two))
  where
    two_tops : length (i ∷ j ∷ tops rest) ≡ length (k ∷ []) → ⊥
    two_tops q = omega (arith, q)
same_front k (tree h v kids (tree j u below rest)) g x y e one two = absurd (two_tops (ap (λ hs. length hs) one))
  where
    two_tops : length (h ∷ j ∷ tops rest) ≡ length (k ∷ []) → ⊥
    two_tops q = omega (arith, q)

here_front : (P : LayoutParts) (f g : Forest RenderObject) → HereAll P (layout_nodes (append f g)) → HereAll P (layout_nodes f)
here_front P none g h = tt
here_front P (tree k v kids rest) g h = (h.0, h.1, here_front P rest g h.2)

stands_front : (at : Handle → Option (TreeNode RenderObject)) (p : Option Handle) (f g : Forest RenderObject) → Stands at p (append f g) → Stands at p f
stands_front at p none g s = tt
stands_front at p (tree h o kids rest) g s = (s.0, s.1, stands_front at p rest g s.2)

-- ---- the root's tree

one_render : (rs : List Render) → length rs ≡ 1 → (r : Render) × (rs ≡ r ∷ [])
one_render [] e = absurd (omega (arith, e))
one_render (r ∷ []) e = (r, refl)
one_render (r ∷ q ∷ rs) e = absurd (omega (arith, e))

some_root : (o : Option Handle) (h : Handle) → option_to_list o ≡ h ∷ [] → o ≡ Some h
some_root None h e = absurd (cc)
some_root (Some k) h e = ap Some (head_same k h e)
  where
    head_same : (a b : Handle) → a ∷ [] ≡ b ∷ [] → a ≡ b
    head_same a b q = cc

module _ (first : PlainNode) (one : length (render_of first) ≡ 1) (r : Tree RenderObject) where
  -- of one forest, the trees at the root and those beside it
  module _ (others : Forest RenderObject) where
    abbrev Facts : Forest RenderObject → Type 0
    Facts f = Is r (append f others) × (option_to_list r.root ≡ tops f) × (renders_of (bare_of lists_object f) ≡ renders_listed (render_of first)) × CanAllBeLaidOut (renders_of f) × AllListsUnasked false (renders_of f)

    pub lays_out_by : (f : Forest RenderObject) → Facts f → LaysOut first r
    lays_out_by none x = absurd (no_top (one_render (render_of first) one) x.2)
      where
        no_top : (p : (q : Render) × (render_of first ≡ q ∷ [])) → no_renders ≡ renders_listed (render_of first) → ⊥
        no_top p e = let two : no_renders ≡ more_renders p.0 no_renders = e ∙ ap renders_listed p.1 in cc
    lays_out_by (tree h o kids (tree k v below rest)) x = absurd (two_tops (one_render (render_of first) one) x.2)
      where
        two_tops : (p : (q : Render) × (render_of first ≡ q ∷ [])) → renders_of (bare_of lists_object (tree h o kids (tree k v below rest))) ≡ renders_listed (render_of first) → ⊥
        two_tops p e = let both = e ∙ ap renders_listed p.1 in cc
    lays_out_by (tree h o kids none) x = record {
      top = top;
      renders = ap renders_of root_is;
      unasked = x.4.0;
      bare = bare_top (one_render (render_of first) one);
      root = subst IsSome (sym root_at) refl;
      good = λ s keeps. record {
        here = subst (λ (f : Forest RenderObject). HereAll (parts_of s) (layout_nodes f)) (sym root_is) (here_front (parts_of s) (tree h o kids none) others (keeps (append (tree h o kids none) others) x.0));
        fits = subst (λ (f : Forest RenderObject). CanAllBeLaidOut (renders_of f)) (sym root_is) x.3;
      };
    }
      where
        top : Render
        top = render o.number (object_look o) o.parent_data o.scroll (lazy_children o) (renders_of kids)

        root_at : r.root ≡ Some h
        root_at = some_root r.root h x.1

        stands : Stands (node_at r) None (tree h o kids none)
        stands = stands_front (node_at r) None (tree h o kids none) others x.0.stands

        root_is : root_tree r ≡ tree h o kids none
        root_is =
            ap (root_below r) root_at
            ∙ subtree_is r h (tree h o kids none) (record {
              top = refl;
              stands = subst (λ (p : Option Handle). Stands (node_at r) p (tree h o kids none)) (sym (ap parent_of stands.0)) stands;
              distinct = λ k.
                  let once = x.0.distinct k in
                  let sum = weigh-append (λ y. cond {A = ℕ} (same y k) 1 0) (tree h o kids none) others in
                  omega (arith, once, sum);
            })

        first_of : Renders → Render
        first_of no_renders = top
        first_of (more_renders q qs) = q

        bare_top : (p : (q : Render) × (render_of first ≡ q ∷ [])) → render_of first ≡ without_items top ∷ []
        bare_top p =
            let two : more_renders (without_items top) no_renders ≡ more_renders p.0 no_renders = sym (bare_is (tree h o kids none)) ∙ (x.2 ∙ ap renders_listed p.1) in
            p.1 ∙ ap (λ (q : Render). q ∷ []) (sym (ap first_of two))

-- ---- what stands

all_can : (rs : List Render) → All CanBeLaidOut rs → CanAllBeLaidOut (renders_listed rs)
all_can [] h = tt
all_can (r ∷ rs) h = (h 0 r (omega arith), all_can rs (All-tail CanBeLaidOut r rs h))

old_can : (old : Option PlainNode) → IfSome old (λ n. All CanBeLaidOut (render_of n)) → CanAllBeLaidOut (renders_listed (projected_all Plain None (listed (option_to_list old))))
old_can None h = subst (λ rs. CanAllBeLaidOut (renders_listed rs)) (sym (none_is Plain None)) tt
old_can (Some n) h = subst CanAllBeLaidOut (sym (projects_one n)) (all_can (render_of n) h)

module _ (c : PlainChecked) (t0 : Tree Element) (r0 : Tree RenderObject) (g0 : Registry) (b : Beginning c t0 r0 g0) (w : PlainWidget) (t : Tree Element) (mid : Tree RenderObject) (g : Registry) (l : WaitingBuild)
    (q : IsFirstPhase c t0 r0 g0 b w t mid g l) where
  abbrev part : PlainNode
  part = first_node_of q

  -- what stands at the root, as the plan left it
  once_swept : Forest RenderObject → Forest RenderObject
  once_swept f = sweep paint_marks true (q.redrawn.painted ++ q.redrawn.lost) at_top (sweep layout_marks true (q.redrawn.laid ++ q.redrawn.lost) at_top f)

  all_swept : append q.stand.objects q.stand.others ≡ append (once_swept q.redrawn.nodes) (once_swept q.redrawn.others)
  unfolding once_swept
  all_swept =
      same_forest mid (append q.stand.objects q.stand.others) (once_swept (append q.redrawn.nodes q.redrawn.others)) q.stand.is
      (q.redrawn.paints.plain (sweep layout_marks true (q.redrawn.laid ++ q.redrawn.lost) at_top (append q.redrawn.nodes q.redrawn.others)) (q.redrawn.layouts.plain (append q.redrawn.nodes q.redrawn.others) q.redrawn.is))
      ∙ (ap (sweep paint_marks true (q.redrawn.painted ++ q.redrawn.lost) at_top) (swept_parts layout_marks true (q.redrawn.laid ++ q.redrawn.lost) at_top q.redrawn.nodes q.redrawn.others)
      ∙ swept_parts paint_marks true (q.redrawn.painted ++ q.redrawn.lost) at_top (sweep layout_marks true (q.redrawn.laid ++ q.redrawn.lost) at_top q.redrawn.nodes)
      (sweep layout_marks true (q.redrawn.laid ++ q.redrawn.lost) at_top q.redrawn.others))

  tops_swept : tops (once_swept q.redrawn.nodes) ≡ option_to_list mid.root
  unfolding once_swept
  tops_swept =
      swept_tops paint_marks true (q.redrawn.painted ++ q.redrawn.lost) at_top (sweep layout_marks true (q.redrawn.laid ++ q.redrawn.lost) at_top q.redrawn.nodes)
      ∙ (swept_tops layout_marks true (q.redrawn.laid ++ q.redrawn.lost) at_top q.redrawn.nodes
      ∙ (sym q.redrawn.root ∙ ap option_to_list (sym (q.redrawn.paints.root ∙ q.redrawn.layouts.root))))

  objects_swept : (h : Handle) → mid.root ≡ Some h → q.stand.objects ≡ once_swept q.redrawn.nodes
  objects_swept h at =
      same_front h q.stand.objects (once_swept q.redrawn.nodes) q.stand.others (once_swept q.redrawn.others) all_swept (sym q.stand.root ∙ ap option_to_list at) (tops_swept ∙ ap option_to_list at)

  module _ (olds : IfSome b.old (λ n. All CanBeLaidOut (render_of n))) (can : All CanBeLaidOut (render_of part)) (one : length (render_of part) ≡ 1) (well : IsWellBuilt (declarations_of c) part)
      (quiet : AllListsUnasked false (renders_of (root_tree r0))) where
    was_can : CanAllBeLaidOut (renders_of b.stands.renders.objects)
    was_can = subst CanAllBeLaidOut (sym b.stands.renders.projected) (old_can b.old olds)

    was_quiet : AllListsUnasked false (renders_of b.stands.renders.objects)
    was_quiet =
        subst (λ (f : Forest RenderObject). AllListsUnasked false (renders_of f))
        (root_forest r0 b.stands.renders.objects (none_beside c b.marks b.old b.scrolled t0 r0 g0 b.stands) b.stands.renders.is) quiet

    nodes_stand : ItemsStand q.redrawn.nodes
    nodes_stand =
        items_stand r0 q.made b.stands.renders.objects b.stands.renders.is q.walked.since.renders
        (λ k n gone at. ap (λ (y : TreeNode RenderObject). y.children) (q.walked.makes.fresh k n gone at).2) false was_can was_quiet _ _ q.redrawn.nodes q.redrawn.updated

    swept_stand : ItemsStand (once_swept q.redrawn.nodes)
    unfolding once_swept
    swept_stand =
        swept_items paint_marks (λ f b o. refl) (λ f b o rs. refl) true (q.redrawn.painted ++ q.redrawn.lost) at_top (sweep layout_marks true (q.redrawn.laid ++ q.redrawn.lost) at_top q.redrawn.nodes)
        (swept_items layout_marks (λ f b o. refl) (λ f b o rs. refl) true (q.redrawn.laid ++ q.redrawn.lost) at_top q.redrawn.nodes nodes_stand)

    projected : renders_of (bare_of lists_object q.stand.objects) ≡ renders_listed (render_of part)
    projected = q.stand.projected ∙ projects_one part

    pub laid_out_with_items : LaysOut part mid
    laid_out_with_items = by_root mid.root refl
      where
        no_root : mid.root ≡ None → (f : Forest RenderObject) → option_to_list mid.root ≡ tops f → renders_of (bare_of lists_object f) ≡ renders_listed (render_of part) → ⊥
        no_root e none tops_are is = absurd (empty (one_render (render_of part) one) is)
          where
            empty : (p : (x : Render) × (render_of part ≡ x ∷ [])) → no_renders ≡ renders_listed (render_of part) → ⊥
            empty p x = let two : no_renders ≡ more_renders p.0 no_renders = x ∙ ap renders_listed p.1 in cc
        no_root e (tree k v below rest) tops_are is = let two : [] ≡ k ∷ tops rest = sym (ap option_to_list e) ∙ tops_are in cc

        by_root : (o : Option Handle) → mid.root ≡ o → LaysOut part mid
        by_root None e = absurd (no_root e q.stand.objects q.stand.root projected)
        by_root (Some h) e =
            let items : ItemsStand q.stand.objects = subst (λ (f : Forest RenderObject). ItemsStand f) (sym (objects_swept h e)) swept_stand in
            lays_out_by part one mid q.stand.others q.stand.objects (
              q.stand.is,
              q.stand.root,
              projected,
              items_can q.stand.objects (subst CanAllBeLaidOut (sym projected) (all_can (render_of part) can)) items,
              items_unasked false q.stand.objects
                  (subst (AllListsUnasked false) (sym projected) (unasked (declarations_of c) part well (first_own (blueprint_of c) b.old (next_at t0) w part _ q.walked.is))) items,
            )
