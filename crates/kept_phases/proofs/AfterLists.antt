-- A tree whose lazy lists were laid out, and whose Viewports were put back.
use Rattle.std.proofs.Common.{◌≡◌, ℕ, Bool, true, false, cond, Option, Some, None, option_map, List, [], ◌∷◌, ◌++◌, map, refl, ap, sym, ◌∙◌, inl, inr, arith}
use Rattle.std.proofs.lemmas.Bool.{cases_Bool, false≢true}
use Rattle.fx_handles.specs.declared.Handle.{Handle}
use Rattle.fx_handles.specs.Handle.{same, times, Among}
use Rattle.fx_handles.specs.HandleLaws.{cases_same, same-ne, times_here}
use Rattle.node_tree.specs.Edits.{KeepsHandles}
use Rattle.node_tree.specs.Forest.{TreeNode, Forest, count, In, Stands}
use Rattle.node_tree.specs.Forest.Forest.{none, tree}
use Rattle.node_tree.specs.Tree.{Tree, IsTree, node_at}
use Rattle.node_tree.proofs.EditLemmas.{keeps_then}
use Rattle.node_tree.proofs.ForestLemmas.{same_Some, is_zero}
use Rattle.node_tree.proofs.Handles.{times-append}
use Rattle.widget_model.specs.Plain.{PlainWidget}
use Rattle.plain_tree.specs.declared.role.RenderRole.{RenderRole}
use Rattle.plain_tree.specs.declared.role.RenderRole.TheVariants.{Composes, Shares, Places, Line, Pile, Lazy, Window, Plain}
use Rattle.plain_tree.specs.Offsets.{rescrolled}
use Rattle.plain_tree.specs.RenderRole.{render_role_of, is_window}
use Rattle.tree_marks.specs.Ways.{OnlyMarks}
use Rattle.layout_walk.specs.Node.{LayoutNode, NodeMember, member}
use Rattle.layout_walk.specs.Walk.{SameMembers}
use Rattle.layout_rules.specs.Nodes.{layout_node, layout_nodes, seen_node, seen_at}
use Rattle.layout_rules.specs.Painting.{KeepsRest}
use Rattle.layout_rules.specs.Reads.{state_at}
use Rattle.layout_owner.specs.Outer.{PaintsThenRanges}
use Rattle.layout_owner.specs.Ranges.{without_live}
use Rattle.layout_owner.specs.Views.{NumbersTell}
use Rattle.render_tree.specs.LayoutState.{with_layout_state}
use Rattle.render_tree.specs.Marks.{paint_marks}
use Rattle.render_tree.specs.Object.{RenderObject, object_look, is_viewport}
use Rattle.render_tree.specs.Plain.{root_tree}
use Rattle.render_tree.specs.Tree.{object_at}
use Rattle.kept_layers.proofs.RootTrees.{root_stands}
use Rattle.kept_phases.specs.Lists.{viewports, unscrolled, ButOffsets, Pending, AreWanted, StaysBuilt}

-- ---- how far nodes were scrolled

abbrev pub scroll_or : Option RenderObject → ℕ
scroll_or None = 0
scroll_or (Some o) = o.scroll

abbrev pub firsts : List (Handle × ℕ) → List Handle
firsts ps = map (λ (p : Handle × ℕ). p.0) ps

wanted_append : (wanted : Handle → ℕ) (xs ys : List (Handle × ℕ)) → AreWanted wanted xs → AreWanted wanted ys → AreWanted wanted (xs ++ ys)
wanted_append wanted [] ys a b = b
wanted_append wanted (x ∷ xs) ys a b = (a.0, wanted_append wanted xs ys a.1 b)

pub all_wanted : (t : Tree RenderObject) (p : Option Handle) (f : Forest RenderObject) → Stands (node_at t) p f → AreWanted (λ k. scroll_or (object_at t k)) (viewports f)
all_wanted t p none stands = tt
all_wanted t p (tree h o below rest) stands =
    wanted_append (λ k. scroll_or (object_at t k)) (cond (is_viewport o) ((h, o.scroll) ∷ []) []) (viewports below ++ viewports rest)
    (by_test (is_viewport o))
    (wanted_append (λ k. scroll_or (object_at t k)) (viewports below) (viewports rest) (all_wanted t (Some h) below stands.1) (all_wanted t p rest stands.2))
  where
    by_test : (b : Bool) → AreWanted (λ k. scroll_or (object_at t k)) (cond b ((h, o.scroll) ∷ []) [])
    by_test true = (ap (λ (x : Option (TreeNode RenderObject)). scroll_or (option_map (λ (n : TreeNode RenderObject). n.value) x)) stands.0, tt)
    by_test false = tt

firsts_append : (xs ys : List (Handle × ℕ)) → firsts (xs ++ ys) ≡ firsts xs ++ firsts ys
firsts_append [] ys = refl
firsts_append (x ∷ xs) ys = ap (λ hs. x.0 ∷ hs) (firsts_append xs ys)

among_left : (k : Handle) (xs ys : List (Handle × ℕ)) → Among k (firsts xs) → Among k (firsts (xs ++ ys))
among_left k xs ys a = let e = ap (times k) (firsts_append xs ys) in let s = times-append k (firsts xs) (firsts ys) in omega (arith, a, e, s)

among_right : (k : Handle) (xs ys : List (Handle × ℕ)) → Among k (firsts ys) → Among k (firsts (xs ++ ys))
among_right k xs ys a = let e = ap (times k) (firsts_append xs ys) in let s = times-append k (firsts xs) (firsts ys) in omega (arith, a, e, s)

-- ---- what a layout leaves of a node

stays_unless : (role : RenderRole) (a b : ℕ) → is_window role ≡ false → rescrolled role (Some 0) a ≡ rescrolled role (Some 0) b → a ≡ b
stays_unless Window a b w e = absurd (false≢true (sym w))
stays_unless Composes a b w e = e
stays_unless (Shares flex tight) a b w e = e
stays_unless (Places placed) a b w e = e
stays_unless Line a b w e = e
stays_unless Pile a b w e = e
stays_unless Lazy a b w e = e
stays_unless Plain a b w e = e

-- of a node of both trees
record Both (old new : Tree RenderObject) (hs : List Handle) (k : Handle) : Type 0 where
  pub was : RenderObject
  pub now : RenderObject
  pub at_old : object_at old k ≡ Some was
  pub at_new : object_at new k ≡ Some now
  pub alike : member (layout_node was) ≡ member (layout_node now)
  pub found : is_viewport was ≡ true → Among k hs

widen_both : (old new : Tree RenderObject) (hs ks : List Handle) (k : Handle) → (Among k hs → Among k ks) → Both old new hs k → Both old new ks k
widen_both old new hs ks k f b = record { was = b.was; now = b.now; at_old = b.at_old; at_new = b.at_new; alike = b.alike; found = λ v. f (b.found v) }

module _ (old new : Tree RenderObject) where
  both_at : (p q : Option Handle) (f g : Forest RenderObject) → Stands (node_at old) p f → Stands (node_at new) q g → SameMembers (layout_nodes f) (layout_nodes g)
      → (k : Handle) → In k f → Both old new (firsts (viewports f)) k
  both_at p q none none stands stood same_members k among = absurd (omega (arith, among))
  both_at p q none (tree j w inside others) stands stood same_members k among = absurd same_members
  both_at p q (tree h v below rest) none stands stood same_members k among = absurd same_members
  both_at p q (tree h v below rest) (tree j w inside others) stands stood same_members k among = elim (cases_same h k) [
    | inl e ↦ record {
      was = v;
      now = w;
      at_old = ap (object_at old) (sym e) ∙ ap (option_map (λ (n : TreeNode RenderObject). n.value)) stands.0;
      at_new = ap (object_at new) (sym e ∙ same_members.0) ∙ ap (option_map (λ (n : TreeNode RenderObject). n.value)) stood.0;
      alike = same_members.1;
      found = λ view. among_left k (cond (is_viewport v) ((h, v.scroll) ∷ []) []) (viewports below ++ viewports rest) (own view e);
    }
    | inr ne ↦
        let miss : cond {A = ℕ} (same h k) 1 0 ≡ 0 = ap (λ (b : Bool). cond {A = ℕ} b 1 0) (same-ne h k ne) in
        elim (is_zero (count k below)) [
          | inl gone ↦
              widen_both old new (firsts (viewports rest)) (firsts (viewports (tree h v below rest))) k
              (λ a. among_right k (cond (is_viewport v) ((h, v.scroll) ∷ []) []) (viewports below ++ viewports rest) (among_right k (viewports below) (viewports rest) a))
              (both_at p q rest others stands.2 stood.2 same_members.3 k (omega (arith, among, miss, gone)))
          | inr there ↦
              widen_both old new (firsts (viewports below)) (firsts (viewports (tree h v below rest))) k
              (λ a. among_right k (cond (is_viewport v) ((h, v.scroll) ∷ []) []) (viewports below ++ viewports rest) (among_left k (viewports below) (viewports rest) a))
              (both_at (Some h) (Some j) below inside stands.1 stood.1 same_members.2 k there)
        ]
  ]
    where
      own : is_viewport v ≡ true → h ≡ k → Among k (firsts (cond (is_viewport v) ((h, v.scroll) ∷ []) []))
      own view e =
          let one : firsts (cond (is_viewport v) ((h, v.scroll) ∷ []) []) ≡ k ∷ [] = ap (λ (b : Bool). firsts (cond b ((h, v.scroll) ∷ []) [])) view ∙ ap (λ x. x ∷ []) e in
          let here = times_here k [] in
          let count_there = ap (times k) one in
          omega (arith, here, count_there)

  -- a layout moves Viewports of the root's tree alone
  pub pending_viewports : IsTree old → IsTree new → SameMembers (layout_nodes (root_tree old)) (layout_nodes (root_tree new))
      → ((k : Handle) → (In k (root_tree old) → ⊥) → seen_at new k ≡ seen_at old k) → Pending (λ k. scroll_or (object_at old k)) (firsts (viewports (root_tree old))) new
  pending_viewports is_old is_new same_members unseen k o at = elim (is_zero (count k (root_tree old))) [
    | inl gone ↦ inl (by_nodes (node_at new k) (node_at old k) at (unseen k (λ among. omega (arith, among, gone))))
    | inr there ↦
        let b = both_at None None (root_tree old) (root_tree new) (root_stands old is_old) (root_stands new is_new) same_members k there in
        let now_is : b.now ≡ o = same_Some (sym b.at_new ∙ at) in
        let look : object_look b.was ≡ object_look b.now = ap (λ (m : NodeMember). m.look) b.alike in
        elim (cases_Bool (is_viewport o)) [
          | inl view ↦ inr (view, b.found (ap (λ l. is_window (render_role_of l)) look ∙ (ap is_viewport now_is ∙ view)))
          | inr other ↦
              let still : b.was.scroll ≡ b.now.scroll =
              stays_unless (render_role_of (object_look b.was)) b.was.scroll b.now.scroll (ap (λ l. is_window (render_role_of l)) look ∙ (ap is_viewport now_is ∙ other))
              (ap (λ (m : NodeMember). m.scroll) b.alike ∙ ap (λ l. rescrolled (render_role_of l) (Some 0) b.now.scroll) (sym look)) in
              inl (ap (λ (x : RenderObject). x.scroll) (sym now_is) ∙ (sym still ∙ sym (ap scroll_or b.at_old)))
        ]
  ]
    where
      by_nodes : (x y : Option (TreeNode RenderObject)) → option_map (λ (n : TreeNode RenderObject). n.value) x ≡ Some o → option_map seen_node x ≡ option_map seen_node y
          → o.scroll ≡ scroll_or (option_map (λ (n : TreeNode RenderObject). n.value) y)
      by_nodes None y e s = absurd cc
      by_nodes (Some n) None e s = absurd cc
      by_nodes (Some n) (Some m) e s =
          ap (λ (x : RenderObject). x.scroll) (sym (same_Some e)) ∙ ap (λ (x : TreeNode LayoutNode). x.value.scroll) (same_Some s)

-- ---- what no layout writes

pub record Own : Type 0 where
  pub number : ℕ
  pub widget : PlainWidget

abbrev pub own_of : TreeNode RenderObject → Own
own_of n = record { number = n.value.number; widget = n.value.widget }

own_rest : (old laid : Tree RenderObject) → KeepsRest old laid → (k : Handle) → option_map own_of (node_at laid k) ≡ option_map own_of (node_at old k)
own_rest old laid rest k = ap (option_map own_of) (rest.nodes k) ∙ by_node (node_at old k)
  where
    by_node : (x : Option (TreeNode RenderObject)) → option_map own_of (option_map (λ (n : TreeNode RenderObject). record n { value = with_layout_state (state_at laid k) n.value }) x) ≡ option_map own_of x
    by_node None = refl
    by_node (Some n) = refl

own_marks : (old new : Tree RenderObject) → OnlyMarks paint_marks old new → ((k : Handle) → node_at old k ≡ None → node_at new k ≡ None) → (k : Handle) → option_map own_of (node_at new k) ≡ option_map own_of (node_at old k)
own_marks old new only absent k = by_node (node_at old k) refl
  where
    by_node : (x : Option (TreeNode RenderObject)) → node_at old k ≡ x → option_map own_of (node_at new k) ≡ option_map own_of x
    by_node None e = ap (option_map own_of) (absent k e)
    by_node (Some n) e = ap (option_map own_of) (only k n e).2

own_ranges : (a b : Option (TreeNode RenderObject)) → option_map without_live a ≡ option_map without_live b → option_map own_of a ≡ option_map own_of b
own_ranges None None e = refl
own_ranges None (Some n) e = absurd cc
own_ranges (Some m) None e = absurd cc
own_ranges (Some m) (Some n) e = ap (λ (x : TreeNode RenderObject). Some (own_of x)) (same_Some e)

own_offsets : (a b : Option (TreeNode RenderObject)) → option_map unscrolled a ≡ option_map unscrolled b → option_map own_of a ≡ option_map own_of b
own_offsets None None e = refl
own_offsets None (Some n) e = absurd cc
own_offsets (Some m) None e = absurd cc
own_offsets (Some m) (Some n) e = ap (λ (x : TreeNode RenderObject). Some (own_of x)) (same_Some e)

module _ (old laid : Tree RenderObject) (p : PaintsThenRanges old laid) where
  pub own_laid : (k : Handle) → option_map own_of (node_at laid k) ≡ option_map own_of (node_at old k)
  own_laid k =
      own_ranges (node_at laid k) (node_at p.laid k) (p.ranges.nodes k)
      ∙ (own_marks p.paints.laid p.laid p.paints.marks.only p.paints.marks.absent k ∙ own_rest old p.paints.laid p.paints.rest k)

  pub handles_laid : KeepsHandles old.nodes laid.nodes
  handles_laid =
      keeps_then old.nodes p.laid.nodes laid.nodes (keeps_then old.nodes p.paints.laid.nodes p.laid.nodes p.paints.rest.handles p.paints.marks.handles) p.ranges.handles

  pub root_laid : laid.root ≡ old.root
  root_laid = p.ranges.root ∙ (p.paints.marks.root ∙ p.paints.rest.root)

  pub inactive_laid : laid.inactive ≡ old.inactive
  inactive_laid = p.ranges.inactive ∙ (p.paints.marks.inactive ∙ p.paints.rest.inactive)

  module _ (new : Tree RenderObject) (others : ButOffsets laid new) (back : Pending (λ k. scroll_or (object_at old k)) [] new) where
    pub own_new : (k : Handle) → option_map own_of (node_at new k) ≡ option_map own_of (node_at old k)
    own_new k = own_offsets (node_at new k) (node_at laid k) (others.nodes k) ∙ own_laid k

    scroll_back : (k : Handle) (o w : RenderObject) → object_at old k ≡ Some o → object_at new k ≡ Some w → w.scroll ≡ o.scroll
    scroll_back k o w at_old at_new = elim (back k w at_new) [
      | inl is ↦ is ∙ ap scroll_or at_old
      | inr more ↦ absurd (nothing_left more.1)
    ]
      where
        nothing_left : Among k [] → ⊥
        nothing_left among = omega (arith, among)

    drawn_at : (k : Handle) (o : RenderObject) → object_at old k ≡ Some o → (w : RenderObject) × (object_at new k ≡ Some w) × (w.number ≡ o.number) × (w.scroll ≡ o.scroll)
    drawn_at k o at = by_nodes (node_at new k) (node_at old k) refl at (own_new k)
      where
        by_nodes : (x y : Option (TreeNode RenderObject)) → node_at new k ≡ x → option_map (λ (n : TreeNode RenderObject). n.value) y ≡ Some o → option_map own_of x ≡ option_map own_of y
            → (w : RenderObject) × (object_at new k ≡ Some w) × (w.number ≡ o.number) × (w.scroll ≡ o.scroll)
        by_nodes x None a is e = absurd cc
        by_nodes None (Some m) a is e = absurd cc
        by_nodes (Some n) (Some m) a is e =
            let there : object_at new k ≡ Some n.value = ap (option_map (λ (x : TreeNode RenderObject). x.value)) a in (
              n.value,
              there,
              ap (λ (x : Own). x.number) (same_Some e) ∙ ap (λ (x : RenderObject). x.number) (same_Some is),
              scroll_back k o n.value at there,
            )

    widget_at : (k : Handle) → option_map (λ (o : RenderObject). o.widget) (object_at new k) ≡ option_map (λ (o : RenderObject). o.widget) (object_at old k)
    widget_at k = by_nodes (node_at new k) (node_at old k) (own_new k)
      where
        by_nodes : (x y : Option (TreeNode RenderObject)) → option_map own_of x ≡ option_map own_of y
            → option_map (λ (o : RenderObject). o.widget) (option_map (λ (n : TreeNode RenderObject). n.value) x) ≡ option_map (λ (o : RenderObject). o.widget) (option_map (λ (n : TreeNode RenderObject). n.value) y)
        by_nodes None None e = refl
        by_nodes None (Some m) e = absurd cc
        by_nodes (Some n) None e = absurd cc
        by_nodes (Some n) (Some m) e = ap (λ (x : Own). Some x.widget) (same_Some e)

    pub stays_built : StaysBuilt old new
    stays_built = record {
      drawn = drawn_at;
      widgets = widget_at;
      root = others.root ∙ root_laid;
      inactive = others.inactive ∙ inactive_laid;
      handles = keeps_then old.nodes laid.nodes new.nodes handles_laid others.handles;
    }

  -- numbers tell nodes apart as before
  pub numbers_laid : NumbersTell old → NumbersTell laid
  numbers_laid tell j k a b at_j at_k number =
      let was_j = was j a at_j in
      let was_k = was k b at_k in
      tell j k was_j.0 was_k.0 was_j.1 was_k.1 (was_j.2 ∙ (number ∙ sym was_k.2))
    where
      was : (j : Handle) (a : RenderObject) → object_at laid j ≡ Some a → (o : RenderObject) × (object_at old j ≡ Some o) × (o.number ≡ a.number)
      was j a at = by_nodes (node_at laid j) (node_at old j) at (own_laid j)
        where
          by_nodes : (x y : Option (TreeNode RenderObject)) → option_map (λ (n : TreeNode RenderObject). n.value) x ≡ Some a → option_map own_of x ≡ option_map own_of y
              → (o : RenderObject) × (option_map (λ (n : TreeNode RenderObject). n.value) y ≡ Some o) × (o.number ≡ a.number)
          by_nodes None y e s = absurd cc
          by_nodes (Some n) None e s = absurd cc
          by_nodes (Some n) (Some m) e s =
              (m.value, refl, ap (λ (x : Own). x.number) (sym (same_Some s)) ∙ ap (λ (x : RenderObject). x.number) (same_Some e))

-- what is read of a node for its live range is no offset
pub same_but : (laid new : Tree RenderObject) → ButOffsets laid new → (k : Handle) (o : RenderObject) → object_at new k ≡ Some o
    → (v : RenderObject) × (object_at laid k ≡ Some v) × (record v { scroll = 0; needs_layout = false; layout_below = false } ≡ record o { scroll = 0; needs_layout = false; layout_below = false })
same_but laid new others k o at = by_nodes (node_at new k) (node_at laid k) at (others.nodes k)
  where
    by_nodes : (x y : Option (TreeNode RenderObject)) → option_map (λ (n : TreeNode RenderObject). n.value) x ≡ Some o → option_map unscrolled x ≡ option_map unscrolled y
        → (v : RenderObject) × (option_map (λ (n : TreeNode RenderObject). n.value) y ≡ Some v)
        × (record v { scroll = 0; needs_layout = false; layout_below = false } ≡ record o { scroll = 0; needs_layout = false; layout_below = false })
    by_nodes None y e s = absurd cc
    by_nodes (Some n) None e s = absurd cc
    by_nodes (Some n) (Some m) e s =
        (m.value, refl, ap (λ (x : TreeNode RenderObject). x.value) (sym (same_Some s)) ∙ ap (λ (x : RenderObject). record x { scroll = 0; needs_layout = false; layout_below = false }) (same_Some e))
