-- Between the phases each lazy list has below it what is left of its old items.
use Rattle.std.proofs.Common.{◌≡◌, ℕ, zero, suc, ◌||◌, ◌&&◌, Bool, true, false, cond, Option, Some, None, IsSome, option_map, List, [], ◌∷◌, ◌++◌, map, refl, sym, ap, subst, ◌∙◌}
use Rattle.std.proofs.lemmas.List.{append_assoc, append-nil}
use Rattle.fx_handles.specs.declared.Handle.{Handle}
use Rattle.fx_handles.specs.Handle.{same}
use Rattle.fx_handles.specs.Arena.{used_count}
use Rattle.node_tree.specs.Children.{Keeps}
use Rattle.node_tree.specs.Forest.{TreeNode, Forest, below, pruned, or_else, tree_of, map_values, plain_node, plain}
use Rattle.node_tree.specs.Forest.Forest.{none, tree}
use Rattle.node_tree.specs.Plan.{IsUpdated}
use Rattle.node_tree.specs.Tree.{Tree, Is, IsNode, node_at, subtree_at}
use Rattle.node_tree.proofs.Children.{stands-keeps, subtree-keeps}
use Rattle.node_tree.proofs.ForestLemmas.{same_Some}
use Rattle.node_tree.proofs.TreeLemmas.{subtree_is-tree_of, Holds-from_Is}
use Rattle.tree_marks.specs.Marking.{Above, Marking, within}
use Rattle.tree_marks.specs.Marks.{listed as is_listed, has_listed, some_climbs, sweep}
use Rattle.plain_tree.specs.Render.{render, Renders, more_renders}
use Rattle.layout_form.specs.Fits.{CanAllBeLaidOut}
use Rattle.render_tree.specs.Object.{RenderObject, object_look}
use Rattle.render_tree.specs.Plain.{renders_of, lazy_children}
use Rattle.render_tree.specs.Redraw.{Redraw, redrawn}
use Rattle.render_tree.specs.Tree.{object_at}
use Rattle.kept_layouts.specs.Items.{AllListsUnasked}
use Rattle.build_walk.specs.Merging.{lists_items, lists_redraw, Grown, grown, grown_below, grow, list_handles}
use Rattle.build_walk.proofs.Settled.{render_at, swept_renders}
use Rattle.build_owner.specs.Staying.{lists_object, redraw_now, left_items}
use Rattle.frame_owner.proofs.Left.{MayStand, nothing_stands, pruned_stand, below_stands, EitherWay, ListsHave, ItemsStand}
use Rattle.frame_owner.proofs.Looks.{AreThere, stand_there}

-- ---- a plan with items, list by list

module _ (G : Handle → Forest Redraw) where
  abbrev placed : Forest Redraw → Forest Redraw
  placed none = none
  placed (tree h u kids rest) = tree h u (cond (lists_redraw u) (G h) (placed kids)) (placed rest)

  abbrev items_for : List Handle → List (Forest Redraw)
  items_for hs = map G hs

  items_both : (hs ks : List Handle) → items_for (hs ++ ks) ≡ items_for hs ++ items_for ks
  items_both [] ks = refl
  items_both (h ∷ hs) ks = ap (λ gs. G h ∷ gs) (items_both hs ks)

  -- a list takes the first of them, and of another node those below it take theirs
  below_placed : (b : Bool) (h : Handle) (kids : Forest Redraw) (more : List (Forest Redraw))
      → ((gs : List (Forest Redraw)) → grow lists_redraw kids (items_for (list_handles lists_redraw kids) ++ gs) ≡ grown (placed kids) gs)
      → grown_below b (items_for (cond b (h ∷ []) (list_handles lists_redraw kids)) ++ more) (grow lists_redraw kids (items_for (cond b (h ∷ []) (list_handles lists_redraw kids)) ++ more))
      ≡ grown (cond b (G h) (placed kids)) more
  below_placed true h kids more go = refl
  below_placed false h kids more go = go more

  grow_placed : (d : Forest Redraw) (more : List (Forest Redraw)) → grow lists_redraw d (items_for (list_handles lists_redraw d) ++ more) ≡ grown (placed d) more
  grow_placed none more = refl
  grow_placed (tree h u kids rest) more =
      let own = cond (lists_redraw u) (h ∷ []) (list_handles lists_redraw kids) in
      let later = list_handles lists_redraw rest in
      ap (λ gs. grow lists_redraw (tree h u kids rest) gs) (ap (λ gs. gs ++ more) (items_both own later) ∙ append_assoc (items_for own) (items_for later) more)
      ∙ (ap after (below_placed (lists_redraw u) h kids (items_for later ++ more) (λ gs. grow_placed kids gs))
      ∙ ap (λ (x : Grown Redraw). grown (tree h u (cond (lists_redraw u) (G h) (placed kids)) x.forest) x.rest) (grow_placed rest more))
    where
      after : Grown Redraw → Grown Redraw
      after x = grown (tree h u x.forest (grow lists_redraw rest x.rest).forest) (grow lists_redraw rest x.rest).rest

  pub all_placed : (d : Forest Redraw) → (grow lists_redraw d (items_for (list_handles lists_redraw d))).forest ≡ placed d
  all_placed d =
      ap (λ gs. (grow lists_redraw d gs).forest) (sym (append-nil (items_for (list_handles lists_redraw d)))) ∙ ap (λ (x : Grown Redraw). x.forest) (grow_placed d [])

  -- so each list of what comes of it has its own
  module _ (at : Handle → Option RenderObject) where
    widget_is : (u : Redraw) (v : RenderObject) (o : Option RenderObject) → option_map (redrawn u) o ≡ Some v → v.widget ≡ u.widget
    widget_is u v None e = absurd (cc)
    widget_is u v (Some o) e = ap (λ (x : RenderObject). x.widget) (sym (same_Some e))

    by_list : (b c : Bool) (h k : Handle) (kids : Forest Redraw) (f : Forest RenderObject) → c ≡ b → h ≡ k → IsUpdated redrawn at (cond b (G h) (placed kids)) f
        → (IsUpdated redrawn at (placed kids) f → ListsHave (λ j g. IsUpdated redrawn at (G j) g) f)
        → EitherWay c (IsUpdated redrawn at (G k) f) (ListsHave (λ j g. IsUpdated redrawn at (G j) g) f)
    by_list true c h k kids f e same_handle up go =
        subst (λ x. EitherWay x (IsUpdated redrawn at (G k) f) (ListsHave (λ j g. IsUpdated redrawn at (G j) g) f)) (sym e) (subst (λ j. IsUpdated redrawn at (G j) f) same_handle up)
    by_list false c h k kids f e same_handle up go =
        subst (λ x. EitherWay x (IsUpdated redrawn at (G k) f) (ListsHave (λ j g. IsUpdated redrawn at (G j) g) f)) (sym e) (go up)

    lists_placed : (d : Forest Redraw) (f : Forest RenderObject) → IsUpdated redrawn at (placed d) f → ListsHave (λ j g. IsUpdated redrawn at (G j) g) f
    lists_placed none none up = tt
    lists_placed none (tree k v inner later) up = absurd up
    lists_placed (tree h u kids rest) none up = absurd up
    lists_placed (tree h u kids rest) (tree k v inner later) up = (
      by_list (lists_redraw u) (lists_object v) h k kids inner (ap lists_items (widget_is u v (at h) up.1)) up.0 up.2 (λ x. lists_placed kids inner x),
      lists_placed rest later up.3,
    )

    pub lists_updated : (d : Forest Redraw) (f : Forest RenderObject) → IsUpdated redrawn at (grow lists_redraw d (items_for (list_handles lists_redraw d))).forest f → ListsHave (λ j g. IsUpdated redrawn at (G j) g) f
    lists_updated d f up = lists_placed d f (subst (λ (x : Forest Redraw). IsUpdated redrawn at x f) (all_placed d) up)

-- ---- what is left stays what it is

module _ (at : Handle → Option (TreeNode RenderObject)) where
  there_if : (b : Bool) (f g : Forest RenderObject) → AreThere at f → AreThere at g → AreThere at (cond b f g)
  there_if true f g h k = h
  there_if false f g h k = k

  pruned_there : (drops : Handle → Bool) (f : Forest RenderObject) → AreThere at f → AreThere at (pruned drops f)
  pruned_there drops none h = tt
  pruned_there drops (tree k v kids rest) h =
      there_if (drops k) (pruned drops rest) (tree k v (pruned drops kids) (pruned drops rest)) (pruned_there drops rest h.2) (h.0, pruned_there drops kids h.1, pruned_there drops rest h.2)

  there_or : (f g : Forest RenderObject) → AreThere at (below f) → AreThere at (below g) → AreThere at (below (or_else f g))
  there_or none g h k = k
  there_or (tree i v kids rest) g h k = h

  below_if : (b : Bool) (f g : Forest RenderObject) → AreThere at (below f) → AreThere at (below g) → AreThere at (below (cond b f g))
  below_if true f g h k = h
  below_if false f g h k = k

  below_there : (h : Handle) (f : Forest RenderObject) → AreThere at f → AreThere at (below (tree_of h f))
  below_there h none there = tt
  below_there h (tree k v kids rest) there =
      below_if (same k h) (tree k v kids none) (or_else (tree_of h kids) (tree_of h rest)) there.1
      (there_or (tree_of h kids) (tree_of h rest) (below_there h kids there.1) (below_there h rest there.2))

module _ (made : Tree RenderObject) where
  now_is : (o v : RenderObject) (x : Option RenderObject) → x ≡ Some o → option_map (redrawn (redraw_now o)) x ≡ Some v → v ≡ o
  now_is o v x at e = sym (same_Some (ap (option_map (redrawn (redraw_now o))) (sym at) ∙ e))

  -- each has the widget and the parent data that it has already
  left_same : (s f : Forest RenderObject) → AreThere (node_at made) s → IsUpdated redrawn (object_at made) (map_values (λ k o. redraw_now o) s) f → renders_of f ≡ renders_of s
  left_same none none there up = refl
  left_same none (tree k v inner later) there up = absurd up
  left_same (tree h o kids rest) none there up = absurd up
  left_same (tree h o kids rest) (tree k v inner later) there up =
      let same_object : v ≡ o = now_is o v (object_at made h) there.0 up.1 in
      λ i.
      more_renders
      (render (same_object i).number (object_look (same_object i)) (same_object i).parent_data (same_object i).scroll (lazy_children (same_object i)) (left_same kids inner there.1 up.2 i))
      (left_same rest later there.2 up.3 i)

-- ---- below a node that was there stands what stood there; a new one has nothing below it

no_handles : (n : ℕ) (at : Handle → Option (TreeNode RenderObject)) → plain n at [] ≡ none
unfolding plain
no_handles zero at = refl
no_handles (suc n) at = refl

nothing_below : (n : ℕ) (at : Handle → Option (TreeNode RenderObject)) (h : Handle) (x : Option (TreeNode RenderObject)) → at h ≡ x → ((y : TreeNode RenderObject) → x ≡ Some y → y.children ≡ []) → below (plain n at (h ∷ [])) ≡ none
unfolding plain
nothing_below zero at h x e bare = refl
nothing_below (suc n) at h None e bare = ap (λ y. below (plain_node h y (plain n at) [])) e
nothing_below (suc n) at h (Some y) e bare = ap (λ z. below (plain_node h z (plain n at) [])) e ∙ (ap (plain n at) (bare y refl) ∙ no_handles n at)

lists_weaker : (P Q : Handle → Forest RenderObject → Type 0) → ((h : Handle) (f : Forest RenderObject) → P h f → Q h f) → (f : Forest RenderObject) → ListsHave P f → ListsHave Q f
lists_weaker P Q go none x = tt
lists_weaker P Q go (tree h o kids rest) x = (either (lists_object o) x.0 (lists_weaker P Q go kids), lists_weaker P Q go rest x.1)
  where
    either : (b : Bool) → EitherWay b (P h kids) (ListsHave P kids) → (ListsHave P kids → ListsHave Q kids) → EitherWay b (Q h kids) (ListsHave Q kids)
    either true y inner = go h kids y
    either false y inner = inner y

module _ (old made : Tree RenderObject) (f0 : Forest RenderObject) (is : Is old f0) (keeps : Keeps old made)
    (bare_new : (k : Handle) (n : TreeNode RenderObject) → node_at old k ≡ None → node_at made k ≡ Some n → n.children ≡ [])
    (asked : Bool) (can : CanAllBeLaidOut (renders_of f0)) (quiet : AllListsUnasked asked (renders_of f0)) where
  made_there : AreThere (node_at made) f0
  made_there = stand_there (node_at made) None f0 (stands-keeps old made None f0 keeps is.stands)

  abbrev Below : Forest RenderObject → Type 0
  Below g = MayStand (renders_of (below g)) × AreThere (node_at made) (below g)

  nothing_stood : (g : Forest RenderObject) → below g ≡ none → Below g
  nothing_stood g e = subst (λ (x : Forest RenderObject). MayStand (renders_of x) × AreThere (node_at made) x) (sym e) (nothing_stands, tt)

  stood_below : (h : Handle) → Below (subtree_at made h)
  stood_below h = by_old (node_at old h) refl
    where
      by_old : (x : Option (TreeNode RenderObject)) → node_at old h ≡ x → Below (subtree_at made h)
      by_old None gone = nothing_stood (subtree_at made h) (nothing_below (used_count made.nodes) (node_at made) h (node_at made h) refl (λ y e. bare_new h y gone e))
      by_old (Some n) at =
          let live : IsNode old h = subst IsSome (sym at) refl in
          let same_tree : subtree_at made h ≡ tree_of h f0 =
          (subtree-keeps old made h keeps live (Holds-from_Is old f0 h is live)).0 ∙ subtree_is-tree_of old f0 h is (is.whole h live) in
          subst Below (sym same_tree) (below_stands h asked f0 can quiet, below_there (node_at made) h f0 made_there)

  left_stands : (named : Handle → Bool) (h : Handle) (kids : Forest RenderObject) → IsUpdated redrawn (object_at made) (left_items made named h) kids → MayStand (renders_of kids)
  left_stands named h kids up =
      let stood = stood_below h in
      let was = below (subtree_at made h) in
      subst MayStand (sym (left_same made (pruned named was) kids (pruned_there (node_at made) named was stood.1) up)) (pruned_stand named was stood.0)

  pub items_stand : (named : Handle → Bool) (d : Forest Redraw) (f : Forest RenderObject) → IsUpdated redrawn (object_at made) (grow lists_redraw d (map (left_items made named) (list_handles lists_redraw d))).forest f
      → ItemsStand f
  items_stand named d f up =
      lists_weaker (λ h g. IsUpdated redrawn (object_at made) (left_items made named h) g) (λ h g. MayStand (renders_of g)) (λ h g x. left_stands named h g x) f
      (lists_updated (left_items made named) (object_at made) d f up)

-- ---- marks leave it so

module _ (m : Marking RenderObject) (lists : (f b : Bool) (o : RenderObject) → lists_object (m.marked f b o) ≡ lists_object o) (shown : (f b : Bool) (o : RenderObject) (rs : Renders) → render_at (m.marked f b o) rs ≡ render_at o rs)
    (also : Bool) (hs : List Handle) where
  pub swept_items : (p : Above) (f : Forest RenderObject) → ItemsStand f → ItemsStand (sweep m also hs p f)
  swept_items p none x = tt
  swept_items p (tree h o kids rest) x =
      let v = m.marked ((is_listed h hs || some_climbs m hs (within m p o) kids) && m.takes p.top o) (has_listed hs kids || (also && is_listed h hs)) o in
      (either (lists_object o) (lists_object v) (lists _ _ o) x.0 (swept_items (within m p o) kids), swept_items p rest x.1)
    where
      either : (b c : Bool) → c ≡ b → EitherWay b (MayStand (renders_of kids)) (ItemsStand kids) → (ItemsStand kids → ItemsStand (sweep m also hs (within m p o) kids))
          → EitherWay c (MayStand (renders_of (sweep m also hs (within m p o) kids))) (ItemsStand (sweep m also hs (within m p o) kids))
      either true c e y go =
          subst (λ z. EitherWay z (MayStand (renders_of (sweep m also hs (within m p o) kids))) (ItemsStand (sweep m also hs (within m p o) kids))) (sym e)
          (subst MayStand (sym (swept_renders m shown also hs (within m p o) kids)) y)
      either false c e y go = subst (λ z. EitherWay z (MayStand (renders_of (sweep m also hs (within m p o) kids))) (ItemsStand (sweep m also hs (within m p o) kids))) (sym e) (go y)
