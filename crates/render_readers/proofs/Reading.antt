-- What is stored at a node, and what stands at the places below it.
use Rattle.std.proofs.Common.{◌≡◌, ap, refl, sym, subst, ◌∙◌, ℕ, zero, suc, ◌≤◌, Bool, true, false, Option, Some, None, IsSome, option_map, List, [], ◌∷◌, length, get_or, arith}
use Rattle.std.specs.Prelude.{slice_index_or, is_some, if◌then◌else◌}
use Rattle.fx_handles.specs.declared.Handle.{Handle}
use Rattle.fx_geom.specs.declared.shapes.Offset.{Offset}
use Rattle.node_tree.specs.Children.{Nth}
use Rattle.node_tree.specs.Forest.{TreeNode, Forest, tops, below, skip}
use Rattle.node_tree.specs.Forest.Forest.{none, tree}
use Rattle.node_tree.specs.Tree.{Tree, IsNode, StandsAt, Holds, node_at, children_at, subtree_at, value_at}
use Rattle.plain_tree.specs.Laid.{Laid, laid, Stood}
use Rattle.laid_cursor.specs.Opened.{opened, offset_of}
use Rattle.render_tree.specs.Object.{RenderObject, object_look}
use Rattle.render_tree.specs.Plain.{frame_or, offset_or, facts_of, laids_of, root_below}
use Rattle.render_readers.specs.Places.{first_laid, laid_at, first_place, places_in}
use Rattle.render_readers.specs.Shown.{laid_once, shown_laid}

-- ---- what is stored at a node

same_one : {A : Type 0} (x y : A) → Some x ≡ Some y → x ≡ y
same_one x y e = cc

no_top : (h : Handle) → [] ≡ h ∷ [] → ⊥
no_top h e = cc

first_same : (k h : Handle) (ks : List Handle) → k ∷ ks ≡ h ∷ [] → k ≡ h
first_same k h ks e = cc

rest_none : (k h : Handle) (ks : List Handle) → k ∷ ks ≡ h ∷ [] → ks ≡ []
rest_none k h ks e = cc

no_trees : (f : Forest RenderObject) → tops f ≡ [] → f ≡ none
no_trees none e = refl
no_trees (tree h o kids rest) e = absurd (some_top h (tops rest) e)
  where
    some_top : (h : Handle) (hs : List Handle) → h ∷ hs ≡ [] → ⊥
    some_top h hs e = cc

-- a node, as it stands in its tree
record Here (t : Tree RenderObject) (h : Handle) (s : Forest RenderObject) : Type 0 where
  value : RenderObject
  kids : Forest RenderObject
  is : s ≡ tree h value kids none
  stored : value_at t h ≡ Some value

here : (t : Tree RenderObject) (h : Handle) (s : Forest RenderObject) → StandsAt t h s → Here t h s
here t h none at = absurd (no_top h at.top)
here t h (tree k o kids rest) at =
    let first = first_same k h (tops rest) at.top in
    let last = no_trees rest (rest_none k h (tops rest) at.top) in
    record {
      value = o;
      kids = kids;
      is = λ i. tree (first i) o kids (last i);
      stored = ap (λ x. value_at t x) (sym first) ∙ ap (option_map (λ (n : TreeNode RenderObject). n.value)) at.stands.0;
    }

live_of : (n : Option (TreeNode RenderObject)) (o : RenderObject) → option_map (λ (x : TreeNode RenderObject). x.value) n ≡ Some o → IsSome n
live_of (Some x) o e = refl
live_of None o e = absurd (unlike o e)
  where
    unlike : (o : RenderObject) → None ≡ Some o → ⊥
    unlike o e = cc

module _ (t : Tree RenderObject) (h : Handle) (holds : Holds t h) where
  abbrev there : Here t h (subtree_at t h)
  there = here t h (subtree_at t h) holds

  pub is_live : IsNode t h
  is_live = live_of (node_at t h) there.value there.stored

  pub never_none : None ≡ value_at t h → ⊥
  never_none e = unlike there.value (e ∙ there.stored)
    where
      unlike : (x : RenderObject) → None ≡ Some x → ⊥
      unlike x e = cc

  -- what is stored there, where it was looked up
  module _ (o : RenderObject) (stored : value_at t h ≡ Some o) where
    stored_is : there.value ≡ o
    stored_is = same_one there.value o (sym there.stored ∙ stored)

    opened_is : {A : Type 0} (f : RenderObject → A) (g : Laid → A) → f there.value ≡ g (first_laid (tree h there.value there.kids none)) → f o ≡ g (laid_at t h)
    opened_is f g e = ap f (sym stored_is) ∙ e ∙ sym (ap (λ x. g (first_laid x)) there.is)

    pub number_read : o.number ≡ (opened (laid_at t h)).number
    number_read = opened_is (λ x. x.number) (λ l. (opened l).number) refl

    pub look_read : object_look o ≡ (opened (laid_at t h)).look
    look_read = opened_is object_look (λ l. (opened l).look) refl

    pub frame_read : frame_or o.frame ≡ (opened (laid_at t h)).facts.frame
    frame_read = opened_is (λ x. frame_or x.frame) (λ l. (opened l).facts.frame) refl

    pub notes_read : o.notes ≡ (opened (laid_at t h)).facts.notes
    notes_read = opened_is (λ x. x.notes) (λ l. (opened l).facts.notes) refl

    pub plugged_read : o.plugged ≡ (opened (laid_at t h)).facts.plugged
    plugged_read = opened_is (λ x. x.plugged) (λ l. (opened l).facts.plugged) refl

    -- what stands at its own place
    abbrev placed : Bool → Option Offset → Option Stood
    placed shown at =
        if shown
        then Some (record { at = offset_or at; child = laid there.value.number (object_look there.value) (facts_of there.value) (laids_of there.kids) })
        else None

    place_read : first_place (subtree_at t h) ≡ placed o.shown o.offset
    place_read = ap first_place there.is ∙ ap (λ (x : RenderObject). placed x.shown x.offset) stored_is

    pub place_hidden : o.shown ≡ false → None ≡ first_place (subtree_at t h)
    place_hidden e = sym (place_read ∙ ap (λ b. placed b o.offset) e)

    pub place_shown : (at : Offset) (l : Laid) → o.shown ≡ true → at ≡ offset_or o.offset → l ≡ laid_at t h → Some (record { at = at; child = l }) ≡ first_place (subtree_at t h)
    place_shown at l e is_at is_l =
        (λ i. Some (record { at = is_at i; child = (is_l ∙ ap first_laid there.is) i }))
        ∙ sym (place_read ∙ ap (λ b. placed b o.offset) e)

    pub offset_hidden : o.shown ≡ false → None ≡ option_map offset_of (first_place (subtree_at t h))
    offset_hidden e = ap (option_map offset_of) (place_hidden e)

    pub offset_shown : (at : Offset) → o.shown ≡ true → at ≡ offset_or o.offset → Some at ≡ option_map offset_of (first_place (subtree_at t h))
    offset_shown at e is_at = ap (option_map offset_of) (place_shown at (laid_at t h) e is_at refl)

    -- the root's laid tree
    root_read : t.root ≡ Some h → shown_laid t ≡ (if is_some o.frame then Some (laid_at t h) else None)
    root_read e =
        ap (λ r. laid_once (root_below t r)) e
        ∙ ap laid_once there.is
        ∙ ap (λ (x : RenderObject). if is_some x.frame then Some (first_laid (tree h there.value there.kids none)) else None) stored_is
        ∙ ap (λ f. if is_some o.frame then Some (first_laid f) else None) (sym there.is)

    pub root_unlaid : t.root ≡ Some h → is_some o.frame ≡ false → None ≡ shown_laid t
    root_unlaid e none_yet = sym (root_read e ∙ ap (λ b. if b then Some (laid_at t h) else None) none_yet)

    pub root_laid : (l : Laid) → t.root ≡ Some h → is_some o.frame ≡ true → l ≡ laid_at t h → Some l ≡ shown_laid t
    root_laid l e once is_l = ap Some is_l ∙ sym (root_read e ∙ ap (λ b. if b then Some (laid_at t h) else None) once)

pub no_root : (t : Tree RenderObject) → t.root ≡ None → None ≡ shown_laid t
no_root t e = sym (ap (λ r. laid_once (root_below t r)) e)

-- ---- the places below a node

places_count : (f : Forest RenderObject) → length (tops f) ≡ length (places_in f)
places_count none = refl
places_count (tree h o kids rest) = ap suc (places_count rest)

place_is : (f : Forest RenderObject) (i : ℕ) → get_or (places_in f) i None ≡ first_place (skip i f)
place_is none zero = refl
place_is none (suc i) = refl
place_is (tree h o kids rest) zero = refl
place_is (tree h o kids rest) (suc i) = place_is rest i

place_past : (f : Forest RenderObject) (i : ℕ) → length (tops f) ≤ i → None ≡ get_or (places_in f) i None
place_past none i past = refl
place_past (tree h o kids rest) zero past = absurd (omega arith)
place_past (tree h o kids rest) (suc i) past = place_past rest i (omega arith)

module _ (t : Tree RenderObject) (h : Handle) (hs : List Handle) (is_list : hs ≡ children_at t h) where
  pub count_read : tops (below (subtree_at t h)) ≡ children_at t h → length hs ≡ length (places_in (below (subtree_at t h)))
  count_read listed = ap (λ (l : List Handle). length l) (is_list ∙ sym listed) ∙ places_count (below (subtree_at t h))

  pub child_past : (i : ℕ) → tops (below (subtree_at t h)) ≡ children_at t h → length hs ≤ i → None ≡ get_or (places_in (below (subtree_at t h))) i None
  child_past i listed past =
      place_past (below (subtree_at t h)) i (subst (λ (l : List Handle). length l ≤ i) (is_list ∙ sym listed) past)

  pub child_holds : (i : ℕ) (z : Handle) → Nth t (below (subtree_at t h)) i (slice_index_or (children_at t h) i z) → Holds t (slice_index_or hs i z)
  child_holds i z nth = subst (λ (l : List Handle). Holds t (slice_index_or l i z)) (sym is_list) nth.holds

  pub child_read : (i : ℕ) (z : Handle) → Nth t (below (subtree_at t h)) i (slice_index_or (children_at t h) i z)
      → first_place (subtree_at t (slice_index_or hs i z)) ≡ get_or (places_in (below (subtree_at t h))) i None
  child_read i z nth =
      ap (λ (l : List Handle). first_place (subtree_at t (slice_index_or l i z))) is_list
      ∙ ap first_place nth.subtree
      ∙ sym (ap first_place nth.skips)
      ∙ sym (place_is (below (subtree_at t h)) i)
