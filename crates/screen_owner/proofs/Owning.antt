-- What is kept of a screen where nodes are marked.
use Rattle.std.proofs.Common.{◌≡◌, ap, refl, sym, subst, ◌∙◌, ℕ, Bool, true, false, cond, is_some, Option, Some, None, option_map, option_and_then, List, [], ◌∷◌}
use Rattle.std.proofs.lemmas.Bool.{false≢true, true≢false}
use Rattle.std.specs.BTreeMap.{BTreeMap, get}
use Rattle.std.specs.Ordering.{nat_cmp}
use Rattle.fx_geom.specs.declared.scales.Scale.{Scale}
use Rattle.delegates.specs.Table.{Plug}
use Rattle.fx_handles.specs.declared.Handle.{Handle}
use Rattle.fx_handles.specs.ArenaLaws.{same_Some}
use Rattle.node_tree.specs.Forest.{TreeNode, Forest, tops, set_value}
use Rattle.node_tree.specs.Forest.Forest.{none, tree}
use Rattle.node_tree.specs.Tree.{Tree, Is, IsTree, StandsAt, Holds, node_at, subtree_at}
use Rattle.plain_tree.specs.declared.laid.Frame.{Frame}
use Rattle.plain_tree.specs.Laid.{Laid}
use Rattle.tree_marks.specs.Marking.{at_top}
use Rattle.tree_marks.specs.Marks.{sweep}
use Rattle.layout_form.specs.Object.{Setting, setting_of}
use Rattle.layout_walk.specs.Here.{HereAll}
use Rattle.layout_walk.specs.Rules.{parts_of}
use Rattle.layout_rules.specs.Nodes.{layout_nodes}
use Rattle.render_tree.specs.Edits.{Writes, with_scroll}
use Rattle.render_tree.specs.Marked.{SetsMarks}
use Rattle.render_tree.specs.Marks.{layout_marks, paint_marks}
use Rattle.render_tree.specs.Object.{RenderObject, size_in, is_viewport}
use Rattle.render_tree.specs.Plain.{frame_or, laid_of, root_below, root_tree}
use Rattle.render_tree.specs.Readings.{scroll_of}
use Rattle.render_tree.specs.Tree.{object_at, frame_at}
use Rattle.render_readers.specs.Shown.{laid_once, shown_laid}
use Rattle.render_sync.specs.Numbering.{IsNumbering, number_at}
use Rattle.kept_layouts.specs.Here.{KeepsLayouts}
use Rattle.paint_owner.specs.PaintOwner.{PaintOwner, IsKept}
use Rattle.screen_owner.specs.Screen.{laid_size, IsRight}
use Rattle.screen_owner.specs.Standing.{IsScreenTree, StandsAlone, StandsUnless}
use Rattle.screen_owner.proofs.Indexing.{numbering_same, index_differs}
use Rattle.screen_owner.proofs.Showing.{one_handle, root_forest, same_forest, parts, parts_layout, parts_paint, parts_set, same_shown}

-- a tree without nodes keeps nothing wrong
pub empty_keeps : (s : Setting) (t : Tree RenderObject) → Is t none → KeepsLayouts s t
empty_keeps s t is f there = subst (λ (x : Forest RenderObject). HereAll (parts_of s) (layout_nodes x)) (same_forest t none f is there) tt

-- ---- the same is shown

module _ (old new : Tree RenderObject) (alone : old.inactive ≡ []) (is : IsTree old) where
  pub layouts_parts : (also : Bool) (hs : List Handle) → SetsMarks layout_marks also hs old new → parts (root_tree new) ≡ parts (root_tree old)
  layouts_parts also hs sets =
      ap parts (root_forest new (sweep layout_marks also hs at_top is.0) (sets.inactive ∙ alone) (sets.plain is.0 is.1))
      ∙ (parts_layout also hs at_top is.0 ∙ sym (ap parts (root_forest old is.0 alone is.1)))

  pub paints_parts : (also : Bool) (hs : List Handle) → SetsMarks paint_marks also hs old new → parts (root_tree new) ≡ parts (root_tree old)
  paints_parts also hs sets =
      ap parts (root_forest new (sweep paint_marks also hs at_top is.0) (sets.inactive ∙ alone) (sets.plain is.0 is.1))
      ∙ (parts_paint also hs at_top is.0 ∙ sym (ap parts (root_forest old is.0 alone is.1)))

  pub writes_parts : (h : Handle) (o : RenderObject) (scroll : ℕ) → object_at old h ≡ Some o → Writes old new h (with_scroll scroll o) → parts (root_tree new) ≡ parts (root_tree old)
  writes_parts h o scroll at writes =
      ap parts (root_forest new (set_value h (with_scroll scroll o) is.0) (writes.inactive ∙ alone) (writes.plain is.0 is.1))
      ∙ (parts_set (node_at old) h o (with_scroll scroll o) at refl None is.0 is.1.stands ∙ sym (ap parts (root_forest old is.0 alone is.1)))

  pub layouts_shown : (also : Bool) (hs : List Handle) → SetsMarks layout_marks also hs old new → shown_laid new ≡ shown_laid old
  layouts_shown also hs sets = same_shown old new (layouts_parts also hs sets)

  pub paints_shown : (also : Bool) (hs : List Handle) → SetsMarks paint_marks also hs old new → shown_laid new ≡ shown_laid old
  paints_shown also hs sets = same_shown old new (paints_parts also hs sets)

  pub writes_shown : (h : Handle) (o : RenderObject) (scroll : ℕ) → object_at old h ≡ Some o → Writes old new h (with_scroll scroll o) → shown_laid new ≡ shown_laid old
  writes_shown h o scroll at writes = same_shown old new (writes_parts h o scroll at writes)

-- ---- what always holds

pub stands_same : (spent : Bool) (numbers : BTreeMap ℕ Handle) (old new : Tree RenderObject) → ((k : Handle) → number_at new k ≡ number_at old k) → new.inactive ≡ old.inactive
    → StandsUnless spent numbers old → StandsUnless spent numbers new
stands_same true numbers old new same_numbers inactive stands = tt
stands_same false numbers old new same_numbers inactive stands =
    record { numbering = numbering_same numbers old new same_numbers stands.numbering; alone = inactive ∙ stands.alone }

pub ready_from : (spent : Bool) (numbers : BTreeMap ℕ Handle) (t : Tree RenderObject) → StandsUnless spent numbers t → spent ≡ false → IsScreenTree numbers t
ready_from true numbers t stands e = absurd (cc)
ready_from false numbers t stands e = stands

pub alone_from : (spent : Bool) (numbers : BTreeMap ℕ Handle) (t : Tree RenderObject) → StandsUnless spent numbers t → IsTree t → spent ≡ false → StandsAlone t
alone_from spent numbers t stands is e =
    let ready = ready_from spent numbers t stands e in record { tree = is; alone = ready.alone; differ = index_differs numbers t ready.numbering }

-- ---- how far a node is scrolled

no_some : {A : Type 0} (a : A) → Some a ≡ None → ⊥
no_some a e = cc

pub scroll_found : (numbers : BTreeMap ℕ Handle) (t : Tree RenderObject) → IsNumbering numbers t → (number : ℕ) (h : Handle) → get nat_cmp numbers number ≡ Some h
    → (k : Handle) (o : RenderObject) → object_at t k ≡ Some o → o.number ≡ number → option_and_then scroll_of (object_at t h) ≡ scroll_of o
scroll_found numbers t index number h found k o at is =
    let named = index.to_index number k (ap (option_map (λ (x : RenderObject). x.number)) at ∙ ap Some is) in
    ap (λ (x : Handle). option_and_then scroll_of (object_at t x)) (same_Some (sym found ∙ named)) ∙ ap (option_and_then scroll_of) at

pub none_found : (numbers : BTreeMap ℕ Handle) (t : Tree RenderObject) → IsNumbering numbers t → (number : ℕ) (h : Handle) → get nat_cmp numbers number ≡ Some h
    → ((k : Handle) → number_at t k ≡ Some number → ⊥) → ⊥
none_found numbers t index number h found gone = gone h (index.to_node number h found)

pub number_missing : (numbers : BTreeMap ℕ Handle) (t : Tree RenderObject) → IsNumbering numbers t → (number : ℕ) → get nat_cmp numbers number ≡ None
    → (k : Handle) (o : RenderObject) → object_at t k ≡ Some o → o.number ≡ number → None ≡ scroll_of o
number_missing numbers t index number missing k o at is =
    absurd (no_some k (sym (index.to_index number k (ap (option_map (λ (x : RenderObject). x.number)) at ∙ ap Some is)) ∙ missing))

-- ---- the size of what is shown

abbrev top_frame : Forest RenderObject → Option Frame
top_frame none = None
top_frame (tree h o below rest) = o.frame

laid_once_size : (f : Forest RenderObject) → option_and_then laid_size (laid_once f) ≡ size_in (top_frame f)
laid_once_size none = refl
laid_once_size (tree h o below rest) = by_frame o.frame refl
  where
    by_frame : (x : Option Frame) → o.frame ≡ x → option_and_then laid_size (laid_once (tree h o below rest)) ≡ size_in o.frame
    by_frame None e = ap (λ (b : Bool). option_and_then laid_size (cond {A = Option Laid} b (laid_of (tree h o below rest)) None)) (ap is_some e) ∙ sym (ap size_in e)
    by_frame (Some frame) e =
        ap (λ (b : Bool). option_and_then laid_size (cond {A = Option Laid} b (laid_of (tree h o below rest)) None)) (ap is_some e)
        ∙ (ap (λ (x : Option Frame). size_in (Some (frame_or x))) e ∙ sym (ap size_in e))

pub size_of_root : (t : Tree RenderObject) (h : Handle) → t.root ≡ Some h → Holds t h → size_in (frame_at t h) ≡ option_and_then laid_size (shown_laid t)
size_of_root t h root holds =
    sym (ap (λ (r : Option Handle). option_and_then laid_size (laid_once (root_below t r))) root ∙ (laid_once_size (subtree_at t h) ∙ ap size_in (top_is (subtree_at t h) holds)))
  where
    top_is : (f : Forest RenderObject) → StandsAt t h f → top_frame f ≡ frame_at t h
    top_is none stands = absurd (no_tops stands.top)
      where
        no_tops : [] ≡ h ∷ [] → ⊥
        no_tops e = cc
    top_is (tree k o below rest) stands =
        let same_top : h ≡ k = (one_handle h k (tops rest) (sym stands.top)).0 in
        sym (ap (λ (x : Option (TreeNode RenderObject)). option_and_then (λ (y : RenderObject). y.frame) (option_map (λ (n : TreeNode RenderObject). n.value) x)) (ap (node_at t) same_top ∙ stands.stands.0))

-- ---- what is right stays right

pub right_by : (delegates after : List Plug) (nodes now : Tree RenderObject) (scale then : Scale) (layers : PaintOwner) (spent : Bool) → then ≡ scale
    → (KeepsLayouts (setting_of scale delegates) nodes → KeepsLayouts (setting_of scale after) now) → (IsKept scale.cell delegates layers (root_tree nodes) → IsKept scale.cell after layers (root_tree now))
    → IsRight delegates (record { nodes = nodes; scale = scale; layers = layers; spent = spent }) → IsRight after (record { nodes = now; scale = then; layers = layers; spent = spent })
right_by delegates after nodes now scale then layers spent same_scale layouts kept right = record {
  layouts = subst (λ (s : Scale). KeepsLayouts (setting_of s after) now) (sym same_scale) (layouts right.layouts);
  layers = subst (λ (s : Scale). IsKept s.cell after layers (root_tree now)) (sym same_scale) (kept right.layers);
}

-- a Viewport that is live, by how far it is scrolled
pub view_there : (t : Tree RenderObject) (h : Handle) (r : Option ℕ) → r ≡ option_and_then scroll_of (object_at t h) → is_some r ≡ true → (o : RenderObject) × (object_at t h ≡ Some o) × (is_viewport o ≡ true)
view_there t h r e some = by_node (object_at t h) refl
  where
    is : is_some (option_and_then scroll_of (object_at t h)) ≡ true
    is = sym (ap is_some e) ∙ some

    by_view : (o : RenderObject) (b : Bool) → is_viewport o ≡ b → is_some (scroll_of o) ≡ true → is_viewport o ≡ true
    by_view o true v there = v
    by_view o false v there = absurd (false≢true (sym (ap (λ (x : Bool). is_some (cond x (Some o.scroll) None)) v) ∙ there))

    by_node : (x : Option RenderObject) → object_at t h ≡ x → (o : RenderObject) × (object_at t h ≡ Some o) × (is_viewport o ≡ true)
    by_node None at = absurd (false≢true (sym (ap (λ (y : Option RenderObject). is_some (option_and_then scroll_of y)) at) ∙ is))
    by_node (Some o) at = (o, at, by_view o (is_viewport o) refl (sym (ap (λ (y : Option RenderObject). is_some (option_and_then scroll_of y)) at) ∙ is))

pub none_is : {A : Type 0} (x : Option A) → is_some x ≡ false → x ≡ None
none_is None e = refl
none_is (Some a) e = absurd (true≢false e)

pub marked_tree : (also : Bool) (hs : List Handle) (old new : Tree RenderObject) → IsTree old → SetsMarks layout_marks also hs old new → IsTree new
marked_tree also hs old new is sets = (sweep layout_marks also hs at_top is.0, sets.plain is.0 is.1)
