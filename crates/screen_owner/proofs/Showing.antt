-- What a frame shows stays where no part of a node changes that is shown.
use Rattle.std.proofs.Common.{◌≡◌, ap, refl, sym, subst, ◌∙◌, ℕ, ◌+◌, Bool, cond, is_some, Option, Some, None, option_map, List, [], ◌∷◌, ◌++◌, inl, inr, arith}
use Rattle.std.proofs.lemmas.Bool.{cases_Bool}
use Rattle.std.proofs.lemmas.List.{append-nil}
use Rattle.std.specs.Option.{option_to_list}
use Rattle.fx_geom.specs.declared.shapes.Offset.{Offset}
use Rattle.fx_handles.specs.declared.Handle.{Handle}
use Rattle.fx_handles.specs.Handle.{same}
use Rattle.fx_handles.specs.HandleLaws.{same-true}
use Rattle.fx_handles.specs.ArenaLaws.{same_Some}
use Rattle.node_tree.specs.Forest.{TreeNode, Forest, tops, Stands, plain, set_value, size, map_values}
use Rattle.node_tree.specs.Forest.Forest.{none, tree}
use Rattle.node_tree.specs.Tree.{Tree, Is, StandsAt, node_at, parent_of, subtree_at}
use Rattle.node_tree.proofs.ForestLemmas.{plain_is}
use Rattle.node_tree.proofs.TreeLemmas.{subtree_is}
use Rattle.widget_model.specs.Look.{Look}
use Rattle.plain_tree.specs.declared.laid.Facts.{Facts}
use Rattle.plain_tree.specs.Laid.{Laid, laid, Laids, no_laids, more_laids}
use Rattle.tree_marks.specs.Marking.{Above, within}
use Rattle.tree_marks.specs.Marks.{sweep}
use Rattle.render_tree.specs.Marks.{layout_marks, paint_marks}
use Rattle.render_tree.specs.Object.{RenderObject, object_look}
use Rattle.render_tree.specs.Plain.{facts_of, offset_or, laids_of, laid_of, root_below, root_tree}
use Rattle.render_readers.specs.Shown.{laid_once, shown_laid}

-- ---- the root's tree is the whole tree

no_handle : (r : Handle) → r ∷ [] ≡ [] → ⊥
no_handle r e = cc

none_handle : (h : Handle) (hs : List Handle) → [] ≡ h ∷ hs → ⊥
none_handle h hs e = cc

pub one_handle : (r h : Handle) (hs : List Handle) → r ∷ [] ≡ h ∷ hs → (r ≡ h) × (hs ≡ [])
one_handle r h hs e = (first e, later e)
  where
    first : r ∷ [] ≡ h ∷ hs → r ≡ h
    first e = cc

    later : r ∷ [] ≡ h ∷ hs → hs ≡ []
    later e = cc

pub root_forest : (t : Tree RenderObject) (f : Forest RenderObject) → t.inactive ≡ [] → Is t f → root_tree t ≡ f
root_forest t f alone is = by_root t.root refl f is
  where
    tops_are : (root : Option Handle) → t.root ≡ root → (f : Forest RenderObject) → Is t f → option_to_list root ≡ tops f
    tops_are root e f is = sym (append-nil (option_to_list root)) ∙ (ap (λ (hs : List Handle). option_to_list root ++ hs) (sym alone) ∙ (ap (λ (o : Option Handle). option_to_list o ++ t.inactive) (sym e) ∙ is.tops))

    by_root : (root : Option Handle) → t.root ≡ root → (f : Forest RenderObject) → Is t f → root_tree t ≡ f
    by_root None e none is = ap (root_below t) e
    by_root None e (tree h o below rest) is = absurd (none_handle h (tops rest) (tops_are None e (tree h o below rest) is))
    by_root (Some r) e none is = absurd (no_handle r (tops_are (Some r) e none is))
    by_root (Some r) e (tree h o below (tree k v kids rest)) is =
        absurd (none_handle k (tops rest) (sym (one_handle r h (k ∷ tops rest) (tops_are (Some r) e (tree h o below (tree k v kids rest)) is)).1))
    by_root (Some r) e (tree h o below none) is =
        let same_top = (one_handle r h [] (tops_are (Some r) e (tree h o below none) is)).0 in
        ap (root_below t) e ∙ (ap (subtree_at t) same_top ∙ subtree_is t h (tree h o below none) (stands h o below is))
      where
        stands : (h : Handle) (o : RenderObject) (below : Forest RenderObject) → Is t (tree h o below none) → StandsAt t h (tree h o below none)
        stands h o below is = record {
          top = refl;
          stands = subst (λ (p : Option Handle). Stands (node_at t) p (tree h o below none)) (sym (ap parent_of is.stands.0)) is.stands;
          distinct = is.distinct;
        }

-- a tree is one forest
pub same_forest : (t : Tree RenderObject) (f g : Forest RenderObject) → Is t f → Is t g → f ≡ g
same_forest t f g one two =
    let n : ℕ = size f + size g in
    sym (plain_is (node_at t) None f n one.stands (omega arith)) ∙ (ap (plain n (node_at t)) (sym one.tops ∙ two.tops) ∙ plain_is (node_at t) None g n two.stands (omega arith))

-- ---- the parts of a node that are shown

pub record Part : Type 0 where
  pub number : ℕ
  pub look : Look
  pub facts : Facts
  pub offset : Option Offset
  pub shown : Bool
  pub once : Bool

abbrev pub part : RenderObject → Part
part o = record { number = o.number; look = object_look o; facts = facts_of o; offset = o.offset; shown = o.shown; once = is_some o.frame }

abbrev pub parts : Forest RenderObject → Forest Part
parts f = map_values (λ h o. part o) f

abbrev laids_by : Forest Part → Laids
laids_by none = no_laids
laids_by (tree h p below rest) =
    cond {A = Laids} p.shown (more_laids (offset_or p.offset) (laid p.number p.look p.facts (laids_by below)) (laids_by rest)) (laids_by rest)

abbrev once_by : Forest Part → Option Laid
once_by none = None
once_by (tree h p below rest) = cond {A = Option Laid} p.once (Some (laid p.number p.look p.facts (laids_by below))) None

laids_are : (f : Forest RenderObject) → laids_of f ≡ laids_by (parts f)
laids_are none = refl
laids_are (tree h o below rest) =
    ap (λ (ls : Laids). cond {A = Laids} o.shown (more_laids (offset_or o.offset) (laid o.number (object_look o) (facts_of o) ls) (laids_of rest)) (laids_of rest)) (laids_are below)
    ∙ ap (λ (ls : Laids). cond {A = Laids} o.shown (more_laids (offset_or o.offset) (laid o.number (object_look o) (facts_of o) (laids_by (parts below))) ls) ls) (laids_are rest)

once_is : (f : Forest RenderObject) → laid_once f ≡ once_by (parts f)
once_is none = refl
once_is (tree h o below rest) =
    ap (λ (ls : Laids). cond {A = Option Laid} (is_some o.frame) (Some (laid o.number (object_look o) (facts_of o) ls)) None) (laids_are below)

-- a root's laid tree, whether it has a frame or not
abbrev laid_by : Forest Part → Option Laid
laid_by none = None
laid_by (tree h p below rest) = Some (laid p.number p.look p.facts (laids_by below))

laid_is : (f : Forest RenderObject) → laid_of f ≡ laid_by (parts f)
laid_is none = refl
laid_is (tree h o below rest) = ap (λ (ls : Laids). Some (laid o.number (object_look o) (facts_of o) ls)) (laids_are below)

pub same_laid_of : (f g : Forest RenderObject) → parts g ≡ parts f → laid_of g ≡ laid_of f
same_laid_of f g e = laid_is g ∙ (ap laid_by e ∙ sym (laid_is f))

pub same_shown : (old new : Tree RenderObject) → parts (root_tree new) ≡ parts (root_tree old) → shown_laid new ≡ shown_laid old
same_shown old new e = once_is (root_tree new) ∙ (ap once_by e ∙ sym (once_is (root_tree old)))

-- ---- changes that are not shown

pub parts_layout : (also : Bool) (hs : List Handle) (p : Above) (f : Forest RenderObject) → parts (sweep layout_marks also hs p f) ≡ parts f
parts_layout also hs p none = refl
parts_layout also hs p (tree k v kids rest) =
    ap (λ (x : Forest Part). tree k (part v) x (parts (sweep layout_marks also hs p rest))) (parts_layout also hs (within layout_marks p v) kids)
    ∙ ap (λ (x : Forest Part). tree k (part v) (parts kids) x) (parts_layout also hs p rest)

pub parts_paint : (also : Bool) (hs : List Handle) (p : Above) (f : Forest RenderObject) → parts (sweep paint_marks also hs p f) ≡ parts f
parts_paint also hs p none = refl
parts_paint also hs p (tree k v kids rest) =
    ap (λ (x : Forest Part). tree k (part v) x (parts (sweep paint_marks also hs p rest))) (parts_paint also hs (within paint_marks p v) kids)
    ∙ ap (λ (x : Forest Part). tree k (part v) (parts kids) x) (parts_paint also hs p rest)

-- a node of a store gets another value of which the same is shown
part_at : (at : Handle → Option (TreeNode RenderObject)) (h : Handle) (o w : RenderObject) → option_map (λ (n : TreeNode RenderObject). n.value) (at h) ≡ Some o → part w ≡ part o
    → (k : Handle) (v : RenderObject) → option_map (λ (n : TreeNode RenderObject). n.value) (at k) ≡ Some v → part (cond (same k h) w v) ≡ part v
part_at at h o w is same_part k v there = elim (cases_Bool (same k h)) [
  | inl e ↦
      ap (λ (b : Bool). part (cond b w v)) e
      ∙ (same_part ∙ ap part (same_Some (sym is ∙ (ap (λ (x : Handle). option_map (λ (n : TreeNode RenderObject). n.value) (at x)) (sym (same-true k h e)) ∙ there))))
  | inr e ↦ ap (λ (b : Bool). part (cond b w v)) e
]

pub parts_set : (at : Handle → Option (TreeNode RenderObject)) (h : Handle) (o w : RenderObject) → option_map (λ (n : TreeNode RenderObject). n.value) (at h) ≡ Some o → part w ≡ part o
    → (q : Option Handle) (f : Forest RenderObject) → Stands at q f → parts (set_value h w f) ≡ parts f
parts_set at h o w is same_part q none stands = refl
parts_set at h o w is same_part q (tree k v kids rest) stands =
    ap (λ (p : Part). tree k p (parts (set_value h w kids)) (parts (set_value h w rest)))
    (part_at at h o w is same_part k v (ap (option_map (λ (n : TreeNode RenderObject). n.value)) stands.0))
    ∙ (ap (λ (x : Forest Part). tree k (part v) x (parts (set_value h w rest))) (parts_set at h o w is same_part (Some k) kids stands.1)
    ∙ ap (λ (x : Forest Part). tree k (part v) (parts kids) x) (parts_set at h o w is same_part q rest stands.2))
