-- A group in which nothing is marked is painted as before.
use Rattle.std.proofs.Common.{◌≡◌, Bool, true, false, if◌then◌else◌, Option, Some, option_map, List, [], ◌∷◌, ◌++◌, map, refl, ap, sym, ◌∙◌}
use Rattle.fx_handles.specs.declared.Handle.{Handle}
use Rattle.fx_geom.specs.declared.shapes.Offset.{Offset}
use Rattle.fx_geom.specs.declared.shapes.Size.{Size}
use Rattle.fx_geom.specs.Offset.{origin, offset_sum}
use Rattle.delegates.specs.Table.{Plug}
use Rattle.node_tree.specs.Forest.{TreeNode, Forest, tops, Stands}
use Rattle.node_tree.specs.Forest.Forest.{none, tree}
use Rattle.node_tree.proofs.ForestLemmas.{same_Some}
use Rattle.screen_form.specs.declared.paint_role.PaintRole.TheVariants.{Hides}
use Rattle.screen_form.specs.OwnRecords.{own_records}
use Rattle.screen_form.specs.PaintRole.{paint_role}
use Rattle.screen_form.specs.Painted.{has_child}
use Rattle.plain_tree.specs.Laid.{Laids, laid, more_laids}
use Rattle.render_tree.specs.Object.{RenderObject, object_look}
use Rattle.render_tree.specs.Plain.{laids_of, offset_or, facts_of}
use Rattle.kept_layers.specs.GroupPart.{GroupPart, place_part, record_part}
use Rattle.kept_layers.specs.Group.{group_parts, parts_below, is_boundary}
use Rattle.kept_layers.specs.KeptLayers.{KeptLayers, KeepsGroup, filled}
use Rattle.kept_layers.specs.Top.{root_parts}
use Rattle.kept_layers.specs.Unmarked.{PlacedNode, placed_of, DrawnNode, drawn_of, StaysDrawn, IsUnmarked, IsRootUnmarked}

head_is : (h k : Handle) (hs ks : List Handle) → h ∷ hs ≡ k ∷ ks → h ≡ k
head_is h k hs ks e = cc

tail_is : (h k : Handle) (hs ks : List Handle) → h ∷ hs ≡ k ∷ ks → hs ≡ ks
tail_is h k hs ks e = cc

nil_cons : (h : Handle) (hs : List Handle) → [] ≡ h ∷ hs → ⊥
nil_cons h hs e = cc

-- what a node adds to its group, of what painting reads
abbrev node_part : Size → List Plug → Handle → PlacedNode → Bool → DrawnNode → Bool → (Offset → List GroupPart) → Offset → List GroupPart
node_part cell delegates h x apart d has inside q =
    if x.shown
    then (if apart then place_part h (offset_sum q x.offset) ∷ [] else map record_part (own_records cell delegates d.look d.frame (offset_sum q x.offset)))
    ++ parts_below (if apart then Hides else paint_role d.look d.frame has (offset_sum q x.offset)) (offset_sum q x.offset) inside
    else []

-- a node that isn't apart is drawn as before
pub record SameDrawn (cell : Size) (before after : List Plug) (was is : DrawnNode) (had has : Bool) (inside now : Offset → List GroupPart) : Type 0 where
  pub drawn : is ≡ was
  pub draws : (p : Offset) → own_records cell after was.look was.frame p ≡ own_records cell before was.look was.frame p
  pub has_same : has ≡ had
  pub parts : (r : Offset) → now r ≡ inside r

node_apart : (cell : Size) (before after : List Plug) (h : Handle) (x : PlacedNode) (b : Bool) (was is : DrawnNode) (had has : Bool) (inside now : Offset → List GroupPart) (q : Offset)
    → (b ≡ false → SameDrawn cell before after was is had has inside now) → node_part cell after h x b is has now q ≡ node_part cell before h x b was had inside q
node_apart cell before after h x true was is had has inside now q same = refl
node_apart cell before after h x false was is had has inside now q same =
    let facts = same refl in
    (λ i. node_part cell after h x false (facts.drawn i) has now q)
    ∙ (λ i. if x.shown
    then map record_part (facts.draws (offset_sum q x.offset) i) ++ parts_below (paint_role was.look was.frame (facts.has_same i) (offset_sum q x.offset)) (offset_sum q x.offset) (λ r. facts.parts r i)
    else [])

module _ (cell : Size) (before after : List Plug) (now : Handle → Option (TreeNode RenderObject)) where
  -- what is read of a node that stands in the tree of now, where this was read of the one that stood there
  pub read_is : {X : Type 0} (read : TreeNode RenderObject → X) (p : Option Handle) (h k : Handle) (v : RenderObject) (below rest : Forest RenderObject) (x : X)
      → h ≡ k → Stands now p (tree k v below rest) → option_map read (now h) ≡ Some x → read (record { parent = p; children = tops below; value = v }) ≡ x
  read_is read p h k v below rest x e stands was = same_Some (sym (ap (option_map read) (ap now e ∙ stands.0)) ∙ was)

  pub shown_same : (p : Option Handle) (f g : Forest RenderObject) → Stands now p g → tops f ≡ tops g → IsUnmarked cell before after now f → has_child (laids_of g) ≡ has_child (laids_of f)
  shown_same p none none stands same unmarked = refl
  shown_same p none (tree k v b r) stands same unmarked = absurd (nil_cons k (tops r) same)
  shown_same p (tree h o below rest) none stands same unmarked = absurd (nil_cons h (tops rest) (sym same))
  shown_same p (tree h o below rest) (tree k v b r) stands same unmarked =
      let placed : placed_of v ≡ placed_of o = read_is (λ n. placed_of n.value) p h k v b r (placed_of o) (head_is h k (tops rest) (tops r) same) stands unmarked.0 in
      by_shown v.shown (laids_of r) (laids_of b) v ∙ (λ i. if (placed i).shown then true else shown_same p rest r stands.2 (tail_is h k (tops rest) (tops r) same) unmarked.2 i)
      ∙ sym (by_shown o.shown (laids_of rest) (laids_of below) o)
    where
      by_shown : (shown : Bool) (ls kids : Laids) (w : RenderObject) → has_child (if shown then more_laids (offset_or w.offset) (laid w.number (object_look w) (facts_of w) kids) ls else ls) ≡ (if shown then true else has_child ls)
      by_shown true ls kids w = refl
      by_shown false ls kids w = refl

  -- a node that stays drawn, where the parts below it stay
  pub same_drawn : (p : Option Handle) (h k : Handle) (o v : RenderObject) (below b r : Forest RenderObject) → h ≡ k → Stands now p (tree k v b r)
      → (inside : StaysDrawn cell before after now h o below × IsUnmarked cell before after now below)
      → (tops below ≡ tops b → (x : Offset) → group_parts cell after b x ≡ group_parts cell before below x)
      → SameDrawn cell before after (drawn_of o) (drawn_of v) (has_child (laids_of below)) (has_child (laids_of b)) (λ x. group_parts cell before below x) (λ x. group_parts cell after b x)
  same_drawn p h k o v below b r e stands inside stay =
      let kids : tops below ≡ tops b = sym (read_is (λ n. n.children) p h k v b r (tops below) e stands inside.0.children) in
      record {
        drawn = read_is (λ n. drawn_of n.value) p h k v b r (drawn_of o) e stands inside.0.drawn;
        draws = inside.0.draws;
        has_same = shown_same (Some k) below b stands.1 kids inside.1;
        parts = stay kids;
      }

  pub unmarked_parts : (p : Option Handle) (f g : Forest RenderObject) → Stands now p g → tops f ≡ tops g → IsUnmarked cell before after now f
      → (q : Offset) → group_parts cell after g q ≡ group_parts cell before f q
  unmarked_parts p none none stands same unmarked q = refl
  unmarked_parts p none (tree k v b r) stands same unmarked q = absurd (nil_cons k (tops r) same)
  unmarked_parts p (tree h o below rest) none stands same unmarked q = absurd (nil_cons h (tops rest) (sym same))
  unmarked_parts p (tree h o below rest) (tree k v b r) stands same unmarked q =
      let e = head_is h k (tops rest) (tops r) same in
      let placed : placed_of v ≡ placed_of o = read_is (λ n. placed_of n.value) p h k v b r (placed_of o) e stands unmarked.0 in
      (λ i. node_part cell after (sym e i) (placed i) (placed i).apart (drawn_of v) (has_child (laids_of b)) (λ x. group_parts cell after b x) q ++ group_parts cell after r q)
      ∙ (λ i. node_apart cell before after h (placed_of o) (is_boundary o) (drawn_of o) (drawn_of v) (has_child (laids_of below)) (has_child (laids_of b)) (λ x. group_parts cell before below x) (λ x. group_parts cell after b x) q
      (λ isnt. same_drawn p h k o v below b r e stands (unmarked.1 isnt) (λ kids x. unmarked_parts (Some k) below b stands.1 kids (unmarked.1 isnt).1 x)) i
      ++ unmarked_parts p rest r stands.2 (tail_is h k (tops rest) (tops r) same) unmarked.2 q i)

  -- what a boundary keeps stays as it would be
  pub group_survives : (s : KeptLayers) (h : Handle) (p : Option Handle) (f g : Forest RenderObject) → Stands now p g → tops f ≡ tops g → IsUnmarked cell before after now f
      → KeepsGroup cell before s h f → KeepsGroup cell after s h g
  group_survives s h p f g stands same unmarked keeps =
      let e = unmarked_parts p f g stands same unmarked origin in
      record { parts = keeps.parts ∙ ap (λ ps. Some ps) (sym e); whole = keeps.whole ∙ ap (λ ps. Some (filled s.wholes ps)) (sym e) }

-- ---- the root

-- what the root adds, of what painting reads
abbrev root_part : Size → List Plug → Handle → Bool → DrawnNode → Bool → (Offset → List GroupPart) → List GroupPart
root_part cell delegates h apart d has inside =
    (if apart then place_part h origin ∷ [] else map record_part (own_records cell delegates d.look d.frame origin))
    ++ parts_below (if apart then Hides else paint_role d.look d.frame has origin) origin inside

root_apart : (cell : Size) (before after : List Plug) (h : Handle) (b : Bool) (was is : DrawnNode) (had has : Bool) (inside now : Offset → List GroupPart)
    → (b ≡ false → SameDrawn cell before after was is had has inside now) → root_part cell after h b is has now ≡ root_part cell before h b was had inside
root_apart cell before after h true was is had has inside now same = refl
root_apart cell before after h false was is had has inside now same =
    let facts = same refl in
    (λ i. root_part cell after h false (facts.drawn i) has now)
    ∙ (λ i. map record_part (facts.draws origin i) ++ parts_below (paint_role was.look was.frame (facts.has_same i) origin) origin (λ r. facts.parts r i))

module _ (cell : Size) (before after : List Plug) (now : Handle → Option (TreeNode RenderObject)) where
  pub unmarked_root : (p : Option Handle) (f g : Forest RenderObject) → Stands now p g → tops f ≡ tops g → IsRootUnmarked cell before after now f
      → root_parts cell after g ≡ root_parts cell before f
  unmarked_root p none none stands same unmarked = refl
  unmarked_root p none (tree k v b r) stands same unmarked = absurd (nil_cons k (tops r) same)
  unmarked_root p (tree h o below rest) none stands same unmarked = absurd (nil_cons h (tops rest) (sym same))
  unmarked_root p (tree h o below rest) (tree k v b r) stands same unmarked =
      let e = head_is h k (tops rest) (tops r) same in
      let apart : is_boundary v ≡ is_boundary o = read_is cell before after now (λ n. is_boundary n.value) p h k v b r (is_boundary o) e stands unmarked.0 in
      (λ i. root_part cell after (sym e i) (apart i) (drawn_of v) (has_child (laids_of b)) (λ x. group_parts cell after b x))
      ∙ root_apart cell before after h (is_boundary o) (drawn_of o) (drawn_of v) (has_child (laids_of below)) (has_child (laids_of b)) (λ x. group_parts cell before below x) (λ x. group_parts cell after b x)
      (λ isnt. same_drawn cell before after now p h k o v below b r e stands (unmarked.1 isnt)
      (λ kids x. unmarked_parts cell before after now (Some k) below b stands.1 kids (unmarked.1 isnt).1 x))
