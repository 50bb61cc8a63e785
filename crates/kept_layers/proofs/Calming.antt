-- Flags that are taken away: what is kept stays fresh, and marks stay true.
use Rattle.std.proofs.Common.{◌≡◌, Bool, true, false, ◌&&◌, if◌then◌else◌, Some, List, [], ◌++◌, refl, ap, sym, ◌∙◌}
use Rattle.fx_handles.specs.declared.Handle.{Handle}
use Rattle.fx_geom.specs.declared.shapes.Offset.{Offset}
use Rattle.fx_geom.specs.declared.shapes.Size.{Size}
use Rattle.fx_geom.specs.Offset.{origin, offset_sum}
use Rattle.delegates.specs.Table.{Plug}
use Rattle.node_tree.specs.Forest.{Forest}
use Rattle.node_tree.specs.Forest.Forest.{none, tree}
use Rattle.plain_tree.specs.Laid.{Laids, laid, more_laids}
use Rattle.screen_form.specs.Painted.{has_child}
use Rattle.render_tree.specs.Object.{RenderObject, object_look}
use Rattle.render_tree.specs.Plain.{laids_of, offset_or, facts_of}
use Rattle.kept_layers.specs.GroupPart.{GroupPart}
use Rattle.kept_layers.specs.Group.{group_parts, own_parts, group_role, parts_below, is_boundary, goes_in}
use Rattle.kept_layers.specs.KeptLayers.{KeptLayers, KeepsGroup, IsFresh, IsRight, IsCalm, IsMarked, filled}
use Rattle.kept_layers.specs.Steps.{all_calmed}
use Rattle.kept_layers.specs.Done.{IsDone, IsPainted}
use Rattle.kept_layers.proofs.Filling.{filled-is}
use Rattle.kept_layers.proofs.Agreeing.{KeepsGroup-same, IsFresh-same, IsRight-done}

-- a flag isn't laid out
laid_calm : (h : Handle) (o : RenderObject) (b : Bool) (below rest : Forest RenderObject)
    → laids_of (tree h (if b then record o { needs_paint = false } else o) below rest) ≡ laids_of (tree h o below rest)
laid_calm h o true below rest = refl
laid_calm h o false below rest = refl

either : (X : Type 0) (f : Forest RenderObject → X) (b : Bool) (g below : Forest RenderObject) → f g ≡ f below → f (if b then g else below) ≡ f below
either X f true g below e = e
either X f false g below e = refl

laids_of_node : RenderObject → Laids → Laids → Laids
laids_of_node o children after = if o.shown then more_laids (offset_or o.offset) (laid o.number (object_look o) (facts_of o) children) after else after

pub laids_calmed : (f : Forest RenderObject) → laids_of (all_calmed f) ≡ laids_of f
unfolding laids_of_node
laids_calmed none = refl
laids_calmed (tree h o below rest) =
    laid_calm h o (goes_in o && is_boundary o) (if goes_in o then all_calmed below else below) (all_calmed rest)
    ∙ (λ i. laids_of_node o (either Laids laids_of (goes_in o) (all_calmed below) below (laids_calmed below) i) (laids_calmed rest i))

-- nor is it painted
part_of_node : Size → List Plug → Handle → RenderObject → Offset → Bool → (Offset → List GroupPart) → List GroupPart
part_of_node cell delegates h o q has inside =
    if o.shown
    then own_parts cell delegates h o (offset_sum q (offset_or o.offset))
    ++ parts_below (group_role o has (offset_sum q (offset_or o.offset))) (offset_sum q (offset_or o.offset)) inside
    else []

node_calm : (cell : Size) (delegates : List Plug) (h : Handle) (o : RenderObject) (b : Bool) (q : Offset) (has : Bool) (inside : Offset → List GroupPart)
    → part_of_node cell delegates h (if b then record o { needs_paint = false } else o) q has inside ≡ part_of_node cell delegates h o q has inside
unfolding part_of_node
node_calm cell delegates h o true q has inside = refl
node_calm cell delegates h o false q has inside = refl

pub parts_calmed : (cell : Size) (delegates : List Plug) (f : Forest RenderObject) (q : Offset) → group_parts cell delegates (all_calmed f) q ≡ group_parts cell delegates f q
unfolding part_of_node
parts_calmed cell delegates none q = refl
parts_calmed cell delegates (tree h o below rest) q =
    let inner : Forest RenderObject = if goes_in o then all_calmed below else below in
    let has : has_child (laids_of inner) ≡ has_child (laids_of below) = ap has_child (either Laids laids_of (goes_in o) (all_calmed below) below (laids_calmed below)) in
    let inside : (r : Offset) → group_parts cell delegates inner r ≡ group_parts cell delegates below r =
    λ r. either (List GroupPart) (λ g. group_parts cell delegates g r) (goes_in o) (all_calmed below) below (parts_calmed cell delegates below r) in
    (λ i. node_calm cell delegates h o (goes_in o && is_boundary o) q (has_child (laids_of inner)) (λ r. group_parts cell delegates inner r) i ++ group_parts cell delegates (all_calmed rest) q)
    ∙ (λ i. part_of_node cell delegates h o q (has i) (λ r. inside r i) ++ parts_calmed cell delegates rest q i)

-- ---- what is kept stays fresh

kind_calm : (o : RenderObject) (b : Bool) → is_boundary (if b then record o { needs_paint = false } else o) ≡ is_boundary o
kind_calm o true = refl
kind_calm o false = refl

-- a node that was gone into
fresh_in : (cell : Size) (delegates : List Plug) (t : KeptLayers) (h : Handle) (o : RenderObject) (below : Forest RenderObject)
    → (is_boundary o ≡ true → IsPainted cell delegates t h below) → IsRight cell delegates t below → is_boundary o ≡ true → KeepsGroup cell delegates t h (all_calmed below)
fresh_in cell delegates t h o below painted right is =
    let same = sym (parts_calmed cell delegates below origin) in
    record {
      parts = (painted is).parts ∙ ap (λ ps. Some ps) same;
      whole = (painted is).whole ∙ ap (λ es. Some es) (sym (filled-is cell delegates t below origin right)) ∙ ap (λ ps. Some (filled t.wholes ps)) same;
    }

-- a node, gone into or not
fresh_node : (cell : Size) (delegates : List Plug) (s t : KeptLayers) (h : Handle) (o : RenderObject) (below rest : Forest RenderObject) (g : Bool) → goes_in o ≡ g
    → IsFresh cell delegates s (tree h o below rest) → IsDone cell delegates s t (tree h o below rest)
    → (IsDone cell delegates s t below → IsFresh cell delegates t (all_calmed below))
    → (is_boundary (if g && is_boundary o then record o { needs_paint = false } else o) ≡ true
    → (if g && is_boundary o then record o { needs_paint = false } else o).needs_paint ≡ false
    → KeepsGroup cell delegates t h (if g then all_calmed below else below))
    × IsFresh cell delegates t (if g then all_calmed below else below)
fresh_node cell delegates s t h o below rest true e fresh done later =
    let inside = done.0 e in
    ((λ is calm. fresh_in cell delegates t h o below inside.0 (IsRight-done cell delegates s t below inside.1) (sym (kind_calm o (is_boundary o)) ∙ is)), later inside.1)
fresh_node cell delegates s t h o below rest false e fresh done later =
    let same = done.1 e in
    ((λ is calm. KeepsGroup-same cell delegates s t h below same.0 same.1 (fresh.0 is calm)), IsFresh-same cell delegates s t below same.1 fresh.1)

pub fresh_after : (cell : Size) (delegates : List Plug) (s t : KeptLayers) (f : Forest RenderObject) → IsFresh cell delegates s f → IsDone cell delegates s t f → IsFresh cell delegates t (all_calmed f)
fresh_after cell delegates s t none fresh done = tt
fresh_after cell delegates s t (tree h o below rest) fresh done =
    let node = fresh_node cell delegates s t h o below rest (goes_in o) refl fresh done (λ inside. fresh_after cell delegates s t below fresh.1 inside) in
    (node.0, node.1, fresh_after cell delegates s t rest fresh.2 done.2)

-- ---- and marks stay true

calm_node : (o : RenderObject) (b : Bool) → o.needs_paint ≡ false → (if b then record o { needs_paint = false } else o).needs_paint ≡ false
calm_node o true e = refl
calm_node o false e = e

calm_in : (g : Bool) (after below : Forest RenderObject) → IsCalm after → IsCalm below → IsCalm (if g then after else below)
calm_in true after below a b = a
calm_in false after below a b = b

pub IsCalm-calmed : (f : Forest RenderObject) → IsCalm f → IsCalm (all_calmed f)
IsCalm-calmed none calm = tt
IsCalm-calmed (tree h o below rest) calm =
    (calm_node o (goes_in o && is_boundary o) calm.0, calm_in (goes_in o) (all_calmed below) below (IsCalm-calmed below calm.1) calm.1, IsCalm-calmed rest calm.2)

mark_node : (o : RenderObject) (b : Bool) → (if b then record o { needs_paint = false } else o).paint_below ≡ o.paint_below
mark_node o true = refl
mark_node o false = refl

marked_in : (g : Bool) (after below : Forest RenderObject) → IsMarked after → IsMarked below → IsMarked (if g then after else below)
marked_in true after below a b = a
marked_in false after below a b = b

pub IsMarked-calmed : (f : Forest RenderObject) → IsMarked f → IsMarked (all_calmed f)
IsMarked-calmed none marked = tt
IsMarked-calmed (tree h o below rest) marked = (
  (λ e. let calm = marked.0 (sym (mark_node o (goes_in o && is_boundary o)) ∙ e) in calm_in (goes_in o) (all_calmed below) below (IsCalm-calmed below calm) calm),
  marked_in (goes_in o) (all_calmed below) below (IsMarked-calmed below marked.1) marked.1,
  IsMarked-calmed rest marked.2,
)
