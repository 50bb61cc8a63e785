-- A tree whose flags and marks were taken away: what is kept stays fresh, and marks stay true.
use Rattle.std.proofs.Common.{◌≡◌, Bool, true, false, not, ◌&&◌, ◌||◌, if◌then◌else◌, Some, List, [], ◌∷◌, ◌++◌, refl, ap, sym, ◌∙◌, subst, true≢false}
use Rattle.fx_handles.specs.declared.Handle.{Handle}
use Rattle.fx_geom.specs.declared.shapes.Offset.{Offset}
use Rattle.fx_geom.specs.declared.shapes.Size.{Size}
use Rattle.fx_geom.specs.Offset.{origin, offset_sum}
use Rattle.delegates.specs.Table.{Plug}
use Rattle.node_tree.specs.Forest.{Forest}
use Rattle.node_tree.specs.Forest.Forest.{none, tree}
use Rattle.plain_tree.specs.Laid.{Laids, laid, more_laids}
use Rattle.screen_form.specs.Painted.{has_child}
use Rattle.tree_marks.specs.Closed.{any_flag, any_mark}
use Rattle.render_tree.specs.Object.{RenderObject, object_look}
use Rattle.render_tree.specs.Marks.{paint_marks}
use Rattle.render_tree.specs.Plain.{laids_of, offset_or, facts_of}
use Rattle.kept_layers.specs.GroupPart.{GroupPart}
use Rattle.kept_layers.specs.Group.{group_parts, own_parts, group_role, parts_below, is_boundary, opens, goes_in}
use Rattle.kept_layers.specs.KeptLayers.{KeptLayers, KeepsGroup, IsFresh, IsCalm, IsMarked, filled}
use Rattle.kept_layers.specs.Steps.{is_stale, stale, all_calmed}
use Rattle.kept_layers.proofs.Calming.{parts_calmed}
use Rattle.kept_layers.proofs.Filling.{boundary_opens}
use Rattle.paint_owner.specs.Settled.{is_entered, settled_node, settled, IsPaintedCalm}

-- a node with other marks
abbrev pub remarked : Bool → Bool → RenderObject → RenderObject
remarked a b o = record o { needs_paint = a; paint_below = b }

-- what the flag and the mark of a node come to
abbrev pub flag_left : RenderObject → Bool
flag_left o = if o.shown then false else o.needs_paint

abbrev pub mark_left : Bool → RenderObject → Bool
mark_left m o = if o.shown then o.paint_below && (not (opens o) || m) else o.paint_below

pub settled_is : (inside : Forest RenderObject) (o : RenderObject) → settled_node inside o ≡ remarked (flag_left o) (mark_left (any_mark paint_marks inside) o) o
settled_is inside o = by_shown o.shown _
  where
    by_shown : (s b : Bool) → (if s then remarked false b o else o) ≡ remarked (if s then false else o.needs_paint) (if s then b else o.paint_below) o
    by_shown true b = refl
    by_shown false b = refl

pub either : {X : Type 0} (f : Forest RenderObject → X) (b : Bool) (g below : Forest RenderObject) → f g ≡ f below → f (if b then g else below) ≡ f below
either f true g below e = e
either f false g below e = refl

laids_of_node : RenderObject → Laids → Laids → Laids
laids_of_node o children after = if o.shown then more_laids (offset_or o.offset) (laid o.number (object_look o) (facts_of o) children) after else after

-- marks are not laid out
pub laids_settled : (f : Forest RenderObject) → laids_of (settled f) ≡ laids_of f
unfolding laids_of_node
laids_settled none = refl
laids_settled (tree h o below rest) =
    ap (λ v. laids_of (tree h v (if is_entered o then settled below else below) (settled rest))) (settled_is (settled below) o)
    ∙ (λ i. laids_of_node o (either laids_of (is_entered o) (settled below) below (laids_settled below) i) (laids_settled rest i))

-- nor are they painted
part_of_node : Size → List Plug → Handle → RenderObject → Offset → Bool → (Offset → List GroupPart) → List GroupPart
part_of_node cell delegates h o q has inside =
    if o.shown
    then own_parts cell delegates h o (offset_sum q (offset_or o.offset))
    ++ parts_below (group_role o has (offset_sum q (offset_or o.offset))) (offset_sum q (offset_or o.offset)) inside
    else []

pub parts_settled : (cell : Size) (delegates : List Plug) (f : Forest RenderObject) (q : Offset) → group_parts cell delegates (settled f) q ≡ group_parts cell delegates f q
unfolding part_of_node
parts_settled cell delegates none q = refl
parts_settled cell delegates (tree h o below rest) q =
    let inner : Forest RenderObject = if is_entered o then settled below else below in
    let has : has_child (laids_of inner) ≡ has_child (laids_of below) = ap has_child (either laids_of (is_entered o) (settled below) below (laids_settled below)) in
    let inside : (r : Offset) → group_parts cell delegates inner r ≡ group_parts cell delegates below r =
    λ r. either (λ g. group_parts cell delegates g r) (is_entered o) (settled below) below (parts_settled cell delegates below r) in
    ap (λ v. group_parts cell delegates (tree h v inner (settled rest)) q) (settled_is (settled below) o)
    ∙ (λ i. part_of_node cell delegates h o q (has i) (λ r. inside r i) ++ parts_settled cell delegates rest q i)

-- ---- where nothing is flagged

pub calm_calmed : (f : Forest RenderObject) → IsCalm f → all_calmed f ≡ f
calm_calmed none calm = refl
calm_calmed (tree h o below rest) calm =
    λ i. tree h (node (goes_in o && is_boundary o) calm.0 i) (inside (goes_in o) (calm_calmed below calm.1) i) (calm_calmed rest calm.2 i)
  where
    node : (b : Bool) → o.needs_paint ≡ false → (if b then record o { needs_paint = false } else o) ≡ o
    node true e = ap (λ a. record o { needs_paint = a }) (sym e)
    node false e = refl

    inside : (b : Bool) → all_calmed below ≡ below → (if b then all_calmed below else below) ≡ below
    inside true e = e
    inside false e = refl

pub calm_painted : (f : Forest RenderObject) → IsCalm f → IsPaintedCalm f
calm_painted none calm = tt
calm_painted (tree h o below rest) calm = ((λ s. (calm.0, λ e. calm_painted below calm.1)), calm_painted rest calm.2)

pub calm_stale : (f : Forest RenderObject) → IsCalm f → stale f ≡ []
calm_stale none calm = refl
calm_stale (tree h o below rest) calm =
    let inner : (if goes_in o then stale below else []) ≡ [] = inside (goes_in o) (calm_stale below calm.1) in
    (λ i. inner i ++ (if is_stale o (inner i) then h ∷ [] else []) ++ calm_stale rest calm.2 i)
    ∙ ap (λ b. [] ++ (if b then h ∷ [] else []) ++ []) (unflagged o.shown (is_boundary o) o.needs_paint calm.0)
  where
    inside : (b : Bool) {xs : List Handle} → xs ≡ [] → (if b then xs else []) ≡ []
    inside true e = e
    inside false e = refl

    unflagged : (s b f : Bool) → f ≡ false → (s && (b && (f || not true))) ≡ false
    unflagged false b f e = refl
    unflagged true false f e = refl
    unflagged true true f e = ap (λ x. x || false) e

-- where no top has a flag or a mark, nothing is flagged at all
pub or_false : (a b : Bool) → (a || b) ≡ false → (a ≡ false) × (b ≡ false)
or_false true b e = absurd (true≢false e)
or_false false b e = (refl, e)

pub unmarked_calm : (f : Forest RenderObject) → IsMarked f → any_mark paint_marks f ≡ false → IsCalm f
unmarked_calm none marked e = tt
unmarked_calm (tree h o below rest) marked e =
    let here = or_false (o.needs_paint || o.paint_below) (any_mark paint_marks rest) e in
    let marks = or_false o.needs_paint o.paint_below here.0 in
    (marks.0, marked.0 marks.1, unmarked_calm rest marked.2 here.1)

pub calm_flags : (f : Forest RenderObject) → IsCalm f → any_flag paint_marks f ≡ false
calm_flags none calm = refl
calm_flags (tree h o below rest) calm = λ i. calm.0 i || (calm_flags below calm.1 i || calm_flags rest calm.2 i)

-- ---- how a node is entered

-- not entered, though it is seen through: it has no mark
pub not_entered : (s p m : Bool) → ((s && p) && m) ≡ false → s ≡ true → p ≡ true → m ≡ false
not_entered true true m e s p = e
not_entered true false m e s p = absurd (true≢false (sym p))
not_entered false p m e s o = absurd (true≢false (sym s))

in_entered : (P : Forest RenderObject → Type 0) (b : Bool) (inside below : Forest RenderObject) → P inside → (b ≡ false → P below) → P (if b then inside else below)
in_entered P true inside below a c = a
in_entered P false inside below a c = c refl

-- ---- marks stay true

pub IsMarked-settled : (f : Forest RenderObject) → IsMarked f → IsMarked (settled f)
IsMarked-settled none marked = tt
IsMarked-settled (tree h o below rest) marked =
    let inside = IsMarked-settled below marked.1 in (
      (λ e. calm_inside o.shown (opens o) o.paint_below (sym (ap (λ (v : RenderObject). v.paint_below) (settled_is (settled below) o)) ∙ e) inside marked.0),
      in_entered IsMarked (is_entered o) (settled below) below inside (λ e. marked.1),
      IsMarked-settled rest marked.2,
    )
  where
    calm_inside : (s p m : Bool) → (if s then m && (not p || any_mark paint_marks (settled below)) else m) ≡ false → IsMarked (settled below) → (m ≡ false → IsCalm below)
        → IsCalm (if (s && p) && m then settled below else below)
    calm_inside false p m e inside marked = marked e
    calm_inside true false m e inside marked = marked (and_true m e)
      where
        and_true : (m : Bool) → (m && true) ≡ false → m ≡ false
        and_true true e = e
        and_true false e = refl
    calm_inside true true true e inside marked = unmarked_calm (settled below) inside e
    calm_inside true true false e inside marked = marked refl

-- and no painted node has a flag
pub painted_calm : (f : Forest RenderObject) → IsMarked f → IsPaintedCalm (settled f)
painted_calm none marked = tt
painted_calm (tree h o below rest) marked = (
  (λ s. (
    flag s,
    λ p. inside s p (is_entered o) refl (painted_calm below marked.1),
  )),
  painted_calm rest marked.2,
)
  where
    same_shown : (settled_node (settled below) o).shown ≡ o.shown
    same_shown = ap (λ (v : RenderObject). v.shown) (settled_is (settled below) o)

    same_opens : opens (settled_node (settled below) o) ≡ opens o
    same_opens = ap opens (settled_is (settled below) o)

    by_shown : (b x : Bool) → b ≡ true → (if b then false else x) ≡ false
    by_shown true x e = refl
    by_shown false x e = absurd (true≢false (sym e))

    flag : (settled_node (settled below) o).shown ≡ true → (settled_node (settled below) o).needs_paint ≡ false
    flag s = ap (λ (v : RenderObject). v.needs_paint) (settled_is (settled below) o) ∙ by_shown o.shown o.needs_paint (sym same_shown ∙ s)

    inside : (settled_node (settled below) o).shown ≡ true → opens (settled_node (settled below) o) ≡ true → (b : Bool) → is_entered o ≡ b → IsPaintedCalm (settled below) → IsPaintedCalm (if b then settled below else below)
    inside s p true e later = later
    inside s p false e later = calm_painted below (marked.0 (not_entered o.shown (opens o) o.paint_below e (sym same_shown ∙ s) (sym same_opens ∙ p)))

-- ---- what is kept stays fresh

pub keeps_same : (cell : Size) (delegates : List Plug) (s : KeptLayers) (h : Handle) (f g : Forest RenderObject)
    → group_parts cell delegates f origin ≡ group_parts cell delegates g origin → KeepsGroup cell delegates s h f → KeepsGroup cell delegates s h g
keeps_same cell delegates s h f g e keeps = record {
  parts = keeps.parts ∙ ap (λ ps. Some ps) e;
  whole = keeps.whole ∙ ap (λ ps. Some (filled s.wholes ps)) e;
}

pub IsFresh-settled : (cell : Size) (delegates : List Plug) (s : KeptLayers) (f : Forest RenderObject) → IsMarked f → IsFresh cell delegates s (all_calmed f) → IsFresh cell delegates s (settled f)
IsFresh-settled cell delegates s none marked fresh = tt
IsFresh-settled cell delegates s (tree h o below rest) marked fresh = (
  (λ is calm. keeps_same cell delegates s h (if goes_in o then all_calmed below else below) (if is_entered o then settled below else below) same_parts
      (fresh.0 (same_kind (goes_in o && is_boundary o) ∙ sym kind_settled ∙ is)
      (flag_calmed o.shown (opens o) (is_boundary o) (boundary_opens o) (sym kind_settled ∙ is) (sym flag_settled ∙ calm)))),
  inside (goes_in o) o.paint_below refl (λ inner. IsFresh-settled cell delegates s below marked.1 inner) fresh.1,
  IsFresh-settled cell delegates s rest marked.2 fresh.2,
)
  where
    kind_settled : is_boundary (settled_node (settled below) o) ≡ is_boundary o
    kind_settled = ap is_boundary (settled_is (settled below) o)

    flag_settled : (settled_node (settled below) o).needs_paint ≡ flag_left o
    flag_settled = ap (λ (v : RenderObject). v.needs_paint) (settled_is (settled below) o)

    same_kind : (b : Bool) → is_boundary (if b then record o { needs_paint = false } else o) ≡ is_boundary o
    same_kind true = refl
    same_kind false = refl

    same_parts : group_parts cell delegates (if goes_in o then all_calmed below else below) origin ≡ group_parts cell delegates (if is_entered o then settled below else below) origin
    same_parts =
        either (λ g. group_parts cell delegates g origin) (goes_in o) (all_calmed below) below (parts_calmed cell delegates below origin)
        ∙ sym (either (λ g. group_parts cell delegates g origin) (is_entered o) (settled below) below (parts_settled cell delegates below origin))

    flag_calmed : (shown seen boundary : Bool) → (boundary ≡ true → seen ≡ true) → boundary ≡ true → (if shown then false else o.needs_paint) ≡ false
        → (if (shown && seen) && boundary then record o { needs_paint = false } else o).needs_paint ≡ false
    flag_calmed true true true sees is e = refl
    flag_calmed true false boundary sees is e = absurd (true≢false (sym (sees is)))
    flag_calmed true true false sees is e = absurd (true≢false (sym is))
    flag_calmed false seen boundary sees is e = e

    inside : (g m : Bool) → o.paint_below ≡ m → (IsFresh cell delegates s (all_calmed below) → IsFresh cell delegates s (settled below))
        → IsFresh cell delegates s (if g then all_calmed below else below) → IsFresh cell delegates s (if g && m then settled below else below)
    inside false m e later fresh = fresh
    inside true true e later fresh = later fresh
    inside true false e later fresh = subst (IsFresh cell delegates s) (calm_calmed below (marked.0 e)) fresh
