-- What hangs on what is kept for the handles of a forest alone.
use Rattle.std.proofs.Common.{◌≡◌, ℕ, Bool, true, false, cond, if◌then◌else◌, Some, List, [], ◌∷◌, ◌++◌, map, refl, ap, sym, ◌∙◌, inl, inr, arith}
use Rattle.std.proofs.lemmas.List.{map-append}
use Rattle.fx_handles.specs.declared.Handle.{Handle}
use Rattle.fx_handles.specs.Handle.{same}
use Rattle.fx_handles.specs.HandleLaws.{same_self, cases_same, same-ne}
use Rattle.fx_geom.specs.declared.shapes.Offset.{Offset}
use Rattle.fx_geom.specs.declared.shapes.Size.{Size}
use Rattle.fx_geom.specs.Offset.{origin, offset_sum}
use Rattle.delegates.specs.Table.{Plug}
use Rattle.layer_tree.specs.LayerItem.{LayerItem, nested, items_of}
use Rattle.layer_tree.specs.declared.kind.LayerKind.TheVariants as kind
use Rattle.node_tree.specs.Forest.{Forest, In, count, IsDistinct}
use Rattle.node_tree.specs.Forest.Forest.{none, tree}
use Rattle.node_tree.proofs.ForestLemmas.{count_here}
use Rattle.screen_form.specs.declared.paint_role.PaintRole.{PaintRole}
use Rattle.screen_form.specs.Painted.{has_child}
use Rattle.render_tree.specs.Object.{RenderObject}
use Rattle.render_tree.specs.Plain.{offset_or, laids_of}
use Rattle.kept_layers.specs.GroupPart.{GroupPart, place_part, record_part, fill}
use Rattle.kept_layers.specs.Group.{group_parts, parts_below, own_parts, group_role, is_boundary}
use Rattle.kept_layers.specs.KeptLayers.{KeptLayers, KeepsGroup, IsFresh, IsRight, filled, or_nil}
use Rattle.kept_layers.specs.Top.{root_parts}
use Rattle.kept_layers.specs.Done.{AgreesAt, Agrees, IsPainted, IsDone}
use Rattle.kept_layers.proofs.Filling.{fill_below, fill_records}

-- handles of the parts of a forest
pub in_below : (k h : Handle) (o : RenderObject) (below rest : Forest RenderObject) → In k below → In k (tree h o below rest)
in_below k h o below rest is = omega (arith, is)

pub in_rest : (k h : Handle) (o : RenderObject) (below rest : Forest RenderObject) → In k rest → In k (tree h o below rest)
in_rest k h o below rest is = omega (arith, is)

-- ---- how often handles stand in the parts of a forest in which none stands twice

pub not_here : (k h : Handle) (o : RenderObject) (below rest : Forest RenderObject) → count k (tree h o below rest) ≡ 0 → same k h ≡ false
not_here k h o below rest gone = elim (cases_same k h) [
  | inl e ↦ absurd (let there = count_here h o below rest in let is : count k (tree h o below rest) ≡ count h (tree h o below rest) = ap (λ j. count j (tree h o below rest)) e in omega (arith, there, is, gone))
  | inr ne ↦ same-ne k h ne
]

pub distinct_below : (h : Handle) (o : RenderObject) (below rest : Forest RenderObject) → IsDistinct (tree h o below rest) → IsDistinct below
distinct_below h o below rest distinct k = let few = distinct k in omega (arith, few)

pub distinct_rest : (h : Handle) (o : RenderObject) (below rest : Forest RenderObject) → IsDistinct (tree h o below rest) → IsDistinct rest
distinct_rest h o below rest distinct k = let few = distinct k in omega (arith, few)

-- how often handles stand in the parts of a spread forest
pub none_below : (k h : Handle) (o : RenderObject) (below rest : Forest RenderObject) → IsDistinct (tree h o below rest) → In k rest → count k below ≡ 0
none_below k h o below rest distinct is = let few = distinct k in omega (arith, few, is)

pub none_after : (k h : Handle) (o : RenderObject) (below rest : Forest RenderObject) → IsDistinct (tree h o below rest) → In k below → count k rest ≡ 0
none_after k h o below rest distinct is = let few = distinct k in omega (arith, few, is)

pub top_of_rest : (k h : Handle) (o : RenderObject) (below rest : Forest RenderObject) → IsDistinct (tree h o below rest) → In k rest → same k h ≡ false
top_of_rest k h o below rest distinct is = let few = distinct k in not_here k h o none none (omega (arith, few, is))

pub top_of_below : (k h : Handle) (o : RenderObject) (below rest : Forest RenderObject) → IsDistinct (tree h o below rest) → In k below → same k h ≡ false
top_of_below k h o below rest distinct is = let few = distinct k in not_here k h o none none (omega (arith, few, is))

pub once : (h : Handle) → cond {A = ℕ} (same h h) 1 0 ≡ 1
once h = ap (λ b. cond {A = ℕ} b 1 0) (same_self h)

pub top_below : (h : Handle) (o : RenderObject) (below rest : Forest RenderObject) → IsDistinct (tree h o below rest) → count h below ≡ 0
top_below h o below rest distinct = let few = distinct h in omega (arith, few, once h)

pub top_after : (h : Handle) (o : RenderObject) (below rest : Forest RenderObject) → IsDistinct (tree h o below rest) → count h rest ≡ 0
top_after h o below rest distinct = let few = distinct h in omega (arith, few, once h)

-- ---- what is kept for the handles of a forest

pub Agrees-below : (s t : KeptLayers) (h : Handle) (o : RenderObject) (below rest : Forest RenderObject) → Agrees s t (tree h o below rest) → Agrees s t below
Agrees-below s t h o below rest same k is = same k (in_below k h o below rest is)

pub Agrees-rest : (s t : KeptLayers) (h : Handle) (o : RenderObject) (below rest : Forest RenderObject) → Agrees s t (tree h o below rest) → Agrees s t rest
Agrees-rest s t h o below rest same k is = same k (in_rest k h o below rest is)

pub Agrees-here : (s t : KeptLayers) (h : Handle) (o : RenderObject) (below rest : Forest RenderObject) → Agrees s t (tree h o below rest) → AgreesAt s t h
Agrees-here s t h o below rest same = same h (count_here h o below rest)

pub AgreesAt-trans : (s t u : KeptLayers) (h : Handle) → AgreesAt s t h → AgreesAt t u h → AgreesAt s u h
AgreesAt-trans s t u h a b = record { parts = a.parts ∙ b.parts; whole = a.whole ∙ b.whole }

pub AgreesAt-sym : (s t : KeptLayers) (h : Handle) → AgreesAt s t h → AgreesAt t s h
AgreesAt-sym s t h a = record { parts = sym a.parts; whole = sym a.whole }

-- parts filled by two stores that have the same for the places in them
below_same : (w u : Handle → List LayerItem) (role : PaintRole) (p : Offset) (parts : Offset → List GroupPart)
    → ((q : Offset) → map (fill w) (parts q) ≡ map (fill u) (parts q)) → map (fill w) (parts_below role p parts) ≡ map (fill u) (parts_below role p parts)
below_same w u role p parts same =
    fill_below w role p parts (λ q. map (fill u) (parts q)) same ∙ sym (fill_below u role p parts (λ q. map (fill u) (parts q)) (λ q. refl))

own_same : (w u : Handle → List LayerItem) (cell : Size) (delegates : List Plug) (h : Handle) (o : RenderObject) (p : Offset) → w h ≡ u h
    → map (fill w) (own_parts cell delegates h o p) ≡ map (fill u) (own_parts cell delegates h o p)
own_same w u cell delegates h o p e = by_apart (is_boundary o) _
  where
    by_apart : (apart : Bool) (rs : List _) → map (fill w) (if apart then place_part h p ∷ [] else map record_part rs) ≡ map (fill u) (if apart then place_part h p ∷ [] else map record_part rs)
    by_apart true rs = ap (λ es. nested (kind.Offset p) (items_of es) ∷ []) e
    by_apart false rs = fill_records w rs ∙ sym (fill_records u rs)

if_same : (w u : Handle → List LayerItem) (shown : Bool) (xs ys zs : List GroupPart)
    → map (fill w) xs ≡ map (fill u) xs → map (fill w) ys ≡ map (fill u) ys → map (fill w) zs ≡ map (fill u) zs
    → map (fill w) ((if shown then xs ++ ys else []) ++ zs) ≡ map (fill u) ((if shown then xs ++ ys else []) ++ zs)
if_same w u true xs ys zs a b c =
    (map-append (fill w) (xs ++ ys) zs ∙ (λ i. map-append (fill w) xs ys i ++ c i)) ∙ (λ i. (a i ++ b i) ++ map (fill u) zs)
    ∙ sym (map-append (fill u) (xs ++ ys) zs ∙ (λ i. map-append (fill u) xs ys i ++ map (fill u) zs))
if_same w u false xs ys zs a b c = c

pub fill_same : (cell : Size) (delegates : List Plug) (w u : Handle → List LayerItem) (f : Forest RenderObject) (q : Offset)
    → ((k : Handle) → In k f → w k ≡ u k) → map (fill w) (group_parts cell delegates f q) ≡ map (fill u) (group_parts cell delegates f q)
fill_same cell delegates w u none q same = refl
fill_same cell delegates w u (tree h o below rest) q same =
    let p : Offset = offset_sum q (offset_or o.offset) in
    let has : Bool = has_child (laids_of below) in
    if_same w u o.shown (own_parts cell delegates h o p) (parts_below (group_role o has p) p (λ r. group_parts cell delegates below r)) (group_parts cell delegates rest q)
    (own_same w u cell delegates h o p (same h (count_here h o below rest)))
    (below_same w u (group_role o has p) p (λ r. group_parts cell delegates below r)
    (λ r. fill_same cell delegates w u below r (λ k is. same k (in_below k h o below rest is))))
    (fill_same cell delegates w u rest q (λ k is. same k (in_rest k h o below rest is)))

pub filled_same : (cell : Size) (delegates : List Plug) (s t : KeptLayers) (f : Forest RenderObject) (q : Offset) → Agrees s t f
    → filled s.wholes (group_parts cell delegates f q) ≡ filled t.wholes (group_parts cell delegates f q)
filled_same cell delegates s t f q same = fill_same cell delegates (λ k. or_nil (s.wholes k)) (λ k. or_nil (t.wholes k)) f q (λ k is. ap or_nil (same k is).whole)

-- the same of the root's own part
pub root_filled_same : (cell : Size) (delegates : List Plug) (s t : KeptLayers) (f : Forest RenderObject) → Agrees s t f
    → filled s.wholes (root_parts cell delegates f) ≡ filled t.wholes (root_parts cell delegates f)
root_filled_same cell delegates s t none same = refl
root_filled_same cell delegates s t (tree h o below rest) same =
    let w : Handle → List LayerItem = λ k. or_nil (s.wholes k) in
    let u : Handle → List LayerItem = λ k. or_nil (t.wholes k) in
    let has : Bool = has_child (laids_of below) in
    let mine : List GroupPart = own_parts cell delegates h o origin in
    let inside : List GroupPart = parts_below (group_role o has origin) origin (λ r. group_parts cell delegates below r) in
    map-append (fill w) mine inside
    ∙ (λ i. own_same w u cell delegates h o origin (ap or_nil (same h (count_here h o below rest)).whole) i
    ++ below_same w u (group_role o has origin) origin (λ r. group_parts cell delegates below r)
    (λ r. fill_same cell delegates w u below r (λ k is. ap or_nil (same k (in_below k h o below rest is)).whole)) i)
    ∙ sym (map-append (fill u) mine inside)

-- what is known of what is kept is known of what agrees with it
pub KeepsGroup-same : (cell : Size) (delegates : List Plug) (s t : KeptLayers) (h : Handle) (below : Forest RenderObject)
    → AgreesAt s t h → Agrees s t below → KeepsGroup cell delegates s h below → KeepsGroup cell delegates t h below
KeepsGroup-same cell delegates s t h below here same keeps = record {
  parts = sym here.parts ∙ keeps.parts;
  whole = sym here.whole ∙ keeps.whole ∙ ap (λ es. Some es) (filled_same cell delegates s t below origin same);
}

pub IsFresh-same : (cell : Size) (delegates : List Plug) (s t : KeptLayers) (f : Forest RenderObject) → Agrees s t f → IsFresh cell delegates s f → IsFresh cell delegates t f
IsFresh-same cell delegates s t none agree fresh = tt
IsFresh-same cell delegates s t (tree h o below rest) agree fresh =
    let inner = Agrees-below s t h o below rest agree in (
      (λ is calm. KeepsGroup-same cell delegates s t h below (Agrees-here s t h o below rest agree) inner (fresh.0 is calm)),
      IsFresh-same cell delegates s t below inner fresh.1,
      IsFresh-same cell delegates s t rest (Agrees-rest s t h o below rest agree) fresh.2,
    )

pub IsPainted-same : (cell : Size) (delegates : List Plug) (s t : KeptLayers) (h : Handle) (below : Forest RenderObject)
    → AgreesAt s t h → IsPainted cell delegates s h below → IsPainted cell delegates t h below
IsPainted-same cell delegates s t h below here painted = record { parts = sym here.parts ∙ painted.parts; whole = sym here.whole ∙ painted.whole }

pub IsDone-same : (cell : Size) (delegates : List Plug) (s t u : KeptLayers) (f : Forest RenderObject) → Agrees t u f → IsDone cell delegates s t f → IsDone cell delegates s u f
IsDone-same cell delegates s t u none agree done = tt
IsDone-same cell delegates s t u (tree h o below rest) agree done =
    let inner = Agrees-below t u h o below rest agree in
    let here = Agrees-here t u h o below rest agree in (
      (λ goes. ((λ is. IsPainted-same cell delegates t u h below here ((done.0 goes).0 is)), IsDone-same cell delegates s t u below inner (done.0 goes).1)),
      (λ not_in. (AgreesAt-trans s t u h (done.1 not_in).0 here, λ k is. AgreesAt-trans s t u k ((done.1 not_in).1 k is) (inner k is))),
      IsDone-same cell delegates s t u rest (Agrees-rest t u h o below rest agree) done.2,
    )

pub IsDone-base : (cell : Size) (delegates : List Plug) (r s t : KeptLayers) (f : Forest RenderObject) → Agrees r s f → IsDone cell delegates s t f → IsDone cell delegates r t f
IsDone-base cell delegates r s t none agree done = tt
IsDone-base cell delegates r s t (tree h o below rest) agree done =
    let inner = Agrees-below r s h o below rest agree in
    let here = Agrees-here r s h o below rest agree in (
      (λ goes. ((done.0 goes).0, IsDone-base cell delegates r s t below inner (done.0 goes).1)),
      (λ not_in. (AgreesAt-trans r s t h here (done.1 not_in).0, λ k is. AgreesAt-trans r s t k (inner k is) ((done.1 not_in).1 k is))),
      IsDone-base cell delegates r s t rest (Agrees-rest r s h o below rest agree) done.2,
    )

pub IsRight-done : (cell : Size) (delegates : List Plug) (s t : KeptLayers) (f : Forest RenderObject) → IsDone cell delegates s t f → IsRight cell delegates t f
IsRight-done cell delegates s t none done = tt
IsRight-done cell delegates s t (tree h o below rest) done = (
  (λ goes. ((λ is. let painted = (done.0 goes).0 is in (painted.parts, painted.whole)), IsRight-done cell delegates s t below (done.0 goes).1)),
  IsRight-done cell delegates s t rest done.2,
)
