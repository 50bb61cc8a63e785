-- Taking away the flags of the stale boundaries, handle by handle, takes away those of all boundaries that are painted.
use Rattle.std.proofs.Common.{◌≡◌, Bool, true, false, not, ◌&&◌, ◌||◌, if◌then◌else◌, List, [], ◌∷◌, ◌++◌, refl, ap, sym, ◌∙◌, arith, true≢false}
use Rattle.fx_handles.specs.declared.Handle.{Handle}
use Rattle.fx_handles.specs.Handle.{same}
use Rattle.fx_handles.specs.HandleLaws.{same_self}
use Rattle.node_tree.specs.Forest.{Forest, In, count, IsDistinct, map_values}
use Rattle.node_tree.specs.Forest.Forest.{none, tree}
use Rattle.node_tree.proofs.ForestLemmas.{count_here}
use Rattle.render_tree.specs.Object.{RenderObject}
use Rattle.kept_layers.specs.Group.{is_boundary, goes_in, opens}
use Rattle.kept_layers.specs.Steps.{is_nil, is_stale, stale, all_calmed, is_listed, calm_listed}
use Rattle.kept_layers.proofs.Filling.{boundary_opens}
use Rattle.kept_layers.proofs.Agreeing.{in_below, in_rest, not_here, distinct_below, distinct_rest, top_below, top_after, top_of_below, top_of_rest, none_below, none_after}

pub or_nil_right : (a : Bool) → (a || false) ≡ a
or_nil_right true = refl
or_nil_right false = refl

assoc : (a b c : Bool) → (a || (b || c)) ≡ ((a || b) || c)
assoc true b c = refl
assoc false b c = refl

pub is_listed-append : (k : Handle) (xs ys : List Handle) → is_listed k (xs ++ ys) ≡ (is_listed k xs || is_listed k ys)
is_listed-append k [] ys = refl
is_listed-append k (x ∷ xs) ys = ap (λ b. same k x || b) (is_listed-append k xs ys) ∙ assoc (same k x) (is_listed k xs) (is_listed k ys)

pub listed_if : (k : Handle) (b : Bool) (xs : List Handle) → is_listed k xs ≡ false → is_listed k (if b then xs else []) ≡ false
listed_if k true xs e = e
listed_if k false xs e = refl

-- what doesn't stand in the forest is none of its stale boundaries
pub absent : (k : Handle) (f : Forest RenderObject) → count k f ≡ 0 → is_listed k (stale f) ≡ false
absent k none gone = refl
absent k (tree h o below rest) gone =
    let inner : List Handle = if goes_in o then stale below else [] in
    let own : List Handle = if is_stale o inner then h ∷ [] else [] in
    is_listed-append k (inner ++ own) (stale rest)
    ∙ (λ i. (is_listed-append k inner own i) || is_listed k (stale rest))
    ∙ (λ i. (listed_if k (goes_in o) (stale below) (absent k below (omega (arith, gone))) i
    || listed_if k (is_stale o inner) (h ∷ []) (ap (λ b. b || false) (not_here k h o below rest gone)) i)
    || absent k rest (omega (arith, gone)) i)

-- nothing of a forest is listed
none_listed : (hs : List Handle) (f : Forest RenderObject) → ((k : Handle) → In k f → is_listed k hs ≡ false) → map_values (calm_listed hs) f ≡ f
none_listed hs none unlisted = refl
none_listed hs (tree h o below rest) unlisted =
    λ i. tree h (if unlisted h (count_here h o below rest) i then record o { needs_paint = false } else o)
    (none_listed hs below (λ k is. unlisted k (in_below k h o below rest is)) i)
    (none_listed hs rest (λ k is. unlisted k (in_rest k h o below rest is)) i)

-- a node loses its flag if it is painted and a boundary: where it isn't stale, it has none
calm_value : (o : RenderObject) (shown seen boundary flag nil : Bool) → o.needs_paint ≡ flag → (boundary ≡ true → seen ≡ true)
    → (if shown && (boundary && (flag || not nil)) then record o { needs_paint = false } else o)
    ≡ (if (shown && seen) && boundary then record o { needs_paint = false } else o)
calm_value o false seen boundary flag nil is sees = refl
calm_value o true true true true nil is sees = refl
calm_value o true true true false true is sees = ap (λ b. record o { needs_paint = b }) is
calm_value o true true true false false is sees = refl
calm_value o true seen false flag nil is sees = by_seen seen
  where
    by_seen : (b : Bool) → o ≡ (if (true && b) && false then record o { needs_paint = false } else o)
    by_seen true = refl
    by_seen false = refl
calm_value o true false true flag nil is sees = absurd (true≢false (sym (sees refl)))

pub calm_is : (hs : List Handle) (f : Forest RenderObject) → IsDistinct f → ((k : Handle) → In k f → is_listed k hs ≡ is_listed k (stale f))
    → map_values (calm_listed hs) f ≡ all_calmed f
calm_is hs none distinct listed = refl
calm_is hs (tree h o below rest) distinct listed =
    let inner : List Handle = if goes_in o then stale below else [] in
    let own : List Handle = if is_stale o inner then h ∷ [] else [] in
    let lists : (k : Handle) → is_listed k (inner ++ own ++ stale rest) ≡ ((is_listed k inner || is_listed k own) || is_listed k (stale rest)) =
    λ k. is_listed-append k (inner ++ own) (stale rest) ∙ ap (λ b. b || is_listed k (stale rest)) (is_listed-append k inner own) in
    let here : is_listed h hs ≡ is_stale o inner =
    listed h (count_here h o below rest) ∙ lists h
    ∙ (λ i. (listed_if h (goes_in o) (stale below) (absent h below (top_below h o below rest distinct)) i || own_listed h (is_stale o inner) i) || absent h rest (top_after h o below rest distinct) i)
    ∙ or_nil_right (is_stale o inner) in
    let inside : (k : Handle) → In k below → is_listed k hs ≡ is_listed k inner =
    λ k is. listed k (in_below k h o below rest is) ∙ lists k
    ∙ (λ i. (is_listed k inner || listed_if k (is_stale o inner) (h ∷ []) (ap (λ b. b || false) (top_of_below k h o below rest distinct is)) i) || absent k rest (none_after k h o below rest distinct is) i)
    ∙ or_nil_right (is_listed k inner || false) ∙ or_nil_right (is_listed k inner) in
    let later : (k : Handle) → In k rest → is_listed k hs ≡ is_listed k (stale rest) =
    λ k is. listed k (in_rest k h o below rest is) ∙ lists k
    ∙ (λ i. (listed_if k (goes_in o) (stale below) (absent k below (none_below k h o below rest distinct is)) i
    || listed_if k (is_stale o inner) (h ∷ []) (ap (λ b. b || false) (top_of_rest k h o below rest distinct is)) i)
    || is_listed k (stale rest)) in
    (λ i. tree h (if here i then record o { needs_paint = false } else o) (map_values (calm_listed hs) below) (map_values (calm_listed hs) rest))
    ∙ (λ i. tree h (calm_value o o.shown (opens o) (is_boundary o) o.needs_paint (is_nil inner) refl (boundary_opens o) i)
    (below_is hs below (goes_in o) (distinct_below h o below rest distinct) inside (λ same. calm_is hs below (distinct_below h o below rest distinct) same) i)
    (calm_is hs rest (distinct_rest h o below rest distinct) later i))
  where
    own_listed : (h : Handle) (b : Bool) → is_listed h (if b then h ∷ [] else []) ≡ b
    own_listed h true = ap (λ b. b || false) (same_self h)
    own_listed h false = refl

    below_is : (hs : List Handle) (below : Forest RenderObject) (g : Bool) → IsDistinct below
        → ((k : Handle) → In k below → is_listed k hs ≡ is_listed k (if g then stale below else []))
        → (((k : Handle) → In k below → is_listed k hs ≡ is_listed k (stale below)) → map_values (calm_listed hs) below ≡ all_calmed below)
        → map_values (calm_listed hs) below ≡ (if g then all_calmed below else below)
    below_is hs below true distinct listed again = again listed
    below_is hs below false distinct listed again = none_listed hs below listed
