-- What a flush counts: the nodes of the stale groups.
use Rattle.std.proofs.Common.{◌≡◌, ℕ, suc, ◌+◌, Bool, true, false, not, ◌&&◌, ◌||◌, if◌then◌else◌, List, [], ◌∷◌, ◌++◌, refl, ap, sym, ◌∙◌, arith, true≢false}
use Rattle.fx_handles.specs.declared.Handle.{Handle}
use Rattle.node_tree.specs.Forest.{Forest}
use Rattle.node_tree.specs.Forest.Forest.{none, tree}
use Rattle.render_tree.specs.Object.{RenderObject}
use Rattle.kept_layers.specs.Group.{group_count, is_boundary, goes_in, opens}
use Rattle.kept_layers.specs.Steps.{is_nil, is_stale, stale, painted_count, counted, IsCounted}
use Rattle.kept_layers.proofs.Filling.{boundary_opens}

counted-append : (cost : Handle → ℕ) (xs ys : List Handle) → counted cost (xs ++ ys) ≡ counted cost xs + counted cost ys
counted-append cost [] ys = omega arith
counted-append cost (x ∷ xs) ys = omega (arith, counted-append cost xs ys)

counted_if : (cost : Handle → ℕ) (b : Bool) (xs : List Handle) → counted cost (if b then xs else []) ≡ (if b then counted cost xs else 0)
counted_if cost true xs = refl
counted_if cost false xs = refl

-- the count at one node: `inner` is what the stale boundaries below it cost, `group` the nodes of its group below it, `mine` what the
-- node itself costs where it is a boundary
node_count : (shown boundary seen flag nil above : Bool) (inner group own in_below in_above rest stale_rest group_rest : ℕ)
    → (boundary ≡ true → seen ≡ true)
    → (boundary ≡ true → own ≡ (if flag then suc group else 0))
    → (boundary ≡ true → inner + (if flag then group else 0) ≡ in_below)
    → inner + (if above then group else 0) ≡ in_above
    → stale_rest + (if above then group_rest else 0) ≡ rest
    → ((if shown && seen then inner else 0) + (if shown && (boundary && (flag || not nil)) then own + 0 else 0) + stale_rest)
    + (if above then (if shown && not boundary then suc (if seen then group else 0) else 0) + group_rest else 0)
    ≡ (if shown
    then (if boundary then (if flag then 1 else 0) + (if seen then in_below else 0) else (if above then 1 else 0) + (if seen then in_above else 0))
    else 0) + rest
node_count false boundary seen flag nil true inner group own in_below in_above rest stale_rest group_rest sees cost below over after = omega (arith, after)
node_count false boundary seen flag nil false inner group own in_below in_above rest stale_rest group_rest sees cost below over after = omega (arith, after)
node_count true true true true nil true inner group own in_below in_above rest stale_rest group_rest sees cost below over after = omega (arith, cost refl, below refl, after)
node_count true true true true nil false inner group own in_below in_above rest stale_rest group_rest sees cost below over after = omega (arith, cost refl, below refl, after)
node_count true true true false true true inner group own in_below in_above rest stale_rest group_rest sees cost below over after = omega (arith, cost refl, below refl, after)
node_count true true true false true false inner group own in_below in_above rest stale_rest group_rest sees cost below over after = omega (arith, cost refl, below refl, after)
node_count true true true false false true inner group own in_below in_above rest stale_rest group_rest sees cost below over after = omega (arith, cost refl, below refl, after)
node_count true true true false false false inner group own in_below in_above rest stale_rest group_rest sees cost below over after = omega (arith, cost refl, below refl, after)
node_count true true false flag nil above inner group own in_below in_above rest stale_rest group_rest sees cost below over after = absurd (true≢false (sym (sees refl)))
node_count true false true flag nil true inner group own in_below in_above rest stale_rest group_rest sees cost below over after = omega (arith, over, after)
node_count true false true flag nil false inner group own in_below in_above rest stale_rest group_rest sees cost below over after = omega (arith, over, after)
node_count true false false flag nil true inner group own in_below in_above rest stale_rest group_rest sees cost below over after = omega (arith, after)
node_count true false false flag nil false inner group own in_below in_above rest stale_rest group_rest sees cost below over after = omega (arith, after)

pub stale_cost : (cost : Handle → ℕ) (above : Bool) (f : Forest RenderObject) → IsCounted cost f
    → counted cost (stale f) + (if above then group_count f else 0) ≡ painted_count above f
stale_cost cost true none costs = omega arith
stale_cost cost false none costs = omega arith
stale_cost cost above (tree h o below rest) costs =
    let inner : List Handle = if goes_in o then stale below else [] in
    let own : List Handle = if is_stale o inner then h ∷ [] else [] in
    let lists : counted cost (inner ++ own ++ stale rest) ≡ counted cost inner + counted cost own + counted cost (stale rest) =
    counted-append cost (inner ++ own) (stale rest) ∙ ap (λ n. n + counted cost (stale rest)) (counted-append cost inner own) in
    let parts : counted cost inner + counted cost own + counted cost (stale rest)
    ≡ (if goes_in o then counted cost (stale below) else 0) + (if is_stale o inner then cost h + 0 else 0) + counted cost (stale rest) =
    λ i. counted_if cost (goes_in o) (stale below) i + counted_if cost (is_stale o inner) (h ∷ []) i + counted cost (stale rest) in
    ap (λ n. n + (if above then group_count (tree h o below rest) else 0)) (lists ∙ parts)
    ∙ node_count o.shown (is_boundary o) (opens o) o.needs_paint (is_nil inner) above (counted cost (stale below)) (group_count below) (cost h)
    (painted_count o.needs_paint below) (painted_count above below) (painted_count above rest) (counted cost (stale rest)) (group_count rest)
    (boundary_opens o) costs.0 (λ is. stale_cost cost o.needs_paint below costs.1) (stale_cost cost above below costs.1) (stale_cost cost above rest costs.2)
