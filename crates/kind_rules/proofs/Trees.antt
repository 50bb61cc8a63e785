-- Render nodes and the nodes below them: those that can be laid out, how many they are, and what they would like.
use Rattle.std.proofs.Common.{◌≡◌, ap, refl, sym, subst, ℕ, zero, suc, ◌+◌, ◌*◌, ◌^◌, ◌<◌, ◌≤◌, List, [], ◌∷◌, map, length, get_or, arith}
use Rattle.std.specs.Prelude.{sum, Result, Ok, Err, IfOk}
use Rattle.std.specs.List.{All}
use Rattle.std.proofs.lemmas.List.Sums.{sum_by-cons}
use Rattle.fx_geom.specs.declared.lengths.Len.{Len}
use Rattle.fx_geom.specs.declared.shapes.Axis.{Axis}
use Rattle.widget_model.specs.Look.{Look}
use Rattle.plain_tree.specs.declared.render.ParentData.{ParentData}
use Rattle.plain_tree.specs.Render.{Render, render, Renders, no_renders, more_renders, list_of, count_of, counts_of}
use Rattle.layout_form.specs.Fits.{Fits, IsTold, data_of, told_in, CanBeLaidOut, CanAllBeLaidOut}
use Rattle.layout_form.specs.FlexRule.{factors_of}
use Rattle.layout_form.specs.Object.{Setting, Object}
use Rattle.layout_form.specs.Layout.{object, objects, intrinsic_rule}
use Rattle.kind_rules.specs.Cursor.{look_of, children_of}

-- what a result gives where it is fine, said in another way
pub ok_weaker : {X E : Type 0} (P Q : X → Type 0) (r : Result X E) → ((x : X) → P x → Q x) → IfOk r P → IfOk r Q
ok_weaker P Q (Ok x) f h = f x h
ok_weaker P Q (Err e) f h = h

objects_list : (s : Setting) (rs : Renders) → objects s rs ≡ map (object s) (list_of rs)
unfolding objects
objects_list s no_renders = refl
objects_list s (more_renders r rs) = ap (λ (os : List Object). object s r ∷ os) (objects_list s rs)

-- a node would like what its kind says
pub node_extent : (s : Setting) (r : Render) (axis : Axis) (across : Len)
    → (object s r).greatest axis across ≡ intrinsic_rule s (look_of r) axis across (map (object s) (children_of r))
unfolding object
node_extent s (render n l d o c rs) axis across = ap (λ (os : List Object). intrinsic_rule s l axis across os) (objects_list s rs)

told_list : (rs : Renders) → told_in rs ≡ map data_of (list_of rs)
told_list no_renders = refl
told_list (more_renders r rs) = ap (λ (ds : List ParentData). data_of r ∷ ds) (told_list rs)

pub node_fits : (r : Render) → CanBeLaidOut r → Fits (look_of r) (map data_of (children_of r))
node_fits (render n l d o c rs) can = subst (λ (ds : List ParentData). Fits l ds) (told_list rs) can.0

some_fits : (rs : Renders) (i : ℕ) (c : Render) → CanAllBeLaidOut rs → i < length (list_of rs) → c ≡ get_or (list_of rs) i c → CanBeLaidOut c
some_fits no_renders i c can h is = absurd (omega arith)
some_fits (more_renders r rs) zero c can h is = subst (λ (x : Render). CanBeLaidOut x) (sym is) can.0
some_fits (more_renders r rs) (suc i) c can h is = some_fits rs i c can.1 (omega arith) is

pub child_fits : (r : Render) (i : ℕ) (c : Render) → CanBeLaidOut r → i < length (children_of r) → c ≡ get_or (children_of r) i c → CanBeLaidOut c
child_fits (render n l d o k rs) i c can h is = some_fits rs i c can.1 h is

some_fewer : (rs : Renders) (i : ℕ) (c : Render) → i < length (list_of rs) → c ≡ get_or (list_of rs) i c → count_of c ≤ counts_of rs
some_fewer no_renders i c h is = absurd (omega arith)
some_fewer (more_renders r rs) zero c h is = let e : count_of c ≡ count_of r = ap count_of is in omega arith
some_fewer (more_renders r rs) (suc i) c h is = let rest : count_of c ≤ counts_of rs = some_fewer rs i c (omega arith) is in omega arith

-- a child is smaller by itself
pub child_fewer : (r : Render) (i : ℕ) (c : Render) → i < length (children_of r) → c ≡ get_or (children_of r) i c → count_of c < count_of r
child_fewer (render n l d o k rs) i c h is = let e : count_of c ≤ counts_of rs = some_fewer rs i c h is in omega arith

pub some_count : (r : Render) → 1 ≤ count_of r
some_count (render n l d o k rs) = omega arith

-- the factors of children can be summed
factors_small : (ds : List ParentData) → All IsTold ds → sum (factors_of ds) ≤ 1000000 * length ds
factors_small [] all = omega arith
factors_small (d ∷ ds) all =
    let here : d.flex ≤ 1000000 = (all 0 d (omega arith)).flex in
    let rest : sum (factors_of ds) ≤ 1000000 * length ds = factors_small ds (λ k e h. all (suc k) e (omega arith)) in
    let both : sum (d.flex ∷ factors_of ds) ≡ d.flex + sum (factors_of ds) = sum_by-cons (λ n. n) d.flex (factors_of ds) in
    omega arith

pub factors_fit : (l : Look) (ds es : List ParentData) → es ≡ ds → Fits l ds → sum (factors_of es) < 2 ^ 64
factors_fit l ds es is fits =
    let small : sum (factors_of ds) ≤ 1000000 * length ds = factors_small ds fits.told in
    let few : length ds ≤ 2 ^ 44 = fits.few in
    let same : sum (factors_of es) ≡ sum (factors_of ds) = ap (λ (xs : List ParentData). sum (factors_of xs)) is in
    omega arith
