-- Render nodes and the nodes below them: those that can be laid out, and how many they are.
use Rattle.std.proofs.Common.{◌≡◌, ap, refl, sym, ◌∙◌, subst, ℕ, zero, suc, Bool, true, ◌+◌, ◌*◌, ◌^◌, ◌<◌, ◌≤◌, List, [], ◌∷◌, map, length, get_or, arith}
use Rattle.std.specs.Prelude.{sum}
use Rattle.std.specs.Bool.{◌==◌}
use Rattle.std.specs.List.{All}
use Rattle.std.proofs.lemmas.List.Sums.{sum_by-cons}
use Rattle.widget_model.specs.declared.widgets.Widget.{Widget}
use Rattle.widget_model.specs.Look.{Look}
use Rattle.widget_model.specs.View.{look_in}
use Rattle.plain_tree.specs.declared.render.ParentData.{ParentData}
use Rattle.plain_tree.specs.Render.{Render, render, Renders, no_renders, more_renders, renders_of, list_of, count_of, counts_of}
use Rattle.layout_form.specs.Fits.{Fits, IsTold, data_of, told_in, CanBeLaidOut, CanAllBeLaidOut}
use Rattle.layout_form.specs.FlexRule.{factors_of}
use Rattle.kind_rules.specs.Cursor.{look_of, count_in, children_of}
use Rattle.plain_layout.specs.Computed.{AllFit, number_of, scroll_of}

renders_again : (rs : Renders) → renders_of (list_of rs) ≡ rs
renders_again no_renders = refl
renders_again (more_renders r rs) = ap (λ (qs : Renders). more_renders r qs) (renders_again rs)

list_again : (rs : List Render) → list_of (renders_of rs) ≡ rs
list_again [] = refl
list_again (r ∷ rs) = ap (λ (qs : List Render). r ∷ qs) (list_again rs)

pub children_again : (n : ℕ) (l : Look) (d : ParentData) (o k : ℕ) (rs qs : List Render) (node : Render) → render n l d o k (renders_of rs) ≡ node → qs ≡ rs → qs ≡ children_of node
children_again n l d o k rs qs node is same = same ∙ sym (list_again rs) ∙ ap children_of is

-- a node is its parts
pub node_again : (r : Render) → r ≡ render (number_of r) (look_of r) (data_of r) (scroll_of r) (count_in r) (renders_of (children_of r))
node_again (render n l d o k rs) = ap (λ (qs : Renders). render n l d o k qs) (sym (renders_again rs))

told_list : (rs : Renders) → told_in rs ≡ map data_of (list_of rs)
told_list no_renders = refl
told_list (more_renders r rs) = ap (λ (ds : List ParentData). data_of r ∷ ds) (told_list rs)

pub node_fits : (r : Render) → CanBeLaidOut r → Fits (look_of r) (map data_of (children_of r))
node_fits (render n l d o k rs) can = subst (λ (ds : List ParentData). Fits l ds) (told_list rs) can.0

all_list : (rs : Renders) → CanAllBeLaidOut rs → AllFit (list_of rs)
all_list no_renders all = tt
all_list (more_renders r rs) all = (all.0, all_list rs all.1)

pub below_fit : (r : Render) (rs : List Render) → rs ≡ children_of r → CanBeLaidOut r → AllFit rs
below_fit (render n l d o k qs) rs is can = subst AllFit (sym is) (all_list qs can.1)

pub counted : (r : Render) (rs : List Render) → rs ≡ children_of r → count_of r ≡ suc (counts_of (renders_of rs))
counted (render n l d o k qs) rs is = ap (λ (x : Renders). suc (counts_of x)) (sym (renders_again qs)) ∙ ap (λ (xs : List Render). suc (counts_of (renders_of xs))) (sym is)

pub item_fits : (rs : List Render) (i : ℕ) (r : Render) → i < length rs → r ≡ get_or rs i r → AllFit rs → CanBeLaidOut r
item_fits [] i r h is all = absurd (omega arith)
item_fits (q ∷ rs) zero r h is all = subst (λ (x : Render). CanBeLaidOut x) (sym is) all.0
item_fits (q ∷ rs) (suc i) r h is all = item_fits rs i r (omega arith) is all.1

pub item_below : (rs : List Render) (i : ℕ) (r : Render) → i < length rs → r ≡ get_or rs i r → count_of r ≤ counts_of (renders_of rs)
item_below [] i r h is = absurd (omega arith)
item_below (q ∷ rs) zero r h is = let e : count_of r ≡ count_of q = ap count_of is in omega arith
item_below (q ∷ rs) (suc i) r h is =
    let rest : count_of r ≤ counts_of (renders_of rs) = item_below rs i r (omega arith) is in omega arith

-- the factors of children can be summed
factors_small : (ds : List ParentData) → All IsTold ds → sum (factors_of ds) ≤ 1000000 * length ds
factors_small [] all = omega arith
factors_small (d ∷ ds) all =
    let here : d.flex ≤ 1000000 = (all 0 d (omega arith)).flex in
    let rest : sum (factors_of ds) ≤ 1000000 * length ds = factors_small ds (λ k e h. all (suc k) e (omega arith)) in
    let both : sum (d.flex ∷ factors_of ds) ≡ d.flex + sum (factors_of ds) = sum_by-cons (λ n. n) d.flex (factors_of ds) in
    omega arith

pub factors_fit : (l : Look) (ds es : List ParentData) → es ≡ ds → Fits l ds → sum (factors_of es) < 2 ^ 64
factors_fit l ds es is fits =
    let small : sum (factors_of ds) ≤ 1000000 * length ds = factors_small ds fits.told in
    let few : length ds ≤ 2 ^ 44 = fits.few in
    let same : sum (factors_of es) ≡ sum (factors_of ds) = ap (λ (xs : List ParentData). sum (factors_of xs)) is in
    omega arith

pub node_with : (r : Render) (rs : List Render) → rs ≡ children_of r → r ≡ render (number_of r) (look_of r) (data_of r) (scroll_of r) (count_in r) (renders_of rs)
node_with r rs is =
    node_again r ∙ ap (λ (xs : List Render). render (number_of r) (look_of r) (data_of r) (scroll_of r) (count_in r) (renders_of xs)) (sym is)

pub fits_here : (n : ℕ) (w v : Widget) (d : ParentData) (o k : ℕ) (rs : List Render) (node : Render) (told : List ParentData)
    → render n (look_in w.kind) d o k (renders_of rs) ≡ node → v ≡ w → told ≡ map data_of (children_of node) → CanBeLaidOut node → Fits (look_in v.kind) told
fits_here n w v d o k rs node told is ws tolds can =
    let look : look_of node ≡ look_in v.kind = sym (ap look_of is) ∙ ap (λ (x : Widget). look_in x.kind) (sym ws) in
    subst (λ (l : Look). Fits l told) look (subst (λ (ds : List ParentData). Fits (look_of node) ds) (sym tolds) (node_fits node can))

pub fits_alone : (n : ℕ) (w v : Widget) (d : ParentData) (o k : ℕ) (rs : List Render) (node : Render)
    → render n (look_in w.kind) d o k (renders_of rs) ≡ node → v ≡ w → children_of node ≡ [] → CanBeLaidOut node → Fits (look_in v.kind) []
fits_alone n w v d o k rs node is ws nobody can =
    fits_here n w v d o k rs node [] is ws (sym (ap (λ (qs : List Render). map data_of qs) nobody)) can

is_none : (n : ℕ) → (n == 0) ≡ true → n ≡ 0
is_none n e = grind arith

pub none_below : (node : Render) (rs : List Render) (empty : Bool) → rs ≡ children_of node → empty ≡ (length rs == 0) → empty ≡ true → children_of node ≡ []
none_below node [] empty below is t = sym below
none_below node (r ∷ rs) empty below is t = absurd (omega (arith, is_none (length (r ∷ rs)) (sym is ∙ t)))
