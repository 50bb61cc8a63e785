-- What boxes would like, by what their children would like.
use Rattle.std.proofs.Common.{◌≡◌, ap, refl, sym, ◌∙◌, ℕ, suc, ◌+◌, ◌<◌, List, [], ◌∷◌, ◌++◌, map, length, drop, get_or, add-one}
use Rattle.std.specs.Prelude.{min}
use Rattle.fx_geom.specs.declared.lengths.Len.{Len}
use Rattle.fx_geom.specs.declared.lengths.Len.TheVariants.{Finite, Unbounded}
use Rattle.fx_geom.specs.declared.shapes.Axis.{Axis}
use Rattle.fx_geom.specs.declared.shapes.Axis.TheVariants.{Horizontal, Vertical}
use Rattle.fx_geom.specs.declared.shapes.Size.{Size}
use Rattle.fx_geom.specs.Len.{limit_of}
use Rattle.plain_tree.specs.declared.render.ParentData.{ParentData}
use Rattle.plain_tree.specs.Render.{Render, render}
use Rattle.layout_form.specs.Fits.{data_of}
use Rattle.layout_form.specs.Object.{Setting, datas}
use Rattle.layout_form.specs.WrapTable.{column_at}
use Rattle.layout_form.specs.Intrinsic.{child_extents, stack_liked, stack_extent, flex_liked, flex_across, flex_extent, wrapped_child, cell_heights}
use Rattle.layout_form.specs.Layout.{object}
use Rattle.kind_rules.proofs.Loops.{fills_on}

-- what the objects of render nodes were told
object_told : (s : Setting) (r : Render) → (object s r).parent_data ≡ data_of r
unfolding object
object_told s (render n l d o k rs) = refl

pub datas_are : (s : Setting) (rs : List Render) → datas (map (object s) rs) ≡ map data_of rs
datas_are s [] = refl
datas_are s (r ∷ rs) =
    ap (λ (d : ParentData). d ∷ datas (map (object s) rs)) (object_told s r) ∙ ap (λ (ds : List ParentData). data_of r ∷ ds) (datas_are s rs)

pub flex_of : (line axis : Axis) (across : Len) (s : Setting) (rs : List Render) (told : List ParentData) (es : List ℕ) (x : ℕ)
    → told ≡ map data_of rs → es ≡ child_extents axis (flex_across line axis across) (map (object s) rs) → x ≡ flex_liked line axis told es
    → x ≡ flex_extent line axis across (map (object s) rs)
flex_of line axis across s rs told es x is ess e =
    e ∙ ap (λ (ns : List ℕ). flex_liked line axis told ns) ess
    ∙ ap (λ (ds : List ParentData). flex_liked line axis ds (child_extents axis (flex_across line axis across) (map (object s) rs))) (is ∙ sym (datas_are s rs))

pub stack_of : (axis : Axis) (across : Len) (s : Setting) (rs : List Render) (told : List ParentData) (es : List ℕ) (x : ℕ)
    → told ≡ map data_of rs → es ≡ child_extents axis across (map (object s) rs) → x ≡ stack_liked told es
    → x ≡ stack_extent axis across (map (object s) rs)
stack_of axis across s rs told es x is ess e =
    e ∙ ap (λ (ns : List ℕ). stack_liked told ns) ess
    ∙ ap (λ (ds : List ParentData). stack_liked ds (child_extents axis across (map (object s) rs))) (is ∙ sym (datas_are s rs))

-- ---- one more child in a list of what children would like

pub extents_more : (s : Setting) (axis : Axis) (across : Len) (rs : List Render) (i : ℕ) (r : Render) (y : ℕ) (before after whole : List ℕ) → i < length rs
    → r ≡ get_or rs i r → y ≡ (object s r).greatest axis across → after ≡ before ++ y ∷ []
    → before ++ child_extents axis across (map (object s) (drop i rs)) ≡ whole → after ++ child_extents axis across (map (object s) (drop (i + 1) rs)) ≡ whole
extents_more s axis across rs i r y before after whole h at is pushed same =
    let F : List Render → List ℕ = λ qs. child_extents axis across (map (object s) qs) in
    fills_on F F rs i r (y ∷ []) before after whole h
    (ap (λ (n : ℕ). n ∷ F (drop (i + 1) rs)) (ap (λ (q : Render). (object s q).greatest axis across) (sym at) ∙ sym is)) pushed same

pub heights_more : (s : Setting) (columns : List ℕ) (rs : List Render) (i : ℕ) (r : Render) (y width : ℕ) (before after whole : List ℕ) → i < length rs
    → r ≡ get_or rs i r → width ≡ column_at columns i → y ≡ (object s r).greatest Vertical (Finite width) → after ≡ before ++ y ∷ []
    → before ++ cell_heights columns i (map (object s) (drop i rs)) ≡ whole → after ++ cell_heights columns (i + 1) (map (object s) (drop (i + 1) rs)) ≡ whole
heights_more s columns rs i r y width before after whole h at wide is pushed same =
    let rest = map (object s) (drop (i + 1) rs) in
    fills_on (λ (qs : List Render). cell_heights columns i (map (object s) qs)) (λ (qs : List Render). cell_heights columns (i + 1) (map (object s) qs))
    rs i r (y ∷ []) before after whole h
    (ap (λ (q : Render). (object s q).greatest Vertical (Finite (column_at columns i)) ∷ cell_heights columns (suc i) rest) (sym at)
    ∙ ap (λ (n : ℕ). n ∷ cell_heights columns (suc i) rest) (ap (λ (m : ℕ). (object s r).greatest Vertical (Finite m)) (sym wide) ∙ sym is)
    ∙ ap (λ (j : ℕ). y ∷ cell_heights columns j rest) (sym (add-one i))) pushed same

abbrev the_size : ℕ → ℕ → Size
the_size w h = record { w = w; h = h }

pub wrapped_more : (s : Setting) (across : Len) (rs : List Render) (i : ℕ) (r : Render) (w h : ℕ) (before after whole : List Size) → i < length rs
    → r ≡ get_or rs i r → w ≡ min ((object s r).greatest Horizontal Unbounded) (limit_of across) → h ≡ (object s r).greatest Vertical (Finite w)
    → after ≡ before ++ record { w = w; h = h } ∷ []
    → before ++ map (wrapped_child across) (map (object s) (drop i rs)) ≡ whole → after ++ map (wrapped_child across) (map (object s) (drop (i + 1) rs)) ≡ whole
wrapped_more s across rs i r w h before after whole low at wide high pushed same =
    let F : List Render → List Size = λ qs. map (wrapped_child across) (map (object s) qs) in
    let one : Size = record { w = w; h = h } in
    let same_size : wrapped_child across (object s r) ≡ one =
    ap (λ (x : ℕ). the_size x ((object s r).greatest Vertical (Finite x))) (sym wide) ∙ ap (λ (y : ℕ). the_size w y) (sym high) in
    fills_on F F rs i r (one ∷ []) before after whole low
    (ap (λ (q : Render). wrapped_child across (object s q) ∷ F (drop (i + 1) rs)) (sym at) ∙ ap (λ (z : Size). z ∷ F (drop (i + 1) rs)) same_size) pushed same
