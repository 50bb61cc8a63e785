-- What boxes would like, by kinds of which a layout reads the same, and by what their children would like.
use Rattle.std.proofs.Common.{◌≡◌, ap, refl, sym, ◌∙◌, ℕ, suc, min, Bool, true, false, List, [], ◌∷◌, Option, map}
use Rattle.fx_geom.specs.declared.boxes.Bounds.{Bounds}
use Rattle.fx_geom.specs.declared.lengths.Len.{Len}
use Rattle.fx_geom.specs.declared.lengths.Len.TheVariants.{Finite, Unbounded}
use Rattle.fx_geom.specs.declared.shapes.Axis.{Axis}
use Rattle.fx_geom.specs.declared.shapes.Axis.TheVariants.{Horizontal, Vertical}
use Rattle.fx_geom.specs.declared.shapes.Insets.{Insets}
use Rattle.fx_geom.specs.declared.shapes.Size.{Size}
use Rattle.fx_geom.specs.Along.{least_along, most_along}
use Rattle.fx_geom.specs.Insets.{other_of, along}
use Rattle.fx_geom.specs.Len.{limit_of, clamped, less, length_sum, stopped}
use Rattle.wrap_table.specs.Stretches.{spaced_extent}
use Rattle.wrap_table.specs.Places.{wrap_size_of, table_size_of}
use Rattle.node_tree.specs.Forest.{Forest}
use Rattle.node_tree.specs.Forest.Forest.{none, tree}
use Rattle.widget_model.specs.Look.{Look, sized_box, constrained_box, padding, text, row, column, wrap, table, stack, intrinsic_width, intrinsic_height, offstage, viewport}
use Rattle.work_roles.specs.ForLayout.{for_layout}
use Rattle.work_roles.specs.WorkRole.{is_intrinsic}
use Rattle.layout_form.specs.declared.asks.Ask.{Ask}
use Rattle.layout_form.specs.declared.asks.Ask.TheVariants.{AsBox, AsSliver}
use Rattle.layout_form.specs.Object.{Setting, Object, datas, only_of}
use Rattle.layout_form.specs.Single.{sized_bounds, constrained_bounds, insets_of}
use Rattle.layout_form.specs.TextRule.{text_extent}
use Rattle.layout_form.specs.WrapTable.{columns_of, column_at}
use Rattle.layout_form.specs.Intrinsic.{liked_by, child_extent, child_extents, own_extent, padded_extent, hidden_extent, stack_liked, stack_extent, flex_liked, flex_across, flex_extent, wrapped_child, wrap_extent, cell_heights, table_extent}
use Rattle.layout_form.specs.Layout.{intrinsic_rule, object, objects}
use Rattle.layout_walk.specs.Node.{LayoutNode, members}
use Rattle.layout_walk.specs.Rules.{liked_in}

-- two children were told the same, and would like the same
pub record Alike (c d : Object) : Type 0 where
  pub told : c.parent_data ≡ d.parent_data
  pub greatest : (axis : Axis) (across : Len) → c.greatest axis across ≡ d.greatest axis across

abbrev pub AllAlike : List Object → List Object → Type 0
AllAlike [] [] = Unit {0}
AllAlike [] (d ∷ ds) = ⊥
AllAlike (c ∷ cs) [] = ⊥
AllAlike (c ∷ cs) (d ∷ ds) = Alike c d × AllAlike cs ds

datas_same : (cs ds : List Object) → AllAlike cs ds → datas cs ≡ datas ds
datas_same [] [] all = refl
datas_same [] (d ∷ ds) all = absurd all
datas_same (c ∷ cs) [] all = absurd all
datas_same (c ∷ cs) (d ∷ ds) all = λ at. all.0.told at ∷ datas_same cs ds all.1 at

child_same : (axis : Axis) (across : Len) (cs ds : List Object) → AllAlike cs ds → child_extent axis across (only_of cs) ≡ child_extent axis across (only_of ds)
child_same axis across [] [] all = refl
child_same axis across [] (d ∷ ds) all = absurd all
child_same axis across (c ∷ cs) [] all = absurd all
child_same axis across (c ∷ cs) (d ∷ ds) all = all.0.greatest axis across

extents_same : (axis : Axis) (across : Len) (cs ds : List Object) → AllAlike cs ds → child_extents axis across cs ≡ child_extents axis across ds
extents_same axis across [] [] all = refl
extents_same axis across [] (d ∷ ds) all = absurd all
extents_same axis across (c ∷ cs) [] all = absurd all
extents_same axis across (c ∷ cs) (d ∷ ds) all = λ at. all.0.greatest axis across at ∷ extents_same axis across cs ds all.1 at

flex_same : (main axis : Axis) (across : Len) (cs ds : List Object) → AllAlike cs ds → flex_extent main axis across cs ≡ flex_extent main axis across ds
flex_same main axis across cs ds all = λ at. flex_liked main axis (datas_same cs ds all at) (extents_same axis (flex_across main axis across) cs ds all at)

-- a child of a Wrap, at the width that it would like
abbrev wrapped_at : Len → Object → ℕ → Size
wrapped_at across c width = record { w = min width (limit_of across); h = c.greatest Vertical (Finite (min width (limit_of across))) }

wrapped_one : (across : Len) (c d : Object) → Alike c d → wrapped_child across c ≡ wrapped_child across d
wrapped_one across c d one =
    ap (wrapped_at across c) (one.greatest Horizontal Unbounded)
    ∙ ap (λ (h : ℕ). record { w = min (d.greatest Horizontal Unbounded) (limit_of across); h = h })
    (one.greatest Vertical (Finite (min (d.greatest Horizontal Unbounded) (limit_of across))))

wrapped_same : (across : Len) (cs ds : List Object) → AllAlike cs ds → map (wrapped_child across) cs ≡ map (wrapped_child across) ds
wrapped_same across [] [] all = refl
wrapped_same across [] (d ∷ ds) all = absurd all
wrapped_same across (c ∷ cs) [] all = absurd all
wrapped_same across (c ∷ cs) (d ∷ ds) all = λ at. wrapped_one across c d all.0 at ∷ wrapped_same across cs ds all.1 at

wrap_same : (gap run_gap : ℕ) (axis : Axis) (across : Len) (cs ds : List Object) → AllAlike cs ds → wrap_extent gap run_gap axis across cs ≡ wrap_extent gap run_gap axis across ds
wrap_same gap run_gap Horizontal across cs ds all = ap (λ ns. stopped (spaced_extent gap ns)) (extents_same Horizontal Unbounded cs ds all)
wrap_same gap run_gap Vertical across cs ds all = ap (λ ss. (wrap_size_of ss across gap run_gap).h) (wrapped_same across cs ds all)

heights_same : (columns : List ℕ) (i : ℕ) (cs ds : List Object) → AllAlike cs ds → cell_heights columns i cs ≡ cell_heights columns i ds
heights_same columns i [] [] all = refl
heights_same columns i [] (d ∷ ds) all = absurd all
heights_same columns i (c ∷ cs) [] all = absurd all
heights_same columns i (c ∷ cs) (d ∷ ds) all = λ at. all.0.greatest Vertical (Finite (column_at columns i)) at ∷ heights_same columns (suc i) cs ds all.1 at

table_same : (columns : List ℕ) (axis : Axis) (cs ds : List Object) → AllAlike cs ds → table_extent columns axis cs ≡ table_extent columns axis ds
table_same columns Horizontal cs ds all = refl
table_same columns Vertical cs ds all = ap (λ ns. (table_size_of columns ns).h) (heights_same columns 0 cs ds all)

hidden_same : (hidden : Bool) (axis : Axis) (across : Len) (cs ds : List Object) → AllAlike cs ds → hidden_extent hidden axis across (only_of cs) ≡ hidden_extent hidden axis across (only_of ds)
hidden_same true axis across cs ds all = refl
hidden_same false axis across cs ds all = child_same axis across cs ds all

own_same : (own : Bounds) (axis : Axis) (across : Len) (cs ds : List Object) → AllAlike cs ds → own_extent own axis across (only_of cs) ≡ own_extent own axis across (only_of ds)
own_same own axis across cs ds all = ap (clamped (least_along own axis) (most_along own axis)) (child_same axis across cs ds all)

padded_same : (i : Insets) (axis : Axis) (across : Len) (cs ds : List Object) → AllAlike cs ds → padded_extent i axis across (only_of cs) ≡ padded_extent i axis across (only_of ds)
padded_same i axis across cs ds all = ap (length_sum (along i axis)) (child_same axis (less across (along i (other_of axis))) cs ds all)

stack_same : (axis : Axis) (across : Len) (cs ds : List Object) → AllAlike cs ds → stack_extent axis across cs ≡ stack_extent axis across ds
stack_same axis across cs ds all = λ at. stack_liked (datas_same cs ds all at) (extents_same axis across cs ds all at)

-- delegates have no part in it
pub rule_same : (s after : Setting) → s.cell ≡ after.cell → (l : Look) (axis : Axis) (across : Len) (cs ds : List Object) → AllAlike cs ds
    → intrinsic_rule s l axis across cs ≡ intrinsic_rule after l axis across ds
rule_same s after cell (sized_box width height) axis across cs ds all = own_same (sized_bounds width height) axis across cs ds all
rule_same s after cell (constrained_box min_width max_width min_height max_height) axis across cs ds all =
    own_same (constrained_bounds min_width max_width min_height max_height) axis across cs ds all
rule_same s after cell (padding left top right bottom) axis across cs ds all = padded_same (insets_of left top right bottom) axis across cs ds all
rule_same s after cell (text words color) axis across cs ds all = ap (λ c. text_extent c words axis across) cell
rule_same s after cell (row main cross size) axis across cs ds all = flex_same Horizontal axis across cs ds all
rule_same s after cell (column main cross size) axis across cs ds all = flex_same Vertical axis across cs ds all
rule_same s after cell (wrap spacing run_spacing) axis across cs ds all = wrap_same spacing run_spacing axis across cs ds all
rule_same s after cell (table widths) axis across cs ds all = table_same (columns_of widths) axis cs ds all
rule_same s after cell (stack ax ay fit) axis across cs ds all = stack_same axis across cs ds all
rule_same s after cell (offstage hidden) axis across cs ds all = hidden_same hidden axis across cs ds all
rule_same s after cell (viewport direction) axis across cs ds all = refl
rule_same s after cell l axis across cs ds all = child_same axis across cs ds all

rule_read : (s : Setting) (l : Look) (axis : Axis) (across : Len) (cs : List Object) → intrinsic_rule s (for_layout l) axis across cs ≡ intrinsic_rule s l axis across cs
rule_read s (text words color) axis across cs = refl
rule_read s l axis across cs = refl

-- ---- trees that are built the same for a layout

abbrev pub BuiltAlike : Forest LayoutNode → Forest LayoutNode → Type 0
BuiltAlike none none = Unit {0}
BuiltAlike none (tree k w below rest) = ⊥
BuiltAlike (tree h v kids more) none = ⊥
BuiltAlike (tree h v kids more) (tree k w below rest) =
    (for_layout v.look ≡ for_layout w.look) × (v.told ≡ w.told) × BuiltAlike kids below × BuiltAlike more rest

pub objects_alike : (s after : Setting) → s.cell ≡ after.cell → (f g : Forest LayoutNode) → BuiltAlike f g → AllAlike (objects s (members f)) (objects after (members g))
unfolding object objects
objects_alike s after cell none none built = tt
objects_alike s after cell none (tree k w below rest) built = absurd built
objects_alike s after cell (tree h v kids more) none built = absurd built
objects_alike s after cell (tree h v kids more) (tree k w below rest) built = (
  record {
    told = built.1;
    greatest = λ axis across.
        sym (rule_read s v.look axis across (objects s (members kids)))
        ∙ (ap (λ l. intrinsic_rule s l axis across (objects s (members kids))) built.0
        ∙ (rule_read s w.look axis across (objects s (members kids))
        ∙ rule_same s after cell w.look axis across (objects s (members kids)) (objects after (members below)) (objects_alike s after cell kids below built.2)));
  },
  objects_alike s after cell more rest built.3,
)

-- ---- what the child of an IntrinsicWidth or an IntrinsicHeight would like

liked_read : (l : Look) (b : Bounds) (c : Option Object) → liked_by (for_layout l) b c ≡ liked_by l b c
liked_read (text words color) b c = refl
liked_read l b c = refl

pub liked_plain : (l : Look) (b : Bounds) (c : Option Object) → is_intrinsic l ≡ false → liked_by l b c ≡ 0
liked_plain intrinsic_width b c plain = absurd (cc)
liked_plain intrinsic_height b c plain = absurd (cc)
liked_plain l b c plain = refl

pub liked_alike : (l : Look) (b : Bounds) (cs ds : List Object) → AllAlike cs ds → liked_by l b (only_of cs) ≡ liked_by l b (only_of ds)
liked_alike intrinsic_width b cs ds all = child_same Horizontal b.max_h cs ds all
liked_alike intrinsic_height b cs ds all = child_same Vertical b.max_w cs ds all
liked_alike l b cs ds all = refl

liked_box : (s after : Setting) → s.cell ≡ after.cell → (l : Look) (b : Bounds) (f g : Forest LayoutNode) (asks : Bool) → is_intrinsic l ≡ asks → (asks ≡ true → BuiltAlike f g)
    → liked_by l b (only_of (objects s (members f))) ≡ liked_by l b (only_of (objects after (members g)))
liked_box s after cell l b f g true is built = liked_alike l b (objects s (members f)) (objects after (members g)) (objects_alike s after cell f g (built refl))
liked_box s after cell l b f g false is built = liked_plain l b (only_of (objects s (members f))) is ∙ sym (liked_plain l b (only_of (objects after (members g))) is)

pub liked_same : (s after : Setting) → s.cell ≡ after.cell → (l k : Look) → for_layout l ≡ for_layout k → (ask : Ask) (f g : Forest LayoutNode) → (is_intrinsic k ≡ true → BuiltAlike f g)
    → liked_in s l ask (members f) ≡ liked_in after k ask (members g)
liked_same s after cell l k looks (AsSliver b) f g built = refl
liked_same s after cell l k looks (AsBox b) f g built =
    let child = only_of (objects s (members f)) in
    sym (liked_read l b child) ∙ (ap (λ x. liked_by x b child) looks ∙ (liked_read k b child ∙ liked_box s after cell k b f g (is_intrinsic k) refl built))
