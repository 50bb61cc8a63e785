-- How far a sliver can be scrolled through doesn't depend on what is seen of it.
use Rattle.std.proofs.Common.{◌≡◌, ap, refl, ◌∙◌, ℕ, ◌+◌, ◌-◌, List, [], ◌∷◌}
use Rattle.fx_geom.specs.declared.shapes.Axis.{Axis}
use Rattle.fx_geom.specs.declared.shapes.Insets.{Insets}
use Rattle.fx_geom.specs.Insets.{other_of, before, after, along}
use Rattle.fx_geom.specs.Len.{stopped}
use Rattle.sliver_layout.specs.declared.protocol.SliverBounds.{SliverBounds}
use Rattle.sliver_layout.specs.Slivers.{paint_offset_of}
use Rattle.widget_model.specs.Look.{Look, sized_box, constrained_box, padding, align, colored_box, text, row, column, wrap, table, stack, flexible, positioned, opacity, clip_rect, repaint_boundary, merge_semantics, intrinsic_width, intrinsic_height, offstage, ignore_pointer, absorb_pointer, detector, semantics, exclude_semantics, custom_paint, custom_layout, viewport, sliver_to_box, sliver_padding, sliver_fixed, sliver_lazy, keep, inherit, component}
use Rattle.plain_tree.specs.Render.{Render, render, Renders, no_renders, more_renders}
use Rattle.layout_form.specs.Object.{Setting, Object, geometry_in, only_of}
use Rattle.layout_form.specs.SliverRule.{to_box_rule, padding_rule}
use Rattle.layout_form.specs.Single.{insets_of}
use Rattle.layout_form.specs.Layout.{sliver_rule, object, objects}

abbrev pub seen_from : Axis → ℕ → ℕ → ℕ → SliverBounds
seen_from axis cross offset remaining = record { axis = axis; offset = offset; remaining = remaining; cross = cross }

-- an object can be scrolled through as far wherever it is seen from
pub record Blind (c : Object) : Type 0 where
  pub same : (axis : Axis) (cross a r e f : ℕ)
      → (geometry_in (c.in_view (seen_from axis cross a r))).scroll ≡ (geometry_in (c.in_view (seen_from axis cross e f))).scroll

abbrev pub AllBlind : List Object → Type 0
AllBlind [] = Unit {0}
AllBlind (c ∷ cs) = Blind c × AllBlind cs

to_box_blind : (axis : Axis) (cross a r e f : ℕ) (cs : List Object)
    → (to_box_rule (seen_from axis cross a r) (only_of cs)).geometry.scroll ≡ (to_box_rule (seen_from axis cross e f) (only_of cs)).geometry.scroll
to_box_blind axis cross a r e f [] = refl
to_box_blind axis cross a r e f (c ∷ cs) = refl

padding_blind : (i : Insets) (axis : Axis) (cross a r e f : ℕ) (cs : List Object) → AllBlind cs
    → (padding_rule i (seen_from axis cross a r) (only_of cs)).geometry.scroll ≡ (padding_rule i (seen_from axis cross e f) (only_of cs)).geometry.scroll
padding_blind i axis cross a r e f [] all = refl
padding_blind i axis cross a r e f (c ∷ cs) all =
    ap (λ (s : ℕ). stopped (before i axis + after i axis + s))
    (all.0.same axis (cross - along i (other_of axis))
    (a - before i axis) (r - paint_offset_of (seen_from axis cross a r) 0 (before i axis))
    (e - before i axis) (f - paint_offset_of (seen_from axis cross e f) 0 (before i axis)))

pub rule_blind : (l : Look) (n : ℕ) (axis : Axis) (cross a r e f : ℕ) (cs : List Object) → AllBlind cs
    → (sliver_rule l n (seen_from axis cross a r) cs).geometry.scroll ≡ (sliver_rule l n (seen_from axis cross e f) cs).geometry.scroll
rule_blind (sized_box m0 m1) n axis cross a r e f cs all = refl
rule_blind (constrained_box m0 m1 m2 m3) n axis cross a r e f cs all = refl
rule_blind (padding m0 m1 m2 m3) n axis cross a r e f cs all = refl
rule_blind (align m0 m1) n axis cross a r e f cs all = refl
rule_blind (colored_box m0) n axis cross a r e f cs all = refl
rule_blind (text m0 m1) n axis cross a r e f cs all = refl
rule_blind (row m0 m1 m2) n axis cross a r e f cs all = refl
rule_blind (column m0 m1 m2) n axis cross a r e f cs all = refl
rule_blind (wrap m0 m1) n axis cross a r e f cs all = refl
rule_blind (table m0) n axis cross a r e f cs all = refl
rule_blind (stack m0 m1 m2) n axis cross a r e f cs all = refl
rule_blind (flexible m0 m1) n axis cross a r e f cs all = refl
rule_blind (positioned m0 m1 m2 m3 m4 m5) n axis cross a r e f cs all = refl
rule_blind (opacity m0) n axis cross a r e f cs all = refl
rule_blind clip_rect n axis cross a r e f cs all = refl
rule_blind repaint_boundary n axis cross a r e f cs all = refl
rule_blind merge_semantics n axis cross a r e f cs all = refl
rule_blind intrinsic_width n axis cross a r e f cs all = refl
rule_blind intrinsic_height n axis cross a r e f cs all = refl
rule_blind (offstage m0) n axis cross a r e f cs all = refl
rule_blind (ignore_pointer m0) n axis cross a r e f cs all = refl
rule_blind (absorb_pointer m0) n axis cross a r e f cs all = refl
rule_blind (detector m0 m1 m2 m3 m4 m5) n axis cross a r e f cs all = refl
rule_blind (semantics m0 m1 m2) n axis cross a r e f cs all = refl
rule_blind (exclude_semantics m0) n axis cross a r e f cs all = refl
rule_blind (custom_paint m0) n axis cross a r e f cs all = refl
rule_blind (custom_layout m0) n axis cross a r e f cs all = refl
rule_blind (viewport m0) n axis cross a r e f cs all = refl
rule_blind sliver_to_box n axis cross a r e f cs all = to_box_blind axis cross a r e f cs
rule_blind (sliver_padding m0 m1 m2 m3) n axis cross a r e f cs all = padding_blind (insets_of m0 m1 m2 m3) axis cross a r e f cs all
rule_blind (sliver_fixed m0) n axis cross a r e f cs all = refl
rule_blind (sliver_lazy m0) n axis cross a r e f cs all = refl
rule_blind (keep m0) n axis cross a r e f cs all = refl
rule_blind (inherit m0 m1) n axis cross a r e f cs all = refl
rule_blind (component m0 m1 m2) n axis cross a r e f cs all = refl

mutual
  unfolding object objects

  pub object_blind : (s : Setting) (r : Render) → Blind (object s r)
  object_blind s (render n l d o c rs) =
      record { same = λ axis cross a r e f. rule_blind l c axis cross a r e f (objects s rs) (objects_blind s rs) }

  pub objects_blind : (s : Setting) (rs : Renders) → AllBlind (objects s rs)
  objects_blind s no_renders = tt
  objects_blind s (more_renders r rs) = (object_blind s r, objects_blind s rs)

-- the same of any two views with one axis and one cross extent
pub scrolls_alike : (s : Setting) (r : Render) (b v : SliverBounds) → b.axis ≡ v.axis → b.cross ≡ v.cross
    → (geometry_in ((object s r).in_view b)).scroll ≡ (geometry_in ((object s r).in_view v)).scroll
scrolls_alike s r b v p q =
    (object_blind s r).same b.axis b.cross b.offset b.remaining v.offset v.remaining
    ∙ ap (λ (x : Axis). (geometry_in ((object s r).in_view (seen_from x b.cross v.offset v.remaining))).scroll) p
    ∙ ap (λ (x : ℕ). (geometry_in ((object s r).in_view (seen_from v.axis x v.offset v.remaining))).scroll) q
