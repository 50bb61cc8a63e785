-- Whether an entry keeps what is read of its node, by the widgets that the code compares.
use Rattle.std.proofs.Common.{◌≡◌, ◌↔◌, ◌&&◌, ◌||◌, ℕ, Bool, true, false, not, IsTrue, Some, eqb, eqb-true, eq-eqb, sym, ap, ◌∙◌}
use Rattle.std.proofs.lemmas.Bool.{and_parts, and_from}
use mathlib.Core.Bool.{beq}
use Rattle.fx_handles.specs.ArenaLaws.{same_Some}
use Rattle.node_tree.specs.Tree.{Tree}
use Rattle.node_tree.specs.Plan.{PlanEntry}
use Rattle.widget_model.specs.declared.widgets.Widget.{Widget}
use Rattle.widget_model.specs.Look.{Look}
use Rattle.widget_model.specs.Plain.{PlainWidget, look_of, children_of}
use Rattle.widget_model.specs.View.{look_in, plain_of}
use Rattle.widget_model.specs.PlainLaws.{list_of-widgets_of}
use Rattle.plain_tree.specs.declared.render.ParentData.{ParentData}
use Rattle.plain_tree.specs.RenderRole.{render_role_of}
use Rattle.plain_tree.specs.Render.{lazy_count}
use Rattle.work_roles.specs.ForLayout.{for_layout}
use Rattle.work_roles.specs.WorkRole.{is_viewport, is_offstage}
use Rattle.render_tree.specs.Object.{RenderObject, bounds_in}
use Rattle.render_tree.specs.Redraw.{Redraw, redrawn}
use Rattle.render_tree.specs.Tree.{object_at}
use Rattle.render_tree.specs.Marks.{LayoutOwn, LayoutTold, layout_own, layout_told, are_tight, has_say}
use Rattle.render_tree.specs.Changes.{hides_at, KeepsOwn, KeepsTold, KeepsLook}
use Rattle.render_tree.proofs.SameReads.{beq-true, beq-same}

-- how many child widgets a widget has, where it is a SliverLazy
abbrev pub count_of : PlainWidget → ℕ
count_of p = lazy_count (render_role_of (look_of p)) (children_of p)

pub counted : (w : Widget) → lazy_count (render_role_of (look_in w.kind)) w.children ≡ count_of (plain_of w)
counted w = ap (lazy_count (render_role_of (look_in w.kind))) (sym (list_of-widgets_of w.children))

module _ (t : Tree RenderObject) (e : PlanEntry Redraw) (o : RenderObject) (at : object_at t e.at ≡ Some o) (new old : Widget) (is_new : plain_of new ≡ e.update.widget) (is_old : plain_of old ≡ o.widget) where
  pub look_keeps : (r : Bool) → IsTrue r ↔ (look_in new.kind ≡ look_in old.kind) → IsTrue r ↔ KeepsLook t e
  look_keeps r s = (
    λ i x is. sym (ap look_of is_new) ∙ (s.0 i ∙ (ap look_of is_old ∙ ap (λ (y : RenderObject). look_of y.widget) (same_Some (sym at ∙ is)))),
    λ k. s.1 (ap look_of is_new ∙ (k o at ∙ sym (ap look_of is_old))),
  )

  pub own_keeps : (r s : Bool) (c d : ℕ) → r ≡ (s && eqb c d) → IsTrue s ↔ (for_layout (look_in new.kind) ≡ for_layout (look_in old.kind))
      → c ≡ lazy_count (render_role_of (look_in new.kind)) new.children → d ≡ lazy_count (render_role_of (look_in old.kind)) old.children → IsTrue r ↔ KeepsOwn t e
  own_keeps r s c d is_r is_s is_c is_d =
      let new_count : c ≡ count_of e.update.widget = is_c ∙ (counted new ∙ ap count_of is_new) in
      let old_count : d ≡ count_of o.widget = is_d ∙ (counted old ∙ ap count_of is_old) in
      let make : Look → ℕ → ℕ → LayoutOwn = λ l a n. record { look = l; scroll = a; count = n } in (
        λ i x is.
            let parts = and_parts s (eqb c d) (sym is_r ∙ i) in
            let looks : for_layout (look_of e.update.widget) ≡ for_layout (look_of o.widget) =
            sym (ap (λ y. for_layout (look_of y)) is_new) ∙ (is_s.0 parts.0 ∙ ap (λ y. for_layout (look_of y)) is_old) in
            let counts : count_of e.update.widget ≡ count_of o.widget = sym new_count ∙ (eqb-true c d parts.1 ∙ old_count) in
            let here : layout_own (redrawn e.update o) ≡ layout_own o = ap (λ y. make y o.scroll (count_of e.update.widget)) looks ∙ ap (λ y. make (for_layout (look_of o.widget)) o.scroll y) counts in
            let same : o ≡ x = same_Some (sym at ∙ is) in
            ap (λ y. layout_own (redrawn e.update y)) (sym same) ∙ (here ∙ ap layout_own same),
        λ k.
            let whole = k o at in
            is_r
            ∙ and_from s (eqb c d)
            (is_s.1 (ap (λ y. for_layout (look_of y)) is_new ∙ (ap (λ y. y.look) whole ∙ sym (ap (λ y. for_layout (look_of y)) is_old))))
            (eq-eqb c d (new_count ∙ (ap (λ y. y.count) whole ∙ sym old_count))),
      )

  abbrev new_look : Look
  new_look = look_of e.update.widget

  abbrev old_look : Look
  old_look = look_of o.widget

  abbrev views_same : Bool
  views_same = beq (is_viewport (look_in new.kind)) (is_viewport (look_in old.kind))

  abbrev hidings_same : Bool
  hidings_same = beq (is_offstage (look_in new.kind)) (is_offstage (look_in old.kind))

  windows_new : is_viewport (look_in new.kind) ≡ is_viewport new_look
  windows_new = ap (λ w. is_viewport (look_of w)) is_new

  windows_old : is_viewport (look_in old.kind) ≡ is_viewport old_look
  windows_old = ap (λ w. is_viewport (look_of w)) is_old

  hides_new : is_offstage (look_in new.kind) ≡ is_offstage new_look
  hides_new = ap (λ w. is_offstage (look_of w)) is_new

  hides_old : is_offstage (look_in old.kind) ≡ is_offstage old_look
  hides_old = ap (λ w. is_offstage (look_of w)) is_old

  abbrev make : Bool → ParentData → Bool → Bool → LayoutTold
  make say d v h = record { parent_data = d; is_viewport = say && v; is_offstage = say && h }

  abbrev say : Bool
  say = has_say (hides_at t e.parent) (bounds_in o.frame)

  abbrev SameTold : Type 0
  SameTold = layout_told (hides_at t e.parent) (redrawn e.update o) ≡ layout_told (hides_at t e.parent) o

  -- whether it has a say, by what the code tests
  says : (x y : Bool) → x ≡ (hides_at t e.parent || y) → y ≡ are_tight (bounds_in o.frame) → has_say (hides_at t e.parent) (bounds_in o.frame) ≡ not x
  says x y is_x is_y = ap (λ b. not (hides_at t e.parent || b)) (sym is_y) ∙ ap not (sym is_x)

  told_same : (x q : Bool) → has_say (hides_at t e.parent) (bounds_in o.frame) ≡ not x → q ≡ (x || (beq (is_viewport (look_in new.kind)) (is_viewport (look_in old.kind)) && beq (is_offstage (look_in new.kind)) (is_offstage (look_in old.kind))))
      → e.update.parent_data ≡ o.parent_data → q ≡ true → SameTold
  told_same true q said is_q data_same is =
      ap (λ b. make b e.update.parent_data (is_viewport new_look) (is_offstage new_look)) said
      ∙ (ap (λ d. make false d false false) data_same ∙ sym (ap (λ b. make b o.parent_data (is_viewport old_look) (is_offstage old_look)) said))
  told_same false q said is_q data_same is =
      let two = and_parts views_same hidings_same (sym is_q ∙ is) in
      ap (λ d. make say d (is_viewport new_look) (is_offstage new_look)) data_same
      ∙ (ap (λ v. make say o.parent_data v (is_offstage new_look)) (sym windows_new ∙ (beq-true (is_viewport (look_in new.kind)) (is_viewport (look_in old.kind)) two.0 ∙ windows_old))
      ∙ ap (λ h. make say o.parent_data (is_viewport old_look) h) (sym hides_new ∙ (beq-true (is_offstage (look_in new.kind)) (is_offstage (look_in old.kind)) two.1 ∙ hides_old)))

  sized_same : (x q : Bool) → has_say (hides_at t e.parent) (bounds_in o.frame) ≡ not x → q ≡ (x || (beq (is_viewport (look_in new.kind)) (is_viewport (look_in old.kind)) && beq (is_offstage (look_in new.kind)) (is_offstage (look_in old.kind))))
      → SameTold → q ≡ true
  sized_same true q said is_q whole = is_q
  sized_same false q said is_q whole =
      let views : is_viewport new_look ≡ is_viewport old_look =
      ap (λ b. b && is_viewport new_look) (sym said) ∙ (ap (λ (w : LayoutTold). w.is_viewport) whole ∙ ap (λ b. b && is_viewport old_look) said) in
      let hidings : is_offstage new_look ≡ is_offstage old_look =
      ap (λ b. b && is_offstage new_look) (sym said) ∙ (ap (λ (w : LayoutTold). w.is_offstage) whole ∙ ap (λ b. b && is_offstage old_look) said) in
      is_q
      ∙ and_from views_same hidings_same
      (ap (λ w. beq (is_viewport (look_in new.kind)) w) (sym (windows_new ∙ (views ∙ sym windows_old))) ∙ beq-same (is_viewport (look_in new.kind)))
      (ap (λ w. beq (is_offstage (look_in new.kind)) w) (sym (hides_new ∙ (hidings ∙ sym hides_old))) ∙ beq-same (is_offstage (look_in new.kind)))

  pub told_keeps : (r s q x y : Bool) (new_data old_data : ParentData) → r ≡ (s && q)
      → q ≡ (x || (beq (is_viewport (look_in new.kind)) (is_viewport (look_in old.kind)) && beq (is_offstage (look_in new.kind)) (is_offstage (look_in old.kind))))
      → x ≡ (hides_at t e.parent || y) → y ≡ are_tight (bounds_in o.frame) → IsTrue s ↔ (new_data ≡ old_data) → new_data ≡ e.update.parent_data → old_data ≡ o.parent_data → IsTrue r ↔ KeepsTold t e
  told_keeps r s q x y new_data old_data is_r is_q is_x is_y is_s is_n is_o =
      let said = says x y is_x is_y in (
        λ i z is.
            let parts = and_parts s q (sym is_r ∙ i) in
            let same : o ≡ z = same_Some (sym at ∙ is) in
            ap (λ w. layout_told (hides_at t e.parent) (redrawn e.update w)) (sym same)
            ∙ (told_same x q said is_q (sym is_n ∙ (is_s.0 parts.0 ∙ is_o)) parts.1 ∙ ap (layout_told (hides_at t e.parent)) same),
        λ k. is_r ∙ and_from s q (is_s.1 (is_n ∙ (ap (λ (w : LayoutTold). w.parent_data) (k o at) ∙ sym is_o))) (sized_same x q said is_q (k o at)),
      )
