-- Render nodes as trees of numbers, by which a proof tells them apart.
use Rattle.std.specs.Prelude.{◌≡◌}
use Rattle.std.proofs.Common.{ap, refl, sym, subst}
use base.Stored.{Gv, gnil, gcons, Coded, coded_ℕ}
use Rattle.fx_expr.specs.ExpCode.{first_part, other_parts, IsPair}
use Rattle.widget_model.specs.LookCode.{look_code, look_inj}
use Rattle.plain_tree.specs.contracts.render.ParentData as parent_data
use Rattle.plain_tree.specs.declared.render.ParentData.{ParentData}
use Rattle.plain_tree.specs.Render.{Render, render, Renders, no_renders, more_renders}

abbrev pub coded_parent_data : Coded ParentData
coded_parent_data = (parent_data.the_row).coded

abbrev mutual
  pub render_code : Render → Gv
  render_code (render n l d s c rs) =
      gcons (coded_ℕ.code n) (gcons (look_code l) (gcons (coded_parent_data.code d) (gcons (coded_ℕ.code s) (gcons (coded_ℕ.code c) (renders_code rs)))))

  pub renders_code : Renders → Gv
  renders_code no_renders = gnil
  renders_code (more_renders r rs) = gcons (render_code r) (renders_code rs)

mutual
  pub render_inj : (a b : Render) → render_code a ≡ render_code b → a ≡ b
  render_inj (render n l d s c rs) (render m k e t b qs) p = λ at.
      render (coded_ℕ.inj n m (ap first_part p) at)
      (look_inj l k (ap (λ g. first_part (other_parts g)) p) at)
      (coded_parent_data.inj d e (ap (λ g. first_part (other_parts (other_parts g))) p) at)
      (coded_ℕ.inj s t (ap (λ g. first_part (other_parts (other_parts (other_parts g)))) p) at)
      (coded_ℕ.inj c b (ap (λ g. first_part (other_parts (other_parts (other_parts (other_parts g))))) p) at)
      (renders_inj rs qs (ap (λ g. other_parts (other_parts (other_parts (other_parts (other_parts g))))) p) at)

  pub renders_inj : (a b : Renders) → renders_code a ≡ renders_code b → a ≡ b
  renders_inj no_renders no_renders p = refl
  renders_inj (more_renders r rs) (more_renders q qs) p = λ at. more_renders (render_inj r q (ap first_part p) at) (renders_inj rs qs (ap other_parts p) at)
  renders_inj no_renders (more_renders q qs) p = absurd (subst IsPair (sym p) tt)
  renders_inj (more_renders r rs) no_renders p = absurd (subst IsPair p tt)

abbrev pub coded_render : Coded Render
coded_render = record { code = render_code; inj = render_inj }
