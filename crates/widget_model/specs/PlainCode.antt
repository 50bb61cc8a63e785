-- Widgets as trees of numbers, by which a proof tells them apart.
use Rattle.std.specs.Prelude.{◌≡◌, List}
use Rattle.std.proofs.Common.{ap, refl, sym, subst}
use base.Stored.{Gv, gnil, gcons, Coded, coded_list}
use Rattle.fx_expr.specs.declared.values.Value.{Value}
use Rattle.fx_expr.specs.contracts.values.Value as value
use Rattle.fx_expr.specs.ExpCode.{first_part, other_parts, IsPair}
use Rattle.widget_keys.specs.declared.keys.Key.{Key}
use Rattle.widget_keys.specs.contracts.keys.Key as key
use Rattle.widget_model.specs.Plain.{PlainWidget, plain, Widgets, no_widgets, more}
use Rattle.widget_model.specs.LookCode.{look_code, look_inj}

abbrev pub coded_key : Coded (Key Value)
coded_key = (key.the_row value.the_row).coded

abbrev mutual
  pub widget_code : PlainWidget → Gv
  widget_code (plain l k ss cs) = gcons (look_code l) (gcons (coded_key.code k) (gcons (widgets_code ss) (widgets_code cs)))

  pub widgets_code : Widgets → Gv
  widgets_code no_widgets = gnil
  widgets_code (more w ws) = gcons (widget_code w) (widgets_code ws)

mutual
  pub widget_inj : (a b : PlainWidget) → widget_code a ≡ widget_code b → a ≡ b
  widget_inj (plain l k ss cs) (plain m j ts ds) p = λ at.
      plain (look_inj l m (ap first_part p) at)
      (coded_key.inj k j (ap (λ g. first_part (other_parts g)) p) at)
      (widgets_inj ss ts (ap (λ g. first_part (other_parts (other_parts g))) p) at)
      (widgets_inj cs ds (ap (λ g. other_parts (other_parts (other_parts g))) p) at)

  pub widgets_inj : (vs ws : Widgets) → widgets_code vs ≡ widgets_code ws → vs ≡ ws
  widgets_inj no_widgets no_widgets p = refl
  widgets_inj (more v vs) (more w ws) p = λ at. more (widget_inj v w (ap first_part p) at) (widgets_inj vs ws (ap other_parts p) at)
  widgets_inj no_widgets (more w ws) p = absurd (subst IsPair (sym p) tt)
  widgets_inj (more v vs) no_widgets p = absurd (subst IsPair p tt)

-- the widgets of a list
abbrev pub coded_widgets : Coded (List PlainWidget)
coded_widgets = coded_list (record { code = widget_code; inj = widget_inj })
