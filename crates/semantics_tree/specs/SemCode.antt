-- Semantics nodes as trees of numbers, by which a proof tells them apart.
use Rattle.std.specs.Prelude.{◌≡◌, List}
use Rattle.std.proofs.Common.{ap, refl, sym, subst}
use base.Stored.{Gv, gnil, gcons, Coded, coded_ℕ, coded_bool, coded_list}
use Rattle.fx_geom.specs.contracts.shapes.Rect as rect
use Rattle.fx_geom.specs.declared.shapes.Rect.{Rect}
use Rattle.fx_expr.specs.ExpCode.{first_part, other_parts, IsPair}
use Rattle.widget_model.specs.LookCode.{coded_numbers, coded_text}
use Rattle.screen_form.specs.Sem.{Sem, sem, Sems, no_sems, more_sems}

abbrev pub coded_rect : Coded Rect
coded_rect = (rect.the_row).coded

abbrev mutual
  pub sem_code : Sem → Gv
  sem_code (sem n r l b t h ss) =
      gcons (coded_ℕ.code n) (gcons (coded_rect.code r) (gcons (coded_text.code l) (gcons (coded_bool.code b) (gcons (coded_numbers.code t) (gcons (coded_numbers.code h) (sems_code ss))))))

  pub sems_code : Sems → Gv
  sems_code no_sems = gnil
  sems_code (more_sems s ss) = gcons (sem_code s) (sems_code ss)

-- what follows the first parts of a list
abbrev pub after_two : Gv → Gv
after_two g = other_parts (other_parts g)

abbrev pub after_four : Gv → Gv
after_four g = after_two (after_two g)

mutual
  pub sem_inj : (a b : Sem) → sem_code a ≡ sem_code b → a ≡ b
  sem_inj (sem n r l b t h ss) (sem m q k c u i qs) p = λ at.
      sem (coded_ℕ.inj n m (ap first_part p) at)
      (coded_rect.inj r q (ap (λ g. first_part (other_parts g)) p) at)
      (coded_text.inj l k (ap (λ g. first_part (after_two g)) p) at)
      (coded_bool.inj b c (ap (λ g. first_part (other_parts (after_two g))) p) at)
      (coded_numbers.inj t u (ap (λ g. first_part (after_four g)) p) at)
      (coded_numbers.inj h i (ap (λ g. first_part (other_parts (after_four g))) p) at)
      (sems_inj ss qs (ap (λ g. after_two (after_four g)) p) at)

  pub sems_inj : (a b : Sems) → sems_code a ≡ sems_code b → a ≡ b
  sems_inj no_sems no_sems p = refl
  sems_inj (more_sems s ss) (more_sems q qs) p = λ at. more_sems (sem_inj s q (ap first_part p) at) (sems_inj ss qs (ap other_parts p) at)
  sems_inj no_sems (more_sems q qs) p = absurd (subst IsPair (sym p) tt)
  sems_inj (more_sems s ss) no_sems p = absurd (subst IsPair p tt)

abbrev pub coded_sems : Coded (List Sem)
coded_sems = coded_list (record { code = sem_code; inj = sem_inj })
