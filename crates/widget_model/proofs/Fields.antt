-- The derived `==` of fields is equality.
use Rattle.std.proofs.Common.{◌≡◌, ℕ, Bool, true, false, ◌&&◌, ◌==◌, List, Decides, refl, ap}
use Rattle.std.specs.Cmp.{unsigned_Decides}
use Rattle.std.specs.Cmp.Lexicographic.{pointwise, pointwise_decides}
use Rattle.fx_expr.specs.contracts.values.TyPartialEq.TheImpl.{ghosts}
use Rattle.fx_expr.specs.declared.values.Ty.{Ty}
use Rattle.fx_expr.specs.declared.values.Ty.TheVariants as ty

ty_decides : (s t : Ty) → Decides ((ghosts).eq s t) (s ≡ t)
ty_decides ty.Int ty.Int = (λ e. refl, λ e. refl)
ty_decides ty.Bool ty.Bool = (λ e. refl, λ e. refl)
ty_decides ty.Text ty.Text = (λ e. refl, λ e. refl)
ty_decides ty.Ints ty.Ints = (λ e. refl, λ e. refl)
ty_decides ty.Texts ty.Texts = (λ e. refl, λ e. refl)
ty_decides _ _ = (λ e. cc, λ e. cc)

both_hold : (x y : Bool) → x && y ≡ true → (x ≡ true) × (y ≡ true)
both_hold true y h = (refl, h)
both_hold false y h = cc

hold_both : (x y : Bool) → x ≡ true → y ≡ true → x && y ≡ true
hold_both true y h k = k
hold_both false y h k = cc

abbrev pub field_eq : List ℕ × Ty → List ℕ × Ty → Bool
field_eq f g = pointwise ◌==◌ f.0 g.0 && (ghosts).eq f.1 g.1

field_decides : (f g : List ℕ × Ty) → Decides (field_eq f g) (f ≡ g)
field_decides f g =
    let name = pointwise_decides unsigned_Decides f.0 g.0 in
    let type = ty_decides f.1 g.1 in (
      λ h. let both = both_hold (pointwise ◌==◌ f.0 g.0) ((ghosts).eq f.1 g.1) h in
          let p = name.0 both.0 in
          let q = type.0 both.1 in
          λ i. (p i, q i),
      λ e. hold_both (pointwise ◌==◌ f.0 g.0) ((ghosts).eq f.1 g.1) (name.1 (ap (λ (t : List ℕ × Ty). t.0) e)) (type.1 (ap (λ (t : List ℕ × Ty). t.1) e)),
    )

pub fields_decide : (fs gs : List (List ℕ × Ty)) → Decides (pointwise field_eq fs gs) (fs ≡ gs)
fields_decide fs gs = pointwise_decides field_decides fs gs
