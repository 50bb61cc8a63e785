-- What is left of a list when one of its widgets is taken out, and what is in that one.
use Rattle.std.proofs.Common.{◌≡◌, ℕ, ◌+◌, ◌*◌, ◌<◌, ◌≤◌, List, [], ◌∷◌, length, map, get_or, refl, sym, ap, ◌∙◌, arith}
use Rattle.std.proofs.lemmas.List.Sums.{sum_by-swap_remove, sum_by-cons}
use Rattle.std.specs.List.{swap_remove, sum_by}
use Rattle.std.specs.declared.rc.Rc.{Rc}
use Rattle.std.specs.declared.alloc.Global.{Global}
use denote.Param.Weighed.{most}
use Rattle.widget_model.specs.declared.widgets.Widget.{Widget}
use Rattle.widget_model.specs.declared.widgets.WidgetList.TheShapes.{weighed-WidgetList-items-at-1}
use Rattle.widget_model.specs.declared.widgets.WidgetList.TheDeep.{size-Widget}
use Rattle.widget_model.specs.Plain.{PlainWidget}
use Rattle.widget_model.specs.Size.{count_of, count_in}
use Rattle.widget_model.specs.View.{plain_of, shared}
use Rattle.widget_model.specs.Lighter.{lighter_one}

abbrev counted : Rc Widget Global → ℕ
counted r = count_of (shared r)

counts_summed : (rs : List (Rc Widget Global)) → count_in (map shared rs) ≡ sum_by counted rs
counts_summed [] = refl
counts_summed (r ∷ rs) = ap (λ n. counted r + n) (counts_summed rs) ∙ sym (sum_by-cons counted r rs)

-- no widget of a list is heavier than the list
heaviest_light : (rs : List (Rc Widget Global))
    → most (λ x. (weighed-WidgetList-items-at-1).weight Widget size-Widget x) rs ≤ 3 * count_in (map shared rs) + 2
heaviest_light [] = omega arith
heaviest_light (r ∷ rs) = omega (arith, heaviest_light rs, lighter_one r)

module _ (rs : List (Rc Widget Global)) (place : ℕ) (taken : Rc Widget Global) (held : List PlainWidget)
    (within : place < length rs) (is : taken ≡ get_or rs place taken) (view : map shared rs ≡ held) where
  parted : count_in (map shared (swap_remove rs place taken)) + counted taken ≡ count_in held
  parted =
      let sums = sum_by-swap_remove counted rs place taken within in
      let rest = counts_summed (swap_remove rs place taken) in
      let all : sum_by counted rs ≡ count_in held = sym (counts_summed rs) ∙ ap count_in view in
      let out : counted (get_or rs place taken) ≡ counted taken = ap counted (sym is) in
      omega (arith, sums, rest, all, out)

  -- what is left weighs less than a list that is no lighter
  pub rest_below : (left : List (Rc Widget Global)) (bound size : ℕ) → left ≡ swap_remove rs place taken → count_in held ≤ bound → 3 * (bound + 1) + 0 ≡ size
      → most (λ x. (weighed-WidgetList-items-at-1).weight Widget size-Widget x) left < size
  rest_below left bound size is_left below is_size =
      omega (arith, heaviest_light left, ap (λ l. count_in (map shared l)) is_left, parted)

  -- what is in the one that was taken out is less than the list
  pub taken_below : (w : Widget) (below : List PlainWidget) → w ≡ taken.value → count_in below < count_of (plain_of w) → count_in below < count_in held
  taken_below w below is_w less = omega (arith, parted, ap (λ w. count_of (plain_of w)) is_w)
