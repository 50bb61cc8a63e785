-- What a component keeps of what its body gave, by what its old element tells.
use Rattle.std.proofs.Common.{◌≡◌, ℕ, Bool, true, false, not, ◌&&◌, cond, Option, Some, None, IfSome, List, refl, sym, ap, ◌∙◌, subst}
use Rattle.std.specs.Option.{option_to_list}
use Rattle.fx_expr.specs.declared.values.Value.{Value}
use Rattle.build_form.specs.BuildRole.{composes, build_role_of}
use Rattle.widget_model.specs.Look.{Look, component}
use Rattle.widget_model.specs.Plain.{PlainWidget, look_of, widgets_of}
use Rattle.widget_model.specs.Typed.{Declarations, IsTypedWidget, AreTypedWidgets}
use Rattle.plain_tree.specs.PlainNode.{PlainNode}
use Rattle.work_sets.specs.Due.{names_read}
use Rattle.build_walk.specs.Past.{Past, Pasts}
use Rattle.build_walk.specs.Keeping.{is_unchanged, kept_since, past_for, kept_output}

module _ (pasts : Pasts) (partner : Option PlainNode) (w : PlainWidget) (values : List Value) where
  pub reads_none : names_read (look_of w) ≡ None → kept_output pasts partner w values ≡ None
  reads_none e = ap (λ o. kept_since o (past_for pasts partner) w values) e

  by_names : (o : Option (List ℕ)) → kept_since o None w values ≡ None
  by_names None = refl
  by_names (Some names) = refl

  pub none_known : past_for pasts partner ≡ None → kept_output pasts partner w values ≡ None
  none_known e = ap (λ p. kept_since (names_read (look_of w)) p w values) e ∙ by_names (names_read (look_of w))

  module _ (names : List ℕ) (p : Past) (read : names_read (look_of w) ≡ Some names) (known : past_for pasts partner ≡ Some p) where
    is_kept : kept_output pasts partner w values ≡ cond (is_unchanged names p w values) (Some p.output) None
    is_kept = λ i. kept_since (read i) (known i) w values

    pub kept_so : (b : Bool) → b ≡ true → b ≡ is_unchanged names p w values → kept_output pasts partner w values ≡ Some p.output
    kept_so b holds same = is_kept ∙ ap (λ c. cond c (Some p.output) None) (sym same ∙ holds)

    pub not_kept : (b : Bool) → b ≡ false → b ≡ is_unchanged names p w values → kept_output pasts partner w values ≡ None
    not_kept b fails same = is_kept ∙ ap (λ c. cond c (Some p.output) None) (sym same ∙ fails)

-- an old component that is unchanged has no flag
pub clean_so : (dirty rest : Bool) → (not dirty && rest) ≡ true → dirty ≡ false
clean_so true rest e = cc
clean_so false rest e = refl

-- and has the widget that it had
pub widget_so : (dirty same reads : Bool) → (not dirty && (same && reads)) ≡ true → same ≡ true
widget_so true same reads e = cc
widget_so false true reads e = refl
widget_so false false reads e = cc

-- where a name has another value it isn't unchanged, whatever widget it has
pub not_alike : (dirty same reads : Bool) → reads ≡ false → false ≡ (not dirty && (same && reads))
not_alike true same reads e = refl
not_alike false true reads e = sym e
not_alike false false reads e = refl

-- only components read names
pub reads_composes : (l : Look) (names : List ℕ) → names_read l ≡ Some names → (place : ℕ) × (props : List Value) × (build_role_of l ≡ composes place props)
reads_composes (component place props d) names e = (place, props, refl)
reads_composes l names e = cc

-- what it stores is typed, and so are the widgets that are kept
pub typed_so : (d : Declarations) (o : Option PlainWidget) (ws : List PlainWidget) → ws ≡ option_to_list o → IfSome o (IsTypedWidget d) → AreTypedWidgets d (widgets_of ws)
typed_so d None ws is typed = subst (λ vs. AreTypedWidgets d (widgets_of vs)) (sym is) tt
typed_so d (Some w) ws is typed = subst (λ vs. AreTypedWidgets d (widgets_of vs)) (sym is) (typed, tt)
