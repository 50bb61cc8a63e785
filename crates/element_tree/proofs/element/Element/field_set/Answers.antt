use Rattle.std.proofs.Common.{◌≡◌, ℕ, List, map, Some, None, sym, ap, ◌∙◌}
use Rattle.fx_expr.specs.declared.values.Ty.{Ty}
use Rattle.widget_model.specs.View.{look_in}
use Rattle.widget_model.specs.Plain.{look_of}
use Rattle.element_tree.specs.Fields.{declared, fitted, with_declared, with_fitted}
use Rattle.element_tree.proofs.Fielding.{with_declared-found, fitted_type, none_from, still_declared}
use Rattle.element_tree.proofs.element.Element.field_set.Goals as goal

pub returns-in_default-fit-clause-err : goal.returns-in_default-fit-clause-err
returns-in_default-fit-clause-err c =
    let fields : c.declared-fields.result.now ≡ declared (look_of c.args.self.now.widget) = c.declared-fields.ensures ∙ ap (λ w. declared (look_in w.kind)) c.deref.ensures ∙ ap (λ e. declared (look_of e.widget)) c.self.view_is in
    let nothing : fitted c.index-fields-place.result.1 c.args.value ≡ None = ap (λ (d : List ℕ × Ty). fitted d.1 c.args.value) c.index-fields-place.is ∙ sym c.fit.ensures ∙ none_from c.fit.result c.in_default-fit.not-Some in
    ap (λ ds. with_declared c.args.self.now ds c.args.name.now c.args.value) (sym fields)
    ∙ with_declared-found c.args.self.now c.declared-fields.result.now c.args.name.now c.args.value c.in-Some.place c.index-fields-place.result c.in-Some.ensures.within c.index-fields-place.is c.in-Some.ensures.first
    ∙ ap (with_fitted c.args.self.now c.in-Some.place) nothing

pub returns-clause-ok : goal.returns-clause-ok
returns-clause-ok c =
    let fields : c.declared-fields.result.now ≡ declared (look_of c.args.self.now.widget) = c.declared-fields.ensures ∙ ap (λ w. declared (look_in w.kind)) c.deref.ensures ∙ ap (λ e. declared (look_of e.widget)) c.self.view_is in
    let fits : fitted c.index-fields-place.result.1 c.args.value ≡ Some c.in-Some-fit.value = ap (λ (d : List ℕ × Ty). fitted d.1 c.args.value) c.index-fields-place.is ∙ sym c.fit.ensures ∙ c.in-Some-fit.is in
    let both = still_declared c.declared-fields.result.now c.args.self.now.fields c.in-Some.place c.index-fields-place.result c.in-Some-fit.value
    (c.requires ∙ ap (map (λ (x : List ℕ × Ty). x.1)) (sym fields)) c.in-Some.ensures.within c.index-fields-place.is (fitted_type c.index-fields-place.result.1 c.args.value c.in-Some-fit.value fits) in (
      ap (λ ds. with_declared c.args.self.now ds c.args.name.now c.args.value) (sym fields)
          ∙ with_declared-found c.args.self.now c.declared-fields.result.now c.args.name.now c.args.value c.in-Some.place c.index-fields-place.result c.in-Some.ensures.within c.index-fields-place.is c.in-Some.ensures.first
          ∙ ap (with_fitted c.args.self.now c.in-Some.place) fits,
      both.0,
      both.1 ∙ ap (map (λ (x : List ℕ × Ty). x.1)) fields,
    )
