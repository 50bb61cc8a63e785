use Rattle.std.proofs.Common.{◌≡◌, Bool, true, not, length, map, refl, sym, ap, ◌∙◌, arith}
use denote.Enum.Bare.{sameb}
use Rattle.fx_expr.specs.contracts.values.Ty.{the_type}
use Rattle.fx_expr.specs.declared.values.Ty.{Ty}
use Rattle.fx_expr.specs.declared.values.Ty.TheVariants as ty
use Rattle.fx_expr.specs.Value.{type_of}
use Rattle.element_tree.proofs.Fielding.{same_types, type_there}
use Rattle.element_tree.proofs.element.Element.fits.Goals as goal

same_itself : (t : Ty) → sameb the_type t t ≡ true
same_itself ty.Int = refl
same_itself ty.Bool = refl
same_itself ty.Text = refl
same_itself ty.Ints = refl
same_itself ty.Texts = refl

pub returns-then-ne : goal.returns-then-ne
returns-then-ne c = (
  λ e. absurd (cc),
  λ same. absurd (
      let many : length c.args.values.now ≡ length c.self.inside.fields.items = omega (arith, c.self.inside.fields.ok.0) in
      let types = same ∙ ap (λ e. map type_of e.fields) (sym c.self.view_is) in
      let equal : c.ty.result ≡ c.ty-in-loop-i.result =
      c.ty.ensures
      ∙ type_there c.args.values.now c.self.inside.fields.items c.loop-i.i c.index-values-i.result c.index.result.now c.loop-i-test.true many c.index-values-i.is c.index.ensures types
      ∙ sym c.ty-in-loop-i.ensures in
      let both : sameb the_type c.ty.result c.ty-in-loop-i.result ≡ true = ap (sameb the_type c.ty.result) (sym equal) ∙ same_itself c.ty.result in
      let wrong : not true ≡ true = ap not (sym both) ∙ sym c.ne.ensures ∙ c.if-ne.true in
      cc),
)

pub returns : goal.returns
returns c =
    let many : length c.args.values.now ≡ length c.self.inside.fields.items = omega (arith, c.self.inside.fields.ok.0) in (
      λ _. same_types c.args.values.now c.args.self.now.fields (many ∙ ap (λ e. length e.fields) c.self.view_is) (λ k lt. c.loop-i.invariant k (omega arith)),
      λ _. refl,
    )
