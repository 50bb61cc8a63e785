use Rattle.std.proofs.Common.{ap, sym, ◌∙◌, ℕ, Some, None, get_or}
use Rattle.fx_geom.specs.declared.shapes.Axis.{Axis}
use Rattle.fx_geom.specs.declared.shapes.Size.{Size}
use Rattle.fx_geom.specs.Insets.{extent_of}
use Rattle.kind_rules.specs.Few.{items_of}
use Rattle.layout_form.specs.SliverRule.{view_size}
use Rattle.layout_rules.specs.declared.duties.Course.{Course}
use Rattle.layout_rules.specs.declared.duties.Duty.TheVariants.{Measure}
use Rattle.layout_rules.specs.Courses.{cross_of, first_duties}
use Rattle.layout_rules.proofs.Filling.{map_at}
use Rattle.layout_rules.proofs.stepping.first_duty.Goals as goal

pub returns-in-View : goal.returns-in-View
returns-in-View c = λ kids less.
    ap (λ (n : ℕ). Some (Measure c.in-View.axis n))
    (c.extent.ensures ∙ ap (λ (z : Size). extent_of z c.other.result) c.view_size.ensures.value ∙ ap (λ (a : Axis). extent_of (view_size c.in-View.b) a) c.other.ensures)
    ∙ sym (map_at (Some (Measure c.in-View.axis (cross_of c.in-View.axis c.in-View.b))) None kids c.args.i less)
    ∙ ap (λ (x : Course). get_or (first_duties x (items_of c.args.first.now) kids) c.args.i None) (sym c.in-View.is)
