use Rattle.std.proofs.Common.{◌≡◌, ap, ◌∙◌, ℕ, List, Option}
use Rattle.fx_geom.specs.declared.shapes.Axis.{Axis}
use Rattle.fx_geom.specs.declared.shapes.Size.{Size}
use Rattle.fx_geom.specs.Insets.{extent_of, other_of}
use Rattle.plain_tree.specs.declared.laid.Frame.{Frame}
use Rattle.layout_form.specs.declared.asks.Ask.TheVariants.{AsBox}
use Rattle.layout_walk.specs.Measure.{extents_in}
use Rattle.layout_rules.specs.Courses.{cross_of}
use Rattle.layout_rules.specs.Ending.{measured_frames}
use Rattle.layout_rules.specs.Places.{render_at}
use Rattle.layout_rules.specs.Reads.{state_at, rest_by}
use Rattle.layout_rules.proofs.Filling.{if_ok}
use Rattle.layout_rules.proofs.asking.view_rest.Goals as goal

pub returns : goal.returns
returns c =
    let t = c.args.r.now.tree in
    let h = c.args.h in
    let axis = c.args.axis in
    let cross : c.extent-cross.result ≡ cross_of axis c.args.b =
    c.extent-cross.ensures ∙ ap (λ (x : Axis). extent_of c.view_size.result x) c.other.ensures ∙ ap (λ (x : Size). extent_of x (other_of axis)) c.view_size.ensures.value in
    if_ok c.rule_rest.result _ _ (λ asks is v kids seen.
    is ∙ ap (λ (fs : List (Option Frame)). rest_by (render_at t h) (state_at t h) (AsBox c.args.b) c.args.told.now fs)
    (c.as_slice.ensures.value ∙ c.in_ok-known.ensures v kids seen ∙ ap (λ (n : ℕ). measured_frames axis n (extents_in axis n kids)) cross)) c.rule_rest.ensures
