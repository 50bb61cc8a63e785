use Rattle.std.proofs.Common.{◌≡◌, ap, sym, ◌∙◌, subst, ℕ, List, Option}
use Rattle.fx_geom.specs.declared.scales.Scale.{Scale}
use Rattle.fx_handles.specs.declared.Handle.{Handle}
use Rattle.delegates.specs.Table.{meant_in}
use Rattle.node_tree.specs.Tree.{children_at}
use Rattle.widget_model.specs.Look.{Look}
use Rattle.widget_model.specs.View.{look_in}
use Rattle.plain_tree.specs.declared.laid.Frame.{Frame}
use Rattle.plain_tree.specs.Render.{Render}
use Rattle.layout_form.specs.Framed.{last_asks}
use Rattle.layout_form.specs.Object.{setting_of}
use Rattle.kind_rules.specs.Asked.{found_of, ruling_for}
use Rattle.kind_rules.specs.Cursor.{look_of, count_in}
use Rattle.kind_rules.specs.Few.{items_of}
use Rattle.render_tree.specs.Tree.{RenderTree}
use Rattle.layout_rules.specs.Ending.{CanMake}
use Rattle.layout_rules.specs.Places.{render_at}
use Rattle.layout_rules.specs.Reads.{frames_at}
use Rattle.layout_rules.proofs.Filling.{if_ok}
use Rattle.layout_rules.proofs.made.made_of_lists.Goals as goal

pub make-requires-clause-fits : goal.make-requires-clause-fits
make-requires-clause-fits g c =
    let t = c.args.r.now.tree in
    let at = ap (λ (r : RenderTree). render_at r.tree c.new-cursor.result.at) c.new-cursor.ensures.tree ∙ ap (λ (k : Handle). render_at t k) c.new-cursor.ensures.at in
    let looks : look_in c.kind.result.now ≡ look_of (render_at t c.args.h) = c.kind.ensures ∙ ap (λ (r : Render). look_of r) at in
    let found = found_of c.args.found in
    let can : CanMake (look_in c.kind.result.now) c.args.ask c.args.told.now found c.as_slice.result.now =
    subst (λ (fs : List (Option Frame)). CanMake (look_in c.kind.result.now) c.args.ask c.args.told.now found fs) (sym (c.as_slice.ensures ∙ c.in_ok-answers.ensures))
    (subst (λ (l : Look). CanMake l c.args.ask c.args.told.now found (frames_at t (last_asks (items_of c.args.before.now) (items_of c.args.rest.now)) (children_at t c.args.h))) (sym looks) c.requires.can) in
    can.fits

pub make-requires-clause-sizes : goal.make-requires-clause-sizes
make-requires-clause-sizes g c =
    let t = c.args.r.now.tree in
    let at = ap (λ (r : RenderTree). render_at r.tree c.new-cursor.result.at) c.new-cursor.ensures.tree ∙ ap (λ (k : Handle). render_at t k) c.new-cursor.ensures.at in
    let looks : look_in c.kind.result.now ≡ look_of (render_at t c.args.h) = c.kind.ensures ∙ ap (λ (r : Render). look_of r) at in
    let found = found_of c.args.found in
    let can : CanMake (look_in c.kind.result.now) c.args.ask c.args.told.now found c.as_slice.result.now =
    subst (λ (fs : List (Option Frame)). CanMake (look_in c.kind.result.now) c.args.ask c.args.told.now found fs) (sym (c.as_slice.ensures ∙ c.in_ok-answers.ensures))
    (subst (λ (l : Look). CanMake l c.args.ask c.args.told.now found (frames_at t (last_asks (items_of c.args.before.now) (items_of c.args.rest.now)) (children_at t c.args.h))) (sym looks) c.requires.can) in
    can.sizes

pub make-requires-clause-stack : goal.make-requires-clause-stack
make-requires-clause-stack g c =
    let t = c.args.r.now.tree in
    let at = ap (λ (r : RenderTree). render_at r.tree c.new-cursor.result.at) c.new-cursor.ensures.tree ∙ ap (λ (k : Handle). render_at t k) c.new-cursor.ensures.at in
    let looks : look_in c.kind.result.now ≡ look_of (render_at t c.args.h) = c.kind.ensures ∙ ap (λ (r : Render). look_of r) at in
    let found = found_of c.args.found in
    let can : CanMake (look_in c.kind.result.now) c.args.ask c.args.told.now found c.as_slice.result.now =
    subst (λ (fs : List (Option Frame)). CanMake (look_in c.kind.result.now) c.args.ask c.args.told.now found fs) (sym (c.as_slice.ensures ∙ c.in_ok-answers.ensures))
    (subst (λ (l : Look). CanMake l c.args.ask c.args.told.now found (frames_at t (last_asks (items_of c.args.before.now) (items_of c.args.rest.now)) (children_at t c.args.h))) (sym looks) c.requires.can) in
    can.stack

pub make-requires-clause-offset : goal.make-requires-clause-offset
make-requires-clause-offset g c =
    let t = c.args.r.now.tree in
    let at = ap (λ (r : RenderTree). render_at r.tree c.new-cursor.result.at) c.new-cursor.ensures.tree ∙ ap (λ (k : Handle). render_at t k) c.new-cursor.ensures.at in
    let looks : look_in c.kind.result.now ≡ look_of (render_at t c.args.h) = c.kind.ensures ∙ ap (λ (r : Render). look_of r) at in
    let found = found_of c.args.found in
    let can : CanMake (look_in c.kind.result.now) c.args.ask c.args.told.now found c.as_slice.result.now =
    subst (λ (fs : List (Option Frame)). CanMake (look_in c.kind.result.now) c.args.ask c.args.told.now found fs) (sym (c.as_slice.ensures ∙ c.in_ok-answers.ensures))
    (subst (λ (l : Look). CanMake l c.args.ask c.args.told.now found (frames_at t (last_asks (items_of c.args.before.now) (items_of c.args.rest.now)) (children_at t c.args.h))) (sym looks) c.requires.can) in
    can.offset

pub make-requires-clause-walk : goal.make-requires-clause-walk
make-requires-clause-walk g c =
    let t = c.args.r.now.tree in
    let at = ap (λ (r : RenderTree). render_at r.tree c.new-cursor.result.at) c.new-cursor.ensures.tree ∙ ap (λ (k : Handle). render_at t k) c.new-cursor.ensures.at in
    let looks : look_in c.kind.result.now ≡ look_of (render_at t c.args.h) = c.kind.ensures ∙ ap (λ (r : Render). look_of r) at in
    let found = found_of c.args.found in
    let can : CanMake (look_in c.kind.result.now) c.args.ask c.args.told.now found c.as_slice.result.now =
    subst (λ (fs : List (Option Frame)). CanMake (look_in c.kind.result.now) c.args.ask c.args.told.now found fs) (sym (c.as_slice.ensures ∙ c.in_ok-answers.ensures))
    (subst (λ (l : Look). CanMake l c.args.ask c.args.told.now found (frames_at t (last_asks (items_of c.args.before.now) (items_of c.args.rest.now)) (children_at t c.args.h))) (sym looks) c.requires.can) in
    can.walk

pub returns : goal.returns
returns g c =
    let t = c.args.r.now.tree in
    let h = c.args.h in
    let m = meant_in c.args.table.now (λ v. (g.dyn-1.0.entry v).1) in
    let s = setting_of c.args.r.now.scale m in
    let at = ap (λ (r : RenderTree). render_at r.tree c.new-cursor.result.at) c.new-cursor.ensures.tree ∙ ap (λ (k : Handle). render_at t k) c.new-cursor.ensures.at in
    let looks : look_in c.kind.result.now ≡ look_of (render_at t h) = c.kind.ensures ∙ ap (λ (r : Render). look_of r) at in
    let counts : c.count.result ≡ count_in (render_at t h) = c.count.ensures ∙ ap (λ (r : Render). count_in r) at in
    let found = found_of c.args.found in
    if_ok c.make.result _ _ (λ made is.
    is
    ∙ ap (λ (x : Scale). ruling_for (setting_of x m) (look_in c.kind.result.now) c.count.result c.args.ask found c.args.told.now c.as_slice.result.now) c.scale.ensures
    ∙ ap (λ (l : Look). ruling_for s l c.count.result c.args.ask found c.args.told.now c.as_slice.result.now) looks
    ∙ ap (λ (n : ℕ). ruling_for s (look_of (render_at t h)) n c.args.ask found c.args.told.now c.as_slice.result.now) counts
    ∙ ap (λ (fs : List (Option Frame)). ruling_for s (look_of (render_at t h)) (count_in (render_at t h)) c.args.ask found c.args.told.now fs) (c.as_slice.ensures ∙ c.in_ok-answers.ensures)) c.make.ensures
