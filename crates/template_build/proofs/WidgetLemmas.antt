-- The widget of a template, with those below it, and how many they are.
use Rattle.std.proofs.Common.{◌≡◌, ℕ, suc, ◌+◌, ◌-◌, ◌<◌, ◌≤◌, arith, true, List, [], ◌∷◌, ◌++◌, map, Option, ap, sym, subst, ◌∙◌}
use Rattle.std.proofs.lemmas.List.{map-append}
use Rattle.std.proofs.lemmas.List.Elements.{All-push}
use Rattle.std.specs.declared.rc.Rc.{Rc}
use Rattle.std.specs.declared.alloc.Global.{Global}
use Rattle.program_form.specs.declared.kinds.KindName.{KindName}
use Rattle.program_check.specs.declared.checked.Body.{Body}
use Rattle.program_check.specs.Body.{KeyExp, BodyMembers, members_in_body}
use Rattle.program_check.specs.BodyView.{plain_body, plain_body_key_member}
use Rattle.widget_model.specs.declared.widgets.Widget.{Widget}
use Rattle.widget_model.specs.PlainLaws.{counts_of-widgets_of}
use Rattle.widget_model.specs.Plain.{PlainWidget}
use Rattle.widget_model.specs.Size.{count_of, count_in}
use Rattle.widget_model.specs.Sized.{IsSized, AreSized}
use Rattle.widget_model.specs.View.{plain_of, shared}
use Rattle.template_build.specs.declared.roles.TemplateRole.{TemplateRole}
use Rattle.template_build.specs.declared.roles.TemplateRole.TheVariants as gives
use Rattle.template_build.specs.Scene.{Scene}
use Rattle.template_build.specs.TemplateRole.{template_role_of}
use Rattle.template_build.specs.Output.{output_of}
use Rattle.template_build.specs.Building.{IsAdded, part_output, holder_in, makes_widget, made_over}
use Rattle.template_build.proofs.OutputSteps.{widget-output}

made-count : (r : TemplateRole) (k : KindName) (key : Option KeyExp) (ms : BodyMembers) (s : Scene) (ws : List PlainWidget) → makes_widget r ≡ true
    → count_of (made_over r k key ms s ws) ≡ suc (count_in ws)
made-count gives.Widget k key ms s ws h = omega (arith, counts_of-widgets_of ws)
made-count gives.Component k key ms s ws h = omega (arith, counts_of-widgets_of ws)
made-count gives.Content k key ms s ws h = cc h
made-count gives.Choice k key ms s ws h = cc h
made-count gives.Loop k key ms s ws h = cc h

-- how many the output of a template is that makes a widget
widget-count : (b : Body) (s : Scene) → makes_widget (template_role_of b.w) ≡ true
    → count_in (output_of (plain_body b) s) ≡ suc (count_in (part_output (holder_in (members_in_body (plain_body b))) s))
widget-count b s h =
    let ms = members_in_body (plain_body b) in
    let ws = part_output (holder_in ms) s in
    let whole = ap count_in (widget-output b s h) in
    let count = made-count (template_role_of b.w) b.w (plain_body_key_member b.key) ms s ws h in
    omega (arith, whole, count)

pub widget_at_none : (b : Body) (s : Scene) (room : ℕ) → makes_widget (template_role_of b.w) ≡ true → room ≡ 0 → room < count_in (output_of (plain_body b) s)
widget_at_none b s room h none = omega (arith, none, widget-count b s h)

pub widget_no_room : (b : Body) (s : Scene) (room : ℕ) → makes_widget (template_role_of b.w) ≡ true
    → room - 1 < count_in (part_output (holder_in (members_in_body (plain_body b))) s) → room < count_in (output_of (plain_body b) s)
widget_no_room b s room h full = omega (arith, full, widget-count b s h)

-- a widget more on a list, which stands for this plain one
pub pushed : (old new : List (Rc Widget Global)) (r : Rc Widget Global) (w : Widget) (p : PlainWidget) → new ≡ old ++ r ∷ [] → r.value ≡ w → plain_of w ≡ p
    → map shared new ≡ map shared old ++ p ∷ []
pushed old new r w p is same made =
    ap (map shared) is ∙ map-append shared old (r ∷ []) ∙ ap (λ (v : Widget). map shared old ++ plain_of v ∷ []) same ∙ ap (λ q. map shared old ++ q ∷ []) made

pub pushed_sizes : (old new : List (Rc Widget Global)) (r : Rc Widget Global) (w : Widget) → new ≡ old ++ r ∷ [] → r.value ≡ w → AreSized old → IsSized w → AreSized new
pushed_sizes old new r w is same sized whole =
    subst AreSized (sym is) (All-push (λ (r : Rc Widget Global). IsSized r.value) old r sized (subst IsSized (sym same) whole))

pub widget_added : (b : Body) (s : Scene) (room size : ℕ) (old below new : List (Rc Widget Global)) → makes_widget (template_role_of b.w) ≡ true
    → 1 ≤ room → IsAdded (part_output (holder_in (members_in_body (plain_body b))) s) (room - 1) [] below size
    → map shared new ≡ map shared old ++ made_over (template_role_of b.w) b.w (plain_body_key_member b.key) (members_in_body (plain_body b)) s (map shared below) ∷ []
    → AreSized new
    → IsAdded (output_of (plain_body b) s) room old new (size + 1)
widget_added b s room size old below new h some added widgets sized =
    let ms = members_in_body (plain_body b) in
    let output : output_of (plain_body b) s ≡ made_over (template_role_of b.w) b.w (plain_body_key_member b.key) ms s (map shared below) ∷ [] =
    widget-output b s h ∙ ap (λ ws. made_over (template_role_of b.w) b.w (plain_body_key_member b.key) ms s ws ∷ []) (sym added.widgets) in
    record {
      widgets = widgets ∙ ap (λ ws. map shared old ++ ws) (sym output);
      sizes = sized;
      size = omega (arith, added.size, widget-count b s h);
      within = omega (arith, added.within, some);
    }
