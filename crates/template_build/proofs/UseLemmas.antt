-- A template that uses a component: which one, and what that declares.
use Rattle.std.proofs.Common.{◌≡◌, ℕ, zero, suc, ◌<◌, arith, List, [], ◌∷◌, map, length, get_or, Option, Some, slice_get, ap, sym, subst, refl, ◌∙◌}
use Rattle.program_form.specs.declared.kinds.KindName.{KindName}
use Rattle.program_form.specs.declared.kinds.KindName.TheVariants as kind
use Rattle.std.specs.declared.rc.Rc.{Rc}
use Rattle.std.specs.declared.alloc.Global.{Global}
use Rattle.fx_expr.specs.declared.values.Value.{Value}
use Rattle.widget_keys.specs.declared.keys.Key.{Key}
use Rattle.widget_model.specs.declared.decl.Decl.{Decl}
use Rattle.widget_model.specs.declared.widgets.Kind.TheVariants as made
use Rattle.widget_model.specs.declared.widgets.Widget.{Widget}
use Rattle.widget_model.specs.Look.{component}
use Rattle.widget_model.specs.Plain.{PlainWidget, plain, no_widgets, widgets_of}
use Rattle.widget_model.specs.View.{look_in, slots_in, plain_of}
use Rattle.program_check.specs.declared.checked.Body.{Body}
use Rattle.program_check.specs.declared.checked.CheckedComponent.{CheckedComponent}
use Rattle.program_check.specs.Body.{KeyExp, PlainBody, body, BodyMembers, no_members, left_out, member, expression, word, name, handler, child, children, props, slots, members_in_body}
use Rattle.program_check.specs.BodyView.{plain_body}
use Rattle.program_check.specs.CheckedView.{plain_component}
use Rattle.program_check.specs.DeclView.{HaveDecls}
use Rattle.program_check.specs.TypedBody.{Surroundings, WantedMember, must, the_place, AreTypedMembers, AreWanted}
use Rattle.template_build.specs.declared.roles.TemplateRole.TheVariants as gives
use Rattle.template_build.specs.Scene.{Scene, declaration_in, declaration_at}
use Rattle.template_build.specs.TemplateRole.{template_role_of}
use Rattle.template_build.specs.Building.{made_over}
use Rattle.template_build.specs.Members.{name_at, props_at, key_in}
use Rattle.template_build.specs.Program.{declared_component}
use Rattle.template_build.specs.Suits.{IsBuiltIn}
use Rattle.template_build.proofs.TypedMembers.{kind_in}
use Rattle.template_build.proofs.Bodies.{kind-out}

pub is_use : (k : KindName) → template_role_of k ≡ gives.Component → k ≡ kind.Use
is_use kind.Use h = refl
is_use k h = cc h

pub place_is : (S : Surroundings) (ws : List WantedMember) (ms : BodyMembers) (i : ℕ) → AreTypedMembers S (must (the_place i) ∷ ws) ms → name_at ms 0 ≡ i
place_is S ws no_members i h = absurd h
place_is S ws (left_out ms) i h = cc (h.0)
place_is S ws (member (name j) ms) i h = h.0
place_is S ws (member (expression e) ms) i h = absurd h.0
place_is S ws (member (word w) ms) i h = absurd h.0
place_is S ws (member (handler sets) ms) i h = absurd h.0
place_is S ws (member (child b) ms) i h = absurd h.0
place_is S ws (member (children bs) ms) i h = absurd h.0
place_is S ws (member (props es) ms) i h = absurd h.0
place_is S ws (member (slots bs) ms) i h = absurd h.0

below_map : {A B C : Type 0} (f : B → C) (g : A → B) (xs : List A) (i : ℕ) (x : C) → slice_get (map f (map g xs)) i ≡ Some x → i < length xs
below_map f g [] i x h = cc h
below_map f g (y ∷ ys) zero x h = omega arith
below_map f g (y ∷ ys) (suc i) x h = omega (arith, below_map f g ys i x h)

used_below : (s : Scene) (b : PlainBody) (count : ℕ) (cs : List CheckedComponent) → template_role_of (kind_in b) ≡ gives.Component → IsBuiltIn s b
    → s.declared.components ≡ map (declared_component count) (map plain_component cs) → name_at (members_in_body b) 0 < length cs
used_below s (body k key ms) count cs uses h same =
    let wanted = subst (λ k. AreWanted h.there k ms h.typed.1.0) (is_use k uses) h.typed.1.1 in
    let typed = subst (λ ws. AreTypedMembers h.there ws ms) wanted.3 h.typed.1.2 in
    let found = (h.suits.components wanted.0 wanted.1 wanted.2) in
    let below = below_map (declared_component count) plain_component cs wanted.0 found.component (ap (λ cs. slice_get cs wanted.0) (sym same) ∙ found.found) in
    subst (λ i. i < length cs) (sym (place_is h.there _ ms wanted.0 typed)) below

pub component_below : (s : Scene) (b : Body) (count : ℕ) (cs : List CheckedComponent) → template_role_of b.w ≡ gives.Component → IsBuiltIn s (plain_body b)
    → s.declared.components ≡ map (declared_component count) (map plain_component cs) → name_at (members_in_body (plain_body b)) 0 < length cs
component_below s b count cs uses h same = used_below s (plain_body b) count cs (ap template_role_of (kind-out b) ∙ uses) h same

pub declaration_is : (count : ℕ) (cs : List CheckedComponent) (i : ℕ) (x : CheckedComponent) → HaveDecls count cs → i < length cs → x ≡ get_or cs i x
    → x.decl.value ≡ declaration_in (slice_get (map (declared_component count) (map plain_component cs)) i)
declaration_is count [] i x h below e = absurd (omega arith)
declaration_is count (c ∷ cs) zero x h below e = ap (λ (c : CheckedComponent). c.decl.value) e ∙ h 0 c (omega arith)
declaration_is count (c ∷ cs) (suc i) x h below e = declaration_is count cs i x (λ k d low. h (suc k) d (omega arith)) (omega arith) e

-- ---- the widget that is made

use_look : (key : Option KeyExp) (ms : BodyMembers) (s : Scene) (k : KindName) (ws : List PlainWidget) → k ≡ kind.Use
    → plain (component (name_at ms 0) (props_at ms 1 s) (declaration_at s.declared (name_at ms 0))) (key_in key s) (widgets_of ws) no_widgets
    ≡ made_over (template_role_of k) k key ms s ws
use_look key ms s k ws e = ap (λ k. made_over (template_role_of k) k key ms s ws) (sym e)

pub use_is_made : (k : KindName) (key : Option KeyExp) (ms : BodyMembers) (s : Scene) (w : Widget) (place : ℕ) (ps : List Value)
    (contents below : List PlainWidget) (d : Rc Decl Global) (v : Key Value)
    → template_role_of k ≡ gives.Component → w.kind ≡ made.Use place ps contents d → w.key ≡ v → w.children ≡ [] → place ≡ name_at ms 0 → ps ≡ props_at ms 1 s
    → contents ≡ below → d.value ≡ declaration_at s.declared (name_at ms 0) → v ≡ key_in key s
    → plain_of w ≡ made_over (template_role_of k) k key ms s below
use_is_made k key ms s w place ps contents below d v role is keyed childless named given same declared key_is =
    ap (λ k. plain (look_in k) w.key (widgets_of (slots_in k)) (widgets_of w.children)) is
    ∙ ap (λ v. plain (component place ps d.value) v (widgets_of contents) (widgets_of w.children)) (keyed ∙ key_is)
    ∙ ap (λ ws. plain (component place ps d.value) (key_in key s) (widgets_of contents) (widgets_of ws)) childless
    ∙ ap (λ i. plain (component i ps d.value) (key_in key s) (widgets_of contents) no_widgets) named
    ∙ ap (λ ps. plain (component (name_at ms 0) ps d.value) (key_in key s) (widgets_of contents) no_widgets) given
    ∙ ap (λ ws. plain (component (name_at ms 0) (props_at ms 1 s) d.value) (key_in key s) (widgets_of ws) no_widgets) same
    ∙ ap (λ d. plain (component (name_at ms 0) (props_at ms 1 s) d) (key_in key s) (widgets_of below) no_widgets) declared
    ∙ use_look key ms s k below (is_use k role)
