-- The condition of an `if` is a truth value, and the content of a slot is one that was given.
use Rattle.std.proofs.Common.{◌≡◌, ℕ, zero, suc, ◌<◌, ◌≤◌, ◌+◌, ◌^◌, ◌-◌, min, arith, true, List, [], ◌∷◌, ◌++◌, map, length, get_or, Some, slice_get, ap, sym, subst, refl, ◌∙◌}
use Rattle.std.proofs.lemmas.List.{map-append}
use Rattle.std.proofs.lemmas.List.Elements.{All-push}
use Rattle.std.specs.declared.rc.Rc.{Rc}
use Rattle.std.specs.declared.alloc.Global.{Global}
use Rattle.fx_expr.specs.declared.values.Ty.TheVariants as ty
use Rattle.program_form.specs.declared.kinds.KindName.{KindName}
use Rattle.program_form.specs.declared.kinds.KindName.TheVariants as kind
use Rattle.program_form.specs.Kinds.{members_of}
use Rattle.widget_model.specs.declared.widgets.Widget.{Widget}
use Rattle.widget_model.specs.Size.{count_of, count_in}
use Rattle.widget_model.specs.Sized.{IsSized, AreSized}
use Rattle.widget_model.specs.View.{plain_of, shared}
use Rattle.program_check.specs.declared.checked.Body.{Body}
use Rattle.program_check.specs.Body.{PlainBody, body, members_in_body}
use Rattle.program_check.specs.BodyView.{plain_body}
use Rattle.program_check.specs.TypedBody.{AreTypedMembers, AreWanted}
use Rattle.template_build.specs.declared.roles.TemplateRole.TheVariants as gives
use Rattle.template_build.specs.Scene.{Scene}
use Rattle.template_build.specs.TemplateRole.{template_role_of}
use Rattle.template_build.specs.Members.{name_at}
use Rattle.template_build.specs.Output.{some_or_none, output_of}
use Rattle.template_build.specs.Suits.{IsBuiltIn}
use Rattle.template_build.specs.Building.{IsAdded}
use Rattle.template_build.specs.Wanted.{is_wanted}
use Rattle.template_build.proofs.TypedMembers.{kind_in}
use Rattle.template_build.proofs.Bodies.{kind-out}
use Rattle.template_build.proofs.OutputSteps.{content-output}
use Rattle.template_build.proofs.UseLemmas.{place_is}

pub choice_wants : (k : KindName) → template_role_of k ≡ gives.Choice → is_wanted k 0 ty.Bool ≡ true
unfolding members_of
choice_wants kind.If h = refl
choice_wants k h = cc h

is_content : (k : KindName) → template_role_of k ≡ gives.Content → k ≡ kind.Slot
is_content kind.Slot h = refl
is_content k h = cc h

content_there : (s : Scene) (b : PlainBody) → template_role_of (kind_in b) ≡ gives.Content → IsBuiltIn s b → name_at (members_in_body b) 0 < length s.given
content_there s (body k key ms) role h =
    let wanted = subst (λ k. AreWanted h.there k ms h.typed.1.0) (is_content k role) h.typed.1.1 in
    let typed = subst (λ ws. AreTypedMembers h.there ws ms) wanted.2 h.typed.1.2 in
    let place = place_is h.there [] ms wanted.0 typed in
    omega (arith, place, wanted.1, h.suits.filled)

pub content_below : (s : Scene) (b : Body) → template_role_of b.w ≡ gives.Content → IsBuiltIn s (plain_body b) → name_at (members_in_body (plain_body b)) 0 < length s.given
content_below s b role h = content_there s (plain_body b) (ap template_role_of (kind-out b) ∙ role) h

length_map : {A B : Type 0} (f : A → B) (xs : List A) → length (map f xs) ≡ length xs
length_map f [] = refl
length_map f (x ∷ xs) = ap suc (length_map f xs)

pub given_below_length : (gs : List (Rc Widget Global)) (i : ℕ) → i < length (map shared gs) → i < length gs
given_below_length gs i h = omega (arith, length_map shared gs)

found : (gs : List (Rc Widget Global)) (i : ℕ) (r : Rc Widget Global) → i < length gs → r ≡ get_or gs i r → slice_get (map shared gs) i ≡ Some (shared r)
found [] i r below e = absurd (omega arith)
found (g ∷ gs) zero r below e = ap (λ r. Some (shared r)) (sym e)
found (g ∷ gs) (suc i) r below e = found gs i r (omega arith) e

one_output : (s : Scene) (b : Body) (gs : List (Rc Widget Global)) (i : ℕ) (r : Rc Widget Global) → template_role_of b.w ≡ gives.Content
    → s.given ≡ map shared gs → i ≡ name_at (members_in_body (plain_body b)) 0 → i < length gs → r ≡ get_or gs i r
    → output_of (plain_body b) s ≡ shared r ∷ []
one_output s b gs i r role given name below e =
    content-output b s role
    ∙ ap some_or_none (ap (λ gs. slice_get gs (name_at (members_in_body (plain_body b)) 0)) given ∙ ap (slice_get (map shared gs)) (sym name) ∙ found gs i r below e)

-- the size of a content is how many it is, as far as there can be room
sized_at : (gs : List (Rc Widget Global)) (i : ℕ) (r : Rc Widget Global) → AreSized gs → i < length gs → r ≡ get_or gs i r → IsSized r.value
sized_at gs i r sized below e = subst (λ (r : Rc Widget Global). IsSized r.value) (sym e) (sized i r below)

pub content_too_large : (s : Scene) (b : Body) (gs : List (Rc Widget Global)) (i : ℕ) (r : Rc Widget Global) (room : ℕ) → template_role_of b.w ≡ gives.Content
    → s.given ≡ map shared gs → i ≡ name_at (members_in_body (plain_body b)) 0 → AreSized gs → i < length gs → r ≡ get_or gs i r
    → room < r.value.size → room < count_in (output_of (plain_body b) s)
content_too_large s b gs i r room role given name sized below e full =
    let count : count_in (output_of (plain_body b) s) ≡ count_of (shared r) + 0 = ap count_in (one_output s b gs i r role given name below e) in
    let size : r.value.size ≡ min (count_of (shared r)) (2 ^ 32 - 1) = sized_at gs i r sized below e in
    omega (arith, count, size, full)

pub content_added : (s : Scene) (b : Body) (gs : List (Rc Widget Global)) (i : ℕ) (r copy : Rc Widget Global) (room : ℕ) (old : List (Rc Widget Global))
    → template_role_of b.w ≡ gives.Content → s.given ≡ map shared gs → i ≡ name_at (members_in_body (plain_body b)) 0 → AreSized gs → i < length gs
    → r ≡ get_or gs i r → r.value.size ≤ room → room ≤ 65536 → copy.value ≡ r.value → AreSized old
    → IsAdded (output_of (plain_body b) s) room old (old ++ copy ∷ []) r.value.size
content_added s b gs i r copy room old role given name sized below e fits small same before =
    let ws : output_of (plain_body b) s ≡ shared r ∷ [] = one_output s b gs i r role given name below e in
    let size : r.value.size ≡ min (count_of (shared r)) (2 ^ 32 - 1) = sized_at gs i r sized below e in
    let count : count_in (output_of (plain_body b) s) ≡ count_of (shared r) + 0 = ap count_in ws in
    record {
      widgets = map-append shared old (copy ∷ []) ∙ ap (λ (w : Widget). map shared old ++ plain_of w ∷ []) same ∙ ap (λ ws. map shared old ++ ws) (sym ws);
      sizes = All-push (λ (r : Rc Widget Global). IsSized r.value) old copy before (subst IsSized (sym same) (sized_at gs i r sized below e));
      size = omega (arith, size, count, fits, small);
      within = fits;
    }
