-- A template's output, by what its members give.
use Rattle.std.proofs.Common.{◌≡◌, ℕ, zero, suc, Bool, true, false, cond, List, [], ◌∷◌, ◌++◌, map, Option, slice_get, flat_map, ap, refl, ◌∙◌}
use Rattle.program_form.specs.declared.kinds.KindName.{KindName}
use Rattle.program_check.specs.declared.checked.Body.{Body}
use Rattle.program_check.specs.Body.{KeyExp, PlainBody, body, BodyMembers, no_members, left_out, member, expression, word, name, handler, child, children, props, slots, bodies_in, members_in_body, part_at}
use Rattle.program_check.specs.BodyView.{plain_body, plain_body_key_member}
use Rattle.template_build.specs.declared.roles.TemplateRole.{TemplateRole}
use Rattle.template_build.specs.declared.roles.TemplateRole.TheVariants as gives
use Rattle.template_build.specs.Scene.{Scene, inside}
use Rattle.template_build.specs.TemplateRole.{template_role_of}
use Rattle.template_build.specs.Members.{flag_or, value_or_zero, name_at}
use Rattle.template_build.specs.Output.{Gives, given_at, given_below, items_in, some_or_none, output_by, output_of, outputs_in, outputs_of}
use Rattle.template_build.specs.Building.{part_output, holder_in, makes_widget, made_over}
use Rattle.template_build.proofs.TypedMembers.{kind_in, key_of_body}
use Rattle.template_build.proofs.Bodies.{kind-out, key-out}

pub output-by : (b : PlainBody) (s : Scene)
    → output_of b s ≡ output_by (template_role_of (kind_in b)) (kind_in b) (key_of_body b) (members_in_body b) (outputs_in (members_in_body b)) s
unfolding output_of
output-by (body k key ms) s = refl

-- of a template of the program
pub output-out : (b : Body) (s : Scene)
    → output_of (plain_body b) s
    ≡ output_by (template_role_of b.w) b.w (plain_body_key_member b.key) (members_in_body (plain_body b)) (outputs_in (members_in_body (plain_body b))) s
output-out b s =
    let ms = members_in_body (plain_body b) in
    output-by (plain_body b) s ∙ ap (λ w. output_by (template_role_of w) w (key_of_body (plain_body b)) ms (outputs_in ms) s) (kind-out b)
    ∙ ap (λ key. output_by (template_role_of b.w) b.w key ms (outputs_in ms) s) (key-out b)

-- ---- what the members give

pub at-part : (ms : BodyMembers) (i : ℕ) (s : Scene) → given_at (outputs_in ms) i s ≡ part_output (part_at ms i) s
unfolding output_of
at-part no_members i s = refl
at-part (left_out ms) zero s = refl
at-part (left_out ms) (suc i) s = at-part ms i s
at-part (member p ms) zero s = refl
at-part (member p ms) (suc i) s = at-part ms i s

pub below-holder : (ms : BodyMembers) (s : Scene) → given_below (outputs_in ms) s ≡ part_output (holder_in ms) s
unfolding output_of
below-holder no_members s = refl
below-holder (left_out ms) s = below-holder ms s
below-holder (member (expression e) ms) s = below-holder ms s
below-holder (member (word w) ms) s = below-holder ms s
below-holder (member (name i) ms) s = below-holder ms s
below-holder (member (handler sets) ms) s = below-holder ms s
below-holder (member (child b) ms) s = refl
below-holder (member (children bs) ms) s = refl
below-holder (member (props es) ms) s = below-holder ms s
below-holder (member (slots bs) ms) s = refl

pub outputs-flat : (bs : List Body) (s : Scene) → outputs_of (bodies_in (map plain_body bs)) s ≡ flat_map (λ b. output_of (plain_body b) s) bs
unfolding output_of
outputs-flat [] s = refl
outputs-flat (b ∷ bs) s = ap (λ ws. output_of (plain_body b) s ++ ws) (outputs-flat bs s)

-- ---- each role

made : (r : TemplateRole) (k : KindName) (key : Option KeyExp) (ms : BodyMembers) (gs : List (Option Gives)) (s : Scene) → makes_widget r ≡ true
    → output_by r k key ms gs s ≡ made_over r k key ms s (given_below gs s) ∷ []
made gives.Widget k key ms gs s h = refl
made gives.Component k key ms gs s h = refl
made gives.Content k key ms gs s h = cc h
made gives.Choice k key ms gs s h = cc h
made gives.Loop k key ms gs s h = cc h

pub widget-output : (b : Body) (s : Scene) → makes_widget (template_role_of b.w) ≡ true
    → output_of (plain_body b) s
    ≡ made_over (template_role_of b.w) b.w (plain_body_key_member b.key) (members_in_body (plain_body b)) s (part_output (holder_in (members_in_body (plain_body b))) s) ∷ []
widget-output b s h =
    let ms = members_in_body (plain_body b) in
    output-out b s ∙ made (template_role_of b.w) b.w (plain_body_key_member b.key) ms (outputs_in ms) s h
    ∙ ap (λ ws. made_over (template_role_of b.w) b.w (plain_body_key_member b.key) ms s ws ∷ []) (below-holder ms s)

by_role : (b : Body) (s : Scene) (r : TemplateRole) → template_role_of b.w ≡ r
    → output_of (plain_body b) s ≡ output_by r b.w (plain_body_key_member b.key) (members_in_body (plain_body b)) (outputs_in (members_in_body (plain_body b))) s
by_role b s r h =
    let ms = members_in_body (plain_body b) in
    output-out b s ∙ ap (λ r. output_by r b.w (plain_body_key_member b.key) ms (outputs_in ms) s) h

pub content-output : (b : Body) (s : Scene) → template_role_of b.w ≡ gives.Content
    → output_of (plain_body b) s ≡ some_or_none (slice_get s.given (name_at (members_in_body (plain_body b)) 0))
content-output b s h = by_role b s gives.Content h

pub then-output : (b : Body) (s : Scene) → template_role_of b.w ≡ gives.Choice → flag_or false (members_in_body (plain_body b)) 0 s ≡ true
    → output_of (plain_body b) s ≡ part_output (part_at (members_in_body (plain_body b)) 1) s
then-output b s h taken =
    let gs = outputs_in (members_in_body (plain_body b)) in
    by_role b s gives.Choice h ∙ ap (λ (t : Bool). cond t (given_at gs 1 s) (given_at gs 2 s)) taken ∙ at-part (members_in_body (plain_body b)) 1 s

pub else-output : (b : Body) (s : Scene) → template_role_of b.w ≡ gives.Choice → flag_or false (members_in_body (plain_body b)) 0 s ≡ false
    → output_of (plain_body b) s ≡ part_output (part_at (members_in_body (plain_body b)) 2) s
else-output b s h taken =
    let gs = outputs_in (members_in_body (plain_body b)) in
    by_role b s gives.Choice h ∙ ap (λ (t : Bool). cond t (given_at gs 1 s) (given_at gs 2 s)) taken ∙ at-part (members_in_body (plain_body b)) 2 s

same_map : {A B : Type 0} (f g : A → List B) (xs : List A) → ((x : A) → f x ≡ g x) → flat_map f xs ≡ flat_map g xs
same_map f g [] h = refl
same_map f g (x ∷ xs) h = ap (λ ys. ys ++ flat_map f xs) (h x) ∙ ap (λ ys. g x ++ ys) (same_map f g xs h)

pub loop-output : (b : Body) (s : Scene) → template_role_of b.w ≡ gives.Loop
    → output_of (plain_body b) s
    ≡ flat_map (λ v. part_output (part_at (members_in_body (plain_body b)) 2) (inside v s)) (items_in (value_or_zero (members_in_body (plain_body b)) 1 s))
loop-output b s h =
    let ms = members_in_body (plain_body b) in
    by_role b s gives.Loop h
    ∙ same_map (λ v. given_at (outputs_in ms) 2 (inside v s)) (λ v. part_output (part_at ms 2) (inside v s)) (items_in (value_or_zero ms 1 s))
    (λ v. at-part ms 2 (inside v s))
