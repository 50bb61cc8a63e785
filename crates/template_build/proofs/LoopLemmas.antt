-- One more loop variable, and one less.
use Rattle.std.proofs.Common.{◌≡◌, ℕ, zero, suc, ◌+◌, ◌-◌, arith, List, [], ◌∷◌, ◌++◌, length, take, Option, ap, sym, refl, ◌∙◌}
use Rattle.fx_expr.specs.declared.values.Value.{Value}
use Rattle.program_check.specs.declared.checked.Body.{Body}
use Rattle.program_check.specs.Body.{PlainBodyPart, members_in_body, part_at}
use Rattle.program_check.specs.BodyView.{plain_body}
use Rattle.template_build.specs.declared.roles.TemplateRole.TheVariants as gives
use Rattle.template_build.specs.declared.scenes.Scene as program
use Rattle.template_build.specs.Scene.{Scene, inside}
use Rattle.template_build.specs.SceneView.{scene_of}
use Rattle.template_build.specs.TemplateRole.{template_role_of}
use Rattle.template_build.specs.Members.{value_or_zero}
use Rattle.template_build.specs.Output.{items_in, output_of}
use Rattle.template_build.specs.Building.{items_output}
use Rattle.template_build.proofs.OutputSteps.{loop-output}

pub scene_inside : (s : program.Scene) (us vs ws : List Value) (x : Value) → us ≡ vs ++ x ∷ [] → vs ≡ ws → scene_of s us ≡ inside x (scene_of s ws)
scene_inside s us vs ws x h e = ap (scene_of s) (h ∙ ap (λ vs. vs ++ x ∷ []) e)

take_front : {A : Type 0} (xs : List A) (x : A) (n : ℕ) → n ≡ length xs → take n (xs ++ x ∷ []) ≡ xs
take_front [] x zero h = refl
take_front [] x (suc n) h = absurd (omega (arith, h))
take_front (y ∷ ys) x zero h = absurd (omega (arith, h))
take_front (y ∷ ys) x (suc n) h = ap (λ zs. y ∷ zs) (take_front ys x n (omega (arith, h)))

length_more : {A : Type 0} (xs : List A) (x : A) → length (xs ++ x ∷ []) ≡ length xs + 1
length_more [] x = refl
length_more (y ∷ ys) x = omega (arith, length_more ys x)

pub popped : (vs ws old new : List Value) (x : Value) (n : ℕ) → old ≡ vs ++ x ∷ [] → n ≡ length old → new ≡ take (n - 1) old → vs ≡ ws → new ≡ ws
popped vs ws old new x n h count rest e =
    let size : n - 1 ≡ length vs = omega (arith, count, ap length h, length_more vs x) in
    rest ∙ ap (take (n - 1)) h ∙ take_front vs x (n - 1) size ∙ e

pub each_output : (b : Body) (s : Scene) (p : Option PlainBodyPart) (list : Value) → template_role_of b.w ≡ gives.Loop → p ≡ part_at (members_in_body (plain_body b)) 2
    → list ≡ value_or_zero (members_in_body (plain_body b)) 1 s → items_output p s (items_in list) ≡ output_of (plain_body b) s
each_output b s p list role part value =
    ap (λ p. items_output p s (items_in list)) part ∙ ap (λ v. items_output (part_at (members_in_body (plain_body b)) 2) s (items_in v)) value ∙ sym (loop-output b s role)
