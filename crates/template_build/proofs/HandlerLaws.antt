-- The handlers of an output: those of the contents that were given, and others that belong to the scene's owner and fit its fields.
use Rattle.std.proofs.Common.{◌≡◌, ℕ, zero, suc, Bool, true, false, cond, List, [], ◌∷◌, ◌++◌, map, flat_map, Option, Some, None, option_map, IfSome, slice_get, ap, sym, subst, refl}
use Rattle.fx_expr.specs.declared.handlers.Handler.{Handler}
use Rattle.fx_expr.specs.declared.values.Value.{Value}
use Rattle.fx_expr.specs.Exp.{Exp}
use Rattle.fx_expr.specs.Scope.{Env, types_in}
use Rattle.fx_expr.specs.Sets.{FitFields}
use Rattle.fx_expr.specs.Value.{type_of}
use Rattle.fx_expr.specs.ClosingLaws.{closed-IsClosed, closed-typed}
use Rattle.expr_check.specs.Handlers.{AreTypedSets}
use Rattle.program_form.specs.declared.kinds.KindName.{KindName}
use Rattle.program_form.specs.declared.kinds.KindName.TheVariants as kind
use Rattle.program_check.specs.Body.{KeyExp, PlainBody, body, BodyMembers, no_members, left_out, member, PlainBodyPart, expression, word, name, handler, child, children, props, slots, PlainBodies, no_bodies, one_body, part_at}
use Rattle.program_check.specs.Checked.{PlainChecked}
use Rattle.program_check.specs.TypedBody.{Surroundings, IsTypedBody}
use Rattle.program_check.specs.TypedChecked.{IsTypedChecked, IsTypedRoot}
use Rattle.widget_model.specs.Plain.{PlainWidget, widgets_of}
use Rattle.template_build.specs.declared.roles.TemplateRole.{TemplateRole}
use Rattle.template_build.specs.declared.roles.TemplateRole.TheVariants as gives
use Rattle.template_build.specs.Scene.{Scene, inside}
use Rattle.template_build.specs.TemplateRole.{template_role_of}
use Rattle.template_build.specs.Members.{sets_in, closed_set, handler_with, handler_given, value_or_zero, flag_or, name_at}
use Rattle.template_build.specs.Looks.{look_by}
use Rattle.template_build.specs.Output.{given_at, given_below, items_in, some_or_none, are_any, output_by, output_of, outputs_in, outputs_of}
use Rattle.template_build.specs.Program.{scene_in, props_alone, output_in_body, component_output, root_output}
use Rattle.template_build.specs.Suits.{Suits, IsBuiltIn, MayBuild}
use Rattle.template_build.specs.Building.{part_output, holder_in, AreTypedTemplates, AreTypedWithin}
use Rattle.template_build.specs.HandlersIn.{InLook, AllHandlersMeet, Owner, IsOwned, SetsNothing}
use Rattle.template_build.proofs.TypedMembers.{sets_typed_at}
use Rattle.template_build.proofs.TypedParts.{repeats, part_built, holder_built, loop_built}
use Rattle.template_build.proofs.OutputSteps.{at-part, below-holder}
use Rattle.template_build.proofs.CallLemmas.{component_built, root_built}

some_is : {A : Type 0} (x y : A) → Some x ≡ Some y → x ≡ y
some_is x y e = cc

-- ---- closed sets fit the fields

pub sets_fit : (s : Env) (sets : List (ℕ × Exp)) → AreTypedSets (types_in s) sets → FitFields (map type_of s.fields) (map (closed_set s) sets)
sets_fit s [] h = tt
sets_fit s (set ∷ sets) h = ((h.0.0, h.0.1, closed-IsClosed set.1 s, closed-typed set.1 s h.0.0 h.0.2), sets_fit s sets h.1)

-- ---- lists of widgets

abbrev Meet : (Handler → Type 0) → List PlainWidget → Type 0
Meet P ws = AllHandlersMeet P (widgets_of ws)

meet-append : (P : Handler → Type 0) (vs ws : List PlainWidget) → Meet P vs → Meet P ws → Meet P (vs ++ ws)
meet-append P [] ws h k = k
meet-append P (v ∷ vs) ws h k = (h.0, meet-append P vs ws h.1 k)

meet-some : (P : Handler → Type 0) (ws : List PlainWidget) (i : ℕ) → Meet P ws → Meet P (some_or_none (slice_get ws i))
meet-some P [] i h = tt
meet-some P (w ∷ ws) zero h = (h.0, tt)
meet-some P (w ∷ ws) (suc i) h = meet-some P ws i h.1

meet-cond : (P : Handler → Type 0) (t : Bool) (vs ws : List PlainWidget) → Meet P vs → Meet P ws → Meet P (cond t vs ws)
meet-cond P true vs ws h k = h
meet-cond P false vs ws h k = k

meet-each : (P : Handler → Type 0) (f : Value → List PlainWidget) (xs : List Value) → ((i : ℕ) (x : Value) → slice_get xs i ≡ Some x → Meet P (f x)) → Meet P (flat_map f xs)
meet-each P f [] h = tt
meet-each P f (x ∷ xs) h = meet-append P (f x) (flat_map f xs) (h zero x refl) (meet-each P f xs (λ i y e. h (suc i) y e))

-- ---- a scene's own handlers meet P

abbrev Own : (Handler → Type 0) → Scene → Type 0
Own P s = (h : Handler) → h.owner ≡ s.owner → FitFields (map type_of s.env.fields) h.sets → P h

abbrev MeetBody : (Handler → Type 0) → PlainBody → Type 0
MeetBody P b = (S : Surroundings) (s : Scene) → Suits S s → Own P s → Meet P s.given → IsTypedBody S b → Meet P (output_of b s)

abbrev MeetBodies : (Handler → Type 0) → PlainBodies → Type 0
MeetBodies P bs = (S : Surroundings) (s : Scene) → Suits S s → Own P s → Meet P s.given → AreTypedTemplates S bs → Meet P (outputs_of bs s)

abbrev MeetPart : (Handler → Type 0) → PlainBodyPart → Type 0
MeetPart P (child b) = MeetBody P b
MeetPart P (children bs) = MeetBodies P bs
MeetPart P (slots bs) = MeetBodies P bs
MeetPart P (expression e) = Unit {0}
MeetPart P (word w) = Unit {0}
MeetPart P (name i) = Unit {0}
MeetPart P (handler sets) = Unit {0}
MeetPart P (props es) = Unit {0}

abbrev MeetMembers : (Handler → Type 0) → BodyMembers → Type 0
MeetMembers P no_members = Unit {0}
MeetMembers P (left_out ms) = MeetMembers P ms
MeetMembers P (member p ms) = MeetPart P p × MeetMembers P ms

meet-part : (P : Handler → Type 0) (p : PlainBodyPart) → MeetPart P p → (S : Surroundings) (s : Scene) → Suits S s → Own P s → Meet P s.given
    → AreTypedWithin S (Some p) → Meet P (part_output (Some p) s)
unfolding output_of
meet-part P (child b) h S s suits own given typed = h S s suits own given typed
meet-part P (children bs) h S s suits own given typed = h S s suits own given typed
meet-part P (slots bs) h S s suits own given typed = h S s suits own given typed
meet-part P (expression e) h S s suits own given typed = tt
meet-part P (word w) h S s suits own given typed = tt
meet-part P (name i) h S s suits own given typed = tt
meet-part P (handler sets) h S s suits own given typed = tt
meet-part P (props es) h S s suits own given typed = tt

meet-at : (P : Handler → Type 0) (ms : BodyMembers) (i : ℕ) → MeetMembers P ms → (S : Surroundings) (s : Scene) → Suits S s → Own P s → Meet P s.given
    → AreTypedWithin S (part_at ms i) → Meet P (part_output (part_at ms i) s)
meet-at P no_members i h S s suits own given typed = tt
meet-at P (left_out ms) zero h S s suits own given typed = tt
meet-at P (left_out ms) (suc i) h S s suits own given typed = meet-at P ms i h S s suits own given typed
meet-at P (member p ms) zero h S s suits own given typed = meet-part P p h.0 S s suits own given typed
meet-at P (member p ms) (suc i) h S s suits own given typed = meet-at P ms i h.1 S s suits own given typed

meet-holder : (P : Handler → Type 0) (ms : BodyMembers) → MeetMembers P ms → (S : Surroundings) (s : Scene) → Suits S s → Own P s → Meet P s.given
    → AreTypedWithin S (holder_in ms) → Meet P (part_output (holder_in ms) s)
meet-holder P no_members h S s suits own given typed = tt
meet-holder P (left_out ms) h S s suits own given typed = meet-holder P ms h S s suits own given typed
meet-holder P (member (expression e) ms) h S s suits own given typed = meet-holder P ms h.1 S s suits own given typed
meet-holder P (member (word w) ms) h S s suits own given typed = meet-holder P ms h.1 S s suits own given typed
meet-holder P (member (name i) ms) h S s suits own given typed = meet-holder P ms h.1 S s suits own given typed
meet-holder P (member (handler sets) ms) h S s suits own given typed = meet-holder P ms h.1 S s suits own given typed
meet-holder P (member (child b) ms) h S s suits own given typed = meet-part P (child b) h.0 S s suits own given typed
meet-holder P (member (children bs) ms) h S s suits own given typed = meet-part P (children bs) h.0 S s suits own given typed
meet-holder P (member (props es) ms) h S s suits own given typed = meet-holder P ms h.1 S s suits own given typed
meet-holder P (member (slots bs) ms) h S s suits own given typed = meet-part P (slots bs) h.0 S s suits own given typed

-- ---- a Detector's handlers

one_handler : (P : Handler → Type 0) (s : Scene) (o : Option (List (ℕ × Exp))) → Own P s → ((sets : List (ℕ × Exp)) → o ≡ Some sets → AreTypedSets (types_in s.env) sets)
    → IfSome (option_map (handler_with s) o) P
one_handler P s None own h = tt
one_handler P s (Some sets) own h = own (handler_with s sets) refl (sets_fit s.env sets (h sets refl))

at_handler : (P : Handler → Type 0) (s : Scene) (k : KindName) (key : Option KeyExp) (ms : BodyMembers) (i : ℕ) → Own P s → IsBuiltIn s (body k key ms)
    → IfSome (handler_given ms i s) P
at_handler P s k key ms i own h = one_handler P s (sets_in (part_at ms i)) own (λ sets e. sets_typed_at s (body k key ms) i sets h e)

meet-look : (P : Handler → Type 0) (s : Scene) (k : KindName) (key : Option KeyExp) (ms : BodyMembers) (below : Bool) → Own P s → IsBuiltIn s (body k key ms)
    → InLook P (look_by k ms s below)
meet-look P s kind.Detector key ms below own h = (
  at_handler P s kind.Detector key ms 1 own h,
  at_handler P s kind.Detector key ms 2 own h,
  at_handler P s kind.Detector key ms 3 own h,
  at_handler P s kind.Detector key ms 4 own h,
  at_handler P s kind.Detector key ms 5 own h,
)
meet-look P s k key ms below own h = tt

-- ---- a template

below : (P : Handler → Type 0) (s : Scene) (k : KindName) (key : Option KeyExp) (ms : BodyMembers) → Own P s → Meet P s.given → repeats (template_role_of k) ≡ false
    → IsBuiltIn s (body k key ms) → MeetMembers P ms → Meet P (given_below (outputs_in ms) s)
below P s k key ms own given once h members =
    let p = holder_built s k key ms once h in
    subst (Meet P) (sym (below-holder ms s)) (meet-holder P ms members p.there s p.suits own given p.typed)

branch : (P : Handler → Type 0) (s : Scene) (k : KindName) (key : Option KeyExp) (ms : BodyMembers) (i : ℕ) → Own P s → Meet P s.given → repeats (template_role_of k) ≡ false
    → IsBuiltIn s (body k key ms) → MeetMembers P ms → Meet P (given_at (outputs_in ms) i s)
branch P s k key ms i own given once h members =
    let p = part_built s k key ms i once h in
    subst (Meet P) (sym (at-part ms i s)) (meet-at P ms i members p.there s p.suits own given p.typed)

by_role : (P : Handler → Type 0) (r : TemplateRole) (k : KindName) (key : Option KeyExp) (ms : BodyMembers) (s : Scene) → template_role_of k ≡ r → Own P s → Meet P s.given
    → IsBuiltIn s (body k key ms) → MeetMembers P ms → Meet P (output_by r k key ms (outputs_in ms) s)
by_role P gives.Widget k key ms s role own given h members =
    ((meet-look P s k key ms (are_any (given_below (outputs_in ms) s)) own h, tt, below P s k key ms own given (ap repeats role) h members), tt)
by_role P gives.Component k key ms s role own given h members =
    ((meet-look P s k key ms (are_any (given_below (outputs_in ms) s)) own h, below P s k key ms own given (ap repeats role) h members, tt), tt)
by_role P gives.Content k key ms s role own given h members = meet-some P s.given (name_at ms 0) given
by_role P gives.Choice k key ms s role own given h members =
    meet-cond P (flag_or false ms 0 s) (given_at (outputs_in ms) 1 s) (given_at (outputs_in ms) 2 s)
    (branch P s k key ms 1 own given (ap repeats role) h members) (branch P s k key ms 2 own given (ap repeats role) h members)
by_role P gives.Loop k key ms s role own given h members =
    meet-each P (λ v. given_at (outputs_in ms) 2 (inside v s)) (items_in (value_or_zero ms 1 s))
    (λ i x e. let p = loop_built s k key ms i x role h e in
    subst (Meet P) (sym (at-part ms 2 (inside x s))) (meet-at P ms 2 members p.there (inside x s) p.suits own given p.typed))

out : (P : Handler → Type 0) (k : KindName) (key : Option KeyExp) (ms : BodyMembers) (s : Scene) → Meet P (output_by (template_role_of k) k key ms (outputs_in ms) s) → Meet P (output_of (body k key ms) s)
unfolding output_of
out P k key ms s h = h

bodies : (P : Handler → Type 0) (b : PlainBody) (bs : PlainBodies) (s : Scene) → Meet P (output_of b s) → Meet P (outputs_of bs s) → Meet P (outputs_of (one_body b bs) s)
unfolding output_of
bodies P b bs s h k = meet-append P (output_of b s) (outputs_of bs s) h k

none : (P : Handler → Type 0) (s : Scene) → Meet P (outputs_of no_bodies s)
unfolding output_of
none P s = tt

mutual
  pub meet_body : (P : Handler → Type 0) (b : PlainBody) → MeetBody P b
  meet_body P (body k key ms) S s suits own given typed =
      out P k key ms s (by_role P (template_role_of k) k key ms s refl own given (record { there = S; suits = suits; typed = typed }) (meet_members P ms))

  meet_members : (P : Handler → Type 0) (ms : BodyMembers) → MeetMembers P ms
  meet_members P no_members = tt
  meet_members P (left_out ms) = meet_members P ms
  meet_members P (member p ms) = (meet_part P p, meet_members P ms)

  meet_part : (P : Handler → Type 0) (p : PlainBodyPart) → MeetPart P p
  meet_part P (expression e) = tt
  meet_part P (word w) = tt
  meet_part P (name i) = tt
  meet_part P (handler sets) = tt
  meet_part P (child b) = meet_body P b
  meet_part P (children bs) = meet_bodies P bs
  meet_part P (props es) = tt
  meet_part P (slots bs) = meet_bodies P bs

  meet_bodies : (P : Handler → Type 0) (bs : PlainBodies) → MeetBodies P bs
  meet_bodies P no_bodies S s suits own given typed = none P s
  meet_bodies P (one_body b bs) S s suits own given typed =
      bodies P b bs s (meet_body P b S s suits own given typed.0) (meet_bodies P bs S s suits own given typed.1)

-- ---- of a component, and of a root

meet_built : (P : Handler → Type 0) (b : PlainBody) (s : Scene) → IsBuiltIn s b → Own P s → Meet P s.given → Meet P (output_of b s)
meet_built P b s h own given = meet_body P b h.there s h.suits own given h.typed

pub component_handlers : (c : PlainChecked) (i n : ℕ) (s : Env) (contents : List PlainWidget) (owners : List Owner) → IsTypedChecked c → MayBuild c i s contents
    → Meet (IsOwned ((n, map type_of s.fields) ∷ owners)) contents
    → Meet (IsOwned ((n, map type_of s.fields) ∷ owners)) (component_output c i s contents n)
component_handlers c i n s contents owners typed m given =
    let o : Owner = (n, map type_of s.fields) in
    let P = IsOwned (o ∷ owners) in
    let there = scene_in c s contents n in
    subst (λ k. Meet P (output_in_body k there)) (sym m.found)
    (meet_built P m.component.body there (component_built c i n s contents typed m)
    (λ h owner fits. record { place = zero; types = map type_of s.fields; found = ap (λ n. Some (n, map type_of s.fields)) (sym owner); fits = fits }) given)

no_sets : (sets : List (ℕ × Exp)) → FitFields [] sets → sets ≡ []
no_sets [] h = refl
no_sets (set ∷ sets) h = cc (h.0.1)

pub root_handlers : (c : PlainChecked) (b : PlainBody) → IsTypedChecked c → IsTypedRoot c b → Meet SetsNothing (root_output c b)
root_handlers c b typed root =
    meet_built SetsNothing b (scene_in c (props_alone []) [] 0) (root_built c b typed root)
    (λ h owner fits. record { owner = owner; sets = no_sets h.sets fits }) tt
