-- What a checked template gives keeps to what its kinds do.
use Rattle.std.proofs.Common.{◌≡◌, ℕ, zero, suc, ◌≤◌, Bool, true, false, cond, List, [], ◌∷◌, ◌++◌, flat_map, Option, Some, None, slice_get, refl, sym, subst}
use Rattle.std.specs.List.{All}
use Rattle.std.proofs.lemmas.List.Elements.{All-head, All-tail}
use Rattle.fx_expr.specs.declared.values.Value.{Value}
use Rattle.program_form.specs.declared.kinds.KindName.{KindName}
use Rattle.program_form.specs.declared.kinds.KindName.TheVariants as kind
use Rattle.program_form.specs.Kinds.{since}
use Rattle.widget_model.specs.Look.{Look}
use Rattle.widget_model.specs.Plain.{PlainWidget}
use Rattle.program_check.specs.Body.{KeyExp, PlainBody, body, BodyMembers, no_members, left_out, member, PlainBodyPart, expression, word, name, handler, child, children, props, slots, PlainBodies, no_bodies, one_body}
use Rattle.program_check.specs.Checked.{PlainCheckedComponent, PlainChecked}
use Rattle.template_build.specs.Scene.{Scene, inside}
use Rattle.template_build.specs.TemplateRole.{template_role_of}
use Rattle.template_build.specs.Members.{value_or_zero, flag_or, name_at}
use Rattle.template_build.specs.Looks.{look_by}
use Rattle.template_build.specs.Output.{Gives, given_at, given_below, items_in, some_or_none, are_any, widget_over, output_by, output_of, outputs_in, output_in, outputs_of}
use Rattle.template_build.specs.Program.{scene_in, props_alone, output_in_body, root_output}
use Rattle.build_form.specs.Program.{blueprint_of, names_in}
use Rattle.versioned_kinds.specs.Lists.{IsNoList, IsNoListKind, HasNoListBodies}
use Rattle.versioned_kinds.specs.Templates.{BodyKindsMeet, BodyMembersMeet, BodyPartMeets, BodiesMeet}
use Rattle.versioned_kinds.specs.Versions.{IsOfVersion, look_since, LookIsOf, BodyKeepsTo, KeepsToVersion}
use Rattle.versioned_kinds.proofs.Built.{Meet, OutputsMeet}

-- ---- a widget came with the kind of its template

look_came : (k : KindName) (ms : BodyMembers) (s : Scene) (below : Bool) → look_since (look_by k ms s below) ≡ since k
look_came kind.SizedBox ms s below = refl
look_came kind.ConstrainedBox ms s below = refl
look_came kind.Padding ms s below = refl
look_came kind.Align ms s below = refl
look_came kind.ColoredBox ms s below = refl
look_came kind.Text ms s below = refl
look_came kind.Row ms s below = refl
look_came kind.Column ms s below = refl
look_came kind.Stack ms s below = refl
look_came kind.Flexible ms s below = refl
look_came kind.Positioned ms s below = refl
look_came kind.Opacity ms s below = refl
look_came kind.ClipRect ms s below = refl
look_came kind.RepaintBoundary ms s below = refl
look_came kind.MergeSemantics ms s below = refl
look_came kind.IntrinsicWidth ms s below = refl
look_came kind.IntrinsicHeight ms s below = refl
look_came kind.Offstage ms s below = refl
look_came kind.IgnorePointer ms s below = refl
look_came kind.AbsorbPointer ms s below = refl
look_came kind.Detector ms s below = refl
look_came kind.Semantics ms s below = refl
look_came kind.ExcludeSemantics ms s below = refl
look_came kind.CustomPaint ms s below = refl
look_came kind.CustomLayout ms s below = refl
look_came kind.Viewport ms s below = refl
look_came kind.SliverToBox ms s below = refl
look_came kind.SliverPadding ms s below = refl
look_came kind.SliverFixed ms s below = refl
look_came kind.SliverLazy ms s below = refl
look_came kind.Keep ms s below = refl
look_came kind.Wrap ms s below = refl
look_came kind.Table ms s below = refl
look_came kind.Inherit ms s below = refl
look_came kind.Use ms s below = refl
look_came kind.Slot ms s below = refl
look_came kind.If ms s below = refl
look_came kind.Each ms s below = refl

look_of_version : (version : ℕ) (k : KindName) (ms : BodyMembers) (s : Scene) (below : Bool) → IsOfVersion version k → LookIsOf version (look_by k ms s below)
look_of_version version k ms s below h = subst (λ n. n ≤ version) (sym (look_came k ms s below)) h

-- ---- lists of widgets

module _ (P : KindName → Type 0) (Q : Look → Type 0) (came : (k : KindName) (ms : BodyMembers) (s : Scene) (below : Bool) → P k → Q (look_by k ms s below)) where
  abbrev Keep : List PlainWidget → Type 0
  Keep ws = Meet Q ws

  keep_append : (vs ws : List PlainWidget) → Keep vs → Keep ws → Keep (vs ++ ws)
  keep_append [] ws h k = k
  keep_append (v ∷ vs) ws h k = (h.0, keep_append vs ws h.1 k)

  keep_some : (ws : List PlainWidget) (i : ℕ) → Keep ws → Keep (some_or_none (slice_get ws i))
  keep_some [] i h = tt
  keep_some (w ∷ ws) zero h = (h.0, tt)
  keep_some (w ∷ ws) (suc i) h = keep_some ws i h.1

  keep_cond : (t : Bool) (vs ws : List PlainWidget) → Keep vs → Keep ws → Keep (cond t vs ws)
  keep_cond true vs ws h k = h
  keep_cond false vs ws h k = k

  keep_each : (f : Value → List PlainWidget) (xs : List Value) → ((x : Value) → Keep (f x)) → Keep (flat_map f xs)
  keep_each f [] h = tt
  keep_each f (x ∷ xs) h = keep_append (f x) (flat_map f xs) (h x) (keep_each f xs h)

  -- ---- what members give

  -- in each scene whose contents keep to it
  abbrev Kept : Gives → Type 0
  Kept g = (s : Scene) → Keep s.given → Keep (g s)

  abbrev KeptIf : Option Gives → Type 0
  KeptIf None = Unit {0}
  KeptIf (Some g) = Kept g

  abbrev AllKept : List (Option Gives) → Type 0
  AllKept [] = Unit {0}
  AllKept (g ∷ gs) = KeptIf g × AllKept gs

  keep_at : (gs : List (Option Gives)) (i : ℕ) → AllKept gs → Kept (given_at gs i)
  keep_at [] i h s given = tt
  keep_at (None ∷ gs) zero h s given = tt
  keep_at (Some g ∷ gs) zero h s given = h.0 s given
  keep_at (g ∷ gs) (suc i) h s given = keep_at gs i h.1 s given

  keep_below : (gs : List (Option Gives)) → AllKept gs → Kept (given_below gs)
  keep_below [] h s given = tt
  keep_below (None ∷ gs) h s given = keep_below gs h.1 s given
  keep_below (Some g ∷ gs) h s given = h.0 s given

  -- ---- a template

  widget_kept : (k : KindName) (key : Option KeyExp) (ms : BodyMembers) (gs : List (Option Gives)) → P k → AllKept gs → Kept (λ s. widget_over k key ms s (given_below gs s) ∷ [])
  widget_kept k key ms gs there h s given = ((came k ms s (are_any (given_below gs s)) there, tt, keep_below gs h s given), tt)

  by_kind : (k : KindName) (key : Option KeyExp) (ms : BodyMembers) (gs : List (Option Gives)) → P k → AllKept gs → Kept (output_by (template_role_of k) k key ms gs)
  by_kind kind.Use key ms gs there h s given = ((came kind.Use ms s (are_any (given_below gs s)) there, keep_below gs h s given, tt), tt)
  by_kind kind.Slot key ms gs there h s given = keep_some s.given (name_at ms 0) given
  by_kind kind.If key ms gs there h s given = keep_cond (flag_or false ms 0 s) (given_at gs 1 s) (given_at gs 2 s) (keep_at gs 1 h s given) (keep_at gs 2 h s given)
  by_kind kind.Each key ms gs there h s given = keep_each (λ v. given_at gs 2 (inside v s)) (items_in (value_or_zero ms 1 s)) (λ v. keep_at gs 2 h (inside v s) given)
  by_kind k key ms gs there h s given = widget_kept k key ms gs there h s given

  mutual
    unfolding output_of

    body_keeps : (b : PlainBody) → BodyKindsMeet P b → Kept (output_of b)
    body_keeps (body k key ms) h s given = by_kind k key ms (outputs_in ms) h.0 (members_keep ms h.1) s given

    members_keep : (ms : BodyMembers) → BodyMembersMeet P ms → AllKept (outputs_in ms)
    members_keep no_members h = tt
    members_keep (left_out ms) h = (tt, members_keep ms h)
    members_keep (member p ms) h = (part_keeps p h.0, members_keep ms h.1)

    part_keeps : (p : PlainBodyPart) → BodyPartMeets P p → KeptIf (output_in p)
    part_keeps (expression e) h = tt
    part_keeps (word w) h = tt
    part_keeps (name i) h = tt
    part_keeps (handler sets) h = tt
    part_keeps (child b) h = body_keeps b h
    part_keeps (children bs) h = bodies_keep bs h
    part_keeps (props es) h = tt
    part_keeps (slots bs) h = bodies_keep bs h

    bodies_keep : (bs : PlainBodies) → BodiesMeet P bs → Kept (outputs_of bs)
    bodies_keep no_bodies h s given = tt
    bodies_keep (one_body b bs) h s given = keep_append (output_of b s) (outputs_of bs s) (body_keeps b h.0 s given) (bodies_keep bs h.1 s given)

-- ---- the bodies of a program's components, and a root

module _ (P : KindName → Type 0) (Q : Look → Type 0) (came : (k : KindName) (ms : BodyMembers) (s : Scene) (below : Bool) → P k → Q (look_by k ms s below)) where
  abbrev AllBodies : List PlainCheckedComponent → Type 0
  AllBodies [] = Unit {0}
  AllBodies (c ∷ cs) = BodyKindsMeet P c.body × AllBodies cs

  by_recursion : (cs : List PlainCheckedComponent) → All (λ (c : PlainCheckedComponent). BodyKindsMeet P c.body) cs → AllBodies cs
  by_recursion [] h = tt
  by_recursion (c ∷ cs) h =
      let R : PlainCheckedComponent → Type 0 = λ c. BodyKindsMeet P c.body in
      (All-head R c cs h, by_recursion cs (All-tail R c cs h))

  found_keeps : (cs : List PlainCheckedComponent) (place : ℕ) → AllBodies cs → (s : Scene) → Meet Q s.given → Meet Q (output_in_body (slice_get cs place) s)
  found_keeps [] place h s given = tt
  found_keeps (c ∷ cs) zero h s given = body_keeps P Q came c.body h.0 s given
  found_keeps (c ∷ cs) (suc place) h s given = found_keeps cs place h.1 s given

  pub outputs_meet : (c : PlainChecked) → All (λ (d : PlainCheckedComponent). BodyKindsMeet P d.body) c.components → OutputsMeet Q (blueprint_of c)
  outputs_meet c h place given_props contents fields values number given =
      found_keeps c.components place (by_recursion c.components h) (scene_in c (names_in given_props fields values) contents number) given

pub outputs_keep : (c : PlainChecked) → KeepsToVersion c → OutputsMeet (LookIsOf c.version) (blueprint_of c)
outputs_keep c h = outputs_meet (IsOfVersion c.version) (LookIsOf c.version) (look_of_version c.version) c h.components

pub root_keeps : (c : PlainChecked) (b : PlainBody) → BodyKeepsTo c.version b → Meet (LookIsOf c.version) (root_output c b)
root_keeps c b h = body_keeps (IsOfVersion c.version) (LookIsOf c.version) (look_of_version c.version) b h (scene_in c (props_alone []) [] 0) tt

-- ---- a template that isn't one of a lazy list gives none

no_list_made : (k : KindName) (ms : BodyMembers) (s : Scene) (below : Bool) → IsNoListKind k → IsNoList (look_by k ms s below)
no_list_made kind.SliverLazy ms s below h = absurd (cc)
no_list_made k ms s below h = refl

pub outputs_list_nothing : (c : PlainChecked) → HasNoListBodies c → OutputsMeet IsNoList (blueprint_of c)
outputs_list_nothing c h = outputs_meet IsNoListKind IsNoList no_list_made c h
