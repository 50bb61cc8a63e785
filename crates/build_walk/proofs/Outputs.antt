-- What templates give depends on the inherited values that they read.
use Rattle.std.proofs.Common.{◌≡◌, ℕ, zero, suc, pos, Bool, false, length, List, [], ◌∷◌, ◌++◌, map, Option, Some, None, option_map, unwrap_or, slice_get, refl, sym, ap, ◌∙◌}
use Rattle.std.specs.Prelude.{flat_map, if◌then◌else◌}
use Rattle.std.specs.List.{list_any}
use Rattle.fx_expr.specs.declared.values.Value.{Value}
use Rattle.fx_expr.specs.declared.values.Value.TheVariants as value
use Rattle.fx_expr.specs.Exp.{Exp}
use Rattle.fx_expr.specs.Scope.{Env}
use Rattle.fx_expr.specs.ValueOf.{value_of}
use Rattle.fx_expr.specs.Value.{bool_in}
use Rattle.fx_expr.specs.SomeForm.{reads_inherited}
use Rattle.program_form.specs.declared.kinds.KindName.{KindName}
use Rattle.program_form.specs.declared.kinds.KindName.TheVariants as kind
use Rattle.program_check.specs.Body.{KeyExp, local, global, PlainBody, body, BodyMembers, no_members, left_out, member, PlainBodyPart, expression, word, name, handler, child, children, props, slots, PlainBodies, no_bodies, one_body}
use Rattle.program_check.specs.Decl.{reads_in_key, reads_in_body, reads_in_members, reads_in_part, reads_in_bodies, names_read}
use Rattle.program_check.specs.Checked.{PlainCheckedComponent, PlainChecked}
use Rattle.widget_model.specs.Plain.{PlainWidget, plain, no_widgets, widgets_of}
use Rattle.template_build.specs.Scene.{Scene, inside}
use Rattle.template_build.specs.TemplateRole.{template_role_of}
use Rattle.template_build.specs.Members.{value_given, key_in, handler_given, props_at, closed_set}
use Rattle.template_build.specs.Looks.{look_by}
use Rattle.template_build.specs.Output.{given_by, given_at, given_below, items_in, are_any, widget_over, component_over, output_by, output_of, outputs_in, output_in, outputs_of}
use Rattle.template_build.specs.Program.{scene_in, output_in_body, component_output}
use Rattle.build_walk.specs.Reading.{AgreeAt}
use Rattle.build_walk.proofs.Reading.{seeing, Agree, left, right, value_same, closed_same, agree}

-- a scene with other inherited values
abbrev scene_seeing : List Value → Scene → Scene
scene_seeing values s = record { env = seeing values s.env; given = s.given; owner = s.owner; declared = s.declared }

module _ (was now : List Value) where
  -- ---- lists of expressions

  props_same : (es : List Exp) → Agree was now (λ i. list_any (reads_inherited i) es) → (s : Env)
      → map (λ e. value_of e (seeing was s)) es ≡ map (λ e. value_of e (seeing now s)) es
  props_same [] h s = refl
  props_same (e ∷ es) h s =
      let p = λ (i : ℕ). reads_inherited i e in
      let q = λ (i : ℕ). list_any (reads_inherited i) es in
      λ j. value_same was now e (left was now p q h) s j ∷ props_same es (right was now p q h) s j

  sets_same : (sets : List (ℕ × Exp)) → Agree was now (λ i. list_any (λ (set : ℕ × Exp). reads_inherited i set.1) sets) → (s : Env)
      → map (closed_set (seeing was s)) sets ≡ map (closed_set (seeing now s)) sets
  sets_same [] h s = refl
  sets_same (set ∷ sets) h s =
      let p = λ (i : ℕ). reads_inherited i set.1 in
      let q = λ (i : ℕ). list_any (λ (x : ℕ × Exp). reads_inherited i x.1) sets in
      λ j. (set.0, closed_same was now set.1 (left was now p q h) s j) ∷ sets_same sets (right was now p q h) s j

  key_same : (key : Option KeyExp) → Agree was now (λ i. reads_in_key i key) → (s : Scene) → key_in key (scene_seeing was s) ≡ key_in key (scene_seeing now s)
  key_same None h s = refl
  key_same (Some (local e)) h s = rw (value_same was now e h s.env) refl
  key_same (Some (global e)) h s = rw (value_same was now e h s.env) refl

  -- ---- the members of a template that hold no other

  abbrev MembersRead : BodyMembers → ℕ → Bool
  MembersRead ms i = reads_in_members i ms

  abbrev PartReads : PlainBodyPart → ℕ → Bool
  PartReads p i = reads_in_part i p

  part_value : (p : PlainBodyPart) → Agree was now (PartReads p) → (s : Scene)
      → value_given (member p no_members) 0 (scene_seeing was s) ≡ value_given (member p no_members) 0 (scene_seeing now s)
  part_value (expression e) h s = ap Some (value_same was now e h s.env)
  part_value (word w) h s = refl
  part_value (name i) h s = refl
  part_value (handler sets) h s = refl
  part_value (child b) h s = refl
  part_value (children bs) h s = refl
  part_value (props es) h s = refl
  part_value (slots bs) h s = refl

  values_given : (ms : BodyMembers) → Agree was now (MembersRead ms) → (s : Scene) (i : ℕ)
      → value_given ms i (scene_seeing was s) ≡ value_given ms i (scene_seeing now s)
  values_given no_members h s i = refl
  values_given (left_out ms) h s zero = refl
  values_given (left_out ms) h s (suc i) = values_given ms h s i
  values_given (member p ms) h s zero = part_value p (left was now (PartReads p) (MembersRead ms) h) s
  values_given (member p ms) h s (suc i) = values_given ms (right was now (PartReads p) (MembersRead ms) h) s i

  part_handler : (p : PlainBodyPart) → Agree was now (PartReads p) → (s : Scene)
      → handler_given (member p no_members) 0 (scene_seeing was s) ≡ handler_given (member p no_members) 0 (scene_seeing now s)
  part_handler (expression e) h s = refl
  part_handler (word w) h s = refl
  part_handler (name i) h s = refl
  part_handler (handler sets) h s = λ j. Some (record { owner = s.owner; sets = sets_same sets h s.env j })
  part_handler (child b) h s = refl
  part_handler (children bs) h s = refl
  part_handler (props es) h s = refl
  part_handler (slots bs) h s = refl

  handlers_given : (ms : BodyMembers) → Agree was now (MembersRead ms) → (s : Scene) (i : ℕ)
      → handler_given ms i (scene_seeing was s) ≡ handler_given ms i (scene_seeing now s)
  handlers_given no_members h s i = refl
  handlers_given (left_out ms) h s zero = refl
  handlers_given (left_out ms) h s (suc i) = handlers_given ms h s i
  handlers_given (member p ms) h s zero = part_handler p (left was now (PartReads p) (MembersRead ms) h) s
  handlers_given (member p ms) h s (suc i) = handlers_given ms (right was now (PartReads p) (MembersRead ms) h) s i

  part_props : (p : PlainBodyPart) → Agree was now (PartReads p) → (s : Scene)
      → props_at (member p no_members) 0 (scene_seeing was s) ≡ props_at (member p no_members) 0 (scene_seeing now s)
  part_props (expression e) h s = refl
  part_props (word w) h s = refl
  part_props (name i) h s = refl
  part_props (handler sets) h s = refl
  part_props (child b) h s = refl
  part_props (children bs) h s = refl
  part_props (props es) h s = props_same es h s.env
  part_props (slots bs) h s = refl

  props_given : (ms : BodyMembers) → Agree was now (MembersRead ms) → (s : Scene) (i : ℕ)
      → props_at ms i (scene_seeing was s) ≡ props_at ms i (scene_seeing now s)
  props_given no_members h s i = refl
  props_given (left_out ms) h s zero = refl
  props_given (left_out ms) h s (suc i) = props_given ms h s i
  props_given (member p ms) h s zero = part_props p (left was now (PartReads p) (MembersRead ms) h) s
  props_given (member p ms) h s (suc i) = props_given ms (right was now (PartReads p) (MembersRead ms) h) s i

  -- ---- what a widget is

  look_same : (k : KindName) (ms : BodyMembers) (s : Scene) (below : Bool)
      → ((i : ℕ) → value_given ms i (scene_seeing was s) ≡ value_given ms i (scene_seeing now s))
      → ((i : ℕ) → handler_given ms i (scene_seeing was s) ≡ handler_given ms i (scene_seeing now s))
      → ((i : ℕ) → props_at ms i (scene_seeing was s) ≡ props_at ms i (scene_seeing now s))
      → look_by k ms (scene_seeing was s) below ≡ look_by k ms (scene_seeing now s) below
  look_same kind.Slot ms s below values handlers given = refl
  look_same k ms s below values handlers given = first_of (simp (values, handlers, given), cc)

  module _ (k : KindName) (key : Option KeyExp) (ms : BodyMembers) (h : Agree was now (MembersRead ms))
      (keys : (s : Scene) → key_in key (scene_seeing was s) ≡ key_in key (scene_seeing now s))
      (at : (i : ℕ) (s : Scene) → given_at (outputs_in ms) i (scene_seeing was s) ≡ given_at (outputs_in ms) i (scene_seeing now s))
      (below : (s : Scene) → given_below (outputs_in ms) (scene_seeing was s) ≡ given_below (outputs_in ms) (scene_seeing now s)) where
    this_look : (s : Scene) (any : Bool) → look_by k ms (scene_seeing was s) any ≡ look_by k ms (scene_seeing now s) any
    this_look s any = look_same k ms s any (values_given ms h s) (handlers_given ms h s) (props_given ms h s)

    over_same : (s : Scene) (ws : List PlainWidget) → widget_over k key ms (scene_seeing was s) ws ≡ widget_over k key ms (scene_seeing now s) ws
    over_same s ws = λ j. plain (this_look s (are_any ws) j) (keys s j) no_widgets (widgets_of ws)

    use_same : (s : Scene) (ws : List PlainWidget) → component_over k key ms (scene_seeing was s) ws ≡ component_over k key ms (scene_seeing now s) ws
    use_same s ws = λ j. plain (this_look s (are_any ws) j) (keys s j) (widgets_of ws) no_widgets

    widget_same : (s : Scene) → widget_over k key ms (scene_seeing was s) (given_below (outputs_in ms) (scene_seeing was s)) ∷ [] ≡ widget_over k key ms (scene_seeing now s) (given_below (outputs_in ms) (scene_seeing now s)) ∷ []
    widget_same s =
        ap (λ ws. widget_over k key ms (scene_seeing was s) ws ∷ []) (below s) ∙ ap (λ w. w ∷ []) (over_same s (given_below (outputs_in ms) (scene_seeing now s)))

    component_used : (s : Scene) → component_over k key ms (scene_seeing was s) (given_below (outputs_in ms) (scene_seeing was s)) ∷ [] ≡ component_over k key ms (scene_seeing now s) (given_below (outputs_in ms) (scene_seeing now s)) ∷ []
    component_used s =
        ap (λ ws. component_over k key ms (scene_seeing was s) ws ∷ []) (below s) ∙ ap (λ w. w ∷ []) (use_same s (given_below (outputs_in ms) (scene_seeing now s)))

  kind_same : (k : KindName) (key : Option KeyExp) (ms : BodyMembers) → Agree was now (MembersRead ms)
      → ((s : Scene) → key_in key (scene_seeing was s) ≡ key_in key (scene_seeing now s))
      → ((i : ℕ) (s : Scene) → given_at (outputs_in ms) i (scene_seeing was s) ≡ given_at (outputs_in ms) i (scene_seeing now s))
      → ((s : Scene) → given_below (outputs_in ms) (scene_seeing was s) ≡ given_below (outputs_in ms) (scene_seeing now s))
      → (s : Scene) → output_by (template_role_of k) k key ms (outputs_in ms) (scene_seeing was s) ≡ output_by (template_role_of k) k key ms (outputs_in ms) (scene_seeing now s)
  kind_same kind.Use key ms h keys at below s = component_used kind.Use key ms h keys at below s
  kind_same kind.Slot key ms h keys at below s = refl
  kind_same kind.If key ms h keys at below s =
      λ j. if unwrap_or (option_map bool_in (values_given ms h s 0 j)) false then at 1 s j else at 2 s j
  kind_same kind.Each key ms h keys at below s =
      λ j. flat_map (λ v. at 2 (inside v s) j) (items_in (unwrap_or (values_given ms h s 1 j) (value.Int (pos 0))))
  kind_same k key ms h keys at below s = widget_same k key ms h keys at below s

  -- ---- whole templates

  abbrev BodyReads : PlainBody → ℕ → Bool
  BodyReads b i = reads_in_body i b

  abbrev BodiesRead : PlainBodies → ℕ → Bool
  BodiesRead bs i = reads_in_bodies i bs

  abbrev KeyReads : Option KeyExp → ℕ → Bool
  KeyReads key i = reads_in_key i key

  mutual
    unfolding output_of outputs_in output_in outputs_of

    pub output_same : (b : PlainBody) → Agree was now (BodyReads b) → (s : Scene) → output_of b (scene_seeing was s) ≡ output_of b (scene_seeing now s)
    output_same (body k key ms) h s =
        let of_key = left was now (KeyReads key) (MembersRead ms) h in
        let of_members = right was now (KeyReads key) (MembersRead ms) h in
        kind_same k key ms of_members (λ s1. key_same key of_key s1) (λ i s1. at_same ms of_members i s1) (λ s1. below_same ms of_members s1) s

    at_same : (ms : BodyMembers) → Agree was now (MembersRead ms) → (i : ℕ) (s : Scene) → given_at (outputs_in ms) i (scene_seeing was s) ≡ given_at (outputs_in ms) i (scene_seeing now s)
    at_same no_members h i s = refl
    at_same (left_out ms) h zero s = refl
    at_same (left_out ms) h (suc i) s = at_same ms h i s
    at_same (member p ms) h zero s = part_same p (left was now (PartReads p) (MembersRead ms) h) s
    at_same (member p ms) h (suc i) s = at_same ms (right was now (PartReads p) (MembersRead ms) h) i s

    below_same : (ms : BodyMembers) → Agree was now (MembersRead ms) → (s : Scene) → given_below (outputs_in ms) (scene_seeing was s) ≡ given_below (outputs_in ms) (scene_seeing now s)
    below_same no_members h s = refl
    below_same (left_out ms) h s = below_same ms h s
    below_same (member (expression e) ms) h s = below_same ms (right was now (PartReads (expression e)) (MembersRead ms) h) s
    below_same (member (word w) ms) h s = below_same ms h s
    below_same (member (name i) ms) h s = below_same ms h s
    below_same (member (handler sets) ms) h s = below_same ms (right was now (PartReads (handler sets)) (MembersRead ms) h) s
    below_same (member (child b) ms) h s = output_same b (left was now (BodyReads b) (MembersRead ms) h) s
    below_same (member (children bs) ms) h s = outputs_same bs (left was now (BodiesRead bs) (MembersRead ms) h) s
    below_same (member (props es) ms) h s = below_same ms (right was now (PartReads (props es)) (MembersRead ms) h) s
    below_same (member (slots bs) ms) h s = outputs_same bs (left was now (BodiesRead bs) (MembersRead ms) h) s

    part_same : (p : PlainBodyPart) → Agree was now (PartReads p) → (s : Scene) → given_by (Some (output_in p)) (scene_seeing was s) ≡ given_by (Some (output_in p)) (scene_seeing now s)
    part_same (expression e) h s = refl
    part_same (word w) h s = refl
    part_same (name i) h s = refl
    part_same (handler sets) h s = refl
    part_same (child b) h s = output_same b h s
    part_same (children bs) h s = outputs_same bs h s
    part_same (props es) h s = refl
    part_same (slots bs) h s = outputs_same bs h s

    outputs_same : (bs : PlainBodies) → Agree was now (BodiesRead bs) → (s : Scene) → outputs_of bs (scene_seeing was s) ≡ outputs_of bs (scene_seeing now s)
    outputs_same no_bodies h s = refl
    outputs_same (one_body b bs) h s =
        λ j. output_same b (left was now (BodyReads b) (BodiesRead bs) h) s j ++ outputs_same bs (right was now (BodyReads b) (BodiesRead bs) h) s j

-- ---- the component at a place

pub component_same : (c : PlainChecked) (place : ℕ) (component : PlainCheckedComponent) (s : Env) (was now : List Value) (contents : List PlainWidget) (n : ℕ)
    → slice_get c.components place ≡ Some component → length was ≡ length c.inherited.names → length now ≡ length c.inherited.names
    → AgreeAt (names_read (length c.inherited.names) component.body) was now
    → component_output c place (seeing was s) contents n ≡ component_output c place (seeing now s) contents n
component_same c place component s was now contents n found long also agrees =
    let alike = agree was now (λ i. reads_in_body i component.body) (length c.inherited.names) long also agrees in
    ap (λ o. output_in_body o (scene_in c (seeing was s) contents n)) found
    ∙ output_same was now component.body alike (scene_in c s contents n)
    ∙ sym (ap (λ o. output_in_body o (scene_in c (seeing now s) contents n)) found)
