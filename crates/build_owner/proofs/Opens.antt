-- A widget is opened step by step.
use Rattle.std.proofs.Common.{◌≡◌, ℕ, suc, ◌+◌, nat_le, Bool, true, false, not, ◌&&◌, cond, Option, Some, None, IsSome, IfSome, option_map, List, refl, sym, ap, ◌∙◌, subst, arith}
use Rattle.std.specs.declared.alloc.Global.{Global}
use Rattle.std.specs.declared.rc.Rc.{Rc}
use Rattle.fx_expr.specs.declared.values.Value.{Value}
use Rattle.fx_handles.specs.declared.Handle.{Handle}
use Rattle.node_tree.specs.Children.{Keeps}
use Rattle.node_tree.specs.Tree.{Tree}
use Rattle.widget_keys.specs.declared.keys.Key.{Key}
use Rattle.widget_keys.specs.declared.keys.Key.TheVariants as key
use Rattle.widget_model.specs.declared.widgets.Widget.{Widget}
use Rattle.widget_model.specs.Plain.{PlainWidget, look_of, key_of}
use Rattle.widget_model.specs.Typed.{Declarations}
use Rattle.widget_model.specs.View.{shared}
use Rattle.plain_tree.specs.PlainNode.{PlainNode}
use Rattle.plain_tree.specs.RenderRole.{vanishes, render_role_of}
use Rattle.build_form.specs.BuildRole.{BuildRole, composes, provides, keeps, lists, holds, build_role_of}
use Rattle.build_form.specs.Entering.{Basis, met_once, number_for, fields_for, next_after, counted, given_by, apart, Opening, opening}
use Rattle.build_form.specs.Partner.{Arrival, partner_of}
use Rattle.build_form.specs.Step.{Fault, repeated_global_key, tree_too_large, Progress, Step, stops, gives, and_then}
use Rattle.element_tree.specs.Element.{Element}
use Rattle.global_keys.specs.Holders.{Registry}
use Rattle.render_tree.specs.Object.{RenderObject}
use Rattle.render_tree.specs.Tree.{object_at}
use Rattle.work_sets.specs.Due.{names_read}
use Rattle.work_sets.specs.Entered.{is_met, is_let_in}
use Rattle.build_walk.specs.Counting.{built_here, builds_opening}
use Rattle.build_walk.specs.Entered.{StoresGiven}
use Rattle.build_walk.specs.Keeping.{kept_or, kept_output, reopened}
use Rattle.build_walk.specs.Kept.{plain_at_any}
use Rattle.build_walk.specs.Past.{Pasts}
use Rattle.build_walk.specs.Renewing.{IsDrawn, Unless}
use Rattle.build_owner.specs.declared.giving.GivenWidgets.{GivenWidgets}
use Rattle.build_owner.specs.declared.owning.Owned.{Owned}
use Rattle.build_owner.specs.Entry.{IsTypedElement, IsOpened}
use Rattle.build_owner.specs.Given.{Stores, given_to}
use Rattle.build_owner.specs.LastFrame.{LastFrame, IsSince}
use Rattle.build_owner.specs.Owned.{OwnsElement}

when_true : {A : Type 0} (b : Bool) (x y : A) → b ≡ true → cond b x y ≡ x
when_true b x y e = ap (λ t. cond t x y) e

when_false : {A : Type 0} (b : Bool) (x y : A) → b ≡ false → cond b x y ≡ y
when_false b x y e = ap (λ t. cond t x y) e

-- ---- whether its key was met before

abbrev tried : Value → Progress → Bool → Step (Unit {0})
tried v s m = cond m (stops (repeated_global_key v)) (gives tt s)

met_when : (v : Value) (s : Progress) (m : Bool) (x : Fault) → tried v s m ≡ stops x → m ≡ true
met_when v s true x is = refl
met_when v s false x is = cc

not_met_when : (v : Value) (s t : Progress) (m : Bool) → tried v s m ≡ gives tt t → m ≡ false
not_met_when v s t true is = cc
not_met_when v s t false is = refl

was_met : (k : Key Value) (s : Progress) (x : Fault) → met_once k s ≡ stops x → is_met k s ≡ true
was_met key.None s x is = cc
was_met (key.Local v) s x is = cc
was_met (key.Global v) s x is = met_when v _ (s.met v) x is

wasnt_met : (k : Key Value) (s t : Progress) → met_once k s ≡ gives tt t → is_met k s ≡ false
wasnt_met key.None s t is = refl
wasnt_met (key.Local v) s t is = refl
wasnt_met (key.Global v) s t is = not_met_when v _ t (s.met v) is

module _ (from : Basis) (pasts : Pasts) (values : List Value) (a : Arrival) (s : Progress) where
  abbrev partner : Option PlainNode
  partner = partner_of from.holder a

  abbrev full : Bool
  full = nat_le from.program.nodes s.entered

  abbrev kept : Option (List PlainWidget)
  kept = kept_output pasts partner a.widget values

  abbrev given : ℕ → List Value → Progress → Step (List PlainWidget)
  given number fields = given_by from.program (build_role_of (look_of a.widget)) values number fields a.widget

  abbrev ends : ℕ → List Value → List PlainWidget → Progress → Step Opening
  ends number fields ws s2 = and_then (apart ws s2) (λ vs s3. gives (opening partner number fields vs) s3)

  abbrev later : Progress → Step Opening
  later s1 =
      let number = number_for partner s1 in
      let fields = fields_for from.program a.widget partner in
      and_then (kept_or kept (given number fields) (counted partner s1)) (λ ws s2. ends number fields ws s2)

  entered_once : full ≡ false → reopened from pasts values a s ≡ and_then (met_once (key_of a.widget) s) (λ _ s1. later s1)
  entered_once room = when_false full _ _ room

  -- ---- where it stops

  pub too_many : full ≡ true → reopened from pasts values a s ≡ stops tree_too_large
  too_many e = when_true full _ _ e

  pub key_again : (x : Fault) → full ≡ false → met_once (key_of a.widget) s ≡ stops x → reopened from pasts values a s ≡ stops x
  key_again x room is = entered_once room ∙ ap (λ r. and_then r (λ _ s1. later s1)) is

  module _ (met : Progress) (room : full ≡ false) (is : met_once (key_of a.widget) s ≡ gives tt met) (number : ℕ) (fields : List Value)
      (number_is : number ≡ number_for partner met) (fields_is : fields ≡ fields_for from.program a.widget partner) where
    so_far : reopened from pasts values a s ≡ and_then (kept_or kept (given number fields) (counted partner met)) (λ ws s2. ends number fields ws s2)
    so_far =
        entered_once room
        ∙ ap (λ r. and_then r (λ _ s1. later s1)) is
        ∙ (λ i. and_then (kept_or kept (given (sym number_is i) (sym fields_is i)) (counted partner met)) (λ ws s2. ends (sym number_is i) (sym fields_is i) ws s2))

    pub no_output : (x : Fault) → kept_or kept (given number fields) (counted partner met) ≡ stops x → reopened from pasts values a s ≡ stops x
    no_output x stopped = so_far ∙ ap (λ r. and_then r (λ ws s2. ends number fields ws s2)) stopped

    module _ (ws : List PlainWidget) (output : kept_or kept (given number fields) (counted partner met) ≡ gives ws (counted partner met)) where
      with_output : reopened from pasts values a s ≡ ends number fields ws (counted partner met)
      with_output = so_far ∙ ap (λ r. and_then r (λ vs s2. ends number fields vs s2)) output

      pub not_apart : (x : Fault) → apart ws (counted partner met) ≡ stops x → reopened from pasts values a s ≡ stops x
      not_apart x stopped = with_output ∙ ap (λ r. and_then r (λ vs s3. gives (opening partner number fields vs) s3)) stopped

      pub all_open : (t : Progress) → apart ws (counted partner met) ≡ gives ws (counted partner met) → counted partner met ≡ t
          → reopened from pasts values a s ≡ gives (opening partner number fields ws) t
      all_open t apart_so after =
          with_output
          ∙ ap (λ r. and_then r (λ vs s3. gives (opening partner number fields vs) s3)) apart_so
          ∙ ap (λ u. gives (opening partner number fields ws) u) after

  -- ---- what is built

  pub none_built : full ≡ true → builds_opening from pasts values a s ≡ 0
  none_built e = when_false (is_let_in from a s) _ _ (ap (λ b. not b && not (is_met (key_of a.widget) s)) e)

  pub none_again : (x : Fault) → full ≡ false → met_once (key_of a.widget) s ≡ stops x → builds_opening from pasts values a s ≡ 0
  none_again x room is = when_false (is_let_in from a s) _ _ (λ i. not (room i) && not (was_met (key_of a.widget) s x is i))

  pub built_there : (met : Progress) → full ≡ false → met_once (key_of a.widget) s ≡ gives tt met → builds_opening from pasts values a s ≡ built_here (names_read (look_of a.widget)) kept
  built_there met room is = when_true (is_let_in from a s) _ _ (λ i. not (room i) && not (wasnt_met (key_of a.widget) s met is i))

-- ---- how far the build has come then

pub counted_so : (from : Option PlainNode) (met : Progress) (e n : ℕ) (keys : Value → Bool) (ws : List (Option PlainNode)) → suc met.entered ≡ e → met.met ≡ keys → next_after from met.next ≡ n
    → met.waiting ≡ ws → counted from met ≡ record { entered = e; met = keys; next = n; waiting = ws }
counted_so from met e n keys ws entered same next waiting = λ i. record { entered = entered i; met = same i; next = next i; waiting = waiting i }

-- ---- what is known then

stored_given : (r : BuildRole) (e : Element) (ws : List PlainWidget) → Stores r e.output ws → StoresGiven r e ws
stored_given (composes place props) e ws h = λ clean. h
stored_given (provides name value) e ws h = tt
stored_given (keeps keep) e ws h = tt
stored_given (lists extent) e ws h = tt
stored_given holds e ws h = tt

-- the element that it becomes
abbrev pub element_of : Arrival → Element → Option PlainWidget → Option Handle → Element
element_of a was output render = record { number = was.number; widget = a.widget; fields = was.fields; index = a.place; dirty = false; output = output; render = render }

pub opened_whole : (f : LastFrame) (from : Basis) (values olds : List Value) (a : Arrival) (before after : Progress) (t : Tree Element) (r : Tree RenderObject) (g : Registry) (o : Owned)
    (given : GivenWidgets) (output : Option (Rc Widget Global)) (render : Option Handle) (owned : OwnsElement f from olds a before t g o)
    → reopened from f.pasts values a before ≡ gives (opening (partner_of from.holder a) owned.element.number owned.element.fields (given_to a.widget given)) after
    → Stores (build_role_of (look_of a.widget)) (option_map shared output) (given_to a.widget given)
    → Unless (vanishes (render_role_of (look_of a.widget))) (IsDrawn (object_at r) (f.scrolled owned.element.number) (element_of a owned.element (option_map shared output) render))
    → (vanishes (render_role_of (look_of a.widget)) ≡ true → render ≡ None)
    → IsOpened f from values olds a before after t r (record { at = o.at; partner = o.partner; around = o.around; given = given; output = output; render = render })
opened_whole f from values olds a before after t r g o given output render owned is stores drawn unseen =
    let e = element_of a owned.element (option_map shared output) render in
    record {
      opening = opening (partner_of from.holder a) owned.element.number owned.element.fields (given_to a.widget given);
      is = is;
      element = e;
      for = record {
        number = refl;
        widget = refl;
        fields = refl;
        place = refl;
        scroll = owned.scroll;
        output = stored_given (build_role_of (look_of a.widget)) e (given_to a.widget given) stores;
      };
      goes = record { was = owned.element; stored = owned.stored; number = refl; fields = refl; follows = owned.follows; clean = refl };
      drawn = drawn;
      unseen = unseen;
      output = refl;
      render = refl;
      given = refl;
      partner = sym owned.partner;
      old = owned.old;
    }

-- ---- the steps as they are made

module _ (f : LastFrame) (from : Basis) (values olds : List Value) (a : Arrival) (before : Progress) (t : Tree Element) (g : Registry) (owned : Owned)
    (o : OwnsElement f from olds a before t g owned) (room : nat_le from.program.nodes before.entered ≡ false) where
  abbrev kept_there : Option (List PlainWidget)
  kept_there = kept_output f.pasts (plain_at_any f.scrolled f.elements owned.partner) a.widget values

  abbrev step : Progress → Step (List PlainWidget)
  step = given_by from.program (build_role_of (look_of a.widget)) values o.element.number o.element.fields a.widget

  as_partner : (s : Progress) (r : Step (List PlainWidget)) → kept_or kept_there step s ≡ r → kept_or (kept_output f.pasts (partner_of from.holder a) a.widget values) step s ≡ r
  as_partner s r is = ap (λ p. kept_or (kept_output f.pasts p a.widget values) step s) (sym o.partner) ∙ is

  pub fails_output : (x : Fault) → ((s : Progress) → kept_or kept_there step s ≡ stops x) → reopened from f.pasts values a before ≡ stops x
  fails_output x stopped =
      no_output from f.pasts values a before o.met room o.is o.element.number o.element.fields o.number o.fields x
      (as_partner (counted (partner_of from.holder a) o.met) (stops x) (stopped (counted (partner_of from.holder a) o.met)))

  module _ (ws : List PlainWidget) (given_so : (s : Progress) → kept_or kept_there step s ≡ gives ws s) where
    output_so : kept_or (kept_output f.pasts (partner_of from.holder a) a.widget values) step (counted (partner_of from.holder a) o.met) ≡ gives ws (counted (partner_of from.holder a) o.met)
    output_so = as_partner (counted (partner_of from.holder a) o.met) (gives ws (counted (partner_of from.holder a) o.met)) (given_so (counted (partner_of from.holder a) o.met))

    pub fails_apart : (x : Fault) → ((s : Progress) → apart ws s ≡ stops x) → reopened from f.pasts values a before ≡ stops x
    fails_apart x stopped =
        not_apart from f.pasts values a before o.met room o.is o.element.number o.element.fields o.number o.fields ws output_so x (stopped (counted (partner_of from.holder a) o.met))

    pub opens : (after : Progress) → ((s : Progress) → apart ws s ≡ gives ws s) → counted (partner_of from.holder a) o.met ≡ after
        → reopened from f.pasts values a before ≡ gives (opening (partner_of from.holder a) o.element.number o.element.fields ws) after
    opens after apart_so is =
        all_open from f.pasts values a before o.met room o.is o.element.number o.element.fields o.number o.fields ws output_so after (apart_so (counted (partner_of from.holder a) o.met)) is

  pub builds_so : (old new : ℕ) → new ≡ old + built_here (names_read (look_of a.widget)) kept_there → new ≡ old + builds_opening from f.pasts values a before
  builds_so old new is =
      is
      ∙ ap (λ p. old + built_here (names_read (look_of a.widget)) (kept_output f.pasts p a.widget values)) o.partner
      ∙ ap (λ n. old + n) (sym (built_there from f.pasts values a before o.met room o.is))

  -- the same where the names are known by another equal list of values
  pub as_named : (vs : List Value) → vs ≡ values → (s : Progress) (r : Step (List PlainWidget))
      → kept_or (kept_output f.pasts (plain_at_any f.scrolled f.elements owned.partner) a.widget vs) (given_by from.program (build_role_of (look_of a.widget)) vs o.element.number o.element.fields a.widget) s ≡ r
      → kept_or kept_there step s ≡ r
  as_named vs same s r is =
      subst (λ us. kept_or (kept_output f.pasts (plain_at_any f.scrolled f.elements owned.partner) a.widget us) (given_by from.program (build_role_of (look_of a.widget)) us o.element.number o.element.fields a.widget) s ≡ r)
      same is

  pub counted_named : (vs : List Value) → vs ≡ values → (old new : ℕ) → new ≡ old + built_here (names_read (look_of a.widget)) (kept_output f.pasts (plain_at_any f.scrolled f.elements owned.partner) a.widget vs)
      → new ≡ old + built_here (names_read (look_of a.widget)) kept_there
  counted_named vs same old new is =
      subst (λ us. new ≡ old + built_here (names_read (look_of a.widget)) (kept_output f.pasts (plain_at_any f.scrolled f.elements owned.partner) a.widget us)) same is

pub none_so : (n old new : ℕ) → n ≡ 0 → new ≡ old → new ≡ old + n
none_so n old new zero same = omega (arith, zero, same)

-- ---- what holds on

-- what a walk found of the last frame stays so where render nodes are added
pub drawn_since : (defaults : List Value) (f : LastFrame) (t : Tree Element) (r s : Tree RenderObject) (g : Registry) → Keeps r s → IsSince defaults f t r g → IsSince defaults f t s g
drawn_since defaults f t r s g grows since = record {
  tree = since.tree;
  old = since.old;
  named = since.named;
  elements = since.elements;
  renders = λ h live. grows h (subst IsSome (sym (since.renders h live)) live) ∙ since.renders h live;
  holders = since.holders;
  fresh = since.fresh;
}

-- the old element of an element is typed
pub alone_typed : (d : Declarations) (t : Tree Element) (at : Handle) (o : Option Handle) → IfSome o (λ h. (h ≡ at) × IsTypedElement d t h) → IfSome o (IsTypedElement d t)
alone_typed d t at None h = tt
alone_typed d t at (Some x) h = h.1
