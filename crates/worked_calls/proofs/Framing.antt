-- Frames go on where fields are set: the owner's tree has the node, and a plain tree stays well built.
use Rattle.std.proofs.Common.{◌≡◌, ℕ, ◌==◌, Bool, true, false, Option, Some, None, is_some, IfSome, List, [], ◌∷◌, map, refl, sym, ap, ◌∙◌, subst, if◌then◌else◌}
use Rattle.std.proofs.lemmas.Option.{none-some}
use Rattle.std.specs.Option.{option_or}
use Rattle.fx_expr.specs.declared.values.Ty.{Ty}
use Rattle.fx_expr.specs.declared.values.Ty.TheVariants as ty
use Rattle.fx_expr.specs.declared.values.Value.{Value}
use Rattle.fx_expr.specs.Value.{type_of}
use Rattle.reconcile.specs.Keys.{NoKeyRepeats}
use Rattle.widget_model.specs.Plain.{PlainWidget, look_of, children_of as child_widgets}
use Rattle.widget_model.specs.Typed.{Sort, Declarations, sort_of}
use Rattle.plain_tree.specs.At.{node_at, node_in, is_there, changed_at, changed_in, having_fields}
use Rattle.plain_tree.specs.PlainNode.{PlainNode, node, PlainNodes, no_nodes, more_nodes, widget_of, fields_of, list_of}
use Rattle.program_check.specs.Checked.{PlainChecked}
use Rattle.session_form.specs.Handlers.{node_in as node_of}
use Rattle.build_form.specs.BuildRole.{BuildRole, composes, provides, keeps, lists, holds, build_role_of, is_lazy}
use Rattle.build_form.specs.FullBuild.{Screen, Built, failed, built}
use Rattle.build_form.specs.Partner.{widgets_below}
use Rattle.build_form.specs.WellBuilt.{FitFields, FitBelow, IsBuilt, IsWellBuilt, AreWellBuilt, sorts_in}
use Rattle.frame_owner.specs.Frame.{KeptFrame}
use Rattle.frame_owner.specs.Framed.{ShowsFrame}
use Rattle.frame_owner.specs.Standing.{FrameStandsFor}

-- ---- the node whose one field, a number, was read

pub record HasOneNumber (tree : Option PlainNode) (number : ℕ) : Type 0 where
  pub value : PlainNode
  pub is : node_of tree number ≡ Some value
  pub types : map type_of (fields_of value) ≡ ty.Int ∷ []

no_cons : {A : Type 0} {x : A} {xs : List A} → [] ≡ x ∷ xs → ⊥
no_cons e = cc

one_number_in : (tree : Option PlainNode) (number : ℕ) (o : Option PlainNode) (fields : List Value) → node_of tree number ≡ o → ((n : PlainNode) → node_of tree number ≡ Some n → fields ≡ fields_of n)
    → (node_of tree number ≡ None → fields ≡ []) → map type_of fields ≡ ty.Int ∷ [] → HasOneNumber tree number
one_number_in tree number (Some n) fields is there none types = record { value = n; is = is; types = ap (map type_of) (sym (there n is)) ∙ types }
one_number_in tree number None fields is there none types = absurd (no_cons (ap (map type_of) (sym (none is)) ∙ types))

pub one_number : (tree : Option PlainNode) (number : ℕ) (fields : List Value) → ((n : PlainNode) → node_of tree number ≡ Some n → fields ≡ fields_of n)
    → (node_of tree number ≡ None → fields ≡ []) → map type_of fields ≡ ty.Int ∷ [] → HasOneNumber tree number
one_number tree number fields there none types = one_number_in tree number (node_of tree number) fields refl there none types

-- ---- other fields leave the widgets of a tree

kept_if : {A : Type 0} (g : PlainWidget → A) (b : Bool) (n m : PlainNode) (a : A) → g (widget_of n) ≡ a → g (widget_of m) ≡ a → g (widget_of (if b then n else m)) ≡ a
kept_if g true n m a h k = h
kept_if g false n m a h k = k

kept_at : {A : Type 0} (g : PlainWidget → A) (fs : List Value) (wanted : ℕ) (n : PlainNode) → g (widget_of (changed_at (having_fields fs) wanted n)) ≡ g (widget_of n)
kept_at g fs wanted (node number w f s i ns) =
    kept_if g (number == wanted) (node number w fs s i ns) (node number w f s i (changed_in (having_fields fs) wanted ns)) (g w) refl refl

all_if : {A : Type 0} (g : PlainWidget → A) (b : Bool) (ns ms : PlainNodes) (l : List A) → map (λ n. g (widget_of n)) (list_of ns) ≡ l → map (λ n. g (widget_of n)) (list_of ms) ≡ l
    → map (λ n. g (widget_of n)) (list_of (if b then ns else ms)) ≡ l
all_if g true ns ms l h k = h
all_if g false ns ms l h k = k

kept_in : {A : Type 0} (g : PlainWidget → A) (fs : List Value) (wanted : ℕ) (ns : PlainNodes)
    → map (λ n. g (widget_of n)) (list_of (changed_in (having_fields fs) wanted ns)) ≡ map (λ n. g (widget_of n)) (list_of ns)
kept_in g fs wanted no_nodes = refl
kept_in g fs wanted (more_nodes n ns) =
    all_if g (is_there wanted n) (more_nodes (changed_at (having_fields fs) wanted n) ns) (more_nodes n (changed_in (having_fields fs) wanted ns)) (g (widget_of n) ∷ map (λ m. g (widget_of m)) (list_of ns))
    (ap (λ a. a ∷ map (λ m. g (widget_of m)) (list_of ns)) (kept_at g fs wanted n)) (ap (λ l. g (widget_of n) ∷ l) (kept_in g fs wanted ns))

-- ---- and so it stays well built, where they are of the same types

no_types : (fs : List Value) → map type_of fs ≡ [] → fs ≡ []
no_types [] e = refl
no_types (x ∷ fs) e = absurd (no_cons (sym e))

still_fit : (d : Declarations) (p : BuildRole) (old new : List Value) → map type_of new ≡ map type_of old → FitFields d p old → FitFields d p new
still_fit d (composes place props) old new same h = same ∙ h
still_fit d (provides name value) old new same h = no_types new (same ∙ ap (map type_of) h)
still_fit d (keeps kept) old new same h = no_types new (same ∙ ap (map type_of) h)
still_fit d (lists extent) old new same h = no_types new (same ∙ ap (map type_of) h)
still_fit d holds old new same h = no_types new (same ∙ ap (map type_of) h)

still_built : (d : Declarations) (w : PlainWidget) (old new : List Value) (ws vs : List PlainWidget) (ss ts : List Sort) → map type_of new ≡ map type_of old → vs ≡ ws → ts ≡ ss
    → IsBuilt d w old ws ss → IsBuilt d w new vs ts
still_built d w old new ws vs ss ts same widgets sorts h =
    record {
      typed = h.typed;
      suited = still_fit d (build_role_of (look_of w)) old new same h.suited;
      apart = subst (λ (l : List PlainWidget). NoKeyRepeats l) (sym widgets) h.apart;
      fits = subst (λ (l : List Sort). FitBelow d (look_of w) (build_role_of (look_of w)) l) (sym sorts) h.fits;
    }

abbrev pub AreTypes : List Value → Option PlainNode → Type 0
AreTypes fs o = (n : PlainNode) → o ≡ Some n → map type_of fs ≡ map type_of (fields_of n)

well_if : (d : Declarations) (fs : List Value) (b : Bool) (n x y : PlainNode) (below : Option PlainNode) → AreTypes fs (if b then Some n else below)
    → (map type_of fs ≡ map type_of (fields_of n) → IsWellBuilt d x) → (AreTypes fs below → IsWellBuilt d y) → IsWellBuilt d (if b then x else y)
well_if d fs true n x y below types h k = h (types n refl)
well_if d fs false n x y below types h k = k types

wells_if : (d : Declarations) (fs : List Value) (o below : Option PlainNode) (xs ys : PlainNodes) → AreTypes fs (option_or o below)
    → (AreTypes fs o → AreWellBuilt d xs) → (AreTypes fs below → AreWellBuilt d ys) → AreWellBuilt d (if is_some o then xs else ys)
wells_if d fs (Some n) below xs ys types h k = h types
wells_if d fs None below xs ys types h k = k types

mutual
  pub still_well : (d : Declarations) (fs : List Value) (wanted : ℕ) (n : PlainNode) → AreTypes fs (node_at wanted n) → IsWellBuilt d n → IsWellBuilt d (changed_at (having_fields fs) wanted n)
  still_well d fs wanted (node number w f s i ns) types h =
      let ms = changed_in (having_fields fs) wanted ns in
      well_if d fs (number == wanted) (node number w f s i ns) (node number w fs s i ns) (node number w f s i ms) (node_in wanted ns) types
      (λ same. (still_built d w f fs _ _ _ _ same refl refl h.0, h.1))
      (λ below. (
        still_built d w f f _ _ _ _ refl (ap (λ l. if is_lazy (build_role_of (look_of w)) then child_widgets w else l) (kept_in (λ v. v) fs wanted ns)) (kept_in (sort_of d) fs wanted ns) h.0,
        still_well_in d fs wanted ns below h.1,
      ))

  still_well_in : (d : Declarations) (fs : List Value) (wanted : ℕ) (ns : PlainNodes) → AreTypes fs (node_in wanted ns) → AreWellBuilt d ns → AreWellBuilt d (changed_in (having_fields fs) wanted ns)
  still_well_in d fs wanted no_nodes types h = tt
  still_well_in d fs wanted (more_nodes n ns) types h =
      wells_if d fs (node_at wanted n) (node_in wanted ns) (more_nodes (changed_at (having_fields fs) wanted n) ns) (more_nodes n (changed_in (having_fields fs) wanted ns)) types
      (λ here. (still_well d fs wanted n here h.0, h.1)) (λ below. (h.0, still_well_in d fs wanted ns below h.1))

abbrev types_in : Option PlainNode → List Ty
types_in None = []
types_in (Some n) = map type_of (fields_of n)

-- where a number is set in place of another one
pub set_well : (d : Declarations) (fs : List Value) (wanted : ℕ) (old new had : PlainNode) → node_at wanted old ≡ Some had → map type_of (fields_of had) ≡ ty.Int ∷ [] → map type_of fs ≡ ty.Int ∷ []
    → new ≡ changed_at (having_fields fs) wanted old → IsWellBuilt d old → IsWellBuilt d new
set_well d fs wanted old new had is before types same h =
    subst (λ (n : PlainNode). IsWellBuilt d n) (sym same) (still_well d fs wanted old (λ n e. types ∙ sym before ∙ ap types_in (sym is ∙ e)) h)

-- ---- what a frame leaves

pub shown_stands : (c : PlainChecked) (screen : Screen) (end : Built) (x : KeptFrame) → ShowsFrame c screen end x → (tree : Option PlainNode) × FrameStandsFor c screen.delegates [] tree x
shown_stands c screen (failed fault) x h = absurd h
shown_stands c screen (built tree next) x h = (_, h.0.stands)
