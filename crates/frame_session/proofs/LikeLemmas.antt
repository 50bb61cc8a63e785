-- Trees that differ in the values of fields and in offsets alone: what holds of one holds of the other.
use Rattle.std.proofs.Common.{◌≡◌, ℕ, ◌==◌, Bool, true, false, Option, Some, None, is_some, List, [], ◌∷◌, map, refl, sym, subst, ap, ◌∙◌, if◌then◌else◌}
use Rattle.std.specs.Option.{option_or}
use Rattle.std.specs.declared.alloc.Global.{Global}
use Rattle.std.specs.declared.rc.Rc.{Rc}
use Rattle.fx_expr.specs.declared.values.Ty.{Ty}
use Rattle.fx_expr.specs.declared.values.Value.{Value}
use Rattle.fx_expr.specs.Value.{type_of}
use Rattle.reconcile.specs.Keys.{NoKeyRepeats}
use Rattle.widget_model.specs.Plain.{PlainWidget, look_of, children_of as child_widgets}
use Rattle.widget_model.specs.Typed.{Sort, Declarations, IsTypedWidget, sort_of}
use Rattle.widget_model.specs.declared.widgets.Widget.{Widget}
use Rattle.plain_tree.specs.At.{node_at, node_in, changed_at, changed_in, having_fields, having_scroll}
use Rattle.plain_tree.specs.Laid.{Laid}
use Rattle.plain_tree.specs.Offsets.{scrolled_by, all_scrolled_by, corrected, offset_at}
use Rattle.plain_tree.specs.PlainNode.{PlainNode, node, PlainNodes, no_nodes, more_nodes, widget_of, fields_of, list_of}
use Rattle.program_check.specs.CheckedView.{plain_checked}
use Rattle.program_check.specs.declared.checked.CheckedParts.{CheckedParts}
use Rattle.template_build.specs.Program.{declarations_of}
use Rattle.build_form.specs.BuildRole.{BuildRole, composes, provides, keeps, lists, holds, build_role_of, is_lazy}
use Rattle.build_form.specs.Numbered.{IsNumbered}
use Rattle.build_form.specs.Partner.{widgets_below}
use Rattle.build_form.specs.WellBuilt.{FitFields, FitBelow, IsBuilt, IsWellBuilt, AreWellBuilt, sorts_in}
use Rattle.frame_session.specs.StandsFor.{HandlersFit, AreSound}
use Rattle.session_form.proofs.TreeLemmas.{Head, heads, first_heads, found_below, handler_by, handler_by_head, fits_by}

abbrev mutual
  pub IsLike : PlainNode → PlainNode → Type 0
  IsLike (node n w f s i ns) (node m v g t j ms) = (m ≡ n) × (v ≡ w) × (map type_of g ≡ map type_of f) × AreLike ns ms

  pub AreLike : PlainNodes → PlainNodes → Type 0
  AreLike no_nodes no_nodes = Unit {0}
  AreLike (more_nodes n ns) (more_nodes m ms) = IsLike n m × AreLike ns ms
  AreLike no_nodes (more_nodes m ms) = ⊥
  AreLike (more_nodes n ns) no_nodes = ⊥

mutual
  pub like_refl : (t : PlainNode) → IsLike t t
  like_refl (node n w f s i ns) = (refl, refl, refl, like_refl_in ns)

  pub like_refl_in : (ns : PlainNodes) → AreLike ns ns
  like_refl_in no_nodes = tt
  like_refl_in (more_nodes n ns) = (like_refl n, like_refl_in ns)

-- ---- the changes of a session

pub like_fields : (fs : List Value) (m : PlainNode) → map type_of fs ≡ map type_of (fields_of m) → IsLike m (having_fields fs m)
like_fields fs (node n w f s i ns) e = (refl, refl, e, like_refl_in ns)

pub like_scroll : (scroll : ℕ) (m : PlainNode) → IsLike m (having_scroll scroll m)
like_scroll scroll (node n w f s i ns) = (refl, refl, refl, like_refl_in ns)

at_like : (own : Bool) (n other : PlainNode) (below : Option PlainNode) (f : PlainNode → PlainNode)
    → ((m : PlainNode) → (if own then Some n else below) ≡ Some m → IsLike m (f m))
    → (((m : PlainNode) → below ≡ Some m → IsLike m (f m)) → IsLike n other) → IsLike n (if own then f n else other)
at_like true n other below f h k = h n refl
at_like false n other below f h k = k h

in_like : (o rest : Option PlainNode) (f : PlainNode → PlainNode) (a b ns : PlainNodes)
    → ((m : PlainNode) → option_or o rest ≡ Some m → IsLike m (f m))
    → (((m : PlainNode) → o ≡ Some m → IsLike m (f m)) → AreLike ns a) → (((m : PlainNode) → rest ≡ Some m → IsLike m (f m)) → AreLike ns b)
    → AreLike ns (if is_some o then a else b)
in_like None rest f a b ns h j k = k h
in_like (Some n) rest f a b ns h j k = j h

mutual
  pub like_changed : (f : PlainNode → PlainNode) (w : ℕ) (t : PlainNode) → ((m : PlainNode) → node_at w t ≡ Some m → IsLike m (f m))
      → IsLike t (changed_at f w t)
  like_changed f w (node own wd fs s i ns) h =
      at_like (own == w) (node own wd fs s i ns) (node own wd fs s i (changed_in f w ns)) (node_in w ns) f h
      (λ k. (refl, refl, refl, like_changed_in f w ns k))

  like_changed_in : (f : PlainNode → PlainNode) (w : ℕ) (ns : PlainNodes) → ((m : PlainNode) → node_in w ns ≡ Some m → IsLike m (f m))
      → AreLike ns (changed_in f w ns)
  like_changed_in f w no_nodes h = tt
  like_changed_in f w (more_nodes n ns) h =
      in_like (node_at w n) (node_in w ns) f (more_nodes (changed_at f w n) ns) (more_nodes n (changed_in f w ns)) (more_nodes n ns) h
      (λ k. (like_changed f w n k, like_refl_in ns)) (λ k. (like_refl n, like_changed_in f w ns k))

mutual
  pub like_scrolled : (o : ℕ → Option ℕ) (t : PlainNode) → IsLike t (scrolled_by o t)
  like_scrolled o (node n w f s i ns) = (refl, refl, refl, like_scrolled_in o ns)

  like_scrolled_in : (o : ℕ → Option ℕ) (ns : PlainNodes) → AreLike ns (all_scrolled_by o ns)
  like_scrolled_in o no_nodes = tt
  like_scrolled_in o (more_nodes n ns) = (like_scrolled o n, like_scrolled_in o ns)

-- ---- handlers, by the kinds of nodes and the types of their fields

abbrev head_with : PlainWidget → List Ty → Head
head_with w ts = record { look = look_of w; types = ts }

head_same : (w v : PlainWidget) (ts us : List Ty) → v ≡ w → us ≡ ts → head_with v us ≡ head_with w ts
head_same w v ts us e k = λ i. head_with (e i) (k i)

first_alike : (a b c d : Option PlainNode) → heads a ≡ heads b → heads c ≡ heads d → heads (option_or a c) ≡ heads (option_or b d)
first_alike a b c d e k = first_heads a c ∙ ap (λ o. option_or o (heads c)) e ∙ ap (λ o. option_or (heads b) o) k ∙ sym (first_heads b d)

mutual
  pub heads_alike : (number : ℕ) (a b : PlainNode) → IsLike a b → heads (node_at number b) ≡ heads (node_at number a)
  heads_alike number (node n w f s i ns) (node m v g t j ms) h =
      ap (λ x. heads (if x == number then Some (node m v g t j ms) else node_in number ms)) h.0
      ∙ found_below (n == number) (node n w f s i ns) (node m v g t j ms) (node_in number ns) (node_in number ms)
      (head_same w v (map type_of f) (map type_of g) h.1 h.2) (heads_alike_in number ns ms h.3)

  heads_alike_in : (number : ℕ) (ns ms : PlainNodes) → AreLike ns ms → heads (node_in number ms) ≡ heads (node_in number ns)
  heads_alike_in number no_nodes no_nodes h = refl
  heads_alike_in number (more_nodes n ns) (more_nodes m ms) h =
      first_alike (node_at number m) (node_at number n) (node_in number ms) (node_in number ns) (heads_alike number n m h.0) (heads_alike_in number ns ms h.1)
  heads_alike_in number no_nodes (more_nodes m ms) h = absurd h
  heads_alike_in number (more_nodes n ns) no_nodes h = absurd h

pub fit_alike : (a b : PlainNode) → IsLike a b → HandlersFit (Some a) → HandlersFit (Some b)
fit_alike a b like fit number g h owner has found =
    fits_by h (node_at h.owner a) owner (sym (ap heads found) ∙ heads_alike h.owner a b like)
    (λ m e. fit number g h m
    (handler_by (node_at number a) g ∙ ap (λ o. handler_by_head o g) (sym (heads_alike number a b like)) ∙ sym (handler_by (node_at number b) g) ∙ has) e)

-- ---- well built

no_cons : {A : Type 0} {x : A} {xs : List A} → x ∷ xs ≡ [] → ⊥
no_cons e = cc

no_fields : (g : List Value) → map type_of g ≡ [] → g ≡ []
no_fields [] e = refl
no_fields (x ∷ xs) e = absurd (no_cons e)

fields_alike : (d : Declarations) (p : BuildRole) (f g : List Value) → map type_of g ≡ map type_of f → FitFields d p f → FitFields d p g
fields_alike d (composes place props) f g e h = e ∙ h
fields_alike d (provides name value) f g e h = no_fields g (e ∙ ap (map type_of) h)
fields_alike d (keeps kept) f g e h = no_fields g (e ∙ ap (map type_of) h)
fields_alike d (lists extent) f g e h = no_fields g (e ∙ ap (map type_of) h)
fields_alike d holds f g e h = no_fields g (e ∙ ap (map type_of) h)

widget_alike : (a b : PlainNode) → IsLike a b → widget_of b ≡ widget_of a
widget_alike (node n w f s i ns) (node m v g t j ms) h = h.1

widgets_alike : (ns ms : PlainNodes) → AreLike ns ms → map widget_of (list_of ms) ≡ map widget_of (list_of ns)
widgets_alike no_nodes no_nodes h = refl
widgets_alike (more_nodes n ns) (more_nodes m ms) h =
    ap (λ x. x ∷ map widget_of (list_of ms)) (widget_alike n m h.0) ∙ ap (λ l. widget_of n ∷ l) (widgets_alike ns ms h.1)
widgets_alike no_nodes (more_nodes m ms) h = absurd h
widgets_alike (more_nodes n ns) no_nodes h = absurd h

sorts_alike : (d : Declarations) (ns ms : PlainNodes) → AreLike ns ms → sorts_in d (list_of ms) ≡ sorts_in d (list_of ns)
sorts_alike d no_nodes no_nodes h = refl
sorts_alike d (more_nodes n ns) (more_nodes m ms) h =
    ap (λ x. sort_of d x ∷ sorts_in d (list_of ms)) (widget_alike n m h.0) ∙ ap (λ l. sort_of d (widget_of n) ∷ l) (sorts_alike d ns ms h.1)
sorts_alike d no_nodes (more_nodes m ms) h = absurd h
sorts_alike d (more_nodes n ns) no_nodes h = absurd h

below_alike : (w v : PlainWidget) (ws vs : List PlainWidget) → v ≡ w → vs ≡ ws
    → (if is_lazy (build_role_of (look_of v)) then child_widgets v else vs) ≡ (if is_lazy (build_role_of (look_of w)) then child_widgets w else ws)
below_alike w v ws vs e k = λ i. if is_lazy (build_role_of (look_of (e i))) then child_widgets (e i) else (k i)

parts_alike : (d : Declarations) (w v : PlainWidget) (f g : List Value) (ws vs : List PlainWidget) (ss ts : List Sort)
    → v ≡ w → map type_of g ≡ map type_of f → vs ≡ ws → ts ≡ ss → IsBuilt d w f ws ss → IsBuilt d v g vs ts
parts_alike d w v f g ws vs ss ts e k l m h =
    let Typed : PlainWidget → Type 0 = λ x. IsTypedWidget d x in
    let Suited : PlainWidget → Type 0 = λ x. FitFields d (build_role_of (look_of x)) f in
    let Apart : List PlainWidget → Type 0 = λ x. NoKeyRepeats x in
    let Fits : PlainWidget → Type 0 = λ x. FitBelow d (look_of x) (build_role_of (look_of x)) ts in
    let FitsSorts : List Sort → Type 0 = λ x. FitBelow d (look_of w) (build_role_of (look_of w)) x in
    record {
      typed = subst Typed (sym e) h.typed;
      suited = fields_alike d (build_role_of (look_of v)) f g k (subst Suited (sym e) h.suited);
      apart = subst Apart (sym l) h.apart;
      fits = subst Fits (sym e) (subst FitsSorts (sym m) h.fits);
    }

mutual
  pub built_alike : (d : Declarations) (a b : PlainNode) → IsLike a b → IsWellBuilt d a → IsWellBuilt d b
  built_alike d (node n w f s i ns) (node m v g t j ms) h k = (
    parts_alike d w v f g (widgets_below (node n w f s i ns)) (widgets_below (node m v g t j ms)) (sorts_in d (list_of ns)) (sorts_in d (list_of ms)) h.1 h.2
        (below_alike w v (map widget_of (list_of ns)) (map widget_of (list_of ms)) h.1 (widgets_alike ns ms h.3)) (sorts_alike d ns ms h.3) k.0,
    built_alike_in d ns ms h.3 k.1,
  )

  built_alike_in : (d : Declarations) (ns ms : PlainNodes) → AreLike ns ms → AreWellBuilt d ns → AreWellBuilt d ms
  built_alike_in d no_nodes no_nodes h k = tt
  built_alike_in d (more_nodes n ns) (more_nodes m ms) h k = (built_alike d n m h.0 k.0, built_alike_in d ns ms h.1 k.1)
  built_alike_in d no_nodes (more_nodes m ms) h k = absurd h
  built_alike_in d (more_nodes n ns) no_nodes h k = absurd h

-- ---- all that is kept

pub sound_alike : (program : CheckedParts) (root : Option (Rc Widget Global)) (a b : PlainNode) (next frames : ℕ) → IsLike a b → IsNumbered next b
    → AreSound program root (Some a) next frames → AreSound program root (Some b) next frames
sound_alike program root a b next frames like numbered h =
    record {
      tree_built = built_alike (declarations_of (plain_checked program)) a b like h.tree_built;
      numbered = numbered;
      handlers = fit_alike a b like h.handlers;
      few = h.few;
      root_typed = h.root_typed;
      root_sized = h.root_sized;
      root_sets = h.root_sets;
    }

abbrev types_at : Option PlainNode → List Ty
types_at None = []
types_at (Some n) = map type_of (fields_of n)

-- the tree of a session after other fields of the same types at a node, and after another offset
pub sound_fields : (program : CheckedParts) (root : Option (Rc Widget Global)) (old : Option PlainNode) (a b m : PlainNode) (next frames w : ℕ) (fs : List Value)
    → ((f : PlainNode → List Value) (wanted after : ℕ) (n : PlainNode) → IsNumbered after n → IsNumbered after (changed_at (λ x. having_fields (f x) x) wanted n))
    → AreSound program root old next frames → old ≡ Some a → b ≡ changed_at (having_fields fs) w a → node_at w a ≡ Some m → map type_of fs ≡ map type_of (fields_of m)
    → AreSound program root (Some b) next frames
sound_fields program root old a b m next frames w fs law h is new found types =
    let Old : Option PlainNode → Type 0 = λ o. AreSound program root o next frames in
    let New : PlainNode → Type 0 = λ t. AreSound program root (Some t) next frames in
    let same : (x : PlainNode) → node_at w a ≡ Some x → map type_of fs ≡ map type_of (fields_of x) =
    λ x e. types ∙ ap types_at (sym found ∙ e) in
    let before = subst Old is h in
    subst New (sym new) (sound_alike program root a (changed_at (having_fields fs) w a) next frames
    (like_changed (having_fields fs) w a (λ x e. like_fields fs x (same x e))) (law (λ x. fs) w next a before.numbered) before)

pub sound_scroll : (program : CheckedParts) (root : Option (Rc Widget Global)) (old : Option PlainNode) (a b : PlainNode) (next frames w offset : ℕ)
    → ((scroll wanted after : ℕ) (n : PlainNode) → IsNumbered after n → IsNumbered after (changed_at (having_scroll scroll) wanted n))
    → AreSound program root old next frames → old ≡ Some a → b ≡ changed_at (having_scroll offset) w a → AreSound program root (Some b) next frames
sound_scroll program root old a b next frames w offset law h is new =
    let Old : Option PlainNode → Type 0 = λ o. AreSound program root o next frames in
    let New : PlainNode → Type 0 = λ t. AreSound program root (Some t) next frames in
    let before = subst Old is h in
    subst New (sym new) (sound_alike program root a (changed_at (having_scroll offset) w a) next frames
    (like_changed (having_scroll offset) w a (λ x e. like_scroll offset x)) (law offset w next a before.numbered) before)

-- and after a layout has corrected the offsets
pub sound_corrected : (program : CheckedParts) (root : Option (Rc Widget Global)) (a b : PlainNode) (next frames : ℕ) (l : Laid)
    → ((offset : ℕ → Option ℕ) (after : ℕ) (n : PlainNode) → IsNumbered after n → IsNumbered after (scrolled_by offset n))
    → AreSound program root (Some a) next frames → b ≡ corrected l a → AreSound program root (Some b) next frames
sound_corrected program root a b next frames l law h new =
    let offsets : ℕ → Option ℕ = λ number. offset_at number l in
    let New : PlainNode → Type 0 = λ t. AreSound program root (Some t) next frames in
    subst New (sym new) (sound_alike program root a (scrolled_by offsets a) next frames (like_scrolled offsets a) (law offsets next a h.numbered) h)
