-- Members of objects: which are there, and which are known.
use Rattle.std.proofs.Common.{◌≡◌, ℕ, max, List, [], ◌∷◌, ◌++◌, ◌&&◌, ◌||◌, Bool, true, false, if◌then◌else◌, map, Result, Ok, Err, IfOk, ap, ap₂, refl, sym, ◌∙◌, Bor, codes}
use Rattle.std.proofs.lemmas.List.Folds.{list_any-append}
use Rattle.std.specs.List.{list_any, list_all}
use Rattle.std.specs.Str.{bytes_eq}
use Rattle.serde_json.specs.Data.{Data, null, boolean, number, string, array, object, Members, depth, members_depth}
use Rattle.json_tree.specs.View.{view, members_view}
use Rattle.json_tree.specs.declared.tree.Json.{Json}
use Rattle.program_read.specs.declared.fault.ShapeCode.TheVariants.{MissingMember, UnknownMember}
use Rattle.program_read.specs.declared.fault.ReadStop.{ReadStop}
use Rattle.program_read.specs.declared.fault.ReadStop.TheVariants.{Shape, OutOfMemory}
use Rattle.program_read.specs.Answers.{Answers}
use Rattle.program_read.specs.ShapeFault.{stops, and_then}
use Rattle.program_form.specs.declared.kinds.KindName.{KindName}
use Rattle.program_form.specs.Kinds.{has_key, member_text, members_of}
use Rattle.program_read.specs.TemplateWalk.{known_names}
use Rattle.program_read.specs.Objects.{object_of, names_of, has, is_among, shape_of, shaped}

-- an element of a list of images
pub list_any-map : {X Y : Type 0} (p : X → Bool) (h : Y → X) (ys : List Y) → list_any p (map h ys) ≡ list_any (λ y. p (h y)) ys
list_any-map p h [] = refl
list_any-map p h (y ∷ ys) = ap (λ b. p (h y) || b) (list_any-map p h ys)

-- a member as the tree holds it
abbrev pub Entry : Type 0
Entry = Bor (List ℕ) × Json

-- each member is known
pub all_known : (p : List ℕ → Bool) (es : List Entry) → list_all (λ e. p e.0.now) es ≡ list_all p (names_of (members_view es))
all_known p [] = refl
all_known p (e ∷ es) = ap (λ b. p e.0.now && b) (all_known p es)

-- how deep members are: the next one, and those after it
pub members_depth-first : (es : List Entry) (e : Entry) (rest : List Entry) → es ≡ e ∷ rest
    → members_depth (members_view es) ≡ max (depth (view e.1)) (members_depth (members_view rest))
members_depth-first es e rest is = ap (λ xs. members_depth (members_view xs)) is

-- an object's members are all that it is
pub object_of-members : (d : Data) (ms : Members) → object_of d ≡ Ok ms → d ≡ object ms
object_of-members null ms e = cc
object_of-members (boolean b) ms e = cc
object_of-members (number n) ms e = cc
object_of-members (string s) ms e = cc
object_of-members (array ds) ms e = cc
object_of-members (object ns) ms e = cc

-- the same where the known names are borrowed
pub all_among : (names : List (Bor (List ℕ))) (es : List Entry)
    → list_all (λ e. list_any (λ n. bytes_eq n.now e.0.now) names) es ≡ list_all (is_among (map (λ n. n.now) names)) (names_of (members_view es))
all_among names [] = refl
all_among names (e ∷ es) =
    ap₂ (λ a b. a && b) (sym (list_any-map (λ known. bytes_eq known e.0.now) (λ n. n.now) names)) (all_among names es)

-- a member is missing; one is unknown; all is well
pub shaped-missing : (required known : List (List ℕ)) (d : Data) (ms : Members) → object_of d ≡ Ok ms → list_all (has d) required ≡ false
    → shaped required known d ≡ stops MissingMember
shaped-missing required known d ms e h =
    ap (λ w. and_then w (λ ms. shape_of required known d ms)) e
    ∙ ap (λ b. if b then (if list_all (is_among known) (names_of ms) then Ok tt else stops UnknownMember) else stops MissingMember) h

pub shaped-unknown : (required known : List (List ℕ)) (d : Data) (ms : Members) → object_of d ≡ Ok ms → list_all (has d) required ≡ true
    → list_all (is_among known) (names_of ms) ≡ false → shaped required known d ≡ stops UnknownMember
shaped-unknown required known d ms e h k =
    ap (λ w. and_then w (λ ms. shape_of required known d ms)) e
    ∙ ap (λ b. if b then (if list_all (is_among known) (names_of ms) then Ok tt else stops UnknownMember) else stops MissingMember) h
    ∙ ap (λ b. if b then Ok tt else stops UnknownMember) k

pub shaped-whole : (required known : List (List ℕ)) (d : Data) (ms : Members) → object_of d ≡ Ok ms → list_all (has d) required ≡ true
    → list_all (is_among known) (names_of ms) ≡ true → shaped required known d ≡ Ok tt
shaped-whole required known d ms e h k =
    ap (λ w. and_then w (λ ms. shape_of required known d ms)) e
    ∙ ap (λ b. if b then (if list_all (is_among known) (names_of ms) then Ok tt else stops UnknownMember) else stops MissingMember) h
    ∙ ap (λ b. if b then Ok tt else stops UnknownMember) k

-- an object's members, read once its form is known
pub shaped-read : {X : Type 0} (plain : X → Members) (required known : List (List ℕ)) (d : Data) (result : Result X ReadStop) → shaped required known d ≡ Ok tt → Answers plain result (object_of d)
    → Answers (λ _. tt) result (shaped required known d)
shaped-read plain required known d (Ok x) s h = s
shaped-read plain required known d (Err (Shape fault)) s h = ap (λ w. and_then w (λ ms. shape_of required known d ms)) h
shaped-read plain required known d (Err OutOfMemory) s h = tt

pub shaped-members : {X : Type 0} (plain : X → Members) (d : Data) (result : Result X ReadStop) → Answers plain result (object_of d) → IfOk result (λ x. d ≡ object (plain x))
shaped-members plain d (Ok x) h = object_of-members d (plain x) h
shaped-members plain d (Err stop) h = tt

-- whether a template of a kind may have a member: `w`, the key, or one of the table
pub is_among-known_names : (kind : KindName) (name : List ℕ) → is_among (known_names kind) name
    ≡ (bytes_eq (codes "w") name || ((has_key kind && bytes_eq (codes "key") name) || list_any (λ m. bytes_eq (member_text m.name) name) (members_of kind)))
is_among-known_names kind name =
    ap (λ b. bytes_eq (codes "w") name || b)
    (list_any-append (λ known. bytes_eq known name) (if has_key kind then codes "key" ∷ [] else []) (map (λ m. member_text m.name) (members_of kind))
    ∙ ap₂ (λ a b. a || b) (keyed (has_key kind)) (list_any-map (λ known. bytes_eq known name) (λ m. member_text m.name) (members_of kind)))
  where
    or_false : (b : Bool) → (b || false) ≡ b
    or_false true = refl
    or_false false = refl

    keyed : (b : Bool) → list_any (λ known. bytes_eq known name) (if b then codes "key" ∷ [] else []) ≡ (b && bytes_eq (codes "key") name)
    keyed true = or_false (bytes_eq (codes "key") name)
    keyed false = refl

pub knows_w : (kind : KindName) (name : List ℕ) → bytes_eq (codes "w") name ≡ true → is_among (known_names kind) name ≡ true
knows_w kind name w =
    ap (λ b. b || list_any (λ known. bytes_eq known name) ((if has_key kind then codes "key" ∷ [] else []) ++ map (λ m. member_text m.name) (members_of kind))) w

pub knows_key : (kind : KindName) (name : List ℕ) → bytes_eq (codes "w") name ≡ false → (has_key kind && bytes_eq (codes "key") name) ≡ true
    → is_among (known_names kind) name ≡ true
knows_key kind name w k =
    is_among-known_names kind name ∙ ap₂ (λ a b. a || (b || list_any (λ m. bytes_eq (member_text m.name) name) (members_of kind))) w k

pub knows_member : (kind : KindName) (name : List ℕ) → bytes_eq (codes "w") name ≡ false → (has_key kind && bytes_eq (codes "key") name) ≡ false
    → is_among (known_names kind) name ≡ list_any (λ m. bytes_eq (member_text m.name) name) (members_of kind)
knows_member kind name w k =
    is_among-known_names kind name ∙ ap₂ (λ a b. a || (b || list_any (λ m. bytes_eq (member_text m.name) name) (members_of kind))) w k
