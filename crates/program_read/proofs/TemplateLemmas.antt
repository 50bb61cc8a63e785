-- Templates: their walk by the members that an object has, and how deep their parts are.
use Rattle.std.proofs.Common.{◌≡◌, ℕ, ◌+◌, ◌*◌, ◌<◌, ◌≤◌, max, arith, length, get_or, drop, List, [], ◌∷◌, ◌++◌, map, Bool, true, false, if◌then◌else◌, Option, Some, None, Ok, Err, is_some, codes, ap, ap₂, sym, refl, subst, ◌∙◌}
use Rattle.std.proofs.lemmas.List.{at_drop_more}
use Rattle.std.specs.Ordering.{nat_cmp, match_ordering}
use Rattle.std.specs.declared.cmp.Ordering.TheVariants.{Less, Equal, Greater}
use Rattle.std.specs.Cmp.Lexicographic.{slice_cmp}
use Rattle.serde_json.specs.Data.{Data, null, boolean, number, string, array, object, Items, no_items, item, Members, no_members, member, depth, members_depth}
use Rattle.serde_json.specs.Find.{get, get_member, as_object}
use Rattle.program_read.specs.declared.fault.ShapeCode.TheVariants.{WrongKind, OverLimit}
use Rattle.program_read.specs.declared.fault.ReadStop.{ReadStop}
use Rattle.program_read.specs.declared.fault.ReadStop.TheVariants.{Shape, OutOfMemory}
use Rattle.program_read.specs.Answers.{StopsAs}
use Rattle.program_form.specs.declared.kinds.KindName.{KindName}
use Rattle.program_form.specs.Key.{PlainKey}
use Rattle.program_form.specs.declared.kinds.KindMember.{KindMember}
use Rattle.program_form.specs.declared.kinds.MemberForm.{MemberForm}
use Rattle.program_form.specs.declared.kinds.MemberForm.TheVariants.{Expression, Word, Name, Handler, Child, Children, Props, Slots}
use Rattle.program_read.specs.ShapeFault.{ShapeWalk, stops, within, and_then, given, each}
use Rattle.program_read.specs.Leaves.{or_stop, within_limit, walks}
use Rattle.program_form.specs.Kinds.{member_text, members_of}
use Rattle.program_read.specs.Objects.{OthersStay, object_of, optional_at, walk_found, in_order, named, named_walks, list_of, keyed_of}
use Rattle.program_read.specs.KeyWalk.{key_of}
use Rattle.program_read.proofs.ObjectLemmas.{object_of-members}
use Rattle.program_read.proofs.TakeLemmas.{AreAsGiven, given-all, given-others, apart_from_key}
use Rattle.program_read.proofs.WalkLemmas.{resumed, resumed-last, stops-apart}
use Rattle.program_form.specs.Template.{PlainPart, children, slots, templates_in, slots_in, template_from}
use Rattle.program_read.specs.TemplateWalk.{kind_in, template_parts, kind_walk, template_with, members_walk, here_or_later, part_with, template_of, member_of, templates_of, templates_walk, slots_of, slots_walk, part_of, part_at}

-- ---- the walks of lists and objects of templates, by the words that serve all lists and objects

templates_walk-walks : (version : ℕ) (ds : Items) → templates_walk version ds ≡ walks (template_of version) ds
unfolding template_of
templates_walk-walks version no_items = refl
templates_walk-walks version (item d ds) = ap (λ ws. template_of version d ∷ ws) (templates_walk-walks version ds)

slots_walk-named_walks : (version : ℕ) (ms : Members) → slots_walk version ms ≡ named_walks (template_of version) ms
unfolding template_of
slots_walk-named_walks version no_members = refl
slots_walk-named_walks version (member n d ms) = ap (λ ws. named n (template_of version d) ∷ ws) (slots_walk-named_walks version ms)

templates_of-list_of : (version : ℕ) (d : Data) → templates_of version d ≡ list_of (template_of version) d
unfolding template_of
templates_of-list_of version null = refl
templates_of-list_of version (boolean b) = refl
templates_of-list_of version (number n) = refl
templates_of-list_of version (string s) = refl
templates_of-list_of version (array ds) = listed (within_limit ds) (each 0 (templates_walk version ds)) (λ es. each 0 (walks (template_of version) es)) (λ es h. ap (each 0) (templates_walk-walks version ds ∙ ap (walks (template_of version)) (kept _ ds es h)))
  where
    kept : (b : Bool) (ds es : Items) → (if b then Ok ds else stops OverLimit) ≡ Ok es → ds ≡ es
    kept true ds es h = cc
    kept false ds es h = cc

    listed : {A : Type 0} (w : ShapeWalk Items) (x : ShapeWalk A) (f : Items → ShapeWalk A) → ((es : Items) → w ≡ Ok es → x ≡ f es) → and_then w (λ _. x) ≡ and_then w f
    listed (Ok es) x f h = h es refl
    listed (Err fault) x f h = refl
templates_of-list_of version (object ms) = refl

slots_of-keyed_of : (version : ℕ) (d : Data) → slots_of version d ≡ keyed_of (template_of version) d
unfolding template_of
slots_of-keyed_of version null = refl
slots_of-keyed_of version (boolean b) = refl
slots_of-keyed_of version (number n) = refl
slots_of-keyed_of version (string s) = refl
slots_of-keyed_of version (array ds) = refl
slots_of-keyed_of version (object ms) = ap in_order (slots_walk-named_walks version ms)

-- ---- a template by the members that the object has

part_with-part_of : (version : ℕ) (form : MemberForm) (d : Data)
    → part_with form d (λ _. template_of version d) (λ _. templates_of version d) (λ _. slots_of version d) ≡ part_of version form d
part_with-part_of version (Expression meaning) d = refl
part_with-part_of version (Word list) d = refl
part_with-part_of version Name d = refl
part_with-part_of version Handler d = refl
part_with-part_of version (Child wanted) d = refl
part_with-part_of version (Children wanted) d = ap (given (λ ts. children (templates_in ts))) (templates_of-list_of version d)
part_with-part_of version Props d = refl
part_with-part_of version Slots d = ap (given (λ ss. slots (slots_in ss))) (slots_of-keyed_of version d)

member_of-part_at : (version : ℕ) (ms : Members) (m : KindMember) → member_of version ms m ≡ part_at version (object ms) m
unfolding template_of
member_of-part_at version no_members m = refl
member_of-part_at version (member n d rest) m =
    let name = member_text m.name in
    elim (slice_cmp nat_cmp name n)
    as (λ o. here_or_later o
    (λ _. given Some (within name (part_with m.form d (λ _. template_of version d) (λ _. templates_of version d) (λ _. slots_of version d)))) (λ _. member_of version rest m)
    ≡ walk_found (part_of version m.form) name (match_ordering o (get_member name rest) (Some d) (get_member name rest))) [
      | Less ↦ member_of-part_at version rest m
      | Equal ↦ ap (λ w. given Some (within name w)) (part_with-part_of version m.form d)
      | Greater ↦ member_of-part_at version rest m
    ]

map_same : {X Y : Type 0} (f g : X → Y) → ((x : X) → f x ≡ g x) → (xs : List X) → map f xs ≡ map g xs
map_same f g h [] = refl
map_same f g h (x ∷ xs) = ap₂ (λ y ys. y ∷ ys) (h x) (map_same f g h xs)

and_then_same : {A B : Type 0} (w : ShapeWalk A) (f g : A → ShapeWalk B) → ((x : A) → f x ≡ g x) → and_then w f ≡ and_then w g
and_then_same (Ok x) f g h = h x
and_then_same (Err fault) f g h = refl

template_with_same : (version : ℕ) (d : Data) (f g : KindMember → ShapeWalk (Option PlainPart)) → ((m : KindMember) → f m ≡ g m) → template_with version d f ≡ template_with version d g
template_with_same version d f g h =
    and_then_same (kind_in version d) (kind_walk d f) (kind_walk d g) (λ kind.
    and_then_same (optional_at key_of (codes "key") d) (members_walk kind f) (members_walk kind g) (λ key.
    ap (λ ws. given (template_from kind key) (in_order ws)) (map_same f g h (members_of kind))))

-- a value that is an object
pub template_of-object : (version : ℕ) (d : Data) → is_some (as_object d) ≡ true → template_of version d ≡ template_with version d (part_at version d)
unfolding template_of
template_of-object version null h = cc
template_of-object version (boolean b) h = cc
template_of-object version (number n) h = cc
template_of-object version (string s) h = cc
template_of-object version (array ds) h = cc
template_of-object version (object ms) h = template_with_same version (object ms) (member_of version ms) (part_at version (object ms)) (member_of-part_at version ms)

pub template_of-other : (version : ℕ) (d : Data) → is_some (as_object d) ≡ false → template_of version d ≡ stops WrongKind
unfolding template_of
template_of-other version null h = refl
template_of-other version (boolean b) h = refl
template_of-other version (number n) h = refl
template_of-other version (string s) h = refl
template_of-other version (array ds) h = refl
template_of-other version (object ms) h = cc

-- ---- loops over walks in order

-- the next walk gives a value
pub in_order-step : {A : Type 0} (whole : ShapeWalk (List A)) (before after : List A) (w : ShapeWalk A) (ws : List (ShapeWalk A)) (x : A)
    → whole ≡ resumed before (in_order (w ∷ ws)) → w ≡ Ok x → after ≡ before ++ x ∷ [] → whole ≡ resumed after (in_order ws)
in_order-step whole before after w ws x e h l =
    e ∙ ap (λ y. resumed before (and_then y (λ x. given (λ xs. x ∷ xs) (in_order ws)))) h
    ∙ resumed-last before x (in_order ws) ∙ ap (λ xs. resumed xs (in_order ws)) (sym l)

-- ---- depths

depth_or : ℕ → Option Data → ℕ
depth_or n None = n
depth_or n (Some d) = depth d

depth_here : (x d : Data) (rest : ℕ) → Some x ≡ Some d → depth d ≤ max (depth x) rest
unfolding depth_or
depth_here x d rest e = let same : depth x ≡ depth d = ap (depth_or 0) e in grind arith

depth_later : (x : ℕ) (d : Data) (rest : ℕ) → depth d ≤ rest → depth d ≤ max x rest
depth_later x d rest h = grind arith

depth-member : (name : List ℕ) (ms : Members) (d : Data) → get_member name ms ≡ Some d → depth d ≤ members_depth ms
depth-member name no_members d e = cc
depth-member name (member l x rest) d e =
    elim (slice_cmp nat_cmp name l)
    as (λ o. match_ordering o (get_member name rest) (Some x) (get_member name rest) ≡ Some d → depth d ≤ max (depth x) (members_depth rest)) [
      | Less ↦ λ h. depth_later (depth x) d _ (depth-member name rest d h)
      | Equal ↦ λ h. depth_here x d _ h
      | Greater ↦ λ h. depth_later (depth x) d _ (depth-member name rest d h)
    ] e

-- a member of an object is less deep than the object
pub depth-get : (name : List ℕ) (d child : Data) → get name d ≡ Some child → depth child < depth d
depth-get name null child e = cc
depth-get name (boolean b) child e = cc
depth-get name (number n) child e = cc
depth-get name (string s) child e = cc
depth-get name (array ds) child e = cc
depth-get name (object ms) child e = let le = depth-member name ms child e in omega arith

-- room for the reading of a member that was taken: its depth, where it is given
abbrev pub member_room : Option Data → ℕ
member_room None = 0
member_room (Some d) = 7 * depth d + 6

pub member_room-get : (name : List ℕ) (d : Data) (found : Option Data) → get name d ≡ found → member_room found < 7 * depth d + 1
member_room-get name d None e = grind arith
member_room-get name d (Some child) e = let less = depth-get name d child e in omega (arith, less)

-- members of the table that are as they were given are read alike
pub parts-same : (version : ℕ) (given now : Data) (ms : List KindMember) → AreAsGiven given now ms → map (part_at version now) ms ≡ map (part_at version given) ms
parts-same version given now [] h = refl
parts-same version given now (m ∷ ms) h =
    ap₂ (λ p ps. p ∷ ps) (ap (walk_found (part_of version m.form) (member_text m.name)) h.0) (parts-same version given now ms h.1)

-- the next member of the table was taken and read
pub part-taken : (version : ℕ) (d e : Data) (ms : List KindMember) (i : ℕ) (m : KindMember) (name : List ℕ) (found : Option Data) → name ≡ member_text (get_or ms i m).name → get name e ≡ get name d
    → found ≡ get name e → part_at version d (get_or ms i m) ≡ walk_found (part_of version (get_or ms i m).form) (member_text (get_or ms i m).name) found
part-taken version d e ms i m name found is same taken =
    ap (walk_found (part_of version (get_or ms i m).form) (member_text (get_or ms i m).name)) (ap (λ n. get n d) (sym is) ∙ sym same ∙ sym taken)

pub members-step : (version : ℕ) (d : Data) (ms : List KindMember) (i : ℕ) (m : KindMember) (whole : ShapeWalk (List (Option PlainPart))) (before after : List (Option PlainPart)) (x : Option PlainPart)
    → i < length ms → whole ≡ resumed before (in_order (map (part_at version d) (drop i ms))) → part_at version d (get_or ms i m) ≡ Ok x → after ≡ before ++ x ∷ []
    → whole ≡ resumed after (in_order (map (part_at version d) (drop (i + 1) ms)))
members-step version d ms i m whole before after x less e h l =
    in_order-step whole before after (part_at version d (get_or ms i m)) (map (part_at version d) (drop (i + 1) ms)) x
    (e ∙ at_drop_more (λ xs. resumed before (in_order (map (part_at version d) xs))) ms i m less) h l

-- a template of a kind after its key: its members, as the object has them once the key was taken
pub template-keyed : (version : ℕ) (whole left : Data) (kind : KindName) (key : Option PlainKey) → optional_at key_of (codes "key") whole ≡ Ok key → OthersStay (codes "key") whole left
    → template_parts version kind whole ≡ given (template_from kind key) (in_order (map (part_at version left) (members_of kind)))
template-keyed version whole left kind key o stay =
    ap (λ w. and_then w (members_walk kind (part_at version whole))) o
    ∙ ap (λ ps. given (template_from kind key) (in_order ps))
    (sym (parts-same version whole left (members_of kind) (given-others (codes "key") whole whole left (members_of kind) (apart_from_key kind) (given-all whole (members_of kind)) stay)))

-- a template whose kind and members are known, and one of which they aren't
pub template-opened : (version : ℕ) (d whole : Data) (kind : KindName) → kind_in version d ≡ Ok kind → d ≡ whole
    → template_with version d (part_at version d) ≡ template_parts version kind whole
template-opened version d whole kind e is = ap (λ w. and_then w (kind_walk d (part_at version d))) e ∙ ap (template_parts version kind) is

pub template-unopened : (version : ℕ) (d : Data) (stop : ReadStop) → StopsAs stop (kind_in version d) → StopsAs stop (template_with version d (part_at version d))
template-unopened version d (Shape fault) h = ap (λ w. and_then w (kind_walk d (part_at version d))) h
template-unopened version d OutOfMemory h = tt

-- the kind of the template that a value is
abbrev pub opened : ℕ → Data → ShapeWalk KindName
opened version d = if is_some (as_object d) then kind_in version d else stops WrongKind

opened-object : (version : ℕ) (d : Data) (kind : KindName) → opened version d ≡ Ok kind → (is_some (as_object d) ≡ true) × (kind_in version d ≡ Ok kind)
opened-object version d kind o = by_object (is_some (as_object d)) refl o
  where
    by_object : (b : Bool) → is_some (as_object d) ≡ b → (if b then kind_in version d else stops WrongKind) ≡ Ok kind → (is_some (as_object d) ≡ true) × (kind_in version d ≡ Ok kind)
    by_object true e h = (e, h)
    by_object false e h = absurd cc

-- it is none that can be told
pub unopened : (version : ℕ) (d : Data) (stop : ReadStop) → StopsAs stop (opened version d) → StopsAs stop (template_of version d)
unopened version d stop h = by_object (is_some (as_object d)) refl h
  where
    by_object : (b : Bool) → is_some (as_object d) ≡ b → StopsAs stop (if b then kind_in version d else stops WrongKind) → StopsAs stop (template_of version d)
    by_object true e h = subst (StopsAs stop) (sym (template_of-object version d e)) (template-unopened version d stop h)
    by_object false e h = subst (StopsAs stop) (sym (template_of-other version d e)) (stops-apart _ _ WrongKind stop h)

-- it is one of an object, whose members can't be read but for want of memory, and with these members
pub members-unread : (version : ℕ) (d : Data) (kind : KindName) (stop : ReadStop) → opened version d ≡ Ok kind → StopsAs stop (object_of d) → StopsAs stop (template_of version d)
members-unread version d kind OutOfMemory o h = tt
members-unread version d kind (Shape fault) o h = absurd (there (as_object d) (opened-object version d kind o).0 h)
  where
    there : (found : Option Members) → is_some found ≡ true → or_stop WrongKind found ≡ Err fault → ⊥
    there (Some ms) s h = cc
    there None s h = cc

pub opened-template : (version : ℕ) (d : Data) (ms : Members) (kind : KindName) → opened version d ≡ Ok kind → object_of d ≡ Ok ms
    → template_of version d ≡ template_parts version kind (object ms)
opened-template version d ms kind o h =
    let parts = opened-object version d kind o in
    template_of-object version d parts.0 ∙ template-opened version d (object ms) kind parts.1 (object_of-members d ms h)
