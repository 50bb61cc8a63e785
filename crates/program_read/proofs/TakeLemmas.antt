-- A member that is taken out of an object, and those that stay.
use Rattle.std.proofs.Common.{◌≡◌, ℕ, zero, suc, ◌<◌, arith, ◌+◌, ◌≤◌, max, length, drop, get_or, List, [], ◌∷◌, ◌&&◌, Bool, true, false, not, cond, codes, Option, Some, None, Ordering, Less, Equal, Greater, nat_cmp, is_eq, bytes_eq, Bor, ap, subst, sym, refl, ◌∙◌, rules}
use Rattle.std.proofs.Math.ListN.{set}
use Rattle.std.proofs.lemmas.List.{at_drop_more}
use Rattle.std.proofs.lemmas.Grind.{common_steps}
use Rattle.std.proofs.lemmas.Map.Text.{is_eq-slice_cmp}
use Rattle.std.proofs.lemmas.Slice.Eq.{bytes_eq-Decides}
use Rattle.std.proofs.lemmas.List.Quantifiers.{position-Some}
use Rattle.std.specs.List.{position}
use Rattle.std.specs.Cmp.Lexicographic.{slice_cmp}
use Rattle.std.specs.Ordering.{match_ordering}
use Rattle.serde_json.specs.Data.{Data, null, Members, member, depth, members_depth}
use Rattle.serde_json.specs.Find.{get, get_member}
use Rattle.json_tree.specs.View.{view, members_view}
use Rattle.json_tree.specs.declared.tree.Json.{Json, Null, the_lemmas}
use Rattle.program_form.specs.declared.kinds.KindName.{KindName}
use Rattle.program_form.specs.declared.kinds.KindName.TheVariants as kind
use Rattle.program_form.specs.declared.kinds.KindMember.{KindMember}
use Rattle.program_form.specs.Kinds.{member_text, members_of}
use Rattle.program_read.specs.Objects.{OthersStay}
use Rattle.program_read.proofs.ObjectLemmas.{Entry}

tied_or : (o : Ordering) (a b : Option Data) → match_ordering o a b a ≡ cond (is_eq o) b a
tied_or Less a b = refl
tied_or Equal a b = refl
tied_or Greater a b = refl

-- the first member decides, where its name is that one
get_member-first : (name l : List ℕ) (d : Data) (ms : Members) → get_member name (member l d ms) ≡ cond (bytes_eq name l) (Some d) (get_member name ms)
get_member-first name l d ms = tied_or (slice_cmp nat_cmp name l) _ _ ∙ ap (λ b. cond b (Some d) (get_member name ms)) (is_eq-slice_cmp name l)

abbrev found : List ℕ → List Entry → Option Data
found name es = get_member name (members_view es)

-- the member at a place before which there is none of its name
found-at : (name : List ℕ) (es : List Entry) (i : ℕ) (e : Entry) → i < length es → e ≡ get_or es i e → bytes_eq name e.0.now ≡ true
    → ((k : ℕ) → k < i → bytes_eq name (get_or es k e).0.now ≡ false) → found name es ≡ Some (view e.1)
found-at name [] i e less is same before = absurd (grind (arith, common_steps))
found-at name (x ∷ es) zero e less is same before =
    get_member-first name x.0.now (view x.1) (members_view es)
    ∙ ap (λ (y : Entry). cond (bytes_eq name y.0.now) (Some (view y.1)) (found name es)) (sym is)
    ∙ ap (λ b. cond b (Some (view e.1)) (found name es)) same
found-at name (x ∷ es) (suc i) e less is same before =
    get_member-first name x.0.now (view x.1) (members_view es)
    ∙ ap (λ b. cond b (Some (view x.1)) (found name es)) (before 0 (grind arith))
    ∙ found-at name es i e (grind (arith, common_steps)) is same (λ k h. before (suc k) (grind arith))

pub taken-at : (name : List ℕ) (es : List Entry) (i : ℕ) (e : Entry) → position (λ m. bytes_eq name m.0.now) es ≡ Some i → e ≡ get_or es i e
    → found name es ≡ Some (view e.1)
taken-at name es i e h is =
    let facts = position-Some (λ (m : Entry). bytes_eq name m.0.now) es i e h in
    found-at name es i e facts.0 is (ap (λ (y : Entry). bytes_eq name y.0.now) is ∙ facts.1) facts.2

-- there is none of that name
later_none : (p : Entry → Bool) (x : Entry) (es : List Entry) → position p (x ∷ es) ≡ None → position p es ≡ None
later_none p x es h = grind (arith, common_steps)

first_not : (p : Entry → Bool) (x : Entry) (es : List Entry) → position p (x ∷ es) ≡ None → p x ≡ false
first_not p x es h = grind (arith, common_steps)

pub taken-none : (name : List ℕ) (es : List Entry) → position (λ m. bytes_eq name m.0.now) es ≡ None → found name es ≡ None
taken-none name [] h = refl
taken-none name (x ∷ es) h =
    get_member-first name x.0.now (view x.1) (members_view es)
    ∙ ap (λ b. cond b (Some (view x.1)) (found name es)) (first_not (λ m. bytes_eq name m.0.now) x es h)
    ∙ taken-none name es (later_none (λ m. bytes_eq name m.0.now) x es h)

-- another value stands at a place of another name
found-set : (other : List ℕ) (es : List Entry) (i : ℕ) (e : Entry) (v : Json) → i < length es → e ≡ get_or es i e → bytes_eq other e.0.now ≡ false
    → found other (set es i (e.0, v)) ≡ found other es
found-set other [] i e v less is h = absurd (grind (arith, common_steps))
found-set other (x ∷ es) zero e v less is h =
    get_member-first other e.0.now (view v) (members_view es)
    ∙ ap (λ b. cond b (Some (view v)) (found other es)) h
    ∙ sym (get_member-first other x.0.now (view x.1) (members_view es)
    ∙ ap (λ b. cond b (Some (view x.1)) (found other es)) (ap (λ (y : Entry). bytes_eq other y.0.now) (sym is) ∙ h))
found-set other (x ∷ es) (suc i) e v less is h =
    get_member-first other x.0.now (view x.1) (members_view (set es i (e.0, v)))
    ∙ ap (cond (bytes_eq other x.0.now) (Some (view x.1))) (found-set other es i e v (grind (arith, common_steps)) is h)
    ∙ sym (get_member-first other x.0.now (view x.1) (members_view es))

pub stays-at : (name : List ℕ) (es : List Entry) (i : ℕ) (e : Entry) (v : Json) (other : List ℕ) → position (λ m. bytes_eq name m.0.now) es ≡ Some i
    → e ≡ get_or es i e → bytes_eq other name ≡ false → found other (set es i (e.0, v)) ≡ found other es
stays-at name es i e v other h is apart =
    let facts = position-Some (λ (m : Entry). bytes_eq name m.0.now) es i e h in
    let same : name ≡ e.0.now = (bytes_eq-Decides name e.0.now).0 (ap (λ (y : Entry). bytes_eq name y.0.now) is ∙ facts.1) in
    found-set other es i e v facts.0 is (subst (λ n. bytes_eq other n ≡ false) same apart)

-- what stands in the place of what was taken
pub view-Null : view Null ≡ null
view-Null = search (rules, the_lemmas)

-- the object is no deeper than it was
pub depth-set : (es : List Entry) (i : ℕ) (n : Bor (List ℕ)) (v : Json) → depth (view v) ≡ 0 → members_depth (members_view (set es i (n, v))) ≤ members_depth (members_view es)
depth-set [] i n v e = grind arith
depth-set (x ∷ es) zero n v e = subst (λ k. max k (members_depth (members_view es)) ≤ max (depth (view x.1)) (members_depth (members_view es))) (sym e) (no_deeper (depth (view x.1)) (members_depth (members_view es)))
  where
    no_deeper : (a b : ℕ) → max 0 b ≤ max a b
    no_deeper a b = grind arith
depth-set (x ∷ es) (suc i) n v e = no_deeper (depth (view x.1)) _ _ (depth-set es i n v e)
  where
    no_deeper : (a b c : ℕ) → b ≤ c → max a b ≤ max a c
    no_deeper a b c h = grind arith

-- ---- the members of a template, taken one by one

-- members of the table that the object has as another one has them
abbrev pub AreAsGiven : Data → Data → List KindMember → Type 0
AreAsGiven given now [] = Unit {0}
AreAsGiven given now (m ∷ ms) = (get (member_text m.name) now ≡ get (member_text m.name) given) × AreAsGiven given now ms

-- none of the members has the name; no two of them have the same
abbrev pub are_apart : List ℕ → List KindMember → Bool
are_apart name [] = true
are_apart name (m ∷ ms) = not (bytes_eq (member_text m.name) name) && are_apart name ms

abbrev pub are_distinct : List KindMember → Bool
are_distinct [] = true
are_distinct (m ∷ ms) = are_apart (member_text m.name) ms && are_distinct ms

pub given-all : (d : Data) (ms : List KindMember) → AreAsGiven d d ms
given-all d [] = tt
given-all d (m ∷ ms) = (refl, given-all d ms)

both : (a b : Bool) → (a && b) ≡ true → (a ≡ true) × (b ≡ true)
both true true h = (refl, refl)
both true false h = cc
both false b h = cc

not_false : (b : Bool) → not b ≡ true → b ≡ false
not_false true h = cc
not_false false h = refl

-- one that has another name was taken
pub given-others : (name : List ℕ) (d e f : Data) (ms : List KindMember) → are_apart name ms ≡ true → AreAsGiven d e ms → OthersStay name e f → AreAsGiven d f ms
given-others name d e f [] h g stay = tt
given-others name d e f (m ∷ ms) h g stay =
    let parts = both (not (bytes_eq (member_text m.name) name)) (are_apart name ms) h in
    (stay (member_text m.name) (not_false _ parts.0) ∙ g.0, given-others name d e f ms parts.1 g.1 stay)

-- the next of them, by its name: it is as it was given, and those after it stay so when it is taken
pub given-next : (d e : Data) (ms : List KindMember) (i : ℕ) (m : KindMember) (name : List ℕ) → name ≡ member_text (get_or ms i m).name → i < length ms → AreAsGiven d e (drop i ms)
    → get name e ≡ get name d
given-next d e ms i m name is less g =
    let here : AreAsGiven d e (get_or ms i m ∷ drop (i + 1) ms) = subst (AreAsGiven d e) (at_drop_more (λ xs. xs) ms i m less) g in
    subst (λ n. get n e ≡ get n d) (sym is) here.0

pub given-later : (d e f : Data) (ms : List KindMember) (i : ℕ) (m : KindMember) (name : List ℕ) → name ≡ member_text (get_or ms i m).name → i < length ms → AreAsGiven d e (drop i ms)
    → are_distinct (drop i ms) ≡ true → OthersStay name e f → AreAsGiven d f (drop (i + 1) ms) × (are_distinct (drop (i + 1) ms) ≡ true)
given-later d e f ms i m name is less g h stay =
    let rest = drop (i + 1) ms in
    let here : AreAsGiven d e (get_or ms i m ∷ rest) = subst (AreAsGiven d e) (at_drop_more (λ xs. xs) ms i m less) g in
    let apart : (are_apart (member_text (get_or ms i m).name) rest && are_distinct rest) ≡ true = sym (at_drop_more are_distinct ms i m less) ∙ h in
    let parts = both (are_apart (member_text (get_or ms i m).name) rest) (are_distinct rest) apart in
    (given-others name d e f rest (ap (λ n. are_apart n rest) is ∙ parts.0) here.1 stay, parts.1)

-- the names of a kind's table are distinct, also from `key`
pub names_apart : (k : KindName) → (are_apart (codes "key") (members_of k) && are_distinct (members_of k)) ≡ true
unfolding members_of member_text
names_apart kind.SizedBox = refl
names_apart kind.ConstrainedBox = refl
names_apart kind.Padding = refl
names_apart kind.Align = refl
names_apart kind.ColoredBox = refl
names_apart kind.Text = refl
names_apart kind.Row = refl
names_apart kind.Column = refl
names_apart kind.Stack = refl
names_apart kind.Flexible = refl
names_apart kind.Positioned = refl
names_apart kind.Opacity = refl
names_apart kind.ClipRect = refl
names_apart kind.RepaintBoundary = refl
names_apart kind.MergeSemantics = refl
names_apart kind.IntrinsicWidth = refl
names_apart kind.IntrinsicHeight = refl
names_apart kind.Offstage = refl
names_apart kind.IgnorePointer = refl
names_apart kind.AbsorbPointer = refl
names_apart kind.Detector = refl
names_apart kind.Semantics = refl
names_apart kind.ExcludeSemantics = refl
names_apart kind.CustomPaint = refl
names_apart kind.CustomLayout = refl
names_apart kind.Viewport = refl
names_apart kind.SliverToBox = refl
names_apart kind.SliverPadding = refl
names_apart kind.SliverFixed = refl
names_apart kind.SliverLazy = refl
names_apart kind.Keep = refl
names_apart kind.Wrap = refl
names_apart kind.Table = refl
names_apart kind.Inherit = refl
names_apart kind.Use = refl
names_apart kind.Slot = refl
names_apart kind.If = refl
names_apart kind.Each = refl

pub apart_from_key : (k : KindName) → are_apart (codes "key") (members_of k) ≡ true
apart_from_key k = (both (are_apart (codes "key") (members_of k)) (are_distinct (members_of k)) (names_apart k)).0

pub distinct_names : (k : KindName) → are_distinct (members_of k) ≡ true
distinct_names k = (both (are_apart (codes "key") (members_of k)) (are_distinct (members_of k)) (names_apart k)).1
