-- What a look-up in a table's map and a write there say of the table's entries.
use Rattle.std.proofs.Common.{◌≡◌, ℕ, Bool, true, false, true≢false, is_some, ◌||◌, List, [], ◌∷◌, ◌++◌, Option, Some, None, String, string_bytes, option_map, option_copied, Bor, cond, map, fold, refl, sym, ap, ◌∙◌, ℤ, if◌then◌else◌}
use Rattle.std.specs.Map.{lookup, set_value}
use Rattle.std.specs.List.{list_any, find}
use Rattle.std.specs.Str.{bytes_eq}
use Rattle.std.specs.String.{string_eq}
use Rattle.indexmap.specs.IndexMap.{IndexMap, insert_entry}
use Rattle.indexmap.proofs.CallerLemmas.{insert_entry-new}
use Rattle.delegates.specs.declared.table.SetEnd.TheVariants.{Done, NoDelegate, NoField}
use Rattle.delegates.specs.Meaning.{Meaning, has_field, with_field}
use Rattle.delegates.specs.Table.{Plug, entries_of, if_some, is_named, meaning_in, meaning_of, plugged, set_end, with_meaning, with_new, with_number}

-- what a slot's box means, if the slot is there and has one
abbrev pub meaning_at : {B : Type 0} → (B → Meaning) → Option (Option B) → Option Meaning
meaning_at f None = None
meaning_at f (Some slot) = option_map f slot

-- what a lent box means is what the box itself does
if_some-copied : {B : Type 0} (f : B → Meaning) (r : Option (Bor B)) → if_some r (λ b. f b.now) ≡ option_map f (option_copied r)
if_some-copied f None = refl
if_some-copied f (Some b) = refl

module _ {Z B : Type 0} (f : B → Meaning) (name : List ℕ) where
  abbrev pub test : String Z → Bool
  test k = bytes_eq name (string_bytes k)

  abbrev entry : String Z × Option B → Plug
  entry e = record { name = string_bytes e.0; meaning = option_map f e.1 }

  -- what a look-up finds is what the table's entry means
  pub meaning_of-lookup : (es : List (String Z × Option B)) → meaning_of (entries_of es f) name ≡ meaning_at f (lookup test es)
  meaning_of-lookup [] = refl
  meaning_of-lookup (e ∷ es) = by (test e.0) (meaning_of-lookup es)
    where
      by : (b : Bool) → meaning_of (entries_of es f) name ≡ meaning_at f (lookup test es)
          → meaning_in (cond b (Some (entry e)) (find (is_named name) (entries_of es f))) ≡ meaning_at f (cond b (Some e.1) (lookup test es))
      by true rest = refl
      by false rest = rest

  -- the same where it finds a slot, and what this has is lent
  pub lent-meaning_of : (es : List (String Z × Option B)) (slot : Option B) (r : Option (Bor B)) → Some slot ≡ lookup test es → option_copied r ≡ slot
      → if_some r (λ b. f b.now) ≡ meaning_of (entries_of es f) name
  lent-meaning_of es slot r found lent = if_some-copied f r ∙ ap (option_map f) lent ∙ ap (meaning_at f) found ∙ sym (meaning_of-lookup es)

  pub meaning_of-found : (es : List (String Z × Option B)) (slot : Option B) → Some slot ≡ lookup test es → option_map f slot ≡ meaning_of (entries_of es f) name
  meaning_of-found es slot found = ap (meaning_at f) found ∙ sym (meaning_of-lookup es)

  -- and where it finds none
  pub meaning_of-absent : (es : List (String Z × Option B)) → None ≡ lookup test es → None ≡ meaning_of (entries_of es f) name
  meaning_of-absent es none = ap (meaning_at f) none ∙ sym (meaning_of-lookup es)

  -- a write to the slot of a name changes that entry's meaning
  pub entries_of-set_value : (es : List (String Z × Option B)) (w : Option B) → entries_of (set_value test es w) f ≡ with_meaning (entries_of es f) name (option_map f w)
  entries_of-set_value [] w = refl
  entries_of-set_value (e ∷ es) w = by (test e.0) (entries_of-set_value es w)
    where
      by : (b : Bool) → entries_of (set_value test es w) f ≡ with_meaning (entries_of es f) name (option_map f w)
          → entries_of (cond b ((e.0, w) ∷ es) (e ∷ set_value test es w)) f ≡ cond b (entry (e.0, w) ∷ entries_of es f) (entry e ∷ with_meaning (entries_of es f) name (option_map f w))
      by true rest = refl
      by false rest = ap (λ l. entry e ∷ l) rest

  -- where a name isn't found there is no such entry to change
  pub with_meaning-absent : (es : List (String Z × Option B)) (m : Option Meaning) → None ≡ lookup test es → entries_of es f ≡ with_meaning (entries_of es f) name m
  with_meaning-absent [] m none = refl
  with_meaning-absent (e ∷ es) m none = by (test e.0) none (with_meaning-absent es m)
    where
      by : (b : Bool) → None ≡ cond b (Some e.1) (lookup test es) → (None ≡ lookup test es → entries_of es f ≡ with_meaning (entries_of es f) name m)
          → entry e ∷ entries_of es f ≡ cond b (record { name = string_bytes e.0; meaning = m } ∷ entries_of es f) (entry e ∷ with_meaning (entries_of es f) name m)
      by true h rest = absurd (true≢false (sym (ap is_some h)))
      by false h rest = ap (λ l. entry e ∷ l) (rest h)

  -- a name is found exactly where an entry has it
  pub list_any-entries_of : (es : List (String Z × Option B)) → list_any (is_named name) (entries_of es f) ≡ is_some (lookup test es)
  list_any-entries_of [] = refl
  list_any-entries_of (e ∷ es) = by (test e.0) (list_any-entries_of es)
    where
      by : (b : Bool) → list_any (is_named name) (entries_of es f) ≡ is_some (lookup test es)
          → (b || list_any (is_named name) (entries_of es f)) ≡ is_some (cond b (Some e.1) (lookup test es))
      by true rest = refl
      by false rest = rest

  -- a delegate is plugged where a look-up finds a slot that has one
  pub plugged-found : (es : List (String Z × Option B)) (slot : Option B) → Some slot ≡ lookup test es → is_some slot ≡ is_some (meaning_of (entries_of es f) name)
  plugged-found es None found = ap is_some (meaning_of-found es None found)
  plugged-found es (Some b) found = ap is_some (meaning_of-found es (Some b) found)

  -- what a map whose slot was written, and one whose slot wasn't there, have for entries
  pub written-with_meaning : (es ns : List (String Z × Option B)) (w v : Option B) → ns ≡ set_value test es w → w ≡ v → entries_of ns f ≡ with_meaning (entries_of es f) name (option_map f v)
  written-with_meaning es ns w v wrote same = ap (λ l. entries_of l f) wrote ∙ entries_of-set_value es w ∙ ap (λ o. with_meaning (entries_of es f) name (option_map f o)) same

  pub kept-with_meaning : (es ns : List (String Z × Option B)) (m : Option Meaning) → ns ≡ es → None ≡ lookup test es → entries_of ns f ≡ with_meaning (entries_of es f) name m
  kept-with_meaning es ns m same none = ap (λ l. entries_of l f) same ∙ with_meaning-absent es m none

  -- how setting a field ends, and what it leaves, where a delegate is plugged
  pub set_end-found : (es : List (String Z × Option B)) (b : B) (field : List ℕ) (r : Bool) → Some (Some b) ≡ lookup test es → r ≡ has_field (f b) field
      → (if r then Done else NoField) ≡ set_end (meaning_of (entries_of es f) name) field
  set_end-found es b field r found answer = ap (λ t. if t then Done else NoField) answer ∙ ap (λ m. set_end m field) (meaning_of-found es (Some b) found)

  pub with_number-found : (es ns : List (String Z × Option B)) (b w : B) (field : List ℕ) (n k : ℤ) → ns ≡ set_value test es (Some w) → Some (Some b) ≡ lookup test es → f w ≡ with_field (f b) field k → k ≡ n
      → entries_of ns f ≡ with_number (entries_of es f) name field n
  with_number-found es ns b w field n k wrote found changed same =
      ap (λ l. entries_of l f) wrote ∙ entries_of-set_value es (Some w) ∙ ap (λ m. with_meaning (entries_of es f) name (Some m)) (changed ∙ ap (with_field (f b) field) same)
      ∙ ap (λ o. with_meaning (entries_of es f) name (option_map (λ m. with_field m field n) o)) (meaning_of-found es (Some b) found)

  -- where one was unplugged
  pub set_end-unplugged : (es : List (String Z × Option B)) (slot : Option B) (field : List ℕ) → Some slot ≡ lookup test es → None ≡ slot → NoDelegate ≡ set_end (meaning_of (entries_of es f) name) field
  set_end-unplugged es slot field found none = ap (λ m. set_end m field) (meaning_of-found es None (ap Some none ∙ found))

  pub with_number-unplugged : (es ns : List (String Z × Option B)) (slot : Option B) (field : List ℕ) (n : ℤ) → ns ≡ set_value test es slot → Some slot ≡ lookup test es → None ≡ slot
      → entries_of ns f ≡ with_number (entries_of es f) name field n
  with_number-unplugged es ns slot field n wrote found none =
      written-with_meaning es ns slot None wrote (sym none)
      ∙ ap (λ o. with_meaning (entries_of es f) name (option_map (λ m. with_field m field n) o)) (meaning_of-found es None (ap Some none ∙ found))

  -- and where there is no slot
  pub set_end-absent : (es : List (String Z × Option B)) (field : List ℕ) → None ≡ lookup test es → NoDelegate ≡ set_end (meaning_of (entries_of es f) name) field
  set_end-absent es field none = ap (λ m. set_end m field) (meaning_of-absent es none)

none_from_is_some : {A : Type 0} (r : Option A) → false ≡ is_some r → r ≡ None
none_from_is_some None h = refl
none_from_is_some (Some x) h = absurd (true≢false (sym h))

-- what inserting a delegate's name does to the entries
module _ {Z B : Type 0} (f : B → Meaning) where
  entries_of-push : (es : List (String Z × Option B)) (name : String Z) (b : B) → entries_of (es ++ (name, Some b) ∷ []) f ≡ entries_of es f ++ plugged (string_bytes name) (f b) ∷ []
  entries_of-push [] name b = refl
  entries_of-push (e ∷ es) name b = ap (λ l. entry f [] e ∷ l) (entries_of-push es name b)

  -- the map after a new name is inserted
  pub with_new-absent : {S : Type 0} (m : IndexMap (String Z) (Option B) S) (ns : List (String Z × Option B)) (name : String Z) (b : B) (bs : List ℕ) → bs ≡ string_bytes name
      → false ≡ is_some (lookup (test f bs) m.entries) → ns ≡ insert_entry string_eq m.entries name (Some b)
      → entries_of ns f ≡ with_new (entries_of m.entries f) (plugged (string_bytes name) (f b))
  with_new-absent m ns name b bs same none put =
      let none' : false ≡ is_some (lookup (test f (string_bytes name)) m.entries) = none ∙ ap (λ l. is_some (lookup (test f l) m.entries)) same in
      ap (λ l. entries_of l f) (put ∙ insert_entry-new string_eq m name (Some b) (none_from_is_some _ none'))
      ∙ entries_of-push m.entries name b
      ∙ ap (λ t. if t then entries_of m.entries f else entries_of m.entries f ++ plugged (string_bytes name) (f b) ∷ []) (none' ∙ sym (list_any-entries_of f (string_bytes name) m.entries))

  -- and where the name is there
  pub with_new-found : (es : List (String Z × Option B)) (name : String Z) (b : B) (bs : List ℕ) → bs ≡ string_bytes name → true ≡ is_some (lookup (test f bs) es)
      → entries_of es f ≡ with_new (entries_of es f) (plugged (string_bytes name) (f b))
  with_new-found es name b bs same found =
      ap (λ t. if t then entries_of es f else entries_of es f ++ plugged (string_bytes name) (f b) ∷ [])
      (found ∙ ap (λ l. is_some (lookup (test f l) es)) same ∙ sym (list_any-entries_of f (string_bytes name) es))

-- one delegate more of those that are left
pub with_new-turn : {N : Type 0} (h : N → Plug) (es ns all : List Plug) (xs ys : List N) (x : N) → xs ≡ x ∷ ys → ns ≡ with_new es (h x) → fold with_new es (map h xs) ≡ all → fold with_new ns (map h ys) ≡ all
with_new-turn h es ns all xs ys x items step so_far = ap (λ l. fold with_new l (map h ys)) step ∙ sym (ap (λ l. fold with_new es (map h l)) items) ∙ so_far
