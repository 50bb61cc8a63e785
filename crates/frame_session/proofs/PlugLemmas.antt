-- The meanings of delegates after a line that sets a field of one or unplugs one, and where it is refused.
use Rattle.std.proofs.Common.{◌≡◌, ℕ, ℤ, Bool, true, false, ◌||◌, Option, Some, None, is_some, option_map, List, [], ◌∷◌, ◌++◌, codes, refl, sym, subst, ap, ◌∙◌, if◌then◌else◌}
use Rattle.std.specs.List.{find}
use Rattle.std.specs.Str.{bytes_eq}
use Rattle.delegates.specs.Meaning.{Meaning, bars, grid, corner, has_field, with_field}
use Rattle.delegates.specs.Table.{Plug, is_named, meaning_in, meaning_of, with_meaning, with_number, unplugged, set_end}
use Rattle.delegates.specs.declared.table.SetEnd.{SetEnd}
use Rattle.delegates.specs.declared.table.SetEnd.TheVariants as set_end
use Rattle.frame_session.specs.declared.held.HeldSession.{HeldSession}
use Rattle.session_form.specs.declared.refusal.Refusal.TheVariants.{NoDelegate}
use Rattle.session_form.specs.Changing.{delegate_ended, delegate_line, unplug_line}
use Rattle.session_form.specs.Outcome.{quietly, refused, state_after}
use Rattle.frame_session.specs.StandsFor.{StandsFor}
use Rattle.session_form.specs.State.{SessionState, delegate}
use Rattle.frame_session.proofs.StandsLemmas.{not_true}
use Rattle.frame_session.proofs.OwnerLemmas.{with_owner}
use Rattle.plain_tree.specs.PlainNode.{PlainNode}
use Rattle.program_check.specs.Checked.{PlainChecked}
use Rattle.screen_owner.specs.Screen.{shown_in}
use Rattle.frame_owner.specs.Frame.{KeptFrame, next_in}
use Rattle.frame_owner.specs.Standing.{FrameStandsFor}
use Rattle.session_form.proofs.TreeLemmas.{true_false}

-- ---- an entry that gets the meaning that it has

at_same_meaning : (b : Bool) (name : List ℕ) (e : Plug) (es : List Plug) → with_meaning es name (meaning_of es name) ≡ es
    → (if b then record { name = e.name; meaning = meaning_in (if b then Some e else find (is_named name) es) } ∷ es
    else e ∷ with_meaning es name (meaning_in (if b then Some e else find (is_named name) es))) ≡ e ∷ es
at_same_meaning true name e es h = refl
at_same_meaning false name e es h = ap (λ l. e ∷ l) h

same_meaning : (es : List Plug) (name : List ℕ) → with_meaning es name (meaning_of es name) ≡ es
same_meaning [] name = refl
same_meaning (e ∷ es) name = at_same_meaning (is_named name e) name e es (same_meaning es name)

-- ---- a field that isn't there

neither : (a b : Bool) (x y z : Meaning) → (a || b) ≡ false → (if a then x else (if b then y else z)) ≡ z
neither true b x y z e = absurd (true_false e)
neither false true x y z e = absurd (true_false e)
neither false false x y z e = refl

no_field : (m : Meaning) (field : List ℕ) (n : ℤ) → has_field m field ≡ false → with_field m field n ≡ m
no_field (bars count color) field n e =
    neither (bytes_eq field (codes "count")) (bytes_eq field (codes "color")) (bars n color) (bars count n) (bars count color) e
no_field (grid step color) field n e =
    neither (bytes_eq field (codes "step")) (bytes_eq field (codes "color")) (grid n color) (grid step n) (grid step color) e
no_field (corner dx dy) field n e =
    neither (bytes_eq field (codes "dx")) (bytes_eq field (codes "dy")) (corner n dy) (corner dx n) (corner dx dy) e

none_is : (o : Option Meaning) → is_some o ≡ false → o ≡ None
none_is None e = refl
none_is (Some m) e = absurd (true_false e)

same_number : (o : Option Meaning) (field : List ℕ) (n : ℤ) → (set_end o field ≡ set_end.Done → ⊥) → option_map (λ m. with_field m field n) o ≡ o
same_number None field n h = refl
same_number (Some m) field n h =
    ap Some (no_field m field n (not_true (has_field m field) (λ e. h (ap (λ (b : Bool). if b then set_end.Done else set_end.NoField) e))))

number_kept : (es : List Plug) (name field : List ℕ) (n : ℤ) → (set_end (meaning_of es name) field ≡ set_end.Done → ⊥) → with_number es name field n ≡ es
number_kept es name field n h = ap (λ m. with_meaning es name m) (same_number (meaning_of es name) field n h) ∙ same_meaning es name

unplugged_kept : (es : List Plug) (name : List ℕ) → is_some (meaning_of es name) ≡ false → unplugged es name ≡ es
unplugged_kept es name h = ap (λ m. with_meaning es name m) (sym (none_is (meaning_of es name) h)) ∙ same_meaning es name

-- ---- what is kept with other meanings

same_entries : (kept : HeldSession) (old new : List Plug) (s : SessionState) → StandsFor kept old s → new ≡ old → StandsFor kept new s
same_entries kept old new s h e = let P : List Plug → Type 0 = λ es. StandsFor kept es s in subst P (sym e) h

pub no_delegate_done : set_end.NoDelegate ≡ set_end.Done → ⊥
no_delegate_done e = cc

pub no_field_done : set_end.NoField ≡ set_end.Done → ⊥
no_field_done e = cc

after_refusal : (kept : HeldSession) (old new : List Plug) (s : SessionState) (name field : List ℕ) (n : ℤ) (e : SetEnd) → StandsFor kept old s
    → new ≡ with_number old name field n → set_end (meaning_of old name) field ≡ e → (e ≡ set_end.Done → ⊥)
    → StandsFor kept new (state_after s (delegate_ended e name field n s))
after_refusal kept old new s name field n set_end.Done h changed is other = absurd (other refl)
after_refusal kept old new s name field n set_end.NoDelegate h changed is other =
    same_entries kept old new s h (changed ∙ number_kept old name field n (λ d. no_delegate_done (sym is ∙ d)))
after_refusal kept old new s name field n set_end.NoField h changed is other =
    same_entries kept old new s h (changed ∙ number_kept old name field n (λ d. no_field_done (sym is ∙ d)))

-- `delegate NAME FIELD N`, by what the table's call says: where it is refused the screen stays
pub delegate_refused : (kept : HeldSession) (old new : List Plug) (s : SessionState) (name field name2 field2 : List ℕ) (n n2 : ℤ) (e : SetEnd) → StandsFor kept old s
    → new ≡ with_number old name2 field2 n2 → name2 ≡ name → field2 ≡ field → n2 ≡ n → e ≡ set_end (meaning_of old name2) field2 → (e ≡ set_end.Done → ⊥)
    → StandsFor kept new (state_after s (delegate_line name field n s))
delegate_refused kept old new s name field name2 field2 n n2 e h changed same_name same_field same_number ended other =
    let found : set_end (meaning_of s.delegates name) field ≡ e =
    sym (ended ∙ (λ i. set_end (meaning_of (h.delegates_mean i) (same_name i)) (same_field i))) in
    after_refusal kept old new s name field n (set_end (meaning_of s.delegates name) field) h
    (changed ∙ (λ i. with_number old (same_name i) (same_field i) (same_number i))) (ap (λ es. set_end (meaning_of es name) field) h.delegates_mean)
    (λ d. other (sym found ∙ d))

-- where it is done the users of the delegate are marked
abbrev pub MeansOther : List ℕ → KeptFrame → KeptFrame → Type 0
MeansOther name old new = (c : PlainChecked) (ds : List Plug) (marks : List ℕ) (tree : Option PlainNode) (m : Option Meaning) → FrameStandsFor c ds marks tree old → FrameStandsFor c (with_meaning ds name m) marks tree new

pub delegate_done : (kept : HeldSession) (owner : KeptFrame) (old new : List Plug) (s : SessionState) (name field name2 field2 name3 : List ℕ) (n n2 : ℤ) → StandsFor kept old s
    → new ≡ with_number old name2 field2 n2 → name2 ≡ name → field2 ≡ field → n2 ≡ n → set_end (meaning_of old name2) field2 ≡ set_end.Done
    → next_in owner ≡ next_in kept.owner → shown_in owner.screen ≡ shown_in kept.owner.screen → owner.screen.layers ≡ kept.owner.screen.layers
    → MeansOther name3 kept.owner owner → name3 ≡ name
    → StandsFor (record kept { owner = owner }) new (state_after s (delegate_line name field n s))
delegate_done kept owner old new s name field name2 field2 name3 n n2 h changed same_name same_field same_number ended next shown layers other same_last =
    let found : set_end.Done ≡ set_end (meaning_of s.delegates name) field =
    sym ended ∙ (λ i. set_end (meaning_of (h.delegates_mean i) (same_name i)) (same_field i)) in
    let after : new ≡ with_number s.delegates name field n = changed ∙ (λ i. with_number (h.delegates_mean i) (same_name i) (same_field i) (same_number i)) in
    let P : SetEnd → Type 0 = λ e. StandsFor (record kept { owner = owner }) new (state_after s (delegate_ended e name field n s)) in
    let Q : List Plug → Type 0 = λ es. FrameStandsFor s.program es s.marks s.tree owner in
    let m : Option Meaning = option_map (λ x. with_field x field2 n2) (meaning_of old name2) in
    let same : with_meaning old name3 m ≡ with_meaning old name2 m = ap (λ x. with_meaning old x m) (same_last ∙ sym same_name) in
    subst P found
    (with_owner kept owner old new (with_number s.delegates name field n) s s.tree s.marks (s.touched ++ delegate name ∷ []) h
    (subst Q (same ∙ sym changed) (other s.program old s.marks s.tree m h.tree)) next shown layers after)

-- ---- `unplug NAME`

pub unplug_done : (kept : HeldSession) (owner : KeptFrame) (old new : List Plug) (s : SessionState) (name : List ℕ) → StandsFor kept old s
    → new ≡ unplugged old name → is_some (meaning_of old name) ≡ true → next_in owner ≡ next_in kept.owner → shown_in owner.screen ≡ shown_in kept.owner.screen
    → owner.screen.layers ≡ kept.owner.screen.layers → MeansOther name kept.owner owner
    → StandsFor (record kept { owner = owner }) new (state_after s (unplug_line name s))
unplug_done kept owner old new s name h changed is next shown layers other =
    let there : true ≡ is_some (meaning_of s.delegates name) = sym is ∙ ap (λ es. is_some (meaning_of es name)) h.delegates_mean in
    let P : Bool → Type 0 = λ b. StandsFor (record kept { owner = owner }) new (state_after s (if b
    then quietly (record s { delegates = unplugged s.delegates name; touched = s.touched ++ delegate name ∷ [] })
    else refused NoDelegate)) in
    let Q : List Plug → Type 0 = λ es. FrameStandsFor s.program es s.marks s.tree owner in
    subst P there
    (with_owner kept owner old new (unplugged s.delegates name) s s.tree s.marks (s.touched ++ delegate name ∷ []) h
    (subst Q (sym changed) (other s.program old s.marks s.tree None h.tree)) next shown layers (changed ∙ ap (λ es. unplugged es name) h.delegates_mean))

pub unplug_refused : (kept : HeldSession) (old new : List Plug) (s : SessionState) (name : List ℕ) → StandsFor kept old s
    → new ≡ unplugged old name → is_some (meaning_of old name) ≡ false → StandsFor kept new (state_after s (unplug_line name s))
unplug_refused kept old new s name h changed is =
    let there : false ≡ is_some (meaning_of s.delegates name) = sym is ∙ ap (λ es. is_some (meaning_of es name)) h.delegates_mean in
    let P : Bool → Type 0 = λ b. StandsFor kept new (state_after s (if b
    then quietly (record s { delegates = unplugged s.delegates name; touched = s.touched ++ delegate name ∷ [] })
    else refused NoDelegate)) in
    subst P there (same_entries kept old new s h (changed ∙ unplugged_kept old name is))
