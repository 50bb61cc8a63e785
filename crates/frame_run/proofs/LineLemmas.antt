-- What is kept of a line, and the line.
use Rattle.std.proofs.Common.{◌≡◌, ◌≢◌, ℕ, ◌<◌, ◌≤◌, zero, suc, Bool, true, false, ◌==◌, inl, inr, List, [], ◌∷◌, ◌++◌, length, reverse, replicate, refl, ap, sym, subst, ◌∙◌, append_assoc, append-nil, arith, add-one, if◌then◌else◌}
use Rattle.std.proofs.lemmas.List.{reverse-append, length-append, length-reverse, reverse-reverse, replicate-append-replicate}
use Rattle.std.proofs.lemmas.Bool.Decides.{eqb_tells, nat_tests}
use Rattle.std.proofs.Common.{codes, nat_le, Err}
use Rattle.std.proofs.lemmas.Bool.{false_from_ne_true}
use Rattle.std.proofs.lemmas.Slice.Eq.{bytes_eq-Decides}
use Rattle.std.specs.Str.{bytes_eq, chars, is_utf8}
use Rattle.script_lines.specs.EntryReading.{entry_by, entry_of}
use Rattle.script_lines.specs.declared.reading.TheConstants.{LINE_MAX}
use Rattle.script_lines.specs.Reading.{command_of}
use Rattle.script_lines.specs.Table.{too_long}
use Rattle.frame_run.specs.Script.{asked_by, asked_of}
use Rattle.frame_run.specs.declared.script.Asked.TheVariants.{Nothing}
use Rattle.frame_run.specs.Lines.{without_return, without_spaces, trimmed}
use Rattle.frame_run.specs.InputLine.{whole_line, IsWhole, HoldsWithin, IsCapped, Follows, MustKeep}

pub reverse-snoc : (xs : List ℕ) (x : ℕ) → reverse (xs ++ x ∷ []) ≡ x ∷ reverse xs
reverse-snoc xs x = reverse-append xs (x ∷ [])

replicate-snoc : (n x : ℕ) → replicate n x ++ x ∷ [] ≡ replicate (suc n) x
replicate-snoc n x = replicate-append-replicate n 1 x ∙ ap (λ m. replicate m x) (add-one n)

-- U+0020 at the end are read first from there
reverse-spaces : (kept : List ℕ) (n : ℕ) → reverse (kept ++ replicate n 32) ≡ replicate n 32 ++ reverse kept
reverse-spaces kept zero = ap reverse (append-nil kept)
reverse-spaces kept (suc n) =
    ap (λ s. reverse (kept ++ s)) (sym (replicate-snoc n 32)) ∙ ap reverse (sym (append_assoc kept (replicate n 32) (32 ∷ [])))
    ∙ reverse-snoc (kept ++ replicate n 32) 32 ∙ ap (λ t. 32 ∷ t) (reverse-spaces kept n)

without_spaces-replicate : (n : ℕ) (xs : List ℕ) → without_spaces (replicate n 32 ++ xs) ≡ without_spaces xs
without_spaces-replicate zero xs = refl
without_spaces-replicate (suc n) xs = without_spaces-replicate n xs

-- what is dropped at the line's end, if the kept part is read from its end
cut_of : (n : ℕ) (has_return : Bool) (kept : List ℕ) → without_spaces (reverse kept) ≡ reverse kept
    → (n ≡ 0 → has_return ≡ false → without_return (reverse kept) ≡ reverse kept)
    → without_spaces (without_return (reverse (whole_line kept n has_return))) ≡ reverse kept
cut_of n true kept no_space no_return =
    ap (λ t. without_spaces (without_return t)) (reverse-snoc (kept ++ replicate n 32) 13 ∙ ap (λ t. 13 ∷ t) (reverse-spaces kept n))
    ∙ without_spaces-replicate n (reverse kept) ∙ no_space
cut_of zero false kept no_space no_return =
    ap (λ t. without_spaces (without_return (reverse t))) (append-nil (kept ++ []) ∙ append-nil kept)
    ∙ ap without_spaces (no_return refl refl) ∙ no_space
cut_of (suc n) false kept no_space no_return =
    ap (λ t. without_spaces (without_return t)) (ap reverse (append-nil (kept ++ replicate (suc n) 32)) ∙ reverse-spaces kept (suc n))
    ∙ without_spaces-replicate n (reverse kept) ∙ no_space

pub trimmed-whole : (kept : List ℕ) (n : ℕ) (has_return : Bool) (raw : List ℕ) → IsWhole kept n has_return raw → trimmed raw ≡ kept
unfolding trimmed
trimmed-whole kept n has_return raw h =
    ap (λ t. reverse (without_spaces (without_return (reverse t)))) h.line
    ∙ ap reverse (cut_of n has_return kept h.no_space h.no_return) ∙ reverse-reverse kept

-- what is left without U+0020 or U+000D is no longer
spaces_shorten : (xs : List ℕ) → length (without_spaces xs) ≤ length xs
spaces_shorten [] = omega arith
spaces_shorten (x ∷ xs) =
    elim (x == 32) as (λ v. length {A = ℕ} (elim v [ true ↦ without_spaces xs | false ↦ x ∷ xs ]) ≤ suc (length xs))
    [ true ↦ omega (arith, spaces_shorten xs) | false ↦ omega arith ]

return_shortens : (xs : List ℕ) → length (without_spaces (without_return xs)) ≤ length (without_spaces xs)
return_shortens [] = omega arith
return_shortens (x ∷ xs) =
    elim (x == 13) as (λ v. length (without_spaces (if v then xs else x ∷ xs)) ≤ length {A = ℕ} (elim (x == 32) [ true ↦ without_spaces xs | false ↦ x ∷ xs ])) [
      | true ↦ elim (x == 32) as (λ v. length (without_spaces xs) ≤ length {A = ℕ} (elim v [ true ↦ without_spaces xs | false ↦ x ∷ xs ]))
          [ true ↦ omega arith | false ↦ omega (arith, spaces_shorten xs) ]
      | false ↦ omega arith
    ]

-- the length without what is dropped doesn't fall when a byte comes
grows : (x : ℕ) (xs : List ℕ) → length (without_spaces (without_return xs)) ≤ length (without_spaces (without_return (x ∷ xs)))
grows x xs =
    elim (x == 13) as (λ v. length (without_spaces (without_return xs)) ≤ length (without_spaces (if v then xs else x ∷ xs))) [
      | true ↦ return_shortens xs
      | false ↦ elim (x == 32) as (λ v. length (without_spaces (without_return xs)) ≤ length {A = ℕ} (elim v [ true ↦ without_spaces xs | false ↦ x ∷ xs ]))
          [ true ↦ return_shortens xs | false ↦ omega (arith, return_shortens xs, spaces_shorten xs) ]
    ]

length_trimmed : (raw : List ℕ) → length (trimmed raw) ≡ length (without_spaces (without_return (reverse raw)))
unfolding trimmed
length_trimmed raw = length-reverse (without_spaces (without_return (reverse raw)))

length_trimmed-snoc : (raw : List ℕ) (x : ℕ) → length (trimmed (raw ++ x ∷ [])) ≡ length (without_spaces (without_return (x ∷ reverse raw)))
length_trimmed-snoc raw x = length_trimmed (raw ++ x ∷ []) ∙ ap (λ t. length (without_spaces (without_return t))) (reverse-snoc raw x)

pub trimmed_grows : (raw : List ℕ) (x : ℕ) → length (trimmed raw) ≤ length (trimmed (raw ++ x ∷ []))
trimmed_grows raw x = omega (arith, length_trimmed raw, length_trimmed-snoc raw x, grows x (reverse raw))

-- after a U+000D nothing of what came before is dropped
return_keeps : (x : ℕ) (xs : List ℕ) → suc (length xs) ≤ length (without_spaces (without_return (x ∷ 13 ∷ xs)))
return_keeps x xs =
    elim (x == 13) as (λ v. suc (length xs) ≤ length (without_spaces (if v then 13 ∷ xs else x ∷ 13 ∷ xs))) [
      | true ↦ omega arith
      | false ↦ elim (x == 32) as (λ v. suc (length xs) ≤ length {A = ℕ} (elim v [ true ↦ 13 ∷ xs | false ↦ x ∷ 13 ∷ xs ]))
          [ true ↦ omega arith | false ↦ omega arith ]
    ]

differs : (x y : ℕ) → x ≢ y → (x == y) ≡ false
differs x y h = elim (eqb_tells x y) [ inl t ↦ absurd (h t.1) | inr t ↦ t.0 ]

no_space_of : (x : ℕ) (xs : List ℕ) → (x == 32) ≡ false → without_spaces (x ∷ xs) ≡ x ∷ xs
no_space_of x xs e = let P : Bool → Type 0 = λ v. (elim v [ true ↦ without_spaces xs | false ↦ x ∷ xs ]) ≡ x ∷ xs in subst P (sym e) refl

no_return_of : (x : ℕ) (xs : List ℕ) → (x == 13) ≡ false → without_return (x ∷ xs) ≡ x ∷ xs
no_return_of x xs e = let P : Bool → Type 0 = λ v. (if v then xs else x ∷ xs) ≡ x ∷ xs in subst P (sym e) refl

ended : (raw : List ℕ) (x : ℕ) → x ≢ 32 → x ≢ 13 → IsWhole (raw ++ x ∷ []) 0 false (raw ++ x ∷ [])
ended raw x no_space no_return = record {
  line = sym (append-nil (raw ++ x ∷ [] ++ []) ∙ append-nil (raw ++ x ∷ []));
  no_space = let P : List ℕ → Type 0 = λ t. without_spaces t ≡ t in
      subst P (sym (reverse-snoc raw x)) (no_space_of x (reverse raw) (differs x 32 no_space));
  no_return = λ _ _. let P : List ℕ → Type 0 = λ t. without_return t ≡ t in
      subst P (sym (reverse-snoc raw x)) (no_return_of x (reverse raw) (differs x 13 no_return));
}

followed : (raw : List ℕ) (x : ℕ) → Follows raw x → length raw ≤ length (trimmed (raw ++ x ∷ []))
followed raw x (inl h) = omega (arith, ap length (trimmed-whole _ _ _ _ (ended raw x h.0 h.1)), length-append raw (x ∷ []))
followed raw x (inr (front, e)) =
    omega (
      arith,
      length_trimmed-snoc raw x,
      return_keeps x (reverse front),
      ap length e,
      length-append front (13 ∷ []),
      length-reverse front,
      ap (λ t. length (without_spaces (without_return (x ∷ t)))) (ap reverse e ∙ reverse-snoc front 13),
    )

-- more comes where the kept bytes are too long already
pub held_full : (limit : ℕ) (kept : List ℕ) (n : ℕ) (has_return : Bool) (raw : List ℕ) (x : ℕ) → limit < length kept
    → HoldsWithin limit kept n has_return raw → HoldsWithin limit kept n has_return (raw ++ x ∷ [])
held_full limit kept n has_return raw x long (inl h) =
    inr (long, omega (arith, trimmed_grows raw x, ap length (trimmed-whole kept n has_return raw h)))
held_full limit kept n has_return raw x long (inr h) = inr (long, omega (arith, trimmed_grows raw x, h.1))

pub capped_full : (limit : ℕ) (kept : List ℕ) (n : ℕ) (has_return : Bool) (raw : List ℕ) (x : ℕ) → limit < length kept
    → IsCapped limit raw kept → Follows raw x → HoldsWithin limit kept n has_return (raw ++ x ∷ [])
capped_full limit kept n has_return raw x long (inl e) follows = inr (long, omega (arith, followed raw x follows, ap length e))
capped_full limit kept n has_return raw x long (inr h) follows = inr (long, omega (arith, followed raw x follows, h.1))

-- the whole of a line that isn't too long, when it has been kept
pub settled : (limit : ℕ) (kept now : List ℕ) (n : ℕ) (has_return : Bool) (raw : List ℕ) → length kept ≤ limit
    → HoldsWithin limit kept n has_return raw → IsCapped limit (whole_line kept n has_return) now → IsCapped limit raw now
settled limit kept now n has_return raw short (inl h) capped =
    let P : List ℕ → Type 0 = λ t. IsCapped limit t now in subst P (sym h.line) capped
settled limit kept now n has_return raw short (inr h) capped = absurd (omega (arith, h.0))

-- where no byte has come that would be dropped, the kept bytes are the whole line
pub kept_whole : (limit : ℕ) (kept : List ℕ) (n : ℕ) (has_return : Bool) → n ≡ 0 → has_return ≡ false → IsCapped limit (whole_line kept n has_return) kept
kept_whole limit kept zero false no_spaces no_return = inl (sym (append-nil (kept ++ []) ∙ append-nil kept))
kept_whole limit kept zero true no_spaces no_return = cc
kept_whole limit kept (suc n) has_return no_spaces no_return = absurd (omega arith)

-- a byte that isn't dropped even as the last one
pub must_follow : (limit : ℕ) (kept : List ℕ) (n : ℕ) (has_return : Bool) (raw : List ℕ) (x : ℕ) → length kept ≤ limit
    → MustKeep has_return x → HoldsWithin limit kept n has_return raw → Follows raw x
must_follow limit kept n has_return raw x short (inl e) (inl h) =
    inr (kept ++ replicate n 32, h.line ∙ ap (λ (v : Bool). kept ++ replicate n 32 ++ (if v then 13 ∷ [] else [])) e)
must_follow limit kept n has_return raw x short (inl e) (inr h) = absurd (omega (arith, h.0))
must_follow limit kept n has_return raw x short (inr other) h = inl other

unlike : (xs ys : List ℕ) → length ys < length xs → bytes_eq xs ys ≡ false
unlike xs ys h = false_from_ne_true (bytes_eq xs ys) (λ e. absurd (omega (arith, ap length ((bytes_eq-Decides xs ys).0 e))))

long_not_fit : (line : List ℕ) → LINE_MAX < length line → nat_le (length line) LINE_MAX ≡ false
long_not_fit line long = grind (arith, nat_tests)

long_line : (line : List ℕ) → LINE_MAX < length line → command_of line ≡ Err too_long
unfolding command_of
long_line line long = rw (long_not_fit line long) refl

long_entry : (line : List ℕ) → LINE_MAX < length line → entry_of line ≡ Err too_long
unfolding entry_of
long_entry line long = ap (entry_by line) (long_line line long)

-- what is kept asks for what the line asks for, and ends the program part where the line does
pub held_entry : (kept : List ℕ) (n : ℕ) (has_return : Bool) (raw : List ℕ) → HoldsWithin LINE_MAX kept n has_return raw
    → asked_of kept ≡ asked_of (trimmed raw)
held_entry kept n has_return raw (inl h) = ap asked_of (sym (trimmed-whole kept n has_return raw h))
held_entry kept n has_return raw (inr h) = ap asked_by (long_entry kept h.0 ∙ sym (long_entry (trimmed raw) h.1))

pub held_mark : (limit : ℕ) (kept : List ℕ) (n : ℕ) (has_return : Bool) (raw : List ℕ) → 2 ≤ limit
    → HoldsWithin limit kept n has_return raw → bytes_eq kept (codes "%%") ≡ bytes_eq (trimmed raw) (codes "%%")
held_mark limit kept n has_return raw room (inl h) = ap (λ t. bytes_eq t (codes "%%")) (sym (trimmed-whole kept n has_return raw h))
held_mark limit kept n has_return raw room (inr h) =
    unlike kept (codes "%%") (omega (arith, h.0)) ∙ sym (unlike (trimmed raw) (codes "%%") (omega (arith, h.1)))

-- nothing is kept where nothing is left without what is dropped, and then the line asks for nothing
none_of_long : (n : ℕ) → 0 < n → (n == 0) ≡ false
none_of_long n h = elim (eqb_tells n 0) [ inl t ↦ absurd (omega (arith, h, t.1)) | inr t ↦ t.0 ]

pub held_blank : (limit : ℕ) (kept : List ℕ) (n : ℕ) (has_return : Bool) (raw : List ℕ) → HoldsWithin limit kept n has_return raw
    → (length kept == 0) ≡ (length (trimmed raw) == 0)
held_blank limit kept n has_return raw (inl h) = ap (λ t. length t == 0) (sym (trimmed-whole kept n has_return raw h))
held_blank limit kept n has_return raw (inr h) =
    none_of_long (length kept) (omega (arith, h.0)) ∙ sym (none_of_long (length (trimmed raw)) (omega (arith, h.1)))

nothing_asked : asked_of [] ≡ Nothing
unfolding entry_of command_of is_utf8 chars
nothing_asked = refl

pub blank_asked : (line : List ℕ) → (length line == 0) ≡ true → asked_of line ≡ Nothing
blank_asked [] e = nothing_asked
blank_asked (x ∷ line) e = let no : false ≡ true = sym (none_of_long (length (x ∷ line)) (omega arith)) ∙ e in cc
