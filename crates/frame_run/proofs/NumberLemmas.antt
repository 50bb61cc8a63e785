-- The numbers of the options, as they are read from their texts.
use Rattle.std.proofs.Common.{◌≡◌, ℕ, ◌≤◌, Bool, true, false, List, Option, Some, None, Result, Ok, Err, refl, ap, ap₂, sym, subst, ◌∙◌, codes, option_and_then, if◌then◌else◌}
use Rattle.std.specs.Str.Parse.{ParsesUnsigned, digits_value, without_leading_plus}
use Rattle.std.specs.Str.{bytes_eq}
use Rattle.clap.specs.Matches.{ReadsOne, one_text}
use Rattle.clap.specs.Walk.{Row, one_of, rows_of}
use Rattle.clap.specs.declared.parser.matches.Found.{Found}
use Rattle.clap.proofs.WalkLemmas.{one_text-rows}
use Rattle.clap.specs.ValueTests.{is_unsigned_in}
use Rattle.clap.specs.Values.{IsUnsignedIn}
use Rattle.clap.specs.declared.builder.value_parser.ValueParser.TheVariants.{Unsigned}
use Rattle.clap.proofs.ValueTestLemmas.{accepts-Accepts, Accepts-accepts}
use Rattle.frame_run.specs.Ranges.{IsInRange}
use Rattle.frame_run.specs.Words.{number_in, demo_with, demo_by, request_named}
use Rattle.frame_run.specs.declared.words.Mode.TheVariants as modes
use Rattle.frame_run.specs.declared.words.Request.TheVariants.{Input, Demo}

-- the number of a text, by the test of its range
abbrev tested : Bool → List ℕ → Option ℕ
tested v text = if v then Some (digits_value 10 (without_leading_plus text)) else None

inside : (low high : ℕ) (text : List ℕ) → IsUnsignedIn low high text → number_in low high (Some text) ≡ Some (digits_value 10 (without_leading_plus text))
inside low high text h = ap (λ v. tested v text) (Accepts-accepts false (Unsigned low high) text h)

outside : (low high : ℕ) (text : List ℕ) → (IsUnsignedIn low high text → ⊥) → number_in low high (Some text) ≡ None
outside low high text never =
    elim (is_unsigned_in low high text) as (λ v. (is_unsigned_in low high text ≡ v) → tested v text ≡ None)
    [ true ↦ λ e. absurd (never (accepts-Accepts false (Unsigned low high) text e)) | false ↦ λ e. refl ] refl

module _ {E : Type 0} (G : List ℕ → Result ℕ E → Type 0) (only : (u : List ℕ) (x : Result ℕ E) → G u x → ParsesUnsigned 64 10 u x) where
  -- a text that isn't read, and a number in its range
  pub number_unread : (low high : ℕ) (o : Option (List ℕ)) → ((t : List ℕ) → o ≡ Some t → ReadsOne G t None) → None ≡ number_in low high o
  number_unread low high None reads = refl
  number_unread low high (Some text) reads =
      let read = reads text refl in
      let never = only text (Err read.0) read.1 in
      sym (outside low high text (λ h. never (h.0, h.1)))

  pub number_inside : (low high n : ℕ) (o : Option (List ℕ)) → (o ≡ None → Some n ≡ None) → ((t : List ℕ) → o ≡ Some t → ReadsOne G t (Some n))
      → low ≤ n → n ≤ high → Some n ≡ number_in low high o
  number_inside low high n None none reads from to = let e = none refl in cc
  number_inside low high n (Some text) none reads from to =
      let read = only text (Ok n) (reads text refl) in
      let P : ℕ → Type 0 = λ m. low ≤ m in
      let Q : ℕ → Type 0 = λ m. m ≤ high in
      ap Some read.1 ∙ sym (inside low high text (read.0.0, read.0.1, subst P read.1 from, subst Q read.1 to))

-- a number that is one lies in its range
pub number_lies : (low high n : ℕ) (o : Option (List ℕ)) → number_in low high o ≡ Some n → (low ≤ n) × (n ≤ high)
number_lies low high n None e = cc
number_lies low high n (Some text) e =
    elim (is_unsigned_in low high text) as (λ v. (is_unsigned_in low high text ≡ v) → tested v text ≡ Some n → (low ≤ n) × (n ≤ high)) [
      | true ↦ λ is f.
          let h = accepts-Accepts false (Unsigned low high) text is in
          let same : digits_value 10 (without_leading_plus text) ≡ n = cc in
          let P : ℕ → Type 0 = λ m. low ≤ m in
          let Q : ℕ → Type 0 = λ m. m ≤ high in
          (subst P same h.2, subst Q same h.3)
      | false ↦ λ is f. cc
    ] refl e

-- so do those of what is asked for
ranges_with : (p q : Option ℕ) → ((n : ℕ) → p ≡ Some n → n ≤ 4294967295) → ((n : ℕ) → q ≡ Some n → (1 ≤ n) × (n ≤ 4096)) → IsInRange (demo_with p q)
ranges_with None q first second = tt
ranges_with (Some seed) None first second = tt
ranges_with (Some seed) (Some size) first second = (first seed refl, (second size refl).0, (second size refl).1)

ranges_by : (rows : List Row) → IsInRange (demo_by rows)
ranges_by rows = ranges_with (number_in 0 4294967295 (one_of (codes "seed") rows)) (number_in 1 4096 (one_of (codes "size") rows))
    (λ n e. (number_lies 0 4294967295 n (one_of (codes "seed") rows) e).1) (λ n e. number_lies 1 4096 n (one_of (codes "size") rows) e)

ranges_named : (word : List ℕ) (rows : List Row) → IsInRange (request_named word rows)
ranges_named word rows =
    elim (bytes_eq word (codes "run")) as (λ v. IsInRange (if v then Some (Input modes.Run) else if bytes_eq word (codes "check") then Some (Input modes.Check)
    else if bytes_eq word (codes "demo") then demo_by rows else None)) [
      | true ↦ tt
      | false ↦ elim (bytes_eq word (codes "check")) as (λ v. IsInRange (if v then Some (Input modes.Check) else if bytes_eq word (codes "demo") then demo_by rows else None)) [
        | true ↦ tt
        | false ↦ elim (bytes_eq word (codes "demo")) as (λ v. IsInRange (if v then demo_by rows else None)) [ true ↦ ranges_by rows | false ↦ tt ]
      ]
    ]

pub ranges_asked : (o : Option (List ℕ)) (rows : List Row) → IsInRange (option_and_then (λ word. request_named word rows) o)
ranges_asked None rows = tt
ranges_asked (Some word) rows = ranges_named word rows

-- what is asked for in mode `demo`, by the two numbers
by_texts : (f : Found) → demo_with (number_in 0 4294967295 (one_text f (codes "seed"))) (number_in 1 4096 (one_text f (codes "size"))) ≡ demo_by (rows_of f)
by_texts f =
    ap₂ (λ s z. demo_with (number_in 0 4294967295 s) (number_in 1 4096 z)) (one_text-rows f (codes "seed")) (one_text-rows f (codes "size"))

no_size : (p : Option ℕ) → demo_with p None ≡ None
no_size None = refl
no_size (Some seed) = refl

pub demo_no_seed : (f : Found) → None ≡ number_in 0 4294967295 (one_text f (codes "seed")) → None ≡ demo_by (rows_of f)
demo_no_seed f none = ap (λ p. demo_with p (number_in 1 4096 (one_text f (codes "size")))) none ∙ by_texts f

pub demo_no_size : (f : Found) → None ≡ number_in 1 4096 (one_text f (codes "size")) → None ≡ demo_by (rows_of f)
demo_no_size f none =
    let seed = number_in 0 4294967295 (one_text f (codes "seed")) in
    sym (no_size seed) ∙ ap (λ q. demo_with seed q) none ∙ by_texts f

pub demo_both : (f : Found) (seed size : ℕ) → Some seed ≡ number_in 0 4294967295 (one_text f (codes "seed"))
    → Some size ≡ number_in 1 4096 (one_text f (codes "size")) → Some (Demo seed size) ≡ demo_by (rows_of f)
demo_both f seed size first second = ap₂ (λ p q. demo_with p q) first second ∙ by_texts f
