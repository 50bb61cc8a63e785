-- A line's form, by the number of its words.
use Rattle.std.proofs.Common.{◌≡◌, ◌≢◌, ℕ, suc, true, false, List, [], ◌∷◌, length, Option, Some, Ok, Err, refl, ap, ap₂, sym, subst, ◌∙◌, cond, arith}
use Rattle.std.specs.List.{onto_first}
use Rattle.script_lines.specs.EntryForms.{focus_line, alone}
use Rattle.script_lines.specs.Table.{unknown_line, if_right, set_form, root_line, set_line, by_count}
use Rattle.script_lines.specs.Words.{is_space, words_of, rest_of, words_after, text_after}
use Rattle.script_lines.specs.declared.command.Command.TheVariants as command
use Rattle.script_lines.specs.declared.entry.Entry.{Entry}

-- a text has a first word
pub record HasFirst (words : List (List ℕ)) : Type 0 where
  pub first : List ℕ
  pub more : List (List ℕ)
  pub is : words ≡ first ∷ more

onto_has_first : (x : ℕ) (words : List (List ℕ)) → HasFirst words → HasFirst (onto_first x words)
onto_has_first x words h = record { first = x ∷ h.first; more = h.more; is = ap (onto_first x) h.is }

pub has_first : (text : List ℕ) → HasFirst (words_of text)
has_first [] = record { first = []; more = []; is = refl }
has_first (x ∷ xs) =
    elim (is_space x) as (λ v. HasFirst (cond v ([] ∷ words_of xs) (onto_first x (words_of xs))))
    [ true ↦ record { first = []; more = words_of xs; is = refl } | false ↦ onto_has_first x (words_of xs) (has_first xs) ]

pub root_words : (json : List ℕ) → root_line (words_of json) json ≡ Ok (command.Root json)
root_words json = ap (λ words. root_line words json) (has_first json).is

pub many_words : (word a b c rest : List ℕ) → by_count word (a ∷ b ∷ c ∷ words_of rest) ≡ Err unknown_line
many_words word a b c rest = ap (λ words. by_count word (a ∷ b ∷ c ∷ words)) (has_first rest).is

set_words : (a b value : List ℕ) → set_line (a ∷ b ∷ words_of value) value ≡ if_right (set_form a b value)
set_words a b value = ap (λ words. set_line (a ∷ b ∷ words) value) (has_first value).is

-- the words of a text that was cut, by what stands after its first one
cut_is : (text word rest : List ℕ) (after : Option (List ℕ)) → words_of text ≡ word ∷ words_after after → after ≡ Some rest
    → words_of text ≡ word ∷ words_of rest
cut_is text word rest after w e = w ∙ ap (λ o. word ∷ words_after o) e

-- a line `set`, cut twice
pub set_line_is : (rest node more field value : List ℕ) (after second : Option (List ℕ)) → words_of rest ≡ node ∷ words_after after
    → rest_of rest ≡ text_after after → after ≡ Some more → words_of more ≡ field ∷ words_after second → rest_of more ≡ text_after second
    → second ≡ Some value → set_line (words_of rest) (rest_of (rest_of rest)) ≡ if_right (set_form node field value)
set_line_is rest node more field value after second w r e v q f =
    ap₂ set_line (cut_is rest node more after w e ∙ ap (λ words. node ∷ words) (cut_is more field value second v f))
    (ap rest_of (r ∙ ap text_after e) ∙ q ∙ ap text_after f)
    ∙ set_words node field value

-- a line of more than four words, cut three times
pub many_cut : (word rest a more b other c last : List ℕ) (after second third : Option (List ℕ)) → words_of rest ≡ a ∷ words_after after → after ≡ Some more
    → words_of more ≡ b ∷ words_after second → second ≡ Some other → words_of other ≡ c ∷ words_after third → third ≡ Some last
    → by_count word (words_of rest) ≡ Err unknown_line
many_cut word rest a more b other c last after second third w e v f u g =
    ap (by_count word) (cut_is rest a more after w e ∙ ap (λ words. a ∷ words) (cut_is more b other second v f)
    ∙ ap (λ words. a ∷ b ∷ words) (cut_is other c last third u g))
    ∙ many_words word a b c last

-- something stands after a word where a text does
pub some_after : (after : Option (List ℕ)) (rest : List ℕ) → after ≡ Some rest → HasFirst (words_after after)
some_after after rest e = subst (λ o. HasFirst (words_after o)) (sym e) (has_first rest)

-- more than six words, by the texts that six cuts leave
pub seven_words : (w0 w1 w2 w3 w4 w5 w6 : List (List ℕ)) (a b c d e f : List ℕ) → w0 ≡ a ∷ w1 → w1 ≡ b ∷ w2 → w2 ≡ c ∷ w3 → w3 ≡ d ∷ w4 → w4 ≡ e ∷ w5
    → w5 ≡ f ∷ w6 → HasFirst w6 → length w0 ≢ 6
seven_words w0 w1 w2 w3 w4 w5 w6 a b c d e f e0 e1 e2 e3 e4 e5 more six =
    let l0 : length w0 ≡ suc (length w1) = ap length e0 in
    let l1 : length w1 ≡ suc (length w2) = ap length e1 in
    let l2 : length w2 ≡ suc (length w3) = ap length e2 in
    let l3 : length w3 ≡ suc (length w4) = ap length e3 in
    let l4 : length w4 ≡ suc (length w5) = ap length e4 in
    let l5 : length w5 ≡ suc (length w6) = ap length e5 in
    let l6 : length w6 ≡ suc (length more.more) = ap length more.is in
    omega arith

-- a line `focus` of more than one word after the first, and a line of one word with more
pub focus_more : (words after : List (List ℕ)) (word : List ℕ) → words ≡ word ∷ after → HasFirst after → focus_line words ≡ Err unknown_line
focus_more words after word is more = ap focus_line (is ∙ ap (λ o. word ∷ o) more.is)

pub alone_more : (e : Entry) (words : List (List ℕ)) → HasFirst words → alone e words ≡ Err unknown_line
alone_more e words more = ap (alone e) more.is
