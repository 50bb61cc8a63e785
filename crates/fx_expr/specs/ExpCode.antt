-- An expression as a tree of numbers, by which a proof tells expressions apart: the number of its form, then its parts.
use Rattle.std.specs.Prelude.{◌≡◌, ℕ, List}
use Rattle.std.proofs.Common.{ap, refl, sym, subst, eq-eqb, true≢false}
use base.Stored.{Gv, gnil, gnum, gcons, num, Coded, coded×, coded_ℕ, coded_list}
use Rattle.fx_expr.specs.contracts.values.Value as value
use Rattle.fx_expr.specs.Exp.{Exp, literal, field, prop, variable, inherited, event_dx, event_dy, ints, texts, add, subtract, multiply, divide, rest, equal, less, both, either, negated, choose, cat, len, item, push, without, reversed, range, show, Exps, no_exps, exp}

abbrev pub first_part : Gv → Gv
first_part gnil = gnil
first_part (gnum n) = gnil
first_part (gcons a b) = a

abbrev pub other_parts : Gv → Gv
other_parts gnil = gnil
other_parts (gnum n) = gnil
other_parts (gcons a b) = b

abbrev pub IsPair : Gv → Type 0
IsPair gnil = ⊥
IsPair (gnum n) = ⊥
IsPair (gcons a b) = Unit {0}

abbrev mutual
  pub exp_code : Exp → Gv
  exp_code (literal v) = gcons (gnum 0) ((value.the_row).coded.code v)
  exp_code (field i) = gcons (gnum 1) (gnum i)
  exp_code (prop i) = gcons (gnum 2) (gnum i)
  exp_code (variable i) = gcons (gnum 3) (gnum i)
  exp_code (inherited i) = gcons (gnum 4) (gnum i)
  exp_code event_dx = gcons (gnum 5) gnil
  exp_code event_dy = gcons (gnum 6) gnil
  exp_code (ints es) = gcons (gnum 7) (exps_code es)
  exp_code (texts es) = gcons (gnum 8) (exps_code es)
  exp_code (add a b) = gcons (gnum 9) (gcons (exp_code a) (exp_code b))
  exp_code (subtract a b) = gcons (gnum 10) (gcons (exp_code a) (exp_code b))
  exp_code (multiply a b) = gcons (gnum 11) (gcons (exp_code a) (exp_code b))
  exp_code (divide a b) = gcons (gnum 12) (gcons (exp_code a) (exp_code b))
  exp_code (rest a b) = gcons (gnum 13) (gcons (exp_code a) (exp_code b))
  exp_code (equal a b) = gcons (gnum 14) (gcons (exp_code a) (exp_code b))
  exp_code (less a b) = gcons (gnum 15) (gcons (exp_code a) (exp_code b))
  exp_code (both a b) = gcons (gnum 16) (gcons (exp_code a) (exp_code b))
  exp_code (either a b) = gcons (gnum 17) (gcons (exp_code a) (exp_code b))
  exp_code (negated a) = gcons (gnum 18) (exp_code a)
  exp_code (choose a b d) = gcons (gnum 19) (gcons (exp_code a) (gcons (exp_code b) (exp_code d)))
  exp_code (cat a b) = gcons (gnum 20) (gcons (exp_code a) (exp_code b))
  exp_code (len a) = gcons (gnum 21) (exp_code a)
  exp_code (item a b d) = gcons (gnum 22) (gcons (exp_code a) (gcons (exp_code b) (exp_code d)))
  exp_code (push a b) = gcons (gnum 23) (gcons (exp_code a) (exp_code b))
  exp_code (without a b) = gcons (gnum 24) (gcons (exp_code a) (exp_code b))
  exp_code (reversed a) = gcons (gnum 25) (exp_code a)
  exp_code (range a) = gcons (gnum 26) (exp_code a)
  exp_code (show a) = gcons (gnum 27) (exp_code a)

  pub exps_code : Exps → Gv
  exps_code no_exps = gnil
  exps_code (exp e es) = gcons (exp_code e) (exps_code es)

mutual
  pub exp_inj : (e f : Exp) → exp_code e ≡ exp_code f → e ≡ f
  exp_inj (literal v) (literal w) p = ap literal ((value.the_row).coded.inj v w (ap other_parts p))
  exp_inj (field i) (field j) p = ap (λ g. field (num (other_parts g))) p
  exp_inj (prop i) (prop j) p = ap (λ g. prop (num (other_parts g))) p
  exp_inj (variable i) (variable j) p = ap (λ g. variable (num (other_parts g))) p
  exp_inj (inherited i) (inherited j) p = ap (λ g. inherited (num (other_parts g))) p
  exp_inj event_dx event_dx p = refl
  exp_inj event_dy event_dy p = refl
  exp_inj (ints es) (ints fs) p = ap ints (exps_inj es fs (ap other_parts p))
  exp_inj (texts es) (texts fs) p = ap texts (exps_inj es fs (ap other_parts p))
  exp_inj (add a b) (add c d) p = λ i. add (exp_inj a c (ap (λ g. first_part (other_parts g)) p) i) (exp_inj b d (ap (λ g. other_parts (other_parts g)) p) i)
  exp_inj (subtract a b) (subtract c d) p = λ i. subtract (exp_inj a c (ap (λ g. first_part (other_parts g)) p) i) (exp_inj b d (ap (λ g. other_parts (other_parts g)) p) i)
  exp_inj (multiply a b) (multiply c d) p = λ i. multiply (exp_inj a c (ap (λ g. first_part (other_parts g)) p) i) (exp_inj b d (ap (λ g. other_parts (other_parts g)) p) i)
  exp_inj (divide a b) (divide c d) p = λ i. divide (exp_inj a c (ap (λ g. first_part (other_parts g)) p) i) (exp_inj b d (ap (λ g. other_parts (other_parts g)) p) i)
  exp_inj (rest a b) (rest c d) p = λ i. rest (exp_inj a c (ap (λ g. first_part (other_parts g)) p) i) (exp_inj b d (ap (λ g. other_parts (other_parts g)) p) i)
  exp_inj (equal a b) (equal c d) p = λ i. equal (exp_inj a c (ap (λ g. first_part (other_parts g)) p) i) (exp_inj b d (ap (λ g. other_parts (other_parts g)) p) i)
  exp_inj (less a b) (less c d) p = λ i. less (exp_inj a c (ap (λ g. first_part (other_parts g)) p) i) (exp_inj b d (ap (λ g. other_parts (other_parts g)) p) i)
  exp_inj (both a b) (both c d) p = λ i. both (exp_inj a c (ap (λ g. first_part (other_parts g)) p) i) (exp_inj b d (ap (λ g. other_parts (other_parts g)) p) i)
  exp_inj (either a b) (either c d) p = λ i. either (exp_inj a c (ap (λ g. first_part (other_parts g)) p) i) (exp_inj b d (ap (λ g. other_parts (other_parts g)) p) i)
  exp_inj (negated a) (negated b) p = ap negated (exp_inj a b (ap other_parts p))
  exp_inj (choose a b c) (choose d e f) p = λ i. choose (exp_inj a d (ap (λ g. first_part (other_parts g)) p) i) (exp_inj b e (ap (λ g. first_part (other_parts (other_parts g))) p) i) (exp_inj c f (ap (λ g. other_parts (other_parts (other_parts g))) p) i)
  exp_inj (cat a b) (cat c d) p = λ i. cat (exp_inj a c (ap (λ g. first_part (other_parts g)) p) i) (exp_inj b d (ap (λ g. other_parts (other_parts g)) p) i)
  exp_inj (len a) (len b) p = ap len (exp_inj a b (ap other_parts p))
  exp_inj (item a b c) (item d e f) p = λ i. item (exp_inj a d (ap (λ g. first_part (other_parts g)) p) i) (exp_inj b e (ap (λ g. first_part (other_parts (other_parts g))) p) i) (exp_inj c f (ap (λ g. other_parts (other_parts (other_parts g))) p) i)
  exp_inj (push a b) (push c d) p = λ i. push (exp_inj a c (ap (λ g. first_part (other_parts g)) p) i) (exp_inj b d (ap (λ g. other_parts (other_parts g)) p) i)
  exp_inj (without a b) (without c d) p = λ i. without (exp_inj a c (ap (λ g. first_part (other_parts g)) p) i) (exp_inj b d (ap (λ g. other_parts (other_parts g)) p) i)
  exp_inj (reversed a) (reversed b) p = ap reversed (exp_inj a b (ap other_parts p))
  exp_inj (range a) (range b) p = ap range (exp_inj a b (ap other_parts p))
  exp_inj (show a) (show b) p = ap show (exp_inj a b (ap other_parts p))
  exp_inj e f p = absurd (true≢false (sym (eq-eqb (num (first_part (exp_code e))) (num (first_part (exp_code f))) (ap (λ g. num (first_part g)) p))))

  exps_inj : (es fs : Exps) → exps_code es ≡ exps_code fs → es ≡ fs
  exps_inj no_exps no_exps p = refl
  exps_inj (exp e es) (exp f fs) p = λ i. exp (exp_inj e f (ap first_part p) i) (exps_inj es fs (ap other_parts p) i)
  exps_inj no_exps (exp f fs) p = absurd (subst IsPair (sym p) tt)
  exps_inj (exp e es) no_exps p = absurd (subst IsPair p tt)

-- a handler's sets: each a field's place and an expression
abbrev pub coded_sets : Coded (List (ℕ × Exp))
coded_sets = coded_list (coded× coded_ℕ (record { code = exp_code; inj = exp_inj }))
