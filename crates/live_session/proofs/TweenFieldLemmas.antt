-- The field of a tween, where the values of tweens are set one after another.
use Rattle.std.proofs.Common.{◌≡◌, ℕ, zero, suc, ◌^◌, ◌<◌, ◌≤◌, ℤ, pos, negsuc, Bool, true, false, ◌&&◌, ◌==◌, ◌-◌, min, Option, Some, None, option_map, option_and_then, List, [], ◌∷◌, ◌++◌, length, All, refl, sym, ap, ap₂, subst, ◌∙◌, inl, inr, append-nil, if◌then◌else◌, arith, rules}
use Rattle.std.specs.Fmt.{signed_decimal}
use Rattle.std.specs.Int.Signed.{mag}
use Rattle.std.specs.Result.{result_ok}
use Rattle.std.specs.Str.{bytes_eq}
use Rattle.std.specs.Str.Lossy.{utf8_valid_len}
use Rattle.std.proofs.lemmas.Bool.{eq-eqb, false≢true}
use Rattle.std.proofs.lemmas.Fmt.{IsAscii-signed}
use Rattle.std.proofs.lemmas.Int.{ints}
use Rattle.std.proofs.lemmas.Slice.Eq.{bytes_eq-Decides}
use Rattle.std.proofs.lemmas.Str.{IsUtf8-from_ascii, utf8_valid_len-IsUtf8}
use Rattle.json.specs.Json as json
use Rattle.json.specs.Json.{value as json_value}
use Rattle.json.specs.Lex.{tokens}
use Rattle.json.specs.Print.{print_from, ArePrintable}
use Rattle.json.specs.Token as token
use Rattle.json.proofs.Printed.Decimals.{IsNumber-signed_decimal}
use Rattle.json.proofs.Printed.Tokens.{tokens-print}
use Rattle.serde_json.specs.Data.{Num, unsigned, negative, Data, number}
use Rattle.serde_json.specs.Find.{as_i64}
use Rattle.serde_json.specs.Read.{number_of, of_json, max_depth, read}
use Rattle.serde_json.proofs.Numbers.{number_of-decimal, number_of-negative}
use Rattle.fx_expr.specs.declared.values.Ty.{Ty}
use Rattle.fx_expr.specs.declared.values.Ty.TheVariants as ty
use Rattle.fx_expr.specs.declared.values.Value.{Value}
use Rattle.fx_expr.specs.declared.values.Value.TheVariants as value
use Rattle.expr_check.specs.Names.{place_of}
use Rattle.widget_model.specs.declared.decl.Decl.{Decl}
use Rattle.plain_tree.specs.PlainNode.{PlainNode, number_of as own_number}
use Rattle.plain_tree.specs.States.{State, holding, scrolled, own_state}
use Rattle.program_read.specs.declared.fault.ShapeCode.TheVariants.{NotInteger}
use Rattle.program_read.specs.Leaves.{or_stop}
use Rattle.program_read.specs.Reading.{json_of}
use Rattle.tickers.specs.Running.{is_on}
use Rattle.tickers.specs.Tween.{IsEnd, IsInRange, LiesFrom, tween_value_of}
use Rattle.tickers.specs.declared.tween.Tween.{Tween}
use Rattle.tickers.proofs.Ways.{value_between}
use Rattle.session_form.specs.Changing.{with_field, set_to, set_field, set_state, set_node}
use Rattle.session_form.specs.FieldValue.{value_from, value_read}
use Rattle.session_form.specs.Handlers.{node_in}
use Rattle.session_form.specs.Outcome as outcome
use Rattle.session_form.specs.State.{SessionState}
use Rattle.session_form.specs.Step.{step}
use Rattle.session_form.proofs.SetLemmas.{number_found}
use Rattle.live_session.specs.Fields.{field_in}
use Rattle.live_session.specs.Tweens.{set_at, with_values}
use Rattle.live_session.proofs.FieldLemmas.{number_held, tree_set, tree_keeps}

-- ---- an integer's decimal text is read as the integer, and as nothing else

abbrev pub num_of : ℤ → Num
num_of (pos n) = unsigned n
num_of (negsuc n) = negative (negsuc n)

number_is : (z : ℤ) → mag z < 2 ^ 63 → number_of (signed_decimal z) ≡ Some (num_of z)
number_is (pos n) h = number_of-decimal n (omega arith)
number_is (negsuc n) h = number_of-negative n (omega arith)

number_value : (depth : ℕ) (s : List ℕ) → json_value depth (token.number s ∷ []) ≡ Some (json.number s, [])
unfolding json_value
number_value zero s = refl
number_value (suc depth) s = refl

tokens_are : (z : ℤ) → mag z < 2 ^ 63 → tokens (signed_decimal z) ≡ token.number (signed_decimal z) ∷ []
unfolding print_from ArePrintable
tokens_are z h =
    let s = signed_decimal z in
    let P : List ℕ → Type 0 = λ t. tokens t ≡ token.number s ∷ [] in
    subst P (append-nil s) (tokens-print (token.number s ∷ []) (IsNumber-signed_decimal z h, tt))

read_is : (z : ℤ) → mag z < 2 ^ 63 → read (signed_decimal z) ≡ Some (number (num_of z))
read_is z h =
    let s = signed_decimal z in
    let last : Option (json.Json × List token.Token) → Option Data = λ r. option_and_then of_json (option_and_then (λ p. json.if_last p.0 p.1) r) in
    ap (λ ts. last (json_value max_depth ts)) (tokens_are z h) ∙ ap last (number_value max_depth s) ∙ ap (option_map number) (number_is z h)

pub json_is : (z : ℤ) → mag z < 2 ^ 63 → json_of (signed_decimal z) ≡ Some (number (num_of z))
unfolding json_of
json_is z h =
    let s = signed_decimal z in
    let valid : (utf8_valid_len s == length s) ≡ true = eq-eqb (utf8_valid_len s) (length s) (utf8_valid_len-IsUtf8 s (IsUtf8-from_ascii s (IsAscii-signed z h))) in
    let P : Bool → Type 0 = λ b. (if b then read s else None) ≡ Some (number (num_of z)) in
    subst P (sym valid) (read_is z h)

pub integer_is : (z : ℤ) → mag z < 2 ^ 63 → as_i64 (num_of z) ≡ Some z
integer_is (pos n) h = let small : n < 2 ^ 63 = h in search (small, rules)
integer_is (negsuc n) h = refl

value_by : (t : Ty) (z : ℤ) (v : Value) → mag z < 2 ^ 63 → option_and_then (value_from t) (Some (number (num_of z))) ≡ Some v → v ≡ value.Int z
value_by ty.Int z v h e =
    let is : Some (value.Int z) ≡ Some v = ap (λ o. option_map value.Int (result_ok (or_stop NotInteger o))) (sym (integer_is z h)) ∙ e in cc
value_by ty.Bool z v h e = cc
value_by ty.Text z v h e = cc
value_by ty.Ints z v h e = cc
value_by ty.Texts z v h e = cc

pub value_is : (t : Ty) (z : ℤ) (v : Value) → mag z < 2 ^ 63 → value_read t (signed_decimal z) ≡ Some v → v ≡ value.Int z
unfolding value_read
value_is t z v h e = value_by t z v h (ap (option_and_then (value_from t)) (sym (json_is z h)) ∙ e)

-- ---- a field that is set, where that is accepted

next_of : (a b : SessionState) (x y : List ℕ) → outcome.done a x ≡ outcome.done b y → a ≡ b
next_of a b x y e = cc

found_number : (tree : Option PlainNode) (m : ℕ) (n : PlainNode) → node_in tree m ≡ Some n → own_number n ≡ m
found_number None m n e = cc
found_number (Some root) m n e = number_found m root n e

module _ (s next : SessionState) (m : ℕ) (name : List ℕ) (z : ℤ) (text : List ℕ) (old : Value) (fits : mag z < 2 ^ 63) (there : field_in s m name ≡ Some old) where
  value_takes : (n : PlainNode) (d : Decl) (vs : List Value) (more : List State) (p : ℕ × Ty) (r : Option Value) → node_in s.tree m ≡ Some n → own_state n ≡ holding m d vs ∷ more
      → place_of d.fields name ≡ Some p → value_read p.1 (signed_decimal z) ≡ r → set_to m p.0 r s ≡ outcome.done next text → field_in next m name ≡ Some (value.Int z)
  value_takes n d vs more p None found e at reads done = cc
  value_takes n d vs more p (Some v) found e at reads done =
      let P : SessionState → Type 0 = λ x. field_in x m name ≡ Some (value.Int z) in
      subst P (next_of (with_field m p.0 v s) next [] text done)
      (tree_set s.tree n m d vs more name p old v found e at there ∙ ap Some (value_is p.1 z v fits reads))

  field_takes : (n : PlainNode) (d : Decl) (vs : List Value) (more : List State) (o : Option (ℕ × Ty)) → node_in s.tree m ≡ Some n → own_state n ≡ holding m d vs ∷ more
      → place_of d.fields name ≡ o → set_field m o (signed_decimal z) s ≡ outcome.done next text → field_in next m name ≡ Some (value.Int z)
  field_takes n d vs more None found e at done = cc
  field_takes n d vs more (Some p) found e at done = value_takes n d vs more p (value_read p.1 (signed_decimal z)) found e at refl done

  state_takes : (n : PlainNode) (st : List State) → node_in s.tree m ≡ Some n → own_state n ≡ st
      → set_state st name (signed_decimal z) s ≡ outcome.done next text → field_in next m name ≡ Some (value.Int z)
  state_takes n [] found e done = cc
  state_takes n (scrolled k scroll ∷ more) found e done = cc
  state_takes n (holding k d vs ∷ more) found e done =
      let same : k ≡ m = sym (number_held n k d vs more e) ∙ found_number s.tree m n found in
      field_takes n d vs more (place_of d.fields name) found (e ∙ ap (λ x. holding x d vs ∷ more) same) refl
      (ap (λ x. set_field x (place_of d.fields name) (signed_decimal z) s) (sym same) ∙ done)

  node_takes : (o : Option PlainNode) → node_in s.tree m ≡ o → set_node o name (signed_decimal z) s ≡ outcome.done next text → field_in next m name ≡ Some (value.Int z)
  node_takes None found done = cc
  node_takes (Some n) found done = state_takes n (own_state n) found refl done

-- ---- another field

module _ (s : SessionState) (m : ℕ) (set bytes : List ℕ) (number : ℕ) (name : List ℕ) (other : m ≡ number → set ≡ name → ⊥) where
  abbrev Keeps : outcome.Outcome → Type 0
  Keeps o = field_in (outcome.state_after s o) number name ≡ field_in s number name

  value_keeps : (n : PlainNode) (d : Decl) (vs : List Value) (more : List State) (p : ℕ × Ty) (r : Option Value) → node_in s.tree m ≡ Some n → own_state n ≡ holding m d vs ∷ more
      → place_of d.fields set ≡ Some p → Keeps (set_to m p.0 r s)
  value_keeps n d vs more p None found e at = refl
  value_keeps n d vs more p (Some v) found e at = tree_keeps s.tree n m number d vs more set name p v found e at other

  field_keeps : (n : PlainNode) (d : Decl) (vs : List Value) (more : List State) (o : Option (ℕ × Ty)) → node_in s.tree m ≡ Some n → own_state n ≡ holding m d vs ∷ more
      → place_of d.fields set ≡ o → Keeps (set_field m o bytes s)
  field_keeps n d vs more None found e at = refl
  field_keeps n d vs more (Some p) found e at = value_keeps n d vs more p (value_read p.1 bytes) found e at

  state_keeps : (n : PlainNode) (st : List State) → node_in s.tree m ≡ Some n → own_state n ≡ st → Keeps (set_state st set bytes s)
  state_keeps n [] found e = refl
  state_keeps n (scrolled k scroll ∷ more) found e = refl
  state_keeps n (holding k d vs ∷ more) found e =
      let same : k ≡ m = sym (number_held n k d vs more e) ∙ found_number s.tree m n found in
      let P : ℕ → Type 0 = λ x. Keeps (set_field x (place_of d.fields set) bytes s) in
      subst P (sym same) (field_keeps n d vs more (place_of d.fields set) found (e ∙ ap (λ x. holding x d vs ∷ more) same) refl)

  node_keeps : (o : Option PlainNode) → node_in s.tree m ≡ o → Keeps (set_node o set bytes s)
  node_keeps None found = refl
  node_keeps (Some n) found = state_keeps n (own_state n) found refl

-- ---- tweens, one after another

-- a tween is on another field
abbrev IsOff : Tween → Tween → Type 0
IsOff t u = is_on t.node t.field u ≡ false

off_field : (t u : Tween) → IsOff t u → u.node ≡ t.node → u.field ≡ t.field → ⊥
off_field t u off node field =
    let both : (u.node == t.node) && bytes_eq u.field t.field ≡ true = ap₂ (λ a b. a && b) (eq-eqb u.node t.node node) ((bytes_eq-Decides u.field t.field).1 field) in
    false≢true (sym off ∙ both)

all_off : (now : ℕ) (t : Tween) (ts : List Tween) (s : SessionState) → All (IsOff t) ts → field_in (with_values now ts s) t.node t.field ≡ field_in s t.node t.field
all_off now t [] s off = refl
all_off now t (u ∷ us) s off =
    all_off now t us (outcome.state_after s (step s (set_at now u))) (λ k d h. off (suc k) d (omega arith))
    ∙ node_keeps s u.node u.field (signed_decimal (tween_value_of u now)) t.node t.field (off_field t u (off 0 u (omega arith))) (node_in s.tree u.node) refl

values_after : (now : ℕ) (ts us : List Tween) (s : SessionState) → with_values now (ts ++ us) s ≡ with_values now us (with_values now ts s)
values_after now [] us s = refl
values_after now (t ∷ ts) us s = values_after now ts us (outcome.state_after s (step s (set_at now t)))

pub small_end : (z : ℤ) → IsEnd z → mag z < 2 ^ 63
small_end (pos n) h = let high = h.1 in omega (arith, ints)
small_end (negsuc n) h = let low = h.0 in omega (arith, ints)

between_ends : (a b z : ℤ) → IsEnd a → IsEnd b → LiesFrom a b z → IsEnd z
between_ends a b z x y (inl h) = let p = x.0 in let q = y.1 in let r = h.0 in let t = h.1 in (omega (arith, ints), omega (arith, ints))
between_ends a b z x y (inr h) = let p = y.0 in let q = x.1 in let r = h.0 in let t = h.1 in (omega (arith, ints), omega (arith, ints))

pub small_value : (t : Tween) (now : ℕ) → IsInRange t → mag (tween_value_of t now) < 2 ^ 63
small_value t now in_range =
    let over : min (now - t.start) t.ms ≤ t.ms = omega arith in
    small_end _ (between_ends t.from t.to _ in_range.from in_range.to (value_between t.curve t.from t.to (min (now - t.start) t.ms) t.ms in_range.some over))

pub tween_sets : (now : ℕ) (s next : SessionState) (front back : List Tween) (t : Tween) (text : List ℕ) (old : Value) → IsInRange t
    → All (IsOff t) front → All (IsOff t) back → field_in s t.node t.field ≡ Some old
    → step (with_values now front s) (set_at now t) ≡ outcome.done next text
    → field_in (with_values now (front ++ t ∷ back) s) t.node t.field ≡ Some (value.Int (tween_value_of t now))
tween_sets now s next front back t text old in_range before after there done =
    let mid = with_values now front s in
    let still : field_in mid t.node t.field ≡ Some old = all_off now t front s before ∙ there in
    let reached : outcome.state_after mid (step mid (set_at now t)) ≡ next = ap (outcome.state_after mid) done in
    ap (λ x. field_in x t.node t.field) (values_after now front (t ∷ back) s ∙ ap (with_values now back) reached)
    ∙ all_off now t back next after
    ∙ node_takes mid next t.node t.field (tween_value_of t now) text old (small_value t now in_range) still (node_in mid.tree t.node) refl done
