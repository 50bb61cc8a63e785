-- What the lines `set` of tweens come to, one after another.
use Rattle.std.proofs.Common.{◌≡◌, ℕ, zero, suc, ◌+◌, ◌<◌, ◌≤◌, true, false, Option, Some, None, Result, Ok, Err, OnOk, OnErr, List, [], ◌∷◌, ◌++◌, length, take, drop, map, slice_get, All, refl, sym, ap, subst, ◌∙◌, append_assoc, append-nil, arith}
use Rattle.std.proofs.Math.Seq.{take-append_seam, drop-append_seam}
use Rattle.std.proofs.lemmas.Grind.{common_steps}
use Rattle.std.proofs.lemmas.List.Elements.{All-set, All-append, All-cons, All-nil}
use Rattle.std.proofs.lemmas.List.{take_more, drop_more, drop_all, take_all, length-take-le}
use Rattle.std.proofs.lemmas.Option.{slice_get_within, get_or_from_slice_get}
use Rattle.fx_expr.specs.declared.values.Ty.{Ty}
use Rattle.fx_expr.specs.declared.values.Value.{Value}
use Rattle.plain_tree.specs.PlainNode.{PlainNode}
use Rattle.plain_tree.specs.States.{State, holding, scrolled, own_state}
use Rattle.expr_check.specs.Names.{place_of}
use Rattle.script_lines.specs.declared.command.Command.{Command}
use Rattle.script_lines.specs.declared.command.Command.TheVariants as command
use Rattle.tickers.specs.Running.{put, started, without_at}
use Rattle.tickers.specs.Tween.{IsInRange}
use Rattle.tickers.specs.declared.tween.Tween.{Tween}
use Rattle.session_form.specs.Changing.{set_to, set_field, set_state, set_node}
use Rattle.session_form.specs.FieldValue.{value_read}
use Rattle.session_form.specs.Handlers.{node_in}
use Rattle.session_form.specs.Outcome.{text_of, state_after}
use Rattle.session_form.specs.State.{SessionState}
use Rattle.session_form.specs.Step.{step}
use Rattle.live_session.specs.RunState.{RunState}
use Rattle.live_session.specs.Tweens.{set_at, after_commands, with_values, stays, kept_by, tweens_kept}

-- ---- a `set` prints nothing

quiet_to : (number place : ℕ) (v : Option Value) (s : SessionState) → text_of (set_to number place v s) ≡ []
quiet_to number place None s = refl
quiet_to number place (Some v) s = refl

quiet_field : (number : ℕ) (field : Option (ℕ × Ty)) (bytes : List ℕ) (s : SessionState) → text_of (set_field number field bytes s) ≡ []
quiet_field number None bytes s = refl
quiet_field number (Some field) bytes s = quiet_to number field.0 (value_read field.1 bytes) s

quiet_state : (states : List State) (name bytes : List ℕ) (s : SessionState) → text_of (set_state states name bytes s) ≡ []
quiet_state [] name bytes s = refl
quiet_state (scrolled number scroll ∷ more) name bytes s = refl
quiet_state (holding number declaration fields ∷ more) name bytes s = quiet_field number (place_of declaration.fields name) bytes s

quiet_node : (n : Option PlainNode) (name bytes : List ℕ) (s : SessionState) → text_of (set_node n name bytes s) ≡ []
quiet_node None name bytes s = refl
quiet_node (Some n) name bytes s = quiet_state (own_state n) name bytes s

pub set_is_quiet : (s : SessionState) (node : ℕ) (field value : List ℕ) → text_of (step s (command.Set node field value)) ≡ []
set_is_quiet s node field value = quiet_node (node_in s.tree node) field value s

-- what is printed where a `set` was done
pub nothing_printed : (s : SessionState) (c : Command) (node : ℕ) (field value old new : List ℕ) → c ≡ command.Set node field value
    → new ≡ old ++ text_of (step s c) → new ≡ old
nothing_printed s c node field value old new is text =
    text ∙ ap (λ x. old ++ text_of (step s x)) is ∙ ap (λ t. old ++ t) (set_is_quiet s node field value) ∙ append-nil old

-- ---- the tween in a place

one_more : (t : Tween) (ts : List Tween) → length (t ∷ ts) ≡ length ts + 1
one_more t ts = grind (arith, common_steps)

drop_at : (ts : List Tween) (i : ℕ) (t : Tween) → slice_get ts i ≡ Some t → drop i ts ≡ t ∷ drop (i + 1) ts
drop_at ts i t at = drop_more ts i t (slice_get_within ts i t at) ∙ ap (λ x. x ∷ drop (i + 1) ts) (get_or_from_slice_get ts i t t at)

take_at : (ts : List Tween) (i : ℕ) (t : Tween) → slice_get ts i ≡ Some t → take (i + 1) ts ≡ take i ts ++ t ∷ []
take_at ts i t at = take_more ts i t (slice_get_within ts i t at) ∙ ap (λ x. take i ts ++ x ∷ []) (get_or_from_slice_get ts i t t at)

front_stays : (ts : List Tween) (i : ℕ) (more : List Tween) → i ≤ length ts → take i (take i ts ++ more) ≡ take i ts
front_stays ts i more within = ap (λ n. take n (take i ts ++ more)) (sym (length-take-le i ts within)) ∙ take-append_seam (take i ts) more

rest_stays : (ts : List Tween) (i : ℕ) (more : List Tween) → i ≤ length ts → drop i (take i ts ++ more) ≡ more
rest_stays ts i more within = ap (λ n. drop n (take i ts ++ more)) (sym (length-take-le i ts within)) ∙ drop-append_seam (take i ts) more

-- ---- the values of tweens are set, one after another

-- The tweens before place i were set, of ts that run now: a state that holds, from which the others come to the whole.
pub record Midway (holds : SessionState → Type 0) (ts : List Tween) (i now : ℕ) (r : RunState) : Type 0 where
  pub so_far : SessionState
  pub stands : holds so_far
  pub values : after_commands so_far (map (set_at now) (drop i ts)) ≡ with_values now r.tweens r.session
  pub kept : take i ts ++ tweens_kept now so_far (drop i ts) ≡ tweens_kept now r.session r.tweens

pub midway_first : (holds : SessionState → Type 0) (ts : List Tween) (now : ℕ) (r : RunState) → holds r.session → ts ≡ r.tweens → Midway holds ts 0 now r
midway_first holds ts now r stands same = record {
  so_far = r.session;
  stands = stands;
  values = ap (λ x. with_values now x r.session) same;
  kept = ap (tweens_kept now r.session) same;
}

pub midway_stays : (before after : SessionState → Type 0) (ts us : List Tween) (i now : ℕ) (r : RunState) (t : Tween) → slice_get ts i ≡ Some t
    → (m : Midway before ts i now r) → after (state_after m.so_far (step m.so_far (set_at now t))) → true ≡ stays (step m.so_far (set_at now t)) → us ≡ ts
    → Midway after us (i + 1) now r
midway_stays before after ts us i now r t at m stands stay same =
    let s : SessionState = m.so_far in
    let next : SessionState = state_after s (step s (set_at now t)) in
    let rest : List Tween = drop (i + 1) ts in
    record {
      so_far = next;
      stands = stands;
      values = ap (λ x. with_values now (drop (i + 1) x) next) same ∙ sym (ap (λ x. with_values now x s) (drop_at ts i t at)) ∙ m.values;
      kept = ap (λ x. take (i + 1) x ++ tweens_kept now next (drop (i + 1) x)) same
          ∙ ap (λ x. x ++ tweens_kept now next rest) (take_at ts i t at)
          ∙ append_assoc (take i ts) (t ∷ []) (tweens_kept now next rest)
          ∙ ap (λ b. take i ts ++ kept_by b t (tweens_kept now next rest)) stay
          ∙ sym (ap (λ x. take i ts ++ tweens_kept now s x) (drop_at ts i t at))
          ∙ m.kept;
    }

pub midway_dropped : (before after : SessionState → Type 0) (ts us : List Tween) (i now : ℕ) (r : RunState) (t : Tween) → slice_get ts i ≡ Some t
    → (m : Midway before ts i now r) → after (state_after m.so_far (step m.so_far (set_at now t))) → false ≡ stays (step m.so_far (set_at now t)) → us ≡ without_at i ts
    → Midway after us i now r
midway_dropped before after ts us i now r t at m stands stay same =
    let s : SessionState = m.so_far in
    let next : SessionState = state_after s (step s (set_at now t)) in
    let rest : List Tween = drop (i + 1) ts in
    let here : i < length ts = slice_get_within ts i t at in
    let front : take i us ≡ take i ts = ap (take i) same ∙ front_stays ts i rest (omega arith) in
    let back : drop i us ≡ rest = ap (drop i) same ∙ rest_stays ts i rest (omega arith) in
    record {
      so_far = next;
      stands = stands;
      values = ap (λ x. with_values now x next) back ∙ sym (ap (λ x. with_values now x s) (drop_at ts i t at)) ∙ m.values;
      kept = ap (λ x. x ++ tweens_kept now next (drop i us)) front
          ∙ ap (λ x. take i ts ++ tweens_kept now next x) back
          ∙ ap (λ b. take i ts ++ kept_by b t (tweens_kept now next rest)) stay
          ∙ sym (ap (λ x. take i ts ++ tweens_kept now s x) (drop_at ts i t at))
          ∙ m.kept;
    }

there_is : (ts : List Tween) (i : ℕ) → i < length ts → (t : Tween) × (slice_get ts i ≡ Some t)
there_is [] i less = absurd (omega (arith, less))
there_is (t ∷ ts) zero less = (t, refl)
there_is (t ∷ ts) (suc i) less = there_is ts i (omega (arith, less, one_more t ts))

-- one more, which stays, or which is dropped
pub midway_goes : (before after : SessionState → Type 0) (ts us : List Tween) (i now : ℕ) (r : RunState) → i < length ts → Midway before ts i now r
    → ((s : SessionState) (t : Tween) → before s → slice_get ts i ≡ Some t → after (state_after s (step s (set_at now t))))
    → ((s : SessionState) (t : Tween) → before s → slice_get ts i ≡ Some t → true ≡ stays (step s (set_at now t))) → us ≡ ts
    → Midway after us (i + 1) now r
midway_goes before after ts us i now r less m holds stay same =
    let here : (t : Tween) × (slice_get ts i ≡ Some t) = there_is ts i less in
    midway_stays before after ts us i now r here.0 here.1 m (holds m.so_far here.0 m.stands here.1) (stay m.so_far here.0 m.stands here.1) same

pub midway_loses : (before after : SessionState → Type 0) (ts us : List Tween) (i now : ℕ) (r : RunState) → i < length ts → Midway before ts i now r
    → ((s : SessionState) (t : Tween) → before s → slice_get ts i ≡ Some t → after (state_after s (step s (set_at now t))))
    → ((s : SessionState) (t : Tween) → before s → slice_get ts i ≡ Some t → false ≡ stays (step s (set_at now t))) → us ≡ without_at i ts
    → Midway after us i now r
midway_loses before after ts us i now r less m holds stay same =
    let here : (t : Tween) × (slice_get ts i ≡ Some t) = there_is ts i less in
    midway_dropped before after ts us i now r here.0 here.1 m (holds m.so_far here.0 m.stands here.1) (stay m.so_far here.0 m.stands here.1) same

pub midway_values : (holds : SessionState → Type 0) (ts : List Tween) (i now : ℕ) (r : RunState) → length ts ≤ i → (m : Midway holds ts i now r)
    → m.so_far ≡ with_values now r.tweens r.session
midway_values holds ts i now r end m = sym (ap (λ x. with_values now x m.so_far) (drop_all i ts end)) ∙ m.values

pub midway_kept : (holds : SessionState → Type 0) (ts : List Tween) (i now : ℕ) (r : RunState) → length ts ≤ i → (m : Midway holds ts i now r)
    → ts ≡ tweens_kept now r.session r.tweens
midway_kept holds ts i now r end m =
    sym (append-nil ts) ∙ sym (ap (λ x. x ++ []) (take_all i ts end)) ∙ sym (ap (λ x. take i ts ++ tweens_kept now m.so_far x) (drop_all i ts end)) ∙ m.kept

-- ---- the ranges of tweens, where one more is started

all_put : (P : Tween → Type 0) (o : Option ℕ) (t : Tween) (ts : List Tween) → P t → All P ts → All P (put o t ts)
all_put P None t ts one all = All-append P ts (t ∷ []) all (All-cons P t [] one (All-nil P))
all_put P (Some i) t ts one all = All-set P ts i t one all

pub ranges_after : {A E : Type 0} (result : Result A E) (t : Tween) (old new : List Tween) → OnOk result (new ≡ started t old) → OnErr result (new ≡ old)
    → IsInRange t → All IsInRange old → All IsInRange new
ranges_after (Ok x) t old new ok err one all = subst (All IsInRange) (sym ok) (all_put IsInRange _ t old one all)
ranges_after (Err x) t old new ok err one all = subst (All IsInRange) (sym err) all
