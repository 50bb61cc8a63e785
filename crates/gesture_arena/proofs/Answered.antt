-- Where none is dropped, a member makes of a moment what its gesture does; and what an open arena comes to, member by member.
use Rattle.std.proofs.Common.{◌≡◌, refl, sym, ◌∙◌, ap, ℕ, ◌+◌, Bool, true, false, ◌||◌, ◌&&◌, not, cond, nat_le, List, [], ◌∷◌, map, Option, Some, None, is_some, count_by, arith}
use Rattle.std.proofs.lemmas.Bool.{lt-leb}
use Rattle.std.specs.List.{list_any, find, fold}
use Rattle.std.specs.Option.{option_or}
use Rattle.fx_geom.specs.declared.shapes.Offset.{Offset}
use Rattle.fx_geom.specs.declared.scales.Scale.{Scale}
use Rattle.gesture_arena.specs.declared.answers.Answers.{Answers}
use Rattle.gesture_arena.specs.declared.gesture.Gesture.{Gesture}
use Rattle.gesture_arena.specs.declared.gesture.Gesture.TheVariants.{Tap, Long, Vertical, Horizontal, Pan}
use Rattle.gesture_arena.specs.declared.gesture.Member.{Member}
use Rattle.gesture_arena.specs.declared.moment.Decision.{Decision}
use Rattle.gesture_arena.specs.declared.moment.Decision.TheVariants.{Waits, Rejects, Accepts}
use Rattle.gesture_arena.specs.declared.tracked.Tracked.{Tracked}
use Rattle.gesture_arena.specs.declared.tracked.ArenaState.{ArenaState}
use Rattle.gesture_arena.specs.declared.tracked.ArenaState.TheVariants.{Open, Won, Nobody}
use Rattle.gesture_arena.specs.Answering.{is_drop, answer, answer_in, answered}
use Rattle.gesture_arena.specs.Moment.{Moment, down, move, up, cancel, due, dropped, drops}
use Rattle.gesture_arena.specs.Own.{says, lives, accepts}
use Rattle.gesture_arena.specs.Settled.{member_in, decision_after, has_accepted, is_alive, arena_won, first_of, open_after}
use Rattle.gesture_arena.specs.Stored.{stepped}

-- ---- the answers of a moment

pub says_answer : (s : Scale) (from : Offset) (m : Member) (x : Moment) → is_drop x ≡ false → says s from m x ≡ answer s from m.gesture x
says_answer s from m down e = refl
says_answer s from m (move at) e = refl
says_answer s from m up e = refl
says_answer s from m cancel e = refl
says_answer s from m due e = refl
says_answer s from m (dropped gone) e = cc

drops_none : (m : Member) (x : Moment) → is_drop x ≡ false → drops x m ≡ false
drops_none m down e = refl
drops_none m (move at) e = refl
drops_none m up e = refl
drops_none m cancel e = refl
drops_none m due e = refl
drops_none m (dropped gone) e = cc

or_none : (b c : Bool) → c ≡ false → (b || c) ≡ b
or_none true c e = refl
or_none false c e = e

module _ (s : Scale) (from : Offset) (x : Moment) (a : Answers) (none : is_drop x ≡ false) (tells : (g : Gesture) → answer_in a g ≡ answer s from g x) where
  one_answered : (t : Tracked) → answered a t ≡ stepped s from x t
  one_answered t =
      let says_it = tells t.gesture ∙ sym (says_answer s from (member_in t) x none) in
      let stays = sym (or_none t.dropped (drops x (member_in t)) (drops_none (member_in t) x none)) in
      λ i. record { node = t.node; gesture = t.gesture; decision = decision_after t.decision (says_it i); dropped = stays i }

  pub all_answered : (ts : List Tracked) → map (answered a) ts ≡ map (stepped s from x) ts
  all_answered [] = refl
  all_answered (t ∷ ts) = λ i. one_answered t i ∷ all_answered ts i

pub by_gesture : (P : Gesture → Type 0) → P Tap → P Long → P Vertical → P Horizontal → P Pan → (g : Gesture) → P g
by_gesture P tap long vertical horizontal pan Tap = tap
by_gesture P tap long vertical horizontal pan Long = long
by_gesture P tap long vertical horizontal pan Vertical = vertical
by_gesture P tap long vertical horizontal pan Horizontal = horizontal
by_gesture P tap long vertical horizontal pan Pan = pan

-- ---- what an open arena comes to

-- what is done at a member, by its decision
abbrev pub by_decision : Decision → ArenaState → ArenaState → ArenaState → ArenaState
by_decision Accepts won waits gone = won
by_decision Waits won waits gone = waits
by_decision Rejects won waits gone = gone

abbrev pub first_then : Option Tracked → Tracked → Option Tracked
first_then None t = Some t
first_then (Some w) t = Some w

-- what is left to be found, where the first that lives so far is this, and whether there are several
abbrev pub ends : Option Tracked → Bool → Bool → List Tracked → ArenaState
ends None several goes_up [] = Nobody
ends (Some w) several goes_up [] = cond (several && not goes_up) Open (Won w)
ends first several goes_up (t ∷ ts) = by_decision t.decision (Won t) (ends (first_then first t) (is_some first) goes_up ts) (ends first several goes_up ts)

count_more : (t : Tracked) (ts : List Tracked) (n : ℕ) → fold (λ (a : ℕ) (x : Tracked). a + cond (is_alive x) 1 0) n ts ≡ n + count_by is_alive ts
count_more t [] n = omega arith
count_more t (u ∷ ts) n =
    let here = count_more t ts (n + cond (is_alive u) 1 0) in
    let first = count_more t ts (0 + cond (is_alive u) 1 0) in
    omega (arith, here, first)

count_first : (t : Tracked) (ts : List Tracked) → count_by is_alive (t ∷ ts) ≡ cond {A = ℕ} (lives t.decision) 1 0 + count_by is_alive ts
count_first t ts = let here = count_more t ts (0 + cond {A = ℕ} (is_alive t) 1 0) in omega (arith, here)

two_more : (n : ℕ) → nat_le (1 + (1 + n)) 1 ≡ false
two_more n = lt-leb (1 + (1 + n)) 1 (omega arith)

module _ (goes_up : Bool) where
  -- ---- several live so far
  at_end : (w : Tracked) (b : Bool) → cond (true && not b) Open (Won w) ≡ cond (false || b) (Won w) Open
  at_end w true = refl
  at_end w false = refl

  several_more : (w t : Tracked) (ts : List Tracked) → ends (Some w) true goes_up ts ≡ cond (list_any has_accepted ts || goes_up) (arena_won (option_or (find has_accepted ts) (Some w))) Open → (d : Decision)
      → by_decision d (Won t) (ends (Some w) true goes_up ts) (ends (Some w) true goes_up ts)
      ≡ cond ((accepts d || list_any has_accepted ts) || goes_up) (arena_won (option_or (cond (accepts d) (Some t) (find has_accepted ts)) (Some w))) Open
  several_more w t ts rest Accepts = refl
  several_more w t ts rest Waits = rest
  several_more w t ts rest Rejects = rest

  ends_several : (w : Tracked) (ts : List Tracked) → ends (Some w) true goes_up ts ≡ cond (list_any has_accepted ts || goes_up) (arena_won (option_or (find has_accepted ts) (Some w))) Open
  ends_several w [] = at_end w goes_up
  ends_several w (t ∷ ts) = several_more w t ts (ends_several w ts) t.decision

  -- ---- one lives so far
  one_more : (w t : Tracked) (ts : List Tracked)
      → ends (Some w) false goes_up ts ≡ cond ((list_any has_accepted ts || nat_le (1 + count_by is_alive ts) 1) || goes_up) (arena_won (option_or (find has_accepted ts) (Some w))) Open → (d : Decision)
      → by_decision d (Won t) (ends (Some w) true goes_up ts) (ends (Some w) false goes_up ts)
      ≡ cond (((accepts d || list_any has_accepted ts) || nat_le (1 + (cond {A = ℕ} (lives d) 1 0 + count_by is_alive ts)) 1) || goes_up) (arena_won (option_or (cond (accepts d) (Some t) (find has_accepted ts)) (Some w))) Open
  one_more w t ts rest Accepts = refl
  one_more w t ts rest Waits =
      ends_several w ts
      ∙ sym (ap (λ (b : Bool). cond (b || goes_up) (arena_won (option_or (find has_accepted ts) (Some w))) Open)
      (or_none (list_any has_accepted ts) (nat_le (1 + (1 + count_by is_alive ts)) 1) (two_more (count_by is_alive ts))))
  one_more w t ts rest Rejects =
      let none : 0 + count_by is_alive ts ≡ count_by is_alive ts = omega arith in
      rest ∙ sym (ap (λ (n : ℕ). cond ((list_any has_accepted ts || nat_le (1 + n) 1) || goes_up) (arena_won (option_or (find has_accepted ts) (Some w))) Open) none)

  ends_one : (w : Tracked) (ts : List Tracked)
      → ends (Some w) false goes_up ts ≡ cond ((list_any has_accepted ts || nat_le (1 + count_by is_alive ts) 1) || goes_up) (arena_won (option_or (find has_accepted ts) (Some w))) Open
  ends_one w [] = refl
  ends_one w (t ∷ ts) =
      one_more w t ts (ends_one w ts) t.decision
      ∙ sym (ap (λ (n : ℕ). cond ((list_any has_accepted (t ∷ ts) || nat_le (1 + n) 1) || goes_up) (arena_won (option_or (find has_accepted (t ∷ ts)) (Some w))) Open) (count_first t ts))

  -- ---- none lives so far
  none_more : (several : Bool) (t : Tracked) (ts : List Tracked) → ends None several goes_up ts ≡ open_after ts goes_up → (d : Decision)
      → by_decision d (Won t) (ends (Some t) false goes_up ts) (ends None several goes_up ts)
      ≡ cond (((accepts d || list_any has_accepted ts) || nat_le (cond {A = ℕ} (lives d) 1 0 + count_by is_alive ts) 1) || goes_up) (arena_won (option_or (cond (accepts d) (Some t) (find has_accepted ts)) (cond (lives d) (Some t) (find is_alive ts)))) Open
  none_more several t ts rest Accepts = refl
  none_more several t ts rest Waits = ends_one t ts
  none_more several t ts rest Rejects =
      let none : 0 + count_by is_alive ts ≡ count_by is_alive ts = omega arith in
      rest ∙ sym (ap (λ (n : ℕ). cond ((list_any has_accepted ts || nat_le n 1) || goes_up) (arena_won (first_of ts)) Open) none)

  pub ends_whole : (several : Bool) (ts : List Tracked) → ends None several goes_up ts ≡ open_after ts goes_up
  ends_whole several [] = refl
  ends_whole several (t ∷ ts) =
      none_more several t ts (ends_whole several ts) t.decision
      ∙ sym (ap (λ (n : ℕ). cond ((list_any has_accepted (t ∷ ts) || nat_le n 1) || goes_up) (arena_won (first_of (t ∷ ts))) Open) (count_first t ts))
