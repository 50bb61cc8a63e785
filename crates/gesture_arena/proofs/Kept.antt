-- Members to which what their gestures have decided is given later.
use Rattle.std.proofs.Common.{◌≡◌, refl, sym, ◌∙◌, ap, ℕ, ◌+◌, ◌<◌, Bool, true, false, true≢false, ◌||◌, ◌&&◌, not, cond, nat_le, List, [], ◌∷◌, map, drop, length, get_or, Option, Some, None, is_some, count_by}
use Rattle.std.proofs.lemmas.List.{drop_more}
use Rattle.std.specs.List.{list_any}
use Rattle.fx_geom.specs.declared.shapes.Offset.{Offset}
use Rattle.fx_geom.specs.declared.scales.Scale.{Scale}
use Rattle.gesture_arena.specs.declared.answers.Answers.{Answers}
use Rattle.gesture_arena.specs.declared.gesture.Gesture.{Gesture}
use Rattle.gesture_arena.specs.declared.gesture.Gesture.TheVariants.{Tap, Long, Vertical, Horizontal, Pan}
use Rattle.gesture_arena.specs.declared.gesture.Member.{Member}
use Rattle.gesture_arena.specs.declared.moment.Decision.{Decision}
use Rattle.gesture_arena.specs.declared.moment.Decision.TheVariants.{Waits, Rejects, Accepts}
use Rattle.gesture_arena.specs.declared.tracked.Tracked.{Tracked}
use Rattle.gesture_arena.specs.declared.tracked.ArenaState.{ArenaState}
use Rattle.gesture_arena.specs.declared.tracked.ArenaState.TheVariants.{Open, Won, Nobody}
use Rattle.gesture_arena.specs.Answering.{is_drop, answer, answer_in, answered, waiting, accepts_some}
use Rattle.gesture_arena.specs.Moment.{Moment, down, move, up, cancel, due, dropped, is_among}
use Rattle.gesture_arena.specs.Own.{says, lives, accepts}
use Rattle.gesture_arena.specs.Settled.{member_in, decision_after, has_accepted, is_alive, arena_won, first_of, is_open}
use Rattle.gesture_arena.specs.Stored.{stepped, given_stepped, arena_after, fresh}
use Rattle.gesture_arena.proofs.Answered.{all_answered, by_decision, first_then, ends}

-- ---- what the members are

after_waits : (d : Decision) → decision_after d Waits ≡ d
after_waits Waits = refl
after_waits Rejects = refl
after_waits Accepts = refl

waits_in : (g : Gesture) → answer_in waiting g ≡ Waits
waits_in Tap = refl
waits_in Long = refl
waits_in Vertical = refl
waits_in Horizontal = refl
waits_in Pan = refl

one_waiting : (t : Tracked) → answered waiting t ≡ t
one_waiting t =
    let same = ap (decision_after t.decision) (waits_in t.gesture) ∙ after_waits t.decision in
    λ i. record { node = t.node; gesture = t.gesture; decision = same i; dropped = t.dropped }

-- where no gesture has decided anything, the members are as they are stored
pub all_waiting : (ts : List Tracked) → map (answered waiting) ts ≡ ts
all_waiting [] = refl
all_waiting (t ∷ ts) = λ i. one_waiting t i ∷ all_waiting ts i

after_two : (d p q : Decision) → decision_after d (decision_after p q) ≡ decision_after (decision_after d p) q
after_two Waits p q = refl
after_two Rejects p q = refl
after_two Accepts p q = refl

module _ (a b c : Answers) (tells : (g : Gesture) → answer_in c g ≡ decision_after (answer_in a g) (answer_in b g)) where
  one_then : (t : Tracked) → answered c t ≡ answered b (answered a t)
  one_then t =
      let g = t.gesture in
      let same = ap (decision_after t.decision) (tells g) ∙ after_two t.decision (answer_in a g) (answer_in b g) in
      λ i. record { node = t.node; gesture = t.gesture; decision = same i; dropped = t.dropped }

  all_then : (ts : List Tracked) → map (answered c) ts ≡ map (answered b) (map (answered a) ts)
  all_then [] = refl
  all_then (t ∷ ts) = λ i. one_then t i ∷ all_then ts i

  -- a moment at which none is dropped
  pub all_later : (s : Scale) (from : Offset) (x : Moment) → is_drop x ≡ false → ((g : Gesture) → answer_in b g ≡ answer s from g x)
      → (ts : List Tracked) → map (answered c) ts ≡ map (stepped s from x) (map (answered a) ts)
  all_later s from x none says_it ts = all_then ts ∙ all_answered s from x b none says_it (map (answered a) ts)

both_given : (a : Answers) (s : Scale) (from : Offset) (x : Moment) (ts : List Tracked) → map (given_stepped a s from x) ts ≡ map (stepped s from x) (map (answered a) ts)
both_given a s from x [] = refl
both_given a s from x (t ∷ ts) = ap (λ l. given_stepped a s from x t ∷ l) (both_given a s from x ts)

-- a drop
pub all_given : (a : Answers) (s : Scale) (from : Offset) (x : Moment) (ts us : List Tracked) → us ≡ map (given_stepped a s from x) ts
    → map (answered waiting) us ≡ map (stepped s from x) (map (answered a) ts)
all_given a s from x ts us e = all_waiting us ∙ e ∙ both_given a s from x ts

-- ---- none has accepted

or_left : (b c : Bool) → (b || c) ≡ false → b ≡ false
or_left true c e = absurd (true≢false e)
or_left false c e = refl

or_right : (b c : Bool) → (b || c) ≡ false → c ≡ false
or_right true c e = absurd (true≢false e)
or_right false c e = e

before_it : (d x : Decision) (r q : Bool) → (accepts (decision_after d x) || r) ≡ false → (r ≡ false → q ≡ false) → (accepts d || q) ≡ false
before_it Waits x r q e f = f (or_right (accepts x) r e)
before_it Rejects x r q e f = f e
before_it Accepts x r q e f = absurd (true≢false e)

pub none_before : (a : Answers) (ts : List Tracked) → list_any has_accepted (map (answered a) ts) ≡ false → list_any has_accepted ts ≡ false
none_before a [] e = refl
none_before a (t ∷ ts) e =
    before_it t.decision (answer_in a t.gesture) (list_any has_accepted (map (answered a) ts)) (list_any has_accepted ts) e (none_before a ts)

neither : (b c : Bool) → b ≡ false → c ≡ false → (b || c) ≡ false
neither true c e f = absurd (true≢false e)
neither false c e f = f

none_by : (f : Tracked → Tracked) → ((t : Tracked) → has_accepted t ≡ false → has_accepted (f t) ≡ false) → (ts : List Tracked)
    → list_any has_accepted ts ≡ false → list_any has_accepted (map f ts) ≡ false
none_by f keeps [] e = refl
none_by f keeps (t ∷ ts) e =
    neither (has_accepted (f t)) (list_any has_accepted (map f ts)) (keeps t (or_left (has_accepted t) (list_any has_accepted ts) e))
    (none_by f keeps ts (or_right (has_accepted t) (list_any has_accepted ts) e))

not_after : (d y : Decision) → accepts y ≡ false → accepts d ≡ false → accepts (decision_after d y) ≡ false
not_after Waits y e f = e
not_after Rejects y e f = refl
not_after Accepts y e f = f

drop_says : (s : Scale) (from : Offset) (m : Member) (x : Moment) → is_drop x ≡ true → accepts (says s from m x) ≡ false
drop_says s from m down e = cc
drop_says s from m (move at) e = cc
drop_says s from m up e = cc
drop_says s from m cancel e = cc
drop_says s from m due e = cc
drop_says s from m (dropped gone) e = elim (is_among gone m) as (λ b. accepts (cond b Rejects Waits) ≡ false) [ true ↦ refl | false ↦ refl ]

-- a drop makes none accept
pub none_dropped : (a : Answers) (s : Scale) (from : Offset) (x : Moment) (ts us : List Tracked) → is_drop x ≡ true → us ≡ map (given_stepped a s from x) ts
    → list_any has_accepted (map (answered a) ts) ≡ false → list_any has_accepted us ≡ false
none_dropped a s from x ts us drops e none =
    ap (list_any has_accepted) (e ∙ both_given a s from x ts)
    ∙ none_by (stepped s from x) (λ t f. not_after t.decision (says s from (member_in t) x) (drop_says s from (member_in t) x drops) f) (map (answered a) ts) none

module _ (a : Answers) (none : accepts_some a ≡ false) where
  before_pan : (((accepts a.tap || accepts a.long) || accepts a.vertical) || accepts a.horizontal) ≡ false
  before_pan = or_left _ (accepts a.pan) none

  before_horizontal : ((accepts a.tap || accepts a.long) || accepts a.vertical) ≡ false
  before_horizontal = or_left _ (accepts a.horizontal) before_pan

  before_vertical : (accepts a.tap || accepts a.long) ≡ false
  before_vertical = or_left _ (accepts a.vertical) before_horizontal

  some_none : (g : Gesture) → accepts (answer_in a g) ≡ false
  some_none Tap = or_left _ (accepts a.long) before_vertical
  some_none Long = or_right (accepts a.tap) _ before_vertical
  some_none Vertical = or_right (accepts a.tap || accepts a.long) _ before_horizontal
  some_none Horizontal = or_right ((accepts a.tap || accepts a.long) || accepts a.vertical) _ before_pan
  some_none Pan = or_right (((accepts a.tap || accepts a.long) || accepts a.vertical) || accepts a.horizontal) _ none

  pub none_given : (ts : List Tracked) → list_any has_accepted ts ≡ false → list_any has_accepted (map (answered a) ts) ≡ false
  none_given = none_by (answered a) (λ t f. not_after t.decision (answer_in a t.gesture) (some_none t.gesture) f)

none_fresh : (ms : List Member) → list_any has_accepted (map fresh ms) ≡ false
none_fresh [] = refl
none_fresh (m ∷ ms) = none_fresh ms

-- to a new pointer nothing has happened
pub fresh_quiet : (ms : List Member) (ts : List Tracked) → ts ≡ map fresh ms → list_any has_accepted (map (answered waiting) ts) ≡ false
fresh_quiet ms ts e = ap (list_any has_accepted) (all_waiting ts ∙ e) ∙ none_fresh ms

-- ---- what an open arena comes to where none has accepted

at_last : (w : Tracked) (b : Bool) → cond (true && not b) Open (Won w) ≡ cond b (Won w) Open
at_last w true = refl
at_last w false = refl

quiet_more : (goes_up : Bool) (w t : Tracked) (rest : ArenaState) (d : Decision) (r : Bool) → (accepts d || r) ≡ false → (r ≡ false → rest ≡ cond goes_up (Won w) Open)
    → by_decision d (Won t) rest rest ≡ cond goes_up (Won w) Open
quiet_more goes_up w t rest Waits r e f = f e
quiet_more goes_up w t rest Rejects r e f = f e
quiet_more goes_up w t rest Accepts r e f = absurd (true≢false e)

-- two live: what the others decided is the same to it
pub quiet_ends : (goes_up : Bool) (w : Tracked) (ts : List Tracked) → list_any has_accepted ts ≡ false → ends (Some w) true goes_up ts ≡ cond goes_up (Won w) Open
quiet_ends goes_up w [] e = at_last w goes_up
quiet_ends goes_up w (t ∷ ts) e = quiet_more goes_up w t (ends (Some w) true goes_up ts) t.decision (list_any has_accepted ts) e (quiet_ends goes_up w ts)

won_closed : (o : Option Tracked) → (is_open (arena_won o) && true) ≡ false
won_closed None = refl
won_closed (Some t) = refl

and_none : (b : Bool) → (b && false) ≡ false
and_none true = refl
and_none false = refl

-- an arena that is still open has no member that has accepted
pub open_quiet : (s : Scale) (from : Offset) (x : Moment) (goes_up : Bool) (ts : List Tracked) (a : ArenaState)
    → (is_open (arena_after s from x goes_up ts a) && list_any has_accepted ts) ≡ false
open_quiet s from x goes_up ts Open =
    elim (list_any has_accepted ts)
    as (λ b. (is_open (cond ((b || nat_le (count_by is_alive ts) 1) || goes_up) (arena_won (first_of ts)) Open) && b) ≡ false)
    [ true ↦ won_closed (first_of ts) | false ↦ and_none (is_open (cond ((false || nat_le (count_by is_alive ts) 1) || goes_up) (arena_won (first_of ts)) Open)) ]
open_quiet s from x goes_up ts (Won t) = refl
open_quiet s from x goes_up ts Nobody = refl

-- one that was open had none
pub was_quiet : (b c : Bool) → (b && c) ≡ false → b ≡ true → c ≡ false
was_quiet true c e o = e
was_quiet false c e o = cc

-- ---- the next member, where they are asked one after another

ends_next : (first : Option Tracked) (several goes_up : Bool) (t : Tracked) (ts : List Tracked)
    → ends first several goes_up (t ∷ ts) ≡ by_decision t.decision (Won t) (ends (first_then first t) (is_some first) goes_up ts) (ends first several goes_up ts)
ends_next None several goes_up t ts = refl
ends_next (Some w) several goes_up t ts = refl

next_given : (a : Answers) (ts : List Tracked) (i : ℕ) (t g : Tracked) → i < length ts → t ≡ get_or ts i t → g ≡ answered a t
    → map (answered a) (drop i ts) ≡ g ∷ map (answered a) (drop (i + 1) ts)
next_given a ts i t g low at is =
    ap (map (answered a)) (drop_more ts i t low) ∙ ap (λ x. answered a x ∷ map (answered a) (drop (i + 1) ts)) (sym at)
    ∙ ap (λ x. x ∷ map (answered a) (drop (i + 1) ts)) (sym is)

module _ (a : Answers) (ts : List Tracked) (i : ℕ) (t g : Tracked) (low : i < length ts) (at : t ≡ get_or ts i t) (is : g ≡ answered a t) where
  pub ends_here : (first : Option Tracked) (several goes_up : Bool) (whole : ArenaState) → whole ≡ ends first several goes_up (map (answered a) (drop i ts))
      → whole ≡ by_decision g.decision (Won g) (ends (first_then first g) (is_some first) goes_up (map (answered a) (drop (i + 1) ts))) (ends first several goes_up (map (answered a) (drop (i + 1) ts)))
  ends_here first several goes_up whole e =
      e ∙ ap (ends first several goes_up) (next_given a ts i t g low at is) ∙ ends_next first several goes_up g (map (answered a) (drop (i + 1) ts))

  -- none of those that are left has accepted
  pub quiet_here : list_any has_accepted (map (answered a) (drop i ts)) ≡ false → (has_accepted g || list_any has_accepted (map (answered a) (drop (i + 1) ts))) ≡ false
  quiet_here e = sym (ap (list_any has_accepted) (next_given a ts i t g low at is)) ∙ e

second_by : (goes_up : Bool) (w g : Tracked) (rest : List Tracked) (d : Decision) → lives d ≡ true → (accepts d || list_any has_accepted rest) ≡ false
    → by_decision d (Won g) (ends (Some w) true goes_up rest) (ends (Some w) false goes_up rest) ≡ cond goes_up (Won w) Open
second_by goes_up w g rest Waits l e = quiet_ends goes_up w rest e
second_by goes_up w g rest Rejects l e = absurd (true≢false (sym l))
second_by goes_up w g rest Accepts l e = absurd (true≢false e)

-- the second member that lives, where none has accepted
pub second_alive : (goes_up : Bool) (w g : Tracked) (first : Option Tracked) (rest : List Tracked) (whole : ArenaState) → first ≡ Some w → lives g.decision ≡ true
    → (has_accepted g || list_any has_accepted rest) ≡ false
    → whole ≡ by_decision g.decision (Won g) (ends (first_then first g) (is_some first) goes_up rest) (ends first false goes_up rest)
    → whole ≡ cond goes_up (Won w) Open
second_alive goes_up w g first rest whole is l e at =
    at ∙ ap (λ o. by_decision g.decision (Won g) (ends (first_then o g) (is_some o) goes_up rest) (ends o false goes_up rest)) is
    ∙ second_by goes_up w g rest g.decision l e
