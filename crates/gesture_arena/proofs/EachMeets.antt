-- A call gives each pointer its moment, one after another.
use Rattle.std.proofs.Common.{◌≡◌, refl, sym, ◌∙◌, ap, subst, ℕ, zero, suc, ◌+◌, ◌<◌, ◌≤◌, cond, not, ◌&&◌, ◌||◌, List, [], ◌∷◌, ◌++◌, map, append_assoc, append-nil, length, get_or, Option, Some, None, nat_le, ◌==◌, arith, add-one}
use Rattle.std.proofs.Math.ListN.{set}
use Rattle.std.specs.List.{list_any}
use Rattle.std.specs.Option.{option_to_list}
use Rattle.fx_geom.specs.declared.scales.Scale.{Scale}
use Rattle.gesture_arena.specs.declared.gesture.Member.{Member}
use Rattle.gesture_arena.specs.declared.gesture.ArenaEvent.{ArenaEvent}
use Rattle.gesture_arena.specs.declared.held.HeldPointer.{HeldPointer}
use Rattle.gesture_arena.specs.declared.call.Call.{Call}
use Rattle.gesture_arena.specs.declared.call.Call.TheVariants as call
use Rattle.gesture_arena.specs.Moment.{Moment, up, cancel, due, dropped, move, Touch, Pointer, is_among, has_come_due}
use Rattle.gesture_arena.specs.Pointers.{GivenMoments, one_gets, met, after, events_met, events_of}
use Rattle.gesture_arena.specs.declared.answers.Answers.{Answers}
use Rattle.gesture_arena.specs.declared.tracked.Tracked.{Tracked}
use Rattle.gesture_arena.specs.Answering.{answered}
use Rattle.gesture_arena.specs.Settled.{member_in, is_open}
use Rattle.gesture_arena.specs.Stored.{offset_of, tracked_of, has_lost, given_in, given_by, Stands, StepsTo, AllStand, decided_in, effect_in}
use Rattle.gesture_arena.proofs.Arenas.{stands_more, events_more}

-- the moment that a call gives
any-lost : (s : Scale) (p : Touch) (ms : List Moment) (gone members : List Member)
    → has_lost gone (map (tracked_of s p ms) members) ≡ list_any (is_among gone) members
any-lost s p ms gone [] = refl
any-lost s p ms gone (m ∷ members) = ap (λ b. is_among gone m || b) (any-lost s p ms gone members)

lost-given : (gone : List Member) (a : Answers) (ts : List Tracked) → has_lost gone ts ≡ has_lost gone (map (answered a) ts)
lost-given gone a [] = refl
lost-given gone a (t ∷ ts) = ap (λ b. is_among gone (member_in t) || b) (lost-given gone a ts)

number-given : (number : ℕ) (x : Moment) (h : HeldPointer) (p : Pointer) → h.number ≡ p.touch.number
    → cond (h.number == number) (Some x) None ≡ one_gets number x p
number-given number x h p e = ap (λ n. cond (n == number) (Some x) None) e

pub given-same : (s : Scale) (c : Call) (h : HeldPointer) (p : Pointer) → Stands s h p → given_in c h ≡ given_by c p
given-same s (call.Moved number at) h p sd = number-given number (move (offset_of at)) h p sd.number
given-same s (call.Up number) h p sd = number-given number up h p sd.number
given-same s (call.Cancel number) h p sd = number-given number cancel h p sd.number
given-same s (call.Advance now) h p sd =
    ap (λ b. cond (not b && nat_le (h.began + 500) now) (Some due) None) sd.is_due
    ∙ ap (λ n. cond (not (has_come_due p.moments) && nat_le (n + 500) now) (Some due) None) sd.began
given-same s (call.Dropped gone) h p sd =
    ap (λ b. cond b (Some (dropped gone.members.now)) None) (lost-given gone.members.now h.answers h.members.items ∙ ap (has_lost gone.members.now) sd.members)
    ∙ ap (λ b. cond b (Some (dropped gone.members.now)) None) (any-lost s p.touch p.moments gone.members.now p.touch.members)

-- one pointer that gets a moment, and one that gets none
pub met_some : (s : Scale) (x : Moment) (h g : HeldPointer) (p : Pointer) (o : Option Moment) → o ≡ Some x → StepsTo s x h g → Stands s h p → Stands s g (met o p)
met_some s x h g p o e st sd =
    let P : Option Moment → Type 0 = λ t. Stands s g (met t p) in
    subst P (sym e) (stands_more s x h g p st sd)

pub met_none : (s : Scale) (h : HeldPointer) (p : Pointer) (o : Option Moment) → o ≡ None → Stands s h p → Stands s h (met o p)
met_none s h p o e sd =
    let P : Option Moment → Type 0 = λ t. Stands s h (met t p) in
    subst P (sym e) sd

pub events_some : (s : Scale) (x : Moment) (h g : HeldPointer) (p : Pointer) (o : Option Moment) (a b : Option ArenaEvent) (es fs gs : List ArenaEvent)
    → o ≡ Some x → StepsTo s x h g → Stands s h p
    → a ≡ decided_in h.number h.members.items h.arena g.arena → b ≡ effect_in (is_open h.arena) g.arena (offset_of h.last) x
    → fs ≡ es ++ option_to_list a → gs ≡ fs ++ option_to_list b → gs ≡ es ++ events_met s p o
events_some s x h g p o a b es fs gs e st sd ea eb ef eg =
    eg ∙ ap (λ l. l ++ option_to_list b) ef ∙ append_assoc es (option_to_list a) (option_to_list b)
    ∙ ap (λ l. es ++ l) (events_more s x h g p a b st sd ea eb ∙ ap (events_met s p) (sym e))

pub events_none : (s : Scale) (p : Pointer) (o : Option Moment) (es : List ArenaEvent) → o ≡ None → es ≡ es ++ events_met s p o
events_none s p o es e = sym (append-nil es) ∙ ap (λ t. es ++ events_met s p t) (sym e)

-- the first i pointers have met their moments
abbrev pub after_first : GivenMoments → ℕ → List Pointer → List Pointer
after_first given zero ps = ps
after_first given (suc i) [] = []
after_first given (suc i) (p ∷ ps) = met (given p) p ∷ after_first given i ps

abbrev pub events_first : Scale → GivenMoments → ℕ → List Pointer → List ArenaEvent
events_first s given zero ps = []
events_first s given (suc i) [] = []
events_first s given (suc i) (p ∷ ps) = events_met s p (given p) ++ events_first s given i ps

-- the next pointer
pub record Next (s : Scale) (given : GivenMoments) (hs : List HeldPointer) (i : ℕ) (ps : List Pointer) (h : HeldPointer) : Type 0 where
  pub pointer : Pointer
  pub stands : Stands s h pointer
  pub goes : (g : HeldPointer) → Stands s g (met (given pointer) pointer) → AllStand s (set hs i g) (after_first given (suc i) ps)
  pub events : events_first s given (suc i) ps ≡ events_first s given i ps ++ events_met s pointer (given pointer)

pub next_at : (s : Scale) (given : GivenMoments) (hs : List HeldPointer) (i : ℕ) (ps : List Pointer) (d : HeldPointer) → i < length hs
    → AllStand s hs (after_first given i ps) → Next s given hs i ps (get_or hs i d)
next_at s given [] i ps d h a = absurd (omega arith)
next_at s given (h ∷ hs) zero [] d l a = absurd a
next_at s given (h ∷ hs) zero (p ∷ ps) d l a = record {
  pointer = p;
  stands = a.0;
  goes = λ g x. (x, a.1);
  events = append-nil (events_met s p (given p));
}
next_at s given (h ∷ hs) (suc i) [] d l a = absurd a
next_at s given (h ∷ hs) (suc i) (p ∷ ps) d l a =
    let r : Next s given hs i ps (get_or hs i d) = next_at s given hs i ps d (omega arith) a.1 in
    record {
      pointer = r.pointer;
      stands = r.stands;
      goes = λ g x. (a.0, r.goes g x);
      events = ap (λ l. events_met s p (given p) ++ l) r.events
          ∙ sym (append_assoc (events_met s p (given p)) (events_first s given i ps) (events_met s r.pointer (given r.pointer)));
    }

-- all of them
pub all_met : (s : Scale) (given : GivenMoments) (hs : List HeldPointer) (i : ℕ) (ps : List Pointer) → length hs ≤ i → AllStand s hs (after_first given i ps)
    → (after_first given i ps ≡ after given ps) × (events_first s given i ps ≡ events_of s given ps)
all_met s given [] zero [] l a = (refl, refl)
all_met s given [] zero (p ∷ ps) l a = absurd a
all_met s given (h ∷ hs) zero ps l a = absurd (omega arith)
all_met s given [] (suc i) [] l a = (refl, refl)
all_met s given [] (suc i) (p ∷ ps) l a = absurd a
all_met s given (h ∷ hs) (suc i) [] l a = absurd a
all_met s given (h ∷ hs) (suc i) (p ∷ ps) l a =
    let r : (after_first given i ps ≡ after given ps) × (events_first s given i ps ≡ events_of s given ps) = all_met s given hs i ps (omega arith) a.1 in
    (ap (λ qs. met (given p) p ∷ qs) r.0, ap (λ es. events_met s p (given p) ++ es) r.1)

-- in the midst of a call
pub record Midway (s : Scale) (given : GivenMoments) (hs : List HeldPointer) (i : ℕ) (es fs : List ArenaEvent) (ps : List Pointer) : Type 0 where
  pub stand : AllStand s hs (after_first given i ps)
  pub events : fs ≡ es ++ events_first s given i ps

pub midway_first : (s : Scale) (given : GivenMoments) (hs : List HeldPointer) (es : List ArenaEvent) (ps : List Pointer) → AllStand s hs ps → Midway s given hs 0 es es ps
midway_first s given hs es ps a = record { stand = a; events = sym (append-nil es) }

pub midway_next : (s : Scale) (given : GivenMoments) (hs : List HeldPointer) (i : ℕ) (d g : HeldPointer) (es fs gs : List ArenaEvent) (ps : List Pointer) → i < length hs
    → Midway s given hs i es fs ps
    → ((p : Pointer) → Stands s (get_or hs i d) p → Stands s g (met (given p) p))
    → ((p : Pointer) → Stands s (get_or hs i d) p → gs ≡ fs ++ events_met s p (given p))
    → Midway s given (set hs i g) (i + 1) es gs ps
midway_next s given hs i d g es fs gs ps l m st ev =
    let r : Next s given hs i ps (get_or hs i d) = next_at s given hs i ps d l m.stand in
    let P : ℕ → Type 0 = λ n. Midway s given (set hs i g) n es gs ps in
    subst P (sym (add-one i))
    (record {
      stand = r.goes g (st r.pointer r.stands);
      events = ev r.pointer r.stands ∙ ap (λ t. t ++ events_met s r.pointer (given r.pointer)) m.events
          ∙ append_assoc es (events_first s given i ps) (events_met s r.pointer (given r.pointer)) ∙ ap (λ t. es ++ t) (sym r.events);
    })

pub midway_last : (s : Scale) (given : GivenMoments) (hs : List HeldPointer) (i : ℕ) (es fs : List ArenaEvent) (ps : List Pointer) → length hs ≤ i
    → Midway s given hs i es fs ps → AllStand s hs (after given ps) × (fs ≡ es ++ events_of s given ps)
midway_last s given hs i es fs ps l m =
    let r : (after_first given i ps ≡ after given ps) × (events_first s given i ps ≡ events_of s given ps) = all_met s given hs i ps l m.stand in
    let P : List Pointer → Type 0 = λ qs. AllStand s hs qs in
    (subst P r.0 m.stand, m.events ∙ ap (λ t. es ++ t) r.1)
