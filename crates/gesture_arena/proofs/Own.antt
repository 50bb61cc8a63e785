-- One pointer among several.
use Rattle.std.proofs.Common.{◌≡◌, refl, sym, ◌∙◌, ap, ℕ, ◌+◌, Bool, true, false, cond, List, [], ◌∷◌, ◌++◌, map, append_assoc, append-nil, Some, None, is_some, ◌==◌, arith}
use Rattle.std.proofs.lemmas.Bool.{eqb-true}
use Rattle.std.specs.List.{filter}
use Rattle.fx_geom.specs.declared.scales.Scale.{Scale}
use Rattle.gesture_arena.specs.declared.gesture.ArenaEvent.{ArenaEvent}
use Rattle.gesture_arena.specs.Moment.{Moment, Touch, Pointer, Turn, turns}
use Rattle.gesture_arena.specs.Effects.{events_at, events_along, effects_of}
use Rattle.gesture_arena.specs.Pointers.{with_moment, turn_of, one_gets, is_numbered, met, after, events_met, events_of, comes_due}
use Rattle.gesture_arena.specs.Alone.{Happens, own_moments, own_events, IsOnly, IsAlone, IsAtMostAll, AreInOrder, down_time, deadline_of, due_at}
use Rattle.gesture_arena.proofs.Replay.{turn_at, turns-snoc}

events_along-append : (s : Scale) (p : Touch) (ts us : List Turn) → events_along s p (ts ++ us) ≡ events_along s p ts ++ events_along s p us
events_along-append s p [] us = refl
events_along-append s p (t ∷ ts) us =
    ap (λ l. events_at s p t ++ l) (events_along-append s p ts us) ∙ sym (append_assoc (events_at s p t) (events_along s p ts) (events_along s p us))

-- one moment more
effects-snoc : (s : Scale) (p : Touch) (ms : List Moment) (x : Moment) → effects_of s p (ms ++ x ∷ []) ≡ effects_of s p ms ++ events_at s p (turn_at ms x)
effects-snoc s p ms x =
    ap (events_along s p) (turns-snoc [] ms x) ∙ events_along-append s p (turns ms) (turn_at ms x ∷ [])
    ∙ ap (λ l. effects_of s p ms ++ l) (append-nil (events_at s p (turn_at ms x)))

-- what comes of the pointers that get a moment
abbrev each_gets : Scale → Moment → List Pointer → List ArenaEvent
each_gets s x [] = []
each_gets s x (p ∷ ps) = events_at s p.touch (turn_of p x) ++ each_gets s x ps

-- its own moment
own-events : (s : Scale) (number : ℕ) (x : Moment) (ps : List Pointer)
    → events_of s (one_gets number x) ps ≡ each_gets s x (filter (is_numbered number) ps)
own-events s number x [] = refl
own-events s number x (q ∷ qs) =
    elim (is_numbered number q)
    as (λ b. events_met s q (cond b (Some x) None) ++ events_of s (one_gets number x) qs
    ≡ each_gets s x (cond b (q ∷ filter (is_numbered number) qs) (filter (is_numbered number) qs)))
    [ true ↦ ap (λ l. events_at s q.touch (turn_of q x) ++ l) (own-events s number x qs) | false ↦ own-events s number x qs ]

own_one : (number : ℕ) (x : Moment) (q : Pointer) (ms qs : List Pointer) → ms ≡ map (λ r. with_moment r x) qs → (b : Bool) → is_numbered number q ≡ b
    → cond (is_numbered number (met (cond b (Some x) None) q)) (met (cond b (Some x) None) q ∷ ms) ms ≡ map (λ r. with_moment r x) (cond b (q ∷ qs) qs)
own_one number x q ms qs m true e = ap (λ b. cond b (with_moment q x ∷ ms) ms) e ∙ ap (λ l. with_moment q x ∷ l) m
own_one number x q ms qs m false e = ap (λ b. cond b (q ∷ ms) ms) e ∙ m

own-after : (number : ℕ) (x : Moment) (ps : List Pointer)
    → filter (is_numbered number) (after (one_gets number x) ps) ≡ map (λ q. with_moment q x) (filter (is_numbered number) ps)
own-after number x [] = refl
own-after number x (q ∷ qs) =
    ap (λ l. cond (is_numbered number (met (one_gets number x q) q)) (met (one_gets number x q) q ∷ l) l) (own-after number x qs)
    ∙ own_one number x q (map (λ r. with_moment r x) (filter (is_numbered number) qs)) (filter (is_numbered number) qs) refl (is_numbered number q) refl

-- another pointer's moment
not_both : (number other n : ℕ) → (other == number) ≡ false → (n == other) ≡ true → (n == number) ≡ false
not_both number other n e f = ap (λ k. k == number) (eqb-true n other f) ∙ e

other_one : (number other : ℕ) (x : Moment) (q : Pointer) (qs : List Pointer) → (other == number) ≡ false → (b : Bool) → is_numbered other q ≡ b
    → cond (is_numbered number (met (cond b (Some x) None) q)) (met (cond b (Some x) None) q ∷ qs) qs ≡ cond (is_numbered number q) (q ∷ qs) qs
other_one number other x q qs e true f =
    let n : is_numbered number q ≡ false = not_both number other q.touch.number e f in
    ap (λ b. cond b (with_moment q x ∷ qs) qs) n ∙ sym (ap (λ b. cond b (q ∷ qs) qs) n)
other_one number other x q qs e false f = refl

other-after : (number other : ℕ) (x : Moment) (ps : List Pointer) → (other == number) ≡ false
    → filter (is_numbered number) (after (one_gets other x) ps) ≡ filter (is_numbered number) ps
other-after number other x [] e = refl
other-after number other x (q ∷ qs) e =
    ap (λ l. cond (is_numbered number (met (one_gets other x q) q)) (met (one_gets other x q) q ∷ l) l) (other-after number other x qs e)
    ∙ other_one number other x q (filter (is_numbered number) qs) e (is_numbered other q) refl

alone_own : (s : Scale) (ps : List Pointer) (p : Pointer) (h : Happens) (hs : List Happens) → IsOnly p ps → h.number ≡ p.touch.number
    → (IsOnly (with_moment p h.moment) (after (one_gets p.touch.number h.moment) ps) → IsAlone s (after (one_gets p.touch.number h.moment) ps) (with_moment p h.moment) hs)
    → effects_of s p.touch p.moments ++ (events_of s (one_gets h.number h.moment) ps ++ own_events s p.touch.number hs (after (one_gets h.number h.moment) ps))
    ≡ effects_of s p.touch (p.moments ++ h.moment ∷ own_moments p.touch.number hs)
alone_own s ps p h hs only e rest =
    let n : ℕ = p.touch.number in
    let x : Moment = h.moment in
    let ms : List Moment = p.moments in
    let es : List ArenaEvent = effects_of s p.touch ms in
    let gets : events_of s (one_gets n x) ps ≡ events_at s p.touch (turn_of p x) =
    own-events s n x ps ∙ ap (each_gets s x) only ∙ append-nil (events_at s p.touch (turn_of p x))
    in
    let goes : IsOnly (with_moment p x) (after (one_gets n x) ps) = own-after n x ps ∙ ap (map (λ q. with_moment q x)) only in
    ap (λ k. es ++ (events_of s (one_gets k x) ps ++ own_events s n hs (after (one_gets k x) ps))) e
    ∙ ap (λ l. es ++ (l ++ own_events s n hs (after (one_gets n x) ps))) gets
    ∙ sym (append_assoc es (events_at s p.touch (turn_of p x)) (own_events s n hs (after (one_gets n x) ps)))
    ∙ ap (λ l. l ++ own_events s n hs (after (one_gets n x) ps)) (sym (effects-snoc s p.touch ms x))
    ∙ rest goes
    ∙ ap (effects_of s p.touch) (append_assoc ms (x ∷ []) (own_moments n hs))

pub is_alone : (s : Scale) (ps : List Pointer) (p : Pointer) (hs : List Happens) → IsOnly p ps → IsAlone s ps p hs
is_alone s ps p [] only = append-nil (effects_of s p.touch p.moments) ∙ ap (effects_of s p.touch) (sym (append-nil p.moments))
is_alone s ps p (h ∷ hs) only =
    elim (h.number == p.touch.number)
    as (λ b. (h.number == p.touch.number) ≡ b
    → effects_of s p.touch p.moments ++ (cond b (events_of s (one_gets h.number h.moment) ps) [] ++ own_events s p.touch.number hs (after (one_gets h.number h.moment) ps))
    ≡ effects_of s p.touch (p.moments ++ cond b (h.moment ∷ own_moments p.touch.number hs) (own_moments p.touch.number hs))) [
      | true ↦ λ e. alone_own s ps p h hs only (eqb-true h.number p.touch.number e) (is_alone s (after (one_gets p.touch.number h.moment) ps) (with_moment p h.moment) hs)
      | false ↦ λ e. is_alone s (after (one_gets h.number h.moment) ps) p hs (other-after p.touch.number h.number h.moment ps e ∙ only)
    ]
    refl

-- deadlines
at_most_due : (now n : ℕ) (ps : List Pointer) → IsAtMostAll n (map down_time ps) → IsAtMostAll (n + 500) (map deadline_of (due_at now ps))
at_most_due now n [] a = tt
at_most_due now n (p ∷ ps) a =
    elim (is_some (comes_due now p)) as (λ b. IsAtMostAll (n + 500) (map deadline_of (cond b (p ∷ due_at now ps) (due_at now ps))))
    [ true ↦ (omega arith, at_most_due now n ps a.1) | false ↦ at_most_due now n ps a.1 ]

pub due_in_order : (now : ℕ) (ps : List Pointer) → AreInOrder (map down_time ps) → AreInOrder (map deadline_of (due_at now ps))
due_in_order now [] a = tt
due_in_order now (p ∷ ps) a =
    elim (is_some (comes_due now p)) as (λ b. AreInOrder (map deadline_of (cond b (p ∷ due_at now ps) (due_at now ps))))
    [ true ↦ (at_most_due now p.touch.began ps a.0, due_in_order now ps a.1) | false ↦ due_in_order now ps a.1 ]
