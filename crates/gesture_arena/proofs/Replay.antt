-- What a moment more adds to what the definitions say of the moments before it.
use Rattle.std.proofs.Common.{◌≡◌, refl, sym, ◌∙◌, ap, Bool, true, false, cond, ◌||◌, List, [], ◌∷◌, ◌++◌, map, append_assoc, append-nil, Option, Some, None}
use Rattle.std.specs.List.{list_any, find}
use Rattle.std.specs.Option.{option_map, option_or}
use Rattle.fx_geom.specs.declared.shapes.Offset.{Offset}
use Rattle.fx_geom.specs.declared.scales.Scale.{Scale}
use Rattle.gesture_arena.specs.declared.gesture.Member.{Member}
use Rattle.gesture_arena.specs.declared.moment.Decision.{Decision}
use Rattle.gesture_arena.specs.declared.moment.Decision.TheVariants.{Waits, Rejects, Accepts}
use Rattle.gesture_arena.specs.Moment.{Moment, down, move, up, cancel, due, dropped, Touch, Turn, turns_after, turns, point_after}
use Rattle.gesture_arena.specs.Own.{says, own_decision, first_decision}
use Rattle.gesture_arena.specs.Winner.{is_deciding, winner_at, winner_of}
use Rattle.gesture_arena.specs.Settled.{decision_after}

or-false : (b : Bool) → (b || false) ≡ b
or-false true = refl
or-false false = refl

or-assoc : (a b c : Bool) → (a || (b || c)) ≡ ((a || b) || c)
or-assoc true b c = refl
or-assoc false b c = refl

pub any-snoc : {A : Type 0} (p : A → Bool) (xs : List A) (x : A) → list_any p (xs ++ x ∷ []) ≡ (list_any p xs || p x)
any-snoc p [] x = or-false (p x)
any-snoc p (y ∷ ys) x = ap (λ b. p y || b) (any-snoc p ys x) ∙ or-assoc (p y) (list_any p ys) (p x)

map-snoc : {A B : Type 0} (f : A → B) (xs : List A) (x : A) → map f (xs ++ x ∷ []) ≡ map f xs ++ f x ∷ []
map-snoc f [] x = refl
map-snoc f (y ∷ ys) x = ap (λ t. f y ∷ t) (map-snoc f ys x)

first_decision-snoc : (ds : List Decision) (d : Decision) → first_decision (ds ++ d ∷ []) ≡ decision_after (first_decision ds) d
first_decision-snoc [] Waits = refl
first_decision-snoc [] Rejects = refl
first_decision-snoc [] Accepts = refl
first_decision-snoc (Waits ∷ ds) d = first_decision-snoc ds d
first_decision-snoc (Rejects ∷ ds) d = refl
first_decision-snoc (Accepts ∷ ds) d = refl

pub own-snoc : (s : Scale) (from : Offset) (m : Member) (ms : List Moment) (x : Moment)
    → own_decision s from m (ms ++ x ∷ []) ≡ decision_after (own_decision s from m ms) (says s from m x)
own-snoc s from m ms x =
    ap first_decision (map-snoc (says s from m) ms x) ∙ first_decision-snoc (map (says s from m) ms) (says s from m x)

pub point_after-snoc : (at : Offset) (ms : List Moment) (x : Moment) → point_after at (ms ++ x ∷ []) ≡ point_after (point_after at ms) (x ∷ [])
point_after-snoc at [] x = refl
point_after-snoc at (move to ∷ ms) x = point_after-snoc to ms x
point_after-snoc at (down ∷ ms) x = point_after-snoc at ms x
point_after-snoc at (up ∷ ms) x = point_after-snoc at ms x
point_after-snoc at (cancel ∷ ms) x = point_after-snoc at ms x
point_after-snoc at (due ∷ ms) x = point_after-snoc at ms x
point_after-snoc at (dropped gone ∷ ms) x = point_after-snoc at ms x

abbrev pub turn_at : List Moment → Moment → Turn
turn_at past x = record { past = past; moment = x }

pub turns-snoc : (past ms : List Moment) (x : Moment) → turns_after past (ms ++ x ∷ []) ≡ turns_after past ms ++ turn_at (past ++ ms) x ∷ []
turns-snoc past [] x = ap (λ q. turn_at q x ∷ []) (sym (append-nil past))
turns-snoc past (y ∷ ys) x =
    ap (λ ts. turn_at past y ∷ ts)
    (turns-snoc (past ++ y ∷ []) ys x ∙ ap (λ q. turns_after (past ++ y ∷ []) ys ++ turn_at q x ∷ []) (append_assoc past (y ∷ []) ys))

find-snoc : {A : Type 0} (p : A → Bool) (xs : List A) (x : A) → find p (xs ++ x ∷ []) ≡ option_or (find p xs) (cond (p x) (Some x) None)
find-snoc p [] x = refl
find-snoc p (y ∷ ys) x =
    elim (p y) as (λ b. cond b (Some y) (find p (ys ++ x ∷ [])) ≡ option_or (cond b (Some y) (find p ys)) (cond (p x) (Some x) None))
    [ true ↦ refl | false ↦ find-snoc p ys x ]

-- the winner with one turn more
abbrev pub winner_after : Scale → Touch → Turn → Option (Option Member) → Option (Option Member)
winner_after s p t None = cond (is_deciding s p t) (Some (winner_at s p t)) None
winner_after s p t (Some w) = Some w

winner_or : (s : Scale) (p : Touch) (t : Turn) (o : Option Turn)
    → option_map (winner_at s p) (option_or o (cond (is_deciding s p t) (Some t) None)) ≡ winner_after s p t (option_map (winner_at s p) o)
winner_or s p t None =
    elim (is_deciding s p t) as (λ b. option_map (winner_at s p) (cond b (Some t) None) ≡ cond b (Some (winner_at s p t)) None) [ true ↦ refl | false ↦ refl ]
winner_or s p t (Some u) = refl

pub winner-snoc : (s : Scale) (p : Touch) (ms : List Moment) (x : Moment)
    → winner_of s p (ms ++ x ∷ []) ≡ winner_after s p (turn_at ms x) (winner_of s p ms)
winner-snoc s p ms x =
    ap (λ ts. option_map (winner_at s p) (find (is_deciding s p) ts)) (turns-snoc [] ms x)
    ∙ ap (option_map (winner_at s p)) (find-snoc (is_deciding s p) (turns ms) (turn_at ms x))
    ∙ winner_or s p (turn_at ms x) (find (is_deciding s p) (turns ms))
