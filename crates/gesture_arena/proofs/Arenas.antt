-- A step of what is stored is a moment more of what it stands for.
use Rattle.std.proofs.Common.{◌≡◌, refl, sym, ◌∙◌, ap, ℕ, ◌+◌, Bool, true, false, cond, ◌||◌, List, [], ◌∷◌, ◌++◌, map, Option, Some, None, count_by, nat_le}
use Rattle.std.specs.List.{list_any, find, fold}
use Rattle.std.specs.Option.{option_map, option_or, option_to_list}
use Rattle.fx_geom.specs.declared.scales.Scale.{Scale}
use Rattle.gesture_arena.specs.declared.gesture.Member.{Member}
use Rattle.gesture_arena.specs.declared.gesture.ArenaEvent.{ArenaEvent}
use Rattle.gesture_arena.specs.declared.moment.Decision.{Decision}
use Rattle.gesture_arena.specs.declared.tracked.Tracked.{Tracked}
use Rattle.gesture_arena.specs.declared.answers.Answers.{Answers}
use Rattle.gesture_arena.specs.declared.tracked.ArenaState.{ArenaState}
use Rattle.gesture_arena.specs.declared.tracked.ArenaState.TheVariants.{Open, Won}
use Rattle.gesture_arena.specs.declared.held.HeldPointer.{HeldPointer}
use Rattle.gesture_arena.specs.Moment.{Moment, Touch, Pointer, drops, is_up, is_due, was_dropped, point_after}
use Rattle.gesture_arena.specs.Own.{own_decision}
use Rattle.gesture_arena.specs.Winner.{is_living, is_accepting, is_deciding, winner_at, winner_of}
use Rattle.gesture_arena.specs.Effects.{told, decided, effect_of, events_at}
use Rattle.gesture_arena.specs.Pointers.{with_moment, turn_of}
use Rattle.gesture_arena.specs.Answering.{answered}
use Rattle.gesture_arena.specs.Settled.{has_accepted, is_alive, settled, first_of, arena_won, open_after, is_open}
use Rattle.gesture_arena.specs.Stored.{offset_of, stepped, arena_after, decided_in, effect_in, tracked_of, arena_of, members_now, Stands, StepsTo}
use Rattle.gesture_arena.proofs.Replay.{any-snoc, own-snoc, point_after-snoc, turn_at, winner_after, winner-snoc}

abbrev tracked_as : Member → Decision → Bool → Tracked
tracked_as m d b = record { node = m.node; gesture = m.gesture; decision = d; dropped = b }

-- a member
stepped-tracked : (s : Scale) (p : Touch) (ms : List Moment) (x : Moment) (m : Member)
    → stepped s p.from x (tracked_of s p ms m) ≡ tracked_of s p (ms ++ x ∷ []) m
stepped-tracked s p ms x m =
    ap (λ d. tracked_as m d (was_dropped m ms || drops x m)) (sym (own-snoc s p.from m ms x))
    ∙ ap (λ b. tracked_as m (own_decision s p.from m (ms ++ x ∷ [])) b) (sym (any-snoc (λ y. drops y m) ms x))

members-stepped : (s : Scale) (p : Touch) (ms : List Moment) (x : Moment) (members : List Member)
    → map (stepped s p.from x) (map (tracked_of s p ms) members) ≡ map (tracked_of s p (ms ++ x ∷ [])) members
members-stepped s p ms x [] = refl
members-stepped s p ms x (m ∷ members) =
    ap (λ t. t ∷ map (stepped s p.from x) (map (tracked_of s p ms) members)) (stepped-tracked s p ms x m)
    ∙ ap (λ ts. tracked_of s p (ms ++ x ∷ []) m ∷ ts) (members-stepped s p ms x members)

-- what the members come to
any-tracked : (s : Scale) (p : Touch) (ms : List Moment) (members : List Member)
    → list_any has_accepted (map (tracked_of s p ms) members) ≡ list_any (is_accepting s p ms) members
any-tracked s p ms [] = refl
any-tracked s p ms (m ∷ members) = ap (λ b. is_accepting s p ms m || b) (any-tracked s p ms members)

fold-map : {A B C : Type 0} (g : C → B → C) (f : A → B) (c : C) (xs : List A) → fold g c (map f xs) ≡ fold (λ a x. g a (f x)) c xs
fold-map g f c [] = refl
fold-map g f c (x ∷ xs) = fold-map g f (g c (f x)) xs

count-tracked : (s : Scale) (p : Touch) (ms : List Moment) (members : List Member)
    → count_by is_alive (map (tracked_of s p ms) members) ≡ count_by (is_living s p ms) members
count-tracked s p ms members = fold-map (λ (a : ℕ) (t : Tracked). a + cond (is_alive t) 1 0) (tracked_of s p ms) 0 members

find-map : {A B : Type 0} (q : B → Bool) (f : A → B) (xs : List A) → find q (map f xs) ≡ option_map f (find (λ x. q (f x)) xs)
find-map q f [] = refl
find-map q f (x ∷ xs) =
    elim (q (f x)) as (λ b. cond b (Some (f x)) (find q (map f xs)) ≡ option_map f (cond b (Some x) (find (λ x. q (f x)) xs)))
    [ true ↦ refl | false ↦ find-map q f xs ]

or-map : {A B : Type 0} (f : A → B) (o q : Option A) → option_or (option_map f o) (option_map f q) ≡ option_map f (option_or o q)
or-map f None q = refl
or-map f (Some x) q = refl

first-tracked : (s : Scale) (p : Touch) (ms : List Moment) (x : Moment)
    → first_of (map (tracked_of s p (ms ++ x ∷ [])) p.members) ≡ option_map (tracked_of s p (ms ++ x ∷ [])) (winner_at s p (turn_at ms x))
first-tracked s p ms x =
    let f : Member → Tracked = tracked_of s p (ms ++ x ∷ []) in
    ap (λ o. option_or o (find is_alive (map f p.members))) (find-map has_accepted f p.members)
    ∙ ap (λ o. option_or (option_map f (find (is_accepting s p (ms ++ x ∷ [])) p.members)) o) (find-map is_alive f p.members)
    ∙ or-map f (find (is_accepting s p (ms ++ x ∷ [])) p.members) (find (is_living s p (ms ++ x ∷ [])) p.members)

settled-tracked : (s : Scale) (p : Touch) (ms : List Moment) (x : Moment)
    → settled (map (tracked_of s p (ms ++ x ∷ [])) p.members) (is_up x) ≡ is_deciding s p (turn_at ms x)
settled-tracked s p ms x =
    ap (λ b. b || nat_le (count_by is_alive (map (tracked_of s p (ms ++ x ∷ [])) p.members)) 1 || is_up x) (any-tracked s p (ms ++ x ∷ []) p.members)
    ∙ ap (λ n. list_any (is_accepting s p (ms ++ x ∷ [])) p.members || nat_le n 1 || is_up x) (count-tracked s p (ms ++ x ∷ []) p.members)

-- the arena
won-arena : (s : Scale) (p : Touch) (ms : List Moment) (o : Option Member) → arena_won (option_map (tracked_of s p ms) o) ≡ arena_of s p ms (Some o)
won-arena s p ms None = refl
won-arena s p ms (Some m) = refl

cond-arena : (s : Scale) (p : Touch) (ms : List Moment) (o : Option Member) (b : Bool)
    → cond b (arena_of s p ms (Some o)) Open ≡ arena_of s p ms (cond b (Some o) None)
cond-arena s p ms o true = refl
cond-arena s p ms o false = refl

open-arena : (s : Scale) (p : Touch) (ms : List Moment) (x : Moment)
    → open_after (map (tracked_of s p (ms ++ x ∷ [])) p.members) (is_up x)
    ≡ arena_of s p (ms ++ x ∷ []) (cond (is_deciding s p (turn_at ms x)) (Some (winner_at s p (turn_at ms x))) None)
open-arena s p ms x =
    ap (λ b. cond b (arena_won (first_of (map (tracked_of s p (ms ++ x ∷ [])) p.members))) Open) (settled-tracked s p ms x)
    ∙ ap (λ o. cond (is_deciding s p (turn_at ms x)) (arena_won o) Open) (first-tracked s p ms x)
    ∙ ap (λ a. cond (is_deciding s p (turn_at ms x)) a Open) (won-arena s p (ms ++ x ∷ []) (winner_at s p (turn_at ms x)))
    ∙ cond-arena s p (ms ++ x ∷ []) (winner_at s p (turn_at ms x)) (is_deciding s p (turn_at ms x))

arena-stepped : (s : Scale) (p : Touch) (ms : List Moment) (x : Moment) (w : Option (Option Member))
    → arena_after s p.from x (is_up x) (map (tracked_of s p (ms ++ x ∷ [])) p.members) (arena_of s p ms w)
    ≡ arena_of s p (ms ++ x ∷ []) (winner_after s p (turn_at ms x) w)
arena-stepped s p ms x None = open-arena s p ms x
arena-stepped s p ms x (Some None) = refl
arena-stepped s p ms x (Some (Some m)) = ap Won (stepped-tracked s p ms x m)

-- the whole of what is stored of a pointer
pub stands_more : (s : Scale) (x : Moment) (h g : HeldPointer) (p : Pointer) → StepsTo s x h g → Stands s h p → Stands s g (with_moment p x)
stands_more s x h g p st sd =
    let ms : List Moment = p.moments in
    let from : offset_of h.from ≡ p.touch.from = sd.from in
    let members : members_now g ≡ map (tracked_of s p.touch (ms ++ x ∷ [])) p.touch.members =
    st.members ∙ ap (λ f. map (stepped s f x) (members_now h)) from ∙ ap (map (stepped s p.touch.from x)) sd.members
    ∙ members-stepped s p.touch ms x p.touch.members
    in
    record {
      number = st.number ∙ sd.number;
      from = ap offset_of st.from ∙ sd.from;
      last = st.last ∙ ap (λ f. point_after f (x ∷ [])) sd.last ∙ sym (point_after-snoc p.touch.from ms x);
      began = st.began ∙ sd.began;
      is_due = st.is_due ∙ ap (λ b. b || is_due x) sd.is_due ∙ sym (any-snoc is_due ms x);
      members = members;
      arena = st.arena
          ∙ ap (λ f. arena_after s f x (is_up x) (members_now g) h.arena) from
          ∙ ap (λ ts. arena_after s p.touch.from x (is_up x) ts h.arena) members
          ∙ ap (λ a. arena_after s p.touch.from x (is_up x) (map (tracked_of s p.touch (ms ++ x ∷ [])) p.touch.members) a) sd.arena
          ∙ arena-stepped s p.touch ms x (winner_of s p.touch ms)
          ∙ ap (arena_of s p.touch (ms ++ x ∷ [])) (sym (winner-snoc s p.touch ms x));
    }

-- what comes out of it
told-in : (s : Scale) (p : Touch) (number : ℕ) (ms ns : List Moment) (members : List Member) (w v : Option (Option Member))
    → p.members ≡ members → number ≡ p.number
    → decided_in number (map (tracked_of s p ms) members) (arena_of s p ms w) (arena_of s p ns v) ≡ decided p w v
told-in s p number ms ns [] None None e n = refl
told-in s p number ms ns [] None (Some o) e n = sym (ap (λ l. told p.number l o) e)
told-in s p number ms ns [] (Some None) v e n = refl
told-in s p number ms ns [] (Some (Some m)) v e n = refl
told-in s p number ms ns (m ∷ l) None None e n = refl
told-in s p number ms ns (m ∷ l) None (Some None) e n = ap (λ k. told k (m ∷ l) None) n ∙ sym (ap (λ l. told p.number l None) e)
told-in s p number ms ns (m ∷ l) None (Some (Some w)) e n = ap (λ k. told k (m ∷ l) (Some w)) n ∙ sym (ap (λ l. told p.number l (Some w)) e)
told-in s p number ms ns (m ∷ l) (Some None) v e n = refl
told-in s p number ms ns (m ∷ l) (Some (Some w)) v e n = refl

-- what is told of a decision, by other members of the same number
decided_by : (number : ℕ) (f : Tracked → Tracked) (ts : List Tracked) (before after : ArenaState) → decided_in number ts before after ≡ decided_in number (map f ts) before after
decided_by number f [] before after = refl
decided_by number f (t ∷ ts) before after = refl

pub decided_same : (number : ℕ) (a b : Answers) (f : Tracked → Tracked) (ts us : List Tracked) (before after : ArenaState)
    → map (answered b) us ≡ map f (map (answered a) ts) → decided_in number us before after ≡ decided_in number ts before after
decided_same number a b f ts us before after e =
    decided_by number (answered b) us before after ∙ ap (λ l. decided_in number l before after) e
    ∙ sym (decided_by number f (map (answered a) ts) before after) ∙ sym (decided_by number (answered a) ts before after)

effect-in : (s : Scale) (p : Touch) (ms : List Moment) (x : Moment) (w v : Option (Option Member))
    → effect_in (is_open (arena_of s p ms w)) (arena_of s p (ms ++ x ∷ []) v) (point_after p.from ms) x ≡ effect_of s p (turn_at ms x) w v
effect-in s p ms x None None = refl
effect-in s p ms x None (Some None) = refl
effect-in s p ms x None (Some (Some m)) = refl
effect-in s p ms x (Some None) None = refl
effect-in s p ms x (Some None) (Some None) = refl
effect-in s p ms x (Some None) (Some (Some m)) = refl
effect-in s p ms x (Some (Some n)) None = refl
effect-in s p ms x (Some (Some n)) (Some None) = refl
effect-in s p ms x (Some (Some n)) (Some (Some m)) = refl

pub events_more : (s : Scale) (x : Moment) (h g : HeldPointer) (p : Pointer) (a b : Option ArenaEvent) → StepsTo s x h g → Stands s h p
    → a ≡ decided_in h.number h.members.items h.arena g.arena
    → b ≡ effect_in (is_open h.arena) g.arena (offset_of h.last) x
    → option_to_list a ++ option_to_list b ≡ events_at s p.touch (turn_of p x)
events_more s x h g p a b st sd ea eb =
    let ms : List Moment = p.moments in
    let w : Option (Option Member) = winner_of s p.touch ms in
    let v : Option (Option Member) = winner_of s p.touch (ms ++ x ∷ []) in
    let to : Stands s g (with_moment p x) = stands_more s x h g p st sd in
    let first : a ≡ decided p.touch w v =
    ea ∙ decided_by h.number (answered h.answers) h.members.items h.arena g.arena
    ∙ ap (λ t. decided_in h.number t h.arena g.arena) sd.members
    ∙ ap (λ t. decided_in h.number (map (tracked_of s p.touch ms) p.touch.members) t g.arena) sd.arena
    ∙ ap (λ t. decided_in h.number (map (tracked_of s p.touch ms) p.touch.members) (arena_of s p.touch ms w) t) to.arena
    ∙ told-in s p.touch h.number ms (ms ++ x ∷ []) p.touch.members w v refl sd.number
    in
    let second : b ≡ effect_of s p.touch (turn_of p x) w v =
    eb ∙ ap (λ t. effect_in (is_open t) g.arena (offset_of h.last) x) sd.arena
    ∙ ap (λ t. effect_in (is_open (arena_of s p.touch ms w)) t (offset_of h.last) x) to.arena
    ∙ ap (λ t. effect_in (is_open (arena_of s p.touch ms w)) (arena_of s p.touch (ms ++ x ∷ []) v) t x) sd.last
    ∙ effect-in s p.touch ms x w v
    in
    ap (λ t. option_to_list t ++ option_to_list b) first ∙ ap (λ t. option_to_list (decided p.touch w v) ++ option_to_list t) second
