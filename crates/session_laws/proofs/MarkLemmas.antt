-- What a command that is done marks and touches.
use Rattle.std.proofs.Common.{◌≡◌, ℕ, ◌==◌, ℤ, pos, Bool, true, false, Option, Some, None, option_map, List, [], ◌∷◌, ◌++◌, append-nil, append_assoc, refl, sym, ap, subst, ◌∙◌, if◌then◌else◌}
use Rattle.std.specs.Option.{option_or, option_to_list}
use Rattle.fx_expr.specs.declared.handlers.Handler.{Handler}
use Rattle.fx_expr.specs.declared.values.Value.{Value}
use Rattle.fx_geom.specs.declared.scales.Scale.{Scale}
use Rattle.fx_geom.specs.declared.shapes.Offset.{Offset}
use Rattle.gesture_arena.specs.Effects.{told, decided, drags, acts, effect_of, is_undecided, events_at}
use Rattle.gesture_arena.specs.Moment.{Moment, Pointer, Touch, Turn, seen, dropped, was_dropped, point_after}
use Rattle.gesture_arena.specs.Own.{own_decision, lives}
use Rattle.gesture_arena.specs.Pointers.{loses, turn_of, events_met, events_of}
use Rattle.gesture_arena.specs.Winner.{winner_of}
use Rattle.gesture_arena.specs.declared.gesture.ArenaEvent.{ArenaEvent}
use Rattle.gesture_arena.specs.declared.gesture.ArenaEvent.TheVariants as event
use Rattle.gesture_arena.specs.declared.gesture.Gesture.{Gesture}
use Rattle.gesture_arena.specs.declared.gesture.Gesture.TheVariants as gesture
use Rattle.gesture_arena.specs.declared.gesture.Member.{Member}
use Rattle.plain_tree.specs.At.{node_at, node_in, is_there, changed_at, changed_in, having_fields}
use Rattle.plain_tree.specs.PlainNode.{PlainNode, node, PlainNodes, no_nodes, more_nodes, widget_of, fields_of}
use Rattle.widget_model.specs.Look.{Look}
use Rattle.widget_model.specs.Plain.{look_of}
use Rattle.screen_form.specs.Members.{handler_in}
use Rattle.session_form.specs.Handlers.{handler_of_node, handler_at, set_by, handled_by, after_event, after_events}
use Rattle.session_form.specs.State.{SessionState}
use Rattle.session_laws.specs.Marks.{owner_of, marked_by, all_marked_by}
use Rattle.fx_expr.specs.Sets.{fields_after}

-- ---- events that run no handler

abbrev pub IsQuiet : ArenaEvent → Type 0
IsQuiet (event.Won pointer n g) = Unit {0}
IsQuiet (event.Nobody pointer) = Unit {0}
IsQuiet (event.Tap n) = ⊥
IsQuiet (event.Long n) = ⊥
IsQuiet (event.Start n g) = Unit {0}
IsQuiet (event.Update n g dx dy) = ⊥
IsQuiet (event.End n g) = Unit {0}

abbrev pub AreQuiet : List ArenaEvent → Type 0
AreQuiet [] = Unit {0}
AreQuiet (e ∷ es) = IsQuiet e × AreQuiet es

abbrev MayBeQuiet : Option ArenaEvent → Type 0
MayBeQuiet None = Unit {0}
MayBeQuiet (Some e) = IsQuiet e

quiet_list : (o : Option ArenaEvent) → MayBeQuiet o → AreQuiet (option_to_list o)
quiet_list None h = tt
quiet_list (Some e) h = (h, tt)

quiet_both : (xs ys : List ArenaEvent) → AreQuiet xs → AreQuiet ys → AreQuiet (xs ++ ys)
quiet_both [] ys h k = k
quiet_both (x ∷ xs) ys h k = (h.0, quiet_both xs ys h.1 k)

one_quiet : (e : ArenaEvent) (s : SessionState) → IsQuiet e → after_event e s ≡ s
one_quiet (event.Won pointer n g) s h = refl
one_quiet (event.Nobody pointer) s h = refl
one_quiet (event.Tap n) s h = absurd h
one_quiet (event.Long n) s h = absurd h
one_quiet (event.Start n g) s h = refl
one_quiet (event.Update n g dx dy) s h = absurd h
one_quiet (event.End n g) s h = refl

pub all_quiet : (es : List ArenaEvent) (s : SessionState) → AreQuiet es → after_events es s ≡ s
all_quiet [] s h = refl
all_quiet (e ∷ es) s h = ap (after_events es) (one_quiet e s h.0) ∙ all_quiet es s h.1

-- ---- those of a drop are

told_quiet : (number : ℕ) (ms : List Member) (w : Option Member) → MayBeQuiet (told number ms w)
told_quiet number [] w = tt
told_quiet number (m ∷ ms) None = tt
told_quiet number (m ∷ ms) (Some w) = tt

decided_quiet : (p : Touch) (before now : Option (Option Member)) → MayBeQuiet (decided p before now)
decided_quiet p None (Some w) = told_quiet p.number p.members w
decided_quiet p None None = tt
decided_quiet p (Some w) now = tt

drags_quiet : (new : Bool) (m : Member) (x : Moment) (gone : List Member) → x ≡ dropped gone → (at : Offset) → MayBeQuiet (drags new m at x)
drags_quiet true m x gone is at = tt
drags_quiet false m x gone is at = subst (λ y. MayBeQuiet (drags false m at y)) (sym is) tt

acts_quiet : (g : Gesture) (alive new : Bool) (m : Member) (at : Offset) (gone : List Member) → MayBeQuiet (acts g alive new m at (dropped gone))
acts_quiet gesture.Tap alive new m at gone = tt
acts_quiet gesture.Long alive new m at gone = tt
acts_quiet gesture.Vertical alive new m at gone = drags_quiet new m (dropped gone) gone refl at
acts_quiet gesture.Horizontal alive new m at gone = drags_quiet new m (dropped gone) gone refl at
acts_quiet gesture.Pan alive new m at gone = drags_quiet new m (dropped gone) gone refl at

unless_quiet : (b : Bool) (o : Option ArenaEvent) → MayBeQuiet o → MayBeQuiet (if b then None else o)
unless_quiet true o h = tt
unless_quiet false o h = h

effect_quiet : (s : Scale) (p : Touch) (t : Turn) (gone : List Member) (before now : Option (Option Member)) → t.moment ≡ dropped gone → MayBeQuiet (effect_of s p t before now)
effect_quiet s p t gone before (Some (Some m)) is =
    let alive = lives (own_decision s p.from m (seen t)) in
    let at = point_after p.from t.past in
    unless_quiet (was_dropped m (seen t)) (acts m.gesture alive (is_undecided before) m at t.moment)
    (subst (λ x. MayBeQuiet (acts m.gesture alive (is_undecided before) m at x)) (sym is) (acts_quiet m.gesture alive (is_undecided before) m at gone))
effect_quiet s p t gone before (Some None) is = tt
effect_quiet s p t gone before None is = tt

drop_quiet : (s : Scale) (p : Touch) (t : Turn) (gone : List Member) → t.moment ≡ dropped gone → AreQuiet (events_at s p t)
drop_quiet s p t gone is =
    let before = winner_of s p t.past in
    let now = winner_of s p (seen t) in
    quiet_both (option_to_list (decided p before now)) (option_to_list (effect_of s p t before now)) (quiet_list (decided p before now) (decided_quiet p before now))
    (quiet_list (effect_of s p t before now) (effect_quiet s p t gone before now is))

lost_quiet : (s : Scale) (p : Pointer) (gone : List Member) (b : Bool) → AreQuiet (events_met s p (if b then Some (dropped gone) else None))
lost_quiet s p gone true = drop_quiet s p.touch (turn_of p (dropped gone)) gone refl
lost_quiet s p gone false = tt

pub drops_quiet : (s : Scale) (gone : List Member) (ps : List Pointer) → AreQuiet (events_of s (loses gone) ps)
drops_quiet s gone [] = tt
drops_quiet s gone (p ∷ ps) = quiet_both (events_met s p (loses gone p)) (events_of s (loses gone) ps) (lost_quiet s p gone _) (drops_quiet s gone ps)

-- ---- handlers stay where fields change

abbrev looks : Option PlainNode → Option Look
looks o = option_map (λ n. look_of (widget_of n)) o

looks_or : (a b c d : Option PlainNode) → looks a ≡ looks b → looks c ≡ looks d → looks (option_or a c) ≡ looks (option_or b d)
looks_or None None c d e k = k
looks_or None (Some y) c d e k = cc
looks_or (Some x) None c d e k = cc
looks_or (Some x) (Some y) c d e k = e

by_own : (b : Bool) (m n : PlainNode) (o p : Option PlainNode) → look_of (widget_of m) ≡ look_of (widget_of n) → looks o ≡ looks p
    → looks (if b then Some m else o) ≡ looks (if b then Some n else p)
by_own true m n o p e k = ap Some e
by_own false m n o p e k = k

by_change : (b : Bool) (k : ℕ) (x y t : PlainNode) → looks (node_at k x) ≡ looks (node_at k t) → looks (node_at k y) ≡ looks (node_at k t)
    → looks (node_at k (if b then x else y)) ≡ looks (node_at k t)
by_change true k x y t e h = e
by_change false k x y t e h = h

by_list : (b : Bool) (k : ℕ) (xs ys ts : PlainNodes) → looks (node_in k xs) ≡ looks (node_in k ts) → looks (node_in k ys) ≡ looks (node_in k ts)
    → looks (node_in k (if b then xs else ys)) ≡ looks (node_in k ts)
by_list true k xs ys ts e h = e
by_list false k xs ys ts e h = h

module _ (g : PlainNode → List Value) (w k : ℕ) where
  abbrev other : PlainNode → PlainNode
  other m = having_fields (g m) m

  mutual
    looks_same : (t : PlainNode) → looks (node_at k (changed_at other w t)) ≡ looks (node_at k t)
    looks_same (node n wd f s i ns) =
        let t = node n wd f s i ns in
        let inner = node n wd f s i (changed_in other w ns) in
        by_change (n == w) k (other t) inner t
        (by_own (n == k) (other t) t (node_in k ns) (node_in k ns) refl refl)
        (by_own (n == k) inner t (node_in k (changed_in other w ns)) (node_in k ns) refl (looks_same_in ns))

    looks_same_in : (ns : PlainNodes) → looks (node_in k (changed_in other w ns)) ≡ looks (node_in k ns)
    looks_same_in no_nodes = refl
    looks_same_in (more_nodes n ns) =
        by_list (is_there w n) k (more_nodes (changed_at other w n) ns) (more_nodes n (changed_in other w ns)) (more_nodes n ns)
        (looks_or (node_at k (changed_at other w n)) (node_at k n) (node_in k ns) (node_in k ns) (looks_same n) refl)
        (looks_or (node_at k n) (node_at k n) (node_in k (changed_in other w ns)) (node_in k ns) refl (looks_same_in ns))

abbrev handler_by_look : Option Look → Gesture → Option Handler
handler_by_look None g = None
handler_by_look (Some l) g = handler_in l g

handler_is : (o : Option PlainNode) (g : Gesture) → handler_of_node o g ≡ handler_by_look (looks o) g
handler_is None g = refl
handler_is (Some n) g = refl

-- two trees have the same handlers
abbrev HandleAlike : Option PlainNode → Option PlainNode → Type 0
HandleAlike a b = (k : ℕ) (g : Gesture) → handler_at a k g ≡ handler_at b k g

handlers_stay : (tree : Option PlainNode) (h : Handler) (dx dy : ℤ) → HandleAlike (option_map (changed_at (set_by h dx dy) h.owner) tree) tree
handlers_stay None h dx dy k g = refl
handlers_stay (Some t) h dx dy k g =
    handler_is (node_at k (changed_at (set_by h dx dy) h.owner t)) g
    ∙ ap (λ o. handler_by_look o g) (looks_same (λ m. fields_after h.sets (fields_of m) dx dy) h.owner k t)
    ∙ sym (handler_is (node_at k t) g)

-- ---- what events mark

-- a state after events: what it marks more, and that it touches the same and has the same handlers
pub record Marked (s next : SessionState) (more : List ℕ) : Type 0 where
  pub marks : next.marks ≡ s.marks ++ more
  pub touched : next.touched ≡ s.touched
  pub handlers : HandleAlike next.tree s.tree

nothing_marked : (s : SessionState) → Marked s s []
nothing_marked s = record { marks = sym (append-nil s.marks); touched = refl; handlers = λ k g. refl }

owner_marked : (b : Bool) (s : SessionState) (h : Handler) (dx dy : ℤ)
    → Marked s (if b then s else record s { tree = option_map (changed_at (set_by h dx dy) h.owner) s.tree; marks = s.marks ++ h.owner ∷ [] }) (if b then [] else h.owner ∷ [])
owner_marked true s h dx dy = nothing_marked s
owner_marked false s h dx dy = record { marks = refl; touched = refl; handlers = handlers_stay s.tree h dx dy }

handler_marked : (o : Option Handler) (s : SessionState) (dx dy : ℤ) → Marked s (handled_by o dx dy s) (owner_of o)
handler_marked None s dx dy = nothing_marked s
handler_marked (Some h) s dx dy = owner_marked (h.owner == 0) s h dx dy

event_marked : (e : ArenaEvent) (s : SessionState) → Marked s (after_event e s) (marked_by s.tree e)
event_marked (event.Won pointer n g) s = nothing_marked s
event_marked (event.Nobody pointer) s = nothing_marked s
event_marked (event.Tap n) s = handler_marked (handler_at s.tree n gesture.Tap) s (pos 0) (pos 0)
event_marked (event.Long n) s = handler_marked (handler_at s.tree n gesture.Long) s (pos 0) (pos 0)
event_marked (event.Start n g) s = nothing_marked s
event_marked (event.Update n g dx dy) s = handler_marked (handler_at s.tree n g) s dx dy
event_marked (event.End n g) s = nothing_marked s

same_mark : (e : ArenaEvent) (a b : Option PlainNode) → HandleAlike a b → marked_by a e ≡ marked_by b e
same_mark (event.Won pointer n g) a b h = refl
same_mark (event.Nobody pointer) a b h = refl
same_mark (event.Tap n) a b h = ap owner_of (h n gesture.Tap)
same_mark (event.Long n) a b h = ap owner_of (h n gesture.Long)
same_mark (event.Start n g) a b h = refl
same_mark (event.Update n g dx dy) a b h = ap owner_of (h n g)
same_mark (event.End n g) a b h = refl

same_marks : (es : List ArenaEvent) (a b : Option PlainNode) → HandleAlike a b → all_marked_by a es ≡ all_marked_by b es
same_marks [] a b h = refl
same_marks (e ∷ es) a b h = λ i. same_mark e a b h i ++ same_marks es a b h i

pub events_marked : (es : List ArenaEvent) (s : SessionState) → Marked s (after_events es s) (all_marked_by s.tree es)
events_marked [] s = nothing_marked s
events_marked (e ∷ es) s =
    let now = after_event e s in
    let one = event_marked e s in
    let others = events_marked es now in
    record {
      marks = others.marks ∙ ap (λ l. l ++ all_marked_by now.tree es) one.marks ∙ append_assoc s.marks (marked_by s.tree e) (all_marked_by now.tree es)
          ∙ ap (λ l. s.marks ++ (marked_by s.tree e ++ l)) (same_marks es now.tree s.tree one.handlers);
      touched = others.touched ∙ one.touched;
      handlers = λ k g. others.handlers k g ∙ one.handlers k g;
    }
