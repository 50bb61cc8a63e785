-- Lists that a loop fills from another one, element by element: what is filled so far, and then f of what is left, is the whole.
use Rattle.std.proofs.Common.{◌≡◌, ap, refl, sym, ◌∙◌, ℕ, zero, suc, ◌+◌, ◌<◌, ◌≤◌, Bool, true, false, ◌||◌, Result, Ok, Err, IfOk, Option, Some, None, option_map, List, [], ◌∷◌, ◌++◌, length, map, drop, get_or, arith}
use Rattle.std.proofs.lemmas.List.{append_assoc, append-nil, at_drop_more, at_drop_all}
use Rattle.fx_handles.specs.declared.Handle.{Handle}
use Rattle.node_tree.specs.Tree.{Tree}
use Rattle.plain_tree.specs.declared.laid.Frame.{Frame}
use Rattle.layout_form.specs.declared.asks.Ask.{Ask}
use Rattle.layout_form.specs.Framed.{last_ask, last_asks}
use Rattle.render_tree.specs.Object.{RenderObject}
use Rattle.layout_walk.specs.Node.{frame_or}
use Rattle.layout_walk.specs.Rule.{ask_of, later}
use Rattle.layout_rules.specs.Reads.{state_at, frames_at, marks_at}

pub fills_start : {X Y : Type 0} (f : List X → List Y) (xs : List X) (before : List Y) → before ≡ [] → before ++ f xs ≡ f xs
fills_start {X} {Y} f xs before none = ap (λ (ys : List Y). ys ++ f xs) none

fills_on : {X Y : Type 0} (f g : List X → List Y) (xs : List X) (i : ℕ) (z : X) (here before after whole : List Y) → i < length xs
    → f (get_or xs i z ∷ drop (i + 1) xs) ≡ here ++ g (drop (i + 1) xs) → after ≡ before ++ here → before ++ f (drop i xs) ≡ whole
    → after ++ g (drop (i + 1) xs) ≡ whole
fills_on {X} {Y} f g xs i z here before after whole h course pushed same =
    ap (λ (ys : List Y). ys ++ g (drop (i + 1) xs)) pushed
    ∙ append_assoc before here (g (drop (i + 1) xs))
    ∙ ap (λ (ys : List Y). before ++ ys) (sym course ∙ sym (at_drop_more f xs i z h))
    ∙ same

pub fills_over : {X Y : Type 0} (f : List X → List Y) (xs : List X) (i : ℕ) (before whole : List Y) → f [] ≡ [] → length xs ≤ i
    → before ++ f (drop i xs) ≡ whole → before ≡ whole
fills_over {X} {Y} f xs i before whole none h same =
    sym (append-nil before) ∙ ap (λ (ys : List Y). before ++ ys) (sym (at_drop_all f xs i h ∙ none)) ∙ same

-- each element by itself
pub maps_on : {X Y : Type 0} (f : X → Y) (xs : List X) (i : ℕ) (z : X) (y : Y) (before after whole : List Y) → i < length xs → after ≡ before ++ y ∷ []
    → y ≡ f (get_or xs i z) → before ++ map f (drop i xs) ≡ whole → after ++ map f (drop (i + 1) xs) ≡ whole
maps_on {X} {Y} f xs i z y before after whole h pushed is same =
    fills_on (map f) (map f) xs i z (y ∷ []) before after whole h (ap (λ (w : Y). w ∷ map f (drop (i + 1) xs)) (sym is)) pushed same

-- ---- beside a list of asks

pub ask_drop : (asks : List (Option Ask)) (i : ℕ) → ask_of (drop i asks) ≡ get_or asks i None
ask_drop [] zero = refl
ask_drop [] (suc i) = refl
ask_drop (ask ∷ asks) zero = refl
ask_drop (ask ∷ asks) (suc i) = ask_drop asks i

pub later_drop : (asks : List (Option Ask)) (i : ℕ) → later (drop i asks) ≡ drop (suc i) asks
later_drop [] zero = refl
later_drop [] (suc i) = refl
later_drop (ask ∷ asks) zero = refl
later_drop (ask ∷ asks) (suc i) = later_drop asks i

pub frames_on : (t : Tree RenderObject) (asks : List (Option Ask)) (hs : List Handle) (i : ℕ) (z : Handle) (f : Option Frame) (before after whole : List (Option Frame)) → i < length hs
    → after ≡ before ++ f ∷ [] → f ≡ option_map (λ (ask : Ask). frame_or (state_at t (get_or hs i z)).frame) (get_or asks i None)
    → before ++ frames_at t (drop i asks) (drop i hs) ≡ whole → after ++ frames_at t (drop (i + 1) asks) (drop (i + 1) hs) ≡ whole
frames_on t asks hs i z f before after whole less pushed is same =
    fills_on (λ (ks : List Handle). frames_at t (drop i asks) ks) (λ (ks : List Handle). frames_at t (drop (i + 1) asks) ks) hs i z (f ∷ []) before after whole less
    (ap (λ (o : Option Ask). option_map (λ (ask : Ask). frame_or (state_at t (get_or hs i z)).frame) o ∷ frames_at t (later (drop i asks)) (drop (i + 1) hs)) (ask_drop asks i)
    ∙ ap (λ (o : Option Frame). o ∷ frames_at t (later (drop i asks)) (drop (i + 1) hs)) (sym is)
    ∙ ap (λ (xs : List (Option Ask)). f ∷ frames_at t xs (drop (i + 1) hs)) (later_drop asks i ∙ ap (λ (n : ℕ). drop n asks) (let e : suc i ≡ i + 1 = omega arith in e)))
    pushed same

pub frames_one : (t : Tree RenderObject) (asks : List (Option Ask)) (hs ks : List Handle) (z : Handle) (ask : Option Ask) (f : Option Frame) → 1 ≤ length hs → length hs < 2 → hs ≡ ks → ask ≡ get_or asks 0 None
    → f ≡ option_map (λ (a : Ask). frame_or (state_at t (get_or hs 0 z)).frame) ask → f ∷ [] ≡ frames_at t asks ks
frames_one t asks [] ks z ask f some few same asked is = absurd (omega (arith, some))
frames_one t asks (h ∷ i ∷ hs) ks z ask f some few same asked is = absurd (omega (arith, few))
frames_one t asks (h ∷ []) ks z ask f some few same asked is =
    ap (λ (x : Option Frame). x ∷ []) (is ∙ ap (λ (o : Option Ask). option_map (λ (a : Ask). frame_or (state_at t h).frame) o) (asked ∙ sym (ask_drop asks 0)))
    ∙ ap (λ (xs : List Handle). frames_at t asks xs) same

pub last_at : (first rest : List (Option Ask)) (i : ℕ) → get_or (last_asks first rest) i None ≡ last_ask (get_or first i None) (get_or rest i None)
last_at [] [] i = none_at i
  where
    none_at : (i : ℕ) → get_or {A = Option Ask} [] i None ≡ last_ask (get_or [] i None) (get_or [] i None)
    none_at zero = refl
    none_at (suc i) = refl
last_at [] (y ∷ ys) zero = by y
  where
    by : (y : Option Ask) → y ≡ last_ask None y
    by None = refl
    by (Some ask) = refl
last_at [] (y ∷ ys) (suc i) = by (get_or ys i None)
  where
    by : (y : Option Ask) → y ≡ last_ask None y
    by None = refl
    by (Some ask) = refl
last_at (x ∷ xs) [] zero = refl
last_at (x ∷ xs) [] (suc i) = refl
last_at (x ∷ xs) (y ∷ ys) zero = refl
last_at (x ∷ xs) (y ∷ ys) (suc i) = last_at xs ys i

-- ---- some mark

pub marks_on : (t : Tree RenderObject) (hs : List Handle) (i : ℕ) (z : Handle) → i < length hs
    → (state_at t (get_or hs i z)).needs_layout ≡ false → (state_at t (get_or hs i z)).layout_below ≡ false
    → marks_at t (drop i hs) ≡ marks_at t (drop (i + 1) hs)
marks_on t hs i z less needs below =
    at_drop_more (marks_at t) hs i z less
    ∙ ap (λ (b : Bool). b || ((state_at t (get_or hs i z)).layout_below || marks_at t (drop (i + 1) hs))) needs
    ∙ ap (λ (b : Bool). b || marks_at t (drop (i + 1) hs)) below

pub marks_here : (t : Tree RenderObject) (hs : List Handle) (i : ℕ) (z : Handle) → i < length hs
    → ((state_at t (get_or hs i z)).needs_layout || (state_at t (get_or hs i z)).layout_below) ≡ true → marks_at t (drop i hs) ≡ true
marks_here t hs i z less has =
    at_drop_more (marks_at t) hs i z less ∙ by (state_at t (get_or hs i z)).needs_layout (state_at t (get_or hs i z)).layout_below (marks_at t (drop (i + 1) hs)) has
  where
    by : (a b c : Bool) → (a || b) ≡ true → (a || (b || c)) ≡ true
    by true b c e = refl
    by false true c e = refl
    by false false c e = absurd (no_true e)
      where
        no_true : false ≡ true → ⊥
        no_true e = cc

-- the same for each
pub map_at : {X Y : Type 0} (y z : Y) (xs : List X) (i : ℕ) → i < length xs → get_or (map (λ (x : X). y) xs) i z ≡ y
map_at {X} {Y} y z [] i less = absurd (omega arith)
map_at {X} {Y} y z (x ∷ xs) zero less = refl
map_at {X} {Y} y z (x ∷ xs) (suc i) less = map_at y z xs i (omega arith)

-- ---- what may fail

pub if_ok : {A E : Type 0} (r : Result A E) (P Q : A → Type 0) → ((x : A) → P x → Q x) → IfOk r P → IfOk r Q
if_ok {A} {E} (Ok x) P Q then ok = then x ok
if_ok {A} {E} (Err e) P Q then ok = tt
