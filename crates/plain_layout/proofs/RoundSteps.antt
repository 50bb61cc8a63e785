-- A round of asking, child by child.
use Rattle.std.proofs.Common.{◌≡◌, ap, refl, sym, ◌∙◌, subst, ℕ, zero, suc, ◌+◌, ◌<◌, ◌≤◌, Option, Some, None, option_map, List, [], ◌∷◌, ◌++◌, map, length, get_or, take, drop, arith, add-one}
use Rattle.std.specs.Prelude.{slice_set}
use Rattle.fx_geom.specs.declared.shapes.Axis.{Axis}
use Rattle.widget_model.specs.Look.{Look}
use Rattle.plain_tree.specs.Laid.{Laid}
use Rattle.plain_tree.specs.Render.{Render, count_of}
use Rattle.layout_form.specs.declared.asks.Ask.{Ask}
use Rattle.layout_form.specs.declared.asks.Ask.TheVariants.{AsBox}
use Rattle.layout_form.specs.Fits.{CanBeLaidOut}
use Rattle.layout_form.specs.Object.{Setting}
use Rattle.layout_form.specs.Layout.{object}
use Rattle.layout_form.specs.Protocol.{answer, answered, round}
use Rattle.kind_rules.specs.Below.{BoxBelow, box_below, laid_at, laid_below}
use Rattle.kind_rules.proofs.Chains.{box_fits, box_fewer}
use Rattle.plain_layout.specs.Computed.{blank}
use Rattle.plain_layout.specs.Slivers.{kept_slots, target_of, next_slot, next_slots, IsReady, IsTask, AllTasks}

abbrev no_answer : Option Laid
no_answer = None

-- ---- lists

abbrev none_of : {X : Type 0} → List X
none_of = []

drop_none : {X : Type 0} (i : ℕ) → drop i (none_of {X = X}) ≡ []
drop_none zero = refl
drop_none (suc i) = refl

get_none : {X : Type 0} (i : ℕ) (d : X) → get_or (none_of {X = X}) i d ≡ d
get_none zero d = refl
get_none (suc i) d = refl

drop_past : {X : Type 0} (i : ℕ) (xs : List X) → length xs ≤ i → drop i xs ≡ []
drop_past i [] h = drop_none i
drop_past zero (x ∷ xs) h = absurd (omega arith)
drop_past (suc i) (x ∷ xs) h = drop_past i xs (omega arith)

take_past : {X : Type 0} (i : ℕ) (xs : List X) → length xs ≤ i → take i xs ++ [] ≡ xs
take_past zero [] h = refl
take_past (suc i) [] h = refl
take_past zero (x ∷ xs) h = absurd (omega arith)
take_past {X} (suc i) (x ∷ xs) h = ap (λ (ys : List X). x ∷ ys) (take_past i xs (omega arith))

take_set : {X : Type 0} (i : ℕ) (xs : List X) (y : X) (zs : List X) → i < length xs → take (suc i) (slice_set xs i y) ++ zs ≡ take i xs ++ (y ∷ zs)
take_set i [] y zs h = absurd (omega arith)
take_set zero (w ∷ xs) y zs h = refl
take_set {X} (suc i) (w ∷ xs) y zs h = ap (λ (ys : List X). w ∷ ys) (take_set i xs y zs (omega arith))

drop_set : {X : Type 0} (i : ℕ) (xs : List X) (y : X) → drop (suc i) (slice_set xs i y) ≡ drop (suc i) xs
drop_set zero [] y = refl
drop_set (suc i) [] y = refl
drop_set zero (w ∷ xs) y = refl
drop_set (suc i) (w ∷ xs) y = drop_set i xs y

-- an element that is taken out and put back
pub set_twice : {X : Type 0} (i : ℕ) (xs ys zs : List X) (x y : X) → ys ≡ slice_set xs i x → zs ≡ slice_set ys i y → zs ≡ slice_set xs i y
set_twice {X} i xs ys zs x y p q = q ∙ ap (λ (ws : List X). slice_set ws i y) p ∙ again i xs
  where
    again : (j : ℕ) (vs : List X) → slice_set (slice_set vs j x) j y ≡ slice_set vs j y
    again zero [] = refl
    again (suc j) [] = refl
    again zero (v ∷ vs) = refl
    again (suc j) (v ∷ vs) = ap (λ (ws : List X). v ∷ ws) (again j vs)

length_set : {X : Type 0} (i : ℕ) (xs : List X) (x : X) → length (slice_set xs i x) ≡ length xs
length_set zero [] x = refl
length_set (suc i) [] x = refl
length_set zero (w ∷ xs) x = refl
length_set (suc i) (w ∷ xs) x = ap suc (length_set i xs x)

pub length_kept : {X : Type 0} (i : ℕ) (xs ys : List X) (y : X) (n : ℕ) → ys ≡ slice_set xs i y → length xs ≡ n → length ys ≡ n
length_kept i xs ys y n p e = ap length p ∙ length_set i xs y ∙ e

pub length_of_map : {X Y : Type 0} (f : X → Y) (xs : List X) → length (map f xs) ≡ length xs
length_of_map f [] = refl
length_of_map f (x ∷ xs) = ap suc (length_of_map f xs)

take_more : {X : Type 0} (i : ℕ) (xs : List X) (d : X) (zs : List X) → i < length xs → take (suc i) xs ++ zs ≡ take i xs ++ (get_or xs i d ∷ zs)
take_more i [] d zs h = absurd (omega arith)
take_more zero (x ∷ xs) d zs h = refl
take_more {X} (suc i) (x ∷ xs) d zs h = ap (λ (ys : List X). x ∷ ys) (take_more i xs d zs (omega arith))

pub length_blank : (rs : List Render) → length (blank rs) ≡ length rs
length_blank rs = length_of_map (λ (r : Render). no_answer) rs

pub kept_length : (l : Look) (ask : Ask) (kept : Option Laid) (rs : List Render) → length (kept_slots l ask kept rs) ≡ length rs
kept_length l ask kept [] = refl
kept_length l ask kept (r ∷ rs) = ap suc (length_blank rs)

-- ---- one child

module _ (s : Setting) (view : Option (Axis × ℕ)) where
  next_empty : (i : ℕ) (slots : List (Option Laid)) (rs : List Render) (r : Render) → i < length slots → i < length rs → r ≡ get_or rs i r
      → next_slots s view [] (drop i slots) (drop i rs) ≡ next_slot s view None (get_or slots i None) r ∷ next_slots s view [] (drop (suc i) slots) (drop (suc i) rs)
  next_empty i [] rs r h k is = absurd (omega arith)
  next_empty i (x ∷ slots) [] r h k is = absurd (omega arith)
  next_empty zero (x ∷ slots) (q ∷ rs) r h k is = ap (λ (y : Render). next_slot s view None x y ∷ next_slots s view [] slots rs) (sym is)
  next_empty (suc i) (x ∷ slots) (q ∷ rs) r h k is = next_empty i slots rs r (omega arith) (omega arith) is

  next_step : (i : ℕ) (asks : List (Option Ask)) (slots : List (Option Laid)) (rs : List Render) (r : Render) → i < length slots → i < length rs → r ≡ get_or rs i r
      → next_slots s view (drop i asks) (drop i slots) (drop i rs)
      ≡ next_slot s view (get_or asks i None) (get_or slots i None) r ∷ next_slots s view (drop (suc i) asks) (drop (suc i) slots) (drop (suc i) rs)
  next_step i [] slots rs r h k is =
      ap (λ (qs : List (Option Ask)). next_slots s view qs (drop i slots) (drop i rs)) (drop_none i)
      ∙ next_empty i slots rs r h k is
      ∙ ap (λ (a : Option Ask). next_slot s view a (get_or slots i None) r ∷ next_slots s view [] (drop (suc i) slots) (drop (suc i) rs)) (sym (get_none i None))
  next_step i (a ∷ asks) [] rs r h k is = absurd (omega arith)
  next_step i (a ∷ asks) (x ∷ slots) [] r h k is = absurd (omega arith)
  next_step zero (a ∷ asks) (x ∷ slots) (q ∷ rs) r h k is = ap (λ (y : Render). next_slot s view a x y ∷ next_slots s view asks slots rs) (sym is)
  next_step (suc i) (a ∷ asks) (x ∷ slots) (q ∷ rs) r h k is = next_step i asks slots rs r (omega arith) (omega arith) is

  -- the answers so far, and those to come
  abbrev pub so_far : ℕ → List (Option Ask) → List (Option Laid) → List Render → List (Option Laid)
  so_far i asks slots rs = take i slots ++ next_slots s view (drop i asks) (drop i slots) (drop i rs)

  -- a child whose slot stays as it is
  pub stays_on : (i : ℕ) (asks : List (Option Ask)) (slots : List (Option Laid)) (rs : List Render) (r : Render) (whole : List (Option Laid))
      → i < length slots → i < length rs → r ≡ get_or rs i r → next_slot s view (get_or asks i None) (get_or slots i None) r ≡ get_or slots i None
      → so_far i asks slots rs ≡ whole → so_far (i + 1) asks slots rs ≡ whole
  stays_on i asks slots rs r whole h k is stays same =
      let rest = next_slots s view (drop (suc i) asks) (drop (suc i) slots) (drop (suc i) rs) in
      ap (λ (n : ℕ). so_far n asks slots rs) (add-one i)
      ∙ take_more i slots None rest h
      ∙ ap (λ (x : Option Laid). take i slots ++ (x ∷ rest)) (sym stays)
      ∙ ap (λ (xs : List (Option Laid)). take i slots ++ xs) (sym (next_step i asks slots rs r h k is))
      ∙ same

  -- a child that is laid out
  pub moves_on : (i : ℕ) (asks : List (Option Ask)) (slots after : List (Option Laid)) (rs : List Render) (r : Render) (slot : Option Laid) (whole : List (Option Laid))
      → i < length slots → i < length rs → r ≡ get_or rs i r → after ≡ slice_set slots i slot
      → slot ≡ next_slot s view (get_or asks i None) (get_or slots i None) r → so_far i asks slots rs ≡ whole → so_far (i + 1) asks after rs ≡ whole
  moves_on i asks slots after rs r slot whole h k is afters slots_are same =
      let set1 = slice_set slots i slot in
      let rest = next_slots s view (drop (suc i) asks) (drop (suc i) slots) (drop (suc i) rs) in
      ap (λ (n : ℕ). so_far n asks after rs) (add-one i)
      ∙ ap (λ (xs : List (Option Laid)). so_far (suc i) asks xs rs) afters
      ∙ ap (λ (xs : List (Option Laid)). take (suc i) set1 ++ next_slots s view (drop (suc i) asks) xs (drop (suc i) rs)) (drop_set i slots slot)
      ∙ take_set i slots slot rest h
      ∙ ap (λ (x : Option Laid). take i slots ++ (x ∷ rest)) slots_are
      ∙ ap (λ (xs : List (Option Laid)). take i slots ++ xs) (sym (next_step i asks slots rs r h k is))
      ∙ same

  next_none : (asks : List (Option Ask)) (rs : List Render) → next_slots s view asks [] rs ≡ []
  next_none asks rs = refl

  pub over : (i : ℕ) (asks : List (Option Ask)) (slots : List (Option Laid)) (rs : List Render) (whole : List (Option Laid))
      → length slots ≤ i → so_far i asks slots rs ≡ whole → slots ≡ whole
  over i asks slots rs whole h same =
      sym (take_past i slots h)
      ∙ ap (λ (xs : List (Option Laid)). take i slots ++ next_slots s view (drop i asks) xs (drop i rs)) (sym (drop_past i slots h))
      ∙ same

  -- ---- what children may be asked

  task_empty : (i : ℕ) (slots : List (Option Laid)) (rs : List Render) (r : Render) → i < length slots → i < length rs → r ≡ get_or rs i r
      → AllTasks s view [] (drop i slots) (drop i rs) → IsTask s view None (get_or slots i None) r
  task_empty i [] rs r h k is all = absurd (omega arith)
  task_empty i (x ∷ slots) [] r h k is all = absurd (omega arith)
  task_empty zero (x ∷ slots) (q ∷ rs) r h k is all = subst (λ (y : Render). IsTask s view None x y) (sym is) all.0
  task_empty (suc i) (x ∷ slots) (q ∷ rs) r h k is all = task_empty i slots rs r (omega arith) (omega arith) is all

  pub task_here : (i : ℕ) (asks : List (Option Ask)) (slots : List (Option Laid)) (rs : List Render) (r : Render) → i < length slots → i < length rs → r ≡ get_or rs i r
      → AllTasks s view (drop i asks) (drop i slots) (drop i rs) → IsTask s view (get_or asks i None) (get_or slots i None) r
  task_here i [] slots rs r h k is all =
      subst (λ (a : Option Ask). IsTask s view a (get_or slots i None) r) (sym (get_none i None))
      (task_empty i slots rs r h k is (subst (λ (qs : List (Option Ask)). AllTasks s view qs (drop i slots) (drop i rs)) (drop_none i) all))
  task_here i (a ∷ asks) [] rs r h k is all = absurd (omega arith)
  task_here i (a ∷ asks) (x ∷ slots) [] r h k is all = absurd (omega arith)
  task_here zero (a ∷ asks) (x ∷ slots) (q ∷ rs) r h k is all = subst (λ (y : Render). IsTask s view a x y) (sym is) all.0
  task_here (suc i) (a ∷ asks) (x ∷ slots) (q ∷ rs) r h k is all = task_here i asks slots rs r (omega arith) (omega arith) is all

  tasks_empty : (i : ℕ) (slots : List (Option Laid)) (rs : List Render) → i < length slots → i < length rs
      → AllTasks s view [] (drop i slots) (drop i rs) → AllTasks s view [] (drop (suc i) slots) (drop (suc i) rs)
  tasks_empty i [] rs h k all = absurd (omega arith)
  tasks_empty i (x ∷ slots) [] h k all = absurd (omega arith)
  tasks_empty zero (x ∷ slots) (q ∷ rs) h k all = all.1
  tasks_empty (suc i) (x ∷ slots) (q ∷ rs) h k all = tasks_empty i slots rs (omega arith) (omega arith) all

  tasks_next : (i : ℕ) (asks : List (Option Ask)) (slots : List (Option Laid)) (rs : List Render) → i < length slots → i < length rs
      → AllTasks s view (drop i asks) (drop i slots) (drop i rs) → AllTasks s view (drop (suc i) asks) (drop (suc i) slots) (drop (suc i) rs)
  tasks_next i [] slots rs h k all =
      tasks_empty i slots rs h k (subst (λ (qs : List (Option Ask)). AllTasks s view qs (drop i slots) (drop i rs)) (drop_none i) all)
  tasks_next i (a ∷ asks) [] rs h k all = absurd (omega arith)
  tasks_next i (a ∷ asks) (x ∷ slots) [] h k all = absurd (omega arith)
  tasks_next zero (a ∷ asks) (x ∷ slots) (q ∷ rs) h k all = all.1
  tasks_next (suc i) (a ∷ asks) (x ∷ slots) (q ∷ rs) h k all = tasks_next i asks slots rs (omega arith) (omega arith) all

  pub tasks_stay : (i : ℕ) (asks : List (Option Ask)) (slots : List (Option Laid)) (rs : List Render) → i < length slots → i < length rs
      → AllTasks s view (drop i asks) (drop i slots) (drop i rs) → AllTasks s view (drop (i + 1) asks) (drop (i + 1) slots) (drop (i + 1) rs)
  tasks_stay i asks slots rs h k all =
      subst (λ (n : ℕ). AllTasks s view (drop n asks) (drop n slots) (drop n rs)) (sym (add-one i)) (tasks_next i asks slots rs h k all)

  pub tasks_on : (i : ℕ) (asks : List (Option Ask)) (slots after : List (Option Laid)) (rs : List Render) (slot : Option Laid) → i < length slots → i < length rs
      → after ≡ slice_set slots i slot
      → AllTasks s view (drop i asks) (drop i slots) (drop i rs) → AllTasks s view (drop (i + 1) asks) (drop (i + 1) after) (drop (i + 1) rs)
  tasks_on i asks slots after rs slot h k afters all =
      let same : drop (suc i) after ≡ drop (suc i) slots = ap (λ (xs : List (Option Laid)). drop (suc i) xs) afters ∙ drop_set i slots slot in
      let P : ℕ → Type 0 = λ n. AllTasks s view (drop n asks) (drop n after) (drop n rs) in
      subst P (sym (add-one i))
      (subst (λ (xs : List (Option Laid)). AllTasks s view (drop (suc i) asks) xs (drop (suc i) rs)) (sym same) (tasks_next i asks slots rs h k all))

-- ---- who is laid out for a child

abbrev pair : Render → Ask → Render × Ask
pair r ask = (r, ask)

abbrev of_box : BoxBelow → Render × Ask
of_box below = (below.box, AsBox below.bounds)

pub nobody_stays : (s : Setting) (view : Option (Axis × ℕ)) (ask : Option Ask) (slot : Option Laid) (r : Render) → IsTask s view ask slot r → None ≡ target_of view ask r
    → next_slot s view ask slot r ≡ slot
nobody_stays s None None slot r task none = refl
nobody_stays s None (Some ask) slot r task none = cc
nobody_stays s (Some view) ask slot r task none = no_box (box_below view.0 view.1 r) none ∙ sym task
  where
    no_box : (x : Option BoxBelow) → None ≡ option_map of_box x → laid_at s x ≡ None
    no_box None is = refl
    no_box (Some below) is = cc

some_boxes : (s : Setting) (x : Option BoxBelow) (p : Render) (ask : Ask) → Some (pair p ask) ≡ option_map of_box x
    → Some (answer (object s p) ask) ≡ laid_at s x
some_boxes s None p ask is = cc
some_boxes s (Some below) p ask is = ap (λ (t : Option (Render × Ask)). answer_in t) is
  where
    answer_in : Option (Render × Ask) → Option Laid
    answer_in None = None
    answer_in (Some t) = Some (answer (object s t.0) t.1)

pub somebody_answers : (s : Setting) (view : Option (Axis × ℕ)) (ask : Option Ask) (slot new : Option Laid) (r p : Render) (inner : Ask)
    → Some (pair p inner) ≡ target_of view ask r → new ≡ Some (answer (object s p) inner) → new ≡ next_slot s view ask slot r
somebody_answers s None None slot new r p inner is e = cc
somebody_answers s None (Some ask) slot new r p inner is e = e ∙ ap (λ (t : Option (Render × Ask)). answer_in t) is
  where
    answer_in : Option (Render × Ask) → Option Laid
    answer_in None = None
    answer_in (Some t) = Some (answer (object s t.0) t.1)
somebody_answers s (Some view) ask slot new r p inner is e = e ∙ some_boxes s (box_below view.0 view.1 r) p inner is

ready_boxes : (s : Setting) (x : Option BoxBelow) (p : Render) (ask : Ask) → Some (pair p ask) ≡ option_map of_box x → IsReady s ask None p
ready_boxes s None p ask is = cc
ready_boxes s (Some below) p ask is = subst (λ (t : Option (Render × Ask)). ready_in t) (sym is) tt
  where
    ready_in : Option (Render × Ask) → Type 0
    ready_in None = Unit {0}
    ready_in (Some t) = IsReady s t.1 None t.0

pub target_ready : (s : Setting) (view : Option (Axis × ℕ)) (ask : Option Ask) (slot : Option Laid) (r p : Render) (inner : Ask)
    → Some (pair p inner) ≡ target_of view ask r → IsTask s view ask slot r → IsReady s inner slot p
target_ready s None None slot r p inner is task = cc
target_ready s None (Some ask) slot r p inner is task = subst (λ (t : Option (Render × Ask)). ready_in t) (sym is) task
  where
    ready_in : Option (Render × Ask) → Type 0
    ready_in None = Unit {0}
    ready_in (Some t) = IsReady s t.1 slot t.0
target_ready s (Some view) ask slot r p inner is task =
    subst (λ (x : Option Laid). IsReady s inner x p) (sym task) (ready_boxes s (box_below view.0 view.1 r) p inner is)

boxes_fit : (x : Option BoxBelow) (r p : Render) (ask : Ask) → Some (pair p ask) ≡ option_map of_box x
    → ((b : BoxBelow) → Some b ≡ x → CanBeLaidOut b.box × (count_of b.box < count_of r)) → CanBeLaidOut p × (count_of p < count_of r)
boxes_fit None r p ask is below = cc
boxes_fit (Some b) r p ask is below = subst (λ (t : Option (Render × Ask)). fits_in t) (sym is) (below b refl)
  where
    fits_in : Option (Render × Ask) → Type 0
    fits_in None = Unit {0}
    fits_in (Some t) = CanBeLaidOut t.0 × (count_of t.0 < count_of r)

-- it can be laid out, and is no larger than the child
pub target_fits : (view : Option (Axis × ℕ)) (ask : Option Ask) (r p : Render) (inner : Ask) → Some (pair p inner) ≡ target_of view ask r → CanBeLaidOut r
    → CanBeLaidOut p × (count_of p < suc (count_of r))
target_fits None None r p inner is can = cc
target_fits None (Some ask) r p inner is can = subst (λ (t : Option (Render × Ask)). fits_in t) (sym is) (can, omega arith)
  where
    fits_in : Option (Render × Ask) → Type 0
    fits_in None = Unit {0}
    fits_in (Some t) = CanBeLaidOut t.0 × (count_of t.0 < suc (count_of r))
target_fits (Some view) ask r p inner is can =
    let both = boxes_fit (box_below view.0 view.1 r) r p inner is (λ b at. (box_fits view.0 view.1 r b can at, box_fewer view.0 view.1 r b at)) in
    (both.0, omega (arith, both.1))

-- ---- rounds

pub rounds_next : (s : Setting) (asks : List (Option Ask)) (slots : List (Option Laid)) (rs : List Render) → length slots ≡ length rs
    → next_slots s None asks slots rs ≡ round asks slots (map (object s) rs)
rounds_next s [] [] rs e = refl
rounds_next s [] (slot ∷ slots) [] e = absurd (omega (arith, e))
rounds_next s [] (slot ∷ slots) (r ∷ rs) e = ap (λ (xs : List (Option Laid)). slot ∷ xs) (rounds_next s [] slots rs (omega (arith, e)))
rounds_next s (a ∷ asks) [] rs e = refl
rounds_next s (a ∷ asks) (slot ∷ slots) [] e = refl
rounds_next s (a ∷ asks) (slot ∷ slots) (r ∷ rs) e =
    ap (λ (xs : List (Option Laid)). answered a slot (object s r) ∷ xs) (rounds_next s asks slots rs (omega (arith, e)))

pub boxes_next : (s : Setting) (view : Axis × ℕ) (asks : List (Option Ask)) (rs : List Render) → next_slots s (Some view) asks (blank rs) rs ≡ map (laid_below s view.0 view.1) rs
boxes_next s view asks [] = refl
boxes_next s view [] (r ∷ rs) = ap (λ (xs : List (Option Laid)). laid_below s view.0 view.1 r ∷ xs) (boxes_next s view [] rs)
boxes_next s view (a ∷ asks) (r ∷ rs) = ap (λ (xs : List (Option Laid)). laid_below s view.0 view.1 r ∷ xs) (boxes_next s view asks rs)

pub next_length : (s : Setting) (view : Option (Axis × ℕ)) (asks : List (Option Ask)) (slots : List (Option Laid)) (rs : List Render) → length slots ≡ length rs
    → length (next_slots s view asks slots rs) ≡ length rs
next_length s view asks [] rs e = e
next_length s view asks (slot ∷ slots) [] e = refl
next_length s view [] (slot ∷ slots) (r ∷ rs) e = ap suc (next_length s view [] slots rs (omega (arith, e)))
next_length s view (a ∷ asks) (slot ∷ slots) (r ∷ rs) e = ap suc (next_length s view asks slots rs (omega (arith, e)))
