-- What a build's walk comes to below a widget that was mounted, and how the trees grow where widgets are inflated one after another.
use Rattle.std.proofs.Common.{◌≡◌, ℕ, zero, suc, ◌+◌, ◌<◌, ◌≤◌, false, Option, Some, None, IsSome, option_map, List, [], ◌∷◌, ◌++◌, length, map, take, drop, get_or, refl, sym, ap, ◌∙◌, subst, arith}
use Rattle.std.proofs.lemmas.List.{length-map, length-take-le}
use Rattle.fx_expr.specs.declared.values.Value.{Value}
use Rattle.fx_handles.specs.declared.Handle.{Handle}
use Rattle.node_tree.specs.Forest.{TreeNode}
use Rattle.node_tree.specs.Tree.{Tree, IsNode, node_at, value_at}
use Rattle.widget_model.specs.Look.{Look, inherit}
use Rattle.widget_model.specs.Plain.{PlainWidget, plain, look_of, widgets_of}
use Rattle.widget_model.specs.Typed.{Declarations, IsTypedWidget, AreTypedWidgets}
use Rattle.plain_tree.specs.PlainNode.{PlainNode}
use Rattle.plain_tree.specs.RenderRole.{render_role_of, vanishes}
use Rattle.build_form.specs.BuildRole.{BuildRole, composes, provides, keeps, lists, holds, build_role_of, is_lazy}
use Rattle.build_form.specs.Entering.{Blueprint, Opening, first, waits, values_by, values_below}
use Rattle.build_form.specs.FullBuild.{basis}
use Rattle.build_form.specs.Partner.{Arrival, arrival, arrivals}
use Rattle.build_form.specs.Step.{Fault, Progress, Step, stops, gives, each}
use Rattle.element_tree.specs.Element.{Element}
use Rattle.render_tree.specs.Object.{RenderObject}
use Rattle.versioned_kinds.specs.Lists.{IsNoList, WidgetHasNoLists}
use Rattle.versioned_kinds.specs.Widgets.{LooksMeet, AllLooksMeet}
use Rattle.build_walk.specs.Counting.{count_after, builds_by_each, builds_opening, builds_from}
use Rattle.build_walk.specs.Keeping.{reopened, reenter}
use Rattle.build_walk.specs.Past.{Pasts}
use Rattle.build_walk.proofs.Building.{built_entering, each_below, stops_below, stopped_at}
use Rattle.build_walk.proofs.Opening.{not_below}
use Rattle.build_owner.proofs.Later.{taken_more, split_at}
use Rattle.build_owner.proofs.Makings.{makes_none, makes_more}
use Rattle.first_builds.specs.Inflated.{IsUnscrolled, HasGrown}
use Rattle.first_builds.specs.Mounted.{first_arrivals}
use Rattle.first_builds.specs.Scattered.{scattered}
use Rattle.first_builds.proofs.Placing.{arrivals_none}

-- ---- kinds

not_lazy : (r : BuildRole) → is_lazy r ≡ false → waits first r ≡ false
not_lazy (composes place props) e = refl
not_lazy (provides name value) e = refl
not_lazy (keeps kept) e = refl
not_lazy (lists extent) e = cc
not_lazy holds e = refl

-- no widget waits where none is a lazy list
pub none_waits : (l : Look) → IsNoList l → waits first (build_role_of l) ≡ false
none_waits l e = not_lazy (build_role_of l) e

-- a widget that has a render node gives no inherited name a value
pub same_values : (l : Look) (values : List Value) → vanishes (render_role_of l) ≡ false → values_by (build_role_of l) values ≡ values
same_values (inherit name value) values e = cc
same_values l values e = refl

pub look_alone : (w : PlainWidget) → WidgetHasNoLists w → IsNoList (look_of w)
look_alone (plain l k slots children) h = h.0

-- ---- nodes that stay

pub live_at : {T : Type 0} (t : Tree T) (h : Handle) (v : T) → value_at t h ≡ Some v → IsNode t h
live_at {T} t h v is = by_node (node_at t h) is
  where
    by_node : (o : Option (TreeNode T)) → option_map (λ n. n.value) o ≡ Some v → IsSome o
    by_node None e = cc
    by_node (Some n) e = refl

pub stays_live : {T : Type 0} (old new : Tree T) (h : Handle) → ((k : Handle) (v : T) → value_at old k ≡ Some v → value_at new k ≡ Some v) → IsNode old h → IsNode new h
stays_live {T} old new h stay live = by_node (node_at old h) refl live
  where
    by_node : (o : Option (TreeNode T)) → node_at old h ≡ o → IsSome o → IsNode new h
    by_node None is e = cc
    by_node (Some n) is e = live_at new h n.value (stay h n.value (ap (option_map (λ m. m.value)) is))

pub grown_none : (t : Tree Element) (r : Tree RenderObject) → HasGrown t t r r
grown_none t r = record {
  stay = λ k e is. is;
  stay_drawn = λ k o is. is;
  makes = makes_none (scattered r);
  keeps = λ k live. refl;
  inactive = refl;
  inactive_drawn = refl;
}

-- one after another
pub grown_more : (t0 t1 t2 : Tree Element) (r0 r1 r2 : Tree RenderObject) → HasGrown t0 t1 r0 r1 → HasGrown t1 t2 r1 r2 → HasGrown t0 t2 r0 r2
grown_more t0 t1 t2 r0 r1 r2 a b = record {
  stay = λ k e is. b.stay k e (a.stay k e is);
  stay_drawn = λ k o is. b.stay_drawn k o (a.stay_drawn k o is);
  makes = makes_more (scattered r0) (scattered r1) (scattered r2) b.keeps a.makes b.makes;
  keeps = λ k live. b.keeps k (subst IsSome (sym (a.keeps k live)) live) ∙ a.keeps k live;
  inactive = b.inactive ∙ a.inactive;
  inactive_drawn = b.inactive_drawn ∙ a.inactive_drawn;
}

pub unscrolled_later : (scrolled : ℕ → ℕ) (m n : ℕ) → m ≤ n → IsUnscrolled (m + 1) scrolled → IsUnscrolled (n + 1) scrolled
unscrolled_later scrolled m n more none = λ k above. none k (omega (arith, more, above))

-- ---- widgets of a list

pub typed_at : {A : Type 0} (d : Declarations) (f : A → PlainWidget) (xs : List A) (i : ℕ) (x : A) → i < length xs → x ≡ get_or xs i x → AreTypedWidgets d (widgets_of (map f xs)) → IsTypedWidget d (f x)
typed_at d f [] i x low at typed = absurd (omega arith)
typed_at d f (y ∷ xs) zero x low at typed = subst (λ z. IsTypedWidget d (f z)) (sym at) typed.0
typed_at d f (y ∷ xs) (suc i) x low at typed = typed_at d f xs i x (omega arith) at typed.1

pub looks_at : {A : Type 0} (P : Look → Type 0) (f : A → PlainWidget) (xs : List A) (i : ℕ) (x : A) → i < length xs → x ≡ get_or xs i x → AllLooksMeet P (widgets_of (map f xs)) → LooksMeet P (f x)
looks_at P f [] i x low at meet = absurd (omega arith)
looks_at P f (y ∷ xs) zero x low at meet = subst (λ z. LooksMeet P (f z)) (sym at) meet.0
looks_at P f (y ∷ xs) (suc i) x low at meet = looks_at P f xs i x (omega arith) at meet.1

first_join : (place : ℕ) (ws vs : List PlainWidget) → first_arrivals place (ws ++ vs) ≡ first_arrivals place ws ++ first_arrivals (place + length ws) vs
first_join place [] vs = let e : place ≡ place + 0 = omega arith in ap (λ n. first_arrivals n vs) e
first_join place (w ∷ ws) vs =
    let e : suc place + length ws ≡ place + suc (length ws) = omega arith in
    ap (λ l. arrival w place None ∷ l) (first_join (suc place) ws vs ∙ ap (λ n. first_arrivals (suc place) ws ++ first_arrivals n vs) e)

module _ {A : Type 0} (f : A → PlainWidget) (xs : List A) (i : ℕ) (x : A) (low : i < length xs) (at : x ≡ get_or xs i x) where
  abbrev taken : List PlainWidget
  taken = take i (map f xs)

  pub taken_length : length taken ≡ i
  taken_length =
      let few : i ≤ length (map f xs) = rw length-map (omega (arith, low)) in
      length-take-le i (map f xs) few

  placed : 0 + length taken ≡ i
  placed = omega (arith, taken_length)

  pub first_taken : first_arrivals 0 (take (i + 1) (map f xs)) ≡ first_arrivals 0 taken ++ arrival (f x) i None ∷ []
  first_taken =
      ap (first_arrivals 0) (taken_more f xs i x low at)
      ∙ first_join 0 taken (f x ∷ [])
      ∙ ap (λ n. first_arrivals 0 taken ++ arrival (f x) n None ∷ []) placed

  pub first_split : first_arrivals 0 (map f xs) ≡ first_arrivals 0 taken ++ arrival (f x) i None ∷ first_arrivals (suc i) (drop (suc i) (map f xs))
  first_split =
      ap (first_arrivals 0) (split_at f xs i x low at)
      ∙ first_join 0 taken (f x ∷ drop (suc i) (map f xs))
      ∙ ap (λ n. first_arrivals 0 taken ++ first_arrivals n (f x ∷ drop (suc i) (map f xs))) placed

pub just_one : {A : Type 0} (f : A → PlainWidget) (xs : List A) (x : A) → length (map f xs) ≡ 1 → x ≡ get_or xs 0 x → map f xs ≡ f x ∷ []
just_one f [] x one at = absurd (omega (arith, one))
just_one f (y ∷ []) x one at = ap (λ z. f z ∷ []) (sym at)
just_one f (y ∷ z ∷ xs) x one at = absurd (omega (arith, one))

-- ---- below a widget that was opened, where nothing stood before

module _ (b : Blueprint) (pasts : Pasts) (left : ℕ) (values : List Value) (w : PlainWidget) (place : ℕ) (before mid : Progress) (o : Opening) (is : reopened (basis b None) pasts values (arrival w place None) before ≡ gives o mid)
    (nothing : o.partner ≡ None) (alone : waits first (build_role_of (look_of w)) ≡ false) (given : List PlainWidget) (same : o.given ≡ given) where
  abbrev go : List Value → Arrival → Progress → Step PlainNode
  go vs = reenter (basis b None) pasts first left vs

  abbrev count : List Value → Arrival → Progress → ℕ
  count vs = builds_from (basis b None) pasts first left vs

  abbrev whole : ℕ
  whole = builds_from (basis b None) pasts first (suc left) values (arrival w place None) before

  arriving : arrivals o.partner o.given ≡ first_arrivals 0 given
  arriving = ap (λ p. arrivals p o.given) nothing ∙ arrivals_none o.given ∙ ap (first_arrivals 0) same

  pub stops_inside : (below : List Value) → values_below w values ≡ below → (x : Fault) → each (go below) (first_arrivals 0 given) mid ≡ stops x
      → reenter (basis b None) pasts first (suc left) values (arrival w place None) before ≡ stops x
  stops_inside below e x stopped =
      not_below (basis b None) pasts first (suc left) left values (arrival w place None) before o mid refl is x
      (stops_below (basis b None) pasts first left values w o mid x alone ((λ i. each (go (e i)) (arriving i) mid) ∙ stopped))

  pub built_inside : (below : List Value) → values_below w values ≡ below
      → whole ≡ builds_opening (basis b None) pasts values (arrival w place None) before + builds_by_each (go below) (count below) (first_arrivals 0 given) mid
  built_inside below e =
      built_entering (basis b None) pasts first (suc left) left values (arrival w place None) before o mid refl is
      ∙ ap (λ n. builds_opening (basis b None) pasts values (arrival w place None) before + n)
      (each_below (basis b None) pasts first left values w o mid alone ∙ (λ i. builds_by_each (go (e i)) (count (e i)) (arriving i) mid))

-- ---- one widget alone

module _ {A B : Type 0} (go : A → Progress → Step B) (x : A) (s : Progress) where
  pub stops_alone : (f : Fault) → go x s ≡ stops f → each go (x ∷ []) s ≡ stops f
  stops_alone f e = stopped_at go [] [] x s s [] f refl e

  pub built_alone : (count : A → Progress → ℕ) → builds_by_each go count (x ∷ []) s ≡ count x s
  built_alone count = nothing (count x s) (go x s)
    where
      nothing : (n : ℕ) (r : Step B) → n + count_after r (λ y u. 0) ≡ n
      nothing n (stops f) = omega arith
      nothing n (gives y u) = omega arith
