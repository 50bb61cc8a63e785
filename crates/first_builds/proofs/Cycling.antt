-- What the cycle that inflates widgets has come to, part by part.
use Rattle.std.proofs.Common.{◌≡◌, ℕ, suc, ◌+◌, Bool, true, false, Option, Some, None, List, [], ◌∷◌, length, take, refl, sym, ap, ◌∙◌, subst}
use Rattle.fx_expr.specs.declared.values.Value.{Value}
use Rattle.fx_handles.specs.declared.Handle.{Handle}
use Rattle.node_tree.specs.Tree.{Tree, IsNode}
use Rattle.widget_keys.specs.declared.keys.Key.TheVariants as key
use Rattle.widget_model.specs.Look.{Look}
use Rattle.widget_model.specs.Plain.{PlainWidget, plain, no_widgets, look_of}
use Rattle.plain_tree.specs.Projection.{told_at}
use Rattle.plain_tree.specs.RenderRole.{render_role_of, vanishes}
use Rattle.build_form.specs.BuildRole.{build_role_of}
use Rattle.build_form.specs.Entering.{Blueprint, first, waits, values_below}
use Rattle.build_form.specs.FullBuild.{basis}
use Rattle.build_form.specs.Partner.{Arrival, arrival}
use Rattle.build_form.specs.Step.{Fault, Progress, stops, each}
use Rattle.element_tree.specs.Element.{Element, made_count}
use Rattle.global_keys.specs.Holders.{Registry}
use Rattle.render_tree.specs.Object.{RenderObject}
use Rattle.render_tree.specs.Tree.{object_at}
use Rattle.versioned_kinds.specs.Lists.{IsNoList}
use Rattle.build_walk.specs.Counting.{builds_by_each, builds_opening, builds_from}
use Rattle.build_walk.specs.Keeping.{reenter}
use Rattle.build_walk.specs.Past.{Pasts}
use Rattle.build_walk.specs.Renewing.{role_of}
use Rattle.build_walk.specs.Walked.{WalkPlace, through, under}
use Rattle.build_owner.proofs.Cycling.{draws_one}
use Rattle.first_builds.specs.Inflated.{progress_at, IsUnscrolled, given_of, IsMounted, IsInflated, AreInflated, IsReadyToMount, HasGrown}
use Rattle.first_builds.specs.Mounted.{drawn_object, first_arrivals}
use Rattle.first_builds.proofs.Nesting.{drawn_inflated, through_inflated}
use Rattle.first_builds.proofs.Nested.{live_at, none_waits, same_values, stops_inside, built_inside, stops_alone, built_alone}

-- ---- widgets one after another: what was inflated so far, below an element with a render node

pub record SoFar (b : Blueprint) (left : ℕ) (values now : List Value) (at above : Handle) (l : Look) (ws : List PlainWidget) (i : ℕ) (t u : Tree Element) (r s : Tree RenderObject) (g k : Registry) (entered done count builds : ℕ) : Type 0 where
  pub inflated : (pasts : Pasts) (scrolled : ℕ → ℕ) → IsUnscrolled (made_count t + 1) scrolled → (e : Element) → role_of e ≡ render_role_of l
      → AreInflated b pasts left values scrolled (under at above e) (take i ws) 0 (progress_at entered g t) (progress_at done k u) t u r s
  pub builds_are : (pasts : Pasts)
      → builds ≡ count + builds_by_each (reenter (basis b None) pasts first left values) (builds_from (basis b None) pasts first left values) (first_arrivals 0 (take i ws)) (progress_at entered g t)
  pub ready : IsReadyToMount b.nodes done k u s
  pub grown : HasGrown t u r s
  pub now_is : now ≡ values

-- some element of a kind
abbrev pub some_element : Look → Element
some_element l = record { number = 0; widget = plain l key.None no_widgets no_widgets; fields = []; index = 0; dirty = false; output = None; render = None }

-- ---- a widget that was mounted, and what is below it

module _ {b : Blueprint} {pasts : Pasts} {values : List Value} {scrolled : ℕ → ℕ} {at : WalkPlace} {w : PlainWidget} {place : ℕ} {before mid : Progress} {t0 t1 : Tree Element} {r0 r1 : Tree RenderObject} {h : Handle}
    {output : Option PlainWidget} {o : Option Handle} (m : IsMounted b pasts values scrolled at w place before mid t0 t1 r0 r1 h output o) (outer left : ℕ) (deeper : outer ≡ suc left) (lone : IsNoList (look_of w))
    (given : List PlainWidget) (same : given ≡ given_of w output) where
  abbrev here : Arrival
  here = arrival w place None

  alone : waits first (build_role_of (look_of w)) ≡ false
  alone = none_waits (look_of w) lone

  kind_of : role_of m.element ≡ render_role_of (look_of w)
  kind_of = ap (λ v. render_role_of (look_of v)) m.for.widget

  -- it has a render node
  module _ (k : Handle) (named : o ≡ Some k) where
    shown : vanishes (role_of m.element) ≡ false
    shown = draws_one (vanishes (role_of m.element)) o k m.unseen named

    values_same : values_below w values ≡ values
    values_same = same_values (look_of w) values (ap vanishes (sym kind_of) ∙ shown)

    -- its render node is there
    pub drawn_live : IsNode r1 k
    drawn_live =
        let there = m.seen shown in
        live_at r1 k (drawn_object m.element (told_at at.role at.told place)) (ap (object_at r1) (some_handle (sym named ∙ there.1)) ∙ there.2)
      where
        some_handle : {A : Type 0} {x y : A} → Some x ≡ Some y → x ≡ y
        some_handle e = cc

    pub drawn_whole : (after : Progress) (t2 : Tree Element) (r2 : Tree RenderObject) → HasGrown t1 t2 r1 r2
        → ((e : Element) → role_of e ≡ render_role_of (look_of w) → AreInflated b pasts left values scrolled (under h k e) given 0 mid after t1 t2 r1 r2)
        → IsInflated b pasts outer values scrolled at w place before after t0 t2 r0 r2 h
    drawn_whole after t2 r2 grown below =
        let given_so = subst (λ ws. AreInflated b pasts left values scrolled (under h k m.element) ws 0 mid after t1 t2 r1 r2) (same ∙ sym m.given) (below m.element kind_of) in
        let values_so = subst (λ vs. AreInflated b pasts left vs scrolled (under h k m.element) m.opening.given 0 mid after t1 t2 r1 r2) (sym values_same) given_so in
        subst (λ n. IsInflated b pasts n values scrolled at w place before after t0 t2 r0 r2 h) (sym deeper)
        (drawn_inflated b pasts left values scrolled at w place before mid after t0 t1 t2 r0 r1 r2 h output o m alone k named shown grown.stay grown.stay_drawn values_so)

    pub drawn_stops : (x : Fault) → each (reenter (basis b None) pasts first left values) (first_arrivals 0 given) mid ≡ stops x → reenter (basis b None) pasts first outer values here before ≡ stops x
    drawn_stops x stopped =
        ap (λ n. reenter (basis b None) pasts first n values here before) deeper
        ∙ stops_inside b pasts left values w place before mid m.opening m.is m.partner alone given (m.given ∙ sym same) values values_same x stopped

    pub drawn_built : builds_from (basis b None) pasts first outer values here before
        ≡ builds_opening (basis b None) pasts values here before + builds_by_each (reenter (basis b None) pasts first left values) (builds_from (basis b None) pasts first left values) (first_arrivals 0 given) mid
    drawn_built =
        ap (λ n. builds_from (basis b None) pasts first n values here before) deeper
        ∙ built_inside b pasts left values w place before mid m.opening m.is m.partner alone given (m.given ∙ sym same) values values_same

  -- it has none, and one child
  module _ (named : o ≡ None) where
    hidden : vanishes (role_of m.element) ≡ true
    hidden = by_test (vanishes (role_of m.element)) refl
      where
        no_handle : (j : Handle) → None ≡ Some j → ⊥
        no_handle j e = cc

        by_test : (c : Bool) → vanishes (role_of m.element) ≡ c → c ≡ true
        by_test true is = refl
        by_test false is = let there = m.seen is in absurd (no_handle there.0 (sym named ∙ there.1))

    hidden_kind : vanishes (render_role_of (look_of w)) ≡ true
    hidden_kind = ap vanishes (sym kind_of) ∙ hidden

    pub one_there : (vanishes (render_role_of (look_of w)) ≡ true → length (given_of w output) ≡ 1) → length given ≡ 1
    one_there one = ap length same ∙ one hidden_kind

    module _ (child : PlainWidget) (only : given ≡ child ∷ []) where
      abbrev below_it : List Value
      below_it = values_below w values

      pub through_whole : (after : Progress) (t2 : Tree Element) (r2 : Tree RenderObject) (c : Handle) → HasGrown t1 t2 r1 r2
          → ((e : Element) → e.widget ≡ w → e.index ≡ place → IsInflated b pasts left below_it scrolled (through at h e) child 0 mid after t1 t2 r1 r2 c)
          → IsInflated b pasts outer values scrolled at w place before after t0 t2 r0 r2 h
      through_whole after t2 r2 c grown below =
          subst (λ n. IsInflated b pasts n values scrolled at w place before after t0 t2 r0 r2 h) (sym deeper)
          (through_inflated b pasts left values scrolled at w place before mid after t0 t1 t2 r0 r1 r2 h output o m alone child c hidden (m.given ∙ sym same ∙ only) grown.stay (below m.element m.for.widget m.for.place))

      pub through_stops : (x : Fault) → reenter (basis b None) pasts first left below_it (arrival child 0 None) mid ≡ stops x → reenter (basis b None) pasts first outer values here before ≡ stops x
      through_stops x stopped =
          let go = reenter (basis b None) pasts first left below_it in
          ap (λ n. reenter (basis b None) pasts first n values here before) deeper
          ∙ stops_inside b pasts left values w place before mid m.opening m.is m.partner alone given (m.given ∙ sym same) below_it refl x
          (ap (λ ws. each go (first_arrivals 0 ws) mid) only ∙ stops_alone go (arrival child 0 None) mid x stopped)

      pub through_built : builds_from (basis b None) pasts first outer values here before
          ≡ builds_opening (basis b None) pasts values here before + builds_from (basis b None) pasts first left below_it (arrival child 0 None) mid
      through_built =
          let go = reenter (basis b None) pasts first left below_it in
          let count = builds_from (basis b None) pasts first left below_it in
          ap (λ n. builds_from (basis b None) pasts first n values here before) deeper
          ∙ built_inside b pasts left values w place before mid m.opening m.is m.partner alone given (m.given ∙ sym same) below_it refl
          ∙ ap (λ n. builds_opening (basis b None) pasts values here before + n)
          (ap (λ ws. builds_by_each go count (first_arrivals 0 ws) mid) only ∙ built_alone go (arrival child 0 None) mid count)
