-- What the steps of asking come to.
use Rattle.std.proofs.Common.{◌≡◌, ℕ, zero, suc, ◌+◌, ◌<◌, Bool, true, false, if◌then◌else◌, Option, Some, None, List, [], ◌∷◌, ◌++◌, length, drop, get_or, refl, sym, ap, ◌∙◌, arith}
use Rattle.std.specs.Prelude.{ℤ, pos, neg_ℤ, ◌&&◌, ◌||◌, int_le, int_lt, option_map}
use Rattle.std.proofs.lemmas.Int.{ints, clamps}
use Rattle.std.proofs.lemmas.List.{append_assoc, append-nil}
use Rattle.fx_geom.specs.declared.shapes.Offset.{Offset}
use Rattle.fx_geom.specs.declared.shapes.Size.{Size}
use Rattle.fx_geom.specs.Offset.{side_sum, lies_before, contains}
use Rattle.plain_tree.specs.Laid.{Laid, laid, Laids, no_laids, Stood}
use Rattle.plain_tree.specs.Shown.{shown_size}
use Rattle.laid_cursor.specs.Opened.{opened, laids_at, offset_of}
use Rattle.laid_cursor.proofs.Walking.{none_there, one_there, none_left}
use Rattle.screen_form.specs.declared.hit_role.HitRole.{HitRole}
use Rattle.screen_form.specs.declared.hit_role.HitRole.TheVariants.{Ignores, Absorbs, Opaque, Translucent, Defers}
use Rattle.screen_form.specs.HitRole.{hit_role}
use Rattle.screen_form.specs.Hits.{Hit, missed, hit_by, deferring, or_else, asked, asked_last, relative_to}
use Rattle.hit_testing.specs.Taking.{answer_alone, is_added, answer_of, if_added, is_before}

-- what comes of a node that doesn't ask its children
abbrev alone : Bool → Hit
alone answer = record { answer = answer; added = [] }

hit_alone : (m : HitRole) (inside : Bool) (node : Laid) (below : Hit) (a : Bool) → answer_alone m inside ≡ Some a → hit_by m inside node below ≡ alone a
hit_alone Ignores inside node below a e = ap alone (cc)
hit_alone Absorbs true node below a e = ap alone (cc)
hit_alone Absorbs false node below a e = ap alone (cc)
hit_alone Opaque true node below a e = cc
hit_alone Opaque false node below a e = ap alone (cc)
hit_alone Translucent true node below a e = cc
hit_alone Translucent false node below a e = ap alone (cc)
hit_alone Defers true node below a e = cc
hit_alone Defers false node below a e = ap alone (cc)

-- what comes of one that asks them
abbrev after : HitRole → Laid → Hit → Hit
after m node below = record { answer = answer_of m below.answer; added = below.added ++ if_added (is_added m below.answer) node }

deferred : (node : Laid) (answer : Bool) (added : List Laid)
    → deferring node (record { answer = answer; added = added }) ≡ after Defers node (record { answer = answer; added = added })
deferred node true added = refl
deferred node false added = ap (λ l. record { answer = false; added = l }) (sym (append-nil added))

hit_after : (m : HitRole) (inside : Bool) (node : Laid) (below : Hit) → answer_alone m inside ≡ None → hit_by m inside node below ≡ after m node below
hit_after Ignores inside node below e = cc
hit_after Absorbs inside node below e = cc
hit_after Opaque true node below e = refl
hit_after Opaque false node below e = cc
hit_after Translucent true node below e = refl
hit_after Translucent false node below e = cc
hit_after Defers true node below e = deferred node below.answer below.added
hit_after Defers false node below e = cc

asked-is : (l : Laid) (p : Offset)
    → asked l p ≡ hit_by (hit_role (opened l).look (opened l).facts.plugged) (contains (shown_size (opened l).facts.frame) p) l (asked_last (opened l).below p)
unfolding asked
asked-is (laid number look facts children) p = refl

module _ (l : Laid) (p : Offset) (m : HitRole) (inside : Bool)
    (is_role : m ≡ hit_role (opened l).look (opened l).facts.plugged) (is_inside : inside ≡ contains (shown_size (opened l).facts.frame) p) where
  abbrev children : Hit
  children = asked_last (opened l).below p

  hit-is : hit_by m inside l children ≡ asked l p
  hit-is = (λ i. hit_by (is_role i) (is_inside i) l children) ∙ sym (asked-is l p)

  pub alone-is : (a : Bool) → answer_alone m inside ≡ Some a → asked l p ≡ record { answer = a; added = [] }
  alone-is a e = sym hit-is ∙ hit_alone m inside l children a e

  pub alone_answers : (a : Bool) → answer_alone m inside ≡ Some a → a ≡ (asked l p).answer
  alone_answers a e = ap (λ (h : Hit). h.answer) (sym (alone-is a e))

  pub alone_adds : (a : Bool) (old : List Laid) → answer_alone m inside ≡ Some a → old ≡ old ++ (asked l p).added
  alone_adds a old e = sym (append-nil old) ∙ ap (λ (h : Hit). old ++ h.added) (sym (alone-is a e))

  after-is : answer_alone m inside ≡ None → after m l children ≡ asked l p
  after-is e = sym (hit_after m inside l children e) ∙ hit-is

  module _ (asks : answer_alone m inside ≡ None) (below : Bool) (is_below : below ≡ (asked_last (opened l).below p).answer) where
    pub answers : (result : Bool) → result ≡ answer_of m below → result ≡ (asked l p).answer
    answers result is = is ∙ ap (answer_of m) is_below ∙ ap (λ (h : Hit). h.answer) (after-is asks)

    pub adds : (added : Bool) (old mid last : List Laid) → added ≡ is_added m below → mid ≡ old ++ (asked_last (opened l).below p).added
        → last ≡ mid ++ if_added added l → last ≡ old ++ (asked l p).added
    adds added old mid last is_added' is_mid is_last =
        is_last
        ∙ ap (λ k. k ++ if_added added l) is_mid
        ∙ append_assoc old children.added (if_added added l)
        ∙ ap (λ b. old ++ (children.added ++ if_added b l)) (is_added' ∙ ap (is_added m) is_below)
        ∙ ap (λ (h : Hit). old ++ h.added) (after-is asks)

-- a node beside which the point stands isn't hit, and adds nothing, whatever its role
outside_alone : (m : HitRole) → answer_alone m false ≡ Some false
outside_alone Ignores = refl
outside_alone Absorbs = refl
outside_alone Opaque = refl
outside_alone Translucent = refl
outside_alone Defers = refl

module _ (l : Laid) (p : Offset) (inside : Bool) (is_inside : inside ≡ contains (shown_size (opened l).facts.frame) p) (out : inside ≡ false) where
  pub outside_answers : false ≡ (asked l p).answer
  outside_answers =
      alone_answers l p (hit_role (opened l).look (opened l).facts.plugged) false refl (sym out ∙ is_inside) false (outside_alone (hit_role (opened l).look (opened l).facts.plugged))

  pub outside_adds : (old : List Laid) → old ≡ old ++ (asked l p).added
  outside_adds old =
      alone_adds l p (hit_role (opened l).look (opened l).facts.plugged) false refl (sym out ∙ is_inside) false old (outside_alone (hit_role (opened l).look (opened l).facts.plugged))

  pub outside-is : asked l p ≡ missed
  outside-is =
      alone-is l p (hit_role (opened l).look (opened l).facts.plugged) false refl (sym out ∙ is_inside) false (outside_alone (hit_role (opened l).look (opened l).facts.plugged))

-- a point before a node doesn't lie in it
before_side : (place at : ℤ) (extent : ℕ) → int_lt place at ≡ true → lies_before (side_sum place (neg_ℤ at)) extent ≡ false
before_side place at extent e =
    let out : int_le (pos 0) (side_sum place (neg_ℤ at)) ≡ false = grind (arith, ints, clamps) in
    ap (λ b. b && int_lt (side_sum place (neg_ℤ at)) (pos extent)) out

never_both : (a : Bool) → (a && false) ≡ false
never_both true = refl
never_both false = refl

module _ (p at : Offset) (s : Size) where
  before_one : (left : Bool) → left ≡ int_lt p.x at.x → (left || int_lt p.y at.y) ≡ true → contains s (relative_to p at) ≡ false
  before_one true is e = ap (λ b. b && lies_before (side_sum p.y (neg_ℤ at.y)) s.h) (before_side p.x at.x s.w (sym is))
  before_one false is e =
      ap (λ b. lies_before (side_sum p.x (neg_ℤ at.x)) s.w && b) (before_side p.y at.y s.h e) ∙ never_both (lies_before (side_sum p.x (neg_ℤ at.x)) s.w)

  before_out : is_before p (Some at) ≡ true → contains s (relative_to p at) ≡ false
  before_out e = before_one (int_lt p.x at.x) refl e

-- what stands at places, from the last to the first
abbrev joined : Hit → Hit → Hit
joined first second = record { answer = second.answer; added = first.added ++ second.added }

not_yet : (first second : Hit) → first.answer ≡ false → or_else first second ≡ joined first second
not_yet first second e = ap (λ t. if t then first else joined first second) e

nothing_more : (first : Hit) → first.answer ≡ false → joined first missed ≡ first
nothing_more first e = λ i. record { answer = sym e i; added = append-nil first.added i }

at_once : (first second : Hit) → first.answer ≡ true → or_else first second ≡ first
at_once first second e = ap (λ t. if t then first else joined first second) e

module _ (p : Offset) where
  none_more : asked_last no_laids p ≡ missed
  unfolding asked
  none_more = refl

  from_on : (ps : List (Option Stood)) (i : ℕ) (c : Stood) → i < length ps → Some c ≡ get_or ps i None
      → asked_last (laids_at (drop i ps)) p ≡ or_else (asked_last (laids_at (drop (i + 1) ps)) p) (asked c.child (relative_to p c.at))
  unfolding asked
  from_on ps i c within is = ap (λ ls. asked_last ls p) (one_there ps i c within is)

  -- before any is asked, nothing is hit
  pub begins : (ps : List (Option Stood)) → asked_last (laids_at (drop (length ps) ps)) p ≡ missed
  begins ps = ap (λ ls. asked_last ls p) (none_left ps (length ps) (omega arith)) ∙ none_more

  -- what was hit from a place on is hit of all
  stays : (ps : List (Option Stood)) (i : ℕ) → (asked_last (laids_at (drop i ps)) p).answer ≡ true → asked_last (laids_at ps) p ≡ asked_last (laids_at (drop i ps)) p
  unfolding asked
  stays ps zero hit = refl
  stays [] (suc i) hit = refl
  stays (None ∷ ps) (suc i) hit = stays ps i hit
  stays (Some c ∷ ps) (suc i) hit =
      let rest = stays ps i hit in
      at_once (asked_last (laids_at ps) p) (asked c.child (relative_to p c.at)) (ap (λ (h : Hit). h.answer) rest ∙ hit) ∙ rest

  module _ (ps : List (Option Stood)) (i : ℕ) (c : Stood) (within : i < length ps) (is_c : Some c ≡ get_or ps i None) (q : Offset) (is_q : q ≡ relative_to p c.at)
      (not_hit : (asked_last (laids_at (drop (i + 1) ps)) p).answer ≡ false) where
    next-is : asked_last (laids_at (drop i ps)) p ≡ joined (asked_last (laids_at (drop (i + 1) ps)) p) (asked c.child q)
    next-is =
        from_on ps i c within is_c
        ∙ not_yet (asked_last (laids_at (drop (i + 1) ps)) p) (asked c.child (relative_to p c.at)) not_hit
        ∙ ap (λ r. joined (asked_last (laids_at (drop (i + 1) ps)) p) (asked c.child r)) (sym is_q)

    module _ (hit : Bool) (is_hit : hit ≡ (asked c.child q).answer) where
      next_answer : (asked_last (laids_at (drop i ps)) p).answer ≡ hit
      next_answer = ap (λ (h : Hit). h.answer) next-is ∙ sym is_hit

      pub still_missed : hit ≡ false → (asked_last (laids_at (drop i ps)) p).answer ≡ false
      still_missed false_it = next_answer ∙ false_it

      pub still_added : (old mid last : List Laid) → mid ≡ old ++ (asked_last (laids_at (drop (i + 1) ps)) p).added → last ≡ mid ++ (asked c.child q).added
          → last ≡ old ++ (asked_last (laids_at (drop i ps)) p).added
      still_added old mid last is_mid is_last =
          is_last
          ∙ ap (λ l. l ++ (asked c.child q).added) is_mid
          ∙ append_assoc old (asked_last (laids_at (drop (i + 1) ps)) p).added (asked c.child q).added
          ∙ ap (λ (h : Hit). old ++ h.added) (sym next-is)

      pub hit_here : (below : Laids) → below ≡ laids_at ps → hit ≡ true → true ≡ (asked_last below p).answer
      hit_here below is_below true_it =
          sym (ap (λ ls. (asked_last ls p).answer) is_below ∙ ap (λ (h : Hit). h.answer) (stays ps i (next_answer ∙ true_it)) ∙ next_answer ∙ true_it)

      pub added_here : (below : Laids) → below ≡ laids_at ps → hit ≡ true → (old mid last : List Laid) → mid ≡ old ++ (asked_last (laids_at (drop (i + 1) ps)) p).added
          → last ≡ mid ++ (asked c.child q).added → last ≡ old ++ (asked_last below p).added
      added_here below is_below true_it old mid last is_mid is_last =
          still_added old mid last is_mid is_last
          ∙ ap (λ (h : Hit). old ++ h.added) (sym (stays ps i (next_answer ∙ true_it)))
          ∙ ap (λ ls. old ++ (asked_last ls p).added) (sym is_below)

  -- a place that a point lies before adds nothing to what was hit
  module _ (ps : List (Option Stood)) (i : ℕ) (within : i < length ps) (not_hit : (asked_last (laids_at (drop (i + 1) ps)) p).answer ≡ false) where
    pub passed : (place : Option Stood) → place ≡ get_or ps i None → is_before p (option_map offset_of place) ≡ true
        → asked_last (laids_at (drop i ps)) p ≡ asked_last (laids_at (drop (i + 1) ps)) p
    passed None is before = ap (λ ls. asked_last ls p) (none_there ps i within is)
    passed (Some c) is before =
        let q = relative_to p c.at in
        let out : contains (shown_size (opened c.child).facts.frame) q ≡ false = before_out p c.at (shown_size (opened c.child).facts.frame) before in
        next-is ps i c within is q refl not_hit
        ∙ ap (joined (asked_last (laids_at (drop (i + 1) ps)) p)) (outside-is c.child q false (sym out) refl)
        ∙ nothing_more (asked_last (laids_at (drop (i + 1) ps)) p) not_hit
