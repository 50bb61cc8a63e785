-- Duties done at the trees of a forest, one after another.
use Rattle.std.proofs.Common.{◌≡◌, ap, refl, sym, subst, ◌∙◌, ℕ, zero, suc, ◌+◌, ◌≤◌, Bool, false, Option, Some, None, List, [], ◌∷◌, map, length, get_or, arith}
use Rattle.fx_geom.specs.declared.shapes.Axis.{Axis}
use Rattle.fx_handles.specs.declared.Handle.{Handle}
use Rattle.node_tree.specs.Forest.{Forest, tops, skip}
use Rattle.node_tree.specs.Forest.Forest.{none, tree}
use Rattle.layout_form.specs.declared.asks.Ask.{Ask}
use Rattle.layout_form.specs.Object.{Setting}
use Rattle.layout_walk.specs.Node.{LayoutNode, member}
use Rattle.layout_walk.specs.Rule.{LayoutParts, Lawful, ask_of, later}
use Rattle.layout_walk.specs.Here.{HoldsOnly, Backs, Here, HereAll}
use Rattle.layout_walk.specs.Walk.{SameMembers, LaidAs, Round}
use Rattle.layout_walk.specs.Flush.{runs}
use Rattle.layout_walk.specs.Measure.{AreMeasured, FirstLaid, FirstMeasured, measure_runs}
use Rattle.layout_walk.specs.Rules.{parts_of}
use Rattle.layout_walk.proofs.Same.{same_self}
use Rattle.layout_walk.proofs.Measuring.{all_ready}
use Rattle.layout_rules.specs.declared.duties.Duty.{Duty}
use Rattle.layout_rules.specs.declared.duties.Duty.TheVariants.{Lay, Measure}
use Rattle.layout_rules.specs.Duties.{Does, DoesIf, duty_of, Served, AllServed, runs_if, runs_left, duty_runs, lay_duties}
use Rattle.layout_rules.specs.Turns.{put}

abbrev zero_handle : Handle
zero_handle = record { index = 0; generation = 0 }

no_tree : (h : Handle) (v : LayoutNode) (kids rest : Forest LayoutNode) → none ≡ tree h v kids rest → ⊥
no_tree h v kids rest e = cc

skip_nothing : (i : ℕ) → skip {T = LayoutNode} i none ≡ none
skip_nothing zero = refl
skip_nothing (suc i) = refl

-- what a duty leaves has the same nodes with the same members, which agree
pub record DoesWell (s : Setting) (v : LayoutNode) (kids : Forest LayoutNode) (w : LayoutNode) (below : Forest LayoutNode) : Type 0 where
  pub member : member v ≡ member w
  pub same : SameMembers kids below
  pub here : Here (parts_of s) w below
  pub all : HereAll (parts_of s) below

module _ (s : Setting) (law : Lawful (parts_of s)) (back : Backs) (only : HoldsOnly (parts_of s) back) where
  pub does_well : (duty : Duty) (v : LayoutNode) (kids : Forest LayoutNode) (w : LayoutNode) (below : Forest LayoutNode)
      → Here (parts_of s) v kids → HereAll (parts_of s) kids → Does (parts_of s) back duty v kids w below → DoesWell s v kids w below
  does_well (Lay ask) v kids w below here all does = record { member = does.member; same = does.same; here = does.here; all = does.all }
  does_well (Measure axis cross) v kids w below here all does =
      let measured : AreMeasured (parts_of s) back axis cross (tree zero_handle v kids none) (tree zero_handle w below none) = (refl, does, tt) in
      let ready = all_ready s law back only axis cross (tree zero_handle v kids none) (tree zero_handle w below none) (here, all, tt) measured in
      record { member = ready.1.member; same = ready.1.same; here = ready.1.here; all = ready.1.all }

  does_if_well : (duty : Option Duty) (v : LayoutNode) (kids : Forest LayoutNode) (w : LayoutNode) (below : Forest LayoutNode)
      → Here (parts_of s) v kids → HereAll (parts_of s) kids → DoesIf (parts_of s) back duty v kids w below → DoesWell s v kids w below
  does_if_well None v kids w below here all does = record {
    member = ap member does.0;
    same = subst (λ (f : Forest LayoutNode). SameMembers kids f) does.1 (same_self kids);
    here = subst (λ (f : Forest LayoutNode). Here (parts_of s) w f) does.1 (subst (λ (x : LayoutNode). Here (parts_of s) x kids) does.0 here);
    all = subst (λ (f : Forest LayoutNode). HereAll (parts_of s) f) does.1 all;
  }
  does_if_well (Some duty) v kids w below here all does = does_well duty v kids w below here all does

  pub served_same : (n : ℕ) (duties : List (Option Duty)) (f g : Forest LayoutNode) → HereAll (parts_of s) f → Served (parts_of s) back n duties f g → SameMembers f g
  served_same zero duties f g all served = subst (λ (k : Forest LayoutNode). SameMembers f k) served (same_self f)
  served_same (suc n) duties none none all served = tt
  served_same (suc n) duties none (tree k w below rest) all served = absurd served
  served_same (suc n) duties (tree h v kids more) none all served = absurd served
  served_same (suc n) duties (tree h v kids more) (tree k w below rest) all served =
      let one = does_if_well (duty_of duties) v kids w below all.0 all.1 served.1 in (served.0, one.member, one.same, served_same n (later duties) more rest all.2 served.2)

  pub all_same : (duties : List (Option Duty)) (f g : Forest LayoutNode) → HereAll (parts_of s) f → AllServed (parts_of s) back duties f g → SameMembers f g
  all_same duties none none all served = tt
  all_same duties none (tree k w below rest) all served = absurd served
  all_same duties (tree h v kids more) none all served = absurd served
  all_same duties (tree h v kids more) (tree k w below rest) all served =
      let one = does_if_well (duty_of duties) v kids w below all.0 all.1 served.1 in (served.0, one.member, one.same, all_same (later duties) more rest all.2 served.2)

  pub all_here : (duties : List (Option Duty)) (f g : Forest LayoutNode) → HereAll (parts_of s) f → AllServed (parts_of s) back duties f g → HereAll (parts_of s) g
  all_here duties none none all served = tt
  all_here duties none (tree k w below rest) all served = absurd served
  all_here duties (tree h v kids more) none all served = absurd served
  all_here duties (tree h v kids more) (tree k w below rest) all served =
      let one = does_if_well (duty_of duties) v kids w below all.0 all.1 served.1 in (one.here, one.all, all_here (later duties) more rest all.2 served.2)

module _ (P : LayoutParts) (back : Backs) where
  pub served_skip : (n : ℕ) (duties : List (Option Duty)) (f g : Forest LayoutNode) → Served P back n duties f g → skip n g ≡ skip n f
  served_skip zero duties f g served = sym served
  served_skip (suc n) duties none none served = refl
  served_skip (suc n) duties none (tree k w below rest) served = absurd served
  served_skip (suc n) duties (tree h v kids more) none served = absurd served
  served_skip (suc n) duties (tree h v kids more) (tree k w below rest) served = served_skip n (later duties) more rest served.2

  later_get : (duties : List (Option Duty)) (i : ℕ) → get_or (later duties) i None ≡ get_or duties (suc i) None
  later_get [] zero = refl
  later_get [] (suc i) = refl
  later_get (duty ∷ duties) i = refl

  duty_get : (duties : List (Option Duty)) → duty_of duties ≡ get_or duties 0 None
  duty_get [] = refl
  duty_get (duty ∷ duties) = refl

  pub served_put : (n : ℕ) (duties : List (Option Duty)) (f g : Forest LayoutNode) (c : Handle) (v w : LayoutNode) (kids below after : Forest LayoutNode) (duty : Duty) → Served P back n duties f g
      → skip n f ≡ tree c v kids after → get_or duties n None ≡ Some duty → Does P back duty v kids w below → Served P back (suc n) duties f (put n w below g)
  served_put zero duties none g c v w kids below after duty served is get does = absurd (no_tree c v kids after is)
  served_put zero duties (tree h x us more) none c v w kids below after duty served is get does = absurd (no_tree h x us more (sym served))
  served_put zero duties (tree h x us more) (tree k y under rest) c v w kids below after duty served is get does =
      let one : h ≡ k = cc in
      let same : more ≡ rest = cc in
      let value : x ≡ v = cc in
      let parts : us ≡ kids = cc in (
        one,
        subst (λ (o : Option Duty). DoesIf P back o x us w below) (sym (duty_get duties ∙ get))
            (subst (λ (z : LayoutNode). Does P back duty z us w below) (sym value) (subst (λ (z : Forest LayoutNode). Does P back duty v z w below) (sym parts) does)),
        same,
      )
  served_put (suc n) duties none none c v w kids below after duty served is get does = absurd (no_tree c v kids after is)
  served_put (suc n) duties none (tree k y under rest) c v w kids below after duty served is get does = absurd served
  served_put (suc n) duties (tree h x us more) none c v w kids below after duty served is get does = absurd served
  served_put (suc n) duties (tree h x us more) (tree k y under rest) c v w kids below after duty served is get does =
      (served.0, served.1, served_put n (later duties) more rest c v w kids below after duty served.2 is (later_get duties n ∙ get) does)

  pub served_pass : (n : ℕ) (duties : List (Option Duty)) (f g : Forest LayoutNode) → Served P back n duties f g → get_or duties n None ≡ None → Served P back (suc n) duties f g
  served_pass zero duties none none served get = tt
  served_pass zero duties none (tree k y under rest) served get = absurd (no_tree k y under rest served)
  served_pass zero duties (tree h x us more) none served get = absurd (no_tree h x us more (sym served))
  served_pass zero duties (tree h x us more) (tree k y under rest) served get =
      let one : h ≡ k = cc in
      let value : x ≡ y = cc in
      let parts : us ≡ under = cc in
      let same : more ≡ rest = cc in
      (one, subst (λ (o : Option Duty). DoesIf P back o x us y under) (sym (duty_get duties ∙ get)) (value, parts), same)
  served_pass (suc n) duties none none served get = tt
  served_pass (suc n) duties none (tree k y under rest) served get = absurd served
  served_pass (suc n) duties (tree h x us more) none served get = absurd served
  served_pass (suc n) duties (tree h x us more) (tree k y under rest) served get =
      (served.0, served.1, served_pass n (later duties) more rest served.2 (later_get duties n ∙ get))

  pub served_all : (n : ℕ) (duties : List (Option Duty)) (f g : Forest LayoutNode) → length (tops f) ≤ n → Served P back n duties f g → AllServed P back duties f g
  served_all zero duties none none few served = tt
  served_all zero duties none (tree k y under rest) few served = absurd (no_tree k y under rest served)
  served_all zero duties (tree h x us more) g few served = absurd (omega arith)
  served_all (suc n) duties none none few served = tt
  served_all (suc n) duties none (tree k y under rest) few served = absurd served
  served_all (suc n) duties (tree h x us more) none few served = absurd served
  served_all (suc n) duties (tree h x us more) (tree k y under rest) few served =
      (served.0, served.1, served_all n (later duties) more rest (omega arith) served.2)

  -- ---- which duties

  laid_so : (asks : List (Option Ask)) (v : LayoutNode) (kids : Forest LayoutNode) (w : LayoutNode) (below : Forest LayoutNode)
      → DoesIf P back (duty_of (lay_duties asks)) v kids w below → LaidAs P back (ask_of asks) v kids w below
  laid_so [] v kids w below does = does
  laid_so (None ∷ asks) v kids w below does = does
  laid_so (Some ask ∷ asks) v kids w below does = does

  later_lay : (asks : List (Option Ask)) → later (lay_duties asks) ≡ lay_duties (later asks)
  later_lay [] = refl
  later_lay (ask ∷ asks) = refl

  pub all_round : (asks : List (Option Ask)) (f g : Forest LayoutNode) → AllServed P back (lay_duties asks) f g → Round P back asks f g
  all_round asks none none served = tt
  all_round asks none (tree k w below rest) served = absurd served
  all_round asks (tree h v kids more) none served = absurd served
  all_round asks (tree h v kids more) (tree k w below rest) served =
      (served.0, laid_so asks v kids w below served.1, all_round (later asks) more rest (subst (λ (js : List (Option Duty)). AllServed P back js more rest) (later_lay asks) served.2))

  pub none_served : (f g : Forest LayoutNode) → AllServed P back [] f g → f ≡ g
  none_served none none served = refl
  none_served none (tree k w below rest) served = absurd served
  none_served (tree h v kids more) none served = absurd served
  none_served (tree h v kids more) (tree k w below rest) served =
      ap (λ (j : Handle). tree j v kids more) served.0
      ∙ ap (λ (x : LayoutNode). tree k x kids more) served.1.0
      ∙ ap (λ (x : Forest LayoutNode). tree k w x more) served.1.1
      ∙ ap (λ (x : Forest LayoutNode). tree k w below x) (none_served more rest served.2)

  pub all_measured : (axis : Axis) (cross : ℕ) (hs : List Handle) (f g : Forest LayoutNode) → hs ≡ tops f → AllServed P back (map (λ k. Some (Measure axis cross)) hs) f g → AreMeasured P back axis cross f g
  all_measured axis cross hs none none is served = tt
  all_measured axis cross hs none (tree k w below rest) is served = absurd served
  all_measured axis cross hs (tree h v kids more) none is served = absurd served
  all_measured axis cross [] (tree h v kids more) (tree k w below rest) is served = absurd (nothing_there h (tops more) is)
    where
      nothing_there : (h : Handle) (hs : List Handle) → [] ≡ h ∷ hs → ⊥
      nothing_there h hs e = cc
  all_measured axis cross (j ∷ hs) (tree h v kids more) (tree k w below rest) is served =
      let tails : hs ≡ tops more = cc in (served.0, served.1, all_measured axis cross hs more rest tails served.2)

  pub first_laid : (ask : Ask) (f g : Forest LayoutNode) → AllServed P back (Some (Lay ask) ∷ []) f g → FirstLaid P back ask f g
  first_laid ask none none served = tt
  first_laid ask none (tree k w below rest) served = absurd served
  first_laid ask (tree h v kids more) none served = absurd served
  first_laid ask (tree h v kids more) (tree k w below rest) served = (served.0, served.1, none_served more rest served.2)

  pub first_measured : (axis : Axis) (cross : ℕ) (f g : Forest LayoutNode) → AllServed P back (Some (Measure axis cross) ∷ []) f g → FirstMeasured P back axis cross f g
  first_measured axis cross none none served = tt
  first_measured axis cross none (tree k w below rest) served = absurd served
  first_measured axis cross (tree h v kids more) none served = absurd served
  first_measured axis cross (tree h v kids more) (tree k w below rest) served = (served.0, served.1, none_served more rest served.2)

-- ---- how many rules they run

module _ (q : Handle → ℕ) (P : LayoutParts) (outer : Bool) where
  pub left_here : (n : ℕ) (duties : List (Option Duty)) (c : Handle) (v : LayoutNode) (kids after f : Forest LayoutNode) → skip n f ≡ tree c v kids after
      → runs_left q P outer n duties f ≡ runs_if q (q c) P outer (get_or duties n None) v kids + runs_left q P outer (suc n) duties f
  left_here n duties c v kids after none is = absurd (no_tree c v kids after (sym (skip_nothing n) ∙ is))
  left_here zero duties c v kids after (tree h x us more) is =
      let name : h ≡ c = cc in
      let value : x ≡ v = cc in
      let parts : us ≡ kids = cc in
      ap (λ (o : Option Duty). runs_if q (q h) P outer o x us + runs_left q P outer zero (later duties) more) (duty_get P (λ look ask. false) duties)
      ∙ ap (λ (z : LayoutNode). runs_if q (q h) P outer (get_or duties 0 None) z us + runs_left q P outer zero (later duties) more) value
      ∙ ap (λ (z : Forest LayoutNode). runs_if q (q h) P outer (get_or duties 0 None) v z + runs_left q P outer zero (later duties) more) parts
      ∙ ap (λ (z : Handle). runs_if q (q z) P outer (get_or duties 0 None) v kids + runs_left q P outer zero (later duties) more) name
  left_here (suc n) duties c v kids after (tree h x us more) is =
      left_here n (later duties) c v kids after more is
      ∙ ap (λ (o : Option Duty). runs_if q (q c) P outer o v kids + runs_left q P outer (suc n) (later duties) more) (later_get P (λ look ask. false) duties n)

  pub left_none : (n : ℕ) (duties : List (Option Duty)) (f : Forest LayoutNode) → length (tops f) ≤ n → runs_left q P outer n duties f ≡ 0
  left_none n duties none few = refl
  left_none zero duties (tree h v kids rest) few = absurd (omega arith)
  left_none (suc n) duties (tree h v kids rest) few = left_none n (later duties) rest (omega arith)

  one_lay : (asks : List (Option Ask)) (v : LayoutNode) (kids : Forest LayoutNode) (h : Handle) → runs_if q (q h) P outer (duty_of (lay_duties asks)) v kids ≡ runs q P outer (ask_of asks ∷ []) (tree h v kids none)
  unfolding runs
  one_lay [] v kids h = refl
  one_lay (None ∷ asks) v kids h = refl
  one_lay (Some ask ∷ asks) v kids h = omega arith

  pub left_lay : (asks : List (Option Ask)) (f : Forest LayoutNode) → runs_left q P outer zero (lay_duties asks) f ≡ runs q P outer asks f
  unfolding runs
  left_lay asks none = refl
  left_lay asks (tree h v kids rest) =
      let one = one_lay asks v kids h in
      let more = ap (λ (js : List (Option Duty)). runs_left q P outer zero js rest) (later_lay P (λ look ask. false) asks) ∙ left_lay (later asks) rest in
      omega (arith, one, more)

  pub left_measure : (axis : Axis) (cross : ℕ) (hs : List Handle) (f : Forest LayoutNode) → hs ≡ tops f
      → runs_left q P outer zero (map (λ k. Some (Measure axis cross)) hs) f ≡ measure_runs q P outer axis cross f
  left_measure axis cross hs none is = refl
  left_measure axis cross [] (tree h v kids rest) is = absurd (nothing_there h (tops rest) is)
    where
      nothing_there : (h : Handle) (hs : List Handle) → [] ≡ h ∷ hs → ⊥
      nothing_there h hs e = cc
  left_measure axis cross (j ∷ hs) (tree h v kids rest) is =
      let tails : hs ≡ tops rest = cc in
      ap (λ (n : ℕ). duty_runs q (q h) P outer (Measure axis cross) v kids + n) (left_measure axis cross hs rest tails)

  pub left_nobody : (f : Forest LayoutNode) → runs_left q P outer zero [] f ≡ 0
  left_nobody none = refl
  left_nobody (tree h v kids rest) = let more = left_nobody rest in omega arith
