-- How many rules a flush runs.
use Rattle.std.proofs.Common.{◌≡◌, ap, refl, sym, ◌∙◌, inl, inr, ℕ, ◌+◌, ◌≤◌, Bool, true, false, ◌||◌, ◌&&◌, not, cond, Option, Some, None, List, [], ◌∷◌, arith}
use Rattle.std.proofs.lemmas.Bool.{cases_Bool}
use Rattle.fx_handles.specs.declared.Handle.{Handle}
use Rattle.node_tree.specs.Forest.{Forest, size, weigh}
use Rattle.node_tree.specs.Forest.Forest.{none, tree}
use Rattle.layout_form.specs.declared.asks.Ask.{Ask}
use Rattle.layout_form.specs.Framed.{last_ask, last_asks}
use Rattle.layout_walk.specs.Node.{LayoutNode, member, asked}
use Rattle.layout_walk.specs.Rule.{LayoutParts, ask_of, later}
use Rattle.layout_walk.specs.Full.{asks_at, objects}
use Rattle.layout_walk.specs.Here.{Backs, AreQuiet, nobody_back}
use Rattle.layout_walk.specs.Walk.{LaidAs, Round, IsApart, AskApart, kept_ask, kept_asks}
use Rattle.layout_walk.specs.Asking.{has_frame, asked_so, is_due}
use Rattle.layout_walk.specs.Flush.{held_runs, one_runs, tree_runs, runs, one_each, ticks}
use Rattle.layout_walk.specs.Work.{due_count, IsKnownAs, KnownAs, AreKnown}
use Rattle.layout_walk.proofs.Asks.{same_ask_self}
use Rattle.layout_walk.proofs.Keeping.{visited}
use Rattle.layout_walk.proofs.Seen.{is_clear}
use Rattle.layout_walk.proofs.Rounds.{none_laid}

-- ---- no more than there are nodes

few_held : (n : ℕ) (b : Bool) (m : ℕ) → held_runs n b ≤ n + m
few_held n true m = omega arith
few_held n false m = omega arith

few_once : (n m : ℕ) (P : LayoutParts) (due held : Bool) (v : LayoutNode) (ask : Ask) (kids : Forest LayoutNode) (below : List (Option Ask) → ℕ)
    → ((asks : List (Option Ask)) → below asks ≤ m) → one_runs n P due held v ask kids below ≤ n + m
few_once n m P true true v ask kids below few = few_held n (has_frame v.frame (P.fixed (member v) ask)) m
few_once n m P true false v ask kids below few = let some = few (asks_at P v ask kids (objects P kids)) in omega arith
few_once n m P false true v ask kids below few = omega arith
few_once n m P false false v ask kids below few = let some = few (kept_asks kids) in omega arith

few_tree : (n m : ℕ) (P : LayoutParts) (outer : Bool) (o : Option Ask) (v : LayoutNode) (kids : Forest LayoutNode) (below : List (Option Ask) → ℕ)
    → ((asks : List (Option Ask)) → below asks ≤ m) → tree_runs n P outer o v kids below ≤ n + m
few_tree n m P outer None v kids below few = omega arith
few_tree n m P outer (Some ask) v kids below few = few_once n m P (is_due v ask) (outer && P.holds v.look ask) v ask kids below few

-- the rule of each node is run once at most
pub few_runs : (q : Handle → ℕ) (P : LayoutParts) (outer : Bool) (asks : List (Option Ask)) (f : Forest LayoutNode) → runs q P outer asks f ≤ weigh q f
unfolding runs
few_runs q P outer asks none = omega arith
few_runs q P outer asks (tree h v kids rest) =
    let here = few_tree (q h) (weigh q kids) P outer (ask_of asks) v kids (λ xs. runs q P outer xs kids) (λ xs. few_runs q P outer xs kids) in
    let more = few_runs q P outer (later asks) rest in
    omega arith

few_ticks : (P : LayoutParts) (outer : Bool) (asks : List (Option Ask)) (f : Forest LayoutNode) → ticks P outer asks f ≤ size f
few_ticks P outer asks f = few_runs one_each P outer asks f

-- ---- no more than are due

abbrev head_due : Bool → Bool → ℕ → ℕ → ℕ
head_due shown flag all some = cond {A = ℕ} shown (cond {A = ℕ} flag all some) 0

pub not_due : (flag : Bool) (o : Option Ask) (ask : Ask) → flag ≡ false → o ≡ Some ask → (flag || not (asked_so o ask)) ≡ false
not_due flag o ask clear is =
    ap (λ (b : Bool). b || not (asked_so o ask)) clear ∙ ap (λ (x : Option Ask). not (asked_so x ask)) is ∙ ap not (same_ask_self ask)

due_here : (P : LayoutParts) (held : Bool) (v : LayoutNode) (ask : Ask) (kids : Forest LayoutNode) (below : List (Option Ask) → ℕ) → IsKnownAs ask v
    → ((asks : List (Option Ask)) → below asks ≤ size kids) → below (kept_asks kids) ≤ due_count kids
    → one_runs 1 P (is_due v ask) held v ask kids below ≤ head_due v.shown v.needs_layout (1 + size kids) (due_count kids)
due_here P held v ask kids below known few kept = elim (cases_Bool v.needs_layout) [
  | inl flag ↦
      let all : head_due v.shown v.needs_layout (1 + size kids) (due_count kids) ≡ 1 + size kids =
      ap (λ (b : Bool). head_due b v.needs_layout (1 + size kids) (due_count kids)) known.shown ∙ ap (λ (b : Bool). head_due true b (1 + size kids) (due_count kids)) flag in
      let some = few_once 1 (size kids) P (is_due v ask) held v ask kids below few in
      omega arith
  | inr clear ↦
      let all : head_due v.shown v.needs_layout (1 + size kids) (due_count kids) ≡ due_count kids =
      ap (λ (b : Bool). head_due b v.needs_layout (1 + size kids) (due_count kids)) known.shown ∙ ap (λ (b : Bool). head_due true b (1 + size kids) (due_count kids)) clear in
      let none_here : one_runs 1 P (is_due v ask) held v ask kids below ≡ one_runs 1 P false held v ask kids below =
      ap (λ (b : Bool). one_runs 1 P b held v ask kids below) (not_due v.needs_layout (asked v) ask clear (known.asked clear)) in
      let some = kept_few P held v ask kids below kept in
      omega arith
]
  where
    kept_few : (P : LayoutParts) (held : Bool) (v : LayoutNode) (ask : Ask) (kids : Forest LayoutNode) (below : List (Option Ask) → ℕ)
        → below (kept_asks kids) ≤ due_count kids → one_runs 1 P false held v ask kids below ≤ due_count kids
    kept_few P true v ask kids below kept = omega arith
    kept_few P false v ask kids below kept = kept

due_tree : (P : LayoutParts) (outer : Bool) (o : Option Ask) (v : LayoutNode) (kids : Forest LayoutNode) (below : List (Option Ask) → ℕ) → KnownAs o v
    → ((asks : List (Option Ask)) → below asks ≤ size kids) → below (kept_asks kids) ≤ due_count kids
    → tree_runs 1 P outer o v kids below ≤ head_due v.shown v.needs_layout (1 + size kids) (due_count kids)
due_tree P outer None v kids below known few kept = omega arith
due_tree P outer (Some ask) v kids below known few kept = due_here P (outer && P.holds v.look ask) v ask kids below known few kept

known_by : (v : LayoutNode) (o : Option Ask) → kept_ask v ≡ o → KnownAs o v
known_by v None e = tt
known_by v (Some ask) e = let is = visited v ask e in record { shown = is.0; asked = λ clear. is.1 }

pub kept_known : (f : Forest LayoutNode) → AreKnown (kept_asks f) f
kept_known none = tt
kept_known (tree h v kids rest) = (known_by v (kept_ask v) refl, kept_known rest)

pub ticks_due : (P : LayoutParts) (outer : Bool) (asks : List (Option Ask)) (f : Forest LayoutNode) → AreKnown asks f → ticks P outer asks f ≤ due_count f
unfolding runs
ticks_due P outer asks none known = omega arith
ticks_due P outer asks (tree h v kids rest) known =
    let here = due_tree P outer (ask_of asks) v kids (λ xs. ticks P outer xs kids) known.0 (λ xs. few_ticks P outer xs kids) (ticks_due P outer (kept_asks kids) kids (kept_known kids)) in
    let more = ticks_due P outer (later asks) rest known.1 in
    omega arith

-- ---- nothing is due afterwards

one_due : (v : LayoutNode) (kids : Forest LayoutNode) (all some : ℕ) (shown flag : Bool) → (shown ≡ true → (flag ≡ false) × (some ≡ 0)) → head_due shown flag all some ≡ 0
one_due v kids all some true flag quiet =
    let clear = quiet refl in ap (λ (b : Bool). cond {A = ℕ} b all some) clear.0 ∙ clear.1
one_due v kids all some false flag quiet = refl

pub none_due : (P : LayoutParts) (f : Forest LayoutNode) → AreQuiet P nobody_back f → due_count f ≡ 0
none_due P none quiet = refl
none_due P (tree h v kids rest) quiet =
    let here = one_due v kids (1 + size kids) (due_count kids) v.shown v.needs_layout
    (λ shown. let clear = is_clear P v (AreQuiet P nobody_back kids) (quiet.0 shown) in (clear.0, none_due P kids clear.1)) in
    let more = none_due P rest quiet.1 in
    omega arith

-- ---- two rounds

pub no_runs : (q : Handle → ℕ) (P : LayoutParts) (outer : Bool) (f : Forest LayoutNode) → runs q P outer [] f ≡ 0
unfolding runs
no_runs q P outer none = refl
no_runs q P outer (tree h v kids rest) = let more = no_runs q P outer rest in omega arith

one_joined : (q : Handle → ℕ) (n : ℕ) (P : LayoutParts) (back : Backs) (outer : Bool) (one two : Option Ask) (v : LayoutNode) (kids : Forest LayoutNode) (w : LayoutNode) (below : Forest LayoutNode)
    → IsApart one two → LaidAs P back one v kids w below
    → tree_runs n P outer one v kids (λ xs. runs q P outer xs kids) + tree_runs n P outer two w below (λ xs. runs q P outer xs below)
    ≡ tree_runs n P outer (last_ask one two) v kids (λ xs. runs q P outer xs kids)
one_joined q n P back outer None None v kids w below apart laid = refl
one_joined q n P back outer None (Some ask) v kids w below apart laid =
    let same = ap (λ (x : LayoutNode). tree_runs n P outer (Some ask) x below (λ xs. runs q P outer xs below)) (sym laid.0)
    ∙ ap (λ (f : Forest LayoutNode). tree_runs n P outer (Some ask) v f (λ xs. runs q P outer xs f)) (sym laid.1) in
    omega arith
one_joined q n P back outer (Some ask) None v kids w below apart laid = omega arith
one_joined q n P back outer (Some ask) (Some other) v kids w below apart laid = absurd apart

pub runs_join : (q : Handle → ℕ) (P : LayoutParts) (back : Backs) (outer : Bool) (first rest : List (Option Ask)) (f g : Forest LayoutNode)
    → AskApart first rest → Round P back first f g → runs q P outer first f + runs q P outer rest g ≡ runs q P outer (last_asks first rest) f
unfolding runs
runs_join q P back outer [] rest f g apart round =
    let same : runs q P outer rest f ≡ runs q P outer rest g = ap (λ (x : Forest LayoutNode). runs q P outer rest x) (none_laid P back f g round) in
    let none_first = no_runs q P outer f in
    omega arith
runs_join q P back outer (a ∷ first) [] f g apart round = let none_then = no_runs q P outer g in omega arith
runs_join q P back outer (a ∷ first) (b ∷ rest) none none apart round = refl
runs_join q P back outer (a ∷ first) (b ∷ rest) none (tree k w below last) apart round = absurd round
runs_join q P back outer (a ∷ first) (b ∷ rest) (tree h v kids more) none apart round = absurd round
runs_join q P back outer (a ∷ first) (b ∷ rest) (tree h v kids more) (tree k w below last) apart round =
    let here = one_joined q (q h) P back outer a b v kids w below apart.0 round.1 in
    let name = ap (λ (z : Handle). tree_runs (q z) P outer b w below (λ xs. runs q P outer xs below)) round.0 in
    let next = runs_join q P back outer first rest more last apart.1 round.2 in
    omega arith
