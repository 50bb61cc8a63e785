-- Two rounds of asking are one, where nobody is asked in both.
use Rattle.std.proofs.Common.{◌≡◌, ap, refl, sym, subst, ◌∙◌, false, Option, Some, None, option_map, List, [], ◌∷◌}
use Rattle.fx_handles.specs.declared.Handle.{Handle}
use Rattle.node_tree.specs.Forest.{Forest}
use Rattle.node_tree.specs.Forest.Forest.{none, tree}
use Rattle.plain_tree.specs.declared.laid.Frame.{Frame}
use Rattle.layout_form.specs.declared.asks.Ask.{Ask}
use Rattle.layout_form.specs.Framed.{answers_of, last_ask, last_asks}
use Rattle.layout_walk.specs.Node.{LayoutNode, member, stored, frame_or}
use Rattle.layout_walk.specs.Rule.{LayoutParts, ask_of, later}
use Rattle.layout_walk.specs.Here.{Backs, Here, HereAll}
use Rattle.layout_walk.specs.Walk.{SameMembers, LaidAs, Round, LaidSo, AreLaid, IsApart, AskApart}
use Rattle.layout_walk.proofs.Same.{same_self}

-- what was laid out as it was asked stands so
pub so_laid : (P : LayoutParts) (back : Backs) (o : Option Ask) (v : LayoutNode) (kids : Forest LayoutNode) (w : LayoutNode) (below : Forest LayoutNode)
    → LaidAs P back o v kids w below → LaidSo P back o v kids w below
so_laid P back None v kids w below laid = record { value = ap (λ (x : LayoutNode). record x { shown = false }) (sym laid.0); inside = sym laid.1 }
so_laid P back (Some ask) v kids w below laid = record { asked = laid.asked; settled = laid.settled; quiet = laid.quiet; corrected = laid.corrected }

pub all_laid : (P : LayoutParts) (back : Backs) (asks : List (Option Ask)) (f g : Forest LayoutNode) → Round P back asks f g → AreLaid P back asks f g
all_laid P back asks none none round = tt
all_laid P back asks none (tree k w below rest) round = absurd round
all_laid P back asks (tree h v kids more) none round = absurd round
all_laid P back asks (tree h v kids more) (tree k w below rest) round =
    (so_laid P back (ask_of asks) v kids w below round.1, all_laid P back (later asks) more rest round.2)

-- nobody is asked: all is as before
pub none_laid : (P : LayoutParts) (back : Backs) (f g : Forest LayoutNode) → Round P back [] f g → f ≡ g
none_laid P back none none round = refl
none_laid P back none (tree k w below rest) round = absurd round
none_laid P back (tree h v kids more) none round = absurd round
none_laid P back (tree h v kids more) (tree k w below rest) round =
    ap (λ (j : Handle). tree j v kids more) round.0
    ∙ ap (λ (x : LayoutNode). tree k x kids more) round.1.0
    ∙ ap (λ (f : Forest LayoutNode). tree k w f more) round.1.1
    ∙ ap (λ (f : Forest LayoutNode). tree k w below f) (none_laid P back more rest round.2)

pub ask_nobody : (P : LayoutParts) (back : Backs) (f : Forest LayoutNode) → Round P back [] f f
ask_nobody P back none = tt
ask_nobody P back (tree h v kids rest) = (refl, (refl, refl), ask_nobody P back rest)

-- ---- the second round goes on from the first

after_none : (P : LayoutParts) (back : Backs) (o : Option Ask) (v u : LayoutNode) (kids below : Forest LayoutNode) (w : LayoutNode) (under : Forest LayoutNode)
    → (v ≡ w) × (kids ≡ under) → LaidAs P back o w under u below → LaidAs P back o v kids u below
after_none P back o v u kids below w under same laid =
    subst (λ (f : Forest LayoutNode). LaidAs P back o v f u below) (sym same.1) (subst (λ (x : LayoutNode). LaidAs P back o x under u below) (sym same.0) laid)

-- whatever the first one asked, nothing was done after it
before_none : (P : LayoutParts) (back : Backs) (o : Option Ask) (v u : LayoutNode) (kids below : Forest LayoutNode) (w : LayoutNode) (under : Forest LayoutNode)
    → LaidAs P back o v kids w under → (w ≡ u) × (under ≡ below) → LaidAs P back o v kids u below
before_none P back o v u kids below w under laid same =
    subst (λ (f : Forest LayoutNode). LaidAs P back o v kids u f) same.1 (subst (λ (x : LayoutNode). LaidAs P back o v kids x under) same.0 laid)

one_joins : (P : LayoutParts) (back : Backs) (one two : Option Ask) (v u : LayoutNode) (kids below : Forest LayoutNode) (w : LayoutNode) (under : Forest LayoutNode)
    → IsApart one two → LaidAs P back one v kids w under → LaidAs P back two w under u below → LaidAs P back (last_ask one two) v kids u below
one_joins P back None None v u kids below w under apart first rest = after_none P back None v u kids below w under first rest
one_joins P back None (Some ask) v u kids below w under apart first rest = after_none P back (Some ask) v u kids below w under first rest
one_joins P back (Some ask) None v u kids below w under apart first rest = before_none P back (Some ask) v u kids below w under first rest
one_joins P back (Some ask) (Some other) v u kids below w under apart first rest = absurd apart

pub rounds_join : (P : LayoutParts) (back : Backs) (first rest : List (Option Ask)) (f g k : Forest LayoutNode)
    → AskApart first rest → Round P back first f g → Round P back rest g k → Round P back (last_asks first rest) f k
rounds_join P back [] rest f g k apart one two = subst (λ (x : Forest LayoutNode). Round P back rest x k) (sym (none_laid P back f g one)) two
rounds_join P back (a ∷ first) [] f g k apart one two = subst (λ (x : Forest LayoutNode). Round P back (a ∷ first) f x) (none_laid P back g k two) one
rounds_join P back (a ∷ first) (b ∷ rest) none none none apart one two = tt
rounds_join P back (a ∷ first) (b ∷ rest) none none (tree j u under last) apart one two = absurd two
rounds_join P back (a ∷ first) (b ∷ rest) none (tree j u under last) k apart one two = absurd one
rounds_join P back (a ∷ first) (b ∷ rest) (tree h v kids more) none k apart one two = absurd one
rounds_join P back (a ∷ first) (b ∷ rest) (tree h v kids more) (tree i w under middle) none apart one two = absurd two
rounds_join P back (a ∷ first) (b ∷ rest) (tree h v kids more) (tree i w under middle) (tree j u below last) apart one two =
    (one.0 ∙ two.0, one_joins P back a b v u kids below w under apart.0 one.1 two.1, rounds_join P back first rest more middle last apart.1 one.2 two.2)

-- ---- the first answers are as they were

one_answer : (P : LayoutParts) (back : Backs) (one two : Option Ask) (v : LayoutNode) (kids : Forest LayoutNode) (w : LayoutNode) (below : Forest LayoutNode)
    → IsApart one two → LaidAs P back two v kids w below → option_map (λ (ask : Ask). frame_or v.frame) one ≡ option_map (λ (ask : Ask). frame_or w.frame) one
one_answer P back None two v kids w below apart laid = refl
one_answer P back (Some ask) None v kids w below apart laid = ap (λ (x : LayoutNode). Some (frame_or x.frame)) laid.0
one_answer P back (Some ask) (Some other) v kids w below apart laid = absurd apart

nobody_answers : (P : LayoutParts) (back : Backs) (rest : List (Option Ask)) (f g : Forest LayoutNode) → Round P back rest f g → answers_of [] (stored f) ≡ answers_of [] (stored g)
nobody_answers P back rest none none round = refl
nobody_answers P back rest none (tree k w below last) round = absurd round
nobody_answers P back rest (tree h v kids more) none round = absurd round
nobody_answers P back rest (tree h v kids more) (tree k w below last) round =
    ap (λ (fs : List (Option Frame)). None ∷ fs) (nobody_answers P back (later rest) more last round.2)

pub answers_kept : (P : LayoutParts) (back : Backs) (first rest : List (Option Ask)) (f g : Forest LayoutNode)
    → AskApart first rest → Round P back rest f g → answers_of first (stored f) ≡ answers_of first (stored g)
answers_kept P back [] rest f g apart round = nobody_answers P back rest f g round
answers_kept P back (a ∷ first) [] f g apart round = ap (λ (x : Forest LayoutNode). answers_of (a ∷ first) (stored x)) (none_laid P back f g round)
answers_kept P back (a ∷ first) (b ∷ rest) none none apart round = refl
answers_kept P back (a ∷ first) (b ∷ rest) none (tree k w below last) apart round = absurd round
answers_kept P back (a ∷ first) (b ∷ rest) (tree h v kids more) none apart round = absurd round
answers_kept P back (a ∷ first) (b ∷ rest) (tree h v kids more) (tree k w below last) apart round =
    ap (λ (o : Option Frame). o ∷ answers_of first (stored more)) (one_answer P back a b v kids w below apart.0 round.1)
    ∙ ap (λ (fs : List (Option Frame)). option_map (λ (ask : Ask). frame_or w.frame) a ∷ fs) (answers_kept P back first rest more last apart.1 round.2)

-- ---- what the trees are after a round

one_same : (P : LayoutParts) (back : Backs) (v : LayoutNode) (kids : Forest LayoutNode) (w : LayoutNode) (below : Forest LayoutNode) (o : Option Ask)
    → LaidAs P back o v kids w below → (member v ≡ member w) × SameMembers kids below
one_same P back v kids w below None laid = (ap member laid.0, subst (λ (f : Forest LayoutNode). SameMembers kids f) laid.1 (same_self kids))
one_same P back v kids w below (Some ask) laid = (laid.member, laid.same)

pub round_same : (P : LayoutParts) (back : Backs) (asks : List (Option Ask)) (f g : Forest LayoutNode) → Round P back asks f g → SameMembers f g
round_same P back asks none none round = tt
round_same P back asks none (tree k w below rest) round = absurd round
round_same P back asks (tree h v kids more) none round = absurd round
round_same P back asks (tree h v kids more) (tree k w below rest) round =
    let one = one_same P back v kids w below (ask_of asks) round.1 in
    (round.0, one.0, one.1, round_same P back (later asks) more rest round.2)

one_here : (P : LayoutParts) (back : Backs) (v : LayoutNode) (kids : Forest LayoutNode) (w : LayoutNode) (below : Forest LayoutNode) (o : Option Ask)
    → Here P v kids → HereAll P kids → LaidAs P back o v kids w below → Here P w below × HereAll P below
one_here P back v kids w below None here all laid =
    (subst (λ (f : Forest LayoutNode). Here P w f) laid.1 (subst (λ (x : LayoutNode). Here P x kids) laid.0 here), subst (λ (f : Forest LayoutNode). HereAll P f) laid.1 all)
one_here P back v kids w below (Some ask) here all laid = (laid.here, laid.all)

pub round_here : (P : LayoutParts) (back : Backs) (asks : List (Option Ask)) (f g : Forest LayoutNode) → HereAll P f → Round P back asks f g → HereAll P g
round_here P back asks none none all round = tt
round_here P back asks none (tree k w below rest) all round = absurd round
round_here P back asks (tree h v kids more) none all round = absurd round
round_here P back asks (tree h v kids more) (tree k w below rest) all round =
    let one = one_here P back v kids w below (ask_of asks) all.0 all.1 round.1 in
    (one.0, one.1, round_here P back (later asks) more rest all.2 round.2)
