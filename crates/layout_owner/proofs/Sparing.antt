-- An outer flush leaves alone what isn't due.
use Rattle.std.proofs.Common.{◌≡◌, ap, refl, sym, subst, ◌∙◌, inl, inr, ◌⊎◌, ℕ, ◌+◌, ◌≤◌, Bool, true, false, ◌&&◌, cond, Option, Some, None, option_map, List, [], ◌∷◌, arith}
use Rattle.std.proofs.lemmas.Bool.{cases_Bool, true≢false, false≢true}
use Rattle.fx_geom.specs.Bounds.{tight}
use Rattle.fx_geom.specs.Offset.{origin}
use Rattle.fx_geom.specs.declared.shapes.Offset.{Offset}
use Rattle.fx_geom.specs.declared.shapes.Size.{Size}
use Rattle.fx_handles.specs.declared.Handle.{Handle}
use Rattle.fx_handles.specs.HandleLaws.{same-eq}
use Rattle.node_tree.specs.Forest.{TreeNode, Forest, Stands, In, IsDistinct, weigh}
use Rattle.node_tree.specs.Forest.Forest.{none, tree}
use Rattle.node_tree.specs.Tree.{Tree}
use Rattle.node_tree.proofs.ForestLemmas.{same_Some}
use Rattle.layout_form.specs.declared.asks.Ask.{Ask}
use Rattle.layout_form.specs.declared.asks.Ask.TheVariants.{AsBox}
use Rattle.layout_form.specs.Object.{Setting}
use Rattle.render_tree.specs.Object.{RenderObject}
use Rattle.render_tree.specs.Plain.{root_tree}
use Rattle.layout_walk.specs.Asking.{has_frame, is_due}
use Rattle.layout_walk.specs.Flush.{held_runs, one_runs, tree_runs, runs}
use Rattle.layout_walk.specs.Full.{place_of, past, asks_at, made_at, objects}
use Rattle.layout_walk.specs.Here.{ShownAs, StandAs, IsGiven, Here, HereAll, Backs, IsQuiet, AreQuiet, outer_back}
use Rattle.layout_walk.specs.Node.{LayoutNode, NodeMember, member, asked, ask_in}
use Rattle.layout_walk.specs.Rule.{LayoutParts, Lawful, ask_of, later, scroll_after}
use Rattle.layout_walk.specs.Rules.{parts_of, is_list}
use Rattle.layout_walk.specs.Walk.{SameMembers, IsLeft, CorrectedAs, HeldOr, MayCorrect, AreCorrected, IsCorrected, kept_asks}
use Rattle.layout_walk.specs.Work.{IsKnownAs, KnownAs, AreKnown}
use Rattle.layout_walk.proofs.Correcting.{corrected_same, corrected_asks}
use Rattle.layout_walk.proofs.Counting.{few_runs, not_due, kept_known}
use Rattle.layout_walk.proofs.Fresh.{answers_full, given_full}
use Rattle.layout_walk.proofs.Standing.{stood_all}
use Rattle.layout_rules.specs.declared.duties.Duty.TheVariants.{Lay}
use Rattle.layout_rules.specs.Flags.{list_flag, flag_in, flag_at, FlagsRun}
use Rattle.layout_rules.specs.Nodes.{layout_nodes, seen_at, SeenAt}
use Rattle.layout_rules.specs.Serving.{weight_of}
use Rattle.layout_owner.specs.Undue.{AreUndue, RootUndue, RootAsked}
use Rattle.layout_owner.proofs.Asking.{stand_full}
use Rattle.layout_owner.proofs.Rooting.{Found, placed, Laid}

-- ---- how much of a forest is due, where each node counts for so much

abbrev head_due : Bool → Bool → ℕ → ℕ → ℕ
head_due shown flag all some = cond {A = ℕ} shown (cond {A = ℕ} flag all some) 0

abbrev due_weigh : (Handle → ℕ) → Forest LayoutNode → ℕ
due_weigh q none = 0
due_weigh q (tree h v kids rest) = head_due v.shown v.needs_layout (q h + weigh q kids) (due_weigh q kids) + due_weigh q rest

head_few : (shown flag : Bool) (all some : ℕ) → some ≤ all → head_due shown flag all some ≤ all
head_few true true all some few = omega arith
head_few true false all some few = few
head_few false flag all some few = omega arith

due_few : (q : Handle → ℕ) (f : Forest LayoutNode) → due_weigh q f ≤ weigh q f
due_few q none = omega arith
due_few q (tree h v kids rest) =
    let some = due_few q kids in
    let here = head_few v.shown v.needs_layout (q h + weigh q kids) (due_weigh q kids) (omega (arith, some)) in
    let more = due_few q rest in
    omega (arith, here, more)

few_held : (n : ℕ) (b : Bool) (m : ℕ) → held_runs n b ≤ n + m
few_held n true m = omega arith
few_held n false m = omega arith

few_once : (n m : ℕ) (P : LayoutParts) (due held : Bool) (v : LayoutNode) (ask : Ask) (kids : Forest LayoutNode) (below : List (Option Ask) → ℕ)
    → ((asks : List (Option Ask)) → below asks ≤ m) → one_runs n P due held v ask kids below ≤ n + m
few_once n m P true true v ask kids below few = few_held n (has_frame v.frame (P.fixed (member v) ask)) m
few_once n m P true false v ask kids below few = let some = few (asks_at P v ask kids (objects P kids)) in omega (arith, some)
few_once n m P false true v ask kids below few = omega arith
few_once n m P false false v ask kids below few = let some = few (kept_asks kids) in omega (arith, some)

clear_runs : (n d : ℕ) (P : LayoutParts) (due held : Bool) (v : LayoutNode) (ask : Ask) (kids : Forest LayoutNode) (below : List (Option Ask) → ℕ) → due ≡ false
    → below (kept_asks kids) ≤ d → one_runs n P due held v ask kids below ≤ d
clear_runs n d P true held v ask kids below e few = absurd (true≢false e)
clear_runs n d P false true v ask kids below e few = omega arith
clear_runs n d P false false v ask kids below e few = few

due_here : (n m d : ℕ) (P : LayoutParts) (held : Bool) (v : LayoutNode) (ask : Ask) (kids : Forest LayoutNode) (below : List (Option Ask) → ℕ) → IsKnownAs ask v
    → ((asks : List (Option Ask)) → below asks ≤ m) → below (kept_asks kids) ≤ d → one_runs n P (is_due v ask) held v ask kids below ≤ head_due v.shown v.needs_layout (n + m) d
due_here n m d P held v ask kids below known few kept = elim (cases_Bool v.needs_layout) [
  | inl flag ↦
      let all : head_due v.shown v.needs_layout (n + m) d ≡ n + m =
      ap (λ (b : Bool). head_due b v.needs_layout (n + m) d) known.shown ∙ ap (λ (b : Bool). head_due true b (n + m) d) flag in
      let some = few_once n m P (is_due v ask) held v ask kids below few in
      omega (arith, all, some)
  | inr clear ↦
      let all : head_due v.shown v.needs_layout (n + m) d ≡ d =
      ap (λ (b : Bool). head_due b v.needs_layout (n + m) d) known.shown ∙ ap (λ (b : Bool). head_due true b (n + m) d) clear in
      let some = clear_runs n d P (is_due v ask) held v ask kids below (not_due v.needs_layout (asked v) ask clear (known.asked clear)) kept in
      omega (arith, all, some)
]

due_tree : (n m d : ℕ) (P : LayoutParts) (outer : Bool) (o : Option Ask) (v : LayoutNode) (kids : Forest LayoutNode) (below : List (Option Ask) → ℕ) → KnownAs o v
    → ((asks : List (Option Ask)) → below asks ≤ m) → below (kept_asks kids) ≤ d → tree_runs n P outer o v kids below ≤ head_due v.shown v.needs_layout (n + m) d
due_tree n m d P outer None v kids below known few kept = omega arith
due_tree n m d P outer (Some ask) v kids below known few kept = due_here n m d P (outer && P.holds v.look ask) v ask kids below known few kept

runs_due : (q : Handle → ℕ) (P : LayoutParts) (outer : Bool) (asks : List (Option Ask)) (f : Forest LayoutNode) → AreKnown asks f → runs q P outer asks f ≤ due_weigh q f
unfolding runs
runs_due q P outer asks none known = omega arith
runs_due q P outer asks (tree h v kids rest) known =
    let here = due_tree (q h) (weigh q kids) (due_weigh q kids) P outer (ask_of asks) v kids (λ xs. runs q P outer xs kids) known.0 (λ xs. few_runs q P outer xs kids)
    (runs_due q P outer (kept_asks kids) kids (kept_known kids)) in
    let more = runs_due q P outer (later asks) rest known.1 in
    omega (arith, here, more)

-- ---- lists that needn't be laid out

-- a list in the window that needn't be laid out, below nodes that needn't be, needn't be afterwards
abbrev ClearLists : Forest LayoutNode → Forest LayoutNode → Type 0
ClearLists none g = Unit {0}
ClearLists (tree h v kids more) none = Unit {0}
ClearLists (tree h v kids more) (tree k w below rest) =
    (v.shown ≡ true → v.needs_layout ≡ false → (is_list w.look ≡ true → w.needs_layout ≡ false) × ClearLists kids below) × ClearLists more rest

clear_flag : (v : LayoutNode) → v.needs_layout ≡ false → list_flag v ≡ 0
clear_flag v clear = ap (λ (b : Bool). cond {A = ℕ} (b && is_list v.look) 1 0) clear

flag_clear : (w : LayoutNode) → list_flag w ≡ 0 → is_list w.look ≡ true → w.needs_layout ≡ false
flag_clear w e list = by (cases_Bool w.needs_layout)
  where
    by : (w.needs_layout ≡ true) ⊎ (w.needs_layout ≡ false) → w.needs_layout ≡ false
    by (inl flag) =
        let one : list_flag w ≡ 1 = ap (λ (b : Bool). cond {A = ℕ} (b && is_list w.look) 1 0) flag ∙ ap (λ (b : Bool). cond {A = ℕ} b 1 0) list in
        absurd (omega (arith, e, one))
    by (inr clear) = clear

abbrev head_of : LayoutNode → Handle → Forest LayoutNode → Handle → ℕ
head_of v h kids j = head_due v.shown v.needs_layout (weight_of j h + weigh (weight_of j) kids) (due_weigh (weight_of j) kids)

clear_lists : (at now : Handle → Option (TreeNode LayoutNode)) (p q : Option Handle) (f g : Forest LayoutNode) → SameMembers f g → Stands at p f → Stands now q g → IsDistinct f
    → ((j : Handle) → In j f → flag_in (now j) ≤ flag_in (at j) + due_weigh (weight_of j) f) → ClearLists f g
clear_lists at now p q none g same stands there distinct few = tt
clear_lists at now p q (tree h v kids more) none same stands there distinct few = tt
clear_lists at now p q (tree h v kids more) (tree k w below rest) same stands there distinct few = (
  (λ shown clear. (
    flag_clear w (no_flag shown clear),
    clear_lists at now (Some h) (Some k) kids below same.2 stands.1 there.1 (λ j. let d = distinct j in omega (arith, d)) (λ j inside. few_below shown clear j inside),
  )),
  clear_lists at now p q more rest same.3 stands.2 there.2 (λ j. let d = distinct j in omega (arith, d)) few_later,
)
  where
    clear_head : v.shown ≡ true → v.needs_layout ≡ false → (j : Handle) → head_of v h kids j ≡ due_weigh (weight_of j) kids
    clear_head shown clear j =
        ap (λ (b : Bool). head_due b v.needs_layout (weight_of j h + weigh (weight_of j) kids) (due_weigh (weight_of j) kids)) shown
        ∙ ap (λ (b : Bool). head_due true b (weight_of j h + weigh (weight_of j) kids) (due_weigh (weight_of j) kids)) clear

    no_flag : v.shown ≡ true → v.needs_layout ≡ false → list_flag w ≡ 0
    no_flag shown clear =
        let own : weight_of h h ≡ 1 = ap (λ (b : Bool). cond {A = ℕ} b 1 0) (same-eq h h refl) in
        let d = distinct h in
        let here = few h (omega (arith, own)) in
        let now_is : flag_in (now h) ≡ list_flag w = ap (λ (x : Handle). flag_in (now x)) same.0 ∙ ap flag_in there.0 in
        let was : flag_in (at h) ≡ 0 = ap flag_in stands.0 ∙ clear_flag v clear in
        let top = clear_head shown clear h in
        let some = due_few (weight_of h) kids in
        let others = due_few (weight_of h) more in
        omega (arith, own, d, here, now_is, was, top, some, others)

    few_below : v.shown ≡ true → v.needs_layout ≡ false → (j : Handle) → In j kids → flag_in (now j) ≤ flag_in (at j) + due_weigh (weight_of j) kids
    few_below shown clear j inside =
        let d = distinct j in
        let here = few j (omega (arith, inside)) in
        let top = clear_head shown clear j in
        let others = due_few (weight_of j) more in
        omega (arith, d, here, top, others, inside)

    few_later : (j : Handle) → In j more → flag_in (now j) ≤ flag_in (at j) + due_weigh (weight_of j) more
    few_later j inside =
        let d = distinct j in
        let here = few j (omega (arith, inside)) in
        let some = due_few (weight_of j) kids in
        let top = head_few v.shown v.needs_layout (weight_of j h + weigh (weight_of j) kids) (due_weigh (weight_of j) kids) (omega (arith, some)) in
        omega (arith, d, here, top, inside)

-- ---- what isn't due

undue_self : (f : Forest LayoutNode) → AreUndue f f
undue_self none = tt
undue_self (tree h v kids rest) = (refl, refl, (λ out. (refl, refl)), (λ shown clear. (clear, refl, undue_self kids)), undue_self rest)

left_same : (v w : LayoutNode) → w.shown ≡ false → v.shown ≡ false → record w { shown = false } ≡ record v { shown = false } → w ≡ v
left_same v w gone was e =
    ap (λ (b : Bool). record w { shown = b }) gone ∙ (e ∙ ap (λ (b : Bool). record v { shown = b }) (sym was))

module _ (s : Setting) (law : Lawful (parts_of s)) where
  abbrev P : LayoutParts
  P = parts_of s

  abbrev back : Backs
  back = outer_back (parts_of s)

  abbrev CorrectedNode : Option Ask → LayoutNode → Forest LayoutNode → LayoutNode → Forest LayoutNode → Type 0
  CorrectedNode o v kids w below = CorrectedAs o (λ ask. IsCorrected P back ask v kids w below) (IsLeft v kids w below)

  abbrev NodeUndue : LayoutNode → Forest LayoutNode → LayoutNode → Forest LayoutNode → Type 0
  NodeUndue v kids w below =
      (asked w ≡ asked v) × (w.shown ≡ v.shown) × (v.shown ≡ false → (w ≡ v) × (below ≡ kids))
      × (v.shown ≡ true → v.needs_layout ≡ false → (w.needs_layout ≡ false) × (w.scroll ≡ v.scroll) × AreUndue kids below)

  -- what is said of the trees below a node, however they are asked
  abbrev FurtherUndue : Forest LayoutNode → Forest LayoutNode → Type 0
  FurtherUndue kids below =
      (asks : List (Option Ask)) (ats places : List Offset) → StandAs asks ats kids → StandAs asks places below → AreCorrected P back asks kids below → AreQuiet P back below → ClearLists kids below
      → AreUndue kids below

  -- full layout leaves a node scrolled as it is, where its stored layout is that
  stays_scrolled : (v w : LayoutNode) (ask : Ask) (kids : Forest LayoutNode) → Here P v kids → HereAll P kids → v.needs_layout ≡ false → asked v ≡ Some ask → MayCorrect P v ask kids w
      → w.scroll ≡ v.scroll
  stays_scrolled v w ask kids here all clear is (inl e) = e
  stays_scrolled v w ask kids here all clear is (inr e) =
      let given : IsGiven P v kids (objects P kids) = given_full P law v kids (here.closed clear) (answers_full P law kids all) (here.consistent clear) in
      let one : given.ask ≡ ask = same_Some (sym given.asked ∙ is) in
      e ∙ (ap (λ (a : Ask). scroll_after v.look (made_at P v a kids (objects P kids)) v.scroll) (sym one) ∙ given.gives.scroll)

  one_undue : (o : Option Ask) (at place : Offset) (v w : LayoutNode) (kids below : Forest LayoutNode) → Here P v kids → HereAll P kids → Here P w below → HereAll P below → member v ≡ member w
      → ShownAs o at v → ShownAs o place w → CorrectedNode o v kids w below → (w.shown ≡ true → IsQuiet P back w (AreQuiet P back below))
      → (v.shown ≡ true → v.needs_layout ≡ false → (is_list w.look ≡ true → w.needs_layout ≡ false) × ClearLists kids below) → FurtherUndue kids below → NodeUndue v kids w below
  one_undue None at place v w kids below here all here_now all_now is was stands corrected quiet lists further = (
    ap (λ (x : LayoutNode). option_map ask_in x.frame) corrected.value,
    stands ∙ sym was,
    (λ out. (left_same v w stands was corrected.value, corrected.inside)),
    (λ shown clear. absurd (false≢true (sym was ∙ shown))),
  )
  one_undue (Some ask) at place v w kids below here all here_now all_now is was stands corrected quiet lists further = (
    stands.asked ∙ sym was.asked,
    stands.shown ∙ sym was.shown,
    (λ out. absurd (true≢false (sym was.shown ∙ out))),
    (λ shown clear. (
      calm shown clear (quiet stands.shown),
      stays_scrolled v w ask kids here all clear was.asked corrected.0,
      by_back shown clear (back v.look (Some ask)) refl corrected.1 (quiet stands.shown),
    )),
  )
    where
      held_now : back w.look (asked w) ≡ true → back w.look (Some ask) ≡ true
      held_now holds = ap (λ (o : Option Ask). back w.look o) (sym stands.asked) ∙ holds

      calm : v.shown ≡ true → v.needs_layout ≡ false → IsQuiet P back w (AreQuiet P back below) → w.needs_layout ≡ false
      calm shown clear (inl held) = (lists shown clear).0 (law.holds_lists w.look ask (held_now held.holds))
      calm shown clear (inr quiet_now) = quiet_now.0

      by_quiet : v.shown ≡ true → v.needs_layout ≡ false → back v.look (Some ask) ≡ false → AreCorrected P back (asks_at P v ask kids (objects P kids)) kids below
          → IsQuiet P back w (AreQuiet P back below) → AreUndue kids below
      by_quiet shown clear e laid (inl held) = absurd (true≢false (sym (ap (λ (m : NodeMember). back m.look (Some ask)) is ∙ held_now held.holds) ∙ e))
      by_quiet shown clear e laid (inr quiet_now) =
          let asked_so = asks_at P v ask kids (objects P kids) in
          let before = stand_full P law back v ask kids here all clear was.asked in
          let now = stand_full P law back w ask below here_now all_now quiet_now.0 stands.asked in
          let stand : StandAs asked_so now.places below =
          subst (λ (xs : List (Option Ask)). StandAs xs now.places below)
          (sym (corrected_asks P law back v w ask kids below is (corrected_same P back asked_so kids below laid) corrected.0)) now.stand in
          further asked_so before.places now.places before.stand stand laid quiet_now.1 (lists shown clear).1

      by_back : v.shown ≡ true → v.needs_layout ≡ false → (b : Bool) → back v.look (Some ask) ≡ b
          → HeldOr b (below ≡ kids) (AreCorrected P back (asks_at P v ask kids (objects P kids)) kids below) → IsQuiet P back w (AreQuiet P back below) → AreUndue kids below
      by_back shown clear true e held quiet_now = subst (λ (f : Forest LayoutNode). AreUndue kids f) (sym held) (undue_self kids)
      by_back shown clear false e laid quiet_now = by_quiet shown clear e laid quiet_now

  all_undue : (asks : List (Option Ask)) (ats places : List Offset) (f g : Forest LayoutNode) → HereAll P f → HereAll P g → StandAs asks ats f → StandAs asks places g → AreCorrected P back asks f g
      → AreQuiet P back g → ClearLists f g → AreUndue f g
  all_undue asks ats places none none here now was stands corrected quiet lists = tt
  all_undue asks ats places none (tree k w below rest) here now was stands corrected quiet lists = absurd corrected
  all_undue asks ats places (tree h v kids more) none here now was stands corrected quiet lists = absurd corrected
  all_undue asks ats places (tree h v kids more) (tree k w below rest) here now was stands corrected quiet lists =
      let one = one_undue (ask_of asks) (place_of ats) (place_of places) v w kids below here.0 here.1 now.0 now.1 corrected.1 was.0 stands.0 corrected.2 quiet.0 lists.0
      (λ xs ats ps a b c q l. all_undue xs ats ps kids below here.1 now.1 a b c q l) in (
        one.0,
        one.1,
        one.2,
        one.3,
        all_undue (later asks) (past (ask_of asks) ats) (past (ask_of asks) places) more rest here.2 now.2 was.1 stands.1 corrected.3 quiet.1 lists.1,
      )

  -- ---- the root

  module _ (view : Size) (t0 t2 t3 t5 : Tree RenderObject) (h : Handle) (found : Found s t0 h) (before after : ℕ) (laid : Laid s t0 h found true (tight view) t3 before after)
      (seen : SeenAt t2 h (tree h (placed found.value) found.kids none)) (flags : FlagsRun (parts_of s) true (Lay (AsBox (tight view))) t2 t3 h) where
    abbrev ask : Ask
    ask = AsBox (tight view)

    abbrev v : LayoutNode
    v = placed found.value

    -- the flags of lists below a root that needn't be laid out
    few_flags : found.value.needs_layout ≡ false → asked found.value ≡ Some ask → (j : Handle) → flag_at t3 j ≤ flag_at t2 j + due_weigh (weight_of j) found.kids
    unfolding runs
    few_flags clear is j =
        let flag = flags j v found.kids seen in
        let some = clear_runs (weight_of j h) (due_weigh (weight_of j) found.kids) P (is_due v ask) (P.holds v.look ask) v ask found.kids (λ xs. runs (weight_of j) P true xs found.kids)
        (not_due v.needs_layout (asked v) ask clear is) (runs_due (weight_of j) P true (kept_asks found.kids) found.kids (kept_known found.kids)) in
        omega (arith, flag, some)

    root_clear : found.value.needs_layout ≡ false → asked found.value ≡ Some ask → (is_list laid.value.look ≡ true → laid.value.needs_layout ≡ false) × ClearLists found.kids laid.kids
    root_clear clear is = (
      flag_clear laid.value
          (let own : weight_of h h ≡ 1 = ap (λ (b : Bool). cond {A = ℕ} b 1 0) (same-eq h h refl) in
          let d = seen.distinct h in
          let here = few_flags clear is h in
          let now_is : flag_at t3 h ≡ list_flag laid.value = ap flag_in laid.turns.stands.stands.0 in
          let was : flag_at t2 h ≡ 0 = ap flag_in seen.stands.0 ∙ clear_flag v clear in
          let some = due_few (weight_of h) found.kids in
          omega (arith, own, d, here, now_is, was, some)),
      clear_lists (seen_at t2) (seen_at t3) (Some h) (Some h) found.kids laid.kids laid.lays.same seen.stands.1 laid.turns.stands.stands.1 (λ j. let d = seen.distinct j in omega (arith, d))
          (λ j inside. few_flags clear is j),
    )

    root_undue : RootUndue view (tree h found.value found.kids none) (tree h laid.value laid.kids none)
    root_undue clear is =
        let all : HereAll P (tree h v found.kids none) = stood_all P (Some ask ∷ []) (origin ∷ []) (tree h found.value found.kids none) found.all in
        let one = one_undue (Some ask) origin origin v laid.value found.kids laid.kids all.0 all.1 laid.lays.here laid.lays.all laid.lays.member
        (record { shown = refl; asked = is; offset = refl }) (record { shown = laid.lays.shown; asked = laid.lays.asked; offset = laid.lays.offset }) laid.lays.corrected (λ shown. laid.lays.quiet)
        (λ shown was. root_clear clear is) (λ xs ats ps a b c q l. all_undue xs ats ps found.kids laid.kids all.1 laid.lays.all a b c q l) in
        one.3 refl clear

    pub now_undue : layout_nodes (root_tree t0) ≡ tree h found.value found.kids none → layout_nodes (root_tree t5) ≡ tree h laid.value laid.kids none
        → RootUndue view (layout_nodes (root_tree t0)) (layout_nodes (root_tree t5))
    now_undue was now =
        subst (λ (f : Forest LayoutNode). RootUndue view f (layout_nodes (root_tree t5))) (sym was)
        (subst (λ (f : Forest LayoutNode). RootUndue view (tree h found.value found.kids none) f) (sym now) root_undue)

pub now_root_asked : (view : Size) (t : Tree RenderObject) (h : Handle) (w : LayoutNode) (below : Forest LayoutNode) → asked w ≡ Some (AsBox (tight view)) → layout_nodes (root_tree t) ≡ tree h w below none
    → RootAsked view (layout_nodes (root_tree t))
now_root_asked view t h w below is now = subst (λ (f : Forest LayoutNode). RootAsked view f) (sym now) is
