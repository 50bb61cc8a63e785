-- How many rules an outer flush runs: what is below lazy lists has no part in it.
use Rattle.std.proofs.Common.{◌≡◌, ℕ, ◌+◌, ◌≤◌, Bool, true, false, not, cond, ◌&&◌, ◌||◌, Option, Some, None, List, [], refl, sym, ap, ◌∙◌, subst, arith, inl, inr, if◌then◌else◌}
use Rattle.std.proofs.lemmas.Bool.{cases_Bool, or_parts, false≢true, true≢false}
use Rattle.fx_geom.specs.declared.boxes.Bounds.{Bounds}
use Rattle.fx_geom.specs.declared.shapes.Offset.{Offset}
use Rattle.node_tree.specs.Forest.{Forest}
use Rattle.node_tree.specs.Forest.Forest.{none, tree}
use Rattle.widget_model.specs.Look.{Look, sliver_lazy}
use Rattle.plain_tree.specs.declared.render.ParentData.{ParentData}
use Rattle.plain_tree.specs.declared.laid.Frame.{Frame}
use Rattle.layout_form.specs.declared.asks.Ask.{Ask}
use Rattle.layout_form.specs.declared.asks.Ask.TheVariants.{AsBox, AsSliver}
use Rattle.layout_form.specs.Object.{Setting}
use Rattle.layout_walk.specs.Asking.{has_frame, asked_so, is_due, same_ask}
use Rattle.layout_walk.specs.Flush.{ticks, runs, tree_runs, one_runs, held_runs, one_each}
use Rattle.layout_walk.specs.Full.{asks_at, made_at, objects}
use Rattle.layout_walk.specs.Here.{StandAs, Here, HereAll, IsGiven}
use Rattle.layout_walk.specs.Node.{LayoutNode, NodeMember, asked, member, stored}
use Rattle.layout_walk.specs.Rule.{LayoutParts, asks_by, ask_of, later}
use Rattle.layout_walk.specs.Rules.{parts_of, holds_in, is_list}
use Rattle.layout_walk.specs.Walk.{kept_ask, kept_asks}
use Rattle.layout_walk.specs.Work.{IsKnownAs, KnownAs, AreKnown}
use Rattle.layout_walk.proofs.Counting.{no_runs, not_due, kept_known}
use Rattle.counted_phases.specs.Outer.{outer_size, outer_due}

-- ---- lists

list_holds : (look : Look) (ask : Ask) → holds_in look ask ≡ true → is_list look ≡ true
list_holds (sliver_lazy extent) ask holds = refl
list_holds look ask holds = absurd (false≢true holds)

-- one that is laid out as a box asks nobody
box_holds : (look : Look) (b : Bounds) → holds_in look (AsBox b) ≡ false
box_holds (sliver_lazy extent) b = refl
box_holds look b = refl

sliver_holds : (look : Look) (ask : Ask) → is_list look ≡ true → (b : Bool) → holds_in look ask ≡ b → b ≡ false → (c : Bounds) × (ask ≡ AsBox c)
sliver_holds (sliver_lazy extent) (AsBox c) is b e off = (c, refl)
sliver_holds (sliver_lazy extent) (AsSliver v) is b e off = absurd (true≢false (e ∙ off))
sliver_holds look ask is b e off = absurd (false≢true is)

box_asks : (s : Setting) (m : NodeMember) (look : Look) → is_list look ≡ true → (scroll : ℕ) (b : Bounds) (liked : ℕ) (ds : List ParentData) (gs : List (Ask → Frame))
    → asks_by (parts_of s) (record m { look = look }) scroll (AsBox b) liked ds gs ≡ []
unfolding asks_by
box_asks s m (sliver_lazy extent) is scroll b liked ds gs = refl
box_asks s m look is scroll b liked ds gs = absurd (false≢true is)

-- ---- nodes that aren't in the window

out_of_window : (shown mark : Bool) (o : Option Ask) → shown ≡ false → cond {A = Option Ask} (shown && mark) o None ≡ None
out_of_window true mark o e = absurd (true≢false e)
out_of_window false mark o e = refl

unshown_runs : (P : LayoutParts) (outer : Bool) (places : List Offset) (f : Forest LayoutNode) → StandAs [] places f → ticks P outer (kept_asks f) f ≡ 0
unfolding runs
unshown_runs P outer places none stand = refl
unshown_runs P outer places (tree h v kids rest) stand =
    let nobody : kept_ask v ≡ None = out_of_window v.shown (v.needs_layout || v.layout_below) (asked v) stand.0 in
    let here : tree_runs 1 P outer (kept_ask v) v kids (λ xs. runs one_each P outer xs kids) ≡ 0 = ap (λ (o : Option Ask). tree_runs 1 P outer o v kids (λ xs. runs one_each P outer xs kids)) nobody in
    let more = unshown_runs P outer places rest stand.1 in
    omega (arith, here, more)

module _ (s : Setting) where
  abbrev P : LayoutParts
  P = parts_of s

  -- ---- a list

  box_nobody : (v : LayoutNode) → is_list v.look ≡ true → (ask : Ask) (b : Bounds) → ask ≡ AsBox b → (kids : Forest LayoutNode) (gs : List (Ask → Frame)) → asks_at P v ask kids gs ≡ []
  box_nobody v is ask b e kids gs =
      ap (λ (a : Ask). asks_at P v a kids gs) e ∙ box_asks s (member v) v.look is v.scroll b (P.liked v.look (AsBox b) _) _ gs

  -- one that was laid out as a box, and needn't be again, has nobody in the window
  box_kept : (v : LayoutNode) (b : Bounds) (kids : Forest LayoutNode) → is_list v.look ≡ true → IsGiven P v kids (stored kids) → asked_so (asked v) (AsBox b) ≡ true → ticks P true (kept_asks kids) kids ≡ 0
  box_kept v b kids is given so = by_ask given.ask refl
    where
      places : List Offset
      places = (made_at P v given.ask kids (stored kids)).places

      by_ask : (a : Ask) → given.ask ≡ a → ticks P true (kept_asks kids) kids ≡ 0
      by_ask (AsBox c) e = unshown_runs P true places kids (subst (λ (xs : List (Option Ask)). StandAs xs places kids) (box_nobody v is given.ask c e kids (stored kids)) given.gives.placed)
      by_ask (AsSliver c) e = absurd (false≢true (ap (λ (a : Ask). same_ask a (AsBox b)) (sym e) ∙ (ap (λ (o : Option Ask). asked_so o (AsBox b)) (sym given.asked) ∙ so)))

  abbrev head : Bool → Bool → LayoutNode → Ask → Forest LayoutNode → ℕ
  head due held v ask kids = one_runs 1 P due held v ask kids (λ xs. ticks P true xs kids)

  held_few : (n : ℕ) (b : Bool) → held_runs n b ≤ n
  held_few n true = omega arith
  held_few n false = omega arith

  held_head : (due : Bool) (v : LayoutNode) (ask : Ask) (kids : Forest LayoutNode) → head due true v ask kids ≤ (if due then 1 else 0)
  held_head true v ask kids = held_few 1 (has_frame v.frame (P.fixed (member v) ask))
  held_head false v ask kids = omega arith

  box_head : (due : Bool) (v : LayoutNode) (ask : Ask) (b : Bounds) → ask ≡ AsBox b → (kids : Forest LayoutNode) → is_list v.look ≡ true → Here P v kids → is_due v ask ≡ due → head due false v ask kids ≤ (if due then 1 else 0)
  box_head true v ask b e kids is here due =
      let nothing : ticks P true (asks_at P v ask kids (objects P kids)) kids ≡ 0 =
      ap (λ (xs : List (Option Ask)). ticks P true xs kids) (box_nobody v is ask b e kids (objects P kids)) ∙ no_runs one_each P true kids in
      omega (arith, nothing)
  box_head false v ask b e kids is here due =
      let parts = or_parts v.needs_layout (not (asked_so (asked v) ask)) due in
      let so : asked_so (asked v) ask ≡ true = not_not (asked_so (asked v) ask) parts.1 in
      let nothing = box_kept v b kids is (here.consistent parts.0) (ap (asked_so (asked v)) (sym e) ∙ so) in
      omega (arith, nothing)
    where
      not_not : (b : Bool) → not b ≡ false → b ≡ true
      not_not true e = refl
      not_not false e = absurd (true≢false e)

  list_head : (v : LayoutNode) (ask : Ask) (kids : Forest LayoutNode) → is_list v.look ≡ true → Here P v kids → head (is_due v ask) (P.holds v.look ask) v ask kids ≤ (if is_due v ask then 1 else 0)
  list_head v ask kids is here = by_holds (P.holds v.look ask) refl
    where
      by_holds : (held : Bool) → P.holds v.look ask ≡ held → head (is_due v ask) held v ask kids ≤ (if is_due v ask then 1 else 0)
      by_holds true e = held_head (is_due v ask) v ask kids
      by_holds false e = let box = sliver_holds v.look ask is (P.holds v.look ask) refl e in box_head (is_due v ask) v ask box.0 box.1 kids is here refl

  -- ---- any other node

  other_head : (due held : Bool) (v : LayoutNode) (ask : Ask) (kids : Forest LayoutNode) (n : ℕ) → ((xs : List (Option Ask)) → ticks P true xs kids ≤ n) → head due held v ask kids ≤ 1 + n
  other_head true true v ask kids n few = let a = held_few 1 (has_frame v.frame (P.fixed (member v) ask)) in omega (arith, a)
  other_head true false v ask kids n few = let a = few (asks_at P v ask kids (objects P kids)) in omega (arith, a)
  other_head false true v ask kids n few = omega arith
  other_head false false v ask kids n few = let a = few (kept_asks kids) in omega (arith, a)

  one_or_none : (b : Bool) → (if b then 1 else 0) ≤ 1
  one_or_none true = omega arith
  one_or_none false = omega arith

  few_here : (list : Bool) (v : LayoutNode) (ask : Ask) (kids : Forest LayoutNode) (n : ℕ) → is_list v.look ≡ list → Here P v kids → ((xs : List (Option Ask)) → ticks P true xs kids ≤ n)
      → head (is_due v ask) (P.holds v.look ask) v ask kids ≤ 1 + (if list then 0 else n)
  few_here true v ask kids n is here few = let a = list_head v ask kids is here in let b = one_or_none (is_due v ask) in omega (arith, a, b)
  few_here false v ask kids n is here few = other_head (is_due v ask) (P.holds v.look ask) v ask kids n few

  few_tree : (o : Option Ask) (v : LayoutNode) (kids : Forest LayoutNode) (n : ℕ) → Here P v kids → ((xs : List (Option Ask)) → ticks P true xs kids ≤ n)
      → tree_runs 1 P true o v kids (λ xs. ticks P true xs kids) ≤ 1 + (if is_list v.look then 0 else n)
  few_tree None v kids n here few = omega arith
  few_tree (Some ask) v kids n here few = few_here (is_list v.look) v ask kids n refl here few

  pub few_outer : (asks : List (Option Ask)) (f : Forest LayoutNode) → HereAll P f → ticks P true asks f ≤ outer_size f
  unfolding runs
  few_outer asks none here = omega arith
  few_outer asks (tree h v kids rest) here =
      let one = few_tree (ask_of asks) v kids (outer_size kids) here.0 (λ xs. few_outer xs kids here.1) in
      let more = few_outer (later asks) rest here.2 in
      omega (arith, one, more)

  -- ---- no more than are due

  abbrev due_head : Bool → Bool → Bool → ℕ → ℕ → ℕ
  due_head shown flag list all some = if shown then (if flag then 1 + (if list then 0 else all) else (if list then 0 else some)) else 0

  calm_head : (list : Bool) (v : LayoutNode) (ask : Ask) (kids : Forest LayoutNode) (m : ℕ) → is_list v.look ≡ list → Here P v kids → is_due v ask ≡ false → ticks P true (kept_asks kids) kids ≤ m
      → head (is_due v ask) (P.holds v.look ask) v ask kids ≤ (if list then 0 else m)
  calm_head true v ask kids m is here calm kept =
      let a = list_head v ask kids is here in
      let b : cond {A = ℕ} (is_due v ask) 1 0 ≡ 0 = ap (λ (x : Bool). cond {A = ℕ} x 1 0) calm in
      omega (arith, a, b)
  calm_head false v ask kids m is here calm kept =
      let same : head (is_due v ask) (P.holds v.look ask) v ask kids ≡ head false (P.holds v.look ask) v ask kids = ap (λ (x : Bool). head x (P.holds v.look ask) v ask kids) calm in
      let a = by_held (P.holds v.look ask) in
      omega (arith, same, a)
    where
      by_held : (held : Bool) → head false held v ask kids ≤ m
      by_held true = omega arith
      by_held false = kept

  due_here : (v : LayoutNode) (ask : Ask) (kids : Forest LayoutNode) (n m : ℕ) → Here P v kids → IsKnownAs ask v → ((xs : List (Option Ask)) → ticks P true xs kids ≤ n)
      → ticks P true (kept_asks kids) kids ≤ m → head (is_due v ask) (P.holds v.look ask) v ask kids ≤ due_head v.shown v.needs_layout (is_list v.look) n m
  due_here v ask kids n m here known few kept = elim (cases_Bool v.needs_layout) [
    | inl flag ↦
        let all : due_head v.shown v.needs_layout (is_list v.look) n m ≡ 1 + (if is_list v.look then 0 else n) =
        ap (λ (b : Bool). due_head b v.needs_layout (is_list v.look) n m) known.shown ∙ ap (λ (b : Bool). due_head true b (is_list v.look) n m) flag in
        let some = few_here (is_list v.look) v ask kids n refl here few in
        omega (arith, all, some)
    | inr clear ↦
        let all : due_head v.shown v.needs_layout (is_list v.look) n m ≡ (if is_list v.look then 0 else m) =
        ap (λ (b : Bool). due_head b v.needs_layout (is_list v.look) n m) known.shown ∙ ap (λ (b : Bool). due_head true b (is_list v.look) n m) clear in
        let some = calm_head (is_list v.look) v ask kids m refl here (not_due v.needs_layout (asked v) ask clear (known.asked clear)) kept in
        omega (arith, all, some)
  ]

  due_tree : (o : Option Ask) (v : LayoutNode) (kids : Forest LayoutNode) (n m : ℕ) → Here P v kids → KnownAs o v → ((xs : List (Option Ask)) → ticks P true xs kids ≤ n)
      → ticks P true (kept_asks kids) kids ≤ m → tree_runs 1 P true o v kids (λ xs. ticks P true xs kids) ≤ due_head v.shown v.needs_layout (is_list v.look) n m
  due_tree None v kids n m here known few kept = omega arith
  due_tree (Some ask) v kids n m here known few kept = due_here v ask kids n m here known few kept

  pub due_outer : (asks : List (Option Ask)) (f : Forest LayoutNode) → HereAll P f → AreKnown asks f → ticks P true asks f ≤ outer_due f
  unfolding runs
  due_outer asks none here known = omega arith
  due_outer asks (tree h v kids rest) here known =
      let one = due_tree (ask_of asks) v kids (outer_size kids) (outer_due kids) here.0 known.0 (λ xs. few_outer xs kids here.1) (due_outer (kept_asks kids) kids here.1 (kept_known kids)) in
      let more = due_outer (later asks) rest here.2 known.1 in
      omega (arith, one, more)
