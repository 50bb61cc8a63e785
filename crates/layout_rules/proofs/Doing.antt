-- What a course leaves, once the duties at the children are done, is what its duty is.
use Rattle.std.proofs.Common.{◌≡◌, ap, refl, sym, subst, ◌∙◌, ℕ, ◌+◌, ◌≤◌, Bool, true, false, cond, ◌&&◌, ◌||◌, not, Option, Some, None, option_map, List, [], ◌∷◌, map}
use Rattle.fx_geom.specs.declared.boxes.Bounds.{Bounds}
use Rattle.fx_geom.specs.declared.shapes.Axis.{Axis}
use Rattle.fx_geom.specs.Insets.{extent_of}
use Rattle.fx_handles.specs.declared.Handle.{Handle}
use Rattle.node_tree.specs.Forest.{Forest}
use Rattle.node_tree.specs.Forest.Forest.{none, tree}
use Rattle.sliver_layout.specs.declared.protocol.Walk.{Walk}
use Rattle.sliver_layout.specs.Slivers.{geometry_of, view_of, walk_from, walk_past}
use Rattle.widget_model.specs.Look.{Look, viewport}
use Rattle.plain_tree.specs.declared.laid.Frame.{Frame}
use Rattle.plain_tree.specs.declared.laid.Facts.{Facts}
use Rattle.plain_tree.specs.declared.render.ParentData.{ParentData}
use Rattle.plain_tree.specs.Render.{Renders}
use Rattle.layout_form.specs.declared.asks.Ask.{Ask}
use Rattle.layout_form.specs.declared.asks.Ask.TheVariants.{AsBox}
use Rattle.layout_form.specs.Framed.{answers_of, last_asks}
use Rattle.layout_form.specs.Frames.{extents_by, scrolls_by, start_by, view_rest_by, views_by}
use Rattle.layout_form.specs.Object.{Setting}
use Rattle.layout_form.specs.SliverRule.{view_size}
use Rattle.layout_walk.specs.Node.{LayoutNode, member, members, tellings, stored, asked, ask_in}
use Rattle.layout_walk.specs.Rule.{LayoutParts, RuleGift, Lawful, asks_by, made_by}
use Rattle.layout_walk.specs.Full.{asks_at, made_at, objects}
use Rattle.layout_walk.specs.Here.{Backs, Here, HereAll, back_in}
use Rattle.layout_walk.specs.Walk.{SameMembers, LaysOut, AreLaid, Round, AskApart, any_mark, kept_asks, stand_all, ruled, held_back, marked_below}
use Rattle.layout_walk.specs.Asking.{same_ask, has_frame, asked_so, is_due}
use Rattle.layout_walk.specs.Flush.{runs}
use Rattle.layout_walk.specs.Measure.{AreMeasured, ViewEach, extents_in, full_extents, full_extent, measure_runs}
use Rattle.layout_walk.specs.Rules.{parts_of, liked_in, first_in, rest_in, makes_in}
use Rattle.layout_walk.proofs.Asks.{same_ask_is, same_frame_is}
use Rattle.layout_walk.proofs.Counting.{runs_join}
use Rattle.layout_walk.proofs.Extents.{all_extents}
use Rattle.layout_walk.proofs.Free.{measured_bound}
use Rattle.layout_walk.proofs.Keeping.{still, left, held, clear_firm, kept}
use Rattle.layout_walk.proofs.Measuring.{back_only, all_ready, ready_same, views_laid}
use Rattle.layout_walk.proofs.Rounds.{rounds_join, answers_kept, all_laid, round_same, round_here}
use Rattle.layout_walk.proofs.Running.{ran, asked_full}
use Rattle.layout_walk.proofs.Same.{same_members, same_tellings, same_trans}
use Rattle.layout_walk.proofs.Viewing.{asks_by_extents, asks_laid, extents_same}
use Rattle.layout_rules.specs.Ending.{measured_frames, run_end, held_gift, has_gift}
use Rattle.layout_rules.specs.Courses.{cross_of}

-- ---- the rule of a node over its children as they stand

-- once the asks and the gift are what the code has
abbrev Rules : Setting → Backs → Ask → LayoutNode → Forest LayoutNode → Forest LayoutNode → List (Option Ask) → RuleGift → Type 0
Rules s back ask v kids mid asks made =
    let below = stand_all asks made.places mid in LaysOut (parts_of s) back ask v kids (ruled v made (any_mark below)) below

-- whom the rule asks first, by the members of what is below
first_by_members : (s : Setting) (v : LayoutNode) (ask : Ask) (kids mid : Forest LayoutNode) (first : List (Option Ask))
    → SameMembers kids mid → first ≡ first_in s (member v) ask (liked_in s v.look ask (members kids)) (tellings kids)
    → first_in s (member v) ask (liked_in s v.look ask (members mid)) (tellings mid) ≡ first
first_by_members s v ask kids mid first same is =
    ap (λ (rs : Renders). first_in s (member v) ask (liked_in s v.look ask rs) (tellings mid)) (sym (same_members kids mid same))
    ∙ ap (λ (ds : List ParentData). first_in s (member v) ask (liked_in s v.look ask (members kids)) ds) (sym (same_tellings kids mid same))
    ∙ sym is

-- how it asks in the end, and what it makes, where the children stand as they do
asks_are : (s : Setting) (v : LayoutNode) (ask : Ask) (kids mid : Forest LayoutNode) (first : List (Option Ask))
    → SameMembers kids mid → first ≡ first_in s (member v) ask (liked_in s v.look ask (members kids)) (tellings kids)
    → asks_at (parts_of s) v ask mid (stored mid) ≡ last_asks first (rest_in (member v) v.scroll ask (tellings kids) (answers_of first (stored mid)))
unfolding asks_by
asks_are s v ask kids mid first same is =
    let F = first_by_members s v ask kids mid first same is in
    ap (λ (xs : List (Option Ask)). last_asks xs (rest_in (member v) v.scroll ask (tellings mid) (answers_of xs (stored mid)))) F
    ∙ ap (λ (ds : List ParentData). last_asks first (rest_in (member v) v.scroll ask ds (answers_of first (stored mid)))) (sym (same_tellings kids mid same))

made_are : (s : Setting) (v : LayoutNode) (ask : Ask) (kids mid : Forest LayoutNode) (first : List (Option Ask))
    → SameMembers kids mid → first ≡ first_in s (member v) ask (liked_in s v.look ask (members kids)) (tellings kids)
    → made_at (parts_of s) v ask mid (stored mid)
    ≡ makes_in s (member v) v.scroll ask (tellings kids) (answers_of first (stored mid)) (answers_of (asks_at (parts_of s) v ask mid (stored mid)) (stored mid))
unfolding made_by
made_are s v ask kids mid first same is =
    let F = first_by_members s v ask kids mid first same is in
    ap (λ (xs : List (Option Ask)). makes_in s (member v) v.scroll ask (tellings mid) (answers_of xs (stored mid)) (answers_of (asks_at (parts_of s) v ask mid (stored mid)) (stored mid))) F
    ∙ ap (λ (ds : List ParentData). makes_in s (member v) v.scroll ask ds (answers_of first (stored mid)) (answers_of (asks_at (parts_of s) v ask mid (stored mid)) (stored mid)))
    (sym (same_tellings kids mid same))

-- what the rule leaves, where it asked so in the end
pub record Ran (s : Setting) (back : Backs) (ask : Ask) (v : LayoutNode) (kids mid : Forest LayoutNode) (first asks : List (Option Ask)) : Type 0 where
  pub lays : let e = run_end s ask v mid (tellings kids) first asks in LaysOut (parts_of s) back ask v kids e.value e.kids
  pub full : asks_at (parts_of s) v ask kids (objects (parts_of s) kids) ≡ asks

ran_so : (s : Setting) → Lawful (parts_of s) → (back : Backs) (ask : Ask) (v : LayoutNode) (kids mid : Forest LayoutNode) (first asks : List (Option Ask))
    → SameMembers kids mid → HereAll (parts_of s) mid → first ≡ first_in s (member v) ask (liked_in s v.look ask (members kids)) (tellings kids)
    → asks_at (parts_of s) v ask mid (stored mid) ≡ asks → AreLaid (parts_of s) back asks kids mid → back v.look (Some ask) ≡ false → Ran s back ask v kids mid first asks
ran_so s law back ask v kids mid first asks same all is now laid free =
    let P = parts_of s in
    let laid_now : AreLaid P back (asks_at P v ask mid (stored mid)) kids mid = subst (λ (xs : List (Option Ask)). AreLaid P back xs kids mid) (sym now) laid in
    let made : made_at P v ask mid (stored mid) ≡ makes_in s (member v) v.scroll ask (tellings kids) (answers_of first (stored mid)) (answers_of asks (stored mid)) =
    made_are s v ask kids mid first same is
    ∙ ap (λ (xs : List (Option Ask)). makes_in s (member v) v.scroll ask (tellings kids) (answers_of first (stored mid)) (answers_of xs (stored mid))) now in
    let one : Rules s back ask v kids mid (asks_at P v ask mid (stored mid)) (made_at P v ask mid (stored mid)) = ran P law back v ask kids mid same all laid_now free in
    record {
      lays = subst (λ (m : RuleGift). Rules s back ask v kids mid asks m) made (subst (λ (xs : List (Option Ask)). Rules s back ask v kids mid xs (made_at P v ask mid (stored mid))) now one);
      full = asked_full P law back v ask kids mid same all laid_now ∙ now;
    }

-- ---- a rule that asks nobody twice

pub run_does : (s : Setting) → Lawful (parts_of s) → (back : Backs) (ask : Ask) (v : LayoutNode) (kids mid1 mid : Forest LayoutNode) (first rest : List (Option Ask))
    → HereAll (parts_of s) kids → first ≡ first_in s (member v) ask (liked_in s v.look ask (members kids)) (tellings kids)
    → Round (parts_of s) back first kids mid1 → rest ≡ rest_in (member v) v.scroll ask (tellings kids) (answers_of first (stored mid1))
    → Round (parts_of s) back rest mid1 mid → AskApart first rest → back v.look (Some ask) ≡ false → Ran s back ask v kids mid first (last_asks first rest)
run_does s law back ask v kids mid1 mid first rest all is one is_rest two apart free =
    let P = parts_of s in
    let both = rounds_join P back first rest kids mid1 mid apart one two in
    let same = round_same P back (last_asks first rest) kids mid both in
    let now : asks_at P v ask mid (stored mid) ≡ last_asks first rest =
    asks_are s v ask kids mid first same is
    ∙ ap (λ (fs : List (Option Frame)). last_asks first (rest_in (member v) v.scroll ask (tellings kids) fs)) (sym (answers_kept P back first rest mid1 mid apart two))
    ∙ ap (λ (xs : List (Option Ask)). last_asks first xs) (sym is_rest) in
    ran_so s law back ask v kids mid first (last_asks first rest) same (round_here P back (last_asks first rest) kids mid all both) is now
    (all_laid P back (last_asks first rest) kids mid both) free

pub run_runs : (q : Handle → ℕ) (s : Setting) (back : Backs) (outer : Bool) (ask : Ask) (v : LayoutNode) (kids mid1 mid : Forest LayoutNode) (first rest : List (Option Ask))
    → Round (parts_of s) back first kids mid1 → AskApart first rest → Ran s back ask v kids mid first (last_asks first rest)
    → runs q (parts_of s) outer first kids + runs q (parts_of s) outer rest mid1 ≡ runs q (parts_of s) outer (asks_at (parts_of s) v ask kids (objects (parts_of s) kids)) kids
run_runs q s back outer ask v kids mid1 mid first rest one apart r =
    runs_join q (parts_of s) back outer first rest kids mid1 apart one ∙ ap (λ (xs : List (Option Ask)). runs q (parts_of s) outer xs kids) (sym r.full)

-- ---- a Viewport

measured_extents : (axis : Axis) (cross : ℕ) (ns : List ℕ) → extents_by (measured_frames axis cross ns) ≡ map (λ (n : ℕ). Some n) ns
measured_extents axis cross [] = refl
measured_extents axis cross (n ∷ ns) = ap (λ (xs : List (Option ℕ)). Some n ∷ xs) (measured_extents axis cross ns)

measured_scrolls : (axis : Axis) (cross : ℕ) (ns : List ℕ) → scrolls_by (measured_frames axis cross ns) ≡ ns
measured_scrolls axis cross [] = refl
measured_scrolls axis cross (n ∷ ns) = ap (λ (xs : List ℕ). n ∷ xs) (measured_scrolls axis cross ns)

rest_of_view : (axis : Axis) (v : LayoutNode) (b : Bounds) (ds : List ParentData) (ns : List ℕ) → v.look ≡ viewport axis
    → rest_in (member v) v.scroll (AsBox b) ds (measured_frames axis (cross_of axis b) ns) ≡ view_rest_by axis (start_by axis v.scroll b ns) b (map (λ (n : ℕ). Some n) ns)
rest_of_view axis v b ds ns is =
    let fs = measured_frames axis (cross_of axis b) ns in
    ap (λ (l : Look). rest_in (record (member v) { look = l }) v.scroll (AsBox b) ds fs) is
    ∙ ap (λ (ms : List ℕ). view_rest_by axis (start_by axis v.scroll b ms) b (extents_by fs)) (measured_scrolls axis (cross_of axis b) ns)
    ∙ ap (λ (ms : List (Option ℕ)). view_rest_by axis (start_by axis v.scroll b ns) b ms) (measured_extents axis (cross_of axis b) ns)

each_viewed : (P : LayoutParts) (axis : Axis) (main cross : ℕ) (walk : Walk) (f : Forest LayoutNode)
    → ViewEach axis cross (views_by axis main cross walk (map (λ (n : ℕ). Some n) (full_extents P axis cross f))) f
each_viewed P axis main cross walk none = tt
each_viewed P axis main cross walk (tree h v kids rest) =
    ((refl, refl), each_viewed P axis main cross (walk_past walk (geometry_of (view_of axis main cross walk) (full_extent P axis cross v kids))) rest)

pub record Viewed (s : Setting) (outer : Bool) (b : Bounds) (v : LayoutNode) (kids mid1 mid : Forest LayoutNode) (first rest : List (Option Ask)) (axis : Axis) : Type 0 where
  pub ran : Ran s (back_in (parts_of s) outer) (AsBox b) v kids mid first rest
  pub same : SameMembers kids mid
  pub here : HereAll (parts_of s) mid
  pub laid : AreLaid (parts_of s) (back_in (parts_of s) outer) rest kids mid
  pub is_rest : rest ≡ view_rest_by axis (start_by axis v.scroll b (full_extents (parts_of s) axis (cross_of axis b) kids)) b (map (λ (n : ℕ). Some n) (full_extents (parts_of s) axis (cross_of axis b) kids))
  pub few : (q : Handle → ℕ) → measure_runs q (parts_of s) outer axis (cross_of axis b) kids + runs q (parts_of s) outer rest mid1
      ≤ runs q (parts_of s) outer (asks_at (parts_of s) v (AsBox b) kids (objects (parts_of s) kids)) kids

pub view_does : (s : Setting) → Lawful (parts_of s) → (outer : Bool) (axis : Axis) (b : Bounds) (v : LayoutNode) (kids mid1 mid : Forest LayoutNode) (first rest : List (Option Ask))
    → v.look ≡ viewport axis → HereAll (parts_of s) kids → first ≡ first_in s (member v) (AsBox b) (liked_in s v.look (AsBox b) (members kids)) (tellings kids)
    → AreMeasured (parts_of s) (back_in (parts_of s) outer) axis (cross_of axis b) kids mid1
    → rest ≡ rest_in (member v) v.scroll (AsBox b) (tellings kids) (measured_frames axis (cross_of axis b) (extents_in axis (cross_of axis b) mid1))
    → Round (parts_of s) (back_in (parts_of s) outer) rest mid1 mid → back_in (parts_of s) outer v.look (Some (AsBox b)) ≡ false → Viewed s outer b v kids mid1 mid first rest axis
view_does s law outer axis b v kids mid1 mid first rest look all is measured is_rest round free =
    let P = parts_of s in
    let back = back_in P outer in
    let cross = cross_of axis b in
    let ns = full_extents P axis cross kids in
    let ready = all_ready s law back (back_only P outer) axis cross kids mid1 all measured in
    let both = ready_same P back axis cross kids mid1 ready in
    let extents : extents_in axis cross mid1 ≡ ns =
    all_extents s law back axis cross kids mid1 all measured ∙ sym (extents_same P law axis cross kids mid1 both.0) in
    let views : rest ≡ view_rest_by axis (start_by axis v.scroll b ns) b (map (λ (n : ℕ). Some n) ns) =
    is_rest
    ∙ ap (λ (ms : List ℕ). rest_in (member v) v.scroll (AsBox b) (tellings kids) (measured_frames axis cross ms)) extents
    ∙ rest_of_view axis v b (tellings kids) ns look in
    let full : asks_at P v (AsBox b) kids (objects P kids) ≡ rest = asks_by_extents s axis v b kids look ∙ sym views in
    let each : ViewEach axis cross rest kids =
    subst (λ (xs : List (Option Ask)). ViewEach axis cross xs kids) (sym views) (each_viewed P axis (extent_of (view_size b) axis) cross (walk_from (start_by axis v.scroll b ns)) kids) in
    let laid = views_laid P law back axis cross rest kids mid1 mid each ready round in
    let same : SameMembers kids mid = same_trans kids mid1 mid both.0 (round_same P back rest mid1 mid round) in
    let here : HereAll P mid = round_here P back rest mid1 mid both.1 round in
    let now : asks_at P v (AsBox b) mid (stored mid) ≡ rest =
    sym (asks_laid P law back v (AsBox b) kids mid same here (subst (λ (xs : List (Option Ask)). AreLaid P back xs kids mid) (sym full) laid)) ∙ full in
    record {
      ran = ran_so s law back (AsBox b) v kids mid first rest same here is now laid free;
      same = same;
      here = here;
      laid = laid;
      is_rest = views;
      few = λ q. subst (λ (xs : List (Option Ask)). measure_runs q P outer axis cross kids + runs q P outer rest mid1 ≤ runs q P outer xs kids) (sym full)
          (measured_bound q s outer axis cross rest kids mid1 each measured);
    }

-- ---- a node that an outer flush holds back

some_one : {X : Type 0} (x y : X) → Some x ≡ Some y → x ≡ y
some_one x y e = cc

gift_made : (s : Setting) (ask : Ask) (v : LayoutNode) (liked : ℕ) → made_by (parts_of s) (member v) v.scroll ask liked [] [] ≡ held_gift s ask v
unfolding made_by
gift_made s ask v liked = refl

gift_facts : (s : Setting) → Lawful (parts_of s) → (ask : Ask) (v : LayoutNode) (kids : Forest LayoutNode) → (parts_of s).holds v.look ask ≡ true
    → (made_at (parts_of s) v ask kids (stored kids)).facts ≡ (held_gift s ask v).facts
gift_facts s law ask v kids holds =
    let P = parts_of s in
    law.lists (member v) v.scroll ask (P.liked v.look ask (members kids)) 0 (tellings kids) [] (stored kids) [] (law.holds_lists v.look ask holds)
    ∙ ap (λ (m : RuleGift). m.facts) (gift_made s ask v 0)

held_by_facts : (s : Setting) (back : Backs) (ask : Ask) (v : LayoutNode) (kids : Forest LayoutNode) (m n : RuleGift) → m.facts ≡ n.facts
    → LaysOut (parts_of s) back ask v kids (held_back v m) kids → LaysOut (parts_of s) back ask v kids (held_back v n) kids
held_by_facts s back ask v kids m n same lays =
    subst (λ (f : Facts). LaysOut (parts_of s) back ask v kids (held_back v (record { facts = f; places = n.places })) kids) same lays

back_holds : (P : LayoutParts) (outer : Bool) (look : Look) (ask : Ask) → (outer && P.holds look ask) ≡ true → (back_in P outer look (Some ask) ≡ true) × (P.holds look ask ≡ true)
back_holds P true look ask e = (e, e)
back_holds P false look ask e = absurd (not_true e)
  where
    not_true : false ≡ true → ⊥
    not_true e = cc

stored_some : (o : Option Frame) (f : Frame) → has_frame o (Some f) ≡ true → o ≡ Some f
stored_some None f e = absurd (not_true e)
  where
    not_true : false ≡ true → ⊥
    not_true e = cc
stored_some (Some g) f e = ap (λ (x : Frame). Some x) (same_frame_is g f e)

pub gift_fixed : (s : Setting) → Lawful (parts_of s) → (outer : Bool) (ask : Ask) (v : LayoutNode) → (outer && (parts_of s).holds v.look ask) ≡ true
    → (parts_of s).fixed (member v) ask ≡ Some (held_gift s ask v).facts.frame
gift_fixed s law outer ask v holds =
    law.held (member v) v.scroll ask 0 [] [] (back_holds (parts_of s) outer v.look ask holds).1 ∙ ap (λ (m : RuleGift). Some m.facts.frame) (gift_made s ask v 0)

held_same : (s : Setting) → Lawful (parts_of s) → (outer : Bool) (ask : Ask) (v : LayoutNode) (kids : Forest LayoutNode) → Here (parts_of s) v kids → HereAll (parts_of s) kids
    → (outer && (parts_of s).holds v.look ask) ≡ true → has_gift s ask v ≡ true → LaysOut (parts_of s) (back_in (parts_of s) outer) ask v kids v kids
held_same s law outer ask v kids here all holds has =
    let P = parts_of s in
    let both = back_holds P outer v.look ask holds in
    let gift = held_gift s ask v in
    let frame : v.frame ≡ Some gift.facts.frame = stored_some v.frame gift.facts.frame has in
    let says : ask_in gift.facts.frame ≡ ask =
    ap (λ (m : RuleGift). ask_in m.facts.frame) (sym (gift_made s ask v 0)) ∙ law.asked (member v) v.scroll ask 0 [] [] in
    let is_asked : asked v ≡ Some ask = ap (λ (o : Option Frame). option_map ask_in o) frame ∙ ap (λ (a : Ask). Some a) says in
    let fixed : P.fixed (member v) ask ≡ Some gift.facts.frame =
    law.held (member v) v.scroll ask 0 [] [] both.1 ∙ ap (λ (m : RuleGift). Some m.facts.frame) (gift_made s ask v 0) in
    left P (back_in P outer) v ask kids here all is_asked
    (record { frame = gift.facts.frame; stored = frame; fixed = ap (λ (a : Ask). P.fixed (member v) a) says ∙ fixed }) both.0

pub hold_does : (s : Setting) → Lawful (parts_of s) → (outer : Bool) (ask : Ask) (v : LayoutNode) (kids : Forest LayoutNode) → Here (parts_of s) v kids → HereAll (parts_of s) kids
    → (outer && (parts_of s).holds v.look ask) ≡ true
    → LaysOut (parts_of s) (back_in (parts_of s) outer) ask v kids (cond {A = LayoutNode} (has_gift s ask v) v (held_back v (held_gift s ask v))) kids
hold_does s law outer ask v kids here all holds = by (has_gift s ask v) refl
  where
    by : (t : Bool) → has_gift s ask v ≡ t → LaysOut (parts_of s) (back_in (parts_of s) outer) ask v kids (cond {A = LayoutNode} (has_gift s ask v) v (held_back v (held_gift s ask v))) kids
    by true e =
        subst (λ (t : Bool). LaysOut (parts_of s) (back_in (parts_of s) outer) ask v kids (cond {A = LayoutNode} t v (held_back v (held_gift s ask v))) kids) (sym e)
        (held_same s law outer ask v kids here all holds e)
    by false e =
        let both = back_holds (parts_of s) outer v.look ask holds in
        subst (λ (t : Bool). LaysOut (parts_of s) (back_in (parts_of s) outer) ask v kids (cond {A = LayoutNode} t v (held_back v (held_gift s ask v))) kids) (sym e)
        (held_by_facts s (back_in (parts_of s) outer) ask v kids (made_at (parts_of s) v ask kids (stored kids)) (held_gift s ask v) (gift_facts s law ask v kids both.1)
        (held (parts_of s) law (back_in (parts_of s) outer) v ask kids here all both.1 both.0))

-- ---- a node whose rule isn't run

pub is_clear : (v : LayoutNode) (ask : Ask) → is_due v ask ≡ false → (v.needs_layout ≡ false) × (asked v ≡ Some ask)
is_clear v ask e = by v.needs_layout (asked v) refl refl e
  where
    true_false : true ≡ false → ⊥
    true_false e = cc

    same : (o : Option Ask) → not (asked_so o ask) ≡ false → o ≡ Some ask
    same None e = absurd (true_false e)
    same (Some a) e = by_test (same_ask a ask) refl e
      where
        by_test : (t : Bool) → same_ask a ask ≡ t → not t ≡ false → Some a ≡ Some ask
        by_test true is e = ap (λ (x : Ask). Some x) (same_ask_is a ask is)
        by_test false is e = absurd (true_false e)

    by : (flag : Bool) (o : Option Ask) → v.needs_layout ≡ flag → asked v ≡ o → (flag || not (asked_so o ask)) ≡ false → (v.needs_layout ≡ false) × (asked v ≡ Some ask)
    by true o is was e = absurd (true_false e)
    by false o is was e = (is, was ∙ same o e)

pub stay_held : (s : Setting) → Lawful (parts_of s) → (outer : Bool) (ask : Ask) (v : LayoutNode) (kids : Forest LayoutNode) → Here (parts_of s) v kids → HereAll (parts_of s) kids
    → is_due v ask ≡ false → (outer && (parts_of s).holds v.look ask) ≡ true → LaysOut (parts_of s) (back_in (parts_of s) outer) ask v kids v kids
stay_held s law outer ask v kids here all due holds =
    let clear = is_clear v ask due in
    let both = back_holds (parts_of s) outer v.look ask holds in
    left (parts_of s) (back_in (parts_of s) outer) v ask kids here all clear.1 (clear_firm (parts_of s) law v ask kids here clear.1 clear.0 both.1) both.0

pub stay_still : (s : Setting) (back : Backs) (ask : Ask) (v : LayoutNode) (kids : Forest LayoutNode) → Here (parts_of s) v kids → HereAll (parts_of s) kids
    → is_due v ask ≡ false → v.layout_below ≡ false → LaysOut (parts_of s) back ask v kids v kids
stay_still s back ask v kids here all due below =
    let clear = is_clear v ask due in still (parts_of s) back v ask kids here all clear.1 clear.0 below

pub visit_does : (s : Setting) → Lawful (parts_of s) → (back : Backs) (ask : Ask) (v : LayoutNode) (kids mid : Forest LayoutNode) → Here (parts_of s) v kids → HereAll (parts_of s) kids
    → is_due v ask ≡ false → back v.look (Some ask) ≡ false → Round (parts_of s) back (kept_asks kids) kids mid → LaysOut (parts_of s) back ask v kids (marked_below v (any_mark mid)) mid
visit_does s law back ask v kids mid here all due free round =
    let clear = is_clear v ask due in kept (parts_of s) law back v ask kids mid here all clear.1 clear.0 free round

-- a node that isn't held back
pub back_free : (P : LayoutParts) (outer : Bool) (look : Look) (ask : Ask) → (outer && P.holds look ask) ≡ false → back_in P outer look (Some ask) ≡ false
back_free P true look ask e = e
back_free P false look ask e = refl
