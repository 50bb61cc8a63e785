-- What a layout leaves for painting, put together from what is written.
use Rattle.std.proofs.Common.{◌≡◌, ◌≢◌, ap, refl, sym, ◌∙◌, subst, ℕ, zero, suc, ◌+◌, ◌≤◌, ◌<◌, Bool, true, false, not, ◌||◌, cond, if◌then◌else◌, Option, Some, None, IsSome, inl, inr, ◌⊎◌, option_map, List, [], ◌∷◌, ◌++◌, length, get_or, arith}
use Rattle.std.specs.Bool.{beq}
use Rattle.std.proofs.lemmas.Bool.{false≢true}
use Rattle.std.proofs.lemmas.List.{append_assoc, append-nil, length-append}
use Rattle.std.proofs.lemmas.List.Sums.{sum_by-append}
use Rattle.fx_handles.specs.declared.Handle.{Handle}
use Rattle.fx_handles.specs.Handle.{same, times, Among}
use Rattle.fx_handles.specs.HandleLaws.{same-true, same_self, same-ne, cases_same, times-cons, times_here, times_there}
use Rattle.node_tree.specs.Forest.{TreeNode}
use Rattle.node_tree.specs.Tree.{Tree, IsNode, IsTree, node_at, children_of, children_at}
use Rattle.node_tree.proofs.Children.{among_at}
use Rattle.node_tree.proofs.ForestLemmas.{same_Some}
use Rattle.node_tree.proofs.TreeLemmas.{child_of, one_parent, live_from_parent}
use Rattle.render_tree.specs.declared.layout_state.LayoutState.{LayoutState}
use Rattle.render_tree.specs.Edits.{Changes}
use Rattle.render_tree.specs.LayoutState.{with_layout_state}
use Rattle.render_tree.specs.Object.{RenderObject}
use Rattle.render_tree.specs.Tree.{object_at}
use Rattle.fx_geom.specs.declared.shapes.Offset.{Offset}
use Rattle.layout_walk.specs.Asking.{has_frame}
use Rattle.layout_walk.proofs.Asks.{same_frame_self, same_frame_is}
use Rattle.plain_tree.specs.declared.laid.Frame.{Frame}
use Rattle.plain_tree.specs.declared.laid.Notes.{Notes}
use Rattle.widget_model.specs.Look.{Look}
use Rattle.layout_form.specs.Object.{Setting}
use Rattle.layout_rules.specs.Painting.{KeepsRest, IsUnder, PaintedOwn, PaintedPlace, own_in, place_in, LooksSame, Moves, Leaves}
use Rattle.layout_rules.specs.Reads.{state_or, state_at, put_at, made_state}
use Rattle.layout_rules.proofs.Turning.{none_some, keeps_again}

-- ---- one node

abbrev pub with_state : LayoutState → TreeNode RenderObject → TreeNode RenderObject
with_state u n = record n { value = with_layout_state u n.value }

-- the state at a node, if there is one
abbrev pub state_of : Option (TreeNode RenderObject) → LayoutState
state_of m = state_or (option_map (λ (n : TreeNode RenderObject). n.value) m)

kept_so : (m m' : Option (TreeNode RenderObject)) (u : LayoutState) → m' ≡ option_map (with_state u) m → m' ≡ option_map (with_state (state_of m')) m
kept_so None m' u e = e
kept_so (Some n) m' u e =
    let here : state_of m' ≡ u = ap (λ (x : Option (TreeNode RenderObject)). state_of x) e in
    e ∙ ap (λ (x : LayoutState). Some (with_state x n)) (sym here)

with_own : (m : Option (TreeNode RenderObject)) → m ≡ option_map (with_state (state_of m)) m
with_own None = refl
with_own (Some n) = refl

with_twice : (u w : LayoutState) (m : Option (TreeNode RenderObject)) → option_map (with_state u) (option_map (with_state w) m) ≡ option_map (with_state u) m
with_twice u w None = refl
with_twice u w (Some n) = refl

with_children : (u : LayoutState) (m : Option (TreeNode RenderObject)) → children_of (option_map (with_state u) m) ≡ children_of m
with_children u None = refl
with_children u (Some n) = refl

with_live : (u : LayoutState) (m : Option (TreeNode RenderObject)) → IsSome (option_map (with_state u) m) → IsSome m
with_live u None live = live
with_live u (Some n) live = refl

-- ---- trees in which all else stays

pub kept_self : (t : Tree RenderObject) → KeepsRest t t
kept_self t = record {
  nodes = λ k. with_own (node_at t k);
  root = refl;
  inactive = refl;
  handles = record { generations = λ index. refl; spent = λ k is. is; used = refl; retired = refl; generation_sum = refl; inserted = refl };
}

pub kept_again : (a b c : Tree RenderObject) → KeepsRest a b → KeepsRest b c → KeepsRest a c
kept_again a b c one two = record {
  nodes = λ k.
      two.nodes k
      ∙ ap (λ (m : Option (TreeNode RenderObject)). option_map (with_state (state_at c k)) m) (one.nodes k)
      ∙ with_twice (state_at c k) (state_at b k) (node_at a k);
  root = two.root ∙ one.root;
  inactive = two.inactive ∙ one.inactive;
  handles = keeps_again a b c one.handles two.handles;
}

pub kept_children : (a b : Tree RenderObject) (k : Handle) → KeepsRest a b → children_at b k ≡ children_at a k
kept_children a b k keeps = ap (λ (m : Option (TreeNode RenderObject)). children_of m) (keeps.nodes k) ∙ with_children (state_at b k) (node_at a k)

pub kept_live : (a b : Tree RenderObject) (k : Handle) → KeepsRest a b → IsNode b k → IsNode a k
kept_live a b k keeps live = with_live (state_at b k) (node_at a k) (subst (λ (m : Option (TreeNode RenderObject)). IsSome m) (keeps.nodes k) live)

pub live_kept : (a b : Tree RenderObject) (k : Handle) → KeepsRest a b → IsNode a k → IsNode b k
live_kept a b k keeps live = subst (λ (m : Option (TreeNode RenderObject)). IsSome m) (sym (keeps.nodes k)) (there (node_at a k) live)
  where
    there : (m : Option (TreeNode RenderObject)) → IsSome m → IsSome (option_map (with_state (state_at b k)) m)
    there None live = live
    there (Some n) live = refl

-- ---- nodes below others

pub under_same : (a b : Tree RenderObject) (n : ℕ) (k h : Handle) → KeepsRest a b → IsUnder b n k h → IsUnder a n k h
under_same a b zero k h keeps is = is
under_same a b (suc n) k h keeps is =
    (is.0, subst (λ (cs : List Handle). Among is.0 cs) (kept_children a b h keeps) is.1, under_same a b n k is.0 keeps is.2)

pub under_now : (a b : Tree RenderObject) (n : ℕ) (k h : Handle) → KeepsRest a b → IsUnder a n k h → IsUnder b n k h
under_now a b zero k h keeps is = is
under_now a b (suc n) k h keeps is =
    (is.0, subst (λ (cs : List Handle). Among is.0 cs) (sym (kept_children a b h keeps)) is.1, under_now a b n k is.0 keeps is.2)

-- ---- a state that is written

abbrev written_if : Bool → LayoutState → RenderObject → TreeNode RenderObject → TreeNode RenderObject
written_if b u o n = cond {A = TreeNode RenderObject} b (record n { value = with_layout_state u o }) n

same_nodes : (m : Option (TreeNode RenderObject)) → option_map (λ (n : TreeNode RenderObject). n) m ≡ m
same_nodes None = refl
same_nodes (Some n) = refl

write_kept : (b : Bool) (u : LayoutState) (o : RenderObject) (m m' : Option (TreeNode RenderObject)) → m' ≡ option_map (written_if b u o) m
    → (b ≡ true → option_map (λ (n : TreeNode RenderObject). n.value) m ≡ Some o) → m' ≡ option_map (with_state (state_of m')) m
write_kept false u o m m' e here = kept_so m m' (state_of m) (e ∙ same_nodes m ∙ with_own m)
write_kept true u o None m' e here = e
write_kept true u o (Some n) m' e here =
    kept_so (Some n) m' u (e ∙ ap (λ (x : RenderObject). Some (record n { value = with_layout_state u x })) (sym (same_Some (here refl))))

write_state : (b : Bool) (u : LayoutState) (o : RenderObject) (m m' : Option (TreeNode RenderObject)) → m' ≡ option_map (written_if b u o) m
    → (b ≡ true → option_map (λ (n : TreeNode RenderObject). n.value) m ≡ Some o) → state_of m' ≡ cond {A = LayoutState} b u (state_of m)
write_state false u o m m' e here = ap (λ (x : Option (TreeNode RenderObject)). state_of x) (e ∙ same_nodes m)
write_state true u o None m' e here = absurd (none_some o (here refl))
write_state true u o (Some n) m' e here = ap (λ (x : Option (TreeNode RenderObject)). state_of x) e

-- what is known of a written state: at its node it is stored, where the node is live, and at all others nothing changes
pub record Written (old new : Tree RenderObject) (h : Handle) (u : LayoutState) : Type 0 where
  pub keeps : KeepsRest old new
  pub here : IsNode old h → state_at new h ≡ u
  pub there : (k : Handle) → h ≢ k → state_at new k ≡ state_at old k
  pub dead : (IsNode old h → ⊥) → state_at new h ≡ state_at old h

none_live : (m : Option (TreeNode RenderObject)) → m ≡ None → IsSome m → ⊥
none_live None e live = false≢true live
none_live (Some n) e live = none_some n (sym e)

object_live : (m : Option (TreeNode RenderObject)) → IsSome m → option_map (λ (n : TreeNode RenderObject). n.value) m ≡ None → ⊥
object_live None live is = absurd (none_live None refl live)
object_live (Some n) live is = none_some n.value (sym is)

pub write_is : (old new : Tree RenderObject) (h : Handle) (u : LayoutState) → Changes old new h (with_layout_state u) → Written old new h u
write_is old new h u changes = go (object_at old h) refl
  where
    go : (o : Option RenderObject) → object_at old h ≡ o → Written old new h u
    go None is =
        let unchanged = changes.dead is in record {
          keeps = subst (λ (t : Tree RenderObject). KeepsRest old t) (sym unchanged) (kept_self old);
          here = λ live. absurd (object_live (node_at old h) live is);
          there = λ k other. ap (λ (t : Tree RenderObject). state_at t k) unchanged;
          dead = λ out. ap (λ (t : Tree RenderObject). state_at t h) unchanged;
        }
    go (Some o) is =
        let w = changes.live o is in
        let at : (k : Handle) → same k h ≡ true → object_at old k ≡ Some o = λ k e. ap (λ (x : Handle). object_at old x) (same-true k h e) ∙ is in record {
          keeps = record {
            nodes = λ k. write_kept (same k h) u o (node_at old k) (node_at new k) (w.writes.nodes k) (at k);
            root = w.root;
            inactive = w.inactive;
            handles = w.writes.handles;
          };
          here = λ live.
              write_state (same h h) u o (node_at old h) (node_at new h) (w.writes.nodes h) (at h)
              ∙ ap (λ (b : Bool). cond {A = LayoutState} b u (state_at old h)) (same_self h);
          there = λ k other.
              write_state (same k h) u o (node_at old k) (node_at new k) (w.writes.nodes k) (at k)
              ∙ ap (λ (b : Bool). cond {A = LayoutState} b u (state_at old k)) (same-ne k h (λ e. other (sym e)));
          dead = λ out. absurd (out (there_is (node_at old h) o is));
        }
      where
        there_is : (m : Option (TreeNode RenderObject)) (o : RenderObject) → option_map (λ (n : TreeNode RenderObject). n.value) m ≡ Some o → IsSome m
        there_is None o is = absurd (none_some o is)
        there_is (Some n) o is = refl

-- a part of the state that is written as it was stays everywhere
pub part_kept : {A : Type 0} (part : LayoutState → A) (old new : Tree RenderObject) (h : Handle) (u : LayoutState) → Changes old new h (with_layout_state u)
    → part u ≡ part (state_at old h) → (k : Handle) → part (state_at new k) ≡ part (state_at old k)
part_kept {A} part old new h u changes is k =
    let w = write_is old new h u changes in
    elim (cases_same h k) [
      | inl e ↦ subst (λ (x : Handle). part (state_at new x) ≡ part (state_at old x)) e (at_h w (node_at old h) refl)
      | inr other ↦ ap part (w.there k other)
    ]
  where
    at_h : Written old new h u → (m : Option (TreeNode RenderObject)) → node_at old h ≡ m → part (state_at new h) ≡ part (state_at old h)
    at_h w None e = ap part (w.dead (λ live. none_live (node_at old h) e live))
    at_h w (Some n) e = ap part (w.here (subst (λ (m : Option (TreeNode RenderObject)). IsSome m) (sym e) refl)) ∙ is

-- ---- nodes that look as before

pub looks_self : (t : Tree RenderObject) (k : Handle) → LooksSame t t k
looks_self t k = record { own = refl; places = λ c among. refl }

pub looks_back : (a b : Tree RenderObject) (k : Handle) → children_at b k ≡ children_at a k → LooksSame a b k → LooksSame b a k
looks_back a b k kids looks = record {
  own = sym looks.own;
  places = λ c among. sym (looks.places c (subst (λ (hs : List Handle). Among c hs) kids among));
}

pub looks_again : (a b c : Tree RenderObject) (k : Handle) → children_at b k ≡ children_at a k → LooksSame a b k → LooksSame b c k → LooksSame a c k
looks_again a b c k kids one two = record {
  own = two.own ∙ one.own;
  places = λ x among. two.places x (subst (λ (hs : List Handle). Among x hs) (sym kids) among) ∙ one.places x among;
}

-- ---- what is added to a list

pub times_both : (k : Handle) (xs ys : List Handle) → times k (xs ++ ys) ≡ times k xs + times k ys
times_both k xs ys = sum_by-append (λ (x : Handle). cond {A = ℕ} (same x k) 1 0) xs ys

pub leaves_self : (t : Tree RenderObject) (h : Handle) (hs : List Handle) → Leaves t t h hs hs
leaves_self t h hs = record {
  rest = kept_self t;
  news = [];
  added = sym (append-nil hs);
  repaints = record { same = λ k is. looks_self t k; other = λ k is looks. none_listed k is; live = λ k among. absurd (not_among k among) };
  under = λ k among. absurd (not_among k among);
}
  where
    none_listed : (k : Handle) → times k [] ≡ 1 → ⊥
    none_listed k is = let none : times k [] ≡ 0 = refl in omega (arith, is, none)

    not_among : (k : Handle) → Among k [] → ⊥
    not_among k among = let none : times k [] ≡ 0 = refl in omega (arith, among, none)

split_one : (x y : ℕ) → x + y ≡ 1 → ((x ≡ 1) × (y ≡ 0)) ⊎ ((x ≡ 0) × (y ≡ 1))
split_one zero y e = inr (refl, omega (arith, e))
split_one (suc zero) y e = inl (refl, omega (arith, e))
split_one (suc (suc x)) y e = absurd (omega (arith, e))

pub leaves_again : (a b c : Tree RenderObject) (h : Handle) (xs ys zs : List Handle) → Leaves a b h xs ys → Leaves b c h ys zs → Leaves a c h xs zs
leaves_again a b c h xs ys zs one two = record {
  rest = kept_again a b c one.rest two.rest;
  news = one.news ++ two.news;
  added = two.added ∙ ap (λ (hs : List Handle). hs ++ two.news) one.added ∙ append_assoc xs one.news two.news;
  repaints = record {
    same = λ k none.
        let both = times_both k one.news two.news in
        let first : times k one.news ≡ 0 = omega (arith, none, both) in
        let second : times k two.news ≡ 0 = omega (arith, none, both) in
        looks_again a b c k (kept_children a b k one.rest) (one.repaints.same k first) (two.repaints.same k second);
    other = λ k once looks.
        let both = times_both k one.news two.news in
        let ab = kept_children a b k one.rest in
        let bc = kept_children b c k two.rest in
        elim (split_one (times k one.news) (times k two.news) (sym both ∙ once)) [
          | inl e ↦ one.repaints.other k e.0 (looks_again a c b k (bc ∙ ab) looks (looks_back b c k bc (two.repaints.same k e.1)))
          | inr e ↦ two.repaints.other k e.1 (looks_again b a c k (sym ab) (looks_back a b k ab (one.repaints.same k e.0)) looks)
        ];
    live = λ k among.
        let both = times_both k one.news two.news in
        elim (some_of (times k one.news) (times k two.news) (omega (arith, among, both))) [
          | inl first ↦ one.repaints.live k first
          | inr second ↦ kept_live a b k one.rest (two.repaints.live k second)
        ];
  };
  under = λ k among.
      let both = times_both k one.news two.news in
      elim (some_of (times k one.news) (times k two.news) (omega (arith, among, both))) [
        | inl first ↦ one.under k first
        | inr second ↦ let u = two.under k second in (u.0, under_same a b u.0 k h one.rest u.1)
      ];
}
  where
    some_of : (x y : ℕ) → 1 ≤ x + y → (1 ≤ x) ⊎ (1 ≤ y)
    some_of zero y some = inr (omega (arith, some))
    some_of (suc x) y some = inl (omega arith)

-- what is below a child is below its parent
pub leaves_child : (a b : Tree RenderObject) (h c : Handle) (i : ℕ) (xs ys : List Handle) → c ≡ get_or (children_at a h) i h → i < length (children_at a h)
    → Leaves a b c xs ys → Leaves a b h xs ys
leaves_child a b h c i xs ys named less leaves = record {
  rest = leaves.rest;
  news = leaves.news;
  added = leaves.added;
  repaints = leaves.repaints;
  under = λ k among. let u = leaves.under k among in (suc u.0, (c, subst (λ (x : Handle). Among x (children_at a h)) (sym named) (among_at (children_at a h) i h less), u.1));
}

-- ---- states that are written

-- a state whose parts painting reads as before
pub leaves_mark : (old new : Tree RenderObject) (h : Handle) (u : LayoutState) (hs : List Handle) → Changes old new h (with_layout_state u)
    → own_in u ≡ own_in (state_at old h) → place_in u ≡ place_in (state_at old h) → Leaves old new h hs hs
leaves_mark old new h u hs changes own place = record {
  rest = (write_is old new h u changes).keeps;
  news = [];
  added = sym (append-nil hs);
  repaints = record {
    same = λ k none. record { own = part_kept own_in old new h u changes own k; places = λ c among. part_kept place_in old new h u changes place c };
    other = λ k once looks. let none : times k [] ≡ 0 = refl in absurd (omega (arith, once, none));
    live = λ k among. let none : times k [] ≡ 0 = refl in absurd (omega (arith, among, none));
  };
  under = λ k among. let none : times k [] ≡ 0 = refl in absurd (omega (arith, among, none));
}

pub moves_none : (t : Tree RenderObject) (h : Handle) → Moves t t h false
moves_none t h = record {
  rest = kept_self t;
  own = λ k. refl;
  places = λ k out. refl;
  still = λ e k. refl;
  moved = λ e. absurd (false≢true e);
}

-- a node has one parent, and isn't its own
one_above : (t : Tree RenderObject) (k h c : Handle) → IsTree t → Among c (children_at t k) → Among c (children_at t h) → k ≡ h
one_above t k h c is one two =
    same_Some (sym (child_of t is.0 k c is.1 one).parent ∙ (child_of t is.0 h c is.1 two).parent)

not_own : (t : Tree RenderObject) (h : Handle) → IsTree t → Among h (children_at t h) → ⊥
not_own t h is among = let child = child_of t is.0 h h is.1 among in absurd (omega (arith, child.smaller))

pub or_left : (a b : Bool) → (a || b) ≡ false → a ≡ false
or_left true b e = e
or_left false b e = refl

pub or_right : (a b : Bool) → (a || b) ≡ false → b ≡ false
or_right true true e = e
or_right true false e = refl
or_right false b e = e

abbrev pub noted : Bool → Handle → List Handle
noted b h = cond {A = List Handle} b (h ∷ []) []

-- the children are put at their places, and then the node is written
pub leaves_run : (t0 t1 t2 : Tree RenderObject) (h : Handle) (u : LayoutState) (remade moved : Bool) (hs after : List Handle) → IsTree t0 → IsNode t0 h
    → Moves t0 t1 h moved → Changes t1 t2 h (with_layout_state u) → place_in u ≡ place_in (state_at t0 h)
    → (remade ≡ false → own_in u ≡ own_in (state_at t0 h)) → (remade ≡ true → own_in u ≡ own_in (state_at t0 h) → ⊥)
    → after ≡ hs ++ noted (remade || moved) h → Leaves t0 t2 h hs after
leaves_run t0 t1 t2 h u remade moved hs after is live moves changes place same_own other_own added = go (remade || moved) refl
  where
    w : Written t1 t2 h u
    w = write_is t1 t2 h u changes

    here : state_at t2 h ≡ u
    here = w.here (live_kept t0 t1 h moves.rest live)

    own_there : (k : Handle) → h ≢ k → own_in (state_at t2 k) ≡ own_in (state_at t0 k)
    own_there k other = ap own_in (w.there k other) ∙ moves.own k

    place_there : (k : Handle) → (Among k (children_at t0 h) → ⊥) → place_in (state_at t2 k) ≡ place_in (state_at t0 k)
    place_there k out = elim (cases_same h k) [
      | inl e ↦ subst (λ (x : Handle). place_in (state_at t2 x) ≡ place_in (state_at t0 x)) e (ap place_in here ∙ place)
      | inr other ↦ ap place_in (w.there k other) ∙ moves.places k out
    ]

    go : (b : Bool) → (remade || moved) ≡ b → Leaves t0 t2 h hs after
    go false none = record {
      rest = kept_again t0 t1 t2 moves.rest w.keeps;
      news = [];
      added = added ∙ ap (λ (b : Bool). hs ++ noted b h) none;
      repaints = record {
        same = λ k _. record { own = own_at k; places = λ c among. place_at c };
        other = λ k once looks. let nothing : times k [] ≡ 0 = refl in absurd (omega (arith, once, nothing));
        live = λ k among. let nothing : times k [] ≡ 0 = refl in absurd (omega (arith, among, nothing));
      };
      under = λ k among. let nothing : times k [] ≡ 0 = refl in absurd (omega (arith, among, nothing));
    }
      where
        own_at : (k : Handle) → own_in (state_at t2 k) ≡ own_in (state_at t0 k)
        own_at k = elim (cases_same h k) [
          | inl e ↦ subst (λ (x : Handle). own_in (state_at t2 x) ≡ own_in (state_at t0 x)) e (ap own_in here ∙ same_own (or_left remade moved none))
          | inr other ↦ own_there k other
        ]

        place_at : (k : Handle) → place_in (state_at t2 k) ≡ place_in (state_at t0 k)
        place_at k = elim (cases_same h k) [
          | inl e ↦ subst (λ (x : Handle). place_in (state_at t2 x) ≡ place_in (state_at t0 x)) e (ap place_in here ∙ place)
          | inr other ↦ ap place_in (w.there k other) ∙ moves.still (or_right remade moved none) k
        ]
    go true some = record {
      rest = kept_again t0 t1 t2 moves.rest w.keeps;
      news = h ∷ [];
      added = added ∙ ap (λ (b : Bool). hs ++ noted b h) some;
      repaints = record {
        same = λ k none.
            let apart : h ≢ k = λ e. not_listed k e none in record {
              own = own_there k apart;
              places = λ c among. place_there c (λ too. apart (one_above t0 h k c is too among));
            };
        other = λ k once looks. differs (subst (λ (x : Handle). LooksSame t0 t2 x) (sym (listed_is k once)) looks) remade refl;
        live = λ k among. subst (λ (x : Handle). IsNode t0 x) (among_is k among) live;
      };
      under = λ k among. (0, sym (among_is k among));
    }
      where
        not_listed : (k : Handle) → h ≡ k → times k (h ∷ []) ≡ 0 → ⊥
        not_listed k e none = let one = subst (λ (x : Handle). times x (h ∷ []) ≡ 1 + times x []) e (times_here h []) in absurd (omega (arith, one, none))

        among_is : (k : Handle) → Among k (h ∷ []) → h ≡ k
        among_is k among = elim (cases_same h k) [
          | inl e ↦ e
          | inr other ↦ absurd (let none = times_there k h [] other in let nothing : times k [] ≡ 0 = refl in omega (arith, among, none, nothing))
        ]

        listed_is : (k : Handle) → times k (h ∷ []) ≡ 1 → h ≡ k
        listed_is k once = among_is k (omega (arith, once))

        differs : LooksSame t0 t2 h → (b : Bool) → remade ≡ b → ⊥
        differs looks true e = other_own e (ap own_in (sym here) ∙ looks.own)
        differs looks false e =
            let child = moves.moved (sym (ap (λ (b : Bool). b || moved) e) ∙ some) in
            child.2 (ap place_in (sym (w.there child.0 (λ same. not_own t0 h is (subst (λ (x : Handle). Among x (children_at t0 h)) (sym same) child.1)))) ∙ looks.places child.0 child.1)

-- ---- children put at their places, one after another

-- the first i children were put somewhere
pub record Moving (t0 t : Tree RenderObject) (h : Handle) (i : ℕ) (b : Bool) : Type 0 where
  pub keeps : KeepsRest t0 t
  pub own : (k : Handle) → own_in (state_at t k) ≡ own_in (state_at t0 k)
  pub places : (k : Handle) → (Among k (children_at t0 h) → ⊥) → place_in (state_at t k) ≡ place_in (state_at t0 k)
  pub later : (n : ℕ) → i ≤ n → n < length (children_at t0 h)
      → place_in (state_at t (get_or (children_at t0 h) n h)) ≡ place_in (state_at t0 (get_or (children_at t0 h) n h))
  pub still : b ≡ false → (k : Handle) → place_in (state_at t k) ≡ place_in (state_at t0 k)
  pub moved : b ≡ true → (n : ℕ) × (n < i) × (n < length (children_at t0 h))
      × (place_in (state_at t (get_or (children_at t0 h) n h)) ≡ place_in (state_at t0 (get_or (children_at t0 h) n h)) → ⊥)

pub moving_start : (t : Tree RenderObject) (h : Handle) → Moving t t h 0 false
moving_start t h = record {
  keeps = kept_self t;
  own = λ k. refl;
  places = λ k out. refl;
  later = λ n from less. refl;
  still = λ e k. refl;
  moved = λ e. absurd (false≢true e);
}

pub moving_end : (t0 t : Tree RenderObject) (h : Handle) (i : ℕ) (moved : Bool) → Moving t0 t h i moved → Moves t0 t h moved
moving_end t0 t h i moved m = record {
  rest = m.keeps;
  own = m.own;
  places = m.places;
  still = m.still;
  moved = λ e. let one = m.moved e in (get_or (children_at t0 h) one.0 h, among_at (children_at t0 h) one.0 h one.2, one.3);
}

-- no child stands twice in a list
get_apart : (cs : List Handle) (i n : ℕ) (z : Handle) → ((c : Handle) → times c cs ≤ 1) → i < n → n < length cs → get_or cs i z ≡ get_or cs n z → ⊥
get_apart [] i n z once less short same = absurd (omega (arith, less, short))
get_apart (c ∷ cs) i zero z once less short same = absurd (omega (arith, less))
get_apart (c ∷ cs) zero (suc n) z once less short same =
    let there : Among (get_or cs n z) cs = among_at cs n z (omega (arith, short)) in
    let here : times c (c ∷ cs) ≡ 1 + times c cs = times_here c cs in
    let twice : Among c cs = subst (λ (x : Handle). Among x cs) (sym same) there in
    let few = once c in
    absurd (omega (arith, here, twice, few))
get_apart (c ∷ cs) (suc i) (suc n) z once less short same =
    get_apart cs i n z (λ x. let more = times-cons x c cs in let few = once x in omega (arith, more, few)) (omega (arith, less)) (omega (arith, short)) same

distinct_kids : (t : Tree RenderObject) (h : Handle) → IsTree t → (c : Handle) → times c (children_at t h) ≤ 1
distinct_kids t h is c = elim (is_listed (times c (children_at t h)) refl) [
  | inl none ↦ omega (arith, none)
  | inr some ↦ once (node_at t h) refl some
]
  where
    is_listed : (n : ℕ) → times c (children_at t h) ≡ n → (times c (children_at t h) ≡ 0) ⊎ Among c (children_at t h)
    is_listed zero e = inl e
    is_listed (suc n) e = inr (omega (arith, e))

    once : (m : Option (TreeNode RenderObject)) → node_at t h ≡ m → Among c (children_at t h) → times c (children_at t h) ≤ 1
    once None e among = let none : times c (children_at t h) ≡ 0 = ap (λ (x : Option (TreeNode RenderObject)). times c (children_of x)) e in omega (arith, none)
    once (Some n) e among =
        let child = child_of t is.0 h c is.1 among in
        let few = (one_parent t is.0 c is.1 (live_from_parent (node_at t c) h child.parent)).once h n e in
        let list : times c (children_at t h) ≡ times c n.children = ap (λ (x : Option (TreeNode RenderObject)). times c (children_of x)) e in
        omega (arith, few, list)

-- one more child is put somewhere
moving_on : (t0 t t1 : Tree RenderObject) (h c : Handle) (i : ℕ) (moved m : Bool) (u : LayoutState) → IsTree t0 → c ≡ get_or (children_at t h) i h
    → i < length (children_at t0 h) → Changes t t1 c (with_layout_state u) → own_in u ≡ own_in (state_at t c)
    → (m ≡ false → place_in u ≡ place_in (state_at t c)) → (m ≡ true → place_in u ≡ place_in (state_at t c) → ⊥)
    → Moving t0 t h i moved → Moving t0 t1 h (i + 1) (moved || m)
moving_on t0 t t1 h c i moved m u is named less changes own still other so_far = record {
  keeps = kept_again t0 t t1 so_far.keeps w.keeps;
  own = λ k. part_kept own_in t t1 c u changes own k ∙ so_far.own k;
  places = λ k out. ap place_in (w.there k (λ e. out (subst (λ (x : Handle). Among x cs) e child))) ∙ so_far.places k out;
  later = λ n from short.
      ap place_in (w.there (get_or cs n h) (λ e. get_apart cs i n h (distinct_kids t0 h is) (omega (arith, from)) short (sym at ∙ e)))
      ∙ so_far.later n (omega (arith, from)) short;
  still = λ e k. part_kept place_in t t1 c u changes (still (or_right moved m e)) k ∙ so_far.still (or_left moved m e) k;
  moved = λ e. by moved refl e;
}
  where
    cs : List Handle
    cs = children_at t0 h

    at : c ≡ get_or cs i h
    at = named ∙ ap (λ (hs : List Handle). get_or hs i h) (kept_children t0 t h so_far.keeps)

    child : Among c cs
    child = subst (λ (x : Handle). Among x cs) (sym at) (among_at cs i h less)

    w : Written t t1 c u
    w = write_is t t1 c u changes

    live : IsNode t c
    live = live_kept t0 t c so_far.keeps (live_from_parent (node_at t0 c) h (child_of t0 is.0 h c is.1 child).parent)

    by : (b : Bool) → moved ≡ b → (moved || m) ≡ true
        → (n : ℕ) × (n < i + 1) × (n < length cs) × (place_in (state_at t1 (get_or cs n h)) ≡ place_in (state_at t0 (get_or cs n h)) → ⊥)
    by true e some =
        let one = so_far.moved e in (
          one.0,
          (let before = one.1 in omega (arith, before)),
          one.2,
          (λ same. one.3 (ap place_in (sym (w.there (get_or cs one.0 h) (λ x. get_apart cs one.0 i h (distinct_kids t0 h is) one.1 less (sym (sym at ∙ x))))) ∙ same)),
        )
    by false e some =
        let now : m ≡ true = sym (ap (λ (b : Bool). b || m) e) ∙ some in (
          i,
          omega arith,
          less,
          (λ same. other now (
              ap place_in (sym (w.here live))
              ∙ ap (λ (x : Handle). place_in (state_at t1 x)) at
              ∙ same
              ∙ sym (so_far.later i (omega arith) less)
              ∙ ap (λ (x : Handle). place_in (state_at t x)) (sym at))),
        )

-- nothing is written where the child stands so already
moving_pass : (t0 t : Tree RenderObject) (h : Handle) (i : ℕ) (moved m : Bool) → m ≡ false → Moving t0 t h i moved → Moving t0 t h (i + 1) (moved || m)
moving_pass t0 t h i moved m e so_far = record {
  keeps = so_far.keeps;
  own = so_far.own;
  places = so_far.places;
  later = λ n from short. so_far.later n (omega (arith, from)) short;
  still = λ f k. so_far.still (or_left moved m f) k;
  moved = λ f.
      let one = so_far.moved (by moved refl f) in (
        one.0,
        (let before = one.1 in omega (arith, before)),
        one.2,
        one.3,
      );
}
  where
    by : (b : Bool) → moved ≡ b → (moved || m) ≡ true → moved ≡ true
    by true x f = x
    by false x f = absurd (false≢true (sym e ∙ (sym (ap (λ (b : Bool). b || m) x) ∙ f)))

pub moving_step : (t0 t t1 : Tree RenderObject) (h c : Handle) (i : ℕ) (moved m : Bool) (u : LayoutState) → IsTree t0 → c ≡ get_or (children_at t h) i h
    → i < length (children_at t0 h) → (m ≡ true → Changes t t1 c (with_layout_state u)) → (m ≡ false → t1 ≡ t) → own_in u ≡ own_in (state_at t c)
    → (m ≡ true → place_in u ≡ place_in (state_at t c) → ⊥) → Moving t0 t h i moved → Moving t0 t1 h (i + 1) (moved || m)
moving_step t0 t t1 h c i moved m u is named less changes stays own other so_far = by m refl
  where
    by : (b : Bool) → m ≡ b → Moving t0 t1 h (i + 1) (moved || m)
    by true e = moving_on t0 t t1 h c i moved m u is named less (changes e) own (λ f. absurd (false≢true (sym f ∙ e))) other so_far
    by false e = subst (λ (x : Tree RenderObject). Moving t0 x h (i + 1) (moved || m)) (sym (stays e)) (moving_pass t0 t h i moved m e so_far)

-- ---- whether a child moves

pub own_same : (at : Option Offset) (u : LayoutState) → own_in (put_at at u) ≡ own_in u
own_same None u = refl
own_same (Some at) u = refl

pub not_true : (b : Bool) → not b ≡ true → b ≡ false
not_true true e = sym e
not_true false e = refl

pub not_false : (b : Bool) → not b ≡ false → b ≡ true
not_false true e = refl
not_false false e = sym e

pub still_none : (u : LayoutState) → u.shown ≡ false → place_in (put_at None u) ≡ place_in u
still_none u e = ap (λ (b : Bool). record { offset = u.offset; shown = b }) (sym e)

pub moved_none : (u : LayoutState) → u.shown ≡ true → place_in (put_at None u) ≡ place_in u → ⊥
moved_none u e same = false≢true (ap (λ (p : PaintedPlace). p.shown) same ∙ e)

pub still_some : (at : Offset) (u : LayoutState) → u.shown ≡ true → u.offset ≡ Some at → place_in (put_at (Some at) u) ≡ place_in u
still_some at u e f = λ i. record { offset = sym f i; shown = sym e i }

pub moved_unseen : (at : Offset) (u : LayoutState) → u.shown ≡ false → place_in (put_at (Some at) u) ≡ place_in u → ⊥
moved_unseen at u e same = false≢true (sym e ∙ sym (ap (λ (p : PaintedPlace). p.shown) same))

pub moved_away : (at : Offset) (u : LayoutState) → (u.offset ≡ Some at → ⊥) → place_in (put_at (Some at) u) ≡ place_in u → ⊥
moved_away at u away same = away (sym (ap (λ (p : PaintedPlace). p.offset) same))

-- ---- a rule that was run

frame_other : (stored : Option Frame) (frame : Frame) → has_frame stored (Some frame) ≡ false → stored ≡ Some frame → ⊥
frame_other stored frame differs is =
    false≢true (sym differs ∙ ap (λ (f : Option Frame). has_frame f (Some frame)) is ∙ same_frame_self frame)

-- a frame was stored that is another one than before
pub leaves_held : (old new : Tree RenderObject) (h : Handle) (u w : LayoutState) (frame : Frame) (b : Bool) (hs after : List Handle) → IsTree old → IsNode old h → u ≡ state_at old h
    → b ≡ has_frame u.frame (Some frame) → b ≡ false → w.frame ≡ Some frame → place_in w ≡ place_in u → Changes old new h (with_layout_state w)
    → after ≡ hs ++ h ∷ [] → Leaves old new h hs after
leaves_held old new h u w frame b hs after is live state has other frames place changes added =
    leaves_run old old new h w true false hs after is live (moves_none old h) changes (place ∙ ap (λ (x : LayoutState). place_in x) state) (λ e. absurd (false≢true (sym e)))
    (λ e same. frame_other u.frame frame (sym has ∙ other) (ap (λ (x : LayoutState). x.frame) state ∙ sym (ap (λ (p : PaintedOwn). p.frame) same) ∙ frames)) added

frame_same : (stored : Option Frame) (frame : Frame) → has_frame stored (Some frame) ≡ true → stored ≡ Some frame
frame_same None frame e = absurd (false≢true e)
frame_same (Some f) frame e = ap (λ (x : Frame). Some x) (same_frame_is f frame e)

bits_same : (x y : Bool) → not (beq x y) ≡ false → x ≡ y
bits_same true true e = refl
bits_same true false e = absurd (false≢true (sym e))
bits_same false true e = absurd (false≢true (sym e))
bits_same false false e = refl

bits_beq : (x y : Bool) → x ≡ y → beq x y ≡ true
bits_beq true true e = refl
bits_beq true false e = sym e
bits_beq false true e = e
bits_beq false false e = refl

pub remade_same : (u : LayoutState) (frame : Frame) (plugged a : Bool) → a ≡ has_frame u.frame (Some frame) → (not a || not (beq u.plugged plugged)) ≡ false → (u.frame ≡ Some frame) × (u.plugged ≡ plugged)
remade_same u frame plugged a has e = (
  frame_same u.frame frame (sym has ∙ not_false a (or_left (not a) (not (beq u.plugged plugged)) e)),
  bits_same u.plugged plugged (or_right (not a) (not (beq u.plugged plugged)) e),
)

pub remade_other : (u : LayoutState) (frame : Frame) (plugged a : Bool) → a ≡ has_frame u.frame (Some frame) → (not a || not (beq u.plugged plugged)) ≡ true → u.frame ≡ Some frame → u.plugged ≡ plugged → ⊥
remade_other u frame plugged a has e frames plugs =
    let one : a ≡ true = has ∙ ap (λ (f : Option Frame). has_frame f (Some frame)) frames ∙ same_frame_self frame in
    let two = bits_beq u.plugged plugged plugs in
    false≢true ((λ i. not (sym one i) || not (sym two i)) ∙ e)

abbrev own_of : Option Frame → Bool → PaintedOwn
own_of f a = record { frame = f; plugged = a }

-- what a rule made is stored, and its children are put at their places
pub leaves_ran : (t0 t1 t2 : Tree RenderObject) (h : Handle) (u w : LayoutState) (frame : Frame) (plugged remade moved : Bool) (hs after : List Handle) → IsTree t0 → IsNode t0 h → u ≡ state_at t0 h
    → Moves t0 t1 h moved → Changes t1 t2 h (with_layout_state w) → w.frame ≡ Some frame → w.plugged ≡ plugged → place_in w ≡ place_in u
    → (remade ≡ false → (u.frame ≡ Some frame) × (u.plugged ≡ plugged)) → (remade ≡ true → u.frame ≡ Some frame → u.plugged ≡ plugged → ⊥)
    → after ≡ hs ++ noted (remade || moved) h → Leaves t0 t2 h hs after
leaves_ran t0 t1 t2 h u w frame plugged remade moved hs after is live state moves changes frames plugs place same_own other_own added =
    leaves_run t0 t1 t2 h w remade moved hs after is live moves changes (place ∙ ap (λ (x : LayoutState). place_in x) state)
    (λ e. let both = same_own e in own_so w.frame u.frame w.plugged u.plugged (frames ∙ sym both.0) (plugs ∙ sym both.1) ∙ ap (λ (x : LayoutState). own_in x) state)
    (λ e same. other_own e
    (ap (λ (x : LayoutState). x.frame) state ∙ sym (ap (λ (p : PaintedOwn). p.frame) same) ∙ frames)
    (ap (λ (x : LayoutState). x.plugged) state ∙ sym (ap (λ (p : PaintedOwn). p.plugged) same) ∙ plugs))
    added
  where
    own_so : (f g : Option Frame) (a b : Bool) → f ≡ g → a ≡ b → own_of f a ≡ own_of g b
    own_so f g a b e k = λ i. own_of (e i) (k i)

-- the same, where the state is written at once
pub leaves_made : (s : Setting) (look : Look) (frame : Frame) (notes : Notes) (scrolled : ℕ) (t0 t1 t2 : Tree RenderObject) (h : Handle) (u w : LayoutState) (remade moved mark : Bool) (hs after : List Handle)
    → IsTree t0 → IsNode t0 h → u ≡ state_at t0 h → w ≡ made_state s look frame notes scrolled u → Moves t0 t1 h moved → Changes t1 t2 h (with_layout_state (record w { layout_below = mark }))
    → (remade ≡ false → (u.frame ≡ w.frame) × (u.plugged ≡ w.plugged)) → (remade ≡ true → u.frame ≡ w.frame → u.plugged ≡ w.plugged → ⊥)
    → after ≡ hs ++ noted (remade || moved) h → Leaves t0 t2 h hs after
leaves_made s look frame notes scrolled t0 t1 t2 h u w remade moved mark hs after is live state made moves changes same_own other_own added =
    let frames : w.frame ≡ Some frame = ap (λ (x : LayoutState). x.frame) made in
    leaves_ran t0 t1 t2 h u (record w { layout_below = mark }) frame w.plugged remade moved hs after is live state moves changes frames refl (ap (λ (x : LayoutState). place_in x) made)
    (λ e. let both = same_own e in (both.0 ∙ frames, both.1)) (λ e f p. other_own e (f ∙ sym frames) p) added

-- ---- how many are listed

pub pushed_few : (hs after : List Handle) (h : Handle) → after ≡ hs ++ h ∷ [] → length after ≡ length hs + 1
pushed_few hs after h is = ap (λ (xs : List Handle). length xs) is ∙ length-append hs (h ∷ [])

pub noted_few : (hs after : List Handle) (h : Handle) (b : Bool) → after ≡ hs ++ (if b then h ∷ [] else []) → length after ≤ length hs + 1
noted_few hs after h true is = let one = pushed_few hs after h is in omega (arith, one)
noted_few hs after h false is = let none_more = ap (λ (xs : List Handle). length xs) is ∙ length-append hs [] in omega (arith, none_more)
