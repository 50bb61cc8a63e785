-- The users of delegates after removals, and after a plan.
use Rattle.std.proofs.Common.{◌≡◌, ℕ, zero, suc, ◌+◌, ◌≤◌, Bool, true, false, cond, nat_lt, List, [], ◌∷◌, ◌++◌, length, drop, Option, Some, None, IsSome, option_map, option_and_then, refl, sym, ap, ◌∙◌, subst, arith}
use Rattle.std.proofs.lemmas.Bool.{false≢true, true≢false, false_from_ne_true}
use Rattle.std.proofs.lemmas.Bool.Decides.{nat_tests}
use Rattle.std.proofs.lemmas.List.{drop_all}
use Rattle.std.specs.Option.{option_to_list}
use Rattle.fx_handles.specs.declared.Handle.{Handle}
use Rattle.fx_handles.specs.Handle.{same, times, AreDistinct}
use Rattle.fx_handles.specs.HandleLaws.{same-true, same_self, times-cons, times_here}
use Rattle.handle_groups.specs.Groups.{Groups, stands_under}
use Rattle.node_tree.specs.Forest.{TreeNode, Forest, tops, count, first_trees, In, Stands}
use Rattle.node_tree.specs.Forest.Forest.{none, tree}
use Rattle.node_tree.specs.Tree.{Tree, IsNode, IsTree, Is, node_at, tops_at, subtree_at}
use Rattle.node_tree.specs.Edits.{RemovesBelow, DropsInactive}
use Rattle.node_tree.specs.Plan.{PlanEntry, planned, entry_at, relinked, committed, Commits}
use Rattle.node_tree.specs.Part.{kept_by, left_node, CommitsPart}
use Rattle.widget_model.specs.Plain.{look_of}
use Rattle.layout_form.specs.Layout.{delegate_of}
use Rattle.render_tree.specs.Object.{RenderObject, object_look}
use Rattle.render_tree.specs.Redraw.{Redraw, redrawn}
use Rattle.render_tree.specs.Tree.{object_at}
use Rattle.render_tree.specs.Users.{delegate_at, is_called, is_in, is_at_or_below, AreUsers, Drops, standing}
use Rattle.render_tree.specs.Renamed.{planned_delegate, renamed, IsKnown, AreKnown, Names, Renames, RenamesAll}
use Rattle.render_tree.proofs.Used.{same-sym, standing-same, drop_called, put_standing}
use Rattle.render_tree.proofs.Dropped.{Walks, in-tops}

-- the delegate of what is stored
abbrev delegate : Option RenderObject → Option (List ℕ)
delegate o = option_and_then (λ x. delegate_of (object_look x)) o

abbrev delegate_in : Option (TreeNode RenderObject) → Option (List ℕ)
delegate_in o = delegate (option_map (λ n. n.value) o)

in_from : (n : ℕ) → nat_lt 0 n ≡ true → 1 ≤ n
in_from n e = grind (arith, nat_tests)

in_none : (n : ℕ) → nat_lt 0 n ≡ false → n ≡ 0
in_none n e = grind (arith, nat_tests)

-- ---- removals

pub used_removed : (g a : Groups) (t u : Tree RenderObject) (h : Handle) (n : ℕ) → AreUsers g t → Drops t (λ k. is_in k (subtree_at t h)) g a → RemovesBelow t u h n
    → ((k : Handle) → (In k (subtree_at t h) → ⊥) → object_at u k ≡ object_at t k) → AreUsers a u
used_removed g a t u h n are drops removes values = λ m k. drops (λ _. false) are m k ∙ ap (is_called m) (by k (is_in k (subtree_at t h)) refl)
  where
    by : (k : Handle) (b : Bool) → is_in k (subtree_at t h) ≡ b → cond b None (delegate_at t k) ≡ delegate_at u k
    by k true e = sym (ap delegate_in (removes.gone k (in_from (count k (subtree_at t h)) e)))
    by k false e = sym (ap delegate (values k (λ among. let zero_of = in_none (count k (subtree_at t h)) e in absurd (omega (arith, zero_of, among)))))

-- a forest that a tree is: the root's tree, if there is a root, and the inactive ones
record Split (t : Tree RenderObject) (f : Forest RenderObject) : Type 0 where
  first : Forest RenderObject
  rest : Forest RenderObject
  firsts : first_trees (length (option_to_list t.root)) f ≡ first
  inactive : tops rest ≡ t.inactive
  stands : Stands (node_at t) None rest
  counts : (k : Handle) → count k f ≡ count k first + count k rest

split : (t : Tree RenderObject) (f : Forest RenderObject) → Is t f → Split t f
split t f is = by t.root refl f is.tops is.stands
  where
    by : (r : Option Handle) → t.root ≡ r → (g : Forest RenderObject) → tops_at t ≡ tops g → Stands (node_at t) None g → Split t g
    by None e g top stands = record {
      first = none;
      rest = g;
      firsts = ap (λ o. first_trees (length (option_to_list o)) g) e;
      inactive = sym top ∙ ap (λ o. option_to_list o ++ t.inactive) e;
      stands = stands;
      counts = λ k. omega arith;
    }
    by (Some r) e none top stands = absurd (let both : r ∷ t.inactive ≡ [] = sym (ap (λ o. option_to_list o ++ t.inactive) e) ∙ top in cc)
    by (Some r) e (tree h v b rest) top stands = record {
      first = tree h v b none;
      rest = rest;
      firsts = ap (λ o. first_trees (length (option_to_list o)) (tree h v b rest)) e;
      inactive = (let both : r ∷ t.inactive ≡ h ∷ tops rest = sym (ap (λ o. option_to_list o ++ t.inactive) e) ∙ top in cc);
      stands = stands.2;
      counts = λ k. omega arith;
    }

pub used_dropped : Walks → ((x : Tree RenderObject) (p : Option Handle) (f : Forest RenderObject) (k : Handle) → Stands (node_at x) p f → In k f → IsNode x k)
    → (g a : Groups) (t u : Tree RenderObject) (n : ℕ) → IsTree t → AreUsers g t → Drops t (is_at_or_below t t.inactive) g a → DropsInactive t u n
    → ((k : Handle) → IsNode u k → object_at u k ≡ object_at t k) → AreUsers a u
used_dropped walks live g a t u n is are drops gone values = λ m k. drops (λ _. false) are m k ∙ ap (is_called m) (by k (is_at_or_below t t.inactive k) refl (node_at u k) refl)
  where
    f : Forest RenderObject
    f = is.0

    parts : Split t f
    parts = split t f is.1

    same_list : (k : Handle) → is_at_or_below t t.inactive k ≡ is_in k parts.rest
    same_list k = sym (in-tops walks t None parts.rest parts.stands (λ x. let d = is.1.distinct x in let c = parts.counts x in omega (arith, d, c)) k ∙ ap (λ hs. is_at_or_below t hs k) parts.inactive)

    now : Is u parts.first
    now = subst (Is u) parts.firsts (gone.plain f is.1)

    by : (k : Handle) (b : Bool) → is_at_or_below t t.inactive k ≡ b → (o : Option (TreeNode RenderObject)) → node_at u k ≡ o → cond b None (delegate_at t k) ≡ delegate_at u k
    by k true e None at = sym (ap delegate_in at)
    by k true e (Some x) at =
        let low = in_from (count k parts.rest) (sym (same_list k) ∙ e) in
        let up = now.whole k (subst IsSome (sym at) refl) in
        let d = is.1.distinct k in
        let c = parts.counts k in
        absurd (omega (arith, low, up, d, c))
    by k false e None at = dead (node_at t k) refl ∙ sym (ap delegate_in at)
      where
        dead : (o : Option (TreeNode RenderObject)) → node_at t k ≡ o → delegate_in o ≡ None
        dead None was = refl
        dead (Some x) was =
            let low = in_none (count k parts.rest) (sym (same_list k) ∙ e) in
            let there = is.1.whole k (subst IsSome (sym was) refl) in
            let c = parts.counts k in
            let first : In k parts.first = omega (arith, low, there, c) in
            let alive = live u None parts.first k now.stands first in
            absurd (true≢false (sym (subst IsSome at alive)))
    by k false e (Some x) at = sym (ap delegate (values k (subst IsSome (sym at) refl)))

-- ---- one entry of a plan

called_false : (n : List ℕ) (o : Option (List ℕ)) → (is_called n o ≡ true → ⊥) → is_called n o ≡ false
called_false n o never = false_from_ne_true (is_called n o) never

-- no node is at its handle
pub renames-dead : (t : Tree RenderObject) (e : PlanEntry Redraw) (g : Groups) → object_at t e.at ≡ None → Renames t e g g
renames-dead t e g dead = λ names known are n k. are n k ∙ by names known n k (same e.at k) refl
  where
    by : (names : Handle → Option (List ℕ)) → IsKnown t names e.at → (n : List ℕ) (k : Handle) (b : Bool) → same e.at k ≡ b
        → is_called n (names k) ≡ is_called n (cond b (planned_delegate t e k) (names k))
    by names known n k true is =
        let here : e.at ≡ k = same-true e.at k is in
        let nothing : is_called n (names e.at) ≡ false = called_false n (names e.at) (λ called. false≢true (sym (ap (λ o. is_called n (delegate o)) dead) ∙ known n called)) in
        ap (λ c. is_called n (names c)) (sym here) ∙ nothing
        ∙ sym (ap (λ c. is_called n (planned_delegate t e c)) (sym here) ∙ ap (λ o. is_called n (option_and_then (λ _. delegate_of (look_of e.update.widget)) o)) dead)
    by names known n k false is = refl

-- the node at its handle
pub renames-live : (t : Tree RenderObject) (e : PlanEntry Redraw) (g a b c : Groups) (o : RenderObject) (h : Handle) (d x : Option (List ℕ)) → h ≡ e.at → object_at t h ≡ Some o
    → delegate_of (object_look o) ≡ d → delegate_of (look_of e.update.widget) ≡ x
    → ((n : List ℕ) (k : Handle) → stands_under a n k ≡ standing false d h (stands_under g) n k)
    → ((n : List ℕ) (k : Handle) → stands_under b n k ≡ stands_under a n k)
    → ((n : List ℕ) (k : Handle) → stands_under c n k ≡ standing true x h (stands_under b) n k) → Renames t e g c
renames-live t e g a b c o h d x is there was will gone held put = λ names known are n k.
    put n k
    ∙ standing-same true x h (stands_under b) (λ m q. is_called m (D names q)) n k
    (held n k ∙ gone n k ∙ standing-same false d h (stands_under g) (λ m q. is_called m (names q)) n k (are n k) ∙ drop_called names d h n k (at_h names known n))
    ∙ put_standing (D names) x h n k (ap (λ q. cond {A = Option (List ℕ)} q None (names h)) (same_self h))
    ∙ ap (is_called n) (by names k (same h k) refl)
  where
    D : (Handle → Option (List ℕ)) → Handle → Option (List ℕ)
    D names q = cond (same h q) None (names q)

    at_h : (names : Handle → Option (List ℕ)) → IsKnown t names e.at → (n : List ℕ) → is_called n (names h) ≡ true → is_called n d ≡ true
    at_h names known n called =
        sym (ap (is_called n) (ap delegate there ∙ was)) ∙ ap (λ q. is_called n (delegate_at t q)) is ∙ known n (sym (ap (λ q. is_called n (names q)) is) ∙ called)

    by : (names : Handle → Option (List ℕ)) (k : Handle) (q : Bool) → same h k ≡ q → cond q x (D names k) ≡ cond (same e.at k) (planned_delegate t e k) (names k)
    by names k true s =
        sym will
        ∙ sym (ap (λ v. option_and_then (λ _. delegate_of (look_of e.update.widget)) v) (ap (object_at t) (sym (same-true h k s)) ∙ there))
        ∙ sym (ap (λ q. cond q (planned_delegate t e k) (names k)) (ap (λ y. same y k) (sym is) ∙ s))
    by names k false s = ap (λ q. cond {A = Option (List ℕ)} q None (names k)) s ∙ sym (ap (λ q. cond q (planned_delegate t e k) (names k)) (ap (λ y. same y k) (sym is) ∙ s))

-- ---- the entries of a plan, one after another

-- what is known of the others stays so
known-kept : (t : Tree RenderObject) (names : Handle → Option (List ℕ)) (e : PlanEntry Redraw) (es : List (PlanEntry Redraw)) → times e.at (planned es) ≡ 0
    → AreKnown t names es → AreKnown t (λ c. cond (same e.at c) (planned_delegate t e c) (names c)) es
known-kept t names e [] absent known = tt
known-kept t names e (x ∷ xs) absent known = (
  λ n called. known.0 n (sym (ap (λ q. is_called n (cond q (planned_delegate t e x.at) (names x.at))) apart) ∙ called),
  known-kept t names e xs later known.1,
)
  where
    one : cond {A = ℕ} (same x.at e.at) 1 0 + times e.at (planned xs) ≡ 0
    one = sym (times-cons e.at x.at (planned xs)) ∙ absent

    later : times e.at (planned xs) ≡ 0
    later = let o = one in omega (arith, o)

    apart : same e.at x.at ≡ false
    apart = same-sym e.at x.at ∙ is_false (same x.at e.at) one
      where
        is_false : (b : Bool) → cond {A = ℕ} b 1 0 + times e.at (planned xs) ≡ 0 → b ≡ false
        is_false true sum_of = absurd (omega (arith, sum_of))
        is_false false sum_of = refl

-- what the loop over a plan has done so far: these are the names, and what is left gives what all would give
pub record Midway (t : Tree RenderObject) (es : List (PlanEntry Redraw)) (names : Handle → Option (List ℕ)) (i : ℕ) (g : Groups) : Type 0 where
  pub now : Handle → Option (List ℕ)
  pub are : Names g now
  pub known : AreKnown t now (drop i es)
  pub rest : (k : Handle) → renamed t (drop i es) now k ≡ renamed t es names k

abbrev pub Renaming : Tree RenderObject → List (PlanEntry Redraw) → ℕ → Groups → Groups → Type 0
Renaming t es i old g = (names : Handle → Option (List ℕ)) → AreKnown t names es → Names old names → Midway t es names i g

pub renaming-start : (t : Tree RenderObject) (es : List (PlanEntry Redraw)) (g : Groups) → Renaming t es 0 g g
renaming-start t es g = λ names known are. record { now = names; are = are; known = known; rest = λ k. refl }

distinct-drop : (i : ℕ) (es : List (PlanEntry Redraw)) (h : Handle) → times h (planned (drop i es)) ≤ times h (planned es)
distinct-drop zero es h = (omega arith)
distinct-drop (suc i) [] h = (omega arith)
distinct-drop (suc i) (e ∷ es) h =
    let later = distinct-drop i es h in
    let here = times-cons h e.at (planned es) in
    omega (arith, later, here)

pub renaming-more : (t : Tree RenderObject) (es : List (PlanEntry Redraw)) (i : ℕ) (e : PlanEntry Redraw) (old g a : Groups) → AreDistinct (planned es) → drop i es ≡ e ∷ drop (i + 1) es
    → Renaming t es i old g → Renames t e g a → Renaming t es (i + 1) old a
renaming-more t es i e old g a once is mid renames = λ names known are.
    let m = mid names known are in
    let both : AreKnown t m.now (e ∷ drop (i + 1) es) = subst (AreKnown t m.now) is m.known in
    record {
      now = λ c. cond (same e.at c) (planned_delegate t e c) (m.now c);
      are = renames m.now both.0 m.are;
      known = known-kept t m.now e (drop (i + 1) es) absent both.1;
      rest = λ k. sym (ap (λ xs. renamed t xs m.now k) is) ∙ m.rest k;
    }
  where
    absent : times e.at (planned (drop (i + 1) es)) ≡ 0
    absent =
        let most = distinct-drop i es e.at in
        let one = once e.at in
        let here : times e.at (planned (drop i es)) ≡ 1 + times e.at (planned (drop (i + 1) es)) = ap (λ xs. times e.at (planned xs)) is ∙ times_here e.at (planned (drop (i + 1) es)) in
        omega (arith, most, one, here)

pub renaming-end : (t : Tree RenderObject) (es : List (PlanEntry Redraw)) (i : ℕ) (old g : Groups) → length es ≤ i → Renaming t es i old g → RenamesAll t es old g
renaming-end t es i old g all mid = λ names known are n k.
    let m = mid names known are in
    m.are n k ∙ ap (is_called n) (sym (ap (λ xs. renamed t xs m.now k) (drop_all i es all)) ∙ m.rest k)

-- ---- what a plan leaves

-- by the handle's entry, if there is one
abbrev by_entry : Tree RenderObject → Handle → Option (PlanEntry Redraw) → Option (List ℕ) → Option (List ℕ)
by_entry t k None was = was
by_entry t k (Some e) was = planned_delegate t e k

no_entry : (es : List (PlanEntry Redraw)) (k : Handle) → times k (planned es) ≡ 0 → entry_at es k ≡ None
no_entry [] k absent = refl
no_entry (e ∷ es) k absent = by (same k e.at) refl (no_entry es k)
  where
    by : (b : Bool) → same k e.at ≡ b → (times k (planned es) ≡ 0 → entry_at es k ≡ None) → cond b (Some e) (entry_at es k) ≡ None
    by true s later =
        let here : cond {A = ℕ} (same e.at k) 1 0 ≡ 1 = ap (λ b. cond {A = ℕ} b 1 0) (same-sym e.at k ∙ s) in
        let sum_of = times-cons k e.at (planned es) in
        absurd (omega (arith, here, sum_of, absent))
    by false s later = later (let sum_of = times-cons k e.at (planned es) in omega (arith, sum_of, absent))

renamed-entry : (t : Tree RenderObject) (es : List (PlanEntry Redraw)) (names : Handle → Option (List ℕ)) (k : Handle) → AreDistinct (planned es)
    → renamed t es names k ≡ by_entry t k (entry_at es k) (names k)
renamed-entry t [] names k once = refl
renamed-entry t (e ∷ es) names k once =
    renamed-entry t es (λ c. cond (same e.at c) (planned_delegate t e c) (names c)) k (λ h. let o = once h in let s = times-cons h e.at (planned es) in omega (arith, o, s))
    ∙ by (same k e.at) refl
  where
    by : (b : Bool) → same k e.at ≡ b → by_entry t k (entry_at es k) (cond (same e.at k) (planned_delegate t e k) (names k)) ≡ by_entry t k (cond b (Some e) (entry_at es k)) (names k)
    by true s =
        let here : cond {A = ℕ} (same e.at k) 1 0 ≡ 1 = ap (λ b. cond {A = ℕ} b 1 0) (same-sym e.at k ∙ s) in
        let sum_of = times-cons k e.at (planned es) in
        let o = once k in
        let absent : times k (planned es) ≡ 0 = omega (arith, here, sum_of, o) in
        ap (λ x. by_entry t k x (cond (same e.at k) (planned_delegate t e k) (names k))) (no_entry es k absent)
        ∙ ap (λ q. cond q (planned_delegate t e k) (names k)) (same-sym e.at k ∙ s)
    by false s = ap (λ q. by_entry t k (entry_at es k) (cond q (planned_delegate t e k) (names k))) (same-sym e.at k ∙ s)

relinked-delegate : (e : PlanEntry Redraw) (o : Option (TreeNode RenderObject)) → delegate_in (option_map (relinked redrawn e) o) ≡ option_and_then (λ _. delegate_of (look_of e.update.widget)) (option_map (λ n. n.value) o)
relinked-delegate e None = refl
relinked-delegate e (Some n) = refl

committed-entry : (t : Tree RenderObject) (es : List (PlanEntry Redraw)) (k : Handle) → delegate_in (committed redrawn es k (node_at t k)) ≡ by_entry t k (entry_at es k) None
committed-entry t [] k = refl
committed-entry t (e ∷ es) k = by (same k e.at) (committed-entry t es k)
  where
    by : (b : Bool) → delegate_in (committed redrawn es k (node_at t k)) ≡ by_entry t k (entry_at es k) None
        → delegate_in (cond b (option_map (relinked redrawn e) (node_at t k)) (committed redrawn es k (node_at t k))) ≡ by_entry t k (cond b (Some e) (entry_at es k)) None
    by true later = relinked-delegate e (node_at t k)
    by false later = later

left-delegate : (es : List (PlanEntry Redraw)) (k : Handle) (o : Option (TreeNode RenderObject)) → delegate_in (option_map (left_node es k) o) ≡ delegate_in o
left-delegate es k None = refl
left-delegate es k (Some n) = refl

kept_by-entry : (t : Tree RenderObject) (x : Option (PlanEntry Redraw)) (es : List (PlanEntry Redraw)) (k : Handle) → delegate_in (kept_by redrawn x es k (node_at t k)) ≡ by_entry t k x (delegate_at t k)
kept_by-entry t None es k = left-delegate es k (node_at t k)
kept_by-entry t (Some e) es k = relinked-delegate e (node_at t k)

known-none : (t : Tree RenderObject) (es : List (PlanEntry Redraw)) → AreKnown t (λ _. None) es
known-none t [] = tt
known-none t (e ∷ es) = (λ n called. absurd (false≢true called), known-none t es)

known-own : (t : Tree RenderObject) (es : List (PlanEntry Redraw)) → AreKnown t (delegate_at t) es
known-own t [] = tt
known-own t (e ∷ es) = (λ n called. called, known-own t es)

-- a plan for the whole tree
pub used_committed : (t u : Tree RenderObject) (es : List (PlanEntry Redraw)) (g a : Groups) → AreDistinct (planned es) → ((n : List ℕ) (k : Handle) → stands_under g n k ≡ false)
    → RenamesAll t es g a → Commits redrawn es t.nodes u.nodes → AreUsers a u
used_committed t u es g a once none_of renames commits = λ n k.
    renames (λ _. None) (known-none t es) none_of n k
    ∙ ap (is_called n) (renamed-entry t es (λ _. None) k once ∙ sym (ap delegate_in (commits.nodes k) ∙ committed-entry t es k))

-- a plan for a part of the tree
pub used_committed_part : (t u : Tree RenderObject) (es : List (PlanEntry Redraw)) (g b a : Groups) → AreDistinct (planned es) → AreUsers g t
    → ((n : List ℕ) (k : Handle) → stands_under b n k ≡ stands_under g n k) → RenamesAll t es b a → CommitsPart redrawn es t.nodes u.nodes → AreUsers a u
used_committed_part t u es g b a once are same_groups renames commits = λ n k.
    renames (delegate_at t) (known-own t es) (λ m q. same_groups m q ∙ are m q) n k
    ∙ ap (is_called n) (renamed-entry t es (delegate_at t) k once ∙ sym (ap delegate_in (commits.nodes k) ∙ kept_by-entry t (entry_at es k) es k))
