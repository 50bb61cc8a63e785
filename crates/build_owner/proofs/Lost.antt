-- Gathering the nodes that lose a child to a plan, entry by entry.
use Rattle.std.proofs.Common.{◌≡◌, ◌⊎◌, ℕ, ◌+◌, Bool, true, false, ◌||◌, cond, List, [], ◌∷◌, ◌++◌, Option, Some, None, IsSome, inl, inr, refl, sym, ap, ◌∙◌, subst, arith}
use Rattle.fx_handles.specs.declared.Handle.{Handle}
use Rattle.fx_handles.specs.Handle.{same, Among}
use Rattle.fx_handles.specs.HandleLaws.{same-true, same_self, times-cons, times_here}
use Rattle.node_tree.specs.Forest.{TreeNode, Forest, tops, Stands}
use Rattle.node_tree.specs.Forest.Forest.{none, tree}
use Rattle.node_tree.specs.Part.{CommitsPart, kept_by}
use Rattle.node_tree.specs.Plan.{PlanEntry, entries, planned, entry_at}
use Rattle.node_tree.specs.Tree.{Tree, IsNode, Holds, node_at, parent_at, subtree_at}
use Rattle.node_tree.proofs.Handles.{times-append}
use Rattle.std.specs.List.{All}
use Rattle.std.proofs.lemmas.List.Elements.{All-nil, All-cons, All-tail, All-append}
use Rattle.tree_marks.specs.Marks.{listed}
use Rattle.render_tree.specs.Changes.{EachEntry, SomeEntry, NotesSome}
use Rattle.render_tree.specs.Object.{RenderObject}
use Rattle.render_tree.specs.Redraw.{Redraw, redrawn}
use Rattle.build_owner.specs.Losing.{LeavesAt, ParentsLeft}

-- ---- lists of handles

abbrev one_of : Bool → ℕ
one_of b = cond {A = ℕ} b 1 0

or_one : (a b : Bool) (G : Type 0) → (a || b) ≡ true → (a ≡ true → G) → (b ≡ true → G) → G
or_one true b G e f g = f refl
or_one false b G e f g = g e

first_true : (a b : Bool) → a ≡ true → (a || b) ≡ true
first_true true b e = refl
first_true false b e = absurd (cc)

second_true : (a b : Bool) → b ≡ true → (a || b) ≡ true
second_true true b e = refl
second_true false b e = e

no_item : {A : Type 0} → false ≡ true → A
no_item e = absurd (cc)

listed_front : (h : Handle) (xs ys : List Handle) → listed h xs ≡ true → listed h (xs ++ ys) ≡ true
listed_front h [] ys e = no_item e
listed_front h (x ∷ xs) ys e =
    or_one (same h x) (listed h xs) (listed h (x ∷ (xs ++ ys)) ≡ true) e (λ a. first_true (same h x) (listed h (xs ++ ys)) a) (λ b. second_true (same h x) (listed h (xs ++ ys)) (listed_front h xs ys b))

listed_end : (h : Handle) (xs : List Handle) → listed h (xs ++ h ∷ []) ≡ true
listed_end h [] = first_true (same h h) false (same_self h)
listed_end h (x ∷ xs) = second_true (same h x) (listed h (xs ++ h ∷ [])) (listed_end h xs)

listed_pushed : (h k : Handle) (xs : List Handle) → listed h (xs ++ k ∷ []) ≡ true → (listed h xs ≡ true) ⊎ (h ≡ k)
listed_pushed h k [] e = or_one (same h k) false ((false ≡ true) ⊎ (h ≡ k)) e (λ a. inr (same-true h k a)) (λ b. inl b)
listed_pushed h k (x ∷ xs) e =
    or_one (same h x) (listed h (xs ++ k ∷ [])) ((listed h (x ∷ xs) ≡ true) ⊎ (h ≡ k)) e (λ a. inl (first_true (same h x) (listed h xs) a))
    (λ b. elim (listed_pushed h k xs b) [ inl c ↦ inl (second_true (same h x) (listed h xs) c) | inr c ↦ inr c ])

-- ---- entries of a plan

each_and : (P Q : PlanEntry Redraw → Type 0) (es : List (PlanEntry Redraw)) (e : PlanEntry Redraw) → EachEntry P es → ((x : PlanEntry Redraw) → P x → Q x) → Q e → EachEntry Q (es ++ e ∷ [])
each_and P Q [] e each more here = (here, tt)
each_and P Q (x ∷ xs) e each more here = (more x each.0, each_and P Q xs e each.1 more here)

some_so_far : (P : PlanEntry Redraw → Type 0) (es : List (PlanEntry Redraw)) (e : PlanEntry Redraw) → SomeEntry P es → SomeEntry P (es ++ e ∷ [])
some_so_far P [] e found = absurd found
some_so_far P (x ∷ xs) e (inl p) = inl p
some_so_far P (x ∷ xs) e (inr p) = inr (some_so_far P xs e p)

some_now : (P : PlanEntry Redraw → Type 0) (es : List (PlanEntry Redraw)) (e : PlanEntry Redraw) → P e → SomeEntry P (es ++ e ∷ [])
some_now P [] e p = inl p
some_now P (x ∷ xs) e p = inr (some_now P xs e p)

handle_is : (h k : Handle) → Some h ≡ Some k → h ≡ k
handle_is h k e = cc

-- ---- one note

note_keeps : (P : Type 0) (o : Option Handle) (old new : List Handle) → NotesSome P o old new → (x : Handle) → listed x old ≡ true → listed x new ≡ true
note_keeps P None old new n x e = ap (listed x) n ∙ e
note_keeps P (Some h) old new (inl n) x e = ap (listed x) n.1 ∙ e
note_keeps P (Some h) old new (inr n) x e = ap (listed x) n.1 ∙ listed_front x old (h ∷ []) e

note_here : (P : Type 0) (o : Option Handle) (old new : List Handle) → NotesSome P o old new → (h : Handle) → o ≡ Some h → P ⊎ (listed h new ≡ true)
note_here P None old new n h is = absurd (cc)
note_here P (Some k) old new (inl n) h is = inl n.0
note_here P (Some k) old new (inr n) h is = inr (ap (λ x. listed h x) n.1 ∙ ap (λ x. listed h (old ++ x ∷ [])) (handle_is k h is) ∙ listed_end h old)

note_from : (P : Type 0) (o : Option Handle) (old new : List Handle) → NotesSome P o old new → (x : Handle) → listed x new ≡ true → (listed x old ≡ true) ⊎ ((o ≡ Some x) × (P → ⊥))
note_from P None old new n x e = inl (sym (ap (listed x) n) ∙ e)
note_from P (Some h) old new (inl n) x e = inl (sym (ap (listed x) n.1) ∙ e)
note_from P (Some h) old new (inr n) x e = elim (listed_pushed x h old (sym (ap (listed x) n.1) ∙ e)) [ inl a ↦ inl a | inr a ↦ inr (ap (λ y. Some y) (sym a), n.0) ]

pub left_start : (t : Tree RenderObject) → ParentsLeft t [] []
left_start t = record { kept = tt; left = λ p e. no_item e }

pub left_more : (t : Tree RenderObject) (es : List (PlanEntry Redraw)) (e : PlanEntry Redraw) (hs ys : List Handle) → ParentsLeft t es hs → NotesSome (parent_at t e.at ≡ e.parent) (parent_at t e.at) hs ys
    → ParentsLeft t (es ++ e ∷ []) ys
left_more t es e hs ys so_far note =
    let P = parent_at t e.at ≡ e.parent in
    record {
      kept =
          each_and (λ x. (p : Handle) → parent_at t x.at ≡ Some p → (x.parent ≡ Some p) ⊎ (listed p hs ≡ true)) (λ x. (p : Handle) → parent_at t x.at ≡ Some p → (x.parent ≡ Some p) ⊎ (listed p ys ≡ true)) es e so_far.kept
          (λ x h p is. elim (h p is) [ inl a ↦ inl a | inr a ↦ inr (note_keeps P (parent_at t e.at) hs ys note p a) ])
          (λ p is. elim (note_here P (parent_at t e.at) hs ys note p is) [ inl a ↦ inl (sym a ∙ is) | inr a ↦ inr a ]);
      left = λ p on. elim (note_from P (parent_at t e.at) hs ys note p on) [
        | inl a ↦ some_so_far (LeavesAt t p) es e (so_far.left p a)
        | inr a ↦ some_now (LeavesAt t p) es e (a.0, (λ still. a.1 (a.0 ∙ sym still)))
      ];
    }

-- ---- in the plan of a forest each parent is planned

among_front : (k : Handle) (xs ys : List Handle) → Among k xs → Among k (xs ++ ys)
among_front k xs ys a = let e = times-append k xs ys in omega (arith, a, e)

among_back : (k : Handle) (xs ys : List Handle) → Among k ys → Among k (xs ++ ys)
among_back k xs ys a = let e = times-append k xs ys in omega (arith, a, e)

planned_append : (xs ys : List (PlanEntry Redraw)) → planned (xs ++ ys) ≡ planned xs ++ planned ys
planned_append [] ys = refl
planned_append (x ∷ xs) ys = ap (λ l. x.at ∷ l) (planned_append xs ys)

abbrev HasParentAmong : List Handle → PlanEntry Redraw → Type 0
HasParentAmong hs e = (q : Handle) → e.parent ≡ Some q → Among q hs

each_of_both : (P : PlanEntry Redraw → Type 0) (xs ys : List (PlanEntry Redraw)) → EachEntry P xs → EachEntry P ys → EachEntry P (xs ++ ys)
each_of_both P [] ys h k = k
each_of_both P (x ∷ xs) ys h k = (h.0, each_of_both P xs ys h.1 k)

each_maps : (P Q : PlanEntry Redraw → Type 0) (xs : List (PlanEntry Redraw)) → ((x : PlanEntry Redraw) → P x → Q x) → EachEntry P xs → EachEntry Q xs
each_maps P Q [] f h = tt
each_maps P Q (x ∷ xs) f h = (f x h.0, each_maps P Q xs f h.1)

parents_planned : (hs : List Handle) (p : Option Handle) (d : Forest Redraw) → ((q : Handle) → p ≡ Some q → Among q hs) → ((k : Handle) → Among k (planned (entries p d)) → Among k hs) → EachEntry (HasParentAmong hs) (entries p d)
parents_planned hs p none own inside = tt
parents_planned hs p (tree h u kids rest) own inside =
    let later = record { at = h; parent = p; children = tops kids; update = u } ∷ entries p rest in
    let of_parts : (k : Handle) → Among k (planned (entries (Some h) kids) ++ planned later) → Among k hs = λ k a. inside k (subst (λ l. Among k l) (sym (planned_append (entries (Some h) kids) later)) a) in
    let here : Among h hs = of_parts h (among_back h (planned (entries (Some h) kids)) (planned later) (among_own h (planned (entries p rest)))) in
    each_of_both (HasParentAmong hs) (entries (Some h) kids) later
    (parents_planned hs (Some h) kids (λ q is. subst (λ x. Among x hs) (handle_is h q is) here) (λ k a. of_parts k (among_front k (planned (entries (Some h) kids)) (planned later) a)))
    (own, parents_planned hs p rest own (λ k a. of_parts k (among_back k (planned (entries (Some h) kids)) (planned later) (among_later k h (planned (entries p rest)) a))))
  where
    among_own : (k : Handle) (ks : List Handle) → Among k (k ∷ ks)
    among_own k ks = omega (arith, times_here k ks)

    among_later : (k j : Handle) (ks : List Handle) → Among k ks → Among k (j ∷ ks)
    among_later k j ks a = omega (arith, a, times-cons k j ks)

-- what holds of each entry holds of a handle's
entry_of : (P : PlanEntry Redraw → Type 0) (es : List (PlanEntry Redraw)) (k : Handle) → EachEntry P es → Among k (planned es) → (e : PlanEntry Redraw) × (e.at ≡ k) × P e
entry_of P [] k h a = absurd (omega (arith, a))
entry_of P (x ∷ xs) k h a = by_same (same x.at k) refl (λ among. entry_of P xs k h.1 among)
  where
    by_same : (b : Bool) → same x.at k ≡ b → (Among k (planned xs) → (e : PlanEntry Redraw) × (e.at ≡ k) × P e) → (e : PlanEntry Redraw) × (e.at ≡ k) × P e
    by_same true is later = (x, same-true x.at k is, h.0)
    by_same false is later = later (let e = ap one_of is in omega (arith, a, e, times-cons k x.at (planned xs)))

each_with : (P Q : PlanEntry Redraw → Type 0) (es : List (PlanEntry Redraw)) → EachEntry P es → EachEntry Q es → EachEntry (λ e. P e × Q e) es
each_with P Q [] h k = tt
each_with P Q (x ∷ xs) h k = ((h.0, k.0), each_with P Q xs h.1 k.1)

module _ (t : Tree RenderObject) (d : Forest Redraw) (hs : List Handle) (left : ParentsLeft t (entries None d) hs) where
  -- a node that loses a child is planned, or listed
  pub shortened : (k p : Handle) → Among k (planned (entries None d)) → parent_at t k ≡ Some p → Among p (planned (entries None d)) ⊎ (listed p hs ≡ true)
  shortened k p among is =
      let parents = parents_planned (planned (entries None d)) None d (λ q e. absurd (cc)) (λ j a. a) in
      let e = entry_of (λ x. ((q : Handle) → parent_at t x.at ≡ Some q → (x.parent ≡ Some q) ⊎ (listed q hs ≡ true)) × HasParentAmong (planned (entries None d)) x) (entries None d) k
      (each_with (λ x. (q : Handle) → parent_at t x.at ≡ Some q → (x.parent ≡ Some q) ⊎ (listed q hs ≡ true)) (HasParentAmong (planned (entries None d))) (entries None d) left.kept parents) among in
      elim (e.2.0 p (ap (parent_at t) e.1 ∙ is)) [ inl a ↦ inl (e.2.1 p a) | inr a ↦ inr a ]

-- ---- live nodes

pub holds_live : (t : Tree RenderObject) (h : Handle) → Holds t h → IsNode t h
holds_live t h holds = by_forest (subtree_at t h) holds.top holds.stands
  where
    by_forest : (s : Forest RenderObject) → tops s ≡ h ∷ [] → Stands (node_at t) (parent_at t h) s → IsNode t h
    by_forest none top stands = absurd (cc)
    by_forest (tree k v kids rest) top stands =
        let here : k ≡ h = first_same top in
        subst (λ x. IsNode t x) here (subst IsSome (sym stands.0) refl)
      where
        first_same : {x : Handle} → k ∷ tops rest ≡ x ∷ [] → k ≡ x
        first_same e = cc

pub one_live : (t : Tree RenderObject) (hs : List Handle) (p : Handle) → IsNode t p → All (IsNode t) hs → All (IsNode t) (hs ++ p ∷ [])
one_live t hs p live each = All-append (IsNode t) hs (p ∷ []) each (All-cons (IsNode t) p [] live (All-nil (IsNode t)))

-- a plan for a part takes no node away
part_live : (es : List (PlanEntry Redraw)) (k : Handle) (x : Option (PlanEntry Redraw)) (o : Option (TreeNode RenderObject)) → IsSome o → IsSome (kept_by redrawn x es k o)
part_live es k x None some = absurd (cc)
part_live es k None (Some n) some = refl
part_live es k (Some e) (Some n) some = refl

pub all_live : (old new : Tree RenderObject) (es : List (PlanEntry Redraw)) (hs : List Handle) → CommitsPart redrawn es old.nodes new.nodes → All (IsNode old) hs → All (IsNode new) hs
all_live old new es [] commits each = All-nil (IsNode new)
all_live old new es (h ∷ hs) commits each =
    All-cons (IsNode new) h hs (subst IsSome (sym (commits.nodes h)) (part_live es h (entry_at es h) (node_at old h) (each 0 h (omega arith)))) (all_live old new es hs commits (All-tail (IsNode old) h hs each))

pub both_live : (t : Tree RenderObject) (hs ks js : List Handle) → js ≡ hs ++ ks → All (IsNode t) hs → All (IsNode t) ks → All (IsNode t) js
both_live t hs ks js is first then = subst (All (IsNode t)) (sym is) (All-append (IsNode t) hs ks first then)
