-- Gathering what a plan changes, entry by entry.
use Rattle.std.proofs.Common.{◌≡◌, ◌⊎◌, true, false, List, [], ◌∷◌, ◌++◌, Option, Some, None, IfSome, inl, inr, refl, sym, ap, ◌∙◌}
use Rattle.std.proofs.lemmas.Bool.{or_parts, or_from, or_left, or_right, false≢true, true≢false}
use Rattle.fx_handles.specs.declared.Handle.{Handle}
use Rattle.fx_handles.specs.Handle.{same}
use Rattle.fx_handles.specs.HandleLaws.{same-true, same_self}
use Rattle.fx_handles.specs.ArenaLaws.{same_Some}
use Rattle.node_tree.specs.Tree.{Tree}
use Rattle.node_tree.specs.Plan.{PlanEntry}
use Rattle.tree_marks.specs.Marks.{listed}
use Rattle.tree_marks.proofs.Closing.{either}
use Rattle.render_tree.specs.Object.{RenderObject}
use Rattle.render_tree.specs.Redraw.{Redraw}
use Rattle.render_tree.specs.Changes.{KeepsOwn, KeepsList, KeepsTold, KeepsLook, ChangesLayout, ChangesPaint, EachEntry, SomeEntry, BecomesRoot, LaidAnew, PaintedAnew, Notes, NotesSome}

-- ---- lists

listed-left : (h : Handle) (xs ys : List Handle) → listed h xs ≡ true → listed h (xs ++ ys) ≡ true
listed-left h [] ys e = absurd (false≢true e)
listed-left h (x ∷ xs) ys e = elim (either (same h x) (listed h xs) e) [
  | inl a ↦ or_left (same h x) (listed h (xs ++ ys)) a
  | inr a ↦ or_right (same h x) (listed h (xs ++ ys)) (listed-left h xs ys a)
]

listed-last : (h : Handle) (xs : List Handle) → listed h (xs ++ h ∷ []) ≡ true
listed-last h [] = or_left (same h h) false (same_self h)
listed-last h (x ∷ xs) = or_right (same h x) (listed h (xs ++ h ∷ [])) (listed-last h xs)

listed-push : (h k : Handle) (xs : List Handle) → listed h (xs ++ k ∷ []) ≡ true → (listed h xs ≡ true) ⊎ (h ≡ k)
listed-push h k [] e = elim (either (same h k) false e) [ inl a ↦ inr (same-true h k a) | inr a ↦ absurd (false≢true a) ]
listed-push h k (x ∷ xs) e = elim (either (same h x) (listed h (xs ++ k ∷ [])) e) [
  | inl a ↦ inl (or_left (same h x) (listed h xs) a)
  | inr a ↦ elim (listed-push h k xs a) [ inl b ↦ inl (or_right (same h x) (listed h xs) b) | inr b ↦ inr b ]
]

listed-not : (h : Handle) (xs ys : List Handle) → listed h (xs ++ ys) ≡ false → listed h xs ≡ false
listed-not h [] ys e = refl
listed-not h (x ∷ xs) ys e =
    let parts = or_parts (same h x) (listed h (xs ++ ys)) e in
    or_from (same h x) (listed h xs) parts.0 (listed-not h xs ys parts.1)

each-push : (P Q : PlanEntry Redraw → Type 0) (es : List (PlanEntry Redraw)) (e : PlanEntry Redraw) → EachEntry P es → ((x : PlanEntry Redraw) → P x → Q x) → Q e → EachEntry Q (es ++ e ∷ [])
each-push P Q [] e each more here = (here, tt)
each-push P Q (x ∷ xs) e each more here = (more x each.0, each-push P Q xs e each.1 more here)

some-left : (P : PlanEntry Redraw → Type 0) (es : List (PlanEntry Redraw)) (e : PlanEntry Redraw) → SomeEntry P es → SomeEntry P (es ++ e ∷ [])
some-left P [] e found = absurd found
some-left P (x ∷ xs) e (inl p) = inl p
some-left P (x ∷ xs) e (inr p) = inr (some-left P xs e p)

some-last : (P : PlanEntry Redraw → Type 0) (es : List (PlanEntry Redraw)) (e : PlanEntry Redraw) → P e → SomeEntry P (es ++ e ∷ [])
some-last P [] e p = inl p
some-last P (x ∷ xs) e p = inr (some-last P xs e p)

-- ---- one note

notes-off : (P : Type 0) (h : Handle) (old new : List Handle) → Notes P h old new → (x : Handle) → listed x new ≡ false → listed x old ≡ false
notes-off P h old new (inl n) x e = ap (listed x) (sym n.1) ∙ e
notes-off P h old new (inr n) x e = listed-not x old (h ∷ []) (ap (listed x) (sym n.1) ∙ e)

notes-here : (P : Type 0) (h : Handle) (old new : List Handle) → Notes P h old new → listed h new ≡ false → P
notes-here P h old new (inl n) e = n.0
notes-here P h old new (inr n) e = absurd (true≢false (sym (listed-last h old) ∙ (ap (listed h) (sym n.1) ∙ e)))

notes-on : (P : Type 0) (h : Handle) (old new : List Handle) → Notes P h old new → (x : Handle) → listed x new ≡ true → (listed x old ≡ true) ⊎ ((h ≡ x) × (P → ⊥))
notes-on P h old new (inl n) x e = inl (ap (listed x) (sym n.1) ∙ e)
notes-on P h old new (inr n) x e = elim (listed-push x h old (ap (listed x) (sym n.1) ∙ e)) [ inl a ↦ inl a | inr a ↦ inr (sym a, n.0) ]

some-off : (P : Type 0) (o : Option Handle) (old new : List Handle) → NotesSome P o old new → (x : Handle) → listed x new ≡ false → listed x old ≡ false
some-off P None old new n x e = ap (listed x) (sym n) ∙ e
some-off P (Some h) old new n x e = notes-off P h old new n x e

some-here : (P : Type 0) (o : Option Handle) (old new : List Handle) → NotesSome P o old new → (h : Handle) → o ≡ Some h → listed h new ≡ false → P
some-here P None old new n h is e = absurd (cc)
some-here P (Some k) old new n h is e = notes-here P k old new n (ap (λ y. listed y new) (same_Some is) ∙ e)

some-on : (P : Type 0) (o : Option Handle) (old new : List Handle) → NotesSome P o old new → (x : Handle) → listed x new ≡ true → (listed x old ≡ true) ⊎ ((o ≡ Some x) × (P → ⊥))
some-on P None old new n x e = inl (ap (listed x) (sym n) ∙ e)
some-on P (Some h) old new n x e = elim (notes-on P h old new n x e) [ inl a ↦ inl a | inr a ↦ inr (ap Some a.0, a.1) ]

-- ---- the root first

top-start : (t : Tree RenderObject) (root : Option Handle) (hs : List Handle) → NotesSome (t.root ≡ root) root [] hs → IfSome root (λ r. listed r hs ≡ false → t.root ≡ Some r)
top-start t None hs n = tt
top-start t (Some r) hs n = λ off. some-here (t.root ≡ Some r) (Some r) [] hs n r refl off

caused-start : (t : Tree RenderObject) (root : Option Handle) (hs : List Handle) → NotesSome (t.root ≡ root) root [] hs → (h : Handle) → listed h hs ≡ true → BecomesRoot t root h
caused-start t root hs n h e = elim (some-on (t.root ≡ root) root [] hs n h e) [
  | inl a ↦ absurd (false≢true a)
  | inr a ↦ (a.0, λ is. a.1 (is ∙ sym a.0))
]

top-more : (t : Tree RenderObject) (root : Option Handle) (old new : List Handle) → ((x : Handle) → listed x new ≡ false → listed x old ≡ false) → IfSome root (λ r. listed r old ≡ false → t.root ≡ Some r) → IfSome root (λ r. listed r new ≡ false → t.root ≡ Some r)
top-more t None old new off top = tt
top-more t (Some r) old new off top = λ e. top (off r e)

pub laid-start : (t : Tree RenderObject) (root : Option Handle) (hs : List Handle) → NotesSome (t.root ≡ root) root [] hs → LaidAnew t root [] hs
laid-start t root hs n = record { own = tt; told = tt; top = top-start t root hs n; caused = λ h e. inr (caused-start t root hs n h e) }

pub laid-more : (t : Tree RenderObject) (root : Option Handle) (es : List (PlanEntry Redraw)) (e : PlanEntry Redraw) (hs xs ys : List Handle) → LaidAnew t root es hs
    → Notes (KeepsOwn t e × KeepsList t e) e.at hs xs → NotesSome (KeepsTold t e) e.parent xs ys → LaidAnew t root (es ++ e ∷ []) ys
laid-more t root es e hs xs ys so_far own told =
    let off : (x : Handle) → listed x ys ≡ false → listed x hs ≡ false = λ x off_ys. notes-off (KeepsOwn t e × KeepsList t e) e.at hs xs own x (some-off (KeepsTold t e) e.parent xs ys told x off_ys) in
    record {
      own = each-push (λ x. listed x.at hs ≡ false → KeepsOwn t x × KeepsList t x) (λ x. listed x.at ys ≡ false → KeepsOwn t x × KeepsList t x) es e so_far.own (λ x p off_ys. p (off x.at off_ys))
          (λ off_ys. notes-here (KeepsOwn t e × KeepsList t e) e.at hs xs own (some-off (KeepsTold t e) e.parent xs ys told e.at off_ys));
      told = each-push (λ x. (p : Handle) → x.parent ≡ Some p → listed p hs ≡ false → KeepsTold t x) (λ x. (p : Handle) → x.parent ≡ Some p → listed p ys ≡ false → KeepsTold t x) es e so_far.told
          (λ x q p is off_ys. q p is (off p off_ys)) (λ p is off_ys. some-here (KeepsTold t e) e.parent xs ys told p is off_ys);
      top = top-more t root hs ys off so_far.top;
      caused = λ h on. elim (some-on (KeepsTold t e) e.parent xs ys told h on) [
        | inr a ↦ inl (some-last (ChangesLayout t h) es e (inr a))
        | inl a ↦ elim (notes-on (KeepsOwn t e × KeepsList t e) e.at hs xs own h a) [
          | inr b ↦ inl (some-last (ChangesLayout t h) es e (inl b))
          | inl b ↦ elim (so_far.caused h b) [ inl c ↦ inl (some-left (ChangesLayout t h) es e c) | inr c ↦ inr c ]
        ]
      ];
    }

pub painted-start : (t : Tree RenderObject) (root : Option Handle) (hs : List Handle) → NotesSome (t.root ≡ root) root [] hs → PaintedAnew t root [] hs
painted-start t root hs n = record { own = tt; top = top-start t root hs n; caused = λ h e. inr (caused-start t root hs n h e) }

pub painted-more : (t : Tree RenderObject) (root : Option Handle) (es : List (PlanEntry Redraw)) (e : PlanEntry Redraw) (hs xs : List Handle) → PaintedAnew t root es hs
    → Notes (KeepsLook t e × KeepsList t e) e.at hs xs → PaintedAnew t root (es ++ e ∷ []) xs
painted-more t root es e hs xs so_far own =
    let off : (x : Handle) → listed x xs ≡ false → listed x hs ≡ false = notes-off (KeepsLook t e × KeepsList t e) e.at hs xs own in
    record {
      own = each-push (λ x. listed x.at hs ≡ false → KeepsLook t x × KeepsList t x) (λ x. listed x.at xs ≡ false → KeepsLook t x × KeepsList t x) es e so_far.own (λ x p off_xs. p (off x.at off_xs))
          (λ off_xs. notes-here (KeepsLook t e × KeepsList t e) e.at hs xs own off_xs);
      top = top-more t root hs xs off so_far.top;
      caused = λ h on. elim (notes-on (KeepsLook t e × KeepsList t e) e.at hs xs own h on) [
        | inr b ↦ inl (some-last (ChangesPaint t h) es e b)
        | inl b ↦ elim (so_far.caused h b) [ inl c ↦ inl (some-left (ChangesPaint t h) es e c) | inr c ↦ inr c ]
      ];
    }
