-- Builds that are grown from rows.
use Rattle.std.proofs.Common.{◌≡◌, ◌==◌, ℕ, suc, ◌+◌, ◌≤◌, Bool, true, false, ◌||◌, cond, List, [], ◌∷◌, ◌++◌, take, drop, length, refl, sym, ap, ◌∙◌, subst, arith, eq-eqb, Some, None, append_assoc}
use Rattle.std.proofs.lemmas.Bool.{false≢true}
use Rattle.std.proofs.lemmas.List.{append-nil, length-append, take-append-drop}
use Rattle.std.proofs.lemmas.List.Elements.{All-nil, All-cons, All-head, All-tail, All-take, All-drop}
use Rattle.std.specs.List.{All, list_any}
use Rattle.fx_geom.specs.declared.words.Placed.{Placed}
use Rattle.widget_model.specs.Look.{Look}
use Rattle.work_roles.specs.WorkRole.{is_repaint_boundary}
use Rattle.plain_tree.specs.declared.render.ParentData.{ParentData}
use Rattle.plain_tree.specs.Laws.{render_numbers_of, render_numbers_in, DiffersFrom, AllDiffer}
use Rattle.plain_tree.specs.Render.{Render, render, Renders, no_renders, more_renders, count_of, counts_of, renders_of}
use Rattle.plain_tree.specs.RenderRole.{render_role_of, is_window}
use Rattle.layout_form.specs.Fits.{FitsLayout, IsTold, CanAllBeLaidOut, data_of, told_in}
use Rattle.worked_calls.specs.Grown.{is_edge, scrolls, IsTameAt, EachOf, IsFine, AreGrown, IsGrown}

-- ---- a node and those below it

module _ (s : ℕ) where
  fits_all : (rs : List Render) → All (IsFine s) rs → CanAllBeLaidOut (renders_of rs)
  fits_all [] all = tt
  fits_all (r ∷ rs) all = ((All-head (IsFine s) r rs all).fits, fits_all rs (All-tail (IsFine s) r rs all))

  tame_all : (rs : List Render) → All (IsFine s) rs → EachOf (IsTameAt s) (renders_of rs)
  tame_all [] all = tt
  tame_all (r ∷ rs) all = ((All-head (IsFine s) r rs all).tame, tame_all rs (All-tail (IsFine s) r rs all))

  told_all : (rs : List Render) → All (IsFine s) rs → All IsTold (told_in (renders_of rs))
  told_all [] all = All-nil IsTold
  told_all (r ∷ rs) all =
      All-cons IsTold (data_of r) (told_in (renders_of rs)) (All-head (IsFine s) r rs all).told (told_all rs (All-tail (IsFine s) r rs all))

  told_count : (rs : List Render) → length (told_in (renders_of rs)) ≡ length rs
  told_count [] = refl
  told_count (r ∷ rs) = ap suc (told_count rs)

  pub node_fine : (number : ℕ) (look : Look) (told : ParentData) (scroll count : ℕ) (rs : List Render) → FitsLayout look → is_repaint_boundary look ≡ is_edge number
      → is_window (render_role_of look) ≡ scrolls number → scroll ≡ cond (scrolls number) s 0 → IsTold told → All (IsFine s) rs → length rs ≤ 9
      → IsFine s (render number look told scroll count (renders_of rs))
  node_fine number look told scroll count rs fits edge window at is_told all few = record {
    told = is_told;
    fits = (record { members = fits; told = told_all rs all; few = omega (arith, told_count rs, few) }, fits_all rs all);
    tame = (
      record {
        tame = record { edge = edge; window = window; still = λ e. at ∙ ap (λ (b : Bool). cond b s 0) e };
        at = λ e. at ∙ ap (λ (b : Bool). cond b s 0) e;
      },
      tame_all rs all,
    );
  }

no_placed : (p : Placed) → None ≡ Some p → ⊥
no_placed p e = cc

pub told_nothing : IsTold (record { flex = 0; tight = false; placed = None; index = 0 })
told_nothing = record { flex = omega arith; right = λ p e. absurd (no_placed p e); bottom = λ p e. absurd (no_placed p e) }

-- ---- numbers

or_parts : (a b : Bool) → (a || b) ≡ false → (a ≡ false) × (b ≡ false)
or_parts true b e = absurd (false≢true (sym e))
or_parts false b e = (refl, e)

differs : (x : ℕ) (ys : List ℕ) → list_any (λ y. y == x) ys ≡ false → DiffersFrom x ys
differs x [] e = tt
differs x (y ∷ ys) e =
    let two = or_parts (y == x) (list_any (λ y. y == x) ys) e in
    ((λ same. false≢true (sym two.0 ∙ eq-eqb y x (sym same))), differs x ys two.1)

numbers_append : (xs ys : List Render) → render_numbers_in (renders_of (xs ++ ys)) ≡ render_numbers_in (renders_of xs) ++ render_numbers_in (renders_of ys)
numbers_append [] ys = refl
numbers_append (x ∷ xs) ys =
    ap (λ (ns : List ℕ). render_numbers_of x ++ ns) (numbers_append xs ys)
    ∙ sym (append_assoc (render_numbers_of x) (render_numbers_in (renders_of xs)) (render_numbers_in (renders_of ys)))

mutual
  numbers_count : (r : Render) → length (render_numbers_of r) ≡ count_of r
  numbers_count (render number look told scroll count children) = ap suc (numbers_counts children)

  numbers_counts : (rs : Renders) → length (render_numbers_in rs) ≡ counts_of rs
  numbers_counts no_renders = refl
  numbers_counts (more_renders r rs) =
      length-append (render_numbers_of r) (render_numbers_in rs) ∙ (ap (λ n. n + length (render_numbers_in rs)) (numbers_count r) ∙ ap (λ n. count_of r + n) (numbers_counts rs))

-- ---- rows

pub grown_none : (s : ℕ) → AreGrown s [] []
grown_none s = record { fine = All-nil (IsFine s); same = refl; differ = tt }

pub grown_below : (s : ℕ) (rs : List Render) (ns : List ℕ) (k : ℕ) → AreGrown s rs ns → All (IsFine s) (take k rs)
grown_below s rs ns k grown = All-take (IsFine s) k rs grown.fine

pub grown_more : (s : ℕ) (rs : List Render) (ns : List ℕ) (k n : ℕ) (r : Render) → AreGrown s rs ns → IsFine s r
    → render_numbers_of r ≡ n ∷ render_numbers_in (renders_of (take k rs)) → list_any (λ y. y == n) ns ≡ false → AreGrown s (r ∷ drop k rs) (n ∷ ns)
grown_more s rs ns k n r grown fine numbers new = record {
  fine = All-cons (IsFine s) r (drop k rs) fine (All-drop (IsFine s) k rs grown.fine);
  same =
      ap (λ (xs : List ℕ). xs ++ render_numbers_in (renders_of (drop k rs))) numbers
      ∙ ap (λ (xs : List ℕ). n ∷ xs) (sym (numbers_append (take k rs) (drop k rs)) ∙ (ap (λ (xs : List Render). render_numbers_in (renders_of xs)) (take-append-drop k rs) ∙ grown.same));
  differ = (differs n ns new, grown.differ);
}

grown_one : (s : ℕ) (r : Render) (ns : List ℕ) → AreGrown s (r ∷ []) ns → IsGrown s r (length ns)
grown_one s r ns grown =
    let is : render_numbers_of r ≡ ns = sym (append-nil (render_numbers_of r)) ∙ grown.same in
    record {
      fine = All-head (IsFine s) r [] grown.fine;
      differ = subst AllDiffer (sym is) grown.differ;
      size = sym (numbers_count r) ∙ ap length is;
    }

no_items : (rs : List Render) → length rs ≡ 0 → rs ≡ []
no_items [] e = refl
no_items (r ∷ rs) e = absurd (omega (arith, e))

pub grown_top : (s : ℕ) (rs rest : List Render) (r : Render) (ns : List ℕ) (n : ℕ) → AreGrown s rs ns → rs ≡ rest ++ r ∷ [] → length rest ≡ 0 → n ≡ length ns → IsGrown s r n
grown_top s rs rest r ns n grown last none count =
    let one : rs ≡ r ∷ [] = last ∙ ap (λ (xs : List Render). xs ++ r ∷ []) (no_items rest none) in
    subst (IsGrown s r) (sym count) (grown_one s r ns (subst (λ (xs : List Render). AreGrown s xs ns) one grown))
