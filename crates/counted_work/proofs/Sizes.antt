-- The view of a laid root, and numbers that a layout has none of.
use Rattle.std.proofs.Common.{◌≡◌, ℕ, ◌<◌, ◌≤◌, false, Option, Some, None, refl, sym, ap, ◌∙◌, eqb, eqb-true, cond, inl, inr, arith}
use Rattle.std.proofs.lemmas.Bool.{cases_Bool}
use Rattle.std.specs.Option.{option_or}
use Rattle.fx_geom.specs.Bounds.{IsWithin, tight}
use Rattle.fx_geom.specs.Len.{stopped, raised, limit_of}
use Rattle.fx_geom.specs.contracts.boxes.Bounds as bounds_rows
use Rattle.fx_geom.specs.declared.boxes.Bounds.{Bounds}
use Rattle.fx_geom.specs.declared.lengths.Len.TheVariants.{Finite}
use Rattle.fx_geom.specs.declared.shapes.Size.{Size}
use Rattle.node_tree.specs.Forest.{Forest}
use Rattle.node_tree.specs.Forest.Forest.{none, tree}
use Rattle.layout_form.specs.Laws.{Lays, LaysSome, IsBoxIn}
use Rattle.layout_form.specs.Object.{facts_of, size_in}
use Rattle.layout_form.specs.declared.asks.Ask.TheVariants.{AsBox}
use Rattle.layout_owner.specs.Roots.{IsAskedAs}
use Rattle.plain_tree.specs.At.{laid_at, laid_in}
use Rattle.plain_tree.specs.declared.laid.Frame.{Frame}
use Rattle.plain_tree.specs.declared.laid.Frame.TheVariants.{Boxed, Sliver}
use Rattle.plain_tree.specs.Laid.{Laid, laid, Laids, no_laids, more_laids}
use Rattle.plain_tree.specs.Shown.{box_size}
use Rattle.plain_tree.specs.Render.{Render, render, Renders, no_renders, more_renders}
use Rattle.render_tree.specs.Object.{RenderObject}
use Rattle.render_sync.specs.Renders.{EachNumber, AllNumbers}
use Rattle.session_form.specs.Seeing as seeing

-- ---- a size that tight bounds allow is as tight

-- that a minimum is at most its maximum has no content
bounds_are : (a b : Bounds) → a.min_w ≡ b.min_w → a.max_w ≡ b.max_w → a.min_h ≡ b.min_h → a.max_h ≡ b.max_h → a ≡ b
bounds_are a b min_w max_w min_h max_h =
    let same : (bounds_rows.the_row).coded.code a ≡ (bounds_rows.the_row).coded.code b = cc in (bounds_rows.the_row).coded.inj a b same

side_same : (own view : ℕ) → stopped view ≤ own → own ≤ limit_of (raised view (Finite view)) → own ≡ stopped view
side_same own view least most = omega (arith, least, most)

stopped_twice : (n : ℕ) → stopped (stopped n) ≡ stopped n
stopped_twice n = omega arith

raised_twice : (n : ℕ) → raised (stopped n) (Finite (stopped n)) ≡ raised n (Finite n)
raised_twice n = ap Finite (omega arith)

pub tight_same : (view size : Size) → IsWithin (tight view) size → tight size ≡ tight view
tight_same view size within =
    let w : size.w ≡ stopped view.w = side_same size.w view.w within.least_w within.most_w in
    let h : size.h ≡ stopped view.h = side_same size.h view.h within.least_h within.most_h in
    bounds_are (tight size) (tight view) (ap stopped w ∙ stopped_twice view.w) (ap (λ n. raised n (Finite n)) w ∙ raised_twice view.w) (ap stopped h ∙ stopped_twice view.h)
    (ap (λ n. raised n (Finite n)) h ∙ raised_twice view.h)

same_size : (a b : Size) → Some a ≡ Some b → a ≡ b
same_size a b e = cc

frame_seen : (f : Frame) (view seen : Size) → IsBoxIn (tight view) f → IsWithin (tight view) (box_size f) → seeing.size_in f ≡ Some seen → tight seen ≡ tight view
frame_seen (Boxed bounds size) view seen box within e = ap tight (sym (same_size size seen e)) ∙ tight_same view size within
frame_seen (Sliver bounds geometry) view seen box within e = absurd box

pub view_seen : (l : Laid) (view seen : Size) → IsBoxIn (tight view) (facts_of l).frame → IsWithin (tight view) (size_in l) → seeing.laid_size l ≡ Some seen → tight seen ≡ tight view
view_seen (laid number look facts children) view seen box within e = frame_seen facts.frame view seen box within e

pub asked_alike : (seen view : Size) (f : Forest RenderObject) → tight seen ≡ tight view → IsAskedAs view f → IsAskedAs seen f
asked_alike seen view none e asks = tt
asked_alike seen view (tree h o kids rest) e asks = λ flag. asks flag ∙ ap (λ b. Some (AsBox b)) (sym e)

-- ---- free numbers

other_number : (m number next n : ℕ) → m ≡ number → number < next → next ≤ n → eqb m n ≡ false
other_number m number next n is less free = elim (cases_Bool (eqb m n)) [
  | inl e ↦ let same : m ≡ n = eqb-true m n e in absurd (omega (arith, is, less, free, same))
  | inr e ↦ e
]

both_none : {A : Type 0} (a b : Option A) → a ≡ None → b ≡ None → option_or a b ≡ None
both_none a b e f = ap (λ x. option_or x b) e ∙ f

module _ (next n : ℕ) (free : next ≤ n) where
  mutual
    pub free_missing : (r : Render) (l : Laid) → Lays r l → EachNumber (λ m. m < next) r → laid_at n l ≡ None
    free_missing (render number look told scroll count children) (laid m kind facts ls) h numbers =
        ap (λ b. cond b (Some (laid m kind facts ls)) (laid_in n ls)) (other_number m number next n h.0 numbers.0 free) ∙ all_missing children ls h.3 numbers.1

    all_missing : (rs : Renders) (ls : Laids) → LaysSome rs ls → AllNumbers (λ m. m < next) rs → laid_in n ls ≡ None
    all_missing no_renders no_laids h numbers = refl
    all_missing no_renders (more_laids at l ls) h numbers = absurd h
    all_missing (more_renders r rs) no_laids h numbers = refl
    all_missing (more_renders r rs) (more_laids at l ls) (inl h) numbers = both_none (laid_at n l) (laid_in n ls) (free_missing r l h.0 numbers.0) (all_missing rs ls h.1 numbers.1)
    all_missing (more_renders r rs) (more_laids at l ls) (inr h) numbers = all_missing rs (more_laids at l ls) h numbers.1
