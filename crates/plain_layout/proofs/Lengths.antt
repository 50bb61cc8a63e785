-- Lengths among the answers of children.
use Rattle.std.proofs.Common.{◌≡◌, ap, sym, ◌∙◌, subst, ℕ, zero, suc, ◌^◌, ◌<◌, ◌≤◌, Option, Some, None, option_map, List, [], ◌∷◌, map, length, arith}
use Rattle.std.specs.Prelude.{fold, slice_index_or}
use Rattle.std.specs.List.{All}
use Rattle.fx_geom.specs.declared.boxes.Bounds.{Bounds}
use Rattle.fx_geom.specs.declared.lengths.Len.{Len}
use Rattle.fx_geom.specs.declared.lengths.Len.TheVariants.{Finite, Unbounded}
use Rattle.fx_geom.specs.declared.shapes.Size.{Size}
use Rattle.fx_geom.specs.Bounds.{smallest}
use Rattle.fx_geom.specs.Len.{limit_of}
use Rattle.fx_geom.specs.Size.{HasLengths, no_size}
use Rattle.widget_model.specs.Look.{Look, stack, viewport}
use Rattle.plain_tree.specs.declared.laid.Frame.{Frame}
use Rattle.plain_tree.specs.Shown.{box_size}
use Rattle.plain_tree.specs.Render.{Render, render}
use Rattle.layout_form.specs.declared.asks.Ask.{Ask}
use Rattle.layout_form.specs.declared.asks.Ask.TheVariants.{AsBox, AsSliver}
use Rattle.layout_form.specs.Object.{Setting, size_in}
use Rattle.layout_form.specs.StackRule.{greater, whole_of, stack_size}
use Rattle.layout_form.specs.Layout.{object}
use Rattle.layout_form.specs.Protocol.{Found}
use Rattle.layout_form.specs.Frames.{frames_given, sizes_by, found_makes}
use Rattle.layout_form.specs.Framed.{framed, answers_of}
use Rattle.layout_form.proofs.Meets.{object_meets, within_lengths}
use Rattle.kind_rules.specs.Asked.{found_for, AreLong, IsWalk}
use Rattle.plain_layout.specs.Slivers.{viewed}

abbrev LongSizes : List Size → Type 0
LongSizes [] = Unit {0}
LongSizes (s ∷ ss) = HasLengths s × LongSizes ss

-- the sizes of the frames that are there
abbrev long_in : List (Option Frame) → List Size
long_in fs = sizes_by (frames_given fs)

frame_long : (s : Setting) (r : Render) (ask : Ask) → HasLengths (box_size (framed (object s r) ask))
unfolding object
frame_long s r (AsBox b) = within_lengths b (size_in ((object s r).in_bounds b)) ((object_meets s r).within b)
frame_long s (render n l d o k rs) (AsSliver b) = record { w = omega arith; h = omega arith }

answer_long : (s : Setting) (r : Render) (ask : Option Ask) (fs : List (Option Frame)) → LongSizes (long_in fs) → LongSizes (long_in (option_map (framed (object s r)) ask ∷ fs))
answer_long s r None fs all = all
answer_long s r (Some ask) fs all = (frame_long s r ask, all)

answers_long : (s : Setting) (asks : List (Option Ask)) (rs : List Render) → LongSizes (long_in (answers_of asks (map framed (map (object s) rs))))
answers_long s asks [] = tt
answers_long s [] (r ∷ rs) = answers_long s [] rs
answers_long s (ask ∷ asks) (r ∷ rs) = answer_long s r ask (answers_of asks (map framed (map (object s) rs))) (answers_long s asks rs)

at_all : (s : Size) (ss : List Size) → HasLengths s → All HasLengths ss → (k : ℕ) (d : Size) → k < length (s ∷ ss) → HasLengths (slice_index_or (s ∷ ss) k d)
at_all s ss here all zero d h = here
at_all s ss here all (suc k) d h = all k d (omega arith)

all_more : (s : Size) (ss : List Size) → HasLengths s → All HasLengths ss → All HasLengths (s ∷ ss)
all_more s ss here all = λ k d h. at_all s ss here all k d h

long_at : (ss : List Size) → LongSizes ss → All HasLengths ss
long_at [] all = λ k d h. absurd (omega arith)
long_at (s ∷ ss) all = all_more s ss all.0 (long_at ss all.1)

pub sizes_long : (s : Setting) (ask : Ask) (asks : List (Option Ask)) (rs : List Render) (fs : List (Option Frame))
    → fs ≡ answers_of asks (map framed (map (object s) rs)) → AreLong ask (frames_given fs)
sizes_long s (AsBox b) asks rs fs is =
    let P : List (Option Frame) → Type 0 = λ x. All HasLengths (sizes_by (frames_given x)) in
    subst P (sym is) (long_at (long_in (answers_of asks (map framed (map (object s) rs)))) (answers_long s asks rs))
sizes_long s (AsSliver b) asks rs fs is = tt

greater_long : (a b : Size) → HasLengths a → HasLengths b → HasLengths (greater a b)
greater_long a b p q =
    let aw : a.w ≤ 2 ^ 40 = p.w in let ah : a.h ≤ 2 ^ 40 = p.h in let bw : b.w ≤ 2 ^ 40 = q.w in let bh : b.h ≤ 2 ^ 40 = q.h in
    record { w = omega arith; h = omega arith }

fold_long : (least : Size) (ss : List Size) → HasLengths least → LongSizes ss → HasLengths (fold greater least ss)
fold_long least [] h all = h
fold_long least (s ∷ ss) h all = fold_long (greater least s) ss (greater_long least s h all.0) all.1

smallest_long : (b : Bounds) → HasLengths (smallest b)
smallest_long b =
    let wo = b.width_in_order in let wr = b.width_in_range in let ho = b.height_in_order in let hr = b.height_in_range in
    record { w = omega arith; h = omega arith }

whole_long : (mw mh : Len) (b : Bounds) → limit_of mw ≤ 2 ^ 40 → limit_of mh ≤ 2 ^ 40 → HasLengths (whole_of mw mh b)
whole_long (Finite w) (Finite h) b p q = record { w = p; h = q }
whole_long (Finite w) Unbounded b p q = smallest_long b
whole_long Unbounded mh b p q = smallest_long b

stack_long : (b : Bounds) (ss : List Size) → LongSizes ss → HasLengths (stack_size b ss)
stack_long b [] all = whole_long b.max_w b.max_h b b.width_in_range b.height_in_range
stack_long b (s ∷ ss) all = fold_long (smallest b) (s ∷ ss) (smallest_long b) all

nothing_long : HasLengths no_size
nothing_long = record { w = omega arith; h = omega arith }

box_long : (l : Look) (o : ℕ) (b : Bounds) (fs : List (Option Frame)) → LongSizes (long_in fs) → HasLengths (found_makes l o b fs).size
box_long (stack m0 m1 m2) o b fs all = stack_long b (long_in fs) all
box_long l o b fs all = nothing_long

pub found_long : (s : Setting) (l : Look) (o : ℕ) (ask : Ask) (asks : List (Option Ask)) (rs : List Render) (fs : List (Option Frame)) (found : Found)
    → fs ≡ answers_of asks (map framed (map (object s) rs)) → found ≡ found_for l o ask fs → HasLengths found.size
found_long s l o (AsBox b) asks rs fs found is founds =
    let known = answers_of asks (map framed (map (object s) rs)) in
    let same : found ≡ found_makes l o b known = founds ∙ ap (λ (x : List (Option Frame)). found_makes l o b x) is in
    subst (λ (f : Found). HasLengths f.size) (sym same) (box_long l o b known (answers_long s asks rs))
found_long s l o (AsSliver b) asks rs fs found is founds = subst (λ (f : Found). HasLengths f.size) (sym founds) nothing_long

pub no_walk : (l : Look) (ask : Ask) (start : ℕ) (fs : List Frame) → viewed l ask ≡ None → IsWalk l ask start fs
no_walk l (AsSliver b) start fs none = tt
no_walk l (AsBox b) start fs none = λ axis is.
    let other : viewed (viewport axis) (AsBox b) ≡ None = ap (λ (x : Look). viewed x (AsBox b)) (sym is) ∙ none in cc
