-- The pass over the children of a Wrap gives their places and their size.
use Rattle.std.proofs.Common.{◌≡◌, ℕ, ◌+◌, ◌≤◌, ◌&&◌, max, arith, Bool, true, false, nat_lt, if◌then◌else◌, List, [], ◌∷◌, ◌++◌, map, append_assoc, ap, ap₂, sym, refl, ◌∙◌}
use Rattle.std.proofs.lemmas.List.{map-append}
use Rattle.fx_geom.specs.declared.shapes.Offset.{Offset}
use Rattle.fx_geom.specs.declared.shapes.Size.{Size}
use Rattle.fx_geom.specs.Len.{limit_of, stopped, length_sum}
use Rattle.wrap_table.specs.declared.wrap.WrapRule.{WrapRule}
use Rattle.wrap_table.specs.declared.wrap.WrapPass.{WrapPass}
use Rattle.wrap_table.specs.Stretches.{greatest_of, spaced_extent, starts_of}
use Rattle.wrap_table.specs.Runs.{width_of, cut_after, exceeds}
use Rattle.wrap_table.specs.Places.{offset_at, places_from, size_with, wrap_run, wrap_places_of, wrap_size_of}
use Rattle.wrap_table.specs.Pass.{place_at, wrap_start, next_left, run_ends, run_begun, run_ready, wrap_put, wrap_next, wrap_size_at, wrap_places_after, wrap_end}
use Rattle.wrap_table.proofs.ExtentLemmas.{stopped_sums, stopped_after, spaced_extent-first, spaced_extent-last, behind, starts_from-last, greatest_of-last}

-- widths and heights of children
abbrev pub widths : List Size → List ℕ
widths children = map (λ child. child.w) children

abbrev pub heights : List Size → List ℕ
heights children = map (λ child. child.h) children

-- what a pass holds of the children so far: the present run begins at this height and has these children, and the widest
-- run before it is this wide
pub record Stands (gap : ℕ) (p : WrapPass) (top : ℕ) (run : List Size) (widest : ℕ) : Type 0 where
  pub some : p.some ≡ true
  pub begins : p.top ≡ stopped top
  pub wide : p.width ≡ width_of gap run
  pub high : p.height ≡ greatest_of (heights run)
  pub most : p.widest ≡ max widest (width_of gap run)

-- a run with one more child
width_of-last : (gap : ℕ) (d : Size) (ds : List Size) (c : Size) → length_sum (length_sum (width_of gap (d ∷ ds)) gap) c.w ≡ width_of gap ((d ∷ ds) ++ c ∷ [])
width_of-last gap d ds c =
    stopped_sums (spaced_extent gap (widths (d ∷ ds))) gap c.w
    ∙ ap stopped (sym (ap (spaced_extent gap) (map-append (λ child. child.w) (d ∷ ds) (c ∷ [])) ∙ spaced_extent-last gap d.w (widths ds) c.w))

next_left-some : (gap : ℕ) (p : WrapPass) (top : ℕ) (run : List Size) (widest : ℕ) → Stands gap p top run widest → next_left gap p ≡ length_sum (width_of gap run) gap
next_left-some gap p top run widest s = ap₂ (λ b w. if b then length_sum w gap else 0) s.some s.wide

run_ends-some : (rule : WrapRule) (p : WrapPass) (top : ℕ) (d : Size) (ds : List Size) (widest : ℕ) (c : Size) → Stands rule.gap p top (d ∷ ds) widest
    → run_ends rule p c.w ≡ exceeds rule.limit rule.gap (d ∷ ds) c
run_ends-some rule p top d ds widest c s =
    ap₂ (λ b left. b && nat_lt (limit_of rule.limit) (length_sum left c.w)) s.some (next_left-some rule.gap p top (d ∷ ds) widest s)
    ∙ ap (nat_lt (limit_of rule.limit)) (width_of-last rule.gap d ds c)

-- the child ends the run, and begins the next one
stands_next : (rule : WrapRule) (p : WrapPass) (top : ℕ) (run : List Size) (widest : ℕ) (c : Size) → Stands rule.gap p top run widest
    → Stands rule.gap (wrap_put 0 c (run_begun rule.run_gap p)) (top + greatest_of (heights run) + rule.run_gap) (c ∷ []) (max widest (width_of rule.gap run))
stands_next rule p top run widest c s = record {
  some = refl;
  begins = ap₂ (λ t h. length_sum t (length_sum h rule.run_gap)) s.begins s.high ∙ stopped_after top (greatest_of (heights run)) rule.run_gap;
  wide = omega arith;
  high = omega arith;
  most = let most = s.most in omega (arith, most);
}

-- the child stands in the run
stands_more : (rule : WrapRule) (p : WrapPass) (top : ℕ) (d : Size) (ds : List Size) (widest : ℕ) (c : Size) → Stands rule.gap p top (d ∷ ds) widest
    → Stands rule.gap (wrap_put (next_left rule.gap p) c p) top ((d ∷ ds) ++ c ∷ []) widest
stands_more rule p top d ds widest c s =
    let right : length_sum (next_left rule.gap p) c.w ≡ width_of rule.gap ((d ∷ ds) ++ c ∷ []) =
    ap (λ l. length_sum l c.w) (next_left-some rule.gap p top (d ∷ ds) widest s) ∙ width_of-last rule.gap d ds c in
    let wider : width_of rule.gap (d ∷ ds) ≤ width_of rule.gap ((d ∷ ds) ++ c ∷ []) =
    wider_by _ _ _ _ (sym (stopped_sums (spaced_extent rule.gap (widths (d ∷ ds))) rule.gap c.w) ∙ width_of-last rule.gap d ds c) in record {
      some = refl;
      begins = s.begins;
      wide = right;
      high = ap (λ h. max h c.h) s.high ∙ sym (ap greatest_of (map-append (λ child. child.h) (d ∷ ds) (c ∷ [])) ∙ greatest_of-last (heights (d ∷ ds)) c.h);
      most = ap₂ max s.most right ∙ greater _ _ _ wider;
    }
  where
    wider_by : (e g w n : ℕ) → stopped (e + g + w) ≡ n → stopped e ≤ n
    wider_by e g w n h = omega arith

    greater : (a b n : ℕ) → b ≤ n → max (max a b) n ≡ max a n
    greater a b n h = omega arith

-- something stands behind the first of some runs
behind-cut_after : {A B : Type 0} (ends : List A → A → Bool) (f : B → ℕ) (g : List A → B) (gap : ℕ) (s xs : List A)
    → behind gap (map f (map g (cut_after ends s xs))) ≡ gap + spaced_extent gap (map f (map g (cut_after ends s xs)))
behind-cut_after ends f g gap s [] = refl
behind-cut_after ends f g gap s (x ∷ xs) =
    elim (ends s x)
    as (λ b. let runs = if b then s ∷ cut_after ends (x ∷ []) xs else cut_after ends (s ++ x ∷ []) xs in
    behind gap (map f (map g runs)) ≡ gap + spaced_extent gap (map f (map g runs))) [
      | true ↦ refl
      | false ↦ behind-cut_after ends f g gap (s ++ x ∷ []) xs
    ]

pub spaced_extent-cut : {A B : Type 0} (ends : List A → A → Bool) (f : B → ℕ) (g : List A → B) (gap h : ℕ) (s xs : List A)
    → spaced_extent gap (h ∷ map f (map g (cut_after ends s xs))) ≡ h + gap + spaced_extent gap (map f (map g (cut_after ends s xs)))
spaced_extent-cut ends f g gap h s xs =
    let first = spaced_extent-first gap h (map f (map g (cut_after ends s xs))) in
    let rest = behind-cut_after ends f g gap s xs in
    omega (arith, first, rest)

-- the places of the present run and of what is left, and the size of all
abbrev placed_runs : WrapRule → ℕ → List (List Size) → List Offset
placed_runs rule top runs = places_from rule.run_gap top (map (wrap_run rule.gap) runs)

abbrev sized_runs : WrapRule → ℕ → ℕ → List (List Size) → Size
sized_runs rule top widest runs =
    size_with (max widest (greatest_of (map (width_of rule.gap) runs))) (stopped (top + spaced_extent rule.run_gap (map (λ run. run.height) (map (wrap_run rule.gap) runs))))

pub record Meets (rule : WrapRule) (p : WrapPass) (top : ℕ) (run : List Size) (widest : ℕ) (left : List Size) (runs : List (List Size)) : Type 0 where
  pub places : map (offset_at top) (starts_of rule.gap (widths run)) ++ wrap_places_after rule p left ≡ placed_runs rule top runs
  pub size : wrap_size_at (wrap_end rule p left) ≡ sized_runs rule top widest runs

meets_next : (rule : WrapRule) (p : WrapPass) (top : ℕ) (run : List Size) (widest : ℕ) (c : Size) (cs : List Size) → Stands rule.gap p top run widest → run_ends rule p c.w ≡ true
    → Meets rule (wrap_put 0 c (run_begun rule.run_gap p)) (top + greatest_of (heights run) + rule.run_gap) (c ∷ []) (max widest (width_of rule.gap run)) cs (cut_after (exceeds rule.limit rule.gap) (c ∷ []) cs)
    → Meets rule p top run widest (c ∷ cs) (run ∷ cut_after (exceeds rule.limit rule.gap) (c ∷ []) cs)
meets_next rule p top run widest c cs s ends m =
    let ready : run_ready rule p c.w ≡ run_begun rule.run_gap p = ap (λ b. if b then run_begun rule.run_gap p else p) ends in
    let next = wrap_put 0 c (run_begun rule.run_gap p) in
    let later = top + greatest_of (heights run) + rule.run_gap in
    let begins = (stands_next rule p top run widest c s).begins in
    let runs = cut_after (exceeds rule.limit rule.gap) (c ∷ []) cs in record {
      places = ap (λ ys. map (offset_at top) (starts_of rule.gap (widths run)) ++ ys)
          (ap (λ q. place_at (next_left rule.gap q) q.top ∷ wrap_places_after rule (wrap_put (next_left rule.gap q) c q) cs) ready
          ∙ ap (λ t. place_at 0 t ∷ wrap_places_after rule next cs) begins ∙ m.places);
      size = ap (λ q. wrap_size_at (wrap_end rule (wrap_put (next_left rule.gap q) c q) cs)) ready ∙ m.size
          ∙ ap₂ size_with (max_assoc widest (width_of rule.gap run) (greatest_of (map (width_of rule.gap) runs)))
          (ap stopped (regroup top (greatest_of (heights run)) rule.run_gap _ _ (spaced_extent-cut (exceeds rule.limit rule.gap) (λ run. run.height) (wrap_run rule.gap) rule.run_gap (greatest_of (heights run)) (c ∷ []) cs)));
    }
  where
    max_assoc : (a b n : ℕ) → max (max a b) n ≡ max a (max b n)
    max_assoc a b n = omega arith

    regroup : (t h g e n : ℕ) → n ≡ h + g + e → t + h + g + e ≡ t + n
    regroup t h g e n is = omega arith

meets_more : (rule : WrapRule) (p : WrapPass) (top : ℕ) (d : Size) (ds : List Size) (widest : ℕ) (c : Size) (cs : List Size) (runs : List (List Size)) → Stands rule.gap p top (d ∷ ds) widest
    → run_ends rule p c.w ≡ false → Meets rule (wrap_put (next_left rule.gap p) c p) top ((d ∷ ds) ++ c ∷ []) widest cs runs → Meets rule p top (d ∷ ds) widest (c ∷ cs) runs
meets_more rule p top d ds widest c cs runs s ends m =
    let ready : run_ready rule p c.w ≡ p = ap (λ b. if b then run_begun rule.run_gap p else p) ends in
    let next = wrap_put (next_left rule.gap p) c p in
    let begun = map (offset_at top) (starts_of rule.gap (widths (d ∷ ds))) in
    let left : next_left rule.gap p ≡ stopped (0 + spaced_extent rule.gap (widths (d ∷ ds)) + rule.gap) = next_left-some rule.gap p top (d ∷ ds) widest s ∙ once (spaced_extent rule.gap (widths (d ∷ ds))) rule.gap in
    let place : place_at (next_left rule.gap p) p.top ≡ offset_at top (stopped (0 + spaced_extent rule.gap (widths (d ∷ ds)) + rule.gap)) = ap₂ place_at left s.begins in
    let starts : map (offset_at top) (starts_of rule.gap (widths ((d ∷ ds) ++ c ∷ []))) ≡ begun ++ place_at (next_left rule.gap p) p.top ∷ [] =
    ap (λ es. map (offset_at top) (starts_of rule.gap es)) (map-append (λ child. child.w) (d ∷ ds) (c ∷ []))
    ∙ ap (map (offset_at top)) (starts_from-last rule.gap 0 d.w (widths ds) c.w)
    ∙ map-append (offset_at top) (starts_of rule.gap (widths (d ∷ ds))) (stopped (0 + spaced_extent rule.gap (widths (d ∷ ds)) + rule.gap) ∷ [])
    ∙ ap (λ o. begun ++ o ∷ []) (sym place) in record {
      places = ap (λ ys. begun ++ ys) (ap (λ q. place_at (next_left rule.gap q) q.top ∷ wrap_places_after rule (wrap_put (next_left rule.gap q) c q) cs) ready)
          ∙ sym (append_assoc begun (place_at (next_left rule.gap p) p.top ∷ []) (wrap_places_after rule next cs))
          ∙ ap (λ ys. ys ++ wrap_places_after rule next cs) (sym starts) ∙ m.places;
      size = ap (λ q. wrap_size_at (wrap_end rule (wrap_put (next_left rule.gap q) c q) cs)) ready ∙ m.size;
    }
  where
    once : (e g : ℕ) → length_sum (stopped e) g ≡ stopped (0 + e + g)
    once e g = omega arith

wrap_meets : (rule : WrapRule) (left : List Size) (p : WrapPass) (top : ℕ) (d : Size) (ds : List Size) (widest : ℕ) → Stands rule.gap p top (d ∷ ds) widest
    → Meets rule p top (d ∷ ds) widest left (cut_after (exceeds rule.limit rule.gap) (d ∷ ds) left)
wrap_meets rule [] p top d ds widest s = record {
  places = refl;
  size = ap₂ size_with (s.most ∙ no_more widest (width_of rule.gap (d ∷ ds))) (ap₂ length_sum s.begins s.high ∙ once top (greatest_of (heights (d ∷ ds))));
}
  where
    no_more : (a b : ℕ) → max a b ≡ max a (max b 0)
    no_more a b = omega arith

    once : (t h : ℕ) → length_sum (stopped t) h ≡ stopped (t + h)
    once t h = omega arith
wrap_meets rule (c ∷ cs) p top d ds widest s =
    elim (exceeds rule.limit rule.gap (d ∷ ds) c)
    as (λ b. exceeds rule.limit rule.gap (d ∷ ds) c ≡ b → Meets rule p top (d ∷ ds) widest (c ∷ cs)
    (if b then (d ∷ ds) ∷ cut_after (exceeds rule.limit rule.gap) (c ∷ []) cs else cut_after (exceeds rule.limit rule.gap) ((d ∷ ds) ++ c ∷ []) cs)) [
      | true ↦ λ e. meets_next rule p top (d ∷ ds) widest c cs s (run_ends-some rule p top d ds widest c s ∙ e)
          (wrap_meets rule cs (wrap_put 0 c (run_begun rule.run_gap p)) (top + greatest_of (heights (d ∷ ds)) + rule.run_gap) c [] (max widest (width_of rule.gap (d ∷ ds))) (stands_next rule p top (d ∷ ds) widest c s))
      | false ↦ λ e. meets_more rule p top d ds widest c cs _ s (run_ends-some rule p top d ds widest c s ∙ e)
          (wrap_meets rule cs (wrap_put (next_left rule.gap p) c p) top d (ds ++ c ∷ []) widest (stands_more rule p top d ds widest c s))
    ] refl

-- all children
pub wrap_places-all : (rule : WrapRule) (children : List Size) → wrap_places_after rule wrap_start children ≡ wrap_places_of children rule.limit rule.gap rule.run_gap
wrap_places-all rule [] = refl
wrap_places-all rule (c ∷ cs) = (wrap_meets rule cs (wrap_next rule wrap_start c) 0 c [] 0 (first rule c)).places
  where
    first : (rule : WrapRule) (c : Size) → Stands rule.gap (wrap_next rule wrap_start c) 0 (c ∷ []) 0
    first rule c = record { some = refl; begins = refl; wide = omega arith; high = omega arith; most = omega arith }

pub wrap_size-all : (rule : WrapRule) (children : List Size) → wrap_size_at (wrap_end rule wrap_start children) ≡ wrap_size_of children rule.limit rule.gap rule.run_gap
wrap_size-all rule [] = refl
wrap_size-all rule (c ∷ cs) =
    (wrap_meets rule cs (wrap_next rule wrap_start c) 0 c [] 0 (record { some = refl; begins = refl; wide = omega arith; high = omega arith; most = omega arith })).size
    ∙ ap₂ size_with (none _) (ap stopped (nothing _))
  where
    none : (n : ℕ) → max 0 n ≡ n
    none n = omega arith

    nothing : (n : ℕ) → 0 + n ≡ n
    nothing n = omega arith
