-- Lists that run side by side.
use Rattle.std.proofs.Common.{◌≡◌, ap, refl, sym, ℕ, zero, suc, Bool, true, false, if◌then◌else◌, ◌+◌, ◌<◌, ◌≤◌, Option, Some, None, List, [], ◌∷◌, ◌++◌, map, length, drop, get_or, arith, append_assoc, ◌∙◌, add-one, zero-add, option_map, option_to_list}
use Rattle.std.specs.Prelude.{ℤ}
use Rattle.fx_geom.specs.declared.boxes.Bounds.{Bounds}
use Rattle.fx_geom.specs.declared.shapes.Size.{Size}
use Rattle.sliver_layout.specs.declared.protocol.SliverBounds.{SliverBounds}
use Rattle.plain_tree.specs.declared.render.ParentData.{ParentData}
use Rattle.layout_form.specs.declared.asks.Ask.{Ask}
use Rattle.layout_form.specs.declared.asks.Ask.TheVariants.{AsBox}
use Rattle.layout_form.specs.WrapTable.{cell_bounds, column_at}
use Rattle.layout_form.specs.StackRule.{stack_offsets}
use Rattle.layout_form.specs.Protocol.{cells_first}
use Rattle.layout_form.specs.Frames.{frames_given, sizes_by, others_by, item_places}
use Rattle.plain_tree.specs.Shown.{box_size}
use Rattle.plain_tree.specs.declared.laid.Frame.{Frame}
use Rattle.layout_form.specs.SliverRule.{counted}
use Rattle.std.proofs.lemmas.List.{at_drop_more, at_drop_all}
use Rattle.flex_layout.specs.Flex.{flex_extent_of}
use Rattle.layout_form.specs.FlexRule.{is_flexible}
use Rattle.layout_form.specs.Intrinsic.{extents_where, shared_where}
use Rattle.kind_rules.proofs.Loops.{fills_on}

pub others_end : (bs : List Bounds) → others_by bs [] ≡ []
others_end [] = refl
others_end (b ∷ bs) = refl

pub offsets_end : (ax ay : ℤ) (stack : Size) (ds : List ParentData) → stack_offsets ax ay stack ds [] ≡ []
offsets_end ax ay stack [] = refl
offsets_end ax ay stack (d ∷ ds) = refl

-- one more of a list whose elements all give the same
same_next : {X Y : Type 0} (x : X) (k : ℕ) (ys : List Y) → k < length ys → x ∷ map (λ (y : Y). x) (drop (suc k) ys) ≡ map (λ (y : Y). x) (drop k ys)
same_next x k [] h = absurd (omega arith)
same_next x zero (y ∷ ys) h = refl
same_next x (suc k) (y ∷ ys) h = same_next x k ys (omega arith)

pub same_more : {X Y : Type 0} (x : X) (k : ℕ) (ys : List Y) (before after whole : List X) → k < length ys → after ≡ before ++ x ∷ []
    → before ++ map (λ (y : Y). x) (drop k ys) ≡ whole → after ++ map (λ (y : Y). x) (drop (k + 1) ys) ≡ whole
same_more {X} {Y} x k ys before after whole h p q =
    rw (p, append_assoc, add-one) (ap (λ (xs : List X). before ++ xs) (same_next x k ys h) ∙ q)

cells_next : (columns : List ℕ) (i k : ℕ) (ds : List ParentData) → k < length ds
    → Some (AsBox (cell_bounds (column_at columns (i + k)))) ∷ cells_first columns (suc (i + k)) (drop (suc k) ds) ≡ cells_first columns (i + k) (drop k ds)
cells_next columns i k [] h = absurd (omega arith)
cells_next columns i zero (d ∷ ds) h = refl
cells_next columns i (suc k) (d ∷ ds) h =
    let e : i + suc k ≡ suc i + k = omega arith in rw e (cells_next columns (suc i) k ds (omega arith))

pub cells_more : (columns : List ℕ) (k : ℕ) (ds : List ParentData) (before after whole : List (Option Ask)) → k < length ds
    → after ≡ before ++ Some (AsBox (cell_bounds (column_at columns k))) ∷ []
    → before ++ cells_first columns k (drop k ds) ≡ whole → after ++ cells_first columns (k + 1) (drop (k + 1) ds) ≡ whole
cells_more columns k ds before after whole h p q =
    let next : Some (AsBox (cell_bounds (column_at columns k))) ∷ cells_first columns (suc k) (drop (suc k) ds) ≡ cells_first columns k (drop k ds) =
    simp zero-add at (cells_next columns 0 k ds h) in
    rw (p, append_assoc, add-one) (ap (λ (xs : List (Option Ask)). before ++ xs) next ∙ q)

counted_next : {X : Type 0} (i k : ℕ) (xs : List X) → k < length xs → (i + k) ∷ counted (suc (i + k)) (drop (suc k) xs) ≡ counted (i + k) (drop k xs)
counted_next i k [] h = absurd (omega arith)
counted_next i zero (x ∷ xs) h = refl
counted_next i (suc k) (x ∷ xs) h = let e : i + suc k ≡ suc i + k = omega arith in rw e (counted_next (suc i) k xs (omega arith))

pub counted_more : {X : Type 0} (k : ℕ) (xs : List X) (before after whole : List ℕ) → k < length xs → after ≡ before ++ k ∷ []
    → before ++ counted k (drop k xs) ≡ whole → after ++ counted (k + 1) (drop (k + 1) xs) ≡ whole
counted_more k xs before after whole h p q =
    let next : k ∷ counted (suc k) (drop (suc k) xs) ≡ counted k (drop k xs) = simp zero-add at (counted_next 0 k xs h) in
    rw (p, append_assoc, add-one) (ap (λ (is : List ℕ). before ++ is) next ∙ q)

-- ---- frames that are there

pub items_end : (b : SliverBounds) (extent : ℕ) (is : List ℕ) → item_places b extent is [] ≡ []
items_end b extent [] = refl
items_end b extent (i ∷ is) = refl

abbrev pub sizes_there : List (Option Frame) → List Size
sizes_there fs = sizes_by (frames_given fs)

there_first : (f : Option Frame) (fs : List (Option Frame)) → sizes_there (f ∷ fs) ≡ sizes_there (f ∷ []) ++ sizes_there fs
there_first None fs = refl
there_first (Some f) fs = refl

pub there_more : (fs : List (Option Frame)) (i : ℕ) (z : Option Frame) (size : Size) (before after whole : List Size) → i < length fs
    → after ≡ before ++ size ∷ [] → size ∷ [] ≡ sizes_there (get_or fs i z ∷ []) → before ++ sizes_there (drop i fs) ≡ whole
    → after ++ sizes_there (drop (i + 1) fs) ≡ whole
there_more fs i z size before after whole h pushed is same =
    let rest = drop (i + 1) fs in
    fills_on sizes_there sizes_there fs i z (size ∷ []) before after whole h
    (there_first (get_or fs i z) rest ∙ ap (λ (ss : List Size). ss ++ sizes_there rest) (sym is)) pushed same

size_here : (f : Option Frame) (size : Size) → Some size ≡ option_map box_size f → size ∷ [] ≡ sizes_there (f ∷ [])
size_here None size is = cc
size_here (Some f) size is = ap option_to_list is

-- what is left begins with a child's size, where it has answered
pub there_here : (fs : List (Option Frame)) (i : ℕ) (size : Size) → i < length fs → Some size ≡ option_map box_size (get_or fs i None)
    → sizes_there (drop i fs) ≡ size ∷ sizes_there (drop (i + 1) fs)
there_here fs i size h is =
    let rest = drop (i + 1) fs in
    at_drop_more sizes_there fs i None h ∙ there_first (get_or fs i None) rest ∙ ap (λ (ss : List Size). ss ++ sizes_there rest) (sym (size_here (get_or fs i None) size is))

-- ---- extents beside what the children were told, child by child

pub where_end : (test : ParentData → Bool) (ds : List ParentData) → extents_where test ds [] ≡ []
where_end test [] = refl
where_end test (d ∷ ds) = refl

pub shared_end : (total : ℕ) (ds : List ParentData) → shared_where total ds [] ≡ []
shared_end total [] = refl
shared_end total (d ∷ ds) = refl

pub where_past : (test : ParentData → Bool) (ds : List ParentData) (es : List ℕ) (i : ℕ) (before whole : List ℕ) → length ds ≤ i
    → before ++ extents_where test (drop i ds) (drop i es) ≡ whole → before ++ extents_where test (drop (i + 1) ds) (drop (i + 1) es) ≡ whole
where_past test ds es i before whole h same =
    ap (λ (xs : List ℕ). before ++ xs)
    (at_drop_all (λ (qs : List ParentData). extents_where test qs (drop (i + 1) es)) ds (i + 1) (omega arith)
    ∙ sym (at_drop_all (λ (qs : List ParentData). extents_where test qs (drop i es)) ds i h))
    ∙ same

picked_one : (t : Bool) (e : ℕ) (es : List ℕ) → (if t then e ∷ es else es) ≡ (if t then e ∷ [] else []) ++ es
picked_one true e es = refl
picked_one false e es = refl

pub where_more : (test : ParentData → Bool) (ds : List ParentData) (es : List ℕ) (i : ℕ) (d : ParentData) (t : Bool) (before after whole : List ℕ)
    → i < length ds → i < length es → d ≡ get_or ds i d → t ≡ test d → after ≡ before ++ (if t then get_or es i 0 ∷ [] else [])
    → before ++ extents_where test (drop i ds) (drop i es) ≡ whole → after ++ extents_where test (drop (i + 1) ds) (drop (i + 1) es) ≡ whole
where_more test ds es i d t before after whole below low at tested pushed same =
    let e = get_or es i 0 in
    let rest = extents_where test (drop (i + 1) ds) (drop (i + 1) es) in
    ap (λ (xs : List ℕ). xs ++ rest) pushed
    ∙ ap (λ (b : Bool). (before ++ (if b then e ∷ [] else [])) ++ rest) tested
    ∙ append_assoc before (if test d then e ∷ [] else []) rest
    ∙ ap (λ (xs : List ℕ). before ++ xs) (sym (picked_one (test d) e rest))
    ∙ ap (λ (x : ParentData). before ++ extents_where test (x ∷ drop (i + 1) ds) (e ∷ drop (i + 1) es)) at
    ∙ ap (λ (xs : List ℕ). before ++ xs) (sym (at_drop_more (λ (qs : List ParentData). extents_where test qs (e ∷ drop (i + 1) es)) ds i d below))
    ∙ ap (λ (xs : List ℕ). before ++ xs) (sym (at_drop_more (λ (qs : List ℕ). extents_where test (drop i ds) qs) es i 0 low))
    ∙ same

pub shared_past : (total : ℕ) (ds : List ParentData) (es : List ℕ) (i : ℕ) (before whole : List ℕ) → length ds ≤ i
    → before ++ shared_where total (drop i ds) (drop i es) ≡ whole → before ++ shared_where total (drop (i + 1) ds) (drop (i + 1) es) ≡ whole
shared_past total ds es i before whole h same =
    ap (λ (xs : List ℕ). before ++ xs)
    (at_drop_all (λ (qs : List ParentData). shared_where total qs (drop (i + 1) es)) ds (i + 1) (omega arith)
    ∙ sym (at_drop_all (λ (qs : List ParentData). shared_where total qs (drop i es)) ds i h))
    ∙ same

pub shared_more : (total : ℕ) (ds : List ParentData) (es : List ℕ) (i : ℕ) (d : ParentData) (before after whole : List ℕ)
    → i < length ds → i < length es → d ≡ get_or ds i d → after ≡ before ++ shared_where total (d ∷ []) (get_or es i 0 ∷ [])
    → before ++ shared_where total (drop i ds) (drop i es) ≡ whole → after ++ shared_where total (drop (i + 1) ds) (drop (i + 1) es) ≡ whole
shared_more total ds es i d before after whole below low at pushed same =
    let e = get_or es i 0 in
    let rest = shared_where total (drop (i + 1) ds) (drop (i + 1) es) in
    ap (λ (xs : List ℕ). xs ++ rest) pushed
    ∙ append_assoc before (shared_where total (d ∷ []) (e ∷ [])) rest
    ∙ ap (λ (xs : List ℕ). before ++ xs) (sym (picked_one (is_flexible d) (flex_extent_of e d.flex total) rest))
    ∙ ap (λ (x : ParentData). before ++ shared_where total (x ∷ drop (i + 1) ds) (e ∷ drop (i + 1) es)) at
    ∙ ap (λ (xs : List ℕ). before ++ xs) (sym (at_drop_more (λ (qs : List ParentData). shared_where total qs (e ∷ drop (i + 1) es)) ds i d below))
    ∙ ap (λ (xs : List ℕ). before ++ xs) (sym (at_drop_more (λ (qs : List ℕ). shared_where total (drop i ds) qs) es i 0 low))
    ∙ same
