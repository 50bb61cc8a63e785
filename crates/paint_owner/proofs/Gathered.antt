-- Taking away flags and marks by handles takes them away from all that is painted.
use Rattle.std.proofs.Common.{◌≡◌, ◌⊎◌, ℕ, zero, suc, Bool, true, false, not, ◌&&◌, ◌||◌, if◌then◌else◌, Option, Some, List, [], ◌∷◌, ◌++◌, refl, ap, sym, ◌∙◌, arith, inl, inr, true≢false}
use Rattle.fx_handles.specs.declared.Handle.{Handle}
use Rattle.fx_handles.specs.Handle.{same}
use Rattle.fx_handles.specs.HandleLaws.{same_self, cases_same, same-ne}
use Rattle.node_tree.specs.Forest.{Forest, tops, In, count, IsDistinct, Stands, below, map_values}
use Rattle.node_tree.specs.Forest.Forest.{none, tree}
use Rattle.node_tree.specs.Tree.{Tree, node_at, parent_at, parent_of, subtree_at, StandsAt}
use Rattle.node_tree.proofs.ForestLemmas.{count_here}
use Rattle.tree_marks.specs.Closed.{any_flag, any_mark}
use Rattle.render_tree.specs.Object.{RenderObject}
use Rattle.render_tree.specs.Marks.{paint_marks}
use Rattle.kept_layers.specs.Group.{opens}
use Rattle.kept_layers.specs.KeptLayers.{IsMarked, IsCalm}
use Rattle.kept_layers.specs.Steps.{is_listed, calm_listed}
use Rattle.kept_layers.proofs.Agreeing.{in_below, in_rest, not_here, distinct_below, distinct_rest, top_below, top_after, top_of_below, top_of_rest, none_below, none_after}
use Rattle.kept_layers.proofs.Listing.{or_nil_right, is_listed-append, listed_if}
use Rattle.paint_owner.specs.Settled.{is_entered, settled}
use Rattle.paint_owner.specs.Finding.{gathered, has_flag, is_quiet, flagged, quiet, unmarked_listed}
use Rattle.paint_owner.proofs.Settled.{IsMarked-settled, unmarked_calm, calm_flags}

own_listed : (h : Handle) (b : Bool) → is_listed h (if b then h ∷ [] else []) ≡ b
own_listed h true = ap (λ b. b || false) (same_self h)
own_listed h false = refl

module _ (picks : RenderObject → Forest RenderObject → Bool) where
  -- what doesn't stand in the forest isn't gathered
  pub not_listed : (k : Handle) (f : Forest RenderObject) → count k f ≡ 0 → is_listed k (gathered picks f) ≡ false
  not_listed k none gone = refl
  not_listed k (tree h o below rest) gone =
      let inner : List Handle = if is_entered o then gathered picks below else [] in
      let own : List Handle = if picks o below then h ∷ [] else [] in
      is_listed-append k (inner ++ own) (gathered picks rest)
      ∙ (λ i. (is_listed-append k inner own i) || is_listed k (gathered picks rest))
      ∙ (λ i. (listed_if k (is_entered o) (gathered picks below) (not_listed k below (omega (arith, gone))) i
      || listed_if k (picks o below) (h ∷ []) (ap (λ b. b || false) (not_here k h o below rest gone)) i)
      || not_listed k rest (omega (arith, gone)) i)

  -- these are, of the handles of a forest, what is gathered there
  abbrev pub AreGathered : List Handle → Forest RenderObject → Type 0
  AreGathered hs f = (k : Handle) → In k f → is_listed k hs ≡ is_listed k (gathered picks f)

  lists : (k h : Handle) (o : RenderObject) (below rest : Forest RenderObject) → is_listed k (gathered picks (tree h o below rest))
      ≡ ((is_listed k (if is_entered o then gathered picks below else []) || is_listed k (if picks o below then h ∷ [] else [])) || is_listed k (gathered picks rest))
  lists k h o below rest =
      let inner : List Handle = if is_entered o then gathered picks below else [] in
      let own : List Handle = if picks o below then h ∷ [] else [] in
      is_listed-append k (inner ++ own) (gathered picks rest) ∙ ap (λ b. b || is_listed k (gathered picks rest)) (is_listed-append k inner own)

  pub here : (hs : List Handle) (h : Handle) (o : RenderObject) (below rest : Forest RenderObject) → IsDistinct (tree h o below rest) → AreGathered hs (tree h o below rest)
      → is_listed h hs ≡ picks o below
  here hs h o below rest distinct listed =
      listed h (count_here h o below rest) ∙ lists h h o below rest
      ∙ (λ i. (listed_if h (is_entered o) (gathered picks below) (not_listed h below (top_below h o below rest distinct)) i || own_listed h (picks o below) i) || not_listed h rest (top_after h o below rest distinct) i)
      ∙ or_nil_right (picks o below)

  pub inside : (hs : List Handle) (h : Handle) (o : RenderObject) (below rest : Forest RenderObject) → IsDistinct (tree h o below rest) → AreGathered hs (tree h o below rest)
      → (k : Handle) → In k below → is_listed k hs ≡ is_listed k (if is_entered o then gathered picks below else [])
  inside hs h o below rest distinct listed k is =
      let inner : List Handle = if is_entered o then gathered picks below else [] in
      listed k (in_below k h o below rest is) ∙ lists k h o below rest
      ∙ (λ i. (is_listed k inner || listed_if k (picks o below) (h ∷ []) (ap (λ b. b || false) (top_of_below k h o below rest distinct is)) i) || not_listed k rest (none_after k h o below rest distinct is) i)
      ∙ or_nil_right (is_listed k inner || false) ∙ or_nil_right (is_listed k inner)

  pub later : (hs : List Handle) (h : Handle) (o : RenderObject) (below rest : Forest RenderObject) → IsDistinct (tree h o below rest) → AreGathered hs (tree h o below rest)
      → AreGathered hs rest
  later hs h o below rest distinct listed k is =
      listed k (in_rest k h o below rest is) ∙ lists k h o below rest
      ∙ (λ i. (listed_if k (is_entered o) (gathered picks below) (not_listed k below (none_below k h o below rest distinct is)) i
      || listed_if k (picks o below) (h ∷ []) (ap (λ b. b || false) (top_of_rest k h o below rest distinct is)) i)
      || is_listed k (gathered picks rest))

  -- what is gathered stands in the forest
  pub gathered_in : (k : Handle) (f : Forest RenderObject) → is_listed k (gathered picks f) ≡ true → In k f
  gathered_in k f e = by_count (count k f) refl
    where
      by_count : (n : ℕ) → count k f ≡ n → In k f
      by_count zero c = absurd (true≢false (sym e ∙ not_listed k f c))
      by_count (suc n) c = omega (arith, c)

-- ---- both together

abbrev pub cleared : List Handle → List Handle → Forest RenderObject → Forest RenderObject
cleared flags marks f = map_values (unmarked_listed marks) (map_values (calm_listed flags) f)

pub none_cleared : (flags marks : List Handle) (f : Forest RenderObject) → ((k : Handle) → In k f → is_listed k flags ≡ false) → ((k : Handle) → In k f → is_listed k marks ≡ false)
    → cleared flags marks f ≡ f
none_cleared flags marks none a b = refl
none_cleared flags marks (tree h o below rest) a b =
    λ i. tree h (if b h (count_here h o below rest) i then record (if a h (count_here h o below rest) i then record o { needs_paint = false } else o) { paint_below = false }
    else (if a h (count_here h o below rest) i then record o { needs_paint = false } else o))
    (none_cleared flags marks below (λ k is. a k (in_below k h o below rest is)) (λ k is. b k (in_below k h o below rest is)) i)
    (none_cleared flags marks rest (λ k is. a k (in_rest k h o below rest is)) (λ k is. b k (in_rest k h o below rest is)) i)

-- the value of a node
value_cleared : (o : RenderObject) (s p f m l : Bool) → o.needs_paint ≡ f → o.paint_below ≡ m
    → (if ((s && p) && m) && not l then record (if s && f then record o { needs_paint = false } else o) { paint_below = false } else (if s && f then record o { needs_paint = false } else o))
    ≡ (if s then record o { needs_paint = false; paint_below = m && (not p || l) } else o)
value_cleared o false p f m l ef em = refl
value_cleared o true true true true true ef em = ap (λ b. record o { needs_paint = false; paint_below = b }) em
value_cleared o true true true true false ef em = refl
value_cleared o true true true false l ef em = ap (λ b. record o { needs_paint = false; paint_below = b }) em
value_cleared o true true false true true ef em = λ i. record o { needs_paint = ef i; paint_below = em i }
value_cleared o true true false true false ef em = ap (λ b. record o { needs_paint = b; paint_below = false }) ef
value_cleared o true true false false l ef em = λ i. record o { needs_paint = ef i; paint_below = em i }
value_cleared o true false true true l ef em = ap (λ b. record o { needs_paint = false; paint_below = b }) em
value_cleared o true false true false l ef em = ap (λ b. record o { needs_paint = false; paint_below = b }) em
value_cleared o true false false true l ef em = λ i. record o { needs_paint = ef i; paint_below = em i }
value_cleared o true false false false l ef em = λ i. record o { needs_paint = ef i; paint_below = em i }

below_cleared : (flags marks : List Handle) (below : Forest RenderObject) (b : Bool)
    → ((k : Handle) → In k below → is_listed k flags ≡ is_listed k (if b then flagged below else []))
    → ((k : Handle) → In k below → is_listed k marks ≡ is_listed k (if b then quiet below else []))
    → (AreGathered has_flag flags below → AreGathered is_quiet marks below → cleared flags marks below ≡ settled below)
    → cleared flags marks below ≡ (if b then settled below else below)
below_cleared flags marks below true a c again = again a c
below_cleared flags marks below false a c again = none_cleared flags marks below a c

pub cleared_is : (flags marks : List Handle) (f : Forest RenderObject) → IsDistinct f → AreGathered has_flag flags f → AreGathered is_quiet marks f → cleared flags marks f ≡ settled f
cleared_is flags marks none distinct a b = refl
cleared_is flags marks (tree h o below rest) distinct a b =
    (λ i. tree h (if here is_quiet marks h o below rest distinct b i
    then record (if here has_flag flags h o below rest distinct a i then record o { needs_paint = false } else o) { paint_below = false }
    else (if here has_flag flags h o below rest distinct a i then record o { needs_paint = false } else o))
    (cleared flags marks below) (cleared flags marks rest))
    ∙ (λ i. tree h (value_cleared o o.shown (opens o) o.needs_paint o.paint_below (any_mark paint_marks (settled below)) refl refl i)
    (below_cleared flags marks below (is_entered o) (inside has_flag flags h o below rest distinct a) (inside is_quiet marks h o below rest distinct b)
    (λ c d. cleared_is flags marks below (distinct_below h o below rest distinct) c d) i)
    (cleared_is flags marks rest (distinct_rest h o below rest distinct) (later has_flag flags h o below rest distinct a) (later is_quiet marks h o below rest distinct b) i))

-- taking marks away takes no flags away
flags_stay : (marks : List Handle) (f : Forest RenderObject) → any_flag paint_marks (map_values (unmarked_listed marks) f) ≡ any_flag paint_marks f
flags_stay marks none = refl
flags_stay marks (tree h o below rest) = λ i. flag (is_listed h marks) i || (flags_stay marks below i || flags_stay marks rest i)
  where
    flag : (b : Bool) → (if b then record o { paint_below = false } else o).needs_paint ≡ o.needs_paint
    flag true = refl
    flag false = refl

pub flags_stay_below : (marks : List Handle) (f : Forest RenderObject) → any_flag paint_marks (below (map_values (unmarked_listed marks) f)) ≡ any_flag paint_marks (below f)
flags_stay_below marks none = refl
flags_stay_below marks (tree h o kids rest) = flags_stay marks kids

-- ---- a node that loses its mark has no flag below it, once the flags are taken away

and_true : (a b : Bool) → (a && b) ≡ true → (a ≡ true) × (b ≡ true)
and_true true b e = (refl, e)
and_true false b e = absurd (true≢false (sym e))

not_true : (b : Bool) → not b ≡ true → b ≡ false
not_true true e = absurd (true≢false (sym e))
not_true false e = refl

pub or_true : (a b : Bool) → (a || b) ≡ true → (a ≡ true) ⊎ (b ≡ true)
or_true true b e = inl refl
or_true false b e = inr e

listed_where : (k : Handle) (b : Bool) (xs : List Handle) → is_listed k (if b then xs else []) ≡ true → (b ≡ true) × (is_listed k xs ≡ true)
listed_where k true xs e = (refl, e)
listed_where k false xs e = absurd (true≢false (sym e))

pub same_is : (k h : Handle) → (same k h || false) ≡ true → k ≡ h
same_is k h e = elim (cases_same k h) [
  | inl is ↦ is
  | inr ne ↦ absurd (true≢false (sym e ∙ ap (λ b. b || false) (same-ne k h ne)))
]

-- the subtree of a node of a forest that stands
pub tree_stands : (t : Tree RenderObject) (q : Option Handle) (h : Handle) (o : RenderObject) (kids rest : Forest RenderObject)
    → Stands (node_at t) q (tree h o kids rest) → IsDistinct (tree h o kids rest) → StandsAt t h (tree h o kids none)
tree_stands t q h o kids rest stands distinct =
    let up : q ≡ parent_at t h = sym (ap parent_of stands.0) in
    record {
      top = refl;
      stands = (stands.0 ∙ ap (λ (p : Option Handle). Some (record { parent = p; children = tops kids; value = o })) up, stands.1, tt);
      distinct = λ k. let few = distinct k in omega (arith, few);
    }

module _ (t : Tree RenderObject) (subtree_is : (h : Handle) (s : Forest RenderObject) → StandsAt t h s → subtree_at t h ≡ s) (flags marks : List Handle) where
  pub quiet_calm : (q : Option Handle) (f : Forest RenderObject) → Stands (node_at t) q f → IsDistinct f → IsMarked f → AreGathered has_flag flags f → AreGathered is_quiet marks f
      → (k : Handle) → is_listed k (quiet f) ≡ true → any_flag paint_marks (below (map_values (calm_listed flags) (subtree_at t k))) ≡ false
  quiet_calm q none stands distinct marked a b k e = absurd (true≢false (sym e))
  quiet_calm q (tree h o kids rest) stands distinct marked a b k e =
      elim (or_true _ _ (sym (lists is_quiet k h o kids rest) ∙ e)) [
        | inl first ↦ elim (or_true _ _ first) [
          | inl inner ↦
              let in_it = listed_where k (is_entered o) (quiet kids) inner in
              quiet_calm (Some h) kids stands.1 (distinct_below h o kids rest distinct) marked.1
              (λ j is. inside has_flag flags h o kids rest distinct a j is ∙ ap (λ n. is_listed j (if n then flagged kids else [])) in_it.0)
              (λ j is. inside is_quiet marks h o kids rest distinct b j is ∙ ap (λ n. is_listed j (if n then quiet kids else [])) in_it.0)
              k in_it.1
          | inr own ↦
              let picked = listed_where k (is_quiet o kids) (h ∷ []) own in
              let entered = and_true (is_entered o) (not (any_mark paint_marks (settled kids))) picked.0 in
              let calm : IsCalm (settled kids) = unmarked_calm (settled kids) (IsMarked-settled kids marked.1) (not_true _ entered.1) in
              let all : cleared flags marks kids ≡ settled kids =
              below_cleared flags marks kids (is_entered o) (inside has_flag flags h o kids rest distinct a) (inside is_quiet marks h o kids rest distinct b)
              (λ c d. cleared_is flags marks kids (distinct_below h o kids rest distinct) c d) ∙ ap (λ n. if n then settled kids else kids) entered.0 in
              ap (λ j. any_flag paint_marks (below (map_values (calm_listed flags) (subtree_at t j)))) (same_is k h picked.1)
              ∙ ap (λ s. any_flag paint_marks (below (map_values (calm_listed flags) s))) (subtree_is h (tree h o kids none) (tree_stands t q h o kids rest stands distinct))
              ∙ sym (flags_stay marks (map_values (calm_listed flags) kids)) ∙ ap (any_flag paint_marks) all ∙ calm_flags (settled kids) calm
        ]
        | inr last ↦
            quiet_calm q rest stands.2 (distinct_rest h o kids rest distinct) marked.2 (later has_flag flags h o kids rest distinct a) (later is_quiet marks h o kids rest distinct b) k last
      ]
