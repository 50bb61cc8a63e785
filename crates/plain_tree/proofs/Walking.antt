-- Walks over the nodes of a list: what is gathered so far, and what is changed so far.
use Rattle.std.proofs.Common.{◌≡◌, ℕ, zero, suc, ◌+◌, ◌<◌, ◌≤◌, Option, Some, None, List, [], ◌∷◌, ◌++◌, length, map, take, drop, set, get_or, refl, sym, ap, ◌∙◌, arith}
use Rattle.std.specs.Option.{option_or}
use Rattle.std.proofs.lemmas.List.{append_assoc, append-nil, at_drop_more, at_drop_all, take_all, drop_all}
use Rattle.plain_tree.specs.declared.laid.LaidChild.{LaidChild}
use Rattle.plain_tree.specs.PlainNode.{PlainNode, nodes_of, more_nodes}
use Rattle.plain_tree.specs.LaidView.{laids_in}
use Rattle.plain_tree.specs.Offsets.{offset_at, offset_in, scrolled_by, all_scrolled_by}

-- what the nodes of a list give one after another, where their list gives it
module _ {A : Type 0} (one : PlainNode → List A) (all : List PlainNode → List A) (none : all [] ≡ []) (joined : (n : PlainNode) (ns : List PlainNode) → all (n ∷ ns) ≡ one n ++ all ns) where
  pub gathered_more : (ns : List PlainNode) (i : ℕ) (n : PlainNode) (old new whole : List A) → i < length ns → n ≡ get_or ns i n
      → new ≡ old ++ one n → old ++ all (drop i ns) ≡ whole → new ++ all (drop (i + 1) ns) ≡ whole
  gathered_more ns i n old new whole within is_n is_new so_far =
      let rest = all (drop (i + 1) ns) in
      ap (λ l. l ++ rest) is_new
      ∙ append_assoc old (one n) rest
      ∙ ap (λ m. old ++ (one m ++ rest)) is_n
      ∙ ap (λ l. old ++ l) (sym (joined (get_or ns i n) (drop (i + 1) ns)))
      ∙ sym (at_drop_more (λ l. old ++ all l) ns i n within)
      ∙ so_far

  pub gathered_all : (ns : List PlainNode) (i : ℕ) (old whole : List A) → length ns ≤ i → old ++ all (drop i ns) ≡ whole → old ≡ whole
  gathered_all ns i old whole past so_far =
      sym (append-nil old) ∙ ap (λ l. old ++ l) (sym none) ∙ sym (at_drop_all (λ l. old ++ all l) ns i past) ∙ so_far

-- a list whose first items are changed
module _ {A : Type 0} (g : A → A) where
  abbrev pub changed_to : ℕ → List A → List A
  changed_to i ns = map g (take i ns) ++ drop i ns

  seam : (ns : List A) (i : ℕ) (x : A) → i < length ns → set (changed_to i ns) i x ≡ map g (take i ns) ++ x ∷ drop (suc i) ns
  seam [] i x within = absurd (omega arith)
  seam (m ∷ ms) zero x within = refl
  seam (m ∷ ms) (suc i) x within = ap (λ l. g m ∷ l) (seam ms i x (omega arith))

  at_seam : (ns : List A) (i : ℕ) (d : A) → i < length ns → get_or (changed_to i ns) i d ≡ get_or ns i d
  at_seam [] i d within = absurd (omega arith)
  at_seam (m ∷ ms) zero d within = refl
  at_seam (m ∷ ms) (suc i) d within = at_seam ms i d (omega arith)

  grown : (ns : List A) (i : ℕ) (d : A) → i < length ns → map g (take i ns) ++ g (get_or ns i d) ∷ drop (suc i) ns ≡ changed_to (suc i) ns
  grown [] i d within = absurd (omega arith)
  grown (m ∷ ms) zero d within = refl
  grown (m ∷ ms) (suc i) d within = ap (λ l. g m ∷ l) (grown ms i d (omega arith))

  pub changed_more : (ns now : List A) (i : ℕ) (n x : A) → i < length ns → now ≡ changed_to i ns → n ≡ get_or now i n → x ≡ g n
      → set now i x ≡ changed_to (i + 1) ns
  changed_more ns now i n x within is_now is_n is_x =
      let next : suc i ≡ i + 1 = omega arith in
      let here : n ≡ get_or ns i n = is_n ∙ ap (λ l. get_or l i n) is_now ∙ at_seam ns i n within in
      ap (λ l. set l i x) is_now
      ∙ seam ns i x within
      ∙ ap (λ y. map g (take i ns) ++ y ∷ drop (suc i) ns) (is_x ∙ ap g here)
      ∙ grown ns i n within
      ∙ ap (λ k. changed_to k ns) next

  pub changed_whole : (ns now : List A) (i : ℕ) → length ns ≤ i → now ≡ changed_to i ns → now ≡ map g ns
  changed_whole ns now i past is_now =
      is_now ∙ ap (λ l. map g l ++ drop i ns) (take_all i ns past) ∙ ap (λ l. map g ns ++ l) (drop_all i ns past) ∙ append-nil (map g ns)

pub all_scrolled : (f : ℕ → Option ℕ) (ns : List PlainNode) → nodes_of (map (scrolled_by f) ns) ≡ all_scrolled_by f (nodes_of ns)
all_scrolled f [] = refl
all_scrolled f (n ∷ ns) = ap (more_nodes (scrolled_by f n)) (all_scrolled f ns)

-- the first of three that is there
first_of-assoc : {A : Type 0} (a b c : Option A) → option_or (option_or a b) c ≡ option_or a (option_or b c)
first_of-assoc (Some x) b c = refl
first_of-assoc None b c = refl

module _ (wanted : ℕ) (cs : List LaidChild) (i : ℕ) (old new whole : Option ℕ) (so_far : option_or (offset_in wanted (laids_in (drop i cs))) old ≡ whole) where
  pub kept_more : (c : LaidChild) → i < length cs → c ≡ get_or cs i c → new ≡ option_or (offset_at wanted c.node) old
      → option_or (offset_in wanted (laids_in (drop (i + 1) cs))) new ≡ whole
  kept_more c within is_c is_new =
      let rest = offset_in wanted (laids_in (drop (i + 1) cs)) in
      ap (option_or rest) (is_new ∙ ap (λ (d : LaidChild). option_or (offset_at wanted d.node) old) is_c)
      ∙ sym (first_of-assoc rest (offset_at wanted (get_or cs i c).node) old)
      ∙ sym (at_drop_more (λ l. option_or (offset_in wanted (laids_in l)) old) cs i c within)
      ∙ so_far

  pub kept_all : length cs ≤ i → old ≡ whole
  kept_all past = sym (at_drop_all (λ l. option_or (offset_in wanted (laids_in l)) old) cs i past) ∙ so_far
