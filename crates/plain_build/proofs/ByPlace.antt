-- Which node stood at a place.
use Rattle.std.proofs.Common.{◌≡◌, ◌≢◌, ℕ, suc, ◌<◌, Bool, true, false, Option, Some, None, List, ◌∷◌, length, drop, drop-cons, set, get_or, refl, sym, ap, ◌∙◌, arith}
use Rattle.std.proofs.Common.{cond, eqb}
use Rattle.std.proofs.lemmas.Grind.{get_or-set_at}
use Rattle.std.proofs.lemmas.List.{get_or-set_other}
use Rattle.std.proofs.lemmas.Option.{slice_get_read}
use borrow.Author.Tests.{eqb-true, eqb-false}
use Rattle.plain_tree.specs.PlainNode.{PlainNode, index_of}
use Rattle.build_form.specs.Partner.{node_at}
use Rattle.plain_build.specs.PartnerView.{node_of}

module _ (nodes : List PlainNode) (k rest : ℕ) (n : PlainNode) (count : ℕ) (old : List (Option ℕ))
    (is_rest : rest ≡ suc k) (within : k < length nodes) (at : n ≡ get_or nodes k n) (below : index_of n < count) (len : length old ≡ count)
    (so_far : (j : ℕ) → j < count → node_of nodes (get_or old j None) ≡ node_at (drop rest nodes) j) (j : ℕ) (low : j < count) where
  front : drop k nodes ≡ n ∷ drop rest nodes
  front = drop-cons nodes k n within ∙ ap (λ m. m ∷ drop (suc k) nodes) (sym at) ∙ ap (λ r. n ∷ drop r nodes) (sym is_rest)

  by_test : (b : Bool) → eqb (index_of n) j ≡ b → node_of nodes (get_or (set old (index_of n) (Some k)) j None) ≡ cond b (Some n) (node_at (drop rest nodes) j)
  by_test true e =
      let same : j ≡ index_of n = sym (eqb-true (index_of n) j e) in
      ap (node_of nodes) (get_or-set_at old (index_of n) j (Some k) None same (omega arith)) ∙ slice_get_read nodes (length nodes) k n refl within at
  by_test false e =
      let other : j ≢ index_of n = λ s. eqb-false (index_of n) j e (sym s) in
      ap (node_of nodes) (get_or-set_other old (index_of n) j (Some k) None other) ∙ so_far j low

  -- a node more, before those that were looked at, is the one at its place
  pub by_place_more : node_of nodes (get_or (set old (index_of n) (Some k)) j None) ≡ node_at (drop k nodes) j
  by_place_more = by_test (eqb (index_of n) j) refl ∙ sym (ap (λ ns. node_at ns j) front)
