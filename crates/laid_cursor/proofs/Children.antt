-- The children of an owned laid node, each at a place of its own.
use Rattle.std.proofs.Common.{◌≡◌, ap, refl, ◌∙◌, ℕ, zero, suc, ◌<◌, ◌≤◌, Some, None, List, [], ◌∷◌, length, get_or, arith}
use Rattle.widget_model.specs.Look.{Look}
use Rattle.plain_tree.specs.declared.laid.Facts.{Facts}
use Rattle.plain_tree.specs.declared.laid.LaidChild.{LaidChild}
use Rattle.plain_tree.specs.Laid.{Laid, laid}
use Rattle.plain_tree.specs.LaidView.{stood, laids_in}
use Rattle.laid_cursor.specs.Opened.{opened, places_of}

places_len : (cs : List LaidChild) → length cs ≡ length (places_of (laids_in cs))
places_len [] = refl
places_len (c ∷ cs) = ap suc (places_len cs)

place_at : (cs : List LaidChild) (i : ℕ) (c : LaidChild) → i < length cs → c ≡ get_or cs i c → Some (stood c) ≡ get_or (places_of (laids_in cs)) i None
place_at [] i c within is = absurd (omega arith)
place_at (d ∷ cs) zero c within is = ap (λ (x : LaidChild). Some (stood x)) is
place_at (d ∷ cs) (suc i) c within is = place_at cs i c (omega arith) is

no_place : (cs : List LaidChild) (i : ℕ) → length cs ≤ i → None ≡ get_or (places_of (laids_in cs)) i None
no_place [] i past = refl
no_place (d ∷ cs) zero past = absurd (omega arith)
no_place (d ∷ cs) (suc i) past = no_place cs i (omega arith)

module _ (number : ℕ) (look : Look) (facts : Facts) (cs : List LaidChild) (l : Laid) (is_node : laid number look facts (laids_in cs) ≡ l) where
  pub child_count : length cs ≡ length (places_of (opened l).below)
  child_count = places_len cs ∙ ap (λ k. length (places_of (opened k).below)) is_node

  pub child_there : (i : ℕ) (c : LaidChild) → i < length cs → c ≡ get_or cs i c → Some (stood c) ≡ get_or (places_of (opened l).below) i None
  child_there i c within is = place_at cs i c within is ∙ ap (λ k. get_or (places_of (opened k).below) i None) is_node

  pub child_missing : (i : ℕ) → length cs ≤ i → None ≡ get_or (places_of (opened l).below) i None
  child_missing i past = no_place cs i past ∙ ap (λ k. get_or (places_of (opened k).below) i None) is_node
