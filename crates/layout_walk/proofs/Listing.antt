-- The items of lazy lists have no part in what is stored of any other node, nor in where Viewports are corrected to.
use Rattle.std.proofs.Common.{◌≡◌, ap, refl, sym, subst, ◌∙◌, ◌⊎◌, inl, inr, ℕ, true, Option, Some, None, List, ◌∷◌}
use Rattle.fx_handles.specs.declared.Handle.{Handle}
use Rattle.node_tree.specs.Forest.{Forest}
use Rattle.node_tree.specs.Forest.Forest.{none, tree}
use Rattle.plain_tree.specs.declared.laid.Facts.{Facts}
use Rattle.plain_tree.specs.declared.laid.Frame.{Frame}
use Rattle.plain_tree.specs.declared.render.ParentData.{ParentData}
use Rattle.plain_tree.specs.Offsets.{rescrolled}
use Rattle.plain_tree.specs.RenderRole.{render_role_of}
use Rattle.layout_form.specs.declared.asks.Ask.{Ask}
use Rattle.layout_walk.specs.Node.{LayoutNode, member, members, tellings}
use Rattle.layout_walk.specs.Rule.{LayoutParts, RuleGift, asks_by, made_by, ask_of, later, Lawful}
use Rattle.layout_walk.specs.Full.{asks_at, made_at, objects}
use Rattle.layout_walk.specs.Here.{Backs}
use Rattle.layout_walk.specs.Walk.{SameMembers, IsLeft, MayCorrect, CorrectedAs, AreCorrected, IsCorrected}
use Rattle.layout_walk.specs.Items.{LikesSame, SameButItems, ItemsChange}
use Rattle.layout_walk.proofs.Same.{same_self}
use Rattle.layout_walk.proofs.Correcting.{held_by, corrected_self}

items_told : (P : LayoutParts) (f g : Forest LayoutNode) → SameButItems P f g → tellings f ≡ tellings g
items_told P none none same = refl
items_told P none (tree k w below rest) same = absurd same
items_told P (tree h v kids more) none same = absurd same
items_told P (tree h v kids more) (tree k w below rest) same =
    ap (λ (x : LayoutNode). x.told ∷ tellings more) same.0 ∙ ap (λ (ds : List ParentData). w.told ∷ ds) (items_told P more rest same.2)

-- a node above others that answer and were told the same
over_made : (P : LayoutParts) (v : LayoutNode) (ask : Ask) (kids below : Forest LayoutNode) → tellings kids ≡ tellings below → LikesSame P v kids below → objects P kids ≡ objects P below
    → made_at P v ask kids (objects P kids) ≡ made_at P v ask below (objects P below)
over_made P v ask kids below told likes same =
    ap (λ (gs : List (Ask → Frame)). made_at P v ask kids gs) same
    ∙ ap (λ (n : ℕ). made_by P (member v) v.scroll ask n (tellings kids) (objects P below)) (likes ask)
    ∙ ap (λ (ds : List ParentData). made_by P (member v) v.scroll ask (P.liked v.look ask (members below)) ds (objects P below)) told

over_asks : (P : LayoutParts) (v : LayoutNode) (ask : Ask) (kids below : Forest LayoutNode) → tellings kids ≡ tellings below → LikesSame P v kids below → objects P kids ≡ objects P below
    → asks_at P v ask kids (objects P kids) ≡ asks_at P v ask below (objects P below)
over_asks P v ask kids below told likes same =
    ap (λ (gs : List (Ask → Frame)). asks_at P v ask kids gs) same
    ∙ ap (λ (n : ℕ). asks_by P (member v) v.scroll ask n (tellings kids) (objects P below)) (likes ask)
    ∙ ap (λ (ds : List ParentData). asks_by P (member v) v.scroll ask (P.liked v.look ask (members below)) ds (objects P below)) told

list_facts : (P : LayoutParts) → Lawful P → (v : LayoutNode) (ask : Ask) (kids below : Forest LayoutNode) → P.lists v.look ≡ true
    → (made_at P v ask kids (objects P kids)).facts ≡ (made_at P v ask below (objects P below)).facts
list_facts P law v ask kids below is =
    law.lists (member v) v.scroll ask (P.liked v.look ask (members kids)) (P.liked v.look ask (members below)) (tellings kids) (tellings below) (objects P kids) (objects P below) is

one_object : (P : LayoutParts) → Lawful P → (v : LayoutNode) (ask : Ask) (kids below : Forest LayoutNode)
    → (P.lists v.look ≡ true) ⊎ (SameButItems P kids below × LikesSame P v kids below) → (SameButItems P kids below → objects P kids ≡ objects P below)
    → (made_at P v ask kids (objects P kids)).facts.frame ≡ (made_at P v ask below (objects P below)).facts.frame
one_object P law v ask kids below (inl is) same = ap (λ (x : Facts). x.frame) (list_facts P law v ask kids below is)
one_object P law v ask kids below (inr other) same =
    ap (λ (g : RuleGift). g.facts.frame) (over_made P v ask kids below (items_told P kids below other.0) other.1 (same other.0))

pub items_objects : (P : LayoutParts) → Lawful P → (f g : Forest LayoutNode) → SameButItems P f g → objects P f ≡ objects P g
unfolding objects
items_objects P law none none same = refl
items_objects P law none (tree k w below rest) same = absurd same
items_objects P law (tree h v kids more) none same = absurd same
items_objects P law (tree h v kids more) (tree k w below rest) same =
    ap (λ (x : LayoutNode). (λ (ask : Ask). (made_at P x ask kids (objects P kids)).facts.frame) ∷ objects P more) same.0
    ∙ (λ at. (λ ask. one_object P law w ask kids below (transported same.0 same.1) (items_objects P law kids below) at) ∷ items_objects P law more rest same.2 at)
  where
    transported : v ≡ w → (P.lists v.look ≡ true) ⊎ (SameButItems P kids below × LikesSame P v kids below) → (P.lists w.look ≡ true) ⊎ (SameButItems P kids below × LikesSame P w kids below)
    transported e = subst (λ (x : LayoutNode). (P.lists v.look ≡ true) ⊎ (SameButItems P kids below × LikesSame P v kids below) → (P.lists x.look ≡ true) ⊎ (SameButItems P kids below × LikesSame P x kids below)) e (λ c. c)

-- ---- where Viewports are corrected to

-- at a node: it is a list, below which there is the same now in both, or the items change further below
abbrev ChangeAt : LayoutParts → LayoutNode → Forest LayoutNode → Forest LayoutNode → Forest LayoutNode → Forest LayoutNode → Type 0
ChangeAt P v kids below kids' below' = ((P.lists v.look ≡ true) × (kids' ≡ below')) ⊎ (ItemsChange P kids below kids' below' × LikesSame P v kids kids')

first_by : (P : LayoutParts) (v : LayoutNode) (kids below kids' below' : Forest LayoutNode) → (ItemsChange P kids below kids' below' → SameButItems P kids kids')
    → ChangeAt P v kids below kids' below' → (P.lists v.look ≡ true) ⊎ (SameButItems P kids kids' × LikesSame P v kids kids')
first_by P v kids below kids' below' first (inl list) = inl list.0
first_by P v kids below kids' below' first (inr other) = inr (first other.0, other.1)

first_items : (P : LayoutParts) (f g f' g' : Forest LayoutNode) → ItemsChange P f g f' g' → SameButItems P f f'
first_items P none none none none change = tt
first_items P (tree h v kids more) (tree k w below rest) (tree i x kids' more') (tree j y below' rest') change =
    (change.1, first_by P v kids below kids' below' (first_items P kids below kids' below') change.3, first_items P more rest more' rest' change.4)
first_items P _ _ _ _ change = absurd change

same_by : (P : LayoutParts) (v : LayoutNode) (kids below kids' below' : Forest LayoutNode) → SameMembers kids below → (SameMembers kids below → ItemsChange P kids below kids' below' → SameMembers kids' below')
    → ChangeAt P v kids below kids' below' → SameMembers kids' below'
same_by P v kids below kids' below' same below_same (inl list) = subst (λ (f : Forest LayoutNode). SameMembers kids' f) list.1 (same_self kids')
same_by P v kids below kids' below' same below_same (inr other) = below_same same other.0

same_items : (P : LayoutParts) (f g f' g' : Forest LayoutNode) → SameMembers f g → ItemsChange P f g f' g' → SameMembers f' g'
same_items P none none none none same change = tt
same_items P (tree h v kids more) (tree k w below rest) (tree i x kids' more') (tree j y below' rest') same change = (
  change.0,
  ap member (sym change.1) ∙ same.1 ∙ ap member change.2,
  same_by P v kids below kids' below' same.2 (same_items P kids below kids' below') change.3,
  same_items P more rest more' rest' same.3 change.4,
)
same_items P _ _ _ _ same change = absurd change

-- where two trees were the same, they are so with other items
kids_by : (P : LayoutParts) (v : LayoutNode) (kids below kids' below' : Forest LayoutNode) → below ≡ kids
    → (below ≡ kids → ItemsChange P kids below kids' below' → below' ≡ kids') → ChangeAt P v kids below kids' below' → below' ≡ kids'
kids_by P v kids below kids' below' left further (inl list) = sym list.1
kids_by P v kids below kids' below' left further (inr other) = further left other.0

left_items : (P : LayoutParts) (f g f' g' : Forest LayoutNode) → g ≡ f → ItemsChange P f g f' g' → g' ≡ f'
left_items P none none none none left change = refl
left_items P (tree h v kids more) (tree k w below rest) (tree i x kids' more') (tree j y below' rest') left change =
    let value : y ≡ x = sym change.2 ∙ same_value ∙ change.1 in
    let kids_are : below' ≡ kids' = kids_by P v kids below kids' below' same_kids (left_items P kids below kids' below') change.3 in
    let more_are : rest' ≡ more' = left_items P more rest more' rest' same_more change.4 in
    ap (λ (z : Handle). tree z y below' rest') (sym change.0) ∙ ap (λ (z : LayoutNode). tree i z below' rest') value
    ∙ ap (λ (z : Forest LayoutNode). tree i x z rest') kids_are ∙ ap (λ (z : Forest LayoutNode). tree i x kids' z) more_are
  where
    same_value : w ≡ v
    same_value = cc

    same_kids : below ≡ kids
    same_kids = cc

    same_more : rest ≡ more
    same_more = cc
left_items P _ _ _ _ left change = absurd change

module _ (P : LayoutParts) (law : Lawful P) (back : Backs) where
  facts_at : (v : LayoutNode) (ask : Ask) (kids below kids' below' : Forest LayoutNode) → ChangeAt P v kids below kids' below'
      → (made_at P v ask kids (objects P kids)).facts ≡ (made_at P v ask kids' (objects P kids')).facts
  facts_at v ask kids below kids' below' (inl list) = list_facts P law v ask kids kids' list.0
  facts_at v ask kids below kids' below' (inr other) =
      let same = first_items P kids below kids' below' other.0 in
      ap (λ (g : RuleGift). g.facts) (over_made P v ask kids kids' (items_told P kids kids' same) other.1 (items_objects P law kids kids' same))

  may_by : (v w : LayoutNode) (ask : Ask) (kids below kids' below' : Forest LayoutNode) → ChangeAt P v kids below kids' below' → MayCorrect P v ask kids w → MayCorrect P v ask kids' w
  may_by v w ask kids below kids' below' change (inl still) = inl still
  may_by v w ask kids below kids' below' change (inr corrected) =
      inr (corrected ∙ ap (λ (x : Facts). rescrolled (render_role_of v.look) (Some x.scrolled) v.scroll) (facts_at v ask kids below kids' below' change))

  below_by : (v : LayoutNode) (ask : Ask) (kids below kids' below' : Forest LayoutNode)
      → ((asks : List (Option Ask)) → AreCorrected P back asks kids below → ItemsChange P kids below kids' below' → AreCorrected P back asks kids' below')
      → ChangeAt P v kids below kids' below' → AreCorrected P back (asks_at P v ask kids (objects P kids)) kids below → AreCorrected P back (asks_at P v ask kids' (objects P kids')) kids' below'
  below_by v ask kids below kids' below' further (inl list) corrected =
      subst (λ (f : Forest LayoutNode). AreCorrected P back (asks_at P v ask kids' (objects P kids')) kids' f) list.1 (corrected_self P back (asks_at P v ask kids' (objects P kids')) kids')
  below_by v ask kids below kids' below' further (inr other) corrected =
      let same = first_items P kids below kids' below' other.0 in
      subst (λ (xs : List (Option Ask)). AreCorrected P back xs kids' below') (over_asks P v ask kids kids' (items_told P kids kids' same) other.1 (items_objects P law kids kids' same))
      (further (asks_at P v ask kids (objects P kids)) corrected other.0)

  -- a node is corrected so, above these
  abbrev NodeAt : Option Ask → LayoutNode → Forest LayoutNode → LayoutNode → Forest LayoutNode → Type 0
  NodeAt o v kids w below = CorrectedAs o (λ ask. IsCorrected P back ask v kids w below) (IsLeft v kids w below)

  one_items : (o : Option Ask) (v w : LayoutNode) (kids below kids' below' : Forest LayoutNode)
      → ((asks : List (Option Ask)) → AreCorrected P back asks kids below → ItemsChange P kids below kids' below' → AreCorrected P back asks kids' below')
      → ChangeAt P v kids below kids' below' → NodeAt o v kids w below → NodeAt o v kids' w below'
  one_items None v w kids below kids' below' further change corrected = record { value = corrected.value; inside = kids_by P v kids below kids' below' corrected.inside (left_items P kids below kids' below') change }
  one_items (Some ask) v w kids below kids' below' further change corrected = (
    may_by v w ask kids below kids' below' change corrected.0,
    held_by (back v.look (Some ask)) (λ e. kids_by P v kids below kids' below' e (left_items P kids below kids' below') change)
        (below_by v ask kids below kids' below' further change) corrected.1,
  )

  pub corrected_items : (asks : List (Option Ask)) (f g f' g' : Forest LayoutNode) → AreCorrected P back asks f g → ItemsChange P f g f' g' → AreCorrected P back asks f' g'
  corrected_items asks none none none none corrected change = tt
  corrected_items asks (tree h v kids more) (tree k w below rest) (tree i x kids' more') (tree j y below' rest') corrected change = (
    change.0,
    ap member (sym change.1) ∙ corrected.1 ∙ ap member change.2,
    subst (λ (u : LayoutNode). NodeAt (ask_of asks) x kids' u below') change.2
        (subst (λ (u : LayoutNode). NodeAt (ask_of asks) u kids' w below') change.1
        (one_items (ask_of asks) v w kids below kids' below' (λ xs. corrected_items xs kids below kids' below') change.3 corrected.2)),
    corrected_items (later asks) more rest more' rest' corrected.3 change.4,
  )
  corrected_items asks _ _ _ _ corrected change = absurd change
