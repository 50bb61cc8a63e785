-- Viewports that stand where full layout corrects them: full layout gives the same.
use Rattle.std.proofs.Common.{◌≡◌, ap, refl, sym, subst, ◌∙◌, ◌⊎◌, inl, inr, ℕ, Bool, true, false, Option, Some, None, List}
use Rattle.fx_geom.specs.declared.shapes.Offset.{Offset}
use Rattle.node_tree.specs.Forest.{Forest}
use Rattle.node_tree.specs.Forest.Forest.{none, tree}
use Rattle.plain_tree.specs.declared.laid.Frame.{Frame}
use Rattle.plain_tree.specs.declared.role.RenderRole.{RenderRole}
use Rattle.plain_tree.specs.declared.role.RenderRole.TheVariants.{Composes, Shares, Places, Line, Pile, Lazy, Window, Plain}
use Rattle.plain_tree.specs.Laid.{laid as laid_tree, Laid, Laids, more_laids}
use Rattle.plain_tree.specs.Offsets.{rescrolled}
use Rattle.plain_tree.specs.RenderRole.{render_role_of}
use Rattle.layout_form.specs.declared.asks.Ask.{Ask}
use Rattle.layout_walk.specs.Node.{LayoutNode, NodeMember, member, members, tellings}
use Rattle.layout_walk.specs.Rule.{LayoutParts, RuleGift, asks_by, made_by, scroll_after, ask_of, later, Lawful}
use Rattle.layout_walk.specs.Full.{asks_at, made_at, objects, place_of, past, laid_first, laid_node, laid_trees}
use Rattle.layout_walk.specs.Here.{Backs}
use Rattle.layout_walk.specs.Walk.{SameMembers, IsLeft, HeldOr, MayCorrect, CorrectedAs, AreCorrected, IsCorrected}
use Rattle.layout_walk.proofs.Same.{same_self, same_made, same_asks, same_objects}

pub twice_scrolled : (role : RenderRole) (a b : Option ℕ) (s : ℕ) (n : ℕ) → b ≡ Some n → rescrolled role b (rescrolled role a s) ≡ rescrolled role b s
twice_scrolled Window a b s n e = ap (λ (o : Option ℕ). rescrolled Window o (rescrolled Window a s)) e ∙ ap (λ (o : Option ℕ). rescrolled Window o s) (sym e)
twice_scrolled Composes a b s n e = refl
twice_scrolled (Shares flex tight) a b s n e = refl
twice_scrolled (Places placed) a b s n e = refl
twice_scrolled Line a b s n e = refl
twice_scrolled Pile a b s n e = refl
twice_scrolled Lazy a b s n e = refl
twice_scrolled Plain a b s n e = refl

-- ---- nothing is corrected

true_false : true ≡ false → ⊥
true_false e = cc

pub either_way : {A B : Type 0} (b : Bool) → A → B → HeldOr b A B
either_way true held laid = held
either_way false held laid = laid

pub in_either : {A B C : Type 0} (b : Bool) → (A → C) → (B → C) → HeldOr b A B → C
in_either true held laid is = held is
in_either false held laid is = laid is

pub not_held : (A : Type 0) {B : Type 0} (b : Bool) → b ≡ false → B → HeldOr b A B
not_held A true e laid = absurd (true_false e)
not_held A false e laid = laid

pub held_by : {A B C D : Type 0} (b : Bool) → (A → C) → (B → D) → HeldOr b A B → HeldOr b C D
held_by true held laid is = held is
held_by false held laid is = laid is

self_by : (P : LayoutParts) (back : Backs) (o : Option Ask) (v : LayoutNode) (kids : Forest LayoutNode) → ((asks : List (Option Ask)) → AreCorrected P back asks kids kids)
    → CorrectedAs o (λ ask. IsCorrected P back ask v kids v kids) (IsLeft v kids v kids)
self_by P back None v kids self = record { value = refl; inside = refl }
self_by P back (Some ask) v kids self = (inl refl, either_way (back v.look (Some ask)) refl (self (asks_at P v ask kids (objects P kids))))

pub corrected_self : (P : LayoutParts) (back : Backs) (asks : List (Option Ask)) (f : Forest LayoutNode) → AreCorrected P back asks f f
corrected_self P back asks none = tt
corrected_self P back asks (tree h v kids rest) = (refl, refl, self_by P back (ask_of asks) v kids (λ xs. corrected_self P back xs kids), corrected_self P back (later asks) rest)

pub trans_held : {A B C D E F : Type 0} (b c : Bool) → b ≡ c → (A → C → E) → (B → D → F) → HeldOr b A B → HeldOr c C D → HeldOr b E F
trans_held true true e held laid one two = held one two
trans_held true false e held laid one two = absurd (true_false e)
trans_held false true e held laid one two = absurd (true_false (sym e))
trans_held false false e held laid one two = laid one two

-- ---- the members are the same

same_by : (P : LayoutParts) (back : Backs) (o : Option Ask) (v w : LayoutNode) (kids below : Forest LayoutNode) → ((asks : List (Option Ask)) → AreCorrected P back asks kids below → SameMembers kids below)
    → CorrectedAs o (λ ask. IsCorrected P back ask v kids w below) (IsLeft v kids w below) → SameMembers kids below
same_by P back None v w kids below same corrected = subst (λ (f : Forest LayoutNode). SameMembers kids f) (sym corrected.inside) (same_self kids)
same_by P back (Some ask) v w kids below same corrected =
    in_either (back v.look (Some ask)) (λ e. subst (λ (f : Forest LayoutNode). SameMembers kids f) (sym e) (same_self kids)) (same (asks_at P v ask kids (objects P kids))) corrected.1

pub corrected_same : (P : LayoutParts) (back : Backs) (asks : List (Option Ask)) (f g : Forest LayoutNode) → AreCorrected P back asks f g → SameMembers f g
corrected_same P back asks none none corrected = tt
corrected_same P back asks none (tree k w below rest) corrected = absurd corrected
corrected_same P back asks (tree h v kids more) none corrected = absurd corrected
corrected_same P back asks (tree h v kids more) (tree k w below rest) corrected =
    (corrected.0, corrected.1, same_by P back (ask_of asks) v w kids below (λ xs. corrected_same P back xs kids below) corrected.2, corrected_same P back (later asks) more rest corrected.3)

-- ---- full layout gives the same

module _ (P : LayoutParts) (law : Lawful P) (back : Backs) where
  -- the rule of a node, where it is scrolled so, of the members that it has afterwards
  abbrev made_with : LayoutNode → ℕ → Ask → Forest LayoutNode → RuleGift
  made_with w scroll ask below = made_by P (member w) scroll ask (P.liked w.look ask (members below)) (tellings below) (objects P below)

  abbrev asks_with : LayoutNode → ℕ → Ask → Forest LayoutNode → List (Option Ask)
  asks_with w scroll ask below = asks_by P (member w) scroll ask (P.liked w.look ask (members below)) (tellings below) (objects P below)

  before_made : (v w : LayoutNode) (ask : Ask) (kids below : Forest LayoutNode) → member v ≡ member w → SameMembers kids below
      → made_at P v ask kids (objects P kids) ≡ made_with w v.scroll ask below
  before_made v w ask kids below is same =
      ap (λ (gs : List (Ask → Frame)). made_at P v ask kids gs) (same_objects P law kids below same) ∙ same_made P v w v.scroll ask kids below (objects P below) is same

  before_asks : (v w : LayoutNode) (ask : Ask) (kids below : Forest LayoutNode) → member v ≡ member w → SameMembers kids below
      → asks_at P v ask kids (objects P kids) ≡ asks_with w v.scroll ask below
  before_asks v w ask kids below is same =
      ap (λ (gs : List (Ask → Frame)). asks_at P v ask kids gs) (same_objects P law kids below same) ∙ same_asks P v w v.scroll ask kids below (objects P below) is same

  -- where it stands scrolled then
  abbrev Stands : LayoutNode → ℕ → Ask → Forest LayoutNode → Type 0
  Stands w scroll ask below = (w.scroll ≡ scroll) ⊎ (w.scroll ≡ scroll_after w.look (made_with w scroll ask below) scroll)

  stands_of : (v w : LayoutNode) (ask : Ask) (kids below : Forest LayoutNode) → member v ≡ member w → SameMembers kids below → MayCorrect P v ask kids w → Stands w v.scroll ask below
  stands_of v w ask kids below is same (inl still) = inl still
  stands_of v w ask kids below is same (inr corrected) =
      inr (corrected
      ∙ ap (λ (m : NodeMember). scroll_after m.look (made_at P v ask kids (objects P kids)) v.scroll) is
      ∙ ap (λ (g : RuleGift). scroll_after w.look g v.scroll) (before_made v w ask kids below is same))

  stands_made : (w : LayoutNode) (scroll : ℕ) (ask : Ask) (below : Forest LayoutNode) → Stands w scroll ask below → made_with w scroll ask below ≡ made_with w w.scroll ask below
  stands_made w scroll ask below (inl still) = ap (λ (n : ℕ). made_with w n ask below) (sym still)
  stands_made w scroll ask below (inr corrected) =
      sym (law.stays_made (member w) scroll ask (P.liked w.look ask (members below)) (tellings below) (objects P below)) ∙ ap (λ (n : ℕ). made_with w n ask below) (sym corrected)

  stands_asks : (w : LayoutNode) (scroll : ℕ) (ask : Ask) (below : Forest LayoutNode) → Stands w scroll ask below → asks_with w scroll ask below ≡ asks_with w w.scroll ask below
  stands_asks w scroll ask below (inl still) = ap (λ (n : ℕ). asks_with w n ask below) (sym still)
  stands_asks w scroll ask below (inr corrected) =
      sym (law.stays_asked (member w) scroll ask (P.liked w.look ask (members below)) (tellings below) (objects P below)) ∙ ap (λ (n : ℕ). asks_with w n ask below) (sym corrected)

  pub corrected_made : (v w : LayoutNode) (ask : Ask) (kids below : Forest LayoutNode) → member v ≡ member w → SameMembers kids below → MayCorrect P v ask kids w
      → made_at P v ask kids (objects P kids) ≡ made_at P w ask below (objects P below)
  corrected_made v w ask kids below is same may =
      before_made v w ask kids below is same ∙ stands_made w v.scroll ask below (stands_of v w ask kids below is same may)

  pub corrected_asks : (v w : LayoutNode) (ask : Ask) (kids below : Forest LayoutNode) → member v ≡ member w → SameMembers kids below → MayCorrect P v ask kids w
      → asks_at P v ask kids (objects P kids) ≡ asks_at P w ask below (objects P below)
  corrected_asks v w ask kids below is same may =
      before_asks v w ask kids below is same ∙ stands_asks w v.scroll ask below (stands_of v w ask kids below is same may)

  laid_by : (v w : LayoutNode) (ask : Ask) (kids below : Forest LayoutNode) → member v ≡ member w → SameMembers kids below → MayCorrect P v ask kids w
      → ((places : List Offset) → laid_trees P (asks_at P v ask kids (objects P kids)) places kids ≡ laid_trees P (asks_at P v ask kids (objects P kids)) places below)
      → laid_node P v ask kids ≡ laid_node P w ask below
  laid_by v w ask kids below is same may trees =
      let made = corrected_made v w ask kids below is same may in
      let asks = corrected_asks v w ask kids below is same may in
      ap (λ (ls : Laids). laid_tree v.number v.look (made_at P v ask kids (objects P kids)).facts ls) (trees (made_at P v ask kids (objects P kids)).places)
      ∙ ap (λ (xs : List (Option Ask)). laid_tree v.number v.look (made_at P v ask kids (objects P kids)).facts (laid_trees P xs (made_at P v ask kids (objects P kids)).places below)) asks
      ∙ ap (λ (m : RuleGift). laid_tree v.number v.look m.facts (laid_trees P (asks_at P w ask below (objects P below)) m.places below)) made
      ∙ ap (λ (m : NodeMember). laid_tree m.number m.look (made_at P w ask below (objects P below)).facts
      (laid_trees P (asks_at P w ask below (objects P below)) (made_at P w ask below (objects P below)).places below)) is

  first_by : (o : Option Ask) (v w : LayoutNode) (kids below : Forest LayoutNode) (at : Offset) (ls : Laids) → member v ≡ member w
      → ((asks : List (Option Ask)) (places : List Offset) → AreCorrected P back asks kids below → laid_trees P asks places kids ≡ laid_trees P asks places below)
      → CorrectedAs o (λ ask. IsCorrected P back ask v kids w below) (IsLeft v kids w below)
      → laid_first o (λ ask. laid_node P v ask kids) at ls ≡ laid_first o (λ ask. laid_node P w ask below) at ls
  first_by None v w kids below at ls is trees corrected = refl
  first_by (Some ask) v w kids below at ls is trees corrected =
      let asks = asks_at P v ask kids (objects P kids) in
      ap (λ (l : Laid). more_laids at l ls)
      (laid_by v w ask kids below is (same_by P back (Some ask) v w kids below (λ xs. corrected_same P back xs kids below) corrected) corrected.0
      (λ places. in_either (back v.look (Some ask)) (λ e. ap (λ (f : Forest LayoutNode). laid_trees P asks places f) (sym e)) (trees asks places) corrected.1))

  pub corrected_trees : (asks : List (Option Ask)) (places : List Offset) (f g : Forest LayoutNode) → AreCorrected P back asks f g → laid_trees P asks places f ≡ laid_trees P asks places g
  unfolding laid_trees
  corrected_trees asks places none none corrected = refl
  corrected_trees asks places none (tree k w below rest) corrected = absurd corrected
  corrected_trees asks places (tree h v kids more) none corrected = absurd corrected
  corrected_trees asks places (tree h v kids more) (tree k w below rest) corrected =
      first_by (ask_of asks) v w kids below (place_of places) (laid_trees P (later asks) (past (ask_of asks) places) more) corrected.1 (λ xs ps. corrected_trees xs ps kids below) corrected.2
      ∙ ap (λ (ls : Laids). laid_first (ask_of asks) (λ ask. laid_node P w ask below) (place_of places) ls)
      (corrected_trees (later asks) (past (ask_of asks) places) more rest corrected.3)

  pub corrected_node : (v w : LayoutNode) (ask : Ask) (kids below : Forest LayoutNode) → member v ≡ member w → IsCorrected P back ask v kids w below → laid_node P v ask kids ≡ laid_node P w ask below
  corrected_node v w ask kids below is corrected =
      let asks = asks_at P v ask kids (objects P kids) in
      laid_by v w ask kids below is (same_by P back (Some ask) v w kids below (λ xs. corrected_same P back xs kids below) corrected) corrected.0
      (λ places. in_either (back v.look (Some ask)) (λ e. ap (λ (f : Forest LayoutNode). laid_trees P asks places f) (sym e)) (corrected_trees asks places kids below) corrected.1)

  -- ---- corrected twice

  may_trans : (v w u : LayoutNode) (ask : Ask) (kids below : Forest LayoutNode) → member v ≡ member w → SameMembers kids below
      → MayCorrect P v ask kids w → MayCorrect P w ask below u → MayCorrect P v ask kids u
  may_trans v w u ask kids below is same one (inl still) = may_still one
    where
      may_still : MayCorrect P v ask kids w → MayCorrect P v ask kids u
      may_still (inl e) = inl (still ∙ e)
      may_still (inr e) = inr (still ∙ e)
  may_trans v w u ask kids below is same one (inr corrected) = inr (corrected ∙ again one)
    where
      made : made_at P v ask kids (objects P kids) ≡ made_at P w ask below (objects P below)
      made = corrected_made v w ask kids below is same one

      same_look : scroll_after w.look (made_at P w ask below (objects P below)) w.scroll ≡ scroll_after v.look (made_at P v ask kids (objects P kids)) w.scroll
      same_look = ap (λ (m : NodeMember). scroll_after m.look (made_at P w ask below (objects P below)) w.scroll) (sym is) ∙ ap (λ (g : RuleGift). scroll_after v.look g w.scroll) (sym made)

      again : MayCorrect P v ask kids w → scroll_after w.look (made_at P w ask below (objects P below)) w.scroll ≡ scroll_after v.look (made_at P v ask kids (objects P kids)) v.scroll
      again (inl e) = same_look ∙ ap (λ (n : ℕ). scroll_after v.look (made_at P v ask kids (objects P kids)) n) e
      again (inr e) =
          same_look
          ∙ ap (λ (n : ℕ). scroll_after v.look (made_at P v ask kids (objects P kids)) n) e
          ∙ twice_scrolled (render_role_of v.look) (Some (made_at P v ask kids (objects P kids)).facts.scrolled) (Some (made_at P v ask kids (objects P kids)).facts.scrolled) v.scroll
          (made_at P v ask kids (objects P kids)).facts.scrolled refl

  trans_by : (o : Option Ask) (v w u : LayoutNode) (kids below under : Forest LayoutNode) → member v ≡ member w
      → ((asks : List (Option Ask)) → AreCorrected P back asks kids below → AreCorrected P back asks below under → AreCorrected P back asks kids under)
      → SameMembers kids below → SameMembers below under
      → CorrectedAs o (λ ask. IsCorrected P back ask v kids w below) (IsLeft v kids w below)
      → CorrectedAs o (λ ask. IsCorrected P back ask w below u under) (IsLeft w below u under)
      → CorrectedAs o (λ ask. IsCorrected P back ask v kids u under) (IsLeft v kids u under)
  trans_by None v w u kids below under is trans same after one two = record { value = two.value ∙ one.value; inside = two.inside ∙ one.inside }
  trans_by (Some ask) v w u kids below under is trans same after one two = (
    may_trans v w u ask kids below is same one.0 two.0,
    trans_held (back v.look (Some ask)) (back w.look (Some ask)) (ap (λ (m : NodeMember). back m.look (Some ask)) is)
        (λ first next. next ∙ first)
        (λ first next. trans (asks_at P v ask kids (objects P kids)) first
        (subst (λ (xs : List (Option Ask)). AreCorrected P back xs below under) (sym (corrected_asks v w ask kids below is same one.0)) next)) one.1 two.1,
  )

  pub corrected_trans : (asks : List (Option Ask)) (f g k : Forest LayoutNode) → AreCorrected P back asks f g → AreCorrected P back asks g k → AreCorrected P back asks f k
  corrected_trans asks none none none one two = tt
  corrected_trans asks none none (tree j u under last) one two = absurd two
  corrected_trans asks none (tree k w below rest) g one two = absurd one
  corrected_trans asks (tree h v kids more) none g one two = absurd one
  corrected_trans asks (tree h v kids more) (tree k w below rest) none one two = absurd two
  corrected_trans asks (tree h v kids more) (tree k w below rest) (tree j u under last) one two =
      let same = corrected_same P back asks (tree h v kids more) (tree k w below rest) one in
      let after = corrected_same P back asks (tree k w below rest) (tree j u under last) two in (
        one.0 ∙ two.0,
        one.1 ∙ two.1,
        trans_by (ask_of asks) v w u kids below under one.1 (λ xs. corrected_trans xs kids below under) same.2 after.2 one.2 two.2,
        corrected_trans (later asks) more rest last one.3 two.3,
      )

  pub node_trans : (ask : Ask) (v w u : LayoutNode) (kids below under : Forest LayoutNode) → member v ≡ member w → SameMembers kids below → SameMembers below under
      → IsCorrected P back ask v kids w below → IsCorrected P back ask w below u under → IsCorrected P back ask v kids u under
  node_trans ask v w u kids below under is same after one two =
      trans_by (Some ask) v w u kids below under is (λ xs. corrected_trans xs kids below under) same after one two
