-- Full layout sees members alone, but for the offsets of Viewports; frames don't see these either.
use Rattle.std.proofs.Common.{◌≡◌, ap, refl, ◌∙◌, ℕ, List, ◌∷◌}
use Rattle.node_tree.specs.Forest.{Forest}
use Rattle.node_tree.specs.Forest.Forest.{none, tree}
use Rattle.plain_tree.specs.declared.laid.Frame.{Frame}
use Rattle.plain_tree.specs.declared.render.ParentData.{ParentData}
use Rattle.plain_tree.specs.Render.{render, Renders, more_renders}
use Rattle.layout_form.specs.declared.asks.Ask.{Ask}
use Rattle.layout_walk.specs.Node.{LayoutNode, NodeMember, member, members, tellings}
use Rattle.layout_walk.specs.Rule.{LayoutParts, made_by, asks_by, Lawful, RuleGift}
use Rattle.layout_walk.specs.Full.{made_at, objects}
use Rattle.layout_walk.specs.Walk.{SameMembers}

pub same_self : (f : Forest LayoutNode) → SameMembers f f
same_self none = tt
same_self (tree h v kids rest) = (refl, refl, same_self kids, same_self rest)

abbrev rendered : NodeMember → Renders → Renders → Renders
rendered m kids rest = more_renders (render m.number m.look m.told m.scroll m.count kids) rest

pub same_members : (f g : Forest LayoutNode) → SameMembers f g → members f ≡ members g
same_members none none same = refl
same_members none (tree k w below rest) same = absurd same
same_members (tree h v kids more) none same = absurd same
same_members (tree h v kids more) (tree k w below rest) same =
    ap (λ (m : NodeMember). rendered m (members kids) (members more)) same.1
    ∙ ap (λ (rs : Renders). rendered (member w) rs (members more)) (same_members kids below same.2)
    ∙ ap (λ (rs : Renders). rendered (member w) (members below) rs) (same_members more rest same.3)

pub same_tellings : (f g : Forest LayoutNode) → SameMembers f g → tellings f ≡ tellings g
same_tellings none none same = refl
same_tellings none (tree k w below rest) same = absurd same
same_tellings (tree h v kids more) none same = absurd same
same_tellings (tree h v kids more) (tree k w below rest) same =
    ap (λ (m : NodeMember). m.told ∷ tellings more) same.1 ∙ ap (λ (ds : List ParentData). w.told ∷ ds) (same_tellings more rest same.3)

pub same_trans : (f g k : Forest LayoutNode) → SameMembers f g → SameMembers g k → SameMembers f k
same_trans none none none one two = tt
same_trans none none (tree k w below rest) one two = absurd two
same_trans none (tree k w below rest) g one two = absurd one
same_trans (tree h v kids more) none g one two = absurd one
same_trans (tree h v kids more) (tree k w below rest) none one two = absurd two
same_trans (tree h v kids more) (tree k w below rest) (tree j u under last) one two =
    (one.0 ∙ two.0, one.1 ∙ two.1, same_trans kids below under one.2 two.2, same_trans more rest last one.3 two.3)

-- what a rule is given of a node, where it is scrolled as it is said
pub same_made : (P : LayoutParts) (v w : LayoutNode) (scroll : ℕ) (ask : Ask) (kids below : Forest LayoutNode) (gs : List (Ask → Frame))
    → member v ≡ member w → SameMembers kids below
    → made_by P (member v) scroll ask (P.liked v.look ask (members kids)) (tellings kids) gs
    ≡ made_by P (member w) scroll ask (P.liked w.look ask (members below)) (tellings below) gs
same_made P v w scroll ask kids below gs same kept =
    ap (λ (m : NodeMember). made_by P m scroll ask (P.liked m.look ask (members kids)) (tellings kids) gs) same
    ∙ ap (λ (rs : Renders). made_by P (member w) scroll ask (P.liked w.look ask rs) (tellings kids) gs) (same_members kids below kept)
    ∙ ap (λ (ds : List ParentData). made_by P (member w) scroll ask (P.liked w.look ask (members below)) ds gs) (same_tellings kids below kept)

pub same_asks : (P : LayoutParts) (v w : LayoutNode) (scroll : ℕ) (ask : Ask) (kids below : Forest LayoutNode) (gs : List (Ask → Frame))
    → member v ≡ member w → SameMembers kids below
    → asks_by P (member v) scroll ask (P.liked v.look ask (members kids)) (tellings kids) gs
    ≡ asks_by P (member w) scroll ask (P.liked w.look ask (members below)) (tellings below) gs
same_asks P v w scroll ask kids below gs same kept =
    ap (λ (m : NodeMember). asks_by P m scroll ask (P.liked m.look ask (members kids)) (tellings kids) gs) same
    ∙ ap (λ (rs : Renders). asks_by P (member w) scroll ask (P.liked w.look ask rs) (tellings kids) gs) (same_members kids below kept)
    ∙ ap (λ (ds : List ParentData). asks_by P (member w) scroll ask (P.liked w.look ask (members below)) ds gs) (same_tellings kids below kept)

-- the frame of a node in each ask
pub same_frame : (P : LayoutParts) → Lawful P → (v w : LayoutNode) (ask : Ask) (kids below : Forest LayoutNode) (gs hs : List (Ask → Frame))
    → member v ≡ member w → SameMembers kids below → gs ≡ hs
    → (made_at P v ask kids gs).facts.frame ≡ (made_at P w ask below hs).facts.frame
same_frame P law v w ask kids below gs hs same kept alike =
    ap (λ (xs : List (Ask → Frame)). (made_at P v ask kids xs).facts.frame) alike
    ∙ ap (λ (m : RuleGift). m.facts.frame) (same_made P v w v.scroll ask kids below hs same kept)
    ∙ law.frames_unscrolled (member w) v.scroll w.scroll ask (P.liked w.look ask (members below)) (tellings below) hs

pub same_objects : (P : LayoutParts) → Lawful P → (f g : Forest LayoutNode) → SameMembers f g → objects P f ≡ objects P g
unfolding objects
same_objects P law none none same = refl
same_objects P law none (tree k w below rest) same = absurd same
same_objects P law (tree h v kids more) none same = absurd same
same_objects P law (tree h v kids more) (tree k w below rest) same =
    λ at. (λ ask. same_frame P law v w ask kids below (objects P kids) (objects P below) same.1 same.2 (same_objects P law kids below same.2) at)
    ∷ same_objects P law more rest same.3 at
