-- The users of a delegate.
use Rattle.std.proofs.Common.{◌≡◌, ◌↔◌, ap, refl, sym, subst, ◌∙◌, ℕ, Bool, true, false, ◌||◌, Option, Some, None, IsSome, option_map, option_and_then, List, [], ◌∷◌, get_or, arith, inl, inr}
use Rattle.std.proofs.lemmas.Bool.{cases_Bool, false≢true, true≢false, or_right}
use Rattle.std.proofs.lemmas.List.Elements.{All-nil, All-cons}
use Rattle.std.specs.List.{All}
use Rattle.fx_handles.specs.declared.Handle.{Handle}
use Rattle.fx_handles.specs.Handle.{same, times, Among}
use Rattle.fx_handles.specs.HandleLaws.{cases_same, same_self, same-ne, times_here, times_there}
use Rattle.node_tree.specs.Forest.{TreeNode}
use Rattle.node_tree.specs.Tree.{Tree, IsNode, node_at}
use Rattle.widget_model.specs.Plain.{look_of}
use Rattle.layout_form.specs.Layout.{delegate_of}
use Rattle.tree_marks.specs.Marks.{listed}
use Rattle.render_tree.specs.Object.{RenderObject, object_look}
use Rattle.render_tree.specs.Tree.{object_at}
use Rattle.render_tree.specs.Users.{is_called, uses}
use Rattle.screen_owner.specs.Changes.{BuiltNode, built_node, SameBuilt}

pub among_listed : (k : Handle) (hs : List Handle) → Among k hs → listed k hs ≡ true
among_listed k [] among = absurd (omega arith)
among_listed k (h ∷ hs) among = elim (cases_same k h) [
  | inl e ↦ ap (λ (x : Handle). same k x || listed k hs) (sym e) ∙ ap (λ (b : Bool). b || listed k hs) (same_self k)
  | inr ne ↦ or_right (same k h) (listed k hs) (among_listed k hs (omega (arith, among, times_there k h hs (λ e. ne (sym e)))))
]

use_live : (name : List ℕ) (x : Option (TreeNode RenderObject)) → is_called name (option_and_then (λ (o : RenderObject). delegate_of (object_look o)) (option_map (λ (n : TreeNode RenderObject). n.value) x)) ≡ true → IsSome x
use_live name None e = absurd (false≢true e)
use_live name (Some n) e = refl

listed_among : (k : Handle) (hs : List Handle) → listed k hs ≡ true → Among k hs
listed_among k [] there = absurd (false≢true there)
listed_among k (h ∷ hs) there = elim (cases_same k h) [
  | inl e ↦
      let here = times_here k hs in
      let first : times k (h ∷ hs) ≡ times k (k ∷ hs) = ap (λ (x : Handle). times k (x ∷ hs)) (sym e) in
      omega (arith, here, first)
  | inr ne ↦
      let later = listed_among k hs (sym (ap (λ (b : Bool). b || listed k hs) (same-ne k h ne)) ∙ there) in
      let more = times_there k h hs (λ e. ne (sym e)) in
      omega (arith, later, more)
]

all_of : (P : Handle → Type 0) (hs : List Handle) → ((k : Handle) → Among k hs → P k) → All P hs
all_of P [] each = All-nil P
all_of P (h ∷ hs) each = All-cons P h hs (each h (omega (arith, times_here h hs))) (all_of P hs (λ k among. each k (more k among)))
  where
    more : (k : Handle) → Among k hs → Among k (h ∷ hs)
    more k among = elim (cases_same h k) [
      | inl e ↦ subst (λ (x : Handle). Among x (h ∷ hs)) e (omega (arith, times_here h hs))
      | inr ne ↦ omega (arith, among, times_there k h hs ne)
    ]

module _ (t : Tree RenderObject) (name : List ℕ) (hs : List Handle) (users : (k : Handle) → Among k hs ↔ (uses t name k ≡ true)) where
  -- they are live
  pub users_live : All (IsNode t) hs
  users_live = all_of (IsNode t) hs (λ k among. use_live name (node_at t k) ((users k).0 among))

  -- nobody else uses it
  pub unlisted : (k : Handle) → listed k hs ≡ false → uses t name k ≡ false
  unlisted k off = elim (cases_Bool (uses t name k)) [
    | inl used ↦ absurd (true≢false (sym (among_listed k hs ((users k).1 used)) ∙ off))
    | inr unused ↦ unused
  ]

  pub listed_is : (k : Handle) → listed k hs ≡ uses t name k
  listed_is k = elim (cases_Bool (listed k hs)) [
    | inl there ↦ there ∙ sym ((users k).0 (listed_among k hs there))
    | inr off ↦ off ∙ sym (unlisted k off)
  ]

  pub user_listed : (k : Handle) → uses t name k ≡ true → listed k hs ≡ true
  user_listed k used = among_listed k hs ((users k).1 used)

-- ---- the same nodes use it where a build knows the same of each

delegate_read : (x : Option RenderObject) → option_and_then (λ (b : BuiltNode). delegate_of (look_of b.widget)) (option_map built_node x) ≡ option_and_then (λ (o : RenderObject). delegate_of (object_look o)) x
delegate_read None = refl
delegate_read (Some o) = refl

pub same_users : (old new : Tree RenderObject) → SameBuilt old new → (name : List ℕ) (k : Handle) → uses new name k ≡ uses old name k
same_users old new built name k =
    ap (is_called name) (sym (delegate_read (object_at new k)) ∙ (ap (option_and_then (λ (b : BuiltNode). delegate_of (look_of b.widget))) (built k) ∙ delegate_read (object_at old k)))

live_read : (x : Option (TreeNode RenderObject)) (y : Option (TreeNode RenderObject))
    → option_map built_node (option_map (λ (n : TreeNode RenderObject). n.value) y) ≡ option_map built_node (option_map (λ (n : TreeNode RenderObject). n.value) x) → IsSome x → IsSome y
live_read None y e live = absurd (cc)
live_read (Some n) None e live = absurd (cc)
live_read (Some n) (Some m) e live = refl

pub all_live : (old new : Tree RenderObject) → SameBuilt old new → (hs : List Handle) → All (IsNode old) hs → All (IsNode new) hs
all_live old new built hs all = λ k d low. live_read (node_at old (get_or hs k d)) (node_at new (get_or hs k d)) (built (get_or hs k d)) (all k d low)
