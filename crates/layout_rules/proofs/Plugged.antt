-- Whether delegates are plugged, as a walk leaves it.
use Rattle.std.proofs.Common.{◌≡◌, ap, refl, sym, subst, ◌∙◌, inl, inr, ◌⊎◌, ℕ, Bool, true, false, cond, if◌then◌else◌, Option, Some, None, option_map, List, [], arith}
use Rattle.fx_geom.specs.declared.shapes.Offset.{Offset}
use Rattle.fx_handles.specs.declared.Handle.{Handle}
use Rattle.fx_handles.specs.HandleLaws.{cases_same, same-ne}
use Rattle.delegates.specs.Table.{Plug}
use Rattle.node_tree.specs.Forest.{TreeNode, Forest, count, tops}
use Rattle.node_tree.specs.Forest.Forest.{none, tree}
use Rattle.node_tree.specs.Tree.{Tree, node_at, parent_at}
use Rattle.node_tree.proofs.ForestLemmas.{same_Some}
use Rattle.widget_model.specs.Look.{Look}
use Rattle.plain_tree.specs.declared.render.ParentData.{ParentData}
use Rattle.layout_form.specs.declared.asks.Ask.{Ask}
use Rattle.layout_form.specs.declared.asks.Ask.TheVariants.{AsBox, AsSliver}
use Rattle.layout_form.specs.Layout.{is_plugged, delegate_of}
use Rattle.layout_form.specs.Object.{Setting}
use Rattle.render_tree.specs.Object.{RenderObject, object_look}
use Rattle.layout_walk.specs.Node.{LayoutNode}
use Rattle.layout_walk.specs.Walk.{stood_as, held_back}
use Rattle.layout_rules.specs.declared.duties.Duty.{Duty}
use Rattle.layout_rules.specs.declared.duties.Course.{Course}
use Rattle.layout_rules.specs.declared.duties.Course.TheVariants.{Stay, Visit, Hold, Run, View, Open}
use Rattle.layout_rules.specs.Ending.{NodeOver, ended, held_gift, has_gift}
use Rattle.layout_rules.specs.Nodes.{seen_node, seen_at, SeenAt}
use Rattle.layout_rules.specs.Plugs.{IsPlugged, ArePlugged, KeepsPlugs}
use Rattle.layout_rules.specs.Reads.{state_or, state_at}
use Rattle.layout_rules.specs.Serving.{EndsAs}
use Rattle.layout_rules.specs.Turns.{Turns}
use Rattle.layout_rules.proofs.Below.{is_in, SameParts, ended_parts, part_in, below_part}
use Rattle.layout_rules.proofs.Turning.{none_some}
use Rattle.layout_rules.proofs.Walking.{Progress}

-- ---- one node

abbrev pub kind_plug : LayoutNode → Look × Bool
kind_plug v = (v.look, v.plugged)

pub stood_plug : (o : Option Ask) (at : Offset) (v : LayoutNode) → kind_plug (stood_as o at v) ≡ kind_plug v
stood_plug None at v = refl
stood_plug (Some ask) at v = refl

abbrev PlugOf : List Plug → LayoutNode → LayoutNode → Type 0
PlugOf ds v w = (v.look ≡ w.look) × ((w.plugged ≡ v.plugged) ⊎ (w.plugged ≡ is_plugged ds (delegate_of w.look)))

plug_self : (ds : List Plug) (x : Option (TreeNode LayoutNode)) → IsPlugged ds x x
plug_self ds None = tt
plug_self ds (Some n) = (refl, inl refl)

plug_same : (ds : List Plug) (x y : Option (TreeNode LayoutNode)) → part_in kind_plug stood_plug y ≡ part_in kind_plug stood_plug x → IsPlugged ds x y
plug_same ds None None e = tt
plug_same ds None (Some w) e = absurd (none_some (kind_plug w.value) (sym e))
plug_same ds (Some v) None e = absurd (none_some (kind_plug v.value) e)
plug_same ds (Some v) (Some w) e =
    let one : kind_plug w.value ≡ kind_plug v.value = same_Some e in (sym (ap (λ (p : Look × Bool). p.0) one), inl (ap (λ (p : Look × Bool). p.1) one))

plug_again : (ds : List Plug) (x y z : Option (TreeNode LayoutNode)) → IsPlugged ds x y → IsPlugged ds y z → IsPlugged ds x z
plug_again ds None None None a b = tt
plug_again ds None None (Some w) a b = absurd b
plug_again ds None (Some u) z a b = absurd a
plug_again ds (Some v) None z a b = absurd a
plug_again ds (Some v) (Some u) None a b = absurd b
plug_again ds (Some v) (Some u) (Some w) a b = (
  a.0 ∙ b.0,
  elim b.1 [
    | inl kept ↦ elim a.1 [
      | inl was ↦ inl (kept ∙ was)
      | inr now ↦ inr (kept ∙ (now ∙ ap (λ (l : Look). is_plugged ds (delegate_of l)) b.0))
    ]
    | inr now ↦ inr now
  ],
)

-- ---- a subtree that becomes another one

pub turned_plugs : (ds : List Plug) (old new : Tree RenderObject) (h : Handle) (v w : LayoutNode) (kids below : Forest LayoutNode) → SeenAt old h (tree h v kids none)
    → Turns old new h (tree h v kids none) (tree h w below none) → PlugOf ds v w → SameParts kind_plug stood_plug kids below → ArePlugged ds old new
turned_plugs ds old new h v w kids below seen turns plug same k = elim (cases_same h k) [
  | inl one ↦
      subst (λ (x : Handle). IsPlugged ds (seen_at old x) (seen_at new x)) one
      (subst (λ (x : Option (TreeNode LayoutNode)). IsPlugged ds x (seen_at new h)) (sym seen.stands.0)
      (subst (λ (x : Option (TreeNode LayoutNode)). IsPlugged ds (Some (record { parent = parent_at old h; children = tops kids; value = v })) x) (sym turns.stands.stands.0) plug))
  | inr ne ↦
      let own = ap (λ (b : Bool). cond {A = ℕ} b 1 0) (same-ne h k ne) in
      elim (is_in (count k kids)) [
        | inl out ↦
            subst (λ (x : Option (TreeNode LayoutNode)). IsPlugged ds (seen_at old k) x) (sym (turns.others k (λ inside. omega (arith, own, out, inside)))) (plug_self ds (seen_at old k))
        | inr into ↦
            plug_same ds (seen_at old k) (seen_at new k) (below_part kind_plug stood_plug (seen_at old) (seen_at new) (Some h) (Some h) kids below same seen.stands.1 turns.stands.stands.1 k into)
      ]
]

-- ---- a node whose course ends

held_plug : (s : Setting) (ask : Ask) (v : LayoutNode) (has : Bool) → PlugOf s.delegates v (if has then v else held_back v (held_gift s ask v))
held_plug s ask v true = (refl, inl refl)
held_plug s (AsBox b) v false = (refl, inr refl)
held_plug s (AsSliver b) v false = (refl, inr refl)

ended_plug : (s : Setting) (course : Course) (v : LayoutNode) (kids : Forest LayoutNode) (ds : List ParentData) (first rest : List (Option Ask))
    → PlugOf s.delegates v (ended s course v kids ds first rest).value
ended_plug s Stay v kids ds first rest = (refl, inl refl)
ended_plug s Visit v kids ds first rest = (refl, inl refl)
ended_plug s (Hold ask) v kids ds first rest = held_plug s ask v (has_gift s ask v)
ended_plug s (Run (AsBox b)) v kids ds first rest = (refl, inr refl)
ended_plug s (Run (AsSliver b)) v kids ds first rest = (refl, inr refl)
ended_plug s (View axis b) v kids ds first rest = (refl, inr refl)
ended_plug s (Open duty) v kids ds first rest = (refl, inl refl)

pub plugs_self : (ds : List Plug) (t : Tree RenderObject) → ArePlugged ds t t
plugs_self ds t k = plug_self ds (seen_at t k)

pub plugs_again : (ds : List Plug) (a b c : Tree RenderObject) → ArePlugged ds a b → ArePlugged ds b c → ArePlugged ds a c
plugs_again ds a b c one two k = plug_again ds (seen_at a k) (seen_at b k) (seen_at c k) (one k) (two k)

-- where a layout sees no change
pub plugs_seen : (ds : List Plug) (a b c : Tree RenderObject) → ((k : Handle) → seen_at c k ≡ seen_at b k) → ArePlugged ds a b → ArePlugged ds a c
plugs_seen ds a b c seen one k = subst (λ (x : Option (TreeNode LayoutNode)). IsPlugged ds (seen_at a k) x) (sym (seen k)) (one k)

pub alone_plugs : (s : Setting) (course : Course) (t t1 : Tree RenderObject) (h : Handle) (v : LayoutNode) (before after : ℕ) → SeenAt t h (tree h v none none)
    → EndsAs s course [] [] [] t t1 h before after → ArePlugged s.delegates t t1
alone_plugs s course t t1 h v before after seen ends =
    let e : NodeOver = ended s course v none [] [] [] in
    turned_plugs s.delegates t t1 h v e.value none e.kids seen (ends v none seen).0 (ended_plug s course v none [] [] []) (ended_parts kind_plug stood_plug s course v none [] [] [])

pub walk_plugs : (s : Setting) (outer : Bool) (course : Course) (t0 t1 t2 t3 : Tree RenderObject) (h : Handle) (i2 end2 steps1 steps2 steps3 : ℕ) (duties2 : List (Option Duty))
    (told : List ParentData) (first rest : List (Option Ask)) → ArePlugged s.delegates t0 t1 → Progress s outer t1 t2 h i2 end2 duties2 steps1 steps2 → ArePlugged s.delegates t1 t2
    → EndsAs s course told first rest t2 t3 h steps2 steps3 → ArePlugged s.delegates t0 t3
walk_plugs s outer course t0 t1 t2 t3 h i2 end2 steps1 steps2 steps3 duties2 told first rest one p2 two ends =
    let e : NodeOver = ended s course p2.value p2.kids told first rest in
    let last : ArePlugged s.delegates t2 t3 =
    turned_plugs s.delegates t2 t3 h p2.value e.value p2.kids e.kids p2.turns.stands (ends p2.value p2.kids p2.turns.stands).0 (ended_plug s course p2.value p2.kids told first rest)
    (ended_parts kind_plug stood_plug s course p2.value p2.kids told first rest) in
    plugs_again s.delegates t0 t1 t3 one (plugs_again s.delegates t1 t2 t3 two last)

-- ---- render nodes

pub keeps_plugs : (ds : List Plug) (old new : Tree RenderObject) → ArePlugged ds old new → KeepsPlugs ds old new
keeps_plugs ds old new plugs k w is = by (node_at old k) refl (node_at new k) refl
  where
    by : (x : Option (TreeNode RenderObject)) → node_at old k ≡ x → (y : Option (TreeNode RenderObject)) → node_at new k ≡ y
        → (w.plugged ≡ (state_at old k).plugged) ⊎ (w.plugged ≡ is_plugged ds (delegate_of (object_look w)))
    by x was None now = absurd (none_some w (sym (ap (option_map (λ (n : TreeNode RenderObject). n.value)) now) ∙ is))
    by None was (Some m) now = absurd (gone (plugs k))
      where
        gone : IsPlugged ds (seen_at old k) (seen_at new k) → ⊥
        gone = λ p. subst (λ (o : Option (TreeNode LayoutNode)). IsPlugged ds o (Some (seen_node m))) (ap (option_map seen_node) was)
            (subst (λ (o : Option (TreeNode LayoutNode)). IsPlugged ds (seen_at old k) o) (ap (option_map seen_node) now) p)
    by (Some n) was (Some m) now =
        let value : m.value ≡ w = same_Some (sym (ap (option_map (λ (x : TreeNode RenderObject). x.value)) now) ∙ is) in
        let state : (state_at old k).plugged ≡ n.value.plugged = ap (λ (x : Option (TreeNode RenderObject)). (state_or (option_map (λ (y : TreeNode RenderObject). y.value) x)).plugged) was in
        let here : IsPlugged ds (Some (seen_node n)) (Some (seen_node m)) =
        subst (λ (o : Option (TreeNode LayoutNode)). IsPlugged ds o (Some (seen_node m))) (ap (option_map seen_node) was)
        (subst (λ (o : Option (TreeNode LayoutNode)). IsPlugged ds (seen_at old k) o) (ap (option_map seen_node) now) (plugs k)) in
        subst (λ (x : RenderObject). (x.plugged ≡ (state_at old k).plugged) ⊎ (x.plugged ≡ is_plugged ds (delegate_of (object_look x)))) value (elim here.1 [
          | inl kept ↦ inl (kept ∙ sym state)
          | inr set ↦ inr set
        ])
