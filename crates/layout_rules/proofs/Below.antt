-- What is below a node whose course ends: of each node there only how it stands is changed.
use Rattle.std.proofs.Common.{◌≡◌, ap, refl, sym, ◌∙◌, inl, inr, ◌⊎◌, ℕ, zero, suc, ◌≤◌, Bool, cond, Option, Some, option_map, List, arith}
use Rattle.fx_geom.specs.declared.shapes.Offset.{Offset}
use Rattle.fx_handles.specs.declared.Handle.{Handle}
use Rattle.fx_handles.specs.HandleLaws.{cases_same, same-ne}
use Rattle.node_tree.specs.Forest.{TreeNode, Forest, Stands, In, count}
use Rattle.node_tree.specs.Forest.Forest.{none, tree}
use Rattle.plain_tree.specs.declared.render.ParentData.{ParentData}
use Rattle.layout_form.specs.declared.asks.Ask.{Ask}
use Rattle.layout_form.specs.Object.{Setting}
use Rattle.layout_walk.specs.Full.{place_of, past}
use Rattle.layout_walk.specs.Node.{LayoutNode}
use Rattle.layout_walk.specs.Rule.{ask_of, later}
use Rattle.layout_walk.specs.Walk.{stood_as, stand_all}
use Rattle.layout_rules.specs.declared.duties.Course.{Course}
use Rattle.layout_rules.specs.declared.duties.Course.TheVariants.{Stay, Visit, Hold, Run, View, Open}
use Rattle.layout_rules.specs.Ending.{ended}

-- nothing stands in no forest
not_in : (k : Handle) → In {T = LayoutNode} k none → ⊥
not_in k inside = omega (arith, inside)

pub is_in : (n : ℕ) → (n ≡ 0) ⊎ (1 ≤ n)
is_in zero = inl refl
is_in (suc n) = inr (omega arith)

-- a part of a node that has nothing to do with how it stands
module _ {A : Type 0} (part : LayoutNode → A) (stays : (o : Option Ask) (at : Offset) (v : LayoutNode) → part (stood_as o at v) ≡ part v) where
  abbrev pub SameParts : Forest LayoutNode → Forest LayoutNode → Type 0
  SameParts none none = Unit {0}
  SameParts none (tree k w below rest) = ⊥
  SameParts (tree h v kids more) none = ⊥
  SameParts (tree h v kids more) (tree k w below rest) = (h ≡ k) × (part w ≡ part v) × SameParts kids below × SameParts more rest

  pub parts_self : (f : Forest LayoutNode) → SameParts f f
  parts_self none = tt
  parts_self (tree h v kids rest) = (refl, refl, parts_self kids, parts_self rest)

  parts_stood : (asks : List (Option Ask)) (places : List Offset) (f : Forest LayoutNode) → SameParts f (stand_all asks places f)
  parts_stood asks places none = tt
  parts_stood asks places (tree h v kids rest) =
      (refl, stays (ask_of asks) (place_of places) v, parts_self kids, parts_stood (later asks) (past (ask_of asks) places) rest)

  pub ended_parts : (s : Setting) (course : Course) (v : LayoutNode) (kids : Forest LayoutNode) (ds : List ParentData) (first rest : List (Option Ask))
      → SameParts kids (ended s course v kids ds first rest).kids
  ended_parts s Stay v kids ds first rest = parts_self kids
  ended_parts s Visit v kids ds first rest = parts_self kids
  ended_parts s (Hold ask) v kids ds first rest = parts_self kids
  ended_parts s (Run ask) v kids ds first rest = parts_stood _ _ kids
  ended_parts s (View axis b) v kids ds first rest = parts_stood _ _ kids
  ended_parts s (Open duty) v kids ds first rest = parts_self kids

  abbrev pub part_in : Option (TreeNode LayoutNode) → Option A
  part_in o = option_map (λ (n : TreeNode LayoutNode). part n.value) o

  pub below_part : (at now : Handle → Option (TreeNode LayoutNode)) (p q : Option Handle) (f g : Forest LayoutNode) → SameParts f g → Stands at p f → Stands now q g → (k : Handle) → In k f
      → part_in (now k) ≡ part_in (at k)
  below_part at now p q none none same stands there k inside = absurd (not_in k inside)
  below_part at now p q none (tree j w below rest) same stands there k inside = absurd same
  below_part at now p q (tree h v kids more) none same stands there k inside = absurd same
  below_part at now p q (tree h v kids more) (tree j w below rest) same stands there k inside = elim (cases_same h k) [
    | inl e ↦ ap (λ (x : Handle). part_in (now x)) (sym e ∙ same.0)
        ∙ (ap part_in there.0 ∙ (ap (λ (x : A). Some x) same.1 ∙ (sym (ap part_in stands.0) ∙ ap (λ (x : Handle). part_in (at x)) e)))
    | inr ne ↦ elim (is_in (count k kids)) [
      | inl out ↦
          below_part at now p q more rest same.3 stands.2 there.2 k
          (let own = ap (λ (b : Bool). cond {A = ℕ} b 1 0) (same-ne h k ne) in omega (arith, own, out, inside))
      | inr into ↦ below_part at now (Some h) (Some j) kids below same.2 stands.1 there.1 k into
    ]
  ]
