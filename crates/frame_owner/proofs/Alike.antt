-- No render node becomes a RepaintBoundary, or stops being one, where nodes with one number go on from one another.
use Rattle.std.proofs.Common.{◌≡◌, ℕ, Option, Some, None, IsSome, IfSome, option_map, ◌⊎◌, refl, sym, ap, subst, ◌∙◌, inl, inr}
use Rattle.std.specs.Option.{option_to_list}
use Rattle.fx_handles.specs.declared.Handle.{Handle}
use Rattle.node_tree.specs.Forest.{TreeNode, Forest}
use Rattle.node_tree.specs.Tree.{Tree, Is, node_at as stored_at}
use Rattle.widget_model.specs.Look.{Look}
use Rattle.widget_model.specs.Plain.{look_of}
use Rattle.work_roles.specs.WorkRole.{is_repaint_boundary}
use Rattle.plain_tree.specs.declared.role.RenderRole.TheVariants.{Plain}
use Rattle.plain_tree.specs.At.{numbers_of}
use Rattle.plain_tree.specs.Laws.{AllDiffer}
use Rattle.plain_tree.specs.PlainNode.{PlainNode, widget_of, nodes_of as listed}
use Rattle.plain_tree.specs.Projection.{projected_all}
use Rattle.plain_tree.specs.Render.{renders_of as renders_listed}
use Rattle.build_form.specs.Entering.{Blueprint}
use Rattle.build_form.specs.KeptStates.{HadOrIsNew, EachIs}
use Rattle.build_form.specs.Numbered.{IsNumbered}
use Rattle.render_tree.specs.Object.{RenderObject, object_look}
use Rattle.render_tree.specs.Plain.{renders_of}
use Rattle.render_tree.specs.Tree.{object_at}
use Rattle.kept_phases.specs.Redraws.{KeepsKinds}
use Rattle.frame_owner.proofs.Looks.{NodeHas, NodesHave, RendersHave, from_all, stand_there, object_has, found_at, fence_same}

-- ---- each render node is one of a tree

-- a node of a tree, if there is one, has a number and a kind
abbrev pub OneHas : Option PlainNode → ℕ → Look → Type 0
OneHas None w l = ⊥
OneHas (Some n) w l = NodeHas w l n

-- each render node has the number and the kind of a node of the tree, or of one of two trees
abbrev pub AreOf : Option PlainNode → Tree RenderObject → Type 0
AreOf n t = (k : Handle) (o : RenderObject) → object_at t k ≡ Some o → OneHas n o.number (object_look o)

abbrev pub AreOfEither : Option PlainNode → PlainNode → Tree RenderObject → Type 0
AreOfEither old n t = (k : Handle) (o : RenderObject) → object_at t k ≡ Some o → OneHas old o.number (object_look o) ⊎ NodeHas o.number (object_look o) n

listed_has : (old : Option PlainNode) (w : ℕ) (l : Look) → NodesHave w l (listed (option_to_list old)) → OneHas old w l
listed_has None w l h = h
listed_has (Some n) w l (inl h) = h
listed_has (Some n) w l (inr h) = absurd h

pub stored_live : (x : Option (TreeNode RenderObject)) (o : RenderObject) → option_map (λ (n : TreeNode RenderObject). n.value) x ≡ Some o → IsSome x
stored_live None o e = absurd (cc)
stored_live (Some n) o e = refl

-- so it is where they are its projection
pub are_of : (old : Option PlainNode) (t : Tree RenderObject) (f : Forest RenderObject) → Is t f → renders_of f ≡ renders_listed (projected_all Plain None (listed (option_to_list old))) → AreOf old t
are_of old t f is projected k o at =
    listed_has old o.number (object_look o)
    (from_all o.number (object_look o) Plain None (listed (option_to_list old))
    (subst (RendersHave o.number (object_look o)) projected (object_has (stored_at t) f (stand_there (stored_at t) None f is.stands) k (is.whole k (stored_live (stored_at t k) o at)) o at)))

-- ---- one number, one kind

same_one : (x y : PlainNode) → Some x ≡ Some y → x ≡ y
same_one x y e = cc

pub one_kind : (n : PlainNode) (w : ℕ) (a b : Look) → AllDiffer (numbers_of n) → NodeHas w a n → NodeHas w b n → a ≡ b
one_kind n w a b differ h g =
    let x = found_at w a n differ h in
    let y = found_at w b n differ g in
    sym x.look ∙ (ap (λ (m : PlainNode). look_of (widget_of m)) (same_one x.one y.one (sym x.is ∙ y.is)) ∙ y.look)

pub fences_on : (b : Blueprint) (next : ℕ) (old : Option PlainNode) (new : PlainNode) → IfSome old (IsNumbered next) → EachIs (HadOrIsNew b old next) new
    → (w : ℕ) (was now : Look) → OneHas old w was → NodeHas w now new → is_repaint_boundary now ≡ is_repaint_boundary was
fences_on b next None new numbered states w was now there here = absurd there
fences_on b next (Some old) new numbered states w was now there here = fence_same b next old new numbered states w was now there here

-- ---- from one tree of render nodes to the next

-- each node keeps its number
abbrev pub SameNumbers : Tree RenderObject → Tree RenderObject → Type 0
SameNumbers r s = (k : Handle) (o v : RenderObject) → object_at r k ≡ Some o → object_at s k ≡ Some v → v.number ≡ o.number

module _ (b : Blueprint) (next : ℕ) (old : Option PlainNode) (new : PlainNode) (numbered : IfSome old (IsNumbered next)) (states : EachIs (HadOrIsNew b old next) new) (r s : Tree RenderObject) (numbers : SameNumbers r s) where
  -- the old tree's become the new one's
  pub whole_kinds : AreOf old r → AreOf (Some new) s → KeepsKinds r s
  whole_kinds was is k o v at_r at_s =
      fences_on b next old new numbered states o.number (object_look o) (object_look v) (was k o at_r)
      (subst (λ w. NodeHas w (object_look v) new) (numbers k o v at_r at_s) (is k v at_s))

  -- some become the new one's, and the others keep their kinds
  pub part_kinds : AreOf old r
      → ((k : Handle) (o v : RenderObject) → object_at r k ≡ Some o → object_at s k ≡ Some v → NodeHas v.number (object_look v) new ⊎ (object_look v ≡ object_look o)) → KeepsKinds r s
  part_kinds was now k o v at_r at_s = elim (now k o v at_r at_s) [
    | inl h ↦
        fences_on b next old new numbered states o.number (object_look o) (object_look v) (was k o at_r)
        (subst (λ w. NodeHas w (object_look v) new) (numbers k o v at_r at_s) h)
    | inr same ↦ ap is_repaint_boundary same
  ]

  -- those of the old tree, and of a part of the new one, become the new one's
  pub later_kinds : (part : PlainNode) → ((w : ℕ) (l : Look) → NodeHas w l part → NodeHas w l new) → AllDiffer (numbers_of new) → AreOfEither old part r → AreOf (Some new) s → KeepsKinds r s
  later_kinds part inside differ was is k o v at_r at_s =
      let here = subst (λ w. NodeHas w (object_look v) new) (numbers k o v at_r at_s) (is k v at_s) in
      elim (was k o at_r) [
        | inl had ↦ fences_on b next old new numbered states o.number (object_look o) (object_look v) had here
        | inr made ↦ ap is_repaint_boundary (one_kind new o.number (object_look v) (object_look o) differ here (inside o.number (object_look o) made))
      ]
