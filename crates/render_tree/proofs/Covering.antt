-- What a plan changes for layout covers it: each node that isn't on the list is built as it was.
use Rattle.std.proofs.Common.{◌≡◌, ◌≢◌, ℕ, Bool, false, cond, List, [], ◌∷◌, ◌++◌, Option, Some, None, option_map, refl, sym, ap, ◌∙◌, subst, arith, inl, inr}
use Rattle.std.proofs.lemmas.Bool.{cases_Bool}
use Rattle.fx_handles.specs.declared.Handle.{Handle}
use Rattle.fx_handles.specs.Handle.{same, times, Among}
use Rattle.fx_handles.specs.HandleLaws.{same-ne, same-eq, same_self, cases_same, times_here, times_there}
use Rattle.fx_handles.specs.ArenaLaws.{same_Some}
use Rattle.node_tree.specs.Forest.{TreeNode, Forest, tops, In, IsDistinct}
use Rattle.node_tree.specs.Forest.Forest.{none, tree}
use Rattle.node_tree.specs.Tree.{Tree, node_at, value_at, children_of}
use Rattle.node_tree.specs.Plan.{PlanEntry, entries, planned, entry_at, IsPlan}
use Rattle.node_tree.proofs.PlanLemmas.{times-entries}
use Rattle.tree_marks.specs.Marks.{listed}
use Rattle.tree_marks.specs.Commit.{stored_by, planned_by, Covers}
use Rattle.work_roles.specs.WorkRole.{is_offstage, is_offstage_role}
use Rattle.work_roles.proofs.Blanks.{same_role}
use Rattle.render_tree.specs.Object.{RenderObject, object_look}
use Rattle.render_tree.specs.Redraw.{Redraw, redrawn}
use Rattle.render_tree.specs.Marks.{LayoutOwn, layout_marks, layout_parts, layout_own, layout_told}
use Rattle.render_tree.specs.Changes.{hides_in, hides_at, KeepsOwn, KeepsList, KeepsTold, EachEntry, LaidAnew}

-- what a layout reads of a node itself says whether it is offstage
pub hides_same : (v w : RenderObject) → layout_own v ≡ layout_own w → is_offstage (object_look v) ≡ is_offstage (object_look w)
hides_same v w e = sym (ap is_offstage_role (same_role (object_look v))) ∙ (ap (λ (x : LayoutOwn). is_offstage x.look) e ∙ ap is_offstage_role (same_role (object_look w)))

-- ---- the entry of a node

entry-out : (k : Handle) (xs ys : List (PlanEntry Redraw)) → times k (planned xs) ≡ 0 → entry_at (xs ++ ys) k ≡ entry_at ys k
entry-out k [] ys away = refl
entry-out k (x ∷ xs) ys away =
    let ne : k ≢ x.at = λ e. absurd (let here : times k (k ∷ planned xs) ≡ 0 = ap (λ y. times k (y ∷ planned xs)) e ∙ away in omega (arith, here, times_here k (planned xs))) in
    ap (λ b. cond b (Some x) (entry_at (xs ++ ys) k)) (same-ne k x.at ne) ∙ entry-out k xs ys (sym (times_there k x.at (planned xs) (λ e. ne (sym e))) ∙ away)

entry-front : (k : Handle) (xs ys : List (PlanEntry Redraw)) → Among k (planned xs) → entry_at (xs ++ ys) k ≡ entry_at xs k
entry-front k [] ys among = absurd (omega arith)
entry-front k (x ∷ xs) ys among = elim (cases_same k x.at) [
  | inl e ↦ ap (λ b. cond b (Some x) (entry_at (xs ++ ys) k)) (same-eq k x.at e) ∙ sym (ap (λ b. cond b (Some x) (entry_at xs k)) (same-eq k x.at e))
  | inr ne ↦
      ap (λ b. cond b (Some x) (entry_at (xs ++ ys) k)) (same-ne k x.at ne)
      ∙ (entry-front k xs ys (omega (arith, among, times_there k x.at (planned xs) (λ e. ne (sym e)))) ∙ sym (ap (λ b. cond b (Some x) (entry_at xs k)) (same-ne k x.at ne)))
]

-- what holds of all entries holds of the one for a handle
all-at : (P : PlanEntry Redraw → Type 0) (es : List (PlanEntry Redraw)) (k : Handle) (e : PlanEntry Redraw) → EachEntry P es → entry_at es k ≡ Some e → P e
all-at P [] k e all is = absurd (cc)
all-at P (x ∷ xs) k e all is = elim (cases_Bool (same k x.at)) [
  | inl s ↦ subst P (same_Some (sym (ap (λ b. cond b (Some x) (entry_at xs k)) s) ∙ is)) all.0
  | inr s ↦ all-at P xs k e all.1 (sym (ap (λ b. cond b (Some x) (entry_at xs k)) s) ∙ is)
]

module _ (t : Tree RenderObject) (es : List (PlanEntry Redraw)) (hs : List Handle) where
  -- the plan has the entries of a forest below a parent
  abbrev Has : Option Handle → Forest Redraw → Type 0
  Has q f = (c : Handle) → In c f → entry_at es c ≡ entry_at (entries q f) c

  abbrev entry_of : Option Handle → Handle → Redraw → Forest Redraw → PlanEntry Redraw
  entry_of q h u kids = record { at = h; parent = q; children = tops kids; update = u }

  has-here : (q : Option Handle) (h : Handle) (u : Redraw) (kids rest : Forest Redraw) → IsDistinct (tree h u kids rest) → Has q (tree h u kids rest) → entry_at es h ≡ Some (entry_of q h u kids)
  has-here q h u kids rest distinct has =
      let one : cond {A = ℕ} (same h h) 1 0 ≡ 1 = ap (λ b. cond {A = ℕ} b 1 0) (same_self h) in
      has h (omega (arith, one))
      ∙ (entry-out h (entries (Some h) kids) (entry_of q h u kids ∷ entries q rest) (times-entries h (Some h) kids ∙ omega (arith, distinct h, one))
      ∙ ap (λ b. cond b (Some (entry_of q h u kids)) (entry_at (entries q rest) h)) (same_self h))

  has-kids : (q : Option Handle) (h : Handle) (u : Redraw) (kids rest : Forest Redraw) → Has q (tree h u kids rest) → Has (Some h) kids
  has-kids q h u kids rest has = λ c inside.
      has c (omega (arith, inside)) ∙ entry-front c (entries (Some h) kids) (entry_of q h u kids ∷ entries q rest) (omega (arith, inside, times-entries c (Some h) kids))

  has-rest : (q : Option Handle) (h : Handle) (u : Redraw) (kids rest : Forest Redraw) → IsDistinct (tree h u kids rest) → Has q (tree h u kids rest) → Has q rest
  has-rest q h u kids rest distinct has = λ c inside.
      let ne : c ≢ h = λ e. absurd (let one : cond {A = ℕ} (same h c) 1 0 ≡ 1 = ap (λ b. cond {A = ℕ} b 1 0) (same-eq h c (sym e)) in omega (arith, one, inside, distinct c)) in
      has c (omega (arith, inside))
      ∙ (entry-out c (entries (Some h) kids) (entry_of q h u kids ∷ entries q rest) (times-entries c (Some h) kids ∙ omega (arith, inside, distinct c))
      ∙ ap (λ b. cond b (Some (entry_of q h u kids)) (entry_at (entries q rest) c)) (same-ne c h ne))

  -- what a parent that isn't on the list takes of its children is what it took
  told-same : (b : Bool) (k : Handle) (f : Forest Redraw) → hides_at t (Some k) ≡ b → EachEntry (λ e. (p : Handle) → e.parent ≡ Some p → listed p hs ≡ false → KeepsTold t e) es → listed k hs ≡ false → IsDistinct f → Has (Some k) f
      → planned_by redrawn (layout_told b) (value_at t) f ≡ stored_by (layout_told b) (node_at t) (tops f)
  told-same b k none hides told off distinct has = refl
  told-same b k (tree h u kids rest) hides told off distinct has =
      ap (λ o. (h, o) ∷ planned_by redrawn (layout_told b) (value_at t) rest) (by_node (node_at t h) refl)
      ∙ ap (λ r. (h, option_map (λ (n : TreeNode RenderObject). layout_told b n.value) (node_at t h)) ∷ r) (told-same b k rest hides told off (λ c. omega (arith, distinct c)) (has-rest (Some k) h u kids rest distinct has))
    where
      by_node : (o : Option (TreeNode RenderObject)) → node_at t h ≡ o
          → option_map (λ v. layout_told b (redrawn u v)) (option_map (λ (n : TreeNode RenderObject). n.value) (node_at t h)) ≡ option_map (λ (n : TreeNode RenderObject). layout_told b n.value) (node_at t h)
      by_node None e = ap (λ o. option_map (λ v. layout_told b (redrawn u v)) (option_map (λ (n : TreeNode RenderObject). n.value) o)) e ∙ sym (ap (option_map (λ (n : TreeNode RenderObject). layout_told b n.value)) e)
      by_node (Some n) e =
          let keeps = all-at (λ x. (p : Handle) → x.parent ≡ Some p → listed p hs ≡ false → KeepsTold t x) es h (entry_of (Some k) h u kids) told (has-here (Some k) h u kids rest distinct has) k refl off n.value (ap (option_map (λ (y : TreeNode RenderObject). y.value)) e) in
          ap (λ o. option_map (λ v. layout_told b (redrawn u v)) (option_map (λ (n : TreeNode RenderObject). n.value) o)) e
          ∙ (ap Some (subst (λ y. layout_told y (redrawn u n.value) ≡ layout_told y n.value) hides keeps) ∙ sym (ap (option_map (λ (n : TreeNode RenderObject). layout_told b n.value)) e))

  covers-from : (q : Option Handle) (f : Forest Redraw) → EachEntry (λ e. listed e.at hs ≡ false → KeepsOwn t e × KeepsList t e) es
      → EachEntry (λ e. (p : Handle) → e.parent ≡ Some p → listed p hs ≡ false → KeepsTold t e) es → IsDistinct f → Has q f
      → Covers redrawn layout_marks layout_parts hs (node_at t) (value_at t) f
  covers-from q none own told distinct has = tt
  covers-from q (tree h u kids rest) own told distinct has = (
    λ n is off.
        let keeps = all-at (λ x. listed x.at hs ≡ false → KeepsOwn t x × KeepsList t x) es h (entry_of q h u kids) own (has-here q h u kids rest distinct has) off in (
          keeps.0 n.value (ap (option_map (λ (y : TreeNode RenderObject). y.value)) is),
          told-same (is_offstage (object_look (redrawn u n.value))) h kids
              (ap (λ (x : Option (TreeNode RenderObject)). hides_in (option_map (λ (y : TreeNode RenderObject). y.value) x)) is ∙ sym (hides_same (redrawn u n.value) n.value (keeps.0 n.value (ap (option_map (λ (y : TreeNode RenderObject). y.value)) is))))
              told off (λ c. omega (arith, distinct c)) (has-kids q h u kids rest has)
              ∙ ap (stored_by (layout_told (is_offstage (object_look (redrawn u n.value)))) (node_at t)) (keeps.1 ∙ ap children_of is),
        ),
    covers-from (Some h) kids own told (λ c. omega (arith, distinct c)) (has-kids q h u kids rest has),
    covers-from q rest own told (λ c. omega (arith, distinct c)) (has-rest q h u kids rest distinct has),
  )

-- the list covers the plan
pub anew-covers : (t : Tree RenderObject) (es : List (PlanEntry Redraw)) (root : Option Handle) (inactive : List Handle) (g : Forest Redraw) (hs : List Handle) → IsPlan t es root inactive g → LaidAnew t root es hs
    → Covers redrawn layout_marks layout_parts hs (node_at t) (value_at t) g
anew-covers t es root inactive g hs plan anew = covers-from t es hs None g anew.own anew.told plan.distinct (λ c inside. plan.entry c)
