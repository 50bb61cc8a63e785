-- Once the whole build is brought, each node has the frame that its number had, or that the outer flush gave it; and that is the one that
-- it has in the end.
use Rattle.std.proofs.Common.{◌≡◌, ℕ, ◌==◌, inl, inr, Bool, true, false, Option, Some, None, option_map, ◌∷◌, ◌++◌, cond, refl, sym, ap, ◌∙◌, subst, arith, if◌then◌else◌}
use Rattle.std.specs.Option.{option_or}
use Rattle.fx_geom.specs.Offset.{origin}
use Rattle.fx_geom.specs.declared.shapes.Size.{Size}
use Rattle.fx_handles.specs.declared.Handle.{Handle}
use Rattle.fx_handles.specs.ArenaLaws.{same_Some}
use Rattle.fx_handles.specs.Handle.{same}
use Rattle.fx_handles.specs.HandleLaws.{cases_same, same-ne}
use Rattle.node_tree.specs.Forest.{TreeNode, Forest, count, In, Stands}
use Rattle.node_tree.specs.Forest.Forest.{none, tree}
use Rattle.node_tree.specs.Tree.{Tree, IsTree, node_at}
use Rattle.node_tree.proofs.ForestLemmas.{is_zero}
use Rattle.node_tree.proofs.TreeLemmas.{is_node}
use Rattle.plain_tree.specs.At.{laid_at, laid_in}
use Rattle.plain_tree.specs.declared.laid.Facts.{Facts}
use Rattle.plain_tree.specs.Laid.{Laid, laid, Laids, no_laids, more_laids}
use Rattle.plain_tree.specs.Laws.{AllDiffer}
use Rattle.plain_tree.specs.Render.{Render, no_renders, more_renders}
use Rattle.plain_tree.proofs.Numbers.{IsIn}
use Rattle.widget_model.specs.Look.{Look}
use Rattle.layout_form.specs.Layout.{lay_view}
use Rattle.layout_form.specs.Object.{Setting}
use Rattle.layout_walk.specs.Here.{outer_back}
use Rattle.layout_walk.specs.Node.{LayoutNode, NodeMember}
use Rattle.layout_walk.specs.Rule.{Lawful}
use Rattle.layout_walk.specs.Rules.{parts_of, is_list}
use Rattle.layout_walk.specs.Walk.{SameMembers}
use Rattle.layout_walk.proofs.Correcting.{corrected_same}
use Rattle.layout_rules.specs.Nodes.{layout_node, layout_nodes, seen_node}
use Rattle.layout_owner.specs.Roots.{view_asks}
use Rattle.kept_layouts.specs.Items.{all_without_items, ListsUnasked}
use Rattle.kept_layouts.proofs.Items.{FullLaws}
use Rattle.kept_layers.proofs.RootTrees.{root_stands, all_inside}
use Rattle.kept_phases.specs.Lists.{StaysBuilt, FlushesLists}
use Rattle.kept_phases.specs.Parts.{RedrawsPart}
use Rattle.kept_phases.specs.Redraws.{Redraws}
use Rattle.render_tree.specs.Object.{RenderObject}
use Rattle.render_tree.specs.Plain.{laids_of, renders_of, root_tree}
use Rattle.render_tree.specs.Tree.{object_at}
use Rattle.render_sync.specs.Numbering.{NumbersDiffer, number_at}
use Rattle.render_sync.specs.Renders.{AllNumbers}
use Rattle.screen_owner.specs.Standing.{StandsAlone}
use Rattle.work_sets.specs.Before.{Frames, frame_in, frames_after}
use Rattle.counted_work.specs.Caused.{FramesAgree, IsNewUnlaid, NewAreUnlaid}
use Rattle.counted_work.proofs.Searching.{none_or, missing, told}
use Rattle.counted_work.proofs.Synced.{no_some}
use Rattle.counted_phases.specs.OuterLaid.{outer_facts, outer_laid, outer_laids}
use Rattle.counted_phases.proofs.Between.{numbers, Paired, NumbersStay, pairs_count, pair_at, number_there, named, differ_list, root_distinct, numbered_node, first_keeps, second_keeps, put_back_keeps, first_tree, flushed_tree, grown_numbers, built_numbers, first_numbers}
use Rattle.counted_phases.proofs.FrameShown.{SeenNodes, frame_shown, frame_left}
use Rattle.counted_phases.proofs.LeftOuter.{AreLeftOuter}
use Rattle.counted_phases.proofs.OuterFound.{Pairs, PassesOn, frame_of, outer_search, left_passes}

-- ---- what is found without items is found

both_none : {A : Type 0} (a b : Option A) → option_or a b ≡ None → (a ≡ None) × (b ≡ None)
both_none None b e = (refl, e)
both_none (Some x) b e = absurd (cc)

at_by : (here list : Bool) (n number : ℕ) (look : Look) (facts : Facts) (children : Laids) → (if here then Some (laid number look facts children) else laid_in n children) ≡ None
    → (laid_in n children ≡ None → laid_in n (outer_laids children) ≡ None)
    → (if here
    then Some (laid number look (outer_facts list facts) (if list then no_laids else outer_laids children))
    else laid_in n (if list then no_laids else outer_laids children))
    ≡ None
at_by true list n number look facts children e below = absurd (cc)
at_by false true n number look facts children e below = refl
at_by false false n number look facts children e below = below e

mutual
  none_at : (n : ℕ) (l : Laid) → laid_at n l ≡ None → laid_at n (outer_laid l) ≡ None
  none_at n (laid number look facts children) e = at_by (number == n) (is_list look) n number look facts children e (none_in n children)

  none_in : (n : ℕ) (ls : Laids) → laid_in n ls ≡ None → laid_in n (outer_laids ls) ≡ None
  none_in n no_laids e = refl
  none_in n (more_laids at l ls) e =
      let parts = both_none (laid_at n l) (laid_in n ls) e in (λ i. option_or (none_at n l parts.0 i) (none_in n ls parts.1 i))

-- what a frame leaves in the end is the same, whether its outer flush counts or not
pub after_both : (l : Laid) (frames : Frames) (n : ℕ) → frames_after l (frames_after (outer_laid l) frames) n ≡ frames_after l frames n
after_both l frames n = by (laid_at n l) refl
  where
    by : (x : Option Laid) → laid_at n l ≡ x → frames_after l (frames_after (outer_laid l) frames) n ≡ frames_after l frames n
    by None e = ap (λ (x : Option Laid). option_or (frame_in l n) (option_or (option_map frame_of x) (frames n))) (none_at n l e)
    by (Some m) e =
        ap (λ (x : Option Laid). option_or (option_map frame_of x) (frames_after (outer_laid l) frames n)) e ∙ sym (ap (λ (x : Option Laid). option_or (option_map frame_of x) (frames n)) e)

-- ---- the outer flush

same_numbers : (f g : Forest RenderObject) → SameMembers (layout_nodes f) (layout_nodes g) → numbers g ≡ numbers f
same_numbers none none alike = refl
same_numbers none (tree k w below rest) alike = absurd alike
same_numbers (tree h v kids more) none alike = absurd alike
same_numbers (tree h v kids more) (tree k w below rest) alike =
    let number : w.number ≡ v.number = ap (λ (m : NodeMember). m.number) (sym alike.1) in λ i.
    number i ∷ (same_numbers kids below alike.2 i ++ same_numbers more rest alike.3 i)

module _ (s : Setting) (law : Lawful (parts_of s)) (laws : FullLaws s) (see : SeenNodes) (view : Size) (frames : Frames) (old mid ranged brought : Tree RenderObject) (top : Render)
    (first : RedrawsPart old mid) (apart : NumbersDiffer mid) (flushes : FlushesLists s view mid ranged) (stays : StaysBuilt mid ranged) (second : Redraws ranged brought) (made_apart : NumbersDiffer second.made)
    (alone : StandsAlone brought) (whole : renders_of (root_tree brought) ≡ more_renders top no_renders)
    (outer : all_without_items (renders_of (root_tree mid)) ≡ all_without_items (more_renders top no_renders)) (unasked : ListsUnasked false top)
    (agree : FramesAgree frames old) (unlaid : NewAreUnlaid frames old top) where
  abbrev between : Frames
  between = frames_after (outer_laid (lay_view s top view)) frames

  abbrev flushed : Tree RenderObject
  flushed = flushes.flushed

  abbrev f : Forest RenderObject
  f = root_tree mid

  abbrev g : Forest RenderObject
  g = root_tree flushed

  is_mid : IsTree mid
  is_mid = first_tree old mid first

  is_flushed : IsTree flushed
  is_flushed = flushed_tree mid flushed is_mid flushes.paints

  shown : outer_laids (laids_of g) ≡ more_laids origin (outer_laid (lay_view s top view)) no_laids
  shown = frame_shown s law laws see view f g top flushes.good.here flushes.held flushes.placed flushes.asked flushes.stays outer unasked

  abbrev S : ℕ → Option Laid
  S n = laid_in n (outer_laids (laids_of g))

  found_so : (n : ℕ) → between n ≡ option_or (option_map frame_of (S n)) (frames n)
  found_so n = ap (λ (x : Option Laid). option_or (option_map frame_of x) (frames n)) (sym (ap (laid_in n) shown ∙ none_or (laid_at n (outer_laid (lay_view s top view)))))

  same_list : numbers g ≡ numbers f
  same_list = same_numbers f g (corrected_same (parts_of s) (outer_back (parts_of s)) (view_asks view) (layout_nodes f) (layout_nodes g) flushes.stays)

  differ_flushed : AllDiffer (numbers g)
  differ_flushed = subst AllDiffer (sym same_list) (differ_list mid apart None f (root_stands mid is_mid) (root_distinct mid is_mid))

  left : AreLeftOuter (layout_nodes f) (layout_nodes g)
  left = frame_left s law laws see view f g top flushes.good.here flushes.held flushes.placed flushes.asked flushes.stays outer

  passes : Pairs (PassesOn frames between) f g
  passes = left_passes frames between S found_so f g left (told outer_search g differ_flushed)

  -- a number that no node of the root's tree has isn't found
  not_found : (n : ℕ) → ((k : Handle) → In k f → number_at mid k ≡ Some n → ⊥) → between n ≡ frames n
  not_found n nobody =
      found_so n ∙ ap (λ (x : Option Laid). option_or (option_map frame_of x) (frames n)) (missing outer_search n g (λ i.
      let there = named mid n None f (root_stands mid is_mid) (subst (IsIn n) same_list i) in nobody there.0 there.1 there.2))

  -- a node of the root's tree, or beside it, has its frame
  inside_so : (k : Handle) → In k g → (w : RenderObject) → object_at flushed k ≡ Some w → Paired (PassesOn frames between) mid k w
  inside_so = pair_at (PassesOn frames between) mid flushed None None f g (root_stands mid is_mid) (root_stands flushed is_flushed) passes

  seen_value : (x : Option (TreeNode RenderObject)) (n : TreeNode RenderObject) → option_map seen_node (Some n) ≡ option_map seen_node x → (m : TreeNode RenderObject) × (x ≡ Some m) × (layout_node n.value ≡ layout_node m.value)
  seen_value None n e = no_some (seen_node n) (sym e)
  seen_value (Some m) n e = (m, refl, ap (λ (x : TreeNode LayoutNode). x.value) (same_Some e))

  beside_so : (k : Handle) → (In k f → ⊥) → (w : RenderObject) → object_at flushed k ≡ Some w → Paired (PassesOn frames between) mid k w
  beside_so k out w at = by (node_at flushed k) refl
    where
      by : (x : Option (TreeNode RenderObject)) → node_at flushed k ≡ x → Paired (PassesOn frames between) mid k w
      by None e = no_some w (sym (ap (option_map (λ (n : TreeNode RenderObject). n.value)) e) ∙ at)
      by (Some n) e =
          let value : n.value ≡ w = same_Some (sym (ap (option_map (λ (m : TreeNode RenderObject). m.value)) e) ∙ at) in
          let was = seen_value (node_at mid k) n (sym (ap (option_map seen_node) e) ∙ flushes.others k out) in
          let alike : layout_node w ≡ layout_node was.0.value = ap layout_node (sym value) ∙ was.2 in
          let number : w.number ≡ was.0.value.number = ap (λ (x : LayoutNode). x.number) alike in
          let mid_number : number_at mid k ≡ Some w.number = number_there mid k was.0 was.1 ∙ ap (λ (x : ℕ). Some x) (sym number) in
          let nobody : (j : Handle) → In j f → number_at mid j ≡ Some w.number → ⊥ = λ j inside there. out (subst (λ (x : Handle). In x f) (apart w.number j k there mid_number) inside) in (
            was.0.value,
            ap (option_map (λ (m : TreeNode RenderObject). m.value)) was.1,
            (number, (λ had. ap (λ (x : LayoutNode). x.frame) alike ∙ (had ∙ (ap frames (sym number) ∙ sym (not_found w.number nobody))))),
          )

  flushed_so : (k : Handle) (w : RenderObject) → object_at flushed k ≡ Some w → Paired (PassesOn frames between) mid k w
  flushed_so k w at = elim (is_zero (count k g)) [
    | inl gone ↦ let counted = pairs_count (PassesOn frames between) mid flushed f g passes k in beside_so k (λ inside. omega (arith, inside, gone, counted)) w at
    | inr there ↦ inside_so k there w at
  ]

  -- ---- up to the whole build

  old_stay : NumbersStay old second.made
  old_stay n k at =
      grown_numbers ranged second.made second.grows n k (built_numbers mid ranged stays n k (first_numbers old mid first n k (grown_numbers old first.made first.grows n k at)))

  mid_stay : NumbersStay mid second.made
  mid_stay n k at = grown_numbers ranged second.made second.grows n k (built_numbers mid ranged stays n k at)

  -- a node that the first phase made, or that was there, has the frame that its number had
  made_first : (k : Handle) (y : RenderObject) → object_at first.made k ≡ Some y → IsNewUnlaid frames old y.number → y.frame ≡ frames y.number
  made_first k y at new_unlaid = by (node_at first.made k) refl (node_at old k) refl
    where
      by : (x : Option (TreeNode RenderObject)) → node_at first.made k ≡ x → (z : Option (TreeNode RenderObject)) → node_at old k ≡ z → y.frame ≡ frames y.number
      by None e z q = no_some y (sym (ap (option_map (λ (n : TreeNode RenderObject). n.value)) e) ∙ at)
      by (Some n) e (Some m) q =
          let value : m.value ≡ y =
          ap (λ (x : TreeNode RenderObject). x.value) (same_Some (sym (first.grows.keeps k (is_node (node_at old k) m q) ∙ q) ∙ e))
          ∙ same_Some (sym (ap (option_map (λ (x : TreeNode RenderObject). x.value)) e) ∙ at) in
          subst (λ (x : RenderObject). x.frame ≡ frames x.number) value (agree k m.value (ap (option_map (λ (x : TreeNode RenderObject). x.value)) q))
      by (Some n) e None q =
          let value : n.value ≡ y = same_Some (sym (ap (option_map (λ (x : TreeNode RenderObject). x.value)) e) ∙ at) in
          let fresh_node = first.grows.fresh k n q e in
          let here : number_at first.made k ≡ Some y.number = ap (option_map (λ (x : RenderObject). x.number)) at in
          let nobody : (j : Handle) → number_at old j ≡ Some y.number → ⊥ = λ j there.
          let was = numbered_node old y.number j there in
          let same_handle : j ≡ k = apart y.number j k (first_numbers old mid first y.number j (grown_numbers old first.made first.grows y.number j there)) (first_numbers old mid first y.number k here) in
          no_some was.0 (sym q ∙ (ap (node_at old) (sym same_handle) ∙ was.1)) in
          ap (λ (x : RenderObject). x.frame) (sym value) ∙ (ap (λ (x : TreeNode RenderObject). x.value.frame) fresh_node.2 ∙ sym (new_unlaid nobody))

  -- one that was there between the phases
  was_there : (k : Handle) (v : RenderObject) → object_at ranged k ≡ Some v → IsNewUnlaid frames old v.number → v.frame ≡ between v.number
  was_there k v at new_unlaid =
      let put = put_back_keeps flushed ranged is_flushed.0 flushes.scrolls true flushes.corrected is_flushed.1 (flushes.plain is_flushed.0 is_flushed.1) k v at in
      let laid_out = flushed_so k put.0 put.1 in
      let begun = first_keeps old mid first k laid_out.0 laid_out.1 in
      let number : v.number ≡ begun.0.number = put.2.0 ∙ (laid_out.2.0 ∙ begun.2.0) in
      let framed : begun.0.frame ≡ frames begun.0.number = made_first k begun.0 begun.1 (subst (IsNewUnlaid frames old) number new_unlaid) in
      put.2.1 ∙ (laid_out.2.1 (begun.2.1 ∙ (framed ∙ ap frames (sym begun.2.0))) ∙ ap between (sym put.2.0))

  -- one that the second phase made
  is_new : (k : Handle) (m : TreeNode RenderObject) → node_at second.made k ≡ Some m → node_at ranged k ≡ None → IsNewUnlaid frames old m.value.number → m.value.frame ≡ between m.value.number
  is_new k m e gone new_unlaid =
      let n = m.value.number in
      let fresh_node = second.grows.fresh k m gone e in
      let here : number_at second.made k ≡ Some n = number_there second.made k m e in
      let not_there : (j : Handle) → number_at ranged j ≡ Some n → ⊥ = λ j there.
      let was = numbered_node ranged n j there in
      let same_handle : j ≡ k = made_apart n j k (grown_numbers ranged second.made second.grows n j there) here in no_some was.0 (sym gone ∙ (ap (node_at ranged) (sym same_handle) ∙ was.1)) in
      let nobody : (j : Handle) → number_at old j ≡ Some n → ⊥ = λ j there. not_there j (built_numbers mid ranged stays n j (first_numbers old mid first n j (grown_numbers old first.made first.grows n j there))) in
      let none_mid : (j : Handle) → In j f → number_at mid j ≡ Some n → ⊥ = λ j inside there. not_there j (built_numbers mid ranged stays n j there) in
      ap (λ (x : TreeNode RenderObject). x.value.frame) fresh_node.2 ∙ (sym (new_unlaid nobody) ∙ sym (not_found n none_mid))

  made_second : (k : Handle) (v : RenderObject) → object_at second.made k ≡ Some v → IsNewUnlaid frames old v.number → v.frame ≡ between v.number
  made_second k v at new_unlaid = by (node_at second.made k) refl (node_at ranged k) refl
    where
      by : (x : Option (TreeNode RenderObject)) → node_at second.made k ≡ x → (z : Option (TreeNode RenderObject)) → node_at ranged k ≡ z → v.frame ≡ between v.number
      by None e z q = no_some v (sym (ap (option_map (λ (n : TreeNode RenderObject). n.value)) e) ∙ at)
      by (Some n) e (Some m) q =
          let value : m.value ≡ v =
          ap (λ (x : TreeNode RenderObject). x.value) (same_Some (sym (second.grows.keeps k (is_node (node_at ranged k) m q) ∙ q) ∙ e))
          ∙ same_Some (sym (ap (option_map (λ (x : TreeNode RenderObject). x.value)) e) ∙ at) in
          was_there k v (ap (option_map (λ (x : TreeNode RenderObject). x.value)) q ∙ ap (λ (x : RenderObject). Some x) value) new_unlaid
      by (Some n) e None q =
          let value : n.value ≡ v = same_Some (sym (ap (option_map (λ (x : TreeNode RenderObject). x.value)) e) ∙ at) in
          subst (λ (x : RenderObject). x.frame ≡ between x.number) value (is_new k n e q (subst (λ (x : RenderObject). IsNewUnlaid frames old x.number) (sym value) new_unlaid))

  -- ---- numbers of the build

  -- what holds of each number of the build holds of that of each node
  number_holds : (Q : ℕ → Type 0) (q : Option Handle) (x : Forest RenderObject) → Stands (node_at brought) q x → AllNumbers Q (renders_of x) → (k : Handle) → In k x → (o : RenderObject) → object_at brought k ≡ Some o → Q o.number
  number_holds Q q none stands all k inside o at = absurd (omega (arith, inside))
  number_holds Q q (tree h w below rest) stands all k inside o at = elim (cases_same h k) [
    | inl e ↦ subst Q (ap (λ (x : RenderObject). x.number) (same_Some (sym (ap (option_map (λ (n : TreeNode RenderObject). n.value)) stands.0) ∙ (ap (object_at brought) e ∙ at)))) all.0.0
    | inr ne ↦
        let miss : cond {A = ℕ} (same h k) 1 0 ≡ 0 = ap (λ (b : Bool). cond {A = ℕ} b 1 0) (same-ne h k ne) in
        elim (is_zero (count k below)) [
          | inl gone ↦ number_holds Q q rest stands.2 all.1 k (omega (arith, inside, miss, gone)) o at
          | inr there ↦ number_holds Q (Some h) below stands.1 all.0.1 k there o at
        ]
  ]

  pub frames_between : FramesAgree between brought
  frames_between k o at = by (node_at brought k) refl
    where
      by : (x : Option (TreeNode RenderObject)) → node_at brought k ≡ x → o.frame ≡ between o.number
      by None e = no_some o (sym (ap (option_map (λ (n : TreeNode RenderObject). n.value)) e) ∙ at)
      by (Some n) e =
          let inside : In k (root_tree brought) = all_inside brought alone.tree alone.alone k (is_node (node_at brought k) n e) in
          let new_unlaid : IsNewUnlaid frames old o.number =
          number_holds (IsNewUnlaid frames old) None (root_tree brought) (root_stands brought alone.tree) (subst (AllNumbers (IsNewUnlaid frames old)) (sym whole) (unlaid, tt)) k inside o at in
          let drawn = second_keeps ranged brought second k o at in
          drawn.2.1 ∙ (made_second k drawn.0 drawn.1 (subst (IsNewUnlaid frames old) drawn.2.0 new_unlaid) ∙ ap between (sym drawn.2.0))

-- a number of the build is a node's
named_all : (frames : Frames) (t : Tree RenderObject) (q : Option Handle) (x : Forest RenderObject) → Stands (node_at t) q x → AllNumbers (IsNewUnlaid frames t) (renders_of x)
named_all frames t q none stands = tt
named_all frames t q (tree h o kids rest) stands =
    (((λ nobody. absurd (nobody h (number_there t h _ stands.0))), named_all frames t (Some h) kids stands.1), named_all frames t q rest stands.2)

pub build_named : (frames : Frames) (t : Tree RenderObject) (top : Render) → IsTree t → renders_of (root_tree t) ≡ more_renders top no_renders → NewAreUnlaid frames t top
build_named frames t top is whole = (subst (AllNumbers (IsNewUnlaid frames t)) whole (named_all frames t None (root_tree t) (root_stands t is))).0
