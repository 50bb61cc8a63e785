-- Between the phases of a build: its lazy lists wait for their items.
use Rattle.std.proofs.Common.{◌≡◌, ℕ, ◌+◌, ◌≤◌, ◌^◌, false, IfSome, Option, Some, None, length, refl, ap, ◌∙◌, arith}
use Rattle.std.specs.List.{All}
use Rattle.std.specs.Option.{option_to_list}
use Rattle.fx_handles.specs.Arena.{used_count}
use Rattle.node_tree.specs.Forest.{Forest, size}
use Rattle.node_tree.specs.Forest.Forest.{none, tree}
use Rattle.node_tree.specs.Tree.{Tree}
use Rattle.node_tree.proofs.TreeLemmas.{size_is}
use Rattle.widget_model.specs.Plain.{PlainWidget}
use Rattle.widget_model.specs.Typed.{Declarations, IsTypedWidget}
use Rattle.plain_tree.specs.At.{numbers_of}
use Rattle.plain_tree.specs.Laws.{AllDiffer, render_numbers_in, VanishAlone}
use Rattle.plain_tree.specs.PlainNode.{PlainNode, count_of, counts_of, nodes_of as listed}
use Rattle.plain_tree.specs.Projection.{render_of}
use Rattle.plain_tree.specs.Render.{Render, no_renders, more_renders, renders_of as renders_listed}
use Rattle.program_check.specs.Checked.{PlainChecked}
use Rattle.program_check.specs.TypedChecked.{IsTypedChecked}
use Rattle.template_build.specs.Program.{declarations_of}
use Rattle.layout_form.specs.Fits.{CanBeLaidOut}
use Rattle.layout_form.specs.Object.{setting_of}
use Rattle.layout_owner.specs.Views.{NumbersTell}
use Rattle.element_tree.specs.Element.{Element}
use Rattle.element_tree.specs.Nodes.{nodes_of}
use Rattle.global_keys.specs.Holders.{Registry}
use Rattle.render_tree.specs.Object.{RenderObject}
use Rattle.render_tree.specs.Plain.{renders_of, root_tree}
use Rattle.render_sync.specs.Numbering.{NumbersDiffer}
use Rattle.kept_layouts.specs.Items.{ListsUnasked, AllListsUnasked}
use Rattle.kept_phases.specs.Lists.{StaysBuilt, HasRanges}
use Rattle.kept_phases.specs.Redraws.{KeepsKinds}
use Rattle.build_form.specs.Entering.{Blueprint}
use Rattle.build_form.specs.FullBuild.{Screen, first_tree}
use Rattle.build_form.specs.KeptStates.{HadOrIsNew, EachIs}
use Rattle.build_form.specs.Program.{blueprint_of}
use Rattle.build_form.specs.Step.{Progress, gives}
use Rattle.build_form.specs.WellBuilt.{IsWellBuilt}
use Rattle.build_walk.specs.Merging.{ListsAreBare}
use Rattle.build_owner.specs.Phases.{IsFirstPhase, first_node_of, IsLaidOut, IsWholeBuild}
use Rattle.build_owner.specs.Standing.{Beginning, next_at}
use Rattle.build_owner.specs.Waiting.{WaitingBuild}
use Rattle.frame_owner.specs.Building.{WaitsForItems}
use Rattle.frame_owner.proofs.Kept.{later_keeps_kinds}
use Rattle.frame_owner.proofs.LaysOut.{LaysOut, laid_out_with_items}
use Rattle.frame_owner.proofs.Numbers.{numbers_apart, first_apart, first_numbers_tell, second_apart}
use Rattle.frame_owner.proofs.Ranged.{ranged_for}
use Rattle.frame_owner.proofs.Roomy.{nodes_of_few}

-- laws of builds and of trees that they give
pub record Laws : Type 0 where
  pub well : (c : PlainChecked) (old : Option PlainNode) (next : ℕ) (root : PlainWidget) (tree : PlainNode) (s : Progress) → IsTypedChecked c → IfSome old (IsWellBuilt (declarations_of c)) → IsTypedWidget (declarations_of c) root
      → first_tree (blueprint_of c) old next root ≡ gives tree s → IsWellBuilt (declarations_of c) tree
  pub few : (b : Blueprint) (old : Option PlainNode) (next : ℕ) (root : PlainWidget) (tree : PlainNode) (s : Progress) → first_tree b old next root ≡ gives tree s → count_of tree ≤ b.nodes
  pub bare : (b : Blueprint) (old : Option PlainNode) (next : ℕ) (root : PlainWidget) (tree : PlainNode) (s : Progress) → first_tree b old next root ≡ gives tree s → ListsAreBare tree
  pub vanish : (d : Declarations) (n : PlainNode) → IsWellBuilt d n → VanishAlone n
  pub one : (n : PlainNode) → VanishAlone n → length (render_of n) ≡ 1
  pub can : (d : Declarations) (n : PlainNode) → IsWellBuilt d n → count_of n ≤ 2 ^ 44 → All CanBeLaidOut (render_of n)
  pub apart : (n : PlainNode) → AllDiffer (numbers_of n) → AllDiffer (render_numbers_in (renders_listed (render_of n)))

counted : (scrolled : ℕ → ℕ) (f : Forest Element) → counts_of (listed (nodes_of scrolled f)) ≡ size f
counted scrolled none = refl
counted scrolled (tree h e kids rest) = let a = counted scrolled kids in let b = counted scrolled rest in omega (arith, a, b)

-- the tree for which elements stand could be laid out: it has no more nodes than an arena has slots
pub could : (c : PlainChecked) (t : Tree Element) (r : Tree RenderObject) (g : Registry) (b : Beginning c t r g) → ((d : Declarations) (n : PlainNode) → IsWellBuilt d n → count_of n ≤ 2 ^ 44 → All CanBeLaidOut (render_of n))
    → used_count t.nodes ≤ 4194304 → IfSome b.old (λ n. All CanBeLaidOut (render_of n))
could c t r g b law few = by_old b.old b.stands.elements.nodes b.stands.elements.well
  where
    by_old : (old : Option PlainNode) → option_to_list old ≡ nodes_of b.scrolled b.stands.elements.forest → IfSome old (IsWellBuilt (declarations_of c)) → IfSome old (λ n. All CanBeLaidOut (render_of n))
    by_old None nodes well = tt
    by_old (Some n) nodes well =
        let all : count_of n + 0 ≡ size b.stands.elements.forest = ap (λ ns. counts_of (listed ns)) nodes ∙ counted b.scrolled b.stands.elements.forest in
        let used = size_is t b.stands.elements.forest b.stands.elements.is in
        law (declarations_of c) n well (omega (arith, all, used, few))

-- what waits after the first phase, from trees that were kept
abbrev pub waits_for : (c : PlainChecked) (t0 : Tree Element) (r0 : Tree RenderObject) (g0 : Registry) (b : Beginning c t0 r0 g0) (w : PlainWidget) (t : Tree Element) (mid : Tree RenderObject) (g : Registry) (l : WaitingBuild)
    → IsFirstPhase c t0 r0 g0 b w t mid g l → IfSome b.old (λ n. All CanBeLaidOut (render_of n)) → AllListsUnasked false (renders_of (root_tree r0)) → WaitsForItems c t mid g l
waits_for c t0 r0 g0 b w t mid g l q can unasked = record { elements = t0; renders = r0; registry = g0; begun = b; root = w; phase = q; could = can; unasked = unasked }

module _ (c : PlainChecked) (t : Tree Element) (mid : Tree RenderObject) (g : Registry) (l : WaitingBuild) (x : WaitsForItems c t mid g l) (laws : Laws) where
  abbrev first : PlainNode
  first = first_node_of x.phase

  well : IsWellBuilt (declarations_of c) first
  well = laws.well c x.begun.old (next_at x.elements) x.root first _ x.phase.checked x.begun.stands.elements.well x.phase.typed x.phase.walked.is

  one : length (render_of first) ≡ 1
  one = laws.one first (laws.vanish (declarations_of c) first well)

  can : All CanBeLaidOut (render_of first)
  can =
      let few = laws.few (blueprint_of c) x.begun.old (next_at x.elements) x.root first _ x.phase.walked.is in
      let limit = nodes_of_few c in
      laws.can (declarations_of c) first well (omega (arith, few, limit))

  pub lays_out : LaysOut (first_node_of x.phase) mid
  lays_out = laid_out_with_items c x.elements x.renders x.registry x.begun x.root t mid g l x.phase x.could can one well x.unasked

  pub old_apart : NumbersDiffer x.renders
  old_apart = numbers_apart c x.begun.marks x.begun.old x.begun.scrolled x.elements x.renders x.registry x.begun.stands laws.apart

  module _ (screen : Screen) (r : Tree RenderObject) (stays : StaysBuilt mid r)
      (ranges : (top : Render) → renders_of (root_tree mid) ≡ more_renders top no_renders → NumbersTell mid → ListsUnasked false top → HasRanges (setting_of screen.scale screen.delegates) screen.scale.widen screen.view top r) where
    -- a layout of the lists between the phases
    abbrev pub laid_out : IsLaidOut c t r g l
    laid_out = record {
      elements = x.elements;
      renders = x.renders;
      registry = x.registry;
      begun = x.begun;
      root = x.root;
      mid = mid;
      phase = x.phase;
      since = record { drawn = stays.drawn; widgets = stays.widgets; handles = stays.handles };
      screen = screen;
      ranged = ranged_for screen first lays_out.top r lays_out.bare
          (ranges lays_out.top lays_out.renders (first_numbers_tell c x.elements x.renders x.registry x.begun x.root t mid g l x.phase old_apart) lays_out.unasked) l.lists;
    }

    pub later_apart : (t2 : Tree Element) (r2 : Tree RenderObject) (g2 : Registry) (p : IsWholeBuild c x.elements x.renders x.registry x.begun screen x.root r t2 r2 g2) → NumbersDiffer p.made
    later_apart t2 r2 g2 p = second_apart c x.elements x.renders x.registry x.begun x.root t mid g l x.phase screen r stays t2 r2 g2 p old_apart

    pub later_kinds : (t2 : Tree Element) (r2 : Tree RenderObject) (g2 : Registry) (p : IsWholeBuild c x.elements x.renders x.registry x.begun screen x.root r t2 r2 g2)
        → EachIs (HadOrIsNew (blueprint_of c) x.begun.old (next_at x.elements)) p.tree → KeepsKinds r p.redrawn.committed
    later_kinds t2 r2 g2 p states =
        later_keeps_kinds c x.elements x.renders x.registry x.begun x.root t mid g l x.phase screen r t2 r2 g2 p
        (laws.bare (blueprint_of c) x.begun.old (next_at x.elements) x.root first _ x.phase.walked.is) (first_apart c x.elements x.renders x.registry x.begun x.root t mid g l x.phase old_apart) stays states
