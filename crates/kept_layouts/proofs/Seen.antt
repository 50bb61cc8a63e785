-- What a node without a flag reads of its children, before a change and after it: what is stored of them, and how they are built.
use Rattle.std.proofs.Common.{◌≡◌, ap, refl, sym, ◌∙◌, Bool, Option, Some, None, option_map, List, ◌∷◌}
use Rattle.fx_geom.specs.declared.shapes.Offset.{Offset}
use Rattle.fx_handles.specs.declared.Handle.{Handle}
use Rattle.fx_handles.specs.ArenaLaws.{same_Some}
use Rattle.node_tree.specs.Forest.{TreeNode, Forest, tops, Stands}
use Rattle.node_tree.specs.Forest.Forest.{none, tree}
use Rattle.work_roles.specs.ForLayout.{for_layout}
use Rattle.work_roles.specs.WorkRole.{is_offstage}
use Rattle.plain_tree.specs.declared.laid.Frame.{Frame}
use Rattle.plain_tree.specs.declared.render.ParentData.{ParentData}
use Rattle.tree_marks.specs.Commit.{tops_by, stored_by, seen, IsUnchanged}
use Rattle.tree_marks.proofs.Settling.{heads}
use Rattle.tree_marks.proofs.Surviving.{stored-stands}
use Rattle.layout_form.specs.declared.asks.Ask.{Ask}
use Rattle.render_tree.specs.Object.{RenderObject, object_look}
use Rattle.render_tree.specs.Marks.{LayoutTold, LayoutStored, layout_marks, layout_parts, layout_told, layout_stored}
use Rattle.layout_walk.specs.Node.{tellings, stored, frame_or, ask_in}
use Rattle.layout_walk.specs.Rule.{ask_of, later}
use Rattle.layout_walk.specs.Full.{place_of, past}
use Rattle.layout_walk.specs.Here.{ShownAs, StandAs}
use Rattle.layout_rules.specs.Nodes.{layout_node, layout_nodes}
use Rattle.kept_layouts.proofs.Extents.{BuiltAlike}

-- what a parent that is offstage or isn't sees of the trees of two forests is the same
abbrev pub SeenAlike : Bool → Forest RenderObject → Forest RenderObject → Type 0
SeenAlike b none none = Unit {0}
SeenAlike b none (tree k w below rest) = ⊥
SeenAlike b (tree h v kids more) none = ⊥
SeenAlike b (tree h v kids more) (tree k w below rest) = (layout_told b v ≡ layout_told b w) × (layout_stored v ≡ layout_stored w) × SeenAlike b more rest

pub seen_alike : (b : Bool) (f g : Forest RenderObject) → tops_by (seen layout_marks layout_parts b) f ≡ tops_by (seen layout_marks layout_parts b) g → SeenAlike b f g
seen_alike b none none e = tt
seen_alike b none (tree k w below rest) e = absurd (cc)
seen_alike b (tree h v kids more) none e = absurd (cc)
seen_alike b (tree h v kids more) (tree k w below rest) e =
    let two = heads h k (Some (seen layout_marks layout_parts b v)) (Some (seen layout_marks layout_parts b w)) (tops_by (seen layout_marks layout_parts b) more) (tops_by (seen layout_marks layout_parts b) rest) e in
    let one : seen layout_marks layout_parts b v ≡ seen layout_marks layout_parts b w = same_Some two.part in
    (ap (λ x. x.told) one, ap (λ x. x.stored) one, seen_alike b more rest two.rest)

pub tellings_alike : (b : Bool) (f g : Forest RenderObject) → SeenAlike b f g → tellings (layout_nodes f) ≡ tellings (layout_nodes g)
tellings_alike b none none same = refl
tellings_alike b none (tree k w below rest) same = absurd same
tellings_alike b (tree h v kids more) none same = absurd same
tellings_alike b (tree h v kids more) (tree k w below rest) same =
    ap (λ (d : LayoutTold). d.parent_data ∷ tellings (layout_nodes more)) same.0 ∙ ap (λ (ds : List ParentData). w.parent_data ∷ ds) (tellings_alike b more rest same.2)

pub stored_alike : (b : Bool) (f g : Forest RenderObject) → SeenAlike b f g → stored (layout_nodes f) ≡ stored (layout_nodes g)
stored_alike b none none same = refl
stored_alike b none (tree k w below rest) same = absurd same
stored_alike b (tree h v kids more) none same = absurd same
stored_alike b (tree h v kids more) (tree k w below rest) same =
    ap (λ (s : LayoutStored). (λ (ask : Ask). frame_or s.frame) ∷ stored (layout_nodes more)) same.1
    ∙ ap (λ (gs : List (Ask → Frame)). (λ (ask : Ask). frame_or w.frame) ∷ gs) (stored_alike b more rest same.2)

-- they stand where those stand
shown_as : (ask : Option Ask) (at : Offset) (v w : RenderObject) → layout_stored v ≡ layout_stored w → ShownAs ask at (layout_node w) → ShownAs ask at (layout_node v)
shown_as None at v w same shown = ap (λ (s : LayoutStored). s.shown) same ∙ shown
shown_as (Some ask) at v w same shown = record {
  shown = ap (λ (s : LayoutStored). s.shown) same ∙ shown.shown;
  asked = ap (λ (s : LayoutStored). option_map ask_in s.frame) same ∙ shown.asked;
  offset = ap (λ (s : LayoutStored). s.offset) same ∙ shown.offset;
}

pub stand_alike : (b : Bool) (asks : List (Option Ask)) (places : List Offset) (f g : Forest RenderObject) → SeenAlike b f g → StandAs asks places (layout_nodes g) → StandAs asks places (layout_nodes f)
stand_alike b asks places none none same stand = tt
stand_alike b asks places none (tree k w below rest) same stand = tt
stand_alike b asks places (tree h v kids more) none same stand = absurd same
stand_alike b asks places (tree h v kids more) (tree k w below rest) same stand =
    (shown_as (ask_of asks) (place_of places) v w same.1 stand.0, stand_alike b (later asks) (past (ask_of asks) places) more rest same.2 stand.1)

-- ---- all that is below a node, where nothing is built otherwise

pub built_alike : (b : Bool) (at : Handle → Option (TreeNode RenderObject)) (p : Option Handle) (f g : Forest RenderObject) → Stands at p g → tops_by (layout_told b) f ≡ tops_by (layout_told b) g
    → IsUnchanged layout_marks layout_parts at f → BuiltAlike (layout_nodes f) (layout_nodes g)
built_alike b at p none none stands e same = tt
built_alike b at p none (tree k w below rest) stands e same = absurd (cc)
built_alike b at p (tree h v kids more) none stands e same = absurd (cc)
built_alike b at p (tree h v kids more) (tree k w below rest) stands e same =
    let two = heads h k (Some (layout_told b v)) (Some (layout_told b w)) (tops_by (layout_told b) more) (tops_by (layout_told b) rest) e in
    let node : same.0.0 ≡ record { parent = p; children = tops below; value = w } = same_Some (sym same.0.1 ∙ (ap at two.handle ∙ stands.0)) in
    let build = same.0.2 in (
      ap (λ x. x.look) build.own ∙ ap (λ (n : TreeNode RenderObject). for_layout (object_look n.value)) node,
      ap (λ (d : LayoutTold). d.parent_data) (same_Some two.part),
      built_alike (is_offstage (object_look v)) at (Some k) kids below stands.1
          (build.children ∙ (ap (λ (n : TreeNode RenderObject). stored_by (layout_told (is_offstage (object_look v))) at n.children) node ∙ stored-stands at (layout_told (is_offstage (object_look v))) (Some k) below stands.1)) same.1,
      built_alike b at p more rest stands.2 two.rest same.2,
    )
