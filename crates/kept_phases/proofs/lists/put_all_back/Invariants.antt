-- What is still to be put back is pending, and nothing else has changed.
use Rattle.std.proofs.Common.{◌≡◌, ℕ, List, map, drop}
use Rattle.fx_geom.specs.declared.shapes.Size.{Size}
use Rattle.fx_handles.specs.declared.Handle.{Handle}
use Rattle.delegates.specs.Table.{Plug}
use Rattle.layout_form.specs.Object.{Setting}
use Rattle.kept_layouts.specs.Here.{KeepsLayouts}
use Rattle.paint_owner.specs.PaintOwner.{PaintOwner}
use Rattle.kept_phases.specs.Layers.{KeepsLayers}
use Rattle.kept_phases.specs.Lists.{ButOffsets, Pending, AreWanted, PutsBack}
use Rattle.kept_phases.proofs.lists.put_all_back.Given as goal

abbrev pub invariant-loop-h : goal.invariant-loop-h
invariant-loop-h l =
    ButOffsets l.fn.r.tree l.r.tree
    × ((wanted : Handle → ℕ) → AreWanted wanted l.offsets → Pending wanted (map (λ (p : Handle × ℕ). p.0) l.offsets) l.fn.r.tree → Pending wanted (map (λ (p : Handle × ℕ). p.0) (drop l.h-index l.offsets)) l.r.tree)
    × ((s : Setting) → KeepsLayouts s l.fn.r.tree → KeepsLayouts s l.r.tree)
    × ((cell : Size) (delegates : List Plug) (o : PaintOwner) → KeepsLayers cell delegates o l.fn.r.tree → KeepsLayers cell delegates o l.r.tree)
    × (l.r.scale ≡ l.fn.r.scale) × (l.r.spent ≡ l.fn.r.spent)
    × ((wanted : Handle → ℕ) → AreWanted wanted l.offsets → PutsBack wanted l.fn.r.tree l.r.tree)
