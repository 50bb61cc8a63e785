-- What a paint flush does: the boundaries that it finds, what it does to each, and what is flagged and counted.
use Rattle.std.specs.Prelude.{◌≡◌, ℕ, suc, ◌+◌, Bool, true, false, not, ◌&&◌, ◌||◌, if◌then◌else◌, List, [], ◌∷◌, ◌++◌}
use Rattle.fx_handles.specs.declared.Handle.{Handle}
use Rattle.fx_handles.specs.Handle.{same}
use Rattle.handle_shelf.specs.Shelf.{with_kept}
use Rattle.node_tree.specs.Forest.{Forest}
use Rattle.node_tree.specs.Forest.Forest.{none, tree}
use Rattle.render_tree.specs.Object.{RenderObject}
use Rattle.kept_layers.specs.GroupPart.{GroupPart}
use Rattle.kept_layers.specs.Group.{is_boundary, opens, goes_in, group_count}
use Rattle.kept_layers.specs.KeptLayers.{KeptLayers, filled, or_nil}

abbrev pub is_nil : List Handle → Bool
is_nil [] = true
is_nil (h ∷ hs) = false

-- a painted boundary is stale that is flagged, or has something stale below it
abbrev pub is_stale : RenderObject → List Handle → Bool
is_stale o inner = o.shown && (is_boundary o && (o.needs_paint || not (is_nil inner)))

-- the stale boundaries, nested ones first
abbrev pub stale : Forest RenderObject → List Handle
stale none = []
stale (tree h o below rest) =
    let inner = if goes_in o then stale below else [] in
    inner ++ (if is_stale o inner then h ∷ [] else []) ++ stale rest

-- what the tree tells of a boundary: whether it is flagged, and the parts of its group as they are now
pub record Told : Type 0 where
  pub flag : Bool
  pub group : List GroupPart

-- a stale boundary done again: the parts of its group where it is flagged, and its layer
abbrev pub redo : (Handle → Told) → Handle → KeptLayers → KeptLayers
redo told h s =
    let parts = if (told h).flag then with_kept h (told h).group s.parts else s.parts in
    record { parts = parts; wholes = with_kept h (filled s.wholes (or_nil (parts h))) s.wholes }

-- and one after another
abbrev pub redo_all : (Handle → Told) → List Handle → KeptLayers → KeptLayers
redo_all told [] s = s
redo_all told (h ∷ hs) s = redo_all told hs (redo told h s)

-- the flags of the boundaries that are painted are taken away
abbrev pub calmed : RenderObject → RenderObject
calmed o = if goes_in o && is_boundary o then record o { needs_paint = false } else o

abbrev pub all_calmed : Forest RenderObject → Forest RenderObject
all_calmed none = none
all_calmed (tree h o below rest) = tree h (calmed o) (if goes_in o then all_calmed below else below) (all_calmed rest)

-- how many nodes are painted: those in the window whose boundary is flagged, where the flag of the boundary that the forest's tops
-- belong to is known
abbrev pub painted_count : Bool → Forest RenderObject → ℕ
painted_count flagged none = 0
painted_count flagged (tree h o below rest) =
    (if o.shown
    then (if is_boundary o
    then (if o.needs_paint then 1 else 0) + (if opens o then painted_count o.needs_paint below else 0)
    else (if flagged then 1 else 0) + (if opens o then painted_count flagged below else 0))
    else 0)
    + painted_count flagged rest

-- what boundaries cost in all
abbrev pub counted : (Handle → ℕ) → List Handle → ℕ
counted cost [] = 0
counted cost (h ∷ hs) = cost h + counted cost hs

-- a boundary costs itself and its group where it is flagged, and else nothing
abbrev pub IsCounted : (Handle → ℕ) → Forest RenderObject → Type 0
IsCounted cost none = Unit {0}
IsCounted cost (tree h o below rest) =
    (is_boundary o ≡ true → cost h ≡ (if o.needs_paint then suc (group_count below) else 0)) × IsCounted cost below × IsCounted cost rest

-- a handle stands in a list
abbrev pub is_listed : Handle → List Handle → Bool
is_listed k [] = false
is_listed k (h ∷ hs) = same k h || is_listed k hs

-- the flags of these handles are taken away, whatever the tree
abbrev pub calm_listed : List Handle → Handle → RenderObject → RenderObject
calm_listed hs k o = if is_listed k hs then record o { needs_paint = false } else o
