-- The marks that the change of a node, or of several, sets: a flag up to the nearest boundary, and "something below" at each node
-- above it. What a node has above it goes down with the definitions, which read no marks.
use Rattle.std.specs.Prelude.{Bool, false, not, ◌&&◌, ◌||◌, List, [], ◌∷◌}
use Rattle.fx_handles.specs.declared.Handle.{Handle}
use Rattle.fx_handles.specs.Handle.{same}
use Rattle.node_tree.specs.Forest.{Forest}
use Rattle.node_tree.specs.Forest.Forest.{none, tree}
use Rattle.tree_marks.specs.Marking.{Above, Marking, within, is_boundary}

-- the handle stands in the list
abbrev pub listed : Handle → List Handle → Bool
listed h [] = false
listed h (c ∷ cs) = same h c || listed h cs

module _ {V : Type 0} where
  -- the node stands in the forest
  abbrev pub has_node : Handle → Forest V → Bool
  has_node h none = false
  has_node h (tree k v kids rest) = same k h || (has_node h kids || has_node h rest)

  -- a node of the list stands in the forest
  abbrev pub has_listed : List Handle → Forest V → Bool
  has_listed cs none = false
  has_listed cs (tree k v kids rest) = listed k cs || (has_listed cs kids || has_listed cs rest)

module _ {V : Type 0} (m : Marking V) where
  -- whether a climb from a node comes out of the forest at its top: no node from there up is a boundary
  abbrev pub climbs : Above → Handle → Forest V → Bool
  climbs p h none = false
  climbs p h (tree k v kids rest) =
      ((same k h || climbs (within m p v) h kids) && not (is_boundary m p v)) || climbs p h rest

  -- the marks that the change of one node sets; where "also", the node itself has "something below" too
  abbrev pub mark : Bool → Above → Handle → Forest V → Forest V
  mark also p h none = none
  mark also p h (tree k v kids rest) =
      tree k
      (m.marked ((same k h || climbs (within m p v) h kids) && m.takes p.top v) (has_node h kids || (also && same k h)) v)
      (mark also (within m p v) h kids)
      (mark also p h rest)

  -- those of several nodes, one after another
  abbrev pub mark_all : Bool → Above → List Handle → Forest V → Forest V
  mark_all also p [] f = f
  mark_all also p (c ∷ cs) f = mark_all also p cs (mark also p c f)

  -- whether the climb from some node of a list comes out of the forest
  abbrev pub some_climbs : List Handle → Above → Forest V → Bool
  some_climbs cs p none = false
  some_climbs cs p (tree k v kids rest) =
      ((listed k cs || some_climbs cs (within m p v) kids) && not (is_boundary m p v)) || some_climbs cs p rest

  -- the marks of all nodes of a list, set on one way through the forest
  abbrev pub sweep : Bool → List Handle → Above → Forest V → Forest V
  sweep also cs p none = none
  sweep also cs p (tree k v kids rest) =
      tree k
      (m.marked ((listed k cs || some_climbs cs (within m p v) kids) && m.takes p.top v) (has_listed cs kids || (also && listed k cs)) v)
      (sweep also cs (within m p v) kids)
      (sweep also cs p rest)
