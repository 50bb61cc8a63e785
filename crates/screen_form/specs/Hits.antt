-- What a point of a laid tree meets (RenderBox.hitTest). A node is asked with a point relative to it; it answers whether it is
-- hit, and adds nodes to the path.
use Rattle.std.specs.Prelude.{ℕ, neg_ℤ, Bool, true, false, if◌then◌else◌, List, [], ◌∷◌, ◌++◌, map}
use Rattle.fx_geom.specs.declared.shapes.Offset.{Offset}
use Rattle.fx_geom.specs.Offset.{side_sum, contains}
use Rattle.plain_tree.specs.Laid.{Laid, laid, Laids, no_laids, more_laids}
use Rattle.plain_tree.specs.Shown.{shown_size}
use Rattle.screen_form.specs.declared.hit_role.HitRole.{HitRole}
use Rattle.screen_form.specs.declared.hit_role.HitRole.TheVariants.{Ignores, Absorbs, Opaque, Translucent, Defers}
use Rattle.screen_form.specs.HitRole.{hit_role}

-- a point relative to a child, from the point relative to its parent and the child's offset
abbrev pub relative_to : Offset → Offset → Offset
relative_to p at = record { x = side_sum p.x (neg_ℤ at.x); y = side_sum p.y (neg_ℤ at.y) }

-- an answer, and the nodes that were added, in the order of adding
pub record Hit : Type 0 where
  pub answer : Bool
  pub added : List Laid

-- nothing is hit, and nothing added
abbrev pub missed : Hit
missed = record { answer = false; added = [] }

-- a node that is added after what is below it, with an answer
abbrev pub adding : Laid → Bool → Hit → Hit
adding node answer below = record { answer = answer; added = below.added ++ node ∷ [] }

-- where children were asked: one that defers is hit where a child was, and is added then
abbrev pub deferring : Laid → Hit → Hit
deferring node below = if below.answer then adding node true below else below

-- what comes of a node by its role, whether the point lies in it, and what its children gave: one that ignores is never
-- hit; none is where the point lies outside; one that absorbs is hit, adds nothing and asks no child; one that is opaque
-- counts itself; a translucent one is added in any case and answers as its children did
abbrev pub hit_by : HitRole → Bool → Laid → Hit → Hit
hit_by Ignores inside node below = missed
hit_by Absorbs inside node below = if inside then record { answer = true; added = [] } else missed
hit_by Opaque inside node below = if inside then adding node true below else missed
hit_by Translucent inside node below = if inside then adding node below.answer below else missed
hit_by Defers inside node below = if inside then deferring node below else missed

-- the first of two that is hit, where the second is asked only if the first isn't; what the first added stays
abbrev pub or_else : Hit → Hit → Hit
or_else first second =
    if first.answer then first else record { answer = second.answer; added = first.added ++ second.added }

-- a node that is asked at a point, and its children, from the last to the first until one is hit
unfoldable mutual
  pub asked : Laid → Offset → Hit
  asked (laid number look facts children) p =
      hit_by (hit_role look facts.plugged) (contains (shown_size facts.frame) p) (laid number look facts children)
      (asked_last children p)

  pub asked_last : Laids → Offset → Hit
  asked_last no_laids p = missed
  asked_last (more_laids at l ls) p = or_else (asked_last ls p) (asked l (relative_to p at))

-- the nodes that a point meets, the deepest first, and their numbers
abbrev pub path_of : Laid → Offset → List Laid
path_of root p = (asked root p).added

abbrev pub number_of : Laid → ℕ
number_of (laid number look facts children) = number

abbrev pub hits_of : Laid → Offset → List ℕ
hits_of root p = map number_of (path_of root p)
