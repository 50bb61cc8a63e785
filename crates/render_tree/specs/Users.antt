-- Which nodes use a delegate, by its name.
use Rattle.std.specs.Prelude.{◌≡◌, ◌≤◌, ◌||◌, ℕ, Bool, false, nat_lt, List, Option, Some, None, option_and_then, if◌then◌else◌}
use Rattle.std.specs.List.{list_any}
use Rattle.std.specs.Str.{bytes_eq}
use Rattle.fx_handles.specs.declared.Handle.{Handle}
use Rattle.handle_groups.specs.Groups.{Groups, stands_under, with_standing, room_in}
use Rattle.node_tree.specs.Forest.{Forest, count}
use Rattle.node_tree.specs.Tree.{Tree, subtree_at}
use Rattle.layout_form.specs.Layout.{delegate_of}
use Rattle.render_tree.specs.Object.{RenderObject, object_look}
use Rattle.render_tree.specs.Tree.{object_at}

-- the name of the delegate that is used at a handle, if there is a node that uses one
abbrev pub delegate_at : Tree RenderObject → Handle → Option (List ℕ)
delegate_at t h = option_and_then (λ o. delegate_of (object_look o)) (object_at t h)

-- whether a delegate has this name
abbrev pub is_called : List ℕ → Option (List ℕ) → Bool
is_called name None = false
is_called name (Some d) = bytes_eq d name

-- the node at the handle uses the delegate of a name
abbrev pub uses : Tree RenderObject → List ℕ → Handle → Bool
uses t name h = is_called name (delegate_at t h)

-- the groups name exactly the nodes that use a delegate, by its name
abbrev pub AreUsers : Groups → Tree RenderObject → Type 0
AreUsers g t = (name : List ℕ) (h : Handle) → stands_under g name h ≡ uses t name h

-- there is room for one more user of a delegate, if there is one
abbrev pub HasRoom : Groups → Option (List ℕ) → Type 0
HasRoom g None = Unit {0}
HasRoom g (Some d) = 1 ≤ room_in g.groups d

-- who stands under each name, once it is said of one handle and the name of a delegate, if there is one
abbrev pub standing : Bool → Option (List ℕ) → Handle → (List ℕ → Handle → Bool) → List ℕ → Handle → Bool
standing b None h stands name k = stands name k
standing b (Some d) h stands name k = with_standing b d h stands name k

-- whether a handle stands in a forest, and whether it stands at or below one of these nodes
abbrev pub is_in : Handle → Forest RenderObject → Bool
is_in k f = nat_lt 0 (count k f)

abbrev pub is_at_or_below : Tree RenderObject → List Handle → Handle → Bool
is_at_or_below t hs k = list_any (λ h. is_in k (subtree_at t h)) hs

-- the groups name exactly the nodes that use a delegate, but for those that are gone from them
abbrev pub AreUsersBut : (Handle → Bool) → Groups → Tree RenderObject → Type 0
AreUsersBut gone g t = (name : List ℕ) (k : Handle) → stands_under g name k ≡ is_called name (if gone k then None else delegate_at t k)

-- all users at and below these nodes are gone from the groups
abbrev pub Drops : Tree RenderObject → (Handle → Bool) → Groups → Groups → Type 0
Drops t leaves old new = (gone : Handle → Bool) → AreUsersBut gone old t → AreUsersBut (λ k. gone k || leaves k) new t
