-- The users of delegates after a plan.
use Rattle.std.specs.Prelude.{◌≡◌, true, ℕ, List, [], ◌∷◌, Option, option_and_then, if◌then◌else◌}
use Rattle.fx_handles.specs.declared.Handle.{Handle}
use Rattle.fx_handles.specs.Handle.{same}
use Rattle.handle_groups.specs.Groups.{Groups, stands_under}
use Rattle.node_tree.specs.Tree.{Tree}
use Rattle.node_tree.specs.Plan.{PlanEntry}
use Rattle.widget_model.specs.Plain.{look_of}
use Rattle.layout_form.specs.Layout.{delegate_of}
use Rattle.render_tree.specs.Object.{RenderObject}
use Rattle.render_tree.specs.Redraw.{Redraw}
use Rattle.render_tree.specs.Tree.{object_at}
use Rattle.render_tree.specs.Users.{delegate_at, is_called}

-- the name of the delegate that an entry's widget uses, where there is a node at the handle
abbrev pub planned_delegate : Tree RenderObject → PlanEntry Redraw → Handle → Option (List ℕ)
planned_delegate t e k = option_and_then (λ _. delegate_of (look_of e.update.widget)) (object_at t k)

-- the name at each handle, once each entry in turn has given one to its own
abbrev pub renamed : Tree RenderObject → List (PlanEntry Redraw) → (Handle → Option (List ℕ)) → Handle → Option (List ℕ)
renamed t [] names k = names k
renamed t (e ∷ es) names k = renamed t es (λ c. if same e.at c then planned_delegate t e c else names c) k

-- a delegate that stands for a handle is the one that is used there
abbrev pub IsKnown : Tree RenderObject → (Handle → Option (List ℕ)) → Handle → Type 0
IsKnown t names h = (n : List ℕ) → is_called n (names h) ≡ true → is_called n (delegate_at t h) ≡ true

-- so it is at the handle of each entry
abbrev pub AreKnown : Tree RenderObject → (Handle → Option (List ℕ)) → List (PlanEntry Redraw) → Type 0
AreKnown t names [] = Unit {0}
AreKnown t names (e ∷ es) = IsKnown t names e.at × AreKnown t names es

-- these are the names under which handles stand
abbrev pub Names : Groups → (Handle → Option (List ℕ)) → Type 0
Names g names = (n : List ℕ) (k : Handle) → stands_under g n k ≡ is_called n (names k)

-- an entry's handle stands under the name of its widget's delegate alone
abbrev pub Renames : Tree RenderObject → PlanEntry Redraw → Groups → Groups → Type 0
Renames t e old new = (names : Handle → Option (List ℕ)) → IsKnown t names e.at → Names old names
    → Names new (λ c. if same e.at c then planned_delegate t e c else names c)

abbrev pub RenamesAll : Tree RenderObject → List (PlanEntry Redraw) → Groups → Groups → Type 0
RenamesAll t es old new = (names : Handle → Option (List ℕ)) → AreKnown t names es → Names old names → Names new (renamed t es names)
