-- Render nodes without the items of lazy lists.
use Rattle.std.specs.Prelude.{◌≡◌, Bool, true, false, ◌||◌, ◌&&◌, not, if◌then◌else◌}
use Rattle.plain_tree.specs.Laid.{Laid, laid, Laids, no_laids, more_laids}
use Rattle.plain_tree.specs.Render.{Render, render, Renders, no_renders, more_renders}
use Rattle.work_roles.specs.WorkRole.{is_intrinsic, is_viewport}
use Rattle.layout_walk.specs.Rules.{is_list}

-- the same render nodes, but for what is below lazy lists
abbrev mutual
  pub without_items : Render → Render
  without_items (render number look told scroll count children) =
      render number look told scroll count (if is_list look then no_renders else all_without_items children)

  pub all_without_items : Renders → Renders
  all_without_items no_renders = no_renders
  all_without_items (more_renders r rs) = more_renders (without_items r) (all_without_items rs)

-- no lazy list is asked how much it would like: between it and an IntrinsicWidth or an IntrinsicHeight above it stands a Viewport. The
-- Boolean says whether the node is asked
abbrev mutual
  pub ListsUnasked : Bool → Render → Type 0
  ListsUnasked asked (render number look told scroll count children) =
      (is_list look ≡ true → asked ≡ false) × AllListsUnasked (is_intrinsic look || (asked && not (is_viewport look))) children

  pub AllListsUnasked : Bool → Renders → Type 0
  AllListsUnasked asked no_renders = Unit {0}
  AllListsUnasked asked (more_renders r rs) = ListsUnasked asked r × AllListsUnasked asked rs

-- no lazy list that was laid out has items
abbrev mutual
  pub HasNoItems : Laid → Type 0
  HasNoItems (laid number look facts children) = (is_list look ≡ true → children ≡ no_laids) × HaveNoItems children

  pub HaveNoItems : Laids → Type 0
  HaveNoItems no_laids = Unit {0}
  HaveNoItems (more_laids at l ls) = HasNoItems l × HaveNoItems ls
