-- What a screen keeps that shows such builds one after another.
use Rattle.std.specs.Prelude.{◌≡◌, ℕ, false, List, unwrap_or}
use Rattle.delegates.specs.Table.{Plug}
use Rattle.plain_tree.specs.Render.{Renders}
use Rattle.render_tree.specs.Plain.{renders_of, root_tree}
use Rattle.screen_owner.specs.Last.{window_in}
use Rattle.screen_owner.specs.Screen.{KeptScreen, IsRight}
use Rattle.worked_calls.specs.Grown.{IsTame, EachOf}

-- the render nodes of the last frame
abbrev pub nodes_in : KeptScreen → Renders
nodes_in x = renders_of (root_tree x.nodes)

-- how far their Viewport is scrolled, 0 where there is none
abbrev pub scrolled_in : Renders → ℕ
scrolled_in rs = unwrap_or (window_in 9 rs) 0

-- a screen that can show the next build, where the delegates mean this
pub record IsReady (delegates : List Plug) (x : KeptScreen) : Type 0 where
  pub awake : x.spent ≡ false
  pub right : IsRight delegates x
  pub tame : EachOf IsTame (nodes_in x)
