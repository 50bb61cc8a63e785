-- The steps of a frame, each of which builds one component: after it a build of the tree that it leaves comes to what it would have come to,
-- and has as many components less to build.
use Rattle.std.specs.Prelude.{◌≡◌, ℕ, ◌+◌, ◌==◌, true, not, Some, List, filter}
use Rattle.std.specs.List.{find}
use Rattle.widget_model.specs.Plain.{PlainWidget, look_of}
use Rattle.plain_tree.specs.At.{numbers_of}
use Rattle.plain_tree.specs.PlainNode.{PlainNode, number_of, widget_of, fields_of}
use Rattle.build_form.specs.BuildRole.{build_role_of}
use Rattle.build_form.specs.Entering.{Blueprint, depth_limit}
use Rattle.build_form.specs.FullBuild.{Screen, full_build}
use Rattle.build_walk.specs.Fresh.{HasOutput}
use Rattle.build_walk.specs.Past.{is_marked}
use Rattle.build_walk.specs.Standing.{all_builds}
use Rattle.settled_builds.specs.Places.{NodePlace, spot_at}
use Rattle.settled_builds.specs.Retaken.{can_retake_below}
use Rattle.settled_builds.specs.Settled.{AreItsOwn}

-- from a tree, of which some numbers are marked, a build of a root comes to the same as from another one with other marks, and builds so many
-- components more
pub record Leads (b : Blueprint) (next : ℕ) (root : PlainWidget) (tree : PlainNode) (marks : List ℕ) (new : PlainNode) (left : List ℕ) (builds : ℕ) : Type 0 where
  pub full : (screen : Screen) → full_build b screen (Some tree) next root ≡ full_build b screen (Some new) next root
  pub count : (screen : Screen) → all_builds b screen (Some tree) marks next root ≡ builds + all_builds b screen (Some new) left next root

-- marks without a number
abbrev pub without : ℕ → List ℕ → List ℕ
without wanted marks = filter (λ k. not (k == wanted)) marks

-- a number is the first one of a tree, in preorder, that is marked, and this is where it stands
pub record IsFirstMarked (b : Blueprint) (marks : List ℕ) (wanted : ℕ) (tree : PlainNode) (p : NodePlace) : Type 0 where
  pub first : find (is_marked marks) (numbers_of tree) ≡ Some wanted
  pub at : spot_at wanted depth_limit b.defaults 0 0 tree ≡ Some p

-- the body of the component at a spot gives these widgets there
pub record IsGivenAt (b : Blueprint) (ws : List PlainWidget) (p : NodePlace) : Type 0 where
  pub own : AreItsOwn (build_role_of (look_of (widget_of p.node))) (widget_of p.node) ws
  pub output : HasOutput b (build_role_of (look_of (widget_of p.node))) (widget_of p.node) (fields_of p.node) p.values (number_of p.node) ws

-- and its children can take them, in any order
pub record CanTakeAnew (b : Blueprint) (ws : List PlainWidget) (p : NodePlace) : Type 0 where
  pub given : IsGivenAt b ws p
  pub can : can_retake_below ws p.node ≡ true
