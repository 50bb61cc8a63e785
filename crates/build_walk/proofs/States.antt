-- The states of a session stay such that a build may keep outputs.
use Rattle.std.proofs.Common.{◌≡◌, ℕ, eqb, Bool, true, false, cond, Option, Some, None, IfSome, option_map, List, [], ◌∷◌, ◌++◌, sym, subst}
use Rattle.std.specs.Prelude.{ℤ}
use Rattle.fx_expr.specs.declared.handlers.Handler.{Handler}
use Rattle.fx_expr.specs.declared.values.Value.{Value}
use Rattle.fx_expr.specs.Sets.{fields_after}
use Rattle.plain_tree.specs.At.{changed_at, having_fields, having_scroll}
use Rattle.plain_tree.specs.PlainNode.{PlainNode, fields_of}
use Rattle.program_check.specs.Checked.{PlainChecked}
use Rattle.plain_tree.specs.Offsets.{offset_at}
use Rattle.build_form.specs.Entering.{Blueprint}
use Rattle.build_form.specs.FullBuild.{built}
use Rattle.build_form.specs.Program.{blueprint_of}
use Rattle.session_form.specs.Framing.{screen_of, built_of, laid_of, framed}
use Rattle.session_form.specs.Handlers.{set_by, handled}
use Rattle.session_form.specs.State.{SessionState}
use Rattle.build_walk.specs.Fresh.{HasFreshOutputs}
use Rattle.build_walk.specs.FreshState.{IsFreshState}
use Rattle.build_walk.proofs.Editing.{fields_fresh, scroll_fresh, offsets_fresh}
use Rattle.build_walk.proofs.Made.{build_fresh}

module _ (b : Blueprint) (marks : List ℕ) (values : List Value) where
  pub fields_in : (f : PlainNode → List Value) (k : ℕ) (tree : Option PlainNode) → IfSome tree (HasFreshOutputs b marks values)
      → IfSome (option_map (changed_at (λ m. having_fields (f m) m) k) tree) (HasFreshOutputs b (marks ++ k ∷ []) values)
  fields_in f k None h = tt
  fields_in f k (Some n) h = fields_fresh b marks values f k n h

  pub scroll_in : (offset k : ℕ) (tree : Option PlainNode) → IfSome tree (HasFreshOutputs b marks values) → IfSome (option_map (changed_at (having_scroll offset) k) tree) (HasFreshOutputs b marks values)
  scroll_in offset k None h = tt
  scroll_in offset k (Some n) h = scroll_fresh b marks values offset k n h

pub framed_fresh : (s : SessionState) (tree : PlainNode) (next : ℕ) → built_of s ≡ built tree next → IsFreshState (framed s tree next)
framed_fresh s tree next is =
    let b = blueprint_of s.program in
    offsets_fresh b [] b.defaults (λ number. offset_at number (laid_of (screen_of s) tree)) tree (build_fresh b (screen_of s) s.tree s.next next s.root tree is)

handled_when : (t : Bool) (s u : SessionState) → IsFreshState s → IsFreshState u → IsFreshState (cond t s u)
handled_when true s u h k = h
handled_when false s u h k = k

pub handled_fresh : (h : Handler) (dx dy : ℤ) (s : SessionState) → IsFreshState s → IsFreshState (handled h dx dy s)
handled_fresh h dx dy s fresh =
    let b = blueprint_of s.program in
    handled_when (eqb h.owner 0) s (record s { tree = option_map (changed_at (set_by h dx dy) h.owner) s.tree; marks = s.marks ++ h.owner ∷ [] }) fresh
    (fields_in b s.marks b.defaults (λ n. fields_after h.sets (fields_of n) dx dy) h.owner s.tree fresh)

abbrev Fresh : PlainChecked → Option PlainNode → List ℕ → Type 0
Fresh p tree marks = IfSome tree (HasFreshOutputs (blueprint_of p) marks (blueprint_of p).defaults)

pub kept_fresh : (s t : SessionState) → t.program ≡ s.program → t.tree ≡ s.tree → t.marks ≡ s.marks → IsFreshState s → IsFreshState t
kept_fresh s t p tree marks h =
    subst (λ x. Fresh x t.tree t.marks) (sym p) (subst (λ x. Fresh s.program x t.marks) (sym tree) (subst (λ x. Fresh s.program s.tree x) (sym marks) h))
