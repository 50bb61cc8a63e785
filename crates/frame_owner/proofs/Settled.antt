-- A tree that is settled for the root of which that is kept.
use Rattle.std.proofs.Common.{◌≡◌, ℕ, Bool, false, Option, Some, None, IfSome, List, [], length, refl, subst, ◌∙◌, inl}
use Rattle.fx_handles.specs.declared.Handle.{Handle}
use Rattle.delegates.specs.Table.{Plug}
use Rattle.node_tree.specs.Forest.{Forest}
use Rattle.node_tree.specs.Forest.Forest.{none, tree}
use Rattle.node_tree.specs.Tree.{Tree}
use Rattle.tree_marks.specs.Marking.{IsMarking}
use Rattle.widget_model.specs.Plain.{PlainWidget}
use Rattle.program_check.specs.Checked.{PlainChecked}
use Rattle.template_build.specs.Program.{declarations_of}
use Rattle.plain_tree.specs.At.{numbers_of}
use Rattle.plain_tree.specs.Laws.{AllDiffer}
use Rattle.plain_tree.specs.PlainNode.{PlainNode, node, PlainNodes, no_nodes, more_nodes, nodes_of as listed}
use Rattle.plain_tree.specs.Projection.{render_of}
use Rattle.build_form.specs.Entering.{Blueprint}
use Rattle.build_form.specs.FullBuild.{Screen, built, full_build}
use Rattle.build_form.specs.Laws.{NumbersAre, AllNumbersAre}
use Rattle.build_form.specs.Program.{blueprint_of}
use Rattle.build_form.specs.WellBuilt.{IsWellBuilt}
use Rattle.element_tree.specs.Element.{Element}
use Rattle.element_tree.specs.Nodes.{nodes_of}
use Rattle.global_keys.specs.Holders.{Registry}
use Rattle.render_tree.specs.Marks.{layout_marks, paint_marks}
use Rattle.render_tree.specs.Object.{RenderObject}
use Rattle.work_sets.specs.Work.{render_root}
use Rattle.build_walk.specs.Past.{is_marked}
use Rattle.build_walk.specs.Standing.{all_builds}
use Rattle.build_walk.specs.Telling.{FlagsAre}
use Rattle.settled_builds.specs.Settled.{IsSettledFor}
use Rattle.build_owner.specs.Standing.{StandsFor}
use Rattle.frame_owner.specs.Building.{BuildsFrame}
use Rattle.frame_owner.specs.Frame.{KeptFrame, next_in}
use Rattle.frame_owner.specs.Framed.{builds_after}
use Rattle.frame_owner.specs.Standing.{IsSettledIn, IsSettledAs, IsKnownIn, FrameStandsFor}
use Rattle.frame_owner.proofs.Itself.{brings_itself}
use Rattle.frame_owner.proofs.Known.{known_tree}
use Rattle.frame_owner.proofs.Shown.{root_renders}
use Rattle.frame_owner.proofs.Windows.{KeepsApart, stands_alone}

-- ---- no number is marked

mutual
  none_marked : (n : PlainNode) → NumbersAre (λ number. is_marked [] number ≡ false) n
  none_marked (node number widget fields scroll index children) = (refl, none_marked_in children)

  none_marked_in : (ns : PlainNodes) → AllNumbersAre (λ number. is_marked [] number ≡ false) ns
  none_marked_in no_nodes = tt
  none_marked_in (more_nodes n ns) = (none_marked n, none_marked_in ns)

unflagged : (scrolled : ℕ → ℕ) (marks : List ℕ) (f : Forest Element) → AllNumbersAre (λ number. is_marked marks number ≡ false) (listed (nodes_of scrolled f)) → FlagsAre marks f → FlagsAre [] f
unflagged scrolled marks none off flags = tt
unflagged scrolled marks (tree h e kids rest) off flags =
    (flags.0 ∙ off.0.0, unflagged scrolled marks kids off.0.1 flags.1, unflagged scrolled marks rest off.1 flags.2)

-- marks of numbers that a tree doesn't have are none
unmarked_stands : (c : PlainChecked) (marks : List ℕ) (n : PlainNode) (scrolled : ℕ → ℕ) (t : Tree Element) (r : Tree RenderObject) (g : Registry) → NumbersAre (λ number. is_marked marks number ≡ false) n
    → StandsFor c marks (Some n) scrolled t r g → StandsFor c [] (Some n) scrolled t r g
unmarked_stands c marks n scrolled t r g off h =
    let s = h.elements in
    record {
      elements = record {
        forest = s.forest;
        is = s.is;
        root = s.root;
        nodes = s.nodes;
        well = s.well;
        numbered = s.numbered;
        fresh = s.fresh;
        outputs = s.outputs;
        flags = unflagged scrolled marks s.forest (subst (λ (ns : List PlainNode). AllNumbersAre (λ number. is_marked marks number ≡ false) (listed ns)) s.nodes (off, tt)) s.flags;
      };
      renders = h.renders;
      names = h.names;
    }

pub unmarked_settled : (b : Blueprint) (marks : List ℕ) (w : PlainWidget) (n : PlainNode) → IsSettledFor b marks w n → IsSettledFor b [] w n
unmarked_settled b marks w n s = record {
  widget = s.widget;
  place = s.place;
  small = s.small;
  settled = s.settled;
  fresh = s.fresh;
  within = s.within;
  few = s.few;
  keys = s.keys;
  unmarked = none_marked n;
}

-- ---- a build of it gives the tree that stands

-- laws of settled_builds, and of built trees
abbrev pub TreesStay : Type 0
TreesStay = (b : Blueprint) (screen : Screen) (marks : List ℕ) (next : ℕ) (root : PlainWidget) (tree : PlainNode) → IsSettledFor b marks root tree → full_build b screen (Some tree) next root ≡ built tree next

abbrev pub NothingIsBuilt : Type 0
NothingIsBuilt =
    (b : Blueprint) (screen : Screen) (marks : List ℕ) (next : ℕ) (root : PlainWidget) (tree : PlainNode) → IsSettledFor b marks root tree → AllDiffer (numbers_of tree)
    → all_builds b screen (Some tree) marks next root ≡ 0

abbrev pub OneIsLaidOut : Type 0
OneIsLaidOut = (c : PlainChecked) (n : PlainNode) → IsWellBuilt (declarations_of c) n → length (render_of n) ≡ 1

-- nothing of it is marked
unmarked_known : (c : PlainChecked) (marks : List ℕ) (n : PlainNode) (t : Tree Element) (keyless : Bool) (marked : Option Handle) → marked ≡ None → (o : Option PlainWidget)
    → IfSome o (IsKnownIn c marks (Some n) t keyless marked) → IfSome o (IsKnownIn c [] (Some n) t keyless marked)
unmarked_known c marks n t keyless marked free None settled = tt
unmarked_known c marks n t keyless None free (Some w) settled = record { settled = unmarked_settled (blueprint_of c) marks w n settled.settled; globals = settled.globals }
unmarked_known c marks n t keyless (Some h) free (Some w) settled = absurd (some_none free)
  where
    some_none : Some h ≡ None → ⊥
    some_none e = cc

module _ (c : PlainChecked) (delegates : List Plug) (marks : List ℕ) (x : KeptFrame) (w : PlainWidget) (is : x.settled ≡ Some w) where
  module _ (free : x.marked ≡ None) where
    of_tree : (tree : Option PlainNode) → FrameStandsFor c delegates marks tree x → IsSettledIn c marks tree w
    of_tree None h = known_tree c delegates marks x w is None h
    of_tree (Some n) h = subst (λ (o : Option Handle). IsSettledAs c marks x.elements o w n) free (known_tree c delegates marks x w is (Some n) h).settled

    -- no number is marked then
    goes_on : (n : PlainNode) → FrameStandsFor c delegates marks (Some n) x → FrameStandsFor c delegates [] (Some n) x
    goes_on n h = record {
      scrolled = h.scrolled;
      trees = unmarked_stands c marks n h.scrolled x.elements x.screen.nodes x.keys (of_tree (Some n) h).unmarked h.trees;
      right = h.right;
      unasked = h.unasked;
      settled = unmarked_known c marks n x.elements x.keyless x.marked free x.settled h.settled;
      still = h.still;
    }

pub stays : TreesStay → KeepsApart → OneIsLaidOut → IsMarking layout_marks → IsMarking paint_marks → (c : PlainChecked) (screen : Screen) (marks : List ℕ) (tree : Option PlainNode) (x : KeptFrame) (w : PlainWidget)
    (layouts : ℕ) → x.settled ≡ Some w → x.marked ≡ None → FrameStandsFor c screen.delegates marks tree x → BuildsFrame c screen tree w x x layouts layouts
stays law apart one layout paint c screen marks None x w layouts is free h = absurd (of_tree c screen.delegates marks x w is free None h)
stays law apart one layout paint c screen marks (Some n) x w layouts is free h = record {
  tree = n;
  is = law (blueprint_of c) screen marks (next_in x) w n (of_tree c screen.delegates marks x w is free (Some n) h);
  stands = goes_on c screen.delegates marks x w is free n h;
  brings = inl (
    brings_itself layout paint x.screen.nodes (stands_alone apart c marks (Some n) h.scrolled x.elements x.screen.nodes x.keys h.trees) (render_root n)
        (root_renders c marks n h.scrolled x.elements x.screen.nodes x.keys h.trees (one c n h.trees.elements.well)),
    refl,
  );
}

pub nothing_built : NothingIsBuilt → (c : PlainChecked) (screen : Screen) (marks : List ℕ) (tree : Option PlainNode) (x : KeptFrame) (w : PlainWidget) → x.settled ≡ Some w → x.marked ≡ None
    → FrameStandsFor c screen.delegates marks tree x → builds_after c screen x tree marks w ≡ 0
nothing_built law c screen marks None x w is free h = absurd (of_tree c screen.delegates marks x w is free None h)
nothing_built law c screen marks (Some n) x w is free h =
    law (blueprint_of c) screen marks (next_in x) w n (of_tree c screen.delegates marks x w is free (Some n) h) h.trees.elements.numbered.differ
