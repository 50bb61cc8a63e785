-- The worked trees.
use Rattle.std.proofs.Common.{◌≡◌, ℕ, Bool, false, [], ◌∷◌, refl, arith}
use Rattle.fx_expr.specs.declared.values.Value.{Value}
use Rattle.reconcile.specs.Matching.{prefix_len, suffix_len, middle_of, keyed_match, match_at, matching}
use Rattle.widget_model.specs.Look.{colored_box}
use Rattle.widget_model.specs.Plain.{PlainWidget}
use Rattle.plain_tree.specs.PlainNode.{node, no_nodes}
use Rattle.plain_tree.specs.Projection.{projected, projected_all}
use Rattle.layout_form.specs.Layout.{object, objects}
use Rattle.build_form.specs.Entering.{Blueprint, enter}
use Rattle.build_form.specs.FullBuild.{Built, failed, built, live_ranges, filled, all_filled, both_phases, full_build}
use Rattle.build_form.specs.Worked.{screen, again, keyed, list_root, bare}
use Rattle.settled_builds.specs.Settled.{IsSettled, AreNewKeys}
use Rattle.settled_builds.specs.Taken.{IsMarkedFor}
use Rattle.settled_builds.specs.Worked.{IsSettledBuilt, reordered_tree, showing, two_shown, shown_nodes, recolored_nodes, WorksOfSettledTrees}
use Rattle.settled_builds.proofs.Staying.{tree_stays}

settled_stays : (p : Blueprint) (root : PlainWidget) (x : Built) → IsSettledBuilt p root x → again p root x ≡ x
settled_stays p root (failed fault) h = absurd h
settled_stays p root (built tree next) h = tree_stays p screen [] next root tree h

changes : again keyed list_root reordered_tree ≡ reordered_tree → ⊥
unfolding prefix_len suffix_len middle_of keyed_match match_at matching projected projected_all object objects enter live_ranges filled all_filled both_phases full_build
changes e = cc

box_settled : (number color place : ℕ) → IsSettled (node number (bare (colored_box color)) [] 0 place no_nodes)
box_settled number color place = (record { own = refl; order = tt; apart = refl }, tt)

shown_settled : (number below left right field place : ℕ) → IsSettled (shown_nodes number below left right field place)
shown_settled number below left right field place = (
  record { own = tt; order = (refl, tt); apart = refl },
  ((record { own = refl; order = (refl, (refl, tt)); apart = refl }, (box_settled left 4 0, (box_settled right 5 1, tt))), tt),
)

shown_keys : (met : Value → Bool) (number below left right field place : ℕ) → AreNewKeys met (shown_nodes number below left right field place)
shown_keys met number below left right field place = (tt, ((tt, ((tt, tt), ((tt, tt), tt))), tt))

marked_alone : IsMarkedFor showing (2 ∷ []) 2 two_shown recolored_nodes
marked_alone = record {
  stale = record {
    widget = refl;
    place = refl;
    small = refl;
    settled = (record { own = refl; order = (refl, (refl, tt)); apart = refl }, (shown_settled 2 3 4 5 9 0, (shown_settled 6 7 8 9 4 1, tt)));
    fresh = (tt, (((λ e. tt, ((λ e. tt, tt), ((λ e. tt, tt), tt))), tt), ((λ e. (refl, omega arith), ((λ e. tt, ((λ e. tt, tt), ((λ e. tt, tt), tt))), tt)), tt)));
    within = (((tt, (tt, tt)), tt), (((tt, (tt, tt)), tt), tt));
    few = omega arith;
    keys = (tt, (shown_keys (λ k. false) 2 3 4 5 9 0, (shown_keys (λ k. false) 6 7 8 9 4 1, tt)));
  };
  names = [];
  component = refl;
  marked = (refl, ((refl, ((refl, ((refl, tt), ((refl, tt), tt))), tt)), ((refl, ((refl, ((refl, tt), ((refl, tt), tt))), tt)), tt)));
}

pub works : WorksOfSettledTrees
unfolding prefix_len suffix_len middle_of keyed_match match_at matching projected projected_all object objects enter live_ranges filled all_filled both_phases full_build
works = record {
  listed = refl;
  readers = refl;
  moved = refl;
  scrolled = refl;
  settled = record {
    widget = refl;
    place = refl;
    small = refl;
    settled = (
      record { own = refl; order = (refl, tt); apart = refl },
      ((record { own = tt; order = (refl, tt); apart = refl }, ((record { own = refl; order = tt; apart = refl }, tt), tt)), tt),
    );
    fresh = (λ e. tt, ((λ e. (refl, omega arith), ((λ e. tt, tt), tt)), tt));
    within = ((tt, tt), tt);
    few = omega arith;
    keys = (tt, ((tt, ((tt, tt), tt)), tt));
    unmarked = (refl, ((refl, ((refl, tt), tt)), tt));
  };
  set_since = changes;
  stale = λ h. changes (settled_stays keyed list_root reordered_tree h);
  scrolled_since = λ e. cc;
  listed_lazily = λ h. h.settled.1.0.0.own;
  other_root = λ h. let wrong = h.widget in cc;
  nodes = refl;
  marked = marked_alone;
  unmarked = λ h. let wrong = h.marked.1.0.0 in cc;
  both_marked = λ h. let wrong = h.marked.1.1.0.0 in cc;
}
