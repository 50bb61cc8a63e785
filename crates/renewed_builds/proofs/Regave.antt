-- All that is said of an Inherit that took another value, from what the edits say.
use Rattle.std.proofs.Common.{◌≡◌, ℕ, ◌+◌, ◌<◌, ◌≤◌, ◌==◌, Bool, true, false, cond, is_some, Option, Some, None, option_map, IfSome, List, [], ◌∷◌, ◌++◌, length, refl, sym, ap, ◌∙◌, subst, arith}
use Rattle.fx_expr.specs.declared.values.Value.{Value}
use Rattle.fx_handles.specs.declared.Handle.{Handle}
use Rattle.fx_handles.specs.HandleLaws.{same-eq}
use Rattle.node_tree.specs.Forest.{TreeNode, Forest, below, count, In, Stands, set_value, tree_of}
use Rattle.node_tree.specs.Forest.Forest.{none, tree}
use Rattle.node_tree.specs.Tree.{Tree, node_at, IsNode, Is, subtree_at, StandsAt, Holds}
use Rattle.node_tree.proofs.Children.{below-stands}
use Rattle.node_tree.proofs.ForestLemmas.{hit-true}
use Rattle.widget_model.specs.Plain.{PlainWidget, look_of}
use Rattle.widget_model.specs.Typed.{IsTypedWidget}
use Rattle.program_check.specs.Checked.{PlainChecked}
use Rattle.program_check.specs.TypedChecked.{IsTypedChecked}
use Rattle.template_build.specs.Program.{declarations_of}
use Rattle.plain_tree.specs.PlainNode.{PlainNode, widget_of, nodes_of as listed}
use Rattle.plain_tree.specs.Projection.{render_of}
use Rattle.build_form.specs.BuildRole.{composes, build_role_of}
use Rattle.build_form.specs.Entering.{Blueprint, depth_limit}
use Rattle.build_form.specs.Filling.{FitsNames}
use Rattle.build_form.specs.Program.{blueprint_of}
use Rattle.element_tree.specs.Edits.{Writes, with_widget}
use Rattle.element_tree.specs.Element.{Element, element_at, number_at}
use Rattle.element_tree.specs.Nodes.{nodes_of}
use Rattle.inherited.specs.Readers.{flagged, Flags}
use Rattle.work_sets.specs.Due.{names_read}
use Rattle.build_walk.specs.Fresh.{ReadsItsNames, HaveFreshOutputs}
use Rattle.build_walk.specs.Past.{is_marked}
use Rattle.build_walk.specs.Telling.{TellPasts, HoldOutputs, StoreOutputs, AreFlagged, FlagsAre}
use Rattle.build_owner.proofs.Children.{some_is}
use Rattle.build_walk.proofs.Standing.{by_place}
use Rattle.settled_builds.specs.Places.{NodePlace, spot_at}
use Rattle.settled_builds.specs.Regiven.{readers_in, regiven, ReadTheirNames, CanRegive}
use Rattle.settled_builds.specs.Settled.{IsReadyTree}
use Rattle.settled_builds.specs.Steps.{Leads, IsFirstMarked, without}
use Rattle.settled_builds.specs.Taken.{nodes_below}
use Rattle.build_owner.specs.Standing.{next_at}
use Rattle.renewed_builds.specs.Several.{flagged_in}
use Rattle.renewed_builds.specs.Regiving.{IsToRegive, IsRegiven}
use Rattle.renewed_builds.proofs.Below.{set_absent}
use Rattle.renewed_builds.proofs.Given.{is_flagged, marks, flagged_then, made_same, stands_then, well_then}
use Rattle.renewed_builds.proofs.Keeping.{OneChild}
use Rattle.renewed_builds.proofs.Regiven.{Gives, IsFound, b, f, left, pasts, can_regive, name_known, reads_names, role_there}
use Rattle.renewed_builds.proofs.Spotted.{alone, spot_of}
use Rattle.renewed_builds.proofs.Stored.{unmarked_there}

-- ---- what was found

module _ (c : PlainChecked) (t : Tree Element) (h : Handle) (x : IsToRegive c t h) (subtree : (k : Handle) (s : Forest Element) → StandsAt t k s → subtree_at t k ≡ s)
    (once : (n : ℕ) (i j : Handle) → number_at t i ≡ Some n → number_at t j ≡ Some n → i ≡ j) (tells : TellPasts (pasts c t h x) (b c t h x).defaults (f c t h x)) where
  pub found_by : (child : Handle) (e : Element) (w : PlainWidget) (name : ℕ) → element_at t h ≡ Some e → e.number ≡ x.number → subtree_at t h ≡ tree h e (below (subtree_at t h)) none → IsNode t h
      → (one : OneChild t h child) → e.output ≡ Some w → Gives one.value.widget w name → IsFound c t h x child e one.value one.kids w name
  found_by child e w name at number opened live one output gives = record {
    at = at;
    number = number;
    opened = opened ∙ ap (λ (g : Forest Element). tree h e g none) one.is;
    child_at = one.value_is;
    child_opened = one.subtree;
    low_stands = subst (Stands (node_at t) (Some child)) (ap (λ (s : Forest Element). below s) one.subtree) (below-stands t child one.holds).0;
    output = output;
    gives = gives;
    spot = spot_of t x.scrolled (pasts c t h x) h e subtree (alone t h e at once) x.tree (f c t h x) (b c t h x).defaults depth_limit 0 0 x.place x.stands.nodes x.stands.is.stands x.stands.is.distinct tells
        (subst (λ n. spot_at n depth_limit (b c t h x).defaults 0 0 x.tree ≡ Some x.place) (sym number) x.first.at);
    live = x.stands.is.whole h live;
  }

-- the component isn't flagged any more
pub unflagged : (marks : List ℕ) (t : Tree Element) (h : Handle) (e : Element) → element_at t h ≡ Some e → (p : Option Handle) (g : Forest Element) → Stands (node_at t) p g → In h g → FlagsAre marks g → e.dirty ≡ is_marked marks e.number
unflagged marks t h e at p none stands among flags = absurd (omega (arith, among))
unflagged marks t h e at p (tree k v kids rest) stands among flags =
    by_place h k v kids rest (e.dirty ≡ is_marked marks e.number) among
    (λ is.
    let same_one : v ≡ e = some_is (sym (ap (option_map (λ (n : TreeNode Element). n.value)) stands.0) ∙ ap (element_at t) is ∙ at) in
    subst (λ (y : Element). y.dirty ≡ is_marked marks y.number) same_one flags.0)
    (λ inside. unflagged marks t h e at (Some k) kids stands.1 inside flags.1)
    (λ later. unflagged marks t h e at p rest stands.2 later flags.2)

pub clean_there : (c : PlainChecked) (t : Tree Element) (h : Handle) (x : IsToRegive c t h) (e : Element) → element_at t h ≡ Some e → e.number ≡ x.number → IsNode t h → e.dirty ≡ false
clean_there c t h x e at number live =
    unflagged (left c t h x) t h e at None (f c t h x) x.stands.is.stands (x.stands.is.whole h live) x.stands.flags
    ∙ ap (is_marked (left c t h x)) number ∙ unmarked_there x.number x.marks

-- the Inherit with its other widget
pub now_there : (t u : Tree Element) (child : Handle) (v : Element) (low : Forest Element) (w : PlainWidget) → ((k : Handle) (s : Forest Element) → StandsAt u k s → subtree_at u k ≡ s) → Holds t child → subtree_at t child ≡ tree child v low none
    → StandsAt u child (set_value child (with_widget w v) (subtree_at t child)) → subtree_at u child ≡ tree child (with_widget w v) low none
now_there t u child v low w subtree holds opened wrote =
    let few : count child (tree child v low none) ≤ 1 = subst (λ (s : Forest Element). count child s ≤ 1) opened (holds.distinct child) in
    let one = hit-true child child (same-eq child child refl) in
    subtree child (set_value child (with_widget w v) (subtree_at t child)) wrote
    ∙ ap (set_value child (with_widget w v)) opened
    ∙ (λ i. tree child (cond (same-eq child child refl i) (with_widget w v) v) (set_absent child (with_widget w v) low (omega (arith, few, one)) i) none)

-- ---- what it became

module _ (c : PlainChecked) (t u s : Tree Element) (h : Handle) (x : IsToRegive c t h) (checked : IsTypedChecked c) (child : Handle) (e v : Element) (low : Forest Element) (w : PlainWidget) (name : ℕ)
    (found : IsFound c t h x child e v low w name) (subtree : (k : Handle) (g : Forest Element) → StandsAt t k g → subtree_at t k ≡ g)
    (once : (n : ℕ) (i j : Handle) → number_at t i ≡ Some n → number_at t j ≡ Some n → i ≡ j) (writes : Writes t u child (with_widget w v)) (now_at : subtree_at u child ≡ tree child (with_widget w v) low none)
    (clean : e.dirty ≡ false) (component : is_some (names_read (look_of (widget_of x.place.node))) ≡ true) (tells : TellPasts (pasts c t h x) (b c t h x).defaults (f c t h x))
    (fits : FitsNames (declarations_of c).inherited (build_role_of (look_of v.widget)))
    (typed : (place : ℕ) (props : List Value) → build_role_of (look_of e.widget) ≡ composes place props → IfSome e.output (IsTypedWidget (declarations_of c)))
    (reads : (z : PlainWidget) → IsTypedWidget (declarations_of c) z → ReadsItsNames (blueprint_of c) z) where
  pub known : name < length (b c t h x).defaults
  known = name_known c checked (build_role_of (look_of v.widget)) name found.gives.was found.gives.was_given fits

  abbrev pub can : CanRegive (b c t h x) w name x.place
  can = can_regive c t h x child e v low w name found clean component tells known

  pub read_theirs : ReadTheirNames (b c t h x) x.tree
  read_theirs = reads_names (b c t h x) (declarations_of c) reads x.tree x.stands.well

  role : (place : ℕ) × (props : List Value) × (build_role_of (look_of e.widget) ≡ composes place props)
  role = role_there c t h x child e v low w name found clean component tells

  widget_typed : IsTypedWidget (declarations_of c) w
  widget_typed = subst (λ (o : Option PlainWidget). IfSome o (IsTypedWidget (declarations_of c))) found.output (typed role.0 role.1 role.2)

  abbrev pub last_marks : List ℕ
  last_marks = marks c t u h x child e v low w name found subtree once writes

  abbrev pub test : Handle → Bool
  test = is_flagged c t u h x child e v low w name found subtree once writes

  module _ (flags : Flags u s test) (forest : (g : Forest Element) → Is u g → Is s (flagged test g)) (nodes : (g : Forest Element) → nodes_of x.scrolled (flagged test g) ≡ nodes_of x.scrolled g)
      (below_flagged : subtree_at s child ≡ flagged test (subtree_at u child)) (part : (g : Forest Element) → Is u g → subtree_at u child ≡ tree_of child g) (live : IsNode u child)
      (held : (g : Forest Element) → StoreOutputs x.scrolled g → AreFlagged (λ number. is_marked last_marks number ≡ false) g
      → HaveFreshOutputs (b c t h x) last_marks (b c t h x).defaults (listed (nodes_of x.scrolled g)) → HoldOutputs (b c t h x) (b c t h x).defaults g)
      (ready : IsReadyTree (b c t h x) last_marks (next_at t) x.root (regiven w x.number x.tree))
      (leads : Leads (b c t h x) (next_at t) x.root x.tree x.marks (regiven w x.number x.tree) last_marks 1) (drawn : render_of (regiven w x.number x.tree) ≡ render_of x.tree) where
    pub regiven_so : (hs : List Handle) → hs ≡ flagged_in (subtree_at s child) → IsRegiven c t s h x hs
    regiven_so hs are =
        let stands = stands_then c t u h x child e v low w name found subtree once writes now_at s flags forest nodes held ready (well_then c t u h x child e v low w name found subtree once writes role.0 role.1 role.2 widget_typed) in
        record {
          given = w;
          name = name;
          can = can;
          reads = read_theirs;
          stands = stands.0;
          flagged =
              ap flagged_in stands.1
              ∙ flagged_then c t u h x child e v low w name found subtree once writes now_at part live
              ∙ sym (ap flagged_in below_flagged) ∙ sym are;
          ready = subst (λ n. IsReadyTree (b c t h x) last_marks (n + 1) x.root (regiven w x.number x.tree))
              (sym (made_same c t u h x child e v low w name found subtree once writes now_at s flags forest nodes held ready (well_then c t u h x child e v low w name found subtree once writes role.0 role.1 role.2 widget_typed))) ready;
          leads = leads;
          drawn = drawn;
        }
