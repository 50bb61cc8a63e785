-- Once an Inherit took another value, and its readers are flagged, the elements stand for the tree in which it has it.
use Rattle.std.proofs.Common.{◌≡◌, ℕ, ◌+◌, ◌≤◌, ◌==◌, Bool, true, false, ◌||◌, cond, Option, Some, None, option_map, List, [], ◌∷◌, ◌++◌, refl, sym, ap, ◌∙◌, subst, arith}
use Rattle.std.specs.Option.{option_to_list}
use Rattle.fx_expr.specs.declared.values.Value.{Value}
use Rattle.fx_handles.specs.declared.Handle.{Handle}
use Rattle.fx_handles.specs.Handle.{same}
use Rattle.fx_handles.specs.HandleLaws.{same-eq}
use Rattle.node_tree.specs.Edits.{KeepsHandles, WritesValue}
use Rattle.node_tree.specs.Forest.{TreeNode, Forest, tops, In, IsDistinct, Stands, set_value, tree_of}
use Rattle.node_tree.specs.Forest.Forest.{none, tree}
use Rattle.node_tree.specs.Tree.{Tree, node_at, IsNode, Is, subtree_at, StandsAt, Holds}
use Rattle.node_tree.proofs.EditLemmas.{keeps_then}
use Rattle.node_tree.proofs.ForestLemmas.{hit-true}
use Rattle.widget_model.specs.Plain.{PlainWidget, look_of}
use Rattle.widget_model.specs.Typed.{IsTypedWidget}
use Rattle.program_check.specs.Checked.{PlainChecked}
use Rattle.template_build.specs.Program.{declarations_of}
use Rattle.plain_tree.specs.PlainNode.{PlainNode, more_nodes, no_nodes, nodes_of as listed}
use Rattle.build_form.specs.BuildRole.{composes, build_role_of}
use Rattle.build_form.specs.Laws.{AllNumbersAre}
use Rattle.build_form.specs.Numbered.{IsNumbered}
use Rattle.build_form.specs.WellBuilt.{IsWellBuilt, AreWellBuilt}
use Rattle.element_tree.specs.Edits.{Writes, with_widget}
use Rattle.element_tree.specs.Element.{Element, element_at, number_at, made_count}
use Rattle.element_tree.specs.Nodes.{nodes_of}
use Rattle.inherited.specs.Readers.{is_reader, is_reader_below, below_first, flagged, Flags}
use Rattle.build_walk.specs.Fresh.{HaveFreshOutputs}
use Rattle.build_walk.specs.Past.{is_marked}
use Rattle.build_walk.specs.Standing.{ElementsStandFor}
use Rattle.build_walk.specs.Telling.{HoldOutputs, StoreOutputs, AreFlagged, FlagsAre}
use Rattle.settled_builds.specs.Regiven.{readers_in, regiven}
use Rattle.settled_builds.specs.Settled.{IsReadyTree}
use Rattle.renewed_builds.specs.Several.{flagged_in}
use Rattle.renewed_builds.specs.Regiving.{IsToRegive}
use Rattle.renewed_builds.proofs.Below.{regiven_at, HasChild, has_child, child_there, set_is, tops_regiven, tree_regiven}
use Rattle.renewed_builds.proofs.Fitting.{IsQuiet, sorts_same, well_regiven, stored_regiven, flagged_stores}
use Rattle.renewed_builds.proofs.Marking.{Each, each_then, each_regiven, flags_marked, marked_two, picked_there, reader_marked, reader_there, tops_flagged}
use Rattle.renewed_builds.proofs.Regiven.{IsFound, left_clear, all_alone, b, left, f}
use Rattle.renewed_builds.proofs.Retaken.{has_number}
use Rattle.renewed_builds.proofs.Retaking.{HasNumberAt}

flags_unmarked : (marks : List ℕ) (g : Forest Element) → FlagsAre marks g → AreFlagged (λ number. is_marked marks number ≡ false) g
flags_unmarked marks none flags = tt
flags_unmarked marks (tree k e kids rest) flags = ((λ clean. sym flags.0 ∙ clean), flags_unmarked marks kids flags.1, flags_unmarked marks rest flags.2)

well_all : (c : PlainChecked) (n : PlainNode) (ns : List PlainNode) → n ∷ [] ≡ ns → IsWellBuilt (declarations_of c) n → AreWellBuilt (declarations_of c) (listed ns)
well_all c n ns is well = subst (λ (l : List PlainNode). AreWellBuilt (declarations_of c) (listed l)) is (well, tt)

module _ (c : PlainChecked) (t u : Tree Element) (h : Handle) (x : IsToRegive c t h) (child : Handle) (e v : Element) (low : Forest Element) (w : PlainWidget) (name : ℕ) (found : IsFound c t h x child e v low w name)
    (subtree : (k : Handle) (s : Forest Element) → StandsAt t k s → subtree_at t k ≡ s) (once : (n : ℕ) (i j : Handle) → number_at t i ≡ Some n → number_at t j ≡ Some n → i ≡ j)
    (writes : Writes t u child (with_widget w v)) where
  abbrev pub then_is : Forest Element
  then_is = regiven_at h w (f c t h x)

  abbrev pub is_flagged : Handle → Bool
  is_flagged = is_reader_below u child name

  pub has : HasChild h child e v low (f c t h x)
  has = has_child h child e v low t subtree found.opened None (f c t h x) x.stands.is.stands x.stands.is.distinct

  pub written : Is u then_is
  written = subst (Is u) (set_is h child e v low w (f c t h x) x.stands.is.distinct has found.live) (writes.plain (f c t h x) x.stands.is)

  only_number : (k : Handle) → number_at t k ≡ Some x.number → k ≡ h
  only_number k is = once x.number k h is x.at

  number_at_h : HasNumberAt h x.number (f c t h x)
  number_at_h = has_number t h x.number x.at only_number None (f c t h x) x.stands.is.stands

  pub nodes_then : regiven w x.number x.tree ∷ [] ≡ nodes_of x.scrolled then_is
  nodes_then = tree_regiven x.scrolled t h x.number w (f c t h x) x.stands.is x.tree x.stands.nodes x.at only_number

  abbrev readers : List ℕ
  readers = readers_in name (listed (nodes_of x.scrolled low))

  abbrev pub marks : List ℕ
  marks = left c t h x ++ readers

  -- ---- flags

  module _ (now_at : subtree_at u child ≡ tree child (with_widget w v) low none) where
    flagged_is : (k : Handle) → is_flagged k ≡ is_reader name k low
    flagged_is k = ap (λ s. is_reader name k (below_first s)) now_at

    number_there : (k : Handle) (y : Element) → element_at t k ≡ Some y → number_at t k ≡ Some y.number
    number_there k y at = ap (option_map (λ (z : Element). z.number)) at

    marked_there : (k : Handle) (y : Element) → element_at t k ≡ Some y → is_marked (left c t h x) y.number ≡ false → is_flagged k ≡ is_marked marks y.number
    marked_there k y at clear =
        let has_k = has_number t k y.number (number_there k y at) (λ j is. once y.number j k is (number_there k y at)) (Some child) low found.low_stands in
        flagged_is k ∙ reader_marked x.scrolled name k y.number low has_k ∙ sym (marked_two y.number (left c t h x) readers ∙ ap (λ (z : Bool). z || is_marked readers y.number) clear)

    abbrev Fact : Handle → ℕ → Bool → Type 0
    Fact k n dirty = (dirty ≡ false) × (is_flagged k ≡ is_marked marks n)

    facts : (p : Option Handle) (g : Forest Element) → Stands (node_at t) p g → FlagsAre (left c t h x) g → AllNumbersAre (λ k. is_marked x.marks k ≡ (k == x.number)) (listed (nodes_of x.scrolled g)) → Each Fact g
    facts p none stands flags alone = tt
    facts p (tree k y kids rest) stands flags alone =
        let clear = left_clear c t h x y.number alone.0.0 in (
          (flags.0 ∙ clear, marked_there k y (ap (option_map (λ (n : TreeNode Element). n.value)) stands.0) clear),
          facts (Some k) kids stands.1 flags.1 alone.0.1,
          facts p rest stands.2 flags.2 alone.1,
        )

    each_fact : Each Fact (f c t h x)
    each_fact = facts None (f c t h x) x.stands.is.stands x.stands.flags (all_alone c t h x)

    pub flags_then : FlagsAre marks (flagged is_flagged then_is)
    flags_then = flags_marked is_flagged marks then_is (each_regiven Fact h w (f c t h x) each_fact)

    reader_in : (k : Handle) → is_flagged k ≡ true → In k (tree child (with_widget w v) low none)
    reader_in k is = let there = reader_there name k low (sym (flagged_is k) ∙ is) in omega (arith, there)

    -- the flagged ones are those below the Inherit
    pub flagged_then : (part : (g : Forest Element) → Is u g → subtree_at u child ≡ tree_of child g) → IsNode u child → flagged_in (flagged is_flagged then_is) ≡ flagged_in (flagged is_flagged (subtree_at u child))
    flagged_then part live =
        let is_part = part then_is written in
        picked_there is_flagged child then_is written.distinct (each_then Fact (λ k n dirty. dirty ≡ false) (λ k n dirty fact. fact.0) then_is (each_regiven Fact h w (f c t h x) each_fact))
        (written.whole child live) (λ k set. subst (In k) (sym now_at ∙ is_part) (reader_in k set))
        ∙ sym (ap (λ (s : Forest Element). flagged_in (flagged is_flagged s)) is_part)

    -- ---- what is stored

    quiet : (g : Forest Element) → Each Fact g → HasNumberAt h x.number g → AllNumbersAre (λ k. is_marked x.marks k ≡ (k == x.number)) (listed (nodes_of x.scrolled g))
        → IsQuiet (b c t h x) x.marks x.scrolled h child e v low w found.output name found.gives.now found.gives.now_given g
    quiet none each numbered alone = tt
    quiet (tree k y kids rest) each numbered alone = ((each.0.0, alone.0.0 ∙ numbered.0), quiet kids each.1 numbered.1 alone.0.1, quiet rest each.2 numbered.2 alone.1)

    fresh_before : HaveFreshOutputs (b c t h x) x.marks (b c t h x).defaults (listed (nodes_of x.scrolled (f c t h x)))
    fresh_before = subst (λ (l : List PlainNode). HaveFreshOutputs (b c t h x) x.marks (b c t h x).defaults (listed l)) x.stands.nodes (x.ready.fresh, tt)

    pub stores_then : StoreOutputs x.scrolled then_is
    stores_then =
        stored_regiven (b c t h x) x.marks x.scrolled h child e v low w found.output name found.gives.now found.gives.now_given (b c t h x).defaults (f c t h x) x.stands.is.distinct has
        (quiet (f c t h x) each_fact number_at_h (all_alone c t h x)) x.stands.outputs fresh_before

    -- ---- all of it

    module _ (s : Tree Element) (flags : Flags u s is_flagged) (forest : (g : Forest Element) → Is u g → Is s (flagged is_flagged g)) (nodes : (g : Forest Element) → nodes_of x.scrolled (flagged is_flagged g) ≡ nodes_of x.scrolled g)
        (held : (g : Forest Element) → StoreOutputs x.scrolled g → AreFlagged (λ number. is_marked marks number ≡ false) g → HaveFreshOutputs (b c t h x) marks (b c t h x).defaults (listed (nodes_of x.scrolled g))
        → HoldOutputs (b c t h x) (b c t h x).defaults g)
        (ready : IsReadyTree (b c t h x) marks (made_count t + 1) x.root (regiven w x.number x.tree)) (well : IsWellBuilt (declarations_of c) (regiven w x.number x.tree)) where
      abbrev last : Forest Element
      last = flagged is_flagged then_is

      pub made_same : made_count s ≡ made_count t
      made_same = flags.handles.inserted ∙ writes.writes.handles.inserted

      fresh_then : HaveFreshOutputs (b c t h x) marks (b c t h x).defaults (listed (nodes_of x.scrolled last))
      fresh_then = subst (λ (l : List PlainNode). HaveFreshOutputs (b c t h x) marks (b c t h x).defaults (listed l)) (nodes_then ∙ sym (nodes then_is)) (ready.fresh, tt)

      pub stands_then : (z : ElementsStandFor c marks (Some (regiven w x.number x.tree)) x.scrolled s) × (z.forest ≡ last)
      stands_then = (
        record {
          forest = last;
          is = forest then_is written;
          root = ap option_to_list (flags.root ∙ writes.root) ∙ x.stands.root ∙ sym (tops_flagged is_flagged then_is ∙ tops_regiven h w (f c t h x));
          nodes = nodes_then ∙ sym (nodes then_is);
          well = well;
          numbered = subst (λ (n : ℕ). IsNumbered (n + 1) (regiven w x.number x.tree)) (sym made_same) ready.numbered;
          fresh = λ n free. x.stands.fresh n (omega (arith, free, made_same));
          outputs = held last (flagged_stores x.scrolled is_flagged nodes then_is stores_then) (flags_unmarked marks last flags_then) fresh_then;
          flags = flags_then;
        },
        refl,
      )

  -- ---- well built

  pub well_then : (place : ℕ) (props : List Value) → build_role_of (look_of e.widget) ≡ composes place props → IsTypedWidget (declarations_of c) w → IsWellBuilt (declarations_of c) (regiven w x.number x.tree)
  well_then place props composed typed =
      let d = declarations_of c in
      let g = found.gives in
      let all = well_regiven d x.scrolled h child e v low w place props composed name g.was g.now g.was_given g.now_given typed (sorts_same d v.widget w name g.was g.now g.was_given g.now_given g.same) (f c t h x) has
      (well_all c x.tree (nodes_of x.scrolled (f c t h x)) x.stands.nodes x.stands.well) in
      (subst (λ (l : List PlainNode). AreWellBuilt d (listed l)) (sym nodes_then) all).0
