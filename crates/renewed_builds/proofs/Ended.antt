-- All components were built, and what is below them takes what they gave: then the elements stand for the tree of the build.
use Rattle.std.proofs.Common.{◌≡◌, ℕ, zero, suc, ◌+◌, ◌≤◌, Bool, true, false, Option, Some, None, IfSome, option_map, List, [], ◌∷◌, ◌++◌, length, map, drop, take, refl, sym, ap, ◌∙◌, subst, arith}
use Rattle.std.specs.List.{All, find}
use Rattle.std.specs.Option.{option_to_list}
use Rattle.std.proofs.lemmas.List.{append-nil, take_all}
use Rattle.std.proofs.lemmas.List.Elements.{All-weaker}
use Rattle.fx_handles.specs.declared.Handle.{Handle}
use Rattle.fx_handles.specs.Arena.{Arena}
use Rattle.node_tree.specs.Children.{MapsValues}
use Rattle.node_tree.specs.Edits.{KeepsHandles}
use Rattle.node_tree.specs.Forest.{TreeNode, Forest, map_values}
use Rattle.node_tree.specs.Forest.Forest.{none, tree}
use Rattle.node_tree.specs.Tree.{Tree, Is, node_at, tops_at}
use Rattle.node_tree.proofs.Children.{tops-map}
use Rattle.widget_model.specs.Plain.{PlainWidget, look_of}
use Rattle.widget_model.specs.WidgetType.{type_of}
use Rattle.widget_model.specs.Typed.{IsTypedWidget}
use Rattle.program_check.specs.Checked.{PlainChecked}
use Rattle.template_build.specs.Program.{declarations_of}
use Rattle.plain_tree.specs.At.{numbers_of, numbers_in}
use Rattle.plain_tree.specs.PlainNode.{PlainNode, nodes_of as listed}
use Rattle.build_form.specs.Entering.{Blueprint}
use Rattle.build_form.specs.FullBuild.{Screen, built, full_build}
use Rattle.build_form.specs.Numbered.{IsNumbered}
use Rattle.build_form.specs.Program.{blueprint_of}
use Rattle.build_form.specs.WellBuilt.{IsWellBuilt}
use Rattle.build_form.proofs.Differ.{numbers_differ}
use Rattle.build_form.proofs.WellMade.{built_well}
use Rattle.element_tree.specs.Element.{Element, element_at, made_count}
use Rattle.element_tree.specs.Nodes.{nodes_of}
use Rattle.build_walk.specs.Past.{is_marked}
use Rattle.build_walk.specs.Standing.{ElementsStandFor}
use Rattle.build_walk.specs.Telling.{FlagsAre}
use Rattle.settled_builds.specs.Settled.{IsSettledFor}
use Rattle.settled_builds.specs.Steps.{Leads}
use Rattle.build_owner.specs.Standing.{next_at}
use Rattle.renewed_builds.specs.Renewing.{Change}
use Rattle.renewed_builds.specs.Taking.{after_changes, WritesAll}
use Rattle.renewed_builds.specs.Several.{KeepsElements, IsStaleTree, AreRenewed, flagged_in}
use Rattle.renewed_builds.proofs.Becoming.{IsTaking, to_other, becomes, hold_written}
use Rattle.renewed_builds.proofs.Flagged.{none_flagged_are}
use Rattle.renewed_builds.proofs.Gone.{HasGone}
use Rattle.renewed_builds.proofs.Mapped.{widget_alone, numbers_map, number_after}
use Rattle.renewed_builds.proofs.Renewed.{SettledLaw, StayLaw, any_screen}
use Rattle.renewed_builds.proofs.Retaken.{none_marked, typed_root}
use Rattle.renewed_builds.proofs.Took.{MapsLaw}

no_flags : (cs : List Change) (f : Forest Element) → FlagsAre [] f → FlagsAre [] (map_values (after_changes cs) f)
no_flags cs none flags = tt
no_flags cs (tree h e kids rest) flags = (ap (λ (v : Element). v.dirty) (widget_alone cs h e) ∙ flags.0, no_flags cs kids flags.1, no_flags cs rest flags.2)

-- elements after some changes
pub record Came (t u : Tree Element) (cs : List Change) (j : Handle) (z : Element) : Type 0 where
  pub before : Element
  pub at : element_at u j ≡ Some before
  pub is : after_changes cs j before ≡ z

came : (t u w : Tree Element) (cs : List Change) → MapsValues (after_changes cs) u w → (j : Handle) (z : Element) → element_at w j ≡ Some z → Came t u cs j z
came t u w cs values j z at = by_node (node_at u j) refl (sym (ap value_of (values j)) ∙ at)
  where
    value_of : Option (TreeNode Element) → Option Element
    value_of o = option_map (λ (n : TreeNode Element). n.value) o

    by_node : (o : Option (TreeNode Element)) → node_at u j ≡ o → option_map (λ (n : TreeNode Element). n.value) (option_map (λ (n : TreeNode Element). record n { value = after_changes cs j n.value }) o) ≡ Some z → Came t u cs j z
    by_node None there e = cc
    by_node (Some n) there e = record { before = n.value; at = ap value_of there; is = some_is e }
      where
        some_is : {X : Type 0} {p q : X} → Some p ≡ Some q → p ≡ q
        some_is e = cc

module _ (c : PlainChecked) (t u w : Tree Element) (hs : List Handle) (x : IsStaleTree c t hs) (done : ℕ) (cs : List Change) (g : HasGone c t u hs x done cs) (over : drop done hs ≡ []) (long : done ≡ length hs)
    (writes : WritesAll (after_changes cs) u w) (maps_law : MapsLaw) (settled_law : SettledLaw) (stay_law : StayLaw) where
  abbrev b : Blueprint
  b = blueprint_of c

  abbrev forest : Forest Element
  forest = g.stands.forest

  clear : FlagsAre [] forest
  clear = none_flagged_are forest (g.flagged ∙ over)

  none_left : find (is_marked g.left) (numbers_of g.now) ≡ None
  none_left =
      ap (find (is_marked g.left))
      (sym (append-nil (numbers_of g.now)) ∙ ap (λ (ns : List PlainNode). numbers_in (listed ns)) g.nodes ∙ numbers_map x.scrolled (after_changes cs) forest (number_after cs))
      ∙ none_marked g.left x.scrolled forest g.stands.flags clear

  settled : IsSettledFor b g.left x.root g.now
  settled = settled_law b g.left (next_at t) x.root g.now g.ready none_left

  whole : full_build b (any_screen c) (Some x.tree) (made_count t + 1) x.root ≡ built g.now (made_count t + 1)
  whole = g.leads.full (any_screen c) ∙ stay_law b (any_screen c) g.left (next_at t) x.root g.now settled

  made_then : made_count w ≡ made_count t
  made_then = writes.handles.inserted ∙ g.made

  tops_then : tops_at w ≡ tops_at u
  tops_then = λ i. option_to_list (writes.root i) ++ writes.inactive i

  well_by : (n : ℕ) → done ≡ n → IsWellBuilt (declarations_of c) g.now
  well_by zero is = subst (IsWellBuilt (declarations_of c)) (sym (g.begun is)) x.stands.well
  well_by (suc n) is =
      built_well c (any_screen c) (Some x.tree) (made_count t + 1) (made_count t + 1) x.root g.now (g.typed (λ none. omega (arith, is, none))) x.stands.well
      (subst (IsTypedWidget (declarations_of c)) x.ready.widget (typed_root (declarations_of c) x.tree x.stands.well)) whole

  all_then : All (IsTaking u) cs
  all_then = All-weaker (IsTaking t) (IsTaking u) (to_other t u g.keeps) cs g.takes

  abbrev stands_then : ElementsStandFor c [] (Some g.now) x.scrolled w
  stands_then = record {
    forest = map_values (after_changes cs) forest;
    is = maps_law u w (after_changes cs) forest g.stands.is writes.values tops_then;
    root = ap option_to_list writes.root ∙ g.stands.root ∙ sym (tops-map (after_changes cs) forest);
    nodes = g.nodes;
    well = well_by done refl;
    numbered = subst (λ (n : ℕ). IsNumbered (n + 1) g.now) (sym made_then) (numbers_differ b (any_screen c) (Some x.tree) (made_count t + 1) (made_count t + 1) x.root g.now x.stands.numbered whole);
    fresh = λ n free. x.stands.fresh n (subst (λ (m : ℕ). m + 1 ≤ n) made_then free);
    outputs = hold_written b u cs all_then None b.defaults forest g.stands.is.stands g.stands.outputs;
    flags = no_flags cs forest clear;
  }

  keeps_then : KeepsElements t w
  keeps_then = λ j z at.
      let m = came t u w cs writes.values j z at in
      let q = g.keeps j m.before m.at in
      let type = (becomes u j m.before m.at cs all_then).type in (
        q.0,
        q.1,
        ap (λ (v : Element). v.render) (sym m.is ∙ widget_alone cs j m.before) ∙ q.3,
        ap (λ (v : Element). v.number) (sym m.is ∙ widget_alone cs j m.before) ∙ q.2.number,
        ap (λ (v : PlainWidget). type_of (look_of v)) (sym q.2.widget) ∙ type ∙ ap (λ (v : Element). type_of (look_of v.widget)) m.is,
      )

  pub renewed_all : AreRenewed c t w hs x cs
  renewed_all = record {
    new = g.now;
    left = g.left;
    leads = subst (λ (n : ℕ). Leads b (next_at t) x.root x.tree x.marks g.now g.left n) long g.leads;
    ready = g.ready;
    settled = settled;
    stands = stands_then;
    keeps = keeps_then;
    given = g.given;
    of = g.of ∙ whole_list;
    can = g.can;
    changes = g.changes;
    differ = g.differ;
    forest = ap (map_values (after_changes cs)) g.forest;
    drawn = g.rearranged.drawn;
  }
    where
      whole_list : take done hs ≡ hs
      whole_list = ap (λ (n : ℕ). take n hs) long ∙ take_all (length hs) hs (omega arith)

-- ---- handles

pub handles_itself : {X : Type 0} (a : Arena X) → KeepsHandles a a
handles_itself a = record { generations = λ i. refl; spent = λ k is. is; used = refl; retired = refl; generation_sum = refl; inserted = refl }

pub handles_then : {X : Type 0} (a b c : Arena X) → KeepsHandles a b → KeepsHandles b c → KeepsHandles a c
handles_then a b c p q = record {
  generations = λ i. q.generations i ∙ p.generations i;
  spent = λ k is. q.spent k (p.spent k is);
  used = q.used ∙ p.used;
  retired = q.retired ∙ p.retired;
  generation_sum = q.generation_sum ∙ p.generation_sum;
  inserted = q.inserted ∙ p.inserted;
}

-- ---- counts

pub sum_then : (n m k i : ℕ) → n ≡ m + 1 → m ≡ k + i → n ≡ k + (i + 1)
sum_then n m k i one so_far = omega (arith, one, so_far)

pub some_two : {A : Type 0} (o : Option A) (P Q R : A → Type 0) → ((a : A) → P a → Q a → R a) → IfSome o P → IfSome o Q → IfSome o R
some_two None P Q R both p q = tt
some_two (Some a) P Q R both p q = both a p q
