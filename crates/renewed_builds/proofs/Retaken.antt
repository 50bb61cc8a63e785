-- Elements that took widgets below a component stand for the tree in which its nodes did.
use Rattle.std.proofs.Common.{◌≡◌, ℕ, ◌+◌, ◌==◌, Bool, true, false, ◌||◌, cond, Option, Some, None, is_some, option_map, List, [], ◌∷◌, ◌++◌, refl, sym, ap, ◌∙◌, subst, arith, inl, inr}
use Rattle.std.specs.List.{find}
use Rattle.std.specs.Option.{option_to_list}
use Rattle.std.proofs.lemmas.List.{append-nil}
use Rattle.std.proofs.lemmas.Bool.{eq-eqb, ne_eqb}
use Rattle.fx_handles.specs.declared.Handle.{Handle}
use Rattle.fx_handles.specs.Handle.{same}
use Rattle.fx_handles.specs.HandleLaws.{same-eq, same-ne, cases_same}
use Rattle.node_tree.specs.Edits.{KeepsHandles}
use Rattle.node_tree.specs.Forest.{TreeNode, Forest, count, In, Stands}
use Rattle.node_tree.specs.Forest.Forest.{none, tree}
use Rattle.node_tree.specs.Tree.{Tree, Is, IsNode, node_at}
use Rattle.node_tree.proofs.ForestLemmas.{hit-false}
use Rattle.widget_model.specs.Plain.{PlainWidget}
use Rattle.widget_model.specs.Typed.{Declarations, IsTypedWidget}
use Rattle.program_check.specs.Checked.{PlainChecked}
use Rattle.template_build.specs.Program.{declarations_of}
use Rattle.program_check.specs.TypedChecked.{IsTypedChecked}
use Rattle.plain_tree.specs.At.{numbers_of, numbers_in, is_there_in, is_there, changed_in}
use Rattle.plain_tree.specs.At.{node_at as plain_node_at}
use Rattle.plain_tree.specs.PlainNode.{PlainNode, node, no_nodes, more_nodes, list_of, widget_of, nodes_of as listed}
use Rattle.build_form.specs.FullBuild.{Screen, built, full_build}
use Rattle.build_form.specs.Numbered.{IsNumbered}
use Rattle.build_form.specs.Program.{blueprint_of}
use Rattle.build_form.specs.WellBuilt.{IsWellBuilt}
use Rattle.build_form.proofs.Differ.{numbers_differ}
use Rattle.build_form.proofs.WellMade.{built_well}
use Rattle.element_tree.specs.Element.{Element, element_at, number_at, made_count}
use Rattle.element_tree.specs.Nodes.{nodes_of}
use Rattle.build_walk.specs.Past.{is_marked}
use Rattle.build_walk.specs.Standing.{ElementsStandFor}
use Rattle.build_walk.specs.Telling.{FlagsAre}
use Rattle.build_walk.proofs.Made.{list_of-nodes_of}
use Rattle.settled_builds.specs.Retaken.{retaking_below, retaken}
use Rattle.renewed_builds.specs.Renewing.{can_take_at, taken_at}
use Rattle.renewed_builds.proofs.Retaking.{HasNumberAt, stands_in, there, some_of, nodes_taken, hold_taken, flags_taken, tops_taken}

-- ---- the element with the number

out_counted : (h : Handle) (f : Forest Element) → stands_in h f ≡ false → count h f ≡ 0
out_counted h none e = refl
out_counted h (tree k v kids rest) e =
    let p = or_neither (same k h) (stands_in h kids || stands_in h rest) e in
    let q = or_neither (stands_in h kids) (stands_in h rest) p.1 in
    omega (arith, hit-false h k p.0, out_counted h kids q.0, out_counted h rest q.1)
  where
    or_neither : (a b : Bool) → (a || b) ≡ false → (a ≡ false) × (b ≡ false)
    or_neither true b e = cc
    or_neither false b e = (refl, e)

in_stands : (h : Handle) (f : Forest Element) → In h f → (b : Bool) → stands_in h f ≡ b → stands_in h f ≡ true
in_stands h f inside true e = e
in_stands h f inside false e = absurd (let nothing = out_counted h f e in omega (arith, inside, nothing))

pub number_live : (t : Tree Element) (h : Handle) (wanted : ℕ) (o : Option (TreeNode Element)) → node_at t h ≡ o → number_at t h ≡ Some wanted → IsNode t h
number_live t h wanted None at is = absurd (let no = sym (ap (λ (q : Option (TreeNode Element)). option_map (λ (e : Element). e.number) (option_map (λ (n : TreeNode Element). n.value) q)) at) ∙ is in cc)
number_live t h wanted (Some n) at is = ap is_some at

module _ (t : Tree Element) (h : Handle) (wanted : ℕ) (number : number_at t h ≡ Some wanted) (only : (k : Handle) → number_at t k ≡ Some wanted → k ≡ h) where
  number_is : (k : Handle) (v : Element) → element_at t k ≡ Some v → number_at t k ≡ Some v.number
  number_is k v at = ap (option_map (λ (e : Element). e.number)) at

  same_some : (a b : ℕ) → Some a ≡ Some b → a ≡ b
  same_some a b e = cc

  pub has_number : (p : Option Handle) (f : Forest Element) → Stands (node_at t) p f → HasNumberAt h wanted f
  has_number p none stands = tt
  has_number p (tree k v kids rest) stands =
      let at : element_at t k ≡ Some v = ap (option_map (λ (n : TreeNode Element). n.value)) stands.0 in
      let one : (v.number == wanted) ≡ same k h = elim (cases_same k h) [
        | inl is_h ↦ eq-eqb v.number wanted (same_some v.number wanted (sym (number_is k v at) ∙ ap (number_at t) is_h ∙ number)) ∙ sym (same-eq k h is_h)
        | inr apart ↦ ne_eqb v.number wanted (λ is. apart (only k (number_is k v at ∙ ap Some is))) ∙ sym (same-ne k h apart)
      ] in
      (one, has_number (Some k) kids stands.1, has_number p rest stands.2)

-- ---- the tree

or_nothing : (b : Bool) → (b || false) ≡ true → b ≡ true
or_nothing true e = refl
or_nothing false e = e

-- one node of a number in a list of one
pub changed_alone : (ws : List PlainWidget) (wanted : ℕ) (old : PlainNode) → is_there_in wanted (more_nodes old no_nodes) ≡ true → changed_in (retaking_below ws) wanted (more_nodes old no_nodes) ≡ more_nodes (retaken ws wanted old) no_nodes
changed_alone ws wanted old in_list =
    let is : is_there wanted old ≡ true = or_nothing (is_there wanted old) (sym (some_of (plain_node_at wanted old) None) ∙ in_list) in
    ap (λ (b : Bool). cond b (more_nodes (retaken ws wanted old) no_nodes) (more_nodes old no_nodes)) is

pub typed_root : (d : Declarations) (n : PlainNode) → IsWellBuilt d n → IsTypedWidget d (widget_of n)
typed_root d (node number widget fields scroll index children) well = well.0.typed

module _ (scrolled : ℕ → ℕ) (t : Tree Element) (h : Handle) (wanted : ℕ) (ws : List PlainWidget) (f : Forest Element) (is : Is t f) (old : PlainNode) (nodes : old ∷ [] ≡ nodes_of scrolled f)
    (number : number_at t h ≡ Some wanted) (only : (k : Handle) → number_at t k ≡ Some wanted → k ≡ h) where
  pub node_there : is_there_in wanted (more_nodes old no_nodes) ≡ true
  node_there =
      let has = has_number t h wanted number only None f is.stands in
      ap (λ (ns : List PlainNode). is_there_in wanted (listed ns)) nodes
      ∙ there scrolled h wanted f has
      ∙ in_stands h f (is.whole h (number_live t h wanted (node_at t h) refl number)) (stands_in h f) refl

  pub tree_taken : retaken ws wanted old ∷ [] ≡ nodes_of scrolled (taken_at h ws f)
  tree_taken =
      let has = has_number t h wanted number only None f is.stands in
      let all : listed (nodes_of scrolled (taken_at h ws f)) ≡ more_nodes (retaken ws wanted old) no_nodes =
      nodes_taken scrolled h wanted ws f has is.distinct
      ∙ sym (ap (λ (ns : List PlainNode). changed_in (retaking_below ws) wanted (listed ns)) nodes)
      ∙ changed_alone ws wanted old node_there in
      sym (ap list_of all) ∙ list_of-nodes_of (nodes_of scrolled (taken_at h ws f))

-- ---- all of it

pub taken_stands : (c : PlainChecked) (left : List ℕ) (old : PlainNode) (scrolled : ℕ → ℕ) (t u : Tree Element) (h : Handle) (ws : List PlainWidget) (wanted : ℕ) (root : PlainWidget) (screen : Screen)
    → IsTypedChecked c → (e : ElementsStandFor c left (Some old) scrolled t) → FlagsAre [] e.forest → number_at t h ≡ Some wanted → ((k : Handle) → number_at t k ≡ Some wanted → k ≡ h) → can_take_at h ws e.forest ≡ true
    → Is u (taken_at h ws e.forest) → u.root ≡ t.root → KeepsHandles t.nodes u.nodes → widget_of old ≡ root → full_build (blueprint_of c) screen (Some old) (made_count t + 1) root ≡ built (retaken ws wanted old) (made_count t + 1)
    → (s : ElementsStandFor c [] (Some (retaken ws wanted old)) scrolled u) × (s.forest ≡ taken_at h ws e.forest)
taken_stands c left old scrolled t u h ws wanted root screen checked e clear number only can is root_same handles widget whole =
    let made : made_count u ≡ made_count t = handles.inserted in (
      record {
        forest = taken_at h ws e.forest;
        is = is;
        root = ap option_to_list root_same ∙ e.root ∙ sym (tops_taken h ws e.forest);
        nodes = tree_taken scrolled t h wanted ws e.forest e.is old e.nodes number only;
        well = built_well c screen (Some old) (made_count t + 1) (made_count t + 1) root (retaken ws wanted old) checked e.well (subst (IsTypedWidget (declarations_of c)) widget (typed_root (declarations_of c) old e.well)) whole;
        numbered = subst (λ (n : ℕ). IsNumbered (n + 1) (retaken ws wanted old)) (sym made) (numbers_differ (blueprint_of c) screen (Some old) (made_count t + 1) (made_count t + 1) root (retaken ws wanted old) e.numbered whole);
        fresh = λ n free. e.fresh n (omega (arith, free, made));
        outputs = hold_taken (blueprint_of c) (blueprint_of c).defaults h ws e.forest can e.outputs;
        flags = flags_taken [] h ws e.forest can clear;
      },
      refl,
    )

-- ---- what is marked of it

no_first_by : {X : Type 0} (x : X) (b : Bool) (o q : Option X) → cond b (Some x) o ≡ None → (o ≡ None → q ≡ None) → cond b (Some x) q ≡ None
no_first_by x true o q e step = cc
no_first_by x false o q e step = step e

no_first : {X : Type 0} (p : X → Bool) (xs ys : List X) → find p xs ≡ None → find p ys ≡ None → find p (xs ++ ys) ≡ None
no_first p [] ys none_here none_there = none_there
no_first p (x ∷ xs) ys none_here none_there = no_first_by x (p x) (find p xs) (find p (xs ++ ys)) none_here (λ e. no_first p xs ys e none_there)

-- where no element is flagged no number is marked
pub none_marked : (marks : List ℕ) (scrolled : ℕ → ℕ) (f : Forest Element) → FlagsAre marks f → FlagsAre [] f → find (is_marked marks) (numbers_in (listed (nodes_of scrolled f))) ≡ None
none_marked marks scrolled none flags clear = refl
none_marked marks scrolled (tree k v kids rest) flags clear =
    no_first (is_marked marks) (v.number ∷ numbers_in (listed (nodes_of scrolled kids))) (numbers_in (listed (nodes_of scrolled rest)))
    (ap (λ b. cond b (Some v.number) (find (is_marked marks) (numbers_in (listed (nodes_of scrolled kids))))) (sym flags.0 ∙ clear.0) ∙ none_marked marks scrolled kids flags.1 clear.1)
    (none_marked marks scrolled rest flags.2 clear.2)

-- of the one tree for which they stand
pub none_marked_of : (marks : List ℕ) (scrolled : ℕ → ℕ) (n : PlainNode) (f : Forest Element) → n ∷ [] ≡ nodes_of scrolled f → FlagsAre marks f → FlagsAre [] f → find (is_marked marks) (numbers_of n) ≡ None
none_marked_of marks scrolled n f nodes flags clear =
    ap (find (is_marked marks)) (sym (append-nil (numbers_of n)) ∙ ap (λ ns. numbers_in (listed ns)) nodes) ∙ none_marked marks scrolled f flags clear
