-- What stands goes on standing, for the tree that a line leaves.
use Rattle.std.proofs.Common.{◌≡◌, ℕ, ◌+◌, cond, Option, Some, None, IfSome, is_some, option_map, List, [], ◌∷◌, ◌++◌, refl, sym, ap, ◌∙◌, subst, arith}
use Rattle.std.specs.Option.{option_to_list}
use Rattle.std.proofs.lemmas.List.{append-nil}
use Rattle.fx_expr.specs.declared.values.Value.{Value}
use Rattle.fx_handles.specs.declared.Handle.{Handle}
use Rattle.node_tree.specs.Forest.{Forest, set_value}
use Rattle.node_tree.specs.Forest.Forest.{none, tree}
use Rattle.node_tree.specs.Tree.{Tree, node_at as stored_at}
use Rattle.program_check.specs.Checked.{PlainChecked}
use Rattle.template_build.specs.Program.{declarations_of}
use Rattle.plain_tree.specs.At.{node_at, numbers_of, changed_at, changed_in, having_fields}
use Rattle.plain_tree.specs.At.{node_in as nodes_in}
use Rattle.plain_tree.specs.Laws.{AllDiffer, render_numbers_in}
use Rattle.plain_tree.specs.declared.role.RenderRole.TheVariants.{Plain}
use Rattle.plain_tree.specs.PlainNode.{PlainNode, no_nodes, more_nodes, list_of, fields_of, nodes_of as listed}
use Rattle.plain_tree.specs.Projection.{projected, projected_all, render_of}
use Rattle.plain_tree.specs.Render.{renders_of as renders_listed}
use Rattle.build_form.specs.Numbered.{IsNumbered}
use Rattle.build_form.specs.Program.{blueprint_of}
use Rattle.build_form.specs.WellBuilt.{IsWellBuilt, AreWellBuilt}
use Rattle.element_tree.specs.Edits.{Writes}
use Rattle.element_tree.specs.Element.{Element, element_at, number_at, made_count}
use Rattle.element_tree.specs.Nodes.{nodes_of}
use Rattle.global_keys.specs.Holders.{Registry}
use Rattle.render_tree.specs.Object.{RenderObject}
use Rattle.render_tree.specs.Plain.{renders_of}
use Rattle.render_tree.specs.Tree.{object_at}
use Rattle.session_form.specs.Handlers.{node_in}
use Rattle.build_walk.specs.Kept.{node_over}
use Rattle.build_walk.specs.Standing.{ElementsStandFor, RendersStandFor}
use Rattle.build_walk.proofs.Standing.{all_built, live_element}
use Rattle.build_walk.proofs.Standing.{built_again as built_scrolled}
use Rattle.kept_builds.specs.Offsets.{offset_of, offsets_in}
use Rattle.kept_builds.specs.Projected.{HasProjection, KeepsNumbers}
use Rattle.build_owner.specs.Standing.{StandsFor}
use Rattle.kept_builds.specs.Standing.{NumbersOnce}
use Rattle.kept_builds.proofs.Drawn.{SomeHasScroll, drawn_so}
use Rattle.kept_builds.proofs.Places.{among, not_among, in_list}
use Rattle.kept_builds.proofs.Rescrolling.{IsRescrolled, AreRescrolled, forest_rescrolled, top_told, none_above}
use Rattle.kept_builds.proofs.Rewriting.{IsRewritten, same_tops, built_again, outputs_again, flags_again, drawn_again, names_again, changed_alike}

some_is : {A : Type 0} (x y : A) → Some x ≡ Some y → x ≡ y
some_is x y e = cc

list_again : (ns : List PlainNode) → list_of (listed ns) ≡ ns
list_again [] = refl
list_again (n ∷ ns) = ap (λ l. n ∷ l) (list_again ns)

pub as_list : (ns ms : List PlainNode) → listed ns ≡ listed ms → ns ≡ ms
as_list ns ms e = sym (list_again ns) ∙ ap list_of e ∙ list_again ms

-- ---- render nodes

-- the numbers of render nodes differ, where those of the tree do
projection_apart : ((n : PlainNode) → AllDiffer (numbers_of n) → AllDiffer (render_numbers_in (renders_listed (render_of n)))) → (next : ℕ) (now : Option PlainNode) → IfSome now (IsNumbered next)
    → AllDiffer (render_numbers_in (renders_listed (projected_all Plain None (listed (option_to_list now)))))
unfolding projected_all
projection_apart law next None n = tt
projection_apart law next (Some x) n = subst (λ rs. AllDiffer (render_numbers_in (renders_listed rs))) (sym (append-nil (render_of x))) (law x n.differ)

pub redrawn_so : ((n : PlainNode) → AllDiffer (numbers_of n) → AllDiffer (render_numbers_in (renders_listed (render_of n)))) → (next : ℕ) (old now : Option PlainNode) (scrolled told : ℕ → ℕ) (f : Forest Element)
    (r s : Tree RenderObject) → RendersStandFor old scrolled f r → IfSome now (IsNumbered next) → option_to_list now ≡ nodes_of told f → KeepsNumbers r s → HasProjection now s → RendersStandFor now told f s
redrawn_so law next old now scrolled told f r s stands numbered nodes keeps has =
    let of_nodes : renders_of has.objects ≡ renders_listed (projected_all Plain None (listed (nodes_of told f))) = has.projected ∙ ap (λ ns. renders_listed (projected_all Plain None (listed ns))) nodes in
    let differ : AllDiffer (render_numbers_in (renders_of has.objects)) = subst (λ rs. AllDiffer (render_numbers_in rs)) (sym has.projected) (projection_apart law next now numbered) in
    record {
      drawn = drawn_so r s keeps scrolled told has.objects has.is differ Plain None f (λ n scroll h. subst (SomeHasScroll n scroll) (sym of_nodes) h) stands.drawn;
      objects = has.objects;
      is = has.is;
      root = has.root;
      projected = has.projected;
    }

-- ---- offsets

no_nodes_too : (scrolled told : ℕ → ℕ) (f : Forest Element) → [] ≡ nodes_of scrolled f → [] ≡ nodes_of told f
no_nodes_too scrolled told none e = refl
no_nodes_too scrolled told (tree h v kids rest) e = absurd (cc)

module _ (c : PlainChecked) (marks : List ℕ) (scrolled : ℕ → ℕ) (t : Tree Element) where
  abbrev nothing_scrolled : ElementsStandFor c marks None scrolled t → ElementsStandFor c marks None (offsets_in None) t
  nothing_scrolled s = record {
    forest = s.forest;
    is = s.is;
    root = s.root;
    nodes = no_nodes_too scrolled (offsets_in None) s.forest s.nodes;
    well = tt;
    numbered = tt;
    fresh = λ n high. refl;
    outputs = s.outputs;
    flags = s.flags;
  }

  module _ (old new : PlainNode) (s : ElementsStandFor c marks (Some old) scrolled t) (like : IsRescrolled old new) (numbered : IsNumbered (made_count t + 1) new) where
    told_nodes : listed (nodes_of (offsets_in (Some new)) s.forest) ≡ more_nodes new no_nodes
    told_nodes =
        forest_rescrolled scrolled (offsets_in (Some new)) s.forest (more_nodes new no_nodes) (subst (λ ns. AreRescrolled (listed ns) (more_nodes new no_nodes)) s.nodes (like, tt))
        (top_told new numbered.differ, tt)

    told_well : AreWellBuilt (declarations_of c) (more_nodes new no_nodes)
    told_well = subst (AreWellBuilt (declarations_of c)) told_nodes (built_scrolled scrolled (offsets_in (Some new)) (declarations_of c) s.forest (all_built c marks (Some old) scrolled t s))

    abbrev rescrolled : ElementsStandFor c marks (Some new) (offsets_in (Some new)) t
    rescrolled = record {
      forest = s.forest;
      is = s.is;
      root = s.root;
      nodes = sym (as_list (nodes_of (offsets_in (Some new)) s.forest) (new ∷ []) told_nodes);
      well = told_well.0;
      numbered = numbered;
      fresh = λ n high. ap offset_of (none_above (made_count t + 1) n new high numbered.below);
      outputs = s.outputs;
      flags = s.flags;
    }

module _ (law : (n : PlainNode) → AllDiffer (numbers_of n) → AllDiffer (render_numbers_in (renders_listed (render_of n)))) (c : PlainChecked) (marks : List ℕ) (scrolled : ℕ → ℕ) (t : Tree Element)
    (r s : Tree RenderObject) (g : Registry) (change : PlainNode → PlainNode) (like : (n : PlainNode) → IsRescrolled n (change n)) (numbered : (next : ℕ) (n : PlainNode) → IsNumbered next n → IsNumbered next (change n)) where
  pub scrolled_on : (old : Option PlainNode) → StandsFor c marks old scrolled t r g → KeepsNumbers r s → HasProjection (option_map change old) s
      → StandsFor c marks (option_map change old) (offsets_in (option_map change old)) t s g
  scrolled_on None stands keeps has =
      let elements = nothing_scrolled c marks scrolled t stands.elements in
      record {
        elements = elements;
        renders = redrawn_so law 0 None None scrolled (offsets_in None) elements.forest r s stands.renders tt elements.nodes keeps has;
        names = stands.names;
      }
  scrolled_on (Some old) stands keeps has =
      let elements = rescrolled c marks scrolled t old (change old) stands.elements (like old) (numbered (made_count t + 1) old stands.elements.numbered) in
      record {
        elements = elements;
        renders = redrawn_so law (made_count t + 1) (Some old) (Some (change old)) scrolled (offsets_in (Some (change old))) elements.forest r s stands.renders elements.numbered elements.nodes keeps has;
        names = stands.names;
      }

-- ---- an element is changed

module _ (c : PlainChecked) (marks : List ℕ) (scrolled : ℕ → ℕ) (t u : Tree Element) (r : Tree RenderObject) (g : Registry) (h : Handle) (e w : Element) (stored : element_at t h ≡ Some e) (is : IsRewritten e w)
    (once : NumbersOnce t) (writes : Writes t u h w) where
  unique : (k : Handle) (v : Element) → element_at t k ≡ Some v → v.number ≡ e.number → k ≡ h
  unique k v there same = once e.number k h (ap (option_map (λ (x : Element). x.number)) there ∙ ap (λ n. Some n) same) (ap (option_map (λ (x : Element). x.number)) stored)

  -- the tree is this one then, for which the element's node is changed and all others are as they were
  pub rewritten : (old now : Option PlainNode) (s : StandsFor c marks old scrolled t r g) → option_to_list now ≡ nodes_of scrolled (set_value h w s.elements.forest) → IfSome now (IsNumbered (made_count t + 1))
      → projected_all Plain None (listed (option_to_list now)) ≡ projected_all Plain None (listed (option_to_list old)) → StandsFor c (marks ++ e.number ∷ []) now scrolled u r g
  rewritten old now s nodes numbered projects =
      let f = s.elements.forest in
      let stands = s.elements.is.stands in
      let built : AreWellBuilt (declarations_of c) (listed (nodes_of scrolled (set_value h w f))) =
      built_again (stored_at t) h e w stored is scrolled (declarations_of c) None f stands (all_built c marks old scrolled t s.elements) in
      let made : made_count u ≡ made_count t = writes.writes.handles.inserted in
      record {
        elements = record {
          forest = set_value h w f;
          is = writes.plain f s.elements.is;
          root = ap option_to_list writes.root ∙ s.elements.root ∙ sym (same_tops h w f);
          nodes = nodes;
          well = one_built now (subst (λ ns. AreWellBuilt (declarations_of c) (listed ns)) (sym nodes) built);
          numbered = subst (λ n. IfSome now (IsNumbered (n + 1))) (sym made) numbered;
          fresh = λ n high. s.elements.fresh n (omega (arith, high, made));
          outputs = outputs_again (stored_at t) h e w stored is (blueprint_of c) None (blueprint_of c).defaults f stands s.elements.outputs;
          flags = flags_again (stored_at t) h e w stored is marks unique None f stands s.elements.flags;
        };
        renders = record {
          drawn = drawn_again (stored_at t) h e w stored is (object_at r) scrolled None f stands s.renders.drawn;
          objects = s.renders.objects;
          is = s.renders.is;
          root = s.renders.root;
          projected = s.renders.projected ∙ ap renders_listed (sym projects);
        };
        names = names_again g t u h e w stored is.widget writes s.names;
      }
    where
      one_built : (o : Option PlainNode) → AreWellBuilt (declarations_of c) (listed (option_to_list o)) → IfSome o (IsWellBuilt (declarations_of c))
      one_built None b = tt
      one_built (Some x) b = b.0

-- ---- its node is found

module _ (c : PlainChecked) (marks : List ℕ) (scrolled : ℕ → ℕ) (t : Tree Element) where
  pub no_number : (old : Option PlainNode) (number : ℕ) → ElementsStandFor c marks old scrolled t → ((h : Handle) → number_at t h ≡ Some number → ⊥) → node_in old number ≡ None
  no_number old number s none_has =
      sym (in_list old number)
      ∙ ap (λ ns. nodes_in number (listed ns)) s.nodes
      ∙ not_among (stored_at t) scrolled number (λ k v there same. none_has k (ap (option_map (λ (x : Element). x.number)) there ∙ ap (λ n. Some n) same)) None s.forest s.is.stands

  module _ (h : Handle) (e : Element) (stored : element_at t h ≡ Some e) (once : NumbersOnce t) where
    pub found : (old : Option PlainNode) → ElementsStandFor c marks old scrolled t → (kids : Forest Element) × (node_in old e.number ≡ Some (node_over scrolled e kids))
    found old s =
        let f = among (stored_at t) scrolled h e stored
        (λ k v there same. once e.number k h (ap (option_map (λ (x : Element). x.number)) there ∙ ap (λ n. Some n) same) (ap (option_map (λ (x : Element). x.number)) stored))
        None s.forest s.is.stands (s.is.whole h (live_element t h e stored)) in
        (f.0, sym (in_list old e.number) ∙ ap (λ ns. nodes_in e.number (listed ns)) s.nodes ∙ f.1)

-- ---- fields

there_one : (n : PlainNode) (number : ℕ) (m : PlainNode) (f : PlainNode → PlainNode) → node_at number n ≡ Some m → changed_in f number (more_nodes n no_nodes) ≡ more_nodes (changed_at f number n) no_nodes
there_one n number m f e = ap (λ o. cond (is_some o) (more_nodes (changed_at f number n) no_nodes) (more_nodes n no_nodes)) e

module _ (change : List Value → List Value) where
  abbrev as_fields : PlainNode → PlainNode
  as_fields n = having_fields (change (fields_of n)) n

  -- the node that is found has these fields
  pub same_change : (n : PlainNode) (number : ℕ) (m : PlainNode) (fields : List Value) → node_at number n ≡ Some m → fields_of m ≡ fields → changed_at as_fields number n ≡ changed_at (having_fields (change fields)) number n
  same_change n number m fields found has =
      changed_alike as_fields (having_fields (change fields)) number n (λ x is. ap (λ fs. having_fields (change fs) x) (ap fields_of (some_is x m (sym is ∙ found)) ∙ has))

  pub fields_listed : (scrolled : ℕ → ℕ) (f g : Forest Element) (old : Option PlainNode) (number : ℕ) (m : PlainNode) (fields : List Value) → option_to_list old ≡ nodes_of scrolled f → node_in old number ≡ Some m → fields_of m ≡ fields
      → listed (nodes_of scrolled g) ≡ changed_in (having_fields (change fields)) number (listed (nodes_of scrolled f)) → option_to_list (option_map (changed_at as_fields number) old) ≡ nodes_of scrolled g
  fields_listed scrolled f g None number m fields nodes found has changed = absurd (cc)
  fields_listed scrolled f g (Some n) number m fields nodes found has changed =
      as_list (changed_at as_fields number n ∷ []) (nodes_of scrolled g)
      (ap (λ x. more_nodes x no_nodes) (same_change n number m fields found has)
      ∙ sym (changed ∙ ap (λ ns. changed_in (having_fields (change fields)) number (listed ns)) (sym nodes) ∙ there_one n number m (having_fields (change fields)) found))

  pub fields_projected : ((fields : List Value) (wanted : ℕ) (n : PlainNode) → render_of (changed_at (having_fields fields) wanted n) ≡ render_of n) → (old : Option PlainNode) (number : ℕ) (m : PlainNode) (fields : List Value)
      → node_in old number ≡ Some m → fields_of m ≡ fields
      → projected_all Plain None (listed (option_to_list (option_map (changed_at as_fields number) old))) ≡ projected_all Plain None (listed (option_to_list old))
  unfolding projected_all
  fields_projected law None number m fields found has = refl
  fields_projected law (Some n) number m fields found has = ap (λ rs. rs ++ []) (ap render_of (same_change n number m fields found has) ∙ law (change fields) number n)

  pub fields_numbered : ((f : PlainNode → List Value) (wanted next : ℕ) (n : PlainNode) → IsNumbered next n → IsNumbered next (changed_at (λ m. having_fields (f m) m) wanted n)) → (old : Option PlainNode) (number next : ℕ)
      → IfSome old (IsNumbered next) → IfSome (option_map (changed_at as_fields number) old) (IsNumbered next)
  fields_numbered law None number next h = tt
  fields_numbered law (Some n) number next h = law (λ m. change (fields_of m)) number next n h
