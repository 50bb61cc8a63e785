-- A mark of a number that no element has.
use Rattle.std.proofs.Common.{◌≡◌, ℕ, ◌==◌, Bool, false, true, ◌||◌, cond, Option, Some, None, List, [], ◌∷◌, ◌++◌, refl, sym, ap, ◌∙◌, eq-eqb}
use Rattle.std.proofs.lemmas.Bool.{ne_eqb, false≢true}
use Rattle.std.specs.List.{list_any}
use Rattle.std.specs.Option.{option_or}
use Rattle.node_tree.specs.Forest.{Forest}
use Rattle.node_tree.specs.Forest.Forest.{none, tree}
use Rattle.node_tree.specs.Tree.{Tree}
use Rattle.program_check.specs.Checked.{PlainChecked}
use Rattle.plain_tree.specs.At.{node_in as nodes_in}
use Rattle.plain_tree.specs.PlainNode.{PlainNode, nodes_of as listed}
use Rattle.element_tree.specs.Element.{Element}
use Rattle.element_tree.specs.Nodes.{nodes_of}
use Rattle.global_keys.specs.Holders.{Registry}
use Rattle.render_tree.specs.Object.{RenderObject}
use Rattle.session_form.specs.Handlers.{node_in}
use Rattle.build_walk.specs.Kept.{node_over}
use Rattle.build_walk.specs.Telling.{FlagsAre}
use Rattle.build_owner.specs.Standing.{StandsFor}
use Rattle.kept_builds.proofs.Places.{in_list}

any_alone : (p : ℕ → Bool) (xs : List ℕ) (n : ℕ) → p n ≡ false → list_any p (xs ++ n ∷ []) ≡ list_any p xs
any_alone p [] n off = ap (λ b. b || false) off
any_alone p (x ∷ xs) n off = ap (λ b. p x || b) (any_alone p xs n off)

no_some : {A : Type 0} {a : A} → Some a ≡ None → ⊥
no_some e = cc

or_none : {A : Type 0} (a b : Option A) → option_or a b ≡ None → (a ≡ None) × (b ≡ None)
or_none None b e = (refl, e)
or_none (Some x) b e = absurd (no_some e)

other_first : (b : Bool) (n : PlainNode) (o : Option PlainNode) → cond b (Some n) o ≡ None → (b ≡ false) × (o ≡ None)
other_first true n o e = absurd (no_some e)
other_first false n o e = (refl, e)

pub flags_more : (scrolled : ℕ → ℕ) (number : ℕ) (marks : List ℕ) (f : Forest Element) → nodes_in number (listed (nodes_of scrolled f)) ≡ None → FlagsAre marks f → FlagsAre (marks ++ number ∷ []) f
flags_more scrolled number marks none away flags = tt
flags_more scrolled number marks (tree h e kids rest) away flags =
    let inside : Option PlainNode = nodes_in number (listed (nodes_of scrolled kids)) in
    let both = or_none (cond (e.number == number) (Some (node_over scrolled e kids)) inside) (nodes_in number (listed (nodes_of scrolled rest))) away in
    let own = other_first (e.number == number) (node_over scrolled e kids) inside both.0 in (
      flags.0 ∙ sym (any_alone (λ n. n == e.number) marks number (swapped e.number number own.0)),
      flags_more scrolled number marks kids own.1 flags.1,
      flags_more scrolled number marks rest both.1 flags.2,
    )
  where
    swapped : (a b : ℕ) → (a == b) ≡ false → (b == a) ≡ false
    swapped a b off = ne_eqb b a (λ e. false≢true (sym off ∙ eq-eqb a b (sym e)))

pub marked_more : (c : PlainChecked) (marks : List ℕ) (old : Option PlainNode) (scrolled : ℕ → ℕ) (t : Tree Element) (r : Tree RenderObject) (g : Registry) (number : ℕ)
    → StandsFor c marks old scrolled t r g → node_in old number ≡ None → StandsFor c (marks ++ number ∷ []) old scrolled t r g
marked_more c marks old scrolled t r g number h away =
    let s = h.elements in
    record {
      elements = record {
        forest = s.forest;
        is = s.is;
        root = s.root;
        nodes = s.nodes;
        well = s.well;
        numbered = s.numbered;
        fresh = s.fresh;
        outputs = s.outputs;
        flags = flags_more scrolled number marks s.forest (sym (ap (λ ns. nodes_in number (listed ns)) s.nodes) ∙ (in_list old number ∙ away)) s.flags;
      };
      renders = h.renders;
      names = h.names;
    }
