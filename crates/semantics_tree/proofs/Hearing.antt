-- What a semantics node in the making hears one after another.
use Rattle.std.proofs.Common.{◌≡◌, ℕ, ◌+◌, ◌<◌, ◌≤◌, Bool, true, false, ◌||◌, Option, Some, None, List, [], ◌∷◌, ◌++◌, map, length, drop, get_or, refl, sym, ap, ◌∙◌}
use Rattle.std.proofs.lemmas.List.{append_assoc, append-nil, at_drop_more, at_drop_all}
use Rattle.fx_geom.specs.declared.shapes.Offset.{Offset}
use Rattle.fx_geom.specs.Offset.{offset_sum}
use Rattle.plain_tree.specs.Laid.{Stood}
use Rattle.laid_cursor.specs.Opened.{laids_at}
use Rattle.laid_cursor.proofs.Walking.{none_there, one_there, none_left}
use Rattle.std.specs.Option.{option_or}
use Rattle.semantics_tree.specs.declared.nodes.SemNode.{SemNode}
use Rattle.screen_form.specs.Sem.{Sem, sems_of}
use Rattle.semantics_tree.specs.View.{sem_of}
use Rattle.screen_form.specs.Fragment.{Fragment, nothing, together, own, alone, joined, labels_in, has_button, has_button_in, first_tap, first_tap_in, first_long, first_long_in, fragment_of, fragment_in}
use Rattle.semantics_tree.specs.Forming.{Heard, after, side_by_side, labels_for, button_for, tap_for, long_for, nodes_for, with_line}
use Rattle.semantics_tree.proofs.Labels.{with_line-nil, with_line-assoc, joined-append}

or-nil : (a : Bool) → (a || false) ≡ a
or-nil true = refl
or-nil false = refl

or-assoc : (a b c : Bool) → ((a || b) || c) ≡ (a || (b || c))
or-assoc true b c = refl
or-assoc false b c = refl

-- four flags, by pairs
or-pairs : (a b c d : Bool) → ((a || b) || (c || d)) ≡ ((a || c) || (b || d))
or-pairs true b c d = refl
or-pairs false true true d = refl
or-pairs false true false d = refl
or-pairs false false c d = refl

pub option_or-nil : {A : Type 0} (a : Option A) → option_or a None ≡ a
option_or-nil (Some x) = refl
option_or-nil None = refl

option_or-assoc : {A : Type 0} (a b c : Option A) → option_or (option_or a b) c ≡ option_or a (option_or b c)
option_or-assoc (Some x) b c = refl
option_or-assoc None b c = refl

-- what nodes have, one after another
buttons : (ss ts : List Sem) → has_button_in (sems_of (ss ++ ts)) ≡ (has_button_in (sems_of ss) || has_button_in (sems_of ts))
buttons [] ts = refl
buttons (s ∷ ss) ts = ap (λ b. has_button s || b) (buttons ss ts) ∙ sym (or-assoc (has_button s) (has_button_in (sems_of ss)) (has_button_in (sems_of ts)))

taps : (ss ts : List Sem) → first_tap_in (sems_of (ss ++ ts)) ≡ option_or (first_tap_in (sems_of ss)) (first_tap_in (sems_of ts))
taps [] ts = refl
taps (s ∷ ss) ts = ap (option_or (first_tap s)) (taps ss ts) ∙ sym (option_or-assoc (first_tap s) (first_tap_in (sems_of ss)) (first_tap_in (sems_of ts)))

longs : (ss ts : List Sem) → first_long_in (sems_of (ss ++ ts)) ≡ option_or (first_long_in (sems_of ss)) (first_long_in (sems_of ts))
longs [] ts = refl
longs (s ∷ ss) ts = ap (option_or (first_long s)) (longs ss ts) ∙ sym (option_or-assoc (first_long s) (first_long_in (sems_of ss)) (first_long_in (sems_of ts)))

-- what a node takes of two that are given
labels_both : (m : Bool) (g k : Fragment) → labels_for m (together g k) ≡ labels_for m g ++ labels_for m k
labels_both true g k = refl
labels_both false g k = refl

button_both : (m : Bool) (g k : Fragment) → button_for m (together g k) ≡ (button_for m g || button_for m k)
button_both true g k =
    ap (λ b. (g.button || k.button) || b) (buttons g.nodes k.nodes)
    ∙ sym (or-pairs g.button (has_button_in (sems_of g.nodes)) k.button (has_button_in (sems_of k.nodes)))
button_both false g k = refl

tap_both : (m : Bool) (g k : Fragment) → tap_for m (together g k) ≡ option_or (tap_for m g) (tap_for m k)
tap_both true g k = taps g.nodes k.nodes
tap_both false g k = refl

long_both : (m : Bool) (g k : Fragment) → long_for m (together g k) ≡ option_or (long_for m g) (long_for m k)
long_both true g k = longs g.nodes k.nodes
long_both false g k = refl

nodes_both : (m : Bool) (g k : Fragment) → nodes_for m (together g k) ≡ nodes_for m g ++ nodes_for m k
nodes_both true g k = refl
nodes_both false g k = refl

-- to hear two after one another is to hear them together
pub after-together : (h : Heard) (g k : Fragment) → after (after h g) k ≡ after h (together g k)
after-together h g k =
    let m = h.merging in
    let label : with_line (with_line h.label (joined (labels_for m g))) (joined (labels_for m k)) ≡ with_line h.label (joined (labels_for m (together g k))) =
    with_line-assoc h.label (joined (labels_for m g)) (joined (labels_for m k))
    ∙ ap (with_line h.label) (sym (joined-append (labels_for m g) (labels_for m k)) ∙ ap joined (sym (labels_both m g k))) in
    let button = or-assoc h.button (button_for m g) (button_for m k) ∙ ap (λ b. h.button || b) (sym (button_both m g k)) in
    let tap = option_or-assoc h.tap (tap_for m g) (tap_for m k) ∙ ap (option_or h.tap) (sym (tap_both m g k)) in
    let long = option_or-assoc h.long (long_for m g) (long_for m k) ∙ ap (option_or h.long) (sym (long_both m g k)) in
    let nodes = append_assoc h.nodes (nodes_for m g) (nodes_for m k) ∙ ap (λ l. h.nodes ++ l) (sym (nodes_both m g k)) in
    λ i. record { merging = m; label = label i; button = button i; tap = tap i; long = long i; nodes = nodes i }

-- nothing of nothing
labels_none : (m : Bool) → labels_for m nothing ≡ []
labels_none true = refl
labels_none false = refl

button_none : (m : Bool) → button_for m nothing ≡ false
button_none true = refl
button_none false = refl

tap_none : (m : Bool) → tap_for m nothing ≡ None
tap_none true = refl
tap_none false = refl

long_none : (m : Bool) → long_for m nothing ≡ None
long_none true = refl
long_none false = refl

nodes_none : (m : Bool) → nodes_for m nothing ≡ []
nodes_none true = refl
nodes_none false = refl

pub after-nothing : (h : Heard) → after h nothing ≡ h
after-nothing h =
    let m = h.merging in
    let label = ap (λ ls. with_line h.label (joined ls)) (labels_none m) ∙ with_line-nil h.label in
    let button = ap (λ b. h.button || b) (button_none m) ∙ or-nil h.button in
    let tap = ap (option_or h.tap) (tap_none m) ∙ option_or-nil h.tap in
    let long = ap (option_or h.long) (long_none m) ∙ option_or-nil h.long in
    let nodes = ap (λ l. h.nodes ++ l) (nodes_none m) ∙ append-nil h.nodes in
    λ i. record { merging = m; label = label i; button = button i; tap = tap i; long = long i; nodes = nodes i }

-- the nodes of a list, one after another
module _ (ns : List SemNode) (i : ℕ) where
  pub merged_more : (n : SemNode) (old new whole : Heard) → i < length ns → n ≡ get_or ns i n → new ≡ after old (alone (sem_of n))
      → after old (side_by_side (map sem_of (drop i ns))) ≡ whole → after new (side_by_side (map sem_of (drop (i + 1) ns))) ≡ whole
  merged_more n old new whole within is_n is_new so_far =
      let rest = map sem_of (drop (i + 1) ns) in
      ap (λ h. after h (side_by_side rest)) is_new
      ∙ after-together old (alone (sem_of n)) (side_by_side rest)
      ∙ ap (λ (m : SemNode). after old (side_by_side (sem_of m ∷ rest))) is_n
      ∙ sym (at_drop_more (λ l. after old (side_by_side (map sem_of l))) ns i n within)
      ∙ so_far

  pub merged_all : (old whole : Heard) → length ns ≤ i → after old (side_by_side (map sem_of (drop i ns))) ≡ whole → old ≡ whole
  merged_all old whole past so_far =
      sym (after-nothing old) ∙ sym (at_drop_all (λ l. after old (side_by_side (map sem_of l))) ns i past) ∙ so_far

-- what stands at places, one after another
module _ (at : Offset) (ps : List (Option Stood)) (i : ℕ) where
  pub heard_none : (old whole : Heard) → i < length ps → None ≡ get_or ps i None
      → after old (fragment_in (laids_at (drop i ps)) at) ≡ whole → after old (fragment_in (laids_at (drop (i + 1) ps)) at) ≡ whole
  heard_none old whole within is so_far = ap (λ ls. after old (fragment_in ls at)) (sym (none_there ps i within is)) ∙ so_far

  pub heard_more : (c : Stood) (old new whole : Heard) → i < length ps → Some c ≡ get_or ps i None → new ≡ after old (fragment_of c.child (offset_sum at c.at))
      → after old (fragment_in (laids_at (drop i ps)) at) ≡ whole → after new (fragment_in (laids_at (drop (i + 1) ps)) at) ≡ whole
  unfolding fragment_of
  heard_more c old new whole within is_c is_new so_far =
      let rest = fragment_in (laids_at (drop (i + 1) ps)) at in
      ap (λ h. after h rest) is_new
      ∙ after-together old (fragment_of c.child (offset_sum at c.at)) rest
      ∙ ap (λ ls. after old (fragment_in ls at)) (sym (one_there ps i c within is_c))
      ∙ so_far

  pub heard_all : (old whole : Heard) → length ps ≤ i → after old (fragment_in (laids_at (drop i ps)) at) ≡ whole → old ≡ whole
  unfolding fragment_of
  heard_all old whole past so_far =
      sym (after-nothing old) ∙ ap (λ ls. after old (fragment_in ls at)) (sym (none_left ps i past)) ∙ so_far

-- a merging node takes a node and those below it
or-around : (a b c : Bool) → ((a || (b || false)) || (false || c)) ≡ (a || (false || ((b || c) || false)))
or-around true b c = refl
or-around false true c = refl
or-around false false true = refl
or-around false false false = refl

first-around : (a b c : Option ℕ) → option_or (option_or (option_or a None) b) c ≡ option_or a (option_or (option_or b c) None)
first-around (Some x) b c = refl
first-around None b c = sym (option_or-nil (option_or b c))

abbrev merging : List ℕ → Bool → Option ℕ → Option ℕ → List Sem → Heard
merging l b t g ns = record { merging = true; label = l; button = b; tap = t; long = g; nodes = ns }

-- what a node has heard that has said a node's own, and has its detectors
abbrev own_of : Heard → SemNode → Heard
own_of h n =
    let said = after h (own n.label n.button) in
    record { merging = said.merging; label = said.label; button = said.button; tap = option_or said.tap n.tap; long = option_or said.long n.long; nodes = said.nodes }

all_of_it : (l : List ℕ) (b : Bool) (t g : Option ℕ) (ns : List Sem) (n : SemNode)
    → after (own_of (merging l b t g ns) n) (side_by_side n.children) ≡ after (merging l b t g ns) (alone (sem_of n))
all_of_it l b t g ns n =
    let below = sems_of n.children in
    let label : with_line (with_line l (joined (n.label ∷ []))) (joined (labels_in below)) ≡ with_line l (joined (n.label ∷ labels_in below)) =
    with_line-assoc l (joined (n.label ∷ [])) (joined (labels_in below)) ∙ ap (with_line l) (sym (joined-append (n.label ∷ []) (labels_in below))) in
    let button = or-around b n.button (has_button_in below) in
    let tap = first-around t n.tap (first_tap_in below) in
    let long = first-around g n.long (first_long_in below) in
    let nodes = append-nil (ns ++ []) in
    λ i. record { merging = true; label = label i; button = button i; tap = tap i; long = long i; nodes = nodes i }

pub merges_node : (h said : Heard) (tap long : Option ℕ) (n : SemNode) → h.merging ≡ true → said ≡ after h (own n.label n.button)
    → tap ≡ option_or said.tap n.tap → long ≡ option_or said.long n.long
    → after (record { merging = said.merging; label = said.label; button = said.button; tap = tap; long = long; nodes = said.nodes }) (side_by_side n.children)
    ≡ after h (alone (sem_of n))
merges_node h said tap long n is_merging is_said is_tap is_long =
    let is_h : h ≡ merging h.label h.button h.tap h.long h.nodes =
    λ i. record { merging = is_merging i; label = h.label; button = h.button; tap = h.tap; long = h.long; nodes = h.nodes } in
    let first = is_tap ∙ ap (λ (s : Heard). option_or s.tap n.tap) is_said in
    let second = is_long ∙ ap (λ (s : Heard). option_or s.long n.long) is_said in
    (λ i. after
    (record { merging = (is_said i).merging; label = (is_said i).label; button = (is_said i).button; tap = first i; long = second i; nodes = (is_said i).nodes })
    (side_by_side n.children))
    ∙ ap (λ k. after (own_of k n) (side_by_side n.children)) is_h
    ∙ all_of_it h.label h.button h.tap h.long h.nodes n
    ∙ ap (λ k. after k (alone (sem_of n))) (sym is_h)
