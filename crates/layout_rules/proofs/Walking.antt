-- The loops of the walk: duties done at the children, one after another.
use Rattle.std.proofs.Common.{◌≡◌, ap, refl, sym, ◌∙◌, ℕ, suc, ◌+◌, ◌≤◌, ◌<◌, Bool, cond, false, Option, Some, None, is_some, List, length, get_or, arith}
use Rattle.std.proofs.lemmas.Bool.{false≢true}
use Rattle.fx_handles.specs.declared.Handle.{Handle}
use Rattle.fx_handles.specs.Handle.{same}
use Rattle.node_tree.specs.Forest.{Forest, tops, size, skip}
use Rattle.node_tree.specs.Forest.Forest.{none, tree}
use Rattle.node_tree.specs.Tree.{Tree, IsTree, children_at, subtree_at}
use Rattle.layout_form.specs.Fits.{CanAllBeLaidOut}
use Rattle.layout_form.specs.Object.{Setting}
use Rattle.render_tree.specs.Object.{RenderObject}
use Rattle.layout_walk.proofs.Measuring.{back_only}
use Rattle.layout_walk.specs.Node.{LayoutNode, renders_in}
use Rattle.layout_walk.specs.Rule.{LayoutParts, Lawful}
use Rattle.layout_walk.specs.Flush.{one_each}
use Rattle.layout_walk.specs.Here.{HereAll, Backs, back_in}
use Rattle.layout_walk.specs.Rules.{parts_of}
use Rattle.layout_walk.specs.Walk.{SameMembers}
use Rattle.layout_rules.specs.declared.duties.Duty.{Duty}
use Rattle.layout_rules.specs.Nodes.{seen_at, SeenAt}
use Rattle.layout_rules.specs.Duties.{MayDo, Served, AllServed, ticks_if, ticks_left, duty_ticks}
use Rattle.layout_rules.specs.Serving.{IsGood, IsReadyFor, Serves}
use Rattle.layout_rules.specs.Turns.{Turns, put}
use Rattle.layout_rules.proofs.Allowed.{fits_nth, here_nth}
use Rattle.layout_rules.proofs.Putting.{one_forest, nth_tree}
use Rattle.layout_rules.proofs.Served.{does_well, served_same, served_skip, served_put, served_pass, served_all, left_here}
use Rattle.layout_rules.proofs.Turning.{seen_children, seen_size, same_weigh, same_tops, turn_same, turn_again, child_seen, child_turns}

pub none_there : {A : Type 0} (o : Option A) → is_some o ≡ false → o ≡ None
none_there {A} None is = refl
none_there {A} (Some x) is = absurd (false≢true (sym is))

-- the first i children have their duties done
pub record Progress (s : Setting) (outer : Bool) (t0 t : Tree RenderObject) (h : Handle) (i end : ℕ) (duties : List (Option Duty)) (before now : ℕ) : Type 0 where
  pub value : LayoutNode
  pub kids0 : Forest LayoutNode
  pub kids : Forest LayoutNode
  pub base : SeenAt t0 h (tree h value kids0 none)
  pub all : HereAll (parts_of s) kids0
  pub fits : CanAllBeLaidOut (renders_in kids0)
  pub turns : Turns t0 t h (tree h value kids0 none) (tree h value kids none)
  pub served : Served (parts_of s) (back_in (parts_of s) outer) i duties kids0 kids
  pub ends : end ≡ length (tops kids0)
  pub ticks : now + ticks_left (parts_of s) outer i duties kids0 ≤ before + ticks_left (parts_of s) outer 0 duties kids0

pub start : (s : Setting) (outer : Bool) (t : Tree RenderObject) (h : Handle) (end : ℕ) (duties : List (Option Duty)) (steps : ℕ) (v : LayoutNode) (kids : Forest LayoutNode)
    → SeenAt t h (tree h v kids none) → HereAll (parts_of s) kids → CanAllBeLaidOut (renders_in kids) → end ≡ length (children_at t h)
    → Progress s outer t t h 0 end duties steps steps
start s outer t h end duties steps v kids seen all fits is = record {
  value = v;
  kids0 = kids;
  kids = kids;
  base = seen;
  all = all;
  fits = fits;
  turns = turn_same t h (tree h v kids none) seen;
  served = refl;
  ends = is ∙ ap (λ (hs : List Handle). length hs) (seen_children t h v kids seen);
  ticks = omega arith;
}

tree_parts : (c : Handle) (v w : LayoutNode) (kids below : Forest LayoutNode) → tree c v kids none ≡ tree c w below none → (v ≡ w) × (kids ≡ below)
tree_parts c v w kids below e =
    let values : v ≡ w = cc in
    let parts : kids ≡ below = cc in
    (values, parts)

module _ (s : Setting) (law : Lawful (parts_of s)) (outer : Bool) (t0 t : Tree RenderObject) (h : Handle) (i end : ℕ) (duties : List (Option Duty)) (before now : ℕ)
    (p : Progress s outer t0 t h i end duties before now) where
  abbrev P : LayoutParts
  P = parts_of s

  abbrev back : Backs
  back = back_in P outer

  same_kids : SameMembers p.kids0 p.kids
  same_kids = served_same s law back (back_only (parts_of s) outer) i duties p.kids0 p.kids p.all p.served

  -- how many children there are still
  pub less_now : i < end → i < length (children_at t h)
  less_now less =
      let e = p.ends in
      let hs = ap (λ (xs : List Handle). length xs) (seen_children t h p.value p.kids p.turns.stands ∙ sym (same_tops p.kids0 p.kids same_kids)) in
      omega (arith, e, hs, less)

  pub less_start : i < end → i < length (children_at t0 h)
  less_start less =
      let e = p.ends in
      let hs = ap (λ (xs : List Handle). length xs) (seen_children t0 h p.value p.kids0 p.base) in
      omega (arith, e, hs, less)

  pub passed : get_or duties i None ≡ None → i < end → Progress s outer t0 t h (suc i) end duties before now
  passed is less =
      let there = nth_tree i p.kids0 h (let e = p.ends in omega (arith, e, less)) in
      let course = left_here one_each P outer i duties (get_or (tops p.kids0) i h) there.0 there.1 there.2 p.kids0 there.3 in
      let none_here : ticks_if P outer (get_or duties i None) there.0 there.1 ≡ 0 = ap (λ (o : Option Duty). ticks_if P outer o there.0 there.1) is in
      let so_far = p.ticks in
      record {
        value = p.value;
        kids0 = p.kids0;
        kids = p.kids;
        base = p.base;
        all = p.all;
        fits = p.fits;
        turns = p.turns;
        served = served_pass P back i duties p.kids0 p.kids p.served is;
        ends = p.ends;
        ticks = omega (arith, course, none_here, so_far);
      }

  -- child number i
  pub record Child (c : Handle) : Type 0 where
    pub value : LayoutNode
    pub below : Forest LayoutNode
    pub after : Forest LayoutNode
    pub is : skip i p.kids0 ≡ tree c value below after
    pub good : IsGood P t c value below

  pub child : (c : Handle) → c ≡ get_or (children_at t h) i h → i < end → Child c
  child c named less =
      let e = p.ends in
      let there = nth_tree i p.kids0 h (omega (arith, e, less)) in
      let hs : children_at t h ≡ tops p.kids0 = seen_children t h p.value p.kids p.turns.stands ∙ sym (same_tops p.kids0 p.kids same_kids) in
      let name : get_or (tops p.kids0) i h ≡ c = sym (named ∙ ap (λ (xs : List Handle). get_or xs i h) hs) in
      let is : skip i p.kids0 ≡ tree c there.0 there.1 there.2 = there.3 ∙ ap (λ (k : Handle). tree k there.0 there.1 there.2) name in
      let here = here_nth P i p.kids0 c there.0 there.1 there.2 is p.all in
      record {
        value = there.0;
        below = there.1;
        after = there.2;
        is = is;
        good = record {
          stands = child_seen t h c p.value there.0 p.kids there.1 there.2 i p.turns.stands (served_skip P back i duties p.kids0 p.kids p.served ∙ is);
          here = here.0;
          all = here.1;
          fits = fits_nth i p.kids0 c there.0 there.1 there.2 is p.fits;
        };
      }

  pub ready : (c : Handle) (duty : Duty) → c ≡ get_or (children_at t h) i h → i < end → MayDo duty → IsReadyFor P t c duty
  ready c duty named less may = let one = child c named less in record { value = one.value; kids = one.below; good = one.good; may = may }

  pub same_size : IsTree t0 → IsTree t → size (subtree_at t h) ≡ size (subtree_at t0 h)
  same_size is0 is =
      seen_size t h p.value p.kids is p.turns.stands
      ∙ ap (λ (n : ℕ). 1 + n + 0) (sym (same_weigh (λ _. 1) p.kids0 p.kids same_kids))
      ∙ sym (seen_size t0 h p.value p.kids0 is0 p.base)

  pub served_one : (t1 : Tree RenderObject) (c : Handle) (duty : Duty) (after : ℕ) → c ≡ get_or (children_at t h) i h → i < end → get_or duties i None ≡ Some duty
      → Serves P outer duty t t1 c now after → Progress s outer t0 t1 h (suc i) end duties before after
  served_one t1 c duty after named less get serves =
      let one = child c named less in
      let alike = one_forest (seen_at t) _ _ (tree c one.value one.below none) (tree c serves.value serves.kids none) one.good.stands.stands serves.good.stands.stands refl in
      let parts = tree_parts c one.value serves.value one.below serves.kids alike in
      let is : skip i p.kids0 ≡ tree c serves.value serves.kids one.after =
      one.is ∙ ap (λ (x : LayoutNode). tree c x one.below one.after) parts.0 ∙ ap (λ (f : Forest LayoutNode). tree c serves.value f one.after) parts.1 in
      let is_now : skip i p.kids ≡ tree c serves.value serves.kids one.after = served_skip P back i duties p.kids0 p.kids p.served ∙ is in
      let well = does_well s law back (back_only (parts_of s) outer) duty serves.value serves.kids serves.value_now serves.kids_now serves.good.here serves.good.all serves.does in
      let turned = child_turns t t1 h c p.value serves.value serves.value_now p.kids serves.kids serves.kids_now one.after i p.turns.stands is_now
      (λ w. sym (same_weigh w serves.kids serves.kids_now well.same)) serves.turns in
      let course = left_here one_each P outer i duties c serves.value serves.kids one.after p.kids0 is in
      let here_ticks : ticks_if P outer (get_or duties i None) serves.value serves.kids ≡ duty_ticks P outer duty serves.value serves.kids =
      ap (λ (o : Option Duty). ticks_if P outer o serves.value serves.kids) get in
      let so_far = p.ticks in
      let more = serves.ticks in
      record {
        value = p.value;
        kids0 = p.kids0;
        kids = put i serves.value_now serves.kids_now p.kids;
        base = p.base;
        all = p.all;
        fits = p.fits;
        turns = turn_again t0 t t1 h (tree h p.value p.kids0 none) (tree h p.value p.kids none) (tree h p.value (put i serves.value_now serves.kids_now p.kids) none)
            (λ k. same_weigh (λ j. cond {A = ℕ} (same j k) 1 0) (tree h p.value p.kids none) (tree h p.value p.kids0 none) (refl, refl, back_same, tt)) p.turns turned;
        served = served_put P back i duties p.kids0 p.kids c serves.value serves.value_now serves.kids serves.kids_now one.after duty p.served is get serves.does;
        ends = p.ends;
        ticks = omega (arith, course, here_ticks, so_far, more);
      }
    where
      back_same : SameMembers p.kids p.kids0
      back_same = same_sym p.kids0 p.kids same_kids
        where
          same_sym : (f g : Forest LayoutNode) → SameMembers f g → SameMembers g f
          same_sym none none same = tt
          same_sym none (tree k w below rest) same = absurd same
          same_sym (tree h v kids more) none same = absurd same
          same_sym (tree h v kids more) (tree k w below rest) same = (sym same.0, sym same.1, same_sym kids below same.2, same_sym more rest same.3)

  pub finished : (i < end → ⊥) → AllServed P back duties p.kids0 p.kids
  finished over = served_all P back i duties p.kids0 p.kids (let e = p.ends in omega (arith, e, over)) p.served

  pub spent : now ≤ before + ticks_left P outer 0 duties p.kids0
  spent = let so_far = p.ticks in omega (arith, so_far)
