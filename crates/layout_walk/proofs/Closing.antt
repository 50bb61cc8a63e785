-- Children that have to be laid out, read off what is stored or off their members.
use Rattle.std.proofs.Common.{◌≡◌, ap, refl, sym, subst, ◌∙◌, Option, Some, None, IsSome, option_map}
use Rattle.node_tree.specs.Forest.{Forest}
use Rattle.node_tree.specs.Forest.Forest.{none, tree}
use Rattle.node_tree.proofs.ForestLemmas.{same_Some}
use Rattle.plain_tree.specs.declared.laid.Frame.{Frame}
use Rattle.layout_form.specs.declared.asks.Ask.{Ask}
use Rattle.layout_walk.specs.Node.{LayoutNode, member, members, tellings, ask_in, asked}
use Rattle.layout_walk.specs.Rule.{LayoutParts, Lawful}
use Rattle.layout_walk.specs.Full.{objects}
use Rattle.layout_walk.specs.Here.{IsFirm, AreFirm, HereAll, EndsItself, AreApart, HaveFixed}
use Rattle.layout_walk.proofs.Answering.{objects_are}
use Rattle.layout_walk.proofs.Fresh.{answers_full, frame_full}
use Rattle.layout_walk.proofs.Standing.{false_true}

some_of : {A : Type 0} (o : Option A) → IsSome o → (x : A) × (o ≡ Some x)
some_of (Some x) is = (x, refl)
some_of None is = absurd (false_true is)

abbrev HasFixed : LayoutParts → LayoutNode → Type 0
HasFixed P v = (ask : Ask) (frame : Frame) → asked v ≡ Some ask → P.fixed (member v) ask ≡ Some frame → v.frame ≡ Some frame

same_ask_in : (v : LayoutNode) (frame : Frame) (ask : Ask) → v.frame ≡ Some frame → asked v ≡ Some ask → ask_in frame ≡ ask
same_ask_in v frame ask is asks = same_Some (sym (ap (λ (o : Option Frame). option_map ask_in o) is) ∙ asks)

one_firm : (P : LayoutParts) (v : LayoutNode) → HasFixed P v → EndsItself P v → IsFirm P v
one_firm P v has ends =
    let given = some_of (P.fixed (member v) ends.0) ends.2 in
    let is : v.frame ≡ Some given.0 = has ends.0 given.0 ends.1 given.1 in
    record {
      frame = given.0;
      stored = is;
      fixed = ap (λ (a : Ask). P.fixed (member v) a) (same_ask_in v given.0 ends.0 is ends.1) ∙ given.1;
    }

pub firm_from : (P : LayoutParts) (f : Forest LayoutNode) → AreApart P f → HaveFixed P f → AreFirm P f
firm_from P none apart fixed = tt
firm_from P (tree h v kids rest) apart fixed =
    ((λ shown flag. one_firm P v (fixed.0 shown) (apart.0 shown flag)), firm_from P rest apart.1 fixed.1)

one_apart : (P : LayoutParts) (v : LayoutNode) → IsFirm P v → EndsItself P v
one_apart P v firm =
    (ask_in firm.frame, ap (λ (o : Option Frame). option_map ask_in o) firm.stored, subst (λ (o : Option Frame). IsSome o) (sym firm.fixed) refl)

pub apart_from : (P : LayoutParts) (f : Forest LayoutNode) → AreFirm P f → AreApart P f
apart_from P none firm = tt
apart_from P (tree h v kids rest) firm = ((λ shown flag. one_apart P v (firm.0 shown flag)), apart_from P rest firm.1)

pub fixed_from : (P : LayoutParts) → Lawful P → (f : Forest LayoutNode) → HereAll P f → AreFirm P f → HaveFixed P f
fixed_from P law none all firm = tt
fixed_from P law (tree h v kids rest) all firm = (
  (λ shown ask frame is fixed.
      frame_full P law v kids ask all.0 (answers_full P law kids all.1) is (firm.0 shown)
      ∙ ap (λ (x : Frame). Some x) (law.fixed (member v) v.scroll ask (P.liked v.look ask (members kids)) (tellings kids) (objects P kids) frame (objects_are P law kids) fixed)),
  fixed_from P law rest all.2 firm.1,
)
