-- Frames of outer nodes by their numbers, once an outer flush laid them out.
use Rattle.std.proofs.Common.{◌≡◌, ℕ, eqb, Bool, true, false, not, cond, ◌&&◌, Option, Some, None, IsSome, option_map, refl, sym, ap, ◌∙◌}
use Rattle.std.specs.Option.{option_or}
use Rattle.node_tree.specs.Forest.{Forest}
use Rattle.node_tree.specs.Forest.Forest.{none, tree}
use Rattle.widget_model.specs.Look.{Look}
use Rattle.plain_tree.specs.At.{laid_in}
use Rattle.plain_tree.specs.declared.laid.Facts.{Facts}
use Rattle.plain_tree.specs.declared.laid.Frame.{Frame}
use Rattle.plain_tree.specs.Laid.{Laid, laid, Laids, no_laids}
use Rattle.layout_form.specs.Object.{facts_of as laid_facts}
use Rattle.layout_rules.specs.Nodes.{layout_node, layout_nodes}
use Rattle.layout_walk.specs.Rules.{is_list}
use Rattle.render_tree.specs.Object.{RenderObject, object_look}
use Rattle.render_tree.specs.Plain.{facts_of, frame_or, laids_of}
use Rattle.work_sets.specs.Before.{Frames}
use Rattle.counted_work.proofs.Searching.{Search, Told, laid_more}
use Rattle.counted_phases.specs.OuterLaid.{outer_facts, outer_laid, outer_laids}
use Rattle.counted_phases.proofs.LeftOuter.{StayFramed, LeftOuter, AreLeftOuter}

-- ---- a search that doesn't go below lists

pub found_below : (n m : ℕ) (look : Look) (facts : Facts) (cs ls : Laids) (list : Bool)
    → option_or (cond (eqb m n) (Some (laid m look (outer_facts list facts) (cond list no_laids (outer_laids cs)))) (laid_in n (cond list no_laids (outer_laids cs)))) (laid_in n (outer_laids ls))
    ≡ cond (eqb m n) (Some (laid m look (outer_facts list facts) (cond list no_laids (outer_laids cs)))) (option_or (cond (not list) (laid_in n (outer_laids cs)) None) (laid_in n (outer_laids ls)))
found_below n m look facts cs ls true = laid_more (eqb m n) (laid m look (outer_facts true facts) no_laids) None (laid_in n (outer_laids ls))
found_below n m look facts cs ls false = laid_more (eqb m n) (laid m look facts (outer_laids cs)) (laid_in n (outer_laids cs)) (laid_in n (outer_laids ls))

abbrev pub outer_search : Search Laid
outer_search = record {
  find = λ n ls. laid_in n (outer_laids ls);
  value = λ at m look facts cs. outer_laid (laid m look facts cs);
  enters = λ look facts. not (is_list look);
  nothing = λ n. refl;
  more = λ n at m look facts cs ls. found_below n m look facts cs ls (is_list look);
}

-- ---- frames

-- each node of a forest is the one of another that stands there, and this holds of both
abbrev pub Pairs : (RenderObject → RenderObject → Type 0) → Forest RenderObject → Forest RenderObject → Type 0
Pairs R none none = Unit {0}
Pairs R none (tree k w below rest) = ⊥
Pairs R (tree h o kids more) none = ⊥
Pairs R (tree h o kids more) (tree k w below rest) = (h ≡ k) × R o w × Pairs R kids below × Pairs R more rest

-- a node keeps its number, and has the frame that its number has now, where it had the one that its number had
abbrev pub PassesOn : Frames → Frames → RenderObject → RenderObject → Type 0
PassesOn frames after o w = (w.number ≡ o.number) × (o.frame ≡ frames o.number → w.frame ≡ after w.number)

abbrev pub frame_of : Laid → Frame
frame_of l = (laid_facts l).frame

outer_frame : (list : Bool) (facts : Facts) → (outer_facts list facts).frame ≡ facts.frame
outer_frame true facts = refl
outer_frame false facts = refl

module _ (frames after : Frames) (S : ℕ → Option Laid) (after_is : (n : ℕ) → after n ≡ option_or (option_map frame_of (S n)) (frames n)) where
  some_frame : (o : Option Frame) → IsSome o → o ≡ Some (frame_or o)
  some_frame None e = absurd (cc)
  some_frame (Some f) e = refl

  found_frame : (n : ℕ) (l : Laid) → S n ≡ Some l → after n ≡ Some (frame_of l)
  found_frame n l e = after_is n ∙ ap (λ x. option_or (option_map frame_of x) (frames n)) e

  pub missed_frame : (n : ℕ) → S n ≡ None → after n ≡ frames n
  missed_frame n e = after_is n ∙ ap (λ x. option_or (option_map frame_of x) (frames n)) e

  -- a node that isn't found, and has the frame that it had
  pub kept_on : (v w : RenderObject) → w.number ≡ v.number → w.frame ≡ v.frame → S w.number ≡ None → PassesOn frames after v w
  kept_on v w number same unseen = (number, (λ had. same ∙ (had ∙ (ap frames (sym number) ∙ sym (missed_frame w.number unseen)))))

  stay_passes : (f g : Forest RenderObject) → StayFramed (layout_nodes f) (layout_nodes g) → Told outer_search S false g → Pairs (PassesOn frames after) f g
  stay_passes none none stay unseen = tt
  stay_passes none (tree k w below rest) stay unseen = absurd stay
  stay_passes (tree h v kids more) none stay unseen = absurd stay
  stay_passes (tree h v kids more) (tree k w below rest) stay unseen =
      (stay.0, kept_on v w stay.1 stay.2 unseen.0, stay_passes kids below stay.3 unseen.1, stay_passes more rest stay.4 unseen.2)

  -- one that is found
  seen_on : (v w : RenderObject) (below : Forest RenderObject) → w.number ≡ v.number → IsSome w.frame → S w.number ≡ Some (outer_laid (laid w.number (object_look w) (facts_of w) (laids_of below))) → PassesOn frames after v w
  seen_on v w below number framed seen = (
    number,
    (λ had. some_frame w.frame framed ∙ (ap (λ (x : Frame). Some x) (sym (outer_frame (is_list (object_look w)) (facts_of w)))
        ∙ sym (found_frame w.number (outer_laid (laid w.number (object_look w) (facts_of w) (laids_of below))) seen))),
  )

  by_shown : (shown list : Bool) (v w : RenderObject) (kids below : Forest RenderObject) → w.number ≡ v.number
      → LeftOuter shown list (layout_node v) (layout_nodes kids) (layout_node w) (layout_nodes below) (AreLeftOuter (layout_nodes kids) (layout_nodes below))
      → S w.number ≡ cond shown (Some (outer_laid (laid w.number (object_look w) (facts_of w) (laids_of below)))) None → Told outer_search S (shown && not list) below
      → (AreLeftOuter (layout_nodes kids) (layout_nodes below) → Told outer_search S true below → Pairs (PassesOn frames after) kids below)
      → PassesOn frames after v w × Pairs (PassesOn frames after) kids below
  by_shown false list v w kids below number left seen under go = (kept_on v w number left.0 seen, stay_passes kids below left.1 under)
  by_shown true true v w kids below number left seen under go = (seen_on v w below number left.0 seen, stay_passes kids below left.1 under)
  by_shown true false v w kids below number left seen under go = (seen_on v w below number left.0 seen, go left.1 under)

  pub left_passes : (f g : Forest RenderObject) → AreLeftOuter (layout_nodes f) (layout_nodes g) → Told outer_search S true g → Pairs (PassesOn frames after) f g
  left_passes none none left seen = tt
  left_passes none (tree k w below rest) left seen = absurd left
  left_passes (tree h v kids more) none left seen = absurd left
  left_passes (tree h v kids more) (tree k w below rest) left seen =
      let both = by_shown w.shown (is_list (object_look w)) v w kids below left.1 left.2 seen.0 seen.1 (λ inner told_in. left_passes kids below inner told_in) in
      (left.0, both.0, both.1, left_passes more rest left.3 seen.2)
