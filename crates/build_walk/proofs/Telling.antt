-- What elements tell of the last frame is right.
use Rattle.std.proofs.Common.{◌≡◌, ℕ, false, IfSome, List, map, length, refl, sym, ap, ◌∙◌, subst}
use Rattle.std.specs.Option.{option_to_list}
use Rattle.fx_expr.specs.declared.values.Value.{Value}
use Rattle.node_tree.specs.Forest.{Forest}
use Rattle.node_tree.specs.Forest.Forest.{none, tree}
use Rattle.widget_model.specs.Plain.{PlainWidget, look_of}
use Rattle.widget_model.specs.Typed.{Declarations, IsTypedWidget}
use Rattle.plain_tree.specs.PlainNode.{PlainNode, node, widget_of, list_of, nodes_of as listed}
use Rattle.build_form.specs.BuildRole.{BuildRole, composes, provides, keeps, lists, holds, build_role_of}
use Rattle.build_form.specs.Entering.{Blueprint, values_below}
use Rattle.build_form.specs.WellBuilt.{AreWellBuilt}
use Rattle.element_tree.specs.Element.{Element}
use Rattle.element_tree.specs.Nodes.{nodes_of}
use Rattle.build_walk.specs.Past.{Pasts, is_marked}
use Rattle.build_walk.specs.Fresh.{ReadsItsNames, HasOutput, HaveFreshOutputs, IsPastOf, AreKnown}
use Rattle.build_walk.specs.Telling.{TellPasts, HoldOutputs, StoresBelow, StoreOutputs, AreFlagged}
use Rattle.build_walk.proofs.Made.{list_of-nodes_of}
use Rattle.build_walk.proofs.Reentering.{long_by}

module _ (b : Blueprint) (scrolled : ℕ → ℕ) where
  pub told_known : (pasts : Pasts) (d : Declarations) (reads : (w : PlainWidget) → IsTypedWidget d w → ReadsItsNames b w) (values : List Value) (f : Forest Element)
      → length values ≡ length b.defaults → AreWellBuilt d (listed (nodes_of scrolled f)) → TellPasts pasts values f → HoldOutputs b values f → AreKnown b pasts (listed (nodes_of scrolled f))
  told_known pasts d reads values none long well told held = tt
  told_known pasts d reads values (tree h e kids rest) long well told held = (
    (
      subst (λ o. IfSome o (IsPastOf b (node e.number e.widget e.fields (scrolled e.number) e.index (listed (nodes_of scrolled kids))))) (sym told.0) (record {
        widget = refl;
        long = long;
        reads = reads e.widget well.0.0.typed;
        output = held.0;
      }),
      told_known pasts d reads (values_below e.widget values) kids (long_by (build_role_of (look_of e.widget)) values ∙ long) well.0.1 told.1 held.1,
    ),
    told_known pasts d reads values rest long well.1 told.2 held.2,
  )

  output_held : (r : BuildRole) (e : Element) (values : List Value) (ns : List PlainNode) → e.dirty ≡ false → StoresBelow r e ns
      → HasOutput b r e.widget e.fields values e.number (map widget_of (list_of (listed ns))) → HasOutput b r e.widget e.fields values e.number (option_to_list e.output)
  output_held (composes place props) e values ns clean stored has =
      subst (HasOutput b (composes place props) e.widget e.fields values e.number) (ap (map widget_of) (list_of-nodes_of ns) ∙ sym (stored clean)) has
  output_held (provides name value) e values ns clean stored has = tt
  output_held (keeps kept) e values ns clean stored has = tt
  output_held (lists extent) e values ns clean stored has = tt
  output_held holds e values ns clean stored has = tt

  pub stored_held : (marks : List ℕ) (values : List Value) (f : Forest Element) → StoreOutputs scrolled f → AreFlagged (λ number. is_marked marks number ≡ false) f
      → HaveFreshOutputs b marks values (listed (nodes_of scrolled f)) → HoldOutputs b values f
  stored_held marks values none stored flagged fresh = tt
  stored_held marks values (tree h e kids rest) stored flagged fresh = (
    (λ clean. output_held (build_role_of (look_of e.widget)) e values (nodes_of scrolled kids) clean stored.0 (fresh.0.0 (flagged.0 clean))),
    stored_held marks (values_below e.widget values) kids stored.1 flagged.1 fresh.0.1,
    stored_held marks values rest stored.2 flagged.2 fresh.1,
  )
