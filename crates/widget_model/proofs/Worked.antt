-- The definitions at small widgets, worked by hand.
use Rattle.std.proofs.Common.{◌≡◌, pos, ◌+◌, ◌^◌, true, false, Some, None, List, [], ◌∷◌, refl, arith}
use Rattle.fx_geom.specs.declared.shapes.Axis.TheVariants as axis
use Rattle.fx_expr.specs.declared.values.Value.{Value}
use Rattle.fx_expr.specs.declared.values.Value.TheVariants as value
use Rattle.fx_expr.specs.declared.values.Ty.TheVariants as ty
use Rattle.widget_keys.specs.declared.keys.Key.{Key}
use Rattle.widget_keys.specs.declared.keys.Key.TheVariants as key
use Rattle.widget_model.specs.declared.decl.Decl.{Decl}
use Rattle.widget_model.specs.declared.words.FlexFit.TheVariants as flex_fit
use Rattle.widget_model.specs.Look.{Look, sized_box, wrap, table, flexible, clip_rect, viewport, sliver_to_box, sliver_padding, sliver_lazy, keep, inherit, component}
use Rattle.widget_model.specs.Plain.{PlainWidget, plain, no_widgets, widgets_of}
use Rattle.widget_model.specs.Update.{updates}
use Rattle.widget_model.specs.Size.{size_of}
use Rattle.widget_model.specs.Typed.{box, sliver, Declarations, sort_of, IsTypedWidget}

-- a widget without key
abbrev of : Look → List PlainWidget → PlainWidget
of l children = plain l key.None no_widgets (widgets_of children)

abbrev keyed : Look → Key Value → PlainWidget
keyed l k = plain l k no_widgets no_widgets

abbrev square : PlainWidget
square = of (sized_box (Some 64) (Some 64)) []

-- a component with one field, one prop and one slot
abbrev counter : Decl
counter = record { name = 67 ∷ []; fields = (110 ∷ [], ty.Int) ∷ []; inherited = [] }

abbrev program : Declarations
program = record {
  components = record { declaration = counter; props = ty.Int ∷ []; slots = 1; body = sliver } ∷ [];
  inherited = ty.Bool ∷ [];
}

abbrev counter_with : List Value → List PlainWidget → PlainWidget
counter_with props slots = plain (component 0 props counter) key.None (widgets_of slots) no_widgets

-- a new widget of the same kind takes the place, whatever its members; another kind, key or component doesn't
pub record Updates : Type 0 where
  pub members : updates square (of (sized_box None (Some 1)) (square ∷ [])) ≡ true
  pub kinds : updates square (of clip_rect []) ≡ false
  pub keys : updates (keyed clip_rect (key.Local (value.Int (pos 1)))) (keyed clip_rect (key.Local (value.Int (pos 1)))) ≡ true
  pub values : updates (keyed clip_rect (key.Local (value.Int (pos 1)))) (keyed clip_rect (key.Local (value.Int (pos 2)))) ≡ false
  pub reach : updates (keyed clip_rect (key.Local (value.Int (pos 1)))) (keyed clip_rect (key.Global (value.Int (pos 1)))) ≡ false
  pub absent : updates (of clip_rect []) (keyed clip_rect (key.Local (value.Int (pos 1)))) ≡ false
  pub components : updates (of (component 0 [] counter) []) (of (component 1 [] counter) []) ≡ false
  pub props : updates (counter_with (value.Int (pos 1) ∷ []) []) (counter_with (value.Int (pos 2) ∷ []) (square ∷ [])) ≡ true
  pub names : updates (of (inherit 0 (value.Bool true)) []) (of (inherit 1 (value.Bool true)) []) ≡ false

updates_worked : Updates
updates_worked = record { members = refl; kinds = refl; keys = refl; values = refl; reach = refl; absent = refl; components = refl; props = refl; names = refl }

-- a use counts with what is in its slots
pub record Sizes : Type 0 where
  pub one : size_of square ≡ 1
  pub nested : size_of (of clip_rect (of clip_rect (square ∷ []) ∷ [])) ≡ 3
  pub slots : size_of (of clip_rect (counter_with [] (of clip_rect (square ∷ []) ∷ square ∷ []) ∷ [])) ≡ 5

sizes_worked : Sizes
sizes_worked = record { one = refl; nested = refl; slots = refl }

-- sorts: a use is of its body's sort, an Inherit of its child's
pub record Sorts : Type 0 where
  pub use_of : sort_of program (counter_with (value.Int (pos 1) ∷ []) (square ∷ [])) ≡ sliver
  pub provider : sort_of program (of (inherit 0 (value.Bool true)) (of sliver_to_box [] ∷ [])) ≡ sliver
  pub lazy : sort_of program (of (sliver_lazy 64) []) ≡ sliver
  pub kept : sort_of program (of (keep true) (square ∷ [])) ≡ box
  pub view : sort_of program (of (viewport axis.Vertical) (of sliver_to_box [] ∷ [])) ≡ box

sorts_worked : Sorts
sorts_worked = record { use_of = refl; provider = refl; lazy = refl; kept = refl; view = refl }

-- what is typed, and what isn't
pub record Typing : Type 0 where
  pub filled : IsTypedWidget program (of (viewport axis.Vertical) (counter_with (value.Int (pos 1) ∷ []) (square ∷ []) ∷ of sliver_to_box (square ∷ []) ∷ []))
  pub provided : IsTypedWidget program (of (inherit 0 (value.Bool true)) (square ∷ []))
  pub lazy : IsTypedWidget program (of (sliver_lazy 1) (of (keep true) (square ∷ []) ∷ square ∷ []))
  pub lines : IsTypedWidget program (of (wrap 0 (2 ^ 40)) (of (table []) (square ∷ square ∷ []) ∷ square ∷ []))
  pub sliver_in_keep : IsTypedWidget program (of (keep true) (of sliver_to_box [] ∷ [])) → ⊥
  pub sliver_in_lazy : IsTypedWidget program (of (sliver_lazy 1) (of sliver_to_box [] ∷ [])) → ⊥
  pub no_extent : IsTypedWidget program (of (sliver_lazy 0) []) → ⊥
  pub unfilled : IsTypedWidget program (counter_with (value.Int (pos 1) ∷ []) []) → ⊥
  pub untyped : IsTypedWidget program (counter_with (value.Bool true ∷ []) (square ∷ [])) → ⊥
  pub unknown : IsTypedWidget program (of (inherit 1 (value.Bool true)) (square ∷ [])) → ⊥
  pub mistyped : IsTypedWidget program (of (inherit 0 (value.Int (pos 1))) (square ∷ [])) → ⊥
  pub box_in_sliver : IsTypedWidget program (of (sliver_padding 0 0 0 0) (square ∷ [])) → ⊥
  pub two_children : IsTypedWidget program (of clip_rect (square ∷ square ∷ [])) → ⊥
  pub childless : IsTypedWidget program (of (flexible 1 flex_fit.Loose) []) → ⊥
  pub long : IsTypedWidget program (of (sized_box (Some (2 ^ 40 + 1)) None) []) → ⊥

square_typed : IsTypedWidget program square
square_typed = record { members = (omega arith, omega arith); filled = tt; held = tt; in_slots = tt; below = tt }

use_typed : IsTypedWidget program (counter_with (value.Int (pos 1) ∷ []) (square ∷ []))
use_typed = record {
  members = tt;
  filled = record {
    component = record { declaration = counter; props = ty.Int ∷ []; slots = 1; body = sliver };
    named = refl;
    declared = refl;
    typed = refl;
    filled = refl;
    boxes = (refl, tt);
  };
  held = refl;
  in_slots = (square_typed, tt);
  below = tt;
}

sliver_typed : IsTypedWidget program (of sliver_to_box (square ∷ []))
sliver_typed = record { members = tt; filled = tt; held = refl; in_slots = tt; below = (square_typed, tt) }

kept_typed : IsTypedWidget program (of (keep true) (square ∷ []))
kept_typed = record { members = tt; filled = tt; held = refl; in_slots = tt; below = (square_typed, tt) }

table_typed : IsTypedWidget program (of (table []) (square ∷ square ∷ []))
table_typed = record { members = tt; filled = tt; held = (refl, (refl, tt)); in_slots = tt; below = (square_typed, (square_typed, tt)) }

typing_worked : Typing
typing_worked = record {
  filled = record { members = tt; filled = tt; held = (refl, (refl, tt)); in_slots = tt; below = (use_typed, (sliver_typed, tt)) };
  provided = record { members = refl; filled = tt; held = refl; in_slots = tt; below = (square_typed, tt) };
  lazy = record { members = (omega arith, omega arith); filled = tt; held = (refl, (refl, tt)); in_slots = tt; below = (kept_typed, (square_typed, tt)) };
  lines = record { members = (omega arith, omega arith); filled = tt; held = (refl, (refl, tt)); in_slots = tt; below = (table_typed, (square_typed, tt)) };
  sliver_in_keep = λ h. let e = h.held in cc;
  sliver_in_lazy = λ h. let e = h.held.0 in cc;
  no_extent = λ h. omega (arith, h.members.0);
  unfilled = λ h. let named = h.filled.named in let filled = h.filled.filled in cc;
  untyped = λ h. let named = h.filled.named in let typed = h.filled.typed in cc;
  unknown = λ h. let e = h.members in cc;
  mistyped = λ h. let e = h.members in cc;
  box_in_sliver = λ h. let e = h.held in cc;
  two_children = λ h. h.held;
  childless = λ h. let e = h.held in cc;
  long = λ h. omega (arith, h.members.0);
}
