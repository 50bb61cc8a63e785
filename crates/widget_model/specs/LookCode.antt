-- Looks and widgets as trees of numbers, by which a proof tells them apart: the number of the kind, then its members.
use Rattle.std.specs.Prelude.{◌≡◌, ℕ, ℤ, Option, List}
use Rattle.std.specs.Coded.{coded_option}
use Rattle.std.proofs.Common.{ap, refl, sym, eq-eqb, true≢false}
use base.Stored.{Gv, gnil, gnum, gcons, num, Coded, coded_ℕ, coded_ℤ, coded_bool, coded_list}
use Rattle.fx_expr.specs.declared.values.Value.{Value}
use Rattle.fx_expr.specs.declared.handlers.Handler.{Handler}
use Rattle.fx_expr.specs.ExpCode.{first_part, other_parts}
use Rattle.fx_expr.specs.contracts.values.Value as value
use Rattle.fx_expr.specs.contracts.handlers.Handler as handler
use Rattle.fx_geom.specs.contracts.shapes.Axis as axis
use Rattle.fx_geom.specs.contracts.words.MainAlign as main_align
use Rattle.fx_geom.specs.contracts.words.CrossAlign as cross_align
use Rattle.fx_geom.specs.contracts.words.StackFit as stack_fit
use Rattle.widget_model.specs.contracts.words.MainSize as main_size
use Rattle.widget_model.specs.contracts.words.FlexFit as flex_fit
use Rattle.widget_model.specs.contracts.words.Behavior as behavior
use Rattle.widget_model.specs.contracts.decl.Decl as decl
use Rattle.widget_model.specs.Look.{Look, sized_box, constrained_box, padding, align, colored_box, text, row, column, wrap, table, stack, flexible, positioned, opacity, clip_rect, repaint_boundary, merge_semantics, intrinsic_width, intrinsic_height, offstage, ignore_pointer, absorb_pointer, detector, semantics, exclude_semantics, custom_paint, custom_layout, viewport, sliver_to_box, sliver_padding, sliver_fixed, sliver_lazy, keep, inherit, component}

abbrev pub coded_numbers : Coded (Option ℕ)
coded_numbers = coded_option coded_ℕ

abbrev pub coded_signed : Coded (Option ℤ)
coded_signed = coded_option coded_ℤ

abbrev pub coded_signs : Coded (List ℤ)
coded_signs = coded_list coded_ℤ

abbrev pub coded_text : Coded (List ℕ)
coded_text = coded_list coded_ℕ

abbrev pub coded_value : Coded Value
coded_value = (value.the_row).coded

abbrev pub coded_values : Coded (List Value)
coded_values = coded_list coded_value

abbrev pub coded_handler : Coded (Option Handler)
coded_handler = coded_option (handler.the_row).coded

abbrev pub look_code : Look → Gv
look_code (sized_box m0 m1) = gcons (gnum 0) (gcons (coded_numbers.code m0) (coded_numbers.code m1))
look_code (constrained_box m0 m1 m2 m3) = gcons (gnum 1) (gcons (coded_ℕ.code m0) (gcons (coded_numbers.code m1) (gcons (coded_ℕ.code m2) (coded_numbers.code m3))))
look_code (padding m0 m1 m2 m3) = gcons (gnum 2) (gcons (coded_ℕ.code m0) (gcons (coded_ℕ.code m1) (gcons (coded_ℕ.code m2) (coded_ℕ.code m3))))
look_code (align m0 m1) = gcons (gnum 3) (gcons (coded_ℤ.code m0) (coded_ℤ.code m1))
look_code (colored_box m0) = gcons (gnum 4) (coded_ℕ.code m0)
look_code (text m0 m1) = gcons (gnum 5) (gcons (coded_text.code m0) (coded_ℕ.code m1))
look_code (row m0 m1 m2) = gcons (gnum 6) (gcons ((main_align.the_row).coded.code m0) (gcons ((cross_align.the_row).coded.code m1) ((main_size.the_row).coded.code m2)))
look_code (column m0 m1 m2) = gcons (gnum 7) (gcons ((main_align.the_row).coded.code m0) (gcons ((cross_align.the_row).coded.code m1) ((main_size.the_row).coded.code m2)))
look_code (wrap m0 m1) = gcons (gnum 8) (gcons (coded_ℕ.code m0) (coded_ℕ.code m1))
look_code (table m0) = gcons (gnum 9) (coded_signs.code m0)
look_code (stack m0 m1 m2) = gcons (gnum 10) (gcons (coded_ℤ.code m0) (gcons (coded_ℤ.code m1) ((stack_fit.the_row).coded.code m2)))
look_code (flexible m0 m1) = gcons (gnum 11) (gcons (coded_ℕ.code m0) ((flex_fit.the_row).coded.code m1))
look_code (positioned m0 m1 m2 m3 m4 m5) = gcons (gnum 12) (gcons (coded_signed.code m0) (gcons (coded_signed.code m1) (gcons (coded_signed.code m2) (gcons (coded_signed.code m3) (gcons (coded_numbers.code m4) (coded_numbers.code m5))))))
look_code (opacity m0) = gcons (gnum 13) (coded_ℕ.code m0)
look_code clip_rect = gcons (gnum 14) (gnil)
look_code repaint_boundary = gcons (gnum 15) (gnil)
look_code merge_semantics = gcons (gnum 16) (gnil)
look_code intrinsic_width = gcons (gnum 17) (gnil)
look_code intrinsic_height = gcons (gnum 18) (gnil)
look_code (offstage m0) = gcons (gnum 19) (coded_bool.code m0)
look_code (ignore_pointer m0) = gcons (gnum 20) (coded_bool.code m0)
look_code (absorb_pointer m0) = gcons (gnum 21) (coded_bool.code m0)
look_code (detector m0 m1 m2 m3 m4 m5) = gcons (gnum 22) (gcons ((behavior.the_row).coded.code m0) (gcons (coded_handler.code m1) (gcons (coded_handler.code m2) (gcons (coded_handler.code m3) (gcons (coded_handler.code m4) (coded_handler.code m5))))))
look_code (semantics m0 m1 m2) = gcons (gnum 23) (gcons (coded_text.code m0) (gcons (coded_bool.code m1) (coded_bool.code m2)))
look_code (exclude_semantics m0) = gcons (gnum 24) (coded_bool.code m0)
look_code (custom_paint m0) = gcons (gnum 25) (coded_text.code m0)
look_code (custom_layout m0) = gcons (gnum 26) (coded_text.code m0)
look_code (viewport m0) = gcons (gnum 27) ((axis.the_row).coded.code m0)
look_code sliver_to_box = gcons (gnum 28) (gnil)
look_code (sliver_padding m0 m1 m2 m3) = gcons (gnum 29) (gcons (coded_ℕ.code m0) (gcons (coded_ℕ.code m1) (gcons (coded_ℕ.code m2) (coded_ℕ.code m3))))
look_code (sliver_fixed m0) = gcons (gnum 30) (coded_ℕ.code m0)
look_code (sliver_lazy m0) = gcons (gnum 31) (coded_ℕ.code m0)
look_code (keep m0) = gcons (gnum 32) (coded_bool.code m0)
look_code (inherit m0 m1) = gcons (gnum 33) (gcons (coded_ℕ.code m0) (coded_value.code m1))
look_code (component m0 m1 m2) = gcons (gnum 34) (gcons (coded_ℕ.code m0) (gcons (coded_values.code m1) ((decl.the_row).coded.code m2)))

pub look_inj : (a b : Look) → look_code a ≡ look_code b → a ≡ b
look_inj (sized_box a0 a1) (sized_box b0 b1) p = λ at. sized_box (coded_numbers.inj a0 b0 (ap (λ g. first_part (other_parts g)) p) at) (coded_numbers.inj a1 b1 (ap (λ g. other_parts (other_parts g)) p) at)
look_inj (constrained_box a0 a1 a2 a3) (constrained_box b0 b1 b2 b3) p = λ at. constrained_box (coded_ℕ.inj a0 b0 (ap (λ g. first_part (other_parts g)) p) at) (coded_numbers.inj a1 b1 (ap (λ g. first_part (other_parts (other_parts g))) p) at) (coded_ℕ.inj a2 b2 (ap (λ g. first_part (other_parts (other_parts (other_parts g)))) p) at) (coded_numbers.inj a3 b3 (ap (λ g. other_parts (other_parts (other_parts (other_parts g)))) p) at)
look_inj (padding a0 a1 a2 a3) (padding b0 b1 b2 b3) p = λ at. padding (coded_ℕ.inj a0 b0 (ap (λ g. first_part (other_parts g)) p) at) (coded_ℕ.inj a1 b1 (ap (λ g. first_part (other_parts (other_parts g))) p) at) (coded_ℕ.inj a2 b2 (ap (λ g. first_part (other_parts (other_parts (other_parts g)))) p) at) (coded_ℕ.inj a3 b3 (ap (λ g. other_parts (other_parts (other_parts (other_parts g)))) p) at)
look_inj (align a0 a1) (align b0 b1) p = λ at. align (coded_ℤ.inj a0 b0 (ap (λ g. first_part (other_parts g)) p) at) (coded_ℤ.inj a1 b1 (ap (λ g. other_parts (other_parts g)) p) at)
look_inj (colored_box a0) (colored_box b0) p = λ at. colored_box (coded_ℕ.inj a0 b0 (ap (λ g. other_parts g) p) at)
look_inj (text a0 a1) (text b0 b1) p = λ at. text (coded_text.inj a0 b0 (ap (λ g. first_part (other_parts g)) p) at) (coded_ℕ.inj a1 b1 (ap (λ g. other_parts (other_parts g)) p) at)
look_inj (row a0 a1 a2) (row b0 b1 b2) p = λ at. row ((main_align.the_row).coded.inj a0 b0 (ap (λ g. first_part (other_parts g)) p) at) ((cross_align.the_row).coded.inj a1 b1 (ap (λ g. first_part (other_parts (other_parts g))) p) at) ((main_size.the_row).coded.inj a2 b2 (ap (λ g. other_parts (other_parts (other_parts g))) p) at)
look_inj (column a0 a1 a2) (column b0 b1 b2) p = λ at. column ((main_align.the_row).coded.inj a0 b0 (ap (λ g. first_part (other_parts g)) p) at) ((cross_align.the_row).coded.inj a1 b1 (ap (λ g. first_part (other_parts (other_parts g))) p) at) ((main_size.the_row).coded.inj a2 b2 (ap (λ g. other_parts (other_parts (other_parts g))) p) at)
look_inj (wrap a0 a1) (wrap b0 b1) p = λ at. wrap (coded_ℕ.inj a0 b0 (ap (λ g. first_part (other_parts g)) p) at) (coded_ℕ.inj a1 b1 (ap (λ g. other_parts (other_parts g)) p) at)
look_inj (table a0) (table b0) p = λ at. table (coded_signs.inj a0 b0 (ap (λ g. other_parts g) p) at)
look_inj (stack a0 a1 a2) (stack b0 b1 b2) p = λ at. stack (coded_ℤ.inj a0 b0 (ap (λ g. first_part (other_parts g)) p) at) (coded_ℤ.inj a1 b1 (ap (λ g. first_part (other_parts (other_parts g))) p) at) ((stack_fit.the_row).coded.inj a2 b2 (ap (λ g. other_parts (other_parts (other_parts g))) p) at)
look_inj (flexible a0 a1) (flexible b0 b1) p = λ at. flexible (coded_ℕ.inj a0 b0 (ap (λ g. first_part (other_parts g)) p) at) ((flex_fit.the_row).coded.inj a1 b1 (ap (λ g. other_parts (other_parts g)) p) at)
look_inj (positioned a0 a1 a2 a3 a4 a5) (positioned b0 b1 b2 b3 b4 b5) p = λ at. positioned (coded_signed.inj a0 b0 (ap (λ g. first_part (other_parts g)) p) at) (coded_signed.inj a1 b1 (ap (λ g. first_part (other_parts (other_parts g))) p) at) (coded_signed.inj a2 b2 (ap (λ g. first_part (other_parts (other_parts (other_parts g)))) p) at) (coded_signed.inj a3 b3 (ap (λ g. first_part (other_parts (other_parts (other_parts (other_parts g))))) p) at) (coded_numbers.inj a4 b4 (ap (λ g. first_part (other_parts (other_parts (other_parts (other_parts (other_parts g)))))) p) at) (coded_numbers.inj a5 b5 (ap (λ g. other_parts (other_parts (other_parts (other_parts (other_parts (other_parts g)))))) p) at)
look_inj (opacity a0) (opacity b0) p = λ at. opacity (coded_ℕ.inj a0 b0 (ap (λ g. other_parts g) p) at)
look_inj clip_rect clip_rect p = refl
look_inj repaint_boundary repaint_boundary p = refl
look_inj merge_semantics merge_semantics p = refl
look_inj intrinsic_width intrinsic_width p = refl
look_inj intrinsic_height intrinsic_height p = refl
look_inj (offstage a0) (offstage b0) p = λ at. offstage (coded_bool.inj a0 b0 (ap (λ g. other_parts g) p) at)
look_inj (ignore_pointer a0) (ignore_pointer b0) p = λ at. ignore_pointer (coded_bool.inj a0 b0 (ap (λ g. other_parts g) p) at)
look_inj (absorb_pointer a0) (absorb_pointer b0) p = λ at. absorb_pointer (coded_bool.inj a0 b0 (ap (λ g. other_parts g) p) at)
look_inj (detector a0 a1 a2 a3 a4 a5) (detector b0 b1 b2 b3 b4 b5) p = λ at. detector ((behavior.the_row).coded.inj a0 b0 (ap (λ g. first_part (other_parts g)) p) at) (coded_handler.inj a1 b1 (ap (λ g. first_part (other_parts (other_parts g))) p) at) (coded_handler.inj a2 b2 (ap (λ g. first_part (other_parts (other_parts (other_parts g)))) p) at) (coded_handler.inj a3 b3 (ap (λ g. first_part (other_parts (other_parts (other_parts (other_parts g))))) p) at) (coded_handler.inj a4 b4 (ap (λ g. first_part (other_parts (other_parts (other_parts (other_parts (other_parts g)))))) p) at) (coded_handler.inj a5 b5 (ap (λ g. other_parts (other_parts (other_parts (other_parts (other_parts (other_parts g)))))) p) at)
look_inj (semantics a0 a1 a2) (semantics b0 b1 b2) p = λ at. semantics (coded_text.inj a0 b0 (ap (λ g. first_part (other_parts g)) p) at) (coded_bool.inj a1 b1 (ap (λ g. first_part (other_parts (other_parts g))) p) at) (coded_bool.inj a2 b2 (ap (λ g. other_parts (other_parts (other_parts g))) p) at)
look_inj (exclude_semantics a0) (exclude_semantics b0) p = λ at. exclude_semantics (coded_bool.inj a0 b0 (ap (λ g. other_parts g) p) at)
look_inj (custom_paint a0) (custom_paint b0) p = λ at. custom_paint (coded_text.inj a0 b0 (ap (λ g. other_parts g) p) at)
look_inj (custom_layout a0) (custom_layout b0) p = λ at. custom_layout (coded_text.inj a0 b0 (ap (λ g. other_parts g) p) at)
look_inj (viewport a0) (viewport b0) p = λ at. viewport ((axis.the_row).coded.inj a0 b0 (ap (λ g. other_parts g) p) at)
look_inj sliver_to_box sliver_to_box p = refl
look_inj (sliver_padding a0 a1 a2 a3) (sliver_padding b0 b1 b2 b3) p = λ at. sliver_padding (coded_ℕ.inj a0 b0 (ap (λ g. first_part (other_parts g)) p) at) (coded_ℕ.inj a1 b1 (ap (λ g. first_part (other_parts (other_parts g))) p) at) (coded_ℕ.inj a2 b2 (ap (λ g. first_part (other_parts (other_parts (other_parts g)))) p) at) (coded_ℕ.inj a3 b3 (ap (λ g. other_parts (other_parts (other_parts (other_parts g)))) p) at)
look_inj (sliver_fixed a0) (sliver_fixed b0) p = λ at. sliver_fixed (coded_ℕ.inj a0 b0 (ap (λ g. other_parts g) p) at)
look_inj (sliver_lazy a0) (sliver_lazy b0) p = λ at. sliver_lazy (coded_ℕ.inj a0 b0 (ap (λ g. other_parts g) p) at)
look_inj (keep a0) (keep b0) p = λ at. keep (coded_bool.inj a0 b0 (ap (λ g. other_parts g) p) at)
look_inj (inherit a0 a1) (inherit b0 b1) p = λ at. inherit (coded_ℕ.inj a0 b0 (ap (λ g. first_part (other_parts g)) p) at) (coded_value.inj a1 b1 (ap (λ g. other_parts (other_parts g)) p) at)
look_inj (component a0 a1 a2) (component b0 b1 b2) p = λ at. component (coded_ℕ.inj a0 b0 (ap (λ g. first_part (other_parts g)) p) at) (coded_values.inj a1 b1 (ap (λ g. first_part (other_parts (other_parts g))) p) at) ((decl.the_row).coded.inj a2 b2 (ap (λ g. other_parts (other_parts (other_parts g))) p) at)
look_inj a b p = absurd (true≢false (sym (eq-eqb (num (first_part (look_code a))) (num (first_part (look_code b))) (ap (λ g. num (first_part g)) p))))
