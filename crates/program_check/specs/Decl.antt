-- What a checked component declares for the widgets that use it.
use Rattle.std.specs.Prelude.{ℕ, List, length, filter, slice_index_or, Bool, false, ◌||◌, Option, Some, None}
use Rattle.std.specs.List.{list_any, range_with_len}
use Rattle.fx_expr.specs.Exp.{Exp}
use Rattle.fx_expr.specs.SomeForm.{reads_inherited}
use Rattle.widget_model.specs.declared.decl.Decl.{Decl}
use Rattle.expr_check.specs.Names.{NamedTypes}
use Rattle.program_check.specs.Body.{KeyExp, local, global, PlainBody, body, BodyMembers, no_members, left_out, member, PlainBodyPart, expression, word, name, handler, child, children, props, slots, PlainBodies, no_bodies, one_body}
use Rattle.program_check.specs.Checked.{PlainCheckedComponent}

-- ---- an inherited name stands in a checked template, whichever branches it takes: in a key, in an expression, in a set of a
-- handler, or in a template in it, also in what it gives for slots. An `Inherit` gives a name a value, and doesn't read it.

abbrev pub reads_in_key : ℕ → Option KeyExp → Bool
reads_in_key i None = false
reads_in_key i (Some (local e)) = reads_inherited i e
reads_in_key i (Some (global e)) = reads_inherited i e

abbrev mutual
  pub reads_in_body : ℕ → PlainBody → Bool
  reads_in_body i (body k key ms) = reads_in_key i key || reads_in_members i ms

  pub reads_in_members : ℕ → BodyMembers → Bool
  reads_in_members i no_members = false
  reads_in_members i (left_out ms) = reads_in_members i ms
  reads_in_members i (member p ms) = reads_in_part i p || reads_in_members i ms

  pub reads_in_part : ℕ → PlainBodyPart → Bool
  reads_in_part i (expression e) = reads_inherited i e
  reads_in_part i (word w) = false
  reads_in_part i (name j) = false
  reads_in_part i (handler sets) = list_any (λ (set : ℕ × Exp). reads_inherited i set.1) sets
  reads_in_part i (child b) = reads_in_body i b
  reads_in_part i (children bs) = reads_in_bodies i bs
  reads_in_part i (props es) = list_any (reads_inherited i) es
  reads_in_part i (slots bs) = reads_in_bodies i bs

  pub reads_in_bodies : ℕ → PlainBodies → Bool
  reads_in_bodies i no_bodies = false
  reads_in_bodies i (one_body b bs) = reads_in_body i b || reads_in_bodies i bs

-- the places that are marked, in ascending order
abbrev pub marked_places : List Bool → List ℕ
marked_places marks = filter (λ i. slice_index_or marks i false) (range_with_len 0 (length marks))

-- the inherited names that stand in a template, of so many, each by its place, in ascending order
abbrev pub names_read : ℕ → PlainBody → List ℕ
names_read count b = filter (λ i. reads_in_body i b) (range_with_len 0 count)

-- ---- what a component declares, in a program of so many inherited names

abbrev pub decl_with : List ℕ → NamedTypes → List ℕ → Decl
decl_with n fields inherited = record { name = n; fields = fields; inherited = inherited }

abbrev pub decl_of : ℕ → PlainCheckedComponent → Decl
decl_of count c = decl_with c.name c.fields.names (names_read count c.body)
