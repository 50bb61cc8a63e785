use Rattle.std.proofs.Common.{◌≡◌, ◌∙◌, ap, sym, string_bytes, true, false, is_some, ◌++◌, ◌∷◌, []}
use Rattle.std.specs.List.{list_any}
use Rattle.expr_check.proofs.NamesLemmas.{is_key, is_none-some}
use Rattle.program_check.specs.Place.{index_of}
use Rattle.program_check.specs.SlotsView.{slots_in}
use Rattle.program_check.proofs.SlotLemmas.{is_some-index_of, slots_in-new}
use Rattle.program_check.proofs.slots.SlotNames.add.Goals as goal

pub returns-then-contains-clause-added : goal.returns-then-contains-clause-added
returns-then-contains-clause-added c =
    sym (is_none-some (index_of c.args.self.now c.args.name.now) true
    (ap (λ ns. is_some (index_of ns c.args.name.now)) (sym c.self.view_is) ∙ is_some-index_of c.self.inside.names.keys c.args.name.now
    ∙ ap (λ name. list_any (is_key name) c.self.inside.names.keys) (sym c.get.ensures.bytes) ∙ sym c.contains.ensures ∙ c.if-contains.true))

pub returns-clause-added : goal.returns-clause-added
returns-clause-added c =
    sym (is_none-some (index_of c.args.self.now c.args.name.now) false
    (ap (λ ns. is_some (index_of ns c.args.name.now)) (sym c.self.view_is) ∙ is_some-index_of c.self.inside.names.keys c.args.name.now
    ∙ ap (λ name. list_any (is_key name) c.self.inside.names.keys) (sym c.get.ensures.bytes) ∙ sym c.contains.ensures ∙ c.if-contains.false))

pub returns-clause-names : goal.returns-clause-names
returns-clause-names c =
    let ks = c.self.inside.names.keys in
    let bytes : string_bytes c.in_ok-name.name ≡ c.args.name.now = c.in_ok-name.ensures.ok ∙ c.get-2.ensures.bytes in
    let none : list_any (is_key (string_bytes c.in_ok-name.name)) ks ≡ false =
    ap (λ name. list_any (is_key name) ks) (bytes ∙ sym c.get.ensures.bytes) ∙ sym c.contains.ensures ∙ c.if-contains.false in
    ap slots_in c.in_ok-insert.ensures.keys ∙ slots_in-new ks c.in_ok-name.name none
    ∙ ap (λ name. slots_in ks ++ name ∷ []) bytes ∙ ap (λ ns. ns ++ c.args.name.now ∷ []) c.self.view_is
