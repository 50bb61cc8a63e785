use Rattle.std.proofs.Common.{◌≡◌, ◌∙◌, ap, sym, None, string_bytes, true, false, is_some, ◌++◌, ◌∷◌, []}
use Rattle.std.specs.Map.{lookup}
use Rattle.std.specs.String.{string_eq}
use Rattle.expr_check.specs.NamesView.{names_in}
use Rattle.expr_check.specs.Names.{place_of}
use Rattle.expr_check.proofs.NamesLemmas.{is_key, is_some-place_of, is_none-some, none_of_absent, names_in-append}
use Rattle.indexmap.proofs.CallerLemmas.{insert_entry-new}
use Rattle.expr_check.proofs.names.Declared.add.Goals as goal

pub returns-then-contains_key-clause-added : goal.returns-then-contains_key-clause-added
returns-then-contains_key-clause-added c =
    sym (is_none-some (place_of c.args.self.now c.args.name.now) true
    (ap (λ ds. is_some (place_of ds c.args.name.now)) (sym c.self.view_is) ∙ is_some-place_of c.self.inside.types.entries c.args.name.now
    ∙ ap (λ name. is_some (lookup (is_key name) c.self.inside.types.entries)) (sym c.get.ensures.bytes) ∙ sym c.contains_key.ensures ∙ c.if-contains_key.true))

pub returns-clause-added : goal.returns-clause-added
returns-clause-added c =
    sym (is_none-some (place_of c.args.self.now c.args.name.now) false
    (ap (λ ds. is_some (place_of ds c.args.name.now)) (sym c.self.view_is) ∙ is_some-place_of c.self.inside.types.entries c.args.name.now
    ∙ ap (λ name. is_some (lookup (is_key name) c.self.inside.types.entries)) (sym c.get.ensures.bytes) ∙ sym c.contains_key.ensures ∙ c.if-contains_key.false))

pub returns-clause-names : goal.returns-clause-names
returns-clause-names c =
    let f = c.in_ok-insert.ensures in
    let es = c.self.inside.types.entries in
    let bytes : string_bytes c.in_ok-name.name ≡ c.args.name.now = c.in_ok-name.ensures.ok ∙ c.get-2.ensures.bytes in
    let none : lookup (is_key (string_bytes c.in_ok-name.name)) es ≡ None =
    none_of_absent _ (ap (λ name. is_some (lookup (is_key name) es)) (bytes ∙ sym c.get.ensures.bytes) ∙ sym c.contains_key.ensures ∙ c.if-contains_key.false) in
    ap names_in (f.entries ∙ insert_entry-new string_eq c.self.inside.types c.in_ok-name.name c.args.ty none)
    ∙ names_in-append es ((c.in_ok-name.name, c.args.ty) ∷ [])
    ∙ ap (λ name. names_in es ++ (name, c.args.ty) ∷ []) bytes ∙ ap (λ ds. ds ++ (c.args.name.now, c.args.ty) ∷ []) c.self.view_is
