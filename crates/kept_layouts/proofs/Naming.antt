-- What a delegate of one name means is read by the nodes that name it.
use Rattle.std.proofs.Common.{◌≡◌, ℕ, Bool, true, false, if◌then◌else◌, Option, Some, option_and_then, List, [], ◌∷◌, refl, ap, sym, ◌∙◌}
use Rattle.std.specs.List.{find}
use Rattle.std.specs.Str.{bytes_eq}
use Rattle.std.proofs.lemmas.Slice.Eq.{bytes_eq-Decides}
use Rattle.fx_handles.specs.declared.Handle.{Handle}
use Rattle.fx_geom.specs.declared.shapes.Size.{Size}
use Rattle.delegates.specs.Meaning.{Meaning}
use Rattle.delegates.specs.Table.{Plug, is_named, meaning_in, meaning_of, with_meaning}
use Rattle.node_tree.specs.Tree.{Tree}
use Rattle.layout_form.specs.Layout.{delegate_of}
use Rattle.render_tree.specs.Object.{RenderObject, object_look}
use Rattle.render_tree.specs.Tree.{object_at}
use Rattle.render_tree.specs.Users.{is_called, uses}
use Rattle.kept_layouts.specs.Here.{ReadsSame}

module _ (name other : List ℕ) (m : Option Meaning) (apart : bytes_eq other name ≡ false) where
  -- an entry of the name isn't the other one
  passed : (e : Plug) → bytes_eq name e.name ≡ true → (es : List Plug) → meaning_of (e ∷ es) other ≡ meaning_of es other
  passed e named es = ap (λ (b : Bool). meaning_in (if b then Some e else find (is_named other) es)) (ap (bytes_eq other) (sym ((bytes_eq-Decides name e.name).0 named)) ∙ apart)

  other_stays : (es : List Plug) → meaning_of (with_meaning es name m) other ≡ meaning_of es other
  other_stays [] = refl
  other_stays (e ∷ es) = by_name (is_named name e) refl (other_stays es)
    where
      by_other : (b : Bool) → meaning_of (with_meaning es name m) other ≡ meaning_of es other
          → meaning_in (if b then Some e else find (is_named other) (with_meaning es name m)) ≡ meaning_in (if b then Some e else find (is_named other) es)
      by_other true rest = refl
      by_other false rest = rest

      by_name : (b : Bool) → is_named name e ≡ b → meaning_of (with_meaning es name m) other ≡ meaning_of es other
          → meaning_of (if b then record { name = e.name; meaning = m } ∷ es else e ∷ with_meaning es name m) other ≡ meaning_of (e ∷ es) other
      by_name true named rest = passed (record { name = e.name; meaning = m }) named es ∙ sym (passed e named es)
      by_name false unnamed rest = by_other (is_named other e) rest

pub reads_others : (cell : Size) (ds : List Plug) (name : List ℕ) (m : Option Meaning) (t : Tree RenderObject) (k : Handle) (o : RenderObject) → object_at t k ≡ Some o → uses t name k ≡ false
    → ReadsSame (record { cell = cell; delegates = ds }) (record { cell = cell; delegates = with_meaning ds name m }) (object_look o)
reads_others cell ds name m t k o at unused = record {
  cell = refl;
  delegate = λ other is.
      sym (other_stays name other m
      (sym (ap (is_called name) (ap (λ (x : Option RenderObject). option_and_then (λ (v : RenderObject). delegate_of (object_look v)) x) at ∙ is)) ∙ unused) ds);
}
