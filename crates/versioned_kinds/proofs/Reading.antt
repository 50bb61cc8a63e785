-- What a text reads as has the kinds of its version alone.
use Rattle.std.proofs.Common.{◌≡◌, ℕ, ◌+◌, ◌&&◌, nat_le, map, unwrap_or, Bool, true, false, Option, Some, None, IfSome, Ok, Err, IfOk, List, [], ◌∷◌, refl}
use Rattle.std.specs.List.{All, find}
use Rattle.std.specs.Prelude.{⊤, codes}
use Rattle.std.specs.Ordering.{nat_cmp}
use Rattle.std.specs.Str.{bytes_eq}
use Rattle.std.specs.Cmp.Lexicographic.{slice_cmp}
use Rattle.std.specs.declared.cmp.Ordering.{Ordering}
use Rattle.std.specs.declared.cmp.Ordering.TheVariants.{Less, Equal, Greater}
use Rattle.std.proofs.lemmas.Bool.{leb-true}
use Rattle.std.proofs.lemmas.List.Elements.{All-nil, All-cons}
use Rattle.serde_json.specs.Data.{Data, null, boolean, number, string, array, object, Items, no_items, item, Members, no_members, member}
use Rattle.serde_json.specs.Find.{get}
use Rattle.program_form.specs.declared.kinds.KindName.{KindName}
use Rattle.program_form.specs.declared.kinds.KindMember.{KindMember}
use Rattle.program_form.specs.declared.kinds.MemberForm.{MemberForm}
use Rattle.program_form.specs.declared.kinds.MemberForm.TheVariants.{Expression, Word, Name, Handler, Child, Children, Props, Slots}
use Rattle.program_form.specs.Kinds.{since, kinds, kind_text, kind_named, member_text, members_of}
use Rattle.program_form.specs.Program.{PlainComponent, PlainProgram, component_with, program_with}
use Rattle.program_form.specs.Template.{PlainTemplate, PlainPart, expression, word, name, handler, child, children, props, slots, members_in, templates_in, slots_in, template_from}
use Rattle.program_read.specs.declared.fault.ShapeCode.TheVariants.{MissingMember}
use Rattle.program_read.specs.FormWalk.{form_of}
use Rattle.program_read.specs.HandlerWalk.{handler_of}
use Rattle.program_read.specs.KeyWalk.{key_of}
use Rattle.program_read.specs.Leaves.{or_stop, string_of, within_limit, walks}
use Rattle.program_read.specs.Names.{name_of, name_or_stop}
use Rattle.program_read.specs.Objects.{shaped, required_at, walk_found, optional_at, in_order, named, keyed_of, list_of}
use Rattle.program_read.specs.ProgramWalk.{version_of, view_of, parameter_of, variable_of, list_at, component_names, component_of, component_entries_of, components_of, program_names, program_of}
use Rattle.program_read.specs.Reading.{by_walk, read_from, read_as, json_of}
use Rattle.program_read.specs.ShapeFault.{ShapeWalk, within, at_entry, given, each}
use Rattle.program_read.specs.TemplateWalk.{kind_of, required_names, known_names, kind_in, members_walk, kind_walk, template_with, part_with, here_or_later, template_of, member_of, templates_of, templates_walk, slots_of, slots_walk}
use Rattle.program_read.specs.WordWalk.{word_of}
use Rattle.versioned_kinds.specs.Templates.{KindsMeet, MembersMeet, PartMeets, TemplatesMeet, SlotsMeet}
use Rattle.versioned_kinds.specs.Versions.{IsOfVersion, TemplateKeepsTo, IsOfItsVersion}
use Rattle.versioned_kinds.proofs.Steps.{anything, of_ok, is_found, there, after_walk, walk_gives, inside_walk}

-- ---- bytes, and members of an object

by_walk_gives : {A : Type 0} (w : ShapeWalk A) (Q : A → Type 0) → IfOk w Q → IfOk (by_walk w) Q
by_walk_gives (Ok x) Q h = h
by_walk_gives (Err fault) Q h = tt

read_gives : {A : Type 0} (walk : Data → ShapeWalk A) (o : Option Data) (Q : A → Type 0) → ((d : Data) → IfOk (walk d) Q) → IfOk (read_from walk o) Q
read_gives walk None Q h = tt
read_gives walk (Some d) Q h = by_walk_gives (walk d) Q (h d)

each_some : {A : Type 0} (Q : A → Type 0) (o : Option A) → ((x : A) → Q x) → IfSome o Q
each_some Q None h = tt
each_some Q (Some x) h = h x

required_gives : {A : Type 0} (walk : Data → ShapeWalk A) (n : List ℕ) (d : Data) (Q : A → Type 0) → ((d : Data) → IfOk (walk d) Q) → IfOk (required_at walk n d) Q
required_gives walk n d Q h =
    after_walk (or_stop MissingMember (get n d)) _ (λ x. Unit {0}) Q (anything (or_stop MissingMember (get n d))) (λ found u. inside_walk n (walk found) Q (h found))

found_gives : {A : Type 0} (walk : Data → ShapeWalk A) (n : List ℕ) (o : Option Data) (Q : A → Type 0) → ((d : Data) → IfOk (walk d) Q) → IfOk (walk_found walk n o) (λ r. IfSome r Q)
found_gives walk n None Q h = tt
found_gives walk n (Some d) Q h = walk_gives Some (within n (walk d)) Q (λ r. IfSome r Q) (inside_walk n (walk d) Q (h d)) (λ x k. k)

-- a list that may be left out
or_none : {A : Type 0} (Q : List A → Type 0) (o : Option (List A)) → Q [] → IfSome o Q → Q (unwrap_or o [])
or_none Q None h k = h
or_none Q (Some xs) h k = k

list_gives : {A : Type 0} (walk : Data → ShapeWalk (List A)) (n : List ℕ) (d : Data) (Q : List A → Type 0) → Q [] → ((d : Data) → IfOk (walk d) Q) → IfOk (list_at walk n d) Q
list_gives walk n d Q none h =
    walk_gives (λ (found : Option (List _)). unwrap_or found []) (optional_at walk n d) (λ r. IfSome r Q) Q (found_gives walk n (get n d) Q h) (λ o k. or_none Q o none k)

-- ---- kinds

both_true : (a b : Bool) → a && b ≡ true → a ≡ true
both_true true b e = refl
both_true false b e = e

module _ (version : ℕ) where
  abbrev P : KindName → Type 0
  P = IsOfVersion version

  some_more : {A : Type 0} (o : Option A) (Q R : A → Type 0) → ((x : A) → Q x → R x) → IfSome o Q → IfSome o R
  some_more None Q R f h = tt
  some_more (Some x) Q R f h = f x h

  named_is_of_version : (text : List ℕ) → IfSome (kind_named version text) P
  named_is_of_version text =
      let test = λ (k : KindName). nat_le (since k) version && bytes_eq (kind_text k) text in
      some_more (find test kinds) (λ k. test k ≡ true) P (λ k e. leb-true (since k) version (both_true (nat_le (since k) version) (bytes_eq (kind_text k) text) e)) (is_found test kinds)

  kind_reads : (d : Data) → IfOk (kind_in version d) P
  kind_reads d =
      after_walk (kind_of version d) _ P P
      (after_walk (required_at string_of (codes "w") d) _ (λ x. Unit {0}) P (anything (required_at string_of (codes "w") d)) (λ text u. there (kind_named version text) _ P (named_is_of_version text)))
      (λ k h. walk_gives (λ (x : ⊤). k) (shaped (required_names k) (known_names k) d) (λ x. Unit {0}) P (anything (shaped (required_names k) (known_names k) d)) (λ x u. h))

  -- ---- the members of a kind

  abbrev Row : List (Option PlainPart) → Type 0
  Row ps = MembersMeet P (members_in ps)

  row_more : (o : Option PlainPart) (ps : List (Option PlainPart)) → IfSome o (PartMeets P) → Row ps → Row (o ∷ ps)
  row_more None ps h k = k
  row_more (Some p) ps h k = (h, k)

  members_read : (walk : KindMember → ShapeWalk (Option PlainPart)) → ((m : KindMember) → IfOk (walk m) (λ o. IfSome o (PartMeets P))) → (ms : List KindMember) → IfOk (in_order (map walk ms)) Row
  members_read walk h [] = tt
  members_read walk h (m ∷ ms) =
      after_walk (walk m) _ (λ o. IfSome o (PartMeets P)) Row (h m) (λ o k.
      walk_gives (λ ps. o ∷ ps) (in_order (map walk ms)) Row Row (members_read walk h ms) (λ ps l. row_more o ps k l))

  object_reads : (d : Data) (walk : KindMember → ShapeWalk (Option PlainPart)) → ((m : KindMember) → IfOk (walk m) (λ o. IfSome o (PartMeets P))) → IfOk (template_with version d walk) (KindsMeet P)
  object_reads d walk h =
      after_walk (kind_in version d) (kind_walk d walk) P (KindsMeet P) (kind_reads d) (λ k there.
      after_walk (optional_at key_of (codes "key") d) (members_walk k walk) (λ x. Unit {0}) (KindsMeet P) (anything (optional_at key_of (codes "key") d)) (λ key u.
      walk_gives (template_from k key) (in_order (map walk (members_of k))) Row (KindsMeet P) (members_read walk h (members_of k)) (λ ps l. (there, l))))

  -- what a member of an object is
  part_reads : (form : MemberForm) (d : Data) (one : ⊤ → ShapeWalk PlainTemplate) (many : ⊤ → ShapeWalk (List PlainTemplate)) (keyed : ⊤ → ShapeWalk (List (List ℕ × PlainTemplate)))
      → IfOk (one tt) (KindsMeet P) → IfOk (many tt) (λ ts. TemplatesMeet P (templates_in ts)) → IfOk (keyed tt) (λ ss. SlotsMeet P (slots_in ss)) → IfOk (part_with form d one many keyed) (PartMeets P)
  part_reads (Expression meaning) d one many keyed h k l = walk_gives expression (form_of d) (λ x. Unit {0}) (PartMeets P) (anything (form_of d)) (λ x u. tt)
  part_reads (Word list) d one many keyed h k l = walk_gives word (word_of list d) (λ x. Unit {0}) (PartMeets P) (anything (word_of list d)) (λ x u. tt)
  part_reads Name d one many keyed h k l = walk_gives name (name_of d) (λ x. Unit {0}) (PartMeets P) (anything (name_of d)) (λ x u. tt)
  part_reads Handler d one many keyed h k l = walk_gives handler (handler_of d) (λ x. Unit {0}) (PartMeets P) (anything (handler_of d)) (λ x u. tt)
  part_reads (Child wanted) d one many keyed h k l = walk_gives child (one tt) (KindsMeet P) (PartMeets P) h (λ t m. m)
  part_reads (Children wanted) d one many keyed h k l = walk_gives (λ (ts : List PlainTemplate). children (templates_in ts)) (many tt) (λ ts. TemplatesMeet P (templates_in ts)) (PartMeets P) k (λ ts m. m)
  part_reads Props d one many keyed h k l = walk_gives props (keyed_of form_of d) (λ x. Unit {0}) (PartMeets P) (anything (keyed_of form_of d)) (λ x u. tt)
  part_reads Slots d one many keyed h k l = walk_gives (λ (ss : List (List ℕ × PlainTemplate)). slots (slots_in ss)) (keyed tt) (λ ss. SlotsMeet P (slots_in ss)) (PartMeets P) l (λ ss m. m)

  where_named : (o : Ordering) (here later : ⊤ → ShapeWalk (Option PlainPart)) → IfOk (here tt) (λ r. IfSome r (PartMeets P)) → IfOk (later tt) (λ r. IfSome r (PartMeets P))
      → IfOk (here_or_later o here later) (λ r. IfSome r (PartMeets P))
  where_named Less here later h k = k
  where_named Equal here later h k = h
  where_named Greater here later h k = k

  -- ---- lists and objects of templates

  abbrev EachReads : List (ShapeWalk PlainTemplate) → Type 0
  EachReads [] = Unit {0}
  EachReads (w ∷ ws) = IfOk w (KindsMeet P) × EachReads ws

  each_reads : (i : ℕ) (ws : List (ShapeWalk PlainTemplate)) → EachReads ws → IfOk (each i ws) (λ ts. TemplatesMeet P (templates_in ts))
  each_reads i [] h = tt
  each_reads i (w ∷ ws) h =
      after_walk (at_entry i w) _ (KindsMeet P) (λ ts. TemplatesMeet P (templates_in ts)) (inside_walk _ w (KindsMeet P) h.0) (λ t k.
      walk_gives (λ ts. t ∷ ts) (each (i + 1) ws) (λ ts. TemplatesMeet P (templates_in ts)) (λ ts. TemplatesMeet P (templates_in ts)) (each_reads (i + 1) ws h.1) (λ ts l. (k, l)))

  abbrev NamedRead : List (ShapeWalk (List ℕ × PlainTemplate)) → Type 0
  NamedRead [] = Unit {0}
  NamedRead (w ∷ ws) = IfOk w (λ s. KindsMeet P s.1) × NamedRead ws

  named_read : (ws : List (ShapeWalk (List ℕ × PlainTemplate))) → NamedRead ws → IfOk (in_order ws) (λ ss. SlotsMeet P (slots_in ss))
  named_read [] h = tt
  named_read (w ∷ ws) h =
      after_walk w _ (λ s. KindsMeet P s.1) (λ ss. SlotsMeet P (slots_in ss)) h.0 (λ s k.
      walk_gives (λ ss. s ∷ ss) (in_order ws) (λ ss. SlotsMeet P (slots_in ss)) (λ ss. SlotsMeet P (slots_in ss)) (named_read ws h.1) (λ ss l. (k, l)))

  name_reads : (n : List ℕ) (w : ShapeWalk PlainTemplate) → IfOk w (KindsMeet P) → IfOk (named n w) (λ s. KindsMeet P s.1)
  name_reads n w h =
      after_walk (name_or_stop n) _ (λ x. Unit {0}) (λ s. KindsMeet P s.1) (anything (name_or_stop n)) (λ m u.
      walk_gives (λ (t : PlainTemplate). (m, t)) (within m w) (KindsMeet P) (λ s. KindsMeet P s.1) (inside_walk m w (KindsMeet P) h) (λ t k. k))

  -- ---- a template

  mutual
    unfolding template_of

    pub template_reads : (d : Data) → IfOk (template_of version d) (KindsMeet P)
    template_reads null = tt
    template_reads (boolean b) = tt
    template_reads (number n) = tt
    template_reads (string s) = tt
    template_reads (array ds) = tt
    template_reads (object ms) = object_reads (object ms) (member_of version ms) (λ m. member_reads ms m)

    member_reads : (ms : Members) (m : KindMember) → IfOk (member_of version ms m) (λ o. IfSome o (PartMeets P))
    member_reads no_members m = tt
    member_reads (member n d ms) m =
        let here : ShapeWalk PlainPart = part_with m.form d (λ _. template_of version d) (λ _. templates_of version d) (λ _. slots_of version d) in
        where_named (slice_cmp nat_cmp (member_text m.name) n) (λ _. given Some (within (member_text m.name) here)) (λ _. member_of version ms m)
        (walk_gives Some (within (member_text m.name) here) (PartMeets P) (λ r. IfSome r (PartMeets P))
        (inside_walk (member_text m.name) here (PartMeets P)
        (part_reads m.form d (λ _. template_of version d) (λ _. templates_of version d) (λ _. slots_of version d) (template_reads d) (templates_read d) (slots_read d))) (λ p k. k))
        (member_reads ms m)

    templates_read : (d : Data) → IfOk (templates_of version d) (λ ts. TemplatesMeet P (templates_in ts))
    templates_read null = tt
    templates_read (boolean b) = tt
    templates_read (number n) = tt
    templates_read (string s) = tt
    templates_read (array ds) =
        after_walk (within_limit ds) _ (λ x. Unit {0}) (λ ts. TemplatesMeet P (templates_in ts)) (anything (within_limit ds)) (λ x u. each_reads 0 (templates_walk version ds) (entries_read ds))
    templates_read (object ms) = tt

    entries_read : (ds : Items) → EachReads (templates_walk version ds)
    entries_read no_items = tt
    entries_read (item d ds) = (template_reads d, entries_read ds)

    slots_read : (d : Data) → IfOk (slots_of version d) (λ ss. SlotsMeet P (slots_in ss))
    slots_read null = tt
    slots_read (boolean b) = tt
    slots_read (number n) = tt
    slots_read (string s) = tt
    slots_read (array ds) = tt
    slots_read (object ms) = named_read (slots_walk version ms) (contents_read ms)

    contents_read : (ms : Members) → NamedRead (slots_walk version ms)
    contents_read no_members = tt
    contents_read (member n d ms) = (name_reads n (template_of version d) (template_reads d), contents_read ms)

  -- ---- a component

  abbrev BodyMeets : PlainComponent → Type 0
  BodyMeets c = KindsMeet P c.body

  component_reads : (d : Data) → IfOk (component_of version d) BodyMeets
  unfolding component_of
  component_reads d =
      after_walk (shaped (codes "name" ∷ codes "body" ∷ []) component_names d) _ (λ x. Unit {0}) BodyMeets (anything (shaped (codes "name" ∷ codes "body" ∷ []) component_names d)) (λ x u.
      after_walk (required_at name_of (codes "name") d) _ (λ x. Unit {0}) BodyMeets (anything (required_at name_of (codes "name") d)) (λ n u1.
      after_walk (list_at (list_of parameter_of) (codes "props") d) _ (λ x. Unit {0}) BodyMeets (anything (list_at (list_of parameter_of) (codes "props") d)) (λ ps u2.
      after_walk (list_at (list_of variable_of) (codes "fields") d) _ (λ x. Unit {0}) BodyMeets (anything (list_at (list_of variable_of) (codes "fields") d)) (λ fs u3.
      after_walk (list_at (list_of name_of) (codes "slots") d) _ (λ x. Unit {0}) BodyMeets (anything (list_at (list_of name_of) (codes "slots") d)) (λ ss u4.
      walk_gives (component_with n ps fs ss) (required_at (template_of version) (codes "body") d) (KindsMeet P) BodyMeets
      (required_gives (template_of version) (codes "body") d (KindsMeet P) template_reads) (λ t k. k))))))

  each_component : (i : ℕ) (ds : Items) → IfOk (each i (walks (component_of version) ds)) (All BodyMeets)
  each_component i no_items = All-nil BodyMeets
  each_component i (item d ds) =
      after_walk (at_entry i (component_of version d)) _ BodyMeets (All BodyMeets) (inside_walk _ (component_of version d) BodyMeets (component_reads d)) (λ c k.
      walk_gives (λ cs. c ∷ cs) (each (i + 1) (walks (component_of version) ds)) (All BodyMeets) (All BodyMeets) (each_component (i + 1) ds) (λ cs l. All-cons BodyMeets c cs k l))

  components_read : (d : Data) → IfOk (components_of version d) (All BodyMeets)
  components_read d =
      after_walk (component_entries_of d) _ (λ x. Unit {0}) (All BodyMeets) (anything (component_entries_of d)) (λ ds u. each_component 0 ds)

-- ---- a program, and what bytes read as

program_reads : (d : Data) → IfOk (program_of d) IsOfItsVersion
unfolding program_of
program_reads d =
    let front = codes "version" ∷ codes "view" ∷ codes "root" ∷ [] in
    after_walk (shaped front program_names d) _ (λ x. Unit {0}) IsOfItsVersion (anything (shaped front program_names d)) (λ x u.
    after_walk (required_at version_of (codes "version") d) _ (λ x. Unit {0}) IsOfItsVersion (anything (required_at version_of (codes "version") d)) (λ version u1.
    after_walk (required_at view_of (codes "view") d) _ (λ x. Unit {0}) IsOfItsVersion (anything (required_at view_of (codes "view") d)) (λ view u2.
    after_walk (list_at (list_of variable_of) (codes "inherited") d) _ (λ x. Unit {0}) IsOfItsVersion (anything (list_at (list_of variable_of) (codes "inherited") d)) (λ inherited u3.
    after_walk (list_at (components_of version) (codes "components") d) _ (All (BodyMeets version)) IsOfItsVersion
    (list_gives (components_of version) (codes "components") d (All (BodyMeets version)) (All-nil (BodyMeets version)) (components_read version)) (λ components k.
    walk_gives (program_with version view inherited components) (required_at (template_of version) (codes "root") d) (TemplateKeepsTo version) IsOfItsVersion
    (required_gives (template_of version) (codes "root") d (TemplateKeepsTo version) (template_reads version)) (λ root l. record { root = l; components = k }))))))

pub read_keeps : (version : ℕ) (text : List ℕ) (t : PlainTemplate) → read_as (template_of version) text ≡ Ok t → TemplateKeepsTo version t
read_keeps version text t e =
    of_ok (read_as (template_of version) text) (TemplateKeepsTo version) t (read_gives (template_of version) (json_of text) (TemplateKeepsTo version) (template_reads version)) e

pub program_read_keeps : (text : List ℕ) (p : PlainProgram) → read_as program_of text ≡ Ok p → IsOfItsVersion p
program_read_keeps text p e = of_ok (read_as program_of text) IsOfItsVersion p (read_gives program_of (json_of text) IsOfItsVersion program_reads) e
