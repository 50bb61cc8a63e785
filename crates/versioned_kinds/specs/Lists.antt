-- Trees without lazy lists.
use Rattle.std.specs.Prelude.{◌≡◌, Bool, true, false}
use Rattle.std.specs.List.{All}
use Rattle.program_form.specs.declared.kinds.KindName.{KindName}
use Rattle.program_form.specs.declared.kinds.KindName.TheVariants as kind
use Rattle.program_check.specs.Checked.{PlainCheckedComponent, PlainChecked}
use Rattle.widget_model.specs.Look.{Look}
use Rattle.widget_model.specs.Plain.{PlainWidget, look_of}
use Rattle.plain_tree.specs.PlainNode.{PlainNode}
use Rattle.plain_tree.specs.Render.{Render}
use Rattle.build_form.specs.BuildRole.{build_role_of, is_lazy}
use Rattle.versioned_kinds.specs.Templates.{BodyKindsMeet}
use Rattle.versioned_kinds.specs.Widgets.{LooksMeet, WidgetsMeet, RenderLooksMeet}

abbrev pub IsNoList : Look → Type 0
IsNoList look = is_lazy (build_role_of look) ≡ false

-- a kind of templates is another one than that of a lazy list
abbrev pub is_list_kind : KindName → Bool
is_list_kind kind.SliverLazy = true
is_list_kind k = false

abbrev pub IsNoListKind : KindName → Type 0
IsNoListKind k = is_list_kind k ≡ false

-- no body of a program's components has a lazy list in it
abbrev pub HasNoListBodies : PlainChecked → Type 0
HasNoListBodies c = All (λ (d : PlainCheckedComponent). BodyKindsMeet IsNoListKind d.body) c.components

-- no widget in a widget is a lazy list
abbrev pub WidgetHasNoLists : PlainWidget → Type 0
WidgetHasNoLists w = LooksMeet IsNoList w

-- no node of a tree is a lazy list
abbrev pub HasNoLists : PlainNode → Type 0
HasNoLists n = WidgetsMeet (λ w. IsNoList (look_of w)) n

-- no render node is
abbrev pub RenderHasNoLists : Render → Type 0
RenderHasNoLists r = RenderLooksMeet IsNoList r
