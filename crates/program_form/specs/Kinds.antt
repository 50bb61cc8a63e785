-- The kinds of a template as data: the word of each, the version from which on it is there, whether it may have
-- a key, and its members in order.
use Rattle.std.specs.Prelude.{ℕ, List, [], ◌∷◌, ◌&&◌, Bool, true, false, Option, codes, find, nat_le}
use Rattle.std.specs.Str.{bytes_eq}
use Rattle.program_form.specs.declared.kinds.KindName.{KindName}
use Rattle.program_form.specs.declared.kinds.KindName.TheVariants as kind
use Rattle.program_form.specs.declared.kinds.MemberName.{MemberName}
use Rattle.program_form.specs.declared.kinds.MemberName.TheVariants as name
use Rattle.program_form.specs.declared.kinds.MemberMeaning.TheVariants as means
use Rattle.program_form.specs.declared.words.WordList.TheVariants as words
use Rattle.program_form.specs.declared.kinds.ChildSort.TheVariants as wanted
use Rattle.program_form.specs.declared.kinds.MemberForm.{MemberForm}
use Rattle.program_form.specs.declared.kinds.MemberForm.TheVariants.{Expression, Word, Name, Handler, Child, Children, Props, Slots}
use Rattle.program_form.specs.declared.kinds.KindMember.{KindMember}

-- every kind, in the order of the table
unfoldable pub kinds : List KindName
kinds = kind.SizedBox ∷ kind.ConstrainedBox ∷ kind.Padding ∷ kind.Align ∷ kind.ColoredBox ∷ kind.Text ∷ kind.Row ∷ kind.Column ∷ kind.Stack ∷ kind.Flexible ∷ kind.Positioned ∷ kind.Opacity ∷ kind.ClipRect ∷ kind.RepaintBoundary ∷ kind.MergeSemantics ∷ kind.IntrinsicWidth ∷ kind.IntrinsicHeight ∷ kind.Offstage ∷ kind.IgnorePointer ∷ kind.AbsorbPointer ∷ kind.Detector ∷ kind.Semantics ∷ kind.ExcludeSemantics ∷ kind.CustomPaint ∷ kind.CustomLayout ∷ kind.Viewport ∷ kind.SliverToBox ∷ kind.SliverPadding ∷ kind.SliverFixed ∷ kind.SliverLazy ∷ kind.Keep ∷ kind.Wrap ∷ kind.Table ∷ kind.Inherit ∷ kind.Use ∷ kind.Slot ∷ kind.If ∷ kind.Each ∷ []

-- the word that names a kind
unfoldable pub kind_text : KindName → List ℕ
kind_text kind.SizedBox = codes "SizedBox"
kind_text kind.ConstrainedBox = codes "ConstrainedBox"
kind_text kind.Padding = codes "Padding"
kind_text kind.Align = codes "Align"
kind_text kind.ColoredBox = codes "ColoredBox"
kind_text kind.Text = codes "Text"
kind_text kind.Row = codes "Row"
kind_text kind.Column = codes "Column"
kind_text kind.Stack = codes "Stack"
kind_text kind.Flexible = codes "Flexible"
kind_text kind.Positioned = codes "Positioned"
kind_text kind.Opacity = codes "Opacity"
kind_text kind.ClipRect = codes "ClipRect"
kind_text kind.RepaintBoundary = codes "RepaintBoundary"
kind_text kind.MergeSemantics = codes "MergeSemantics"
kind_text kind.IntrinsicWidth = codes "IntrinsicWidth"
kind_text kind.IntrinsicHeight = codes "IntrinsicHeight"
kind_text kind.Offstage = codes "Offstage"
kind_text kind.IgnorePointer = codes "IgnorePointer"
kind_text kind.AbsorbPointer = codes "AbsorbPointer"
kind_text kind.Detector = codes "Detector"
kind_text kind.Semantics = codes "Semantics"
kind_text kind.ExcludeSemantics = codes "ExcludeSemantics"
kind_text kind.CustomPaint = codes "CustomPaint"
kind_text kind.CustomLayout = codes "CustomLayout"
kind_text kind.Viewport = codes "Viewport"
kind_text kind.SliverToBox = codes "SliverToBox"
kind_text kind.SliverPadding = codes "SliverPadding"
kind_text kind.SliverFixed = codes "SliverFixed"
kind_text kind.SliverLazy = codes "SliverLazy"
kind_text kind.Keep = codes "Keep"
kind_text kind.Wrap = codes "Wrap"
kind_text kind.Table = codes "Table"
kind_text kind.Inherit = codes "Inherit"
kind_text kind.Use = codes "use"
kind_text kind.Slot = codes "slot"
kind_text kind.If = codes "if"
kind_text kind.Each = codes "each"

-- the version of programs from which on a kind is there
abbrev pub since : KindName → ℕ
since kind.SizedBox = 1
since kind.ConstrainedBox = 1
since kind.Padding = 1
since kind.Align = 1
since kind.ColoredBox = 1
since kind.Text = 1
since kind.Row = 1
since kind.Column = 1
since kind.Stack = 1
since kind.Flexible = 1
since kind.Positioned = 1
since kind.Opacity = 1
since kind.ClipRect = 1
since kind.RepaintBoundary = 1
since kind.MergeSemantics = 1
since kind.IntrinsicWidth = 1
since kind.IntrinsicHeight = 1
since kind.Offstage = 1
since kind.IgnorePointer = 1
since kind.AbsorbPointer = 1
since kind.Detector = 1
since kind.Semantics = 1
since kind.ExcludeSemantics = 1
since kind.CustomPaint = 1
since kind.CustomLayout = 1
since kind.Viewport = 1
since kind.SliverToBox = 1
since kind.SliverPadding = 1
since kind.SliverFixed = 1
since kind.SliverLazy = 2
since kind.Keep = 2
since kind.Wrap = 3
since kind.Table = 3
since kind.Inherit = 1
since kind.Use = 1
since kind.Slot = 1
since kind.If = 1
since kind.Each = 1

-- the kind that a word names in a program of a version, if there is one
abbrev pub kind_named : ℕ → List ℕ → Option KindName
kind_named version word = find (λ k. nat_le (since k) version && bytes_eq (kind_text k) word) kinds

-- each kind may have a key but those that make no widget of their own and stand for another template
abbrev pub has_key : KindName → Bool
has_key kind.SizedBox = true
has_key kind.ConstrainedBox = true
has_key kind.Padding = true
has_key kind.Align = true
has_key kind.ColoredBox = true
has_key kind.Text = true
has_key kind.Row = true
has_key kind.Column = true
has_key kind.Stack = true
has_key kind.Flexible = true
has_key kind.Positioned = true
has_key kind.Opacity = true
has_key kind.ClipRect = true
has_key kind.RepaintBoundary = true
has_key kind.MergeSemantics = true
has_key kind.IntrinsicWidth = true
has_key kind.IntrinsicHeight = true
has_key kind.Offstage = true
has_key kind.IgnorePointer = true
has_key kind.AbsorbPointer = true
has_key kind.Detector = true
has_key kind.Semantics = true
has_key kind.ExcludeSemantics = true
has_key kind.CustomPaint = true
has_key kind.CustomLayout = true
has_key kind.Viewport = true
has_key kind.SliverToBox = true
has_key kind.SliverPadding = true
has_key kind.SliverFixed = true
has_key kind.SliverLazy = true
has_key kind.Keep = true
has_key kind.Wrap = true
has_key kind.Table = true
has_key kind.Inherit = true
has_key kind.Use = true
has_key kind.Slot = false
has_key kind.If = false
has_key kind.Each = false

-- a member's name as it is written
unfoldable pub member_text : MemberName → List ℕ
member_text name.Width = codes "width"
member_text name.Height = codes "height"
member_text name.Child = codes "child"
member_text name.MinWidth = codes "minWidth"
member_text name.MaxWidth = codes "maxWidth"
member_text name.MinHeight = codes "minHeight"
member_text name.MaxHeight = codes "maxHeight"
member_text name.Left = codes "left"
member_text name.Top = codes "top"
member_text name.Right = codes "right"
member_text name.Bottom = codes "bottom"
member_text name.Ax = codes "ax"
member_text name.Ay = codes "ay"
member_text name.Color = codes "color"
member_text name.Text = codes "text"
member_text name.Main = codes "main"
member_text name.Cross = codes "cross"
member_text name.Size = codes "size"
member_text name.Children = codes "children"
member_text name.Fit = codes "fit"
member_text name.Flex = codes "flex"
member_text name.Alpha = codes "alpha"
member_text name.Offstage = codes "offstage"
member_text name.Ignoring = codes "ignoring"
member_text name.Absorbing = codes "absorbing"
member_text name.Behavior = codes "behavior"
member_text name.Tap = codes "tap"
member_text name.Long = codes "long"
member_text name.Vertical = codes "vertical"
member_text name.Horizontal = codes "horizontal"
member_text name.Pan = codes "pan"
member_text name.Label = codes "label"
member_text name.Button = codes "button"
member_text name.Container = codes "container"
member_text name.Excluding = codes "excluding"
member_text name.Delegate = codes "delegate"
member_text name.Axis = codes "axis"
member_text name.Extent = codes "extent"
member_text name.Keep = codes "keep"
member_text name.Spacing = codes "spacing"
member_text name.RunSpacing = codes "runSpacing"
member_text name.Widths = codes "widths"
member_text name.Name = codes "name"
member_text name.Value = codes "value"
member_text name.Props = codes "props"
member_text name.Slots = codes "slots"
member_text name.Cond = codes "cond"
member_text name.Then = codes "then"
member_text name.Else = codes "else"
member_text name.Var = codes "var"
member_text name.In = codes "in"
member_text name.Body = codes "body"

-- a member that may be left out, and one that has to be there
abbrev pub optional : MemberName → MemberForm → KindMember
optional n f = record { name = n; form = f; required = false }

abbrev pub required : MemberName → MemberForm → KindMember
required n f = record { name = n; form = f; required = true }

-- the members of a kind, in order
unfoldable pub members_of : KindName → List KindMember
members_of kind.SizedBox = optional name.Width (Expression means.Length) ∷ optional name.Height (Expression means.Length) ∷ optional name.Child (Child wanted.Box) ∷ []
members_of kind.ConstrainedBox = optional name.MinWidth (Expression means.Length) ∷ optional name.MaxWidth (Expression means.Length) ∷ optional name.MinHeight (Expression means.Length) ∷ optional name.MaxHeight (Expression means.Length) ∷ optional name.Child (Child wanted.Box) ∷ []
members_of kind.Padding = optional name.Left (Expression means.Length) ∷ optional name.Top (Expression means.Length) ∷ optional name.Right (Expression means.Length) ∷ optional name.Bottom (Expression means.Length) ∷ optional name.Child (Child wanted.Box) ∷ []
members_of kind.Align = optional name.Ax (Expression means.Alignment) ∷ optional name.Ay (Expression means.Alignment) ∷ optional name.Child (Child wanted.Box) ∷ []
members_of kind.ColoredBox = optional name.Color (Expression means.Color) ∷ optional name.Child (Child wanted.Box) ∷ []
members_of kind.Text = required name.Text (Expression means.Text) ∷ optional name.Color (Expression means.Color) ∷ []
members_of kind.Row = optional name.Main (Word words.Main) ∷ optional name.Cross (Word words.Cross) ∷ optional name.Size (Word words.Size) ∷ optional name.Children (Children wanted.Box) ∷ []
members_of kind.Column = optional name.Main (Word words.Main) ∷ optional name.Cross (Word words.Cross) ∷ optional name.Size (Word words.Size) ∷ optional name.Children (Children wanted.Box) ∷ []
members_of kind.Stack = optional name.Ax (Expression means.Alignment) ∷ optional name.Ay (Expression means.Alignment) ∷ optional name.Fit (Word words.StackFit) ∷ optional name.Children (Children wanted.Box) ∷ []
members_of kind.Flexible = optional name.Flex (Expression means.Flex) ∷ optional name.Fit (Word words.FlexFit) ∷ required name.Child (Child wanted.Box) ∷ []
members_of kind.Positioned = optional name.Left (Expression means.Offset) ∷ optional name.Top (Expression means.Offset) ∷ optional name.Right (Expression means.Offset) ∷ optional name.Bottom (Expression means.Offset) ∷ optional name.Width (Expression means.Length) ∷ optional name.Height (Expression means.Length) ∷ required name.Child (Child wanted.Box) ∷ []
members_of kind.Opacity = optional name.Alpha (Expression means.Alpha) ∷ optional name.Child (Child wanted.Box) ∷ []
members_of kind.ClipRect = optional name.Child (Child wanted.Box) ∷ []
members_of kind.RepaintBoundary = optional name.Child (Child wanted.Box) ∷ []
members_of kind.MergeSemantics = optional name.Child (Child wanted.Box) ∷ []
members_of kind.IntrinsicWidth = optional name.Child (Child wanted.Box) ∷ []
members_of kind.IntrinsicHeight = optional name.Child (Child wanted.Box) ∷ []
members_of kind.Offstage = optional name.Offstage (Expression means.Flag) ∷ optional name.Child (Child wanted.Box) ∷ []
members_of kind.IgnorePointer = optional name.Ignoring (Expression means.Flag) ∷ optional name.Child (Child wanted.Box) ∷ []
members_of kind.AbsorbPointer = optional name.Absorbing (Expression means.Flag) ∷ optional name.Child (Child wanted.Box) ∷ []
members_of kind.Detector = optional name.Behavior (Word words.Behavior) ∷ optional name.Tap Handler ∷ optional name.Long Handler ∷ optional name.Vertical Handler ∷ optional name.Horizontal Handler ∷ optional name.Pan Handler ∷ optional name.Child (Child wanted.Box) ∷ []
members_of kind.Semantics = optional name.Label (Expression means.Text) ∷ optional name.Button (Expression means.Flag) ∷ optional name.Container (Expression means.Flag) ∷ optional name.Child (Child wanted.Box) ∷ []
members_of kind.ExcludeSemantics = optional name.Excluding (Expression means.Flag) ∷ optional name.Child (Child wanted.Box) ∷ []
members_of kind.CustomPaint = required name.Delegate (Expression means.Text) ∷ optional name.Child (Child wanted.Box) ∷ []
members_of kind.CustomLayout = required name.Delegate (Expression means.Text) ∷ optional name.Child (Child wanted.Box) ∷ []
members_of kind.Viewport = optional name.Axis (Word words.Axis) ∷ optional name.Children (Children wanted.Sliver) ∷ []
members_of kind.SliverToBox = optional name.Child (Child wanted.Box) ∷ []
members_of kind.SliverPadding = optional name.Left (Expression means.Length) ∷ optional name.Top (Expression means.Length) ∷ optional name.Right (Expression means.Length) ∷ optional name.Bottom (Expression means.Length) ∷ optional name.Child (Child wanted.Sliver) ∷ []
members_of kind.SliverFixed = required name.Extent (Expression means.Extent) ∷ optional name.Children (Children wanted.Box) ∷ []
members_of kind.SliverLazy = required name.Extent (Expression means.Extent) ∷ optional name.Children (Children wanted.Box) ∷ []
members_of kind.Keep = optional name.Keep (Expression means.Flag) ∷ required name.Child (Child wanted.Box) ∷ []
members_of kind.Wrap = optional name.Spacing (Expression means.Length) ∷ optional name.RunSpacing (Expression means.Length) ∷ optional name.Children (Children wanted.Box) ∷ []
members_of kind.Table = required name.Widths (Expression means.Widths) ∷ optional name.Children (Children wanted.Box) ∷ []
members_of kind.Inherit = required name.Name Name ∷ required name.Value (Expression means.Any) ∷ required name.Child (Child wanted.Any) ∷ []
members_of kind.Use = required name.Name Name ∷ optional name.Props Props ∷ optional name.Slots Slots ∷ []
members_of kind.Slot = required name.Name Name ∷ []
members_of kind.If = required name.Cond (Expression means.Flag) ∷ required name.Then (Child wanted.Any) ∷ optional name.Else (Child wanted.Any) ∷ []
members_of kind.Each = required name.Var Name ∷ required name.In (Expression means.List) ∷ required name.Body (Child wanted.Any) ∷ []
