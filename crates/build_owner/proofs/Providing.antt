-- Where a widget gives no name a value, the names have below it what they have around it.
use Rattle.std.proofs.Common.{◌≡◌, false, Option, Some, None, List, refl}
use Rattle.fx_expr.specs.declared.values.Value.{Value}
use Rattle.widget_model.specs.Plain.{PlainWidget, look_of}
use Rattle.build_form.specs.BuildRole.{BuildRole, composes, provides, keeps, lists, holds, build_role_of}
use Rattle.build_form.specs.Entering.{values_by, values_below}
use Rattle.build_owner.specs.NamesView.{provides_value, provided_value, values_after}

by_role : (r : BuildRole) (values : List Value) → provides_value r ≡ false → values ≡ values_by r values
by_role (composes place props) values none = refl
by_role (provides name value) values none = cc
by_role (keeps kept) values none = refl
by_role (lists extent) values none = refl
by_role holds values none = refl

pub same_below : (w : PlainWidget) (values : List Value) → provides_value (build_role_of (look_of w)) ≡ false → values ≡ values_below w values
same_below w values none = by_role (build_role_of (look_of w)) values none

pub same_after : (o : Option PlainWidget) (values : List Value) → provided_value o ≡ false → values ≡ values_after o values
same_after None values none = refl
same_after (Some w) values none = same_below w values none
