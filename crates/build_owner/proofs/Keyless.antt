-- Where no widget of a list has a key, none repeats.
use Rattle.std.proofs.Common.{◌≡◌, false, ◌||◌, None, List, [], ◌∷◌, ◌++◌, map, refl, sym, ap, ◌∙◌}
use Rattle.std.specs.List.{list_any}
use Rattle.std.specs.declared.alloc.Global.{Global}
use Rattle.std.specs.declared.rc.Rc.{Rc}
use Rattle.fx_expr.specs.declared.values.Value.{Value}
use Rattle.widget_keys.specs.declared.keys.Key.{Key}
use Rattle.widget_keys.specs.declared.keys.Key.TheVariants as key
use Rattle.widget_keys.specs.Key.{is_given}
use Rattle.widget_model.specs.Plain.{key_of}
use Rattle.widget_model.specs.View.{shared}
use Rattle.widget_model.specs.declared.widgets.Widget.{Widget}
use Rattle.build_form.specs.Entering.{first_repeated, unless_repeated, apart}
use Rattle.build_form.specs.Step.{Progress, gives}

none_repeated : (e ks : List (Key Value)) → list_any is_given ks ≡ false → first_repeated e ks ≡ None
none_repeated e [] none = refl
none_repeated e (key.None ∷ ks) none = none_repeated (e ++ key.None ∷ []) ks none
none_repeated e (key.Local v ∷ ks) none = cc
none_repeated e (key.Global v ∷ ks) none = cc

keys_given : (ws : List (Rc Widget Global)) → list_any (λ (w : Rc Widget Global). is_given (key_of (shared w))) ws ≡ list_any is_given (map key_of (map shared ws))
keys_given [] = refl
keys_given (w ∷ ws) = ap (λ b. is_given (key_of (shared w)) || b) (keys_given ws)

pub are_apart : (ws : List (Rc Widget Global)) (s : Progress) → list_any (λ (w : Rc Widget Global). is_given (key_of (shared w))) ws ≡ false → apart (map shared ws) s ≡ gives (map shared ws) s
are_apart ws s none = ap (λ o. unless_repeated o (map shared ws) s) (none_repeated [] (map key_of (map shared ws)) (sym (keys_given ws) ∙ none))
