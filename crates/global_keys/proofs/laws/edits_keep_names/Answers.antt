use Rattle.std.proofs.Common.{ap}
use Rattle.global_keys.specs.Named.{global_of}
use Rattle.global_keys.proofs.Naming.{kept_names, changed_keys, added_keys}
use Rattle.global_keys.proofs.laws.edits_keep_names.Goals as goal

pub returns : goal.returns
returns c = record {
  kept = λ r old new keeps. kept_names r old new (λ h. ap global_of (keeps h));
  changed = λ r old new h change changes keeps. kept_names r old new (changed_keys old new h change changes keeps);
  added = λ r old new q i h e adds none. kept_names r old new (added_keys old new q i h e adds (c.edit_laws.ensures.adds old new q i h e adds) none);
}
