use Rattle.global_keys.proofs.Naming.{noted_names}
use Rattle.global_keys.proofs.laws.notes_name_new.Goals as goal

pub returns : goal.returns
returns c = λ r s old new q i h e k adds. noted_names r s old new q i h e k adds (c.edit_laws.ensures.adds old new q i h e adds)
