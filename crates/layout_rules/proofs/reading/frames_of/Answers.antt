use Rattle.layout_form.specs.Framed.{last_asks}
use Rattle.kind_rules.specs.Few.{items_of}
use Rattle.layout_rules.proofs.Filling.{frames_one}
use Rattle.layout_rules.proofs.reading.frames_of.Goals as goal

pub returns-in-len1 : goal.returns-in-len1
returns-in-len1 c =
    frames_one c.args.r.now.tree (last_asks (items_of c.args.first.now) (items_of c.args.rest.now)) c.children.result.now _ (record { index = 0; generation = 0 }) c.asked_at.result c.frame_if.result
    c.in-len1.len_at_least c.in-len1.len_below c.children.ensures.value c.asked_at.ensures c.frame_if.ensures
