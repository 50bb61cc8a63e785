use Rattle.program_check.proofs.NamingLemmas.{body_done}
use Rattle.program_check.proofs.naming.+naming.Goals as goal

pub add_in_body-returns : goal.add_in_body-returns
add_in_body-returns t c =
    body_done c.add_in_members.result c.args.body.now c.as_slice.result.now c.args.places.now.items c.add_in_key.new.places.items c.add_in_members.new.places.items
    c.as_slice.ensures.value c.in_ok-add_in_key.ensures c.add_in_members.ensures
