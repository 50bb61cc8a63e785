-- Programs worked by hand: which rule each breaks first, and in which component.
use Rattle.std.specs.Prelude.{◌≡◌, ℕ, List, [], ◌++◌, codes, Option, Some, None, Result, Ok, Err}
use Rattle.program_form.specs.Program.{PlainProgram}
use Rattle.program_read.specs.ProgramWalk.{program_of}
use Rattle.program_read.specs.Reading.{Unread, read_as}
use Rattle.program_check.specs.Checked.{PlainChecked}
use Rattle.program_check.specs.ProgramCheck.{CheckedAt, checked_program}

-- what comes of a text: it is no program, it breaks a rule (its number), in a component (its place and the number), or it is right
pub data CheckOutcome : Type 0 where
  unread : CheckOutcome
  bad : ℕ → CheckOutcome
  bad_in : ℕ → ℕ → CheckOutcome
  right : CheckOutcome

abbrev pub of_fault : ℕ → Option ℕ → CheckOutcome
of_fault code None = bad code
of_fault code (Some place) = bad_in place code

abbrev pub of_check : CheckedAt PlainChecked → CheckOutcome
of_check (Ok c) = right
of_check (Err b) = of_fault b.code b.component

abbrev pub of_read : Result PlainProgram Unread → CheckOutcome
of_read (Ok p) = of_check (checked_program p)
of_read (Err why) = unread

-- a root alone; and after inherited names and components
abbrev pub root : List ℕ → CheckOutcome
root t = of_read (read_as program_of (codes "{\"version\":1,\"view\":[1,1],\"root\":" ++ t ++ codes "}"))

abbrev pub program : List ℕ → List ℕ → List ℕ → CheckOutcome
program names components t =
    of_read (read_as program_of (codes "{\"version\":1,\"view\":[1,1],\"inherited\":[" ++ names ++ codes "],\"components\":[" ++ components ++ codes "],\"root\":" ++ t ++ codes "}"))

-- a component's body alone, its field n and its prop p numbers, its slot s; and as it is used
abbrev pub body : List ℕ → CheckOutcome
body t = program (codes "[\"i\",\"text\",\"a\"]") (codes "{\"name\":\"A\",\"props\":[[\"p\",\"int\"]],\"fields\":[[\"n\",\"int\",1]],\"slots\":[\"s\"],\"body\":" ++ t ++ codes "}") (codes "{\"w\":\"SizedBox\"}")

abbrev pub box : List ℕ
box = codes "{\"w\":\"SizedBox\"}"

abbrev pub sliver : List ℕ
sliver = codes "{\"w\":\"SliverToBox\"}"

-- a component with a prop and a slot, and one that is a sliver
abbrev pub used : List ℕ → CheckOutcome
used t = program [] (codes "{\"name\":\"A\",\"props\":[[\"p\",\"int\"],[\"q\",\"text\"]],\"slots\":[\"s\",\"r\"],\"body\":{\"w\":\"SizedBox\"}},{\"name\":\"V\",\"body\":{\"w\":\"SliverToBox\"}}") t

pub record Checks : Type 0 where
  -- types of members, and of operands
  pub right_root : root box ≡ right
  pub no_text : root (codes "{\"w\":\"Text\",\"text\":5}") ≡ bad 3
  pub no_length : root (codes "{\"w\":\"SizedBox\",\"width\":true}") ≡ bad 3
  pub operands : root (codes "{\"w\":\"SizedBox\",\"width\":[\"+\",[\"prop\",\"p\"],true]}") ≡ bad 2
  pub operands_swapped : root (codes "{\"w\":\"SizedBox\",\"width\":[\"+\",true,[\"prop\",\"p\"]]}") ≡ bad 3
  pub members_in_order : root (codes "{\"w\":\"SizedBox\",\"height\":[\"prop\",\"p\"],\"width\":true}") ≡ bad 3
  pub members_swapped : root (codes "{\"w\":\"SizedBox\",\"width\":[\"prop\",\"p\"],\"height\":true}") ≡ bad 2
  -- names: the root sees none of its own, and may give an inherited name a value
  pub root_field : root (codes "{\"w\":\"SizedBox\",\"width\":[\"field\",\"n\"]}") ≡ bad 2
  pub root_slot : root (codes "{\"w\":\"slot\",\"name\":\"s\"}") ≡ bad 2
  pub root_inherited : program (codes "[\"i\",\"int\",1]") [] (codes "{\"w\":\"SizedBox\",\"width\":[\"inherit\",\"i\"]}") ≡ bad 2
  pub root_provides : program (codes "[\"i\",\"int\",1]") [] (codes "{\"w\":\"Inherit\",\"name\":\"i\",\"value\":2,\"child\":{\"w\":\"SizedBox\"}}") ≡ right
  pub inherit_type : program (codes "[\"i\",\"int\",1]") [] (codes "{\"w\":\"Inherit\",\"name\":\"i\",\"value\":true,\"child\":{\"w\":\"slot\",\"name\":\"s\"}}") ≡ bad 3
  pub inherit_name : program (codes "[\"i\",\"int\",1]") [] (codes "{\"w\":\"Inherit\",\"name\":\"j\",\"value\":[\"+\",true,1],\"child\":{\"w\":\"SizedBox\"}}") ≡ bad 2
  pub inherit_key : program (codes "[\"i\",\"int\",1]") [] (codes "{\"w\":\"Inherit\",\"key\":[\"global\",1],\"name\":\"j\",\"value\":1,\"child\":{\"w\":\"SizedBox\"}}") ≡ bad 3
  pub body_right : body (codes "{\"w\":\"SizedBox\",\"width\":[\"+\",[\"field\",\"n\"],[\"prop\",\"p\"]],\"child\":{\"w\":\"Text\",\"text\":[\"inherit\",\"i\"]}}") ≡ right
  pub body_slot : body (codes "{\"w\":\"SizedBox\",\"child\":{\"w\":\"slot\",\"name\":\"t\"}}") ≡ bad_in 0 2
  -- keys: before the members; a local one is a number or a text, a global one a text
  pub key_first : root (codes "{\"w\":\"SizedBox\",\"key\":[\"global\",1],\"width\":[\"field\",\"n\"]}") ≡ bad 3
  pub local_key : root (codes "{\"w\":\"SizedBox\",\"key\":[\"local\",1]}") ≡ right
  pub no_local_key : root (codes "{\"w\":\"SizedBox\",\"key\":[\"local\",true]}") ≡ bad 3
  pub member_before_child : root (codes "{\"w\":\"Padding\",\"child\":{\"w\":\"slot\",\"name\":\"s\"},\"bottom\":true}") ≡ bad 3
  -- handlers: the event, and the fields of the component
  pub event_outside : body (codes "{\"w\":\"SizedBox\",\"width\":[\"event\",\"dx\"]}") ≡ bad_in 0 2
  pub event_inside : body (codes "{\"w\":\"Detector\",\"pan\":[[\"set\",\"n\",[\"event\",\"dx\"]]]}") ≡ right
  pub set_field : body (codes "{\"w\":\"Detector\",\"tap\":[[\"set\",\"p\",[\"+\",true,1]]]}") ≡ bad_in 0 2
  pub set_type : body (codes "{\"w\":\"Detector\",\"tap\":[[\"set\",\"n\",\"a\"]]}") ≡ bad_in 0 3
  pub root_set : root (codes "{\"w\":\"Detector\",\"tap\":[[\"set\",\"n\",1]]}") ≡ bad 2
  -- children: how many widgets, then the sort, then the child
  pub root_each : root (codes "{\"w\":\"each\",\"var\":\"v\",\"in\":[\"range\",2],\"body\":{\"w\":\"SizedBox\"}}") ≡ bad 5
  pub root_if : root (codes "{\"w\":\"if\",\"cond\":true,\"then\":{\"w\":\"SizedBox\"}}") ≡ bad 5
  pub root_if_else : root (codes "{\"w\":\"if\",\"cond\":true,\"then\":{\"w\":\"SizedBox\"},\"else\":{\"w\":\"SizedBox\"}}") ≡ right
  pub root_sliver : root sliver ≡ bad 4
  pub uncertain_first : root (codes "{\"w\":\"if\",\"cond\":1,\"then\":{\"w\":\"SliverToBox\"}}") ≡ bad 5
  pub sort_before_child : root (codes "{\"w\":\"SliverPadding\",\"left\":true}") ≡ bad 4
  pub each_spliced : root (codes "{\"w\":\"Row\",\"children\":[{\"w\":\"each\",\"var\":\"v\",\"in\":[\"range\",2],\"body\":{\"w\":\"SizedBox\",\"width\":[\"var\",\"v\"]}}]}") ≡ right
  pub each_as_child : root (codes "{\"w\":\"Padding\",\"child\":{\"w\":\"each\",\"var\":\"v\",\"in\":[\"range\",2],\"body\":{\"w\":\"SizedBox\"}}}") ≡ bad 5
  pub each_as_then : root (codes "{\"w\":\"Row\",\"children\":[{\"w\":\"if\",\"cond\":true,\"then\":{\"w\":\"each\",\"var\":\"v\",\"in\":[\"range\",2],\"body\":{\"w\":\"SizedBox\"}}}]}") ≡ bad 5
  pub each_in_each : root (codes "{\"w\":\"Row\",\"children\":[{\"w\":\"each\",\"var\":\"v\",\"in\":[\"range\",2],\"body\":{\"w\":\"each\",\"var\":\"v\",\"in\":[\"range\",2],\"body\":{\"w\":\"SizedBox\"}}}]}") ≡ bad 5
  pub optional_if : root (codes "{\"w\":\"Padding\",\"child\":{\"w\":\"if\",\"cond\":true,\"then\":{\"w\":\"SizedBox\"}}}") ≡ right
  pub required_if : root (codes "{\"w\":\"Flexible\",\"child\":{\"w\":\"if\",\"cond\":true,\"then\":{\"w\":\"SizedBox\"}}}") ≡ bad 5
  pub else_sort : root (codes "{\"w\":\"Padding\",\"child\":{\"w\":\"if\",\"cond\":true,\"then\":{\"w\":\"SizedBox\"},\"else\":{\"w\":\"SliverToBox\"}}}") ≡ bad 4
  pub then_sort : root (codes "{\"w\":\"Padding\",\"child\":{\"w\":\"if\",\"cond\":1,\"then\":{\"w\":\"SliverToBox\"}}}") ≡ bad 4
  pub viewport : root (codes "{\"w\":\"Viewport\",\"children\":[{\"w\":\"SliverFixed\",\"extent\":1},{\"w\":\"SizedBox\"}]}") ≡ bad 4
  -- loops: a list, and an inner variable hides an outer one
  pub each_list : root (codes "{\"w\":\"Row\",\"children\":[{\"w\":\"each\",\"var\":\"v\",\"in\":2,\"body\":{\"w\":\"SizedBox\"}}]}") ≡ bad 3
  pub hidden : root (codes "{\"w\":\"Row\",\"children\":[{\"w\":\"each\",\"var\":\"v\",\"in\":[\"range\",2],\"body\":{\"w\":\"Row\",\"children\":[{\"w\":\"each\",\"var\":\"v\",\"in\":[\"texts\",\"a\"],\"body\":{\"w\":\"Text\",\"text\":[\"var\",\"v\"]}}]}}]}") ≡ right
  pub after_loop : root (codes "{\"w\":\"Row\",\"children\":[{\"w\":\"each\",\"var\":\"v\",\"in\":[\"range\",2],\"body\":{\"w\":\"SizedBox\"}},{\"w\":\"SizedBox\",\"width\":[\"var\",\"v\"]}]}") ≡ bad 2
  -- components: declared, and declared before; first of all that is in a template
  pub own_body : body (codes "{\"w\":\"use\",\"name\":\"A\",\"key\":[\"global\",1]}") ≡ bad_in 0 6
  pub unknown : used (codes "{\"w\":\"use\",\"name\":\"B\",\"key\":[\"global\",1]}") ≡ bad 2
  pub too_early : program [] (codes "{\"name\":\"A\",\"body\":{\"w\":\"use\",\"name\":\"B\"}},{\"name\":\"B\",\"body\":{\"w\":\"SizedBox\"}}") box ≡ bad_in 0 6
  pub declared_twice : program [] (codes "{\"name\":\"A\",\"body\":{\"w\":\"SizedBox\"}},{\"name\":\"A\",\"props\":[[\"p\",\"int\"],[\"p\",\"int\"]],\"body\":{\"w\":\"SizedBox\",\"width\":true}}") box ≡ bad_in 1 1
  pub earlier_fault : program [] (codes "{\"name\":\"A\",\"body\":{\"w\":\"SizedBox\",\"width\":true}},{\"name\":\"A\",\"body\":{\"w\":\"SizedBox\"}}") box ≡ bad_in 0 3
  pub use_right : used (codes "{\"w\":\"use\",\"name\":\"A\",\"props\":{\"q\":\"a\",\"p\":1},\"slots\":{\"r\":{\"w\":\"SizedBox\"},\"s\":{\"w\":\"SizedBox\"}}}") ≡ right
  pub use_key : used (codes "{\"w\":\"use\",\"name\":\"A\",\"key\":[\"global\",1],\"props\":{}}") ≡ bad 3
  pub missing_prop : used (codes "{\"w\":\"use\",\"name\":\"A\",\"props\":{\"p\":true}}") ≡ bad 7
  pub other_prop : used (codes "{\"w\":\"use\",\"name\":\"A\",\"props\":{\"p\":true,\"q\":\"a\",\"x\":1}}") ≡ bad 7
  pub prop_type : used (codes "{\"w\":\"use\",\"name\":\"A\",\"props\":{\"q\":[\"+\",true,[\"field\",\"n\"]],\"p\":[\"field\",\"n\"]}}") ≡ bad 2
  pub prop_order : used (codes "{\"w\":\"use\",\"name\":\"A\",\"props\":{\"q\":[\"field\",\"n\"],\"p\":true}}") ≡ bad 3
  pub slots_after : used (codes "{\"w\":\"use\",\"name\":\"A\",\"props\":{\"q\":1,\"p\":1}}") ≡ bad 3
  pub missing_slot : used (codes "{\"w\":\"use\",\"name\":\"A\",\"props\":{\"q\":\"a\",\"p\":1},\"slots\":{\"r\":{\"w\":\"SliverToBox\"}}}") ≡ bad 7
  pub slot_sliver : used (codes "{\"w\":\"use\",\"name\":\"A\",\"props\":{\"q\":\"a\",\"p\":1},\"slots\":{\"r\":{\"w\":\"SliverToBox\"},\"s\":{\"w\":\"slot\",\"name\":\"s\"}}}") ≡ bad 4
  pub use_sliver : used (codes "{\"w\":\"use\",\"name\":\"V\"}") ≡ bad 4
  pub use_in_viewport : used (codes "{\"w\":\"Viewport\",\"children\":[{\"w\":\"use\",\"name\":\"V\"}]}") ≡ right
  pub no_sort : used (codes "{\"w\":\"Viewport\",\"children\":[{\"w\":\"if\",\"cond\":true,\"then\":{\"w\":\"use\",\"name\":\"B\"},\"else\":{\"w\":\"SizedBox\"}}]}") ≡ bad 2
  -- declarations, entry by entry; defaults see nothing, and fields' values the props alone
  pub names_first : program (codes "[\"i\",\"int\",1],[\"i\",\"int\",true]") (codes "{\"name\":\"A\",\"body\":{\"w\":\"slot\",\"name\":\"s\"}}") sliver ≡ bad 1
  pub entries_in_order : program (codes "[\"i\",\"int\",true],[\"i\",\"int\",1]") [] sliver ≡ bad 3
  pub default_sees_nothing : program (codes "[\"i\",\"int\",1],[\"j\",\"int\",[\"inherit\",\"i\"]]") [] box ≡ bad 2
  pub field_sees_props : program [] (codes "{\"name\":\"A\",\"props\":[[\"p\",\"int\"]],\"fields\":[[\"n\",\"int\",[\"prop\",\"p\"]]],\"body\":{\"w\":\"SizedBox\"}}") box ≡ right
  pub field_sees_no_name : program (codes "[\"i\",\"int\",1]") (codes "{\"name\":\"A\",\"fields\":[[\"n\",\"int\",[\"inherit\",\"i\"]]],\"body\":{\"w\":\"SizedBox\"}}") box ≡ bad_in 0 2
  pub props_before_fields : program [] (codes "{\"name\":\"A\",\"props\":[[\"p\",\"int\"],[\"p\",\"int\"]],\"fields\":[[\"n\",\"int\",true]],\"body\":{\"w\":\"SizedBox\"}}") box ≡ bad_in 0 1
  pub fields_before_slots : program [] (codes "{\"name\":\"A\",\"fields\":[[\"n\",\"int\",true]],\"slots\":[\"s\",\"s\"],\"body\":{\"w\":\"SizedBox\"}}") box ≡ bad_in 0 3
  pub slots_before_body : program [] (codes "{\"name\":\"A\",\"slots\":[\"s\",\"s\"],\"body\":{\"w\":\"SizedBox\",\"width\":true}}") box ≡ bad_in 0 1
  pub components_before_root : program [] (codes "{\"name\":\"A\",\"body\":{\"w\":\"SizedBox\",\"width\":true}}") sliver ≡ bad_in 0 3
  pub body_certain : body (codes "{\"w\":\"if\",\"cond\":true,\"then\":{\"w\":\"SizedBox\"}}") ≡ bad_in 0 5
