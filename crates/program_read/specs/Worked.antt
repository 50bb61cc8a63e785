-- Templates and programs worked by hand: what a text reads as, or where it breaks which rule first.
use Rattle.std.specs.Prelude.{◌≡◌, ℕ, List, [], codes, None, Ok, Err, pos}
use Rattle.fx_expr.specs.declared.values.Value.TheVariants as value
use Rattle.program_form.specs.declared.kinds.KindName.TheVariants as kind
use Rattle.program_form.specs.Form.{literal}
use Rattle.program_read.specs.TemplateWalk.{template_of}
use Rattle.program_form.specs.Template.{template, no_members, left_out, member, expression}
use Rattle.program_read.specs.ProgramWalk.{program_of}
use Rattle.program_read.specs.Reading.{read_as, not_json, bad_form}

-- the text reads as no template of a version, and this fault comes first; the same of version 1; the same of a program
abbrev pub stops_in : ℕ → List ℕ → ℕ → List ℕ → Type 0
stops_in version text code place = read_as (template_of version) text ≡ Err (bad_form code place)

abbrev pub stops_at : List ℕ → ℕ → List ℕ → Type 0
stops_at text code place = stops_in 1 text code place

abbrev pub refused_at : List ℕ → ℕ → List ℕ → Type 0
refused_at text code place = read_as program_of text ≡ Err (bad_form code place)

pub record Works : Type 0 where
  pub box : read_as (template_of 1) (codes "{\"w\":\"SizedBox\",\"height\":7}") ≡ Ok (template kind.SizedBox None (left_out (member (expression (literal (value.Int (pos 7)))) (left_out no_members))))
  pub no_json : read_as (template_of 1) (codes "{") ≡ Err not_json
  pub missing : stops_at (codes "{\"x\":1,\"w\":\"Text\"}") 1 []
  pub unknown : stops_at (codes "{\"x\":1,\"w\":\"Text\",\"text\":[]}") 2 []
  pub empty_list : stops_at (codes "{\"w\":\"Text\",\"text\":[]}") 6 (codes "/text")
  pub no_w : stops_at (codes "{}") 1 []
  pub w_number : stops_at (codes "{\"w\":1,\"x\":2}") 3 (codes "/w")
  pub w_other : stops_at (codes "{\"w\":\"sizedBox\",\"x\":2}") 4 []
  pub key_if : stops_at (codes "{\"w\":\"if\",\"cond\":true,\"then\":{\"w\":\"SizedBox\"},\"key\":[\"local\",1]}") 2 []
  pub key_first : stops_at (codes "{\"w\":\"Text\",\"text\":null,\"key\":[\"lokal\",null]}") 3 (codes "/key/0")
  pub nested : stops_at (codes "{\"w\":\"Row\",\"children\":[{\"w\":\"SizedBox\"},{\"w\":\"Padding\",\"child\":{\"w\":\"Text\",\"text\":1.0}}]}") 8 (codes "/children/1/child/text")
  pub slots : stops_at (codes "{\"w\":\"use\",\"name\":\"A\",\"slots\":{\"b\":{\"w\":\"SizedBox\"},\"a\":{\"w\":\"X\"}}}") 4 (codes "/slots/a")
  pub props : stops_at (codes "{\"w\":\"use\",\"name\":\"A\",\"props\":{\"b\":null,\"a/\":1}}") 7 (codes "/props")
  pub handler : stops_at (codes "{\"w\":\"Detector\",\"tap\":[[\"set\",\"n\",[\"+\",1]]]}") 6 (codes "/tap/0/2")
  pub lazy : stops_at (codes "{\"w\":\"SliverLazy\",\"x\":1}") 4 []
  pub keep : stops_in 2 (codes "{\"w\":\"Keep\",\"keep\":1}") 1 []
  pub wrap : stops_in 2 (codes "{\"w\":\"Wrap\",\"runSpacing\":[]}") 4 []
  pub runs : stops_in 3 (codes "{\"w\":\"Wrap\",\"runSpacing\":[]}") 6 (codes "/runSpacing")
  pub table : stops_in 3 (codes "{\"w\":\"Table\"}") 1 []
  pub program : refused_at (codes "{\"version\":4,\"view\":[0,1],\"root\":{\"w\":\"SizedBox\"}}") 10 (codes "/version")
  pub later : refused_at (codes "{\"version\":2,\"view\":[1,1],\"root\":{\"w\":\"Table\"}}") 4 (codes "/root")
  pub view : refused_at (codes "{\"version\":1,\"view\":[1,16777217],\"root\":{\"w\":\"SizedBox\"}}") 10 (codes "/view/1")
  pub components : refused_at (codes "{\"version\":1,\"view\":[1,1],\"components\":[{\"name\":\"A\",\"fields\":[[\"n\",\"int\"]],\"body\":1}],\"root\":1}") 6 (codes "/components/0/fields/0")
  pub body : refused_at (codes "{\"version\":1,\"view\":[1,1],\"components\":[{\"name\":\"A\",\"fields\":[[\"n\",\"int\",1]],\"body\":1}],\"root\":1}") 3 (codes "/components/0/body")
  pub root : refused_at (codes "{\"version\":1,\"view\":[1,1],\"root\":1}") 3 (codes "/root")
