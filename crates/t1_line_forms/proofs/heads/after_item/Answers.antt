use Rattle.std.proofs.Common.{◌++◌, codes}
use Rattle.t1_line_forms.specs.Forms.{counted}
use Rattle.t1_line_forms.proofs.Lines.{behind}
use Rattle.t1_line_forms.proofs.heads.after_item.Goals as goal

pub returns-in-Some : goal.returns-in-Some
returns-in-Some c = behind c.after_place.result c.args.text.now (codes "i " ++ counted c.args.strand) c.in-Some.rest.now (counted c.args.number) c.in-Some.ensures c.after_place.ensures
