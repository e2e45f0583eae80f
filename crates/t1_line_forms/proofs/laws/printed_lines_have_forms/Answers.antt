use Rattle.t1_line_forms.proofs.Printed.{config_form, entry_form, block_form, item_form, end_form, commit_line_form, order_form, console_form, last_form}
use Rattle.t1_line_forms.proofs.laws.printed_lines_have_forms.Goals as goal

pub returns : goal.returns
returns c = record {
  config = config_form;
  entry = entry_form;
  block = block_form;
  item = item_form;
  end = end_form;
  commit = commit_line_form;
  order = order_form;
  console = console_form;
  last = last_form;
}
