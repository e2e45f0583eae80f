use Rattle.std.proofs.Common.{rules}
use Rattle.t1_cli.proofs.Reports.{misformed}
use Rattle.t1_cli.proofs.input.load_image.Goals as goal

pub returns-in-Err : goal.returns-in-Err
returns-in-Err c = record {
  image = tt;
  runnable = tt;
  entry = tt;
  refused = misformed c.args.config.now c.args.input.items c.in-Err.error c.requires.short (c.in-Err.ensures.error (search rules));
}
