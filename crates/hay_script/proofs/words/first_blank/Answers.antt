use Rattle.hay_script.proofs.Cuts.{searched}
use Rattle.hay_script.specs.Script.{is_blank}
use Rattle.hay_script.proofs.words.first_blank.Goals as goal

pub returns : goal.returns
returns c = searched is_blank c.args.line.now c.memchr2.result c.memchr2.ensures
